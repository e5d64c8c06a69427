use Rattle.std.proofs.Common.{◌∷◌, map, refl}
use Rattle.ada_tree.specs.Records.{component_of}
use Rattle.ada_resolve.specs.Kept.{composition_in, kept_from}
use Rattle.ada_resolve.specs.View.{known_of}
use Rattle.ada_resolve.proofs.ComponentLists.{meant_at, remark_at, step_meant, step_remark}
use Rattle.ada_resolve.proofs.resolver.Resolver.component_list.Goals as goal

pub loop-definition-init : goal.loop-definition-init
loop-definition-init c =
    let k = known_of c.args.self.now in
    let one = component_of c.args.first.now in
    let rest = map component_of c.args.rest.now in
    let before = composition_in c.args.before in
    let made = c.in_ok-component.ensures.meant in
    let told = c.in_ok-component.ensures.remark in
    record {
      meant = step_meant k before (composition_in c.component.new.components) (kept_from k before (one ∷ rest)) one rest (one ∷ rest) made refl refl;
      remark = step_remark k before (composition_in c.component.new.components) one rest (one ∷ rest) c.args.notes.now c.component.new.notes _ made refl told refl;
    }

pub loop-definition-preserved : goal.loop-definition-preserved
loop-definition-preserved c =
    let k = known_of c.args.self.now in
    let before = composition_in c.loop-definition.components in
    let after = composition_in c.component-in-loop-definition.new.components in
    record {
      meant = meant_at k before after _ c.loop-definition.definition-index _ c.args.rest.now c.loop-definition-test.true c.in_ok-component-2.ensures.meant c.loop-definition.invariant.meant;
      remark = remark_at k before after c.loop-definition.definition-index _ c.args.rest.now c.loop-definition.notes c.component-in-loop-definition.new.notes _ c.loop-definition-test.true c.in_ok-component-2.ensures.meant c.in_ok-component-2.ensures.remark c.loop-definition.invariant.remark;
    }
