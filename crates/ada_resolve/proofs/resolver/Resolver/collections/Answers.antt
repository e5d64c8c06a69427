use Rattle.std.proofs.Common.{◌∙◌, sym, ap}
use Rattle.ada_resolve.specs.View.{known_of}
use Rattle.ada_resolve.specs.Objects.{missing_collections}
use Rattle.ada_resolve.proofs.Collections.{one_made, none_made}
use Rattle.ada_resolve.proofs.resolver.Resolver.collections.Goals as goal
use Rattle.ada_resolve.proofs.resolver.Resolver.collections.Goals.{then-lacks_collection+in_ok-push, else-lacks_collection}

-- one more type is looked at
pub loop-i-preserved : goal.loop-i-preserved
loop-i-preserved c =
    let k = known_of c.args.self.now in
    elim c.if-lacks_collection.branch [
      | then-lacks_collection+in_ok-push w ↦
          one_made c.loop-i.made.items c.if-lacks_collection.made.items k.types k.here.elaborated (missing_collections k) c.loop-i.i
          (sym c.lacks_collection.ensures ∙ w.if-lacks_collection.true) (ap (λ made. made.items) w.made-is ∙ w.in_ok-push.ensures.items) c.loop-i.invariant
      | else-lacks_collection w ↦
          none_made c.loop-i.made.items c.if-lacks_collection.made.items k.types k.here.elaborated (missing_collections k) c.loop-i.i
          (sym c.lacks_collection.ensures ∙ w.if-lacks_collection.false) (ap (λ made. made.items) w.made-is) c.loop-i.invariant
    ]
