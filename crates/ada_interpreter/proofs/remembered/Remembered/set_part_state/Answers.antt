-- The object of the name is the only one that changes.
use Rattle.std.proofs.Common.{◌≡◌, length, refl, ◌∙◌}
use Rattle.std.specs.Vec.{with_items}
use Rattle.std.proofs.lemmas.List.{with_items_is, length-set, map-set}
use Rattle.ada_interpreter.specs.Objects.{with_part_state}
use Rattle.ada_interpreter.specs.Treatment.{part_form}
use Rattle.ada_interpreter.proofs.RememberedLemmas.{kept_changed, none_changed}
use Rattle.ada_interpreter.proofs.remembered.Remembered.set_part_state.Goals as goal

pub returns-in-Some : goal.returns-in-Some
returns-in-Some c =
    let object = c.in-Some.object.now in
    let before = object.cell.parts in
    let as_many : length c.set_part.new.parts ≡ before.len =
    rw c.set_part.ensures (length-set c.as_mut_slice.result.now c.args.part c.args.state ∙ c.as_mut_slice.ensures.len) in
    let parts = with_items_is before c.set_part.new.parts as_many in
    let after = record object { cell = record (object.cell) { parts = with_items before c.set_part.new.parts } } in
    kept_changed c.args.self.now.kept (c.get_mut.follows.lender after) c.args.self.now.created (with_part_state c.args.part (part_form c.args.state)) c.args.o object after c.in-Some.ensures.value (c.get_mut.follows.holds after) (rw (parts, c.set_part.ensures, c.as_mut_slice.ensures.value, map-set part_form before.items c.args.part c.args.state) refl)

pub returns-in_default : goal.returns-in_default
returns-in_default c = rw c.get_mut.follows.holds-at-none (none_changed c.args.self.now.kept c.args.self.now.created (with_part_state c.args.part (part_form c.args.state)) c.args.o c.in_default.ensures.value refl)
