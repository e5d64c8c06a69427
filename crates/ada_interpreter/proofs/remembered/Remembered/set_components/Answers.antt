-- The object of the name is the only one that changes.
use Rattle.std.proofs.Common.{◌≡◌, [], length, refl, ◌∙◌, arith}
use Rattle.std.specs.Vec.{with_items}
use Rattle.std.proofs.lemmas.List.{with_items_is}
use Rattle.ada_interpreter.specs.Objects.{filled_from}
use Rattle.ada_interpreter.proofs.RecordLemmas.{length-set_from, set_from_past}
use Rattle.ada_interpreter.proofs.RememberedLemmas.{kept_changed, none_changed}
use Rattle.ada_interpreter.proofs.remembered.Remembered.set_components.Goals as goal

pub returns-in-Some : goal.returns-in-Some
returns-in-Some c =
    let object = c.in-Some.object.now in
    let before = object.cell.values in
    let as_many : length c.set_values.new.values ≡ before.len =
    rw c.set_values.ensures (length-set_from c.as_mut_slice.result.now c.args.first.0 c.args.values.now ∙ c.as_mut_slice.ensures.len) in
    let values = with_items_is before c.set_values.new.values as_many in
    let after = record object { cell = record (object.cell) { values = with_items before c.set_values.new.values } } in
    kept_changed c.args.self.now.kept (c.get_mut.follows.lender after) c.args.self.now.created (filled_from c.args.first.0 c.args.values.now) c.args.o object after c.in-Some.ensures.value (c.get_mut.follows.holds after) (rw (values, c.set_values.ensures, c.as_mut_slice.ensures.value) refl)

pub returns-in_default : goal.returns-in_default
returns-in_default c = rw c.get_mut.follows.holds-at-none (none_changed c.args.self.now.kept c.args.self.now.created (filled_from c.args.first.0 c.args.values.now) c.args.o c.in_default.ensures.value (rw (set_from_past [] c.args.first.0 c.args.values.now (omega arith)) refl))
