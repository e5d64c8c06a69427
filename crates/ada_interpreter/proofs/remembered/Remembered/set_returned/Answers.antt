-- The object of the name is the only one that changes.
use Rattle.std.proofs.Common.{false, refl}
use Rattle.ada_meaning.specs.Named.{returned}
use Rattle.ada_interpreter.proofs.RememberedLemmas.{kept_changed, none_changed}
use Rattle.ada_interpreter.proofs.remembered.Remembered.set_returned.Goals as goal

pub returns-in-Some : goal.returns-in-Some
returns-in-Some c =
    let object = c.in-Some.object.now in
    let after = record object { out = false } in
    kept_changed c.args.self.now.kept (c.get_mut.follows.lender after) c.args.self.now.created returned c.args.o object after c.in-Some.ensures.value (c.get_mut.follows.holds after) refl

pub returns-in_default : goal.returns-in_default
returns-in_default c = rw c.get_mut.follows.holds-at-none (none_changed c.args.self.now.kept c.args.self.now.created returned c.args.o c.in_default.ensures.value refl)
