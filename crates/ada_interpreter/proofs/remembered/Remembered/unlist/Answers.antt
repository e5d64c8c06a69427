-- The object of the name is the only one that changes.
use Rattle.std.proofs.Common.{false, refl, ◌∙◌, arith}
use Rattle.ada_meaning.specs.Named.{parted}
use Rattle.ada_interpreter.proofs.RememberedLemmas.{kept_changed, none_changed, kept_at_name, none_at_name, none_beyond}
use Rattle.ada_interpreter.proofs.remembered.Remembered.unlist.Goals as goal

pub returns-then-o-self-clause-home : goal.returns-then-o-self-clause-home
returns-then-o-self-clause-home c = rw (none_beyond c.args.self.now.kept c.args.self.now.created c.args.o (omega arith)) refl

pub returns-then-o-self-clause-parted : goal.returns-then-o-self-clause-parted
returns-then-o-self-clause-parted c = rw (none_beyond c.args.self.now.kept c.args.self.now.created c.args.o (omega arith)) refl

pub returns-in_err-object-clause-home : goal.returns-in_err-object-clause-home
returns-in_err-object-clause-home c = c.from_residual.ensures ∙ rw (none_at_name c.args.self.now.kept c.args.self.now.created c.args.o (omega arith) c.in_err-object.ensures.value) refl

pub returns-in_err-object-clause-parted : goal.returns-in_err-object-clause-parted
returns-in_err-object-clause-parted c = rw c.get_mut.follows.holds-at-none (none_changed c.args.self.now.kept c.args.self.now.created parted c.args.o c.in_err-object.ensures.value refl)

pub returns-then-was_listed-clause-home : goal.returns-then-was_listed-clause-home
returns-then-was_listed-clause-home c =
    rw (kept_at_name c.args.self.now.kept c.args.self.now.created c.args.o c.in_ok-object.object.now (omega arith) c.in_ok-object.ensures.value, c.if-was_listed.true) refl

pub returns-then-was_listed-clause-parted : goal.returns-then-was_listed-clause-parted
returns-then-was_listed-clause-parted c =
    let object = c.in_ok-object.object.now in
    let after = record object { listed = false } in
    kept_changed c.args.self.now.kept (c.get_mut.follows.lender after) c.args.self.now.created parted c.args.o object after c.in_ok-object.ensures.value (c.get_mut.follows.holds after) refl

pub returns-else-was_listed-clause-home : goal.returns-else-was_listed-clause-home
returns-else-was_listed-clause-home c =
    rw (kept_at_name c.args.self.now.kept c.args.self.now.created c.args.o c.in_ok-object.object.now (omega arith) c.in_ok-object.ensures.value, c.if-was_listed.false) refl

pub returns-else-was_listed-clause-parted : goal.returns-else-was_listed-clause-parted
returns-else-was_listed-clause-parted c =
    let object = c.in_ok-object.object.now in
    let after = record object { listed = false } in
    kept_changed c.args.self.now.kept (c.get_mut.follows.lender after) c.args.self.now.created parted c.args.o object after c.in_ok-object.ensures.value (c.get_mut.follows.holds after) refl
