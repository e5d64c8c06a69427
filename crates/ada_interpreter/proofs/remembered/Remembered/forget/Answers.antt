-- What is past is kept no more; all else stays.
use Rattle.std.proofs.Common.{refl, sym, ◌∙◌}
use Rattle.ada_untouched.specs.Past.{forgotten}
use Rattle.ada_interpreter.proofs.RememberedLemmas.{none_changed, none_forgotten, past_forgotten}
use Rattle.ada_interpreter.proofs.remembered.Remembered.forget.Goals as goal

pub returns-in_default : goal.returns-in_default
returns-in_default c = none_changed c.args.self.now.kept c.args.self.now.created forgotten c.args.o c.in_default.ensures.value refl

pub returns-then-is_past : goal.returns-then-is_past
returns-then-is_past c =
    let old = c.args.self.now in
    past_forgotten old.kept c.remove.new.self old.created c.args.o c.in-Some.object.now c.in-Some.ensures.value c.remove.ensures.updates (sym c.is_past.ensures ∙ c.if-is_past.true)

pub returns-else-is_past : goal.returns-else-is_past
returns-else-is_past c =
    let old = c.args.self.now in
    none_forgotten old.kept old.created c.args.o c.in-Some.object.now c.in-Some.ensures.value (sym c.is_past.ensures ∙ c.if-is_past.false)
