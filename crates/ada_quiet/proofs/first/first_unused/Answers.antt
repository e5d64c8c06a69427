use Rattle.std.proofs.Common.{◌≡◌, false, sym, ◌∙◌}
use Rattle.std.specs.Prelude.{Result, Ok, Err, IfOk, Option}
use Rattle.ada_text.specs.declared.spot.Spot.{Spot}
use Rattle.ada_program.specs.ProgramForm.{ProgramForm, program_form}
use Rattle.ada_quiet.specs.First.{BeginsUnused, HasUnused, IsFirst}
use Rattle.ada_quiet.specs.InUse.{operations_are_idle}
use Rattle.ada_quiet.proofs.Unused.{called_first}
use Rattle.ada_quiet.proofs.first.first_unused.Goals as goal

-- what is first among those that would not be in use is so in a program whose operations are not idle
first_still : {E : Type 0} (p : ProgramForm) (found : Result (Option Spot) E) → operations_are_idle p ≡ false → IfOk found (IsFirst (BeginsUnused p))
    → IfOk found (IsFirst (HasUnused p))
first_still p (Ok a) called f = called_first p a called f
first_still p (Err e) called f = tt

pub returns-clause-first : goal.returns-clause-first
returns-clause-first c =
    first_still (program_form c.args.program.now) c.first_uncallable.result (sym c.in_ok-are_idle.ensures ∙ c.if-branch.false) c.first_uncallable.ensures.first
