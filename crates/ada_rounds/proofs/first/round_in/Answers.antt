use Rattle.std.proofs.Common.{sym, subst}
use Rattle.std.specs.Prelude.{Option, Some}
use Rattle.ada_program.specs.declared.program.Finalization.{Finalization}
use Rattle.ada_program.specs.ProgramForm.{program_form}
use Rattle.ada_quiet.specs.First.{IsFirst}
use Rattle.ada_rounds.specs.FirstRound.{HasRoundIn}
use Rattle.ada_rounds.proofs.Asking.{first_in}
use Rattle.ada_rounds.proofs.first.round_in.Goals as goal

-- the first one of both
pub returns : goal.returns
returns c =
    let p = program_form c.args.program.now in
    subst (λ (o : Option Finalization). IsFirst (HasRoundIn p o) c.first_of.result) (sym c.in-Some.is)
    (subst (IsFirst (HasRoundIn p (Some c.in-Some.finalization))) (sym c.first_of.ensures)
    (first_in p c.in-Some.finalization c.in_ok-initialize.initialize c.in_ok-adjust.adjust c.in_ok-initialize.ensures c.in_ok-adjust.ensures))
