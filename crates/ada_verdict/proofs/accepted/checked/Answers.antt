use Rattle.ada_program.specs.ProgramForm.{program_form}
use Rattle.ada_verdict.proofs.Firsts.{first_told, program_first}
use Rattle.ada_verdict.proofs.Spares.{all_spare, none_called}
use Rattle.ada_verdict.proofs.accepted.checked.Goals as goal

-- the first fault of the program of the source
pub returns-in_err-judge-clause-refused : goal.returns-in_err-judge-clause-refused
returns-in_err-judge-clause-refused c =
    first_told c.args.source.now c.in_err-judge.field-0.0 c.from_residual-in_err-judge.result
    (program_first c.args.source.now c.in_ok-program.program c.in_err-judge.field-0.0 c.in_ok-program.ensures.meant c.in_err-judge.ensures.refused)
    c.from_residual-in_err-judge.ensures.1

-- the program has passed all checks, and no body leads back to itself
pub invariant_of-result : goal.invariant_of-result
invariant_of-result c = (
  record {
    well_formed = c.in_ok-program.ensures.formed;
    in_use = c.in_ok-judge.ensures.in_use;
    nests = c.in_ok-program.ensures.nests;
    frees_own = c.in_ok-program.ensures.frees_own;
    spares_own = all_spare c.ends_spare_their_own.ensures (program_form c.in_ok-program.program) c.in_ok-judge.ensures.fine.1;
    spares_newer = c.ends_spare_newer.ensures (program_form c.in_ok-program.program) c.in_ok-judge.ensures.fine.1;
    spares_adjusted = c.adjusts_spare_their_own.ensures (program_form c.in_ok-program.program) c.in_ok-judge.ensures.fine.1;
    lets_nothing_out = none_called (program_form c.in_ok-program.program)
        (c.obeying_propagates_nothing.ensures (program_form c.in_ok-program.program) c.in_ok-judge.ensures.fine.1);
    obeys = c.in_ok-judge.ensures.fine.2;
  },
  c.in_ok-judge.ensures.back,
)

pub returns-clause-sound : goal.returns-clause-sound
returns-clause-sound c = record {
  well_formed = c.in_ok-program.ensures.formed;
  in_use = c.in_ok-judge.ensures.in_use;
  nests = c.in_ok-program.ensures.nests;
  frees_own = c.in_ok-program.ensures.frees_own;
  spares_own = all_spare c.ends_spare_their_own.ensures (program_form c.in_ok-program.program) c.in_ok-judge.ensures.fine.1;
  spares_newer = c.ends_spare_newer.ensures (program_form c.in_ok-program.program) c.in_ok-judge.ensures.fine.1;
  spares_adjusted = c.adjusts_spare_their_own.ensures (program_form c.in_ok-program.program) c.in_ok-judge.ensures.fine.1;
  lets_nothing_out = none_called (program_form c.in_ok-program.program)
      (c.obeying_propagates_nothing.ensures (program_form c.in_ok-program.program) c.in_ok-judge.ensures.fine.1);
  obeys = c.in_ok-judge.ensures.fine.2;
}
