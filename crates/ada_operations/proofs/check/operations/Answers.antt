use Rattle.std.proofs.Common.{sym, ◌∙◌}
use Rattle.ada_operations.proofs.Proved.{nothing_called, quiet_obey}
use Rattle.ada_program.specs.ProgramForm.{program_form}
use Rattle.ada_operations.proofs.check.operations.Goals as goal

-- nothing to examine
pub returns-then-quiet-clause-obey : goal.returns-then-quiet-clause-obey
returns-then-quiet-clause-obey c = quiet_obey (program_form c.args.program.now) c.requires (sym c.in_ok-quiet.ensures ∙ c.if-quiet.true)

-- nothing is done
pub returns-then-quiet-clause-known : goal.returns-then-quiet-clause-known
returns-then-quiet-clause-known c =
    c.nothing.ensures ∙ sym (nothing_called (program_form c.args.program.now) c.requires (sym c.in_ok-quiet.ensures ∙ c.if-quiet.true))
