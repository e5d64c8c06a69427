use Rattle.std.proofs.Common.{◌≡◌, drop}
use Rattle.ada_program.specs.Form.{handlers_form}
use Rattle.ada_program.specs.Handling.{handler_of}
use Rattle.ada_deeds.proofs.evaluations.is_taken.Given as goal

-- what is left tells of all
abbrev pub invariant-handlers : goal.invariant-handlers
invariant-handlers l = handler_of l.exception (handlers_form (drop l.handler-index l.handlers)) ≡ handler_of l.exception (handlers_form l.handlers)
