-- No handler in front takes the exception.
use Rattle.std.proofs.Common.{◌≡◌, drop}
use Rattle.ada_program.specs.Form.{handlers_form}
use Rattle.ada_program.specs.Handling.{handler_of}
use Rattle.ada_interpreter.proofs.handling.landing_among.Given as goal

abbrev pub invariant-loop-handler : goal.invariant-loop-handler
invariant-loop-handler l = handler_of l.exception (handlers_form (drop l.handler-index l.handlers)) ≡ handler_of l.exception (handlers_form l.handlers)
