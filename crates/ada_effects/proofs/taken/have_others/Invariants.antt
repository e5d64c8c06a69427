use Rattle.std.proofs.Common.{◌≡◌, drop}
use Rattle.ada_effects.specs.Taken.{have_others}
use Rattle.ada_program.specs.Form.{handlers_form}
use Rattle.ada_effects.proofs.taken.have_others.Given as goal

-- what is left tells of all
abbrev pub invariant-handlers : goal.invariant-handlers
invariant-handlers l = have_others (handlers_form (drop l.handler-index l.handlers)) ≡ have_others (handlers_form l.handlers)
