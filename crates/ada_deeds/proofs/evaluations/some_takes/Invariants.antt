use Rattle.std.proofs.Common.{◌≡◌, drop}
use Rattle.ada_program.specs.Handling.{some_takes}
use Rattle.ada_deeds.proofs.evaluations.some_takes.Given as goal

-- what is left tells of all
abbrev pub invariant-choices : goal.invariant-choices
invariant-choices l = some_takes l.exception (drop l.choice-index l.choices) ≡ some_takes l.exception l.choices
