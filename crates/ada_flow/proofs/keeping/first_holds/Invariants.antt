use Rattle.std.proofs.Common.{◌≡◌, ◌++◌, drop, map}
use Rattle.ada_flow.specs.Flow.{first_holds}
use Rattle.ada_program.specs.ProgramForm.{variable_form}
use Rattle.ada_flow.proofs.keeping.first_holds.Given as goal

-- what is held so far, and what is left to hold, are all
abbrev pub invariant-loop-number : goal.invariant-loop-number
invariant-loop-number l =
    l.holds.items ++ first_holds (drop l.number l.modes) (map variable_form (drop l.number l.variables)) ≡ first_holds l.modes (map variable_form l.variables)
