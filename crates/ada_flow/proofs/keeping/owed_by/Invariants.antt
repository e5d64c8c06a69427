use Rattle.std.proofs.Common.{◌≡◌, ◌++◌, drop, map}
use Rattle.ada_flow.specs.Flow.{owed_from}
use Rattle.ada_flow.specs.Told.{variable_number}
use Rattle.ada_program.specs.ProgramForm.{variable_form}
use Rattle.ada_flow.proofs.keeping.owed_by.Given as goal

-- what is found so far, and what is left to find, are all
abbrev pub invariant-loop-number : goal.invariant-loop-number
invariant-loop-number l =
    map variable_number l.owed.items ++ owed_from l.number (drop l.number l.formals) (map variable_form (drop l.number l.variables)) ≡ owed_from 0 l.formals (map variable_form l.variables)
