-- Once those of the variables that are left are laid, those of all are.
use Rattle.std.proofs.Common.{◌≡◌, ◌++◌, map, drop}
use Rattle.ada_program.specs.ProgramForm.{variable_form}
use Rattle.ada_meaning.specs.Step.{blanks}
use Rattle.ada_meaning.specs.Named.{named}
use Rattle.ada_interpreter.proofs.given.lay_blanks.Given as goal

abbrev pub invariant-loop-variable : goal.invariant-loop-variable
invariant-loop-variable l =
    l.places.items ++ blanks named (map variable_form (drop l.variable-index l.variables)) ≡ l.fn.places.items ++ blanks named (map variable_form l.variables)
