use Rattle.std.proofs.Common.{◌≡◌, ◌++◌, drop, map}
use Rattle.ada_program.specs.ProgramForm.{variable_form}
use Rattle.ada_flow.proofs.tracking.all_copied.Given as goal

-- what is copied so far, and what is left to copy, are all
abbrev pub invariant-variables : goal.invariant-variables
invariant-variables l =
    map variable_form l.copies.items ++ map variable_form (drop l.variable-index l.variables) ≡ map variable_form l.variables
