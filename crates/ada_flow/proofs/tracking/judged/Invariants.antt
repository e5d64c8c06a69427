use Rattle.std.proofs.Common.{◌≡◌, ◌++◌, drop, map}
use Rattle.ada_flow.specs.Tracking.{tracked_variable}
use Rattle.ada_program.specs.Form.{component_number}
use Rattle.ada_program.specs.ProgramForm.{type_form, variable_form}
use Rattle.ada_flow.proofs.tracking.judged.Given as goal

-- what is there so far, and what is left to add, are all
abbrev pub invariant-components : goal.invariant-components
invariant-components l =
    map variable_form l.all.items ++ map (tracked_variable (map type_form l.types) l.formal) (map component_number (drop l.component-index l.components))
    ≡ map variable_form l.variables ++ map (tracked_variable (map type_form l.types) l.formal) (map component_number l.components)
