use Rattle.std.proofs.Common.{◌≡◌, ◌++◌, drop, map}
use Rattle.ada_flow.specs.Tracking.{access_numbers}
use Rattle.ada_program.specs.Form.{component_number}
use Rattle.ada_program.specs.ProgramForm.{part_form}
use Rattle.ada_flow.proofs.tracking.access_components.Given as goal

-- what is found so far, and what is left to find, are all
abbrev pub invariant-parts : goal.invariant-parts
invariant-parts l =
    map component_number l.found.items ++ access_numbers (map part_form (drop l.part-index l.parts)) ≡ access_numbers (map part_form l.parts)
