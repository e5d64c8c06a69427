use Rattle.std.proofs.Common.{◌≡◌, ◌++◌, map, drop}
use Rattle.ada_flow.specs.Reached.{component_types}
use Rattle.ada_program.specs.ProgramForm.{part_form}
use Rattle.ada_flow.proofs.reached.component_types.Given as goal

-- what is found and what is left are all
abbrev pub invariant-parts : goal.invariant-parts
invariant-parts l = l.found.items ++ component_types (map part_form (drop l.part-index l.parts)) ≡ component_types (map part_form l.parts)
