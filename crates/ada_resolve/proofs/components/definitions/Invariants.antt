use Rattle.std.proofs.Common.{◌≡◌, ◌++◌, map, drop}
use Rattle.ada_program.specs.ProgramForm.{type_form}
use Rattle.ada_resolve.specs.Kept.{known_type_form}
use Rattle.ada_resolve.proofs.components.definitions.Given as goal

-- what is left, behind what is made, makes the whole
abbrev pub invariant-loop-one : goal.invariant-loop-one
invariant-loop-one l = map type_form l.made.items ++ map known_type_form (drop l.one-index l.types) ≡ map known_type_form l.types
