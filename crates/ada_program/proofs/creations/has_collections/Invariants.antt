use Rattle.std.proofs.Common.{◌≡◌, map, drop}
use Rattle.ada_program.specs.Kept.{all_creations}
use Rattle.ada_program.specs.ProgramForm.{type_form}
use Rattle.ada_program.specs.WellFormed.{has_collections}
use Rattle.ada_program.proofs.creations.has_collections.Given as goal

-- what is left tells of all
abbrev pub invariant-loop-access : goal.invariant-loop-access
invariant-loop-access l =
    has_collections (all_creations l.program) l.access (map type_form (drop l.access l.program.types.items))
    ≡ has_collections (all_creations l.program) 0 (map type_form l.program.types.items)
