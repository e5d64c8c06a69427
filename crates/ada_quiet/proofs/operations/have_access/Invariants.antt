use Rattle.std.proofs.Common.{◌≡◌, map, drop}
use Rattle.std.specs.List.{list_any}
use Rattle.ada_program.specs.ProgramForm.{part_form}
use Rattle.ada_quiet.specs.Quiet.{is_of_access}
use Rattle.ada_quiet.proofs.operations.have_access.Given as goal

-- what is left tells of all
abbrev pub invariant-parts : goal.invariant-parts
invariant-parts l =
    list_any (λ c. is_of_access c.kind) (map part_form (drop l.part-index l.parts)) ≡ list_any (λ c. is_of_access c.kind) (map part_form l.parts)
