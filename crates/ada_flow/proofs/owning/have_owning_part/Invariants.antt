use Rattle.std.proofs.Common.{◌≡◌, drop, map}
use Rattle.std.specs.List.{list_any}
use Rattle.ada_flow.specs.Flow.{is_owning_part}
use Rattle.ada_program.specs.ProgramForm.{part_form}
use Rattle.ada_flow.proofs.owning.have_owning_part.Given as goal

-- what is left tells of all
abbrev pub invariant-parts : goal.invariant-parts
invariant-parts l =
    list_any (λ p. is_owning_part p.kind) (map part_form (drop l.part-index l.parts)) ≡ list_any (λ p. is_owning_part p.kind) (map part_form l.parts)
