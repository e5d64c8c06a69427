use Rattle.std.proofs.Common.{◌≡◌, drop, map}
use Rattle.std.specs.List.{list_any}
use Rattle.ada_deeds.specs.Begins.{begins_in}
use Rattle.ada_deeds.specs.declared.deed.Deed.TheVariants as deed
use Rattle.ada_program.specs.Kept.{types_in}
use Rattle.ada_program.specs.ProgramForm.{body_form}
use Rattle.ada_deeds.proofs.begins.begins_among.Given as goal

-- what is left tells of all
abbrev pub invariant-procedures : goal.invariant-procedures
invariant-procedures l =
    list_any (begins_in (types_in l.types) (deed.Raises l.exception)) (map body_form (drop l.procedure-index l.procedures))
    ≡ list_any (begins_in (types_in l.types) (deed.Raises l.exception)) (map body_form l.procedures)
