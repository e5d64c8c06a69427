use Rattle.std.proofs.Common.{◌≡◌, Bool, ◌||◌, drop, map}
use Rattle.ada_deeds.specs.Forms.{components_do}
use Rattle.ada_deeds.specs.View.{does_found}
use Rattle.ada_deeds.specs.declared.deed.Callee.{Callee}
use Rattle.ada_deeds.specs.declared.deed.Deed.{Deed}
use Rattle.ada_program.specs.ProgramForm.{part_form}
use Rattle.ada_deeds.proofs.callees.find_in_components.Given as goal

-- what is left tells of all
abbrev pub invariant-parts : goal.invariant-parts
invariant-parts l = (d : Deed) (known : Callee → Bool) →
    (does_found l.found d known || components_do known l.operation (map part_form (drop l.part-index l.parts)))
    ≡ (does_found l.fn.found d known || components_do known l.operation (map part_form l.parts))
