use Rattle.std.proofs.Common.{◌≡◌, Bool, ◌||◌, drop, map}
use Rattle.ada_deeds.specs.Forms.{leaving_does}
use Rattle.ada_deeds.specs.View.{does_found}
use Rattle.ada_deeds.specs.declared.deed.Callee.{Callee}
use Rattle.ada_deeds.specs.declared.deed.Deed.{Deed}
use Rattle.ada_program.specs.Form.{declaration_form}
use Rattle.ada_program.specs.Kept.{types_in}
use Rattle.ada_deeds.proofs.walk.find_in_leaving.Given as goal

-- what is left tells of all
abbrev pub invariant-declarations : goal.invariant-declarations
invariant-declarations l = (d : Deed) (known : Callee → Bool) →
    (does_found l.found d known || leaving_does (types_in l.types) known (map declaration_form (drop l.declaration-index l.declarations)))
    ≡ (does_found l.fn.found d known || leaving_does (types_in l.types) known (map declaration_form l.declarations))
