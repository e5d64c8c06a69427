use Rattle.std.proofs.Common.{◌≡◌, Bool, ◌||◌, drop, map}
use Rattle.ada_deeds.specs.Forms.{declarations_do}
use Rattle.ada_deeds.specs.View.{does_found, sought}
use Rattle.ada_deeds.specs.declared.deed.Callee.{Callee}
use Rattle.ada_deeds.specs.declared.deed.Deed.{Deed}
use Rattle.ada_program.specs.Form.{declaration_form}
use Rattle.ada_program.specs.Kept.{types_in, variables_in}
use Rattle.ada_deeds.proofs.walk.find_in_declarations.Given as goal

-- what is left tells of all
abbrev pub invariant-declarations : goal.invariant-declarations
invariant-declarations l = (d : Deed) (known : Callee → Bool) →
    (does_found l.found (sought l.search d) known || declarations_do (types_in l.types) (variables_in l.variables) known (sought l.search d) (map declaration_form (drop l.declaration-index l.declarations)))
    ≡ (does_found l.fn.found (sought l.search d) known || declarations_do (types_in l.types) (variables_in l.variables) known (sought l.search d) (map declaration_form l.declarations))
