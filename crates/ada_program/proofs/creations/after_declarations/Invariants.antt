use Rattle.std.proofs.Common.{◌≡◌, Some, map, drop}
use Rattle.ada_program.specs.Created.{seen_after}
use Rattle.ada_program.specs.Form.{declaration_form}
use Rattle.ada_program.specs.WellFormed.{creation}
use Rattle.ada_program.proofs.creations.after_declarations.Given as goal

-- what is left tells of all
abbrev pub invariant-declarations : goal.invariant-declarations
invariant-declarations l =
    seen_after (Some l.seen) (map creation (map declaration_form (drop l.declaration-index l.declarations)))
    ≡ seen_after (Some l.fn.seen) (map creation (map declaration_form l.declarations))
