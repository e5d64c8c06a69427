use Rattle.std.proofs.Common.{◌≡◌, map, drop}
use Rattle.ada_program.specs.Form.{declaration_form}
use Rattle.ada_program.specs.Kept.{types_in}
use Rattle.ada_quiet.specs.Idle.{declarations_make_parts}
use Rattle.ada_quiet.proofs.idle.declarations_make_parts.Given as goal

-- what is left tells of all
abbrev pub invariant-declarations : goal.invariant-declarations
invariant-declarations l =
    declarations_make_parts (types_in l.types) l.copies (map declaration_form (drop l.declaration-index l.declarations))
    ≡ declarations_make_parts (types_in l.types) l.copies (map declaration_form l.declarations)
