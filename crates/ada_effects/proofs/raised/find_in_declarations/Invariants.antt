use Rattle.std.proofs.Common.{◌≡◌, Bool, ◌||◌, drop, map}
use Rattle.ada_effects.specs.Effects.{declarations_raise}
use Rattle.ada_effects.specs.Found.{implicit_in, is_found, left_of}
use Rattle.ada_effects.specs.Taken.{set_of}
use Rattle.ada_program.specs.declared.program.Exception.{Exception}
use Rattle.ada_program.specs.Form.{declaration_form}
use Rattle.ada_effects.proofs.raised.find_in_declarations.Given as goal

-- what is left tells of all
abbrev pub invariant-declarations : goal.invariant-declarations
invariant-declarations l = (among : Exception → Bool) →
    (is_found l.found among || declarations_raise (implicit_in l.implicit) (left_of (set_of l.taken) among) (map declaration_form (drop l.declaration-index l.declarations)))
    ≡ (is_found l.fn.found among || declarations_raise (implicit_in l.implicit) (left_of (set_of l.taken) among) (map declaration_form l.declarations))
