use Rattle.std.proofs.Common.{◌≡◌, ℕ, ◌||◌, drop, map}
use Rattle.ada_effects.specs.Effects.{declarations_free}
use Rattle.ada_effects.specs.Found.{implicit_in, has_number}
use Rattle.ada_program.specs.Form.{declaration_form}
use Rattle.ada_effects.proofs.frees.free_in_declarations.Given as goal

-- what is left tells of all
abbrev pub invariant-declarations : goal.invariant-declarations
invariant-declarations l = (t : ℕ) →
    (has_number l.freed.list.items t || declarations_free (implicit_in l.implicit) t (map declaration_form (drop l.declaration-index l.declarations)))
    ≡ (has_number l.fn.freed.list.items t || declarations_free (implicit_in l.implicit) t (map declaration_form l.declarations))
