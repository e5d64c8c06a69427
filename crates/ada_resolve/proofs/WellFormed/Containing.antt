-- Records that lie in others lie there still as types are added.

use Rattle.std.proofs.Common.{◌≡◌, ◌∙◌, ℕ, Bool, true, ◌==◌, List, refl, arith}
use Rattle.std.specs.Prelude.{Option, Some, None}
use Rattle.std.specs.List.{slice_get}
use Rattle.ada_program.specs.Parts.{has_component_among, HasPart, itself, within}
use Rattle.ada_program.specs.ProgramForm.{TypeForm, record_of, access_to, object_of}
use Rattle.ada_program.specs.WellFormed as fits
use Rattle.ada_program.proofs.Deep.{is_part, part_is, record_there}
use Rattle.ada_resolve.proofs.WellFormed.Forms.{AreIn, bare, forms, longer_types, same_at}

-- the components of a type, without its pool and its operations
component_bare : (among : ℕ → Bool) (x : TypeForm) → has_component_among among (Some (bare x)) ≡ has_component_among among (Some x)
component_bare among (record_of name ps cs final) = refl
component_bare among (access_to name d pool) = refl
component_bare among (object_of r) = refl

module _ (types more : List TypeForm) (ts : AreIn (forms types) (forms more)) where
  component_stays : (among : ℕ → Bool) (t : ℕ) → has_component_among among (slice_get types t) ≡ true → has_component_among among (slice_get more t) ≡ true
  component_stays among t e = by_form (slice_get types t) refl e
    where
      by_form : (o : Option TypeForm) → slice_get types t ≡ o → has_component_among among o ≡ true → has_component_among among (slice_get more t) ≡ true
      by_form None is e = absurd (cc e)
      by_form (Some x) is e = same_at types more ts (has_component_among among) (component_bare among) t x is ∙ e

  part_stays : (t d : ℕ) → HasPart types t d → HasPart more t d
  part_stays t d itself = itself
  part_stays t d (within {component} {whole} h e) = within (part_stays t component h) (component_stays (λ u. u == component) whole e)

  -- so the test stays true
  pub is_part_stays : (t : ℕ) (o : Option ℕ) → fits.is_record types t ≡ true → fits.is_part_of types t o ≡ true → fits.is_part_of more t o ≡ true
  is_part_stays t None r e = absurd (cc e)
  is_part_stays t (Some d) r e =
      let there = record_there types t r in
      let long = longer_types types more ts in
      is_part more t d (omega (arith, there, long)) (part_stays t d (part_is types t d e))
