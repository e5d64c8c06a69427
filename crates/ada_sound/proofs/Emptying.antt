-- A variable is freed (13.11.2), and while a Finalize of its object runs that touches storage (7.6.1), it names the object still: so it counts as lost then. Behind that it
-- is null.

use Rattle.std.proofs.Common.{◌≡◌, ◌≢◌, ◌⊎◌, ℕ, zero, suc, List, [], ◌∷◌, refl, sym, ap, subst, ◌∙◌, inl, inr}
use Rattle.std.specs.Prelude.{Bool}
use Rattle.std.specs.List.{slice_set, slice_index_or}
use Rattle.ada_program.specs.ProgramForm.{TypeForm, VariableForm}
use Rattle.ada_program.specs.WellFormed.{variable_kind}
use Rattle.ada_flow.specs.declared.rule.Hold.TheVariants as hold
use Rattle.ada_flow.specs.Flow.{Holds, hold_at}
use Rattle.ada_meaning.specs.declared.state.Id.{Id}
use Rattle.ada_meaning.specs.declared.state.Value.{Value}
use Rattle.ada_meaning.specs.declared.state.Value.TheVariants.{Null}
use Rattle.ada_meaning.specs.Named.{Object}
use Rattle.ada_owners.specs.Places.{Place, variable, component, elsewhere}
use Rattle.ada_owners.proofs.Changes.{put_blank}
use Rattle.ada_owners.proofs.Kernel.{same_or_not}
use Rattle.ada_owners.proofs.Objects.{read_same, read_other}
use Rattle.ada_sound.proofs.Fits.{Fit, IsPlace, IsSaid, Outsiders, hold_in, place_at, put_lost}
use Rattle.ada_sound.proofs.Invariant.{Unaliased}
use Rattle.ada_sound.proofs.Objects.{set_twice}

-- What stands at a place already changes nothing there.
set_own : {X : Type 0} (xs : List X) (i : ℕ) (d : X) → slice_set xs i (slice_index_or xs i d) ≡ xs
set_own [] i d = refl
set_own (x ∷ xs) zero d = refl
set_own {X} (x ∷ xs) (suc i) d = ap (λ (ys : List X). x ∷ ys) (set_own xs i d)

-- What is set to null there is null.
pub null_there : (places : List Value) (x : ℕ) → place_at (slice_set places x Null) x ≡ Null
null_there places x = elim (read_same places x Null Null) [ inl e ↦ e | inr e ↦ e ]

-- A variable that is lost is so.
lost_there : (holds : Holds) (x : ℕ) → hold_at (slice_set holds x hold.Lost) x ≡ hold.Lost
lost_there holds x = elim (read_same holds x hold.Lost hold.Lost) [ inl e ↦ e | inr e ↦ e ]

-- Another one is what it was.
lost_others : (holds : Holds) (x y : ℕ) → y ≢ x → hold_at (slice_set holds x hold.Lost) y ≡ hold_at holds y
lost_others holds x y ne = read_other holds x y hold.Lost hold.Lost ne

others_hold : (outer : Outsiders) (spared : Id → Bool) (holds : Holds) (x : ℕ) (q : Place) → q ≢ variable x → hold_in outer spared holds q ≡ hold_in outer spared (slice_set holds x hold.Lost) q
others_hold outer spared holds x (variable y) ne = sym (lost_others holds x y (λ e. ne (ap variable e)))
others_hold outer spared holds x (component o c) ne = refl
others_hold outer spared holds x (elsewhere d y) ne = refl

-- The variable is an alias of nothing, where it is lost.
pub lost_unaliased : (variables : List VariableForm) (may : ℕ → Bool) (holds : Holds) (x : ℕ) → Unaliased variables may holds → Unaliased variables may (slice_set holds x hold.Lost)
lost_unaliased variables may holds x none y t of is borrows = by (same_or_not y x)
  where
    by : (y ≡ x) ⊎ (y ≢ x) → ⊥
    by (inl e) = rw (e, lost_there holds x) at borrows
    by (inr ne) = none y t of is (rw (lost_others holds x y ne) at borrows)

module _ {types : List TypeForm} {variables : List VariableForm} {outer : Outsiders} {spared : Id → Bool} {heap : List Object} {places : List Value} {holds : Holds} (x : ℕ) where
  -- What fits with null in its place does so with what it holds still, where it is lost.
  pub lost_fit : Fit types variables outer spared heap (slice_set places x Null) holds → Fit types variables outer spared heap places (slice_set holds x hold.Lost)
  lost_fit f =
      subst (λ (values : List Value). Fit types variables outer spared heap values (slice_set holds x hold.Lost)) (set_twice places x Null (place_at places x) ∙ set_own places x Null)
      (put_lost x (place_at places x) f)

  -- And once it is null, with what was known of it before.
  pub null_again : Fit types variables outer spared heap places (slice_set holds x hold.Lost) → IsSaid (place_at outer.given x) (hold_at holds x) Null
      → (hold_at holds x ≢ hold.Lost → IsPlace types outer.referenced (variable_kind variables x) Null) → Fit types variables outer spared heap (slice_set places x Null) holds
  null_again f is place = record {
    owners = put_blank x Null (hold_in outer spared holds) (others_hold outer spared holds x) f.owners (λ o e. cc e);
    said = λ y. said (same_or_not y x);
    objects = λ y ne. object (same_or_not y x) ne;
    referred = f.referred;
  }
    where
      said : {y : ℕ} → (y ≡ x) ⊎ (y ≢ x) → IsSaid (place_at outer.given y) (hold_at holds y) (place_at (slice_set places x Null) y)
      said (inl e) = rw (e, null_there places x) is
      said {y} (inr ne) = rw (read_other places x y Null Null ne) (rw (lost_others holds x y ne) at (f.said y))

      object : {y : ℕ} → (y ≡ x) ⊎ (y ≢ x) → hold_at holds y ≢ hold.Lost → IsPlace types outer.referenced (variable_kind variables y) (place_at (slice_set places x Null) y)
      object (inl e) ne = rw (e, null_there places x) (place (rw e at ne))
      object {y} (inr other) ne = rw (read_other places x y Null Null other) (f.objects y (rw (lost_others holds x y other) ne))
