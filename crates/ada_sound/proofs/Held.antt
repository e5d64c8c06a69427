-- What an operation is called for is held while its body runs (7.6, 7.6.1), as if a variable owned it: so nothing else comes to own it.

use Rattle.std.proofs.Common.{◌≡◌, ◌≢◌, ℕ, zero, suc, Bool, true, false, List, [], ◌∷◌, refl, sym, ap, subst, ◌∙◌, ◌⊎◌, inl, inr, arith}
use Rattle.std.specs.Prelude.{Option, Some, None}
use Rattle.std.specs.List.{slice_get, slice_set}
use Rattle.ada_program.specs.ProgramForm.{TypeForm, VariableForm}
use Rattle.ada_program.specs.declared.program.VariableKind.TheVariants as variable_kinds
use Rattle.ada_flow.specs.declared.rule.Hold.{Hold}
use Rattle.ada_flow.specs.declared.rule.Hold.TheVariants as hold
use Rattle.ada_flow.specs.declared.rule.Region.TheVariants.{Whole}
use Rattle.ada_flow.specs.Flow.{Holds, hold_at}
use Rattle.ada_meaning.specs.declared.state.Id.{Id}
use Rattle.ada_meaning.specs.declared.state.Value.{Value}
use Rattle.ada_meaning.specs.declared.state.Value.TheVariants.{Null, Names, Scalar, Part}
use Rattle.ada_meaning.specs.Named.{Object}
use Rattle.ada_owners.specs.Places.{Place, variable, component, elsewhere, value_at, access_at}
use Rattle.ada_owners.specs.Reliance.{Says, Owns, Borrows, IsInHand, kind_of}
use Rattle.ada_owners.proofs.Ends.{IsUnnamed}
use Rattle.ada_owners.proofs.Kernel.{lost_owns, same_id, same_or_not}
use Rattle.ada_owners.proofs.Objects.{read_same, read_other}
use Rattle.ada_sound.proofs.Fits.{Outer, Outsiders, Fit, Hand, IsRelied, kinds_of, stacked, hold_in, none_spared, outer_access, outer_hold, outer_value, place_at}
use Rattle.ada_sound.proofs.Invariant.{held_first}

-- A variable of this access type that owns an object.
abbrev pub holder : Id → (access : ℕ) → Outer
holder o t = record {
  variables = record { name = []; spot = record { line = 0; column = 0 }; kind = variable_kinds.Access (record { 0 = t }); borrows = false } ∷ [];
  places = Names o ∷ [];
  holds = hold.Own Whole ∷ [];
}

-- The object is held, or it is not.
abbrev pub holder_if : Bool → Id → (access : ℕ) → Option Outer
holder_if false o t = None
holder_if true o t = Some (holder o t)

-- What is outside of the running activation, if something is held for it.
abbrev pub with_held : Option Outer → Outsiders → Outsiders
with_held held outer = record outer { suspended = held_first held outer.suspended }

module _ (types : List TypeForm) (variables : List VariableForm) (outer : Outsiders) (spared : Id → Bool) (heap : List Object) (places : List Value) (holds : Holds) (o : Id) (t : ℕ) where
  abbrev also : Outsiders
  also = with_held (Some (holder o t)) outer

  -- Where each place is then.
  abbrev behind : Place → Place
  behind (variable x) = variable x
  behind (component k c) = component k c
  behind (elsewhere d x) = elsewhere (suc d) x

  abbrev before : Place → Place
  before (variable x) = variable x
  before (component k c) = component k c
  before (elsewhere zero x) = elsewhere zero x
  before (elsewhere (suc d) x) = elsewhere d x

  there_and_back : (p : Place) → before (behind p) ≡ p
  there_and_back (variable x) = refl
  there_and_back (component k c) = refl
  there_and_back (elsewhere d x) = refl

  behind_names : (p : Place) (k : Id) → value_at heap (stacked places outer) p ≡ Names k → value_at heap (stacked places also) (behind p) ≡ Names k
  behind_names (variable x) k names = names
  behind_names (component i c) k names = names
  behind_names (elsewhere zero x) k names = names
  behind_names (elsewhere (suc d) x) k names = names

  behind_owns : (p : Place) → Owns (hold_in outer spared holds p) → Owns (hold_in also spared holds (behind p))
  behind_owns (variable x) own = own
  behind_owns (component i c) own = own
  behind_owns (elsewhere zero x) own = own
  behind_owns (elsewhere (suc d) x) own = own

  -- None of them is the one that holds the object.
  other_place : (p : Place) → behind p ≡ elsewhere zero zero → ⊥
  other_place (variable x) e = cc e
  other_place (component i c) e = cc e
  other_place (elsewhere d x) e = let none : suc d ≡ zero = cc e in omega (arith, none)

  -- Where nothing owns the object, it can be held.
  module _ (f : Fit types variables outer spared heap places holds) (hand : Hand types variables outer spared heap places holds (Some t) (Names o)) where
    abbrev OwnerIs : Place → Id → Type 0
    OwnerIs p k =
        ((p ≡ elsewhere zero zero) × (k ≡ o)) ⊎ ((q : Place) × (p ≡ behind q) × Owns (hold_in outer spared holds q) × (value_at heap (stacked places outer) q ≡ Names k))

    owner_is : (p : Place) (k : Id) → Owns (hold_in also spared holds p) → value_at heap (stacked places also) p ≡ Names k → OwnerIs p k
    owner_is (variable x) k own names = inr (variable x, refl, own, names)
    owner_is (component i c) k own names = inr (component i c, refl, own, names)
    owner_is (elsewhere zero zero) k own names = inl (refl, cc names)
    owner_is (elsewhere zero (suc x)) k own names = absurd own
    owner_is (elsewhere (suc zero) x) k own names = inr (elsewhere zero x, refl, own, names)
    owner_is (elsewhere (suc (suc d)) x) k own names = inr (elsewhere (suc d) x, refl, own, names)

    same_owner : (p q : Place) (k : Id) → OwnerIs p k → OwnerIs q k → p ≡ q
    same_owner p q k (inl a) (inl b) = a.0 ∙ sym b.0
    same_owner p q k (inl a) (inr b) = absurd (hand.hand.free o refl b.0 b.2 (b.3 ∙ ap Names a.1))
    same_owner p q k (inr a) (inl b) = absurd (hand.hand.free o refl a.0 a.2 (a.3 ∙ ap Names b.1))
    same_owner p q k (inr a) (inr b) = a.1 ∙ (ap behind (f.owners.fit.apart a.0 b.0 k a.2 b.2 a.3 b.3) ∙ sym b.1)

    relied_also : (p : Place) (k : Id) → value_at heap (stacked places also) p ≡ Names k → Says (access_at heap) (hold_in also spared holds p) (kind_of (kinds_of types variables also) (access_at heap) p) k
    relied_also (variable x) k names = f.owners.fit.relied (variable x) k names
    relied_also (component i c) k names = f.owners.fit.relied (component i c) k names
    relied_also (elsewhere zero zero) k names = let same : o ≡ k = cc names in rw (← same) (hand.hand.right o refl)
    relied_also (elsewhere zero (suc x)) k names = tt
    relied_also (elsewhere (suc zero) x) k names = f.owners.fit.relied (elsewhere zero x) k names
    relied_also (elsewhere (suc (suc d)) x) k names = f.owners.fit.relied (elsewhere (suc d) x) k names

    held_fit : Fit types variables also spared heap places holds
    held_fit = record {
      owners = record { fit = record { relied = relied_also; apart = λ p q k a b c d. same_owner p q k (owner_is p k a c) (owner_is q k b d) } };
      said = f.said;
      objects = f.objects;
      referred = f.referred;
    }

  -- Where it is held, nothing else owns it, and other places are as they are relied on to be.
  module _ (f : Fit types variables also spared heap places holds) where
    relied_before : (p : Place) (k : Id) → value_at heap (stacked places outer) p ≡ Names k → Says (access_at heap) (hold_in outer spared holds p) (kind_of (kinds_of types variables outer) (access_at heap) p) k
    relied_before (variable x) k names = f.owners.fit.relied (variable x) k names
    relied_before (component i c) k names = f.owners.fit.relied (component i c) k names
    relied_before (elsewhere zero x) k names = f.owners.fit.relied (elsewhere (suc zero) x) k names
    relied_before (elsewhere (suc d) x) k names = f.owners.fit.relied (elsewhere (suc (suc d)) x) k names

    apart_before : (p q : Place) (k : Id) → Owns (hold_in outer spared holds p) → Owns (hold_in outer spared holds q) → value_at heap (stacked places outer) p ≡ Names k → value_at heap (stacked places outer) q ≡ Names k → p ≡ q
    apart_before p q k a b c d =
        let same = ap before (f.owners.fit.apart (behind p) (behind q) k (behind_owns p a) (behind_owns q b) (behind_names p k c) (behind_names q k d)) in
        rw (there_and_back p, there_and_back q) at same

    fit_before : Fit types variables outer spared heap places holds
    fit_before = record {
      owners = record { fit = record { relied = relied_before; apart = apart_before } };
      said = f.said;
      objects = f.objects;
      referred = f.referred;
    }

    none_owns : (p : Place) → Owns (hold_in outer spared holds p) → value_at heap (stacked places outer) p ≡ Names o → ⊥
    none_owns p own names = other_place p (f.owners.fit.apart (behind p) (elsewhere zero zero) o (behind_owns p own) tt (behind_names p o names) refl)

-- No place owns an object of this access type: it can be held.
abbrev pub IsFree : Outsiders → List Object → List Value → Holds → (access : ℕ) → Id → Type 0
IsFree outer heap places holds t o = IsInHand heap (stacked places outer) (hold_in outer none_spared holds) (Some t) (Names o)

-- So it is, where it is to be held.
abbrev pub FreeIf : (held : Bool) → Outsiders → List Object → List Value → Holds → (access : ℕ) → Id → Type 0
FreeIf false outer heap places holds t o = Unit {0}
FreeIf true outer heap places holds t o = IsFree outer heap places holds t o

-- It is held then; and once it is held no more, other places are as they are relied on to be.
pub fit_held : {types : List TypeForm} {variables : List VariableForm} {outer : Outsiders} {heap : List Object} {places : List Value} {holds : Holds} (held : Bool) (o : Id) (t : ℕ) → FreeIf held outer heap places holds t o → Fit types variables outer none_spared heap places holds
    → Fit types variables (with_held (holder_if held o t) outer) none_spared heap places holds
fit_held false o t hand f = f
fit_held {types} {variables} {outer} {heap} {places} {holds} true o t hand f = held_fit types variables outer none_spared heap places holds o t f hand

pub fit_unheld : {types : List TypeForm} {variables : List VariableForm} {outer : Outsiders} {heap : List Object} {places : List Value} {holds : Holds} (held : Bool) (o : Id) (t : ℕ) → Fit types variables (with_held (holder_if held o t) outer) none_spared heap places holds
    → Fit types variables outer none_spared heap places holds
fit_unheld false o t f = f
fit_unheld {types} {variables} {outer} {heap} {places} {holds} true o t f = fit_before types variables outer none_spared heap places holds o t f

-- No component owns an object that is held.
pub held_alone : {types : List TypeForm} {variables : List VariableForm} {heap : List Object} {places : List Value} {holds : Holds} (outer : Outsiders) (held : Bool) (o : Id) (t : ℕ) → held ≡ true → Fit types variables (with_held (holder_if held o t) outer) none_spared heap places holds
    → (k : Id) (c : ℕ) → value_at heap (stacked places outer) (component k c) ≡ Names o → ⊥
held_alone outer false o t is f k c names = cc is
held_alone {types} {variables} {heap} {places} {holds} outer true o t is f k c names = none_owns types variables outer none_spared heap places holds o t f (component k c) tt names

-- What holds an object borrows none.
pub held_borrows : (held : Bool) (o : Id) (t : ℕ) (others : List Outer) (access : ℕ) → ((d x : ℕ) → outer_access (slice_get others d) x ≡ Some access → Borrows (outer_hold (slice_get others d) x) → ⊥)
    → (d x : ℕ) → outer_access (slice_get (held_first (holder_if held o t) others) d) x ≡ Some access → Borrows (outer_hold (slice_get (held_first (holder_if held o t) others) d) x) → ⊥
held_borrows false o t others access none d x of borrows = none d x of borrows
held_borrows true o t others access none zero zero of borrows = borrows
held_borrows true o t others access none zero (suc x) of borrows = borrows
held_borrows true o t others access none (suc d) x of borrows = none d x of borrows

-- It lies where the object lies.
pub held_lies : (held : Bool) (o : Id) (t : ℕ) (Lies : Id → Type 0) → Lies o
    → (x : ℕ) (k : Id) → IsRelied (outer_hold (holder_if held o t) x) → outer_value (holder_if held o t) x ≡ Names k → Lies k
held_lies false o t Lies lies x k relied names = absurd relied
held_lies true o t Lies lies zero k relied names = let same : o ≡ k = cc names in subst Lies same lies
held_lies true o t Lies lies (suc x) k relied names = absurd relied

-- What no place owns is in hand.
module _ (outer : Outsiders) (heap : List Object) (o : Id) (t : ℕ) (there : access_at heap o ≡ Some t) where
  name_is : (p : Id) → Names o ≡ Names p → o ≡ p
  name_is p e = cc e

  in_hand : (places : List Value) (holds : Holds) → ((q : Place) → Owns (hold_in outer none_spared holds q) → value_at heap (stacked places outer) q ≡ Names o → ⊥) → IsFree outer heap places holds t o
  in_hand places holds none = record {
    hand = record {
      right = λ p e. let same : o ≡ p = name_is p e in rw (← same) there;
      free = λ p e q own names. let same : o ≡ p = name_is p e in none q own (rw (← same) at names);
    };
  }

  lost_here : (holds : Holds) (x : ℕ) → hold_at (slice_set holds x hold.Lost) x ≡ hold.Lost
  lost_here holds x = elim (read_same holds x hold.Lost hold.Lost) [ inl e ↦ e | inr e ↦ e ]

  -- So it is of what nothing relies on, where components are spared of no object;
  pub unnamed_hand : (spared : Id → Bool) (places : List Value) (holds : Holds) → ((k : Id) → spared k ≡ false) → IsUnnamed heap (stacked places outer) (hold_in outer spared holds) o → IsFree outer heap places holds t o
  unnamed_hand spared places holds none unnamed = in_hand places holds (λ q own names. unnamed.unowned q (owns q own) names)
    where
      owns : (q : Place) → Owns (hold_in outer none_spared holds q) → Owns (hold_in outer spared holds q)
      owns (variable x) own = own
      owns (component k c) own = rw (none k) tt
      owns (elsewhere d x) own = own

  -- of what nothing relies on once a variable is lost that does not own it;
  pub lost_hand : (places : List Value) (holds : Holds) (x : ℕ) → (Owns (hold_at holds x) → place_at places x ≡ Names o → ⊥) → IsUnnamed heap (stacked places outer) (hold_in outer none_spared (slice_set holds x hold.Lost)) o → IsFree outer heap places holds t o
  lost_hand places holds x not_owner unnamed = in_hand places holds none
    where
      by : (y : ℕ) → (y ≡ x) ⊎ (y ≢ x) → Owns (hold_at holds y) → place_at places y ≡ Names o → ⊥
      by y (inl e) own names = not_owner (rw e at own) (rw e at names)
      by y (inr ne) own names = unnamed.unowned (variable y) (rw (read_other holds x y hold.Lost hold.Lost ne) own) names

      none : (q : Place) → Owns (hold_in outer none_spared holds q) → value_at heap (stacked places outer) q ≡ Names o → ⊥
      none (variable y) own names = by y (same_or_not y x) own names
      none (component k c) own names = unnamed.unowned (component k c) own names
      none (elsewhere d y) own names = unnamed.unowned (elsewhere d y) own names

  -- and, where a variable is lost, of what nothing relies on once that is null.
  pub emptied_hand : (places : List Value) (holds : Holds) (x : ℕ) → IsUnnamed heap (stacked (slice_set places x Null) outer) (hold_in outer none_spared holds) o → IsFree outer heap places (slice_set holds x hold.Lost) t o
  emptied_hand places holds x unnamed = in_hand places (slice_set holds x hold.Lost) none
    where
      by : (y : ℕ) → (y ≡ x) ⊎ (y ≢ x) → Owns (hold_at (slice_set holds x hold.Lost) y) → place_at places y ≡ Names o → ⊥
      by y (inl e) own names = lost_owns (hold_at (slice_set holds x hold.Lost) x) (lost_here holds x) (rw e at own)
      by y (inr ne) own names = unnamed.unowned (variable y) (rw (read_other holds x y hold.Lost hold.Lost ne) at own) (read_other places x y Null Null ne ∙ names)

      none : (q : Place) → Owns (hold_in outer none_spared (slice_set holds x hold.Lost) q) → value_at heap (stacked places outer) q ≡ Names o → ⊥
      none (variable y) own names = by y (same_or_not y x) own names
      none (component k c) own names = unnamed.unowned (component k c) own names
      none (elsewhere zero y) own names = unnamed.unowned (elsewhere zero y) own names
      none (elsewhere (suc d) y) own names = unnamed.unowned (elsewhere (suc d) y) own names

-- A place owns an object, or it does not.
pub owner_or_not : (h : Hold) (v : Value) (o : Id) → (Owns h × (v ≡ Names o)) ⊎ (Owns h → v ≡ Names o → ⊥)
owner_or_not h v o = by (owns_or_not h) (names_or_not v)
  where
    owns_or_not : (g : Hold) → Owns g ⊎ (Owns g → ⊥)
    owns_or_not hold.Null = inr (λ own. own)
    owns_or_not (hold.Kept r) = inl tt
    owns_or_not (hold.Own r) = inl tt
    owns_or_not (hold.Alias r) = inr (λ own. own)
    owns_or_not hold.Lost = inr (λ own. own)

    names_or_not : (w : Value) → (w ≡ Names o) ⊎ (w ≢ Names o)
    names_or_not Null = inr (λ e. cc e)
    names_or_not (Names p) = elim (same_id p o) [ inl e ↦ inl (ap Names e) | inr ne ↦ inr (λ e. let same : p ≡ o = cc e in ne same) ]
    names_or_not (Scalar n) = inr (λ e. cc e)
    names_or_not (Part p place) = inr (λ e. cc e)

    by : Owns h ⊎ (Owns h → ⊥) → (v ≡ Names o) ⊎ (v ≢ Names o) → (Owns h × (v ≡ Names o)) ⊎ (Owns h → v ≡ Names o → ⊥)
    by (inl own) (inl names) = inl (own, names)
    by (inl own) (inr none) = inr (λ own' names. none names)
    by (inr none) names = inr (λ own names'. none own)
