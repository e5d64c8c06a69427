-- Hidden components stay as they are, whatever becomes of the objects.

use Rattle.std.proofs.Common.{◌≡◌, ℕ, zero, suc, ◌+◌, Bool, true, false, List, [], ◌∷◌, ◌++◌, length, Option, Some, None, refl, sym, ap, ◌∙◌, inl, inr, subst, arith}
use Rattle.std.specs.List.{slice_get, slice_set}
use Rattle.ada_meaning.specs.declared.state.Id.{Id}
use Rattle.ada_meaning.specs.declared.state.Value.{Value}
use Rattle.ada_meaning.specs.declared.state.Value.TheVariants.{Null, Names, Scalar, Part}
use Rattle.ada_meaning.specs.Heap.{Cell}
use Rattle.ada_meaning.specs.Step.{stored_from}
use Rattle.ada_meaning.specs.Named.{Object, named, object_at, changed, new_object, create, filled, on_object, store}
use Rattle.ada_meaning.specs.Records.{component_in}
use Rattle.ada_untouched.specs.Untouched.{IsShown, AreShown}
use Rattle.ada_untouched.proofs.Heaps.{set_here, set_there, one_or_other}

-- Each hidden component holds what it held.
pub record Unchanged (hidden : Id → (component : ℕ) → Bool) (h k : List Object) : Type 0 where
  pub same : (o : Id) (c : ℕ) → hidden o c ≡ true → component_in (object_at k o) c ≡ component_in (object_at h o) c

-- So it does of the objects that were there.
pub record Kept (hidden : Id → (component : ℕ) → Bool) (h k : List Object) : Type 0 where
  pub stays : (o : Id) (x : Object) → object_at h o ≡ Some x → (c : ℕ) → hidden o c ≡ true → component_in (object_at k o) c ≡ slice_get x.cell.values c

-- What is there stays there as more comes behind it.
added_behind : {X : Type 0} (xs ys : List X) (i : ℕ) (x : X) → slice_get xs i ≡ Some x → slice_get (xs ++ ys) i ≡ Some x
added_behind [] ys i x is = absurd (cc)
added_behind (z ∷ xs) ys zero x is = is
added_behind (z ∷ xs) ys (suc i) x is = added_behind xs ys i x is

module _ (hidden : Id → (component : ℕ) → Bool) where
  -- A change of the object of a name leaves its hidden components.
  abbrev pub Spares : (Object → Object) → Id → Type 0
  Spares change o = (x : Object) (c : ℕ) → hidden o c ≡ true → slice_get (change x).cell.values c ≡ slice_get x.cell.values c

  pub as_it_is : (h : List Object) → Unchanged hidden h h
  as_it_is h = record { same = λ o c hides. refl }

  in_turn : (h k l : List Object) → Unchanged hidden h k → Unchanged hidden k l → Unchanged hidden h l
  in_turn h k l a b = record { same = λ o c hides. b.same o c hides ∙ a.same o c hides }

  pub kept : (h k : List Object) → Unchanged hidden h k → Kept hidden h k
  kept h k a = record { stays = λ o x is c hides. a.same o c hides ∙ ap (λ (found : Option Object). component_in found c) is }

  -- An object changes.
  at_name : (change : Object → Object) (h : List Object) (o : Id) (x : Object) → object_at h o ≡ Some x → Spares change o → Unchanged hidden h (slice_set h o.0 (change x))
  at_name change h o x there spares = record {
    same = λ p c hides. elim (one_or_other p o) as (λ w. component_in (slice_get (slice_set h o.0 (change x)) p.0) c ≡ component_in (slice_get h p.0) c) [
      | inl e ↦ ap (λ (q : Id). component_in (slice_get (slice_set h o.0 (change x)) q.0) c) e
          ∙ ap (λ (found : Option Object). component_in found c) (set_here h o.0 x (change x) there)
          ∙ spares x c (ap (λ (q : Id). hidden q c) (sym e) ∙ hides)
          ∙ ap (λ (found : Option Object). component_in found c) (sym there)
          ∙ ap (λ (q : Id). component_in (slice_get h q.0) c) (sym e)
      | inr ne ↦ ap (λ (found : Option Object). component_in found c) (set_there h o.0 p.0 (change x) ne)
    ];
  }

  by_name : (change : Object → Object) (h : List Object) (o : Id) (found : Option Object) → object_at h o ≡ found → Spares change o → Unchanged hidden h (changed change found h o)
  by_name change h o None there spares = as_it_is h
  by_name change h o (Some x) there spares = at_name change h o x there spares

  -- The object that a value names changes beside its components.
  pub on_kept : (change : Object → Object) → ((o : Id) → Spares change o) → (h : List Object) (v : Value) → Unchanged hidden h (on_object change h v)
  on_kept change spares h Null = as_it_is h
  on_kept change spares h (Names o) = by_name change h o (object_at h o) refl (spares o)
  on_kept change spares h (Scalar v) = as_it_is h
  on_kept change spares h (Part o place) = as_it_is h

  -- A component that is not hidden gets a value (5.2).
  fills_beside : (o : Id) (c : ℕ) (u : Value) → hidden o c ≡ false → Spares (filled c u) o
  fills_beside o c u shown x d hides =
      set_there x.cell.values c d u (λ e. let clash : true ≡ false = sym hides ∙ ap (λ (i : ℕ). hidden o i) e ∙ shown in absurd (cc))

  pub store_kept : (h : List Object) (v : Value) (c : ℕ) (u : Value) → IsShown hidden v c → Unchanged hidden h (store h v c u)
  store_kept h Null c u shown = as_it_is h
  store_kept h (Names o) c u shown = by_name (filled c u) h o (object_at h o) refl (fills_beside o c u shown)
  store_kept h (Scalar v) c u shown = as_it_is h
  store_kept h (Part o place) c u shown = as_it_is h

  -- So do several.
  pub stored_kept : (h : List Object) (v : Value) (c : ℕ) (vs : List Value) → AreShown hidden v c (length vs) → Unchanged hidden h (stored_from named h v c vs)
  stored_kept h v c [] shown = as_it_is h
  stored_kept h v c (u ∷ us) shown =
      let here : c + 0 ≡ c = omega arith in
      let first : IsShown hidden v c = subst (λ (d : ℕ). IsShown hidden v d) here (shown 0 (omega arith)) in
      let more : AreShown hidden v (c + 1) (length us) = λ i lt. (
      let at : c + suc i ≡ (c + 1) + i = omega arith in subst (λ (d : ℕ). IsShown hidden v d) at (shown (suc i) (omega (arith, lt)))
      ) in
      in_turn h (store h v c u) (stored_from named (store h v c u) v (c + 1) us) (store_kept h v c u first) (stored_kept (store h v c u) v (c + 1) us more)

  -- A new object comes.
  pub create_kept : (h : List Object) (words : ℕ) (cell : Cell Value) → Kept hidden h (create h words cell)
  create_kept h words cell = record {
    stays = λ o x is c hides. ap (λ (found : Option Object). component_in found c) (added_behind h (new_object cell ∷ []) o.0 x is);
  }
