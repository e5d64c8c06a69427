-- All objects that there ever were, as a kept one changes or is forgotten, and as one more is created.

use Rattle.std.proofs.Common.{◌≡◌, ℕ, zero, suc, ◌+◌, ◌<◌, ◌≤◌, true, false, nat_eq, List, [], ◌∷◌, ◌++◌, length, map, Option, Some, None, refl, ap, ◌∙◌, sym, inl, inr, Bor, arith, zero-add, add-zero}
use Rattle.std.proofs.Math.ListN.{set}
use Rattle.std.specs.HashMap.{HashMap, get, UpdatesBy, WritesThrough}
use Rattle.std.specs.Option.{option_copied, MatchOption}
use Rattle.std.specs.List.{slice_get, range_with_len}
use Rattle.std.proofs.lemmas.Bool.{ne_eqb, cases_eq, cases_lt}
use Rattle.std.proofs.lemmas.List.{length-set, get_or-set_same, get_or-set_other}
use Rattle.std.proofs.lemmas.List.FromFn.{length-map-range_with_len, get_or-map-range_with_len, map-range_with_len_more, fill_by_all}
use Rattle.ada_meaning.specs.declared.state.Id.{Id}
use Rattle.ada_meaning.specs.Named.{Object, object_at, changed}
use Rattle.ada_interpreter.specs.declared.remembered.Object.{Object as HeldObject}
use Rattle.ada_interpreter.specs.Objects.{object_of, left_of, IsForgotten}
use Rattle.ada_untouched.specs.Past.{nothing_left, is_past, forgotten}

-- a list that is made of numbers
module _ {X : Type 0} where
  get_made : (f : ℕ → X) (a n i : ℕ) → i < n → slice_get (map f (range_with_len a n)) i ≡ Some (f (a + i))
  get_made f a zero i below = absurd (omega arith)
  get_made f a (suc n) zero below = rw add-zero refl
  get_made f a (suc n) (suc i) below =
      let e : a + 1 + i ≡ a + suc i = omega arith in
      get_made f (a + 1) n i (omega arith) ∙ ap (λ (j : ℕ). Some (f j)) e

  get_beyond : (f : ℕ → X) (a n i : ℕ) → n ≤ i → slice_get (map f (range_with_len a n)) i ≡ None
  get_beyond f a zero i beyond = refl
  get_beyond f a (suc n) zero beyond = absurd (omega arith)
  get_beyond f a (suc n) (suc i) beyond = get_beyond f (a + 1) n i (omega arith)

  made_same : (f g : ℕ → X) (n : ℕ) → ((j : ℕ) → j < n → g j ≡ f j) → map g (range_with_len 0 n) ≡ map f (range_with_len 0 n)
  made_same f g n same =
      fill_by_all f (map g (range_with_len 0 n)) n (f 0) (length-map-range_with_len g 0 n)
      (λ (k : ℕ) (below : k < n). get_or-map-range_with_len g 0 n k k (f 0) below (omega arith) ∙ same k below)

  made_set : (f g : ℕ → X) (n i : ℕ) → ((j : ℕ) → (j ≡ i → ⊥) → g j ≡ f j) → set (map f (range_with_len 0 n)) i (g i) ≡ map g (range_with_len 0 n)
  made_set f g n i others =
      let xs = map f (range_with_len 0 n) in
      let as_many = length-map-range_with_len f 0 n in
      fill_by_all g (set xs i (g i)) n (g i) (length-set xs i (g i) ∙ as_many)
      (λ (k : ℕ) (below : k < n). elim (cases_eq k i) [
        | inl e ↦ rw (e, get_or-set_same xs i (g i) (g i) (omega (arith, as_many, e, below))) refl
        | inr apart ↦ rw (get_or-set_other xs i k (g i) (g i) apart, get_or-map-range_with_len f 0 n k k (g i) below (omega arith)) (sym (others k apart))
      ])

-- the object of a name is made another one, or no other
made_changed : (change : Object → Object) (f g : ℕ → Object) (n : ℕ) (o : Id) → g o.0 ≡ change (f o.0) → ((j : ℕ) → (j ≡ o.0 → ⊥) → g j ≡ f j) → map g (range_with_len 0 n) ≡ changed change (object_at (map f (range_with_len 0 n)) o) (map f (range_with_len 0 n)) o
made_changed change f g n o here others = elim (cases_lt o.0 n) [
  | inl below ↦ rw (get_made f 0 n o.0 below, zero-add, sym here) (sym (made_set f g n o.0 others))
  | inr beyond ↦ rw (get_beyond f 0 n o.0 beyond) (made_same f g n (λ (j : ℕ) (below : j < n). others j (λ (e : j ≡ o.0). omega (arith, e, below, beyond))))
]

module _ {S : Type 0} (before after : HashMap ℕ HeldObject S) (n : ℕ) where
  -- all objects, before and after a change
  abbrev old : ℕ → Object
  old i = left_of (get nat_eq before i)

  abbrev new : ℕ → Object
  new i = left_of (get nat_eq after i)

  abbrev all_old : List Object
  all_old = map old (range_with_len 0 n)

  abbrev all_new : List Object
  all_new = map new (range_with_len 0 n)

  -- a kept object changes
  pub kept_changed : (change : Object → Object) (o : Id) (x y : HeldObject) → Some x ≡ get nat_eq before o.0 → WritesThrough nat_eq (nat_eq o.0) before y after → object_of y ≡ change (object_of x) → all_new ≡ changed change (object_at all_old o) all_old o
  kept_changed change o x y here writes after_it =
      let updates : UpdatesBy nat_eq (nat_eq o.0) before after (Some y) = writes.3 (rw (sym here) refl) in
      made_changed change old new n o
      (rw (sym here, updates.1) after_it)
      (λ (j : ℕ) (apart : j ≡ o.0 → ⊥). ap left_of (updates.2 j (ne_eqb o.0 j (λ (e : o.0 ≡ j). apart (sym e)))))

  -- a past object is forgotten
  pub past_forgotten : (o : Id) (x : HeldObject) → Some x ≡ get nat_eq before o.0 → UpdatesBy nat_eq (nat_eq o.0) before after None → is_past (object_of x) ≡ true → all_new ≡ changed forgotten (object_at all_old o) all_old o
  past_forgotten o x here updates past =
      made_changed forgotten old new n o
      (rw (sym here, updates.1, past) refl)
      (λ (j : ℕ) (apart : j ≡ o.0 → ⊥). ap left_of (updates.2 j (ne_eqb o.0 j (λ (e : o.0 ≡ j). apart (sym e)))))

  -- nothing changes but the order in which they are kept
  pub all_same : ((j : ℕ) → get nat_eq after j ≡ get nat_eq before j) → all_new ≡ all_old
  all_same same = made_same old new n (λ (j : ℕ) (below : j < n). ap left_of (same j))

  -- one object more
  pub all_more : (y : HeldObject) → UpdatesBy nat_eq (nat_eq n) before after (Some y) → map new (range_with_len 0 (n + 1)) ≡ all_old ++ object_of y ∷ []
  all_more y updates =
      let others = made_same old new n (λ (j : ℕ) (below : j < n). ap left_of (updates.2 j (ne_eqb n j (λ (e : n ≡ j). omega (arith, e, below))))) in
      map-range_with_len_more new 0 n n (omega arith) ∙ rw (others, updates.1) refl

-- an object that is not kept, or is not past, stays as it is
module _ {S : Type 0} (kept : HashMap ℕ HeldObject S) (n : ℕ) where
  -- all objects
  abbrev every : ℕ → Object
  every i = left_of (get nat_eq kept i)

  abbrev all : List Object
  all = map every (range_with_len 0 n)

  pub none_changed : (change : Object → Object) (o : Id) → None ≡ get nat_eq kept o.0 → change nothing_left ≡ nothing_left → all ≡ changed change (object_at all o) all o
  none_changed change o absent stays = made_changed change every every n o (rw (sym absent) (sym stays)) (λ (j : ℕ) (apart : j ≡ o.0 → ⊥). refl)

  pub none_forgotten : (o : Id) (x : HeldObject) → Some x ≡ get nat_eq kept o.0 → is_past (object_of x) ≡ false → all ≡ changed forgotten (object_at all o) all o
  none_forgotten o x here not_past = made_changed forgotten every every n o (rw (sym here, not_past) refl) (λ (j : ℕ) (apart : j ≡ o.0 → ⊥). refl)

  -- what a name is for
  pub kept_at_name : (o : Id) (x : HeldObject) → o.0 < n → Some x ≡ get nat_eq kept o.0 → object_at all o ≡ Some (object_of x)
  kept_at_name o x below here = rw (get_made every 0 n o.0 below, zero-add, sym here) refl

  pub none_at_name : (o : Id) → o.0 < n → None ≡ get nat_eq kept o.0 → object_at all o ≡ Some nothing_left
  none_at_name o below absent = rw (get_made every 0 n o.0 below, zero-add, sym absent) refl

  pub none_beyond : (o : Id) → n ≤ o.0 → object_at all o ≡ None
  none_beyond o beyond = get_beyond every 0 n o.0 beyond

  pub found_at_name : (o : Id) (r : Option (Bor HeldObject)) → o.0 < n → option_copied r ≡ get nat_eq kept o.0 → MatchOption r (IsForgotten (object_at all o)) (λ object. object_at all o ≡ Some (object_of object.now))
  found_at_name o None below is = inr (none_at_name o below is)
  found_at_name o (Some object) below is = kept_at_name o object.now below is

  -- how many there are
  pub all_counted : n ≡ length all
  all_counted = sym (length-map-range_with_len every 0 n)
