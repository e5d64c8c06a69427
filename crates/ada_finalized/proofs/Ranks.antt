-- The rank of a part of an object: twice how many of its values were finalized, and one more where one is alive; and what counts of an object here.

use Rattle.std.proofs.Common.{◌≡◌, ◌≢◌, ◌⊎◌, ℕ, zero, suc, ◌+◌, Bool, true, false, ◌==◌, if◌then◌else◌, List, [], ◌∷◌, ◌++◌, length, map, Option, Some, None, refl, sym, ap, ◌∙◌, inl, inr, subst, arith}
use Rattle.std.specs.List.{slice_get, slice_set}
use Rattle.std.proofs.lemmas.Bool.Decides.{eqb_tells}
use Rattle.ada_parts.proofs.Facts.{eq_self}
use Rattle.ada_meaning.specs.declared.state.Id.{Id}
use Rattle.ada_meaning.specs.declared.state.Value.{Value}
use Rattle.ada_meaning.specs.declared.state.Value.TheVariants.{Null, Names, Scalar, Part}
use Rattle.ada_meaning.specs.Heap.{PartState}
use Rattle.ada_meaning.specs.Step.{new_part, stored_from}
use Rattle.ada_meaning.specs.Named.{Object, named, changed, on_object, filled, store, with_part, treated}
use Rattle.ada_finalized.proofs.Counts.{one_if}

abbrev pub Heap : Type 0
Heap = List Object

-- The rank of a part.
abbrev pub rank_of : Option PartState → ℕ
rank_of None = 0
rank_of (Some p) = p.turn + p.turn + one_if p.alive

abbrev pub rank_in : Object → (part : ℕ) → ℕ
rank_in x n = rank_of (slice_get x.cell.parts n)

abbrev pub rank_by : Option Object → (part : ℕ) → ℕ
rank_by None n = 0
rank_by (Some x) n = rank_in x n

abbrev pub rank_at : Heap → (object part : ℕ) → ℕ
rank_at xs o n = rank_by (slice_get xs o) n

-- What counts of an object here: all but its components.
abbrev pub bare : Object → Object
bare x = record x { cell = record (x.cell) { values = [] } }

set_bare : (xs : Heap) (i : ℕ) (x y : Object) → slice_get xs i ≡ Some x → bare y ≡ bare x → map bare (slice_set xs i y) ≡ map bare xs
set_bare [] i x y is e = refl
set_bare (z ∷ xs) zero x y is e = let one : x ≡ z = cc is in ap (λ (u : Object). u ∷ map bare xs) (e ∙ ap bare one)
set_bare (z ∷ xs) (suc i) x y is e = ap (λ (us : Heap). bare z ∷ us) (set_bare xs i x y is e)

changed_bare : (change : Object → Object) (at_o : Option Object) (xs : Heap) (o : Id) → ((x : Object) → bare (change x) ≡ bare x) → slice_get xs o.0 ≡ at_o → map bare (changed change at_o xs o) ≡ map bare xs
changed_bare change None xs o e is = refl
changed_bare change (Some x) xs o e is = set_bare xs o.0 x (change x) is (e x)

on_bare : (change : Object → Object) (xs : Heap) (v : Value) → ((x : Object) → bare (change x) ≡ bare x) → map bare (on_object change xs v) ≡ map bare xs
on_bare change xs Null e = refl
on_bare change xs (Names o) e = changed_bare change (slice_get xs o.0) xs o e refl
on_bare change xs (Scalar v) e = refl
on_bare change xs (Part o first) e = refl

-- What is stored in components changes nothing of that.
pub stored_bare : (xs : Heap) (o : Value) (c : ℕ) (vs : List Value) → map bare (stored_from named xs o c vs) ≡ map bare xs
stored_bare xs o c [] = refl
stored_bare xs o c (v ∷ vs) = stored_bare (store xs o c v) o (c + 1) vs ∙ on_bare (filled c v) xs o (λ x. refl)

rank_bare : (xs : Heap) (o n : ℕ) → rank_at (map bare xs) o n ≡ rank_at xs o n
rank_bare [] o n = refl
rank_bare (x ∷ xs) zero n = refl
rank_bare (x ∷ xs) (suc o) n = rank_bare xs o n

pub rank_alike : (xs ys : Heap) → map bare ys ≡ map bare xs → (o n : ℕ) → rank_at ys o n ≡ rank_at xs o n
rank_alike xs ys e o n = sym (rank_bare ys o n) ∙ ap (λ (zs : Heap). rank_at zs o n) e ∙ rank_bare xs o n

abbrev first_of_all : Object → Heap → Object
first_of_all d [] = d
first_of_all d (x ∷ xs) = x

abbrev others : Heap → Heap
others [] = []
others (x ∷ xs) = xs

pub alike_at : (xs ys : Heap) (o : ℕ) (y : Object) → map bare ys ≡ map bare xs → slice_get ys o ≡ Some y → (x : Object) × ((slice_get xs o ≡ Some x) × (bare x ≡ bare y))
alike_at xs [] o y e is = absurd (cc is)
alike_at [] (z ∷ ys) o y e is = absurd (cc e)
alike_at (x ∷ xs) (z ∷ ys) zero y e is =
    let one : z ≡ y = cc is in
    (x, (refl, sym (ap (first_of_all x) e) ∙ ap bare one))
alike_at (x ∷ xs) (z ∷ ys) (suc o) y e is = alike_at xs ys o y (ap others e) is

-- One object changes.
pub set_same : {X : Type 0} (xs : List X) (i : ℕ) (x y : X) → slice_get xs i ≡ Some x → slice_get (slice_set xs i y) i ≡ Some y
set_same [] i x y is = absurd (cc is)
set_same (z ∷ xs) zero x y is = refl
set_same (z ∷ xs) (suc i) x y is = set_same xs i x y is

pub set_other : {X : Type 0} (xs : List X) (i j : ℕ) (y : X) → i ≢ j → slice_get (slice_set xs i y) j ≡ slice_get xs j
set_other [] i j y ne = refl
set_other (z ∷ xs) zero zero y ne = absurd (ne refl)
set_other (z ∷ xs) zero (suc j) y ne = refl
set_other (z ∷ xs) (suc i) zero y ne = refl
set_other (z ∷ xs) (suc i) (suc j) y ne = set_other xs i j y (λ e. ne (ap suc e))

pub on_is : (change : Object → Object) (xs : Heap) (o : ℕ) (x : Object) → slice_get xs o ≡ Some x → on_object change xs (Names (record { 0 = o })) ≡ slice_set xs o (change x)
on_is change xs o x is = ap (λ (found : Option Object). changed change found xs (record { 0 = o })) is

rank_same : (xs : Heap) (o : ℕ) (x y : Object) (n : ℕ) → slice_get xs o ≡ Some x → rank_at (slice_set xs o y) o n ≡ rank_in y n
rank_same xs o x y n is = ap (λ (found : Option Object). rank_by found n) (set_same xs o x y is)

rank_other : (xs : Heap) (o j : ℕ) (y : Object) (n : ℕ) → o ≢ j → rank_at (slice_set xs o y) j n ≡ rank_at xs j n
rank_other xs o j y n ne = ap (λ (found : Option Object). rank_by found n) (set_other xs o j y ne)

-- No part of it changes.
pub rank_kept : (xs : Heap) (o : ℕ) (x y : Object) → slice_get xs o ≡ Some x → y.cell.parts ≡ x.cell.parts → (j n : ℕ) → rank_at (slice_set xs o y) j n ≡ rank_at xs j n
rank_kept xs o x y is e j n = elim (eqb_tells o j) [ inl h ↦ here h.1 | inr h ↦ rank_other xs o j y n h.1 ]
  where
    here : o ≡ j → rank_at (slice_set xs o y) j n ≡ rank_at xs j n
    here one =
        subst (λ (i : ℕ). rank_at (slice_set xs o y) i n ≡ rank_at xs i n) one
        (rank_same xs o x y n is ∙ ap (λ (ps : List PartState). rank_of (slice_get ps n)) e ∙ sym (ap (λ (found : Option Object). rank_by found n) is))

-- How much the rank of a part rises where that of one part rises by one.
abbrev pub rise : (object part : ℕ) → (other number : ℕ) → ℕ
rise o n j m = if o == j then one_if (n == m) else 0

-- One part of an object rises.
abbrev Rises : (PartState → PartState) → PartState → Type 0
Rises change p = rank_of (Some (change p)) ≡ rank_of (Some p) + 1

pub treated_rank : (change : PartState → PartState) (n : ℕ) (x : Object) (p : PartState) → slice_get x.cell.parts n ≡ Some p → Rises change p → (m : ℕ) → rank_in (treated change n x) m ≡ rank_in x m + one_if (n == m)
treated_rank change n x p is rises m =
    ap (λ (found : Option PartState). rank_of (slice_get (with_part change n found x.cell.parts) m)) is
    ∙ elim (eqb_tells n m) [ inl h ↦ here h.0 h.1 | inr h ↦ there h.0 h.1 ]
  where
    ps : List PartState
    ps = x.cell.parts

    here : (n == m) ≡ true → n ≡ m → rank_of (slice_get (slice_set ps n (change p)) m) ≡ rank_of (slice_get ps m) + one_if (n == m)
    here t one =
        let a : rank_of (slice_get (slice_set ps n (change p)) m) ≡ rank_of (Some (change p)) = subst (λ (k : ℕ). rank_of (slice_get (slice_set ps n (change p)) k) ≡ rank_of (Some (change p))) one (ap rank_of (set_same ps n p (change p) is)) in
        let b : rank_of (slice_get ps m) ≡ rank_of (Some p) = subst (λ (k : ℕ). rank_of (slice_get ps k) ≡ rank_of (Some p)) one (ap rank_of is) in
        let c = ap one_if t in
        let r = rises in
        omega (arith, a, b, c, r)

    there : (n == m) ≡ false → n ≢ m → rank_of (slice_get (slice_set ps n (change p)) m) ≡ rank_of (slice_get ps m) + one_if (n == m)
    there t ne =
        let a : rank_of (slice_get (slice_set ps n (change p)) m) ≡ rank_of (slice_get ps m) = ap rank_of (set_other ps n m (change p) ne) in
        let c = ap one_if t in
        omega (arith, a, c)

pub risen : (xs : Heap) (change : PartState → PartState) (o n : ℕ) (x : Object) (p : PartState) → slice_get xs o ≡ Some x → slice_get x.cell.parts n ≡ Some p → Rises change p → (j m : ℕ) → rank_at (slice_set xs o (treated change n x)) j m ≡ rank_at xs j m + rise o n j m
risen xs change o n x p at_o is rises j m = elim (eqb_tells o j) [ inl h ↦ here h.0 h.1 | inr h ↦ there h.0 h.1 ]
  where
    y : Object
    y = treated change n x

    here : (o == j) ≡ true → o ≡ j → rank_at (slice_set xs o y) j m ≡ rank_at xs j m + rise o n j m
    here t one =
        let a : rank_at (slice_set xs o y) j m ≡ rank_in y m = subst (λ (k : ℕ). rank_at (slice_set xs o y) k m ≡ rank_in y m) one (rank_same xs o x y m at_o) in
        let b : rank_at xs j m ≡ rank_in x m = subst (λ (k : ℕ). rank_at xs k m ≡ rank_in x m) one (ap (λ (found : Option Object). rank_by found m) at_o) in
        let c = ap (λ (b : Bool). if b then one_if (n == m) else 0) t in
        let d = treated_rank change n x p is rises m in
        omega (arith, a, b, c, d)

    there : (o == j) ≡ false → o ≢ j → rank_at (slice_set xs o y) j m ≡ rank_at xs j m + rise o n j m
    there t ne =
        let a = rank_other xs o j y m ne in
        let c = ap (λ (b : Bool). if b then one_if (n == m) else 0) t in
        omega (arith, a, c)

-- What a rise says.
pub rise_or : (o n j m : ℕ) → (rise o n j m ≡ 0) ⊎ ((rise o n j m ≡ 1) × (o ≡ j) × (n ≡ m))
rise_or o n j m = elim (eqb_tells o j) [ inl h ↦ elim (eqb_tells n m) [ inl g ↦ inr (first h.0 ∙ ap one_if g.0, h.1, g.1) | inr g ↦ inl (first h.0 ∙ ap one_if g.0) ] | inr h ↦ inl (first h.0) ]
  where
    first : {b : Bool} → (o == j) ≡ b → rise o n j m ≡ (if b then one_if (n == m) else 0)
    first e = ap (λ (c : Bool). if c then one_if (n == m) else 0) e

pub rise_self : (o n : ℕ) → rise o n o n ≡ 1
rise_self o n = ap (λ (c : Bool). if c then one_if (n == n) else 0) (eq_self o) ∙ ap one_if (eq_self n)

-- A new object.
pub new_rank : (firsts : List ℕ) (n : ℕ) → rank_of (slice_get (map new_part firsts) n) ≡ 0
new_rank [] n = refl
new_rank (first ∷ firsts) zero = refl
new_rank (first ∷ firsts) (suc n) = new_rank firsts n

-- No part of it has a value.
pub new_dead : (firsts : List ℕ) (n : ℕ) (p : PartState) → slice_get (map new_part firsts) n ≡ Some p → p.alive ≡ false
new_dead [] n p is = absurd (cc is)
new_dead (first ∷ firsts) zero p is = let one : new_part first ≡ p = cc is in sym (ap (λ (q : PartState). q.alive) one)
new_dead (first ∷ firsts) (suc n) p is = new_dead firsts n p is

pub rank_more : (xs : Heap) (y : Object) → ((n : ℕ) → rank_in y n ≡ 0) → (j n : ℕ) → rank_at (xs ++ y ∷ []) j n ≡ rank_at xs j n
rank_more [] y new zero n = new n
rank_more [] y new (suc j) n = refl
rank_more (x ∷ xs) y new zero n = refl
rank_more (x ∷ xs) y new (suc j) n = rank_more xs y new j n

-- It is the last one.
pub more_at : (xs : Heap) (y : Object) → slice_get (xs ++ y ∷ []) (length xs) ≡ Some y
more_at [] y = refl
more_at (x ∷ xs) y = more_at xs y

pub more_same : (xs : Heap) (y : Object) (j : ℕ) → j ≢ length xs → slice_get (xs ++ y ∷ []) j ≡ slice_get xs j
more_same [] y zero ne = absurd (ne refl)
more_same [] y (suc j) ne = refl
more_same (x ∷ xs) y zero ne = refl
more_same (x ∷ xs) y (suc j) ne = more_same xs y j (λ e. ne (ap suc e))

pub more_none : (xs : Heap) → slice_get xs (length xs) ≡ None
more_none [] = refl
more_none (x ∷ xs) = more_none xs

pub more_others : (xs : Heap) (y : Object) (j : ℕ) (z : Object) → j ≢ length xs → slice_get (xs ++ y ∷ []) j ≡ Some z → slice_get xs j ≡ Some z
more_others [] y zero z ne is = absurd (ne refl)
more_others [] y (suc j) z ne is = is
more_others (x ∷ xs) y zero z ne is = is
more_others (x ∷ xs) y (suc j) z ne is = more_others xs y j z (λ e. ne (ap suc e)) is
