-- Each part of an object that exists has a value, or is waited for by one thing that is being done: it is to begin, or its object is to cease to exist, and
-- is not to be finalized before that.

use Rattle.std.proofs.Common.{◌≡◌, ◌≢◌, ℕ, zero, suc, ◌+◌, List, [], ◌∷◌, ◌++◌, length, map, Option, Some, None, refl, sym, ap, ◌∙◌, inl, inr, subst, arith}
use Rattle.std.specs.List.{slice_get, slice_set}
use Rattle.std.proofs.lemmas.Bool.Decides.{eqb_tells}
use Rattle.ada_parts.specs.Shape.{Shape}
use Rattle.ada_meaning.specs.declared.state.Stage.TheVariants.{Existing}
use Rattle.ada_meaning.specs.Heap.{PartState}
use Rattle.ada_meaning.specs.Named.{Object, with_part, treated}
use Rattle.ada_finalized.proofs.Counts.{one_if}
use Rattle.ada_finalized.proofs.Ranks.{Heap, bare, set_same, set_other, more_same, more_none, more_at}
use Rattle.ada_finalized.proofs.Doings.{Doing, gains, losses, Fewer, fewer_gains, fewer_losses}

abbrev pub Claimed : Option Object → (part gained lost : ℕ) → Type 0
Claimed None n p q = p ≡ q
Claimed (Some x) n p q = x.stage ≡ Existing → (part : PartState) → slice_get x.cell.parts n ≡ Some part → one_if part.alive + p ≡ 1 + q

abbrev pub Claims : List Shape → Heap → List Doing → Type 0
Claims shapes xs ds = (j n : ℕ) → Claimed (slice_get xs j) n (gains shapes j n ds) (losses shapes j n ds)

-- As much more is waited for as is to be finalized before.
pub claimed_on : (found : Option Object) (n p q p' q' : ℕ) → p' + q ≡ p + q' → Claimed found n p q → Claimed found n p' q'
claimed_on None n p q p' q' e h = omega (arith, e, h)
claimed_on (Some x) n p q p' q' e h = λ stage part is. (let one = h stage part is in omega (arith, e, one))

pub claims_fewer : (shapes : List Shape) (xs : Heap) (ds es : List Doing) → Fewer ds es → Claims shapes xs ds → Claims shapes xs es
claims_fewer shapes xs ds es f h j n =
    claimed_on (slice_get xs j) n (gains shapes j n ds) (losses shapes j n ds) (gains shapes j n es) (losses shapes j n es)
    (let a = fewer_gains shapes j n ds es f in let b = fewer_losses shapes j n ds es f in omega (arith, a, b)) (h j n)

pub claims_same :
    (shapes : List Shape) (xs : Heap) (ds es : List Doing)
    → ((j n : ℕ) → gains shapes j n es + losses shapes j n ds ≡ gains shapes j n ds + losses shapes j n es) → Claims shapes xs ds → Claims shapes xs es
claims_same shapes xs ds es e h j n =
    claimed_on (slice_get xs j) n (gains shapes j n ds) (losses shapes j n ds) (gains shapes j n es) (losses shapes j n es) (e j n) (h j n)

-- Components do not count.
abbrev bare_in : Option Object → Option Object
bare_in None = None
bare_in (Some x) = Some (bare x)

bare_get : (xs : Heap) (j : ℕ) → slice_get (map bare xs) j ≡ bare_in (slice_get xs j)
bare_get [] j = refl
bare_get (x ∷ xs) zero = refl
bare_get (x ∷ xs) (suc j) = bare_get xs j

to_bare : (found : Option Object) (n p q : ℕ) → Claimed found n p q → Claimed (bare_in found) n p q
to_bare None n p q h = h
to_bare (Some x) n p q h = h

from_bare : (found : Option Object) (n p q : ℕ) → Claimed (bare_in found) n p q → Claimed found n p q
from_bare None n p q h = h
from_bare (Some x) n p q h = h

pub claims_alike : (shapes : List Shape) (xs ys : Heap) (ds : List Doing) → map bare ys ≡ map bare xs → Claims shapes xs ds → Claims shapes ys ds
claims_alike shapes xs ys ds e h j n =
    let p = gains shapes j n ds in
    let q = losses shapes j n ds in
    let same : bare_in (slice_get xs j) ≡ bare_in (slice_get ys j) = sym (bare_get xs j) ∙ ap (λ (zs : Heap). slice_get zs j) (sym e) ∙ bare_get ys j in
    from_bare (slice_get ys j) n p q (subst (λ (found : Option Object). Claimed found n p q) same (to_bare (slice_get xs j) n p q (h j n)))

-- One object changes.
module _ (shapes : List Shape) (xs : Heap) (o : ℕ) (x y : Object) (ds es : List Doing) (at_o : slice_get xs o ≡ Some x) (same : (j n : ℕ) → o ≢ j → gains shapes j n es + losses shapes j n ds ≡ gains shapes j n ds + losses shapes j n es) (h : Claims shapes xs ds) where
  pub claims_set : ((n : ℕ) → Claimed (Some y) n (gains shapes o n es) (losses shapes o n es)) → Claims shapes (slice_set xs o y) es
  claims_set here j n = elim (eqb_tells o j) [ inl t ↦ now t.1 | inr t ↦ other t.1 ]
    where
      now : o ≡ j → Claimed (slice_get (slice_set xs o y) j) n (gains shapes j n es) (losses shapes j n es)
      now e =
          subst (λ (i : ℕ). Claimed (slice_get (slice_set xs o y) i) n (gains shapes i n es) (losses shapes i n es)) e
          (subst (λ (found : Option Object). Claimed found n (gains shapes o n es) (losses shapes o n es)) (sym (set_same xs o x y at_o)) (here n))

      other : o ≢ j → Claimed (slice_get (slice_set xs o y) j) n (gains shapes j n es) (losses shapes j n es)
      other ne =
          subst (λ (found : Option Object). Claimed found n (gains shapes j n es) (losses shapes j n es)) (sym (set_other xs o j y ne))
          (claimed_on (slice_get xs j) n (gains shapes j n ds) (losses shapes j n ds) (gains shapes j n es) (losses shapes j n es) (same j n ne) (h j n))

  at_object : (n : ℕ) → Claimed (Some x) n (gains shapes o n ds) (losses shapes o n ds)
  at_object n = subst (λ (found : Option Object). Claimed found n (gains shapes o n ds) (losses shapes o n ds)) at_o (h o n)

  -- Its parts stay what they are.
  pub claims_flags :
      y.cell.parts ≡ x.cell.parts → (y.stage ≡ Existing → x.stage ≡ Existing)
      → ((n : ℕ) (p : PartState) → slice_get x.cell.parts n ≡ Some p
      → gains shapes o n es + losses shapes o n ds ≡ gains shapes o n ds + losses shapes o n es)
      → Claims shapes (slice_set xs o y) es
  claims_flags parts stages here =
      claims_set (λ n stage p is.
      let is' : slice_get x.cell.parts n ≡ Some p = ap (λ (ps : List PartState). slice_get ps n) (sym parts) ∙ is in
      let a = at_object n (stages stage) p is' in
      let b = here n p is' in
      omega (arith, a, b))

-- One part of an object changes.
pub claims_part :
    (shapes : List Shape) (xs : Heap) (change : PartState → PartState) (o n : ℕ) (x : Object) (p : PartState) (ds es : List Doing)
    → slice_get xs o ≡ Some x → slice_get x.cell.parts n ≡ Some p
    → ((j m : ℕ) → o ≢ j → gains shapes j m es + losses shapes j m ds ≡ gains shapes j m ds + losses shapes j m es)
    → ((m : ℕ) → n ≢ m → gains shapes o m es + losses shapes o m ds ≡ gains shapes o m ds + losses shapes o m es)
    → one_if ((change p).alive) + gains shapes o n es ≡ 1 + losses shapes o n es → Claims shapes xs ds
    → Claims shapes (slice_set xs o (treated change n x)) es
claims_part shapes xs change o n x p ds es at_o at_n same others here h =
    claims_set shapes xs o x (treated change n x) ds es at_o same h (λ m stage q is. elim (eqb_tells n m) [ inl t ↦ now m q is t.1 | inr t ↦ other m stage q is t.1 ])
  where
    ps : List PartState
    ps = x.cell.parts

    got : (m : ℕ) (q : PartState) → slice_get (treated change n x).cell.parts m ≡ Some q → slice_get (slice_set ps n (change p)) m ≡ Some q
    got m q is = sym (ap (λ (found : Option PartState). slice_get (with_part change n found ps) m) at_n) ∙ is

    now : (m : ℕ) (q : PartState) → slice_get (treated change n x).cell.parts m ≡ Some q → n ≡ m → one_if q.alive + gains shapes o m es ≡ 1 + losses shapes o m es
    now m q is e =
        let both : Some (change p) ≡ Some q = sym (set_same ps n p (change p) at_n) ∙ ap (slice_get (slice_set ps n (change p))) e ∙ got m q is in
        let one : change p ≡ q = cc both in
        subst (λ (i : ℕ). one_if q.alive + gains shapes o i es ≡ 1 + losses shapes o i es) e
        (subst (λ (r : PartState). one_if r.alive + gains shapes o n es ≡ 1 + losses shapes o n es) one here)

    other : (m : ℕ) → x.stage ≡ Existing → (q : PartState) → slice_get (treated change n x).cell.parts m ≡ Some q → n ≢ m → one_if q.alive + gains shapes o m es ≡ 1 + losses shapes o m es
    other m stage q is ne =
        let a = at_object shapes xs o x (treated change n x) ds es at_o same h m stage q (sym (set_other ps n m (change p) ne) ∙ got m q is) in
        let b = others m ne in
        omega (arith, a, b)

-- One object more.
pub claims_more :
    (shapes : List Shape) (xs : Heap) (y : Object) (ds es : List Doing)
    → ((j n : ℕ) → length xs ≢ j → gains shapes j n es + losses shapes j n ds ≡ gains shapes j n ds + losses shapes j n es)
    → ((n : ℕ) → gains shapes (length xs) n ds ≡ losses shapes (length xs) n ds
    → Claimed (Some y) n (gains shapes (length xs) n es) (losses shapes (length xs) n es)) → Claims shapes xs ds → Claims shapes (xs ++ y ∷ []) es
claims_more shapes xs y ds es same here h j n = elim (eqb_tells (length xs) j) [ inl t ↦ now t.1 | inr t ↦ other t.1 ]
  where
    now : length xs ≡ j → Claimed (slice_get (xs ++ y ∷ []) j) n (gains shapes j n es) (losses shapes j n es)
    now e =
        let none = subst (λ (found : Option Object). Claimed found n (gains shapes (length xs) n ds) (losses shapes (length xs) n ds)) (more_none xs) (h (length xs) n) in
        subst (λ (i : ℕ). Claimed (slice_get (xs ++ y ∷ []) i) n (gains shapes i n es) (losses shapes i n es)) e
        (subst (λ (found : Option Object). Claimed found n (gains shapes (length xs) n es) (losses shapes (length xs) n es)) (sym (more_at xs y)) (here n none))

    other : length xs ≢ j → Claimed (slice_get (xs ++ y ∷ []) j) n (gains shapes j n es) (losses shapes j n es)
    other ne =
        subst (λ (found : Option Object). Claimed found n (gains shapes j n es) (losses shapes j n es)) (sym (more_same xs y j (λ e. ne (sym e))))
        (claimed_on (slice_get xs j) n (gains shapes j n ds) (losses shapes j n ds) (gains shapes j n es) (losses shapes j n es) (same j n ne) (h j n))
