-- Facts on numbers and lists.

use Rattle.std.proofs.Common.{◌≡◌, ◌≢◌, ℕ, zero, suc, ◌<◌, Bool, true, false, List, [], ◌∷◌, ◌++◌, length, get_or, refl, ap, ◌∙◌, inl, inr, subst, arith, reverse}
use Rattle.std.specs.Prelude.{◌==◌, if◌then◌else◌}
use Rattle.std.specs.List.{All, Contains, flat_map, sum_by}
use Rattle.std.proofs.lemmas.Bool.Decides.{eqb_tells}
use Rattle.std.proofs.lemmas.List.{reverse-append}
use Rattle.std.proofs.lemmas.List.Sums.{sum_by-cons}

pub eq_self : (a : ℕ) → (a == a) ≡ true
eq_self a = elim (eqb_tells a a) [ inl h ↦ h.0 | inr h ↦ absurd (h.1 refl) ]

pub eq_not : (a b : ℕ) → a ≢ b → (a == b) ≡ false
eq_not a b ne = elim (eqb_tells a b) [ inl h ↦ absurd (ne h.1) | inr h ↦ h.0 ]

-- A fact on each element holds of the first one and of the others.
pub all_head : {X : Type 0} (P : X → Type 0) (x : X) (xs : List X) → All P (x ∷ xs) → P x
all_head P x xs all = all 0 x (omega arith)

pub all_tail : {X : Type 0} (P : X → Type 0) (x : X) (xs : List X) → All P (x ∷ xs) → All P xs
all_tail P x xs all = λ k d lt. all (suc k) d (omega (arith, lt))

pub all_cons : {X : Type 0} (P : X → Type 0) (x : X) (xs : List X) → P x → All P xs → All P (x ∷ xs)
all_cons {X} P x xs head tail = at
  where
    at : (k : ℕ) (d : X) → k < length (x ∷ xs) → P (get_or (x ∷ xs) k d)
    at zero d lt = head
    at (suc k) d lt = tail k d (omega (arith, lt))

pub all_none : {X : Type 0} (P : X → Type 0) → All P []
all_none P = λ k d lt. absurd (omega (arith, lt))

pub all_map : {X : Type 0} (P Q : X → Type 0) (xs : List X) → ((x : X) → P x → Q x) → All P xs → All Q xs
all_map P Q xs each all = λ k d lt. each (get_or xs k d) (all k d lt)

-- What holds of each element that a list contains holds of all.
pub all_contained : {X : Type 0} (P : X → Type 0) (xs : List X) → ((x : X) → Contains xs x → P x) → All P xs
all_contained P xs each = λ k d lt. each (get_or xs k d) (k, lt, same xs k d (get_or xs k d) lt)
  where
    same : {X : Type 0} (xs : List X) (k : ℕ) (d e : X) → k < length xs → get_or xs k (get_or xs k d) ≡ get_or xs k d
    same [] k d e lt = absurd (omega (arith, lt))
    same (x ∷ xs) zero d e lt = refl
    same (x ∷ xs) (suc k) d e lt = same xs k d e (omega (arith, lt))

pub contained : {X : Type 0} (P : X → Type 0) (xs : List X) (x : X) → All P xs → Contains xs x → P x
contained P xs x all (k, lt, is) = subst P is (all k x lt)

-- Sums and lists of lists whose terms are the same.
pub sum_same : {X : Type 0} (f g : X → ℕ) (xs : List X) → All (λ x. f x ≡ g x) xs → sum_by f xs ≡ sum_by g xs
sum_same f g [] all = refl
sum_same f g (x ∷ xs) all =
    let head = all_head (λ x. f x ≡ g x) x xs all in
    let more = sum_same f g xs (all_tail (λ x. f x ≡ g x) x xs all) in
    let a = sum_by-cons f x xs in
    let b = sum_by-cons g x xs in
    omega (arith, head, more, a, b)

pub flat_same : {X Y : Type 0} (f g : X → List Y) (xs : List X) → All (λ x. f x ≡ g x) xs → flat_map f xs ≡ flat_map g xs
flat_same f g [] all = refl
flat_same {X} {Y} f g (x ∷ xs) all =
    ap (λ (ys : List Y). ys ++ flat_map f xs) (all_head (λ x. f x ≡ g x) x xs all)
    ∙ ap (λ (ys : List Y). g x ++ ys) (flat_same f g xs (all_tail (λ x. f x ≡ g x) x xs all))

pub reverse_cons : {X : Type 0} (x : X) (xs : List X) → reverse (x ∷ xs) ≡ reverse xs ++ x ∷ []
reverse_cons x xs = reverse-append (x ∷ []) xs

pub reverse_push : {X : Type 0} (xs : List X) (x : X) → reverse (xs ++ x ∷ []) ≡ x ∷ reverse xs
reverse_push xs x = reverse-append xs (x ∷ [])

-- What a push leaves that succeeded.
pub pushed : {X : Type 0} (b : Bool) (after more before : List X) → b ≡ true → after ≡ (if b then more else before) → after ≡ more
pushed {X} b after more before is e = e ∙ ap (λ (c : Bool). if c then more else before) is
