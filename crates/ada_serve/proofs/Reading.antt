-- What a reader gives in several calls, and what is kept of it.

use Rattle.std.proofs.Common.{◌≡◌, ◌⊎◌, inl, inr, ℕ, zero, suc, ◌-◌, ◌<◌, arith, List, [], ◌∷◌, ◌++◌, append_assoc, append-nil, length, take, refl, sym, ◌∙◌, ap, Option, Some, None}
use Rattle.std.specs.Io.KnownBytes.{Consumes, IsAtEnd}
use Rattle.ada_serve.specs.Calls.{IsAll}

-- what two reads gave
pub consumes_both : (a b c : Option (List ℕ)) (bs cs : List ℕ) → Consumes a b bs → Consumes b c cs → Consumes a c (bs ++ cs)
consumes_both None b c bs cs p q = tt
consumes_both (Some x) None c bs cs p q = absurd p
consumes_both (Some x) (Some y) None bs cs p q = absurd q
consumes_both (Some x) (Some y) (Some z) bs cs p q = p ∙ ap (λ l. bs ++ l) q ∙ sym (append_assoc bs cs z)

pub consumes_none : (a : Option (List ℕ)) → Consumes a a []
consumes_none None = tt
consumes_none (Some x) = refl

-- at its end a reader gave all that it had
pub all_given : (a b c : Option (List ℕ)) (bs : List ℕ) → Consumes a b bs → Consumes b c [] → IsAtEnd c → IsAll a bs
all_given None b c bs p q e = tt
all_given (Some x) None c bs p q e = absurd p
all_given (Some x) (Some y) None bs p q e = absurd q
all_given (Some x) (Some y) (Some z) bs p q e = sym (p ∙ ap (λ l. bs ++ l) (q ∙ e) ∙ append-nil bs)

-- the front of a text, and what there is room for of the next
pub front_more : (m : ℕ) (xs ys : List ℕ) → take m xs ++ take (m - length (take m xs)) ys ≡ take m (xs ++ ys)
front_more zero xs ys = refl
front_more (suc m) [] ys = let e : suc m - 0 ≡ suc m = omega arith in ap (λ n. take n ys) e
front_more (suc m) (x ∷ xs) ys =
    let e : suc m - suc (length (take m xs)) ≡ m - length (take m xs) = omega arith in
    ap (λ n. x ∷ (take m xs ++ take n ys)) e ∙ ap (λ l. x ∷ l) (front_more m xs ys)

pub kept_more : (m : ℕ) (kept bytes more last : List ℕ) → kept ≡ take m bytes → last ≡ kept ++ take (m - length kept) more → last ≡ take m (bytes ++ more)
kept_more m kept bytes more last e f = f ∙ ap (λ (k : List ℕ). k ++ take (m - length k) more) e ∙ front_more m bytes more

-- all of a text is kept, or it is too long
pub fits : (m : ℕ) (all : List ℕ) → (take m all ≡ all) ⊎ ((length (take m all) ≡ m) × (m < length all))
fits zero [] = inl refl
fits zero (x ∷ xs) = inr (refl, omega arith)
fits (suc m) [] = inl refl
fits (suc m) (x ∷ xs) = elim (fits m xs) [ inl e ↦ inl (ap (λ (rest : List ℕ). x ∷ rest) e) | inr h ↦ inr (ap suc h.0, omega (arith, h.1)) ]
