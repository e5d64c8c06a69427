-- The numbers of parts.

use Rattle.std.proofs.Common.{◌≡◌, ℕ, zero, suc, ◌+◌, ◌-◌, ◌<◌, ◌≤◌, Bool, true, false, List, [], ◌∷◌, ◌++◌, length, refl, sym, ap, ◌∙◌, inl, inr, subst, arith}
use Rattle.std.specs.Prelude.{if◌then◌else◌}
use Rattle.std.specs.List.{Contains, flat_map, range_with_len, sum_by}
use Rattle.std.proofs.lemmas.Bool.Decides.{eqb_tells}
use Rattle.std.proofs.lemmas.List.{map-append, length-map}
use Rattle.std.proofs.lemmas.List.Sums.{sum_by-cons}
use Rattle.std.proofs.lemmas.List.FromFn.{length-range_with_len, get_or-range_with_len}
use Rattle.ada_parts.specs.declared.tasks.Component.{Component}
use Rattle.ada_parts.specs.Shape.{Shape, own_parts, parts_of, shape_of, IsTable}
use Rattle.ada_parts.specs.Part.{Part, in_order, components_of, own_part, parts_at, numbers, LiesIn}
use Rattle.ada_parts.specs.Law.{parts_in}
use Rattle.ada_parts.proofs.Tables.{at_newest, at_older, parts_newest, parts_older, parts_step}

range_append : (a m n : ℕ) → range_with_len a (m + n) ≡ range_with_len a m ++ range_with_len (a + m) n
range_append a zero n =
    let m : 0 + n ≡ n = omega arith in
    let b : a ≡ a + 0 = omega arith in
    ap (range_with_len a) m ∙ ap (λ (x : ℕ). range_with_len x n) b
range_append a (suc m) n =
    let k : suc m + n ≡ suc (m + n) = omega arith in
    let b : a + 1 + m ≡ a + suc m = omega arith in
    ap (range_with_len a) k
    ∙ ap (λ (xs : List ℕ). a ∷ xs) (range_append (a + 1) m n ∙ ap (λ (x : ℕ). range_with_len (a + 1) m ++ range_with_len x n) b)

-- The numbers of components in order follow each other.
pub order_numbers : (at : ℕ → ℕ → List Part) (f : ℕ → ℕ) (ts : List ℕ) (p : ℕ) → ((t q : ℕ) → numbers (at t q) ≡ range_with_len q (f t)) → numbers (flat_map (λ c. at c.of c.first) (in_order f ts p)) ≡ range_with_len p (sum_by f ts)
order_numbers at f [] p each = refl
order_numbers at f (t ∷ ts) p each =
    map-append (λ (x : Part). x.number) (at t p) (flat_map (λ (c : Component). at c.of c.first) (in_order f ts (p + f t)))
    ∙ ap (λ (xs : List ℕ). xs ++ numbers (flat_map (λ (c : Component). at c.of c.first) (in_order f ts (p + f t)))) (each t p)
    ∙ ap (λ (xs : List ℕ). range_with_len p (f t) ++ xs) (order_numbers at f ts (p + f t) each)
    ∙ sym (range_append p (f t) (sum_by f ts))
    ∙ ap (range_with_len p) (sym (sum_by-cons f t ts))

own_numbers : (s : Shape) (t p : ℕ) → numbers (own_part s t p) ≡ range_with_len p (own_parts s)
own_numbers s t p = go s.controlled
  where
    go : (b : Bool) → numbers (if b then record { of = t; number = p } ∷ [] else []) ≡ range_with_len p (if b then 1 else 0)
    go true = refl
    go false = refl

pub numbered : (shapes : List Shape) (t p : ℕ) → numbers (parts_at shapes t p) ≡ range_with_len p (parts_of shapes t)
numbered [] t p = refl
numbered (s ∷ older) t p = elim (eqb_tells t (length older)) [ inl h ↦ newest h.1 (λ u q. numbered older u q) | inr h ↦ ap numbers (at_older s older t p h.1) ∙ numbered older t p ∙ ap (range_with_len p) (sym (parts_older s older t h.1)) ]
  where
    newest : t ≡ length older → ((u q : ℕ) → numbers (parts_at older u q) ≡ range_with_len q (parts_of older u)) → numbers (parts_at (s ∷ older) t p) ≡ range_with_len p (parts_of (s ∷ older) t)
    newest e each =
        subst (λ (u : ℕ). numbers (parts_at (s ∷ older) u p) ≡ range_with_len p (parts_of (s ∷ older) u)) (sym e)
        (ap numbers (at_newest s older p)
        ∙ map-append (λ (x : Part). x.number) (own_part s (length older) p) (flat_map (λ (c : Component). parts_at older c.of c.first) (in_order (parts_of older) s.components (p + own_parts s)))
        ∙ ap (λ (xs : List ℕ). xs ++ numbers (flat_map (λ (c : Component). parts_at older c.of c.first) (in_order (parts_of older) s.components (p + own_parts s)))) (own_numbers s (length older) p)
        ∙ ap (λ (xs : List ℕ). range_with_len p (own_parts s) ++ xs) (order_numbers (parts_at older) (parts_of older) s.components (p + own_parts s) each)
        ∙ sym (range_append p (own_parts s) (sum_by (parts_of older) s.components))
        ∙ ap (range_with_len p) (sym (parts_newest s older)))

-- How many parts there are.
pub count_parts : (shapes : List Shape) (t p : ℕ) → length (parts_at shapes t p) ≡ parts_of shapes t
count_parts shapes t p =
    sym (length-map (parts_at shapes t p) (λ (x : Part). x.number)) ∙ ap length (numbered shapes t p) ∙ length-range_with_len p (parts_of shapes t)

in_range : (a n q : ℕ) → a ≤ q → q < a + n → Contains (range_with_len a n) q
in_range a n q low high =
    let l = length-range_with_len a n in
    (q - a, omega (arith, l, low, high), get_or-range_with_len a n (q - a) q (omega (arith, low, high)) ∙ omega (arith, low))

-- The parts that lie in a controlled record are those of its components.
pub inside : (shapes : List Shape) (t p number : ℕ) → IsTable shapes → t < length shapes → (shape_of shapes t).controlled ≡ true → LiesIn shapes number (record { of = t; number = p }) → Contains (numbers (parts_in shapes (components_of shapes t p))) number
inside shapes t p number table lt is lies =
    let one : own_parts (shape_of shapes t) ≡ 1 = ap (λ (b : Bool). if b then 1 else 0) is in
    let s = parts_step shapes t table lt in
    let behind = lies.behind in
    let within = lies.within in
    subst (λ (xs : List ℕ). Contains xs number)
    (sym (order_numbers (parts_at shapes) (parts_of shapes) (shape_of shapes t).components (p + own_parts (shape_of shapes t)) (numbered shapes)))
    (in_range (p + own_parts (shape_of shapes t)) (sum_by (parts_of shapes) (shape_of shapes t).components) number (omega (arith, one, behind)) (omega (arith, s, within)))
