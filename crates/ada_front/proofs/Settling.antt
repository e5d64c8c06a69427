-- Parts that are settled from the last declaration on.

use Rattle.std.proofs.Common.{◌≡◌, ℕ, zero, suc, ◌+◌, ◌-◌, ◌<◌, ◌≤◌, Bool, ◌||◌, List, [], ◌∷◌, ◌++◌, length, take, drop, get_or, set, arith, refl, ap, sym, subst, ◌∙◌}
use Rattle.std.specs.List.{list_any}
use Rattle.ada_tree.specs.declared.declarations.Declaration.{Declaration}
use Rattle.ada_tree.specs.Declarations.{HeadTree}
use Rattle.ada_tree.specs.Names.{Ident}
use Rattle.ada_tree.specs.Statements.{DeclarationsTree, no_declarations, a_declaration}
use Rattle.ada_tree.specs.StatementView.{declaration_of, declarations_of}
use Rattle.ada_front.specs.Front.{completes, has_body, is_body_of, is_completed, settled, settled_all}
use Rattle.ada_front.specs.View.{completes_in, is_body_in, settled_at, settled_from}

-- Some declaration is a body of the operation.
pub body_among : (head : HeadTree) (xs : List Declaration) → list_any (is_body_in head) xs ≡ has_body head (declarations_of xs)
body_among head [] = refl
body_among head (x ∷ xs) = ap (λ (b : Bool). is_body_of head (declaration_of x) || b) (body_among head xs)

-- Some declaration completes the type.
pub completed_among : (name : Ident) (xs : List Declaration) → list_any (completes_in name) xs ≡ is_completed name (declarations_of xs)
completed_among name [] = refl
completed_among name (x ∷ xs) = ap (λ (b : Bool). completes name (declaration_of x) || b) (completed_among name xs)

from_first : (ds : DeclarationsTree) → settled_from 0 ds ≡ settled_all ds
unfolding settled_from
from_first no_declarations = refl
from_first (a_declaration d ds) = refl

-- One more is settled.
pub settled_next : (k : ℕ) (ds : DeclarationsTree) → settled_at k (settled_from (suc k) ds) ≡ settled_from k ds
unfolding settled_from settled_at
settled_next zero no_declarations = refl
settled_next (suc k) no_declarations = refl
settled_next zero (a_declaration d ds) = ap (settled d) (from_first ds)
settled_next (suc k) (a_declaration d ds) = ap (a_declaration d) (settled_next k ds)

settled_next_to : (k : ℕ) (ds es fs : DeclarationsTree) → es ≡ settled_from (suc k) ds → fs ≡ settled_at k es → fs ≡ settled_from k ds
settled_next_to k ds es fs from at = at ∙ ap (settled_at k) from ∙ settled_next k ds

-- The next one is settled.
pub settled_more : (k : ℕ) (ds es fs : DeclarationsTree) → 0 < k → es ≡ settled_from k ds → fs ≡ settled_at (k - 1) es → fs ≡ settled_from (k - 1) ds
settled_more k ds es fs lt from at =
    let one : k ≡ suc (k - 1) = omega (arith, lt) in
    settled_next_to (k - 1) ds es fs (from ∙ ap (λ (n : ℕ). settled_from n ds) one) at

settled_none : (xs : List Declaration) → declarations_of xs ≡ settled_from (length xs) (declarations_of xs)
unfolding settled_from
settled_none [] = refl
settled_none (x ∷ xs) = ap (a_declaration (declaration_of x)) (settled_none xs)

-- None is settled yet.
pub settled_first : (xs : List Declaration) (n : ℕ) → n ≡ length xs → declarations_of xs ≡ settled_from n (declarations_of xs)
settled_first xs n e = settled_none xs ∙ ap (λ (k : ℕ). settled_from k (declarations_of xs)) (sym e)

-- All are.
pub settled_whole : (k : ℕ) (ds es : DeclarationsTree) → k ≤ 0 → es ≡ settled_from k ds → es ≡ settled_all ds
settled_whole k ds es le e =
    let none : k ≡ 0 = omega (arith, le) in
    e ∙ ap (λ (n : ℕ). settled_from n ds) none ∙ from_first ds

-- What stands at a place and behind it is exchanged for what is settled there.
placed : (xs : List Declaration) (k : ℕ) (x : Declaration) (tail : List Declaration) → k < length xs → x ≡ get_or xs k x
    → settled (declaration_of x) (declarations_of (drop (suc k) xs)) ≡ declarations_of tail
    → declarations_of (take k xs ++ tail) ≡ settled_at k (declarations_of xs)
unfolding settled_at
placed [] k x tail lt here e = absurd (omega (arith, lt))
placed (y ∷ ys) zero x tail lt here e = sym e ∙ ap (λ (z : Declaration). settled (declaration_of z) (declarations_of ys)) here
placed (y ∷ ys) (suc k) x tail lt here e = ap (a_declaration (declaration_of y)) (placed ys k x tail (omega (arith, lt)) here e)

parted : (xs : List Declaration) (k : ℕ) (x : Declaration) → k < length xs → x ≡ get_or xs k x → take k xs ++ x ∷ drop (suc k) xs ≡ xs
parted [] k x lt here = absurd (omega (arith, lt))
parted (y ∷ ys) zero x lt here = ap (λ (z : Declaration). z ∷ ys) here
parted (y ∷ ys) (suc k) x lt here = ap (λ zs. y ∷ zs) (parted ys k x (omega (arith, lt)) here)

parted_set : (xs : List Declaration) (k : ℕ) (y : Declaration) → k < length xs → take k xs ++ y ∷ drop (suc k) xs ≡ set xs k y
parted_set [] k y lt = absurd (omega (arith, lt))
parted_set (x ∷ xs) zero y lt = refl
parted_set (x ∷ xs) (suc k) y lt = ap (λ ys. x ∷ ys) (parted_set xs k y (omega (arith, lt)))

one_more : (k : ℕ) → k + 1 ≡ suc k
one_more k = omega arith

take_all : (xs : List Declaration) (n : ℕ) → length xs ≤ n → take n xs ≡ xs
take_all [] zero le = refl
take_all [] (suc n) le = refl
take_all (x ∷ xs) zero le = absurd (omega (arith, le))
take_all (x ∷ xs) (suc n) le = ap (λ ys. x ∷ ys) (take_all xs n (omega (arith, le)))

rest_length : (n : ℕ) (xs : List Declaration) → length (drop n xs) ≤ length xs - n
rest_length zero xs = omega arith
rest_length (suc n) [] = omega arith
rest_length (suc n) (x ∷ xs) = omega (arith, rest_length n xs)

-- The declarations behind a place, as they are lent.
behind : (xs ys : List Declaration) (k : ℕ) → ys ≡ xs → take (length ys - (k + 1)) (drop (k + 1) ys) ≡ drop (suc k) xs
behind xs ys k same =
    take_all (drop (k + 1) ys) (length ys - (k + 1)) (rest_length (k + 1) ys) ∙ ap (λ (n : ℕ). drop n ys) (one_more k) ∙ ap (drop (suc k)) same

settled_behind : (xs ys : List Declaration) (k : ℕ) (x : Declaration) (made : DeclarationsTree → DeclarationsTree) → ys ≡ xs
    → settled (declaration_of x) (declarations_of (take (length ys - (k + 1)) (drop (k + 1) ys))) ≡ made (declarations_of (take (length ys - (k + 1)) (drop (k + 1) ys)))
    → settled (declaration_of x) (declarations_of (drop (suc k) xs)) ≡ made (declarations_of (drop (suc k) xs))
settled_behind xs ys k x made same h =
    subst (λ (zs : List Declaration). settled (declaration_of x) (declarations_of zs) ≡ made (declarations_of zs)) (behind xs ys k same) h

-- It stays.
pub placed_same : (xs ys : List Declaration) (k : ℕ) (x : Declaration) → k < length xs → x ≡ get_or xs k x → ys ≡ xs
    → settled (declaration_of x) (declarations_of (take (length ys - (k + 1)) (drop (k + 1) ys)))
    ≡ a_declaration (declaration_of x) (declarations_of (take (length ys - (k + 1)) (drop (k + 1) ys)))
    → declarations_of xs ≡ settled_at k (declarations_of xs)
placed_same xs ys k x lt here same h =
    ap declarations_of (sym (parted xs k x lt here)) ∙
    placed xs k x (x ∷ drop (suc k) xs) lt here (settled_behind xs ys k x (a_declaration (declaration_of x)) same h)

-- It goes.
pub placed_none : (xs ys new : List Declaration) (k : ℕ) (x : Declaration) → k < length xs → x ≡ get_or xs k x → ys ≡ xs → new ≡ take k xs ++ drop (k + 1) xs
    → settled (declaration_of x) (declarations_of (take (length ys - (k + 1)) (drop (k + 1) ys))) ≡ declarations_of (take (length ys - (k + 1)) (drop (k + 1) ys))
    → declarations_of new ≡ settled_at k (declarations_of xs)
placed_none xs ys new k x lt here same is h =
    ap declarations_of is ∙ ap (λ (n : ℕ). declarations_of (take k xs ++ drop n xs)) (one_more k) ∙
    placed xs k x (drop (suc k) xs) lt here (settled_behind xs ys k x (λ ds. ds) same h)

-- Another one stands in its place.
pub placed_other : (xs ys : List Declaration) (k : ℕ) (x y : Declaration) → k < length xs → x ≡ get_or xs k x → ys ≡ xs
    → settled (declaration_of x) (declarations_of (take (length ys - (k + 1)) (drop (k + 1) ys)))
    ≡ a_declaration (declaration_of y) (declarations_of (take (length ys - (k + 1)) (drop (k + 1) ys)))
    → declarations_of (set xs k y) ≡ settled_at k (declarations_of xs)
placed_other xs ys k x y lt here same h =
    ap declarations_of (sym (parted_set xs k y lt)) ∙
    placed xs k x (y ∷ drop (suc k) xs) lt here (settled_behind xs ys k x (a_declaration (declaration_of y)) same h)
