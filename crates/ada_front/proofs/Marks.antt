-- Which marks of a list are over by a fault.

use Rattle.std.proofs.Common.{◌≡◌, ℕ, Bool, true, false, not, ◌||◌, ◌&&◌, List, [], ◌∷◌, ◌++◌, arith, refl, ap, sym, ◌∙◌}
use Rattle.std.specs.Prelude.{if◌then◌else◌, nat_lt, ◌==◌}
use Rattle.std.proofs.lemmas.Bool.Decides.{nat_tests}
use Rattle.ada_text.specs.declared.spot.Spot.{Spot}
use Rattle.ada_front.specs.Front.{has_begun, stands_before}
use Rattle.ada_front.specs.Marks.{Mark, a_place, declares_type, declares, does, mark_spot, simple, marks_begun, over_by, IsFirst, InOrder}

pub if_true : {A : Type 0} (b : Bool) (x y : A) → b ≡ true → (if b then x else y) ≡ x
if_true true x y e = refl
if_true false x y e = absurd (cc e)

pub if_false : {A : Type 0} (b : Bool) (x y : A) → b ≡ false → (if b then x else y) ≡ y
if_false true x y e = absurd (cc e)
if_false false x y e = refl

-- What the fault stands before is not begun, nor what does not stand before that.
lex_later : (f a b : ℕ) (r s t : Bool) → (r ≡ true → s ≡ false → t ≡ true) → (nat_lt f a || ((f == a) && r)) ≡ true
    → (nat_lt b a || ((b == a) && s)) ≡ false → (nat_lt f b || ((f == b) && t)) ≡ true
lex_later f a b r s t h e g = grind (arith, nat_tests)

lt_later : (f a b : ℕ) → nat_lt f a ≡ true → nat_lt b a ≡ false → nat_lt f b ≡ true
lt_later f a b e g = grind (arith, nat_tests)

later : (fault a b : Spot) → stands_before fault a ≡ true → stands_before b a ≡ false → stands_before fault b ≡ true
later fault a b = lex_later fault.line a.line b.line _ _ _ (lt_later fault.column a.column b.column)

lex_asym : (a b : ℕ) (r s : Bool) → (r ≡ true → s ≡ false) → (nat_lt a b || ((a == b) && r)) ≡ true → (nat_lt b a || ((b == a) && s)) ≡ false
lex_asym a b r s h e = grind (arith, nat_tests)

lt_asym : (a b : ℕ) → nat_lt a b ≡ true → nat_lt b a ≡ false
lt_asym a b e = grind (arith, nat_tests)

-- Of two places one alone stands before the other.
pub one_alone : (a b : Spot) → stands_before a b ≡ true → stands_before b a ≡ false
one_alone a b = lex_asym a.line b.line _ _ (lt_asym a.column b.column)

-- What follows a mark that has not begun has not begun.
unbegun_next : (fault : Spot) (m : Mark) (ms : List Mark) → IsFirst m ms → stands_before fault (mark_spot m) ≡ true → marks_begun fault ms ≡ false
unbegun_next fault m [] first e = refl
unbegun_next fault m (n ∷ ms) first e = ap not (later fault (mark_spot m) (mark_spot n) e first)

begun_by : (b : Bool) (fault : Spot) (m : Mark) (ms : List Mark) → stands_before fault (mark_spot m) ≡ b → IsFirst m ms → marks_begun fault ms ≡ true
    → has_begun fault (mark_spot m) ≡ true
begun_by true fault m ms is first e =
    let none : marks_begun fault ms ≡ false = unbegun_next fault m ms first is in
    absurd (cc (e, none))
begun_by false fault m ms is first e = ap not is

-- Where one has begun, those in front of it have.
pub all_begun : (fault : Spot) (xs ys : List Mark) → InOrder (xs ++ ys) → marks_begun fault ys ≡ true → marks_begun fault (xs ++ ys) ≡ true
all_begun fault [] ys order e = e
all_begun fault (x ∷ xs) ys order e =
    begun_by (stands_before fault (mark_spot x)) fault x (xs ++ ys) refl order.0 (all_begun fault xs ys order.1 e)

over_whole : (fault : Spot) (xs ys : List Mark) → InOrder (xs ++ ys) → marks_begun fault ys ≡ true → over_by fault (xs ++ ys) ≡ xs ++ over_by fault ys
over_whole fault [] ys order e = refl
over_whole fault (x ∷ xs) ys order e =
    if_true (marks_begun fault (xs ++ ys)) (x ∷ over_by fault (xs ++ ys)) [] (all_begun fault xs ys order.1 e) ∙
    ap (λ (ms : List Mark). x ∷ ms) (over_whole fault xs ys order.1 e)

unbegun_of : (fault : Spot) (m : Mark) (ms : List Mark) → IsFirst m ms → has_begun fault (mark_spot m) ≡ false → (b : Bool) → stands_before fault (mark_spot m) ≡ b → marks_begun fault ms ≡ false
unbegun_of fault m ms first e true is = unbegun_next fault m ms first is
unbegun_of fault m ms first e false is =
    let yes : has_begun fault (mark_spot m) ≡ true = ap not is in
    absurd (cc (e, yes))

over_none : (fault : Spot) (xs : List Mark) → InOrder xs → marks_begun fault xs ≡ false → over_by fault xs ≡ []
over_none fault [] order e = refl
over_none fault (x ∷ xs) order e =
    if_false (marks_begun fault xs) (x ∷ over_by fault xs) [] (unbegun_of fault x xs order.0 e (stands_before fault (mark_spot x)) refl)

over_cut : (fault : Spot) (xs ys : List Mark) → InOrder (xs ++ ys) → marks_begun fault ys ≡ false → over_by fault (xs ++ ys) ≡ over_by fault xs
over_cut fault [] ys order e = over_none fault ys order e
over_cut fault (x ∷ []) ys order e = if_false (marks_begun fault ys) (x ∷ over_by fault ys) [] e
over_cut fault (x ∷ y ∷ xs) ys order e =
    ap (λ (ms : List Mark). if has_begun fault (mark_spot y) then x ∷ ms else []) (over_cut fault (y ∷ xs) ys order.1 e)

-- The simple ones among two lists.
pub simple_join : (xs ys : List Mark) → simple (xs ++ ys) ≡ simple xs ++ simple ys
simple_join [] ys = refl
simple_join (a_place spot ∷ xs) ys = simple_join xs ys
simple_join (declares_type spot name ∷ xs) ys = ap (λ (ms : List Mark). declares_type spot name ∷ ms) (simple_join xs ys)
simple_join (declares d ∷ xs) ys = ap (λ (ms : List Mark). declares d ∷ ms) (simple_join xs ys)
simple_join (does s ∷ xs) ys = ap (λ (ms : List Mark). does s ∷ ms) (simple_join xs ys)

pub nil_right : (xs : List Mark) → xs ++ [] ≡ xs
nil_right [] = refl
nil_right (x ∷ xs) = ap (λ (ms : List Mark). x ∷ ms) (nil_right xs)

pub in_order_left : (xs ys : List Mark) → InOrder (xs ++ ys) → InOrder xs
in_order_left [] ys order = tt
in_order_left (x ∷ []) ys order = (tt, tt)
in_order_left (x ∷ y ∷ xs) ys order = (order.0, in_order_left (y ∷ xs) ys order.1)

pub in_order_right : (xs ys : List Mark) → InOrder (xs ++ ys) → InOrder ys
in_order_right [] ys order = order
in_order_right (x ∷ xs) ys order = in_order_right xs ys order.1

-- The simple ones that are over.
abbrev pub kept : Spot → List Mark → List Mark
kept fault ms = simple (over_by fault ms)

-- Where what follows has begun, all in front of it is over.
pub kept_whole : (fault : Spot) (xs ys : List Mark) → InOrder (xs ++ ys) → marks_begun fault ys ≡ true → kept fault (xs ++ ys) ≡ simple xs ++ kept fault ys
kept_whole fault xs ys order e = ap simple (over_whole fault xs ys order e) ∙ simple_join xs (over_by fault ys)

-- Where it has not, it is of no account.
pub kept_cut : (fault : Spot) (xs ys : List Mark) → InOrder (xs ++ ys) → marks_begun fault ys ≡ false → kept fault (xs ++ ys) ≡ kept fault xs
kept_cut fault xs ys order e = ap simple (over_cut fault xs ys order e)

-- Where the first one has not, none is over.
pub kept_none : (fault : Spot) (xs : List Mark) → InOrder xs → marks_begun fault xs ≡ false → kept fault xs ≡ []
kept_none fault xs order e = ap simple (over_none fault xs order e)

place_first : (fault spot : Spot) (xs : List Mark) → InOrder xs → (b : Bool) → marks_begun fault xs ≡ b → kept fault (a_place spot ∷ xs) ≡ kept fault xs
place_first fault spot xs order true is = ap simple (if_true (marks_begun fault xs) (a_place spot ∷ over_by fault xs) [] is)
place_first fault spot xs order false is =
    ap simple (if_false (marks_begun fault xs) (a_place spot ∷ over_by fault xs) [] is) ∙ sym (kept_none fault xs order is)

-- A place is not simple.
pub kept_place : (fault spot : Spot) (xs : List Mark) → InOrder xs → kept fault (a_place spot ∷ xs) ≡ kept fault xs
kept_place fault spot xs order = place_first fault spot xs order (marks_begun fault xs) refl

-- A list that is cut: nothing where its first element has not begun; that element and what is kept behind it where the next one has begun; and else
-- what is kept of the first one.
pub kept_step : {T : Type 0} (marks : T → List Mark) (fault : Spot) (xs ys : List Mark) (none joined one : T) (b c : Bool)
    → InOrder (xs ++ ys) → marks_begun fault (xs ++ ys) ≡ not b → marks_begun fault ys ≡ c
    → simple (marks none) ≡ [] → simple (marks joined) ≡ simple xs ++ kept fault ys → simple (marks one) ≡ kept fault xs
    → simple (marks (if b then none else if c then joined else one)) ≡ kept fault (xs ++ ys)
kept_step marks fault xs ys none joined one true c order first next e f g = e ∙ sym (kept_none fault (xs ++ ys) order first)
kept_step marks fault xs ys none joined one false true order first next e f g = f ∙ sym (kept_whole fault xs ys order next)
kept_step marks fault xs ys none joined one false false order first next e f g = g ∙ sym (kept_cut fault xs ys order next)
