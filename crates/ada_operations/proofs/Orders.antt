-- Places of collections, and faults, in order.

use Rattle.std.proofs.Common.{◌≡◌, ℕ, Bool, true, false, ◌&&◌, ◌||◌, ◌==◌, nat_lt, refl, arith}
use Rattle.ada_operations.specs.Created.{precedes}
use Rattle.ada_operations.specs.Operations.{is_before, rule_number}
use Rattle.ada_operations.specs.declared.places.Place.{Place}
use Rattle.ada_operations.specs.declared.rule.OperationRule.{OperationRule}
use Rattle.ada_quiet.proofs.Firsts.{IsOrder}
use Rattle.ada_text.specs.declared.spot.Spot.{Spot}

-- A place that a place precedes comes later.
abbrev pub later : Place → Place → Bool
later a b = precedes b a

onward : (l m n c d e : ℕ) → (nat_lt l m || ((l == m) && nat_lt c d)) ≡ true → (nat_lt m n || ((m == n) && nat_lt d e)) ≡ true →
    (nat_lt l n || ((l == n) && nat_lt c e)) ≡ true
onward l m n c d e h g = grind (arith, h, g)

back : (l m n c d e : ℕ) → (nat_lt l m || ((l == m) && nat_lt c d)) ≡ false → (nat_lt m n || ((m == n) && nat_lt d e)) ≡ false →
    (nat_lt l n || ((l == n) && nat_lt c e)) ≡ false
back l m n c d e h g = grind (arith, h, g)

apart : (l c : ℕ) → (nat_lt l l || ((l == l) && nat_lt c c)) ≡ false
apart l c = grind arith

pub later_order : IsOrder later
later_order = record {
  onward = λ a b c h g. onward c.part b.part a.part c.order b.order a.order g h;
  back = λ a b c h g. back c.part b.part a.part c.order b.order a.order g h;
  apart = λ a. apart a.part a.order;
}

-- By three numbers, the first one first.

onward_first : (l m n : ℕ) (x y z : Bool) → (x ≡ true → y ≡ true → z ≡ true) → (nat_lt l m || ((l == m) && x)) ≡ true → (nat_lt m n || ((m == n) && y)) ≡ true →
    (nat_lt l n || ((l == n) && z)) ≡ true
onward_first l m n true true z f h g = let e : z ≡ true = f refl refl in grind (arith, h, g, e)
onward_first l m n true false z f h g = grind (arith, h, g)
onward_first l m n false y z f h g = grind (arith, h, g)

back_first : (l m n : ℕ) (x y z : Bool) → (x ≡ false → y ≡ false → z ≡ false) → (nat_lt l m || ((l == m) && x)) ≡ false → (nat_lt m n || ((m == n) && y)) ≡ false →
    (nat_lt l n || ((l == n) && z)) ≡ false
back_first l m n false false z f h g = let e : z ≡ false = f refl refl in grind (arith, h, g, e)
back_first l m n false true z f h g = grind (arith, h, g)
back_first l m n true y z f h g = grind (arith, h, g)

onward_all : (l m n c d e r s t : ℕ) → (nat_lt l m || ((l == m) && (nat_lt c d || ((c == d) && nat_lt r s)))) ≡ true →
    (nat_lt m n || ((m == n) && (nat_lt d e || ((d == e) && nat_lt s t)))) ≡ true →
    (nat_lt l n || ((l == n) && (nat_lt c e || ((c == e) && nat_lt r t)))) ≡ true
onward_all l m n c d e r s t =
    onward_first l m n (nat_lt c d || ((c == d) && nat_lt r s)) (nat_lt d e || ((d == e) && nat_lt s t)) (nat_lt c e || ((c == e) && nat_lt r t)) (onward c d e r s t)

back_all : (l m n c d e r s t : ℕ) → (nat_lt l m || ((l == m) && (nat_lt c d || ((c == d) && nat_lt r s)))) ≡ false →
    (nat_lt m n || ((m == n) && (nat_lt d e || ((d == e) && nat_lt s t)))) ≡ false →
    (nat_lt l n || ((l == n) && (nat_lt c e || ((c == e) && nat_lt r t)))) ≡ false
back_all l m n c d e r s t =
    back_first l m n (nat_lt c d || ((c == d) && nat_lt r s)) (nat_lt d e || ((d == e) && nat_lt s t)) (nat_lt c e || ((c == e) && nat_lt r t)) (back c d e r s t)

apart_all : (l c r : ℕ) → (nat_lt l l || ((l == l) && (nat_lt c c || ((c == c) && nat_lt r r)))) ≡ false
apart_all l c r = grind arith

pub fault_order : IsOrder is_before
fault_order = record {
  onward = λ f g h. onward_all f.0.line g.0.line h.0.line f.0.column g.0.column h.0.column (rule_number f.1) (rule_number g.1) (rule_number h.1);
  back = λ f g h. back_all f.0.line g.0.line h.0.line f.0.column g.0.column h.0.column (rule_number f.1) (rule_number g.1) (rule_number h.1);
  apart = λ f. apart_all f.0.line f.0.column (rule_number f.1);
}

-- At one place the number of the rule decides.

by_number : (l c r s : ℕ) → nat_lt r s ≡ false → (nat_lt l l || ((l == l) && (nat_lt c c || ((c == c) && nat_lt r s)))) ≡ false
by_number l c r s h = grind (arith, h)

pub at_one_place : (spot : Spot) (rule other : OperationRule) → nat_lt (rule_number other) (rule_number rule) ≡ false → is_before (spot, other) (spot, rule) ≡ false
at_one_place spot rule other h = by_number spot.line spot.column (rule_number other) (rule_number rule) h
