-- The example: a cycle, a node that is reached behind it, and nodes that are not reached.

use Rattle.std.proofs.Common.{◌≡◌, ℕ, zero, suc, ◌<◌, true, refl, arith}
use Rattle.std.specs.List.{Contains}
use Rattle.ada_reach.specs.Graph.{IsNode, HasEdge, stays, goes, IsReached}
use Rattle.ada_reach.specs.Example.{graph, starts, first_four, LastIsReached, OutsideIsNotReached, ASetIsClosed}
use Rattle.ada_reach.proofs.Reaching.{least}

pub last : LastIsReached
last = (0, (0, omega arith, refl), goes (goes (goes (stays (omega arith)) (0, omega arith, refl) (omega arith)) (0, omega arith, refl) (omega arith)) (1, omega arith, refl) (omega arith))

-- What is reached is below 4.
first : (n : ℕ) → Contains starts n → IsNode graph n → n < 4
first n (zero, lt, is) node = omega (arith, is)
first n (suc zero, lt, is) node = absurd (omega (arith, is, node))
first n (suc (suc k), lt, is) node = absurd (omega (arith, lt))

next : (a b : ℕ) → a < 4 → HasEdge graph a b → IsNode graph b → b < 4
next zero b lt (zero, less, is) node = omega (arith, is)
next zero b lt (suc k, less, is) node = absurd (omega (arith, less))
next (suc zero) b lt (zero, less, is) node = omega (arith, is)
next (suc zero) b lt (suc k, less, is) node = absurd (omega (arith, less))
next (suc (suc zero)) b lt (zero, less, is) node = omega (arith, is)
next (suc (suc zero)) b lt (suc zero, less, is) node = omega (arith, is)
next (suc (suc zero)) b lt (suc (suc k), less, is) node = absurd (omega (arith, less))
next (suc (suc (suc zero))) b lt (zero, less, is) node = absurd (omega (arith, is, node))
next (suc (suc (suc zero))) b lt (suc k, less, is) node = absurd (omega (arith, less))
next (suc (suc (suc (suc a)))) b lt e node = absurd (omega (arith, lt))

below : (n : ℕ) → IsReached graph starts n → n < 4
below n r = least graph starts (λ m. m < 4) first next n r

pub outside : OutsideIsNotReached
outside = ((λ r. let lt = below 4 r in absurd (omega (arith, lt))), (λ r. let lt = below 7 r in absurd (omega (arith, lt))), (λ r. let lt = below 9 r in absurd (omega (arith, lt))))

tested : (n : ℕ) → n < 4 → first_four n ≡ true
tested n lt = grind (arith, lt)

says : (n : ℕ) → first_four n ≡ true → n < 4
says n is = grind (arith, is)

pub closed : ASetIsClosed
closed = ((λ n has node. tested n (first n has node)), (λ a b is e node. tested b (next a b (says a is) e node)))
