-- Several values in hand, as the items of an allocator are before there is an object for them.

use Rattle.std.proofs.Common.{◌≡◌, ℕ, zero, suc, List, [], ◌∷◌, ◌++◌, length, ◌+◌, arith}
use Rattle.std.specs.Prelude.{Option}
use Rattle.ada_flow.specs.declared.rule.Hold.{Hold}
use Rattle.ada_meaning.specs.declared.state.Id.{Id}
use Rattle.ada_meaning.specs.declared.state.Value.{Value}
use Rattle.ada_meaning.specs.declared.state.Value.TheVariants.{Names}
use Rattle.ada_meaning.specs.State.{Activation}
use Rattle.ada_meaning.specs.Named.{Object}
use Rattle.ada_owners.specs.Places.{Place, value_at}
use Rattle.ada_owners.specs.Reliance.{Owns, IsInHand, IsNotAmong, AreInHand}

-- A value that names nothing names no other's object.
pub blank_not_among : (v : Value) (vs : List Value) → ((o : Id) → v ≡ Names o → ⊥) → IsNotAmong v vs
blank_not_among v vs none o i e n = none o e

-- Whatever keeps each value in hand keeps all of them.
pub hands_each : (objects now : List Object) (activations after : List (Activation Value)) (hold other : Place → Hold) (kind : ℕ → Option ℕ) → ((k : Option ℕ) (v : Value) → IsInHand objects activations hold k v → IsInHand now after other k v) → (c : ℕ) (vs : List Value) → AreInHand objects activations hold kind c vs → AreInHand now after other kind c vs
hands_each objects now activations after hold other kind keeps c [] i = tt
hands_each objects now activations after hold other kind keeps c (v ∷ vs) i = (keeps (kind c) v i.0, i.1, hands_each objects now activations after hold other kind keeps (suc c) vs i.2)

module _ (objects : List Object) (activations : List (Activation Value)) (hold : Place → Hold) (kind : ℕ → Option ℕ) where
  -- What a place owns is not among them.
  pub owned_not_among : (p : Place) (c : ℕ) (vs : List Value) → Owns (hold p) → AreInHand objects activations hold kind c vs → IsNotAmong (value_at objects activations p) vs
  owned_not_among p c [] own i o k e n = cc n
  owned_not_among p c (v ∷ vs) own i o zero e n = i.0.hand.free o n p own e
  owned_not_among p c (v ∷ vs) own i o (suc k) e n = owned_not_among p (suc c) vs own i.2 o k e n

  not_among_last : (w : Value) (vs : List Value) (v : Value) → IsNotAmong w vs → ((o : Id) → w ≡ Names o → v ≡ Names o → ⊥) → IsNotAmong w (vs ++ v ∷ [])
  not_among_last w [] v other last o zero e n = last o e n
  not_among_last w [] v other last o (suc k) e n = cc n
  not_among_last w (u ∷ vs) v other last o zero e n = other o zero e n
  not_among_last w (u ∷ vs) v other last o (suc k) e n = not_among_last w vs v (λ o k e n. other o (suc k) e n) last o k e n

  -- One more, behind the others.
  pub hands_more : (c n : ℕ) (vs : List Value) (v : Value) → n ≡ c + length vs → IsNotAmong v vs → IsInHand objects activations hold (kind n) v → AreInHand objects activations hold kind c vs → AreInHand objects activations hold kind c (vs ++ v ∷ [])
  hands_more c n [] v e other h i = let same : n ≡ c = omega (arith, e) in (rw (← same) h, λ o k a b. cc b, tt)
  hands_more c n (u ∷ vs) v e other h i = (i.0, not_among_last u vs v i.1 (λ o a b. other o zero b a), hands_more (suc c) n vs v (omega (arith, e)) (λ o k a b. other o (suc k) a b) h i.2)
