-- A new object, whose items were in hand.

use Rattle.std.proofs.Common.{◌≡◌, ◌≢◌, ℕ, zero, suc, List, [], ◌∷◌, ◌++◌, length, refl, sym, ap, ◌∙◌, ◌⊎◌, inl, inr}
use Rattle.std.specs.Prelude.{Option, Some, None}
use Rattle.ada_flow.specs.declared.rule.Hold.{Hold}
use Rattle.ada_flow.specs.declared.rule.Hold.TheVariants as held
use Rattle.ada_meaning.specs.declared.state.Id.{Id}
use Rattle.ada_meaning.specs.declared.state.Value.{Value}
use Rattle.ada_meaning.specs.declared.state.Value.TheVariants.{Null, Names}
use Rattle.ada_meaning.specs.Heap.{Cell}
use Rattle.ada_meaning.specs.State.{Activation}
use Rattle.ada_meaning.specs.Named.{Object, object_at, create, created}
use Rattle.ada_owners.specs.Places.{Place, variable, component, elsewhere, component_in, value_at, access_in, access_at}
use Rattle.ada_owners.specs.Reliance.{IsOf, Says, Owns, Kinds, component_kind, kind_of, Fits, IsInHand, IsNotAmong, AreInHand}
use Rattle.ada_owners.proofs.Kernel as kernel
use Rattle.ada_owners.proofs.Kernel.{same_id, same_place, says_right, of_none}
use Rattle.ada_owners.proofs.Objects.{read_more, read_last, next_id, at_older, at_new, at_past}
use Rattle.ada_owners.proofs.Changes.{kinds_same}

-- The cell of an object with such items.
abbrev pub with_values : Cell Value → List Value → Cell Value
with_values cell vs = record cell { values = vs }

push_append : (vs rest : List Value) (v : Value) → (vs ++ v ∷ []) ++ rest ≡ vs ++ v ∷ rest
push_append [] rest v = refl
push_append (w ∷ vs) rest v = ap (λ l. w ∷ l) (push_append vs rest v)

length_push : (vs : List Value) (v : Value) → length (vs ++ v ∷ []) ≡ suc (length vs)
length_push [] v = refl
length_push (w ∷ vs) v = ap suc (length_push vs v)

append_none : (vs : List Value) → vs ++ [] ≡ vs
append_none [] = refl
append_none (v ∷ vs) = ap (λ l. v ∷ l) (append_none vs)

module _ (objects : List Object) (words : ℕ) (cell : Cell Value) where
  pub new_access : (vs : List Value) → access_at (create objects words (with_values cell vs)) (next_id objects) ≡ Some cell.access
  new_access vs = ap access_in (at_new objects words (with_values cell vs))

  pub past_access : access_at objects (next_id objects) ≡ None
  past_access = ap access_in (at_past objects)

  older_access : (vs : List Value) (k : Id) → k ≢ next_id objects → access_at (create objects words (with_values cell vs)) k ≡ access_at objects k
  older_access vs k ne = ap access_in (at_older objects words (with_values cell vs) k ne)

  -- Before it has items, its components name nothing.
  pub empty_reads : (activations : List (Activation Value)) (q : Place) → value_at (create objects words (with_values cell [])) activations q ≡ value_at objects activations q
  empty_reads activations (variable y) = refl
  empty_reads activations (component k d) = go (same_id k (next_id objects))
    where
      go : (k ≡ next_id objects) ⊎ (k ≢ next_id objects) → component_in (object_at (create objects words (with_values cell [])) k) d ≡ component_in (object_at objects k) d
      go (inl e) = rw (e, at_new objects words (with_values cell []), at_past objects) refl
      go (inr ne) = ap (λ t. component_in t d) (at_older objects words (with_values cell []) k ne)
  empty_reads activations (elsewhere d y) = refl

  empty_kind : (kinds : Kinds) (activations : List (Activation Value)) (p : Place) (o : Id) → value_at (create objects words (with_values cell [])) activations p ≡ Names o → kind_of kinds (access_at (create objects words (with_values cell []))) p ≡ kind_of kinds (access_at objects) p
  empty_kind kinds activations (variable y) o e = refl
  empty_kind kinds activations (component k d) o e = go (same_id k (next_id objects))
    where
      go : (k ≡ next_id objects) ⊎ (k ≢ next_id objects) → component_kind kinds (access_at (create objects words (with_values cell [])) k) d ≡ component_kind kinds (access_at objects k) d
      go (inl i) = absurd (let n = rw (i, at_new objects words (with_values cell [])) at e in cc n)
      go (inr ne) = ap (λ t. component_kind kinds t d) (older_access [] k ne)
  empty_kind kinds activations (elsewhere d y) o e = refl

  pub empty_fits : {kinds : Kinds} {activations : List (Activation Value)} {hold : Place → Hold} → Fits kinds objects activations hold → Fits kinds (create objects words (with_values cell [])) activations hold
  empty_fits {kinds} {activations} f = record { fit = kernel.grow f.fit (next_id objects) (access_at (create objects words (with_values cell []))) (value_at (create objects words (with_values cell [])) activations) (kind_of kinds (access_at (create objects words (with_values cell [])))) past_access (λ k ne. older_access [] k ne) (λ p o e. (sym (empty_reads activations p) ∙ e, empty_kind kinds activations p o e)) }

  -- No place that is relied on names it yet.
  pub not_next : (k : Option ℕ) → IsOf (access_at objects) k (next_id objects) → ⊥
  not_next k s = of_none (access_at objects) k (next_id objects) past_access s

  -- What is in hand stays so.
  pub hand_empty : {activations : List (Activation Value)} {hold : Place → Hold} {kind : Option ℕ} {v : Value} → IsInHand objects activations hold kind v → IsInHand (create objects words (with_values cell [])) activations hold kind v
  hand_empty {activations} {hold} {kind} {v} i = record { hand = kernel.hand_by (access_at (create objects words (with_values cell []))) (value_at (create objects words (with_values cell [])) activations) hold (λ o e. older_access [] o (λ s. not_next kind (rw s at (i.hand.right o e)))) (λ o e q a b. (a, sym (empty_reads activations q) ∙ b)) i.hand }

  -- Its name is in hand.
  pub new_hand : {kinds : Kinds} {activations : List (Activation Value)} {hold : Place → Hold} → Fits kinds objects activations hold → IsInHand (create objects words (with_values cell [])) activations hold (Some cell.access) (created objects words)
  new_hand {kinds} {activations} {hold} f = record {
    hand = record {
      right = λ o e. let same : next_id objects ≡ o = cc e in rw (← same) (new_access []);
      free = λ o e q a b. let same : next_id objects ≡ o = cc e in not_next (kind_of kinds (access_at objects) q) (kernel.owned_at f.fit q a (next_id objects) (sym (empty_reads activations q) ∙ (rw (← same) at b)));
    };
  }

  module _ (vs : List Value) (v : Value) where
    fill_access : (k : Id) → access_at (create objects words (with_values cell (vs ++ v ∷ []))) k ≡ access_at (create objects words (with_values cell vs)) k
    fill_access k = go (same_id k (next_id objects))
      where
        go : (k ≡ next_id objects) ⊎ (k ≢ next_id objects) → access_at (create objects words (with_values cell (vs ++ v ∷ []))) k ≡ access_at (create objects words (with_values cell vs)) k
        go (inl e) = rw e (new_access (vs ++ v ∷ []) ∙ sym (new_access vs))
        go (inr ne) = older_access (vs ++ v ∷ []) k ne ∙ sym (older_access vs k ne)

    pub fill_reads : (activations : List (Activation Value)) (q : Place) → q ≢ component (next_id objects) (length vs) → value_at (create objects words (with_values cell (vs ++ v ∷ []))) activations q ≡ value_at (create objects words (with_values cell vs)) activations q
    fill_reads activations (variable y) ne = refl
    fill_reads activations (component k d) ne = go (same_id k (next_id objects))
      where
        go : (k ≡ next_id objects) ⊎ (k ≢ next_id objects) → component_in (object_at (create objects words (with_values cell (vs ++ v ∷ []))) k) d ≡ component_in (object_at (create objects words (with_values cell vs)) k) d
        go (inl e) = rw (e, at_new objects words (with_values cell (vs ++ v ∷ [])), at_new objects words (with_values cell vs)) (read_more vs v Null d (λ h. ne (rw (e, h) refl)))
        go (inr n) = ap (λ t. component_in t d) (at_older objects words (with_values cell (vs ++ v ∷ [])) k n ∙ sym (at_older objects words (with_values cell vs) k n))
    fill_reads activations (elsewhere d y) ne = refl

    fill_value : (activations : List (Activation Value)) → value_at (create objects words (with_values cell (vs ++ v ∷ []))) activations (component (next_id objects) (length vs)) ≡ v
    fill_value activations = rw (at_new objects words (with_values cell (vs ++ v ∷ []))) (read_last vs v Null)

    pub fill_fits : {kinds : Kinds} {activations : List (Activation Value)} {hold : Place → Hold} → hold (component (next_id objects) (length vs)) ≢ held.Null → Fits kinds (create objects words (with_values cell vs)) activations hold → IsInHand (create objects words (with_values cell vs)) activations hold (kinds.components cell.access (length vs)) v → Fits kinds (create objects words (with_values cell (vs ++ v ∷ []))) activations hold
    fill_fits {kinds} {activations} {hold} ne f i = record {
      fit = kernel.same (kernel.write f.fit (component (next_id objects) (length vs)) (value_at (create objects words (with_values cell (vs ++ v ∷ []))) activations) hold (λ q n. (fill_reads activations q n, refl)) says (λ k own e q a b. absurd (i.hand.free k (sym (fill_value activations) ∙ e) q a b)))
          (access_at (create objects words (with_values cell (vs ++ v ∷ [])))) (value_at (create objects words (with_values cell (vs ++ v ∷ []))) activations) (kind_of kinds (access_at (create objects words (with_values cell (vs ++ v ∷ []))))) fill_access (λ p. refl) (kinds_same kinds (access_at (create objects words (with_values cell vs))) (access_at (create objects words (with_values cell (vs ++ v ∷ [])))) fill_access);
    }
      where
        says : (o : Id) → value_at (create objects words (with_values cell (vs ++ v ∷ []))) activations (component (next_id objects) (length vs)) ≡ Names o → Says (access_at (create objects words (with_values cell vs))) (hold (component (next_id objects) (length vs))) (component_kind kinds (access_at (create objects words (with_values cell vs)) (next_id objects)) (length vs)) o
        says o e = rw (new_access vs) (says_right (access_at (create objects words (with_values cell vs))) (hold (component (next_id objects) (length vs))) (kinds.components cell.access (length vs)) o ne (i.hand.right o (sym (fill_value activations) ∙ e)))

    -- Another value in hand stays so.
    pub hand_fill : {activations : List (Activation Value)} {hold : Place → Hold} {kind : Option ℕ} {w : Value} → ((o : Id) → w ≡ Names o → v ≡ Names o → ⊥) → IsInHand (create objects words (with_values cell vs)) activations hold kind w → IsInHand (create objects words (with_values cell (vs ++ v ∷ []))) activations hold kind w
    hand_fill {activations} {hold} {kind} {w} ne i = record { hand = kernel.hand_by (access_at (create objects words (with_values cell (vs ++ v ∷ [])))) (value_at (create objects words (with_values cell (vs ++ v ∷ []))) activations) hold (λ o e. fill_access o) (λ o e q a b. go o e q (same_place q (component (next_id objects) (length vs))) a b) i.hand }
      where
        go : (o : Id) → w ≡ Names o → (q : Place) → (q ≡ component (next_id objects) (length vs)) ⊎ (q ≢ component (next_id objects) (length vs)) → Owns (hold q) → value_at (create objects words (with_values cell (vs ++ v ∷ []))) activations q ≡ Names o → Owns (hold q) × (value_at (create objects words (with_values cell vs)) activations q ≡ Names o)
        go o e q (inl s) a b = absurd (ne o e (sym (fill_value activations) ∙ (rw s at b)))
        go o e q (inr n) a b = (a, sym (fill_reads activations q n) ∙ b)

  -- A value in hand stays so where the object gets items that are others.
  pub hand_filled : {activations : List (Activation Value)} {hold : Place → Hold} {kind : Option ℕ} {w : Value} (vs rest : List Value) → IsNotAmong w rest → IsInHand (create objects words (with_values cell vs)) activations hold kind w → IsInHand (create objects words (with_values cell (vs ++ rest))) activations hold kind w
  hand_filled vs [] other i = rw (append_none vs) i
  hand_filled vs (v ∷ rest) other i = rw (← push_append vs rest v) (hand_filled (vs ++ v ∷ []) rest (λ o k e n. other o (suc k) e n) (hand_fill vs v (λ o e n. other o zero e n) i))

  hands_fill : (activations : List (Activation Value)) (hold : Place → Hold) (kind : ℕ → Option ℕ) (c : ℕ) (vs : List Value) (v : Value) (rest : List Value) → IsNotAmong v rest → AreInHand (create objects words (with_values cell vs)) activations hold kind c rest → AreInHand (create objects words (with_values cell (vs ++ v ∷ []))) activations hold kind c rest
  hands_fill activations hold kind c vs v [] other i = tt
  hands_fill activations hold kind c vs v (w ∷ rest) other i = (hand_fill vs v (λ o e n. other o zero n e) i.0, i.1, hands_fill activations hold kind (suc c) vs v rest (λ o k e n. other o (suc k) e n) i.2)

  hands_empty : (activations : List (Activation Value)) (hold : Place → Hold) (kind : ℕ → Option ℕ) (c : ℕ) (rest : List Value) → AreInHand objects activations hold kind c rest → AreInHand (create objects words (with_values cell [])) activations hold kind c rest
  hands_empty activations hold kind c [] i = tt
  hands_empty activations hold kind c (w ∷ rest) i = (hand_empty i.0, i.1, hands_empty activations hold kind (suc c) rest i.2)

  -- All items become components, one by one.
  filled_fits : {kinds : Kinds} {activations : List (Activation Value)} {hold : Place → Hold} (vs rest : List Value) → ((c : ℕ) → hold (component (next_id objects) c) ≢ held.Null) → Fits kinds (create objects words (with_values cell vs)) activations hold → AreInHand (create objects words (with_values cell vs)) activations hold (kinds.components cell.access) (length vs) rest → Fits kinds (create objects words (with_values cell (vs ++ rest))) activations hold
  filled_fits vs [] some f i = rw (append_none vs) f
  filled_fits {kinds} {activations} {hold} vs (v ∷ rest) some f i =
      rw (← push_append vs rest v)
      (filled_fits (vs ++ v ∷ []) rest some (fill_fits vs v (some (length vs)) f i.0) (rw (length_push vs v) (hands_fill activations hold (kinds.components cell.access) (suc (length vs)) vs v rest i.1 i.2)))

  -- What is in hand is not the new object.
  pub not_new : (activations : List (Activation Value)) (hold : Place → Hold) (kind : ℕ → Option ℕ) (c : ℕ) (vs : List Value) → AreInHand objects activations hold kind c vs → IsNotAmong (created objects words) vs
  not_new activations hold kind c [] i o k e n = cc n
  not_new activations hold kind c (v ∷ vs) i o zero e n = let same : next_id objects ≡ o = cc e in not_next (kind c) (rw (← same) at (i.0.hand.right o n))
  not_new activations hold kind c (v ∷ vs) i o (suc k) e n = not_new activations hold kind (suc c) vs i.2 o k e n

  pub create_fits : {kinds : Kinds} {activations : List (Activation Value)} {hold : Place → Hold} → ((c : ℕ) → hold (component (next_id objects) c) ≢ held.Null) → Fits kinds objects activations hold → AreInHand objects activations hold (kinds.components cell.access) 0 cell.values → Fits kinds (create objects words cell) activations hold
  create_fits {kinds} {activations} {hold} some f i = filled_fits [] cell.values some (empty_fits f) (hands_empty activations hold (kinds.components cell.access) 0 cell.values i)

  -- The name of the new object is in hand, and so is what was, and is none of its items.
  pub created_hand : {kinds : Kinds} {activations : List (Activation Value)} {hold : Place → Hold} → Fits kinds objects activations hold → AreInHand objects activations hold (kinds.components cell.access) 0 cell.values → IsInHand (create objects words cell) activations hold (Some cell.access) (created objects words)
  created_hand {kinds} {activations} {hold} f i = hand_filled [] cell.values (not_new activations hold (kinds.components cell.access) 0 cell.values i) (new_hand f)

  pub hand_create : {activations : List (Activation Value)} {hold : Place → Hold} {kind : Option ℕ} {w : Value} → IsNotAmong w cell.values → IsInHand objects activations hold kind w → IsInHand (create objects words cell) activations hold kind w
  hand_create other i = hand_filled [] cell.values other (hand_empty i)
