-- What each change of a variable, of a component and of an object keeps.

use Rattle.std.proofs.Common.{◌≡◌, ◌≢◌, ℕ, zero, suc, Bool, true, false, List, [], ◌∷◌, refl, sym, ap, ◌∙◌, ◌⊎◌, inl, inr}
use Rattle.std.specs.Prelude.{Option, Some, None, if◌then◌else◌}
use Rattle.std.specs.List.{slice_set, slice_index_or}
use Rattle.ada_flow.specs.declared.rule.Hold.{Hold}
use Rattle.ada_flow.specs.declared.rule.Hold.TheVariants as held
use Rattle.ada_flow.specs.Flow.{is_as_good}
use Rattle.ada_meaning.specs.declared.state.Id.{Id}
use Rattle.ada_meaning.specs.declared.state.Value.{Value}
use Rattle.ada_meaning.specs.declared.state.Value.TheVariants.{Null, Names}
use Rattle.ada_meaning.specs.State.{Activation}
use Rattle.ada_meaning.specs.Step.{places_of, with_operands}
use Rattle.ada_meaning.specs.Named.{Object, object_at, changed, on_object, store, filled}
use Rattle.ada_owners.specs.Places.{Place, variable, component, elsewhere, outer_places, is_there, component_in, value_at, access_in, access_at, put_in}
use Rattle.ada_owners.specs.Reliance.{IsOf, Says, Owns, Kinds, component_kind, kind_of, Fits, IsInHand, NameNothing}
use Rattle.ada_owners.proofs.Kernel as kernel
use Rattle.ada_owners.proofs.Kernel.{same_id, same_place, says_right, of_none}
use Rattle.ada_owners.proofs.Objects.{read_same, read_other, set_here, at_other}

-- Where objects keep their access types, places keep their kinds.
pub kinds_same : (kinds : Kinds) (access to : Id → Option ℕ) → ((k : Id) → to k ≡ access k) → (p : Place) → kind_of kinds to p ≡ kind_of kinds access p
kinds_same kinds access to same (variable x) = refl
kinds_same kinds access to same (component o c) = ap (λ t. component_kind kinds t c) (same o)
kinds_same kinds access to same (elsewhere d x) = refl

-- Holds get worse.
pub weaken : {kinds : Kinds} {objects : List Object} {activations : List (Activation Value)} {hold : Place → Hold} (after : Place → Hold) → ((p : Place) → is_as_good (hold p) (after p) ≡ true) → Fits kinds objects activations hold → Fits kinds objects activations after
weaken after worse f = record { fit = kernel.weaken f.fit after worse }

-- What no more owners are there for stays in hand.
pub hand_worse : {objects : List Object} {activations : List (Activation Value)} {hold : Place → Hold} {kind : Option ℕ} {v : Value} (after : Place → Hold) → ((p : Place) → Owns (after p) → Owns (hold p)) → IsInHand objects activations hold kind v → IsInHand objects activations after kind v
hand_worse {objects} {activations} after back i = record { hand = kernel.hand_by (access_at objects) (value_at objects activations) after (λ o e. refl) (λ o e q a b. (back q a, b)) i.hand }

-- The value of an owner is in hand once the owner owns it no more.
pub taken : {kinds : Kinds} {objects : List Object} {activations : List (Activation Value)} {hold : Place → Hold} (p : Place) (after : Place → Hold) → Owns (hold p) → (Owns (after p) → ⊥) → ((q : Place) → q ≢ p → after q ≡ hold q) → Fits kinds objects activations hold → IsInHand objects activations after (kind_of kinds (access_at objects) p) (value_at objects activations p)
taken p after own gone others f = record { hand = kernel.taken f.fit p after own gone others }

-- What names nothing is in hand.
pub blank : {objects : List Object} {activations : List (Activation Value)} {hold : Place → Hold} {kind : Option ℕ} {v : Value} → ((o : Id) → v ≡ Names o → ⊥) → IsInHand objects activations hold kind v
blank none = record { hand = kernel.blank none }

pub blank_null : {objects : List Object} {activations : List (Activation Value)} {hold : Place → Hold} {kind : Option ℕ} → IsInHand objects activations hold kind Null
blank_null = blank (λ o e. cc e)

-- What is in hand may be called by the access type that its object has.
pub hand_typed : {objects : List Object} {activations : List (Activation Value)} {hold : Place → Hold} {kind : Option ℕ} {v : Value} (other : Option ℕ) → ((o : Id) (t : ℕ) → v ≡ Names o → access_at objects o ≡ Some t → other ≡ Some t) → IsInHand objects activations hold kind v → IsInHand objects activations hold other v
hand_typed {objects} {kind = kind} {v = v} other typed i = record { hand = record { right = λ o e. go o e kind (i.hand.right o e); free = i.hand.free } }
  where
    go : (o : Id) → v ≡ Names o → (k : Option ℕ) → IsOf (access_at objects) k o → IsOf (access_at objects) other o
    go o e None s = absurd s
    go o e (Some t) s = rw (typed o t e s) s

-- The hold of one place changes, and its value of one place changes, and its value names what the hold says.
pub held_anew : {kinds : Kinds} {objects : List Object} {activations : List (Activation Value)} {hold : Place → Hold} (p : Place) (after : Place → Hold) → ((q : Place) → q ≢ p → after q ≡ hold q) → ((o : Id) → value_at objects activations p ≡ Names o → Says (access_at objects) (after p) (kind_of kinds (access_at objects) p) o) → ((o : Id) → Owns (after p) → value_at objects activations p ≡ Names o → (q : Place) → Owns (hold q) → value_at objects activations q ≡ Names o → q ≡ p) → Fits kinds objects activations hold → Fits kinds objects activations after
held_anew {objects = objects} {activations = activations} p after others says fresh f = record { fit = kernel.write f.fit p (value_at objects activations) after (λ q ne. (refl, others q ne)) says fresh }

-- A variable that names nothing is null.
pub nulls : {kinds : Kinds} {objects : List Object} {activations : List (Activation Value)} {hold : Place → Hold} (p : Place) (after : Place → Hold) → ((q : Place) → q ≢ p → after q ≡ hold q) → ((o : Id) → value_at objects activations p ≡ Names o → ⊥) → Fits kinds objects activations hold → Fits kinds objects activations after
nulls p after others none f = held_anew p after others (λ o e. absurd (none o e)) (λ o own e. absurd (none o e)) f

-- A variable gets a value.
put_variable : (x y : ℕ) (v : Value) (activations : List (Activation Value)) → y ≢ x → slice_index_or (places_of (put_in x v activations)) y Null ≡ slice_index_or (places_of activations) y Null
put_variable x y v [] ne = refl
put_variable x y v (a ∷ suspended) ne = read_other a.places x y v Null ne

put_outer : (x d : ℕ) (v : Value) (activations : List (Activation Value)) → outer_places (put_in x v activations) d ≡ outer_places activations d
put_outer x d v [] = refl
put_outer x zero v (a ∷ suspended) = refl
put_outer x (suc d) v (a ∷ suspended) = refl

pub put_reads : (objects : List Object) (activations : List (Activation Value)) (x : ℕ) (v : Value) (q : Place) → q ≢ variable x → value_at objects (put_in x v activations) q ≡ value_at objects activations q
put_reads objects activations x v (variable y) ne = put_variable x y v activations (λ e. ne (ap variable e))
put_reads objects activations x v (component o c) ne = refl
put_reads objects activations x v (elsewhere d y) ne = ap (λ vs. slice_index_or vs y Null) (put_outer x d v activations)

-- What the variable then names is the value's.
pub put_value : (objects : List Object) (activations : List (Activation Value)) (x : ℕ) (v : Value) (o : Id) → value_at objects (put_in x v activations) (variable x) ≡ Names o → v ≡ Names o
put_value objects [] x v o e = absurd (cc e)
put_value objects (a ∷ suspended) x v o e = go (read_same a.places x v Null)
  where
    go : (slice_index_or (slice_set a.places x v) x Null ≡ v) ⊎ (slice_index_or (slice_set a.places x v) x Null ≡ Null) → v ≡ Names o
    go (inl i) = sym i ∙ e
    go (inr i) = absurd (cc (i, e))

module _ {kinds : Kinds} {objects : List Object} {activations : List (Activation Value)} {hold : Place → Hold} (x : ℕ) (v : Value) (after : Place → Hold)
    (others : (q : Place) → q ≢ variable x → after q ≡ hold q) (f : Fits kinds objects activations hold) where
  -- Whatever is said of it then, if no other place owns what it names.
  pub put_fits : ((o : Id) → v ≡ Names o → Says (access_at objects) (after (variable x)) (kinds.variables x) o) → ((o : Id) → Owns (after (variable x)) → v ≡ Names o → (q : Place) → Owns (hold q) → value_at objects activations q ≡ Names o → q ≡ variable x) → Fits kinds objects (put_in x v activations) after
  put_fits says fresh = record { fit = kernel.write f.fit (variable x) (value_at objects (put_in x v activations)) after (λ q ne. (put_reads objects activations x v q ne, others q ne)) (λ o e. says o (put_value objects activations x v o e)) (λ o own e q a b. fresh o own (put_value objects activations x v o e) q a b) }

  -- What is in hand.
  pub put_hand : after (variable x) ≢ held.Null → IsInHand objects activations hold (kinds.variables x) v → Fits kinds objects (put_in x v activations) after
  put_hand ne i = put_fits (λ o e. says_right (access_at objects) (after (variable x)) (kinds.variables x) o ne (i.hand.right o e)) (λ o own e q a b. absurd (i.hand.free o e q a b))

  -- What another place names, which may be relied on, and what the variable does not own then.
  pub put_copy : (p : Place) → v ≡ value_at objects activations p → hold p ≢ held.Lost → kinds.variables x ≡ kind_of kinds (access_at objects) p → after (variable x) ≢ held.Null → (Owns (after (variable x)) → ⊥) → Fits kinds objects (put_in x v activations) after
  put_copy p is ne kind some none = put_fits (λ o e. says_right (access_at objects) (after (variable x)) (kinds.variables x) o some (rw kind (kernel.right_at f.fit p ne o (sym is ∙ e)))) (λ o own. absurd (none own))

  -- Null, or another value that names nothing.
  pub put_blank : ((o : Id) → v ≡ Names o → ⊥) → Fits kinds objects (put_in x v activations) after
  put_blank none = put_fits (λ o e. absurd (none o e)) (λ o own e. absurd (none o e))

-- What is in hand stays so where a variable gets another value.
pub hand_put : {objects : List Object} {activations : List (Activation Value)} {hold : Place → Hold} {kind : Option ℕ} {w : Value} (x : ℕ) (v : Value) (after : Place → Hold) → ((q : Place) → q ≢ variable x → after q ≡ hold q) → ((o : Id) → Owns (after (variable x)) → w ≡ Names o → v ≡ Names o → ⊥) → IsInHand objects activations hold kind w → IsInHand objects (put_in x v activations) after kind w
hand_put {objects} {activations} {hold} {kind} {w} x v after others apart i = record { hand = kernel.hand_by (access_at objects) (value_at objects (put_in x v activations)) after (λ o e. refl) (λ o e q a b. go o e q (same_place q (variable x)) a b) i.hand }
  where
    go : (o : Id) → w ≡ Names o → (q : Place) → (q ≡ variable x) ⊎ (q ≢ variable x) → Owns (after q) → value_at objects (put_in x v activations) q ≡ Names o → Owns (hold q) × (value_at objects activations q ≡ Names o)
    go o e q (inl s) a b = absurd (apart o (rw s at a) e (put_value objects activations x v o (rw s at b)))
    go o e q (inr ne) a b = (rw (others q ne) at a, sym (put_reads objects activations x v q ne) ∙ b)

-- One object changes.
module _ (objects : List Object) (o : Id) (x : Object) (found : object_at objects o ≡ Some x) (y : Object) where
  pub at_here : object_at (slice_set objects o.0 y) o ≡ Some y
  at_here = set_here objects o.0 x y found

  pub access_set : access_in (Some y) ≡ access_in (Some x) → (k : Id) → access_at (slice_set objects o.0 y) k ≡ access_at objects k
  access_set same k = go (same_id k o)
    where
      go : (k ≡ o) ⊎ (k ≢ o) → access_at (slice_set objects o.0 y) k ≡ access_at objects k
      go (inl e) = rw (e, at_here, found) same
      go (inr ne) = ap access_in (at_other objects o k y ne)

  pub component_set : (k : Id) (d : ℕ) → (k ≡ o → component_in (Some y) d ≡ component_in (Some x) d) → component_in (object_at (slice_set objects o.0 y) k) d ≡ component_in (object_at objects k) d
  component_set k d same = go (same_id k o)
    where
      go : (k ≡ o) ⊎ (k ≢ o) → component_in (object_at (slice_set objects o.0 y) k) d ≡ component_in (object_at objects k) d
      go (inl e) = rw (e, at_here, found) (same e)
      go (inr ne) = ap (λ t. component_in t d) (at_other objects o k y ne)

  pub changed_is : (change : Object → Object) → change x ≡ y → on_object change objects (Names o) ≡ slice_set objects o.0 y
  changed_is change is = rw (found, is) refl

  -- It looks the same.
  module _ (access : access_in (Some y) ≡ access_in (Some x)) (components : (c : ℕ) → component_in (Some y) c ≡ component_in (Some x) c) where
    pub values_set : (activations : List (Activation Value)) (p : Place) → value_at (slice_set objects o.0 y) activations p ≡ value_at objects activations p
    values_set activations (variable z) = refl
    values_set activations (component k d) = component_set k d (λ e. components d)
    values_set activations (elsewhere d z) = refl

    pub looks_same : {kinds : Kinds} {activations : List (Activation Value)} {hold : Place → Hold} → Fits kinds objects activations hold → Fits kinds (slice_set objects o.0 y) activations hold
    looks_same {kinds} {activations} f = record { fit = kernel.same f.fit (access_at (slice_set objects o.0 y)) (value_at (slice_set objects o.0 y) activations) (kind_of kinds (access_at (slice_set objects o.0 y))) (access_set access) (values_set activations) (kinds_same kinds (access_at objects) (access_at (slice_set objects o.0 y)) (access_set access)) }

    pub hand_same : {activations : List (Activation Value)} {hold : Place → Hold} {kind : Option ℕ} {v : Value} → IsInHand objects activations hold kind v → IsInHand (slice_set objects o.0 y) activations hold kind v
    hand_same {activations} {hold} i = record { hand = kernel.hand_by (access_at (slice_set objects o.0 y)) (value_at (slice_set objects o.0 y) activations) hold (λ k e. access_set access k) (λ k e q a b. (a, sym (values_set activations q) ∙ b)) i.hand }

-- A component gets a value.
pub store_is : (objects : List Object) (o : Id) (x : Object) → object_at objects o ≡ Some x → (c : ℕ) (v : Value) → store objects (Names o) c v ≡ slice_set objects o.0 (filled c v x)
store_is objects o x found c v = ap (λ t. changed (filled c v) t objects o) found

stored_other : (b : Bool) (vs : List Value) (c d : ℕ) (v : Value) → d ≢ c → (if b then slice_index_or (slice_set vs c v) d Null else Null) ≡ (if b then slice_index_or vs d Null else Null)
stored_other true vs c d v ne = read_other vs c d v Null ne
stored_other false vs c d v ne = refl

stored_value : (b : Bool) (vs : List Value) (c : ℕ) (v : Value) (k : Id) → (if b then slice_index_or (slice_set vs c v) c Null else Null) ≡ Names k → v ≡ Names k
stored_value false vs c v k e = absurd (cc e)
stored_value true vs c v k e = go (read_same vs c v Null)
  where
    go : (slice_index_or (slice_set vs c v) c Null ≡ v) ⊎ (slice_index_or (slice_set vs c v) c Null ≡ Null) → v ≡ Names k
    go (inl i) = sym i ∙ e
    go (inr i) = absurd (cc (i, e))

module _ (objects : List Object) (o : Id) (x : Object) (found : object_at objects o ≡ Some x) (c : ℕ) (v : Value) where
  pub store_access : (k : Id) → access_at (store objects (Names o) c v) k ≡ access_at objects k
  store_access k = rw (store_is objects o x found c v) (access_set objects o x found (filled c v x) refl k)

  pub store_reads : (activations : List (Activation Value)) (q : Place) → q ≢ component o c → value_at (store objects (Names o) c v) activations q ≡ value_at objects activations q
  store_reads activations (variable y) ne = refl
  store_reads activations (component k d) ne = rw (store_is objects o x found c v) (component_set objects o x found (filled c v x) k d (λ e. stored_other (is_there x.stage) x.cell.values c d v (λ h. ne (rw (e, h) refl))))
  store_reads activations (elsewhere d y) ne = refl

  pub store_value : (activations : List (Activation Value)) (k : Id) → value_at (store objects (Names o) c v) activations (component o c) ≡ Names k → v ≡ Names k
  store_value activations k e = stored_value (is_there x.stage) x.cell.values c v k (sym (ap (λ t. component_in t c) here) ∙ e)
    where
      here : object_at (store objects (Names o) c v) o ≡ Some (filled c v x)
      here = rw (store_is objects o x found c v) (at_here objects o x found (filled c v x))

  module _ {kinds : Kinds} {activations : List (Activation Value)} {hold : Place → Hold} (after : Place → Hold)
      (others : (q : Place) → q ≢ component o c → after q ≡ hold q) (f : Fits kinds objects activations hold) where
    -- Whatever is said of it then, if no other place owns what it names.
    pub store_fits : ((k : Id) → v ≡ Names k → Says (access_at objects) (after (component o c)) (component_kind kinds (access_at objects o) c) k) → ((k : Id) → Owns (after (component o c)) → v ≡ Names k → (q : Place) → Owns (hold q) → value_at objects activations q ≡ Names k → q ≡ component o c) → Fits kinds (store objects (Names o) c v) activations after
    store_fits says fresh = record {
      fit = kernel.same (kernel.write f.fit (component o c) (value_at (store objects (Names o) c v) activations) after (λ q ne. (store_reads activations q ne, others q ne)) (λ k e. says k (store_value activations k e)) (λ k own e q a b. fresh k own (store_value activations k e) q a b))
          (access_at (store objects (Names o) c v)) (value_at (store objects (Names o) c v) activations) (kind_of kinds (access_at (store objects (Names o) c v))) store_access (λ p. refl) (kinds_same kinds (access_at objects) (access_at (store objects (Names o) c v)) store_access);
    }

    -- What is in hand.
    pub store_hand : after (component o c) ≢ held.Null → IsInHand objects activations hold (component_kind kinds (access_at objects o) c) v → Fits kinds (store objects (Names o) c v) activations after
    store_hand ne i = store_fits (λ k e. says_right (access_at objects) (after (component o c)) (component_kind kinds (access_at objects o) c) k ne (i.hand.right k e)) (λ k own e q a b. absurd (i.hand.free k e q a b))

    -- Null, or another value that names nothing.
    pub store_blank : ((k : Id) → v ≡ Names k → ⊥) → Fits kinds (store objects (Names o) c v) activations after
    store_blank none = store_fits (λ k e. absurd (none k e)) (λ k own e. absurd (none k e))

  -- Another value in hand stays so.
  pub hand_store : {activations : List (Activation Value)} {hold : Place → Hold} {kind : Option ℕ} {w : Value} (after : Place → Hold) → ((q : Place) → q ≢ component o c → after q ≡ hold q) → ((k : Id) → Owns (after (component o c)) → w ≡ Names k → v ≡ Names k → ⊥) → IsInHand objects activations hold kind w → IsInHand (store objects (Names o) c v) activations after kind w
  hand_store {activations} {hold} {kind} {w} after others apart i = record { hand = kernel.hand_by (access_at (store objects (Names o) c v)) (value_at (store objects (Names o) c v) activations) after (λ k e. store_access k) (λ k e q a b. go k e q (same_place q (component o c)) a b) i.hand }
    where
      go : (k : Id) → w ≡ Names k → (q : Place) → (q ≡ component o c) ⊎ (q ≢ component o c) → Owns (after q) → value_at (store objects (Names o) c v) activations q ≡ Names k → Owns (hold q) × (value_at objects activations q ≡ Names k)
      go k e q (inl s) a b = absurd (apart k (rw s at a) e (store_value activations k (rw s at b)))
      go k e q (inr ne) a b = (rw (others q ne) at a, sym (store_reads activations q ne) ∙ b)

-- What pending forms have computed is no place.
operands_read : (objects : List Object) (operands : List Value) (activations : List (Activation Value)) (p : Place) → value_at objects (with_operands operands activations) p ≡ value_at objects activations p
operands_read objects operands [] p = refl
operands_read objects operands (a ∷ suspended) (variable x) = refl
operands_read objects operands (a ∷ suspended) (component o c) = refl
operands_read objects operands (a ∷ suspended) (elsewhere zero x) = refl
operands_read objects operands (a ∷ suspended) (elsewhere (suc d) x) = refl

module _ {objects : List Object} {activations : List (Activation Value)} {hold : Place → Hold} (operands : List Value) where
  pub operands_fit : {kinds : Kinds} → Fits kinds objects activations hold → Fits kinds objects (with_operands operands activations) hold
  operands_fit {kinds} f = record { fit = kernel.same f.fit (access_at objects) (value_at objects (with_operands operands activations)) (kind_of kinds (access_at objects)) (λ k. refl) (operands_read objects operands activations) (λ p. refl) }

  pub hand_operands : {kind : Option ℕ} {v : Value} → IsInHand objects activations hold kind v → IsInHand objects (with_operands operands activations) hold kind v
  hand_operands i = record { hand = kernel.hand_by (access_at objects) (value_at objects (with_operands operands activations)) hold (λ o e. refl) (λ o e q a b. (a, sym (operands_read objects operands activations q) ∙ b)) i.hand }

-- Before anything is allocated, all places are as they are relied on to be: none names an object.
none_named : (a : Activation Value) → NameNothing a.places → (p : Place) (o : Id) → value_at [] (a ∷ []) p ≡ Names o → ⊥
none_named a nothing (variable x) o e = nothing x o e
none_named a nothing (component k c) o e = cc e
none_named a nothing (elsewhere zero x) o e = cc e
none_named a nothing (elsewhere (suc d) x) o e = cc e

pub first_fits : (kinds : Kinds) (a : Activation Value) (hold : Place → Hold) → NameNothing a.places → Fits kinds [] (a ∷ []) hold
first_fits kinds a hold nothing = record { fit = record { relied = λ p o e. absurd (none_named a nothing p o e); apart = λ p q o x y e f. absurd (none_named a nothing p o e) } }
