-- An object leaves its collection, ceases to exist, and its words go back.

use Rattle.std.proofs.Common.{◌≡◌, ◌≢◌, ℕ, false, List, refl, sym, ap, ◌∙◌, ◌⊎◌, inl, inr}
use Rattle.std.specs.Prelude.{Option, Some, None}
use Rattle.std.specs.List.{slice_set}
use Rattle.ada_flow.specs.declared.rule.Hold.{Hold}
use Rattle.ada_flow.specs.declared.rule.Hold.TheVariants as held
use Rattle.ada_meaning.specs.declared.state.Id.{Id}
use Rattle.ada_meaning.specs.declared.state.Value.{Value}
use Rattle.ada_meaning.specs.declared.state.Value.TheVariants.{Null, Names}
use Rattle.ada_meaning.specs.State.{Activation}
use Rattle.ada_meaning.specs.Named.{Object, object_at, changed, on_object, parted, finished, returned}
use Rattle.ada_owners.specs.Places.{Place, variable, component, elsewhere, is_there, component_in, value_at, access_in, access_at}
use Rattle.ada_owners.specs.Reliance.{Says, Owns, Borrows, Kinds, component_kind, kind_of, Fits, IsInHand}
use Rattle.ada_owners.proofs.Kernel as kernel
use Rattle.ada_owners.proofs.Kernel.{same_id}
use Rattle.ada_owners.proofs.Objects.{at_other}
use Rattle.ada_owners.proofs.Changes.{at_here, changed_is, looks_same, hand_same, values_set}

-- No place that owns or borrows names an object.
pub record IsUnnamed (objects : List Object) (activations : List (Activation Value)) (hold : Place → Hold) (o : Id) : Type 0 where
  pub unowned : (q : Place) → Owns (hold q) → value_at objects activations q ≡ Names o → ⊥
  pub unborrowed : (q : Place) → Borrows (hold q) → value_at objects activations q ≡ Names o → ⊥

pub kind_is : (access : Id → Option ℕ) (h : Hold) (k : Option ℕ) (o : Id) (t : ℕ) → Borrows h → access o ≡ Some t → Says access h k o → k ≡ Some t
kind_is access held.Null k o t b is s = absurd b
kind_is access (held.Kept r) k o t b is s = absurd b
kind_is access (held.Own r) k o t b is s = absurd b
kind_is access (held.Alias r) None o t b is s = absurd s
kind_is access (held.Alias r) (Some u) o t b is s = sym s ∙ is
kind_is access held.Lost k o t b is s = absurd b

-- What is in hand is unnamed once no place of its access type borrows.
pub hand_unnamed : {kinds : Kinds} {objects : List Object} {activations : List (Activation Value)} {hold : Place → Hold} (t : ℕ) (o : Id) → Fits kinds objects activations hold → IsInHand objects activations hold (Some t) (Names o) → ((q : Place) → Borrows (hold q) → kind_of kinds (access_at objects) q ≢ Some t) → IsUnnamed objects activations hold o
hand_unnamed {kinds} {objects} {activations} {hold} t o f i none = record {
  unowned = λ q a b. i.hand.free o refl q a b;
  unborrowed = λ q a b. none q a (kind_is (access_at objects) (hold q) (kind_of kinds (access_at objects) q) o t a (i.hand.right o refl) (f.fit.relied q o b));
}

module _ (objects : List Object) (o : Id) (x : Object) (found : object_at objects o ≡ Some x) (y : Object) (off : is_there y.stage ≡ false) where
  gone_component : (c : ℕ) → component_in (object_at (slice_set objects o.0 y) o) c ≡ Null
  gone_component c = rw (at_here objects o x found y, off) refl

  -- What is named after the end was named before it, at a place of the same kind.
  end_stays : (kinds : Kinds) (activations : List (Activation Value)) (p : Place) (k : Id) → value_at (slice_set objects o.0 y) activations p ≡ Names k → (value_at objects activations p ≡ Names k) × (kind_of kinds (access_at (slice_set objects o.0 y)) p ≡ kind_of kinds (access_at objects) p)
  end_stays kinds activations (variable z) k e = (e, refl)
  end_stays kinds activations (component j d) k e = go (same_id j o)
    where
      go : (j ≡ o) ⊎ (j ≢ o) → (component_in (object_at objects j) d ≡ Names k) × (component_kind kinds (access_at (slice_set objects o.0 y) j) d ≡ component_kind kinds (access_at objects j) d)
      go (inl i) = absurd (let n : component_in (object_at (slice_set objects o.0 y) o) d ≡ Names k = rw i at e in let g = gone_component d in cc (n, g))
      go (inr ne) = (sym (ap (λ t. component_in t d) (at_other objects o j y ne)) ∙ e, ap (λ t. component_kind kinds (access_in t) d) (at_other objects o j y ne))
  end_stays kinds activations (elsewhere d z) k e = (e, refl)

  module _ {kinds : Kinds} {activations : List (Activation Value)} {hold : Place → Hold} (f : Fits kinds objects activations hold) (unnamed : IsUnnamed objects activations hold o) where
    lost_by : (p : Place) (h : Hold) → hold p ≡ h → value_at objects activations p ≡ Names o → h ≡ held.Lost
    lost_by p held.Null is e = absurd (rw is at (f.fit.relied p o e))
    lost_by p (held.Kept r) is e = absurd (unnamed.unowned p (rw is tt) e)
    lost_by p (held.Own r) is e = absurd (unnamed.unowned p (rw is tt) e)
    lost_by p (held.Alias r) is e = absurd (unnamed.unborrowed p (rw is tt) e)
    lost_by p held.Lost is e = refl

    end_fits : Fits kinds (slice_set objects o.0 y) activations hold
    end_fits = record { fit = kernel.ends f.fit o (access_at (slice_set objects o.0 y)) (value_at (slice_set objects o.0 y) activations) (kind_of kinds (access_at (slice_set objects o.0 y))) (λ k ne. ap access_in (at_other objects o k y ne)) (end_stays kinds activations) (λ p e. lost_by p (hold p) refl (end_stays kinds activations p o e).0) }

  hand_end : {activations : List (Activation Value)} {hold : Place → Hold} {kind : Option ℕ} {w : Value} → w ≢ Names o → IsInHand objects activations hold kind w → IsInHand (slice_set objects o.0 y) activations hold kind w
  hand_end {activations} {hold} ne i = record { hand = kernel.hand_by (access_at (slice_set objects o.0 y)) (value_at (slice_set objects o.0 y) activations) hold (λ k e. ap access_in (at_other objects o k y (λ s. ne (rw s at e)))) (λ k e q a b. (a, (end_stays (record { components = λ t c. None; variables = λ z. None; outer = λ d z. None }) activations q k b).0)) i.hand }

module _ (objects : List Object) (o : Id) (x : Object) (found : object_at objects o ≡ Some x) {activations : List (Activation Value)} {hold : Place → Hold} where
  -- An object leaves its collection: it is there still.
  pub part_fits : {kinds : Kinds} → Fits kinds objects activations hold → Fits kinds (on_object parted objects (Names o)) activations hold
  part_fits f = rw (changed_is objects o x found (parted x) parted refl) (looks_same objects o x found (parted x) refl (λ c. refl) f)

  pub hand_part : {kind : Option ℕ} {w : Value} → IsInHand objects activations hold kind w → IsInHand (on_object parted objects (Names o)) activations hold kind w
  hand_part i = rw (changed_is objects o x found (parted x) parted refl) (hand_same objects o x found (parted x) refl (λ c. refl) i)

  -- What is unnamed stays so.
  pub part_unnamed : (p : Id) → IsUnnamed objects activations hold p → IsUnnamed (on_object parted objects (Names o)) activations hold p
  part_unnamed p unnamed = rw (changed_is objects o x found (parted x) parted refl) (record {
    unowned = λ q own e. unnamed.unowned q own (sym (values_set objects o x found (parted x) refl (λ c. refl) activations q) ∙ e);
    unborrowed = λ q b e. unnamed.unborrowed q b (sym (values_set objects o x found (parted x) refl (λ c. refl) activations q) ∙ e);
  })

  -- An object that no place owns or borrows ceases to exist.
  pub finish_fits : {kinds : Kinds} → Fits kinds objects activations hold → IsUnnamed objects activations hold o → Fits kinds (on_object finished objects (Names o)) activations hold
  finish_fits f unnamed = rw (changed_is objects o x found (finished x) finished refl) (end_fits objects o x found (finished x) refl f unnamed)

  -- Other values in hand stay so.
  pub hand_finish : {kind : Option ℕ} {w : Value} → w ≢ Names o → IsInHand objects activations hold kind w → IsInHand (on_object finished objects (Names o)) activations hold kind w
  hand_finish ne i = rw (changed_is objects o x found (finished x) finished refl) (hand_end objects o x found (finished x) refl ne i)

  -- Words go back.
  pub back_fits : {kinds : Kinds} → Fits kinds objects activations hold → Fits kinds (on_object returned objects (Names o)) activations hold
  back_fits f = rw (changed_is objects o x found (returned x) returned refl) (looks_same objects o x found (returned x) refl (λ c. refl) f)

  pub hand_back : {kind : Option ℕ} {w : Value} → IsInHand objects activations hold kind w → IsInHand (on_object returned objects (Names o)) activations hold kind w
  hand_back i = rw (changed_is objects o x found (returned x) returned refl) (hand_same objects o x found (returned x) refl (λ c. refl) i)

-- What is named once an object is gone was named before, at a place of the same access type.
pub finished_stays : (objects : List Object) (o : Id) (x : Object) → object_at objects o ≡ Some x → (kinds : Kinds) (activations : List (Activation Value)) (p : Place) (k : Id) → value_at (on_object finished objects (Names o)) activations p ≡ Names k → (value_at objects activations p ≡ Names k) × (kind_of kinds (access_at (on_object finished objects (Names o))) p ≡ kind_of kinds (access_at objects) p)
finished_stays objects o x found kinds activations p k e =
    let is = changed_is objects o x found (finished x) finished refl in
    let h = end_stays objects o x found (finished x) refl kinds activations p k (rw is at e) in
    (h.0, rw is h.1)

-- The other objects stay.
pub others_stay : (change : Object → Object) (objects : List Object) (o k : Id) → k ≢ o → access_at (on_object change objects (Names o)) k ≡ access_at objects k
others_stay change objects o k ne = go (object_at objects o)
  where
    go : (x : Option Object) → access_at (changed change x objects o) k ≡ access_at objects k
    go None = refl
    go (Some x) = ap access_in (at_other objects o k (change x) ne)
