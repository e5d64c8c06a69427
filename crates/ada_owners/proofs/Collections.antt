-- Collections that go: their objects end one by one, in any order.

use Rattle.std.proofs.Common.{◌≡◌, ◌≢◌, ℕ, Bool, true, false, List, refl, sym, ap, ◌∙◌}
use Rattle.std.specs.Prelude.{Option, Some, None, not}
use Rattle.ada_flow.specs.declared.rule.Hold.{Hold}
use Rattle.ada_flow.specs.declared.rule.Hold.TheVariants as held
use Rattle.ada_flow.specs.Flow.{if_own, is_among}
use Rattle.ada_meaning.specs.declared.state.Id.{Id}
use Rattle.ada_meaning.specs.declared.state.Value.{Value}
use Rattle.ada_meaning.specs.declared.state.Value.TheVariants.{Names}
use Rattle.ada_meaning.specs.State.{Activation}
use Rattle.ada_meaning.specs.Named.{Object, object_at, on_object, parted, finished, returned}
use Rattle.ada_owners.specs.Places.{Place, value_at, access_at}
use Rattle.ada_owners.specs.Reliance.{IsOf, Owns, Borrows, Kinds, kind_of, spared, Fits, IsInHand}
use Rattle.ada_owners.proofs.Kernel as kernel
use Rattle.ada_owners.proofs.Changes.{weaken, hand_worse, changed_is, access_set, kinds_same}
use Rattle.ada_owners.proofs.Ends.{IsUnnamed, part_fits, finish_fits, back_fits, finished_stays}
use Rattle.ada_owners.proofs.Reliances.{if_own_good}

if_own_owns : (b : Bool) (h : Hold) → Owns (if_own b h) → (b ≡ true) × Owns h
if_own_owns true h own = (refl, own)
if_own_owns false h own = absurd own

if_own_borrows : (b : Bool) (h : Hold) → Borrows (if_own b h) → (b ≡ true) × Borrows h
if_own_borrows true h own = (refl, own)
if_own_borrows false h own = absurd own

not_true : (b : Bool) → not b ≡ true → b ≡ false
not_true true e = absurd (cc e)
not_true false e = refl

kind_some : (access : Id → Option ℕ) (k : Option ℕ) (o : Id) (t : ℕ) → access o ≡ Some t → IsOf access k o → k ≡ Some t
kind_some access None o t is s = absurd s
kind_some access (Some u) o t is s = sym s ∙ is

spared_apart : (kinds : Kinds) (objects : List Object) (types : List ℕ) (p : Place) (o : Id) (t : ℕ) → access_at objects o ≡ Some t → is_among types (Some t) ≡ true → not (is_among types (kind_of kinds (access_at objects) p)) ≡ true → IsOf (access_at objects) (kind_of kinds (access_at objects) p) o → ⊥
spared_apart kinds objects types p o t is among out s =
    let k = kind_some (access_at objects) (kind_of kinds (access_at objects) p) o t is s in
    let b = not_true (is_among types (kind_of kinds (access_at objects) p)) out in
    let c : is_among types (Some t) ≡ false = rw k at b in
    cc (among, c)

module _ (kinds : Kinds) (objects : List Object) {activations : List (Activation Value)} (hold : Place → Hold) (types : List ℕ) where
  -- Nothing relies on their places from now on.
  pub spare_fits : Fits kinds objects activations hold → Fits kinds objects activations (spared types kinds objects hold)
  spare_fits f = weaken (spared types kinds objects hold) (λ p. if_own_good (not (is_among types (kind_of kinds (access_at objects) p))) (hold p)) f

  -- So no place owns or borrows an object of these types.
  pub spared_unnamed : (o : Id) (t : ℕ) → access_at objects o ≡ Some t → is_among types (Some t) ≡ true → Fits kinds objects activations (spared types kinds objects hold) → IsUnnamed objects activations (spared types kinds objects hold) o
  spared_unnamed o t is among f = record {
    unowned = λ q a b. let h = if_own_owns (not (is_among types (kind_of kinds (access_at objects) q))) (hold q) a in spared_apart kinds objects types q o t is among h.0 (kernel.owned_at f.fit q a o b);
    unborrowed = λ q a b. let h = if_own_borrows (not (is_among types (kind_of kinds (access_at objects) q))) (hold q) a in spared_apart kinds objects types q o t is among h.0 (kernel.right_at f.fit q (not_lost (spared types kinds objects hold q) a) o b);
  }
    where
      not_lost : (h : Hold) → Borrows h → h ≢ held.Lost
      not_lost held.Null b e = b
      not_lost (held.Kept r) b e = b
      not_lost (held.Own r) b e = b
      not_lost (held.Alias r) b e = cc e
      not_lost held.Lost b e = b

  -- One of them leaves its collection.
  pub spared_part : (o : Id) (x : Object) → object_at objects o ≡ Some x → Fits kinds objects activations (spared types kinds objects hold) → Fits kinds (on_object parted objects (Names o)) activations (spared types kinds (on_object parted objects (Names o)) hold)
  spared_part o x found f = record { fit = kernel.held_same (part_fits objects o x found f).fit (spared types kinds (on_object parted objects (Names o)) hold) (λ p k e. ap (λ j. if_own (not (is_among types j)) (hold p)) (kinds_same kinds (access_at objects) (access_at (on_object parted objects (Names o))) same p)) }
    where
      same : (k : Id) → access_at (on_object parted objects (Names o)) k ≡ access_at objects k
      same k = rw (changed_is objects o x found (parted x) parted refl) (access_set objects o x found (parted x) refl k)

  -- It ceases to exist, and its words go back.
  pub spared_finish : (o : Id) (x : Object) (t : ℕ) → object_at objects o ≡ Some x → access_at objects o ≡ Some t → is_among types (Some t) ≡ true → Fits kinds objects activations (spared types kinds objects hold) → Fits kinds (on_object finished objects (Names o)) activations (spared types kinds (on_object finished objects (Names o)) hold)
  spared_finish o x t found is among f =
      let g = finish_fits objects o x found f (spared_unnamed o t is among f) in
      record { fit = kernel.held_same g.fit (spared types kinds (on_object finished objects (Names o)) hold) (λ p k e. ap (λ j. if_own (not (is_among types j)) (hold p)) (finished_stays objects o x found kinds activations p k e).1) }

  pub spared_back : (o : Id) (x : Object) → object_at objects o ≡ Some x → Fits kinds objects activations (spared types kinds objects hold) → Fits kinds (on_object returned objects (Names o)) activations (spared types kinds (on_object returned objects (Names o)) hold)
  spared_back o x found f = record { fit = kernel.held_same (back_fits objects o x found f).fit (spared types kinds (on_object returned objects (Names o)) hold) (λ p k e. ap (λ j. if_own (not (is_among types j)) (hold p)) (kinds_same kinds (access_at objects) (access_at (on_object returned objects (Names o))) same p)) }
    where
      same : (k : Id) → access_at (on_object returned objects (Names o)) k ≡ access_at objects k
      same k = rw (changed_is objects o x found (returned x) returned refl) (access_set objects o x found (returned x) refl k)

  -- Once all of them are gone: where no place of these types is relied on that still names something, all is as it was.
  pub closed_fits : ((p : Place) (o : Id) → value_at objects activations p ≡ Names o → is_among types (kind_of kinds (access_at objects) p) ≡ true → hold p ≡ held.Lost) → Fits kinds objects activations (spared types kinds objects hold) → Fits kinds objects activations hold
  closed_fits lost f = record { fit = kernel.held_same f.fit hold (λ p o e. go p o e (is_among types (kind_of kinds (access_at objects) p)) refl) }
    where
      go : (p : Place) (o : Id) → value_at objects activations p ≡ Names o → (b : Bool) → is_among types (kind_of kinds (access_at objects) p) ≡ b → hold p ≡ spared types kinds objects hold p
      go p o e true is = rw is (lost p o e is)
      go p o e false is = rw is refl

  -- What is in hand stays so.
  pub hand_spare : {kind : Option ℕ} {v : Value} → IsInHand objects activations hold kind v → IsInHand objects activations (spared types kinds objects hold) kind v
  hand_spare i = hand_worse (spared types kinds objects hold) (λ q a. (if_own_owns (not (is_among types (kind_of kinds (access_at objects) q))) (hold q) a).1) i
