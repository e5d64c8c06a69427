-- What each change keeps, of every state whose places are as they are relied on to be. That the access types of what is assigned agree is a premise:
-- well-formed programs see to it.

use Rattle.std.specs.Prelude.{◌≡◌, ◌≢◌, ℕ, true, false, List, [], ◌∷◌, Option, Some}
use Rattle.ada_program.specs.ProgramForm.{VariableForm}
use Rattle.ada_flow.specs.declared.rule.Hold.{Hold}
use Rattle.ada_flow.specs.declared.rule.Hold.TheVariants as held
use Rattle.ada_flow.specs.declared.rule.Region.TheVariants.{Whole}
use Rattle.ada_flow.specs.Flow.{Holds, hold_at, variable_access, is_among, without_aliases}
use Rattle.ada_meaning.specs.declared.state.Id.{Id}
use Rattle.ada_meaning.specs.declared.state.Value.{Value}
use Rattle.ada_meaning.specs.declared.state.Value.TheVariants.{Null, Names}
use Rattle.ada_meaning.specs.Heap.{Cell}
use Rattle.ada_meaning.specs.State.{Activation}
use Rattle.ada_meaning.specs.Named.{Object, object_at, on_object, create, created, parted, finished, returned, store}
use Rattle.ada_owners.specs.Places.{Place, variable, component, is_there, value_at, access_at, put_in, is_lent}
use Rattle.ada_owners.specs.Reliance.{Owns, Borrows, Kinds, kind_of, Reliance, hold_of, with_hold, with_lent, callee_kinds, callee_reliance, caller_kinds, caller_reliance, spared, Fits, IsInHand, AreInHand, NameNothing}
use Rattle.ada_owners.specs.Walks.{walk, kind_behind, IsRight}

-- Of every state whose places are as they are relied on to be.
abbrev pub InEveryFit : (Kinds → List Object → List (Activation Value) → Reliance → Type 0) → Type 0
InEveryFit P =
    (kinds : Kinds) (objects : List Object) (activations : List (Activation Value)) (r : Reliance)
    → Fits kinds objects activations (hold_of r) → P kinds objects activations r

-- Before anything is allocated, while no variable names an object, all places are as they are relied on to be, whatever that is.
abbrev pub FirstStatesFit : Type 0
FirstStatesFit = (kinds : Kinds) (body : Activation Value) (r : Reliance) → NameNothing body.places → Fits kinds [] (body ∷ []) (hold_of r)

-- An object is there.
abbrev pub IsThere : List Object → Id → Type 0
IsThere objects o = (x : Object) × (object_at objects o ≡ Some x) × (is_there x.stage ≡ true)

-- What a place names that owns is there.
abbrev pub OwnedAreThere : Type 0
OwnedAreThere = InEveryFit (λ kinds objects activations r.
    (p : Place) (o : Id) → Owns (hold_of r p) → value_at objects activations p ≡ Names o → IsThere objects o)

-- What a place names that borrows is there.
abbrev pub BorrowedAreThere : Type 0
BorrowedAreThere = InEveryFit (λ kinds objects activations r.
    (p : Place) (o : Id) → Borrows (hold_of r p) → value_at objects activations p ≡ Names o → IsThere objects o)

-- No object has two owners.
abbrev pub OwnersAreAlone : Type 0
OwnersAreAlone = InEveryFit (λ kinds objects activations r.
    (p q : Place) (o : Id) → Owns (hold_of r p) → Owns (hold_of r q)
    → value_at objects activations p ≡ Names o → value_at objects activations q ≡ Names o → p ≡ q)

-- X := Y, where Y owns: X owns then, and Y is lost (5.2).
abbrev pub MovesKeep : Type 0
MovesKeep = InEveryFit (λ kinds objects activations r.
    (x y : ℕ) → Owns (hold_of r (variable y)) → kinds.variables x ≡ kinds.variables y
    → Fits kinds objects (put_in x (value_at objects activations (variable y)) activations)
    (hold_of (with_hold x (held.Own Whole) (with_hold y held.Lost r))))

-- X := V, where V lies in a place that may be relied on: X borrows then, and that place stays as it was.
abbrev pub BorrowsKeep : Type 0
BorrowsKeep = InEveryFit (λ kinds objects activations r.
    (x : ℕ) (p : Place) → hold_of r p ≢ held.Lost → kinds.variables x ≡ kind_of kinds (access_at objects) p
    → Fits kinds objects (put_in x (value_at objects activations p) activations) (hold_of (with_hold x (held.Alias Whole) r)))

-- O.C := Y, where O is there and Y owns: the component owns then, and Y is lost.
abbrev pub StoresKeep : Type 0
StoresKeep = InEveryFit (λ kinds objects activations r.
    (o : Id) (c t y : ℕ) → access_at objects o ≡ Some t → Owns (hold_of r (variable y)) → kinds.components t c ≡ kinds.variables y
    → Fits kinds (store objects (Names o) c (value_at objects activations (variable y))) activations (hold_of (with_hold y held.Lost r)))

-- X := O.C: X owns then, as long as the component is lent.
abbrev pub TakesKeep : Type 0
TakesKeep = InEveryFit (λ kinds objects activations r.
    (x : ℕ) (o : Id) (c t : ℕ) → access_at objects o ≡ Some t → kinds.components t c ≡ kinds.variables x → is_lent r.lent o c ≡ false
    → Fits kinds objects (put_in x (value_at objects activations (component o c)) activations)
    (hold_of (with_lent o c (with_hold x (held.Own Whole) r))))

-- O.C := null: a component that was lent is relied on again.
abbrev pub ClearsKeep : Type 0
ClearsKeep =
    (kinds : Kinds) (objects : List Object) (activations : List (Activation Value)) (r : Reliance) (o : Id) (c t : ℕ)
    → access_at objects o ≡ Some t → Fits kinds objects activations (hold_of (with_lent o c r))
    → Fits kinds (store objects (Names o) c Null) activations (hold_of r)

-- X := O.C; O.C := null: X owns then.
abbrev pub TakePairsKeep : Type 0
TakePairsKeep = InEveryFit (λ kinds objects activations r.
    (x : ℕ) (o : Id) (c t : ℕ) → access_at objects o ≡ Some t → kinds.components t c ≡ kinds.variables x → is_lent r.lent o c ≡ false
    → Fits kinds (store objects (Names o) c Null) (put_in x (value_at objects activations (component o c)) activations)
    (hold_of (with_hold x (held.Own Whole) r)))

-- K.D := O.C; O.C := null: what one component owned the other owns then.
abbrev pub ComponentPairsKeep : Type 0
ComponentPairsKeep = InEveryFit (λ kinds objects activations r.
    (k o : Id) (d c u t : ℕ) → access_at objects k ≡ Some u → access_at objects o ≡ Some t
    → kinds.components u d ≡ kinds.components t c → is_lent r.lent o c ≡ false
    → Fits kinds (store (store objects (Names k) d (value_at objects activations (component o c))) (Names o) c Null) activations (hold_of r))

-- new T'(..), of values in hand, no two of which name one object (4.8): they are the components of an object whose name is in hand.
abbrev pub AllocationsKeep : Type 0
AllocationsKeep = InEveryFit (λ kinds objects activations r.
    (words : ℕ) (cell : Cell Value) → AreInHand objects activations (hold_of r) (kinds.components cell.access) 0 cell.values
    → Fits kinds (create objects words cell) activations (hold_of r)
    × IsInHand (create objects words cell) activations (hold_of r) (Some cell.access) (created objects words))

-- O.C := new T'(..), of values in hand while the component is lent, so that its old value may be one of them: the component owns the new object
-- then.
abbrev pub InsertionsKeep : Type 0
InsertionsKeep =
    (kinds : Kinds) (objects : List Object) (activations : List (Activation Value)) (r : Reliance) (o : Id) (c t words : ℕ) (cell : Cell Value)
    → Fits kinds objects activations (hold_of (with_lent o c r)) → access_at objects o ≡ Some t → kinds.components t c ≡ Some cell.access
    → AreInHand objects activations (hold_of (with_lent o c r)) (kinds.components cell.access) 0 cell.values
    → Fits kinds (store (create objects words cell) (Names o) c (created objects words)) activations (hold_of r)

-- X := V, where V is in hand, as the name of a new object is (5.2): X owns then.
abbrev pub PutsKeep : Type 0
PutsKeep = InEveryFit (λ kinds objects activations r.
    (x : ℕ) (v : Value) → IsInHand objects activations (hold_of r) (kinds.variables x) v
    → Fits kinds objects (put_in x v activations) (hold_of (with_hold x (held.Own Whole) r)))

-- No place borrows an object of an access type.
abbrev pub NoneBorrows : Kinds → List Object → (Place → Hold) → (access : ℕ) → Type 0
NoneBorrows kinds objects hold t = (q : Place) → Borrows (hold q) → kind_of kinds (access_at objects) q ≢ Some t

-- The objects once this one has left its collection.
abbrev pub without : List Object → Value → List Object
without objects v = on_object parted objects v

-- The objects once this one has ceased to exist.
abbrev pub ended : List Object → Value → List Object
ended objects v = on_object finished (without objects v) v

-- The objects once the words of this one are back.
abbrev pub given_back : List Object → Value → List Object
given_back objects v = on_object returned (ended objects v) v

-- An object in hand ends (13.11.2), while no place borrows an object of its access type: all places stay as they are relied on to be.
abbrev pub EndsKeep : Type 0
EndsKeep = InEveryFit (λ kinds objects activations r.
    (o : Id) (t : ℕ) → IsInHand objects activations (hold_of r) (Some t) (Names o) → NoneBorrows kinds objects (hold_of r) t
    → Fits kinds (without objects (Names o)) activations (hold_of r)
    × Fits kinds (ended objects (Names o)) activations (hold_of r)
    × Fits kinds (given_back objects (Names o)) activations (hold_of r))

-- What is relied on once a variable and the aliases of an access type are lost.
abbrev pub with_freed : List VariableForm → (access x : ℕ) → Reliance → Reliance
with_freed variables t x r = record r { holds = without_aliases variables t (with_hold x held.Lost r).holds }

-- Free (X), where X owns, and no suspended activation borrows an object of its access type: X is null then, and the aliases of that type are lost.
abbrev pub FreesKeep : Type 0
FreesKeep = InEveryFit (λ kinds objects activations r.
    (variables : List VariableForm) (x t : ℕ) (o : Id)
    → ((y : ℕ) → kinds.variables y ≡ variable_access variables y)
    → ((d y : ℕ) → Borrows (hold_at (r.outer d) y) → kinds.outer d y ≢ Some t)
    → kinds.variables x ≡ Some t → Owns (hold_of r (variable x)) → value_at objects activations (variable x) ≡ Names o
    → Fits kinds (given_back objects (Names o)) (put_in x Null activations) (hold_of (with_hold x held.Null (with_freed variables t x r))))

-- Free (O.C), where the access type of O is another one than that of O.C, and no suspended activation borrows an object of the latter: the component
-- is null then, and the aliases of that access type are lost.
abbrev pub ComponentFreesKeep : Type 0
ComponentFreesKeep = InEveryFit (λ kinds objects activations r.
    (variables : List VariableForm) (o k : Id) (c u t : ℕ)
    → ((y : ℕ) → kinds.variables y ≡ variable_access variables y)
    → ((d y : ℕ) → Borrows (hold_at (r.outer d) y) → kinds.outer d y ≢ Some t)
    → access_at objects o ≡ Some u → u ≢ t → kinds.components u c ≡ Some t → is_lent r.lent o c ≡ false
    → value_at objects activations (component o c) ≡ Names k
    → Fits kinds (store (given_back objects (Names k)) (Names o) c Null) activations
    (hold_of (record r { holds = without_aliases variables t r.holds })))

-- A collection begins to go: nothing relies on places of its access type any more.
abbrev pub SparesKeep : Type 0
SparesKeep = InEveryFit (λ kinds objects activations r.
    (types : List ℕ) → Fits kinds objects activations (spared types kinds objects (hold_of r)))

-- Each place of these access types that names an object is lost.
abbrev pub AreLost : List ℕ → Kinds → List Object → List (Activation Value) → (Place → Hold) → Type 0
AreLost types kinds objects activations hold =
    (p : Place) (o : Id) → value_at objects activations p ≡ Names o → is_among types (kind_of kinds (access_at objects) p) ≡ true
    → hold p ≡ held.Lost

-- A collection is gone: where each place of its access type that still names an object is lost, all places are as they are relied on to be.
abbrev pub ClosesKeep : Type 0
ClosesKeep =
    (kinds : Kinds) (objects : List Object) (activations : List (Activation Value)) (r : Reliance) (types : List ℕ)
    → AreLost types kinds objects activations (hold_of r) → Fits kinds objects activations (spared types kinds objects (hold_of r))
    → Fits kinds objects activations (hold_of r)

-- A collection goes (7.6.1): from when nothing relies on places of its access type, its objects end, whichever comes next, and what is relied on
-- elsewhere stays as it is.
abbrev pub MembersEnd : Type 0
MembersEnd =
    (kinds : Kinds) (objects : List Object) (activations : List (Activation Value)) (r : Reliance) (types : List ℕ) (o : Id) (t : ℕ)
    → Fits kinds objects activations (spared types kinds objects (hold_of r))
    → access_at objects o ≡ Some t → is_among types (Some t) ≡ true
    → Fits kinds (without objects (Names o)) activations (spared types kinds (without objects (Names o)) (hold_of r))
    × Fits kinds (ended objects (Names o)) activations (spared types kinds (ended objects (Names o)) (hold_of r))
    × Fits kinds (given_back objects (Names o)) activations (spared types kinds (given_back objects (Names o)) (hold_of r))

-- A call suspends the running activation (6.4).
abbrev pub CallsKeep : Type 0
CallsKeep = InEveryFit (λ kinds objects activations r.
    (callee : Activation Value) (variables : ℕ → Option ℕ) (holds : Holds) → NameNothing callee.places
    → Fits (callee_kinds variables kinds) objects (callee ∷ activations) (hold_of (callee_reliance holds r)))

-- A call hands what the actual Y of an access type owns over to the formal X (6.4.1): X owns then, and Y is lost.
abbrev pub ActualsKeep : Type 0
ActualsKeep = InEveryFit (λ kinds objects activations r.
    (callee : Activation Value) (variables : ℕ → Option ℕ) (holds : Holds) (x y : ℕ) → NameNothing callee.places
    → Owns (hold_of r (variable y)) → variables x ≡ kinds.variables y
    → Fits (callee_kinds variables kinds) objects (put_in x (value_at objects activations (variable y)) (callee ∷ activations))
    (hold_of (with_hold x (held.Own Whole) (callee_reliance holds (with_hold y held.Lost r)))))

-- A return hands what the formal X owns back to the actual Y (6.4.1): Y owns then.
abbrev pub CopiesBackKeep : Type 0
CopiesBackKeep =
    (kinds : Kinds) (objects : List Object) (callee : Activation Value) (activations : List (Activation Value)) (r : Reliance) (x y : ℕ)
    → Fits kinds objects (callee ∷ activations) (hold_of r) → Owns (hold_of r (variable x)) → kinds.outer 0 y ≡ kinds.variables x
    → Fits (caller_kinds kinds) objects (put_in y (value_at objects (callee ∷ activations) (variable x)) activations)
    (hold_of (with_hold y (held.Own Whole) (caller_reliance (with_hold x held.Lost r))))

-- A return ends the running activation, and goes on with the caller's (6.5).
abbrev pub ReturnsKeep : Type 0
ReturnsKeep =
    (kinds : Kinds) (objects : List Object) (callee : Activation Value) (activations : List (Activation Value)) (r : Reliance)
    → Fits kinds objects (callee ∷ activations) (hold_of r)
    → Fits (caller_kinds kinds) objects activations (hold_of (caller_reliance r))

-- A walk from a place that may be relied on, while no component is lent, comes to no object that is gone; and what it finds exists.
abbrev pub WalksAreRight : Type 0
WalksAreRight = InEveryFit (λ kinds objects activations r.
    (p : Place) (cs : List ℕ) → r.lent ≡ [] → hold_of r p ≢ held.Lost
    → IsRight objects (kind_behind kinds (kind_of kinds (access_at objects) p) cs) (walk objects (value_at objects activations p) cs))
