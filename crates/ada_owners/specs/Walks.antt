-- Paths through access values, one value a step (4.1), and what they come to.

use Rattle.std.specs.Prelude.{◌≡◌, ◌≢◌, ℕ, List, [], ◌∷◌, Option, Some, None}
use Rattle.std.specs.List.{slice_get}
use Rattle.ada_flow.specs.declared.rule.Hold.{Hold}
use Rattle.ada_flow.specs.declared.rule.Hold.TheVariants as held
use Rattle.ada_meaning.specs.declared.state.Id.{Id}
use Rattle.ada_meaning.specs.declared.state.Value.{Value}
use Rattle.ada_meaning.specs.declared.state.Value.TheVariants.{Names}
use Rattle.ada_meaning.specs.Heap.{Found, on_null, on_gone, on_other, finds}
use Rattle.ada_meaning.specs.declared.event.Halt.TheVariants.{Erroneous, Stuck}
use Rattle.ada_meaning.specs.declared.event.Why.TheVariants.{FollowsGone}
use Rattle.ada_meaning.specs.Event.{Followed, Quiet}
use Rattle.ada_meaning.specs.Step.{halts, moves, raised, reading, path_next}
use Rattle.ada_meaning.specs.Named.{Object, State, Next, look, named}
use Rattle.ada_program.specs.declared.program.Exception.TheVariants.{ConstraintError}
use Rattle.ada_owners.specs.Places.{Place, component, access_at}
use Rattle.ada_owners.specs.Reliance.{IsOf, Kinds, component_kind}

-- What is found behind something, where that is found.
abbrev pub then_found : {X Y : Type 0} → Found X → (X → Found Y) → Found Y
then_found on_null more = on_null
then_found on_gone more = on_gone
then_found on_other more = on_other
then_found (finds x) more = more x

-- A component's value, if there is such a component.
abbrev pub value_found : Option Value → Found Value
value_found None = on_other
value_found (Some v) = finds v

-- The value behind one selector: that of a component of the object that an access value gives access to.
abbrev pub behind : List Object → Value → (c : ℕ) → Found Value
behind objects v c = then_found (look objects v) (λ cell. value_found (slice_get cell.values c))

-- The value behind selectors, one after another.
abbrev pub walk : List Object → Value → List ℕ → Found Value
walk objects v [] = finds v
walk objects v (c ∷ cs) = then_found (behind objects v c) (λ w. walk objects w cs)

-- What comes next where a path is followed by one selector (4.1): null raises Constraint_Error, and to follow an object that is gone is erroneous
-- (13.11.2).
abbrev pub followed_next : Found Value → Value → List ℕ → State → Next
followed_next on_null v cs s = moves Quiet (raised ConstraintError s)
followed_next on_gone v cs s = halts (Erroneous FollowsGone)
followed_next on_other v cs s = halts Stuck
followed_next (finds w) v cs s = moves (Followed v) (reading named cs w s)

-- A run follows paths as a walk does, one selector a step.
abbrev pub PathsWalk : Type 0
PathsWalk = (v : Value) (c : ℕ) (cs : List ℕ) (s : State) → path_next named (c ∷ cs) v s ≡ followed_next (behind s.heap v c) v cs s

-- The access type of the value behind selectors.
abbrev pub kind_behind : Kinds → Option ℕ → List ℕ → Option ℕ
kind_behind kinds kind [] = kind
kind_behind kinds kind (c ∷ cs) = kind_behind kinds (component_kind kinds kind c) cs

-- An access value of this access type may be followed, where P says which ones may.
abbrev pub MayFollow : (ℕ → Type 0) → Option ℕ → Type 0
MayFollow P None = Unit {0}
MayFollow P (Some t) = P t

-- A walk follows only access values of access types that may be followed.
abbrev pub FollowsOnly : Kinds → (ℕ → Type 0) → Option ℕ → List ℕ → Type 0
FollowsOnly kinds P kind [] = Unit {0}
FollowsOnly kinds P kind (c ∷ cs) = MayFollow P kind × FollowsOnly kinds P (component_kind kinds kind c) cs

-- Components of objects of access types that may be followed are relied on: none of them is lent.
abbrev pub AreOpen : (ℕ → Type 0) → List Object → (Place → Hold) → Type 0
AreOpen P objects hold = (o : Id) (c t : ℕ) → access_at objects o ≡ Some t → P t → hold (component o c) ≢ held.Lost

-- A walk comes to no object that is gone, and what it finds is null or names an object of the access type, which exists.
abbrev pub IsRight : List Object → Option ℕ → Found Value → Type 0
IsRight objects kind on_null = Unit {0}
IsRight objects kind on_gone = ⊥
IsRight objects kind on_other = Unit {0}
IsRight objects kind (finds v) = (o : Id) → v ≡ Names o → IsOf (access_at objects) kind o
