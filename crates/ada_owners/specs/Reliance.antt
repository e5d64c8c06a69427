-- What each place is relied on for, and what holds then: each object that is relied on exists, and one place at most owns it.

use Rattle.std.specs.Prelude.{◌≡◌, ℕ, zero, suc, Bool, true, false, not, List, [], ◌∷◌, Option, Some, None}
use Rattle.std.specs.List.{slice_index_or, slice_set}
use Rattle.ada_flow.specs.declared.rule.Hold.{Hold}
use Rattle.ada_flow.specs.declared.rule.Hold.TheVariants as held
use Rattle.ada_flow.specs.declared.rule.Region.TheVariants.{Whole}
use Rattle.ada_flow.specs.Flow.{Holds, hold_at, if_own, is_among}
use Rattle.ada_meaning.specs.declared.state.Id.{Id}
use Rattle.ada_meaning.specs.declared.state.Value.{Value}
use Rattle.ada_meaning.specs.declared.state.Value.TheVariants.{Null, Names}
use Rattle.ada_meaning.specs.State.{Activation}
use Rattle.ada_meaning.specs.Named.{Object}
use Rattle.ada_owners.specs.Places.{Place, variable, component, elsewhere, value_at, access_at, is_lent}

-- The object of a name is in its collection, and of this access type; where there is no access type, nothing is named.
abbrev pub IsOf : (Id → Option ℕ) → Option ℕ → Id → Type 0
IsOf access None o = ⊥
IsOf access (Some t) o = access o ≡ Some t

-- What a hold says of the object that a place of this access type names.
abbrev pub Says : (Id → Option ℕ) → Hold → Option ℕ → Id → Type 0
Says access held.Null kind o = ⊥
Says access (held.Kept r) kind o = IsOf access kind o
Says access (held.Own r) kind o = IsOf access kind o
Says access (held.Alias r) kind o = IsOf access kind o
Says access held.Lost kind o = Unit {0}

-- A place with this hold owns the object that it names.
abbrev pub Owns : Hold → Type 0
Owns held.Null = ⊥
Owns (held.Kept r) = Unit {0}
Owns (held.Own r) = Unit {0}
Owns (held.Alias r) = ⊥
Owns held.Lost = ⊥

-- A place with this hold names an object that another place owns.
abbrev pub Borrows : Hold → Type 0
Borrows held.Null = ⊥
Borrows (held.Kept r) = ⊥
Borrows (held.Own r) = ⊥
Borrows (held.Alias r) = Unit {0}
Borrows held.Lost = ⊥

-- All places are as they are relied on to be, however a heap is kept: each place that names an object is as its hold says, and two places that own
-- one object are one place.
pub record Fit (access : Id → Option ℕ) (read : Place → Value) (hold : Place → Hold) (kind : Place → Option ℕ) : Type 0 where
  pub relied : (p : Place) (o : Id) → read p ≡ Names o → Says access (hold p) (kind p) o
  pub apart : (p q : Place) (o : Id) → Owns (hold p) → Owns (hold q) → read p ≡ Names o → read q ≡ Names o → p ≡ q

-- A value between two places: what it names exists, and no place owns it.
pub record InHand (access : Id → Option ℕ) (read : Place → Value) (hold : Place → Hold) (kind : Option ℕ) (v : Value) : Type 0 where
  pub right : (o : Id) → v ≡ Names o → IsOf access kind o
  pub free : (o : Id) → v ≡ Names o → (p : Place) → Owns (hold p) → read p ≡ Names o → ⊥

-- The access types of the components of objects, by the access type of the object; of the running activation's variables; and of those of the
-- suspended ones.
pub record Kinds : Type 0 where
  pub components : (access c : ℕ) → Option ℕ
  pub variables : (x : ℕ) → Option ℕ
  pub outer : (activation x : ℕ) → Option ℕ

-- The access type of a component of an object of an access type.
abbrev pub component_kind : Kinds → Option ℕ → ℕ → Option ℕ
component_kind kinds None c = None
component_kind kinds (Some t) c = kinds.components t c

-- The access type of a place.
abbrev pub kind_of : Kinds → (Id → Option ℕ) → Place → Option ℕ
kind_of kinds access (variable x) = kinds.variables x
kind_of kinds access (component o c) = component_kind kinds (access o) c
kind_of kinds access (elsewhere d x) = kinds.outer d x

-- What is relied on: what the running activation's variables hold, what those of the suspended ones hold, and which components are lent. The value
-- of a lent component is in hand, or another place owns it: so it is between the two statements of a take pair.
pub record Reliance : Type 0 where
  pub holds : Holds
  pub outer : (activation : ℕ) → Holds
  pub lent : List Place

-- A component owns what it holds, unless it is lent.
abbrev pub component_hold : Bool → Hold
component_hold true = held.Lost
component_hold false = held.Own Whole

-- What a place is relied on for.
abbrev pub hold_of : Reliance → Place → Hold
hold_of r (variable x) = hold_at r.holds x
hold_of r (component o c) = component_hold (is_lent r.lent o c)
hold_of r (elsewhere d x) = hold_at (r.outer d) x

-- What is relied on once a variable has another hold.
abbrev pub with_hold : (x : ℕ) → Hold → Reliance → Reliance
with_hold x h r = record r { holds = slice_set r.holds x h }

-- What is relied on once one component more is lent.
abbrev pub with_lent : Id → (c : ℕ) → Reliance → Reliance
with_lent o c r = record r { lent = component o c ∷ r.lent }

-- By number, this one and then the others.
abbrev pub pushed : {X : Type 0} → X → (ℕ → X) → ℕ → X
pushed x others zero = x
pushed x others (suc d) = others d

-- The access types of variables once a call has begun an activation (6.4), whose variables have these: the caller's are those of a suspended one.
abbrev pub callee_kinds : (variables : ℕ → Option ℕ) → Kinds → Kinds
callee_kinds variables kinds = record kinds { variables = variables; outer = pushed kinds.variables kinds.outer }

-- What is relied on once a call has begun an activation, whose variables have these holds.
abbrev pub callee_reliance : Holds → Reliance → Reliance
callee_reliance holds r = record r { holds = holds; outer = pushed r.holds r.outer }

-- The access types of variables once the running activation has ended (6.5).
abbrev pub caller_kinds : Kinds → Kinds
caller_kinds kinds = record kinds { variables = kinds.outer 0; outer = λ d. kinds.outer (suc d) }

-- What is relied on once the running activation has ended.
abbrev pub caller_reliance : Reliance → Reliance
caller_reliance r = record r { holds = r.outer 0; outer = λ d. r.outer (suc d) }

-- What a place is relied on for while the collections of access types go (7.6.1): nothing, where it is of one of these.
abbrev pub spared : List ℕ → Kinds → List Object → (Place → Hold) → Place → Hold
spared types kinds objects hold p = if_own (not (is_among types (kind_of kinds (access_at objects) p))) (hold p)

-- All places of a state are as they are relied on to be: objects by name, and the activations, the running one first.
pub record Fits (kinds : Kinds) (objects : List Object) (activations : List (Activation Value)) (hold : Place → Hold) : Type 0 where
  pub fit : Fit (access_at objects) (value_at objects activations) hold (kind_of kinds (access_at objects))

-- A value is between two places of a state.
pub record IsInHand (objects : List Object) (activations : List (Activation Value)) (hold : Place → Hold) (kind : Option ℕ) (v : Value) : Type 0 where
  pub hand : InHand (access_at objects) (value_at objects activations) hold kind v

-- No value of a list names an object.
abbrev pub NameNothing : List Value → Type 0
NameNothing vs = (x : ℕ) (o : Id) → slice_index_or vs x Null ≡ Names o → ⊥

-- No value of a list names the object that this one names.
abbrev pub IsNotAmong : Value → List Value → Type 0
IsNotAmong v vs = (o : Id) (i : ℕ) → v ≡ Names o → slice_index_or vs i Null ≡ Names o → ⊥

-- Values in hand for the components of an object from one on, no two of which name one object.
abbrev pub AreInHand : List Object → List (Activation Value) → (Place → Hold) → (ℕ → Option ℕ) → ℕ → List Value → Type 0
AreInHand objects activations hold kind c [] = Unit {0}
AreInHand objects activations hold kind c (v ∷ vs) =
    IsInHand objects activations hold (kind c) v × IsNotAmong v vs × AreInHand objects activations hold kind (suc c) vs
