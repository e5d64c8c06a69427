-- Where access values lie, and what a change of one place does.

use Rattle.std.specs.Prelude.{ℕ, zero, suc, Bool, true, false, ◌==◌, ◌&&◌, ◌||◌, if◌then◌else◌, List, [], ◌∷◌, Option, Some, None}
use Rattle.std.specs.List.{slice_set, slice_index_or}
use Rattle.ada_meaning.specs.declared.state.Id.{Id}
use Rattle.ada_meaning.specs.declared.state.Value.{Value}
use Rattle.ada_meaning.specs.declared.state.Value.TheVariants.{Null}
use Rattle.ada_meaning.specs.declared.state.Stage.{Stage}
use Rattle.ada_meaning.specs.declared.state.Stage.TheVariants.{Building, Existing, Gone}
use Rattle.ada_meaning.specs.State.{Activation}
use Rattle.ada_meaning.specs.Step.{places_of, with_places}
use Rattle.ada_meaning.specs.Named.{Object, object_at}

-- A place that may hold an access value: a variable of the running activation; a component of an allocated object; or a variable of a suspended
-- activation, counted from the one that called the running one (6.4).
pub data Place : Type 0 where
  variable : (x : ℕ) → Place
  component : (object : Id) (c : ℕ) → Place
  elsewhere : (activation x : ℕ) → Place

-- What the variables of a suspended activation hold.
abbrev pub outer_places : List (Activation Value) → (activation : ℕ) → List Value
outer_places [] d = []
outer_places (a ∷ suspended) zero = places_of suspended
outer_places (a ∷ suspended) (suc d) = outer_places suspended d

-- An object at a stage has not ceased to exist (7.6.1, 13.11.2): while it is finalized, it is there still, though no longer in its collection.
abbrev pub is_there : Stage → Bool
is_there Building = true
is_there Existing = true
is_there Gone = false

-- What a component of an object holds: null once the object is gone, since nothing is relied on there any more.
abbrev pub component_in : Option Object → ℕ → Value
component_in None c = Null
component_in (Some object) c = if is_there object.stage then slice_index_or object.cell.values c Null else Null

-- What lies in a place.
abbrev pub value_at : List Object → List (Activation Value) → Place → Value
value_at objects activations (variable x) = slice_index_or (places_of activations) x Null
value_at objects activations (component o c) = component_in (object_at objects o) c
value_at objects activations (elsewhere d x) = slice_index_or (outer_places activations d) x Null

-- The access type of an object as long as that is there.
abbrev pub access_in : Option Object → Option ℕ
access_in None = None
access_in (Some object) = if is_there object.stage then Some object.cell.access else None

-- The access type of the object of a name: none before the object exists, and none once it is gone.
abbrev pub access_at : List Object → Id → Option ℕ
access_at objects o = access_in (object_at objects o)

-- The activations once a variable of the running one has another value (5.2).
abbrev pub put_in : ℕ → Value → List (Activation Value) → List (Activation Value)
put_in x v activations = with_places (slice_set (places_of activations) x v) activations

-- Is a place this component?
abbrev pub is_component : Id → ℕ → Place → Bool
is_component o c (variable x) = false
is_component o c (component k d) = (k.0 == o.0) && (d == c)
is_component o c (elsewhere a x) = false

-- Is this component among the places that are lent?
abbrev pub is_lent : List Place → Id → ℕ → Bool
is_lent [] o c = false
is_lent (p ∷ ps) o c = is_component o c p || is_lent ps o c
