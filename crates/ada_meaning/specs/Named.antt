-- The heap of names: objects by name, for ever. A name is never used twice.

use Rattle.std.specs.Prelude.{ℕ, suc, ◌+◌, ◌==◌, ◌&&◌, ℤ, Bool, true, false, if◌then◌else◌, List, [], ◌∷◌, ◌++◌, length, map, Option, Some, None, Result, Ok, Err}
use Rattle.std.specs.List.{slice_get, slice_set, list_all}
use Rattle.ada_values.specs.declared.value.Value.{Value as ScalarValue}
use Rattle.ada_values.specs.declared.value.Value.TheVariants as scalar
use Rattle.ada_values.specs.declared.operator.BinaryOperator.{BinaryOperator}
use Rattle.ada_values.specs.declared.operator.UnaryOperator.{UnaryOperator}
use Rattle.ada_values.specs.declared.fault.OperatorFault.{OperatorFault}
use Rattle.ada_values.specs.declared.fault.OperatorFault.TheVariants.{WrongType}
use Rattle.ada_values.specs.Outcome.{outcome_of, unary_outcome_of}
use Rattle.ada_program.specs.declared.program.TypeDefinition.{TypeDefinition}
use Rattle.ada_program.specs.ProgramForm.{BodyForm}
use Rattle.ada_meaning.specs.declared.state.Id.{Id}
use Rattle.ada_meaning.specs.declared.state.Place.{Place}
use Rattle.ada_meaning.specs.declared.state.Value.{Value}
use Rattle.ada_meaning.specs.declared.state.Value.TheVariants.{Null, Names, Scalar, Part}
use Rattle.ada_meaning.specs.declared.state.Stage.{Stage}
use Rattle.ada_meaning.specs.declared.state.Stage.TheVariants.{Building, Existing, Gone}
use Rattle.ada_meaning.specs.State.{State as StateOver}
use Rattle.ada_meaning.specs.Heap.{PartState, Cell, Found, on_null, on_gone, on_other, finds, Ops}
use Rattle.ada_meaning.specs.Step.{Next as NextOver, mode_next}

-- An allocated object (3.3, 4.8): what lies in it, its stage, whether it is in its collection, and whether its words are still out.
pub record Object : Type 0 where
  pub cell : Cell Value
  pub stage : Stage
  pub listed : Bool
  pub out : Bool

-- A state over names, and what it does next.
abbrev pub State : Type 0
State = StateOver Value (List Object)

-- What comes next over the heap of names.
abbrev pub Next : Type 0
Next = NextOver Value (List Object)

-- The object of a name, if the name was ever given.
abbrev pub object_at : List Object → Id → Option Object
object_at objects o = slice_get objects o.0

-- The object of a name changes, if there is one.
abbrev pub changed : (Object → Object) → Option Object → List Object → Id → List Object
changed change None objects o = objects
changed change (Some object) objects o = slice_set objects o.0 (change object)

-- A value leads to an object as long as that exists (4.1, 13.11.2): it may still be under construction.
abbrev pub existing : Object → Stage → Found (Cell Value)
existing object Building = finds object.cell
existing object Existing = finds object.cell
existing object Gone = on_gone

-- What is found where an object is looked for: its cell as long as it exists, and that it is gone after that.
abbrev pub seen : Option Object → Found (Cell Value)
seen None = on_gone
seen (Some object) = existing object object.stage

-- What an access value gives access to.
abbrev pub look : List Object → Value → Found (Cell Value)
look objects Null = on_null
look objects (Names o) = seen (object_at objects o)
look objects (Scalar v) = on_other
look objects (Part o place) = on_other

-- The cell of an object as long as its words are out.
abbrev pub lent_by : Option Object → Found (Cell Value)
lent_by None = on_gone
lent_by (Some object) = if object.out then finds object.cell else on_gone

-- The cell of the object of a value, as long as its words are out.
abbrev pub lent : List Object → Value → Found (Cell Value)
lent objects Null = on_null
lent objects (Names o) = lent_by (object_at objects o)
lent objects (Scalar v) = on_other
lent objects (Part o place) = on_other

-- Each of these controlled parts has a value (7.6).
abbrev pub all_alive : List PartState → Bool
all_alive parts = list_all (λ p. p.alive) parts

-- The cell of an object as long as it is in its collection, and each of its controlled parts has a value.
abbrev pub standing_by : Option Object → Found (Cell Value)
standing_by None = on_gone
standing_by (Some object) = if object.listed && all_alive object.cell.parts then finds object.cell else on_gone

-- The cell of the object of a value, as long as it is.
abbrev pub standing : List Object → Value → Found (Cell Value)
standing objects Null = on_null
standing objects (Names o) = standing_by (object_at objects o)
standing objects (Scalar v) = on_other
standing objects (Part o place) = on_other

-- A new object exists, is in its collection, and its words are out.
abbrev pub new_object : Cell Value → Object
new_object cell = record { cell = cell; stage = Existing; listed = true; out = true }

-- The objects with a new one, which gets the next name.
abbrev pub create : List Object → ℕ → Cell Value → List Object
create objects words cell = objects ++ new_object cell ∷ []

-- It has the next name: the one that no object has had yet.
abbrev pub created : List Object → ℕ → Value
created objects words = Names (record { 0 = length objects })

-- What becomes of an object: it leaves its collection; it ceases to exist; its words go back (13.11.2).
abbrev pub parted : Object → Object
parted object = record object { listed = false }

-- An object once it is gone.
abbrev pub finished : Object → Object
finished object = record object { stage = Gone; listed = false }

-- An object once its words are back.
abbrev pub returned : Object → Object
returned object = record object { out = false }

-- An object once a component has another value (5.2).
abbrev pub filled : ℕ → Value → Object → Object
filled c v object = record object { cell = record (object.cell) { values = slice_set object.cell.values c v } }

-- A part that comes to have a value (7.6), and one whose value is finalized (7.6.1).
abbrev pub born_part : (number : ℕ) → PartState → PartState
born_part number p = record p { alive = true; number = number }

-- The state of a part once its value is finalized.
abbrev pub finalized_part : PartState → PartState
finalized_part p = record p { alive = false; turn = p.turn + 1 }

-- The parts of an object once one of them has changed, if there is that one.
abbrev pub with_part : (PartState → PartState) → (part : ℕ) → Option PartState → List PartState → List PartState
with_part change part None parts = parts
with_part change part (Some p) parts = slice_set parts part (change p)

-- An object once one of its parts has changed.
abbrev pub treated : (PartState → PartState) → (part : ℕ) → Object → Object
treated change part object =
    record object { cell = record (object.cell) { parts = with_part change part (slice_get object.cell.parts part) object.cell.parts } }

-- The object that a value names changes.
abbrev pub on_object : (Object → Object) → List Object → Value → List Object
on_object change objects Null = objects
on_object change objects (Names o) = changed change (object_at objects o) objects o
on_object change objects (Scalar v) = objects
on_object change objects (Part o place) = objects

-- A component of the object that a value names gets another value (5.2).
abbrev pub store : List Object → Value → ℕ → Value → List Object
store objects o c v = on_object (filled c v) objects o

-- A controlled part of the object that a value names comes to have a value; its value is finalized.
abbrev pub bear : List Object → Value → (part number : ℕ) → List Object
bear objects o part number = on_object (treated (born_part number) part) objects o

-- The objects once the value of a part is finalized.
abbrev pub finalize : List Object → Value → (part : ℕ) → List Object
finalize objects o part = on_object (treated finalized_part part) objects o

-- The members of a collection (7.6.1): the objects in it whose home it is, newest first.
abbrev pub is_member : ℕ → Object → Bool
is_member item object = object.listed && (object.cell.home.item == item)

-- The members of the collection of an item among objects of which the first has this name, newest first.
abbrev pub members_from : ℕ → ℕ → List Object → List Id
members_from item n [] = []
members_from item n (object ∷ objects) = members_from item (suc n) objects ++ (if is_member item object then record { 0 = n } ∷ [] else [])

-- The members of the collection of an item, newest first.
abbrev pub members_of : List Object → ℕ → List Id
members_of objects item = members_from item 0 objects

-- The members of the collection of an item, as access values.
abbrev pub members : List Object → ℕ → List Value
members objects item = map Names (members_of objects item)

-- The number, or the truth, that a value is (3.5.4, 3.5.3).
abbrev pub integer_in : ScalarValue → Option ℤ
integer_in (scalar.Integer i) = Some i
integer_in (scalar.Boolean b) = None

-- The truth that a scalar value is, if it is one.
abbrev pub boolean_in : ScalarValue → Option Bool
boolean_in (scalar.Integer i) = None
boolean_in (scalar.Boolean b) = Some b

-- The number that a value is, if it is one (3.5.4).
abbrev pub reads_integer : Value → Option ℤ
reads_integer Null = None
reads_integer (Names o) = None
reads_integer (Scalar v) = integer_in v
reads_integer (Part o place) = None

-- The truth that a value is, if it is one (3.5.3).
abbrev pub reads_boolean : Value → Option Bool
reads_boolean Null = None
reads_boolean (Names o) = None
reads_boolean (Scalar v) = boolean_in v
reads_boolean (Part o place) = None

-- Whether an access value is null (4.5.2): the object that it names need not exist.
abbrev pub reads_null : Value → Option Bool
reads_null Null = Some true
reads_null (Names o) = Some false
reads_null (Scalar v) = None
reads_null (Part o place) = None

-- What an operator gives of values (4.5): Integers and Booleans have operators, access values have none yet.
abbrev pub as_value : Result ScalarValue OperatorFault → Result Value OperatorFault
as_value (Ok v) = Ok (Scalar v)
as_value (Err fault) = Err fault

-- What an operator gives for one value.
abbrev pub unary_given : UnaryOperator → Value → Result Value OperatorFault
unary_given operator (Scalar a) = as_value (unary_outcome_of operator a)
unary_given operator a = Err WrongType

-- What an operator gives for two values.
abbrev pub binary_given : BinaryOperator → Value → Value → Result Value OperatorFault
binary_given operator (Scalar a) (Scalar b) = as_value (outcome_of operator a b)
binary_given operator a b = Err WrongType

-- What refers to a record, or to a component, of the object of a name (6.2).
abbrev pub refer : Value → Place → Value
refer Null place = Null
refer (Names o) place = Part o place
refer (Scalar v) place = Scalar v
refer (Part o base) place = Part o base

-- The object in which it lies.
abbrev pub whole : Value → Value
whole Null = Null
whole (Names o) = Names o
whole (Scalar v) = Scalar v
whole (Part o place) = Names o

-- The component with which it begins there.
abbrev pub base : Value → ℕ
base Null = 0
base (Names o) = 0
base (Scalar v) = 0
base (Part o place) = place.component

-- The controlled part with which it begins there.
abbrev pub part_base : Value → ℕ
part_base Null = 0
part_base (Names o) = 0
part_base (Scalar v) = 0
part_base (Part o place) = place.part

-- Which component of the object a component of it is.
abbrev pub inside : Value → (component : ℕ) → ℕ
inside Null c = c
inside (Names o) c = c
inside (Scalar v) c = c
inside (Part o place) c = place.component + c

-- Which controlled part of the object a part of it is.
abbrev pub part_inside : Value → (part : ℕ) → ℕ
part_inside Null p = p
part_inside (Names o) p = p
part_inside (Scalar v) p = p
part_inside (Part o place) p = place.part + p

-- Two references to records that have controlled parts, and are of one type, are to one record where they are to one object, and to one part: a record
-- without components begins with the same component as the one behind it.
abbrev pub same : Value → Value → Option Bool
same (Part o place) (Part p other) = Some ((o.0 == p.0) && (place.part == other.part))
same a b = None

-- A number as a value.
abbrev pub an_integer : ℤ → Value
an_integer i = Scalar (scalar.Integer i)

-- A truth as a value.
abbrev pub a_boolean : Bool → Value
a_boolean b = Scalar (scalar.Boolean b)

-- The operations over names.
abbrev pub named : Ops Value (List Object)
named = record {
  null = Null;
  integer = an_integer;
  boolean = a_boolean;
  reads_integer = reads_integer;
  reads_boolean = reads_boolean;
  reads_null = reads_null;
  unary = unary_given;
  binary = binary_given;
  refer = refer;
  whole = whole;
  base = base;
  part_base = part_base;
  inside = inside;
  part_inside = part_inside;
  same = same;
  look = look;
  lent = lent;
  standing = standing;
  create = create;
  created = created;
  store = store;
  bear = bear;
  finalize = finalize;
  part = on_object parted;
  finish = on_object finished;
  back = on_object returned;
  members = members;
}

-- What comes next.
unfoldable pub next : List TypeDefinition → List BodyForm → State → Next
next types bodies s = mode_next named types bodies s.mode s
