-- What a step asks of values and of the heap, whatever they are: objects by name, and later words in pools.

use Rattle.std.specs.Prelude.{ℕ, ℤ, Bool, List, Option, Result}
use Rattle.ada_values.specs.declared.operator.BinaryOperator.{BinaryOperator}
use Rattle.ada_values.specs.declared.operator.UnaryOperator.{UnaryOperator}
use Rattle.ada_values.specs.declared.fault.OperatorFault.{OperatorFault}
use Rattle.ada_meaning.specs.declared.state.Place.{Place}

-- Where an object lies, and with which item it goes: a collection or a record object, by its item's number; the pool that its words are from, none
-- where it is declared (3.3.1); its subpool (13.11.4).
pub record Home : Type 0 where
  pub item : ℕ
  pub pool : Option ℕ
  pub subpool : Option ℕ

-- A controlled part of an object (7.6): whether it has a value now, how many values it had before that, the trace number of its newest value, 0 where it
-- has had none; and the elementary component with which it begins.
pub record PartState : Type 0 where
  pub alive : Bool
  pub turn : ℕ
  pub number : ℕ
  pub first : ℕ

-- What lies in an object (3.3, 4.8): its access type, or the type that it is known by; its trace number, 0 where it is declared; its home; its
-- components; and its controlled parts, by their numbers (7.6).
pub record Cell (V : Type 0) : Type 0 where
  pub access : ℕ
  pub number : ℕ
  pub home : Home
  pub values : List V
  pub parts : List PartState

-- What a value leads to: nothing where it is null; an object that is gone; no object at all where it is no access value; or a cell.
pub data Found (X : Type 0) : Type 0 where
  on_null : Found X
  on_gone : Found X
  on_other : Found X
  finds : X → Found X

-- The operations.
pub record Ops (V H : Type 0) : Type 0 where
  pub null : V
  pub integer : ℤ → V
  pub boolean : Bool → V
  -- the number, or the truth, that a value is, and whether an access value is null: none where it is of another kind
  pub reads_integer : V → Option ℤ
  pub reads_boolean : V → Option Bool
  pub reads_null : V → Option Bool
  -- what the predefined operators give (4.5)
  pub unary : UnaryOperator → V → Result V OperatorFault
  pub binary : BinaryOperator → V → V → Result V OperatorFault
  -- what refers to a record, or to a component, that lies in the object of a value at a place (6.2); and of what refers to one the object in which it
  -- lies, the component and the controlled part with which it begins, and which component and which part of the object a component and a part of it are. Any
  -- other value stands for all of its object.
  pub refer : V → Place → V
  pub whole : V → V
  pub base : V → ℕ
  pub part_base : V → ℕ
  pub inside : V → (component : ℕ) → ℕ
  pub part_inside : V → (part : ℕ) → ℕ
  -- whether two references to records that have controlled parts, and are of one type, are to one record: none, where either is no reference
  pub same : V → V → Option Bool
  -- the object that a value gives access to, as long as it exists
  pub look : H → V → Found (Cell V)
  -- the same as long as its words are out
  pub lent : H → V → Found (Cell V)
  -- the same as long as the object is in its collection, and each of its controlled parts has a value
  pub standing : H → V → Found (Cell V)
  -- a new object for a granted request of so many words, in the collection of its home; and the value that names it
  pub create : H → (words : ℕ) → Cell V → H
  pub created : H → (words : ℕ) → V
  -- a component of the object that a value gives access to gets another value
  pub store : H → V → (component : ℕ) → V → H
  -- a controlled part of the object that a value gives access to comes to have a value, with a trace number; its value is finalized (7.6, 7.6.1)
  pub bear : H → V → (part number : ℕ) → H
  pub finalize : H → V → (part : ℕ) → H
  -- an object leaves its collection; it ceases to exist; its words go back
  pub part : H → V → H
  pub finish : H → V → H
  pub back : H → V → H
  -- the objects of the collection of an item, newest first (7.6.1)
  pub members : H → (item : ℕ) → List V
