-- Record types as finalization sees them (7.6), and how many controlled parts a record has.

use Rattle.std.specs.Prelude.{ℕ, ◌+◌, ◌<◌, ◌==◌, Bool, false, if◌then◌else◌, List, [], ◌∷◌, length}
use Rattle.std.specs.List.{sum_by, Contains}

-- A record type: whether it is controlled itself, and the types of its components that have controlled parts, in order (7.6).
pub record Shape : Type 0 where
  pub controlled : Bool
  pub components : List ℕ

-- How many of the controlled parts of a record are the record itself.
abbrev pub own_parts : Shape → ℕ
own_parts shape = if shape.controlled then 1 else 0

-- How many controlled parts a record of a type has at any depth, itself included (7.6). The table has the newest type first, and the number of a type is how many are older.
abbrev pub parts_of : List Shape → (type : ℕ) → ℕ
parts_of [] t = 0
parts_of (shape ∷ older) t =
    if t == length older then own_parts shape + sum_by (parts_of older) shape.components else parts_of older t

-- The shape of a type; of one that is not in the table, nothing is known to be controlled.
abbrev pub shape_of : List Shape → (type : ℕ) → Shape
shape_of [] t = record { controlled = false; components = [] }
shape_of (shape ∷ older) t = if t == length older then shape else shape_of older t

-- In a table, the components of each type are of types that were declared before it (3.11.1), and have controlled parts (7.6).
pub record IsTable (shapes : List Shape) : Type 0 where
  pub earlier : (t c : ℕ) → t < length shapes → Contains (shape_of shapes t).components c → c < t
  pub have_parts : (t c : ℕ) → t < length shapes → Contains (shape_of shapes t).components c → 0 < parts_of shapes c
