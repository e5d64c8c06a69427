-- The controlled parts of an object, numbered in preorder: a controlled record before its components, and these in order (7.6).

use Rattle.std.specs.Prelude.{ℕ, ◌+◌, ◌<◌, ◌==◌, if◌then◌else◌, List, [], ◌∷◌, ◌++◌, length, map}
use Rattle.std.specs.List.{flat_map}
use Rattle.ada_parts.specs.declared.tasks.Component.{Component}
use Rattle.ada_parts.specs.Shape.{Shape, own_parts, parts_of, shape_of}

-- A controlled part of an object: its type and its number.
pub record Part : Type 0 where
  pub of : ℕ
  pub number : ℕ

-- Components of these types, one after another: the parts of each have the numbers behind those of the one before it.
abbrev pub in_order : (count : ℕ → ℕ) → (types : List ℕ) → (first : ℕ) → List Component
in_order count [] first = []
in_order count (t ∷ ts) first = record { of = t; first = first } ∷ in_order count ts (first + count t)

-- The components of a record that have controlled parts, where the first part of the record has this number.
abbrev pub components_of : List Shape → (of first : ℕ) → List Component
components_of shapes of first =
    in_order (parts_of shapes) (shape_of shapes of).components (first + own_parts (shape_of shapes of))

-- The record itself, if it is controlled.
abbrev pub own_part : Shape → (of first : ℕ) → List Part
own_part shape of first = if shape.controlled then record { of = of; number = first } ∷ [] else []

-- All controlled parts of a record, in the order of their numbers.
abbrev pub parts_at : List Shape → (of first : ℕ) → List Part
parts_at [] of first = []
parts_at (shape ∷ older) of first =
    if of == length older
    then own_part shape of first
    ++ flat_map (λ c. parts_at older c.of c.first) (in_order (parts_of older) shape.components (first + own_parts shape))
    else parts_at older of first

-- Their numbers.
abbrev pub numbers : List Part → List ℕ
numbers parts = map (λ p. p.number) parts

-- A part with this number lies in another one: it is a part of that record, at any depth, and not the record itself.
pub record LiesIn (shapes : List Shape) (number : ℕ) (whole : Part) : Type 0 where
  pub behind : whole.number < number
  pub within : number < whole.number + parts_of shapes whole.of
