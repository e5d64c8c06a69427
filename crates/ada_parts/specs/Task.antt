-- What is left of the treatment of an object: its initialization, its adjustment or its finalization (7.6, 7.6.1).

use Rattle.std.specs.Prelude.{ℕ, ◌<◌, if◌then◌else◌, List, [], ◌∷◌, ◌++◌, length, Option, Some, None}
use Rattle.std.specs.List.{All, remove, slice_get}
use Rattle.ada_parts.specs.declared.tasks.Component.{Component}
use Rattle.ada_parts.specs.declared.tasks.Direction.{Direction}
use Rattle.ada_parts.specs.declared.tasks.Direction.TheVariants.{PartsFirst, WholeFirst}
use Rattle.ada_parts.specs.declared.tasks.Next.{Next}
use Rattle.ada_parts.specs.declared.tasks.Next.TheVariants.{Done, Pick, Perform}
use Rattle.ada_parts.specs.Shape.{Shape, shape_of}
use Rattle.ada_parts.specs.Part.{components_of}

-- What is to be done: the operation of one part is called, Initialize, Adjust or Finalize; or these components are treated, one after another, in any order (7.6, 7.6.1).
pub data Task : Type 0 where
  performs : (of part : ℕ) → Task
  treats : List Component → Task

-- The treatment of these components, if there are any.
abbrev pub treatment_of : List Component → List Task
treatment_of [] = []
treatment_of (c ∷ cs) = treats (c ∷ cs) ∷ []

-- The operation of a record itself, if it is controlled.
abbrev pub operation_of : Shape → (of first : ℕ) → List Task
operation_of shape of first = if shape.controlled then performs of first ∷ [] else []

-- What is to be done for a record whose first part has this number: an initialization and an adjustment treat its components first, and a finalization calls Finalize of the record first (7.6, 7.6.1).
abbrev pub opened : List Shape → Direction → (of first : ℕ) → List Task
opened shapes PartsFirst of first =
    treatment_of (components_of shapes of first) ++ operation_of (shape_of shapes of) of first
opened shapes WholeFirst of first =
    operation_of (shape_of shapes of) of first ++ treatment_of (components_of shapes of first)

-- What comes next: nothing is left, one of the components that are open is picked, or an operation is called (3.3.1, 7.6.1).
abbrev pub next : List Task → Next
next [] = Done
next (treats components ∷ behind) = Pick (length components)
next (performs of part ∷ behind) = Perform of part

-- What is left without one of the components that are open, by its number among them.
abbrev pub without : List Task → (i : ℕ) → List Task
without [] i = []
without (treats components ∷ behind) i = treatment_of (remove components i) ++ behind
without (performs of part ∷ behind) i = performs of part ∷ behind

-- The component of that number.
abbrev pub open_at : List Task → (i : ℕ) → Option Component
open_at [] i = None
open_at (treats components ∷ behind) i = slice_get components i
open_at (performs of part ∷ behind) i = None

-- What is to be done for a component, if there is one.
abbrev pub opened_if : List Shape → Direction → Option Component → List Task
opened_if shapes direction None = []
opened_if shapes direction (Some c) = opened shapes direction c.of c.first

-- What is left once one of the components that are open is picked: it is treated whole before the next one is picked (7.6.1).
abbrev pub taken : List Shape → Direction → List Task → (i : ℕ) → List Task
taken shapes direction left i = opened_if shapes direction (open_at left i) ++ without left i

-- What is left once the operation that is due has been called.
abbrev pub performed : List Task → List Task
performed [] = []
performed (treats components ∷ behind) = treats components ∷ behind
performed (performs of part ∷ behind) = behind

-- A component of this number can be picked.
abbrev pub IsOpen : List Task → (i : ℕ) → Type 0
IsOpen [] i = ⊥
IsOpen (treats components ∷ behind) i = i < length components
IsOpen (performs of part ∷ behind) i = ⊥

-- A fact holds of each component that is left to be treated.
abbrev pub OfComponents : (Component → Type 0) → List Task → Type 0
OfComponents P [] = Unit {0}
OfComponents P (treats components ∷ behind) = All P components × OfComponents P behind
OfComponents P (performs of part ∷ behind) = OfComponents P behind
