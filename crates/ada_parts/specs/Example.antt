-- A table and an object that meet the premises of the laws.

use Rattle.std.specs.Prelude.{true, false, List, [], ◌∷◌}
use Rattle.ada_parts.specs.declared.tasks.Direction.TheVariants.{PartsFirst, WholeFirst}
use Rattle.ada_parts.specs.Shape.{Shape}
use Rattle.ada_parts.specs.Part.{Part}
use Rattle.ada_parts.specs.Task.{opened}
use Rattle.ada_parts.specs.Law.{Run}

-- Three types, the newest first: type 2 is controlled and has components of types 1 and 0; type 1 is not, and has two of type 0; type 0 is controlled.
abbrev pub table : List Shape
table =
    record { controlled = true; components = 1 ∷ 0 ∷ [] }
    ∷ record { controlled = false; components = 0 ∷ 0 ∷ [] }
    ∷ record { controlled = true; components = [] }
    ∷ []

-- The parts of a record of type 2: itself, two in its first component, and its second component.
abbrev pub whole : Part
whole = record { of = 2; number = 0 }

abbrev pub left_part : Part
left_part = record { of = 0; number = 1 }

abbrev pub right_part : Part
right_part = record { of = 0; number = 2 }

abbrev pub second : Part
second = record { of = 0; number = 3 }

-- An initialization that picks the second component first, and a finalization in the reverse order.
abbrev pub AnInitialization : Type 0
AnInitialization = Run table PartsFirst (opened table PartsFirst 2 0) 8 (second ∷ right_part ∷ left_part ∷ whole ∷ []) []

abbrev pub AFinalization : Type 0
AFinalization = Run table WholeFirst (opened table WholeFirst 2 0) 8 (whole ∷ left_part ∷ right_part ∷ second ∷ []) []
