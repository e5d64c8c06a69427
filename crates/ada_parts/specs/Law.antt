-- Treatments, and their laws: they hold for every table of types, every type, and whichever components are picked.

use Rattle.std.specs.Prelude.{◌≡◌, ℕ, suc, ◌+◌, ◌*◌, ◌<◌, ◌≤◌, List, [], ◌∷◌, ◌++◌, length, take, reverse, Some}
use Rattle.std.specs.List.{flat_map, range_with_len, Contains}
use Rattle.std.specs.List.Sorted.{IsPermutation}
use Rattle.ada_parts.specs.declared.tasks.Component.{Component}
use Rattle.ada_parts.specs.declared.tasks.Direction.{Direction}
use Rattle.ada_parts.specs.declared.tasks.Direction.TheVariants.{PartsFirst, WholeFirst}
use Rattle.ada_parts.specs.declared.tasks.Next.TheVariants.{Pick, Perform}
use Rattle.ada_parts.specs.Shape.{Shape, IsTable, parts_of}
use Rattle.ada_parts.specs.Part.{Part, parts_at, numbers, LiesIn}
use Rattle.ada_parts.specs.Task.{Task, performs, treats, opened, next, taken, performed, open_at, IsOpen}

-- Steps of a treatment, from what was left to what is left then: their number, and the parts whose operations they call, in order. Any component that is open may be picked.
pub data Run (shapes : List Shape) (direction : Direction) : List Task → (steps : ℕ) → (calls : List Part) → (last : List Task) → Type 0 where
  here : {left : List Task} → Run shapes direction left 0 [] left
  picks : {left last : List Task} {steps : ℕ} {calls : List Part} (i : ℕ) → IsOpen left i
      → Run shapes direction (taken shapes direction left i) steps calls last
      → Run shapes direction left (suc steps) calls last
  calls : {left last : List Task} {steps : ℕ} {later : List Part} (of part : ℕ) → next left ≡ Perform of part
      → Run shapes direction (performed left) steps later last
      → Run shapes direction left (suc steps) (record { of = of; number = part } ∷ later) last

-- A fact holds of each run of a treatment, up to any step: of a record of any type in a table, whose first part has any number.
abbrev pub InEveryTreatment : (List Shape → Direction → (of first steps : ℕ) → List Part → List Task → Type 0) → Type 0
InEveryTreatment P =
    (shapes : List Shape) (direction : Direction) (of first steps : ℕ) (calls : List Part) (last : List Task)
    → IsTable shapes → of < length shapes
    → Run shapes direction (opened shapes direction of first) steps calls last
    → P shapes direction of first steps calls last

-- The parts of all components, one component after another.
abbrev pub parts_in : List Shape → List Component → List Part
parts_in shapes components = flat_map (λ c. parts_at shapes c.of c.first) components

-- The parts whose operations are left to be called.
abbrev pub parts_left : List Shape → List Task → List Part
parts_left shapes [] = []
parts_left shapes (treats components ∷ behind) = parts_in shapes components ++ parts_left shapes behind
parts_left shapes (performs of part ∷ behind) = record { of = of; number = part } ∷ parts_left shapes behind

-- The numbers of the parts of a record follow that of its first part without a gap.
abbrev pub NumberedInOrder : Type 0
NumberedInOrder =
    (shapes : List Shape) (of first : ℕ) → numbers (parts_at shapes of first) ≡ range_with_len first (parts_of shapes of)

-- The operation of each part is called once: at any point, what was called and what is left are together all parts, each once (7.6, 7.6.1).
abbrev pub EachOnce : Type 0
EachOnce = InEveryTreatment (λ shapes direction of first steps calls last.
    IsPermutation (parts_at shapes of first) (calls ++ parts_left shapes last))

-- Where nothing is left, all parts were called, each once.
abbrev pub AllInTheEnd : Type 0
AllInTheEnd = InEveryTreatment (λ shapes direction of first steps calls last.
    last ≡ [] → IsPermutation (parts_at shapes of first) calls)

-- All parts that lie in a part are among these.
abbrev pub Among : List Shape → List Part → (whole : Part) → Type 0
Among shapes parts whole = (number : ℕ) → LiesIn shapes number whole → Contains (numbers parts) number

-- The parts that lie in a part are called before it: by these calls, or before them.
abbrev pub InsideOut : List Shape → (before : List Part) → List Part → Type 0
InsideOut shapes before [] = Unit {0}
InsideOut shapes before (part ∷ later) = Among shapes before part × InsideOut shapes (part ∷ before) later

-- The parts that lie in a part are called after it.
abbrev pub OutsideIn : List Shape → List Part → Type 0
OutsideIn shapes [] = Unit {0}
OutsideIn shapes (part ∷ later) = Among shapes later part × OutsideIn shapes later

-- An initialization or an adjustment calls the operation of a part once it has called those of all parts that lie in it (7.6).
abbrev pub PartsComeFirst : Type 0
PartsComeFirst = InEveryTreatment (λ shapes direction of first steps calls last.
    direction ≡ PartsFirst → InsideOut shapes [] calls)

-- A finalization calls Finalize of a part first, and then that of each part that lies in it (7.6.1).
abbrev pub WholesComeFirst : Type 0
WholesComeFirst = InEveryTreatment (λ shapes direction of first steps calls last.
    direction ≡ WholeFirst → last ≡ [] → OutsideIn shapes calls)

-- A component that is picked is treated whole before anything else is: the next calls are those of its parts (7.6.1).
abbrev pub OneByOne : Type 0
OneByOne = InEveryTreatment (λ shapes direction of first steps calls last.
    (i more : ℕ) (c : Component) (later : List Part) → open_at last i ≡ Some c
    → Run shapes direction (taken shapes direction last i) more later []
    → IsPermutation (parts_at shapes c.of c.first) (take (parts_of shapes c.of) later))

-- Where a component is to be picked, there is one.
abbrev pub ThereIsOne : Type 0
ThereIsOne = InEveryTreatment (λ shapes direction of first steps calls last.
    (n : ℕ) → next last ≡ Pick n → 0 < n)

-- A treatment ends: its steps are at most the number of parts times the number of types up to that of the object.
abbrev pub ItEnds : Type 0
ItEnds = InEveryTreatment (λ shapes direction of first steps calls last. steps ≤ parts_of shapes of * (of + 1))

-- For each order of an initialization there is a finalization in exactly the reverse order (7.6.1).
abbrev pub CanBeReversed : Type 0
CanBeReversed =
    (shapes : List Shape) (of first steps : ℕ) (calls : List Part) → IsTable shapes → of < length shapes
    → Run shapes PartsFirst (opened shapes PartsFirst of first) steps calls []
    → (more : ℕ) × Run shapes WholeFirst (opened shapes WholeFirst of first) more (reverse calls) []
