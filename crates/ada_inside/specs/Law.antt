-- The laws: operations of one object that run are inside of each other, to any depth, where they assign to components of their formal parameters (5.2, 7.6, 7.6.1).

use Rattle.std.specs.Prelude.{◌≡◌, ℕ, ℤ, Bool, true, List, [], ◌∷◌}
use Rattle.std.specs.List.{Contains}
use Rattle.ada_parts.specs.Shape.{Shape}
use Rattle.ada_parts.specs.Part.{Part, numbers, LiesIn}
use Rattle.ada_parts.specs.Task.{Task}
use Rattle.ada_program.specs.declared.program.Program.{Program}
use Rattle.ada_program.specs.Controlled.{shapes_of}
use Rattle.ada_program.specs.ProgramForm.{program_form}
use Rattle.ada_program.specs.WellFormed.{IsWellFormed}
use Rattle.ada_meaning.specs.declared.event.Cause.TheVariants.{Leaving}
use Rattle.ada_meaning.specs.declared.event.Halt.TheVariants.{Erroneous}
use Rattle.ada_meaning.specs.declared.event.Why.TheVariants.{FinalizesTwice}
use Rattle.ada_meaning.specs.declared.state.Value.{Value}
use Rattle.ada_meaning.specs.Frame.{Frame, Treatment, begins, ends}
use Rattle.ada_meaning.specs.Frame as frame
use Rattle.ada_meaning.specs.Named.{State}
use Rattle.ada_meaning.specs.Run.{Event, Choice, Step, Run, Halts, first_state}
use Rattle.ada_finalized.specs.Law.{NothingBegins, IsInside, TreatsInside}
use Rattle.ada_assigned.specs.Law.{operations_assign_inside, CalledAssignBeside}

-- The parts of an object that a treatment has begun are inside of each operation of the object that runs behind it (7.6).
abbrev pub BegunInside : List Shape → Value → (done : List Part) → List (Frame Value) → Type 0
BegunInside shapes v done k = (number : ℕ) → Contains (numbers done) number → IsInside shapes v number k

-- So is the part that the body of an operation is called for, and all that lies in it.
pub record OperatesInside (shapes : List Shape) (v : Value) (part : Part) (k : List (Frame Value)) : Type 0 where
  pub itself : IsInside shapes v part.number k
  pub within : (number : ℕ) → LiesIn shapes number part → IsInside shapes v number k

-- All treatments that are left to do, and all operations that run, are inside of each operation of their object that runs behind them: each part that one is called
-- for lies strictly inside of that of the next one behind it (7.6), or is left to be finalized there (7.6.1), and so does each record that is finalized or adjusted.
abbrev pub NestInside : List Shape → List (Frame Value) → Type 0
NestInside shapes [] = Unit {0}
NestInside shapes (frame.Treats v (begins by done) tasks ∷ k) = (TreatsInside shapes v tasks k × BegunInside shapes v done k) × NestInside shapes k
NestInside shapes (frame.Treats v (ends cause) tasks ∷ k) = TreatsInside shapes v tasks k × NestInside shapes k
NestInside shapes (frame.Awaits v by done of part tasks ∷ k) =
    (OperatesInside shapes v (record { of = of; number = part }) k × TreatsInside shapes v tasks k × BegunInside shapes v done k) × NestInside shapes k
NestInside shapes (f ∷ k) = NestInside shapes k

-- Where an object is finalized next because its master is left (7.6.1), nothing that is left to do behind that initializes or adjusts it (7.6).
abbrev pub IsLeftApart : State → Type 0
IsLeftApart s =
    (v : Value) (master item : ℕ) (tasks : List Task) (k : List (Frame Value)) → s.control ≡ frame.Treats v (ends (Leaving master item)) tasks ∷ k → NothingBegins v k

-- A well-formed program whose operations assign to records with controlled parts at hand alone (5.2), and what they call to those that it declares itself: a step of a
-- run keeps all operations that run inside of each other, if an object whose master is left stands so behind it.
abbrev pub StepsNestInside : Type 0
StepsNestInside =
    (program : Program) → IsWellFormed (program_form program) → (within called : ℕ → Bool) → operations_assign_inside (program_form program) within called ≡ true
    → CalledAssignBeside (program_form program) called
    → (input : List ℤ) (events : List Event) (before after : State) (choice : Choice) (event : Event) → Run program (first_state program input) events before
    → NestInside (shapes_of program.types.items) before.control → Step program before choice event after → IsLeftApart after
    → NestInside (shapes_of program.types.items) after.control

-- An object whose master is left stands so in each state of each run of a program.
abbrev pub LeavesApart : Program → Type 0
LeavesApart program =
    (input : List ℤ) (events : List Event) (last : State) → Run program (first_state program input) events last → IsLeftApart last

-- In each run of such a program all operations that run are inside of each other, if an object whose master is left stands so in each of its runs.
abbrev pub OperationsNestInside : Type 0
OperationsNestInside =
    (program : Program) → IsWellFormed (program_form program) → (within called : ℕ → Bool) → operations_assign_inside (program_form program) within called ≡ true
    → CalledAssignBeside (program_form program) called → LeavesApart program
    → (input : List ℤ) (events : List Event) (last : State) → Run program (first_state program input) events last → NestInside (shapes_of program.types.items) last.control

-- So no treatment comes to a value that does not exist (7.6.1), whichever operations of the object run behind it.
abbrev pub NestedValuesExist : Type 0
NestedValuesExist =
    (program : Program) → IsWellFormed (program_form program) → (within called : ℕ → Bool) → operations_assign_inside (program_form program) within called ≡ true
    → CalledAssignBeside (program_form program) called → LeavesApart program
    → (input : List ℤ) (events : List Event) (last : State) → Run program (first_state program input) events last
    → (object : Value) (treatment : Treatment) (tasks : List Task) (behind : List (Frame Value)) → last.control ≡ frame.Treats object treatment tasks ∷ behind
    → Halts program last (Erroneous FinalizesTwice) → ⊥
