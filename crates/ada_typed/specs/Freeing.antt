-- Which objects are freed, and by the instance of Unchecked_Deallocation for which access type (13.11.2).

use Rattle.std.specs.Prelude.{◌≡◌, ◌≢◌, ◌⊎◌, ℕ, ℤ, List, [], ◌∷◌, Some}
use Rattle.std.specs.List.{slice_get}
use Rattle.ada_program.specs.declared.program.Program.{Program}
use Rattle.ada_program.specs.Form.{PathForm, frees, StmtsForm, a_stmt}
use Rattle.ada_program.specs.Freed.{FreesItsOwn}
use Rattle.ada_program.specs.ProgramForm.{program_form}
use Rattle.ada_program.specs.WellFormed.{IsWellFormed}
use Rattle.ada_meaning.specs.declared.state.Id.{Id}
use Rattle.ada_meaning.specs.declared.state.Value.{Value}
use Rattle.ada_meaning.specs.declared.state.Value.TheVariants.{Names}
use Rattle.ada_meaning.specs.declared.state.Mode.TheVariants.{Running}
use Rattle.ada_meaning.specs.Frame.{Frame}
use Rattle.ada_meaning.specs.Frame as frame
use Rattle.ada_meaning.specs.Named.{Object, State, named, object_at}
use Rattle.ada_meaning.specs.Run.{Event, Run, first_state}
use Rattle.ada_meaning.specs.Step.{held, newest}

-- The next statement frees the object that a variable names, by the instance for an access type (13.11.2).
pub record FreesVariable (s : State) (access : ℕ) (o : Id) : Type 0 where
  pub path : PathForm
  pub fs : StmtsForm
  pub k : List (Frame Value)
  pub runs : s.mode ≡ Running
  pub begins : s.control ≡ frame.Does (a_stmt (frees access path) fs) ∷ k
  pub alone : path.selectors ≡ []
  pub names : held named s path.root ≡ Names o

-- The next step frees the object that a component names, of the object that was found for it (13.11.2).
pub record FreesComponent (s : State) (access : ℕ) (o : Id) : Type 0 where
  pub c : ℕ
  pub k : List (Frame Value)
  pub found : Id
  pub holder : Object
  pub runs : s.mode ≡ Running
  pub begins : s.control ≡ frame.FreesIn access c ∷ k
  pub finds : newest named s ≡ Names found
  pub holds : object_at s.heap found ≡ Some holder
  pub names : slice_get holder.cell.values c ≡ Some (Names o)

-- The next action is a Free that finds an object.
abbrev pub AboutToFree : State → (access : ℕ) → Id → Type 0
AboutToFree s access o = FreesVariable s access o ⊎ FreesComponent s access o

-- Each object that a run is about to free is of the access type that the instance is for.
abbrev pub FreesByItsType : Program → Type 0
FreesByItsType program =
    (input : List ℤ) (events : List Event) (last : State) (access : ℕ) (o : Id) (object : Object) →
    Run program (first_state program input) events last → AboutToFree last access o → object_at last.heap o ≡ Some object → object.cell.access ≡ access

-- So it is in each program that is well formed, where each Free is by the instance for the access type of what it frees.
abbrev pub ObjectsAreFreedByTheirTypes : Type 0
ObjectsAreFreedByTheirTypes = (program : Program) → IsWellFormed (program_form program) → FreesItsOwn (program_form program) → FreesByItsType program

-- A run of the program comes to a Free that finds an object, of an access type of which this holds beside that of the instance.
abbrev pub ComesToFree : Program → (ℕ → ℕ → Type 0) → Type 0
ComesToFree program P =
    (input : List ℤ) × (events : List Event) × (last : State) × (access : ℕ) × (o : Id) × (object : Object)
    × Run program (first_state program input) events last × AboutToFree last access o × (object_at last.heap o ≡ Some object) × P object.cell.access access

-- The premises are met: such a program comes to a Free that finds an object.
abbrev pub AProgramFreesItsOwn : Type 0
AProgramFreesItsOwn =
    (program : Program) × IsWellFormed (program_form program) × FreesItsOwn (program_form program) × ComesToFree program (λ own access. own ≡ access)

-- The second one is needed: a well-formed program frees an object by the instance for another access type to the same record type.
abbrev pub AProgramFreesAnother : Type 0
AProgramFreesAnother = (program : Program) × IsWellFormed (program_form program) × ComesToFree program (λ own access. own ≢ access)
