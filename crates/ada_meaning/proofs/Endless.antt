-- A program with a type whose Initialize declares an object of this very type: no statement ever begins.

use Rattle.std.proofs.Common.{◌≡◌, ℕ, zero, suc, ℤ, false, List, [], ◌∷◌, ◌++◌, length, Some, None, arith, refl, ap}
use Rattle.std.specs.List.{slice_get}
use Rattle.ada_program.specs.declared.program.Declaration.TheVariants as declaration
use Rattle.ada_program.specs.declared.program.FormalMode.TheVariants.{InOut}
use Rattle.ada_program.specs.declared.program.PartKind.TheVariants as part
use Rattle.ada_program.specs.declared.program.Procedure.{Procedure}
use Rattle.ada_program.specs.declared.program.Program.{Program}
use Rattle.ada_program.specs.declared.program.Stmt as stmt
use Rattle.ada_program.specs.declared.program.TypeDefinition.{TypeDefinition}
use Rattle.ada_program.specs.declared.program.TypeDefinition.TheVariants as definition
use Rattle.ada_program.specs.Form.{no_stmts, no_handlers, a_stmt, skips, declares_record, expression_form, stmt_form}
use Rattle.ada_program.specs.ProgramForm.{body_form, program_form}
use Rattle.ada_program.specs.WellFormed.{IsWellFormed}
use Rattle.ada_meaning.specs.declared.state.Mode.TheVariants.{Running}
use Rattle.ada_meaning.specs.declared.state.Value.{Value}
use Rattle.ada_meaning.specs.declared.state.Value.TheVariants.{Names, Part}
use Rattle.ada_meaning.specs.declared.event.Birth.TheVariants.{Creation}
use Rattle.ada_meaning.specs.Event.{Quiet}
use Rattle.ada_meaning.specs.Frame.{Frame}
use Rattle.ada_meaning.specs.Frame as frame
use Rattle.ada_meaning.specs.State.{Activation, Master, height}
use Rattle.ada_meaning.specs.Step.{at, older, made, operating, record_cell}
use Rattle.ada_meaning.specs.Named.{Object, State, named, new_object, next}
use Rattle.ada_meaning.specs.Run.{Event, Step, settled, first_state}
use Rattle.ada_meaning.specs.Ending.{WithinStatement, here, there}
use Rattle.ada_meaning.specs.Pace.{SomeDeclarationsNeverEnd}
use Rattle.ada_meaning.proofs.OperationExamples.{vec, no_name, spot, component_of, known_by}

-- type T is new Controlled with null record; whose Initialize is this procedure. An object of the main part, one of the procedure, and its formal parameter
-- are known by a type each.
--
-- procedure Initialize (O : in out T) is X : T; begin null; end;
abbrev initialize : Procedure
initialize = record {
  formals = vec (InOut ∷ []) (omega arith);
  variables = vec (known_by 2 ∷ known_by 3 ∷ []) (omega arith);
  declarations = vec (declaration.Record (record { 0 = 1 }) (record { 0 = 3 }) None ∷ []) (omega arith);
  statements = vec (stmt.Null ∷ []) (omega arith);
  handlers = vec [] (omega arith);
  start = spot;
  end = spot;
}

-- X : T;
abbrev program : Program
program = record {
  types =
      vec
      (definition.Record no_name (vec (component_of part.Parent 0 0 ∷ []) (omega arith)) (vec [] (omega arith))
      (Some (record { number = record { 0 = 0 }; parts = 1; limited = false; operations = record { initialize = Some (record { 0 = 0 }); adjust = None; finalize = None } }))
      ∷ definition.Object (record { 0 = 0 }) ∷ definition.Object (record { 0 = 0 }) ∷ definition.Object (record { 0 = 0 }) ∷ [])
      (omega arith);
  pools = vec [] (omega arith);
  procedures = vec (initialize ∷ []) (omega arith);
  variables = vec (known_by 1 ∷ []) (omega arith);
  texts = vec [] (omega arith);
  exceptions = vec [] (omega arith);
  declarations = vec (declaration.Record (record { 0 = 0 }) (record { 0 = 1 }) None ∷ []) (omega arith);
  statements = vec (stmt.Null ∷ []) (omega arith);
  handlers = vec [] (omega arith);
}

abbrev types : List TypeDefinition
types = program.types.items

well_formed : IsWellFormed (program_form program)
unfolding expression_form stmt_form
well_formed = record {
  types_fit = refl;
  components_lie = refl;
  operations_fit = refl;
  pools_fit = refl;
  variables_fit = refl;
  creates_in_order = refl;
  collections_first = refl;
  collections_fit = refl;
  has_one_each = refl;
  initials_fit = refl;
  statements_fit = refl;
  handlers_fit = refl;
  bodies_fit = refl;
}

-- So many steps follow a state, and no statement begins.
abbrev Follow : ℕ → State → Type 0
Follow n s = (events : List Event) × (last : State) × WithinStatement program s events last × (length events ≡ n)

-- The newest object is found.
newest : (objects : List Object) (object : Object) → slice_get (objects ++ object ∷ []) (length objects) ≡ Some object
newest [] object = refl
newest (x ∷ objects) object = newest objects object

-- The body of Initialize begins, wherever it is called.
abbrev begun_body :
    Activation Value → List (Activation Value) → (number : ℕ) → List Master → (behind : List (Frame Value)) → List ℤ → (next allocated born : ℕ) → List Object → State
begun_body a running number outer behind input next allocated born objects = record {
  activations = a ∷ running;
  masters = record { number = number; items = [] } ∷ outer;
  control = frame.Elaborates (declares_record 1 3 None ∷ []) (a_stmt skips no_stmts) no_handlers ∷ behind;
  mode = Running;
  input = input;
  next = next;
  allocated = allocated;
  born = born;
  heap = objects;
}

-- Its object is created.
abbrev with_object : State → State
with_object s = made named types 1 3 Creation [] (at (frame.Elaborates [] (a_stmt skips no_stmts) no_handlers ∷ older s.control) s)

-- Then Initialize is called for that.
abbrev called_again : (o : Value) → (part : Value) → List (Frame Value) → State → State
called_again o reference behind s =
    operating named 0 (body_form initialize) reference (frame.Awaits o Creation [] 0 0 [] ∷ frame.Elaborates [] (a_stmt skips no_stmts) no_handlers ∷ behind) s

called_so :
    (a : Activation Value) (running : List (Activation Value)) (number : ℕ) (outer : List Master) (behind : List (Frame Value)) (input : List ℤ)
    (next_number allocated born : ℕ) (objects : List Object)
    → Step program (with_object (begun_body a running number outer behind input next_number allocated born objects)) settled Quiet
    (called_again (Names (record { 0 = length objects })) (Part (record { 0 = length objects }) (record { component = 0; part = 0 })) behind
    (with_object (begun_body a running number outer behind input next_number allocated born objects)))
unfolding next expression_form stmt_form
called_so a running number outer behind input next_number allocated born objects =
    rw (newest objects (new_object (record_cell named types 3 (height (record { number = number; items = [] } ∷ outer)) []))) (refl, refl)

endless :
    (n : ℕ) (a : Activation Value) (running : List (Activation Value)) (number : ℕ) (outer : List Master) (behind : List (Frame Value)) (input : List ℤ)
    (next_number allocated born : ℕ) (objects : List Object) → Follow n (begun_body a running number outer behind input next_number allocated born objects)
unfolding next expression_form stmt_form
endless zero a running number outer behind input next_number allocated born objects = ([], _, here, refl)
endless (suc zero) a running number outer behind input next_number allocated born objects =
    (_, _, there settled (with_object (begun_body a running number outer behind input next_number allocated born objects)) refl (refl, refl) here, refl)
endless (suc (suc n)) a running number outer behind input next_number allocated born objects =
    let s = begun_body a running number outer behind input next_number allocated born objects in
    let o = Names (record { 0 = length objects }) in
    let reference = Part (record { 0 = length objects }) (record { component = 0; part = 0 }) in
    let after = called_again o reference behind (with_object s) in
    let more : Follow n after = endless n _ _ _ _ _ _ _ _ _ _ in (
      Quiet ∷ Quiet ∷ more.0,
      more.1,
      there settled (with_object s) refl (refl, refl) (there settled after refl (called_so a running number outer behind input next_number allocated born objects) more.2),
      ap suc (ap suc more.3),
    )

-- The object of the main part is created, and then Initialize is called for it.
abbrev main_object : State
main_object = made named types 0 1 Creation [] (at (frame.Elaborates [] (a_stmt skips no_stmts) no_handlers ∷ []) (first_state program []))

from_first : (n : ℕ) → Follow n (first_state program [])
unfolding next expression_form stmt_form
from_first zero = ([], _, here, refl)
from_first (suc zero) = (_, _, there settled main_object refl (refl, refl) here, refl)
from_first (suc (suc n)) =
    let after = called_again (Names (record { 0 = 0 })) (Part (record { 0 = 0 }) (record { component = 0; part = 0 })) [] main_object in
    let more : Follow n after = endless n _ _ _ _ _ _ _ _ _ _ in
    (Quiet ∷ Quiet ∷ more.0, more.1, there settled main_object refl (refl, refl) (there settled after refl (refl, refl) more.2), ap suc (ap suc more.3))

pub some_declarations_never_end : SomeDeclarationsNeverEnd
some_declarations_never_end = (program, well_formed, from_first)
