-- A program whose Initialize is called for a component of a record object, and calls a procedure with that.

use Rattle.ada_formals.specs.Formals.{IsRecordFormal}
use Rattle.ada_formals.specs.Example.{RunsInInitialize, PremisesAreMet, AParameterIsGivenOn}
use Rattle.std.proofs.Common.{◌≡◌, ◌<◌, ℕ, false, true, List, [], ◌∷◌, arith, refl}
use Rattle.std.specs.Prelude.{Some, None, pos}
use Rattle.ada_program.specs.declared.program.Actual.TheVariants as actual
use Rattle.ada_program.specs.declared.program.ComponentKind.{ComponentKind}
use Rattle.ada_program.specs.declared.program.ComponentKind.TheVariants as kind
use Rattle.ada_program.specs.declared.program.Declaration.TheVariants as declaration
use Rattle.ada_program.specs.declared.program.Expression.{Path as Reads}
use Rattle.ada_program.specs.declared.program.Finalization.{Finalization}
use Rattle.ada_program.specs.declared.program.FormalMode.TheVariants.{In, InOut}
use Rattle.ada_program.specs.declared.program.Part.{Part}
use Rattle.ada_program.specs.declared.program.PartKind.{PartKind}
use Rattle.ada_program.specs.declared.program.PartKind.TheVariants as part
use Rattle.ada_program.specs.declared.program.Path.{Path}
use Rattle.ada_program.specs.declared.program.RecordPath.{RecordPath}
use Rattle.ada_program.specs.declared.program.Procedure.{Procedure}
use Rattle.ada_program.specs.declared.program.Program.{Program}
use Rattle.ada_program.specs.declared.program.Stmt as stmt
use Rattle.ada_program.specs.declared.program.TypeDefinition.{TypeDefinition}
use Rattle.ada_program.specs.declared.program.TypeDefinition.TheVariants as definition
use Rattle.ada_program.specs.declared.program.Variable.{Variable}
use Rattle.ada_program.specs.declared.program.VariableKind.TheVariants as variable
use Rattle.ada_program.specs.Form.{expression_form, stmt_form}
use Rattle.ada_program.specs.ProgramForm.{program_form, body_forms}
use Rattle.ada_program.specs.WellFormed.{IsWellFormed}
use Rattle.ada_meaning.specs.declared.state.Value.{Value}
use Rattle.ada_meaning.specs.State.{Activation}
use Rattle.ada_meaning.specs.Step.{halts, moves, tells, asks, picks}
use Rattle.ada_meaning.specs.Named.{State, Next, next}
use Rattle.ada_meaning.specs.Run.{Event, Run, settled, takes, here, there, first_state}
use Rattle.ada_meaning.specs.Calls.{WithinCall, here as within, there as further}
use Rattle.ada_typed.proofs.Example.{vec, no_name, spot}

-- A component, with the numbers of the first elementary component and of the first controlled part in it.
abbrev component_of : PartKind → (first number : ℕ) → Part
component_of kind first number = record { name = no_name; kind = kind; first = record { 0 = first }; part = record { 0 = number } }

abbrev a_number : ComponentKind
a_number = kind.Integer (pos 1)

-- type Guard is new Controlled with record Level : Integer := 1; end record; with its own Initialize
abbrev guard : Finalization
guard = record {
  number = record { 0 = 0 };
  parts = 1;
  limited = false;
  operations = record { initialize = Some (record { 0 = 1 }); adjust = None; finalize = None };
}

-- type House is record Rooms : Integer := 1; Door : Guard; end record;
abbrev house : Finalization
house = record {
  number = record { 0 = 1 };
  parts = 1;
  limited = false;
  operations = record { initialize = None; adjust = None; finalize = None };
}

-- These, and what the formal parameters and H are known by.
abbrev types : List TypeDefinition
types =
    definition.Record no_name (vec (component_of part.Parent 0 0 ∷ component_of (part.Elementary a_number) 0 1 ∷ []) (omega arith)) (vec (a_number ∷ []) (omega arith))
    (Some guard)
    ∷ definition.Record no_name (vec (component_of (part.Elementary a_number) 0 0 ∷ component_of (part.Record (record { 0 = 0 })) 1 0 ∷ []) (omega arith))
    (vec (a_number ∷ a_number ∷ []) (omega arith)) (Some house)
    ∷ definition.Object (record { 0 = 0 })
    ∷ definition.Object (record { 0 = 0 })
    ∷ definition.Object (record { 0 = 1 })
    ∷ []

-- A formal parameter, or H.
abbrev known_by : (object_type : ℕ) → Variable
known_by t = record { name = no_name; spot = spot; kind = variable.Record (record { 0 = t }); borrows = false }

-- G.Level
abbrev level : Path
level = record { root = record { 0 = 0 }; selectors = vec (record { 0 = 0 } ∷ []) (omega arith); of_record = true; spot = spot }

-- T
abbrev whole : RecordPath
whole = record {
  object = record { root = record { 0 = 0 }; selectors = vec [] (omega arith); of_record = true; spot = spot };
  first = record { 0 = 0 };
  part = record { 0 = 0 };
  «record» = record { 0 = 0 };
}

-- procedure Show (G : Guard) is begin Put_Line (Integer'Image (G.Level)); end Show;
abbrev show : Procedure
show = record {
  formals = vec (In ∷ []) (omega arith);
  variables = vec (known_by 2 ∷ []) (omega arith);
  declarations = vec [] (omega arith);
  statements = vec (stmt.PutImage (Reads level) ∷ []) (omega arith);
  handlers = vec [] (omega arith);
  start = spot;
  end = spot;
}

-- overriding procedure Initialize (T : in out Guard) is begin Show (T); end Initialize;
abbrev initialize : Procedure
initialize = record {
  formals = vec (InOut ∷ []) (omega arith);
  variables = vec (known_by 3 ∷ []) (omega arith);
  declarations = vec [] (omega arith);
  statements = vec (stmt.Call (record { 0 = 0 }) (vec (actual.InRecord whole ∷ []) (omega arith)) ∷ []) (omega arith);
  handlers = vec [] (omega arith);
  start = spot;
  end = spot;
}

-- H : House;
abbrev program : Program
program = record {
  types = vec types (omega arith);
  pools = vec [] (omega arith);
  procedures = vec (show ∷ initialize ∷ []) (omega arith);
  variables = vec (known_by 4 ∷ []) (omega arith);
  texts = vec [] (omega arith);
  exceptions = vec [] (omega arith);
  declarations = vec (declaration.Record (record { 0 = 0 }) (record { 0 = 4 }) None ∷ []) (omega arith);
  statements = vec (stmt.Null ∷ []) (omega arith);
  handlers = vec [] (omega arith);
}

well_formed : IsWellFormed (program_form program)
unfolding expression_form stmt_form
well_formed = record {
  types_fit = refl;
  components_lie = refl;
  operations_fit = refl;
  pools_fit = refl;
  variables_fit = refl;
  creates_in_order = refl;
  collections_first = refl;
  collections_fit = refl;
  has_one_each = refl;
  initials_fit = refl;
  statements_fit = refl;
  handlers_fit = refl;
  bodies_fit = refl;
}

-- The state behind a step, where one comes; where a component is to be picked, it is the first one.
abbrev behind : Next → State → State
behind (halts halt) s = s
behind (moves e after) s = after
behind (tells request e after) s = after
behind (asks request answers) s = answers true
behind (picks n taking) s = taking 0

abbrev after : State → State
after s = behind (next program.types.items (body_forms program) s) s

-- The states of the run: H is declared, its door is picked, the body of Initialize begins, and so on up to the body of Show.
abbrev begun : State
begun = after (after (after (first_state program [])))

abbrev calling : State
calling = after (after (after (after begun)))

-- Its door is the one component of H that is to be initialized.
some_component : 0 < 1
some_component = omega arith

two : 1 < 2
two = omega arith

three : 1 < 3
three = omega arith

begins : (events : List Event) × Run program (first_state program []) events begun
unfolding next expression_form stmt_form
begins = (
  _,
  there settled (after (first_state program [])) (refl, refl) (there (takes 0) (after (after (first_state program []))) (some_component, refl, refl) (
      there settled begun (refl, refl) here)),
)

-- The body of Initialize has not ended then.
stays : (events : List Event) × WithinCall program 1 begun events (after calling)
unfolding next expression_form stmt_form
stays = (
  _,
  further settled (after begun) (refl, refl) two (further settled (after (after begun)) (refl, refl) two (
      further settled (after (after (after begun))) (refl, refl) two (further settled calling (refl, refl) two (
      further settled (after calling) (refl, refl) three within)))),
)

goes_on : (events : List Event) × Run program begun events (after calling)
unfolding next expression_form stmt_form
goes_on = (
  _,
  there settled (after begun) (refl, refl) (there settled (after (after begun)) (refl, refl) (there settled (after (after (after begun))) (refl, refl) (
      there settled calling (refl, refl) (there settled (after calling) (refl, refl) here)))),
)

calls_in_it : RunsInInitialize (after calling)
unfolding next expression_form stmt_form
calls_in_it = record {
  o = record { 0 = 0 };
  place = record { component = 1; part = 0 };
  called = _;
  initialize = _;
  main = _;
  front = _ ∷ _ ∷ _ ∷ _ ∷ _ ∷ [];
  of = _;
  tasks = _;
  behind = _;
  activations = refl;
  control = refl;
  component = refl;
  given = refl;
  waits = refl;
}

initialize_runs : (running : Activation Value) × (main : Activation Value) × (begun.activations ≡ running ∷ main ∷ []) × IsRecordFormal (body_forms program) running.procedure 0
unfolding next expression_form stmt_form
initialize_runs = (_, _, refl, (record { 0 = 3 }, refl))

pub premises_are_met : PremisesAreMet
premises_are_met = (
  program,
  well_formed,
  [],
  begins.0,
  begun,
  begins.1,
  initialize_runs.0,
  initialize_runs.1,
  initialize_runs.2,
  initialize_runs.3,
  after calling,
  stays,
  goes_on,
  calls_in_it,
)

-- The call of Show is on its way there: its actual parameter is to be found.
abbrev finding : State
finding = after (after begun)

comes_there : (events : List Event) × Run program (first_state program []) events finding
unfolding next expression_form stmt_form
comes_there = (
  _,
  there settled (after (first_state program [])) (refl, refl) (there (takes 0) (after (after (first_state program []))) (some_component, refl, refl) (
      there settled begun (refl, refl) (there settled (after begun) (refl, refl) (there settled finding (refl, refl) here)))),
)

pub parameter_is_given_on : AParameterIsGivenOn
unfolding next expression_form stmt_form
parameter_is_given_on = (
  program,
  well_formed,
  [],
  comes_there.0,
  finding,
  comes_there.1,
  _,
  _,
  record { 0 = 0 },
  record { component = 1; part = 0 },
  refl,
  refl,
  refl,
  refl,
  refl,
  after finding,
  calling,
  (_, (refl, refl)),
  (_, (refl, refl)),
)
