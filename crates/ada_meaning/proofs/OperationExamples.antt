-- A program with a type whose Initialize raises an exception, and its run.

use Rattle.std.proofs.Common.{◌≡◌, ◌<◌, ◌≤◌, inl, inr, ℕ, zero, suc, Bool, true, false, List, [], ◌∷◌, Option, length, map, arith, refl, ap, ◌∙◌}
use Rattle.std.specs.Prelude.{Some, None, String, pos}
use Rattle.std.specs.Global.{Vec, Global}
use Rattle.ada_text.specs.declared.spot.Spot.{Spot}
use Rattle.ada_program.specs.declared.program.ComponentKind.TheVariants as component
use Rattle.ada_program.specs.declared.program.Declaration.TheVariants as declaration
use Rattle.ada_program.specs.declared.program.Exception.TheVariants.{ConstraintError}
use Rattle.ada_program.specs.declared.program.FormalMode.TheVariants.{InOut}
use Rattle.ada_program.specs.declared.program.Operations.{Operations}
use Rattle.ada_program.specs.declared.program.Part.{Part}
use Rattle.ada_program.specs.declared.program.PartKind.{PartKind}
use Rattle.ada_program.specs.declared.program.PartKind.TheVariants as part
use Rattle.ada_program.specs.declared.program.Procedure.{Procedure}
use Rattle.ada_program.specs.declared.program.Program.{Program}
use Rattle.ada_program.specs.declared.program.Stmt.{Stmt}
use Rattle.ada_program.specs.declared.program.Stmt as stmt
use Rattle.ada_program.specs.declared.program.TypeDefinition.{TypeDefinition}
use Rattle.ada_program.specs.declared.program.TypeDefinition.TheVariants as definition
use Rattle.ada_program.specs.declared.program.Variable.{Variable}
use Rattle.ada_program.specs.declared.program.VariableKind.TheVariants as variable
use Rattle.ada_program.specs.Controlled.{no_operations}
use Rattle.ada_program.specs.Form.{PathForm, expression_form, stmt_form, frees, no_stmts, a_stmt}
use Rattle.ada_program.specs.ProgramForm.{part_form, program_form}
use Rattle.ada_program.specs.WellFormed.{IsWellFormed}
use Rattle.ada_parts.specs.Task.{performs}
use Rattle.ada_meaning.specs.declared.event.Cause.TheVariants.{Freeing}
use Rattle.ada_meaning.specs.declared.state.Mode.{Mode}
use Rattle.ada_meaning.specs.declared.state.Mode.TheVariants.{Running, Raising}
use Rattle.ada_meaning.specs.declared.state.Stage.{Stage}
use Rattle.ada_meaning.specs.declared.state.Stage.TheVariants.{Existing, Gone}
use Rattle.ada_meaning.specs.declared.state.Value.{Value}
use Rattle.ada_meaning.specs.declared.state.Value.TheVariants.{Names}
use Rattle.ada_meaning.specs.Event.{Quiet}
use Rattle.ada_meaning.specs.State.{Activation}
use Rattle.ada_meaning.specs.Frame.{Frame, ends}
use Rattle.ada_meaning.specs.Frame as frame
use Rattle.ada_meaning.specs.Heap.{PartState}
use Rattle.ada_meaning.specs.Named.{Object, State, next}
use Rattle.ada_meaning.specs.Run.{settled, takes}
use Rattle.ada_meaning.specs.Operations.{operation as operation_next, of_finalize, ComesToFree, of_variable, IsNotWhole}
use Rattle.ada_meaning.specs.OperationExamples.{Meets, gone_object_is_not_treated, ended_value_is_not_finalized, nothing_escapes, frees_once, frees_to_its_pool, frees_finalize, here, goes, meets, operations_first, operations_second, operations_both, AnInitializeIsUndone, OthersAreMet, APartBeginsWithAComponent}
use denote.RawPtr.{null_ptr}

abbrev pub heap : Global
heap = record { memory = record { seal = tt } }

abbrev pub vec : {X : Type 0} (items : List X) → length items ≤ 8 → Vec X
vec items le = record { ptr = null_ptr; len = length items; cap = length items; alloc = heap; items = items; ok = (refl, omega arith); small = omega (arith, le) }

abbrev pub no_name : String Global
no_name = record { bytes = vec [] (omega arith); ok = ∣ ([], (refl, refl)) ∣₁ }

abbrev pub spot : Spot
spot = record { line = 1; column = 1 }

-- A component, with the numbers of the first elementary component and of the first controlled part in it.
abbrev pub component_of : PartKind → (first number : ℕ) → Part
component_of kind first number = record { name = no_name; kind = kind; first = record { 0 = first }; part = record { 0 = number } }

-- The components of Both.
abbrev parts_of_both : List Part
parts_of_both = component_of part.Parent 0 0 ∷ component_of (part.Record (record { 0 = 0 })) 0 1 ∷ component_of (part.Record (record { 0 = 1 })) 1 2 ∷ []

-- Types First, Second and Both with these operations, what X is known by, and what the formal parameters are.
abbrev types : (first second both : Operations) → List TypeDefinition
types first second both =
    definition.Record no_name
    (vec (component_of part.Parent 0 0 ∷ component_of (part.Elementary (component.Integer (pos 0))) 0 1 ∷ []) (omega arith))
    (vec (component.Integer (pos 0) ∷ []) (omega arith))
    (Some (record { number = record { 0 = 0 }; parts = 1; limited = false; operations = first }))
    ∷ definition.Record no_name (vec (component_of part.Parent 0 0 ∷ []) (omega arith)) (vec [] (omega arith))
    (Some (record { number = record { 0 = 1 }; parts = 1; limited = false; operations = second }))
    ∷ definition.Record no_name (vec parts_of_both (omega arith))
    (vec (component.Integer (pos 0) ∷ []) (omega arith))
    (Some (record { number = record { 0 = 2 }; parts = 3; limited = false; operations = both }))
    ∷ definition.Object (record { 0 = 2 })
    ∷ definition.Object (record { 0 = 0 })
    ∷ definition.Object (record { 0 = 1 })
    ∷ definition.Object (record { 0 = 2 })
    ∷ []

-- A variable, or formal parameter, that is known by a type.
abbrev pub known_by : ℕ → Variable
known_by t = record { name = no_name; spot = spot; kind = variable.Record (record { 0 = t }); borrows = false }

-- procedure P (T : in out ..) is begin .. end P;
abbrev operation : (formal : ℕ) → Stmt → Procedure
operation formal statement = record {
  formals = vec (InOut ∷ []) (omega arith);
  variables = vec (known_by formal ∷ []) (omega arith);
  declarations = vec [] (omega arith);
  statements = vec (statement ∷ []) (omega arith);
  handlers = vec [] (omega arith);
  start = spot;
  end = spot;
}

-- X : Both;
abbrev program_with : (first second both : Operations) → (procedures : List Procedure) → length procedures ≤ 8 → Program
program_with first second both procedures fit = record {
  types = vec (types first second both) (omega arith);
  pools = vec [] (omega arith);
  procedures = vec procedures fit;
  variables = vec (known_by 3 ∷ []) (omega arith);
  texts = vec [] (omega arith);
  exceptions = vec [] (omega arith);
  declarations = vec (declaration.Record (record { 0 = 0 }) (record { 0 = 3 }) None ∷ []) (omega arith);
  statements = vec (stmt.Null ∷ []) (omega arith);
  handlers = vec [] (omega arith);
}

abbrev program : Program
program =
    program_with operations_first operations_second operations_both
    (operation 4 stmt.Null ∷ operation 5 stmt.Null ∷ operation 6 (stmt.Raise ConstraintError) ∷ []) (omega arith)

-- An object that exists is not gone.
exists : Existing ≡ Gone → ⊥
exists gone = absurd (cc gone)

one_of_two : 0 < 2
one_of_two = omega arith

the_one : 0 < 1
the_one = omega arith

pub an_initialize_is_undone : AnInitializeIsUndone
unfolding next expression_form stmt_form
an_initialize_is_undone = (program, refl, refl, refl, refl, _, _, goes settled _ (refl, refl) (goes (takes 0) _ (one_of_two, refl, refl) (meets (_, _, _, _, _, _, _, _, _, _, _, record { mode = refl; control = refl; comes = refl; has = record { named = refl; exists = exists; holds = refl } }, refl, refl) (goes settled _ (refl, refl) (goes settled _ (refl, refl) (goes settled _ (refl, refl) (goes settled _ (refl, refl) (goes settled _ (refl, refl) (goes settled _ (refl, refl) (goes settled _ (refl, refl) (goes settled _ (refl, refl) (meets (_, _, _, _, _, _, _, _, _, refl, refl, record { named = refl; exists = exists; holds = refl }) (goes settled _ (refl, refl) (goes (takes 0) _ (the_one, refl, refl) (meets (_, _, _, _, _, _, _, _, _, record { mode = refl; control = refl; comes = refl; has = record { named = refl; exists = exists; holds = refl } }, refl) (goes settled _ (refl, refl) (meets (_, _, _, _, _, _, _, _, _, _, _, record { mode = refl; control = refl; comes = refl; has = record { named = refl; exists = exists; holds = refl } }, refl, refl) (goes settled _ (refl, refl) (goes settled _ (refl, refl) (goes settled _ (refl, refl) (goes settled _ (refl, refl) (goes settled _ (refl, refl) (goes settled _ (refl, refl) (goes settled _ (refl, refl) (goes settled _ (refl, refl) (meets (_, _, _, _, _, _, _, _, refl, refl, refl, exists) (goes settled _ (refl, refl) (meets (_, _, _, _, _, _, _, _, _, _, record { mode = refl; control = refl; comes = refl; has = record { named = refl; exists = exists; holds = refl } }, refl, refl, refl) (goes settled _ (refl, refl) (goes settled _ (refl, refl) (goes settled _ (refl, refl) (goes settled _ (refl, refl) (goes settled _ (refl, refl) (goes settled _ (refl, refl) (goes settled _ (refl, refl) (goes settled _ (refl, refl) (meets (_, refl, refl) (goes settled _ (refl, refl) (meets (_, _, _, _, _, _, _, _, record { mode = refl; control = refl; comes = refl; has = record { named = refl; exists = exists; holds = refl } }, refl, refl) (goes settled _ (refl, refl) (meets (_, _, _, refl, refl, refl, exists) (goes settled _ (refl, refl) (meets (_, _, _, _, refl, refl, refl, refl) (goes settled _ (refl, refl) (meets (_, _, refl, refl) (goes settled _ (refl, refl) (goes settled _ (refl, refl) (goes settled _ (refl, refl) (goes settled _ (refl, refl) here)))))))))))))))))))))))))))))))))))))))))))))))), refl, refl)

-- An object of the type Both that is from a pool, and a part of it.
abbrev a_part : Bool → PartState
a_part alive = record { alive = alive; turn = 0; number = 1; first = 0 }

abbrev an_object : (listed : Bool) → Stage → (pool : ℕ) → PartState → Object
an_object listed stage pool p = record {
  cell = record { access = 3; number = 1; home = record { item = 0; pool = Some pool; subpool = None }; values = []; parts = p ∷ [] };
  stage = stage;
  listed = listed;
  out = true;
}

-- A variable that names an object.
abbrev one_variable : List (Activation Value)
one_variable = record { procedure = None; places = Names (record { 0 = 0 }) ∷ []; operands = [] } ∷ []

-- A state with this object, which a variable names, and with this left to do.
abbrev a_state : Mode → List (Frame Value) → Object → State
a_state mode control object = record {
  activations = one_variable;
  masters = [];
  control = control;
  mode = mode;
  input = [];
  next = 1;
  allocated = 1;
  born = 1;
  heap = object ∷ [];
}

-- Free (P); and P, by its variable.
abbrev p_path : PathForm
p_path = record { root = 0; of_record = false; selectors = []; spot = spot }

abbrev freeing : List (Frame Value)
freeing = frame.Does (a_stmt (frees 3 p_path) no_stmts) ∷ []

-- An object of one part that has a value is whole, where it is in its collection.
is_whole : (pool : ℕ) → IsNotWhole (an_object true Existing pool (a_part true)) → ⊥
is_whole pool (inl unlisted) = absurd (cc unlisted)
is_whole pool (inr (zero, state, at, ended)) =
    let same : a_part true ≡ state = cc at in
    let never : true ≡ false = ap (λ (p : PartState). p.alive) same ∙ ended in
    absurd (cc never)
is_whole pool (inr (suc part, state, at, ended)) = absurd (cc at)

frees_there : (object : Object) → ComesToFree 3 (record { 0 = 0 }) (a_state Running freeing object) Quiet (frame.Clears 0) (frame.Does no_stmts ∷ []) one_variable
frees_there object = of_variable p_path no_stmts [] _ [] refl refl refl refl refl

some_parts : 0 < 3
some_parts = omega arith

another_pool : ◌≡◌ {A = Option ℕ} (Some 1) (Some 0) → ⊥
another_pool same = absurd (cc same)

pub others_are_met : OthersAreMet
others_are_met =
    (program, (gone_so, (ended_so, (escapes_so, (once_so, (elsewhere_so, (whole_so, tt)))))))
  where
    ending : List (Frame Value)
    ending = frame.Treats (Names (record { 0 = 0 })) (ends (Freeing 1)) (performs 0 0 ∷ []) ∷ []

    gone_so : (s : State) × Meets program gone_object_is_not_treated s
    gone_so = (
      a_state Running ending (an_object false Gone 0 (a_part true)),
      (record { 0 = 0 }, an_object false Gone 0 (a_part true), refl, operation_next refl, refl, refl),
    )

    ended_so : (s : State) × Meets program ended_value_is_not_finalized s
    ended_so = (
      a_state Running ending (an_object false Existing 0 (a_part false)),
      (_, _, _, _, _, _, _, _, record { mode = refl; control = refl; comes = refl; has = record { named = refl; exists = exists; holds = refl } }, refl),
    )

    escapes_so : (s : State) × Meets program nothing_escapes s
    escapes_so = (a_state (Raising ConstraintError) (frame.Confines ∷ []) (an_object true Existing 0 (a_part true)), (_, _, _, of_finalize, refl, refl))

    once_so : (s : State) × Meets program frees_once s
    once_so =
        let object = an_object false Existing 0 (a_part true) in
        (a_state Running freeing object, (3, record { 0 = 0 }, object, _, _, _, _, frees_there object, refl, inl refl, some_parts))

    elsewhere_so : (s : State) × Meets program frees_to_its_pool s
    elsewhere_so =
        let object = an_object true Existing 1 (a_part true) in
        (a_state Running freeing object, (3, record { 0 = 0 }, object, _, _, _, _, frees_there object, refl, is_whole 1, another_pool))

    whole_so : (s : State) × Meets program frees_finalize s
    whole_so =
        let object = an_object true Existing 0 (a_part true) in
        (a_state Running freeing object, (3, record { 0 = 0 }, object, _, _, _, _, frees_there object, refl, is_whole 0, refl))

-- The program without operations.
abbrev plain : Program
plain = program_with no_operations no_operations no_operations [] (omega arith)

well_formed : IsWellFormed (program_form plain)
unfolding expression_form stmt_form
well_formed = record {
  types_fit = refl;
  components_lie = refl;
  operations_fit = refl;
  pools_fit = refl;
  variables_fit = refl;
  creates_in_order = refl;
  collections_first = refl;
  collections_fit = refl;
  has_one_each = refl;
  initials_fit = refl;
  statements_fit = refl;
  handlers_fit = refl;
  bodies_fit = refl;
}

pub a_part_begins_with_a_component : APartBeginsWithAComponent
a_part_begins_with_a_component = (
  plain,
  map part_form parts_of_both,
  record { number = record { 0 = 2 }; parts = 3; limited = false; operations = no_operations },
  part_form (component_of (part.Record (record { 0 = 1 })) 1 2),
  well_formed,
  (_, _, refl),
  refl,
  refl,
  refl,
  refl,
  refl,
  refl,
)
