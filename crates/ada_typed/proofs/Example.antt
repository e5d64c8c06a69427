-- A well-formed program and a run of it to its end; and programs that are not well formed, which get stuck.

use Rattle.std.proofs.Common.{◌<◌, ◌≤◌, ℤ, Bool, true, false, List, [], ◌∷◌, ◌++◌, length, map, refl, sym, ap, ◌∙◌, subst, ◌≡◌, arith}
use Rattle.std.specs.Prelude.{Some, None, pos, String, ◌&&◌}
use Rattle.std.specs.List.{list_all}
use Rattle.std.specs.Global.{Vec, Global}
use Rattle.ada_text.specs.declared.spot.Spot.{Spot}
use Rattle.ada_program.specs.declared.program.Expression.{Expression, Integer, Boolean, Path as Reads, NullTest}
use Rattle.ada_program.specs.declared.program.Path.{Path}
use Rattle.ada_program.specs.declared.program.RecordPath.{RecordPath}
use Rattle.ada_program.specs.declared.program.Item.TheVariants as item
use Rattle.ada_program.specs.declared.program.Right.TheVariants as right
use Rattle.ada_program.specs.declared.program.Actual.TheVariants as actual
use Rattle.ada_program.specs.declared.program.FormalMode.TheVariants as mode
use Rattle.ada_program.specs.declared.program.Stmt as stmt
use Rattle.ada_program.specs.declared.program.Stmt.{Stmt}
use Rattle.ada_program.specs.declared.program.ComponentKind.TheVariants as kind
use Rattle.ada_program.specs.declared.program.Part.{Part}
use Rattle.ada_program.specs.declared.program.Pool.{Pool}
use Rattle.ada_program.specs.declared.program.PartKind.TheVariants as part
use Rattle.ada_program.specs.declared.program.TypeDefinition.{TypeDefinition}
use Rattle.ada_program.specs.declared.program.TypeDefinition.TheVariants as definition
use Rattle.ada_program.specs.declared.program.Declaration.{Declaration}
use Rattle.ada_program.specs.declared.program.Declaration.TheVariants as declaration
use Rattle.ada_program.specs.declared.program.Variable.{Variable}
use Rattle.ada_program.specs.declared.program.VariableKind.TheVariants as variable
use Rattle.ada_program.specs.declared.program.Procedure.{Procedure}
use Rattle.ada_program.specs.declared.program.Program.{Program}
use Rattle.ada_program.specs.declared.program.Choice.TheVariants as choice
use Rattle.ada_program.specs.declared.program.Exception.{Exception}
use Rattle.ada_program.specs.declared.program.Exception.TheVariants.{ProgramError, Declared}
use Rattle.ada_program.specs.declared.program.Handler.{Handler}
use Rattle.ada_program.specs.Form.{expression_form, stmt_form, path_form, record_path_form, item_of_record, in_null, in_out_path, in_out_access, in_out_component, in_out_record, integer, reads, is_null, StmtsForm, no_stmts, a_stmt, assigns, assigns_record, allocates_default, computes, gets, writes, frees, chooses, repeats, counts, exits, calls, returns, raises, encloses, otherwise, a_branch, HandlersForm, no_handlers, a_handler, declaration_forms, stmt_forms, handler_forms, statement_rules, expression_rules}
use Rattle.ada_program.specs.ProgramForm.{BodyForm, body_form, body_forms, program_form}
use Rattle.ada_program.specs.WellFormed.{Creation, creation, created_by_all, created_by_handlers, created_in_all, creates_from, has_collections, has_known_pool, creates_known_pool, IsWellFormed, stmts_fit, bodies_fit, callable_in}
use Rattle.ada_meaning.specs.declared.event.Halt.TheVariants.{Finished}
use Rattle.ada_meaning.specs.Frame as frame
use Rattle.ada_meaning.specs.Named.{State, next}
use Rattle.ada_meaning.specs.Run.{Event, Run, Halts, first_state, settled, grants, takes, here, there}
use Rattle.ada_typed.specs.Stuck.{Finishes, GetsStuck, HasEmptyHandler}
use denote.RawPtr.{null_ptr}

abbrev pub heap : Global
heap = record { memory = record { seal = tt } }

abbrev pub vec : {X : Type 0} (items : List X) → length items ≤ 8 → Vec X
vec items le = record { ptr = null_ptr; len = length items; cap = length items; alloc = heap; items = items; ok = (refl, omega arith); small = omega (arith, le) }

abbrev pub no_name : String Global
no_name = record { bytes = vec [] (omega arith); ok = ∣ ([], (refl, refl)) ∣₁ }

abbrev pub spot : Spot
spot = record { line = 1; column = 1 }

-- X; X.Value; N; R; I
abbrev pub x_path : Path
x_path = record { root = record { 0 = 0 }; selectors = vec [] (omega arith); of_record = false; spot = spot }

abbrev value_path : Path
value_path = record { root = record { 0 = 0 }; selectors = vec (record { 0 = 0 } ∷ []) (omega arith); of_record = false; spot = spot }

abbrev n_path : Path
n_path = record { root = record { 0 = 1 }; selectors = vec [] (omega arith); of_record = false; spot = spot }

abbrev r_path : Path
r_path = record { root = record { 0 = 2 }; selectors = vec [] (omega arith); of_record = true; spot = spot }

abbrev i_path : Path
i_path = record { root = record { 0 = 3 }; selectors = vec [] (omega arith); of_record = false; spot = spot }

-- X.all; R
abbrev x_all : RecordPath
x_all = record { object = x_path; first = record { 0 = 0 }; part = record { 0 = 0 }; «record» = record { 0 = 0 } }

abbrev r_all : RecordPath
r_all = record { object = r_path; first = record { 0 = 0 }; part = record { 0 = 0 }; «record» = record { 0 = 0 } }

-- type Cell is record Value : Integer; end record; type Link is access Cell; for Link'Storage_Pool use P;
abbrev pub parts : List Part
parts = record { name = no_name; kind = part.Elementary (kind.Integer (pos 0)); first = record { 0 = 0 }; part = record { 0 = 0 } } ∷ []

abbrev types : List TypeDefinition
types = definition.Record no_name (vec parts (omega arith)) (vec (kind.Integer (pos 0) ∷ []) (omega arith)) None ∷ definition.Access no_name (record { 0 = 0 }) (Some (record { 0 = 0 })) ∷ definition.Object (record { 0 = 0 })
    ∷ definition.Object (record { 0 = 0 }) ∷ []

-- P : First_Fit_Pool (8);
abbrev pools : List Pool
pools = record { name = no_name; words = 8 } ∷ []

-- X : Link := new Cell'(Value => 7); N : Integer := X.Value; R : Cell := (Value => 3); and the parameter I
abbrev variables : List Variable
variables =
    record { name = no_name; spot = spot; kind = variable.Access (record { 0 = 1 }); borrows = false }
    ∷ record { name = no_name; spot = spot; kind = variable.Integer; borrows = false }
    ∷ record { name = no_name; spot = spot; kind = variable.Record (record { 0 = 2 }); borrows = false }
    ∷ record { name = no_name; spot = spot; kind = variable.Integer; borrows = false }
    ∷ []

abbrev declarations : List Declaration
declarations =
    declaration.Pool (record { 0 = 0 })
    ∷ declaration.Collection (record { 0 = 1 })
    ∷ declaration.Variable (record { 0 = 0 }) (Some (right.Allocator (record { 0 = 1 }) (vec (item.Value (Integer (pos 7)) ∷ []) (omega arith))))
    ∷ declaration.Variable (record { 0 = 1 }) (Some (right.Value (Reads value_path)))
    ∷ declaration.Record (record { 0 = 2 }) (record { 0 = 2 }) (Some (vec (item.Value (Integer (pos 3)) ∷ []) (omega arith)))
    ∷ []

-- X /= null; X = null
abbrev x_is : Bool → Expression
x_is equal = NullTest x_path equal

-- X.all := R; Get (X.Value); X.Value := N; Put_Line (Integer'Image (N)); Free (X);
abbrev chosen : List Stmt
chosen =
    stmt.AssignRecord x_all (vec (item.Record r_all ∷ []) (omega arith))
    ∷ stmt.Get value_path
    ∷ stmt.Assign value_path (right.Value (Reads n_path))
    ∷ stmt.PutImage (Reads n_path)
    ∷ stmt.Free (record { 0 = 1 }) x_path
    ∷ []

-- if X /= null then .. end if; exit when X = null;
abbrev body : List Stmt
body = stmt.If (vec (record { condition = x_is false; statements = vec chosen (omega arith) } ∷ []) (omega arith)) (vec [] (omega arith)) ∷ stmt.Exit (Some (x_is true)) spot ∷ []

-- E : exception;
abbrev failure : Exception
failure = Declared (record { 0 = 0 })

-- when E => Put_Line (Integer'Image (I));
abbrev handlers : List Handler
handlers = record { choices = vec (choice.Exception failure ∷ []) (omega arith); statements = vec (stmt.PutImage (Reads i_path) ∷ []) (omega arith) } ∷ []

-- begin Get (N); raise E; exception .. end;
abbrev counted : List Stmt
counted = stmt.Block (vec [] (omega arith)) (vec (stmt.Get n_path ∷ stmt.Raise failure ∷ []) (omega arith)) (vec handlers (omega arith)) ∷ []

-- loop .. end loop; for I in 1 .. 1 loop .. end loop; X := new Cell; Show (N, X, null); Swap (R, X.Value); Free (X);
abbrev statements : List Stmt
statements =
    stmt.Loop None (vec body (omega arith)) spot
    ∷ stmt.For (record { 0 = 3 }) (Integer (pos 1)) (Integer (pos 1)) (vec counted (omega arith)) spot
    ∷ stmt.Assign x_path (right.Default (record { 0 = 1 }))
    ∷ stmt.Call (record { 0 = 0 }) (vec (actual.InOut n_path ∷ actual.InOutAccess x_path ∷ actual.InNull ∷ []) (omega arith))
    ∷ stmt.Call (record { 0 = 1 }) (vec (actual.InOutRecord r_all ∷ actual.InOutComponent value_path ∷ []) (omega arith))
    ∷ stmt.Free (record { 0 = 1 }) x_path
    ∷ []

-- P; Q: the variables of a procedure have numbers of their own.
abbrev p_path : Path
p_path = x_path

abbrev q_path : Path
q_path = i_path

-- procedure Show (P : in out Integer; L : in out Link; K : Link) is Q : Integer := P; begin Put_Line (Integer'Image (Q)); return; end Show;
abbrev show_variables : List Variable
show_variables =
    record { name = no_name; spot = spot; kind = variable.Integer; borrows = false }
    ∷ record { name = no_name; spot = spot; kind = variable.Access (record { 0 = 1 }); borrows = false }
    ∷ record { name = no_name; spot = spot; kind = variable.Access (record { 0 = 1 }); borrows = false }
    ∷ record { name = no_name; spot = spot; kind = variable.Integer; borrows = false }
    ∷ []

abbrev show : Procedure
show = record {
  formals = vec (mode.InOut ∷ mode.InOut ∷ mode.In ∷ []) (omega arith);
  variables = vec show_variables (omega arith);
  declarations = vec (declaration.Variable (record { 0 = 3 }) (Some (right.Value (Reads p_path))) ∷ []) (omega arith);
  statements = vec (stmt.PutImage (Reads q_path) ∷ stmt.Return spot ∷ []) (omega arith);
  handlers = vec [] (omega arith);
  start = spot;
  end = spot;
}

-- C.Value; V
abbrev c_value_path : Path
c_value_path = record { root = record { 0 = 0 }; selectors = vec (record { 0 = 0 } ∷ []) (omega arith); of_record = true; spot = spot }

abbrev v_path : Path
v_path = n_path

-- procedure Swap (C : in out Cell; V : in out Integer) is begin V := C.Value; C.Value := 9; end Swap;
abbrev swap_variables : List Variable
swap_variables =
    record { name = no_name; spot = spot; kind = variable.Record (record { 0 = 3 }); borrows = false }
    ∷ record { name = no_name; spot = spot; kind = variable.Integer; borrows = false }
    ∷ []

abbrev swap : Procedure
swap = record {
  formals = vec (mode.InOut ∷ mode.InOut ∷ []) (omega arith);
  variables = vec swap_variables (omega arith);
  declarations = vec [] (omega arith);
  statements = vec (stmt.Assign v_path (right.Value (Reads c_value_path)) ∷ stmt.Assign c_value_path (right.Value (Integer (pos 9))) ∷ []) (omega arith);
  handlers = vec [] (omega arith);
  start = spot;
  end = spot;
}

abbrev pub program : Program
program = record {
  types = vec types (omega arith);
  pools = vec pools (omega arith);
  procedures = vec (show ∷ swap ∷ []) (omega arith);
  variables = vec variables (omega arith);
  texts = vec [] (omega arith);
  exceptions = vec (no_name ∷ []) (omega arith);
  declarations = vec declarations (omega arith);
  statements = vec statements (omega arith);
  handlers = vec [] (omega arith);
}

-- The statements as plain data.
abbrev chosen_forms : StmtsForm
chosen_forms =
    a_stmt (assigns_record (record_path_form x_all) (item_of_record (record_path_form r_all) ∷ [])) (
    a_stmt (gets (path_form value_path)) (
    a_stmt (assigns (path_form value_path) (computes (reads (path_form n_path)))) (
    a_stmt (writes (reads (path_form n_path))) (a_stmt (frees 1 (path_form x_path)) no_stmts))))

abbrev turn_forms : StmtsForm
turn_forms = a_stmt (chooses (a_branch (is_null false (path_form x_path)) chosen_forms (otherwise no_stmts))) (a_stmt (exits (Some (is_null true (path_form x_path))) spot) no_stmts)

abbrev handled_forms : HandlersForm
handled_forms = a_handler (choice.Exception failure ∷ []) (a_stmt (writes (reads (path_form i_path))) no_stmts) no_handlers

abbrev counted_forms : StmtsForm
counted_forms = a_stmt (encloses [] (a_stmt (gets (path_form n_path)) (a_stmt (raises failure) no_stmts)) handled_forms) no_stmts

abbrev forms : StmtsForm
forms =
    a_stmt (repeats None turn_forms spot) (
    a_stmt (counts 3 (integer (pos 1)) (integer (pos 1)) counted_forms spot) (
    a_stmt (assigns (path_form x_path) (allocates_default 1)) (
    a_stmt (calls 0 (in_out_path (path_form n_path) ∷ in_out_access (path_form x_path) ∷ in_null ∷ [])) (
    a_stmt (calls 1 (in_out_record (record_path_form r_all) ∷ in_out_component (path_form value_path) ∷ [])) (a_stmt (frees 1 (path_form x_path)) no_stmts)))))

statements_are : stmt_forms program ≡ forms
statements_are = simp (statement_rules, expression_rules)

-- The bodies of the procedures as plain data.
abbrev show_forms : StmtsForm
show_forms = a_stmt (writes (reads (path_form q_path))) (a_stmt (returns spot) no_stmts)

abbrev swap_forms : StmtsForm
swap_forms = a_stmt (assigns (path_form v_path) (computes (reads (path_form c_value_path)))) (a_stmt (assigns (path_form c_value_path) (computes (integer (pos 9)))) no_stmts)

abbrev with_forms : (of_show of_swap : StmtsForm) → List BodyForm
with_forms of_show of_swap = record (body_form show) { statements = of_show } ∷ record (body_form swap) { statements = of_swap } ∷ []

abbrev shown : List BodyForm
shown = with_forms show_forms swap_forms

show_is : (body_form show).statements ≡ show_forms
show_is = simp (statement_rules, expression_rules)

swap_is : (body_form swap).statements ≡ swap_forms
swap_is = simp (statement_rules, expression_rules)

bodies_are : body_forms program ≡ shown
bodies_are = ap (λ (fs : StmtsForm). with_forms fs (body_form swap).statements) show_is ∙ ap (with_forms show_forms) swap_is

-- What the program creates, with these statements.
abbrev creations_with : StmtsForm → List Creation
creations_with fs = map creation (declaration_forms program) ++ created_by_all fs ++ created_by_handlers (handler_forms program)

-- Whether the pools of its types, and those that are created, are its own.
abbrev are_pools : List Creation → Bool
are_pools creations = list_all (has_known_pool 1) (program_form program).types && list_all (creates_known_pool 1) creations

pub well_formed : IsWellFormed (program_form program)
unfolding expression_form
well_formed = record {
  types_fit = refl;
  components_lie = refl;
  operations_fit = refl;
  pools_fit =
      ap (λ (bs : List BodyForm). are_pools (created_in_all bs ++ creations_with (stmt_forms program))) bodies_are ∙
      ap (λ (fs : StmtsForm). are_pools (created_in_all shown ++ creations_with fs)) statements_are;
  variables_fit = refl;
  creates_in_order = ap (λ (fs : StmtsForm). creates_from 4 0 (creations_with fs)) statements_are;
  collections_first = refl;
  collections_fit = refl;
  has_one_each =
      ap (λ (bs : List BodyForm). has_collections (created_in_all bs ++ creations_with (stmt_forms program)) 0 (program_form program).types) bodies_are ∙
      ap (λ (fs : StmtsForm). has_collections (created_in_all shown ++ creations_with fs) 0 (program_form program).types) statements_are;
  initials_fit = refl;
  statements_fit = ap (λ (fs : StmtsForm). stmts_fit (program_form program).types (program_form program).variables (program_form program).texts (program_form program).exceptions (callable_in (program_form program)) false fs) statements_are;
  handlers_fit = refl;
  bodies_fit = ap (bodies_fit (program_form program).types (program_form program).texts (program_form program).exceptions []) bodies_are;
}

-- The input of the run: two numbers.
abbrev input : List ℤ
input = pos 4 ∷ pos 5 ∷ []

-- A run from these statements.
abbrev FinishesFrom : StmtsForm → Type 0
FinishesFrom fs = (events : List Event) × (last : State) × Run program (record (first_state program input) { control = frame.Elaborates (declaration_forms program) fs no_handlers ∷ [] }) events last × Halts program last Finished

-- The record object is the one member of its item.
some_member : 0 < 1
some_member = omega arith

finishes_from : FinishesFrom forms
unfolding next expression_form stmt_form
finishes_from = (_, _, there settled _ (refl, refl) (there settled _ (refl, refl) (there settled _ (refl, refl) (there settled _ (refl, refl) (there settled _ (refl, refl) (there settled _ (refl, refl) (there settled _ (refl, refl) (there (grants true) _ (refl, refl) (there settled _ (refl, refl) (there settled _ (refl, refl) (there settled _ (refl, refl) (there settled _ (refl, refl) (there settled _ (refl, refl) (there settled _ (refl, refl) (there settled _ (refl, refl) (there settled _ (refl, refl) (there settled _ (refl, refl) (there settled _ (refl, refl) (there settled _ (refl, refl) (there settled _ (refl, refl) (there settled _ (refl, refl) (there settled _ (refl, refl) (there settled _ (refl, refl) (there settled _ (refl, refl) (there settled _ (refl, refl) (there settled _ (refl, refl) (there settled _ (refl, refl) (there settled _ (refl, refl) (there settled _ (refl, refl) (there settled _ (refl, refl) (there settled _ (refl, refl) (there settled _ (refl, refl) (there settled _ (refl, refl) (there settled _ (refl, refl) (there settled _ (refl, refl) (there settled _ (refl, refl) (there settled _ (refl, refl) (there settled _ (refl, refl) (there settled _ (refl, refl) (there settled _ (refl, refl) (there settled _ (refl, refl) (there settled _ (refl, refl) (there settled _ (refl, refl) (there settled _ (refl, refl) (there settled _ (refl, refl) (there settled _ (refl, refl) (there settled _ (refl, refl) (there settled _ (refl, refl) (there settled _ (refl, refl) (there settled _ (refl, refl) (there settled _ (refl, refl) (there settled _ (refl, refl) (there settled _ (refl, refl) (there settled _ (refl, refl) (there settled _ (refl, refl) (there settled _ (refl, refl) (there settled _ (refl, refl) (there settled _ (refl, refl) (there settled _ (refl, refl) (there settled _ (refl, refl) (there settled _ (refl, refl) (there settled _ (refl, refl) (there settled _ (refl, refl) (there settled _ (refl, refl) (there settled _ (refl, refl) (there settled _ (refl, refl) (there settled _ (refl, refl) (there settled _ (refl, refl) (there settled _ (refl, refl) (there settled _ (refl, refl) (there settled _ (refl, refl) (there settled _ (refl, refl) (there (grants true) _ (refl, refl) (there settled _ (refl, refl) (there settled _ (refl, refl) (there settled _ (refl, refl) (there settled _ (refl, refl) (there settled _ (refl, refl) (there settled _ (refl, refl) (there settled _ (refl, refl) (there settled _ (refl, refl) (there settled _ (refl, refl) (there settled _ (refl, refl) (there settled _ (refl, refl) (there settled _ (refl, refl) (there settled _ (refl, refl) (there settled _ (refl, refl) (there settled _ (refl, refl) (there settled _ (refl, refl) (there settled _ (refl, refl) (there settled _ (refl, refl) (there settled _ (refl, refl) (there settled _ (refl, refl) (there settled _ (refl, refl) (there settled _ (refl, refl) (there settled _ (refl, refl) (there settled _ (refl, refl) (there settled _ (refl, refl) (there settled _ (refl, refl) (there settled _ (refl, refl) (there settled _ (refl, refl) (there settled _ (refl, refl) (there settled _ (refl, refl) (there settled _ (refl, refl) (there settled _ (refl, refl) (there settled _ (refl, refl) (there settled _ (refl, refl) (there settled _ (refl, refl) (there settled _ (refl, refl) (there settled _ (refl, refl) (there settled _ (refl, refl) (there settled _ (refl, refl) (there settled _ (refl, refl) (there settled _ (refl, refl) (there settled _ (refl, refl) (there settled _ (refl, refl) (there settled _ (refl, refl) (there settled _ (refl, refl) (there settled _ (refl, refl) (there settled _ (refl, refl) (there settled _ (refl, refl) (there settled _ (refl, refl) (there settled _ (refl, refl) (there (takes 0) _ (some_member, refl, refl) (there settled _ (refl, refl) (there settled _ (refl, refl) (there settled _ (refl, refl) (there settled _ (refl, refl) (there settled _ (refl, refl) (there settled _ (refl, refl) (there settled _ (refl, refl) (there settled _ (refl, refl) here))))))))))))))))))))))))))))))))))))))))))))))))))))))))))))))))))))))))))))))))))))))))))))))))))))))))))))))))))))))))))))))))))), refl)

pub finishes : Finishes program
finishes =
    let run : FinishesFrom (stmt_forms program) = subst FinishesFrom (sym statements_are) finishes_from in
    (input, run.0, run.1, run.2, run.3)

-- Put_Line (Integer'Image (True));
abbrev pub ill_typed : Program
ill_typed = record { types = vec [] (omega arith); pools = vec [] (omega arith); procedures = vec [] (omega arith); variables = vec [] (omega arith); texts = vec [] (omega arith); exceptions = vec [] (omega arith); declarations = vec [] (omega arith); statements = vec (stmt.PutImage (Boolean true) ∷ []) (omega arith); handlers = vec [] (omega arith) }

pub gets_stuck : GetsStuck ill_typed
unfolding next expression_form stmt_form
gets_stuck = ([], _, _, there settled _ (refl, refl) (there settled _ (refl, refl) (there settled _ (refl, refl) here)), refl)

-- raise Program_Error; exception when others =>
abbrev pub unhandling : Program
unhandling = record {
  types = vec [] (omega arith);
  pools = vec [] (omega arith);
  procedures = vec [] (omega arith);
  variables = vec [] (omega arith);
  texts = vec [] (omega arith);
  exceptions = vec [] (omega arith);
  declarations = vec [] (omega arith);
  statements = vec (stmt.Raise ProgramError ∷ []) (omega arith);
  handlers = vec (record { choices = vec (choice.Others ∷ []) (omega arith); statements = vec [] (omega arith) } ∷ []) (omega arith);
}

pub empty_handler : HasEmptyHandler unhandling
empty_handler = refl

pub handles_by_nothing : GetsStuck unhandling
unfolding next expression_form stmt_form
handles_by_nothing = ([], _, _, there settled _ (refl, refl) (there settled _ (refl, refl) (there settled _ (refl, refl) here)), refl)
