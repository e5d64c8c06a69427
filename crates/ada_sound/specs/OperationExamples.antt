-- The operations, the statements and the events of the programs by which the laws show what operations of controlled types do, where one of them raises an
-- exception and where some of them allocate and free, too, what the rules let through where a type has an Adjust of its own, that other operations must not
-- be in use, that no exception may come out of a Finalize, and that one may come out of what is never called.

use Rattle.std.specs.Prelude.{◌≡◌, ℕ, ◌+◌, List, [], ◌∷◌, ◌++◌, Option, Some, None, false, pos}
use Rattle.std.proofs.Math.ListN.{replicate}
use Rattle.ada_values.specs.declared.operator.BinaryOperator.TheVariants as binary
use Rattle.ada_program.specs.declared.program.Choice.TheVariants as choice
use Rattle.ada_program.specs.declared.program.Exception.TheVariants.{ConstraintError, StorageError}
use Rattle.ada_program.specs.declared.program.FormalMode.TheVariants.{InOut}
use Rattle.ada_program.specs.declared.program.Operations.{Operations}
use Rattle.ada_program.specs.declared.program.Program.{Program}
use Rattle.ada_program.specs.declared.program.VariableKind.TheVariants as variable
use Rattle.ada_program.specs.Form.{PathForm, RecordPathForm, in_out_record, integer, reads, is_null, item_of_value, item_of_record, nothing, allocates, allocates_default, value_of, computes, DeclarationForm, collects, declares, declares_record, StmtForm, skips, assigns, assigns_record, frees, writes, writes_text, chooses, calls, raises, encloses, StmtsForm, no_stmts, a_stmt, otherwise, a_branch, HandlersForm, no_handlers, a_handler}
use Rattle.ada_program.specs.ProgramForm.{TypeForm, access_to, BodyForm, program_form}
use Rattle.ada_program.specs.WellFormed.{record_components, reached_components}
use Rattle.ada_deeds.specs.Does.{Does}
use Rattle.ada_deeds.specs.declared.deed.Callee.TheVariants as callee
use Rattle.ada_deeds.specs.declared.deed.Deed.TheVariants.{Raises}
use Rattle.ada_deeds.specs.declared.deed.Operation.{Operation}
use Rattle.ada_effects.specs.Effects.{Implicit}
use Rattle.ada_flow.specs.declared.rule.Hold.TheVariants.{Null, Own, Lost}
use Rattle.ada_flow.specs.declared.rule.Region.TheVariants.{Whole}
use Rattle.ada_flow.specs.Flow.{Holds, goes, declaration_flow, types_of, variables_of}
use Rattle.ada_flow.specs.Tracking.{no_tracks}
use Rattle.ada_meaning.specs.declared.state.Value.{Value}
use Rattle.ada_meaning.specs.declared.state.Value.TheVariants.{Names}
use Rattle.ada_meaning.specs.declared.event.Birth.TheVariants.{Creation, Copy, Adjustment}
use Rattle.ada_meaning.specs.declared.event.Cause.TheVariants.{Leaving, Freeing, Assigning, Undoing}
use Rattle.ada_meaning.specs.declared.event.Line.TheVariants.{Image, Literal}
use Rattle.ada_meaning.specs.Event.{Born, Finalized, Back, Followed, Left, Line}
use Rattle.ada_meaning.specs.Beginning.{BeginsStatement}
use Rattle.ada_meaning.specs.Named.{State}
use Rattle.ada_meaning.specs.Run.{Event}
use Rattle.ada_finalized.specs.Law.{NoOperationRuns}
use Rattle.ada_sound.specs.Agreement.{RunsPlainly, IsSpokenOf}
use Rattle.ada_sound.specs.Always.{AgreesThere}
use Rattle.ada_sound.specs.Examples.{example_spot, example_path, with_number}
use Rattle.ada_sound.specs.RecordExamples.{object_path, object_record}
use Rattle.ada_sound.specs.CallExamples.{unnamed}
use Rattle.ada_sound.specs.Owners.{IsLetThrough, HasNoAccess}

-- An operation, whose formal parameter is known by the type of this number, and stands for a record of a controlled type (7.6).
abbrev pub operation_body : ℕ → StmtsForm → HandlersForm → BodyForm
operation_body formal fs hs = record {
  formals = InOut ∷ [];
  variables = unnamed (variable.Record (record { 0 = formal })) ∷ [];
  declarations = [];
  statements = fs;
  handlers = hs;
  start_spot = example_spot;
  end_spot = example_spot;
}

-- type Count is new Controlled with record N : Integer; end record; which has number 0; type Link is access Count; which has number 1. X : Count and P : Link
-- have numbers 0 and 1 in the main procedure, and Y : Count, in a block, has number 2.

-- Count overrides each operation, by these procedures.
abbrev pub count_operations : Operations
count_operations = record { initialize = Some (record { 0 = 0 }); adjust = Some (record { 0 = 1 }); finalize = Some (record { 0 = 2 }) }

-- The component N of the formal parameter, C.
abbrev pub count_now : PathForm
count_now = object_path 0 (0 ∷ [])

-- procedure Initialize (C : in out Count) is begin C.N := 1; Put_Line (".."); end Initialize;
abbrev pub initialize_count : BodyForm
initialize_count = operation_body 4 (a_stmt (assigns count_now (computes (integer (pos 1)))) (a_stmt (writes_text 0) no_stmts)) no_handlers

-- procedure Adjust (C : in out Count) is begin C.N := C.N + 1; exception when others => null; end Adjust;
abbrev pub adjust_count : BodyForm
adjust_count =
    operation_body 5 (a_stmt (assigns count_now (computes (with_number binary.Add 1 (reads count_now)))) no_stmts)
    (a_handler (choice.Others ∷ []) (a_stmt skips no_stmts) no_handlers)

-- procedure Finalize (C : in out Count) is begin Put_Line (Integer'Image (C.N)); end Finalize;
abbrev pub finalize_count : BodyForm
finalize_count = operation_body 6 (a_stmt (writes (reads count_now)) no_stmts) no_handlers

-- All three, in order.
abbrev pub count_bodies : List BodyForm
count_bodies = initialize_count ∷ adjust_count ∷ finalize_count ∷ []

-- X : Count; P : Link;
abbrev pub operating_declarations : List DeclarationForm
operating_declarations = collects 1 ∷ declares_record 0 2 None ∷ declares 1 nothing ∷ []

-- declare Y : Count := X; begin X := Y; raise Constraint_Error; end;
abbrev pub operating_block : StmtForm
operating_block =
    encloses (declares_record 2 3 (Some (item_of_record (object_record 0) ∷ [])) ∷ [])
    (a_stmt (assigns_record (object_record 0) (item_of_record (object_record 2) ∷ []))
    (a_stmt (raises ConstraintError) no_stmts))
    no_handlers

-- P := new Count; declare .. end;
abbrev pub operating_stmts : StmtsForm
operating_stmts = a_stmt (assigns (example_path 1 []) (allocates_default 1)) (a_stmt operating_block no_stmts)

-- when Constraint_Error => Free (P);
abbrev pub operating_handlers : HandlersForm
operating_handlers = a_handler (choice.Exception ConstraintError ∷ []) (a_stmt (frees 1 (example_path 1 [])) no_stmts) no_handlers

-- The object X.
abbrev pub object_x : Value
object_x = Names (record { 0 = 0 })

-- The object of the allocator.
abbrev pub object_new : Value
object_new = Names (record { 0 = 1 })

-- The object Y.
abbrev pub object_y : Value
object_y = Names (record { 0 = 2 })

-- Initialize of an object is called, as a master of its own: it assigns to the component and writes the text.
abbrev pub initializes : Value → (master : ℕ) → List Event
initializes o master = replicate 2 (Followed o) ++ Line (Literal (record { 0 = 0 })) ∷ Left master ∷ []

-- Adjust is called: it reads the component, and assigns to it.
abbrev pub adjusts : Value → (master : ℕ) → List Event
adjusts o master = replicate 3 (Followed o) ++ Left master ∷ []

-- Finalize is called, and writes this number, which the component holds.
abbrev pub finalizes : Value → (number master : ℕ) → List Event
finalizes o number master = Followed o ∷ Line (Image (pos number)) ∷ Left master ∷ []

-- X and the new object are initialized, to 1 each, and Y, a copy of X, is adjusted, to 2. By the assignment X is finalized, which holds 1, gets what Y holds,
-- and is adjusted, to 3. The exception leaves the block: Y is finalized, which holds 2, and goes. The handler frees the new object: it is finalized, which
-- holds 1, and goes. At the end X is finalized, which holds 3, and goes.
abbrev pub operating_events : List Event
operating_events =
    initializes object_x 1
    ++ Born object_x 0 0 0 1 Creation
    ∷ initializes object_new 2
    ++ Born object_new 0 0 0 2 Creation
    ∷ Followed object_x
    ∷ adjusts object_y 4
    ++ Born object_y 0 0 0 3 Copy
    ∷ Followed object_x
    ∷ Followed object_y
    ∷ Finalized object_x 0 0 0 1 (Assigning 5)
    ∷ finalizes object_x 1 6
    ++ Followed object_y
    ∷ Followed object_x
    ∷ adjusts object_x 7
    ++ Born object_x 0 1 0 4 (Adjustment 5)
    ∷ Finalized object_y 0 0 0 3 (Leaving 3 3)
    ∷ finalizes object_y 2 8
    ++ Back object_y 3 0 None None (Leaving 3 3)
    ∷ Left 3
    ∷ Finalized object_new 0 0 0 2 (Freeing 9)
    ∷ finalizes object_new 1 10
    ++ Back object_new 1 1 (Some 0) None (Freeing 9)
    ∷ Finalized object_x 0 1 0 4 (Leaving 0 1)
    ∷ finalizes object_x 3 11
    ++ Back object_x 2 0 None None (Leaving 0 1)
    ∷ Left 0
    ∷ []

-- type First is new Controlled with record V : Integer; end record; and type Second is new Controlled with record W : Integer; end record; have numbers 0 and
-- 1. type Both is record A : First; B : Second; end record; has number 2, and type Link is access Both; has number 3. P : Link has number 0 in the main
-- procedure.

-- First overrides Initialize and Finalize, and Second overrides Initialize, by these procedures.
abbrev pub first_operations : Operations
first_operations = record { initialize = Some (record { 0 = 0 }); adjust = None; finalize = Some (record { 0 = 1 }) }

-- Second has no other one.
abbrev pub second_operations : Operations
second_operations = record { initialize = Some (record { 0 = 2 }); adjust = None; finalize = None }

-- procedure Initialize (F : in out First) is begin F.V := 1; end Initialize;
abbrev pub initialize_first : BodyForm
initialize_first = operation_body 4 (a_stmt (assigns count_now (computes (integer (pos 1)))) no_stmts) no_handlers

-- procedure Finalize (F : in out First) is begin Put_Line (Integer'Image (F.V)); end Finalize;
abbrev pub finalize_first : BodyForm
finalize_first = operation_body 5 (a_stmt (writes (reads count_now)) no_stmts) no_handlers

-- procedure Initialize (S : in out Second) is begin S.W := 2; raise Constraint_Error; end Initialize;
abbrev pub failing_initialize : BodyForm
failing_initialize = operation_body 6 (a_stmt (assigns count_now (computes (integer (pos 2)))) (a_stmt (raises ConstraintError) no_stmts)) no_handlers

-- All three, in order.
abbrev pub failing_bodies : List BodyForm
failing_bodies = initialize_first ∷ finalize_first ∷ failing_initialize ∷ []

-- begin P := new Both; exception when Constraint_Error => Put_Line (".."); end; Free (P);
abbrev pub failing_stmts : StmtsForm
failing_stmts =
    a_stmt
    (encloses [] (a_stmt (assigns (example_path 0 []) (allocates_default 3)) no_stmts)
    (a_handler (choice.Exception ConstraintError ∷ []) (a_stmt (writes_text 0) no_stmts) no_handlers))
    (a_stmt (frees 3 (example_path 0 [])) no_stmts)

-- The object that is undone.
abbrev pub failing_object : Value
failing_object = Names (record { 0 = 0 })

-- The new object is undone: A has begun, and Initialize of B raises the exception, after which A is finalized, which holds 1, and the object goes. Then the
-- handler writes the text, and Free finds null. Each body is a master, and so is the block.
abbrev pub failing_events : List Event
failing_events =
    replicate 2 (Followed failing_object)
    ++ Left 2
    ∷ Born failing_object 0 0 0 1 Creation
    ∷ replicate 2 (Followed failing_object)
    ++ Left 3
    ∷ Finalized failing_object 0 0 0 1 (Undoing 4)
    ∷ finalizes failing_object 1 5
    ++ Back failing_object 3 1 (Some 0) None (Undoing 4)
    ∷ Line (Literal (record { 0 = 0 }))
    ∷ Left 1
    ∷ Left 0
    ∷ []

-- type Cell is record Value : Integer; end record; which has number 0; type Link is access Cell; which has number 1; type Holder is new Limited_Controlled with
-- record Head : Link; end record; which has number 2. H : Holder has number 0 in the main procedure.

-- Holder overrides Finalize, by this procedure.
abbrev pub tidying_operations : Operations
tidying_operations = record { initialize = None; adjust = None; finalize = Some (record { 0 = 0 }) }

-- The component Head of H, in the main procedure, and in Finalize, where H is the formal parameter.
abbrev pub head_now : PathForm
head_now = object_path 0 (0 ∷ [])

-- procedure Finalize (H : in out Holder) is begin Free (H.Head); end Finalize;
abbrev pub tidying_finalize : BodyForm
tidying_finalize = operation_body 4 (a_stmt (frees 1 head_now) no_stmts) no_handlers

-- The collection of Link; H : Holder;
abbrev pub tidying_declarations : List DeclarationForm
tidying_declarations = collects 1 ∷ declares_record 0 3 None ∷ []

-- H.Head := new Cell;
abbrev pub tidying_stmts : StmtsForm
tidying_stmts = a_stmt (assigns head_now (allocates_default 1)) no_stmts

-- The object H.
abbrev pub object_h : Value
object_h = Names (record { 0 = 0 })

-- The new cell.
abbrev pub new_cell : Value
new_cell = Names (record { 0 = 1 })

-- H is initialized, for which nothing is called, and is followed where its Head is found as a target, and where that is written. At the leaving of the main
-- procedure H is finalized: its Finalize, a master of its own, follows H to what Head names, the words of that cell go back, H is followed where Head becomes
-- null, and the body is left. Then the words of H go back. Nothing is left in the collection.
abbrev pub tidying_events : List Event
tidying_events =
    Born object_h 0 0 0 1 Creation
    ∷ replicate 2 (Followed object_h)
    ++ Finalized object_h 0 0 0 1 (Leaving 0 1)
    ∷ Followed object_h
    ∷ Back new_cell 1 1 (Some 0) None (Freeing 2)
    ∷ Followed object_h
    ∷ Left 1
    ∷ Back object_h 3 0 None None (Leaving 0 1)
    ∷ Left 0
    ∷ []

-- The same types, and type Chest is access Holder; which has number 3; the formal parameter of Finalize is known by type 4. C : Chest has number 0 in the main
-- procedure.

-- The component Head of the formal parameter of Finalize.
abbrev pub boxed_head : PathForm
boxed_head = object_path 0 (0 ∷ [])

-- procedure Finalize (H : in out Holder) is begin Free (H.Head); end Finalize;
abbrev pub boxing_finalize : BodyForm
boxing_finalize = operation_body 4 (a_stmt (frees 1 boxed_head) no_stmts) no_handlers

-- The collections of Link and of Chest; C : Chest := new Holder;
abbrev pub boxing_declarations : List DeclarationForm
boxing_declarations = collects 1 ∷ collects 3 ∷ declares 0 (allocates_default 3) ∷ []

-- C.Head := new Cell; Free (C); C := new Holder;
abbrev pub boxing_stmts : StmtsForm
boxing_stmts =
    a_stmt (assigns (example_path 0 (0 ∷ [])) (allocates_default 1))
    (a_stmt (frees 3 (example_path 0 []))
    (a_stmt (assigns (example_path 0 []) (allocates_default 3)) no_stmts))

-- The first holder.
abbrev pub first_box : Value
first_box = Names (record { 0 = 0 })

-- Its cell.
abbrev pub boxed_cell : Value
boxed_cell = Names (record { 0 = 1 })

-- The second holder.
abbrev pub second_box : Value
second_box = Names (record { 0 = 2 })

-- The first holder is allocated and initialized, for which nothing is called, and is followed where its Head is found as a target, and where that is written.
-- Free finalizes it: its Finalize, a master of its own, follows it to what Head names, the words of that cell go back, it is followed where Head becomes null,
-- and the body is left; then its own words go back. The second one is allocated, and is there when the main procedure is left: then it is finalized, which
-- follows it to a Head that is null, and its words go back. The collections of both access types are empty then.
abbrev pub boxing_events : List Event
boxing_events =
    Born first_box 0 0 0 1 Creation
    ∷ replicate 2 (Followed first_box)
    ++ Finalized first_box 0 0 0 1 (Freeing 1)
    ∷ Followed first_box
    ∷ Back boxed_cell 1 2 (Some 0) None (Freeing 3)
    ∷ Followed first_box
    ∷ Left 2
    ∷ Back first_box 3 1 (Some 0) None (Freeing 1)
    ∷ Born second_box 0 0 0 2 Creation
    ∷ Finalized second_box 0 0 0 2 (Leaving 0 1)
    ∷ Followed second_box
    ∷ Left 4
    ∷ Back second_box 3 3 (Some 0) None (Leaving 0 1)
    ∷ Left 0
    ∷ []

-- The same first two types; and type Tally is new Controlled with record N : Integer; end record; which has number 2, and overrides Finalize by this procedure.
-- X : Tally and Y : Tally have numbers 0 and 1 in the main procedure.

-- The variable C of Finalize.
abbrev pub c_now : PathForm
c_now = record { root = 1; of_record = false; selectors = []; spot = example_spot }

-- procedure Finalize (T : in out Tally) is C : Link; begin Free (C); end Finalize;
abbrev pub overwriting_finalize : BodyForm
overwriting_finalize = record (operation_body 5 (a_stmt (frees 1 c_now) no_stmts) no_handlers) {
  variables = unnamed (variable.Record (record { 0 = 5 })) ∷ unnamed (variable.Access (record { 0 = 1 })) ∷ [];
  declarations = declares 1 nothing ∷ [];
}

-- The collection of Link; X : Tally; Y : Tally;
abbrev pub overwriting_declarations : List DeclarationForm
overwriting_declarations = collects 1 ∷ declares_record 0 3 None ∷ declares_record 1 4 None ∷ []

-- A variable of type Tally.
abbrev pub tally_now : (x : ℕ) → RecordPathForm
tally_now x = record { object = object_path x []; first = 0; part = 0; record_type = 2 }

-- X := Y;
abbrev pub overwriting_stmts : StmtsForm
overwriting_stmts = a_stmt (assigns_record (tally_now 0) (item_of_record (tally_now 1) ∷ [])) no_stmts

-- The object Y; X is as before.
abbrev pub copied_y : Value
copied_y = Names (record { 0 = 1 })

-- X and Y are initialized, for which nothing is called. The assignment finds X and then Y, and finalizes the value of X: the body of Finalize, a master of its
-- own, is left; then Y is copied to X, and X has a value again, for which nothing is called. At the leaving of the main procedure Y is finalized, and its words
-- go back, and then X, whose value is the later one.
abbrev pub overwriting_events : List Event
overwriting_events =
    Born object_x 0 0 0 1 Creation
    ∷ Born copied_y 0 0 0 2 Creation
    ∷ Followed object_x
    ∷ Followed copied_y
    ∷ Finalized object_x 0 0 0 1 (Assigning 1)
    ∷ Left 2
    ∷ Followed copied_y
    ∷ Followed object_x
    ∷ Born object_x 0 1 0 3 (Adjustment 1)
    ∷ Finalized copied_y 0 0 0 2 (Leaving 0 2)
    ∷ Left 3
    ∷ Back copied_y 4 0 None None (Leaving 0 2)
    ∷ Finalized object_x 0 1 0 3 (Leaving 0 1)
    ∷ Left 4
    ∷ Back object_x 3 0 None None (Leaving 0 1)
    ∷ Left 0
    ∷ []

-- The same types, but that Holder overrides Finalize by the second of two procedures, which calls the first one. H : Holder has number 0 in the main
-- procedure.
abbrev pub emptying_operations : Operations
emptying_operations = record { initialize = None; adjust = None; finalize = Some (record { 0 = 1 }) }

-- procedure Empty (G : in out Holder) is begin Free (G.Head); end Empty;
abbrev pub emptying_empty : BodyForm
emptying_empty = operation_body 4 (a_stmt (frees 1 head_now) no_stmts) no_handlers

-- The record of type Holder that the formal parameter H is.
abbrev pub holder_now : RecordPathForm
holder_now = record { object = object_path 0 []; first = 0; part = 0; record_type = 2 }

-- procedure Finalize (H : in out Holder) is begin Empty (H); end Finalize;
abbrev pub emptying_finalize : BodyForm
emptying_finalize = operation_body 5 (a_stmt (calls 0 (in_out_record holder_now ∷ [])) no_stmts) no_handlers

-- Both, in order.
abbrev pub emptying_bodies : List BodyForm
emptying_bodies = emptying_empty ∷ emptying_finalize ∷ []

-- H is initialized, for which nothing is called, and is followed where its Head is found as a target, and where that is written. At the leaving of the main
-- procedure H is finalized: its Finalize, a master of its own, follows H to pass it, and Empty, one more master, follows H to what Head names, the words of
-- that cell go back, and H is followed where Head becomes null. Empty is left, and then Finalize. Then the words of H go back. Nothing is left in the
-- collection.
abbrev pub emptying_events : List Event
emptying_events =
    Born object_h 0 0 0 1 Creation
    ∷ replicate 2 (Followed object_h)
    ++ Finalized object_h 0 0 0 1 (Leaving 0 1)
    ∷ replicate 2 (Followed object_h)
    ++ Back new_cell 1 1 (Some 0) None (Freeing 3)
    ∷ Followed object_h
    ∷ Left 2
    ∷ Left 1
    ∷ Back object_h 3 0 None None (Leaving 0 1)
    ∷ Left 0
    ∷ []

-- The same types, but that Holder overrides Initialize and Finalize, by these procedures. H : Holder has number 0 in the main procedure.
abbrev pub allocating_operations : Operations
allocating_operations = record { initialize = Some (record { 0 = 0 }); adjust = None; finalize = Some (record { 0 = 1 }) }

-- procedure Initialize (H : in out Holder) is begin H.Head := new Cell; exception when Storage_Error => null; end Initialize;
abbrev pub allocating_initialize : BodyForm
allocating_initialize =
    operation_body 4 (a_stmt (assigns head_now (allocates_default 1)) no_stmts)
    (a_handler (choice.Exception StorageError ∷ []) (a_stmt skips no_stmts) no_handlers)

-- procedure Finalize (H : in out Holder) is begin Free (H.Head); end Finalize;
abbrev pub allocating_finalize : BodyForm
allocating_finalize = operation_body 5 (a_stmt (frees 1 head_now) no_stmts) no_handlers

-- Both, in order.
abbrev pub allocating_bodies : List BodyForm
allocating_bodies = allocating_initialize ∷ allocating_finalize ∷ []

-- The component Value of what Head of H names.
abbrev pub value_now : PathForm
value_now = object_path 0 (0 ∷ 0 ∷ [])

-- H.Head.Value := 7; Put_Line (Integer'Image (H.Head.Value));
abbrev pub allocating_stmts : StmtsForm
allocating_stmts = a_stmt (assigns value_now (computes (integer (pos 7)))) (a_stmt (writes (reads value_now)) no_stmts)

-- when Constraint_Error => null;
abbrev pub allocating_handlers : HandlersForm
allocating_handlers = a_handler (choice.Exception ConstraintError ∷ []) (a_stmt skips no_stmts) no_handlers

-- The Initialize of H, a master of its own, follows H where its Head is found as a target, and where that is written, and is left: now H has its value. H and
-- the cell are followed to where the 7 is written, and once more to where it is read. At the leaving of the main procedure H is finalized: its Finalize frees
-- the cell. Then the words of H go back, and nothing is left in the collection.
abbrev pub allocating_events : List Event
allocating_events =
    replicate 2 (Followed object_h)
    ++ Left 1
    ∷ Born object_h 0 0 0 1 Creation
    ∷ Followed object_h
    ∷ replicate 2 (Followed new_cell)
    ++ Followed object_h
    ∷ Followed new_cell
    ∷ Line (Image (pos 7))
    ∷ Finalized object_h 0 0 0 1 (Leaving 0 1)
    ∷ Followed object_h
    ∷ Back new_cell 1 1 (Some 0) None (Freeing 3)
    ∷ Followed object_h
    ∷ Left 2
    ∷ Back object_h 3 0 None None (Leaving 0 1)
    ∷ Left 0
    ∷ []

-- Where the cell is refused, Initialize handles that, and H has its value all the same. The main procedure finds null in Head, and handles that. Finalize finds
-- it, too, and frees nothing.
abbrev pub refused_events : List Event
refused_events =
    Followed object_h
    ∷ Left 1
    ∷ Born object_h 0 0 0 1 Creation
    ∷ Followed object_h
    ∷ Finalized object_h 0 0 0 1 (Leaving 0 1)
    ∷ Followed object_h
    ∷ Left 2
    ∷ Back object_h 3 0 None None (Leaving 0 1)
    ∷ Left 0
    ∷ []

-- The same types, but that Holder overrides Initialize and Finalize, by these procedures; and type Pair is record First : Holder; Second : Holder; end record;
-- which has number 3. P : Pair, in a block, has number 0 in the main procedure.

-- procedure Initialize (H : in out Holder) is begin H.Head := new Cell; end Initialize;
abbrev pub undoing_initialize : BodyForm
undoing_initialize = operation_body 5 (a_stmt (assigns head_now (allocates_default 1)) no_stmts) no_handlers

-- procedure Finalize (H : in out Holder) is begin Free (H.Head); end Finalize;
abbrev pub undoing_finalize : BodyForm
undoing_finalize = operation_body 6 (a_stmt (frees 1 head_now) no_stmts) no_handlers

-- Both, in order.
abbrev pub undoing_bodies : List BodyForm
undoing_bodies = undoing_initialize ∷ undoing_finalize ∷ []

-- The collection of Link.
abbrev pub undoing_declarations : List DeclarationForm
undoing_declarations = collects 1 ∷ []

-- declare P : Pair; begin null; end;
abbrev pub undoing_stmts : StmtsForm
undoing_stmts = a_stmt (encloses (declares_record 0 4 None ∷ []) (a_stmt skips no_stmts) no_handlers) no_stmts

-- when Storage_Error => null;
abbrev pub undoing_handlers : HandlersForm
undoing_handlers = a_handler (choice.Exception StorageError ∷ []) (a_stmt skips no_stmts) no_handlers

-- The object P.
abbrev pub object_p : Value
object_p = Names (record { 0 = 0 })

-- First is initialized: the cell is granted, Head names it, and First has its value. For Second the cell is refused, and Storage_Error leaves the body of
-- Initialize, so that P is undone: First is finalized, whose Finalize frees the cell, and the words of P go back. Then the block is left, the handler takes the
-- exception, and nothing is left in the collection.
abbrev pub undoing_events : List Event
undoing_events =
    replicate 2 (Followed object_p)
    ++ Left 2
    ∷ Born object_p 0 0 0 1 Creation
    ∷ Followed object_p
    ∷ Left 3
    ∷ Finalized object_p 0 0 0 1 (Undoing 4)
    ∷ Followed object_p
    ∷ Back new_cell 1 1 (Some 0) None (Freeing 6)
    ∷ Followed object_p
    ∷ Left 5
    ∷ Back object_p 4 0 None None (Undoing 4)
    ∷ Left 1
    ∷ Left 0
    ∷ []

-- The same first four types; and type Chest is access Pair; which has number 4. C : Chest has number 0 in the main procedure.

-- The collections of Link and of Chest; C : Chest;
abbrev pub filling_declarations : List DeclarationForm
filling_declarations = collects 1 ∷ collects 4 ∷ declares 0 nothing ∷ []

-- C := new Pair;
abbrev pub allocates_pair : StmtForm
allocates_pair = assigns (example_path 0 []) (allocates_default 4)

-- C := new Pair; Free (C); C := new Pair;
abbrev pub filling_stmts : StmtsForm
filling_stmts = a_stmt allocates_pair (a_stmt (frees 4 (example_path 0 [])) (a_stmt allocates_pair no_stmts))

-- The first pair.
abbrev pub first_pair : Value
first_pair = Names (record { 0 = 0 })

-- The second one.
abbrev pub second_pair : Value
second_pair = Names (record { 0 = 3 })

-- Initialize of a part of a pair is called, as a master of its own: it follows the pair where Head is found as a target, and where that is written.
abbrev pub fills : Value → (master : ℕ) → List Event
fills pair master = replicate 2 (Followed pair) ++ Left master ∷ []

-- Finalize of a part of a pair is called: it follows the pair to what Head names, the words of that cell go back, the pair is followed where Head becomes null,
-- and the body is left.
abbrev pub empties : Value → (cell granted master : ℕ) → List Event
empties pair cell granted master =
    Followed pair ∷ Back (Names (record { 0 = cell })) 1 granted (Some 0) None (Freeing (1 + master)) ∷ Followed pair ∷ Left master ∷ []

-- First and Second of the first pair are initialized, each to a cell of its own. Free finalizes First and then Second, which free their cells, and the words of
-- the pair go back. The second pair is initialized, too, and is there when the main procedure is left: then Second and First of it are finalized with its
-- collection, and its words go back, so that nothing is left in the collections.
abbrev pub filling_events : List Event
filling_events =
    fills first_pair 1
    ++ Born first_pair 0 0 0 1 Creation
    ∷ fills first_pair 2
    ++ Born first_pair 1 0 0 2 Creation
    ∷ Finalized first_pair 0 0 0 1 (Freeing 3)
    ∷ empties first_pair 1 2 4
    ++ Finalized first_pair 1 0 0 2 (Freeing 3)
    ∷ empties first_pair 2 3 6
    ++ Back first_pair 4 1 (Some 0) None (Freeing 3)
    ∷ fills second_pair 8
    ++ Born second_pair 0 0 0 3 Creation
    ∷ fills second_pair 9
    ++ Born second_pair 1 0 0 4 Creation
    ∷ Finalized second_pair 1 0 0 4 (Leaving 0 1)
    ∷ empties second_pair 5 6 10
    ++ Finalized second_pair 0 0 0 3 (Leaving 0 1)
    ∷ empties second_pair 4 5 12
    ++ Back second_pair 4 4 (Some 0) None (Leaving 0 1)
    ∷ Left 0
    ∷ []

-- Where the cell of Second is refused, Storage_Error leaves the body of Initialize, so that the first pair is undone: First is finalized, whose Finalize frees
-- its cell, and the words of the pair go back. The handler takes the exception, C is null still, and nothing is left in the collections.
abbrev pub unfilled_events : List Event
unfilled_events =
    fills first_pair 1
    ++ Born first_pair 0 0 0 1 Creation
    ∷ Followed first_pair
    ∷ Left 2
    ∷ Finalized first_pair 0 0 0 1 (Undoing 3)
    ∷ empties first_pair 1 2 4
    ++ Back first_pair 4 1 (Some 0) None (Undoing 3)
    ∷ Left 0
    ∷ []

-- type Tag is new Limited_Controlled with record Value : Integer; end record; which has number 0; type Label is access Tag; which has number 1; type Box is
-- new Limited_Controlled with record Held : Label; end record; which has number 2. B : Box has number 0 in the main procedure, and is known by type 3, and
-- the formal parameters by types 4 to 7.

-- Tag overrides Initialize and Finalize, by the first two of four procedures.
abbrev pub tag_operations : Operations
tag_operations = record { initialize = Some (record { 0 = 0 }); adjust = None; finalize = Some (record { 0 = 1 }) }

-- Box overrides them by the other two.
abbrev pub equipping_operations : Operations
equipping_operations = record { initialize = Some (record { 0 = 2 }); adjust = None; finalize = Some (record { 0 = 3 }) }

-- The component Value of the formal parameter, T.
abbrev pub tag_now : PathForm
tag_now = object_path 0 (0 ∷ [])

-- procedure Initialize (T : in out Tag) is begin T.Value := 7; end Initialize;
abbrev pub tag_initialize : BodyForm
tag_initialize = operation_body 4 (a_stmt (assigns tag_now (computes (integer (pos 7)))) no_stmts) no_handlers

-- procedure Finalize (T : in out Tag) is begin Put_Line (Integer'Image (T.Value)); end Finalize;
abbrev pub tag_finalize : BodyForm
tag_finalize = operation_body 5 (a_stmt (writes (reads tag_now)) no_stmts) no_handlers

-- The component Held of the formal parameter, B.
abbrev pub held_now : PathForm
held_now = object_path 0 (0 ∷ [])

-- procedure Initialize (B : in out Box) is begin B.Held := new Tag; end Initialize;
abbrev pub equipping_initialize : BodyForm
equipping_initialize = operation_body 6 (a_stmt (assigns held_now (allocates_default 1)) no_stmts) no_handlers

-- procedure Finalize (B : in out Box) is begin Free (B.Held); end Finalize;
abbrev pub equipping_finalize : BodyForm
equipping_finalize = operation_body 7 (a_stmt (frees 1 held_now) no_stmts) no_handlers

-- All four, in order.
abbrev pub equipping_bodies : List BodyForm
equipping_bodies = tag_initialize ∷ tag_finalize ∷ equipping_initialize ∷ equipping_finalize ∷ []

-- The collection of Label; B : Box;
abbrev pub equipping_declarations : List DeclarationForm
equipping_declarations = collects 1 ∷ declares_record 0 3 None ∷ []

-- null;
abbrev pub equipping_stmts : StmtsForm
equipping_stmts = a_stmt skips no_stmts

-- The object B.
abbrev pub equipped_box : Value
equipped_box = Names (record { 0 = 0 })

-- The tag, which B owns.
abbrev pub held_tag : Value
held_tag = Names (record { 0 = 1 })

-- The Initialize of B, a master of its own, follows B where its Held is found as a target. The tag is allocated, and its own Initialize is called, one more
-- master, which follows it where Value is found as a target, and where that is written, and is left. So the tag has its value while the Initialize of B still
-- runs: B is followed where Held is written, and its Initialize is left, and only then B has its value. At the leaving of the main procedure B is finalized:
-- its Finalize follows B to what Held names, and the tag is finalized, whose own Finalize writes its 7, and is left. Then the words of the tag go back, B is
-- followed where Held becomes null, its Finalize is left, and its words go back. Nothing is left in the collection.
abbrev pub equipping_events : List Event
equipping_events =
    Followed equipped_box
    ∷ replicate 2 (Followed held_tag)
    ++ Left 2
    ∷ Born held_tag 0 0 0 1 Creation
    ∷ Followed equipped_box
    ∷ Left 1
    ∷ Born equipped_box 0 0 1 2 Creation
    ∷ Finalized equipped_box 0 0 1 2 (Leaving 0 1)
    ∷ Followed equipped_box
    ∷ Finalized held_tag 0 0 0 1 (Freeing 4)
    ∷ finalizes held_tag 7 5
    ++ Back held_tag 1 1 (Some 0) None (Freeing 4)
    ∷ Followed equipped_box
    ∷ Left 3
    ∷ Back equipped_box 3 0 None None (Leaving 0 1)
    ∷ Left 0
    ∷ []

-- Where the tag is refused, Storage_Error leaves the Initialize of B, and B has no value: nothing of it is finalized, and its words go back. Then the
-- exception leaves the main procedure.
abbrev pub unequipped_events : List Event
unequipped_events =
    Followed equipped_box
    ∷ Left 1
    ∷ Back equipped_box 3 0 None None (Undoing 2)
    ∷ Left 0
    ∷ []

-- The same first two types; and type Holder is new Controlled with record Head : Link; end record; which has number 2, is not limited, and overrides Adjust and
-- Finalize, by these procedures. A : Holder and B : Holder have numbers 0 and 1 in the main procedure.
abbrev pub duplicating_operations : Operations
duplicating_operations = record { initialize = None; adjust = Some (record { 0 = 0 }); finalize = Some (record { 0 = 1 }) }

-- procedure Adjust (H : in out Holder) is begin H.Head := new Cell'(Value => H.Head.Value); exception when others => H.Head := null; end Adjust;
abbrev pub duplicating_adjust : BodyForm
duplicating_adjust =
    operation_body 5 (a_stmt (assigns head_now (allocates 1 (item_of_value (reads value_now) ∷ []))) no_stmts)
    (a_handler (choice.Others ∷ []) (a_stmt (assigns head_now nothing) no_stmts) no_handlers)

-- procedure Finalize (H : in out Holder) is begin Free (H.Head); end Finalize;
abbrev pub duplicating_finalize : BodyForm
duplicating_finalize = operation_body 6 (a_stmt (frees 1 head_now) no_stmts) no_handlers

-- Both, in order.
abbrev pub duplicating_bodies : List BodyForm
duplicating_bodies = duplicating_adjust ∷ duplicating_finalize ∷ []

-- The record of type Holder that a variable is.
abbrev pub holder_in : (x : ℕ) → RecordPathForm
holder_in x = record { object = object_path x []; first = 0; part = 0; record_type = 2 }

-- A.Head := new Cell'(Value => 7); B := A;
abbrev pub duplicating_stmts : StmtsForm
duplicating_stmts =
    a_stmt (assigns head_now (allocates 1 (item_of_value (integer (pos 7)) ∷ [])))
    (a_stmt (assigns_record (holder_in 1) (item_of_record (holder_in 0) ∷ [])) no_stmts)

-- The object A.
abbrev pub object_a : Value
object_a = Names (record { 0 = 0 })

-- The object B.
abbrev pub object_b : Value
object_b = Names (record { 0 = 1 })

-- The cell that A owns.
abbrev pub cell_of_a : Value
cell_of_a = Names (record { 0 = 2 })

-- The cell that Adjust allocates, which B owns.
abbrev pub cell_of_b : Value
cell_of_b = Names (record { 0 = 3 })

-- A and B have their values, for which nothing is called, and A is followed where its Head is found as a target, and where that is written. The assignment
-- finds B and then A, and finalizes the value of B: the body of Finalize, a master of its own, follows B, frees nothing, since Head is null, and is left. Then
-- A is copied to B, whose Head names the cell of A now, until Adjust, a master of its own, has run: B is followed where its Head is found as a target, and once
-- more to where the cell of A is read, and where Head is written, which names a cell of its own now. So B has a value again. At the leaving of the main
-- procedure B is finalized: its Finalize frees the cell of B, and the words of B go back. Then A is finalized, whose cell is there still, and goes, and so do
-- the words of A. Nothing is left in the collection.
abbrev pub duplicating_events : List Event
duplicating_events =
    Born object_a 0 0 0 1 Creation
    ∷ Born object_b 0 0 0 2 Creation
    ∷ replicate 2 (Followed object_a)
    ++ Followed object_b
    ∷ Followed object_a
    ∷ Finalized object_b 0 0 0 2 (Assigning 1)
    ∷ Followed object_b
    ∷ Left 2
    ∷ Followed object_a
    ∷ Followed object_b
    ∷ replicate 2 (Followed object_b)
    ++ Followed cell_of_a
    ∷ Followed object_b
    ∷ Left 3
    ∷ Born object_b 0 1 0 3 (Adjustment 1)
    ∷ Finalized object_b 0 1 0 3 (Leaving 0 2)
    ∷ Followed object_b
    ∷ Back cell_of_b 1 2 (Some 0) None (Freeing 5)
    ∷ Followed object_b
    ∷ Left 4
    ∷ Back object_b 4 0 None None (Leaving 0 2)
    ∷ Finalized object_a 0 0 0 1 (Leaving 0 1)
    ∷ Followed object_a
    ∷ Back cell_of_a 1 1 (Some 0) None (Freeing 7)
    ∷ Followed object_a
    ∷ Left 6
    ∷ Back object_a 3 0 None None (Leaving 0 1)
    ∷ Left 0
    ∷ []

-- Where the cell is refused that Adjust allocates, the handler in its body takes Storage_Error: B is followed where its Head is found as a target, and where
-- that becomes null. So B has a value again all the same. Its Finalize finds null and frees nothing, and the cell of A goes as before.
abbrev pub duplicating_refused_events : List Event
duplicating_refused_events =
    Born object_a 0 0 0 1 Creation
    ∷ Born object_b 0 0 0 2 Creation
    ∷ replicate 2 (Followed object_a)
    ++ Followed object_b
    ∷ Followed object_a
    ∷ Finalized object_b 0 0 0 2 (Assigning 1)
    ∷ Followed object_b
    ∷ Left 2
    ∷ Followed object_a
    ∷ Followed object_b
    ∷ replicate 2 (Followed object_b)
    ++ Followed cell_of_a
    ∷ replicate 2 (Followed object_b)
    ++ Left 3
    ∷ Born object_b 0 1 0 3 (Adjustment 1)
    ∷ Finalized object_b 0 1 0 3 (Leaving 0 2)
    ∷ Followed object_b
    ∷ Left 4
    ∷ Back object_b 4 0 None None (Leaving 0 2)
    ∷ Finalized object_a 0 0 0 1 (Leaving 0 1)
    ∷ Followed object_a
    ∷ Back cell_of_a 1 1 (Some 0) None (Freeing 6)
    ∷ Followed object_a
    ∷ Left 5
    ∷ Back object_a 3 0 None None (Leaving 0 1)
    ∷ Left 0
    ∷ []

-- The same types and procedures, but that B : Holder, which has number 1 as before, is declared in a block, by the value of A.

-- A.Head := new Cell'(Value => 7); declare B : Holder := A; begin null; end;
abbrev pub copying_stmts : StmtsForm
copying_stmts =
    a_stmt (assigns head_now (allocates 1 (item_of_value (integer (pos 7)) ∷ [])))
    (a_stmt (encloses (declares_record 1 4 (Some (item_of_record (holder_in 0) ∷ [])) ∷ []) (a_stmt skips no_stmts) no_handlers) no_stmts)

-- The object B of the block; A is as before, and new_cell is the cell that it owns.
abbrev pub object_copy : Value
object_copy = Names (record { 0 = 2 })

-- The cell that Adjust allocates, which the object of the block owns.
abbrev pub cell_of_copy : Value
cell_of_copy = Names (record { 0 = 3 })

-- A has its value, for which nothing is called, and is followed where its Head is found as a target, and where that is written. The block is entered, and A is
-- followed where it is copied; Head of B names the cell of A now, until Adjust, a master of its own, has run, as above. So B has its value, as a copy. At the
-- leaving of the block B is finalized: its Finalize frees the cell of B, and the words of B go back. At that of the main procedure A is finalized, whose cell
-- is there still, and goes, and so do the words of A. Nothing is left in the collection.
abbrev pub copying_events : List Event
copying_events =
    Born object_a 0 0 0 1 Creation
    ∷ replicate 2 (Followed object_a)
    ++ Followed object_a
    ∷ replicate 2 (Followed object_copy)
    ++ Followed new_cell
    ∷ Followed object_copy
    ∷ Left 2
    ∷ Born object_copy 0 0 0 2 Copy
    ∷ Finalized object_copy 0 0 0 2 (Leaving 1 2)
    ∷ Followed object_copy
    ∷ Back cell_of_copy 1 2 (Some 0) None (Freeing 4)
    ∷ Followed object_copy
    ∷ Left 3
    ∷ Back object_copy 4 0 None None (Leaving 1 2)
    ∷ Left 1
    ∷ Finalized object_a 0 0 0 1 (Leaving 0 1)
    ∷ Followed object_a
    ∷ Back new_cell 1 1 (Some 0) None (Freeing 6)
    ∷ Followed object_a
    ∷ Left 5
    ∷ Back object_a 3 0 None None (Leaving 0 1)
    ∷ Left 0
    ∷ []

-- Where the cell is refused that Adjust allocates, its handler sets Head of B to null, and B has its value all the same. Its Finalize frees nothing.
abbrev pub copying_refused_events : List Event
copying_refused_events =
    Born object_a 0 0 0 1 Creation
    ∷ replicate 2 (Followed object_a)
    ++ Followed object_a
    ∷ replicate 2 (Followed object_copy)
    ++ Followed new_cell
    ∷ replicate 2 (Followed object_copy)
    ++ Left 2
    ∷ Born object_copy 0 0 0 2 Copy
    ∷ Finalized object_copy 0 0 0 2 (Leaving 1 2)
    ∷ Followed object_copy
    ∷ Left 3
    ∷ Back object_copy 4 0 None None (Leaving 1 2)
    ∷ Left 1
    ∷ Finalized object_a 0 0 0 1 (Leaving 0 1)
    ∷ Followed object_a
    ∷ Back new_cell 1 1 (Some 0) None (Freeing 5)
    ∷ Followed object_a
    ∷ Left 4
    ∷ Back object_a 3 0 None None (Leaving 0 1)
    ∷ Left 0
    ∷ []

-- The same first three types and the same procedures; and type Pair is record Left, Right : Holder; end record; which has number 3. A : Pair and B : Pair have
-- numbers 0 and 1 in the main procedure.

-- The collection of Link; A : Pair; B : Pair;
abbrev pub pairing_declarations : List DeclarationForm
pairing_declarations = collects 1 ∷ declares_record 0 4 None ∷ declares_record 1 7 None ∷ []

-- The record of type Pair that a variable is.
abbrev pub pair_in : (x : ℕ) → RecordPathForm
pair_in x = record { object = object_path x []; first = 0; part = 0; record_type = 3 }

-- A.Left.Head := new Cell'(Value => 7); A.Right.Head := new Cell'(Value => 8); B := A;
abbrev pub pairing_stmts : StmtsForm
pairing_stmts =
    a_stmt (assigns head_now (allocates 1 (item_of_value (integer (pos 7)) ∷ [])))
    (a_stmt (assigns (object_path 0 (1 ∷ [])) (allocates 1 (item_of_value (integer (pos 8)) ∷ [])))
    (a_stmt (assigns_record (pair_in 1) (item_of_record (pair_in 0) ∷ [])) no_stmts))

-- Adjust of a part of B is called, as a master of its own: it follows B where Head is found as a target, and to the cell that A owns, which it reads.
abbrev pub adjusts_part : (cell : ℕ) → List Event
adjusts_part cell = replicate 2 (Followed object_b) ++ Followed (Names (record { 0 = cell })) ∷ []

-- All parts have their values, for which nothing is called, and A is followed where each Head is found as a target, and where that is written. The assignment
-- finds B and then A, and finalizes the values of B, Right before Left: each body of Finalize, a master of its own, follows B, and frees nothing, since Head is
-- null. Then A is copied to B, where both Heads name the cells of A now.
abbrev pub pairing_begins : List Event
pairing_begins =
    Born object_a 0 0 0 1 Creation
    ∷ Born object_a 1 0 0 2 Creation
    ∷ Born object_b 0 0 0 3 Creation
    ∷ Born object_b 1 0 0 4 Creation
    ∷ replicate 4 (Followed object_a)
    ++ Followed object_b
    ∷ Followed object_a
    ∷ Finalized object_b 1 0 0 4 (Assigning 1)
    ∷ Followed object_b
    ∷ Left 2
    ∷ Finalized object_b 0 0 0 3 (Assigning 1)
    ∷ Followed object_b
    ∷ Left 3
    ∷ Followed object_a
    ∷ Followed object_b
    ∷ []

-- Right is adjusted first: its Head names a cell of its own then, while that of Left still names the cell of A, which is there when Left is adjusted. At the
-- leaving of the main procedure the parts of B are finalized, Right before Left, and free their cells, and the words of B go back. Then the parts of A are,
-- whose cells are there still, and go, and so do the words of A. Nothing is left in the collection.
abbrev pub pairing_events : List Event
pairing_events =
    pairing_begins
    ++ adjusts_part 3
    ++ Followed object_b
    ∷ Left 4
    ∷ Born object_b 1 1 0 5 (Adjustment 1)
    ∷ adjusts_part 2
    ++ Followed object_b
    ∷ Left 5
    ∷ Born object_b 0 1 0 6 (Adjustment 1)
    ∷ Finalized object_b 1 1 0 5 (Leaving 0 2)
    ∷ empties object_b 4 3 6
    ++ Finalized object_b 0 1 0 6 (Leaving 0 2)
    ∷ empties object_b 5 4 8
    ++ Back object_b 7 0 None None (Leaving 0 2)
    ∷ Finalized object_a 1 0 0 2 (Leaving 0 1)
    ∷ empties object_a 3 2 10
    ++ Finalized object_a 0 0 0 1 (Leaving 0 1)
    ∷ empties object_a 2 1 12
    ++ Back object_a 4 0 None None (Leaving 0 1)
    ∷ Left 0
    ∷ []

-- Where the cell is refused that Adjust allocates for Left, the handler in its body takes Storage_Error: B is followed where that Head is found as a target,
-- and where it becomes null. The Finalize of Left finds null and frees nothing, and all other cells go as before.
abbrev pub pairing_refused_events : List Event
pairing_refused_events =
    pairing_begins
    ++ adjusts_part 3
    ++ Followed object_b
    ∷ Left 4
    ∷ Born object_b 1 1 0 5 (Adjustment 1)
    ∷ adjusts_part 2
    ++ replicate 2 (Followed object_b)
    ++ Left 5
    ∷ Born object_b 0 1 0 6 (Adjustment 1)
    ∷ Finalized object_b 1 1 0 5 (Leaving 0 2)
    ∷ empties object_b 4 3 6
    ++ Finalized object_b 0 1 0 6 (Leaving 0 2)
    ∷ Followed object_b
    ∷ Left 8
    ∷ Back object_b 7 0 None None (Leaving 0 2)
    ∷ Finalized object_a 1 0 0 2 (Leaving 0 1)
    ∷ empties object_a 3 2 9
    ++ Finalized object_a 0 0 0 1 (Leaving 0 1)
    ∷ empties object_a 2 1 11
    ++ Back object_a 4 0 None None (Leaving 0 1)
    ∷ Left 0
    ∷ []

-- The rules let B := A; through (5.2) where both objects are there, though a component of the record that is assigned to is of an access type, and one of that
-- which is its item: both are of type Holder, whose Adjust is its own (7.6).
abbrev pub AssignsOwner : Program → Type 0
AssignsOwner program =
    IsLetThrough (types_of program) (variables_of program) (assigns_record (holder_in 1) (item_of_record (holder_in 0) ∷ [])) (Own Whole ∷ Own Whole ∷ [])
    × (HasNoAccess (record_components (types_of program) 2) → ⊥)

-- By what may be known of the operations, they let B : Holder := A; through (3.3.1), which is known by the type of number 4, where A is there.
abbrev pub DeclaresOwner : Program → Type 0
DeclaresOwner program =
    (implicit : Implicit) × (normal raising : Option Holds)
    × (declaration_flow (types_of program) (variables_of program) no_tracks implicit (declares_record 1 4 (Some (item_of_record (holder_in 0) ∷ []))) (Own Whole ∷ Lost ∷ []) ≡ goes normal raising)
    × (HasNoAccess (reached_components (types_of program) 4) → ⊥)

-- The types with one more, type Keep is access Holder; which has number 7.
abbrev pub with_keep : Program → List TypeForm
with_keep program = types_of program ++ access_to [] 2 None ∷ []

-- With these and K : Keep, which has number 2, they let K := new Holder'(A); through (4.8); it is not well formed, but for another reason: Holder is
-- controlled.
abbrev pub AllocatesOwner : Program → Type 0
AllocatesOwner program =
    IsLetThrough (with_keep program) (variables_of program ++ unnamed (variable.Access (record { 0 = 7 })) ∷ [])
    (assigns (example_path 2 []) (allocates 7 (item_of_record (holder_in 0) ∷ []))) (Own Whole ∷ Own Whole ∷ Null ∷ [])
    × (HasNoAccess (record_components (with_keep program) 2) → ⊥)

-- type Node is new Controlled with record Value : Integer; Next : Link; end record; which has number 0; type Link is access Node; which has number 1.
-- Head, Second : Link have the numbers 0 and 1 in the main procedure.

-- Node overrides Finalize, by this procedure.
abbrev pub node_operations : Operations
node_operations = record { initialize = None; adjust = None; finalize = Some (record { 0 = 0 }) }

-- Head := new Node; Second := new Node; Head.Next := Second;
abbrev pub two_nodes : StmtsForm
two_nodes =
    a_stmt (assigns (example_path 0 []) (allocates_default 1))
    (a_stmt (assigns (example_path 1 []) (allocates_default 1))
    (a_stmt (assigns (example_path 0 (1 ∷ [])) (value_of (example_path 1 []))) no_stmts))

-- The component Next of the formal parameter, N.
abbrev pub next_now : PathForm
next_now = object_path 0 (1 ∷ [])

-- X := N.Next; N.Next := null; Free (X); where X has number 1.
abbrev pub freeing_next : StmtsForm
freeing_next =
    a_stmt (assigns (example_path 1 []) (value_of next_now))
    (a_stmt (assigns next_now nothing)
    (a_stmt (frees 1 (example_path 1 [])) no_stmts))

-- procedure Finalize (N : in out Node) is X : Link; begin X := N.Next; N.Next := null; Free (X); end Finalize;
abbrev pub freeing_finalize : BodyForm
freeing_finalize = record (operation_body 2 freeing_next no_handlers) {
  variables = unnamed (variable.Record (record { 0 = 2 })) ∷ unnamed (variable.Access (record { 0 = 1 })) ∷ [];
  declarations = declares 1 nothing ∷ [];
}

-- procedure Finalize (N : in out Node) is begin if N.Next /= null then Put_Line (Integer'Image (N.Next.Value)); end if; exception when others => null;
-- end Finalize;
abbrev pub following_finalize : BodyForm
following_finalize =
    operation_body 2
    (a_stmt (chooses (a_branch (is_null false next_now) (a_stmt (writes (reads (object_path 0 (1 ∷ 0 ∷ [])))) no_stmts) (otherwise no_stmts))) no_stmts)
    (a_handler (choice.Others ∷ []) (a_stmt skips no_stmts) no_handlers)

-- The first node, which Head names, and the second one, which the first one names.
abbrev pub first_node : Value
first_node = Names (record { 0 = 0 })

-- The second one.
abbrev pub second_node : Value
second_node = Names (record { 0 = 1 })

-- Both nodes go with their collection. The second one is taken first: its Finalize finds null in its component, and it goes. Then the first one is
-- finalized, of which the component names the node that is gone. The Finalize that frees what the component names takes that out of it before.
abbrev pub freed_events : List Event
freed_events =
    Born first_node 0 0 0 1 Creation
    ∷ Born second_node 0 0 0 2 Creation
    ∷ replicate 2 (Followed first_node)
    ++ Finalized second_node 0 0 0 2 (Leaving 0 0)
    ∷ replicate 3 (Followed second_node)
    ++ Left 1
    ∷ Back second_node 1 2 (Some 0) None (Leaving 0 0)
    ∷ Finalized first_node 0 0 0 1 (Leaving 0 0)
    ∷ replicate 3 (Followed first_node)

-- The same, but that Next is of another type: type Cell is record Value : Integer; end record; has number 3; type Cell_Link is access Cell; has number 4, and
-- its collection is created behind that of Link. Second : Cell_Link.

-- Head := new Node; Second := new Cell; Head.Next := Second;
abbrev pub node_and_cell : StmtsForm
node_and_cell =
    a_stmt (assigns (example_path 0 []) (allocates_default 1))
    (a_stmt (assigns (example_path 1 []) (allocates_default 4))
    (a_stmt (assigns (example_path 0 (1 ∷ [])) (value_of (example_path 1 []))) no_stmts))

-- The cell goes with its collection, and then the node is finalized. The Finalize that follows the component finds that it is not null, and comes to the cell.
abbrev pub following_events : List Event
following_events =
    Born first_node 0 0 0 1 Creation
    ∷ replicate 2 (Followed first_node)
    ++ Back new_cell 4 2 (Some 0) None (Leaving 0 1)
    ∷ Finalized first_node 0 0 0 1 (Leaving 0 0)
    ∷ replicate 2 (Followed first_node)

-- procedure Finalize (N : in out Node) is begin Free (N.Next); end Finalize;
abbrev pub clearing_finalize : BodyForm
clearing_finalize = operation_body 2 (a_stmt (frees 4 next_now) no_stmts) no_handlers

-- So it is where this is Finalize: it is to free the cell, which is gone, before anything is told of the way there.
abbrev pub clearing_events : List Event
clearing_events =
    Born first_node 0 0 0 1 Creation
    ∷ replicate 2 (Followed first_node)
    ++ Back new_cell 4 2 (Some 0) None (Leaving 0 1)
    ∷ Finalized first_node 0 0 0 1 (Leaving 0 0)
    ∷ []

-- type Count is new Controlled with record N : Integer; end record; which has number 0. X : Count has number 0 in the main procedure, and is known by type 1,
-- and the formal parameter by type 2.

-- Count overrides Finalize, by this procedure.
abbrev pub escaping_operations : Operations
escaping_operations = record { initialize = None; adjust = None; finalize = Some (record { 0 = 0 }) }

-- procedure Finalize (C : in out Count) is begin raise Constraint_Error; end Finalize;
abbrev pub escaping_finalize : BodyForm
escaping_finalize = operation_body 2 (a_stmt (raises ConstraintError) no_stmts) no_handlers

-- X : Count;
abbrev pub escaping_declarations : List DeclarationForm
escaping_declarations = declares_record 0 1 None ∷ []

-- null;
abbrev pub escaping_stmts : StmtsForm
escaping_stmts = a_stmt skips no_stmts

-- X is initialized, for which nothing is called. At the leaving of the main procedure it is finalized: its Finalize raises the exception, which leaves the
-- body, a master of its own, and would come out of the Finalize (7.6.1). The words of X are out then.
abbrev pub escaping_events : List Event
escaping_events = Born object_x 0 0 0 1 Creation ∷ Finalized object_x 0 0 0 1 (Leaving 0 0) ∷ Left 1 ∷ []

-- procedure Finalize (C : in out Count) is D : Count; begin C := D; end Finalize; where D is known by type 3.
abbrev pub renewing_finalize : BodyForm
renewing_finalize = record (operation_body 2 (a_stmt (assigns_record (object_record 0) (item_of_record (object_record 1) ∷ [])) no_stmts) no_handlers) {
  variables = unnamed (variable.Record (record { 0 = 2 })) ∷ unnamed (variable.Record (record { 0 = 3 })) ∷ [];
  declarations = declares_record 1 3 None ∷ [];
}

-- So it is where this is Finalize: D is initialized, and before C gets its value it is to be finalized, which it has been already (5.2, 7.6.1).
abbrev pub renewing_events : List Event
renewing_events =
    Born object_x 0 0 0 1 Creation ∷ Finalized object_x 0 0 0 1 (Leaving 0 0) ∷ Born object_new 0 0 0 2 Creation ∷ Followed object_x ∷ Followed object_new ∷ []

-- Constraint_Error would come out where this operation is called for a record of the type of number 0 (7.6, 7.6.1).
abbrev pub WouldRaise : Operation → Program → Type 0
WouldRaise operation program = Does (program_form program) (Raises ConstraintError) (callee.Parts operation (record { 0 = 0 }))

-- The same, but without X: no object has controlled parts, so that nothing is finalized where the main procedure is left.
abbrev pub unfinalized_events : List Event
unfinalized_events = Left 0 ∷ []

-- The same with X, but that Count overrides Adjust in place of Finalize, by this procedure.
abbrev pub unadjusted_operations : Operations
unadjusted_operations = record { initialize = None; adjust = Some (record { 0 = 0 }); finalize = None }

-- procedure Adjust (C : in out Count) is begin raise Constraint_Error; end Adjust;
abbrev pub escaping_adjust : BodyForm
escaping_adjust = operation_body 2 (a_stmt (raises ConstraintError) no_stmts) no_handlers

-- X is initialized and finalized, for which nothing is called, and its words go back.
abbrev pub unadjusted_events : List Event
unadjusted_events =
    Born object_x 0 0 0 1 Creation ∷ Finalized object_x 0 0 0 1 (Leaving 0 0) ∷ Back object_x 1 0 None None (Leaving 0 0) ∷ Left 0 ∷ []

-- Head := new Node; Head.Next := new Node; Head.Next.Next := new Node;
abbrev pub three_nodes : StmtsForm
three_nodes =
    a_stmt (assigns (example_path 0 []) (allocates_default 1))
    (a_stmt (assigns (example_path 0 (1 ∷ [])) (allocates_default 1))
    (a_stmt (assigns (example_path 0 (1 ∷ 1 ∷ [])) (allocates_default 1)) no_stmts))

-- procedure Finalize (N : in out Node) is begin null; end Finalize;
abbrev pub silent_finalize : BodyForm
silent_finalize = operation_body 2 (a_stmt skips no_stmts) no_handlers

-- Of a state where a statement begins in the body of an operation that touches Integers and Booleans alone, while the third node is gone, which the second
-- one names: flow is not agreed with there.
abbrev pub DisagreesInside : Program → State → Type 0
DisagreesInside program s = BeginsStatement s × (NoOperationRuns s.control → ⊥) × RunsPlainly program s × (AgreesThere program s → ⊥)

-- Of a state where a statement begins in the body of an operation that touches storage: flow speaks of it.
abbrev pub IsSpokenOfInside : Program → State → Type 0
IsSpokenOfInside program s = BeginsStatement s × (NoOperationRuns s.control → ⊥) × IsSpokenOf program s
