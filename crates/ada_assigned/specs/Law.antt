-- Records with controlled parts that operations assign to as wholes (5.2, 7.6): an Initialize, an Adjust and a Finalize do so inside of their formal parameters, and
-- to record objects that they declare; and so do the procedures that they call, to those that these declare themselves.

use Rattle.std.specs.Prelude.{◌≡◌, ℕ, ℤ, Bool, true, false, not, ◌&&◌, ◌||◌, ◌==◌, nat_lt, length, List, [], ◌∷◌, Option, Some, None, is_some}
use Rattle.std.specs.List.{list_all, slice_get}
use Rattle.ada_parts.specs.Task.{Task}
use Rattle.ada_program.specs.declared.program.Finalization.{Finalization}
use Rattle.ada_program.specs.declared.program.ProcedureNo.{ProcedureNo}
use Rattle.ada_program.specs.declared.program.Program.{Program}
use Rattle.ada_program.specs.Form.{RecordPathForm, StmtForm, skips, assigns, assigns_record, frees, gets, writes, writes_text, chooses, repeats, counts, exits, calls, returns, raises, encloses, StmtsForm, no_stmts, a_stmt, BranchesForm, otherwise, a_branch, HandlersForm, no_handlers, a_handler}
use Rattle.ada_program.specs.ProgramForm.{TypeForm, BodyForm, ProgramForm, program_form}
use Rattle.ada_program.specs.WellFormed.{IsWellFormed, finalization_in, finalization_of}
use Rattle.ada_meaning.specs.declared.event.Cause.TheVariants.{Assigning}
use Rattle.ada_meaning.specs.declared.event.Halt.TheVariants.{Erroneous}
use Rattle.ada_meaning.specs.declared.event.Why.TheVariants.{FinalizesTwice}
use Rattle.ada_meaning.specs.declared.state.Id.{Id}
use Rattle.ada_meaning.specs.declared.state.Mode.TheVariants.{Running}
use Rattle.ada_meaning.specs.declared.state.Place.{Place}
use Rattle.ada_meaning.specs.declared.state.Value.{Value}
use Rattle.ada_meaning.specs.declared.state.Value.TheVariants.{Null, Names, Part}
use Rattle.ada_meaning.specs.Frame.{Frame, ends}
use Rattle.ada_meaning.specs.Frame as frame
use Rattle.ada_meaning.specs.Named.{State}
use Rattle.ada_meaning.specs.Run.{Event, Run, Halts, first_state}
use Rattle.ada_meaning.specs.Step.{first_or, older, operands}
use Rattle.ada_finalized.specs.Law.{NoOperationRunsOn, finalized_before, waits_for_operation}

-- Nothing is selected behind a variable (4.1).
abbrev pub is_empty : (selectors : List ℕ) → Bool
is_empty [] = true
is_empty (c ∷ cs) = false

-- A record lies in a record variable of an operation, and no access value is followed on the way (4.1). If that is the formal parameter, which is the first
-- variable, it is not that as a whole, and is of a type of which records may be assigned to there.
abbrev pub lies_at_hand : (within : ℕ → Bool) → RecordPathForm → Bool
lies_at_hand within target =
    target.object.of_record && is_empty target.object.selectors
    && (not (target.object.root == 0) || (within target.record_type && not (target.part == 0)))

-- A record lies in a record object that a body declares, with so many formal parameters, which are its first variables (6.1), and no access value is followed on
-- the way (4.1).
abbrev pub lies_beside : (formals : ℕ) → RecordPathForm → Bool
lies_beside formals target = target.object.of_record && is_empty target.object.selectors && not (nat_lt target.object.root formals)

-- The record types of the program, the records that a body may assign to, and the procedures that it may call.
module _ (types : List TypeForm) (may_assign : RecordPathForm → Bool) (may_call : (procedure : ℕ) → Bool) where
  abbrev mutual
    -- A statement assigns to no other records with controlled parts as wholes (5.2), and calls no other procedures (6.4).
    pub assigns_inside : StmtForm → Bool
    assigns_inside skips = true
    assigns_inside (assigns target right) = true
    assigns_inside (assigns_record target items) = not (is_some (finalization_of types target.record_type)) || may_assign target
    assigns_inside (frees access path) = true
    assigns_inside (gets target) = true
    assigns_inside (writes e) = true
    assigns_inside (writes_text text) = true
    assigns_inside (chooses branches) = branches_assign_inside branches
    assigns_inside (repeats condition fs spot) = all_assign_inside fs
    assigns_inside (counts x low high fs spot) = all_assign_inside fs
    assigns_inside (exits condition spot) = true
    assigns_inside (calls procedure actuals) = may_call procedure
    assigns_inside (returns spot) = true
    assigns_inside (raises e) = true
    assigns_inside (encloses ds fs hs) = all_assign_inside fs && handlers_assign_inside hs

    -- So it is with statements.
    pub all_assign_inside : StmtsForm → Bool
    all_assign_inside no_stmts = true
    all_assign_inside (a_stmt f fs) = assigns_inside f && all_assign_inside fs

    -- So it is with branches (5.3).
    pub branches_assign_inside : BranchesForm → Bool
    branches_assign_inside (otherwise fs) = all_assign_inside fs
    branches_assign_inside (a_branch e fs branches) = all_assign_inside fs && branches_assign_inside branches

    -- So it is with handlers (11.2).
    pub handlers_assign_inside : HandlersForm → Bool
    handlers_assign_inside no_handlers = true
    handlers_assign_inside (a_handler choices fs hs) = all_assign_inside fs && handlers_assign_inside hs

  -- So it is with a body.
  abbrev pub body_assigns_inside : BodyForm → Bool
  body_assigns_inside b = all_assign_inside b.statements && handlers_assign_inside b.handlers

-- The body of an operation that was found assigns to records at hand alone, and calls these procedures alone.
abbrev pub procedure_assigns_inside : List TypeForm → (within called : ℕ → Bool) → Option BodyForm → Bool
procedure_assigns_inside types within called None = true
procedure_assigns_inside types within called (Some b) = body_assigns_inside types (lies_at_hand within) called b

-- So it is with what overrides an operation, if one is overridden (7.6).
abbrev pub operation_assigns_inside : ProgramForm → (within called : ℕ → Bool) → Option ProcedureNo → Bool
operation_assigns_inside p within called None = true
operation_assigns_inside p within called (Some procedure) = procedure_assigns_inside p.types within called (slice_get p.bodies procedure.0)

-- So it is with each operation of a type: an Initialize, an Adjust and a Finalize assign so.
abbrev pub type_assigns_inside : ProgramForm → (within called : ℕ → Bool) → Option Finalization → Bool
type_assigns_inside p within called None = true
type_assigns_inside p within called (Some f) =
    operation_assigns_inside p within called f.operations.initialize && operation_assigns_inside p within called f.operations.adjust
    && operation_assigns_inside p within called f.operations.finalize

-- So it is with each operation of each type of a program.
abbrev pub operations_assign_inside : ProgramForm → (within called : ℕ → Bool) → Bool
operations_assign_inside p within called = list_all (λ t. type_assigns_inside p within called (finalization_in (Some t))) p.types

-- The body of a procedure that was found assigns to records in record objects that it declares alone, and calls these procedures alone.
abbrev pub procedure_assigns_beside : List TypeForm → (called : ℕ → Bool) → Option BodyForm → Bool
procedure_assigns_beside types called None = true
procedure_assigns_beside types called (Some b) = body_assigns_inside types (lies_beside (length b.formals)) called b

-- So does each of these procedures.
abbrev pub CalledAssignBeside : ProgramForm → (called : ℕ → Bool) → Type 0
CalledAssignBeside p called = (procedure : ℕ) → called procedure ≡ true → procedure_assigns_beside p.types called (slice_get p.bodies procedure) ≡ true

-- Behind the body that runs an operation waits for it (7.6); and where that is one of this object, no other operation of the object does.
abbrev pub RunsAlone : Value → List (Frame Value) → Type 0
RunsAlone v [] = ⊥
RunsAlone v (frame.Returns actuals references ∷ frame.Awaits w by done of part tasks ∷ k) = (w ≡ v → NoOperationRunsOn v k)
RunsAlone v (frame.Returns actuals references ∷ frame.Confines ∷ k) = (finalized_before k ≡ v → NoOperationRunsOn v k)
RunsAlone v (frame.Returns actuals references ∷ k) = ⊥
RunsAlone v (f ∷ k) = RunsAlone v k

-- In every run of a well-formed program whose operations assign so, whatever they call: while the body of an operation assigns to a record, and no other operation of the object of
-- that operation runs, if the record lies in that object, no value is finalized there that does not exist (7.6.1). Nor is one in any other object.
abbrev pub AssignmentsInsideStand : Type 0
AssignmentsInsideStand =
    (program : Program) → IsWellFormed (program_form program) → (within called : ℕ → Bool) → operations_assign_inside (program_form program) within called ≡ true
    → (input : List ℤ) (events : List Event) (last : State) → Run program (first_state program input) events last
    → (object : Value) (number : ℕ) (tasks : List Task) (first t : ℕ) (k : List (Frame Value))
    → last.control ≡ frame.Treats object (ends (Assigning number)) tasks ∷ frame.Copies first t ∷ k → RunsAlone object k
    → Halts program last (Erroneous FinalizesTwice) → ⊥

-- An operation waits first (7.6).
abbrev pub waits_first : List (Frame Value) → Bool
waits_first [] = false
waits_first (f ∷ k) = waits_for_operation f

-- The body that runs in front of this is that of an operation itself: one waits behind its end. Else it is one that is called (6.5).
abbrev pub is_of_operation : List (Frame Value) → Bool
is_of_operation [] = false
is_of_operation (frame.Returns actuals references ∷ k) = waits_first k
is_of_operation (f ∷ k) = is_of_operation k

-- So where the body of an operation itself assigns to a record of a type of which none is assigned to inside of a formal parameter, no operation runs of the
-- object in which that lies: the body declares it (3.3.1).
abbrev pub AssignmentsBesideRunAlone : Type 0
AssignmentsBesideRunAlone =
    (program : Program) → IsWellFormed (program_form program) → (within called : ℕ → Bool) → operations_assign_inside (program_form program) within called ≡ true
    → (input : List ℤ) (events : List Event) (last : State) → Run program (first_state program input) events last → last.mode ≡ Running
    → (record_type : ℕ) (k : List (Frame Value)) → last.control ≡ frame.Assigns record_type ∷ k → is_of_operation k ≡ true → within record_type ≡ false
    → (o : Id) (place : Place) → first_or Null (older (operands last)) ≡ Part o place → NoOperationRunsOn (Names o) k

-- And where the body of a procedure assigns to a record that is called, and these are what operations call, at any depth, no operation runs of the object in which
-- that lies, either: the body declares it.
abbrev pub CalledAssignmentsRunAlone : Type 0
CalledAssignmentsRunAlone =
    (program : Program) → IsWellFormed (program_form program) → (within called : ℕ → Bool) → operations_assign_inside (program_form program) within called ≡ true
    → CalledAssignBeside (program_form program) called
    → (input : List ℤ) (events : List Event) (last : State) → Run program (first_state program input) events last → last.mode ≡ Running
    → (record_type : ℕ) (k : List (Frame Value)) → last.control ≡ frame.Assigns record_type ∷ k → is_of_operation k ≡ false
    → (o : Id) (place : Place) → first_or Null (older (operands last)) ≡ Part o place → NoOperationRunsOn (Names o) k
