-- What is left to do, where bodies of operations assign to records with controlled parts inside of their formal parameters alone, or in record objects that they
-- declare, and what they call to such ones alone that it declares itself (5.2, 7.6): the invariant of this crate over the frames.

use Rattle.std.proofs.Common.{◌≡◌, ℕ, ◌+◌, ◌<◌, ◌≤◌, Bool, true, false, ◌&&◌, ◌||◌, List, [], ◌∷◌, length, Some, refl, ◌⊎◌}
use Rattle.std.specs.List.{slice_get, Contains}
use Rattle.std.proofs.lemmas.Bool.{and_from}
use Rattle.ada_program.specs.declared.program.TypeDefinition.{TypeDefinition}
use Rattle.ada_program.specs.Controlled.{number_of, operations_of, procedure_number, shapes_of}
use Rattle.ada_program.specs.Form.{RecordPathForm, ActualForm, StmtForm, skips, assigns, assigns_record, frees, gets, writes, writes_text, chooses, repeats, counts, exits, calls, returns, raises, encloses, StmtsForm, no_stmts, a_stmt, BranchesForm, otherwise, a_branch, HandlersForm, no_handlers, a_handler}
use Rattle.ada_program.specs.ProgramForm.{BodyForm}
use Rattle.ada_parts.specs.Shape.{parts_of}
use Rattle.ada_parts.specs.Part.{numbers, LiesIn}
use Rattle.ada_parts.specs.Task.{Task}
use Rattle.ada_parts.specs.Law.{parts_left}
use Rattle.ada_meaning.specs.declared.event.Birth.{Birth}
use Rattle.ada_meaning.specs.declared.event.Birth.TheVariants.{Adjustment}
use Rattle.ada_meaning.specs.declared.state.Id.{Id}
use Rattle.ada_meaning.specs.declared.state.Place.{Place}
use Rattle.ada_meaning.specs.declared.state.Value.{Value}
use Rattle.ada_meaning.specs.declared.state.Value.TheVariants.{Part as Inside}
use Rattle.ada_meaning.specs.Frame.{Frame}
use Rattle.ada_meaning.specs.Frame as frame
use Rattle.ada_meaning.specs.State.{Activation}
use Rattle.ada_meaning.specs.Named.{State, Next}
use Rattle.ada_meaning.specs.Step.{has_parts, parts_for, treating, places_of, procedure_of, beginning as begun_by}
use Rattle.ada_formals.specs.Formals.{finalized_before, left_to_finalize}
use Rattle.ada_formals.proofs.Standing.{ends_operation}
use Rattle.ada_finalized.specs.Law.{NoOperationRunsOn}
use Rattle.ada_typed.proofs.Kept.{Each}
use Rattle.ada_declared.specs.Declared.{StandsApart, formals_given}

-- What is left to do behind the running body (6.5).
abbrev pub behind_body : List (Frame Value) → List (Frame Value)
behind_body [] = []
behind_body (frame.Returns actuals references ∷ k) = k
behind_body (f ∷ k) = behind_body k

-- How many actual parameters it was given (6.4.1).
abbrev pub given_behind : List (Frame Value) → ℕ
given_behind [] = 0
given_behind (frame.Returns actuals references ∷ k) = length actuals
given_behind (f ∷ k) = given_behind k

-- Behind a body an operation waits.
abbrev pub runs_operation : List (Frame Value) → Bool
runs_operation [] = false
runs_operation (frame.Returns actuals references ∷ k) = ends_operation k || runs_operation k
runs_operation (f ∷ k) = runs_operation k

-- So it does for the running body, or behind that.
pub runs_behind : (k : List (Frame Value)) → runs_operation k ≡ true → (ends_operation (behind_body k) || runs_operation (behind_body k)) ≡ true
runs_behind [] is = absurd (cc is)
runs_behind (frame.Returns actuals references ∷ k) is = is
runs_behind (f ∷ k) is = runs_behind k is

-- What a body may assign to as a whole (5.2), and what it may call with these actual parameters (6.4).
pub record Allows : Type 1 where
  pub assigned : RecordPathForm → Type 0
  pub called : (procedure : ℕ) → List ActualForm → Type 0

-- Anything.
abbrev pub anything : Allows
anything = record { assigned = λ target. Unit {0}; called = λ procedure actuals. Unit {0} }

-- This, or anything.
abbrev pub whenever : Bool → Allows → Allows
whenever true P = P
whenever false P = anything

-- It allows all.
abbrev pub AllowsAll : Allows → Type 0
AllowsAll P = ((target : RecordPathForm) → P.assigned target) × ((procedure : ℕ) (actuals : List ActualForm) → P.called procedure actuals)

-- A statement assigns to such records alone as wholes, and calls so, at any depth.
module _ (P : Allows) where
  abbrev mutual
    pub StmtAssigns : StmtForm → Type 0
    StmtAssigns skips = Unit {0}
    StmtAssigns (assigns target right) = Unit {0}
    StmtAssigns (assigns_record target items) = P.assigned target
    StmtAssigns (frees access path) = Unit {0}
    StmtAssigns (gets target) = Unit {0}
    StmtAssigns (writes e) = Unit {0}
    StmtAssigns (writes_text text) = Unit {0}
    StmtAssigns (chooses branches) = BranchesAssign branches
    StmtAssigns (repeats condition fs end_spot) = StmtsAssign fs
    StmtAssigns (counts x low high fs end_spot) = StmtsAssign fs
    StmtAssigns (exits condition spot) = Unit {0}
    StmtAssigns (calls procedure actuals) = P.called procedure actuals
    StmtAssigns (returns spot) = Unit {0}
    StmtAssigns (raises e) = Unit {0}
    StmtAssigns (encloses ds fs hs) = StmtsAssign fs × HandlersAssign hs

    -- So it is with statements.
    pub StmtsAssign : StmtsForm → Type 0
    StmtsAssign no_stmts = Unit {0}
    StmtsAssign (a_stmt f fs) = StmtAssigns f × StmtsAssign fs

    -- So it is with branches (5.3).
    pub BranchesAssign : BranchesForm → Type 0
    BranchesAssign (otherwise fs) = StmtsAssign fs
    BranchesAssign (a_branch e fs branches) = StmtsAssign fs × BranchesAssign branches

    -- So it is with handlers (11.2).
    pub HandlersAssign : HandlersForm → Type 0
    HandlersAssign no_handlers = Unit {0}
    HandlersAssign (a_handler choices fs hs) = StmtsAssign fs × HandlersAssign hs

  -- So it is with a body.
  abbrev pub BodyAssigns : BodyForm → Type 0
  BodyAssigns b = StmtsAssign b.statements × HandlersAssign b.handlers

  -- Where all may be assigned and called, so it is with all.
  mutual
    any_stmt : AllowsAll P → (f : StmtForm) → StmtAssigns f
    any_stmt any skips = tt
    any_stmt any (assigns target right) = tt
    any_stmt any (assigns_record target items) = any.0 target
    any_stmt any (frees access path) = tt
    any_stmt any (gets target) = tt
    any_stmt any (writes e) = tt
    any_stmt any (writes_text text) = tt
    any_stmt any (chooses branches) = any_branches any branches
    any_stmt any (repeats condition fs end_spot) = any_stmts any fs
    any_stmt any (counts x low high fs end_spot) = any_stmts any fs
    any_stmt any (exits condition spot) = tt
    any_stmt any (calls procedure actuals) = any.1 procedure actuals
    any_stmt any (returns spot) = tt
    any_stmt any (raises e) = tt
    any_stmt any (encloses ds fs hs) = (any_stmts any fs, any_handlers any hs)

    any_stmts : AllowsAll P → (fs : StmtsForm) → StmtsAssign fs
    any_stmts any no_stmts = tt
    any_stmts any (a_stmt f fs) = (any_stmt any f, any_stmts any fs)

    any_branches : AllowsAll P → (branches : BranchesForm) → BranchesAssign branches
    any_branches any (otherwise fs) = any_stmts any fs
    any_branches any (a_branch e fs branches) = (any_stmts any fs, any_branches any branches)

    any_handlers : AllowsAll P → (hs : HandlersForm) → HandlersAssign hs
    any_handlers any no_handlers = tt
    any_handlers any (a_handler choices fs hs) = (any_stmts any fs, any_handlers any hs)

  pub any_body : AllowsAll P → (b : BodyForm) → BodyAssigns b
  any_body any b = (any_stmts any b.statements, any_handlers any b.handlers)

-- A record lies in the formal parameter of an operation: no access value is followed on the way (4.1), and its controlled parts are behind the first (7.6).
pub record IsAtHand (target : RecordPathForm) : Type 0 where
  pub in_formal : target.object.root ≡ 0
  pub at_hand : target.object.selectors ≡ []
  pub behind : 0 < target.part

-- A record lies inside of the formal parameter of an operation of a type of this number: no access value is followed on the way (4.1), and its controlled parts
-- are among those behind the first (7.6).
pub record IsInner (types : List TypeDefinition) (of : ℕ) (target : RecordPathForm) : Type 0 where
  pub in_formal : target.object.root ≡ 0
  pub at_hand : target.object.selectors ≡ []
  pub behind : 0 < target.part
  pub within :
      0 < parts_for (shapes_of types) (number_of types (Some target.record_type))
      → target.part + parts_for (shapes_of types) (number_of types (Some target.record_type)) ≤ parts_of (shapes_of types) of

-- A record lies in a record object that a body declares, with so many formal parameters (3.3.1, 6.1): no access value is followed on the way.
pub record IsBeside (formals : ℕ) (target : RecordPathForm) : Type 0 where
  pub of_record : target.object.of_record ≡ true
  pub at_hand : target.object.selectors ≡ []
  pub beside : formals ≤ target.object.root

-- What is told of a program: of which types records are assigned to inside of formal parameters, which procedures operations call, at any depth, how many formal
-- parameters each procedure has, and whether it is known what they call.
pub record Told : Type 0 where
  pub within : ℕ → Bool
  pub called : ℕ → Bool
  pub formals : ℕ → ℕ
  pub watched : Bool

module _ (types : List TypeDefinition) (told : Told) where
  -- Where it is known what is called, it is one of these procedures, with no more actual parameters than it has formal ones.
  abbrev pub Calls : (procedure : ℕ) → List ActualForm → Type 0
  Calls procedure actuals = told.watched ≡ true → (told.called procedure ≡ true) × (length actuals ≤ told.formals procedure)

  -- What a body assigns to and calls that is called to begin a part of a type of this number (7.6): what has controlled parts is inside, or lies
  -- in another variable.
  abbrev pub InBeginning : (of : ℕ) → Allows
  InBeginning of = record {
    assigned = λ target. has_parts types target.record_type ≡ true → ((told.within target.record_type ≡ true) × IsInner types of target) ⊎ IsBeside 1 target;
    called = Calls;
  }

  -- What a body of a Finalize does (7.6.1).
  abbrev pub InEnding : Allows
  InEnding = record {
    assigned = λ target. has_parts types target.record_type ≡ true → ((told.within target.record_type ≡ true) × IsAtHand target) ⊎ IsBeside 1 target;
    called = Calls;
  }

  -- What a body does that is called with so many actual parameters.
  abbrev pub InCalled : (given : ℕ) → Allows
  InCalled given = record { assigned = λ target. has_parts types target.record_type ≡ true → IsBeside given target; called = Calls }

  -- What a body does, by how many actual parameters it was given, and by what is left to do behind it.
  abbrev pub Assignable : (given : ℕ) → (behind : List (Frame Value)) → Allows
  Assignable given (frame.Awaits v by done of part tasks ∷ k) = InBeginning of
  Assignable given (frame.Confines ∷ k) = InEnding
  Assignable given k = whenever (told.watched && runs_operation k) (InCalled given)

  -- What is called where an operation runs.
  module _ (procedure : ℕ) (actuals : List ActualForm) (watched : told.watched ≡ true) where
    by_watch : (given : ℕ) (known : Bool) → known ≡ true → (whenever known (InCalled given)).called procedure actuals
        → (told.called procedure ≡ true) × (length actuals ≤ told.formals procedure)
    by_watch given true is own = own watched
    by_watch given false is own = absurd (cc is)

    pub called_known : (given : ℕ) (k : List (Frame Value)) → (ends_operation k || runs_operation k) ≡ true → (Assignable given k).called procedure actuals
        → (told.called procedure ≡ true) × (length actuals ≤ told.formals procedure)
    called_known given [] runs own = absurd (cc runs)
    called_known given (frame.Awaits v by done of part tasks ∷ k) runs own = own watched
    called_known given (frame.Confines ∷ k) runs own = own watched
    called_known given (f ∷ k) runs own = by_watch given (told.watched && runs_operation (f ∷ k)) (and_from told.watched (runs_operation (f ∷ k)) watched runs) own

  -- Where a body is called, it does what it may.
  module _ (given : ℕ) (b : BodyForm) where
    when_watched : (known : Bool) → (known ≡ true → BodyAssigns (InCalled given) b) → BodyAssigns (whenever known (InCalled given)) b
    when_watched true own = own refl
    when_watched false own = any_body anything (λ target. tt, λ procedure actuals. tt) b

    pub assigns_called : (k : List (Frame Value)) → ends_operation k ≡ false → ((told.watched && runs_operation k) ≡ true → BodyAssigns (InCalled given) b)
        → BodyAssigns (Assignable given k) b
    assigns_called [] none own = when_watched (told.watched && false) own
    assigns_called (frame.Awaits v by done of part tasks ∷ k) none own = absurd (cc)
    assigns_called (frame.Confines ∷ k) none own = absurd (cc)
    assigns_called (f ∷ k) none own = when_watched (told.watched && runs_operation (f ∷ k)) own

module _ (types : List TypeDefinition) where
  -- All that is left of a treatment of an object lies in the part that the body is called for, in front of what is left to do; or it is left to be finalized there.
  abbrev pub LiesInOperated : (behind : List (Frame Value)) → Value → List Task → Type 0
  LiesInOperated (frame.Awaits v by done of part tasks ∷ k) w left =
      (v ≡ w) × ((n : ℕ) → Contains (numbers (parts_left (shapes_of types) left)) n → LiesIn (shapes_of types) n (record { of = of; number = part }))
  LiesInOperated (frame.Confines ∷ k) w left =
      (finalized_before k ≡ w)
      × ((n : ℕ) → Contains (numbers (parts_left (shapes_of types) left)) n → Contains (numbers (parts_left (shapes_of types) (left_to_finalize k))) n)
  LiesInOperated k w left = Unit {0}

  -- Or no operation of the object is awaited there.
  abbrev pub LiesSafely : (behind : List (Frame Value)) → Value → List Task → Type 0
  LiesSafely k w left = LiesInOperated k w left ⊎ NoOperationRunsOn w k

  -- Where a record is copied, an allocator goes on; or an assignment does (5.2): then the record is stored, and the parts to be adjusted lie
  -- so.
  abbrev pub CopiesFor : List (Frame Value) → Type 0
  CopiesFor (frame.Fills items ∷ k) = Unit {0}
  CopiesFor k =
      (o : Value) × (number : ℕ) × (to : ℕ) × (width : ℕ) × (left : List Task) × (fs : StmtsForm) × (later : List (Frame Value))
      × (k ≡ frame.StoresRecord o to width ∷ treating o (frame.begins (Adjustment number) []) left (frame.Does fs ∷ later))
      × LiesSafely (behind_body later) o left

module _ (types : List TypeDefinition) (told : Told) where
  -- A frame, and what is behind it: it assigns so. No assignment has found its records.
  abbrev pub FrameAssigns : Frame Value → (behind : List (Frame Value)) → Type 0
  FrameAssigns (frame.Elaborates ds fs hs) k = StmtsAssign (Assignable types told (given_behind k) (behind_body k)) fs × HandlersAssign (Assignable types told (given_behind k) (behind_body k)) hs
  FrameAssigns (frame.Does fs) k = StmtsAssign (Assignable types told (given_behind k) (behind_body k)) fs
  FrameAssigns (frame.Decides fs branches) k = StmtsAssign (Assignable types told (given_behind k) (behind_body k)) fs × BranchesAssign (Assignable types told (given_behind k) (behind_body k)) branches
  FrameAssigns (frame.Repeats condition fs) k = StmtsAssign (Assignable types told (given_behind k) (behind_body k)) fs
  FrameAssigns (frame.Turns condition fs) k = StmtsAssign (Assignable types told (given_behind k) (behind_body k)) fs
  FrameAssigns (frame.Ranges x fs) k = StmtsAssign (Assignable types told (given_behind k) (behind_body k)) fs
  FrameAssigns (frame.Counts x value last fs) k = StmtsAssign (Assignable types told (given_behind k) (behind_body k)) fs
  FrameAssigns (frame.Handles hs) k = HandlersAssign (Assignable types told (given_behind k) (behind_body k)) hs
  FrameAssigns (frame.Calls procedure b actuals) k = (ends_operation k ≡ false) × BodyAssigns (Assignable types told (length actuals) k) b
  FrameAssigns (frame.Copies first t) k = CopiesFor types k
  FrameAssigns (frame.Assigns t) k = ⊥
  FrameAssigns f k = Unit {0}

  -- So it is with all that is left to do.
  abbrev pub Keeps : List (Frame Value) → Type 0
  Keeps [] = Unit {0}
  Keeps (f ∷ k) = FrameAssigns f k × Keeps k

  -- So it is whatever comes next, and whatever is answered.
  abbrev pub AllKeep : Next → Type 0
  AllKeep = Each (λ (s : State). Keeps s.control)

-- The object stands apart of the operation that waits there, if records of this type are assigned to inside of no formal parameter; or of those that run behind a
-- body that is called.
abbrev pub ApartBeside : Told → (behind : List (Frame Value)) → (record_type : ℕ) → Value → Type 0
ApartBeside told k t w =
    (ends_operation k ≡ true → told.within t ≡ false → NoOperationRunsOn w k)
    × (ends_operation k ≡ false → (told.watched && runs_operation k) ≡ true → NoOperationRunsOn w k)

module _ (types : List TypeDefinition) where
  -- The controlled parts of a record that lies in one of a type of this number are among those of that (7.6).
  abbrev pub IsWithin : (of : ℕ) → RecordPathForm → Type 0
  IsWithin of target =
      0 < parts_for (shapes_of types) (number_of types (Some target.record_type))
      → target.part + parts_for (shapes_of types) (number_of types (Some target.record_type)) ≤ parts_of (shapes_of types) of

  -- Where a record in the formal parameter of an operation is to be found next, and the running body is that of Finalize of a type, it lies in that of this type.
  abbrev pub EndsInside : List (Frame Value) → List (Activation Value) → Type 0
  EndsInside k acts =
      (target : RecordPathForm) (outer : List (Frame Value)) (o : Id) (base : Place) (of : ℕ) → k ≡ frame.Refers target ∷ outer
      → ends_operation (behind_body outer) ≡ true → IsAtHand target → slice_get (places_of acts) 0 ≡ Some (Inside o base)
      → procedure_number (operations_of types of).finalize ≡ procedure_of acts → IsWithin of target

  -- Where a record in a record object that a body declares is to be found next, and an operation runs, none that is awaited is of the object in which it lies.
  abbrev pub DeclaresBeside : List (Frame Value) → List (Activation Value) → Type 0
  DeclaresBeside k acts =
      (target : RecordPathForm) (outer : List (Frame Value)) (v : Value) → k ≡ frame.Refers target ∷ outer
      → (ends_operation (behind_body outer) || runs_operation (behind_body outer)) ≡ true
      → IsBeside (formals_given (given_behind outer) (behind_body outer)) target → slice_get (places_of acts) target.object.root ≡ Some v
      → StandsApart v (behind_body outer)

-- What overrides operations assigns so (7.6), and so does what they call.
pub record OperationsAssign (types : List TypeDefinition) (told : Told) (bodies : List BodyForm) : Type 0 where
  pub beginning :
      (by : Birth) (of procedure : ℕ) → begun_by by (operations_of types of) ≡ Some procedure → (b : BodyForm) → slice_get bodies procedure ≡ Some b
      → BodyAssigns (InBeginning types told of) b
  pub ending :
      (of procedure : ℕ) → procedure_number (operations_of types of).finalize ≡ Some procedure → (b : BodyForm) → slice_get bodies procedure ≡ Some b
      → BodyAssigns (InEnding types told) b
  pub calling :
      told.watched ≡ true → (procedure : ℕ) (b : BodyForm) → told.called procedure ≡ true → slice_get bodies procedure ≡ Some b → (given : ℕ)
      → given ≤ told.formals procedure → BodyAssigns (InCalled types told given) b
