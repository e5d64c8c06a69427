-- What holds of each frame of what is left to do, and holds on behind each step: for that, the frames that hold text, and those that treat an object, are to lead to
-- frames of which it holds, and it is to hold of all others and of each body of the program.

use Rattle.std.proofs.Common.{◌≡◌, ℕ, ℤ, Bool, true, false, if◌then◌else◌, List, [], ◌∷◌, Option, Some, subst}
use Rattle.std.specs.List.{slice_get}
use Rattle.ada_program.specs.declared.program.TypeDefinition.{TypeDefinition}
use Rattle.ada_program.specs.declared.program.Exception.{Exception}
use Rattle.ada_program.specs.Form.{PathForm, RecordPathForm, ActualForm, ExpressionForm, ItemForm, RightForm, nothing, value_of, allocates, allocates_default, StmtForm, assigns, assigns_record, frees, chooses, repeats, counts, calls, encloses, StmtsForm, a_stmt, BranchesForm, otherwise, a_branch, HandlersForm, DeclarationForm, declares, declares_record}
use Rattle.ada_program.specs.Handling.{handler_of}
use Rattle.ada_program.specs.ProgramForm.{BodyForm}
use Rattle.ada_parts.specs.declared.tasks.Direction.TheVariants.{PartsFirst}
use Rattle.ada_parts.specs.Part.{Part}
use Rattle.ada_parts.specs.Task.{Task}
use Rattle.ada_text.specs.declared.spot.Spot.{Spot}
use Rattle.ada_meaning.specs.declared.event.Birth.{Birth}
use Rattle.ada_meaning.specs.declared.event.Birth.TheVariants.{Creation, Copy, Adjustment}
use Rattle.ada_meaning.specs.declared.event.Cause.{Cause}
use Rattle.ada_meaning.specs.declared.state.Value.{Value}
use Rattle.ada_meaning.specs.Frame.{Frame}
use Rattle.ada_meaning.specs.Frame as frame
use Rattle.ada_meaning.specs.Named.{State, Next}
use Rattle.ada_meaning.specs.Step.{has_parts, all_tasks}
use Rattle.ada_idle.proofs.Coming.{AllNext}

-- A frame leads to others like it alone: it holds no declarations, statements, handlers or allocators, frees and assigns no component, and treats no object.
abbrev pub is_plain : Frame Value → Bool
is_plain (frame.Elaborates ds fs hs) = false
is_plain (frame.Does fs) = false
is_plain (frame.Decides fs branches) = false
is_plain (frame.Repeats condition fs) = false
is_plain (frame.Turns condition fs) = false
is_plain (frame.Ranges x fs) = false
is_plain (frame.Counts x value last fs) = false
is_plain (frame.Handles hs) = false
is_plain (frame.Calls procedure b actuals) = false
is_plain (frame.Evaluates right) = false
is_plain (frame.Targets c right) = false
is_plain (frame.Creates access count) = false
is_plain (frame.FreesIn access c) = false
is_plain (frame.DeclaresRecord x t) = false
is_plain (frame.Assigns t) = false
is_plain (frame.Treats v treatment tasks) = false
is_plain (frame.Awaits v by done of part tasks) = false
is_plain f = true

module _ (Q : Frame Value → Type 0) where
  -- It holds of each of these frames.
  abbrev pub AllFrames : List (Frame Value) → Type 0
  AllFrames [] = Unit {0}
  AllFrames (f ∷ k) = Q f × AllFrames k

  -- It does of all that is left to do then, whatever comes next, and whatever is answered.
  abbrev pub AllFramesNext : Next → Type 0
  AllFramesNext = AllNext (λ (s : State). AllFrames s.control)

  -- It does of what is next in branches (5.3).
  abbrev pub BranchesHold : BranchesForm → Type 0
  BranchesHold (otherwise fs) = Q (frame.Does fs)
  BranchesHold (a_branch e fs branches) = Q (frame.Decides fs branches)

-- What takes an exception is the statements of a handler, or one behind it does (11.2).
pub handler_holds : (P : StmtsForm → Type 0) (takes : Bool) (gs fs : StmtsForm) (later : Option StmtsForm) → P gs → (later ≡ Some fs → P fs)
    → (if takes then Some gs else later) ≡ Some fs → P fs
handler_holds P true gs fs later one more taken = let same : gs ≡ fs = cc taken in subst P same one
handler_holds P false gs fs later one more taken = more taken

-- It holds of each frame to which one leads of which it holds, in a program of these types and bodies.
pub record IsClosed (types : List TypeDefinition) (bodies : List BodyForm) (Q : Frame Value → Type 0) : Type 0 where
  -- frames that lead to others like them alone
  pub plain : {f : Frame Value} → is_plain f ≡ true → Q f
  -- a body begins: that of a call, or of an operation (6.4, 7.6)
  pub begins_body : (procedure : ℕ) (b : BodyForm) → slice_get bodies procedure ≡ Some b → Q (frame.Elaborates b.declarations b.statements b.handlers)
  pub begins_call : (procedure : ℕ) (b : BodyForm) (actuals : List ActualForm) → Q (frame.Calls procedure b actuals)
      → Q (frame.Elaborates b.declarations b.statements b.handlers)
  -- declarations, and the statements behind them with their handlers (3.11)
  pub elaborated : (fs : StmtsForm) (hs : HandlersForm) → Q (frame.Elaborates [] fs hs) → Q (frame.Does fs) × Q (frame.Handles hs)
  pub elaborates_on : (d : DeclarationForm) (ds : List DeclarationForm) (fs : StmtsForm) (hs : HandlersForm) → Q (frame.Elaborates (d ∷ ds) fs hs)
      → Q (frame.Elaborates ds fs hs)
  pub declares_value : (x : ℕ) (right : RightForm) (ds : List DeclarationForm) (fs : StmtsForm) (hs : HandlersForm)
      → Q (frame.Elaborates (declares x right ∷ ds) fs hs) → Q (frame.Evaluates right)
  pub declares_copy : (x t : ℕ) (items : List ItemForm) (ds : List DeclarationForm) (fs : StmtsForm) (hs : HandlersForm)
      → Q (frame.Elaborates (declares_record x t (Some items) ∷ ds) fs hs) → Q (frame.DeclaresRecord x t)
  -- the first of some statements (5.1), by its form
  pub does_on : (f : StmtForm) (fs : StmtsForm) → Q (frame.Does (a_stmt f fs)) → Q (frame.Does fs)
  pub assigns_value : (target : PathForm) (right : RightForm) (fs : StmtsForm) → Q (frame.Does (a_stmt (assigns target right) fs)) → Q (frame.Evaluates right)
  pub assigns_in : (target : PathForm) (right : RightForm) (fs : StmtsForm) (c : ℕ) → Q (frame.Does (a_stmt (assigns target right) fs)) → Q (frame.Targets c right)
  pub assigns_parts : (target : RecordPathForm) (items : List ItemForm) (fs : StmtsForm) → Q (frame.Does (a_stmt (assigns_record target items) fs))
      → has_parts types target.record_type ≡ true → Q (frame.Assigns target.record_type)
  pub frees_in : (access : ℕ) (path : PathForm) (fs : StmtsForm) (c : ℕ) (cs : List ℕ) (last : ℕ) → Q (frame.Does (a_stmt (frees access path) fs))
      → path.selectors ≡ c ∷ cs → Q (frame.FreesIn access last)
  pub chooses_one : (branches : BranchesForm) (fs : StmtsForm) → Q (frame.Does (a_stmt (chooses branches) fs)) → BranchesHold Q branches
  pub begins_loop : (condition : Option ExpressionForm) (gs : StmtsForm) (spot : Spot) (fs : StmtsForm) → Q (frame.Does (a_stmt (repeats condition gs spot) fs))
      → Q (frame.Repeats condition gs)
  pub begins_count : (x : ℕ) (low high : ExpressionForm) (gs : StmtsForm) (spot : Spot) (fs : StmtsForm) → Q (frame.Does (a_stmt (counts x low high gs spot) fs))
      → Q (frame.Ranges x gs)
  pub calls_body : (procedure : ℕ) (actuals : List ActualForm) (b : BodyForm) (fs : StmtsForm) → Q (frame.Does (a_stmt (calls procedure actuals) fs))
      → slice_get bodies procedure ≡ Some b → Q (frame.Calls procedure b actuals)
  pub begins_block : (ds : List DeclarationForm) (gs : StmtsForm) (hs : HandlersForm) (fs : StmtsForm) → Q (frame.Does (a_stmt (encloses ds gs hs) fs))
      → Q (frame.Elaborates ds gs hs)
  -- branches, loops and handlers (5.3, 5.5, 11.2)
  pub decides : (fs : StmtsForm) (branches : BranchesForm) → Q (frame.Decides fs branches) → Q (frame.Does fs) × BranchesHold Q branches
  pub repeats_once : (condition : Option ExpressionForm) (fs : StmtsForm) → Q (frame.Repeats condition fs) → Q (frame.Does fs)
  pub tests_turn : (e : ExpressionForm) (fs : StmtsForm) → Q (frame.Repeats (Some e) fs) → Q (frame.Turns e fs)
  pub turns_on : (e : ExpressionForm) (fs : StmtsForm) → Q (frame.Turns e fs) → Q (frame.Repeats (Some e) fs)
  pub counts_from : (x : ℕ) (low high : ℤ) (fs : StmtsForm) → Q (frame.Ranges x fs) → Q (frame.Counts x low high fs)
  pub counts_once : (x : ℕ) (value last : ℤ) (fs : StmtsForm) → Q (frame.Counts x value last fs) → Q (frame.Does fs)
  pub counts_on : (x : ℕ) (value last next : ℤ) (fs : StmtsForm) → Q (frame.Counts x value last fs) → Q (frame.Counts x next last fs)
  pub handles : (e : Exception) (hs : HandlersForm) (fs : StmtsForm) → Q (frame.Handles hs) → handler_of e hs ≡ Some fs → Q (frame.Does fs)
  -- what is assigned, or given to a formal parameter (5.2, 6.4.1)
  pub evaluates_nothing : Q (frame.Evaluates nothing)
  pub evaluates_path : (path : PathForm) → Q (frame.Evaluates (value_of path))
  pub targets : (c : ℕ) (right : RightForm) → Q (frame.Targets c right) → Q (frame.Evaluates right)
  pub creates_filled : (access count : ℕ) (items : List ItemForm) → Q (frame.Evaluates (allocates access items)) → Q (frame.Creates access count)
  pub creates_default : (access count : ℕ) → Q (frame.Evaluates (allocates_default access)) → Q (frame.Creates access count)
  -- objects are treated (7.6, 7.6.1)
  pub ends_any : (v : Value) (cause : Cause) (tasks : List Task) → Q (frame.Treats v (frame.ends cause) tasks)
  pub creates_any : (v : Value) (tasks : List Task) → Q (frame.Treats v (frame.begins Creation []) tasks)
  pub copies_parts : (x t : ℕ) (v : Value) (task : Task) (tasks : List Task) → Q (frame.DeclaresRecord x t) → all_tasks types t PartsFirst ≡ task ∷ tasks
      → Q (frame.Treats v (frame.begins Copy []) (task ∷ tasks))
  pub adjusts : (t : ℕ) (v : Value) (number : ℕ) (tasks : List Task) → Q (frame.Assigns t) → Q (frame.Treats v (frame.begins (Adjustment number) []) tasks)
  pub treats_on : (v : Value) (by : Birth) (done later : List Part) (tasks rest : List Task) → Q (frame.Treats v (frame.begins by done) tasks)
      → Q (frame.Treats v (frame.begins by later) rest)
  pub awaits : (v : Value) (by : Birth) (done : List Part) (of part : ℕ) (tasks rest : List Task) → Q (frame.Treats v (frame.begins by done) tasks)
      → Q (frame.Awaits v by done of part rest)
  pub awaited : (v : Value) (by : Birth) (done later : List Part) (of part : ℕ) (tasks rest : List Task) → Q (frame.Awaits v by done of part tasks)
      → Q (frame.Treats v (frame.begins by later) rest)
