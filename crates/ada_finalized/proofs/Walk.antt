-- Each step that takes no frame of a treatment or of an ending.

use Rattle.std.proofs.Common.{◌≡◌, ℕ, Bool, true, false, List, [], ◌∷◌, Option, Some, None, refl, sym, subst}
use Rattle.std.specs.List.{slice_index_or}
use Rattle.ada_program.specs.declared.program.TypeDefinition.{TypeDefinition}
use Rattle.ada_program.specs.Form.{StmtsForm, no_stmts, a_stmt}
use Rattle.ada_program.specs.Handling.{handler_of}
use Rattle.ada_program.specs.ProgramForm.{BodyForm}
use Rattle.ada_program.specs.Typed.{words_of, width_of}
use Rattle.ada_meaning.specs.declared.state.Value.{Value}
use Rattle.ada_meaning.specs.declared.state.Value.TheVariants.{Null}
use Rattle.ada_meaning.specs.declared.state.Mode.{Mode}
use Rattle.ada_meaning.specs.declared.state.Mode.TheVariants.{Running, Raising, Exiting, Returning}
use Rattle.ada_meaning.specs.declared.event.Birth.TheVariants.{Copy}
use Rattle.ada_meaning.specs.declared.event.Cause.{Cause}
use Rattle.ada_meaning.specs.declared.event.Cause.TheVariants.{Leaving}
use Rattle.ada_meaning.specs.Frame.{Frame, evaluating, begins, is_master, Landing, passes_on, goes_behind, goes_in, breaks_off, escapes, handler_landing, landing}
use Rattle.ada_meaning.specs.Frame as frame
use Rattle.ada_meaning.specs.State.{Owned, declared, collection, record_object, storage_pool, Item, Master, home_of}
use Rattle.ada_meaning.specs.Step.{unwound, newest_ones, without_newest, at, popped, newest, members_next, item_leave_next, master_leave_next, leave_next, frame_next, landed, pass_next, jump_next}
use Rattle.ada_meaning.specs.Named.{State, named, look, reads_boolean, reads_null, reads_integer, unary_given, binary_given, members}
use Rattle.ada_meaning.proofs.Kept.{IsWithin}
use Rattle.ada_meaning.proofs.Members.{member_listed}
use Rattle.ada_finalized.proofs.Doings.{number_of, Calm}
use Rattle.ada_finalized.proofs.Stacks.{Control}
use Rattle.ada_finalized.proofs.Made.{keeps, takes, Does, Passes}
use Rattle.ada_finalized.proofs.Evaluations.{path_does, record_holder_does, expression_does, null_test_does, links_do, outcome_does, items_do, copies_do, new_does, right_does}
use Rattle.ada_finalized.proofs.Statements.{target_does, store_does, record_target_does, store_record_does, free_in_does, decided_does, repeats_do, turned_does, counts_do, ranges_do, receive_does, exited_does, refers_do, open_does, opens_do, stmts_do, line_does, made_does, declarations_do}

module _ (types : List TypeDefinition) where
  -- The leaving of a master.
  members_do : (item : ℕ) (cause : Cause) (pool : Option ℕ) (vs : List Value) (s : State) → number_of cause ≡ None → members s.heap item ≡ vs → Does types s (members_next named types cause pool vs s)
  members_do item cause pool [] s own is = (tt, keeps refl refl)
  members_do item cause pool (v ∷ vs) s own is =
      λ i lt. (tt, takes (slice_index_or (v ∷ vs) i Null) cause pool s own (member_listed s.heap item (v ∷ vs) i is lt) refl refl refl refl)

  item_leave_does : (m : ℕ) (item : Item) (owned : Owned) (s : State) → Does types s (item_leave_next named types m item owned s)
  item_leave_does m item (declared x) s = (tt, keeps refl refl)
  item_leave_does m item (collection access pool) s = members_do item.number (Leaving m item.number) pool (members s.heap item.number) s refl refl
  item_leave_does m item (record_object t) s = members_do item.number (Leaving m item.number) None (members s.heap item.number) s refl refl
  item_leave_does m item (storage_pool declaration number) s = (tt, keeps refl refl)

  master_leave_does : (mode : Mode) (m : ℕ) (items : List Item) (s : State) → Does types s (master_leave_next named types mode m items s)
  master_leave_does mode m [] s = (tt, keeps refl refl)
  master_leave_does mode m (item ∷ items) s = item_leave_does m item item.owned (at (frame.Leaves mode ∷ s.control) s)

  leave_does : (mode : Mode) (ms : List Master) (s : State) → Does types s (leave_next named types mode ms s)
  leave_does mode [] s = tt
  leave_does mode (m ∷ ms) s = master_leave_does mode m.number m.items s

  -- Each frame that is taken off.
  pub frame_does : (bodies : List BodyForm) (f : Frame Value) (s : State) → Calm f → IsWithin f → Does types s (frame_next named types bodies f s)
  frame_does bodies (frame.Elaborates ds fs hs) s c i = declarations_do types ds fs hs s
  frame_does bodies (frame.Does fs) s c i = stmts_do types bodies fs s
  frame_does bodies (frame.Decides fs branches) s c i = decided_does types fs branches (reads_boolean (newest named s)) (popped s)
  frame_does bodies (frame.Repeats condition fs) s c i = repeats_do types condition fs s
  frame_does bodies (frame.Turns condition fs) s c i = turned_does types condition fs (reads_boolean (newest named s)) (popped s)
  frame_does bodies (frame.Ranges x fs) s c i =
      ranges_do types x fs (reads_integer (newest named (popped s))) (reads_integer (newest named s)) (popped (popped s))
  frame_does bodies (frame.Counts x value last fs) s c i = counts_do types x value last fs s
  frame_does bodies frame.Exits s c i = exited_does types (reads_boolean (newest named s)) (popped s)
  frame_does bodies (frame.Handles hs) s c i = (tt, keeps refl refl)
  frame_does bodies frame.Closes s c i = (tt, keeps refl refl)
  frame_does bodies (frame.Leaves mode) s c i = leave_does mode s.masters s
  frame_does bodies (frame.Calls procedure b actuals) s c i = absurd i
  frame_does bodies (frame.Returns actuals references) s c i = absurd c
  frame_does bodies (frame.Evaluates right) s c i = right_does types right s
  frame_does bodies (frame.Computes e) s c i = expression_does types e s
  frame_does bodies (frame.Follows cs) s c i = path_does types cs (newest named s) (popped s)
  frame_does bodies (frame.TestsNull equal) s c i = null_test_does types equal (reads_null (newest named s)) (popped s)
  frame_does bodies (frame.Refers p) s c i = record_holder_does types p (λ place. frame.RefersIn place p.record_type) s (λ place. tt)
  frame_does bodies (frame.RefersIn place t) s c i =
      refers_do types (newest named s) place (width_of types t) (look s.heap (newest named s)) (popped s)
  frame_does bodies (frame.Opens path) s c i = open_does types path.selectors path.root s
  frame_does bodies (frame.OpensIn c) s calm i = opens_do types (newest named s) c (look s.heap (newest named s)) (popped s)
  frame_does bodies (frame.Continues links) s c i = links_do types links s
  frame_does bodies (frame.Applies operator) s c i = outcome_does types (binary_given operator (newest named (popped s)) (newest named s)) (popped (popped s))
  frame_does bodies (frame.AppliesAlone operator) s c i = outcome_does types (unary_given operator (newest named s)) (popped s)
  frame_does bodies (frame.Fills items) s c i = items_do types items s
  frame_does bodies (frame.Copies first t) s c i = copies_do types (newest named s) first (width_of types t) (look s.heap (newest named s)) (popped s)
  frame_does bodies (frame.Creates access count) s c i = new_does types access count (words_of types access) (home_of access s.masters) s
  frame_does bodies (frame.Stores x) s c i = (tt, keeps refl refl)
  frame_does bodies (frame.Targets c right) s calm i = target_does types (newest named s) c right (look s.heap (newest named s)) (popped s)
  frame_does bodies (frame.StoresIn object c) s calm i = store_does types object c (newest named s) (look s.heap object) (popped s)
  frame_does bodies (frame.TargetsRecord first t items) s c i =
      record_target_does types (newest named s) first (width_of types t) items (look s.heap (newest named s)) (popped s)
  frame_does bodies (frame.StoresRecord object first count) s c i = store_record_does types object first count (look s.heap object) s
  frame_does bodies (frame.Receives c) s calm i = receive_does types (newest named s) c (look s.heap (newest named s)) (popped s)
  frame_does bodies (frame.FreesIn access c) s calm i = free_in_does types access (newest named s) c (look s.heap (newest named s)) (popped s)
  frame_does bodies (frame.Declares x) s c i = (tt, keeps refl refl)
  frame_does bodies (frame.DeclaresRecord x t) s c i =
      (tt, made_does types t Copy (newest_ones named (words_of types t) s) (without_newest named (words_of types t) s) _ refl refl refl refl)
  frame_does bodies (frame.Assigns t) s c i = absurd c
  frame_does bodies (frame.Treats v treatment tasks) s c i = absurd c
  frame_does bodies (frame.Awaits v by done of part tasks) s c i = absurd c
  frame_does bodies frame.Confines s c i = absurd c
  frame_does bodies (frame.Resumes mode) s c i = (tt, keeps refl refl)
  frame_does bodies frame.Writes s c i = line_does types (reads_integer (newest named s)) (popped s)
  frame_does bodies (frame.Ends v) s c i = absurd c
  frame_does bodies (frame.GivesBack v cause pool) s c i = absurd c
  frame_does bodies (frame.Clears x) s c i = (tt, keeps refl refl)
  frame_does bodies (frame.ClearsIn object c) s calm i = store_does types object c Null (look s.heap object) s

  -- A jump passes such a frame, or lands there.
  Lands : Landing Value → Type 0
  Lands (breaks_off v by done) = ⊥
  Lands escapes = ⊥
  Lands l = Unit {0}

  handler_lands : (found : Option StmtsForm) → Lands (handler_landing found)
  unfolding Lands
  handler_lands None = tt
  handler_lands (Some fs) = tt

  calm_lands : (mode : Mode) (f : Frame Value) → Calm f → Lands (landing mode f)
  unfolding Lands
  calm_lands mode (frame.Treats v treatment tasks) c = absurd c
  calm_lands mode (frame.Awaits v by done of part tasks) c = absurd c
  calm_lands mode frame.Confines c = absurd c
  calm_lands mode (frame.Assigns t) c = absurd c
  calm_lands mode (frame.Ends v) c = absurd c
  calm_lands mode (frame.GivesBack v cause pool) c = absurd c
  calm_lands mode (frame.Returns actuals references) c = absurd c
  calm_lands Running f c = tt
  calm_lands (Raising e) (frame.Handles hs) c = handler_lands (handler_of e hs)
  calm_lands (Raising e) f c = tt
  calm_lands Exiting f c = tt
  calm_lands Returning f c = tt

  landed_passes : (l : Landing Value) (mode : Mode) (s : State) → Lands l → Passes types s (landed named l mode s)
  unfolding Lands
  landed_passes passes_on mode s h = (tt, refl, refl, refl)
  landed_passes goes_behind mode s h = (tt, refl, refl, refl)
  landed_passes (goes_in no_stmts) mode s h = tt
  landed_passes (goes_in (a_stmt f fs)) mode s h = (tt, refl, refl, refl)
  landed_passes (breaks_off v by done) mode s h = absurd h
  landed_passes escapes mode s h = absurd h

  pass_passes : (master : Bool) (l : Landing Value) (mode : Mode) (s : State) → Lands l → Passes types s (pass_next named master l mode s)
  pass_passes true l mode s h = (tt, refl, refl, refl)
  pass_passes false l mode s h = landed_passes l mode s h

  pub unwound_calm : (mode : Mode) (f : Frame Value) (s : State) → Calm f → unwound named mode f s ≡ s
  unwound_calm mode (frame.Returns actuals references) s c = absurd c
  unwound_calm mode f s c = refl

  pub jump_calm : (mode : Mode) (f : Frame Value) (k : Control) (s : State) → Calm f → Passes types (at k s) (jump_next named mode (f ∷ k) s)
  jump_calm mode f k s c =
      subst (λ (u : State). Passes types (at k s) (pass_next named (is_master f) (landing mode f) mode u)) (sym (unwound_calm mode f (at k s) c))
      (pass_passes (is_master f) (landing mode f) mode (at k s) (calm_lands mode f c))
