-- The law, by the mode: what a frame does, and how a jump passes one.

use Rattle.std.proofs.Common.{ℕ, Bool, true, false, List, [], ◌∷◌, Option, Some, None, refl, sym, subst}
use Rattle.std.specs.Prelude.{if◌then◌else◌}
use Rattle.ada_parts.specs.Part.{Part}
use Rattle.ada_program.specs.declared.program.Exception.{Exception}
use Rattle.ada_program.specs.declared.program.TypeDefinition.{TypeDefinition}
use Rattle.ada_program.specs.Form.{ActualForm, StmtsForm, no_stmts, a_stmt}
use Rattle.ada_program.specs.Handling.{handler_of}
use Rattle.ada_program.specs.ProgramForm.{BodyForm}
use Rattle.ada_meaning.specs.declared.event.Birth.{Birth}
use Rattle.ada_meaning.specs.declared.event.Birth.TheVariants.{Creation, Copy, Adjustment}
use Rattle.ada_meaning.specs.declared.state.Id.{Id}
use Rattle.ada_meaning.specs.declared.state.Mode.{Mode}
use Rattle.ada_meaning.specs.declared.state.Mode.TheVariants.{Running, Raising, Exiting, Returning}
use Rattle.ada_meaning.specs.declared.state.Value.{Value}
use Rattle.ada_meaning.specs.Event.{Quiet}
use Rattle.ada_meaning.specs.Frame.{Frame, is_loop, is_return, is_master, Landing, passes_on, goes_behind, goes_in, breaks_off, escapes, operation_landing, exit_landing, return_landing, handler_landing, exception_landing, landing}
use Rattle.ada_meaning.specs.Frame as frame
use Rattle.ada_meaning.specs.Step.{at, resumed, returned, unwound, undone, undo_next, broken_off, landed, pass_next, running_next, jump_next, mode_next}
use Rattle.ada_meaning.specs.Named.{Object, State, named, look, on_object, parted, next}
use Rattle.ada_untouched.specs.Alike.{StatesBy}
use Rattle.ada_untouched.specs.Untouched.{IsInSight, JumpIsOpen, FirstIsOpen, Untouched}
use Rattle.ada_untouched.specs.Law.{UntouchedPartsDoNotMatter}
use Rattle.ada_untouched.proofs.Relation.{Keeps, NextSo, heaps_alike_keep}
use Rattle.ada_untouched.proofs.Forms.{over, goes, Same, by_look}
use Rattle.ada_untouched.proofs.Frames.{frame_same}

module _ (types : List TypeDefinition) (bodies : List BodyForm) {hidden : Id → (component : ℕ) → Bool} {ghosts : Id → Bool} {AreSo : List Object → List Object → Type 0} (keeps : Keeps hidden ghosts AreSo) where
  -- Where a jump lands, no ghost is looked for.
  abbrev LandsClear : Landing Value → Type 0
  LandsClear (breaks_off v by done) = IsInSight ghosts v
  LandsClear l = Unit {0}

  operation_clear : (s : State) (f : Frame Value) → JumpIsOpen hidden ghosts s f → LandsClear (operation_landing f)
  operation_clear s (frame.Awaits v by done of part tasks) clear = clear
  operation_clear s f clear = tt

  test_clear : (b : Bool) (l : Landing Value) → LandsClear l → LandsClear (if b then goes_behind else l)
  test_clear true l clear = tt
  test_clear false l clear = clear

  handler_clear : (found : Option StmtsForm) → LandsClear (handler_landing found)
  handler_clear None = tt
  handler_clear (Some fs) = tt

  exception_clear : (s : State) (e : Exception) (f : Frame Value) → JumpIsOpen hidden ghosts s f → LandsClear (exception_landing e f)
  exception_clear s e (frame.Handles hs) clear = handler_clear (handler_of e hs)
  exception_clear s e (frame.Awaits v by done of part tasks) clear = clear
  exception_clear s e f clear = tt

  landing_clear : (s : State) (m : Mode) (f : Frame Value) → JumpIsOpen hidden ghosts s f → LandsClear (landing m f)
  landing_clear s Running f clear = tt
  landing_clear s (Raising e) f clear = exception_clear s e f clear
  landing_clear s Exiting f clear = test_clear (is_loop f) (operation_landing f) (operation_clear s f clear)
  landing_clear s Returning f clear = test_clear (is_return f) (operation_landing f) (operation_clear s f clear)

  -- It comes out of an operation that was to begin a part of an object (7.6.1).
  undo_same : (e : Exception) (v : Value) (done : List Part) (s : State) (k : List Object) → AreSo s.heap k → IsInSight ghosts v → NextSo ghosts AreSo (undo_next named e v done (look s.heap v) s) (undo_next named e v done (look k v) (over k s))
  undo_same e v done s k a clear =
      by_look keeps v (λ f g. NextSo ghosts AreSo (undo_next named e v done f s) (undo_next named e v done g (over k s)))
      refl refl refl
      (λ cell us both. goes keeps Quiet tt (undone named e v done cell s) (on_object parted k v) (keeps.parts s.heap k a v))
      s.heap k a clear

  broken_same : (m : Mode) (v : Value) (by : Birth) (done : List Part) (s : State) (k : List Object) → AreSo s.heap k → IsInSight ghosts v → NextSo ghosts AreSo (broken_off named m v by done s) (broken_off named m v by done (over k s))
  broken_same Running v by done s k a clear = refl
  broken_same (Raising e) v Creation done s k a clear = undo_same e v done s k a clear
  broken_same (Raising e) v Copy done s k a clear = refl
  broken_same (Raising e) v (Adjustment number) done s k a clear = refl
  broken_same Exiting v by done s k a clear = refl
  broken_same Returning v by done s k a clear = refl

  landed_same : (l : Landing Value) (m : Mode) → LandsClear l → Same keeps (landed named l m)
  landed_same passes_on m clear s k a = goes keeps Quiet tt s k a
  landed_same goes_behind m clear s k a = goes keeps Quiet tt (record s { mode = Running }) k a
  landed_same (goes_in no_stmts) m clear s k a = refl
  landed_same (goes_in (a_stmt f fs)) m clear s k a = goes keeps Quiet tt (record s { control = frame.Does (a_stmt f fs) ∷ s.control; mode = Running }) k a
  landed_same (breaks_off v by done) m clear s k a = broken_same m v by done s k a clear
  landed_same escapes m clear s k a = refl

  passed_same : (master : Bool) (l : Landing Value) (m : Mode) → LandsClear l → Same keeps (pass_next named master l m)
  passed_same true l m clear s k a = goes keeps Quiet tt (record s { control = frame.Leaves m ∷ s.control; mode = Running }) k a
  passed_same false l m clear s k a = landed_same l m clear s k a

  -- It comes to the end of a call's body (6.4.1, 6.5).
  ended_same : (m : Mode) (actuals : List ActualForm) (references : List Value) → Same keeps (λ s. landed named (landing m (frame.Returns actuals references)) m (unwound named m (frame.Returns actuals references) s))
  ended_same Running actuals references s k a = goes keeps Quiet tt (resumed s) k a
  ended_same (Raising e) actuals references s k a = goes keeps Quiet tt (resumed s) k a
  ended_same Exiting actuals references s k a = goes keeps Quiet tt (resumed s) k a
  ended_same Returning actuals references s k a = goes keeps Quiet tt (record (returned named actuals references s) { mode = Running }) k a

  -- It comes to a frame.
  frame_passed : (m : Mode) (f : Frame Value) (s : State) (k : List Object) → AreSo s.heap k → LandsClear (landing m f) → NextSo ghosts AreSo (pass_next named (is_master f) (landing m f) m (unwound named m f s)) (pass_next named (is_master f) (landing m f) m (unwound named m f (over k s)))
  frame_passed m (frame.Returns actuals references) s k a clear = ended_same m actuals references s k a
  frame_passed m f s k a clear = passed_same (is_master f) (landing m f) m clear s k a

  running_same : (l : List (Frame Value)) (s : State) (k : List Object) → AreSo s.heap k → FirstIsOpen types hidden ghosts s Running l → NextSo ghosts AreSo (running_next named types bodies l s) (running_next named types bodies l (over k s))
  running_same [] s k a clear = refl
  running_same (f ∷ l) s k a clear = frame_same keeps types bodies f (at l s) k a clear

  raising_same : (e : Exception) (l : List (Frame Value)) (s : State) (k : List Object) → AreSo s.heap k → FirstIsOpen types hidden ghosts s (Raising e) l → NextSo ghosts AreSo (jump_next named (Raising e) l s) (jump_next named (Raising e) l (over k s))
  raising_same e [] s k a clear = refl
  raising_same e (f ∷ l) s k a clear = frame_passed (Raising e) f (at l s) k a (landing_clear s (Raising e) f clear)

  exiting_same : (l : List (Frame Value)) (s : State) (k : List Object) → AreSo s.heap k → FirstIsOpen types hidden ghosts s Exiting l → NextSo ghosts AreSo (jump_next named Exiting l s) (jump_next named Exiting l (over k s))
  exiting_same [] s k a clear = refl
  exiting_same (f ∷ l) s k a clear = frame_passed Exiting f (at l s) k a (landing_clear s Exiting f clear)

  returning_same : (l : List (Frame Value)) (s : State) (k : List Object) → AreSo s.heap k → FirstIsOpen types hidden ghosts s Returning l → NextSo ghosts AreSo (jump_next named Returning l s) (jump_next named Returning l (over k s))
  returning_same [] s k a clear = refl
  returning_same (f ∷ l) s k a clear = frame_passed Returning f (at l s) k a (landing_clear s Returning f clear)

  mode_same : (m : Mode) (s : State) (k : List Object) → AreSo s.heap k → FirstIsOpen types hidden ghosts s m s.control → NextSo ghosts AreSo (mode_next named types bodies m s) (mode_next named types bodies m (over k s))
  mode_same Running s k a clear = running_same s.control s k a clear
  mode_same (Raising e) s k a clear = raising_same e s.control s k a clear
  mode_same Exiting s k a clear = exiting_same s.control s k a clear
  mode_same Returning s k a clear = returning_same s.control s k a clear

-- States whose heaps are related so do so next, where the step looks at nothing in which these may differ.
pub steps_so :
    {hidden : Id → (component : ℕ) → Bool} {ghosts : Id → Bool} {AreSo : List Object → List Object → Type 0} (keeps : Keeps hidden ghosts AreSo)
    (types : List TypeDefinition) (bodies : List BodyForm) (s t : State)
    → Untouched types hidden ghosts s → StatesBy AreSo s t → NextSo ghosts AreSo (next types bodies s) (next types bodies t)
unfolding next
steps_so {ghosts = ghosts} {AreSo = AreSo} keeps types bodies s t clear both =
    subst (λ (z : State). NextSo ghosts AreSo (mode_next named types bodies s.mode s) (mode_next named types bodies z.mode z)) (sym both.rest)
    (mode_same types bodies keeps s.mode s t.heap both.heaps clear)

pub steps_alike : UntouchedPartsDoNotMatter
steps_alike types bodies hidden ghosts s t clear both = steps_so (heaps_alike_keep hidden ghosts) types bodies s t clear both
