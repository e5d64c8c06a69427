-- Hidden components stay, by the mode: what a frame does, and how a jump passes one.

use Rattle.std.proofs.Common.{ℕ, Bool, true, false, List, [], ◌∷◌}
use Rattle.ada_parts.specs.Part.{Part}
use Rattle.ada_program.specs.declared.program.Exception.{Exception}
use Rattle.ada_program.specs.declared.program.TypeDefinition.{TypeDefinition}
use Rattle.ada_program.specs.Form.{ActualForm, no_stmts, a_stmt}
use Rattle.ada_program.specs.ProgramForm.{BodyForm}
use Rattle.ada_meaning.specs.declared.event.Birth.{Birth}
use Rattle.ada_meaning.specs.declared.event.Birth.TheVariants.{Creation, Copy, Adjustment}
use Rattle.ada_meaning.specs.declared.state.Id.{Id}
use Rattle.ada_meaning.specs.declared.state.Mode.{Mode}
use Rattle.ada_meaning.specs.declared.state.Mode.TheVariants.{Running, Raising, Exiting, Returning}
use Rattle.ada_meaning.specs.declared.state.Value.{Value}
use Rattle.ada_meaning.specs.Frame.{Frame, is_master, Landing, passes_on, goes_behind, goes_in, breaks_off, escapes, landing}
use Rattle.ada_meaning.specs.Frame as frame
use Rattle.ada_meaning.specs.Heap.{Cell, Found, on_null, on_gone, on_other, finds}
use Rattle.ada_meaning.specs.Step.{halts, moves, tells, asks, picks, at, unwound, undo_next, broken_off, landed, pass_next, running_next, jump_next, mode_next}
use Rattle.ada_meaning.specs.Named.{Object, State, Next, named, look, next}
use Rattle.ada_meaning.specs.Run.{Event, Choice, settled, grants, takes, Leads}
use Rattle.ada_untouched.specs.Unwritten.{FirstWritesShown}
use Rattle.ada_untouched.specs.Law.{HiddenPartsStay}
use Rattle.ada_untouched.proofs.Kept.{Kept}
use Rattle.ada_untouched.proofs.KeptByForms.{Stays, Staying, same, parted_kept}
use Rattle.ada_untouched.proofs.KeptByFrames.{frame_stays}

module _ (hidden : Id → (component : ℕ) → Bool) where
  -- A jump comes out of an operation that was to begin a part of an object (7.6.1).
  undo_stays : (e : Exception) (v : Value) (done : List Part) (found : Found (Cell Value)) → Staying hidden (undo_next named e v done found)
  undo_stays e v done on_null s = tt
  undo_stays e v done on_gone s = tt
  undo_stays e v done on_other s = tt
  undo_stays e v done (finds cell) s = parted_kept hidden s.heap v

  broken_stays : (m : Mode) (v : Value) (by : Birth) (done : List Part) → Staying hidden (broken_off named m v by done)
  broken_stays Running v by done s = tt
  broken_stays (Raising e) v Creation done s = undo_stays e v done (look s.heap v) s
  broken_stays (Raising e) v Copy done s = tt
  broken_stays (Raising e) v (Adjustment number) done s = tt
  broken_stays Exiting v by done s = tt
  broken_stays Returning v by done s = tt

  landed_stays : (l : Landing Value) (m : Mode) → Staying hidden (landed named l m)
  landed_stays passes_on m s = same hidden s
  landed_stays goes_behind m s = same hidden s
  landed_stays (goes_in no_stmts) m s = tt
  landed_stays (goes_in (a_stmt f fs)) m s = same hidden s
  landed_stays (breaks_off v by done) m s = broken_stays m v by done s
  landed_stays escapes m s = tt

  passed_stays : (master : Bool) (l : Landing Value) (m : Mode) → Staying hidden (pass_next named master l m)
  passed_stays true l m s = same hidden s
  passed_stays false l m s = landed_stays l m s

  -- It comes to the end of a call's body (6.4.1, 6.5): what goes to components is stored in them later.
  ended_stays : (m : Mode) (actuals : List ActualForm) (references : List Value) → Staying hidden (λ s. pass_next named false (landing m (frame.Returns actuals references)) m (unwound named m (frame.Returns actuals references) s))
  ended_stays Running actuals references s = same hidden s
  ended_stays (Raising e) actuals references s = same hidden s
  ended_stays Exiting actuals references s = same hidden s
  ended_stays Returning actuals references s = same hidden s

  -- It comes to a frame.
  frame_passed : (m : Mode) (f : Frame Value) → Staying hidden (λ s. pass_next named (is_master f) (landing m f) m (unwound named m f s))
  frame_passed m (frame.Returns actuals references) s = ended_stays m actuals references s
  frame_passed m f s = passed_stays (is_master f) (landing m f) m s

  jump_stays : (m : Mode) (l : List (Frame Value)) → Staying hidden (jump_next named m l)
  jump_stays m [] s = tt
  jump_stays m (f ∷ l) s = frame_passed m f (at l s)

  module _ (types : List TypeDefinition) (bodies : List BodyForm) where
    running_stays : (l : List (Frame Value)) (s : State) → FirstWritesShown hidden s Running l → Stays hidden s.heap (running_next named types bodies l s)
    running_stays [] s shown = tt
    running_stays (f ∷ l) s shown = frame_stays hidden types bodies f (at l s) shown

    mode_stays : (m : Mode) (s : State) → FirstWritesShown hidden s m s.control → Stays hidden s.heap (mode_next named types bodies m s)
    mode_stays Running s shown = running_stays s.control s shown
    mode_stays (Raising e) s shown = jump_stays (Raising e) s.control s
    mode_stays Exiting s shown = jump_stays Exiting s.control s
    mode_stays Returning s shown = jump_stays Returning s.control s

  -- Where a choice leads.
  led : (h : List Object) (coming : Next) (choice : Choice) (e : Event) (after : State) → Stays hidden h coming → Leads coming choice e after → Kept hidden h after.heap
  led h (halts halt) choice e after stays leads = absurd leads
  led h (moves shown s) settled e after stays leads = rw (leads.1) stays
  led h (tells request shown s) settled e after stays leads = rw (leads.1) stays
  led h (asks request answers) (grants granted) e after stays leads = rw (leads.1) (stays granted)
  led h (picks n taking) (takes i) e after stays leads = rw (leads.2) (stays i)
  led h (moves shown s) (grants granted) e after stays leads = absurd leads
  led h (moves shown s) (takes i) e after stays leads = absurd leads
  led h (tells request shown s) (grants granted) e after stays leads = absurd leads
  led h (tells request shown s) (takes i) e after stays leads = absurd leads
  led h (asks request answers) settled e after stays leads = absurd leads
  led h (asks request answers) (takes i) e after stays leads = absurd leads
  led h (picks n taking) settled e after stays leads = absurd leads
  led h (picks n taking) (grants granted) e after stays leads = absurd leads

pub hidden_stays : HiddenPartsStay
unfolding next
hidden_stays types bodies hidden s after choice e leads unwritten o x there c hides =
    let stays = mode_stays hidden types bodies s.mode s unwritten in
    (led hidden s.heap (mode_next named types bodies s.mode s) choice e after stays leads).stays o x there c hides
