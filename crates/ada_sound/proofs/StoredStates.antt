-- Objects are stored in each state, whatever is next.

use Rattle.std.proofs.Common.{ℕ, List, [], ◌∷◌, ◌⊎◌, inl, inr}
use Rattle.std.specs.List.{slice_set}
use Rattle.ada_program.specs.declared.program.Exception.{Exception}
use Rattle.ada_program.specs.Form.{RightForm, nothing, value_of, allocates, allocates_default, computes}
use Rattle.ada_flow.specs.Flow.{Holds}
use Rattle.ada_meaning.specs.declared.state.Id.{Id}
use Rattle.ada_meaning.specs.declared.state.Value.{Value}
use Rattle.ada_meaning.specs.declared.state.Value.TheVariants.{Null, Names, Scalar, Part}
use Rattle.ada_meaning.specs.declared.state.Mode.{Mode}
use Rattle.ada_meaning.specs.declared.state.Mode.TheVariants.{Running, Raising, Exiting, Returning}
use Rattle.ada_meaning.specs.declared.event.Birth.TheVariants.{Creation, Copy, Adjustment}
use Rattle.ada_parts.specs.Task.{Task}
use Rattle.ada_meaning.specs.Frame as frame
use Rattle.ada_meaning.specs.Frame.{Frame, Elaborates, Does, Decides, Repeats, Turns, Ranges, Counts, Exits, Handles, Closes, Leaves, Calls, Returns, Evaluates, Computes, Follows, TestsNull, Refers, RefersIn, Opens, OpensIn, Continues, Applies, AppliesAlone, Fills, Copies, Creates, Stores, Targets, StoresIn, TargetsRecord, StoresRecord, Assigns, Receives, FreesIn, Declares, DeclaresRecord, Treats, Writes, Ends, GivesBack, Clears, ClearsIn, Treatment, begins, ends}
use Rattle.ada_meaning.specs.State.{Master}
use Rattle.ada_meaning.specs.Step.{first_or}
use Rattle.ada_meaning.specs.Named.{Object, State, store}
use Rattle.ada_sound.proofs.Stored.{Stored}
use Rattle.ada_sound.proofs.Back.{stored_before}
use Rattle.ada_sound.proofs.Ready.{begins_work}
use Rattle.ada_sound.proofs.CopiedOwners.{hiding, owners_left}
use Rattle.ada_sound.proofs.HiddenOwners.{stored_shown}
use Rattle.ada_sound.proofs.Invariant.{Known, Control, Rooms, Working, HalfBy, Resumes, Clearing, EvaluatesTo, TargetsTo, StoringIn, HalfFollows, NamesTo, BegunTo, AdjustsTo, EndsTo, CopiesBehind, TreatsBy, EndingBy, BackingBy, ReadyBy, RaisesBy, ReadyIn, Ready}
use Rattle.ada_meaning.specs.declared.event.Cause.TheVariants.{Leaving, Freeing, Assigning, Undoing}

-- Objects are stored, where one at most is under way.
abbrev pub IsStored : List Object → List Master → Type 0
IsStored heap ms = (under : List Id) × Stored under heap ms

module _ (known : Known) where
  -- The second half of a take pair may be next.
  half_stored : (k : Control) (heap : List Object) (places : List Value) (ms : List Master) → HalfBy known k heap places ms → IsStored heap ms
  half_stored [] heap places ms h = absurd h
  half_stored (Does fs ∷ k) heap places ms h = (_, stored_before heap ms (Names h.o) h.c Null h.works.stored)
  half_stored (f ∷ k) heap places ms h = absurd h

  resumes_stored : (k : Control) (heap : List Object) (places : List Value) (ms : List Master) → Resumes known heap places ms k → IsStored heap ms
  resumes_stored k heap places ms (inl w) = (_, w.stored)
  resumes_stored k heap places ms (inr h) = half_stored k heap places ms h

  -- So may a component that counts as written.
  clearing_stored : (o : Value) (c : ℕ) (k : Control) (heap : List Object) (places : List Value) (ms : List Master) → Clearing known o c k heap places ms → IsStored heap ms
  clearing_stored Null c k heap places ms h = absurd h
  clearing_stored (Names o) c k heap places ms h = (_, stored_before heap ms (Names o) c Null h.1.stored)
  clearing_stored (Scalar n) c k heap places ms h = absurd h
  clearing_stored (Part object_id base) c k heap places ms h = absurd h

  null_stored : (k : Control) (heap : List Object) (places : List Value) (ms : List Master) → EvaluatesTo known nothing k heap places ms → IsStored heap ms
  null_stored [] heap places ms w = (_, w.stored)
  null_stored (StoresIn o c ∷ k) heap places ms h = clearing_stored o c k heap places ms h
  null_stored (f ∷ k) heap places ms w = (_, w.stored)

  right_stored : (right : RightForm) (k : Control) (heap : List Object) (places : List Value) (ms : List Master) → EvaluatesTo known right k heap places ms → IsStored heap ms
  right_stored nothing k heap places ms h = null_stored k heap places ms h
  right_stored (value_of path) k heap places ms w = (_, w.stored)
  right_stored (allocates access items) k heap places ms w = (_, w.stored)
  right_stored (allocates_default access) k heap places ms w = (_, w.stored)
  right_stored (computes e) k heap places ms w = (_, w.stored)

  evaluates_stored : {more : Rooms → Holds → Type 0} (right : RightForm) (k : Control) (heap : List Object) (places : List Value) (ms : List Master) → EvaluatesTo known right k heap places ms ⊎ Working known heap places ms more → IsStored heap ms
  evaluates_stored right k heap places ms (inl h) = right_stored right k heap places ms h
  evaluates_stored right k heap places ms (inr w) = (_, w.stored)

  half_follows_stored : (v : Value) (cs : List ℕ) (k : Control) (heap : List Object) (places : List Value) (ms : List Master) → HalfFollows known v cs k heap places ms → IsStored heap ms
  half_follows_stored v cs [] heap places ms h = absurd h
  half_follows_stored v cs (Targets c right ∷ k) heap places ms h = clearing_stored (Names h.1) c k heap places ms h.3
  half_follows_stored v cs (f ∷ k) heap places ms h = absurd h

  path_stored : {more : Rooms → Holds → Type 0} (v : Value) (cs : List ℕ) (k : Control) (heap : List Object) (places : List Value) (ms : List Master) → Working known heap places ms more ⊎ HalfFollows known v cs k heap places ms → IsStored heap ms
  path_stored v cs k heap places ms (inl w) = (_, w.stored)
  path_stored v cs k heap places ms (inr h) = half_follows_stored v cs k heap places ms h

  target_stored : (v : Value) (c : ℕ) (right : RightForm) (k : Control) (heap : List Object) (places : List Value) (ms : List Master) → TargetsTo known v c right k heap places ms → IsStored heap ms
  target_stored v c right k heap places ms (inl w) = (_, w.stored)
  target_stored v c right k heap places ms (inr h) = clearing_stored v c k heap places ms h.1

  put_stored : (o : Value) (c : ℕ) (v : Value) (k : Control) (heap : List Object) (places : List Value) (ms : List Master) → StoringIn known o c v k heap places ms → IsStored heap ms
  put_stored o c v k heap places ms (inl h) = let t = resumes_stored k (store heap o c v) places ms h.1 in (t.0, stored_before heap ms o c v t.1)
  put_stored o c v k heap places ms (inr w) = (_, w.stored)

  -- So may the end of an object.
  value_stored : (v : Value) (k : Control) (heap : List Object) (places : List Value) (ms : List Master) → EndingBy known v k heap places ms → IsStored heap ms
  value_stored Null k heap places ms r = absurd r
  value_stored (Names o) k heap places ms r = (_, r.stored)
  value_stored (Scalar n) k heap places ms r = absurd r
  value_stored (Part object_id base) k heap places ms r = absurd r

  words_stored : (v : Value) (cause : _) (pool : _) (k : Control) (heap : List Object) (places : List Value) (ms : List Master) → BackingBy known v cause pool k heap places ms → IsStored heap ms
  words_stored Null cause pool k heap places ms r = absurd r
  words_stored (Names o) cause pool k heap places ms r = (_, r.stored)
  words_stored (Scalar n) cause pool k heap places ms r = absurd r
  words_stored (Part object_id base) cause pool k heap places ms r = absurd r

  -- So may the treatment of an object.
  names_stored : (k : Control) (heap : List Object) (places operands : List Value) (ms : List Master) → NamesTo known k heap places operands ms → IsStored heap ms
  names_stored [] heap places operands ms r = absurd r
  names_stored (Stores x ∷ k) heap places operands ms r = (_, r.stored)
  names_stored (Declares x ∷ k) heap places operands ms r = (_, r.stored)
  names_stored (StoresIn o c ∷ k) heap places operands ms r = (_, stored_before heap ms o c (first_or Null operands) r.1.stored)
  names_stored (f ∷ k) heap places operands ms r = absurd r

  begun_stored : (v : Value) (k : Control) (heap : List Object) (places operands : List Value) (ms : List Master) → BegunTo known v k heap places operands ms → IsStored heap ms
  begun_stored v k heap places operands ms (inl b) = let w = begins_work known v k heap places ms b in (_, w.stored)
  begun_stored v k heap places operands ms (inr r) = names_stored k heap places operands ms r.2

  adjusts_stored : (v : Value) (tasks : List Task) (k : Control) (heap : List Object) (places : List Value) (ms : List Master) → AdjustsTo known v tasks k heap places ms → IsStored heap ms
  adjusts_stored v tasks k heap places ms r =
      (_, stored_shown heap ms (hiding (owners_left known.program.types r.x.cell.access tasks) r.o) r.works.stored)

  ends_stored : (v : Value) (k : Control) (heap : List Object) (places : List Value) (ms : List Master) → EndsTo known v k heap places ms → IsStored heap ms
  ends_stored v [] heap places ms r = absurd r
  ends_stored v (Ends w ∷ k) heap places ms r = value_stored w k heap places ms r.1
  ends_stored v (f ∷ k) heap places ms r = absurd r

  copies_stored : (k : Control) (heap : List Object) (places operands : List Value) (ms : List Master) → CopiesBehind known k heap places operands ms → IsStored heap ms
  copies_stored [] heap places operands ms r = absurd r
  copies_stored (Copies first t ∷ k) heap places operands ms (copied, w) = (_, w.stored)
  copies_stored (f ∷ k) heap places operands ms r = absurd r

  treats_stored : (v : Value) (treatment : Treatment) (tasks : List Task) (k : Control) (heap : List Object) (places operands : List Value) (ms : List Master) → TreatsBy known v treatment tasks k heap places operands ms → IsStored heap ms
  treats_stored v (begins Creation done) tasks k heap places operands ms r = begun_stored v k heap places operands ms r.0
  treats_stored v (begins Copy done) tasks k heap places operands ms r = adjusts_stored v tasks k heap places ms r
  treats_stored v (begins (Adjustment number) done) tasks k heap places operands ms r = adjusts_stored v tasks k heap places ms r
  treats_stored v (ends (Leaving m item)) tasks k heap places operands ms r = ends_stored v k heap places ms r
  treats_stored v (ends (Freeing number)) tasks k heap places operands ms r = ends_stored v k heap places ms r
  treats_stored v (ends (Assigning number)) tasks k heap places operands ms r = copies_stored k heap places operands ms r
  treats_stored v (ends (Undoing number)) tasks k heap places operands ms r = ends_stored v k heap places ms r

  -- By what is next.
  frame_stored : (f : Frame Value) (k : Control) (heap : List Object) (places operands : List Value) (ms : List Master) → ReadyBy known f k heap places operands ms → IsStored heap ms
  frame_stored (Elaborates ds fs hs) k heap places operands ms r = (_, r.stored)
  frame_stored (Does fs) k heap places operands ms r = resumes_stored (Does fs ∷ k) heap places ms r
  frame_stored (Decides fs branches) k heap places operands ms r = (_, r.stored)
  frame_stored (Repeats condition body) k heap places operands ms r = (_, r.stored)
  frame_stored (Turns e body) k heap places operands ms r = (_, r.stored)
  frame_stored (Ranges x body) k heap places operands ms r = (_, r.stored)
  frame_stored (Counts x value last body) k heap places operands ms r = (_, r.stored)
  frame_stored Exits k heap places operands ms r = (_, r.stored)
  frame_stored (Handles hs) k heap places operands ms r = (_, r.stored)
  frame_stored Closes k heap places operands ms r = (_, r.stored)
  frame_stored (Leaves mode) k heap places operands ms r = (_, r.stored)
  frame_stored (Calls procedure b actuals) k heap places operands ms r = (_, r.stored)
  frame_stored (Returns actuals references) k heap places operands ms r = (_, r.stored)
  frame_stored (Evaluates right) k heap places operands ms r = evaluates_stored right k heap places ms r
  frame_stored (Computes e) k heap places operands ms r = (_, r.stored)
  frame_stored (Follows cs) k heap places operands ms r = path_stored (first_or Null operands) cs k heap places ms r
  frame_stored (TestsNull equal) k heap places operands ms r = (_, r.stored)
  frame_stored (Refers p) k heap places operands ms r = (_, r.stored)
  frame_stored (RefersIn place t) k heap places operands ms r = (_, r.stored)
  frame_stored (Opens path) k heap places operands ms r = (_, r.stored)
  frame_stored (OpensIn c) k heap places operands ms r = (_, r.stored)
  frame_stored (Continues links) k heap places operands ms r = (_, r.stored)
  frame_stored (Applies operator) k heap places operands ms r = (_, r.stored)
  frame_stored (AppliesAlone operator) k heap places operands ms r = (_, r.stored)
  frame_stored (Fills items) k heap places operands ms r = (_, r.stored)
  frame_stored (Copies first t) k heap places operands ms r = (_, r.stored)
  frame_stored (Creates access count) k heap places operands ms r = (_, r.stored)
  frame_stored (Stores x) k heap places operands ms r = resumes_stored k heap (slice_set places x (first_or Null operands)) ms r
  frame_stored (Targets c right) k heap places operands ms r = target_stored (first_or Null operands) c right k heap places ms r
  frame_stored (StoresIn o c) k heap places operands ms r = put_stored o c (first_or Null operands) k heap places ms r
  frame_stored (TargetsRecord first t items) k heap places operands ms r = (_, r.stored)
  frame_stored (StoresRecord o first count) k heap places operands ms r = (_, r.stored)
  frame_stored (Assigns t) k heap places operands ms r = (_, r.stored)
  frame_stored (Receives c) k heap places operands ms r = (_, r.stored)
  frame_stored (FreesIn access c) k heap places operands ms r = (_, r.stored)
  frame_stored (Declares x) k heap places operands ms r = (_, r.stored)
  frame_stored (DeclaresRecord x t) k heap places operands ms r = (_, r.stored)
  frame_stored (Treats v treatment tasks) k heap places operands ms r = treats_stored v treatment tasks k heap places operands ms r.0
  frame_stored (frame.Awaits v by done of part tasks) k heap places operands ms r = treats_stored v (begins by done) tasks k heap places operands ms r.1
  frame_stored frame.Confines k heap places operands ms (v, cause, tasks, behind, is, r, of) = treats_stored v (ends cause) tasks behind heap places operands ms r
  frame_stored (frame.Resumes mode) k heap places operands ms r = (_, r.stored)
  frame_stored Writes k heap places operands ms r = (_, r.stored)
  frame_stored (Ends v) k heap places operands ms r = value_stored v k heap places ms r
  frame_stored (GivesBack v cause pool) k heap places operands ms r = words_stored v cause pool k heap places ms r
  frame_stored (Clears x) k heap places operands ms r = (_, r.stored)
  frame_stored (ClearsIn o c) k heap places operands ms r = clearing_stored o c k heap places ms r

  raises_stored : (e : Exception) (f : Frame Value) (k : Control) (heap : List Object) (places : List Value) (ms : List Master) → RaisesBy known e f k heap places ms → IsStored heap ms
  raises_stored e (frame.Awaits v by done of part tasks) k heap places ms r = (_, r.2)
  raises_stored e f k heap places ms r = (_, r.stored)

  mode_stored : (mode : Mode) (k : Control) (heap : List Object) (places operands : List Value) (ms : List Master) → ReadyIn known mode k heap places operands ms → IsStored heap ms
  mode_stored Running [] heap places operands ms r = (_, r.0)
  mode_stored Running (f ∷ k) heap places operands ms r = frame_stored f k heap places operands ms r
  mode_stored (Raising e) [] heap places operands ms r = (_, r.0)
  mode_stored (Raising e) (f ∷ k) heap places operands ms r = raises_stored e f k heap places ms r
  mode_stored Exiting [] heap places operands ms r = (_, r.0)
  mode_stored Exiting (f ∷ k) heap places operands ms r = (_, r.stored)
  mode_stored Returning [] heap places operands ms r = (_, r.0)
  mode_stored Returning (f ∷ k) heap places operands ms r = (_, r.stored)

  pub ready_stored : (s : State) → Ready known s → IsStored s.heap s.masters
  ready_stored s r = mode_stored s.mode s.control s.heap _ _ s.masters r.1
