-- What is left of the program is ready to run, or to be passed by a jump.

use Rattle.std.proofs.Common.{◌≡◌, ℕ, List, [], ◌∷◌, inl, inr, subst}
use Rattle.std.specs.List.{slice_set}
use Rattle.ada_program.specs.declared.program.Exception.{Exception}
use Rattle.ada_flow.specs.declared.rule.Hold.TheVariants as hold
use Rattle.ada_flow.specs.Flow.{Holds}
use Rattle.ada_parts.specs.Task.{Task}
use Rattle.ada_meaning.specs.declared.event.Cause.TheVariants.{Leaving, Freeing, Assigning, Undoing}
use Rattle.ada_meaning.specs.declared.state.Value.{Value}
use Rattle.ada_meaning.specs.declared.event.Birth.TheVariants.{Creation, Copy, Adjustment}
use Rattle.ada_meaning.specs.declared.state.Value.TheVariants.{Null, Names, Scalar, Part}
use Rattle.ada_meaning.specs.declared.state.Mode.{Mode}
use Rattle.ada_meaning.specs.declared.state.Mode.TheVariants.{Running, Raising, Exiting, Returning}
use Rattle.ada_meaning.specs.Frame as frame
use Rattle.ada_meaning.specs.Frame.{Frame, Elaborates, Does, Decides, Repeats, Turns, Ranges, Counts, Exits, Handles, Closes, Leaves, Calls, Returns, Evaluates, Computes, TestsNull, Refers, Opens, Continues, Applies, AppliesAlone, Fills, Copies, Stores, StoresIn, StoresRecord, Assigns, Declares, Writes, Ends, Treatment, begins, ends}
use Rattle.ada_meaning.specs.Event.{Quiet}
use Rattle.ada_meaning.specs.State.{Activation, Master}
use Rattle.ada_meaning.specs.Step.{first_or, older, jumping, treating}
use Rattle.ada_meaning.specs.Named.{Object, State}
use Rattle.ada_meaning.specs.Run.{Event}
use Rattle.ada_sound.proofs.Items.{NoMaster}
use Rattle.ada_sound.proofs.Fits.{MayFollow, weaker_fit, spare_fit, put_lost, sparing}
use Rattle.ada_sound.proofs.Orderings.{AsGood}
use Rattle.ada_sound.proofs.Alters.{alters_same}
use Rattle.ada_sound.proofs.Stored.{Stored}
use Rattle.ada_sound.proofs.NoneHidden.{blanked_none}
use Rattle.ada_sound.proofs.Invariant.{AdjustsAside, AdjustsTo, under_in, outers, StoresOn, Caller, below_callers, below, at_end, nowhere, Known, Control, Rooms, Roomed, To, RunsOn, GoesOn, RaisesAt, CopiesElsewhere, CopiesTo, PassesTo, Awaits, IsHolder, Working, Parting, HalfBy, Resumes, NamesTo, Beginning, BegunTo, EndsTo, StoresBehind, CopiesBehind, TreatsBy, RaisesBy, ReadyIn, Ready, Says, Stepped, By, innermost, ways, IsOfAssigned, LiesIn, EndsBy}
use Rattle.ada_meaning.specs.declared.event.Cause.{Cause}

-- The state at work on something, with a running activation; and in another mode.
abbrev pub running : Control → Activation Value → List (Activation Value) → State → State
running k a rest s = record s { activations = a ∷ rest; control = k; mode = Running }

abbrev pub in_mode : Mode → Control → Activation Value → List (Activation Value) → State → State
in_mode mode k a rest s = record s { activations = a ∷ rest; control = k; mode = mode }

-- At work with something else to do.
abbrev pub at_work : {known : Known} {heap : List Object} {places : List Value} {ms : List Master} {more other : Rooms → Holds → Type 0} (w : Working known heap places ms more) → other w.rooms w.holds → Working known heap places ms other
at_work w rest = record { rooms = w.rooms; holds = w.holds; stored = w.stored; roomed = w.roomed; fit = w.fit; rest = rest }

-- The same with less known.
abbrev pub with_less : {known : Known} {heap : List Object} {places : List Value} {ms : List Master} {more other : Rooms → Holds → Type 0} (w : Working known heap places ms more) (holds : Holds) → AsGood w.holds holds → other w.rooms holds → Working known heap places ms other
with_less w holds good rest = record { rooms = w.rooms; holds = holds; stored = w.stored; roomed = w.roomed; fit = weaker_fit holds good w.fit; rest = rest }

abbrev pub at_less : {known : Known} {heap : List Object} {places : List Value} {ms : List Master} {more other : Rooms → Holds → Type 0} (w : Working known heap places ms more) → To (other w.rooms) w.holds → Working known heap places ms other
at_less w rest = with_less w rest.0 rest.1 rest.2

-- Where nothing is left to do, no master is left.
nowhere_goes : {X : Type 0} (mode : Mode) (holds : Holds) → By mode nowhere holds → X
nowhere_goes Running holds g = absurd g
nowhere_goes (Raising e) holds g = absurd g
nowhere_goes Exiting holds g = absurd g
nowhere_goes Returning holds g = absurd g

none_by : (callers : List Caller) (mode : Mode) (ms : List Master) (holds : Holds) → ms ≡ below_callers callers → By mode (at_end callers) holds → NoMaster ms
none_by [] mode ms holds r g = rw r tt
none_by (w ∷ ws) mode ms holds r g = nowhere_goes mode holds g

pub none_left : (known : Known) (mode : Mode) (ms : List Master) (rooms : Rooms) (holds : Holds) → Roomed (below known) ms rooms → GoesOn known mode [] rooms holds → NoMaster ms
none_left known mode ms [] holds r g = none_by known.callers mode ms holds r g
none_left known mode ms (gone ∷ rooms) holds r g = nowhere_goes mode holds g

none_stored : (callers : List Caller) (mode : Mode) (heap : List Object) (ms : List Master) (holds : Holds) → By mode (at_end callers) holds → Stored (under_in callers) heap ms → Stored [] heap ms
none_stored [] mode heap ms holds g stored = stored
none_stored (w ∷ ws) mode heap ms holds g stored = nowhere_goes mode holds g

-- Nor is an object under way then.
pub left_stored : (known : Known) (mode : Mode) (heap : List Object) (ms : List Master) (rooms : Rooms) (holds : Holds) → GoesOn known mode [] rooms holds → Stored (outers known).under heap ms → Stored [] heap ms
left_stored known mode heap ms [] holds g stored = none_stored known.callers mode heap ms holds g stored
left_stored known mode heap ms (gone ∷ rooms) holds g stored = nowhere_goes mode holds g

module _ (known : Known) where
  -- A step that leaves objects as they are.
  pub stays : (e : Event) (after : State) → Ready known after → Says known.implicit known.program e after.heap after → Stepped known after.heap e after
  stays e after r says = record { ready = r; alters = alters_same after.heap e; says = says }

  -- Where a master is to be left, nothing relies on the components of what goes with it, once no operation may be called for that which touches storage.
  pub parts : {heap : List Object} {places : List Value} {ms : List Master} {more : Rooms → Holds → Type 0} → Working known heap places ms more → Parting known heap places ms more
  parts {heap} {places} {ms} w = record { rooms = w.rooms; holds = w.holds; stored = w.stored; roomed = w.roomed; fit = spare_fit (sparing known.ahead heap (innermost ms)) w.fit; rest = w.rest }

  pub runs_ready : (k : Control) (heap : List Object) (places operands : List Value) (ms : List Master) → Working known heap places ms (RunsOn known k) → ReadyIn known Running k heap places operands ms
  runs_ready [] heap places operands ms w = (left_stored known Running heap ms w.rooms w.holds w.rest w.stored, none_left known Running ms w.rooms w.holds w.roomed w.rest)
  runs_ready (Elaborates ds fs hs ∷ k) heap places operands ms w = w
  runs_ready (Does fs ∷ k) heap places operands ms w = inl w
  runs_ready (Repeats condition body ∷ k) heap places operands ms w = w
  runs_ready (Counts x next last body ∷ k) heap places operands ms w = w
  runs_ready (Handles hs ∷ k) heap places operands ms w = w
  runs_ready (Closes ∷ k) heap places operands ms w = w
  runs_ready (Leaves mode ∷ k) heap places operands ms w = parts w
  runs_ready (Returns actuals references ∷ k) heap places operands ms w = w
  runs_ready (f ∷ k) heap places operands ms w = absurd (w.rest)

  -- An exception that passes the frames is on its way: nothing that passes them awaits the body of an operation.
  pub raises_by : (e : Exception) (f : Frame Value) (k : Control) (heap : List Object) (places : List Value) (ms : List Master) → Working known heap places ms (GoesOn known (Raising e) (f ∷ k)) → RaisesBy known e f k heap places ms
  raises_by e (frame.Awaits v by done of part tasks) k heap places ms w = absurd (w.rest)
  raises_by e f k heap places ms w = w

  -- What is left goes on in a mode.
  pub goes_ready : (mode : Mode) (k : Control) (heap : List Object) (places operands : List Value) (ms : List Master) → Working known heap places ms (GoesOn known mode k) → ReadyIn known mode k heap places operands ms
  goes_ready Running k heap places operands ms w = runs_ready k heap places operands ms w
  goes_ready (Raising e) [] heap places operands ms w = (left_stored known (Raising e) heap ms w.rooms w.holds w.rest w.stored, none_left known (Raising e) ms w.rooms w.holds w.roomed w.rest)
  goes_ready (Raising e) (f ∷ k) heap places operands ms w = raises_by e f k heap places ms w
  goes_ready Exiting [] heap places operands ms w = (left_stored known Exiting heap ms w.rooms w.holds w.rest w.stored, none_left known Exiting ms w.rooms w.holds w.roomed w.rest)
  goes_ready Exiting (f ∷ k) heap places operands ms w = w
  goes_ready Returning [] heap places operands ms w = (left_stored known Returning heap ms w.rooms w.holds w.rest w.stored, none_left known Returning ms w.rooms w.holds w.roomed w.rest)
  goes_ready Returning (f ∷ k) heap places operands ms w = w

  -- So does what is left with the second half of a take pair.
  half_ready : (k : Control) (heap : List Object) (places operands : List Value) (ms : List Master) → HalfBy known k heap places ms → ReadyIn known Running k heap places operands ms
  half_ready [] heap places operands ms h = absurd h
  half_ready (Does fs ∷ k) heap places operands ms h = inr h
  half_ready (f ∷ k) heap places operands ms h = absurd h

  pub resumes_ready : (k : Control) (heap : List Object) (places operands : List Value) (ms : List Master) → Resumes known heap places ms k → ReadyIn known Running k heap places operands ms
  resumes_ready k heap places operands ms (inl w) = runs_ready k heap places operands ms w
  resumes_ready k heap places operands ms (inr h) = half_ready k heap places operands ms h

  -- What gets the name of a new object goes on, and so does what is behind a record object, and the end of an object.
  names_ready : (k : Control) (heap : List Object) (places operands : List Value) (ms : List Master) → NamesTo known k heap places operands ms → ReadyIn known Running k heap places operands ms
  names_ready [] heap places operands ms r = absurd r
  names_ready (Stores x ∷ k) heap places operands ms r = inl r
  names_ready (Declares x ∷ k) heap places operands ms r = r
  names_ready (StoresIn o c ∷ k) heap places operands ms r = inl (r.0, inl r.1)
  names_ready (f ∷ k) heap places operands ms r = absurd r

  pub begins_work : (v : Value) (k : Control) (heap : List Object) (places : List Value) (ms : List Master) → Beginning known v k heap places ms → Working known heap places ms (RunsOn known k)
  begins_work v k heap places ms b = record { rooms = b.rooms; holds = b.holds; stored = b.stored; roomed = b.roomed; fit = b.fit; rest = b.runs }

  begun_ready : (v : Value) (k : Control) (heap : List Object) (places operands : List Value) (ms : List Master) → BegunTo known v k heap places operands ms → ReadyIn known Running k heap places operands ms
  begun_ready v k heap places operands ms (inl b) = runs_ready k heap places operands ms (begins_work v k heap places ms b)
  begun_ready v k heap places operands ms (inr r) = names_ready k heap places operands ms r.2

  -- Where nothing is left to be adjusted, no component is hidden.
  adjusted_ready : (v : Value) (k : Control) (heap : List Object) (places operands : List Value) (ms : List Master) → AdjustsTo known v [] k heap places ms → ReadyIn known Running k heap places operands ms
  adjusted_ready v k heap places operands ms to =
      let works : Working known heap places ms (λ rooms holds. RunsOn known k rooms holds × AdjustsAside known to.x.cell.access to.record_type holds) =
      subst (λ (objects : List Object). Working known objects places ms (λ rooms holds. RunsOn known k rooms holds × AdjustsAside known to.x.cell.access to.record_type holds)) (blanked_none to.o heap) to.works in
      runs_ready k heap places operands ms (at_work works works.rest.0)

  ends_ready : (v : Value) (k : Control) (heap : List Object) (places operands : List Value) (ms : List Master) → EndsTo known v k heap places ms → ReadyIn known Running k heap places operands ms
  ends_ready v [] heap places operands ms r = absurd r
  ends_ready v (Ends w ∷ k) heap places operands ms r = r.1
  ends_ready v (f ∷ k) heap places operands ms r = absurd r

  -- So does a record that is assigned to, and whose components get what those of another one hold.
  holder_follows : (heap : List Object) (v : Value) → IsHolder heap v → MayFollow heap v
  holder_follows heap Null there = tt
  holder_follows heap (Names o) there = there
  holder_follows heap (Scalar n) there = tt
  holder_follows heap (Part o place) there = tt

  holder_raises : (heap : List Object) (v : Value) (k : Control) (rooms : Rooms) (holds : Holds) → IsHolder heap v → RaisesAt known v [] k rooms holds
  holder_raises heap Null k rooms holds there = absurd there
  holder_raises heap (Names o) k rooms holds there = λ is. cc is
  holder_raises heap (Scalar n) k rooms holds there = absurd there
  holder_raises heap (Part o place) k rooms holds there = absurd there

  stores_copied : (heap : List Object) (places : List Value) (t : ℕ) (below : List Value) (k : Control) (rooms : Rooms) (holds : Holds) → StoresBehind known heap t k rooms holds → CopiesTo known heap places t below k rooms holds
  stores_copied heap places t below [] rooms holds r = absurd r
  stores_copied heap places t below (StoresRecord o first count ∷ k) rooms holds r = r
  stores_copied heap places t below (f ∷ k) rooms holds r = absurd r

  pub copies_on : (first t : ℕ) (k : Control) (heap : List Object) (places operands : List Value) (ms : List Master) → Working known heap places ms (λ rooms holds. (IsHolder heap (first_or Null operands) × CopiesElsewhere known.program.types t first (first_or Null operands) k) × StoresBehind known heap t k rooms holds) → ReadyIn known Running (Copies first t ∷ k) heap places operands ms
  copies_on first t k heap places operands ms w =
      let v = first_or Null operands in
      at_work w (
        holder_follows heap v w.rest.0.0,
        holder_raises heap v k w.rooms w.holds w.rest.0.0,
        (w.rest.0.1, stores_copied heap places t (older operands) k w.rooms w.holds w.rest.1),
      )

  -- A record lies in an object that is there.
  lying_holder : (heap : List Object) (t : ℕ) (v : Value) → LiesIn known heap t v → IsHolder heap v
  lying_holder heap t Null lies = absurd lies
  lying_holder heap t (Names o) lies = (lies.0, lies.1, lies.2)
  lying_holder heap t (Scalar n) lies = absurd lies
  lying_holder heap t (Part o place) lies = absurd lies

  copies_ready : (k : Control) (heap : List Object) (places operands : List Value) (ms : List Master) → CopiesBehind known k heap places operands ms → ReadyIn known Running k heap places operands ms
  copies_ready [] heap places operands ms r = absurd r
  copies_ready (Copies first t ∷ k) heap places operands ms (copied, w) =
      copies_on first t k heap places operands ms (at_work w ((lying_holder heap t (first_or Null operands) w.rest.0.0, w.rest.0.1), w.rest.1))
  copies_ready (f ∷ k) heap places operands ms r = absurd r

  -- An object is treated first, if anything is to be done.
  ended_ready : (v : Value) (cause : Cause) (k : Control) (heap : List Object) (places operands : List Value) (ms : List Master) → EndsBy known v cause k heap places operands ms → ReadyIn known Running k heap places operands ms
  ended_ready v (Leaving m item) k heap places operands ms r = ends_ready v k heap places operands ms r
  ended_ready v (Freeing number) k heap places operands ms r = ends_ready v k heap places operands ms r
  ended_ready v (Assigning number) k heap places operands ms r = copies_ready k heap places operands ms r
  ended_ready v (Undoing number) k heap places operands ms r = ends_ready v k heap places operands ms r

  pub treats_ready : (v : Value) (treatment : Treatment) (tasks : List Task) (k : Control) (heap : List Object) (places operands : List Value) (ms : List Master) → TreatsBy known v treatment tasks k heap places operands ms → IsOfAssigned known.program.types treatment tasks k → ReadyIn known Running (treating v treatment tasks k) heap places operands ms
  treats_ready v (begins Creation done) [] k heap places operands ms r of = begun_ready v k heap places operands ms r.0
  treats_ready v (begins Copy done) [] k heap places operands ms r of = adjusted_ready v k heap places operands ms r
  treats_ready v (begins (Adjustment number) done) [] k heap places operands ms r of = adjusted_ready v k heap places operands ms r
  treats_ready v (ends cause) [] k heap places operands ms r of = ended_ready v cause k heap places operands ms r
  treats_ready v treatment (task ∷ tasks) k heap places operands ms r of = (r, of)

  -- Any value is stored where nothing relies on it.
  pub lost_stored : (x : ℕ) (k : Control) (v : Value) (heap : List Object) (places : List Value) (ms : List Master) → Working known heap places ms (λ rooms holds. RunsOn known k rooms (slice_set holds x hold.Lost)) → Working known heap (slice_set places x v) ms (RunsOn known k)
  lost_stored x k v heap places ms w = record { rooms = w.rooms; holds = slice_set w.holds x hold.Lost; stored = w.stored; roomed = w.roomed; fit = put_lost x v w.fit; rest = w.rest }

  -- What is left goes on also where no component is to get something.
  pub runs_stores : (k : Control) (heap : List Object) (rooms : Rooms) (holds : Holds) → RunsOn known k rooms holds → StoresOn known heap k rooms holds
  runs_stores [] heap rooms holds r = r
  runs_stores (StoresIn o c ∷ k) heap rooms holds r = absurd r
  runs_stores (f ∷ k) heap rooms holds r = r

  pub stores_ready : (k : Control) (heap : List Object) (places operands : List Value) (ms : List Master) → Working known heap places ms (StoresOn known heap k) → ReadyIn known Running k heap places operands ms
  stores_ready [] heap places operands ms w = runs_ready [] heap places operands ms w
  stores_ready (StoresIn o c ∷ k) heap places operands ms w = inr w
  stores_ready (f ∷ k) heap places operands ms w = runs_ready (f ∷ k) heap places operands ms w

  -- What awaits a value goes on with one, whatever it is.
  pub awaits_ready : (k : Control) (heap : List Object) (places : List Value) (v : Value) (below : List Value) (ms : List Master) → Working known heap places ms (Awaits known heap places below k) → ReadyIn known Running k heap places (v ∷ below) ms
  awaits_ready [] heap places v below ms w = absurd (w.rest)
  awaits_ready (Computes e ∷ k) heap places v below ms w = at_work w (w.rest.0, w.rest.1, w.rest.2 v)
  awaits_ready (Continues links ∷ k) heap places v below ms w = w
  awaits_ready (TestsNull equal ∷ k) heap places v below ms w = w
  awaits_ready (Decides fs branches ∷ k) heap places v below ms w = w
  awaits_ready (Turns e body ∷ k) heap places v below ms w = w
  awaits_ready (Ranges x body ∷ k) heap places v below ms w = w
  awaits_ready (Exits ∷ k) heap places v below ms w = w
  awaits_ready (Applies operator ∷ k) heap places v below ms w = w
  awaits_ready (AppliesAlone operator ∷ k) heap places v below ms w = w
  awaits_ready (Fills items ∷ k) heap places v below ms w = at_work w (w.rest v)
  awaits_ready (Stores x ∷ k) heap places v below ms w = inl (lost_stored x k v heap places ms w)
  awaits_ready (StoresIn o c ∷ k) heap places v below ms w = inr (at_work w (w.rest.0, runs_stores k heap w.rooms w.holds w.rest.1))
  awaits_ready (Declares x ∷ k) heap places v below ms w = record {
    rooms = w.rooms;
    holds = slice_set w.holds x hold.Lost;
    stored = w.stored;
    roomed = w.roomed;
    fit = put_lost x v w.fit;
    rest = w.rest;
  }
  awaits_ready (Calls procedure b actuals ∷ k) heap places v below ms w = at_work w (w.rest v)
  awaits_ready (Evaluates right ∷ k) heap places v below ms w = inr (at_work w (w.rest v))
  awaits_ready (Refers p ∷ k) heap places v below ms w = at_work w (w.rest v)
  awaits_ready (Opens path ∷ k) heap places v below ms w = at_work w (w.rest v)
  awaits_ready (Writes ∷ k) heap places v below ms w = w
  awaits_ready (f ∷ k) heap places v below ms w = absurd (w.rest)

  -- What the value of an actual parameter is awaited by goes on with any one; and actual parameters that are left are ready.
  pub awaits_passes : (heap : List Object) (places : List Value) (k : Control) (below : List Value) (rooms : Rooms) (holds : Holds) → ((v : Value) → PassesTo known heap places (v ∷ below) k rooms holds) → Awaits known heap places below k rooms holds
  awaits_passes heap places [] below rooms holds f = absurd (f Null)
  awaits_passes heap places (Computes e ∷ k) below rooms holds f =
      let now = f Null in
      (now.0, now.1, λ v. let later = f v in awaits_passes heap places k (v ∷ below) rooms holds later.2)
  awaits_passes heap places (Evaluates right ∷ k) below rooms holds f = f
  awaits_passes heap places (Refers p ∷ k) below rooms holds f = f
  awaits_passes heap places (Opens path ∷ k) below rooms holds f = f
  awaits_passes heap places (Calls procedure b actuals ∷ k) below rooms holds f = f
  awaits_passes heap places (Assigns t ∷ k) below rooms holds f = let source = (f Null).0.4 in let is = source.2 in absurd (cc is)
  awaits_passes heap places (f' ∷ k) below rooms holds f = absurd (f Null)

  pub passes_ready : (k : Control) (heap : List Object) (places operands : List Value) (ms : List Master) → Working known heap places ms (PassesTo known heap places operands k) → ReadyIn known Running k heap places operands ms
  passes_ready [] heap places operands ms w = absurd (w.rest)
  passes_ready (Computes e ∷ k) heap places operands ms w = at_work w (w.rest.0, w.rest.1, awaits_passes heap places k operands w.rooms w.holds w.rest.2)
  passes_ready (Evaluates right ∷ k) heap places operands ms w = inr w
  passes_ready (Refers p ∷ k) heap places operands ms w = w
  passes_ready (Opens path ∷ k) heap places operands ms w = w
  passes_ready (Calls procedure b actuals ∷ k) heap places operands ms w = w
  passes_ready (Assigns t ∷ k) heap places operands ms w = w
  passes_ready (f ∷ k) heap places operands ms w = absurd (w.rest)

  module _ (k : Control) (a : Activation Value) (rest : List (Activation Value)) (s : State) where
    -- What awaits a value goes on with one.
    pub goes_on : (v : Value) (below : List Value) → Working known s.heap a.places s.masters (Awaits known s.heap a.places below k) → Stepped known s.heap Quiet (running k (record a { operands = v ∷ below }) rest s)
    goes_on v below w = stays Quiet (running k (record a { operands = v ∷ below }) rest s) (tt, awaits_ready k s.heap a.places v below s.masters w) tt

    -- Something is ready with these operands.
    pub ready_on : (vs : List Value) → ReadyIn known Running k s.heap a.places vs s.masters → Stepped known s.heap Quiet (running k (record a { operands = vs }) rest s)
    ready_on vs r = stays Quiet (running k (record a { operands = vs }) rest s) (tt, r) tt

    -- What is left of the program goes on.
    pub runs_on : Working known s.heap a.places s.masters (RunsOn known k) → (e : Event) → Says known.implicit known.program e s.heap (running k a rest s) → Stepped known s.heap e (running k a rest s)
    runs_on w e says = stays e (running k a rest s) (tt, runs_ready k s.heap a.places a.operands s.masters w) says

    pub resumes_on : Resumes known s.heap a.places s.masters k → (e : Event) → Says known.implicit known.program e s.heap (running k a rest s) → Stepped known s.heap e (running k a rest s)
    resumes_on r e says = stays e (running k a rest s) (tt, resumes_ready k s.heap a.places a.operands s.masters r) says

    pub goes_in_mode : (mode : Mode) → Working known s.heap a.places s.masters (GoesOn known mode k) → Stepped known s.heap Quiet (in_mode mode k a rest s)
    goes_in_mode mode w = stays Quiet (in_mode mode k a rest s) (tt, goes_ready mode k s.heap a.places a.operands s.masters w) tt

    -- A jump begins: an exception is raised, a loop is left, the body returns.
    pub jumps : (mode : Mode) → Working known s.heap a.places s.masters (GoesOn known mode k) → Stepped known s.heap Quiet (jumping mode (running k a rest s))
    jumps mode w = stays Quiet (jumping mode (running k a rest s)) (tt, goes_ready mode k s.heap a.places [] s.masters w) tt

    -- The same with less known.
    pub jumps_less : (mode : Mode) → (w : Working known s.heap a.places s.masters (λ rooms holds. To (λ h. By mode (ways known k rooms) h) holds)) → Stepped known s.heap Quiet (jumping mode (running k a rest s))
    jumps_less mode w = jumps mode (at_less w w.rest)
