-- The body of an operation that touches storage comes to its end (7.6, 7.6.1): what waits for it goes on, with the rest of the treatment, or the end of the object,
-- and then with what is left.

use Rattle.ada_sound.proofs.Leavings.{owns_relied, borrows_relied, component_borrows}
use Rattle.ada_meaning.specs.Heap.{Home}
use Rattle.std.proofs.Common.{◌≡◌, ◌≢◌, ℕ, Bool, true, false, List, [], ◌∷◌, ◌++◌, refl, sym, ap, ◌∙◌, ◌⊎◌, subst, inl, inr, slice_set, drop}
use Rattle.std.specs.Prelude.{Option, Some, None}
use Rattle.std.specs.List.{slice_get}
use Rattle.ada_program.specs.declared.program.Exception.{Exception}
use Rattle.ada_program.specs.declared.program.Program.{Program}
use Rattle.ada_program.specs.ProgramForm.{TypeForm, program_form, body_forms, seen_in}
use Rattle.ada_program.specs.WellFormed.{IsWellFormed}
use Rattle.ada_deeds.specs.Implicit.{implicit_of}
use Rattle.ada_flow.specs.Flow.{Holds, hold_at, variable_access}
use Rattle.ada_meaning.specs.declared.event.Cause.{Cause}
use Rattle.ada_flow.specs.declared.rule.Hold.TheVariants as hold
use Rattle.ada_flow.specs.declared.rule.Region.TheVariants.{Whole}
use Rattle.ada_meaning.specs.declared.event.Birth.TheVariants.{Creation, Copy, Adjustment}
use Rattle.ada_sound.proofs.OperationCalls.{ready_for, ready_raising}
use Rattle.ada_meaning.specs.declared.event.Cause.TheVariants.{Leaving, Freeing, Assigning, Undoing}
use Rattle.ada_meaning.specs.declared.state.Id.{Id}
use Rattle.ada_meaning.specs.declared.state.Mode.{Mode}
use Rattle.ada_meaning.specs.declared.state.Mode.TheVariants.{Running, Raising, Exiting, Returning}
use Rattle.ada_meaning.specs.declared.state.Stage.TheVariants.{Existing}
use Rattle.ada_meaning.specs.declared.state.Value.{Value}
use Rattle.ada_meaning.specs.declared.state.Value.TheVariants.{Names, Null, Scalar, Part}
use Rattle.ada_meaning.specs.Event.{Quiet}
use Rattle.ada_parts.specs.Part as parts
use Rattle.ada_meaning.specs.Frame.{Returns, Ends, ends, begins, Treatment, Stores, Declares, StoresIn, StoresRecord}
use Rattle.ada_meaning.specs.Frame as frame
use Rattle.ada_meaning.specs.State.{Activation, Master}
use Rattle.ada_finalized.specs.Law.{NoOperationRunsOn}
use Rattle.ada_meaning.specs.Step.{moves, treating, operands, places, mode_next, procedure_of, places_of, operands_of, older, first_or}
use Rattle.ada_meaning.specs.Named.{Object, State, named, next, object_at, store}
use Rattle.ada_owners.specs.Places.{Place, variable, component, elsewhere, value_at, access_at, is_there}
use Rattle.ada_owners.specs.Reliance.{Owns, Borrows}
use Rattle.ada_owners.proofs.Changes.{store_reads, store_value}
use Rattle.ada_owners.proofs.Ends.{IsUnnamed}
use Rattle.ada_owners.proofs.Kernel.{same_place}
use Rattle.ada_owners.proofs.Objects.{present_at}
use Rattle.ada_sound.proofs.Activations.{returned_fit}
use Rattle.ada_sound.proofs.Awaiting.{goes_along}
use Rattle.ada_sound.proofs.Callers.{rest_of, Suspension, caller_of, known_in, Stands, AreOf, callers_of}
use Rattle.ada_sound.proofs.Emptying.{null_again}
use Rattle.ada_sound.proofs.Allowance.{Allowance}
use Rattle.ada_sound.proofs.FrugalControl.{FrugalOperated, MayBegin}
use Rattle.ada_sound.proofs.FrugalLeaves.{operated_stays}
use Rattle.ada_sound.proofs.Grounds.{Grounds}
use Rattle.ada_sound.proofs.Held.{fit_unheld, held_alone, holder_if, unnamed_hand, with_held}
use Rattle.ada_sound.proofs.NoneHidden.{blanked_none}
use Rattle.ada_sound.proofs.Touching.{Adjusts, AdjustsBy, AwaitsAmong, Departs, IsNamedNowhere, Pause, Empties, Resting, Rests, RestsAsOwned, RestsAtEnd, Starting, Naming, under_way, Undoes, origin, Overwrites, Releases, RestsBy, StoresInto, Watch, Watched}
use Rattle.ada_sound.proofs.Fits.{Fit, Hand, hold_in, place_at, is_object, stacked, none_spared, plain_place, put_owner, sparing, outer_hold, outer_value_at, spare_fit, weaker_fit, IsReferred, Reference, component_access, component_value, referred_first, store_blank, store_owner}
use Rattle.ada_sound.proofs.Invariant.{AdjustsTo, SparesHolder, AllWait, Control, Known, Rooms, GoesOn, Working, Ending, EndsTo, ReadyIn, TreatsBy, innermost, outer_of, outers, IsLive, Beginning, StartsTo, BeginsWell, Ready, IsActive, AreSuspended, CopiesBehind, EndsBy, LiesIn, StoresBehind, FreesWell, IsCovered, EndsWellBy, AwaitsIn, GoesTo, HasRoom, IsHolder, IsMade, Making, NamesLow, NamesTo, OneAwaits, RoomFor, To, RunsOn, IsOut, departs}
use Rattle.ada_sound.proofs.Operating.{behind_operation, lets_out, WaitsFor}
use Rattle.ada_sound.proofs.Waiting.{stands_behind}
use Rattle.ada_sound.proofs.Returns.{CrossesTo, same_types}
use Rattle.ada_sound.proofs.Stored.{Stored}
use Rattle.ada_sound.proofs.Taken.{stored_after}
use Rattle.ada_sound.proofs.Undone.{beginning_undone, making_undone}
use Rattle.ada_sound.proofs.Alters.{Alters, alters_same}
use Rattle.ada_sound.specs.Agreement.{running_procedure, IsBehind}
use Rattle.ada_sound.proofs.Bodies.{IsBody}
use Rattle.ada_sound.proofs.TouchingRests.{IsEnd}
use Rattle.ada_sound.proofs.TouchingStands.{finalized_by, treating_before}

-- No place names an object that no component owns, where no variable is relied on to name it.
module _ (known : Known) (heap : List Object) (held : List Value) (holds : Holds) (spared : Id → Bool) (o : Id) (alone : (p : Id) (c : ℕ) → value_at heap (stacked held (outers known)) (component p c) ≡ Names o → ⊥) (nowhere : IsNamedNowhere (outers known) held holds o) where
  no_owner : (q : Place) → Owns (hold_in (outers known) spared holds q) → value_at heap (stacked held (outers known)) q ≡ Names o → ⊥
  no_owner (variable x) own names = nowhere.here x (owns_relied (hold_at holds x) own) names
  no_owner (component p c) own names = alone p c names
  no_owner (elsewhere d x) own names =
      nowhere.elsewhere d x (owns_relied (outer_hold (slice_get (outers known).suspended d) x) own) (sym (outer_value_at heap held (outers known) d x) ∙ names)

  no_borrower : (q : Place) → Borrows (hold_in (outers known) spared holds q) → value_at heap (stacked held (outers known)) q ≡ Names o → ⊥
  no_borrower (variable x) borrows names = nowhere.here x (borrows_relied (hold_at holds x) borrows) names
  no_borrower (component p c) borrows names = component_borrows (spared p) borrows
  no_borrower (elsewhere d x) borrows names =
      nowhere.elsewhere d x (borrows_relied (outer_hold (slice_get (outers known).suspended d) x) borrows) (sym (outer_value_at heap held (outers known) d x) ∙ names)

  unnamed_here : IsUnnamed heap (stacked held (outers known)) (hold_in (outers known) spared holds) o
  unnamed_here = record { unowned = no_owner; unborrowed = no_borrower }

-- What waits for a Finalize is ready, once the end of the object is.
ends_first : (known : Known) (o : Id) (after k : Control) (heap : List Object) (held : List Value) (ms : List Master) → after ≡ Ends (Names o) ∷ k → Ending known o k heap held ms → EndsTo known (Names o) after heap held ms
ends_first known o after k heap held ms is ending = rw is (refl, ending)

-- Behind a body that ends, an exception goes on, which has come out of it; else what waits for it does.
abbrev left_mode : Mode → Mode
left_mode Running = Running
left_mode (Raising e) = Raising e
left_mode Exiting = Running
left_mode Returning = Running

-- So a new object may begin then, or be undone.
left_begins : (mode : Mode) → MayBegin (left_mode mode)
left_begins Running = tt
left_begins (Raising e) = tt
left_begins Exiting = tt
left_begins Returning = tt

-- Where the object goes with its collection, no operation runs around the activation that goes on.
abbrev pub DepartsApart : (program : Program) (s : State) → Pause program 0 s → Type 0
DepartsApart program s f =
    Departs (known_in program f.procedure f.suspensions) f.object f.home f.after f.lower f.rooms f.holds → OneAwaits (callers_of program f.suspensions) → ⊥

-- So it is inside another operation, where no object goes so.
pub none_departs :
    (program : Program) (s : State) (f : Pause program 0 s) (frugal : Allowance) (back : Control) (among : List Value) (upper lower : List Master) → f.lower ≡ upper ++ lower
    → FrugalOperated frugal back among f.behind upper → DepartsApart program s f
none_departs program s f frugal back among upper lower masters leads r awaits = by f.treatment f.awaited
  where
    behind_it : Control
    behind_it = Ends (Names f.object) ∷ frame.GivesBack (Names f.object) (Leaving r.master r.item) f.home.pool ∷ frame.Leaves r.mode ∷ r.rest

    by : (treatment : Treatment) → WaitsFor (program_form program).types f.object f.of treatment f.tasks f.after f.behind → ⊥
    by (begins birth done) (part, is) =
        let there : FrugalOperated frugal back among (frame.Awaits (Names f.object) birth done f.of part f.tasks ∷ f.after) upper = subst (λ (k : Control). FrugalOperated frugal back among k upper) is leads in
        let waits : FrugalOperated frugal back among (frame.Awaits (Names f.object) birth done f.of part f.tasks ∷ behind_it) upper =
        subst (λ (k : Control). FrugalOperated frugal back among (frame.Awaits (Names f.object) birth done f.of part f.tasks ∷ k) upper) r.is there in
        waits.3.1.1.0
    by (ends cause) (is, inside) =
        let there : FrugalOperated frugal back among (frame.Confines ∷ treating (Names f.object) (ends cause) f.tasks f.after) upper = subst (λ (k : Control). FrugalOperated frugal back among k upper) is leads in
        let waits : FrugalOperated frugal back among (frame.Confines ∷ treating (Names f.object) (ends cause) f.tasks behind_it) upper =
        subst (λ (k : Control). FrugalOperated frugal back among (frame.Confines ∷ treating (Names f.object) (ends cause) f.tasks k) upper) r.is there in
        let ahead = (known_in program f.procedure f.suspensions).ahead in
        let stays : departs ahead (innermost (upper ++ lower)) ≡ false =
        operated_stays ahead frugal back among (Names f.object) (Names f.object) (ends cause) f.tasks r.master r.item f.home.pool r.mode r.rest upper lower waits in
        let goes : departs ahead (innermost (upper ++ lower)) ≡ true = rw masters at r.departs_so in
        cc (stays, goes)

-- The words of an object are out whose operation ends: it has not gone with its collection.
pub touching_out : (program : Program) (s : State) → Grounds program s → (f : Pause program 0 s) → s.control ≡ Returns [] [] ∷ f.behind → is_there f.x.stage ≡ true → f.x.out ≡ true
touching_out program s grounds f ends_next there = by f.x.out refl
  where
    runs_on : (treatment : Treatment) → WaitsFor (program_form program).types f.object f.of treatment f.tasks f.after f.behind → f.treatment ≡ treatment → NoOperationRunsOn (Names f.object) f.behind → ⊥
    runs_on (begins birth done) (part, is) way none = let first = (subst (NoOperationRunsOn (Names f.object)) is none).0 in first refl
    runs_on (ends cause) (is, inside) way none =
        let rests : RestsBy (known_in program f.procedure f.suspensions) cause f.held f.watch f.object f.access f.home f.places f.operands f.also f.after f.lower f.rooms f.holds = rw way at f.rests in
        let first = (subst (NoOperationRunsOn (Names f.object)) is none).0 in
        first (treating_before (Names f.object) cause f.tasks f.after (finalized_by (known_in program f.procedure f.suspensions) cause f.held f.watch f.object f.access f.home f.places f.operands f.also f.after f.lower f.rooms f.holds rests))

    by : (out : Bool) → f.x.out ≡ out → f.x.out ≡ true
    by true out = out
    by false back =
        let alone = grounds.departed f.object f.x (record { found = f.found; there = there; back = back }) in
        let none : NoOperationRunsOn (Names f.object) (Returns [] [] ∷ f.behind) = subst (NoOperationRunsOn (Names f.object)) ends_next alone.unrun in
        absurd (runs_on f.treatment f.awaited refl none)

module _ (program : Program) (well : IsWellFormed (program_form program)) (s : State) (f : Pause program 0 s) (parted : (cause : Cause) → IsEnd cause → f.treatment ≡ ends cause → f.x.listed ≡ false)
    (out : is_there f.x.stage ≡ true → f.x.out ≡ true) (apart : DepartsApart program s f) (ready : Ready (known_in program (running_procedure s) (origin program 0 s f ∷ f.suspensions)) s) (stands_now : Stands program (origin program 0 s f ∷ f.suspensions) s) (operates : running_procedure s ≡ Some f.number) (a b : Activation Value) (rest : List (Activation Value)) (acts_so : s.activations ≡ a ∷ b ∷ rest) (ends_now : s.control ≡ Returns [] [] ∷ f.behind) (masters_are : s.masters ≡ f.lower) where
  abbrev own : Known
  own = known_in program f.procedure f.suspensions

  abbrev waiting : Suspension
  waiting = origin program 0 s f

  abbrev running : Known
  running = known_in program (Some f.number) (waiting ∷ f.suspensions)

  abbrev Works : List Value → Type 0
  Works held = Working running s.heap held f.lower (λ rooms holds. Unit {0})

  ready_there : Ready running s
  ready_there = subst (λ (procedure : Option ℕ). Ready (known_in program procedure (waiting ∷ f.suspensions)) s) operates ready

  stands_parts : Stands program (waiting ∷ f.suspensions) (record s { activations = a ∷ b ∷ rest })
  stands_parts = record {
    body = subst (λ (all : List (Activation Value)). IsBody (program_form program) (procedure_of all)) acts_so stands_now.body;
    behind = subst (λ (all : List (Activation Value)). IsBehind (procedure_of all) (rest_of (waiting ∷ f.suspensions))) acts_so stands_now.behind;
    bodies = subst (λ (all : List (Activation Value)). AreOf program (older all) (waiting ∷ f.suspensions)) acts_so stands_now.bodies;
    standing = record {
      suspended = subst (λ (all : List (Activation Value)). AreSuspended (older all) (callers_of program (waiting ∷ f.suspensions))) acts_so stands_now.standing.suspended;
      waiting = subst (λ (all : List (Activation Value)). AllWait (implicit_of (program_form program)) (seen_in (procedure_of all) (program_form program)) (callers_of program (waiting ∷ f.suspensions))) acts_so stands_now.standing.waiting;
      low = stands_now.standing.low;
    };
  }

  -- Its caller is that of the operation.
  procedure_is : b.procedure ≡ f.procedure
  procedure_is = stands_parts.bodies.0

  places_are : b.places ≡ f.places
  places_are = stands_parts.standing.suspended.0

  -- No exit leads out of the body.
  none_exited : (k : Control) (rooms : Rooms) (holds : Holds) → GoesOn running Exiting (Returns [] [] ∷ k) rooms holds → ⊥
  none_exited k [] holds is = is
  none_exited k (gone ∷ rooms) holds is = is

  works_by : (mode : Mode) (k : Control) (held computed : List Value) → ReadyIn running mode (Returns [] [] ∷ k) s.heap held computed f.lower → Works held
  works_by Running k held computed w = record { rooms = w.rooms; holds = w.holds; stored = w.stored; roomed = w.roomed; fit = w.fit; rest = tt }
  works_by (Raising e) k held computed w = record { rooms = w.rooms; holds = w.holds; stored = w.stored; roomed = w.roomed; fit = w.fit; rest = tt }
  works_by Exiting k held computed w = absurd (none_exited k w.rooms w.holds w.rest)
  works_by Returning k held computed w = record { rooms = w.rooms; holds = w.holds; stored = w.stored; roomed = w.roomed; fit = w.fit; rest = tt }

  -- So what is behind it is next.
  abbrev acts : Mode → Control → Activation Value → State
  acts mode k c = record s { mode = mode; control = k; activations = c ∷ b ∷ rest; masters = f.lower }

  -- Behind the body: an exception goes on.
  abbrev left_in : Mode → State
  left_in mode = record (behind_operation (b ∷ rest) f.behind f.lower s) { mode = left_mode mode }

  goes_by : (mode : Mode) (c : Activation Value) (held computed : List Value) → ReadyIn running mode (Returns [] [] ∷ f.behind) s.heap held computed f.lower → mode_next named program.types.items (body_forms program) mode (acts mode (Returns [] [] ∷ f.behind) c) ≡ moves Quiet (left_in mode)
  goes_by Running c held computed w = refl
  goes_by (Raising e) c held computed w = refl
  goes_by Exiting c held computed w = absurd (none_exited f.behind w.rooms w.holds w.rest)
  goes_by Returning c held computed w = refl

  ready_now : ReadyIn running s.mode (Returns [] [] ∷ f.behind) s.heap (places s) (operands s) f.lower
  ready_now =
      subst (λ (ms : List Master). ReadyIn running s.mode (Returns [] [] ∷ f.behind) s.heap (places s) (operands s) ms) masters_are
      (subst (λ (k : Control). ReadyIn running s.mode k s.heap (places s) (operands s) s.masters) ends_now ready_there.1)

  works : Works (places s)
  works = works_by s.mode f.behind (places s) (operands s) ready_now

  -- What its caller relies on.
  same_here : running.program.types ≡ own.program.types
  same_here = same_types (Some f.number) (program_form program) ∙ sym (same_types f.procedure (program_form program))

  held_own_fit : Fit own.program.types own.program.variables (with_held (holder_if f.held f.object f.access) (outers own)) none_spared s.heap f.places f.holds
  held_own_fit =
      returned_fit (outer_of (caller_of program waiting f.suspensions)) running.program.variables (places s) works.holds (λ i. None) f.places f.holds own.program.types (with_held (holder_if f.held f.object f.access) (outers own)) waiting.passed waiting.referenced waiting.under none_spared s.heap
      (λ x. inr (inl (refl, refl))) (subst (λ (types : List TypeForm). Fit types running.program.variables (outers running) none_spared s.heap (places s) works.holds) same_here works.fit)
      f.waits.said f.waits.objects

  own_fit : Fit own.program.types own.program.variables (outers own) none_spared s.heap f.places f.holds
  own_fit = fit_unheld f.held f.object f.access held_own_fit

  -- No component owns the object, where it is held, or a variable owns it.
  abbrev IsAlone : Type 0
  IsAlone = (p : Id) (c : ℕ) → value_at s.heap (stacked f.places (outers own)) (component p c) ≡ Names f.object → ⊥

  held_is_alone : f.held ≡ true → IsAlone
  held_is_alone is p c names = held_alone (outers own) f.held f.object f.access is held_own_fit p c names

  owned_is_alone : (x : ℕ) → (f.held ≡ true) ⊎ (Owns (hold_at f.holds x) × (place_at f.places x ≡ Names f.object)) → IsAlone
  owned_is_alone x (inl is) p c names = held_is_alone is p c names
  owned_is_alone x (inr owner) p c names = let same = own_fit.owners.fit.apart (variable x) (component p c) f.object owner.0 tt owner.1 names in cc same

  there : access_at s.heap f.object ≡ Some f.access
  there = works.fit.referred f.object f.access (inl (refl, refl))

  exists_still : f.x.stage ≡ Existing
  exists_still =
      let present = present_at s.heap f.object f.access there in
      let same : present.object ≡ f.x = let is = present.found in let found = f.found in cc (is, found) in
      (works.stored.sane f.object f.x f.found).there_exists (rw same at present.there)

  -- So its words are out.
  out_still : f.x.out ≡ true
  out_still = out (rw exists_still refl)

  out_here : IsOut s.heap (Names f.object)
  out_here p z is at =
      let same : f.object ≡ p = cc is in
      let one : f.x ≡ z = let found = f.found in cc (rw (← same) at at, found) in
      rw one at out_still

  -- Where it goes with its collection, what each variable is relied on to name has its home in these masters.
  names_low : Departs own f.object f.home f.after f.lower f.rooms f.holds → NamesLow s.heap f.places f.lower f.holds
  names_low r y p object relied names at =
      let lies = stands_parts.standing.low.0 y p relied names in
      let one : lies.0 ≡ object = let found = lies.1 in cc (found, at) in
      elim (lies.2) [ inl low ↦ rw one at low | inr around ↦ absurd (apart r around.1) ]

  -- No place names the object, where nothing is relied on to name it.
  unnamed_by : (held : List Value) (holds : Holds) (spared : Id → Bool) → IsAlone → IsNamedNowhere (outers own) held holds f.object → IsUnnamed s.heap (stacked held (outers own)) (hold_in (outers own) spared holds) f.object
  unnamed_by held holds spared alone nowhere = unnamed_here own s.heap held holds spared f.object alone nowhere

  own_stored : (treatment : Treatment) → f.treatment ≡ treatment → Stored (under_way treatment f.object ++ (outers own).under) s.heap f.lower
  own_stored treatment is = subst (λ (by : Treatment). Stored (under_way by f.object ++ (outers own).under) s.heap f.lower) is works.stored

  end_stored : (cause : Cause) → IsEnd cause → f.treatment ≡ ends cause → Stored (f.object ∷ (outers own).under) s.heap f.lower
  end_stored (Leaving m item) end is = own_stored (ends (Leaving m item)) is
  end_stored (Freeing number) end is = own_stored (ends (Freeing number)) is
  end_stored (Assigning number) end is = absurd end
  end_stored (Undoing number) end is = own_stored (ends (Undoing number)) is

  -- Of what the end of the object may free, there is no alias, and the body may free it that goes on.
  frees_well : (holds : Holds) → EndsWellBy own f.access holds → FreesWell own s.heap (Some f.object) holds
  frees_well holds well object at =
      let one : f.x ≡ object = let here = f.found in cc (here, at) in
      let of : f.access ≡ object.cell.access = sym f.of_access ∙ ap (λ (x : Object). x.cell.access) one in
      subst (λ (t : ℕ). EndsWellBy own t holds) of well

  -- No other place owns the object than a component that names it, and that becomes null.
  released_alone :
      (h : Id) (holder : Object) (c : ℕ) → object_at s.heap h ≡ Some holder → is_there holder.stage ≡ true → slice_get holder.cell.values c ≡ Some (Names f.object)
      → (q : Place) → (q ≡ component h c) ⊎ (q ≢ component h c) → Owns (hold_in (outers own) none_spared f.holds q)
      → value_at (store s.heap (Names h) c Null) (stacked f.places (outers own)) q ≡ Names f.object → ⊥
  released_alone h holder c found exists names q (inl same) owns is =
      let null : Null ≡ Names f.object = store_value s.heap h holder found c Null (stacked f.places (outers own)) f.object (rw same at is) in
      cc null
  released_alone h holder c found exists names q (inr ne) owns is =
      let before = sym (store_reads s.heap h holder found c Null (stacked f.places (outers own)) q ne) ∙ is in
      ne (own_fit.owners.fit.apart q (component h c) f.object owns tt before (component_value s.heap (stacked f.places (outers own)) h holder c (Names f.object) found exists names))

  -- The object is to cease to exist, and its words go back, before what is left of its master.
  resting_ends : (cause : Cause) → IsEnd cause → f.treatment ≡ ends cause → f.held ≡ true → (r : Resting own f.object f.home f.places f.after f.lower f.rooms f.holds) → Ending own f.object (frame.GivesBack (Names f.object) (Leaving r.master r.item) f.home.pool ∷ frame.Leaves r.mode ∷ r.rest) s.heap f.places f.lower
  resting_ends cause end is held r =
      let fit = spare_fit (sparing own.ahead s.heap (innermost f.lower)) own_fit in
      record {
        object = f.x;
        found = f.found;
        exists = exists_still;
        out = out_still;
        parted = parted cause end is;
        stored = end_stored cause end is;
        covered = tt;
        rest = (
          refl,
          ap (λ (home : Home). home.pool) (sym f.at_home),
          (
            rw f.at_home r.own_item,
            rw f.at_home r.newest,
            inl (
              r.stays_so,
              record {
                rooms = f.rooms;
                holds = f.holds;
                roomed = f.waits.roomed;
                fit = fit;
                aside = (unnamed_by f.places f.holds (sparing own.ahead s.heap (innermost f.lower)) (held_is_alone held) r.nowhere, r.unreferred);
                rest = r.runs;
              },
            ),
          ),
        );
      }

  -- So it is where the object goes with its collection, whatever names it.
  departing_ends : (cause : Cause) → IsEnd cause → f.treatment ≡ ends cause → (r : Departs own f.object f.home f.after f.lower f.rooms f.holds) → Ending own f.object (frame.GivesBack (Names f.object) (Leaving r.master r.item) f.home.pool ∷ frame.Leaves r.mode ∷ r.rest) s.heap f.places f.lower
  departing_ends cause end is r =
      let fit = spare_fit (sparing own.ahead s.heap (innermost f.lower)) own_fit in
      record {
        object = f.x;
        found = f.found;
        exists = exists_still;
        out = out_still;
        parted = parted cause end is;
        stored = end_stored cause end is;
        covered = tt;
        rest = (
          refl,
          ap (λ (home : Home). home.pool) (sym f.at_home),
          (
            rw f.at_home r.own_item,
            rw f.at_home r.newest,
            inr (
              r.departs_so,
              r.unreferred,
              record {
                rooms = f.rooms;
                holds = f.holds;
                roomed = f.waits.roomed;
                fit = fit;
                aside = tt;
                rest = (r.runs, names_low r);
              },
            ),
          ),
        );
      }

  -- So it is, before the exception goes on that came out of its initialization.
  undoing_ends : (cause : Cause) → IsEnd cause → f.treatment ≡ ends cause → f.held ≡ true → (r : Undoes own f.object f.access f.home f.places f.after f.rooms f.holds) → Ending own f.object (frame.GivesBack (Names f.object) (Undoing r.number) f.home.pool ∷ frame.Resumes r.mode ∷ r.rest) s.heap f.places f.lower
  undoing_ends cause end is held r = record {
    object = f.x;
    found = f.found;
    exists = exists_still;
    out = out_still;
    parted = parted cause end is;
    stored = end_stored cause end is;
    covered = tt;
    rest = (
      refl,
      ap (λ (home : Home). home.pool) (sym f.at_home),
      (
        f.access,
        (f.x, f.found, f.of_access, out_still),
        r.came,
        inr (record {
          rooms = f.rooms;
          holds = f.holds;
          roomed = f.waits.roomed;
          fit = own_fit;
          aside = (unnamed_by f.places f.holds none_spared (held_is_alone held) r.nowhere, r.unreferred);
          rest = (r.runs, r.well);
        }),
      ),
    );
  }

  -- So it is, before the variable becomes null that is freed.
  emptying_ends : (cause : Cause) → IsEnd cause → f.treatment ≡ ends cause → f.held ≡ true → (r : Empties own f.object f.access f.home f.places f.after f.rooms f.holds) → Ending own f.object (frame.GivesBack (Names f.object) (Freeing r.number) f.home.pool ∷ frame.Clears r.x ∷ r.rest) s.heap f.places f.lower
  emptying_ends cause end is held r =
      let lost = subst (λ (holds : Holds). Fit own.program.types own.program.variables (outers own) none_spared s.heap f.places holds) r.lost own_fit in
      let fit = null_again r.x lost r.said r.fits in
      record {
        object = f.x;
        found = f.found;
        exists = exists_still;
        out = out_still;
        parted = parted cause end is;
        stored = end_stored cause end is;
        covered = subst (λ (t : ℕ). IsCovered own.implicit own.program (Freeing r.number) t) (sym f.of_access) r.covered;
        rest = (
          refl,
          ap (λ (home : Home). home.pool) (sym f.at_home),
          record {
            rooms = f.rooms;
            holds = r.before;
            roomed = f.waits.roomed;
            fit = fit;
            aside = (unnamed_by (slice_set f.places r.x Null) r.before none_spared (held_is_alone held) r.nowhere, r.unreferred);
            rest = (r.runs, frees_well r.before r.well);
          },
        );
      }

  -- So it is, before the component becomes null that is freed: it owned the object alone.
  releasing_ends : (cause : Cause) → IsEnd cause → f.treatment ≡ ends cause → (r : Releases own f.watch f.object f.access f.home f.places f.after f.rooms f.holds) → Ending own f.object (frame.GivesBack (Names f.object) (Freeing r.number) f.home.pool ∷ frame.ClearsIn (Names r.w.holder) r.c ∷ r.rest) s.heap f.places f.lower
  releasing_ends cause end is r =
      let still : Watched program (Some r.w) f.behind f.lower s = subst (λ (watch : Option Watch). Watched program watch f.behind f.lower s) r.watched f.still in
      record {
        object = f.x;
        found = f.found;
        exists = exists_still;
        out = out_still;
        parted = parted cause end is;
        stored = end_stored cause end is;
        covered = subst (λ (t : ℕ). IsCovered own.implicit own.program (Freeing r.number) t) (sym f.of_access) r.covered;
        rest = (
          refl,
          ap (λ (home : Home). home.pool) (sym f.at_home),
          (
            (r.w.is, still.0, r.there),
            (λ same. r.other (cc same)),
            (
              r.w.is,
              f.x,
              still.0,
              f.found,
              r.of_type ∙ ap Some (sym f.of_access),
              r.names,
              subst (λ (t : ℕ). SparesHolder own t r.w.is.cell.access) (sym f.of_access) r.spared,
            ),
            record {
              rooms = f.rooms;
              holds = f.holds;
              roomed = f.waits.roomed;
              fit = store_blank r.w.holder r.w.is r.c Null still.0 (λ q is. cc is) own_fit;
              aside = (
                unnamed_here own (store s.heap (Names r.w.holder) r.c Null) f.places f.holds none_spared f.object
                    (λ p c. released_alone r.w.holder r.w.is r.c still.0 r.there r.names (component p c) (same_place (component p c) (component r.w.holder r.c)) tt) r.nowhere,
                r.unreferred,
              );
              rest = (r.runs, frees_well f.holds r.well);
            },
          ),
        );
      }

  -- Its initialization goes on, or what is left does.
  beginning : (done : List parts.Part) → f.treatment ≡ begins Creation done → Starting own f.held f.object f.access f.places f.after f.rooms f.holds → Beginning own (Names f.object) f.after s.heap f.places f.lower
  beginning done is r =
      record {
        o = f.object;
        object = f.x;
        is = refl;
        found = f.found;
        x = r.x;
        rooms = f.rooms;
        holds = f.holds;
        stored = own_stored (begins Creation done) is;
        roomed = f.waits.roomed;
        fit = own_fit;
        aside = (unnamed_by f.places (slice_set f.holds r.x hold.Lost) none_spared (owned_is_alone r.x r.owner) r.nowhere, r.unreferred);
        runs = r.runs;
        undone = subst (λ (t : ℕ). StartsTo own t f.after f.rooms (slice_set f.holds r.x hold.Lost)) (sym f.of_access) r.undone;
        well = subst (λ (t : ℕ). BeginsWell own t f.holds) (sym f.of_access) r.well;
      }

  -- The end of the object is next behind its finalization.
  ends_next : (cause : Cause) → IsEnd cause → f.treatment ≡ ends cause → f.held ≡ true → RestsAtEnd own f.object f.access f.home f.places f.after f.lower f.rooms f.holds
      → EndsTo own (Names f.object) f.after s.heap f.places f.lower
  ends_next cause end is held (inl r) = ends_first own f.object f.after _ s.heap f.places f.lower r.is (resting_ends cause end is held r)
  ends_next cause end is held (inr (inl r)) = ends_first own f.object f.after _ s.heap f.places f.lower r.is (undoing_ends cause end is held r)
  ends_next cause end is held (inr (inr r)) = ends_first own f.object f.after _ s.heap f.places f.lower r.is (emptying_ends cause end is held r)

  -- So it is, whether it is held, or a component owns it that is freed, or it goes with its collection.
  owned_ends : (cause : Cause) → IsEnd cause → f.treatment ≡ ends cause → RestsAsOwned own f.held f.watch f.object f.access f.home f.places f.after f.lower f.rooms f.holds
      → EndsTo own (Names f.object) f.after s.heap f.places f.lower
  owned_ends cause end is (inl (held, r)) = ends_next cause end is held r
  owned_ends cause end is (inr (inl r)) = ends_first own f.object f.after _ s.heap f.places f.lower r.is (releasing_ends cause end is r)
  owned_ends cause end is (inr (inr (unheld, r))) = ends_first own f.object f.after _ s.heap f.places f.lower r.is (departing_ends cause end is r)

  -- The copy is next, where a record in the object is assigned to.
  operands_are : f.operands ≡ b.operands
  operands_are =
      sym f.computed ∙ ap (λ (all : List (Activation Value)). operands_of (drop 1 all)) acts_so

  -- The object is in hand, where nothing is relied on to name it.
  in_hand : f.held ≡ true → IsNamedNowhere (outers own) f.places f.holds f.object → Hand own.program.types own.program.variables (outers own) none_spared s.heap f.places f.holds (Some f.access) (Names f.object)
  in_hand held nowhere = unnamed_hand (outers own) s.heap f.object f.access there none_spared f.places f.holds (λ p. refl) (unnamed_by f.places f.holds none_spared (held_is_alone held) nowhere)

  -- The activation that goes on has the operands that it had.
  named_here : first_or Null f.operands ≡ Names f.object → first_or Null b.operands ≡ Names f.object
  named_here named = ap (first_or Null) (sym operands_are) ∙ named

  -- Other objects to which the activation refers that goes on are there still; so is the one whose component waits for a name.
  referred_still : (p : Id) (t : ℕ) → IsReferred f.also p t → access_at s.heap p ≡ Some t
  referred_still p t is = works.fit.referred p t (inr (referred_first f.also (outers own).referenced p t is))

  awaits_still : (v : Value) (c : ℕ) → AwaitsAmong own f.also f.access v c → AwaitsIn own s.heap f.access v c
  awaits_still Null c awaits = absurd awaits
  awaits_still (Names p) c (t, refers, may) = (t, referred_still p t refers, may)
  awaits_still (Scalar n) c awaits = absurd awaits
  awaits_still (Part p place) c awaits = absurd awaits

  -- The object is one that an allocator made: what gets its name goes on behind its initialization.
  module _ (done : List parts.Part) (is : f.treatment ≡ begins Creation done) (r : Naming own f.held f.object f.access f.places f.operands f.also f.after f.rooms f.holds) where
    making : Making own f.object f.access f.after s.heap f.places f.lower
    making = record {
      rooms = f.rooms;
      holds = f.holds;
      stored = own_stored (begins Creation done) is;
      roomed = f.waits.roomed;
      fit = own_fit;
      aside = (unnamed_by f.places f.holds none_spared (held_is_alone r.is_held) r.nowhere, r.unreferred);
      room = r.room;
      to = goes_along own (AwaitsAmong own f.also f.access) (AwaitsIn own s.heap f.access) awaits_still f.access f.after f.rooms f.holds r.to;
      undone = r.undone;
      well = r.well;
    }

    is_made : IsMade own (Names f.object) f.after s.heap f.places f.lower
    is_made o y names at touches =
        let same : f.object ≡ o = cc names in
        let one : y ≡ f.x = let found = f.found in cc (rw (← same) at at, found) in
        let access : f.access ≡ y.cell.access = sym (ap (λ (z : Object). z.cell.access) one ∙ f.of_access) in
        subst (λ (p : Id). Making own p y.cell.access f.after s.heap f.places f.lower) same
        (subst (λ (t : ℕ). Making own f.object t f.after s.heap f.places f.lower) access making)

    -- A variable owns it then.
    owned_by : (x : ℕ) (More : Rooms → Holds → Type 0) → variable_access own.program.variables x ≡ Some f.access → is_object own.program.variables x ≡ false → To (More f.rooms) (slice_set f.holds x (hold.Own Whole))
        → Working own s.heap (slice_set f.places x (first_or Null b.operands)) f.lower More
    owned_by x More access other goes =
        subst (λ (v : Value). Working own s.heap (slice_set f.places x v) f.lower More) (sym (named_here r.named)) (record {
          rooms = f.rooms;
          holds = goes.0;
          stored = own_stored (begins Creation done) is;
          roomed = f.waits.roomed;
          fit = weaker_fit goes.0 goes.1 (put_owner x (Names f.object) Whole tt (plain_place own.program.types (outers own).referenced own.program.variables f.places x (Names f.object) other tt) (rw access (in_hand r.is_held r.nowhere)) own_fit);
          rest = goes.2;
        })

    -- Or a component does.
    stored_by : (v : Value) (c : ℕ) (k : Control) → AwaitsIn own s.heap f.access v c → To (RunsOn own k f.rooms) f.holds
        → IsHolder s.heap v × Working own (store s.heap v c (first_or Null b.operands)) f.places f.lower (RunsOn own k)
    stored_by Null c k awaits goes = absurd awaits
    stored_by (Names h) c k (t, there', (accepts, spared)) goes =
        let holder = present_at s.heap h t there' in
        let of : component_access own.program.types holder.object c ≡ Some f.access = rw (holder.access) accepts in
        let fit = store_owner h holder.object c (Names f.object) holder.found holder.there (rw of (in_hand r.is_held r.nowhere)) own_fit in (
          (holder.object, holder.found, holder.there),
          subst (λ (w : Value). Working own (store s.heap (Names h) c w) f.places f.lower (RunsOn own k)) (sym (named_here r.named)) (record {
            rooms = f.rooms;
            holds = goes.0;
            stored = stored_after s.heap h c (Names f.object) (own_stored (begins Creation done) is);
            roomed = f.waits.roomed;
            fit = weaker_fit goes.0 goes.1 fit;
            rest = goes.2;
          }),
        )
    stored_by (Scalar n) c k awaits goes = absurd awaits
    stored_by (Part h place) c k awaits goes = absurd awaits

    names_by : (k : Control) → RoomFor k f.rooms → GoesTo own (AwaitsAmong own f.also f.access) f.access k f.rooms f.holds → NamesTo own k s.heap f.places b.operands f.lower
    names_by [] room to = absurd to
    names_by (Stores x ∷ k) room to = owned_by x (RunsOn own k) to.0.0 to.0.1 to.1
    names_by (Declares x ∷ k) room to = owned_by x (λ rooms holds. HasRoom rooms × RunsOn own k rooms holds) to.0.0 to.0.1 (to.1.0, to.1.1, (room, to.1.2))
    names_by (StoresIn v c ∷ k) room to = stored_by v c k (awaits_still v c to.0) to.1
    names_by (g ∷ k) room to = absurd to

    making_treats : TreatsBy own (Names f.object) (begins Creation done) f.tasks f.after s.heap f.places b.operands f.lower
    making_treats = (
      inr (named_here r.named, is_made, names_by f.after r.room r.to),
      (own_stored (begins Creation done) is, (λ e raises. making_undone own f.object f.access f.after s.heap f.places f.lower making (f.x, f.found, f.of_access, out_still) e raises), out_here),
    )

  stores_next : (t : ℕ) (k : Control) (rooms : Rooms) (holds : Holds) → StoresInto own f.object f.access t k rooms holds → StoresBehind own s.heap t k rooms holds
  stores_next t [] rooms holds r = absurd r
  stores_next t (StoresRecord v first count ∷ k) rooms holds (is, inl (plain, behind)) =
      inl (rw is (f.x, f.found, rw exists_still refl, λ components reached. plain components (rw (← f.of_access) reached)), behind)
  stores_next t (StoresRecord v first count ∷ k) rooms holds (is, inr adjusted) =
      inr (rw is (f.x, f.found, rw exists_still refl, rw f.of_access adjusted))
  stores_next t (f' ∷ k) rooms holds r = absurd r

  copies_next : (number : ℕ) → f.treatment ≡ ends (Assigning number) → Overwrites own f.object f.access f.operands f.also f.after f.rooms f.holds → CopiesBehind own f.after s.heap f.places b.operands f.lower
  copies_next number is r =
      let referred : IsReferred (outers running).referenced r.source.object r.source.access = inr (subst (λ (also : List Reference). IsReferred (also ++ (outers own).referenced) r.source.object r.source.access) (sym r.refers) (inl (refl, refl))) in
      let source = present_at s.heap r.source.object r.source.access (works.fit.referred r.source.object r.source.access referred) in
      let lies : LiesIn own s.heap r.record_type (Names r.source.object) = (source.object, source.found, source.there, rw (source.access) r.lies) in
      let named : first_or Null b.operands ≡ Names r.source.object = ap (first_or Null) (sym operands_are) ∙ r.named in
      rw r.is (
        r.copied,
        record {
          rooms = f.rooms;
          holds = f.holds;
          stored = own_stored (ends (Assigning number)) is;
          roomed = f.waits.roomed;
          fit = own_fit;
          rest = ((rw named lies, rw named r.elsewhere), stores_next r.record_type r.stores f.rooms f.holds r.into, r.well);
        },
      )

  -- The object is a copy: the parts that are left are adjusted next, and nothing of it is hidden.
  adjusting_treats : (r : Adjusts own f.access f.tasks f.after f.rooms f.holds) → Stored (outers own).under s.heap f.lower → AdjustsTo own (Names f.object) f.tasks f.after s.heap f.places f.lower
  adjusting_treats r stored = record {
    o = f.object;
    is = refl;
    x = f.x;
    found = f.found;
    there = rw exists_still refl;
    record_type = r.record_type;
    left = rw f.of_access r.left;
    copied = inl (rw (f.of_access, r.none) refl);
    named = rw (f.of_access, r.none) tt;
    works = rw (f.of_access, r.none, blanked_none f.object s.heap) (record {
      rooms = f.rooms;
      holds = f.holds;
      stored = stored;
      roomed = f.waits.roomed;
      fit = own_fit;
      rest = (r.runs, r.aside);
    });
  }

  ends_by : (cause : Cause) → f.treatment ≡ ends cause → RestsBy own cause f.held f.watch f.object f.access f.home f.places f.operands f.also f.after f.lower f.rooms f.holds → EndsBy own (Names f.object) cause f.after s.heap f.places b.operands f.lower
  ends_by (Leaving m item) is (none_also, r) = owned_ends (Leaving m item) tt is r
  ends_by (Freeing number) is (none_also, r) = owned_ends (Freeing number) tt is r
  ends_by (Assigning number) is r = copies_next number is r
  ends_by (Undoing number) is (none_also, r) = owned_ends (Undoing number) tt is r

  treats_by : (treatment : Treatment) → f.treatment ≡ treatment → Rests own treatment f.held f.watch f.object f.access f.home f.places f.operands f.also f.after f.lower f.rooms f.holds → TreatsBy own (Names f.object) treatment f.tasks f.after s.heap f.places b.operands f.lower
  treats_by (begins Creation done) is (inl (none_also, r)) =
      let b = beginning done is r in (
        inl b,
        (own_stored (begins Creation done) is, (λ e raises. beginning_undone own (Names f.object) f.after s.heap f.places f.lower b out_here e raises), out_here),
      )
  treats_by (begins Creation done) is (inr r) = making_treats done is r
  treats_by (begins Copy done) is r =
      adjusting_treats (subst (λ (by : Treatment). AdjustsBy own by f.access f.tasks f.after f.rooms f.holds) is f.adjusts) (own_stored (begins Copy done) is)
  treats_by (begins (Adjustment number) done) is r =
      adjusting_treats (subst (λ (by : Treatment). AdjustsBy own by f.access f.tasks f.after f.rooms f.holds) is f.adjusts) (own_stored (begins (Adjustment number) done) is)
  treats_by (ends cause) is r = ends_by cause is r

  live : IsLive s.heap (Names f.object)
  live = (f.x.cell, rw (f.found, exists_still) refl)

  awaited_there : WaitsFor own.program.types f.object f.of f.treatment f.tasks f.after f.behind
  awaited_there = subst (λ (types : List TypeForm). WaitsFor types f.object f.of f.treatment f.tasks f.after f.behind) (sym (same_types f.procedure (program_form program))) f.awaited

  behind_ready : ReadyIn own Running f.behind s.heap f.places b.operands f.lower
  behind_ready =
      ready_for own f.object f.of f.treatment f.tasks f.after f.behind s.heap f.places b.operands f.lower live awaited_there (treats_by f.treatment refl f.rests)

  -- What waits goes on.
  crosses : (after : State) → after.activations ≡ b ∷ rest → after.heap ≡ s.heap → ReadyIn own after.mode after.control after.heap f.places b.operands after.masters → CrossesTo program f.suspensions s.heap Quiet after
  crosses after active same r = record {
    stepped = record {
      ready = goes_ready_there;
      alters = subst (λ (heap : List Object). Alters s.heap Quiet heap) (sym same) (alters_same s.heap Quiet);
      says = tt;
    };
    stands = stands_behind program waiting f.suspensions a b rest s stands_parts after active same;
  }
    where
      by_parts : (all : List (Activation Value)) → all ≡ b ∷ rest → IsActive all × ReadyIn (known_in program (procedure_of all) f.suspensions) after.mode after.control after.heap (places_of all) (operands_of all) after.masters
      by_parts all is =
          subst (λ (acts : List (Activation Value)). IsActive acts × ReadyIn (known_in program (procedure_of acts) f.suspensions) after.mode after.control after.heap (places_of acts) (operands_of acts) after.masters) (sym is)
          (tt, rw (procedure_is, places_are) r)

      goes_ready_there : Ready (known_in program (running_procedure after) f.suspensions) after
      goes_ready_there = by_parts after.activations active

  crosses_back : CrossesTo program f.suspensions s.heap Quiet (behind_operation (b ∷ rest) f.behind f.lower s)
  crosses_back = crosses (behind_operation (b ∷ rest) f.behind f.lower s) refl refl behind_ready

  -- An exception comes out of an Initialize: the object is undone next.
  raises_back : (e : Exception) → lets_out (implicit_of (program_form program)) f.access f.treatment e ≡ true → CrossesTo program f.suspensions s.heap Quiet (left_in (Raising e))
  raises_back e out =
      crosses (left_in (Raising e)) refl refl
      (ready_raising own f.object f.of f.treatment f.access f.tasks f.after f.behind s.heap f.places b.operands f.lower e f.x f.found f.of_access live awaited_there out (treats_by f.treatment refl f.rests))

  raised_out : (e : Exception) (rooms : Rooms) (holds : Holds) → GoesOn running (Raising e) (Returns [] [] ∷ f.behind) rooms holds → lets_out (implicit_of (program_form program)) f.access f.treatment e ≡ true
  raised_out e [] holds (may, is, keeps) = f.lets e may
  raised_out e (gone ∷ rooms) holds is = absurd is

  crosses_by : (mode : Mode) (held computed : List Value) → ReadyIn running mode (Returns [] [] ∷ f.behind) s.heap held computed f.lower → CrossesTo program f.suspensions s.heap Quiet (left_in mode)
  crosses_by Running held computed w = crosses_back
  crosses_by (Raising e) held computed w = raises_back e (raised_out e w.rooms w.holds w.rest)
  crosses_by Exiting held computed w = crosses_back
  crosses_by Returning held computed w = crosses_back

  -- The state, by its parts.
  state_is : acts s.mode (Returns [] [] ∷ f.behind) a ≡ s
  state_is =
      subst (λ (k : Control). acts s.mode k a ≡ s) ends_now
      (subst (λ (all : List (Activation Value)). record s { activations = all; masters = f.lower } ≡ s) acts_so
      (subst (λ (ms : List Master). record s { masters = ms } ≡ s) masters_are refl))

  goes_now : next program.types.items (body_forms program) s ≡ moves Quiet (left_in s.mode)
  unfolding next
  goes_now =
      subst (λ (t : State). mode_next named program.types.items (body_forms program) s.mode t ≡ moves Quiet (left_in s.mode)) state_is
      (goes_by s.mode a (places s) (operands s) ready_now)

-- When the end of the body is next, what waits for the operation goes on, perhaps with an exception, which comes out of an Initialize alone.
pub touching_ends :
    (program : Program) → IsWellFormed (program_form program) → (s : State) → (f : Pause program 0 s) → ((cause : Cause) → IsEnd cause → f.treatment ≡ ends cause → f.x.listed ≡ false)
    → (is_there f.x.stage ≡ true → f.x.out ≡ true) → DepartsApart program s f
    → Ready (known_in program (running_procedure s) (origin program 0 s f ∷ f.suspensions)) s → Stands program (origin program 0 s f ∷ f.suspensions) s → running_procedure s ≡ Some f.number
    → (a b : Activation Value) (rest : List (Activation Value)) → s.activations ≡ a ∷ b ∷ rest → s.control ≡ Returns [] [] ∷ f.behind → s.masters ≡ f.lower
    → (mode : Mode) × MayBegin mode × (next program.types.items (body_forms program) s ≡ moves Quiet (record (behind_operation (b ∷ rest) f.behind f.lower s) { mode = mode }))
    × CrossesTo program f.suspensions s.heap Quiet (record (behind_operation (b ∷ rest) f.behind f.lower s) { mode = mode })
touching_ends program well s f parted out apart ready stands operates a b rest acts_so ends_now masters_are = (
  left_mode s.mode,
  left_begins s.mode,
  goes_now program well s f parted out apart ready stands operates a b rest acts_so ends_now masters_are,
  crosses_by program well s f parted out apart ready stands operates a b rest acts_so ends_now masters_are s.mode (places s) (operands s)
      (ready_now program well s f parted out apart ready stands operates a b rest acts_so ends_now masters_are),
)
