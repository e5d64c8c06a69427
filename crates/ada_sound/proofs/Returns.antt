-- The body of a call comes to its end, by a return or by an exception: its caller goes on.

use Rattle.std.proofs.Common.{◌≡◌, ℕ, true, List, [], ◌∷◌, ◌++◌, refl, sym, ap, ◌∙◌, subst, inl, inr}
use Rattle.std.specs.Prelude.{Option, Some, None}
use Rattle.std.specs.List.{slice_get}
use Rattle.ada_deeds.specs.Implicit.{implicit_of}
use Rattle.ada_program.specs.declared.program.Exception.{Exception}
use Rattle.ada_program.specs.declared.program.Program.{Program}
use Rattle.ada_program.specs.Form.{ActualForm}
use Rattle.ada_program.specs.ProgramForm.{TypeForm, BodyForm, ProgramForm, program_form, seen_at, seen_in}
use Rattle.ada_flow.specs.Flow.{Holds, hold_at, handed_back, left_unkept, all_give_back}
use Rattle.ada_flow.specs.Tracking.{no_tracks}
use Rattle.ada_meaning.specs.declared.state.Value.{Value}
use Rattle.ada_meaning.specs.declared.state.Mode.{Mode}
use Rattle.ada_meaning.specs.declared.state.Mode.TheVariants.{Running, Raising, Exiting, Returning}
use Rattle.ada_meaning.specs.Event.{Quiet}
use Rattle.ada_meaning.specs.Frame.{Returns}
use Rattle.ada_meaning.specs.State.{Activation, Master}
use Rattle.ada_meaning.specs.Step.{places_of, operands_of, with_places, with_operands, copied_back, stored_back, storing}
use Rattle.ada_meaning.specs.Named.{Object, State, named}
use Rattle.ada_meaning.specs.Run.{Event}
use Rattle.ada_sound.specs.Agreement.{running_procedure}
use Rattle.ada_sound.proofs.Fits.{Outer, Outsiders, none_spared, Fit, IsReferred, IsPlain, referred_first, component_access, place_at, plain_object}
use Rattle.ada_meaning.specs.declared.state.Id.{Id}
use Rattle.ada_owners.specs.Places.{access_at}
use Rattle.ada_owners.proofs.Objects.{present_at}
use Rattle.ada_program.specs.WellFormed.{access_of, kind_among, reached_components}
use Rattle.ada_sound.proofs.Stored.{Stored}
use Rattle.ada_sound.proofs.Activations.{returned_fit}
use Rattle.ada_sound.proofs.GivenBack.{gives_some, ArePlaced, since_back, said_back, objects_back, since_left, said_left, objects_left}
use Rattle.ada_sound.proofs.Ready.{at_work, at_less, runs_stores, stores_ready, goes_ready, stays}
use Rattle.ada_sound.proofs.Invariant.{held_first, outer_in, Known, Control, Rooms, Roomed, RunsOn, GoesOn, StoresOn, AreOpened, ReadyIn, Working, Stepped, Waits, WaitsSo, AllWait, IsAwaited, KeepsAll, below, outers, outer_of, owed_in, handed_at, known_of}
use Rattle.ada_sound.proofs.Callers.{AreCalls, Suspension, caller_of, callers_of, form_types, known_in, known_plainly, waits_plainly, Stands}

-- What a step from one body to another keeps: it is known what it leads to, and so are the callers.
pub record Crosses (program : Program) (before : List Object) (e : Event) (after : State) : Type 0 where
  pub suspensions : List Suspension
  pub stepped : Stepped (known_in program (running_procedure after) suspensions) before e after
  pub stands : Stands program suspensions after

-- A step from one body to another, where these activations wait then.
pub record CrossesTo (program : Program) (gs : List Suspension) (before : List Object) (e : Event) (after : State) : Type 0 where
  pub stepped : Stepped (known_in program (running_procedure after) gs) before e after
  pub stands : Stands program gs after

abbrev pub crosses_to : {program : Program} {gs : List Suspension} {before : List Object} {e : Event} {after : State} → CrossesTo program gs before e after → Crosses program before e after
crosses_to {program} {gs} c = record { suspensions = gs; stepped = c.stepped; stands = c.stands }

-- All bodies of a program see its types.
same_at : (number : ℕ) (b : Option BodyForm) (p : ProgramForm) → (seen_at number b p).types ≡ p.types
same_at number None p = refl
same_at number (Some b) p = refl

pub same_types : (procedure : Option ℕ) (p : ProgramForm) → (seen_in procedure p).types ≡ p.types
same_types None p = refl
same_types (Some number) p = same_at number (slice_get p.bodies number) p

module _ (program : Program) (procedure : Option ℕ) (g : Suspension) (gs : List Suspension) where
  -- The running body and its caller.
  abbrev callee : Known
  callee = known_in program procedure (g ∷ gs)

  abbrev caller : Known
  caller = known_of (caller_of program g gs) (callers_of program gs)

  abbrev WaitsForIt : Type 0
  WaitsForIt = Waits callee.implicit callee.program (caller_of program g gs) (callers_of program gs)

  same_here : callee.program.types ≡ caller.program.types
  same_here =
      same_types procedure (program_form program)
      ∙ sym (form_types g.tracks.components g.tracks (seen_in g.procedure (program_form program)) ∙ same_types g.procedure (program_form program))

  -- What is left to do behind the body is left to do in its caller.
  pub same_control : (mode : Mode) (actuals : List ActualForm) (references : List Value) (k : Control) (rooms : Rooms) (holds : Holds) → GoesOn callee mode (Returns actuals references ∷ k) rooms holds → k ≡ g.control
  same_control Running actuals references k [] holds is = is.2
  same_control Running actuals references k (gone ∷ rooms) holds is = absurd is
  same_control (Raising e) actuals references k [] holds is = is.1
  same_control (Raising e) actuals references k (gone ∷ rooms) holds is = absurd is
  same_control Exiting actuals references k [] holds is = absurd is
  same_control Exiting actuals references k (gone ∷ rooms) holds is = absurd is
  same_control Returning actuals references k [] holds is = is.2
  same_control Returning actuals references k (gone ∷ rooms) holds is = absurd is

  module _ (heap : List Object) (places : List Value) (masters : List Master) where
    -- The places of the caller's variables once they get something back, and what is known of them then.
    abbrev given_back : List Value
    given_back = copied_back g.actuals places g.places

    abbrev FitsHere : Holds → Type 0
    FitsHere holds = Fit callee.program.types callee.program.variables (outers callee) none_spared heap places holds

    -- No object is held for the call.
    abbrev behind_it : Option Outer → Outsiders
    behind_it held = record (outers callee) { suspended = outer_of (caller_of program g gs) ∷ held_first held (outer_in (callers_of program gs)) }

    fit_there : (holds : Holds) → WaitsForIt → FitsHere holds → Fit caller.program.types callee.program.variables (behind_it None) none_spared heap places holds
    fit_there holds waits f =
        subst (λ (held : Option Outer). Fit caller.program.types callee.program.variables (behind_it held) none_spared heap places holds) waits.unheld
        (subst (λ (types : List TypeForm). Fit types callee.program.variables (outers callee) none_spared heap places holds) same_here f)

    -- At a normal end, and where the body raises an exception.
    back_fit : (holds : Holds) (waits : WaitsForIt) → ArePlaced callee.program.variables places → all_give_back (owed_in callee.program) holds ≡ true → FitsHere holds → Fit caller.program.types caller.program.variables (outers caller) none_spared heap given_back (handed_back g.actuals g.before)
    back_fit holds waits placed gave f =
        let w = caller_of program g gs in
        let ws = callers_of program gs in
        let plain : (i x : ℕ) → handed_at g.actuals i ≡ Some x → IsPlain (place_at places i) = λ i x is. plain_object i (gives_some (hold_at holds i) (waits.hands.owes i x is holds gave)) (waits.hands.formal i x is) f in
        returned_fit (outer_of w) callee.program.variables places holds (handed_at g.actuals) given_back (handed_back g.actuals g.before) caller.program.types (outers caller) g.passed g.referenced g.under none_spared heap
        (since_back callee.implicit callee.program w ws waits places holds placed gave) (fit_there holds waits f)
        (said_back callee.implicit callee.program w ws waits places holds placed gave plain) (objects_back callee.implicit callee.program w ws waits places holds placed gave plain)

    left_fit : (holds : Holds) (waits : WaitsForIt) → KeepsAll g.kept holds → FitsHere holds → Fit caller.program.types caller.program.variables (outers caller) none_spared heap g.places (left_unkept g.kept g.actuals g.before)
    left_fit holds waits keeps f =
        let w = caller_of program g gs in
        let ws = callers_of program gs in
        returned_fit (outer_of w) callee.program.variables places holds (handed_at g.actuals) g.places (left_unkept g.kept g.actuals g.before) caller.program.types (outers caller) g.passed g.referenced g.under none_spared heap
        (since_left callee.implicit callee.program w ws waits places holds keeps f.said) (fit_there holds waits f)
        (said_left callee.implicit callee.program w ws waits places holds keeps f.said) (objects_left callee.implicit callee.program w ws waits places holds keeps f.said)

    -- No more objects are under way in the callee's view.
    stored_there : WaitsForIt → Stored (outers callee).under heap masters → Stored (outers caller).under heap masters
    stored_there waits stored = subst (λ (under : List Id). Stored (under ++ (outers caller).under) heap masters) waits.settled stored

    -- The caller at work, once its masters are the innermost ones: with what it held, or with what it gets back.
    abbrev caller_works : (held : List Value) (after : Holds) → Stored (outers callee).under heap masters → WaitsForIt → masters ≡ g.masters → Fit caller.program.types caller.program.variables (outers caller) none_spared heap held after → Working caller heap held masters (λ rooms known. Unit {0})
    caller_works held after stored waits same fit = record {
      rooms = g.rooms;
      holds = after;
      stored = stored_there waits stored;
      roomed = rw same waits.roomed;
      fit = fit;
      rest = tt;
    }

    -- The components that get something back are there, behind a normal end.
    stores_behind : (rooms : Rooms) (holds : Holds) (k : Control) (references : List Value) → AreOpened caller.program.types g.referenced references → ((o : Id) (t : ℕ) → IsReferred g.referenced o t → access_at heap o ≡ Some t) → RunsOn caller k rooms holds → StoresOn caller heap (storing named references k) rooms holds
    stores_behind rooms holds k [] opened there runs = runs_stores caller k heap rooms holds runs
    stores_behind rooms holds k (r ∷ rs) ((o, place, t, is, refers, none), later) there runs =
        let h = present_at heap o t (there o t refers) in
        let plain : component_access caller.program.types h.object place.component ≡ None = ap (λ (u : ℕ). access_of (kind_among (reached_components caller.program.types u) place.component)) h.access ∙ none in
        rw is ((h.object, h.found, h.there, plain), stores_behind rooms holds k rs later there runs)

    module _ (actuals : List ActualForm) (references : List Value) (k : Control) (waits : WaitsForIt) where
      abbrev BacksTo : Type 0
      BacksTo = Working caller heap (copied_back actuals places g.places) masters (StoresOn caller heap (storing named references k))

      gets_back : (holds : Holds) → Stored (outers callee).under heap masters → masters ≡ g.masters → ArePlaced callee.program.variables places → FitsHere holds → (actuals ≡ g.actuals) × (references ≡ g.references) × (k ≡ g.control) × (all_give_back (owed_in callee.program) holds ≡ true) → BacksTo
      gets_back holds stored same placed f (given, refers, is, gave) =
          let w : Working caller heap given_back masters (GoesOn caller Running g.control) = at_less (caller_works given_back (handed_back g.actuals g.before) stored waits same (back_fit holds waits placed gave f)) waits.goes_on in
          rw (given, refers, is) (at_work w (stores_behind w.rooms w.holds g.control g.references waits.opened (λ o t refers'. f.referred o t (referred_first g.referenced (outers caller).referenced o t refers')) w.rest))

      returns_by : (rooms : Rooms) (holds : Holds) → Stored (outers callee).under heap masters → Roomed (below callee) masters rooms → ArePlaced callee.program.variables places → FitsHere holds → GoesOn callee Running (Returns actuals references ∷ k) rooms holds → BacksTo
      returns_by [] holds stored roomed placed fit is = gets_back holds stored roomed placed fit is
      returns_by (gone ∷ rooms) holds stored roomed placed fit is = absurd is

      returning_by : (rooms : Rooms) (holds : Holds) → Stored (outers callee).under heap masters → Roomed (below callee) masters rooms → ArePlaced callee.program.variables places → FitsHere holds → GoesOn callee Returning (Returns actuals references ∷ k) rooms holds → BacksTo
      returning_by [] holds stored roomed placed fit is = gets_back holds stored roomed placed fit is
      returning_by (gone ∷ rooms) holds stored roomed placed fit is = absurd is

      raising_by : (e : Exception) (rooms : Rooms) (holds : Holds) → Stored (outers callee).under heap masters → Roomed (below callee) masters rooms → FitsHere holds → GoesOn callee (Raising e) (Returns actuals references ∷ k) rooms holds → Working caller heap g.places masters (GoesOn caller (Raising e) k)
      raising_by e [] holds stored roomed fit (may, is, keeps) =
          rw is (at_less (caller_works g.places (left_unkept g.kept g.actuals g.before) stored waits roomed (left_fit holds waits keeps fit)) (waits.raises e may))
      raising_by e (gone ∷ rooms) holds stored roomed fit is = absurd is

      exiting_by : (rooms : Rooms) (holds : Holds) → GoesOn callee Exiting (Returns actuals references ∷ k) rooms holds → ⊥
      exiting_by [] holds is = is
      exiting_by (gone ∷ rooms) holds is = is

-- The state that a jump or a return behind a body leads to, in a mode.
abbrev pub resumed_in : Mode → Control → List (Activation Value) → State → State
resumed_in mode k rest s = record s { activations = rest; control = k; mode = mode }

-- The body of a call has a caller.
no_caller : (program : Program) (procedure : Option ℕ) (mode : Mode) (actuals : List ActualForm) (references : List Value) (k : Control) (rooms : Rooms) (holds : Holds) → GoesOn (known_in program procedure []) mode (Returns actuals references ∷ k) rooms holds → ⊥
no_caller program procedure Running actuals references k [] holds g = g
no_caller program procedure (Raising e) actuals references k [] holds g = g
no_caller program procedure Exiting actuals references k [] holds g = g
no_caller program procedure Returning actuals references k [] holds g = g
no_caller program procedure Running actuals references k (gone ∷ rooms) holds g = g
no_caller program procedure (Raising e) actuals references k (gone ∷ rooms) holds g = g
no_caller program procedure Exiting actuals references k (gone ∷ rooms) holds g = g
no_caller program procedure Returning actuals references k (gone ∷ rooms) holds g = g

-- What a mode comes to behind the body of a call: a return lands there.
abbrev pub behind_call : Mode → Mode
behind_call Running = Running
behind_call (Raising e) = Raising e
behind_call Exiting = Exiting
behind_call Returning = Running

-- What is left to do behind it: where the body ends normally, components get something back first.
abbrev pub behind_frames : Mode → (references : List Value) → Control → Control
behind_frames Running references k = storing named references k
behind_frames (Raising e) references k = k
behind_frames Exiting references k = k
behind_frames Returning references k = storing named references k

-- The activations behind it: where the body ends normally, the caller gets back what it is to get.
abbrev pub ended : List ActualForm → List Value → List (Activation Value) → List (Activation Value)
ended actuals values rest = with_operands (stored_back actuals values ++ operands_of rest) (with_places (copied_back actuals values (places_of rest)) rest)

abbrev pub behind_body : Mode → List ActualForm → List Value → List (Activation Value) → List (Activation Value)
behind_body Running actuals values rest = ended actuals values rest
behind_body (Raising e) actuals values rest = rest
behind_body Exiting actuals values rest = rest
behind_body Returning actuals values rest = ended actuals values rest

module _ (program : Program) (a : Activation Value) (actuals : List ActualForm) (references : List Value) (k : Control) (s : State) where
  -- Whatever goes on in the caller is known there, with what its variables hold then.
  resumes : (mode : Mode) (behind : Control) (held waiting : List Value) (b : Activation Value) (rest : List (Activation Value)) (g : Suspension) (gs : List Suspension) → Stands program (g ∷ gs) (record s { activations = a ∷ b ∷ rest }) → ReadyIn (known_in program g.procedure gs) mode behind s.heap held waiting s.masters → CrossesTo program gs s.heap Quiet (resumed_in mode behind (record b { places = held; operands = waiting } ∷ rest) s)
  resumes mode behind held waiting b rest g gs stands r =
      let of = stands.bodies.0 in
      let after = resumed_in mode behind (record b { places = held; operands = waiting } ∷ rest) s in
      record {
        stepped = subst (λ (procedure : Option ℕ). Stepped (known_in program procedure gs) s.heap Quiet after) (sym of)
            (stays (known_in program g.procedure gs) Quiet after (tt, r) tt);
        stands = record {
          body = rw of stands.bodies.1;
          behind = rw of stands.bodies.2;
          bodies = stands.bodies.3;
          standing = record {
            suspended = stands.standing.suspended.1;
            waiting = subst (λ (procedure : Option ℕ). AllWait (implicit_of (program_form program)) (seen_in procedure (program_form program)) (callers_of program gs)) (sym of)
                (waits_plainly program g gs stands.bodies.4 (callers_of program gs) stands.standing.waiting.1);
            low = stands.standing.low.3;
          };
        };
      }

  -- The caller goes on with what it held, or with what it gets back.
  goes_back : (mode : Mode) (b : Activation Value) (rest : List (Activation Value)) (g : Suspension) (gs : List Suspension) → Stands program (g ∷ gs) (record s { activations = a ∷ b ∷ rest }) → Working (known_in program g.procedure gs) s.heap g.places s.masters (GoesOn (known_in program g.procedure gs) mode k) → CrossesTo program gs s.heap Quiet (resumed_in mode k (b ∷ rest) s)
  goes_back mode b rest g gs stands w =
      let places = stands.standing.suspended.0 in
      resumes mode k b.places b.operands b rest g gs stands (rw places (goes_ready (known_in program g.procedure gs) mode k s.heap g.places b.operands s.masters w))

  gets_on : (b : Activation Value) (rest : List (Activation Value)) (g : Suspension) (gs : List Suspension) → Stands program (g ∷ gs) (record s { activations = a ∷ b ∷ rest }) → Working (known_in program g.procedure gs) s.heap (copied_back actuals a.places g.places) s.masters (StoresOn (known_in program g.procedure gs) s.heap (storing named references k)) → CrossesTo program gs s.heap Quiet (resumed_in Running (storing named references k) (ended actuals a.places (b ∷ rest)) s)
  gets_on b rest g gs stands w =
      let places = stands.standing.suspended.0 in
      let waiting = stored_back actuals a.places ++ b.operands in
      resumes Running (storing named references k) (copied_back actuals a.places b.places) waiting b rest g gs stands
      (rw places (stores_ready (known_in program g.procedure gs) (storing named references k) s.heap (copied_back actuals a.places g.places) waiting s.masters w))

  -- A caller whose body tracks nothing is known as its program says.
  gets_plainly :
      (g : Suspension) (gs : List Suspension) → g.tracks ≡ no_tracks
      → Working (known_of (caller_of program g gs) (callers_of program gs)) s.heap (copied_back actuals a.places g.places) s.masters (StoresOn (known_of (caller_of program g gs) (callers_of program gs)) s.heap (storing named references k))
      → Working (known_in program g.procedure gs) s.heap (copied_back actuals a.places g.places) s.masters (StoresOn (known_in program g.procedure gs) s.heap (storing named references k))
  gets_plainly g gs plain w =
      subst (λ (known : Known). Working known s.heap (copied_back actuals a.places g.places) s.masters (StoresOn known s.heap (storing named references k)))
      (known_plainly program g gs plain) w

  goes_plainly :
      (mode : Mode) (g : Suspension) (gs : List Suspension) → g.tracks ≡ no_tracks
      → Working (known_of (caller_of program g gs) (callers_of program gs)) s.heap g.places s.masters (GoesOn (known_of (caller_of program g gs) (callers_of program gs)) mode k)
      → Working (known_in program g.procedure gs) s.heap g.places s.masters (GoesOn (known_in program g.procedure gs) mode k)
  goes_plainly mode g gs plain w =
      subst (λ (known : Known). Working known s.heap g.places s.masters (GoesOn known mode k)) (known_plainly program g gs plain) w

  -- A body is left, in whatever mode: its caller goes on, which waits for a call, as the body of no operation comes to its end here. Each variable of the
  -- body has a place, from which it gives something back.
  left_by : (mode : Mode) (b : Activation Value) (rest : List (Activation Value)) (g : Suspension) (gs : List Suspension) → Stands program (g ∷ gs) (record s { activations = a ∷ b ∷ rest }) → (IsAwaited k → ⊥) → ArePlaced (seen_in a.procedure (program_form program)).variables a.places → Working (known_in program a.procedure (g ∷ gs)) s.heap a.places s.masters (GoesOn (known_in program a.procedure (g ∷ gs)) mode (Returns actuals references ∷ k)) → WaitsSo (implicit_of (program_form program)) (seen_in a.procedure (program_form program)) (caller_of program g gs) (callers_of program gs) → CrossesTo program gs s.heap Quiet (resumed_in (behind_call mode) (behind_frames mode references k) (behind_body mode actuals a.places (b ∷ rest)) s)
  left_by Running b rest g gs stands none placed w (inl waits) =
      gets_on b rest g gs stands (gets_plainly g gs stands.bodies.4 (returns_by program a.procedure g gs s.heap a.places s.masters actuals references k waits w.rooms w.holds w.stored w.roomed placed w.fit w.rest))
  left_by (Raising e) b rest g gs stands none placed w (inl waits) =
      goes_back (Raising e) b rest g gs stands (goes_plainly (Raising e) g gs stands.bodies.4 (raising_by program a.procedure g gs s.heap a.places s.masters actuals references k waits e w.rooms w.holds w.stored w.roomed w.fit w.rest))
  left_by Exiting b rest g gs stands none placed w (inl waits) = absurd (exiting_by program a.procedure g gs s.heap a.places s.masters actuals references k waits w.rooms w.holds w.rest)
  left_by Returning b rest g gs stands none placed w (inl waits) =
      gets_on b rest g gs stands (gets_plainly g gs stands.bodies.4 (returning_by program a.procedure g gs s.heap a.places s.masters actuals references k waits w.rooms w.holds w.stored w.roomed placed w.fit w.rest))
  left_by mode b rest g gs stands none placed w (inr operation) =
      absurd (none (subst IsAwaited (sym (same_control program a.procedure g gs mode actuals references k w.rooms w.holds w.rest)) operation.operated))

  pub left_to : (mode : Mode) (b : Activation Value) (rest : List (Activation Value)) (g : Suspension) (gs : List Suspension) → Stands program (g ∷ gs) (record s { activations = a ∷ b ∷ rest }) → (IsAwaited k → ⊥) → ArePlaced (seen_in a.procedure (program_form program)).variables a.places → Working (known_in program a.procedure (g ∷ gs)) s.heap a.places s.masters (GoesOn (known_in program a.procedure (g ∷ gs)) mode (Returns actuals references ∷ k)) → CrossesTo program gs s.heap Quiet (resumed_in (behind_call mode) (behind_frames mode references k) (behind_body mode actuals a.places (b ∷ rest)) s)
  left_to mode b rest g gs stands none placed w = left_by mode b rest g gs stands none placed w stands.standing.waiting.0

  -- Where the activations that wait for the body wait for calls, so do those that wait behind it.
  abbrev pub LeftSettled : List Suspension → State → Type 0
  LeftSettled gs after = (hs : List Suspension) × CrossesTo program hs s.heap Quiet after × (AreCalls gs → AreCalls hs)

  pub left_settled : (mode : Mode) (rest : List (Activation Value)) (gs : List Suspension) → Stands program gs (record s { activations = a ∷ rest }) → (IsAwaited k → ⊥) → ArePlaced (seen_in a.procedure (program_form program)).variables a.places → Working (known_in program a.procedure gs) s.heap a.places s.masters (GoesOn (known_in program a.procedure gs) mode (Returns actuals references ∷ k)) → LeftSettled gs (resumed_in (behind_call mode) (behind_frames mode references k) (behind_body mode actuals a.places rest) s)
  left_settled mode [] [] stands none placed w = absurd (no_caller program a.procedure mode actuals references k w.rooms w.holds w.rest)
  left_settled mode [] (g ∷ gs) stands none placed w = absurd stands.bodies
  left_settled mode (b ∷ rest) [] stands none placed w = absurd stands.bodies
  left_settled mode (b ∷ rest) (g ∷ gs) stands none placed w = (gs, left_to mode b rest g gs stands none placed w, λ calls. calls.1)

  pub left_fine : (mode : Mode) (rest : List (Activation Value)) (gs : List Suspension) → Stands program gs (record s { activations = a ∷ rest }) → (IsAwaited k → ⊥) → ArePlaced (seen_in a.procedure (program_form program)).variables a.places → Working (known_in program a.procedure gs) s.heap a.places s.masters (GoesOn (known_in program a.procedure gs) mode (Returns actuals references ∷ k)) → Crosses program s.heap Quiet (resumed_in (behind_call mode) (behind_frames mode references k) (behind_body mode actuals a.places rest) s)
  left_fine mode rest gs stands none placed w = crosses_to (left_settled mode rest gs stands none placed w).1
