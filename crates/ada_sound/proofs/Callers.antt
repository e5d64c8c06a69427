-- Bodies of one program that have called one another: what is known of each.

use Rattle.std.proofs.Common.{◌≡◌, ℕ, List, [], ◌∷◌, refl, ap, subst, inl, inr}
use Rattle.std.specs.Prelude.{Option}
use Rattle.ada_program.specs.declared.program.Program.{Program}
use Rattle.ada_program.specs.Form.{ActualForm}
use Rattle.ada_program.specs.ProgramForm.{ProgramForm, program_form, seen_in}
use Rattle.ada_deeds.specs.Implicit.{implicit_of}
use Rattle.ada_flow.specs.Flow.{Holds, Keeping}
use Rattle.ada_flow.specs.Tracking.{Tracks, judged, no_tracks, tracked_numbers}
use Rattle.ada_tracked.specs.Forms.{seen_declarations, seen_stmts, seen_handlers}
use Rattle.ada_meaning.specs.declared.state.Value.{Value}
use Rattle.ada_meaning.specs.Frame.{Returns}
use Rattle.ada_meaning.specs.State.{Activation, Master}
use Rattle.ada_meaning.specs.Step.{older}
use Rattle.ada_meaning.specs.Named.{State}
use Rattle.ada_sound.specs.Agreement.{Turning, IsFlowAt, IsBehind, running_procedure}
use Rattle.ada_sound.proofs.Ahead.{ahead_in}
use Rattle.ada_sound.proofs.Touched.{touches_in}
use Rattle.ada_sound.proofs.Fits.{Outer, Reference}
use Rattle.ada_sound.proofs.Bodies.{IsBody}
use Rattle.ada_sound.proofs.Invariant.{AllWait, Control, CoveredIn, Rooms, Caller, IsAwaited, Known, OneAwaits, Standing, known_of, under_in}
use Rattle.ada_meaning.specs.declared.state.Id.{Id}

-- The program as a body sees it that tracks components of its formal parameter (7.6), where it is judged: it has a variable for each of them, behind its own.
abbrev pub judged_form : Tracks → ProgramForm → ProgramForm
judged_form tracks p = record p {
  variables = judged p.types tracks p.variables;
  declarations = seen_declarations tracks p.declarations;
  statements = seen_stmts tracks p.statements;
  handlers = seen_handlers tracks p.handlers;
}

-- It is judged where it tracks some, and sees the program as it is where it tracks none.
abbrev pub form_by : (components : List ℕ) → Tracks → ProgramForm → ProgramForm
form_by [] tracks p = p
form_by (c ∷ cs) tracks p = judged_form tracks p

-- Its types are those of the program.
pub form_types : (components : List ℕ) (tracks : Tracks) (p : ProgramForm) → (form_by components tracks p).types ≡ p.types
form_types [] tracks p = refl
form_types (c ∷ cs) tracks p = refl

-- A suspended activation: of which body it is, what that tracks, the actual parameters of its call, their values, what refers to the components that get something back, the
-- objects to which all that refers leads, those that are under way, as a treatment finalizes them, and what an operation is called for, as if a variable held
-- it; what the procedure keeps of the parameters; what is left to do once the call has come to its end, the masters that are entered then, and their rooms;
-- what its variables hold, and what is known of them behind the call, as if nothing were handed over.
pub record Suspension : Type 0 where
  pub procedure : Option ℕ
  pub tracks : Tracks
  pub actuals : List ActualForm
  pub passed : List Value
  pub references : List Value
  pub referenced : List Reference
  pub under : List Id
  pub held : Option Outer
  pub kept : Keeping
  pub control : Control
  pub masters : List Master
  pub rooms : Rooms
  pub places : List Value
  pub before : Holds

-- An activation waits for a call, nothing is under way in it, and its body tracks nothing.
abbrev pub IsCall : Suspension → Type 0
IsCall g = (IsAwaited g.control → ⊥) × (g.under ≡ []) × (g.tracks ≡ no_tracks)

-- So it is with each of these.
abbrev pub AreCalls : List Suspension → Type 0
AreCalls [] = Unit {0}
AreCalls (g ∷ gs) = IsCall g × AreCalls gs

-- What is left to do behind a body, by the activation that called it.
abbrev pub rest_of : List Suspension → Control
rest_of [] = []
rest_of (g ∷ gs) = Returns g.actuals g.references ∷ g.control

-- Flow comes to a place on some way from the declarations of a body.
abbrev pub Reaches : Program → (procedure : Option ℕ) → (rest : Control) → Control → Holds → Type 0
Reaches program procedure rest place holds = (way : List Turning) × IsFlowAt program procedure rest way place holds

-- So flow comes to it where nothing is tracked; of a body that is judged nothing is said of its places.
abbrev pub place_by : (components : List ℕ) → (Control → Holds → Type 0) → Control → Holds → Type 0
place_by [] At = At
place_by (c ∷ cs) At = λ place holds. Unit {0}

-- What is known of these activations.
abbrev pub caller_of : Program → Suspension → List Suspension → Caller
caller_of program g gs = record {
  implicit = implicit_of (program_form program);
  program = form_by g.tracks.components g.tracks (seen_in g.procedure (program_form program));
  ahead = ahead_in (program_form program);
  touches = touches_in (program_form program);
  At = place_by g.tracks.components (Reaches program g.procedure (rest_of gs));
  actuals = g.actuals;
  passed = g.passed;
  references = g.references;
  referenced = g.referenced;
  under = g.under;
  held = g.held;
  kept = g.kept;
  control = g.control;
  masters = g.masters;
  rooms = g.rooms;
  places = g.places;
  before = g.before;
  tracked = tracked_numbers g.tracks;
}

abbrev pub callers_of : Program → List Suspension → List Caller
callers_of program [] = []
callers_of program (g ∷ gs) = caller_of program g gs ∷ callers_of program gs

-- Where activations wait for calls, nothing is under way in them, and none of them waits for an operation.
pub none_under : (program : Program) (gs : List Suspension) → AreCalls gs → under_in (callers_of program gs) ≡ []
none_under program [] are = refl
none_under program (g ∷ gs) are = rw (are.0.1, none_under program gs are.1) refl

pub none_awaits : (program : Program) (gs : List Suspension) → AreCalls gs → OneAwaits (callers_of program gs) → ⊥
none_awaits program [] are awaits = awaits
none_awaits program (g ∷ gs) are (inl here) = are.0.0 here
none_awaits program (g ∷ gs) are (inr later) = none_awaits program gs are.1 later

-- What is known of a body at work, that these have called.
abbrev pub known_in : Program → (procedure : Option ℕ) → List Suspension → Known
known_in program procedure gs = record {
  implicit = implicit_of (program_form program);
  program = seen_in procedure (program_form program);
  ahead = ahead_in (program_form program);
  touches = touches_in (program_form program);
  At = Reaches program procedure (rest_of gs);
  callers = callers_of program gs;
  tracked = [];
}

-- The activations are those of these bodies, which are there, and none of them tracks anything; the main one has no caller.
abbrev pub AreOf : Program → List (Activation Value) → List Suspension → Type 0
AreOf program [] [] = Unit {0}
AreOf program [] (g ∷ gs) = ⊥
AreOf program (a ∷ rest) [] = ⊥
AreOf program (a ∷ rest) (g ∷ gs) = (a.procedure ≡ g.procedure) × IsBody (program_form program) g.procedure × IsBehind g.procedure (rest_of gs) × AreOf program rest gs × (g.tracks ≡ no_tracks)

-- The activations of a state are those of bodies that have called one another.
pub record Stands (program : Program) (gs : List Suspension) (s : State) : Type 0 where
  pub body : IsBody (program_form program) (running_procedure s)
  pub behind : IsBehind (running_procedure s) (rest_of gs)
  pub bodies : AreOf program (older s.activations) gs
  pub standing : Standing (known_in program (running_procedure s) gs) s

-- Where the body of a suspended activation tracks nothing, it sees the program as it is.
module _ (program : Program) (g : Suspension) (gs : List Suspension) (plain : g.tracks ≡ no_tracks) where
  abbrev form : Tracks → ProgramForm
  form tracks = form_by tracks.components tracks (seen_in g.procedure (program_form program))

  -- So it waits,
  pub waits_plainly :
      (ws : List Caller) → AllWait (implicit_of (program_form program)) (form g.tracks) ws
      → AllWait (implicit_of (program_form program)) (seen_in g.procedure (program_form program)) ws
  waits_plainly ws waits = subst (λ (tracks : Tracks). AllWait (implicit_of (program_form program)) (form tracks) ws) plain waits

  -- so it frees what it may,
  pub covers_plainly :
      (t : ℕ) → CoveredIn (implicit_of (program_form program)) (form g.tracks) t
      → CoveredIn (implicit_of (program_form program)) (seen_in g.procedure (program_form program)) t
  covers_plainly t covered = subst (λ (tracks : Tracks). CoveredIn (implicit_of (program_form program)) (form tracks) t) plain covered

  -- What is known of it, as what it tracks says.
  abbrev known_by : Tracks → Known
  known_by tracks = record {
    implicit = implicit_of (program_form program);
    program = form tracks;
    ahead = ahead_in (program_form program);
    touches = touches_in (program_form program);
    At = place_by tracks.components (Reaches program g.procedure (rest_of gs));
    callers = callers_of program gs;
    tracked = tracked_numbers tracks;
  }

  -- and so it is known, once it is at work again.
  pub known_plainly : known_of (caller_of program g gs) (callers_of program gs) ≡ known_in program g.procedure gs
  known_plainly = ap known_by plain
