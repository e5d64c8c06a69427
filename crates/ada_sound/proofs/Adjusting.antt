-- The body of an Adjust runs that tracks components of its formal parameter (7.6), after a copy of a record: what holds of the state that stands for the real
-- one, which has a variable for each of them.

use Rattle.std.proofs.Common.{◌≡◌, ◌≢◌, ℕ, ◌+◌, ◌<◌, ◌≤◌, ◌==◌, Bool, true, List, [], ◌∷◌, length, drop, ◌⊎◌}
use Rattle.std.specs.Prelude.{Option, Some}
use Rattle.std.specs.List.{list_all, list_any, slice_get}
use Rattle.ada_parts.specs.Part as parts
use Rattle.ada_parts.specs.Task.{Task}
use Rattle.ada_program.specs.declared.program.Exception.{Exception}
use Rattle.ada_program.specs.declared.program.Program.{Program}
use Rattle.ada_program.specs.ProgramForm.{BodyForm, program_form}
use Rattle.ada_deeds.specs.Implicit.{implicit_of}
use Rattle.ada_flow.specs.Flow.{Holds, Keeping, tracks_of}
use Rattle.ada_meaning.specs.declared.event.Birth.{Birth}
use Rattle.ada_meaning.specs.declared.event.Birth.TheVariants.{Copy, Adjustment}
use Rattle.ada_meaning.specs.declared.state.Id.{Id}
use Rattle.ada_meaning.specs.declared.state.Place.{Place}
use Rattle.ada_meaning.specs.declared.state.Value.{Value}
use Rattle.ada_meaning.specs.declared.state.Value.TheVariants.{Names, Part}
use Rattle.ada_meaning.specs.Frame.{begins}
use Rattle.ada_meaning.specs.Named.{Object, State, object_at}
use Rattle.ada_meaning.specs.State.{Master}
use Rattle.ada_meaning.specs.Step.{older}
use Rattle.ada_meaning.specs.Step as step
use Rattle.ada_quiet.specs.Apart.{is_tracker}
use Rattle.ada_judged.specs.Fitting.{TracksComponents}
use Rattle.ada_judged.specs.Obeying.{BodyIsOrderly}
use Rattle.ada_program.specs.WellFormed.{record_components}
use Rattle.ada_quiet.specs.InUse.{count_found, may_be_frugal, may_track}
use Rattle.ada_quiet.specs.Simple.{holds_one_value}
use Rattle.ada_beside.specs.Confined.{IsConfined}
use Rattle.ada_beside.specs.Law.{LieBeside}
use Rattle.ada_finalized.specs.Law.{NothingBegins}
use Rattle.ada_tracked.specs.Frames.{View, blanked}
use Rattle.ada_tracked.specs.Seen.{Seen}
use Rattle.ada_tracked.specs.Staying.{BodyIsSimple}
use Rattle.ada_typed.proofs.Control as typed
use Rattle.ada_typed.proofs.Kept.{behind_call}
use Rattle.ada_sound.proofs.CallsApart.{CallApart}
use Rattle.ada_sound.proofs.Callers.{AreCalls, Suspension, AreOf, known_in}
use Rattle.ada_sound.proofs.CopiedOwners.{CopiedFrom, CopyLeft, hiding, owners_left}
use Rattle.ada_sound.proofs.FrugalControl.{Frugally}
use Rattle.ada_sound.proofs.Invariant.{AdjustsAside, Control, Ready, Rooms, RunsOn, Standing, body_among}
use Rattle.ada_sound.proofs.Judged.{known_judged}
use Rattle.ada_sound.proofs.Operating.{IsCalm, WaitsFor}
use Rattle.ada_sound.proofs.Allowance.{simple_allowance}
use Rattle.ada_sound.proofs.Sparing.{Sparing, bare_apart, is_around}
use Rattle.ada_reaching.specs.Reaching.{IsReaching}
use Rattle.ada_sound.proofs.Touching.{Paused, resting}
use Rattle.ada_sound.specs.Agreement.{running_procedure}

-- A copy of a record is adjusted: an object that is declared gets its initial value so, or a record that is assigned to (3.3.1, 5.2).
pub data IsOfCopy : Birth → Type 0 where
  copied : IsOfCopy Copy
  assigned : (number : ℕ) → IsOfCopy (Adjustment number)

-- It looks at an object by its formal parameter alone, and so at the same one.
pub same_sparing :
    (program : Program) (o : Id) (access : ℕ) (behind : Control) (lower : List Master) (o_too : Id) (access_too : ℕ) (behind_too : Control) (lower_too : List Master)
    → o_too ≡ o → access_too ≡ access → behind_too ≡ behind → lower_too ≡ lower → (s : State) → Sparing program o access behind lower s
    → Sparing program o_too access_too behind_too lower_too s
same_sparing program o access behind lower o_too access_too behind_too lower_too a b c d s sparing = rw (a, b, c, d) sparing

-- The body of such an Adjust runs.
pub record Adjusting (program : Program) (s : State) : Type 0 where
  -- the procedure, its body, and what that tracks
  pub number : ℕ
  pub b : BodyForm
  pub there : slice_get (program_form program).bodies number ≡ Some b
  pub runs : running_procedure s ≡ Some number
  pub w : View
  pub tracks_so : tracks_of (program_form program).types number b ≡ w.tracks
  pub tracker : is_tracker (program_form program) number ≡ true
  pub components : TracksComponents (program_form program).types w.tracks b.variables
  pub orderly : BodyIsOrderly w.tracks b
  pub lone : list_all (λ y. holds_one_value y.kind) (drop 1 b.variables) ≡ true
  -- the state that stands for this one
  pub t : State
  pub seen : Seen program.types.items (program_form program).bodies w s t
  pub simple : BodyIsSimple w.tracks.first s.control
  -- the activation that waits, and what is behind the body
  pub procedure : Option ℕ
  pub places : List Value
  pub suspensions : List Suspension
  pub object : Id
  pub object_so : w.object ≡ object
  pub place : Place
  pub based : place.component ≡ w.base
  pub formal : slice_get (step.places s) 0 ≡ Some (Part object place)
  pub count : length (step.places s) ≡ length b.variables
  pub x : Object
  pub found : object_at s.heap object ≡ Some x
  pub access : ℕ
  pub of_access : x.cell.access ≡ access
  pub by : Birth
  pub copies : IsOfCopy by
  pub done : List parts.Part
  pub of : ℕ
  pub record_type : ℕ
  pub tasks : List Task
  pub behind : Control
  pub ends : behind_call s.control ≡ Some (record { actuals = []; references = []; left = behind })
  pub after : Control
  pub awaited : WaitsFor (program_form program).types object of (begins by done) tasks after behind
  pub lower : List Master
  -- the body looks at the object by its formal parameter alone
  pub sparing : Sparing program w.object access behind lower s
  pub kept : Keeping
  pub rooms : Rooms
  pub holds : Holds
  pub frugal : Frugally (simple_allowance (program_form program).types) lower behind [] t
  pub waits : Paused (known_in program procedure suspensions) object access places after lower rooms holds
  pub untreated : (v : Value) → v ≢ Names object → NothingBegins v after
  pub rests : RunsOn (known_in program procedure suspensions) after rooms holds
  pub aside : AdjustsAside (known_in program procedure suspensions) access record_type holds
  pub calm : IsCalm (behind_call behind)
  pub settled : AreCalls suspensions
  pub tracking : may_track (program_form program) ≡ true
  pub may : may_be_frugal (program_form program) ≡ true
  pub silent : (e : Exception) → body_among (implicit_of (program_form program)) (known_judged program number w.tracks []).program e ≡ true → ⊥
  -- what holds of the state that stands for it
  pub bodies : AreOf program (older s.activations) (resting procedure places (begins by done) object access [] place behind lower kept rooms holds ∷ suspensions)
  pub standing : Standing (known_judged program number w.tracks (resting procedure places (begins by done) object access [] place behind lower kept rooms holds ∷ suspensions)) t
  pub typed : typed.TypedIn (known_judged program number w.tracks []).program t
  pub apart : CallApart (program_form program).types (is_tracker (program_form program)) t.control
  pub ready : Ready (known_judged program number w.tracks (resting procedure places (begins by done) object access [] place behind lower kept rooms holds ∷ suspensions)) t

-- The activation that waits for the body.
abbrev pub waiting : (program : Program) (s : State) → Adjusting program s → Suspension
waiting program s f = resting f.procedure f.places (begins f.by f.done) f.object f.access [] f.place f.behind f.lower f.kept f.rooms f.holds

-- The state in which these components of an object hold null.
abbrev pub put_aside : List ℕ → Id → State → State
put_aside owners o s = record s { heap = blanked (hiding owners o) s.heap }

-- A component is one of these.
abbrev pub is_one_of : List ℕ → (component : ℕ) → Bool
is_one_of owners c = list_any (λ d. d == c) owners

-- This object, and no other.
abbrev pub is_this : Id → Id → Bool
is_this q o = q.0 == o.0

-- The body reaches no object of this one's type, or, where no value of its names the object, not this one: so it leaves the object as it is.
pub record Shunned (program : Program) (q : Id) (behind : Control) (lower : List Master) (s : State) : Type 0 where
  pub around : ℕ
  pub unnamed : Id → Bool
  pub reaching : IsReaching (program_form program) (is_around around) (bare_apart program) (is_this q) unnamed behind lower s

-- What the body reaches of its record lies in the record that was copied: among so many components from one on.
abbrev pub LieWithin : View → (reaches : ℕ → Bool) → (to count : ℕ) → Type 0
LieWithin w reaches to count = (d : ℕ) → reaches d ≡ true → (to ≤ w.base + d) × (w.base + d < to + count)

-- The body touches none of the components of the copy that are put aside; and the original, another record, stays as it is: it lies in the object, too, beside the
-- copy, or in another one, which the body leaves as it is.
pub record IsAside (program : Program) (w : View) (o : Id) (r to : ℕ) (owners : List ℕ) (vs : List Value) (behind : Control) (lower : List Master) (s : State) : Type 0 where
  pub reaches : ℕ → Bool
  pub beside : LieBeside w reaches (is_one_of owners)
  pub within : LieWithin w reaches to (count_found (record_components (program_form program).types r))
  pub confined : IsConfined w reaches s
  pub copied : CopiedFrom (program_form program).types s.heap o r to owners vs
  pub original : (copied.source ≡ o) ⊎ ((copied.source ≢ o) × Shunned program copied.source behind lower s)

-- So it is, or none is put aside.
abbrev pub LeavesAlone : Program → View → Id → (r to : ℕ) → List ℕ → List Value → Control → List Master → State → Type 0
LeavesAlone program w o r to owners vs behind lower s = (owners ≡ []) ⊎ IsAside program w o r to owners vs behind lower s

-- What is left of the adjustment of a copy; and what is put aside for that is left alone.
abbrev pub LeftAlone :
    Program → (access r : ℕ) → List Task → View → Id → List ℕ → List Value → Control → List Master → State → Type 0
LeftAlone program access r tasks w o owners vs behind lower s =
    (left : CopyLeft (program_form program).types access r tasks) × LeavesAlone program w o r left.first owners vs behind lower s

-- The body of such an Adjust runs, and others are called later for the same copy: the components that these see to are put aside; what they name, the original
-- names.
pub record AdjustingCopy (program : Program) (s : State) : Type 0 where
  pub object : Id
  pub owners : List ℕ
  pub adjusting : Adjusting program (put_aside owners object s)
  pub same : adjusting.object ≡ object
  pub owned : owners ≡ owners_left (program_form program).types adjusting.access adjusting.tasks
  pub x : Object
  pub found : object_at s.heap object ≡ Some x
  pub left :
      LeftAlone program adjusting.access adjusting.record_type adjusting.tasks adjusting.w object owners x.cell.values adjusting.behind adjusting.lower s
  -- so it looks at the object here, too
  pub sparing : Sparing program adjusting.w.object adjusting.access adjusting.behind adjusting.lower s
