-- Where the body of an operation runs, each step leads on in it, or behind it (7.6).

use Rattle.std.proofs.Common.{◌≡◌, ℕ, true, List, [], ◌∷◌, ◌++◌, refl, ◌⊎◌, inl, inr}
use Rattle.ada_program.specs.declared.program.Exception.{Exception}
use Rattle.ada_program.specs.declared.program.Program.{Program}
use Rattle.ada_program.specs.Handling.{is_same}
use Rattle.ada_effects.specs.Effects.{no_calls, body_raises}
use Rattle.ada_program.specs.ProgramForm.{main_body, program_form, seen_in}
use Rattle.std.specs.Prelude.{Some}
use Rattle.ada_meaning.specs.declared.state.Id.{Id}
use Rattle.ada_meaning.specs.declared.state.Value.{Value}
use Rattle.ada_meaning.specs.declared.state.Value.TheVariants.{Null, Names, Scalar, Part}
use Rattle.ada_meaning.specs.State.{Activation, Master}
use Rattle.ada_meaning.specs.declared.state.Mode.{Mode}
use Rattle.ada_meaning.specs.declared.state.Mode.TheVariants.{Running, Raising, Exiting, Returning}
use Rattle.ada_meaning.specs.declared.event.Halt.TheVariants.{Stuck}
use Rattle.ada_meaning.specs.Frame.{Returns}
use Rattle.ada_program.specs.declared.program.TypeDefinition.{TypeDefinition}
use Rattle.ada_program.specs.Form.{ActualForm}
use Rattle.ada_program.specs.ProgramForm.{BodyForm}
use Rattle.ada_meaning.specs.Event.{Quiet}
use Rattle.ada_meaning.specs.Step.{returned, halts, moves, tells, asks, picks, frame_next, jump_next, mode_next}
use Rattle.ada_meaning.specs.Named.{State, Next, named}
use Rattle.ada_meaning.specs.Run.{Event}
use Rattle.ada_sound.proofs.Invariant.{Control}
use Rattle.ada_sound.proofs.Returns.{CrossesTo}
use Rattle.ada_sound.proofs.OperationCalls.{goes_behind, raises_behind, around_behind, around_raising, waits_on, waits_written}
use Rattle.ada_sound.proofs.Operating.{Sight, IsScalar, Finds, Comes, Body, behind_operation}
use Rattle.ada_sound.proofs.Operates.{Suspended, Operates}
use Rattle.ada_sound.proofs.OperationSteps.{acting, After, Wrote, GoesOnIn}
use Rattle.ada_sound.proofs.OperationRuns.{running_on, raising_on, exiting_on, returning_on}
use Rattle.ada_sound.proofs.Touching.{Around}

-- What names nothing.
nameless : (v : Value) → IsScalar v → (p : Id) → v ≡ Names p → ⊥
nameless Null h p is = cc is
nameless (Names o) h p is = h
nameless (Scalar n) h p is = cc is
nameless (Part o place) h p is = h

-- The body runs on, and what waits for it waits still.
pub operates_on : (program : Program) (s after : State) (e : Event) (o : Operates program s)
    → After (record { program = seen_in (Some o.procedure) (program_form program); object = o.object; access = o.access }) o.procedure (o.caller ∷ o.rest) o.lower o.behind s.heap e after
    → Operates program after
operates_on program s after e o a = record {
  procedure = o.procedure;
  is_body = o.is_body;
  plain = o.plain;
  places = a.places;
  operands = a.operands;
  caller = o.caller;
  rest = o.rest;
  active = a.active;
  behind = o.behind;
  upper = a.upper;
  lower = o.lower;
  masters = a.masters;
  object = o.object;
  access = o.access;
  body = a.body;
  treatment = o.treatment;
  suspended = by a.wrote;
  prepared = o.prepared;
}
  where
    sight : Sight
    sight = record { program = seen_in (Some o.procedure) (program_form program); object = o.object; access = o.access }

    by : Wrote sight o.procedure (o.caller ∷ o.rest) o.lower o.behind s.heap after.heap
        → Suspended program o.object o.treatment o.caller o.rest o.behind o.lower after
    by (inl same) = waits_on program o.object o.treatment o.caller o.rest o.behind o.lower s after same o.suspended
    by (inr (x, c, v, found, is, wrote)) = waits_written program o.object o.treatment o.caller o.rest o.behind o.lower s after x c v found (nameless v is.0) (λ p at. nameless (Names p) (is.1 (Names p) at) p refl) wrote o.suspended

-- The body ends: the state is that in which what waits for it goes on.
pub ends_is : (s : State) (a caller : Activation Value) (rest : List (Activation Value)) (behind : Control) (lower : List Master)
    → returned named [] [] (record s { mode = Running; control = behind; activations = a ∷ caller ∷ rest; masters = lower }) ≡ behind_operation (caller ∷ rest) behind lower s
ends_is s a caller rest behind lower = refl

-- So its caller goes on, and what was around the operation is around it.
pub operation_ends : (program : Program) (s : State) (o : Operates program s)
    → CrossesTo program o.suspended.suspensions s.heap Quiet (behind_operation (o.caller ∷ o.rest) o.behind o.lower s) × Around program o.suspended.suspensions (behind_operation (o.caller ∷ o.rest) o.behind o.lower s)
operation_ends program s o = (
  goes_behind program o.object o.treatment o.caller o.rest o.behind o.lower s o.body.x o.body.found o.body.live o.suspended,
  around_behind program o.object o.treatment o.caller o.rest o.behind o.lower s o.suspended,
)

-- An exception comes out of it: the object that is treated is undone next (7.6.1).
pub operation_raises : (program : Program) (s : State) (o : Operates program s) (x : Exception) → body_raises no_calls (main_body (seen_in (Some o.procedure) (program_form program))) (is_same x) ≡ true
    → CrossesTo program o.suspended.suspensions s.heap Quiet (record (behind_operation (o.caller ∷ o.rest) o.behind o.lower s) { mode = Raising x })
    × Around program o.suspended.suspensions (record (behind_operation (o.caller ∷ o.rest) o.behind o.lower s) { mode = Raising x })
operation_raises program s o x may = (
  raises_behind program o.object o.treatment o.caller o.rest o.behind o.lower s o.access x o.body.x o.body.found o.body.of_access o.body.live (o.prepared x may) o.suspended,
  around_raising program o.object o.treatment o.caller o.rest o.behind o.lower s o.access x (o.prepared x may) o.suspended,
)

-- What comes next, in the body or behind it.
module _ (sight : Sight) (procedure : ℕ) (caller : Activation Value) (rest : List (Activation Value)) (lower : List Master) (behind : Control) (tds : List TypeDefinition) (bodies : List BodyForm) (s : State) (places vs : List Value) where
  abbrev pub acts : Mode → Control → List Master → State
  acts mode k ms = record s { mode = mode; control = k; activations = acting sight procedure (caller ∷ rest) lower behind places vs ∷ caller ∷ rest; masters = ms ++ lower }

  -- An exception comes out of the body.
  abbrev pub ComesOut : State → Type 0
  ComesOut after =
      (x : Exception) × (body_raises no_calls (main_body sight.program) (is_same x) ≡ true) × (after ≡ record (behind_operation (caller ∷ rest) behind lower s) { mode = Raising x })

  abbrev pub StepsOn : Next → Type 0
  StepsOn (halts halt) = halt ≡ Stuck
  StepsOn (moves e after) = After sight procedure (caller ∷ rest) lower behind s.heap e after ⊎ ((e ≡ Quiet) × ((after ≡ behind_operation (caller ∷ rest) behind lower s) ⊎ ComesOut after))
  StepsOn (tells request e after) = ⊥
  StepsOn (asks request answered) = ⊥
  StepsOn (picks n taken) = ⊥

  stays_in : (n : Next) → GoesOnIn sight procedure (caller ∷ rest) lower behind s.heap n → StepsOn n
  stays_in (halts halt) g = g
  stays_in (moves e after) g = inl g
  stays_in (tells request e after) g = g
  stays_in (asks request answered) g = g
  stays_in (picks n taken) g = g

  no_end : (actuals : List ActualForm) (references : List Value) (k : Control) (ms : List Master) (ws : List Value) → Finds sight behind ms (Returns actuals references ∷ k) ws → ⊥
  no_end actuals references k ms [] found = found
  no_end actuals references k ms (w ∷ ws) found = found

  running : (ms : List Master) (k : Control) → Body sight behind ms s.heap places vs Running k → Comes sight behind ms Running k vs → StepsOn (mode_next named tds bodies Running (acts Running k ms))
  running ms [] body (inl (all, goes, q)) = absurd q
  running ms [] body (inr (is, found)) = absurd found
  running ms (Returns actuals references ∷ k) body (inr (is, found)) = absurd (no_end actuals references k ms vs found)
  running ms (Returns actuals references ∷ k) body (inl (all, goes, (given, none, is))) = rw (given.0, given.1, none, is) (inr (refl, inl refl))
  running ms (f ∷ k) body comes =
      stays_in (frame_next named tds bodies f (acts Running k ms)) (running_on sight procedure (caller ∷ rest) lower behind tds bodies s ms places k (f ∷ k) f vs refl body comes)

  jumping : (mode : Mode) (ms : List Master) (k : Control) → (mode ≡ Running → ⊥) → Body sight behind ms s.heap places vs mode k → Comes sight behind ms mode k vs → StepsOn (mode_next named tds bodies mode (acts mode k ms))
  jumping mode ms k jumps body (inr (is, found)) = absurd (jumps is)
  jumping mode ms [] jumps body (inl (all, goes, q)) = absurd q
  jumping Running ms (f ∷ k) jumps body (inl (all, goes, q)) = absurd (jumps refl)
  jumping (Raising e) ms (Returns actuals references ∷ k) jumps body (inl (all, goes, (given, none, is))) = rw (none, is) (inr (refl, inr (e, goes, refl)))
  jumping (Raising e) ms (f ∷ k) jumps body (inl (all, goes, q)) =
      stays_in (jump_next named (Raising e) (f ∷ k) (acts (Raising e) k ms)) (raising_on sight procedure (caller ∷ rest) lower behind tds bodies s places k (f ∷ k) vs all ms e f body refl goes q)
  jumping Exiting ms (f ∷ k) jumps body (inl (all, goes, q)) =
      stays_in (jump_next named Exiting (f ∷ k) (acts Exiting k ms)) (exiting_on sight procedure (caller ∷ rest) lower behind tds bodies s places k (f ∷ k) vs all ms f body goes q)
  jumping Returning ms (Returns actuals references ∷ k) jumps body (inl (all, goes, (given, none, is))) = rw (given.0, given.1, none, is) (inr (refl, inl refl))
  jumping Returning ms (f ∷ k) jumps body (inl (all, goes, q)) =
      stays_in (jump_next named Returning (f ∷ k) (acts Returning k ms)) (returning_on sight procedure (caller ∷ rest) lower behind tds bodies s places k (f ∷ k) vs all ms f body refl q)

  -- Whatever the body does, it goes on, or what waits for it does, perhaps with an exception, or the run is stuck, as no well-formed program is.
  pub steps_on : (mode : Mode) (ms : List Master) (k : Control) → Body sight behind ms s.heap places vs mode k → StepsOn (mode_next named tds bodies mode (acts mode k ms))
  steps_on Running ms k body = running ms k body body.comes
  steps_on (Raising e) ms k body = jumping (Raising e) ms k (λ is. cc is) body body.comes
  steps_on Exiting ms k body = jumping Exiting ms k (λ is. cc is) body body.comes
  steps_on Returning ms k body = jumping Returning ms k (λ is. cc is) body body.comes
