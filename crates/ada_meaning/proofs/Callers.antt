-- Callers stay: no step changes an activation that waits.

use Rattle.std.proofs.Common.{◌≡◌, inl, inr, ℕ, ◌<◌, ◌≤◌, Bool, true, false, List, [], ◌∷◌, ◌++◌, length, arith, refl, sym, ap, ◌∙◌, subst}
use Rattle.ada_program.specs.declared.program.Program.{Program}
use Rattle.ada_program.specs.declared.program.TypeDefinition.{TypeDefinition}
use Rattle.ada_program.specs.Form.{ActualForm, no_stmts, a_stmt}
use Rattle.ada_program.specs.ProgramForm.{BodyForm, body_forms}
use Rattle.ada_program.specs.declared.program.Exception.{Exception}
use Rattle.ada_parts.specs.Part.{Part}
use Rattle.ada_parts.specs.Task.{Task, next as task_next}
use Rattle.ada_meaning.specs.declared.event.Birth.{Birth}
use Rattle.ada_meaning.specs.declared.event.Birth.TheVariants.{Creation, Copy, Adjustment}
use Rattle.ada_meaning.specs.declared.state.Value.{Value}
use Rattle.ada_meaning.specs.declared.state.Mode.{Mode}
use Rattle.ada_meaning.specs.declared.state.Mode.TheVariants.{Running, Raising, Exiting, Returning}
use Rattle.ada_meaning.specs.Frame.{Treatment, Frame, is_master, Landing, passes_on, goes_behind, goes_in, escapes, landing}
use Rattle.ada_meaning.specs.Frame as frame
use Rattle.ada_meaning.specs.State.{Activation}
use Rattle.ada_meaning.specs.Step.{halts, moves, tells, asks, picks, at, treats_next, resumed, returned, left_by, unwound, frame_next, undo_next, broken_next, broken_off, landed, pass_next, running_next, jump_next, mode_next}
use Rattle.ada_meaning.specs.Heap.{Cell, Found, on_null, on_gone, on_other, finds}
use Rattle.ada_meaning.specs.Named.{State, Next, next, named, look}
use Rattle.ada_meaning.specs.Ending.{task_calls}
use Rattle.ada_meaning.specs.Run.{Event, Choice, settled, grants, takes, Leads}
use Rattle.ada_meaning.specs.Calls.{callers_in, waiting, RunsOn, EndsAbruptly, ComesBack, BeginsOperation, CallersStay, StepsKeepCallers, CallersHold, goes_on, calls_one, operates, ends, breaks_off, WithinCall, here, there}
use Rattle.ada_meaning.proofs.Activations.{Kept, kept_of, shape, Keeps, operands_kept, treats_keep, Operates, treats_operate}
use Rattle.ada_meaning.proofs.Kept.{frame_keeps}
use Rattle.ada_meaning.proofs.CopiedBack.{comes_back, older_callers}

-- What is kept says that the running body goes on.
runs_on : (xs ys : List (Activation Value)) → shape ys ≡ shape xs → RunsOn xs ys
runs_on [] [] is = tt
runs_on [] (y ∷ ys) is = absurd (cc)
runs_on (x ∷ xs) [] is = absurd (cc)
runs_on (x ∷ xs) (y ∷ ys) is =
    let one : kept_of y ys ≡ kept_of x xs = cc in
    (ap (λ (k : Kept). k.callers) one, ap (λ (k : Kept). k.procedure) one, ap (λ (k : Kept). k.variables) one)

-- What comes next keeps the callers, whatever is answered.
abbrev Stays : List TypeDefinition → State → Next → Type 0
Stays types before (halts halt) = Unit {0}
Stays types before (moves e s) = CallersStay types before s
Stays types before (tells request e s) = CallersStay types before s
Stays types before (asks request answers) = (granted : Bool) → CallersStay types before (answers granted)
Stays types before (picks n taking) = (i : ℕ) → CallersStay types before (taking i)

keeps_stays : (types : List TypeDefinition) (before : State) (coming : Next) → Keeps (shape before.activations) coming → Stays types before coming
keeps_stays types before (halts halt) keeps = tt
keeps_stays types before (moves e s) keeps = goes_on (runs_on before.activations s.activations keeps)
keeps_stays types before (tells request e s) keeps = goes_on (runs_on before.activations s.activations keeps)
keeps_stays types before (asks request answers) keeps = λ granted. goes_on (runs_on before.activations (answers granted).activations (keeps granted))
keeps_stays types before (picks n taking) keeps = λ i. goes_on (runs_on before.activations (taking i).activations (keeps i))

-- A treatment goes on, or an operation is called.
operates_stays :
    (types : List TypeDefinition) (before : State) (coming : Next) → BeginsOperation types before → Operates before.activations coming → Stays types before coming
operates_stays types before (halts halt) begins o = tt
operates_stays types before (moves e s) begins o = operates begins o.0 o.1
operates_stays types before (tells request e s) begins o = absurd o
operates_stays types before (asks request answers) begins o = absurd o
operates_stays types before (picks n taking) begins o = absurd o

treats_stay :
    (types : List TypeDefinition) (bodies : List BodyForm) (v : Value) (treatment : Treatment) (tasks : List Task) (k : List (Frame Value)) (s : State)
    (called : Bool) → s.mode ≡ Running → s.control ≡ frame.Treats v treatment tasks ∷ k → task_calls types treatment (task_next tasks) ≡ called
    → Stays types s (treats_next named types bodies v treatment tasks (task_next tasks) (at k s))
treats_stay types bodies v treatment tasks k s true runs is some =
    operates_stays types s (treats_next named types bodies v treatment tasks (task_next tasks) (at k s))
    (record { object = v; treatment = treatment; tasks = tasks; outer = k; runs = runs; first = is; called = some })
    (treats_operate types bodies v treatment tasks (task_next tasks) (at k s) some)
treats_stay types bodies v treatment tasks k s false runs is none =
    keeps_stays types s (treats_next named types bodies v treatment tasks (task_next tasks) (at k s))
    (treats_keep types bodies v treatment tasks (task_next tasks) (at k s) none refl)

frame_stays :
    (types : List TypeDefinition) (bodies : List BodyForm) (f : Frame Value) (k : List (Frame Value)) (s : State) → s.mode ≡ Running → s.control ≡ f ∷ k
    → Stays types s (frame_next named types bodies f (at k s))
frame_stays types bodies (frame.Calls procedure body actuals) k s runs is =
    calls_one (record { procedure = procedure; body = body; actuals = actuals; outer = k; runs = runs; first = is }) _ refl
frame_stays types bodies (frame.Returns actuals references) k s runs is =
    ends (record { actuals = actuals; references = references; outer = k; first = is }) (inl runs) (comes_back actuals s.activations)
frame_stays types bodies (frame.Treats v treatment tasks) k s runs is =
    treats_stay types bodies v treatment tasks k s (task_calls types treatment (task_next tasks)) runs is refl
frame_stays types bodies f k s runs is = keeps_stays types s (frame_next named types bodies f (at k s)) (frame_keeps types bodies f (at k s) tt refl refl)

running_stays :
    (types : List TypeDefinition) (bodies : List BodyForm) (k : List (Frame Value)) (s : State) → s.mode ≡ Running → s.control ≡ k
    → Stays types s (running_next named types bodies k s)
running_stays types bodies [] s runs is = tt
running_stays types bodies (f ∷ k) s runs is = frame_stays types bodies f k s runs is

-- Where a jump passes a frame or lands, the running body goes on; what it has computed is dropped where an object is undone.
broken_keeps : (e : Exception) (v : Value) (by : Birth) (done : List Part) (s : State) → Keeps (shape s.activations) (broken_next named e v by done s)
broken_keeps e v Creation done s = by_found (look s.heap v)
  where
    by_found : (found : Found (Cell Value)) → Keeps (shape s.activations) (undo_next named e v done found s)
    by_found on_null = tt
    by_found on_gone = tt
    by_found on_other = tt
    by_found (finds cell) = operands_kept [] s refl
broken_keeps e v Copy done s = tt
broken_keeps e v (Adjustment number) done s = tt

off_keeps :
    (mode : Mode) (v : Value) (by : Birth) (done : List Part) (s : State) → Keeps (shape s.activations) (broken_off named mode v by done s)
off_keeps Running v by done s = tt
off_keeps (Raising e) v by done s = broken_keeps e v by done s
off_keeps Exiting v by done s = tt
off_keeps Returning v by done s = tt

landed_keeps : (l : Landing Value) (mode : Mode) (s : State) → Keeps (shape s.activations) (landed named l mode s)
landed_keeps passes_on mode s = refl
landed_keeps goes_behind mode s = refl
landed_keeps (goes_in no_stmts) mode s = tt
landed_keeps (goes_in (a_stmt f fs)) mode s = refl
landed_keeps (frame.breaks_off v by done) mode s = off_keeps mode v by done s
landed_keeps escapes mode s = tt

pass_keeps : (master : Bool) (l : Landing Value) (mode : Mode) (s : State) → Keeps (shape s.activations) (pass_next named master l mode s)
pass_keeps true l mode s = refl
pass_keeps false l mode s = landed_keeps l mode s

-- At the end of a call's body a return gives back what the caller is to get, and any other jump leaves the callers as they were.
returning_stays :
    (types : List TypeDefinition) (actuals : List ActualForm) (references : List Value) (k : List (Frame Value)) (s : State) → s.mode ≡ Returning
    → s.control ≡ frame.Returns actuals references ∷ k → CallersStay types s (record (returned named actuals references (at k s)) { mode = Running })
returning_stays types actuals references k s returns is =
    ends (record { actuals = actuals; references = references; outer = k; first = is }) (inr returns) (comes_back actuals s.activations)

broken_stays :
    (types : List TypeDefinition) (actuals : List ActualForm) (references : List Value) (k : List (Frame Value)) (mode : Mode) (s : State) → EndsAbruptly s.mode
    → s.control ≡ frame.Returns actuals references ∷ k → CallersStay types s (record (resumed s) { control = k; mode = mode })
broken_stays types actuals references k mode s abrupt is =
    breaks_off (record { actuals = actuals; references = references; outer = k; first = is }) abrupt (older_callers s.activations)

-- A frame that a jump passes.
abbrev IsJump : Mode → Type 0
IsJump Running = ⊥
IsJump (Raising e) = Unit {0}
IsJump Exiting = Unit {0}
IsJump Returning = Unit {0}

passed_end_stays :
    (types : List TypeDefinition) (mode : Mode) (actuals : List ActualForm) (references : List Value) (k : List (Frame Value)) (s : State) → IsJump mode → s.mode ≡ mode
    → s.control ≡ frame.Returns actuals references ∷ k
    → Stays types s (pass_next named false (landing mode (frame.Returns actuals references)) mode (left_by named mode actuals references (at k s)))
passed_end_stays types Running actuals references k s jump m is = absurd jump
passed_end_stays types (Raising e) actuals references k s jump m is = broken_stays types actuals references k s.mode s (subst EndsAbruptly (sym m) tt) is
passed_end_stays types Exiting actuals references k s jump m is = broken_stays types actuals references k s.mode s (subst EndsAbruptly (sym m) tt) is
passed_end_stays types Returning actuals references k s jump m is = returning_stays types actuals references k s m is

passed_stays :
    (types : List TypeDefinition) (mode : Mode) (f : Frame Value) (k : List (Frame Value)) (s : State) → IsJump mode → s.mode ≡ mode → s.control ≡ f ∷ k
    → Stays types s (pass_next named (is_master f) (landing mode f) mode (unwound named mode f (at k s)))
passed_stays types mode (frame.Returns actuals references) k s jump m is = passed_end_stays types mode actuals references k s jump m is
passed_stays types mode f k s jump m is =
    keeps_stays types s (pass_next named (is_master f) (landing mode f) mode (at k s)) (pass_keeps (is_master f) (landing mode f) mode (at k s))

jump_stays :
    (types : List TypeDefinition) (mode : Mode) (k : List (Frame Value)) (s : State) → IsJump mode → s.mode ≡ mode → s.control ≡ k
    → Stays types s (jump_next named mode k s)
jump_stays types mode [] s jump m is = tt
jump_stays types mode (f ∷ k) s jump m is = passed_stays types mode f k s jump m is

mode_stays : (types : List TypeDefinition) (bodies : List BodyForm) (mode : Mode) (s : State) → s.mode ≡ mode → Stays types s (mode_next named types bodies mode s)
mode_stays types bodies Running s runs = running_stays types bodies s.control s runs refl
mode_stays types bodies (Raising e) s raises = jump_stays types (Raising e) s.control s tt raises refl
mode_stays types bodies Exiting s exits = jump_stays types Exiting s.control s tt exits refl
mode_stays types bodies Returning s returns = jump_stays types Returning s.control s tt returns refl

next_stays : (types : List TypeDefinition) (bodies : List BodyForm) (s : State) → Stays types s (next types bodies s)
unfolding next
next_stays types bodies s = mode_stays types bodies s.mode s refl

led :
    (types : List TypeDefinition) (before : State) (coming : Next) (choice : Choice) (e : Event) (after : State) → Stays types before coming
    → Leads coming choice e after → CallersStay types before after
led types before (halts halt) choice e after d l = absurd l
led types before (moves shown s) settled e after d l = rw (l.1) d
led types before (moves shown s) (grants granted) e after d l = absurd l
led types before (moves shown s) (takes i) e after d l = absurd l
led types before (tells request shown s) settled e after d l = rw (l.1) d
led types before (tells request shown s) (grants granted) e after d l = absurd l
led types before (tells request shown s) (takes i) e after d l = absurd l
led types before (asks request answers) settled e after d l = absurd l
led types before (asks request answers) (grants granted) e after d l = rw (l.1) (d granted)
led types before (asks request answers) (takes i) e after d l = absurd l
led types before (picks n taking) settled e after d l = absurd l
led types before (picks n taking) (grants granted) e after d l = absurd l
led types before (picks n taking) (takes i) e after d l = rw (l.2) (d i)

pub callers_stay : StepsKeepCallers
callers_stay program before after choice e l =
    led program.types.items before (next program.types.items (body_forms program) before) choice e after (next_stays program.types.items (body_forms program) before) l

-- Where a body ends, no more activations are left than waited.
no_more :
    (actuals : List ActualForm) (callers xs : List (Activation Value)) (running : Activation Value) → ComesBack actuals (running ∷ callers) xs
    → length xs ≤ length callers
no_more actuals [] xs running back = let none : length xs ≡ 0 = ap length back in omega (arith, none)
no_more actuals (caller ∷ suspended) [] running back = absurd back
no_more actuals (caller ∷ suspended) (later ∷ behind) running back =
    let same : length behind ≡ length suspended = ap length back.0 in omega (arith, same)

-- Over a run: some activation runs, and behind it and others that began since, these callers wait.
abbrev Wait : List (Activation Value) → List (Activation Value) → Type 0
Wait callers xs = (later : Activation Value) × (inner : List (Activation Value)) × (xs ≡ later ∷ inner ++ callers)

module _ (callers : List (Activation Value)) where
  goes_wait : (inner xs : List (Activation Value)) (running : Activation Value) → RunsOn (running ∷ inner ++ callers) xs → Wait callers xs
  goes_wait inner [] running runs = absurd runs
  goes_wait inner (x ∷ xs) running runs = (x, inner, ap (λ (ys : List (Activation Value)). x ∷ ys) runs.0)

  ends_wait : (inner xs : List (Activation Value)) → length callers < length xs → xs ≡ inner ++ callers → Wait callers xs
  ends_wait [] xs deep is = let same : length xs ≡ length callers = ap length is in absurd (omega (arith, deep, same))
  ends_wait (later ∷ inner) xs deep is = (later, inner, is)

  comes_wait :
      (actuals : List ActualForm) (inner xs : List (Activation Value)) (running : Activation Value) → length callers < length xs
      → ComesBack actuals (running ∷ inner ++ callers) xs → Wait callers xs
  comes_wait actuals [] xs running deep back =
      let same : length xs ≤ length callers = no_more actuals callers xs running back in absurd (omega (arith, deep, same))
  comes_wait actuals (caller ∷ inner) [] running deep back = absurd back
  comes_wait actuals (caller ∷ inner) (later ∷ behind) running deep back = (later, inner, ap (λ (ys : List (Activation Value)). later ∷ ys) back.0)

  step_waits :
      (types : List TypeDefinition) (before after : State) (running : Activation Value) (inner : List (Activation Value)) → before.activations ≡ running ∷ inner ++ callers
      → length callers < length after.activations → CallersStay types before after → Wait callers after.activations
  step_waits types before after running inner is deep (goes_on runs) =
      goes_wait inner after.activations running (subst (λ (xs : List (Activation Value)). RunsOn xs after.activations) is runs)
  step_waits types before after running inner is deep (calls_one begins callee called) =
      (callee, record running { operands = [] } ∷ inner, called ∙ ap (λ (xs : List (Activation Value)). callee ∷ waiting xs) is)
  step_waits types before after running inner is deep (operates begins callee called) =
      (callee, running ∷ inner, called ∙ ap (λ (xs : List (Activation Value)). callee ∷ xs) is)
  step_waits types before after running inner is deep (ends body normal back) =
      comes_wait body.actuals inner after.activations running deep
      (subst (λ (xs : List (Activation Value)). ComesBack body.actuals xs after.activations) is back)
  step_waits types before after running inner is deep (breaks_off body abrupt left) = ends_wait inner after.activations deep (left ∙ ap callers_in is)

  run_waits :
      (program : Program) (s last : State) (events : List Event) (running : Activation Value) (inner : List (Activation Value))
      → s.activations ≡ running ∷ inner ++ callers → WithinCall program (length callers) s events last → Wait callers last.activations
  run_waits program s last events running inner is here = (running, inner, is)
  run_waits program s last (e ∷ events) running inner is (there choice mid step deep rest) =
      let waits = step_waits program.types.items s mid running inner is deep (callers_stay program s mid choice e step) in
      run_waits program mid last events waits.0 waits.1 waits.2 rest

pub callers_hold : CallersHold
callers_hold program first last events running callers is within = run_waits callers program first last events running [] is within
