-- A run comes to the next statement, or to its end, where operations are called, too: a call adds no more to the weight than it takes from what is left.

use Rattle.std.proofs.Common.{◌≡◌, ℕ, zero, suc, ◌+◌, ◌*◌, ◌<◌, ◌≤◌, Bool, true, false, if◌then◌else◌, List, [], ◌∷◌, length, Option, Some, None, is_some, arith, refl, ap, ◌∙◌}
use Rattle.std.specs.List.{slice_get}
use Rattle.std.proofs.Math.Nat.{suc-mul}
use Rattle.std.proofs.Math.Path.{fun_ext}
use Rattle.std.proofs.lemmas.Nat.{mul-le}
use Rattle.std.proofs.lemmas.List.Sums.{sum_by-cons}
use Rattle.ada_program.specs.declared.program.TypeDefinition.{TypeDefinition}
use Rattle.ada_program.specs.Controlled.{shapes_of, operations_of, procedure_number}
use Rattle.ada_program.specs.ProgramForm.{BodyForm, body_forms}
use Rattle.ada_parts.specs.declared.tasks.Next.TheVariants.{Done, Pick, Perform}
use Rattle.ada_parts.specs.Part.{Part}
use Rattle.ada_parts.specs.Task.{Task, performs, treats, next as task_next}
use Rattle.ada_meaning.specs.declared.state.Value.{Value}
use Rattle.ada_meaning.specs.declared.state.Mode.{Mode}
use Rattle.ada_meaning.specs.declared.state.Mode.TheVariants.{Running, Raising, Exiting, Returning}
use Rattle.ada_meaning.specs.declared.event.Birth.{Birth}
use Rattle.ada_meaning.specs.declared.event.Cause.{Cause}
use Rattle.ada_meaning.specs.declared.event.Halt.TheVariants.{Erroneous}
use Rattle.ada_meaning.specs.declared.event.Why.TheVariants.{FinalizesTwice}
use Rattle.ada_meaning.specs.Event.{Finalized, Quiet}
use Rattle.ada_meaning.specs.Frame.{Treatment, Frame}
use Rattle.ada_meaning.specs.Frame as frame
use Rattle.ada_meaning.specs.Heap.{PartState, Cell, Found, on_null, on_gone, on_other, finds}
use Rattle.ada_meaning.specs.Named.{State, Next, next, named, look, finalize, finalized_part}
use Rattle.ada_meaning.specs.Run.{Event, Choice, settled, grants, takes, Leads}
use Rattle.ada_meaning.specs.Step.{beginning, treating, operation_next, begun_next, ended_next, finalized_next, part_reference, performed_next, treats_next, halts, moves, tells, asks, picks, at, frame_next, running_next, mode_next}
use Rattle.ada_meaning.specs.Ending.{tasks_weight, declarations_weight, by_mode, passed_weight, exit_weight, return_weight, run_weight, heap_weight, masters_weight, task_calls, frame_calls, calls_among, calls_in, calls_operation, weight, here, there}
use Rattle.ada_meaning.specs.Pace.{type_operations, cost_within, done_cost, treats_operations, frame_operations, run_operations, operations_left, full_cost, bodies_weight, full_weight, OperationsGrowFewer, StepsMakeFullyLighter, StatementsEndWithOperations, DeclarationsWithoutPartsSettle}
use Rattle.ada_meaning.proofs.Activations.{number_there}
use Rattle.ada_meaning.proofs.Members.{part_lighter}
use Rattle.ada_meaning.proofs.Treatments.{treating_weight}
use Rattle.ada_meaning.proofs.Costs.{done_more}
use Rattle.ada_meaning.proofs.OperationsLeft as left
use Rattle.ada_meaning.proofs.Weight.{steps_make_lighter}

-- The state in a mode.
abbrev in_mode : Mode → State → State
in_mode mode s = record s { mode = mode }

abbrev running : State → State
running s = in_mode Running s

module _ (types : List TypeDefinition) (cost : (of : ℕ) → ℕ) (each : (n : ℕ) → 1 ≤ cost n) where
  -- What the objects and the items weigh, and the weight of a state, open.
  abbrev stored : State → ℕ
  stored s = heap_weight types s.heap + masters_weight s.masters

  abbrev load : State → ℕ
  load s = stored s + by_mode s.mode (passed_weight s.control) (exit_weight types s.control) (return_weight types s.control) (run_weight types s.control)

  -- Where an operation is called, what comes next weighs no more than this.
  abbrev Grows : Next → ℕ → Type 0
  Grows (halts halt) w = Unit {0}
  Grows (moves e s) w = load s ≤ w
  Grows (tells request e s) w = ⊥
  Grows (asks request answers) w = ⊥
  Grows (picks n taking) w = ⊥

  -- The declarations of a body weigh no more than those of all.
  abbrev body_weight : Option BodyForm → ℕ
  body_weight None = 0
  body_weight (Some b) = declarations_weight types b.declarations

  body_within : (bodies : List BodyForm) (n : ℕ) → body_weight (slice_get bodies n) ≤ bodies_weight types bodies
  body_within [] n = omega arith
  body_within (b ∷ bodies) zero = let all = sum_by-cons (λ (c : BodyForm). declarations_weight types c.declarations) b bodies in omega (arith, all)
  body_within (b ∷ bodies) (suc n) =
      let all = sum_by-cons (λ (c : BodyForm). declarations_weight types c.declarations) b bodies in
      let one = body_within bodies n in
      omega (arith, all, one)

  operation_grows :
      (procedure : ℕ) (found : Option BodyForm) (reference : Value) (behind : List (Frame Value)) (event : Event) (s : State) (w : ℕ)
      → stored s + body_weight found + 6 + run_weight types behind ≤ w → Grows (operation_next named procedure found reference behind event (running s)) w
  operation_grows procedure None reference behind event s w h = tt
  operation_grows procedure (Some b) reference behind event s w h = omega (arith, h)

  begun_grows :
      (bodies : List BodyForm) (v : Value) (by : Birth) (done : List Part) (of part : ℕ) (tasks : List Task) (operation : Option ℕ)
      (state : Option PartState) (s : State) (w : ℕ) → is_some operation ≡ true
      → load (running s) + bodies_weight types bodies + 11 + length done + tasks_weight (shapes_of types) tasks ≤ w
      → Grows (begun_next named bodies v by done of part tasks operation state (running s)) w
  begun_grows bodies v by done of part tasks operation None s w some h = tt
  begun_grows bodies v by done of part tasks None (Some p) s w some h = absurd (cc)
  begun_grows bodies v by done of part tasks (Some procedure) (Some p) s w some h =
      operation_grows procedure (slice_get bodies procedure) (part_reference named v part p) (frame.Awaits v by done of part tasks ∷ s.control) Quiet s w
      (let one = body_within bodies procedure in omega (arith, h, one))

  ended_grows :
      (bodies : List BodyForm) (v : Value) (part : ℕ) (p : PartState) (behind : List (Frame Value)) (operation : Option ℕ) (event : Event) (s : State) (w : ℕ)
      → is_some operation ≡ true → stored s + bodies_weight types bodies + 7 + run_weight types behind ≤ w
      → Grows (ended_next named bodies v part p behind operation event (running s)) w
  ended_grows bodies v part p behind None event s w some h = absurd (cc)
  ended_grows bodies v part p behind (Some procedure) event s w some h =
      operation_grows procedure (slice_get bodies procedure) (part_reference named v part p) (frame.Confines ∷ behind) event s w
      (let one = body_within bodies procedure in omega (arith, h, one))

  finalized_grows :
      (bodies : List BodyForm) (v : Value) (cause : Cause) (of part : ℕ) (tasks : List Task) (operation : Option ℕ)
      (state : Option PartState) (s : State) (w : ℕ) → is_some operation ≡ true
      → load (running s) + bodies_weight types bodies + 8 + tasks_weight (shapes_of types) tasks ≤ w
      → Grows (finalized_next named bodies v cause of part tasks operation state (running s)) w
  finalized_grows bodies v cause of part tasks operation None s w some h = tt
  finalized_grows bodies v cause of part tasks operation (Some p) s w some h = by_life p.alive
    where
      behind : List (Frame Value)
      behind = treating v (frame.ends cause) tasks s.control

      event : Event
      event = Finalized v part p.turn of p.number cause

      by_life :
          (alive : Bool)
          → Grows
          (if alive then ended_next named bodies v part p behind operation event (running (record s { heap = finalize s.heap v part }))
          else halts (Erroneous FinalizesTwice)) w
      by_life true =
          ended_grows bodies v part p behind operation event (record s { heap = finalize s.heap v part }) w some
          (omega (arith, h, part_lighter types finalized_part part s.heap v, treating_weight types v (frame.ends cause) tasks s.control))
      by_life false = tt

  -- The parts that have begun are counted among the operations that are left.
  abbrev begun_parts : Treatment → ℕ
  begun_parts (frame.begins by done) = length done
  begun_parts (frame.ends cause) = 0

  performed_grows :
      (bodies : List BodyForm) (v : Value) (treatment : Treatment) (of part : ℕ) (tasks : List Task) (found : Found (Cell Value)) (s : State) (w : ℕ)
      → task_calls types treatment (Perform of part) ≡ true
      → load (running s) + bodies_weight types bodies + 11 + begun_parts treatment + tasks_weight (shapes_of types) tasks ≤ w
      → Grows (performed_next named types bodies v treatment of part tasks found (running s)) w
  performed_grows bodies v treatment of part tasks on_null s w some h = tt
  performed_grows bodies v treatment of part tasks on_gone s w some h = tt
  performed_grows bodies v treatment of part tasks on_other s w some h = tt
  performed_grows bodies v (frame.begins by done) of part tasks (finds cell) s w some h =
      begun_grows bodies v by done of part tasks (beginning by (operations_of types of)) (slice_get cell.parts part) s w some h
  performed_grows bodies v (frame.ends cause) of part tasks (finds cell) s w some h =
      let operation = (operations_of types of).finalize in
      finalized_grows bodies v cause of part tasks (procedure_number operation) (slice_get cell.parts part) s w (number_there operation ∙ some)
      (omega (arith, h))

  never_picked : (treatment : Treatment) (count : ℕ) → task_calls types treatment (Pick count) ≡ true → ⊥
  never_picked (frame.begins by done) count some = cc
  never_picked (frame.ends cause) count some = cc

  never_done : (treatment : Treatment) → task_calls types treatment Done ≡ true → ⊥
  never_done (frame.begins by done) some = cc
  never_done (frame.ends cause) some = cc

  done_within : (done : List Part) → length done ≤ done_cost types cost done
  done_within [] = omega arith
  done_within (p ∷ done) = omega (arith, done_within done, done_more types cost p done, each p.of)

  -- So many are left at least.
  begun_within : (treatment : Treatment) (of part : ℕ) (tasks : List Task) → begun_parts treatment ≤ treats_operations types cost treatment (performs of part ∷ tasks)
  begun_within (frame.begins by done) of part tasks = omega (arith, done_within done)
  begun_within (frame.ends cause) of part tasks = omega arith

  treats_grow :
      (bodies : List BodyForm) (v : Value) (treatment : Treatment) (tasks : List Task) (s : State) (w : ℕ)
      → task_calls types treatment (task_next tasks) ≡ true
      → load (running s) + bodies_weight types bodies + 10 + treats_operations types cost treatment tasks + tasks_weight (shapes_of types) tasks ≤ w
      → Grows (treats_next named types bodies v treatment tasks (task_next tasks) (running s)) w
  treats_grow bodies v treatment [] s w some h = absurd (never_done treatment some)
  treats_grow bodies v treatment (performs of part ∷ tasks) s w some h =
      performed_grows bodies v treatment of part tasks (look s.heap v) s w some (omega (arith, h, begun_within treatment of part tasks))
  treats_grow bodies v treatment (treats cs ∷ tasks) s w some h = absurd (never_picked treatment (length cs) some)

  frame_grows :
      (bodies : List BodyForm) (f : Frame Value) (s : State) (w : ℕ) → frame_calls types f ≡ true
      → stored s + run_weight types (f ∷ s.control) + bodies_weight types bodies + 9 + frame_operations types cost f ≤ w
      → Grows (frame_next named types bodies f (running s)) w
  frame_grows bodies (frame.Treats v treatment tasks) s w some h = treats_grow bodies v treatment tasks s w some (omega (arith, h))
  frame_grows bodies f s w some h = absurd (cc)

  among_grows :
      (bodies : List BodyForm) (k : List (Frame Value)) (s : State) (w : ℕ) → calls_among types k ≡ true
      → stored s + run_weight types k + bodies_weight types bodies + 9 + run_operations types cost k ≤ w
      → Grows (running_next named types bodies k (running s)) w
  among_grows bodies [] s w some h = absurd (cc)
  among_grows bodies (f ∷ k) s w some h = frame_grows bodies f (at k s) w some (omega (arith, h))

  mode_grows :
      (bodies : List BodyForm) (mode : Mode) (s : State) (w : ℕ) → calls_in types mode s.control ≡ true
      → load (in_mode mode s) + bodies_weight types bodies + 9 + operations_left types cost (in_mode mode s) ≤ w
      → Grows (mode_next named types bodies mode (in_mode mode s)) w
  unfolding operations_left
  mode_grows bodies Running s w some h = among_grows bodies s.control s w some (omega (arith, h))
  mode_grows bodies (Raising e) s w some h = absurd (cc)
  mode_grows bodies Exiting s w some h = absurd (cc)
  mode_grows bodies Returning s w some h = absurd (cc)

  grown : (coming : Next) (choice : Choice) (event : Event) (w : ℕ) (after : State) → Grows coming w → Leads coming choice event after → load after ≤ w
  grown (halts halt) choice event w after h l = absurd l
  grown (moves e s) settled event w after h l = rw (l.1) h
  grown (moves e s) (grants granted) event w after h l = absurd l
  grown (moves e s) (takes i) event w after h l = absurd l
  grown (tells request e s) choice event w after h l = absurd h
  grown (asks request answers) choice event w after h l = absurd h
  grown (picks n taking) choice event w after h l = absurd h

  -- A step that calls an operation adds no more than this to the weight.
  call_grows :
      (bodies : List BodyForm) (s : State) (choice : Choice) (event : Event) (after : State) → calls_operation types s ≡ true
      → Leads (next types bodies s) choice event after → weight types after ≤ weight types s + bodies_weight types bodies + 9 + operations_left types cost s
  unfolding weight next
  call_grows bodies s choice event after some leads =
      let w = load s + bodies_weight types bodies + 9 + operations_left types cost s in
      grown (next types bodies s) choice event w after (mode_grows bodies s.mode s w some (omega arith)) leads

-- The numbers: less of what is left takes more than a call adds to the weight.
product_fewer : (n m k : ℕ) → n ≤ m → n * (10 + k + n) ≤ m * (10 + k + m)
product_fewer n m k le = mul-le n (10 + k + n) m (10 + k + m) le (omega (arith, le))

-- One call.
call_lighter : (before after n m k : ℕ) → after ≤ before + k + 9 + m → n + 1 ≤ m → after + n * (10 + k + n) < before + m * (10 + k + m)
call_lighter before after n zero k grows fewer = absurd (omega (arith, fewer))
call_lighter before after n (suc m) k grows fewer =
    let le : n ≤ m = omega (arith, fewer) in
    let most = mul-le n (10 + k + n) m (10 + k + suc m) le (omega (arith, le)) in
    let more = suc-mul m (10 + k + suc m) in
    omega (arith, grows, most, more)

-- Any other step.
other_lighter : (before after n m k : ℕ) → after < before → n ≤ m → after + n * (10 + k + n) < before + m * (10 + k + m)
other_lighter before after n m k lighter fewer = let most = product_fewer n m k fewer in omega (arith, lighter, most)

pub operations_grow_fewer : OperationsGrowFewer
operations_grow_fewer = left.operations_grow_fewer

-- Each step that begins no statement makes the full weight smaller.
pub steps_make_fully_lighter : StepsMakeFullyLighter
unfolding full_weight
steps_make_fully_lighter program s choice event after settle b step = by_call (calls_operation types s) refl
  where
    types : List TypeDefinition
    types = program.types.items

    bodies : List BodyForm
    bodies = body_forms program

    cost : (of : ℕ) → ℕ
    cost = full_cost types bodies

    fewer : operations_left types cost after + (if calls_operation types s then 1 else 0) ≤ operations_left types cost s
    fewer = left.operations_grow_fewer program s choice event after settle b step

    each : (n : ℕ) → 1 ≤ cost n
    each n = left.costs_some types cost bodies n (left.costs_cover types bodies settle)

    by_call : (is_called : Bool) → calls_operation types s ≡ is_called → full_weight program after < full_weight program s
    by_call true is =
        let less = rw is at fewer in
        call_lighter (weight types s) (weight types after) (operations_left types cost after) (operations_left types cost s) (bodies_weight types bodies)
        (call_grows types cost each bodies s choice event after is step) less
    by_call false is =
        let less = rw is at fewer in
        other_lighter (weight types s) (weight types after) (operations_left types cost after) (operations_left types cost s) (bodies_weight types bodies)
        (steps_make_lighter program s choice event after b is step) (omega (arith, less))

-- Where the declarations of no such body count, each call costs 1, however many calls are followed.
one_each :
    (types : List TypeDefinition) (bodies : List BodyForm) → ((of : ℕ) → type_operations types (λ n. 1) bodies (operations_of types of) ≡ 0) → (calls : ℕ)
    → cost_within types bodies calls ≡ (λ of. 1)
one_each types bodies none zero = fun_ext (λ of. refl)
one_each types bodies none (suc n) =
    fun_ext (λ of.
    ap (λ (cost : ℕ → ℕ). 1 + type_operations types cost bodies (operations_of types of)) (one_each types bodies none n)
    ∙ ap (λ (m : ℕ). 1 + m) (none of))

pub declarations_without_parts_settle : DeclarationsWithoutPartsSettle
declarations_without_parts_settle types bodies none of =
    let more = ap (λ (cost : ℕ → ℕ). cost of) (one_each types bodies none (suc (length bodies))) in
    let all = ap (λ (cost : ℕ → ℕ). cost of) (one_each types bodies none (length bodies)) in
    omega (arith, more, all)

-- So as many steps as the first state's full weight follow one another at most before a statement begins.
pub statements_end : StatementsEndWithOperations
statements_end program settle s last events here = omega arith
statements_end program settle s last (e ∷ events) (there choice mid b step rest) =
    let lighter = steps_make_fully_lighter program s choice e mid settle b step in
    omega (arith, statements_end program settle mid last events rest, lighter)
