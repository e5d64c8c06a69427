-- Each step: all that is left to do nests still.

use Rattle.std.proofs.Common.{◌≡◌, ℕ, ℤ, zero, suc, ◌==◌, Bool, true, false, if◌then◌else◌, List, [], ◌∷◌, length, Option, Some, None, refl, sym, ap, ◌∙◌, subst, arith}
use Rattle.std.specs.List.{slice_get, Contains}
use Rattle.ada_program.specs.declared.program.Exception.{Exception}
use Rattle.ada_program.specs.declared.program.Program.{Program}
use Rattle.ada_program.specs.declared.program.TypeDefinition.{TypeDefinition}
use Rattle.ada_program.specs.Controlled.{operations_of, procedure_number, shapes_of}
use Rattle.ada_program.specs.ProgramForm.{BodyForm, body_forms}
use Rattle.ada_program.specs.Typed.{width_of}
use Rattle.ada_parts.specs.declared.tasks.Direction.TheVariants.{PartsFirst, WholeFirst}
use Rattle.ada_parts.specs.declared.tasks.Component.{Component}
use Rattle.ada_parts.specs.Shape.{Shape}
use Rattle.ada_parts.specs.Part.{Part, numbers}
use Rattle.ada_parts.specs.Task.{Task, performs, treats}
use Rattle.ada_meaning.specs.declared.event.Birth.{Birth}
use Rattle.ada_meaning.specs.declared.event.Birth.TheVariants.{Creation, Copy, Adjustment}
use Rattle.ada_meaning.specs.declared.event.Cause.{Cause}
use Rattle.ada_meaning.specs.declared.event.Cause.TheVariants.{Leaving, Freeing, Assigning, Undoing}
use Rattle.ada_meaning.specs.declared.event.Halt.TheVariants.{Erroneous, Stuck}
use Rattle.ada_meaning.specs.declared.event.Why.TheVariants.{FinalizesTwice, GivesElsewhere}
use Rattle.ada_meaning.specs.declared.state.Id.{Id}
use Rattle.ada_meaning.specs.declared.state.Mode.{Mode}
use Rattle.ada_meaning.specs.declared.state.Mode.TheVariants.{Running, Raising, Exiting, Returning}
use Rattle.ada_meaning.specs.declared.state.Place.{Place}
use Rattle.ada_meaning.specs.declared.state.Value.{Value}
use Rattle.ada_meaning.specs.declared.state.Value.TheVariants.{Null, Names, Scalar, Part as Inside}
use Rattle.ada_meaning.specs.Event.{Back, Finalized}
use Rattle.ada_meaning.specs.Frame.{Frame, Treatment, begins, ends}
use Rattle.ada_meaning.specs.Frame as frame
use Rattle.ada_meaning.specs.Heap.{PartState, Cell, Found, on_null, on_gone, on_other, finds}
use Rattle.ada_meaning.specs.Step.{halts, picks, at, older, operands, popped, newest, first_or, all_tasks, record_tasks, picked_task, direction_of, treating, treated_on, taken_out, storing, copied_next, copies_next, record_in, record_stored_next, store_record_next, newest_ones, without_newest, same_pool, told_back, given_back, back_next, end_next, assigns_next, beginning as operation_of, operation_next, part_reference, born_next, begun_next, awaited_next, ended_next, finalized_next, performed_next, undo_next, broken_next, frame_next, running_next, jump_next, mode_next}
use Rattle.ada_meaning.specs.Named.{State, Next, named, next, look, lent, same, on_object, returned, finalize}
use Rattle.ada_meaning.specs.Run.{Event, Run, first_state}
use Rattle.ada_meaning.proofs.Kept.{IsWithin}
use Rattle.ada_finalized.specs.Law.{NothingBegins, NoOperationRunsOn, IsInside, TreatsInside}
use Rattle.ada_finalized.proofs.Doings.{name, number_of, Calm, rest}
use Rattle.ada_finalized.proofs.Inside.{inside_performed}
use Rattle.ada_finalized.proofs.InnerParts.{inside_picked, begun_operation_inside}
use Rattle.ada_finalized.proofs.Invariant.{Fits}
use Rattle.ada_finalized.proofs.Leading.{Leading, leading_map}
use Rattle.ada_finalized.proofs.Made.{Mild, Made, keeps, adds, frees, copies}
use Rattle.ada_finalized.proofs.Made as made
use Rattle.ada_finalized.proofs.Runs.{past_then, last_holds}
use Rattle.ada_finalized.proofs.Stacks.{Control}
use Rattle.ada_finalized.proofs.Statements.{rest_storing}
use Rattle.ada_finalized.proofs.Treated.{undoing, undoing_left}
use Rattle.ada_finalized.proofs.Walk.{frame_does, jump_calm}
use Rattle.ada_assigned.proofs.Keeping.{Told}
use Rattle.ada_assigned.proofs.Seeking.{Stands, operands_popped}
use Rattle.ada_inside.specs.Law.{BegunInside, OperatesInside, NestInside, IsLeftApart}
use Rattle.ada_inside.proofs.Nesting.{nests_behind, nests_alike, begins_nest, ends_nest, none_begun, all_inside, alone_behind, alone_alike, nothing_front, nothing_alike}
use Rattle.ada_inside.proofs.Alone.{new_alone, listed_alone, IsPlain, freed_alone}
use Rattle.ada_inside.proofs.Assigned.{adjusts_inside, finalizes_inside}

module _ (program : Program) (input : List ℤ) (events : List Event) (s : State) (run : Run program (first_state program input) events s)
    (told : Told) (watched : told.watched ≡ true) (stands : Stands program.types.items told s) where
  abbrev types : List TypeDefinition
  types = program.types.items

  abbrev bodies : List BodyForm
  bodies = body_forms program

  abbrev shapes : List Shape
  shapes = shapes_of program.types.items

  -- What comes next nests, if an object that is finalized as its master is left stands apart.
  abbrev Nests : Event → State → Type 0
  Nests e u = IsLeftApart u → NestInside shapes u.control

  abbrev Lead : Next → Type 0
  Lead n = Leading Nests n

  fits : Fits program.types.items (past_then events []) s
  fits = (last_holds program input events s run).fits

  -- One more part has begun.
  one_begun : (v : Value) (p : Part) (done : List Part) (k : Control) → IsInside shapes v p.number k → BegunInside shapes v done k → BegunInside shapes v (p ∷ done) k
  one_begun v p done k first begun n (zero, lt, is) = subst (λ (m : ℕ). IsInside shapes v m k) is first
  one_begun v p done k first begun n (suc i, lt, is) = begun n (i, omega (arith, lt), is)

  module _ (f : Frame Value) (k : Control) (is : s.control ≡ f ∷ k) (nests : NestInside shapes (f ∷ k)) where
    behind : NestInside shapes k
    behind = nests_behind shapes f k nests

    alone : (v : Value) → NoOperationRunsOn v s.control → NoOperationRunsOn v k
    alone v none = alone_behind v f k (subst (NoOperationRunsOn v) is none)

    -- An object is taken out as its master is left.
    left_nests :
        (u : State) (v : Value) (cause : Cause) (pool : Option ℕ) (tasks : List Task) (j : Control) → number_of cause ≡ None
        → u.control ≡ treating v (ends cause) tasks (frame.Ends v ∷ frame.GivesBack v cause pool ∷ j) → NestInside shapes j → (NothingBegins v j → NoOperationRunsOn v j) → IsLeftApart u
        → NestInside shapes u.control
    left_nests u v (Leaving m i) pool [] j none control h alone_if apart = subst (NestInside shapes) (sym control) h
    left_nests u v (Leaving m i) pool (task ∷ tasks) j none control h alone_if apart =
        let after = frame.Ends v ∷ frame.GivesBack v (Leaving m i) pool ∷ j in
        subst (NestInside shapes) (sym control) (all_inside shapes v (task ∷ tasks) after (alone_if (apart v m i (task ∷ tasks) after control)), h)
    left_nests u v (Freeing n) pool tasks j none control h alone_if apart = absurd (cc none)
    left_nests u v (Assigning n) pool tasks j none control h alone_if apart = absurd (cc none)
    left_nests u v (Undoing n) pool tasks j none control h alone_if apart = absurd (cc none)

    taken_nests :
        (after u : State) (v : Value) (cause : Cause) (pool : Option ℕ) (found : Found (Cell Value)) → number_of cause ≡ None → after ≡ taken_out named types cause pool v found u
        → NestInside shapes u.control → (NothingBegins v u.control → NoOperationRunsOn v u.control) → IsLeftApart after → NestInside shapes after.control
    taken_nests after u v cause pool on_null none was h alone_if apart = subst (λ (w : State). NestInside shapes w.control) (sym was) h
    taken_nests after u v cause pool on_gone none was h alone_if apart = subst (λ (w : State). NestInside shapes w.control) (sym was) h
    taken_nests after u v cause pool on_other none was h alone_if apart = subst (λ (w : State). NestInside shapes w.control) (sym was) h
    taken_nests after u v cause pool (finds cell) none was h alone_if apart =
        left_nests after v cause pool (all_tasks types cell.access WholeFirst) u.control none (ap (λ (w : State). w.control) was) h alone_if apart

    -- Code.
    module _ (on : s.mode ≡ Running) (c : Calm f) (plain : IsPlain f) where
      made_nests : (e : Event) (u : State) → Mild e × Made types s.heap s.mode s.next (rest k) u → Nests e u
      made_nests e u (mild, keeps same left) apart = nests_alike shapes u.control k left behind
      made_nests e u (mild, adds cell by j new own left mode heap control) apart =
          let v = name (length s.heap) in
          let tasks = all_tasks types cell.access PartsFirst in
          subst (NestInside shapes) (sym control)
          (begins_nest shapes v by [] tasks j (all_inside shapes v tasks j (alone_alike v j k left (alone v (new_alone program input events s run)))) (none_begun shapes v j)
          (nests_alike shapes j k left behind))
      made_nests e u (mild, frees v cell pool j found left mode more heap control) apart =
          let tasks = all_tasks types cell.access WholeFirst in
          let back = frame.Ends v ∷ frame.GivesBack v (Freeing s.next) pool ∷ j in
          let none = alone_alike v j k left (alone v (freed_alone types (past_then events []) s fits f k is on c plain v cell found)) in
          subst (NestInside shapes) (sym control)
          (ends_nest shapes v (Freeing s.next) tasks back (all_inside shapes v tasks back none) (nests_alike shapes j k left behind))
      made_nests e u (mild, made.takes v cause pool w none listed left mode heap was) apart =
          taken_nests u w v cause pool (look s.heap v) none was (nests_alike shapes w.control k left behind)
          (λ nothing.
          alone_alike v w.control k left
          (alone v (listed_alone program input events s run v listed
          (subst (NothingBegins v) (sym is) (nothing_front v f k c (nothing_alike v k w.control (sym left) nothing)))))) apart
      made_nests e u (mild, copies target source t j same left mode control) apart = subst (NestInside shapes) (sym control) (nests_alike shapes j k left behind)

      calm_nests : IsWithin f → Lead (frame_next named types bodies f (at k s))
      calm_nests within =
          leading_map (λ e u. Mild e × Made types s.heap s.mode s.next (rest k) u) Nests (frame_next named types bodies f (at k s)) made_nests
          (frame_does types bodies f (at k s) c within)

    -- A jump passes a frame of code.
    calm_passes : (mode : Mode) → Calm f → Lead (jump_next named mode (f ∷ k) s)
    calm_passes mode c =
        leading_map (λ e u. Mild e × (u.heap ≡ s.heap) × (rest u.control ≡ rest k) × (u.activations ≡ s.activations)) Nests (jump_next named mode (f ∷ k) s)
        (λ e u m apart. nests_alike shapes u.control k m.2 behind) (jump_calm types mode f k s c)

  -- Records are copied and stored (5.2).
  copied_nests : (o : Value) (found : Option (List Value)) (u : State) → NestInside shapes u.control → Lead (copied_next named o found u)
  copied_nests o None u h = tt
  copied_nests o (Some vs) u h = λ apart. h

  copies_nest : (o : Value) (first count : ℕ) (found : Found (Cell Value)) (u : State) → NestInside shapes u.control → Lead (copies_next named o first count found u)
  copies_nest o first count on_null u h = λ apart. h
  copies_nest o first count on_gone u h = tt
  copies_nest o first count on_other u h = tt
  copies_nest o first count (finds cell) u h = copied_nests o (record_in cell.values first count) u h

  record_stored_nests : (o : Value) (first : ℕ) (vs : List Value) (found : Option (List Value)) (u : State) → NestInside shapes u.control → Lead (record_stored_next named o first vs found u)
  record_stored_nests o first vs None u h = tt
  record_stored_nests o first vs (Some before) u h = λ apart. h

  store_nests : (o : Value) (first count : ℕ) (found : Found (Cell Value)) (u : State) → NestInside shapes u.control → Lead (store_record_next named o first count found u)
  store_nests o first count on_null u h = tt
  store_nests o first count on_gone u h = tt
  store_nests o first count on_other u h = tt
  store_nests o first count (finds cell) u h =
      record_stored_nests o first (newest_ones named count u) (record_in cell.values first count) (without_newest named count u) h

  -- An object ceases to exist, and its words go back (13.11.2).
  end_nests : (v : Value) (found : Found (Cell Value)) (u : State) → NestInside shapes u.control → Lead (end_next named v found u)
  end_nests v on_null u h = tt
  end_nests v on_gone u h = tt
  end_nests v on_other u h = tt
  end_nests v (finds cell) u h = λ apart. h

  told_nests : (pool : Option ℕ) (v : Value) (event : Event) (u : State) → NestInside shapes u.control
      → Lead (told_back named pool v event (record u { heap = on_object returned u.heap v }))
  told_nests None v event u h = λ apart. h
  told_nests (Some pool) v event u h = λ apart. h

  given_nests : (own : Bool) (v : Value) (cause : Cause) (cell : Cell Value) (u : State) → NestInside shapes u.control
      → Lead (if own then given_back named v cause cell u else halts (Erroneous GivesElsewhere))
  given_nests true v cause cell u h = told_nests cell.home.pool v (Back v cell.access cell.number cell.home.pool cell.home.subpool cause) u h
  given_nests false v cause cell u h = tt

  back_nests : (v : Value) (cause : Cause) (pool : Option ℕ) (found : Found (Cell Value)) (u : State) → NestInside shapes u.control → Lead (back_next named v cause pool found u)
  back_nests v cause pool on_null u h = tt
  back_nests v cause pool on_gone u h = tt
  back_nests v cause pool on_other u h = tt
  back_nests v cause pool (finds cell) u h = given_nests (same_pool pool cell.home.pool) v cause cell u h

  -- The body of an operation begins (7.6).
  operation_nests : (procedure : ℕ) (found : Option BodyForm) (reference : Value) (j : Control) (event : Event) (u : State) → NestInside shapes j
      → Lead (operation_next named procedure found reference j event u)
  operation_nests procedure None reference j event u h = tt
  operation_nests procedure (Some b) reference j event u h = λ apart. h

  -- A part has begun.
  born_nests : (v : Value) (by : Birth) (done : List Part) (of n : ℕ) (tasks : List Task) (found : Option PartState) (u : State)
      → IsInside shapes v n u.control → TreatsInside shapes v tasks u.control → BegunInside shapes v done u.control → NestInside shapes u.control
      → Lead (born_next named v by done of n tasks found u)
  born_nests v by done of n tasks None u first inside begun h = tt
  born_nests v by done of n tasks (Some p) u first inside begun h =
      λ apart. begins_nest shapes v by (record { of = of; number = n } ∷ done) tasks u.control inside (one_begun v (record { of = of; number = n }) done u.control first begun) h

  awaited_nests : (v : Value) (by : Birth) (done : List Part) (of n : ℕ) (tasks : List Task) (found : Found (Cell Value)) (u : State)
      → IsInside shapes v n u.control → TreatsInside shapes v tasks u.control → BegunInside shapes v done u.control → NestInside shapes u.control
      → Lead (awaited_next named v by done of n tasks found u)
  awaited_nests v by done of n tasks on_null u first inside begun h = tt
  awaited_nests v by done of n tasks on_gone u first inside begun h = tt
  awaited_nests v by done of n tasks on_other u first inside begun h = tt
  awaited_nests v by done of n tasks (finds cell) u first inside begun h = born_nests v by done of n tasks (slice_get cell.parts n) u first inside begun h

  -- A part is to begin.
  begun_nests : (v : Value) (by : Birth) (done : List Part) (of n : ℕ) (tasks : List Task) (operation : Option ℕ) (found : Option PartState) (u : State)
      → OperatesInside shapes v (record { of = of; number = n }) u.control → TreatsInside shapes v tasks u.control → BegunInside shapes v done u.control → NestInside shapes u.control
      → Lead (begun_next named bodies v by done of n tasks operation found u)
  begun_nests v by done of n tasks operation None u part inside begun h = tt
  begun_nests v by done of n tasks None (Some p) u part inside begun h = born_nests v by done of n tasks (Some p) u part.itself inside begun h
  begun_nests v by done of n tasks (Some procedure) (Some p) u part inside begun h =
      operation_nests procedure (slice_get bodies procedure) (part_reference named v n p) (frame.Awaits v by done of n tasks ∷ u.control) _ u ((part, inside, begun), h)

  -- One is finalized (7.6.1).
  ended_nests : (v : Value) (n : ℕ) (p : PartState) (j : Control) (operation : Option ℕ) (event : Event) (u : State) → NestInside shapes j
      → Lead (ended_next named bodies v n p j operation event u)
  ended_nests v n p j None event u h = λ apart. h
  ended_nests v n p j (Some procedure) event u h = operation_nests procedure (slice_get bodies procedure) (part_reference named v n p) (frame.Confines ∷ j) event u h

  alive_nests : (alive : Bool) (v : Value) (n : ℕ) (p : PartState) (j : Control) (operation : Option ℕ) (event : Event) (u : State) → NestInside shapes j
      → Lead (if alive then ended_next named bodies v n p j operation event u else halts (Erroneous FinalizesTwice))
  alive_nests true v n p j operation event u h = ended_nests v n p j operation event u h
  alive_nests false v n p j operation event u h = tt

  finalized_nests : (v : Value) (cause : Cause) (of n : ℕ) (tasks : List Task) (operation : Option ℕ) (found : Option PartState) (u : State)
      → TreatsInside shapes v tasks u.control → NestInside shapes u.control → Lead (finalized_next named bodies v cause of n tasks operation found u)
  finalized_nests v cause of n tasks operation None u inside h = tt
  finalized_nests v cause of n tasks operation (Some p) u inside h =
      alive_nests p.alive v n p (treating v (ends cause) tasks u.control) operation (Finalized v n p.turn of p.number cause) (record u { heap = finalize u.heap v n })
      (ends_nest shapes v cause tasks u.control inside h)

  -- A treatment goes on.
  module _ (v : Value) (k : Control) where
    first_left : (of n : ℕ) (tasks : List Task) → TreatsInside shapes v (performs of n ∷ tasks) k → IsInside shapes v n k
    first_left of n tasks inside = inside n (0, omega arith, refl)

    picks_begin : (by : Birth) (done : List Part) (cs : List Component) (more : List Task) → s.control ≡ frame.Treats v (begins by done) (treats cs ∷ more) ∷ k
        → NestInside shapes (frame.Treats v (begins by done) (treats cs ∷ more) ∷ k) → (none : Bool)
        → Lead (if none then halts Stuck else picks (length cs) (λ i. treated_on named v (begins by done) (picked_task shapes (direction_of (begins by done)) (treats cs ∷ more) i) (at k s)))
    picks_begin by done cs more is h true = tt
    picks_begin by done cs more is h false = λ i lt apart.
        let picked = picked_task shapes (direction_of (begins by done)) (treats cs ∷ more) i in
        begins_nest shapes v by done picked k (inside_picked program input events s run v (begins by done) (treats cs ∷ more) k is i lt h.0.0) h.0.1 h.1

    picks_end : (cause : Cause) (cs : List Component) (more : List Task) → s.control ≡ frame.Treats v (ends cause) (treats cs ∷ more) ∷ k
        → NestInside shapes (frame.Treats v (ends cause) (treats cs ∷ more) ∷ k) → (none : Bool)
        → Lead (if none then halts Stuck else picks (length cs) (λ i. treated_on named v (ends cause) (picked_task shapes (direction_of (ends cause)) (treats cs ∷ more) i) (at k s)))
    picks_end cause cs more is h true = tt
    picks_end cause cs more is h false = λ i lt apart.
        let picked = picked_task shapes (direction_of (ends cause)) (treats cs ∷ more) i in
        ends_nest shapes v cause picked k (inside_picked program input events s run v (ends cause) (treats cs ∷ more) k is i lt h.0) h.1

    performs_begin : (by : Birth) (done : List Part) (of n : ℕ) (more : List Task) → s.control ≡ frame.Treats v (begins by done) (performs of n ∷ more) ∷ k
        → NestInside shapes (frame.Treats v (begins by done) (performs of n ∷ more) ∷ k) → (found : Found (Cell Value))
        → Lead (performed_next named types bodies v (begins by done) of n more found (at k s))
    performs_begin by done of n more is h on_null = tt
    performs_begin by done of n more is h on_gone = tt
    performs_begin by done of n more is h on_other = tt
    performs_begin by done of n more is h (finds cell) =
        begun_nests v by done of n more (operation_of by (operations_of types of)) (slice_get cell.parts n) (at k s)
        (record { itself = first_left of n more h.0.0; within = λ m lies. (begun_operation_inside program input events s run v by done of n more k is h.0.1 m lies).1 })
        (inside_performed shapes v of n more k h.0.0) h.0.1 h.1

    performs_end : (cause : Cause) (of n : ℕ) (more : List Task) → NestInside shapes (frame.Treats v (ends cause) (performs of n ∷ more) ∷ k) → (found : Found (Cell Value))
        → Lead (performed_next named types bodies v (ends cause) of n more found (at k s))
    performs_end cause of n more h on_null = tt
    performs_end cause of n more h on_gone = tt
    performs_end cause of n more h on_other = tt
    performs_end cause of n more h (finds cell) =
        finalized_nests v cause of n more (procedure_number (operations_of types of).finalize) (slice_get cell.parts n) (at k s) (inside_performed shapes v of n more k h.0) h.1

    treats_nest : (treatment : Treatment) (tasks : List Task) → s.control ≡ frame.Treats v treatment tasks ∷ k → NestInside shapes (frame.Treats v treatment tasks ∷ k)
        → Lead (frame_next named types bodies (frame.Treats v treatment tasks) (at k s))
    treats_nest (begins by done) [] is h = λ apart. h.1
    treats_nest (begins by done) (treats cs ∷ more) is h = picks_begin by done cs more is h (length cs == 0)
    treats_nest (begins by done) (performs of n ∷ more) is h = performs_begin by done of n more is h (look s.heap v)
    treats_nest (ends cause) [] is h = λ apart. h.1
    treats_nest (ends cause) (treats cs ∷ more) is h = picks_end cause cs more is h (length cs == 0)
    treats_nest (ends cause) (performs of n ∷ more) is h = performs_end cause of n more h (look s.heap v)

  -- A record is assigned to another one (5.2).
  assigns_nest : (t : ℕ) (target source : Value) (alike : Option Bool) (u : State) → same target source ≡ alike
      → ((o : Id) (place : Place) → target ≡ Inside o place → TreatsInside shapes (Names o) (record_tasks types t PartsFirst place.part) u.control
      × TreatsInside shapes (Names o) (record_tasks types t WholeFirst place.part) u.control)
      → NestInside shapes u.control → Lead (assigns_next named types t target source alike u)
  assigns_nest t target source None u is inside h = tt
  assigns_nest t target source (Some true) u is inside h = λ apart. h
  assigns_nest t Null source (Some false) u is inside h = absurd (cc is)
  assigns_nest t (Names o) source (Some false) u is inside h = absurd (cc is)
  assigns_nest t (Scalar v) source (Some false) u is inside h = absurd (cc is)
  assigns_nest t (Inside o place) source (Some false) u is inside h =
      λ apart.
      let v = Names o in
      let adjusted = record_tasks types t PartsFirst place.part in
      let both = inside o place refl in
      ends_nest shapes v (Assigning u.next) (record_tasks types t WholeFirst place.part) _ (treating_in v (Adjustment u.next) adjusted u.control (record_tasks types t WholeFirst place.part) both.1)
      (begins_nest shapes v (Adjustment u.next) [] adjusted u.control both.0 (none_begun shapes v u.control) h)
    where
      treating_in : (v : Value) (by : Birth) (tasks : List Task) (k : Control) (finalized : List Task) → TreatsInside shapes v finalized k → TreatsInside shapes v finalized (treating v (begins by []) tasks k)
      treating_in v by [] k finalized inside_it = inside_it
      treating_in v by (task ∷ tasks) k finalized inside_it = inside_it

  found_nests : (t : ℕ) (k : Control) → s.control ≡ frame.Assigns t ∷ k → s.mode ≡ Running → NestInside shapes k → Lead (frame_next named types bodies (frame.Assigns t) (at k s))
  found_nests t k is on h =
      let target = newest named (popped (at k s)) in
      let source = newest named (at k s) in
      assigns_nest t target source (same target source) (popped (popped (at k s))) refl
      (λ o place at_target.
      let there : first_or Null (older (operands s)) ≡ Inside o place = ap (first_or Null) (sym (operands_popped (at k s))) ∙ at_target in
      let adjusts = adjusts_inside types told watched s t k on is h o place there fits.stands stands in
      (adjusts, finalizes_inside types told watched s t k on is h o place there adjusts)) h

  -- Each frame that is taken off, where nothing jumps.
  frame_nests : (f : Frame Value) (k : Control) → s.control ≡ f ∷ k → s.mode ≡ Running → NestInside shapes (f ∷ k) → Lead (frame_next named types bodies f (at k s))
  frame_nests (frame.Treats v treatment tasks) k is on h = treats_nest v k treatment tasks is h
  frame_nests (frame.Awaits v by done of part tasks) k is on h =
      awaited_nests v by done of part tasks (look s.heap v) (at k s) h.0.0.itself h.0.1 h.0.2 h.1
  frame_nests frame.Confines k is on h = λ apart. h
  frame_nests (frame.Assigns t) k is on h = found_nests t k is on h
  frame_nests (frame.Ends v) k is on h = end_nests v (look s.heap v) (at k s) h
  frame_nests (frame.GivesBack v cause pool) k is on h = back_nests v cause pool (lent s.heap v) (at k s) h
  frame_nests (frame.Returns actuals references) k is on h = λ apart. nests_alike shapes (storing named references k) k (rest_storing types references k) h
  frame_nests (frame.Calls procedure b actuals) k is on h = λ apart. h
  frame_nests (frame.Copies first t) k is on h = copies_nest (newest named (at k s)) first (width_of types t) (look s.heap (newest named (at k s))) (popped (at k s)) h
  frame_nests (frame.StoresRecord v to width) k is on h = store_nests v to width (look s.heap v) (at k s) h
  frame_nests f k is on h = calm_nests f k is h on tt tt tt

  -- An exception comes out of an Initialize (7.6.1).
  undo_nests : (e : Exception) (v : Value) (done : List Part) (found : Found (Cell Value)) (u : State) → BegunInside shapes v done u.control → NestInside shapes u.control
      → Lead (undo_next named e v done found u)
  undo_nests e v done on_null u begun h = tt
  undo_nests e v done on_gone u begun h = tt
  undo_nests e v done on_other u begun h = tt
  undo_nests e v done (finds cell) u begun h =
      λ apart. ends_nest shapes v (Undoing u.next) (undoing done) _ (λ n has. begun n (subst (λ (ps : List Part). Contains (numbers ps) n) (undoing_left shapes done) has)) h

  broken_nests : (e : Exception) (v : Value) (by : Birth) (done : List Part) (u : State) → BegunInside shapes v done u.control → NestInside shapes u.control
      → Lead (broken_next named e v by done u)
  broken_nests e v Creation done u begun h = undo_nests e v done (look u.heap v) u begun h
  broken_nests e v Copy done u begun h = tt
  broken_nests e v (Adjustment n) done u begun h = tt

  -- A jump comes to a frame.
  jumped_nests : (mode : Mode) (f : Frame Value) (k : Control) → (mode ≡ Running → ⊥) → s.control ≡ f ∷ k → NestInside shapes (f ∷ k) → Lead (jump_next named mode (f ∷ k) s)
  jumped_nests Running f k jumps is h = absurd (jumps refl)
  jumped_nests (Raising e) (frame.Treats v treatment tasks) k jumps is h = λ apart. nests_behind shapes (frame.Treats v treatment tasks) k h
  jumped_nests Exiting (frame.Treats v treatment tasks) k jumps is h = λ apart. nests_behind shapes (frame.Treats v treatment tasks) k h
  jumped_nests Returning (frame.Treats v treatment tasks) k jumps is h = λ apart. nests_behind shapes (frame.Treats v treatment tasks) k h
  jumped_nests (Raising e) (frame.Awaits v by done of part tasks) k jumps is h = broken_nests e v by done (at k s) h.0.2 h.1
  jumped_nests Exiting (frame.Awaits v by done of part tasks) k jumps is h = tt
  jumped_nests Returning (frame.Awaits v by done of part tasks) k jumps is h = tt
  jumped_nests (Raising e) frame.Confines k jumps is h = tt
  jumped_nests Exiting frame.Confines k jumps is h = tt
  jumped_nests Returning frame.Confines k jumps is h = tt
  jumped_nests (Raising e) (frame.Assigns t) k jumps is h = λ apart. h
  jumped_nests Exiting (frame.Assigns t) k jumps is h = λ apart. h
  jumped_nests Returning (frame.Assigns t) k jumps is h = λ apart. h
  jumped_nests (Raising e) (frame.Ends v) k jumps is h = λ apart. h
  jumped_nests Exiting (frame.Ends v) k jumps is h = λ apart. h
  jumped_nests Returning (frame.Ends v) k jumps is h = λ apart. h
  jumped_nests (Raising e) (frame.GivesBack v cause pool) k jumps is h = λ apart. h
  jumped_nests Exiting (frame.GivesBack v cause pool) k jumps is h = λ apart. h
  jumped_nests Returning (frame.GivesBack v cause pool) k jumps is h = λ apart. h
  jumped_nests (Raising e) (frame.Returns actuals references) k jumps is h = λ apart. h
  jumped_nests Exiting (frame.Returns actuals references) k jumps is h = λ apart. h
  jumped_nests Returning (frame.Returns actuals references) k jumps is h = λ apart. nests_alike shapes (storing named references k) k (rest_storing types references k) h
  jumped_nests mode f k jumps is h = calm_passes f k is h mode tt

  -- Whatever comes next.
  run_nests : (k : Control) → s.control ≡ k → s.mode ≡ Running → NestInside shapes k → Lead (running_next named types bodies k s)
  run_nests [] is on h = tt
  run_nests (f ∷ k) is on h = frame_nests f k is on h

  jump_nests : (mode : Mode) → (mode ≡ Running → ⊥) → (k : Control) → s.control ≡ k → NestInside shapes k → Lead (jump_next named mode k s)
  jump_nests mode jumps [] is h = tt
  jump_nests mode jumps (f ∷ k) is h = jumped_nests mode f k jumps is h

  mode_nests : (mode : Mode) → s.mode ≡ mode → NestInside shapes s.control → Lead (mode_next named types bodies mode s)
  mode_nests Running is h = run_nests s.control refl is h
  mode_nests (Raising e) is h = jump_nests (Raising e) (λ never. absurd (cc never)) s.control refl h
  mode_nests Exiting is h = jump_nests Exiting (λ never. absurd (cc never)) s.control refl h
  mode_nests Returning is h = jump_nests Returning (λ never. absurd (cc never)) s.control refl h

  pub next_nests : NestInside shapes s.control → Lead (next types bodies s)
  unfolding next
  next_nests h = mode_nests s.mode refl h
