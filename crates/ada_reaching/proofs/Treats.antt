-- What is finalized of what a body frees or has declared that shuns some access types (7.6.1, 13.11.2), and initialized of what it allocates or declares (7.6,
-- 4.8, 3.3.1): the operations of such objects have bodies that shun them, too, and so has an Adjust of what gets its value from another record. And where such a
-- body assigns to a record with controlled parts as a whole (5.2), no Finalize is called.

use Rattle.std.proofs.Common.{◌≡◌, ℕ, Bool, true, false, if◌then◌else◌, List, [], ◌∷◌, length, map, Option, Some, None, refl, subst, inl, inr, ◌⊎◌}
use Rattle.std.specs.Prelude.{◌==◌}
use Rattle.std.specs.List.{slice_get}
use Rattle.std.proofs.lemmas.Bool.{and_parts, or_left, or_right}
use Rattle.ada_program.specs.declared.program.Exception.{Exception}
use Rattle.ada_program.specs.declared.program.TypeDefinition.{TypeDefinition}
use Rattle.ada_program.specs.declared.program.Operations.{Operations}
use Rattle.ada_program.specs.Typed.{width_of}
use Rattle.ada_program.specs.Controlled.{operations_of, procedure_number, shapes_of}
use Rattle.ada_program.specs.ProgramForm.{BodyForm}
use Rattle.ada_parts.specs.declared.tasks.Component.{Component}
use Rattle.ada_parts.specs.declared.tasks.Direction.{Direction}
use Rattle.ada_parts.specs.declared.tasks.Direction.TheVariants.{PartsFirst, WholeFirst}
use Rattle.ada_parts.specs.Part as parts
use Rattle.ada_parts.specs.Task.{Task, performs, treats, next as task_next}
use Rattle.ada_meaning.specs.declared.event.Birth.{Birth}
use Rattle.ada_meaning.specs.declared.event.Birth.TheVariants.{Creation, Copy, Adjustment}
use Rattle.ada_meaning.specs.declared.event.Cause.{Cause}
use Rattle.ada_meaning.specs.declared.event.Cause.TheVariants.{Leaving, Freeing, Assigning, Undoing}
use Rattle.ada_meaning.specs.declared.event.Halt.TheVariants.{Erroneous, Stuck}
use Rattle.ada_meaning.specs.declared.event.Why.TheVariants.{FinalizesTwice}
use Rattle.ada_meaning.specs.declared.state.Id.{Id}
use Rattle.ada_meaning.specs.declared.state.Mode.TheVariants.{Running, Raising}
use Rattle.ada_meaning.specs.declared.state.Place.{Place}
use Rattle.ada_meaning.specs.declared.state.Value.{Value}
use Rattle.ada_meaning.specs.declared.state.Value.TheVariants.{Null, Names, Scalar, Part}
use Rattle.ada_meaning.specs.Event.{Event, Finalized, Quiet}
use Rattle.ada_meaning.specs.Frame.{Frame, Treatment, begins, ends}
use Rattle.ada_meaning.specs.Frame as frame
use Rattle.ada_meaning.specs.Heap.{Cell, Found, PartState, on_null, on_gone, on_other, finds}
use Rattle.ada_meaning.specs.State.{Activation, counted}
use Rattle.ada_meaning.specs.Step.{halts, picks, at, computed, first_or, newest, numbered, operands, operands_of, assigns_next, record_tasks, treating, treated_on, picked_task, direction_of, beginning, with_operands, operation_next, part_reference, born_next, awaited_next, begun_next, undone, undo_next, ended_next, finalized_next, performed_next, treats_next}
use Rattle.ada_meaning.specs.Named.{Object, State, named, base, part_base, whole, look, refer, treated, born_part, finalized_part, bear, finalize, parted}
use Rattle.ada_untouched.specs.Untouched.{IsInSight}
use Rattle.ada_reaching.specs.Apart.{AreBegunIn, AreUndoneIn, IsBegunIn, IsLeftIn, IsLeftOf, picked, called, whole_in, picked_in, called_in}
use Rattle.ada_reaching.specs.Forms.{body_shuns, may_replace}
use Rattle.ada_reaching.specs.Reaching.{AssignsApart, AwaitsApart, EndsApart, Seeks, IsAdjusting, IsElsewhere, is_copying, IsInFront, StartsApart, TreatsApart, begins_anew, is_leaving, may_treat, seeks_nothing, comes_to_copy, WaitsToCopy}
use Rattle.ada_reaching.specs.Law.{AreApart, AllGoOn}
use Rattle.ada_reaching.proofs.Begins.{beginning_goes}
use Rattle.ada_reaching.proofs.Going.{World, Runs, Left, On, Goes, GoesRunning, ValueSeeks, any_mode, anew_quiet, anew_stands, anew_from, changed_run, none_jumps, operands_run, reaches, stays, runs_on, seen_seeks}
use Rattle.ada_reaching.proofs.Paths.{in_sight}

-- What refers to a part of an object that is found refers to no ghost, where the object is none.
part_elsewhere :
    (ghosts unnamed : Id → Bool) (heap : List Object) (v : Value) (place : Place) (cell : Cell Value) → look heap v ≡ finds cell → IsInSight ghosts v
    → IsElsewhere ghosts unnamed (refer v place)
part_elsewhere ghosts unnamed heap Null place cell found sight = tt
part_elsewhere ghosts unnamed heap (Names o) place cell found sight = sight
part_elsewhere ghosts unnamed heap (Scalar v) place cell found sight = tt
part_elsewhere ghosts unnamed heap (Part o base) place cell found sight = absurd (cc)

-- A record is assigned to.
abbrev pub is_assigning : Cause → Bool
is_assigning (Leaving master item) = false
is_assigning (Freeing number) = false
is_assigning (Assigning number) = true
is_assigning (Undoing number) = false

-- A record is finalized that is assigned to.
abbrev pub is_assigned : Treatment → Bool
is_assigned (begins by done) = false
is_assigned (ends cause) = is_assigning cause

module _ (w : World) where
  -- What is finalized otherwise is apart,
  ending_apart : (cause : Cause) (tasks : List Task) → is_assigning cause ≡ false → EndsApart w.apart tasks → TreatsApart w.apart (ends cause) tasks
  ending_apart (Leaving master item) tasks other left = left
  ending_apart (Freeing number) tasks other left = left
  ending_apart (Assigning number) tasks other left = absurd (cc)
  ending_apart (Undoing number) tasks other left = left

  -- and the other way round.
  apart_ending : (cause : Cause) (tasks : List Task) → is_assigning cause ≡ false → TreatsApart w.apart (ends cause) tasks → EndsApart w.apart tasks
  apart_ending (Leaving master item) tasks other left = left
  apart_ending (Freeing number) tasks other left = left
  apart_ending (Assigning number) tasks other left = absurd (cc)
  apart_ending (Undoing number) tasks other left = left

  -- It may be in front of what seeks nothing.
  ending_front :
      (v : Value) (cause : Cause) (tasks : List Task) (k : List (Frame Value)) → is_assigning cause ≡ false → seeks_nothing k ≡ true
      → IsInFront (frame.Treats v (ends cause) tasks) k
  ending_front v (Leaving master item) tasks k other quiet = quiet
  ending_front v (Freeing number) tasks k other quiet = quiet
  ending_front v (Assigning number) tasks k other quiet = absurd (cc)
  ending_front v (Undoing number) tasks k other quiet = quiet

  -- The bodies go on as that of an operation begins, if there is one, in front of what shuns the types (7.6).
  operation_goes :
      (procedure : ℕ) (found : Option BodyForm) (reference : Value) (k : List (Frame Value)) (e : Event Value) (s : State)
      → slice_get w.p.bodies procedure ≡ found → ((b : BodyForm) → found ≡ Some b → body_shuns w.p.types w.shuns w.apart b ≡ true)
      → IsElsewhere w.ghosts w.unnamed reference → Runs w s → Left w k
      → (begins_anew k ≡ true) ⊎ WaitsToCopy w.ghosts (frame.Returns [] []) k s.activations
      → AllGoOn (On w) (operation_next named procedure found reference k e s)
  operation_goes procedure None reference k e s is shun other r h anew = tt
  operation_goes procedure (Some b) reference k e s is shun other r h anew =
      beginning_goes w procedure b (reference ∷ []) [] [] k s.activations s is (shun b refl) (other, tt) tt r h anew

  -- An object is initialized or finalized so in front of what shuns the types.
  treating_left :
      (v : Value) (treatment : Treatment) (tasks : List Task) (k : List (Frame Value)) → IsInSight w.ghosts v → TreatsApart w.apart treatment tasks → Left w k
      → IsInFront (frame.Treats v treatment tasks) k → Left w (treating v treatment tasks k)
  treating_left v treatment [] k sight left h front = h
  treating_left v treatment (task ∷ tasks) k sight left h front = ((sight, left), front, h)

  -- Nothing is sought there.
  treating_quiet :
      (v : Value) (treatment : Treatment) (tasks : List Task) (k : List (Frame Value)) → is_assigned treatment ≡ false → seeks_nothing k ≡ true
      → seeks_nothing (treating v treatment tasks k) ≡ true
  treating_quiet v treatment [] k other quiet = quiet
  treating_quiet v (begins by done) (task ∷ tasks) k other quiet = refl
  treating_quiet v (ends (Leaving master item)) (task ∷ tasks) k other quiet = refl
  treating_quiet v (ends (Freeing number)) (task ∷ tasks) k other quiet = refl
  treating_quiet v (ends (Assigning number)) (task ∷ tasks) k other quiet = absurd (cc)
  treating_quiet v (ends (Undoing number)) (task ∷ tasks) k other quiet = refl

  -- A master is left there where one is left behind.
  treating_stands :
      (v : Value) (treatment : Treatment) (tasks : List Task) (k : List (Frame Value)) → is_leaving k ≡ false
      → is_leaving (treating v treatment tasks k) ≡ false
  treating_stands v treatment [] k stands = stands
  treating_stands v treatment (task ∷ tasks) k stands = stands

  -- Nothing is sought behind another treatment.
  front_quiet :
      (v : Value) (treatment : Treatment) (tasks : List Task) (k : List (Frame Value)) → is_assigned treatment ≡ false
      → IsInFront (frame.Treats v treatment tasks) k → seeks_nothing k ≡ true
  front_quiet v (begins by done) tasks k other front = anew_quiet k front
  front_quiet v (ends (Leaving master item)) tasks k other front = front
  front_quiet v (ends (Freeing number)) tasks k other front = front
  front_quiet v (ends (Assigning number)) tasks k other front = absurd (cc)
  front_quiet v (ends (Undoing number)) tasks k other front = front

  -- What a treatment is in front of may be behind it whatever is left of it.
  front_of :
      (v : Value) (treatment : Treatment) (tasks more : List Task) (k : List (Frame Value)) → IsInFront (frame.Treats v treatment tasks) k
      → IsInFront (frame.Treats v treatment more) k
  front_of v (begins by done) tasks more k front = front
  front_of v (ends (Leaving master item)) tasks more k front = front
  front_of v (ends (Freeing number)) tasks more k front = front
  front_of v (ends (Assigning number)) tasks more k front = front
  front_of v (ends (Undoing number)) tasks more k front = front

  -- An object is initialized so, or a record adjusted, where what is left behind begins anew.
  pub begun_left :
      (v : Value) (by : Birth) (done : List parts.Part) (tasks : List Task) (k : List (Frame Value)) → IsInSight w.ghosts v
      → TreatsApart w.apart (begins by done) tasks → Left w k → begins_anew k ≡ true
      → Left w (treating v (begins by done) tasks k) × (begins_anew (treating v (begins by done) tasks k) ≡ true)
  begun_left v by done tasks k sight left h anew = (
    treating_left v (begins by done) tasks k sight left h anew,
    anew_from (treating v (begins by done) tasks k) (treating_quiet v (begins by done) tasks k refl (anew_quiet k anew))
        (treating_stands v (begins by done) tasks k (anew_stands k anew)),
  )

  -- So it is with an object.
  pub starting_left :
      (v : Value) (by : Birth) (done : List parts.Part) (tasks : List Task) (k : List (Frame Value)) → IsInSight w.ghosts v → StartsApart w.apart by done tasks
      → Left w k → begins_anew k ≡ true → Left w (treating v (begins by done) tasks k) × (begins_anew (treating v (begins by done) tasks k) ≡ true)
  starting_left v by done tasks k sight left h anew = begun_left v by done tasks k sight (inl left) h anew

  -- One is finalized so, where nothing is sought behind.
  pub ending_left :
      (v : Value) (cause : Cause) (tasks : List Task) (k : List (Frame Value)) → is_assigning cause ≡ false → IsInSight w.ghosts v → EndsApart w.apart tasks
      → Left w k → seeks_nothing k ≡ true → Left w (treating v (ends cause) tasks k) × (seeks_nothing (treating v (ends cause) tasks k) ≡ true)
  ending_left v cause tasks k other sight left h quiet = (
    treating_left v (ends cause) tasks k sight (ending_apart cause tasks other left) h (ending_front v cause tasks k other quiet),
    treating_quiet v (ends cause) tasks k other quiet,
  )

  -- What is left begins anew, where it does so behind.
  pub ending_anew :
      (v : Value) (cause : Cause) (tasks : List Task) (k : List (Frame Value)) → is_assigning cause ≡ false → seeks_nothing k ≡ true → is_leaving k ≡ false
      → begins_anew (treating v (ends cause) tasks k) ≡ true
  ending_anew v cause tasks k other quiet stands =
      anew_from (treating v (ends cause) tasks k) (treating_quiet v (ends cause) tasks k other quiet) (treating_stands v (ends cause) tasks k stands)

  -- The bodies go on as a part comes to have a value (7.6).
  born_goes :
      (v : Value) (by : Birth) (done : List parts.Part) (of part : ℕ) (tasks : List Task) (found : Option PartState) (s : State) → IsInSight w.ghosts v
      → TreatsApart w.apart (begins by (record { of = of; number = part } ∷ done)) tasks → Goes w s (born_next named v by done of part tasks found s)
  born_goes v by done of part tasks None s sight left r h anew = tt
  born_goes v by done of part tasks (Some state) s sight left r h anew =
      let more = record { of = of; number = part } ∷ done in
      let behind = begun_left v by more tasks s.control sight left h anew in
      stays w (treated_on named v (begins by more) tasks (record s { born = counted s.born; heap = bear s.heap v part (counted s.born) }))
      (changed_run w (treated (born_part (counted s.born)) part) v s.activations s.masters s.heap sight r) behind.0 behind.1

  -- What is left of an initialization once a part has begun.
  begun_apart :
      (by : Birth) (done : List parts.Part) (of part : ℕ) (tasks : List Task) → AwaitsApart w.apart by done of part tasks
      → TreatsApart w.apart (begins by (record { of = of; number = part } ∷ done)) tasks
  begun_apart by done of part tasks (inl starting) = inl (record {
    access = starting.starts.access;
    may = starting.starts.may;
    created = starting.starts.created;
    left = starting.starts.left;
    begun = (starting.begins, starting.starts.begun);
  })
  begun_apart by done of part tasks (inr adjusting) = inr adjusting

  -- So they do once the operation has ended that begins it.
  pub awaited_goes :
      (v : Value) (by : Birth) (done : List parts.Part) (of part : ℕ) (tasks : List Task) (found : Found (Cell Value)) (s : State) → IsInSight w.ghosts v
      → AwaitsApart w.apart by done of part tasks → Goes w s (awaited_next named v by done of part tasks found s)
  awaited_goes v by done of part tasks on_null s sight left r h anew = tt
  awaited_goes v by done of part tasks on_gone s sight left r h anew = tt
  awaited_goes v by done of part tasks on_other s sight left r h anew = tt
  awaited_goes v by done of part tasks (finds cell) s sight left r h anew =
      born_goes v by done of part tasks (slice_get cell.parts part) s sight (begun_apart by done of part tasks left) r h anew

  -- The parts are left to be finalized that have begun (7.6.1).
  undone_left :
      (access : ℕ) (done : List parts.Part) → AreBegunIn w.apart.definitions access done
      → AreUndoneIn w.apart.definitions access (map (λ (p : parts.Part). performs p.of p.number) done)
  undone_left access [] begun = tt
  undone_left access (p ∷ ps) begun = (begun.0, undone_left access ps begun.1)

  -- The bodies go on as an exception comes out of an Initialize, by what is found of the object: what has begun of it is finalized, and it ceases to exist.
  pub undone_goes :
      (e : Exception) (v : Value) (access : ℕ) (done : List parts.Part) (found : Found (Cell Value)) (s : State) → IsInSight w.ghosts v
      → w.apart.starts access ≡ true → AreBegunIn w.apart.definitions access done → Goes w s (undo_next named e v done found s)
  undone_goes e v access done on_null s sight may begun r h anew = tt
  undone_goes e v access done on_gone s sight may begun r h anew = tt
  undone_goes e v access done on_other s sight may begun r h anew = tt
  undone_goes e v access done (finds cell) s sight may begun r h anew =
      let behind = frame.Ends v ∷ frame.GivesBack v (Undoing s.next) cell.home.pool ∷ frame.Resumes (Raising e) ∷ s.control in
      let left = ending_left v (Undoing s.next) (map (λ (p : parts.Part). performs p.of p.number) done) behind refl sight
      (access, inr (may, undone_left access done begun)) (sight, refl, (sight, refl, (tt, anew, h))) refl in
      runs_on w (undone named e v done cell s) refl
      (changed_run w parted v (with_operands [] s.activations) s.masters s.heap sight (operands_run w [] s.activations s.masters s.heap tt r)) left.0 left.1

  module _ (tds : List TypeDefinition) (own : w.apart.definitions ≡ tds) where
    -- Once a component has been picked, what is left of a finalization is so.
    ends_picked :
        (components : List Component) (tasks : List Task) (i : ℕ) → EndsApart w.apart (treats components ∷ tasks)
        → EndsApart w.apart (picked_task (shapes_of tds) WholeFirst (treats components ∷ tasks) i)
    ends_picked components tasks i (access, inl (may, left)) = (
      access,
      inl (
        may,
        subst (λ (ts : List TypeDefinition). IsLeftOf w.apart.definitions WholeFirst access (picked_task (shapes_of ts) WholeFirst (treats components ∷ tasks) i))
            own (picked i left),
      ),
    )
    ends_picked components tasks i (access, inr (may, undone)) = absurd undone

    -- Once a component has been picked, what is left of the treatment of a record that is assigned to is so.
    assigned_picked :
        (direction : Direction) (components : List Component) (tasks : List Task) (i : ℕ) → AssignsApart w.apart direction (treats components ∷ tasks)
        → AssignsApart w.apart direction (picked_task (shapes_of tds) direction (treats components ∷ tasks) i)
    assigned_picked direction components tasks i left = record {
      record_type = left.record_type;
      may = left.may;
      left =
          subst
          (λ (ts : List TypeDefinition).
          IsLeftIn w.apart.definitions direction left.record_type (picked_task (shapes_of ts) direction (treats components ∷ tasks) i))
          own (picked_in i left.left);
    }

    -- So is what is left of a treatment.
    treats_picked :
        (treatment : Treatment) (components : List Component) (tasks : List Task) (i : ℕ) → TreatsApart w.apart treatment (treats components ∷ tasks)
        → TreatsApart w.apart treatment (picked_task (shapes_of tds) (direction_of treatment) (treats components ∷ tasks) i)
    treats_picked (begins by done) components tasks i (inl left) = inl (record {
      access = left.access;
      may = left.may;
      created = left.created;
      left =
          subst
          (λ (ts : List TypeDefinition). IsLeftOf w.apart.definitions PartsFirst left.access (picked_task (shapes_of ts) PartsFirst (treats components ∷ tasks) i))
          own (picked i left.left);
      begun = left.begun;
    })
    treats_picked (begins by done) components tasks i (inr (adjusting, left)) = inr (adjusting, assigned_picked PartsFirst components tasks i left)
    treats_picked (ends (Leaving master item)) components tasks i left = ends_picked components tasks i left
    treats_picked (ends (Freeing number)) components tasks i left = ends_picked components tasks i left
    treats_picked (ends (Assigning number)) components tasks i left = assigned_picked WholeFirst components tasks i left
    treats_picked (ends (Undoing number)) components tasks i left = ends_picked components tasks i left

    -- The bodies go on as one of so many components is picked.
    picked_goes :
        (none : Bool) (v : Value) (treatment : Treatment) (components : List Component) (tasks : List Task) (count : ℕ) (s : State)
        → is_assigned treatment ≡ false → IsInSight w.ghosts v → TreatsApart w.apart treatment (treats components ∷ tasks) → s.mode ≡ Running → Runs w s → Left w s.control
        → IsInFront (frame.Treats v treatment (treats components ∷ tasks)) s.control
        → AllGoOn (On w) (if none then halts Stuck
        else picks count (λ i. treated_on named v treatment (picked_task (shapes_of tds) (direction_of treatment) (treats components ∷ tasks) i) s))
    picked_goes true v treatment components tasks count s other sight left running r h front = tt
    picked_goes false v treatment components tasks count s other sight left running r h front = λ i below.
        let more = picked_task (shapes_of tds) (direction_of treatment) (treats components ∷ tasks) i in
        runs_on w (treated_on named v treatment more s) running r
        (treating_left v treatment more s.control sight (treats_picked treatment components tasks i left) h
        (front_of v treatment (treats components ∷ tasks) more s.control front))
        (treating_quiet v treatment more s.control other (front_quiet v treatment (treats components ∷ tasks) s.control other front))

  -- Once a Finalize has been called, what is left is so.
  ends_called : (of part : ℕ) (tasks : List Task) → EndsApart w.apart (performs of part ∷ tasks) → EndsApart w.apart tasks
  ends_called of part tasks (access, inl (may, left)) = (access, inl (may, called left))
  ends_called of part tasks (access, inr (may, undone)) = (access, inr (may, undone.1))

  -- Behind an Initialize it is so, too.
  starts_called :
      (by : Birth) (done : List parts.Part) (of part : ℕ) (tasks : List Task) → StartsApart w.apart by done (performs of part ∷ tasks)
      → AwaitsApart w.apart by done of part tasks
  starts_called by done of part tasks left = inl (record {
    starts = record { access = left.access; may = left.may; created = left.created; left = called left.left; begun = left.begun };
    begins = (tasks, left.left);
  })

  module _ (tds : List TypeDefinition) (are_apart : AreApart w.p tds w.shuns w.apart) where
    -- A Finalize that is called then shuns the types.
    finalize_apart :
        (of part number : ℕ) (tasks : List Task) → EndsApart w.apart (performs of part ∷ tasks)
        → procedure_number (operations_of tds of).finalize ≡ Some number → w.apart.calls number ≡ true
    finalize_apart of part number tasks (access, inl (may, left)) is =
        are_apart.operations.finalizes access of part number tasks may
        (subst (λ (ts : List TypeDefinition). IsLeftOf ts WholeFirst access (performs of part ∷ tasks)) are_apart.own left) is
    finalize_apart of part number tasks (access, inr (may, undone)) is =
        are_apart.operations.undoes access of part number may (subst (λ (ts : List TypeDefinition). IsBegunIn ts access of part) are_apart.own undone.0) is

    -- So does an Initialize.
    initialize_apart :
        (by : Birth) (done : List parts.Part) (of part number : ℕ) (tasks : List Task) → StartsApart w.apart by done (performs of part ∷ tasks)
        → beginning by (operations_of tds of) ≡ Some number → w.apart.calls number ≡ true
    initialize_apart by done of part number tasks left is =
        are_apart.operations.initializes left.access of part number left.may
        (subst (λ (ts : List TypeDefinition). IsBegunIn ts left.access of part) are_apart.own (tasks, left.left))
        (subst (λ (b : Birth). beginning b (operations_of tds of) ≡ Some number) left.created is)

    -- The bodies go on as the Initialize or the Adjust of a part is called, or nothing is, where its type overrides none (7.6).
    begun_goes :
        (v : Value) (by : Birth) (done : List parts.Part) (of part : ℕ) (tasks : List Task) (operation : Option ℕ) (found : Option PartState)
        (cell : Cell Value) (s : State) → look s.heap v ≡ finds cell → ((number : ℕ) → operation ≡ Some number → w.apart.calls number ≡ true) → IsInSight w.ghosts v
        → AwaitsApart w.apart by done of part tasks → Goes w s (begun_next named w.p.bodies v by done of part tasks operation found s)
    begun_goes v by done of part tasks operation None cell s there each sight left r h anew = tt
    begun_goes v by done of part tasks None (Some state) cell s there each sight left r h anew =
        born_goes v by done of part tasks (Some state) s sight (begun_apart by done of part tasks left) r h anew
    begun_goes v by done of part tasks (Some procedure) (Some state) cell s there each sight left r h anew =
        operation_goes procedure (slice_get w.p.bodies procedure) (part_reference named v part state) (frame.Awaits v by done of part tasks ∷ s.control) Quiet s
        refl
        (λ b is. are_apart.bodies procedure b (each procedure refl) is)
        (part_elsewhere w.ghosts w.unnamed s.heap v (record { component = state.first; part = part }) cell there sight) r ((sight, left), anew, h) (inl refl)

    -- Where nothing is sought next, no record is copied.
    none_copied : (k : List (Frame Value)) → seeks_nothing k ≡ true → begins_anew (frame.Confines ∷ k) ≡ true
    none_copied k quiet = by (comes_to_copy k) refl
      where
        by : (copies : Bool) → comes_to_copy k ≡ copies → begins_anew (frame.Confines ∷ k) ≡ true
        by false none = rw none refl
        by true copies = absurd (copies_seeks k copies quiet)
          where
            copies_seeks : (j : List (Frame Value)) → comes_to_copy j ≡ true → seeks_nothing j ≡ true → ⊥
            copies_seeks [] copies' quiet' = cc copies'
            copies_seeks (frame.Copies c t ∷ j) copies' quiet' = cc quiet'
            copies_seeks (frame.Treats v (ends (Assigning number)) tasks ∷ j) copies' quiet' = cc quiet'
            copies_seeks (frame.Treats v (ends (Leaving master item)) tasks ∷ j) copies' quiet' = cc copies'
            copies_seeks (frame.Treats v (ends (Freeing number)) tasks ∷ j) copies' quiet' = cc copies'
            copies_seeks (frame.Treats v (ends (Undoing number)) tasks ∷ j) copies' quiet' = cc copies'
            copies_seeks (f ∷ j) copies' quiet' = cc copies'

    -- The bodies go on as the Finalize of a part is called, or nothing is, where its type overrides none (7.6.1).
    ended_goes :
        (v : Value) (part : ℕ) (state : PartState) (k : List (Frame Value)) (operation : Option ℕ) (e : Event Value) (s : State)
        → ((number : ℕ) → operation ≡ Some number → w.apart.calls number ≡ true) → IsElsewhere w.ghosts w.unnamed (part_reference named v part state)
        → s.mode ≡ Running → Runs w s → Left w k → seeks_nothing k ≡ true → AllGoOn (On w) (ended_next named w.p.bodies v part state k operation e s)
    ended_goes v part state k None e s each other running r h quiet = runs_on w (at k s) running r h quiet
    ended_goes v part state k (Some procedure) e s each other running r h quiet =
        operation_goes procedure (slice_get w.p.bodies procedure) (part_reference named v part state) (frame.Confines ∷ k) e s refl
        (λ b is. are_apart.bodies procedure b (each procedure refl) is) other r (tt, or_left (seeks_nothing k) (comes_to_copy k) quiet, h) (inl (none_copied k quiet))

    -- The bodies go on as the value of a part is finalized, if it has one.
    valued_goes :
        (alive : Bool) (v : Value) (part : ℕ) (state : PartState) (k : List (Frame Value)) (operation : Option ℕ) (e : Event Value) (s : State)
        → ((number : ℕ) → operation ≡ Some number → w.apart.calls number ≡ true) → IsElsewhere w.ghosts w.unnamed (part_reference named v part state)
        → IsInSight w.ghosts v → s.mode ≡ Running → Runs w s → Left w k → seeks_nothing k ≡ true
        → AllGoOn (On w) (if alive then ended_next named w.p.bodies v part state k operation e (record s { heap = finalize s.heap v part })
        else halts (Erroneous FinalizesTwice))
    valued_goes false v part state k operation e s each other sight running r h quiet = tt
    valued_goes true v part state k operation e s each other sight running r h quiet =
        ended_goes v part state k operation e (record s { heap = finalize s.heap v part }) each other running
        (changed_run w (treated finalized_part part) v s.activations s.masters s.heap sight r) h quiet

    -- So they do, if there is that part of the object.
    finalized_goes :
        (v : Value) (cause : Cause) (of part : ℕ) (tasks : List Task) (operation : Option ℕ) (found : Option PartState) (cell : Cell Value) (s : State)
        → is_assigning cause ≡ false → look s.heap v ≡ finds cell → ((number : ℕ) → operation ≡ Some number → w.apart.calls number ≡ true)
        → IsInSight w.ghosts v → EndsApart w.apart tasks → GoesRunning w s (finalized_next named w.p.bodies v cause of part tasks operation found s)
    finalized_goes v cause of part tasks operation None cell s other there each sight left running r h quiet = tt
    finalized_goes v cause of part tasks operation (Some state) cell s other there each sight left running r h quiet =
        let behind = ending_left v cause tasks s.control other sight left h quiet in
        valued_goes state.alive v part state (treating v (ends cause) tasks s.control) operation (Finalized v part state.turn of state.number cause) s each
        (part_elsewhere w.ghosts w.unnamed s.heap v (record { component = state.first; part = part }) cell there sight) sight running r behind.0 behind.1

    -- What is called where a record is adjusted is an Adjust,
    adjust_called : (by : Birth) (operations : Operations) (number : ℕ) → IsAdjusting by → beginning by operations ≡ Some number → procedure_number operations.adjust ≡ Some number
    adjust_called Creation operations number adjusting is = absurd adjusting
    adjust_called Copy operations number adjusting is = is
    adjust_called (Adjustment turn) operations number adjusting is = is

    -- which shuns the types, where that is a part of a record that gets its value from another one.
    adjust_apart :
        (by : Birth) (of part number : ℕ) (tasks : List Task) → IsAdjusting by → AssignsApart w.apart PartsFirst (performs of part ∷ tasks)
        → beginning by (operations_of tds of) ≡ Some number → w.apart.calls number ≡ true
    adjust_apart by of part number tasks adjusting left is =
        are_apart.operations.adjusts left.record_type of part number tasks left.may
        (subst (λ (ts : List TypeDefinition). IsLeftIn ts PartsFirst left.record_type (performs of part ∷ tasks)) are_apart.own left.left)
        (adjust_called by (operations_of tds of) number adjusting is)

    -- Where one ends to which another one is assigned, the Finalize that is called shuns the types.
    assigned_calls :
        (of part number : ℕ) (tasks : List Task) → AssignsApart w.apart WholeFirst (performs of part ∷ tasks)
        → procedure_number (operations_of tds of).finalize ≡ Some number → w.apart.calls number ≡ true
    assigned_calls of part number tasks left is =
        are_apart.operations.overwrites left.record_type of part number tasks left.may
        (subst (λ (ts : List TypeDefinition). IsLeftIn ts WholeFirst left.record_type (performs of part ∷ tasks)) are_apart.own left.left) is

    -- What is left behind it is so.
    assigned_called :
        (direction : Direction) (of part : ℕ) (tasks : List Task) → AssignsApart w.apart direction (performs of part ∷ tasks) → AssignsApart w.apart direction tasks
    assigned_called direction of part tasks left = record { record_type = left.record_type; may = left.may; left = called_in left.left }

    -- So they do as an operation is called, by what is found of the object.
    performed_goes :
        (v : Value) (treatment : Treatment) (of part : ℕ) (tasks : List Task) (found : Found (Cell Value)) (s : State) → is_assigned treatment ≡ false
        → look s.heap v ≡ found
        → IsInSight w.ghosts v → TreatsApart w.apart treatment (performs of part ∷ tasks) → s.mode ≡ Running → Runs w s → Left w s.control
        → IsInFront (frame.Treats v treatment (performs of part ∷ tasks)) s.control
        → AllGoOn (On w) (performed_next named tds w.p.bodies v treatment of part tasks found s)
    performed_goes v treatment of part tasks on_null s other is sight left running r h front = tt
    performed_goes v treatment of part tasks on_gone s other is sight left running r h front = tt
    performed_goes v treatment of part tasks on_other s other is sight left running r h front = tt
    performed_goes v (begins by done) of part tasks (finds cell) s other is sight (inl left) running r h front =
        begun_goes v by done of part tasks (beginning by (operations_of tds of)) (slice_get cell.parts part) cell s is
        (λ number called_so. initialize_apart by done of part number tasks left called_so) sight (starts_called by done of part tasks left) r h front
    performed_goes v (begins by done) of part tasks (finds cell) s other is sight (inr (adjusting, left)) running r h front =
        begun_goes v by done of part tasks (beginning by (operations_of tds of)) (slice_get cell.parts part) cell s is
        (λ number called_so. adjust_apart by of part number tasks adjusting left called_so) sight
        (inr (adjusting, assigned_called PartsFirst of part tasks left)) r h front
    performed_goes v (ends cause) of part tasks (finds cell) s other is sight left running r h front =
        let ending = apart_ending cause (performs of part ∷ tasks) other left in
        finalized_goes v cause of part tasks (procedure_number (operations_of tds of).finalize) (slice_get cell.parts part) cell s other is
        (λ number called_so. finalize_apart of part number tasks ending called_so) sight (ends_called of part tasks ending) running r h
        (front_quiet v (ends cause) (performs of part ∷ tasks) s.control other front)

    -- The bodies go on as an object is treated otherwise than a record is finalized that is assigned to.
    other_goes :
        (v : Value) (treatment : Treatment) (tasks : List Task) (s : State) → is_assigned treatment ≡ false → IsInSight w.ghosts v
        → TreatsApart w.apart treatment tasks
        → s.mode ≡ Running → Runs w s → Left w s.control → IsInFront (frame.Treats v treatment tasks) s.control
        → AllGoOn (On w) (treats_next named tds w.p.bodies v treatment tasks (task_next tasks) s)
    other_goes v treatment [] s other sight left running r h front = runs_on w s running r h (front_quiet v treatment [] s.control other front)
    other_goes v treatment (treats components ∷ tasks) s other sight left running r h front =
        picked_goes tds are_apart.own (length components == 0) v treatment components tasks (length components) s other sight left running r h front
    other_goes v treatment (performs of part ∷ tasks) s other sight left running r h front =
        performed_goes v treatment of part tasks (look s.heap v) s other refl sight left running r h front

  -- A record is copied next: that is looked for.
  copy_seeks : (may : Bool) (u : ℕ) (k : List (Frame Value)) → is_copying k ≡ true → may ≡ true → Seeks w.p.types w.shuns w.apart may u k
  copy_seeks may u [] copies is_may = absurd (cc)
  copy_seeks may u (frame.Copies c t ∷ k) copies is_may = is_may
  copy_seeks may u (f ∷ k) copies is_may = absurd (cc)

  -- So it is where that is finalized before to which it is assigned.
  assigned_seeks :
      (may : Bool) (u : ℕ) (v : Value) (number : ℕ) (tasks : List Task) (k : List (Frame Value)) → is_copying k ≡ true → may ≡ true
      → Seeks w.p.types w.shuns w.apart may u (treating v (ends (Assigning number)) tasks k)
  assigned_seeks may u v number [] k copies is_may = copy_seeks may u k copies is_may
  assigned_seeks may u v number (task ∷ tasks) k copies is_may = is_may

  -- The bodies go on as this is left of the finalization of a record that is assigned to, in front of the copy, which looks at no ghost.
  pub assigned_on :
      (v : Value) (number : ℕ) (tasks : List Task) (s : State) → s.mode ≡ Running → Runs w s → Left w s.control → is_copying s.control ≡ true
      → IsInSight w.ghosts v → AssignsApart w.apart WholeFirst tasks → IsInSight w.ghosts (newest named s)
      → On w (treated_on named v (ends (Assigning number)) tasks s)
  assigned_on v number tasks s running r h copies sight left sees =
      let k = treating v (ends (Assigning number)) tasks s.control in
      reaches w (treated_on named v (ends (Assigning number)) tasks s) r (treating_left v (ends (Assigning number)) tasks s.control sight left h copies)
      (none_jumps s.mode k running)
      (any_mode w s.heap s.mode k (operands s)
      (seen_seeks w s.heap k (operands s) sees (λ may u is_may. assigned_seeks may u v number tasks s.control copies is_may)))

  -- A record is copied behind what is left of that.
  copies_behind :
      (v : Value) (number : ℕ) (tasks : List Task) (k : List (Frame Value)) → is_copying k ≡ true → comes_to_copy (treating v (ends (Assigning number)) tasks k) ≡ true
  copies_behind v number [] [] copies = absurd (cc)
  copies_behind v number [] (frame.Copies c t ∷ k) copies = refl
  copies_behind v number [] (f ∷ k) copies = absurd (cc)
  copies_behind v number (task ∷ tasks) k copies = refl

  module _ (tds : List TypeDefinition) (are_apart : AreApart w.p tds w.shuns w.apart) where
    -- So they do as the Finalize of a part of it is called, or nothing is: behind that the copy looks at no ghost.
    assigned_ended :
        (v : Value) (number part : ℕ) (state : PartState) (tasks : List Task) (operation : Option ℕ) (e : Event Value) (s : State)
        → ((procedure : ℕ) → operation ≡ Some procedure → w.apart.calls procedure ≡ true) → IsElsewhere w.ghosts w.unnamed (part_reference named v part state)
        → s.mode ≡ Running → Runs w s → Left w s.control → is_copying s.control ≡ true → IsInSight w.ghosts v → AssignsApart w.apart WholeFirst tasks
        → IsInSight w.ghosts (newest named s)
        → AllGoOn (On w) (ended_next named w.p.bodies v part state (treating v (ends (Assigning number)) tasks s.control) operation e s)
    assigned_ended v number part state tasks None e s each other running r h copies sight left sees =
        assigned_on v number tasks s running r h copies sight left sees
    assigned_ended v number part state tasks (Some procedure) e s each other running r h copies sight left sees =
        let k = treating v (ends (Assigning number)) tasks s.control in
        let next = copies_behind v number tasks s.control copies in
        operation_goes procedure (slice_get w.p.bodies procedure) (part_reference named v part state) (frame.Confines ∷ k) e s refl
        (λ b is. are_apart.bodies procedure b (each procedure refl) is) other r
        (tt, or_right (seeks_nothing k) (comes_to_copy k) next, treating_left v (ends (Assigning number)) tasks s.control sight left h copies)
        (inr (record { ends_operation = refl; rest = k; is = refl; copies = next; sees = sees }))

    -- So they do as the value of a part of it is finalized, if it has one.
    assigned_valued :
        (alive : Bool) (v : Value) (number part : ℕ) (state : PartState) (tasks : List Task) (operation : Option ℕ) (e : Event Value) (s : State)
        → ((procedure : ℕ) → operation ≡ Some procedure → w.apart.calls procedure ≡ true) → IsElsewhere w.ghosts w.unnamed (part_reference named v part state)
        → s.mode ≡ Running → Runs w s → Left w s.control
        → is_copying s.control ≡ true → IsInSight w.ghosts v → AssignsApart w.apart WholeFirst tasks → IsInSight w.ghosts (newest named s)
        → AllGoOn (On w) (if alive then ended_next named w.p.bodies v part state (treating v (ends (Assigning number)) tasks s.control) operation e
        (record s { heap = finalize s.heap v part }) else halts (Erroneous FinalizesTwice))
    assigned_valued false v number part state tasks operation e s each other running r h copies sight left sees = tt
    assigned_valued true v number part state tasks operation e s each other running r h copies sight left sees =
        assigned_ended v number part state tasks operation e (record s { heap = finalize s.heap v part }) each other running
        (changed_run w (treated finalized_part part) v s.activations s.masters s.heap sight r) h copies sight left sees

    -- So they do, if there is that part of the object.
    assigned_finalized :
        (v : Value) (number of part : ℕ) (tasks : List Task) (operation : Option ℕ) (found : Option PartState) (cell : Cell Value) (s : State)
        → look s.heap v ≡ finds cell → ((procedure : ℕ) → operation ≡ Some procedure → w.apart.calls procedure ≡ true)
        → s.mode ≡ Running → Runs w s → Left w s.control → is_copying s.control ≡ true → IsInSight w.ghosts v → AssignsApart w.apart WholeFirst tasks
        → IsInSight w.ghosts (newest named s) → AllGoOn (On w) (finalized_next named w.p.bodies v (Assigning number) of part tasks operation found s)
    assigned_finalized v number of part tasks operation None cell s there each running r h copies sight left sees = tt
    assigned_finalized v number of part tasks operation (Some state) cell s there each running r h copies sight left sees =
        assigned_valued state.alive v number part state tasks operation (Finalized v part state.turn of state.number (Assigning number)) s each
        (part_elsewhere w.ghosts w.unnamed s.heap v (record { component = state.first; part = part }) cell there sight) running r h copies sight left sees

    -- So they do, by what is found of the object.
    assigned_performed :
        (v : Value) (number of part : ℕ) (tasks : List Task) (found : Found (Cell Value)) (s : State) → look s.heap v ≡ found → s.mode ≡ Running → Runs w s
        → Left w s.control → is_copying s.control ≡ true → IsInSight w.ghosts v → AssignsApart w.apart WholeFirst (performs of part ∷ tasks)
        → IsInSight w.ghosts (newest named s) → AllGoOn (On w) (performed_next named tds w.p.bodies v (ends (Assigning number)) of part tasks found s)
    assigned_performed v number of part tasks on_null s is running r h copies sight left sees = tt
    assigned_performed v number of part tasks on_gone s is running r h copies sight left sees = tt
    assigned_performed v number of part tasks on_other s is running r h copies sight left sees = tt
    assigned_performed v number of part tasks (finds cell) s is running r h copies sight left sees =
        assigned_finalized v number of part tasks (procedure_number (operations_of tds of).finalize) (slice_get cell.parts part) cell s is
        (λ procedure said. assigned_calls tds are_apart of part procedure tasks left said) running r h copies sight
        (assigned_called tds are_apart WholeFirst of part tasks left) sees

    -- So they do as one of so many components is picked.
    assigned_component :
        (none : Bool) (v : Value) (number : ℕ) (components : List Component) (tasks : List Task) (count : ℕ) (s : State) → s.mode ≡ Running → Runs w s
        → Left w s.control → is_copying s.control ≡ true → IsInSight w.ghosts v → AssignsApart w.apart WholeFirst (treats components ∷ tasks)
        → IsInSight w.ghosts (newest named s)
        → AllGoOn (On w) (if none then halts Stuck
        else picks count (λ i. treated_on named v (ends (Assigning number)) (picked_task (shapes_of tds) WholeFirst (treats components ∷ tasks) i) s))
    assigned_component true v number components tasks count s running r h copies sight left sees = tt
    assigned_component false v number components tasks count s running r h copies sight left sees = λ i below.
        assigned_on v number (picked_task (shapes_of tds) WholeFirst (treats components ∷ tasks) i) s running r h copies sight
        (assigned_picked tds are_apart.own WholeFirst components tasks i left) sees

    -- The bodies go on as a record is finalized that is assigned to.
    assigned_goes :
        (v : Value) (number : ℕ) (tasks : List Task) (s : State) → IsInSight w.ghosts v → AssignsApart w.apart WholeFirst tasks
        → IsInSight w.ghosts (newest named s) → s.mode ≡ Running → Runs w s → Left w s.control → is_copying s.control ≡ true
        → AllGoOn (On w) (treats_next named tds w.p.bodies v (ends (Assigning number)) tasks (task_next tasks) s)
    assigned_goes v number [] s sight left sees running r h copies = assigned_on v number [] s running r h copies sight left sees
    assigned_goes v number (treats components ∷ tasks) s sight left sees running r h copies =
        assigned_component (length components == 0) v number components tasks (length components) s running r h copies sight left sees
    assigned_goes v number (performs of part ∷ tasks) s sight left sees running r h copies =
        assigned_performed v number of part tasks (look s.heap v) s refl running r h copies sight left sees

    -- The bodies go on as an object is treated: they initialize one that they may allocate or declare, or finalize one that they may free or have declared, or
    -- finalize or adjust a record to which they assign as a whole.
    pub treats_goes :
        (v : Value) (treatment : Treatment) (tasks : List Task) (s : State) → IsInSight w.ghosts v → TreatsApart w.apart treatment tasks
        → ValueSeeks w s.heap (newest named s) (frame.Treats v treatment tasks ∷ s.control)
        → s.mode ≡ Running → Runs w s → Left w s.control → IsInFront (frame.Treats v treatment tasks) s.control
        → AllGoOn (On w) (treats_next named tds w.p.bodies v treatment tasks (task_next tasks) s)
    treats_goes v (begins by done) tasks s sight left seeks running r h front =
        other_goes tds are_apart v (begins by done) tasks s refl sight left running r h front
    treats_goes v (ends (Leaving master item)) tasks s sight left seeks running r h front =
        other_goes tds are_apart v (ends (Leaving master item)) tasks s refl sight left running r h front
    treats_goes v (ends (Freeing number)) tasks s sight left seeks running r h front =
        other_goes tds are_apart v (ends (Freeing number)) tasks s refl sight left running r h front
    treats_goes v (ends (Assigning number)) tasks s sight left seeks running r h front =
        assigned_goes v number tasks s sight left (in_sight w s.heap r.same (newest named s) seeks) running r h front
    treats_goes v (ends (Undoing number)) tasks s sight left seeks running r h front =
        other_goes tds are_apart v (ends (Undoing number)) tasks s refl sight left running r h front

    -- The bodies go on as a record is assigned to another one that has controlled parts (5.2, 7.6): that is finalized, gets the components, and is adjusted. Where
    -- both are one, nothing is done.
    pub assigns_go :
        (t : ℕ) (target source : Value) (same : Option Bool) (s : State) → may_replace w.apart t ≡ true → IsInSight w.ghosts (whole target)
        → IsInSight w.ghosts (whole source) → IsElsewhere w.ghosts w.unnamed (whole source) → s.mode ≡ Running → Runs w s → Left w s.control
        → begins_anew s.control ≡ true → AllGoOn (On w) (assigns_next named tds t target source same s)
    assigns_go t target source None s may sight sees other running r h anew = tt
    assigns_go t target source (Some true) s may sight sees other running r h anew = runs_on w s running r h (anew_quiet s.control anew)
    assigns_go t target source (Some false) s may sight sees other running r h anew =
        let both = and_parts (w.apart.assigns t) (w.apart.copies t) may in
        let all : (direction : Direction) → may_treat w.apart direction t ≡ true → AssignsApart w.apart direction (record_tasks tds t direction (part_base target)) =
        λ direction allowed. record {
          record_type = t;
          may = allowed;
          left =
              subst (λ (ts : List TypeDefinition). IsLeftIn w.apart.definitions direction t (record_tasks ts t direction (part_base target))) are_apart.own
              (whole_in (part_base target));
        } in
        let adjusts = begun_left (whole target) (Adjustment s.next) [] (record_tasks tds t PartsFirst (part_base target)) s.control sight
        (inr (tt, all PartsFirst both.1)) h anew in
        let k = frame.Copies (base source) t ∷ frame.StoresRecord (whole target) (base target) (width_of tds t)
        ∷ treating (whole target) (begins (Adjustment s.next) []) (record_tasks tds t PartsFirst (part_base target)) s.control in
        assigned_on (whole target) s.next (record_tasks tds t WholeFirst (part_base target))
        (numbered (computed (whole source) (at k s))) running
        (operands_run w (whole source ∷ operands s) s.activations s.masters s.heap (other, r.operands) r)
        (tt, refl, (sight, adjusts.1, adjusts.0)) refl sight (all WholeFirst both.0)
        (newest_sight s.activations (whole source) sees)
      where
        newest_sight : (acts : List (Activation Value)) (v : Value) → IsInSight w.ghosts v
            → IsInSight w.ghosts (first_or Null (operands_of (with_operands (v ∷ operands_of acts) acts)))
        newest_sight [] v sees = refl
        newest_sight (a ∷ acts) v sees = sees
