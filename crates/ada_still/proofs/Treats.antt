-- Behind still bodies objects are treated, and operations called (7.6, 7.6.1): in front of what is behind them their bodies are still, or like that.

use Rattle.std.proofs.Common.{◌≡◌, ℕ, ◌==◌, Bool, true, false, if◌then◌else◌, List, [], ◌∷◌, map, Option, Some, None, refl, sym, subst}
use Rattle.std.specs.List.{slice_get}
use Rattle.ada_program.specs.declared.program.TypeDefinition.{TypeDefinition}
use Rattle.ada_program.specs.declared.program.Exception.{Exception}
use Rattle.ada_program.specs.Controlled.{operations_of, procedure_number, shapes_of}
use Rattle.ada_program.specs.ProgramForm.{TypeForm, BodyForm}
use Rattle.ada_parts.specs.declared.tasks.Next.{Next as Follows}
use Rattle.ada_parts.specs.declared.tasks.Next.TheVariants.{Done, Pick, Perform}
use Rattle.ada_parts.specs.Part.{Part}
use Rattle.ada_parts.specs.Task.{Task, performs, performed}
use Rattle.ada_meaning.specs.declared.event.Birth.{Birth}
use Rattle.ada_meaning.specs.declared.event.Birth.TheVariants.{Creation, Copy, Adjustment}
use Rattle.ada_meaning.specs.declared.event.Cause.{Cause}
use Rattle.ada_meaning.specs.declared.event.Cause.TheVariants.{Undoing}
use Rattle.ada_meaning.specs.declared.event.Halt.TheVariants.{Erroneous, Stuck}
use Rattle.ada_meaning.specs.declared.event.Why.TheVariants.{FinalizesTwice}
use Rattle.ada_meaning.specs.declared.state.Mode.{Mode}
use Rattle.ada_meaning.specs.declared.state.Mode.TheVariants.{Running, Raising, Exiting, Returning}
use Rattle.ada_meaning.specs.declared.state.Value.{Value}
use Rattle.ada_meaning.specs.Event.{Finalized, Quiet}
use Rattle.ada_meaning.specs.Frame.{Frame, Treatment}
use Rattle.ada_meaning.specs.Frame as frame
use Rattle.ada_meaning.specs.Heap.{PartState, Cell, Found, on_null, on_gone, on_other, finds}
use Rattle.ada_meaning.specs.Law.{items_of}
use Rattle.ada_meaning.specs.Named.{Object, State, named, look, on_object, parted, born_part, finalized_part, treated}
use Rattle.ada_meaning.specs.Run.{Event}
use Rattle.ada_meaning.specs.State.{counted}
use Rattle.ada_meaning.specs.Step.{picked_task, halts, picks, direction_of, beginning as begun_by, treating, treated_on, operation_next, part_reference, born_next, begun_next, awaited_next, ended_next, finalized_next, performed_next, treats_next, undo_next, broken_next, broken_off}
use Rattle.ada_scopes.proofs.Homes.{KeepsHome, Housed, housed_on}
use Rattle.ada_scopes.proofs.Evaluations.{keeps_parted}
use Rattle.ada_still.proofs.Sits.{BodyFits, Sits, Rests, AllSome, treating_sits, body_begins}

keeps_treated : (change : PartState → PartState) (part : ℕ) (x : Object) → KeepsHome x (treated change part x)
keeps_treated change part x = record { home = refl; access = refl; listed = λ e. e }

-- What is so is not otherwise.
never : (b : Bool) (P : Type 0) → b ≡ false → b ≡ true → P
never true P outside within = absurd (cc outside)
never false P outside within = absurd (cc within)

module _ (forms : List TypeForm) (bodies : List BodyForm) (still own : ℕ → Bool) (b : Bool) (types : List TypeDefinition)
    (fits : (procedure : ℕ) (body : BodyForm) → slice_get bodies procedure ≡ Some body → BodyFits forms bodies still own false body) where
  -- The body of an operation begins (7.6, 6.4).
  operation_sits : (procedure : ℕ) (body : Option BodyForm) (reference : Value) (behind : List (Frame Value)) (event : Event) (s : State)
      → slice_get bodies procedure ≡ body → b ≡ false → Sits forms bodies still own b behind s.masters → Housed s.heap (items_of s.masters)
      → AllSome forms bodies still own (operation_next named procedure body reference behind event s)
  operation_sits procedure None reference behind event s at_body outside h housed = tt
  operation_sits procedure (Some body) reference behind event s at_body outside h housed =
      let begun = body_begins forms bodies still own b body [] [] behind s.next s.masters
      (subst (λ (c : Bool). BodyFits forms bodies still own c body) (sym outside) (fits procedure body at_body)) h in
      (begun.0, (begun.1, housed))

  -- An object is treated behind still bodies.
  pub treats_behind : (v : Value) (treatment : Treatment) (tasks : List Task) (k : List (Frame Value)) (s : State) → b ≡ false → Sits forms bodies still own b k s.masters
      → Sits forms bodies still own b (treating v treatment tasks k) s.masters
  treats_behind v treatment tasks k s outside h = treating_sits forms bodies still own b v treatment tasks k s.masters (λ within. never b (tasks ≡ []) outside within) h

  -- A part begins.
  born_sits : (v : Value) (by : Birth) (done : List Part) (of part : ℕ) (tasks : List Task) (o : Option PartState) (s : State) → b ≡ false → Rests forms bodies still own b s
      → AllSome forms bodies still own (born_next named v by done of part tasks o s)
  born_sits v by done of part tasks None s outside h = tt
  born_sits v by done of part tasks (Some p) s outside h = (
    b,
    (
      treats_behind v (frame.begins by (record { of = of; number = part } ∷ done)) tasks s.control s outside h.0,
      housed_on (treated (born_part (counted s.born)) part) s.heap v (items_of s.masters) (keeps_treated (born_part (counted s.born)) part) h.1,
    ),
  )

  begun_sits : (v : Value) (by : Birth) (done : List Part) (of part : ℕ) (tasks : List Task) (operation : Option ℕ) (o : Option PartState) (s : State) → b ≡ false
      → Rests forms bodies still own b s → AllSome forms bodies still own (begun_next named bodies v by done of part tasks operation o s)
  begun_sits v by done of part tasks None None s outside h = tt
  begun_sits v by done of part tasks (Some procedure) None s outside h = tt
  begun_sits v by done of part tasks None (Some p) s outside h = born_sits v by done of part tasks (Some p) s outside h
  begun_sits v by done of part tasks (Some procedure) (Some p) s outside h =
      operation_sits procedure (slice_get bodies procedure) (part_reference named v part p) (frame.Awaits v by done of part tasks ∷ s.control) Quiet s refl outside
      (outside, h.0) h.1

  pub awaited_sits : (v : Value) (by : Birth) (done : List Part) (of part : ℕ) (tasks : List Task) (found : Found (Cell Value)) (s : State) → b ≡ false
      → Rests forms bodies still own b s → AllSome forms bodies still own (awaited_next named v by done of part tasks found s)
  awaited_sits v by done of part tasks on_null s outside h = tt
  awaited_sits v by done of part tasks on_gone s outside h = tt
  awaited_sits v by done of part tasks on_other s outside h = tt
  awaited_sits v by done of part tasks (finds cell) s outside h = born_sits v by done of part tasks (slice_get cell.parts part) s outside h

  -- The value of a part is finalized.
  ended_sits : (v : Value) (part : ℕ) (p : PartState) (behind : List (Frame Value)) (operation : Option ℕ) (event : Event) (s : State) → b ≡ false
      → Sits forms bodies still own b behind s.masters → Housed s.heap (items_of s.masters) → AllSome forms bodies still own (ended_next named bodies v part p behind operation event s)
  ended_sits v part p behind None event s outside h housed = (b, (h, housed))
  ended_sits v part p behind (Some procedure) event s outside h housed =
      operation_sits procedure (slice_get bodies procedure) (part_reference named v part p) (frame.Confines ∷ behind) event s refl outside (outside, h) housed

  alive_sits : (alive : Bool) (v : Value) (part : ℕ) (behind : List (Frame Value)) (operation : Option ℕ) (event : Event) (p : PartState) (s : State) → b ≡ false
      → Sits forms bodies still own b behind s.masters → Housed s.heap (items_of s.masters)
      → AllSome forms bodies still own (if alive then ended_next named bodies v part p behind operation event
      (record s { heap = on_object (treated finalized_part part) s.heap v }) else halts (Erroneous FinalizesTwice))
  alive_sits false v part behind operation event p s outside h housed = tt
  alive_sits true v part behind operation event p s outside h housed =
      ended_sits v part p behind operation event (record s { heap = on_object (treated finalized_part part) s.heap v }) outside h
      (housed_on (treated finalized_part part) s.heap v (items_of s.masters) (keeps_treated finalized_part part) housed)

  finalized_sits : (v : Value) (cause : Cause) (of part : ℕ) (tasks : List Task) (operation : Option ℕ) (o : Option PartState) (s : State) → b ≡ false
      → Rests forms bodies still own b s → AllSome forms bodies still own (finalized_next named bodies v cause of part tasks operation o s)
  finalized_sits v cause of part tasks operation None s outside h = tt
  finalized_sits v cause of part tasks operation (Some p) s outside h =
      alive_sits p.alive v part (treating v (frame.ends cause) tasks s.control) operation (Finalized v part p.turn of p.number cause) p s outside
      (treats_behind v (frame.ends cause) tasks s.control s outside h.0) h.1

  performed_sits : (v : Value) (treatment : Treatment) (of part : ℕ) (tasks : List Task) (found : Found (Cell Value)) (s : State) → b ≡ false
      → Rests forms bodies still own b s → AllSome forms bodies still own (performed_next named types bodies v treatment of part tasks found s)
  performed_sits v treatment of part tasks on_null s outside h = tt
  performed_sits v treatment of part tasks on_gone s outside h = tt
  performed_sits v treatment of part tasks on_other s outside h = tt
  performed_sits v (frame.begins by done) of part tasks (finds cell) s outside h =
      begun_sits v by done of part tasks (begun_by by (operations_of types of)) (slice_get cell.parts part) s outside h
  performed_sits v (frame.ends cause) of part tasks (finds cell) s outside h =
      finalized_sits v cause of part tasks (procedure_number (operations_of types of).finalize) (slice_get cell.parts part) s outside h

  picked_sits : (none : Bool) (v : Value) (treatment : Treatment) (tasks : List Task) (count : ℕ) (s : State) → b ≡ false → Rests forms bodies still own b s
      → AllSome forms bodies still own (if none then halts Stuck else picks count
      (λ i. treated_on named v treatment (picked_task (shapes_of types) (direction_of treatment) tasks i) s))
  picked_sits true v treatment tasks count s outside h = tt
  picked_sits false v treatment tasks count s outside h =
      λ i. let rest = picked_task (shapes_of types) (direction_of treatment) tasks i in (b, (treats_behind v treatment rest s.control s outside h.0, h.1))

  -- A step of a treatment.
  pub treats_sits : (v : Value) (treatment : Treatment) (tasks : List Task) (follows : Follows) (s : State) → b ≡ false → Rests forms bodies still own b s
      → AllSome forms bodies still own (treats_next named types bodies v treatment tasks follows s)
  treats_sits v treatment tasks Done s outside h = (b, h)
  treats_sits v treatment tasks (Pick count) s outside h = picked_sits (count == 0) v treatment tasks count s outside h
  treats_sits v treatment tasks (Perform of part) s outside h = performed_sits v treatment of part (performed tasks) (look s.heap v) s outside h

  -- An exception comes out of an operation that was to begin a part: what has begun of the object is undone (7.6.1).
  undo_sits : (e : Exception) (v : Value) (done : List Part) (found : Found (Cell Value)) (s : State) → b ≡ false → Rests forms bodies still own b s
      → AllSome forms bodies still own (undo_next named e v done found s)
  undo_sits e v done on_null s outside h = tt
  undo_sits e v done on_gone s outside h = tt
  undo_sits e v done on_other s outside h = tt
  undo_sits e v done (finds cell) s outside h = (
    b,
    (
      treats_behind v (frame.ends (Undoing s.next)) (map (λ p. performs p.of p.number) done)
          (frame.Ends v ∷ frame.GivesBack v (Undoing s.next) cell.home.pool ∷ frame.Resumes (Raising e) ∷ s.control) s outside (tt, (tt, (tt, h.0))),
      housed_on parted s.heap v (items_of s.masters) keeps_parted h.1,
    ),
  )

  broken_sits : (e : Exception) (v : Value) (by : Birth) (done : List Part) (s : State) → b ≡ false → Rests forms bodies still own b s
      → AllSome forms bodies still own (broken_next named e v by done s)
  broken_sits e v Creation done s outside h = undo_sits e v done (look s.heap v) s outside h
  broken_sits e v Copy done s outside h = tt
  broken_sits e v (Adjustment number) done s outside h = tt

  pub broken_off_sits : (mode : Mode) (v : Value) (by : Birth) (done : List Part) (s : State) → b ≡ false → Rests forms bodies still own b s
      → AllSome forms bodies still own (broken_off named mode v by done s)
  broken_off_sits Running v by done s outside h = tt
  broken_off_sits (Raising e) v by done s outside h = broken_sits e v by done s outside h
  broken_off_sits Exiting v by done s outside h = tt
  broken_off_sits Returning v by done s outside h = tt
