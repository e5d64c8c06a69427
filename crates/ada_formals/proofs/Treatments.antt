-- What is left to do stands while an object is treated (7.6, 7.6.1), and while a master is left. Where an operation is called, its formal parameter stands for
-- the part.

use Rattle.ada_formals.specs.Formals.{left_to_finalize, IsRecordFormal, BeginsWith, finalized_before}
use Rattle.ada_formals.proofs.Ordered.{EndingFits, BeginningFits, TreatmentFits, born_fits, picked_fits, all_ending}
use Rattle.ada_formals.proofs.Standing.{BodySpares, IsOther, FrameSpares, ParameterFits, StandsBy, StandsIn, goes_on, goes_in, Outcome, goes_same, ending_stands, beginning_stands, treating_stands}
use Rattle.ada_formals.proofs.Evaluations.{Holds, AllHold}
use Rattle.std.proofs.Common.{◌≡◌, ℕ, ◌==◌, Bool, true, false, if◌then◌else◌, List, [], ◌∷◌, drop, Option, Some, None, arith, refl, ap, ◌∙◌, subst}
use Rattle.std.specs.List.{slice_get, slice_index_or, Contains}
use Rattle.ada_parts.specs.declared.tasks.Direction.TheVariants.{WholeFirst}
use Rattle.ada_parts.specs.declared.tasks.Next.{Next as Follows}
use Rattle.ada_parts.specs.declared.tasks.Next.TheVariants.{Done, Pick, Perform}
use Rattle.ada_parts.specs.Part.{Part}
use Rattle.ada_parts.specs.Task.{Task, performs, performed, next as task_next}
use Rattle.ada_parts.specs.Law.{parts_left, Among}
use Rattle.ada_parts.proofs.Runs.{call_is}
use Rattle.ada_program.specs.declared.program.TypeDefinition.{TypeDefinition}
use Rattle.ada_program.specs.Controlled.{operations_of, procedure_number, shapes_of}
use Rattle.ada_program.specs.ProgramForm.{BodyForm}
use Rattle.ada_meaning.specs.declared.event.Birth.{Birth}
use Rattle.ada_meaning.specs.declared.event.Cause.{Cause}
use Rattle.ada_meaning.specs.declared.event.Cause.TheVariants.{Leaving}
use Rattle.ada_meaning.specs.declared.event.Halt.TheVariants.{Erroneous, Stuck}
use Rattle.ada_meaning.specs.declared.event.Why.TheVariants.{FinalizesTwice}
use Rattle.ada_meaning.specs.declared.state.Id.{Id}
use Rattle.ada_meaning.specs.declared.state.Mode.{Mode}
use Rattle.ada_meaning.specs.declared.state.Stage.{Stage}
use Rattle.ada_meaning.specs.declared.state.Stage.TheVariants.{Building, Existing, Gone}
use Rattle.ada_meaning.specs.declared.state.Value.{Value}
use Rattle.ada_meaning.specs.declared.state.Value.TheVariants.{Null, Names, Scalar, Part as Refers}
use Rattle.ada_meaning.specs.Event.{Finalized, Quiet}
use Rattle.ada_meaning.specs.Frame.{Frame, Treatment}
use Rattle.ada_meaning.specs.Frame as frame
use Rattle.ada_meaning.specs.Heap.{PartState, Cell, Found, on_null, on_gone, on_other, finds}
use Rattle.ada_meaning.specs.Named.{Object, State, Next, named, object_at, existing, seen, look, on_object, finalized_part, treated, members}
use Rattle.ada_meaning.specs.Run.{Event}
use Rattle.ada_meaning.specs.State.{Activation, Owned, declared, collection, record_object, storage_pool, Item, Master}
use Rattle.ada_meaning.specs.Step.{older, places_of, procedure_of, picked_task, all_tasks, halts, picks, direction_of, beginning as begun_by, at, treating, treated_on, operation_next, blanks, part_reference, born_next, begun_next, awaited_next, ended_next, finalized_next, performed_next, treats_next, taken_out, members_next, item_leave_next, master_leave_next, leave_next}
use Rattle.ada_meaning.proofs.Treatments.{are_table}
use Rattle.ada_typed.proofs.Kept.{Each}

-- Each body writes to no formal parameter that is a record.
abbrev pub BodiesSpare : List BodyForm → Type 0
BodiesSpare bodies = (procedure : ℕ) (b : BodyForm) → slice_get bodies procedure ≡ Some b → BodySpares (IsOther bodies (Some procedure)) b

-- What overrides an operation of a controlled type has such a formal parameter (7.6).
pub record OperationsTakeRecords (types : List TypeDefinition) (bodies : List BodyForm) : Type 0 where
  pub beginning : (by : Birth) (of procedure : ℕ) → begun_by by (operations_of types of) ≡ Some procedure → IsRecordFormal bodies (Some procedure) 0
  pub ending : (of procedure : ℕ) → procedure_number (operations_of types of).finalize ≡ Some procedure → IsRecordFormal bodies (Some procedure) 0

module _ (types : List TypeDefinition) (bodies : List BodyForm) (heap : List Object) where
  -- What comes of a state, whatever comes next, and whatever is answered.
  abbrev pub AllComes : List (Activation Value) → Next → Type 0
  AllComes w = Each (Outcome types bodies heap w)

module _ (types : List TypeDefinition) (bodies : List BodyForm) (heap : List Object) (each : BodiesSpare bodies) (operations : OperationsTakeRecords types bodies) where
  -- What is found lies in an object.
  abbrev Lies : Id → Cell Value → Type 0
  Lies o cell = (object : Object) × (object_at heap o ≡ Some object) × (object.cell ≡ cell)

  by_stage : (object : Object) (stage : Stage) (cell : Cell Value) → existing object stage ≡ finds cell → object.cell ≡ cell
  by_stage object Building cell is = cc
  by_stage object Existing cell is = cc
  by_stage object Gone cell is = absurd (cc)

  by_object : (o : Id) (found : Option Object) (cell : Cell Value) → object_at heap o ≡ found → seen found ≡ finds cell → Lies o cell
  by_object o None cell there is = absurd (cc)
  by_object o (Some object) cell there is = (object, there, by_stage object object.stage cell is)

  begins_there : (o : Id) (cell : Cell Value) (part : ℕ) (p : PartState) → Lies o cell → slice_get cell.parts part ≡ Some p → BeginsWith heap o part p.first
  begins_there o cell part p (object, there, same) at_part = (object, p, there, ap (λ (c : Cell Value). slice_get c.parts part) same ∙ at_part, refl)

  -- The body of an operation begins (7.6, 6.4).
  operation_comes :
      (procedure : ℕ) (body : Option BodyForm) (reference : Value) (behind : List (Frame Value)) (event : Event) (s : State) → slice_get bodies procedure ≡ body
      → ((variables : List Value) → ParameterFits types bodies heap (Some procedure) (reference ∷ variables) behind) → StandsBy types bodies heap behind s.activations
      → AllComes types bodies heap s.activations (operation_next named procedure body reference behind event s)
  operation_comes procedure None reference behind event s at_body own h = tt
  operation_comes procedure (Some b) reference behind event s at_body own h =
      ((each procedure b at_body, (own (drop 1 (blanks named b.variables)), tt, h)), goes_in (record { procedure = Some procedure; places = reference ∷ drop 1 (blanks named b.variables); operands = [] }) s.activations refl (goes_same bodies s.activations))

  -- A part begins.
  born_comes : (v : Value) (by : Birth) (done : List Part) (of part : ℕ) (tasks : List Task) (o : Option PartState) (s : State)
      → BeginningFits (shapes_of types) done (performs of part ∷ tasks) → StandsIn types bodies heap s
      → AllComes types bodies heap s.activations (born_next named v by done of part tasks o s)
  born_comes v by done of part tasks None s fits h = tt
  born_comes v by done of part tasks (Some p) s fits h = (
    beginning_stands types bodies heap (procedure_of s.activations) (places_of s.activations) (older s.activations) v by
        (record { of = of; number = part } ∷ done) tasks s.control (born_fits (shapes_of types) done of part tasks fits) h,
    goes_on (goes_same bodies s.activations),
  )

  begun_comes : (o : Id) (by : Birth) (done : List Part) (of part : ℕ) (tasks : List Task) (operation : Option ℕ) (found : Option PartState) (s : State)
      → begun_by by (operations_of types of) ≡ operation → ((p : PartState) → found ≡ Some p → BeginsWith heap o part p.first)
      → BeginningFits (shapes_of types) done (performs of part ∷ tasks) → StandsIn types bodies heap s
      → AllComes types bodies heap s.activations (begun_next named bodies (Names o) by done of part tasks operation found s)
  begun_comes o by done of part tasks operation None s is begins fits h = tt
  begun_comes o by done of part tasks None (Some p) s is begins fits h = born_comes (Names o) by done of part tasks (Some p) s fits h
  begun_comes o by done of part tasks (Some procedure) (Some p) s is begins fits h =
      operation_comes procedure (slice_get bodies procedure) (part_reference named (Names o) part p) (frame.Awaits (Names o) by done of part tasks ∷ s.control)
      Quiet s refl (λ variables. ((is, (o, p.first, refl, refl, begins p refl)), operations.beginning by of procedure is)) (fits, h)

  pub awaited_comes : (v : Value) (by : Birth) (done : List Part) (of part : ℕ) (tasks : List Task) (found : Found (Cell Value)) (s : State)
      → BeginningFits (shapes_of types) done (performs of part ∷ tasks) → StandsIn types bodies heap s
      → AllComes types bodies heap s.activations (awaited_next named v by done of part tasks found s)
  awaited_comes v by done of part tasks on_null s fits h = tt
  awaited_comes v by done of part tasks on_gone s fits h = tt
  awaited_comes v by done of part tasks on_other s fits h = tt
  awaited_comes v by done of part tasks (finds cell) s fits h = born_comes v by done of part tasks (slice_get cell.parts part) s fits h

  -- Behind what is finalized comes its object again, with what is left of it.
  object_behind : (v : Value) (cause : Cause) (tasks : List Task) (k : List (Frame Value)) → finalized_before k ≡ v
      → finalized_before (treating v (frame.ends cause) tasks k) ≡ v
  object_behind v cause [] k is = is
  object_behind v cause (task ∷ tasks) k is = refl

  none_in : (n : ℕ) {P : Type 0} → Contains [] n → P
  none_in n (i, lt, is) = absurd (omega (arith, lt))

  among_behind : (v : Value) (cause : Cause) (tasks : List Task) (k : List (Frame Value)) (whole : Part)
      → Among (shapes_of types) (parts_left (shapes_of types) tasks) whole
      → Among (shapes_of types) (parts_left (shapes_of types) (left_to_finalize (treating v (frame.ends cause) tasks k))) whole
  among_behind v cause [] k whole among = λ number lies. none_in number (among number lies)
  among_behind v cause (task ∷ tasks) k whole among = among

  -- The value of a part is finalized.
  ended_comes : (o : Id) (of part : ℕ) (p : PartState) (behind : List (Frame Value)) (operation : Option ℕ) (event : Event) (s : State)
      → procedure_number (operations_of types of).finalize ≡ operation → BeginsWith heap o part p.first → finalized_before behind ≡ Names o
      → Among (shapes_of types) (parts_left (shapes_of types) (left_to_finalize behind)) (record { of = of; number = part })
      → StandsBy types bodies heap behind s.activations
      → AllComes types bodies heap s.activations (ended_next named bodies (Names o) part p behind operation event s)
  ended_comes o of part p behind None event s said begins is among h = (h, goes_on (goes_same bodies s.activations))
  ended_comes o of part p behind (Some procedure) event s said begins is among h =
      operation_comes procedure (slice_get bodies procedure) (part_reference named (Names o) part p) (frame.Confines ∷ behind) event s refl
      (λ variables. ((of, part, said, (o, p.first, is, refl, begins), among), operations.ending of procedure said)) (tt, h)

  alive_comes : (alive : Bool) (o : Id) (of part : ℕ) (behind : List (Frame Value)) (operation : Option ℕ) (event : Event) (p : PartState) (s : State)
      → procedure_number (operations_of types of).finalize ≡ operation → BeginsWith heap o part p.first → finalized_before behind ≡ Names o
      → Among (shapes_of types) (parts_left (shapes_of types) (left_to_finalize behind)) (record { of = of; number = part })
      → StandsBy types bodies heap behind s.activations
      → AllComes types bodies heap s.activations (if alive then ended_next named bodies (Names o) part p behind operation event
      (record s { heap = on_object (treated finalized_part part) s.heap (Names o) }) else halts (Erroneous FinalizesTwice))
  alive_comes false o of part behind operation event p s said begins is among h = tt
  alive_comes true o of part behind operation event p s said begins is among h =
      ended_comes o of part p behind operation event (record s { heap = on_object (treated finalized_part part) s.heap (Names o) }) said begins is among h

  finalized_comes : (o : Id) (cause : Cause) (of part : ℕ) (tasks : List Task) (found : Option PartState) (s : State)
      → ((p : PartState) → found ≡ Some p → BeginsWith heap o part p.first) → finalized_before s.control ≡ Names o
      → EndingFits (shapes_of types) (performs of part ∷ tasks) → StandsIn types bodies heap s
      → AllComes types bodies heap s.activations (finalized_next named bodies (Names o) cause of part tasks (procedure_number (operations_of types of).finalize) found s)
  finalized_comes o cause of part tasks None s begins is fits h = tt
  finalized_comes o cause of part tasks (Some p) s begins is fits h =
      alive_comes p.alive o of part (treating (Names o) (frame.ends cause) tasks s.control) (procedure_number (operations_of types of).finalize)
      (Finalized (Names o) part p.turn of p.number cause) p s refl (begins p refl) (object_behind (Names o) cause tasks s.control is)
      (among_behind (Names o) cause tasks s.control (record { of = of; number = part }) fits.1.0)
      (ending_stands types bodies heap (procedure_of s.activations) (places_of s.activations) (older s.activations) (Names o) cause tasks s.control is
      (fits.0, fits.1.1) h)

  -- A step of the treatment of an object, which is one that is named as a whole.
  performed_comes :
      (o : Id) (treatment : Treatment) (of part : ℕ) (tasks : List Task) (found : Found (Cell Value)) (s : State) → seen (object_at heap o) ≡ found
      → FrameSpares types bodies (IsOther bodies (procedure_of s.activations)) (frame.Treats (Names o) treatment (performs of part ∷ tasks)) s.control
      → StandsIn types bodies heap s
      → AllComes types bodies heap s.activations (performed_next named types bodies (Names o) treatment of part tasks found s)
  performed_comes o treatment of part tasks on_null s there own h = tt
  performed_comes o treatment of part tasks on_gone s there own h = tt
  performed_comes o treatment of part tasks on_other s there own h = tt
  performed_comes o (frame.begins by done) of part tasks (finds cell) s there own h =
      begun_comes o by done of part tasks (begun_by by (operations_of types of)) (slice_get cell.parts part) s refl
      (λ p is. begins_there o cell part p (by_object o (object_at heap o) cell refl there) is) own h
  performed_comes o (frame.ends cause) of part tasks (finds cell) s there own h =
      finalized_comes o cause of part tasks (slice_get cell.parts part) s
      (λ p is. begins_there o cell part p (by_object o (object_at heap o) cell refl there) is) own.0 own.1 h

  operated_comes :
      (v : Value) (treatment : Treatment) (of part : ℕ) (tasks : List Task) (s : State) → heap ≡ s.heap
      → FrameSpares types bodies (IsOther bodies (procedure_of s.activations)) (frame.Treats v treatment (performs of part ∷ tasks)) s.control
      → StandsIn types bodies heap s
      → AllComes types bodies heap s.activations (performed_next named types bodies v treatment of part tasks (look s.heap v) s)
  operated_comes Null treatment of part tasks s now own h = tt
  operated_comes (Names o) treatment of part tasks s now own h =
      performed_comes o treatment of part tasks (look s.heap (Names o)) s (ap (λ (xs : List Object). seen (object_at xs o)) now) own h
  operated_comes (Scalar held) treatment of part tasks s now own h = tt
  operated_comes (Refers o place) treatment of part tasks s now own h = tt

  fits_of : (v : Value) (treatment : Treatment) (tasks : List Task) (k : List (Frame Value)) (P : ℕ → Type 0) → FrameSpares types bodies P (frame.Treats v treatment tasks) k
      → TreatmentFits (shapes_of types) treatment tasks
  fits_of v (frame.begins by done) tasks k P own = own
  fits_of v (frame.ends cause) tasks k P own = own.1

  picked_comes :
      (none : Bool) (v : Value) (treatment : Treatment) (tasks : List Task) (count : ℕ) (s : State) → task_next tasks ≡ Pick count
      → FrameSpares types bodies (IsOther bodies (procedure_of s.activations)) (frame.Treats v treatment tasks) s.control → StandsIn types bodies heap s
      → AllComes types bodies heap s.activations (if none then halts Stuck else picks count
      (λ i. treated_on named v treatment (picked_task (shapes_of types) (direction_of treatment) tasks i) s))
  picked_comes true v treatment tasks count s is own h = tt
  picked_comes false v treatment tasks count s is own h = λ i below. (
    treating_stands types bodies heap (procedure_of s.activations) (places_of s.activations) (older s.activations) v treatment tasks
        (picked_task (shapes_of types) (direction_of treatment) tasks i) s.control own
        (picked_fits (shapes_of types) (are_table types) treatment tasks count i is below
        (fits_of v treatment tasks s.control (IsOther bodies (procedure_of s.activations)) own)) h,
    goes_on (goes_same bodies s.activations),
  )

  pub treats_come :
      (v : Value) (treatment : Treatment) (tasks : List Task) (next : Follows) (s : State) → task_next tasks ≡ next → heap ≡ s.heap
      → FrameSpares types bodies (IsOther bodies (procedure_of s.activations)) (frame.Treats v treatment tasks) s.control → StandsIn types bodies heap s
      → AllComes types bodies heap s.activations (treats_next named types bodies v treatment tasks next s)
  treats_come v treatment tasks Done s is now own h = (h, goes_on (goes_same bodies s.activations))
  treats_come v treatment tasks (Pick count) s is now own h = picked_comes (count == 0) v treatment tasks count s is own h
  treats_come v treatment tasks (Perform of part) s is now own h =
      operated_comes v treatment of part (performed tasks) s now
      (subst (λ (left : List Task). FrameSpares types bodies (IsOther bodies (procedure_of s.activations)) (frame.Treats v treatment left) s.control)
      (call_is tasks of part is) own) h

module _ (types : List TypeDefinition) (bodies : List BodyForm) (heap : List Object) (w : List (Activation Value)) where
  -- A master is being left (7.6.1): an object is taken before its newest item goes.
  taken_holds : (cause : Cause) (pool : Option ℕ) (v : Value) (found : Found (Cell Value)) (s : State) → Holds types bodies heap w s
      → Holds types bodies heap w (taken_out named types cause pool v found s)
  taken_holds cause pool v on_null s h = ((tt, (tt, h.0)), h.1)
  taken_holds cause pool v on_gone s h = ((tt, (tt, h.0)), h.1)
  taken_holds cause pool v on_other s h = ((tt, (tt, h.0)), h.1)
  taken_holds cause pool v (finds cell) s h = (
    ending_stands types bodies heap (procedure_of w) (places_of w) (older w) v cause (all_tasks types cell.access WholeFirst)
        (frame.Ends v ∷ frame.GivesBack v cause pool ∷ s.control) refl (all_ending types cell.access) (tt, (tt, h.0)),
    h.1,
  )

  members_hold : (cause : Cause) (pool : Option ℕ) (vs : List Value) (s : State) → Holds types bodies heap w s → AllHold types bodies heap w (members_next named types cause pool vs s)
  members_hold cause pool [] s h = h
  members_hold cause pool (v ∷ vs) s h = λ i below. (let one = slice_index_or (v ∷ vs) i Null in taken_holds cause pool one (look s.heap one) s h)

  item_leave_holds : (m : ℕ) (item : Item) (owned : Owned) (s : State) → Holds types bodies heap w s → AllHold types bodies heap w (item_leave_next named types m item owned s)
  item_leave_holds m item (declared x) s h = h
  item_leave_holds m item (storage_pool declaration number) s h = h
  item_leave_holds m item (collection access pool) s h = members_hold (Leaving m item.number) pool (members s.heap item.number) s h
  item_leave_holds m item (record_object t) s h = members_hold (Leaving m item.number) None (members s.heap item.number) s h

  -- Where no item is left, what is behind the master goes on.
  master_leave_holds : (mode : Mode) (m : ℕ) (items : List Item) (s : State) → Holds types bodies heap w s → AllHold types bodies heap w (master_leave_next named types mode m items s)
  master_leave_holds mode m [] s h = h
  master_leave_holds mode m (item ∷ items) s h = item_leave_holds m item item.owned (at (frame.Leaves mode ∷ s.control) s) ((tt, h.0), h.1)

  pub leave_holds : (mode : Mode) (ms : List Master) (s : State) → Holds types bodies heap w s → AllHold types bodies heap w (leave_next named types mode ms s)
  leave_holds mode [] s h = tt
  leave_holds mode (m ∷ ms) s h = master_leave_holds mode m.number m.items s h
