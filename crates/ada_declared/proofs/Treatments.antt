-- What is left to do stands while an object is treated (7.6, 7.6.1), and while a master is left. Where an operation is called, its body has declared nothing yet.

use Rattle.std.proofs.Common.{◌≡◌, ℕ, zero, suc, ◌≤◌, ◌==◌, Bool, true, false, if◌then◌else◌, List, [], ◌∷◌, length, Option, Some, None, arith, refl, sym, subst}
use Rattle.std.specs.List.{slice_get, slice_index_or}
use Rattle.ada_parts.specs.declared.tasks.Direction.TheVariants.{WholeFirst}
use Rattle.ada_parts.specs.declared.tasks.Next.{Next as Follows}
use Rattle.ada_parts.specs.declared.tasks.Next.TheVariants.{Done, Pick, Perform}
use Rattle.ada_parts.specs.Part.{Part}
use Rattle.ada_parts.specs.Task.{Task, performed}
use Rattle.ada_program.specs.declared.program.TypeDefinition.{TypeDefinition}
use Rattle.ada_program.specs.declared.program.TypeNo.{TypeNo}
use Rattle.ada_program.specs.declared.program.VariableKind.TheVariants as variable
use Rattle.ada_program.specs.Controlled.{operations_of, procedure_number, shapes_of}
use Rattle.ada_program.specs.ProgramForm.{VariableForm, BodyForm}
use Rattle.ada_program.specs.WellFormed.{variable_kind}
use Rattle.ada_meaning.specs.declared.event.Birth.{Birth}
use Rattle.ada_meaning.specs.declared.event.Cause.{Cause}
use Rattle.ada_meaning.specs.declared.event.Cause.TheVariants.{Leaving}
use Rattle.ada_meaning.specs.declared.event.Halt.TheVariants.{Erroneous, Stuck}
use Rattle.ada_meaning.specs.declared.event.Why.TheVariants.{FinalizesTwice}
use Rattle.ada_meaning.specs.declared.state.Mode.{Mode}
use Rattle.ada_meaning.specs.declared.state.Value.{Value}
use Rattle.ada_meaning.specs.declared.state.Value.TheVariants.{Null}
use Rattle.ada_meaning.specs.Event.{Finalized, Quiet}
use Rattle.ada_meaning.specs.Frame.{Frame, Treatment}
use Rattle.ada_meaning.specs.Frame as frame
use Rattle.ada_meaning.specs.Heap.{PartState, Cell, Found, on_null, on_gone, on_other, finds}
use Rattle.ada_meaning.specs.Named.{State, Next, named, look, on_object, finalized_part, treated, members}
use Rattle.ada_meaning.specs.Run.{Event}
use Rattle.ada_meaning.specs.State.{Activation, Owned, declared, collection, record_object, storage_pool, Item, Master}
use Rattle.ada_meaning.specs.Step.{older, places_of, procedure_of, picked_task, all_tasks, halts, picks, direction_of, beginning as begun_by, at, treating, treated_on, operation_next, blanks, given_places, part_reference, born_next, begun_next, awaited_next, ended_next, finalized_next, performed_next, treats_next, taken_out, members_next, item_leave_next, master_leave_next, leave_next}
use Rattle.ada_typed.proofs.Kept.{Each}
use Rattle.ada_declared.specs.Declared.{IsRecordOf, DeclaresApart, StandsApart, formals_given}
use Rattle.ada_declared.proofs.Standing.{BodySpares, IsOther, ends_operation, given_one, StandsBy, StandsIn, treating_stands}
use Rattle.ada_declared.proofs.Evaluations.{Holds, AllHold}

-- Each body writes to no variable that is a record, but where that is declared.
abbrev pub BodiesSpare : List BodyForm → Type 0
BodiesSpare bodies = (procedure : ℕ) (b : BodyForm) → slice_get bodies procedure ≡ Some b → BodySpares (IsOther bodies (Some procedure)) b

-- What lies in the place of a record object that is not created yet.
blank_record : (variables : List VariableForm) (x : ℕ) (object : TypeNo) (v : Value) → variable_kind variables x ≡ Some (variable.Record object)
    → slice_get (blanks named variables) x ≡ Some v → v ≡ Null
blank_record [] x object v kind is = absurd (cc)
blank_record (y ∷ variables) zero object v kind is =
    let record_kind : y.kind ≡ variable.Record object = cc in
    cc
blank_record (y ∷ variables) (suc x) object v kind is = blank_record variables x object v kind is

-- Where a body begins, no record object of it is created yet.
pub none_declared :
    (given : List Value) (variables : List VariableForm) (x : ℕ) (object : TypeNo) (v : Value) → length given ≤ x → variable_kind variables x ≡ Some (variable.Record object)
    → slice_get (given_places named given variables) x ≡ Some v → v ≡ Null
none_declared [] variables x object v some kind is = blank_record variables x object v kind is
none_declared (u ∷ given) variables zero object v some kind is = absurd (omega (arith, some))
none_declared (u ∷ given) [] (suc x) object v some kind is = absurd (cc kind)
none_declared (u ∷ given) (y ∷ variables) (suc x) object v some kind is = none_declared given variables x object v (omega (arith, some)) kind is

module _ (types : List TypeDefinition) (bodies : List BodyForm) where
  -- What comes of a state, whatever comes next, and whatever is answered.
  abbrev pub AllCome : Next → Type 0
  AllCome = Each (StandsIn types bodies)

module _ (types : List TypeDefinition) (bodies : List BodyForm) (each : BodiesSpare bodies) where
  -- The body of an operation begins (7.6, 6.4).
  declares_none :
      (procedure : ℕ) (b : BodyForm) (reference : Value) (behind : List (Frame Value)) → slice_get bodies procedure ≡ Some b → ends_operation behind ≡ true
      → DeclaresApart bodies (formals_given 0 behind) (Some procedure) (given_places named (reference ∷ []) b.variables) behind
  declares_none procedure b reference behind at_body operates = (
    (b, at_body),
    λ x u some is held.
        let kind = subst (λ (o : Option BodyForm). IsRecordOf o x) at_body is in
        let one = given_one 0 behind operates in
        subst (λ (v : Value). StandsApart v behind) (sym (none_declared (reference ∷ []) b.variables x kind.0 u (omega (arith, some, one)) kind.1 held)) tt,
  )

  operation_comes :
      (procedure : ℕ) (body : Option BodyForm) (reference : Value) (behind : List (Frame Value)) (event : Event) (s : State) → slice_get bodies procedure ≡ body
      → ends_operation behind ≡ true → StandsBy types bodies behind s.activations → AllCome types bodies (operation_next named procedure body reference behind event s)
  operation_comes procedure None reference behind event s at_body operates h = tt
  operation_comes procedure (Some b) reference behind event s at_body operates h =
      (each procedure b at_body, (declares_none procedure b reference behind at_body operates, tt, h))

  -- A part begins.
  born_comes : (v : Value) (by : Birth) (done : List Part) (of part : ℕ) (tasks : List Task) (o : Option PartState) (s : State) → StandsIn types bodies s
      → AllCome types bodies (born_next named v by done of part tasks o s)
  born_comes v by done of part tasks None s h = tt
  born_comes v by done of part tasks (Some p) s h =
      treating_stands types bodies (procedure_of s.activations) (places_of s.activations) (older s.activations) v
      (frame.begins by (record { of = of; number = part } ∷ done)) tasks s.control h

  begun_comes : (v : Value) (by : Birth) (done : List Part) (of part : ℕ) (tasks : List Task) (operation : Option ℕ) (found : Option PartState) (s : State)
      → StandsIn types bodies s → AllCome types bodies (begun_next named bodies v by done of part tasks operation found s)
  begun_comes v by done of part tasks operation None s h = tt
  begun_comes v by done of part tasks None (Some p) s h = born_comes v by done of part tasks (Some p) s h
  begun_comes v by done of part tasks (Some procedure) (Some p) s h =
      operation_comes procedure (slice_get bodies procedure) (part_reference named v part p) (frame.Awaits v by done of part tasks ∷ s.control) Quiet s refl refl (tt, h)

  pub awaited_comes : (v : Value) (by : Birth) (done : List Part) (of part : ℕ) (tasks : List Task) (found : Found (Cell Value)) (s : State) → StandsIn types bodies s
      → AllCome types bodies (awaited_next named v by done of part tasks found s)
  awaited_comes v by done of part tasks on_null s h = tt
  awaited_comes v by done of part tasks on_gone s h = tt
  awaited_comes v by done of part tasks on_other s h = tt
  awaited_comes v by done of part tasks (finds cell) s h = born_comes v by done of part tasks (slice_get cell.parts part) s h

  -- The value of a part is finalized.
  ended_comes : (v : Value) (part : ℕ) (p : PartState) (behind : List (Frame Value)) (operation : Option ℕ) (event : Event) (s : State)
      → StandsBy types bodies behind s.activations → AllCome types bodies (ended_next named bodies v part p behind operation event s)
  ended_comes v part p behind None event s h = h
  ended_comes v part p behind (Some procedure) event s h =
      operation_comes procedure (slice_get bodies procedure) (part_reference named v part p) (frame.Confines ∷ behind) event s refl refl (tt, h)

  alive_comes : (alive : Bool) (v : Value) (part : ℕ) (behind : List (Frame Value)) (operation : Option ℕ) (event : Event) (p : PartState) (s : State)
      → StandsBy types bodies behind s.activations
      → AllCome types bodies (if alive then ended_next named bodies v part p behind operation event
      (record s { heap = on_object (treated finalized_part part) s.heap v }) else halts (Erroneous FinalizesTwice))
  alive_comes false v part behind operation event p s h = tt
  alive_comes true v part behind operation event p s h =
      ended_comes v part p behind operation event (record s { heap = on_object (treated finalized_part part) s.heap v }) h

  finalized_comes : (v : Value) (cause : Cause) (of part : ℕ) (tasks : List Task) (operation : Option ℕ) (found : Option PartState) (s : State) → StandsIn types bodies s
      → AllCome types bodies (finalized_next named bodies v cause of part tasks operation found s)
  finalized_comes v cause of part tasks operation None s h = tt
  finalized_comes v cause of part tasks operation (Some p) s h =
      alive_comes p.alive v part (treating v (frame.ends cause) tasks s.control) operation (Finalized v part p.turn of p.number cause) p s
      (treating_stands types bodies (procedure_of s.activations) (places_of s.activations) (older s.activations) v (frame.ends cause) tasks s.control h)

  -- A step of the treatment of an object.
  performed_comes : (v : Value) (treatment : Treatment) (of part : ℕ) (tasks : List Task) (found : Found (Cell Value)) (s : State) → StandsIn types bodies s
      → AllCome types bodies (performed_next named types bodies v treatment of part tasks found s)
  performed_comes v treatment of part tasks on_null s h = tt
  performed_comes v treatment of part tasks on_gone s h = tt
  performed_comes v treatment of part tasks on_other s h = tt
  performed_comes v (frame.begins by done) of part tasks (finds cell) s h =
      begun_comes v by done of part tasks (begun_by by (operations_of types of)) (slice_get cell.parts part) s h
  performed_comes v (frame.ends cause) of part tasks (finds cell) s h =
      finalized_comes v cause of part tasks (procedure_number (operations_of types of).finalize) (slice_get cell.parts part) s h

  picked_comes : (none : Bool) (v : Value) (treatment : Treatment) (tasks : List Task) (count : ℕ) (s : State) → StandsIn types bodies s
      → AllCome types bodies (if none then halts Stuck else picks count
      (λ i. treated_on named v treatment (picked_task (shapes_of types) (direction_of treatment) tasks i) s))
  picked_comes true v treatment tasks count s h = tt
  picked_comes false v treatment tasks count s h = λ i below.
      treating_stands types bodies (procedure_of s.activations) (places_of s.activations) (older s.activations) v treatment
      (picked_task (shapes_of types) (direction_of treatment) tasks i) s.control h

  pub treats_come : (v : Value) (treatment : Treatment) (tasks : List Task) (next : Follows) (s : State) → StandsIn types bodies s
      → AllCome types bodies (treats_next named types bodies v treatment tasks next s)
  treats_come v treatment tasks Done s h = h
  treats_come v treatment tasks (Pick count) s h = picked_comes (count == 0) v treatment tasks count s h
  treats_come v treatment tasks (Perform of part) s h = performed_comes v treatment of part (performed tasks) (look s.heap v) s h

module _ (types : List TypeDefinition) (bodies : List BodyForm) (w : List (Activation Value)) where
  -- A master is being left (7.6.1): an object is taken before its newest item goes.
  taken_holds : (cause : Cause) (pool : Option ℕ) (v : Value) (found : Found (Cell Value)) (s : State) → Holds types bodies w s
      → Holds types bodies w (taken_out named types cause pool v found s)
  taken_holds cause pool v on_null s h = ((tt, (tt, h.0)), h.1)
  taken_holds cause pool v on_gone s h = ((tt, (tt, h.0)), h.1)
  taken_holds cause pool v on_other s h = ((tt, (tt, h.0)), h.1)
  taken_holds cause pool v (finds cell) s h = (
    treating_stands types bodies (procedure_of w) (places_of w) (older w) v (frame.ends cause) (all_tasks types cell.access WholeFirst)
        (frame.Ends v ∷ frame.GivesBack v cause pool ∷ s.control) (tt, (tt, h.0)),
    h.1,
  )

  members_hold : (cause : Cause) (pool : Option ℕ) (vs : List Value) (s : State) → Holds types bodies w s → AllHold types bodies w (members_next named types cause pool vs s)
  members_hold cause pool [] s h = h
  members_hold cause pool (v ∷ vs) s h = λ i below. (let one = slice_index_or (v ∷ vs) i Null in taken_holds cause pool one (look s.heap one) s h)

  item_leave_holds : (m : ℕ) (item : Item) (owned : Owned) (s : State) → Holds types bodies w s → AllHold types bodies w (item_leave_next named types m item owned s)
  item_leave_holds m item (declared x) s h = h
  item_leave_holds m item (storage_pool declaration number) s h = h
  item_leave_holds m item (collection access pool) s h = members_hold (Leaving m item.number) pool (members s.heap item.number) s h
  item_leave_holds m item (record_object t) s h = members_hold (Leaving m item.number) None (members s.heap item.number) s h

  -- Where no item is left, what is behind the master goes on.
  master_leave_holds : (mode : Mode) (m : ℕ) (items : List Item) (s : State) → Holds types bodies w s → AllHold types bodies w (master_leave_next named types mode m items s)
  master_leave_holds mode m [] s h = h
  master_leave_holds mode m (item ∷ items) s h = item_leave_holds m item item.owned (at (frame.Leaves mode ∷ s.control) s) ((tt, h.0), h.1)

  pub leave_holds : (mode : Mode) (ms : List Master) (s : State) → Holds types bodies w s → AllHold types bodies w (leave_next named types mode ms s)
  leave_holds mode [] s h = tt
  leave_holds mode (m ∷ ms) s h = master_leave_holds mode m.number m.items s h
