-- Each step of a treatment that calls no operation leads from typed states to typed states: the part is there that begins or ends (7.6, 7.6.1).

use Rattle.ada_typed.specs.Holding.{Cells, cells_of}
use Rattle.std.proofs.Common.{◌≡◌, ℕ, zero, suc, ◌<◌, ◌==◌, Bool, true, false, List, [], ◌∷◌, length, map, get_or, Option, Some, None, arith, refl, sym, ap, ◌∙◌, subst}
use Rattle.std.specs.Prelude.{if◌then◌else◌}
use Rattle.std.specs.List.{slice_get, slice_set}
use Rattle.std.proofs.lemmas.List.{length-set, map-set}
use Rattle.std.proofs.lemmas.Option.{slice_get-get_or}
use Rattle.ada_parts.specs.declared.tasks.Component.{Component}
use Rattle.ada_parts.specs.Part.{Part}
use Rattle.ada_parts.specs.Shape.{Shape}
use Rattle.ada_parts.specs.Task.{Task, performs, treats, next as task_next}
use Rattle.ada_parts.proofs.Facts.{eq_not}
use Rattle.ada_program.specs.declared.program.TypeDefinition.{TypeDefinition}
use Rattle.ada_program.specs.Controlled.{shapes_of}
use Rattle.ada_program.specs.ProgramForm.{BodyForm, ProgramForm, type_form}
use Rattle.ada_meaning.specs.declared.event.Birth.{Birth}
use Rattle.ada_meaning.specs.declared.event.Birth.TheVariants.{Creation}
use Rattle.ada_meaning.specs.declared.event.Cause.{Cause}
use Rattle.ada_meaning.specs.declared.event.Cause.TheVariants.{Undoing}
use Rattle.ada_meaning.specs.declared.state.Mode.TheVariants.{Running, Raising}
use Rattle.ada_program.specs.declared.program.Exception.{Exception}
use Rattle.ada_meaning.specs.declared.event.Halt.TheVariants.{Erroneous, Stuck}
use Rattle.ada_meaning.specs.declared.event.Why.TheVariants.{FinalizesTwice}
use Rattle.ada_meaning.specs.declared.state.Id.{Id}
use Rattle.ada_meaning.specs.declared.state.Stage.{Stage}
use Rattle.ada_meaning.specs.declared.state.Stage.TheVariants.{Building, Existing, Gone}
use Rattle.ada_meaning.specs.declared.state.Value.{Value}
use Rattle.ada_meaning.specs.declared.state.Value.TheVariants.{Null, Names, Scalar}
use Rattle.ada_meaning.specs.declared.state.Value.TheVariants as value
use Rattle.ada_meaning.specs.Event.{Finalized}
use Rattle.ada_meaning.specs.Frame.{Treatment}
use Rattle.ada_meaning.specs.Frame as frame
use Rattle.ada_meaning.specs.Heap.{PartState, Cell}
use Rattle.ada_meaning.specs.Named.{Object, State, named, seen, existing, changed, on_object, born_part, finalized_part, with_part, treated, parted, look}
use Rattle.ada_meaning.specs.State.{counted}
use Rattle.ada_meaning.specs.Step.{treating, picked_task, member_at, halts, picks, set_operands, direction_of, treated_on, born_next, awaited_next, ended_next, finalized_next, undone, undo_next, treats_next}
use Rattle.ada_meaning.proofs.Treatments.{are_table}
use Rattle.ada_typed.proofs.Parts.{parts_known, shapes_shown, Within, within_taken}
use Rattle.ada_typed.proofs.Values.{OperandKind, AreFilled, IsActive, HasParts, StayDesignated, kinds_later, filled_later, active_later, active_cleared, designated_set, filled_set, filled_at, parts_at}
use Rattle.ada_typed.proofs.Lying.{Lying, undoing, lying_taken}
use Rattle.ada_typed.proofs.Control.{TasksFit, IsTreated, Fits, Ready, Jumps, TypedIn, running, catches}
use Rattle.ada_typed.proofs.Later.{fits_later}
use Rattle.ada_typed.proofs.Treating.{treating_fits, treating_deep}
use Rattle.ada_typed.proofs.Evaluations.{Fine, cell_at, cells_on, own_access, ready_heap, fits_heap, ready_treated}
use Rattle.ada_typed.proofs.Targets.{Stored}

-- The cell of an object of which a controlled part has changed, which has as many of them as before.
abbrev treated_cell : (PartState → PartState) → (part : ℕ) → Cell Value → Cell Value
treated_cell change part cell = record cell { parts = with_part change part (slice_get cell.parts part) cell.parts }

with_part_length : (change : PartState → PartState) (part : ℕ) (o : Option PartState) (parts : List PartState) → length (with_part change part o parts) ≡ length parts
with_part_length change part None parts = refl
with_part_length change part (Some p) parts = length-set parts part (change p)

-- It begins where it began.
firsts_set : (ps : List PartState) (i : ℕ) (q after : PartState) → slice_get ps i ≡ Some q → after.first ≡ q.first → map (λ r. r.first) (slice_set ps i after) ≡ map (λ r. r.first) ps
firsts_set [] i q after at is = refl
firsts_set (r ∷ ps) zero q after at is = let one : r ≡ q = cc in ap (λ (c : ℕ). c ∷ map (λ t. t.first) ps) (is ∙ ap (λ (t : PartState). t.first) (sym one))
firsts_set (r ∷ ps) (suc i) q after at is = ap (λ (cs : List ℕ). r.first ∷ cs) (firsts_set ps i q after at is)

firsts_with : (change : PartState → PartState) (part : ℕ) (o : Option PartState) (parts : List PartState) → ((q : PartState) → (change q).first ≡ q.first) → slice_get parts part ≡ o → map (λ r. r.first) (with_part change part o parts) ≡ map (λ r. r.first) parts
firsts_with change part None parts keeps at = refl
firsts_with change part (Some q) parts keeps at = firsts_set parts part q (change q) at (keeps q)

pub part_there : (parts : List PartState) (part : ℕ) → part < length parts → (p : PartState) × (slice_get parts part ≡ Some p)
part_there parts part within =
    let none : PartState = record { alive = false; turn = 0; number = 0; first = 0 } in
    (get_or parts part none, slice_get-get_or parts part none within)

module _ (p : ProgramForm) where
  pub changed_at : (change : PartState → PartState) → ((q : PartState) → (change q).first ≡ q.first) → (part : ℕ) (o : Id) (object : Object) (s : State) (kinds : List OperandKind) → slice_get s.heap o.0 ≡ Some object → Ready p kinds s → Fits p (cells_of s.heap) kinds s.control → Stored p kinds s (on_object (treated change part) s.heap (Names o))
  changed_at change keeps part o object s kinds is ready fits =
      let cells = cells_of s.heap in
      let cell = treated_cell change part object.cell in
      let after = slice_set cells o.0 cell in
      let heap = on_object (treated change part) s.heap (Names o) in
      let found : heap ≡ slice_set s.heap o.0 (treated change part object) = ap (λ (at_o : Option Object). changed (treated change part) at_o s.heap o) is in
      let are : cells_of heap ≡ after = ap cells_of found ∙ map-set (λ (x : Object). x.cell) s.heap o.0 (treated change part object) in
      let there : slice_get cells o.0 ≡ Some object.cell = cell_at s.heap o.0 object is in
      let stay : StayDesignated cells after = designated_set cells o.0 object.cell cell there refl in
      let own = filled_at p.types cells cells o.0 object.cell ready.filled there in
      let values = kinds_later p.types cells after stay own.0 cell.values own.2 in
      let had = parts_at p.types cells cells o.0 object.cell ready.filled there in
      let parts : HasParts p.types cell = (
        with_part_length change part (slice_get object.cell.parts part) object.cell.parts ∙ had.0,
        firsts_with change part (slice_get object.cell.parts part) object.cell.parts keeps refl ∙ had.1,
      ) in
      record {
        filled = subst (λ (cs : Cells). AreFilled p.types cs cs) (sym are) (filled_set p.types after cells o.0 cell (filled_later p.types cells after stay cells ready.filled) (own.0, own.1, values, own.3) parts);
        active = subst (λ (cs : Cells). IsActive p.types cs p.variables kinds s.activations) (sym are) (active_later p.types cells after stay p.variables kinds s.activations ready.active);
        fits = subst (λ (cs : Cells). Fits p cs kinds s.control) (sym are) (fits_later p cells after stay s.control kinds fits);
        stay = subst (λ (cs : Cells). StayDesignated cells cs) (sym are) stay;
      }

  -- A controlled part changes: all else that lies in objects stays.
  part_changed : (change : PartState → PartState) → ((q : PartState) → (change q).first ≡ q.first) → (part : ℕ) (o : Id) (object : Object) (s : State) (kinds : List OperandKind) → slice_get s.heap o.0 ≡ Some object → Ready p kinds s → Fits p (cells_of s.heap) kinds s.control → TypedIn p (record s { heap = on_object (treated change part) s.heap (Names o) })
  part_changed change keeps part o object s kinds is ready fits =
      let after = changed_at change keeps part o object s kinds is ready fits in
      running kinds (record { filled = after.filled; active = after.active; runs = ready.runs; deep = ready.deep }) after.fits

  -- What is left once the operation of a part has been called.
  born_left : (cells : Cells) (o : Id) (by : Birth) (done : List Part) (of part : ℕ) (tasks : List Task) → IsTreated p.types cells (Names o) (frame.begins by done) (performs of part ∷ tasks) → IsTreated p.types cells (Names o) (frame.begins by (record { of = of; number = part } ∷ done)) tasks
  born_left cells o by done of part tasks t = (t.0, t.1, (t.2.0.1, t.2.1.1), ((t.2.0.0, t.3.0), (t.2.1.0, t.3.1)))

  pub ended_left : (cells : Cells) (o : Id) (cause : Cause) (of part : ℕ) (tasks : List Task) → IsTreated p.types cells (Names o) (frame.ends cause) (performs of part ∷ tasks) → IsTreated p.types cells (Names o) (frame.ends cause) tasks
  ended_left cells o cause of part tasks t = (t.0, t.1, (t.2.0.1, t.2.1.1), (tt, tt))

  -- A part comes to have a value.
  pub born_fine : (o : Id) (by : Birth) (done : List Part) (of part : ℕ) (tasks : List Task) (object : Object) (s : State) (kinds : List OperandKind) → slice_get s.heap o.0 ≡ Some object → part < length object.cell.parts → Ready p kinds s → IsTreated p.types (cells_of s.heap) (Names o) (frame.begins by done) (performs of part ∷ tasks) → Fits p (cells_of s.heap) kinds s.control → Fine p (born_next named (Names o) by done of part tasks (slice_get object.cell.parts part) s)
  born_fine o by done of part tasks object s kinds is within ready treated fits =
      let found = part_there object.cell.parts part within in
      let treatment = frame.begins by (record { of = of; number = part } ∷ done) in
      let counting = record (treated_on named (Names o) treatment tasks s) { born = counted s.born } in
      let rest = ready_treated p kinds s (Names o) treatment tasks ready in
      subst (λ (q : Option PartState). Fine p (born_next named (Names o) by done of part tasks q s)) (sym found.1)
      (part_changed (born_part (counted s.born)) (λ q. refl) part o object counting kinds is
      (record { filled = rest.filled; active = rest.active; runs = rest.runs; deep = rest.deep })
      (treating_fits p (cells_of s.heap) kinds (Names o) treatment tasks s.control (born_left (cells_of s.heap) o by done of part tasks treated) fits))

  -- An object has the parts that its type says.
  pub part_within : (o : Id) (treatment : Treatment) (part : ℕ) (tasks : List Task) (of : ℕ) (s : State) (kinds : List OperandKind) → Ready p kinds s → IsTreated p.types (cells_of s.heap) (Names o) treatment (performs of part ∷ tasks) → (object : Object) → slice_get s.heap o.0 ≡ Some object → part < length object.cell.parts
  part_within o treatment part tasks of s kinds ready is object there =
      let own = own_access s.heap o is.0 object is.1 there in
      let parts = parts_at p.types (cells_of s.heap) (cells_of s.heap) o.0 object.cell ready.filled (cell_at s.heap o.0 object there) in
      let known : length object.cell.parts ≡ parts_known p.types is.0 = parts.0 ∙ ap (parts_known p.types) own in
      omega (arith, known, is.2.0.0)

  -- The body of the operation that begins it has ended.
  awaited_stage : (stage : Stage) (o : Id) (by : Birth) (done : List Part) (of part : ℕ) (tasks : List Task) (object : Object) (s : State) (kinds : List OperandKind) → slice_get s.heap o.0 ≡ Some object → part < length object.cell.parts → Ready p kinds s → IsTreated p.types (cells_of s.heap) (Names o) (frame.begins by done) (performs of part ∷ tasks) → Fits p (cells_of s.heap) kinds s.control → Fine p (awaited_next named (Names o) by done of part tasks (existing object stage) s)
  awaited_stage Gone o by done of part tasks object s kinds is within ready treated fits = tt
  awaited_stage Building o by done of part tasks object s kinds is within ready treated fits = born_fine o by done of part tasks object s kinds is within ready treated fits
  awaited_stage Existing o by done of part tasks object s kinds is within ready treated fits = born_fine o by done of part tasks object s kinds is within ready treated fits

  awaited_seen : (at_o : Option Object) (o : Id) (by : Birth) (done : List Part) (of part : ℕ) (tasks : List Task) (s : State) (kinds : List OperandKind) → slice_get s.heap o.0 ≡ at_o → Ready p kinds s → IsTreated p.types (cells_of s.heap) (Names o) (frame.begins by done) (performs of part ∷ tasks) → Fits p (cells_of s.heap) kinds s.control → Fine p (awaited_next named (Names o) by done of part tasks (seen at_o) s)
  awaited_seen None o by done of part tasks s kinds is ready treated fits = tt
  awaited_seen (Some object) o by done of part tasks s kinds is ready treated fits =
      awaited_stage object.stage o by done of part tasks object s kinds is (part_within o (frame.begins by done) part tasks of s kinds ready treated object is) ready treated fits

  pub awaited_fine : (v : Value) (by : Birth) (done : List Part) (of part : ℕ) (tasks : List Task) (s : State) (kinds : List OperandKind) → Ready p kinds s → IsTreated p.types (cells_of s.heap) v (frame.begins by done) (performs of part ∷ tasks) → Fits p (cells_of s.heap) kinds s.control → Fine p (awaited_next named v by done of part tasks (look s.heap v) s)
  awaited_fine Null by done of part tasks s kinds ready treated fits = absurd treated
  awaited_fine (Names o) by done of part tasks s kinds ready treated fits = awaited_seen (slice_get s.heap o.0) o by done of part tasks s kinds refl ready treated fits
  awaited_fine (Scalar v) by done of part tasks s kinds ready treated fits = absurd treated
  awaited_fine (value.Part o place) by done of part tasks s kinds ready treated fits = absurd treated

  -- The value of a part is finalized, where its type does not override Finalize.
  ended_fine : (alive : Bool) (bodies : List BodyForm) (o : Id) (cause : Cause) (of part : ℕ) (tasks : List Task) (q : PartState) (object : Object) (s : State) (kinds : List OperandKind) → slice_get s.heap o.0 ≡ Some object → Ready p kinds s → IsTreated p.types (cells_of s.heap) (Names o) (frame.ends cause) (performs of part ∷ tasks) → Fits p (cells_of s.heap) kinds s.control → Fine p (if alive then ended_next named bodies (Names o) part q (treating (Names o) (frame.ends cause) tasks s.control) None (Finalized (Names o) part q.turn of q.number cause) (record s { heap = on_object (treated finalized_part part) s.heap (Names o) }) else halts (Erroneous FinalizesTwice))
  ended_fine true bodies o cause of part tasks q object s kinds is ready treated fits =
      part_changed finalized_part (λ r. refl) part o object (treated_on named (Names o) (frame.ends cause) tasks s) kinds is
      (ready_treated p kinds s (Names o) (frame.ends cause) tasks ready)
      (treating_fits p (cells_of s.heap) kinds (Names o) (frame.ends cause) tasks s.control (ended_left (cells_of s.heap) o cause of part tasks treated) fits)
  ended_fine false bodies o cause of part tasks q object s kinds is ready treated fits = tt

  pub finalized_fine : (bodies : List BodyForm) (o : Id) (cause : Cause) (of part : ℕ) (tasks : List Task) (object : Object) (s : State) (kinds : List OperandKind) → slice_get s.heap o.0 ≡ Some object → part < length object.cell.parts → Ready p kinds s → IsTreated p.types (cells_of s.heap) (Names o) (frame.ends cause) (performs of part ∷ tasks) → Fits p (cells_of s.heap) kinds s.control → Fine p (finalized_next named bodies (Names o) cause of part tasks None (slice_get object.cell.parts part) s)
  finalized_fine bodies o cause of part tasks object s kinds is within ready treated fits =
      let found = part_there object.cell.parts part within in
      subst (λ (q : Option PartState). Fine p (finalized_next named bodies (Names o) cause of part tasks None q s)) (sym found.1)
      (ended_fine found.0.alive bodies o cause of part tasks found.0 object s kinds is ready treated fits)

  -- An Initialize has raised an exception: the parts that have begun are finalized, and the object goes.
  undone_typed : (e : Exception) (o : Id) (done : List Part) (of part : ℕ) (tasks : List Task) (cell : Cell Value) (s : State) (kinds : List OperandKind) → Jumps p (Raising e) s → IsTreated p.types (cells_of s.heap) (Names o) (frame.begins Creation done) (performs of part ∷ tasks) → Fits p (cells_of s.heap) kinds s.control → TypedIn p (undone named e (Names o) done cell s)
  undone_typed e o done of part tasks cell s kinds jumps treated fits =
      let cells = cells_of s.heap in
      let heap = on_object parted s.heap (Names o) in
      let same : cells_of heap ≡ cells = cells_on parted s.heap (Names o) (λ y. refl) in
      let dropped = record (set_operands [] s) { mode = Running } in
      let ready : Ready p [] dropped = record { filled = jumps.filled; active = active_cleared p.types cells p.variables [] s.activations jumps.active; runs = refl; deep = jumps.deep } in
      let other = ready_heap p [] dropped heap same ready in
      let cause = Undoing s.next in
      let left = frame.Ends (Names o) ∷ frame.GivesBack (Names o) cause cell.home.pool ∷ frame.Resumes (Raising e) ∷ s.control in
      let as_deep = treating_deep (Names o) (frame.ends cause) (undoing done) left in
      running [] (record { filled = other.filled; active = other.active; runs = refl; deep = omega (arith, jumps.deep, as_deep) })
      (fits_heap p [] dropped (treating (Names o) (frame.ends cause) (undoing done) left) heap same
      (treating_fits p cells [] (Names o) (frame.ends cause) (undoing done) left (treated.0, treated.1, treated.3, (tt, tt)) (tt, (tt, catches p cells s.control kinds fits))))

  undo_stage : (stage : Stage) (e : Exception) (o : Id) (done : List Part) (of part : ℕ) (tasks : List Task) (object : Object) (s : State) (kinds : List OperandKind) → Jumps p (Raising e) s → IsTreated p.types (cells_of s.heap) (Names o) (frame.begins Creation done) (performs of part ∷ tasks) → Fits p (cells_of s.heap) kinds s.control → Fine p (undo_next named e (Names o) done (existing object stage) s)
  undo_stage Gone e o done of part tasks object s kinds jumps treated fits = tt
  undo_stage Building e o done of part tasks object s kinds jumps treated fits = undone_typed e o done of part tasks object.cell s kinds jumps treated fits
  undo_stage Existing e o done of part tasks object s kinds jumps treated fits = undone_typed e o done of part tasks object.cell s kinds jumps treated fits

  undo_seen : (at_o : Option Object) (e : Exception) (o : Id) (done : List Part) (of part : ℕ) (tasks : List Task) (s : State) (kinds : List OperandKind) → Jumps p (Raising e) s → IsTreated p.types (cells_of s.heap) (Names o) (frame.begins Creation done) (performs of part ∷ tasks) → Fits p (cells_of s.heap) kinds s.control → Fine p (undo_next named e (Names o) done (seen at_o) s)
  undo_seen None e o done of part tasks s kinds jumps treated fits = tt
  undo_seen (Some object) e o done of part tasks s kinds jumps treated fits = undo_stage object.stage e o done of part tasks object s kinds jumps treated fits

  pub undo_fine : (e : Exception) (v : Value) (done : List Part) (of part : ℕ) (tasks : List Task) (s : State) (kinds : List OperandKind) → Jumps p (Raising e) s → IsTreated p.types (cells_of s.heap) v (frame.begins Creation done) (performs of part ∷ tasks) → Fits p (cells_of s.heap) kinds s.control → Fine p (undo_next named e v done (look s.heap v) s)
  undo_fine e Null done of part tasks s kinds jumps treated fits = absurd treated
  undo_fine e (Names o) done of part tasks s kinds jumps treated fits = undo_seen (slice_get s.heap o.0) e o done of part tasks s kinds jumps treated fits
  undo_fine e (Scalar v) done of part tasks s kinds jumps treated fits = absurd treated
  undo_fine e (value.Part o place) done of part tasks s kinds jumps treated fits = absurd treated

module _ (p : ProgramForm) (types : List TypeDefinition) (shown : map type_form types ≡ p.types) where
  -- What is left once a component is picked.
  picked_within : (access : ℕ) (treatment : Treatment) (cs : List Component) (behind : List Task) (i : ℕ) → TasksFit p.types access (treats cs ∷ behind) → TasksFit p.types access (picked_task (shapes_of types) (direction_of treatment) (treats cs ∷ behind) i)
  picked_within access treatment cs behind i fit =
      let same = shapes_shown types p.types shown in
      let count = parts_known p.types access in
      let tasks = picked_task (shapes_of types) (direction_of treatment) (treats cs ∷ behind) i in
      let member = member_at (direction_of treatment) (length cs) i in (
        subst (λ (shapes : List Shape). Within shapes count tasks) (sym same)
            (within_taken (shapes_of types) (are_table types) count (direction_of treatment) cs behind member (subst (λ (shapes : List Shape). Within shapes count (treats cs ∷ behind)) same fit.0)),
        subst (λ (shapes : List Shape). Lying p.types access (picked_task shapes (direction_of treatment) (treats cs ∷ behind) i)) same
            (lying_taken p.types access (direction_of treatment) cs behind member fit.1),
      )

  pub picks_fine : (o : Id) (treatment : Treatment) (cs : List Component) (behind : List Task) (bodies : List BodyForm) (s : State) (kinds : List OperandKind) → Ready p kinds s → IsTreated p.types (cells_of s.heap) (Names o) treatment (treats cs ∷ behind) → Fits p (cells_of s.heap) kinds s.control → Fine p (treats_next named types bodies (Names o) treatment (treats cs ∷ behind) (task_next (treats cs ∷ behind)) s)
  picks_fine o treatment cs behind bodies s kinds ready is fits =
      let left = λ (i : ℕ). picked_task (shapes_of types) (direction_of treatment) (treats cs ∷ behind) i in
      let some : (length cs == 0) ≡ false = eq_not (length cs) 0 (λ none. omega (arith, none, is.2.0.0)) in
      subst (λ (none : Bool). Fine p (if none then halts Stuck else picks (length cs) (λ i. treated_on named (Names o) treatment (left i) s))) (sym some)
      (λ i lt.
      running kinds (ready_treated p kinds s (Names o) treatment (left i) ready)
      (treating_fits p (cells_of s.heap) kinds (Names o) treatment (left i) s.control (is.0, is.1, picked_within is.0 treatment cs behind i is.2, is.3) fits))
