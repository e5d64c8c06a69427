-- Objects that end, and masters that are left, lead from typed states to typed states (7.6.1, 13.11.2).

use Rattle.ada_typed.specs.Holding.{cells_of}
use Rattle.std.proofs.Common.{◌≡◌, ℕ, zero, suc, ◌+◌, ◌<◌, ◌≤◌, if◌then◌else◌, Bool, true, false, List, [], ◌∷◌, length, map, Option, Some, None, arith, refl, ap, ◌∙◌, subst}
use Rattle.std.specs.List.{slice_get, slice_index_or}
use Rattle.ada_program.specs.declared.program.TypeDefinition.{TypeDefinition}
use Rattle.ada_program.specs.ProgramForm.{ProgramForm, type_form}
use Rattle.ada_parts.specs.declared.tasks.Direction.TheVariants.{WholeFirst}
use Rattle.ada_meaning.specs.declared.state.Id.{Id}
use Rattle.ada_meaning.specs.declared.state.Value.{Value}
use Rattle.ada_meaning.specs.declared.state.Value.TheVariants.{Null, Names, Scalar, Part}
use Rattle.ada_meaning.specs.declared.state.Stage.{Stage}
use Rattle.ada_meaning.specs.declared.state.Stage.TheVariants.{Building, Existing, Gone}
use Rattle.ada_meaning.specs.declared.state.Mode.{Mode}
use Rattle.ada_meaning.specs.declared.state.Mode.TheVariants.{Running, Raising, Exiting, Returning}
use Rattle.ada_meaning.specs.declared.event.Cause.{Cause}
use Rattle.ada_meaning.specs.declared.event.Cause.TheVariants.{Leaving}
use Rattle.ada_meaning.specs.declared.event.Halt.TheVariants.{Erroneous}
use Rattle.ada_meaning.specs.Event.{Back}
use Rattle.ada_meaning.specs.declared.event.Why.TheVariants.{GivesElsewhere}
use Rattle.ada_meaning.specs.Frame.{Frame, is_master, is_loop, is_return, Landing, passes_on, goes_behind, handler_landing, exception_landing, landing}
use Rattle.ada_meaning.specs.Frame as frame
use Rattle.ada_meaning.specs.State.{Owned, declared, collection, record_object, storage_pool, Item, Master}
use Rattle.ada_meaning.specs.Heap.{Cell, on_gone, finds}
use Rattle.ada_meaning.specs.Step.{halts, all_tasks, treating, taken_out, at, older, shorter, end_next, same_pool, told_back, given_back, back_next, members_next, item_leave_next, master_leave_next, leave_next}
use Rattle.ada_meaning.specs.Named.{Object, State, named, look, lent, lent_by, seen, existing, on_object, parted, finished, returned, members, members_of}
use Rattle.ada_typed.proofs.Evaluations.{Fine, cell_at, cells_on, length_shorter, ready_at, ready_heap, fits_heap}
use Rattle.ada_typed.proofs.Values.{OperandKind, active_none}
use Rattle.ada_typed.proofs.Treating.{all_within, treating_fits, treating_deep}
use Rattle.ada_typed.proofs.Control.{IsName, Fits, depth, Ready, Jumps, TypedIn, running, on_jump}

-- What is picked of a collection is a name.
picked_name : (ids : List Id) (i : ℕ) → i < length (map Names ids) → IsName (slice_index_or (map Names ids) i Null)
picked_name [] i lt = absurd (omega arith)
picked_name (o ∷ ids) zero lt = tt
picked_name (o ∷ ids) (suc i) lt = picked_name ids i (omega arith)

picked : (ids : List Id) (vs : List Value) (i : ℕ) → map Names ids ≡ vs → i < length vs → IsName (slice_index_or vs i Null)
picked ids vs i is lt = subst (λ (ws : List Value). IsName (slice_index_or ws i Null)) is (picked_name ids i (omega (arith, ap length is)))

module _ (p : ProgramForm) where
  -- What a Free leads to (13.11.2).
  end_stage : (stage : Stage) (o : Id) (object : Object) (s : State) (kinds : List OperandKind) → Ready p kinds s → Fits p (cells_of s.heap) kinds s.control → Fine p (end_next named (Names o) (existing object stage) s)
  end_stage Gone o object s kinds ready fits = tt
  end_stage Building o object s kinds ready fits =
      let heap = on_object finished s.heap (Names o) in
      let same : cells_of heap ≡ cells_of s.heap = cells_on finished s.heap (Names o) (λ y. refl) in
      running kinds (ready_heap p kinds s heap same ready) (fits_heap p kinds s s.control heap same fits)
  end_stage Existing o object s kinds ready fits =
      let heap = on_object finished s.heap (Names o) in
      let same : cells_of heap ≡ cells_of s.heap = cells_on finished s.heap (Names o) (λ y. refl) in
      running kinds (ready_heap p kinds s heap same ready) (fits_heap p kinds s s.control heap same fits)

  end_seen : (at_o : Option Object) (o : Id) (s : State) (kinds : List OperandKind) → Ready p kinds s → Fits p (cells_of s.heap) kinds s.control → Fine p (end_next named (Names o) (seen at_o) s)
  end_seen None o s kinds ready fits = tt
  end_seen (Some object) o s kinds ready fits = end_stage object.stage o object s kinds ready fits

  pub end_fine : (v : Value) (s : State) (kinds : List OperandKind) → IsName v → Ready p kinds s → Fits p (cells_of s.heap) kinds s.control → Fine p (end_next named v (look s.heap v) s)
  end_fine Null s kinds is ready fits = absurd is
  end_fine (Names o) s kinds is ready fits = end_seen (slice_get s.heap o.0) o s kinds ready fits
  end_fine (Scalar v) s kinds is ready fits = absurd is
  end_fine (Part o place) s kinds is ready fits = absurd is

  told_fine : (pool : Option ℕ) (o : Id) (cause : Cause) (cell : Cell Value) (s : State) (kinds : List OperandKind) → Ready p kinds s → Fits p (cells_of s.heap) kinds s.control → Fine p (told_back named pool (Names o) (Back (Names o) cell.access cell.number cell.home.pool cell.home.subpool cause) (record s { heap = on_object returned s.heap (Names o) }))
  told_fine None o cause cell s kinds ready fits =
      let heap = on_object returned s.heap (Names o) in
      let same : cells_of heap ≡ cells_of s.heap = cells_on returned s.heap (Names o) (λ y. refl) in
      running kinds (ready_heap p kinds s heap same ready) (fits_heap p kinds s s.control heap same fits)
  told_fine (Some pool) o cause cell s kinds ready fits =
      let heap = on_object returned s.heap (Names o) in
      let same : cells_of heap ≡ cells_of s.heap = cells_on returned s.heap (Names o) (λ y. refl) in
      running kinds (ready_heap p kinds s heap same ready) (fits_heap p kinds s s.control heap same fits)

  given_fine : (same : Bool) (o : Id) (cause : Cause) (cell : Cell Value) (s : State) (kinds : List OperandKind) → Ready p kinds s → Fits p (cells_of s.heap) kinds s.control → Fine p (if same then given_back named (Names o) cause cell s else halts (Erroneous GivesElsewhere))
  given_fine true o cause cell s kinds ready fits = told_fine cell.home.pool o cause cell s kinds ready fits
  given_fine false o cause cell s kinds ready fits = tt

  out_fine : (out : Bool) (o : Id) (cause : Cause) (pool : Option ℕ) (object : Object) (s : State) (kinds : List OperandKind) → Ready p kinds s → Fits p (cells_of s.heap) kinds s.control → Fine p (back_next named (Names o) cause pool (if out then finds object.cell else on_gone) s)
  out_fine true o cause pool object s kinds ready fits = given_fine (same_pool pool object.cell.home.pool) o cause object.cell s kinds ready fits
  out_fine false o cause pool object s kinds ready fits = tt

  lent_fine : (at_o : Option Object) (o : Id) (cause : Cause) (pool : Option ℕ) (s : State) (kinds : List OperandKind) → Ready p kinds s → Fits p (cells_of s.heap) kinds s.control → Fine p (back_next named (Names o) cause pool (lent_by at_o) s)
  lent_fine None o cause pool s kinds ready fits = tt
  lent_fine (Some object) o cause pool s kinds ready fits = out_fine object.out o cause pool object s kinds ready fits

  pub back_fine : (v : Value) (cause : Cause) (pool : Option ℕ) (s : State) (kinds : List OperandKind) → IsName v → Ready p kinds s → Fits p (cells_of s.heap) kinds s.control → Fine p (back_next named v cause pool (lent s.heap v) s)
  back_fine Null cause pool s kinds is ready fits = absurd is
  back_fine (Names o) cause pool s kinds is ready fits = lent_fine (slice_get s.heap o.0) o cause pool s kinds ready fits
  back_fine (Scalar v) cause pool s kinds is ready fits = absurd is
  back_fine (Part o place) cause pool s kinds is ready fits = absurd is

  -- A jump goes on that had to wait.
  resumed_jumps : (mode : Mode) (s : State) (kinds : List OperandKind) → Ready p kinds s → Jumps p mode (record s { mode = mode })
  resumed_jumps mode s kinds ready = record { filled = ready.filled; active = active_none p.types (cells_of s.heap) p.variables kinds s.activations ready.active; jumps = refl; deep = ready.deep }

  pub resumes_fine : (mode : Mode) (s : State) (kinds : List OperandKind) → Ready p kinds s → Fits p (cells_of s.heap) kinds (frame.Resumes mode ∷ s.control) → TypedIn p (record s { mode = mode })
  resumes_fine Running s kinds ready fits = running kinds (record { filled = ready.filled; active = ready.active; runs = refl; deep = ready.deep }) fits
  resumes_fine (Raising e) s kinds ready fits = on_jump (Raising e) (resumed_jumps (Raising e) s kinds ready) fits
  resumes_fine Exiting s kinds ready fits = on_jump Exiting (resumed_jumps Exiting s kinds ready) fits
  resumes_fine Returning s kinds ready fits = on_jump Returning (resumed_jumps Returning s kinds ready) fits

module _ (p : ProgramForm) (types : List TypeDefinition) (shown : map type_form types ≡ p.types) where
  -- The leaving of a master (7.6.1).
  ready_shorter : (kinds : List OperandKind) (s : State) → Ready p kinds s → Ready p kinds (record s { masters = shorter s.masters })
  ready_shorter kinds s ready = record { filled = ready.filled; active = ready.active; runs = ready.runs; deep = omega (arith, ready.deep, length_shorter s.masters) }

  -- The object that is taken is finalized first, if it is there.
  taken_plain : (cause : Cause) (pool : Option ℕ) (o : Id) (s : State) (kinds : List OperandKind) → Ready p kinds s → Fits p (cells_of s.heap) kinds s.control → TypedIn p (record s { heap = on_object parted s.heap (Names o); control = frame.Ends (Names o) ∷ frame.GivesBack (Names o) cause pool ∷ s.control })
  taken_plain cause pool o s kinds ready fits =
      let heap = on_object parted s.heap (Names o) in
      let same : cells_of heap ≡ cells_of s.heap = cells_on parted s.heap (Names o) (λ y. refl) in
      let other = ready_heap p kinds s heap same ready in
      running kinds (record { filled = other.filled; active = other.active; runs = other.runs; deep = other.deep }) (tt, (tt, fits_heap p kinds s s.control heap same fits))

  taken_found : (cause : Cause) (pool : Option ℕ) (o : Id) (object : Object) (s : State) (kinds : List OperandKind) → slice_get s.heap o.0 ≡ Some object → Ready p kinds s → Fits p (cells_of s.heap) kinds s.control → TypedIn p (taken_out named types cause pool (Names o) (finds object.cell) s)
  taken_found cause pool o object s kinds there ready fits =
      let heap = on_object parted s.heap (Names o) in
      let same : cells_of heap ≡ cells_of s.heap = cells_on parted s.heap (Names o) (λ y. refl) in
      let other = ready_heap p kinds s heap same ready in
      let own = object.cell.access in
      let tasks = all_tasks types own WholeFirst in
      let left = frame.Ends (Names o) ∷ frame.GivesBack (Names o) cause pool ∷ s.control in
      let as_deep = treating_deep (Names o) (frame.ends cause) tasks left in
      running kinds (record { filled = other.filled; active = other.active; runs = other.runs; deep = omega (arith, ready.deep, as_deep) })
      (fits_heap p kinds s (treating (Names o) (frame.ends cause) tasks left) heap same
      (treating_fits p (cells_of s.heap) kinds (Names o) (frame.ends cause) tasks left
      (own, (object.cell, cell_at s.heap o.0 object there, refl), all_within types p.types own WholeFirst shown, (tt, tt)) (tt, (tt, fits))))

  taken_stage : (stage : Stage) (cause : Cause) (pool : Option ℕ) (o : Id) (object : Object) (s : State) (kinds : List OperandKind) → slice_get s.heap o.0 ≡ Some object → Ready p kinds s → Fits p (cells_of s.heap) kinds s.control → TypedIn p (taken_out named types cause pool (Names o) (existing object stage) s)
  taken_stage Gone cause pool o object s kinds there ready fits = taken_plain cause pool o s kinds ready fits
  taken_stage Building cause pool o object s kinds there ready fits = taken_found cause pool o object s kinds there ready fits
  taken_stage Existing cause pool o object s kinds there ready fits = taken_found cause pool o object s kinds there ready fits

  taken_seen : (at_o : Option Object) (cause : Cause) (pool : Option ℕ) (o : Id) (s : State) (kinds : List OperandKind) → slice_get s.heap o.0 ≡ at_o → Ready p kinds s → Fits p (cells_of s.heap) kinds s.control → TypedIn p (taken_out named types cause pool (Names o) (seen at_o) s)
  taken_seen None cause pool o s kinds there ready fits = taken_plain cause pool o s kinds ready fits
  taken_seen (Some object) cause pool o s kinds there ready fits = taken_stage object.stage cause pool o object s kinds there ready fits

  taken_fine : (cause : Cause) (pool : Option ℕ) (v : Value) (s : State) (kinds : List OperandKind) → IsName v → Ready p kinds s → Fits p (cells_of s.heap) kinds s.control → TypedIn p (taken_out named types cause pool v (look s.heap v) s)
  taken_fine cause pool Null s kinds name ready fits = absurd name
  taken_fine cause pool (Names o) s kinds name ready fits = taken_seen (slice_get s.heap o.0) cause pool o s kinds refl ready fits
  taken_fine cause pool (Scalar v) s kinds name ready fits = absurd name
  taken_fine cause pool (Part o place) s kinds name ready fits = absurd name

  members_fine : (cause : Cause) (pool : Option ℕ) (ids : List Id) (vs : List Value) (s : State) (kinds : List OperandKind) → map Names ids ≡ vs → Ready p kinds s → Fits p (cells_of s.heap) kinds s.control → Fine p (members_next named types cause pool vs s)
  members_fine cause pool ids [] s kinds are ready fits = running kinds (ready_shorter kinds s ready) fits
  members_fine cause pool ids (v ∷ vs) s kinds are ready fits = λ i lt.
      taken_fine cause pool (slice_index_or (v ∷ vs) i Null) s kinds (picked ids (v ∷ vs) i are lt) ready fits

  item_leave_fine : (m : ℕ) (item : Item) (what : Owned) (s : State) (kinds : List OperandKind) → Ready p kinds s → Fits p (cells_of s.heap) kinds s.control → Fine p (item_leave_next named types m item what s)
  item_leave_fine m item (declared x) s kinds ready fits = running kinds (ready_shorter kinds s ready) fits
  item_leave_fine m item (collection access pool) s kinds ready fits = members_fine (Leaving m item.number) pool (members_of s.heap item.number) (members s.heap item.number) s kinds refl ready fits
  item_leave_fine m item (record_object t) s kinds ready fits = members_fine (Leaving m item.number) None (members_of s.heap item.number) (members s.heap item.number) s kinds refl ready fits
  item_leave_fine m item (storage_pool declaration number) s kinds ready fits = running kinds (ready_shorter kinds s ready) fits

  left_jumps : (mode : Mode) (s : State) (kinds : List OperandKind) (ms : List Master) → Ready p kinds s → depth s.control ≤ length ms → Jumps p mode (record s { masters = ms; mode = mode })
  left_jumps mode s kinds ms ready deep = record { filled = ready.filled; active = active_none p.types (cells_of s.heap) p.variables kinds s.activations ready.active; jumps = refl; deep = deep }

  left_fine : (mode : Mode) (s : State) (kinds : List OperandKind) (ms : List Master) → Ready p kinds s → depth s.control ≤ length ms → Fits p (cells_of s.heap) kinds (frame.Leaves mode ∷ s.control) → TypedIn p (record s { masters = ms; mode = mode })
  left_fine Running s kinds ms ready deep fits = running kinds (record { filled = ready.filled; active = ready.active; runs = refl; deep = deep }) fits
  left_fine (Raising e) s kinds ms ready deep fits = on_jump (Raising e) (left_jumps (Raising e) s kinds ms ready deep) fits
  left_fine Exiting s kinds ms ready deep fits = on_jump Exiting (left_jumps Exiting s kinds ms ready deep) fits
  left_fine Returning s kinds ms ready deep fits = on_jump Returning (left_jumps Returning s kinds ms ready deep) fits

  master_leave_fine : (mode : Mode) (m : ℕ) (items : List Item) (s : State) (kinds : List OperandKind) → Ready p kinds s → 1 + depth s.control ≤ length s.masters → depth s.control ≤ length (older s.masters) → Fits p (cells_of s.heap) kinds (frame.Leaves mode ∷ s.control) → Fine p (master_leave_next named types mode m items s)
  master_leave_fine mode m [] s kinds ready deep below fits = left_fine mode s kinds (older s.masters) ready below fits
  master_leave_fine mode m (item ∷ items) s kinds ready deep below fits =
      item_leave_fine m item item.owned (at (frame.Leaves mode ∷ s.control) s) kinds (ready_at p kinds s (frame.Leaves mode ∷ s.control) ready deep) fits

  pub leave_fine : (mode : Mode) (ms : List Master) (s : State) (kinds : List OperandKind) → s.masters ≡ ms → Ready p kinds s → 1 + depth s.control ≤ length s.masters → Fits p (cells_of s.heap) kinds (frame.Leaves mode ∷ s.control) → Fine p (leave_next named types mode ms s)
  leave_fine mode [] s kinds is ready deep fits = let none : length s.masters ≡ 0 = ap length is in absurd (omega (arith, deep, none))
  leave_fine mode (m ∷ ms) s kinds is ready deep fits =
      let same : length (older s.masters) ≡ length ms = ap (λ (xs : List Master). length (older xs)) is in
      let all : length s.masters ≡ 1 + length ms = ap length is ∙ omega arith in
      master_leave_fine mode m.number m.items s kinds ready deep (omega (arith, deep, same, all)) fits
