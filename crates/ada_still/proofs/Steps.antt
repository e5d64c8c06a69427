-- Each step leads to what sits in still bodies, or behind them, whatever is answered (7.6).

use Rattle.std.proofs.Common.{inl, inr, ◌+◌, ◌&&◌, sym, subst, ◌≡◌, ℕ, ℤ, Bool, true, false, if◌then◌else◌, List, [], ◌∷◌, map, Option, Some, None, refl}
use Rattle.std.specs.Prelude.{int_le}
use Rattle.ada_program.specs.declared.program.TypeDefinition.{TypeDefinition}
use Rattle.ada_program.specs.declared.program.Exception.{Exception}
use Rattle.ada_program.specs.Form.{no_handlers, a_handler, ActualForm, in_value, in_null, in_access, in_record, in_out_path, in_out_access, in_out_component, in_out_record, ExpressionForm, ItemForm, RightForm, StmtForm, skips, assigns, assigns_record, frees, gets, writes, writes_text, chooses, repeats, counts, exits, calls, returns, raises, encloses, StmtsForm, no_stmts, a_stmt, BranchesForm, otherwise, a_branch, HandlersForm, DeclarationForm, creates_pool, collects, declares, declares_record}
use Rattle.ada_program.specs.ProgramForm.{TypeForm, type_form, BodyForm}
use Rattle.ada_program.specs.Typed.{reached_of, words_of, width_of}
use Rattle.ada_program.specs.Typed.{pool_named}
use Rattle.ada_program.specs.Handling.{some_takes, handler_of}
use Rattle.ada_parts.specs.declared.tasks.Direction.TheVariants.{PartsFirst, WholeFirst}
use Rattle.ada_parts.specs.Task.{next as task_next}
use Rattle.ada_meaning.specs.declared.event.Birth.TheVariants.{Creation, Copy, Adjustment}
use Rattle.ada_meaning.specs.declared.event.Cause.TheVariants.{Assigning}
use Rattle.ada_meaning.specs.declared.state.Id.{Id}
use Rattle.ada_meaning.specs.declared.state.Stage.{Stage}
use Rattle.ada_meaning.specs.declared.state.Stage.TheVariants.{Building, Existing, Gone}
use Rattle.ada_meaning.specs.Law.{items_of}
use Rattle.ada_meaning.specs.declared.state.Value.{Value}
use Rattle.ada_meaning.specs.declared.state.Value.TheVariants.{Null, Names, Scalar, Part}
use Rattle.ada_meaning.specs.declared.state.Mode.{Mode}
use Rattle.ada_meaning.specs.declared.state.Mode.TheVariants.{Running, Raising, Exiting, Returning}
use Rattle.ada_meaning.specs.Event.{Quiet}
use Rattle.ada_meaning.specs.Frame.{Frame, is_master, is_loop, is_return, Landing, passes_on, goes_behind, goes_in, breaks_off, escapes, operation_landing, handler_landing, landing}
use Rattle.ada_meaning.specs.Frame as frame
use Rattle.ada_meaning.specs.Heap.{Cell, Found, on_null, on_gone, on_other, finds}
use Rattle.ada_meaning.specs.State.{Activation, declared, collection, storage_pool, Item, Master, height, home_of, pools_in, pool_for}
use Rattle.ada_meaning.specs.Step.{first_or, places_of, operands_of, record_tasks, treating, assigns_next, resumed, returned, references_in, operand_count, moves, has_parts, at, popped, held, newest, newest_ones, without_newest, initial_values, record_next, storing, assign_next, target_next, stored_next, store_next, frees_next, branches_next, decided_next, turn_next, repeats_next, turned_next, count_turn_next, ranges_next, gets_next, received_next, receive_next, exit_next, exited_next, computing, call_next, stmt_next, stmts_next, line_next, declarations_next, frame_next, landed, pass_next, running_next, jump_next, mode_next}
use Rattle.ada_meaning.specs.Named.{Object, State, Next, next, whole, base, part_base, same, object_at, existing, seen, all_alive, standing_by, filled, named, look, lent, standing, reads_boolean, reads_null, reads_integer, an_integer, unary_given, binary_given}
use Rattle.std.specs.List.{slice_get, slice_index_or}
use Rattle.std.proofs.lemmas.Bool.{and_parts}
use Rattle.ada_order.proofs.Numbers.{Counted}
use Rattle.ada_scopes.proofs.Homes.{Housed, housed_owning, housed_on}
use Rattle.ada_scopes.proofs.Evaluations.{keeps_filled}
use Rattle.ada_still.specs.Still.{right_keeps, declarations_keep, stmt_keeps, stmts_keep, branches_keep, handlers_keep, body_keeps, holds_parts, still_bounds}
use Rattle.ada_still.proofs.Coming.{all_next}
use Rattle.ada_still.proofs.Sits.{no_parts, bounds, PartKeeps, BodyFits, Holds, IsElaborating, Sits, SitsInside, Rests, AllRest, SomeRests, AllSome, frees_none, assigns_none, part_keeps, owning_inside, owning_sits, body_begins}
use Rattle.ada_still.proofs.Forms.{FoundIsBare, path_sits, holder_sits, record_holder_sits, expression_sits, null_test_sits, links_sits, outcome_sits, items_sits, copies_sits, record_target_sits, store_record_sits, record_assign_sits, refers_sits, open_sits, opens_sits, end_sits, back_sits, new_sits, right_sits, free_sits, free_in_sits, leave_sits, made_sits}
use Rattle.ada_still.proofs.Treats.{treats_behind, treats_sits, awaited_sits, broken_off_sits}

-- What a value names is of this access type, if it names an object.
abbrev pub IsOf : (access : ℕ) → List Object → Value → Type 0
IsOf access heap v = (o : Id) (x : Object) → v ≡ Names o → object_at heap o ≡ Some x → x.cell.access ≡ access

-- Where a frame frees an object, that is of the access type that the instance is for (13.11.2).
abbrev pub FreesIts : Frame Value → List (Activation Value) → List Object → Type 0
FreesIts (frame.Does (a_stmt (frees access path) fs)) activations heap = path.selectors ≡ [] → IsOf access heap (slice_index_or (places_of activations) path.root Null)
FreesIts (frame.FreesIn access c) activations heap =
    (found : Id) (holder : Object) (v : Value) → first_or Null (operands_of activations) ≡ Names found → object_at heap found ≡ Some holder → slice_get holder.cell.values c ≡ Some v
    → IsOf access heap v
FreesIts f activations heap = Unit {0}

-- So it is with the first of these.
abbrev pub FirstFreesIts : List (Frame Value) → List (Activation Value) → List Object → Type 0
FirstFreesIts [] activations heap = Unit {0}
FirstFreesIts (f ∷ k) activations heap = FreesIts f activations heap

-- A master is being left first.
abbrev pub leaves_first : List (Frame Value) → Bool
leaves_first [] = false
leaves_first (frame.Leaves mode ∷ k) = true
leaves_first (f ∷ k) = false

not_first : (k : List (Frame Value)) → (leaves_first k ≡ true → ⊥) → leaves_first k ≡ false
not_first k never = by (leaves_first k) never
  where
    by : (b : Bool) → (b ≡ true → ⊥) → b ≡ false
    by true never = absurd (never refl)
    by false never = refl

-- No body begins or ends by this frame, and no object is treated.
abbrev stays_within : Frame Value → Bool
stays_within (frame.Calls procedure called actuals) = false
stays_within (frame.Returns actuals references) = false
stays_within (frame.Treats v treatment tasks) = false
stays_within (frame.Awaits v by done of part tasks) = false
stays_within f = true

-- A jump passes this frame, or lands there, and leaves no master and no call.
abbrev passes_plainly : Frame Value → Bool
passes_plainly (frame.Elaborates ds fs hs) = false
passes_plainly frame.Closes = false
passes_plainly (frame.Leaves mode) = false
passes_plainly (frame.Returns actuals references) = false
passes_plainly f = true

master_stops : (f : Frame Value) → passes_plainly f ≡ true → is_master f ≡ true → ⊥
master_stops (frame.Elaborates ds fs hs) plain is = cc plain
master_stops frame.Closes plain is = cc plain
master_stops f plain is = cc is

-- What is found is that of an object.
look_there : (heap : List Object) (v : Value) (cell : Cell Value) → look heap v ≡ finds cell → (o : Id) × (x : Object) × (v ≡ Names o) × (object_at heap o ≡ Some x) × (x.cell ≡ cell)
look_there heap Null cell is = absurd (cc is)
look_there heap (Names o) cell is = by (object_at heap o) refl is
  where
    staged : (x : Object) (stage : Stage) → object_at heap o ≡ Some x → existing x stage ≡ finds cell
        → (p : Id) × (y : Object) × (Names o ≡ Names p) × (object_at heap p ≡ Some y) × (y.cell ≡ cell)
    staged x Building there is = (o, x, refl, there, cc is)
    staged x Existing there is = (o, x, refl, there, cc is)
    staged x Gone there is = absurd (cc is)

    by : (found : Option Object) → object_at heap o ≡ found → seen found ≡ finds cell
        → (p : Id) × (y : Object) × (Names o ≡ Names p) × (object_at heap p ≡ Some y) × (y.cell ≡ cell)
    by None there is = absurd (cc is)
    by (Some x) there is = staged x x.stage there is
look_there heap (Scalar v) cell is = absurd (cc is)
look_there heap (Part o place) cell is = absurd (cc is)

module _ (forms : List TypeForm) where
  -- What is in its collection, and is of a type without controlled parts, has none.
  standing_bare : (access : ℕ) (heap : List Object) (v : Value) → IsOf access heap v → holds_parts forms access ≡ false → FoundIsBare forms (standing heap v)
  standing_bare access heap Null of none = tt
  standing_bare access heap (Names o) of none = by (object_at heap o) refl
    where
      stands : (x : Object) (there : Bool) → holds_parts forms x.cell.access ≡ false → FoundIsBare forms (if there then finds x.cell else on_gone)
      stands x true bare = bare
      stands x false bare = tt

      by : (found : Option Object) → object_at heap o ≡ found → FoundIsBare forms (standing_by found)
      by None is = tt
      by (Some x) is = stands x (x.listed && all_alive x.cell.parts) (subst (λ (t : ℕ). holds_parts forms t ≡ false) (sym (of o x refl is)) none)
  standing_bare access heap (Scalar v) of none = tt
  standing_bare access heap (Part o place) of none = tt

module _ (forms : List TypeForm) (bodies : List BodyForm) (still own : ℕ → Bool) (b : Bool) (types : List TypeDefinition) (shown : map type_form types ≡ forms)
    (fits : (procedure : ℕ) (body : BodyForm) → slice_get bodies procedure ≡ Some body → BodyFits forms bodies still own false body)
    (keeps : (procedure : ℕ) (body : BodyForm) → slice_get bodies procedure ≡ Some body → still procedure ≡ true → body_keeps (still_bounds forms still) body ≡ true) where
  -- What is called fits.
  called_fits : (within : Bool) (procedure : ℕ) (called : BodyForm) → (bounds forms bodies still own within).calls procedure ≡ true → slice_get bodies procedure ≡ Some called
      → BodyFits forms bodies still own within called
  called_fits true procedure called may at_body = inl (keeps procedure called at_body may)
  called_fits false procedure called may at_body = fits procedure called at_body

  -- What is assigned to, stored in and read to.
  assign_sits : (cs : List ℕ) (x : ℕ) (right : RightForm) (s : State) → right_keeps (bounds forms bodies still own b) right ≡ true → Rests forms bodies still own b s
      → AllRest forms bodies still own b (assign_next named cs x right s)
  assign_sits [] x right s may h = ((may, (tt, h.0)), h.1)
  assign_sits (c ∷ cs) x right s may h = holder_sits forms bodies still own b c cs x (λ last. frame.Targets last right) s (λ n. ((may, h.0), h.1))

  target_sits : (o : Value) (c : ℕ) (right : RightForm) (found : Found (Cell Value)) (s : State) → right_keeps (bounds forms bodies still own b) right ≡ true
      → Rests forms bodies still own b s → AllRest forms bodies still own b (target_next named o c right found s)
  target_sits o c right on_null s may h = h
  target_sits o c right on_gone s may h = tt
  target_sits o c right on_other s may h = tt
  target_sits o c right (finds cell) s may h = ((may, (tt, h.0)), h.1)

  stored_sits : (o : Value) (c : ℕ) (v : Value) (found : Option Value) (s : State) → Rests forms bodies still own b s
      → AllRest forms bodies still own b (stored_next named o c v found s)
  stored_sits o c v None s h = tt
  stored_sits o c v (Some before) s h = (h.0, housed_on (filled c v) s.heap o (items_of s.masters) (keeps_filled c v) h.1)

  store_sits : (o : Value) (c : ℕ) (v : Value) (found : Found (Cell Value)) (s : State) → Rests forms bodies still own b s
      → AllRest forms bodies still own b (store_next named o c v found s)
  store_sits o c v on_null s h = tt
  store_sits o c v on_gone s h = tt
  store_sits o c v on_other s h = tt
  store_sits o c v (finds cell) s h = stored_sits o c v (slice_get cell.values c) s h

  frees_sits : (cs : List ℕ) (access x : ℕ) (s : State) → (bounds forms bodies still own b).frees access ≡ true → (cs ≡ [] → IsOf access s.heap (held named s x)) → Rests forms bodies still own b s
      → AllRest forms bodies still own b (frees_next named types cs access x s)
  frees_sits [] access x s may of h =
      let v = held named s x in
      free_sits forms bodies still own b types shown access x v (standing s.heap v) s
      (λ within. standing_bare forms access s.heap v (of refl) (frees_none forms bodies still own b access may within)) h
  frees_sits (c ∷ cs) access x s may of h = holder_sits forms bodies still own b c cs x (λ last. frame.FreesIn access last) s (λ n. ((may, h.0), h.1))

  branches_sits : (branches : BranchesForm) (s : State) → branches_keep (bounds forms bodies still own b) branches ≡ true → Rests forms bodies still own b s
      → AllRest forms bodies still own b (branches_next named branches s)
  branches_sits (otherwise fs) s may h = ((may, h.0), h.1)
  branches_sits (a_branch e fs branches) s may h =
      ((tt, (and_parts (stmts_keep (bounds forms bodies still own b) fs) (branches_keep (bounds forms bodies still own b) branches) may, h.0)), h.1)

  decided_sits : (fs : StmtsForm) (branches : BranchesForm) (truth : Option Bool) (s : State)
      → (stmts_keep (bounds forms bodies still own b) fs ≡ true) × (branches_keep (bounds forms bodies still own b) branches ≡ true) → Rests forms bodies still own b s
      → AllRest forms bodies still own b (decided_next named fs branches truth s)
  decided_sits fs branches None s may h = tt
  decided_sits fs branches (Some true) s may h = ((may.0, h.0), h.1)
  decided_sits fs branches (Some false) s may h = branches_sits branches s may.1 h

  turn_sits : (condition : Option ExpressionForm) (fs : StmtsForm) (s : State) → stmts_keep (bounds forms bodies still own b) fs ≡ true → Rests forms bodies still own b s
      → AllRest forms bodies still own b (turn_next named condition fs s)
  turn_sits condition no_stmts s may h = tt
  turn_sits condition (a_stmt f fs) s may h = ((may, (may, h.0)), h.1)

  repeats_sits : (condition : Option ExpressionForm) (fs : StmtsForm) (s : State) → stmts_keep (bounds forms bodies still own b) fs ≡ true → Rests forms bodies still own b s
      → AllRest forms bodies still own b (repeats_next named condition fs s)
  repeats_sits None fs s may h = turn_sits None fs s may h
  repeats_sits (Some e) fs s may h = ((tt, (may, h.0)), h.1)

  turned_sits : (e : ExpressionForm) (fs : StmtsForm) (truth : Option Bool) (s : State) → stmts_keep (bounds forms bodies still own b) fs ≡ true
      → Rests forms bodies still own b s → AllRest forms bodies still own b (turned_next named e fs truth s)
  turned_sits e fs None s may h = tt
  turned_sits e fs (Some true) s may h = turn_sits (Some e) fs s may h
  turned_sits e fs (Some false) s may h = h

  count_turn_sits : (x : ℕ) (value last : ℤ) (fs : StmtsForm) (s : State) → stmts_keep (bounds forms bodies still own b) fs ≡ true → Rests forms bodies still own b s
      → AllRest forms bodies still own b (count_turn_next named x value last fs s)
  count_turn_sits x value last no_stmts s may h = tt
  count_turn_sits x value last (a_stmt f fs) s may h = ((may, (may, h.0)), h.1)

  counting_sits : (more : Bool) (x : ℕ) (value last : ℤ) (fs : StmtsForm) (s : State) → stmts_keep (bounds forms bodies still own b) fs ≡ true
      → Rests forms bodies still own b s → AllRest forms bodies still own b (if more then count_turn_next named x value last fs s else moves Quiet s)
  counting_sits true x value last fs s may h = count_turn_sits x value last fs s may h
  counting_sits false x value last fs s may h = h

  ranges_sits : (x : ℕ) (fs : StmtsForm) (low high : Option ℤ) (s : State) → stmts_keep (bounds forms bodies still own b) fs ≡ true → Rests forms bodies still own b s
      → AllRest forms bodies still own b (ranges_next named x fs low high s)
  ranges_sits x fs None high s may h = tt
  ranges_sits x fs (Some low) None s may h = tt
  ranges_sits x fs (Some low) (Some high) s may h = counting_sits (int_le low high) x low high fs s may h

  gets_sits : (cs : List ℕ) (x : ℕ) (input : List ℤ) (s : State) → Rests forms bodies still own b s → AllRest forms bodies still own b (gets_next named cs x input s)
  gets_sits (c ∷ cs) x input s h = holder_sits forms bodies still own b c cs x (λ last. frame.Receives last) s (λ n. ((tt, h.0), h.1))
  gets_sits [] x [] s h = h
  gets_sits [] x (i ∷ is) s h = h

  received_sits : (o : Value) (c : ℕ) (input : List ℤ) (found : Option Value) (s : State) → Rests forms bodies still own b s
      → AllRest forms bodies still own b (received_next named o c input found s)
  received_sits o c input None s h = tt
  received_sits o c [] (Some before) s h = h
  received_sits o c (i ∷ is) (Some before) s h = (h.0, housed_on (filled c (an_integer i)) s.heap o (items_of s.masters) (keeps_filled c (an_integer i)) h.1)

  receive_sits : (o : Value) (c : ℕ) (found : Found (Cell Value)) (s : State) → Rests forms bodies still own b s
      → AllRest forms bodies still own b (receive_next named o c found s)
  receive_sits o c on_null s h = h
  receive_sits o c on_gone s h = tt
  receive_sits o c on_other s h = tt
  receive_sits o c (finds cell) s h = received_sits o c s.input (slice_get cell.values c) s h

  exit_sits : (condition : Option ExpressionForm) (s : State) → Rests forms bodies still own b s → AllRest forms bodies still own b (exit_next named condition s)
  exit_sits None s h = h
  exit_sits (Some e) s h = ((tt, (tt, h.0)), h.1)

  exited_sits : (truth : Option Bool) (s : State) → Rests forms bodies still own b s → AllRest forms bodies still own b (exited_next named truth s)
  exited_sits None s h = tt
  exited_sits (Some true) s h = h
  exited_sits (Some false) s h = h

  -- A call (6.4): its actual parameters are evaluated before its body begins.
  computing_sits : (actuals : List ActualForm) (k : List (Frame Value)) (ms : List Master) → Sits forms bodies still own b k ms → Sits forms bodies still own b (computing named actuals k) ms
  computing_sits [] k ms h = h
  computing_sits (in_value e ∷ rest) k ms h = (tt, computing_sits rest k ms h)
  computing_sits (in_null ∷ rest) k ms h = (refl, computing_sits rest k ms h)
  computing_sits (in_access path ∷ rest) k ms h = (refl, computing_sits rest k ms h)
  computing_sits (in_record p ∷ rest) k ms h = (tt, computing_sits rest k ms h)
  computing_sits (in_out_path path ∷ rest) k ms h = (tt, computing_sits rest k ms h)
  computing_sits (in_out_access path ∷ rest) k ms h = (refl, computing_sits rest k ms h)
  computing_sits (in_out_component path ∷ rest) k ms h = (tt, computing_sits rest k ms h)
  computing_sits (in_out_record p ∷ rest) k ms h = (tt, computing_sits rest k ms h)

  call_sits : (procedure : ℕ) (actuals : List ActualForm) (body : Option BodyForm) (s : State) → slice_get bodies procedure ≡ body → ((called : BodyForm) → body ≡ Some called → BodyFits forms bodies still own b called)
      → Rests forms bodies still own b s → AllRest forms bodies still own b (call_next named procedure actuals body s)
  call_sits procedure actuals None s at_body fit h = tt
  call_sits procedure actuals (Some called) s at_body fit h = (computing_sits actuals (frame.Calls procedure called actuals ∷ s.control) s.masters ((fit called refl, at_body), h.0), h.1)

  -- Statements (5.1).
  stmt_sits : (f : StmtForm) (fs : StmtsForm) (s : State) → stmt_keeps (bounds forms bodies still own b) f ≡ true → FreesIts (frame.Does (a_stmt f fs)) s.activations s.heap → Rests forms bodies still own b s
      → AllRest forms bodies still own b (stmt_next named types bodies f s)
  stmt_sits skips fs s may its h = h
  stmt_sits (assigns target right) fs s may its h = assign_sits target.selectors target.root right s may h
  stmt_sits (assigns_record target items) fs s may its h =
      record_assign_sits forms bodies still own b (has_parts types target.record_type) target items s
      (λ within. no_parts forms types shown target.record_type (assigns_none forms bodies still own b target.record_type may within)) h
  stmt_sits (frees access path) fs s may its h = frees_sits path.selectors access path.root s may its h
  stmt_sits (gets target) fs s may its h = gets_sits target.selectors target.root s.input s h
  stmt_sits (writes e) fs s may its h = ((tt, (tt, h.0)), h.1)
  stmt_sits (writes_text text) fs s may its h = h
  stmt_sits (chooses branches) fs s may its h = branches_sits branches s may h
  stmt_sits (repeats condition gs end_spot) fs s may its h = ((may, h.0), h.1)
  stmt_sits (counts x low high gs end_spot) fs s may its h = ((tt, (tt, (may, h.0))), h.1)
  stmt_sits (exits condition spot) fs s may its h = exit_sits condition s h
  stmt_sits (calls procedure actuals) fs s may its h =
      call_sits procedure actuals (slice_get bodies procedure) s refl (λ called at_body. called_fits b procedure called may at_body) h
  stmt_sits (returns spot) fs s may its h = h
  stmt_sits (raises e) fs s may its h = h
  stmt_sits (encloses ds gs hs) fs s may its h = ((part_keeps forms bodies still own b ds gs hs may, (tt, h.0)), h.1)

  stmts_sits : (fs : StmtsForm) (s : State) → stmts_keep (bounds forms bodies still own b) fs ≡ true → FreesIts (frame.Does fs) s.activations s.heap → Rests forms bodies still own b s
      → AllRest forms bodies still own b (stmts_next named types bodies fs s)
  stmts_sits no_stmts s may its h = h
  stmts_sits (a_stmt f fs) s may its h =
      let both = and_parts (stmt_keeps (bounds forms bodies still own b) f) (stmts_keep (bounds forms bodies still own b) fs) may in
      stmt_sits f fs (at (frame.Does fs ∷ s.control) s) both.0 its ((both.1, h.0), h.1)

  line_sits : (read : Option ℤ) (s : State) → Rests forms bodies still own b s → AllRest forms bodies still own b (line_next named read s)
  line_sits None s h = tt
  line_sits (Some i) s h = h

  -- A record object is made (3.3.1), at once or once its initial value is known.
  record_sits : (x t : ℕ) (initial : Option (List ItemForm)) (s : State) → (bounds forms bodies still own b).creates t ≡ true → IsElaborating forms bodies still own s.control → Rests forms bodies still own b s
      → AllRest forms bodies still own b (record_next named types x t initial s)
  record_sits x t None s may elaborates h = made_sits forms bodies still own b types shown x t Creation (initial_values named (reached_of types t)) s may elaborates h
  record_sits x t (Some items) s may elaborates h = ((tt, ((may, elaborates), h.0)), h.1)

  -- Declarations (3.11).
  declarations_sits : (ds : List DeclarationForm) (fs : StmtsForm) (hs : HandlersForm) (s : State) → PartKeeps forms bodies still own b ds fs hs
      → SitsInside forms bodies still own b s.control s.masters → Housed s.heap (items_of s.masters) → AllRest forms bodies still own b (declarations_next named types ds fs hs s)
  declarations_sits [] fs hs s may h housed = ((may.1.0, (may.1.1, (tt, h))), housed)
  declarations_sits (creates_pool p ∷ ds) fs hs s may h housed =
      let item : Item = record { number = height s.masters; owned = storage_pool p (pools_in s.masters + 1) } in
      (((may.0, may.1), owning_inside forms bodies still own b item s.control s.masters tt h), housed_owning s.heap item s.masters housed)
  declarations_sits (collects access ∷ ds) fs hs s may h housed =
      let both = and_parts ((bounds forms bodies still own b).collects access) (declarations_keep (bounds forms bodies still own b) ds) may.0 in
      let item : Item = record { number = height s.masters; owned = collection access (pool_for (pool_named types access) s.masters) } in
      (((both.1, may.1), owning_inside forms bodies still own b item s.control s.masters both.0 h), housed_owning s.heap item s.masters housed)
  declarations_sits (declares x right ∷ ds) fs hs s may h housed =
      let both = and_parts (right_keeps (bounds forms bodies still own b) right) (declarations_keep (bounds forms bodies still own b) ds) may.0 in
      ((both.0, (tt, ((both.1, may.1), h))), housed)
  declarations_sits (declares_record x t initial ∷ ds) fs hs s may h housed =
      let both = and_parts ((bounds forms bodies still own b).creates t) (declarations_keep (bounds forms bodies still own b) ds) may.0 in
      record_sits x t initial (at (frame.Elaborates ds fs hs ∷ s.control) s) both.0 tt (((both.1, may.1), h), housed)

  -- A record with controlled parts is assigned to another (5.2, 7.6), behind still bodies.
  assigns_sits : (t : ℕ) (target source : Value) (alike : Option Bool) (s : State) → b ≡ false → Rests forms bodies still own b s
      → AllRest forms bodies still own b (assigns_next named types t target source alike s)
  assigns_sits t target source None s outside h = tt
  assigns_sits t target source (Some true) s outside h = h
  assigns_sits t target source (Some false) s outside h =
      let o = whole target in
      let beginning = frame.begins (Adjustment s.next) [] in
      let begun = record_tasks types t PartsFirst (part_base target) in (
        treats_behind forms bodies still own b types fits o (frame.ends (Assigning s.next)) (record_tasks types t WholeFirst (part_base target))
            (frame.Copies (base source) t ∷ frame.StoresRecord o (base target) (width_of types t) ∷ treating o beginning begun s.control) s outside
            (tt, (tt, treats_behind forms bodies still own b types fits o beginning begun s.control s outside h.0)),
        h.1,
      )

  -- Behind the body of a call components get something back (6.4.1).
  pub storing_sits : (references : List Value) (k : List (Frame Value)) (ms : List Master) → Sits forms bodies still own b k ms → Sits forms bodies still own b (storing named references k) ms
  storing_sits [] k ms h = h
  storing_sits (r ∷ rs) k ms h = (tt, storing_sits rs k ms h)

  -- Each frame that is taken off, but those by which a body begins or ends.
  frame_sits : (f : Frame Value) (s : State) → stays_within f ≡ true → Counted (items_of s.masters) → FreesIts f s.activations s.heap → Sits forms bodies still own b (f ∷ s.control) s.masters
      → Housed s.heap (items_of s.masters) → AllRest forms bodies still own b (frame_next named types bodies f s)
  frame_sits (frame.Elaborates ds fs hs) s stays counted its h housed = declarations_sits ds fs hs s h.0 h.1 housed
  frame_sits (frame.Does fs) s stays counted its h housed = stmts_sits fs s h.0 its (h.1, housed)
  frame_sits (frame.Decides fs branches) s stays counted its h housed = decided_sits fs branches (reads_boolean (newest named s)) (popped s) h.0 (h.1, housed)
  frame_sits (frame.Repeats condition fs) s stays counted its h housed = repeats_sits condition fs s h.0 (h.1, housed)
  frame_sits (frame.Turns condition fs) s stays counted its h housed = turned_sits condition fs (reads_boolean (newest named s)) (popped s) h.0 (h.1, housed)
  frame_sits (frame.Ranges x fs) s stays counted its h housed =
      ranges_sits x fs (reads_integer (newest named (popped s))) (reads_integer (newest named s)) (popped (popped s)) h.0 (h.1, housed)
  frame_sits (frame.Counts x value last fs) s stays counted its h housed = counting_sits (int_le value last) x value last fs s h.0 (h.1, housed)
  frame_sits frame.Exits s stays counted its h housed = exited_sits (reads_boolean (newest named s)) (popped s) (h.1, housed)
  frame_sits (frame.Handles hs) s stays counted its h housed = (h.1, housed)
  frame_sits frame.Closes s stays counted its h housed = ((tt, h.1), housed)
  frame_sits (frame.Leaves mode) s stays counted its h housed = leave_sits forms bodies still own b types shown mode s.masters s counted h.1 housed
  frame_sits (frame.Calls procedure called actuals) s stays counted its h housed = absurd (cc stays)
  frame_sits (frame.Returns actuals references) s stays counted its h housed = absurd (cc stays)
  frame_sits (frame.Evaluates right) s stays counted its h housed = right_sits forms bodies still own b types shown right s h.0 (h.1, housed)
  frame_sits (frame.Computes e) s stays counted its h housed = expression_sits forms bodies still own b e s (h.1, housed)
  frame_sits (frame.Follows cs) s stays counted its h housed = path_sits forms bodies still own b cs (newest named s) (popped s) (h.1, housed)
  frame_sits (frame.TestsNull equal) s stays counted its h housed = null_test_sits forms bodies still own b equal (reads_null (newest named s)) (popped s) (h.1, housed)
  frame_sits (frame.Refers p) s stays counted its h housed =
      record_holder_sits forms bodies still own b p (λ place. frame.RefersIn place p.record_type) s (λ place. ((tt, h.1), housed))
  frame_sits (frame.RefersIn place t) s stays counted its h housed =
      refers_sits forms bodies still own b (newest named s) place (width_of types t) (look s.heap (newest named s)) (popped s) (h.1, housed)
  frame_sits (frame.Opens path) s stays counted its h housed = open_sits forms bodies still own b path.selectors path.root s (h.1, housed)
  frame_sits (frame.OpensIn c) s stays counted its h housed = opens_sits forms bodies still own b (newest named s) c (look s.heap (newest named s)) (popped s) (h.1, housed)
  frame_sits (frame.Continues links) s stays counted its h housed = links_sits forms bodies still own b links s (h.1, housed)
  frame_sits (frame.Applies operator) s stays counted its h housed =
      outcome_sits forms bodies still own b (binary_given operator (newest named (popped s)) (newest named s)) (popped (popped s)) (h.1, housed)
  frame_sits (frame.AppliesAlone operator) s stays counted its h housed =
      outcome_sits forms bodies still own b (unary_given operator (newest named s)) (popped s) (h.1, housed)
  frame_sits (frame.Fills items) s stays counted its h housed = items_sits forms bodies still own b items s (h.1, housed)
  frame_sits (frame.Copies first t) s stays counted its h housed =
      copies_sits forms bodies still own b (newest named s) first (width_of types t) (look s.heap (newest named s)) (popped s) (h.1, housed)
  frame_sits (frame.Creates access count) s stays counted its h housed =
      new_sits forms bodies still own b types shown access count (words_of types access) (home_of access s.masters) s refl h.0 (h.1, housed)
  frame_sits (frame.Stores x) s stays counted its h housed = (h.1, housed)
  frame_sits (frame.Declares x) s stays counted its h housed =
      let item : Item = record { number = height s.masters; owned = declared x } in
      (owning_sits forms bodies still own b item s.control s.masters tt tt h.1, housed_owning s.heap item s.masters housed)
  frame_sits (frame.Treats v treatment tasks) s stays counted its h housed = absurd (cc stays)
  frame_sits (frame.Awaits v by done of part tasks) s stays counted its h housed = absurd (cc stays)
  frame_sits frame.Confines s stays counted its h housed = (h.1, housed)
  frame_sits (frame.Resumes mode) s stays counted its h housed = (h.1, housed)
  frame_sits frame.Writes s stays counted its h housed = line_sits (reads_integer (newest named s)) (popped s) (h.1, housed)
  frame_sits (frame.Ends v) s stays counted its h housed = end_sits forms bodies still own b v (look s.heap v) s (h.1, housed)
  frame_sits (frame.GivesBack v cause pool) s stays counted its h housed = back_sits forms bodies still own b v cause pool (lent s.heap v) s (h.1, housed)
  frame_sits (frame.Clears x) s stays counted its h housed = (h.1, housed)
  frame_sits (frame.Targets c right) s stays counted its h housed = target_sits (newest named s) c right (look s.heap (newest named s)) (popped s) h.0 (h.1, housed)
  frame_sits (frame.StoresIn o c) s stays counted its h housed = store_sits o c (newest named s) (look s.heap o) (popped s) (h.1, housed)
  frame_sits (frame.TargetsRecord first t items) s stays counted its h housed =
      record_target_sits forms bodies still own b (newest named s) first (width_of types t) items (look s.heap (newest named s)) (popped s) (h.1, housed)
  frame_sits (frame.StoresRecord o first count) s stays counted its h housed = store_record_sits forms bodies still own b o first count (look s.heap o) s (h.1, housed)
  frame_sits (frame.Assigns t) s stays counted its h housed =
      assigns_sits t (newest named (popped s)) (newest named s) (same (newest named (popped s)) (newest named s)) (popped (popped s)) h.0 (h.1, housed)
  frame_sits (frame.DeclaresRecord x t) s stays counted its h housed =
      made_sits forms bodies still own b types shown x t Copy (newest_ones named (words_of types t) s) (without_newest named (words_of types t) s) h.0.0 h.0.1 (h.1, housed)
  frame_sits (frame.Receives c) s stays counted its h housed = receive_sits (newest named s) c (look s.heap (newest named s)) (popped s) (h.1, housed)
  frame_sits (frame.FreesIn access c) s stays counted its h housed =
      free_in_sits forms bodies still own b types shown access (newest named s) c (look s.heap (newest named s)) (popped s)
      (λ cell v found there within.
      let holder = look_there s.heap (newest named s) cell found in
      standing_bare forms access s.heap v (its holder.0 holder.1 v holder.2 holder.3 (subst (λ (d : Cell Value). slice_get d.values c ≡ Some v) (sym holder.4) there))
      (frees_none forms bodies still own b access h.0 within)) (h.1, housed)
  frame_sits (frame.ClearsIn o c) s stays counted its h housed = store_sits o c Null (look s.heap o) s (h.1, housed)

  -- So it is in still bodies or behind them.
  some : (coming : Next) → AllRest forms bodies still own b coming → AllSome forms bodies still own coming
  some coming all = all_next (Rests forms bodies still own b) (SomeRests forms bodies still own) (λ s h. (b, h)) coming all

  -- The body of a call comes to its end (6.5).
  returned_sits : (actuals : List ActualForm) (references : List Value) (s : State) → Sits forms bodies still own b (frame.Returns actuals references ∷ s.control) s.masters
      → Housed s.heap (items_of s.masters) → SomeRests forms bodies still own (returned named actuals references s)
  returned_sits actuals references s (may, inl h) housed = (b, (storing_sits references s.control s.masters h, housed))
  returned_sits actuals references s (may, inr h) housed = (false, (storing_behind references s.control h.1, housed))
    where
      storing_behind : (rs : List Value) (k : List (Frame Value)) → Sits forms bodies still own false k s.masters → Sits forms bodies still own false (storing named rs k) s.masters
      storing_behind [] k g = g
      storing_behind (r ∷ rs) k g = (tt, storing_behind rs k g)

  resumed_sits : (actuals : List ActualForm) (references : List Value) (s : State) → Sits forms bodies still own b (frame.Returns actuals references ∷ s.control) s.masters
      → Housed s.heap (items_of s.masters) → SomeRests forms bodies still own (resumed s)
  resumed_sits actuals references s (may, inl h) housed = (b, (h, housed))
  resumed_sits actuals references s (may, inr h) housed = (false, (h.1, housed))

  -- Each frame that is taken off.
  frame_some : (f : Frame Value) (s : State) → Counted (items_of s.masters) → FreesIts f s.activations s.heap → Sits forms bodies still own b (f ∷ s.control) s.masters
      → Housed s.heap (items_of s.masters) → AllSome forms bodies still own (frame_next named types bodies f s)
  frame_some (frame.Calls procedure called actuals) s counted its h housed =
      let vs = newest_ones named (operand_count actuals) s in
      let begun = body_begins forms bodies still own b called actuals (references_in actuals vs) s.control s.next s.masters h.0.0 h.1 in
      (begun.0, (begun.1, housed))
  frame_some (frame.Returns actuals references) s counted its h housed = returned_sits actuals references s h housed
  frame_some (frame.Treats v treatment tasks) s counted its h housed = treats_sits forms bodies still own b types fits v treatment tasks (task_next tasks) s h.0 (h.1, housed)
  frame_some (frame.Awaits v by done of part tasks) s counted its h housed =
      awaited_sits forms bodies still own b types fits v by done of part tasks (look s.heap v) s h.0 (h.1, housed)
  frame_some f s counted its h housed = some (frame_next named types bodies f s) (frame_sits f s refl counted its h housed)

  -- A jump: what it passes, and where it lands (11.4).
  abbrev LandsWell : Landing Value → Type 0
  LandsWell passes_on = Unit {0}
  LandsWell goes_behind = Unit {0}
  LandsWell (goes_in fs) = stmts_keep (bounds forms bodies still own b) fs ≡ true
  LandsWell (breaks_off v by done) = b ≡ false
  LandsWell escapes = Unit {0}

  handler_lands : (takes : Bool) (fs : StmtsForm) (later : Option StmtsForm) → stmts_keep (bounds forms bodies still own b) fs ≡ true → LandsWell (handler_landing later)
      → LandsWell (handler_landing (if takes then Some fs else later))
  handler_lands true fs later one more = one
  handler_lands false fs later one more = more

  handlers_land : (e : Exception) (hs : HandlersForm) → handlers_keep (bounds forms bodies still own b) hs ≡ true → LandsWell (handler_landing (handler_of e hs))
  handlers_land e no_handlers may = tt
  handlers_land e (a_handler choices fs hs) may =
      let both = and_parts (stmts_keep (bounds forms bodies still own b) fs) (handlers_keep (bounds forms bodies still own b) hs) may in
      handler_lands (some_takes e choices) fs (handler_of e hs) both.0 (handlers_land e hs both.1)

  none_lands : (f : Frame Value) → Holds forms bodies still own b f → LandsWell (operation_landing f)
  none_lands (frame.Awaits v by done of part tasks) may = may
  none_lands frame.Confines may = tt
  none_lands f may = tt

  exit_lands : (ends_here : Bool) (otherwise_at : Landing Value) → LandsWell otherwise_at → LandsWell (if ends_here then goes_behind else otherwise_at)
  exit_lands true otherwise_at lands = tt
  exit_lands false otherwise_at lands = lands

  raised_lands : (e : Exception) (f : Frame Value) → Holds forms bodies still own b f → LandsWell (landing (Raising e) f)
  raised_lands e (frame.Handles hs) may = handlers_land e hs may
  raised_lands e f may = none_lands f may

  lands : (mode : Mode) (f : Frame Value) → Holds forms bodies still own b f → LandsWell (landing mode f)
  lands Running f may = tt
  lands (Raising e) f may = raised_lands e f may
  lands Exiting f may = exit_lands (is_loop f) (operation_landing f) (none_lands f may)
  lands Returning f may = exit_lands (is_return f) (operation_landing f) (none_lands f may)

  landed_some : (l : Landing Value) (mode : Mode) (s : State) → LandsWell l → Rests forms bodies still own b s → AllSome forms bodies still own (landed named l mode s)
  landed_some passes_on mode s lands h = (b, h)
  landed_some goes_behind mode s lands h = (b, h)
  landed_some (goes_in no_stmts) mode s lands h = tt
  landed_some (goes_in (a_stmt f fs)) mode s lands h = (b, ((lands, h.0), h.1))
  landed_some (breaks_off v by done) mode s lands h = broken_off_sits forms bodies still own b types fits mode v by done s lands h
  landed_some escapes mode s lands h = tt

  -- A frame that is no master's and no call's.
  pass_some : (f : Frame Value) (mode : Mode) (s : State) → passes_plainly f ≡ true → Holds forms bodies still own b f → Rests forms bodies still own b s
      → AllSome forms bodies still own (pass_next named (is_master f) (landing mode f) mode s)
  pass_some f mode s plain may h = by (is_master f) refl
    where
      by : (master : Bool) → is_master f ≡ master → AllSome forms bodies still own (pass_next named master (landing mode f) mode s)
      by true is = absurd (master_stops f plain is)
      by false is = landed_some (landing mode f) mode s (lands mode f may) h

  -- A jump comes to the end of a call's body: what is behind it goes on.
  ended_some : (mode : Mode) (actuals : List ActualForm) (references : List Value) (s : State) → Sits forms bodies still own b (frame.Returns actuals references ∷ s.control) s.masters
      → Housed s.heap (items_of s.masters) → AllSome forms bodies still own (jump_next named mode (frame.Returns actuals references ∷ s.control) s)
  ended_some Running actuals references s h housed = resumed_sits actuals references s h housed
  ended_some (Raising e) actuals references s h housed = resumed_sits actuals references s h housed
  ended_some Exiting actuals references s h housed = resumed_sits actuals references s h housed
  ended_some Returning actuals references s h housed = returned_sits actuals references s h housed

  -- It goes on (11.4), while no master is being left.
  jump_some : (mode : Mode) (k : List (Frame Value)) (s : State) → leaves_first k ≡ false → Sits forms bodies still own b k s.masters → Housed s.heap (items_of s.masters)
      → AllSome forms bodies still own (jump_next named mode k s)
  jump_some mode [] s none h housed = tt
  jump_some mode (frame.Elaborates ds fs hs ∷ k) s none h housed = (b, ((tt, h.1), housed))
  jump_some mode (frame.Closes ∷ k) s none h housed = (b, ((tt, h.1), housed))
  jump_some mode (frame.Leaves then_on ∷ k) s none h housed = absurd (cc none)
  jump_some mode (frame.Returns actuals references ∷ k) s none h housed = ended_some mode actuals references (at k s) h housed
  jump_some mode (frame.DeclaresRecord x t ∷ k) s none h housed = pass_some (frame.DeclaresRecord x t) mode (at k s) refl tt (h.1, housed)
  jump_some mode (f ∷ k) s none h housed = pass_some f mode (at k s) refl h.0 (h.1, housed)

  running_some : (k : List (Frame Value)) (s : State) → Counted (items_of s.masters) → FirstFreesIts k s.activations s.heap → Sits forms bodies still own b k s.masters → Housed s.heap (items_of s.masters)
      → AllSome forms bodies still own (running_next named types bodies k s)
  running_some [] s counted its h housed = tt
  running_some (f ∷ k) s counted its h housed = frame_some f (at k s) counted its h housed

  pub mode_some : (mode : Mode) (s : State) → Counted (items_of s.masters) → (leaves_first s.control ≡ true → mode ≡ Running) → (mode ≡ Running → FirstFreesIts s.control s.activations s.heap)
      → Rests forms bodies still own b s → AllSome forms bodies still own (mode_next named types bodies mode s)
  mode_some Running s counted leaving its h = running_some s.control s counted (its refl) h.0 h.1
  mode_some (Raising e) s counted leaving its h = jump_some (Raising e) s.control s (not_first s.control (λ first. cc (leaving first))) h.0 h.1
  mode_some Exiting s counted leaving its h = jump_some Exiting s.control s (not_first s.control (λ first. cc (leaving first))) h.0 h.1
  mode_some Returning s counted leaving its h = jump_some Returning s.control s (not_first s.control (λ first. cc (leaving first))) h.0 h.1

-- Each step leads to still bodies or behind them, whatever comes next.
pub next_some : (forms : List TypeForm) (bodies : List BodyForm) (still own : ℕ → Bool) (b : Bool) (types : List TypeDefinition) → map type_form types ≡ forms → ((procedure : ℕ) (body : BodyForm) → slice_get bodies procedure ≡ Some body → BodyFits forms bodies still own false body)
    → ((procedure : ℕ) (body : BodyForm) → slice_get bodies procedure ≡ Some body → still procedure ≡ true → body_keeps (still_bounds forms still) body ≡ true)
    → (s : State) → Counted (items_of s.masters) → (leaves_first s.control ≡ true → s.mode ≡ Running) → (s.mode ≡ Running → FirstFreesIts s.control s.activations s.heap)
    → Rests forms bodies still own b s → AllSome forms bodies still own (next types bodies s)
unfolding next
next_some forms bodies still own b types shown fits keeps s counted leaving its h = mode_some forms bodies still own b types shown fits keeps s.mode s counted leaving its h
