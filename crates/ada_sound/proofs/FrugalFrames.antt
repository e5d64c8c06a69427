-- A frugal body (7.6, 7.6.1, 13.11.2) comes to what is left of an expression, an assignment, an allocator, a Free, a declaration, a call or a statement:
-- nothing is treated next but an object that is freed or undone, or whose master is left, or a new one that begins (4.8, 3.3.1), and what is called is frugal,
-- too (6.4).

use Rattle.ada_meaning.specs.declared.state.Id.{Id}
use Rattle.std.proofs.Common.{◌≡◌, ℕ, Bool, true, false, List, [], ◌∷◌, ◌++◌, refl, sym, ◌∙◌, subst, ◌⊎◌, inl, inr}
use Rattle.std.specs.Prelude.{ℤ, map, Option, Some, None, is_some, drop, Result, Ok, Err, not, ◌&&◌, ◌||◌, ◌==◌, int_le, if◌then◌else◌}
use Rattle.std.specs.List.{slice_get, slice_index_or}
use Rattle.ada_program.specs.Typed.{words_of, width_of}
use Rattle.ada_program.specs.WellFormed.{finalization_of}
use Rattle.ada_values.specs.declared.operator.BinaryOperator.{BinaryOperator}
use Rattle.ada_values.specs.declared.fault.OperatorFault.{OperatorFault}
use Rattle.ada_values.specs.declared.fault.OperatorFault.TheVariants.{Overflow, DivisionByZero, WrongType}
use Rattle.ada_program.specs.declared.program.Exception.{Exception}
use Rattle.ada_program.specs.declared.program.Exception.TheVariants.{ConstraintError, StorageError, EndError}
use Rattle.ada_program.specs.declared.program.TypeDefinition.{TypeDefinition}
use Rattle.ada_program.specs.Form.{RecordPathForm, ActualForm, in_value, in_null, in_access, in_record, in_out_path, in_out_access, in_out_component, in_out_record, ExpressionForm, integer, boolean, reads, is_null, applied_to, chained, LinksForm, no_more_links, a_link, ItemForm, null_item, item_of_path, item_of_value, item_of_record, RightForm, nothing, value_of, allocates, allocates_default, computes, StmtForm, skips, assigns, assigns_record, frees, gets, writes, writes_text, chooses, repeats, counts, exits, calls, returns, raises, encloses, StmtsForm, no_stmts, a_stmt, BranchesForm, otherwise, a_branch, HandlersForm, DeclarationForm, creates_pool, collects, declares, declares_record}
use Rattle.ada_program.specs.ProgramForm.{BodyForm}
use Rattle.ada_parts.specs.declared.tasks.Direction.TheVariants.{PartsFirst, WholeFirst}
use Rattle.ada_parts.specs.Part.{Part}
use Rattle.ada_parts.specs.Task.{Task}
use Rattle.ada_meaning.specs.declared.event.Cause.{Cause}
use Rattle.ada_meaning.specs.declared.event.Cause.TheVariants.{Assigning, Freeing, Leaving, Undoing}
use Rattle.ada_meaning.specs.declared.event.Halt.TheVariants.{Erroneous}
use Rattle.ada_meaning.specs.declared.event.Why.TheVariants.{GivesElsewhere}
use Rattle.ada_meaning.specs.declared.event.Birth.{Birth}
use Rattle.ada_meaning.specs.declared.event.Birth.TheVariants.{Creation, Copy, Adjustment}
use Rattle.ada_meaning.specs.declared.state.Place.{Place}
use Rattle.ada_meaning.specs.declared.state.Value.{Value}
use Rattle.ada_meaning.specs.declared.state.Value.TheVariants.{Null, Names, Scalar, Part as Inside}
use Rattle.ada_meaning.specs.declared.state.Mode.{Mode}
use Rattle.ada_meaning.specs.declared.state.Mode.TheVariants.{Running, Raising, Exiting, Returning}
use Rattle.ada_meaning.specs.Event.{Event, Followed, Quiet}
use Rattle.ada_meaning.specs.Heap.{Cell, Found, on_null, on_gone, on_other, finds, PartState}
use Rattle.std.proofs.lemmas.Bool.{eq-eqb, or_right, or_cases, and_parts}
use Rattle.ada_parts.specs.Task.{performs}
use Rattle.ada_meaning.specs.Frame.{Frame, Elaborates, Leaves, Resumes, Calls, TestsNull, RefersIn, OpensIn, Fills, Copies, Targets, Receives, FreesIn, Declares, DeclaresRecord, Ends, GivesBack, Clears, ClearsIn, Confines, TargetsRecord, StoresRecord, begins, ends}
use Rattle.ada_meaning.specs.State.{Activation, Item, Master, Owned, declared, collection, record_object, storage_pool, Destination, height, home_of, pool_freed_to}
use Rattle.ada_meaning.specs.Step.{copy_next, assigning, assigns_next, record_tasks, undone, undo_next, broken_next, first_or, older, places_of, operands_of, with_operands, begun, record_holder_next, referred_next, refers_next, open_next, opened_next, opens_next, storing, returned, computing, call_next, entered, all_tasks, made, halts, moves, same_pool, raised, jumping, computed, put, owned, at, reading, component_next, follow_next, path_next, selected, named_next, before_last, last_of, holder_next, expression_next, null_test_next, is_decided, link_next, links_next, outcome_next, place_in, record_in, item_next, items_next, copied_next, copies_next, answered, new_next, right_next, freeing, freeing_next, free_next, end_next, told_back, given_back, back_next, assign_next, target_next, stored_next, store_next, record_target_next, record_stored_next, newest_ones, store_record_next, record_assign_next, has_parts, frees_next, freed_next, free_component_next, free_in_next, branches_next, decided_next, turn_next, repeats_next, turned_next, count_turn_next, counts_next, ranges_next, gets_next, received_next, receive_next, exit_next, exited_next, stmt_next, line_next, declarations_next, leave_next, master_leave_next, item_leave_next, granted, new_cell, born_next, awaited_next, taken_out, members_next, treating}
use Rattle.ada_meaning.specs.Named.{Object, State, Next, named, whole, look, standing, created, members}
use Rattle.ada_quiet.specs.Bare.{has_bare_objects}
use Rattle.ada_finalized.specs.Law.{NoOperationRunsOn}
use Rattle.ada_owners.proofs.Objects.{next_id}
use Rattle.ada_scopes.specs.Scopes.{is_innermost, is_number_of}
use Rattle.ada_sound.proofs.Allowance.{Allowance, fills_parts, is_unadjusted, is_unfinalized, may_assign, may_treat, allocates_thriftily, is_thrifty_declaration, are_thrifty_declarations, is_thrifty_stmt, are_thrifty, are_thrifty_branches, are_thrifty_handlers, is_thrifty_body, thrifty_parts, is_inert}
use Rattle.ada_sound.proofs.Fits.{place_at}
use Rattle.ada_sound.proofs.Invariant.{Control}
use Rattle.ada_sound.proofs.OperationStarts.{apart}
use Rattle.ada_sound.proofs.FrugalControl.{AreKnown, AreOwnedBy, BeginsThere, FrugalBegins, FrugalLeads, FrugalLeaves, Frugally, GoesFrugally, IsLeft, IsOwnedBy, MayLeave, RecordIsInside, adjusting_frugal, assigned_parts, assigned_with, beginning_frugal, finalizing_frugal, more_leads, own_in, own_treating, storing_frugal, treating_leads, treating_leaves, with_variable, replaced_in, AdjustsThere}
use Rattle.ada_sound.proofs.FrugalFrees.{RecordIsBare, IsFreely, StmtIsFreely, IsNewly, LeftAlone, Unborn, past_unborn}
use Rattle.ada_sound.proofs.Stored.{IsTaken, taken_is}

-- Nothing is to be done for a record object with an initial value (3.3.1), or it is adjusted where no Adjust tracks, or where none is called (7.6).
abbrev pub IsFilled : Allowance → List Task → Type 0
IsFilled allowance tasks =
    (tasks ≡ []) ⊎ ((allowance.untracked ≡ true) ⊎ ((allowance.treats_parts ≡ true) × AreKnown allowance.types allowance.unadjusted tasks))

-- What bodies may create they may undo, where an exception comes out of its initialization (7.6.1).
abbrev pub EndsCreated : Allowance → Type 0
EndsCreated allowance = allowance.objects ≡ true → allowance.treats_parts ≡ true

-- A master that is left goes on being left.
pub may_leave : (k : Control) → MayLeave Running k
may_leave [] = refl
may_leave (Confines ∷ k) = tt
may_leave (f ∷ k) = refl

-- The newest item has its number among all.
first_number : (n : ℕ) (others : Bool) → ((n == n) || others) ≡ true
first_number n others = rw (eq-eqb n n refl) refl

module _ (frugal : Allowance) (lower : List Master) (behind : Control) (among : List Value) (tds : List TypeDefinition) (bodies : List BodyForm) (s : State) where
  abbrev pub Fine : Next → Type 0
  Fine n = GoesFrugally frugal lower behind among n

  abbrev pub Goes : State → Type 0
  Goes after = Frugally frugal lower behind among after

  -- The state in which a frame has been taken off, with these activations, before this, in these masters of the body.
  abbrev pub now : List (Activation Value) → Control → List Master → State
  now all k ms = record s { mode = Running; control = k; activations = all; masters = ms ++ lower }

  -- And in which an exception goes on.
  abbrev pub jumping_in : Exception → List (Activation Value) → Control → List Master → State
  jumping_in e all k ms = record s { mode = Raising e; control = k; activations = all; masters = ms ++ lower }

  -- Without the newest operand.
  abbrev pub without : List (Activation Value) → List (Activation Value)
  without all = with_operands (older (operands_of all)) all

  module _ (ms : List Master) where
    abbrev pub Left : Control → Type 0
    Left k = FrugalLeads frugal behind among k ms

    -- It runs on.
    pub on : (after : State) → after.masters ≡ ms ++ lower → Left (after.control) → Goes after
    on after masters q = record { upper = ms; masters = masters; frugally = inl q }

    -- A value is there.
    pub computes_on : (v : Value) (all : List (Activation Value)) → (k : Control) → Left k → Goes (computed v (now all k ms))
    computes_on v all k q = on (computed v (now all k ms)) refl q

    -- A jump begins.
    pub jumps_on : (m : Mode) (all : List (Activation Value)) → (k : Control) → Left k → Goes (jumping m (now all k ms))
    jumps_on m all k q = on (jumping m (now all k ms)) refl q

    raises_on : (e : Exception) (all : List (Activation Value)) → (k : Control) → Left k → Goes (raised e (now all k ms))
    raises_on e all k q = jumps_on (Raising e) all k q

    -- Paths.
    reading_on : (cs : List ℕ) (v : Value) (all : List (Activation Value)) → (k : Control) → Left k → Goes (reading named cs v (now all k ms))
    reading_on [] v all k q = computes_on v all k q
    reading_on (c ∷ cs) v all k q = on _ refl (tt, q)

    component_on : (o : Value) (cs : List ℕ) (found : Option Value) (all : List (Activation Value)) → (k : Control) → Left k → Fine (component_next named o cs found (now all k ms))
    component_on o cs None all k q = tt
    component_on o cs (Some v) all k q = reading_on cs v all k q

    follow_on : (o : Value) (c : ℕ) (cs : List ℕ) (found : Found (Cell Value)) (all : List (Activation Value)) → (k : Control) → Left k → Fine (follow_next named o c cs found (now all k ms))
    follow_on o c cs on_null all k q = raises_on ConstraintError all k q
    follow_on o c cs on_gone all k q = tt
    follow_on o c cs on_other all k q = tt
    follow_on o c cs (finds cell) all k q = component_on o cs (slice_get cell.values c) all k q

    pub path_on : (cs : List ℕ) (v : Value) (all : List (Activation Value)) → (k : Control) → Left k → Fine (path_next named cs v (now all k ms))
    path_on [] v all k q = computes_on v all k q
    path_on (c ∷ cs) v all k q = follow_on v c cs (look s.heap v) all k q

    named_on : (cs : List ℕ) (x : ℕ) (all : List (Activation Value)) → (k : Control) → Left k → Fine (named_next named cs x (now all k ms))
    named_on cs x all k q = path_on (selected named (place_at (places_of all) x) cs) (whole (place_at (places_of all) x)) all k q

    holder_on : (c : ℕ) (cs : List ℕ) (x : ℕ) (frame_of : ℕ → Frame Value) (all : List (Activation Value)) → (k : Control) → ((last : ℕ) → Left (frame_of last ∷ k)) → Fine (holder_next named c cs x frame_of (now all k ms))
    holder_on c cs x frame_of all k q =
        path_on (before_last (named.inside (place_at (places_of all) x) c) cs) (whole (place_at (places_of all) x)) all (frame_of (last_of (named.inside (place_at (places_of all) x) c) cs) ∷ k)
        (q (last_of (named.inside (place_at (places_of all) x) c) cs))

    -- Expressions.
    pub expression_on : (e : ExpressionForm) (all : List (Activation Value)) → (k : Control) → Left k → Fine (expression_next named e (now all k ms))
    expression_on (integer i) all k q = computes_on (named.integer i) all k q
    expression_on (boolean b) all k q = computes_on (named.boolean b) all k q
    expression_on (reads path) all k q = named_on path.selectors path.root all k q
    expression_on (is_null equal path) all k q = named_on path.selectors path.root all (TestsNull equal ∷ k) (tt, q)
    expression_on (applied_to operator e) all k q = on _ refl (tt, (tt, q))
    expression_on (chained e links) all k q = on _ refl (tt, (tt, q))

    pub null_test_on : (equal : Bool) (null : Option Bool) (all : List (Activation Value)) → (k : Control) → Left k → Fine (null_test_next named equal null (now all k ms))
    null_test_on equal None all k q = tt
    null_test_on true (Some null) all k q = computes_on _ all k q
    null_test_on false (Some null) all k q = computes_on _ all k q

    link_on : (decided : Bool) (operator : BinaryOperator) (e : ExpressionForm) (links : LinksForm) (all : List (Activation Value)) → (k : Control) → Left k → Fine (link_next named decided operator e links (now all k ms))
    link_on true operator e links all k q = on _ refl (tt, q)
    link_on false operator e links all k q = on _ refl (tt, (tt, (tt, q)))

    pub links_on : (links : LinksForm) (all : List (Activation Value)) → (k : Control) → Left k → Fine (links_next named links (now all k ms))
    links_on no_more_links all k q = on _ refl q
    links_on (a_link operator e links) all k q = link_on (is_decided named operator (named.reads_boolean (first_or Null (operands_of all)))) operator e links all k q

    pub outcome_on : (r : Result Value OperatorFault) (all : List (Activation Value)) → (k : Control) → Left k → Fine (outcome_next named r (now all k ms))
    outcome_on (Ok v) all k q = computes_on v all k q
    outcome_on (Err Overflow) all k q = raises_on ConstraintError all k q
    outcome_on (Err DivisionByZero) all k q = raises_on ConstraintError all k q
    outcome_on (Err WrongType) all k q = tt

    -- What is assigned.
    pub right_on : (right : RightForm) → allocates_thriftily frugal right ≡ true → (all : List (Activation Value)) → (k : Control) → Left k → Fine (right_next named tds right (now all k ms))
    right_on nothing bare all k q = computes_on _ all k q
    right_on (value_of path) bare all k q = named_on path.selectors path.root all k q
    right_on (allocates access items) bare all k q = on _ refl (tt, (or_right frugal.objects (has_bare_objects frugal.types access) bare, q))
    right_on (allocates_default access) bare all k q = on _ refl (bare, q)
    right_on (computes e) bare all k q = on _ refl (tt, q)

    -- The items of an allocator, and what is copied for them.
    item_on : (i : ItemForm) (all : List (Activation Value)) → (k : Control) → Left k → Fine (item_next named i (now all k ms))
    item_on null_item all k q = computes_on _ all k q
    item_on (item_of_path path) all k q = named_on path.selectors path.root all k q
    item_on (item_of_value e) all k q = on _ refl (tt, q)
    item_on (item_of_record p) all k q =
        let v = place_at (places_of all) p.object.root in
        path_on (selected named v p.object.selectors) (whole v) all (Copies (place_in named v p.object.selectors p).component p.record_type ∷ k) (tt, q)

    pub items_on : (items : List ItemForm) (all : List (Activation Value)) → (k : Control) → Left k → Fine (items_next named items (now all k ms))
    items_on [] all k q = on _ refl q
    items_on (i ∷ is) all k q = item_on i all (Fills is ∷ k) (tt, q)

    copied_on : (o : Value) (found : Option (List Value)) (all : List (Activation Value)) → (k : Control) → Left k → Fine (copied_next named o found (now all k ms))
    copied_on o None all k q = tt
    copied_on o (Some vs) all k q = on _ refl q

    pub copies_on : (o : Value) (first count : ℕ) (found : Found (Cell Value)) (all : List (Activation Value)) → (k : Control) → Left k → Fine (copies_next named o first count found (now all k ms))
    copies_on o first count on_null all k q = raises_on ConstraintError all k q
    copies_on o first count on_gone all k q = tt
    copies_on o first count on_other all k q = tt
    copies_on o first count (finds cell) all k q = copied_on o (record_in cell.values first count) all k q

    -- A pool is asked for a new object, for which nothing is to be done, or that begins.
    granted_on : (access count words : ℕ) (home : Destination) (all : List (Activation Value)) → (k : Control) → IsNewly frugal tds access s.heap k → Left k → Goes (granted named tds access count words home (now all k ms))
    granted_on access count words home all k (inl none) q = rw none (on _ refl q)
    granted_on access count words home all k (inr (may, alone)) q = record {
      upper = ms;
      masters = refl;
      frugally = beginning_frugal frugal behind among (created s.heap words) Creation [] (all_tasks tds access PartsFirst) k ms (tt, may, alone) q;
    }
      where
        cell : Cell Value
        cell = new_cell named tds access count home (now all k ms)

    answered_on : (access count words : ℕ) (home : Destination) (all : List (Activation Value)) → (k : Control) → IsNewly frugal tds access s.heap k → Left k → (granting : Bool) → Goes (answered named tds access count words home (now all k ms) granting)
    answered_on access count words home all k new q true = granted_on access count words home all k new q
    answered_on access count words home all k new q false = raises_on StorageError all k q

    pub new_on : (access count words : ℕ) (home : Option Destination) (all : List (Activation Value)) → (k : Control) → IsNewly frugal tds access s.heap k → Left k → Fine (new_next named tds access count words home (now all k ms))
    new_on access count words None all k new q = raises_on StorageError all k q
    new_on access count words (Some home) all k new q = answered_on access count words home all k new q

    -- The Initialize of a part has come to its end: the object goes on beginning.
    born_on : (v : Value) (by : Birth) (done : List Part) (of part : ℕ) (tasks : List Task) (found : Option PartState) (all : List (Activation Value)) → (k : Control) → BeginsThere frugal v by k → Left k → Fine (born_next named v by done of part tasks found (now all k ms))
    born_on v by done of part tasks None all k beginning q = tt
    born_on v by done of part tasks (Some p) all k beginning q = record {
      upper = ms;
      masters = refl;
      frugally = beginning_frugal frugal behind among v by (record { of = of; number = part } ∷ done) tasks k ms beginning q;
    }

    pub awaited_on : (v : Value) (by : Birth) (done : List Part) (of part : ℕ) (tasks : List Task) (found : Found (Cell Value)) (all : List (Activation Value)) → (k : Control) → BeginsThere frugal v by k → Left k → Fine (awaited_next named v by done of part tasks found (now all k ms))
    awaited_on v by done of part tasks on_null all k beginning q = tt
    awaited_on v by done of part tasks on_gone all k beginning q = tt
    awaited_on v by done of part tasks on_other all k beginning q = tt
    awaited_on v by done of part tasks (finds cell) all k beginning q = born_on v by done of part tasks (slice_get cell.parts part) all k beginning q

    -- An exception has come out of it: what has begun is finalized, the object ends, and the exception goes on (7.6.1).
    undone_on : EndsCreated frugal → (e : Exception) (v : Value) (by : Birth) (done : List Part) (cell : Cell Value) (all : List (Activation Value)) → (k : Control) → BeginsThere frugal v by k → Left k → Goes (undone named e v done cell (jumping_in e all k ms))
    undone_on ends_created e v by done cell all k beginning q =
        on _ refl
        (treating_leads frugal behind among v (ends (Undoing s.next)) (map (λ p. performs p.of p.number) done)
        (Ends v ∷ GivesBack v (Undoing s.next) cell.home.pool ∷ Resumes (Raising e) ∷ k) ms (tt, ends_created beginning.1, refl, beginning.2) (tt, (tt, (tt, q))))

    undo_on : EndsCreated frugal → (e : Exception) (v : Value) (by : Birth) (done : List Part) (found : Found (Cell Value)) (all : List (Activation Value)) → (k : Control) → BeginsThere frugal v by k → Left k → Fine (undo_next named e v done found (jumping_in e all k ms))
    undo_on ends_created e v by done on_null all k beginning q = tt
    undo_on ends_created e v by done on_gone all k beginning q = tt
    undo_on ends_created e v by done on_other all k beginning q = tt
    undo_on ends_created e v by done (finds cell) all k beginning q = undone_on ends_created e v by done cell all k beginning q

    pub broken_on : EndsCreated frugal → (e : Exception) (v : Value) (by : Birth) (done : List Part) (all : List (Activation Value)) → (k : Control) → BeginsThere frugal v by k → Left k → Fine (broken_next named e v by done (jumping_in e all k ms))
    broken_on ends_created e v Creation done all k beginning q = undo_on ends_created e v Creation done (look s.heap v) all k beginning q
    broken_on ends_created e v Copy done all k beginning q = tt
    broken_on ends_created e v (Adjustment number) done all k beginning q = tt

    assigns_on : (cs : List ℕ) (x : ℕ) (right : RightForm) → allocates_thriftily frugal right ≡ true → (all : List (Activation Value)) → (k : Control) → Left k → Fine (assign_next named cs x right (now all k ms))
    assigns_on [] x right bare all k q = on _ refl (bare, (tt, q))
    assigns_on (c ∷ cs) x right bare all k q = holder_on c cs x (λ last. Targets last right) all k (λ last. (bare, q))

    pub target_on : (o : Value) (c : ℕ) (right : RightForm) (found : Found (Cell Value)) → allocates_thriftily frugal right ≡ true → (all : List (Activation Value)) → (k : Control) → Left k → Fine (target_next named o c right found (now all k ms))
    target_on o c right on_null bare all k q = raises_on ConstraintError all k q
    target_on o c right on_gone bare all k q = tt
    target_on o c right on_other bare all k q = tt
    target_on o c right (finds cell) bare all k q = on _ refl (bare, (tt, q))

    stored_on : (o : Value) (c : ℕ) (v : Value) (found : Option Value) (all : List (Activation Value)) → (k : Control) → Left k → Fine (stored_next named o c v found (now all k ms))
    stored_on o c v None all k q = tt
    stored_on o c v (Some before) all k q = on _ refl q

    pub store_on : (o : Value) (c : ℕ) (v : Value) (found : Found (Cell Value)) (all : List (Activation Value)) → (k : Control) → Left k → Fine (store_next named o c v found (now all k ms))
    store_on o c v on_null all k q = tt
    store_on o c v on_gone all k q = tt
    store_on o c v on_other all k q = tt
    store_on o c v (finds cell) all k q = stored_on o c v (slice_get cell.values c) all k q

    -- A record is assigned to (5.2). With controlled parts it gets its value from one other record: target and source are found first.
    copy_on : (p : RecordPathForm) (items : List ItemForm) (all : List (Activation Value)) → (k : Control) → may_assign frugal p.record_type ≡ true → Left k → Fine (copy_next named p items (now all k ms))
    copy_on p [] all k may q = tt
    copy_on p (item_of_record source ∷ []) all k may q = on _ refl (tt, (tt, (may, q)))
    copy_on p (i ∷ is) all k may q = tt

    -- Without, the object in which it lies is found, the items are evaluated, and then its components get their values.
    record_assign_on : (p : RecordPathForm) (items : List ItemForm) (all : List (Activation Value)) → (k : Control) → (parts : Bool) → (parts ≡ true → may_assign frugal p.record_type ≡ true) → Left k → Fine (record_assign_next named parts p items (now all k ms))
    record_assign_on p items all k true may q = copy_on p items all k (may refl) q
    record_assign_on p items all k false may q =
        let v = place_at (places_of all) p.object.root in
        path_on (selected named v p.object.selectors) (whole v) all (TargetsRecord (place_in named v p.object.selectors p).component p.record_type items ∷ k) (tt, q)

    -- Where target and source are found and are not one, the target is finalized, the source is copied to it, and it is adjusted. Where an operation may be called
    -- for that, none of its object runs.
    assigning_on : (t : ℕ) (target source : Value) → RecordIsInside frugal tds → (all : List (Activation Value)) → (k : Control) → may_assign frugal t ≡ true
        → ((own_in k ≡ true → is_inert frugal t ≡ false) → NoOperationRunsOn (named.whole target) k) → Left k → Goes (assigning named tds t target source (now all k ms))
    assigning_on t target source inert all k may apart q = record {
      upper = ms;
      masters = refl;
      frugally = finalizing_frugal frugal behind among (named.whole target) (Assigning s.next) (record_tasks tds t WholeFirst (named.part_base target)) copied ms
          (tt, refl, (both.0, record { first = named.base source; record_type = t; to = named.base target; width = width_of tds t; rest = treating (named.whole target) (begins (Adjustment s.next) []) adjusted k; is = refl }, quiet_or_alone (is_inert frugal t) refl))
          (storing_frugal frugal behind among (named.whole target) (named.base target) (width_of tds t) (Adjustment s.next) [] adjusted k ms
          (unadjusted_or_alone (is_inert frugal t) refl) q);
    }
      where
        both : (frugal.treats_parts ≡ true) × (((frugal.objects && frugal.untracked) || is_unadjusted frugal t) ≡ true)
        both = assigned_parts frugal t may

        adjusted : List Task
        adjusted = record_tasks tds t PartsFirst (named.part_base target)

        copied : Control
        copied = Copies (named.base source) t ∷ StoresRecord (named.whole target) (named.base target) (width_of tds t) ∷ treating (named.whole target) (begins (Adjustment s.next) []) adjusted k

        own_copied : own_in k ≡ true → own_in copied ≡ true
        own_copied own = own_treating (named.whole target) (begins (Adjustment s.next) []) adjusted k ∙ own

        alone_treating : (left : List Task) → NoOperationRunsOn (named.whole target) k → NoOperationRunsOn (named.whole target) (treating (named.whole target) (begins (Adjustment s.next) []) left k)
        alone_treating [] none = none
        alone_treating (task ∷ left) none = none

        -- It is adjusted: no Adjust is called for that, or none tracks.
        known_unadjusted : is_unadjusted frugal t ≡ true → AdjustsThere frugal (named.whole target) (Adjustment s.next) adjusted k
        known_unadjusted is = (tt, (both.0, (t, is, inert.0 t PartsFirst (named.part_base target)), tt))

        unadjusted_or_alone : (none : Bool) → is_inert frugal t ≡ none
            → BeginsThere frugal (named.whole target) (Adjustment s.next) k ⊎ AdjustsThere frugal (named.whole target) (Adjustment s.next) adjusted k
        unadjusted_or_alone true is = inr (known_unadjusted (and_parts (is_unfinalized frugal t) (is_unadjusted frugal t) is).1)
        unadjusted_or_alone false is =
            elim (or_cases (frugal.objects && frugal.untracked) (is_unadjusted frugal t) both.1) [
              | inl none ↦ let two = and_parts frugal.objects frugal.untracked none in inl (two.1, two.0, apart (λ own. is))
              | inr known ↦ inr (known_unadjusted known)
            ]

        quiet_or_alone : (none : Bool) → is_inert frugal t ≡ none
            → ((own_in copied ≡ true) × AreKnown frugal.types frugal.unfinalized (record_tasks tds t WholeFirst (named.part_base target)))
            ⊎ NoOperationRunsOn (named.whole target) copied
        quiet_or_alone true is = by (own_in k) refl
          where
            by : (own : Bool) → own_in k ≡ own
                → ((own_in copied ≡ true) × AreKnown frugal.types frugal.unfinalized (record_tasks tds t WholeFirst (named.part_base target)))
                ⊎ NoOperationRunsOn (named.whole target) copied
            by true own =
                inl (own_copied own, (t, (and_parts (is_unfinalized frugal t) (is_unadjusted frugal t) is).0, inert.0 t WholeFirst (named.part_base target)))
            by false called = inr (alone_treating adjusted (apart (λ own. absurd (cc (own, called)))))
        quiet_or_alone false is = inr (alone_treating adjusted (apart (λ own. is)))

    pub assigned_on : (t : ℕ) (target source : Value) (same : Option Bool) → named.same target source ≡ same → RecordIsInside frugal tds → (all : List (Activation Value)) → (k : Control) → may_assign frugal t ≡ true
        → ((own_in k ≡ true → is_inert frugal t ≡ false) → (o : Id) (place : Place) → target ≡ Inside o place → NoOperationRunsOn (Names o) k) → Left k → Fine (assigns_next named tds t target source same (now all k ms))
    assigned_on t target source None is inert all k may apart q = tt
    assigned_on t target source (Some true) is inert all k may apart q = on _ refl q
    assigned_on t Null source (Some false) is inert all k may apart q = absurd (cc is)
    assigned_on t (Names o) source (Some false) is inert all k may apart q = absurd (cc is)
    assigned_on t (Scalar n) source (Some false) is inert all k may apart q = absurd (cc is)
    assigned_on t (Inside o place) source (Some false) is inert all k may apart q =
        assigning_on t (Inside o place) source inert all k may (λ calls. apart calls o place refl) q

    pub record_target_on : (o : Value) (first count : ℕ) (items : List ItemForm) (found : Found (Cell Value)) (all : List (Activation Value)) → (k : Control) → Left k → Fine (record_target_next named o first count items found (now all k ms))
    record_target_on o first count items on_null all k q = raises_on ConstraintError all k q
    record_target_on o first count items on_gone all k q = tt
    record_target_on o first count items on_other all k q = tt
    record_target_on o first count items (finds cell) all k q = on _ refl (tt, (tt, q))

    record_stored_on : (o : Value) (first : ℕ) (vs : List Value) (found : Option (List Value)) (all : List (Activation Value)) → (k : Control) → Left k → Fine (record_stored_next named o first vs found (now all k ms))
    record_stored_on o first vs None all k q = tt
    record_stored_on o first vs (Some before) all k q = on _ refl q

    pub store_record_on : (o : Value) (first count : ℕ) (found : Found (Cell Value)) (all : List (Activation Value)) → (k : Control) → Left k → Fine (store_record_next named o first count found (now all k ms))
    store_record_on o first count on_null all k q = tt
    store_record_on o first count on_gone all k q = tt
    store_record_on o first count on_other all k q = tt
    store_record_on o first count (finds cell) all k q =
        record_stored_on o first (newest_ones named count (now all k ms)) (record_in cell.values first count) (with_operands (drop count (operands_of all)) all) k q

    -- A variable gets a value.
    pub puts_on : (x : ℕ) (v : Value) (all : List (Activation Value)) → (k : Control) → Left k → Goes (put x v (now all k ms))
    puts_on x v all k q = on _ refl q

    -- A Free: nothing is to be done for its object, which is to cease to exist, or that is finalized first.
    freeing_on : (access : ℕ) (v : Value) (cell : Cell Value) (clears : Frame Value) → (all : List (Activation Value)) → (k : Control) → IsFreely frugal tds (clears ∷ k) v (finds cell) → Left (clears ∷ k) → Goes (freeing named tds access v cell clears (now all k ms))
    freeing_on access v cell clears all k (inl none) q = rw none (on _ refl (tt, (tt, q)))
    freeing_on access v cell clears all k (inr (treats_parts, alone)) q =
        on (freeing named tds access v cell clears (now all k ms)) refl
        (treating_leads frugal behind among v (ends (Freeing s.next)) (all_tasks tds cell.access WholeFirst)
        (Ends v ∷ GivesBack v (Freeing s.next) (Some (pool_freed_to (home_of access (ms ++ lower)))) ∷ clears ∷ k) ms (tt, treats_parts, refl, alone) (tt, (tt, q)))

    freeing_next_on : (access : ℕ) (v : Value) (cell : Cell Value) (clears : Frame Value) (event : Event Value) → (all : List (Activation Value)) → (k : Control) → IsFreely frugal tds (clears ∷ k) v (finds cell) → Left (clears ∷ k) → Fine (freeing_next named tds access v cell clears event (now all k ms))
    freeing_next_on access v cell clears event all k freely q = by (same_pool (Some (pool_freed_to (home_of access (ms ++ lower)))) cell.home.pool)
      where
        by : (one : Bool) → Fine (if one then moves event (freeing named tds access v cell clears (now all k ms)) else halts (Erroneous GivesElsewhere))
        by true = freeing_on access v cell clears all k freely q
        by false = tt

    free_on : (access x : ℕ) (v : Value) (found : Found (Cell Value)) (all : List (Activation Value)) → (k : Control) → IsFreely frugal tds k v found → Left k → Fine (free_next named tds access x v found (now all k ms))
    free_on access x v on_null all k freely q = on _ refl q
    free_on access x v on_gone all k freely q = tt
    free_on access x v on_other all k freely q = tt
    free_on access x v (finds cell) all k freely q = freeing_next_on access v cell (Clears x) Quiet all k freely (tt, q)

    frees_on : (cs : List ℕ) (access x : ℕ) (all : List (Activation Value)) → may_treat frugal access ≡ true → (k : Control) → (cs ≡ [] → IsFreely frugal tds k (place_at (places_of all) x) (standing s.heap (place_at (places_of all) x))) → Left k → Fine (frees_next named tds cs access x (now all k ms))
    frees_on [] access x all is k freely q = free_on access x (place_at (places_of all) x) (standing s.heap (place_at (places_of all) x)) all k (freely refl) q
    frees_on (c ∷ cs) access x all is k freely q = holder_on c cs x (λ last. FreesIn access last) all k (λ last. (is, q))

    freed_on : (access : ℕ) (o : Value) (c : ℕ) (v : Value) (found : Found (Cell Value)) (all : List (Activation Value)) → (k : Control) → IsFreely frugal tds k v found → Left k → Fine (freed_next named tds access o c v found (now all k ms))
    freed_on access o c v on_null all k freely q = on _ refl q
    freed_on access o c v on_gone all k freely q = tt
    freed_on access o c v on_other all k freely q = tt
    freed_on access o c v (finds cell) all k freely q = freeing_next_on access v cell (ClearsIn o c) (Followed o) all k freely (tt, q)

    free_component_on : (access : ℕ) (o : Value) (c : ℕ) (found : Option Value) (all : List (Activation Value)) → (k : Control) → ((w : Value) → found ≡ Some w → IsFreely frugal tds k w (standing s.heap w)) → Left k → Fine (free_component_next named tds access o c found (now all k ms))
    free_component_on access o c None all k freely q = tt
    free_component_on access o c (Some v) all k freely q = freed_on access o c v (standing s.heap v) all k (freely v refl) q

    pub free_in_on : (access : ℕ) (o : Value) (c : ℕ) (found : Found (Cell Value)) (all : List (Activation Value)) → (k : Control) → ((cell : Cell Value) (w : Value) → found ≡ finds cell → slice_get cell.values c ≡ Some w → IsFreely frugal tds k w (standing s.heap w)) → Left k → Fine (free_in_next named tds access o c found (now all k ms))
    free_in_on access o c on_null all k freely q = raises_on ConstraintError all k q
    free_in_on access o c on_gone all k freely q = tt
    free_in_on access o c on_other all k freely q = tt
    free_in_on access o c (finds cell) all k freely q = free_component_on access o c (slice_get cell.values c) all k (λ w. freely cell w refl) q

    pub end_on : (v : Value) (found : Found (Cell Value)) (all : List (Activation Value)) → (k : Control) → Left k → Fine (end_next named v found (now all k ms))
    end_on v on_null all k q = tt
    end_on v on_gone all k q = tt
    end_on v on_other all k q = tt
    end_on v (finds cell) all k q = on _ refl q

    told_on : (pool : Option ℕ) (v : Value) (event : Event Value) (after : State) → Goes after → Fine (told_back named pool v event after)
    told_on None v event after goes = goes
    told_on (Some pool) v event after goes = goes

    pub back_on : (v : Value) (cause : Cause) (pool : Option ℕ) (found : Found (Cell Value)) (all : List (Activation Value)) → (k : Control) → Left k → Fine (back_next named v cause pool found (now all k ms))
    back_on v cause pool on_null all k q = tt
    back_on v cause pool on_gone all k q = tt
    back_on v cause pool on_other all k q = tt
    back_on v cause pool (finds cell) all k q = by (same_pool pool cell.home.pool)
      where
        by : (one : Bool) → Fine (if one then given_back named v cause cell (now all k ms) else halts (Erroneous GivesElsewhere))
        by true = told_on cell.home.pool v _ _ (on _ refl q)
        by false = tt

    -- Branches.
    pub branches_on : (branches : BranchesForm) → (all : List (Activation Value)) → (k : Control) → are_thrifty_branches frugal branches ≡ true → Left k → Fine (branches_next named branches (now all k ms))
    branches_on (otherwise fs) all k thrifty q = on _ refl (thrifty, q)
    branches_on (a_branch e fs branches) all k thrifty q =
        let both = apart (are_thrifty frugal fs) (are_thrifty_branches frugal branches) thrifty in
        on _ refl (tt, (both, q))

    pub decided_on : (fs : StmtsForm) (branches : BranchesForm) (truth : Option Bool) → (all : List (Activation Value)) → (k : Control) → (are_thrifty frugal fs ≡ true) × (are_thrifty_branches frugal branches ≡ true) → Left k → Fine (decided_next named fs branches truth (now all k ms))
    decided_on fs branches None all k thrifty q = tt
    decided_on fs branches (Some true) all k thrifty q = on _ refl (thrifty.0, q)
    decided_on fs branches (Some false) all k thrifty q = branches_on branches all k thrifty.1 q

    -- Loops.
    turn_on : (condition : Option ExpressionForm) (fs : StmtsForm) → (all : List (Activation Value)) → (k : Control) → are_thrifty frugal fs ≡ true → Left k → Fine (turn_next named condition fs (now all k ms))
    turn_on condition no_stmts all k thrifty q = tt
    turn_on condition (a_stmt f fs) all k thrifty q = on _ refl (thrifty, (thrifty, q))

    pub repeats_on : (condition : Option ExpressionForm) (fs : StmtsForm) → (all : List (Activation Value)) → (k : Control) → are_thrifty frugal fs ≡ true → Left k → Fine (repeats_next named condition fs (now all k ms))
    repeats_on None fs all k thrifty q = turn_on None fs all k thrifty q
    repeats_on (Some e) fs all k thrifty q = on _ refl (tt, (thrifty, q))

    pub turned_on : (e : ExpressionForm) (fs : StmtsForm) (truth : Option Bool) → (all : List (Activation Value)) → (k : Control) → are_thrifty frugal fs ≡ true → Left k → Fine (turned_next named e fs truth (now all k ms))
    turned_on e fs None all k thrifty q = tt
    turned_on e fs (Some true) all k thrifty q = turn_on (Some e) fs all k thrifty q
    turned_on e fs (Some false) all k thrifty q = on _ refl q

    count_turn_on : (x : ℕ) (value last : ℤ) (fs : StmtsForm) → (all : List (Activation Value)) → (k : Control) → are_thrifty frugal fs ≡ true → Left k → Fine (count_turn_next named x value last fs (now all k ms))
    count_turn_on x value last no_stmts all k thrifty q = tt
    count_turn_on x value last (a_stmt f fs) all k thrifty q = on _ refl (thrifty, (thrifty, q))

    pub counts_on : (x : ℕ) (value last : ℤ) (fs : StmtsForm) → (all : List (Activation Value)) → (k : Control) → are_thrifty frugal fs ≡ true → Left k → Fine (counts_next named x value last fs (now all k ms))
    counts_on x value last fs all k thrifty q = by (int_le value last)
      where
        by : (b : Bool) → Fine (if b then count_turn_next named x value last fs (now all k ms) else moves Quiet (now all k ms))
        by true = count_turn_on x value last fs all k thrifty q
        by false = on _ refl q

    pub ranges_on : (x : ℕ) (fs : StmtsForm) (low high : Option ℤ) → (all : List (Activation Value)) → (k : Control) → are_thrifty frugal fs ≡ true → Left k → Fine (ranges_next named x fs low high (now all k ms))
    ranges_on x fs None high all k thrifty q = tt
    ranges_on x fs (Some low) None all k thrifty q = tt
    ranges_on x fs (Some low) (Some high) all k thrifty q = counts_on x low high fs all k thrifty q

    -- The input.
    gets_on : (cs : List ℕ) (x : ℕ) (input : List ℤ) (all : List (Activation Value)) → (k : Control) → Left k → Fine (gets_next named cs x input (now all k ms))
    gets_on (c ∷ cs) x input all k q = holder_on c cs x (λ last. Receives last) all k (λ last. (tt, q))
    gets_on [] x [] all k q = raises_on EndError all k q
    gets_on [] x (i ∷ is) all k q = on _ refl q

    received_on : (o : Value) (c : ℕ) (input : List ℤ) (found : Option Value) (all : List (Activation Value)) → (k : Control) → Left k → Fine (received_next named o c input found (now all k ms))
    received_on o c input None all k q = tt
    received_on o c [] (Some before) all k q = raises_on EndError all k q
    received_on o c (i ∷ is) (Some before) all k q = on _ refl q

    pub receive_on : (o : Value) (c : ℕ) (found : Found (Cell Value)) (all : List (Activation Value)) → (k : Control) → Left k → Fine (receive_next named o c found (now all k ms))
    receive_on o c on_null all k q = raises_on ConstraintError all k q
    receive_on o c on_gone all k q = tt
    receive_on o c on_other all k q = tt
    receive_on o c (finds cell) all k q = received_on o c s.input (slice_get cell.values c) all k q

    -- Exits.
    exit_on : (condition : Option ExpressionForm) (all : List (Activation Value)) → (k : Control) → Left k → Fine (exit_next named condition (now all k ms))
    exit_on None all k q = jumps_on Exiting all k q
    exit_on (Some e) all k q = on _ refl (tt, (tt, q))

    pub exited_on : (truth : Option Bool) (all : List (Activation Value)) → (k : Control) → Left k → Fine (exited_next named truth (now all k ms))
    exited_on None all k q = tt
    exited_on (Some true) all k q = jumps_on Exiting all k q
    exited_on (Some false) all k q = on _ refl q

    pub line_on : (i : Option ℤ) (all : List (Activation Value)) → (k : Control) → Left k → Fine (line_next named i (now all k ms))
    line_on None all k q = tt
    line_on (Some i) all k q = on _ refl q

    -- A block is a master of its own.
    encloses_on : (ds : List DeclarationForm) (fs : StmtsForm) (hs : HandlersForm) → (all : List (Activation Value)) → (k : Control) → (are_thrifty_declarations frugal ds && are_thrifty frugal fs && are_thrifty_handlers frugal hs) ≡ true → Left k → Goes (entered (at (Elaborates ds fs hs ∷ k) (now all k ms)))
    encloses_on ds fs hs all k thrifty q =
        let one = apart (are_thrifty_declarations frugal ds && are_thrifty frugal fs) (are_thrifty_handlers frugal hs) thrifty in
        let two = apart (are_thrifty_declarations frugal ds) (are_thrifty frugal fs) one.0 in
        record {
          upper = record { number = s.next; items = [] } ∷ ms;
          masters = refl;
          frugally = inl ((tt, (two.0, two.1, one.1)), q);
        }

    -- A record or a component is given to a call.
    pub record_on : (p : RecordPathForm) (all : List (Activation Value)) → (k : Control) → Left k → Fine (record_holder_next named p (λ place. RefersIn place p.record_type) (now all k ms))
    record_on p all k q =
        let v = place_at (places_of all) p.object.root in
        path_on (selected named v p.object.selectors) (whole v) all (RefersIn (place_in named v p.object.selectors p) p.record_type ∷ k) (tt, q)

    referred_on : (o : Value) (place : Place) (found : Option (List Value)) (all : List (Activation Value)) → (k : Control) → Left k → Fine (referred_next named o place found (now all k ms))
    referred_on o place None all k q = tt
    referred_on o place (Some vs) all k q = on _ refl q

    pub refers_on : (o : Value) (place : Place) (count : ℕ) (found : Found (Cell Value)) (all : List (Activation Value)) → (k : Control) → Left k → Fine (refers_next named o place count found (now all k ms))
    refers_on o place count on_null all k q = raises_on ConstraintError all k q
    refers_on o place count on_gone all k q = tt
    refers_on o place count on_other all k q = tt
    refers_on o place count (finds cell) all k q = referred_on o place (record_in cell.values place.component count) all k q

    pub open_on : (cs : List ℕ) (x : ℕ) (all : List (Activation Value)) → (k : Control) → Left k → Fine (open_next named cs x (now all k ms))
    open_on [] x all k q = tt
    open_on (c ∷ cs) x all k q = holder_on c cs x OpensIn all k (λ last. (tt, q))

    opened_on : (o : Value) (c : ℕ) (found : Option Value) (all : List (Activation Value)) → (k : Control) → Left k → Fine (opened_next named o c found (now all k ms))
    opened_on o c None all k q = tt
    opened_on o c (Some v) all k q = on _ refl q

    pub opens_on : (o : Value) (c : ℕ) (found : Found (Cell Value)) (all : List (Activation Value)) → (k : Control) → Left k → Fine (opens_next named o c found (now all k ms))
    opens_on o c on_null all k q = raises_on ConstraintError all k q
    opens_on o c on_gone all k q = tt
    opens_on o c on_other all k q = tt
    opens_on o c (finds cell) all k q = opened_on o c (slice_get cell.values c) all k q

    -- The actual parameters of a call come before it.
    computing_left : (actuals : List ActualForm) (k : Control) → Left k → Left (computing named actuals k)
    computing_left [] k q = q
    computing_left (in_value e ∷ rest) k q = (tt, computing_left rest k q)
    computing_left (in_null ∷ rest) k q = (refl, computing_left rest k q)
    computing_left (in_access path ∷ rest) k q = (refl, computing_left rest k q)
    computing_left (in_record p ∷ rest) k q = (tt, computing_left rest k q)
    computing_left (in_out_path path ∷ rest) k q = (tt, computing_left rest k q)
    computing_left (in_out_access path ∷ rest) k q = (refl, computing_left rest k q)
    computing_left (in_out_component path ∷ rest) k q = (tt, computing_left rest k q)
    computing_left (in_out_record p ∷ rest) k q = (tt, computing_left rest k q)

    call_on : (number : ℕ) (actuals : List ActualForm) (found : Option BodyForm) → ((b : BodyForm) → found ≡ Some b → is_thrifty_body frugal b ≡ true) → (all : List (Activation Value)) → (k : Control) → Left k → Fine (call_next named number actuals found (now all k ms))
    call_on number actuals None thrifty all k q = tt
    call_on number actuals (Some b) thrifty all k q = on _ refl (computing_left actuals (Calls number b actuals ∷ k) (thrifty b refl, q))

    -- The body that is called begins, in a master of its own.
    pub begun_on : (number : ℕ) (b : BodyForm) (actuals : List ActualForm) (vs : List Value) → is_thrifty_body frugal b ≡ true → (all : List (Activation Value)) → (k : Control) → Left k → Goes (begun named number b actuals vs (now all k ms))
    begun_on number b actuals vs thrifty all k q = record {
      upper = record { number = s.next; items = [] } ∷ ms;
      masters = refl;
      frugally = inl ((tt, thrifty_parts frugal b thrifty), inr (inl q));
    }

    -- It has ended: what its caller gets back in components is stored next.
    pub storing_left : (references : List Value) (k : Control) → Left k → Left (storing named references k)
    storing_left [] k q = q
    storing_left (r ∷ rs) k q = (tt, storing_left rs k q)

    pub returned_on : (actuals : List ActualForm) (references : List Value) (all : List (Activation Value)) → (k : Control) → Left k → Goes (returned named actuals references (now all k ms))
    returned_on actuals references all k q = on _ refl (storing_left references k q)

    -- Statements.
    pub stmt_on : (f : StmtForm) → ((number : ℕ) (b : BodyForm) → slice_get bodies number ≡ Some b → slice_index_or frugal.procedures number false ≡ true → is_thrifty_body frugal b ≡ true) → RecordIsBare frugal.types tds → (all : List (Activation Value)) → (k : Control) → is_thrifty_stmt frugal f ≡ true → StmtIsFreely frugal tds f k s.heap (places_of all) → Left k → Fine (stmt_next named tds bodies f (now all k ms))
    stmt_on skips finds_frugal records_bare all k thrifty freely q = on _ refl q
    stmt_on (assigns target right) finds_frugal records_bare all k thrifty freely q = assigns_on target.selectors target.root right thrifty all k q
    stmt_on (assigns_record target items) finds_frugal records_bare all k thrifty freely q =
        record_assign_on target items all k (has_parts tds target.record_type) (assigned_with (has_parts tds target.record_type) (not (is_some (finalization_of frugal.types target.record_type))) (may_assign frugal target.record_type) (records_bare target.record_type) thrifty) q
    stmt_on (frees access path) finds_frugal records_bare all k thrifty freely q = frees_on path.selectors access path.root all thrifty k freely q
    stmt_on (gets target) finds_frugal records_bare all k thrifty freely q = gets_on target.selectors target.root s.input all k q
    stmt_on (writes e) finds_frugal records_bare all k thrifty freely q = on _ refl (tt, (tt, q))
    stmt_on (writes_text text) finds_frugal records_bare all k thrifty freely q = on _ refl q
    stmt_on (chooses branches) finds_frugal records_bare all k thrifty freely q = branches_on branches all k thrifty q
    stmt_on (repeats condition fs spot) finds_frugal records_bare all k thrifty freely q = on _ refl (thrifty, q)
    stmt_on (counts x low high fs spot) finds_frugal records_bare all k thrifty freely q = on _ refl (tt, (tt, (thrifty, q)))
    stmt_on (exits condition spot) finds_frugal records_bare all k thrifty freely q = exit_on condition all k q
    stmt_on (calls number actuals) finds_frugal records_bare all k thrifty freely q = call_on number actuals (slice_get bodies number) (λ b there. finds_frugal number b there thrifty) all k q
    stmt_on (returns spot) finds_frugal records_bare all k thrifty freely q = jumps_on Returning all k q
    stmt_on (raises e) finds_frugal records_bare all k thrifty freely q = raises_on e all k q
    stmt_on (encloses ds fs hs) finds_frugal records_bare all k thrifty freely q = encloses_on ds fs hs all k thrifty q

  -- The declarations of a block, or of the body.
  declaration_on : (m : Master) (ms : List Master) → AreOwnedBy frugal m.items → (d : DeclarationForm) (ds : List DeclarationForm) (fs : StmtsForm) (hs : HandlersForm)
      → is_thrifty_declaration frugal d ≡ true
      → (all : List (Activation Value)) → (k : Control)
      → (are_thrifty_declarations frugal ds ≡ true) × (are_thrifty frugal fs ≡ true) × (are_thrifty_handlers frugal hs ≡ true)
      → (frugal.objects ≡ true → Unborn s.heap k) → FrugalLeads frugal behind among k ms
      → Fine (declarations_next named tds (d ∷ ds) fs hs (now all k (m ∷ ms)))
  declaration_on m ms own (creates_pool p) ds fs hs thrifty all k more unborn q = absurd (cc thrifty)
  declaration_on m ms own (collects access) ds fs hs thrifty all k more unborn q = absurd (cc thrifty)
  declaration_on m ms own (declares_record x t None) ds fs hs thrifty all k more unborn q = record {
    upper = record m { items = record { number = height ((m ∷ ms) ++ lower); owned = record_object t } ∷ m.items } ∷ ms;
    masters = refl;
    frugally = beginning_frugal frugal behind among (created s.heap (words_of tds t)) Creation [] (all_tasks tds t PartsFirst) (Elaborates ds fs hs ∷ k)
        (record m { items = record { number = height ((m ∷ ms) ++ lower); owned = record_object t } ∷ m.items } ∷ ms)
        (tt, thrifty, unborn thrifty (next_id s.heap) (past_unborn s.heap)) (((thrifty, own), more), q);
  }
  declaration_on m ms own (declares_record x t (Some items)) ds fs hs thrifty all k more unborn q = on (m ∷ ms) _ refl (tt, (thrifty, ((own, more), q)))
  declaration_on m ms own (declares x right) ds fs hs thrifty all k more unborn q = on (m ∷ ms) _ refl (thrifty, (tt, ((own, more), q)))

  pub declarations_on : (ms : List Master) (ds : List DeclarationForm) (fs : StmtsForm) (hs : HandlersForm) (all : List (Activation Value)) → (k : Control)
      → (frugal.objects ≡ true → Unborn s.heap k) → FrugalLeads frugal behind among (Elaborates ds fs hs ∷ k) ms
      → Fine (declarations_next named tds ds fs hs (now all k ms))
  declarations_on [] ds fs hs all k unborn q = absurd q
  declarations_on (m ∷ ms) [] fs hs all k unborn ((own, (ds_thrifty, thrifty, hs_thrifty)), q) = on (m ∷ ms) _ refl (thrifty, (hs_thrifty, (own, q)))
  declarations_on (m ∷ ms) (d ∷ ds) fs hs all k unborn ((own, (ds_thrifty, thrifty, hs_thrifty)), q) =
      let both = apart (is_thrifty_declaration frugal d) (are_thrifty_declarations frugal ds) ds_thrifty in
      declaration_on m ms own d ds fs hs both.0 all k (both.1, thrifty, hs_thrifty) unborn q

  pub declares_on : (ms : List Master) (x : ℕ) (v : Value) (all : List (Activation Value)) → (k : Control) → FrugalLeads frugal behind among (Declares x ∷ k) ms → Goes (owned (declared x) (put x v (now all k ms)))
  declares_on [] x v all k q = absurd q
  declares_on (m ∷ ms) x v all k q = record {
    upper = with_variable (record { number = height ((m ∷ ms) ++ lower); owned = declared x }) m ∷ ms;
    masters = refl;
    frugally = inl (more_leads frugal (record { number = height ((m ∷ ms) ++ lower); owned = declared x }) tt behind among k m ms q.1);
  }

  -- A record object is there, which got what its items were: nothing is to be done for it, or it is adjusted, and no Adjust is called, or none tracks.
  pub record_declares_on : (ms : List Master) (x t : ℕ) (values : List Value) (all : List (Activation Value)) → (k : Control)
      → IsFilled frugal (all_tasks tds t PartsFirst)
      → NoOperationRunsOn (created s.heap (words_of tds t)) k → FrugalLeads frugal behind among (DeclaresRecord x t ∷ k) ms → Goes (made named tds x t Copy values (now all k ms))
  record_declares_on [] x t values all k filled alone q = absurd q
  record_declares_on (m ∷ ms) x t values all k (inr (inl untracked)) alone q = record {
    upper = with_variable (record { number = height ((m ∷ ms) ++ lower); owned = record_object t }) m ∷ ms;
    masters = refl;
    frugally =
        let may = apart frugal.objects (fills_parts frugal t) q.0 in
        beginning_frugal frugal behind among (created s.heap (words_of tds t)) Copy [] (all_tasks tds t PartsFirst) k
        (with_variable (record { number = height ((m ∷ ms) ++ lower); owned = record_object t }) m ∷ ms) (untracked, may.0, alone)
        (more_leads frugal (record { number = height ((m ∷ ms) ++ lower); owned = record_object t }) may.0 behind among k m ms q.1);
  }
  record_declares_on (m ∷ ms) x t values all k (inr (inr inert)) alone q = record {
    upper = with_variable (record { number = height ((m ∷ ms) ++ lower); owned = record_object t }) m ∷ ms;
    masters = refl;
    frugally = adjusting_frugal frugal behind among (created s.heap (words_of tds t)) Copy [] (all_tasks tds t PartsFirst) k
        (with_variable (record { number = height ((m ∷ ms) ++ lower); owned = record_object t }) m ∷ ms) (tt, (inert.0, inert.1, alone))
        (more_leads frugal (record { number = height ((m ∷ ms) ++ lower); owned = record_object t })
        (apart frugal.objects (fills_parts frugal t) q.0).0 behind among k m ms q.1);
  }
  record_declares_on (m ∷ ms) x t values all k (inl none) alone q = record {
    upper = with_variable (record { number = height ((m ∷ ms) ++ lower); owned = record_object t }) m ∷ ms;
    masters = refl;
    frugally =
        rw none (inl (more_leads frugal (record { number = height ((m ∷ ms) ++ lower); owned = record_object t })
        (apart frugal.objects (fills_parts frugal t) q.0).0 behind among k m ms q.1));
  }

  -- An inert record is assigned to: another one is copied,
  pub begins_so : (ms : List Master) (after : State) → after.masters ≡ ms ++ lower → after.mode ≡ Running → FrugalBegins frugal behind among after.control ms → Goes after
  begins_so ms after masters runs q = record { upper = ms; masters = masters; frugally = rw runs (inr (inr (tt, q))) }

  pub breaks_so : (ms : List Master) (e : Exception) (after : State) → after.masters ≡ ms ++ lower → after.mode ≡ Raising e → FrugalBegins frugal behind among after.control ms → Goes after
  breaks_so ms e after masters raised_so q = record { upper = ms; masters = masters; frugally = rw raised_so (inr (inr (tt, q))) }

  copying_on : (ms : List Master) (o : Value) (found : Option (List Value)) (all : List (Activation Value)) (k : Control) → FrugalBegins frugal behind among k ms → Fine (copied_next named o found (now all k ms))
  copying_on ms o None all k q = tt
  copying_on ms o (Some vs) all k q = begins_so ms _ refl refl q

  pub copies_begin_on : (ms : List Master) (o : Value) (first count : ℕ) (found : Found (Cell Value)) (all : List (Activation Value)) (k : Control) → FrugalBegins frugal behind among k ms → Fine (copies_next named o first count found (now all k ms))
  copies_begin_on ms o first count on_null all k q = record { upper = ms; masters = refl; frugally = inr (inr (tt, q)) }
  copies_begin_on ms o first count on_gone all k q = tt
  copies_begin_on ms o first count on_other all k q = tt
  copies_begin_on ms o first count (finds cell) all k q = copying_on ms o (record_in cell.values first count) all k q

  -- and stored.
  storing_on : (ms : List Master) (o : Value) (first : ℕ) (vs : List Value) (found : Option (List Value)) (all : List (Activation Value)) (k : Control) → FrugalBegins frugal behind among k ms → Fine (record_stored_next named o first vs found (now all k ms))
  storing_on ms o first vs None all k q = tt
  storing_on ms o first vs (Some before) all k q = begins_so ms _ refl refl q

  pub store_begin_on : (ms : List Master) (o : Value) (first count : ℕ) (found : Found (Cell Value)) (all : List (Activation Value)) (k : Control) → ((replaced_in k ≡ o) × FrugalBegins frugal behind among k ms) ⊎ FrugalLeads frugal behind among k ms
      → Fine (store_record_next named o first count found (now all k ms))
  store_begin_on ms o first count found all k (inr q) = store_record_on ms o first count found all k q
  store_begin_on ms o first count on_null all k (inl (same, q)) = tt
  store_begin_on ms o first count on_gone all k (inl (same, q)) = tt
  store_begin_on ms o first count on_other all k (inl (same, q)) = tt
  store_begin_on ms o first count (finds cell) all k (inl (same, q)) =
      storing_on ms o first (newest_ones named count (now all k ms)) (record_in cell.values first count) (with_operands (drop count (operands_of all)) all) k q

  -- A master is left.
  leaves_so : (ms : List Master) (after : State) → after.masters ≡ ms ++ lower → MayLeave after.mode after.control → FrugalLeaves frugal behind among after.control ms → Goes after
  leaves_so ms after masters may q = record { upper = ms; masters = masters; frugally = inr (inl (may, q)) }

  -- So it goes on.
  pub leaving_on : (ms : List Master) (heap : List Object) (all : List (Activation Value)) (k : Control) → FrugalLeaves frugal behind among k ms → Goes (record (now all k ms) { heap = heap })
  leaving_on ms heap all k q = leaves_so ms (record (now all k ms) { heap = heap }) refl (may_leave k) q

  -- An object of the master ceases to exist, and its storage goes back.
  pub end_left_on : (v : Value) (found : Found (Cell Value)) (ms : List Master) (all : List (Activation Value)) (k : Control) → FrugalLeaves frugal behind among k ms → Fine (end_next named v found (now all k ms))
  end_left_on v on_null ms all k q = tt
  end_left_on v on_gone ms all k q = tt
  end_left_on v on_other ms all k q = tt
  end_left_on v (finds cell) ms all k q = leaving_on ms (named.finish s.heap v) all k q

  pub back_left_on : (v : Value) (cause : Cause) (pool : Option ℕ) (found : Found (Cell Value)) (ms : List Master) (all : List (Activation Value)) (k : Control) → FrugalLeaves frugal behind among k ms
      → Fine (back_next named v cause pool found (now all k ms))
  back_left_on v cause pool on_null ms all k q = tt
  back_left_on v cause pool on_gone ms all k q = tt
  back_left_on v cause pool on_other ms all k q = tt
  back_left_on v cause pool (finds cell) ms all k q = by (same_pool pool cell.home.pool)
    where
      by : (one : Bool) → Fine (if one then given_back named v cause cell (now all k ms) else halts (Erroneous GivesElsewhere))
      by true = told_on ms cell.home.pool v _ _ (leaving_on ms (named.back s.heap v) all k q)
      by false = tt

  pub leaves_first : (ms : List Master) (left : Mode) (k : Control) (after : State) → after.masters ≡ ms ++ lower → after.mode ≡ Running → after.control ≡ Leaves left ∷ k → FrugalLeaves frugal behind among (Leaves left ∷ k) ms → Goes after
  leaves_first ms left k after masters in_mode is q = record {
    upper = ms;
    masters = masters;
    frugally = rw (in_mode, is) (inr (inl (refl, q)));
  }

  -- A record object in it ceases to exist, and is finalized before, if anything is to be done for it.
  member_on : (m : Master) (ms : List Master) (left : Mode) (cause : Cause) (v : Value) (found : Found (Cell Value)) (all : List (Activation Value)) (k : Control)
      → IsLeft (ends cause) → frugal.objects ≡ true → NoOperationRunsOn v k → FrugalLeaves frugal behind among (Leaves left ∷ k) (m ∷ ms)
      → Goes (taken_out named tds cause None v found (at (Leaves left ∷ k) (now all k (m ∷ ms))))
  member_on m ms left cause v on_null all k leaving may alone q = leaving_on (m ∷ ms) (named.part s.heap v) all (Ends v ∷ GivesBack v cause None ∷ Leaves left ∷ k) q
  member_on m ms left cause v on_gone all k leaving may alone q = leaving_on (m ∷ ms) (named.part s.heap v) all (Ends v ∷ GivesBack v cause None ∷ Leaves left ∷ k) q
  member_on m ms left cause v on_other all k leaving may alone q = leaving_on (m ∷ ms) (named.part s.heap v) all (Ends v ∷ GivesBack v cause None ∷ Leaves left ∷ k) q
  member_on m ms left cause v (finds cell) all k leaving may alone q =
      leaving_on (m ∷ ms) (named.part s.heap v) all (treating v (ends cause) (all_tasks tds cell.access WholeFirst) (Ends v ∷ GivesBack v cause None ∷ Leaves left ∷ k))
      (treating_leaves frugal behind among v (ends cause) (all_tasks tds cell.access WholeFirst) (Ends v ∷ GivesBack v cause None ∷ Leaves left ∷ k) (m ∷ ms) (leaving, may, refl, alone) q)

  pub leaves_on : (ms : List Master) (left : Mode) (all : List (Activation Value)) → (k : Control) → (frugal.objects ≡ true → LeftAlone s.heap (ms ++ lower) (Leaves left ∷ k))
      → FrugalLeaves frugal behind among (Leaves left ∷ k) ms → Fine (leave_next named tds left (ms ++ lower) (now all k ms))
  leaves_on [] left all k alone q = absurd q
  leaves_on (m ∷ ms) left all k alone q = by m.items refl
    where
      by : (items : List Item) → m.items ≡ items → Fine (master_leave_next named tds left m.number items (now all k (m ∷ ms)))
      by [] is = on ms _ refl q.1
      by (item ∷ items) is = one item.owned owns.0
        where
          owns : AreOwnedBy frugal (item ∷ items)
          owns = rw is at q.0

          older_left : Goes (record (now all (Leaves left ∷ k) (record m { items = items } ∷ ms)) { heap = s.heap })
          older_left = leaving_on (record m { items = items } ∷ ms) s.heap all (Leaves left ∷ k) (owns.1, q.1)

          inner : (n : ℕ) → n ≡ item.number → is_innermost ((m ∷ ms) ++ lower) n ≡ true
          inner n same = rw (is, same) (first_number item.number (is_number_of items item.number))

          taken_on : (may : frugal.objects ≡ true) (v : Value) → IsTaken item.number s.heap v
              → Goes (taken_out named tds (Leaving m.number item.number) None v (look s.heap v) (at (Leaves left ∷ k) (now all k (m ∷ ms))))
          taken_on may v (o, named_so, member) =
              member_on m ms left (Leaving m.number item.number) v (look s.heap v) all k tt may
              (subst (λ (w : Value). NoOperationRunsOn w k) (sym named_so) (alone may o member.object member.found member.listed (inner member.object.cell.home.item member.home))) q

          members_on : (may : frugal.objects ≡ true) (vs : List Value) → members s.heap item.number ≡ vs
              → Fine (members_next named tds (Leaving m.number item.number) None vs (at (Leaves left ∷ k) (now all k (m ∷ ms))))
          members_on may [] are = rw is older_left
          members_on may (v ∷ vs) are = λ i lt. taken_on may (slice_index_or (v ∷ vs) i Null) (rw are at (taken_is item.number s.heap i (rw are lt)))

          one : (what : Owned) → IsOwnedBy frugal what → Fine (item_leave_next named tds m.number item what (at (Leaves left ∷ k) (now all k (m ∷ ms))))
          one (declared x) v = rw is older_left
          one (collection access pool) v = absurd v
          one (record_object t) may = members_on may (members s.heap item.number) refl
          one (storage_pool declaration number) v = absurd v
