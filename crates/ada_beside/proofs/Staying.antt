-- Each step of a confined body leaves it so, and its object stays.

use Rattle.std.proofs.Common.{◌≡◌, ℕ, ◌+◌, Bool, true, false, List, [], ◌∷◌, length, drop, Option, Some, None, Result, Ok, Err, refl, sym, subst, inl, inr, arith}
use Rattle.std.specs.Prelude.{not, ℤ, pos, ◌+ℤ◌, int_le, if◌then◌else◌}
use Rattle.std.specs.List.{slice_get}
use Rattle.std.proofs.lemmas.Bool.Decides.{eqb_tells}
use Rattle.std.proofs.lemmas.Option.{slice_get_within}
use Rattle.ada_values.specs.declared.operator.BinaryOperator.{BinaryOperator}
use Rattle.ada_values.specs.declared.fault.OperatorFault.{OperatorFault}
use Rattle.ada_values.specs.declared.fault.OperatorFault.TheVariants.{Overflow, DivisionByZero, WrongType}
use Rattle.ada_program.specs.declared.program.Exception.{Exception}
use Rattle.ada_program.specs.declared.program.Exception.TheVariants.{ConstraintError, StorageError, EndError}
use Rattle.ada_program.specs.declared.program.TypeDefinition.{TypeDefinition}
use Rattle.ada_program.specs.Form.{ExpressionForm, integer, boolean, reads, is_null, applied_to, chained, LinksForm, no_more_links, a_link, ItemForm, null_item, item_of_path, item_of_value, item_of_record, RightForm, nothing, value_of, allocates, allocates_default, computes, StmtForm, skips, assigns, assigns_record, frees, gets, writes, writes_text, chooses, repeats, counts, exits, calls, returns, raises, encloses, StmtsForm, no_stmts, a_stmt, BranchesForm, otherwise, a_branch, HandlersForm, no_handlers, a_handler, DeclarationForm, creates_pool, collects, declares, declares_record}
use Rattle.ada_program.specs.Handling.{some_takes, handler_of}
use Rattle.ada_program.specs.ProgramForm.{BodyForm}
use Rattle.ada_program.specs.Typed.{words_of, width_of, pool_named}
use Rattle.ada_parts.specs.declared.tasks.Direction.TheVariants.{PartsFirst, WholeFirst}
use Rattle.ada_parts.specs.Task.{Task}
use Rattle.ada_meaning.specs.declared.event.Birth.TheVariants.{Creation}
use Rattle.ada_meaning.specs.declared.event.Cause.{Cause}
use Rattle.ada_meaning.specs.declared.event.Cause.TheVariants.{Freeing}
use Rattle.ada_meaning.specs.declared.event.Halt.TheVariants.{Erroneous}
use Rattle.ada_meaning.specs.declared.event.Why.TheVariants.{GivesElsewhere}
use Rattle.ada_meaning.specs.Run.{Event}
use Rattle.ada_meaning.specs.declared.state.Id.{Id}
use Rattle.ada_meaning.specs.declared.state.Mode.{Mode}
use Rattle.ada_meaning.specs.declared.state.Mode.TheVariants.{Running, Raising, Exiting, Returning}
use Rattle.ada_meaning.specs.declared.state.Value.{Value}
use Rattle.ada_meaning.specs.declared.state.Value.TheVariants.{Null}
use Rattle.ada_meaning.specs.Event.{Back, Followed, Quiet}
use Rattle.ada_meaning.specs.Frame.{Treatment, begins, ends, Frame, is_loop, is_return, is_master, Landing, passes_on, goes_behind, goes_in, breaks_off, escapes, operation_landing, handler_landing, exception_landing, landing}
use Rattle.ada_meaning.specs.Frame as frame
use Rattle.ada_meaning.specs.State.{Destination, Item, Master, Owned, declared, collection, record_object, storage_pool, home_of, pools_in, pool_for, pool_freed_to, counted, type_housed}
use Rattle.ada_meaning.specs.Heap.{Cell, Found, on_null, on_gone, on_other, finds}
use Rattle.ada_meaning.specs.Step.{moves, all_tasks, treating, at, first_or, older, places, operands, set_operands, computed, popped, owned, entered, shorter, put, jumping, in_front, held, newest, reading, component_next, follow_next, path_next, before_last, last_of, named_next, holder_next, place_in, expression_next, null_test_next, is_decided, link_next, links_next, outcome_next, items_next, copied_next, copies_next, record_in, newest_ones, without_newest, stored_from, record_assign_next, record_target_next, record_stored_next, store_record_next, initialized, new_cell, answered, new_next, right_next, assign_next, target_next, stored_next, store_next, branches_next, decided_next, turn_next, repeats_next, turned_next, count_turn_next, ranges_next, gets_next, received_next, receive_next, exit_next, exited_next, stmt_next, stmts_next, line_next, declarations_next, item_leave_next, master_leave_next, leave_next, frame_next, landed, unwound, pass_next, halts, numbered, same_pool, end_next, told_back, given_back, back_next, freeing, free_next, freed_next, free_component_next, free_in_next, frees_next}
use Rattle.ada_meaning.specs.Named.{Object, object_at, State, Next, named, an_integer, a_boolean, whole, inside, look, store, created, create, reads_integer, reads_boolean, reads_null, unary_given, binary_given, next, on_object, finished, returned, parted, lent, standing}
use Rattle.ada_tracked.specs.Frames.{View}
use Rattle.ada_tracked.specs.Law.{NewestHousesNone, InnermostHousesNone, TakesNone}
use Rattle.ada_tracked.specs.Copying.{StatementsAssignBare, FirstAssignsBare, AssignsBare}
use Rattle.ada_tracked.specs.Looking.{LandsElsewhere, HoldsElsewhere, LeadsElsewhere, HolderIsElsewhere, StatementsLookElsewhere, NextLooksElsewhere, FirstLooksElsewhere, LooksElsewhere, FreedIsElsewhere}
use Rattle.ada_tracked.specs.Seen.{IsOther, awaits_holder, IsWatched}
use Rattle.ada_tracked.specs.Simple.{IsVariable}
use Rattle.ada_beside.specs.Confined.{IsConfinedFrom, ExpressionIsConfined, LinksAreConfined, ConditionIsConfined, ItemsAreConfined, RightIsConfined, DeclarationsAreConfined, StatementIsConfined, StatementsAreConfined, BranchesAreConfined, HandlersAreConfined, StoresReached, FrameIsConfined, BodyIsConfined, OperandsAreConfined, IsConfined}
use Rattle.ada_beside.specs.Law.{TreatsNone, IsWithin, GoesOn, AllGoOn, Remains}
use Rattle.ada_beside.proofs.Operands.{set_so, holds_any, holder_starts, holder_holds, unawaited, other_confined, landed_confined, target_confined, receiver_confined, start_reached, freer_confined}
use Rattle.ada_beside.proofs.Ceasing.{none_changes, record_remains, stored_remains, created_remains, other_remains}
use Rattle.ada_beside.proofs.Touched.{unless_it_ends}

-- A new object is none that is there already.
created_other : (h : List Object) (o : Id) (x : Object) → object_at h o ≡ Some x → (words : ℕ) → IsOther o (created h words)
created_other h o x there words =
    let lt = slice_get_within h o.0 x there in
    elim (eqb_tells (length h) o.0) [ inl one ↦ absurd (let e = one.1 in omega (arith, e, lt)) | inr apart ↦ apart.0 ]

module _ (types : List TypeDefinition) (bodies : List BodyForm) (w : View) (reaches : ℕ → Bool) where
  -- A confined body in which nothing waits for an object goes on, whatever comes next of this state.
  abbrev Goes : State → Next → Type 0
  Goes s n = BodyIsConfined w reaches s.control → awaits_holder s.control ≡ false → AllGoOn w reaches s.heap n

  -- A body goes on in a state in which what is left to do is confined, and nothing waits for an object.
  stays : (s : State) → BodyIsConfined w reaches s.control → awaits_holder s.control ≡ false → GoesOn w reaches s.heap s
  stays s h g = record {
    confined = record { control = h; operands = unawaited w reaches s.mode s.control (operands s) g };
    remains = none_changes w.object s.heap;
  }

  -- A body goes on with one operand more.
  gives : (v : Value) (s : State) → BodyIsConfined w reaches s.control → awaits_holder s.control ≡ false → GoesOn w reaches s.heap (computed v s)
  gives v s h g = stays (computed v s) h g

  -- A body goes on once a jump begins, which drops the operands.
  jumps : (m : Mode) (s : State) → BodyIsConfined w reaches s.control → GoesOn w reaches s.heap (jumping m s)
  jumps m s h =
      let none = other_confined w reaches m s.control [] refl in
      record {
        confined = record { control = h; operands = set_so (λ vs. OperandsAreConfined w reaches m s.control vs) [] s.activations none none };
        remains = none_changes w.object s.heap;
      }

  -- A body goes on with a value that has been found for what waits behind it.
  lands :
      (awaits : Bool) (v : Value) (s : State) → LandsElsewhere w.object awaits v → BodyIsConfined w reaches s.control
      → awaits_holder s.control ≡ awaits → GoesOn w reaches s.heap (computed v s)
  lands awaits v s landed h waits = record {
    confined = record {
      control = h;
      operands =
          set_so (λ vs. OperandsAreConfined w reaches s.mode s.control vs) (v ∷ operands s) s.activations
          (other_confined w reaches s.mode s.control [] refl)
          (landed_confined w reaches awaits s.mode s.control v (operands s) waits landed);
    };
    remains = none_changes w.object s.heap;
  }

  -- A body goes on as a component is read of an object that has been found.
  component_goes :
      (awaits : Bool) (v : Value) (c : ℕ) (cs : List ℕ) (cell : Cell Value) (found : Option Value) (s : State) → look s.heap v ≡ finds cell
      → slice_get cell.values c ≡ found → HoldsElsewhere w.object s.heap awaits v c cs → BodyIsConfined w reaches s.control
      → awaits_holder s.control ≡ awaits → AllGoOn w reaches s.heap (component_next named v cs found s)
  component_goes awaits v c cs cell None s sought is holds h waits = tt
  component_goes awaits v c [] cell (Some u) s sought is holds h waits = lands awaits u s (holds cell u sought is) h waits
  component_goes awaits v c (d ∷ cs) cell (Some u) s sought is holds h waits = stays (reading named (d ∷ cs) u s) (tt, h) refl

  -- A body goes on as a component is read of an object that has been looked for.
  follow_goes :
      (awaits : Bool) (v : Value) (c : ℕ) (cs : List ℕ) (found : Found (Cell Value)) (s : State) → look s.heap v ≡ found
      → HoldsElsewhere w.object s.heap awaits v c cs → BodyIsConfined w reaches s.control → awaits_holder s.control ≡ awaits
      → AllGoOn w reaches s.heap (follow_next named v c cs found s)
  follow_goes awaits v c cs on_null s sought holds h waits = jumps (Raising ConstraintError) s h
  follow_goes awaits v c cs on_gone s sought holds h waits = tt
  follow_goes awaits v c cs on_other s sought holds h waits = tt
  follow_goes awaits v c cs (finds cell) s sought holds h waits = component_goes awaits v c cs cell (slice_get cell.values c) s sought refl holds h waits

  -- A body goes on as an object is looked for and a component of it read.
  sought_goes :
      (awaits : Bool) (v : Value) (c : ℕ) (cs : List ℕ) (s : State) → HoldsElsewhere w.object s.heap awaits v c cs → BodyIsConfined w reaches s.control
      → awaits_holder s.control ≡ awaits → AllGoOn w reaches s.heap (follow_next named v c cs (look s.heap v) s)
  sought_goes awaits v c cs s holds h waits = follow_goes awaits v c cs (look s.heap v) s refl holds h waits

  -- A body goes on as components are followed from an operand.
  path_goes :
      (awaits : Bool) (cs : List ℕ) (v : Value) (s : State) → LeadsElsewhere w.object s.heap awaits cs v → BodyIsConfined w reaches s.control
      → awaits_holder s.control ≡ awaits → AllGoOn w reaches s.heap (path_next named cs v s)
  path_goes awaits [] v s leads h waits = lands awaits v s leads h waits
  path_goes awaits (c ∷ cs) v s leads h waits = sought_goes awaits v c cs s leads.1 h waits

  -- A body goes on as a path is followed from a variable.
  named_goes : (cs : List ℕ) (x : ℕ) (s : State) → Goes s (named_next named cs x s)
  named_goes [] x s h g = gives (whole (held named s x)) s h g
  named_goes (c ∷ cs) x s h g =
      let v = held named s x in
      sought_goes false (whole v) (inside v c) cs s (holds_any w.object s.heap (whole v) (inside v c) cs) h g

  -- A body goes on as the object is found in which a component lies that is about to be assigned or read to.
  holder_goes :
      (c : ℕ) (cs : List ℕ) (x : ℕ) (frame_of : ℕ → Frame Value) (s : State) → IsConfinedFrom w.tracks.first reaches x (c ∷ cs)
      → IsWatched w (places s) s.heap → HolderIsElsewhere w.object s.heap x (c ∷ cs) (held named s x)
      → ((n : ℕ) → BodyIsConfined w reaches (frame_of n ∷ s.control)) → ((n : ℕ) → awaits_holder (frame_of n ∷ s.control) ≡ true)
      → ((n : ℕ) (vs : List Value) → StoresReached w reaches (first_or Null vs) n → OperandsAreConfined w reaches s.mode (frame_of n ∷ s.control) vs)
      → AllGoOn w reaches s.heap (holder_next named c cs x frame_of s)
  holder_goes c [] x frame_of s from p elsewhere each waits reached =
      let v = held named s x in
      let n = inside v c in
      let starts = holder_starts w.object s.heap x (c ∷ []) v elsewhere in
      record {
        confined = record {
          control = each n;
          operands =
              reached n (operands (computed (whole v) s))
              (set_so (λ vs. StoresReached w reaches (first_or Null vs) n) (whole v ∷ operands s) s.activations (inl refl)
              (start_reached w reaches (places s) x c [] p.formal from starts));
        };
        remains = none_changes w.object s.heap;
      }
  holder_goes c (d ∷ cs) x frame_of s from p elsewhere each waits reached =
      let v = held named s x in
      let last = last_of (inside v c) (d ∷ cs) in
      sought_goes true (whole v) (inside v c) (before_last d cs) (at (frame_of last ∷ s.control) s)
      (holder_holds w.object s.heap x c d cs v elsewhere) (each last) (waits last)

  -- A body goes on once a variable has a value.
  put_goes : (x : ℕ) (v : Value) (s : State) → BodyIsConfined w reaches s.control → awaits_holder s.control ≡ false → GoesOn w reaches s.heap (put x v s)
  put_goes x v s h g = stays (put x v s) h g

  -- A body goes on as an expression is evaluated.
  expression_goes : (e : ExpressionForm) (s : State) → ExpressionIsConfined w.tracks.first reaches e → Goes s (expression_next named e s)
  expression_goes (integer i) s confined h g = gives (an_integer i) s h g
  expression_goes (boolean b) s confined h g = gives (a_boolean b) s h g
  expression_goes (reads path) s confined h g = named_goes path.selectors path.root s h g
  expression_goes (is_null equal path) s confined h g = named_goes path.selectors path.root (at (frame.TestsNull equal ∷ s.control) s) (tt, h) refl
  expression_goes (applied_to operator e) s confined h g = stays (at (frame.Computes e ∷ frame.AppliesAlone operator ∷ s.control) s) (confined, (tt, h)) refl
  expression_goes (chained e links) s confined h g = stays (at (frame.Computes e ∷ frame.Continues links ∷ s.control) s) (confined.0, (confined.1, h)) refl

  -- A body goes on as a value is tested for null.
  null_test_goes : (equal : Bool) (found : Option Bool) (s : State) → Goes s (null_test_next named equal found s)
  null_test_goes true None s h g = tt
  null_test_goes false None s h g = tt
  null_test_goes true (Some null) s h g = gives (a_boolean null) s h g
  null_test_goes false (Some null) s h g = gives (a_boolean (not null)) s h g

  -- A body goes on as an operator of a chain comes next, or what is behind it.
  link_goes :
      (decided : Bool) (operator : BinaryOperator) (e : ExpressionForm) (links : LinksForm) (s : State) → ExpressionIsConfined w.tracks.first reaches e
      → LinksAreConfined w.tracks.first reaches links → Goes s (link_next named decided operator e links s)
  link_goes true operator e links s one more h g = stays (at (frame.Continues links ∷ s.control) s) (more, h) refl
  link_goes false operator e links s one more h g =
      stays (at (frame.Computes e ∷ frame.Applies operator ∷ frame.Continues links ∷ s.control) s) (one, (tt, (more, h))) refl

  -- A body goes on as what is left of a chain comes next.
  links_go : (links : LinksForm) (s : State) → LinksAreConfined w.tracks.first reaches links → Goes s (links_next named links s)
  links_go no_more_links s confined h g = stays s h g
  links_go (a_link operator e links) s confined h g =
      link_goes (is_decided named operator (reads_boolean (newest named s))) operator e links s confined.0 confined.1 h g

  -- A body goes on as an operator gives a value or raises Constraint_Error.
  outcome_goes : (given : Result Value OperatorFault) (s : State) → Goes s (outcome_next named given s)
  outcome_goes (Ok v) s h g = gives v s h g
  outcome_goes (Err Overflow) s h g = jumps (Raising ConstraintError) s h
  outcome_goes (Err DivisionByZero) s h g = jumps (Raising ConstraintError) s h
  outcome_goes (Err WrongType) s h g = tt

  -- A body goes on as an item is evaluated.
  items_go : (items : List ItemForm) (s : State) → ItemsAreConfined w.tracks.first reaches items → Goes s (items_next named items s)
  items_go [] s confined h g = stays s h g
  items_go (null_item ∷ is) s confined h g = gives Null (at (frame.Fills is ∷ s.control) s) (confined.1, h) refl
  items_go (item_of_path path ∷ is) s confined h g = named_goes path.selectors path.root (at (frame.Fills is ∷ s.control) s) (confined.1, h) refl
  items_go (item_of_value e ∷ is) s confined h g = stays (at (frame.Computes e ∷ frame.Fills is ∷ s.control) s) (confined.0, (confined.1, h)) refl
  items_go (item_of_record q ∷ is) s confined h g =
      let place = place_in named (held named s q.object.root) q.object.selectors q in
      named_goes q.object.selectors q.object.root (at (frame.Copies place.component q.record_type ∷ frame.Fills is ∷ s.control) s)
      (tt, (confined.1, h)) refl

  -- A body goes on as the components of a record are copied, if the record lies there.
  copied_goes : (v : Value) (found : Option (List Value)) (s : State) → Goes s (copied_next named v found s)
  copied_goes v None s h g = tt
  copied_goes v (Some vs) s h g = stays (set_operands (in_front vs (operands s)) s) h g

  -- A body goes on as a record is copied out of an object that has been looked for.
  copies_goes : (v : Value) (c count : ℕ) (found : Found (Cell Value)) (s : State) → Goes s (copies_next named v c count found s)
  copies_goes v c count on_null s h g = jumps (Raising ConstraintError) s h
  copies_goes v c count on_gone s h g = tt
  copies_goes v c count on_other s h g = tt
  copies_goes v c count (finds cell) s h g = copied_goes v (record_in cell.values c count) s h g

  -- A body goes on as what is assigned is evaluated.
  right_goes : (right : RightForm) (s : State) → RightIsConfined w.tracks.first reaches right → Goes s (right_next named types right s)
  right_goes nothing s confined h g = gives Null s h g
  right_goes (value_of path) s confined h g = named_goes path.selectors path.root s h g
  right_goes (allocates access items) s confined h g =
      stays (at (frame.Fills items ∷ frame.Creates access (words_of types access) ∷ s.control) s) (confined, (tt, h)) refl
  right_goes (allocates_default access) s confined h g =
      stays (at (frame.Creates access (words_of types access) ∷ s.control) (initialized named types access s)) (tt, h) refl
  right_goes (computes e) s confined h g = stays (at (frame.Computes e ∷ s.control) s) (confined, h) refl

  -- A body goes on behind the treatment of another object, or at once, if nothing is to be done.
  treated_goes :
      (v : Value) (treatment : Treatment) (tasks : List Task) (before : List Object) (s : State) → IsOther w.object v → Remains w.object before s.heap
      → BodyIsConfined w reaches s.control → awaits_holder s.control ≡ false → GoesOn w reaches before (at (treating v treatment tasks s.control) s)
  treated_goes v treatment [] before s other none h g = record { confined = (stays s h g).confined; remains = none }
  treated_goes v treatment (task ∷ tasks) before s other none h g =
      record { confined = (stays (at (treating v treatment (task ∷ tasks) s.control) s) (other, h) refl).confined; remains = none }

  -- A body goes on as the request for the words of an object is granted or refused.
  answered_goes :
      (access count words : ℕ) (home : Destination) (s : State) → IsWatched w (places s) s.heap → BodyIsConfined w reaches s.control
      → awaits_holder s.control ≡ false → (given : Bool) → GoesOn w reaches s.heap (answered named types access count words home s given)
  answered_goes access count words home s p h g true =
      let v = created s.heap words in
      let cell = new_cell named types access count home s in
      treated_goes v (begins Creation []) (all_tasks types access PartsFirst) s.heap
      (record (set_operands (v ∷ drop count (operands s)) s) { allocated = counted s.allocated; heap = create s.heap words cell })
      (created_other s.heap w.object p.object p.at_object words) (created_remains w.object s.heap words cell) h g
  answered_goes access count words home s p h g false = jumps (Raising StorageError) s h

  -- A body goes on as the words of an object are asked for.
  new_goes :
      (access count words : ℕ) (home : Option Destination) (s : State) → IsWatched w (places s) s.heap → Goes s (new_next named types access count words home s)
  new_goes access count words None s p h g = jumps (Raising StorageError) s h
  new_goes access count words (Some home) s p h g = answered_goes access count words home s p h g

  -- A body goes on as an assignment begins.
  assign_goes :
      (cs : List ℕ) (x : ℕ) (right : RightForm) (s : State) → IsConfinedFrom w.tracks.first reaches x cs → RightIsConfined w.tracks.first reaches right
      → IsWatched w (places s) s.heap → HolderIsElsewhere w.object s.heap x cs (held named s x) → Goes s (assign_next named cs x right s)
  assign_goes [] x right s from confined p elsewhere h g =
      stays (at (frame.Evaluates right ∷ frame.Stores x ∷ s.control) s) (confined, (from, h)) refl
  assign_goes (c ∷ cs) x right s from confined p elsewhere h g =
      holder_goes c cs x (λ last. frame.Targets last right) s from p elsewhere (λ n. (confined, h)) (λ n. refl)
      (λ n. target_confined w reaches n right s.control s.mode)

  -- A body goes on as the target of an assignment is looked for.
  target_goes :
      (o : Value) (c : ℕ) (right : RightForm) (found : Found (Cell Value)) (s : State) → StoresReached w reaches o c
      → RightIsConfined w.tracks.first reaches right → Goes s (target_next named o c right found s)
  target_goes o c right on_null s reached confined h g = jumps (Raising ConstraintError) s h
  target_goes o c right on_gone s reached confined h g = tt
  target_goes o c right on_other s reached confined h g = tt
  target_goes o c right (finds cell) s reached confined h g = stays (at (frame.Evaluates right ∷ frame.StoresIn o c ∷ s.control) s) (confined, (reached, h)) refl

  -- A body goes on as a component gets a value.
  stored_goes : (o : Value) (c : ℕ) (v : Value) (found : Option Value) (s : State) → Goes s (stored_next named o c v found s)
  stored_goes o c v None s h g = tt
  stored_goes o c v (Some before) s h g = record {
    confined = (stays (record s { heap = store s.heap o c v }) h g).confined;
    remains = stored_remains w.object s.heap o c v;
  }

  -- A body goes on as a component gets a value of an object that has been looked for.
  store_goes : (o : Value) (c : ℕ) (v : Value) (found : Found (Cell Value)) (s : State) → Goes s (store_next named o c v found s)
  store_goes o c v on_null s h g = tt
  store_goes o c v on_gone s h g = tt
  store_goes o c v on_other s h g = tt
  store_goes o c v (finds cell) s h g = stored_goes o c v (slice_get cell.values c) s h g

  -- A body goes on as a Get begins.
  gets_goes :
      (cs : List ℕ) (x : ℕ) (input : List ℤ) (s : State) → IsConfinedFrom w.tracks.first reaches x cs → IsWatched w (places s) s.heap
      → HolderIsElsewhere w.object s.heap x cs (held named s x) → Goes s (gets_next named cs x input s)
  gets_goes (c ∷ cs) x input s from p elsewhere h g =
      holder_goes c cs x (λ last. frame.Receives last) s from p elsewhere (λ n. (tt, h)) (λ n. refl) (λ n. receiver_confined w reaches n s.control s.mode)
  gets_goes [] x [] s from p elsewhere h g = jumps (Raising EndError) s h
  gets_goes [] x (i ∷ is) s from p elsewhere h g = put_goes x (an_integer i) (record s { input = is }) h g

  -- A body goes on as a component gets the next number of the input.
  received_goes : (o : Value) (c : ℕ) (input : List ℤ) (found : Option Value) (s : State) → Goes s (received_next named o c input found s)
  received_goes o c input None s h g = tt
  received_goes o c [] (Some before) s h g = jumps (Raising EndError) s h
  received_goes o c (i ∷ is) (Some before) s h g = record {
    confined = (stays (record s { heap = store s.heap o c (an_integer i); input = is }) h g).confined;
    remains = stored_remains w.object s.heap o c (an_integer i);
  }

  -- A body goes on as a component gets that number of an object that has been looked for.
  receive_goes : (o : Value) (c : ℕ) (found : Found (Cell Value)) (s : State) → Goes s (receive_next named o c found s)
  receive_goes o c on_null s h g = jumps (Raising ConstraintError) s h
  receive_goes o c on_gone s h g = tt
  receive_goes o c on_other s h g = tt
  receive_goes o c (finds cell) s h g = received_goes o c s.input (slice_get cell.values c) s h g

  -- A body goes on as an object ceases to exist, which is another one.
  end_goes : (v : Value) (found : Found (Cell Value)) (s : State) → IsOther w.object v → Goes s (end_next named v found s)
  end_goes v on_null s other h g = tt
  end_goes v on_gone s other h g = tt
  end_goes v on_other s other h g = tt
  end_goes v (finds cell) s other h g = record {
    confined = (stays (record s { heap = on_object finished s.heap v }) h g).confined;
    remains = other_remains w.object s.heap finished v other;
  }

  -- A body goes on as its words go back.
  told_goes : (pool : Option ℕ) (v : Value) (e : Event) (before : List Object) (s : State) → GoesOn w reaches before s → AllGoOn w reaches before (told_back named pool v e s)
  told_goes None v e before s goes = goes
  told_goes (Some pool) v e before s goes = goes

  given_goes : (b : Bool) (v : Value) (cause : Cause) (cell : Cell Value) (s : State) → IsOther w.object v
      → Goes s (if b then given_back named v cause cell s else halts (Erroneous GivesElsewhere))
  given_goes true v cause cell s other h g =
      told_goes cell.home.pool v (Back v cell.access cell.number cell.home.pool cell.home.subpool cause) s.heap (record s { heap = on_object returned s.heap v }) (record {
        confined = (stays (record s { heap = on_object returned s.heap v }) h g).confined;
        remains = other_remains w.object s.heap returned v other;
      })
  given_goes false v cause cell s other h g = tt

  back_goes : (v : Value) (cause : Cause) (pool : Option ℕ) (found : Found (Cell Value)) (s : State) → IsOther w.object v → Goes s (back_next named v cause pool found s)
  back_goes v cause pool on_null s other h g = tt
  back_goes v cause pool on_gone s other h g = tt
  back_goes v cause pool on_other s other h g = tt
  back_goes v cause pool (finds cell) s other h g = given_goes (same_pool pool cell.home.pool) v cause cell s other h g

  -- A body goes on as a Free of another object begins: what held its name becomes null behind that.
  freeing_goes :
      (b : Bool) (access : ℕ) (v : Value) (cell : Cell Value) (clears : Frame Value) (e : Event) (s : State) → IsOther w.object v
      → ((k : List (Frame Value)) → BodyIsConfined w reaches k → BodyIsConfined w reaches (clears ∷ k))
      → Goes s (if b then moves e (freeing named types access v cell clears s) else halts (Erroneous GivesElsewhere))
  freeing_goes true access v cell clears e s other cleared h g =
      let k = frame.Ends v ∷ frame.GivesBack v (Freeing s.next) (Some (pool_freed_to (home_of access s.masters))) ∷ clears ∷ s.control in
      let begun : State = numbered (record s { heap = on_object parted s.heap v; control = k }) in
      let behind : BodyIsConfined w reaches k = (other, (other, cleared s.control h)) in
      treated_goes v (ends (Freeing s.next)) (all_tasks types cell.access WholeFirst) s.heap begun other (other_remains w.object s.heap parted v other) behind refl
  freeing_goes false access v cell clears e s other cleared h g = tt

  free_goes :
      (access x : ℕ) (v : Value) (found : Found (Cell Value)) (s : State) → IsVariable w.tracks.first x → IsOther w.object v
      → Goes s (free_next named types access x v found s)
  free_goes access x v on_null s variable other h g = stays s h g
  free_goes access x v on_gone s variable other h g = tt
  free_goes access x v on_other s variable other h g = tt
  free_goes access x v (finds cell) s variable other h g =
      freeing_goes (same_pool (Some (pool_freed_to (home_of access s.masters))) cell.home.pool) access v cell (frame.Clears x) Quiet s other
      (λ k behind. (variable, behind)) h g

  -- So it is with what a component holds.
  freed_goes :
      (access : ℕ) (o : Value) (c : ℕ) (v : Value) (found : Found (Cell Value)) (s : State) → StoresReached w reaches o c → IsOther w.object v
      → Goes s (freed_next named types access o c v found s)
  freed_goes access o c v on_null s reached other h g = stays s h g
  freed_goes access o c v on_gone s reached other h g = tt
  freed_goes access o c v on_other s reached other h g = tt
  freed_goes access o c v (finds cell) s reached other h g =
      freeing_goes (same_pool (Some (pool_freed_to (home_of access s.masters))) cell.home.pool) access v cell (frame.ClearsIn o c) (Followed o) s other
      (λ k behind. (reached, behind)) h g

  held_goes :
      (access : ℕ) (o : Value) (c : ℕ) (found : Option Value) (s : State) → StoresReached w reaches o c
      → ((v : Value) → found ≡ Some v → IsOther w.object v) → Goes s (free_component_next named types access o c found s)
  held_goes access o c None s reached other h g = tt
  held_goes access o c (Some v) s reached other h g = freed_goes access o c v (standing s.heap v) s reached (other v refl) h g

  free_in_goes :
      (access : ℕ) (o : Value) (c : ℕ) (found : Found (Cell Value)) (s : State) → look s.heap o ≡ found → StoresReached w reaches o c
      → ((cell : Cell Value) (u : Value) → look s.heap o ≡ finds cell → slice_get cell.values c ≡ Some u → IsOther w.object u)
      → Goes s (free_in_next named types access o c found s)
  free_in_goes access o c on_null s sought reached other h g = jumps (Raising ConstraintError) s h
  free_in_goes access o c on_gone s sought reached other h g = tt
  free_in_goes access o c on_other s sought reached other h g = tt
  free_in_goes access o c (finds cell) s sought reached other h g =
      held_goes access o c (slice_get cell.values c) s reached (λ v at. other cell v sought at) h g

  -- A body goes on as a Free begins.
  frees_goes :
      (cs : List ℕ) (access x : ℕ) (s : State) → IsConfinedFrom w.tracks.first reaches x cs → IsWatched w (places s) s.heap
      → FreedIsElsewhere w.object s.heap x cs (held named s x) → Goes s (frees_next named types cs access x s)
  frees_goes [] access x s from p elsewhere h g = free_goes access x (held named s x) (standing s.heap (held named s x)) s from elsewhere h g
  frees_goes (c ∷ cs) access x s from p elsewhere h g =
      holder_goes c cs x (λ last. frame.FreesIn access last) s from p elsewhere (λ n. (tt, h)) (λ n. refl) (λ n. freer_confined w reaches access n s.control s.mode)

  -- A body goes on as a branch comes next.
  branches_go : (branches : BranchesForm) (s : State) → BranchesAreConfined w.tracks.first reaches branches → Goes s (branches_next named branches s)
  branches_go (otherwise fs) s confined h g = stays (at (frame.Does fs ∷ s.control) s) (confined, h) refl
  branches_go (a_branch e fs branches) s confined h g =
      stays (at (frame.Computes e ∷ frame.Decides fs branches ∷ s.control) s) (confined.0, ((confined.1, confined.2), h)) refl

  -- A body goes on once the condition of a branch is known.
  decided_goes :
      (fs : StmtsForm) (branches : BranchesForm) (truth : Option Bool) (s : State) → StatementsAreConfined w.tracks.first reaches fs
      → BranchesAreConfined w.tracks.first reaches branches → Goes s (decided_next named fs branches truth s)
  decided_goes fs branches None s one more h g = tt
  decided_goes fs branches (Some true) s one more h g = stays (at (frame.Does fs ∷ s.control) s) (one, h) refl
  decided_goes fs branches (Some false) s one more h g = branches_go branches s more h g

  -- A body goes on as a turn of a loop begins.
  turn_goes :
      (condition : Option ExpressionForm) (fs : StmtsForm) (s : State) → ConditionIsConfined w.tracks.first reaches condition
      → StatementsAreConfined w.tracks.first reaches fs → Goes s (turn_next named condition fs s)
  turn_goes condition no_stmts s one more h g = tt
  turn_goes condition (a_stmt f fs) s one more h g =
      stays (at (frame.Does (a_stmt f fs) ∷ frame.Repeats condition (a_stmt f fs) ∷ s.control) s) (more, ((one, more), h)) refl

  -- A body goes on as a loop comes to its next turn.
  repeats_go :
      (condition : Option ExpressionForm) (fs : StmtsForm) (s : State) → ConditionIsConfined w.tracks.first reaches condition
      → StatementsAreConfined w.tracks.first reaches fs → Goes s (repeats_next named condition fs s)
  repeats_go None fs s one more h g = turn_goes None fs s one more h g
  repeats_go (Some e) fs s one more h g = stays (at (frame.Computes e ∷ frame.Turns e fs ∷ s.control) s) (one, ((one, more), h)) refl

  -- A body goes on once the condition of a loop is known.
  turned_goes :
      (e : ExpressionForm) (fs : StmtsForm) (truth : Option Bool) (s : State) → ExpressionIsConfined w.tracks.first reaches e
      → StatementsAreConfined w.tracks.first reaches fs → Goes s (turned_next named e fs truth s)
  turned_goes e fs None s one more h g = tt
  turned_goes e fs (Some true) s one more h g = turn_goes (Some e) fs s one more h g
  turned_goes e fs (Some false) s one more h g = stays s h g

  -- A body goes on as a turn of a counting loop begins.
  count_turn_goes :
      (x : ℕ) (value last : ℤ) (fs : StmtsForm) (s : State) → IsVariable w.tracks.first x → StatementsAreConfined w.tracks.first reaches fs
      → Goes s (count_turn_next named x value last fs s)
  count_turn_goes x value last no_stmts s one more h g = tt
  count_turn_goes x value last (a_stmt f fs) s one more h g =
      stays (at (frame.Does (a_stmt f fs) ∷ frame.Counts x (value +ℤ pos 1) last (a_stmt f fs) ∷ s.control) (put x (an_integer value) s))
      (more, ((one, more), h)) refl

  -- A body goes on as a counting loop comes to its next turn, or ends.
  counting_goes :
      (goes : Bool) (x : ℕ) (value last : ℤ) (fs : StmtsForm) (s : State) → IsVariable w.tracks.first x → StatementsAreConfined w.tracks.first reaches fs
      → Goes s (if goes then count_turn_next named x value last fs s else moves Quiet s)
  counting_goes true x value last fs s one more h g = count_turn_goes x value last fs s one more h g
  counting_goes false x value last fs s one more h g = stays s h g

  -- A body goes on once the bounds of a counting loop are known.
  ranges_go :
      (x : ℕ) (fs : StmtsForm) (low high : Option ℤ) (s : State) → IsVariable w.tracks.first x → StatementsAreConfined w.tracks.first reaches fs
      → Goes s (ranges_next named x fs low high s)
  ranges_go x fs None high s one more h g = tt
  ranges_go x fs (Some low) None s one more h g = tt
  ranges_go x fs (Some low) (Some high) s one more h g = counting_goes (int_le low high) x low high fs s one more h g

  -- A body goes on as an exit begins.
  exit_goes : (condition : Option ExpressionForm) (s : State) → ConditionIsConfined w.tracks.first reaches condition → Goes s (exit_next named condition s)
  exit_goes None s confined h g = jumps Exiting s h
  exit_goes (Some e) s confined h g = stays (at (frame.Computes e ∷ frame.Exits ∷ s.control) s) (confined, (tt, h)) refl

  -- A body goes on once the condition of an exit is known.
  exited_goes : (truth : Option Bool) (s : State) → Goes s (exited_next named truth s)
  exited_goes None s h g = tt
  exited_goes (Some true) s h g = jumps Exiting s h
  exited_goes (Some false) s h g = stays s h g

  -- A body goes on as a line is written.
  line_goes : (found : Option ℤ) (s : State) → Goes s (line_next named found s)
  line_goes None s h g = tt
  line_goes (Some i) s h g = stays s h g

  -- A body goes on as a statement begins, in front of those behind it.
  stmt_goes :
      (f : StmtForm) (behind : StmtsForm) (l : List (Frame Value)) (s : State) → StatementIsConfined w.tracks.first reaches f → IsWatched w (places s) s.heap
      → StatementsLookElsewhere w.object (at l s) (a_stmt f behind) → StatementsAssignBare types (a_stmt f behind) → Goes s (stmt_next named types bodies f s)
  stmt_goes skips behind l s confined p looks bare h g = stays s h g
  stmt_goes (assigns target right) behind l s confined p looks bare h g = assign_goes target.selectors target.root right s confined.0 confined.1 p looks h g
  stmt_goes (assigns_record target items) behind l s confined p looks bare h g =
      let place = place_in named (held named s target.object.root) target.object.selectors target in
      subst (λ (parts : Bool). AllGoOn w reaches s.heap (record_assign_next named parts target items s)) (sym bare)
      (named_goes target.object.selectors target.object.root (at (frame.TargetsRecord place.component target.record_type items ∷ s.control) s) (confined.1, h) refl)
  stmt_goes (frees access path) behind l s confined p looks bare h g = frees_goes path.selectors access path.root s confined p looks h g
  stmt_goes (gets target) behind l s confined p looks bare h g = gets_goes target.selectors target.root s.input s confined p looks h g
  stmt_goes (writes e) behind l s confined p looks bare h g = stays (at (frame.Computes e ∷ frame.Writes ∷ s.control) s) (confined, (tt, h)) refl
  stmt_goes (writes_text text) behind l s confined p looks bare h g = stays s h g
  stmt_goes (chooses branches) behind l s confined p looks bare h g = branches_go branches s confined h g
  stmt_goes (repeats condition fs spot) behind l s confined p looks bare h g = stays (at (frame.Repeats condition fs ∷ s.control) s) (confined, h) refl
  stmt_goes (counts x low high fs spot) behind l s confined p looks bare h g =
      stays (at (frame.Computes low ∷ frame.Computes high ∷ frame.Ranges x fs ∷ s.control) s) (confined.1, (confined.2, ((confined.0, confined.3), h))) refl
  stmt_goes (exits condition spot) behind l s confined p looks bare h g = exit_goes condition s confined h g
  stmt_goes (calls procedure actuals) behind l s confined p looks bare h g = absurd confined
  stmt_goes (returns spot) behind l s confined p looks bare h g = jumps Returning s h
  stmt_goes (raises e) behind l s confined p looks bare h g = jumps (Raising e) s h
  stmt_goes (encloses ds fs hs) behind l s confined p looks bare h g = stays (entered (at (frame.Elaborates ds fs hs ∷ s.control) s)) (confined, h) refl

  -- A body goes on as the first of some statements begins.
  stmts_go :
      (fs : StmtsForm) (l : List (Frame Value)) (s : State) → StatementsAreConfined w.tracks.first reaches fs → IsWatched w (places s) s.heap
      → StatementsLookElsewhere w.object (at l s) fs → StatementsAssignBare types fs → Goes s (stmts_next named types bodies fs s)
  stmts_go no_stmts l s confined p looks bare h g = stays s h g
  stmts_go (a_stmt f fs) l s confined p looks bare h g = stmt_goes f fs l (at (frame.Does fs ∷ s.control) s) confined.0 p looks bare (confined.1, h) refl

  -- A body goes on as a declaration is elaborated, or the statements behind the last one come.
  declarations_go :
      (ds : List DeclarationForm) (fs : StmtsForm) (hs : HandlersForm) (s : State) → DeclarationsAreConfined w.tracks.first reaches ds
      → StatementsAreConfined w.tracks.first reaches fs → HandlersAreConfined w.tracks.first reaches hs → Goes s (declarations_next named types ds fs hs s)
  declarations_go [] fs hs s confined one more h g = stays (at (frame.Does fs ∷ frame.Handles hs ∷ frame.Closes ∷ s.control) s) (one, (more, (tt, h))) refl
  declarations_go (creates_pool pool ∷ ds) fs hs s confined one more h g =
      stays (owned (storage_pool pool (pools_in s.masters + 1)) (at (frame.Elaborates ds fs hs ∷ s.control) s)) ((confined.1, one, more), h) refl
  declarations_go (collects access ∷ ds) fs hs s confined one more h g =
      stays (owned (collection access (pool_for (pool_named types access) s.masters)) (at (frame.Elaborates ds fs hs ∷ s.control) s))
      ((confined.1, one, more), h) refl
  declarations_go (declares x right ∷ ds) fs hs s confined one more h g =
      stays (at (frame.Evaluates right ∷ frame.Declares x ∷ frame.Elaborates ds fs hs ∷ s.control) s)
      (confined.0.1, (confined.0.0, ((confined.1, one, more), h))) refl
  declarations_go (declares_record x object_type initial ∷ ds) fs hs s confined one more h g = absurd confined.0

  -- A body goes on as an item goes that is the home of no object.
  item_goes : (m : ℕ) (item : Item) (what : Owned) (s : State) → type_housed what ≡ None → Goes s (item_leave_next named types m item what s)
  item_goes m item (declared x) s none h g = stays (record s { masters = shorter s.masters }) h g
  item_goes m item (collection access pool) s none h g = absurd (cc)
  item_goes m item (record_object object_type) s none h g = absurd (cc)
  item_goes m item (storage_pool declaration number) s none h g = stays (record s { masters = shorter s.masters }) h g

  -- A body goes on as the newest item of a master goes, or the master is left.
  master_goes : (mode : Mode) (m : ℕ) (items : List Item) (s : State) → NewestHousesNone items → Goes s (master_leave_next named types mode m items s)
  master_goes mode m [] s none h g = stays (record s { masters = older s.masters; mode = mode }) h g
  master_goes mode m (item ∷ items) s none h g = item_goes m item item.owned (at (frame.Leaves mode ∷ s.control) s) none (tt, h) refl

  -- A body goes on as the innermost master is being left.
  leave_goes : (mode : Mode) (masters : List Master) (s : State) → InnermostHousesNone masters → Goes s (leave_next named types mode masters s)
  leave_goes mode [] s none h g = tt
  leave_goes mode (m ∷ ms) s none h g = master_goes mode m.number m.items s none h g

  -- A body goes on as the object is found in which a record lies that is assigned to.
  record_target_goes :
      (v : Value) (c count : ℕ) (items : List ItemForm) (found : Found (Cell Value)) (s : State) → ItemsAreConfined w.tracks.first reaches items
      → BodyIsConfined w reaches s.control → AllGoOn w reaches s.heap (record_target_next named v c count items found s)
  record_target_goes v c count items on_null s confined h = jumps (Raising ConstraintError) s h
  record_target_goes v c count items on_gone s confined h = tt
  record_target_goes v c count items on_other s confined h = tt
  record_target_goes v c count items (finds cell) s confined h =
      stays (at (frame.Fills items ∷ frame.StoresRecord v c count ∷ s.control) s) (confined, (tt, h)) refl

  -- A body goes on as the components of a record get their values, if the record lies there.
  record_stored_goes :
      (v : Value) (c : ℕ) (us : List Value) (found : Option (List Value)) (s : State) → Goes s (record_stored_next named v c us found s)
  record_stored_goes v c us None s h g = tt
  record_stored_goes v c us (Some before) s h g = record {
    confined = (stays (record s { heap = stored_from named s.heap v c us }) h g).confined;
    remains = record_remains w.object s.heap v c us;
  }

  -- A body goes on as they get them in an object that has been looked for.
  store_record_goes : (v : Value) (c count : ℕ) (found : Found (Cell Value)) (s : State) → Goes s (store_record_next named v c count found s)
  store_record_goes v c count on_null s h g = tt
  store_record_goes v c count on_gone s h g = tt
  store_record_goes v c count on_other s h g = tt
  store_record_goes v c count (finds cell) s h g =
      record_stored_goes v c (newest_ones named count s) (record_in cell.values c count) (without_newest named count s) h g

  -- A body goes on by what a frame does, which was the first of what was left to do.
  frame_goes :
      (f : Frame Value) (l : List (Frame Value)) (s : State) → FrameIsConfined w reaches f → TreatsNone f → TakesNone f s.masters
      → IsWatched w (places s) s.heap → NextLooksElsewhere w.object (at l s) f s.control → FirstAssignsBare types Running (f ∷ s.control)
      → OperandsAreConfined w reaches Running (f ∷ s.control) (operands s) → BodyIsConfined w reaches s.control
      → AllGoOn w reaches s.heap (frame_next named types bodies f s)
  frame_goes (frame.Elaborates ds fs hs) l s confined untreated none p looks bare reached h = declarations_go ds fs hs s confined.0 confined.1 confined.2 h looks.0
  frame_goes (frame.Does fs) l s confined untreated none p looks bare reached h = stmts_go fs l s confined p looks.1 bare h looks.0
  frame_goes (frame.Decides fs branches) l s confined untreated none p looks bare reached h =
      decided_goes fs branches (reads_boolean (newest named s)) (popped s) confined.0 confined.1 h looks.0
  frame_goes (frame.Repeats condition fs) l s confined untreated none p looks bare reached h = repeats_go condition fs s confined.0 confined.1 h looks.0
  frame_goes (frame.Turns condition fs) l s confined untreated none p looks bare reached h =
      turned_goes condition fs (reads_boolean (newest named s)) (popped s) confined.0 confined.1 h looks.0
  frame_goes (frame.Ranges x fs) l s confined untreated none p looks bare reached h =
      ranges_go x fs (reads_integer (newest named (popped s))) (reads_integer (newest named s)) (popped (popped s)) confined.0 confined.1 h looks.0
  frame_goes (frame.Counts x value last fs) l s confined untreated none p looks bare reached h =
      counting_goes (int_le value last) x value last fs s confined.0 confined.1 h looks.0
  frame_goes frame.Exits l s confined untreated none p looks bare reached h = exited_goes (reads_boolean (newest named s)) (popped s) h looks.0
  frame_goes (frame.Handles hs) l s confined untreated none p looks bare reached h = stays s h looks.0
  frame_goes frame.Closes l s confined untreated none p looks bare reached h = stays (at (frame.Leaves Running ∷ s.control) s) (tt, h) refl
  frame_goes (frame.Leaves mode) l s confined untreated none p looks bare reached h = leave_goes mode s.masters s none h looks.0
  frame_goes (frame.Calls procedure b actuals) l s confined untreated none p looks bare reached h = absurd confined
  frame_goes (frame.Returns actuals references) l s confined untreated none p looks bare reached h = absurd confined
  frame_goes (frame.Evaluates right) l s confined untreated none p looks bare reached h = right_goes right s confined h looks.0
  frame_goes (frame.Computes e) l s confined untreated none p looks bare reached h = expression_goes e s confined h looks.0
  frame_goes (frame.Follows cs) l s confined untreated none p looks bare reached h =
      path_goes (awaits_holder s.control) cs (newest named s) (popped s) looks h refl
  frame_goes (frame.TestsNull equal) l s confined untreated none p looks bare reached h = null_test_goes equal (reads_null (newest named s)) (popped s) h looks.0
  frame_goes (frame.Refers q) l s confined untreated none p looks bare reached h = absurd confined
  frame_goes (frame.RefersIn place record_type) l s confined untreated none p looks bare reached h = absurd confined
  frame_goes (frame.Opens path) l s confined untreated none p looks bare reached h = absurd confined
  frame_goes (frame.OpensIn c) l s confined untreated none p looks bare reached h = absurd confined
  frame_goes (frame.Continues links) l s confined untreated none p looks bare reached h = links_go links s confined h looks.0
  frame_goes (frame.Applies operator) l s confined untreated none p looks bare reached h =
      outcome_goes (binary_given operator (newest named (popped s)) (newest named s)) (popped (popped s)) h looks.0
  frame_goes (frame.AppliesAlone operator) l s confined untreated none p looks bare reached h = outcome_goes (unary_given operator (newest named s)) (popped s) h looks.0
  frame_goes (frame.Fills items) l s confined untreated none p looks bare reached h = items_go items s confined h looks.0
  frame_goes (frame.Copies c record_type) l s confined untreated none p looks bare reached h =
      copies_goes (newest named s) c (width_of types record_type) (look s.heap (newest named s)) (popped s) h looks.0
  frame_goes (frame.Creates access count) l s confined untreated none p looks bare reached h =
      new_goes access count (words_of types access) (home_of access s.masters) s p h looks.0
  frame_goes (frame.Stores x) l s confined untreated none p looks bare reached h = put_goes x (newest named s) (popped s) h looks.0
  frame_goes (frame.Targets c right) l s confined untreated none p looks bare reached h =
      target_goes (newest named s) c right (look s.heap (newest named s)) (popped s) reached confined h looks.0
  frame_goes (frame.StoresIn o c) l s confined untreated none p looks bare reached h = store_goes o c (newest named s) (look s.heap o) (popped s) h looks.0
  frame_goes (frame.TargetsRecord c record_type items) l s confined untreated none p looks bare reached h =
      record_target_goes (newest named s) c (width_of types record_type) items (look s.heap (newest named s)) (popped s) confined h
  frame_goes (frame.StoresRecord o c count) l s confined untreated none p looks bare reached h =
      store_record_goes o c count (look s.heap o) s h looks.0
  frame_goes (frame.Assigns record_type) l s confined untreated none p looks bare reached h = absurd confined
  frame_goes (frame.Receives c) l s confined untreated none p looks bare reached h =
      receive_goes (newest named s) c (look s.heap (newest named s)) (popped s) h looks.0
  frame_goes (frame.FreesIn access c) l s confined untreated none p looks bare reached h =
      free_in_goes access (newest named s) c (look s.heap (newest named s)) (popped s) refl reached looks.1 h looks.0
  frame_goes (frame.Declares x) l s confined untreated none p looks bare reached h = stays (owned (declared x) (put x (newest named s) (popped s))) h looks.0
  frame_goes (frame.DeclaresRecord x record_type) l s confined untreated none p looks bare reached h = absurd confined
  frame_goes (frame.Treats v treatment tasks) l s confined untreated none p looks bare reached h = absurd untreated
  frame_goes (frame.Awaits v by done of part tasks) l s confined untreated none p looks bare reached h = absurd confined
  frame_goes frame.Confines l s confined untreated none p looks bare reached h = absurd confined
  frame_goes (frame.Resumes mode) l s confined untreated none p looks bare reached h = absurd confined
  frame_goes frame.Writes l s confined untreated none p looks bare reached h = line_goes (reads_integer (newest named s)) (popped s) h looks.0
  frame_goes (frame.Ends v) l s confined untreated none p looks bare reached h = end_goes v (look s.heap v) s confined h looks.0
  frame_goes (frame.GivesBack v cause pool) l s confined untreated none p looks bare reached h = back_goes v cause pool (lent s.heap v) s confined h looks.0
  frame_goes (frame.Clears x) l s confined untreated none p looks bare reached h = put_goes x Null s h looks.0
  frame_goes (frame.ClearsIn o c) l s confined untreated none p looks bare reached h = store_goes o c Null (look s.heap o) s h looks.0

  -- A jump lands in confined statements, if it lands in any, and comes out of no operation.
  abbrev LandsConfined : Landing Value → Type 0
  LandsConfined (goes_in fs) = StatementsAreConfined w.tracks.first reaches fs
  LandsConfined (breaks_off v by done) = ⊥
  LandsConfined l = Unit {0}

  -- A jump comes out of no operation.
  operation_confined : (f : Frame Value) → FrameIsConfined w reaches f → LandsConfined (operation_landing f)
  operation_confined (frame.Awaits v by done of part tasks) confined = absurd confined
  operation_confined f confined = tt

  -- A jump lands behind a frame, or where it would land else.
  tested_confined : (b : Bool) (l : Landing Value) → LandsConfined l → LandsConfined (if b then goes_behind else l)
  tested_confined true l confined = tt
  tested_confined false l confined = confined

  -- An exception lands in confined statements of a handler, or in none.
  handler_confined : (e : Exception) (hs : HandlersForm) → HandlersAreConfined w.tracks.first reaches hs → LandsConfined (handler_landing (handler_of e hs))
  handler_confined e no_handlers confined = tt
  handler_confined e (a_handler choices fs hs) confined = by_test (some_takes e choices) (handler_confined e hs confined.1)
    where
      by_test :
          (takes : Bool) → LandsConfined (handler_landing (handler_of e hs)) → LandsConfined (handler_landing (if takes then Some fs else handler_of e hs))
      by_test true more = confined.0
      by_test false more = more

  -- An exception lands in confined statements, if it lands in any.
  exception_confined : (e : Exception) (f : Frame Value) → FrameIsConfined w reaches f → LandsConfined (exception_landing e f)
  exception_confined e (frame.Handles hs) confined = handler_confined e hs confined
  exception_confined e (frame.Awaits v by done of part tasks) confined = absurd confined
  exception_confined e f confined = tt

  -- A jump in any mode lands in confined statements, if it lands in any.
  landing_confined : (m : Mode) (f : Frame Value) → FrameIsConfined w reaches f → LandsConfined (landing m f)
  landing_confined Running f confined = tt
  landing_confined (Raising e) f confined = exception_confined e f confined
  landing_confined Exiting f confined = tested_confined (is_loop f) (operation_landing f) (operation_confined f confined)
  landing_confined Returning f confined = tested_confined (is_return f) (operation_landing f) (operation_confined f confined)

  -- A body goes on as a jump lands.
  landed_goes : (l : Landing Value) (m : Mode) (s : State) → LandsConfined l → Goes s (landed named l m s)
  landed_goes passes_on m s confined h g = stays s h g
  landed_goes goes_behind m s confined h g = stays (record s { mode = Running }) h g
  landed_goes (goes_in no_stmts) m s confined h g = tt
  landed_goes (goes_in (a_stmt f fs)) m s confined h g = stays (record s { control = frame.Does (a_stmt f fs) ∷ s.control; mode = Running }) (confined, h) refl
  landed_goes (breaks_off v by done) m s confined h g = absurd confined
  landed_goes escapes m s confined h g = tt

  -- A body goes on as a master stops a jump, or the jump lands.
  pass_goes : (master : Bool) (l : Landing Value) (m : Mode) (s : State) → LandsConfined l → Goes s (pass_next named master l m s)
  pass_goes true l m s confined h g = stays (record s { control = frame.Leaves m ∷ s.control; mode = Running }) (tt, h) refl
  pass_goes false l m s confined h g = landed_goes l m s confined h g

  -- A body goes on as a jump comes to a frame.
  jump_goes :
      (m : Mode) (f : Frame Value) (s : State) → FrameIsConfined w reaches f → Goes s (pass_next named (is_master f) (landing m f) m (unwound named m f s))
  jump_goes m (frame.Returns actuals references) s confined h g = absurd confined
  jump_goes m f s confined h g = pass_goes (is_master f) (landing m f) m s (landing_confined m f confined) h g

  -- A body goes on by a step in any mode.
  step_goes :
      (m : Mode) (k : List (Frame Value)) (s : State) → IsWatched w (places s) s.heap
      → FirstLooksElsewhere w.object (record s { mode = m; control = k }) m k → FirstAssignsBare types m k → IsWithin k s.masters → BodyIsConfined w reaches k
      → OperandsAreConfined w reaches m k (operands s) → AllGoOn w reaches s.heap (next types bodies (record s { mode = m; control = k }))
  unfolding next
  step_goes Running [] s p looks bare within h reached = tt
  step_goes Running (f ∷ k) s p looks bare within h reached =
      let c = unless_it_ends (is_return f) (FrameIsConfined w reaches f × BodyIsConfined w reaches k) within.0 h in
      frame_goes f (f ∷ k) (record s { mode = Running; control = k }) c.0 within.1 within.2 p looks bare reached c.1
  step_goes (Raising e) [] s p looks bare within h reached = tt
  step_goes (Raising e) (f ∷ k) s p looks bare within h reached =
      let c = unless_it_ends (is_return f) (FrameIsConfined w reaches f × BodyIsConfined w reaches k) within.0 h in
      jump_goes (Raising e) f (record s { mode = Raising e; control = k }) c.0 c.1 looks
  step_goes Exiting [] s p looks bare within h reached = tt
  step_goes Exiting (f ∷ k) s p looks bare within h reached =
      let c = unless_it_ends (is_return f) (FrameIsConfined w reaches f × BodyIsConfined w reaches k) within.0 h in
      jump_goes Exiting f (record s { mode = Exiting; control = k }) c.0 c.1 looks
  step_goes Returning [] s p looks bare within h reached = tt
  step_goes Returning (f ∷ k) s p looks bare within h reached =
      let c = unless_it_ends (is_return f) (FrameIsConfined w reaches f × BodyIsConfined w reaches k) within.0 h in
      jump_goes Returning f (record s { mode = Returning; control = k }) c.0 c.1 looks

  -- The next step of a confined body leaves it so, and its object stays.
  pub goes_on :
      (s : State) → IsWatched w (places s) s.heap → LooksElsewhere w s → AssignsBare types s → IsWithin s.control s.masters → IsConfined w reaches s
      → AllGoOn w reaches s.heap (next types bodies s)
  goes_on s p looks bare within confined = step_goes s.mode s.control s p looks bare within confined.control confined.operands
