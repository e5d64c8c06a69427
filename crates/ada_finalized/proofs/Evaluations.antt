-- Steps of paths, expressions, allocators, and of a Free.

use Rattle.std.proofs.Common.{◌≡◌, ℕ, Bool, true, false, if◌then◌else◌, List, [], ◌∷◌, Option, Some, None, Result, Ok, Err, refl, subst}
use Rattle.std.specs.List.{slice_get}
use Rattle.ada_program.specs.declared.program.TypeDefinition.{TypeDefinition}
use Rattle.ada_program.specs.Form.{RecordPathForm, ExpressionForm, integer, boolean, reads, is_null, applied_to, chained, LinksForm, no_more_links, a_link, ItemForm, null_item, item_of_path, item_of_value, item_of_record, RightForm, nothing, value_of, allocates, allocates_default, computes}
use Rattle.ada_values.specs.declared.operator.BinaryOperator.{BinaryOperator}
use Rattle.ada_values.specs.declared.fault.OperatorFault.{OperatorFault}
use Rattle.ada_values.specs.declared.fault.OperatorFault.TheVariants.{Overflow, DivisionByZero, WrongType}
use Rattle.ada_meaning.specs.declared.state.Place.{Place}
use Rattle.ada_meaning.specs.declared.state.Value.{Value}
use Rattle.ada_meaning.specs.declared.event.Birth.TheVariants.{Creation}
use Rattle.ada_meaning.specs.declared.event.Halt.TheVariants.{Erroneous}
use Rattle.ada_meaning.specs.declared.event.Why.TheVariants.{GivesElsewhere}
use Rattle.ada_meaning.specs.Event.{Quiet}
use Rattle.ada_meaning.specs.Run.{Event}
use Rattle.ada_meaning.specs.Frame.{Frame, evaluating, begins, is_master, Landing, passes_on, goes_behind, goes_in, landing}
use Rattle.ada_meaning.specs.Frame as frame
use Rattle.ada_meaning.specs.State.{Destination, home_of, pool_freed_to}
use Rattle.ada_meaning.specs.Heap.{Cell, Found, on_null, on_gone, on_other, finds}
use Rattle.ada_meaning.specs.Step.{record_in, copied_next, copies_next, at, held, newest, reading, component_next, follow_next, path_next, selected, named_next, holder_next, place_in, record_holder_next, expression_next, null_test_next, is_decided, link_next, links_next, outcome_next, item_next, items_next, answered, new_next, new_cell, right_next, same_pool, freeing, free_next, moves, halts, before_last, last_of}
use Rattle.ada_meaning.specs.Named.{State, named, whole, inside, look, standing, reads_boolean}
use Rattle.ada_finalized.proofs.Doings.{Calm, rest, calm_rest}
use Rattle.ada_finalized.proofs.Stacks.{Control}
use Rattle.ada_finalized.proofs.Made.{Mild, Made, keeps, adds, frees, Makes, Does}

module _ (types : List TypeDefinition) where
  -- Paths and expressions.
  pub reading_does : (cs : List ℕ) (v : Value) (s : State) → Made types s.heap s.mode s.next (rest s.control) (reading named cs v s)
  reading_does [] v s = keeps refl refl
  reading_does (c ∷ cs) v s = keeps refl refl

  pub component_does : (v : Value) (cs : List ℕ) (found : Option Value) (s : State) → Does types s (component_next named v cs found s)
  component_does v cs None s = tt
  component_does v cs (Some u) s = (tt, reading_does cs u s)

  pub follow_does : (v : Value) (c : ℕ) (cs : List ℕ) (found : Found (Cell Value)) (s : State) → Does types s (follow_next named v c cs found s)
  follow_does v c cs on_null s = (tt, keeps refl refl)
  follow_does v c cs on_gone s = tt
  follow_does v c cs on_other s = tt
  follow_does v c cs (finds cell) s = component_does v cs (slice_get cell.values c) s

  pub path_does : (cs : List ℕ) (v : Value) (s : State) → Does types s (path_next named cs v s)
  path_does [] v s = (tt, keeps refl refl)
  path_does (c ∷ cs) v s = follow_does v c cs (look s.heap v) s

  pub named_does : (cs : List ℕ) (x : ℕ) (s : State) → Does types s (named_next named cs x s)
  named_does cs x s = path_does (selected named (held named s x) cs) (whole (held named s x)) s

  pub holder_does : (c : ℕ) (cs : List ℕ) (x : ℕ) (frame_of : ℕ → Frame Value) (s : State) → ((n : ℕ) → Calm (frame_of n)) → Does types s (holder_next named c cs x frame_of s)
  holder_does c cs x frame_of s calm =
      let first = inside (held named s x) c in
      let n = last_of first cs in
      subst (λ (left : Control). Makes types s.heap s.mode s.next left (holder_next named c cs x frame_of s)) (calm_rest (frame_of n) s.control (calm n))
      (path_does (before_last first cs) (whole (held named s x)) (at (frame_of n ∷ s.control) s))

  pub record_holder_does : (p : RecordPathForm) (frame_of : Place → Frame Value) (s : State) → ((place : Place) → Calm (frame_of place)) → Does types s (record_holder_next named p frame_of s)
  record_holder_does p frame_of s calm =
      let v = held named s p.object.root in
      let place = place_in named v p.object.selectors p in
      subst (λ (left : Control). Makes types s.heap s.mode s.next left (record_holder_next named p frame_of s)) (calm_rest (frame_of place) s.control (calm place))
      (path_does (selected named v p.object.selectors) (whole v) (at (frame_of place ∷ s.control) s))

  pub expression_does : (e : ExpressionForm) (s : State) → Does types s (expression_next named e s)
  expression_does (integer i) s = (tt, keeps refl refl)
  expression_does (boolean b) s = (tt, keeps refl refl)
  expression_does (reads path) s = named_does path.selectors path.root s
  expression_does (is_null equal path) s = named_does path.selectors path.root (at (frame.TestsNull equal ∷ s.control) s)
  expression_does (applied_to operator e) s = (tt, keeps refl refl)
  expression_does (chained e links) s = (tt, keeps refl refl)

  pub null_test_does : (equal : Bool) (null : Option Bool) (s : State) → Does types s (null_test_next named equal null s)
  null_test_does equal None s = tt
  null_test_does true (Some null) s = (tt, keeps refl refl)
  null_test_does false (Some null) s = (tt, keeps refl refl)

  pub link_does : (decided : Bool) (operator : BinaryOperator) (e : ExpressionForm) (links : LinksForm) (s : State) → Does types s (link_next named decided operator e links s)
  link_does true operator e links s = (tt, keeps refl refl)
  link_does false operator e links s = (tt, keeps refl refl)

  pub links_do : (links : LinksForm) (s : State) → Does types s (links_next named links s)
  links_do no_more_links s = (tt, keeps refl refl)
  links_do (a_link operator e links) s = link_does (is_decided named operator (reads_boolean (newest named s))) operator e links s

  pub outcome_does : (outcome : Result Value OperatorFault) (s : State) → Does types s (outcome_next named outcome s)
  outcome_does (Ok v) s = (tt, keeps refl refl)
  outcome_does (Err Overflow) s = (tt, keeps refl refl)
  outcome_does (Err DivisionByZero) s = (tt, keeps refl refl)
  outcome_does (Err WrongType) s = tt

  -- Allocators, and what is assigned.
  pub item_does : (item : ItemForm) (s : State) → Does types s (item_next named item s)
  item_does null_item s = (tt, keeps refl refl)
  item_does (item_of_path path) s = named_does path.selectors path.root s
  item_does (item_of_value e) s = (tt, keeps refl refl)
  item_does (item_of_record p) s = record_holder_does p (λ place. frame.Copies place.component p.record_type) s (λ place. tt)

  pub items_do : (items : List ItemForm) (s : State) → Does types s (items_next named items s)
  items_do [] s = (tt, keeps refl refl)
  items_do (i ∷ is) s = item_does i (at (frame.Fills is ∷ s.control) s)

  -- A record that is copied.
  pub copied_does : (o : Value) (found : Option (List Value)) (s : State) → Does types s (copied_next named o found s)
  copied_does o None s = tt
  copied_does o (Some vs) s = (tt, keeps refl refl)

  pub copies_do : (o : Value) (first count : ℕ) (found : Found (Cell Value)) (s : State) → Does types s (copies_next named o first count found s)
  copies_do o first count on_null s = (tt, keeps refl refl)
  copies_do o first count on_gone s = tt
  copies_do o first count on_other s = tt
  copies_do o first count (finds cell) s = copied_does o (record_in cell.values first count) s

  pub answered_does : (access count words : ℕ) (home : Destination) (s : State) → (granted : Bool) → Made types s.heap s.mode s.next (rest s.control) (answered named types access count words home s granted)
  answered_does access count words home s true = adds (new_cell named types access count home s) Creation s.control refl refl refl refl refl refl
  answered_does access count words home s false = keeps refl refl

  pub new_does : (access count words : ℕ) (home : Option Destination) (s : State) → Does types s (new_next named types access count words home s)
  new_does access count words None s = (tt, keeps refl refl)
  new_does access count words (Some home) s = λ granted. (tt, answered_does access count words home s granted)

  pub right_does : (right : RightForm) (s : State) → Does types s (right_next named types right s)
  right_does nothing s = (tt, keeps refl refl)
  right_does (value_of path) s = named_does path.selectors path.root s
  right_does (allocates access items) s = (tt, keeps refl refl)
  right_does (allocates_default access) s = (tt, keeps refl refl)
  right_does (computes e) s = (tt, keeps refl refl)

  -- Free: the object that is found is freed, if it is of the pool.
  pub freeing_does :
      (fits : Bool) (access : ℕ) (v : Value) (cell : Cell Value) (clears : Frame Value) (e : Event) (s : State) → Mild e → Calm clears → standing s.heap v ≡ finds cell
      → Does types s (if fits then moves e (freeing named types access v cell clears s) else halts (Erroneous GivesElsewhere))
  freeing_does true access v cell clears e s mild c found =
      (mild, frees v cell (Some (pool_freed_to (home_of access s.masters))) (clears ∷ s.control) found (calm_rest clears s.control c) refl refl refl refl)
  freeing_does false access v cell clears e s mild c found = tt

  pub free_does : (access x : ℕ) (v : Value) (found : Found (Cell Value)) (s : State) → standing s.heap v ≡ found → Does types s (free_next named types access x v found s)
  free_does access x v on_null s is = (tt, keeps refl refl)
  free_does access x v on_gone s is = tt
  free_does access x v on_other s is = tt
  free_does access x v (finds cell) s is =
      freeing_does (same_pool (Some (pool_freed_to (home_of access s.masters))) cell.home.pool) access v cell (frame.Clears x) Quiet s tt tt is
