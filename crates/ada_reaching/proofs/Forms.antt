-- Forms of a body that shuns some access types: what is evaluated, and what is allocated.

use Rattle.std.proofs.Common.{◌≡◌, ℕ, Bool, true, false, not, ◌||◌, List, [], ◌∷◌, drop, map, Option, Some, None, Result, Ok, Err, refl, sym, ap, ◌∙◌, subst, inl, inr}
use Rattle.std.specs.List.{list_all}
use Rattle.std.proofs.lemmas.Bool.{and_parts, or_cases}
use Rattle.ada_values.specs.declared.operator.BinaryOperator.{BinaryOperator}
use Rattle.ada_values.specs.declared.fault.OperatorFault.{OperatorFault}
use Rattle.ada_values.specs.declared.fault.OperatorFault.TheVariants.{Overflow, DivisionByZero, WrongType}
use Rattle.ada_program.specs.declared.program.Exception.TheVariants.{ConstraintError, StorageError}
use Rattle.ada_program.specs.declared.program.TypeDefinition.{TypeDefinition}
use Rattle.ada_program.specs.Form.{ExpressionForm, integer, boolean, reads, is_null, applied_to, chained, LinksForm, no_more_links, a_link, ItemForm, null_item, item_of_path, item_of_value, item_of_record, RightForm, nothing, value_of, allocates, allocates_default, computes}
use Rattle.ada_program.specs.ProgramForm.{type_form}
use Rattle.ada_program.specs.Typed.{reached_of, words_of}
use Rattle.ada_program.specs.WellFormed.{path_kind}
use Rattle.ada_parts.specs.declared.tasks.Direction.TheVariants.{PartsFirst}
use Rattle.ada_parts.specs.Task.{Task}
use Rattle.ada_meaning.specs.declared.event.Birth.TheVariants.{Creation}
use Rattle.ada_meaning.specs.declared.state.Mode.TheVariants.{Raising}
use Rattle.ada_meaning.specs.declared.state.Value.{Value}
use Rattle.ada_meaning.specs.declared.state.Value.TheVariants.{Null}
use Rattle.ada_meaning.specs.Event.{Quiet}
use Rattle.ada_meaning.specs.Frame.{Treatment, begins}
use Rattle.ada_meaning.specs.Frame as frame
use Rattle.ada_meaning.specs.Heap.{Cell, Found, on_null, on_gone, on_other, finds}
use Rattle.ada_meaning.specs.State.{Destination, counted}
use Rattle.ada_meaning.specs.Step.{moves, with_operands, all_tasks, treating, treated_on, at, operands, set_operands, in_front, newest, record_in, expression_next, null_test_next, is_decided, link_next, links_next, outcome_next, items_next, copied_next, copies_next, initial_values, initialized, new_cell, answered, new_next, right_next}
use Rattle.ada_meaning.specs.Named.{State, named, look, an_integer, a_boolean, created, create, reads_boolean}
use Rattle.ada_quiet.specs.Bare.{has_bare_objects}
use Rattle.ada_untouched.specs.Untouched.{IsInSight}
use Rattle.ada_reaching.specs.Apart.{IsLeftOf, whole}
use Rattle.ada_reaching.specs.Reaching.{IsElsewhere, AreElsewhere, begins_anew}
use Rattle.ada_reaching.specs.Forms.{may_follow, may_start, path_shuns, expression_shuns, links_shun, item_shuns, right_shuns}
use Rattle.ada_reaching.proofs.Elsewhere.{elsewhere_drop, elsewhere_in_front, record_elsewhere, initial_elsewhere}
use Rattle.ada_reaching.proofs.Going.{World, variables_in, Runs, Left, On, Goes, operands_run, created_run, stays, gives, jumps}
use Rattle.ada_reaching.proofs.Paths.{found_there, new_elsewhere, new_in_sight, values_elsewhere, Sound, Fine, named_goes, record_goes}
use Rattle.ada_reaching.proofs.Rooted.{ExpressionIsRooted, ItemsAreRooted, RightIsRooted}
use Rattle.ada_reaching.proofs.Selections.{bare_tasks}
use Rattle.ada_reaching.proofs.Treats.{starting_left}

module _ (w : World) where
  -- The bodies go on as an expression is evaluated.
  pub expression_goes :
      (e : ExpressionForm) (s : State) → Sound w s → expression_shuns w.p.types w.shuns w.apart (variables_in w) e ≡ true
      → ExpressionIsRooted w.p.types (variables_in w) e → Goes w s (expression_next named e s)
  expression_goes (integer i) s sound shun root r h anew = gives w (an_integer i) s tt r h anew
  expression_goes (boolean v) s sound shun root r h anew = gives w (a_boolean v) s tt r h anew
  expression_goes (reads path) s sound shun root r h anew =
      named_goes w path.selectors path.root root.0 s sound root.1 shun r h anew
  expression_goes (is_null equal path) s sound shun root r h anew =
      named_goes w path.selectors path.root root.0 (at (frame.TestsNull equal ∷ s.control) s) sound root.1 shun r (tt, anew, h) refl
  expression_goes (applied_to operator e) s sound shun root r h anew =
      stays w (at (frame.Computes e ∷ frame.AppliesAlone operator ∷ s.control) s) r (shun, refl, (tt, anew, h)) refl
  expression_goes (chained e links) s sound shun root r h anew =
      let both = and_parts _ _ shun in
      stays w (at (frame.Computes e ∷ frame.Continues links ∷ s.control) s) r (both.0, refl, (both.1, anew, h)) refl

  -- The bodies go on as a value is tested for null.
  pub null_test_goes : (equal : Bool) (found : Option Bool) (s : State) → Goes w s (null_test_next named equal found s)
  null_test_goes true None s r h anew = tt
  null_test_goes false None s r h anew = tt
  null_test_goes true (Some null) s r h anew = gives w (a_boolean null) s tt r h anew
  null_test_goes false (Some null) s r h anew = gives w (a_boolean (not null)) s tt r h anew

  -- The bodies go on as an operator of a chain comes next, or what is behind it.
  link_goes :
      (decided : Bool) (operator : BinaryOperator) (e : ExpressionForm) (links : LinksForm) (s : State)
      → expression_shuns w.p.types w.shuns w.apart (variables_in w) e ≡ true → links_shun w.p.types w.shuns w.apart (variables_in w) links ≡ true
      → Goes w s (link_next named decided operator e links s)
  link_goes true operator e links s one more r h anew = stays w (at (frame.Continues links ∷ s.control) s) r (more, anew, h) refl
  link_goes false operator e links s one more r h anew =
      stays w (at (frame.Computes e ∷ frame.Applies operator ∷ frame.Continues links ∷ s.control) s) r
      (one, refl, (tt, refl, (more, anew, h))) refl

  -- The bodies go on as what is left of a chain comes next.
  pub links_go :
      (links : LinksForm) (s : State) → links_shun w.p.types w.shuns w.apart (variables_in w) links ≡ true → Goes w s (links_next named links s)
  links_go no_more_links s shun r h anew = stays w s r h anew
  links_go (a_link operator e links) s shun r h anew =
      let both = and_parts _ _ shun in
      link_goes (is_decided named operator (reads_boolean (newest named s))) operator e links s both.0 both.1 r h anew

  -- The bodies go on as an operator gives a value or raises Constraint_Error.
  pub outcome_goes :
      (given : Result Value OperatorFault) (s : State) → ((v : Value) → given ≡ Ok v → IsElsewhere w.ghosts w.unnamed v) → Goes w s (outcome_next named given s)
  outcome_goes (Ok v) s each r h anew = gives w v s (each v refl) r h anew
  outcome_goes (Err Overflow) s each r h anew = jumps w (Raising ConstraintError) s r h anew
  outcome_goes (Err DivisionByZero) s each r h anew = jumps w (Raising ConstraintError) s r h anew
  outcome_goes (Err WrongType) s each r h anew = tt

  -- The first of some items shuns the types, and so do the others.
  items_apart :
      (i : ItemForm) (is : List ItemForm) → list_all (item_shuns w.p.types w.shuns w.apart (variables_in w)) (i ∷ is) ≡ true
      → (item_shuns w.p.types w.shuns w.apart (variables_in w) i ≡ true) × (list_all (item_shuns w.p.types w.shuns w.apart (variables_in w)) is ≡ true)
  items_apart i is shun =
      and_parts (item_shuns w.p.types w.shuns w.apart (variables_in w) i) (list_all (item_shuns w.p.types w.shuns w.apart (variables_in w)) is) shun

  -- The bodies go on as an item is evaluated.
  pub items_go :
      (items : List ItemForm) (s : State) → Sound w s → list_all (item_shuns w.p.types w.shuns w.apart (variables_in w)) items ≡ true
      → ItemsAreRooted w.p.types (variables_in w) items → Goes w s (items_next named items s)
  items_go [] s sound shun root r h anew = stays w s r h anew
  items_go (null_item ∷ is) s sound shun root r h anew =
      gives w Null (at (frame.Fills is ∷ s.control) s) tt r ((items_apart null_item is shun).1, anew, h) refl
  items_go (item_of_path path ∷ is) s sound shun root r h anew =
      let both = items_apart (item_of_path path) is shun in
      named_goes w path.selectors path.root root.0 (at (frame.Fills is ∷ s.control) s) sound root.1 both.0 r (both.1, anew, h) refl
  items_go (item_of_value e ∷ is) s sound shun root r h anew =
      let both = items_apart (item_of_value e) is shun in
      stays w (at (frame.Computes e ∷ frame.Fills is ∷ s.control) s) r (both.0, refl, (both.1, anew, h)) refl
  items_go (item_of_record q ∷ is) s sound shun root r h anew =
      let both = items_apart (item_of_record q) is shun in
      let two = and_parts (path_shuns w.p.types w.shuns w.apart (variables_in w) q.object) (may_follow w.shuns (path_kind w.p.types (variables_in w) q.object)) both.0 in
      record_goes w q root.0 (λ place. frame.Copies place.component q.record_type) (at (frame.Fills is ∷ s.control) s) sound root.1 two.0
      (ap (may_follow w.shuns) (sym root.2) ∙ two.1) r (λ place. (tt, refl, (both.1, anew, h))) (λ place. refl) (λ may u place is_may. is_may)

  -- The bodies go on as the components of a record are copied, if there is that record.
  copied_goes :
      (v : Value) (found : Option (List Value)) (s : State) → ((vs : List Value) → found ≡ Some vs → AreElsewhere w.ghosts w.unnamed vs)
      → Goes w s (copied_next named v found s)
  copied_goes v None s each r h anew = tt
  copied_goes v (Some vs) s each r h anew =
      stays w (set_operands (in_front vs (operands s)) s)
      (operands_run w (in_front vs (operands s)) s.activations s.masters s.heap
      (elsewhere_in_front w.ghosts w.unnamed vs (operands s) (each vs refl) r.operands) r) h anew

  -- So they do, by what is found of the object in which it lies.
  copies_found :
      (v : Value) (first count : ℕ) (found : Found (Cell Value)) (s : State) → Fine w s → look s.heap v ≡ found
      → Goes w s (copies_next named v first count found s)
  copies_found v first count on_null s fine is r h anew = jumps w (Raising ConstraintError) s r h anew
  copies_found v first count on_gone s fine is r h anew = tt
  copies_found v first count on_other s fine is r h anew = tt
  copies_found v first count (finds cell) s fine is r h anew =
      let f = found_there s.heap v cell is in
      copied_goes v (record_in cell.values first count) s
      (λ vs given.
      record_elsewhere w.ghosts w.unnamed cell.values first count vs given
      (subst (λ (own : Cell Value). AreElsewhere w.ghosts w.unnamed own.values) f.own (values_elsewhere w s.heap r.same fine f.name f.object f.there))) r h anew

  -- So they do as that object is looked for.
  pub copies_go : (v : Value) (first count : ℕ) (s : State) → Fine w s → Goes w s (copies_next named v first count (look s.heap v) s)
  copies_go v first count s fine r h anew = copies_found v first count (look s.heap v) s fine refl r h anew

  module _ (tds : List TypeDefinition) where
    -- The bodies go on as what is assigned is evaluated.
    pub right_goes :
        (right : RightForm) (s : State) → Sound w s → right_shuns w.p.types w.shuns w.apart (variables_in w) right ≡ true
        → RightIsRooted w.p.types (variables_in w) right → Goes w s (right_next named tds right s)
    right_goes nothing s sound shun root r h anew = gives w Null s tt r h anew
    right_goes (value_of path) s sound shun root r h anew =
        named_goes w path.selectors path.root root.0 s sound root.1 shun r h anew
    right_goes (allocates access items) s sound shun root r h anew =
        let both = and_parts _ _ shun in
        stays w (at (frame.Fills items ∷ frame.Creates access (words_of tds access) ∷ s.control) s) r
        (both.1, refl, (ap (λ (bare : Bool). bare || w.apart.starts access) both.0, anew, h)) refl
    right_goes (allocates_default access) s sound shun root r h anew =
        stays w (at (frame.Creates access (words_of tds access) ∷ s.control) (initialized named tds access s))
        (operands_run w (in_front (initial_values named (reached_of tds access)) (operands s)) s.activations s.masters s.heap
        (elsewhere_in_front w.ghosts w.unnamed (initial_values named (reached_of tds access)) (operands s)
        (initial_elsewhere w.ghosts w.unnamed (reached_of tds access)) r.operands) r)
        (shun, anew, h) refl
    right_goes (computes e) s sound shun root r h anew = stays w (at (frame.Computes e ∷ s.control) s) r (shun, anew, h) refl

  -- Where nothing is to be done for an object, no treatment of it comes first.
  pub untreated :
      (v : Value) (treatment : Treatment) (tasks : List Task) (s : State) → tasks ≡ [] → On w s
      → On w (at (treating v treatment tasks s.control) s)
  untreated v treatment [] s none avoiding = avoiding
  untreated v treatment (task ∷ tasks) s none avoiding = absurd (cc)

  module _ (tds : List TypeDefinition) (known : map type_form tds ≡ w.p.types) (own : w.apart.definitions ≡ tds) where
    -- The bodies go on as an object is there that has no controlled parts, or is initialized next.
    started_goes :
        (access : ℕ) (v : Value) (s : State) → may_start w.p.types w.apart access ≡ true → IsInSight w.ghosts v
        → Goes w s (moves Quiet (treated_on named v (begins Creation []) (all_tasks tds access PartsFirst) s))
    started_goes access v s may sight r h anew =
        elim (or_cases (has_bare_objects w.p.types access) (w.apart.starts access) may) [
          | inl bare ↦
              untreated v (begins Creation []) (all_tasks tds access PartsFirst) s (bare_tasks tds w.p.types access PartsFirst known bare) (stays w s r h anew)
          | inr starts ↦
              let all : IsLeftOf w.apart.definitions PartsFirst access (all_tasks tds access PartsFirst) =
              subst (λ (ts : List TypeDefinition). IsLeftOf w.apart.definitions PartsFirst access (all_tasks ts access PartsFirst)) own whole in
              let left = starting_left w v Creation [] (all_tasks tds access PartsFirst) s.control sight
              (record { access = access; may = starts; created = refl; left = all; begun = tt }) h anew in
              stays w (treated_on named v (begins Creation []) (all_tasks tds access PartsFirst) s) r left.0 left.1
        ]

    -- The bodies go on as the request for the words of an object is granted or refused.
    answered_goes :
        (access count words : ℕ) (home : Destination) (s : State) → may_start w.p.types w.apart access ≡ true → Runs w s
        → Left w s.control → begins_anew s.control ≡ true → (given : Bool) → On w (answered named tds access count words home s given)
    answered_goes access count words home s may r h anew true =
        let v = created s.heap words in
        let vs = drop count (operands s) in
        let cell = new_cell named tds access count home s in
        let after = create s.heap words cell in
        let t = record (set_operands (v ∷ vs) s) { allocated = counted s.allocated; heap = after } in
        started_goes access v t may (new_in_sight w s.heap r.same words)
        (created_run w words cell (with_operands (v ∷ vs) s.activations) s.masters s.heap
        (operands_run w (v ∷ vs) s.activations s.masters s.heap
        (new_elsewhere w s.heap r.same words, elsewhere_drop w.ghosts w.unnamed count (operands s) r.operands) r)) h anew
    answered_goes access count words home s may r h anew false = jumps w (Raising StorageError) s r h anew

    -- The bodies go on as the words of an object are asked for.
    pub new_goes :
        (access count words : ℕ) (home : Option Destination) (s : State) → may_start w.p.types w.apart access ≡ true
        → Goes w s (new_next named tds access count words home s)
    new_goes access count words None s may r h anew = jumps w (Raising StorageError) s r h anew
    new_goes access count words (Some home) s may r h anew = answered_goes access count words home s may r h anew
