-- Forms are evaluated, and an object is allocated.

use Rattle.std.proofs.Common.{◌≡◌, ℕ, Bool, true, false, List, [], ◌∷◌, ◌++◌, drop, Option, Some, None, Result, Ok, Err, refl, sym, ap, ◌∙◌}
use Rattle.std.specs.Prelude.{not}
use Rattle.ada_values.specs.declared.value.Value.{Value as ScalarValue}
use Rattle.ada_values.specs.declared.operator.BinaryOperator.{BinaryOperator}
use Rattle.ada_values.specs.declared.operator.UnaryOperator.{UnaryOperator}
use Rattle.ada_values.specs.declared.fault.OperatorFault.{OperatorFault}
use Rattle.ada_values.specs.declared.fault.OperatorFault.TheVariants.{Overflow, DivisionByZero, WrongType}
use Rattle.ada_values.specs.Outcome.{outcome_of, unary_outcome_of}
use Rattle.ada_program.specs.declared.program.TypeDefinition.{TypeDefinition}
use Rattle.ada_program.specs.declared.program.Exception.TheVariants.{ConstraintError, StorageError}
use Rattle.ada_program.specs.Form.{ExpressionForm, integer, boolean, reads, is_null, applied_to, chained, LinksForm, no_more_links, a_link, ItemForm, null_item, item_of_path, item_of_value, item_of_record, RightForm, nothing, value_of, allocates, allocates_default, computes}
use Rattle.ada_program.specs.ProgramForm.{BodyForm}
use Rattle.ada_program.specs.Typed.{words_of}
use Rattle.ada_parts.specs.declared.tasks.Direction.TheVariants.{PartsFirst}
use Rattle.ada_parts.specs.Task.{Task}
use Rattle.ada_meaning.specs.declared.event.Birth.TheVariants.{Creation}
use Rattle.ada_meaning.specs.declared.state.Mode.TheVariants.{Running}
use Rattle.ada_meaning.specs.declared.state.Value.{Value}
use Rattle.ada_meaning.specs.declared.state.Value.TheVariants.{Null, Names, Scalar, Part}
use Rattle.ada_meaning.specs.Event.{Quiet, Allocate}
use Rattle.ada_meaning.specs.Frame.{Treatment, begins, Frame}
use Rattle.ada_meaning.specs.Frame as frame
use Rattle.ada_meaning.specs.State.{Activation, Destination, counted}
use Rattle.ada_meaning.specs.Step.{asks, all_tasks, treating, at, raised, computed, newest, expression_next, null_test_next, is_decided, link_next, links_next, outcome_next, item_next, items_next, new_cell, granted, answered, new_next, initialized, right_next}
use Rattle.ada_meaning.specs.Named.{Object, State, named, as_value, unary_given, binary_given, reads_boolean, created}
use Rattle.ada_tracked.specs.Forms.{seen_expression, seen_links, seen_item, seen_items, seen_right}
use Rattle.ada_tracked.specs.Frames.{View, seen_control, blanked, tracked_values}
use Rattle.ada_tracked.specs.Simple.{ExpressionIsSimple, ItemIsSimple, ItemsAreSimple, RightIsSimple}
use Rattle.ada_tracked.specs.Seen.{awaits_holder, seen_state, Seen, plainly, IsWatched}
use Rattle.ada_tracked.specs.Looking.{ExpressionLooksElsewhere, ItemsLookElsewhere, RightLooksElsewhere}
use Rattle.ada_tracked.specs.Law.{Shown}
use Rattle.ada_tracked.proofs.Lists.{clear}
use Rattle.ada_tracked.proofs.Heaps.{create_blanked, values_created, created_same}
use Rattle.ada_tracked.proofs.Found.{running, Stays, plain, idly}
use Rattle.ada_tracked.proofs.Named.{named_shown, record_shown}

-- A state by what changes in a step.
abbrev pub made_of : Activation Value → List (Activation Value) → State → (places operands : List Value) → List Object → List (Frame Value) → State
made_of a rest s ps vs h k = record s { activations = record a { places = ps; operands = vs } ∷ rest; heap = h; control = k }

pub same_made : (a : Activation Value) (rest : List (Activation Value)) (s : State) (ps qs us vs : List Value) (g h : List Object) (k l : List (Frame Value)) → ps ≡ qs → us ≡ vs → g ≡ h → k ≡ l → made_of a rest s ps us g k ≡ made_of a rest s qs vs h l
same_made a rest s ps qs us vs g h k l p o q r =
    ap (λ (xs : List Value). made_of a rest s xs us g k) p ∙ ap (λ (xs : List Value). made_of a rest s qs xs g k) o
    ∙ ap (λ (xs : List Object). made_of a rest s qs vs xs k) q ∙ ap (λ (xs : List (Frame Value)). made_of a rest s qs vs h xs) r

-- What is done to the controlled parts of an object is seen as it is.
pub treating_seen : (w : View) (v : Value) (treatment : Treatment) (tasks : List Task) (k : List (Frame Value)) → seen_control w (treating v treatment tasks k) ≡ treating v treatment tasks (seen_control w k)
treating_seen w v treatment [] k = refl
treating_seen w v treatment (task ∷ tasks) k = refl

-- Where nothing waits for an object, nothing does in front of it either.
pub treating_calm : (v : Value) (treatment : Treatment) (tasks : List Task) (k : List (Frame Value)) → awaits_holder k ≡ false → awaits_holder (treating v treatment tasks k) ≡ false
treating_calm v treatment [] k calm = calm
treating_calm v treatment (task ∷ tasks) k calm = refl

module _ (types : List TypeDefinition) (bodies : List BodyForm) (w : View) where
  pub expression_shown : (t : State) (e : ExpressionForm) (a : Activation Value) (rest : List (Activation Value)) (s : State) → ExpressionIsSimple w.tracks.first e → IsWatched w a.places s.heap → ExpressionLooksElsewhere w.object (at (frame.Computes e ∷ s.control) (running a rest s)) e → awaits_holder s.control ≡ false → Stays types bodies w (running a rest s) t (expression_next named (seen_expression w.tracks e) (seen_state w (running a rest s))) → Shown types bodies w t (expression_next named e (running a rest s)) (expression_next named (seen_expression w.tracks e) (seen_state w (running a rest s)))
  expression_shown t (integer i) a rest s simple p looks calm stays = idly types bodies w t Quiet (computed (named.integer i) (running a rest s)) calm
  expression_shown t (boolean b) a rest s simple p looks calm stays = idly types bodies w t Quiet (computed (named.boolean b) (running a rest s)) calm
  expression_shown t (reads path) a rest s simple p looks calm stays = named_shown types bodies w t path a rest s simple p looks calm stays
  expression_shown t (is_null equal path) a rest s simple p looks calm stays =
      named_shown types bodies w t path a rest (at (frame.TestsNull equal ∷ s.control) s) simple p looks refl stays
  expression_shown t (applied_to operator e) a rest s simple p looks calm stays =
      plain types bodies w t Quiet (at (frame.Computes e ∷ frame.AppliesAlone operator ∷ s.control) (running a rest s)) tt
  expression_shown t (chained e links) a rest s simple p looks calm stays =
      plain types bodies w t Quiet (at (frame.Computes e ∷ frame.Continues links ∷ s.control) (running a rest s)) tt

  pub null_test_shown : (t : State) (equal : Bool) (found : Option Bool) (a : Activation Value) (rest : List (Activation Value)) (s : State) → awaits_holder s.control ≡ false → Shown types bodies w t (null_test_next named equal found (running a rest s)) (null_test_next named equal found (seen_state w (running a rest s)))
  null_test_shown t true None a rest s calm = refl
  null_test_shown t false None a rest s calm = refl
  null_test_shown t true (Some null) a rest s calm = idly types bodies w t Quiet (computed (named.boolean null) (running a rest s)) calm
  null_test_shown t false (Some null) a rest s calm = idly types bodies w t Quiet (computed (named.boolean (not null)) (running a rest s)) calm

  link_shown : (t : State) (decided : Bool) (operator : BinaryOperator) (e : ExpressionForm) (links : LinksForm) (a : Activation Value) (rest : List (Activation Value)) (s : State) → Shown types bodies w t (link_next named decided operator e links (running a rest s)) (link_next named decided operator (seen_expression w.tracks e) (seen_links w.tracks links) (seen_state w (running a rest s)))
  link_shown t true operator e links a rest s = plain types bodies w t Quiet (at (frame.Continues links ∷ s.control) (running a rest s)) tt
  link_shown t false operator e links a rest s =
      plain types bodies w t Quiet (at (frame.Computes e ∷ frame.Applies operator ∷ frame.Continues links ∷ s.control) (running a rest s)) tt

  pub links_shown : (t : State) (links : LinksForm) (a : Activation Value) (rest : List (Activation Value)) (s : State) → awaits_holder s.control ≡ false → Shown types bodies w t (links_next named links (running a rest s)) (links_next named (seen_links w.tracks links) (seen_state w (running a rest s)))
  links_shown t no_more_links a rest s calm = idly types bodies w t Quiet (running a rest s) calm
  links_shown t (a_link operator e links) a rest s calm =
      link_shown t (is_decided named operator (reads_boolean (newest named (running a rest s)))) operator e links a rest s

  outcome_shown : (t : State) (given : Result ScalarValue OperatorFault) (a : Activation Value) (rest : List (Activation Value)) (s : State) → awaits_holder s.control ≡ false → Shown types bodies w t (outcome_next named (as_value given) (running a rest s)) (outcome_next named (as_value given) (seen_state w (running a rest s)))
  outcome_shown t (Ok v) a rest s calm = idly types bodies w t Quiet (computed (Scalar v) (running a rest s)) calm
  outcome_shown t (Err Overflow) a rest s calm = plain types bodies w t Quiet (raised ConstraintError (running a rest s)) tt
  outcome_shown t (Err DivisionByZero) a rest s calm = plain types bodies w t Quiet (raised ConstraintError (running a rest s)) tt
  outcome_shown t (Err WrongType) a rest s calm = refl

  pub unary_shown : (t : State) (operator : UnaryOperator) (v : Value) (a : Activation Value) (rest : List (Activation Value)) (s : State) → awaits_holder s.control ≡ false → Shown types bodies w t (outcome_next named (unary_given operator v) (running a rest s)) (outcome_next named (unary_given operator v) (seen_state w (running a rest s)))
  unary_shown t operator Null a rest s calm = refl
  unary_shown t operator (Names o) a rest s calm = refl
  unary_shown t operator (Scalar v) a rest s calm = outcome_shown t (unary_outcome_of operator v) a rest s calm
  unary_shown t operator (Part o place) a rest s calm = refl

  pub binary_shown : (t : State) (operator : BinaryOperator) (v u : Value) (a : Activation Value) (rest : List (Activation Value)) (s : State) → awaits_holder s.control ≡ false → Shown types bodies w t (outcome_next named (binary_given operator v u) (running a rest s)) (outcome_next named (binary_given operator v u) (seen_state w (running a rest s)))
  binary_shown t operator Null u a rest s calm = refl
  binary_shown t operator (Names o) u a rest s calm = refl
  binary_shown t operator (Scalar v) Null a rest s calm = refl
  binary_shown t operator (Scalar v) (Names o) a rest s calm = refl
  binary_shown t operator (Scalar v) (Scalar u) a rest s calm = outcome_shown t (outcome_of operator v u) a rest s calm
  binary_shown t operator (Scalar v) (Part o place) a rest s calm = refl
  binary_shown t operator (Part o place) u a rest s calm = refl

  -- Items.
  item_shown : (t : State) (i : ItemForm) (is : List ItemForm) (a : Activation Value) (rest : List (Activation Value)) (s : State) → ItemIsSimple w.tracks.first i → IsWatched w a.places s.heap → ItemsLookElsewhere w.object (running a rest s) (i ∷ is) → awaits_holder s.control ≡ false → Stays types bodies w (running a rest s) t (item_next named (seen_item w.tracks i) (seen_state w (running a rest s))) → Shown types bodies w t (item_next named i (running a rest s)) (item_next named (seen_item w.tracks i) (seen_state w (running a rest s)))
  item_shown t null_item is a rest s simple p looks calm stays = idly types bodies w t Quiet (computed Null (running a rest s)) calm
  item_shown t (item_of_path path) is a rest s simple p looks calm stays = named_shown types bodies w t path a rest s simple p looks calm stays
  item_shown t (item_of_value e) is a rest s simple p looks calm stays = plain types bodies w t Quiet (at (frame.Computes e ∷ s.control) (running a rest s)) tt
  item_shown t (item_of_record q) is a rest s simple p looks calm stays = record_shown types bodies w t q a rest s simple p looks stays

  pub items_shown : (t : State) (items : List ItemForm) (a : Activation Value) (rest : List (Activation Value)) (s : State) → ItemsAreSimple w.tracks.first items → IsWatched w a.places s.heap → ItemsLookElsewhere w.object (at (frame.Fills items ∷ s.control) (running a rest s)) items → awaits_holder s.control ≡ false → Stays types bodies w (running a rest s) t (items_next named (seen_items w.tracks items) (seen_state w (running a rest s))) → Shown types bodies w t (items_next named items (running a rest s)) (items_next named (seen_items w.tracks items) (seen_state w (running a rest s)))
  items_shown t [] a rest s simple p looks calm stays = idly types bodies w t Quiet (running a rest s) calm
  items_shown t (i ∷ is) a rest s simple p looks calm stays =
      item_shown t i is a rest (at (frame.Fills is ∷ s.control) s) simple.0 p (items_kept i is looks) refl stays
    where
      items_kept : (i : ItemForm) (is : List ItemForm) → ItemsLookElsewhere w.object (at (frame.Fills (i ∷ is) ∷ s.control) (running a rest s)) (i ∷ is) → ItemsLookElsewhere w.object (running a rest (at (frame.Fills is ∷ s.control) s)) (i ∷ is)
      items_kept null_item is looks = tt
      items_kept (item_of_path path) is looks = looks
      items_kept (item_of_value e) is looks = tt
      items_kept (item_of_record q) is looks = looks

  -- What is assigned.
  pub right_shown : (t : State) (right : RightForm) (a : Activation Value) (rest : List (Activation Value)) (s : State) → RightIsSimple w.tracks.first right → IsWatched w a.places s.heap → RightLooksElsewhere w.object (at (frame.Evaluates right ∷ s.control) (running a rest s)) right → awaits_holder s.control ≡ false → Stays types bodies w (running a rest s) t (right_next named types (seen_right w.tracks right) (seen_state w (running a rest s))) → Shown types bodies w t (right_next named types right (running a rest s)) (right_next named types (seen_right w.tracks right) (seen_state w (running a rest s)))
  right_shown t nothing a rest s simple p looks calm stays = idly types bodies w t Quiet (computed Null (running a rest s)) calm
  right_shown t (value_of path) a rest s simple p looks calm stays = named_shown types bodies w t path a rest s simple p looks calm stays
  right_shown t (allocates access items) a rest s simple p looks calm stays =
      plain types bodies w t Quiet (at (frame.Fills items ∷ frame.Creates access (words_of types access) ∷ s.control) (running a rest s)) tt
  right_shown t (allocates_default access) a rest s simple p looks calm stays =
      plain types bodies w t Quiet (at (frame.Creates access (words_of types access) ∷ s.control) (initialized named types access (running a rest s))) tt
  right_shown t (computes e) a rest s simple p looks calm stays = plain types bodies w t Quiet (at (frame.Computes e ∷ s.control) (running a rest s)) tt

  -- A new object.
  granted_seen : (access count words : ℕ) (home : Destination) (a : Activation Value) (rest : List (Activation Value)) (s : State) → IsWatched w a.places s.heap → granted named types access count words home (seen_state w (running a rest s)) ≡ seen_state w (granted named types access count words home (running a rest s))
  granted_seen access count words home a rest s p =
      let cell = new_cell named types access count home (running a rest s) in
      let v = created s.heap words in
      let z = record (running a rest s) { allocated = counted s.allocated } in
      let tasks = all_tasks types access PartsFirst in
      let name : created (blanked w s.heap) words ≡ v = created_same w s.heap p.object p.at_object words in
      same_made a rest z (a.places ++ tracked_values w s.heap) (a.places ++ tracked_values w (named.create s.heap words cell))
      (created (blanked w s.heap) words ∷ drop count a.operands) (v ∷ drop count a.operands)
      (named.create (blanked w s.heap) words cell) (blanked w (named.create s.heap words cell))
      (treating (created (blanked w s.heap) words) (begins Creation []) tasks (seen_control w s.control)) (seen_control w (treating v (begins Creation []) tasks s.control))
      (ap (λ (vs : List Value). a.places ++ vs) (sym (values_created w s.heap p.object p.at_object words cell)))
      (ap (λ (u : Value). u ∷ drop count a.operands) name)
      (create_blanked w s.heap p.object p.at_object words cell)
      (ap (λ (u : Value). treating u (begins Creation []) tasks (seen_control w s.control)) name ∙ sym (treating_seen w v (begins Creation []) tasks s.control))

  answered_seen : (access count words : ℕ) (home : Destination) (a : Activation Value) (rest : List (Activation Value)) (s : State) → IsWatched w a.places s.heap → awaits_holder s.control ≡ false → (given : Bool) → Seen types bodies w (answered named types access count words home (running a rest s) given) (answered named types access count words home (seen_state w (running a rest s)) given)
  answered_seen access count words home a rest s p calm true =
      let k = treating (created s.heap words) (begins Creation []) (all_tasks types access PartsFirst) s.control in
      plainly (clear w.object Running k (created s.heap words ∷ drop count a.operands) (treating_calm (created s.heap words) (begins Creation []) (all_tasks types access PartsFirst) s.control calm))
      (granted_seen access count words home a rest s p)
  answered_seen access count words home a rest s p calm false = plainly tt refl

  pub new_shown : (t : State) (access count words : ℕ) (home : Option Destination) (a : Activation Value) (rest : List (Activation Value)) (s : State) → IsWatched w a.places s.heap → awaits_holder s.control ≡ false → Shown types bodies w t (new_next named types access count words home (running a rest s)) (new_next named types access count words home (seen_state w (running a rest s)))
  new_shown t access count words None a rest s p calm = plain types bodies w t Quiet (raised StorageError (running a rest s)) tt
  new_shown t access count words (Some home) a rest s p calm = (
    answered named types access count words home (seen_state w (running a rest s)),
    ap (λ (v : Value). asks (Allocate home.pool 0 words v) (answered named types access count words home (seen_state w (running a rest s)))) (created_same w s.heap p.object p.at_object words),
    answered_seen access count words home a rest s p calm,
  )
