-- Values that expressions have at once: the steps of the definition that lead to them, and what comes behind.

use Rattle.std.proofs.Common.{Bor, ◌≡◌, ◌≢◌, ℕ, not, ◌==◌, Bool, true, false, List, [], ◌∷◌, map, length, Option, Some, None, Result, Ok, Err, refl, sym, ap, ◌∙◌, subst, ◌-◌, ◌<◌, ◌≤◌, arith}
use Rattle.std.specs.Prelude.{ℤ, pos, ◌+ℤ◌, int_le}
use Rattle.std.specs.List.{slice_index_or}
use Rattle.ada_values.specs.declared.value.Value.{Value as ScalarValue}
use Rattle.ada_values.specs.declared.value.Value.TheVariants as scalar
use Rattle.ada_values.specs.declared.operator.BinaryOperator.{BinaryOperator}
use Rattle.ada_values.specs.declared.operator.UnaryOperator.{UnaryOperator}
use Rattle.ada_values.specs.declared.fault.OperatorFault.{OperatorFault}
use Rattle.ada_values.specs.Outcome.{outcome_of, unary_outcome_of}
use Rattle.ada_program.specs.declared.program.Branch.{Branch}
use Rattle.ada_program.specs.declared.program.Program.{Program}
use Rattle.ada_program.specs.declared.program.Stmt.{Stmt}
use Rattle.ada_program.specs.declared.program.TypeDefinition.{TypeDefinition}
use Rattle.ada_program.specs.declared.program.VariableNo.{VariableNo}
use Rattle.ada_program.specs.Form.{PathForm, ExpressionForm, integer, boolean, reads, is_null, applied_to, chained, LinksForm, no_more_links, a_link, RightForm, nothing, value_of, allocates, allocates_default, computes, StmtsForm, no_stmts, a_stmt, BranchesForm, a_branch, branches_form, stmts_form, StmtForm, stmt_form}
use Rattle.ada_program.specs.ProgramForm.{body_forms}
use Rattle.ada_meaning.specs.declared.state.Value.{Value}
use Rattle.ada_meaning.specs.declared.state.Value.TheVariants.{Null, Names, Scalar, Part}
use Rattle.ada_meaning.specs.declared.state.Mode.{Mode}
use Rattle.ada_meaning.specs.declared.state.Mode.TheVariants.{Running}
use Rattle.ada_meaning.specs.Frame.{Frame, begins_by}
use Rattle.ada_meaning.specs.Frame as frame
use Rattle.ada_meaning.specs.Event.{Quiet}
use Rattle.ada_meaning.specs.Ending.{frame_calls, calls_among, calls_in, calls_operation}
use Rattle.ada_meaning.specs.State.{Activation, begins, begins_in, begins_among}
use Rattle.ada_meaning.specs.Step.{moves, is_decided, named_next, null_test_next, outcome_next, link_next, assign_next, branches_next, decided_next, repeats_next, turned_next, turn_next, exit_next, exited_next, frame_next, running_next, mode_next, at, first_or, older, places_of, operands_of, with_operands, places, newest, computed, popped, put, stmt_next, counts_next}
use Rattle.ada_meaning.specs.Named.{State, next, named, boolean_in, reads_boolean, reads_null, as_value, whole, an_integer}
use Rattle.ada_interpreter.specs.declared.frame.Frame.{Frame as HeldFrame}
use Rattle.ada_interpreter.specs.declared.frame.Frame.TheVariants as held
use Rattle.ada_interpreter.specs.Process.{frame_of}
use Rattle.ada_interpreter.specs.AtOnce.{variable_at_once, test_of, test_at_once, if_given, applied_at_once, both_at_once, link_at_once, value_at_once, links_at_once, right_at_once}
use Rattle.ada_interpreter.specs.CommonSteps.{GoesWithin, stays_within, GoesOn, ComesTo, statements_left, GoesQuietly, counting, newest_counted_to}
use Rattle.ada_interpreter.proofs.CommonStepLemmas.{goes_once, joined, one_within, one_statement_more, quietly_within, none_made}

-- a turn of a `for` loop begins, where there is a next value and a statement
pub counts_turn : (x : ℕ) (value last : ℤ) (statements : List Stmt) (s : State) → int_le value last ≡ true → (length statements == 0) ≡ false → counts_next named x value last (stmts_form statements) s ≡ moves Quiet (at (frame.Does (stmts_form statements) ∷ frame.Counts x (value +ℤ pos 1) last (stmts_form statements) ∷ s.control) (put x (an_integer value) s))
counts_turn x value last [] s up some = absurd (cc some)
counts_turn x value last (f ∷ fs) s up some = rw up refl

module _ (program : Program) (s : State) (a : Activation Value) (suspended : List (Activation Value)) where
  -- The state with this left to do, and these operands.
  abbrev doing : List (Frame Value) → List Value → State
  doing k operands = record s { activations = record a { operands = operands } ∷ suspended; control = k; mode = Running }

  -- An expression leads to a value, if it has one at once.
  abbrev ComputesTo : ExpressionForm → Option ScalarValue → Type 0
  ComputesTo e None = Unit {0}
  ComputesTo e (Some v) = (k : List (Frame Value)) (operands : List Value) → GoesWithin program (doing (frame.Computes e ∷ k) operands) (doing k (Scalar v ∷ operands))

  -- So do the operators that are left of a chain.
  abbrev ContinuesTo : LinksForm → (left value : Option ScalarValue) → Type 0
  ContinuesTo links None value = Unit {0}
  ContinuesTo links (Some v) None = Unit {0}
  ContinuesTo links (Some v) (Some w) = (k : List (Frame Value)) (operands : List Value) → GoesWithin program (doing (frame.Continues links ∷ k) (Scalar v ∷ operands)) (doing k (Scalar w ∷ operands))

  -- one step
  one : (mid last : State) → begins mid ≡ false → calls_operation program.types.items mid ≡ false → next program.types.items (body_forms program) mid ≡ moves Quiet last → GoesWithin program mid last
  one mid last starts calls is = one_within program mid last starts calls is

  -- What the steps of expressions are, form by form.
  reads_step : (path : PathForm) (k : List (Frame Value)) (operands : List Value) → next program.types.items (body_forms program) (doing (frame.Computes (reads path) ∷ k) operands) ≡ named_next named path.selectors path.root (doing k operands)
  unfolding next
  reads_step path k operands = refl

  tests_step : (equal : Bool) (path : PathForm) (k : List (Frame Value)) (operands : List Value) → next program.types.items (body_forms program) (doing (frame.Computes (is_null equal path) ∷ k) operands) ≡ named_next named path.selectors path.root (doing (frame.TestsNull equal ∷ k) operands)
  unfolding next
  tests_step equal path k operands = refl

  tested_step : (equal : Bool) (v : Value) (k : List (Frame Value)) (operands : List Value) → next program.types.items (body_forms program) (doing (frame.TestsNull equal ∷ k) (v ∷ operands)) ≡ null_test_next named equal (reads_null v) (doing k operands)
  unfolding next
  tested_step equal v k operands = refl

  integer_step : (i : ℤ) (k : List (Frame Value)) (operands : List Value) → next program.types.items (body_forms program) (doing (frame.Computes (integer i) ∷ k) operands) ≡ moves Quiet (doing k (Scalar (scalar.Integer i) ∷ operands))
  unfolding next
  integer_step i k operands = refl

  boolean_step : (b : Bool) (k : List (Frame Value)) (operands : List Value) → next program.types.items (body_forms program) (doing (frame.Computes (boolean b) ∷ k) operands) ≡ moves Quiet (doing k (Scalar (scalar.Boolean b) ∷ operands))
  unfolding next
  boolean_step b k operands = refl

  applies_step : (operator : UnaryOperator) (e : ExpressionForm) (k : List (Frame Value)) (operands : List Value) → next program.types.items (body_forms program) (doing (frame.Computes (applied_to operator e) ∷ k) operands) ≡ moves Quiet (doing (frame.Computes e ∷ frame.AppliesAlone operator ∷ k) operands)
  unfolding next
  applies_step operator e k operands = refl

  applied_step : (operator : UnaryOperator) (v : ScalarValue) (k : List (Frame Value)) (operands : List Value) → next program.types.items (body_forms program) (doing (frame.AppliesAlone operator ∷ k) (Scalar v ∷ operands)) ≡ outcome_next named (as_value (unary_outcome_of operator v)) (doing k operands)
  unfolding next
  applied_step operator v k operands = refl

  chained_step : (e : ExpressionForm) (links : LinksForm) (k : List (Frame Value)) (operands : List Value) → next program.types.items (body_forms program) (doing (frame.Computes (chained e links) ∷ k) operands) ≡ moves Quiet (doing (frame.Computes e ∷ frame.Continues links ∷ k) operands)
  unfolding next
  chained_step e links k operands = refl

  last_step : (v : ScalarValue) (k : List (Frame Value)) (operands : List Value) → next program.types.items (body_forms program) (doing (frame.Continues no_more_links ∷ k) (Scalar v ∷ operands)) ≡ moves Quiet (doing k (Scalar v ∷ operands))
  unfolding next
  last_step v k operands = refl

  link_step : (operator : BinaryOperator) (e : ExpressionForm) (links : LinksForm) (v : ScalarValue) (k : List (Frame Value)) (operands : List Value) → next program.types.items (body_forms program) (doing (frame.Continues (a_link operator e links) ∷ k) (Scalar v ∷ operands)) ≡ link_next named (is_decided named operator (boolean_in v)) operator e links (doing k (Scalar v ∷ operands))
  unfolding next
  link_step operator e links v k operands = refl

  both_step : (operator : BinaryOperator) (v w : ScalarValue) (k : List (Frame Value)) (operands : List Value) → next program.types.items (body_forms program) (doing (frame.Applies operator ∷ k) (Scalar w ∷ Scalar v ∷ operands)) ≡ outcome_next named (as_value (outcome_of operator v w)) (doing k operands)
  unfolding next
  both_step operator v w k operands = refl

  -- A variable.
  variable : (path : PathForm) (cs : List ℕ) → path.selectors ≡ cs → (v : Value) → slice_index_or a.places path.root Null ≡ v → ComputesTo (reads path) (variable_at_once cs v)
  variable path (c ∷ cs) is v held = tt
  variable path [] is Null held = tt
  variable path [] is (Names o) held = tt
  variable path [] is (Part o first) held = tt
  variable path [] is (Scalar v) held =
      λ (k : List (Frame Value)) (operands : List Value).
      one (doing (frame.Computes (reads path) ∷ k) operands) (doing k (Scalar v ∷ operands)) refl refl
      (reads_step path k operands ∙ (ap (λ (cs : List ℕ). named_next named cs path.root (doing k operands)) is ∙ ap (λ (x : Value). moves Quiet (doing k (whole x ∷ operands))) held))

  -- A test against null.
  at_test : (equal : Bool) (path : PathForm) → path.selectors ≡ [] → (v : Value) → slice_index_or a.places path.root Null ≡ v → (k : List (Frame Value)) (operands : List Value) → GoesWithin program (doing (frame.Computes (is_null equal path) ∷ k) operands) (doing (frame.TestsNull equal ∷ k) (whole v ∷ operands))
  at_test equal path is v held k operands =
      one (doing (frame.Computes (is_null equal path) ∷ k) operands) (doing (frame.TestsNull equal ∷ k) (whole v ∷ operands)) refl refl
      (tests_step equal path k operands ∙ (ap (λ (cs : List ℕ). named_next named cs path.root (doing (frame.TestsNull equal ∷ k) operands)) is ∙ ap (λ (x : Value). moves Quiet (doing (frame.TestsNull equal ∷ k) (whole x ∷ operands))) held))

  tested : (equal : Bool) (path : PathForm) → path.selectors ≡ [] → (v : Value) → slice_index_or a.places path.root Null ≡ v → (null : Option Bool) → reads_null (whole v) ≡ null → ComputesTo (is_null equal path) (test_of equal null)
  tested equal path is v held None known = tt
  tested true path is v held (Some null) known =
      λ (k : List (Frame Value)) (operands : List Value).
      joined (at_test true path is v held k operands)
      (one (doing (frame.TestsNull true ∷ k) (whole v ∷ operands)) (doing k (Scalar (scalar.Boolean null) ∷ operands)) refl refl
      (tested_step true (whole v) k operands ∙ ap (λ (n : Option Bool). null_test_next named true n (doing k operands)) known))
  tested false path is v held (Some null) known =
      λ (k : List (Frame Value)) (operands : List Value).
      joined (at_test false path is v held k operands)
      (one (doing (frame.TestsNull false ∷ k) (whole v ∷ operands)) (doing k (Scalar (scalar.Boolean (not null)) ∷ operands)) refl refl
      (tested_step false (whole v) k operands ∙ ap (λ (n : Option Bool). null_test_next named false n (doing k operands)) known))

  test : (equal : Bool) (path : PathForm) (cs : List ℕ) → path.selectors ≡ cs → ComputesTo (is_null equal path) (test_at_once cs equal (slice_index_or a.places path.root Null))
  test equal path (c ∷ cs) is = tt
  test equal path [] is = tested equal path is (slice_index_or a.places path.root Null) refl (reads_null (whole (slice_index_or a.places path.root Null))) refl

  -- An operator before its operand.
  alone_by : (operator : UnaryOperator) (e : ExpressionForm) (v : ScalarValue) → ComputesTo e (Some v) → (given : Result ScalarValue OperatorFault) → unary_outcome_of operator v ≡ given → ComputesTo (applied_to operator e) (if_given given)
  alone_by operator e v to (Err fault) is = tt
  alone_by operator e v to (Ok w) is =
      λ (k : List (Frame Value)) (operands : List Value).
      joined (one (doing (frame.Computes (applied_to operator e) ∷ k) operands) (doing (frame.Computes e ∷ frame.AppliesAlone operator ∷ k) operands) refl refl (applies_step operator e k operands))
      (joined (to (frame.AppliesAlone operator ∷ k) operands)
      (one (doing (frame.AppliesAlone operator ∷ k) (Scalar v ∷ operands)) (doing k (Scalar w ∷ operands)) refl refl
      (applied_step operator v k operands ∙ ap (λ (r : Result ScalarValue OperatorFault). outcome_next named (as_value r) (doing k operands)) is)))

  alone : (operator : UnaryOperator) (e : ExpressionForm) (operand : Option ScalarValue) → ComputesTo e operand → ComputesTo (applied_to operator e) (applied_at_once operator operand)
  alone operator e None to = tt
  alone operator e (Some v) to = alone_by operator e v to (unary_outcome_of operator v) refl

  -- A chain.
  chain_by : (e : ExpressionForm) (links : LinksForm) (v : ScalarValue) → ComputesTo e (Some v) → (value : Option ScalarValue) → ContinuesTo links (Some v) value → ComputesTo (chained e links) value
  chain_by e links v to None on = tt
  chain_by e links v to (Some w) on =
      λ (k : List (Frame Value)) (operands : List Value).
      joined (one (doing (frame.Computes (chained e links) ∷ k) operands) (doing (frame.Computes e ∷ frame.Continues links ∷ k) operands) refl refl (chained_step e links k operands))
      (joined (to (frame.Continues links ∷ k) operands) (on k operands))

  chain : (e : ExpressionForm) (links : LinksForm) (left : Option ScalarValue) → ComputesTo e left → ContinuesTo links left (links_at_once a.places left links) → ComputesTo (chained e links) (links_at_once a.places left links)
  chain e links None to on = tt
  chain e links (Some v) to on = chain_by e links v to (links_at_once a.places (Some v) links) on

  -- A link whose left operand decides, and one whose operator is applied.
  decided : (operator : BinaryOperator) (e : ExpressionForm) (links : LinksForm) (v : ScalarValue) → is_decided named operator (boolean_in v) ≡ true → (value : Option ScalarValue) → ContinuesTo links (Some v) value → ContinuesTo (a_link operator e links) (Some v) value
  decided operator e links v is None on = tt
  decided operator e links v is (Some w) on =
      λ (k : List (Frame Value)) (operands : List Value).
      joined (one (doing (frame.Continues (a_link operator e links) ∷ k) (Scalar v ∷ operands)) (doing (frame.Continues links ∷ k) (Scalar v ∷ operands)) refl refl
      (link_step operator e links v k operands ∙ ap (λ (d : Bool). link_next named d operator e links (doing k (Scalar v ∷ operands))) is))
      (on k operands)

  applied_by : (operator : BinaryOperator) (e : ExpressionForm) (links : LinksForm) (v u x : ScalarValue) → is_decided named operator (boolean_in v) ≡ false → ComputesTo e (Some u) → outcome_of operator v u ≡ Ok x → (value : Option ScalarValue) → ContinuesTo links (Some x) value → ContinuesTo (a_link operator e links) (Some v) value
  applied_by operator e links v u x is to gives None on = tt
  applied_by operator e links v u x is to gives (Some w) on =
      λ (k : List (Frame Value)) (operands : List Value).
      joined (one (doing (frame.Continues (a_link operator e links) ∷ k) (Scalar v ∷ operands)) (doing (frame.Computes e ∷ frame.Applies operator ∷ frame.Continues links ∷ k) (Scalar v ∷ operands)) refl refl
      (link_step operator e links v k operands ∙ ap (λ (d : Bool). link_next named d operator e links (doing k (Scalar v ∷ operands))) is))
      (joined (to (frame.Applies operator ∷ frame.Continues links ∷ k) (Scalar v ∷ operands))
      (joined (one (doing (frame.Applies operator ∷ frame.Continues links ∷ k) (Scalar u ∷ Scalar v ∷ operands)) (doing (frame.Continues links ∷ k) (Scalar x ∷ operands)) refl refl
      (both_step operator v u (frame.Continues links ∷ k) operands ∙ ap (λ (r : Result ScalarValue OperatorFault). outcome_next named (as_value r) (doing (frame.Continues links ∷ k) operands)) gives))
      (on k operands)))

  applied : (operator : BinaryOperator) (e : ExpressionForm) (links : LinksForm) (v u : ScalarValue) → is_decided named operator (boolean_in v) ≡ false → ComputesTo e (Some u) → (given : Result ScalarValue OperatorFault) → outcome_of operator v u ≡ given → ContinuesTo links (if_given given) (links_at_once a.places (if_given given) links) → ContinuesTo (a_link operator e links) (Some v) (links_at_once a.places (if_given given) links)
  applied operator e links v u is to (Err fault) gives on = tt
  applied operator e links v u is to (Ok x) gives on = applied_by operator e links v u x is to gives (links_at_once a.places (Some x) links) on

  both : (operator : BinaryOperator) (e : ExpressionForm) (links : LinksForm) (v : ScalarValue) → is_decided named operator (boolean_in v) ≡ false → (right : Option ScalarValue) → ComputesTo e right → ContinuesTo links (both_at_once operator v right) (links_at_once a.places (both_at_once operator v right) links) → ContinuesTo (a_link operator e links) (Some v) (links_at_once a.places (both_at_once operator v right) links)
  both operator e links v is None to on = tt
  both operator e links v is (Some u) to on = applied operator e links v u is to (outcome_of operator v u) refl on

  link : (operator : BinaryOperator) (e : ExpressionForm) (links : LinksForm) (v : ScalarValue) (d : Bool) → is_decided named operator (boolean_in v) ≡ d → (right : Option ScalarValue) → ComputesTo e right → ContinuesTo links (link_at_once d operator v right) (links_at_once a.places (link_at_once d operator v right) links) → ContinuesTo (a_link operator e links) (Some v) (links_at_once a.places (link_at_once d operator v right) links)
  link operator e links v true is right to on = decided operator e links v is (links_at_once a.places (Some v) links) on
  link operator e links v false is right to on = both operator e links v is right to on

  mutual
    -- Quiet steps within the statement lead from an expression to the value that it has at once.
    computing : (e : ExpressionForm) → ComputesTo e (value_at_once a.places e)
    computing (integer i) = λ (k : List (Frame Value)) (operands : List Value). one (doing (frame.Computes (integer i) ∷ k) operands) (doing k (Scalar (scalar.Integer i) ∷ operands)) refl refl (integer_step i k operands)
    computing (boolean b) = λ (k : List (Frame Value)) (operands : List Value). one (doing (frame.Computes (boolean b) ∷ k) operands) (doing k (Scalar (scalar.Boolean b) ∷ operands)) refl refl (boolean_step b k operands)
    computing (reads path) = variable path path.selectors refl (slice_index_or a.places path.root Null) refl
    computing (is_null equal path) = test equal path path.selectors refl
    computing (applied_to operator e) = alone operator e (value_at_once a.places e) (computing e)
    computing (chained e links) = chain e links (value_at_once a.places e) (computing e) (continues (value_at_once a.places e) links)

    continues : (left : Option ScalarValue) (links : LinksForm) → ContinuesTo links left (links_at_once a.places left links)
    continues None links = tt
    continues (Some v) no_more_links = λ (k : List (Frame Value)) (operands : List Value). one (doing (frame.Continues no_more_links ∷ k) (Scalar v ∷ operands)) (doing k (Scalar v ∷ operands)) refl refl (last_step v k operands)
    continues (Some v) (a_link operator e links) =
        link operator e links v (is_decided named operator (boolean_in v)) refl (value_at_once a.places e) (computing e)
        (continues (link_at_once (is_decided named operator (boolean_in v)) operator v (value_at_once a.places e)) links)

  computes_to : (e : ExpressionForm) (v : ScalarValue) → value_at_once a.places e ≡ Some v → (k : List (Frame Value)) (operands : List Value) → GoesWithin program (doing (frame.Computes e ∷ k) operands) (doing k (Scalar v ∷ operands))
  computes_to e v is = subst (ComputesTo e) is (computing e)

  -- The bounds of a `for` loop (5.5).
  ranges_step : (x : ℕ) (fs : StmtsForm) (low high : ℤ) (k : List (Frame Value)) (operands : List Value) → next program.types.items (body_forms program) (doing (frame.Ranges x fs ∷ k) (an_integer high ∷ an_integer low ∷ operands)) ≡ counts_next named x low high fs (doing k operands)
  unfolding next
  ranges_step x fs low high k operands = refl

  ranged_to : (e f : ExpressionForm) (low high : ℤ) (x : ℕ) (statements : List Stmt) (k : List (Frame Value)) → value_at_once a.places e ≡ Some (scalar.Integer low) → value_at_once a.places f ≡ Some (scalar.Integer high) → int_le low high ≡ true → (length statements == 0) ≡ false → GoesWithin program (doing (frame.Computes e ∷ frame.Computes f ∷ frame.Ranges x (stmts_form statements) ∷ k) a.operands) (counting x low high (stmts_form statements) (doing k a.operands))
  ranged_to e f low high x statements k first last up some =
      joined (computes_to e (scalar.Integer low) first (frame.Computes f ∷ frame.Ranges x (stmts_form statements) ∷ k) a.operands)
      (joined (computes_to f (scalar.Integer high) last (frame.Ranges x (stmts_form statements) ∷ k) (an_integer low ∷ a.operands))
      (one (doing (frame.Ranges x (stmts_form statements) ∷ k) (an_integer high ∷ an_integer low ∷ a.operands)) (counting x low high (stmts_form statements) (doing k a.operands)) refl refl
      (ranges_step x (stmts_form statements) low high k a.operands ∙ counts_turn x low high statements (doing k a.operands) up some)))

-- An expression that has a value at once leads to it, in any state that runs.
has_value : (program : Program) (s : State) (e : ExpressionForm) (v : ScalarValue) (k : List (Frame Value)) (activations : List (Activation Value)) → activations ≢ [] → value_at_once (places_of activations) e ≡ Some v → GoesWithin program (record s { activations = activations; control = frame.Computes e ∷ k; mode = Running }) (record s { activations = with_operands (Scalar v ∷ operands_of activations) activations; control = k; mode = Running })
has_value program s e v k [] some is = absurd (some refl)
has_value program s e v k (a ∷ suspended) some is = computes_to program s a suspended e v is k a.operands

pub goes_to_value : (program : Program) (s : State) (e : ExpressionForm) (v : ScalarValue) (k : List (Frame Value)) → s.mode ≡ Running → s.activations ≢ [] → value_at_once (places s) e ≡ Some v → GoesWithin program (at (frame.Computes e ∷ k) s) (computed (Scalar v) (at k s))
goes_to_value program s e v k runs some is =
    subst (λ (m : Mode). GoesWithin program (record s { control = frame.Computes e ∷ k; mode = m }) (record s { activations = with_operands (Scalar v ∷ operands_of s.activations) s.activations; control = k; mode = m })) (sym runs) (has_value program s e v k s.activations some is)

-- The first turn of a `for` loop whose bounds are known at once begins.
pub ranged : (program : Program) (s : State) (e f : ExpressionForm) (low high : ℤ) (x : ℕ) (statements : List Stmt) (k : List (Frame Value)) → s.mode ≡ Running → s.activations ≢ [] → value_at_once (places s) e ≡ Some (scalar.Integer low) → value_at_once (places s) f ≡ Some (scalar.Integer high) → int_le low high ≡ true → (length statements == 0) ≡ false → GoesWithin program (at (frame.Computes e ∷ frame.Computes f ∷ frame.Ranges x (stmts_form statements) ∷ k) s) (counting x low high (stmts_form statements) (at k s))
ranged program s e f low high x statements k runs some first last up filled =
    subst (λ (m : Mode). GoesWithin program (record s { control = frame.Computes e ∷ frame.Computes f ∷ frame.Ranges x (stmts_form statements) ∷ k; mode = m }) (counting x low high (stmts_form statements) (record s { control = k; mode = m }))) (sym runs) (by s.activations some first last)
  where
    by : (activations : List (Activation Value)) → activations ≢ [] → value_at_once (places_of activations) e ≡ Some (scalar.Integer low) → value_at_once (places_of activations) f ≡ Some (scalar.Integer high) → GoesWithin program (record s { activations = activations; control = frame.Computes e ∷ frame.Computes f ∷ frame.Ranges x (stmts_form statements) ∷ k; mode = Running }) (counting x low high (stmts_form statements) (record s { activations = activations; control = k; mode = Running }))
    by [] none e-is f-is = absurd (none refl)
    by (a ∷ suspended) none e-is f-is = ranged_to program s a suspended e f low high x statements k e-is f-is up filled

-- The frame behind a value that an expression has at once.

-- what is computed is the newest operand, and the state is as it was where that is taken away
newest_computed : (v : Value) (s : State) → s.activations ≢ [] → newest named (computed v s) ≡ v
newest_computed v s some = by s.activations some
  where
    by : (activations : List (Activation Value)) → activations ≢ [] → first_or Null (operands_of (with_operands (v ∷ operands_of activations) activations)) ≡ v
    by [] some = absurd (some refl)
    by (a ∷ suspended) some = refl

popped_computed : (v : Value) (s : State) → popped (computed v s) ≡ s
popped_computed v s = ap (λ (activations : List (Activation Value)). record s { activations = activations }) (by s.activations)
  where
    by : (activations : List (Activation Value)) → with_operands (older (operands_of (with_operands (v ∷ operands_of activations) activations))) (with_operands (v ∷ operands_of activations) activations) ≡ activations
    by [] = refl
    by (a ∷ suspended) = refl

-- a frame that is first of what is left to do makes the next step
frame_comes : (program : Program) (s : State) (f : Frame Value) (k : List (Frame Value)) → s.mode ≡ Running → s.control ≡ f ∷ k → next program.types.items (body_forms program) s ≡ frame_next named program.types.items (body_forms program) f (at k s)
unfolding next
frame_comes program s f k runs first =
    ap (λ (m : Mode). mode_next named program.types.items (body_forms program) m s) runs ∙ ap (λ (c : List (Frame Value)). running_next named program.types.items (body_forms program) c s) first

-- it begins no statement, unless it is one of statements
none_begins : (s : State) (f : Frame Value) (k : List (Frame Value)) → s.mode ≡ Running → s.control ≡ f ∷ k → begins_by f ≡ false → begins s ≡ false
none_begins s f k runs first starts = ap (λ (m : Mode). begins_in m s.control) runs ∙ (ap (λ (c : List (Frame Value)). begins_among c) first ∙ starts)

-- and calls no operation, unless it is a treatment's
none_calls : (types : List TypeDefinition) (s : State) (f : Frame Value) (k : List (Frame Value)) → s.mode ≡ Running → s.control ≡ f ∷ k → frame_calls types f ≡ false → calls_operation types s ≡ false
none_calls types s f k runs first calls =
    ap (λ (m : Mode). calls_in types m s.control) runs ∙ (ap (λ (c : List (Frame Value)). calls_among types c) first ∙ calls)

-- some statements are left to do
pub some_left : (statements : List Stmt) (k : List (Frame Value)) → (length statements == 0) ≡ false → frame.Does (stmts_form statements) ∷ k ≡ statements_left (stmts_form statements) k
some_left [] k some = absurd (cc some)
some_left (f ∷ fs) k some = refl

-- statements of which none is left are passed
pub done_within : (program : Program) (fs : StmtsForm) (k : List (Frame Value)) (s : State) → s.mode ≡ Running → GoesWithin program (at (frame.Does fs ∷ k) s) (at (statements_left fs k) s)
done_within program no_stmts k s runs =
    one_within program (at (frame.Does no_stmts ∷ k) s) (at k s) (none_begins (at (frame.Does no_stmts ∷ k) s) (frame.Does no_stmts) k runs refl refl)
    (none_calls program.types.items (at (frame.Does no_stmts ∷ k) s) (frame.Does no_stmts) k runs refl refl)
    (frame_comes program (at (frame.Does no_stmts ∷ k) s) (frame.Does no_stmts) k runs refl)
done_within program (a_stmt f fs) k s runs = stays_within

module _ (program : Program) (s : State) (e : ExpressionForm) (v : ScalarValue) (runs : s.mode ≡ Running) (some : s.activations ≢ []) (is : value_at_once (places s) e ≡ Some v) where
  -- The value is there, and then a frame makes its step.
  value_then : (f : Frame Value) (k : List (Frame Value)) (last : State) → begins_by f ≡ false → frame_calls program.types.items f ≡ false → frame_next named program.types.items (body_forms program) f (computed (Scalar v) (at k s)) ≡ moves Quiet last → GoesWithin program (at (frame.Computes e ∷ f ∷ k) s) last
  value_then f k last starts calls comes =
      joined (goes_to_value program s e v (f ∷ k) runs some is)
      (one_within program (computed (Scalar v) (at (f ∷ k) s)) last (none_begins (computed (Scalar v) (at (f ∷ k) s)) f k runs refl starts)
      (none_calls program.types.items (computed (Scalar v) (at (f ∷ k) s)) f k runs refl calls)
      (frame_comes program (computed (Scalar v) (at (f ∷ k) s)) f k runs refl ∙ comes))

  -- A variable gets it (5.2).
  pub assigned : (x : ℕ) → GoesOn program (assign_next named [] x (computes e) s) (put x (Scalar v) s)
  assigned x = record {
    mid = at (frame.Evaluates (computes e) ∷ frame.Stores x ∷ s.control) s;
    comes = refl;
    behind =
        joined
        (one_within program (at (frame.Evaluates (computes e) ∷ frame.Stores x ∷ s.control) s) (at (frame.Computes e ∷ frame.Stores x ∷ s.control) s)
        (none_begins (at (frame.Evaluates (computes e) ∷ frame.Stores x ∷ s.control) s) (frame.Evaluates (computes e)) (frame.Stores x ∷ s.control) runs refl refl)
        (none_calls program.types.items (at (frame.Evaluates (computes e) ∷ frame.Stores x ∷ s.control) s) (frame.Evaluates (computes e)) (frame.Stores x ∷ s.control) runs refl refl)
        (frame_comes program (at (frame.Evaluates (computes e) ∷ frame.Stores x ∷ s.control) s) (frame.Evaluates (computes e)) (frame.Stores x ∷ s.control) runs refl))
        (value_then (frame.Stores x) s.control (put x (Scalar v) s) refl refl
        (ap (λ (w : Value). moves Quiet (put x w (popped (computed (Scalar v) s)))) (newest_computed (Scalar v) s some) ∙ ap (λ (t : State). moves Quiet (put x (Scalar v) t)) (popped_computed (Scalar v) s)));
  }

-- what is assigned, where it is such an expression
pub assigned_right : (program : Program) (s : State) (right : RightForm) (v : ScalarValue) → s.mode ≡ Running → s.activations ≢ [] → right_at_once (places s) right ≡ Some v → (x : ℕ) → GoesOn program (assign_next named [] x right s) (put x (Scalar v) s)
assigned_right program s nothing v runs some is x = absurd (cc is)
assigned_right program s (value_of path) v runs some is x = absurd (cc is)
assigned_right program s (allocates access items) v runs some is x = absurd (cc is)
assigned_right program s (allocates_default access) v runs some is x = absurd (cc is)
assigned_right program s (computes e) v runs some is x = assigned program s e v runs some is x

module _ (program : Program) (s : State) (e : ExpressionForm) (b : Bool) (runs : s.mode ≡ Running) (some : s.activations ≢ []) (is : value_at_once (places s) e ≡ Some (scalar.Boolean b)) where
  -- What is decided by the newest operand is decided by the condition.
  by_condition : {X : Type 0} (decides : Option Bool → State → X) → decides (reads_boolean (newest named (computed (Scalar (scalar.Boolean b)) s))) (popped (computed (Scalar (scalar.Boolean b)) s)) ≡ decides (Some b) s
  by_condition decides =
      ap (λ (v : Value). decides (reads_boolean v) (popped (computed (Scalar (scalar.Boolean b)) s))) (newest_computed (Scalar (scalar.Boolean b)) s some) ∙ ap (decides (Some b)) (popped_computed (Scalar (scalar.Boolean b)) s)

  -- A branch (5.3).
  pub chosen : (fs : StmtsForm) (branches : BranchesForm) (last : State) → GoesOn program (decided_next named fs branches (Some b) s) last → GoesOn program (branches_next named (a_branch e fs branches) s) last
  chosen fs branches last on = record {
    mid = at (frame.Computes e ∷ frame.Decides fs branches ∷ s.control) s;
    comes = refl;
    behind =
        joined
        (value_then program s e (scalar.Boolean b) runs some is (frame.Decides fs branches) s.control on.mid refl refl
        (by_condition (decided_next named fs branches) ∙ on.comes))
        on.behind;
  }

  -- A turn of a loop (5.5).
  pub turned : (fs : StmtsForm) (last : State) → turned_next named e fs (Some b) s ≡ moves Quiet last → GoesOn program (repeats_next named (Some e) fs s) last
  turned fs last comes = record {
    mid = at (frame.Computes e ∷ frame.Turns e fs ∷ s.control) s;
    comes = refl;
    behind =
        value_then program s e (scalar.Boolean b) runs some is (frame.Turns e fs) s.control last refl refl
        (by_condition (turned_next named e fs) ∙ comes);
  }

  -- An exit (5.7).
  pub exited : (last : State) → exited_next named (Some b) s ≡ moves Quiet last → GoesOn program (exit_next named (Some e) s) last
  exited last comes = record {
    mid = at (frame.Computes e ∷ frame.Exits ∷ s.control) s;
    comes = refl;
    behind =
        value_then program s e (scalar.Boolean b) runs some is frame.Exits s.control last refl refl
        (by_condition (exited_next named) ∙ comes);
  }

-- a turn of a loop begins, where it has a statement
pub begins_turn : (condition : Option ExpressionForm) (statements : List Stmt) (s : State) → (length statements == 0) ≡ false → turn_next named condition (stmts_form statements) s ≡ moves Quiet (at (frame.Does (stmts_form statements) ∷ frame.Repeats condition (stmts_form statements) ∷ s.control) s)
begins_turn condition [] s some = absurd (cc some)
begins_turn condition (f ∷ fs) s some = refl

-- Statements that are done at once, one after another.

-- the first of them
pub statement_done : (program : Program) (first s last : State) (f : StmtForm) (fs : StmtsForm) (k : List (Frame Value)) (limit left : ℕ) → s.mode ≡ Running → GoesQuietly program first (limit - left) (at (frame.Does (a_stmt f fs) ∷ k) s) → GoesOn program (stmt_next named program.types.items (body_forms program) f (at (frame.Does fs ∷ k) s)) last → 0 < left → left ≤ limit → GoesQuietly program first (limit - (left - 1)) last
statement_done program first s last f fs k limit left runs so_far on some within =
    one_statement_more limit left so_far
    (record {
      mid = on.mid;
      comes = frame_comes program (at (frame.Does (a_stmt f fs) ∷ k) s) (frame.Does (a_stmt f fs)) k runs refl ∙ on.comes;
      behind = on.behind;
    })
    (ap (λ (m : Mode). begins_in m (frame.Does (a_stmt f fs) ∷ k)) runs) some within

-- all of them are done, or some are left
pub behind_done : (program : Program) (first t : State) (fs : StmtsForm) (k : List (Frame Value)) (statements : ℕ) → t.mode ≡ Running → GoesQuietly program first statements (at (frame.Does fs ∷ k) t) → GoesQuietly program first statements (at (statements_left fs k) t)
behind_done program first t fs k statements runs so_far = quietly_within so_far (done_within program fs k t runs)

-- a frame that begins no statement goes on
pub comes_to : (program : Program) (s : State) (f : Frame Value) (k : List (Frame Value)) → s.mode ≡ Running → s.control ≡ f ∷ k → begins_by f ≡ false → frame_calls program.types.items f ≡ false → (last : State) → GoesOn program (frame_next named program.types.items (body_forms program) f (at k s)) last → ComesTo program s last
comes_to program s f k runs first starts calls last on = (
  none_begins s f k runs first starts,
  none_calls program.types.items s f k runs first calls,
  record {
    mid = on.mid;
    comes = ap (λ (c : List (Frame Value)). running_next named program.types.items (body_forms program) c s) first ∙ on.comes;
    behind = on.behind;
  },
)

-- so steps are made in which no statement begins
pub comes_within : (program : Program) (s last : State) → s.mode ≡ Running → ComesTo program s last → GoesWithin program s last
unfolding next
comes_within program s last runs to =
    joined (one_within program s to.2.mid to.0 to.1 (ap (λ (m : Mode). mode_next named program.types.items (body_forms program) m s) runs ∙ to.2.comes)) to.2.behind

-- the first statement begins, with steps behind it
pub first_begun : (program : Program) (s last : State) (statements : List Stmt) (f : Stmt) (fs : List Stmt) (limit : ℕ) → s.mode ≡ Running → s.control ≡ frame.Does (stmts_form statements) ∷ older s.control → statements ≡ f ∷ fs → GoesOn program (stmt_next named program.types.items (body_forms program) (stmt_form f) (at (frame.Does (stmts_form fs) ∷ older s.control) s)) last → 0 < limit → GoesQuietly program s (limit - (limit - 1)) last
first_begun program s last statements f fs limit runs top is on some =
    one_statement_more limit limit (none_made program s limit)
    (record {
      mid = on.mid;
      comes = frame_comes program s (frame.Does (a_stmt (stmt_form f) (stmts_form fs))) (older s.control) runs first ∙ on.comes;
      behind = on.behind;
    })
    (ap (λ (m : Mode). begins_in m s.control) runs ∙ ap (λ (c : List (Frame Value)). begins_among c) first) some (omega arith)
  where
    first : s.control ≡ frame.Does (a_stmt (stmt_form f) (stmts_form fs)) ∷ older s.control
    first = top ∙ ap (λ (xs : List Stmt). frame.Does (stmts_form xs) ∷ older s.control) is

-- it is done, where there is no next value
pub counts_done : (x : ℕ) (value last : ℤ) (fs : StmtsForm) (s : State) → int_le value last ≡ false → counts_next named x value last fs s ≡ moves Quiet s
counts_done x value last fs s past = rw past refl

-- what is left to do is the same, seen as the definition sees it
pub same_control : {xs ys : List HeldFrame} → xs ≡ ys → map frame_of xs ≡ map frame_of ys
same_control is = ap (λ (fs : List HeldFrame). map frame_of fs) is

pub older_control : (fs : List HeldFrame) → map frame_of (older fs) ≡ older (map frame_of fs)
older_control [] = refl
older_control (f ∷ fs) = refl

-- what comes in front of it is taken off again, behind what has left it as it was
pub put_back : (then_left put_on before shortened : List HeldFrame) (f : HeldFrame) → then_left ≡ put_on → put_on ≡ f ∷ before → shortened ≡ older then_left → frame_of f ∷ map frame_of shortened ≡ map frame_of then_left
put_back then_left put_on before shortened f same is shorter =
    ap (λ (fs : List HeldFrame). frame_of f ∷ map frame_of fs) (shorter ∙ ap older (same ∙ is)) ∙ sym (same_control (same ∙ is))

-- a `for` loop that comes to a turn with this value is first of it
pub counted_first : (before after : List HeldFrame) (parameter : VariableNo) (value count last : ℤ) (statements : Bor (List Stmt)) → before ≡ held.Counts parameter value last statements ∷ older before → after ≡ newest_counted_to count before → after ≡ held.Counts parameter count last statements ∷ older before
counted_first before after parameter value count last statements first is = is ∙ ap (newest_counted_to count) first

pub counts_first : (before after : List HeldFrame) (parameter : VariableNo) (value count last : ℤ) (statements : Bor (List Stmt)) → before ≡ held.Counts parameter value last statements ∷ older before → after ≡ newest_counted_to count before → after ≡ held.Counts parameter count last statements ∷ older after
counts_first before after parameter value count last statements first is =
    let e = counted_first before after parameter value count last statements first is in
    e ∙ ap (λ (fs : List HeldFrame). held.Counts parameter count last statements ∷ fs) (sym (ap older e))

-- the next turn
pub counts_next_turn : (before after then : List HeldFrame) (parameter : VariableNo) (value count last : ℤ) (statements : Bor (List Stmt)) (next_count : ℤ) → before ≡ held.Counts parameter value last statements ∷ older before → after ≡ newest_counted_to count before → then ≡ newest_counted_to next_count after → then ≡ newest_counted_to next_count before
counts_next_turn before after then parameter value count last statements next_count first is more =
    more ∙ (ap (newest_counted_to next_count) (counted_first before after parameter value count last statements first is) ∙ sym (ap (newest_counted_to next_count) first))

-- what is left to do stays, where its first thing is taken off and put on again
pub put_on_again : (s : State) (f : Frame Value) (k : List (Frame Value)) → s.control ≡ f ∷ k → at (f ∷ older s.control) s ≡ s
put_on_again s f k first = ap (λ (c : List (Frame Value)). at (f ∷ older c) s) first ∙ ap (λ (c : List (Frame Value)). at c s) (sym first)

-- all statements were done at once
pub all_done : (program : Program) (first u : State) (statements : List Stmt) (k : List (Frame Value)) (n : ℕ) → length statements ≡ 0 → u.mode ≡ Running → GoesQuietly program first n (at (frame.Does (stmts_form statements) ∷ k) u) → GoesQuietly program first n (at k u)
all_done program first u [] k n none runs so_far = behind_done program first u no_stmts k n runs so_far
all_done program first u (f ∷ fs) k n none runs so_far = absurd (omega (arith, none))

-- no branch is left, and the others are done
pub others_chosen : (program : Program) (s : State) (branches : List Branch) (fs : StmtsForm) → length branches ≡ 0 → GoesOn program (branches_next named (branches_form branches fs) s) (at (frame.Does fs ∷ s.control) s)
others_chosen program s [] fs none = goes_once refl
others_chosen program s (b ∷ bs) fs none = absurd (omega (arith, none))
