-- Each step inside the running body leads from typed states to typed states, or ends the run in a way that the language knows.

use Rattle.ada_typed.specs.Holding.{Cells, HasKind, HaveKinds, cells_of}
use Rattle.std.proofs.Common.{◌≡◌, ℕ, ◌+◌, ◌≤◌, ◌&&◌, not, if◌then◌else◌, Bool, true, false, ℤ, ◌+ℤ◌, pos, int_le, List, [], ◌∷◌, ◌++◌, length, map, Option, Some, None, arith, refl, sym, ap, ◌∙◌, subst}
use Rattle.std.proofs.lemmas.Bool.{eqb-true}
use Rattle.std.specs.List.{list_all}
use Rattle.ada_program.specs.declared.program.ComponentKind.{ComponentKind}
use Rattle.ada_program.specs.declared.program.ScalarType.TheVariants.{Integer, Boolean}
use Rattle.ada_program.specs.declared.program.TypeDefinition.{TypeDefinition}
use Rattle.ada_program.specs.declared.program.TypeNo.{TypeNo}
use Rattle.ada_program.specs.declared.program.VariableKind.{VariableKind}
use Rattle.ada_program.specs.declared.program.VariableKind.TheVariants as variable
use Rattle.ada_program.specs.Form.{ExpressionForm, ItemForm, RightForm, StmtForm, skips, assigns, assigns_record, frees, gets, writes, writes_text, chooses, repeats, counts, exits, calls, returns, raises as raises_it, encloses, StmtsForm, no_stmts, a_stmt, BranchesForm, otherwise, a_branch, HandlersForm, DeclarationForm, creates_pool, collects, declares, declares_record}
use Rattle.ada_program.specs.ProgramForm.{VariableForm, BodyForm, ProgramForm, type_form}
use Rattle.ada_program.specs.Typed.{reached_of, words_of, pool_named}
use Rattle.ada_program.specs.Freed.{statement_frees_own, statements_free_own, branches_free_own, handlers_free_own}
use Rattle.ada_program.specs.WellFormed.{is_this, stands_alone, reached_components, is_access, is_object_type, value_access, root_kind, selectors_kind, variable_kind, path_access, scalar_of, is_type, type_of, kind_takes, right_fits, names_borrower, lends_to, is_borrower, is_record_path, is_record_object, record_fits, object_named, path_kind, is_freed_by, collections_first, collection_fits, has_type, condition_fits, has_statement, formal_kinds, callable_in}
use Rattle.ada_values.specs.declared.value.Value.TheVariants as scalar
use Rattle.ada_parts.specs.declared.tasks.Direction.TheVariants.{PartsFirst}
use Rattle.ada_meaning.specs.declared.event.Birth.{Birth}
use Rattle.ada_meaning.specs.declared.event.Birth.TheVariants.{Creation, Copy}
use Rattle.ada_meaning.specs.declared.state.Value.{Value}
use Rattle.ada_meaning.specs.declared.state.Value.TheVariants.{Null, Names, Scalar, Part}
use Rattle.ada_meaning.specs.declared.state.Mode.TheVariants.{Running, Exiting, Returning}
use Rattle.ada_program.specs.declared.program.Exception.TheVariants.{EndError}
use Rattle.ada_meaning.specs.Event.{Quiet}
use Rattle.ada_meaning.specs.Frame.{Frame}
use Rattle.ada_meaning.specs.Frame as frame
use Rattle.ada_meaning.specs.State.{declared, collection, storage_pool, height, home_of, pools_in, pool_for}
use Rattle.ada_meaning.specs.Step.{moves, has_parts, all_tasks, at, popped, jumping, put, held, newest, new_next, initial_values, copies_next, refers_next, open_next, newest_ones, without_newest, record_target_next, store_record_next, record_cell, made, record_next, assign_next, frees_next, branches_next, decided_next, turn_next, repeats_next, turned_next, count_turn_next, ranges_next, gets_next, exit_next, exited_next, computing, call_next, stmt_next, stmts_next, line_next, declarations_next, frame_next}
use Rattle.ada_meaning.specs.Named.{an_integer, State, named, new_object, look, reads_integer, reads_boolean, unary_given, binary_given}
use Rattle.ada_typed.proofs.Evaluations.{Fine, named_newest, newest_operand, initials_have, reached_shown, words_shown, width_shown, ready_kinds, ready_at, ready_pop, ready_older, newest_of, held_of, put_in, ready_owning, jumped, raises, ready_made, fits_more, holder_fine, record_holder_fine, path_fine, null_test_fine, expression_fine, links_fine, outcome_fine, items_fine, new_fine, right_fine}
use Rattle.ada_typed.proofs.Values.{OperandKind, of_kind, refers_to, lies_in, kind_of, root_same}
use Rattle.ada_typed.proofs.Objects.{kind_there, object_reached, own_object, record_no_access}
use Rattle.ada_typed.proofs.OfKinds.{record_initial_is_of_kind, initial_is_of_kind, declarations_are_of_kind, statement_is_of_kind, statements_are_of_kind, branches_are_of_kind, handlers_are_of_kind}
use Rattle.ada_typed.proofs.Operators.{and_left, and_right, typed, unary_gives, binary_gives}
use Rattle.ada_typed.proofs.Targets.{target_fine, store_fine, receive_fine, opens_fine}
use Rattle.ada_typed.proofs.Treating.{all_within, treating_fits}
use Rattle.ada_typed.proofs.Assigning.{object_filled, record_assign_fine, assigns_fine}
use Rattle.ada_typed.proofs.Wholes.{newest_have, ready_without, copies_fine, refers_fine, record_target_fine, store_record_fine}
use Rattle.ada_typed.proofs.Leavings.{end_fine, back_fine, resumes_fine, leave_fine}
use Rattle.ada_typed.proofs.Frees.{free_fine, free_in_fine}
use Rattle.ada_typed.proofs.Bodies.{TablesFit, Sees}
use Rattle.ada_typed.proofs.Actuals.{profile_found, depth_computing, computing_fits}
use Rattle.ada_typed.proofs.Kept.{crosses, is_treatment}
use Rattle.ada_typed.proofs.Control.{onto, OwnBody, FitStmt, FitStmts, FitBranches, WhereInside, Fits, Lands, depth, Ready, TypedIn, running, on_jump, catches}

module _ (p : ProgramForm) (fit : TablesFit p) (bodies : List BodyForm) (sees : Sees bodies p) where
  -- Statements (5.1).
  right_kind : (o : Option VariableKind) (vs : List VariableForm) (right : RightForm) → right_fits p.types vs o right ≡ true → (kind : VariableKind) × (o ≡ Some kind) × (kind_takes p.types vs kind right ≡ true)
  right_kind None vs right h = absurd (cc)
  right_kind (Some kind) vs right h = (kind, refl, h)

  freed_kind : (o : Option VariableKind) (access : ℕ) → is_freed_by p.types access (value_access o) ≡ true → (type : TypeNo) × (o ≡ Some (variable.Access type))
  freed_kind None access h = absurd (cc)
  freed_kind (Some variable.Integer) access h = absurd (cc)
  freed_kind (Some variable.Boolean) access h = absurd (cc)
  freed_kind (Some (variable.Access type)) access h = (type, refl)
  freed_kind (Some (variable.Record object)) access h = absurd (cc)

  assign_fine : (of_record : Bool) (cs : List ℕ) (x : ℕ) (right : RightForm) (s : State) (kinds : List OperandKind) → Ready p kinds s → right_fits p.types p.variables (selectors_kind p.types (root_kind of_record (variable_kind p.variables x)) cs) right ≡ true → Fits p (cells_of s.heap) kinds s.control → Fine p (assign_next named cs x right s)
  assign_fine of_record (c ∷ cs) x right s kinds ready is fits =
      let own = right_kind (selectors_kind p.types (root_kind of_record (variable_kind p.variables x)) (c ∷ cs)) p.variables right is in
      holder_fine p of_record c cs x own.0 (λ last. frame.Targets last right) s kinds ready own.1 (λ last. ready.deep) (λ access last leads. (kinds, access, own.0, refl, leads, own.2, fits))
  assign_fine of_record [] x right s kinds ready is fits =
      let own = right_kind (root_kind of_record (variable_kind p.variables x)) p.variables right is in
      let there : variable_kind p.variables x ≡ Some own.0 = root_same of_record (variable_kind p.variables x) own.0 own.1 in
      running kinds (ready_at p kinds s (frame.Evaluates right ∷ frame.Stores x ∷ s.control) ready ready.deep) (own.0, own.2, (kinds, own.0, refl, there, fits))

  -- An instance for what it frees is for its access type (13.11.2).
  freed_own : (o : Option VariableKind) (access : ℕ) (own : TypeNo) → o ≡ Some (variable.Access own) → is_this access (value_access o) ≡ true → own.0 ≡ access
  freed_own o access own is by_own = eqb-true own.0 access (ap (λ (kind : Option VariableKind). is_this access (value_access kind)) (sym is) ∙ by_own)

  frees_fine : (types : List TypeDefinition) → map type_form types ≡ p.types → (of_record : Bool) (cs : List ℕ) (access x : ℕ) (s : State) (kinds : List OperandKind) → Ready p kinds s → is_freed_by p.types access (value_access (selectors_kind p.types (root_kind of_record (variable_kind p.variables x)) cs)) ≡ true → (OwnBody p → is_this access (value_access (selectors_kind p.types (root_kind of_record (variable_kind p.variables x)) cs)) ≡ true) → Fits p (cells_of s.heap) kinds s.control → Fine p (frees_next named types cs access x s)
  frees_fine types shown of_record (c ∷ cs) access x s kinds ready is by_own fits =
      let own = freed_kind (selectors_kind p.types (root_kind of_record (variable_kind p.variables x)) (c ∷ cs)) access is in
      holder_fine p of_record c cs x (variable.Access own.0) (λ last. frame.FreesIn access last) s kinds ready own.1 (λ last. ready.deep) (λ holder last leads. (kinds, holder, own.0, refl, leads, (λ body. freed_own (selectors_kind p.types (root_kind of_record (variable_kind p.variables x)) (c ∷ cs)) access own.0 own.1 (by_own body)), fits))
  frees_fine types shown of_record [] access x s kinds ready is by_own fits =
      let own = freed_kind (root_kind of_record (variable_kind p.variables x)) access is in
      let there : variable_kind p.variables x ≡ Some (variable.Access own.0) = root_same of_record (variable_kind p.variables x) (variable.Access own.0) own.1 in
      free_fine p types shown (held named s x) access x own.0 s kinds ready (held_of p kinds s x (variable.Access own.0) ready there) there fits

  -- A component that is given (6.4.1): its object is found first.
  open_fine : (of_record : Bool) (cs : List ℕ) (x : ℕ) (kind : VariableKind) (s : State) (kinds : List OperandKind) → Ready p kinds s → selectors_kind p.types (root_kind of_record (variable_kind p.variables x)) cs ≡ Some kind → stands_alone cs ≡ false → Fits p (cells_of s.heap) (of_kind kind ∷ refers_to kind ∷ kinds) s.control → Fine p (open_next named cs x s)
  open_fine of_record [] x kind s kinds ready leads alone fits = absurd (cc)
  open_fine of_record (c ∷ cs) x kind s kinds ready leads alone fits =
      holder_fine p of_record c cs x kind (λ last. frame.OpensIn last) s kinds ready leads (λ last. ready.deep) (λ access last own. (kinds, access, kind, refl, own, fits))

  -- Branches (5.3).
  branches_fine : (branches : BranchesForm) (inside : Bool) (s : State) → Ready p [] s → FitBranches p inside branches → WhereInside inside (Lands p (cells_of s.heap) s.control) → Fits p (cells_of s.heap) [] s.control → Fine p (branches_next named branches s)
  branches_fine (otherwise fs) inside s ready is lands fits = running [] (ready_at p [] s (frame.Does fs ∷ s.control) ready ready.deep) (refl, inside, is, lands, fits)
  branches_fine (a_branch e fs branches) inside s ready is lands fits =
      let own = has_type p.types p.variables Boolean e in
      let inner = statements_are_of_kind p.types p.variables p.texts p.exceptions (callable_in p) inside fs in
      let others = branches_are_of_kind p.types p.variables p.texts p.exceptions (callable_in p) inside branches in
      let former = and_left (own && inner) others is.0 in
      let by_own = statements_free_own p.types p.variables fs in
      let later = branches_free_own p.types p.variables branches in
      running [] (ready_at p [] s (frame.Computes e ∷ frame.Decides fs branches ∷ s.control) ready ready.deep) (
        Boolean,
        typed Boolean (type_of p.types p.variables e) (and_left own inner former),
        (
          refl,
          inside,
          (and_right own inner former, λ body. and_left by_own later (is.1 body)),
          (and_right (own && inner) others is.0, λ body. and_right by_own later (is.1 body)),
          lands,
          fits,
        ),
      )

  decided_fine : (fs : StmtsForm) (branches : BranchesForm) (v : Value) (inside : Bool) (s : State) (cells : Cells) → HasKind p.types cells variable.Boolean v → Ready p [] s → FitStmts p inside fs → FitBranches p inside branches → WhereInside inside (Lands p (cells_of s.heap) s.control) → Fits p (cells_of s.heap) [] s.control → Fine p (decided_next named fs branches (reads_boolean v) s)
  decided_fine fs branches Null inside s cells has ready is others lands fits = absurd has
  decided_fine fs branches (Names o) inside s cells has ready is others lands fits = absurd has
  decided_fine fs branches (Part o place) inside s cells has ready is others lands fits = absurd has
  decided_fine fs branches (Scalar (scalar.Integer i)) inside s cells has ready is others lands fits = absurd has
  decided_fine fs branches (Scalar (scalar.Boolean true)) inside s cells has ready is others lands fits = running [] (ready_at p [] s (frame.Does fs ∷ s.control) ready ready.deep) (refl, inside, is, lands, fits)
  decided_fine fs branches (Scalar (scalar.Boolean false)) inside s cells has ready is others lands fits = branches_fine branches inside s ready others lands fits

  -- Loops (5.5).
  turn_fine : (condition : Option ExpressionForm) (fs : StmtsForm) (s : State) → Ready p [] s → condition_fits p.types p.variables condition ≡ true → has_statement fs ≡ true → FitStmts p true fs → Fits p (cells_of s.heap) [] s.control → Fine p (turn_next named condition fs s)
  turn_fine condition no_stmts s ready is some own fits = absurd (cc)
  turn_fine condition (a_stmt f fs) s ready is some own fits =
      running [] (ready_at p [] s (frame.Does (a_stmt f fs) ∷ frame.Repeats condition (a_stmt f fs) ∷ s.control) ready ready.deep) (refl, true, own, fits, (refl, is, refl, own, fits))

  repeats_fine : (condition : Option ExpressionForm) (fs : StmtsForm) (s : State) → Ready p [] s → condition_fits p.types p.variables condition ≡ true → has_statement fs ≡ true → FitStmts p true fs → Fits p (cells_of s.heap) [] s.control → Fine p (repeats_next named condition fs s)
  repeats_fine None fs s ready is some own fits = turn_fine None fs s ready is some own fits
  repeats_fine (Some e) fs s ready is some own fits =
      running [] (ready_at p [] s (frame.Computes e ∷ frame.Turns e fs ∷ s.control) ready ready.deep) (Boolean, typed Boolean (type_of p.types p.variables e) is, (refl, is, some, own, fits))

  turned_fine : (e : ExpressionForm) (fs : StmtsForm) (v : Value) (s : State) (cells : Cells) → HasKind p.types cells variable.Boolean v → Ready p [] s → condition_fits p.types p.variables (Some e) ≡ true → has_statement fs ≡ true → FitStmts p true fs → Fits p (cells_of s.heap) [] s.control → Fine p (turned_next named e fs (reads_boolean v) s)
  turned_fine e fs Null s cells has ready is some own fits = absurd has
  turned_fine e fs (Names o) s cells has ready is some own fits = absurd has
  turned_fine e fs (Part o place) s cells has ready is some own fits = absurd has
  turned_fine e fs (Scalar (scalar.Integer i)) s cells has ready is some own fits = absurd has
  turned_fine e fs (Scalar (scalar.Boolean true)) s cells has ready is some own fits = turn_fine (Some e) fs s ready is some own fits
  turned_fine e fs (Scalar (scalar.Boolean false)) s cells has ready is some own fits = running [] ready fits

  -- Exits (5.7): each has a loop.
  exit_jump : (s : State) → Ready p [] s → Lands p (cells_of s.heap) s.control → Fits p (cells_of s.heap) [] s.control → TypedIn p (jumping Exiting s)
  exit_jump s ready lands fits = on_jump Exiting (jumped p [] Exiting s ready) (lands, catches p (cells_of s.heap) s.control [] fits)

  exit_fine : (inside : Bool) (condition : Option ExpressionForm) (s : State) → Ready p [] s → (inside && condition_fits p.types p.variables condition) ≡ true → WhereInside inside (Lands p (cells_of s.heap) s.control) → Fits p (cells_of s.heap) [] s.control → Fine p (exit_next named condition s)
  exit_fine false condition s ready is lands fits = absurd (cc)
  exit_fine true None s ready is lands fits = exit_jump s ready lands fits
  exit_fine true (Some e) s ready is lands fits =
      running [] (ready_at p [] s (frame.Computes e ∷ frame.Exits ∷ s.control) ready ready.deep) (Boolean, typed Boolean (type_of p.types p.variables e) is, (refl, lands, fits))

  exited_fine : (v : Value) (s : State) (cells : Cells) → HasKind p.types cells variable.Boolean v → Ready p [] s → Lands p (cells_of s.heap) s.control → Fits p (cells_of s.heap) [] s.control → Fine p (exited_next named (reads_boolean v) s)
  exited_fine Null s cells has ready lands fits = absurd has
  exited_fine (Names o) s cells has ready lands fits = absurd has
  exited_fine (Part o place) s cells has ready lands fits = absurd has
  exited_fine (Scalar (scalar.Integer i)) s cells has ready lands fits = absurd has
  exited_fine (Scalar (scalar.Boolean true)) s cells has ready lands fits = exit_jump s ready lands fits
  exited_fine (Scalar (scalar.Boolean false)) s cells has ready lands fits = running [] ready fits

  -- Counting loops (5.5): the parameter is an Integer variable.
  integer_kind : (kind : Option VariableKind) → is_type Integer (scalar_of kind) ≡ true → kind ≡ Some variable.Integer
  integer_kind None h = absurd (cc)
  integer_kind (Some variable.Integer) h = refl
  integer_kind (Some variable.Boolean) h = absurd (cc)
  integer_kind (Some (variable.Access access)) h = absurd (cc)
  integer_kind (Some (variable.Record object)) h = absurd (cc)

  count_turn_fine : (x : ℕ) (value last : ℤ) (fs : StmtsForm) (s : State) → Ready p [] s → variable_kind p.variables x ≡ Some variable.Integer → has_statement fs ≡ true → FitStmts p true fs → Fits p (cells_of s.heap) [] s.control → Fine p (count_turn_next named x value last fs s)
  count_turn_fine x value last no_stmts s ready is some own fits = absurd (cc)
  count_turn_fine x value last (a_stmt f fs) s ready is some own fits =
      running [] (ready_at p [] (put x (an_integer value) s) (frame.Does (a_stmt f fs) ∷ frame.Counts x (value +ℤ pos 1) last (a_stmt f fs) ∷ s.control) (put_in p [] s x variable.Integer (an_integer value) ready is tt) ready.deep)
      (refl, true, own, fits, (refl, is, refl, own, fits))

  counts_fine : (again : Bool) (x : ℕ) (value last : ℤ) (fs : StmtsForm) (s : State) → Ready p [] s → variable_kind p.variables x ≡ Some variable.Integer → has_statement fs ≡ true → FitStmts p true fs → Fits p (cells_of s.heap) [] s.control → Fine p (if again then count_turn_next named x value last fs s else moves Quiet s)
  counts_fine true x value last fs s ready is some own fits = count_turn_fine x value last fs s ready is some own fits
  counts_fine false x value last fs s ready is some own fits = running [] ready fits

  high_fine : (x : ℕ) (fs : StmtsForm) (low : ℤ) (high : Value) (s : State) (cells : Cells) → HasKind p.types cells variable.Integer high → Ready p [] s → variable_kind p.variables x ≡ Some variable.Integer → has_statement fs ≡ true → FitStmts p true fs → Fits p (cells_of s.heap) [] s.control → Fine p (ranges_next named x fs (Some low) (reads_integer high) s)
  high_fine x fs low Null s cells has ready is some own fits = absurd has
  high_fine x fs low (Names o) s cells has ready is some own fits = absurd has
  high_fine x fs low (Part o place) s cells has ready is some own fits = absurd has
  high_fine x fs low (Scalar (scalar.Integer high)) s cells has ready is some own fits = counts_fine (int_le low high) x low high fs s ready is some own fits
  high_fine x fs low (Scalar (scalar.Boolean b)) s cells has ready is some own fits = absurd has

  ranges_fine : (x : ℕ) (fs : StmtsForm) (low high : Value) (s : State) (cells : Cells) → HasKind p.types cells variable.Integer low → HasKind p.types cells variable.Integer high → Ready p [] s → variable_kind p.variables x ≡ Some variable.Integer → has_statement fs ≡ true → FitStmts p true fs → Fits p (cells_of s.heap) [] s.control → Fine p (ranges_next named x fs (reads_integer low) (reads_integer high) s)
  ranges_fine x fs Null high s cells has too ready is some own fits = absurd has
  ranges_fine x fs (Names o) high s cells has too ready is some own fits = absurd has
  ranges_fine x fs (Part o place) high s cells has too ready is some own fits = absurd has
  ranges_fine x fs (Scalar (scalar.Integer low)) high s cells has too ready is some own fits = high_fine x fs low high s cells too ready is some own fits
  ranges_fine x fs (Scalar (scalar.Boolean b)) high s cells has too ready is some own fits = absurd has

  -- The next number of the input goes to an Integer.
  gets_fine : (of_record : Bool) (cs : List ℕ) (x : ℕ) (input : List ℤ) (s : State) → Ready p [] s → is_type Integer (scalar_of (selectors_kind p.types (root_kind of_record (variable_kind p.variables x)) cs)) ≡ true → Fits p (cells_of s.heap) [] s.control → Fine p (gets_next named cs x input s)
  gets_fine of_record (c ∷ cs) x input s ready is fits =
      let own = integer_kind (selectors_kind p.types (root_kind of_record (variable_kind p.variables x)) (c ∷ cs)) is in
      holder_fine p of_record c cs x variable.Integer (λ last. frame.Receives last) s [] ready own (λ last. ready.deep) (λ access last leads. ([], access, refl, leads, fits))
  gets_fine of_record [] x [] s ready is fits = raises p [] [] EndError s ready fits
  gets_fine of_record [] x (i ∷ input) s ready is fits =
      let there = root_same of_record (variable_kind p.variables x) variable.Integer (integer_kind (root_kind of_record (variable_kind p.variables x)) is) in
      let stored = put_in p [] s x variable.Integer (an_integer i) ready there tt in
      running [] (record { filled = stored.filled; active = stored.active; runs = stored.runs; deep = stored.deep }) fits

  stmt_fine : (types : List TypeDefinition) → map type_form types ≡ p.types → (f : StmtForm) (inside : Bool) (s : State) → Ready p [] s → FitStmt p inside f → WhereInside inside (Lands p (cells_of s.heap) s.control) → Fits p (cells_of s.heap) [] s.control → Fine p (stmt_next named types bodies f s)
  stmt_fine types shown skips inside s ready is lands fits = running [] ready fits
  stmt_fine types shown (assigns target right) inside s ready is lands fits =
      let fitting = right_fits p.types p.variables (path_kind p.types p.variables target) right in
      let lending = lends_to p.variables (names_borrower p.variables target) right in
      assign_fine target.of_record target.selectors target.root right s [] ready (and_left fitting lending is.0) fits
  stmt_fine types shown (assigns_record target items) inside s ready is lands fits =
      let leads = is_record_path p.types p.variables target in
      let others = record_fits p.types p.variables target.record_type items in
      record_assign_fine p types shown (has_parts types target.record_type) target items s ready refl (and_left leads others is.0) (and_right leads others is.0) fits
  stmt_fine types shown (frees access path) inside s ready is lands fits =
      let freed = is_freed_by p.types access (path_access p.types p.variables path) in
      frees_fine types shown path.of_record path.selectors access path.root s [] ready (and_left freed (not (names_borrower p.variables path)) is.0) is.1 fits
  stmt_fine types shown (gets target) inside s ready is lands fits =
      gets_fine target.of_record target.selectors target.root s.input s ready is.0 fits
  stmt_fine types shown (writes e) inside s ready is lands fits =
      running [] (ready_at p [] s (frame.Computes e ∷ frame.Writes ∷ s.control) ready ready.deep) (Integer, typed Integer (type_of p.types p.variables e) is.0, ([], refl, fits))
  stmt_fine types shown (writes_text text) inside s ready is lands fits = running [] ready fits
  stmt_fine types shown (chooses branches) inside s ready is lands fits = branches_fine branches inside s ready is lands fits
  stmt_fine types shown (repeats condition fs end_spot) inside s ready is lands fits =
      let own = condition_fits p.types p.variables condition in
      let inner = statements_are_of_kind p.types p.variables p.texts p.exceptions (callable_in p) true fs in
      let former = and_left (own && has_statement fs) inner is.0 in
      running [] (ready_at p [] s (frame.Repeats condition fs ∷ s.control) ready ready.deep)
      (refl, and_left own (has_statement fs) former, and_right own (has_statement fs) former, (and_right (own && has_statement fs) inner is.0, is.1), fits)
  stmt_fine types shown (exits condition spot) inside s ready is lands fits = exit_fine inside condition s ready is.0 lands fits
  stmt_fine types shown (counts x low high fs end_spot) inside s ready is lands fits =
      let kind = is_type Integer (scalar_of (variable_kind p.variables x)) in
      let first = has_type p.types p.variables Integer low in
      let last = has_type p.types p.variables Integer high in
      let some = has_statement fs in
      let inner = statements_are_of_kind p.types p.variables p.texts p.exceptions (callable_in p) true fs in
      let four = and_left (kind && first && last && some) inner is.0 in
      let three = and_left (kind && first && last) some four in
      let two = and_left (kind && first) last three in
      running [] (ready_at p [] s (frame.Computes low ∷ frame.Computes high ∷ frame.Ranges x fs ∷ s.control) ready ready.deep) (
        Integer,
        typed Integer (type_of p.types p.variables low) (and_right kind first two),
        (
          Integer,
          typed Integer (type_of p.types p.variables high) (and_right (kind && first) last three),
          (
            refl,
            integer_kind (variable_kind p.variables x) (and_left kind first two),
            and_right (kind && first && last) some four,
            (and_right (kind && first && last && some) inner is.0, is.1),
            fits,
          ),
        ),
      )
  stmt_fine types shown (calls procedure actuals) inside s ready is lands fits =
      let found = profile_found p.types p.variables p.bodies procedure actuals is.0 in
      let behind = frame.Calls procedure found.0 actuals ∷ s.control in
      let deep : depth (computing named actuals behind) ≤ length s.masters = omega (arith, ready.deep, depth_computing actuals behind) in
      subst (λ (o : Option BodyForm). Fine p (call_next named procedure actuals o s)) (sym (sees procedure found.0 found.1))
      (running [] (ready_at p [] s (computing named actuals behind) ready deep)
      (computing_fits p (cells_of s.heap) (formal_kinds found.0) [] actuals behind found.2 (found.1, refl, found.2, fits)))
  stmt_fine types shown (returns spot) inside s ready is lands fits = on_jump Returning (jumped p [] Returning s ready) (catches p (cells_of s.heap) s.control [] fits)
  stmt_fine types shown (raises_it e) inside s ready is lands fits = raises p [] [] e s ready fits
  stmt_fine types shown (encloses ds fs hs) inside s ready is lands fits =
      let own = declarations_are_of_kind p.types p.variables ds in
      let inner = statements_are_of_kind p.types p.variables p.texts p.exceptions (callable_in p) inside fs in
      let handled = handlers_are_of_kind p.types p.variables p.texts p.exceptions (callable_in p) inside hs in
      let former = and_left (own && inner) handled is.0 in
      let by_own = statements_free_own p.types p.variables fs in
      let later = handlers_free_own p.types p.variables hs in
      let initials = and_right (collections_first ds && list_all (collection_fits p.types) ds) (list_all (initial_is_of_kind p.types p.variables) ds) (and_left own inner former) in
      running [] (record { filled = ready.filled; active = ready.active; runs = ready.runs; deep = omega (arith, ready.deep) }) (
        refl,
        inside,
        initials,
        (and_right own inner former, λ body. and_left by_own later (is.1 body)),
        (and_right (own && inner) handled is.0, λ body. and_right by_own later (is.1 body)),
        lands,
        fits,
      )

  stmts_fine : (types : List TypeDefinition) → map type_form types ≡ p.types → (fs : StmtsForm) (inside : Bool) (s : State) → Ready p [] s → FitStmts p inside fs → WhereInside inside (Lands p (cells_of s.heap) s.control) → Fits p (cells_of s.heap) [] s.control → Fine p (stmts_next named types bodies fs s)
  stmts_fine types shown no_stmts inside s ready is lands fits = running [] ready fits
  stmts_fine types shown (a_stmt f fs) inside s ready is lands fits =
      let own = statement_is_of_kind p.types p.variables p.texts p.exceptions (callable_in p) inside f in
      let others = statements_are_of_kind p.types p.variables p.texts p.exceptions (callable_in p) inside fs in
      let by_own = statement_frees_own p.types p.variables f in
      let later = statements_free_own p.types p.variables fs in
      stmt_fine types shown f inside (at (frame.Does fs ∷ s.control) s) (ready_at p [] s (frame.Does fs ∷ s.control) ready ready.deep)
      (and_left own others is.0, λ body. and_left by_own later (is.1 body)) lands
      (refl, inside, (and_right own others is.0, λ body. and_right by_own later (is.1 body)), lands, fits)

  line_fine : (v : Value) (s : State) (kinds : List OperandKind) (cells : Cells) → HasKind p.types cells variable.Integer v → Ready p kinds s → Fits p (cells_of s.heap) kinds s.control → Fine p (line_next named (reads_integer v) s)
  line_fine Null s kinds cells has ready fits = absurd has
  line_fine (Names o) s kinds cells has ready fits = absurd has
  line_fine (Part o place) s kinds cells has ready fits = absurd has
  line_fine (Scalar (scalar.Integer i)) s kinds cells has ready fits = running kinds ready fits
  line_fine (Scalar (scalar.Boolean b)) s kinds cells has ready fits = absurd has

  -- Declarations (3.11): a record object, whose components have values of their kinds.
  made_fine : (types : List TypeDefinition) → map type_form types ≡ p.types → (x t : ℕ) (by : Birth) (object : TypeNo) (cs : List ComponentKind) (values : List Value) (kinds : List OperandKind) (s : State) → HaveKinds p.types (cells_of s.heap) cs values → Ready p kinds s → variable_kind p.variables x ≡ Some (variable.Record object) → t ≡ object.0 → reached_components p.types t ≡ Some cs → is_access p.types t ≡ false → Fits p (cells_of s.heap) kinds s.control → TypedIn p (made named types x t by values s)
  made_fine types shown x t by object cs values kinds s have ready is own reached never fits =
      let cell = record_cell named types t (height s.masters) values in
      let heap = s.heap ++ new_object cell ∷ [] in
      running kinds (ready_made p types shown x t by object cs values kinds s have ready is own reached never)
      (treating_fits p (cells_of heap) kinds (Names (record { 0 = length s.heap })) (frame.begins by []) (all_tasks types t PartsFirst) s.control
      (t, (cell, named_newest p s.heap cell, refl), all_within types p.types t PartsFirst shown, (tt, tt)) (fits_more p kinds s.control s.heap cell fits))

  -- What holds of a record object where it is declared.
  record_fine : (types : List TypeDefinition) → map type_form types ≡ p.types → (x t : ℕ) (initial : Option (List ItemForm)) (s : State) → Ready p [] s → initial_is_of_kind p.types p.variables (declares_record x t initial) ≡ true → Fits p (cells_of s.heap) [] s.control → Fine p (record_next named types x t initial s)
  record_fine types shown x t None s ready is fits =
      let named_so = and_left (is_record_object t (variable_kind p.variables x)) (record_initial_is_of_kind p.types p.variables (object_named p.types (Some t)) None) is in
      let own = own_object t (variable_kind p.variables x) named_so in
      let known : is_object_type p.types own.0.0 ≡ true = kind_there p.types p.variables x (variable.Record own.0) fit.variables_fit own.1 in
      let there = object_reached p.types own.0.0 fit.types_fit known in
      let reached : reached_components p.types t ≡ Some there.0 = ap (reached_components p.types) own.2 ∙ there.1 in
      let have = initials_have p.types (cells_of s.heap) (reached_of types t) there.0 (reached_shown types t there.0 shown reached) in
      made_fine types shown x t Creation own.0 there.0 (initial_values named (reached_of types t)) [] s have ready own.1 own.2 reached (record_no_access p.types p.variables x t fit.variables_fit named_so) fits
  record_fine types shown x t (Some items) s ready is fits =
      let initial = record_initial_is_of_kind p.types p.variables (object_named p.types (Some t)) (Some items) in
      let named_so = and_left (is_record_object t (variable_kind p.variables x)) initial is in
      let own = own_object t (variable_kind p.variables x) named_so in
      let later = and_right (is_record_object t (variable_kind p.variables x)) initial is in
      let found = object_filled p (object_named p.types (Some t)) items later in
      let never : is_access p.types t ≡ false = record_no_access p.types p.variables x t fit.variables_fit named_so in
      running [] (ready_at p [] s (frame.Fills items ∷ frame.DeclaresRecord x t ∷ s.control) ready ready.deep)
      (found.0, found.2, ([], own.0, found.0, refl, own.1, own.2, found.1, never, fits))

  declarations_fine : (types : List TypeDefinition) → map type_form types ≡ p.types → (ds : List DeclarationForm) (fs : StmtsForm) (hs : HandlersForm) (s : State) → Ready p [] s → 1 + depth s.control ≤ length s.masters → Fits p (cells_of s.heap) [] (frame.Elaborates ds fs hs ∷ s.control) → Fine p (declarations_next named types ds fs hs s)
  declarations_fine types shown [] fs hs s ready deep fits =
      running [] (ready_at p [] s (frame.Does fs ∷ frame.Handles hs ∷ frame.Closes ∷ s.control) ready deep)
      (refl, fits.1, fits.3, fits.5, (refl, fits.1, fits.4, fits.5, fits.6))
  declarations_fine types shown (creates_pool pool ∷ ds) fs hs s ready deep fits =
      running [] (ready_owning p [] (at (frame.Elaborates ds fs hs ∷ s.control) s) (storage_pool pool (pools_in s.masters + 1)) (ready_at p [] s (frame.Elaborates ds fs hs ∷ s.control) ready deep))
      (refl, fits.1, and_right (initial_is_of_kind p.types p.variables (creates_pool pool)) (list_all (initial_is_of_kind p.types p.variables) ds) fits.2, fits.3, fits.4, fits.5, fits.6)
  declarations_fine types shown (collects access ∷ ds) fs hs s ready deep fits =
      running [] (ready_owning p [] (at (frame.Elaborates ds fs hs ∷ s.control) s) (collection access (pool_for (pool_named types access) s.masters)) (ready_at p [] s (frame.Elaborates ds fs hs ∷ s.control) ready deep))
      (refl, fits.1, and_right (initial_is_of_kind p.types p.variables (collects access)) (list_all (initial_is_of_kind p.types p.variables) ds) fits.2, fits.3, fits.4, fits.5, fits.6)
  declarations_fine types shown (declares_record x t initial ∷ ds) fs hs s ready deep fits =
      let fitting = initial_is_of_kind p.types p.variables (declares_record x t initial) in
      let later = list_all (initial_is_of_kind p.types p.variables) ds in
      let inner = frame.Elaborates ds fs hs ∷ s.control in
      record_fine types shown x t initial (at inner s) (ready_at p [] s inner ready deep) (and_left fitting later fits.2)
      (refl, fits.1, and_right fitting later fits.2, fits.3, fits.4, fits.5, fits.6)
  declarations_fine types shown (declares x right ∷ ds) fs hs s ready deep fits =
      let fitting = right_fits p.types p.variables (variable_kind p.variables x) right in
      let lending = lends_to p.variables (is_borrower p.variables x) right in
      let later = list_all (initial_is_of_kind p.types p.variables) ds in
      let own = right_kind (variable_kind p.variables x) p.variables right (and_left fitting lending (and_left (fitting && lending) later fits.2)) in
      running [] (ready_at p [] s (frame.Evaluates right ∷ frame.Declares x ∷ frame.Elaborates ds fs hs ∷ s.control) ready deep)
      (own.0, own.2, ([], own.0, refl, own.1, (refl, fits.1, and_right (fitting && lending) later fits.2, fits.3, fits.4, fits.5, fits.6)))

  -- Each frame that is taken off, where no call begins or ends, and no object is treated.
  pub frame_fine : (types : List TypeDefinition) → map type_form types ≡ p.types → (f : Frame Value) → crosses f ≡ false → is_treatment f ≡ false → (s : State) (kinds : List OperandKind) → Ready p kinds s → depth (f ∷ s.control) ≤ length s.masters → Fits p (cells_of s.heap) kinds (f ∷ s.control) → Fine p (frame_next named types bodies f s)
  frame_fine types shown (frame.Elaborates ds fs hs) stays plain s kinds ready deep fits =
      declarations_fine types shown ds fs hs s (ready_kinds p kinds [] s fits.0 ready) deep (refl, fits.1, fits.2, fits.3, fits.4, fits.5, fits.6)
  frame_fine types shown (frame.Does fs) stays plain s kinds ready deep fits = stmts_fine types shown fs fits.1 s (ready_kinds p kinds [] s fits.0 ready) fits.2 fits.3 fits.4
  frame_fine types shown (frame.Decides fs branches) stays plain s kinds ready deep fits =
      let taken = ready_kinds p kinds (of_kind variable.Boolean ∷ []) s fits.0 ready in
      decided_fine fs branches (newest named s) fits.1 (popped s) (cells_of s.heap) (newest_of p variable.Boolean [] s taken) (ready_pop p variable.Boolean [] s taken) fits.2 fits.3 fits.4 fits.5
  frame_fine types shown (frame.Repeats condition fs) stays plain s kinds ready deep fits = repeats_fine condition fs s (ready_kinds p kinds [] s fits.0 ready) fits.1 fits.2 fits.3 fits.4
  frame_fine types shown (frame.Turns e fs) stays plain s kinds ready deep fits =
      let taken = ready_kinds p kinds (of_kind variable.Boolean ∷ []) s fits.0 ready in
      turned_fine e fs (newest named s) (popped s) (cells_of s.heap) (newest_of p variable.Boolean [] s taken) (ready_pop p variable.Boolean [] s taken) fits.1 fits.2 fits.3 fits.4
  frame_fine types shown (frame.Ranges x fs) stays plain s kinds ready deep fits =
      let high = ready_kinds p kinds (of_kind variable.Integer ∷ of_kind variable.Integer ∷ []) s fits.0 ready in
      let low = ready_pop p variable.Integer (of_kind variable.Integer ∷ []) s high in
      ranges_fine x fs (newest named (popped s)) (newest named s) (popped (popped s)) (cells_of s.heap) (newest_of p variable.Integer [] (popped s) low) (newest_of p variable.Integer (of_kind variable.Integer ∷ []) s high)
      (ready_pop p variable.Integer [] (popped s) low) fits.1 fits.2 fits.3 fits.4
  frame_fine types shown (frame.Counts x value last fs) stays plain s kinds ready deep fits =
      counts_fine (int_le value last) x value last fs s (ready_kinds p kinds [] s fits.0 ready) fits.1 fits.2 fits.3 fits.4
  frame_fine types shown (frame.Handles hs) stays plain s kinds ready deep fits = running [] (ready_kinds p kinds [] s fits.0 ready) fits.4
  frame_fine types shown frame.Exits stays plain s kinds ready deep fits =
      let taken = ready_kinds p kinds (of_kind variable.Boolean ∷ []) s fits.0 ready in
      exited_fine (newest named s) (popped s) (cells_of s.heap) (newest_of p variable.Boolean [] s taken) (ready_pop p variable.Boolean [] s taken) fits.1 fits.2
  frame_fine types shown frame.Closes stays plain s kinds ready deep fits = running kinds (ready_at p kinds s (frame.Leaves Running ∷ s.control) ready deep) fits
  frame_fine types shown (frame.Leaves mode) stays plain s kinds ready deep fits = leave_fine p types shown mode s.masters s kinds refl ready deep fits
  frame_fine types shown (frame.Calls procedure b actuals) stays plain s kinds ready deep fits = absurd (cc)
  frame_fine types shown (frame.Returns actuals references) stays plain s kinds ready deep fits = absurd (cc)
  frame_fine types shown (frame.Evaluates right) stays plain s kinds ready deep fits = right_fine p types shown right fits.0 s kinds ready fits.1 fits.2
  frame_fine types shown (frame.Computes e) stays plain s kinds ready deep fits = expression_fine p e fits.0 s kinds ready fits.1 fits.2
  frame_fine types shown (frame.Follows cs) stays plain s kinds ready deep fits =
      let taken = ready_kinds p kinds (of_kind fits.1 ∷ fits.0) s fits.3 ready in
      path_fine p cs (newest named s) fits.1 fits.2 (popped s) fits.0 (ready_pop p fits.1 fits.0 s taken) (newest_of p fits.1 fits.0 s taken) fits.5 fits.4 fits.6
  frame_fine types shown (frame.TestsNull equal) stays plain s kinds ready deep fits =
      let taken = ready_kinds p kinds (of_kind (variable.Access fits.1) ∷ fits.0) s fits.2 ready in
      null_test_fine p equal fits.1 (newest named s) (popped s) fits.0 (cells_of s.heap) (newest_of p (variable.Access fits.1) fits.0 s taken) (ready_pop p (variable.Access fits.1) fits.0 s taken) fits.3
  frame_fine types shown (frame.Refers q) stays plain s kinds ready deep fits =
      record_holder_fine p q (λ place. frame.RefersIn place q.record_type) s kinds ready fits.1 (λ place. ready.deep)
      (λ access place rs recorded lies parts. (kinds, access, fits.0, rs, refl, recorded, lies, parts, fits.2, fits.3))
  frame_fine types shown (frame.RefersIn place t) stays plain s kinds ready deep fits =
      let taken = ready_kinds p kinds (of_kind (variable.Access fits.1) ∷ fits.0) s fits.4 ready in
      subst (λ (m : ℕ). Fine p (refers_next named (newest named s) place m (look s.heap (newest named s)) (popped s))) (sym (width_shown types t fits.3 shown fits.5))
      (refers_fine p (newest named s) fits.1 fits.2 t place fits.3 (popped s) fits.0 (ready_pop p (variable.Access fits.1) fits.0 s taken) (newest_of p (variable.Access fits.1) fits.0 s taken) fits.5 fits.6 fits.7 fits.8 fits.9)
  frame_fine types shown (frame.Opens path) stays plain s kinds ready deep fits = open_fine path.of_record path.selectors path.root fits.0 s kinds ready fits.1 fits.2 fits.3
  frame_fine types shown (frame.OpensIn c) stays plain s kinds ready deep fits =
      let taken = ready_kinds p kinds (of_kind (variable.Access fits.1) ∷ fits.0) s fits.3 ready in
      opens_fine p (newest named s) fits.1 c fits.2 (popped s) fits.0 (ready_pop p (variable.Access fits.1) fits.0 s taken) (newest_of p (variable.Access fits.1) fits.0 s taken) fits.4 fits.5
  frame_fine types shown (frame.Continues links) stays plain s kinds ready deep fits =
      links_fine p links fits.1 fits.2 s fits.0 (ready_kinds p kinds (of_kind (kind_of fits.1) ∷ fits.0) s fits.3 ready) fits.4 fits.5
  frame_fine types shown (frame.Applies operator) stays plain s kinds ready deep fits =
      let right = ready_kinds p kinds (of_kind (kind_of fits.2) ∷ of_kind (kind_of fits.1) ∷ fits.0) s fits.4 ready in
      let left = ready_pop p (kind_of fits.2) (of_kind (kind_of fits.1) ∷ fits.0) s right in
      outcome_fine p (binary_given operator (newest named (popped s)) (newest named s)) fits.3 (popped (popped s)) fits.0 (ready_pop p (kind_of fits.1) fits.0 (popped s) left)
      (binary_gives p.types (cells_of s.heap) operator fits.1 fits.2 fits.3 (newest named (popped s)) (newest named s) fits.5 (newest_of p (kind_of fits.1) fits.0 (popped s) left) (newest_of p (kind_of fits.2) (of_kind (kind_of fits.1) ∷ fits.0) s right)) fits.6
  frame_fine types shown (frame.AppliesAlone operator) stays plain s kinds ready deep fits =
      let taken = ready_kinds p kinds (of_kind (kind_of fits.1) ∷ fits.0) s fits.3 ready in
      outcome_fine p (unary_given operator (newest named s)) fits.2 (popped s) fits.0 (ready_pop p (kind_of fits.1) fits.0 s taken)
      (unary_gives p.types (cells_of s.heap) operator fits.1 fits.2 (newest named s) fits.4 (newest_of p (kind_of fits.1) fits.0 s taken)) fits.5
  frame_fine types shown (frame.Fills items) stays plain s kinds ready deep fits = items_fine p items fits.0 s kinds ready fits.1 fits.2
  frame_fine types shown (frame.Copies first t) stays plain s kinds ready deep fits =
      let taken = ready_kinds p kinds (of_kind (variable.Access fits.1) ∷ fits.0) s fits.3 ready in
      subst (λ (m : ℕ). Fine p (copies_next named (newest named s) first m (look s.heap (newest named s)) (popped s))) (sym (width_shown types t fits.2 shown fits.4))
      (copies_fine p (newest named s) fits.1 first fits.2 (popped s) fits.0 (ready_pop p (variable.Access fits.1) fits.0 s taken) (newest_of p (variable.Access fits.1) fits.0 s taken) fits.5 fits.7)
  frame_fine types shown (frame.Creates access count) stays plain s kinds ready deep fits =
      let taken = ready_kinds p kinds (onto fits.1 fits.0) s fits.2 ready in
      subst (λ (m : ℕ). Fine p (new_next named types access m (words_of types access) (home_of access s.masters) s)) (sym fits.4)
      (new_fine p types shown (home_of access s.masters) access (words_of types access) s fits.0 fits.1 taken fits.3 fits.5)
  frame_fine types shown (frame.Stores x) stays plain s kinds ready deep fits =
      let taken = ready_kinds p kinds (of_kind fits.1 ∷ fits.0) s fits.2 ready in
      running fits.0 (put_in p fits.0 (popped s) x fits.1 (newest named s) (ready_pop p fits.1 fits.0 s taken) fits.3 (newest_of p fits.1 fits.0 s taken)) fits.4
  frame_fine types shown (frame.Targets c right) stays plain s kinds ready deep fits =
      let taken = ready_kinds p kinds (of_kind (variable.Access fits.1) ∷ fits.0) s fits.3 ready in
      target_fine p (newest named s) fits.1 c right fits.2 (popped s) fits.0 (ready_pop p (variable.Access fits.1) fits.0 s taken) (newest_of p (variable.Access fits.1) fits.0 s taken) fits.4 fits.5 fits.6
  frame_fine types shown (frame.StoresIn object c) stays plain s kinds ready deep fits =
      let taken = ready_kinds p kinds (of_kind fits.2 ∷ fits.0) s fits.3 ready in
      store_fine p object fits.1 c (newest named s) fits.2 (popped s) fits.0 fits.4 (ready_pop p fits.2 fits.0 s taken) fits.5 fits.6 (newest_of p fits.2 fits.0 s taken) fits.7
  frame_fine types shown (frame.TargetsRecord first t items) stays plain s kinds ready deep fits =
      let taken = ready_kinds p kinds (of_kind (variable.Access fits.1) ∷ fits.0) s fits.3 ready in
      subst (λ (m : ℕ). Fine p (record_target_next named (newest named s) first m items (look s.heap (newest named s)) (popped s))) (sym (width_shown types t fits.2 shown fits.4))
      (record_target_fine p (newest named s) fits.1 first fits.2 items (popped s) fits.0 (ready_pop p (variable.Access fits.1) fits.0 s taken) (newest_of p (variable.Access fits.1) fits.0 s taken) fits.5 fits.6 fits.7)
  frame_fine types shown (frame.StoresRecord object first count) stays plain s kinds ready deep fits =
      let taken = ready_kinds p kinds (onto fits.2 fits.0) s fits.3 ready in
      subst (λ (m : ℕ). Fine p (store_record_next named object first m (look s.heap object) s)) (sym fits.4)
      (store_record_fine p object fits.1 first fits.2 s fits.0 fits.5 taken fits.6 fits.7 fits.8)
  frame_fine types shown (frame.Assigns t) stays plain s kinds ready deep fits =
      let taken = ready_kinds p kinds (lies_in t ∷ lies_in t ∷ fits.0) s fits.2 ready in
      let left = ready_older p (lies_in t) (lies_in t ∷ fits.0) s taken in
      assigns_fine p types shown fit.types_fit t fits.1 (newest named (popped s)) (newest named s) (popped (popped s)) fits.0 (ready_older p (lies_in t) fits.0 (popped s) left) fits.3
      (newest_operand p (lies_in t) fits.0 (popped s) left) (newest_operand p (lies_in t) (lies_in t ∷ fits.0) s taken) fits.4
  frame_fine types shown (frame.Receives c) stays plain s kinds ready deep fits =
      let taken = ready_kinds p kinds (of_kind (variable.Access fits.1) ∷ fits.0) s fits.2 ready in
      receive_fine p (newest named s) fits.1 c (popped s) fits.0 (ready_pop p (variable.Access fits.1) fits.0 s taken) (newest_of p (variable.Access fits.1) fits.0 s taken) fits.3 fits.4
  frame_fine types shown (frame.FreesIn access c) stays plain s kinds ready deep fits =
      let taken = ready_kinds p kinds (of_kind (variable.Access fits.1) ∷ fits.0) s fits.3 ready in
      free_in_fine p types shown (newest named s) access fits.1 fits.2 c (popped s) fits.0 (ready_pop p (variable.Access fits.1) fits.0 s taken) (newest_of p (variable.Access fits.1) fits.0 s taken) fits.4 fits.6
  frame_fine types shown (frame.Declares x) stays plain s kinds ready deep fits =
      let taken = ready_kinds p kinds (of_kind fits.1 ∷ fits.0) s fits.2 ready in
      running fits.0 (ready_owning p fits.0 (put x (newest named s) (popped s)) (declared x) (put_in p fits.0 (popped s) x fits.1 (newest named s) (ready_pop p fits.1 fits.0 s taken) fits.3 (newest_of p fits.1 fits.0 s taken))) fits.4
  frame_fine types shown (frame.DeclaresRecord x t) stays plain s kinds ready deep fits =
      let taken = ready_kinds p kinds (onto fits.2 fits.0) s fits.3 ready in
      let words : words_of types t ≡ length fits.2 = words_shown types t fits.2 shown fits.6 in
      subst (λ (m : ℕ). TypedIn p (made named types x t Copy (newest_ones named m s) (without_newest named m s))) (sym words)
      (made_fine types shown x t Copy fits.1 fits.2 (newest_ones named (length fits.2) s) fits.0 (without_newest named (length fits.2) s) (newest_have p fits.2 fits.0 s taken) (ready_without p fits.2 fits.0 s taken) fits.4 fits.5 fits.6 fits.7 fits.8)
  frame_fine types shown (frame.Treats v treatment tasks) stays plain s kinds ready deep fits = absurd (cc)
  frame_fine types shown (frame.Awaits v by done of part tasks) stays plain s kinds ready deep fits = absurd fits
  frame_fine types shown frame.Confines stays plain s kinds ready deep fits = absurd fits
  frame_fine types shown (frame.Resumes mode) stays plain s kinds ready deep fits = resumes_fine p mode s kinds ready fits
  frame_fine types shown frame.Writes stays plain s kinds ready deep fits =
      let taken = ready_kinds p kinds (of_kind variable.Integer ∷ fits.0) s fits.1 ready in
      line_fine (newest named s) (popped s) fits.0 (cells_of s.heap) (newest_of p variable.Integer fits.0 s taken) (ready_pop p variable.Integer fits.0 s taken) fits.2
  frame_fine types shown (frame.Ends v) stays plain s kinds ready deep fits = end_fine p v s kinds fits.0 ready fits.1
  frame_fine types shown (frame.GivesBack v cause pool) stays plain s kinds ready deep fits = back_fine p v cause pool s kinds fits.0 ready fits.1
  frame_fine types shown (frame.Clears x) stays plain s kinds ready deep fits = running kinds (put_in p kinds s x (variable.Access fits.0) Null ready fits.1 tt) fits.2
  frame_fine types shown (frame.ClearsIn object c) stays plain s kinds ready deep fits = store_fine p object fits.0 c Null (variable.Access fits.1) s kinds fits.2 ready fits.3 fits.4 tt fits.5
