-- The paths that come next lead somewhere, where what is left to do fits: each begins with a variable of a kind.

use Rattle.std.proofs.Common.{◌≡◌, ℕ, Bool, true, not, if◌then◌else◌, List, [], ◌∷◌, drop, Option, Some, None, refl}
use Rattle.std.specs.Prelude.{is_some}
use Rattle.ada_program.specs.declared.program.ComponentKind.{ComponentKind}
use Rattle.ada_program.specs.declared.program.ComponentKind.TheVariants as component
use Rattle.ada_program.specs.declared.program.ScalarType.{ScalarType}
use Rattle.ada_program.specs.declared.program.ScalarType.TheVariants.{Integer, Boolean}
use Rattle.ada_program.specs.declared.program.TypeNo.{TypeNo}
use Rattle.ada_program.specs.declared.program.VariableKind.{VariableKind}
use Rattle.ada_program.specs.declared.program.VariableKind.TheVariants as variable
use Rattle.ada_program.specs.Form.{PathForm, RecordPathForm, ExpressionForm, reads, is_null, ItemForm, item_of_path, item_of_record, RightForm, value_of, StmtForm, assigns, assigns_record, frees, gets, StmtsForm, no_stmts, a_stmt}
use Rattle.ada_program.specs.ProgramForm.{TypeForm, VariableForm, ProgramForm}
use Rattle.ada_program.specs.WellFormed.{access_of, has_record_at, is_record_path, object_components, record_components, path_kind, value_access, scalar_of, type_of, begins_with_record, item_fits, items_fit, item_width, record_fits, first_fits, kind_takes, right_fits, is_freed_by, names_borrower, lends_to, callable_in}
use Rattle.ada_meaning.specs.declared.state.Value.{Value}
use Rattle.ada_meaning.specs.Frame.{Frame}
use Rattle.ada_meaning.specs.Frame as frame
use Rattle.ada_typed.specs.Holding.{Cells}
use Rattle.ada_typed.proofs.Control.{Fits}
use Rattle.ada_typed.proofs.Evaluations.{scalar_kind, access_kind}
use Rattle.ada_typed.proofs.OfKinds.{statement_is_of_kind, statements_are_of_kind}
use Rattle.ada_typed.proofs.Operators.{and_left, typed}
use Rattle.ada_typed.proofs.Values.{OperandKind, kind_of}
use Rattle.ada_reaching.proofs.Selections.{IsRooted, rooted}

module _ (types : List TypeForm) (variables : List VariableForm) where
  -- A path leads somewhere.
  abbrev pub PathIsRooted : PathForm → Type 0
  PathIsRooted path = (to : VariableKind) × IsRooted types variables path.root path.selectors to × (path_kind types variables path ≡ Some to)

  -- So does that of an expression, if it is one.
  abbrev pub ExpressionIsRooted : ExpressionForm → Type 0
  ExpressionIsRooted (reads path) = PathIsRooted path
  ExpressionIsRooted (is_null equal path) = PathIsRooted path
  ExpressionIsRooted e = Unit {0}

  -- So does that of the first of some items.
  abbrev pub ItemsAreRooted : List ItemForm → Type 0
  ItemsAreRooted (item_of_path path ∷ is) = PathIsRooted path
  ItemsAreRooted (item_of_record q ∷ is) = PathIsRooted q.object
  ItemsAreRooted is = Unit {0}

  -- So does that of what is assigned.
  abbrev pub RightIsRooted : RightForm → Type 0
  RightIsRooted (value_of path) = PathIsRooted path
  RightIsRooted right = Unit {0}

  -- What is freed is of an access type that designates what that of the instance does (13.11.2).
  abbrev pub FreedIsRooted : (access : ℕ) → PathForm → Type 0
  FreedIsRooted access path =
      (own : TypeNo) × IsRooted types variables path.root path.selectors (variable.Access own) × (is_freed_by types access (Some own.0) ≡ true)
      × (path_kind types variables path ≡ Some (variable.Access own))

  -- So does the path with which a statement begins.
  abbrev pub StatementIsRooted : StmtForm → Type 0
  StatementIsRooted (assigns target right) = PathIsRooted target
  StatementIsRooted (assigns_record target items) = PathIsRooted target.object
  StatementIsRooted (frees access path) = FreedIsRooted access path
  StatementIsRooted (gets target) = PathIsRooted target
  StatementIsRooted f = Unit {0}

  -- So does that of the first of some statements.
  abbrev pub StatementsAreRooted : StmtsForm → Type 0
  StatementsAreRooted no_stmts = Unit {0}
  StatementsAreRooted (a_stmt f fs) = StatementIsRooted f

  -- So does that of a frame.
  abbrev pub FrameIsRooted : Frame Value → Type 0
  FrameIsRooted (frame.Does fs) = StatementsAreRooted fs
  FrameIsRooted (frame.Evaluates right) = RightIsRooted right
  FrameIsRooted (frame.Computes e) = ExpressionIsRooted e
  FrameIsRooted (frame.Fills items) = ItemsAreRooted items
  FrameIsRooted (frame.Refers q) = PathIsRooted q.object
  FrameIsRooted (frame.Opens path) = PathIsRooted path
  FrameIsRooted f = Unit {0}

  -- A path leads somewhere that has a kind.
  path_rooted : (path : PathForm) (to : VariableKind) → path_kind types variables path ≡ Some to → PathIsRooted path
  path_rooted path to is = (to, rooted types variables path to is, is)

  -- So does the path to the object of a record that has a kind.
  object_rooted :
      (path : PathForm) (rs : Option (List ComponentKind)) (first : ℕ) (kind : Option VariableKind) → path_kind types variables path ≡ kind
      → has_record_at (object_components types (access_of kind)) first rs ≡ true → PathIsRooted path
  object_rooted path rs first None same is = absurd (cc)
  object_rooted path rs first (Some to) same is = path_rooted path to same

  -- So does the path to a record.
  record_rooted : (q : RecordPathForm) → is_record_path types variables q ≡ true → PathIsRooted q.object
  record_rooted q is = object_rooted q.object (record_components types q.record_type) q.first (path_kind types variables q.object) refl (and_left _ _ is)

  -- What is compared with null is something.
  tested_kind :
      (kind : Option VariableKind) (t : ScalarType) → (if is_some (value_access kind) then Some Boolean else None) ≡ Some t
      → (to : VariableKind) × (kind ≡ Some to)
  tested_kind None t h = absurd (cc)
  tested_kind (Some to) t h = (to, refl)

  -- The path of an expression that has a type leads somewhere.
  expression_rooted : (e : ExpressionForm) (t : ScalarType) → type_of types variables e ≡ Some t → ExpressionIsRooted e
  expression_rooted (reads path) t is = path_rooted path (kind_of t) (scalar_kind (path_kind types variables path) t is)
  expression_rooted (is_null equal path) t is =
      let tested = tested_kind (path_kind types variables path) t is in
      path_rooted path tested.0 tested.1
  expression_rooted e t is = tt

  -- So does that of an item which fits a component.
  component_rooted : (cs : List ComponentKind) (path : PathForm) → first_fits types variables cs (item_of_path path) ≡ true → PathIsRooted path
  component_rooted [] path is = absurd (cc)
  component_rooted (component.Integer initial ∷ cs) path is = absurd (cc)
  component_rooted (component.Boolean initial ∷ cs) path is = absurd (cc)
  component_rooted (component.Access access ∷ cs) path is = path_rooted path (variable.Access access) (access_kind (path_kind types variables path) access is)

  -- So does that of the first of items that fit.
  items_rooted : (cs : List ComponentKind) (items : List ItemForm) → items_fit types variables cs items ≡ true → ItemsAreRooted items
  items_rooted cs (item_of_path path ∷ is) fits =
      component_rooted cs path
      (and_left (item_fits types variables cs (item_of_path path)) (items_fit types variables (drop (item_width types (item_of_path path)) cs) is) fits)
  items_rooted cs (item_of_record q ∷ is) fits =
      record_rooted q
      (and_left (is_record_path types variables q) (begins_with_record cs (record_components types q.record_type))
      (and_left (item_fits types variables cs (item_of_record q)) (items_fit types variables (drop (item_width types (item_of_record q)) cs) is) fits))
  items_rooted cs items fits = tt

  -- So does that of what is assigned, where that fits.
  value_rooted : (kind : VariableKind) (path : PathForm) → kind_takes types variables kind (value_of path) ≡ true → PathIsRooted path
  value_rooted variable.Integer path is = absurd (cc)
  value_rooted variable.Boolean path is = absurd (cc)
  value_rooted (variable.Access access) path is = path_rooted path (variable.Access access) (access_kind (path_kind types variables path) access is)
  value_rooted (variable.Record object) path is = absurd (cc)

  -- So it is with whatever is assigned.
  right_rooted : (kind : VariableKind) (right : RightForm) → kind_takes types variables kind right ≡ true → RightIsRooted right
  right_rooted kind (value_of path) is = value_rooted kind path is
  right_rooted kind right is = tt

  -- There is something to assign to.
  target_kind : (kind : Option VariableKind) (right : RightForm) → right_fits types variables kind right ≡ true → (to : VariableKind) × (kind ≡ Some to)
  target_kind None right is = absurd (cc)
  target_kind (Some to) right is = (to, refl)

  -- What is freed is an access value.
  freed_kind :
      (kind : Option VariableKind) (access : ℕ) → is_freed_by types access (value_access kind) ≡ true
      → (own : TypeNo) × (kind ≡ Some (variable.Access own)) × (is_freed_by types access (Some own.0) ≡ true)
  freed_kind None access is = absurd (cc)
  freed_kind (Some variable.Integer) access is = absurd (cc)
  freed_kind (Some variable.Boolean) access is = absurd (cc)
  freed_kind (Some (variable.Access own)) access is = (own, refl, is)
  freed_kind (Some (variable.Record object)) access is = absurd (cc)

module _ (p : ProgramForm) where
  statement_rooted :
      (inside : Bool) (f : StmtForm) → statement_is_of_kind p.types p.variables p.texts p.exceptions (callable_in p) inside f ≡ true
      → StatementIsRooted p.types p.variables f
  statement_rooted inside (assigns target right) is =
      let kind = path_kind p.types p.variables target in
      let own = target_kind p.types p.variables kind right
      (and_left (right_fits p.types p.variables kind right) (lends_to p.variables (names_borrower p.variables target) right) is) in
      path_rooted p.types p.variables target own.0 own.1
  statement_rooted inside (assigns_record target items) is =
      record_rooted p.types p.variables target
      (and_left (is_record_path p.types p.variables target) (record_fits p.types p.variables target.record_type items) is)
  statement_rooted inside (frees access path) is =
      let kind = path_kind p.types p.variables path in
      let own = freed_kind p.types p.variables kind access
      (and_left (is_freed_by p.types access (value_access kind)) (not (names_borrower p.variables path)) is) in
      (own.0, rooted p.types p.variables path (variable.Access own.0) own.1, own.2, own.1)
  statement_rooted inside (gets target) is =
      let kind = path_kind p.types p.variables target in
      path_rooted p.types p.variables target variable.Integer (scalar_kind kind Integer (typed Integer (scalar_of kind) is))
  statement_rooted inside f is = tt

  -- So does that of the first of statements which fit.
  statements_rooted :
      (inside : Bool) (fs : StmtsForm) → statements_are_of_kind p.types p.variables p.texts p.exceptions (callable_in p) inside fs ≡ true
      → StatementsAreRooted p.types p.variables fs
  statements_rooted inside no_stmts is = tt
  statements_rooted inside (a_stmt f fs) is =
      let own = statement_is_of_kind p.types p.variables p.texts p.exceptions (callable_in p) inside f in
      let others = statements_are_of_kind p.types p.variables p.texts p.exceptions (callable_in p) inside fs in
      statement_rooted inside f (and_left own others is)

  -- The path of a frame that fits leads somewhere.
  pub frame_rooted :
      (cells : Cells) (kinds : List OperandKind) (f : Frame Value) (k : List (Frame Value)) → Fits p cells kinds (f ∷ k) → FrameIsRooted p.types p.variables f
  frame_rooted cells kinds (frame.Does fs) k fits = statements_rooted fits.1 fs fits.2.0
  frame_rooted cells kinds (frame.Evaluates right) k fits = right_rooted p.types p.variables fits.0 right fits.1
  frame_rooted cells kinds (frame.Computes e) k fits = expression_rooted p.types p.variables e fits.0 fits.1
  frame_rooted cells kinds (frame.Refers q) k fits = record_rooted p.types p.variables q fits.1
  frame_rooted cells kinds (frame.Opens path) k fits = path_rooted p.types p.variables path fits.0 fits.1
  frame_rooted cells kinds (frame.Fills items) k fits = items_rooted p.types p.variables fits.0 items fits.1
  frame_rooted cells kinds f k fits = tt
