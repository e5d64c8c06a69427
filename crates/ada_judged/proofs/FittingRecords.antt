-- Where forms fit, paths from the formal parameter begin with a record object.

use Rattle.std.proofs.Common.{◌≡◌, ℕ, Bool, true, false, List, [], ◌∷◌, drop, Option, Some, None, refl, ap, ◌∙◌}
use Rattle.std.specs.Prelude.{◌==◌, ◌&&◌, ◌||◌, not, if◌then◌else◌, is_some}
use Rattle.std.specs.List.{list_all}
use Rattle.ada_values.specs.declared.operator.UnaryOperator.{UnaryOperator}
use Rattle.ada_values.specs.declared.operator.UnaryOperator.TheVariants as unary
use Rattle.ada_values.specs.declared.operator.BinaryOperator.{BinaryOperator}
use Rattle.ada_values.specs.declared.operator.BinaryOperator.TheVariants as binary
use Rattle.ada_program.specs.declared.program.ComponentKind.{ComponentKind}
use Rattle.ada_program.specs.declared.program.ComponentKind.TheVariants as component
use Rattle.ada_program.specs.declared.program.ScalarType.{ScalarType}
use Rattle.ada_program.specs.declared.program.ScalarType.TheVariants.{Integer, Boolean}
use Rattle.ada_program.specs.declared.program.TypeNo.{TypeNo}
use Rattle.ada_program.specs.declared.program.VariableKind.{VariableKind}
use Rattle.ada_program.specs.declared.program.VariableKind.TheVariants as variable
use Rattle.ada_program.specs.Form.{PathForm, ExpressionForm, integer, boolean, reads, is_null, applied_to, chained, LinksForm, no_more_links, a_link, ItemForm, null_item, item_of_path, item_of_value, item_of_record, RightForm, nothing, value_of, allocates, allocates_default, computes, DeclarationForm, creates_pool, collects, declares, declares_record, StmtForm, skips, assigns, assigns_record, frees, gets, writes, writes_text, chooses, repeats, counts, exits, calls, returns, raises, encloses, StmtsForm, no_stmts, a_stmt, BranchesForm, otherwise, a_branch, HandlersForm, no_handlers, a_handler}
use Rattle.ada_program.specs.ProgramForm.{TypeForm, VariableForm}
use Rattle.ada_program.specs.WellFormed.{variable_kind, selected_kind, is_borrower, selectors_kind, root_kind, scalar_of, value_access, path_kind, path_access, is_this, is_type, given_one, given_two, given_alike, unary_type, binary_type, type_of, chain_type, has_type, access_of, reached_components, record_components, object_components, begins_with_record, has_record_at, has_parts_at, parts_named, object_named, component_item_fits, first_fits, item_fits, item_width, items_fit, is_filled, access_fits, scalar_fits, right_fits, names_borrower, lends_to, names_before, initial_fits, item_owns, finalization_of, copies_whole, record_fits, is_freed_by, condition_fits, has_statement, choice_fits, Profile, collections_first, collection_fits, declarations_fit, statement_fits, stmts_fit, branches_fit, handlers_fit}
use Rattle.ada_flow.specs.Tracking.{Tracks, is_component, is_one_of}
use Rattle.ada_tracked.proofs.Lists.{is_same}
use Rattle.ada_judged.specs.Fitting.{AreOfAccess, TracksComponents, PathIsOfRecord, ExpressionIsOfRecord, LinksAreOfRecord, ConditionIsOfRecord, ItemIsOfRecord, ItemsAreOfRecord, RightIsOfRecord, DeclarationIsOfRecord, DeclarationsAreOfRecord, StatementIsOfRecord, StatementsAreOfRecord, BranchesAreOfRecord, HandlersAreOfRecord}
use Rattle.ada_judged.proofs.FittingPaths.{and_left, and_right}

-- What is there.
typed : (type : ScalarType) (o : Option ScalarType) → is_type type o ≡ true → is_some o ≡ true
typed type None h = absurd (cc)
typed type (Some t) h = refl

scalar_there : (k : Option VariableKind) → is_some (scalar_of k) ≡ true → is_some k ≡ true
scalar_there None h = absurd (cc)
scalar_there (Some k) h = refl

access_there : (k : Option VariableKind) → is_some (value_access k) ≡ true → is_some k ≡ true
access_there None h = absurd (cc)
access_there (Some k) h = refl

this_there : (access : ℕ) (o : Option ℕ) → is_this access o ≡ true → is_some o ≡ true
this_there access None h = absurd (cc)
this_there access (Some t) h = refl

record_there :
    (types : List TypeForm) (k : Option VariableKind) (first : ℕ) (components : Option (List ComponentKind))
    → has_record_at (object_components types (access_of k)) first components ≡ true → is_some k ≡ true
record_there types None first components h = absurd (cc)
record_there types (Some k) first components h = refl

freed_there : (types : List TypeForm) (access : ℕ) (o : Option ℕ) → is_freed_by types access o ≡ true → is_some o ≡ true
freed_there types access None h = absurd (cc)
freed_there types access (Some t) h = refl

right_there : (types : List TypeForm) (variables : List VariableForm) (k : Option VariableKind) (right : RightForm) → right_fits types variables k right ≡ true → is_some k ≡ true
right_there types variables None right h = absurd (cc)
right_there types variables (Some k) right h = refl

by_test : (b : Bool) (type : ScalarType) → is_some (if b then Some type else None) ≡ true → b ≡ true
by_test true type h = refl
by_test false type h = absurd (cc)

one_there : (taken : ScalarType) (o : Option ScalarType) → is_some (given_one taken o) ≡ true → is_some o ≡ true
one_there taken o h = typed taken o (by_test (is_type taken o) taken h)

two_there : (taken given : ScalarType) (l r : Option ScalarType) → is_some (given_two taken given l r) ≡ true → (is_some l ≡ true) × (is_some r ≡ true)
two_there taken given l r h =
    let both = by_test (is_type taken l && is_type taken r) given h in
    (typed taken l (and_left (is_type taken l) (is_type taken r) both), typed taken r (and_right (is_type taken l) (is_type taken r) both))

alike_there : (l r : Option ScalarType) → is_some (given_alike l r) ≡ true → (is_some l ≡ true) × (is_some r ≡ true)
alike_there None r h = absurd (cc)
alike_there (Some l) r h = (refl, typed l r (by_test (is_type l r) Boolean h))

unary_there : (operator : UnaryOperator) (o : Option ScalarType) → is_some (unary_type operator o) ≡ true → is_some o ≡ true
unary_there unary.Plus o h = one_there Integer o h
unary_there unary.Minus o h = one_there Integer o h
unary_there unary.Not o h = one_there Boolean o h

binary_there : (operator : BinaryOperator) (l r : Option ScalarType) → is_some (binary_type operator l r) ≡ true → (is_some l ≡ true) × (is_some r ≡ true)
binary_there binary.And l r h = two_there Boolean Boolean l r h
binary_there binary.Or l r h = two_there Boolean Boolean l r h
binary_there binary.Xor l r h = two_there Boolean Boolean l r h
binary_there binary.AndThen l r h = two_there Boolean Boolean l r h
binary_there binary.OrElse l r h = two_there Boolean Boolean l r h
binary_there binary.Equal l r h = alike_there l r h
binary_there binary.NotEqual l r h = alike_there l r h
binary_there binary.Less l r h = two_there Integer Boolean l r h
binary_there binary.LessOrEqual l r h = two_there Integer Boolean l r h
binary_there binary.Greater l r h = two_there Integer Boolean l r h
binary_there binary.GreaterOrEqual l r h = two_there Integer Boolean l r h
binary_there binary.Add l r h = two_there Integer Integer l r h
binary_there binary.Subtract l r h = two_there Integer Integer l r h
binary_there binary.Multiply l r h = two_there Integer Integer l r h
binary_there binary.Divide l r h = two_there Integer Integer l r h
binary_there binary.Modulo l r h = two_there Integer Integer l r h
binary_there binary.Remainder l r h = two_there Integer Integer l r h

component_at : (c x : ℕ) (ds : List ℕ) → is_component c x ds ≡ true → (x ≡ 0) × (ds ≡ c ∷ [])
component_at c x [] e = absurd (cc)
component_at c x (d ∷ []) e = (is_same x 0 (and_left (x == 0) (d == c) e), ap (λ (k : ℕ). k ∷ []) (is_same d c (and_right (x == 0) (d == c) e)))
component_at c x (d ∷ f ∷ ds) e = absurd (cc)

module _ (types : List TypeForm) (tracks : Tracks) (own : List VariableForm) (p : TracksComponents types tracks own) where
  -- Paths.
  leads_nowhere : (cs : List ℕ) → selectors_kind types None cs ≡ None
  leads_nowhere [] = refl
  leads_nowhere (c ∷ cs) = leads_nowhere cs

  by_root : (of_record : Bool) (root : ℕ) (cs : List ℕ) → root ≡ 0 → is_some (selectors_kind types (root_kind of_record (variable_kind own root)) cs) ≡ true → of_record ≡ true
  by_root true root cs at_root h = refl
  by_root false root cs at_root h =
      let none = ap (λ (x : ℕ). selectors_kind types (root_kind false (variable_kind own x)) cs) at_root ∙ ap (λ (k : Option VariableKind). selectors_kind types (root_kind false k) cs) p.formal ∙ leads_nowhere cs in
      absurd (cc (none, h))

  path_record : (path : PathForm) → is_some (path_kind types own path) ≡ true → PathIsOfRecord path
  path_record path h at_root = by_root path.of_record path.root path.selectors at_root h

  access_record : (path : PathForm) → is_some (path_access types own path) ≡ true → PathIsOfRecord path
  access_record path h = path_record path (access_there (path_kind types own path) h)

  -- A tracked component is no Integer.
  leads_to_access : (access : TypeNo) (c root : ℕ) (of_record : Bool) (selectors : List ℕ) → selected_kind types (Some (variable.Record p.object)) c ≡ Some (variable.Access access) → root ≡ 0 → of_record ≡ true → selectors ≡ c ∷ [] → selectors_kind types (root_kind of_record (variable_kind own root)) selectors ≡ Some (variable.Access access)
  leads_to_access access c root of_record selectors selected at_root is_record is =
      ap (λ (s : List ℕ). selectors_kind types (root_kind of_record (variable_kind own root)) s) is
      ∙ ap (λ (b : Bool). selectors_kind types (root_kind b (variable_kind own root)) (c ∷ [])) is_record
      ∙ ap (λ (x : ℕ). selectors_kind types (root_kind true (variable_kind own x)) (c ∷ [])) at_root
      ∙ ap (λ (k : Option VariableKind). selectors_kind types (root_kind true k) (c ∷ [])) p.formal ∙ selected

  not_this : (path : PathForm) → PathIsOfRecord path → is_type Integer (scalar_of (path_kind types own path)) ≡ true → (access : TypeNo) (c : ℕ) → selected_kind types (Some (variable.Record p.object)) c ≡ Some (variable.Access access) → (b : Bool) → is_component c path.root path.selectors ≡ b → b ≡ false
  not_this path of_record h access c selected false e = refl
  not_this path of_record h access c selected true e =
      let at = component_at c path.root path.selectors e in
      let none = ap (λ (k : Option VariableKind). is_type Integer (scalar_of k)) (leads_to_access access c path.root path.of_record path.selectors selected at.0 (of_record at.0) at.1) in
      absurd (cc (none, h))

  no_number : (path : PathForm) → PathIsOfRecord path → is_type Integer (scalar_of (path_kind types own path)) ≡ true → (cs : List ℕ) → AreOfAccess types p.object cs → is_one_of cs path ≡ false
  no_number path of_record h [] there = refl
  no_number path of_record h (c ∷ cs) there =
      ap (λ (b : Bool). b || is_one_of cs path) (not_this path of_record h there.0.0 c there.0.1 (is_component c path.root path.selectors) refl) ∙ no_number path of_record h cs there.1

  -- Expressions.
  mutual
    expression_record : (e : ExpressionForm) → is_some (type_of types own e) ≡ true → ExpressionIsOfRecord e
    expression_record (integer i) h = tt
    expression_record (boolean b) h = tt
    expression_record (reads path) h = path_record path (scalar_there (path_kind types own path) h)
    expression_record (is_null equal path) h = access_record path (by_test (is_some (path_access types own path)) Boolean h)
    expression_record (applied_to operator e) h = expression_record e (unary_there operator (type_of types own e) h)
    expression_record (chained e links) h =
        let more = links_record links (type_of types own e) h in
        (expression_record e more.0, more.1)

    links_record : (links : LinksForm) (left : Option ScalarType) → is_some (chain_type types own left links) ≡ true → (is_some left ≡ true) × LinksAreOfRecord links
    links_record no_more_links left h = (h, tt)
    links_record (a_link operator e links) left h =
        let more = links_record links (binary_type operator left (type_of types own e)) h in
        let both = binary_there operator left (type_of types own e) more.0 in
        (both.0, (expression_record e both.1, more.1))

  typed_record : (type : ScalarType) (e : ExpressionForm) → has_type types own type e ≡ true → ExpressionIsOfRecord e
  typed_record type e h = expression_record e (typed type (type_of types own e) h)

  condition_record : (condition : Option ExpressionForm) → condition_fits types own condition ≡ true → ConditionIsOfRecord condition
  condition_record None h = tt
  condition_record (Some e) h = typed_record Boolean e h

  -- Items.
  component_record : (kind : ComponentKind) (i : ItemForm) → component_item_fits types own kind i ≡ true → ItemIsOfRecord i
  component_record (component.Integer initial) null_item h = tt
  component_record (component.Integer initial) (item_of_path path) h = absurd (cc)
  component_record (component.Integer initial) (item_of_value e) h = typed_record Integer e h
  component_record (component.Integer initial) (item_of_record q) h = absurd (cc)
  component_record (component.Boolean initial) null_item h = tt
  component_record (component.Boolean initial) (item_of_path path) h = absurd (cc)
  component_record (component.Boolean initial) (item_of_value e) h = typed_record Boolean e h
  component_record (component.Boolean initial) (item_of_record q) h = absurd (cc)
  component_record (component.Access access) null_item h = tt
  component_record (component.Access access) (item_of_path path) h = access_record path (this_there access.0 (path_access types own path) h)
  component_record (component.Access access) (item_of_value e) h = absurd (cc)
  component_record (component.Access access) (item_of_record q) h = absurd (cc)

  first_record : (components : List ComponentKind) (i : ItemForm) → first_fits types own components i ≡ true → ItemIsOfRecord i
  first_record [] i h = absurd (cc)
  first_record (kind ∷ components) i h = component_record kind i h

  item_record : (components : List ComponentKind) (i : ItemForm) → item_fits types own components i ≡ true → ItemIsOfRecord i
  item_record components null_item h = tt
  item_record components (item_of_path path) h = first_record components (item_of_path path) h
  item_record components (item_of_value e) h = first_record components (item_of_value e) h
  item_record components (item_of_record q) h =
      let k = path_kind types own q.object in
      let copied = record_components types q.record_type in
      let a = has_record_at (object_components types (access_of k)) q.first copied in
      let b = has_parts_at types q.record_type (object_named types (access_of k)) q.first q.part in
      path_record q.object (record_there types k q.first copied (and_left a b (and_left (a && b) (begins_with_record components copied) h)))

  items_record : (items : List ItemForm) (components : List ComponentKind) → items_fit types own components items ≡ true → ItemsAreOfRecord items
  items_record [] components h = tt
  items_record (i ∷ items) components h =
      let a = item_fits types own components i in
      let b = items_fit types own (drop (item_width types i) components) items in
      (item_record components i (and_left a b h), items_record items (drop (item_width types i) components) (and_right a b h))

  filled_record : (found : Option (List ComponentKind)) (items : List ItemForm) → is_filled types own found items ≡ true → ItemsAreOfRecord items
  filled_record None items h = absurd (cc)
  filled_record (Some components) items h = items_record items components h

  -- What is assigned.
  scalar_record : (type : ScalarType) (right : RightForm) → scalar_fits types own type right ≡ true → RightIsOfRecord right
  scalar_record type nothing h = tt
  scalar_record type (value_of path) h = absurd (cc)
  scalar_record type (allocates t items) h = absurd (cc)
  scalar_record type (allocates_default t) h = tt
  scalar_record type (computes e) h = typed_record type e h

  value_record : (access : ℕ) (right : RightForm) → access_fits types own access right ≡ true → RightIsOfRecord right
  value_record access nothing h = tt
  value_record access (value_of path) h = access_record path (this_there access (path_access types own path) h)
  value_record access (allocates t items) h =
      let a = t == access in
      let b = is_filled types own (reached_components types access) items in
      let c = parts_named types (object_named types (Some access)) == 0 in
      filled_record (reached_components types access) items (and_right a b (and_left (a && b) c h))
  value_record access (allocates_default t) h = tt
  value_record access (computes e) h = absurd (cc)

  right_record : (kind : Option VariableKind) (right : RightForm) → right_fits types own kind right ≡ true → RightIsOfRecord right
  right_record None right h = absurd (cc)
  right_record (Some variable.Integer) right h = scalar_record Integer right h
  right_record (Some variable.Boolean) right h = scalar_record Boolean right h
  right_record (Some (variable.Access access)) right h = value_record access.0 right h
  right_record (Some (variable.Record t)) right h = absurd (cc)

  -- Declarations.
  initial_record : (d : DeclarationForm) → initial_fits types own d ≡ true → DeclarationIsOfRecord d
  initial_record (creates_pool q) h = tt
  initial_record (collects access) h = tt
  initial_record (declares x right) h =
      let early = names_before x right in
      let fitting = right_fits types own (variable_kind own x) right in
      let lending = lends_to own (is_borrower own x) right in
      right_record (variable_kind own x) right (and_right early fitting (and_left (early && fitting) lending h))
  initial_record (declares_record x t initial) h = tt

  initials_record : (ds : List DeclarationForm) → list_all (initial_fits types own) ds ≡ true → DeclarationsAreOfRecord ds
  initials_record [] h = tt
  initials_record (d ∷ ds) h =
      let a = initial_fits types own d in
      let b = list_all (initial_fits types own) ds in
      (initial_record d (and_left a b h), initials_record ds (and_right a b h))

  pub declarations_record : (ds : List DeclarationForm) → declarations_fit types own ds ≡ true → DeclarationsAreOfRecord ds
  declarations_record ds h =
      initials_record ds (and_right (collections_first ds && list_all (collection_fits types) ds) (list_all (initial_fits types own) ds) h)

  -- Statements, with these texts, exceptions and procedures.
  module _ (texts exceptions : List (List ℕ)) (callable : List Profile) where
    mutual
      statement_record : (inside : Bool) (f : StmtForm) → statement_fits types own texts exceptions callable inside f ≡ true → StatementIsOfRecord tracks f
      statement_record inside skips h = tt
      statement_record inside (assigns target right) h =
          let a = right_fits types own (path_kind types own target) right in
          let b = lends_to own (names_borrower own target) right in
          let fitting = and_left a b h in
          (path_record target (right_there types own (path_kind types own target) right fitting), right_record (path_kind types own target) right fitting)
      statement_record inside (assigns_record target items) h =
          let k = path_kind types own target.object in
          let components = record_components types target.record_type in
          let a = has_record_at (object_components types (access_of k)) target.first components in
          let b = has_parts_at types target.record_type (object_named types (access_of k)) target.first target.part in
          let c = record_fits types own target.record_type items in
          let d = is_filled types own components items in
          let e = list_all (item_owns own) items in
          let f = copies_whole target.record_type (finalization_of types target.record_type) items in
          (path_record target.object (record_there types k target.first components (and_left a b (and_left (a && b) c h))), filled_record components items (and_left d e (and_left (d && e) f (and_right (a && b) c h))))
      statement_record inside (frees access path) h =
          let a = is_freed_by types access (path_access types own path) in
          let b = not (names_borrower own path) in
          access_record path (freed_there types access (path_access types own path) (and_left a b h))
      statement_record inside (gets target) h =
          let of_record = path_record target (scalar_there (path_kind types own target) (typed Integer (scalar_of (path_kind types own target)) h)) in
          (of_record, no_number target of_record h tracks.components p.components)
      statement_record inside (writes e) h = typed_record Integer e h
      statement_record inside (writes_text text) h = tt
      statement_record inside (chooses branches) h = branches_record inside branches h
      statement_record inside (repeats condition fs spot) h =
          let a = condition_fits types own condition in
          let b = has_statement fs in
          let c = stmts_fit types own texts exceptions callable true fs in
          (condition_record condition (and_left a b (and_left (a && b) c h)), statements_record true fs (and_right (a && b) c h))
      statement_record inside (counts x low high fs spot) h =
          let a = is_type Integer (scalar_of (variable_kind own x)) in
          let b = has_type types own Integer low in
          let c = has_type types own Integer high in
          let d = has_statement fs in
          let e = stmts_fit types own texts exceptions callable true fs in
          let three = and_left (a && b && c) d (and_left (a && b && c && d) e h) in
          (typed_record Integer low (and_right a b (and_left (a && b) c three)), typed_record Integer high (and_right (a && b) c three), statements_record true fs (and_right (a && b && c && d) e h))
      statement_record inside (exits condition spot) h = condition_record condition (and_right inside (condition_fits types own condition) h)
      statement_record inside (calls procedure actuals) h = tt
      statement_record inside (returns spot) h = tt
      statement_record inside (raises e) h = tt
      statement_record inside (encloses ds fs hs) h =
          let a = declarations_fit types own ds in
          let b = stmts_fit types own texts exceptions callable inside fs in
          let c = handlers_fit types own texts exceptions callable inside hs in
          let front = and_left (a && b) c h in
          (declarations_record ds (and_left a b front), statements_record inside fs (and_right a b front), handlers_record inside hs (and_right (a && b) c h))

      pub statements_record : (inside : Bool) (fs : StmtsForm) → stmts_fit types own texts exceptions callable inside fs ≡ true → StatementsAreOfRecord tracks fs
      statements_record inside no_stmts h = tt
      statements_record inside (a_stmt f fs) h =
          let a = statement_fits types own texts exceptions callable inside f in
          let b = stmts_fit types own texts exceptions callable inside fs in
          (statement_record inside f (and_left a b h), statements_record inside fs (and_right a b h))

      branches_record : (inside : Bool) (branches : BranchesForm) → branches_fit types own texts exceptions callable inside branches ≡ true → BranchesAreOfRecord tracks branches
      branches_record inside (otherwise fs) h = statements_record inside fs h
      branches_record inside (a_branch e fs branches) h =
          let a = has_type types own Boolean e in
          let b = stmts_fit types own texts exceptions callable inside fs in
          let c = branches_fit types own texts exceptions callable inside branches in
          let front = and_left (a && b) c h in
          (typed_record Boolean e (and_left a b front), statements_record inside fs (and_right a b front), branches_record inside branches (and_right (a && b) c h))

      pub handlers_record : (inside : Bool) (hs : HandlersForm) → handlers_fit types own texts exceptions callable inside hs ≡ true → HandlersAreOfRecord tracks hs
      handlers_record inside no_handlers h = tt
      handlers_record inside (a_handler choices fs hs) h =
          let a = list_all (choice_fits exceptions) choices in
          let b = has_statement fs in
          let c = stmts_fit types own texts exceptions callable inside fs in
          let d = handlers_fit types own texts exceptions callable inside hs in
          let three = and_left (a && b && c) d h in
          (statements_record inside fs (and_right (a && b) c three), handlers_record inside hs (and_right (a && b && c) d h))
