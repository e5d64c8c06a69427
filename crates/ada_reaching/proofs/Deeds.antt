-- Bodies that follow and free no value of some access types, by what their procedures do, shun these types.

use Rattle.std.proofs.Common.{◌≡◌, ℕ, Bool, true, false, not, ◌&&◌, ◌||◌, List, [], ◌∷◌, length, Option, Some, None, refl, sym, ap, ◌∙◌, subst, inl, inr}
use Rattle.std.specs.Prelude.{nat_lt, is_some}
use Rattle.std.specs.List.{list_all, slice_get}
use Rattle.std.proofs.lemmas.Bool.{and_from, and_parts, or_parts, cases_Bool, cases_lt, eq-eqb, lt-ltb, false_from_ne_true}
use Rattle.std.proofs.lemmas.Option.{slice_get_past}
use Rattle.ada_program.specs.declared.program.Exception.TheVariants.{EndError}
use Rattle.ada_program.specs.declared.program.TypeDefinition.{TypeDefinition}
use Rattle.ada_program.specs.declared.program.VariableKind.{VariableKind}
use Rattle.ada_program.specs.declared.program.VariableKind.TheVariants as variable
use Rattle.ada_program.specs.Form.{PathForm, RecordPathForm, ActualForm, in_value, in_null, in_access, in_record, in_out_path, in_out_access, in_out_component, in_out_record, ExpressionForm, integer, boolean, reads, is_null, applied_to, chained, LinksForm, no_more_links, a_link, ItemForm, null_item, item_of_path, item_of_value, item_of_record, RightForm, nothing, value_of, allocates, allocates_default, computes, DeclarationForm, creates_pool, collects, declares, declares_record, StmtForm, skips, assigns, assigns_record, frees, gets, writes, writes_text, chooses, repeats, counts, exits, calls, returns, raises, encloses, StmtsForm, no_stmts, a_stmt, BranchesForm, otherwise, a_branch, HandlersForm, no_handlers, a_handler}
use Rattle.ada_program.specs.ProgramForm.{TypeForm, VariableForm, BodyForm, ProgramForm, program_form, nowhere}
use Rattle.ada_program.specs.WellFormed.{IsWellFormed, designated_in, designated_type, is_access, is_this, path_access, path_kind, selected_kind, type_fits, value_access, variable_fits, variable_kind}
use Rattle.ada_quiet.specs.Bare.{has_bare_objects}
use Rattle.ada_deeds.specs.declared.deed.Callee.{Callee}
use Rattle.ada_deeds.specs.declared.deed.Callee.TheVariants as callee
use Rattle.ada_deeds.specs.declared.deed.Deed.{Deed}
use Rattle.ada_deeds.specs.declared.deed.Deed.TheVariants as deed
use Rattle.ada_deeds.specs.declared.deed.Operation.TheVariants.{Adjust, Finalize}
use Rattle.ada_deeds.specs.Does.{called_does, is_deed_of, Does, does}
use Rattle.ada_deeds.specs.Follows.{selectors_follow, path_follows, record_path_follows, expression_follows, links_follow, condition_follows, actual_follows, actuals_follow}
use Rattle.ada_deeds.specs.Forms.{path_does, record_path_does, expression_does, condition_does, actuals_do, allocation_does, freeing_does, is_left, is_raising, procedure_does, parts_do, creation_does, assignment_does, designated_by, item_does, items_do, right_does, declaration_does, declarations_do, leaving_does, stmt_does, stmts_do, branches_do, handlers_do, body_does}
use Rattle.ada_deeds.specs.Laws.{DoesFree}
use Rattle.ada_deeds.specs.Within.{does_by}
use Rattle.ada_deeds.proofs.Naming.{KindFits, variable_fits_kind, path_fits_kind}
use Rattle.ada_deeds.proofs.Within.{counts_are_enough}
use Rattle.ada_typed.proofs.Bodies.{SeenFits, seen_as, seen_fits}
use Rattle.ada_reaching.specs.Apart.{Apart}
use Rattle.ada_reaching.specs.Forms.{may_assign, may_fill, may_end, may_follow, selectors_shun, path_shuns, record_path_shuns, expression_shuns, links_shun, condition_shuns, item_shuns, right_shuns, actual_shuns, declaration_shuns, declarations_shun, statement_shuns, statements_shun, branches_shun, handlers_shun, body_shuns}
use Rattle.ada_reaching.specs.Law.{AreApart}
use Rattle.ada_reaching.specs.Deeds.{AreShaped, DoesFollow, UseNone, UnusedObjectsAreUntouched}
use Rattle.ada_reaching.proofs.Law.{shunned_untouched}

-- None of these is done.
abbrev NoneOf : {I : Type 0} → (these done : I → Bool) → Type 0
NoneOf {I = I} these done = (i : I) → these i ≡ true → done i ≡ false

-- Where neither of two is done, the first one is not,
first : {I : Type 0} (these a b : I → Bool) → NoneOf these (λ i. a i || b i) → NoneOf these a
first these a b none i is = (or_parts (a i) (b i) (none i is)).0

-- and neither is the second one.
second : {I : Type 0} (these a b : I → Bool) → NoneOf these (λ i. a i || b i) → NoneOf these b
second these a b none i is = (or_parts (a i) (b i) (none i is)).1

-- An access type is one of the types.
type_there : (types : List TypeForm) (t : ℕ) → is_access types t ≡ true → nat_lt t (length types) ≡ true
type_there types t is = elim (cases_lt t (length types)) [
  | inl below ↦ lt-ltb t (length types) below
  | inr past ↦ absurd (cc (sym (ap (λ (o : Option TypeForm). is_some (designated_in o)) (slice_get_past types t past)) ∙ is))
]

-- A variable of a kind.
abbrev of_kind : VariableKind → VariableForm
of_kind kind = record { name = []; spot = nowhere; kind = kind; borrows = false }

-- The path to a component of a variable.
abbrev component_path : (of_record : Bool) → (component : ℕ) → PathForm
component_path of_record c = record { root = 0; of_record = of_record; selectors = c ∷ []; spot = nowhere }

-- What a component holds is of a type of the program.
selected_fits :
    (types : List TypeForm) → list_all (type_fits types) types ≡ true → (kind : Option VariableKind) (c : ℕ) → KindFits types kind
    → KindFits types (selected_kind types kind c)
selected_fits types types_fit None c fits = tt
selected_fits types types_fit (Some variable.Integer) c fits = tt
selected_fits types types_fit (Some variable.Boolean) c fits = tt
selected_fits types types_fit (Some (variable.Access access)) c fits =
    path_fits_kind types types_fit (of_kind (variable.Access access) ∷ []) (and_from _ true (and_from _ true fits refl) refl) (component_path false c)
selected_fits types types_fit (Some (variable.Record object)) c fits =
    path_fits_kind types types_fit (of_kind (variable.Record object) ∷ []) (and_from _ true (and_from _ true fits refl) refl) (component_path true c)

-- Of a program's types, some are shunned.
module _ (types : List TypeForm) (shuns : ℕ → Bool) (apart : Apart) where
  -- An access type that is shunned.
  abbrev is_shunned : (access : ℕ) → Bool
  is_shunned t = shuns t && is_access types t

  -- It is followed or freed.
  abbrev is_use : Deed → Bool
  is_use (deed.Raises e) = false
  is_use (deed.Frees t) = is_shunned t.0
  is_use (deed.Follows t) = is_shunned t.0
  is_use deed.Allocates = false
  is_use deed.Calls = false

  -- Where nothing is followed by what is done,
  follows_none : (done : Deed → Bool) → NoneOf is_use done → NoneOf is_shunned (λ t. done (deed.Follows (record { 0 = t })))
  follows_none done none t is = none (deed.Follows (record { 0 = t })) is

  -- or nothing is freed.
  frees_none : (access : Option ℕ) → NoneOf is_use (λ d. freeing_does d access) → NoneOf is_shunned (λ t. is_this t access)
  frees_none access none t is = none (deed.Frees (record { 0 = t })) is

  -- A use is in what statements do, whatever handlers take from them (11.4).
  none_left : (hs : HandlersForm) (done : Deed → Bool) → NoneOf is_use (λ d. is_left hs d && done d) → NoneOf is_use done
  none_left hs done none (deed.Raises e) is = absurd (cc is)
  none_left hs done none (deed.Frees t) is = none (deed.Frees t) is
  none_left hs done none (deed.Follows t) is = none (deed.Follows t) is
  none_left hs done none deed.Allocates is = absurd (cc is)
  none_left hs done none deed.Calls is = absurd (cc is)

  -- What is of no access type that is shunned may be followed.
  may_be_followed :
      (kind : Option VariableKind) → KindFits types kind → NoneOf is_shunned (λ t. is_this t (value_access kind)) → may_follow shuns kind ≡ true
  may_be_followed None fits none = refl
  may_be_followed (Some variable.Integer) fits none = refl
  may_be_followed (Some variable.Boolean) fits none = refl
  may_be_followed (Some (variable.Access access)) fits none = elim (cases_Bool (shuns access.0)) [
    | inl is ↦ absurd (cc (sym (eq-eqb access.0 access.0 refl) ∙ none access.0 (and_from (shuns access.0) (is_access types access.0) is fits)))
    | inr is ↦ ap not is
  ]
  may_be_followed (Some (variable.Record object)) fits none = refl

  -- In a body of a well-formed program.
  module _ (variables : List VariableForm) (types_fit : list_all (type_fits types) types ≡ true) (variables_fit : list_all (variable_fits types) variables ≡ true) where
    selectors_unused :
        (kind : Option VariableKind) (cs : List ℕ) → KindFits types kind → NoneOf is_shunned (λ t. selectors_follow types t kind cs)
        → selectors_shun types shuns kind cs ≡ true
    selectors_unused kind [] fits none = refl
    selectors_unused kind (c ∷ cs) fits none =
        let behind = selected_kind types kind c in
        let here = λ (t : ℕ). is_this t (value_access kind) in
        let later = λ (t : ℕ). selectors_follow types t behind cs in
        and_from (may_follow shuns kind) (selectors_shun types shuns behind cs) (may_be_followed kind fits (first is_shunned here later none))
        (selectors_unused behind cs (selected_fits types types_fit kind c fits) (second is_shunned here later none))

    path_unused : (path : PathForm) → NoneOf is_shunned (λ t. path_follows types variables t path) → path_shuns types shuns apart variables path ≡ true
    path_unused path none =
        selectors_unused (variable_kind variables path.root) path.selectors (variable_fits_kind types types_fit variables variables_fit path.root) none

    -- What a path leads to may be followed.
    led_unused : (path : PathForm) → NoneOf is_shunned (λ t. is_this t (path_access types variables path)) → may_follow shuns (path_kind types variables path) ≡ true
    led_unused path none = may_be_followed (path_kind types variables path) (path_fits_kind types types_fit variables variables_fit path) none

    record_path_unused :
        (q : RecordPathForm) → NoneOf is_shunned (λ t. record_path_follows types variables t q) → record_path_shuns types shuns apart variables q ≡ true
    record_path_unused q none =
        let path = λ (t : ℕ). path_follows types variables t q.object in
        let end = λ (t : ℕ). is_this t (path_access types variables q.object) in
        and_from (path_shuns types shuns apart variables q.object) (may_follow shuns (path_kind types variables q.object))
        (path_unused q.object (first is_shunned path end none)) (led_unused q.object (second is_shunned path end none))

    mutual
      expression_unused :
          (e : ExpressionForm) → NoneOf is_shunned (λ t. expression_follows types variables t e) → expression_shuns types shuns apart variables e ≡ true
      expression_unused (integer i) none = refl
      expression_unused (boolean b) none = refl
      expression_unused (reads path) none = path_unused path none
      expression_unused (is_null equal path) none = path_unused path none
      expression_unused (applied_to operator e) none = expression_unused e none
      expression_unused (chained e links) none =
          let one = λ (t : ℕ). expression_follows types variables t e in
          let more = λ (t : ℕ). links_follow types variables t links in
          and_from (expression_shuns types shuns apart variables e) (links_shun types shuns apart variables links)
          (expression_unused e (first is_shunned one more none)) (links_unused links (second is_shunned one more none))

      links_unused : (links : LinksForm) → NoneOf is_shunned (λ t. links_follow types variables t links) → links_shun types shuns apart variables links ≡ true
      links_unused no_more_links none = refl
      links_unused (a_link operator e links) none =
          let one = λ (t : ℕ). expression_follows types variables t e in
          let more = λ (t : ℕ). links_follow types variables t links in
          and_from (expression_shuns types shuns apart variables e) (links_shun types shuns apart variables links)
          (expression_unused e (first is_shunned one more none)) (links_unused links (second is_shunned one more none))

    condition_unused :
        (condition : Option ExpressionForm) → NoneOf is_shunned (λ t. condition_follows types variables t condition)
        → condition_shuns types shuns apart variables condition ≡ true
    condition_unused None none = refl
    condition_unused (Some e) none = expression_unused e none

    actual_unused : (a : ActualForm) → NoneOf is_shunned (λ t. actual_follows types variables t a) → actual_shuns types shuns apart variables a ≡ true
    actual_unused (in_value e) none = expression_unused e none
    actual_unused in_null none = refl
    actual_unused (in_access path) none = path_unused path none
    actual_unused (in_record q) none = record_path_unused q none
    actual_unused (in_out_path path) none = path_unused path none
    actual_unused (in_out_access path) none = path_unused path none
    actual_unused (in_out_component path) none = path_unused path none
    actual_unused (in_out_record q) none = record_path_unused q none

    actuals_unused :
        (actuals : List ActualForm) → NoneOf is_shunned (λ t. actuals_follow types variables t actuals)
        → list_all (actual_shuns types shuns apart variables) actuals ≡ true
    actuals_unused [] none = refl
    actuals_unused (a ∷ rest) none =
        let one = λ (t : ℕ). actual_follows types variables t a in
        let more = λ (t : ℕ). actuals_follow types variables t rest in
        and_from (actual_shuns types shuns apart variables a) (list_all (actual_shuns types shuns apart variables) rest)
        (actual_unused a (first is_shunned one more none)) (actuals_unused rest (second is_shunned one more none))

    -- What is done by calls is known, for each deed.
    module _ (known : Deed → Callee → Bool) where
      path_idle : (path : PathForm) → NoneOf is_use (λ d. path_does types variables d path) → path_shuns types shuns apart variables path ≡ true
      path_idle path none = path_unused path (follows_none (λ d. path_does types variables d path) none)

      record_path_idle :
          (q : RecordPathForm) → NoneOf is_use (λ d. record_path_does types variables d q) → record_path_shuns types shuns apart variables q ≡ true
      record_path_idle q none = record_path_unused q (follows_none (λ d. record_path_does types variables d q) none)

      expression_idle :
          (e : ExpressionForm) → NoneOf is_use (λ d. expression_does types variables d e) → expression_shuns types shuns apart variables e ≡ true
      expression_idle e none = expression_unused e (follows_none (λ d. expression_does types variables d e) none)

      condition_idle :
          (condition : Option ExpressionForm) → NoneOf is_use (λ d. condition_does types variables d condition)
          → condition_shuns types shuns apart variables condition ≡ true
      condition_idle condition none = condition_unused condition (follows_none (λ d. condition_does types variables d condition) none)

      item_idle :
          (i : ItemForm) → item_shuns types (λ t. false) apart variables i ≡ true → NoneOf is_use (λ d. item_does types variables (known d) d i)
          → item_shuns types shuns apart variables i ≡ true
      item_idle null_item shape none = refl
      item_idle (item_of_path path) shape none = path_idle path none
      item_idle (item_of_value e) shape none = expression_idle e none
      item_idle (item_of_record q) shape none =
          record_path_idle q
          (first is_use (λ d. record_path_does types variables d q) (λ d. parts_do (known d) Adjust (Some q.record_type)) none)

      items_idle :
          (items : List ItemForm) → list_all (item_shuns types (λ t. false) apart variables) items ≡ true
          → NoneOf is_use (λ d. items_do types variables (known d) d items) → list_all (item_shuns types shuns apart variables) items ≡ true
      items_idle [] shape none = refl
      items_idle (i ∷ items) shape none =
          let shapes = and_parts (item_shuns types (λ t. false) apart variables i) (list_all (item_shuns types (λ t. false) apart variables) items) shape in
          let one = λ (d : Deed). item_does types variables (known d) d i in
          let more = λ (d : Deed). items_do types variables (known d) d items in
          and_from (item_shuns types shuns apart variables i) (list_all (item_shuns types shuns apart variables) items)
          (item_idle i shapes.0 (first is_use one more none)) (items_idle items shapes.1 (second is_use one more none))

      right_idle :
          (right : RightForm) → right_shuns types (λ t. false) apart variables right ≡ true → NoneOf is_use (λ d. right_does types variables (known d) d right)
          → right_shuns types shuns apart variables right ≡ true
      right_idle nothing shape none = refl
      right_idle (value_of path) shape none = path_idle path none
      right_idle (allocates access items) shape none =
          let shapes = and_parts (has_bare_objects types access) (list_all (item_shuns types (λ t. false) apart variables) items) shape in
          let made = λ (d : Deed). allocation_does d in
          let filled = λ (d : Deed). items_do types variables (known d) d items in
          let created = λ (d : Deed). creation_does (known d) (designated_type types access) in
          and_from (has_bare_objects types access) (list_all (item_shuns types shuns apart variables) items) shapes.0
          (items_idle items shapes.1 (second is_use made filled (first is_use (λ d. made d || filled d) created none)))
      right_idle (allocates_default access) shape none = shape
      right_idle (computes e) shape none = expression_idle e none

      declaration_idle :
          (d : DeclarationForm) → declaration_shuns types (λ t. false) apart variables d ≡ true
          → NoneOf is_use (λ u. declaration_does types variables (known u) u d) → declaration_shuns types shuns apart variables d ≡ true
      declaration_idle (creates_pool pool) shape none = absurd (cc shape)
      declaration_idle (collects access) shape none = absurd (cc shape)
      declaration_idle (declares x right) shape none = right_idle right shape none
      declaration_idle (declares_record x object None) shape none = shape
      declaration_idle (declares_record x object (Some items)) shape none =
          let bare = may_fill types apart object in
          let shapes = and_parts bare (list_all (item_shuns types (λ t. false) apart variables) items) shape in
          and_from bare (list_all (item_shuns types shuns apart variables) items) shapes.0 (items_idle items shapes.1 none)

      declarations_idle :
          (ds : List DeclarationForm) → declarations_shun types (λ t. false) apart variables ds ≡ true
          → NoneOf is_use (λ u. declarations_do types variables (known u) u ds) → declarations_shun types shuns apart variables ds ≡ true
      declarations_idle [] shape none = refl
      declarations_idle (d ∷ ds) shape none =
          let shapes = and_parts (declaration_shuns types (λ t. false) apart variables d) (declarations_shun types (λ t. false) apart variables ds) shape in
          let one = λ (u : Deed). declaration_does types variables (known u) u d in
          let more = λ (u : Deed). declarations_do types variables (known u) u ds in
          and_from (declaration_shuns types shuns apart variables d) (declarations_shun types shuns apart variables ds)
          (declaration_idle d shapes.0 (first is_use one more none)) (declarations_idle ds shapes.1 (second is_use one more none))

      -- A block, or a body: what it declares, its statements and its handlers.
      abbrev master_does : List DeclarationForm → StmtsForm → HandlersForm → Deed → Bool
      master_does ds fs hs d =
          declarations_do types variables (known d) d ds || (is_left hs d && stmts_do types variables (known d) d fs)
          || handlers_do types variables (known d) d hs || leaving_does types (known d) ds

      -- It shuns types.
      abbrev master_shuns : (shuns : ℕ → Bool) → List DeclarationForm → StmtsForm → HandlersForm → Bool
      master_shuns shuns ds fs hs =
          declarations_shun types shuns apart variables ds && statements_shun types shuns apart variables fs && handlers_shun types shuns apart variables hs

      -- It shuns the types, where its statements and its handlers do.
      master_from :
          (ds : List DeclarationForm) (fs : StmtsForm) (hs : HandlersForm)
          → (statements_shun types (λ t. false) apart variables fs ≡ true → NoneOf is_use (λ d. stmts_do types variables (known d) d fs)
          → statements_shun types shuns apart variables fs ≡ true)
          → (handlers_shun types (λ t. false) apart variables hs ≡ true → NoneOf is_use (λ d. handlers_do types variables (known d) d hs)
          → handlers_shun types shuns apart variables hs ≡ true)
          → master_shuns (λ t. false) ds fs hs ≡ true → NoneOf is_use (master_does ds fs hs) → master_shuns shuns ds fs hs ≡ true
      master_from ds fs hs within behind shape none =
          let shapes =
          and_parts (declarations_shun types (λ t. false) apart variables ds && statements_shun types (λ t. false) apart variables fs)
          (handlers_shun types (λ t. false) apart variables hs) shape in
          let inner = and_parts (declarations_shun types (λ t. false) apart variables ds) (statements_shun types (λ t. false) apart variables fs) shapes.0 in
          let declared = λ (d : Deed). declarations_do types variables (known d) d ds in
          let inside = λ (d : Deed). stmts_do types variables (known d) d fs in
          let left = λ (d : Deed). is_left hs d && inside d in
          let handled = λ (d : Deed). handlers_do types variables (known d) d hs in
          let ended = λ (d : Deed). leaving_does types (known d) ds in
          let three = first is_use (λ d. declared d || left d || handled d) ended none in
          let two = first is_use (λ d. declared d || left d) handled three in
          and_from (declarations_shun types shuns apart variables ds && statements_shun types shuns apart variables fs) (handlers_shun types shuns apart variables hs)
          (and_from (declarations_shun types shuns apart variables ds) (statements_shun types shuns apart variables fs)
          (declarations_idle ds inner.0 (first is_use declared left two)) (within inner.1 (none_left hs inside (second is_use declared left two))))
          (behind shapes.1 (second is_use (λ d. declared d || left d) handled three))

      mutual
        statement_idle :
            (f : StmtForm) → statement_shuns types (λ t. false) apart variables f ≡ true → NoneOf is_use (λ d. stmt_does types variables (known d) d f)
            → statement_shuns types shuns apart variables f ≡ true
        statement_idle skips shape none = refl
        statement_idle (assigns target right) shape none =
            let shapes = and_parts (path_shuns types (λ t. false) apart variables target) (right_shuns types (λ t. false) apart variables right) shape in
            let path = λ (d : Deed). path_does types variables d target in
            let given = λ (d : Deed). right_does types variables (known d) d right in
            and_from (path_shuns types shuns apart variables target) (right_shuns types shuns apart variables right)
            (path_idle target (first is_use path given none)) (right_idle right shapes.1 (second is_use path given none))
        statement_idle (assigns_record target items) shape none =
            let bare = may_assign types apart target.record_type in
            let shapes =
            and_parts (record_path_shuns types (λ t. false) apart variables target && list_all (item_shuns types (λ t. false) apart variables) items) bare shape in
            let inner = and_parts (record_path_shuns types (λ t. false) apart variables target) (list_all (item_shuns types (λ t. false) apart variables) items) shapes.0 in
            let path = λ (d : Deed). record_path_does types variables d target in
            let filled = λ (d : Deed). items_do types variables (known d) d items in
            let assigned = λ (d : Deed). assignment_does (known d) target.record_type in
            let both = first is_use (λ d. path d || filled d) assigned none in
            and_from (record_path_shuns types shuns apart variables target && list_all (item_shuns types shuns apart variables) items) bare
            (and_from (record_path_shuns types shuns apart variables target) (list_all (item_shuns types shuns apart variables) items)
            (record_path_idle target (first is_use path filled both)) (items_idle items inner.1 (second is_use path filled both))) shapes.1
        statement_idle (frees access path) shape none =
            let leads = path_shuns types shuns apart variables path in
            let may = may_follow shuns (path_kind types variables path) in
            let ends = may_end apart (path_kind types variables path) in
            let shapes =
            and_parts (path_shuns types (λ t. false) apart variables path && may_follow (λ t. false) (path_kind types variables path)) ends shape in
            let own = path_access types variables path in
            let names = λ (d : Deed). path_does types variables d path in
            let freed = λ (d : Deed). freeing_does d own in
            let ended = λ (d : Deed). parts_do (known d) Finalize (designated_by types own) in
            let both = first is_use (λ d. names d || freed d) ended none in
            and_from (leads && may) ends
            (and_from leads may (path_idle path (first is_use names freed both)) (led_unused path (frees_none own (second is_use names freed both)))) shapes.1
        statement_idle (gets target) shape none =
            path_idle target (second is_use (λ d. is_raising EndError d) (λ d. path_does types variables d target) none)
        statement_idle (writes e) shape none = expression_idle e none
        statement_idle (writes_text text) shape none = refl
        statement_idle (chooses branches) shape none = branches_idle branches shape none
        statement_idle (repeats condition fs spot) shape none =
            let shapes = and_parts (condition_shuns types (λ t. false) apart variables condition) (statements_shun types (λ t. false) apart variables fs) shape in
            let tested = λ (d : Deed). condition_does types variables d condition in
            let inside = λ (d : Deed). stmts_do types variables (known d) d fs in
            and_from (condition_shuns types shuns apart variables condition) (statements_shun types shuns apart variables fs)
            (condition_idle condition (first is_use tested inside none)) (statements_idle fs shapes.1 (second is_use tested inside none))
        statement_idle (counts x low high fs spot) shape none =
            let shapes =
            and_parts (expression_shuns types (λ t. false) apart variables low && expression_shuns types (λ t. false) apart variables high)
            (statements_shun types (λ t. false) apart variables fs) shape in
            let from = λ (d : Deed). expression_does types variables d low in
            let to = λ (d : Deed). expression_does types variables d high in
            let inside = λ (d : Deed). stmts_do types variables (known d) d fs in
            let range = first is_use (λ d. from d || to d) inside none in
            and_from (expression_shuns types shuns apart variables low && expression_shuns types shuns apart variables high) (statements_shun types shuns apart variables fs)
            (and_from (expression_shuns types shuns apart variables low) (expression_shuns types shuns apart variables high)
            (expression_idle low (first is_use from to range)) (expression_idle high (second is_use from to range)))
            (statements_idle fs shapes.1 (second is_use (λ d. from d || to d) inside none))
        statement_idle (exits condition spot) shape none = condition_idle condition none
        statement_idle (calls procedure actuals) shape none =
            let shapes = and_parts (list_all (actual_shuns types (λ t. false) apart variables) actuals) (apart.calls procedure) shape in
            let given = λ (d : Deed). actuals_do types variables d actuals in
            let called = λ (d : Deed). procedure_does (known d) procedure in
            and_from (list_all (actual_shuns types shuns apart variables) actuals) (apart.calls procedure)
            (actuals_unused actuals (follows_none given (first is_use given called none))) shapes.1
        statement_idle (returns spot) shape none = refl
        statement_idle (raises e) shape none = refl
        statement_idle (encloses ds fs hs) shape none = master_from ds fs hs (statements_idle fs) (handlers_idle hs) shape none

        statements_idle :
            (fs : StmtsForm) → statements_shun types (λ t. false) apart variables fs ≡ true → NoneOf is_use (λ d. stmts_do types variables (known d) d fs)
            → statements_shun types shuns apart variables fs ≡ true
        statements_idle no_stmts shape none = refl
        statements_idle (a_stmt f fs) shape none =
            let shapes = and_parts (statement_shuns types (λ t. false) apart variables f) (statements_shun types (λ t. false) apart variables fs) shape in
            let one = λ (d : Deed). stmt_does types variables (known d) d f in
            let more = λ (d : Deed). stmts_do types variables (known d) d fs in
            and_from (statement_shuns types shuns apart variables f) (statements_shun types shuns apart variables fs)
            (statement_idle f shapes.0 (first is_use one more none)) (statements_idle fs shapes.1 (second is_use one more none))

        branches_idle :
            (branches : BranchesForm) → branches_shun types (λ t. false) apart variables branches ≡ true
            → NoneOf is_use (λ d. branches_do types variables (known d) d branches) → branches_shun types shuns apart variables branches ≡ true
        branches_idle (otherwise fs) shape none = statements_idle fs shape none
        branches_idle (a_branch e fs branches) shape none =
            let shapes =
            and_parts (expression_shuns types (λ t. false) apart variables e && statements_shun types (λ t. false) apart variables fs)
            (branches_shun types (λ t. false) apart variables branches) shape in
            let inner = and_parts (expression_shuns types (λ t. false) apart variables e) (statements_shun types (λ t. false) apart variables fs) shapes.0 in
            let tested = λ (d : Deed). expression_does types variables d e in
            let inside = λ (d : Deed). stmts_do types variables (known d) d fs in
            let more = λ (d : Deed). branches_do types variables (known d) d branches in
            let both = first is_use (λ d. tested d || inside d) more none in
            and_from (expression_shuns types shuns apart variables e && statements_shun types shuns apart variables fs) (branches_shun types shuns apart variables branches)
            (and_from (expression_shuns types shuns apart variables e) (statements_shun types shuns apart variables fs)
            (expression_idle e (first is_use tested inside both)) (statements_idle fs inner.1 (second is_use tested inside both)))
            (branches_idle branches shapes.1 (second is_use (λ d. tested d || inside d) more none))

        handlers_idle :
            (hs : HandlersForm) → handlers_shun types (λ t. false) apart variables hs ≡ true → NoneOf is_use (λ d. handlers_do types variables (known d) d hs)
            → handlers_shun types shuns apart variables hs ≡ true
        handlers_idle no_handlers shape none = refl
        handlers_idle (a_handler choices fs hs) shape none =
            let shapes = and_parts (statements_shun types (λ t. false) apart variables fs) (handlers_shun types (λ t. false) apart variables hs) shape in
            let one = λ (d : Deed). stmts_do types variables (known d) d fs in
            let more = λ (d : Deed). handlers_do types variables (known d) d hs in
            and_from (statements_shun types shuns apart variables fs) (handlers_shun types shuns apart variables hs)
            (statements_idle fs shapes.0 (first is_use one more none)) (handlers_idle hs shapes.1 (second is_use one more none))

      -- So does a body.
      body_idle :
          (b : BodyForm) → master_shuns (λ t. false) b.declarations b.statements b.handlers ≡ true
          → NoneOf is_use (master_does b.declarations b.statements b.handlers) → master_shuns shuns b.declarations b.statements b.handlers ≡ true
      body_idle b = master_from b.declarations b.statements b.handlers (statements_idle b.statements) (handlers_idle b.handlers)

module _ (p : ProgramForm) (shuns : ℕ → Bool) (apart : Apart) where
  -- What the body of a procedure does, by what is known of its calls, the procedure does.
  body_done :
      (d : Deed) (procedure : ℕ) (b : BodyForm) → is_deed_of p d ≡ true → slice_get p.bodies procedure ≡ Some b → body_does p.types (does_by p d) d b ≡ true
      → Does p d (callee.Procedure (record { 0 = procedure }))
  body_done d procedure b of is done =
      does of (does_by p d) (λ other known. (counts_are_enough p d other).0 known) (ap (called_does p.types (does_by p d) d) is ∙ done)

  -- A procedure follows no value of the types, and frees none.
  abbrev FollowsNone : (procedure : ℕ) → Type 0
  FollowsNone procedure = (access : ℕ) → shuns access ≡ true → is_access p.types access ≡ true → ¬ DoesFollow p procedure access

  abbrev FreesNone : (procedure : ℕ) → Type 0
  FreesNone procedure = (access : ℕ) → shuns access ≡ true → is_access p.types access ≡ true → ¬ DoesFree p procedure access

  -- So its body does neither.
  body_uses_none :
      (procedure : ℕ) (b : BodyForm) → FollowsNone procedure → FreesNone procedure → slice_get p.bodies procedure ≡ Some b
      → NoneOf (is_use p.types shuns apart) (λ d. body_does p.types (does_by p d) d b)
  body_uses_none procedure b follow_none free_none is (deed.Raises e) asked = absurd (cc asked)
  body_uses_none procedure b follow_none free_none is (deed.Frees t) asked =
      let shunned = and_parts (shuns t.0) (is_access p.types t.0) asked in
      false_from_ne_true (body_does p.types (does_by p (deed.Frees t)) (deed.Frees t) b)
      (λ done. free_none t.0 shunned.0 shunned.1 (body_done (deed.Frees t) procedure b (type_there p.types t.0 shunned.1) is done))
  body_uses_none procedure b follow_none free_none is (deed.Follows t) asked =
      let shunned = and_parts (shuns t.0) (is_access p.types t.0) asked in
      false_from_ne_true (body_does p.types (does_by p (deed.Follows t)) (deed.Follows t) b)
      (λ done. follow_none t.0 shunned.0 shunned.1 (body_done (deed.Follows t) procedure b (type_there p.types t.0 shunned.1) is done))
  body_uses_none procedure b follow_none free_none is deed.Allocates asked = absurd (cc asked)
  body_uses_none procedure b follow_none free_none is deed.Calls asked = absurd (cc asked)

  -- It shuns the types, where it is of the shape of bodies that do.
  pub unused_body :
      IsWellFormed p → (procedure : ℕ) (b : BodyForm) → slice_get p.bodies procedure ≡ Some b → FollowsNone procedure → FreesNone procedure
      → body_shuns p.types (λ access. false) apart b ≡ true → body_shuns p.types shuns apart b ≡ true
  unused_body well procedure b is follow_none free_none shaped =
      let fits = subst (λ (own : ProgramForm). SeenFits own) (seen_as p procedure b is) (seen_fits p well (Some procedure)) in
      body_idle p.types shuns apart b.variables well.types_fit fits.variables_fit (does_by p) b shaped (body_uses_none procedure b follow_none free_none is)

  -- So it is with the bodies of procedures that use none of the types.
  pub unused_apart : UseNone p shuns apart → (definitions : List TypeDefinition) → IsWellFormed p → AreShaped p definitions apart → AreApart p definitions shuns apart
  unused_apart unused definitions well shaped = record {
    own = shaped.own;
    bodies = λ procedure b among is.
        unused_body well procedure b is (λ t asked of. unused.follow_none procedure t among asked) (λ t asked of. unused.free_none procedure t among asked)
        (shaped.bodies procedure b among is);
    operations = shaped.operations;
  }

-- The law.
pub unused_untouched : UnusedObjectsAreUntouched
unused_untouched program well input events s run shuns apart shaped unused =
    shunned_untouched program well input events s run shuns apart (unused_apart (program_form program) shuns apart unused program.types.items well shaped)
