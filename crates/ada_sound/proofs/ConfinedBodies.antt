-- A simple body (7.6) reaches no more than the record that its formal parameter is: each path from that begins with a component of the record.

use Rattle.std.proofs.Common.{◌≡◌, ℕ, zero, suc, ◌<◌, Bool, true, false, List, [], ◌∷◌, drop, refl, sym, ap, ◌∙◌, subst}
use Rattle.std.specs.Prelude.{nat_lt, Option, Some, None, is_some}
use Rattle.std.specs.List.{list_all, slice_get}
use Rattle.std.proofs.lemmas.Bool.{lt-ltb}
use Rattle.ada_program.specs.declared.program.ComponentKind.{ComponentKind}
use Rattle.ada_program.specs.declared.program.ComponentKind.TheVariants as component
use Rattle.ada_program.specs.declared.program.ScalarType.{ScalarType}
use Rattle.ada_program.specs.declared.program.ScalarType.TheVariants.{Integer, Boolean}
use Rattle.ada_program.specs.declared.program.TypeNo.{TypeNo}
use Rattle.ada_program.specs.declared.program.VariableKind.{VariableKind}
use Rattle.ada_program.specs.declared.program.VariableKind.TheVariants as variable
use Rattle.ada_program.specs.Form.{PathForm, RecordPathForm, ExpressionForm, integer, boolean, reads, is_null, applied_to, chained, LinksForm, no_more_links, a_link, ItemForm, null_item, item_of_path, item_of_value, item_of_record, RightForm, nothing, value_of, allocates, allocates_default, computes, DeclarationForm, creates_pool, collects, declares, declares_record, StmtForm, skips, assigns, assigns_record, frees, gets, writes, writes_text, chooses, repeats, counts, exits, calls, returns, raises, encloses, StmtsForm, no_stmts, a_stmt, BranchesForm, otherwise, a_branch, HandlersForm, no_handlers, a_handler}
use Rattle.ada_program.specs.ProgramForm.{TypeForm, VariableForm, BodyForm, ProgramForm, seen_by}
use Rattle.ada_program.specs.WellFormed.{IsWellFormed, is_freed_by, path_access, is_record_path, variable_kind, root_kind, selectors_kind, path_kind, scalar_of, value_access, kind_among, is_this, binary_type, type_of, chain_type, has_type, condition_fits, first_fits, item_fits, item_width, items_fit, is_filled, access_fits, scalar_fits, right_fits, reached_components, initial_fits, declarations_fit, Profile, callable_in, statement_fits, stmts_fit, branches_fit, handlers_fit, record_components, record_fits}
use Rattle.ada_flow.specs.Tracking.{Tracks}
use Rattle.ada_judged.specs.Fitting.{TracksComponents}
use Rattle.ada_tracked.specs.Simple.{IsFrom}
use Rattle.ada_beside.specs.Confined.{IsConfinedFrom, IsCopiedFrom, PathIsConfined, ExpressionIsConfined, LinksAreConfined, ConditionIsConfined, ItemIsConfined, ItemsAreConfined, RightIsConfined, DeclarationIsConfined, DeclarationsAreConfined, StatementIsConfined, StatementsAreConfined, BranchesAreConfined, HandlersAreConfined}
use Rattle.ada_quiet.specs.InUse.{count_found}
use Rattle.ada_quiet.specs.Simple.{is_simple_declaration, are_simple_declarations, is_simple_stmt, are_simple, are_simple_branches, are_simple_handlers, is_simple_body}
use Rattle.ada_typed.proofs.Bodies.{SeenFits, seen_fits, seen_as}
use Rattle.ada_typed.proofs.Operators.{typed, unary_operand, binary_operand, chain_left}
use Rattle.ada_sound.proofs.OnlyRows.{kind_below}
use Rattle.ada_sound.proofs.OperationStarts.{apart}
use Rattle.ada_sound.proofs.OrderlyBodies.{access_value, freed_there, is_value, path_from, record_leads, record_within, right_value, scalar_value, tested_there, this_there, value_there, variable_orderly}
use Rattle.ada_sound.proofs.Roots.{none_behind}

-- A component that is there is one of so many.
below_count : (found : Option (List ComponentKind)) (c : ℕ) (kind : VariableKind) → kind_among found c ≡ Some kind → c < count_found found
below_count None c kind at = absurd (cc at)
below_count (Some components) c kind at = kind_below components c kind at

-- A body may reach the components of the record that its formal parameter is known by.
abbrev pub reaches_record : List TypeForm → (object : TypeNo) → (component : ℕ) → Bool
reaches_record types object c = nat_lt c (count_found (reached_components types object.0))

-- The forms of a body that tracks components of its formal parameter.
module _ (types : List TypeForm) (tracks : Tracks) (own : List VariableForm) (tracking : TracksComponents types tracks own) where
  abbrev reaches : ℕ → Bool
  reaches c = reaches_record types tracking.object c

  -- A path from the formal parameter begins with a component that is there.
  begins_within : (of_record : Bool) (c : ℕ) (cs : List ℕ) → is_some (selectors_kind types (root_kind of_record (variable_kind own 0)) (c ∷ cs)) ≡ true → reaches c ≡ true
  begins_within of_record c cs is = go of_record (rw (tracking.formal) at is)
    where
      by : (found : Option VariableKind) → kind_among (reached_components types tracking.object.0) c ≡ found → is_some (selectors_kind types found cs) ≡ true → reaches c ≡ true
      by None at is' = let none : is_some (selectors_kind types None cs) ≡ false = ap is_some (none_behind types cs) in absurd (cc (none, is'))
      by (Some kind) at is' = lt-ltb c (count_found (reached_components types tracking.object.0)) (below_count (reached_components types tracking.object.0) c kind at)

      go : (whole : Bool) → is_some (selectors_kind types (root_kind whole (Some (variable.Record tracking.object))) (c ∷ cs)) ≡ true → reaches c ≡ true
      go true is' = by (kind_among (reached_components types tracking.object.0) c) refl is'
      go false is' = let none : is_some (selectors_kind types None cs) ≡ false = ap is_some (none_behind types cs) in absurd (cc (none, is'))

  -- Paths that lead somewhere (4.1).
  confined_from : (of_record : Bool) (root : ℕ) (cs : List ℕ) → IsFrom tracks.first root cs → is_some (selectors_kind types (root_kind of_record (variable_kind own root)) cs) ≡ true → IsConfinedFrom tracks.first reaches root cs
  confined_from of_record root [] from leads = from
  confined_from of_record zero (c ∷ cs) from leads = (from, begins_within of_record c cs leads)
  confined_from of_record (suc x) (c ∷ cs) from leads = from

  -- A path that leads to a value is confined.
  path_confined : (path : PathForm) → is_value (path_kind types own path) ≡ true → PathIsConfined tracks.first reaches path
  path_confined path is =
      confined_from path.of_record path.root path.selectors (path_from types tracks own tracking path.of_record path.root path.selectors is)
      (value_there (path_kind types own path) is)

  -- So is one that leads to a value of an access type.
  access_confined : (access : ℕ) (path : PathForm) → is_this access (value_access (path_kind types own path)) ≡ true → PathIsConfined tracks.first reaches path
  access_confined access path is = path_confined path (access_value (path_kind types own path) (this_there access (value_access (path_kind types own path)) is))

  -- So is one that leads to what is freed (13.11.2).
  freed_confined : (access : ℕ) (path : PathForm) → is_freed_by types access (path_access types own path) ≡ true → PathIsConfined tracks.first reaches path
  freed_confined access path is = path_confined path (access_value (path_kind types own path) (freed_there types access (path_access types own path) is))

  -- Expressions (4.4).
  mutual
    expression_confined : (e : ExpressionForm) (t : ScalarType) → type_of types own e ≡ Some t → ExpressionIsConfined tracks.first reaches e
    expression_confined (integer i) t is = tt
    expression_confined (boolean b) t is = tt
    expression_confined (reads path) t is = path_confined path (scalar_value (path_kind types own path) t is)
    expression_confined (is_null equal path) t is = path_confined path (access_value (path_kind types own path) (tested_there (value_access (path_kind types own path)) t is))
    expression_confined (applied_to operator e) t is = let operand = unary_operand operator (type_of types own e) t is in expression_confined e operand.0 operand.1
    expression_confined (chained e links) t is =
        let left = chain_left types own (type_of types own e) links t is in
        (expression_confined e left.0 left.1, links_confined links left.0 t (ap (λ (o : Option ScalarType). chain_type types own o links) (sym left.1) ∙ is))

    links_confined : (links : LinksForm) (left t : ScalarType) → chain_type types own (Some left) links ≡ Some t → LinksAreConfined tracks.first reaches links
    links_confined no_more_links left t is = tt
    links_confined (a_link operator e links) left t is =
        let given = chain_left types own (binary_type operator (Some left) (type_of types own e)) links t is in
        let right = binary_operand operator left (type_of types own e) given.0 given.1 in
        (expression_confined e right.0 right.1, links_confined links given.0 t (ap (λ (o : Option ScalarType). chain_type types own o links) (sym given.1) ∙ is))

  typed_confined : (t : ScalarType) (e : ExpressionForm) → has_type types own t e ≡ true → ExpressionIsConfined tracks.first reaches e
  typed_confined t e fit = expression_confined e t (typed t (type_of types own e) fit)

  condition_confined : (condition : Option ExpressionForm) → condition_fits types own condition ≡ true → ConditionIsConfined tracks.first reaches condition
  condition_confined None fit = tt
  condition_confined (Some e) fit = typed_confined Boolean e fit

  -- Items, which copy records out of any object (4.3.1).
  copied_from : (of_record : Bool) (root : ℕ) (cs : List ℕ) → root < tracks.first → is_some (selectors_kind types (root_kind of_record (variable_kind own root)) cs) ≡ true → IsCopiedFrom tracks.first reaches root cs
  copied_from of_record root [] inside leads = inside
  copied_from of_record root (c ∷ cs) inside leads = confined_from of_record root (c ∷ cs) inside leads

  record_confined : (p : RecordPathForm) → is_record_path types own p ≡ true → IsCopiedFrom tracks.first reaches p.object.root p.object.selectors
  record_confined p fit = copied_from p.object.of_record p.object.root p.object.selectors (record_within types tracks own tracking p fit) (record_leads types own p fit)

  path_item : (components : List ComponentKind) (path : PathForm) → first_fits types own components (item_of_path path) ≡ true → PathIsConfined tracks.first reaches path
  path_item [] path fit = absurd (cc fit)
  path_item (component.Integer initial ∷ components) path fit = absurd (cc fit)
  path_item (component.Boolean initial ∷ components) path fit = absurd (cc fit)
  path_item (component.Access access ∷ components) path fit = access_confined access.0 path fit

  value_item : (components : List ComponentKind) (e : ExpressionForm) → first_fits types own components (item_of_value e) ≡ true → ExpressionIsConfined tracks.first reaches e
  value_item [] e fit = absurd (cc fit)
  value_item (component.Integer initial ∷ components) e fit = typed_confined Integer e fit
  value_item (component.Boolean initial ∷ components) e fit = typed_confined Boolean e fit
  value_item (component.Access access ∷ components) e fit = absurd (cc fit)

  item_confined : (components : List ComponentKind) (i : ItemForm) → item_fits types own components i ≡ true → ItemIsConfined tracks.first reaches i
  item_confined components null_item fit = tt
  item_confined components (item_of_path path) fit = path_item components path fit
  item_confined components (item_of_value e) fit = value_item components e fit
  item_confined components (item_of_record p) fit = record_confined p (apart (is_record_path types own p) _ fit).0

  items_confined : (components : List ComponentKind) (items : List ItemForm) → items_fit types own components items ≡ true → ItemsAreConfined tracks.first reaches items
  items_confined components [] fit = tt
  items_confined components (i ∷ items) fit =
      let fits = apart _ _ fit in
      (item_confined components i fits.0, items_confined (drop (item_width types i) components) items fits.1)

  filled_confined : (found : Option (List ComponentKind)) (items : List ItemForm) → is_filled types own found items ≡ true → ItemsAreConfined tracks.first reaches items
  filled_confined None items fit = absurd (cc fit)
  filled_confined (Some components) items fit = items_confined components items fit

  -- What is assigned (5.2).
  scalar_confined : (t : ScalarType) (right : RightForm) → scalar_fits types own t right ≡ true → RightIsConfined tracks.first reaches right
  scalar_confined t nothing fit = tt
  scalar_confined t (value_of path) fit = absurd (cc fit)
  scalar_confined t (allocates access items) fit = absurd (cc fit)
  scalar_confined t (allocates_default access) fit = tt
  scalar_confined t (computes e) fit = typed_confined t e fit

  value_confined : (access : ℕ) (right : RightForm) → access_fits types own access right ≡ true → RightIsConfined tracks.first reaches right
  value_confined access nothing fit = tt
  value_confined access (value_of path) fit = access_confined access path fit
  value_confined access (allocates t items) fit =
      let all = apart _ _ fit in
      let two = apart _ _ all.0 in
      filled_confined (reached_components types access) items two.1
  value_confined access (allocates_default t) fit = tt
  value_confined access (computes e) fit = absurd (cc fit)

  right_confined : (found : Option VariableKind) (right : RightForm) → right_fits types own found right ≡ true → RightIsConfined tracks.first reaches right
  right_confined None right fit = absurd (cc fit)
  right_confined (Some variable.Integer) right fit = scalar_confined Integer right fit
  right_confined (Some variable.Boolean) right fit = scalar_confined Boolean right fit
  right_confined (Some (variable.Access access)) right fit = value_confined access.0 right fit
  right_confined (Some (variable.Record object)) right fit = absurd (cc fit)

  -- Declarations of variables (3.3.1).
  declaration_confined : (d : DeclarationForm) → initial_fits types own d ≡ true → is_simple_declaration types d ≡ true → DeclarationIsConfined tracks.first reaches d
  declaration_confined (creates_pool p) fit simple = tt
  declaration_confined (collects access) fit simple = tt
  declaration_confined (declares x right) fit simple =
      let all = apart _ _ fit in
      let two = apart _ _ all.0 in
      (variable_orderly types tracks own tracking x (right_value types own (variable_kind own x) right two.1), right_confined (variable_kind own x) right two.1)
  declaration_confined (declares_record x t initial) fit simple = absurd (cc simple)

  initials_confined : (ds : List DeclarationForm) → list_all (initial_fits types own) ds ≡ true → are_simple_declarations types ds ≡ true → DeclarationsAreConfined tracks.first reaches ds
  initials_confined [] fit simple = tt
  initials_confined (d ∷ ds) fit simple =
      let fits = apart _ _ fit in
      let simples = apart _ _ simple in
      (declaration_confined d fits.0 simples.0, initials_confined ds fits.1 simples.1)

  declarations_confined : (ds : List DeclarationForm) → declarations_fit types own ds ≡ true → are_simple_declarations types ds ≡ true → DeclarationsAreConfined tracks.first reaches ds
  declarations_confined ds fit simple = initials_confined ds (apart _ _ fit).1 simple

  -- Statements (5.1).
  module _ (texts exceptions : List (List ℕ)) (callable : List Profile) where
    mutual
      statement_confined : (inside : Bool) (f : StmtForm) → statement_fits types own texts exceptions callable inside f ≡ true → is_simple_stmt types f ≡ true → StatementIsConfined tracks.first reaches f
      statement_confined inside skips fit simple = tt
      statement_confined inside (assigns target right) fit simple =
          let fits = (apart _ _ fit).0 in
          (path_confined target (right_value types own (path_kind types own target) right fits), right_confined (path_kind types own target) right fits)
      statement_confined inside (assigns_record target items) fit simple =
          let two = apart (is_record_path types own target) (record_fits types own target.record_type items) fit in
          let filled = (apart _ _ (apart _ _ two.1).0).0 in
          (record_confined target two.0, filled_confined (record_components types target.record_type) items filled)
      statement_confined inside (frees access path) fit simple = freed_confined access path (apart _ _ fit).0
      statement_confined inside (gets target) fit simple =
          let number = typed Integer (scalar_of (path_kind types own target)) fit in
          path_confined target (scalar_value (path_kind types own target) Integer number)
      statement_confined inside (writes e) fit simple = typed_confined Integer e fit
      statement_confined inside (writes_text text) fit simple = tt
      statement_confined inside (chooses branches) fit simple = branches_confined inside branches fit simple
      statement_confined inside (repeats condition fs spot) fit simple =
          let all = apart _ _ fit in
          let two = apart _ _ all.0 in
          (condition_confined condition two.0, statements_confined true fs all.1 simple)
      statement_confined inside (counts x low high fs spot) fit simple =
          let five = apart _ _ fit in
          let four = apart _ _ five.0 in
          let three = apart _ _ four.0 in
          let two = apart _ _ three.0 in
          let number = typed Integer (scalar_of (variable_kind own x)) two.0 in
          (variable_orderly types tracks own tracking x (scalar_value (variable_kind own x) Integer number), typed_confined Integer low two.1, typed_confined Integer high three.1, statements_confined true fs five.1 simple)
      statement_confined inside (exits condition spot) fit simple = condition_confined condition (apart _ _ fit).1
      statement_confined inside (calls procedure actuals) fit simple = absurd (cc simple)
      statement_confined inside (returns spot) fit simple = tt
      statement_confined inside (raises e) fit simple = tt
      statement_confined inside (encloses ds fs hs) fit simple =
          let fits = apart _ _ fit in
          let fronts = apart _ _ fits.0 in
          let simples = apart _ _ simple in
          let firsts = apart _ _ simples.0 in
          (declarations_confined ds fronts.0 firsts.0, statements_confined inside fs fronts.1 firsts.1, handlers_confined inside hs fits.1 simples.1)

      statements_confined : (inside : Bool) (fs : StmtsForm) → stmts_fit types own texts exceptions callable inside fs ≡ true → are_simple types fs ≡ true → StatementsAreConfined tracks.first reaches fs
      statements_confined inside no_stmts fit simple = tt
      statements_confined inside (a_stmt f fs) fit simple =
          let fits = apart _ _ fit in
          let simples = apart _ _ simple in
          (statement_confined inside f fits.0 simples.0, statements_confined inside fs fits.1 simples.1)

      branches_confined : (inside : Bool) (branches : BranchesForm) → branches_fit types own texts exceptions callable inside branches ≡ true → are_simple_branches types branches ≡ true → BranchesAreConfined tracks.first reaches branches
      branches_confined inside (otherwise fs) fit simple = statements_confined inside fs fit simple
      branches_confined inside (a_branch e fs branches) fit simple =
          let fits = apart _ _ fit in
          let fronts = apart _ _ fits.0 in
          let simples = apart _ _ simple in
          (typed_confined Boolean e fronts.0, statements_confined inside fs fronts.1 simples.0, branches_confined inside branches fits.1 simples.1)

      handlers_confined : (inside : Bool) (hs : HandlersForm) → handlers_fit types own texts exceptions callable inside hs ≡ true → are_simple_handlers types hs ≡ true → HandlersAreConfined tracks.first reaches hs
      handlers_confined inside no_handlers fit simple = tt
      handlers_confined inside (a_handler choices fs hs) fit simple =
          let fits = apart _ _ fit in
          let fronts = apart _ _ fits.0 in
          let simples = apart _ _ simple in
          (statements_confined inside fs fronts.1 simples.0, handlers_confined inside hs fits.1 simples.1)

-- The forms of a body reach no more than the record that its formal parameter is known by.
pub record FormsAreConfined (types : List TypeForm) (tracks : Tracks) (object : TypeNo) (b : BodyForm) : Type 0 where
  pub declarations : DeclarationsAreConfined tracks.first (reaches_record types object) b.declarations
  pub statements : StatementsAreConfined tracks.first (reaches_record types object) b.statements
  pub handlers : HandlersAreConfined tracks.first (reaches_record types object) b.handlers

-- In a well-formed program those of a simple body are so, if it tracks components of its formal parameter.
pub confined_body :
    (p : ProgramForm) → IsWellFormed p → (number : ℕ) (b : BodyForm) → slice_get p.bodies number ≡ Some b → (tracks : Tracks)
    → (tracking : TracksComponents p.types tracks b.variables) → is_simple_body p.types b ≡ true → FormsAreConfined p.types tracks tracking.object b
confined_body p well number b there tracks tracking is =
    let own = seen_by number b p in
    let fit : SeenFits own = subst SeenFits (seen_as p number b there) (seen_fits p well (Some number)) in
    let four = apart _ _ is in
    let three = apart _ _ four.0 in
    let two = apart _ _ three.0 in
    record {
      declarations = initials_confined p.types tracks b.variables tracking b.declarations fit.initials_fit two.1;
      statements = statements_confined p.types tracks b.variables tracking p.texts p.exceptions (callable_in own) false b.statements fit.statements_fit three.1;
      handlers = handlers_confined p.types tracks b.variables tracking p.texts p.exceptions (callable_in own) false b.handlers fit.handlers_fit four.1;
    }
