-- A simple body (7.6) is one of which the laws on tracked components speak.

use Rattle.std.proofs.Common.{◌≡◌, ℕ, zero, suc, ◌<◌, Bool, true, false, List, [], ◌∷◌, length, drop, refl, sym, ap, ◌∙◌, arith, subst}
use Rattle.std.specs.Prelude.{if◌then◌else◌, Option, Some, None, is_some}
use Rattle.std.specs.List.{list_all, slice_get}
use Rattle.ada_program.specs.declared.program.ComponentKind.{ComponentKind}
use Rattle.ada_program.specs.declared.program.ComponentKind.TheVariants as component
use Rattle.ada_program.specs.declared.program.ScalarType.{ScalarType}
use Rattle.ada_program.specs.declared.program.ScalarType.TheVariants.{Integer, Boolean}
use Rattle.ada_program.specs.declared.program.TypeNo.{TypeNo}
use Rattle.ada_program.specs.declared.program.VariableKind.{VariableKind}
use Rattle.ada_program.specs.declared.program.VariableKind.TheVariants as variable
use Rattle.ada_program.specs.Form.{PathForm, RecordPathForm, ExpressionForm, integer, boolean, reads, is_null, applied_to, chained, LinksForm, no_more_links, a_link, ItemForm, null_item, item_of_path, item_of_value, item_of_record, RightForm, nothing, value_of, allocates, allocates_default, computes, DeclarationForm, creates_pool, collects, declares, declares_record, StmtForm, skips, assigns, assigns_record, frees, gets, writes, writes_text, chooses, repeats, counts, exits, calls, returns, raises, encloses, StmtsForm, no_stmts, a_stmt, BranchesForm, otherwise, a_branch, HandlersForm, no_handlers, a_handler}
use Rattle.ada_program.specs.ProgramForm.{TypeForm, VariableForm, BodyForm, ProgramForm, seen_by}
use Rattle.ada_program.specs.WellFormed.{IsWellFormed, is_record_path, variable_kind, root_kind, selectors_kind, path_kind, scalar_of, value_access, is_this, binary_type, type_of, chain_type, has_type, condition_fits, first_fits, item_fits, item_width, items_fit, is_filled, access_fits, scalar_fits, right_fits, reached_components, initial_fits, declarations_fit, Profile, callable_in, statement_fits, stmts_fit, branches_fit, handlers_fit, is_freed_by, path_access, record_components, record_fits}
use Rattle.ada_flow.specs.Tracking.{Tracks}
use Rattle.ada_tracked.specs.Simple.{IsVariable, IsFrom}
use Rattle.ada_judged.specs.Fitting.{TracksComponents}
use Rattle.ada_judged.specs.Obeying.{PathIsOrderly, WayIsOrderly, ExpressionIsOrderly, LinksAreOrderly, ConditionIsOrderly, ItemIsOrderly, ItemsAreOrderly, RightIsOrderly, DeclarationIsOrderly, DeclarationsAreOrderly, StatementIsOrderly, StatementsAreOrderly, BranchesAreOrderly, HandlersAreOrderly, BodyIsOrderly}
use Rattle.ada_judged.proofs.FittingRecords.{statements_record}
use Rattle.ada_quiet.specs.Simple.{holds_one_value, is_simple_declaration, are_simple_declarations, is_simple_stmt, are_simple, are_simple_branches, are_simple_handlers, is_simple_body}
use Rattle.ada_typed.proofs.Bodies.{SeenFits, seen_fits, seen_as}
use Rattle.ada_typed.proofs.Operators.{typed, unary_operand, binary_operand, chain_left}
use Rattle.ada_sound.proofs.Copied.{record_there}
use Rattle.ada_sound.proofs.OperationStarts.{apart}
use Rattle.ada_sound.proofs.Roots.{none_behind}
use Rattle.ada_sound.proofs.SimpleBodies.{simple_parts}

-- What is held is there, and no record (3.3.1).
abbrev pub is_value : Option VariableKind → Bool
is_value None = false
is_value (Some variable.Integer) = true
is_value (Some variable.Boolean) = true
is_value (Some (variable.Access access)) = true
is_value (Some (variable.Record object)) = false

-- So it is with what has a type, or an access type, is compared with null, or is assigned to.
pub scalar_value : (found : Option VariableKind) (t : ScalarType) → scalar_of found ≡ Some t → is_value found ≡ true
scalar_value None t is = absurd (cc is)
scalar_value (Some variable.Integer) t is = refl
scalar_value (Some variable.Boolean) t is = refl
scalar_value (Some (variable.Access access)) t is = refl
scalar_value (Some (variable.Record object)) t is = absurd (cc is)

pub access_value : (found : Option VariableKind) → is_some (value_access found) ≡ true → is_value found ≡ true
access_value None is = absurd (cc is)
access_value (Some variable.Integer) is = refl
access_value (Some variable.Boolean) is = refl
access_value (Some (variable.Access access)) is = refl
access_value (Some (variable.Record object)) is = absurd (cc is)

pub this_there : (access : ℕ) (t : Option ℕ) → is_this access t ≡ true → is_some t ≡ true
this_there access None is = absurd (cc is)
this_there access (Some t) is = refl

pub freed_there : (types : List TypeForm) (access : ℕ) (t : Option ℕ) → is_freed_by types access t ≡ true → is_some t ≡ true
freed_there types access None is = absurd (cc is)
freed_there types access (Some t) is = refl

pub tested_there : (access : Option ℕ) (t : ScalarType) → (if is_some access then Some Boolean else None) ≡ Some t → is_some access ≡ true
tested_there None t is = absurd (cc is)
tested_there (Some access) t is = refl

pub right_value : (types : List TypeForm) (variables : List VariableForm) (found : Option VariableKind) (right : RightForm) → right_fits types variables found right ≡ true → is_value found ≡ true
right_value types variables None right fit = absurd (cc fit)
right_value types variables (Some variable.Integer) right fit = refl
right_value types variables (Some variable.Boolean) right fit = refl
right_value types variables (Some (variable.Access access)) right fit = refl
right_value types variables (Some (variable.Record object)) right fit = absurd (cc fit)

-- It is there, and where it is that of a path without selectors, so it is with its variable.
pub value_there : (found : Option VariableKind) → is_value found ≡ true → is_some found ≡ true
value_there None is = absurd (cc is)
value_there (Some kind) is = refl

root_value : (of_record : Bool) (found : Option VariableKind) → is_value (root_kind of_record found) ≡ true → is_value found ≡ true
root_value of_record None is = absurd (cc is)
root_value of_record (Some variable.Integer) is = refl
root_value of_record (Some variable.Boolean) is = refl
root_value of_record (Some (variable.Access access)) is = refl
root_value true (Some (variable.Record object)) is = absurd (cc is)
root_value false (Some (variable.Record object)) is = absurd (cc is)

-- A variable that is there is among the variables of its body.
variable_within : (variables : List VariableForm) (x : ℕ) → is_some (variable_kind variables x) ≡ true → x < length variables
variable_within [] x is = absurd (cc is)
variable_within (v ∷ vs) zero is = omega arith
variable_within (v ∷ vs) (suc x) is = let less = variable_within vs x is in omega (arith, less)

-- A path that leads somewhere begins with a variable that is there.
root_there : (types : List TypeForm) (of_record : Bool) (found : Option VariableKind) (cs : List ℕ) → is_some (selectors_kind types (root_kind of_record found) cs) ≡ true → is_some found ≡ true
root_there types of_record None cs is = let none : is_some (selectors_kind types None cs) ≡ false = ap is_some (none_behind types cs) in absurd (cc (none, is))
root_there types of_record (Some kind) cs is = refl

-- And with a record object, if the variable is one.
root_whole : (types : List TypeForm) (of_record : Bool) (object : TypeNo) (cs : List ℕ) → is_some (selectors_kind types (root_kind of_record (Some (variable.Record object))) cs) ≡ true → of_record ≡ true
root_whole types true object cs is = refl
root_whole types false object cs is = let none : is_some (selectors_kind types None cs) ≡ false = ap is_some (none_behind types cs) in absurd (cc (none, is))

-- A path to a record leads somewhere.
pub record_leads : (types : List TypeForm) (variables : List VariableForm) (p : RecordPathForm) → is_record_path types variables p ≡ true → is_some (path_kind types variables p.object) ≡ true
record_leads types variables p is = ap is_some (record_there types variables p is).leads

-- The forms of a body that tracks components of its formal parameter.
module _ (types : List TypeForm) (tracks : Tracks) (own : List VariableForm) (tracking : TracksComponents types tracks own) where
  -- A variable that holds a value is one of the body, and not its formal parameter.
  behind_formal : (x : ℕ) → is_value (variable_kind own x) ≡ true → 0 < x
  behind_formal zero is = let formal : is_value (variable_kind own 0) ≡ false = ap is_value tracking.formal in absurd (cc (formal, is))
  behind_formal (suc x) is = omega arith

  root_within : (x : ℕ) → is_some (variable_kind own x) ≡ true → x < tracks.first
  root_within x is = let less = variable_within own x is in omega (arith, less, tracking.behind)

  pub variable_orderly : (x : ℕ) → is_value (variable_kind own x) ≡ true → IsVariable tracks.first x
  variable_orderly x is = (behind_formal x is, root_within x (value_there (variable_kind own x) is))

  -- Paths to values (4.1).
  pub path_from : (of_record : Bool) (root : ℕ) (cs : List ℕ) → is_value (selectors_kind types (root_kind of_record (variable_kind own root)) cs) ≡ true → IsFrom tracks.first root cs
  path_from of_record root [] is = variable_orderly root (root_value of_record (variable_kind own root) is)
  path_from of_record root (c ∷ cs) is =
      root_within root (root_there types of_record (variable_kind own root) (c ∷ cs) (value_there (selectors_kind types (root_kind of_record (variable_kind own root)) (c ∷ cs)) is))

  path_whole : (of_record : Bool) (root : ℕ) (cs : List ℕ) → is_some (selectors_kind types (root_kind of_record (variable_kind own root)) cs) ≡ true → root ≡ 0 → of_record ≡ true
  path_whole of_record root cs leads at_root =
      let formal : variable_kind own root ≡ Some (variable.Record tracking.object) = ap (variable_kind own) at_root ∙ tracking.formal in
      root_whole types of_record tracking.object cs (rw formal at leads)

  path_orderly : (path : PathForm) → is_value (path_kind types own path) ≡ true → PathIsOrderly tracks path
  path_orderly path is =
      (path_from path.of_record path.root path.selectors is, path_whole path.of_record path.root path.selectors (value_there (path_kind types own path) is))

  access_orderly : (access : ℕ) (path : PathForm) → is_this access (value_access (path_kind types own path)) ≡ true → PathIsOrderly tracks path
  access_orderly access path is = path_orderly path (access_value (path_kind types own path) (this_there access (value_access (path_kind types own path)) is))

  freed_orderly : (access : ℕ) (path : PathForm) → is_freed_by types access (path_access types own path) ≡ true → PathIsOrderly tracks path
  freed_orderly access path is = path_orderly path (access_value (path_kind types own path) (freed_there types access (path_access types own path) is))

  -- Expressions (4.4).
  mutual
    expression_orderly : (e : ExpressionForm) (t : ScalarType) → type_of types own e ≡ Some t → ExpressionIsOrderly tracks e
    expression_orderly (integer i) t is = tt
    expression_orderly (boolean b) t is = tt
    expression_orderly (reads path) t is = path_orderly path (scalar_value (path_kind types own path) t is)
    expression_orderly (is_null equal path) t is = path_orderly path (access_value (path_kind types own path) (tested_there (value_access (path_kind types own path)) t is))
    expression_orderly (applied_to operator e) t is = let operand = unary_operand operator (type_of types own e) t is in expression_orderly e operand.0 operand.1
    expression_orderly (chained e links) t is =
        let left = chain_left types own (type_of types own e) links t is in
        (expression_orderly e left.0 left.1, links_orderly links left.0 t (ap (λ (o : Option ScalarType). chain_type types own o links) (sym left.1) ∙ is))

    links_orderly : (links : LinksForm) (left t : ScalarType) → chain_type types own (Some left) links ≡ Some t → LinksAreOrderly tracks links
    links_orderly no_more_links left t is = tt
    links_orderly (a_link operator e links) left t is =
        let given = chain_left types own (binary_type operator (Some left) (type_of types own e)) links t is in
        let right = binary_operand operator left (type_of types own e) given.0 given.1 in
        (expression_orderly e right.0 right.1, links_orderly links given.0 t (ap (λ (o : Option ScalarType). chain_type types own o links) (sym given.1) ∙ is))

  typed_orderly : (t : ScalarType) (e : ExpressionForm) → has_type types own t e ≡ true → ExpressionIsOrderly tracks e
  typed_orderly t e fit = expression_orderly e t (typed t (type_of types own e) fit)

  condition_orderly : (condition : Option ExpressionForm) → condition_fits types own condition ≡ true → ConditionIsOrderly tracks condition
  condition_orderly None fit = tt
  condition_orderly (Some e) fit = typed_orderly Boolean e fit

  -- Items, which copy records out of any object (4.3.1).
  pub record_within : (p : RecordPathForm) → is_record_path types own p ≡ true → p.object.root < tracks.first
  record_within p fit = root_within p.object.root (root_there types p.object.of_record (variable_kind own p.object.root) p.object.selectors (record_leads types own p fit))

  record_orderly : (p : RecordPathForm) → is_record_path types own p ≡ true → WayIsOrderly tracks p.object
  record_orderly p fit = (record_within p fit, path_whole p.object.of_record p.object.root p.object.selectors (record_leads types own p fit))

  path_item : (components : List ComponentKind) (path : PathForm) → first_fits types own components (item_of_path path) ≡ true → PathIsOrderly tracks path
  path_item [] path fit = absurd (cc fit)
  path_item (component.Integer initial ∷ components) path fit = absurd (cc fit)
  path_item (component.Boolean initial ∷ components) path fit = absurd (cc fit)
  path_item (component.Access access ∷ components) path fit = access_orderly access.0 path fit

  value_item : (components : List ComponentKind) (e : ExpressionForm) → first_fits types own components (item_of_value e) ≡ true → ExpressionIsOrderly tracks e
  value_item [] e fit = absurd (cc fit)
  value_item (component.Integer initial ∷ components) e fit = typed_orderly Integer e fit
  value_item (component.Boolean initial ∷ components) e fit = typed_orderly Boolean e fit
  value_item (component.Access access ∷ components) e fit = absurd (cc fit)

  item_orderly : (components : List ComponentKind) (i : ItemForm) → item_fits types own components i ≡ true → ItemIsOrderly tracks i
  item_orderly components null_item fit = tt
  item_orderly components (item_of_path path) fit = path_item components path fit
  item_orderly components (item_of_value e) fit = value_item components e fit
  item_orderly components (item_of_record p) fit = record_orderly p (apart (is_record_path types own p) _ fit).0

  items_orderly : (components : List ComponentKind) (items : List ItemForm) → items_fit types own components items ≡ true → ItemsAreOrderly tracks items
  items_orderly components [] fit = tt
  items_orderly components (i ∷ items) fit =
      let fits = apart _ _ fit in
      (item_orderly components i fits.0, items_orderly (drop (item_width types i) components) items fits.1)

  filled_orderly : (found : Option (List ComponentKind)) (items : List ItemForm) → is_filled types own found items ≡ true → ItemsAreOrderly tracks items
  filled_orderly None items fit = absurd (cc fit)
  filled_orderly (Some components) items fit = items_orderly components items fit

  -- What is assigned (5.2).
  scalar_orderly : (t : ScalarType) (right : RightForm) → scalar_fits types own t right ≡ true → RightIsOrderly tracks right
  scalar_orderly t nothing fit = tt
  scalar_orderly t (value_of path) fit = absurd (cc fit)
  scalar_orderly t (allocates access items) fit = absurd (cc fit)
  scalar_orderly t (allocates_default access) fit = tt
  scalar_orderly t (computes e) fit = typed_orderly t e fit

  value_orderly : (access : ℕ) (right : RightForm) → access_fits types own access right ≡ true → RightIsOrderly tracks right
  value_orderly access nothing fit = tt
  value_orderly access (value_of path) fit = access_orderly access path fit
  value_orderly access (allocates t items) fit =
      let all = apart _ _ fit in
      let two = apart _ _ all.0 in
      filled_orderly (reached_components types access) items two.1
  value_orderly access (allocates_default t) fit = tt
  value_orderly access (computes e) fit = absurd (cc fit)

  right_orderly : (found : Option VariableKind) (right : RightForm) → right_fits types own found right ≡ true → RightIsOrderly tracks right
  right_orderly None right fit = absurd (cc fit)
  right_orderly (Some variable.Integer) right fit = scalar_orderly Integer right fit
  right_orderly (Some variable.Boolean) right fit = scalar_orderly Boolean right fit
  right_orderly (Some (variable.Access access)) right fit = value_orderly access.0 right fit
  right_orderly (Some (variable.Record object)) right fit = absurd (cc fit)

  -- Declarations of variables (3.3.1).
  declaration_orderly : (d : DeclarationForm) → initial_fits types own d ≡ true → is_simple_declaration types d ≡ true → DeclarationIsOrderly tracks d
  declaration_orderly (creates_pool p) fit simple = tt
  declaration_orderly (collects access) fit simple = tt
  declaration_orderly (declares x right) fit simple =
      let all = apart _ _ fit in
      let two = apart _ _ all.0 in
      (variable_orderly x (right_value types own (variable_kind own x) right two.1), right_orderly (variable_kind own x) right two.1)
  declaration_orderly (declares_record x t initial) fit simple = absurd (cc simple)

  initials_orderly : (ds : List DeclarationForm) → list_all (initial_fits types own) ds ≡ true → are_simple_declarations types ds ≡ true → DeclarationsAreOrderly tracks ds
  initials_orderly [] fit simple = tt
  initials_orderly (d ∷ ds) fit simple =
      let fits = apart _ _ fit in
      let simples = apart _ _ simple in
      (declaration_orderly d fits.0 simples.0, initials_orderly ds fits.1 simples.1)

  declarations_orderly : (ds : List DeclarationForm) → declarations_fit types own ds ≡ true → are_simple_declarations types ds ≡ true → DeclarationsAreOrderly tracks ds
  declarations_orderly ds fit simple = initials_orderly ds (apart _ _ fit).1 simple

  -- Statements (5.1).
  module _ (texts exceptions : List (List ℕ)) (callable : List Profile) where
    mutual
      statement_orderly : (inside : Bool) (f : StmtForm) → statement_fits types own texts exceptions callable inside f ≡ true → is_simple_stmt types f ≡ true → StatementIsOrderly tracks f
      statement_orderly inside skips fit simple = tt
      statement_orderly inside (assigns target right) fit simple =
          let fits = (apart _ _ fit).0 in
          (path_orderly target (right_value types own (path_kind types own target) right fits), right_orderly (path_kind types own target) right fits)
      statement_orderly inside (assigns_record target items) fit simple =
          let two = apart (is_record_path types own target) (record_fits types own target.record_type items) fit in
          let filled = (apart _ _ (apart _ _ two.1).0).0 in
          (record_orderly target two.0, filled_orderly (record_components types target.record_type) items filled)
      statement_orderly inside (frees access path) fit simple = freed_orderly access path (apart _ _ fit).0
      statement_orderly inside (gets target) fit simple =
          let number = typed Integer (scalar_of (path_kind types own target)) fit in
          let alone : stmts_fit types own texts exceptions callable inside (a_stmt (gets target) no_stmts) ≡ true = rw fit refl in
          let of_record = statements_record types tracks own tracking texts exceptions callable inside (a_stmt (gets target) no_stmts) alone in
          (path_orderly target (scalar_value (path_kind types own target) Integer number), of_record.0.1)
      statement_orderly inside (writes e) fit simple = typed_orderly Integer e fit
      statement_orderly inside (writes_text text) fit simple = tt
      statement_orderly inside (chooses branches) fit simple = branches_orderly inside branches fit simple
      statement_orderly inside (repeats condition fs spot) fit simple =
          let all = apart _ _ fit in
          let two = apart _ _ all.0 in
          (condition_orderly condition two.0, statements_orderly true fs all.1 simple)
      statement_orderly inside (counts x low high fs spot) fit simple =
          let five = apart _ _ fit in
          let four = apart _ _ five.0 in
          let three = apart _ _ four.0 in
          let two = apart _ _ three.0 in
          let number = typed Integer (scalar_of (variable_kind own x)) two.0 in
          (variable_orderly x (scalar_value (variable_kind own x) Integer number), typed_orderly Integer low two.1, typed_orderly Integer high three.1, statements_orderly true fs five.1 simple)
      statement_orderly inside (exits condition spot) fit simple = condition_orderly condition (apart _ _ fit).1
      statement_orderly inside (calls procedure actuals) fit simple = absurd (cc simple)
      statement_orderly inside (returns spot) fit simple = tt
      statement_orderly inside (raises e) fit simple = tt
      statement_orderly inside (encloses ds fs hs) fit simple =
          let fits = apart _ _ fit in
          let fronts = apart _ _ fits.0 in
          let simples = apart _ _ simple in
          let firsts = apart _ _ simples.0 in
          (declarations_orderly ds fronts.0 firsts.0, statements_orderly inside fs fronts.1 firsts.1, handlers_orderly inside hs fits.1 simples.1)

      statements_orderly : (inside : Bool) (fs : StmtsForm) → stmts_fit types own texts exceptions callable inside fs ≡ true → are_simple types fs ≡ true → StatementsAreOrderly tracks fs
      statements_orderly inside no_stmts fit simple = tt
      statements_orderly inside (a_stmt f fs) fit simple =
          let fits = apart _ _ fit in
          let simples = apart _ _ simple in
          (statement_orderly inside f fits.0 simples.0, statements_orderly inside fs fits.1 simples.1)

      branches_orderly : (inside : Bool) (branches : BranchesForm) → branches_fit types own texts exceptions callable inside branches ≡ true → are_simple_branches types branches ≡ true → BranchesAreOrderly tracks branches
      branches_orderly inside (otherwise fs) fit simple = statements_orderly inside fs fit simple
      branches_orderly inside (a_branch e fs branches) fit simple =
          let fits = apart _ _ fit in
          let fronts = apart _ _ fits.0 in
          let simples = apart _ _ simple in
          (typed_orderly Boolean e fronts.0, statements_orderly inside fs fronts.1 simples.0, branches_orderly inside branches fits.1 simples.1)

      handlers_orderly : (inside : Bool) (hs : HandlersForm) → handlers_fit types own texts exceptions callable inside hs ≡ true → are_simple_handlers types hs ≡ true → HandlersAreOrderly tracks hs
      handlers_orderly inside no_handlers fit simple = tt
      handlers_orderly inside (a_handler choices fs hs) fit simple =
          let fits = apart _ _ fit in
          let fronts = apart _ _ fits.0 in
          let simples = apart _ _ simple in
          (statements_orderly inside fs fronts.1 simples.0, handlers_orderly inside hs fits.1 simples.1)

-- In a well-formed program a simple body is orderly, if it tracks components of its formal parameter.
pub orderly_body :
    (p : ProgramForm) → IsWellFormed p → (number : ℕ) (b : BodyForm) → slice_get p.bodies number ≡ Some b → (tracks : Tracks) → TracksComponents p.types tracks b.variables
    → is_simple_body p.types b ≡ true → BodyIsOrderly tracks b
orderly_body p well number b there tracks tracking is =
    let own = seen_by number b p in
    let fit : SeenFits own = subst SeenFits (seen_as p number b there) (seen_fits p well (Some number)) in
    let parts = simple_parts p.types b is in
    record {
      declarations = initials_orderly p.types tracks b.variables tracking b.declarations fit.initials_fit parts.declarations;
      statements = statements_orderly p.types tracks b.variables tracking p.texts p.exceptions (callable_in own) false b.statements fit.statements_fit parts.statements;
      handlers = handlers_orderly p.types tracks b.variables tracking p.texts p.exceptions (callable_in own) false b.handlers fit.handlers_fit parts.handlers;
    }

-- Each variable of it but the formal parameter holds an Integer, a Boolean, or an access value.
pub lone_body : (types : List TypeForm) (b : BodyForm) → is_simple_body types b ≡ true → list_all (λ y. holds_one_value y.kind) (drop 1 b.variables) ≡ true
lone_body types b is = (simple_parts types b is).variables
