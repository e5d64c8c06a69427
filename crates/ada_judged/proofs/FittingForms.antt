-- Expressions, items, what is assigned, and declarations over the variables as they are judged.

use Rattle.std.proofs.Common.{◌≡◌, ℕ, ◌<◌, Bool, true, false, List, [], ◌∷◌, length, map, drop, Option, Some, None, refl, ap, ◌∙◌, subst}
use Rattle.std.specs.Prelude.{◌==◌, ◌&&◌, ◌||◌, not, if◌then◌else◌, is_some}
use Rattle.std.specs.List.{list_all}
use Rattle.ada_program.specs.declared.program.ComponentKind.{ComponentKind}
use Rattle.ada_program.specs.declared.program.ComponentKind.TheVariants as component
use Rattle.ada_program.specs.declared.program.Exception.{Exception}
use Rattle.ada_program.specs.declared.program.Exception.TheVariants.{ConstraintError, StorageError}
use Rattle.ada_program.specs.declared.program.ScalarType.{ScalarType}
use Rattle.ada_program.specs.declared.program.ScalarType.TheVariants.{Integer, Boolean}
use Rattle.ada_program.specs.declared.program.VariableKind.{VariableKind}
use Rattle.ada_program.specs.declared.program.VariableKind.TheVariants as variable
use Rattle.ada_program.specs.Form.{ExpressionForm, integer, boolean, reads, is_null, applied_to, chained, LinksForm, no_more_links, a_link, ItemForm, null_item, item_of_path, item_of_value, item_of_record, RightForm, nothing, value_of, allocates, allocates_default, computes, DeclarationForm, creates_pool, collects, declares, declares_record}
use Rattle.ada_program.specs.ProgramForm.{TypeForm, VariableForm}
use Rattle.ada_program.specs.WellFormed.{creation, is_object, variable_kind, is_borrower, scalar_of, is_this, is_type, unary_type, binary_type, type_of, chain_type, access_of, reached_components, record_components, object_components, begins_with_record, has_record_at, has_parts_at, parts_named, object_named, component_item_fits, first_fits, item_fits, item_width, items_fit, is_filled, access_fits, scalar_fits, right_fits, item_owns, lends_to, names_before, initial_fits, collections_first, collection_fits, declarations_fit}
use Rattle.ada_program.specs.Nested.{collected, record_objects}
use Rattle.ada_effects.specs.Effects.{unary_raises, expression_raises, links_raise, item_raises, items_raise, Implicit, right_raises, right_starts, declaration_raises, declarations_raise, right_frees, declaration_frees, declarations_free, passing_frees, leaving_frees}
use Rattle.ada_flow.specs.Tracking.{Tracks, seen, judged}
use Rattle.ada_tracked.specs.Forms.{seen_expression, seen_links, seen_condition, seen_item, seen_items, seen_right, seen_declaration, seen_declarations}
use Rattle.ada_tracked.specs.Simple.{ExpressionIsSimple, LinksAreSimple, ConditionIsSimple, ItemIsSimple, ItemsAreSimple, RightIsSimple, DeclarationIsSimple, DeclarationsAreSimple}
use Rattle.ada_judged.specs.Fitting.{TracksComponents, ExpressionIsOfRecord, LinksAreOfRecord, ConditionIsOfRecord, ItemIsOfRecord, ItemsAreOfRecord, RightIsOfRecord, DeclarationIsOfRecord, DeclarationsAreOfRecord, DeclarationNamesBefore, DeclarationsNameBefore, ExpressionFits, ConditionFits, ItemsFit, RightFits, DeclarationsFit}
use Rattle.ada_judged.proofs.FittingPaths.{and_left, and_right, and_both, front_kind, front_borrows, inside_fits, path_fits}
use Rattle.ada_judged.proofs.ObeyingPaths.{sees, behind_alike}

module _ (types : List TypeForm) (tracks : Tracks) (own : List VariableForm) (p : TracksComponents types tracks own) where
  -- The variables as they are judged.
  abbrev all : List VariableForm
  all = judged types tracks own

  -- A variable of the body is one of them.
  pub below : (x : ℕ) → x < tracks.first → x < length own
  below x lt = subst (λ (k : ℕ). x < k) p.behind lt

  -- Expressions.
  mutual
    expression_kind : (e : ExpressionForm) → ExpressionIsSimple tracks.first e → ExpressionIsOfRecord e → type_of types all (seen_expression tracks e) ≡ type_of types own e
    expression_kind (integer i) s r = refl
    expression_kind (boolean b) s r = refl
    expression_kind (reads path) s r = ap scalar_of (path_fits types tracks own p path s r).kind
    expression_kind (is_null equal path) s r = ap (λ (k : Option ℕ). if is_some k then Some Boolean else None) (path_fits types tracks own p path s r).access
    expression_kind (applied_to operator e) s r = ap (unary_type operator) (expression_kind e s r)
    expression_kind (chained e links) s r = links_kind links (type_of types all (seen_expression tracks e)) (type_of types own e) (expression_kind e s.0 r.0) s.1 r.1

    links_kind : (links : LinksForm) (left other : Option ScalarType) → left ≡ other → LinksAreSimple tracks.first links → LinksAreOfRecord links → chain_type types all left (seen_links tracks links) ≡ chain_type types own other links
    links_kind no_more_links left other same s r = same
    links_kind (a_link operator e links) left other same s r =
        let operand = expression_kind e s.0 r.0 in
        links_kind links (binary_type operator left (type_of types all (seen_expression tracks e))) (binary_type operator other (type_of types own e))
        (ap (λ (k : Option ScalarType). binary_type operator k (type_of types all (seen_expression tracks e))) same ∙ ap (binary_type operator other) operand) s.1 r.1

  mutual
    expression_raise : (e : ExpressionForm) → ExpressionIsSimple tracks.first e → ExpressionIsOfRecord e → expression_raises (seen_expression tracks e) ≡ expression_raises e
    expression_raise (integer i) s r = refl
    expression_raise (boolean b) s r = refl
    expression_raise (reads path) s r = (path_fits types tracks own p path s r).may_raise
    expression_raise (is_null equal path) s r = (path_fits types tracks own p path s r).may_raise
    expression_raise (applied_to operator e) s r = ap (λ (b : Bool). unary_raises operator || b) (expression_raise e s r)
    expression_raise (chained e links) s r =
        let first = expression_raise e s.0 r.0 in
        let more = links_raised links s.1 r.1 in
        cc (first, more)

    links_raised : (links : LinksForm) → LinksAreSimple tracks.first links → LinksAreOfRecord links → links_raise (seen_links tracks links) ≡ links_raise links
    links_raised no_more_links s r = refl
    links_raised (a_link operator e links) s r =
        let first = expression_raise e s.0 r.0 in
        let more = links_raised links s.1 r.1 in
        cc (first, more)

  pub expression_fits : (e : ExpressionForm) → ExpressionIsSimple tracks.first e → ExpressionIsOfRecord e → ExpressionFits types own all e (seen_expression tracks e)
  expression_fits e s r = record { kind = expression_kind e s r; may_raise = expression_raise e s r }

  pub conditions_fit : (condition : Option ExpressionForm) → ConditionIsSimple tracks.first condition → ConditionIsOfRecord condition → ConditionFits types own all condition (seen_condition tracks condition)
  conditions_fit None s r = record { fits = refl; may_raise = refl }
  conditions_fit (Some e) s r = record { fits = ap (is_type Boolean) (expression_kind e s r); may_raise = expression_raise e s r }

  -- Items.
  component_item : (kind : ComponentKind) (i : ItemForm) → ItemIsSimple tracks.first i → ItemIsOfRecord i → component_item_fits types all kind (seen_item tracks i) ≡ component_item_fits types own kind i
  component_item (component.Integer initial) null_item s r = refl
  component_item (component.Integer initial) (item_of_path path) s r = refl
  component_item (component.Integer initial) (item_of_value e) s r = ap (is_type Integer) (expression_kind e s r)
  component_item (component.Integer initial) (item_of_record q) s r = refl
  component_item (component.Boolean initial) null_item s r = refl
  component_item (component.Boolean initial) (item_of_path path) s r = refl
  component_item (component.Boolean initial) (item_of_value e) s r = ap (is_type Boolean) (expression_kind e s r)
  component_item (component.Boolean initial) (item_of_record q) s r = refl
  component_item (component.Access access) null_item s r = refl
  component_item (component.Access access) (item_of_path path) s r = ap (is_this access.0) (path_fits types tracks own p path s r).access
  component_item (component.Access access) (item_of_value e) s r = refl
  component_item (component.Access access) (item_of_record q) s r = refl

  first_item : (components : List ComponentKind) (i : ItemForm) → ItemIsSimple tracks.first i → ItemIsOfRecord i → first_fits types all components (seen_item tracks i) ≡ first_fits types own components i
  first_item [] i s r = refl
  first_item (kind ∷ components) i s r = component_item kind i s r

  one_item : (components : List ComponentKind) (i : ItemForm) → ItemIsSimple tracks.first i → ItemIsOfRecord i → item_fits types all components (seen_item tracks i) ≡ item_fits types own components i
  one_item components null_item s r = first_item components null_item s r
  one_item components (item_of_path path) s r = first_item components (item_of_path path) s r
  one_item components (item_of_value e) s r = first_item components (item_of_value e) s r
  one_item components (item_of_record q) s r =
      let copied = record_components types q.record_type in
      ap (λ (k : Option VariableKind). has_record_at (object_components types (access_of k)) q.first copied
      && has_parts_at types q.record_type (object_named types (access_of k)) q.first q.part && begins_with_record components copied)
      (inside_fits types tracks own p q.object s r).kind

  same_width : (i : ItemForm) → item_width types (seen_item tracks i) ≡ item_width types i
  same_width null_item = refl
  same_width (item_of_path path) = refl
  same_width (item_of_value e) = refl
  same_width (item_of_record q) = refl

  items_kind : (items : List ItemForm) (components : List ComponentKind) → ItemsAreSimple tracks.first items → ItemsAreOfRecord items → items_fit types all components (seen_items tracks items) ≡ items_fit types own components items
  items_kind [] components s r = refl
  items_kind (i ∷ items) components s r =
      ap (λ (b : Bool). b && items_fit types all (drop (item_width types (seen_item tracks i)) components) (seen_items tracks items)) (one_item components i s.0 r.0)
      ∙ ap (λ (n : ℕ). item_fits types own components i && items_fit types all (drop n components) (seen_items tracks items)) (same_width i)
      ∙ ap (λ (b : Bool). item_fits types own components i && b) (items_kind items (drop (item_width types i) components) s.1 r.1)

  one_owns : (i : ItemForm) → ItemIsSimple tracks.first i → ItemIsOfRecord i → item_owns all (seen_item tracks i) ≡ item_owns own i
  one_owns null_item s r = refl
  one_owns (item_of_path path) s r = ap not (path_fits types tracks own p path s r).borrows
  one_owns (item_of_value e) s r = refl
  one_owns (item_of_record q) s r = refl

  items_own : (items : List ItemForm) → ItemsAreSimple tracks.first items → ItemsAreOfRecord items → list_all (item_owns all) (seen_items tracks items) ≡ list_all (item_owns own) items
  items_own [] s r = refl
  items_own (i ∷ items) s r =
      let first = one_owns i s.0 r.0 in
      let more = items_own items s.1 r.1 in
      cc (first, more)

  one_raises : (i : ItemForm) → ItemIsSimple tracks.first i → ItemIsOfRecord i → item_raises (seen_item tracks i) ≡ item_raises i
  one_raises null_item s r = refl
  one_raises (item_of_path path) s r = (path_fits types tracks own p path s r).may_raise
  one_raises (item_of_value e) s r = expression_raise e s r
  one_raises (item_of_record q) s r = behind_alike tracks q.object (seen tracks q.object) (sees tracks q.object)

  all_raise : (items : List ItemForm) → ItemsAreSimple tracks.first items → ItemsAreOfRecord items → items_raise (seen_items tracks items) ≡ items_raise items
  all_raise [] s r = refl
  all_raise (i ∷ items) s r =
      let first = one_raises i s.0 r.0 in
      let more = all_raise items s.1 r.1 in
      cc (first, more)

  pub item_list_fits : (items : List ItemForm) → ItemsAreSimple tracks.first items → ItemsAreOfRecord items → ItemsFit types own all items (seen_items tracks items)
  item_list_fits items s r = record {
    fits = λ components. items_kind items components s r;
    owns = items_own items s r;
    may_raise = all_raise items s r;
  }

  -- What is assigned.
  pub filled : (found : Option (List ComponentKind)) (items : List ItemForm) → ItemsAreSimple tracks.first items → ItemsAreOfRecord items → is_filled types all found (seen_items tracks items) ≡ is_filled types own found items
  filled None items s r = refl
  filled (Some components) items s r = items_kind items components s r

  scalar_right : (type : ScalarType) (right : RightForm) → RightIsSimple tracks.first right → RightIsOfRecord right → scalar_fits types all type (seen_right tracks right) ≡ scalar_fits types own type right
  scalar_right type nothing s r = refl
  scalar_right type (value_of path) s r = refl
  scalar_right type (allocates t items) s r = refl
  scalar_right type (allocates_default t) s r = refl
  scalar_right type (computes e) s r = ap (is_type type) (expression_kind e s r)

  access_right : (access : ℕ) (right : RightForm) → RightIsSimple tracks.first right → RightIsOfRecord right → access_fits types all access (seen_right tracks right) ≡ access_fits types own access right
  access_right access nothing s r = refl
  access_right access (value_of path) s r = ap (is_this access) (path_fits types tracks own p path s r).access
  access_right access (allocates t items) s r =
      ap (λ (b : Bool). (t == access) && b && (parts_named types (object_named types (Some access)) == 0)) (filled (reached_components types access) items s r)
  access_right access (allocates_default t) s r = refl
  access_right access (computes e) s r = refl

  takes : (right : RightForm) (kind : Option VariableKind) → RightIsSimple tracks.first right → RightIsOfRecord right → right_fits types all kind (seen_right tracks right) ≡ right_fits types own kind right
  takes right None s r = refl
  takes right (Some variable.Integer) s r = scalar_right Integer right s r
  takes right (Some variable.Boolean) s r = scalar_right Boolean right s r
  takes right (Some (variable.Access access)) s r = access_right access.0 right s r
  takes right (Some (variable.Record object)) s r = refl

  lends : (right : RightForm) (borrows : Bool) → RightIsSimple tracks.first right → RightIsOfRecord right → lends_to all borrows (seen_right tracks right) ≡ lends_to own borrows right
  lends nothing borrows s r = refl
  lends (value_of path) borrows s r = ap (λ (b : Bool). borrows || not b) (path_fits types tracks own p path s r).borrows
  lends (allocates access items) borrows s r = ap (λ (b : Bool). not borrows && b) (items_own items s r)
  lends (allocates_default access) borrows s r = refl
  lends (computes e) borrows s r = refl

  right_raise : (right : RightForm) (among : Exception → Bool) → RightIsSimple tracks.first right → RightIsOfRecord right → right_raises among (seen_right tracks right) ≡ right_raises among right
  right_raise nothing among s r = refl
  right_raise (value_of path) among s r = ap (λ (b : Bool). among ConstraintError && b) (path_fits types tracks own p path s r).may_raise
  right_raise (allocates access items) among s r = ap (λ (b : Bool). among StorageError || (among ConstraintError && b)) (all_raise items s r)
  right_raise (allocates_default access) among s r = refl
  right_raise (computes e) among s r = ap (λ (b : Bool). among ConstraintError && b) (expression_raise e s r)

  right_start : (right : RightForm) (implicit : Implicit) (among : Exception → Bool) → right_starts implicit among (seen_right tracks right) ≡ right_starts implicit among right
  right_start nothing implicit among = refl
  right_start (value_of path) implicit among = refl
  right_start (allocates access items) implicit among = refl
  right_start (allocates_default access) implicit among = refl
  right_start (computes e) implicit among = refl

  right_free : (right : RightForm) (implicit : Implicit) (access : ℕ) → right_frees implicit access (seen_right tracks right) ≡ right_frees implicit access right
  right_free nothing implicit access = refl
  right_free (value_of path) implicit access = refl
  right_free (allocates t items) implicit access = refl
  right_free (allocates_default t) implicit access = refl
  right_free (computes e) implicit access = refl

  pub right_is_fit : (right : RightForm) → RightIsSimple tracks.first right → RightIsOfRecord right → RightFits types own all right (seen_right tracks right)
  right_is_fit right s r = record {
    fits = λ kind. takes right kind s r;
    lends = λ borrows. lends right borrows s r;
    may_raise = λ among. right_raise right among s r;
    may_start = λ implicit among. right_start right implicit among;
    may_free = λ implicit access. right_free right implicit access;
  }

  -- Declarations.
  same_object : (ds : List DeclarationForm) → list_all is_object (seen_declarations tracks ds) ≡ list_all is_object ds
  same_object [] = refl
  same_object (creates_pool q ∷ ds) = ap (λ (b : Bool). false && b) (same_object ds)
  same_object (collects access ∷ ds) = ap (λ (b : Bool). false && b) (same_object ds)
  same_object (declares x right ∷ ds) = ap (λ (b : Bool). true && b) (same_object ds)
  same_object (declares_record x t initial ∷ ds) = ap (λ (b : Bool). true && b) (same_object ds)

  same_first : (ds : List DeclarationForm) → collections_first (seen_declarations tracks ds) ≡ collections_first ds
  same_first [] = refl
  same_first (creates_pool q ∷ ds) = same_first ds
  same_first (collects access ∷ ds) = same_first ds
  same_first (declares x right ∷ ds) = same_object ds
  same_first (declares_record x t initial ∷ ds) = same_object ds

  same_collections : (ds : List DeclarationForm) → list_all (collection_fits types) (seen_declarations tracks ds) ≡ list_all (collection_fits types) ds
  same_collections [] = refl
  same_collections (creates_pool q ∷ ds) = ap (λ (b : Bool). true && b) (same_collections ds)
  same_collections (collects access ∷ ds) = ap (λ (b : Bool). collection_fits types (collects access) && b) (same_collections ds)
  same_collections (declares x right ∷ ds) = ap (λ (b : Bool). true && b) (same_collections ds)
  same_collections (declares_record x t initial ∷ ds) = ap (λ (b : Bool). true && b) (same_collections ds)

  initial_is_fit : (d : DeclarationForm) → DeclarationIsSimple tracks.first d → DeclarationIsOfRecord d → initial_fits types own d ≡ true → DeclarationNamesBefore tracks d → initial_fits types all (seen_declaration tracks d) ≡ true
  initial_is_fit (creates_pool q) s r h before = refl
  initial_is_fit (collects access) s r h before = refl
  initial_is_fit (declares x right) s r h before =
      let early = names_before x right in
      let fitting = right_fits types own (variable_kind own x) right in
      let lending = lends_to own (is_borrower own x) right in
      let lt = below x s.0.1 in
      let front = and_left (early && fitting) lending h in
      and_both (names_before x (seen_right tracks right) && right_fits types all (variable_kind all x) (seen_right tracks right)) (lends_to all (is_borrower all x) (seen_right tracks right))
      (and_both (names_before x (seen_right tracks right)) (right_fits types all (variable_kind all x) (seen_right tracks right)) before
      (takes right (variable_kind all x) s.1 r ∙ ap (λ (k : Option VariableKind). right_fits types own k right) (front_kind types tracks own x lt) ∙ and_right early fitting front))
      (lends right (is_borrower all x) s.1 r ∙ ap (λ (b : Bool). lends_to own b right) (front_borrows types tracks own x lt) ∙ and_right (early && fitting) lending h)
  initial_is_fit (declares_record x t initial) s r h before = absurd s

  initials_are_fit : (ds : List DeclarationForm) → DeclarationsAreSimple tracks.first ds → DeclarationsAreOfRecord ds → list_all (initial_fits types own) ds ≡ true → DeclarationsNameBefore tracks ds → list_all (initial_fits types all) (seen_declarations tracks ds) ≡ true
  initials_are_fit [] s r h before = refl
  initials_are_fit (d ∷ ds) s r h before =
      and_both (initial_fits types all (seen_declaration tracks d)) (list_all (initial_fits types all) (seen_declarations tracks ds))
      (initial_is_fit d s.0 r.0 (and_left (initial_fits types own d) (list_all (initial_fits types own) ds) h) before.0)
      (initials_are_fit ds s.1 r.1 (and_right (initial_fits types own d) (list_all (initial_fits types own) ds) h) before.1)

  declared_fit : (ds : List DeclarationForm) → DeclarationsAreSimple tracks.first ds → DeclarationsAreOfRecord ds → declarations_fit types own ds ≡ true → DeclarationsNameBefore tracks ds → declarations_fit types all (seen_declarations tracks ds) ≡ true
  declared_fit ds s r h before =
      let first = collections_first ds in
      let collections = list_all (collection_fits types) ds in
      let initials = list_all (initial_fits types own) ds in
      let front = and_left (first && collections) initials h in
      and_both (collections_first (seen_declarations tracks ds) && list_all (collection_fits types) (seen_declarations tracks ds)) (list_all (initial_fits types all) (seen_declarations tracks ds))
      (and_both (collections_first (seen_declarations tracks ds)) (list_all (collection_fits types) (seen_declarations tracks ds))
      (same_first ds ∙ and_left first collections front) (same_collections ds ∙ and_right first collections front))
      (initials_are_fit ds s r (and_right (first && collections) initials h) before)

  same_creation : (d : DeclarationForm) → creation (seen_declaration tracks d) ≡ creation d
  same_creation (creates_pool q) = refl
  same_creation (collects access) = refl
  same_creation (declares x right) = refl
  same_creation (declares_record x t initial) = refl

  same_creations : (ds : List DeclarationForm) → map creation (seen_declarations tracks ds) ≡ map creation ds
  same_creations [] = refl
  same_creations (d ∷ ds) =
      let first = same_creation d in
      let more = same_creations ds in
      cc (first, more)

  same_collected : (ds : List DeclarationForm) → collected (seen_declarations tracks ds) ≡ collected ds
  same_collected [] = refl
  same_collected (creates_pool q ∷ ds) = same_collected ds
  same_collected (collects access ∷ ds) = ap (λ (us : List ℕ). access ∷ us) (same_collected ds)
  same_collected (declares x right ∷ ds) = same_collected ds
  same_collected (declares_record x t initial ∷ ds) = same_collected ds

  same_records : (ds : List DeclarationForm) → record_objects (seen_declarations tracks ds) ≡ record_objects ds
  same_records [] = refl
  same_records (creates_pool q ∷ ds) = same_records ds
  same_records (collects access ∷ ds) = same_records ds
  same_records (declares x right ∷ ds) = same_records ds
  same_records (declares_record x t initial ∷ ds) = ap (λ (us : List ℕ). t ∷ us) (same_records ds)

  one_declared_raises : (implicit : Implicit) (among : Exception → Bool) (d : DeclarationForm) → DeclarationIsSimple tracks.first d → DeclarationIsOfRecord d → declaration_raises implicit among (seen_declaration tracks d) ≡ declaration_raises implicit among d
  one_declared_raises implicit among (creates_pool q) s r = refl
  one_declared_raises implicit among (collects access) s r = refl
  one_declared_raises implicit among (declares x right) s r =
      let value = right_raise right among s.1 r in
      let start = right_start right implicit among in
      cc (value, start)
  one_declared_raises implicit among (declares_record x t initial) s r = absurd s

  declared_raise : (implicit : Implicit) (among : Exception → Bool) (ds : List DeclarationForm) → DeclarationsAreSimple tracks.first ds → DeclarationsAreOfRecord ds → declarations_raise implicit among (seen_declarations tracks ds) ≡ declarations_raise implicit among ds
  declared_raise implicit among [] s r = refl
  declared_raise implicit among (d ∷ ds) s r =
      let first = one_declared_raises implicit among d s.0 r.0 in
      let more = declared_raise implicit among ds s.1 r.1 in
      cc (first, more)

  one_declared_frees : (implicit : Implicit) (access : ℕ) (d : DeclarationForm) → DeclarationIsSimple tracks.first d → declaration_frees implicit access (seen_declaration tracks d) ≡ declaration_frees implicit access d
  one_declared_frees implicit access (creates_pool q) s = refl
  one_declared_frees implicit access (collects t) s = refl
  one_declared_frees implicit access (declares x right) s = right_free right implicit access
  one_declared_frees implicit access (declares_record x t initial) s = absurd s

  declared_free : (implicit : Implicit) (access : ℕ) (ds : List DeclarationForm) → DeclarationsAreSimple tracks.first ds → declarations_free implicit access (seen_declarations tracks ds) ≡ declarations_free implicit access ds
  declared_free implicit access [] s = refl
  declared_free implicit access (d ∷ ds) s =
      let first = one_declared_frees implicit access d s.0 in
      let more = declared_free implicit access ds s.1 in
      cc (first, more)

  one_passing : (implicit : Implicit) (access : ℕ) (d : DeclarationForm) → passing_frees implicit access (seen_declaration tracks d) ≡ passing_frees implicit access d
  one_passing implicit access (creates_pool q) = refl
  one_passing implicit access (collects t) = refl
  one_passing implicit access (declares x right) = refl
  one_passing implicit access (declares_record x t initial) = refl

  leaving_free : (implicit : Implicit) (access : ℕ) (ds : List DeclarationForm) → leaving_frees implicit access (seen_declarations tracks ds) ≡ leaving_frees implicit access ds
  leaving_free implicit access [] = refl
  leaving_free implicit access (d ∷ ds) =
      let first = one_passing implicit access d in
      let more = leaving_free implicit access ds in
      cc (first, more)

  pub declarations_are_fit : (ds : List DeclarationForm) → DeclarationsAreSimple tracks.first ds → DeclarationsAreOfRecord ds → DeclarationsFit types own all (DeclarationsNameBefore tracks ds) ds (seen_declarations tracks ds)
  declarations_are_fit ds s r = record {
    fits = λ h before. declared_fit ds s r h before;
    creates = same_creations ds;
    collects = same_collected ds;
    has_records = same_records ds;
    may_raise = λ implicit among. declared_raise implicit among ds s r;
    may_free = λ implicit access. declared_free implicit access ds s;
    may_free_at_end = λ implicit access. leaving_free implicit access ds;
  }
