-- What fits stays so as types, variables, exceptions and texts are added behind those that are there, and as types get pools and operations.

use Rattle.std.proofs.Common.{◌≡◌, ℕ, ◌<◌, ◌≤◌, Bool, true, false, cond, List, [], ◌∷◌, length, drop, refl, sym, ap, ◌∙◌, subst, arith, eqb}
use Rattle.std.specs.Prelude.{Option, Some, None, ◌&&◌, ◌||◌, not, is_some}
use Rattle.std.specs.List.{list_all, slice_get}
use Rattle.std.proofs.lemmas.Bool.{lt-ltb, ltb-true}
use Rattle.ada_program.specs.declared.program.Choice.{Choice}
use Rattle.ada_program.specs.declared.program.Choice.TheVariants as choice
use Rattle.ada_program.specs.declared.program.ComponentKind.{ComponentKind}
use Rattle.ada_program.specs.declared.program.ComponentKind.TheVariants as component
use Rattle.ada_program.specs.declared.program.Exception.{Exception}
use Rattle.ada_program.specs.declared.program.Exception.TheVariants as exception
use Rattle.ada_program.specs.declared.program.Finalization.{Finalization}
use Rattle.ada_program.specs.declared.program.VariableKind.{VariableKind}
use Rattle.ada_program.specs.declared.program.VariableKind.TheVariants as variable
use Rattle.ada_program.specs.declared.program.ScalarType.{ScalarType}
use Rattle.ada_program.specs.declared.program.ScalarType.TheVariants.{Integer, Boolean}
use Rattle.ada_program.specs.Form.{PathForm, ActualForm, in_value, in_null, in_access, in_record, in_out_path, in_out_access, in_out_component, in_out_record, RecordPathForm, ExpressionForm, integer, boolean, reads, is_null, applied_to, chained, LinksForm, no_more_links, a_link, ItemForm, null_item, item_of_path, item_of_value, item_of_record, RightForm, nothing, value_of, allocates, allocates_default, computes, StmtForm, skips, assigns, assigns_record, frees, gets, writes, writes_text, chooses, repeats, counts, exits, calls, returns, raises, encloses, StmtsForm, no_stmts, a_stmt, BranchesForm, otherwise, a_branch, HandlersForm, no_handlers, a_handler, DeclarationForm, creates_pool, collects, declares, declares_record}
use Rattle.ada_program.specs.ProgramForm.{TypeForm, record_of, access_to, object_of, VariableForm}
use Rattle.ada_program.specs.WellFormed as fits
use Rattle.ada_resolve.proofs.WellFormed.Containing.{is_part_stays}
use Rattle.ada_resolve.proofs.WellFormed.Forms.{bare, bare_final, forms, longer_types, same_at, same_final}
use Rattle.ada_resolve.proofs.WellFormed.Laid.{AreRecordsLaid}
use Rattle.ada_resolve.proofs.WellFormed.Numbered.{final_stays, said_bare}
use Rattle.ada_resolve.proofs.WellFormed.Tables.{both_parts, first_part, second_part, all_weaker}
use Rattle.ada_resolve.proofs.WellFormed.Walked.{found_stays}
use Rattle.ada_resolve.proofs.WellFormed.Typing.{nowhere, unary_typed, left_typed, operand_typed, of_type, is_of_type}
pub use Rattle.ada_resolve.proofs.WellFormed.Forms.{AreIn}

-- what looks at no pool and at no operation
whole_bare : (t : ℕ) (items : List ItemForm) (o : Option Finalization) → fits.copies_whole t (bare_final o) items ≡ fits.copies_whole t o items
whole_bare t items None = refl
whole_bare t items (Some f) = refl

designated_bare : (x : TypeForm) → fits.designated_in (Some (bare x)) ≡ fits.designated_in (Some x)
designated_bare (record_of name ps cs final) = refl
designated_bare (access_to name d pool) = refl
designated_bare (object_of r) = refl

named_bare : (x : TypeForm) → fits.named_in (Some (bare x)) ≡ fits.named_in (Some x)
named_bare (record_of name ps cs final) = refl
named_bare (access_to name d pool) = refl
named_bare (object_of r) = refl

components_bare : (x : TypeForm) → fits.components_in (Some (bare x)) ≡ fits.components_in (Some x)
components_bare (record_of name ps cs final) = refl
components_bare (access_to name d pool) = refl
components_bare (object_of r) = refl

object_bare : (x : TypeForm) → fits.object_in (Some (bare x)) ≡ fits.object_in (Some x)
object_bare (record_of name ps cs final) = refl
object_bare (access_to name d pool) = refl
object_bare (object_of r) = refl

-- one of two tests holds still
or_weaker : (a b c : Bool) → (b ≡ true → c ≡ true) → (a || b) ≡ true → (a || c) ≡ true
or_weaker true b c w e = refl
or_weaker false b c w e = w e

-- as types, but for their pools and operations, and variables are added
module _ (types more : List TypeForm) (variables others : List VariableForm) (ts : AreIn (forms types) (forms more)) (vs : AreIn variables others) where
  -- what an access type designates, and what a record type has
  pub designated_stays : (t d : ℕ) → fits.designated_type types t ≡ Some d → fits.designated_type more t ≡ Some d
  designated_stays t d e = found_stays (slice_get types t) refl e
    where
      found_stays : (o : Option TypeForm) → slice_get types t ≡ o → fits.designated_in o ≡ Some d → fits.designated_type more t ≡ Some d
      found_stays None is e = absurd (cc e)
      found_stays (Some x) is e = same_at types more ts (λ o. fits.designated_in o) designated_bare t x is ∙ e

  -- of which record type the objects are that values of a type name
  named_stays : (t d : ℕ) → fits.named_in (slice_get types t) ≡ Some d → fits.named_in (slice_get more t) ≡ Some d
  named_stays t d e = found_stays (slice_get types t) refl e
    where
      found_stays : (o : Option TypeForm) → slice_get types t ≡ o → fits.named_in o ≡ Some d → fits.named_in (slice_get more t) ≡ Some d
      found_stays None is e = absurd (cc e)
      found_stays (Some x) is e = same_at types more ts (λ o. fits.named_in o) named_bare t x is ∙ e

  pub components_stay : (t : ℕ) (cs : List ComponentKind) → fits.record_components types t ≡ Some cs → fits.record_components more t ≡ Some cs
  components_stay t cs e = found_stays (slice_get types t) refl e
    where
      found_stays : (o : Option TypeForm) → slice_get types t ≡ o → fits.components_in o ≡ Some cs → fits.record_components more t ≡ Some cs
      found_stays None is e = absurd (cc e)
      found_stays (Some x) is e = same_at types more ts (λ o. fits.components_in o) components_bare t x is ∙ e

  reached_stay : (access : ℕ) (cs : List ComponentKind) → fits.reached_components types access ≡ Some cs → fits.reached_components more access ≡ Some cs
  reached_stay access cs e = found_stay (fits.named_in (slice_get types access)) refl e
    where
      found_stay : (o : Option ℕ) → fits.named_in (slice_get types access) ≡ o → fits.components_reached types o ≡ Some cs → fits.reached_components more access ≡ Some cs
      found_stay None is e = absurd (cc e)
      found_stay (Some t) is e = rw (named_stays access t is) (components_stay t cs e)

  access_stays : (t : ℕ) → fits.is_access types t ≡ true → fits.is_access more t ≡ true
  access_stays t e = found_stays (fits.designated_type types t) refl e
    where
      found_stays : (o : Option ℕ) → fits.designated_type types t ≡ o → is_some o ≡ true → fits.is_access more t ≡ true
      found_stays None is e = absurd (cc e)
      found_stays (Some d) is e = rw (designated_stays t d is) refl

  -- what a variable holds, and where a path leads
  kind_stays : (x : ℕ) (k : VariableKind) → fits.variable_kind variables x ≡ Some k → fits.variable_kind others x ≡ Some k
  kind_stays x k e = found_stays (slice_get variables x) refl e
    where
      found_stays : (o : Option VariableForm) → slice_get variables x ≡ o → fits.kind_in o ≡ Some k → fits.variable_kind others x ≡ Some k
      found_stays None is e = absurd (cc e)
      found_stays (Some v) is e = rw (vs x v is) e

  behind_stays : (access : Option ℕ) (c : ℕ) (k : VariableKind) → fits.kind_behind types access c ≡ Some k → fits.kind_behind more access c ≡ Some k
  behind_stays None c k e = absurd (cc e)
  behind_stays (Some access) c k e = found_stays (fits.reached_components types access) refl e
    where
      found_stays : (o : Option (List ComponentKind)) → fits.reached_components types access ≡ o → fits.kind_among o c ≡ Some k → fits.kind_behind more (Some access) c ≡ Some k
      found_stays None is e = absurd (cc e)
      found_stays (Some cs) is e = rw (reached_stay access cs is) e

  selectors_stay : (cs : List ℕ) (kind : Option VariableKind) (k : VariableKind) → fits.selectors_kind types kind cs ≡ Some k → fits.selectors_kind more kind cs ≡ Some k
  selectors_stay [] kind k e = e
  selectors_stay (c ∷ cs) kind k e = found_stays (fits.selected_kind types kind c) (λ o h. selectors_stay cs o k h) refl e
    where
      found_stays : (o : Option VariableKind) → ((p : Option VariableKind) → fits.selectors_kind types p cs ≡ Some k → fits.selectors_kind more p cs ≡ Some k) → fits.selected_kind types kind c ≡ o → fits.selectors_kind types o cs ≡ Some k → fits.selectors_kind more kind (c ∷ cs) ≡ Some k
      found_stays None rest is e = absurd (cc (nowhere types cs, e))
      found_stays (Some j) rest is e = rw (behind_stays (fits.access_of kind) c j is) (rest (Some j) e)

  pub path_stays : (path : PathForm) (k : VariableKind) → fits.path_kind types variables path ≡ Some k → fits.path_kind more others path ≡ Some k
  path_stays path k e = root_stays (fits.variable_kind variables path.root) refl e
    where
      root_stays : (o : Option VariableKind) → fits.variable_kind variables path.root ≡ o → fits.selectors_kind types (fits.root_kind path.of_record o) path.selectors ≡ Some k → fits.path_kind more others path ≡ Some k
      root_stays None is e = absurd (cc (nowhere types path.selectors, e))
      root_stays (Some j) is e = rw (kind_stays path.root j is) (selectors_stay path.selectors (fits.root_kind path.of_record (Some j)) k e)

  -- what is read, and what is compared with null
  read_stays : (path : PathForm) (t : ScalarType) → fits.read_type types variables path ≡ Some t → fits.read_type more others path ≡ Some t
  read_stays path t e = by_kind (fits.path_kind types variables path) refl e
    where
      by_kind : (o : Option VariableKind) → fits.path_kind types variables path ≡ o → fits.scalar_of o ≡ Some t → fits.scalar_of (fits.path_kind more others path) ≡ Some t
      by_kind None is e = absurd (cc e)
      by_kind (Some k) is e = rw (path_stays path k is) e

  null_test_stays : (path : PathForm) (t : ScalarType) → fits.null_test_type types variables path ≡ Some t → fits.null_test_type more others path ≡ Some t
  null_test_stays path t e = by_kind (fits.path_kind types variables path) refl e
    where
      by_kind : (o : Option VariableKind) → fits.path_kind types variables path ≡ o → cond (is_some (fits.value_access o)) (Some Boolean) None ≡ Some t → cond (is_some (fits.path_access more others path)) (Some Boolean) None ≡ Some t
      by_kind None is e = absurd (cc e)
      by_kind (Some k) is e = rw (path_stays path k is) e

  -- the type of an expression
  mutual
    type_stays : (e : ExpressionForm) (t : ScalarType) → fits.type_of types variables e ≡ Some t → fits.type_of more others e ≡ Some t
    type_stays (integer n) t h = h
    type_stays (boolean b) t h = h
    type_stays (reads path) t h = read_stays path t h
    type_stays (is_null equal path) t h = null_test_stays path t h
    type_stays (applied_to operator e) t h =
        let there = unary_typed operator (fits.type_of types variables e) t h in
        rw (type_stays e there.0 there.1) (subst (λ v. fits.unary_type operator v ≡ Some t) there.1 h)
    type_stays (chained e links) t h =
        let there = left_typed types variables links (fits.type_of types variables e) t h in
        rw (type_stays e there.0 there.1) (links_stay links (Some there.0) t (subst (λ v. fits.chain_type types variables v links ≡ Some t) there.1 h))

    links_stay : (links : LinksForm) (left : Option ScalarType) (t : ScalarType) → fits.chain_type types variables left links ≡ Some t → fits.chain_type more others left links ≡ Some t
    links_stay no_more_links left t h = h
    links_stay (a_link operator e links) left t h =
        let there = operand_typed types variables operator e links left t h in
        rw (type_stays e there.0 there.1)
        (links_stay links (fits.binary_type operator left (Some there.0)) t
        (subst (λ v. fits.chain_type types variables (fits.binary_type operator left v) links ≡ Some t) there.1 h))

  pub has_type_stays : (t : ScalarType) (e : ExpressionForm) → fits.has_type types variables t e ≡ true → fits.has_type more others t e ≡ true
  has_type_stays t e h = is_of_type t (fits.type_of more others e) (type_stays e t (of_type t (fits.type_of types variables e) h))

  -- a value that is moved
  pub moved_stays : (path : PathForm) (access : ℕ) → fits.is_this access (fits.path_access types variables path) ≡ true → fits.is_this access (fits.path_access more others path) ≡ true
  moved_stays path access h = by_kind (fits.path_kind types variables path) refl h
    where
      by_kind : (o : Option VariableKind) → fits.path_kind types variables path ≡ o → fits.is_this access (fits.value_access o) ≡ true → fits.is_this access (fits.path_access more others path) ≡ true
      by_kind None is h = absurd (cc h)
      by_kind (Some k) is h = rw (path_stays path k is) h

  -- collections
  collection_stays : (d : DeclarationForm) → fits.collection_fits types d ≡ true → fits.collection_fits more d ≡ true
  collection_stays (creates_pool pool) h = refl
  collection_stays (collects access) h = access_stays access h
  collection_stays (declares x s) h = refl
  collection_stays (declares_record x object initial) h = refl

  pub collections_stay : (ds : List DeclarationForm) → list_all (fits.collection_fits types) ds ≡ true → list_all (fits.collection_fits more) ds ≡ true
  collections_stay ds h = all_weaker (fits.collection_fits types) (fits.collection_fits more) collection_stays ds h

  -- where the components of the types lie one behind the other
  module _ (laid : AreRecordsLaid types) where
    -- records, and the paths to them
    begins_stays : (t : ℕ) (cs : List ComponentKind) → fits.begins_with_record cs (fits.record_components types t) ≡ true → fits.begins_with_record cs (fits.record_components more t) ≡ true
    begins_stays t cs h = by_components (fits.record_components types t) refl h
      where
        by_components : (o : Option (List ComponentKind)) → fits.record_components types t ≡ o → fits.begins_with_record cs o ≡ true → fits.begins_with_record cs (fits.record_components more t) ≡ true
        by_components None is h = absurd (cc h)
        by_components (Some ks) is h = rw (components_stay t ks is) h

    width_stays : (t : ℕ) (cs : List ComponentKind) → fits.begins_with_record cs (fits.record_components types t) ≡ true → fits.width_in (fits.record_components more t) ≡ fits.width_in (fits.record_components types t)
    width_stays t cs h = by_components (fits.record_components types t) refl h
      where
        by_components : (o : Option (List ComponentKind)) → fits.record_components types t ≡ o → fits.begins_with_record cs o ≡ true → fits.width_in (fits.record_components more t) ≡ fits.width_in o
        by_components None is h = absurd (cc h)
        by_components (Some ks) is h = rw (components_stay t ks is) refl

    -- controlled parts
    count_stays : (t : ℕ) → is_some (fits.record_components types t) ≡ true → fits.part_count more t ≡ fits.part_count types t
    count_stays t e = same_final (λ o. fits.count_said o) said_bare (fits.finalization_of more t) (fits.finalization_of types t) (final_stays types more ts t e)

    named_count_stays : (a : Option ℕ) → is_some (fits.object_components types a) ≡ true → fits.parts_named more (fits.object_named more a) ≡ fits.parts_named types (fits.object_named types a)
    named_count_stays None e = refl
    named_count_stays (Some t) e = by_type (fits.named_in (slice_get types t)) refl e
      where
        by_type : (o : Option ℕ) → fits.named_in (slice_get types t) ≡ o → is_some (fits.components_reached types o) ≡ true → fits.parts_named more (fits.named_in (slice_get more t)) ≡ fits.parts_named types o
        by_type None is e = absurd (cc e)
        by_type (Some d) is e = rw (named_stays t d is) (count_stays d e)

    object_same : (a : Option ℕ) → is_some (fits.object_components types a) ≡ true → fits.object_named more a ≡ fits.object_named types a
    object_same None e = refl
    object_same (Some t) e = by_type (fits.named_in (slice_get types t)) refl e
      where
        by_type : (o : Option ℕ) → fits.named_in (slice_get types t) ≡ o → is_some (fits.components_reached types o) ≡ true → fits.named_in (slice_get more t) ≡ fits.named_in (slice_get types t)
        by_type None is e = absurd (cc e)
        by_type (Some d) is e = named_stays t d is ∙ sym is

    -- where a record lies in an object, both are there
    object_there : (o : Option (List ComponentKind)) (first : ℕ) (ks : Option (List ComponentKind)) → fits.has_record_at o first ks ≡ true → is_some o ≡ true
    object_there None first ks h = absurd (cc h)
    object_there (Some cs) first ks h = refl

    record_there : (o : Option (List ComponentKind)) (first : ℕ) (ks : Option (List ComponentKind)) → fits.has_record_at o first ks ≡ true → is_some ks ≡ true
    record_there None first ks h = absurd (cc h)
    record_there (Some cs) first None h = absurd (cc h)
    record_there (Some cs) first (Some ks) h = refl

    record_path_stays : (p : RecordPathForm) → fits.is_record_path types variables p ≡ true → fits.is_record_path more others p ≡ true
    record_path_stays p h = by_kind (fits.path_kind types variables p.object) refl h
      where
        by_object : (t : ℕ) (o : Option (List ComponentKind)) → fits.reached_components types t ≡ o → fits.has_record_at o p.first (fits.record_components types p.record_type) ≡ true → fits.has_record_at (fits.reached_components more t) p.first (fits.record_components more p.record_type) ≡ true
        by_object t None is h = absurd (cc h)
        by_object t (Some cs) is h = rw (reached_stay t cs is) (begins_stays p.record_type (drop p.first cs) h)

        by_access : (a : Option ℕ) → fits.has_record_at (fits.object_components types a) p.first (fits.record_components types p.record_type) ≡ true → fits.has_record_at (fits.object_components more a) p.first (fits.record_components more p.record_type) ≡ true
        by_access None h = absurd (cc h)
        by_access (Some t) h = by_object t (fits.reached_components types t) refl h

        both_stay : (a : Option ℕ) → (fits.has_record_at (fits.object_components types a) p.first (fits.record_components types p.record_type) && fits.has_parts_at types p.record_type (fits.object_named types a) p.first p.part) ≡ true → (fits.has_record_at (fits.object_components more a) p.first (fits.record_components more p.record_type) && fits.has_parts_at more p.record_type (fits.object_named more a) p.first p.part) ≡ true
        both_stay a h =
            let leads = fits.has_record_at (fits.object_components types a) p.first (fits.record_components types p.record_type) in
            let own : Bool = fits.has_parts_at types p.record_type (fits.object_named types a) p.first p.part in
            let led = first_part leads own h in
            let is = record_there (fits.object_components types a) p.first (fits.record_components types p.record_type) led in
            let count = count_stays p.record_type is in
            let object = object_there (fits.object_components types a) p.first (fits.record_components types p.record_type) led in
            let within = named_count_stays a object in
            let same = object_same a object in
            let among : Bool = fits.has_parts_from (fits.part_count types p.record_type) p.part (fits.parts_named types (fits.object_named types a)) in
            let found : Bool = eqb (fits.part_count types p.record_type) 0 || fits.is_found types (length types) p.record_type (fits.place_from (fits.object_named types a) p.first p.part) in
            let part : Bool = fits.is_part_of types p.record_type (fits.object_named types a) in
            let all = second_part leads own h in
            let parts = first_part (among && found) part all in
            let now : fits.has_parts_from (fits.part_count more p.record_type) p.part (fits.parts_named more (fits.object_named more a)) ≡ true = rw (count, within) (first_part among found parts) in
            let still : (eqb (fits.part_count more p.record_type) 0 || fits.is_found more (length more) p.record_type (fits.place_from (fits.object_named more a) p.first p.part)) ≡ true =
            rw (count, same) (or_weaker (eqb (fits.part_count types p.record_type) 0) (fits.is_found types (length types) p.record_type (fits.place_from (fits.object_named types a) p.first p.part))
            (fits.is_found more (length more) p.record_type (fits.place_from (fits.object_named types a) p.first p.part))
            (found_stays types more ts laid (length types) (length more) p.record_type (fits.place_from (fits.object_named types a) p.first p.part) (longer_types types more ts)) (second_part among found parts)) in
            let among_more = fits.has_parts_from (fits.part_count more p.record_type) p.part (fits.parts_named more (fits.object_named more a)) in
            let found_more = eqb (fits.part_count more p.record_type) 0 || fits.is_found more (length more) p.record_type (fits.place_from (fits.object_named more a) p.first p.part) in
            both_parts (fits.has_record_at (fits.object_components more a) p.first (fits.record_components more p.record_type)) (fits.has_parts_at more p.record_type (fits.object_named more a) p.first p.part)
            (by_access a led)
            (both_parts (among_more && found_more) (fits.is_part_of more p.record_type (fits.object_named more a)) (both_parts among_more found_more now still)
            (rw same (is_part_stays types more ts p.record_type (fits.object_named types a) is (second_part (among && found) part all))))

        by_kind : (o : Option VariableKind) → fits.path_kind types variables p.object ≡ o → (fits.has_record_at (fits.object_components types (fits.access_of o)) p.first (fits.record_components types p.record_type) && fits.has_parts_at types p.record_type (fits.object_named types (fits.access_of o)) p.first p.part) ≡ true → fits.is_record_path more others p ≡ true
        by_kind None is h = absurd (cc h)
        by_kind (Some k) is h = rw (path_stays p.object k is) (both_stay (fits.access_of (Some k)) h)

    -- the items of aggregates
    item_stays : (k : ComponentKind) (i : ItemForm) → fits.component_item_fits types variables k i ≡ true → fits.component_item_fits more others k i ≡ true
    item_stays (component.Integer initial) null_item h = absurd (cc h)
    item_stays (component.Integer initial) (item_of_path path) h = absurd (cc h)
    item_stays (component.Integer initial) (item_of_value e) h = has_type_stays Integer e h
    item_stays (component.Boolean initial) null_item h = absurd (cc h)
    item_stays (component.Boolean initial) (item_of_path path) h = absurd (cc h)
    item_stays (component.Boolean initial) (item_of_value e) h = has_type_stays Boolean e h
    item_stays (component.Access t) null_item h = refl
    item_stays (component.Access t) (item_of_path path) h = moved_stays path t.0 h
    item_stays (component.Access t) (item_of_value e) h = absurd (cc h)
    item_stays (component.Integer initial) (item_of_record p) h = absurd (cc h)
    item_stays (component.Boolean initial) (item_of_record p) h = absurd (cc h)
    item_stays (component.Access t) (item_of_record p) h = absurd (cc h)

    first_stays : (cs : List ComponentKind) (i : ItemForm) → fits.first_fits types variables cs i ≡ true → fits.first_fits more others cs i ≡ true
    first_stays [] i h = absurd (cc h)
    first_stays (c ∷ cs) i h = item_stays c i h

    one_stays : (cs : List ComponentKind) (i : ItemForm) → fits.item_fits types variables cs i ≡ true → (fits.item_fits more others cs i ≡ true) × (fits.item_width more i ≡ fits.item_width types i)
    one_stays cs null_item h = (first_stays cs null_item h, refl)
    one_stays cs (item_of_path path) h = (first_stays cs (item_of_path path) h, refl)
    one_stays cs (item_of_value e) h = (first_stays cs (item_of_value e) h, refl)
    one_stays cs (item_of_record p) h =
        let leads = fits.is_record_path types variables p in
        let begins = fits.begins_with_record cs (fits.record_components types p.record_type) in
        let there : begins ≡ true = second_part leads begins h in (
          both_parts (fits.is_record_path more others p) (fits.begins_with_record cs (fits.record_components more p.record_type))
              (record_path_stays p (first_part leads begins h)) (begins_stays p.record_type cs there),
          width_stays p.record_type cs there,
        )

    items_stay : (cs : List ComponentKind) (items : List ItemForm) → fits.items_fit types variables cs items ≡ true → fits.items_fit more others cs items ≡ true
    items_stay cs [] h = h
    items_stay cs (i ∷ items) h =
        let behind = drop (fits.item_width types i) cs in
        let own = fits.item_fits types variables cs i in
        let rest = fits.items_fit types variables behind items in
        let one = one_stays cs i (first_part own rest h) in
        both_parts (fits.item_fits more others cs i) (fits.items_fit more others (drop (fits.item_width more i) cs) items) one.0
        (subst (λ (n : ℕ). fits.items_fit more others (drop n cs) items ≡ true) (sym one.1) (items_stay behind items (second_part own rest h)))

    -- the items of a record
    found_fit : (o found : Option (List ComponentKind)) (items : List ItemForm) → ((cs : List ComponentKind) → o ≡ Some cs → found ≡ Some cs) → fits.is_filled types variables o items ≡ true → fits.is_filled more others found items ≡ true
    found_fit None found items w h = absurd (cc h)
    found_fit (Some cs) found items w h = rw (w cs refl) (items_stay cs items h)

    filled_there : (o : Option (List ComponentKind)) (items : List ItemForm) → fits.is_filled types variables o items ≡ true → is_some o ≡ true
    filled_there None items h = absurd (cc h)
    filled_there (Some cs) items h = refl

    filled_stays : (access : ℕ) (items : List ItemForm) → fits.is_filled types variables (fits.reached_components types access) items ≡ true → fits.is_filled more others (fits.reached_components more access) items ≡ true
    filled_stays access items h = by_components (fits.reached_components types access) refl h
      where
        by_components : (o : Option (List ComponentKind)) → fits.reached_components types access ≡ o → fits.is_filled types variables o items ≡ true → fits.is_filled more others (fits.reached_components more access) items ≡ true
        by_components None is h = absurd (cc h)
        by_components (Some cs) is h = rw (reached_stay access cs is) (items_stay cs items h)

    there_stays : (access : ℕ) → is_some (fits.reached_components types access) ≡ true → is_some (fits.reached_components more access) ≡ true
    there_stays access h = by_components (fits.reached_components types access) refl h
      where
        by_components : (o : Option (List ComponentKind)) → fits.reached_components types access ≡ o → is_some o ≡ true → is_some (fits.reached_components more access) ≡ true
        by_components None is h = absurd (cc h)
        by_components (Some cs) is h = rw (reached_stay access cs is) refl

    -- what is assigned
    access_right_stays : (access : ℕ) (s : RightForm) → fits.access_fits types variables access s ≡ true → fits.access_fits more others access s ≡ true
    access_right_stays access nothing h = refl
    access_right_stays access (value_of path) h = moved_stays path access h
    access_right_stays access (allocates t items) h =
        let same = eqb t access in
        let filled : Bool = fits.is_filled types variables (fits.reached_components types access) items in
        let none : Bool = eqb (fits.parts_named types (fits.object_named types (Some access))) 0 in
        let front = first_part (same && filled) none h in
        let fit = second_part same filled front in
        both_parts (same && fits.is_filled more others (fits.reached_components more access) items) (eqb (fits.parts_named more (fits.object_named more (Some access))) 0)
        (both_parts same (fits.is_filled more others (fits.reached_components more access) items) (first_part same filled front) (filled_stays access items fit))
        (rw (named_count_stays (Some access) (filled_there (fits.reached_components types access) items fit)) (second_part (same && filled) none h))
    access_right_stays access (allocates_default t) h =
        both_parts (eqb t access) (is_some (fits.reached_components more access))
        (first_part (eqb t access) (is_some (fits.reached_components types access)) h)
        (there_stays access (second_part (eqb t access) (is_some (fits.reached_components types access)) h))
    access_right_stays access (computes e) h = absurd (cc h)

    scalar_right_stays : (t : ScalarType) (s : RightForm) → fits.scalar_fits types variables t s ≡ true → fits.scalar_fits more others t s ≡ true
    scalar_right_stays t nothing h = absurd (cc h)
    scalar_right_stays t (value_of path) h = absurd (cc h)
    scalar_right_stays t (allocates a items) h = absurd (cc h)
    scalar_right_stays t (allocates_default a) h = absurd (cc h)
    scalar_right_stays t (computes e) h = has_type_stays t e h

    pub taken_stays : (kind : VariableKind) (s : RightForm) → fits.kind_takes types variables kind s ≡ true → fits.kind_takes more others kind s ≡ true
    taken_stays variable.Integer s h = scalar_right_stays Integer s h
    taken_stays variable.Boolean s h = scalar_right_stays Boolean s h
    taken_stays (variable.Access access) s h = access_right_stays access.0 s h
    taken_stays (variable.Record object) s h = absurd (cc h)

    -- whether a variable is a borrower, and what goes to borrowers
    borrower_stays : (x : ℕ) (k : VariableKind) → fits.variable_kind variables x ≡ Some k → fits.is_borrower others x ≡ fits.is_borrower variables x
    borrower_stays x k e = found_stays (slice_get variables x) refl e
      where
        found_stays : (o : Option VariableForm) → slice_get variables x ≡ o → fits.kind_in o ≡ Some k → fits.is_borrower others x ≡ fits.is_borrower variables x
        found_stays None is e = absurd (cc e)
        found_stays (Some v) is e = rw (is, vs x v is) refl

    named_borrower_stays : (path : PathForm) (k : VariableKind) → fits.path_kind types variables path ≡ Some k → fits.names_borrower others path ≡ fits.names_borrower variables path
    named_borrower_stays path k e = root_stays (fits.variable_kind variables path.root) refl e
      where
        root_stays : (o : Option VariableKind) → fits.variable_kind variables path.root ≡ o → fits.selectors_kind types (fits.root_kind path.of_record o) path.selectors ≡ Some k → fits.names_borrower others path ≡ fits.names_borrower variables path
        root_stays None is e = absurd (cc (nowhere types path.selectors, e))
        root_stays (Some j) is e = ap (λ (b : Bool). fits.names_variable path && b) (borrower_stays path.root j is)

    moved_owns : (path : PathForm) (access : ℕ) → fits.is_this access (fits.path_access types variables path) ≡ true → fits.names_borrower others path ≡ fits.names_borrower variables path
    moved_owns path access h = by_kind (fits.path_kind types variables path) refl h
      where
        by_kind : (o : Option VariableKind) → fits.path_kind types variables path ≡ o → fits.is_this access (fits.value_access o) ≡ true → fits.names_borrower others path ≡ fits.names_borrower variables path
        by_kind None is h = absurd (cc h)
        by_kind (Some k) is h = named_borrower_stays path k is

    item_owns_stays : (cs : List ComponentKind) (i : ItemForm) → fits.item_fits types variables cs i ≡ true → fits.item_owns variables i ≡ true → fits.item_owns others i ≡ true
    item_owns_stays cs null_item h o = refl
    item_owns_stays cs (item_of_value e) h o = refl
    item_owns_stays cs (item_of_record p) h o = refl
    item_owns_stays [] (item_of_path path) h o = absurd (cc h)
    item_owns_stays (component.Integer initial ∷ cs) (item_of_path path) h o = absurd (cc h)
    item_owns_stays (component.Boolean initial ∷ cs) (item_of_path path) h o = absurd (cc h)
    item_owns_stays (component.Access t ∷ cs) (item_of_path path) h o =
        ap (λ (b : Bool). not b) (moved_owns path t.0 h) ∙ o

    items_own_stay : (cs : List ComponentKind) (items : List ItemForm) → fits.items_fit types variables cs items ≡ true → list_all (fits.item_owns variables) items ≡ true → list_all (fits.item_owns others) items ≡ true
    items_own_stay cs [] h o = refl
    items_own_stay cs (i ∷ items) h o =
        let behind = drop (fits.item_width types i) cs in
        let own = fits.item_fits types variables cs i in
        let rest = fits.items_fit types variables behind items in
        both_parts (fits.item_owns others i) (list_all (fits.item_owns others) items)
        (item_owns_stays cs i (first_part own rest h) (first_part (fits.item_owns variables i) (list_all (fits.item_owns variables) items) o))
        (items_own_stay behind items (second_part own rest h) (second_part (fits.item_owns variables i) (list_all (fits.item_owns variables) items) o))

    filled_owns : (cs : Option (List ComponentKind)) (items : List ItemForm) → fits.is_filled types variables cs items ≡ true → list_all (fits.item_owns variables) items ≡ true → list_all (fits.item_owns others) items ≡ true
    filled_owns None items h o = absurd (cc h)
    filled_owns (Some cs) items h o = items_own_stay cs items h o

    pub record_stays : (t : ℕ) (items : List ItemForm) → fits.record_fits types variables t items ≡ true → fits.record_fits more others t items ≡ true
    record_stays t items h =
        let filled : Bool = fits.is_filled types variables (fits.record_components types t) items in
        let owned = list_all (fits.item_owns variables) items in
        let whole : Bool = fits.copies_whole t (fits.finalization_of types t) items in
        let front = first_part (filled && owned) whole h in
        let fit = first_part filled owned front in
        both_parts (fits.is_filled more others (fits.record_components more t) items && list_all (fits.item_owns others) items) (fits.copies_whole t (fits.finalization_of more t) items)
        (both_parts (fits.is_filled more others (fits.record_components more t) items) (list_all (fits.item_owns others) items)
        (found_fit (fits.record_components types t) (fits.record_components more t) items (components_stay t) fit)
        (filled_owns (fits.record_components types t) items fit (second_part filled owned front)))
        (same_final (λ o. fits.copies_whole t o items) (whole_bare t items) (fits.finalization_of more t) (fits.finalization_of types t)
        (final_stays types more ts t (filled_there (fits.record_components types t) items fit)) ∙ second_part (filled && owned) whole h)

    pub lent_stays : (kind : VariableKind) (borrows : Bool) (s : RightForm) → fits.kind_takes types variables kind s ≡ true → fits.lends_to variables borrows s ≡ true → fits.lends_to others borrows s ≡ true
    lent_stays kind borrows nothing h l = refl
    lent_stays kind borrows (allocates_default access) h l = l
    lent_stays kind borrows (computes e) h l = refl
    lent_stays (variable.Access access) borrows (value_of path) h l =
        ap (λ (b : Bool). borrows || not b) (moved_owns path access.0 h) ∙ l
    lent_stays variable.Integer borrows (value_of path) h l = absurd (cc h)
    lent_stays variable.Boolean borrows (value_of path) h l = absurd (cc h)
    lent_stays (variable.Record object) borrows (value_of path) h l = absurd (cc h)
    lent_stays (variable.Access access) borrows (allocates t items) h l =
        both_parts (not borrows) (list_all (fits.item_owns others) items)
        (first_part (not borrows) (list_all (fits.item_owns variables) items) l)
        (filled_owns (fits.reached_components types access.0) items
        (second_part (eqb t access.0) (fits.is_filled types variables (fits.reached_components types access.0) items)
        (first_part (eqb t access.0 && fits.is_filled types variables (fits.reached_components types access.0) items) (eqb (fits.parts_named types (fits.object_named types (Some access.0))) 0) h))
        (second_part (not borrows) (list_all (fits.item_owns variables) items) l))
    lent_stays variable.Integer borrows (allocates t items) h l = absurd (cc h)
    lent_stays variable.Boolean borrows (allocates t items) h l = absurd (cc h)
    lent_stays (variable.Record object) borrows (allocates t items) h l = absurd (cc h)

    -- what is assigned to a variable, or to a path
    right_lent : (o : Option VariableKind) (found : Option VariableKind) (borrows borrowed : Bool) (s : RightForm) → ((k : VariableKind) → o ≡ Some k → (found ≡ Some k) × (borrowed ≡ borrows)) → (fits.right_fits types variables o s && fits.lends_to variables borrows s) ≡ true → (fits.right_fits more others found s && fits.lends_to others borrowed s) ≡ true
    right_lent None found borrows borrowed s w h = absurd (cc h)
    right_lent (Some k) found borrows borrowed s w h =
        let now = w k refl in
        let fit : fits.kind_takes types variables k s ≡ true = first_part (fits.kind_takes types variables k s) (fits.lends_to variables borrows s) h in
        rw (now.0, now.1)
        (both_parts (fits.kind_takes more others k s) (fits.lends_to others borrows s) (taken_stays k s fit)
        (lent_stays k borrows s fit (second_part (fits.kind_takes types variables k s) (fits.lends_to variables borrows s) h)))

    assigned_stays : (path : PathForm) (s : RightForm) → (fits.right_fits types variables (fits.path_kind types variables path) s && fits.lends_to variables (fits.names_borrower variables path) s) ≡ true → (fits.right_fits more others (fits.path_kind more others path) s && fits.lends_to others (fits.names_borrower others path) s) ≡ true
    assigned_stays path s h =
        right_lent (fits.path_kind types variables path) (fits.path_kind more others path) (fits.names_borrower variables path) (fits.names_borrower others path) s
        (λ k e. (path_stays path k e, named_borrower_stays path k e)) h

    -- the type by which a record object is known stays its own
    known_stays : (x object : ℕ) → fits.is_record_object object (fits.variable_kind variables x) ≡ true → fits.is_record_object object (fits.variable_kind others x) ≡ true
    known_stays x object h = by_kind (fits.variable_kind variables x) refl h
      where
        by_kind : (o : Option VariableKind) → fits.variable_kind variables x ≡ o → fits.is_record_object object o ≡ true → fits.is_record_object object (fits.variable_kind others x) ≡ true
        by_kind None is h = absurd (cc h)
        by_kind (Some k) is h = rw (kind_stays x k is) h

    object_initial_stays : (x : ℕ) (o found : Option ℕ) (items : List ItemForm) → ((d : ℕ) → o ≡ Some d → found ≡ Some d) → (list_all (fits.item_before x) items && fits.object_fits types variables o items) ≡ true → (list_all (fits.item_before x) items && fits.object_fits more others found items) ≡ true
    object_initial_stays x None found items w h = absurd (cc (second_part (list_all (fits.item_before x) items) false h))
    object_initial_stays x (Some d) found items w h =
        let before = list_all (fits.item_before x) items in
        let fit : Bool = fits.record_fits types variables d items in
        rw (w d refl) (both_parts before (fits.record_fits more others d items) (first_part before fit h) (record_stays d items (second_part before fit h)))

    record_initial_stays : (x object : ℕ) (initial : Option (List ItemForm)) → fits.record_initial_fits types variables x (fits.object_named types (Some object)) initial ≡ true → fits.record_initial_fits more others x (fits.object_named more (Some object)) initial ≡ true
    record_initial_stays x object None h = refl
    record_initial_stays x object (Some items) h = object_initial_stays x (fits.named_in (slice_get types object)) (fits.named_in (slice_get more object)) items (named_stays object) h

    initial_stays : (d : DeclarationForm) → fits.initial_fits types variables d ≡ true → fits.initial_fits more others d ≡ true
    initial_stays (creates_pool pool) h = refl
    initial_stays (collects access) h = refl
    initial_stays (declares x s) h =
        let before = fits.names_before x s in
        let fit = fits.right_fits types variables (fits.variable_kind variables x) s in
        let lent = fits.lends_to variables (fits.is_borrower variables x) s in
        let front : (before && fit) ≡ true = first_part (before && fit) lent h in
        let now : (fits.right_fits more others (fits.variable_kind others x) s && fits.lends_to others (fits.is_borrower others x) s) ≡ true =
        right_lent (fits.variable_kind variables x) (fits.variable_kind others x) (fits.is_borrower variables x) (fits.is_borrower others x) s
        (λ k e. (kind_stays x k e, borrower_stays x k e)) (both_parts fit lent (second_part before fit front) (second_part (before && fit) lent h)) in
        both_parts (before && fits.right_fits more others (fits.variable_kind others x) s) (fits.lends_to others (fits.is_borrower others x) s)
        (both_parts before (fits.right_fits more others (fits.variable_kind others x) s) (first_part before fit front)
        (first_part (fits.right_fits more others (fits.variable_kind others x) s) (fits.lends_to others (fits.is_borrower others x) s) now))
        (second_part (fits.right_fits more others (fits.variable_kind others x) s) (fits.lends_to others (fits.is_borrower others x) s) now)
    initial_stays (declares_record x object initial) h =
        let known = fits.is_record_object object (fits.variable_kind variables x) in
        let fit : Bool = fits.record_initial_fits types variables x (fits.object_named types (Some object)) initial in
        both_parts (fits.is_record_object object (fits.variable_kind others x)) (fits.record_initial_fits more others x (fits.object_named more (Some object)) initial)
        (known_stays x object (first_part known fit h)) (record_initial_stays x object initial (second_part known fit h))

    pub initials_stay : (ds : List DeclarationForm) → list_all (fits.initial_fits types variables) ds ≡ true → list_all (fits.initial_fits more others) ds ≡ true
    initials_stay ds h = all_weaker (fits.initial_fits types variables) (fits.initial_fits more others) initial_stays ds h

    pub declarations_stay : (ds : List DeclarationForm) → fits.declarations_fit types variables ds ≡ true → fits.declarations_fit more others ds ≡ true
    declarations_stay ds h =
        let last = list_all (fits.initial_fits types variables) ds in
        let front = fits.collections_first ds && list_all (fits.collection_fits types) ds in
        let both : front ≡ true = first_part front last h in
        both_parts (fits.collections_first ds && list_all (fits.collection_fits more) ds) (list_all (fits.initial_fits more others) ds)
        (both_parts (fits.collections_first ds) (list_all (fits.collection_fits more) ds)
        (first_part (fits.collections_first ds) (list_all (fits.collection_fits types) ds) both)
        (collections_stay ds (second_part (fits.collections_first ds) (list_all (fits.collection_fits types) ds) both)))
        (initials_stay ds (second_part front last h))

    -- what is freed
    freed_at : (access : ℕ) (own : Option ℕ) → fits.is_freed_by types access own ≡ true → fits.is_freed_by more access own ≡ true
    freed_at access None h = absurd (cc h)
    freed_at access (Some own) h = by_designated (fits.designated_type types access) (fits.designated_type types own) refl refl h
      where
        by_designated : (o p : Option ℕ) → fits.designated_type types access ≡ o → fits.designated_type types own ≡ p → fits.same_record o p ≡ true → fits.same_record (fits.designated_type more access) (fits.designated_type more own) ≡ true
        by_designated None p is other h = absurd (cc h)
        by_designated (Some t) None is other h = absurd (cc h)
        by_designated (Some t) (Some u) is other h = rw (designated_stays access t is, designated_stays own u other) h

    freed_stays : (access : ℕ) (path : PathForm) → fits.is_freed_by types access (fits.path_access types variables path) ≡ true → fits.is_freed_by more access (fits.path_access more others path) ≡ true
    freed_stays access path h = by_kind (fits.path_kind types variables path) refl h
      where
        by_kind : (o : Option VariableKind) → fits.path_kind types variables path ≡ o → fits.is_freed_by types access (fits.value_access o) ≡ true → fits.is_freed_by more access (fits.path_access more others path) ≡ true
        by_kind None is h = absurd (cc h)
        by_kind (Some k) is h = rw (path_stays path k is) (freed_at access (fits.value_access (Some k)) h)

    freed_owns : (access : ℕ) (path : PathForm) → fits.is_freed_by types access (fits.path_access types variables path) ≡ true → not (fits.names_borrower variables path) ≡ true → not (fits.names_borrower others path) ≡ true
    freed_owns access path h o = by_kind (fits.path_kind types variables path) refl h
      where
        by_kind : (found : Option VariableKind) → fits.path_kind types variables path ≡ found → fits.is_freed_by types access (fits.value_access found) ≡ true → not (fits.names_borrower others path) ≡ true
        by_kind None is h = absurd (cc h)
        by_kind (Some k) is h = ap (λ (b : Bool). not b) (named_borrower_stays path k is) ∙ o

    -- an Integer that is held
    integer_at : (o found : Option VariableKind) → ((k : VariableKind) → o ≡ Some k → found ≡ Some k) → fits.is_type Integer (fits.scalar_of o) ≡ true → fits.is_type Integer (fits.scalar_of found) ≡ true
    integer_at None found w h = absurd (cc h)
    integer_at (Some k) found w h = rw (w k refl) h

    condition_stays : (o : Option ExpressionForm) → fits.condition_fits types variables o ≡ true → fits.condition_fits more others o ≡ true
    condition_stays None h = refl
    condition_stays (Some e) h = has_type_stays Boolean e h

    -- what is given to formal parameters
    scalar_given_stays : (t : ScalarType) (a : ActualForm) → fits.is_scalar_given types variables t a ≡ true → fits.is_scalar_given more others t a ≡ true
    scalar_given_stays t (in_value e) h = has_type_stays t e h
    scalar_given_stays t in_null h = absurd (cc h)
    scalar_given_stays t (in_access path) h = absurd (cc h)
    scalar_given_stays t (in_out_path path) h =
        let typed = fits.has_type types variables t (reads path) in
        let alone = fits.stands_alone path.selectors in
        both_parts (fits.has_type more others t (reads path)) alone (has_type_stays t (reads path) (first_part typed alone h)) (second_part typed alone h)
    scalar_given_stays t (in_out_access path) h = absurd (cc h)
    scalar_given_stays t (in_record p) h = absurd (cc h)
    scalar_given_stays t (in_out_component path) h =
        let typed = fits.has_type types variables t (reads path) in
        let within = not (fits.stands_alone path.selectors) in
        both_parts (fits.has_type more others t (reads path)) within (has_type_stays t (reads path) (first_part typed within h)) (second_part typed within h)
    scalar_given_stays t (in_out_record p) h = absurd (cc h)

    access_named_stays : (access : ℕ) (path : PathForm) → fits.names_access types variables access path ≡ true → fits.names_access more others access path ≡ true
    access_named_stays access path h =
        let this = fits.is_this access (fits.path_access types variables path) in
        let owns = not (fits.names_borrower variables path) in
        let own : this ≡ true = first_part this owns h in
        both_parts (fits.is_this access (fits.path_access more others path)) (not (fits.names_borrower others path)) (moved_stays path access own)
        (ap (λ (b : Bool). not b) (moved_owns path access own) ∙ second_part this owns h)

    access_given_stays : (access : ℕ) (a : ActualForm) → fits.is_access_given types variables access a ≡ true → fits.is_access_given more others access a ≡ true
    access_given_stays access (in_value e) h = absurd (cc h)
    access_given_stays access in_null h = refl
    access_given_stays access (in_access path) h = access_named_stays access path h
    access_given_stays access (in_out_path path) h = absurd (cc h)
    access_given_stays access (in_out_access path) h =
        let own = fits.names_access types variables access path in
        let alone = fits.stands_alone path.selectors in
        both_parts (fits.names_access more others access path) alone (access_named_stays access path (first_part own alone h)) (second_part own alone h)
    access_given_stays access (in_record p) h = absurd (cc h)
    access_given_stays access (in_out_component path) h =
        let own = fits.names_access types variables access path in
        let within = not (fits.stands_alone path.selectors) in
        both_parts (fits.names_access more others access path) within (access_named_stays access path (first_part own within h)) (second_part own within h)
    access_given_stays access (in_out_record p) h = absurd (cc h)

    object_stays : (object t : ℕ) → fits.is_this t (fits.object_in (slice_get types object)) ≡ true → fits.is_this t (fits.object_in (slice_get more object)) ≡ true
    object_stays object t h = found_stays (slice_get types object) refl h
      where
        found_stays : (o : Option TypeForm) → slice_get types object ≡ o → fits.is_this t (fits.object_in o) ≡ true → fits.is_this t (fits.object_in (slice_get more object)) ≡ true
        found_stays None is h = absurd (cc h)
        found_stays (Some x) is h = ap (λ o. fits.is_this t o) (same_at types more ts (λ o. fits.object_in o) object_bare object x is) ∙ h

    record_named_stays : (object : ℕ) (p : RecordPathForm) → fits.names_record types variables object p ≡ true → fits.names_record more others object p ≡ true
    record_named_stays object p h =
        let leads = fits.is_record_path types variables p in
        let this = fits.is_this p.record_type (fits.object_in (slice_get types object)) in
        both_parts (fits.is_record_path more others p) (fits.is_this p.record_type (fits.object_in (slice_get more object)))
        (record_path_stays p (first_part leads this h)) (object_stays object p.record_type (second_part leads this h))

    record_given_stays : (object : ℕ) (a : ActualForm) → fits.is_record_given types variables object a ≡ true → fits.is_record_given more others object a ≡ true
    record_given_stays object (in_record p) h = record_named_stays object p h
    record_given_stays object (in_out_record p) h = record_named_stays object p h
    record_given_stays object a h = absurd (cc h)

    actual_stays : (kind : VariableKind) (a : ActualForm) → fits.actual_fits types variables kind a ≡ true → fits.actual_fits more others kind a ≡ true
    actual_stays variable.Integer a h = scalar_given_stays Integer a h
    actual_stays variable.Boolean a h = scalar_given_stays Boolean a h
    actual_stays (variable.Access access) a h = access_given_stays access.0 a h
    actual_stays (variable.Record object) a h = record_given_stays object.0 a h

    actuals_stay : (kinds : List VariableKind) (actuals : List ActualForm) → fits.actuals_fit types variables kinds actuals ≡ true → fits.actuals_fit more others kinds actuals ≡ true
    actuals_stay [] [] h = refl
    actuals_stay [] (a ∷ actuals) h = absurd (cc h)
    actuals_stay (k ∷ kinds) [] h = absurd (cc h)
    actuals_stay (k ∷ kinds) (a ∷ actuals) h =
        let own = fits.actual_fits types variables k a in
        let rest = fits.actuals_fit types variables kinds actuals in
        both_parts (fits.actual_fits more others k a) (fits.actuals_fit more others kinds actuals)
        (actual_stays k a (first_part own rest h)) (actuals_stay kinds actuals (second_part own rest h))

    call_stays : (o found : Option fits.Profile) (actuals : List ActualForm) → ((profile : fits.Profile) → o ≡ Some profile → found ≡ Some profile) → fits.suits_profile types variables o actuals ≡ true → fits.suits_profile more others found actuals ≡ true
    call_stays None found actuals w h = absurd (cc h)
    call_stays (Some profile) found actuals w h =
        let typed = fits.actuals_fit types variables profile.kinds actuals in
        let passed = fits.modes_fit profile.modes actuals in
        rw (w profile refl)
        (both_parts (fits.actuals_fit more others profile.kinds actuals) passed (actuals_stay profile.kinds actuals (first_part typed passed h)) (second_part typed passed h))

    -- statements, as texts and exceptions are added too
    module _ (texts longer exceptions raised : List (List ℕ)) (callable reachable : List fits.Profile) (room : length texts ≤ length longer) (declared : length exceptions ≤ length raised) (calls_stay : AreIn callable reachable) where
      exception_stays : (e : Exception) → fits.exception_fits exceptions e ≡ true → fits.exception_fits raised e ≡ true
      exception_stays exception.ConstraintError h = refl
      exception_stays exception.ProgramError h = refl
      exception_stays exception.StorageError h = refl
      exception_stays exception.EndError h = refl
      exception_stays (exception.Declared e) h =
          let there : e.0 < length exceptions = ltb-true e.0 (length exceptions) h in lt-ltb e.0 (length raised) (omega arith)

      choice_stays : (c : Choice) → fits.choice_fits exceptions c ≡ true → fits.choice_fits raised c ≡ true
      choice_stays (choice.Exception e) h = exception_stays e h
      choice_stays choice.Others h = refl

      pub choices_stay : (cs : List Choice) → list_all (fits.choice_fits exceptions) cs ≡ true → list_all (fits.choice_fits raised) cs ≡ true
      choices_stay cs h = all_weaker (fits.choice_fits exceptions) (fits.choice_fits raised) choice_stays cs h

      mutual
        pub statement_stays : (inside : Bool) (f : StmtForm) → fits.statement_fits types variables texts exceptions callable inside f ≡ true → fits.statement_fits more others longer raised reachable inside f ≡ true
        statement_stays inside skips h = refl
        statement_stays inside (assigns target s) h = assigned_stays target s h
        statement_stays inside (assigns_record target items) h =
            let leads = fits.is_record_path types variables target in
            let fit : Bool = fits.record_fits types variables target.record_type items in
            both_parts (fits.is_record_path more others target) (fits.record_fits more others target.record_type items)
            (record_path_stays target (first_part leads fit h)) (record_stays target.record_type items (second_part leads fit h))
        statement_stays inside (frees access path) h =
            let freed : Bool = fits.is_freed_by types access (fits.path_access types variables path) in
            let owns = not (fits.names_borrower variables path) in
            let own : freed ≡ true = first_part freed owns h in
            both_parts (fits.is_freed_by more access (fits.path_access more others path)) (not (fits.names_borrower others path))
            (freed_stays access path own) (freed_owns access path own (second_part freed owns h))
        statement_stays inside (gets target) h = integer_at (fits.path_kind types variables target) (fits.path_kind more others target) (λ k e. path_stays target k e) h
        statement_stays inside (writes e) h = has_type_stays Integer e h
        statement_stays inside (writes_text text) h =
            let there : text < length texts = ltb-true text (length texts) h in lt-ltb text (length longer) (omega arith)
        statement_stays inside (chooses branches) h = branches_stay inside branches h
        statement_stays inside (repeats condition fs end_spot) h =
            let front = fits.condition_fits types variables condition && fits.has_statement fs in
            let back = fits.stmts_fit types variables texts exceptions callable true fs in
            let both : front ≡ true = first_part front back h in
            both_parts (fits.condition_fits more others condition && fits.has_statement fs) (fits.stmts_fit more others longer raised reachable true fs)
            (both_parts (fits.condition_fits more others condition) (fits.has_statement fs)
            (condition_stays condition (first_part (fits.condition_fits types variables condition) (fits.has_statement fs) both))
            (second_part (fits.condition_fits types variables condition) (fits.has_statement fs) both))
            (stmts_stay true fs (second_part front back h))
        statement_stays inside (counts x low high fs end_spot) h =
            let held = fits.is_type Integer (fits.scalar_of (fits.variable_kind variables x)) in
            let low_is = fits.has_type types variables Integer low in
            let high_is = fits.has_type types variables Integer high in
            let back = fits.stmts_fit types variables texts exceptions callable true fs in
            let four : (held && low_is && high_is && fits.has_statement fs) ≡ true = first_part (held && low_is && high_is && fits.has_statement fs) back h in
            let three : (held && low_is && high_is) ≡ true = first_part (held && low_is && high_is) (fits.has_statement fs) four in
            let two : (held && low_is) ≡ true = first_part (held && low_is) high_is three in
            let held_now = fits.is_type Integer (fits.scalar_of (fits.variable_kind others x)) in
            let low_now = fits.has_type more others Integer low in
            let high_now = fits.has_type more others Integer high in
            both_parts (held_now && low_now && high_now && fits.has_statement fs) (fits.stmts_fit more others longer raised reachable true fs)
            (both_parts (held_now && low_now && high_now) (fits.has_statement fs)
            (both_parts (held_now && low_now) high_now
            (both_parts held_now low_now
            (integer_at (fits.variable_kind variables x) (fits.variable_kind others x) (λ k e. kind_stays x k e) (first_part held low_is two))
            (has_type_stays Integer low (second_part held low_is two)))
            (has_type_stays Integer high (second_part (held && low_is) high_is three)))
            (second_part (held && low_is && high_is) (fits.has_statement fs) four))
            (stmts_stay true fs (second_part (held && low_is && high_is && fits.has_statement fs) back h))
        statement_stays inside (exits condition spot) h =
            both_parts inside (fits.condition_fits more others condition) (first_part inside (fits.condition_fits types variables condition) h)
            (condition_stays condition (second_part inside (fits.condition_fits types variables condition) h))
        statement_stays inside (calls procedure actuals) h = call_stays (slice_get callable procedure) (slice_get reachable procedure) actuals (calls_stay procedure) h
        statement_stays inside (returns spot) h = refl
        statement_stays inside (raises e) h = exception_stays e h
        statement_stays inside (encloses ds fs hs) h =
            let part = fits.declarations_fit types variables ds in
            let own = fits.stmts_fit types variables texts exceptions callable inside fs in
            let handled = fits.handlers_fit types variables texts exceptions callable inside hs in
            let both : (part && own) ≡ true = first_part (part && own) handled h in
            both_parts (fits.declarations_fit more others ds && fits.stmts_fit more others longer raised reachable inside fs)
            (fits.handlers_fit more others longer raised reachable inside hs)
            (both_parts (fits.declarations_fit more others ds) (fits.stmts_fit more others longer raised reachable inside fs)
            (declarations_stay ds (first_part part own both)) (stmts_stay inside fs (second_part part own both)))
            (handlers_stay inside hs (second_part (part && own) handled h))

        pub stmts_stay : (inside : Bool) (fs : StmtsForm) → fits.stmts_fit types variables texts exceptions callable inside fs ≡ true → fits.stmts_fit more others longer raised reachable inside fs ≡ true
        stmts_stay inside no_stmts h = refl
        stmts_stay inside (a_stmt f fs) h =
            let one = fits.statement_fits types variables texts exceptions callable inside f in
            let rest = fits.stmts_fit types variables texts exceptions callable inside fs in
            both_parts (fits.statement_fits more others longer raised reachable inside f) (fits.stmts_fit more others longer raised reachable inside fs)
            (statement_stays inside f (first_part one rest h)) (stmts_stay inside fs (second_part one rest h))

        branches_stay : (inside : Bool) (bs : BranchesForm) → fits.branches_fit types variables texts exceptions callable inside bs ≡ true → fits.branches_fit more others longer raised reachable inside bs ≡ true
        branches_stay inside (otherwise fs) h = stmts_stay inside fs h
        branches_stay inside (a_branch e fs bs) h =
            let condition = fits.has_type types variables Boolean e in
            let own = fits.stmts_fit types variables texts exceptions callable inside fs in
            let rest = fits.branches_fit types variables texts exceptions callable inside bs in
            let both : (condition && own) ≡ true = first_part (condition && own) rest h in
            both_parts (fits.has_type more others Boolean e && fits.stmts_fit more others longer raised reachable inside fs)
            (fits.branches_fit more others longer raised reachable inside bs)
            (both_parts (fits.has_type more others Boolean e) (fits.stmts_fit more others longer raised reachable inside fs)
            (has_type_stays Boolean e (first_part condition own both)) (stmts_stay inside fs (second_part condition own both)))
            (branches_stay inside bs (second_part (condition && own) rest h))

        pub handlers_stay : (inside : Bool) (hs : HandlersForm) → fits.handlers_fit types variables texts exceptions callable inside hs ≡ true → fits.handlers_fit more others longer raised reachable inside hs ≡ true
        handlers_stay inside no_handlers h = refl
        handlers_stay inside (a_handler choices fs hs) h =
            let named = list_all (fits.choice_fits exceptions) choices in
            let own = fits.stmts_fit types variables texts exceptions callable inside fs in
            let rest = fits.handlers_fit types variables texts exceptions callable inside hs in
            let three : (named && fits.has_statement fs && own) ≡ true = first_part (named && fits.has_statement fs && own) rest h in
            let two : (named && fits.has_statement fs) ≡ true = first_part (named && fits.has_statement fs) own three in
            both_parts (list_all (fits.choice_fits raised) choices && fits.has_statement fs && fits.stmts_fit more others longer raised reachable inside fs)
            (fits.handlers_fit more others longer raised reachable inside hs)
            (both_parts (list_all (fits.choice_fits raised) choices && fits.has_statement fs) (fits.stmts_fit more others longer raised reachable inside fs)
            (both_parts (list_all (fits.choice_fits raised) choices) (fits.has_statement fs)
            (choices_stay choices (first_part named (fits.has_statement fs) two))
            (second_part named (fits.has_statement fs) two))
            (stmts_stay inside fs (second_part (named && fits.has_statement fs) own three)))
            (handlers_stay inside hs (second_part (named && fits.has_statement fs && own) rest h))
