-- Frugal bodies are of the shape of bodies that shun access types (3.10). They call such procedures alone; and where they use no value of some types, neither does
-- what they call, nor the start of what they allocate or declare, nor the end of what they free or declare (4.1, 4.8, 7.6, 7.6.1, 13.11.2).

use Rattle.std.proofs.Common.{◌≡◌, ℕ, Bool, true, false, not, ◌==◌, ◌&&◌, ◌||◌, if◌then◌else◌, List, [], ◌∷◌, length, Option, Some, None, refl, sym, subst, inl, inr}
use Rattle.std.specs.Prelude.{nat_lt, is_some}
use Rattle.std.specs.List.{list_all, slice_index_or}
use Rattle.std.proofs.lemmas.Bool.{and_from, and_parts, eqb-true, or_cases, or_left, or_parts, or_right}
use Rattle.ada_effects.specs.Effects.{record_path_raises}
use Rattle.ada_program.specs.declared.program.Finalization.{Finalization}
use Rattle.ada_program.specs.declared.program.ScalarType.TheVariants.{Integer, Boolean}
use Rattle.ada_program.specs.declared.program.VariableKind.{VariableKind}
use Rattle.ada_program.specs.declared.program.VariableKind.TheVariants as variable
use Rattle.ada_program.specs.Form.{PathForm, RecordPathForm, ActualForm, in_value, in_null, in_access, in_record, in_out_path, in_out_access, in_out_component, in_out_record, ExpressionForm, integer, boolean, reads, is_null, applied_to, chained, LinksForm, no_more_links, a_link, ItemForm, null_item, item_of_path, item_of_value, item_of_record, RightForm, nothing, value_of, allocates, allocates_default, computes, DeclarationForm, creates_pool, collects, declares, declares_record, StmtForm, skips, assigns, assigns_record, frees, gets, writes, writes_text, chooses, repeats, counts, exits, calls, returns, raises, encloses, StmtsForm, no_stmts, a_stmt, BranchesForm, otherwise, a_branch, HandlersForm, no_handlers, a_handler}
use Rattle.ada_program.specs.ProgramForm.{TypeForm, VariableForm, BodyForm, ProgramForm, seen_by}
use Rattle.ada_program.specs.WellFormed.{Profile, callable_in, choice_fits, collection_fits, collections_first, condition_fits, copies_whole, declarations_fit, designated_type, finalization_of, has_statement, has_type, initial_fits, item_before, item_owns, is_borrower, is_copy, is_filled, is_record_object, is_type, lends_to, names_before, names_borrower, object_fits, object_named, path_kind, record_components, record_initial_fits, right_fits, scalar_of, selected_kind, statement_fits, stmts_fit, branches_fit, handlers_fit, type_fits, value_access, variable_fits, variable_kind}
use Rattle.ada_quiet.specs.Bare.{has_bare_objects}
use Rattle.ada_quiet.specs.Idle.{has_parts, holds_parts}
use Rattle.ada_quiet.specs.Apart.{is_bare_item, leave_access}
use Rattle.ada_quiet.specs.Calm.{is_known_calm, unadjusted_types}
use Rattle.ada_quiet.proofs.FrugalAt.{thrift_at}
use Rattle.ada_quiet.specs.Frugal.{assigns_at_hand, is_formal, allocates_frugally, is_bare_initial, is_copied_initial, is_unadjusted, is_unadjusted_named, is_unadjusted_initial, frugal_procedures, is_frugal_declaration, are_frugal_declarations, is_frugal_stmt, are_frugal, are_frugal_branches, are_frugal_handlers, is_frugal_body, is_inert, is_copied}
use Rattle.ada_deeds.specs.declared.deed.Callee.{Callee}
use Rattle.ada_deeds.specs.declared.deed.Callee.TheVariants as callee
use Rattle.ada_deeds.specs.declared.deed.Deed.{Deed}
use Rattle.ada_deeds.specs.declared.deed.Deed.TheVariants as deed
use Rattle.ada_deeds.specs.declared.deed.Operation.TheVariants.{Initialize, Adjust, Finalize}
use Rattle.ada_deeds.specs.Forms.{path_does, record_path_does, item_does, items_do, expression_does, condition_does, actuals_do, allocation_does, freeing_does, is_left, procedure_does, parts_do, creation_does, designated_by, right_does, declaration_does, declarations_do, ending_does, leaving_does, stmt_does, stmts_do, branches_do, handlers_do, body_does}
use Rattle.ada_deeds.specs.Implicit.{record_at}
use Rattle.ada_deeds.specs.Within.{does_by}
use Rattle.ada_deeds.proofs.Naming.{KindFits, access_at, default_access, left_holds, object_at, object_type, path_fits_kind, right_holds, variable_fits_kind}
use Rattle.ada_reaching.specs.Apart.{Apart}
use Rattle.ada_reaching.specs.Forms.{may_assign, may_copy_named, may_replace, may_fill, may_follow, may_end, selectors_shun, path_shuns, record_path_shuns, expression_shuns, links_shun, condition_shuns, item_shuns, right_shuns, actual_shuns, declaration_shuns, declarations_shun, statement_shuns, statements_shun, branches_shun, handlers_shun, body_shuns}
use Rattle.ada_typed.proofs.Bodies.{SeenFits}

-- Frugal bodies are of the shape of bodies that shun types.

-- Where no type is shunned, each value may be followed,
pub all_may : (kind : Option VariableKind) → may_follow (λ t. false) kind ≡ true
all_may None = refl
all_may (Some variable.Integer) = refl
all_may (Some variable.Boolean) = refl
all_may (Some (variable.Access access)) = refl
all_may (Some (variable.Record object)) = refl

-- and selectors follow none that is shunned.
selectors_shaped : (types : List TypeForm) (kind : Option VariableKind) (cs : List ℕ) → selectors_shun types (λ t. false) kind cs ≡ true
selectors_shaped types kind [] = refl
selectors_shaped types kind (c ∷ cs) =
    let behind = selected_kind types kind c in
    and_from (may_follow (λ t. false) kind) (selectors_shun types (λ t. false) behind cs) (all_may kind) (selectors_shaped types behind cs)

-- What holds of each element holds of all.
pub all_so : {A : Type 0} (test : A → Bool) → ((x : A) → test x ≡ true) → (xs : List A) → list_all test xs ≡ true
all_so test so [] = refl
all_so test so (x ∷ xs) = and_from (test x) (list_all test xs) (so x) (all_so test so xs)

-- Whatever a body evaluates has the shape.
module _ (types : List TypeForm) (apart : Apart) (variables : List VariableForm) where
  -- So has a path (4.1),
  pub path_shaped : (path : PathForm) → path_shuns types (λ t. false) apart variables path ≡ true
  path_shaped path = selectors_shaped types (variable_kind variables path.root) path.selectors

  -- and the way to a record,
  record_path_shaped : (q : RecordPathForm) → record_path_shuns types (λ t. false) apart variables q ≡ true
  record_path_shaped q =
      and_from (path_shuns types (λ t. false) apart variables q.object) (may_follow (λ t. false) (path_kind types variables q.object)) (path_shaped q.object)
      (all_may (path_kind types variables q.object))

  mutual
    -- an expression (4.4)
    pub expression_shaped : (e : ExpressionForm) → expression_shuns types (λ t. false) apart variables e ≡ true
    expression_shaped (integer i) = refl
    expression_shaped (boolean b) = refl
    expression_shaped (reads path) = path_shaped path
    expression_shaped (is_null equal path) = path_shaped path
    expression_shaped (applied_to operator e) = expression_shaped e
    expression_shaped (chained e links) =
        and_from (expression_shuns types (λ t. false) apart variables e) (links_shun types (λ t. false) apart variables links) (expression_shaped e)
        (links_shaped links)

    -- and right operands,
    links_shaped : (links : LinksForm) → links_shun types (λ t. false) apart variables links ≡ true
    links_shaped no_more_links = refl
    links_shaped (a_link operator e links) =
        and_from (expression_shuns types (λ t. false) apart variables e) (links_shun types (λ t. false) apart variables links) (expression_shaped e)
        (links_shaped links)

  -- a condition, where there is one,
  pub condition_shaped : (condition : Option ExpressionForm) → condition_shuns types (λ t. false) apart variables condition ≡ true
  condition_shaped None = refl
  condition_shaped (Some e) = expression_shaped e

  -- an item (4.3.1)
  pub item_shaped : (i : ItemForm) → item_shuns types (λ t. false) apart variables i ≡ true
  item_shaped null_item = refl
  item_shaped (item_of_path path) = path_shaped path
  item_shaped (item_of_value e) = expression_shaped e
  item_shaped (item_of_record q) = record_path_shaped q

  -- and an actual parameter (6.4.1).
  actual_shaped : (a : ActualForm) → actual_shuns types (λ t. false) apart variables a ≡ true
  actual_shaped (in_value e) = expression_shaped e
  actual_shaped in_null = refl
  actual_shaped (in_access path) = path_shaped path
  actual_shaped (in_record q) = record_path_shaped q
  actual_shaped (in_out_path path) = path_shaped path
  actual_shaped (in_out_access path) = path_shaped path
  actual_shaped (in_out_component path) = path_shaped path
  actual_shaped (in_out_record q) = record_path_shaped q

-- What procedures do.

-- A value of an access type is freed (13.11.2),
abbrev pub freeing : (access : ℕ) → Deed
freeing u = deed.Frees (record { 0 = u })

-- or followed (4.1).
abbrev pub following : (access : ℕ) → Deed
following u = deed.Follows (record { 0 = u })

-- A procedure that may do so, by its number.
abbrev pub calling : (procedure : ℕ) → Callee
calling n = callee.Procedure (record { 0 = n })

-- A deed is a use of one of these types of the program: a value of it is freed or followed.
abbrev pub is_use : ProgramForm → (shuns : ℕ → Bool) → Deed → Bool
is_use p shuns (deed.Raises e) = false
is_use p shuns (deed.Frees t) = shuns t.0 && nat_lt t.0 (length p.types)
is_use p shuns (deed.Follows t) = shuns t.0 && nat_lt t.0 (length p.types)
is_use p shuns deed.Allocates = false
is_use p shuns deed.Calls = false

-- What is done is no use of them.
abbrev pub Spares : ProgramForm → (shuns : ℕ → Bool) → (done : Deed → Bool) → Type 0
Spares p shuns done = (d : Deed) → is_use p shuns d ≡ true → done d ≡ false

module _ (p : ProgramForm) (shuns : ℕ → Bool) where
  -- Where neither of two is a use, the first one is not,
  pub first : (a b : Deed → Bool) → Spares p shuns (λ d. a d || b d) → Spares p shuns a
  first a b spares d is = (or_parts (a d) (b d) (spares d is)).0

  -- and neither is the second one.
  pub second : (a b : Deed → Bool) → Spares p shuns (λ d. a d || b d) → Spares p shuns b
  second a b spares d is = (or_parts (a d) (b d) (spares d is)).1

  -- Handlers take no use from what statements do (11.4).
  left_spares : (hs : HandlersForm) (done : Deed → Bool) → Spares p shuns (λ d. is_left hs d && done d) → Spares p shuns done
  left_spares hs done spares (deed.Raises e) is = absurd (cc is)
  left_spares hs done spares (deed.Frees t) is = spares (deed.Frees t) is
  left_spares hs done spares (deed.Follows t) is = spares (deed.Follows t) is
  left_spares hs done spares deed.Allocates is = absurd (cc is)
  left_spares hs done spares deed.Calls is = absurd (cc is)

  -- Each such procedure of which a call is no use may be called,
  abbrev pub CallsFrugal : Apart → Type 0
  CallsFrugal apart =
      (n : ℕ) → slice_index_or (frugal_procedures p) n false ≡ true → Spares p shuns (λ d. procedure_does (does_by p d) n) → apart.calls n ≡ true

  -- objects of each type may end whose end is no use (7.6.1),
  abbrev pub EndsSpared : Apart → Type 0
  EndsSpared apart = (t : ℕ) → Spares p shuns (λ d. parts_do (does_by p d) Finalize (record_at p.types t)) → apart.ends t ≡ true

  -- and those of each type may start of which neither the start nor the end is a use: where an exception comes out of the start, what has begun ends (7.6).
  abbrev pub StartsSpared : Apart → Type 0
  StartsSpared apart = (t : ℕ) → Spares p shuns (λ d. creation_does (does_by p d) (record_at p.types t)) → apart.starts t ≡ true

  -- records of each type may end to which others are assigned, where their end is no use,
  abbrev pub AssignsSpared : Apart → Type 0
  AssignsSpared apart =
      (t : ℕ) (f : Finalization) → finalization_of p.types t ≡ Some f → Spares p shuns (λ d. parts_do (does_by p d) Finalize (Some t)) → apart.assigns t ≡ true

  -- and those of each type may get their values from others, if it overrides no Adjust.
  abbrev pub CopiesInert : Apart → Type 0
  CopiesInert apart = (t : ℕ) → is_known_calm (unadjusted_types p.types) (finalization_of p.types t) ≡ true → apart.copies t ≡ true

  -- Those of each type may get their values from others whose adjustment is no use, where no Adjust tracks.
  abbrev pub CopiesSpared : Apart → Type 0
  CopiesSpared apart =
      leave_access p.types ≡ true → (t : ℕ) → Spares p shuns (λ d. parts_do (does_by p d) Adjust (Some t)) → apart.copies t ≡ true

  -- So it is with those that a body of a well-formed program goes by.
  module _
      (apart : Apart) (marked : CallsFrugal apart) (ended : EndsSpared apart) (started : StartsSpared apart) (overwritten : AssignsSpared apart) (quietly : CopiesInert apart) (copied : CopiesSpared apart)
      (types_fit : list_all (type_fits p.types) p.types ≡ true) (variables : List VariableForm)
      (variables_fit : list_all (variable_fits p.types) variables ≡ true) (texts exceptions : List (List ℕ)) (callable : List Profile) where
    -- What a value names may be freed, where its end is no use.
    kind_ended :
        (kind : Option VariableKind) → KindFits p.types kind → Spares p shuns (λ d. parts_do (does_by p d) Finalize (designated_by p.types (value_access kind)))
        → may_end apart kind ≡ true
    kind_ended None fits spares = refl
    kind_ended (Some variable.Integer) fits spares = refl
    kind_ended (Some variable.Boolean) fits spares = refl
    kind_ended (Some (variable.Access access)) fits spares =
        ended access.0
        (subst (λ (o : Option ℕ). Spares p shuns (λ d. parts_do (does_by p d) Finalize o)) (sym (access_at p.types access.0 fits)) spares)
    kind_ended (Some (variable.Record object)) fits spares = refl

    -- What is assigned has the shape: what is allocated has no controlled parts, or is initialized by default, and that is no use (5.2, 4.8, 7.6).
    right_shaped :
        (kind : Option VariableKind) (right : RightForm) → KindFits p.types kind → right_fits p.types variables kind right ≡ true
        → allocates_frugally (thrift_at p) right ≡ true → Spares p shuns (λ d. right_does p.types variables (does_by p d) d right)
        → right_shuns p.types (λ t. false) apart variables right ≡ true
    right_shaped kind nothing known fits is spares = refl
    right_shaped kind (value_of path) known fits is spares = path_shaped p.types apart variables path
    right_shaped kind (allocates access items) known fits is spares =
        let test = item_shuns p.types (λ t. false) apart variables in
        and_from (has_bare_objects p.types access) (list_all test items) is (all_so test (item_shaped p.types apart variables) items)
    right_shaped kind (allocates_default access) known fits is spares =
        let same = access_at p.types access (default_access p.types types_fit variables variables_fit kind access known fits) in
        let created = second allocation_does (λ (d : Deed). creation_does (does_by p d) (designated_type p.types access)) spares in
        or_right (has_bare_objects p.types access) (apart.starts access)
        (started access (subst (λ (o : Option ℕ). Spares p shuns (λ d. creation_does (does_by p d) o)) (sym same) created))
    right_shaped kind (computes e) known fits is spares = expression_shaped p.types apart variables e

    -- Records of a type that is known to override no Adjust may get their values from others.
    named_shaped : (o : Option ℕ) → is_unadjusted_named (thrift_at p) o ≡ true → may_copy_named apart o ≡ true
    named_shaped None is = absurd (cc is)
    named_shaped (Some t) is = quietly t is

    -- A record that is the one item of a copy of its type is adjusted so (4.3.1, 7.6).
    copy_spares :
        (t : ℕ) (items : List ItemForm) → is_copy t items ≡ true → Spares p shuns (λ d. items_do p.types variables (does_by p d) d items)
        → Spares p shuns (λ d. parts_do (does_by p d) Adjust (Some t))
    copy_spares t [] is spares = absurd (cc is)
    copy_spares t (null_item ∷ items) is spares = absurd (cc is)
    copy_spares t (item_of_path path ∷ items) is spares = absurd (cc is)
    copy_spares t (item_of_value e ∷ items) is spares = absurd (cc is)
    copy_spares t (item_of_record q ∷ items) is spares =
        let one = λ (d : Deed). item_does p.types variables (does_by p d) d (item_of_record q) in
        let more = λ (d : Deed). items_do p.types variables (does_by p d) d items in
        let found = λ (d : Deed). record_path_does p.types variables d q in
        let adjusted = λ (d : Deed). parts_do (does_by p d) Adjust (Some q.record_type) in
        let same : q.record_type ≡ t = eqb-true q.record_type t (left_holds (q.record_type == t) (length items == 0) is) in
        subst (λ (u : ℕ). Spares p shuns (λ d. parts_do (does_by p d) Adjust (Some u))) same (second found adjusted (first one more spares))

    -- Where no Adjust tracks, a record object may get its initial value, if it has no controlled parts, or its adjustment is no use.
    untracked_shaped :
        (object : ℕ) (items : List ItemForm) (o : Option ℕ) → object_fits p.types variables o items ≡ true → leave_access p.types ≡ true → apart.ends object ≡ true
        → Spares p shuns (λ d. items_do p.types variables (does_by p d) d items) → (not (has_parts p.types o) || (apart.ends object && may_copy_named apart o)) ≡ true
    untracked_shaped object items None fits none ends spares = refl
    untracked_shaped object items (Some t) fits none ends spares =
        by (finalization_of p.types t)
        (right_holds (is_filled p.types variables (record_components p.types t) items && list_all (item_owns variables) items)
        (copies_whole t (finalization_of p.types t) items) fits)
      where
        by : (f : Option Finalization) → copies_whole t f items ≡ true → (not (is_some f) || (apart.ends object && apart.copies t)) ≡ true
        by None whole = refl
        by (Some f) whole =
            and_from (apart.ends object) (apart.copies t) ends
            (copied none t (copy_spares t items (right_holds (not f.limited) (is_copy t items) whole) spares))

    -- A declaration has it (3.3.1): that of a variable,
    declaration_shaped :
        (c : DeclarationForm) → initial_fits p.types variables c ≡ true → is_frugal_declaration (thrift_at p) c ≡ true
        → Spares p shuns (λ d. declaration_does p.types variables (does_by p d) d c) → Spares p shuns (λ d. ending_does p.types (does_by p d) c)
        → declaration_shuns p.types (λ t. false) apart variables c ≡ true
    declaration_shaped (creates_pool pool) fits is spares ends = absurd (cc is)
    declaration_shaped (collects access) fits is spares ends = absurd (cc is)
    declaration_shaped (declares x right) fits is spares ends =
        let kind = variable_kind variables x in
        let before = names_before x right in
        let takes = right_fits p.types variables kind right in
        right_shaped kind right (variable_fits_kind p.types types_fit variables variables_fit x)
        (right_holds before takes (left_holds (before && takes) (lends_to variables (is_borrower variables x) right) fits)) is spares
    -- and that of a record object, which is known by its own type, and starts by default.
    declaration_shaped (declares_record x object None) fits is spares ends =
        let kind = variable_kind variables x in
        let known =
        left_holds (is_record_object object kind) (record_initial_fits p.types variables x (object_named p.types (Some object)) None) fits in
        let held = variable_fits_kind p.types types_fit variables variables_fit x in
        let same = object_at p.types object (object_type p.types types_fit variables variables_fit kind object held known) in
        let created = subst (λ (o : Option ℕ). Spares p shuns (λ d. creation_does (does_by p d) o)) (sym same) spares in
        let begun = λ (d : Deed). parts_do (does_by p d) Initialize (record_at p.types object) in
        let undone = λ (d : Deed). parts_do (does_by p d) Finalize (record_at p.types object) in
        and_from (apart.starts object) (apart.ends object) (started object created) (ended object (second begun undone created))
    -- One without controlled parts starts with what its items are, and so does one of a type that overrides no Adjust, or of any, where none tracks, which ends
    -- where its master is left.
    declaration_shaped (declares_record x object (Some items)) fits is spares ends =
        let test = item_shuns p.types (λ t. false) apart variables in
        let bare = not (holds_parts p.types object) in
        let named = may_copy_named apart (object_named p.types (Some object)) in
        let kind = variable_kind variables x in
        let known =
        left_holds (is_record_object object kind) (record_initial_fits p.types variables x (object_named p.types (Some object)) (Some items)) fits in
        let held = variable_fits_kind p.types types_fit variables variables_fit x in
        let same = object_at p.types object (object_type p.types types_fit variables variables_fit kind object held known) in
        let left = subst (λ (o : Option ℕ). Spares p shuns (λ d. parts_do (does_by p d) Finalize o)) (sym same) ends in
        and_from (may_fill p.types apart object) (list_all test items)
        (elim (or_cases (is_bare_initial p.types object items) (is_copied_initial (thrift_at p) object) is) [
          | inl bare_so ↦ or_left bare (apart.ends object && named) (and_parts bare (list_all (is_bare_item p.types) items) bare_so).0
          | inr copied_so ↦ elim (or_cases (leave_access p.types) (is_unadjusted_initial (thrift_at p) object) copied_so) [
            | inl none ↦
                let filled = right_holds (list_all (item_before x) items) (object_fits p.types variables (object_named p.types (Some object)) items)
                (right_holds (is_record_object object kind) (record_initial_fits p.types variables x (object_named p.types (Some object)) (Some items)) fits) in
                untracked_shaped object items (object_named p.types (Some object)) filled none (ended object left) spares
            | inr unadjusted ↦
                or_right bare (apart.ends object && named)
                (and_from (apart.ends object) named (ended object left) (named_shaped (object_named p.types (Some object)) unadjusted))
          ]
        ])
        (all_so test (item_shaped p.types apart variables) items)

    -- So have all declarations of such a body.
    declarations_shaped :
        (cs : List DeclarationForm) → list_all (initial_fits p.types variables) cs ≡ true → are_frugal_declarations (thrift_at p) cs ≡ true
        → Spares p shuns (λ d. declarations_do p.types variables (does_by p d) d cs) → Spares p shuns (λ d. leaving_does p.types (does_by p d) cs)
        → declarations_shun p.types (λ t. false) apart variables cs ≡ true
    declarations_shaped [] fits is spares ends = refl
    declarations_shaped (c ∷ cs) fits is spares ends =
        let both = and_parts (is_frugal_declaration (thrift_at p) c) (are_frugal_declarations (thrift_at p) cs) is in
        let fit = and_parts (initial_fits p.types variables c) (list_all (initial_fits p.types variables) cs) fits in
        let one = λ (d : Deed). declaration_does p.types variables (does_by p d) d c in
        let more = λ (d : Deed). declarations_do p.types variables (does_by p d) d cs in
        let one_ends = λ (d : Deed). ending_does p.types (does_by p d) c in
        let more_end = λ (d : Deed). leaving_does p.types (does_by p d) cs in
        and_from (declaration_shuns p.types (λ t. false) apart variables c) (declarations_shun p.types (λ t. false) apart variables cs)
        (declaration_shaped c fit.0 both.0 (first one more spares) (first one_ends more_end ends))
        (declarations_shaped cs fit.1 both.1 (second one more spares) (second one_ends more_end ends))

    -- A block, or a body: what it declares, its statements and its handlers.
    abbrev master_does : List DeclarationForm → StmtsForm → HandlersForm → Deed → Bool
    master_does ds fs hs d =
        declarations_do p.types variables (does_by p d) d ds || (is_left hs d && stmts_do p.types variables (does_by p d) d fs)
        || handlers_do p.types variables (does_by p d) d hs || leaving_does p.types (does_by p d) ds

    -- It has the shape,
    abbrev master_shuns : List DeclarationForm → StmtsForm → HandlersForm → Bool
    master_shuns ds fs hs =
        declarations_shun p.types (λ t. false) apart variables ds && statements_shun p.types (λ t. false) apart variables fs
        && handlers_shun p.types (λ t. false) apart variables hs

    -- where its statements and its handlers have it.
    master_shaped :
        (ds : List DeclarationForm) (fs : StmtsForm) (hs : HandlersForm) → list_all (initial_fits p.types variables) ds ≡ true
        → (are_frugal (thrift_at p) fs ≡ true → Spares p shuns (λ d. stmts_do p.types variables (does_by p d) d fs)
        → statements_shun p.types (λ t. false) apart variables fs ≡ true)
        → (are_frugal_handlers (thrift_at p) hs ≡ true → Spares p shuns (λ d. handlers_do p.types variables (does_by p d) d hs)
        → handlers_shun p.types (λ t. false) apart variables hs ≡ true)
        → (are_frugal_declarations (thrift_at p) ds && are_frugal (thrift_at p) fs && are_frugal_handlers (thrift_at p) hs) ≡ true
        → Spares p shuns (master_does ds fs hs) → master_shuns ds fs hs ≡ true
    master_shaped ds fs hs fit within behind frugal spares =
        let begun = are_frugal_declarations (thrift_at p) ds in
        let parts = and_parts (begun && are_frugal (thrift_at p) fs) (are_frugal_handlers (thrift_at p) hs) frugal in
        let inner = and_parts begun (are_frugal (thrift_at p) fs) parts.0 in
        let declared = λ (d : Deed). declarations_do p.types variables (does_by p d) d ds in
        let inside = λ (d : Deed). stmts_do p.types variables (does_by p d) d fs in
        let left = λ (d : Deed). is_left hs d && inside d in
        let handled = λ (d : Deed). handlers_do p.types variables (does_by p d) d hs in
        let ended = λ (d : Deed). leaving_does p.types (does_by p d) ds in
        let three = first (λ d. declared d || left d || handled d) ended spares in
        let two = first (λ d. declared d || left d) handled three in
        and_from (declarations_shun p.types (λ t. false) apart variables ds && statements_shun p.types (λ t. false) apart variables fs)
        (handlers_shun p.types (λ t. false) apart variables hs)
        (and_from (declarations_shun p.types (λ t. false) apart variables ds) (statements_shun p.types (λ t. false) apart variables fs)
        (declarations_shaped ds fit inner.0 (first declared left two) (second (λ d. declared d || left d || handled d) ended spares)) (within inner.1 (left_spares hs inside (second declared left two))))
        (behind parts.1 (second (λ d. declared d || left d) handled three))

    mutual
      -- A frugal statement has the shape, where what it does is no use,
      statement_shaped :
          (inside : Bool) (f : StmtForm) → statement_fits p.types variables texts exceptions callable inside f ≡ true → is_frugal_stmt (thrift_at p) f ≡ true
          → Spares p shuns (λ d. stmt_does p.types variables (does_by p d) d f) → statement_shuns p.types (λ t. false) apart variables f ≡ true
      statement_shaped inside skips fits frugal spares = refl
      statement_shaped inside (assigns target right) fits frugal spares =
          let kind = path_kind p.types variables target in
          let evaluated = λ (d : Deed). path_does p.types variables d target in
          let assigned = λ (d : Deed). right_does p.types variables (does_by p d) d right in
          let taken = left_holds (right_fits p.types variables kind right) (lends_to variables (names_borrower variables target) right) fits in
          and_from (path_shuns p.types (λ t. false) apart variables target) (right_shuns p.types (λ t. false) apart variables right)
          (path_shaped p.types apart variables target)
          (right_shaped kind right (path_fits_kind p.types types_fit variables variables_fit target) taken frugal (second evaluated assigned spares))
      statement_shaped inside (assigns_record target items) fits frugal spares =
          let leads = record_path_shuns p.types (λ t. false) apart variables target in
          let test = item_shuns p.types (λ t. false) apart variables in
          and_from (leads && list_all test items) (may_assign p.types apart target.record_type)
          (and_from leads (list_all test items) (record_path_shaped p.types apart variables target)
          (all_so test (item_shaped p.types apart variables) items))
          (assigned (finalization_of p.types target.record_type) refl frugal)
        where
          -- A record is of a type without controlled parts, or of one for which no Adjust is called, and whose end is no use.
          assigned :
              (f : Option Finalization) → finalization_of p.types target.record_type ≡ f
              → (if is_some f then assigns_at_hand (thrift_at p) target else list_all (is_bare_item p.types) items) ≡ true
              → (not (is_some f) || may_replace apart target.record_type) ≡ true
          assigned None is h = refl
          assigned (Some f) is h =
              let t = target.record_type in
              let known = is_copied (thrift_at p) t in
              let near = not (record_path_raises target) in
              let three =
              and_parts (known && near) (not (is_formal (thrift_at p) target.object.root) || (true && is_inert (thrift_at p) t && not (target.part == 0))) h in
              let two = and_parts known near three.0 in
              let adjusted = λ (d : Deed). parts_do (does_by p d) Adjust (Some t) in
              let ended_so = λ (d : Deed). parts_do (does_by p d) Finalize (Some t) in
              let evaluated = λ (d : Deed). record_path_does p.types variables d target || items_do p.types variables (does_by p d) d items in
              and_from (apart.assigns t) (apart.copies t)
              (overwritten t f is (second adjusted ended_so (second evaluated (λ d. adjusted d || ended_so d) spares)))
              (elim (or_cases (leave_access p.types) (is_unadjusted (thrift_at p) t) two.0) [
                | inl none ↦ copied none t (first adjusted ended_so (second evaluated (λ d. adjusted d || ended_so d) spares))
                | inr calm ↦ quietly t calm
              ])
      statement_shaped inside (frees access path) fits frugal spares =
          let leads = path_shuns p.types (λ t. false) apart variables path in
          let kind = path_kind p.types variables path in
          let named = λ (d : Deed). path_does p.types variables d path || freeing_does d (value_access kind) in
          let finalized = λ (d : Deed). parts_do (does_by p d) Finalize (designated_by p.types (value_access kind)) in
          and_from (leads && may_follow (λ t. false) kind) (may_end apart kind)
          (and_from leads (may_follow (λ t. false) kind) (path_shaped p.types apart variables path) (all_may kind))
          (kind_ended kind (path_fits_kind p.types types_fit variables variables_fit path) (second named finalized spares))
      statement_shaped inside (gets target) fits frugal spares = path_shaped p.types apart variables target
      statement_shaped inside (writes e) fits frugal spares = expression_shaped p.types apart variables e
      statement_shaped inside (writes_text text) fits frugal spares = refl
      statement_shaped inside (chooses branches) fits frugal spares = branches_shaped inside branches fits frugal spares
      statement_shaped inside (repeats condition fs spot) fits frugal spares =
          let tested = λ (d : Deed). condition_does p.types variables d condition in
          let does = λ (d : Deed). stmts_do p.types variables (does_by p d) d fs in
          let within = stmts_fit p.types variables texts exceptions callable true fs in
          and_from (condition_shuns p.types (λ t. false) apart variables condition) (statements_shun p.types (λ t. false) apart variables fs)
          (condition_shaped p.types apart variables condition)
          (statements_shaped true fs (right_holds (condition_fits p.types variables condition && has_statement fs) within fits) frugal
          (second tested does spares))
      statement_shaped inside (counts x low high fs spot) fits frugal spares =
          let from = expression_shuns p.types (λ t. false) apart variables low in
          let to = expression_shuns p.types (λ t. false) apart variables high in
          let range = λ (d : Deed). expression_does p.types variables d low || expression_does p.types variables d high in
          let does = λ (d : Deed). stmts_do p.types variables (does_by p d) d fs in
          let within = stmts_fit p.types variables texts exceptions callable true fs in
          let head =
          is_type Integer (scalar_of (variable_kind variables x)) && has_type p.types variables Integer low && has_type p.types variables Integer high
          && has_statement fs in
          and_from (from && to) (statements_shun p.types (λ t. false) apart variables fs)
          (and_from from to (expression_shaped p.types apart variables low) (expression_shaped p.types apart variables high))
          (statements_shaped true fs (right_holds head within fits) frugal (second range does spares))
      statement_shaped inside (exits condition spot) fits frugal spares = condition_shaped p.types apart variables condition
      statement_shaped inside (calls procedure actuals) fits frugal spares =
          let given = λ (d : Deed). actuals_do p.types variables d actuals in
          let called = λ (d : Deed). procedure_does (does_by p d) procedure in
          let test = actual_shuns p.types (λ t. false) apart variables in
          and_from (list_all test actuals) (apart.calls procedure) (all_so test (actual_shaped p.types apart variables) actuals)
          (marked procedure frugal (second given called spares))
      statement_shaped inside (returns spot) fits frugal spares = refl
      statement_shaped inside (raises e) fits frugal spares = refl
      statement_shaped inside (encloses ds fs hs) fits frugal spares =
          let declared = declarations_fit p.types variables ds in
          let stated = stmts_fit p.types variables texts exceptions callable inside fs in
          let handled = handlers_fit p.types variables texts exceptions callable inside hs in
          let two = and_parts (declared && stated) handled fits in
          let one = and_parts declared stated two.0 in
          let before = collections_first ds && list_all (collection_fits p.types) ds in
          master_shaped ds fs hs (right_holds before (list_all (initial_fits p.types variables) ds) one.0) (statements_shaped inside fs one.1)
          (handlers_shaped inside hs two.1) frugal spares

      -- and so have statements,
      statements_shaped :
          (inside : Bool) (fs : StmtsForm) → stmts_fit p.types variables texts exceptions callable inside fs ≡ true → are_frugal (thrift_at p) fs ≡ true
          → Spares p shuns (λ d. stmts_do p.types variables (does_by p d) d fs) → statements_shun p.types (λ t. false) apart variables fs ≡ true
      statements_shaped inside no_stmts fits frugal spares = refl
      statements_shaped inside (a_stmt f fs) fits frugal spares =
          let both = and_parts (is_frugal_stmt (thrift_at p) f) (are_frugal (thrift_at p) fs) frugal in
          let here = statement_fits p.types variables texts exceptions callable inside f in
          let fit = and_parts here (stmts_fit p.types variables texts exceptions callable inside fs) fits in
          let one = λ (d : Deed). stmt_does p.types variables (does_by p d) d f in
          let more = λ (d : Deed). stmts_do p.types variables (does_by p d) d fs in
          and_from (statement_shuns p.types (λ t. false) apart variables f) (statements_shun p.types (λ t. false) apart variables fs)
          (statement_shaped inside f fit.0 both.0 (first one more spares)) (statements_shaped inside fs fit.1 both.1 (second one more spares))

      -- branches (5.3)
      branches_shaped :
          (inside : Bool) (branches : BranchesForm) → branches_fit p.types variables texts exceptions callable inside branches ≡ true
          → are_frugal_branches (thrift_at p) branches ≡ true → Spares p shuns (λ d. branches_do p.types variables (does_by p d) d branches)
          → branches_shun p.types (λ t. false) apart variables branches ≡ true
      branches_shaped inside (otherwise fs) fits frugal spares = statements_shaped inside fs fits frugal spares
      branches_shaped inside (a_branch e fs branches) fits frugal spares =
          let both = and_parts (are_frugal (thrift_at p) fs) (are_frugal_branches (thrift_at p) branches) frugal in
          let typed = has_type p.types variables Boolean e in
          let stated = stmts_fit p.types variables texts exceptions callable inside fs in
          let later = and_parts (typed && stated) (branches_fit p.types variables texts exceptions callable inside branches) fits in
          let tested = λ (d : Deed). expression_does p.types variables d e in
          let does = λ (d : Deed). stmts_do p.types variables (does_by p d) d fs in
          let more = λ (d : Deed). branches_do p.types variables (does_by p d) d branches in
          let two = first (λ d. tested d || does d) more spares in
          and_from (expression_shuns p.types (λ t. false) apart variables e && statements_shun p.types (λ t. false) apart variables fs)
          (branches_shun p.types (λ t. false) apart variables branches)
          (and_from (expression_shuns p.types (λ t. false) apart variables e) (statements_shun p.types (λ t. false) apart variables fs)
          (expression_shaped p.types apart variables e) (statements_shaped inside fs (right_holds typed stated later.0) both.0 (second tested does two)))
          (branches_shaped inside branches later.1 both.1 (second (λ d. tested d || does d) more spares))

      -- and handlers (11.2).
      handlers_shaped :
          (inside : Bool) (hs : HandlersForm) → handlers_fit p.types variables texts exceptions callable inside hs ≡ true
          → are_frugal_handlers (thrift_at p) hs ≡ true → Spares p shuns (λ d. handlers_do p.types variables (does_by p d) d hs)
          → handlers_shun p.types (λ t. false) apart variables hs ≡ true
      handlers_shaped inside no_handlers fits frugal spares = refl
      handlers_shaped inside (a_handler choices fs hs) fits frugal spares =
          let both = and_parts (are_frugal (thrift_at p) fs) (are_frugal_handlers (thrift_at p) hs) frugal in
          let chosen = list_all (choice_fits exceptions) choices && has_statement fs in
          let stated = stmts_fit p.types variables texts exceptions callable inside fs in
          let later = and_parts (chosen && stated) (handlers_fit p.types variables texts exceptions callable inside hs) fits in
          let one = λ (d : Deed). stmts_do p.types variables (does_by p d) d fs in
          let more = λ (d : Deed). handlers_do p.types variables (does_by p d) d hs in
          and_from (statements_shun p.types (λ t. false) apart variables fs) (handlers_shun p.types (λ t. false) apart variables hs)
          (statements_shaped inside fs (right_holds chosen stated later.0) both.0 (first one more spares))
          (handlers_shaped inside hs later.1 both.1 (second one more spares))

  -- So has such a body, as the program that it sees fits.
  pub body_shaped :
      (apart : Apart) → CallsFrugal apart → EndsSpared apart → StartsSpared apart → AssignsSpared apart → CopiesInert apart → CopiesSpared apart → (number : ℕ) (b : BodyForm) → SeenFits (seen_by number b p)
      → is_frugal_body (thrift_at p) b ≡ true → Spares p shuns (λ d. body_does p.types (does_by p d) d b) → body_shuns p.types (λ t. false) apart b ≡ true
  body_shaped apart marked ended started overwritten quietly copied number b fits =
      let callable = callable_in (seen_by number b p) in
      master_shaped apart marked ended started overwritten quietly copied fits.types_fit b.variables fits.variables_fit p.texts p.exceptions callable b.declarations b.statements
      b.handlers fits.initials_fit
      (statements_shaped apart marked ended started overwritten quietly copied fits.types_fit b.variables fits.variables_fit p.texts p.exceptions callable false b.statements
      fits.statements_fit)
      (handlers_shaped apart marked ended started overwritten quietly copied fits.types_fit b.variables fits.variables_fit p.texts p.exceptions callable false b.handlers
      fits.handlers_fit)
