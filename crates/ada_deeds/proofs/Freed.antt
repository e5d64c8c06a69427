-- What effects say of Frees is done: where a form may free objects of an access type, and calls, initializations, copies and ends that may are known to do so,
-- the form does. The access type is then one of the program, too.

use Rattle.std.proofs.Common.{◌≡◌, ℕ, Bool, true, false, ◌&&◌, ◌||◌, ◌==◌, not, List, [], ◌∷◌, length, refl, sym, ap, ◌∙◌, inl, inr, subst}
use Rattle.std.proofs.lemmas.Bool.{or_cases, or_left, or_right, eqb-true, lt-ltb}
use Rattle.std.proofs.lemmas.Option.{slice_get_within}
use Rattle.std.specs.List.{list_all, slice_get}
use Rattle.std.specs.Prelude.{Option, Some, None, is_some, nat_lt}
use Rattle.ada_deeds.specs.Forms.{path_does, record_path_does, expression_does, condition_does, actuals_do, allocation_does, freeing_does, is_left, procedure_does, parts_do, creation_does, assignment_does, designated_by, item_does, items_do, right_does, initial_does, declaration_does, declarations_do, ending_does, leaving_does, stmt_does, stmts_do, branches_do, handlers_do, body_does}
use Rattle.ada_deeds.specs.Implicit.{record_in, record_at}
use Rattle.ada_deeds.specs.declared.deed.Callee.{Callee}
use Rattle.ada_deeds.specs.declared.deed.Callee.TheVariants as callee
use Rattle.ada_deeds.specs.declared.deed.Deed.{Deed}
use Rattle.ada_deeds.specs.declared.deed.Deed.TheVariants.{Frees}
use Rattle.ada_deeds.specs.declared.deed.Operation.{Operation}
use Rattle.ada_deeds.specs.declared.deed.Operation.TheVariants.{Initialize, Adjust, Finalize}
use Rattle.ada_deeds.proofs.Naming.{left_holds, right_holds, KindFits, variable_fits_kind, path_fits_kind, default_access, object_type, access_at, object_at}
use Rattle.ada_effects.specs.Effects.{Effects, call_frees, right_frees, initial_frees, ending_frees, declaration_frees, declarations_free, passing_frees, leaving_frees, stmt_frees, stmts_free, branches_free, handlers_free, body_frees}
use Rattle.ada_program.specs.declared.program.ComponentKind.{ComponentKind}
use Rattle.ada_program.specs.declared.program.Finalization.{Finalization}
use Rattle.ada_program.specs.declared.program.ScalarType.TheVariants.{Integer, Boolean}
use Rattle.ada_program.specs.declared.program.VariableKind.{VariableKind}
use Rattle.ada_program.specs.declared.program.VariableKind.TheVariants as variable
use Rattle.ada_program.specs.Form.{PathForm, ItemForm, null_item, item_of_path, item_of_value, item_of_record, RightForm, nothing, value_of, allocates, allocates_default, computes, DeclarationForm, creates_pool, collects, declares, declares_record, StmtForm, skips, assigns, assigns_record, frees, gets, writes, writes_text, chooses, repeats, counts, exits, calls, returns, raises, encloses, StmtsForm, no_stmts, a_stmt, BranchesForm, otherwise, a_branch, HandlersForm, no_handlers, a_handler}
use Rattle.ada_program.specs.ProgramForm.{TypeForm, record_of, access_to, object_of, VariableForm, BodyForm}
use Rattle.ada_program.specs.WellFormed.{Profile, designated_in, designated_type, components_in, record_components, object_in, named_in, object_named, is_access, is_object_type, finalization_of, variable_kind, is_borrower, path_kind, value_access, path_access, is_this, type_fits, variable_fits, is_type, scalar_of, has_type, is_filled, is_record_path, item_before, item_owns, is_record_item, is_copy, copies_whole, record_fits, object_fits, names_before, names_borrower, right_fits, lends_to, is_record_object, record_initial_fits, initial_fits, collections_first, collection_fits, declarations_fit, condition_fits, has_statement, choice_fits, created_in, creates_from, statement_fits, stmts_fit, branches_fit, handlers_fit, body_fits}

-- Of two tests one holds.
either : {X : Type 0} (a b : Bool) → (a || b) ≡ true → (a ≡ true → X) → (b ≡ true → X) → X
either a b h f g = elim (or_cases a b h) [ inl e ↦ f e | inr e ↦ g e ]

-- An access type is one of the program's, and something is done.
abbrev pub Done : List TypeForm → (access : ℕ) → (does : Bool) → Type 0
Done types t does = (nat_lt t (length types) ≡ true) × (does ≡ true)

-- What is known of calls, and of the operations that are called implicitly, is done; and an operation does something only where there are controlled parts.
pub record AreDone (types : List TypeForm) (effects : Effects) (known : Callee → Bool) (t : ℕ) : Type 0 where
  pub starts : (u : ℕ) → effects.implicit.start_frees u t ≡ true → creation_does known (record_at types u) ≡ true
  pub adjusts : (u : ℕ) → effects.implicit.adjust_frees u t ≡ true → parts_do known Adjust (record_at types u) ≡ true
  pub ends : (u : ℕ) → effects.implicit.end_frees u t ≡ true → parts_do known Finalize (record_at types u) ≡ true
  pub called : (procedure : ℕ) → call_frees (slice_get effects.calls procedure) t ≡ true → procedure_does known procedure ≡ true
  pub ranged : (c : Callee) → known c ≡ true → nat_lt t (length types) ≡ true
  pub parted : (operation : Operation) (r : ℕ) → parts_do known operation (Some r) ≡ true → is_some (finalization_of types r) ≡ true

-- That objects of an access type are freed.
abbrev pub deed : (access : ℕ) → Deed
deed t = Frees (record { 0 = t })

-- A record type is its own record type.
pub own_record : (u : ℕ) (o : Option TypeForm) → is_some (components_in o) ≡ true → record_in u o ≡ Some u
own_record u None is = absurd (cc is)
own_record u (Some (record_of name parts components finalization)) is = refl
own_record u (Some (access_to name designated pool)) is = absurd (cc is)
own_record u (Some (object_of record_type)) is = absurd (cc is)

-- A type that is there has a number of the program.
number_there : (types : List TypeForm) (a : ℕ) (o : Option TypeForm) → slice_get types a ≡ o → is_some (designated_in o) ≡ true → nat_lt a (length types) ≡ true
number_there types a None at is = absurd (cc is)
number_there types a (Some form) at is = lt-ltb a (length types) (slice_get_within types a form at)

pub filled_some : (types : List TypeForm) (variables : List VariableForm) (components : Option (List ComponentKind)) (items : List ItemForm) →
    is_filled types variables components items ≡ true → is_some components ≡ true
filled_some types variables None items is = absurd (cc is)
filled_some types variables (Some components) items is = refl

pub object_named_in : (o : Option TypeForm) → is_some (object_in o) ≡ true → named_in o ≡ object_in o
object_named_in None is = absurd (cc is)
object_named_in (Some (record_of name parts components finalization)) is = absurd (cc is)
object_named_in (Some (access_to name designated pool)) is = absurd (cc is)
object_named_in (Some (object_of record_type)) is = refl

module _ (types : List TypeForm) (t : ℕ) where
  left : (a b : Bool) → Done types t a → Done types t (a || b)
  left a b d = (d.0, or_left a b d.1)

  right : (a b : Bool) → Done types t b → Done types t (a || b)
  right a b d = (d.0, or_right a b d.1)

  -- Two parts do, or one of them.
  both : (freed more does also : Bool) → (freed || more) ≡ true → (freed ≡ true → Done types t does) → (more ≡ true → Done types t also) → Done types t (does || also)
  both freed more does also h f g = either freed more h (λ r. left does also (f r)) (λ r. right does also (g r))

  module _ (variables : List VariableForm) (known : Callee → Bool) (effects : Effects) (are : AreDone types effects known t)
      (types_fit : list_all (type_fits types) types ≡ true) (variables_fit : list_all (variable_fits types) variables ≡ true) (texts exceptions : List (List ℕ)) where
    -- What an operation of parts does.
    by_parts : (operation : Operation) (o : Option ℕ) → parts_do known operation o ≡ true → Done types t (parts_do known operation o)
    by_parts operation None h = absurd (cc h)
    by_parts operation (Some r) h = (are.ranged (callee.Parts operation (record { 0 = r })) h, h)

    by_creation : (o : Option ℕ) → creation_does known o ≡ true → Done types t (creation_does known o)
    by_creation o h = both (parts_do known Initialize o) (parts_do known Finalize o) (parts_do known Initialize o) (parts_do known Finalize o) h (by_parts Initialize o) (by_parts Finalize o)

    started : (u : ℕ) (record_type : Option ℕ) → record_at types u ≡ record_type → effects.implicit.start_frees u t ≡ true → Done types t (creation_does known record_type)
    started u record_type is h = by_creation record_type (subst (λ (o : Option ℕ). creation_does known o ≡ true) is (are.starts u h))

    ended : (u : ℕ) (record_type : Option ℕ) → record_at types u ≡ record_type → effects.implicit.end_frees u t ≡ true → Done types t (parts_do known Finalize record_type)
    ended u record_type is h = by_parts Finalize record_type (subst (λ (o : Option ℕ). parts_do known Finalize o ≡ true) is (are.ends u h))

    adjusted : (u : ℕ) (record_type : Option ℕ) → record_at types u ≡ record_type → effects.implicit.adjust_frees u t ≡ true → Done types t (parts_do known Adjust record_type)
    adjusted u record_type is h = by_parts Adjust record_type (subst (λ (o : Option ℕ). parts_do known Adjust o ≡ true) is (are.adjusts u h))

    right_out : (kind : Option VariableKind) (assigned : RightForm) → KindFits types kind → right_fits types variables kind assigned ≡ true →
        right_frees effects.implicit t assigned ≡ true → Done types t (right_does types variables known (deed t) assigned)
    right_out kind nothing fits taken h = absurd (cc h)
    right_out kind (value_of path) fits taken h = absurd (cc h)
    right_out kind (allocates access items) fits taken h = absurd (cc h)
    right_out kind (allocates_default access) fits taken h =
        right (allocation_does (deed t)) (creation_does known (designated_type types access))
        (started access (designated_type types access) (access_at types access (default_access types types_fit variables variables_fit kind access fits taken)) h)
    right_out kind (computes x) fits taken h = absurd (cc h)

    -- A copy of a record with controlled parts is adjusted.
    copied_item : (r : ℕ) (i : ItemForm) → is_record_item r i ≡ true → parts_do known Adjust (Some r) ≡ true → Done types t (item_does types variables known (deed t) i)
    copied_item r null_item is h = absurd (cc is)
    copied_item r (item_of_path path) is h = absurd (cc is)
    copied_item r (item_of_value x) is h = absurd (cc is)
    copied_item r (item_of_record p) is h =
        let same : r ≡ p.record_type = sym (eqb-true p.record_type r is) in
        right (record_path_does types variables (deed t) p) (parts_do known Adjust (Some p.record_type))
        (by_parts Adjust (Some p.record_type) (subst (λ (u : ℕ). parts_do known Adjust (Some u) ≡ true) same h))

    copied_items : (r : ℕ) (items : List ItemForm) → is_copy r items ≡ true → parts_do known Adjust (Some r) ≡ true → Done types t (items_do types variables known (deed t) items)
    copied_items r [] is h = absurd (cc is)
    copied_items r (i ∷ is') is h =
        left (item_does types variables known (deed t) i) (items_do types variables known (deed t) is') (copied_item r i (left_holds (is_record_item r i) (length is' == 0) is) h)

    copied_whole : (r : ℕ) (f : Option Finalization) (items : List ItemForm) → is_some f ≡ true → copies_whole r f items ≡ true → is_copy r items ≡ true
    copied_whole r None items some is = absurd (cc some)
    copied_whole r (Some f) items some is = right_holds (not f.limited) (is_copy r items) is

    copied : (o : Option ℕ) (items : List ItemForm) → object_fits types variables o items ≡ true → parts_do known Adjust o ≡ true →
        Done types t (items_do types variables known (deed t) items)
    copied None items fits h = absurd (cc h)
    copied (Some r) items fits h =
        let filled = is_filled types variables (record_components types r) items in
        let owned = list_all (item_owns variables) items in
        let whole = right_holds (filled && owned) (copies_whole r (finalization_of types r) items) fits in
        copied_items r items (copied_whole r (finalization_of types r) items (are.parted Adjust r h) whole) h

    initial_out : (x object : ℕ) (initial : Option (List ItemForm)) → is_object_type types object ≡ true →
        record_initial_fits types variables x (object_named types (Some object)) initial ≡ true → initial_frees effects.implicit t object initial ≡ true →
        Done types t (initial_does types variables known (deed t) (object_in (slice_get types object)) initial)
    initial_out x object None is fits h = started object (object_in (slice_get types object)) (object_at types object is) h
    initial_out x object (Some items) is fits h =
        let named : object_named types (Some object) ≡ object_in (slice_get types object) = object_named_in (slice_get types object) is in
        copied (object_in (slice_get types object)) items
        (subst (λ (o : Option ℕ). object_fits types variables o items ≡ true) named
        (right_holds (list_all (item_before x) items) (object_fits types variables (object_named types (Some object)) items) fits))
        (adjusted object (object_in (slice_get types object)) (object_at types object is) h).1

    known_object : (x object : ℕ) (initial : Option (List ItemForm)) → initial_fits types variables (declares_record x object initial) ≡ true → is_object_type types object ≡ true
    known_object x object initial fits =
        let kind = variable_kind variables x in
        object_type types types_fit variables variables_fit kind object (variable_fits_kind types types_fit variables variables_fit x)
        (left_holds (is_record_object object kind) (record_initial_fits types variables x (object_named types (Some object)) initial) fits)

    declaration_out : (d : DeclarationForm) → initial_fits types variables d ≡ true → declaration_frees effects.implicit t d ≡ true →
        Done types t (declaration_does types variables known (deed t) d)
    declaration_out (creates_pool pool) fits h = absurd (cc h)
    declaration_out (collects access) fits h = absurd (cc h)
    declaration_out (declares x assigned) fits h =
        let kind = variable_kind variables x in
        let before = names_before x assigned in
        let takes = right_fits types variables kind assigned in
        right_out kind assigned (variable_fits_kind types types_fit variables variables_fit x)
        (right_holds before takes (left_holds (before && takes) (lends_to variables (is_borrower variables x) assigned) fits)) h
    declaration_out (declares_record x object initial) fits h =
        initial_out x object initial (known_object x object initial fits)
        (right_holds (is_record_object object (variable_kind variables x)) (record_initial_fits types variables x (object_named types (Some object)) initial) fits) h

    declarations_out : (ds : List DeclarationForm) → list_all (initial_fits types variables) ds ≡ true → declarations_free effects.implicit t ds ≡ true →
        Done types t (declarations_do types variables known (deed t) ds)
    declarations_out [] fits h = absurd (cc h)
    declarations_out (d ∷ ds) fits h =
        let here = initial_fits types variables d in
        let later = list_all (initial_fits types variables) ds in
        both (declaration_frees effects.implicit t d) (declarations_free effects.implicit t ds) (declaration_does types variables known (deed t) d)
        (declarations_do types variables known (deed t) ds) h (declaration_out d (left_holds here later fits)) (declarations_out ds (right_holds here later fits))

    ending_out : (d : DeclarationForm) → collection_fits types d ≡ true → initial_fits types variables d ≡ true → passing_frees effects.implicit t d ≡ true →
        Done types t (ending_does types known d)
    ending_out (creates_pool pool) collects_fit fits h = absurd (cc h)
    ending_out (collects access) collects_fit fits h = ended access (designated_type types access) (access_at types access collects_fit) h
    ending_out (declares x assigned) collects_fit fits h = absurd (cc h)
    ending_out (declares_record x object initial) collects_fit fits h =
        ended object (object_in (slice_get types object)) (object_at types object (known_object x object initial fits)) h

    leaving_out : (ds : List DeclarationForm) → list_all (collection_fits types) ds ≡ true → list_all (initial_fits types variables) ds ≡ true →
        leaving_frees effects.implicit t ds ≡ true → Done types t (leaving_does types known ds)
    leaving_out [] collect fits h = absurd (cc h)
    leaving_out (d ∷ ds) collect fits h =
        let one = collection_fits types d in
        let more = list_all (collection_fits types) ds in
        let here = initial_fits types variables d in
        let later = list_all (initial_fits types variables) ds in
        both (passing_frees effects.implicit t d) (leaving_frees effects.implicit t ds) (ending_does types known d) (leaving_does types known ds) h
        (ending_out d (left_holds one more collect) (left_holds here later fits)) (leaving_out ds (right_holds one more collect) (right_holds here later fits))

    -- A block, or a body, by what its statements and its handlers do.
    block_out : (ds : List DeclarationForm) (fs : StmtsForm) (hs : HandlersForm) → declarations_fit types variables ds ≡ true →
        (stmts_free types variables effects t fs ≡ true → Done types t (stmts_do types variables known (deed t) fs)) →
        (handlers_free types variables effects t hs ≡ true → Done types t (handlers_do types variables known (deed t) hs)) →
        ((stmts_free types variables effects t fs || handlers_free types variables effects t hs) || (declarations_free effects.implicit t ds || leaving_frees effects.implicit t ds)) ≡ true →
        Done types t (declarations_do types variables known (deed t) ds || (is_left hs (deed t) && stmts_do types variables known (deed t) fs)
        || handlers_do types variables known (deed t) hs || leaving_does types known ds)
    block_out ds fs hs fits within behind h =
        let declared = declarations_do types variables known (deed t) ds in
        let stated = stmts_do types variables known (deed t) fs in
        let handled = handlers_do types variables known (deed t) hs in
        let leaves = leaving_does types known ds in
        let first = collections_first ds in
        let collect = list_all (collection_fits types) ds in
        let initials = list_all (initial_fits types variables) ds in
        let own = right_holds first collect (left_holds (first && collect) initials fits) in
        let begun = right_holds (first && collect) initials fits in
        either (stmts_free types variables effects t fs || handlers_free types variables effects t hs) (declarations_free effects.implicit t ds || leaving_frees effects.implicit t ds) h
        (λ inside. left (declared || stated || handled) leaves
        (either (stmts_free types variables effects t fs) (handlers_free types variables effects t hs) inside
        (λ r. left (declared || stated) handled (right declared stated (within r))) (λ r. right (declared || stated) handled (behind r))))
        (λ around. either (declarations_free effects.implicit t ds) (leaving_frees effects.implicit t ds) around
        (λ r. left (declared || stated || handled) leaves (left (declared || stated) handled (left declared stated (declarations_out ds begun r))))
        (λ r. right (declared || stated || handled) leaves (leaving_out ds own begun r)))

    -- What is freed is of an access type.
    value_fits : (kind : Option VariableKind) (a : ℕ) → KindFits types kind → value_access kind ≡ Some a → is_access types a ≡ true
    value_fits None a fits is = absurd (cc is)
    value_fits (Some variable.Integer) a fits is = absurd (cc is)
    value_fits (Some variable.Boolean) a fits is = absurd (cc is)
    value_fits (Some (variable.Access access)) a fits is = let same : access.0 ≡ a = cc is in ap (is_access types) (sym same) ∙ fits
    value_fits (Some (variable.Record object)) a fits is = absurd (cc is)

    freed_out : (path : PathForm) (o : Option ℕ) → path_access types variables path ≡ o → (is_this t o || ending_frees effects.implicit t o) ≡ true →
        Done types t (freeing_does (deed t) o || parts_do known Finalize (designated_by types o))
    freed_out path None is h = absurd (cc h)
    freed_out path (Some a) is h =
        let access = value_fits (path_kind types variables path) a (path_fits_kind types types_fit variables variables_fit path) is in
        both (is_this t (Some a)) (effects.implicit.end_frees a t) (freeing_does (deed t) (Some a)) (parts_do known Finalize (designated_type types a)) h
        (λ r. (subst (λ (n : ℕ). nat_lt n (length types) ≡ true) (eqb-true a t r) (number_there types a (slice_get types a) refl access), r))
        (ended a (designated_type types a) (access_at types a access))

    three : (a b c : Bool) → Done types t (b || c) → Done types t (a || b || c)
    three a b c d = (d.0, either b c d.1 (λ e. or_left (a || b) c (or_right a b e)) (λ e. or_right (a || b) c e))

    mutual
      stmt_out : (callable : List Profile) (inside : Bool) (f : StmtForm) → statement_fits types variables texts exceptions callable inside f ≡ true →
          stmt_frees types variables effects t f ≡ true → Done types t (stmt_does types variables known (deed t) f)
      stmt_out callable inside skips fits h = absurd (cc h)
      stmt_out callable inside (assigns target assigned) fits h =
          let kind = path_kind types variables target in
          right (path_does types variables (deed t) target) (right_does types variables known (deed t) assigned)
          (right_out kind assigned (path_fits_kind types types_fit variables variables_fit target)
          (left_holds (right_fits types variables kind assigned) (lends_to variables (names_borrower variables target) assigned) fits) h)
      stmt_out callable inside (assigns_record target items) fits h =
          let u = target.record_type in
          let filled = is_filled types variables (record_components types u) items in
          let owned = list_all (item_owns variables) items in
          let fit = right_holds (is_record_path types variables target) (record_fits types variables u items) fits in
          let some = filled_some types variables (record_components types u) items
          (left_holds filled owned (left_holds (filled && owned) (copies_whole u (finalization_of types u) items) fit)) in
          let own = own_record u (slice_get types u) some in
          right (record_path_does types variables (deed t) target || items_do types variables known (deed t) items) (assignment_does known u)
          (either (effects.implicit.end_frees u t) (effects.implicit.adjust_frees u t) h
          (λ r. right (parts_do known Adjust (Some u)) (parts_do known Finalize (Some u)) (ended u (Some u) own r))
          (λ r. left (parts_do known Adjust (Some u)) (parts_do known Finalize (Some u)) (adjusted u (Some u) own r)))
      stmt_out callable inside (frees access path) fits h =
          let a = path_access types variables path in
          three (path_does types variables (deed t) path) (freeing_does (deed t) a) (parts_do known Finalize (designated_by types a)) (freed_out path a refl h)
      stmt_out callable inside (gets target) fits h = absurd (cc h)
      stmt_out callable inside (writes x) fits h = absurd (cc h)
      stmt_out callable inside (writes_text text) fits h = absurd (cc h)
      stmt_out callable inside (chooses branches) fits h = branches_out callable inside branches fits h
      stmt_out callable inside (repeats condition fs spot) fits h =
          right (condition_does types variables (deed t) condition) (stmts_do types variables known (deed t) fs)
          (stmts_out callable true fs (right_holds (condition_fits types variables condition && has_statement fs) (stmts_fit types variables texts exceptions callable true fs) fits) h)
      stmt_out callable inside (counts x low high fs spot) fits h =
          right (expression_does types variables (deed t) low || expression_does types variables (deed t) high) (stmts_do types variables known (deed t) fs)
          (stmts_out callable true fs
          (right_holds (is_type Integer (scalar_of (variable_kind variables x)) && has_type types variables Integer low && has_type types variables Integer high && has_statement fs)
          (stmts_fit types variables texts exceptions callable true fs) fits) h)
      stmt_out callable inside (exits condition spot) fits h = absurd (cc h)
      stmt_out callable inside (calls procedure actuals) fits h =
          let does = are.called procedure h in
          right (actuals_do types variables (deed t) actuals) (procedure_does known procedure) (are.ranged (callee.Procedure (record { 0 = procedure })) does, does)
      stmt_out callable inside (returns spot) fits h = absurd (cc h)
      stmt_out callable inside (raises x) fits h = absurd (cc h)
      stmt_out callable inside (encloses ds fs hs) fits h =
          let declared = declarations_fit types variables ds in
          let stated = stmts_fit types variables texts exceptions callable inside fs in
          let handled = handlers_fit types variables texts exceptions callable inside hs in
          let two = left_holds (declared && stated) handled fits in
          block_out ds fs hs (left_holds declared stated two) (stmts_out callable inside fs (right_holds declared stated two))
          (handlers_out callable inside hs (right_holds (declared && stated) handled fits)) h

      stmts_out : (callable : List Profile) (inside : Bool) (fs : StmtsForm) → stmts_fit types variables texts exceptions callable inside fs ≡ true →
          stmts_free types variables effects t fs ≡ true → Done types t (stmts_do types variables known (deed t) fs)
      stmts_out callable inside no_stmts fits h = absurd (cc h)
      stmts_out callable inside (a_stmt f fs) fits h =
          let here = statement_fits types variables texts exceptions callable inside f in
          let later = stmts_fit types variables texts exceptions callable inside fs in
          both (stmt_frees types variables effects t f) (stmts_free types variables effects t fs) (stmt_does types variables known (deed t) f) (stmts_do types variables known (deed t) fs) h
          (stmt_out callable inside f (left_holds here later fits)) (stmts_out callable inside fs (right_holds here later fits))

      branches_out : (callable : List Profile) (inside : Bool) (branches : BranchesForm) → branches_fit types variables texts exceptions callable inside branches ≡ true →
          branches_free types variables effects t branches ≡ true → Done types t (branches_do types variables known (deed t) branches)
      branches_out callable inside (otherwise fs) fits h = stmts_out callable inside fs fits h
      branches_out callable inside (a_branch x fs branches) fits h =
          let here = has_type types variables Boolean x in
          let stated = stmts_fit types variables texts exceptions callable inside fs in
          let later = branches_fit types variables texts exceptions callable inside branches in
          let two = left_holds (here && stated) later fits in
          both (stmts_free types variables effects t fs) (branches_free types variables effects t branches)
          (expression_does types variables (deed t) x || stmts_do types variables known (deed t) fs) (branches_do types variables known (deed t) branches) h
          (λ r. right (expression_does types variables (deed t) x) (stmts_do types variables known (deed t) fs) (stmts_out callable inside fs (right_holds here stated two) r))
          (branches_out callable inside branches (right_holds (here && stated) later fits))

      handlers_out : (callable : List Profile) (inside : Bool) (hs : HandlersForm) → handlers_fit types variables texts exceptions callable inside hs ≡ true →
          handlers_free types variables effects t hs ≡ true → Done types t (handlers_do types variables known (deed t) hs)
      handlers_out callable inside no_handlers fits h = absurd (cc h)
      handlers_out callable inside (a_handler choices fs hs) fits h =
          let chosen = list_all (choice_fits exceptions) choices in
          let stated = stmts_fit types variables texts exceptions callable inside fs in
          let later = handlers_fit types variables texts exceptions callable inside hs in
          both (stmts_free types variables effects t fs) (handlers_free types variables effects t hs) (stmts_do types variables known (deed t) fs)
          (handlers_do types variables known (deed t) hs) h
          (stmts_out callable inside fs (right_holds (chosen && has_statement fs) stated (left_holds (chosen && has_statement fs && stated) later fits)))
          (handlers_out callable inside hs (right_holds (chosen && has_statement fs && stated) later fits))

-- A body that fits does what its effects say.
pub body_out : (types : List TypeForm) (texts exceptions : List (List ℕ)) (callable : List Profile) (effects : Effects) (known : Callee → Bool) (t : ℕ) → AreDone types effects known t →
    list_all (type_fits types) types ≡ true → (b : BodyForm) → body_fits types texts exceptions callable b ≡ true → body_frees types effects b t ≡ true →
    Done types t (body_does types known (deed t) b)
body_out types texts exceptions callable effects known t are types_fit b fits h =
    let variables = list_all (variable_fits types) b.variables in
    let creates = creates_from (length b.variables) (length b.formals) (created_in b) in
    let declared = declarations_fit types b.variables b.declarations in
    let stated = stmts_fit types b.variables texts exceptions callable false b.statements in
    let handled = handlers_fit types b.variables texts exceptions callable false b.handlers in
    let four = left_holds (variables && creates && declared && stated) handled fits in
    let three = left_holds (variables && creates && declared) stated four in
    let variables_fit = left_holds variables creates (left_holds (variables && creates) declared three) in
    block_out types t b.variables known effects are types_fit variables_fit texts exceptions b.declarations b.statements b.handlers
    (right_holds (variables && creates) declared three)
    (stmts_out types t b.variables known effects are types_fit variables_fit texts exceptions callable false b.statements
    (right_holds (variables && creates && declared) stated four))
    (handlers_out types t b.variables known effects are types_fit variables_fit texts exceptions callable false b.handlers
    (right_holds (variables && creates && declared && stated) handled fits)) h
