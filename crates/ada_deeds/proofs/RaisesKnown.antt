-- What comes out of a form is known: where a form raises an exception, and so do calls and initializations of which this is known, the form may raise it by its
-- text.

use Rattle.std.proofs.Common.{◌≡◌, ℕ, ◌<◌, Bool, true, false, ◌&&◌, ◌||◌, not, List, [], ◌∷◌, length, refl, sym, inl, inr, subst}
use Rattle.std.proofs.lemmas.Bool.{and_parts, and_from, or_cases, or_left, or_right}
use Rattle.std.proofs.lemmas.Option.{slice_get_within}
use Rattle.std.specs.List.{list_all, list_any, slice_get}
use Rattle.std.specs.Prelude.{Option, Some, None}
use Rattle.ada_deeds.specs.Follows.{path_follows, record_path_follows, expression_follows, condition_follows, actuals_follow}
use Rattle.ada_deeds.specs.Forms.{evaluation_does, path_does, record_path_does, expression_does, condition_does, actuals_do, allocation_does, is_left, procedure_does, parts_do, creation_does, assignment_does, designated_by, item_does, items_do, right_does, initial_does, declaration_does, declarations_do, ending_does, leaving_does, stmt_does, stmts_do, branches_do, handlers_do, body_does}
use Rattle.ada_deeds.specs.Implicit.{record_at}
use Rattle.ada_deeds.specs.declared.deed.Callee.{Callee}
use Rattle.ada_deeds.specs.declared.deed.Deed.TheVariants.{Raises}
use Rattle.ada_deeds.specs.declared.deed.Operation.TheVariants.{Adjust, Finalize}
use Rattle.ada_deeds.proofs.More.{Stays, either}
use Rattle.ada_deeds.proofs.Naming.{left_holds, right_holds, KindFits, variable_fits_kind, path_fits_kind, allocates_access, default_access, object_type, access_at, object_at}
use Rattle.ada_effects.specs.Effects.{Effects, path_raises, record_path_raises, expression_raises, condition_raises, actuals_raise, item_raises, items_raise, untaken, right_raises, right_starts, initial_raises, initial_starts, declaration_raises, declarations_raise, call_raises, stmt_raises, stmts_raise, branches_raise, handlers_raise, body_raises}
use Rattle.ada_effects.proofs.Sameness.{are_equal}
use Rattle.ada_program.specs.declared.program.Exception.{Exception}
use Rattle.ada_program.specs.declared.program.Exception.TheVariants.{ConstraintError, StorageError, EndError}
use Rattle.ada_program.specs.declared.program.ScalarType.TheVariants.{Integer, Boolean}
use Rattle.ada_program.specs.declared.program.VariableKind.{VariableKind}
use Rattle.ada_program.specs.Form.{ActualForm, PathForm, RecordPathForm, ExpressionForm, ItemForm, null_item, item_of_path, item_of_value, item_of_record, RightForm, nothing, value_of, allocates, allocates_default, computes, DeclarationForm, creates_pool, collects, declares, declares_record, StmtForm, skips, assigns, assigns_record, frees, gets, writes, writes_text, chooses, repeats, counts, exits, calls, returns, raises, encloses, StmtsForm, no_stmts, a_stmt, BranchesForm, otherwise, a_branch, HandlersForm, no_handlers, a_handler}
use Rattle.ada_program.specs.Handling.{is_same, is_taken}
use Rattle.ada_program.specs.ProgramForm.{TypeForm, VariableForm, BodyForm}
use Rattle.ada_program.specs.WellFormed.{Profile, designated_type, object_in, object_named, variable_kind, is_borrower, path_kind, path_access, type_fits, variable_fits, is_type, scalar_of, has_type, names_before, names_borrower, right_fits, lends_to, is_record_object, record_initial_fits, initial_fits, collections_first, collection_fits, declarations_fit, condition_fits, has_statement, choice_fits, suits_profile, created_in, creates_from, statement_fits, stmts_fit, branches_fit, handlers_fit, body_fits}

-- What calls and initializations do is known, of the procedures up to this count; and no Adjust and no Finalize does it.
pub record AreKnown (types : List TypeForm) (effects : Effects) (known : Callee → Bool) (e : Exception) (count : ℕ) : Type 0 where
  pub starts : (among : Exception → Bool) → among e ≡ true → (u : ℕ) → creation_does known (record_at types u) ≡ true → list_any among (effects.implicit.start_raises u) ≡ true
  pub called : (among : Exception → Bool) → among e ≡ true → (procedure : ℕ) → procedure < count → procedure_does known procedure ≡ true →
      call_raises (slice_get effects.calls procedure) among ≡ true
  pub adjusts : (o : Option ℕ) → parts_do known Adjust o ≡ true → ⊥
  pub finalizes : (o : Option ℕ) → parts_do known Finalize o ≡ true → ⊥

-- A procedure that is called is one of those that may be.
pub is_callable : (types : List TypeForm) (variables : List VariableForm) (callable : List Profile) (procedure : ℕ) (actuals : List ActualForm) (o : Option Profile) →
    slice_get callable procedure ≡ o → suits_profile types variables o actuals ≡ true → procedure < length callable
is_callable types variables callable procedure actuals None at fits = absurd (cc fits)
is_callable types variables callable procedure actuals (Some profile) at fits = slice_get_within callable procedure profile at

-- Of two tests the first one holds, where the second one does not.
pub first_holds : (a b : Bool) → (b ≡ true → ⊥) → (a || b) ≡ true → a ≡ true
first_holds a b not_b h = elim (or_cases a b h) [ inl x ↦ x | inr y ↦ absurd (not_b y) ]

pub second_holds : (a b : Bool) → (a ≡ true → ⊥) → (a || b) ≡ true → b ≡ true
second_holds a b not_a h = elim (or_cases a b h) [ inl x ↦ absurd (not_a x) | inr y ↦ y ]

-- Two evaluations, of which one fails.
two_fail : (c a b does also : Bool) → Stays does (c && a) → Stays also (c && b) → Stays (does || also) (c && (a || b))
two_fail c a b does also f g h = elim (or_cases does also h) [
  | inl x ↦ let parts = and_parts c a (f x) in and_from c (a || b) parts.0 (or_left a b parts.1)
  | inr y ↦ let parts = and_parts c b (g y) in and_from c (a || b) parts.0 (or_right a b parts.1)
]

module _ (e : Exception) where
  -- It is this exception.
  this_one : (among : Exception → Bool) → among e ≡ true → (x : Exception) → is_same x e ≡ true → among x ≡ true
  this_one among is x same = subst (λ (y : Exception). among y ≡ true) (sym (are_equal x e same)) is

  -- An evaluation fails.
  failing : (among : Exception → Bool) → among e ≡ true → (fails : Bool) (follows : ℕ → Bool) → evaluation_does (Raises e) fails follows ≡ true →
      (among ConstraintError && fails) ≡ true
  failing among is fails follows h =
      let parts = and_parts (is_same ConstraintError e) fails h in and_from (among ConstraintError) fails (this_one among is ConstraintError parts.0) parts.1

  module _ (types : List TypeForm) (variables : List VariableForm) (known : Callee → Bool) where
    path_in : (among : Exception → Bool) → among e ≡ true → (path : PathForm) → Stays (path_does types variables (Raises e) path) (among ConstraintError && path_raises path)
    path_in among is path h = failing among is (path_raises path) (λ t. path_follows types variables t path) h

    record_path_in : (among : Exception → Bool) → among e ≡ true → (p : RecordPathForm) →
        Stays (record_path_does types variables (Raises e) p) (among ConstraintError && record_path_raises p)
    record_path_in among is p h = failing among is (record_path_raises p) (λ t. record_path_follows types variables t p) h

    expression_in : (among : Exception → Bool) → among e ≡ true → (x : ExpressionForm) →
        Stays (expression_does types variables (Raises e) x) (among ConstraintError && expression_raises x)
    expression_in among is x h = failing among is (expression_raises x) (λ t. expression_follows types variables t x) h

    condition_in : (among : Exception → Bool) → among e ≡ true → (x : Option ExpressionForm) →
        Stays (condition_does types variables (Raises e) x) (among ConstraintError && condition_raises x)
    condition_in among is x h = failing among is (condition_raises x) (λ t. condition_follows types variables t x) h

    module _ (effects : Effects) (callable : List Profile) (are : AreKnown types effects known e (length callable)) (types_fit : list_all (type_fits types) types ≡ true)
        (variables_fit : list_all (variable_fits types) variables ≡ true) (texts exceptions : List (List ℕ)) where
      item_in : (among : Exception → Bool) → among e ≡ true → (i : ItemForm) → Stays (item_does types variables known (Raises e) i) (among ConstraintError && item_raises i)
      item_in among is null_item h = absurd (cc h)
      item_in among is (item_of_path path) h = path_in among is path h
      item_in among is (item_of_value x) h = expression_in among is x h
      item_in among is (item_of_record p) h =
          record_path_in among is p
          (first_holds (record_path_does types variables (Raises e) p) (parts_do known Adjust (Some p.record_type)) (are.adjusts (Some p.record_type)) h)

      items_in : (among : Exception → Bool) → among e ≡ true → (items : List ItemForm) →
          Stays (items_do types variables known (Raises e) items) (among ConstraintError && items_raise items)
      items_in among is [] h = absurd (cc h)
      items_in among is (i ∷ is') h =
          two_fail (among ConstraintError) (item_raises i) (items_raise is') (item_does types variables known (Raises e) i) (items_do types variables known (Raises e) is')
          (item_in among is i) (items_in among is is') h

      -- What is initialized does.
      started : (among : Exception → Bool) → among e ≡ true → (u : ℕ) (record_type : Option ℕ) → record_at types u ≡ record_type →
          Stays (creation_does known record_type) (list_any among (effects.implicit.start_raises u))
      started among is u record_type at h = are.starts among is u (subst (λ (o : Option ℕ). creation_does known o ≡ true) (sym at) h)

      right_in : (among : Exception → Bool) → among e ≡ true → (kind : Option VariableKind) (assigned : RightForm) → KindFits types kind →
          right_fits types variables kind assigned ≡ true →
          Stays (right_does types variables known (Raises e) assigned) (right_raises among assigned || right_starts effects.implicit among assigned)
      right_in among is kind nothing fits taken h = absurd (cc h)
      right_in among is kind (value_of path) fits taken h = or_left (among ConstraintError && path_raises path) false (path_in among is path h)
      right_in among is kind (allocates access items) fits taken h =
          either (allocation_does (Raises e) || items_do types variables known (Raises e) items) (creation_does known (designated_type types access))
          (among StorageError || (among ConstraintError && items_raise items)) (list_any among (effects.implicit.start_raises access))
          (either (allocation_does (Raises e)) (items_do types variables known (Raises e) items) (among StorageError) (among ConstraintError && items_raise items)
          (this_one among is StorageError) (items_in among is items))
          (started among is access (designated_type types access) (access_at types access (allocates_access types types_fit variables variables_fit kind access items fits taken))) h
      right_in among is kind (allocates_default access) fits taken h =
          either (allocation_does (Raises e)) (creation_does known (designated_type types access)) (among StorageError) (list_any among (effects.implicit.start_raises access))
          (this_one among is StorageError)
          (started among is access (designated_type types access) (access_at types access (default_access types types_fit variables variables_fit kind access fits taken))) h
      right_in among is kind (computes x) fits taken h = or_left (among ConstraintError && expression_raises x) false (expression_in among is x h)

      initial_in : (among : Exception → Bool) → among e ≡ true → (object : ℕ) (initial : Option (List ItemForm)) → record_at types object ≡ object_in (slice_get types object) →
          Stays (initial_does types variables known (Raises e) (object_in (slice_get types object)) initial)
          ((among ConstraintError && initial_raises initial) || initial_starts effects.implicit among object initial)
      initial_in among is object None at h =
          or_right (among ConstraintError && false) (list_any among (effects.implicit.start_raises object)) (started among is object (object_in (slice_get types object)) at h)
      initial_in among is object (Some items) at h = or_left (among ConstraintError && items_raise items) false (items_in among is items h)

      declaration_in : (among : Exception → Bool) → among e ≡ true → (d : DeclarationForm) → initial_fits types variables d ≡ true →
          Stays (declaration_does types variables known (Raises e) d) (declaration_raises effects.implicit among d)
      declaration_in among is (creates_pool pool) fits h = absurd (cc h)
      declaration_in among is (collects access) fits h = absurd (cc h)
      declaration_in among is (declares x assigned) fits h =
          let kind = variable_kind variables x in
          let before = names_before x assigned in
          let takes = right_fits types variables kind assigned in
          right_in among is kind assigned (variable_fits_kind types types_fit variables variables_fit x)
          (right_holds before takes (left_holds (before && takes) (lends_to variables (is_borrower variables x) assigned) fits)) h
      declaration_in among is (declares_record x object initial) fits h =
          let kind = variable_kind variables x in
          let named = left_holds (is_record_object object kind) (record_initial_fits types variables x (object_named types (Some object)) initial) fits in
          initial_in among is object initial
          (object_at types object (object_type types types_fit variables variables_fit kind object (variable_fits_kind types types_fit variables variables_fit x) named)) h

      declarations_in : (among : Exception → Bool) → among e ≡ true → (ds : List DeclarationForm) → list_all (initial_fits types variables) ds ≡ true →
          Stays (declarations_do types variables known (Raises e) ds) (declarations_raise effects.implicit among ds)
      declarations_in among is [] fits h = absurd (cc h)
      declarations_in among is (d ∷ ds) fits h =
          let here = initial_fits types variables d in
          let later = list_all (initial_fits types variables) ds in
          either (declaration_does types variables known (Raises e) d) (declarations_do types variables known (Raises e) ds)
          (declaration_raises effects.implicit among d) (declarations_raise effects.implicit among ds)
          (declaration_in among is d (left_holds here later fits)) (declarations_in among is ds (right_holds here later fits)) h

      -- Nothing comes out of the leaving of a master.
      leaving_none : (ds : List DeclarationForm) → leaving_does types known ds ≡ true → ⊥
      leaving_none [] h = cc h
      leaving_none (d ∷ ds) h = elim (or_cases (ending_does types known d) (leaving_does types known ds) h) [ inl x ↦ ending_none d x | inr y ↦ leaving_none ds y ]
        where
          ending_none : (d : DeclarationForm) → ending_does types known d ≡ true → ⊥
          ending_none (creates_pool pool) x = cc x
          ending_none (collects access) x = are.finalizes (designated_type types access) x
          ending_none (declares x' right) x = cc x
          ending_none (declares_record x' object initial) x = are.finalizes (object_in (slice_get types object)) x

      -- A block, or a body, by what its statements and its handlers do.
      block_in : (among : Exception → Bool) → among e ≡ true → (ds : List DeclarationForm) (fs : StmtsForm) (hs : HandlersForm) → declarations_fit types variables ds ≡ true →
          ((more : Exception → Bool) → more e ≡ true → Stays (stmts_do types variables known (Raises e) fs) (stmts_raise effects more fs)) →
          Stays (handlers_do types variables known (Raises e) hs) (handlers_raise effects among hs) →
          Stays (declarations_do types variables known (Raises e) ds || (is_left hs (Raises e) && stmts_do types variables known (Raises e) fs)
          || handlers_do types variables known (Raises e) hs || leaving_does types known ds)
          (declarations_raise effects.implicit among ds || stmts_raise effects (untaken hs among) fs || handlers_raise effects among hs)
      block_in among is ds fs hs fits within behind h =
          let declared = declarations_do types variables known (Raises e) ds in
          let stated = is_left hs (Raises e) && stmts_do types variables known (Raises e) fs in
          let handled = handlers_do types variables known (Raises e) hs in
          let initials = right_holds (collections_first ds && list_all (collection_fits types) ds) (list_all (initial_fits types variables) ds) fits in
          either (declared || stated) handled (declarations_raise effects.implicit among ds || stmts_raise effects (untaken hs among) fs) (handlers_raise effects among hs)
          (either declared stated (declarations_raise effects.implicit among ds) (stmts_raise effects (untaken hs among) fs) (declarations_in among is ds initials)
          (λ s. let parts = and_parts (not (is_taken hs e)) (stmts_do types variables known (Raises e) fs) s in
          within (untaken hs among) (and_from (among e) (not (is_taken hs e)) is parts.0) parts.1))
          behind (first_holds (declared || stated || handled) (leaving_does types known ds) (leaving_none ds) h)

      mutual
        stmt_in : (inside : Bool) (among : Exception → Bool) → among e ≡ true → (f : StmtForm) → statement_fits types variables texts exceptions callable inside f ≡ true →
            Stays (stmt_does types variables known (Raises e) f) (stmt_raises effects among f)
        stmt_in inside among is skips fits h = absurd (cc h)
        stmt_in inside among is (assigns target assigned) fits h =
            let kind = path_kind types variables target in
            let raised = right_raises among assigned in
            let starts = right_starts effects.implicit among assigned in
            let fails = among ConstraintError && path_raises target in
            let takes = left_holds (right_fits types variables kind assigned) (lends_to variables (names_borrower variables target) assigned) fits in
            elim (or_cases (path_does types variables (Raises e) target) (right_does types variables known (Raises e) assigned) h) [
              | inl x ↦ or_left (fails || raised) starts (or_left fails raised (path_in among is target x))
              | inr y ↦ elim (or_cases raised starts (right_in among is kind assigned (path_fits_kind types types_fit variables variables_fit target) takes y)) [
                | inl r ↦ or_left (fails || raised) starts (or_right fails raised r)
                | inr s ↦ or_right (fails || raised) starts s
              ]
            ]
        stmt_in inside among is (assigns_record target items) fits h =
            let t = Some target.record_type in
            let follows = record_path_does types variables (Raises e) target in
            let given = items_do types variables known (Raises e) items in
            two_fail (among ConstraintError) (record_path_raises target) (items_raise items) follows given (record_path_in among is target) (items_in among is items)
            (first_holds (follows || given) (assignment_does known target.record_type)
            (λ x. elim (or_cases (parts_do known Adjust t) (parts_do known Finalize t) x) [ inl a ↦ are.adjusts t a | inr b ↦ are.finalizes t b ]) h)
        stmt_in inside among is (frees access path) fits h =
            let does = path_does types variables (Raises e) path in
            let o = designated_by types (path_access types variables path) in
            path_in among is path (first_holds does false (λ x. cc x) (first_holds (does || false) (parts_do known Finalize o) (are.finalizes o) h))
        stmt_in inside among is (gets target) fits h =
            either (is_same EndError e) (path_does types variables (Raises e) target) (among EndError) (among ConstraintError && path_raises target)
            (this_one among is EndError) (path_in among is target) h
        stmt_in inside among is (writes x) fits h = expression_in among is x h
        stmt_in inside among is (writes_text text) fits h = absurd (cc h)
        stmt_in inside among is (chooses branches) fits h = branches_in inside among is branches fits h
        stmt_in inside among is (repeats condition fs spot) fits h =
            either (condition_does types variables (Raises e) condition) (stmts_do types variables known (Raises e) fs)
            (among ConstraintError && condition_raises condition) (stmts_raise effects among fs) (condition_in among is condition)
            (stmts_in true among is fs
            (right_holds (condition_fits types variables condition && has_statement fs) (stmts_fit types variables texts exceptions callable true fs) fits)) h
        stmt_in inside among is (counts x low high fs spot) fits h =
            either (expression_does types variables (Raises e) low || expression_does types variables (Raises e) high) (stmts_do types variables known (Raises e) fs)
            (among ConstraintError && (expression_raises low || expression_raises high)) (stmts_raise effects among fs)
            (two_fail (among ConstraintError) (expression_raises low) (expression_raises high) (expression_does types variables (Raises e) low)
            (expression_does types variables (Raises e) high) (expression_in among is low) (expression_in among is high))
            (stmts_in true among is fs
            (right_holds (is_type Integer (scalar_of (variable_kind variables x)) && has_type types variables Integer low && has_type types variables Integer high && has_statement fs)
            (stmts_fit types variables texts exceptions callable true fs) fits)) h
        stmt_in inside among is (exits condition spot) fits h = condition_in among is condition h
        stmt_in inside among is (calls procedure actuals) fits h =
            either (actuals_do types variables (Raises e) actuals) (procedure_does known procedure) (among ConstraintError && actuals_raise actuals)
            (call_raises (slice_get effects.calls procedure) among) (failing among is (actuals_raise actuals) (λ t. actuals_follow types variables t actuals))
            (are.called among is procedure (is_callable types variables callable procedure actuals (slice_get callable procedure) refl fits)) h
        stmt_in inside among is (returns spot) fits h = absurd (cc h)
        stmt_in inside among is (raises x) fits h = this_one among is x h
        stmt_in inside among is (encloses ds fs hs) fits h =
            let declared = declarations_fit types variables ds in
            let stated = stmts_fit types variables texts exceptions callable inside fs in
            let handled = handlers_fit types variables texts exceptions callable inside hs in
            let two = left_holds (declared && stated) handled fits in
            block_in among is ds fs hs (left_holds declared stated two) (λ more m. stmts_in inside more m fs (right_holds declared stated two))
            (handlers_in inside among is hs (right_holds (declared && stated) handled fits)) h

        stmts_in : (inside : Bool) (among : Exception → Bool) → among e ≡ true → (fs : StmtsForm) → stmts_fit types variables texts exceptions callable inside fs ≡ true →
            Stays (stmts_do types variables known (Raises e) fs) (stmts_raise effects among fs)
        stmts_in inside among is no_stmts fits h = absurd (cc h)
        stmts_in inside among is (a_stmt f fs) fits h =
            let here = statement_fits types variables texts exceptions callable inside f in
            let later = stmts_fit types variables texts exceptions callable inside fs in
            either (stmt_does types variables known (Raises e) f) (stmts_do types variables known (Raises e) fs) (stmt_raises effects among f) (stmts_raise effects among fs)
            (stmt_in inside among is f (left_holds here later fits)) (stmts_in inside among is fs (right_holds here later fits)) h

        branches_in : (inside : Bool) (among : Exception → Bool) → among e ≡ true → (branches : BranchesForm) →
            branches_fit types variables texts exceptions callable inside branches ≡ true →
            Stays (branches_do types variables known (Raises e) branches) (branches_raise effects among branches)
        branches_in inside among is (otherwise fs) fits h = stmts_in inside among is fs fits h
        branches_in inside among is (a_branch x fs branches) fits h =
            let here = has_type types variables Boolean x in
            let stated = stmts_fit types variables texts exceptions callable inside fs in
            let later = branches_fit types variables texts exceptions callable inside branches in
            let two = left_holds (here && stated) later fits in
            either (expression_does types variables (Raises e) x || stmts_do types variables known (Raises e) fs) (branches_do types variables known (Raises e) branches)
            ((among ConstraintError && expression_raises x) || stmts_raise effects among fs) (branches_raise effects among branches)
            (either (expression_does types variables (Raises e) x) (stmts_do types variables known (Raises e) fs) (among ConstraintError && expression_raises x)
            (stmts_raise effects among fs) (expression_in among is x) (stmts_in inside among is fs (right_holds here stated two)))
            (branches_in inside among is branches (right_holds (here && stated) later fits)) h

        handlers_in : (inside : Bool) (among : Exception → Bool) → among e ≡ true → (hs : HandlersForm) → handlers_fit types variables texts exceptions callable inside hs ≡ true →
            Stays (handlers_do types variables known (Raises e) hs) (handlers_raise effects among hs)
        handlers_in inside among is no_handlers fits h = absurd (cc h)
        handlers_in inside among is (a_handler choices fs hs) fits h =
            let chosen = list_all (choice_fits exceptions) choices in
            let stated = stmts_fit types variables texts exceptions callable inside fs in
            let later = handlers_fit types variables texts exceptions callable inside hs in
            either (stmts_do types variables known (Raises e) fs) (handlers_do types variables known (Raises e) hs) (stmts_raise effects among fs) (handlers_raise effects among hs)
            (stmts_in inside among is fs (right_holds (chosen && has_statement fs) stated (left_holds (chosen && has_statement fs && stated) later fits)))
            (handlers_in inside among is hs (right_holds (chosen && has_statement fs && stated) later fits)) h

-- What comes out of a body that fits is in its effects.
pub body_in : (types : List TypeForm) (texts exceptions : List (List ℕ)) (callable : List Profile) (effects : Effects) (known : Callee → Bool) (e : Exception) →
    AreKnown types effects known e (length callable) → list_all (type_fits types) types ≡ true → (b : BodyForm) → body_fits types texts exceptions callable b ≡ true →
    (among : Exception → Bool) → among e ≡ true → body_does types known (Raises e) b ≡ true → body_raises effects b among ≡ true
body_in types texts exceptions callable effects known e are types_fit b fits among is h =
    let variables = list_all (variable_fits types) b.variables in
    let creates = creates_from (length b.variables) (length b.formals) (created_in b) in
    let declared = declarations_fit types b.variables b.declarations in
    let stated = stmts_fit types b.variables texts exceptions callable false b.statements in
    let handled = handlers_fit types b.variables texts exceptions callable false b.handlers in
    let four = left_holds (variables && creates && declared && stated) handled fits in
    let three = left_holds (variables && creates && declared) stated four in
    let variables_fit = left_holds variables creates (left_holds (variables && creates) declared three) in
    block_in e types b.variables known effects callable are types_fit variables_fit texts exceptions among is b.declarations b.statements b.handlers
    (right_holds (variables && creates) declared three)
    (λ more m. stmts_in e types b.variables known effects callable are types_fit variables_fit texts exceptions false more m b.statements
    (right_holds (variables && creates && declared) stated four))
    (handlers_in e types b.variables known effects callable are types_fit variables_fit texts exceptions false among is b.handlers
    (right_holds (variables && creates && declared && stated) handled fits)) h
