-- What effects say of an exception is done: where a form may raise it by its text, and calls and initializations that may raise it are known to do so, the
-- form does it. The exception is then one of the program, too.

use Rattle.std.proofs.Common.{◌≡◌, ℕ, Bool, true, false, ◌&&◌, ◌||◌, not, List, [], ◌∷◌, length, refl, sym, inl, inr, subst}
use Rattle.std.proofs.lemmas.Bool.{and_from, or_cases, or_left, or_right}
use Rattle.std.specs.List.{list_all, list_any, slice_get}
use Rattle.std.specs.Prelude.{Option, Some, None}
use Rattle.ada_deeds.specs.Follows.{path_follows, record_path_follows, expression_follows, condition_follows, actuals_follow}
use Rattle.ada_deeds.specs.Forms.{evaluation_does, path_does, record_path_does, expression_does, condition_does, actuals_do, allocation_does, freeing_does, is_left, procedure_does, parts_do, creation_does, assignment_does, designated_by, item_does, items_do, right_does, initial_does, declaration_does, declarations_do, leaving_does, stmt_does, stmts_do, branches_do, handlers_do, body_does}
use Rattle.ada_deeds.specs.Implicit.{record_at}
use Rattle.ada_deeds.specs.declared.deed.Callee.{Callee}
use Rattle.ada_deeds.specs.declared.deed.Deed.TheVariants.{Raises}
use Rattle.ada_deeds.specs.declared.deed.Operation.TheVariants.{Adjust, Finalize}
use Rattle.ada_deeds.proofs.Naming.{left_holds, right_holds, KindFits, variable_fits_kind, path_fits_kind, allocates_access, default_access, object_type, access_at, object_at}
use Rattle.ada_effects.specs.Effects.{Effects, no_calls, path_raises, record_path_raises, expression_raises, condition_raises, actuals_raise, item_raises, items_raise, untaken, right_raises, right_starts, initial_raises, initial_starts, declaration_raises, declarations_raise, call_raises, stmt_raises, stmts_raise, branches_raise, handlers_raise, body_raises}
use Rattle.ada_effects.proofs.Sameness.{are_equal, same_if_equal}
use Rattle.ada_program.specs.declared.program.Exception.{Exception}
use Rattle.ada_program.specs.declared.program.Exception.TheVariants.{ConstraintError, StorageError, EndError}
use Rattle.ada_program.specs.declared.program.ScalarType.TheVariants.{Integer, Boolean}
use Rattle.ada_program.specs.declared.program.VariableKind.{VariableKind}
use Rattle.ada_program.specs.Form.{PathForm, RecordPathForm, ExpressionForm, ItemForm, null_item, item_of_path, item_of_value, item_of_record, RightForm, nothing, value_of, allocates, allocates_default, computes, DeclarationForm, creates_pool, collects, declares, declares_record, StmtForm, skips, assigns, assigns_record, frees, gets, writes, writes_text, chooses, repeats, counts, exits, calls, returns, raises, encloses, StmtsForm, no_stmts, a_stmt, BranchesForm, otherwise, a_branch, HandlersForm, no_handlers, a_handler}
use Rattle.ada_program.specs.Handling.{is_same, is_taken}
use Rattle.ada_program.specs.ProgramForm.{TypeForm, VariableForm, BodyForm}
use Rattle.ada_program.specs.WellFormed.{Profile, designated_type, object_in, object_named, variable_kind, is_borrower, path_kind, path_access, type_fits, variable_fits, is_type, scalar_of, has_type, names_before, names_borrower, right_fits, lends_to, is_record_object, record_initial_fits, initial_fits, collections_first, collection_fits, declarations_fit, condition_fits, has_statement, exception_fits, choice_fits, created_in, creates_from, statement_fits, stmts_fit, branches_fit, handlers_fit, body_fits}

-- Of two tests one holds.
either : {X : Type 0} (a b : Bool) → (a || b) ≡ true → (a ≡ true → X) → (b ≡ true → X) → X
either a b h f g = elim (or_cases a b h) [ inl e ↦ f e | inr e ↦ g e ]

-- These are exceptions among which there is this one at most.
abbrev pub Only : Exception → (among : Exception → Bool) → Type 0
Only e among = (x : Exception) → among x ≡ true → e ≡ x

-- An exception is among some, it is one of a program with these exceptions, and something is done.
abbrev pub Done : (exceptions : List (List ℕ)) → Exception → (among : Exception → Bool) → (does : Bool) → Type 0
Done exceptions e among does = (among e ≡ true) × (exception_fits exceptions e ≡ true) × (does ≡ true)

pub only_itself : (e : Exception) → Only e (is_same e)
only_itself e x same = are_equal e x same

only_untaken : (e : Exception) (hs : HandlersForm) (among : Exception → Bool) → Only e among → Only e (untaken hs among)
only_untaken e hs among only x h = only x (left_holds (among x) (not (is_taken hs x)) h)

-- What is known of calls and of initializations is done.
pub record AreDone (types : List TypeForm) (exceptions : List (List ℕ)) (effects : Effects) (known : Callee → Bool) (e : Exception) : Type 0 where
  pub starts : (u : ℕ) → list_any (is_same e) (effects.implicit.start_raises u) ≡ true → (exception_fits exceptions e ≡ true) × (creation_does known (record_at types u) ≡ true)
  pub called : (procedure : ℕ) (among : Exception → Bool) → Only e among → call_raises (slice_get effects.calls procedure) among ≡ true →
      Done exceptions e among (procedure_does known procedure)

-- Where nothing is called, nothing has to be.
pub none_done : (types : List TypeForm) (exceptions : List (List ℕ)) (known : Callee → Bool) (e : Exception) → AreDone types exceptions no_calls known e
none_done types exceptions known e = record {
  starts = λ u h. absurd (cc h);
  called = λ procedure among only h. absurd (cc h);
}

module _ (exceptions : List (List ℕ)) (e : Exception) where
  left : (among : Exception → Bool) (a b : Bool) → Done exceptions e among a → Done exceptions e among (a || b)
  left among a b d = (d.0, d.1, or_left a b d.2)

  right : (among : Exception → Bool) (a b : Bool) → Done exceptions e among b → Done exceptions e among (a || b)
  right among a b d = (d.0, d.1, or_right a b d.2)

  -- Two parts do, or one of them.
  both : (among : Exception → Bool) (raised more does also : Bool) → (raised || more) ≡ true → (raised ≡ true → Done exceptions e among does) →
      (more ≡ true → Done exceptions e among also) → Done exceptions e among (does || also)
  both among raised more does also h f g = either raised more h (λ r. left among does also (f r)) (λ r. right among does also (g r))

  -- It is this exception.
  this_one : (among : Exception → Bool) (x : Exception) → Only e among → exception_fits exceptions x ≡ true → among x ≡ true → Done exceptions e among (is_same x e)
  this_one among x only fits h =
      let same = only x h in (
        subst (λ (y : Exception). among y ≡ true) (sym same) h,
        subst (λ (y : Exception). exception_fits exceptions y ≡ true) (sym same) fits,
        same_if_equal x e (sym same),
      )

  -- An evaluation fails.
  failing : (among : Exception → Bool) (fails : Bool) (follows : ℕ → Bool) → Only e among → (among ConstraintError && fails) ≡ true →
      Done exceptions e among (evaluation_does (Raises e) fails follows)
  failing among fails follows only h =
      let d = this_one among ConstraintError only refl (left_holds (among ConstraintError) fails h) in
      (d.0, d.1, and_from (is_same ConstraintError e) fails d.2 (right_holds (among ConstraintError) fails h))

  two_fail : (among : Exception → Bool) (a b does also : Bool) → (among ConstraintError && (a || b)) ≡ true →
      ((among ConstraintError && a) ≡ true → Done exceptions e among does) → ((among ConstraintError && b) ≡ true → Done exceptions e among also) →
      Done exceptions e among (does || also)
  two_fail among a b does also h f g =
      let first = left_holds (among ConstraintError) (a || b) h in
      both among a b does also (right_holds (among ConstraintError) (a || b) h) (λ r. f (and_from (among ConstraintError) a first r))
      (λ r. g (and_from (among ConstraintError) b first r))

  any_only : (among : Exception → Bool) (xs : List Exception) → Only e among → list_any among xs ≡ true → (among e ≡ true) × (list_any (is_same e) xs ≡ true)
  any_only among [] only h = absurd (cc h)
  any_only among (x ∷ xs) only h =
      either (among x) (list_any among xs) h
      (λ r. let same = only x r in (subst (λ (y : Exception). among y ≡ true) (sym same) r, or_left (is_same e x) (list_any (is_same e) xs) (same_if_equal e x same)))
      (λ r. let more = any_only among xs only r in (more.0, or_right (is_same e x) (list_any (is_same e) xs) more.1))

  module _ (types : List TypeForm) (variables : List VariableForm) (known : Callee → Bool) where
    path_out : (among : Exception → Bool) (path : PathForm) → Only e among → (among ConstraintError && path_raises path) ≡ true →
        Done exceptions e among (path_does types variables (Raises e) path)
    path_out among path only h = failing among (path_raises path) (λ t. path_follows types variables t path) only h

    record_path_out : (among : Exception → Bool) (p : RecordPathForm) → Only e among → (among ConstraintError && record_path_raises p) ≡ true →
        Done exceptions e among (record_path_does types variables (Raises e) p)
    record_path_out among p only h = failing among (record_path_raises p) (λ t. record_path_follows types variables t p) only h

    expression_out : (among : Exception → Bool) (x : ExpressionForm) → Only e among → (among ConstraintError && expression_raises x) ≡ true →
        Done exceptions e among (expression_does types variables (Raises e) x)
    expression_out among x only h = failing among (expression_raises x) (λ t. expression_follows types variables t x) only h

    condition_out : (among : Exception → Bool) (x : Option ExpressionForm) → Only e among → (among ConstraintError && condition_raises x) ≡ true →
        Done exceptions e among (condition_does types variables (Raises e) x)
    condition_out among x only h = failing among (condition_raises x) (λ t. condition_follows types variables t x) only h

    item_out : (among : Exception → Bool) (i : ItemForm) → Only e among → (among ConstraintError && item_raises i) ≡ true →
        Done exceptions e among (item_does types variables known (Raises e) i)
    item_out among null_item only h = absurd (cc (right_holds (among ConstraintError) false h))
    item_out among (item_of_path path) only h = path_out among path only h
    item_out among (item_of_value x) only h = expression_out among x only h
    item_out among (item_of_record p) only h =
        left among (record_path_does types variables (Raises e) p) (parts_do known Adjust (Some p.record_type)) (record_path_out among p only h)

    items_out : (among : Exception → Bool) (items : List ItemForm) → Only e among → (among ConstraintError && items_raise items) ≡ true →
        Done exceptions e among (items_do types variables known (Raises e) items)
    items_out among [] only h = absurd (cc (right_holds (among ConstraintError) false h))
    items_out among (i ∷ is) only h =
        two_fail among (item_raises i) (items_raise is) (item_does types variables known (Raises e) i) (items_do types variables known (Raises e) is) h
        (item_out among i only) (items_out among is only)

    module _ (types_fit : list_all (type_fits types) types ≡ true) (variables_fit : list_all (variable_fits types) variables ≡ true)
        (texts : List (List ℕ)) (effects : Effects) (are : AreDone types exceptions effects known e) where
      -- What is initialized does.
      started : (among : Exception → Bool) (u : ℕ) (record_type : Option ℕ) → Only e among → record_at types u ≡ record_type →
          list_any among (effects.implicit.start_raises u) ≡ true → Done exceptions e among (creation_does known record_type)
      started among u record_type only is h =
          let any = any_only among (effects.implicit.start_raises u) only h in
          let done = are.starts u any.1 in
          (any.0, done.0, subst (λ (o : Option ℕ). creation_does known o ≡ true) is done.1)

      right_out : (among : Exception → Bool) (kind : Option VariableKind) (assigned : RightForm) → Only e among → KindFits types kind →
          right_fits types variables kind assigned ≡ true → (right_raises among assigned || right_starts effects.implicit among assigned) ≡ true →
          Done exceptions e among (right_does types variables known (Raises e) assigned)
      right_out among kind nothing only fits taken h = absurd (cc h)
      right_out among kind (value_of path) only fits taken h =
          either (among ConstraintError && path_raises path) false h (path_out among path only) (λ r. absurd (cc r))
      right_out among kind (allocates access items) only fits taken h =
          both among (among StorageError || (among ConstraintError && items_raise items)) (list_any among (effects.implicit.start_raises access))
          (allocation_does (Raises e) || items_do types variables known (Raises e) items) (creation_does known (designated_type types access)) h
          (λ r. both among (among StorageError) (among ConstraintError && items_raise items) (allocation_does (Raises e)) (items_do types variables known (Raises e) items) r
          (this_one among StorageError only refl) (items_out among items only))
          (started among access (designated_type types access) only (access_at types access (allocates_access types types_fit variables variables_fit kind access items fits taken)))
      right_out among kind (allocates_default access) only fits taken h =
          both among (among StorageError) (list_any among (effects.implicit.start_raises access)) (allocation_does (Raises e)) (creation_does known (designated_type types access)) h
          (this_one among StorageError only refl)
          (started among access (designated_type types access) only (access_at types access (default_access types types_fit variables variables_fit kind access fits taken)))
      right_out among kind (computes x) only fits taken h =
          either (among ConstraintError && expression_raises x) false h (expression_out among x only) (λ r. absurd (cc r))

      initial_out : (among : Exception → Bool) (object : ℕ) (initial : Option (List ItemForm)) → Only e among → record_at types object ≡ object_in (slice_get types object) →
          ((among ConstraintError && initial_raises initial) || initial_starts effects.implicit among object initial) ≡ true →
          Done exceptions e among (initial_does types variables known (Raises e) (object_in (slice_get types object)) initial)
      initial_out among object None only is h =
          either (among ConstraintError && false) (list_any among (effects.implicit.start_raises object)) h (λ r. absurd (cc (right_holds (among ConstraintError) false r)))
          (started among object (object_in (slice_get types object)) only is)
      initial_out among object (Some items) only is h =
          either (among ConstraintError && items_raise items) false h (items_out among items only) (λ r. absurd (cc r))

      declaration_out : (among : Exception → Bool) (d : DeclarationForm) → Only e among → initial_fits types variables d ≡ true → declaration_raises effects.implicit among d ≡ true →
          Done exceptions e among (declaration_does types variables known (Raises e) d)
      declaration_out among (creates_pool pool) only fits h = absurd (cc h)
      declaration_out among (collects access) only fits h = absurd (cc h)
      declaration_out among (declares x assigned) only fits h =
          let kind = variable_kind variables x in
          let before = names_before x assigned in
          let takes = right_fits types variables kind assigned in
          right_out among kind assigned only (variable_fits_kind types types_fit variables variables_fit x)
          (right_holds before takes (left_holds (before && takes) (lends_to variables (is_borrower variables x) assigned) fits)) h
      declaration_out among (declares_record x object initial) only fits h =
          let kind = variable_kind variables x in
          let is = left_holds (is_record_object object kind) (record_initial_fits types variables x (object_named types (Some object)) initial) fits in
          initial_out among object initial only
          (object_at types object (object_type types types_fit variables variables_fit kind object (variable_fits_kind types types_fit variables variables_fit x) is)) h

      declarations_out : (among : Exception → Bool) (ds : List DeclarationForm) → Only e among → list_all (initial_fits types variables) ds ≡ true →
          declarations_raise effects.implicit among ds ≡ true → Done exceptions e among (declarations_do types variables known (Raises e) ds)
      declarations_out among [] only fits h = absurd (cc h)
      declarations_out among (d ∷ ds) only fits h =
          both among (declaration_raises effects.implicit among d) (declarations_raise effects.implicit among ds) (declaration_does types variables known (Raises e) d)
          (declarations_do types variables known (Raises e) ds) h
          (declaration_out among d only (left_holds (initial_fits types variables d) (list_all (initial_fits types variables) ds) fits))
          (declarations_out among ds only (right_holds (initial_fits types variables d) (list_all (initial_fits types variables) ds) fits))

      -- A block, or a body, by what its statements and its handlers do.
      block_out : (among : Exception → Bool) (ds : List DeclarationForm) (fs : StmtsForm) (hs : HandlersForm) → Only e among → list_all (initial_fits types variables) ds ≡ true →
          ((more : Exception → Bool) → Only e more → stmts_raise effects more fs ≡ true → Done exceptions e more (stmts_do types variables known (Raises e) fs)) →
          (handlers_raise effects among hs ≡ true → Done exceptions e among (handlers_do types variables known (Raises e) hs)) →
          (declarations_raise effects.implicit among ds || stmts_raise effects (untaken hs among) fs || handlers_raise effects among hs) ≡ true →
          Done exceptions e among (declarations_do types variables known (Raises e) ds || (is_left hs (Raises e) && stmts_do types variables known (Raises e) fs)
          || handlers_do types variables known (Raises e) hs || leaving_does types known ds)
      block_out among ds fs hs only fits within behind h =
          let declared = declarations_do types variables known (Raises e) ds in
          let stated = is_left hs (Raises e) && stmts_do types variables known (Raises e) fs in
          let handled = handlers_do types variables known (Raises e) hs in
          left among (declared || stated || handled) (leaving_does types known ds)
          (both among (declarations_raise effects.implicit among ds || stmts_raise effects (untaken hs among) fs) (handlers_raise effects among hs) (declared || stated) handled h
          (λ two. both among (declarations_raise effects.implicit among ds) (stmts_raise effects (untaken hs among) fs) declared stated two
          (declarations_out among ds only fits)
          (λ r. let d = within (untaken hs among) (only_untaken e hs among only) r in (
            left_holds (among e) (not (is_taken hs e)) d.0,
            d.1,
            and_from (not (is_taken hs e)) (stmts_do types variables known (Raises e) fs) (right_holds (among e) (not (is_taken hs e)) d.0) d.2,
          )))
          behind)

      initials : (ds : List DeclarationForm) → declarations_fit types variables ds ≡ true → list_all (initial_fits types variables) ds ≡ true
      initials ds fits = right_holds (collections_first ds && list_all (collection_fits types) ds) (list_all (initial_fits types variables) ds) fits

      mutual
        stmt_out : (callable : List Profile) (inside : Bool) (among : Exception → Bool) (f : StmtForm) → Only e among →
            statement_fits types variables texts exceptions callable inside f ≡ true → stmt_raises effects among f ≡ true →
            Done exceptions e among (stmt_does types variables known (Raises e) f)
        stmt_out callable inside among skips only fits h = absurd (cc h)
        stmt_out callable inside among (assigns target assigned) only fits h =
            let kind = path_kind types variables target in
            let raised = right_raises among assigned in
            let starts = right_starts effects.implicit among assigned in
            let fails = among ConstraintError && path_raises target in
            both among fails (raised || starts) (path_does types variables (Raises e) target) (right_does types variables known (Raises e) assigned)
            (either (fails || raised) starts h
            (λ two. either fails raised two (λ r. or_left fails (raised || starts) r) (λ r. or_right fails (raised || starts) (or_left raised starts r)))
            (λ r. or_right fails (raised || starts) (or_right raised starts r)))
            (path_out among target only)
            (right_out among kind assigned only (path_fits_kind types types_fit variables variables_fit target)
            (left_holds (right_fits types variables kind assigned) (lends_to variables (names_borrower variables target) assigned) fits))
        stmt_out callable inside among (assigns_record target items) only fits h =
            left among (record_path_does types variables (Raises e) target || items_do types variables known (Raises e) items) (assignment_does known target.record_type)
            (two_fail among (record_path_raises target) (items_raise items) (record_path_does types variables (Raises e) target) (items_do types variables known (Raises e) items) h
            (record_path_out among target only) (items_out among items only))
        stmt_out callable inside among (frees access path) only fits h =
            let does = path_does types variables (Raises e) path in
            left among (does || freeing_does (Raises e) (path_access types variables path)) (parts_do known Finalize (designated_by types (path_access types variables path)))
            (left among does false (path_out among path only h))
        stmt_out callable inside among (gets target) only fits h =
            both among (among EndError) (among ConstraintError && path_raises target) (is_same EndError e) (path_does types variables (Raises e) target) h
            (this_one among EndError only refl) (path_out among target only)
        stmt_out callable inside among (writes x) only fits h = expression_out among x only h
        stmt_out callable inside among (writes_text text) only fits h = absurd (cc h)
        stmt_out callable inside among (chooses branches) only fits h = branches_out callable inside among branches only fits h
        stmt_out callable inside among (repeats condition fs spot) only fits h =
            both among (among ConstraintError && condition_raises condition) (stmts_raise effects among fs) (condition_does types variables (Raises e) condition)
            (stmts_do types variables known (Raises e) fs) h (condition_out among condition only)
            (stmts_out callable true among fs only
            (right_holds (condition_fits types variables condition && has_statement fs) (stmts_fit types variables texts exceptions callable true fs) fits))
        stmt_out callable inside among (counts x low high fs spot) only fits h =
            both among (among ConstraintError && (expression_raises low || expression_raises high)) (stmts_raise effects among fs)
            (expression_does types variables (Raises e) low || expression_does types variables (Raises e) high) (stmts_do types variables known (Raises e) fs) h
            (λ r. two_fail among (expression_raises low) (expression_raises high) (expression_does types variables (Raises e) low) (expression_does types variables (Raises e) high) r
            (expression_out among low only) (expression_out among high only))
            (stmts_out callable true among fs only
            (right_holds (is_type Integer (scalar_of (variable_kind variables x)) && has_type types variables Integer low && has_type types variables Integer high && has_statement fs)
            (stmts_fit types variables texts exceptions callable true fs) fits))
        stmt_out callable inside among (exits condition spot) only fits h = condition_out among condition only h
        stmt_out callable inside among (calls procedure actuals) only fits h =
            both among (among ConstraintError && actuals_raise actuals) (call_raises (slice_get effects.calls procedure) among) (actuals_do types variables (Raises e) actuals)
            (procedure_does known procedure) h
            (failing among (actuals_raise actuals) (λ t. actuals_follow types variables t actuals) only)
            (are.called procedure among only)
        stmt_out callable inside among (returns spot) only fits h = absurd (cc h)
        stmt_out callable inside among (raises x) only fits h = this_one among x only fits h
        stmt_out callable inside among (encloses ds fs hs) only fits h =
            let declared = declarations_fit types variables ds in
            let stated = stmts_fit types variables texts exceptions callable inside fs in
            let handled = handlers_fit types variables texts exceptions callable inside hs in
            let two = left_holds (declared && stated) handled fits in
            block_out among ds fs hs only (initials ds (left_holds declared stated two))
            (λ more m r. stmts_out callable inside more fs m (right_holds declared stated two) r)
            (handlers_out callable inside among hs only (right_holds (declared && stated) handled fits)) h

        stmts_out : (callable : List Profile) (inside : Bool) (among : Exception → Bool) (fs : StmtsForm) → Only e among →
            stmts_fit types variables texts exceptions callable inside fs ≡ true → stmts_raise effects among fs ≡ true →
            Done exceptions e among (stmts_do types variables known (Raises e) fs)
        stmts_out callable inside among no_stmts only fits h = absurd (cc h)
        stmts_out callable inside among (a_stmt f fs) only fits h =
            let here = statement_fits types variables texts exceptions callable inside f in
            let later = stmts_fit types variables texts exceptions callable inside fs in
            both among (stmt_raises effects among f) (stmts_raise effects among fs) (stmt_does types variables known (Raises e) f) (stmts_do types variables known (Raises e) fs) h
            (stmt_out callable inside among f only (left_holds here later fits)) (stmts_out callable inside among fs only (right_holds here later fits))

        branches_out : (callable : List Profile) (inside : Bool) (among : Exception → Bool) (branches : BranchesForm) → Only e among →
            branches_fit types variables texts exceptions callable inside branches ≡ true → branches_raise effects among branches ≡ true →
            Done exceptions e among (branches_do types variables known (Raises e) branches)
        branches_out callable inside among (otherwise fs) only fits h = stmts_out callable inside among fs only fits h
        branches_out callable inside among (a_branch x fs branches) only fits h =
            let here = has_type types variables Boolean x in
            let stated = stmts_fit types variables texts exceptions callable inside fs in
            let later = branches_fit types variables texts exceptions callable inside branches in
            let two = left_holds (here && stated) later fits in
            both among ((among ConstraintError && expression_raises x) || stmts_raise effects among fs) (branches_raise effects among branches)
            (expression_does types variables (Raises e) x || stmts_do types variables known (Raises e) fs) (branches_do types variables known (Raises e) branches) h
            (λ r. both among (among ConstraintError && expression_raises x) (stmts_raise effects among fs) (expression_does types variables (Raises e) x)
            (stmts_do types variables known (Raises e) fs) r (expression_out among x only) (stmts_out callable inside among fs only (right_holds here stated two)))
            (branches_out callable inside among branches only (right_holds (here && stated) later fits))

        handlers_out : (callable : List Profile) (inside : Bool) (among : Exception → Bool) (hs : HandlersForm) → Only e among →
            handlers_fit types variables texts exceptions callable inside hs ≡ true → handlers_raise effects among hs ≡ true →
            Done exceptions e among (handlers_do types variables known (Raises e) hs)
        handlers_out callable inside among no_handlers only fits h = absurd (cc h)
        handlers_out callable inside among (a_handler choices fs hs) only fits h =
            let chosen = list_all (choice_fits exceptions) choices in
            let stated = stmts_fit types variables texts exceptions callable inside fs in
            let later = handlers_fit types variables texts exceptions callable inside hs in
            both among (stmts_raise effects among fs) (handlers_raise effects among hs) (stmts_do types variables known (Raises e) fs) (handlers_do types variables known (Raises e) hs) h
            (stmts_out callable inside among fs only
            (right_holds (chosen && has_statement fs) stated (left_holds (chosen && has_statement fs && stated) later fits)))
            (handlers_out callable inside among hs only (right_holds (chosen && has_statement fs && stated) later fits))

-- A body that fits does what its effects say.
pub body_out : (types : List TypeForm) (texts exceptions : List (List ℕ)) (callable : List Profile) (effects : Effects) (known : Callee → Bool) (e : Exception) →
    AreDone types exceptions effects known e → list_all (type_fits types) types ≡ true → (b : BodyForm) → body_fits types texts exceptions callable b ≡ true →
    (among : Exception → Bool) → Only e among → body_raises effects b among ≡ true → Done exceptions e among (body_does types known (Raises e) b)
body_out types texts exceptions callable effects known e are types_fit b fits among only h =
    let variables = list_all (variable_fits types) b.variables in
    let creates = creates_from (length b.variables) (length b.formals) (created_in b) in
    let declared = declarations_fit types b.variables b.declarations in
    let stated = stmts_fit types b.variables texts exceptions callable false b.statements in
    let handled = handlers_fit types b.variables texts exceptions callable false b.handlers in
    let four = left_holds (variables && creates && declared && stated) handled fits in
    let three = left_holds (variables && creates && declared) stated four in
    let variables_fit = left_holds variables creates (left_holds (variables && creates) declared three) in
    block_out exceptions e types b.variables known types_fit variables_fit texts effects are among b.declarations b.statements b.handlers only
    (initials exceptions e types b.variables known types_fit variables_fit texts effects are b.declarations (right_holds (variables && creates) declared three))
    (λ more m r. stmts_out exceptions e types b.variables known types_fit variables_fit texts effects are callable false more b.statements m
    (right_holds (variables && creates && declared) stated four) r)
    (handlers_out exceptions e types b.variables known types_fit variables_fit texts effects are callable false among b.handlers only
    (right_holds (variables && creates && declared && stated) handled fits)) h
