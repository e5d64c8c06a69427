-- What a form frees is known: where a form frees objects of an access type, and so do calls, initializations, copies and ends of which this is known, the form may
-- free them by its text.

use Rattle.std.proofs.Common.{◌≡◌, ℕ, ◌<◌, Bool, true, false, ◌&&◌, ◌||◌, ◌==◌, not, List, [], ◌∷◌, length, refl, sym, ap, ◌∙◌, inl, inr, subst, arith}
use Rattle.std.proofs.lemmas.Bool.{or_cases, or_left, or_right, eqb-true, not-true}
use Rattle.std.specs.List.{list_all, slice_get}
use Rattle.std.specs.Prelude.{Option, Some, None, is_some}
use Rattle.ada_deeds.specs.Aggregates.{item_is_plain, items_are_plain, items_suit, items_suit_object, right_suits, initial_suits, declaration_suits, stmt_suits, stmts_suit, branches_suit, handlers_suit, body_suits}
use Rattle.ada_deeds.specs.Forms.{freeing_does, is_left, procedure_does, parts_do, creation_does, assignment_does, designated_by, item_does, items_do, right_does, initial_does, declaration_does, declarations_do, ending_does, leaving_does, stmt_does, stmts_do, branches_do, handlers_do, body_does}
use Rattle.ada_deeds.specs.Implicit.{record_at}
use Rattle.ada_deeds.specs.declared.deed.Callee.{Callee}
use Rattle.ada_deeds.specs.declared.deed.Operation.{Operation}
use Rattle.ada_deeds.specs.declared.deed.Operation.TheVariants.{Initialize, Adjust, Finalize}
use Rattle.ada_deeds.proofs.Freed.{deed, own_record, filled_some, object_named_in}
use Rattle.ada_deeds.proofs.More.{Stays, either}
use Rattle.ada_deeds.proofs.Naming.{left_holds, right_holds, KindFits, variable_fits_kind, path_fits_kind, default_access, object_type, access_at, object_at}
use Rattle.ada_deeds.proofs.Parted.{counts_in}
use Rattle.ada_deeds.proofs.RaisesKnown.{is_callable, first_holds, second_holds}
use Rattle.ada_effects.specs.Effects.{Effects, call_frees, right_frees, initial_frees, ending_frees, declaration_frees, declarations_free, passing_frees, leaving_frees, stmt_frees, stmts_free, branches_free, handlers_free, body_frees}
use Rattle.ada_program.specs.declared.program.Finalization.{Finalization}
use Rattle.ada_program.specs.declared.program.ScalarType.TheVariants.{Integer, Boolean}
use Rattle.ada_program.specs.declared.program.VariableKind.{VariableKind}
use Rattle.ada_program.specs.declared.program.VariableKind.TheVariants as variable
use Rattle.ada_program.specs.Form.{ItemForm, null_item, item_of_path, item_of_value, item_of_record, RightForm, nothing, value_of, allocates, allocates_default, computes, DeclarationForm, creates_pool, collects, declares, declares_record, StmtForm, skips, assigns, assigns_record, frees, gets, writes, writes_text, chooses, repeats, counts, exits, calls, returns, raises, encloses, StmtsForm, no_stmts, a_stmt, BranchesForm, otherwise, a_branch, HandlersForm, no_handlers, a_handler}
use Rattle.ada_program.specs.ProgramForm.{TypeForm, record_of, access_to, object_of, VariableForm, BodyForm}
use Rattle.ada_program.specs.WellFormed.{Profile, designated_in, designated_type, named_in, record_components, reached_components, finalization_of, parts_named, object_in, object_named, is_object_type, variable_kind, is_borrower, path_kind, path_access, is_this, type_fits, variable_fits, is_type, scalar_of, has_type, is_filled, is_record_path, item_before, item_owns, is_record_item, is_copy, copies_whole, record_fits, object_fits, names_before, names_borrower, right_fits, lends_to, is_record_object, record_initial_fits, initial_fits, collections_first, collection_fits, declarations_fit, same_record, is_freed_by, condition_fits, has_statement, choice_fits, created_in, creates_from, statement_fits, stmts_fit, branches_fit, handlers_fit, body_fits}

-- What calls and implicit calls do is known, of the procedures up to this count; and an operation does something only where there are controlled parts.
pub record AreKnown (types : List TypeForm) (effects : Effects) (known : Callee → Bool) (t count : ℕ) : Type 0 where
  pub starts : (u : ℕ) → creation_does known (record_at types u) ≡ true → effects.implicit.start_frees u t ≡ true
  pub adjusts : (u : ℕ) → parts_do known Adjust (record_at types u) ≡ true → effects.implicit.adjust_frees u t ≡ true
  pub ends : (u : ℕ) → parts_do known Finalize (record_at types u) ≡ true → effects.implicit.end_frees u t ≡ true
  pub called : (procedure : ℕ) → procedure < count → procedure_does known procedure ≡ true → call_frees (slice_get effects.calls procedure) t ≡ true
  pub parted : (operation : Operation) (r : ℕ) → parts_do known operation (Some r) ≡ true → is_some (finalization_of types r) ≡ true

-- What an access type designates is what it names.
named_by_access : (o : Option TypeForm) (r : ℕ) → designated_in o ≡ Some r → named_in o ≡ Some r
named_by_access None r is = absurd (cc is)
named_by_access (Some (record_of name parts components finalization)) r is = absurd (cc is)
named_by_access (Some (access_to name designated pool)) r is = is
named_by_access (Some (object_of record_type)) r is = absurd (cc is)

-- What designates the same record designates one.
same_some : (o other : Option ℕ) → same_record o other ≡ true → is_some other ≡ true
same_some None other h = absurd (cc h)
same_some (Some r) None h = absurd (cc h)
same_some (Some r) (Some s) h = refl

-- Of four tests one holds, in whichever order.
swapped : (a b c d : Bool) → Stays (a || b || c || d) ((b || c) || (a || d))
swapped true b c d h = or_right (b || c) (true || d) refl
swapped false b c d h = h

module _ (types : List TypeForm) (t : ℕ) (variables : List VariableForm) (known : Callee → Bool) (effects : Effects) (callable : List Profile)
    (are : AreKnown types effects known t (length callable)) (types_fit : list_all (type_fits types) types ≡ true)
    (variables_fit : list_all (variable_fits types) variables ≡ true) (texts exceptions : List (List ℕ)) where
  started : (u : ℕ) (record_type : Option ℕ) → record_at types u ≡ record_type → Stays (creation_does known record_type) (effects.implicit.start_frees u t)
  started u record_type is h = are.starts u (subst (λ (o : Option ℕ). creation_does known o ≡ true) (sym is) h)

  ended : (u : ℕ) (record_type : Option ℕ) → record_at types u ≡ record_type → Stays (parts_do known Finalize record_type) (effects.implicit.end_frees u t)
  ended u record_type is h = are.ends u (subst (λ (o : Option ℕ). parts_do known Finalize o ≡ true) (sym is) h)

  adjusted : (u : ℕ) (record_type : Option ℕ) → record_at types u ≡ record_type → Stays (parts_do known Adjust record_type) (effects.implicit.adjust_frees u t)
  adjusted u record_type is h = are.adjusts u (subst (λ (o : Option ℕ). parts_do known Adjust o ≡ true) (sym is) h)

  -- Items without controlled parts free nothing.
  plain_item : (i : ItemForm) → item_is_plain types i ≡ true → item_does types variables known (deed t) i ≡ true → ⊥
  plain_item null_item is h = cc h
  plain_item (item_of_path path) is h = cc h
  plain_item (item_of_value x) is h = cc h
  plain_item (item_of_record p) is h =
      let some = are.parted Adjust p.record_type (second_holds false (parts_do known Adjust (Some p.record_type)) (λ x. cc x) h) in
      let none = not-true (is_some (finalization_of types p.record_type)) is in
      cc

  plain_items : (items : List ItemForm) → items_are_plain types items ≡ true → items_do types variables known (deed t) items ≡ true → ⊥
  plain_items [] is h = cc h
  plain_items (i ∷ is') is h = elim (or_cases (item_does types variables known (deed t) i) (items_do types variables known (deed t) is') h) [
    | inl x ↦ plain_item i (left_holds (item_is_plain types i) (items_are_plain types is') is) x
    | inr y ↦ plain_items is' (right_holds (item_is_plain types i) (items_are_plain types is') is) y
  ]

  -- What is done for a copy of a record is done for its parts.
  copied_item : (r : ℕ) (i : ItemForm) → is_record_item r i ≡ true → Stays (item_does types variables known (deed t) i) (parts_do known Adjust (Some r))
  copied_item r null_item is h = absurd (cc is)
  copied_item r (item_of_path path) is h = absurd (cc is)
  copied_item r (item_of_value x) is h = absurd (cc is)
  copied_item r (item_of_record p) is h =
      subst (λ (u : ℕ). parts_do known Adjust (Some u) ≡ true) (eqb-true p.record_type r is)
      (second_holds false (parts_do known Adjust (Some p.record_type)) (λ x. cc x) h)

  copied_items : (r : ℕ) (items : List ItemForm) → is_copy r items ≡ true → Stays (items_do types variables known (deed t) items) (parts_do known Adjust (Some r))
  copied_items r [] is h = absurd (cc is)
  copied_items r (i ∷ []) is h =
      copied_item r i (left_holds (is_record_item r i) true is) (first_holds (item_does types variables known (deed t) i) false (λ x. cc x) h)
  copied_items r (i ∷ j ∷ js) is h =
      let none = eqb-true (length (j ∷ js)) 0 (right_holds (is_record_item r i) (length (j ∷ js) == 0) is) in absurd (omega (arith, none))

  copied_whole : (r : ℕ) (f : Option Finalization) (items : List ItemForm) → copies_whole r f items ≡ true → items_suit types f items ≡ true →
      Stays (items_do types variables known (deed t) items) (parts_do known Adjust (Some r))
  copied_whole r None items whole suit h = absurd (plain_items items suit h)
  copied_whole r (Some f) items whole suit h = copied_items r items (right_holds (not f.limited) (is_copy r items) whole) h

  copied_record : (r : ℕ) (items : List ItemForm) → record_fits types variables r items ≡ true → items_suit types (finalization_of types r) items ≡ true →
      Stays (items_do types variables known (deed t) items) (parts_do known Adjust (Some r))
  copied_record r items fits suit h =
      let filled = is_filled types variables (record_components types r) items in
      let owned = list_all (item_owns variables) items in
      copied_whole r (finalization_of types r) items (right_holds (filled && owned) (copies_whole r (finalization_of types r) items) fits) suit h

  copied : (o : Option ℕ) (items : List ItemForm) → object_fits types variables o items ≡ true → items_suit_object types o items ≡ true →
      Stays (items_do types variables known (deed t) items) (parts_do known Adjust o)
  copied None items fits suit h = absurd (cc fits)
  copied (Some r) items fits suit h = copied_record r items fits suit h

  -- Where a type has no controlled parts, nothing is done where an object is created.
  creates_nothing : (o : Option ℕ) → parts_named types o ≡ 0 → creation_does known o ≡ true → ⊥
  creates_nothing None is h = cc h
  creates_nothing (Some r) is h =
      let some : is_some (finalization_of types r) ≡ true = elim (or_cases (parts_do known Initialize (Some r)) (parts_do known Finalize (Some r)) h) [
        | inl x ↦ are.parted Initialize r x
        | inr y ↦ are.parted Finalize r y
      ] in
      let more = counts_in types types_fit r (slice_get types r) refl some in
      absurd (omega (arith, is, more))

  right_nothing : (kind : Option VariableKind) (access : ℕ) (items : List ItemForm) → right_fits types variables kind (allocates access items) ≡ true →
      creation_does known (designated_type types access) ≡ true → ⊥
  right_nothing None access items taken h = cc taken
  right_nothing (Some variable.Integer) access items taken h = cc taken
  right_nothing (Some variable.Boolean) access items taken h = cc taken
  right_nothing (Some (variable.Access own)) access items taken h =
      let same = access == own.0 in
      let filled = is_filled types variables (reached_components types own.0) items in
      let none = right_holds (same && filled) (parts_named types (object_named types (Some own.0)) == 0) taken in
      let is = eqb-true access own.0 (left_holds same filled (left_holds (same && filled) (parts_named types (object_named types (Some own.0)) == 0) taken)) in
      designates_nothing (designated_type types own.0) refl (subst (λ (a : ℕ). creation_does known (designated_type types a) ≡ true) is h)
      (eqb-true (parts_named types (object_named types (Some own.0))) 0 none)
    where
      designates_nothing : (o : Option ℕ) → designated_type types own.0 ≡ o → creation_does known o ≡ true → parts_named types (object_named types (Some own.0)) ≡ 0 → ⊥
      designates_nothing None at x zero_parts = cc x
      designates_nothing (Some r) at x zero_parts =
          creates_nothing (Some r) (ap (parts_named types) (sym (named_by_access (slice_get types own.0) r at)) ∙ zero_parts) x
  right_nothing (Some (variable.Record object)) access items taken h = cc taken

  right_in : (kind : Option VariableKind) (assigned : RightForm) → KindFits types kind → right_fits types variables kind assigned ≡ true →
      right_suits types assigned ≡ true → Stays (right_does types variables known (deed t) assigned) (right_frees effects.implicit t assigned)
  right_in kind nothing fits taken suit h = absurd (cc h)
  right_in kind (value_of path) fits taken suit h = absurd (cc h)
  right_in kind (allocates access items) fits taken suit h =
      absurd (plain_items items suit
      (second_holds false (items_do types variables known (deed t) items) (λ x. cc x)
      (first_holds (false || items_do types variables known (deed t) items) (creation_does known (designated_type types access)) (right_nothing kind access items taken) h)))
  right_in kind (allocates_default access) fits taken suit h =
      started access (designated_type types access) (access_at types access (default_access types types_fit variables variables_fit kind access fits taken))
      (second_holds false (creation_does known (designated_type types access)) (λ x. cc x) h)
  right_in kind (computes x) fits taken suit h = absurd (cc h)

  initial_in : (x object : ℕ) (initial : Option (List ItemForm)) → is_object_type types object ≡ true →
      record_initial_fits types variables x (object_named types (Some object)) initial ≡ true → initial_suits types (object_in (slice_get types object)) initial ≡ true →
      Stays (initial_does types variables known (deed t) (object_in (slice_get types object)) initial) (initial_frees effects.implicit t object initial)
  initial_in x object None is fits suit h = started object (object_in (slice_get types object)) (object_at types object is) h
  initial_in x object (Some items) is fits suit h =
      let named : object_named types (Some object) ≡ object_in (slice_get types object) = object_named_in (slice_get types object) is in
      adjusted object (object_in (slice_get types object)) (object_at types object is)
      (copied (object_in (slice_get types object)) items
      (subst (λ (o : Option ℕ). object_fits types variables o items ≡ true) named
      (right_holds (list_all (item_before x) items) (object_fits types variables (object_named types (Some object)) items) fits)) suit h)

  known_object : (x object : ℕ) (initial : Option (List ItemForm)) → initial_fits types variables (declares_record x object initial) ≡ true → is_object_type types object ≡ true
  known_object x object initial fits =
      let kind = variable_kind variables x in
      object_type types types_fit variables variables_fit kind object (variable_fits_kind types types_fit variables variables_fit x)
      (left_holds (is_record_object object kind) (record_initial_fits types variables x (object_named types (Some object)) initial) fits)

  declaration_in : (d : DeclarationForm) → initial_fits types variables d ≡ true → declaration_suits types d ≡ true →
      Stays (declaration_does types variables known (deed t) d) (declaration_frees effects.implicit t d)
  declaration_in (creates_pool pool) fits suit h = absurd (cc h)
  declaration_in (collects access) fits suit h = absurd (cc h)
  declaration_in (declares x assigned) fits suit h =
      let kind = variable_kind variables x in
      let before = names_before x assigned in
      let takes = right_fits types variables kind assigned in
      right_in kind assigned (variable_fits_kind types types_fit variables variables_fit x)
      (right_holds before takes (left_holds (before && takes) (lends_to variables (is_borrower variables x) assigned) fits)) suit h
  declaration_in (declares_record x object initial) fits suit h =
      initial_in x object initial (known_object x object initial fits)
      (right_holds (is_record_object object (variable_kind variables x)) (record_initial_fits types variables x (object_named types (Some object)) initial) fits) suit h

  declarations_in : (ds : List DeclarationForm) → list_all (initial_fits types variables) ds ≡ true → list_all (declaration_suits types) ds ≡ true →
      Stays (declarations_do types variables known (deed t) ds) (declarations_free effects.implicit t ds)
  declarations_in [] fits suit h = absurd (cc h)
  declarations_in (d ∷ ds) fits suit h =
      let here = initial_fits types variables d in
      let later = list_all (initial_fits types variables) ds in
      let one = declaration_suits types d in
      let more = list_all (declaration_suits types) ds in
      either (declaration_does types variables known (deed t) d) (declarations_do types variables known (deed t) ds)
      (declaration_frees effects.implicit t d) (declarations_free effects.implicit t ds)
      (declaration_in d (left_holds here later fits) (left_holds one more suit)) (declarations_in ds (right_holds here later fits) (right_holds one more suit)) h

  -- What ends where a master is left.
  ending_in : (d : DeclarationForm) → collection_fits types d ≡ true → initial_fits types variables d ≡ true → Stays (ending_does types known d) (passing_frees effects.implicit t d)
  ending_in (creates_pool pool) collect fits h = absurd (cc h)
  ending_in (collects access) collect fits h = ended access (designated_type types access) (access_at types access collect) h
  ending_in (declares x assigned) collect fits h = absurd (cc h)
  ending_in (declares_record x object initial) collect fits h =
      ended object (object_in (slice_get types object)) (object_at types object (known_object x object initial fits)) h

  leaving_in : (ds : List DeclarationForm) → list_all (collection_fits types) ds ≡ true → list_all (initial_fits types variables) ds ≡ true →
      Stays (leaving_does types known ds) (leaving_frees effects.implicit t ds)
  leaving_in [] collect fits h = absurd (cc h)
  leaving_in (d ∷ ds) collect fits h =
      let one = collection_fits types d in
      let more = list_all (collection_fits types) ds in
      let here = initial_fits types variables d in
      let later = list_all (initial_fits types variables) ds in
      either (ending_does types known d) (leaving_does types known ds) (passing_frees effects.implicit t d) (leaving_frees effects.implicit t ds)
      (ending_in d (left_holds one more collect) (left_holds here later fits)) (leaving_in ds (right_holds one more collect) (right_holds here later fits)) h

  -- A block, or a body, by what its statements and its handlers do.
  block_in : (ds : List DeclarationForm) (fs : StmtsForm) (hs : HandlersForm) → declarations_fit types variables ds ≡ true → list_all (declaration_suits types) ds ≡ true →
      Stays (stmts_do types variables known (deed t) fs) (stmts_free types variables effects t fs) →
      Stays (handlers_do types variables known (deed t) hs) (handlers_free types variables effects t hs) →
      Stays (declarations_do types variables known (deed t) ds || (is_left hs (deed t) && stmts_do types variables known (deed t) fs)
      || handlers_do types variables known (deed t) hs || leaving_does types known ds)
      ((stmts_free types variables effects t fs || handlers_free types variables effects t hs) || (declarations_free effects.implicit t ds || leaving_frees effects.implicit t ds))
  block_in ds fs hs fits suit within behind h =
      let declared = declarations_do types variables known (deed t) ds in
      let stated = stmts_do types variables known (deed t) fs in
      let handled = handlers_do types variables known (deed t) hs in
      let leaves = leaving_does types known ds in
      let first = collections_first ds in
      let collect = list_all (collection_fits types) ds in
      let initials = list_all (initial_fits types variables) ds in
      let own = right_holds first collect (left_holds (first && collect) initials fits) in
      let begun = right_holds (first && collect) initials fits in
      either (stated || handled) (declared || leaves) (stmts_free types variables effects t fs || handlers_free types variables effects t hs)
      (declarations_free effects.implicit t ds || leaving_frees effects.implicit t ds)
      (either stated handled (stmts_free types variables effects t fs) (handlers_free types variables effects t hs) within behind)
      (either declared leaves (declarations_free effects.implicit t ds) (leaving_frees effects.implicit t ds) (declarations_in ds begun suit) (leaving_in ds own begun))
      (swapped declared stated handled leaves h)

  -- What is freed is of an access type.
  freed_in : (access : ℕ) (o : Option ℕ) → is_freed_by types access o ≡ true →
      Stays (freeing_does (deed t) o || parts_do known Finalize (designated_by types o)) (is_this t o || ending_frees effects.implicit t o)
  freed_in access None fits h = absurd (cc fits)
  freed_in access (Some a) fits h =
      let is = same_some (designated_type types access) (designated_type types a) fits in
      either (is_this t (Some a)) (parts_do known Finalize (designated_type types a)) (is_this t (Some a)) (effects.implicit.end_frees a t) (λ x. x)
      (ended a (designated_type types a) (access_at types a is)) h

  mutual
    stmt_in : (inside : Bool) (f : StmtForm) → statement_fits types variables texts exceptions callable inside f ≡ true → stmt_suits types f ≡ true →
        Stays (stmt_does types variables known (deed t) f) (stmt_frees types variables effects t f)
    stmt_in inside skips fits suit h = absurd (cc h)
    stmt_in inside (assigns target assigned) fits suit h =
        let kind = path_kind types variables target in
        right_in kind assigned (path_fits_kind types types_fit variables variables_fit target)
        (left_holds (right_fits types variables kind assigned) (lends_to variables (names_borrower variables target) assigned) fits) suit
        (second_holds false (right_does types variables known (deed t) assigned) (λ x. cc x) h)
    stmt_in inside (assigns_record target items) fits suit h =
        let u = target.record_type in
        let filled = is_filled types variables (record_components types u) items in
        let owned = list_all (item_owns variables) items in
        let fit = right_holds (is_record_path types variables target) (record_fits types variables u items) fits in
        let some = filled_some types variables (record_components types u) items
        (left_holds filled owned (left_holds (filled && owned) (copies_whole u (finalization_of types u) items) fit)) in
        let own = own_record u (slice_get types u) some in
        let given = items_do types variables known (deed t) items in
        let frees_end = effects.implicit.end_frees u t in
        let frees_adjusted = effects.implicit.adjust_frees u t in
        elim (or_cases (false || given) (assignment_does known u) h) [
          | inl x ↦ or_right frees_end frees_adjusted (adjusted u (Some u) own (copied_record u items fit suit (second_holds false given (λ y. cc y) x)))
          | inr x ↦ elim (or_cases (parts_do known Adjust (Some u)) (parts_do known Finalize (Some u)) x) [
            | inl a ↦ or_right frees_end frees_adjusted (adjusted u (Some u) own a)
            | inr b ↦ or_left frees_end frees_adjusted (ended u (Some u) own b)
          ]
        ]
    stmt_in inside (frees access path) fits suit h =
        let a = path_access types variables path in
        freed_in access a (left_holds (is_freed_by types access a) (not (names_borrower variables path)) fits) h
    stmt_in inside (gets target) fits suit h = absurd (cc h)
    stmt_in inside (writes x) fits suit h = absurd (cc h)
    stmt_in inside (writes_text text) fits suit h = absurd (cc h)
    stmt_in inside (chooses branches) fits suit h = branches_in inside branches fits suit h
    stmt_in inside (repeats condition fs spot) fits suit h =
        stmts_in true fs (right_holds (condition_fits types variables condition && has_statement fs) (stmts_fit types variables texts exceptions callable true fs) fits) suit
        (second_holds false (stmts_do types variables known (deed t) fs) (λ x. cc x) h)
    stmt_in inside (counts x low high fs spot) fits suit h =
        stmts_in true fs
        (right_holds (is_type Integer (scalar_of (variable_kind variables x)) && has_type types variables Integer low && has_type types variables Integer high && has_statement fs)
        (stmts_fit types variables texts exceptions callable true fs) fits) suit
        (second_holds false (stmts_do types variables known (deed t) fs) (λ x. cc x) h)
    stmt_in inside (exits condition spot) fits suit h = absurd (cc h)
    stmt_in inside (calls procedure actuals) fits suit h =
        are.called procedure (is_callable types variables callable procedure actuals (slice_get callable procedure) refl fits)
        (second_holds false (procedure_does known procedure) (λ x. cc x) h)
    stmt_in inside (returns spot) fits suit h = absurd (cc h)
    stmt_in inside (raises x) fits suit h = absurd (cc h)
    stmt_in inside (encloses ds fs hs) fits suit h =
        let declared = declarations_fit types variables ds in
        let stated = stmts_fit types variables texts exceptions callable inside fs in
        let handled = handlers_fit types variables texts exceptions callable inside hs in
        let two = left_holds (declared && stated) handled fits in
        let one = list_all (declaration_suits types) ds in
        let more = stmts_suit types fs in
        let pair = left_holds (one && more) (handlers_suit types hs) suit in
        block_in ds fs hs (left_holds declared stated two) (left_holds one more pair) (stmts_in inside fs (right_holds declared stated two) (right_holds one more pair))
        (handlers_in inside hs (right_holds (declared && stated) handled fits) (right_holds (one && more) (handlers_suit types hs) suit)) h

    stmts_in : (inside : Bool) (fs : StmtsForm) → stmts_fit types variables texts exceptions callable inside fs ≡ true → stmts_suit types fs ≡ true →
        Stays (stmts_do types variables known (deed t) fs) (stmts_free types variables effects t fs)
    stmts_in inside no_stmts fits suit h = absurd (cc h)
    stmts_in inside (a_stmt f fs) fits suit h =
        let here = statement_fits types variables texts exceptions callable inside f in
        let later = stmts_fit types variables texts exceptions callable inside fs in
        let one = stmt_suits types f in
        let more = stmts_suit types fs in
        either (stmt_does types variables known (deed t) f) (stmts_do types variables known (deed t) fs) (stmt_frees types variables effects t f) (stmts_free types variables effects t fs)
        (stmt_in inside f (left_holds here later fits) (left_holds one more suit)) (stmts_in inside fs (right_holds here later fits) (right_holds one more suit)) h

    branches_in : (inside : Bool) (branches : BranchesForm) → branches_fit types variables texts exceptions callable inside branches ≡ true → branches_suit types branches ≡ true →
        Stays (branches_do types variables known (deed t) branches) (branches_free types variables effects t branches)
    branches_in inside (otherwise fs) fits suit h = stmts_in inside fs fits suit h
    branches_in inside (a_branch x fs branches) fits suit h =
        let here = has_type types variables Boolean x in
        let stated = stmts_fit types variables texts exceptions callable inside fs in
        let later = branches_fit types variables texts exceptions callable inside branches in
        let two = left_holds (here && stated) later fits in
        let one = stmts_suit types fs in
        let more = branches_suit types branches in
        either (stmts_do types variables known (deed t) fs) (branches_do types variables known (deed t) branches)
        (stmts_free types variables effects t fs) (branches_free types variables effects t branches)
        (stmts_in inside fs (right_holds here stated two) (left_holds one more suit))
        (branches_in inside branches (right_holds (here && stated) later fits) (right_holds one more suit)) h

    handlers_in : (inside : Bool) (hs : HandlersForm) → handlers_fit types variables texts exceptions callable inside hs ≡ true → handlers_suit types hs ≡ true →
        Stays (handlers_do types variables known (deed t) hs) (handlers_free types variables effects t hs)
    handlers_in inside no_handlers fits suit h = absurd (cc h)
    handlers_in inside (a_handler choices fs hs) fits suit h =
        let chosen = list_all (choice_fits exceptions) choices in
        let stated = stmts_fit types variables texts exceptions callable inside fs in
        let later = handlers_fit types variables texts exceptions callable inside hs in
        let one = stmts_suit types fs in
        let more = handlers_suit types hs in
        either (stmts_do types variables known (deed t) fs) (handlers_do types variables known (deed t) hs)
        (stmts_free types variables effects t fs) (handlers_free types variables effects t hs)
        (stmts_in inside fs (right_holds (chosen && has_statement fs) stated (left_holds (chosen && has_statement fs && stated) later fits)) (left_holds one more suit))
        (handlers_in inside hs (right_holds (chosen && has_statement fs && stated) later fits) (right_holds one more suit)) h

-- What a body that fits frees is in its effects.
pub body_in : (types : List TypeForm) (texts exceptions : List (List ℕ)) (callable : List Profile) (effects : Effects) (known : Callee → Bool) (t : ℕ) →
    AreKnown types effects known t (length callable) → list_all (type_fits types) types ≡ true → (b : BodyForm) → body_fits types texts exceptions callable b ≡ true →
    body_suits types b ≡ true → body_does types known (deed t) b ≡ true → body_frees types effects b t ≡ true
body_in types texts exceptions callable effects known t are types_fit b fits suit h =
    let variables = list_all (variable_fits types) b.variables in
    let creates = creates_from (length b.variables) (length b.formals) (created_in b) in
    let declared = declarations_fit types b.variables b.declarations in
    let stated = stmts_fit types b.variables texts exceptions callable false b.statements in
    let handled = handlers_fit types b.variables texts exceptions callable false b.handlers in
    let four = left_holds (variables && creates && declared && stated) handled fits in
    let three = left_holds (variables && creates && declared) stated four in
    let variables_fit = left_holds variables creates (left_holds (variables && creates) declared three) in
    let one = list_all (declaration_suits types) b.declarations in
    let more = stmts_suit types b.statements in
    let pair = left_holds (one && more) (handlers_suit types b.handlers) suit in
    block_in types t b.variables known effects callable are types_fit variables_fit texts exceptions b.declarations b.statements b.handlers
    (right_holds (variables && creates) declared three) (left_holds one more pair)
    (stmts_in types t b.variables known effects callable are types_fit variables_fit texts exceptions false b.statements
    (right_holds (variables && creates && declared) stated four) (right_holds one more pair))
    (handlers_in types t b.variables known effects callable are types_fit variables_fit texts exceptions false b.handlers
    (right_holds (variables && creates && declared && stated) handled fits) (right_holds (one && more) (handlers_suit types b.handlers) suit)) h
