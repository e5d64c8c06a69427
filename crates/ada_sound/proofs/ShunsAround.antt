-- The body of an Adjust that tracks components shuns the access type of the object that is adjusted (3.10, 7.6): it follows no value of that type (4.1), and
-- frees none (13.11.2).

use Rattle.std.proofs.Common.{◌≡◌, ℕ, Bool, true, false, not, ◌&&◌, List, [], ◌∷◌, Option, Some, None, drop, refl, sym, ap, ◌∙◌, subst}
use Rattle.std.specs.Prelude.{is_some}
use Rattle.std.specs.List.{list_all, slice_get}
use Rattle.std.proofs.lemmas.Bool.{and_from, and_parts, eqb-true, or_left}
use Rattle.ada_program.specs.declared.program.Program.{Program}
use Rattle.ada_program.specs.declared.program.ScalarType.TheVariants.{Integer, Boolean}
use Rattle.ada_program.specs.declared.program.TypeNo.{TypeNo}
use Rattle.ada_program.specs.declared.program.VariableKind.{VariableKind}
use Rattle.ada_program.specs.declared.program.VariableKind.TheVariants as variable
use Rattle.ada_program.specs.Controlled.{operations_of, procedure_number}
use Rattle.ada_program.specs.Form.{RightForm, nothing, value_of, allocates, allocates_default, computes, DeclarationForm, creates_pool, collects, declares, declares_record, StmtForm, skips, assigns, assigns_record, frees, gets, writes, writes_text, chooses, repeats, counts, exits, calls, returns, raises, encloses, StmtsForm, no_stmts, a_stmt, BranchesForm, otherwise, a_branch, HandlersForm, no_handlers, a_handler}
use Rattle.ada_program.specs.ProgramForm.{TypeForm, record_of, access_to, object_of, VariableForm, BodyForm, ProgramForm, program_form, seen_by}
use Rattle.ada_program.specs.WellFormed.{IsWellFormed, Profile, callable_in, choice_fits, condition_fits, declarations_fit, designated_in, designated_type, finalization_of, has_statement, has_type, is_access, is_freed_by, is_type, names_borrower, path_access, path_kind, same_record, scalar_of, statement_fits, stmts_fit, branches_fit, handlers_fit, value_access, variable_kind}
use Rattle.ada_quiet.specs.Apart.{is_bare_item}
use Rattle.ada_quiet.specs.Bare.{has_bare_objects, is_bare_access}
use Rattle.ada_quiet.specs.Simple.{holds_one_value, is_simple_right, are_simple_declarations, is_simple_stmt, are_simple, are_simple_branches, are_simple_handlers, is_simple_body}
use Rattle.ada_deeds.specs.declared.deed.Callee.TheVariants as callee
use Rattle.ada_deeds.specs.declared.deed.Deed.{Deed}
use Rattle.ada_deeds.specs.declared.deed.Deed.TheVariants.{Frees, Follows}
use Rattle.ada_deeds.specs.declared.deed.Operation.TheVariants.{Adjust}
use Rattle.ada_deeds.specs.Does.{Does}
use Rattle.ada_deeds.specs.Forms.{parts_do}
use Rattle.ada_deeds.specs.Implicit.{record_at, record_in}
use Rattle.ada_deeds.specs.Laws.{DoesFree}
use Rattle.ada_deeds.specs.Within.{does_by}
use Rattle.ada_deeds.proofs.Within.{counts_are_enough}
use Rattle.ada_reaching.specs.Apart.{Apart}
use Rattle.ada_reaching.specs.Deeds.{DoesFollow}
use Rattle.ada_reaching.specs.Forms.{may_end, may_follow, path_shuns, expression_shuns, condition_shuns, item_shuns, right_shuns, declarations_shun, statement_shuns, statements_shun, branches_shun, handlers_shun, body_shuns, record_path_shuns, may_assign, may_replace}
use Rattle.ada_reaching.proofs.Deeds.{unused_body}
use Rattle.ada_typed.proofs.Bodies.{SeenFits, seen_as, seen_fits}
use Rattle.ada_typed.proofs.Lying.{IsOperable}
use Rattle.ada_sound.proofs.FrugalUseEnds.{done_lying}
use Rattle.ada_sound.proofs.Shunning.{all_so, all_may, path_shaped, expression_shaped, condition_shaped, item_shaped}
use Rattle.ada_sound.proofs.Sparing.{bare_apart, is_around}
use Rattle.ada_sound.proofs.SparesOwn.{spares_end}
use Rattle.ada_sound.specs.Always.{SparesAdjusted, SparesOwn}

-- What a Free is given is of a type whose objects have no controlled parts, where those of the type of its instance have none (13.11.2).
module _ (types : List TypeForm) where
  -- Whether they have some, the type says that the access type designates.
  bare_named : (o : Option TypeForm) (t : ℕ) → designated_in o ≡ Some t → is_bare_access types o ≡ not (is_some (finalization_of types t))
  bare_named None t is = absurd (cc is)
  bare_named (Some (record_of name parts components finalization)) t is = absurd (cc is)
  bare_named (Some (access_to name designated pool)) t is =
      let same : designated ≡ t = cc is in
      ap (λ (n : ℕ). not (is_some (finalization_of types n))) same
  bare_named (Some (object_of record_type)) t is = absurd (cc is)

  -- Both types designate one.
  one_record : (o other : Option ℕ) → same_record o other ≡ true → (t : ℕ) × (o ≡ Some t) × (other ≡ Some t)
  one_record None other same = absurd (cc same)
  one_record (Some t) None same = absurd (cc same)
  one_record (Some t) (Some u) same = let is = eqb-true u t same in (t, refl, ap (λ (n : ℕ). Some n) is)

  bare_too : (access own : ℕ) → is_freed_by types access (Some own) ≡ true → has_bare_objects types access ≡ true → has_bare_objects types own ≡ true
  bare_too access own freed bare =
      let one = one_record (designated_type types access) (designated_type types own) freed in
      bare_named (slice_get types own) one.0 one.2 ∙ sym (bare_named (slice_get types access) one.0 one.1) ∙ bare

-- Simple bodies are of the shape of bodies that shun types: they call nothing, and allocate and free no object with controlled parts.
module _ (program : Program) (variables : List VariableForm) (texts exceptions : List (List ℕ)) (callable : List Profile) where
  abbrev types : List TypeForm
  types = (program_form program).types

  abbrev apart : Apart
  apart = bare_apart program

  -- What is freed may be.
  end_shaped :
      (access : ℕ) (kind : Option VariableKind) → is_freed_by types access (value_access kind) ≡ true → has_bare_objects types access ≡ true
      → may_end apart kind ≡ true
  end_shaped access None freed bare = refl
  end_shaped access (Some variable.Integer) freed bare = refl
  end_shaped access (Some variable.Boolean) freed bare = refl
  end_shaped access (Some (variable.Access own)) freed bare = bare_too types access own.0 freed bare
  end_shaped access (Some (variable.Record object)) freed bare = refl

  -- What is assigned is of the shape.
  right_shaped : (right : RightForm) → is_simple_right types right ≡ true → right_shuns types (λ t. false) apart variables right ≡ true
  right_shaped nothing is = refl
  right_shaped (value_of path) is = path_shaped types apart variables path
  right_shaped (allocates access items) is =
      let test = item_shuns types (λ t. false) apart variables in
      and_from (has_bare_objects types access) (list_all test items) is
      (all_so test (item_shaped types apart variables) items)
  right_shaped (allocates_default access) is = or_left (has_bare_objects types access) false is
  right_shaped (computes e) is = expression_shaped types apart variables e

  -- So are declarations.
  declarations_shaped : (ds : List DeclarationForm) → are_simple_declarations types ds ≡ true → declarations_shun types (λ t. false) apart variables ds ≡ true
  declarations_shaped [] is = refl
  declarations_shaped (creates_pool p ∷ ds) is = absurd (cc is)
  declarations_shaped (collects access ∷ ds) is = absurd (cc is)
  declarations_shaped (declares x right ∷ ds) is =
      let both = and_parts (is_simple_right types right) (are_simple_declarations types ds) is in
      and_from (right_shuns types (λ t. false) apart variables right) (declarations_shun types (λ t. false) apart variables ds) (right_shaped right both.0)
      (declarations_shaped ds both.1)
  declarations_shaped (declares_record x t initial ∷ ds) is = absurd (cc is)

  -- A block, or a body, is so, where its statements and its handlers are.
  master_shaped :
      (inside : Bool) (ds : List DeclarationForm) (fs : StmtsForm) (hs : HandlersForm)
      → (stmts_fit types variables texts exceptions callable inside fs ≡ true → are_simple types fs ≡ true
      → statements_shun types (λ t. false) apart variables fs ≡ true)
      → (handlers_fit types variables texts exceptions callable inside hs ≡ true → are_simple_handlers types hs ≡ true
      → handlers_shun types (λ t. false) apart variables hs ≡ true)
      → stmts_fit types variables texts exceptions callable inside fs ≡ true → handlers_fit types variables texts exceptions callable inside hs ≡ true
      → (are_simple_declarations types ds && are_simple types fs && are_simple_handlers types hs) ≡ true
      → (declarations_shun types (λ t. false) apart variables ds && statements_shun types (λ t. false) apart variables fs
      && handlers_shun types (λ t. false) apart variables hs) ≡ true
  master_shaped inside ds fs hs within behind fits handled is =
      let outer = and_parts (are_simple_declarations types ds && are_simple types fs) (are_simple_handlers types hs) is in
      let inner = and_parts (are_simple_declarations types ds) (are_simple types fs) outer.0 in
      let declared = declarations_shun types (λ t. false) apart variables ds in
      let stated = statements_shun types (λ t. false) apart variables fs in
      and_from (declared && stated) (handlers_shun types (λ t. false) apart variables hs)
      (and_from declared stated (declarations_shaped ds inner.0) (within fits inner.1)) (behind handled outer.1)

  mutual
    statement_shaped :
        (inside : Bool) (f : StmtForm) → statement_fits types variables texts exceptions callable inside f ≡ true → is_simple_stmt types f ≡ true
        → statement_shuns types (λ t. false) apart variables f ≡ true
    statement_shaped inside skips fits is = refl
    statement_shaped inside (assigns target right) fits is =
        and_from (path_shuns types (λ t. false) apart variables target) (right_shuns types (λ t. false) apart variables right)
        (path_shaped types apart variables target) (right_shaped right is)
    statement_shaped inside (assigns_record target items) fits is =
        let parted = is_some (finalization_of types target.record_type) in
        let bare = (and_parts (not parted) (list_all (is_bare_item types) items) is).0 in
        let test = item_shuns types (λ t. false) apart variables in
        let kind = path_kind types variables target.object in
        let way = record_path_shuns types (λ t. false) apart variables target in
        and_from (way && list_all test items) (may_assign types apart target.record_type)
        (and_from way (list_all test items)
        (and_from (path_shuns types (λ t. false) apart variables target.object) (may_follow (λ t. false) kind) (path_shaped types apart variables target.object) (all_may kind))
        (all_so test (item_shaped types apart variables) items))
        (or_left (not parted) (may_replace apart target.record_type) bare)
    statement_shaped inside (frees access path) fits is =
        let kind = path_kind types variables path in
        let freed = (and_parts (is_freed_by types access (path_access types variables path)) (not (names_borrower variables path)) fits).0 in
        let bare = is in
        let leads = path_shuns types (λ t. false) apart variables path in
        and_from (leads && may_follow (λ t. false) kind) (may_end apart kind)
        (and_from leads (may_follow (λ t. false) kind) (path_shaped types apart variables path) (all_may kind)) (end_shaped access kind freed bare)
    statement_shaped inside (gets target) fits is = path_shaped types apart variables target
    statement_shaped inside (writes e) fits is = expression_shaped types apart variables e
    statement_shaped inside (writes_text text) fits is = refl
    statement_shaped inside (chooses branches) fits is = branches_shaped inside branches fits is
    statement_shaped inside (repeats condition fs spot) fits is =
        let tested = condition_fits types variables condition && has_statement fs in
        let within = and_parts tested (stmts_fit types variables texts exceptions callable true fs) fits in
        and_from (condition_shuns types (λ t. false) apart variables condition) (statements_shun types (λ t. false) apart variables fs)
        (condition_shaped types apart variables condition) (statements_shaped true fs within.1 is)
    statement_shaped inside (counts x low high fs spot) fits is =
        let kind = is_type Integer (scalar_of (variable_kind variables x)) in
        let counted = kind && has_type types variables Integer low && has_type types variables Integer high && has_statement fs in
        let within = and_parts counted (stmts_fit types variables texts exceptions callable true fs) fits in
        let from = expression_shuns types (λ t. false) apart variables low in
        let to = expression_shuns types (λ t. false) apart variables high in
        and_from (from && to) (statements_shun types (λ t. false) apart variables fs)
        (and_from from to (expression_shaped types apart variables low) (expression_shaped types apart variables high)) (statements_shaped true fs within.1 is)
    statement_shaped inside (exits condition spot) fits is = condition_shaped types apart variables condition
    statement_shaped inside (calls procedure actuals) fits is = absurd (cc is)
    statement_shaped inside (returns spot) fits is = refl
    statement_shaped inside (raises e) fits is = refl
    statement_shaped inside (encloses ds fs hs) fits is =
        let fit = stmts_fit types variables texts exceptions callable inside fs in
        let outer = and_parts (declarations_fit types variables ds && fit) (handlers_fit types variables texts exceptions callable inside hs) fits in
        master_shaped inside ds fs hs (statements_shaped inside fs) (handlers_shaped inside hs)
        (and_parts (declarations_fit types variables ds) fit outer.0).1 outer.1 is

    statements_shaped :
        (inside : Bool) (fs : StmtsForm) → stmts_fit types variables texts exceptions callable inside fs ≡ true → are_simple types fs ≡ true
        → statements_shun types (λ t. false) apart variables fs ≡ true
    statements_shaped inside no_stmts fits is = refl
    statements_shaped inside (a_stmt f fs) fits is =
        let first = statement_fits types variables texts exceptions callable inside f in
        let fit = and_parts first (stmts_fit types variables texts exceptions callable inside fs) fits in
        let both = and_parts (is_simple_stmt types f) (are_simple types fs) is in
        and_from (statement_shuns types (λ t. false) apart variables f) (statements_shun types (λ t. false) apart variables fs)
        (statement_shaped inside f fit.0 both.0) (statements_shaped inside fs fit.1 both.1)

    branches_shaped :
        (inside : Bool) (branches : BranchesForm) → branches_fit types variables texts exceptions callable inside branches ≡ true
        → are_simple_branches types branches ≡ true → branches_shun types (λ t. false) apart variables branches ≡ true
    branches_shaped inside (otherwise fs) fits is = statements_shaped inside fs fits is
    branches_shaped inside (a_branch e fs branches) fits is =
        let first = stmts_fit types variables texts exceptions callable inside fs in
        let fit = and_parts (has_type types variables Boolean e && first) (branches_fit types variables texts exceptions callable inside branches) fits in
        let both = and_parts (are_simple types fs) (are_simple_branches types branches) is in
        let tested = expression_shuns types (λ t. false) apart variables e in
        let within = statements_shun types (λ t. false) apart variables fs in
        and_from (tested && within) (branches_shun types (λ t. false) apart variables branches)
        (and_from tested within (expression_shaped types apart variables e)
        (statements_shaped inside fs (and_parts (has_type types variables Boolean e) first fit.0).1 both.0))
        (branches_shaped inside branches fit.1 both.1)

    handlers_shaped :
        (inside : Bool) (hs : HandlersForm) → handlers_fit types variables texts exceptions callable inside hs ≡ true → are_simple_handlers types hs ≡ true
        → handlers_shun types (λ t. false) apart variables hs ≡ true
    handlers_shaped inside no_handlers fits is = refl
    handlers_shaped inside (a_handler choices fs hs) fits is =
        let first = stmts_fit types variables texts exceptions callable inside fs in
        let chosen = list_all (choice_fits exceptions) choices && has_statement fs in
        let fit = and_parts (chosen && first) (handlers_fit types variables texts exceptions callable inside hs) fits in
        let both = and_parts (are_simple types fs) (are_simple_handlers types hs) is in
        and_from (statements_shun types (λ t. false) apart variables fs) (handlers_shun types (λ t. false) apart variables hs)
        (statements_shaped inside fs (and_parts chosen first fit.0).1 both.0) (handlers_shaped inside hs fit.1 both.1)

-- A simple body of a procedure is of the shape.
simple_shaped :
    (program : Program) → IsWellFormed (program_form program) → (number : ℕ) (b : BodyForm) → slice_get (program_form program).bodies number ≡ Some b
    → is_simple_body (program_form program).types b ≡ true
    → body_shuns (program_form program).types (λ t. false) (bare_apart program) b ≡ true
simple_shaped program well number b there is =
    let p = program_form program in
    let fits = subst (λ (own : ProgramForm). SeenFits own) (seen_as p number b there) (seen_fits p well (Some number)) in
    let declared = are_simple_declarations p.types b.declarations in
    let one = list_all (λ x. holds_one_value x.kind) (drop 1 b.variables) in
    let outer = and_parts (one && declared && are_simple p.types b.statements) (are_simple_handlers p.types b.handlers) is in
    let inner = and_parts (one && declared) (are_simple p.types b.statements) outer.0 in
    let simple =
    and_from (declared && are_simple p.types b.statements) (are_simple_handlers p.types b.handlers)
    (and_from declared (are_simple p.types b.statements) (and_parts one declared inner.0).1 inner.1) outer.1 in
    let callable = callable_in (seen_by number b p) in
    master_shaped program b.variables p.texts p.exceptions callable false b.declarations b.statements b.handlers
    (statements_shaped program b.variables p.texts p.exceptions callable false b.statements)
    (handlers_shaped program b.variables p.texts p.exceptions callable false b.handlers) fits.statements_fit fits.handlers_fit simple

-- Where an object of an access type is adjusted, no value of that type is followed, and none is freed.
module _
    (program : Program) (well : IsWellFormed (program_form program)) (adjusted : SparesAdjusted (program_form program)) (own : SparesOwn program)
    (access of part number : ℕ) (operable : IsOperable (program_form program).types access of part)
    (overrides : procedure_number (operations_of program.types.items of).adjust ≡ Some number)
  where
    abbrev p : ProgramForm
    p = program_form program

    -- What the Adjust of a part does, the adjustment of the object does.
    object_does : (d : Deed) → Does p d (callee.Procedure (record { 0 = number })) → parts_do (does_by p d) Adjust (record_at p.types access) ≡ true
    object_does d done = done_lying program well d Adjust access of part number operable overrides done

    -- An access type designates the record type of its objects (3.10).
    designated : (o : Option TypeForm) → is_some (designated_in o) ≡ true → (t : ℕ) × (designated_in o ≡ Some t) × (record_in access o ≡ Some t)
    designated None is = absurd (cc is)
    designated (Some (record_of name parts components finalization)) is = absurd (cc is)
    designated (Some (access_to name t pool)) is = (t, refl, refl)
    designated (Some (object_of record_type)) is = absurd (cc is)

    follows_none : is_access p.types access ≡ true → ¬ DoesFollow p number access
    follows_none is done =
        let d : Deed = Follows (record { 0 = access }) in
        let (t, at, found) = designated (slice_get p.types access) is in
        let whole : TypeNo = record { 0 = t } in
        adjusted access whole at
        ((counts_are_enough p d (callee.Parts Adjust whole)).0 (sym (ap (parts_do (does_by p d) Adjust) found) ∙ object_does d done))

    frees_none : is_access p.types access ≡ true → ¬ DoesFree p number access
    frees_none is done =
        let freed = object_does (Frees (record { 0 = access })) done in
        let spared = (spares_end p own access is).1 in
        cc (freed, spared)

    -- It is the type that is shunned.
    only_around : (t : ℕ) → is_around access t ≡ true → t ≡ access
    only_around t is = eqb-true t access is

    -- So the body shuns it.
    pub shuns_around :
        (b : BodyForm) → slice_get p.bodies number ≡ Some b → is_simple_body p.types b ≡ true
        → body_shuns p.types (is_around access) (bare_apart program) b ≡ true
    shuns_around b there simple =
        unused_body p (is_around access) (bare_apart program) well number b there
        (λ t around is done.
        let same = only_around t around in
        follows_none (sym (ap (is_access p.types) same) ∙ is) (subst (λ (n : ℕ). DoesFollow p number n) same done))
        (λ t around is done.
        let same = only_around t around in
        frees_none (sym (ap (is_access p.types) same) ∙ is) (subst (λ (n : ℕ). DoesFree p number n) same done))
        (simple_shaped program well number b there simple)
