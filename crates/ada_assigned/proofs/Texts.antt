-- What the text of operations says (7.6): where one assigns to a record with controlled parts, that lies inside of the formal parameter, or in another variable. And
-- what that of procedures says that they call: it lies in a record object that such a body declares.

use Rattle.std.proofs.Common.{◌≡◌, ℕ, zero, suc, ◌+◌, ◌<◌, ◌≤◌, ◌==◌, Bool, true, false, ◌&&◌, ◌||◌, not, if◌then◌else◌, List, [], ◌∷◌, length, map, take, Option, Some, None, is_some, arith, refl, sym, ap, ◌∙◌, subst, ◌⊎◌, inl, inr}
use Rattle.std.specs.Prelude.{find, nat_lt}
use Rattle.std.specs.List.{slice_get, list_all}
use Rattle.std.proofs.lemmas.Bool.{ltb-false}
use Rattle.std.proofs.lemmas.Bool.Decides.{eqb_tells}
use Rattle.ada_program.specs.declared.program.Finalization.{Finalization}
use Rattle.ada_program.specs.declared.program.Operations.{Operations}
use Rattle.ada_program.specs.declared.program.ProcedureNo.{ProcedureNo}
use Rattle.ada_program.specs.declared.program.Program.{Program}
use Rattle.ada_program.specs.declared.program.TypeDefinition.{TypeDefinition}
use Rattle.ada_program.specs.declared.program.TypeDefinition.TheVariants as definition
use Rattle.ada_program.specs.declared.program.VariableKind.{VariableKind}
use Rattle.ada_program.specs.declared.program.VariableKind.TheVariants as variable
use Rattle.ada_program.specs.Controlled.{is_number, number_in, number_by, number_of, operations_in, operations_by, operations_of, procedure_number, shapes_of}
use Rattle.ada_program.specs.Form.{RecordPathForm, ActualForm, StmtForm, skips, assigns, assigns_record, frees, gets, writes, writes_text, chooses, repeats, counts, exits, calls, returns, raises, encloses, StmtsForm, no_stmts, a_stmt, BranchesForm, otherwise, a_branch, HandlersForm, no_handlers, a_handler}
use Rattle.ada_program.proofs.Shapes.{same_number}
use Rattle.ada_program.specs.ProgramForm.{TypeForm, record_of, access_to, object_of, type_form, VariableForm, BodyForm, program_form, body_forms}
use Rattle.ada_program.specs.WellFormed.{IsWellFormed, finalization_in, finalization_of, access_of, variable_kind, kind_held, root_kind, path_kind, part_count, parts_named, object_named, object_in, named_in, selectors_kind, is_found, place_from, is_part_of, has_parts_from, has_parts_at, has_record_at, object_components, record_components, is_record_path, record_fits, has_type, condition_fits, has_statement, choice_fits, declarations_fit, is_type, scalar_of, Profile, profile_of, suits_profile, actual_fits, actuals_fit, modes_fit, formal_kinds, statement_fits, stmts_fit, branches_fit, handlers_fit, body_fits, creates_from, created_in, variable_fits}
use Rattle.ada_program.specs.declared.program.ScalarType.TheVariants.{Integer, Boolean}
use Rattle.ada_parts.specs.Shape.{parts_of}
use Rattle.ada_meaning.specs.declared.event.Birth.{Birth}
use Rattle.ada_meaning.specs.declared.event.Birth.TheVariants.{Creation, Copy, Adjustment}
use Rattle.ada_meaning.specs.Step.{has_parts, parts_for, beginning as begun_by}
use Rattle.ada_typed.proofs.Bodies.{body_at}
use Rattle.ada_typed.proofs.Operators.{and_left, and_right}
use Rattle.ada_typed.proofs.Overridings.{OperationFor, beginning_for}
use Rattle.ada_typed.proofs.Parts.{record_counted}
use Rattle.ada_assigned.specs.Law.{is_empty, lies_at_hand, lies_beside, CalledAssignBeside, procedure_assigns_beside, assigns_inside, all_assign_inside, branches_assign_inside, handlers_assign_inside, body_assigns_inside, procedure_assigns_inside, operation_assigns_inside, type_assigns_inside, operations_assign_inside}
use Rattle.ada_assigned.proofs.Keeping.{Told, Allows, Calls, InCalled, StmtAssigns, StmtsAssign, BranchesAssign, HandlersAssign, BodyAssigns, IsAtHand, IsBeside, IsInner, InBeginning, InEnding, OperationsAssign}

-- Statements that assign and call only what they may, and that fit.
module _ (P : Allows) (types : List TypeForm) (may_assign : RecordPathForm → Bool) (may_call : ℕ → Bool) (variables : List VariableForm) (texts exceptions : List (List ℕ)) (callable : List Profile)
    (each : (target : RecordPathForm) → (not (is_some (finalization_of types target.record_type)) || may_assign target) ≡ true → is_record_path types variables target ≡ true → P.assigned target)
    (called : (procedure : ℕ) (actuals : List ActualForm) → may_call procedure ≡ true → suits_profile types variables (slice_get callable procedure) actuals ≡ true → P.called procedure actuals) where
  mutual
    stmt_assigns : (inside : Bool) (f : StmtForm) → statement_fits types variables texts exceptions callable inside f ≡ true → assigns_inside types may_assign may_call f ≡ true
        → StmtAssigns P f
    stmt_assigns inside skips fits own = tt
    stmt_assigns inside (assigns target right) fits own = tt
    stmt_assigns inside (assigns_record target items) fits own =
        each target own (and_left (is_record_path types variables target) (record_fits types variables target.record_type items) fits)
    stmt_assigns inside (frees access path) fits own = tt
    stmt_assigns inside (gets target) fits own = tt
    stmt_assigns inside (writes e) fits own = tt
    stmt_assigns inside (writes_text text) fits own = tt
    stmt_assigns inside (chooses branches) fits own = branches_assign inside branches fits own
    stmt_assigns inside (repeats condition fs spot) fits own =
        let begun = condition_fits types variables condition && has_statement fs in
        stmts_assign true fs (and_right begun (stmts_fit types variables texts exceptions callable true fs) fits) own
    stmt_assigns inside (counts x low high fs spot) fits own =
        let begun =
        is_type Integer (scalar_of (variable_kind variables x)) && has_type types variables Integer low && has_type types variables Integer high && has_statement fs in
        stmts_assign true fs (and_right begun (stmts_fit types variables texts exceptions callable true fs) fits) own
    stmt_assigns inside (exits condition spot) fits own = tt
    stmt_assigns inside (calls procedure actuals) fits own = called procedure actuals own fits
    stmt_assigns inside (returns spot) fits own = tt
    stmt_assigns inside (raises e) fits own = tt
    stmt_assigns inside (encloses ds fs hs) fits own =
        let declared = declarations_fit types variables ds in
        let done = stmts_fit types variables texts exceptions callable inside fs in
        let handled = handlers_fit types variables texts exceptions callable inside hs in
        let both = and_left (declared && done) handled fits in (
          stmts_assign inside fs (and_right declared done both) (and_left (all_assign_inside types may_assign may_call fs) (handlers_assign_inside types may_assign may_call hs) own),
          handlers_assign inside hs (and_right (declared && done) handled fits) (and_right (all_assign_inside types may_assign may_call fs) (handlers_assign_inside types may_assign may_call hs) own),
        )

    stmts_assign : (inside : Bool) (fs : StmtsForm) → stmts_fit types variables texts exceptions callable inside fs ≡ true → all_assign_inside types may_assign may_call fs ≡ true
        → StmtsAssign P fs
    stmts_assign inside no_stmts fits own = tt
    stmts_assign inside (a_stmt f fs) fits own =
        let here = statement_fits types variables texts exceptions callable inside f in
        let later = stmts_fit types variables texts exceptions callable inside fs in
        let one = assigns_inside types may_assign may_call f in
        let more = all_assign_inside types may_assign may_call fs in
        (stmt_assigns inside f (and_left here later fits) (and_left one more own), stmts_assign inside fs (and_right here later fits) (and_right one more own))

    branches_assign : (inside : Bool) (branches : BranchesForm) → branches_fit types variables texts exceptions callable inside branches ≡ true
        → branches_assign_inside types may_assign may_call branches ≡ true → BranchesAssign P branches
    branches_assign inside (otherwise fs) fits own = stmts_assign inside fs fits own
    branches_assign inside (a_branch e fs branches) fits own =
        let condition = has_type types variables Boolean e in
        let here = stmts_fit types variables texts exceptions callable inside fs in
        let later = branches_fit types variables texts exceptions callable inside branches in
        let first = and_left (condition && here) later fits in
        let one = all_assign_inside types may_assign may_call fs in
        let more = branches_assign_inside types may_assign may_call branches in (
          stmts_assign inside fs (and_right condition here first) (and_left one more own),
          branches_assign inside branches (and_right (condition && here) later fits) (and_right one more own),
        )

    handlers_assign : (inside : Bool) (hs : HandlersForm) → handlers_fit types variables texts exceptions callable inside hs ≡ true
        → handlers_assign_inside types may_assign may_call hs ≡ true → HandlersAssign P hs
    handlers_assign inside no_handlers fits own = tt
    handlers_assign inside (a_handler choices fs hs) fits own =
        let front = list_all (choice_fits exceptions) choices && has_statement fs in
        let here = stmts_fit types variables texts exceptions callable inside fs in
        let later = handlers_fit types variables texts exceptions callable inside hs in
        let first = and_left (front && here) later fits in
        let one = all_assign_inside types may_assign may_call fs in
        let more = handlers_assign_inside types may_assign may_call hs in (
          stmts_assign inside fs (and_right front here first) (and_left one more own),
          handlers_assign inside hs (and_right (front && here) later fits) (and_right one more own),
        )

-- A body that fits.
body_assigns :
    (P : Allows) (types : List TypeForm) (may_assign : RecordPathForm → Bool) (may_call : ℕ → Bool) (texts exceptions : List (List ℕ)) (callable : List Profile) (b : BodyForm)
    → ((target : RecordPathForm) → (not (is_some (finalization_of types target.record_type)) || may_assign target) ≡ true → is_record_path types b.variables target ≡ true → P.assigned target)
    → ((procedure : ℕ) (actuals : List ActualForm) → may_call procedure ≡ true → suits_profile types b.variables (slice_get callable procedure) actuals ≡ true → P.called procedure actuals)
    → body_fits types texts exceptions callable b ≡ true → body_assigns_inside types may_assign may_call b ≡ true → BodyAssigns P b
body_assigns P types may_assign may_call texts exceptions callable b each called fits own =
    let variables = list_all (variable_fits types) b.variables in
    let creates = creates_from (length b.variables) (length b.formals) (created_in b) in
    let declared = declarations_fit types b.variables b.declarations in
    let done = stmts_fit types b.variables texts exceptions callable false b.statements in
    let handled = handlers_fit types b.variables texts exceptions callable false b.handlers in
    let four = and_left (variables && creates && declared && done) handled fits in
    let one = all_assign_inside types may_assign may_call b.statements in
    let more = handlers_assign_inside types may_assign may_call b.handlers in (
      stmts_assign P types may_assign may_call b.variables texts exceptions callable each called false b.statements (and_right (variables && creates && declared) done four) (and_left one more own),
      handlers_assign P types may_assign may_call b.variables texts exceptions callable each called false b.handlers
          (and_right (variables && creates && declared && done) handled fits) (and_right one more own),
    )

-- How many formal parameters a procedure has, if there is one.
abbrev pub count_formals : Option BodyForm → ℕ
count_formals None = 0
count_formals (Some b) = length b.formals

-- A call gives no more actual parameters (6.4.1).
module _ (types : List TypeForm) (variables : List VariableForm) (actuals : List ActualForm) where
  fitting_count : (kinds : List VariableKind) (given : List ActualForm) → actuals_fit types variables kinds given ≡ true → length given ≡ length kinds
  fitting_count [] [] fits = refl
  fitting_count [] (a ∷ rest) fits = absurd (cc fits)
  fitting_count (kind ∷ kinds) [] fits = absurd (cc fits)
  fitting_count (kind ∷ kinds) (a ∷ rest) fits =
      ap suc (fitting_count kinds rest (and_right (actual_fits types variables kind a) (actuals_fit types variables kinds rest) fits))

  kinds_count : (n : ℕ) (xs : List VariableForm) → length (map kind_held (take n xs)) ≤ n
  kinds_count zero xs = omega arith
  kinds_count (suc n) [] = omega arith
  kinds_count (suc n) (x ∷ xs) = let rest = kinds_count n xs in omega (arith, rest)

  given_count : (n procedure : ℕ) (bodies : List BodyForm) → suits_profile types variables (slice_get (map profile_of (take n bodies)) procedure) actuals ≡ true
      → length actuals ≤ count_formals (slice_get bodies procedure)
  given_count zero procedure bodies suits = absurd (cc suits)
  given_count (suc n) procedure [] suits = absurd (cc suits)
  given_count (suc n) zero (b ∷ bodies) suits =
      let same = fitting_count (formal_kinds b) actuals (and_left (actuals_fit types variables (formal_kinds b) actuals) (modes_fit b.formals actuals) suits) in
      let fewer = kinds_count (length b.formals) b.variables in
      omega (arith, same, fewer)
  given_count (suc n) (suc procedure) (b ∷ bodies) suits = given_count n procedure bodies suits

-- A record type that has controlled parts says so.
some_of : (o : Option Finalization) → is_some (number_in o) ≡ true → is_some o ≡ true
some_of None is = absurd (cc)
some_of (Some f) is = refl

said_parts : (types : List TypeDefinition) (t : ℕ) → has_parts types t ≡ true → is_some (finalization_of (map type_form types) t) ≡ true
said_parts types t is = some_of (finalization_of (map type_form types) t) (ap is_some (sym (same_number types t)) ∙ is)

may_be : (said may : Bool) → (not said || may) ≡ true → said ≡ true → may ≡ true
may_be true may is said = is
may_be false may is said = absurd (cc)

-- What begins a part assigns inside of that.
named_by : (o : Option TypeForm) (t : ℕ) → object_in o ≡ Some t → named_in o ≡ Some t
named_by None t is = absurd (cc)
named_by (Some (record_of name parts components finalization)) t is = absurd (cc)
named_by (Some (access_to name designated pool)) t is = absurd (cc)
named_by (Some (object_of record_type)) t is = is

formal_first : (n : ℕ) (variables : List VariableForm) (kind : VariableKind) → slice_get (map kind_held (take n variables)) 0 ≡ Some kind → variable_kind variables 0 ≡ Some kind
formal_first zero variables kind is = absurd (cc)
formal_first (suc n) [] kind is = absurd (cc)
formal_first (suc n) (v ∷ variables) kind is = is

no_selectors : (cs : List ℕ) → is_empty cs ≡ true → cs ≡ []
no_selectors [] is = refl
no_selectors (c ∷ cs) is = absurd (cc)

not_zero : (n : ℕ) → not (n == 0) ≡ true → 0 < n
not_zero zero is = absurd (cc)
not_zero (suc n) is = omega arith

-- The path of a record that lies at hand.
module _ (within : ℕ → Bool) (target : RecordPathForm) (hand : lies_at_hand within target ≡ true) where
  abbrev straight : Bool
  straight = target.object.of_record && is_empty target.object.selectors

  abbrev inside : Bool
  inside = not (target.object.root == 0) || (within target.record_type && not (target.part == 0))

  of_record : target.object.of_record ≡ true
  of_record = and_left target.object.of_record (is_empty target.object.selectors) (and_left straight inside hand)

  none_selected : target.object.selectors ≡ []
  none_selected = no_selectors target.object.selectors (and_right target.object.of_record (is_empty target.object.selectors) (and_left straight inside hand))

  -- It lies in the formal parameter, or in another variable.
  path_at_hand : ((within target.record_type ≡ true) × IsAtHand target) ⊎ IsBeside 1 target
  path_at_hand = by (split target.object.root target.part (within target.record_type) (and_right straight inside hand))
    where
      split :
          (root part : ℕ) (may : Bool) → (not (root == 0) || (may && not (part == 0))) ≡ true → ((may ≡ true) × (root ≡ 0) × (0 < part)) ⊎ (0 < root)
      split zero part false is = absurd (cc is)
      split zero part true is = inl (refl, refl, not_zero part is)
      split (suc root) part may is = inr (omega arith)

      by : ((within target.record_type ≡ true) × (target.object.root ≡ 0) × (0 < target.part)) ⊎ (0 < target.object.root)
          → ((within target.record_type ≡ true) × IsAtHand target) ⊎ IsBeside 1 target
      by (inl formal) = inl (formal.0, record { in_formal = formal.1; at_hand = none_selected; behind = formal.2 })
      by (inr other) = inr (record { of_record = of_record; at_hand = none_selected; beside = omega (arith, other) })

-- So a Finalize assigns.
ends_at_hand :
    (types : List TypeDefinition) (told : Told) (target : RecordPathForm)
    → (not (is_some (finalization_of (map type_form types) target.record_type)) || lies_at_hand told.within target) ≡ true → (InEnding types told).assigned target
ends_at_hand types told target is parts =
    path_at_hand told.within target (may_be (is_some (finalization_of (map type_form types) target.record_type)) (lies_at_hand told.within target) is (said_parts types target.record_type parts))

-- So a procedure assigns that is called with no more actual parameters than it has formal ones.
lies_apart : (given formals : ℕ) → given ≤ formals → (target : RecordPathForm) → lies_beside formals target ≡ true → IsBeside given target
lies_apart given formals fewer target is = record {
  of_record = and_left target.object.of_record (is_empty target.object.selectors) straight;
  at_hand = no_selectors target.object.selectors (and_right target.object.of_record (is_empty target.object.selectors) straight);
  beside = by (nat_lt target.object.root formals) refl (and_right (target.object.of_record && is_empty target.object.selectors) (not (nat_lt target.object.root formals)) is);
}
  where
    straight : (target.object.of_record && is_empty target.object.selectors) ≡ true
    straight = and_left (target.object.of_record && is_empty target.object.selectors) (not (nat_lt target.object.root formals)) is

    by : (less : Bool) → nat_lt target.object.root formals ≡ less → not less ≡ true → given ≤ target.object.root
    by true less is = absurd (cc is)
    by false less is = let behind = ltb-false target.object.root formals less in omega (arith, behind, fewer)

calls_beside :
    (types : List TypeDefinition) (told : Told) (given formals : ℕ) → given ≤ formals → (target : RecordPathForm)
    → (not (is_some (finalization_of (map type_form types) target.record_type)) || lies_beside formals target) ≡ true → (InCalled types told given).assigned target
calls_beside types told given formals fewer target is parts =
    lies_apart given formals fewer target
    (may_be (is_some (finalization_of (map type_form types) target.record_type)) (lies_beside formals target) is (said_parts types target.record_type parts))

fits_from : (count part within : ℕ) → has_parts_from count part within ≡ true → 0 < count → part + count ≤ within
fits_from count part within is some = elim (eqb_tells count 0) [ inl h ↦ absurd (let zero_is = h.1 in omega (arith, some, zero_is)) | inr h ↦ go h.0 ]
  where
    go : (count == 0) ≡ false → part + count ≤ within
    go none =
        let fits : not (nat_lt within (part + count)) ≡ true = ap (λ (b : Bool). b || not (nat_lt within (part + count))) (sym none) ∙ is in
        not_less (nat_lt within (part + count)) refl fits
      where
        not_less : (less : Bool) → nat_lt within (part + count) ≡ less → not less ≡ true → part + count ≤ within
        not_less true less is = absurd (cc)
        not_less false less is = ltb-false within (part + count) less

module _ (program : Program) (well : IsWellFormed (program_form program)) where
  abbrev types : List TypeDefinition
  types = program.types.items

  abbrev forms : List TypeForm
  forms = map type_form types

  pub known_count : (t : ℕ) → part_count forms t ≡ parts_for (shapes_of types) (number_of types (Some t))
  known_count t = record_counted types forms t refl well.types_fit

  -- What an operation takes (7.6).
  pub formal_kind : (of procedure : ℕ) (operation : OperationFor (program_form program) of procedure)
      → variable_kind operation.body.variables 0 ≡ Some (variable.Record operation.object)
  formal_kind of procedure operation =
      formal_first (length operation.body.formals) operation.body.variables (variable.Record operation.object)
      (ap (λ (kinds : List VariableKind). slice_get kinds 0) operation.formals)

  pub object_parts : (of procedure : ℕ) (operation : OperationFor (program_form program) of procedure)
      → parts_named forms (object_named forms (Some operation.object.0)) ≡ parts_of (shapes_of types) of
  object_parts of procedure operation =
      ap (parts_named forms) (named_by (slice_get forms operation.object.0) operation.record_type operation.known_by)
      ∙ known_count operation.record_type
      ∙ ap (parts_for (shapes_of types)) (same_number types operation.record_type ∙ operation.numbered)

  -- What is told of the program.
  module _ (told : Told) where
    -- The path of the target, where it lies in the formal parameter.
    module _ (of procedure : ℕ) (operation : OperationFor (program_form program) of procedure) (target : RecordPathForm)
        (hand : lies_at_hand told.within target ≡ true) (path : IsAtHand target) (fits : is_record_path forms operation.body.variables target ≡ true) where
      kind_is : path_kind forms operation.body.variables target.object ≡ Some (variable.Record operation.object)
      kind_is =
          let first = formal_kind of procedure operation in
          ap (λ (cs : List ℕ). selectors_kind forms (root_kind target.object.of_record (variable_kind operation.body.variables target.object.root)) cs) path.at_hand
          ∙ ap (λ (b : Bool). root_kind b (variable_kind operation.body.variables target.object.root)) (of_record told.within target hand)
          ∙ ap (λ (x : ℕ). root_kind true (variable_kind operation.body.variables x)) path.in_formal
          ∙ ap (root_kind true) first

      held_parts : parts_named forms (object_named forms (access_of (path_kind forms operation.body.variables target.object))) ≡ parts_of (shapes_of types) of
      held_parts =
          ap (λ (o : Option VariableKind). parts_named forms (object_named forms (access_of o))) kind_is
          ∙ object_parts of procedure operation

      is_inner : IsInner types of target
      is_inner = record {
        in_formal = path.in_formal;
        at_hand = path.at_hand;
        behind = path.behind;
        within = λ some.
            let object = object_named forms (access_of (path_kind forms operation.body.variables target.object)) in
            let count = part_count forms target.record_type in
            let known = known_count target.record_type in
            let lies = and_right (has_record_at (object_components forms (access_of (path_kind forms operation.body.variables target.object))) target.first (record_components forms target.record_type))
            (has_parts_at forms target.record_type object target.first target.part) fits in
            let found = (count == 0) || is_found forms (length forms) target.record_type (place_from object target.first target.part) in
            let counted = has_parts_from count target.part (parts_named forms object) in
            let le = fits_from count target.part (parts_named forms object)
            (and_left counted found (and_left (counted && found) (is_part_of forms target.record_type object) lies)) (omega (arith, some, known)) in
            let held = held_parts in
            omega (arith, le, held, known);
      }

    begins_inside :
        (of procedure : ℕ) (operation : OperationFor (program_form program) of procedure) (target : RecordPathForm)
        → (not (is_some (finalization_of forms target.record_type)) || lies_at_hand told.within target) ≡ true
        → is_record_path forms operation.body.variables target ≡ true → (InBeginning types told of).assigned target
    begins_inside of procedure operation target is fits parts = by (path_at_hand told.within target hand)
      where
        hand : lies_at_hand told.within target ≡ true
        hand = may_be (is_some (finalization_of forms target.record_type)) (lies_at_hand told.within target) is (said_parts types target.record_type parts)

        by : ((told.within target.record_type ≡ true) × IsAtHand target) ⊎ IsBeside 1 target
            → ((told.within target.record_type ≡ true) × IsInner types of target) ⊎ IsBeside 1 target
        by (inl (may, path)) = inl (may, is_inner of procedure operation target hand path fits)
        by (inr other) = inr other

    -- The operations of a type that was found by its number.
    abbrev Assigns : Option ProcedureNo → Type 0
    Assigns o = (procedure : ℕ) → procedure_number o ≡ Some procedure → procedure_assigns_inside forms told.within told.called (slice_get (body_forms program) procedure) ≡ true

    abbrev AllAssign : Operations → Type 0
    AllAssign operations = Assigns operations.initialize × Assigns operations.adjust × Assigns operations.finalize

    one_assigns : (o : Option ProcedureNo) → operation_assigns_inside (program_form program) told.within told.called o ≡ true → Assigns o
    one_assigns None is procedure said = absurd (cc)
    one_assigns (Some number) is procedure said =
        let same : number.0 ≡ procedure = cc in
        subst (λ (n : ℕ). procedure_assigns_inside forms told.within told.called (slice_get (body_forms program) n) ≡ true) same is

    finalization_assigns : (o : Option Finalization) → type_assigns_inside (program_form program) told.within told.called o ≡ true → AllAssign (operations_in o)
    finalization_assigns None is = (λ procedure said. absurd (cc), λ procedure said. absurd (cc), λ procedure said. absurd (cc))
    finalization_assigns (Some f) is =
        let p = program_form program in
        let one = operation_assigns_inside p told.within told.called f.operations.initialize in
        let two = operation_assigns_inside p told.within told.called f.operations.adjust in
        let three = operation_assigns_inside p told.within told.called f.operations.finalize in
        let both = and_left (one && two) three is in (
          one_assigns f.operations.initialize (and_left one two both),
          one_assigns f.operations.adjust (and_right one two both),
          one_assigns f.operations.finalize (and_right (one && two) three is),
        )

    type_assigns : (d : TypeDefinition) → type_assigns_inside (program_form program) told.within told.called (finalization_in (Some (type_form d))) ≡ true → AllAssign (operations_by (Some d))
    type_assigns (definition.Record name parts components finalization) is = finalization_assigns finalization is
    type_assigns (definition.Access name designated pool) is = finalization_assigns None refl
    type_assigns (definition.Object record_type) is = finalization_assigns None refl

    types_assign : (of : ℕ) (ds : List TypeDefinition) → list_all (λ (t : TypeForm). type_assigns_inside (program_form program) told.within told.called (finalization_in (Some t))) (map type_form ds) ≡ true
        → AllAssign (operations_by (find (λ d. is_number of (number_by (Some d))) ds))
    types_assign of [] is = finalization_assigns None refl
    types_assign of (d ∷ ds) is = go (is_number of (number_by (Some d))) (types_assign of ds (and_right here later is))
      where
        here : Bool
        here = type_assigns_inside (program_form program) told.within told.called (finalization_in (Some (type_form d)))

        later : Bool
        later = list_all (λ (t : TypeForm). type_assigns_inside (program_form program) told.within told.called (finalization_in (Some t))) (map type_form ds)

        go : (passes : Bool) → AllAssign (operations_by (find (λ u. is_number of (number_by (Some u))) ds))
            → AllAssign (operations_by (if passes then Some d else find (λ u. is_number of (number_by (Some u))) ds))
        go true others = type_assigns d (and_left here later is)
        go false others = others

    module _ (assigns : operations_assign_inside (program_form program) told.within told.called ≡ true)
        (beside : told.watched ≡ true → CalledAssignBeside (program_form program) told.called)
        (counted : (procedure : ℕ) → told.formals procedure ≡ count_formals (slice_get (body_forms program) procedure)) where
      known_assign : (of : ℕ) → AllAssign (operations_of types of)
      known_assign of = types_assign of types assigns

      begins_by : (by : Birth) (of procedure : ℕ) → begun_by by (operations_of types of) ≡ Some procedure
          → procedure_assigns_inside forms told.within told.called (slice_get (body_forms program) procedure) ≡ true
      begins_by Creation of procedure is = (known_assign of).0 procedure is
      begins_by Copy of procedure is = (known_assign of).1 procedure is
      begins_by (Adjustment number) of procedure is = (known_assign of).1 procedure is

      body_fits_at : (procedure : ℕ) (b : BodyForm) → slice_get (body_forms program) procedure ≡ Some b
          → body_fits forms (program_form program).texts (program_form program).exceptions (map profile_of (take procedure (body_forms program))) b ≡ true
      body_fits_at procedure b is =
          body_at forms (program_form program).texts (program_form program).exceptions [] (body_forms program) procedure b well.bodies_fit is

      -- What is called.
      calls_so : (number : ℕ) (variables : List VariableForm) (procedure : ℕ) (actuals : List ActualForm) → told.called procedure ≡ true
          → suits_profile forms variables (slice_get (map profile_of (take number (body_forms program))) procedure) actuals ≡ true → Calls types told procedure actuals
      calls_so number variables procedure actuals is suits watched =
          let fewer = given_count forms variables actuals number procedure (body_forms program) suits in
          let count = counted procedure in
          (is, omega (arith, fewer, count))

      begins_assign : (of procedure : ℕ) → OperationFor (program_form program) of procedure
          → procedure_assigns_inside forms told.within told.called (slice_get (body_forms program) procedure) ≡ true → (b : BodyForm) → slice_get (body_forms program) procedure ≡ Some b
          → BodyAssigns (InBeginning types told of) b
      begins_assign of procedure operation own b is =
          let p = program_form program in
          let there = operation.there in
          let found : Some operation.body ≡ Some b = sym there ∙ is in
          let same : operation.body ≡ b = cc found in
          subst (BodyAssigns (InBeginning types told of)) same
          (body_assigns (InBeginning types told of) forms (lies_at_hand told.within) told.called p.texts p.exceptions (map profile_of (take procedure p.bodies)) operation.body
          (begins_inside of procedure operation) (calls_so procedure operation.body.variables) (body_fits_at procedure operation.body there)
          (ap (procedure_assigns_inside forms told.within told.called) (sym there) ∙ own))

      ends_assign : (procedure : ℕ) → procedure_assigns_inside forms told.within told.called (slice_get (body_forms program) procedure) ≡ true → (b : BodyForm)
          → slice_get (body_forms program) procedure ≡ Some b → BodyAssigns (InEnding types told) b
      ends_assign procedure own b is =
          let p = program_form program in
          body_assigns (InEnding types told) forms (lies_at_hand told.within) told.called p.texts p.exceptions (map profile_of (take procedure p.bodies)) b
          (λ target may path. ends_at_hand types told target may) (calls_so procedure b.variables) (body_fits_at procedure b is)
          (ap (procedure_assigns_inside forms told.within told.called) (sym is) ∙ own)

      calling_assigns : told.watched ≡ true → (procedure : ℕ) (b : BodyForm) → told.called procedure ≡ true → slice_get (body_forms program) procedure ≡ Some b
          → (given : ℕ) → given ≤ told.formals procedure → BodyAssigns (InCalled types told given) b
      calling_assigns watched procedure b called is given fewer =
          let p = program_form program in
          body_assigns (InCalled types told given) forms (lies_beside (length b.formals)) told.called p.texts p.exceptions (map profile_of (take procedure p.bodies)) b
          (λ target may path. calls_beside types told given (length b.formals) (omega (arith, fewer, counted_so)) target may) (calls_so procedure b.variables) (body_fits_at procedure b is)
          (ap (procedure_assigns_beside forms told.called) (sym is) ∙ beside watched procedure called)
        where
          counted_so : told.formals procedure ≡ length b.formals
          counted_so = counted procedure ∙ ap count_formals is

      pub operations_assign : OperationsAssign types told (body_forms program)
      operations_assign = record {
        beginning = λ by of procedure said b is.
            begins_assign of procedure (beginning_for (program_form program) types refl well.operations_fit by of procedure said) (begins_by by of procedure said) b is;
        ending = λ of procedure said b is. ends_assign procedure ((known_assign of).2 procedure said) b is;
        calling = calling_assigns;
      }
