-- The bodies of a well-formed program write to no variable that is a record, but where it is declared (3.3.1): what is assigned to as a whole, freed, read or given
-- for a formal parameter of mode `in out` and gets something back is no record (5.2, 13.11.2, 6.4.1).

use Rattle.ada_declared.specs.Declared.{IsRecordOf}
use Rattle.ada_declared.proofs.Standing.{TargetSpares, ActualSpares, ActualsSpare, DeclarationsSpare, StmtSpares, StmtsSpare, BranchesSpare, HandlersSpare, PartSpares, BodySpares, IsOther}
use Rattle.std.proofs.Common.{◌≡◌, ℕ, Bool, true, false, ◌&&◌, not, List, [], ◌∷◌, length, map, take, Option, Some, None, refl, sym, ap, ◌∙◌, subst}
use Rattle.std.specs.List.{slice_get, list_all}
use Rattle.ada_program.specs.declared.program.Program.{Program}
use Rattle.ada_program.specs.declared.program.ScalarType.{ScalarType}
use Rattle.ada_program.specs.declared.program.ScalarType.TheVariants.{Integer, Boolean}
use Rattle.ada_program.specs.declared.program.VariableKind.{VariableKind}
use Rattle.ada_program.specs.declared.program.VariableKind.TheVariants as variable
use Rattle.ada_program.specs.Form.{PathForm, reads, ActualForm, in_value, in_null, in_access, in_record, in_out_path, in_out_access, in_out_component, in_out_record, RightForm, StmtForm, skips, assigns, assigns_record, frees, gets, writes, writes_text, chooses, repeats, counts, exits, calls, returns, raises, encloses, StmtsForm, no_stmts, a_stmt, BranchesForm, otherwise, a_branch, HandlersForm, no_handlers, a_handler, DeclarationForm, creates_pool, collects, declares, declares_record}
use Rattle.ada_program.specs.ProgramForm.{TypeForm, VariableForm, BodyForm, program_form, body_forms, main_body}
use Rattle.ada_program.specs.WellFormed.{IsWellFormed, variable_fits, created_in, creates_from, collection_fits, collections_first, initial_fits, is_borrower, names_before, variable_kind, root_kind, selectors_kind, path_kind, scalar_of, value_access, path_access, is_this, is_type, has_type, right_fits, lends_to, names_borrower, is_freed_by, stands_alone, names_access, actual_fits, actuals_fit, modes_fit, Profile, profile_of, suits_profile, condition_fits, has_statement, choice_fits, declarations_fit, statement_fits, stmts_fit, branches_fit, handlers_fit, body_fits}
use Rattle.ada_typed.proofs.Operators.{and_left, and_right}
use Rattle.ada_typed.proofs.Bodies.{body_at}

-- A variable of this kind holds no record.
abbrev IsNoRecord : VariableKind → Type 0
IsNoRecord variable.Integer = Unit {0}
IsNoRecord variable.Boolean = Unit {0}
IsNoRecord (variable.Access access) = Unit {0}
IsNoRecord (variable.Record object) = ⊥

-- There is a kind, and it is such a one.
abbrev HasOther : Option VariableKind → Type 0
HasOther o = (kind : VariableKind) × (o ≡ Some kind) × IsNoRecord kind

-- What a path begins with.
root_is : (of_record : Bool) (o : Option VariableKind) (kind : VariableKind) → root_kind of_record o ≡ Some kind → o ≡ Some kind
root_is of_record None kind is = absurd (cc)
root_is true (Some variable.Integer) kind is = absurd (cc)
root_is false (Some variable.Integer) kind is = is
root_is true (Some variable.Boolean) kind is = absurd (cc)
root_is false (Some variable.Boolean) kind is = is
root_is true (Some (variable.Access access)) kind is = absurd (cc)
root_is false (Some (variable.Access access)) kind is = is
root_is true (Some (variable.Record object)) kind is = is
root_is false (Some (variable.Record object)) kind is = absurd (cc)

no_record : (kind other : VariableKind) → kind ≡ other → IsNoRecord other → IsNoRecord kind
no_record kind other same is = subst IsNoRecord (sym same) is

alone : (cs : List ℕ) → stands_alone cs ≡ true → cs ≡ []
alone [] is = refl
alone (c ∷ cs) is = absurd (cc)

-- What has one of these types is no record.
scalar_other : (t : ScalarType) (o : Option VariableKind) → is_type t (scalar_of o) ≡ true → HasOther o
scalar_other t None is = absurd (cc)
scalar_other t (Some variable.Integer) is = (variable.Integer, refl, tt)
scalar_other t (Some variable.Boolean) is = (variable.Boolean, refl, tt)
scalar_other t (Some (variable.Access access)) is = absurd (cc)
scalar_other t (Some (variable.Record object)) is = absurd (cc)

freed_other : (types : List TypeForm) (access : ℕ) (o : Option VariableKind) → is_freed_by types access (value_access o) ≡ true → HasOther o
freed_other types access None is = absurd (cc)
freed_other types access (Some variable.Integer) is = absurd (cc)
freed_other types access (Some variable.Boolean) is = absurd (cc)
freed_other types access (Some (variable.Access own)) is = (variable.Access own, refl, tt)
freed_other types access (Some (variable.Record object)) is = absurd (cc)

module _ (P : ℕ → Type 0) (types : List TypeForm) (variables : List VariableForm) (by_kind : (x : ℕ) (kind : VariableKind) → variable_kind variables x ≡ Some kind → IsNoRecord kind → P x) where
  -- A path that is a variable.
  target_free : (path : PathForm) → HasOther (path_kind types variables path) → TargetSpares P path
  target_free path (kind, is, other) none =
      by_kind path.root kind
      (root_is path.of_record (variable_kind variables path.root) kind
      (ap (λ (cs : List ℕ). selectors_kind types (root_kind path.of_record (variable_kind variables path.root)) cs) (sym none) ∙ is))
      other

  -- What is assigned fits no record.
  right_other : (o : Option VariableKind) (right : RightForm) → right_fits types variables o right ≡ true → HasOther o
  right_other None right fits = absurd (cc)
  right_other (Some variable.Integer) right fits = (variable.Integer, refl, tt)
  right_other (Some variable.Boolean) right fits = (variable.Boolean, refl, tt)
  right_other (Some (variable.Access access)) right fits = (variable.Access access, refl, tt)
  right_other (Some (variable.Record object)) right fits = absurd (cc)

  -- What is created.
  kind_free : (x : ℕ) → HasOther (variable_kind variables x) → P x
  kind_free x (kind, is, other) = by_kind x kind is other

  declared_free : (ds : List DeclarationForm) → list_all (initial_fits types variables) ds ≡ true → DeclarationsSpare P ds
  declared_free [] fits = tt
  declared_free (creates_pool pool ∷ ds) fits = (tt, declared_free ds (and_right (initial_fits types variables (creates_pool pool)) (list_all (initial_fits types variables) ds) fits))
  declared_free (collects access ∷ ds) fits = (tt, declared_free ds (and_right (initial_fits types variables (collects access)) (list_all (initial_fits types variables) ds) fits))
  declared_free (declares x right ∷ ds) fits =
      let named = names_before x right in
      let assigned = right_fits types variables (variable_kind variables x) right in
      let lent = lends_to variables (is_borrower variables x) right in
      let here = and_left (named && assigned && lent) (list_all (initial_fits types variables) ds) fits in (
        kind_free x (right_other (variable_kind variables x) right (and_right named assigned (and_left (named && assigned) lent here))),
        declared_free ds (and_right (named && assigned && lent) (list_all (initial_fits types variables) ds) fits),
      )
  declared_free (declares_record x object initial ∷ ds) fits =
      (tt, declared_free ds (and_right (initial_fits types variables (declares_record x object initial)) (list_all (initial_fits types variables) ds) fits))

  part_declares : (ds : List DeclarationForm) → declarations_fit types variables ds ≡ true → DeclarationsSpare P ds
  part_declares ds fits =
      declared_free ds (and_right (collections_first ds && list_all (collection_fits types) ds) (list_all (initial_fits types variables) ds) fits)

  -- What is given (6.4.1).
  scalar_given : (t : ScalarType) (path : PathForm) → (has_type types variables t (reads path) && stands_alone path.selectors) ≡ true → P path.root
  scalar_given t path fits =
      let typed = has_type types variables t (reads path) in
      let variable_alone = stands_alone path.selectors in
      target_free path (scalar_other t (path_kind types variables path) (and_left typed variable_alone fits))
      (alone path.selectors (and_right typed variable_alone fits))

  access_other : (access : ℕ) (o : Option VariableKind) → is_this access (value_access o) ≡ true → HasOther o
  access_other access None is = absurd (cc)
  access_other access (Some variable.Integer) is = absurd (cc)
  access_other access (Some variable.Boolean) is = absurd (cc)
  access_other access (Some (variable.Access own)) is = (variable.Access own, refl, tt)
  access_other access (Some (variable.Record object)) is = absurd (cc)

  named_other : (access : ℕ) (path : PathForm) → names_access types variables access path ≡ true → HasOther (path_kind types variables path)
  named_other access path names =
      access_other access (path_kind types variables path) (and_left (is_this access (path_access types variables path)) (not (names_borrower variables path)) names)

  actual_free : (kind : VariableKind) (a : ActualForm) → actual_fits types variables kind a ≡ true → ActualSpares P a
  actual_free kind (in_value e) fits = tt
  actual_free kind in_null fits = tt
  actual_free kind (in_access path) fits = tt
  actual_free kind (in_record p) fits = tt
  actual_free variable.Integer (in_out_path path) fits = scalar_given Integer path fits
  actual_free variable.Boolean (in_out_path path) fits = scalar_given Boolean path fits
  actual_free (variable.Access access) (in_out_path path) fits = absurd (cc)
  actual_free (variable.Record object) (in_out_path path) fits = absurd (cc)
  actual_free variable.Integer (in_out_access path) fits = absurd (cc)
  actual_free variable.Boolean (in_out_access path) fits = absurd (cc)
  actual_free (variable.Access access) (in_out_access path) fits =
      let named = names_access types variables access.0 path in
      let variable_alone = stands_alone path.selectors in
      target_free path (named_other access.0 path (and_left named variable_alone fits)) (alone path.selectors (and_right named variable_alone fits))
  actual_free (variable.Record object) (in_out_access path) fits = absurd (cc)
  actual_free kind (in_out_component path) fits = tt
  actual_free kind (in_out_record p) fits = tt

  actuals_free : (kinds : List VariableKind) (actuals : List ActualForm) → actuals_fit types variables kinds actuals ≡ true → ActualsSpare P actuals
  actuals_free [] [] fits = tt
  actuals_free [] (a ∷ rest) fits = absurd (cc)
  actuals_free (kind ∷ kinds) [] fits = absurd (cc)
  actuals_free (kind ∷ kinds) (a ∷ rest) fits =
      let here = actual_fits types variables kind a in
      let others = actuals_fit types variables kinds rest in
      (actual_free kind a (and_left here others fits), actuals_free kinds rest (and_right here others fits))

  call_free : (o : Option Profile) (actuals : List ActualForm) → suits_profile types variables o actuals ≡ true → ActualsSpare P actuals
  call_free None actuals fits = absurd (cc)
  call_free (Some profile) actuals fits =
      actuals_free profile.kinds actuals (and_left (actuals_fit types variables profile.kinds actuals) (modes_fit profile.modes actuals) fits)

  module _ (texts exceptions : List (List ℕ)) (callable : List Profile) where
    mutual
      stmt_free : (inside : Bool) (f : StmtForm) → statement_fits types variables texts exceptions callable inside f ≡ true → StmtSpares P f
      stmt_free inside skips fits = tt
      stmt_free inside (assigns target right) fits =
          let assigned = right_fits types variables (path_kind types variables target) right in
          target_free target (right_other (path_kind types variables target) right (and_left assigned (lends_to variables (names_borrower variables target) right) fits))
      stmt_free inside (assigns_record target items) fits = tt
      stmt_free inside (frees access path) fits =
          target_free path (freed_other types access (path_kind types variables path)
          (and_left (is_freed_by types access (path_access types variables path)) (not (names_borrower variables path)) fits))
      stmt_free inside (gets target) fits = target_free target (scalar_other Integer (path_kind types variables target) fits)
      stmt_free inside (writes e) fits = tt
      stmt_free inside (writes_text text) fits = tt
      stmt_free inside (chooses branches) fits = branches_free inside branches fits
      stmt_free inside (repeats condition fs spot) fits =
          let begun = condition_fits types variables condition && has_statement fs in
          stmts_free true fs (and_right begun (stmts_fit types variables texts exceptions callable true fs) fits)
      stmt_free inside (counts x low high fs spot) fits =
          let begun =
          is_type Integer (scalar_of (variable_kind variables x)) && has_type types variables Integer low && has_type types variables Integer high && has_statement fs in
          let counts_so = is_type Integer (scalar_of (variable_kind variables x)) in
          let low_so = has_type types variables Integer low in
          let high_so = has_type types variables Integer high in
          let scalar = and_left counts_so low_so (and_left (counts_so && low_so) high_so (and_left (counts_so && low_so && high_so) (has_statement fs)
          (and_left begun (stmts_fit types variables texts exceptions callable true fs) fits))) in
          (kind_free x (scalar_other Integer (variable_kind variables x) scalar), stmts_free true fs (and_right begun (stmts_fit types variables texts exceptions callable true fs) fits))
      stmt_free inside (exits condition spot) fits = tt
      stmt_free inside (calls procedure actuals) fits = call_free (slice_get callable procedure) actuals fits
      stmt_free inside (returns spot) fits = tt
      stmt_free inside (raises e) fits = tt
      stmt_free inside (encloses ds fs hs) fits =
          let declared = declarations_fit types variables ds in
          let done = stmts_fit types variables texts exceptions callable inside fs in
          let handled = handlers_fit types variables texts exceptions callable inside hs in
          let both = and_left (declared && done) handled fits in (
            part_declares ds (and_left declared done both),
            stmts_free inside fs (and_right declared done both),
            handlers_free inside hs (and_right (declared && done) handled fits),
          )

      stmts_free : (inside : Bool) (fs : StmtsForm) → stmts_fit types variables texts exceptions callable inside fs ≡ true → StmtsSpare P fs
      stmts_free inside no_stmts fits = tt
      stmts_free inside (a_stmt f fs) fits =
          let here = statement_fits types variables texts exceptions callable inside f in
          let later = stmts_fit types variables texts exceptions callable inside fs in
          (stmt_free inside f (and_left here later fits), stmts_free inside fs (and_right here later fits))

      branches_free : (inside : Bool) (branches : BranchesForm) → branches_fit types variables texts exceptions callable inside branches ≡ true
          → BranchesSpare P branches
      branches_free inside (otherwise fs) fits = stmts_free inside fs fits
      branches_free inside (a_branch e fs branches) fits =
          let condition = has_type types variables Boolean e in
          let here = stmts_fit types variables texts exceptions callable inside fs in
          let later = branches_fit types variables texts exceptions callable inside branches in
          let first = and_left (condition && here) later fits in
          (stmts_free inside fs (and_right condition here first), branches_free inside branches (and_right (condition && here) later fits))

      handlers_free : (inside : Bool) (hs : HandlersForm) → handlers_fit types variables texts exceptions callable inside hs ≡ true
          → HandlersSpare P hs
      handlers_free inside no_handlers fits = tt
      handlers_free inside (a_handler choices fs hs) fits =
          let front = list_all (choice_fits exceptions) choices && has_statement fs in
          let here = stmts_fit types variables texts exceptions callable inside fs in
          let later = handlers_fit types variables texts exceptions callable inside hs in
          let first = and_left (front && here) later fits in
          (stmts_free inside fs (and_right front here first), handlers_free inside hs (and_right (front && here) later fits))

    -- The three parts of a body.
    part_free :
        (ds : List DeclarationForm) (fs : StmtsForm) (hs : HandlersForm) → list_all (initial_fits types variables) ds ≡ true
        → stmts_fit types variables texts exceptions callable false fs ≡ true → handlers_fit types variables texts exceptions callable false hs ≡ true
        → PartSpares P ds fs hs
    part_free ds fs hs declared done handled = (declared_free ds declared, stmts_free false fs done, handlers_free false hs handled)

-- A body that fits.
fitting_spares :
    (types : List TypeForm) (texts exceptions : List (List ℕ)) (callable : List Profile) (b : BodyForm) → body_fits types texts exceptions callable b ≡ true
    → BodySpares (λ x. IsRecordOf (Some b) x → ⊥) b
fitting_spares types texts exceptions callable b fits =
    let variables = list_all (variable_fits types) b.variables in
    let creates = creates_from (length b.variables) (length b.formals) (created_in b) in
    let declared = declarations_fit types b.variables b.declarations in
    let done = stmts_fit types b.variables texts exceptions callable false b.statements in
    let handled = handlers_fit types b.variables texts exceptions callable false b.handlers in
    let four = and_left (variables && creates && declared && done) handled fits in
    let three = and_left (variables && creates && declared) done four in
    let first = collections_first b.declarations && list_all (collection_fits types) b.declarations in
    part_free P types b.variables by_kind texts exceptions callable b.declarations b.statements b.handlers
    (and_right first (list_all (initial_fits types b.variables) b.declarations) (and_right (variables && creates) declared three))
    (and_right (variables && creates && declared) done four) (and_right (variables && creates && declared && done) handled fits)
  where
    P : ℕ → Type 0
    P x = IsRecordOf (Some b) x → ⊥

    by_kind : (x : ℕ) (kind : VariableKind) → variable_kind b.variables x ≡ Some kind → IsNoRecord kind → IsRecordOf (Some b) x → ⊥
    by_kind x kind is other (object, held) =
        let same : variable.Record object ≡ kind = cc in
        no_record (variable.Record object) kind same other

-- So it is with each body of a well-formed program.
pub bodies_spare :
    (program : Program) → IsWellFormed (program_form program) → (procedure : ℕ) (b : BodyForm) → slice_get (body_forms program) procedure ≡ Some b
    → BodySpares (IsOther (body_forms program) (Some procedure)) b
bodies_spare program well procedure b is =
    let p = program_form program in
    subst (λ (o : Option BodyForm). BodySpares (λ x. IsRecordOf o x → ⊥) b) (sym is)
    (fitting_spares p.types p.texts p.exceptions (map profile_of (take procedure p.bodies)) b
    (body_at p.types p.texts p.exceptions [] p.bodies procedure b well.bodies_fit is))

-- So it is with the main body.
pub main_spares : (program : Program) → IsWellFormed (program_form program) → BodySpares (IsOther (body_forms program) None) (main_body (program_form program))
main_spares program well =
    let p = program_form program in
    part_free (IsOther (body_forms program) None) p.types p.variables (λ x kind is other held. held) p.texts p.exceptions (map profile_of p.bodies) p.declarations p.statements
    p.handlers well.initials_fit well.statements_fit well.handlers_fit
