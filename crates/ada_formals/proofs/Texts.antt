-- The bodies of a well-formed program write to no formal parameter that is a record: what a body creates is numbered behind its formal parameters (3.11), and
-- what is assigned to as a whole, freed, read or given for a formal parameter of mode `in out` and gets something back is no record (5.2, 13.11.2, 6.4.1).

use Rattle.ada_formals.specs.Formals.{IsRecordOf}
use Rattle.ada_formals.proofs.Standing.{TargetSpares, ActualSpares, ActualsSpare, DeclarationsSpare, StmtSpares, StmtsSpare, BranchesSpare, HandlersSpare, PartSpares, BodySpares, IsOther}
use Rattle.std.proofs.Common.{◌≡◌, ℕ, zero, suc, ◌+◌, ◌<◌, ◌≤◌, ◌==◌, Bool, true, false, ◌&&◌, not, List, [], ◌∷◌, ◌++◌, length, map, take, Option, Some, None, arith, refl, sym, ap, ◌∙◌, subst}
use Rattle.std.proofs.lemmas.Bool.{eqb-true}
use Rattle.std.specs.List.{slice_get, list_all}
use Rattle.ada_program.specs.declared.program.Program.{Program}
use Rattle.ada_program.specs.declared.program.ScalarType.{ScalarType}
use Rattle.ada_program.specs.declared.program.ScalarType.TheVariants.{Integer, Boolean}
use Rattle.ada_program.specs.declared.program.VariableKind.{VariableKind}
use Rattle.ada_program.specs.declared.program.VariableKind.TheVariants as variable
use Rattle.ada_program.specs.Form.{PathForm, reads, ActualForm, in_value, in_null, in_access, in_record, in_out_path, in_out_access, in_out_component, in_out_record, RightForm, StmtForm, skips, assigns, assigns_record, frees, gets, writes, writes_text, chooses, repeats, counts, exits, calls, returns, raises, encloses, StmtsForm, no_stmts, a_stmt, BranchesForm, otherwise, a_branch, HandlersForm, no_handlers, a_handler, DeclarationForm, creates_pool, collects, declares, declares_record}
use Rattle.ada_program.specs.ProgramForm.{TypeForm, VariableForm, BodyForm, program_form, body_forms, main_body}
use Rattle.ada_program.specs.WellFormed.{IsWellFormed, variable_fits, Creation, of_pool, of_collection, of_variable, creation, created_by, created_by_all, created_by_branches, created_by_handlers, created_in, creations, creates_from, variable_kind, root_kind, selectors_kind, path_kind, scalar_of, value_access, path_access, is_this, is_type, has_type, right_fits, lends_to, names_borrower, is_freed_by, stands_alone, names_access, actual_fits, actuals_fit, modes_fit, Profile, profile_of, suits_profile, kind_held, condition_fits, has_statement, choice_fits, declarations_fit, statement_fits, stmts_fit, branches_fit, handlers_fit, body_fits}
use Rattle.ada_typed.proofs.Operators.{and_left, and_right}
use Rattle.ada_typed.proofs.Bodies.{body_at}

-- A variable of this kind holds no record.
abbrev IsNoRecord : VariableKind → Type 0
IsNoRecord variable.Integer = Unit {0}
IsNoRecord variable.Boolean = Unit {0}
IsNoRecord (variable.Access access) = Unit {0}
IsNoRecord (variable.Record object) = ⊥

-- There is a kind, and it is such a one.
abbrev HasOther : Option VariableKind → Type 0
HasOther o = (kind : VariableKind) × (o ≡ Some kind) × IsNoRecord kind

-- What is created has numbers of which P holds.
abbrev CreatesFree : (P : ℕ → Type 0) → List Creation → Type 0
CreatesFree P [] = Unit {0}
CreatesFree P (of_pool pool ∷ cs) = CreatesFree P cs
CreatesFree P (of_collection access ∷ cs) = CreatesFree P cs
CreatesFree P (of_variable x ∷ cs) = P x × CreatesFree P cs

split_free : (P : ℕ → Type 0) (cs ds : List Creation) → CreatesFree P (cs ++ ds) → CreatesFree P cs × CreatesFree P ds
split_free P [] ds h = (tt, h)
split_free P (of_pool pool ∷ cs) ds h = split_free P cs ds h
split_free P (of_collection access ∷ cs) ds h = split_free P cs ds h
split_free P (of_variable x ∷ cs) ds h = let both = split_free P cs ds h.1 in ((h.0, both.0), both.1)

-- Variables are created in order from one on.
created_free : (P : ℕ → Type 0) (n : ℕ) → ((x : ℕ) → n ≤ x → P x) → (count k : ℕ) (cs : List Creation) → n ≤ k → creates_from count k cs ≡ true → CreatesFree P cs
created_free P n free count k [] above fits = tt
created_free P n free count k (of_pool pool ∷ cs) above fits = created_free P n free count k cs above fits
created_free P n free count k (of_collection access ∷ cs) above fits = created_free P n free count k cs above fits
created_free P n free count k (of_variable x ∷ cs) above fits =
    let here : x ≡ k = eqb-true x k (and_left (x == k) (creates_from count (k + 1) cs) fits) in (
      subst P (sym here) (free k above),
      created_free P n free count (k + 1) cs (omega (arith, above)) (and_right (x == k) (creates_from count (k + 1) cs) fits),
    )

declared_free : (P : ℕ → Type 0) (ds : List DeclarationForm) → CreatesFree P (map creation ds) → DeclarationsSpare P ds
declared_free P [] h = tt
declared_free P (creates_pool pool ∷ ds) h = (tt, declared_free P ds h)
declared_free P (collects access ∷ ds) h = (tt, declared_free P ds h)
declared_free P (declares x right ∷ ds) h = (h.0, declared_free P ds h.1)
declared_free P (declares_record x object initial ∷ ds) h = (h.0, declared_free P ds h.1)

-- What a path begins with.
root_is : (of_record : Bool) (o : Option VariableKind) (kind : VariableKind) → root_kind of_record o ≡ Some kind → o ≡ Some kind
root_is of_record None kind is = absurd (cc)
root_is true (Some variable.Integer) kind is = absurd (cc)
root_is false (Some variable.Integer) kind is = is
root_is true (Some variable.Boolean) kind is = absurd (cc)
root_is false (Some variable.Boolean) kind is = is
root_is true (Some (variable.Access access)) kind is = absurd (cc)
root_is false (Some (variable.Access access)) kind is = is
root_is true (Some (variable.Record object)) kind is = is
root_is false (Some (variable.Record object)) kind is = absurd (cc)

alone : (cs : List ℕ) → stands_alone cs ≡ true → cs ≡ []
alone [] is = refl
alone (c ∷ cs) is = absurd (cc)

-- What has one of these types is no record.
scalar_other : (t : ScalarType) (o : Option VariableKind) → is_type t (scalar_of o) ≡ true → HasOther o
scalar_other t None is = absurd (cc)
scalar_other t (Some variable.Integer) is = (variable.Integer, refl, tt)
scalar_other t (Some variable.Boolean) is = (variable.Boolean, refl, tt)
scalar_other t (Some (variable.Access access)) is = absurd (cc)
scalar_other t (Some (variable.Record object)) is = absurd (cc)

freed_other : (types : List TypeForm) (access : ℕ) (o : Option VariableKind) → is_freed_by types access (value_access o) ≡ true → HasOther o
freed_other types access None is = absurd (cc)
freed_other types access (Some variable.Integer) is = absurd (cc)
freed_other types access (Some variable.Boolean) is = absurd (cc)
freed_other types access (Some (variable.Access own)) is = (variable.Access own, refl, tt)
freed_other types access (Some (variable.Record object)) is = absurd (cc)

module _ (P : ℕ → Type 0) (types : List TypeForm) (variables : List VariableForm) (by_kind : (x : ℕ) (kind : VariableKind) → variable_kind variables x ≡ Some kind → IsNoRecord kind → P x) where
  -- A path that is a variable.
  target_free : (path : PathForm) → HasOther (path_kind types variables path) → TargetSpares P path
  target_free path (kind, is, other) none =
      by_kind path.root kind
      (root_is path.of_record (variable_kind variables path.root) kind
      (ap (λ (cs : List ℕ). selectors_kind types (root_kind path.of_record (variable_kind variables path.root)) cs) (sym none) ∙ is))
      other

  -- What is assigned fits no record.
  right_other : (o : Option VariableKind) (right : RightForm) → right_fits types variables o right ≡ true → HasOther o
  right_other None right fits = absurd (cc)
  right_other (Some variable.Integer) right fits = (variable.Integer, refl, tt)
  right_other (Some variable.Boolean) right fits = (variable.Boolean, refl, tt)
  right_other (Some (variable.Access access)) right fits = (variable.Access access, refl, tt)
  right_other (Some (variable.Record object)) right fits = absurd (cc)

  -- What is given (6.4.1).
  scalar_given : (t : ScalarType) (path : PathForm) → (has_type types variables t (reads path) && stands_alone path.selectors) ≡ true → P path.root
  scalar_given t path fits =
      let typed = has_type types variables t (reads path) in
      let variable_alone = stands_alone path.selectors in
      target_free path (scalar_other t (path_kind types variables path) (and_left typed variable_alone fits))
      (alone path.selectors (and_right typed variable_alone fits))

  access_other : (access : ℕ) (o : Option VariableKind) → is_this access (value_access o) ≡ true → HasOther o
  access_other access None is = absurd (cc)
  access_other access (Some variable.Integer) is = absurd (cc)
  access_other access (Some variable.Boolean) is = absurd (cc)
  access_other access (Some (variable.Access own)) is = (variable.Access own, refl, tt)
  access_other access (Some (variable.Record object)) is = absurd (cc)

  named_other : (access : ℕ) (path : PathForm) → names_access types variables access path ≡ true → HasOther (path_kind types variables path)
  named_other access path names =
      access_other access (path_kind types variables path) (and_left (is_this access (path_access types variables path)) (not (names_borrower variables path)) names)

  actual_free : (kind : VariableKind) (a : ActualForm) → actual_fits types variables kind a ≡ true → ActualSpares P a
  actual_free kind (in_value e) fits = tt
  actual_free kind in_null fits = tt
  actual_free kind (in_access path) fits = tt
  actual_free kind (in_record p) fits = tt
  actual_free variable.Integer (in_out_path path) fits = scalar_given Integer path fits
  actual_free variable.Boolean (in_out_path path) fits = scalar_given Boolean path fits
  actual_free (variable.Access access) (in_out_path path) fits = absurd (cc)
  actual_free (variable.Record object) (in_out_path path) fits = absurd (cc)
  actual_free variable.Integer (in_out_access path) fits = absurd (cc)
  actual_free variable.Boolean (in_out_access path) fits = absurd (cc)
  actual_free (variable.Access access) (in_out_access path) fits =
      let named = names_access types variables access.0 path in
      let variable_alone = stands_alone path.selectors in
      target_free path (named_other access.0 path (and_left named variable_alone fits)) (alone path.selectors (and_right named variable_alone fits))
  actual_free (variable.Record object) (in_out_access path) fits = absurd (cc)
  actual_free kind (in_out_component path) fits = tt
  actual_free kind (in_out_record p) fits = tt

  actuals_free : (kinds : List VariableKind) (actuals : List ActualForm) → actuals_fit types variables kinds actuals ≡ true → ActualsSpare P actuals
  actuals_free [] [] fits = tt
  actuals_free [] (a ∷ rest) fits = absurd (cc)
  actuals_free (kind ∷ kinds) [] fits = absurd (cc)
  actuals_free (kind ∷ kinds) (a ∷ rest) fits =
      let here = actual_fits types variables kind a in
      let others = actuals_fit types variables kinds rest in
      (actual_free kind a (and_left here others fits), actuals_free kinds rest (and_right here others fits))

  call_free : (o : Option Profile) (actuals : List ActualForm) → suits_profile types variables o actuals ≡ true → ActualsSpare P actuals
  call_free None actuals fits = absurd (cc)
  call_free (Some profile) actuals fits =
      actuals_free profile.kinds actuals (and_left (actuals_fit types variables profile.kinds actuals) (modes_fit profile.modes actuals) fits)

  module _ (texts exceptions : List (List ℕ)) (callable : List Profile) where
    mutual
      stmt_free : (inside : Bool) (f : StmtForm) → statement_fits types variables texts exceptions callable inside f ≡ true → CreatesFree P (created_by f) → StmtSpares P f
      stmt_free inside skips fits free = tt
      stmt_free inside (assigns target right) fits free =
          let assigned = right_fits types variables (path_kind types variables target) right in
          target_free target (right_other (path_kind types variables target) right (and_left assigned (lends_to variables (names_borrower variables target) right) fits))
      stmt_free inside (assigns_record target items) fits free = tt
      stmt_free inside (frees access path) fits free =
          target_free path (freed_other types access (path_kind types variables path)
          (and_left (is_freed_by types access (path_access types variables path)) (not (names_borrower variables path)) fits))
      stmt_free inside (gets target) fits free = target_free target (scalar_other Integer (path_kind types variables target) fits)
      stmt_free inside (writes e) fits free = tt
      stmt_free inside (writes_text text) fits free = tt
      stmt_free inside (chooses branches) fits free = branches_free inside branches fits free
      stmt_free inside (repeats condition fs spot) fits free =
          let begun = condition_fits types variables condition && has_statement fs in
          stmts_free true fs (and_right begun (stmts_fit types variables texts exceptions callable true fs) fits) free
      stmt_free inside (counts x low high fs spot) fits free =
          let begun =
          is_type Integer (scalar_of (variable_kind variables x)) && has_type types variables Integer low && has_type types variables Integer high && has_statement fs in
          (free.0, stmts_free true fs (and_right begun (stmts_fit types variables texts exceptions callable true fs) fits) free.1)
      stmt_free inside (exits condition spot) fits free = tt
      stmt_free inside (calls procedure actuals) fits free = call_free (slice_get callable procedure) actuals fits
      stmt_free inside (returns spot) fits free = tt
      stmt_free inside (raises e) fits free = tt
      stmt_free inside (encloses ds fs hs) fits free =
          let declared = declarations_fit types variables ds in
          let done = stmts_fit types variables texts exceptions callable inside fs in
          let handled = handlers_fit types variables texts exceptions callable inside hs in
          let last = split_free P (map creation ds ++ created_by_all fs) (created_by_handlers hs) free in
          let first = split_free P (map creation ds) (created_by_all fs) last.0 in
          let both = and_left (declared && done) handled fits in (
            declared_free P ds first.0,
            stmts_free inside fs (and_right declared done both) first.1,
            handlers_free inside hs (and_right (declared && done) handled fits) last.1,
          )

      stmts_free : (inside : Bool) (fs : StmtsForm) → stmts_fit types variables texts exceptions callable inside fs ≡ true → CreatesFree P (created_by_all fs) → StmtsSpare P fs
      stmts_free inside no_stmts fits free = tt
      stmts_free inside (a_stmt f fs) fits free =
          let here = statement_fits types variables texts exceptions callable inside f in
          let later = stmts_fit types variables texts exceptions callable inside fs in
          let both = split_free P (created_by f) (created_by_all fs) free in
          (stmt_free inside f (and_left here later fits) both.0, stmts_free inside fs (and_right here later fits) both.1)

      branches_free : (inside : Bool) (branches : BranchesForm) → branches_fit types variables texts exceptions callable inside branches ≡ true
          → CreatesFree P (created_by_branches branches) → BranchesSpare P branches
      branches_free inside (otherwise fs) fits free = stmts_free inside fs fits free
      branches_free inside (a_branch e fs branches) fits free =
          let condition = has_type types variables Boolean e in
          let here = stmts_fit types variables texts exceptions callable inside fs in
          let later = branches_fit types variables texts exceptions callable inside branches in
          let both = split_free P (created_by_all fs) (created_by_branches branches) free in
          let first = and_left (condition && here) later fits in
          (stmts_free inside fs (and_right condition here first) both.0, branches_free inside branches (and_right (condition && here) later fits) both.1)

      handlers_free : (inside : Bool) (hs : HandlersForm) → handlers_fit types variables texts exceptions callable inside hs ≡ true
          → CreatesFree P (created_by_handlers hs) → HandlersSpare P hs
      handlers_free inside no_handlers fits free = tt
      handlers_free inside (a_handler choices fs hs) fits free =
          let front = list_all (choice_fits exceptions) choices && has_statement fs in
          let here = stmts_fit types variables texts exceptions callable inside fs in
          let later = handlers_fit types variables texts exceptions callable inside hs in
          let both = split_free P (created_by_all fs) (created_by_handlers hs) free in
          let first = and_left (front && here) later fits in
          (stmts_free inside fs (and_right front here first) both.0, handlers_free inside hs (and_right (front && here) later fits) both.1)

    -- The three parts of a body.
    part_free :
        (ds : List DeclarationForm) (fs : StmtsForm) (hs : HandlersForm)
        → CreatesFree P (map creation ds ++ created_by_all fs ++ created_by_handlers hs)
        → stmts_fit types variables texts exceptions callable false fs ≡ true → handlers_fit types variables texts exceptions callable false hs ≡ true
        → PartSpares P ds fs hs
    part_free ds fs hs free done handled =
        let last = split_free P (map creation ds ++ created_by_all fs) (created_by_handlers hs) free in
        let first = split_free P (map creation ds) (created_by_all fs) last.0 in
        (declared_free P ds first.0, stmts_free false fs done first.1, handlers_free false hs handled last.1)

-- A formal parameter is one of the first variables of a body, and has its kind (6.1).
formal_is : (n : ℕ) (variables : List VariableForm) (x : ℕ) (kind : VariableKind) → slice_get (map kind_held (take n variables)) x ≡ Some kind
    → (x < n) × (variable_kind variables x ≡ Some kind)
formal_is zero variables x kind is = absurd (cc)
formal_is (suc n) [] x kind is = absurd (cc)
formal_is (suc n) (v ∷ variables) zero kind is = (omega arith, is)
formal_is (suc n) (v ∷ variables) (suc x) kind is = let later = formal_is n variables x kind is in (omega (arith, later.0), later.1)

no_record : (kind other : VariableKind) → kind ≡ other → IsNoRecord other → IsNoRecord kind
no_record kind other same is = subst IsNoRecord (sym same) is

-- A body that fits.
fitting_spares :
    (types : List TypeForm) (texts exceptions : List (List ℕ)) (callable : List Profile) (b : BodyForm) → body_fits types texts exceptions callable b ≡ true
    → BodySpares (λ x. IsRecordOf (Some b) x → ⊥) b
fitting_spares types texts exceptions callable b fits =
    let variables = list_all (variable_fits types) b.variables in
    let creates = creates_from (length b.variables) (length b.formals) (created_in b) in
    let declared = declarations_fit types b.variables b.declarations in
    let done = stmts_fit types b.variables texts exceptions callable false b.statements in
    let handled = handlers_fit types b.variables texts exceptions callable false b.handlers in
    let four = and_left (variables && creates && declared && done) handled fits in
    let three = and_left (variables && creates && declared) done four in
    let two = and_left (variables && creates) declared three in
    part_free P types b.variables by_kind texts exceptions callable b.declarations b.statements b.handlers
    (created_free P (length b.formals) by_number (length b.variables) (length b.formals) (created_in b) (omega arith) (and_right variables creates two))
    (and_right (variables && creates && declared) done four) (and_right (variables && creates && declared && done) handled fits)
  where
    P : ℕ → Type 0
    P x = IsRecordOf (Some b) x → ⊥

    by_kind : (x : ℕ) (kind : VariableKind) → variable_kind b.variables x ≡ Some kind → IsNoRecord kind → IsRecordOf (Some b) x → ⊥
    by_kind x kind is other (object, formal) =
        let held = (formal_is (length b.formals) b.variables x (variable.Record object) formal).1 in
        let same : variable.Record object ≡ kind = cc in
        no_record (variable.Record object) kind same other

    by_number : (x : ℕ) → length b.formals ≤ x → IsRecordOf (Some b) x → ⊥
    by_number x above (object, formal) =
        let below = (formal_is (length b.formals) b.variables x (variable.Record object) formal).0 in
        absurd (omega (arith, below, above))

-- So it is with each body of a well-formed program.
pub bodies_spare :
    (program : Program) → IsWellFormed (program_form program) → (procedure : ℕ) (b : BodyForm) → slice_get (body_forms program) procedure ≡ Some b
    → BodySpares (IsOther (body_forms program) (Some procedure)) b
bodies_spare program well procedure b is =
    let p = program_form program in
    subst (λ (o : Option BodyForm). BodySpares (λ x. IsRecordOf o x → ⊥) b) (sym is)
    (fitting_spares p.types p.texts p.exceptions (map profile_of (take procedure p.bodies)) b
    (body_at p.types p.texts p.exceptions [] p.bodies procedure b well.bodies_fit is))

-- The main body has no formal parameters.
pub main_spares : (program : Program) → IsWellFormed (program_form program) → BodySpares (IsOther (body_forms program) None) (main_body (program_form program))
main_spares program well =
    let p = program_form program in
    let P : ℕ → Type 0 = IsOther (body_forms program) None in
    part_free P p.types p.variables (λ x kind is other formal. formal) p.texts p.exceptions (map profile_of p.bodies) p.declarations p.statements p.handlers
    (created_free P 0 (λ x above formal. formal) (length p.variables) 0 (creations p) (omega arith) well.creates_in_order)
    well.statements_fit well.handlers_fit
