-- What operations assign to records with controlled parts as wholes (5.2, 7.6), where they may be called: that lies inside of their formal parameters, or in record
-- objects that they declare. What they call assigns to such ones alone that it declares itself.

use Rattle.std.proofs.Common.{◌≡◌, arith, ℕ, zero, suc, Bool, true, false, ◌&&◌, ◌||◌, List, [], ◌∷◌, refl, ◌⊎◌, inl, inr}
use Rattle.std.specs.Prelude.{Option, Some, None, is_some, not, if◌then◌else◌, ◌==◌, nat_lt, length}
use Rattle.std.specs.List.{list_all, slice_get, slice_index_or}
use Rattle.std.proofs.lemmas.Bool.{and_from, and_parts, eqb-true, or_cases, or_left}
use Rattle.ada_assigned.specs.Law.{CalledAssignBeside, lies_beside, procedure_assigns_beside, assigns_inside, all_assign_inside, branches_assign_inside, handlers_assign_inside, body_assigns_inside, lies_at_hand, operation_assigns_inside, operations_assign_inside, procedure_assigns_inside, type_assigns_inside}
use Rattle.ada_effects.specs.Effects.{is_behind_value, record_path_raises}
use Rattle.ada_program.specs.declared.program.Finalization.{Finalization}
use Rattle.ada_program.specs.declared.program.ProcedureNo.{ProcedureNo}
use Rattle.ada_program.specs.Form.{RecordPathForm, ItemForm, StmtForm, skips, assigns, assigns_record, frees, gets, writes, writes_text, chooses, repeats, counts, exits, calls, returns, raises, encloses, StmtsForm, no_stmts, a_stmt, BranchesForm, otherwise, a_branch, HandlersForm, no_handlers, a_handler}
use Rattle.ada_program.specs.ProgramForm.{TypeForm, BodyForm, ProgramForm}
use Rattle.ada_program.specs.WellFormed.{finalization_in, finalization_of}
use Rattle.ada_quiet.proofs.FrugalAt.{frugal_called, operation_at}
use Rattle.ada_quiet.proofs.QuietFrugal.{frugal_body}
use Rattle.ada_quiet.specs.Apart.{is_bare_item}
use Rattle.ada_quiet.specs.Frugal.{Thrift, assigns_at_hand, are_frugal_declarations, is_frugal_stmt, are_frugal, are_frugal_branches, are_frugal_handlers, is_frugal_body, is_frugal_operation, thrift_of, called_by, frugal_procedures, is_inert, is_copied}
use Rattle.ada_quiet.specs.InUse.{adjusts_nothing, may_adjust_frugally, may_be_frugal, may_track, operations_may_be_called, uses_adjust, uses_called_adjust, uses_finalize, uses_initialize, uses_operations}
use Rattle.ada_quiet.specs.Quiet.{has_access, operation_body, is_plain_body, is_plain_operation, is_quiet_body, is_quiet_operation}
use Rattle.ada_quiet.specs.Simple.{is_simple_body, is_simple_operation}
use Rattle.ada_sound.proofs.FrugalBodies.{frugal_parts}
use Rattle.ada_sound.proofs.SimpleBodies.{simple_frugal}

-- A path into a record variable, on which no access value is followed, lies at hand, if it may be assigned to in that variable,
at_hand : (within : ℕ → Bool) (target : RecordPathForm) → not (record_path_raises target) ≡ true
    → (not (target.object.root == 0) || (within target.record_type && not (target.part == 0))) ≡ true → lies_at_hand within target ≡ true
at_hand within target straight inside = by target.object.of_record target.object.selectors straight
  where
    by : (of_record : Bool) (cs : List ℕ) → not (is_behind_value of_record cs) ≡ true
        → lies_at_hand within (record target { object = record target.object { of_record = of_record; selectors = cs } }) ≡ true
    by false [] h = absurd (cc h)
    by true [] h = inside
    by false (c ∷ cs) h = absurd (cc h)
    by true (c ∷ cs) h = absurd (cc h)

-- or beside the formal parameters, if that is none of these.
beside : (formals : ℕ) (target : RecordPathForm) → not (record_path_raises target) ≡ true → not (nat_lt target.object.root formals) ≡ true → lies_beside formals target ≡ true
beside formals target straight other = by target.object.of_record target.object.selectors straight
  where
    by : (of_record : Bool) (cs : List ℕ) → not (is_behind_value of_record cs) ≡ true
        → lies_beside formals (record target { object = record target.object { of_record = of_record; selectors = cs } }) ≡ true
    by false [] h = absurd (cc h)
    by true [] h = other
    by false (c ∷ cs) h = absurd (cc h)
    by true (c ∷ cs) h = absurd (cc h)

-- A frugal body assigns so, and calls procedures with frugal bodies alone.
module _ (thrift : Thrift) (may_assign : RecordPathForm → Bool) (may : (target : RecordPathForm) → assigns_at_hand thrift target ≡ true → may_assign target ≡ true) where
  abbrev may_call : ℕ → Bool
  may_call procedure = slice_index_or thrift.procedures procedure false

  record_inside : (target : RecordPathForm) (items : List ItemForm) (parted : Bool)
      → (if parted then assigns_at_hand thrift target else list_all (is_bare_item thrift.types) items) ≡ true → (not parted || may_assign target) ≡ true
  record_inside target items false is = refl
  record_inside target items true is = may target is

  mutual
    stmt_inside : (f : StmtForm) → is_frugal_stmt thrift f ≡ true → assigns_inside thrift.types may_assign may_call f ≡ true
    stmt_inside skips is = refl
    stmt_inside (assigns target right) is = refl
    stmt_inside (assigns_record target items) is = record_inside target items (is_some (finalization_of thrift.types target.record_type)) is
    stmt_inside (frees access path) is = refl
    stmt_inside (gets target) is = refl
    stmt_inside (writes e) is = refl
    stmt_inside (writes_text text) is = refl
    stmt_inside (chooses branches) is = branches_inside branches is
    stmt_inside (repeats condition fs spot) is = stmts_inside fs is
    stmt_inside (counts x low high fs spot) is = stmts_inside fs is
    stmt_inside (exits condition spot) is = refl
    stmt_inside (calls procedure actuals) is = is
    stmt_inside (returns spot) is = refl
    stmt_inside (raises e) is = refl
    stmt_inside (encloses ds fs hs) is =
        let two = and_parts (are_frugal_declarations thrift ds && are_frugal thrift fs) (are_frugal_handlers thrift hs) is in
        let three = and_parts (are_frugal_declarations thrift ds) (are_frugal thrift fs) two.0 in
        and_from _ _ (stmts_inside fs three.1) (handlers_inside hs two.1)

    stmts_inside : (fs : StmtsForm) → are_frugal thrift fs ≡ true → all_assign_inside thrift.types may_assign may_call fs ≡ true
    stmts_inside no_stmts is = refl
    stmts_inside (a_stmt f fs) is =
        let both = and_parts (is_frugal_stmt thrift f) (are_frugal thrift fs) is in and_from _ _ (stmt_inside f both.0) (stmts_inside fs both.1)

    branches_inside : (branches : BranchesForm) → are_frugal_branches thrift branches ≡ true → branches_assign_inside thrift.types may_assign may_call branches ≡ true
    branches_inside (otherwise fs) is = stmts_inside fs is
    branches_inside (a_branch e fs branches) is =
        let both = and_parts (are_frugal thrift fs) (are_frugal_branches thrift branches) is in and_from _ _ (stmts_inside fs both.0) (branches_inside branches both.1)

    handlers_inside : (hs : HandlersForm) → are_frugal_handlers thrift hs ≡ true → handlers_assign_inside thrift.types may_assign may_call hs ≡ true
    handlers_inside no_handlers is = refl
    handlers_inside (a_handler choices fs hs) is =
        let both = and_parts (are_frugal thrift fs) (are_frugal_handlers thrift hs) is in and_from _ _ (stmts_inside fs both.0) (handlers_inside hs both.1)

  body_inside : (b : BodyForm) → is_frugal_body thrift b ≡ true → body_assigns_inside thrift.types may_assign may_call b ≡ true
  body_inside b is = let three = frugal_parts thrift b is in and_from _ _ (stmts_inside b.statements three.1) (handlers_inside b.handlers three.2)

-- So does what overrides an operation.
module _ (p : ProgramForm) where
  -- Inside of formal parameters it assigns to records for which nothing is called.
  abbrev inside_formals : ℕ → Bool
  inside_formals t = is_inert (thrift_of p) t

  -- It calls procedures with frugal bodies alone.
  abbrev pub frugally_called : ℕ → Bool
  frugally_called procedure = slice_index_or (frugal_procedures p) procedure false

  formal_at : (root part : ℕ) (inert : Bool) → (not (nat_lt root 1) || (true && inert && not (part == 0))) ≡ true → (not (root == 0) || (inert && not (part == 0))) ≡ true
  formal_at zero part inert is = is
  formal_at (suc root) part inert is = by (suc root == 0) refl
    where
      by : (first : Bool) → (suc root == 0) ≡ first → (not (suc root == 0) || (inert && not (part == 0))) ≡ true
      by true first = let none = eqb-true (suc root) 0 first in absurd (omega (arith, none))
      by false first = or_left (not (suc root == 0)) (inert && not (part == 0)) (rw first refl)

  operation_at_hand : (target : RecordPathForm) → assigns_at_hand (thrift_of p) target ≡ true → lies_at_hand inside_formals target ≡ true
  operation_at_hand target is =
      let copied = is_copied (thrift_of p) target.record_type in
      let inside = not (nat_lt target.object.root 1) || (true && inside_formals target.record_type && not (target.part == 0)) in
      let two = and_parts (copied && not (record_path_raises target)) inside is in
      at_hand inside_formals target (and_parts copied (not (record_path_raises target)) two.0).1
      (formal_at target.object.root target.part (inside_formals target.record_type) two.1)

  operation_inside : (b : BodyForm) → is_frugal_body (thrift_of p) b ≡ true → body_assigns_inside p.types (lies_at_hand inside_formals) frugally_called b ≡ true
  operation_inside b is = body_inside (thrift_of p) (lies_at_hand inside_formals) operation_at_hand b is

  -- And a procedure with a frugal body assigns to what it declares alone.
  called_at_hand : (formals : ℕ) (target : RecordPathForm) → assigns_at_hand (called_by p.types (frugal_procedures p) formals) target ≡ true → lies_beside formals target ≡ true
  called_at_hand formals target is =
      let thrift = called_by p.types (frugal_procedures p) formals in
      let copied = is_copied thrift target.record_type in
      let other = not (nat_lt target.object.root formals) in
      let formal = false && is_inert thrift target.record_type && not (target.part == 0) in
      let two = and_parts (copied && not (record_path_raises target)) (other || formal) is in
      beside formals target (and_parts copied (not (record_path_raises target)) two.0).1
      (elim (or_cases other formal two.1) [
        | inl is_other ↦ is_other
        | inr never ↦ absurd (cc never)
      ])

  pub called_beside : CalledAssignBeside p frugally_called
  called_beside procedure told = by (slice_get p.bodies procedure) refl
    where
      by : (found : Option BodyForm) → slice_get p.bodies procedure ≡ found → procedure_assigns_beside p.types frugally_called found ≡ true
      by None at = refl
      by (Some b) at =
          body_inside (called_by p.types (frugal_procedures p) (length b.formals)) (lies_beside (length b.formals)) (called_at_hand (length b.formals)) b
          (frugal_called p procedure b told at)

  -- Whatever is said of its body.
  body_of : (P : BodyForm → Type 0) → ((b : BodyForm) → P b → body_assigns_inside p.types (lies_at_hand inside_formals) frugally_called b ≡ true) → (procedure : ProcedureNo)
      → ((b : BodyForm) → slice_get p.bodies procedure.0 ≡ Some b → P b) → operation_assigns_inside p inside_formals frugally_called (Some procedure) ≡ true
  body_of P inside procedure says = by (slice_get p.bodies procedure.0) refl
    where
      by : (found : Option BodyForm) → slice_get p.bodies procedure.0 ≡ found → procedure_assigns_inside p.types inside_formals frugally_called found ≡ true
      by None at = refl
      by (Some b) at = inside b (says b at)

  plain_inside : (o : Option ProcedureNo) → is_plain_operation p o ≡ true → operation_assigns_inside p inside_formals frugally_called o ≡ true
  plain_inside None is = refl
  plain_inside (Some procedure) is =
      body_of (λ b. is_plain_body p.types b ≡ true) (λ b plain. operation_inside b (frugal_body (thrift_of p) p.types b plain)) procedure
      (λ b at. rw at at is)

  quiet_inside : (o : Option ProcedureNo) → is_quiet_operation p o ≡ true → operation_assigns_inside p inside_formals frugally_called o ≡ true
  quiet_inside None is = refl
  quiet_inside (Some procedure) is =
      body_of (λ b. is_quiet_body p.types b ≡ true)
      (λ b quiet. operation_inside b (frugal_body (thrift_of p) p.types b (and_parts (is_plain_body p.types b) _ quiet).0)) procedure
      (λ b at. rw at at is)

  simple_inside : (o : Option ProcedureNo) → is_simple_operation p o ≡ true → operation_assigns_inside p inside_formals frugally_called o ≡ true
  simple_inside None is = refl
  simple_inside (Some procedure) is =
      body_of (λ b. is_simple_body p.types b ≡ true)
      (λ b simple. operation_inside b (simple_frugal (thrift_of p) b simple)) procedure
      (λ b at. rw at at is)

  frugal_inside : (o : Option ProcedureNo) → is_frugal_operation p o ≡ true → operation_assigns_inside p inside_formals frugally_called o ≡ true
  frugal_inside None is = refl
  frugal_inside (Some procedure) is =
      body_of (λ b. is_frugal_body (thrift_of p) b ≡ true) operation_inside procedure (λ b at. operation_at p procedure.0 b is at)

  initialize_inside : (o : Option ProcedureNo) → uses_initialize p o ≡ true → operation_assigns_inside p inside_formals frugally_called o ≡ true
  initialize_inside o uses = by (or_cases (is_plain_operation p o) (may_be_frugal p && is_frugal_operation p o) uses)
    where
      by : (is_plain_operation p o ≡ true) ⊎ ((may_be_frugal p && is_frugal_operation p o) ≡ true) → operation_assigns_inside p inside_formals frugally_called o ≡ true
      by (inl plain) = plain_inside o plain
      by (inr frugal) = frugal_inside o (and_parts (may_be_frugal p) (is_frugal_operation p o) frugal).1

  finalize_inside : (o : Option ProcedureNo) → uses_finalize p o ≡ true → operation_assigns_inside p inside_formals frugally_called o ≡ true
  finalize_inside o uses = by (or_cases (is_quiet_operation p o) (may_be_frugal p && is_frugal_operation p o) uses)
    where
      by : (is_quiet_operation p o ≡ true) ⊎ ((may_be_frugal p && is_frugal_operation p o) ≡ true) → operation_assigns_inside p inside_formals frugally_called o ≡ true
      by (inl quiet) = quiet_inside o quiet
      by (inr frugal) = frugal_inside o (and_parts (may_be_frugal p) (is_frugal_operation p o) frugal).1

  freely_inside : (o : Option ProcedureNo) → (is_quiet_operation p o ≡ true) ⊎ ((may_adjust_frugally p && is_frugal_operation p o) ≡ true) → operation_assigns_inside p inside_formals frugally_called o ≡ true
  freely_inside o (inl quiet) = quiet_inside o quiet
  freely_inside o (inr frugal) = frugal_inside o (and_parts (may_adjust_frugally p) (is_frugal_operation p o) frugal).1

  called_inside : (o : Option ProcedureNo) (owns : Bool)
      → (if owns then may_track p && is_simple_operation p o else (is_quiet_operation p o || (may_adjust_frugally p && is_frugal_operation p o))) ≡ true
      → operation_assigns_inside p inside_formals frugally_called o ≡ true
  called_inside o true uses = simple_inside o (and_parts (may_track p) (is_simple_operation p o) uses).1
  called_inside o false uses = freely_inside o (or_cases (is_quiet_operation p o) (may_adjust_frugally p && is_frugal_operation p o) uses)

  adjust_inside : (owns : Bool) (o : Option ProcedureNo) → uses_adjust p owns o ≡ true → operation_assigns_inside p inside_formals frugally_called o ≡ true
  adjust_inside owns o uses = by (or_cases (adjusts_nothing p && is_frugal_operation p o) (uses_called_adjust p owns o) uses)
    where
      by : ((adjusts_nothing p && is_frugal_operation p o) ≡ true) ⊎ (uses_called_adjust p owns o ≡ true) → operation_assigns_inside p inside_formals frugally_called o ≡ true
      by (inl frugal) = frugal_inside o (and_parts (adjusts_nothing p) (is_frugal_operation p o) frugal).1
      by (inr called) = called_inside o (owns && is_some (operation_body p o)) called

  type_inside : (owns : Bool) (o : Option Finalization) → uses_operations p owns o ≡ true → type_assigns_inside p inside_formals frugally_called o ≡ true
  type_inside owns None uses = refl
  type_inside owns (Some f) uses =
      let three = and_parts (uses_initialize p f.operations.initialize && uses_adjust p owns f.operations.adjust) (uses_finalize p f.operations.finalize) uses in
      let two = and_parts (uses_initialize p f.operations.initialize) (uses_adjust p owns f.operations.adjust) three.0 in
      and_from _ _ (and_from _ _ (initialize_inside f.operations.initialize two.0) (adjust_inside owns f.operations.adjust two.1))
      (finalize_inside f.operations.finalize three.1)

  types_inside : (types : List TypeForm) → list_all (λ t. uses_operations p (has_access (Some t)) (finalization_in (Some t))) types ≡ true
      → list_all (λ t. type_assigns_inside p inside_formals frugally_called (finalization_in (Some t))) types ≡ true
  types_inside [] uses = refl
  types_inside (t ∷ types) uses =
      let both = and_parts (uses_operations p (has_access (Some t)) (finalization_in (Some t))) _ uses in
      and_from _ _ (type_inside (has_access (Some t)) (finalization_in (Some t)) both.0) (types_inside types both.1)

-- So do all operations of a program, where they may be called.
pub operations_inside : (p : ProgramForm) → operations_may_be_called p ≡ true
    → operations_assign_inside p (λ t. is_inert (thrift_of p) t) (frugally_called p) ≡ true
operations_inside p called = types_inside p p.types called
