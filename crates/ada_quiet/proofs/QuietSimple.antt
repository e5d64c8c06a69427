-- Quiet bodies are simple, whether objects may be freed or not.

use Rattle.std.proofs.Common.{◌≡◌, refl}
use Rattle.std.specs.Prelude.{Bool, true, ◌&&◌, List, [], ◌∷◌, drop}
use Rattle.std.specs.List.{list_all}
use Rattle.ada_program.specs.Form.{RightForm, nothing, value_of, allocates, allocates_default, computes, StmtForm, skips, assigns, assigns_record, frees, gets, writes, writes_text, chooses, repeats, counts, exits, calls, returns, raises, encloses, StmtsForm, no_stmts, a_stmt, BranchesForm, otherwise, a_branch, HandlersForm, no_handlers, a_handler, DeclarationForm, creates_pool, collects, declares, declares_record}
use Rattle.ada_program.specs.declared.program.VariableKind.{VariableKind}
use Rattle.ada_program.specs.declared.program.VariableKind.TheVariants as variable
use Rattle.ada_program.specs.ProgramForm.{TypeForm, VariableForm, BodyForm}
use Rattle.ada_program.specs.WellFormed.{variable_kind}
use Rattle.ada_quiet.specs.Simple.{is_simple_right, is_simple_declaration, are_simple_declarations, is_simple_stmt, are_simple, are_simple_branches, are_simple_handlers, holds_one_value, is_simple_body}
use Rattle.ada_quiet.specs.Quiet.{is_elementary, holds_elementary, is_quiet_path, is_quiet_expression, is_quiet_condition, is_quiet_right, is_quiet_declaration, are_quiet_declarations, is_quiet_stmt, are_quiet, are_quiet_branches, are_quiet_handlers, is_quiet_body}
use Rattle.ada_quiet.proofs.InUse.{plain_body, second_of_both, others}

module _ (types known : List TypeForm) (variables : List VariableForm) where
  right_simple : (right : RightForm) → is_quiet_right types variables right ≡ true → is_simple_right known right ≡ true
  right_simple nothing quiet = absurd (cc quiet)
  right_simple (value_of path) quiet = absurd (cc quiet)
  right_simple (allocates access items) quiet = absurd (cc quiet)
  right_simple (allocates_default access) quiet = absurd (cc quiet)
  right_simple (computes e) quiet = refl

  declaration_simple : (d : DeclarationForm) → is_quiet_declaration types variables d ≡ true → is_simple_declaration known d ≡ true
  declaration_simple (creates_pool p) quiet = absurd (cc quiet)
  declaration_simple (collects access) quiet = absurd (cc quiet)
  declaration_simple (declares x right) quiet =
      right_simple right (second_of_both (holds_elementary (variable_kind variables x)) (is_quiet_right types variables right) quiet)
  declaration_simple (declares_record x t initial) quiet = absurd (cc quiet)

  declarations_simple : (ds : List DeclarationForm) → are_quiet_declarations types variables ds ≡ true → are_simple_declarations known ds ≡ true
  declarations_simple [] quiet = refl
  declarations_simple (d ∷ ds) quiet =
      others (is_quiet_declaration types variables d) (are_quiet_declarations types variables ds) (is_simple_declaration known d)
      (are_simple_declarations known ds)
      (declaration_simple d) (declarations_simple ds) quiet

  mutual
    stmt_simple : (f : StmtForm) → is_quiet_stmt types variables f ≡ true → is_simple_stmt known f ≡ true
    stmt_simple skips quiet = refl
    stmt_simple (assigns target right) quiet =
        right_simple right (second_of_both (is_quiet_path types variables target) (is_quiet_right types variables right) quiet)
    stmt_simple (assigns_record target items) quiet = absurd (cc quiet)
    stmt_simple (frees access path) quiet = absurd (cc quiet)
    stmt_simple (gets target) quiet = refl
    stmt_simple (writes e) quiet = refl
    stmt_simple (writes_text text) quiet = refl
    stmt_simple (chooses branches) quiet = branches_simple branches quiet
    stmt_simple (repeats condition fs spot) quiet =
        stmts_simple fs (second_of_both (is_quiet_condition types variables condition) (are_quiet types variables fs) quiet)
    stmt_simple (counts x low high fs spot) quiet =
        let before = holds_elementary (variable_kind variables x) && is_quiet_expression types variables low && is_quiet_expression types variables high in
        stmts_simple fs (second_of_both before (are_quiet types variables fs) quiet)
    stmt_simple (exits condition spot) quiet = refl
    stmt_simple (calls procedure actuals) quiet = absurd (cc quiet)
    stmt_simple (returns spot) quiet = refl
    stmt_simple (raises e) quiet = refl
    stmt_simple (encloses ds fs hs) quiet =
        others (are_quiet_declarations types variables ds && are_quiet types variables fs) (are_quiet_handlers types variables hs)
        (are_simple_declarations known ds && are_simple known fs) (are_simple_handlers known hs)
        (others (are_quiet_declarations types variables ds) (are_quiet types variables fs) (are_simple_declarations known ds) (are_simple known fs)
        (declarations_simple ds) (stmts_simple fs))
        (handlers_simple hs) quiet

    stmts_simple : (fs : StmtsForm) → are_quiet types variables fs ≡ true → are_simple known fs ≡ true
    stmts_simple no_stmts quiet = refl
    stmts_simple (a_stmt f fs) quiet =
        others (is_quiet_stmt types variables f) (are_quiet types variables fs) (is_simple_stmt known f) (are_simple known fs)
        (stmt_simple f) (stmts_simple fs) quiet

    branches_simple : (branches : BranchesForm) → are_quiet_branches types variables branches ≡ true → are_simple_branches known branches ≡ true
    branches_simple (otherwise fs) quiet = stmts_simple fs quiet
    branches_simple (a_branch e fs branches) quiet =
        let condition = is_quiet_expression types variables e in
        others (condition && are_quiet types variables fs) (are_quiet_branches types variables branches) (are_simple known fs)
        (are_simple_branches known branches)
        (λ both. stmts_simple fs (second_of_both condition (are_quiet types variables fs) both))
        (branches_simple branches) quiet

    handlers_simple : (hs : HandlersForm) → are_quiet_handlers types variables hs ≡ true → are_simple_handlers known hs ≡ true
    handlers_simple no_handlers quiet = refl
    handlers_simple (a_handler choices fs hs) quiet =
        others (are_quiet types variables fs) (are_quiet_handlers types variables hs) (are_simple known fs) (are_simple_handlers known hs)
        (stmts_simple fs) (handlers_simple hs) quiet

-- What holds an Integer or a Boolean is no record.
one_value : (kind : VariableKind) → is_elementary kind ≡ true → holds_one_value kind ≡ true
one_value variable.Integer h = refl
one_value variable.Boolean h = refl
one_value (variable.Access access) h = absurd (cc h)
one_value (variable.Record object) h = absurd (cc h)

one_value_each : (xs : List VariableForm) → list_all (λ x. is_elementary x.kind) xs ≡ true → list_all (λ x. holds_one_value x.kind) xs ≡ true
one_value_each [] h = refl
one_value_each (x ∷ xs) h =
    others (is_elementary x.kind) (list_all (λ y. is_elementary y.kind) xs) (holds_one_value x.kind) (list_all (λ y. holds_one_value y.kind) xs)
    (one_value x.kind) (one_value_each xs) h

-- No exception comes out of a quiet body: of a simple one this is not asked.
pub simple_body : (types known : List TypeForm) (b : BodyForm) → is_quiet_body types b ≡ true → is_simple_body known b ≡ true
simple_body types known b quiet =
    others (elementary && declarations && statements) handlers (plain && are_simple_declarations known b.declarations && are_simple known b.statements)
    (are_simple_handlers known b.handlers)
    (others (elementary && declarations) statements (plain && are_simple_declarations known b.declarations) (are_simple known b.statements)
    (others elementary declarations plain (are_simple_declarations known b.declarations) (one_value_each (drop 1 b.variables))
    (declarations_simple types known b.variables b.declarations))
    (stmts_simple types known b.variables b.statements))
    (handlers_simple types known b.variables b.handlers)
    (plain_body types b quiet)
  where
    elementary : Bool
    elementary = list_all (λ x. is_elementary x.kind) (drop 1 b.variables)

    plain : Bool
    plain = list_all (λ x. holds_one_value x.kind) (drop 1 b.variables)

    declarations : Bool
    declarations = are_quiet_declarations types b.variables b.declarations

    statements : Bool
    statements = are_quiet types b.variables b.statements

    handlers : Bool
    handlers = are_quiet_handlers types b.variables b.handlers
