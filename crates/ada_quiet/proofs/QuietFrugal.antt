-- Plain bodies are frugal.

use Rattle.std.proofs.Common.{◌≡◌, refl}
use Rattle.std.specs.Prelude.{Bool, true, ◌&&◌, List, [], ◌∷◌, drop}
use Rattle.std.specs.List.{list_all}
use Rattle.ada_program.specs.Form.{RightForm, nothing, value_of, allocates, allocates_default, computes, StmtForm, skips, assigns, assigns_record, frees, gets, writes, writes_text, chooses, repeats, counts, exits, calls, returns, raises, encloses, StmtsForm, no_stmts, a_stmt, BranchesForm, otherwise, a_branch, HandlersForm, no_handlers, a_handler, DeclarationForm, creates_pool, collects, declares, declares_record}
use Rattle.ada_program.specs.ProgramForm.{TypeForm, VariableForm, BodyForm}
use Rattle.ada_program.specs.WellFormed.{variable_kind}
use Rattle.ada_quiet.specs.Frugal.{Thrift, allocates_frugally, is_frugal_declaration, are_frugal_declarations, is_frugal_stmt, are_frugal, are_frugal_branches, are_frugal_handlers, is_frugal_body}
use Rattle.ada_quiet.specs.Quiet.{is_elementary, holds_elementary, is_quiet_path, is_quiet_expression, is_quiet_condition, is_quiet_right, is_quiet_declaration, are_quiet_declarations, is_quiet_stmt, are_quiet, are_quiet_branches, are_quiet_handlers, is_plain_body}
use Rattle.ada_quiet.proofs.InUse.{second_of_both, others}

module _ (thrift : Thrift) (types : List TypeForm) (variables : List VariableForm) where
  -- What is quiet allocates nothing.
  right_frugal : (right : RightForm) → is_quiet_right types variables right ≡ true → allocates_frugally thrift right ≡ true
  right_frugal nothing quiet = refl
  right_frugal (value_of path) quiet = refl
  right_frugal (allocates access items) quiet = absurd (cc quiet)
  right_frugal (allocates_default access) quiet = absurd (cc quiet)
  right_frugal (computes e) quiet = refl

  declaration_frugal : (d : DeclarationForm) → is_quiet_declaration types variables d ≡ true → is_frugal_declaration thrift d ≡ true
  declaration_frugal (creates_pool p) quiet = absurd (cc quiet)
  declaration_frugal (collects access) quiet = absurd (cc quiet)
  declaration_frugal (declares x right) quiet =
      right_frugal right (second_of_both (holds_elementary (variable_kind variables x)) (is_quiet_right types variables right) quiet)
  declaration_frugal (declares_record x t initial) quiet = absurd (cc quiet)

  declarations_frugal : (ds : List DeclarationForm) → are_quiet_declarations types variables ds ≡ true → are_frugal_declarations thrift ds ≡ true
  declarations_frugal [] quiet = refl
  declarations_frugal (d ∷ ds) quiet =
      others (is_quiet_declaration types variables d) (are_quiet_declarations types variables ds) (is_frugal_declaration thrift d)
      (are_frugal_declarations thrift ds)
      (declaration_frugal d) (declarations_frugal ds) quiet

  mutual
    stmt_frugal : (f : StmtForm) → is_quiet_stmt types variables f ≡ true → is_frugal_stmt thrift f ≡ true
    stmt_frugal skips quiet = refl
    stmt_frugal (assigns target right) quiet =
        right_frugal right (second_of_both (is_quiet_path types variables target) (is_quiet_right types variables right) quiet)
    stmt_frugal (assigns_record target items) quiet = absurd (cc quiet)
    stmt_frugal (frees access path) quiet = absurd (cc quiet)
    stmt_frugal (gets target) quiet = refl
    stmt_frugal (writes e) quiet = refl
    stmt_frugal (writes_text text) quiet = refl
    stmt_frugal (chooses branches) quiet = branches_frugal branches quiet
    stmt_frugal (repeats condition fs spot) quiet =
        stmts_frugal fs (second_of_both (is_quiet_condition types variables condition) (are_quiet types variables fs) quiet)
    stmt_frugal (counts x low high fs spot) quiet =
        let before = holds_elementary (variable_kind variables x) && is_quiet_expression types variables low && is_quiet_expression types variables high in
        stmts_frugal fs (second_of_both before (are_quiet types variables fs) quiet)
    stmt_frugal (exits condition spot) quiet = refl
    stmt_frugal (calls procedure actuals) quiet = absurd (cc quiet)
    stmt_frugal (returns spot) quiet = refl
    stmt_frugal (raises e) quiet = refl
    stmt_frugal (encloses ds fs hs) quiet =
        others (are_quiet_declarations types variables ds && are_quiet types variables fs) (are_quiet_handlers types variables hs)
        (are_frugal_declarations thrift ds && are_frugal thrift fs) (are_frugal_handlers thrift hs)
        (others (are_quiet_declarations types variables ds) (are_quiet types variables fs) (are_frugal_declarations thrift ds) (are_frugal thrift fs)
        (declarations_frugal ds) (stmts_frugal fs))
        (handlers_frugal hs) quiet

    stmts_frugal : (fs : StmtsForm) → are_quiet types variables fs ≡ true → are_frugal thrift fs ≡ true
    stmts_frugal no_stmts quiet = refl
    stmts_frugal (a_stmt f fs) quiet =
        others (is_quiet_stmt types variables f) (are_quiet types variables fs) (is_frugal_stmt thrift f) (are_frugal thrift fs) (stmt_frugal f)
        (stmts_frugal fs) quiet

    branches_frugal : (branches : BranchesForm) → are_quiet_branches types variables branches ≡ true → are_frugal_branches thrift branches ≡ true
    branches_frugal (otherwise fs) quiet = stmts_frugal fs quiet
    branches_frugal (a_branch e fs branches) quiet =
        let condition = is_quiet_expression types variables e in
        others (condition && are_quiet types variables fs) (are_quiet_branches types variables branches) (are_frugal thrift fs)
        (are_frugal_branches thrift branches)
        (λ both. stmts_frugal fs (second_of_both condition (are_quiet types variables fs) both))
        (branches_frugal branches) quiet

    handlers_frugal : (hs : HandlersForm) → are_quiet_handlers types variables hs ≡ true → are_frugal_handlers thrift hs ≡ true
    handlers_frugal no_handlers quiet = refl
    handlers_frugal (a_handler choices fs hs) quiet =
        others (are_quiet types variables fs) (are_quiet_handlers types variables hs) (are_frugal thrift fs) (are_frugal_handlers thrift hs)
        (stmts_frugal fs) (handlers_frugal hs) quiet

-- All variables of a plain body but its formal parameter are Integers and Booleans: of a frugal one this is not asked.
pub frugal_body : (thrift : Thrift) (types : List TypeForm) (b : BodyForm) → is_plain_body types b ≡ true → is_frugal_body thrift b ≡ true
frugal_body thrift types b plain =
    others (elementary && declarations && statements) handlers (are_frugal_declarations thrift b.declarations && are_frugal thrift b.statements)
    (are_frugal_handlers thrift b.handlers)
    (others (elementary && declarations) statements (are_frugal_declarations thrift b.declarations) (are_frugal thrift b.statements)
    (λ both. declarations_frugal thrift types b.variables b.declarations (second_of_both elementary declarations both))
    (stmts_frugal thrift types b.variables b.statements))
    (handlers_frugal thrift types b.variables b.handlers) plain
  where
    elementary : Bool
    elementary = list_all (λ x. is_elementary x.kind) (drop 1 b.variables)

    declarations : Bool
    declarations = are_quiet_declarations types b.variables b.declarations

    statements : Bool
    statements = are_quiet types b.variables b.statements

    handlers : Bool
    handlers = are_quiet_handlers types b.variables b.handlers
