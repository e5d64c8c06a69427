use Rattle.std.proofs.Common.{◌≡◌, drop}
use Rattle.ada_program.specs.Form.{StmtsForm, stmts_form, branches_form, handlers_form}
use Rattle.ada_program.specs.Kept.{types_in}
use Rattle.ada_quiet.specs.Apart.{all_call_apart, branches_call_apart, handlers_call_apart}
use Rattle.ada_quiet.specs.Known.{is_marked}
use Rattle.ada_quiet.proofs.apart.+statements.Given as goal

-- what is left tells of all
abbrev pub invariant-all_call_apart-statements : goal.invariant-all_call_apart-statements
invariant-all_call_apart-statements l =
    all_call_apart (types_in l.fn.types) (is_marked l.fn.marks) (stmts_form (drop l.statement-index l.statements))
    ≡ all_call_apart (types_in l.fn.types) (is_marked l.fn.marks) (stmts_form l.statements)

-- what is left tells of all
abbrev pub invariant-branches_call_apart-branches : goal.invariant-branches_call_apart-branches
invariant-branches_call_apart-branches l = (others : StmtsForm) →
    branches_call_apart (types_in l.fn.types) (is_marked l.fn.marks) (branches_form (drop l.branch-index l.branches) others)
    ≡ branches_call_apart (types_in l.fn.types) (is_marked l.fn.marks) (branches_form l.branches others)

-- what is left tells of all
abbrev pub invariant-handlers_call_apart-handlers : goal.invariant-handlers_call_apart-handlers
invariant-handlers_call_apart-handlers l =
    handlers_call_apart (types_in l.fn.types) (is_marked l.fn.marks) (handlers_form (drop l.handler-index l.handlers))
    ≡ handlers_call_apart (types_in l.fn.types) (is_marked l.fn.marks) (handlers_form l.handlers)
