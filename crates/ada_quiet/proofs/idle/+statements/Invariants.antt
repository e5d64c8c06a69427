use Rattle.std.proofs.Common.{◌≡◌, drop}
use Rattle.ada_program.specs.Form.{StmtsForm, stmts_form, branches_form, handlers_form}
use Rattle.ada_program.specs.Kept.{types_in}
use Rattle.ada_quiet.specs.Idle.{stmts_make_parts, branches_make_parts, handlers_make_parts}
use Rattle.ada_quiet.proofs.idle.+statements.Given as goal

-- what is left tells of all
abbrev pub invariant-stmts_make_parts-statements : goal.invariant-stmts_make_parts-statements
invariant-stmts_make_parts-statements l =
    stmts_make_parts (types_in l.fn.types) l.fn.copies (stmts_form (drop l.statement-index l.statements))
    ≡ stmts_make_parts (types_in l.fn.types) l.fn.copies (stmts_form l.statements)

-- what is left tells of all
abbrev pub invariant-branches_make_parts-branches : goal.invariant-branches_make_parts-branches
invariant-branches_make_parts-branches l = (others : StmtsForm) →
    branches_make_parts (types_in l.fn.types) l.fn.copies (branches_form (drop l.branch-index l.branches) others)
    ≡ branches_make_parts (types_in l.fn.types) l.fn.copies (branches_form l.branches others)

-- what is left tells of all
abbrev pub invariant-handlers_make_parts-handlers : goal.invariant-handlers_make_parts-handlers
invariant-handlers_make_parts-handlers l =
    handlers_make_parts (types_in l.fn.types) l.fn.copies (handlers_form (drop l.handler-index l.handlers))
    ≡ handlers_make_parts (types_in l.fn.types) l.fn.copies (handlers_form l.handlers)
