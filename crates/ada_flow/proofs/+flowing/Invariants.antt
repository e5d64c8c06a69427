use Rattle.std.proofs.Common.{◌≡◌, drop}
use Rattle.ada_flow.specs.Flow.{stmts_flow, branches_flow, handlers_flow}
use Rattle.ada_flow.specs.Told.{around_of, ending, held, joined_end, noted, types_in, variables_in}
use Rattle.ada_program.specs.Form.{StmtsForm, stmts_form, branches_form, handlers_form}
use Rattle.ada_flow.proofs.+flowing.Given as goal

-- what is left, from what the variables hold now, ends as all end
abbrev pub invariant-statements::statements-loop-number : goal.invariant-statements::statements-loop-number
invariant-statements::statements-loop-number l =
    ending (noted l.raised) (stmts_flow (types_in l.around) (variables_in l.around) (around_of l.around) (stmts_form (drop l.number l.statements)) l.known.holds.items)
    ≡ ending (noted l.fn.raised) (stmts_flow (types_in l.around) (variables_in l.around) (around_of l.around) (stmts_form l.statements) l.fn.known.holds.items)

-- what is joined so far, with the ends of what is left, is what all end with
abbrev pub invariant-statements::branches-branches : goal.invariant-statements::branches-branches
invariant-statements::branches-branches l = (others : StmtsForm) →
    joined_end (held l.joined) (ending (noted l.raised) (branches_flow (types_in l.around) (variables_in l.around) (around_of l.around) (branches_form (drop l.branch-index l.branches) others) l.known.holds.items))
    ≡ ending (noted l.fn.raised) (branches_flow (types_in l.around) (variables_in l.around) (around_of l.around) (branches_form l.branches others) l.known.holds.items)

-- what is joined so far, with the ends of what is left, is what all end with
abbrev pub invariant-blocks::handlers-handlers : goal.invariant-blocks::handlers-handlers
invariant-blocks::handlers-handlers l =
    joined_end (held l.joined) (ending (noted l.raised) (handlers_flow (types_in l.around) (variables_in l.around) (around_of l.around) (handlers_form (drop l.handler-index l.handlers)) l.raising.holds.items))
    ≡ ending (noted l.fn.raised) (handlers_flow (types_in l.around) (variables_in l.around) (around_of l.around) (handlers_form l.handlers) l.raising.holds.items)
