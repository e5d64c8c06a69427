use Rattle.std.proofs.Common.{◌≡◌, ℕ, ◌||◌, drop}
use Rattle.ada_effects.specs.Effects.{stmts_free, branches_free, handlers_free}
use Rattle.ada_effects.specs.Found.{effects_in, has_number}
use Rattle.ada_program.specs.Form.{StmtsForm, stmts_form, branches_form, handlers_form}
use Rattle.ada_program.specs.Kept.{types_in, variables_in}
use Rattle.ada_effects.proofs.frees.+freeing.Given as goal

-- what is left tells of all
abbrev pub invariant-free_in_statements-statements : goal.invariant-free_in_statements-statements
invariant-free_in_statements-statements l = (t : ℕ) →
    (has_number l.freed.list.items t || stmts_free (types_in l.types) (variables_in l.variables) (effects_in l.effects) t (stmts_form (drop l.statement-index l.statements)))
    ≡ (has_number l.fn.freed.list.items t || stmts_free (types_in l.types) (variables_in l.variables) (effects_in l.effects) t (stmts_form l.statements))

-- what is left tells of all
abbrev pub invariant-free_in_branches-branches : goal.invariant-free_in_branches-branches
invariant-free_in_branches-branches l = (others : StmtsForm) (t : ℕ) →
    (has_number l.freed.list.items t || branches_free (types_in l.types) (variables_in l.variables) (effects_in l.effects) t (branches_form (drop l.branch-index l.branches) others))
    ≡ (has_number l.fn.freed.list.items t || branches_free (types_in l.types) (variables_in l.variables) (effects_in l.effects) t (branches_form l.branches others))

-- what is left tells of all
abbrev pub invariant-free_in_handlers-handlers : goal.invariant-free_in_handlers-handlers
invariant-free_in_handlers-handlers l = (t : ℕ) →
    (has_number l.freed.list.items t || handlers_free (types_in l.types) (variables_in l.variables) (effects_in l.effects) t (handlers_form (drop l.handler-index l.handlers)))
    ≡ (has_number l.fn.freed.list.items t || handlers_free (types_in l.types) (variables_in l.variables) (effects_in l.effects) t (handlers_form l.handlers))
