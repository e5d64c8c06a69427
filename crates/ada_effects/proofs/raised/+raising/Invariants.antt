use Rattle.std.proofs.Common.{◌≡◌, Bool, ◌||◌, drop}
use Rattle.ada_effects.specs.Effects.{stmts_raise, branches_raise, handlers_raise}
use Rattle.ada_effects.specs.Found.{effects_in, is_found, left_of}
use Rattle.ada_effects.specs.Taken.{set_of}
use Rattle.ada_program.specs.declared.program.Exception.{Exception}
use Rattle.ada_program.specs.Form.{StmtsForm, stmts_form, branches_form, handlers_form}
use Rattle.ada_effects.proofs.raised.+raising.Given as goal

-- what is left tells of all, and what is taken is as it was
abbrev pub invariant-find_in_statements-statements : goal.invariant-find_in_statements-statements
invariant-find_in_statements-statements l = record {
  left : (among : Exception → Bool) →
      (is_found l.found among || stmts_raise (effects_in l.effects) (left_of (set_of l.fn.taken) among) (stmts_form (drop l.statement-index l.statements)))
      ≡ (is_found l.fn.found among || stmts_raise (effects_in l.effects) (left_of (set_of l.fn.taken) among) (stmts_form l.statements));
  kept : set_of l.taken ≡ set_of l.fn.taken;
}

-- what is left tells of all, and what is taken is as it was
abbrev pub invariant-find_in_branches-branches : goal.invariant-find_in_branches-branches
invariant-find_in_branches-branches l = record {
  left : (others : StmtsForm) (among : Exception → Bool) →
      (is_found l.found among || branches_raise (effects_in l.effects) (left_of (set_of l.fn.taken) among) (branches_form (drop l.branch-index l.branches) others))
      ≡ (is_found l.fn.found among || branches_raise (effects_in l.effects) (left_of (set_of l.fn.taken) among) (branches_form l.branches others));
  kept : set_of l.taken ≡ set_of l.fn.taken;
}

-- what is left tells of all, and what is taken is as it was
abbrev pub invariant-find_in_handlers-handlers : goal.invariant-find_in_handlers-handlers
invariant-find_in_handlers-handlers l = record {
  left : (among : Exception → Bool) →
      (is_found l.found among || handlers_raise (effects_in l.effects) (left_of (set_of l.fn.taken) among) (handlers_form (drop l.handler-index l.handlers)))
      ≡ (is_found l.fn.found among || handlers_raise (effects_in l.effects) (left_of (set_of l.fn.taken) among) (handlers_form l.handlers));
  kept : set_of l.taken ≡ set_of l.fn.taken;
}
