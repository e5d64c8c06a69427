use Rattle.std.proofs.Common.{◌≡◌, ℕ, ◌||◌, map, drop}
use Rattle.ada_deeds.specs.Follows.{selectors_follow}
use Rattle.ada_effects.specs.Found.{has_number}
use Rattle.ada_program.specs.Form.{component_number}
use Rattle.ada_program.specs.Kept.{types_in, variables_in}
use Rattle.ada_program.specs.WellFormed.{variable_kind}
use Rattle.ada_deeds.proofs.follows.follow_path.Given as goal

-- what is left of the path tells of all of it
abbrev pub invariant-selectors : goal.invariant-selectors
invariant-selectors l = (t : ℕ) →
    (has_number l.followed.items t || selectors_follow (types_in l.types) t l.kind (map component_number (drop l.component-index l.path.selectors.items)))
    ≡ (has_number l.fn.followed.items t || selectors_follow (types_in l.types) t (variable_kind (variables_in l.variables) l.path.root.0) (map component_number l.path.selectors.items))
