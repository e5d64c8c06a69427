use Rattle.std.proofs.Common.{◌≡◌, ℕ, ◌||◌, drop}
use Rattle.ada_deeds.specs.Follows.{links_follow}
use Rattle.ada_effects.specs.Found.{has_number}
use Rattle.ada_program.specs.Form.{links_form}
use Rattle.ada_program.specs.Kept.{types_in, variables_in}
use Rattle.ada_deeds.proofs.follows.+evaluation.Given as goal

-- what is left tells of all
abbrev pub invariant-follow_links-links : goal.invariant-follow_links-links
invariant-follow_links-links l = (t : ℕ) →
    (has_number l.followed.items t || links_follow (types_in l.types) (variables_in l.variables) t (links_form (drop l.link-index l.links)))
    ≡ (has_number l.fn.followed.items t || links_follow (types_in l.types) (variables_in l.variables) t (links_form l.links))
