-- What is left behind a Free: every alias of an access type is lost.

use Rattle.std.proofs.Common.{◌≡◌, ℕ, ◌+◌, ◌<◌, List, [], ◌∷◌, get_or, length, take, drop, map, Some, refl, ap, add-one}
use Rattle.std.proofs.Math.Seq.{drop-cons}
use Rattle.ada_program.specs.declared.program.Variable.{Variable}
use Rattle.ada_program.specs.ProgramForm.{variable_form}
use Rattle.ada_program.specs.WellFormed.{access_of, is_this}
use Rattle.ada_flow.specs.declared.rule.Hold.{Hold}
use Rattle.ada_flow.specs.Flow.{Holds, without_alias, without_aliases}

-- what is held beyond the variables is left out
pub aliases_short : (vs : List Variable) (t : ℕ) (hs : Holds) →
    without_aliases (map variable_form vs) t (take (length vs) hs) ≡ without_aliases (map variable_form vs) t hs
aliases_short [] t hs = refl
aliases_short (v ∷ vs) t [] = refl
aliases_short (v ∷ vs) t (h ∷ hs) = ap (λ rest. without_alias (is_this t (access_of (Some v.kind))) h ∷ rest) (aliases_short vs t hs)

-- where nothing is held, nothing is left
pub aliases_of_nothing : (vs : List Variable) (t : ℕ) → without_aliases (map variable_form vs) t [] ≡ []
aliases_of_nothing [] t = refl
aliases_of_nothing (v ∷ vs) t = refl

-- variable by variable
pub aliases_next : (vs : List Variable) (t : ℕ) (hs : Holds) (i : ℕ) (v : Variable) (h : Hold) → i < length vs → i < length hs →
    without_aliases (map variable_form (drop i vs)) t (drop i hs)
    ≡ without_alias (is_this t (access_of (Some (get_or vs i v).kind))) (get_or hs i h)
    ∷ without_aliases (map variable_form (drop (i + 1) vs)) t (drop (i + 1) hs)
aliases_next vs t hs i v h a b = rw (add-one, drop-cons vs i v, drop-cons hs i h) refl

pub ruleset losing_steps = (aliases_short, aliases_of_nothing, aliases_next)
