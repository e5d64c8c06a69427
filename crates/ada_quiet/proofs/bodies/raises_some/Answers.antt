use Rattle.std.proofs.Common.{◌≡◌, ℕ, true, not, ◌==◌, List, [], ◌∷◌, length, vec_len, refl, ap, ◌∙◌, arith}
use Rattle.std.specs.List.{list_any}
use Rattle.ada_effects.specs.Effects.{Effect}
use Rattle.ada_quiet.proofs.bodies.raises_some.Goals as goal

-- one of some things is there, if there are some
some_there : {X : Type 0} (xs : List X) → not (length xs == 0) ≡ list_any (λ x. true) xs
some_there [] = refl
some_there (x ∷ xs) = grind arith

pub returns : goal.returns
returns c =
    let raised = c.in_ok-effect.effect.raises in
    let size : vec_len raised ≡ length raised.items = omega (arith, raised.ok.0) in
    ap not (c.is_empty.ensures ∙ ap (λ (n : ℕ). n == 0) size) ∙ some_there raised.items ∙ ap (λ (e : Effect). e.raises (λ x. true)) c.in_ok-effect.ensures
