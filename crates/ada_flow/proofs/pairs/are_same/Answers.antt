use Rattle.std.proofs.Common.{◌≡◌, ◌==◌, Bool, ◌&&◌, List, [], ◌∷◌, map, refl, ap, ◌∙◌}
use Rattle.std.specs.Cmp.Lexicographic.{pointwise}
use Rattle.ada_program.specs.declared.program.ComponentNo.{ComponentNo}
use Rattle.ada_program.specs.Form.{component_number}
use Rattle.ada_flow.specs.Flow.{same_selectors}
use Rattle.ada_flow.proofs.pairs.are_same.Goals as goal

-- selectors that agree one by one are the same
same_by_each : (equal : ComponentNo → ComponentNo → Bool) → ((a b : ComponentNo) → equal a b ≡ (a.0 == b.0)) → (xs ys : List ComponentNo) →
    pointwise equal xs ys ≡ same_selectors (map component_number xs) (map component_number ys)
same_by_each equal each [] [] = refl
same_by_each equal each [] (b ∷ ys) = refl
same_by_each equal each (a ∷ xs) [] = refl
same_by_each equal each (a ∷ xs) (b ∷ ys) =
    ap (λ e. e && pointwise equal xs ys) (each a b) ∙ ap (λ rest. (a.0 == b.0) && rest) (same_by_each equal each xs ys)

pub returns : goal.returns
returns c = c.eq.ensures ∙ same_by_each _ (λ a b. refl) c.args.ones.now c.args.others.now
