-- Tests of the elements of a list, and tests of what is seen of them.

use Rattle.std.proofs.Common.{◌≡◌, Bool, List, [], ◌∷◌, length, map, arith, refl}
use Rattle.std.specs.Prelude.{count_by}
use Rattle.std.proofs.lemmas.Grind.{common_steps}
use Rattle.std.proofs.lemmas.List.{length-map}
use Rattle.std.proofs.lemmas.List.Folds.{list_all-map}

-- as many views of elements pass a test as elements pass it by their views
pub count_viewed : {X Y : Type 0} (p : Y → Bool) (f : X → Y) (xs : List X) → count_by p (map f xs) ≡ count_by (λ x. p (f x)) xs
count_viewed p f [] = refl
count_viewed p f (x ∷ xs) = grind (arith, common_steps, count_viewed p f xs)

pub ruleset views = (list_all-map, count_viewed)

-- as many are seen as there are
pub length_viewed : {X Y : Type 0} (f : X → Y) (xs : List X) → length (map f xs) ≡ length xs
length_viewed f xs = length-map xs f
