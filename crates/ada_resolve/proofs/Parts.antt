-- Declarative parts that begin and end: what is known of the parts around stays.

use Rattle.std.proofs.Common.{◌≡◌, List, ◌∷◌, refl, ap}
use Rattle.ada_resolve.specs.Known.{Known, Part, with_part, left_to, without_part}

-- where a part ends as it begins, all is known that was known before it
pub entered_left : (k : Known) → without_part (with_part k) ≡ k
entered_left k = refl

-- the parts that are left, where they are known
pub left_parts : (m : Known) (outer : List Part) (here : Part) (rest : List Part) → outer ≡ here ∷ rest → left_to outer m ≡ record m { here = here; outer = rest }
left_parts m outer here rest is = ap (λ (ps : List Part). left_to ps m) is
