-- Ways that join, one after another.

use Rattle.std.proofs.Common.{◌≡◌, [], ◌∷◌, length, take, Option, Some, None, refl, ap}
use Rattle.ada_flow.specs.declared.rule.Hold.{Hold}
use Rattle.ada_flow.specs.declared.rule.Hold.TheVariants.{Null, Kept, Own, Alias, Lost}
use Rattle.ada_flow.specs.declared.rule.Region.TheVariants.{Whole}
use Rattle.ada_flow.specs.Flow.{Holds, join_hold, join, join_option}

-- of three ways, the same is known of a variable however they are taken
join_hold_of_three : (a b c : Hold) → join_hold (join_hold a b) c ≡ join_hold a (join_hold b c)
join_hold_of_three Null Null Null = refl
join_hold_of_three Null Null (Kept Whole) = refl
join_hold_of_three Null Null (Own Whole) = refl
join_hold_of_three Null Null (Alias Whole) = refl
join_hold_of_three Null Null Lost = refl
join_hold_of_three Null (Kept Whole) Null = refl
join_hold_of_three Null (Kept Whole) (Kept Whole) = refl
join_hold_of_three Null (Kept Whole) (Own Whole) = refl
join_hold_of_three Null (Kept Whole) (Alias Whole) = refl
join_hold_of_three Null (Kept Whole) Lost = refl
join_hold_of_three Null (Own Whole) Null = refl
join_hold_of_three Null (Own Whole) (Kept Whole) = refl
join_hold_of_three Null (Own Whole) (Own Whole) = refl
join_hold_of_three Null (Own Whole) (Alias Whole) = refl
join_hold_of_three Null (Own Whole) Lost = refl
join_hold_of_three Null (Alias Whole) Null = refl
join_hold_of_three Null (Alias Whole) (Kept Whole) = refl
join_hold_of_three Null (Alias Whole) (Own Whole) = refl
join_hold_of_three Null (Alias Whole) (Alias Whole) = refl
join_hold_of_three Null (Alias Whole) Lost = refl
join_hold_of_three Null Lost c = refl
join_hold_of_three (Kept Whole) Null Null = refl
join_hold_of_three (Kept Whole) Null (Kept Whole) = refl
join_hold_of_three (Kept Whole) Null (Own Whole) = refl
join_hold_of_three (Kept Whole) Null (Alias Whole) = refl
join_hold_of_three (Kept Whole) Null Lost = refl
join_hold_of_three (Kept Whole) (Kept Whole) Null = refl
join_hold_of_three (Kept Whole) (Kept Whole) (Kept Whole) = refl
join_hold_of_three (Kept Whole) (Kept Whole) (Own Whole) = refl
join_hold_of_three (Kept Whole) (Kept Whole) (Alias Whole) = refl
join_hold_of_three (Kept Whole) (Kept Whole) Lost = refl
join_hold_of_three (Kept Whole) (Own Whole) Null = refl
join_hold_of_three (Kept Whole) (Own Whole) (Kept Whole) = refl
join_hold_of_three (Kept Whole) (Own Whole) (Own Whole) = refl
join_hold_of_three (Kept Whole) (Own Whole) (Alias Whole) = refl
join_hold_of_three (Kept Whole) (Own Whole) Lost = refl
join_hold_of_three (Kept Whole) (Alias Whole) Null = refl
join_hold_of_three (Kept Whole) (Alias Whole) (Kept Whole) = refl
join_hold_of_three (Kept Whole) (Alias Whole) (Own Whole) = refl
join_hold_of_three (Kept Whole) (Alias Whole) (Alias Whole) = refl
join_hold_of_three (Kept Whole) (Alias Whole) Lost = refl
join_hold_of_three (Kept Whole) Lost c = refl
join_hold_of_three (Own Whole) Null Null = refl
join_hold_of_three (Own Whole) Null (Kept Whole) = refl
join_hold_of_three (Own Whole) Null (Own Whole) = refl
join_hold_of_three (Own Whole) Null (Alias Whole) = refl
join_hold_of_three (Own Whole) Null Lost = refl
join_hold_of_three (Own Whole) (Kept Whole) Null = refl
join_hold_of_three (Own Whole) (Kept Whole) (Kept Whole) = refl
join_hold_of_three (Own Whole) (Kept Whole) (Own Whole) = refl
join_hold_of_three (Own Whole) (Kept Whole) (Alias Whole) = refl
join_hold_of_three (Own Whole) (Kept Whole) Lost = refl
join_hold_of_three (Own Whole) (Own Whole) Null = refl
join_hold_of_three (Own Whole) (Own Whole) (Kept Whole) = refl
join_hold_of_three (Own Whole) (Own Whole) (Own Whole) = refl
join_hold_of_three (Own Whole) (Own Whole) (Alias Whole) = refl
join_hold_of_three (Own Whole) (Own Whole) Lost = refl
join_hold_of_three (Own Whole) (Alias Whole) Null = refl
join_hold_of_three (Own Whole) (Alias Whole) (Kept Whole) = refl
join_hold_of_three (Own Whole) (Alias Whole) (Own Whole) = refl
join_hold_of_three (Own Whole) (Alias Whole) (Alias Whole) = refl
join_hold_of_three (Own Whole) (Alias Whole) Lost = refl
join_hold_of_three (Own Whole) Lost c = refl
join_hold_of_three (Alias Whole) Null Null = refl
join_hold_of_three (Alias Whole) Null (Kept Whole) = refl
join_hold_of_three (Alias Whole) Null (Own Whole) = refl
join_hold_of_three (Alias Whole) Null (Alias Whole) = refl
join_hold_of_three (Alias Whole) Null Lost = refl
join_hold_of_three (Alias Whole) (Kept Whole) Null = refl
join_hold_of_three (Alias Whole) (Kept Whole) (Kept Whole) = refl
join_hold_of_three (Alias Whole) (Kept Whole) (Own Whole) = refl
join_hold_of_three (Alias Whole) (Kept Whole) (Alias Whole) = refl
join_hold_of_three (Alias Whole) (Kept Whole) Lost = refl
join_hold_of_three (Alias Whole) (Own Whole) Null = refl
join_hold_of_three (Alias Whole) (Own Whole) (Kept Whole) = refl
join_hold_of_three (Alias Whole) (Own Whole) (Own Whole) = refl
join_hold_of_three (Alias Whole) (Own Whole) (Alias Whole) = refl
join_hold_of_three (Alias Whole) (Own Whole) Lost = refl
join_hold_of_three (Alias Whole) (Alias Whole) Null = refl
join_hold_of_three (Alias Whole) (Alias Whole) (Kept Whole) = refl
join_hold_of_three (Alias Whole) (Alias Whole) (Own Whole) = refl
join_hold_of_three (Alias Whole) (Alias Whole) (Alias Whole) = refl
join_hold_of_three (Alias Whole) (Alias Whole) Lost = refl
join_hold_of_three (Alias Whole) Lost c = refl
join_hold_of_three Lost b c = refl

-- and of all variables
join_of_three : (a b c : Holds) → join (join a b) c ≡ join a (join b c)
join_of_three [] b c = refl
join_of_three (x ∷ a) [] c = refl
join_of_three (x ∷ a) (y ∷ b) [] = refl
join_of_three (x ∷ a) (y ∷ b) (z ∷ c) = cc (join_hold_of_three x y z, join_of_three a b c)

pub join_option_of_three : (a b c : Option Holds) → join_option (join_option a b) c ≡ join_option a (join_option b c)
join_option_of_three None b c = refl
join_option_of_three (Some a) None c = refl
join_option_of_three (Some a) (Some b) None = refl
join_option_of_three (Some a) (Some b) (Some c) = ap Some (join_of_three a b c)

-- where nothing else is known, it is what is known
pub join_option_none : (a : Option Holds) → join_option a None ≡ a
join_option_none None = refl
join_option_none (Some a) = refl

-- what one way holds beyond the other's variables is left out
pub join_short : (one other : Holds) → join (take (length other) one) other ≡ join one other
join_short [] [] = refl
join_short [] (h ∷ other) = refl
join_short (g ∷ one) [] = refl
join_short (g ∷ one) (h ∷ other) = ap (λ rest. join_hold g h ∷ rest) (join_short one other)
