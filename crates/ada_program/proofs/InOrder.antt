-- What is seen of creations one after the other tells of all of them.

use Rattle.std.proofs.Common.{◌≡◌, ◌<◌, ℕ, ◌+◌, true, false, ◌==◌, List, [], ◌∷◌, ◌++◌, Option, Some, None, arith, refl}
use Rattle.std.specs.Prelude.{count_by}
use Rattle.std.specs.List.{list_all}
use Rattle.std.proofs.lemmas.Grind.{common_steps}
use Rattle.ada_program.specs.Created.{seen_then, seen_after, is_complete}
use Rattle.ada_program.specs.WellFormed.{Creation, of_pool, of_collection, of_variable, creates_from, creates_known_pool, is_collection}
use Rattle.ada_program.specs.declared.creations.Seen.{Seen}
use Rattle.ada_program.specs.declared.creations.Seen.TheVariants.{Variables, Collection, Pools}

-- creations are seen one list after the other
pub seen-append : (seen : Option Seen) (xs ys : List Creation) → seen_after seen (xs ++ ys) ≡ seen_after (seen_after seen xs) ys
seen-append seen [] ys = refl
seen-append seen (c ∷ xs) ys = seen-append (seen_then seen c) xs ys

-- nothing is right behind what was wrong
pub seen-wrong : (cs : List Creation) → seen_after None cs ≡ None
seen-wrong [] = refl
seen-wrong (c ∷ cs) = seen-wrong cs

pub ruleset steps = (seen-append, seen-wrong)

-- no variable behind the last one is the last one
never_back : (count k : ℕ) (cs : List Creation) → count < k → creates_from count k cs ≡ false
never_back count k [] h = grind (arith, common_steps)
never_back count k (of_pool p ∷ cs) h = never_back count k cs h
never_back count k (of_collection t ∷ cs) h = never_back count k cs h
never_back count k (of_variable x ∷ cs) h = grind (arith, common_steps, never_back count (k + 1) cs)

-- variables are created in order exactly if they are seen in order, and none is left
pub seen-in_order : (count k : ℕ) (cs : List Creation)
    → is_complete (seen_after (Some (Variables k count)) cs) ≡ creates_from count k cs
seen-in_order count k [] = refl
seen-in_order count k (of_pool p ∷ cs) = seen-in_order count k cs
seen-in_order count k (of_collection t ∷ cs) = seen-in_order count k cs
seen-in_order count k (of_variable x ∷ cs) =
    grind (arith, common_steps, seen-in_order count (k + 1) cs, seen-wrong cs, never_back count (k + 1) cs)

-- no collection is created behind the one, exactly if none more is seen
seen-no_more : (access : ℕ) (cs : List Creation)
    → is_complete (seen_after (Some (Collection access true)) cs) ≡ (count_by (is_collection access) cs == 0)
seen-no_more access [] = refl
seen-no_more access (of_pool p ∷ cs) = grind (arith, common_steps, seen-no_more access cs)
seen-no_more access (of_collection t ∷ cs) = grind (arith, common_steps, seen-no_more access cs, seen-wrong cs)
seen-no_more access (of_variable x ∷ cs) = grind (arith, common_steps, seen-no_more access cs)

-- a collection is created once exactly if it is seen, and no second one
pub seen-once : (access : ℕ) (cs : List Creation)
    → is_complete (seen_after (Some (Collection access false)) cs) ≡ (count_by (is_collection access) cs == 1)
seen-once access [] = refl
seen-once access (of_pool p ∷ cs) = grind (arith, common_steps, seen-once access cs)
seen-once access (of_collection t ∷ cs) = grind (arith, common_steps, seen-once access cs, seen-no_more access cs)
seen-once access (of_variable x ∷ cs) = grind (arith, common_steps, seen-once access cs)

-- only pools of the program are created exactly if nothing else is seen
pub seen-known : (count : ℕ) (cs : List Creation) → is_complete (seen_after (Some (Pools count)) cs) ≡ list_all (creates_known_pool count) cs
seen-known count [] = refl
seen-known count (of_pool p ∷ cs) = grind (arith, common_steps, seen-known count cs, seen-wrong cs)
seen-known count (of_collection t ∷ cs) = seen-known count cs
seen-known count (of_variable x ∷ cs) = seen-known count cs

pub ruleset tells = (seen-in_order, seen-once, seen-known)
