-- Tracked components, one behind the other.

use Rattle.std.proofs.Common.{◌≡◌, ℕ, ◌+◌, ◌<◌, arith, true, false, Bool, List, [], ◌∷◌, ◌++◌, append-nil, length, get_or, drop, map, refl, sym, ap, ◌∙◌}
use Rattle.std.specs.Prelude.{if◌then◌else◌}
use Rattle.std.proofs.lemmas.List.{at_drop_more}
use Rattle.ada_program.specs.declared.program.ComponentNo.{ComponentNo}
use Rattle.ada_program.specs.Form.{PathForm, component_number}
use Rattle.ada_flow.specs.declared.rule.Hold.TheVariants.{Alias}
use Rattle.ada_flow.specs.declared.rule.Region.TheVariants.{Whole}
use Rattle.ada_flow.specs.Flow.{tracked_hold}
use Rattle.ada_flow.specs.Tracking.{begins_with, behind_first, numbers_from, seen_from, with_tracked}

-- one number further
one_further : (first n : ℕ) → (first + n) + 1 ≡ first + (n + 1)
one_further first n = omega arith

-- a path behind one component
seen_step : (cs : List ComponentNo) (first n : ℕ) (c : ComponentNo) (path : PathForm) → n < length cs →
    seen_from (map component_number (drop n cs)) (first + n) path
    ≡ (if begins_with (get_or cs n c).0 path.root path.selectors
    then record { root = first + n; of_record = false; selectors = behind_first path.selectors; spot = path.spot }
    else seen_from (map component_number (drop (n + 1) cs)) (first + (n + 1)) path)
seen_step cs first n c path inside =
    at_drop_more (λ xs. seen_from (map component_number xs) (first + n) path) cs n c inside
    ∙ ap (λ (k : ℕ). if begins_with (get_or cs n c).0 path.root path.selectors
    then record { root = first + n; of_record = false; selectors = behind_first path.selectors; spot = path.spot }
    else seen_from (map component_number (drop (n + 1) cs)) k path) (one_further first n)

-- a path that begins with a component is judged by what that holds
pub seen_here : (cs : List ComponentNo) (first n : ℕ) (c : ComponentNo) (path : PathForm) → n < length cs →
    true ≡ begins_with (get_or cs n c).0 path.root path.selectors →
    seen_from (map component_number (drop n cs)) (first + n) path
    ≡ record { root = first + n; of_record = false; selectors = behind_first path.selectors; spot = path.spot }
seen_here cs first n c path inside begins =
    seen_step cs first n c path inside
    ∙ ap (λ (b : Bool). if b then record { root = first + n; of_record = false; selectors = behind_first path.selectors; spot = path.spot }
    else seen_from (map component_number (drop (n + 1) cs)) (first + (n + 1)) path) (sym begins)

-- and another by what is left
pub seen_behind : (cs : List ComponentNo) (first n : ℕ) (c : ComponentNo) (path : PathForm) → n < length cs →
    false ≡ begins_with (get_or cs n c).0 path.root path.selectors →
    seen_from (map component_number (drop n cs)) (first + n) path
    ≡ seen_from (map component_number (drop (n + 1) cs)) (first + (n + 1)) path
seen_behind cs first n c path inside begins =
    seen_step cs first n c path inside
    ∙ ap (λ (b : Bool). if b then record { root = first + n; of_record = false; selectors = behind_first path.selectors; spot = path.spot }
    else seen_from (map component_number (drop (n + 1) cs)) (first + (n + 1)) path) (sym begins)

-- the numbers, one behind the other
pub numbers_next : (cs : List ComponentNo) (first n : ℕ) (c : ComponentNo) → n < length cs →
    numbers_from (map component_number (drop n cs)) (first + n) ≡ (first + n) ∷ numbers_from (map component_number (drop (n + 1) cs)) (first + (n + 1))
numbers_next cs first n c inside =
    at_drop_more (λ xs. numbers_from (map component_number xs) (first + n)) cs n c inside
    ∙ ap (λ (k : ℕ). (first + n) ∷ numbers_from (map component_number (drop (n + 1) cs)) k) (one_further first n)

-- what they hold at first, one behind the other
pub holds_next : (cs : List ComponentNo) (n : ℕ) (c : ComponentNo) → n < length cs →
    map tracked_hold (map component_number (drop n cs)) ≡ Alias Whole ∷ map tracked_hold (map component_number (drop (n + 1) cs))
holds_next cs n c inside = at_drop_more (λ xs. map tracked_hold (map component_number xs)) cs n c inside

-- what is said of them stands behind
pub with_tracked_is : {A : Type 0} (xs ys : List A) → with_tracked xs ys ≡ xs ++ ys
with_tracked_is xs [] = sym (append-nil xs)
with_tracked_is xs (y ∷ ys) = refl

pub ruleset seen_steps = (seen_here, seen_behind)

pub ruleset number_steps = (numbers_next)

pub ruleset hold_steps = (holds_next)

pub ruleset behind_steps = (with_tracked_is)
