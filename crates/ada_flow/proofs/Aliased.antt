-- Whether a variable may hold an alias: where it is said that none does, none does behind any step.

use Rattle.std.proofs.Common.{◌≡◌, ℕ, zero, suc, Bool, true, false, ◌||◌, not, List, [], ◌∷◌, length, take, map, Some, refl, sym, ap, ◌∙◌}
use Rattle.std.specs.Bool.{IsTrue}
use Rattle.std.specs.List.{list_any, slice_set}
use Rattle.ada_program.specs.declared.program.Variable.{Variable}
use Rattle.ada_program.specs.ProgramForm.{VariableForm, variable_form}
use Rattle.ada_program.specs.WellFormed.{access_of, is_this}
use Rattle.ada_flow.specs.Aliases.{is_alias, tells_aliases}
use Rattle.ada_flow.specs.declared.rule.Hold.{Hold}
use Rattle.ada_flow.specs.declared.rule.Hold.TheVariants.{Null, Kept, Own, Alias, Lost}
use Rattle.ada_flow.specs.declared.rule.Region.TheVariants.{Whole}
use Rattle.ada_flow.specs.Flow.{Holds, if_own, is_among, join, join_hold, without_alias, without_aliases, without_types}

-- of two that are not, neither is
pub first_not : (a b : Bool) → (a || b) ≡ false → a ≡ false
first_not false b e = refl
first_not true b e = cc

pub second_not : (a b : Bool) → (a || b) ≡ false → b ≡ false
second_not false b e = e
second_not true b e = cc

neither : (a b : Bool) → a ≡ false → b ≡ false → (a || b) ≡ false
neither a b e f = ap (λ x. x || b) e ∙ f

pub not_so : (b : Bool) → not b ≡ true → b ≡ false
not_so false e = refl
not_so true e = cc

-- where a variable gets a hold
none_set : (hs : Holds) (x : ℕ) (h : Hold) → list_any is_alias hs ≡ false → is_alias h ≡ false → list_any is_alias (slice_set hs x h) ≡ false
none_set [] x h none own = refl
none_set (g ∷ hs) zero h none own = neither (is_alias h) (list_any is_alias hs) own (second_not (is_alias g) (list_any is_alias hs) none)
none_set (g ∷ hs) (suc x) h none own =
    neither (is_alias g) (list_any is_alias (slice_set hs x h)) (first_not (is_alias g) (list_any is_alias hs) none)
    (none_set hs x h (second_not (is_alias g) (list_any is_alias hs) none) own)

told_set : (b : Bool) (hs : Holds) (x : ℕ) (h : Hold) → b ≡ is_alias h → IsTrue (tells_aliases false hs) → IsTrue (tells_aliases b (slice_set hs x h))
told_set true hs x h is told = refl
told_set false hs x h is told = ap not (none_set hs x h (not_so (list_any is_alias hs) told) (sym is))

pub told_of_set : (a b : Bool) (hs : Holds) (x : ℕ) (h : Hold) → b ≡ is_alias h → IsTrue (tells_aliases a hs) → IsTrue (tells_aliases (a || b) (slice_set hs x h))
told_of_set true b hs x h is told = refl
told_of_set false b hs x h is told = told_set b hs x h is told

-- where two ways meet
own_joined : (g h : Hold) → is_alias g ≡ false → is_alias h ≡ false → is_alias (join_hold g h) ≡ false
own_joined Null Null one other = refl
own_joined Null (Kept Whole) one other = refl
own_joined Null (Own Whole) one other = refl
own_joined Null (Alias q) one other = cc
own_joined Null Lost one other = refl
own_joined (Kept Whole) Null one other = refl
own_joined (Kept Whole) (Kept Whole) one other = refl
own_joined (Kept Whole) (Own Whole) one other = refl
own_joined (Kept Whole) (Alias q) one other = cc
own_joined (Kept Whole) Lost one other = refl
own_joined (Own Whole) Null one other = refl
own_joined (Own Whole) (Kept Whole) one other = refl
own_joined (Own Whole) (Own Whole) one other = refl
own_joined (Own Whole) (Alias q) one other = cc
own_joined (Own Whole) Lost one other = refl
own_joined (Alias r) h one other = cc
own_joined Lost h one other = refl

none_joined : (gs hs : Holds) → list_any is_alias gs ≡ false → list_any is_alias hs ≡ false → list_any is_alias (join gs hs) ≡ false
none_joined [] hs one other = refl
none_joined (g ∷ gs) [] one other = refl
none_joined (g ∷ gs) (h ∷ hs) one other =
    neither (is_alias (join_hold g h)) (list_any is_alias (join gs hs))
    (own_joined g h (first_not (is_alias g) (list_any is_alias gs) one) (first_not (is_alias h) (list_any is_alias hs) other))
    (none_joined gs hs (second_not (is_alias g) (list_any is_alias gs) one) (second_not (is_alias h) (list_any is_alias hs) other))

pub told_of_join : (a b : Bool) (gs hs : Holds) → IsTrue (tells_aliases a gs) → IsTrue (tells_aliases b hs) → IsTrue (tells_aliases (a || b) (join gs hs))
told_of_join true b gs hs one other = refl
told_of_join false true gs hs one other = refl
told_of_join false false gs hs one other = ap not (none_joined gs hs (not_so (list_any is_alias gs) one) (not_so (list_any is_alias hs) other))

-- where collections and record objects are gone
own_left : (b : Bool) (h : Hold) → is_alias h ≡ false → is_alias (if_own b h) ≡ false
own_left true h own = own
own_left false h own = refl

none_left : (vs : List VariableForm) (types : List ℕ) (hs : Holds) → list_any is_alias hs ≡ false → list_any is_alias (without_types vs types hs) ≡ false
none_left [] types hs none = refl
none_left (v ∷ vs) types [] none = refl
none_left (v ∷ vs) types (h ∷ hs) none =
    neither (is_alias (if_own (not (is_among types (access_of (Some v.kind)))) h)) (list_any is_alias (without_types vs types hs))
    (own_left (not (is_among types (access_of (Some v.kind)))) h (first_not (is_alias h) (list_any is_alias hs) none))
    (none_left vs types hs (second_not (is_alias h) (list_any is_alias hs) none))

pub told_of_left : (a : Bool) (vs : List VariableForm) (types : List ℕ) (hs : Holds) → IsTrue (tells_aliases a hs) → IsTrue (tells_aliases a (without_types vs types hs))
told_of_left true vs types hs told = refl
told_of_left false vs types hs told = ap not (none_left vs types hs (not_so (list_any is_alias hs) told))

-- what holds no alias loses none
pub own_kept : (b : Bool) (h : Hold) → is_alias h ≡ false → h ≡ without_alias b h
own_kept false h own = refl
own_kept true Null own = refl
own_kept true (Kept r) own = refl
own_kept true (Own r) own = refl
own_kept true (Alias r) own = cc
own_kept true Lost own = refl

none_lost : (vs : List Variable) (t : ℕ) (hs : Holds) → list_any is_alias hs ≡ false → take (length vs) hs ≡ without_aliases (map variable_form vs) t hs
none_lost [] t hs none = refl
none_lost (v ∷ vs) t [] none = refl
none_lost (v ∷ vs) t (h ∷ hs) none =
    ap (λ (g : Hold). g ∷ take (length vs) hs) (own_kept (is_this t (access_of (Some v.kind))) h (first_not (is_alias h) (list_any is_alias hs) none))
    ∙ ap (λ (rest : Holds). without_alias (is_this t (access_of (Some v.kind))) h ∷ rest)
    (none_lost vs t hs (second_not (is_alias h) (list_any is_alias hs) none))

pub aliases_stay : (vs : List Variable) (t : ℕ) (hs : Holds) → IsTrue (tells_aliases false hs) → take (length vs) hs ≡ without_aliases (map variable_form vs) t hs
aliases_stay vs t hs told = none_lost vs t hs (not_so (list_any is_alias hs) told)

-- fewer variables
none_taken : (n : ℕ) (hs : Holds) → list_any is_alias hs ≡ false → list_any is_alias (take n hs) ≡ false
none_taken zero hs none = refl
none_taken (suc n) [] none = refl
none_taken (suc n) (h ∷ hs) none =
    neither (is_alias h) (list_any is_alias (take n hs)) (first_not (is_alias h) (list_any is_alias hs) none)
    (none_taken n hs (second_not (is_alias h) (list_any is_alias hs) none))

pub told_of_take : (a : Bool) (n : ℕ) (hs : Holds) → IsTrue (tells_aliases a hs) → IsTrue (tells_aliases a (take n hs))
told_of_take true n hs told = refl
told_of_take false n hs told = ap not (none_taken n hs (not_so (list_any is_alias hs) told))

-- whether one does is told of itself
told_so : (b : Bool) → IsTrue (b || not b)
told_so true = refl
told_so false = refl

pub told_of_itself : (hs : Holds) → IsTrue (tells_aliases (list_any is_alias hs) hs)
told_of_itself hs = told_so (list_any is_alias hs)

pub ruleset freeing_steps = (aliases_stay, told_of_take, told_of_itself)
