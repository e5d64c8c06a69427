-- The leftmost of the rules that paths break.

use Rattle.std.proofs.Common.{◌≡◌, ℤ, Bool, List, [], ◌∷◌, ◌++◌, Option, Some, None, refl, sym, ap, ◌∙◌, arith}
use Rattle.std.proofs.lemmas.Grind.{common_steps}
use Rattle.ada_values.specs.declared.operator.BinaryOperator.{BinaryOperator}
use Rattle.ada_values.specs.declared.operator.UnaryOperator.{UnaryOperator}
use Rattle.ada_flow.specs.Flow.{Breach, uses_in, uses_in_links, leftmost, broken_in, broken_among, Holds, Use, reads_it, compares_it}
use Rattle.ada_program.specs.Form.{PathForm, ExpressionForm, integer, boolean, reads, is_null, applied_to, chained, LinksForm, no_more_links, a_link}
use Rattle.ada_flow.specs.Tracking.{Tracks}

-- of one breach it is that one
pub leftmost_of_one : (a : Option Breach) → leftmost a None ≡ a
leftmost_of_one None = refl
leftmost_of_one (Some a) = refl

-- of three breaches it is one, however they are taken
pub leftmost_of_three : (a b c : Option Breach) → leftmost (leftmost a b) c ≡ leftmost a (leftmost b c)
leftmost_of_three None b c = refl
leftmost_of_three (Some a) None c = refl
leftmost_of_three (Some a) (Some b) None = leftmost_of_one (leftmost (Some a) (Some b))
leftmost_of_three (Some a) (Some b) (Some c) = grind (arith, common_steps)

-- of more paths it is that of the first ones, or of the others
pub broken_among_more : (tracks : Tracks) (holds : Holds) (us vs : List Use) → broken_among tracks holds (us ++ vs) ≡ leftmost (broken_among tracks holds us) (broken_among tracks holds vs)
broken_among_more tracks holds [] vs = refl
broken_among_more tracks holds (u ∷ us) vs =
    ap (leftmost (broken_in tracks holds u)) (broken_among_more tracks holds us vs) ∙ sym (leftmost_of_three (broken_in tracks holds u) (broken_among tracks holds us) (broken_among tracks holds vs))

-- Each expression, by how it is made.

pub broken_in_integer : (tracks : Tracks) (holds : Holds) (value : ℤ) → broken_among tracks holds (uses_in (integer value)) ≡ None
unfolding uses_in
broken_in_integer tracks holds value = refl

pub broken_in_boolean : (tracks : Tracks) (holds : Holds) (value : Bool) → broken_among tracks holds (uses_in (boolean value)) ≡ None
unfolding uses_in
broken_in_boolean tracks holds value = refl

pub broken_in_reads : (tracks : Tracks) (holds : Holds) (path : PathForm) → broken_among tracks holds (uses_in (reads path)) ≡ broken_in tracks holds (reads_it path)
unfolding uses_in
broken_in_reads tracks holds path = leftmost_of_one (broken_in tracks holds (reads_it path))

pub broken_in_is_null : (tracks : Tracks) (holds : Holds) (equal : Bool) (path : PathForm) → broken_among tracks holds (uses_in (is_null equal path)) ≡ broken_in tracks holds (compares_it path)
unfolding uses_in
broken_in_is_null tracks holds equal path = leftmost_of_one (broken_in tracks holds (compares_it path))

pub broken_in_applied : (tracks : Tracks) (holds : Holds) (operator : UnaryOperator) (e : ExpressionForm) → broken_among tracks holds (uses_in (applied_to operator e)) ≡ broken_among tracks holds (uses_in e)
unfolding uses_in
broken_in_applied tracks holds operator e = refl

pub broken_in_chained : (tracks : Tracks) (holds : Holds) (e : ExpressionForm) (links : LinksForm) →
    broken_among tracks holds (uses_in (chained e links)) ≡ leftmost (broken_among tracks holds (uses_in e)) (broken_among tracks holds (uses_in_links links))
unfolding uses_in
broken_in_chained tracks holds e links = broken_among_more tracks holds (uses_in e) (uses_in_links links)

pub broken_in_no_links : (tracks : Tracks) (holds : Holds) → broken_among tracks holds (uses_in_links no_more_links) ≡ None
unfolding uses_in_links
broken_in_no_links tracks holds = refl

pub broken_in_a_link : (tracks : Tracks) (holds : Holds) (operator : BinaryOperator) (e : ExpressionForm) (links : LinksForm) →
    broken_among tracks holds (uses_in_links (a_link operator e links)) ≡ leftmost (broken_among tracks holds (uses_in e)) (broken_among tracks holds (uses_in_links links))
unfolding uses_in_links
broken_in_a_link tracks holds operator e links = broken_among_more tracks holds (uses_in e) (uses_in_links links)

-- the leftmost rule that an expression breaks, step by step
pub ruleset broken_steps = (broken_in_integer, broken_in_boolean, broken_in_reads, broken_in_is_null, broken_in_applied, broken_in_chained, broken_in_no_links, broken_in_a_link, leftmost_of_one, leftmost_of_three)
