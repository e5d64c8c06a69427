-- Expressions as they are judged: what they use and whether they raise an exception.

use Rattle.std.proofs.Common.{◌≡◌, Bool, true, false, List, [], ◌∷◌, ◌++◌, Option, Some, None, refl, sym, ap, ◌∙◌}
use Rattle.std.specs.Prelude.{◌||◌, if◌then◌else◌}
use Rattle.ada_text.specs.declared.spot.Spot.{Spot}
use Rattle.ada_program.specs.Form.{PathForm, ExpressionForm, integer, boolean, reads, is_null, applied_to, chained, LinksForm, no_more_links, a_link}
use Rattle.ada_effects.specs.Effects.{unary_raises, binary_raises, expression_raises, links_raise, condition_raises}
use Rattle.ada_flow.specs.Tracking.{Tracks, seen, no_tracks}
use Rattle.ada_flow.specs.Flow.{Holds, Outcome, goes, Use, uses_in, uses_in_links, Breach, leftmost, is_left_of, reads_it, lost_by, lost_behind, hold_at, broken_in, broken_among, unless_broken, ends_with, computed, condition_flow, exit_of}
use Rattle.ada_tracked.specs.Forms.{seen_expression, seen_links, seen_condition}
use Rattle.ada_judged.specs.Obeying.{ExpressionIsOrderly, LinksAreOrderly, ConditionIsOrderly, GoesAlike}
use Rattle.ada_judged.proofs.ObeyingPaths.{sees, spot_alike, raises_alike}

-- What is known where the first of two outcomes is a fault, or the same.
pub same_outcome : (a b : Outcome) → a ≡ b → GoesAlike a b
same_outcome a b e normal raising h = sym e ∙ h

-- Breaches.
pub first_none : (a b : Option Breach) → leftmost a b ≡ None → a ≡ None
first_none None b e = refl
first_none (Some a) None e = e
first_none (Some a) (Some b) e = some_is_left (is_left_of b.0 a.0) e
  where
    some_is_left : (q : Bool) → (if q then Some b else Some a) ≡ None → Some a ≡ None
    some_is_left true h = absurd (cc)
    some_is_left false h = h

pub second_none : (a b : Option Breach) → leftmost a b ≡ None → b ≡ None
second_none None b e = e
second_none (Some a) None e = refl
second_none (Some a) (Some b) e = some_is_left (is_left_of b.0 a.0) e
  where
    some_is_left : (q : Bool) → (if q then Some b else Some a) ≡ None → Some b ≡ None
    some_is_left true h = h
    some_is_left false h = absurd (cc)

pub both_none : (a b : Option Breach) → a ≡ None → b ≡ None → leftmost a b ≡ None
both_none a b e f = rw (e, f)

module _ (tracks : Tracks) (holds : Holds) where
  pub first_unbroken : (us vs : List Use) → broken_among tracks holds (us ++ vs) ≡ None → broken_among tracks holds us ≡ None
  first_unbroken [] vs e = refl
  first_unbroken (u ∷ us) vs e =
      let a = broken_in tracks holds u in
      let b = broken_among tracks holds (us ++ vs) in
      both_none a (broken_among tracks holds us) (first_none a b e) (first_unbroken us vs (second_none a b e))

  pub second_unbroken : (us vs : List Use) → broken_among tracks holds (us ++ vs) ≡ None → broken_among tracks holds vs ≡ None
  second_unbroken [] vs e = e
  second_unbroken (u ∷ us) vs e = second_unbroken us vs (second_none (broken_in tracks holds u) (broken_among tracks holds (us ++ vs)) e)

  pub unbroken : (us vs : List Use) → broken_among tracks holds us ≡ None → broken_among tracks holds vs ≡ None → broken_among tracks holds (us ++ vs) ≡ None
  unbroken [] vs e f = f
  unbroken (u ∷ us) vs e f =
      let a = broken_in tracks holds u in
      let b = broken_among tracks holds us in
      both_none a (broken_among tracks holds (us ++ vs)) (first_none a b e) (unbroken us vs (second_none a b e) f)

-- Where paths are used and what is behind them is reached.
pub goes_unbroken : (broken : Option Breach) (more : Outcome) (normal raising : Option Holds) → unless_broken broken more ≡ goes normal raising → broken ≡ None
goes_unbroken None more normal raising e = refl
goes_unbroken (Some b) more normal raising e = absurd (cc)

pub using_alike :
    (broken judged : Option Breach) (more other : Outcome) → (broken ≡ None → judged ≡ None) → (broken ≡ None → GoesAlike more other)
    → GoesAlike (unless_broken broken more) (unless_broken judged other)
using_alike None judged more other h g normal raising e =
    ap (λ (b : Option Breach). unless_broken b other) (h refl) ∙ g refl normal raising e
using_alike (Some b) judged more other h g normal raising e = absurd (cc)

module _ (tracks : Tracks) where
  mutual
    pub expression_raises_alike : (e : ExpressionForm) → ExpressionIsOrderly tracks e → expression_raises (seen_expression tracks e) ≡ expression_raises e
    expression_raises_alike (integer i) h = refl
    expression_raises_alike (boolean b) h = refl
    expression_raises_alike (reads path) h = raises_alike tracks path (seen tracks path) h.1 (sees tracks path)
    expression_raises_alike (is_null equal path) h = raises_alike tracks path (seen tracks path) h.1 (sees tracks path)
    expression_raises_alike (applied_to operator e) h = ap (λ (b : Bool). unary_raises operator || b) (expression_raises_alike e h)
    expression_raises_alike (chained e links) h =
        ap (λ (b : Bool). b || links_raise (seen_links tracks links)) (expression_raises_alike e h.0)
        ∙ ap (λ (b : Bool). expression_raises e || b) (links_raise_alike links h.1)

    pub links_raise_alike : (links : LinksForm) → LinksAreOrderly tracks links → links_raise (seen_links tracks links) ≡ links_raise links
    links_raise_alike no_more_links h = refl
    links_raise_alike (a_link operator e links) h =
        ap (λ (b : Bool). binary_raises operator || b || links_raise (seen_links tracks links)) (expression_raises_alike e h.0)
        ∙ ap (λ (b : Bool). binary_raises operator || expression_raises e || b) (links_raise_alike links h.1)

  pub condition_raises_alike : (condition : Option ExpressionForm) → ConditionIsOrderly tracks condition → condition_raises (seen_condition tracks condition) ≡ condition_raises condition
  condition_raises_alike None h = refl
  condition_raises_alike (Some e) h = expression_raises_alike e h

  -- A path is followed and compared alike.
  pub reads_alike : (holds : Holds) (path : PathForm) → broken_in tracks holds (reads_it path) ≡ broken_in no_tracks holds (reads_it (seen tracks path))
  reads_alike holds path =
      ap (λ (s : Spot). lost_behind (seen tracks path).selectors (hold_at holds (seen tracks path).root) s) (sym (spot_alike tracks path (seen tracks path) (sees tracks path)))

  pub compares_alike : (holds : Holds) (path : PathForm) → lost_by (hold_at holds (seen tracks path).root) path.spot ≡ lost_by (hold_at holds (seen tracks path).root) (seen tracks path).spot
  compares_alike holds path = ap (lost_by (hold_at holds (seen tracks path).root)) (sym (spot_alike tracks path (seen tracks path) (sees tracks path)))

  -- What is not broken is not broken as it is judged.
  mutual
    unfolding uses_in

    pub expression_unbroken : (e : ExpressionForm) (holds : Holds) → broken_among tracks holds (uses_in e) ≡ None → broken_among no_tracks holds (uses_in (seen_expression tracks e)) ≡ None
    expression_unbroken (integer i) holds e = refl
    expression_unbroken (boolean b) holds e = refl
    expression_unbroken (reads path) holds e = ap (λ (b : Option Breach). leftmost b None) (sym (reads_alike holds path)) ∙ e
    expression_unbroken (is_null equal path) holds e = ap (λ (b : Option Breach). leftmost b None) (sym (compares_alike holds path)) ∙ e
    expression_unbroken (applied_to operator f) holds e = expression_unbroken f holds e
    expression_unbroken (chained f links) holds e =
        unbroken no_tracks holds (uses_in (seen_expression tracks f)) (uses_in_links (seen_links tracks links))
        (expression_unbroken f holds (first_unbroken tracks holds (uses_in f) (uses_in_links links) e))
        (links_unbroken links holds (second_unbroken tracks holds (uses_in f) (uses_in_links links) e))

    pub links_unbroken : (links : LinksForm) (holds : Holds) → broken_among tracks holds (uses_in_links links) ≡ None → broken_among no_tracks holds (uses_in_links (seen_links tracks links)) ≡ None
    links_unbroken no_more_links holds e = refl
    links_unbroken (a_link operator f links) holds e =
        unbroken no_tracks holds (uses_in (seen_expression tracks f)) (uses_in_links (seen_links tracks links))
        (expression_unbroken f holds (first_unbroken tracks holds (uses_in f) (uses_in_links links) e))
        (links_unbroken links holds (second_unbroken tracks holds (uses_in f) (uses_in_links links) e))

  pub computed_alike : (e : ExpressionForm) (holds : Holds) → ExpressionIsOrderly tracks e → GoesAlike (computed tracks e holds) (computed no_tracks (seen_expression tracks e) holds)
  computed_alike e holds h =
      using_alike (broken_among tracks holds (uses_in e)) (broken_among no_tracks holds (uses_in (seen_expression tracks e)))
      (ends_with (expression_raises e) holds holds) (ends_with (expression_raises (seen_expression tracks e)) holds holds) (expression_unbroken e holds)
      (λ unused. same_outcome (ends_with (expression_raises e) holds holds) (ends_with (expression_raises (seen_expression tracks e)) holds holds)
      (ap (λ (b : Bool). ends_with b holds holds) (sym (expression_raises_alike e h))))

  pub condition_alike : (condition : Option ExpressionForm) (holds : Holds) → ConditionIsOrderly tracks condition → GoesAlike (condition_flow tracks condition holds) (condition_flow no_tracks (seen_condition tracks condition) holds)
  condition_alike None holds h = same_outcome (ends_with false holds holds) (ends_with false holds holds) refl
  condition_alike (Some f) holds h = computed_alike f holds h

  pub exit_alike : (condition : Option ExpressionForm) (holds : Holds) → ConditionIsOrderly tracks condition → GoesAlike (exit_of tracks condition holds) (exit_of no_tracks (seen_condition tracks condition) holds)
  exit_alike None holds h = same_outcome (goes None None) (goes None None) refl
  exit_alike (Some f) holds h = computed_alike f holds h
