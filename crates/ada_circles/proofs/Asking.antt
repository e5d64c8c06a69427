-- What the code finds is the first body that leads back to itself.

use Rattle.std.proofs.Common.{◌≡◌, ℕ, ◌+◌, Bool, true, false, List, [], length, get_or, refl, sym, ap, ◌∙◌, subst}
use Rattle.std.specs.Prelude.{◌↔◌, not, Option, Some, None}
use Rattle.std.specs.List.{slice_get}
use Rattle.std.specs.Option.{option_map}
use Rattle.std.proofs.lemmas.Option.{slice_get_within}
use Rattle.ada_text.specs.declared.spot.Spot.{Spot}
use Rattle.ada_program.specs.ProgramForm.{BodyForm, ProgramForm}
use Rattle.ada_quiet.specs.First.{stands_before, IsFirst, first_of, start_unless}
use Rattle.ada_quiet.proofs.Firsts.{AnyBelow, any_more, same_first}
use Rattle.ada_quiet.proofs.Unused.{some_same, text_order}
use Rattle.ada_reach.specs.Graph.{IsReached}
use Rattle.ada_circles.specs.Circles.{LeadsTo, HasCircle}
use Rattle.ada_circles.specs.Edges.{edges, HasCircleAt}
use Rattle.ada_circles.proofs.Nodes.{procedure}
use Rattle.ada_circles.proofs.Reaching.{sound, complete}

-- One procedure.

pub first_at : (p : ProgramForm) (number : ℕ) (circles : Bool) →
    ((b : BodyForm) → slice_get p.bodies number ≡ Some b → circles ≡ true → LeadsTo p (procedure number) (procedure number)) →
    ((b : BodyForm) → slice_get p.bodies number ≡ Some b → LeadsTo p (procedure number) (procedure number) → circles ≡ true) →
    IsFirst (HasCircleAt p number) (start_unless (not circles) (slice_get p.bodies number))
first_at p number false to from = λ s (b, at, begins, back). absurd (cc (from b at back))
first_at p number true to from = go (slice_get p.bodies number) refl
  where
    go : (o : Option BodyForm) → slice_get p.bodies number ≡ o → IsFirst (HasCircleAt p number) (option_map (λ (b : BodyForm). b.start_spot) o)
    go None is = λ s (b, at, begins, back). absurd (cc (sym is ∙ at))
    go (Some b) is = (
      (b, is, refl, to b is refl),
      λ s (c, at, begins, back). subst (λ (x : Spot). stands_before x b.start_spot ≡ false)
          (ap (λ (d : BodyForm). d.start_spot) (some_same (sym is ∙ at)) ∙ begins) (text_order.apart b.start_spot),
    )

pub circle_first : (p : ProgramForm) (graph : List (List ℕ)) (number : ℕ) (circles : Bool) → graph ≡ edges p →
    (circles ≡ true) ↔ IsReached graph (get_or graph number []) number →
    IsFirst (HasCircleAt p number) (start_unless (not circles) (slice_get p.bodies number))
circle_first p graph number circles same tells = first_at p number circles
    (λ b at is. sound p (procedure number) (slice_get_within p.bodies number b at)
    (subst (λ (g : List (List ℕ)). IsReached g (get_or g number []) number) same (tells.0 is)))
    (λ b at back. tells.1 (subst (λ (g : List (List ℕ)). IsReached g (get_or g number []) number) (sym same)
    (complete p (procedure number) (procedure number) back (slice_get_within p.bodies number b at))))

-- All procedures.

-- One of the first procedures has such a body.
abbrev pub Below : ProgramForm → (count : ℕ) → Spot → Type 0
Below p count spot = AnyBelow (HasCircleAt p) count spot

pub below_more : (p : ProgramForm) (count : ℕ) (a b : Option Spot) → IsFirst (Below p count) a → IsFirst (HasCircleAt p count) b →
    IsFirst (Below p (count + 1)) (first_of a b)
below_more p count a b = any_more stands_before text_order (HasCircleAt p) count a b

split : (p : ProgramForm) (s : Spot) → Below p (length p.bodies) s → HasCircle p s
split p s (n, lt, (b, there, begins, back)) = (procedure n, b, there, begins, back)

join : (p : ProgramForm) (s : Spot) → HasCircle p s → Below p (length p.bodies) s
join p s (q, b, there, begins, back) = (q.0, slice_get_within p.bodies q.0 b there, (b, there, begins, back))

pub below_all : (p : ProgramForm) (a : Option Spot) → IsFirst (Below p (length p.bodies)) a → IsFirst (HasCircle p) a
below_all p a f = same_first stands_before (Below p (length p.bodies)) (HasCircle p) (split p) (join p) a f
