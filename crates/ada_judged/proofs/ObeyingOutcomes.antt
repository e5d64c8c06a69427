-- Where one form goes through, so does the other: what is made of both.

use Rattle.std.proofs.Common.{◌≡◌, Bool, true, false, Option, Some, None, refl, ap, ◌∙◌}
use Rattle.std.specs.Prelude.{if◌then◌else◌}
use Rattle.ada_text.specs.declared.spot.Spot.{Spot}
use Rattle.ada_flow.specs.declared.rule.Rule.{Rule}
use Rattle.ada_flow.specs.declared.rule.Rule.TheVariants.{LoopState}
use Rattle.ada_flow.specs.Flow.{Holds, Outcome, faults, goes, also_raises, then_flow, either_of, raising_if, handled, unless_worse, are_as_good}
use Rattle.ada_judged.specs.Obeying.{GoesAlike}

-- It faults where the form in it does.
abbrev pub IsStrict : (Outcome → Outcome) → Type 0
IsStrict f = (spot : Spot) (rule : Rule) (normal raising : Option Holds) → f (faults spot rule) ≡ goes normal raising → ⊥

pub within_alike : (f : Outcome → Outcome) → IsStrict f → (a b : Outcome) → GoesAlike a b → GoesAlike (f a) (f b)
within_alike f strict (faults spot rule) b h normal raising e = absurd (strict spot rule normal raising e)
within_alike f strict (goes n r) b h normal raising e = ap f (h n r refl) ∙ e

-- One after another.
also_alike : (before : Option Holds) (a b : Outcome) → GoesAlike a b → GoesAlike (also_raises before a) (also_raises before b)
also_alike before a b h = within_alike (also_raises before) (λ spot rule normal raising e. cc) a b h

pub then_alike : (a b : Outcome) (f g : Holds → Outcome) → GoesAlike a b → ((holds : Holds) → GoesAlike (f holds) (g holds)) → GoesAlike (then_flow a f) (then_flow b g)
then_alike (faults spot rule) b f g h more normal raising e = absurd (cc)
then_alike (goes None r) b f g h more normal raising e = ap (λ (o : Outcome). then_flow o g) (h None r refl) ∙ e
then_alike (goes (Some holds) r) b f g h more normal raising e =
    ap (λ (o : Outcome). then_flow o g) (h (Some holds) r refl) ∙ also_alike r (f holds) (g holds) (more holds) normal raising e

-- Two ways that join.
pub either_alike : (a b c d : Outcome) → GoesAlike a b → GoesAlike c d → GoesAlike (either_of a c) (either_of b d)
either_alike (faults spot rule) b c d h more normal raising e = absurd (cc)
either_alike (goes n r) b (faults spot rule) d h more normal raising e = absurd (cc)
either_alike (goes n r) b (goes m q) d h more normal raising e =
    ap (λ (o : Outcome). either_of o d) (h n r refl) ∙ ap (either_of (goes n r)) (more m q refl) ∙ e

-- Statements with their handlers.
pub handled_alike :
    (passes : Bool) (f g : Holds → Outcome) (a b : Outcome) → ((holds : Holds) → GoesAlike (f holds) (g holds)) → GoesAlike a b
    → GoesAlike (handled passes f a) (handled passes g b)
handled_alike passes f g (faults spot rule) b more h normal raising e = absurd (cc)
handled_alike passes f g (goes n None) b more h normal raising e = ap (handled passes g) (h n None refl) ∙ e
handled_alike passes f g (goes n (Some holds)) b more h normal raising e =
    ap (handled passes g) (h n (Some holds) refl)
    ∙ either_alike (goes n (raising_if passes holds)) (goes n (raising_if passes holds)) (f holds) (g holds) (λ m q k. k) (more holds) normal raising e

-- The way out of a loop.
pub unless_worse_alike : (start holds : Holds) (spot : Spot) (a b : Outcome) → GoesAlike a b → GoesAlike (unless_worse start holds spot a) (unless_worse start holds spot b)
unless_worse_alike start holds spot a b h = tested (are_as_good holds start)
  where
    tested : (q : Bool) → GoesAlike (if q then a else faults spot LoopState) (if q then b else faults spot LoopState)
    tested true normal raising e = h normal raising e
    tested false normal raising e = e
