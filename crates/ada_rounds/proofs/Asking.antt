-- What the code finds is the first body that may not call itself and does.

use Rattle.std.proofs.Common.{◌⊎◌, ℕ, ◌+◌, length, inl, inr, refl, sym, subst}
use Rattle.std.specs.Prelude.{Option, Some}
use Rattle.ada_text.specs.declared.spot.Spot.{Spot}
use Rattle.ada_program.specs.declared.program.Finalization.{Finalization}
use Rattle.ada_program.specs.ProgramForm.{ProgramForm}
use Rattle.ada_program.specs.WellFormed.{finalization_of}
use Rattle.ada_quiet.specs.First.{stands_before, IsFirst, first_of}
use Rattle.ada_quiet.proofs.Firsts.{AnyBelow, any_more, either_first, same_first}
use Rattle.ada_quiet.proofs.Unused.{some_same, text_order, within}
use Rattle.ada_rounds.specs.FirstRound.{HasRound, HasRoundOf, HasRoundIn}

-- One type.

pub first_in : (p : ProgramForm) (f : Finalization) (a b : Option Spot) → IsFirst (HasRoundOf p f.operations.initialize) a →
    IsFirst (HasRoundOf p f.operations.adjust) b → IsFirst (HasRoundIn p (Some f)) (first_of a b)
first_in p f a b initialize adjust =
    same_first stands_before (λ s. HasRoundOf p f.operations.initialize s ⊎ HasRoundOf p f.operations.adjust s) (HasRoundIn p (Some f)) (λ s h. (f, refl, h))
    (λ s h. subst (λ (g : Finalization). HasRoundOf p g.operations.initialize s ⊎ HasRoundOf p g.operations.adjust s) (sym (some_same h.1)) h.2) (first_of a b)
    (either_first stands_before text_order (HasRoundOf p f.operations.initialize) (HasRoundOf p f.operations.adjust) a b initialize adjust)

-- All types.

-- The type of a number has such a body.
abbrev HasRoundAt : ProgramForm → (t : ℕ) → Spot → Type 0
HasRoundAt p t spot = HasRoundIn p (finalization_of p.types t) spot

-- One of the first types has.
abbrev pub Below : ProgramForm → (count : ℕ) → Spot → Type 0
Below p count spot = AnyBelow (HasRoundAt p) count spot

pub below_more : (p : ProgramForm) (count : ℕ) (a b : Option Spot) → IsFirst (Below p count) a → IsFirst (HasRoundIn p (finalization_of p.types count)) b →
    IsFirst (Below p (count + 1)) (first_of a b)
below_more p count a b = any_more stands_before text_order (HasRoundAt p) count a b

split : (p : ProgramForm) (s : Spot) → Below p (length p.types) s → HasRound p s
split p s (t, lt, (f, at, inl (q, b, is, there, begins, circles))) = (q, b, there, begins, (t, f, at, inl is), circles)
split p s (t, lt, (f, at, inr (q, b, is, there, begins, circles))) = (q, b, there, begins, (t, f, at, inr is), circles)

join : (p : ProgramForm) (s : Spot) → HasRound p s → Below p (length p.types) s
join p s (q, b, there, begins, (t, f, at, inl is), circles) = (t, within p.types t f at, (f, at, inl (q, b, is, there, begins, circles)))
join p s (q, b, there, begins, (t, f, at, inr is), circles) = (t, within p.types t f at, (f, at, inr (q, b, is, there, begins, circles)))

pub below_all : (p : ProgramForm) (a : Option Spot) → IsFirst (Below p (length p.types)) a → IsFirst (HasRound p) a
below_all p a f = same_first stands_before (Below p (length p.types)) (HasRound p) (split p) (join p) a f
