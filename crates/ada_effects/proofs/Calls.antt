-- What is known of calls: effects that answer for each exception.

use Rattle.std.proofs.Common.{◌≡◌, ℕ, Bool, true, ◌||◌, List, [], ◌∷◌, ◌++◌, zero, suc, inl, inr}
use Rattle.std.proofs.lemmas.Bool.{or_cases, or_left, or_right}
use Rattle.std.specs.List.{list_any, slice_get}
use Rattle.ada_effects.specs.declared.effect.Effect.{Effect as HeldEffect}
use Rattle.ada_effects.specs.Effects.{Effect, call_raises}
use Rattle.ada_effects.specs.Found.{calls_in}
use Rattle.ada_effects.proofs.Sameness.{is_itself}
use Rattle.ada_program.specs.declared.program.Exception.{Exception}
use Rattle.ada_program.specs.Handling.{is_same}

-- Where more exceptions are asked for, the answer stays.
abbrev pub Within : (Exception → Bool) → (Exception → Bool) → Type 0
Within p q = (e : Exception) → p e ≡ true → q e ≡ true

abbrev pub Stays : ((Exception → Bool) → Bool) → Type 0
Stays raised = (p q : Exception → Bool) → Within p q → raised p ≡ true → raised q ≡ true

-- Where an answer is yes, it is so for one exception.
abbrev pub One : (Exception → Bool) → ((Exception → Bool) → Bool) → Type 0
One p raised = (e : Exception) × (p e ≡ true) × (raised (is_same e) ≡ true)

pub either : (a b c d : Bool) → (a ≡ true → c ≡ true) → (b ≡ true → d ≡ true) → (a || b) ≡ true → (c || d) ≡ true
either a b c d f g h = elim (or_cases a b h) [ inl x ↦ or_left c d (f x) | inr y ↦ or_right c d (g y) ]

one_left : (p : Exception → Bool) (a b : (Exception → Bool) → Bool) → One p a → One p (λ r. a r || b r)
one_left p a b one = (one.0, one.1, or_left (a (is_same one.0)) (b (is_same one.0)) one.2)

one_right : (p : Exception → Bool) (a b : (Exception → Bool) → Bool) → One p b → One p (λ r. a r || b r)
one_right p a b one = (one.0, one.1, or_right (a (is_same one.0)) (b (is_same one.0)) one.2)

pub one_of : (p : Exception → Bool) (a b : (Exception → Bool) → Bool) → (a p ≡ true → One p a) → (b p ≡ true → One p b) →
    (a p || b p) ≡ true → One p (λ r. a r || b r)
one_of p a b f g h = elim (or_cases (a p) (b p) h) [ inl x ↦ one_left p a b (f x) | inr y ↦ one_right p a b (g y) ]

pub itself : (p : Exception → Bool) (e : Exception) → p e ≡ true → One p (λ r. r e)
itself p e h = (e, h, is_itself e)

-- Each effect answers for each exception.
abbrev pub Each : Effect → Type 0
Each e = record { stays : Stays e.raises; one : (p : Exception → Bool) → e.raises p ≡ true → One p e.raises }

abbrev pub AllEach : List Effect → Type 0
AllEach [] = Unit {0}
AllEach (e ∷ es) = record { first : Each e; rest : AllEach es }

pub each_more : (es : List Effect) (e : Effect) → AllEach es → Each e → AllEach (es ++ (e ∷ []))
each_more [] e all each = record { first = each; rest = tt }
each_more (f ∷ es) e all each = record { first = all.first; rest = each_more es e all.rest each }

pub call_stays : (es : List Effect) → AllEach es → (n : ℕ) → Stays (call_raises (slice_get es n))
call_stays [] all n p q w h = cc
call_stays (e ∷ es) all zero p q w h = all.first.stays p q w h
call_stays (e ∷ es) all (suc n) p q w h = call_stays es all.rest n p q w h

pub call_has_one : (es : List Effect) → AllEach es → (n : ℕ) (p : Exception → Bool) →
    call_raises (slice_get es n) p ≡ true → One p (call_raises (slice_get es n))
call_has_one [] all n p h = cc
call_has_one (e ∷ es) all zero p h = all.first.one p h
call_has_one (e ∷ es) all (suc n) p h = call_has_one es all.rest n p h

-- A list of exceptions does, as that of what an initialization may raise, and so do the effects that the code holds.

pub some_stays : (xs : List Exception) → Stays (λ among. list_any among xs)
some_stays [] p q w h = cc
some_stays (x ∷ xs) p q w h = either (p x) (list_any p xs) (q x) (list_any q xs) (w x) (some_stays xs p q w) h

pub some_has_one : (xs : List Exception) (p : Exception → Bool) → list_any p xs ≡ true → One p (λ among. list_any among xs)
some_has_one [] p h = cc
some_has_one (x ∷ xs) p h = one_of p (λ r. r x) (λ r. list_any r xs) (itself p x) (some_has_one xs p) h

pub held_each : (es : List HeldEffect) → AllEach (calls_in es)
held_each [] = tt
held_each (e ∷ es) = record { first = record { stays = some_stays e.raises.items; one = some_has_one e.raises.items }; rest = held_each es }
