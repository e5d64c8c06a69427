-- What is found, step by step: exceptions that may be raised, and access types of which objects may be freed.

use Rattle.std.proofs.Common.{◌≡◌, ℕ, ◌<◌, ◌≤◌, length, arith, Bool, true, false, ◌||◌, ◌&&◌, not, ◌==◌, List, [], ◌∷◌, ◌++◌, get_or, refl, ap, sym, ◌∙◌, inl, inr}
use Rattle.std.proofs.lemmas.Bool.{cases_Bool, or_cases, or_left, or_right, eqb-true, eq-eqb}
use Rattle.std.proofs.lemmas.List.Folds.{list_any-append}
use Rattle.std.proofs.Math.Bool.{or-false, and-true, and-false, or_assoc}
use Rattle.std.proofs.Math.Path.{fun_ext}
use Rattle.std.specs.List.{list_any, slice_get}
use Rattle.std.proofs.lemmas.Option.{slice_get-map, slice_get-get_or}
use Rattle.std.specs.Prelude.{Result, Ok, Err, MatchResult, Some, option_map}
use Rattle.ada_effects.specs.declared.effect.Effect.{Effect as HeldEffect}
use Rattle.ada_effects.specs.Effects.{Effect}
use Rattle.ada_effects.specs.Found.{calls_in, effect_in, has_number, left_of}
use Rattle.ada_effects.specs.Taken.{with_one, is_among}
use Rattle.ada_effects.proofs.Sameness.{are_equal}
use Rattle.ada_effects.proofs.Sets.{among_more}
use Rattle.ada_program.specs.declared.program.Exception.{Exception}
use Rattle.ada_program.specs.declared.program.TypeNo.{TypeNo}
use Rattle.ada_program.specs.Handling.{is_same}

-- Of these exceptions, those that are not taken.
pub is_left : (taken among : Exception → Bool) (e : Exception) → left_of taken among e ≡ (among e && not (taken e))
unfolding left_of
is_left taken among e = refl

-- An exception of a list answers for itself.
pub found_already : (e : Exception) (es : List Exception) (among : Exception → Bool) → is_among e es ≡ true → (list_any among es || among e) ≡ list_any among es
found_already e [] among h = cc
found_already e (f ∷ fs) among h = elim (cases_Bool (is_same e f)) [
  | inl same ↦ elim (cases_Bool (among f)) [
    | inl here ↦ ap (λ b. (b || list_any among fs) || among e) here ∙ sym (ap (λ b. b || list_any among fs) here)
    | inr away ↦ ap (λ x. (among f || list_any among fs) || among x) (are_equal e f same) ∙
        ap (λ b. (among f || list_any among fs) || b) away ∙ or-false (among f || list_any among fs)
  ]
  | inr other ↦ or_assoc (among f) (list_any among fs) (among e) ∙
      ap (λ b. among f || b) (found_already e fs among (sym (ap (λ b. b || is_among e fs) other) ∙ h))
]

-- What is taken is not left.
pub not_left : (taken among : Exception → Bool) (e : Exception) → taken e ≡ true → left_of taken among e ≡ false
unfolding left_of
not_left taken among e h = ap (λ b. among e && not b) h ∙ and-false (among e)

-- What is not taken is left, if it is asked for.
pub stays_left : (taken among : Exception → Bool) (e : Exception) → taken e ≡ false → left_of taken among e ≡ among e
unfolding left_of
stays_left taken among e h = ap (λ b. among e && not b) h ∙ and-true (among e)

-- An exception behind the others of a list.
pub found_besides : (e : Exception) (es : List Exception) (among : Exception → Bool) → list_any among (es ++ (e ∷ [])) ≡ (list_any among es || among e)
found_besides e es among = list_any-append among es (e ∷ []) ∙ ap (λ b. list_any among es || b) (or-false (among e))

-- A list in which each exception of a set stands gets longer, and so may the set.

pub stays_listed : (known : Exception → Bool) (e : Exception) (es : List Exception) → ((f : Exception) → known f ≡ true → is_among f es ≡ true) →
    (f : Exception) → known f ≡ true → is_among f (es ++ (e ∷ [])) ≡ true
stays_listed known e es h f is_in = among_more f es (e ∷ []) ∙ or_left (is_among f es) (is_among f (e ∷ [])) (h f is_in)

pub is_listed : (known : Exception → Bool) (e : Exception) (es : List Exception) → ((f : Exception) → known f ≡ true → is_among f es ≡ true) →
    (f : Exception) → with_one e known f ≡ true → is_among f (es ++ (e ∷ [])) ≡ true
unfolding with_one
is_listed known e es h f is_in = elim (or_cases (known f) (is_same f e) is_in) [
  | inl before ↦ stays_listed known e es h f before
  | inr same ↦ among_more f es (e ∷ []) ∙ or_right (is_among f es) (is_among f (e ∷ [])) (or_left (is_same f e) false same)
]

-- However the set's growth ends.
pub listed_after : {X E : Type 0} (r : Result X E) (known after : Exception → Bool) (e : Exception) (es : List Exception) →
    ((f : Exception) → known f ≡ true → is_among f es ≡ true) →
    MatchResult r (λ x. after ≡ with_one e known) (λ x. after ≡ known) → (f : Exception) → after f ≡ true → is_among f (es ++ (e ∷ [])) ≡ true
listed_after (Ok x) known after e es h grown f is_in = is_listed known e es h f (sym (ap (λ s. s f) grown) ∙ is_in)
listed_after (Err x) known after e es h kept f is_in = stays_listed known e es h f (sym (ap (λ s. s f) kept) ∙ is_in)

-- The same of types, by their numbers.

pub number_already : (n : ℕ) (xs : List TypeNo) (t : ℕ) → has_number xs n ≡ true → (has_number xs t || (n == t)) ≡ has_number xs t
number_already n [] t h = cc
number_already n (x ∷ xs) t h = elim (cases_Bool (x.0 == n)) [
  | inl same ↦ elim (cases_Bool (x.0 == t)) [
    | inl here ↦ ap (λ b. (b || has_number xs t) || (n == t)) here ∙ sym (ap (λ b. b || has_number xs t) here)
    | inr away ↦ ap (λ (k : ℕ). ((x.0 == t) || has_number xs t) || (k == t)) (sym (eqb-true x.0 n same)) ∙
        ap (λ b. ((x.0 == t) || has_number xs t) || b) away ∙ or-false ((x.0 == t) || has_number xs t)
  ]
  | inr other ↦ or_assoc (x.0 == t) (has_number xs t) (n == t) ∙
      ap (λ b. (x.0 == t) || b) (number_already n xs t (sym (ap (λ b. b || has_number xs n) other) ∙ h))
]

pub number_besides : (x : TypeNo) (xs : List TypeNo) (t : ℕ) → has_number (xs ++ (x ∷ [])) t ≡ (has_number xs t || (x.0 == t))
number_besides x xs t = list_any-append (λ y. y.0 == t) xs (x ∷ []) ∙ ap (λ b. has_number xs t || b) (or-false (x.0 == t))

-- However the growth of the set of numbers ends.
pub numbers_after : {X E : Type 0} (r : Result X E) (known after : List Bool) (x : TypeNo) (xs : List TypeNo) →
    ((t : ℕ) → get_or known t false ≡ true → has_number xs t ≡ true) →
    MatchResult r (λ u. (n : ℕ) → get_or after n false ≡ (get_or known n false || (n == x.0))) (λ u. (n : ℕ) → get_or after n false ≡ get_or known n false) →
    (t : ℕ) → get_or after t false ≡ true → has_number (xs ++ (x ∷ [])) t ≡ true
numbers_after (Err u) known after x xs h kept t is_in = number_besides x xs t ∙ or_left (has_number xs t) (x.0 == t) (h t (sym (kept t) ∙ is_in))
numbers_after (Ok u) known after x xs h grown t is_in = number_besides x xs t ∙ elim (or_cases (get_or known t false) (t == x.0) (sym (grown t) ∙ is_in)) [
  | inl before ↦ or_left (has_number xs t) (x.0 == t) (h t before)
  | inr same ↦ or_right (has_number xs t) (x.0 == t) (eq-eqb x.0 t (sym (eqb-true t x.0 same)))
]

-- Where two effects answer alike, they are one.
pub same_effect : (a : HeldEffect) (e : Effect) → ((among : Exception → Bool) → list_any among a.raises.items ≡ e.raises among) →
    ((t : ℕ) → has_number a.frees.items t ≡ e.frees t) → effect_in a ≡ e
same_effect a e r f =
    ap (λ raises. record { raises = raises; frees = has_number a.frees.items }) (fun_ext r) ∙
    ap (λ frees. record { raises = e.raises; frees = frees }) (fun_ext f)

-- Where a list has an exception, something is found.
pub something_found : (es : List Exception) → 1 ≤ length es → true ≡ list_any (λ e. true) es
something_found [] h = absurd (omega arith)
something_found (e ∷ es) h = refl

-- What is known of the calls of a procedure is that of its number.
pub known_calls : (effects : List HeldEffect) (n : ℕ) (e : HeldEffect) → n < length effects → e ≡ get_or effects n e →
    slice_get (calls_in effects) n ≡ Some (effect_in e)
known_calls effects n e within is =
    slice_get-map effect_in effects n ∙ ap (option_map effect_in) (slice_get-get_or effects n e within) ∙ ap (λ x. Some (effect_in x)) (sym is)

pub ruleset adding = (is_left, not_left, stays_left, found_already, found_besides, stays_listed, is_listed)

pub ruleset numbering = (number_already, number_besides)
