-- The first of some things in an order.

use Rattle.std.proofs.Common.{◌≡◌, ℕ, ◌+◌, ◌<◌, Bool, true, false, ◌⊎◌, inl, inr, refl, sym, ◌∙◌, subst, arith}
use Rattle.std.specs.Prelude.{if◌then◌else◌, Option, Some, None}
use Rattle.std.proofs.lemmas.Bool.{cases_lt}

-- The first one of two things, where they are there.
abbrev pub first_by : {X : Type 0} → (before : X → X → Bool) → Option X → Option X → Option X
first_by before None b = b
first_by before (Some a) None = Some a
first_by before (Some a) (Some b) = if before b a then Some b else Some a

-- The first one of some things, or that there is none.
abbrev pub IsFirstBy : {X : Type 0} → (before : X → X → Bool) → (things : X → Type 0) → Option X → Type 0
IsFirstBy {X = X} before things None = (x : X) → ¬ (things x)
IsFirstBy {X = X} before things (Some x) = things x × ((y : X) → things y → before y x ≡ false)

-- What stands before another thing, and what does not, goes on.
pub record IsOrder {X : Type 0} (before : X → X → Bool) : Type 0 where
  pub onward : (a b c : X) → before a b ≡ true → before b c ≡ true → before a c ≡ true
  pub back : (a b c : X) → before a b ≡ false → before b c ≡ false → before a c ≡ false
  pub apart : (a : X) → before a a ≡ false

-- The first one of two is the first one of all.
pub either_first : {X : Type 0} (before : X → X → Bool) → IsOrder before → (P Q : X → Type 0) (a b : Option X) → IsFirstBy before P a → IsFirstBy before Q b →
    IsFirstBy before (λ x. P x ⊎ Q x) (first_by before a b)
either_first before o P Q None None f g = λ x h. elim h [ inl p ↦ f x p | inr q ↦ g x q ]
either_first before o P Q None (Some b) f g = (inr g.0, λ y h. elim h [ inl p ↦ absurd (f y p) | inr q ↦ g.1 y q ])
either_first before o P Q (Some a) None f g = (inl f.0, λ y h. elim h [ inl p ↦ f.1 y p | inr q ↦ absurd (g y q) ])
either_first {X = X} before o P Q (Some a) (Some b) f g = go (before b a) refl
  where
    behind : (y : X) → before y a ≡ false → before b a ≡ true → (t : Bool) → before y b ≡ t → before y b ≡ false
    behind y away is true h = absurd (cc (sym (o.onward y b a h is) ∙ away))
    behind y away is false h = h

    go : (t : Bool) → before b a ≡ t → IsFirstBy before (λ x. P x ⊎ Q x) (if t then Some b else Some a)
    go true is = (inr g.0, λ y h. elim h [ inl p ↦ behind y (f.1 y p) is (before y b) refl | inr q ↦ g.1 y q ])
    go false is = (inl f.0, λ y h. elim h [ inl p ↦ f.1 y p | inr q ↦ o.back y b a (g.1 y q) is ])

-- What is the first of some things is the first of the same things.
pub same_first : {X : Type 0} (before : X → X → Bool) (P Q : X → Type 0) → ((x : X) → P x → Q x) → ((x : X) → Q x → P x) → (a : Option X) →
    IsFirstBy before P a → IsFirstBy before Q a
same_first before P Q to from None f = λ x q. f x (from x q)
same_first before P Q to from (Some a) f = (to a f.0, λ y q. f.1 y (from y q))

-- One of the things at the first numbers.
abbrev pub AnyBelow : {X : Type 0} → (things : ℕ → X → Type 0) → (count : ℕ) → X → Type 0
AnyBelow things count x = (n : ℕ) × (n < count) × things n x

pub any_none : {X : Type 0} (before : X → X → Bool) (things : ℕ → X → Type 0) → IsFirstBy before (AnyBelow things 0) None
any_none before things = λ x h. absurd (omega (arith, h.1))

-- The first one of those at one number more.
pub any_more : {X : Type 0} (before : X → X → Bool) → IsOrder before → (things : ℕ → X → Type 0) (count : ℕ) (a b : Option X) →
    IsFirstBy before (AnyBelow things count) a → IsFirstBy before (things count) b → IsFirstBy before (AnyBelow things (count + 1)) (first_by before a b)
any_more {X = X} before o things count a b f g =
    same_first before (λ x. AnyBelow things count x ⊎ things count x) (AnyBelow things (count + 1)) to from (first_by before a b)
    (either_first before o (AnyBelow things count) (things count) a b f g)
  where
    to : (x : X) → AnyBelow things count x ⊎ things count x → AnyBelow things (count + 1) x
    to x (inl h) = (h.0, omega (arith, h.1), h.2)
    to x (inr h) = (count, omega arith, h)

    from : (x : X) → AnyBelow things (count + 1) x → AnyBelow things count x ⊎ things count x
    from x h = elim (cases_lt h.0 count) [
      | inl less ↦ inl (h.0, less, h.2)
      | inr more ↦ let here : h.0 ≡ count = omega (arith, more, h.1) in inr (subst (λ (n : ℕ). things n x) here h.2)
    ]
