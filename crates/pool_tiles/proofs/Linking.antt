-- A spelled part of a tiling gets new links at its ends.
use Rattle.std.proofs.Common.{◌≡◌, ◌≢◌, ℕ, zero, suc, ◌+◌, ◌≤◌, ◌<◌, List, [], ◌∷◌, ◌++◌, refl, sym, ap, ◌∙◌, arith, ◌⊎◌, inl, inr}
use Rattle.pool_tiles.specs.Tiling.{Tile, hole, block}
use Rattle.pool_tiles.specs.Headers.{first_or, last_or, total, Spelled}
use Rattle.pool_tiles.proofs.Spelling.{kept}

pub zero_or_more : (n : ℕ) → (n ≡ 0) ⊎ (0 < n)
zero_or_more zero = inl refl
zero_or_more (suc n) = inr (omega arith)

-- how many holes there are
abbrev pub holes : List Tile → ℕ
holes [] = 0
holes (hole p n ∷ ts) = suc (holes ts)
holes (block p n w ∷ ts) = holes ts

pub holes-append : (a b : List Tile) → holes (a ++ b) ≡ holes a + holes b
holes-append [] b = omega arith
holes-append (hole p n ∷ a) b = omega (arith, holes-append a b)
holes-append (block p n w ∷ a) b = holes-append a b

pub first_or-blocks : (ts : List Tile) (next : ℕ) → holes ts ≡ 0 → first_or ts next ≡ next
first_or-blocks [] next e = refl
first_or-blocks (hole p n ∷ ts) next e = absurd (omega arith)
first_or-blocks (block p n w ∷ ts) next e = first_or-blocks ts next e

pub first_or-holes : (ts : List Tile) (next other : ℕ) → 0 < holes ts → first_or ts next ≡ first_or ts other
first_or-holes [] next other h = absurd (omega arith)
first_or-holes (hole p n ∷ ts) next other h = refl
first_or-holes (block p n w ∷ ts) next other h = first_or-holes ts next other h

pub last_or-blocks : (ts : List Tile) (prev : ℕ) → holes ts ≡ 0 → last_or prev ts ≡ prev
last_or-blocks [] prev e = refl
last_or-blocks (hole p n ∷ ts) prev e = absurd (omega arith)
last_or-blocks (block p n w ∷ ts) prev e = last_or-blocks ts prev e

pub last_or-holes : (ts : List Tile) (prev other : ℕ) → 0 < holes ts → last_or prev ts ≡ last_or other ts
last_or-holes [] prev other h = absurd (omega arith)
last_or-holes (hole p n ∷ ts) prev other h = refl
last_or-holes (block p n w ∷ ts) prev other h = last_or-holes ts prev other h

module _ (r o : ℕ → ℕ) where
  -- the first and the last hole lie within
  pub first_within : (at back prev : ℕ) (ts : List Tile) (next : ℕ) → Spelled r o at back prev ts next → 0 < holes ts
      → (at ≤ first_or ts next) × (first_or ts next + 4 ≤ at + total ts)
  first_within at back prev [] next s h = absurd (omega arith)
  first_within at back prev (hole p n ∷ ts) next s h = let e = s.0 in let long = s.1.long in (omega arith, omega arith)
  first_within at back prev (block p n w ∷ ts) next s h =
      let e = s.0 in let long = s.1.long in let rest = first_within (p + n) p prev ts next s.2 h in (omega arith, omega arith)

  pub last_within : (at back prev : ℕ) (ts : List Tile) (next : ℕ) → Spelled r o at back prev ts next → 0 < holes ts
      → (at ≤ last_or prev ts) × (last_or prev ts + 4 ≤ at + total ts)
  last_within at back prev [] next s h = absurd (omega arith)
  last_within at back prev (hole p n ∷ ts) next s h =
      let e = s.0 in let long = s.1.long in
      elim (zero_or_more (holes ts)) as (λ _. (at ≤ last_or p ts) × (last_or p ts + 4 ≤ at + (n + total ts))) [
        | inl none ↦ let same = last_or-blocks ts p none in (omega arith, omega arith)
        | inr some ↦ let rest = last_within (p + n) p p ts next s.2 some in (omega arith, omega arith)
      ]
  last_within at back prev (block p n w ∷ ts) next s h =
      let e = s.0 in let long = s.1.long in let rest = last_within (p + n) p prev ts next s.2 h in (omega arith, omega arith)

  -- the last hole names the one after them
  pub last_names : (at back prev : ℕ) (ts : List Tile) (next : ℕ) → Spelled r o at back prev ts next → 0 < holes ts → r (last_or prev ts + 2) ≡ next
  last_names at back prev [] next s some = absurd (omega arith)
  last_names at back prev (hole p n ∷ ts) next s some =
      elim (zero_or_more (holes ts)) [
        | inl none ↦ ap (λ (k : ℕ). r (k + 2)) (last_or-blocks ts p none) ∙ s.1.next_is ∙ first_or-blocks ts next none
        | inr more ↦ last_names (p + n) p p ts next s.2 more
      ]
  last_names at back prev (block p n w ∷ ts) next s some = last_names (p + n) p prev ts next s.2 some

-- q is r from one place up to another, but for one word
abbrev pub SameBut : (ℕ → ℕ) → (ℕ → ℕ) → ℕ → ℕ → Type 0 → ℕ → Type 0
SameBut r q from to P but = (k : ℕ) → from ≤ k → k < to → (P → k ≢ but) → q k ≡ r k

module _ (r q o : ℕ → ℕ) where
  -- the last hole names another as the next
  pub next_linked : (at back prev : ℕ) (ts : List Tile) (next other : ℕ) → Spelled r o at back prev ts next
      → SameBut r q at (at + total ts) (0 < holes ts) (last_or prev ts + 2) → (0 < holes ts → q (last_or prev ts + 2) ≡ other) → Spelled q o at back prev ts other
  next_linked at back prev [] next other s same there = tt
  next_linked at back prev (hole p n ∷ ts) next other s same there =
      let e = s.0 in let long = s.1.long in
      elim (zero_or_more (holes ts)) as (λ _. Spelled q o at back prev (hole p n ∷ ts) other) [
        | inl none ↦
            let here : last_or p ts ≡ p = last_or-blocks ts p none in
            let one : 0 < suc (holes ts) = omega arith in (
              s.0,
              record {
                long = s.1.long;
                size = same p (omega arith) (omega arith) (λ _ x. absurd (omega arith)) ∙ s.1.size;
                before = same (p + 1) (omega arith) (omega arith) (λ _ x. absurd (omega arith)) ∙ s.1.before;
                next_is = ap q (omega arith) ∙ there one ∙ sym (first_or-blocks ts other none);
                prev_is = same (p + 3) (omega arith) (omega arith) (λ _ x. absurd (omega arith)) ∙ s.1.prev_is;
              },
              next_linked (p + n) p p ts next other s.2 (λ k low high _. same k (omega arith) (omega arith) (λ _ x. absurd (omega arith))) (λ some. absurd (omega arith)),
            )
        | inr some ↦
            let far = last_within r o (p + n) p p ts next s.2 some in (
              s.0,
              record {
                long = s.1.long;
                size = same p (omega arith) (omega arith) (λ _ x. absurd (omega arith)) ∙ s.1.size;
                before = same (p + 1) (omega arith) (omega arith) (λ _ x. absurd (omega arith)) ∙ s.1.before;
                next_is = same (p + 2) (omega arith) (omega arith) (λ _ x. absurd (omega arith)) ∙ s.1.next_is ∙ first_or-holes ts next other some;
                prev_is = same (p + 3) (omega arith) (omega arith) (λ _ x. absurd (omega arith)) ∙ s.1.prev_is;
              },
              next_linked (p + n) p p ts next other s.2 (λ k low high but. same k (omega arith) (omega arith) (λ _. but some)) (λ _. there (omega arith)),
            )
      ]
  next_linked at back prev (block p n w ∷ ts) next other s same there =
      let e = s.0 in let long = s.1.long in
      let far = last_within r o (p + n) p prev ts next s.2 in (
        s.0,
        record {
          long = s.1.long;
          size = same p (omega arith) (omega arith) (λ some x. let f = far some in absurd (omega arith)) ∙ s.1.size;
          before = same (p + 1) (omega arith) (omega arith) (λ some x. let f = far some in absurd (omega arith)) ∙ s.1.before;
          owned = s.1.owned;
          own = λ k low high. same k (omega arith) (omega arith) (λ some x. let f = far some in absurd (omega arith)) ∙ s.1.own k low high;
        },
        next_linked (p + n) p prev ts next other s.2 (λ k low high but. same k (omega arith) (omega arith) but) there,
      )

  -- the first hole names another as the one before
  pub prev_linked : (at back prev other : ℕ) (ts : List Tile) (next : ℕ) → Spelled r o at back prev ts next
      → SameBut r q at (at + total ts) (0 < holes ts) (first_or ts next + 3) → (0 < holes ts → q (first_or ts next + 3) ≡ other) → Spelled q o at back other ts next
  prev_linked at back prev other [] next s same there = tt
  prev_linked at back prev other (hole p n ∷ ts) next s same there =
      let e = s.0 in let long = s.1.long in (
        s.0,
        record {
          long = s.1.long;
          size = same p (omega arith) (omega arith) (λ _ x. absurd (omega arith)) ∙ s.1.size;
          before = same (p + 1) (omega arith) (omega arith) (λ _ x. absurd (omega arith)) ∙ s.1.before;
          next_is = same (p + 2) (omega arith) (omega arith) (λ _ x. absurd (omega arith)) ∙ s.1.next_is;
          prev_is = there (omega arith);
        },
        kept r q o (p + n) p p ts next s.2 (λ k low high. same k (omega arith) (omega arith) (λ _ x. absurd (omega arith))),
      )
  prev_linked at back prev other (block p n w ∷ ts) next s same there =
      let e = s.0 in let long = s.1.long in
      let far = first_within r o (p + n) p prev ts next s.2 in (
        s.0,
        record {
          long = s.1.long;
          size = same p (omega arith) (omega arith) (λ some x. let f = far some in absurd (omega arith)) ∙ s.1.size;
          before = same (p + 1) (omega arith) (omega arith) (λ some x. let f = far some in absurd (omega arith)) ∙ s.1.before;
          owned = s.1.owned;
          own = λ k low high. same k (omega arith) (omega arith) (λ some x. let f = far some in absurd (omega arith)) ∙ s.1.own k low high;
        },
        prev_linked (p + n) p prev other ts next s.2 (λ k low high but. same k (omega arith) (omega arith) but) there,
      )

  -- so does it, and the first tile names another as the one before
  pub relinked : (at back back2 prev other : ℕ) (ts : List Tile) (next : ℕ) → Spelled r o at back prev ts next
      → ((k : ℕ) → at ≤ k → k < at + total ts → k ≢ at + 1 → (0 < holes ts → k ≢ first_or ts next + 3) → q k ≡ r k)
      → (0 < total ts → q (at + 1) ≡ back2) → (0 < holes ts → q (first_or ts next + 3) ≡ other) → Spelled q o at back2 other ts next
  relinked at back back2 prev other [] next s same first there = tt
  relinked at back back2 prev other (hole p n ∷ ts) next s same first there =
      let e = s.0 in let long = s.1.long in (
        s.0,
        record {
          long = s.1.long;
          size = same p (omega arith) (omega arith) (λ x. absurd (omega arith)) (λ _ x. absurd (omega arith)) ∙ s.1.size;
          before = ap q (omega arith) ∙ first (omega arith);
          next_is = same (p + 2) (omega arith) (omega arith) (λ x. absurd (omega arith)) (λ _ x. absurd (omega arith)) ∙ s.1.next_is;
          prev_is = there (omega arith);
        },
        kept r q o (p + n) p p ts next s.2 (λ k low high. same k (omega arith) (omega arith) (λ x. absurd (omega arith)) (λ _ x. absurd (omega arith))),
      )
  relinked at back back2 prev other (block p n w ∷ ts) next s same first there =
      let e = s.0 in let long = s.1.long in
      let far = first_within r o (p + n) p prev ts next s.2 in (
        s.0,
        record {
          long = s.1.long;
          size = same p (omega arith) (omega arith) (λ x. absurd (omega arith)) (λ some x. let f = far some in absurd (omega arith)) ∙ s.1.size;
          before = ap q (omega arith) ∙ first (omega arith);
          owned = s.1.owned;
          own = λ k low high. same k (omega arith) (omega arith) (λ x. absurd (omega arith)) (λ some x. let f = far some in absurd (omega arith)) ∙ s.1.own k low high;
        },
        prev_linked (p + n) p prev other ts next s.2 (λ k low high but. same k (omega arith) (omega arith) (λ x. absurd (omega arith)) but) there,
      )
