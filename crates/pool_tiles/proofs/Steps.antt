-- What the four steps on a tiling write: a block becomes a hole, a hole a block, a hole is split, two are joined.
use Rattle.std.proofs.Common.{◌≡◌, ◌≢◌, ℕ, ◌+◌, ◌*◌, ◌≤◌, ◌<◌, List, ◌∷◌, ◌++◌, refl, ◌∙◌, arith, inl, inr}
use Rattle.pool_tiles.specs.Tiling.{Tile, hole, block}
use Rattle.pool_tiles.specs.Headers.{first_or, last_or, total, hole_mark, owner_unit, owner_limit, Spelled}
use Rattle.pool_tiles.proofs.Spelling.{kept, moved, front_part, back_part, both_parts, total-append}
use Rattle.pool_tiles.proofs.Linking.{zero_or_more, holes, first_or-blocks, last_or-blocks, first_within, last_within, next_linked, prev_linked, relinked}

-- a word of the pool is no link of a hole that isn't there
not_last : (n : ℕ) (a : List Tile) (k : ℕ) → k < n → (0 < holes a → k ≢ last_or n a + 2) → k ≢ last_or n a + 2
not_last n a k inside but e = elim (zero_or_more (holes a)) [ inl none ↦ let same = last_or-blocks a n none in omega arith | inr some ↦ but some e ]

not_first : (n : ℕ) (b : List Tile) (k : ℕ) → k < n → (0 < holes b → k ≢ first_or b n + 3) → k ≢ first_or b n + 3
not_first n b k inside but e = elim (zero_or_more (holes b)) [ inl none ↦ let same = first_or-blocks b n none in omega arith | inr some ↦ but some e ]

module _ (r o : ℕ → ℕ) (n : ℕ) where
  pub past_last : (a : List Tile) (next : ℕ) → Spelled r o 0 0 n a next → (k : ℕ) → total a ≤ k → k < n → k ≢ last_or n a + 2
  past_last a next s k low inside = not_last n a k inside (λ some e. let within = last_within r o 0 0 n a next s some in absurd (omega arith))

  pub before_first : (at back prev : ℕ) (b : List Tile) → Spelled r o at back prev b n → (k : ℕ) → k < at → k < n → k ≢ first_or b n + 3
  before_first at back prev b s k low inside = not_first n b k inside (λ some e. let within = first_within r o at back prev b n s some in absurd (omega arith))

module _ (r q o : ℕ → ℕ) (n : ℕ) (a : List Tile) (p m : ℕ) (b : List Tile) where
  -- a block becomes a hole, between the last hole before it and the first after it
  pub free_step : (w : ℕ) → Spelled r o 0 0 n (a ++ block p m w ∷ b) n → total (a ++ block p m w ∷ b) ≤ n
      → q p ≡ m + hole_mark → q (p + 2) ≡ first_or b n → q (p + 3) ≡ last_or n a
      → (0 < holes a → q (last_or n a + 2) ≡ p) → (0 < holes b → q (first_or b n + 3) ≡ p)
      → ((k : ℕ) → k < n → k ≢ p → k ≢ p + 2 → k ≢ p + 3 → k ≢ last_or n a + 2 → k ≢ first_or b n + 3 → q k ≡ r k)
      → Spelled q o 0 0 n (a ++ hole p m ∷ b) n
  free_step w s fits size next prev from_last from_first others =
      let front = front_part r o 0 0 n a (block p m w ∷ b) n s in
      let here = back_part r o 0 0 n a (block p m w ∷ b) n s in
      let place : p ≡ 0 + total a = here.0 in
      let long : 4 ≤ m = here.1.long in
      let whole : total a + (m + total b) ≤ n = omega (arith, total-append a (block p m w ∷ b)) in
      both_parts q o 0 0 n a (hole p m ∷ b) n
      (next_linked r q o 0 0 n a (first_or b n) p front
      (λ k low high but. others k (omega arith) (λ e. absurd (omega arith)) (λ e. absurd (omega arith)) (λ e. absurd (omega arith)) (not_last n a k (omega arith) but)
      (before_first r o n (p + m) p (last_or n a) b here.2 k (omega arith) (omega arith)))
      from_last) (
        here.0,
        record {
          long = long;
          size = size;
          before = others (p + 1) (omega arith) (λ e. absurd (omega arith)) (λ e. absurd (omega arith)) (λ e. absurd (omega arith))
              (past_last r o n a (first_or b n) front (p + 1) (omega arith) (omega arith))
              (before_first r o n (p + m) p (last_or n a) b here.2 (p + 1) (omega arith) (omega arith)) ∙ here.1.before;
          next_is = next;
          prev_is = prev;
        },
        prev_linked r q o (p + m) p (last_or n a) p b n here.2
            (λ k low high but. others k (omega arith) (λ e. absurd (omega arith)) (λ e. absurd (omega arith)) (λ e. absurd (omega arith))
            (past_last r o n a (first_or b n) front k (omega arith) (omega arith)) (not_first n b k (omega arith) but))
            from_first,
      )

  -- a hole becomes a block, and its neighbours in the list name each other
  pub take_step : (w : ℕ) → w < owner_limit → Spelled r o 0 0 n (a ++ hole p m ∷ b) n → total (a ++ hole p m ∷ b) ≤ n
      → q p ≡ m + w * owner_unit → (0 < holes a → q (last_or n a + 2) ≡ first_or b n) → (0 < holes b → q (first_or b n + 3) ≡ last_or n a)
      → ((k : ℕ) → k < n → k ≢ p → k ≢ last_or n a + 2 → k ≢ first_or b n + 3 → q k ≡ r k)
      → ((k : ℕ) → p + 2 ≤ k → k < p + m → r k ≡ o k)
      → Spelled q o 0 0 n (a ++ block p m w ∷ b) n
  take_step w number s fits size from_last from_first others object =
      let front = front_part r o 0 0 n a (hole p m ∷ b) n s in
      let here = back_part r o 0 0 n a (hole p m ∷ b) n s in
      let place : p ≡ 0 + total a = here.0 in
      let long : 4 ≤ m = here.1.long in
      let whole : total a + (m + total b) ≤ n = omega (arith, total-append a (hole p m ∷ b)) in
      let later = λ (k : ℕ) (low : p ≤ k) (high : k < p + m) (inside : k < n). past_last r o n a p front k (omega arith) inside in
      let earlier = λ (k : ℕ) (high : k < p + m) (inside : k < n). before_first r o n (p + m) p p b here.2 k high inside in
      both_parts q o 0 0 n a (block p m w ∷ b) n
      (next_linked r q o 0 0 n a p (first_or b n) front
      (λ k low high but. others k (omega arith) (λ e. absurd (omega arith)) (not_last n a k (omega arith) but) (earlier k (omega arith) (omega arith)))
      from_last) (
        here.0,
        record {
          long = long;
          size = size;
          before = others (p + 1) (omega arith) (λ e. absurd (omega arith)) (later (p + 1) (omega arith) (omega arith) (omega arith)) (earlier (p + 1) (omega arith) (omega arith)) ∙ here.1.before;
          owned = number;
          own = λ k low high. others k (omega arith) (λ e. absurd (omega arith)) (later k (omega arith) high (omega arith)) (earlier k high (omega arith)) ∙ object k low high;
        },
        prev_linked r q o (p + m) p p (last_or n a) b n here.2
            (λ k low high but. others k (omega arith) (λ e. absurd (omega arith))
            (past_last r o n a p front k (omega arith) (omega arith)) (not_first n b k (omega arith) but))
            from_first,
      )

  -- a hole becomes two neighbours, the first of i words
  pub split_step : (i j : ℕ) → Spelled r o 0 0 n (a ++ hole p m ∷ b) n → total (a ++ hole p m ∷ b) ≤ n → 4 ≤ i → 4 ≤ j → m ≡ i + j
      → q p ≡ i + hole_mark → q (p + 2) ≡ p + i
      → q (p + i) ≡ j + hole_mark → q (p + i + 1) ≡ p → q (p + i + 2) ≡ first_or b n → q (p + i + 3) ≡ p
      → (0 < holes b → q (first_or b n + 3) ≡ p + i) → (0 < total b → q (p + m + 1) ≡ p + i)
      → ((k : ℕ) → k < n → k ≢ p → k ≢ p + 2 → k ≢ p + i → k ≢ p + i + 1 → k ≢ p + i + 2 → k ≢ p + i + 3 → k ≢ first_or b n + 3 → k ≢ p + m + 1 → q k ≡ r k)
      → Spelled q o 0 0 n (a ++ hole p i ∷ hole (p + i) j ∷ b) n
  split_step i j s fits long_i long_j parts size next size2 before2 next2 prev2 from_first from_after others =
      let front = front_part r o 0 0 n a (hole p m ∷ b) n s in
      let here = back_part r o 0 0 n a (hole p m ∷ b) n s in
      let place : p ≡ 0 + total a = here.0 in
      let whole : total a + (m + total b) ≤ n = omega (arith, total-append a (hole p m ∷ b)) in
      let earlier = λ (k : ℕ) (high : k < p + m) (inside : k < n). before_first r o n (p + m) p p b here.2 k high inside in
      both_parts q o 0 0 n a (hole p i ∷ hole (p + i) j ∷ b) n
      (kept r q o 0 0 n a p front
      (λ k low high. others k (omega arith) (λ e. absurd (omega arith)) (λ e. absurd (omega arith)) (λ e. absurd (omega arith)) (λ e. absurd (omega arith)) (λ e. absurd (omega arith))
      (λ e. absurd (omega arith)) (earlier k (omega arith) (omega arith)) (λ e. absurd (omega arith)))) (
        here.0,
        record {
          long = long_i;
          size = size;
          before = others (p + 1) (omega arith) (λ e. absurd (omega arith)) (λ e. absurd (omega arith)) (λ e. absurd (omega arith)) (λ e. absurd (omega arith)) (λ e. absurd (omega arith))
              (λ e. absurd (omega arith)) (earlier (p + 1) (omega arith) (omega arith)) (λ e. absurd (omega arith)) ∙ here.1.before;
          next_is = next;
          prev_is = others (p + 3) (omega arith) (λ e. absurd (omega arith)) (λ e. absurd (omega arith)) (λ e. absurd (omega arith)) (λ e. absurd (omega arith)) (λ e. absurd (omega arith))
              (λ e. absurd (omega arith)) (earlier (p + 3) (omega arith) (omega arith)) (λ e. absurd (omega arith)) ∙ here.1.prev_is;
        },
        (
          refl,
          record { long = long_j; size = size2; before = before2; next_is = next2; prev_is = prev2 },
          moved q o (p + m) (p + i + j) (p + i) (p + i) b n (omega arith)
              (relinked r q o (p + m) p (p + i) p (p + i) b n here.2
              (λ k low high first but. others k (omega arith) (λ e. absurd (omega arith)) (λ e. absurd (omega arith)) (λ e. absurd (omega arith)) (λ e. absurd (omega arith)) (λ e. absurd (omega arith))
              (λ e. absurd (omega arith)) (not_first n b k (omega arith) but) first)
              from_after from_first),
        ),
      )

  -- a hole and the hole after it become one
  pub join_step : (u i : ℕ) → Spelled r o 0 0 n (a ++ hole p m ∷ hole u i ∷ b) n → total (a ++ hole p m ∷ hole u i ∷ b) ≤ n
      → q p ≡ m + i + hole_mark → q (p + 2) ≡ first_or b n
      → (0 < holes b → q (first_or b n + 3) ≡ p) → (0 < total b → q (p + (m + i) + 1) ≡ p)
      → ((k : ℕ) → k < n → k ≢ p → k ≢ p + 2 → k ≢ first_or b n + 3 → k ≢ p + (m + i) + 1 → q k ≡ r k)
      → Spelled q o 0 0 n (a ++ hole p (m + i) ∷ b) n
  join_step u i s fits size next from_first from_after others =
      let front = front_part r o 0 0 n a (hole p m ∷ hole u i ∷ b) n s in
      let here = back_part r o 0 0 n a (hole p m ∷ hole u i ∷ b) n s in
      let place : p ≡ 0 + total a = here.0 in
      let long : 4 ≤ m = here.1.long in
      let there : u ≡ p + m = here.2.0 in
      let whole : total a + (m + (i + total b)) ≤ n = omega (arith, total-append a (hole p m ∷ hole u i ∷ b)) in
      let rest = moved r o (u + i) (p + (m + i)) u u b n (omega arith) here.2.2 in
      let earlier = λ (k : ℕ) (high : k < p + (m + i)) (inside : k < n). before_first r o n (p + (m + i)) u u b rest k high inside in
      both_parts q o 0 0 n a (hole p (m + i) ∷ b) n
      (kept r q o 0 0 n a p front
      (λ k low high. others k (omega arith) (λ e. absurd (omega arith)) (λ e. absurd (omega arith)) (earlier k (omega arith) (omega arith)) (λ e. absurd (omega arith)))) (
        here.0,
        record {
          long = omega arith;
          size = size;
          before = others (p + 1) (omega arith) (λ e. absurd (omega arith)) (λ e. absurd (omega arith)) (earlier (p + 1) (omega arith) (omega arith)) (λ e. absurd (omega arith)) ∙ here.1.before;
          next_is = next;
          prev_is = others (p + 3) (omega arith) (λ e. absurd (omega arith)) (λ e. absurd (omega arith)) (earlier (p + 3) (omega arith) (omega arith)) (λ e. absurd (omega arith)) ∙ here.1.prev_is;
        },
        relinked r q o (p + (m + i)) u p u p b n rest
            (λ k low high first but. others k (omega arith) (λ e. absurd (omega arith)) (λ e. absurd (omega arith)) (not_first n b k (omega arith) but) first)
            from_after from_first,
      )
