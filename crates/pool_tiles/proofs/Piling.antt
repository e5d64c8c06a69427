-- Blocks in a pile: one more is put on it, the newest are released, and words of one are written.
use Rattle.std.proofs.Common.{◌≡◌, ◌≢◌, ℕ, zero, suc, ◌+◌, ◌-◌, ◌*◌, ◌≤◌, ◌<◌, ◌^◌, Bool, List, [], ◌∷◌, ◌++◌, map, length, set, Some, None, append_assoc, refl, sym, ap, ◌∙◌, subst, arith, ◌⊎◌, inl, inr, length-set, get_or-set_same, get_or-set_other}
use Rattle.std.specs.Prelude.{◌==◌, if◌then◌else◌}
use Rattle.std.proofs.lemmas.Bool.{le-leb, lt-leb, lt-ltb, le-ltb}
use Rattle.pool_tiles.specs.Tiling.{Tile, hole, block, new_tiling, behind, pile, cut_exactly, rest_hole, merged, joined, let_go, closed, block_length, block_owner, IsTaken, HasWord}
use Rattle.pool_tiles.specs.Kept.{KeepsBlocks, KeepsWords, ZeroWords}
use Rattle.pool_tiles.specs.Headers.{total, owner_unit, owner_limit, word_at, tile_at, tiles_from}
use Rattle.pool_tiles.specs.Tiled.{user_word}
use Rattle.pool_tiles.specs.Piled.{Pile, last_hole, pile_tiles, blocks_of, Stacked, Piles, NoneOf, OnlyOf, OwnsFrom}
use Rattle.pool_tiles.proofs.Spelling.{total-append}
use Rattle.pool_tiles.proofs.Reading.{few_or_more, one_read, none_read, block_read}
use Rattle.pool_tiles.proofs.Objects.{same_or_not, none_or_some, length-here, length-behind}
use Rattle.pool_tiles.proofs.Owners.{owner-here, owner-behind, goes, keeps-closed}
use Rattle.pool_tiles.proofs.Closing.{none-same}
use Rattle.pool_tiles.proofs.Pools.{new-empty, new-whole}

module _ (r : ℕ → ℕ) where
  pub stacked_total : (at : ℕ) (bs : List Tile) (end : ℕ) → Stacked r at bs end → at + total bs ≡ end
  stacked_total at [] end s = omega arith
  stacked_total at (hole p n ∷ bs) end s = absurd s
  stacked_total at (block p n w ∷ bs) end s = let e = s.0 in let rest = stacked_total (p + n) bs end s.4 in omega arith

  stacked_count : (at : ℕ) (bs : List Tile) (end : ℕ) → Stacked r at bs end → length bs ≤ total bs
  stacked_count at [] end s = omega arith
  stacked_count at (hole p n ∷ bs) end s = absurd s
  stacked_count at (block p n w ∷ bs) end s = let long = s.1 in omega (arith, stacked_count (p + n) bs end s.4)

  -- a block lies within
  pub stacked_within : (at : ℕ) (bs : List Tile) (end q : ℕ) → Stacked r at bs end → 0 < block_length bs q
      → (at ≤ q) × (q + block_length bs q ≤ end) × (4 ≤ block_length bs q)
  stacked_within at [] end q s h = absurd (omega arith)
  stacked_within at (hole p n ∷ bs) end q s h = absurd s
  stacked_within at (block p n w ∷ bs) end q s h =
      let e = s.0 in let long = s.1 in
      elim (same_or_not p q) [
        | inl here ↦ let is = length-here p q n w bs here in let all = stacked_total (p + n) bs end s.4 in (omega arith, omega arith, omega arith)
        | inr away ↦ let is = length-behind p q n w bs away in
            let rest = stacked_within (p + n) bs end q s.4 (omega arith) in (omega (arith, rest.0), omega (arith, rest.1), omega (arith, rest.2))
      ]

  pub stacked_append : (at : ℕ) (a : List Tile) (mid : ℕ) (b : List Tile) (end : ℕ) → Stacked r at a mid → Stacked r mid b end → Stacked r at (a ++ b) end
  stacked_append at [] mid b end s t = subst (λ (k : ℕ). Stacked r k b end) (sym s) t
  stacked_append at (hole p n ∷ a) mid b end s t = absurd s
  stacked_append at (block p n w ∷ a) mid b end s t = (s.0, s.1, s.2, s.3, stacked_append (p + n) a mid b end s.4 t)

  pub stacked_front : (at : ℕ) (a b : List Tile) (end mid : ℕ) → Stacked r at (a ++ b) end → at + total a ≡ mid → Stacked r at a mid
  stacked_front at [] b end mid s e = omega arith
  stacked_front at (hole p n ∷ a) b end mid s e = absurd s
  stacked_front at (block p n w ∷ a) b end mid s e =
      let here = s.0 in (s.0, s.1, s.2, s.3, stacked_front (p + n) a b end mid s.4 (omega arith))

module _ (r q : ℕ → ℕ) where
  pub stacked_kept : (at : ℕ) (bs : List Tile) (end : ℕ) → Stacked r at bs end → ((k : ℕ) → at ≤ k → k < end → q k ≡ r k) → Stacked q at bs end
  stacked_kept at [] end s same = s
  stacked_kept at (hole p n ∷ bs) end s same = absurd s
  stacked_kept at (block p n w ∷ bs) end s same =
      let here = s.0 in let long = s.1 in let all = stacked_total r (p + n) bs end s.4 in
      (s.0, s.1, s.2, same p (omega arith) (omega arith) ∙ s.3, stacked_kept (p + n) bs end s.4 (λ k low high. same k (omega arith) high))

  -- where words of one block are written behind its first two
  pub stacked_written : (at : ℕ) (bs : List Tile) (end place : ℕ) → Stacked r at bs end → 0 < block_length bs place
      → ((k : ℕ) → (k < place + 2) ⊎ (place + block_length bs place ≤ k) → q k ≡ r k) → Stacked q at bs end
  stacked_written at [] end place s some same = absurd (omega arith)
  stacked_written at (hole p n ∷ bs) end place s some same = absurd s
  stacked_written at (block p n w ∷ bs) end place s some same =
      let here = s.0 in let long = s.1 in
      elim (same_or_not p place) [
        | inl it ↦ let is = length-here p place n w bs it in
            (s.0, s.1, s.2, same p (inl (omega arith)) ∙ s.3, stacked_kept (p + n) bs end s.4 (λ k low high. same k (inr (omega arith))))
        | inr away ↦ let is = length-behind p place n w bs away in let more : 0 < block_length bs place = omega arith in
            let within = stacked_within r (p + n) bs end place s.4 more in (
              s.0,
              s.1,
              s.2,
              same p (inl (omega (arith, within.0))) ∙ s.3,
              stacked_written (p + n) bs end place s.4 more (λ k out. same k (elim out [ inl low ↦ inl low | inr high ↦ inr (omega arith) ])),
            )
      ]

-- two blocks have no word in common
pub stacked_apart : (r : ℕ → ℕ) (at : ℕ) (bs : List Tile) (end p q : ℕ) → Stacked r at bs end → 0 < block_length bs p → 0 < block_length bs q → p ≢ q
    → (p + block_length bs p ≤ q) ⊎ (q + block_length bs q ≤ p)
stacked_apart r at [] end p q s hp hq ne = absurd (omega arith)
stacked_apart r at (hole k n ∷ bs) end p q s hp hq ne = absurd s
stacked_apart r at (block k n w ∷ bs) end p q s hp hq ne =
    elim (same_or_not k p) [
      | inl here ↦ let is = length-here k p n w bs here in
          let other : k ≢ q = λ e. ne (sym here ∙ e) in let far = length-behind k q n w bs other in
          let within = stacked_within r (k + n) bs end q s.4 (omega arith) in inl (omega (arith, within.0))
      | inr behind_p ↦ let is = length-behind k p n w bs behind_p in let some : 0 < block_length bs p = omega arith in
          elim (same_or_not k q) [
            | inl there ↦ let is_q = length-here k q n w bs there in
                let within = stacked_within r (k + n) bs end p s.4 some in inr (omega (arith, within.0))
            | inr beyond ↦ let is_q = length-behind k q n w bs beyond in let some_q : 0 < block_length bs q = omega arith in
                elim (stacked_apart r (k + n) bs end p q s.4 some some_q ne) [ inl x ↦ inl (omega arith) | inr x ↦ inr (omega arith) ]
          ]
    ]

stacked_from : (words : List ℕ) (end most at : ℕ) (bs : List Tile) → end < 2 ^ 32 → Stacked (λ k. word_at words k) at bs end → length bs ≤ most → tiles_from most at end words ≡ bs
stacked_from words end zero at [] few s enough = refl
stacked_from words end zero at (t ∷ bs) few s enough = absurd (omega arith)
stacked_from words end (suc most) at [] few s enough = none_read words most at end (omega arith)
stacked_from words end (suc most) at (hole p n ∷ bs) few s enough = absurd s
stacked_from words end (suc most) at (block p n w ∷ bs) few s enough =
    let here = s.0 in let long = s.1 in let all = stacked_total (λ k. word_at words k) (p + n) bs end s.4 in
    one_read words most at end (block p n w) (omega arith)
    (subst (λ (k : ℕ). tile_at words k ≡ block p n w) here (block_read words p n w s.3 (omega arith) s.2))
    ∙ ap (λ us. block p n w ∷ us) (ap (λ (k : ℕ). tiles_from most (k + n) end words) (sym here) ∙ stacked_from words end most (p + n) bs few s.4 (omega arith))

-- the blocks that are read are those whose headers are there
pub stacked_read : (words : List ℕ) (cursor : ℕ) (bs : List Tile) → Piles words cursor bs → blocks_of cursor words ≡ bs
unfolding blocks_of
stacked_read words cursor bs s =
    let few = s.few in let within = s.within in let all = stacked_total (λ k. word_at words k) 0 bs cursor s.stacked in
    stacked_from words cursor cursor 0 bs (omega arith) s.stacked (omega (arith, stacked_count (λ k. word_at words k) 0 bs cursor s.stacked))

pub piles_read : (words : List ℕ) (cursor : ℕ) (bs : List Tile) → Piles words cursor bs → Piles words cursor (blocks_of cursor words) × (blocks_of cursor words ≡ bs)
piles_read words cursor bs s = let is = stacked_read words cursor bs s in (subst (Piles words cursor) (sym is) s, is)

-- no hole is among them
abbrev pub AllBlocks : List Tile → Type 0
AllBlocks [] = Unit {0}
AllBlocks (hole p n ∷ ts) = ⊥
AllBlocks (block p n w ∷ ts) = AllBlocks ts

pub stacked_blocks : (r : ℕ → ℕ) (at : ℕ) (bs : List Tile) (end : ℕ) → Stacked r at bs end → AllBlocks bs
stacked_blocks r at [] end s = tt
stacked_blocks r at (hole p n ∷ bs) end s = s
stacked_blocks r at (block p n w ∷ bs) end s = stacked_blocks r (p + n) bs end s.4

pile-some : (w n : ℕ) (a : List Tile) (p m : ℕ) → AllBlocks a → n ≤ m → pile w n (a ++ hole p m ∷ []) ≡ Some (p, a ++ (cut_exactly w n p m ++ []))
pile-some w n [] p m all long =
    ap (λ (t : Bool). if t then Some (p, cut_exactly w n p m ++ []) else behind (hole p m) (pile w n [])) (le-leb n m long)
pile-some w n (hole q k ∷ a) p m all long = absurd all
pile-some w n (block q k v ∷ a) p m all long = ap (behind (block q k v)) (pile-some w n a p m all long)

pile-short : (w n : ℕ) (a : List Tile) (p m : ℕ) → AllBlocks a → m < n → pile w n (a ++ hole p m ∷ []) ≡ None
pile-short w n [] p m all short =
    ap (λ (t : Bool). if t then Some (p, cut_exactly w n p m ++ []) else behind (hole p m) (pile w n [])) (lt-leb n m short)
pile-short w n (hole q k ∷ a) p m all short = absurd all
pile-short w n (block q k v ∷ a) p m all short = ap (behind (block q k v)) (pile-short w n a p m all short)

pile-none : (w n : ℕ) (a : List Tile) → AllBlocks a → pile w n (a ++ []) ≡ None
pile-none w n [] all = refl
pile-none w n (hole q k ∷ a) all = absurd all
pile-none w n (block q k v ∷ a) all = ap (behind (block q k v)) (pile-none w n a all)

rest-some : (p n : ℕ) → 0 < n → rest_hole p n ≡ hole p n ∷ []
rest-some p zero some = absurd (omega arith)
rest-some p (suc n) some = refl

last-few : (n c : ℕ) → n < 4 → last_hole n c ≡ []
last-few n c few = ap (λ (b : Bool). if b then [] else rest_hole c (n - c)) (lt-ltb n 4 few)

last-more : (n c : ℕ) → 4 ≤ n → last_hole n c ≡ rest_hole c (n - c)
last-more n c more = ap (λ (b : Bool). if b then [] else rest_hole c (n - c)) (le-ltb n 4 more)

-- a request that fits at the cursor, and one that does not
pub piled : (w k n c : ℕ) (bs : List Tile) → AllBlocks bs → 4 ≤ k → c + k ≤ n → pile w k (bs ++ last_hole n c) ≡ Some (c, (bs ++ block c k w ∷ []) ++ last_hole n (c + k))
piled w k n c bs all long fits =
    let less : n - c - k ≡ n - (c + k) = omega arith in
    ap (λ ts. pile w k (bs ++ ts)) (last-more n c (omega arith) ∙ rest-some c (n - c) (omega arith)) ∙ pile-some w k bs c (n - c) all (omega arith)
    ∙ ap (λ ts. Some (c, bs ++ block c k w ∷ ts)) (none_after (rest_hole (c + k) (n - c - k)) ∙ ap (rest_hole (c + k)) less ∙ sym (last-more n (c + k) (omega arith)))
    ∙ ap (λ ts. Some (c, ts)) (sym (append_assoc bs (block c k w ∷ []) (last_hole n (c + k))))
  where
    none_after : (ts : List Tile) → ts ++ [] ≡ ts
    none_after [] = refl
    none_after (t ∷ ts) = ap (λ us. t ∷ us) (none_after ts)

pub not_piled : (w k n c : ℕ) (bs : List Tile) → AllBlocks bs → 4 ≤ k → c ≤ n → n < c + k → pile w k (bs ++ last_hole n c) ≡ None
not_piled w k n c bs all long within short =
    elim (few_or_more n) [
      | inl few ↦ ap (λ ts. pile w k (bs ++ ts)) (last-few n c few) ∙ pile-none w k bs all
      | inr more ↦ ap (λ ts. pile w k (bs ++ ts)) (last-more n c more)
          ∙ elim (none_or_some (n - c)) [
            | inl none ↦ ap (λ (m : ℕ). pile w k (bs ++ rest_hole c m)) none ∙ pile-none w k bs all
            | inr some ↦ ap (λ ts. pile w k (bs ++ ts)) (rest-some c (n - c) some) ∙ pile-short w k bs c (n - c) all (omega arith)
          ]
    ]

-- the hole behind them has no block
length-rest : (p n q : ℕ) → block_length (rest_hole p n) q ≡ 0
length-rest p zero q = refl
length-rest p (suc n) q = refl

owner-rest : (p n q : ℕ) → block_owner (rest_hole p n) q ≡ 0
owner-rest p zero q = refl
owner-rest p (suc n) q = refl

length-last : (n c q : ℕ) → block_length (last_hole n c) q ≡ 0
length-last n c q =
    elim (few_or_more n) [
      | inl few ↦ ap (λ ts. block_length ts q) (last-few n c few)
      | inr more ↦ ap (λ ts. block_length ts q) (last-more n c more) ∙ length-rest c (n - c) q
    ]

owner-last : (n c q : ℕ) → block_owner (last_hole n c) q ≡ 0
owner-last n c q =
    elim (few_or_more n) [
      | inl few ↦ ap (λ ts. block_owner ts q) (last-few n c few)
      | inr more ↦ ap (λ ts. block_owner ts q) (last-more n c more) ∙ owner-rest c (n - c) q
    ]

-- what comes behind a block doesn't hide it, and what has no block adds none
length-front : (a b : List Tile) (q : ℕ) → 0 < block_length a q → block_length (a ++ b) q ≡ block_length a q
length-front [] b q some = absurd (omega arith)
length-front (hole p n ∷ a) b q some = length-front a b q some
length-front (block p n w ∷ a) b q some =
    elim (same_or_not p q) [
      | inl here ↦ length-here p q n w (a ++ b) here ∙ sym (length-here p q n w a here)
      | inr away ↦ let is = length-behind p q n w a away in length-behind p q n w (a ++ b) away ∙ length-front a b q (omega arith) ∙ sym is
    ]

owner-front : (a b : List Tile) (q : ℕ) → 0 < block_length a q → block_owner (a ++ b) q ≡ block_owner a q
owner-front [] b q some = absurd (omega arith)
owner-front (hole p n ∷ a) b q some = owner-front a b q some
owner-front (block p n w ∷ a) b q some =
    elim (same_or_not p q) [
      | inl here ↦ owner-here p q n w (a ++ b) here ∙ sym (owner-here p q n w a here)
      | inr away ↦ let is = length-behind p q n w a away in owner-behind p q n w (a ++ b) away ∙ owner-front a b q (omega arith) ∙ sym (owner-behind p q n w a away)
    ]

-- each block has words
abbrev pub AllLong : List Tile → Type 0
AllLong [] = Unit {0}
AllLong (hole p n ∷ ts) = AllLong ts
AllLong (block p n w ∷ ts) = (0 < n) × AllLong ts

stacked_long : (r : ℕ → ℕ) (at : ℕ) (bs : List Tile) (end : ℕ) → Stacked r at bs end → AllLong bs
stacked_long r at [] end s = tt
stacked_long r at (hole p n ∷ bs) end s = absurd s
stacked_long r at (block p n w ∷ bs) end s = let long = s.1 in (omega arith, stacked_long r (p + n) bs end s.4)

pub length-back : (a b : List Tile) (q : ℕ) → block_length a q ≡ 0 → AllLong a → block_length (a ++ b) q ≡ block_length b q
length-back [] b q none long = refl
length-back (hole p n ∷ a) b q none long = length-back a b q none long
length-back (block p n w ∷ a) b q none long =
    elim (same_or_not p q) [
      | inl here ↦ let is = length-here p q n w a here in let some = long.0 in absurd (omega arith)
      | inr away ↦ length-behind p q n w (a ++ b) away ∙ length-back a b q (sym (length-behind p q n w a away) ∙ none) long.1
    ]

-- the blocks of a pile and its tiling name the same
pub length-pile : (r : ℕ → ℕ) (bs : List Tile) (end n c q : ℕ) → Stacked r 0 bs end → block_length (bs ++ last_hole n c) q ≡ block_length bs q
length-pile r bs end n c q s =
    elim (none_or_some (block_length bs q)) [
      | inl none ↦ length-back bs (last_hole n c) q none (stacked_long r 0 bs end s) ∙ length-last n c q ∙ sym none
      | inr some ↦ length-front bs (last_hole n c) q some
    ]

-- no block begins at the cursor
pub cursor_free : (r : ℕ → ℕ) (bs : List Tile) (end : ℕ) → Stacked r 0 bs end → block_length bs end ≡ 0
cursor_free r bs end s =
    elim (none_or_some (block_length bs end)) [
      | inl none ↦ none
      | inr some ↦ let within = stacked_within r 0 bs end end s some in absurd (omega (arith, within.1))
    ]

-- a block that is put on them keeps the others
pub keeps-pile : (r : ℕ → ℕ) (bs more : List Tile) (end n c d : ℕ) → Stacked r 0 bs end
    → KeepsBlocks (λ _. Unit {0}) (bs ++ last_hole n c) ((bs ++ more) ++ last_hole n d)
keeps-pile r bs more end n c d s q taken always =
    let some : 0 < block_length bs q = subst (λ (k : ℕ). 0 < k) (length-pile r bs end n c q s) taken in (
      ap (λ ts. block_length ts q) (append_assoc bs more (last_hole n d)) ∙ length-front bs (more ++ last_hole n d) q some ∙ sym (length-pile r bs end n c q s),
      ap (λ ts. block_owner ts q) (append_assoc bs more (last_hole n d)) ∙ owner-front bs (more ++ last_hole n d) q some ∙ sym (owner-front bs (last_hole n c) q some),
    )

-- holes one after another become one
merged-only : (r : ℕ → ℕ) (w at : ℕ) (bs : List Tile) (end n : ℕ) → Stacked r at bs end → OnlyOf w bs → end ≤ n → merged (map (let_go w) bs ++ rest_hole end (n - end)) ≡ rest_hole at (n - at)
merged-only r w at [] end n s only within = merged_rest end (n - end) ∙ ap (λ (k : ℕ). rest_hole k (n - k)) (sym s)
  where
    merged_rest : (p k : ℕ) → merged (rest_hole p k) ≡ rest_hole p k
    merged_rest p zero = refl
    merged_rest p (suc k) = refl
merged-only r w at (hole p m ∷ bs) end n s only within = absurd s
merged-only r w at (block p m v ∷ bs) end n s only within =
    let here = s.0 in let long = s.1 in let all = stacked_total r (p + m) bs end s.4 in
    ap (λ (t : Tile). joined t (merged (map (let_go w) bs ++ rest_hole end (n - end)))) (goes w p m v only.0)
    ∙ ap (joined (hole p m)) (merged-only r w (p + m) bs end n s.4 only.1 within)
    ∙ join_rest p m (n - (p + m)) (n - at) (omega arith) (omega arith) ∙ ap (λ (k : ℕ). rest_hole k (n - at)) here
  where
    join_rest : (p m k l : ℕ) → l ≡ m + k → 0 < m → joined (hole p m) (rest_hole (p + m) k) ≡ rest_hole p l
    join_rest p m zero l e some = sym (rest-some p m some) ∙ ap (rest_hole p) (omega arith)
    join_rest p m (suc k) l e some = sym (rest-some p (m + suc k) (omega arith)) ∙ ap (rest_hole p) (sym e)

merged-blocks : (a ts : List Tile) → AllBlocks a → merged (a ++ ts) ≡ a ++ merged ts
merged-blocks [] ts all = refl
merged-blocks (hole p m ∷ a) ts all = absurd all
merged-blocks (block p m w ∷ a) ts all = ap (λ us. block p m w ∷ us) (merged-blocks a ts all)

map-append : (f : Tile → Tile) (a b : List Tile) → map f (a ++ b) ≡ map f a ++ map f b
map-append f [] b = refl
map-append f (t ∷ a) b = ap (λ us. f t ∷ us) (map-append f a b)

map-rest : (w p n : ℕ) → map (let_go w) (rest_hole p n) ≡ rest_hole p n
map-rest w p zero = refl
map-rest w p (suc n) = refl

-- closing an owner releases its blocks
pub closed-pile : (r : ℕ → ℕ) (w mid end n : ℕ) (a b : List Tile) → Stacked r 0 (a ++ b) end → total a ≡ mid → NoneOf w a → OnlyOf w b → end ≤ n
    → a ++ last_hole n mid ≡ closed w ((a ++ b) ++ last_hole n end)
closed-pile r w mid end n a b s sum none only within =
    let front = stacked_front r 0 a b end mid s (omega arith) in let all = stacked_blocks r 0 a mid front in
    let back = stacked_back r a b end s in
    sym (
    elim (few_or_more n) [
      | inl few ↦
          let long = stacked_long r 0 (a ++ b) end s in
          let empty : a ++ b ≡ [] = no_words r 0 (a ++ b) end s (omega arith) in
          let a_is : a ≡ [] = front_empty a b empty in
          ap (λ ts. closed w (ts ++ last_hole n end)) empty ∙ ap (closed w) (last-few n end few) ∙ sym (last-few n mid few) ∙ ap (λ ts. ts ++ last_hole n mid) (sym a_is)
      | inr more ↦
          ap (λ ts. closed w ((a ++ b) ++ ts)) (last-more n end more) ∙ ap (closed w) (append_assoc a b (rest_hole end (n - end)))
          ∙ ap merged (map-append (let_go w) a (b ++ rest_hole end (n - end)) ∙ ap (λ us. us ++ map (let_go w) (b ++ rest_hole end (n - end))) (none-same w a none))
          ∙ merged-blocks a (map (let_go w) (b ++ rest_hole end (n - end))) all
          ∙ ap (λ ts. a ++ merged ts) (map-append (let_go w) b (rest_hole end (n - end)) ∙ ap (λ us. map (let_go w) b ++ us) (map-rest w end (n - end)))
          ∙ ap (λ ts. a ++ ts) (merged-only r w (total a) b end n back only within ∙ ap (λ (k : ℕ). rest_hole k (n - k)) sum ∙ sym (last-more n mid more))
    ])
  where
    stacked_back : (r : ℕ → ℕ) (a b : List Tile) (end : ℕ) → Stacked r 0 (a ++ b) end → Stacked r (total a) b end
    stacked_back r a b end s = subst (λ (k : ℕ). Stacked r k b end) (omega arith) (go r 0 a b end s)
      where
        go : (r : ℕ → ℕ) (at : ℕ) (a b : List Tile) (end : ℕ) → Stacked r at (a ++ b) end → Stacked r (at + total a) b end
        go r at [] b end s = subst (λ (k : ℕ). Stacked r k b end) (omega arith) s
        go r at (hole p m ∷ a) b end s = absurd s
        go r at (block p m v ∷ a) b end s = let here = s.0 in subst (λ (k : ℕ). Stacked r k b end) (omega arith) (go r (p + m) a b end s.4)

    no_words : (r : ℕ → ℕ) (at : ℕ) (bs : List Tile) (end : ℕ) → Stacked r at bs end → end < at + 4 → bs ≡ []
    no_words r at [] end s few = refl
    no_words r at (hole p m ∷ bs) end s few = absurd s
    no_words r at (block p m v ∷ bs) end s few = let here = s.0 in let long = s.1 in let all = stacked_total r (p + m) bs end s.4 in absurd (omega arith)

    front_empty : (a b : List Tile) → a ++ b ≡ [] → a ≡ []
    front_empty [] b e = refl
    front_empty (t ∷ a) b e = absurd (let z : t ∷ (a ++ b) ≡ [] = e in cc)

-- the pile whose words these are
abbrev pub as_pile : ℕ → List ℕ → Pile
as_pile cursor words = record { blocks = blocks_of cursor words; words = words }

-- its hole begins at the cursor
pub tiles_are : (words : List ℕ) (cursor : ℕ) (bs : List Tile) → Piles words cursor bs → bs ++ last_hole (length words) (total bs) ≡ bs ++ last_hole (length words) cursor
tiles_are words cursor bs s =
    let all = stacked_total (λ k. word_at words k) 0 bs cursor s.stacked in ap (λ (k : ℕ). bs ++ last_hole (length words) k) (omega arith)

pub total_is : (words : List ℕ) (cursor : ℕ) (p : Pile) → Piles words cursor (blocks_of cursor words) → as_pile cursor words ≡ p → cursor ≡ total p.blocks
total_is words cursor p s view =
    let all = stacked_total (λ k. word_at words k) 0 (blocks_of cursor words) cursor s.stacked in
    let same : cursor ≡ total (blocks_of cursor words) = omega arith in same ∙ ap (λ (q : Pile). total q.blocks) view

-- a new pile
pub new_pile : (words : List ℕ) (n : ℕ) → length words ≡ n → n < 2 ^ 32 → Piles words 0 []
new_pile words n long few = record { stacked = refl; within = omega arith; few = omega arith }

pub new_tiles : (words : List ℕ) (n : ℕ) → length words ≡ n → n < 2 ^ 32 → pile_tiles (as_pile 0 words) ≡ new_tiling n
new_tiles words n long few =
    ap (λ ts. ts ++ last_hole (length words) (total ts)) (stacked_read words 0 [] (new_pile words n long few)) ∙ ap (λ (k : ℕ). last_hole k 0) long
    ∙ elim (few_or_more n) [
      | inl small ↦ last-few n 0 small ∙ sym (new-empty n small)
      | inr more ↦ last-more n 0 more ∙ rest-some 0 (n - 0) (omega arith) ∙ ap (λ (k : ℕ). hole 0 k ∷ []) (omega arith) ∙ sym (new-whole n more)
    ]

-- a request that is refused
pub refused_at : (words : List ℕ) (cursor : ℕ) (p : Pile) (w k : ℕ) → Piles words cursor (blocks_of cursor words) → as_pile cursor words ≡ p → 4 ≤ k → length words < cursor + k
    → pile w k (pile_tiles p) ≡ None
refused_at words cursor p w k s view long short =
    let bs = blocks_of cursor words in
    ap (λ (q : Pile). pile w k (pile_tiles q)) (sym view) ∙ ap (pile w k) (tiles_are words cursor bs s)
    ∙ not_piled w k (length words) cursor bs (stacked_blocks (λ k. word_at words k) 0 bs cursor s.stacked) long s.within short

length-beside : (bs : List Tile) (c k w q : ℕ) → q ≢ c → block_length (bs ++ block c k w ∷ []) q ≡ block_length bs q
length-beside [] c k w q ne = length-behind c q k w [] (λ e. ne (sym e))
length-beside (hole p n ∷ bs) c k w q ne = length-beside bs c k w q ne
length-beside (block p n v ∷ bs) c k w q ne = ap (λ (l : ℕ). if p == q then n else l) (length-beside bs c k w q ne)

-- one block more is on the pile
pub record Taken (words : List ℕ) (cursor : ℕ) (p : Pile) (w k : ℕ) (after : List ℕ) : Type 0 where
  pub piles : Piles after (cursor + k) (blocks_of (cursor + k) after)
  pub blocks : blocks_of (cursor + k) after ≡ p.blocks ++ block cursor k w ∷ []
  pub taken : pile w k (pile_tiles p) ≡ Some (cursor, pile_tiles (as_pile (cursor + k) after))
  pub room : k ≤ block_length (pile_tiles (as_pile (cursor + k) after)) cursor
  pub fresh : block_length (pile_tiles p) cursor ≡ 0
  pub stay : KeepsBlocks (λ _. Unit {0}) (pile_tiles p) (pile_tiles (as_pile (cursor + k) after))
  pub zero_words : ZeroWords (pile_tiles (as_pile (cursor + k) after)) (user_word after) cursor
  pub kept : KeepsWords (λ other _. other ≢ cursor) (pile_tiles (as_pile (cursor + k) after)) (user_word p.words) (user_word after)

module _ (words : List ℕ) (cursor : ℕ) (w k : ℕ) (after : List ℕ) (s : Piles words cursor (blocks_of cursor words))
    (long : 4 ≤ k) (number : w < owner_limit) (fits : cursor + k ≤ length words) (as_long : length after ≡ length words)
    (header : word_at after cursor ≡ k + w * owner_unit) (zeroes : (i : ℕ) → cursor + 2 ≤ i → i < cursor + k → word_at after i ≡ 0)
    (others : (i : ℕ) → i < cursor → word_at after i ≡ word_at words i) where
  abbrev bs : List Tile
  bs = blocks_of cursor words

  abbrev r : ℕ → ℕ
  r = λ i. word_at words i

  abbrev n : ℕ
  n = length words

  put_on : Piles after (cursor + k) (bs ++ block cursor k w ∷ [])
  put_on = let few = s.few in record {
    stacked = stacked_append (λ i. word_at after i) 0 bs cursor (block cursor k w ∷ []) (cursor + k)
        (stacked_kept r (λ i. word_at after i) 0 bs cursor s.stacked (λ i low high. others i high)) (refl, long, number, header, refl);
    within = omega arith;
    few = omega arith;
  }

  is_put : blocks_of (cursor + k) after ≡ bs ++ block cursor k w ∷ []
  is_put = stacked_read after (cursor + k) (bs ++ block cursor k w ∷ []) put_on

  tiles_then : pile_tiles (as_pile (cursor + k) after) ≡ (bs ++ block cursor k w ∷ []) ++ last_hole n (cursor + k)
  tiles_then =
      ap (λ ts. ts ++ last_hole (length after) (total ts)) is_put ∙ tiles_are after (cursor + k) (bs ++ block cursor k w ∷ []) put_on
      ∙ ap (λ (m : ℕ). (bs ++ block cursor k w ∷ []) ++ last_hole m (cursor + k)) as_long

  tiles_now : pile_tiles (as_pile cursor words) ≡ bs ++ last_hole n cursor
  tiles_now = tiles_are words cursor bs s

  length_then : (q : ℕ) → block_length (pile_tiles (as_pile (cursor + k) after)) q ≡ block_length (bs ++ block cursor k w ∷ []) q
  length_then q = ap (λ ts. block_length ts q) tiles_then ∙ length-pile (λ i. word_at after i) (bs ++ block cursor k w ∷ []) (cursor + k) n (cursor + k) q put_on.stacked

  length_here : block_length (pile_tiles (as_pile (cursor + k) after)) cursor ≡ k
  length_here =
      length_then cursor ∙ length-back bs (block cursor k w ∷ []) cursor (cursor_free r bs cursor s.stacked) (stacked_long r 0 bs cursor s.stacked)
      ∙ length-here cursor cursor k w [] refl

  taken_now : Taken words cursor (as_pile cursor words) w k after
  taken_now = record {
    piles = subst (Piles after (cursor + k)) (sym is_put) put_on;
    blocks = is_put;
    taken = ap (pile w k) tiles_now ∙ piled w k n cursor bs (stacked_blocks r 0 bs cursor s.stacked) long fits ∙ ap (λ ts. Some (cursor, ts)) (sym tiles_then);
    room = let is = length_here in omega arith;
    fresh = ap (λ ts. block_length ts cursor) tiles_now ∙ length-pile r bs cursor n cursor cursor s.stacked ∙ cursor_free r bs cursor s.stacked;
    stay = subst (λ ts. KeepsBlocks (λ _. Unit {0}) ts (pile_tiles (as_pile (cursor + k) after))) (sym tiles_now)
        (subst (KeepsBlocks (λ _. Unit {0}) (bs ++ last_hole n cursor)) (sym tiles_then) (keeps-pile r bs (block cursor k w ∷ []) cursor n cursor (cursor + k) s.stacked));
    zero_words = λ i has. let is = length_here in zeroes (cursor + 2 + i) (omega arith) (omega arith);
    kept = λ q i has ne.
        let is : block_length (pile_tiles (as_pile (cursor + k) after)) q ≡ block_length bs q = length_then q ∙ length-beside bs cursor k w q ne in
        let within = stacked_within r 0 bs cursor q s.stacked (omega arith) in
        others (q + 2 + i) (omega (arith, within.1));
  }

  pub take_told : (p : Pile) → as_pile cursor words ≡ p → Taken words cursor p w k after
  take_told p view = subst (λ (q : Pile). Taken words cursor q w k after) view taken_now

-- the newest blocks are released
pub record Released (words : List ℕ) (cursor : ℕ) (p : Pile) (place w : ℕ) : Type 0 where
  pub piles : Piles words place (blocks_of place words)
  pub tiles : pile_tiles (as_pile place words) ≡ closed w (pile_tiles p)
  pub blocks : (a b : List Tile) → p.blocks ≡ a ++ b → total a ≡ place → blocks_of place words ≡ a
  pub stay : KeepsBlocks (λ other. block_owner (pile_tiles p) other ≢ w) (pile_tiles p) (pile_tiles (as_pile place words))

module _ (words : List ℕ) (cursor : ℕ) (s : Piles words cursor (blocks_of cursor words)) (place w : ℕ) where
  set_back : (a b : List Tile) → blocks_of cursor words ≡ a ++ b → total a ≡ place → Piles words place a × (place ≤ cursor)
  set_back a b is sum =
      let t = subst (λ ts. Stacked (λ i. word_at words i) 0 ts cursor) is s.stacked in
      let all = stacked_total (λ i. word_at words i) 0 (a ++ b) cursor t in let parts = total-append a b in
      let few = s.few in let within = s.within in (
        record { stacked = stacked_front (λ i. word_at words i) 0 a b cursor place t (omega arith); within = omega arith; few = few },
        omega arith,
      )

  released_now : OwnsFrom w place (blocks_of cursor words) → Released words cursor (as_pile cursor words) place w
  released_now o =
      let a = o.earlier in let b = o.later in
      let back = (set_back a b o.is o.sum).0 in let is = stacked_read words place a back in
      let t = subst (λ ts. Stacked (λ i. word_at words i) 0 ts cursor) o.is s.stacked in
      let tiles_is : pile_tiles (as_pile place words) ≡ closed w (pile_tiles (as_pile cursor words)) =
      ap (λ ts. ts ++ last_hole (length words) (total ts)) is ∙ tiles_are words place a back
      ∙ closed-pile (λ i. word_at words i) w place cursor (length words) a b t o.sum o.none o.only s.within
      ∙ ap (λ ts. closed w (ts ++ last_hole (length words) cursor)) (sym o.is) ∙ ap (closed w) (sym (tiles_are words cursor (blocks_of cursor words) s)) in
      record {
        piles = subst (Piles words place) (sym is) back;
        tiles = tiles_is;
        blocks = λ c d e sum. stacked_read words place c (set_back c d e sum).0;
        stay = subst (KeepsBlocks (λ other. block_owner (pile_tiles (as_pile cursor words)) other ≢ w) (pile_tiles (as_pile cursor words))) (sym tiles_is)
            (keeps-closed w (pile_tiles (as_pile cursor words)));
      }

  pub release_told : (p : Pile) → as_pile cursor words ≡ p → OwnsFrom w place p.blocks → Released words cursor p place w
  release_told p view o = subst (λ (q : Pile). Released words cursor q place w) view (released_now (subst (λ (q : Pile). OwnsFrom w place q.blocks) (sym view) o))

-- where a user's word lies
pub record Inside (words : List ℕ) (at : ℕ) : Type 0 where
  pub within : at < length words
  pub few : length words < 2 ^ 32

pub word_inside : (words : List ℕ) (cursor : ℕ) (p : Pile) (place i at : ℕ) → Piles words cursor (blocks_of cursor words) → as_pile cursor words ≡ p → at ≡ place + 2 + i
    → HasWord (pile_tiles p) place i → Inside words at
word_inside words cursor p place i at s view e has =
    let bs = blocks_of cursor words in
    let there : HasWord (bs ++ last_hole (length words) (total bs)) place i = subst (λ (q : Pile). HasWord (pile_tiles q) place i) (sym view) has in
    let is = length-pile (λ k. word_at words k) bs cursor (length words) (total bs) place s.stacked in
    let within = stacked_within (λ k. word_at words k) 0 bs cursor place s.stacked (omega arith) in
    let low = s.within in let end = within.1 in record { within = omega arith; few = s.few }

-- a link is there
link_now : (words : List ℕ) (cursor place which : ℕ) → Piles words cursor (blocks_of cursor words) → which < 2 → 0 < block_length (pile_tiles (as_pile cursor words)) place
    → HasWord (pile_tiles (as_pile cursor words)) place which
link_now words cursor place which s low some =
    let bs = blocks_of cursor words in
    let is = length-pile (λ k. word_at words k) bs cursor (length words) (total bs) place s.stacked in
    let within = stacked_within (λ k. word_at words k) 0 bs cursor place s.stacked (omega arith) in let long = within.2 in omega arith

pub link_there : (words : List ℕ) (cursor : ℕ) (p : Pile) (place which : ℕ) → Piles words cursor (blocks_of cursor words) → as_pile cursor words ≡ p
    → IsTaken (pile_tiles p) place × (which < 2) → HasWord (pile_tiles p) place which
link_there words cursor p place which s view r =
    subst (λ (q : Pile). IsTaken (pile_tiles q) place → HasWord (pile_tiles q) place which) view (λ some. link_now words cursor place which s r.1 some) r.0

-- a user's word is written
pub record Wrote (words : List ℕ) (cursor : ℕ) (p : Pile) (place i word : ℕ) (after : List ℕ) : Type 0 where
  pub piles : Piles after cursor (blocks_of cursor after)
  pub blocks : blocks_of cursor after ≡ p.blocks
  pub tiles : pile_tiles (as_pile cursor after) ≡ pile_tiles p
  pub written_is : user_word after place i ≡ word
  pub kept_words : KeepsWords (λ other j. (other ≡ place) × (j ≡ i) → ⊥) (pile_tiles (as_pile cursor after)) (user_word p.words) (user_word after)

write_now : (words : List ℕ) (cursor place i word : ℕ) (after : List ℕ) → Piles words cursor (blocks_of cursor words) → HasWord (pile_tiles (as_pile cursor words)) place i
    → after ≡ set words (place + 2 + i) word → Wrote words cursor (as_pile cursor words) place i word after
write_now words cursor place i word after s has e =
    let bs = blocks_of cursor words in let few = s.few in let within = s.within in
    let as_long : length after ≡ length words = ap length e ∙ length-set words (place + 2 + i) word in
    let others = λ (k : ℕ) (ne : k ≢ place + 2 + i). ap (λ (ws : List ℕ). word_at ws k) e ∙ get_or-set_other words (place + 2 + i) k word 0 ne in
    let inside = (word_inside words cursor (as_pile cursor words) place i (place + 2 + i) s refl refl has).within in
    let is = length-pile (λ k. word_at words k) bs cursor (length words) (total bs) place s.stacked in
    let some : 0 < block_length bs place = omega arith in
    let done : Piles after cursor bs = record {
      stacked = stacked_written (λ k. word_at words k) (λ k. word_at after k) 0 bs cursor place s.stacked some
          (λ k out. others k (λ e. elim out [ inl low ↦ absurd (omega arith) | inr high ↦ absurd (omega arith) ]));
      within = omega arith;
      few = omega arith;
    } in
    let same = stacked_read after cursor bs done in
    let tiles_same : pile_tiles (as_pile cursor after) ≡ pile_tiles (as_pile cursor words) =
    ap (λ ts. ts ++ last_hole (length after) (total ts)) same ∙ ap (λ (m : ℕ). bs ++ last_hole m (total bs)) as_long in
    record {
      piles = subst (Piles after cursor) (sym same) done;
      blocks = same;
      tiles = tiles_same;
      written_is = ap (λ (ws : List ℕ). word_at ws (place + 2 + i)) e ∙ get_or-set_same words (place + 2 + i) word 0 inside;
      kept_words = λ q j there ne. others (q + 2 + j) (λ e.
          let was : HasWord (pile_tiles (as_pile cursor words)) q j = subst (λ ts. HasWord ts q j) tiles_same there in
          let at_q = length-pile (λ k. word_at words k) bs cursor (length words) (total bs) q s.stacked in
          elim (same_or_not q place) [
            | inl it ↦ ne (it, omega arith)
            | inr away ↦ elim (stacked_apart (λ k. word_at words k) 0 bs cursor q place s.stacked (omega arith) some away) [
              | inl before ↦ absurd (omega arith)
              | inr behind_it ↦ absurd (omega arith)
            ]
          ]);
    }

pub wrote_told : (words : List ℕ) (cursor : ℕ) (p : Pile) (place i word at : ℕ) (after : List ℕ) → Piles words cursor (blocks_of cursor words) → as_pile cursor words ≡ p
    → after ≡ set words at word → at ≡ place + 2 + i → HasWord (pile_tiles p) place i → Wrote words cursor p place i word after
wrote_told words cursor p place i word at after s view is e has =
    subst (λ (q : Pile). Wrote words cursor q place i word after) view
    (write_now words cursor place i word after s (subst (λ (q : Pile). HasWord (pile_tiles q) place i) (sym view) has) (is ∙ ap (λ (k : ℕ). set words k word) e))

-- each block has a header
pub block_long : (words : List ℕ) (cursor : ℕ) (p : Pile) (place : ℕ) → Piles words cursor (blocks_of cursor words) → as_pile cursor words ≡ p → IsTaken (pile_tiles p) place
    → 4 ≤ block_length (pile_tiles p) place
block_long words cursor p place s view some =
    subst (λ (q : Pile). IsTaken (pile_tiles q) place → 4 ≤ block_length (pile_tiles q) place) view (λ some.
    let bs = blocks_of cursor words in
    let is = length-pile (λ k. word_at words k) bs cursor (length words) (total bs) place s.stacked in
    let within = stacked_within (λ k. word_at words k) 0 bs cursor place s.stacked (omega arith) in let long = within.2 in omega arith) some
