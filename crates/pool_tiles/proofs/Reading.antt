-- The words of a pool are read back as the tiling that they spell, and the object words of its blocks.
use Rattle.std.proofs.Common.{◌≡◌, ℕ, zero, suc, ◌+◌, ◌-◌, ◌*◌, ◌/◌, ◌%◌, ◌≤◌, ◌<◌, ◌^◌, Bool, true, false, List, [], ◌∷◌, length, refl, sym, ap, ◌∙◌, subst, arith, ◌⊎◌, inl, inr}
use Rattle.std.proofs.Math.Nat.{add-mul-mod_self_right, mod-eq_of_lt}
use Rattle.std.specs.Prelude.{nat_lt, if◌then◌else◌}
use Rattle.std.proofs.lemmas.Bool.Decides.{nat_tests}
use Rattle.pool_tiles.specs.Tiling.{Tile, hole, block, length_of}
use Rattle.pool_tiles.specs.Headers.{total, hole_mark, owner_unit, owner_limit, Spelled, word_at, tile_of, tile_at, tiles_from, tiles_of, Spells}

-- each tile has at least the words of a header
pub count_le-total : (r o : ℕ → ℕ) (at back prev : ℕ) (ts : List Tile) (next : ℕ) → Spelled r o at back prev ts next → length ts ≤ total ts
count_le-total r o at back prev [] next s = omega arith
count_le-total r o at back prev (hole p n ∷ ts) next s = let long = s.1.long in omega (arith, count_le-total r o (p + n) p p ts next s.2)
count_le-total r o at back prev (block p n w ∷ ts) next s = let long = s.1.long in omega (arith, count_le-total r o (p + n) p prev ts next s.2)

low_half : (n w : ℕ) → n < owner_unit → (n + w * owner_unit) % owner_unit ≡ n
low_half n w small = add-mul-mod_self_right n w owner_unit ∙ mod-eq_of_lt small

high_half : (n w : ℕ) → n < owner_unit → (n + w * owner_unit) / owner_unit ≡ w
high_half n w small = omega arith

pub hole_read : (words : List ℕ) (p n : ℕ) → word_at words p ≡ n + hole_mark → tile_at words p ≡ hole p n
hole_read words p n size =
    let far : nat_lt (n + hole_mark) hole_mark ≡ false = grind (arith, nat_tests) in
    let same : n + hole_mark - hole_mark ≡ n = omega arith in
    ap (tile_of p) size
    ∙ ap (λ (b : Bool). if b then block p ((n + hole_mark) % owner_unit) ((n + hole_mark) / owner_unit) else hole p (n + hole_mark - hole_mark)) far ∙ ap (hole p) same

pub block_read : (words : List ℕ) (p n w : ℕ) → word_at words p ≡ n + w * owner_unit → n < owner_unit → w < owner_limit → tile_at words p ≡ block p n w
block_read words p n w size small owned =
    let near : nat_lt (n + w * owner_unit) hole_mark ≡ true = grind (arith, nat_tests) in
    ap (tile_of p) size
    ∙ ap (λ (b : Bool). if b then block p ((n + w * owner_unit) % owner_unit) ((n + w * owner_unit) / owner_unit) else hole p (n + w * owner_unit - hole_mark)) near
    ∙ ap (λ (k : ℕ). block p k ((n + w * owner_unit) / owner_unit)) (low_half n w small) ∙ ap (block p n) (high_half n w small)

pub one_read : (words : List ℕ) (most at end : ℕ) (t : Tile) → at + 3 < end → tile_at words at ≡ t
    → tiles_from (suc most) at end words ≡ t ∷ tiles_from most (at + length_of t) end words
one_read words most at end t inside is =
    let more : nat_lt (at + 3) end ≡ true = grind (arith, nat_tests) in
    ap (λ (b : Bool). if b then tile_at words at ∷ tiles_from most (at + length_of (tile_at words at)) end words else []) more
    ∙ ap (λ (u : Tile). u ∷ tiles_from most (at + length_of u) end words) is

pub none_read : (words : List ℕ) (most at end : ℕ) → end ≤ at + 3 → tiles_from (suc most) at end words ≡ []
none_read words most at end past =
    let over : nat_lt (at + 3) end ≡ false = grind (arith, nat_tests) in
    ap (λ (b : Bool). if b then tile_at words at ∷ tiles_from most (at + length_of (tile_at words at)) end words else []) over

module _ (words : List ℕ) (end : ℕ) (few : end < 2 ^ 32) where
  pub read_from : (most at back prev : ℕ) (ts : List Tile) (next : ℕ) → Spelled (word_at words) (word_at words) at back prev ts next
      → at + total ts ≤ end → end ≤ at + total ts + 3 → length ts ≤ most → tiles_from most at end words ≡ ts
  read_from zero at back prev [] next s within over enough = refl
  read_from zero at back prev (t ∷ ts) next s within over enough = absurd (omega arith)
  read_from (suc most) at back prev [] next s within over enough = none_read words most at end (omega arith)
  read_from (suc most) at back prev (hole p n ∷ ts) next s within over enough =
      let here = s.0 in let long = s.1.long in
      one_read words most at end (hole p n) (omega arith) (subst (λ (k : ℕ). tile_at words k ≡ hole p n) here (hole_read words p n s.1.size))
      ∙ ap (λ us. hole p n ∷ us) (ap (λ (k : ℕ). tiles_from most (k + n) end words) (sym here) ∙ read_from most (p + n) p p ts next s.2 (omega arith) (omega arith) (omega arith))
  read_from (suc most) at back prev (block p n w ∷ ts) next s within over enough =
      let here = s.0 in let long = s.1.long in
      one_read words most at end (block p n w) (omega arith)
      (subst (λ (k : ℕ). tile_at words k ≡ block p n w) here (block_read words p n w s.1.size (omega arith) s.1.owned))
      ∙ ap (λ us. block p n w ∷ us) (ap (λ (k : ℕ). tiles_from most (k + n) end words) (sym here) ∙ read_from most (p + n) p prev ts next s.2 (omega arith) (omega arith) (omega arith))

pub few_or_more : (n : ℕ) → (n < 4) ⊎ (4 ≤ n)
few_or_more zero = inl (omega arith)
few_or_more (suc zero) = inl (omega arith)
few_or_more (suc (suc zero)) = inl (omega arith)
few_or_more (suc (suc (suc zero))) = inl (omega arith)
few_or_more (suc (suc (suc (suc n)))) = inr (omega arith)

-- the tiling that the words spell is the one that is read from them
pub read_back : (words : List ℕ) (first : ℕ) (ts : List Tile) → Spells words first ts → tiles_of words ≡ ts
unfolding tiles_of
read_back words first ts s =
    let few = s.few in let counted = count_le-total (word_at words) (word_at words) 0 0 (length words) ts (length words) s.spelled in
    elim (few_or_more (length words)) [
      | inl small ↦ let none = s.small small in let nothing : total ts ≡ 0 = ap total none in
          read_from words (length words) few (length words) 0 0 (length words) ts (length words) s.spelled (omega arith) (omega arith) (omega arith)
      | inr more ↦ let whole = s.whole more in
          read_from words (length words) few (length words) 0 0 (length words) ts (length words) s.spelled (omega arith) (omega arith) (omega arith)
    ]
