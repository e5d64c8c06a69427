-- A tiling has as many words as its pool, whatever blocks are cut and put back.

use Rattle.std.proofs.Common.{◌≡◌, ℕ, ◌+◌, ◌-◌, ◌<◌, ◌≤◌, Bool, true, false, List, [], ◌∷◌, ◌++◌, refl, sym, ap, ◌∙◌, arith, Option, Some, None, nat_lt}
use Rattle.std.specs.Prelude.{nat_le, ◌==◌, if◌then◌else◌}
use Rattle.std.proofs.lemmas.Bool.{lt-leb, leb-true}
use Rattle.pool_tiles.specs.Tiling.{Tile, hole, block, new_tiling, cut, fit, behind, freed, joined, merged, put_back}
use Rattle.pool_tiles.specs.Headers.{total}

pub total-append : (a b : List Tile) → total (a ++ b) ≡ total a + total b
total-append [] b = omega arith
total-append (hole p n ∷ a) b = let rest = total-append a b in omega (arith, rest)
total-append (block p n w ∷ a) b = let rest = total-append a b in omega (arith, rest)

total-more : (t : Tile) (ts us : List Tile) → total ts ≡ total us → total (t ∷ ts) ≡ total (t ∷ us)
total-more (hole p n) ts us e = omega arith
total-more (block p n w) ts us e = omega arith

total-joined : (t : Tile) (ts : List Tile) → total (joined t ts) ≡ total (t ∷ ts)
total-joined (hole p n) [] = refl
total-joined (hole p n) (hole q m ∷ ts) = omega arith
total-joined (hole p n) (block q m w ∷ ts) = refl
total-joined (block p n w) ts = refl

total-merged : (ts : List Tile) → total (merged ts) ≡ total ts
total-merged [] = refl
total-merged (t ∷ ts) = total-joined t (merged ts) ∙ total-more t (merged ts) ts (total-merged ts)

total-freed : (at : ℕ) (ts : List Tile) → total (freed at ts) ≡ total ts
total-freed at [] = refl
total-freed at (hole p n ∷ ts) = total-more (hole p n) (freed at ts) ts (total-freed at ts)
total-freed at (block p n w ∷ ts) = by_place (p == at) (total-freed at ts) where
  by_place : (here : Bool) → total (freed at ts) ≡ total ts → total (if here then hole p n ∷ ts else block p n w ∷ freed at ts) ≡ total (block p n w ∷ ts)
  by_place true rest = refl
  by_place false rest = total-more (block p n w) (freed at ts) ts rest

pub total-put_back : (at : ℕ) (ts : List Tile) → total (put_back at ts) ≡ total ts
total-put_back at ts = total-merged (freed at ts) ∙ total-freed at ts

total-cut : (owner n p m : ℕ) → n ≤ m → total (cut owner n p m) ≡ m
total-cut owner n p m long = by_rest (nat_lt m (n + 4)) where
  by_rest : (short : Bool) → total (if short then block p m owner ∷ [] else block p n owner ∷ hole (p + n) (m - n) ∷ []) ≡ m
  by_rest true = omega arith
  by_rest false = omega arith

-- the tiling that is found
abbrev found_tiles : Option (ℕ × List Tile) → List Tile
found_tiles None = []
found_tiles (Some found) = found.1

-- a block that was cut behind a tile
total-behind : (t : Tile) (ts : List Tile) (found : Option (ℕ × List Tile)) (here : ℕ × List Tile)
    → ((inner : ℕ × List Tile) → found ≡ Some inner → total inner.1 ≡ total ts) → behind t found ≡ Some here → total here.1 ≡ total (t ∷ ts)
total-behind t ts None here rest e = absurd (cc e)
total-behind t ts (Some inner) here rest e = ap total (sym (ap found_tiles e)) ∙ total-more t inner.1 ts (rest inner refl)

-- the block that is cut from a hole, and the tiling then
abbrev cut_front : (owner n p m : ℕ) → List Tile → ℕ × List Tile
cut_front owner n p m ts = (p, cut owner n p m ++ ts)

-- a block that was cut leaves as many words
pub total-fit : (owner n : ℕ) (ts : List Tile) (here : ℕ × List Tile) → fit owner n ts ≡ Some here → total here.1 ≡ total ts
total-fit owner n [] here e = absurd (cc e)
total-fit owner n (hole p m ∷ ts) here e = by_test (nat_le n m) refl (total-fit owner n ts) e where
  by_test : (fits : Bool) → nat_le n m ≡ fits → ((inner : ℕ × List Tile) → fit owner n ts ≡ Some inner → total inner.1 ≡ total ts)
      → (if fits then Some (cut_front owner n p m ts) else behind (hole p m) (fit owner n ts)) ≡ Some here → total here.1 ≡ total (hole p m ∷ ts)
  by_test true long rest e =
      ap total (sym (ap found_tiles e)) ∙ total-append (cut owner n p m) ts ∙ ap (λ k. k + total ts) (total-cut owner n p m (leb-true n m long))
  by_test false long rest e = total-behind (hole p m) ts (fit owner n ts) here rest e
total-fit owner n (block p m w ∷ ts) here e = total-behind (block p m w) ts (fit owner n ts) here (total-fit owner n ts) e

-- no hole is longer than all tiles
pub fit-beyond : (owner n : ℕ) (ts : List Tile) → total ts < n → fit owner n ts ≡ None
fit-beyond owner n [] few = refl
fit-beyond owner n (hole p m ∷ ts) few =
    ap (λ (b : Bool). if b then Some (p, cut owner n p m ++ ts) else behind (hole p m) (fit owner n ts)) (lt-leb n m (omega arith))
    ∙ ap (behind (hole p m)) (fit-beyond owner n ts (omega arith))
fit-beyond owner n (block p m w ∷ ts) few = ap (behind (block p m w)) (fit-beyond owner n ts (omega arith))

pub total-new : (words : ℕ) → total (new_tiling words) ≤ words
total-new words = by_size (nat_lt words 4) where
  by_size : (small : Bool) → total (if small then [] else hole 0 words ∷ []) ≤ words
  by_size true = omega arith
  by_size false = omega arith
