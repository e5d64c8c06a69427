-- The first hole that is long enough, and the tiling that a block is cut from it.
use Rattle.std.proofs.Common.{◌≡◌, ℕ, ◌+◌, ◌-◌, ◌≤◌, ◌<◌, Bool, List, [], ◌∷◌, ◌++◌, refl, sym, ap, ◌∙◌, subst, arith, inl, inr, Some, None}
use Rattle.std.specs.Prelude.{nat_lt, if◌then◌else◌}
use Rattle.std.proofs.lemmas.Bool.{le-leb, lt-leb, lt-ltb, le-ltb}
use Rattle.pool_tiles.specs.Tiling.{Tile, hole, block, fit, behind, cut}
use Rattle.pool_tiles.specs.Headers.{Apart}
use Rattle.pool_tiles.specs.Tiled.{AllShorter}
use Rattle.pool_tiles.proofs.Linking.{holes}
use Rattle.pool_tiles.proofs.Objects.{bool_cases}

pub shorter-append : (n : ℕ) (a b : List Tile) → AllShorter n a → AllShorter n b → AllShorter n (a ++ b)
shorter-append n [] b x y = y
shorter-append n (hole p m ∷ a) b x y = (x.0, shorter-append n a b x.1 y)
shorter-append n (block p m w ∷ a) b x y = shorter-append n a b x y

pub shorter-blocks : (n : ℕ) (a : List Tile) → holes a ≡ 0 → AllShorter n a
shorter-blocks n [] e = tt
shorter-blocks n (hole p m ∷ a) e = absurd (omega arith)
shorter-blocks n (block p m w ∷ a) e = shorter-blocks n a e

pub fit-none : (owner n : ℕ) (ts : List Tile) → AllShorter n ts → fit owner n ts ≡ None
fit-none owner n [] short = refl
fit-none owner n (hole p m ∷ ts) short =
    ap (λ (b : Bool). if b then Some (p, cut owner n p m ++ ts) else behind (hole p m) (fit owner n ts)) (lt-leb n m short.0)
    ∙ ap (behind (hole p m)) (fit-none owner n ts short.1)
fit-none owner n (block p m w ∷ ts) short = ap (behind (block p m w)) (fit-none owner n ts short)

pub fit-some : (owner n : ℕ) (a : List Tile) (p m : ℕ) (b : List Tile) → AllShorter n a → n ≤ m
    → fit owner n (a ++ hole p m ∷ b) ≡ Some (p, a ++ (cut owner n p m ++ b))
fit-some owner n [] p m b short long =
    ap (λ (t : Bool). if t then Some (p, cut owner n p m ++ b) else behind (hole p m) (fit owner n b)) (le-leb n m long)
fit-some owner n (hole q k ∷ a) p m b short long =
    ap (λ (t : Bool). if t then Some (q, cut owner n q k ++ (a ++ hole p m ∷ b)) else behind (hole q k) (fit owner n (a ++ hole p m ∷ b))) (lt-leb n k short.0)
    ∙ ap (behind (hole q k)) (fit-some owner n a p m b short.1 long)
fit-some owner n (block q k w ∷ a) p m b short long = ap (behind (block q k w)) (fit-some owner n a p m b short long)

-- the block that is cut off, with a rest or without
pub cut-whole : (owner n p m : ℕ) → m < n + 4 → cut owner n p m ≡ block p m owner ∷ []
cut-whole owner n p m short = ap (λ (b : Bool). if b then block p m owner ∷ [] else block p n owner ∷ hole (p + n) (m - n) ∷ []) (lt-ltb m (n + 4) short)

pub cut-part : (owner n p m : ℕ) → n + 4 ≤ m → cut owner n p m ≡ block p n owner ∷ hole (p + n) (m - n) ∷ []
cut-part owner n p m long = ap (λ (b : Bool). if b then block p m owner ∷ [] else block p n owner ∷ hole (p + n) (m - n) ∷ []) (le-ltb m (n + 4) long)

-- a hole is a hole
apart_else : (p m q k : ℕ) (b : List Tile) → Apart (hole p m ∷ b) → Apart (hole q k ∷ b)
apart_else p m q k [] x = tt
apart_else p m q k (hole u i ∷ b) x = absurd x
apart_else p m q k (block u i w ∷ b) x = x

apart_behind : (p m : ℕ) (b : List Tile) → Apart (hole p m ∷ b) → Apart b
apart_behind p m [] x = tt
apart_behind p m (hole u i ∷ b) x = absurd x
apart_behind p m (block u i w ∷ b) x = x

cut_front : (owner n p m : ℕ) (b : List Tile) → Apart (hole p m ∷ b) → Apart (cut owner n p m ++ b)
cut_front owner n p m b x =
    elim (bool_cases (nat_lt m (n + 4))) [
      | inl short ↦
          subst (λ (t : Bool). Apart ((if t then block p m owner ∷ [] else block p n owner ∷ hole (p + n) (m - n) ∷ []) ++ b)) (sym short) (apart_behind p m b x)
      | inr long ↦
          subst (λ (t : Bool). Apart ((if t then block p m owner ∷ [] else block p n owner ∷ hole (p + n) (m - n) ∷ []) ++ b)) (sym long) (apart_else p m (p + n) (m - n) b x)
    ]

pub apart-cut : (owner n : ℕ) (a : List Tile) (p m : ℕ) (b : List Tile) → Apart (a ++ hole p m ∷ b) → Apart (a ++ (cut owner n p m ++ b))
apart-cut owner n [] p m b x = cut_front owner n p m b x
apart-cut owner n (hole q k ∷ []) p m b x = absurd x
apart-cut owner n (hole q k ∷ hole u i ∷ a) p m b x = absurd x
apart-cut owner n (hole q k ∷ block u i w ∷ a) p m b x = apart-cut owner n a p m b x
apart-cut owner n (block q k w ∷ a) p m b x = apart-cut owner n a p m b x
