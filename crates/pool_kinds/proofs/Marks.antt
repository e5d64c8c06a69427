-- The marks of a mark and release pool, by how many there are.
use Rattle.std.proofs.Common.{◌≡◌, ℕ, zero, suc, ◌+◌, ◌≤◌, ◌<◌, Bool, List, [], ◌∷◌, ◌++◌, length, reverse, append_assoc, refl, sym, ap, ◌∙◌, subst, arith, Some, None, Contains, ◌⊎◌, inl, inr}
use Rattle.std.specs.Prelude.{if◌then◌else◌}
use Rattle.std.proofs.lemmas.Bool.{lt-ltb}
use Rattle.std.proofs.lemmas.List.{reverse-append}
use Rattle.pool_tiles.specs.Tiling.{Tile, hole, block}
use Rattle.pool_tiles.specs.Headers.{total}
use Rattle.pool_tiles.specs.Piled.{NoneOf, OnlyOf, OwnsFrom}
use Rattle.pool_kinds.specs.Kinds.{down_from, opened_mark}
use Rattle.pool_kinds.specs.Marked.{Marked}

pub length_down : (n : ℕ) → length (down_from n) ≡ n
length_down zero = refl
length_down (suc n) = ap suc (length_down n)

pub opened_is : (k l : ℕ) → k < 10 → l ≡ k + 1 → opened_mark (down_from k) ≡ Some (l, down_from l)
opened_is k l few e =
    let is = length_down k in
    ap (λ (b : Bool). if b then Some (suc (length (down_from k)), suc (length (down_from k)) ∷ down_from k) else None) (lt-ltb (length (down_from k)) 10 (omega arith))
    ∙ ap (λ (n : ℕ). Some (suc n, suc n ∷ down_from k)) is ∙ ap (λ (n : ℕ). Some (n, down_from n)) (omega arith)

-- the blocks below a mark have smaller owners
abbrev pub Below : ℕ → List Tile → Type 0
Below n [] = Unit {0}
Below n (hole p m ∷ ts) = Below n ts
Below n (block p m w ∷ ts) = (w < n) × Below n ts

below_more : (n k : ℕ) (ts : List Tile) → n ≤ k → Below n ts → Below k ts
below_more n k [] less b = tt
below_more n k (hole p m ∷ ts) less b = below_more n k ts less b
below_more n k (block p m w ∷ ts) less b = (omega (arith, b.0), below_more n k ts less b.1)

below_append : (n : ℕ) (a b : List Tile) → Below n a → Below n b → Below n (a ++ b)
below_append n [] b x y = y
below_append n (hole p m ∷ a) b x y = below_append n a b x y
below_append n (block p m w ∷ a) b x y = (x.0, below_append n a b x.1 y)

below_only : (n : ℕ) (ts : List Tile) → OnlyOf n ts → Below (suc n) ts
below_only n [] o = tt
below_only n (hole p m ∷ ts) o = below_only n ts o
below_only n (block p m w ∷ ts) o = (omega (arith, o.0), below_only n ts o.1)

below_marks : (marks : List ℕ) (blocks : List Tile) → Marked marks blocks → Below (suc (length marks)) blocks
below_marks [] blocks m = subst (Below 1) (sym m) tt
below_marks (mark ∷ older) blocks (a, b, is, sum, only, rest) =
    subst (Below (suc (suc (length older)))) (sym is)
    (below_append (suc (suc (length older))) a b (below_more (suc (length older)) (suc (suc (length older))) a (omega arith) (below_marks older a rest)) (below_only (suc (length older)) b only))

below_none : (n : ℕ) (ts : List Tile) → Below n ts → NoneOf n ts
below_none n [] b = tt
below_none n (hole p m ∷ ts) b = below_none n ts b
below_none n (block p m w ∷ ts) b = ((λ e. absurd (omega (arith, b.0))), below_none n ts b.1)

only-append : (n : ℕ) (a b : List Tile) → OnlyOf n a → OnlyOf n b → OnlyOf n (a ++ b)
only-append n [] b x y = y
only-append n (hole p m ∷ a) b x y = only-append n a b x y
only-append n (block p m w ∷ a) b x y = (x.0, only-append n a b x.1 y)

-- the newest mark's blocks
pub newest_owns : (mark : ℕ) (older : List ℕ) (blocks : List Tile) → Marked (mark ∷ older) blocks → OwnsFrom (suc (length older)) mark blocks
newest_owns mark older blocks (a, b, is, sum, only, rest) =
    record { earlier = a; later = b; is = is; sum = sum; none = below_none (suc (length older)) a (below_marks older a rest); only = only }

-- one block more for the newest
pub one_more : (marks : List ℕ) (blocks : List Tile) (p n w : ℕ) → w ≡ length marks → 0 < w → Marked marks blocks → Marked marks (blocks ++ block p n w ∷ [])
one_more [] blocks p n w e some m = absurd (omega arith)
one_more (mark ∷ older) blocks p n w e some (a, b, is, sum, only, rest) =
    (a, b ++ block p n w ∷ [], ap (λ ts. ts ++ block p n w ∷ []) is ∙ append_assoc a b (block p n w ∷ []), sum, only-append (suc (length older)) b (block p n w ∷ []) only (e, tt), rest)

-- a new mark at the cursor
pub new_mark : (marks : List ℕ) (blocks : List Tile) (mark : ℕ) → mark ≡ total blocks → Marked marks blocks → Marked (mark ∷ marks) blocks
new_mark marks blocks mark e m = (blocks, [], sym (none blocks), sym e, tt, m)
  where
    none : (ts : List Tile) → ts ++ [] ≡ ts
    none [] = refl
    none (t ∷ ts) = ap (λ us. t ∷ us) (none ts)

-- the marks as they are kept, oldest first
pub newest_first : (marks older : List ℕ) (mark : ℕ) → marks ≡ older ++ mark ∷ [] → reverse marks ≡ mark ∷ reverse older
newest_first marks older mark e = ap reverse e ∙ reverse-append older (mark ∷ [])

-- the numbers of n marks are those from 1 to n
pub down_has : (n w : ℕ) → 0 < w → w ≤ n → Contains (down_from n) w
down_has zero w some low = absurd (omega arith)
down_has (suc n) w some low = elim (last_or_less n w low) [
  | inl it ↦ (0, omega (arith, length_down n), sym it)
  | inr less ↦ (let x = down_has n w some less in (suc x.0, omega (arith, x.1), x.2))
]
  where
    last_or_less : (n w : ℕ) → w ≤ suc n → (w ≡ suc n) ⊎ (w ≤ n)
    last_or_less n zero low = inr (omega arith)
    last_or_less zero (suc w) low = inl (omega arith)
    last_or_less (suc n) (suc w) low = elim (last_or_less n w (omega arith)) [ inl it ↦ inl (ap suc it) | inr less ↦ inr (omega arith) ]

pub down_range : (n w : ℕ) → Contains (down_from n) w → (0 < w) × (w ≤ n)
down_range zero w c = absurd (omega (arith, c.1))
down_range (suc n) w (zero, low, is) = let e : suc n ≡ w = is in (omega arith, omega arith)
down_range (suc n) w (suc i, low, is) = let x = down_range n w (i, omega (arith, low), is) in (x.0, omega (arith, x.1))
