-- Parts of a spelled tiling: it is cut and joined, kept where its words are, and linked anew at its ends.
use Rattle.std.proofs.Common.{◌≡◌, ℕ, ◌+◌, ◌≤◌, ◌<◌, List, [], ◌∷◌, ◌++◌, refl, sym, ◌∙◌, subst, arith}
use Rattle.pool_tiles.specs.Tiling.{Tile, hole, block}
use Rattle.pool_tiles.specs.Headers.{first_or, last_or, tile_before, total, HoleHeader, BlockHeader, Spelled}

pub first_or-append : (a b : List Tile) (next : ℕ) → first_or (a ++ b) next ≡ first_or a (first_or b next)
first_or-append [] b next = refl
first_or-append (hole p n ∷ a) b next = refl
first_or-append (block p n w ∷ a) b next = first_or-append a b next

pub last_or-append : (a b : List Tile) (prev : ℕ) → last_or prev (a ++ b) ≡ last_or (last_or prev a) b
last_or-append [] b prev = refl
last_or-append (hole p n ∷ a) b prev = last_or-append a b p
last_or-append (block p n w ∷ a) b prev = last_or-append a b prev

pub tile_before-append : (a b : List Tile) (back : ℕ) → tile_before back (a ++ b) ≡ tile_before (tile_before back a) b
tile_before-append [] b back = refl
tile_before-append (hole p n ∷ a) b back = tile_before-append a b p
tile_before-append (block p n w ∷ a) b back = tile_before-append a b p

pub total-append : (a b : List Tile) → total (a ++ b) ≡ total a + total b
total-append [] b = omega arith
total-append (hole p n ∷ a) b = omega (arith, total-append a b)
total-append (block p n w ∷ a) b = omega (arith, total-append a b)

module _ (r o : ℕ → ℕ) where
  -- they begin where they are said to
  pub moved : (at to back prev : ℕ) (ts : List Tile) (next : ℕ) → at ≡ to → Spelled r o at back prev ts next → Spelled r o to back prev ts next
  moved at to back prev ts next e s = subst (λ (k : ℕ). Spelled r o k back prev ts next) e s

  pub ends_before : (at back prev : ℕ) (ts : List Tile) (next next2 : ℕ) → next ≡ next2 → Spelled r o at back prev ts next → Spelled r o at back prev ts next2
  ends_before at back prev ts next next2 e s = subst (λ (k : ℕ). Spelled r o at back prev ts k) e s

  pub front_part : (at back prev : ℕ) (a b : List Tile) (next : ℕ) → Spelled r o at back prev (a ++ b) next → Spelled r o at back prev a (first_or b next)
  front_part at back prev [] b next s = tt
  front_part at back prev (hole p n ∷ a) b next s = (
    s.0,
    subst (λ (k : ℕ). HoleHeader r p n back prev k) (first_or-append a b next) s.1,
    front_part (p + n) p p a b next s.2,
  )
  front_part at back prev (block p n w ∷ a) b next s = (s.0, s.1, front_part (p + n) p prev a b next s.2)

  pub back_part : (at back prev : ℕ) (a b : List Tile) (next : ℕ) → Spelled r o at back prev (a ++ b) next
      → Spelled r o (at + total a) (tile_before back a) (last_or prev a) b next
  back_part at back prev [] b next s = moved at (at + 0) back prev b next (omega arith) s
  back_part at back prev (hole p n ∷ a) b next s =
      moved (p + n + total a) (at + (n + total a)) (tile_before p a) (last_or p a) b next (omega (arith, s.0)) (back_part (p + n) p p a b next s.2)
  back_part at back prev (block p n w ∷ a) b next s =
      moved (p + n + total a) (at + (n + total a)) (tile_before p a) (last_or prev a) b next (omega (arith, s.0)) (back_part (p + n) p prev a b next s.2)

  pub both_parts : (at back prev : ℕ) (a b : List Tile) (next : ℕ) → Spelled r o at back prev a (first_or b next)
      → Spelled r o (at + total a) (tile_before back a) (last_or prev a) b next → Spelled r o at back prev (a ++ b) next
  both_parts at back prev [] b next s t = moved (at + 0) at back prev b next (omega arith) t
  both_parts at back prev (hole p n ∷ a) b next s t = (
    s.0,
    subst (λ (k : ℕ). HoleHeader r p n back prev k) (sym (first_or-append a b next)) s.1,
    both_parts (p + n) p p a b next s.2 (moved (at + (n + total a)) (p + n + total a) (tile_before p a) (last_or p a) b next (omega (arith, s.0)) t),
  )
  both_parts at back prev (block p n w ∷ a) b next s t =
      (s.0, s.1, both_parts (p + n) p prev a b next s.2 (moved (at + (n + total a)) (p + n + total a) (tile_before p a) (last_or prev a) b next (omega (arith, s.0)) t))

-- the words are the same from one place up to another
abbrev pub Same : (ℕ → ℕ) → (ℕ → ℕ) → ℕ → ℕ → Type 0
Same r q from to = (k : ℕ) → from ≤ k → k < to → q k ≡ r k

module _ (r q o : ℕ → ℕ) where
  hole_kept : (p n back prev next : ℕ) → HoleHeader r p n back prev next → Same r q p (p + n) → HoleHeader q p n back prev next
  hole_kept p n back prev next h same = let long = h.long in record {
    long = h.long;
    size = same p (omega arith) (omega arith) ∙ h.size;
    before = same (p + 1) (omega arith) (omega arith) ∙ h.before;
    next_is = same (p + 2) (omega arith) (omega arith) ∙ h.next_is;
    prev_is = same (p + 3) (omega arith) (omega arith) ∙ h.prev_is;
  }

  block_kept : (p n back w : ℕ) → BlockHeader r o p n back w → Same r q p (p + n) → BlockHeader q o p n back w
  block_kept p n back w h same = let long = h.long in record {
    long = h.long;
    size = same p (omega arith) (omega arith) ∙ h.size;
    before = same (p + 1) (omega arith) (omega arith) ∙ h.before;
    owned = h.owned;
    own = λ k low high. same k (omega arith) high ∙ h.own k low high;
  }

  -- where none of its words is written
  pub kept : (at back prev : ℕ) (ts : List Tile) (next : ℕ) → Spelled r o at back prev ts next → Same r q at (at + total ts) → Spelled q o at back prev ts next
  kept at back prev [] next s same = tt
  kept at back prev (hole p n ∷ ts) next s same =
      let at_p = s.0 in (
        s.0,
        hole_kept p n back prev (first_or ts next) s.1 (λ k low high. same k (omega arith) (omega arith)),
        kept (p + n) p p ts next s.2 (λ k low high. same k (omega arith) (omega arith)),
      )
  kept at back prev (block p n w ∷ ts) next s same =
      let at_p = s.0 in (
        s.0,
        block_kept p n back w s.1 (λ k low high. same k (omega arith) (omega arith)),
        kept (p + n) p prev ts next s.2 (λ k low high. same k (omega arith) (omega arith)),
      )
