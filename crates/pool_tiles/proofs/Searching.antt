-- The search through the holes, and the two ways to the last hole before a block: on from the front, and back from the block.
use Rattle.std.proofs.Common.{◌≡◌, ℕ, ◌+◌, ◌≤◌, ◌<◌, true, false, List, [], ◌∷◌, ◌++◌, length, append_assoc, append-nil, refl, sym, ap, ◌∙◌, subst, arith, inl, inr}
use Rattle.pool_tiles.specs.Tiling.{Tile, hole, block}
use Rattle.pool_tiles.specs.Headers.{first_or, last_or, tile_before, total, hole_mark, word_at, Spells}
use Rattle.pool_tiles.specs.Tiled.{AllShorter}
use Rattle.pool_tiles.proofs.Spelling.{front_part, first_or-append, total-append, tile_before-append, last_or-append}
use Rattle.pool_tiles.proofs.Linking.{zero_or_more, holes, holes-append, first_or-blocks, last_or-blocks, first_within}
use Rattle.pool_tiles.proofs.Fitting.{shorter-append, shorter-blocks}
use Rattle.pool_tiles.proofs.Merging.{last_tile}
use Rattle.pool_tiles.proofs.Told.{hole_told, block_told}

-- the holes before the place are too short, and the place is that of the next one
pub record Sought (wanted : ℕ) (ts : List Tile) (none place : ℕ) : Type 0 where
  pub passed : List Tile
  pub ahead : List Tile
  pub is : ts ≡ passed ++ ahead
  pub short : AllShorter wanted passed
  pub at : place ≡ first_or ahead none

-- the hole at the place
pub record Reached (wanted : ℕ) (ts : List Tile) (place : ℕ) : Type 0 where
  pub earlier : List Tile
  pub n : ℕ
  pub later : List Tile
  pub is : ts ≡ earlier ++ hole place n ∷ later
  pub short : AllShorter wanted earlier

next_hole : (wanted : ℕ) (ts : List Tile) (none place : ℕ) → place ≡ first_or ts none → place < none → Reached wanted ts place
next_hole wanted [] none place e less = absurd (omega arith)
next_hole wanted (hole p n ∷ ts) none place e less = record { earlier = []; n = n; later = ts; is = ap (λ (k : ℕ). hole k n ∷ ts) (sym e); short = tt }
next_hole wanted (block p n w ∷ ts) none place e less =
    let rest = next_hole wanted ts none place e less in
    record { earlier = block p n w ∷ rest.earlier; n = rest.n; later = rest.later; is = ap (λ us. block p n w ∷ us) rest.is; short = rest.short }

pub reached : (wanted : ℕ) (ts : List Tile) (none place : ℕ) → Sought wanted ts none place → place < none → Reached wanted ts place
reached wanted ts none place x less =
    let next = next_hole wanted x.ahead none place x.at less in
    record {
      earlier = x.passed ++ next.earlier;
      n = next.n;
      later = next.later;
      is = x.is ∙ ap (λ us. x.passed ++ us) next.is ∙ sym (append_assoc x.passed next.earlier (hole place next.n ∷ next.later));
      short = shorter-append wanted x.passed next.earlier x.short next.short;
    }

-- past a hole that is too short
pub gone_on : (wanted : ℕ) (ts : List Tile) (none place next : ℕ) → (x : Reached wanted ts place) → x.n < wanted → next ≡ first_or x.later none → Sought wanted ts none next
gone_on wanted ts none place next x less e =
    record {
      passed = x.earlier ++ hole place x.n ∷ [];
      ahead = x.later;
      is = x.is ∙ sym (append_assoc x.earlier (hole place x.n ∷ []) x.later);
      short = shorter-append wanted x.earlier (hole place x.n ∷ []) x.short (less, tt);
      at = e;
    }

hole_ahead : (ts : List Tile) (none : ℕ) → 0 < holes ts
    → (c : List Tile) × (p : ℕ) × (n : ℕ) × (d : List Tile) × (ts ≡ c ++ hole p n ∷ d) × (first_or ts none ≡ p)
hole_ahead [] none some = absurd (omega arith)
hole_ahead (hole p n ∷ ts) none some = ([], p, n, ts, refl, refl)
hole_ahead (block p n w ∷ ts) none some = let rest = hole_ahead ts none some in (block p n w ∷ rest.0, rest.1, rest.2, rest.3, ap (λ us. block p n w ∷ us) rest.4, rest.5)

-- none is left
pub sought_all : (wanted : ℕ) (words : List ℕ) (first : ℕ) (ts : List Tile) (place : ℕ) → Spells words first ts → Sought wanted ts (length words) place → length words ≤ place → AllShorter wanted ts
sought_all wanted words first ts place s x past =
    elim (zero_or_more (holes x.ahead)) [
      | inl none ↦ subst (AllShorter wanted) (sym x.is) (shorter-append wanted x.passed x.ahead x.short (shorter-blocks wanted x.ahead none))
      | inr some ↦
          let at = x.at in
          let next = hole_ahead x.ahead (length words) some in
          let told = hole_told words first (x.passed ++ next.0) next.1 next.2 next.3
          (subst (λ ts. Spells words first ts) (x.is ∙ ap (λ us. x.passed ++ us) next.4 ∙ sym (append_assoc x.passed next.0 (hole next.1 next.2 ∷ next.3))) s) in
          let long = told.long in let inside = told.inside in let is = next.5 in
          absurd (omega arith)
    ]

-- back from a block, whose earlier tiles are a: the tiles from the place on up to the block are blocks
pub record WalkedBack (a : List Tile) (at : ℕ) : Type 0 where
  pub left : List Tile
  pub passed : List Tile
  pub is : a ≡ left ++ passed
  pub blocks : holes passed ≡ 0
  pub at_is : at ≡ total left

pub not_yet : (words : List ℕ) (first : ℕ) (a : List Tile) (p m w : ℕ) (b : List Tile) → Spells words first (a ++ block p m w ∷ b) → WalkedBack a p
not_yet words first a p m w b s = record { left = a; passed = []; is = sym (append-nil a); blocks = refl; at_is = (block_told words first a p m w b s).place_is }

-- one tile further back
pub record OneBack (words : List ℕ) (a : List Tile) (at : ℕ) : Type 0 where
  pub place : ℕ
  pub inside : at + 1 < length words
  pub before : word_at words (at + 1) ≡ place
  pub nearer : place < at
  pub hole_here : hole_mark ≤ word_at words place → last_or (length words) a ≡ place
  pub block_here : word_at words place < hole_mark → WalkedBack a place

-- the tile at a place names the one before it
named : (words : List ℕ) (first : ℕ) (c : List Tile) (u : Tile) (e : List Tile) → Spells words first (c ++ u ∷ e)
    → (total c + 4 ≤ length words) × (word_at words (total c + 1) ≡ tile_before 0 c)
named words first c (hole p n) e s =
    let told = hole_told words first c p n e s in let inside = told.inside in let long = told.long in let place = told.place_is in
    (omega arith, ap (λ (k : ℕ). word_at words (k + 1)) (sym place) ∙ told.before)
named words first c (block p n w) e s =
    let told = block_told words first c p n w e s in let inside = told.inside in let long = told.long in let place = told.place_is in
    (omega arith, ap (λ (k : ℕ). word_at words (k + 1)) (sym place) ∙ told.before)

-- some tile comes after the passed ones
after_passed : (d : List Tile) (p m w : ℕ) (b : List Tile) → (u : Tile) × (e : List Tile) × (d ++ block p m w ∷ b ≡ u ∷ e)
after_passed [] p m w b = (block p m w, b, refl)
after_passed (t ∷ d) p m w b = (t, d ++ block p m w ∷ b, refl)

module _ (words : List ℕ) (first : ℕ) (a : List Tile) (p m w : ℕ) (b : List Tile) (s : Spells words first (a ++ block p m w ∷ b)) (at : ℕ) (x : WalkedBack a at) (more : 0 < at) where
  by_last : (c : List Tile) (t : Tile) → x.left ≡ c ++ t ∷ [] → OneBack words a at
  by_last c (hole q k) e =
      let next = after_passed x.passed p m w b in
      let split : a ++ block p m w ∷ b ≡ (c ++ hole q k ∷ []) ++ next.0 ∷ next.1 =
      ap (λ ts. ts ++ block p m w ∷ b) (x.is ∙ ap (λ ts. ts ++ x.passed) e) ∙ append_assoc (c ++ hole q k ∷ []) x.passed (block p m w ∷ b) ∙ ap (λ ts. (c ++ hole q k ∷ []) ++ ts) next.2 in
      let there = named words first (c ++ hole q k ∷ []) next.0 next.1 (subst (λ ts. Spells words first ts) split s) in
      let told = hole_told words first c q k (next.0 ∷ next.1) (subst (λ ts. Spells words first ts) (split ∙ append_assoc c (hole q k ∷ []) (next.0 ∷ next.1)) s) in
      let place = told.place_is in let long = told.long in let size = told.size in
      let parts = total-append c (hole q k ∷ []) in
      let here : at ≡ total (c ++ hole q k ∷ []) = x.at_is ∙ ap total e in
      record {
        place = q;
        inside = omega arith;
        before = ap (λ (i : ℕ). word_at words (i + 1)) here ∙ there.1 ∙ tile_before-append c (hole q k ∷ []) 0;
        nearer = omega arith;
        hole_here = λ marked. ap (last_or (length words)) (x.is ∙ ap (λ ts. ts ++ x.passed) e) ∙ last_or-append (c ++ hole q k ∷ []) x.passed (length words)
            ∙ last_or-blocks x.passed (last_or (length words) (c ++ hole q k ∷ [])) x.blocks ∙ last_or-append c (hole q k ∷ []) (length words);
        block_here = λ small. absurd (omega arith);
      }
  by_last c (block q k v) e =
      let next = after_passed x.passed p m w b in
      let split : a ++ block p m w ∷ b ≡ (c ++ block q k v ∷ []) ++ next.0 ∷ next.1 =
      ap (λ ts. ts ++ block p m w ∷ b) (x.is ∙ ap (λ ts. ts ++ x.passed) e) ∙ append_assoc (c ++ block q k v ∷ []) x.passed (block p m w ∷ b) ∙ ap (λ ts. (c ++ block q k v ∷ []) ++ ts) next.2 in
      let there = named words first (c ++ block q k v ∷ []) next.0 next.1 (subst (λ ts. Spells words first ts) split s) in
      let told = block_told words first c q k v (next.0 ∷ next.1) (subst (λ ts. Spells words first ts) (split ∙ append_assoc c (block q k v ∷ []) (next.0 ∷ next.1)) s) in
      let place = told.place_is in let long = told.long in let small = told.small in let few = told.few in let inside = told.inside in
      let parts = total-append c (block q k v ∷ []) in
      let here : at ≡ total (c ++ block q k v ∷ []) = x.at_is ∙ ap total e in
      record {
        place = q;
        inside = omega arith;
        before = ap (λ (i : ℕ). word_at words (i + 1)) here ∙ there.1 ∙ tile_before-append c (block q k v ∷ []) 0;
        nearer = omega arith;
        hole_here = λ marked. absurd (omega arith);
        block_here = λ small. record {
          left = c;
          passed = block q k v ∷ x.passed;
          is = x.is ∙ ap (λ ts. ts ++ x.passed) e ∙ append_assoc c (block q k v ∷ []) x.passed;
          blocks = x.blocks;
          at_is = place;
        };
      }

  pub one_back : OneBack words a at
  one_back = elim (last_tile x.left) [ inl e ↦ let none = ap total e in let here = x.at_is in absurd (omega arith) | inr y ↦ by_last y.0 y.1 y.2 ]

-- on from the front, before a block, whose earlier tiles are a: the last hole that was passed, and the next one
pub record WalkedOn (words : List ℕ) (a b : List Tile) (last next : ℕ) : Type 0 where
  pub passed : List Tile
  pub ahead : List Tile
  pub is : a ≡ passed ++ ahead
  pub last_is : last ≡ last_or (length words) passed
  pub next_is : next ≡ first_or ahead (first_or b (length words))

pub at_front : (words : List ℕ) (first : ℕ) (a : List Tile) (p m w : ℕ) (b : List Tile) → Spells words first (a ++ block p m w ∷ b)
    → WalkedOn words a b (length words) first
at_front words first a p m w b s =
    record { passed = []; ahead = a; is = refl; last_is = refl; next_is = s.starts ∙ first_or-append a (block p m w ∷ b) (length words) }

-- one hole further on
pub record OneOn (words : List ℕ) (a b : List Tile) (next : ℕ) : Type 0 where
  pub inside : next + 2 < length words
  pub some : 0 < holes a
  pub on : WalkedOn words a b next (word_at words (next + 2))

module _ (words : List ℕ) (first : ℕ) (a : List Tile) (p m w : ℕ) (b : List Tile) (s : Spells words first (a ++ block p m w ∷ b)) (last next : ℕ) (x : WalkedOn words a b last next) where
  hole_on : 0 < holes x.ahead → (next < p) × OneOn words a b next
  hole_on some =
      let n = length words in
      let h = hole_ahead x.ahead (first_or b n) some in
      let c = x.passed ++ h.0 in let q = h.1 in let k = h.2 in let d = h.3 in
      let split : a ≡ c ++ hole q k ∷ d = x.is ∙ ap (λ ts. x.passed ++ ts) h.4 ∙ sym (append_assoc x.passed h.0 (hole q k ∷ d)) in
      let told = hole_told words first c q k (d ++ block p m w ∷ b)
      (subst (λ ts. Spells words first ts) (ap (λ ts. ts ++ block p m w ∷ b) split ∙ append_assoc c (hole q k ∷ d) (block p m w ∷ b)) s) in
      let here : next ≡ q = x.next_is ∙ h.5 in
      let inside = told.inside in let long = told.long in let placed = told.place_is in
      let block_placed = (block_told words first a p m w b s).place_is in
      let sum = ap total split in let sums = total-append c (hole q k ∷ d) in
      let counted = ap holes split in let counts = holes-append c (hole q k ∷ d) in (
        omega arith,
        record {
          inside = omega arith;
          some = omega arith;
          on = record {
            passed = c ++ hole q k ∷ [];
            ahead = d;
            is = split ∙ sym (append_assoc c (hole q k ∷ []) d);
            last_is = here ∙ sym (last_or-append c (hole q k ∷ []) n);
            next_is = ap (λ (i : ℕ). word_at words (i + 2)) here ∙ told.next ∙ first_or-append d (block p m w ∷ b) n;
          };
        },
      )

  pub one_on : next < p → OneOn words a b next
  one_on before =
      elim (zero_or_more (holes x.ahead)) [
        | inl none ↦
            let later = (block_told words first a p m w b s).next_later in
            let same = first_or-blocks x.ahead (first_or b (length words)) none in let is = x.next_is in absurd (omega arith)
        | inr some ↦ (hole_on some).1
      ]

  -- no hole is between the last one and the block
  pub met : p ≤ next → last ≡ last_or (length words) a
  met past =
      let n = length words in
      elim (zero_or_more (holes x.ahead)) [
        | inl none ↦ x.last_is ∙ sym (ap (last_or n) x.is ∙ last_or-append x.passed x.ahead n ∙ last_or-blocks x.ahead (last_or n x.passed) none)
        | inr some ↦ let before = (hole_on some).0 in absurd (omega arith)
      ]

-- back from the block, the first tile of the pool is not reached while a hole is before it
pub not_front : (words : List ℕ) (first : ℕ) (a : List Tile) (p m w : ℕ) (b : List Tile) → Spells words first (a ++ block p m w ∷ b)
    → (at : ℕ) → WalkedBack a at → 0 < holes a → 0 < at
not_front words first a p m w b s at x some =
    let n = length words in let r = word_at words in
    let split = ap (λ ts. ts ++ block p m w ∷ b) x.is ∙ append_assoc x.left x.passed (block p m w ∷ b) in
    let counted = ap holes x.is in let parts = holes-append x.left x.passed in let blocks = x.blocks in let at_is = x.at_is in
    let spelled = front_part r r 0 0 n x.left (x.passed ++ block p m w ∷ b) n (subst (λ ts. Spells words first ts) split s).spelled in
    let within = first_within r r 0 0 n x.left (first_or (x.passed ++ block p m w ∷ b) n) spelled (omega arith) in
    omega arith

-- a hole that follows the block names the one before it
pub named_by_next : (words : List ℕ) (first : ℕ) (a : List Tile) (p m w : ℕ) (b : List Tile) → Spells words first (a ++ block p m w ∷ b) → p + m < length words
    → hole_mark ≤ word_at words (p + m) → (p + m + 4 ≤ length words) × (word_at words (p + m + 3) ≡ last_or (length words) a)
named_by_next words first a p m w [] s more marked =
    let told = block_told words first a p m w [] s in let inside = told.inside in absurd (omega arith)
named_by_next words first a p m w (hole q k ∷ b) s more marked =
    let told = block_told words first a p m w (hole q k ∷ b) s in let placed = told.place_is in
    let next = hole_told words first (a ++ block p m w ∷ []) q k b (subst (λ ts. Spells words first ts) (sym (append_assoc a (block p m w ∷ []) (hole q k ∷ b))) s) in
    let there = next.place_is in let parts = total-append a (block p m w ∷ []) in let long = next.long in let inside = next.inside in
    let here : p + m ≡ q = omega arith in
    (omega arith, ap (λ (i : ℕ). word_at words (i + 3)) here ∙ next.previous ∙ last_or-append a (block p m w ∷ []) (length words))
named_by_next words first a p m w (block q k v ∷ b) s more marked =
    let told = block_told words first a p m w (block q k v ∷ b) s in let placed = told.place_is in
    let next = block_told words first (a ++ block p m w ∷ []) q k v b (subst (λ ts. Spells words first ts) (sym (append_assoc a (block p m w ∷ []) (block q k v ∷ b))) s) in
    let there = next.place_is in let parts = total-append a (block p m w ∷ []) in let inside = next.inside in let few = next.few in
    let here : p + m ≡ q = omega arith in
    let same = ap (word_at words) here in let small = next.small in
    absurd (omega arith)

-- a test that failed says that the hole's mark is not there
pub below_mark : (w : ℕ) → (hole_mark ≤ w → false ≡ true) → w < hole_mark
below_mark w tested = let unmarked : hole_mark ≤ w → ⊥ = λ m. let e = tested m in cc in omega arith
