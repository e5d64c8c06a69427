-- What each step on the words of a pool makes of its tiling, as the proofs of the four functions cite it.
use Rattle.std.proofs.Common.{◌≡◌, ℕ, ◌+◌, ◌*◌, ◌-◌, ◌<◌, ◌≤◌, List, [], ◌∷◌, ◌++◌, length, set, append_assoc, sym, ap, ◌∙◌, subst, arith}
use Rattle.std.specs.Prelude.{nat_lt, if◌then◌else◌}
use Rattle.pool_tiles.specs.Tiling.{Tile, hole, block, length_of}
use Rattle.pool_tiles.specs.Headers.{first_or, last_or, hole_mark, owner_unit, owner_limit, word_at, tile_at, tiles_of, Spells}
use Rattle.pool_tiles.specs.Tiled.{Tiled, HoleIn, BlockIn, SameWords}
use Rattle.pool_tiles.proofs.Spelling.{total-append}
use Rattle.pool_tiles.proofs.Reading.{read_back}
use Rattle.pool_tiles.proofs.Done.{freed_words, taken_words, split_words, joined_words}
use Rattle.pool_tiles.proofs.Told.{hole_told, block_told, seen, shown}

-- what a step's proof owes where the new words spell the new tiles
pub settled : (words after : List ℕ) (second : ℕ) (t : Tiled) (us : List Tile) → seen words ≡ t → Spells after second us × SameWords us words after
    → Spells after second (tiles_of after) × (tiles_of after ≡ us) × SameWords (tiles_of after) t.words after
settled words after second t us view done =
    let is = read_back after second us done.0 in (
      subst (λ ts. Spells after second ts) (sym is) done.0,
      is,
      subst (λ ws. SameWords (tiles_of after) ws after) (ap (λ (u : Tiled). u.words) view) (subst (λ ts. SameWords ts words after) (sym is) done.1),
    )

module _ (words : List ℕ) (first : ℕ) (t : Tiled) (place : ℕ) (kept : Spells words first (tiles_of words)) (view : seen words ≡ t) where
  module _ (owner : ℕ) (number : owner < owner_limit) (next previous size word second : ℕ) (w1 w2 w3 : List ℕ)
      (next_is : next ≡ word_at words (place + 2)) (previous_is : previous ≡ word_at words (place + 3)) (size_is : size ≡ length_of (tile_at words place))
      (word_is : word ≡ size + owner * owner_unit) (e1 : w1 ≡ set words place word) (e2 : w2 ≡ set w1 (previous + 2) next) (e3 : w3 ≡ set w2 (next + 3) previous)
      (second_is : second ≡ (if nat_lt previous (length words) then first else next)) where
    take_at : (a : List Tile) (n : ℕ) (b : List Tile) → t.tiles ≡ a ++ hole place n ∷ b
        → Spells w3 second (tiles_of w3) × (tiles_of w3 ≡ a ++ block place n owner ∷ b) × SameWords (tiles_of w3) t.words w3
    take_at a n b is =
        let s = shown words first t (a ++ hole place n ∷ b) kept view is in let told = hole_told words first a place n b s in
        let all = e3 ∙ ap (λ ws. set ws (next + 3) previous) (e2 ∙ ap (λ ws. set ws (previous + 2) next) (e1 ∙ ap (set words place) (word_is ∙ ap (λ (k : ℕ). k + owner * owner_unit) (size_is ∙ told.read)))) in
        let done = taken_words words first a place n b owner number next previous w3 s (next_is ∙ told.next) (previous_is ∙ told.previous) all in
        settled words w3 second t (a ++ block place n owner ∷ b) view (subst (λ k. Spells w3 k (a ++ block place n owner ∷ b)) (sym second_is) done.0, done.1)

    pub take_done : HoleIn t.tiles place
        → Spells w3 second (tiles_of w3) × ((a b : List Tile) (n : ℕ) → t.tiles ≡ a ++ hole place n ∷ b → tiles_of w3 ≡ a ++ block place n owner ∷ b) × SameWords (tiles_of w3) t.words w3
    take_done h = let one = take_at h.earlier h.n h.later h.is in (one.0, (λ a b n is. (take_at a n b is).1), one.2)

  module _ (next previous size second : ℕ) (w1 w2 w3 w4 w5 : List ℕ) (size_is : size ≡ length_of (tile_at words place))
      (e1 : w1 ≡ set words place (size + hole_mark)) (e2 : w2 ≡ set w1 (place + 2) next) (e3 : w3 ≡ set w2 (place + 3) previous)
      (e4 : w4 ≡ set w3 (previous + 2) place) (e5 : w5 ≡ set w4 (next + 3) place)
      (second_is : second ≡ (if nat_lt previous (length words) then first else place))
      (links_are : (a : List Tile) (n w : ℕ) (b : List Tile) → t.tiles ≡ a ++ block place n w ∷ b → (next ≡ first_or b (length words)) × (previous ≡ last_or (length words) a)) where
    free_at : (a : List Tile) (n w : ℕ) (b : List Tile) → t.tiles ≡ a ++ block place n w ∷ b
        → Spells w5 second (tiles_of w5) × (tiles_of w5 ≡ a ++ hole place n ∷ b) × SameWords (tiles_of w5) t.words w5
    free_at a n w b is =
        let s = shown words first t (a ++ block place n w ∷ b) kept view is in let told = block_told words first a place n w b s in
        let links = links_are a n w b is in
        let mark : size + hole_mark ≡ n + hole_mark = ap (λ (k : ℕ). k + hole_mark) (size_is ∙ told.read) in
        let all = e5 ∙ ap (λ ws. set ws (next + 3) place) (e4 ∙ ap (λ ws. set ws (previous + 2) place) (e3 ∙ ap (λ ws. set ws (place + 3) previous)
        (e2 ∙ ap (λ ws. set ws (place + 2) next) (e1 ∙ ap (set words place) mark)))) in
        let done = freed_words words first a place n b w next previous w5 s links.0 links.1 all in
        settled words w5 second t (a ++ hole place n ∷ b) view (subst (λ k. Spells w5 k (a ++ hole place n ∷ b)) (sym second_is) done.0, done.1)

    pub free_done : BlockIn t.tiles place
        → Spells w5 second (tiles_of w5) × ((a b : List Tile) (n w : ℕ) → t.tiles ≡ a ++ block place n w ∷ b → tiles_of w5 ≡ a ++ hole place n ∷ b) × SameWords (tiles_of w5) t.words w5
    free_done h = let one = free_at h.earlier h.n h.owner h.later h.is in (one.0, (λ a b n w is. (free_at a n w b is).1), one.2)

  module _ (length_i next whole rest : ℕ) (w1 w2 w3 w4 w5 w6 w7 w8 : List ℕ) (next_is : next ≡ word_at words (place + 2)) (whole_is : whole ≡ length_of (tile_at words place))
      (rest_is : rest ≡ place + length_i)
      (e1 : w1 ≡ set words place (length_i + hole_mark)) (e2 : w2 ≡ set w1 rest (whole - length_i + hole_mark)) (e3 : w3 ≡ set w2 (place + 2) rest) (e4 : w4 ≡ set w3 (rest + 1) place)
      (e5 : w5 ≡ set w4 (rest + 2) next) (e6 : w6 ≡ set w5 (rest + 3) place) (e7 : w7 ≡ set w6 (next + 3) rest) (e8 : w8 ≡ set w7 (place + whole + 1) rest)
      (long : 4 ≤ length_i) (room : (a b : List Tile) (n : ℕ) → t.tiles ≡ a ++ hole place n ∷ b → length_i + 4 ≤ n) where
    split_at : (a : List Tile) (n : ℕ) (b : List Tile) → t.tiles ≡ a ++ hole place n ∷ b
        → Spells w8 first (tiles_of w8) × (tiles_of w8 ≡ a ++ hole place length_i ∷ hole (place + length_i) (n - length_i) ∷ b) × SameWords (tiles_of w8) t.words w8
    split_at a n b is =
        let s = shown words first t (a ++ hole place n ∷ b) kept view is in let told = hole_told words first a place n b s in
        let fits = room a b n is in
        let n_is : whole ≡ n = whole_is ∙ told.read in
        let p = place in let i = length_i in
        let chain = λ (x : ℕ × ℕ). set (set (set (set (set (set (set (set words p (i + hole_mark)) x.0 (x.1 - i + hole_mark)) (p + 2) x.0) (x.0 + 1) p) (x.0 + 2) next) (x.0 + 3) p) (next + 3) x.0) (p + x.1 + 1) x.0 in
        let all : w8 ≡ chain (rest, whole) =
        e8 ∙ ap (λ ws. set ws (p + whole + 1) rest) (e7 ∙ ap (λ ws. set ws (next + 3) rest) (e6 ∙ ap (λ ws. set ws (rest + 3) p) (e5 ∙ ap (λ ws. set ws (rest + 2) next)
        (e4 ∙ ap (λ ws. set ws (rest + 1) p) (e3 ∙ ap (λ ws. set ws (p + 2) rest) (e2 ∙ ap (λ ws. set ws rest (whole - i + hole_mark)) e1)))))) in
        let done = split_words words first a p n b i (n - i) next w8 s long (omega arith) (omega arith) (next_is ∙ told.next) (all ∙ ap chain (λ j. (rest_is j, n_is j))) in
        settled words w8 first t (a ++ hole p i ∷ hole (p + i) (n - i) ∷ b) view done

    pub split_done : HoleIn t.tiles place
        → Spells w8 first (tiles_of w8) × ((a b : List Tile) (n : ℕ) → t.tiles ≡ a ++ hole place n ∷ b → tiles_of w8 ≡ a ++ hole place length_i ∷ hole (place + length_i) (n - length_i) ∷ b)
        × SameWords (tiles_of w8) t.words w8
    split_done h = let one = split_at h.earlier h.n h.later h.is in (one.0, (λ a b n is. (split_at a n b is).1), one.2)

  module _ (size right joined next : ℕ) (w1 w2 w3 w4 : List ℕ) (size_is : size ≡ length_of (tile_at words place)) (right_is : right ≡ place + size)
      (joined_is : joined ≡ size + length_of (tile_at words right)) (next_is : next ≡ word_at words (right + 2))
      (e1 : w1 ≡ set words place (joined + hole_mark)) (e2 : w2 ≡ set w1 (place + 2) next) (e3 : w3 ≡ set w2 (next + 3) place) (e4 : w4 ≡ set w3 (place + joined + 1) place) where
    join_at : (a : List Tile) (n u m : ℕ) (b : List Tile) → t.tiles ≡ a ++ hole place n ∷ hole u m ∷ b
        → Spells w4 first (tiles_of w4) × (tiles_of w4 ≡ a ++ hole place (n + m) ∷ b) × SameWords (tiles_of w4) t.words w4
    join_at a n u m b is =
        let s = shown words first t (a ++ hole place n ∷ hole u m ∷ b) kept view is in
        let left = hole_told words first a place n (hole u m ∷ b) s in
        let far = hole_told words first (a ++ hole place n ∷ []) u m b (subst (λ ts. Spells words first ts) (sym (append_assoc a (hole place n ∷ []) (hole u m ∷ b))) s) in
        let placed = far.place_is in let parts = total-append a (hole place n ∷ []) in
        let here = left.place_is in let read = left.read in
        let at_u : right ≡ u = omega arith in
        let m_is : length_of (tile_at words right) ≡ m = ap (λ (k : ℕ). length_of (tile_at words k)) at_u ∙ far.read in
        let sum : joined ≡ n + m = omega arith in
        let p = place in
        let chain = λ (k : ℕ). set (set (set (set words p (k + hole_mark)) (p + 2) next) (next + 3) p) (p + k + 1) p in
        let all : w4 ≡ chain joined = e4 ∙ ap (λ ws. set ws (p + joined + 1) p) (e3 ∙ ap (λ ws. set ws (next + 3) p) (e2 ∙ ap (λ ws. set ws (p + 2) next) e1)) in
        let next_at : next ≡ first_or b (length words) = next_is ∙ ap (λ (k : ℕ). word_at words (k + 2)) at_u ∙ far.next in
        let done = joined_words words first a p n b u m next w4 s next_at (all ∙ ap chain sum) in
        settled words w4 first t (a ++ hole p (n + m) ∷ b) view done

    pub join_done : (a b : List Tile) (n u m : ℕ) → t.tiles ≡ a ++ hole place n ∷ hole u m ∷ b
        → Spells w4 first (tiles_of w4) × ((a b : List Tile) (n u m : ℕ) → t.tiles ≡ a ++ hole place n ∷ hole u m ∷ b → tiles_of w4 ≡ a ++ hole place (n + m) ∷ b)
        × SameWords (tiles_of w4) t.words w4
    join_done a b n u m is = let one = join_at a n u m b is in (one.0, (λ a b n u m is. (join_at a n u m b is).1), one.2)
