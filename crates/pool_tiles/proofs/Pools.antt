-- A new pool, and one whose object words are written.
use Rattle.std.proofs.Common.{◌≡◌, ◌≢◌, ℕ, ◌+◌, ◌≤◌, ◌<◌, ◌^◌, Bool, List, [], ◌∷◌, ◌++◌, length, replicate, set, refl, sym, ap, ◌∙◌, subst, arith, ◌⊎◌, inl, inr, length-set, get_or-set_same, get_or-set_other}
use Rattle.std.specs.Prelude.{if◌then◌else◌}
use Rattle.std.proofs.lemmas.Bool.{lt-ltb, le-ltb}
use Rattle.std.proofs.lemmas.List.{get_or-replicate, length-replicate}
use Rattle.pool_tiles.specs.Tiling.{Tile, hole, block, new_tiling, block_length, IsTaken, HasWord}
use Rattle.pool_tiles.specs.Headers.{first_or, last_or, hole_mark, Spelled, word_at, tiles_of, Spells}
use Rattle.pool_tiles.specs.Tiled.{Tiled, BlockIn, user_word}
use Rattle.pool_tiles.specs.Kept.{KeepsWords}
use Rattle.pool_tiles.proofs.Spelling.{front_part}
use Rattle.pool_tiles.proofs.Linking.{zero_or_more, holes, first_or-blocks, last_or-blocks, last_within, last_names}
use Rattle.pool_tiles.proofs.Spelling.{first_or-append}
use Rattle.pool_tiles.proofs.Reading.{read_back}
use Rattle.pool_tiles.proofs.Objects.{same_or_not, block_within, rewritten, length_at, blocks_apart}
use Rattle.pool_tiles.proofs.Done.{covered}
use Rattle.pool_tiles.proofs.Told.{block_told, seen, shown}
use Rattle.pool_tiles.proofs.Written.{written, length_after, length-written, word_at-written, word_at-last}

-- a pool too small for a header has no tile
pub empty_pool : (words : List ℕ) → length words < 4 → Spells words (length words) []
empty_pool words few =
    record { spelled = tt; whole = λ more. absurd (omega arith); small = λ _. refl; starts = refl; few = omega arith }

pub new-empty : (n : ℕ) → n < 4 → new_tiling n ≡ []
new-empty n few = ap (λ (b : Bool). if b then [] else hole 0 n ∷ []) (lt-ltb n 4 few)

pub new-whole : (n : ℕ) → 4 ≤ n → new_tiling n ≡ hole 0 n ∷ []
new-whole n more = ap (λ (b : Bool). if b then [] else hole 0 n ∷ []) (le-ltb n 4 more)

-- a larger one is one hole
pub whole_pool : (n : ℕ) (ws w1 w2 w3 : List ℕ) → ws ≡ replicate n 0 → 4 ≤ n → n < 2 ^ 32 → w1 ≡ set ws 0 (n + hole_mark) → w2 ≡ set w1 2 n → w3 ≡ set w2 3 n
    → Spells w3 0 (hole 0 n ∷ [])
whole_pool n ws w1 w2 w3 e0 more few e1 e2 e3 =
    let all : w3 ≡ written ws ((0, n + hole_mark) ∷ (2, n) ∷ (3, n) ∷ []) = e3 ∙ ap (λ w. set w 3 n) (e2 ∙ ap (λ w. set w 2 n) e1) in
    let long0 : length ws ≡ n = ap length e0 ∙ length-replicate n 0 in
    let same : length w3 ≡ n = ap length all ∙ length-written ws ((0, n + hole_mark) ∷ (2, n) ∷ (3, n) ∷ []) ∙ long0 in
    let v1 = set ws 0 (n + hole_mark) in let v2 = set v1 2 n in
    let long1 = length-set ws 0 (n + hole_mark) in let long2 = length-set v1 2 n in
    let now = λ (k : ℕ). ap (λ (w : List ℕ). word_at w k) all in
    let spelled : Spelled (word_at w3) (word_at w3) 0 0 n (hole 0 n ∷ []) n = (
      refl,
      record {
        long = more;
        size = now 0 ∙ word_at-last ws 0 (n + hole_mark) 0 ((2, n) ∷ (3, n) ∷ []) refl (omega arith) ((λ e. absurd (omega arith)), ((λ e. absurd (omega arith)), tt));
        before = now 1 ∙ word_at-written ws ((0, n + hole_mark) ∷ (2, n) ∷ (3, n) ∷ []) 1 ((λ e. absurd (omega arith)), ((λ e. absurd (omega arith)), ((λ e. absurd (omega arith)), tt)))
            ∙ ap (λ (w : List ℕ). word_at w 1) e0 ∙ get_or-replicate n 1 0 0 (omega arith);
        next_is = now 2 ∙ word_at-last v1 2 n 2 ((3, n) ∷ []) refl (omega arith) ((λ e. absurd (omega arith)), tt);
        prev_is = now 3 ∙ word_at-last v2 3 n 3 [] refl (omega arith) tt;
      },
      tt,
    ) in
    record {
      spelled = subst (λ (k : ℕ). Spelled (word_at w3) (word_at w3) 0 0 k (hole 0 n ∷ []) k) (sym same) spelled;
      whole = λ _. omega arith;
      small = λ less. absurd (omega arith);
      starts = refl;
      few = omega arith;
    }

-- the hole after a block is named by the hole before it, or else is the first
pub next_of : (words : List ℕ) (first : ℕ) (a : List Tile) (p m w : ℕ) (b : List Tile) → Spells words first (a ++ block p m w ∷ b) → (previous next : ℕ)
    → previous ≡ last_or (length words) a → (previous < length words → next ≡ word_at words (previous + 2)) → (length words ≤ previous → next ≡ first) → next ≡ first_or b (length words)
next_of words first a p m w b s previous next previous_is named front =
    let n = length words in let r = word_at words in
    let spelled = front_part r r 0 0 n a (block p m w ∷ b) n s.spelled in
    let told = block_told words first a p m w b s in let place = told.place_is in let inside = told.inside in
    elim (zero_or_more (holes a)) [
      | inl none ↦ let same = last_or-blocks a n none in
          front (omega arith) ∙ s.starts ∙ first_or-append a (block p m w ∷ b) n ∙ first_or-blocks a (first_or b n) none
      | inr some ↦ let within = last_within r r 0 0 n a (first_or b n) spelled some in
          named (omega arith) ∙ ap (λ (k : ℕ). r (k + 2)) previous_is ∙ last_names r r 0 0 n a (first_or b n) spelled some
    ]

-- the last hole before a block lies before it
pub previous_room : (words : List ℕ) (first : ℕ) (a : List Tile) (p m w : ℕ) (b : List Tile) → Spells words first (a ++ block p m w ∷ b) → (previous : ℕ)
    → previous ≡ last_or (length words) a → previous < length words → previous + 4 ≤ length words
previous_room words first a p m w b s previous previous_is less =
    let n = length words in let r = word_at words in
    let spelled = front_part r r 0 0 n a (block p m w ∷ b) n s.spelled in
    let told = block_told words first a p m w b s in let place = told.place_is in let inside = told.inside in
    elim (zero_or_more (holes a)) [
      | inl none ↦ let same = last_or-blocks a n none in absurd (omega arith)
      | inr some ↦ let within = last_within r r 0 0 n a (first_or b n) spelled some in omega arith
    ]

-- a block of the tiling lies in the pool
pub block_inside : (words : List ℕ) (first : ℕ) (t : Tiled) (place : ℕ) → Spells words first (tiles_of words) → seen words ≡ t → 0 < block_length t.tiles place
    → (place + block_length t.tiles place ≤ length words) × (4 ≤ block_length t.tiles place) × (length words < 2 ^ 32)
block_inside words first t place kept view some =
    let s = shown words first t t.tiles kept view refl in let n = length words in
    let within = block_within (word_at words) (word_at words) 0 0 n t.tiles n place s.spelled some in
    let whole = covered words first t.tiles s (omega arith) in (omega arith, within.2, s.few)

-- object words of one block are written, from one place up to another
pub written_objects : (words after : List ℕ) (first : ℕ) (t : Tiled) (place from to : ℕ) → Spells words first (tiles_of words) → seen words ≡ t → 0 < block_length t.tiles place
    → place + 2 ≤ from → to ≤ place + block_length t.tiles place → length after ≡ length words
    → ((k : ℕ) → (k < from) ⊎ (to ≤ k) → word_at after k ≡ word_at words k) → Spells after first (tiles_of after) × (tiles_of after ≡ t.tiles)
written_objects words after first t place from to kept view some low high long others =
    let s = shown words first t t.tiles kept view refl in let n = length words in
    let whole = s.whole in let few = s.few in
    let done : Spells after first t.tiles = record {
      spelled = subst (λ (k : ℕ). Spelled (word_at after) (word_at after) 0 0 k t.tiles k) (sym long)
          (rewritten (word_at words) (word_at after) 0 0 n t.tiles n place from to s.spelled some low high (λ k _ _ out. others k out));
      whole = λ more. s.whole (subst (λ (k : ℕ). 4 ≤ k) long more) ∙ sym long;
      small = λ less. s.small (subst (λ (k : ℕ). k < 4) long less);
      starts = s.starts ∙ ap (first_or t.tiles) (sym long);
      few = subst (λ (k : ℕ). k < 2 ^ 32) (sym long) s.few;
    } in
    let is = read_back after first t.tiles done in
    (subst (λ ts. Spells after first ts) (sym is) done, is)

-- the block at the place, by its length
pub block_at : (words : List ℕ) (first : ℕ) (t : Tiled) (place : ℕ) → Spells words first (tiles_of words) → seen words ≡ t → (h : BlockIn t.tiles place) → block_length t.tiles place ≡ h.n
block_at words first t place kept view h =
    let s = shown words first t (h.earlier ++ block place h.n h.owner ∷ h.later) kept view h.is in
    ap (λ ts. block_length ts place) h.is ∙ (length_at (word_at words) (word_at words) 0 0 (length words) h.earlier place h.n h.owner h.later (length words) s.spelled).1

-- the object words of one block are written, and those of another are not
pub other_objects : (words after : List ℕ) (first : ℕ) (t : Tiled) (place other i : ℕ) → Spells words first (tiles_of words) → seen words ≡ t → 0 < block_length t.tiles place
    → HasWord t.tiles other i → other ≢ place
    → ((k : ℕ) → (k < place + 2) ⊎ (place + block_length t.tiles place ≤ k) → word_at after k ≡ word_at words k) → word_at after (other + 2 + i) ≡ word_at words (other + 2 + i)
other_objects words after first t place other i kept view some has ne others =
    let s = shown words first t t.tiles kept view refl in
    others (other + 2 + i)
    (elim (blocks_apart (word_at words) (word_at words) 0 0 (length words) t.tiles (length words) other place s.spelled (omega arith) some ne) [
      | inl before ↦ inl (omega arith)
      | inr behind ↦ inr (omega arith)
    ])

-- where a user's word lies
pub record Inside (words : List ℕ) (t : Tiled) (place at : ℕ) : Type 0 where
  pub within : at < length words
  pub few : length words < 2 ^ 32
  pub low : place + 2 ≤ at

pub word_inside : (words : List ℕ) (first : ℕ) (t : Tiled) (place i at : ℕ) → Spells words first (tiles_of words) → seen words ≡ t → at ≡ place + 2 + i → HasWord t.tiles place i
    → Inside words t place at
word_inside words first t place i at kept view e has =
    let b = block_inside words first t place kept view (omega arith) in let inside = b.0 in record { within = omega arith; few = b.2; low = omega arith }

-- a link is there
pub link_there : (words : List ℕ) (first : ℕ) (t : Tiled) (place which : ℕ) → Spells words first (tiles_of words) → seen words ≡ t → IsTaken t.tiles place × (which < 2) → HasWord t.tiles place which
link_there words first t place which kept view r =
    let b = block_inside words first t place kept view r.0 in let long = b.1 in let low = r.1 in omega arith

-- one user's word is written
pub record Wrote (words : List ℕ) (first : ℕ) (t : Tiled) (place i word : ℕ) (after : List ℕ) : Type 0 where
  pub spells : Spells after first (tiles_of after)
  pub tiles : tiles_of after ≡ t.tiles
  pub written_is : user_word after place i ≡ word
  pub kept_words : KeepsWords (λ other j. (other ≡ place) × (j ≡ i) → ⊥) (tiles_of after) (user_word t.words) (user_word after)

-- another word of the same object, or one of another
other_word : (words after : List ℕ) (first : ℕ) (t : Tiled) (place index word other i : ℕ) → Spells words first (tiles_of words) → seen words ≡ t → after ≡ set words (place + 2 + index) word
    → HasWord t.tiles place index → HasWord t.tiles other i → ((other ≡ place) × (i ≡ index) → ⊥) → word_at after (other + 2 + i) ≡ word_at words (other + 2 + i)
other_word words after first t place index word other i kept view is here has ne =
    let at = place + 2 + index in
    let others = λ (k : ℕ) (away : k ≢ at). ap (λ (ws : List ℕ). word_at ws k) is ∙ get_or-set_other words at k word 0 away in
    elim (same_or_not other place) [
      | inl same ↦ others (other + 2 + i) (λ e. ne (same, omega arith))
      | inr away ↦ other_objects words after first t place other i kept view (omega arith) has away
          (λ k out. others k (λ e. elim out [ inl below ↦ absurd (omega arith) | inr above ↦ absurd (omega arith) ]))
    ]

pub wrote_told : (words : List ℕ) (first : ℕ) (t : Tiled) (place i word at : ℕ) (after : List ℕ) → Spells words first (tiles_of words) → seen words ≡ t → after ≡ set words at word
    → at ≡ place + 2 + i → HasWord t.tiles place i → Wrote words first t place i word after
wrote_told words first t place i word at after kept view is e has =
    let is2 : after ≡ set words (place + 2 + i) word = is ∙ ap (λ (k : ℕ). set words k word) e in
    let inside = (word_inside words first t place i at kept view e has).within in
    let done = written_objects words after first t place (place + 2 + i) (place + 2 + i + 1) kept view (omega arith) (omega arith) (omega arith)
    (length_after words after at word is)
    (λ k out. let other : k ≢ place + 2 + i = λ e. elim out [ inl below ↦ absurd (omega arith) | inr above ↦ absurd (omega arith) ] in
    ap (λ (ws : List ℕ). word_at ws k) is2 ∙ get_or-set_other words (place + 2 + i) k word 0 other) in
    record {
      spells = done.0;
      tiles = done.1;
      written_is = ap (λ (ws : List ℕ). word_at ws (place + 2 + i)) is2 ∙ get_or-set_same words (place + 2 + i) word 0 (omega arith);
      kept_words = λ other j there ne. other_word words after first t place i word other j kept view is2 has (subst (λ ts. HasWord ts other j) done.1 there) ne
          ∙ ap (λ (u : Tiled). word_at u.words (other + 2 + j)) view;
    }
