-- Words that are written one after another.
use Rattle.std.proofs.Common.{◌≡◌, ◌≢◌, ℕ, ◌<◌, List, [], ◌∷◌, length, set, refl, ap, ◌∙◌, length-set, get_or-set_other, get_or-set_same}
use Rattle.pool_tiles.specs.Headers.{word_at}

-- each word to its place, in order
abbrev pub written : List ℕ → List (ℕ × ℕ) → List ℕ
written ws [] = ws
written ws (x ∷ xs) = written (set ws x.0 x.1) xs

abbrev pub NotIn : ℕ → List (ℕ × ℕ) → Type 0
NotIn k [] = Unit {0}
NotIn k (x ∷ xs) = (k ≢ x.0) × NotIn k xs

pub length-written : (ws : List ℕ) (xs : List (ℕ × ℕ)) → length (written ws xs) ≡ length ws
length-written ws [] = refl
length-written ws (x ∷ xs) = length-written (set ws x.0 x.1) xs ∙ length-set ws x.0 x.1

pub word_at-written : (ws : List ℕ) (xs : List (ℕ × ℕ)) (k : ℕ) → NotIn k xs → word_at (written ws xs) k ≡ word_at ws k
word_at-written ws [] k out = refl
word_at-written ws (x ∷ xs) k out = word_at-written (set ws x.0 x.1) xs k out.1 ∙ get_or-set_other ws x.0 k x.1 0 out.0

-- the last word that is written to the place
pub word_at-last : (ws : List ℕ) (i v k : ℕ) (xs : List (ℕ × ℕ)) → k ≡ i → i < length ws → NotIn i xs → word_at (written (set ws i v) xs) k ≡ v
word_at-last ws i v k xs e inside out =
    ap (word_at (written (set ws i v) xs)) e ∙ word_at-written (set ws i v) xs i out ∙ get_or-set_same ws i v 0 inside

-- a word that is written leaves the number of words
pub length_after : (ws after : List ℕ) (i v : ℕ) → after ≡ set ws i v → length after ≡ length ws
length_after ws after i v e = ap length e ∙ length-set ws i v
