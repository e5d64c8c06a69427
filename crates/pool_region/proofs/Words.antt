-- A block whose every place holds a word, seen as the list of its words.
use Rattle.std.proofs.Common.{◌≡◌, ℕ, zero, suc, ◌+◌, ◌-◌, ◌≤◌, List, [], ◌∷◌, ◌++◌, length, take, drop, set, get_or, map, replicate, refl, sym, ap, ◌∙◌, arith, length-append, length-take, length-drop, Option, Some}
use Rattle.std.proofs.lemmas.Grind.{common_steps}
use Rattle.std.proofs.lemmas.List.{take-map, drop-map, map-set, length-map, map-append, take_all}
use Rattle.std.specs.Prelude.{slice_range}
use Rattle.pool_region.specs.Places.{somes, IsRun, IsFull}
use Rattle.pool_region.specs.Lends.{spliced}
use Rattle.pool_region.specs.Region.{with_part}

pub somes-map : {X : Type 0} (xs : List X) → somes (map Some xs) ≡ xs
somes-map [] = refl
somes-map (x ∷ xs) = ap (λ ys. x ∷ ys) (somes-map xs)

-- what is a list of values is full
pub full-map : {X : Type 0} (cs : List (Option X)) (xs : List X) → cs ≡ map Some xs → IsFull cs
full-map cs xs e = e ∙ ap (map Some) (sym (somes-map xs) ∙ ap somes (sym e))

pub length-somes : {X : Type 0} (cs : List (Option X)) → IsFull cs → length (somes cs) ≡ length cs
length-somes cs full = sym (length-map (somes cs) Some) ∙ ap length (sym full)

-- the values of a part
pub part-map : {X : Type 0} (cs : List (Option X)) (from len : ℕ) → IsFull cs → take len (drop from cs) ≡ map Some (take len (drop from (somes cs)))
part-map cs from len full = ap (λ ds. take len (drop from ds)) full ∙ ap (take len) (drop-map Some from (somes cs)) ∙ take-map Some len (drop from (somes cs))

pub full_run : {X : Type 0} (cs : List (Option X)) (from len : ℕ) → IsFull cs → from + len ≤ length (somes cs) → IsRun cs from len
full_run cs from len full within = (omega (arith, length-somes cs full), (take len (drop from (somes cs)), part-map cs from len full))

-- what the caller of `slice` learns
pub part_is : {X : Type 0} (cs : List (Option X)) (from len : ℕ) (xs : List X) → IsFull cs → take len (drop from cs) ≡ map Some xs → xs ≡ take len (drop from (somes cs))
part_is cs from len xs full e = sym (somes-map xs) ∙ ap somes (sym e ∙ part-map cs from len full) ∙ somes-map (take len (drop from (somes cs)))

pub set-map : {X : Type 0} (cs : List (Option X)) (i : ℕ) (x : X) → IsFull cs → set cs i (Some x) ≡ map Some (set (somes cs) i x)
set-map cs i x full = ap (λ ds. set ds i (Some x)) full ∙ sym (map-set Some (somes cs) i x)

pub somes-set : {X : Type 0} (cs : List (Option X)) (i : ℕ) (x : X) → IsFull cs → somes (set cs i (Some x)) ≡ set (somes cs) i x
somes-set cs i x full = ap somes (set-map cs i x full) ∙ somes-map (set (somes cs) i x)

-- the first of the values from the index on
pub get_or-part : (ws : List ℕ) (i : ℕ) → get_or (take 1 (drop i ws)) 0 0 ≡ get_or ws i 0
get_or-part [] i = grind (arith, common_steps)
get_or-part (w ∷ ws) zero = refl
get_or-part (w ∷ ws) (suc i) = get_or-part ws i

pub slice_range-part : (ws : List ℕ) (i n : ℕ) → take n (drop i ws) ≡ slice_range ws i (i + n)
slice_range-part ws i n = let same : n ≡ i + n - i = omega arith in ap (λ (k : ℕ). take k (drop i ws)) same

-- every place was written in turn
pub map-replicate : {X : Type 0} (x : X) (n : ℕ) → replicate n (Some x) ≡ map Some (replicate n x)
map-replicate x zero = refl
map-replicate x (suc n) = ap (λ cs. Some x ∷ cs) (map-replicate x n)

pub all_same : {X : Type 0} (x : X) (cs : List (Option X)) (n : ℕ) → length cs ≡ n → take n cs ≡ replicate n (Some x) → cs ≡ map Some (replicate n x)
all_same x cs n long written = sym (take_all n cs (omega arith)) ∙ written ∙ map-replicate x n

-- a part of a full block is written over
module _ (cs : List (Option ℕ)) (from len : ℕ) (full : IsFull cs) where
  abbrev words : List ℕ
  words = somes cs

  pub somes-part : somes (take len (drop from cs)) ≡ take len (drop from words)
  somes-part = ap somes (part-map cs from len full) ∙ somes-map (take len (drop from words))

  module _ (ws : List ℕ) where
    pub spliced-full : spliced cs from len ws ≡ map Some (with_part words from len ws)
    spliced-full =
        let front = ap (take from) full ∙ take-map Some from words in
        let back = ap (drop (from + len)) full ∙ drop-map Some (from + len) words in
        ap (λ ds. ds ++ (map Some ws ++ drop (from + len) cs)) front
        ∙ ap (λ ds. map Some (take from words) ++ (map Some ws ++ ds)) back
        ∙ ap (λ ds. map Some (take from words) ++ ds) (sym (map-append Some ws (drop (from + len) words)))
        ∙ sym (map-append Some (take from words) (ws ++ drop (from + len) words))

    pub length-spliced : from + len ≤ length words → len ≡ length ws → length (spliced cs from len ws) ≡ length cs
    length-spliced within long =
        omega (
          arith,
          ap length spliced-full,
          length-map (with_part words from len ws) Some,
          length-append (take from words) (ws ++ drop (from + len) words),
          length-append ws (drop (from + len) words),
          length-take from words,
          length-drop (from + len) words,
          length-somes cs full,
        )
