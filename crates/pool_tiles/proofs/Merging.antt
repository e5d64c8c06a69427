-- A block that comes back is merged with the holes beside it, and no two holes are neighbours then.
use Rattle.std.proofs.Common.{◌≡◌, ℕ, ◌+◌, ◌≤◌, Bool, List, [], ◌∷◌, ◌++◌, append_assoc, refl, sym, ap, ◌∙◌, subst, arith, ◌⊎◌, inl, inr}
use Rattle.std.specs.Prelude.{◌==◌, if◌then◌else◌}
use Rattle.std.proofs.lemmas.Bool.{eqb-true, eq-eqb}
use Rattle.pool_tiles.specs.Tiling.{Tile, hole, block, freed, joined, merged, put_back}
use Rattle.pool_tiles.specs.Headers.{Spelled, Apart}
use Rattle.pool_tiles.proofs.Objects.{bool_cases}

joined-apart : (t : Tile) (ts : List Tile) → Apart ts → Apart (joined t ts)
joined-apart (hole p n) [] x = tt
joined-apart (hole p n) (hole q m ∷ []) x = tt
joined-apart (hole p n) (hole q m ∷ hole u i ∷ ts) x = absurd x
joined-apart (hole p n) (hole q m ∷ block u i w ∷ ts) x = x
joined-apart (hole p n) (block q m w ∷ ts) x = x
joined-apart (block p n w) ts x = x

pub merged-apart : (ts : List Tile) → Apart (merged ts)
merged-apart [] = tt
merged-apart (t ∷ ts) = joined-apart t (merged ts) (merged-apart ts)

pub merged-same : (ts : List Tile) → Apart ts → merged ts ≡ ts
merged-same [] x = refl
merged-same (hole p n ∷ []) x = refl
merged-same (hole p n ∷ hole q m ∷ ts) x = absurd x
merged-same (hole p n ∷ block q m w ∷ ts) x = ap (joined (hole p n)) (merged-same (block q m w ∷ ts) x)
merged-same (block p n w ∷ ts) x = ap (joined (block p n w)) (merged-same ts x)

-- the tiles before others, each joined to what follows it
abbrev pub onto : List Tile → List Tile → List Tile
onto [] ys = ys
onto (t ∷ ts) ys = joined t (onto ts ys)

pub merged-append : (a b : List Tile) → merged (a ++ b) ≡ onto a (merged b)
merged-append [] b = refl
merged-append (t ∷ a) b = ap (joined t) (merged-append a b)

onto-append : (a b ys : List Tile) → onto (a ++ b) ys ≡ onto a (onto b ys)
onto-append [] b ys = refl
onto-append (t ∷ a) b ys = ap (joined t) (onto-append a b ys)

-- a hole comes after them
pub onto-before_hole : (a : List Tile) (p m : ℕ) (b ys : List Tile) → Apart (a ++ hole p m ∷ b) → onto a ys ≡ a ++ ys
onto-before_hole [] p m b ys x = refl
onto-before_hole (hole q n ∷ []) p m b ys x = absurd x
onto-before_hole (hole q n ∷ hole u i ∷ a) p m b ys x = absurd x
onto-before_hole (hole q n ∷ block u i w ∷ a) p m b ys x = ap (joined (hole q n)) (onto-before_hole (block u i w ∷ a) p m b ys x)
onto-before_hole (block q n w ∷ a) p m b ys x = ap (joined (block q n w)) (onto-before_hole a p m b ys x)

-- a block is the last of them
pub onto-after_block : (a : List Tile) (p m w : ℕ) (b ys : List Tile) → Apart (a ++ block p m w ∷ b) → onto (a ++ block p m w ∷ []) ys ≡ a ++ block p m w ∷ ys
onto-after_block [] p m w b ys x = refl
onto-after_block (hole q n ∷ []) p m w b ys x = refl
onto-after_block (hole q n ∷ hole u i ∷ a) p m w b ys x = absurd x
onto-after_block (hole q n ∷ block u i v ∷ a) p m w b ys x = ap (joined (hole q n)) (onto-after_block (block u i v ∷ a) p m w b ys x)
onto-after_block (block q n v ∷ a) p m w b ys x = ap (joined (block q n v)) (onto-after_block a p m w b ys x)

pub apart-front : (a b : List Tile) → Apart (a ++ b) → Apart a
apart-front [] b x = tt
apart-front (hole p n ∷ []) b x = tt
apart-front (hole p n ∷ hole q m ∷ a) b x = absurd x
apart-front (hole p n ∷ block q m w ∷ a) b x = apart-front a b x
apart-front (block p n w ∷ a) b x = apart-front a b x

pub apart-back : (a b : List Tile) → Apart (a ++ b) → Apart b
apart-back [] b x = x
apart-back (hole p n ∷ []) [] x = tt
apart-back (hole p n ∷ []) (hole q m ∷ b) x = absurd x
apart-back (hole p n ∷ []) (block q m w ∷ b) x = x
apart-back (hole p n ∷ hole q m ∷ a) b x = absurd x
apart-back (hole p n ∷ block q m w ∷ a) b x = apart-back a b x
apart-back (block p n w ∷ a) b x = apart-back a b x

-- the one block at the place is freed
pub freed-at : (r o : ℕ → ℕ) (at back prev : ℕ) (a : List Tile) (p m w : ℕ) (b : List Tile) (next : ℕ) → Spelled r o at back prev (a ++ block p m w ∷ b) next
    → (at ≤ p) × (freed p (a ++ block p m w ∷ b) ≡ a ++ hole p m ∷ b)
freed-at r o at back prev [] p m w b next s = let e = s.0 in (omega arith, ap (λ (t : Bool). if t then hole p m ∷ b else block p m w ∷ freed p b) (eq-eqb p p refl))
freed-at r o at back prev (hole q n ∷ a) p m w b next s =
    let e = s.0 in let rest = freed-at r o (q + n) q q a p m w b next s.2 in (omega arith, ap (λ ts. hole q n ∷ ts) rest.1)
freed-at r o at back prev (block q n v ∷ a) p m w b next s =
    let e = s.0 in let long = s.1.long in let rest = freed-at r o (q + n) q prev a p m w b next s.2 in
    elim (bool_cases (q == p)) [
      | inl it ↦ let same = eqb-true q p it in absurd (omega arith)
      | inr it ↦
          (omega arith, ap (λ (t : Bool). if t then hole q n ∷ (a ++ block p m w ∷ b) else block q n v ∷ freed p (a ++ block p m w ∷ b)) it ∙ ap (λ ts. block q n v ∷ ts) rest.1)
    ]

-- what the block's return gives, by what is on either side of it
module _ (r o : ℕ → ℕ) (prev : ℕ) (a : List Tile) (p m w : ℕ) (b : List Tile) (next : ℕ) (s : Spelled r o 0 0 prev (a ++ block p m w ∷ b) next) (apart : Apart (a ++ block p m w ∷ b)) where
  returned : put_back p (a ++ block p m w ∷ b) ≡ onto a (joined (hole p m) b)
  returned = ap merged (freed-at r o 0 0 prev a p m w b next s).1 ∙ merged-append a (hole p m ∷ b) ∙ ap (λ ts. onto a (joined (hole p m) ts)) (merged-same b (apart-back a (block p m w ∷ b) apart))

  pub returned-front : a ≡ [] → put_back p (a ++ block p m w ∷ b) ≡ a ++ joined (hole p m) b
  returned-front e = returned ∙ ap (λ ts. onto ts (joined (hole p m) b)) e ∙ ap (λ ts. ts ++ joined (hole p m) b) (sym e)

  pub returned-alone : (c : List Tile) (q n v : ℕ) → a ≡ c ++ block q n v ∷ [] → put_back p (a ++ block p m w ∷ b) ≡ a ++ joined (hole p m) b
  returned-alone c q n v e =
      let ys = joined (hole p m) b in
      let here : Apart (c ++ block q n v ∷ []) = subst Apart e (apart-front a (block p m w ∷ b) apart) in
      returned ∙ ap (λ ts. onto ts ys) e ∙ onto-after_block c q n v [] ys here ∙ sym (append_assoc c (block q n v ∷ []) ys) ∙ ap (λ ts. ts ++ ys) (sym e)

  pub returned-joined : (c : List Tile) (q n : ℕ) → a ≡ c ++ hole q n ∷ [] → put_back p (a ++ block p m w ∷ b) ≡ c ++ joined (hole q n) (joined (hole p m) b)
  returned-joined c q n e =
      let ys = joined (hole p m) b in
      let here : Apart (c ++ hole q n ∷ []) = subst Apart e (apart-front a (block p m w ∷ b) apart) in
      returned ∙ ap (λ ts. onto ts ys) e ∙ onto-append c (hole q n ∷ []) ys ∙ onto-before_hole c q n [] (joined (hole q n) ys) here

-- some tile is the last
pub last_tile : (a : List Tile) → (a ≡ []) ⊎ ((c : List Tile) × (t : Tile) × (a ≡ c ++ t ∷ []))
last_tile [] = inl refl
last_tile (t ∷ []) = inr ([], t, refl)
last_tile (t ∷ u ∷ a) =
    elim (last_tile (u ∷ a)) [
      | inl e ↦ inr ([], t, ap (λ ts. t ∷ ts) e)
      | inr x ↦ inr (t ∷ x.0, x.1, ap (λ ts. t ∷ ts) x.2)
    ]
