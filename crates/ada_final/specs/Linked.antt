-- Lists of places that blocks hold by their links, newest first.
use Rattle.std.specs.Prelude.{◌≡◌, ◌≢◌, ℕ, zero, suc, ◌-◌, ◌^◌, ◌<◌, ◌≤◌, ◌⊎◌, ◌==◌, if◌then◌else◌, List, [], ◌∷◌, ◌++◌, length}
use Rattle.pool_tiles.specs.Tiling.{Tile, block_length}
use Rattle.pool_tiles.specs.Kept.{KeepsWords}
use Rattle.ada_final.specs.declared.chain.Chain.{Chain}

-- The places from the one that is named on, so many of them. A place is named by the number after it, and 0 names none; link 0 of a block names the next older one.
abbrev pub followed : ℕ → ℕ → (ℕ → ℕ → ℕ) → List ℕ
followed zero name word = []
followed (suc n) name word = (name - 1) ∷ followed n (word (name - 1) 0) word

-- the places of a chain, newest first, in a pool whose blocks have these words
abbrev pub places : (ℕ → ℕ → ℕ) → Chain → List ℕ
places word chain = followed chain.left chain.newest word

-- the place is not in the list
abbrev pub NotIn : ℕ → List ℕ → Type 0
NotIn place [] = Unit {0}
NotIn place (other ∷ others) = (place ≢ other) × NotIn place others

-- the place is in the list
abbrev pub IsIn : ℕ → List ℕ → Type 0
IsIn place [] = ⊥
IsIn place (other ∷ others) = (place ≡ other) ⊎ IsIn place others

-- no place is in both lists
abbrev pub Apart : List ℕ → List ℕ → Type 0
Apart [] others = Unit {0}
Apart (place ∷ ps) others = NotIn place others × Apart ps others

-- no place is there twice
abbrev pub Once : List ℕ → Type 0
Once [] = Unit {0}
Once (place ∷ ps) = NotIn place ps × Once ps

-- each is the place of a taken block, which has the words of a header, and less than 2^32
abbrev pub AllTaken : List Tile → List ℕ → Type 0
AllTaken ts [] = Unit {0}
AllTaken ts (place ∷ ps) = (4 ≤ block_length ts place) × (place < 2 ^ 32) × AllTaken ts ps

-- each block names the older one by link 0, and by link 1 the newer one, which the name `newer` is for the first
abbrev pub Linked : (ℕ → ℕ → ℕ) → ℕ → ℕ → List ℕ → Type 0
Linked word newer name [] = name ≡ 0
Linked word newer name (place ∷ older) = (name ≡ suc place) × (word place 1 ≡ newer) × Linked word (suc place) (word place 0) older

-- The chain holds together in a pool of this tiling, whose blocks have these words.
pub record Chained (ts : List Tile) (word : ℕ → ℕ → ℕ) (chain : Chain) : Type 0 where
  pub linked : Linked word 0 chain.newest (places word chain)
  pub once : Once (places word chain)
  pub taken : AllTaken ts (places word chain)

-- a chain with none of these places holds together as it did, with the same places
abbrev pub LeavesOthers : List ℕ → List Tile → (ℕ → ℕ → ℕ) → (ℕ → ℕ → ℕ) → Type 0
LeavesOthers touched ts old new =
    (other : Chain) → Chained ts old other → Apart (places old other) touched → Chained ts new other × (places new other ≡ places old other)

-- each user's word of these tiles is as it was, but for the two links of the blocks at these places
abbrev pub KeepsAllButLinks : List ℕ → List Tile → (ℕ → ℕ → ℕ) → (ℕ → ℕ → ℕ) → Type 0
KeepsAllButLinks touched ts old new = KeepsWords (λ other i. IsIn other touched × (i < 2) → ⊥) ts old new

-- the list without the place
abbrev pub without_place : ℕ → List ℕ → List ℕ
without_place place [] = []
without_place place (other ∷ others) = if other == place then others else other ∷ without_place place others

-- the place stands at this index
pub record StandsAt (i place : ℕ) (ps : List ℕ) : Type 0 where
  pub before : List ℕ
  pub behind : List ℕ
  pub is : ps ≡ before ++ place ∷ behind
  pub count : length before ≡ i

-- a block stays with both its links
abbrev pub LinksStay : List Tile → (ℕ → ℕ → ℕ) → (ℕ → ℕ → ℕ) → ℕ → Type 0
LinksStay ts old new place = (4 ≤ block_length ts place) × (new place 0 ≡ old place 0) × (new place 1 ≡ old place 1)

-- Whatever becomes of its pool, a chain holds together with the same places as long as its blocks stay with their links.
abbrev pub ChainsStay : Type 0
ChainsStay = (ts us : List Tile) (old new : ℕ → ℕ → ℕ) (chain : Chain) → Chained ts old chain
    → ((place : ℕ) → IsIn place (places old chain) → LinksStay us old new place) → Chained us new chain × (places new chain ≡ places old chain)
