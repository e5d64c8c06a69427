-- A pool as a list of holes and blocks in order of place. No definition here knows of headers.
use Rattle.std.specs.Prelude.{ℕ, zero, suc, ◌+◌, ◌-◌, ◌<◌, nat_lt, nat_le, ◌==◌, if◌then◌else◌, List, [], ◌∷◌, ◌++◌, map, Option, Some, None}

-- A hole has a place and a length; a block, a place, a length and the owner whom it was taken for. A place is the index of the first word.
pub data Tile : Type 0 where
  hole : ℕ → ℕ → Tile
  block : ℕ → ℕ → ℕ → Tile

-- where a tile begins
abbrev pub place_of : Tile → ℕ
place_of (hole place n) = place
place_of (block place n owner) = place

-- how many words it has
abbrev pub length_of : Tile → ℕ
length_of (hole place n) = n
length_of (block place n owner) = n

-- whom it was taken for, 0 for a hole
abbrev pub owner_of : Tile → ℕ
owner_of (hole place n) = 0
owner_of (block place n owner) = owner

-- the words of a block that holds an object of so many words: a header of 4 comes first
abbrev pub block_words : ℕ → ℕ
block_words object = object + 4

-- a new pool is one hole, or has none where it has not the words of a header
abbrev pub new_tiling : ℕ → List Tile
new_tiling words = if nat_lt words 4 then [] else hole 0 words ∷ []

-- A block of n words at the front of a hole; a rest that is too short for a header goes with it, and a longer one stays a hole.
abbrev pub cut : ℕ → ℕ → ℕ → ℕ → List Tile
cut owner n place length =
    if nat_lt length (n + 4) then block place length owner ∷ [] else block place n owner ∷ hole (place + n) (length - n) ∷ []

-- the same behind one more tile
abbrev pub behind : Tile → Option (ℕ × List Tile) → Option (ℕ × List Tile)
behind t None = None
behind t (Some found) = Some (found.0, t ∷ found.1)

-- First fit: a block of n words is cut from the first hole that has them; its place, and the tiling then.
abbrev pub fit : ℕ → ℕ → List Tile → Option (ℕ × List Tile)
fit owner n [] = None
fit owner n (hole place length ∷ ts) =
    if nat_le n length then Some (place, cut owner n place length ++ ts) else behind (hole place length) (fit owner n ts)
fit owner n (block place length other ∷ ts) = behind (block place length other) (fit owner n ts)

-- a hole of n words, or none where n is 0
abbrev pub rest_hole : ℕ → ℕ → List Tile
rest_hole place zero = []
rest_hole place (suc n) = hole place (suc n) ∷ []

-- A block of exactly n words at the front of a hole, however short the rest is.
abbrev pub cut_exactly : ℕ → ℕ → ℕ → ℕ → List Tile
cut_exactly owner n place length = block place n owner ∷ rest_hole (place + n) (length - n)

-- Mark and release: the one hole, behind all blocks, gives a block of exactly n words; its place, and the tiling then.
abbrev pub pile : ℕ → ℕ → List Tile → Option (ℕ × List Tile)
pile owner n [] = None
pile owner n (hole place length ∷ ts) =
    if nat_le n length then Some (place, cut_exactly owner n place length ++ ts) else behind (hole place length) (pile owner n ts)
pile owner n (block place length other ∷ ts) = behind (block place length other) (pile owner n ts)

-- the block at the place becomes a hole
abbrev pub freed : ℕ → List Tile → List Tile
freed at [] = []
freed at (hole place n ∷ ts) = hole place n ∷ freed at ts
freed at (block place n owner ∷ ts) = if place == at then hole place n ∷ ts else block place n owner ∷ freed at ts

-- a tile before others; two holes become one
abbrev pub joined : Tile → List Tile → List Tile
joined (hole place n) (hole next m ∷ ts) = hole place (n + m) ∷ ts
joined (hole place n) (block next m owner ∷ ts) = hole place n ∷ block next m owner ∷ ts
joined (hole place n) [] = hole place n ∷ []
joined (block place n owner) ts = block place n owner ∷ ts

-- neighbouring holes become one
abbrev pub merged : List Tile → List Tile
merged [] = []
merged (t ∷ ts) = joined t (merged ts)

-- the block at the place becomes a hole, merged with neighbouring holes
abbrev pub put_back : ℕ → List Tile → List Tile
put_back at ts = merged (freed at ts)

-- a block of the owner becomes a hole, and any other tile stays
abbrev pub let_go : ℕ → Tile → Tile
let_go owner (hole place n) = hole place n
let_go owner (block place n other) = if other == owner then hole place n else block place n other

-- all blocks of the owner become holes, merged with neighbouring holes
abbrev pub closed : ℕ → List Tile → List Tile
closed owner ts = merged (map (let_go owner) ts)

-- the length of the block that begins at the place, 0 where none does
abbrev pub block_length : List Tile → ℕ → ℕ
block_length [] at = 0
block_length (hole place n ∷ ts) at = block_length ts at
block_length (block place n owner ∷ ts) at = if place == at then n else block_length ts at

-- the owner of the block that begins at the place, 0 where none does
abbrev pub block_owner : List Tile → ℕ → ℕ
block_owner [] at = 0
block_owner (hole place n ∷ ts) at = block_owner ts at
block_owner (block place n owner ∷ ts) at = if place == at then owner else block_owner ts at

-- a block begins at the place
abbrev pub IsTaken : List Tile → ℕ → Type 0
IsTaken ts at = 0 < block_length ts at

-- The block at the place has a word of its user's with this index: 0 and 1 are its links, then come its object's words.
abbrev pub HasWord : List Tile → ℕ → ℕ → Type 0
HasWord ts at i = i + 2 < block_length ts at

-- the index of a word of the object, from 0
abbrev pub of_object : ℕ → ℕ
of_object i = i + 2
