-- The owners of blocks, as the steps leave them.
use Rattle.std.proofs.Common.{◌≡◌, ◌≢◌, ℕ, ◌+◌, ◌-◌, Bool, List, [], ◌∷◌, ◌++◌, map, refl, sym, ap, ◌∙◌, arith, inl, inr}
use Rattle.std.specs.Prelude.{◌==◌, nat_lt, if◌then◌else◌}
use Rattle.std.proofs.lemmas.Bool.{eqb-true, eq-eqb}
use Rattle.pool_tiles.specs.Tiling.{Tile, hole, block, cut, joined, merged, freed, put_back, block_length, block_owner, let_go, closed}
use Rattle.pool_tiles.specs.Kept.{KeepsBlocks}
use Rattle.pool_tiles.proofs.Objects.{bool_cases, same_or_not, length-cut, length-put_back, length-merged, length-here, length-behind}

-- the block's own owner, or that of the one that is sought behind it
pub owner-here : (p at n w : ℕ) (ts : List Tile) → p ≡ at → block_owner (block p n w ∷ ts) at ≡ w
owner-here p at n w ts e = ap (λ (b : Bool). if b then w else block_owner ts at) (eq-eqb p at e)

pub owner-behind : (p at n w : ℕ) (ts : List Tile) → p ≢ at → block_owner (block p n w ∷ ts) at ≡ block_owner ts at
owner-behind p at n w ts ne =
    elim (bool_cases (p == at)) [
      | inl yes_it ↦ absurd (ne (eqb-true p at yes_it))
      | inr no_it ↦ ap (λ (b : Bool). if b then w else block_owner ts at) no_it
    ]

-- a hole at another place or a block there
pub owner-other : (a : List Tile) (p m w : ℕ) (b : List Tile) (q : ℕ) → q ≢ p → block_owner (a ++ block p m w ∷ b) q ≡ block_owner (a ++ hole p m ∷ b) q
owner-other [] p m w b q ne = owner-behind p q m w b (λ e. ne (sym e))
owner-other (hole k n ∷ a) p m w b q ne = owner-other a p m w b q ne
owner-other (block k n v ∷ a) p m w b q ne =
    elim (same_or_not k q) [
      | inl here ↦ owner-here k q n v (a ++ block p m w ∷ b) here ∙ sym (owner-here k q n v (a ++ hole p m ∷ b) here)
      | inr behind ↦
          owner-behind k q n v (a ++ block p m w ∷ b) behind ∙ owner-other a p m w b q ne ∙ sym (owner-behind k q n v (a ++ hole p m ∷ b) behind)
    ]

-- holes that are joined change no block
pub owner-joined : (a : List Tile) (p m : ℕ) (b : List Tile) (q : ℕ) → block_owner (a ++ joined (hole p m) b) q ≡ block_owner (a ++ hole p m ∷ b) q
owner-joined [] p m [] q = refl
owner-joined [] p m (hole u i ∷ b) q = refl
owner-joined [] p m (block u i w ∷ b) q = refl
owner-joined (hole k n ∷ a) p m b q = owner-joined a p m b q
owner-joined (block k n v ∷ a) p m b q = ap (λ (l : ℕ). if k == q then v else l) (owner-joined a p m b q)

-- a block that is cut from a hole changes no other
pub owner-cut : (a : List Tile) (owner n p m : ℕ) (b : List Tile) (q : ℕ) → q ≢ p → block_owner (a ++ (cut owner n p m ++ b)) q ≡ block_owner (a ++ hole p m ∷ b) q
owner-cut [] owner n p m b q ne =
    elim (bool_cases (nat_lt m (n + 4))) [
      | inl short ↦
          ap (λ (t : Bool). block_owner ((if t then block p m owner ∷ [] else block p n owner ∷ hole (p + n) (m - n) ∷ []) ++ b) q) short ∙ owner-behind p q m owner b (λ e. ne (sym e))
      | inr long ↦
          ap (λ (t : Bool). block_owner ((if t then block p m owner ∷ [] else block p n owner ∷ hole (p + n) (m - n) ∷ []) ++ b) q) long
          ∙ owner-behind p q n owner (hole (p + n) (m - n) ∷ b) (λ e. ne (sym e))
    ]
owner-cut (hole k l ∷ a) owner n p m b q ne = owner-cut a owner n p m b q ne
owner-cut (block k l v ∷ a) owner n p m b q ne = ap (λ (i : ℕ). if k == q then v else i) (owner-cut a owner n p m b q ne)

-- nor does one that comes back
owner-merge : (t : Tile) (ts : List Tile) (q : ℕ) → block_owner (joined t ts) q ≡ block_owner (t ∷ ts) q
owner-merge (hole p m) ts q = owner-joined [] p m ts q
owner-merge (block p m w) ts q = refl

owner-merged : (ts : List Tile) (q : ℕ) → block_owner (merged ts) q ≡ block_owner ts q
owner-merged [] q = refl
owner-merged (hole p m ∷ ts) q = owner-merge (hole p m) (merged ts) q ∙ owner-merged ts q
owner-merged (block p m w ∷ ts) q = ap (λ (i : ℕ). if p == q then w else i) (owner-merged ts q)

owner-freed : (at : ℕ) (ts : List Tile) (q : ℕ) → q ≢ at → block_owner (freed at ts) q ≡ block_owner ts q
owner-freed at [] q ne = refl
owner-freed at (hole p m ∷ ts) q ne = owner-freed at ts q ne
owner-freed at (block p m w ∷ ts) q ne =
    elim (same_or_not p at) [
      | inl here ↦
          ap (λ (b : Bool). block_owner (if b then hole p m ∷ ts else block p m w ∷ freed at ts) q) (eq-eqb p at here) ∙ sym (owner-behind p q m w ts (λ e. ne (sym e ∙ here)))
      | inr away ↦
          elim (bool_cases (p == at)) [
            | inl it ↦ absurd (away (eqb-true p at it))
            | inr it ↦
                ap (λ (b : Bool). block_owner (if b then hole p m ∷ ts else block p m w ∷ freed at ts) q) it ∙ ap (λ (i : ℕ). if p == q then w else i) (owner-freed at ts q ne)
          ]
    ]

pub owner-put_back : (at : ℕ) (ts : List Tile) (q : ℕ) → q ≢ at → block_owner (put_back at ts) q ≡ block_owner ts q
owner-put_back at ts q ne = owner-merged (freed at ts) q ∙ owner-freed at ts q ne

-- a block of the owner goes, and another stays
pub goes : (w p n x : ℕ) → x ≡ w → let_go w (block p n x) ≡ hole p n
goes w p n x e = ap (λ (b : Bool). if b then hole p n else block p n x) (eq-eqb x w e)

pub stays : (w p n x : ℕ) → x ≢ w → let_go w (block p n x) ≡ block p n x
stays w p n x ne =
    elim (bool_cases (x == w)) [
      | inl it ↦ absurd (ne (eqb-true x w it))
      | inr it ↦ ap (λ (b : Bool). if b then hole p n else block p n x) it
    ]

-- what a closing leaves of blocks of other owners
length-let_go : (w : ℕ) (ts : List Tile) (q : ℕ) → block_owner ts q ≢ w → block_length (map (let_go w) ts) q ≡ block_length ts q
length-let_go w [] q ne = refl
length-let_go w (hole p n ∷ ts) q ne = length-let_go w ts q ne
length-let_go w (block p n x ∷ ts) q ne =
    elim (same_or_not p q) [
      | inl here ↦ elim (same_or_not x w) [
        | inl mine ↦ absurd (ne (owner-here p q n x ts here ∙ mine))
        | inr other ↦ ap (λ (t : Tile). block_length (t ∷ map (let_go w) ts) q) (stays w p n x other) ∙ length-here p q n x (map (let_go w) ts) here ∙ sym (length-here p q n x ts here)
      ]
      | inr behind ↦
          let rest = length-let_go w ts q (λ e. ne (owner-behind p q n x ts behind ∙ e)) in
          elim (same_or_not x w) [
            | inl mine ↦ ap (λ (t : Tile). block_length (t ∷ map (let_go w) ts) q) (goes w p n x mine) ∙ rest ∙ sym (length-behind p q n x ts behind)
            | inr other ↦ ap (λ (t : Tile). block_length (t ∷ map (let_go w) ts) q) (stays w p n x other)
                ∙ length-behind p q n x (map (let_go w) ts) behind ∙ rest ∙ sym (length-behind p q n x ts behind)
          ]
    ]

owner-let_go : (w : ℕ) (ts : List Tile) (q : ℕ) → block_owner ts q ≢ w → block_owner (map (let_go w) ts) q ≡ block_owner ts q
owner-let_go w [] q ne = refl
owner-let_go w (hole p n ∷ ts) q ne = owner-let_go w ts q ne
owner-let_go w (block p n x ∷ ts) q ne =
    elim (same_or_not p q) [
      | inl here ↦ elim (same_or_not x w) [
        | inl mine ↦ absurd (ne (owner-here p q n x ts here ∙ mine))
        | inr other ↦ ap (λ (t : Tile). block_owner (t ∷ map (let_go w) ts) q) (stays w p n x other) ∙ owner-here p q n x (map (let_go w) ts) here ∙ sym (owner-here p q n x ts here)
      ]
      | inr behind ↦
          let rest = owner-let_go w ts q (λ e. ne (owner-behind p q n x ts behind ∙ e)) in
          elim (same_or_not x w) [
            | inl mine ↦ ap (λ (t : Tile). block_owner (t ∷ map (let_go w) ts) q) (goes w p n x mine) ∙ rest ∙ sym (owner-behind p q n x ts behind)
            | inr other ↦ ap (λ (t : Tile). block_owner (t ∷ map (let_go w) ts) q) (stays w p n x other)
                ∙ owner-behind p q n x (map (let_go w) ts) behind ∙ rest ∙ sym (owner-behind p q n x ts behind)
          ]
    ]

-- the blocks that a cut, a return and a closing keep
pub keeps-cut : (a : List Tile) (owner n p m : ℕ) (b : List Tile) → block_length (a ++ hole p m ∷ b) p ≡ 0
    → KeepsBlocks (λ _. Unit {0}) (a ++ hole p m ∷ b) (a ++ (cut owner n p m ++ b))
keeps-cut a owner n p m b free q taken always =
    let away : q ≢ p = λ e. let none = ap (block_length (a ++ hole p m ∷ b)) e ∙ free in absurd (omega arith) in
    (length-cut a owner n p m b q away, owner-cut a owner n p m b q away)

pub keeps-put_back : (at : ℕ) (ts : List Tile) → KeepsBlocks (λ other. other ≢ at) ts (put_back at ts)
keeps-put_back at ts q taken ne = (length-put_back at ts q ne, owner-put_back at ts q ne)

pub keeps-closed : (w : ℕ) (ts : List Tile) → KeepsBlocks (λ other. block_owner ts other ≢ w) ts (closed w ts)
keeps-closed w ts q taken ne =
    (length-merged (map (let_go w) ts) q ∙ length-let_go w ts q ne, owner-merged (map (let_go w) ts) q ∙ owner-let_go w ts q ne)
