-- The object words of a spelled tiling.
use Rattle.std.proofs.Common.{◌≡◌, ◌≢◌, ℕ, zero, suc, ◌+◌, ◌-◌, ◌≤◌, ◌<◌, Bool, true, false, List, [], ◌∷◌, ◌++◌, refl, sym, ap, ◌∙◌, arith, ◌⊎◌, inl, inr}
use Rattle.std.specs.Prelude.{◌==◌, nat_lt, if◌then◌else◌}
use Rattle.std.proofs.lemmas.Bool.{eqb-true, eqb-false, eq-eqb}
use Rattle.pool_tiles.specs.Tiling.{Tile, hole, block, cut, joined, merged, freed, put_back, block_length, HasWord, IsTaken}
use Rattle.pool_tiles.specs.Headers.{total, Spelled}
use Rattle.pool_tiles.specs.Tiled.{BlockIn}
use Rattle.pool_tiles.proofs.Spelling.{kept}

pub bool_cases : (b : Bool) → (b ≡ true) ⊎ (b ≡ false)
bool_cases true = inl refl
bool_cases false = inr refl

pub none_or_some : (n : ℕ) → (n ≡ 0) ⊎ (0 < n)
none_or_some zero = inl refl
none_or_some (suc n) = inr (omega arith)

-- the block's own length, or that of the one that is sought behind it
pub length-here : (p at n w : ℕ) (ts : List Tile) → p ≡ at → block_length (block p n w ∷ ts) at ≡ n
length-here p at n w ts e = ap (λ (b : Bool). if b then n else block_length ts at) (eq-eqb p at e)

pub length-behind : (p at n w : ℕ) (ts : List Tile) → p ≢ at → block_length (block p n w ∷ ts) at ≡ block_length ts at
length-behind p at n w ts ne =
    elim (bool_cases (p == at)) [
      | inl yes_it ↦ absurd (ne (eqb-true p at yes_it))
      | inr no_it ↦ ap (λ (b : Bool). if b then n else block_length ts at) no_it
    ]

pub same_or_not : (p at : ℕ) → (p ≡ at) ⊎ (p ≢ at)
same_or_not p at = elim (bool_cases (p == at)) [ inl it ↦ inl (eqb-true p at it) | inr it ↦ inr (eqb-false p at it) ]

module _ (r o : ℕ → ℕ) where
  -- a block lies within
  pub block_within : (at back prev : ℕ) (ts : List Tile) (next place : ℕ) → Spelled r o at back prev ts next → 0 < block_length ts place
      → (at ≤ place) × (place + block_length ts place ≤ at + total ts) × (4 ≤ block_length ts place)
  block_within at back prev [] next place s h = absurd (omega arith)
  block_within at back prev (hole p n ∷ ts) next place s h =
      let e = s.0 in let rest = block_within (p + n) p p ts next place s.2 h in (omega arith, omega arith, rest.2)
  block_within at back prev (block p n w ∷ ts) next place s h =
      let e = s.0 in let long = s.1.long in
      elim (same_or_not p place) [
        | inl here ↦ let is = length-here p place n w ts here in (omega arith, omega arith, omega arith)
        | inr behind ↦ let is = length-behind p place n w ts behind in
            let some : 0 < block_length ts place = omega arith in
            let rest = block_within (p + n) p prev ts next place s.2 some in (omega arith, omega arith, omega arith)
      ]

  -- its words are those of o
  pub object_is : (at back prev : ℕ) (ts : List Tile) (next place i : ℕ) → Spelled r o at back prev ts next → HasWord ts place i
      → r (place + 2 + i) ≡ o (place + 2 + i)
  object_is at back prev [] next place i s h = absurd (omega arith)
  object_is at back prev (hole p n ∷ ts) next place i s h = object_is (p + n) p p ts next place i s.2 h
  object_is at back prev (block p n w ∷ ts) next place i s h =
      elim (same_or_not p place) [
        | inl here ↦ let is = length-here p place n w ts here in s.1.own (place + 2 + i) (omega arith) (omega arith)
        | inr behind ↦ let is = length-behind p place n w ts behind in object_is (p + n) p prev ts next place i s.2 (omega arith)
      ]

-- the words of the objects are what they are
pub own_objects : (r o : ℕ → ℕ) (at back prev : ℕ) (ts : List Tile) (next : ℕ) → Spelled r o at back prev ts next → Spelled r r at back prev ts next
own_objects r o at back prev [] next s = tt
own_objects r o at back prev (hole p n ∷ ts) next s = (s.0, s.1, own_objects r o (p + n) p p ts next s.2)
own_objects r o at back prev (block p n w ∷ ts) next s = (
  s.0,
  record { long = s.1.long; size = s.1.size; before = s.1.before; owned = s.1.owned; own = λ k low high. refl },
  own_objects r o (p + n) p prev ts next s.2,
)

-- object words of one block are written
pub rewritten : (r q : ℕ → ℕ) (at back prev : ℕ) (ts : List Tile) (next place from to : ℕ) → Spelled r r at back prev ts next → 0 < block_length ts place
    → place + 2 ≤ from → to ≤ place + block_length ts place
    → ((k : ℕ) → at ≤ k → k < at + total ts → ((k < from) ⊎ (to ≤ k)) → q k ≡ r k) → Spelled q q at back prev ts next
rewritten r q at back prev [] next place from to s h low high same = tt
rewritten r q at back prev (hole p n ∷ ts) next place from to s h low high same =
    let e = s.0 in let within = block_within r r (p + n) p p ts next place s.2 h in let long = s.1.long in (
      s.0,
      record {
        long = s.1.long;
        size = same p (omega arith) (omega arith) (inl (omega arith)) ∙ s.1.size;
        before = same (p + 1) (omega arith) (omega arith) (inl (omega arith)) ∙ s.1.before;
        next_is = same (p + 2) (omega arith) (omega arith) (inl (omega arith)) ∙ s.1.next_is;
        prev_is = same (p + 3) (omega arith) (omega arith) (inl (omega arith)) ∙ s.1.prev_is;
      },
      rewritten r q (p + n) p p ts next place from to s.2 h low high (λ k above below out. same k (omega arith) (omega arith) out),
    )
rewritten r q at back prev (block p n w ∷ ts) next place from to s h low high same =
    let e = s.0 in let long = s.1.long in
    elim (same_or_not p place) [
      | inl here ↦ let is = length-here p place n w ts here in (
        s.0,
        record {
          long = s.1.long;
          size = same p (omega arith) (omega arith) (inl (omega arith)) ∙ s.1.size;
          before = same (p + 1) (omega arith) (omega arith) (inl (omega arith)) ∙ s.1.before;
          owned = s.1.owned;
          own = λ k a b. refl;
        },
        own_objects q r (p + n) p prev ts next (kept r q r (p + n) p prev ts next s.2 (λ k above below. same k (omega arith) (omega arith) (inr (omega arith)))),
      )
      | inr behind ↦ let is = length-behind p place n w ts behind in
          let some : 0 < block_length ts place = omega arith in
          let within = block_within r r (p + n) p prev ts next place s.2 some in (
            s.0,
            record {
              long = s.1.long;
              size = same p (omega arith) (omega arith) (inl (omega arith)) ∙ s.1.size;
              before = same (p + 1) (omega arith) (omega arith) (inl (omega arith)) ∙ s.1.before;
              owned = s.1.owned;
              own = λ k a b. refl;
            },
            rewritten r q (p + n) p prev ts next place from to s.2 some low (omega arith) (λ k above below out. same k (omega arith) (omega arith) out),
          )
    ]

-- a place that is taken is that of a block
pub block_found : (ts : List Tile) (place : ℕ) → IsTaken ts place → BlockIn ts place
block_found [] place h = absurd (omega arith)
block_found (hole p n ∷ ts) place h =
    let rest = block_found ts place h in
    record { earlier = hole p n ∷ rest.earlier; n = rest.n; owner = rest.owner; later = rest.later; is = ap (λ us. hole p n ∷ us) rest.is }
block_found (block p n w ∷ ts) place h =
    elim (same_or_not p place) [
      | inl here ↦ record { earlier = []; n = n; owner = w; later = ts; is = ap (λ (k : ℕ). block k n w ∷ ts) here }
      | inr behind ↦ let is = length-behind p place n w ts behind in
          let rest = block_found ts place (omega arith) in
          record { earlier = block p n w ∷ rest.earlier; n = rest.n; owner = rest.owner; later = rest.later; is = ap (λ us. block p n w ∷ us) rest.is }
    ]

-- the length of the one block at the place
pub length_at : (r o : ℕ → ℕ) (at back prev : ℕ) (a : List Tile) (p m w : ℕ) (b : List Tile) (next : ℕ) → Spelled r o at back prev (a ++ block p m w ∷ b) next
    → (at ≤ p) × (block_length (a ++ block p m w ∷ b) p ≡ m)
length_at r o at back prev [] p m w b next s = let e = s.0 in (omega arith, length-here p p m w b refl)
length_at r o at back prev (hole q n ∷ a) p m w b next s =
    let e = s.0 in let rest = length_at r o (q + n) q q a p m w b next s.2 in (omega (arith, rest.0), rest.1)
length_at r o at back prev (block q n v ∷ a) p m w b next s =
    let e = s.0 in let long = s.1.long in let rest = length_at r o (q + n) q prev a p m w b next s.2 in
    let other : q ≢ p = λ same. absurd (omega (arith, rest.0)) in
    (omega (arith, rest.0), length-behind q p n v (a ++ block p m w ∷ b) other ∙ rest.1)

-- two blocks have no word in common
pub blocks_apart : (r o : ℕ → ℕ) (at back prev : ℕ) (ts : List Tile) (next p q : ℕ) → Spelled r o at back prev ts next → 0 < block_length ts p → 0 < block_length ts q → p ≢ q
    → (p + block_length ts p ≤ q) ⊎ (q + block_length ts q ≤ p)
blocks_apart r o at back prev [] next p q s hp hq ne = absurd (omega arith)
blocks_apart r o at back prev (hole k n ∷ ts) next p q s hp hq ne = blocks_apart r o (k + n) k k ts next p q s.2 hp hq ne
blocks_apart r o at back prev (block k n w ∷ ts) next p q s hp hq ne =
    elim (same_or_not k p) [
      | inl here ↦ let is = length-here k p n w ts here in
          let other : k ≢ q = λ e. ne (sym here ∙ e) in let far = length-behind k q n w ts other in
          let some : 0 < block_length ts q = omega arith in
          let within = block_within r o (k + n) k prev ts next q s.2 some in
          inl (omega (arith, within.0))
      | inr behind ↦ let is = length-behind k p n w ts behind in let some : 0 < block_length ts p = omega arith in
          elim (same_or_not k q) [
            | inl there ↦ let is_q = length-here k q n w ts there in
                let within = block_within r o (k + n) k prev ts next p s.2 some in
                inr (omega (arith, within.0))
            | inr beyond ↦ let is_q = length-behind k q n w ts beyond in let some_q : 0 < block_length ts q = omega arith in
                elim (blocks_apart r o (k + n) k prev ts next p q s.2 some some_q ne) [
                  | inl x ↦ inl (omega arith)
                  | inr x ↦ inr (omega arith)
                ]
          ]
    ]

-- a hole at another place or a block there
pub length-other : (a : List Tile) (p m w : ℕ) (b : List Tile) (q : ℕ) → q ≢ p → block_length (a ++ block p m w ∷ b) q ≡ block_length (a ++ hole p m ∷ b) q
length-other [] p m w b q ne = length-behind p q m w b (λ e. ne (sym e))
length-other (hole k n ∷ a) p m w b q ne = length-other a p m w b q ne
length-other (block k n v ∷ a) p m w b q ne =
    elim (same_or_not k q) [
      | inl here ↦ length-here k q n v (a ++ block p m w ∷ b) here ∙ sym (length-here k q n v (a ++ hole p m ∷ b) here)
      | inr behind ↦
          length-behind k q n v (a ++ block p m w ∷ b) behind ∙ length-other a p m w b q ne ∙ sym (length-behind k q n v (a ++ hole p m ∷ b) behind)
    ]

-- holes that are joined change no block
pub length-joined : (a : List Tile) (p m : ℕ) (b : List Tile) (q : ℕ) → block_length (a ++ joined (hole p m) b) q ≡ block_length (a ++ hole p m ∷ b) q
length-joined [] p m [] q = refl
length-joined [] p m (hole u i ∷ b) q = refl
length-joined [] p m (block u i w ∷ b) q = refl
length-joined (hole k n ∷ a) p m b q = length-joined a p m b q
length-joined (block k n v ∷ a) p m b q = ap (λ (l : ℕ). if k == q then n else l) (length-joined a p m b q)

-- no block before a hole, or after it, is at its place
pub front_free : (r o : ℕ → ℕ) (at back prev : ℕ) (a : List Tile) (p m : ℕ) (b : List Tile) (next : ℕ) → Spelled r o at back prev (a ++ hole p m ∷ b) next → (x : List Tile)
    → (at ≤ p) × (block_length (a ++ x) p ≡ block_length x p)
front_free r o at back prev [] p m b next s x = let e = s.0 in (omega arith, refl)
front_free r o at back prev (hole q n ∷ a) p m b next s x =
    let e = s.0 in let rest = front_free r o (q + n) q q a p m b next s.2 x in (omega (arith, rest.0), rest.1)
front_free r o at back prev (block q n v ∷ a) p m b next s x =
    let e = s.0 in let long = s.1.long in let rest = front_free r o (q + n) q prev a p m b next s.2 x in
    let other : q ≢ p = λ same. absurd (omega (arith, rest.0)) in
    (omega (arith, rest.0), length-behind q p n v (a ++ x) other ∙ rest.1)

pub later_free : (r o : ℕ → ℕ) (at back prev : ℕ) (ts : List Tile) (next p : ℕ) → Spelled r o at back prev ts next → p < at → block_length ts p ≡ 0
later_free r o at back prev ts next p s less =
    elim (none_or_some (block_length ts p)) [
      | inl none ↦ none
      | inr some ↦ let within = block_within r o at back prev ts next p s some in absurd (omega (arith, within.0))
    ]

-- a block that is cut from a hole changes no other
pub length-cut : (a : List Tile) (owner n p m : ℕ) (b : List Tile) (q : ℕ) → q ≢ p → block_length (a ++ (cut owner n p m ++ b)) q ≡ block_length (a ++ hole p m ∷ b) q
length-cut [] owner n p m b q ne =
    elim (bool_cases (nat_lt m (n + 4))) [
      | inl short ↦
          ap (λ (t : Bool). block_length ((if t then block p m owner ∷ [] else block p n owner ∷ hole (p + n) (m - n) ∷ []) ++ b) q) short ∙ length-behind p q m owner b (λ e. ne (sym e))
      | inr long ↦
          ap (λ (t : Bool). block_length ((if t then block p m owner ∷ [] else block p n owner ∷ hole (p + n) (m - n) ∷ []) ++ b) q) long
          ∙ length-behind p q n owner (hole (p + n) (m - n) ∷ b) (λ e. ne (sym e))
    ]
length-cut (hole k l ∷ a) owner n p m b q ne = length-cut a owner n p m b q ne
length-cut (block k l v ∷ a) owner n p m b q ne = ap (λ (i : ℕ). if k == q then l else i) (length-cut a owner n p m b q ne)

-- it has the words that it was cut for
pub cut_long : (owner n p m : ℕ) (b : List Tile) → n ≤ m → n ≤ block_length (cut owner n p m ++ b) p
cut_long owner n p m b long =
    elim (bool_cases (nat_lt m (n + 4))) [
      | inl short ↦
          let is = ap (λ (t : Bool). block_length ((if t then block p m owner ∷ [] else block p n owner ∷ hole (p + n) (m - n) ∷ []) ++ b) p) short ∙ length-here p p m owner b refl in omega arith
      | inr more ↦
          let is = ap (λ (t : Bool). block_length ((if t then block p m owner ∷ [] else block p n owner ∷ hole (p + n) (m - n) ∷ []) ++ b) p) more
          ∙ length-here p p n owner (hole (p + n) (m - n) ∷ b) refl in omega arith
    ]

-- nor does one that comes back
length-merge : (t : Tile) (ts : List Tile) (q : ℕ) → block_length (joined t ts) q ≡ block_length (t ∷ ts) q
length-merge (hole p m) ts q = length-joined [] p m ts q
length-merge (block p m w) ts q = refl

pub length-merged : (ts : List Tile) (q : ℕ) → block_length (merged ts) q ≡ block_length ts q
length-merged [] q = refl
length-merged (hole p m ∷ ts) q = length-merge (hole p m) (merged ts) q ∙ length-merged ts q
length-merged (block p m w ∷ ts) q = ap (λ (i : ℕ). if p == q then m else i) (length-merged ts q)

length-freed : (at : ℕ) (ts : List Tile) (q : ℕ) → q ≢ at → block_length (freed at ts) q ≡ block_length ts q
length-freed at [] q ne = refl
length-freed at (hole p m ∷ ts) q ne = length-freed at ts q ne
length-freed at (block p m w ∷ ts) q ne =
    elim (same_or_not p at) [
      | inl here ↦
          ap (λ (b : Bool). block_length (if b then hole p m ∷ ts else block p m w ∷ freed at ts) q) (eq-eqb p at here) ∙ sym (length-behind p q m w ts (λ e. ne (sym e ∙ here)))
      | inr away ↦
          elim (bool_cases (p == at)) [
            | inl it ↦ absurd (away (eqb-true p at it))
            | inr it ↦
                ap (λ (b : Bool). block_length (if b then hole p m ∷ ts else block p m w ∷ freed at ts) q) it ∙ ap (λ (i : ℕ). if p == q then m else i) (length-freed at ts q ne)
          ]
    ]

pub length-put_back : (at : ℕ) (ts : List Tile) (q : ℕ) → q ≢ at → block_length (put_back at ts) q ≡ block_length ts q
length-put_back at ts q ne = length-merged (freed at ts) q ∙ length-freed at ts q ne
