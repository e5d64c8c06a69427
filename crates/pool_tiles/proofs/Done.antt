-- The four steps on a pool's words: they spell the tiling that the step gives, and its objects are as they were.
use Rattle.std.proofs.Common.{◌≡◌, ◌≢◌, ℕ, ◌+◌, ◌*◌, ◌≤◌, ◌<◌, Bool, List, [], ◌∷◌, ◌++◌, length, set, refl, sym, ap, ◌∙◌, subst, arith, inl, inr}
use Rattle.std.specs.Prelude.{nat_lt, if◌then◌else◌}
use Rattle.std.proofs.lemmas.Bool.{lt-ltb, le-ltb}
use Rattle.pool_tiles.specs.Tiling.{Tile, hole, block}
use Rattle.pool_tiles.specs.Headers.{first_or, last_or, total, hole_mark, owner_unit, owner_limit, Spelled, word_at, Spells}
use Rattle.pool_tiles.specs.Tiled.{SameWords}
use Rattle.pool_tiles.proofs.Spelling.{front_part, back_part, first_or-append, total-append}
use Rattle.pool_tiles.proofs.Linking.{zero_or_more, holes, first_or-blocks, first_or-holes, last_or-blocks, first_within, last_within}
use Rattle.pool_tiles.proofs.Steps.{past_last, before_first, free_step, take_step, split_step, join_step}
use Rattle.pool_tiles.proofs.Reading.{few_or_more}
use Rattle.pool_tiles.proofs.Objects.{own_objects, object_is}
use Rattle.pool_tiles.proofs.Written.{written, length-written, word_at-written, word_at-last}

-- a pool with tiles is covered by them
pub covered : (words : List ℕ) (first : ℕ) (ts : List Tile) → Spells words first ts → 0 < total ts → (total ts ≡ length words) × (4 ≤ length words)
covered words first ts s some =
    elim (few_or_more (length words)) [
      | inl few ↦ let none = ap total (s.small few) in absurd (omega arith)
      | inr more ↦ (s.whole more, more)
    ]

finished : (words after : List ℕ) (first second : ℕ) (ts us : List Tile) → Spells words first ts → length after ≡ length words → total us ≡ total ts → 0 < total ts
    → Spelled (word_at after) (word_at words) 0 0 (length words) us (length words) → second ≡ first_or us (length words)
    → Spells after second us × SameWords us words after
finished words after first second ts us s long same some spelled starts =
    let whole = covered words first ts s some in
    let few = s.few in (
      record {
        spelled = subst (λ (n : ℕ). Spelled (word_at after) (word_at after) 0 0 n us n) (sym long) (own_objects (word_at after) (word_at words) 0 0 (length words) us (length words) spelled);
        whole = λ more. omega arith;
        small = λ less. absurd (omega arith);
        starts = subst (λ (n : ℕ). second ≡ first_or us n) (sym long) starts;
        few = omega arith;
      },
      λ place i has. object_is (word_at after) (word_at words) 0 0 (length words) us (length words) place i spelled has,
    )

-- the first of the holes behind a place is no nearer
first_low : (r o : ℕ → ℕ) (at back prev n : ℕ) (b : List Tile) → Spelled r o at back prev b n → at ≤ n → at ≤ first_or b n
first_low r o at back prev n b s inside =
    elim (zero_or_more (holes b)) [
      | inl none ↦ let same = first_or-blocks b n none in omega arith
      | inr some ↦ let within = first_within r o at back prev b n s some in omega arith
    ]

-- tiles that have words have those of a header
least_total : (r o : ℕ → ℕ) (at back prev : ℕ) (b : List Tile) (n : ℕ) → Spelled r o at back prev b n → 0 < total b → 4 ≤ total b
least_total r o at back prev [] n s more = absurd (omega arith)
least_total r o at back prev (hole p m ∷ b) n s more = let long = s.1.long in omega arith
least_total r o at back prev (block p m w ∷ b) n s more = let long = s.1.long in omega arith

-- the list begins where it did, unless the first hole is a new one
head_is : (r o : ℕ → ℕ) (n first next new : ℕ) (a : List Tile) → Spelled r o 0 0 n a next → total a ≤ n → first ≡ first_or a next
    → (if nat_lt (last_or n a) n then first else new) ≡ first_or a new
head_is r o n first next new a s inside starts =
    elim (zero_or_more (holes a)) [
      | inl none ↦
          let same = last_or-blocks a n none in
          ap (λ (b : Bool). if b then first else new) (le-ltb (last_or n a) n (omega arith)) ∙ sym (first_or-blocks a new none)
      | inr some ↦
          let within = last_within r o 0 0 n a next s some in
          ap (λ (b : Bool). if b then first else new) (lt-ltb (last_or n a) n (omega arith)) ∙ starts ∙ first_or-holes a next new some
    ]

module _ (words : List ℕ) (first : ℕ) (a : List Tile) (p m : ℕ) (b : List Tile) where
  abbrev r : ℕ → ℕ
  r = word_at words

  abbrev n : ℕ
  n = length words

  pub freed_words : (w next previous : ℕ) (after : List ℕ) → Spells words first (a ++ block p m w ∷ b) → next ≡ first_or b n → previous ≡ last_or n a
      → after ≡ written words ((p, m + hole_mark) ∷ (p + 2, next) ∷ (p + 3, previous) ∷ (previous + 2, p) ∷ (next + 3, p) ∷ [])
      → Spells after (if nat_lt previous n then first else p) (a ++ hole p m ∷ b) × SameWords (a ++ hole p m ∷ b) words after
  freed_words w next previous after s next_is previous_is is =
      let front = front_part r r 0 0 n a (block p m w ∷ b) n s.spelled in
      let here = back_part r r 0 0 n a (block p m w ∷ b) n s.spelled in
      let place : p ≡ 0 + total a = here.0 in
      let long : 4 ≤ m = here.1.long in
      let parts = total-append a (block p m w ∷ b) in
      let parts2 = total-append a (hole p m ∷ b) in
      let some : 0 < total (a ++ block p m w ∷ b) = omega arith in
      let whole = covered words first (a ++ block p m w ∷ b) s some in
      let rest = λ (x : ℕ × ℕ). written words ((p, m + hole_mark) ∷ (p + 2, x.0) ∷ (p + 3, x.1) ∷ (x.1 + 2, p) ∷ (x.0 + 3, p) ∷ []) in
      let w1 = set words p (m + hole_mark) in
      let w2 = set w1 (p + 2) (first_or b n) in
      let w3 = set w2 (p + 3) (last_or n a) in
      let w4 = set w3 (last_or n a + 2) p in
      let after_is : after ≡ rest (first_or b n, last_or n a) = is ∙ ap rest (λ i. (next_is i, previous_is i)) in
      let same : length after ≡ length words =
      ap length after_is ∙ length-written words ((p, m + hole_mark) ∷ (p + 2, first_or b n) ∷ (p + 3, last_or n a) ∷ (last_or n a + 2, p) ∷ (first_or b n + 3, p) ∷ []) in
      let long1 = length-written words ((p, m + hole_mark) ∷ []) in
      let long2 = length-written words ((p, m + hole_mark) ∷ (p + 2, first_or b n) ∷ []) in
      let long3 = length-written words ((p, m + hole_mark) ∷ (p + 2, first_or b n) ∷ (p + 3, last_or n a) ∷ []) in
      let long4 = length-written words ((p, m + hole_mark) ∷ (p + 2, first_or b n) ∷ (p + 3, last_or n a) ∷ (last_or n a + 2, p) ∷ []) in
      let now = λ (k : ℕ). ap (λ (ws : List ℕ). word_at ws k) after_is in
      let late = λ (k : ℕ) (low : p ≤ k) (high : k < n). past_last r r n a (first_or b n) front k (omega arith) high in
      let soon = λ (k : ℕ) (low : k < p + m) (high : k < n). before_first r r n (p + m) p (last_or n a) b here.2 k low high in
      finished words after first (if nat_lt previous n then first else p) (a ++ block p m w ∷ b) (a ++ hole p m ∷ b) s same (omega arith) some
      (free_step r (word_at after) r n a p m b w s.spelled (omega arith)
      (now p ∙ word_at-last words p (m + hole_mark) p ((p + 2, first_or b n) ∷ (p + 3, last_or n a) ∷ (last_or n a + 2, p) ∷ (first_or b n + 3, p) ∷ []) refl (omega arith)
      ((λ e. absurd (omega arith)), ((λ e. absurd (omega arith)), (late p (omega arith) (omega arith), (soon p (omega arith) (omega arith), tt)))))
      (now (p + 2) ∙ word_at-last w1 (p + 2) (first_or b n) (p + 2) ((p + 3, last_or n a) ∷ (last_or n a + 2, p) ∷ (first_or b n + 3, p) ∷ []) refl (omega arith)
      ((λ e. absurd (omega arith)), (late (p + 2) (omega arith) (omega arith), (soon (p + 2) (omega arith) (omega arith), tt))))
      (now (p + 3) ∙ word_at-last w2 (p + 3) (last_or n a) (p + 3) ((last_or n a + 2, p) ∷ (first_or b n + 3, p) ∷ []) refl (omega arith)
      (late (p + 3) (omega arith) (omega arith), (soon (p + 3) (omega arith) (omega arith), tt)))
      (λ some_a. let within = last_within r r 0 0 n a (first_or b n) front some_a in
      now (last_or n a + 2) ∙ word_at-last w3 (last_or n a + 2) p (last_or n a + 2) ((first_or b n + 3, p) ∷ []) refl (omega arith) (soon (last_or n a + 2) (omega arith) (omega arith), tt))
      (λ some_b. let within = first_within r r (p + m) p (last_or n a) b n here.2 some_b in
      now (first_or b n + 3) ∙ word_at-last w4 (first_or b n + 3) p (first_or b n + 3) [] refl (omega arith) tt)
      (λ k inside n0 n2 n3 nl nf. now k ∙ word_at-written words ((p, m + hole_mark) ∷ (p + 2, first_or b n) ∷ (p + 3, last_or n a) ∷ (last_or n a + 2, p) ∷ (first_or b n + 3, p) ∷ []) k
      (n0, (n2, (n3, (nl, (nf, tt)))))))
      (ap (λ (k : ℕ). if nat_lt k n then first else p) previous_is
      ∙ head_is r r n first (first_or b n) p a front (omega arith) (s.starts ∙ first_or-append a (block p m w ∷ b) n) ∙ sym (first_or-append a (hole p m ∷ b) n))

  pub taken_words : (w : ℕ) → w < owner_limit → (next previous : ℕ) (after : List ℕ) → Spells words first (a ++ hole p m ∷ b) → next ≡ first_or b n → previous ≡ last_or n a
      → after ≡ written words ((p, m + w * owner_unit) ∷ (previous + 2, next) ∷ (next + 3, previous) ∷ [])
      → Spells after (if nat_lt previous n then first else next) (a ++ block p m w ∷ b) × SameWords (a ++ block p m w ∷ b) words after
  taken_words w number next previous after s next_is previous_is is =
      let front = front_part r r 0 0 n a (hole p m ∷ b) n s.spelled in
      let here = back_part r r 0 0 n a (hole p m ∷ b) n s.spelled in
      let place : p ≡ 0 + total a = here.0 in
      let long : 4 ≤ m = here.1.long in
      let parts = total-append a (hole p m ∷ b) in
      let parts2 = total-append a (block p m w ∷ b) in
      let some : 0 < total (a ++ hole p m ∷ b) = omega arith in
      let whole = covered words first (a ++ hole p m ∷ b) s some in
      let rest = λ (x : ℕ × ℕ). written words ((p, m + w * owner_unit) ∷ (x.1 + 2, x.0) ∷ (x.0 + 3, x.1) ∷ []) in
      let w1 = set words p (m + w * owner_unit) in
      let w2 = set w1 (last_or n a + 2) (first_or b n) in
      let after_is : after ≡ rest (first_or b n, last_or n a) = is ∙ ap rest (λ i. (next_is i, previous_is i)) in
      let same : length after ≡ length words = ap length after_is ∙ length-written words ((p, m + w * owner_unit) ∷ (last_or n a + 2, first_or b n) ∷ (first_or b n + 3, last_or n a) ∷ []) in
      let long1 = length-written words ((p, m + w * owner_unit) ∷ []) in
      let long2 = length-written words ((p, m + w * owner_unit) ∷ (last_or n a + 2, first_or b n) ∷ []) in
      let now = λ (k : ℕ). ap (λ (ws : List ℕ). word_at ws k) after_is in
      let late = λ (k : ℕ) (low : p ≤ k) (high : k < n). past_last r r n a p front k (omega arith) high in
      let soon = λ (k : ℕ) (low : k < p + m) (high : k < n). before_first r r n (p + m) p p b here.2 k low high in
      finished words after first (if nat_lt previous n then first else next) (a ++ hole p m ∷ b) (a ++ block p m w ∷ b) s same (omega arith) some
      (take_step r (word_at after) r n a p m b w number s.spelled (omega arith)
      (now p ∙ word_at-last words p (m + w * owner_unit) p ((last_or n a + 2, first_or b n) ∷ (first_or b n + 3, last_or n a) ∷ []) refl (omega arith)
      (late p (omega arith) (omega arith), (soon p (omega arith) (omega arith), tt)))
      (λ some_a. let within = last_within r r 0 0 n a p front some_a in
      now (last_or n a + 2) ∙ word_at-last w1 (last_or n a + 2) (first_or b n) (last_or n a + 2) ((first_or b n + 3, last_or n a) ∷ []) refl (omega arith)
      (soon (last_or n a + 2) (omega arith) (omega arith), tt))
      (λ some_b. let within = first_within r r (p + m) p p b n here.2 some_b in
      now (first_or b n + 3) ∙ word_at-last w2 (first_or b n + 3) (last_or n a) (first_or b n + 3) [] refl (omega arith) tt)
      (λ k inside n0 nl nf. now k ∙ word_at-written words ((p, m + w * owner_unit) ∷ (last_or n a + 2, first_or b n) ∷ (first_or b n + 3, last_or n a) ∷ []) k (n0, (nl, (nf, tt))))
      (λ k low high. refl))
      (ap (λ (x : ℕ × ℕ). if nat_lt x.0 n then first else x.1) (λ i. (previous_is i, next_is i))
      ∙ head_is r r n first p (first_or b n) a front (omega arith) (s.starts ∙ first_or-append a (hole p m ∷ b) n) ∙ sym (first_or-append a (block p m w ∷ b) n))

  pub split_words : (i j next : ℕ) (after : List ℕ) → Spells words first (a ++ hole p m ∷ b) → 4 ≤ i → 4 ≤ j → m ≡ i + j → next ≡ first_or b n
      → after ≡ written words ((p, i + hole_mark) ∷ (p + i, j + hole_mark) ∷ (p + 2, p + i) ∷ (p + i + 1, p) ∷ (p + i + 2, next) ∷ (p + i + 3, p) ∷ (next + 3, p + i) ∷ (p + m + 1, p + i) ∷ [])
      → Spells after first (a ++ hole p i ∷ hole (p + i) j ∷ b) × SameWords (a ++ hole p i ∷ hole (p + i) j ∷ b) words after
  split_words i j next after s long_i long_j both next_is is =
      let front = front_part r r 0 0 n a (hole p m ∷ b) n s.spelled in
      let here = back_part r r 0 0 n a (hole p m ∷ b) n s.spelled in
      let place : p ≡ 0 + total a = here.0 in
      let parts = total-append a (hole p m ∷ b) in
      let parts2 = total-append a (hole p i ∷ hole (p + i) j ∷ b) in
      let some : 0 < total (a ++ hole p m ∷ b) = omega arith in
      let whole = covered words first (a ++ hole p m ∷ b) s some in
      let x = first_or b n in
      let low_x : p + m ≤ x = first_low r r (p + m) p p n b here.2 (omega arith) in
      let rest = λ (next : ℕ). written words ((p, i + hole_mark) ∷ (p + i, j + hole_mark) ∷ (p + 2, p + i) ∷ (p + i + 1, p) ∷ (p + i + 2, next) ∷ (p + i + 3, p) ∷ (next + 3, p + i) ∷ (p + m + 1, p + i) ∷ []) in
      let w1 = set words p (i + hole_mark) in
      let w2 = set w1 (p + i) (j + hole_mark) in
      let w3 = set w2 (p + 2) (p + i) in
      let w4 = set w3 (p + i + 1) p in
      let w5 = set w4 (p + i + 2) x in
      let w6 = set w5 (p + i + 3) p in
      let w7 = set w6 (x + 3) (p + i) in
      let after_is : after ≡ rest x = is ∙ ap rest next_is in
      let same : length after ≡ length words = ap length after_is
      ∙ length-written words ((p, i + hole_mark) ∷ (p + i, j + hole_mark) ∷ (p + 2, p + i) ∷ (p + i + 1, p) ∷ (p + i + 2, x) ∷ (p + i + 3, p) ∷ (x + 3, p + i) ∷ (p + m + 1, p + i) ∷ []) in
      let long1 = length-written words ((p, i + hole_mark) ∷ []) in
      let long2 = length-written words ((p, i + hole_mark) ∷ (p + i, j + hole_mark) ∷ []) in
      let long3 = length-written words ((p, i + hole_mark) ∷ (p + i, j + hole_mark) ∷ (p + 2, p + i) ∷ []) in
      let long4 = length-written words ((p, i + hole_mark) ∷ (p + i, j + hole_mark) ∷ (p + 2, p + i) ∷ (p + i + 1, p) ∷ []) in
      let long5 = length-written words ((p, i + hole_mark) ∷ (p + i, j + hole_mark) ∷ (p + 2, p + i) ∷ (p + i + 1, p) ∷ (p + i + 2, x) ∷ []) in
      let long6 = length-written words ((p, i + hole_mark) ∷ (p + i, j + hole_mark) ∷ (p + 2, p + i) ∷ (p + i + 1, p) ∷ (p + i + 2, x) ∷ (p + i + 3, p) ∷ []) in
      let long7 = length-written words ((p, i + hole_mark) ∷ (p + i, j + hole_mark) ∷ (p + 2, p + i) ∷ (p + i + 1, p) ∷ (p + i + 2, x) ∷ (p + i + 3, p) ∷ (x + 3, p + i) ∷ []) in
      let now = λ (k : ℕ). ap (λ (ws : List ℕ). word_at ws k) after_is in
      let no = λ (k l : ℕ) (ne : k ≢ l). ne in
      finished words after first first (a ++ hole p m ∷ b) (a ++ hole p i ∷ hole (p + i) j ∷ b) s same (omega arith) some
      (split_step r (word_at after) r n a p m b i j s.spelled (omega arith) long_i long_j both
      (now p ∙ word_at-last words p (i + hole_mark) p ((p + i, j + hole_mark) ∷ (p + 2, p + i) ∷ (p + i + 1, p) ∷ (p + i + 2, x) ∷ (p + i + 3, p) ∷ (x + 3, p + i) ∷ (p + m + 1, p + i) ∷ []) refl (omega arith)
      ((λ e. absurd (omega arith)), ((λ e. absurd (omega arith)), ((λ e. absurd (omega arith)), ((λ e. absurd (omega arith)), ((λ e. absurd (omega arith)), ((λ e. absurd (omega arith)), ((λ e. absurd (omega arith)), tt))))))))
      (now (p + 2) ∙ word_at-last w2 (p + 2) (p + i) (p + 2) ((p + i + 1, p) ∷ (p + i + 2, x) ∷ (p + i + 3, p) ∷ (x + 3, p + i) ∷ (p + m + 1, p + i) ∷ []) refl (omega arith)
      ((λ e. absurd (omega arith)), ((λ e. absurd (omega arith)), ((λ e. absurd (omega arith)), ((λ e. absurd (omega arith)), ((λ e. absurd (omega arith)), tt))))))
      (now (p + i) ∙ word_at-last w1 (p + i) (j + hole_mark) (p + i) ((p + 2, p + i) ∷ (p + i + 1, p) ∷ (p + i + 2, x) ∷ (p + i + 3, p) ∷ (x + 3, p + i) ∷ (p + m + 1, p + i) ∷ []) refl (omega arith)
      ((λ e. absurd (omega arith)), ((λ e. absurd (omega arith)), ((λ e. absurd (omega arith)), ((λ e. absurd (omega arith)), ((λ e. absurd (omega arith)), ((λ e. absurd (omega arith)), tt)))))))
      (now (p + i + 1) ∙ word_at-last w3 (p + i + 1) p (p + i + 1) ((p + i + 2, x) ∷ (p + i + 3, p) ∷ (x + 3, p + i) ∷ (p + m + 1, p + i) ∷ []) refl (omega arith)
      ((λ e. absurd (omega arith)), ((λ e. absurd (omega arith)), ((λ e. absurd (omega arith)), ((λ e. absurd (omega arith)), tt)))))
      (now (p + i + 2) ∙ word_at-last w4 (p + i + 2) x (p + i + 2) ((p + i + 3, p) ∷ (x + 3, p + i) ∷ (p + m + 1, p + i) ∷ []) refl (omega arith)
      ((λ e. absurd (omega arith)), ((λ e. absurd (omega arith)), ((λ e. absurd (omega arith)), tt))))
      (now (p + i + 3) ∙ word_at-last w5 (p + i + 3) p (p + i + 3) ((x + 3, p + i) ∷ (p + m + 1, p + i) ∷ []) refl (omega arith)
      ((λ e. absurd (omega arith)), ((λ e. absurd (omega arith)), tt)))
      (λ some_b. let within = first_within r r (p + m) p p b n here.2 some_b in
      now (x + 3) ∙ word_at-last w6 (x + 3) (p + i) (x + 3) ((p + m + 1, p + i) ∷ []) refl (omega arith) ((λ e. absurd (omega arith)), tt))
      (λ more. let least = least_total r r (p + m) p p b n here.2 more in
      now (p + m + 1) ∙ word_at-last w7 (p + m + 1) (p + i) (p + m + 1) [] refl (omega arith) tt)
      (λ k inside n0 n2 ni ni1 ni2 ni3 nf na. now k
      ∙ word_at-written words ((p, i + hole_mark) ∷ (p + i, j + hole_mark) ∷ (p + 2, p + i) ∷ (p + i + 1, p) ∷ (p + i + 2, x) ∷ (p + i + 3, p) ∷ (x + 3, p + i) ∷ (p + m + 1, p + i) ∷ []) k
      (n0, (ni, (n2, (ni1, (ni2, (ni3, (nf, (na, tt))))))))))
      (s.starts ∙ first_or-append a (hole p m ∷ b) n ∙ sym (first_or-append a (hole p i ∷ hole (p + i) j ∷ b) n))

  pub joined_words : (u i next : ℕ) (after : List ℕ) → Spells words first (a ++ hole p m ∷ hole u i ∷ b) → next ≡ first_or b n
      → after ≡ written words ((p, m + i + hole_mark) ∷ (p + 2, next) ∷ (next + 3, p) ∷ (p + (m + i) + 1, p) ∷ [])
      → Spells after first (a ++ hole p (m + i) ∷ b) × SameWords (a ++ hole p (m + i) ∷ b) words after
  joined_words u i next after s next_is is =
      let front = front_part r r 0 0 n a (hole p m ∷ hole u i ∷ b) n s.spelled in
      let here = back_part r r 0 0 n a (hole p m ∷ hole u i ∷ b) n s.spelled in
      let place : p ≡ 0 + total a = here.0 in
      let long : 4 ≤ m = here.1.long in
      let there : u ≡ p + m = here.2.0 in
      let parts = total-append a (hole p m ∷ hole u i ∷ b) in
      let parts2 = total-append a (hole p (m + i) ∷ b) in
      let some : 0 < total (a ++ hole p m ∷ hole u i ∷ b) = omega arith in
      let whole = covered words first (a ++ hole p m ∷ hole u i ∷ b) s some in
      let x = first_or b n in
      let low_x : u + i ≤ x = first_low r r (u + i) u u n b here.2.2 (omega arith) in
      let rest = λ (next : ℕ). written words ((p, m + i + hole_mark) ∷ (p + 2, next) ∷ (next + 3, p) ∷ (p + (m + i) + 1, p) ∷ []) in
      let w1 = set words p (m + i + hole_mark) in
      let w2 = set w1 (p + 2) x in
      let w3 = set w2 (x + 3) p in
      let after_is : after ≡ rest x = is ∙ ap rest next_is in
      let same : length after ≡ length words = ap length after_is ∙ length-written words ((p, m + i + hole_mark) ∷ (p + 2, x) ∷ (x + 3, p) ∷ (p + (m + i) + 1, p) ∷ []) in
      let long1 = length-written words ((p, m + i + hole_mark) ∷ []) in
      let long2 = length-written words ((p, m + i + hole_mark) ∷ (p + 2, x) ∷ []) in
      let long3 = length-written words ((p, m + i + hole_mark) ∷ (p + 2, x) ∷ (x + 3, p) ∷ []) in
      let now = λ (k : ℕ). ap (λ (ws : List ℕ). word_at ws k) after_is in
      finished words after first first (a ++ hole p m ∷ hole u i ∷ b) (a ++ hole p (m + i) ∷ b) s same (omega arith) some
      (join_step r (word_at after) r n a p m b u i s.spelled (omega arith)
      (now p ∙ word_at-last words p (m + i + hole_mark) p ((p + 2, x) ∷ (x + 3, p) ∷ (p + (m + i) + 1, p) ∷ []) refl (omega arith)
      ((λ e. absurd (omega arith)), ((λ e. absurd (omega arith)), ((λ e. absurd (omega arith)), tt))))
      (now (p + 2) ∙ word_at-last w1 (p + 2) x (p + 2) ((x + 3, p) ∷ (p + (m + i) + 1, p) ∷ []) refl (omega arith)
      ((λ e. absurd (omega arith)), ((λ e. absurd (omega arith)), tt)))
      (λ some_b. let within = first_within r r (u + i) u u b n here.2.2 some_b in
      now (x + 3) ∙ word_at-last w2 (x + 3) p (x + 3) ((p + (m + i) + 1, p) ∷ []) refl (omega arith) ((λ e. absurd (omega arith)), tt))
      (λ more. let least = least_total r r (u + i) u u b n here.2.2 more in
      now (p + (m + i) + 1) ∙ word_at-last w3 (p + (m + i) + 1) p (p + (m + i) + 1) [] refl (omega arith) tt)
      (λ k inside n0 n2 nf na. now k ∙ word_at-written words ((p, m + i + hole_mark) ∷ (p + 2, x) ∷ (x + 3, p) ∷ (p + (m + i) + 1, p) ∷ []) k (n0, (n2, (nf, (na, tt))))))
      (s.starts ∙ first_or-append a (hole p m ∷ hole u i ∷ b) n ∙ sym (first_or-append a (hole p (m + i) ∷ b) n))
