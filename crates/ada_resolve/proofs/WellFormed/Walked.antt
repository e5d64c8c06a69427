-- A record with controlled parts is found by walking into declared components, where it lies so, and stays found as types are added.

use Rattle.std.proofs.Common.{◌≡◌, ◌∙◌, ℕ, ◌+◌, ◌-◌, ◌<◌, ◌≤◌, Bool, true, false, cond, List, [], ◌∷◌, length, refl, ap, subst, zero, suc, eqb, eqb-true, eq-eqb, arith}
use Rattle.std.specs.Prelude.{Option, Some, None, ◌&&◌, ◌||◌, find, is_some, nat_lt, not}
use Rattle.std.specs.List.{list_all, slice_get}
use Rattle.std.proofs.lemmas.Bool.{le-ltb, lt-ltb, ltb-true}
use Rattle.ada_program.specs.Controlled.{number_in}
use Rattle.ada_program.specs.declared.program.ComponentKind.{ComponentKind}
use Rattle.ada_program.specs.declared.program.Finalization.{Finalization}
use Rattle.ada_program.specs.declared.program.PartKind.{PartKind}
use Rattle.ada_program.specs.declared.program.PartKind.TheVariants as part
use Rattle.ada_program.specs.declared.program.TypeNo.{TypeNo}
use Rattle.ada_program.specs.ProgramForm.{PartForm, TypeForm, record_of, access_to, object_of}
use Rattle.ada_program.specs.Walks.{Walks, ends, into}
use Rattle.ada_program.specs.WellFormed as fits
use Rattle.ada_resolve.proofs.WellFormed.Forms.{AreIn, bare_final, forms, record_stays}
use Rattle.ada_resolve.proofs.WellFormed.Laid.{AreRecordsLaid}
use Rattle.ada_resolve.proofs.WellFormed.Numbered.{alike_stays, count_most, counted_there, earlier_there, part_lies, said_order, within_alike}
use Rattle.ada_resolve.proofs.WellFormed.Tables.{all_get, both_parts, counted_says, first_part, second_part}

-- one of two tests
left_or : (a b : Bool) → a ≡ true → (a || b) ≡ true
left_or true b e = refl
left_or false b e = absurd (cc e)

right_or : (a b : Bool) → b ≡ true → (a || b) ≡ true
right_or true b e = refl
right_or false b e = e

either : (a b : Bool) (X : Type 0) → (a || b) ≡ true → (a ≡ true → X) → (b ≡ true → X) → X
either true b X e f g = f refl
either false b X e f g = g e

not_both : (a b : Bool) → b ≡ false → (a && b) ≡ false
not_both true b e = e
not_both false b e = refl

-- walks go on
pub walks_on : (types : List TypeForm) (d first from t c k u : ℕ) → Walks types d first from t → Walks types t c k u → Walks types d (first + c) (from + k) u
walks_on types d _ _ t c k u ends more =
    let first : c ≡ 0 + c = omega arith in
    let number : k ≡ 0 + k = omega arith in
    subst (λ (j : ℕ). Walks types d j (0 + k) u) first (subst (λ (j : ℕ). Walks types d c j u) number more)
walks_on types d _ _ t c k u (into i first from _ m name ps cs f p v at there is known_as walks) more =
    let before : p.first + (first + c) ≡ p.first + first + c = omega arith in
    let number : p.part + (from + k) ≡ p.part + from + k = omega arith in
    subst (λ (j : ℕ). Walks types d j (p.part + from + k) u) before
    (subst (λ (j : ℕ). Walks types d (p.first + (first + c)) j u) number
    (into i (first + c) (from + k) u m name ps cs f p v at there is known_as (walks_on types v.0 first from t c k u walks more)))

-- components whose controlled parts are numbered in order
order_above : (types : List TypeForm) (count from : ℕ) (ps : List PartForm) (i : ℕ) (c : PartForm) → fits.parts_in_order types count from ps ≡ true → slice_get ps i ≡ Some c → from ≤ c.part
order_above types count from [] i c e is = absurd (cc is)
order_above types count from (p ∷ ps) zero c e is =
    let same : p ≡ c = cc is in
    let at = eqb-true p.part from (first_part (eqb p.part from) (fits.parts_in_order types count (from + fits.parts_within types p.kind) ps) e) in
    subst (λ (d : PartForm). from ≤ d.part) same (omega (arith, at))
order_above types count from (p ∷ ps) (suc i) c e is =
    let own = fits.parts_within types p.kind in
    let h = order_above types count (from + own) ps i c (second_part (eqb p.part from) (fits.parts_in_order types count (from + own) ps) e) is in
    omega (arith, h)

-- the one that has a controlled part is found
find_part : (types : List TypeForm) (count from n : ℕ) (ps : List PartForm) (i : ℕ) (c : PartForm) → fits.parts_in_order types count from ps ≡ true → slice_get ps i ≡ Some c → c.part ≤ n → n < c.part + fits.parts_within types c.kind → find (fits.has_part types n) ps ≡ Some c
find_part types count from n [] i c e is low high = absurd (cc is)
find_part types count from n (p ∷ ps) zero c e is low high =
    let same : c ≡ p = cc is in
    own_found (subst (λ (d : PartForm). d.part ≤ n) same low) (subst (λ (d : PartForm). n < d.part + fits.parts_within types d.kind) same high) ∙ is
  where
    own_found : p.part ≤ n → n < p.part + fits.parts_within types p.kind → find (fits.has_part types n) (p ∷ ps) ≡ Some p
    own_found low high =
        ap (λ (b : Bool). cond b (Some p) (find (fits.has_part types n) ps))
        (both_parts (not (nat_lt n p.part)) (nat_lt n (p.part + fits.parts_within types p.kind)) (ap (λ (b : Bool). not b) (le-ltb n p.part low))
        (lt-ltb n (p.part + fits.parts_within types p.kind) high))
find_part types count from n (p ∷ ps) (suc i) c e is low high =
    let own = fits.parts_within types p.kind in
    let rest = fits.parts_in_order types count (from + own) ps in
    let at = eqb-true p.part from (first_part (eqb p.part from) rest e) in
    let later = second_part (eqb p.part from) rest e in
    let above = order_above types count (from + own) ps i c later is in
    let off = not_both (not (nat_lt n p.part)) (nat_lt n (p.part + own)) (le-ltb n (p.part + own) (omega (arith, at, above, low))) in
    ap (λ (b : Bool). cond b (Some p) (find (fits.has_part types n) ps)) off ∙ find_part types count (from + own) n ps i c later is low high

-- a record is found where it is
whole_is : (t : ℕ) → fits.is_whole t (fits.place_from (Some t) 0 0) ≡ true
whole_is t = both_parts (eqb t t && eqb 0 0) (eqb 0 0) (both_parts (eqb t t) (eqb 0 0) (eq-eqb t t refl) refl) refl

whole_found : (types : List TypeForm) (depth t : ℕ) (o : _) → fits.is_whole t o ≡ true → fits.is_found types depth t o ≡ true
whole_found types zero t o e = e
whole_found types (suc depth) t o e = left_or (fits.is_whole t o) (fits.is_found types depth t (fits.place_inside types o)) e

none_found : (types : List TypeForm) (depth t : ℕ) → fits.is_found types depth t None ≡ true → ⊥
none_found types zero t e = cc e
none_found types (suc depth) t e = none_found types depth t e

-- the number of a type among those that have controlled parts, if it has one
abbrev number_said : Option Finalization → ℕ
number_said None = 0
number_said (Some f) = f.number.0

below_said : (n m : ℕ) (o : Option Finalization) → number_in o ≡ Some m → fits.is_numbered_below n o ≡ true → number_said o < n
below_said n m None numbered e = absurd (cc numbered)
below_said n m (Some f) numbered e = ltb-true f.number.0 n e

-- among types that fit
module _ (types : List TypeForm) (all : list_all (fits.type_fits types) types ≡ true) where
  -- what is said of the controlled parts of a type
  said : (t : ℕ) (name : List ℕ) (ps : List PartForm) (cs : List ComponentKind) (f : Finalization) → slice_get types t ≡ Some (record_of name ps cs (Some f)) → fits.says_parts types (Some f) ps ≡ true
  said t name ps cs f at = counted_says types name ps cs (Some f) (counted_there types t (record_of name ps cs (Some f)) all at)

  step_less : (t i m : ℕ) (name : List ℕ) (ps : List PartForm) (cs : List ComponentKind) (f : Finalization) (p : PartForm) (v : TypeNo) → slice_get types t ≡ Some (record_of name ps cs (Some f)) → slice_get ps i ≡ Some p → p.kind ≡ part.Record v → number_in (fits.finalization_of types v.0) ≡ Some m → number_said (fits.finalization_of types v.0) < f.number.0
  step_less t i m name ps cs f p v at there is numbered =
      let some = nat_lt 0 f.parts in
      let in_order = fits.parts_in_order types f.parts 0 ps in
      let earlier = list_all (λ (q : PartForm). fits.is_of_earlier types f.number.0 q.kind) ps in
      let one = all_get (λ (q : PartForm). fits.is_of_earlier types f.number.0 q.kind) ps i p (second_part (some && in_order) earlier (said t name ps cs f at)) there in
      below_said f.number.0 m (fits.finalization_of types v.0) numbered (subst (λ (k : PartKind). fits.is_of_earlier types f.number.0 k ≡ true) is one)

  -- the controlled parts of a record that lies in another are among its own
  walk_parts : (d first from t : ℕ) → Walks types d first from t → from + fits.part_count types t ≤ fits.part_count types d
  walk_parts d _ _ t ends = omega arith
  walk_parts d _ _ t (into i first from _ m name ps cs f p v at there is numbered walks) =
      let h = walk_parts v.0 first from t walks in
      let own = part_lies types d name ps cs (Some f) i p all at there in
      let same : fits.parts_within types p.kind ≡ fits.part_count types v.0 = ap (λ (k : PartKind). fits.parts_within types k) is in
      omega (arith, h, own, same)

  -- the place in the declared component
  inside_is : (d i first from t m : ℕ) (name : List ℕ) (ps : List PartForm) (cs : List ComponentKind) (f : Finalization) (p : PartForm) (v : TypeNo) → slice_get types d ≡ Some (record_of name ps cs (Some f)) → slice_get ps i ≡ Some p → p.kind ≡ part.Record v → 0 < fits.part_count types t → from + fits.part_count types t ≤ fits.part_count types v.0 → fits.place_inside types (fits.place_from (Some d) (p.first + first) (p.part + from)) ≡ fits.place_from (Some v.0) first from
  inside_is d i first from t m name ps cs f p v at there is some within =
      let c = p.first + first in
      let k = p.part + from in
      let order = said_order types (Some f) ps (said d name ps cs f at) in
      let same : fits.parts_within types p.kind ≡ fits.part_count types v.0 = ap (λ (kind : PartKind). fits.parts_within types kind) is in
      let found = find_part types f.parts 0 k ps i p order there (omega arith) (omega (arith, some, within, same)) in
      let less : nat_lt c p.first ≡ false = le-ltb c p.first (omega arith) in
      let first_is : c - p.first ≡ first = omega arith in
      let from_is : k - p.part ≡ from = omega arith in
      ap (λ (o : Option TypeForm). fits.place_within (record { within = d; first = c; part = k }) (find (fits.has_part types k) (fits.parted_components o))) at ∙
      (ap (λ (o : Option PartForm). fits.place_within (record { within = d; first = c; part = k }) o) found ∙
      (ap (λ (kind : PartKind). fits.place_in (record { within = d; first = c; part = k }) p kind) is ∙
      (ap (λ (b : Bool). cond b None (fits.place_from (Some v.0) (c - p.first) (k - p.part))) less ∙
      (ap (λ (n : ℕ). fits.place_from (Some v.0) n (k - p.part)) first_is ∙ ap (λ (n : ℕ). fits.place_from (Some v.0) first n) from_is))))

  -- a record that lies in another is found
  pub walk_found : (depth d first from t : ℕ) → Walks types d first from t → 0 < fits.part_count types t → number_said (fits.finalization_of types d) ≤ depth → fits.is_found types depth t (fits.place_from (Some d) first from) ≡ true
  walk_found depth d _ _ t ends some deep = whole_found types depth t (fits.place_from (Some t) 0 0) (whole_is t)
  walk_found zero d _ _ t (into i first from _ m name ps cs f p v at there is numbered walks) some deep =
      let less = step_less d i m name ps cs f p v at there is numbered in
      let own : number_said (fits.finalization_of types d) ≡ f.number.0 = ap (λ (o : Option TypeForm). number_said (fits.finalization_in o)) at in
      absurd (omega (arith, less, own, deep))
  walk_found (suc depth) d _ _ t (into i first from _ m name ps cs f p v at there is numbered walks) some deep =
      let less = step_less d i m name ps cs f p v at there is numbered in
      let own : number_said (fits.finalization_of types d) ≡ f.number.0 = ap (λ (o : Option TypeForm). number_said (fits.finalization_in o)) at in
      let inside = inside_is d i first from t m name ps cs f p v at there is some (walk_parts v.0 first from t walks) in
      let here = fits.place_from (Some d) (p.first + first) (p.part + from) in
      right_or (fits.is_whole t here) (fits.is_found types depth t (fits.place_inside types here))
      (ap (λ o. fits.is_found types depth t o) inside ∙ walk_found depth v.0 first from t walks some (omega (arith, less, own, deep)))

  -- a type's number among those that have controlled parts is below how many types there are
  pub number_within : (t : ℕ) → number_said (fits.finalization_of types t) ≤ length types
  number_within t = by_final (fits.finalization_of types t) (earlier_there types t all)
    where
      by_final : (o : Option Finalization) → fits.is_numbered_below (fits.numbered_types types) o ≡ true → number_said o ≤ length types
      by_final None e = omega arith
      by_final (Some f) e =
          let less = ltb-true f.number.0 (fits.numbered_types types) e in
          let most = count_most (λ x. is_some (fits.finalization_in (Some x))) types in omega (arith, less, most)

-- where types are added, what is found is found still
find_same : {X : Type 0} (p q : X → Bool) (xs : List X) → ((i : ℕ) (x : X) → slice_get xs i ≡ Some x → p x ≡ q x) → find p xs ≡ find q xs
find_same p q [] w = refl
find_same p q (x ∷ xs) w = rw (w 0 x refl, find_same p q xs (λ i. w (suc i))) refl

module _ (types more : List TypeForm) (ts : AreIn (forms types) (forms more)) (laid : AreRecordsLaid types) where
  found_same : (t n : ℕ) (name : List ℕ) (ps : List PartForm) (cs : List ComponentKind) (f : Finalization) → slice_get types t ≡ Some (record_of name ps cs (Some f)) → find (fits.has_part more n) ps ≡ find (fits.has_part types n) ps
  found_same t n name ps cs f at =
      let alike = alike_stays types more ts (record_of name ps cs (Some f)) (laid t (record_of name ps cs (Some f)) at) in
      find_same (fits.has_part more n) (fits.has_part types n) ps
      (λ i p is. ap (λ (count : ℕ). not (nat_lt n p.part) && nat_lt n (p.part + count)) (within_alike types more p.kind (alike i p is)))

  inside_stays : (at b : _) → fits.place_inside types (Some at) ≡ Some b → fits.place_inside more (Some at) ≡ Some b
  inside_stays at b e = by_form (slice_get types at.within) refl e
    where
      by_final : (name : List ℕ) (ps : List PartForm) (cs : List ComponentKind) (f : Finalization) → slice_get types at.within ≡ Some (record_of name ps cs (Some f)) → (z : Option Finalization) → slice_get more at.within ≡ Some (record_of name ps cs z) → bare_final z ≡ bare_final (Some f) → fits.place_within at (find (fits.has_part types at.part) ps) ≡ Some b → fits.place_inside more (Some at) ≡ Some b
      by_final name ps cs f is None there same e = absurd (cc same)
      by_final name ps cs f is (Some g) there same e =
          ap (λ (o : Option TypeForm). fits.place_within at (find (fits.has_part more at.part) (fits.parted_components o))) there ∙
          (ap (λ (o : Option PartForm). fits.place_within at o) (found_same at.within at.part name ps cs f is) ∙ e)

      by_form : (o : Option TypeForm) → slice_get types at.within ≡ o → fits.place_within at (find (fits.has_part types at.part) (fits.parted_components o)) ≡ Some b → fits.place_inside more (Some at) ≡ Some b
      by_form None is e = absurd (cc e)
      by_form (Some (record_of name ps cs None)) is e = absurd (cc e)
      by_form (Some (record_of name ps cs (Some f))) is e =
          let there = record_stays types more ts at.within name ps cs (Some f) is in by_final name ps cs f is there.0 there.1 there.2 e
      by_form (Some (access_to name d pool)) is e = absurd (cc e)
      by_form (Some (object_of r)) is e = absurd (cc e)

  pub found_stays : (depth long t : ℕ) (o : _) → depth ≤ long → fits.is_found types depth t o ≡ true → fits.is_found more long t o ≡ true
  found_stays zero long t o le e = whole_found more long t o e
  found_stays (suc depth) zero t o le e = absurd (omega (arith, le))
  found_stays (suc depth) (suc long) t o le e =
      either (fits.is_whole t o) (fits.is_found types depth t (fits.place_inside types o)) (fits.is_found more (suc long) t o ≡ true) e
      (λ whole. left_or (fits.is_whole t o) (fits.is_found more long t (fits.place_inside more o)) whole)
      (λ inside. right_or (fits.is_whole t o) (fits.is_found more long t (fits.place_inside more o)) (by_place o inside (λ b h. found_stays depth long t (Some b) (omega (arith, le)) h)))
    where
      by_inside : (at : _) (p : _) → fits.place_inside types (Some at) ≡ p → ((b : _) → fits.is_found types depth t (Some b) ≡ true → fits.is_found more long t (Some b) ≡ true) → fits.is_found types depth t p ≡ true → fits.is_found more long t (fits.place_inside more (Some at)) ≡ true
      by_inside at None is w h = absurd (none_found types depth t h)
      by_inside at (Some b) is w h = ap (λ p. fits.is_found more long t p) (inside_stays at b is) ∙ w b h

      by_place : (o : _) → fits.is_found types depth t (fits.place_inside types o) ≡ true → ((b : _) → fits.is_found types depth t (Some b) ≡ true → fits.is_found more long t (Some b) ≡ true) → fits.is_found more long t (fits.place_inside more o) ≡ true
      by_place None h w = absurd (none_found types depth t h)
      by_place (Some at) h w = by_inside at (fits.place_inside types (Some at)) refl w h
