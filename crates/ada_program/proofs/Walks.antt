-- The test of whether a record of a type is found in a record of another walks into declared components.

use Rattle.std.proofs.Common.{◌≡◌, ℕ, zero, suc, ◌+◌, ◌-◌, ◌<◌, ◌≤◌, ◌==◌, ◌&&◌, Bool, true, false, List, [], ◌∷◌, length, Option, Some, None, arith, refl, sym, ap, ◌∙◌, subst}
use Rattle.std.specs.Prelude.{not, ◌||◌, nat_lt, count_by, find, if◌then◌else◌, is_some}
use Rattle.std.specs.List.{list_all, slice_get}
use Rattle.std.proofs.lemmas.Bool.{eqb-true, eq-eqb, ltb-true}
use Rattle.std.proofs.lemmas.List.Sums.{count_by-le-length}
use Rattle.std.proofs.lemmas.Grind.{common_steps}
use Rattle.ada_program.specs.declared.program.ComponentKind.{ComponentKind}
use Rattle.ada_program.specs.declared.program.Finalization.{Finalization}
use Rattle.ada_program.specs.declared.program.PartKind.{PartKind}
use Rattle.ada_program.specs.declared.program.PartKind.TheVariants as kinds
use Rattle.ada_program.specs.declared.program.TypeNo.{TypeNo}
use Rattle.ada_program.specs.declared.records.RecordPlace.{RecordPlace}
use Rattle.ada_program.specs.Controlled.{number_in}
use Rattle.ada_program.specs.ProgramForm.{PartForm, TypeForm, record_of, access_to, object_of}
use Rattle.ada_program.specs.Walks.{Walks, ends, into}
use Rattle.ada_program.specs.WellFormed.{kind_fits, finalization_in, finalization_of, count_said, part_count, parts_within, is_numbered_below, is_of_earlier, parts_in_order, parent_first, has_number, numbered_types, type_fits, has_parts_from, parts_named, parted_components, has_part, place_in, place_within, place_inside, is_whole, is_found, place_from, is_part_of, has_parts_at}
use Rattle.ada_program.proofs.Deep.{walks_to_part}

pub and_left : (a b : Bool) → (a && b) ≡ true → a ≡ true
and_left true b h = refl
and_left false b h = absurd (cc)

pub and_right : (a b : Bool) → (a && b) ≡ true → b ≡ true
and_right true b h = h
and_right false b h = absurd (cc)

either : (a b : Bool) (X : Type 0) → (a || b) ≡ true → (a ≡ true → X) → (b ≡ true → X) → X
either true b X is f g = f refl
either false b X is f g = g is

-- A place in the records of a type.
abbrev pub place : (within first part : ℕ) → RecordPlace
place t c k = record { within = t; first = c; part = k }

-- What is found passes the test.
found_next :
    (test : PartForm → Bool) (q : PartForm) (ps : List PartForm) (p : PartForm) (passes : Bool) → test q ≡ passes
    → (find test ps ≡ Some p → (i : ℕ) × (slice_get ps i ≡ Some p) × (test p ≡ true)) → (if passes then Some q else find test ps) ≡ Some p
    → (i : ℕ) × (slice_get (q ∷ ps) i ≡ Some p) × (test p ≡ true)
found_next test q ps p true passes more is = let one : q ≡ p = cc in (0, is, ap test (sym one) ∙ passes)
found_next test q ps p false passes more is = let later = more is in (suc later.0, later.1, later.2)

found_at : (test : PartForm → Bool) (ps : List PartForm) (p : PartForm) → find test ps ≡ Some p → (i : ℕ) × (slice_get ps i ≡ Some p) × (test p ≡ true)
found_at test [] p is = absurd (cc)
found_at test (q ∷ ps) p is = found_next test q ps p (test q) refl (λ later. found_at test ps p later) is

-- Nothing is found nowhere.
pub none_found : (types : List TypeForm) (depth u : ℕ) → is_found types depth u None ≡ true → ⊥
none_found types zero u is = cc
none_found types (suc depth) u is = none_found types depth u is

whole_walks : (types : List TypeForm) (u t c k : ℕ) → is_whole u (Some (place t c k)) ≡ true → Walks types t c k u
whole_walks types u t c k is =
    let two = and_left ((t == u) && (c == 0)) (k == 0) is in
    let same = eqb-true t u (and_left (t == u) (c == 0) two) in
    let none = eqb-true c 0 (and_right (t == u) (c == 0) two) in
    let no_part = eqb-true k 0 (and_right ((t == u) && (c == 0)) (k == 0) is) in
    subst (λ (j : ℕ). Walks types t j k u) (sym none) (subst (λ (j : ℕ). Walks types t 0 j u) (sym no_part) (subst (λ (v : ℕ). Walks types t 0 0 v) same ends))

numbered : (o : Option Finalization) → 0 < count_said o → (m : ℕ) × (number_in o ≡ Some m)
numbered None some = absurd (omega (arith, some))
numbered (Some f) some = (f.number.0, refl)

before : (k b n : ℕ) → (not (nat_lt k b) && nat_lt k (b + n)) ≡ true → (b + (k - b) ≡ k) × (0 < n)
before k b n is = (grind (arith, common_steps, is), grind (arith, common_steps, is))

not_less : (a b : ℕ) → nat_lt a b ≡ false → b + (a - b) ≡ a
not_less a b is = grind (arith, common_steps, is)

module _ (types : List TypeForm) (u t : ℕ) (name : List ℕ) (ps : List PartForm) (components : List ComponentKind) (f : Finalization) (declared : slice_get types t ≡ Some (record_of name ps components (Some f))) (further : Option RecordPlace → Bool) (nowhere : further None ≡ true → ⊥) (walks : (v c k : ℕ) → further (Some (place v c k)) ≡ true → Walks types v c k u) where
  by_first :
      (c k i : ℕ) (p : PartForm) (v : TypeNo) (less : Bool) → slice_get ps i ≡ Some p → p.kind ≡ kinds.Record v
      → (not (nat_lt k p.part) && nat_lt k (p.part + part_count types v.0)) ≡ true → nat_lt c p.first ≡ less
      → further (if less then None else Some (place v.0 (c - p.first) (k - p.part))) ≡ true → Walks types t c k u
  by_first c k i p v true at is within first found = absurd (nowhere found)
  by_first c k i p v false at is within first found =
      let part = before k p.part (part_count types v.0) within in
      let number = numbered (finalization_of types v.0) part.1 in
      let inside = walks v.0 (c - p.first) (k - p.part) found in
      subst (λ (j : ℕ). Walks types t j k u) (not_less c p.first first)
      (subst (λ (j : ℕ). Walks types t (p.first + (c - p.first)) j u) part.0
      (into i (c - p.first) (k - p.part) u number.0 name ps components f p v declared at is number.1 inside))

  by_kind :
      (c k i : ℕ) (p : PartForm) (kind : PartKind) → slice_get ps i ≡ Some p → p.kind ≡ kind
      → (not (nat_lt k p.part) && nat_lt k (p.part + parts_within types kind)) ≡ true → further (place_in (place t c k) p kind) ≡ true → Walks types t c k u
  by_kind c k i p (kinds.Elementary kind) at is within found = absurd (nowhere found)
  by_kind c k i p (kinds.Record v) at is within found = by_first c k i p v (nat_lt c p.first) at is within refl found
  by_kind c k i p kinds.Parent at is within found = absurd (nowhere found)

  by_component : (c k : ℕ) (o : Option PartForm) → find (has_part types k) ps ≡ o → further (place_within (place t c k) o) ≡ true → Walks types t c k u
  by_component c k None is found = absurd (nowhere found)
  by_component c k (Some p) is found =
      let there = found_at (has_part types k) ps p is in
      by_kind c k there.0 p p.kind there.1 refl there.2 found

by_type :
    (types : List TypeForm) (u t c k : ℕ) (o : Option TypeForm) → slice_get types t ≡ o → (further : Option RecordPlace → Bool) → (further None ≡ true → ⊥)
    → ((v d l : ℕ) → further (Some (place v d l)) ≡ true → Walks types v d l u) → further (place_within (place t c k) (find (has_part types k) (parted_components o))) ≡ true
    → Walks types t c k u
by_type types u t c k None at further nowhere walks is = absurd (nowhere is)
by_type types u t c k (Some (record_of name ps components None)) at further nowhere walks is = absurd (nowhere is)
by_type types u t c k (Some (record_of name ps components (Some f))) at further nowhere walks is =
    by_component types u t name ps components f at further nowhere walks c k (find (has_part types k) ps) refl is
by_type types u t c k (Some (access_to name designated pool)) at further nowhere walks is = absurd (nowhere is)
by_type types u t c k (Some (object_of record_type)) at further nowhere walks is = absurd (nowhere is)

-- So a record that is found at a place lies there.
pub walked : (types : List TypeForm) (depth u t c k : ℕ) → is_found types depth u (Some (place t c k)) ≡ true → Walks types t c k u
walked types zero u t c k is = whole_walks types u t c k is
walked types (suc depth) u t c k is =
    either (is_whole u (Some (place t c k))) (is_found types depth u (place_inside types (Some (place t c k)))) (Walks types t c k u) is
    (whole_walks types u t c k)
    (by_type types u t c k (slice_get types t) refl (is_found types depth u) (none_found types depth u) (λ v d l passes. walked types depth u v d l passes))

or_right : (a b : Bool) → b ≡ true → (a || b) ≡ true
or_right true b is = refl
or_right false b is = is

both : (a b : Bool) → a ≡ true → b ≡ true → (a && b) ≡ true
both true b h g = g
both false b h g = absurd (cc)

counts_within : (count part within : ℕ) → part + count ≤ within → has_parts_from count part within ≡ true
counts_within count part within fits = grind (arith, common_steps, fits)

-- The controlled parts of a record that has none lie wherever it is a part.
pub lie_anywhere :
    (types : List TypeForm) (u : ℕ) (object : Option ℕ) (c k : ℕ) → part_count types u ≡ 0 → is_part_of types u object ≡ true
    → has_parts_at types u object c k ≡ true
lie_anywhere types u object c k none is =
    ap (λ (n : ℕ). has_parts_from n k (parts_named types object) && ((n == 0) || is_found types (length types) u (place_from object c k)) && is_part_of types u object) none
    ∙ is

-- Walks go on, also by one declared component.
pub walks_on :
    (types : List TypeForm) (t first part u first_behind part_behind w : ℕ) → Walks types t first part u → Walks types u first_behind part_behind w
    → Walks types t (first + first_behind) (part + part_behind) w
walks_on types t _ _ u c k w ends more =
    let first : c ≡ 0 + c = omega arith in
    let number : k ≡ 0 + k = omega arith in
    subst (λ (j : ℕ). Walks types t j (0 + k) w) first (subst (λ (j : ℕ). Walks types t c j w) number more)
walks_on types t _ _ u c k w (into i first part _ m name ps components f p v at there is known_as walks) more =
    let before : p.first + (first + c) ≡ p.first + first + c = omega arith in
    let number : p.part + (part + k) ≡ p.part + part + k = omega arith in
    subst (λ (j : ℕ). Walks types t j (p.part + part + k) w) before
    (subst (λ (j : ℕ). Walks types t (p.first + (first + c)) j w) number
    (into i (first + c) (part + k) w m name ps components f p v at there is known_as (walks_on types v.0 first part u c k w walks more)))

pub one_step :
    (types : List TypeForm) (t i m : ℕ) (name : List ℕ) (ps : List PartForm) (components : List ComponentKind) (f : Finalization) (p : PartForm) (v : TypeNo)
    → slice_get types t ≡ Some (record_of name ps components (Some f)) → slice_get ps i ≡ Some p → p.kind ≡ kinds.Record v
    → number_in (finalization_of types v.0) ≡ Some m → Walks types t p.first p.part v.0
one_step types t i m name ps components f p v declared at is numbered =
    let first : p.first + 0 ≡ p.first = omega arith in
    let part : p.part + 0 ≡ p.part = omega arith in
    subst (λ (c : ℕ). Walks types t c p.part v.0) first
    (subst (λ (k : ℕ). Walks types t (p.first + 0) k v.0) part (into i 0 0 v.0 m name ps components f p v declared at is numbered ends))

-- Conversely, where the types fit, a record with controlled parts that lies there is found, since no two declared components share a controlled part, and each
-- one's type has a less number.
type_there : (types ts : List TypeForm) (t : ℕ) (form : TypeForm) → list_all (type_fits types) ts ≡ true → slice_get ts t ≡ Some form → type_fits types form ≡ true
type_there types [] t form fit is = absurd (cc)
type_there types (u ∷ ts) zero form fit is = let one : u ≡ form = cc in ap (type_fits types) (sym one) ∙ and_left (type_fits types u) (list_all (type_fits types) ts) fit
type_there types (u ∷ ts) (suc t) form fit is = type_there types ts t form (and_right (type_fits types u) (list_all (type_fits types) ts) fit) is

earlier_at :
    (types : List TypeForm) (number i : ℕ) (ps : List PartForm) (p : PartForm) → list_all (λ q. is_of_earlier types number q.kind) ps ≡ true
    → slice_get ps i ≡ Some p → is_of_earlier types number p.kind ≡ true
earlier_at types number i [] p all is = absurd (cc)
earlier_at types number zero (q ∷ ps) p all is =
    let one : q ≡ p = cc in
    ap (λ (r : PartForm). is_of_earlier types number r.kind) (sym one)
    ∙ and_left (is_of_earlier types number q.kind) (list_all (λ r. is_of_earlier types number r.kind) ps) all
earlier_at types number (suc i) (q ∷ ps) p all is =
    earlier_at types number i ps p (and_right (is_of_earlier types number q.kind) (list_all (λ r. is_of_earlier types number r.kind) ps) all) is

in_order_upwards : (types : List TypeForm) (count from : ℕ) (ps : List PartForm) → parts_in_order types count from ps ≡ true → from ≤ count
in_order_upwards types count from [] is = let same = eqb-true from count is in omega (arith, same)
in_order_upwards types count from (q ∷ ps) is =
    let behind = parts_in_order types count (from + parts_within types q.kind) ps in
    let more = in_order_upwards types count (from + parts_within types q.kind) ps (and_right (q.part == from) behind is) in
    omega (arith, more)

-- The controlled parts of a declared component are among those that are counted.
parts_at :
    (types : List TypeForm) (count from i : ℕ) (ps : List PartForm) (p : PartForm) → parts_in_order types count from ps ≡ true → slice_get ps i ≡ Some p
    → (from ≤ p.part) × (p.part + parts_within types p.kind ≤ count)
parts_at types count from i [] p is at = absurd (cc)
parts_at types count from zero (q ∷ ps) p is at =
    let one : q ≡ p = cc in
    let behind = parts_in_order types count (from + parts_within types q.kind) ps in
    let here = eqb-true q.part from (and_left (q.part == from) behind is) in
    let more = in_order_upwards types count (from + parts_within types q.kind) ps (and_right (q.part == from) behind is) in
    subst (λ (r : PartForm). (from ≤ r.part) × (r.part + parts_within types r.kind ≤ count)) one (omega (arith, here), omega (arith, here, more))
parts_at types count from (suc i) (q ∷ ps) p is at =
    let behind = parts_in_order types count (from + parts_within types q.kind) ps in
    let later = parts_at types count (from + parts_within types q.kind) i ps p (and_right (q.part == from) behind is) at in
    (let from_there = later.0 in omega (arith, from_there), later.1)

has_it : (n b w : ℕ) → b ≤ n → n < b + w → (not (nat_lt n b) && nat_lt n (b + w)) ≡ true
has_it n b w from to = grind (arith, common_steps, from, to)

has_it_not : (n b w : ℕ) → b + w ≤ n → (not (nat_lt n b) && nat_lt n (b + w)) ≡ false
has_it_not n b w past = grind (arith, common_steps, past)

-- So the one that has a controlled part is found by it.
one_found :
    (types : List TypeForm) (count from i n : ℕ) (ps : List PartForm) (p : PartForm) → parts_in_order types count from ps ≡ true → slice_get ps i ≡ Some p
    → p.part ≤ n → n < p.part + parts_within types p.kind → find (has_part types n) ps ≡ Some p
one_found types count from i n [] p is at low high = absurd (cc)
one_found types count from zero n (q ∷ ps) p is at low high =
    let one : q ≡ p = cc in
    let passes : has_part types n q ≡ true = ap (has_part types n) one ∙ has_it n p.part (parts_within types p.kind) low high in
    ap (λ (b : Bool). if b then Some q else find (has_part types n) ps) passes ∙ ap (λ (r : PartForm). Some r) one
one_found types count from (suc i) n (q ∷ ps) p is at low high =
    let behind = parts_in_order types count (from + parts_within types q.kind) ps in
    let here = eqb-true q.part from (and_left (q.part == from) behind is) in
    let rest = and_right (q.part == from) behind is in
    let later = parts_at types count (from + parts_within types q.kind) i ps p rest at in
    let past = later.0 in
    let passes : has_part types n q ≡ false = has_it_not n q.part (parts_within types q.kind) (omega (arith, here, past, low)) in
    ap (λ (b : Bool). if b then Some q else find (has_part types n) ps) passes
    ∙ one_found types count (from + parts_within types q.kind) i n ps p rest at low high

-- What a record type with controlled parts says of them.
record Says (types : List TypeForm) (ps : List PartForm) (f : Finalization) : Type 0 where
  in_order : parts_in_order types f.parts 0 ps ≡ true
  earlier : list_all (λ q. is_of_earlier types f.number.0 q.kind) ps ≡ true
  below : f.number.0 < numbered_types types

module _ (types : List TypeForm) (fit : list_all (type_fits types) types ≡ true) where
  says :
      (t : ℕ) (name : List ℕ) (ps : List PartForm) (components : List ComponentKind) (f : Finalization)
      → slice_get types t ≡ Some (record_of name ps components (Some f)) → Says types ps f
  says t name ps components f at =
      let kinds = list_all (kind_fits types) components in
      let first = parent_first ps in
      let some = nat_lt 0 f.parts in
      let ordered = parts_in_order types f.parts 0 ps in
      let earlier = list_all (λ q. is_of_earlier types f.number.0 q.kind) ps in
      let below = nat_lt f.number.0 (numbered_types types) in
      let one = count_by (λ u. has_number f.number.0 (finalization_in (Some u))) types == 1 in
      let all = type_there types types t (record_of name ps components (Some f)) fit at in
      let said = and_right (kinds && first) (some && ordered && earlier) (and_left (kinds && first && (some && ordered && earlier)) (below && one) all) in
      let alone = and_right (kinds && first && (some && ordered && earlier)) (below && one) all in
      record {
        in_order = and_right some ordered (and_left (some && ordered) earlier said);
        earlier = and_right (some && ordered) earlier said;
        below = ltb-true f.number.0 (numbered_types types) (and_left below one alone);
      }

  counted : (t : ℕ) (name : List ℕ) (ps : List PartForm) (components : List ComponentKind) (f : Finalization) → slice_get types t ≡ Some (record_of name ps components (Some f)) → part_count types t ≡ f.parts
  counted t name ps components f at = ap (λ (o : Option TypeForm). count_said (finalization_in o)) at

  -- The parts of a record that lies in another are among those of the other.
  parts_walked : (t c k u : ℕ) → Walks types t c k u → k + part_count types u ≤ part_count types t
  parts_walked t _ _ _ ends = omega arith
  parts_walked t _ _ u (into i first part _ m name ps components f p v at there is known walks) =
      let s = says t name ps components f at in
      let own = (parts_at types f.parts 0 i ps p s.in_order there).1 in
      let within : parts_within types p.kind ≡ part_count types v.0 = ap (parts_within types) is in
      let count = counted t name ps components f at in
      let inside = parts_walked v.0 first part u walks in
      omega (arith, own, within, count, inside)

  numbered_less : (m number : ℕ) (o : Option Finalization) → number_in o ≡ Some m → is_numbered_below number o ≡ true → m < number
  numbered_less m number None is less = absurd (cc is)
  numbered_less m number (Some g) is less = let same : g.number.0 ≡ m = cc in subst (λ (j : ℕ). j < number) same (ltb-true g.number.0 number less)

  entered :
      (c k first part : ℕ) (t : ℕ) (p : PartForm) (v : TypeNo) (kind : PartKind) → kind ≡ kinds.Record v → c ≡ p.first + first → k ≡ p.part + part
      → place_in (place t c k) p kind ≡ Some (place v.0 first part)
  entered c k first part t p v kind is before number =
      let here : nat_lt c p.first ≡ false = grind (arith, common_steps, before) in
      let rest : c - p.first ≡ first = omega (arith, before) in
      let parts : k - p.part ≡ part = omega (arith, number) in
      ap (place_in (place t c k) p) is
      ∙ ap (λ (b : Bool). if b then None else Some (place v.0 (c - p.first) (k - p.part))) here
      ∙ ap (λ (j : ℕ). Some (place v.0 j (k - p.part))) rest ∙ ap (λ (j : ℕ). Some (place v.0 first j)) parts

  found_inside :
      (depth u t c k first part i : ℕ) (name : List ℕ) (ps : List PartForm) (components : List ComponentKind) (f : Finalization) (p : PartForm) (v : TypeNo)
      → slice_get types t ≡ Some (record_of name ps components (Some f)) → slice_get ps i ≡ Some p → p.kind ≡ kinds.Record v → c ≡ p.first + first
      → k ≡ p.part + part → part < part_count types v.0 → is_found types depth u (Some (place v.0 first part)) ≡ true
      → is_found types depth u (place_inside types (Some (place t c k))) ≡ true
  found_inside depth u t c k first part i name ps components f p v at there is before number within found =
      let s = says t name ps components f at in
      let count : parts_within types p.kind ≡ part_count types v.0 = ap (parts_within types) is in
      let one = one_found types f.parts 0 i k ps p s.in_order there (omega (arith, number)) (omega (arith, number, count, within)) in
      ap (λ (o : Option TypeForm). is_found types depth u (place_within (place t c k) (find (has_part types k) (parted_components o)))) at
      ∙ ap (λ (o : Option PartForm). is_found types depth u (place_within (place t c k) o)) one
      ∙ ap (is_found types depth u) (entered c k first part t p v p.kind is before number) ∙ found

  found_deep :
      (u t c k n depth : ℕ) → Walks types t c k u → 0 < part_count types u → number_in (finalization_of types t) ≡ Some n → n < depth
      → is_found types depth u (Some (place t c k)) ≡ true
  found_deep u t c k n zero walks some numbered deep = absurd (omega (arith, deep))
  found_deep u t _ _ n (suc depth) ends some numbered deep =
      let same : (t == t) ≡ true = eq-eqb t t refl in
      ap (λ (b : Bool). b && true && true || is_found types depth t (place_inside types (Some (place t 0 0)))) same
  found_deep u t _ _ n (suc depth) (into i first part _ m name ps components f p v at there is known walks) some numbered deep =
      let s = says t name ps components f at in
      let early : is_of_earlier types f.number.0 (kinds.Record v) ≡ true = ap (is_of_earlier types f.number.0) (sym is) ∙ earlier_at types f.number.0 i ps p s.earlier there in
      let less = numbered_less m f.number.0 (finalization_of types v.0) known early in
      let said : Some f.number.0 ≡ Some n = ap (λ (o : Option TypeForm). number_in (finalization_in o)) (sym at) ∙ numbered in
      let own : f.number.0 ≡ n = cc in
      let inner = parts_walked v.0 first part u walks in
      let found = found_deep u v.0 first part m depth walks some known (omega (arith, less, own, deep)) in
      let here = is_whole u (Some (place t (p.first + first) (p.part + part))) in
      or_right here (is_found types depth u (place_inside types (Some (place t (p.first + first) (p.part + part)))))
      (found_inside depth u t (p.first + first) (p.part + part) first part i name ps components f p v at there is refl refl (omega (arith, inner, some)) found)

  -- Where a walk begins that leads to a record with controlled parts, there are some.
  record Start (t : ℕ) : Type 0 where
    name : List ℕ
    ps : List PartForm
    components : List ComponentKind
    f : Finalization
    at : slice_get types t ≡ Some (record_of name ps components (Some f))

  start_in : (t : ℕ) (o : Option TypeForm) → slice_get types t ≡ o → 0 < count_said (finalization_in o) → Start t
  start_in t None at some = absurd (omega (arith, some))
  start_in t (Some (record_of name ps components None)) at some = absurd (omega (arith, some))
  start_in t (Some (record_of name ps components (Some f))) at some = record { name = name; ps = ps; components = components; f = f; at = at }
  start_in t (Some (access_to name designated pool)) at some = absurd (omega (arith, some))
  start_in t (Some (object_of record_type)) at some = absurd (omega (arith, some))

  start : (t c k u : ℕ) → Walks types t c k u → 0 < part_count types u → Start t
  start t _ _ _ ends some = start_in t (slice_get types t) refl some
  start t _ _ u (into i first part _ m name ps components f p v at there kind known walks) some = record { name = name; ps = ps; components = components; f = f; at = at }

  pub found : (t c k u : ℕ) → Walks types t c k u → 0 < part_count types u → is_found types (length types) u (Some (place t c k)) ≡ true
  found t c k u walks some =
      let begins = start t c k u walks some in
      let below = (says t begins.name begins.ps begins.components begins.f begins.at).below in
      let all = count_by-le-length (λ d. is_some (finalization_in (Some d))) types in
      found_deep u t c k begins.f.number.0 (length types) walks some (ap (λ (o : Option TypeForm). number_in (finalization_in o)) begins.at) (omega (arith, below, all))

  -- So its controlled parts lie there; those of a record that has none lie wherever it is a part.
  lie_there : (t c k u count : ℕ) → part_count types u ≡ count → Walks types t c k u → has_parts_at types u (Some t) c k ≡ true
  lie_there t c k u zero is walks = lie_anywhere types u (Some t) c k is (walks_to_part types t c k u walks)
  lie_there t c k u (suc count) is walks =
      let within = parts_walked t c k u walks in
      let there = found t c k u walks (omega (arith, is)) in
      let counts = has_parts_from (part_count types u) k (part_count types t) in
      let found_there = (part_count types u == 0) || is_found types (length types) u (Some (place t c k)) in
      both (counts && found_there) (is_part_of types u (Some t))
      (both counts found_there
      (counts_within (part_count types u) k (part_count types t) within) (or_right (part_count types u == 0) (is_found types (length types) u (Some (place t c k))) there))
      (walks_to_part types t c k u walks)

  pub has_parts_walked : (t c k u : ℕ) → Walks types t c k u → has_parts_at types u (Some t) c k ≡ true
  has_parts_walked t c k u walks = lie_there t c k u (part_count types u) refl walks
