-- Which records lie in which: by depths, and however deep.

use Rattle.std.proofs.Common.{◌≡◌, ℕ, zero, suc, ◌+◌, ◌<◌, Bool, true, false, ◌==◌, List, [], ◌∷◌, length, refl, sym, ap, ◌∙◌, subst, inl, inr, arith}
use Rattle.std.specs.Prelude.{is_some, Option, Some, None}
use Rattle.std.specs.List.{Contains, list_any, range_with_len, slice_get}
use Rattle.std.proofs.lemmas.Bool.{cases_lt, or_cases, or_left, or_right, eqb-true, eq-eqb}
use Rattle.std.proofs.lemmas.List.FromFn.{length-range_with_len, get_or-range_with_len}
use Rattle.std.proofs.lemmas.Option.{slice_get_past}
use Rattle.ada_program.specs.declared.program.ComponentKind.{ComponentKind}
use Rattle.ada_program.specs.declared.program.Finalization.{Finalization}
use Rattle.ada_program.specs.declared.program.PartKind.{PartKind}
use Rattle.ada_program.specs.declared.program.PartKind.TheVariants as part
use Rattle.ada_program.specs.declared.program.TypeNo.{TypeNo}
use Rattle.ada_program.specs.Controlled.{number_in}
use Rattle.ada_program.specs.Parts.{is_record_among, has_component_among, has_part_within, HasPart, itself, within}
use Rattle.ada_program.specs.ProgramForm.{PartForm, TypeForm, record_of, access_to, object_of}
use Rattle.ada_program.specs.Walks.{Walks, ends, into}
use Rattle.ada_program.specs.WellFormed.{components_in, finalization_in, finalization_of, is_record, is_part_of}
use Rattle.ada_program.proofs.Growing.{Rounds, has_stopped}

-- Components of some types.

record_stays : (some others : ℕ → Bool) → ((t : ℕ) → some t ≡ true → others t ≡ true) → (kind : PartKind) →
    is_record_among some kind ≡ true → is_record_among others kind ≡ true
record_stays some others more (part.Elementary kind) h = absurd (cc h)
record_stays some others more (part.Record t) h = more t.0 h
record_stays some others more part.Parent h = absurd (cc h)

components_stay : (some others : ℕ → Bool) → ((t : ℕ) → some t ≡ true → others t ≡ true) → (ps : List PartForm) →
    list_any (λ c. is_record_among some c.kind) ps ≡ true → list_any (λ c. is_record_among others c.kind) ps ≡ true
components_stay some others more [] h = absurd (cc h)
components_stay some others more (p ∷ ps) h = elim (or_cases (is_record_among some p.kind) (list_any (λ c. is_record_among some c.kind) ps) h) [
  | inl here ↦ or_left (is_record_among others p.kind) (list_any (λ c. is_record_among others c.kind) ps) (record_stays some others more p.kind here)
  | inr behind ↦ or_right (is_record_among others p.kind) (list_any (λ c. is_record_among others c.kind) ps) (components_stay some others more ps behind)
]

-- Where there is one of some types, there is one of more.
pub component_stays : (some others : ℕ → Bool) → ((t : ℕ) → some t ≡ true → others t ≡ true) → (o : Option TypeForm) →
    has_component_among some o ≡ true → has_component_among others o ≡ true
component_stays some others more None h = absurd (cc h)
component_stays some others more (Some (record_of name parts components finalization)) h = components_stay some others more parts h
component_stays some others more (Some (access_to name designated pool)) h = absurd (cc h)
component_stays some others more (Some (object_of record_type)) h = absurd (cc h)

record_found : (among : ℕ → Bool) (kind : PartKind) → is_record_among among kind ≡ true →
    (t : ℕ) × (among t ≡ true) × (is_record_among (λ u. u == t) kind ≡ true)
record_found among (part.Elementary kind) h = absurd (cc h)
record_found among (part.Record t) h = (t.0, h, eq-eqb t.0 t.0 refl)
record_found among part.Parent h = absurd (cc h)

found_among : (among : ℕ → Bool) (ps : List PartForm) → list_any (λ c. is_record_among among c.kind) ps ≡ true →
    (t : ℕ) × (among t ≡ true) × (list_any (λ c. is_record_among (λ u. u == t) c.kind) ps ≡ true)
found_among among [] h = absurd (cc h)
found_among among (p ∷ ps) h = elim (or_cases (is_record_among among p.kind) (list_any (λ c. is_record_among among c.kind) ps) h) [
  | inl here ↦
      let (t, known, is) = record_found among p.kind here in
      (t, known, or_left (is_record_among (λ u. u == t) p.kind) (list_any (λ c. is_record_among (λ u. u == t) c.kind) ps) is)
  | inr behind ↦
      let (t, known, is) = found_among among ps behind in
      (t, known, or_right (is_record_among (λ u. u == t) p.kind) (list_any (λ c. is_record_among (λ u. u == t) c.kind) ps) is)
]

-- And it is of one of them.
component_found : (among : ℕ → Bool) (o : Option TypeForm) → has_component_among among o ≡ true →
    (t : ℕ) × (among t ≡ true) × (has_component_among (λ u. u == t) o ≡ true)
component_found among None h = absurd (cc h)
component_found among (Some (record_of name parts components finalization)) h = found_among among parts h
component_found among (Some (access_to name designated pool)) h = absurd (cc h)
component_found among (Some (object_of record_type)) h = absurd (cc h)

-- Types that are there.

pub whole_there : (types : List TypeForm) (among : ℕ → Bool) (w : ℕ) → has_component_among among (slice_get types w) ≡ true → w < length types
whole_there types among w h = elim (cases_lt w (length types)) [
  | inl less ↦ less
  | inr past ↦ absurd (cc (sym (ap (has_component_among among) (slice_get_past types w past)) ∙ h))
]

pub record_there : (types : List TypeForm) (r : ℕ) → is_record types r ≡ true → r < length types
record_there types r h = elim (cases_lt r (length types)) [
  | inl less ↦ less
  | inr past ↦ absurd (cc (sym (ap (λ (o : Option TypeForm). is_some (components_in o)) (slice_get_past types r past)) ∙ h))
]

pub in_range : (n q : ℕ) → q < n → Contains (range_with_len 0 n) q
in_range n q lt = let l = length-range_with_len 0 n in (q, omega (arith, l, lt), get_or-range_with_len 0 n q q lt ∙ omega arith)

-- Depths.

module _ (types : List TypeForm) (r : ℕ) where
  deeper : (n w : ℕ) → has_part_within types n r w ≡ true → has_part_within types (suc n) r w ≡ true
  deeper zero w h = or_left (w == r) (has_component_among (has_part_within types zero r) (slice_get types w)) h
  deeper (suc n) w h = elim (or_cases (w == r) (has_component_among (has_part_within types n r) (slice_get types w)) h) [
    | inl is ↦ or_left (w == r) (has_component_among (has_part_within types (suc n) r) (slice_get types w)) is
    | inr has ↦
        or_right (w == r) (has_component_among (has_part_within types (suc n) r) (slice_get types w))
        (component_stays (has_part_within types n r) (has_part_within types (suc n) r) (deeper n) (slice_get types w) has)
  ]

  stops : (n : ℕ) → ((w : ℕ) → has_part_within types (suc n) r w ≡ true → has_part_within types n r w ≡ true) →
      (w : ℕ) → has_part_within types (suc (suc n)) r w ≡ true → has_part_within types (suc n) r w ≡ true
  stops n stopped w h = elim (or_cases (w == r) (has_component_among (has_part_within types (suc n) r) (slice_get types w)) h) [
    | inl is ↦ or_left (w == r) (has_component_among (has_part_within types n r) (slice_get types w)) is
    | inr has ↦
        or_right (w == r) (has_component_among (has_part_within types n r) (slice_get types w))
        (component_stays (has_part_within types (suc n) r) (has_part_within types n r) stopped (slice_get types w) has)
  ]

  listed : r < length types → (n w : ℕ) → has_part_within types (suc n) r w ≡ true → Contains (range_with_len 0 (length types)) w
  listed there n w h = elim (or_cases (w == r) (has_component_among (has_part_within types n r) (slice_get types w)) h) [
    | inl is ↦ in_range (length types) w (let same : w ≡ r = eqb-true w r is in omega (arith, same, there))
    | inr has ↦ in_range (length types) w (whole_there types (has_part_within types n r) w has)
  ]

  depths : r < length types → Rounds (range_with_len 0 (length types)) (λ n. has_part_within types n r)
  depths there = record { grows = deeper; listed = listed there; stops = stops }

  nothing_deeper : r < length types → (w : ℕ) → has_part_within types (suc (length types)) r w ≡ true → has_part_within types (length types) r w ≡ true
  nothing_deeper there w h =
      let n = length-range_with_len 0 (length types) in
      let stopped = has_stopped (range_with_len 0 (length types)) (λ n. has_part_within types n r) (depths there) w in
      sym (ap (λ (m : ℕ). has_part_within types m r w) n) ∙ stopped (ap (λ (m : ℕ). has_part_within types (suc m) r w) n ∙ h)

  pub itself_within : (n : ℕ) → has_part_within types n r r ≡ true
  itself_within zero = eq-eqb r r refl
  itself_within (suc n) = or_left (r == r) (has_component_among (has_part_within types n r) (slice_get types r)) (eq-eqb r r refl)

  pub within_depths : r < length types → (w : ℕ) → HasPart types r w → has_part_within types (length types) r w ≡ true
  within_depths there w itself = itself_within (length types)
  within_depths there w (within {component} {whole} h e) =
      let known = within_depths there component h in
      nothing_deeper there whole
      (or_right (whole == r) (has_component_among (has_part_within types (length types) r) (slice_get types whole))
      (component_stays (λ t. t == component) (has_part_within types (length types) r)
      (λ t is. subst (λ (x : ℕ). has_part_within types (length types) r x ≡ true) (sym (eqb-true t component is)) known) (slice_get types whole) e))

  pub has_within : (n w : ℕ) → has_part_within types n r w ≡ true → HasPart types r w
  has_within zero w h = subst (λ (x : ℕ). HasPart types r x) (sym (eqb-true w r h)) itself
  has_within (suc n) w h = elim (or_cases (w == r) (has_component_among (has_part_within types n r) (slice_get types w)) h) [
    | inl is ↦ subst (λ (x : ℕ). HasPart types r x) (sym (eqb-true w r is)) itself
    | inr has ↦ let (t, known, is) = component_found (has_part_within types n r) (slice_get types w) has in within (has_within n t known) is
  ]

-- Parts of parts are parts.
pub part_behind : (types : List TypeForm) (b c w : ℕ) → HasPart types b w → has_component_among (λ u. u == c) (slice_get types b) ≡ true → HasPart types c w
part_behind types b c w itself e = within itself e
part_behind types b c w (within {component} {whole} h f) e = within (part_behind types b c component h e) f

pub parts_behind : (types : List TypeForm) (b c w : ℕ) → HasPart types b w → HasPart types c b → HasPart types c w
parts_behind types b c w itself inner = inner
parts_behind types b c w (within {component} {whole} h f) inner = within (parts_behind types b c component h inner) f

-- The test is passed exactly where there is such a part, of a type that is there.
pub is_part : (types : List TypeForm) (r w : ℕ) → r < length types → HasPart types r w → is_part_of types r (Some w) ≡ true
is_part types r w there h = within_depths types r there w h

pub part_is : (types : List TypeForm) (r w : ℕ) → is_part_of types r (Some w) ≡ true → HasPart types r w
part_is types r w h = has_within types r (length types) w h

-- A declared component that is a record is a part.
any_there : (v : ℕ) (ps : List PartForm) (i : ℕ) (p : PartForm) → slice_get ps i ≡ Some p → is_record_among (λ u. u == v) p.kind ≡ true
    → list_any (λ c. is_record_among (λ u. u == v) c.kind) ps ≡ true
any_there v [] i p at is = absurd (cc)
any_there v (q ∷ ps) zero p at is =
    let one : q ≡ p = cc in
    or_left (is_record_among (λ u. u == v) q.kind) (list_any (λ c. is_record_among (λ u. u == v) c.kind) ps) (ap (λ (r : PartForm). is_record_among (λ u. u == v) r.kind) one ∙ is)
any_there v (q ∷ ps) (suc i) p at is =
    or_right (is_record_among (λ u. u == v) q.kind) (list_any (λ c. is_record_among (λ u. u == v) c.kind) ps) (any_there v ps i p at is)

pub component_is : (types : List TypeForm) (t i : ℕ) (name : List ℕ) (ps : List PartForm) (components : List ComponentKind) (f : Option Finalization) (p : PartForm) (v : TypeNo)
    → slice_get types t ≡ Some (record_of name ps components f) → slice_get ps i ≡ Some p → p.kind ≡ part.Record v → HasPart types v.0 t
component_is types t i name ps components f p v at there is =
    within itself
    (ap (has_component_among (λ u. u == v.0)) at ∙ any_there v.0 ps i p there (ap (is_record_among (λ u. u == v.0)) is ∙ eq-eqb v.0 v.0 refl))

-- A record that is found by walking into declared components is a part.
numbered_there : (types : List TypeForm) (t m : ℕ) → number_in (finalization_of types t) ≡ Some m → t < length types
numbered_there types t m is = elim (cases_lt t (length types)) [
  | inl less ↦ less
  | inr past ↦ absurd (cc (sym (ap (λ (o : Option TypeForm). number_in (finalization_in o)) (slice_get_past types t past)) ∙ is))
]

pub walked_part : (types : List TypeForm) (t c k u : ℕ) → Walks types t c k u → HasPart types u t
walked_part types t _ _ _ ends = itself
walked_part types t _ _ u (into i first part _ m name ps components f p v at there is known walks) =
    parts_behind types v.0 u t (component_is types t i name ps components (Some f) p v at there is) (walked_part types v.0 first part u walks)

walked_there : (types : List TypeForm) (t c k u : ℕ) → t < length types → Walks types t c k u → u < length types
walked_there types t _ _ _ less ends = less
walked_there types t _ _ u less (into i first part _ m name ps components f p v at there is known walks) =
    walked_there types v.0 first part u (numbered_there types v.0 m known) walks

pub walks_to_part : (types : List TypeForm) (t c k u : ℕ) → Walks types t c k u → is_part_of types u (Some t) ≡ true
walks_to_part types t _ _ _ ends = itself_within types t (length types)
walks_to_part types t _ _ u (into i first part _ m name ps components f p v at there is known walks) =
    is_part types u t (walked_there types v.0 first part u (numbered_there types v.0 m known) walks)
    (walked_part types t (p.first + first) (p.part + part) u (into i first part u m name ps components f p v at there is known walks))
