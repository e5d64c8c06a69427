-- Which records lie in which: by depths, however deep, and in the graph of types.

use Rattle.std.proofs.Common.{◌≡◌, ℕ, zero, suc, ◌<◌, Bool, true, false, ◌&&◌, ◌==◌, List, [], ◌∷◌, length, map, refl, sym, ap, ◌∙◌, subst, inl, inr, arith}
use Rattle.std.specs.Prelude.{slice_index_or, is_some, Option, Some, None}
use Rattle.std.specs.List.{Contains, list_any, range_with_len, slice_get}
use Rattle.std.proofs.lemmas.Bool.{cases_lt, or_cases, or_left, or_right, and_parts, and_from, eqb-true, eq-eqb}
use Rattle.std.proofs.lemmas.List.{length-map}
use Rattle.std.proofs.lemmas.List.Elements.{Contains-append_left, Contains-append_right, Contains-append_cases, Contains-push, Contains-push_cases}
use Rattle.std.proofs.lemmas.List.FromFn.{length-range_with_len, get_or-range_with_len}
use Rattle.std.proofs.lemmas.Option.{slice_get_past}
use Rattle.ada_program.specs.declared.program.PartKind.{PartKind}
use Rattle.ada_program.specs.declared.program.PartKind.TheVariants as part
use Rattle.ada_program.specs.ProgramForm.{PartForm, TypeForm, record_of, access_to, object_of}
use Rattle.ada_program.specs.WellFormed.{components_in, designated_in, designated_type, is_record}
use Rattle.ada_program.specs.Parts.{is_record_among, has_component_among, has_part_within, HasPart, itself, within}
use Rattle.ada_program.proofs.Deep.{record_there, in_range, within_depths, has_within, part_behind}
use Rattle.ada_flow.specs.Parts.{has_part, DepthsAreEnough, designates_part, designate_part}
use Rattle.ada_flow.specs.Reached.{type_within, component_types, types_within, IsDesignated}
use Rattle.ada_reach.specs.Graph.{HasEdge, Reaches, stays, goes, IsReached}
use Rattle.ada_reach.specs.View.{IsMarked}
use Rattle.ada_reach.proofs.Reaching.{edge_first}

-- Types that are there.

access_there : (types : List TypeForm) (t w : ℕ) → designated_type types t ≡ Some w → t < length types
access_there types t w is = elim (cases_lt t (length types)) [
  | inl less ↦ less
  | inr past ↦ absurd (cc (sym (ap designated_in (slice_get_past types t past)) ∙ is))
]

pub depths_are_enough : DepthsAreEnough
depths_are_enough types r w is = (
  (λ h. has_within types r (length types) w (and_parts (is_record types r) (has_part_within types (length types) r w) h).1),
  (λ h. and_from (is_record types r) (has_part_within types (length types) r w) is (within_depths types r (record_there types r is) w h)),
)

-- The graph of types.

within_kind : (kind : PartKind) (n : ℕ) → Contains (type_within kind) n → is_record_among (λ u. u == n) kind ≡ true
within_kind (part.Elementary kind) n h = absurd (omega (arith, h.1))
within_kind (part.Record t) n h = elim (Contains-push_cases [] t.0 n h) [ inl away ↦ absurd (omega (arith, away.1)) | inr is ↦ eq-eqb t.0 n is ]
within_kind part.Parent n h = absurd (omega (arith, h.1))

kind_within : (kind : PartKind) (n : ℕ) → is_record_among (λ u. u == n) kind ≡ true → Contains (type_within kind) n
kind_within (part.Elementary kind) n h = absurd (cc h)
kind_within (part.Record t) n h = subst (Contains (t.0 ∷ [])) (eqb-true t.0 n h) (Contains-push [] t.0)
kind_within part.Parent n h = absurd (cc h)

has_among : (ps : List PartForm) (n : ℕ) → Contains (component_types ps) n → list_any (λ c. is_record_among (λ u. u == n) c.kind) ps ≡ true
has_among [] n h = absurd (omega (arith, h.1))
has_among (p ∷ ps) n h = elim (Contains-append_cases (type_within p.kind) (component_types ps) n h) [
  | inl here ↦ or_left (is_record_among (λ u. u == n) p.kind) (list_any (λ c. is_record_among (λ u. u == n) c.kind) ps) (within_kind p.kind n here)
  | inr behind ↦ or_right (is_record_among (λ u. u == n) p.kind) (list_any (λ c. is_record_among (λ u. u == n) c.kind) ps) (has_among ps n behind)
]

among_has : (ps : List PartForm) (n : ℕ) → list_any (λ c. is_record_among (λ u. u == n) c.kind) ps ≡ true → Contains (component_types ps) n
among_has [] n h = absurd (cc h)
among_has (p ∷ ps) n h = elim (or_cases (is_record_among (λ u. u == n) p.kind) (list_any (λ c. is_record_among (λ u. u == n) c.kind) ps) h) [
  | inl here ↦ Contains-append_left (type_within p.kind) (component_types ps) n (kind_within p.kind n here)
  | inr behind ↦ Contains-append_right (type_within p.kind) (component_types ps) n (among_has ps n behind)
]

-- The record types of the components of a type that may be there.
abbrev types_of : Option TypeForm → List ℕ
types_of None = []
types_of (Some t) = types_within t

has_listed : (o : Option TypeForm) (n : ℕ) → Contains (types_of o) n → has_component_among (λ u. u == n) o ≡ true
has_listed None n h = absurd (omega (arith, h.1))
has_listed (Some (record_of name parts components finalization)) n h = has_among parts n h
has_listed (Some (access_to name designated pool)) n h = absurd (omega (arith, h.1))
has_listed (Some (object_of record_type)) n h = absurd (omega (arith, h.1))

lists_had : (o : Option TypeForm) (n : ℕ) → has_component_among (λ u. u == n) o ≡ true → Contains (types_of o) n
lists_had None n h = absurd (cc h)
lists_had (Some (record_of name parts components finalization)) n h = among_has parts n h
lists_had (Some (access_to name designated pool)) n h = absurd (cc h)
lists_had (Some (object_of record_type)) n h = absurd (cc h)

edges_are : (types : List TypeForm) (a : ℕ) → slice_index_or (map types_within types) a [] ≡ types_of (slice_get types a)
edges_are [] a = refl
edges_are (t ∷ ts) zero = refl
edges_are (t ∷ ts) (suc a) = edges_are ts a

edge_has : (types : List TypeForm) (a b : ℕ) → HasEdge (map types_within types) a b → has_component_among (λ u. u == b) (slice_get types a) ≡ true
edge_has types a b e = has_listed (slice_get types a) b (subst (λ (row : List ℕ). Contains row b) (edges_are types a) e)

has_edge : (types : List TypeForm) (a b : ℕ) → has_component_among (λ u. u == b) (slice_get types a) ≡ true → HasEdge (map types_within types) a b
has_edge types a b h = subst (λ (row : List ℕ). Contains row b) (sym (edges_are types a)) (lists_had (slice_get types a) b h)

reaches_part : (types : List TypeForm) (r w : ℕ) → r < length types → HasPart types r w → Reaches (map types_within types) w r
reaches_part types r w lt itself = stays (omega (arith, lt, length-map types types_within))
reaches_part types r w lt (within {component} {whole} h e) =
    edge_first (map types_within types) whole r (inr (component, has_edge types whole component e, reaches_part types r component lt h))

part_reached : (types : List TypeForm) (w r : ℕ) → Reaches (map types_within types) w r → HasPart types r w
part_reached types w n (stays is) = itself
part_reached types w n (goes {b} {c} h e is) = part_behind types b c w (part_reached types w b h) (edge_has types b c e)

-- Rows.

any_at : (f : ℕ → Bool) (xs : List ℕ) (x : ℕ) → Contains xs x → f x ≡ true → list_any f xs ≡ true
any_at f [] x (k, lt, is) h = absurd (omega (arith, lt))
any_at f (y ∷ ys) x (zero, lt, is) h = or_left (f y) (list_any f ys) (ap f is ∙ h)
any_at f (y ∷ ys) x (suc k, lt, is) h = or_right (f y) (list_any f ys) (any_at f ys x (k, omega (arith, lt), is) h)

any_is : (f : ℕ → Bool) (xs : List ℕ) → list_any f xs ≡ true → (x : ℕ) × (f x ≡ true)
any_is f [] h = absurd (cc h)
any_is f (y ∷ ys) h = elim (or_cases (f y) (list_any f ys) h) [
  | inl here ↦ (y, here)
  | inr behind ↦ any_is f ys behind
]

designates_one : (types : List TypeForm) (r : ℕ) (o : Option ℕ) → designates_part types r o ≡ true → (w : ℕ) × (o ≡ Some w) × (has_part types r w ≡ true)
designates_one types r None h = absurd (cc h)
designates_one types r (Some w) h = (w, refl, h)

-- One of some access types designates a type with a part.
pub designate_is : (types : List TypeForm) (among : ℕ → Bool) (r : ℕ) → designate_part types among r ≡ true →
    (t w : ℕ) × (among t ≡ true) × (designated_type types t ≡ Some w) × (has_part types r w ≡ true)
designate_is types among r h =
    let (t, both) = any_is (λ t. among t && designates_part types r (designated_type types t)) (range_with_len 0 (length types)) h in
    let parts = and_parts (among t) (designates_part types r (designated_type types t)) both in
    let (w, is, has) = designates_one types r (designated_type types t) parts.1 in
    (t, w, parts.0, is, has)

pub designate_from : (types : List TypeForm) (among : ℕ → Bool) (r t w : ℕ) → among t ≡ true → designated_type types t ≡ Some w → has_part types r w ≡ true →
    designate_part types among r ≡ true
designate_from types among r t w known is has =
    any_at (λ t. among t && designates_part types r (designated_type types t)) (range_with_len 0 (length types)) t
    (in_range (length types) t (access_there types t w is))
    (and_from (among t) (designates_part types r (designated_type types t)) known (ap (designates_part types r) is ∙ has))

same_answer : (a b : Bool) → (a ≡ true → b ≡ true) → (b ≡ true → a ≡ true) → a ≡ b
same_answer true true f g = refl
same_answer true false f g = sym (f refl)
same_answer false true f g = g refl
same_answer false false f g = refl

-- What is reached from the types that access types designate.
pub row_is : (types : List TypeForm) (among : ℕ → Bool) (starts : List ℕ) (marks : List Bool) →
    ((w : ℕ) → IsDesignated types among w → Contains starts w) → ((w : ℕ) → Contains starts w → IsDesignated types among w) →
    ((n : ℕ) → IsReached (map types_within types) starts n → IsMarked marks n) → ((n : ℕ) → IsMarked marks n → IsReached (map types_within types) starts n) →
    (r : ℕ) → (is_record types r && slice_index_or marks r false) ≡ designate_part types among r
row_is types among starts marks all only seen shown r = same_answer (is_record types r && slice_index_or marks r false) (designate_part types among r) to from
  where
    to : (is_record types r && slice_index_or marks r false) ≡ true → designate_part types among r ≡ true
    to h =
        let (is, marked) = and_parts (is_record types r) (slice_index_or marks r false) h in
        let (w, start, reaches) = shown r marked in
        let (t, known, designated) = only w start in
        designate_from types among r t w known designated ((depths_are_enough types r w is).1 (part_reached types w r reaches))

    from : designate_part types among r ≡ true → (is_record types r && slice_index_or marks r false) ≡ true
    from h =
        let (t, w, known, designated, has) = designate_is types among r h in
        let (is, deep) = and_parts (is_record types r) (has_part_within types (length types) r w) has in
        let part = (depths_are_enough types r w is).0 has in
        and_from (is_record types r) (slice_index_or marks r false) is
        (seen r (w, all w (t, known, designated), reaches_part types r w (record_there types r is) part))

-- No access type designates one.
pub no_row : (types : List TypeForm) (among : ℕ → Bool) → ((t : ℕ) → among t ≡ false) → (r : ℕ) → (is_record types r && false) ≡ designate_part types among r
no_row types among none r = same_answer (is_record types r && false) (designate_part types among r)
    (λ h. absurd (cc (and_parts (is_record types r) false h).1))
    (λ h. let (t, w, known, is, has) = designate_is types among r h in absurd (cc (sym (none t) ∙ known)))

-- Nothing is reached from nothing.
pub empty_row : (types : List TypeForm) (among : ℕ → Bool) (starts : List ℕ) (marks : List Bool) → length starts ≡ 0 → marks ≡ [] →
    ((w : ℕ) → IsDesignated types among w → Contains starts w) → ((w : ℕ) → Contains starts w → IsDesignated types among w) →
    (r : ℕ) → (is_record types r && slice_index_or marks r false) ≡ designate_part types among r
empty_row types among starts marks none bare all only =
    row_is types among starts marks all only
    (λ n h. let (w, start, reaches) = h in absurd (omega (arith, start.1, none)))
    (λ n h. let marked : slice_index_or marks n false ≡ true = h in absurd (cc (sym (ap (λ (ms : List Bool). slice_index_or ms n false) bare) ∙ marked)))
