-- What is used too late.

use Rattle.std.proofs.Common.{◌≡◌, ℕ, zero, suc, ◌+◌, ◌<◌, Bool, true, false, List, [], ◌∷◌, length, map, refl, sym, ap, ◌∙◌, subst, ◌⊎◌, inl, inr, arith}
use Rattle.std.specs.Prelude.{◌↔◌, if◌then◌else◌, slice_index_or, Option, Some, None}
use Rattle.std.specs.Global.{Vec}
use Rattle.std.specs.List.{Contains, list_any, slice_get}
use Rattle.std.proofs.lemmas.Bool.{cases_lt, or_cases, or_left, or_right, eqb-true, eq-eqb}
use Rattle.std.proofs.lemmas.List.{length-map}
use Rattle.std.proofs.lemmas.List.Elements.{Contains-append_left, Contains-append_right, Contains-append_cases, Contains-push, Contains-push_cases}
use Rattle.std.proofs.lemmas.Option.{slice_get_past}
use Rattle.ada_deeds.specs.Does.{does}
use Rattle.ada_deeds.specs.Rows.{does_in}
use Rattle.ada_deeds.specs.declared.deed.Callee.TheVariants as callee
use Rattle.ada_deeds.specs.declared.deed.Deed.TheVariants as deed
use Rattle.ada_operations.specs.Created.{collections_of, place_of, precedes, is_created_before}
use Rattle.ada_operations.specs.Operations.{is_record_of, has_component, HasPart, itself, within, Uses, UsesTooLate}
use Rattle.ada_operations.specs.View.{place_at, type_within, component_types, types_within, Knows, uses_in, IsUsedAt, IsLast, later_of, begun_type, IsBegun}
use Rattle.ada_operations.specs.declared.facts.Facts.{Facts}
use Rattle.ada_operations.specs.declared.places.Place.{Place}
use Rattle.ada_operations.proofs.Orders.{later, later_order}
use Rattle.ada_program.specs.declared.program.PartKind.{PartKind}
use Rattle.ada_program.specs.declared.program.PartKind.TheVariants as part
use Rattle.ada_program.specs.declared.program.ProcedureNo.{ProcedureNo}
use Rattle.ada_program.specs.declared.program.Program.{Program}
use Rattle.ada_program.specs.declared.program.TypeDefinition.{TypeDefinition}
use Rattle.ada_program.specs.Kept.{types_in}
use Rattle.ada_program.specs.ProgramForm.{PartForm, TypeForm, type_form, record_of, access_to, object_of, ProgramForm, program_form}
use Rattle.ada_program.specs.WellFormed.{designated_in, designated_type}
use Rattle.ada_quiet.proofs.Firsts.{first_by, IsFirstBy, either_first, same_first}
use Rattle.ada_reach.specs.Graph.{HasEdge, Reaches, stays, goes, IsReached}
use Rattle.ada_reach.specs.View.{graph_of, IsMarked}
use Rattle.ada_reach.proofs.Reaching.{edge_first}

-- The last collection that is used.

last_same : (x y : Option Place) → later_of x y ≡ first_by later x y
last_same None y = refl
last_same (Some a) None = refl
last_same (Some a) (Some b) = refl

pub used_none : (facts : Facts) (procedure : ProcedureNo) → IsLast (IsUsedAt facts procedure 0) None
used_none facts procedure = λ place h. absurd (omega (arith, h.1))

-- One type more is used.
pub used_more : (facts : Facts) (procedure : ProcedureNo) (u : ℕ) (last : Option Place) (place : Place) → IsLast (IsUsedAt facts procedure u) last →
    uses_in facts.deeds procedure u ≡ true → place ≡ place_at facts.places.table.items u → IsLast (IsUsedAt facts procedure (u + 1)) (later_of last (Some place))
used_more facts procedure u last place h used at =
    same_first later (λ x. IsUsedAt facts procedure u x ⊎ (x ≡ place)) (IsUsedAt facts procedure (u + 1)) to from (later_of last (Some place))
    (subst (IsFirstBy later (λ x. IsUsedAt facts procedure u x ⊎ (x ≡ place))) (sym (last_same last (Some place)))
    (either_first later later_order (IsUsedAt facts procedure u) (λ x. x ≡ place) last (Some place) h
    (refl, λ y is. subst (λ (z : Place). later z place ≡ false) (sym is) (later_order.apart place))))
  where
    to : (x : Place) → IsUsedAt facts procedure u x ⊎ (x ≡ place) → IsUsedAt facts procedure (u + 1) x
    to x (inl g) = (g.0, omega (arith, g.1), g.2, g.3)
    to x (inr is) = (u, omega arith, used, is ∙ at)

    from : (x : Place) → IsUsedAt facts procedure (u + 1) x → IsUsedAt facts procedure u x ⊎ (x ≡ place)
    from x g = elim (cases_lt g.0 u) [
      | inl less ↦ inl (g.0, less, g.2, g.3)
      | inr more ↦ let here : g.0 ≡ u = omega (arith, more, g.1) in inr (g.3 ∙ ap (place_at facts.places.table.items) here ∙ sym at)
    ]

-- One type more is not.
pub unused_more : (facts : Facts) (procedure : ProcedureNo) (u : ℕ) (last : Option Place) → IsLast (IsUsedAt facts procedure u) last →
    uses_in facts.deeds procedure u ≡ false → IsLast (IsUsedAt facts procedure (u + 1)) last
unused_more facts procedure u last h unused = same_first later (IsUsedAt facts procedure u) (IsUsedAt facts procedure (u + 1)) to from last h
  where
    to : (x : Place) → IsUsedAt facts procedure u x → IsUsedAt facts procedure (u + 1) x
    to x g = (g.0, omega (arith, g.1), g.2, g.3)

    from : (x : Place) → IsUsedAt facts procedure (u + 1) x → IsUsedAt facts procedure u x
    from x g = elim (cases_lt g.0 u) [
      | inl less ↦ (g.0, less, g.2, g.3)
      | inr more ↦ let here : g.0 ≡ u = omega (arith, more, g.1) in absurd (cc (sym g.2 ∙ ap (uses_in facts.deeds procedure) here ∙ unused))
    ]

-- What is used, by what is known.

is_used : (p : ProgramForm) (facts : Facts) → Knows p facts → (procedure : ProcedureNo) (u : ℕ) → uses_in facts.deeds procedure u ≡ true → Uses p procedure u
is_used p facts k procedure u h =
    let frees = does_in facts.deeds (deed.Frees (record { 0 = u })) (callee.Procedure procedure) in
    let follows = does_in facts.deeds (deed.Follows (record { 0 = u })) (callee.Procedure procedure) in
    elim (or_cases frees follows h) [
      | inl f ↦ inl ((k.deeds (deed.Frees (record { 0 = u })) (callee.Procedure procedure)).0 f)
      | inr f ↦ inr ((k.deeds (deed.Follows (record { 0 = u })) (callee.Procedure procedure)).0 f)
    ]

using : (p : ProgramForm) (facts : Facts) → Knows p facts → (procedure : ProcedureNo) (u : ℕ) → Uses p procedure u → uses_in facts.deeds procedure u ≡ true
using p facts k procedure u (inl h) =
    or_left (does_in facts.deeds (deed.Frees (record { 0 = u })) (callee.Procedure procedure)) (does_in facts.deeds (deed.Follows (record { 0 = u })) (callee.Procedure procedure))
    ((k.deeds (deed.Frees (record { 0 = u })) (callee.Procedure procedure)).1 h)
using p facts k procedure u (inr h) =
    or_right (does_in facts.deeds (deed.Frees (record { 0 = u })) (callee.Procedure procedure)) (does_in facts.deeds (deed.Follows (record { 0 = u })) (callee.Procedure procedure))
    ((k.deeds (deed.Follows (record { 0 = u })) (callee.Procedure procedure)).1 h)

-- An access type that is used is a type of the program.
used_type : (p : ProgramForm) (procedure : ProcedureNo) (u : ℕ) → Uses p procedure u → u < length p.types
used_type p procedure u (inl (does of known each h)) = grind (arith, of)
used_type p procedure u (inr (does of known each h)) = grind (arith, of)

-- The types of components.

within_kind : (kind : PartKind) (n : ℕ) → Contains (type_within kind) n → is_record_of n kind ≡ true
within_kind (part.Elementary kind) n h = absurd (omega (arith, h.1))
within_kind (part.Record t) n h = elim (Contains-push_cases [] t.0 n h) [ inl away ↦ absurd (omega (arith, away.1)) | inr is ↦ eq-eqb t.0 n is ]
within_kind part.Parent n h = absurd (omega (arith, h.1))

kind_within : (kind : PartKind) (n : ℕ) → is_record_of n kind ≡ true → Contains (type_within kind) n
kind_within (part.Elementary kind) n h = absurd (cc h)
kind_within (part.Record t) n h = subst (Contains (t.0 ∷ [])) (eqb-true t.0 n h) (Contains-push [] t.0)
kind_within part.Parent n h = absurd (cc h)

listed : (ps : List PartForm) (n : ℕ) → Contains (component_types ps) n → list_any (λ c. is_record_of n c.kind) ps ≡ true
listed [] n h = absurd (omega (arith, h.1))
listed (p ∷ ps) n h = elim (Contains-append_cases (type_within p.kind) (component_types ps) n h) [
  | inl here ↦ or_left (is_record_of n p.kind) (list_any (λ c. is_record_of n c.kind) ps) (within_kind p.kind n here)
  | inr behind ↦ or_right (is_record_of n p.kind) (list_any (λ c. is_record_of n c.kind) ps) (listed ps n behind)
]

lists : (ps : List PartForm) (n : ℕ) → list_any (λ c. is_record_of n c.kind) ps ≡ true → Contains (component_types ps) n
lists [] n h = absurd (cc h)
lists (p ∷ ps) n h = elim (or_cases (is_record_of n p.kind) (list_any (λ c. is_record_of n c.kind) ps) h) [
  | inl here ↦ Contains-append_left (type_within p.kind) (component_types ps) n (kind_within p.kind n here)
  | inr behind ↦ Contains-append_right (type_within p.kind) (component_types ps) n (lists ps n behind)
]

-- Those of a type that may be there.
abbrev types_of : Option TypeForm → List ℕ
types_of None = []
types_of (Some t) = types_within t

has_listed : (o : Option TypeForm) (n : ℕ) → Contains (types_of o) n → has_component o n ≡ true
has_listed None n h = absurd (omega (arith, h.1))
has_listed (Some (record_of name parts components finalization)) n h = listed parts n h
has_listed (Some (access_to name designated pool)) n h = absurd (omega (arith, h.1))
has_listed (Some (object_of record_type)) n h = absurd (omega (arith, h.1))

lists_had : (o : Option TypeForm) (n : ℕ) → has_component o n ≡ true → Contains (types_of o) n
lists_had None n h = absurd (cc h)
lists_had (Some (record_of name parts components finalization)) n h = lists parts n h
lists_had (Some (access_to name designated pool)) n h = absurd (cc h)
lists_had (Some (object_of record_type)) n h = absurd (cc h)

row_is : (types : List TypeForm) (a : ℕ) → slice_index_or (map types_within types) a [] ≡ types_of (slice_get types a)
row_is [] a = refl
row_is (t ∷ ts) zero = refl
row_is (t ∷ ts) (suc a) = row_is ts a

-- The graph of types.

edge_has : (types : List TypeForm) (a b : ℕ) → HasEdge (map types_within types) a b → has_component (slice_get types a) b ≡ true
edge_has types a b e = has_listed (slice_get types a) b (subst (λ (row : List ℕ). Contains row b) (row_is types a) e)

has_edge : (types : List TypeForm) (a b : ℕ) → has_component (slice_get types a) b ≡ true → HasEdge (map types_within types) a b
has_edge types a b h = subst (λ (row : List ℕ). Contains row b) (sym (row_is types a)) (lists_had (slice_get types a) b h)

reaches_part : (types : List TypeForm) (r whole : ℕ) → r < length types → HasPart types r whole → Reaches (map types_within types) whole r
reaches_part types r w lt itself = stays (omega (arith, lt, length-map types types_within))
reaches_part types r w lt (within {component} {whole} h e) =
    edge_first (map types_within types) whole r (inr (component, has_edge types whole component e, reaches_part types r component lt h))

deeper : (types : List TypeForm) (b c whole : ℕ) → HasPart types b whole → has_component (slice_get types b) c ≡ true → HasPart types c whole
deeper types b c w itself e = within itself e
deeper types b c w (within {component} {whole} h f) e = within (deeper types b c component h e) f

part_reached : (types : List TypeForm) (whole r : ℕ) → Reaches (map types_within types) whole r → HasPart types r whole
part_reached types w n (stays is) = itself
part_reached types w n (goes {b} {c} h e is) = deeper types b c w (part_reached types w b h) (edge_has types b c e)

-- Uses that come too late.

-- What is begun.

begun_parts : (types : List TypeForm) (table : List (Option Place)) (place : Place) (t w : ℕ) → begun_type types table place t ≡ Some w →
    (designated_type types t ≡ Some w) × (precedes place (place_at table t) ≡ false)
begun_parts types table place t w h = go (precedes place (place_at table t)) refl h
  where
    go : (b : Bool) → precedes place (place_at table t) ≡ b → (if b then None else designated_type types t) ≡ Some w →
        (designated_type types t ≡ Some w) × (precedes place (place_at table t) ≡ false)
    go true is g = absurd (cc g)
    go false is g = (g, is)

begun_from : (types : List TypeForm) (table : List (Option Place)) (place : Place) (t w : ℕ) → designated_type types t ≡ Some w →
    precedes place (place_at table t) ≡ false → begun_type types table place t ≡ Some w
begun_from types table place t w is behind = ap (λ (b : Bool). if b then None else designated_type types t) behind ∙ is

access_type : (types : List TypeForm) (t w : ℕ) → designated_type types t ≡ Some w → t < length types
access_type types t w is = elim (cases_lt t (length types)) [
  | inl less ↦ less
  | inr more ↦ absurd (cc (sym (ap designated_in (slice_get_past types t more)) ∙ is))
]

-- Nothing is used.
pub nothing_late : (p : ProgramForm) (facts : Facts) → Knows p facts → (procedure : ProcedureNo) (r : ℕ) → IsLast (IsUsedAt facts procedure (length p.types)) None →
    ¬ (UsesTooLate p procedure r)
nothing_late p facts k procedure r f h =
    f (place_at facts.places.table.items h.0) (h.0, used_type p procedure h.0 h.1, using p facts k procedure h.0 h.1, refl)

-- The order, by the table.
by_table : (p : ProgramForm) (facts : Facts) → Knows p facts → (u t : ℕ) → u < length p.types → t < length p.types →
    precedes (place_at facts.places.table.items u) (place_at facts.places.table.items t) ≡ is_created_before (collections_of p) u t
by_table p facts k u t lt less =
    ap (λ (x : Place). precedes x (place_at facts.places.table.items t)) (k.places u lt) ∙ ap (precedes (place_of (collections_of p) u)) (k.places t less)

-- The types that are begun reach a type, or none does.
pub late_reached : (p : ProgramForm) (facts : Facts) → Knows p facts → (procedure : ProcedureNo) (r : ℕ) → r < length p.types → (place : Place) →
    IsLast (IsUsedAt facts procedure (length p.types)) (Some place) → (starts : List ℕ) →
    ((w : ℕ) → IsBegun p.types facts.places.table.items place (length p.types) w → Contains starts w) →
    ((w : ℕ) → Contains starts w → IsBegun p.types facts.places.table.items place (length p.types) w) →
    IsReached (map types_within p.types) starts r ↔ UsesTooLate p procedure r
late_reached p facts k procedure r lt place last starts all only = (to, from)
  where
    to : IsReached (map types_within p.types) starts r → UsesTooLate p procedure r
    to h =
        let (w, listed, reaches) = h in
        let (t, less, begun) = only w listed in
        let (u, few, used, at) = last.0 in
        let (is, behind) = begun_parts p.types facts.places.table.items place t w begun in (
          u,
          is_used p facts k procedure u used,
          (
            t,
            w,
            is,
            part_reached p.types w r reaches,
            sym (by_table p facts k u t few less) ∙ ap (λ (x : Place). precedes x (place_at facts.places.table.items t)) (sym at) ∙ behind,
          ),
        )

    from : UsesTooLate p procedure r → IsReached (map types_within p.types) starts r
    from h =
        let (u, used, too) = h in
        let (t, w, is, has, behind) = too in
        let few = used_type p procedure u used in
        let less = access_type p.types t w is in
        let table = facts.places.table.items in
        let before : precedes place (place_at table u) ≡ false = last.1 (place_at table u) (u, few, using p facts k procedure u used, refl) in
        let begun = begun_from p.types table place t w is
        (later_order.back (place_at table t) (place_at table u) place (by_table p facts k u t few less ∙ behind) before) in
        (w, all w (t, less, begun), reaches_part p.types r w lt has)

-- The same, as the code keeps it.
pub late_marked : (program : Program) (facts : Facts) → Knows (program_form program) facts → (procedure : ProcedureNo) (r : ℕ) → r < length program.types.items →
    (place : Place) (count : ℕ) → count ≡ length program.types.items → IsLast (IsUsedAt facts procedure count) (Some place) →
    (types : List TypeDefinition) → types ≡ program.types.items → (begun starts : List ℕ) → starts ≡ begun →
    ((w : ℕ) → IsBegun (types_in types) facts.places.table.items place (length types) w → Contains begun w) →
    ((w : ℕ) → Contains begun w → IsBegun (types_in types) facts.places.table.items place (length types) w) →
    (graph : List (Vec ℕ)) → graph ≡ facts.graph.items → (marks now : List Bool) → now ≡ marks →
    ((n : ℕ) → IsReached (graph_of graph) starts n → IsMarked marks n) → ((n : ℕ) → IsMarked marks n → IsReached (graph_of graph) starts n) →
    (answer : Bool) → answer ≡ slice_index_or now r false → (answer ≡ true) ↔ UsesTooLate (program_form program) procedure r
late_marked program facts k procedure r lt place count counted last types same begun starts listed all only graph is marks now seen marked reaches answer tells =
    let p : ProgramForm = program_form program in
    let size : length p.types ≡ length program.types.items = length-map program.types.items type_form in
    let table = facts.places.table.items in
    let G = map types_within p.types in
    let drawn : graph_of graph ≡ G = ap graph_of is ∙ k.graph in
    let length_of : length types ≡ length p.types = ap length same ∙ sym size in
    let forms : types_in types ≡ p.types = ap types_in same in
    let begins : (w : ℕ) → IsBegun (types_in types) table place (length types) w ≡ IsBegun p.types table place (length p.types) w =
    λ w. ap (λ (n : ℕ). IsBegun (types_in types) table place n w) length_of ∙ ap (λ (ts : List TypeForm). IsBegun ts table place (length p.types) w) forms in
    let exactly = late_reached p facts k procedure r (omega (arith, lt, size)) place
    (subst (λ (n : ℕ). IsLast (IsUsedAt facts procedure n) (Some place)) (counted ∙ sym size) last) begun
    (λ w h. all w (subst (λ (T : Type 0). T) (sym (begins w)) h)) (λ w h. subst (λ (T : Type 0). T) (begins w) (only w h)) in
    let marked_is : answer ≡ slice_index_or marks r false = tells ∙ ap (λ (xs : List Bool). slice_index_or xs r false) seen in (
      λ h. exactly.0 (subst (λ (g : List (List ℕ)). IsReached g begun r) drawn (subst (λ (s : List ℕ). IsReached (graph_of graph) s r) listed (reaches r (sym marked_is ∙ h)))),
      λ h. marked_is ∙ marked r (subst (λ (s : List ℕ). IsReached (graph_of graph) s r) (sym listed) (subst (λ (g : List (List ℕ)). IsReached g begun r) (sym drawn) (exactly.1 h))),
    )
