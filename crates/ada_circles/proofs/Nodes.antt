-- What the edges of the graph say.

use Rattle.std.proofs.Common.{◌≡◌, ◌⊎◌, ℕ, zero, suc, ◌+◌, ◌<◌, Bool, true, false, nat_lt, List, [], ◌∷◌, ◌++◌, length, map, get_or, refl, sym, ap, ◌∙◌, subst, inl, inr, arith}
use Rattle.std.proofs.lemmas.List.{length-map, length-append}
use Rattle.std.proofs.lemmas.List.Elements.{Contains-append_left, Contains-append_right, Contains-append_cases}
use Rattle.std.specs.List.{Contains, slice_get}
use Rattle.std.specs.Prelude.{if◌then◌else◌, Option, Some, None, is_some}
use Rattle.ada_program.specs.declared.program.ComponentKind.{ComponentKind}
use Rattle.ada_program.specs.declared.program.Finalization.{Finalization}
use Rattle.ada_program.specs.declared.program.Operations.{Operations}
use Rattle.ada_program.specs.declared.program.PartKind.{PartKind}
use Rattle.ada_program.specs.declared.program.PartKind.TheVariants as part
use Rattle.ada_program.specs.declared.program.ProcedureNo.{ProcedureNo}
use Rattle.ada_program.specs.declared.program.TypeNo.{TypeNo}
use Rattle.ada_program.specs.Form.{DeclarationForm}
use Rattle.ada_program.specs.ProgramForm.{PartForm, TypeForm, record_of, access_to, object_of, ProgramForm}
use Rattle.ada_program.specs.WellFormed.{finalization_of}
use Rattle.ada_quiet.proofs.Unused.{some_same, within}
use Rattle.ada_reach.specs.Graph.{IsNode, HasEdge}
use Rattle.ada_circles.specs.Circles.{Overrides, declaration_makes, Creates}
use Rattle.ada_circles.specs.Edges.{to_type, to_created, to_declared, to_operation, to_operations, to_part, to_parts, from_body, from_type, from_bodies, from_types, edges}

-- What lists of none and of one have.

none : (m : ℕ) → Contains [] m → ⊥
none m (k, lt, is) = absurd (omega (arith, lt))

one : (x m : ℕ) → Contains (x ∷ []) m → m ≡ x
one x m (zero, lt, is) = sym is
one x m (suc k, lt, is) = absurd (omega (arith, lt))

-- An edge to a type.

type_only : (types : List TypeForm) (n t m : ℕ) → Contains (to_type types n t) m → (f : Finalization) × (finalization_of types t ≡ Some f) × (m ≡ n + t)
type_only types n t m has = go (finalization_of types t) refl has
  where
    go : (o : Option Finalization) → finalization_of types t ≡ o → Contains (if is_some o then (n + t) ∷ [] else []) m →
        (f : Finalization) × (finalization_of types t ≡ Some f) × (m ≡ n + t)
    go None is here = absurd (none m here)
    go (Some f) is here = (f, is, one (n + t) m here)

type_all : (types : List TypeForm) (n t : ℕ) (f : Finalization) → finalization_of types t ≡ Some f → Contains (to_type types n t) (n + t)
type_all types n t f at = subst (λ (o : Option Finalization). Contains (if is_some o then (n + t) ∷ [] else []) (n + t)) (sym at) (0, omega arith, refl)

-- The edges of declarations.

-- One of them creates an object of a record type whose node this is, and which has controlled parts.
abbrev Declares : List TypeForm → ℕ → List DeclarationForm → ℕ → Type 0
Declares types n ds m =
    (i : ℕ) × (d : DeclarationForm) × (t : ℕ) × (f : Finalization) × (slice_get ds i ≡ Some d) × (declaration_makes types d ≡ Some t)
    × (finalization_of types t ≡ Some f) × (m ≡ n + t)

created_only : (types : List TypeForm) (n : ℕ) (o : Option ℕ) (m : ℕ) → Contains (to_created types n o) m →
    (t : ℕ) × (f : Finalization) × (o ≡ Some t) × (finalization_of types t ≡ Some f) × (m ≡ n + t)
created_only types n None m has = absurd (none m has)
created_only types n (Some t) m has = let (f, at, is) = type_only types n t m has in (t, f, refl, at, is)

declared_only : (types : List TypeForm) (n : ℕ) (ds : List DeclarationForm) (m : ℕ) → Contains (to_declared types n ds) m → Declares types n ds m
declared_only types n [] m has = absurd (none m has)
declared_only types n (d ∷ ds) m has = elim (Contains-append_cases (to_created types n (declaration_makes types d)) (to_declared types n ds) m has) [
  | inl here ↦ let (t, f, makes, at, is) = created_only types n (declaration_makes types d) m here in (0, d, t, f, refl, makes, at, is)
  | inr later ↦ let (i, e, t, f, there, makes, at, is) = declared_only types n ds m later in (suc i, e, t, f, there, makes, at, is)
]

declared_all : (types : List TypeForm) (n : ℕ) (ds : List DeclarationForm) (i : ℕ) (d : DeclarationForm) (t : ℕ) (f : Finalization) →
    slice_get ds i ≡ Some d → declaration_makes types d ≡ Some t → finalization_of types t ≡ Some f → Contains (to_declared types n ds) (n + t)
declared_all types n [] i d t f there makes at = absurd (cc there)
declared_all types n (e ∷ ds) zero d t f there makes at =
    Contains-append_left (to_created types n (declaration_makes types e)) (to_declared types n ds) (n + t)
    (subst (λ (o : Option ℕ). Contains (to_created types n o) (n + t)) (sym (ap (declaration_makes types) (some_same there) ∙ makes)) (type_all types n t f at))
declared_all types n (e ∷ ds) (suc i) d t f there makes at =
    Contains-append_right (to_created types n (declaration_makes types e)) (to_declared types n ds) (n + t) (declared_all types n ds i d t f there makes at)

-- The edges of operations.

-- This is the node of a procedure that overrides one.
abbrev pub Overriding : ℕ → Operations → ℕ → Type 0
Overriding n o m = (q : ProcedureNo) × Overrides o q × (q.0 < n) × (m ≡ q.0)

operation_only : (n : ℕ) (o : Option ProcedureNo) (m : ℕ) → Contains (to_operation n o) m → (q : ProcedureNo) × (o ≡ Some q) × (q.0 < n) × (m ≡ q.0)
operation_only n None m has = absurd (none m has)
operation_only n (Some q) m has = go (nat_lt q.0 n) refl has
  where
    go : (less : Bool) → nat_lt q.0 n ≡ less → Contains (if less then q.0 ∷ [] else []) m →
        (r : ProcedureNo) × (Some q ≡ Some r) × (r.0 < n) × (m ≡ r.0)
    go true is here = (q, refl, grind (arith, is), one q.0 m here)
    go false is here = absurd (none m here)

operation_all : (n : ℕ) (o : Option ProcedureNo) (q : ProcedureNo) → o ≡ Some q → q.0 < n → Contains (to_operation n o) q.0
operation_all n o q is lt =
    let less : nat_lt q.0 n ≡ true = grind (arith, lt) in
    subst (λ (r : Option ProcedureNo). Contains (to_operation n r) q.0) (sym is)
    (subst (λ (b : Bool). Contains (if b then q.0 ∷ [] else []) q.0) (sym less) (0, omega arith, refl))

operations_only : (n : ℕ) (o : Operations) (m : ℕ) → Contains (to_operations n o) m → Overriding n o m
operations_only n o m has = elim (Contains-append_cases (to_operation n o.initialize) (to_operation n o.adjust ++ to_operation n o.finalize) m has) [
  | inl initialize ↦ let (q, is, lt, at) = operation_only n o.initialize m initialize in (q, inl is, lt, at)
  | inr others ↦ elim (Contains-append_cases (to_operation n o.adjust) (to_operation n o.finalize) m others) [
    | inl adjust ↦ let (q, is, lt, at) = operation_only n o.adjust m adjust in (q, inr (inl is), lt, at)
    | inr finalize ↦ let (q, is, lt, at) = operation_only n o.finalize m finalize in (q, inr (inr is), lt, at)
  ]
]

operations_all : (n : ℕ) (o : Operations) (q : ProcedureNo) → Overrides o q → q.0 < n → Contains (to_operations n o) q.0
operations_all n o q (inl is) lt =
    Contains-append_left (to_operation n o.initialize) (to_operation n o.adjust ++ to_operation n o.finalize) q.0 (operation_all n o.initialize q is lt)
operations_all n o q (inr (inl is)) lt =
    Contains-append_right (to_operation n o.initialize) (to_operation n o.adjust ++ to_operation n o.finalize) q.0
    (Contains-append_left (to_operation n o.adjust) (to_operation n o.finalize) q.0 (operation_all n o.adjust q is lt))
operations_all n o q (inr (inr is)) lt =
    Contains-append_right (to_operation n o.initialize) (to_operation n o.adjust ++ to_operation n o.finalize) q.0
    (Contains-append_right (to_operation n o.adjust) (to_operation n o.finalize) q.0 (operation_all n o.finalize q is lt))

-- The edges of components.

-- This is the node of the record type of one of them, which has controlled parts.
abbrev pub Holds : List TypeForm → ℕ → List PartForm → ℕ → Type 0
Holds types n ps m =
    (i : ℕ) × (p : PartForm) × (v : TypeNo) × (f : Finalization) × (slice_get ps i ≡ Some p) × (p.kind ≡ part.Record v)
    × (finalization_of types v.0 ≡ Some f) × (m ≡ n + v.0)

part_only : (types : List TypeForm) (n : ℕ) (kind : PartKind) (m : ℕ) → Contains (to_part types n kind) m →
    (v : TypeNo) × (f : Finalization) × (kind ≡ part.Record v) × (finalization_of types v.0 ≡ Some f) × (m ≡ n + v.0)
part_only types n (part.Elementary kind) m has = absurd (none m has)
part_only types n (part.Record v) m has = let (f, at, is) = type_only types n v.0 m has in (v, f, refl, at, is)
part_only types n part.Parent m has = absurd (none m has)

parts_only : (types : List TypeForm) (n : ℕ) (ps : List PartForm) (m : ℕ) → Contains (to_parts types n ps) m → Holds types n ps m
parts_only types n [] m has = absurd (none m has)
parts_only types n (p ∷ ps) m has = elim (Contains-append_cases (to_part types n p.kind) (to_parts types n ps) m has) [
  | inl here ↦ let (v, f, kind, at, is) = part_only types n p.kind m here in (0, p, v, f, refl, kind, at, is)
  | inr later ↦ let (i, q, v, f, there, kind, at, is) = parts_only types n ps m later in (suc i, q, v, f, there, kind, at, is)
]

parts_all : (types : List TypeForm) (n : ℕ) (ps : List PartForm) (i : ℕ) (p : PartForm) (v : TypeNo) (f : Finalization) →
    slice_get ps i ≡ Some p → p.kind ≡ part.Record v → finalization_of types v.0 ≡ Some f → Contains (to_parts types n ps) (n + v.0)
parts_all types n [] i p v f there kind at = absurd (cc there)
parts_all types n (q ∷ ps) zero p v f there kind at =
    Contains-append_left (to_part types n q.kind) (to_parts types n ps) (n + v.0)
    (subst (λ (k : PartKind). Contains (to_part types n k) (n + v.0)) (sym (ap (λ (r : PartForm). r.kind) (some_same there) ∙ kind))
    (type_all types n v.0 f at))
parts_all types n (q ∷ ps) (suc i) p v f there kind at =
    Contains-append_right (to_part types n q.kind) (to_parts types n ps) (n + v.0) (parts_all types n ps i p v f there kind at)

-- The lists of nodes.

first_row : {X : Type 0} (f : X → List ℕ) (xs : List X) (ys : List (List ℕ)) (a : ℕ) (x : X) → slice_get xs a ≡ Some x → get_or (map f xs ++ ys) a [] ≡ f x
first_row f [] ys a x at = absurd (cc at)
first_row f (z ∷ xs) ys zero x at = ap f (some_same at)
first_row f (z ∷ xs) ys (suc a) x at = first_row f xs ys a x at

first_cases : {X : Type 0} (f : X → List ℕ) (xs : List X) (ys : List (List ℕ)) (a m : ℕ) → a < length xs → Contains (get_or (map f xs ++ ys) a []) m →
    (x : X) × (slice_get xs a ≡ Some x) × Contains (f x) m
first_cases f [] ys a m lt has = absurd (omega (arith, lt))
first_cases f (x ∷ xs) ys zero m lt has = (x, refl, has)
first_cases f (x ∷ xs) ys (suc a) m lt has = first_cases f xs ys a m (omega (arith, lt)) has

later_row : {X : Type 0} (f : X → List ℕ) (xs : List X) (ys : List (List ℕ)) (t : ℕ) → get_or (map f xs ++ ys) (length xs + t) [] ≡ get_or ys t []
later_row f [] ys t = let same : 0 + t ≡ t = omega arith in ap (λ (n : ℕ). get_or ys n []) same
later_row f (x ∷ xs) ys t =
    let same : suc (length xs) + t ≡ suc (length xs + t) = omega arith in
    ap (λ (n : ℕ). get_or (f x ∷ (map f xs ++ ys)) n []) same ∙ later_row f xs ys t

only_row : {X : Type 0} (f : X → List ℕ) (xs : List X) (t : ℕ) (x : X) → slice_get xs t ≡ Some x → get_or (map f xs) t [] ≡ f x
only_row f [] t x at = absurd (cc at)
only_row f (z ∷ xs) zero x at = ap f (some_same at)
only_row f (z ∷ xs) (suc t) x at = only_row f xs t x at

only_cases : {X : Type 0} (f : X → List ℕ) (xs : List X) (t m : ℕ) → Contains (get_or (map f xs) t []) m →
    (x : X) × (slice_get xs t ≡ Some x) × Contains (f x) m
only_cases f [] t m has = absurd (none m has)
only_cases f (x ∷ xs) zero m has = (x, refl, has)
only_cases f (x ∷ xs) (suc t) m has = only_cases f xs t m has

-- The nodes.

-- A procedure, by its number.
abbrev pub procedure : ℕ → ProcedureNo
procedure n = record { 0 = n }

-- How many procedures come before the types.
abbrev pub count : ProgramForm → ℕ
count p = length p.bodies

nodes : (p : ProgramForm) → length (edges p) ≡ count p + length p.types
nodes p =
    let both = length-append (from_bodies p.types (count p) p.bodies) (from_types p.types (count p) p.types) in
    let bodies = length-map p.bodies (from_body p.types (count p)) in
    let types = length-map p.types (from_type p.types (count p)) in
    omega (arith, both, bodies, types)

pub body_node : (p : ProgramForm) (a : ℕ) → a < count p → IsNode (edges p) a
body_node p a lt = let size = nodes p in omega (arith, size, lt)

pub type_node : (p : ProgramForm) (t : ℕ) (f : Finalization) → finalization_of p.types t ≡ Some f → IsNode (edges p) (count p + t)
type_node p t f at = let size = nodes p in let lt = within p.types t f at in omega (arith, size, lt)

-- The edges of a body: it creates an object of the type to which one leads.

pub body_edge : (p : ProgramForm) (a : ProcedureNo) (m : ℕ) → a.0 < count p → HasEdge (edges p) a.0 m →
    (t : ℕ) × (f : Finalization) × Creates p a t × (finalization_of p.types t ≡ Some f) × (m ≡ count p + t)
body_edge p a m lt e =
    let (b, at, has) = first_cases (from_body p.types (count p)) p.bodies (from_types p.types (count p) p.types) a.0 m lt e in
    let (i, d, t, f, there, makes, parts, is) = declared_only p.types (count p) b.declarations m has in
    (t, f, (b, i, d, at, there, makes), parts, is)

pub body_has : (p : ProgramForm) (a : ProcedureNo) (t : ℕ) (f : Finalization) → Creates p a t → finalization_of p.types t ≡ Some f →
    HasEdge (edges p) a.0 (count p + t)
body_has p a t f (b, i, d, at, there, makes) parts =
    subst (λ (row : List ℕ). Contains row (count p + t))
    (sym (first_row (from_body p.types (count p)) p.bodies (from_types p.types (count p) p.types) a.0 b at))
    (declared_all p.types (count p) b.declarations i d t f there makes parts)

-- The edges of a type: to what overrides its operations, and to the types of its components.

-- It is such a record type.
abbrev pub Leaves : ProgramForm → ℕ → ℕ → Type 0
Leaves p t m =
    (name : List ℕ) × (ps : List PartForm) × (components : List ComponentKind) × (f : Finalization)
    × (slice_get p.types t ≡ Some (record_of name ps components (Some f))) × (Overriding (count p) f.operations m ⊎ Holds p.types (count p) ps m)

leaving : (p : ProgramForm) (t m : ℕ) (d : TypeForm) → slice_get p.types t ≡ Some d → Contains (from_type p.types (count p) d) m → Leaves p t m
leaving p t m (record_of name ps components None) at has = absurd (none m has)
leaving p t m (record_of name ps components (Some f)) at has =
    elim (Contains-append_cases (to_operations (count p) f.operations) (to_parts p.types (count p) ps) m has) [
      | inl operation ↦ (name, ps, components, f, at, inl (operations_only (count p) f.operations m operation))
      | inr component ↦ (name, ps, components, f, at, inr (parts_only p.types (count p) ps m component))
    ]
leaving p t m (access_to name designated pool) at has = absurd (none m has)
leaving p t m (object_of record_type) at has = absurd (none m has)

pub type_edge : (p : ProgramForm) (t m : ℕ) → HasEdge (edges p) (count p + t) m → Leaves p t m
type_edge p t m e =
    let row = later_row (from_body p.types (count p)) p.bodies (from_types p.types (count p) p.types) t in
    let (d, at, has) = only_cases (from_type p.types (count p)) p.types t m (subst (λ (xs : List ℕ). Contains xs m) row e) in
    leaving p t m d at has

type_row : (p : ProgramForm) (t : ℕ) (d : TypeForm) → slice_get p.types t ≡ Some d → get_or (edges p) (count p + t) [] ≡ from_type p.types (count p) d
type_row p t d at =
    later_row (from_body p.types (count p)) p.bodies (from_types p.types (count p) p.types) t ∙ only_row (from_type p.types (count p)) p.types t d at

pub operation_has : (p : ProgramForm) (t : ℕ) (name : List ℕ) (ps : List PartForm) (components : List ComponentKind) (f : Finalization) (q : ProcedureNo) →
    slice_get p.types t ≡ Some (record_of name ps components (Some f)) → Overrides f.operations q → q.0 < count p → HasEdge (edges p) (count p + t) q.0
operation_has p t name ps components f q at overrides lt =
    subst (λ (row : List ℕ). Contains row q.0) (sym (type_row p t (record_of name ps components (Some f)) at))
    (Contains-append_left (to_operations (count p) f.operations) (to_parts p.types (count p) ps) q.0 (operations_all (count p) f.operations q overrides lt))

pub component_has : (p : ProgramForm) (t : ℕ) (name : List ℕ) (ps : List PartForm) (components : List ComponentKind) (f g : Finalization)
    (i : ℕ) (q : PartForm) (v : TypeNo) →
    slice_get p.types t ≡ Some (record_of name ps components (Some f)) → slice_get ps i ≡ Some q → q.kind ≡ part.Record v →
    finalization_of p.types v.0 ≡ Some g → HasEdge (edges p) (count p + t) (count p + v.0)
component_has p t name ps components f g i q v at there kind parts =
    subst (λ (row : List ℕ). Contains row (count p + v.0)) (sym (type_row p t (record_of name ps components (Some f)) at))
    (Contains-append_right (to_operations (count p) f.operations) (to_parts p.types (count p) ps) (count p + v.0)
    (parts_all p.types (count p) ps i q v g there kind parts))
