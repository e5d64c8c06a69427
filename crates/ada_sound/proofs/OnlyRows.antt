-- Types whose components stand in the order of their declared components (3.8), and the components of access types that these have.

use Rattle.std.proofs.Common.{◌≡◌, ℕ, zero, suc, ◌+◌, ◌-◌, ◌<◌, ◌≤◌, ◌==◌, Bool, true, false, ◌||◌, List, [], ◌∷◌, ◌++◌, length, Option, Some, None, inl, inr, arith, refl, sym, ap, ◌∙◌, subst}
use Rattle.std.specs.List.{list_all, list_any, slice_get}
use Rattle.std.proofs.lemmas.Bool.{and_parts, cases_lt, eqb-true}
use Rattle.ada_parts.proofs.Facts.{eq_self}
use Rattle.ada_program.specs.declared.program.ComponentKind.{ComponentKind}
use Rattle.ada_program.specs.declared.program.ComponentKind.TheVariants as component
use Rattle.ada_program.specs.declared.program.PartKind.{PartKind}
use Rattle.ada_program.specs.declared.program.PartKind.TheVariants as part
use Rattle.ada_program.specs.declared.program.TypeNo.{TypeNo}
use Rattle.ada_program.specs.declared.program.VariableKind.{VariableKind}
use Rattle.ada_program.specs.declared.program.VariableKind.TheVariants as variable
use Rattle.ada_program.specs.ProgramForm.{PartForm, TypeForm}
use Rattle.ada_program.specs.WellFormed.{is_parent, type_fits, held_kind, component_kind, kind_among, has_record_at, components_lie, is_alike, begins_with}
use Rattle.ada_typed.proofs.Records.{inside_kind}
use Rattle.ada_quiet.specs.InUse.{size_of_part, stand_in_a_row, is_copied_in_order, count_found}
use Rattle.ada_flow.specs.Flow.{is_owning, owns_among, is_owning_part}
use Rattle.ada_flow.specs.Tracking.{number_within, access_numbers}

-- The types of a program in which the components of each record stand in the order of its declared components.
pub record AreCopiedInOrder (types : List TypeForm) : Type 0 where
  pub types_fit : list_all (type_fits types) types ≡ true
  pub components_lie : list_all (components_lie types) types ≡ true
  pub copied_in_order : list_all (is_copied_in_order types) types ≡ true

-- What some element passes, and what none does.
pub some_passes : {X : Type 0} (test : X → Bool) (xs : List X) → list_any test xs ≡ true → (i : ℕ) × (x : X) × (slice_get xs i ≡ Some x) × (test x ≡ true)
some_passes test [] some = absurd (cc some)
some_passes {X = X} test (x ∷ xs) some = go (some_passes test xs) (test x) refl some
  where
    go : (list_any test xs ≡ true → (i : ℕ) × (y : X) × (slice_get xs i ≡ Some y) × (test y ≡ true)) → (b : Bool) → test x ≡ b
        → (b || list_any test xs) ≡ true → (i : ℕ) × (y : X) × (slice_get (x ∷ xs) i ≡ Some y) × (test y ≡ true)
    go later true is some = (0, x, refl, is)
    go later false is some = let found = later some in (suc found.0, found.1, found.2, found.3)

pub or_false : (a b : Bool) → (a || b) ≡ false → (a ≡ false) × (b ≡ false)
or_false true b e = absurd (cc e)
or_false false b e = (refl, e)

pub or_true : (a b : Bool) → (a || b) ≡ true → a ≡ false → b ≡ true
or_true true b e none = absurd (cc none)
or_true false b e none = e

pub none_passes : {X : Type 0} (test : X → Bool) (xs : List X) (i : ℕ) (x : X) → list_any test xs ≡ false → slice_get xs i ≡ Some x → test x ≡ false
none_passes test [] i x none at = absurd (cc at)
none_passes {X = X} test (y ∷ xs) zero x none at =
    let one : y ≡ x = cc at in
    subst (λ (z : X). test z ≡ false) one (or_false (test y) (list_any test xs) none).0
none_passes test (y ∷ xs) (suc i) x none at = none_passes test xs i x (or_false (test y) (list_any test xs) none).1 at

-- An element of the second of two lists is one of both.
behind_front : {X : Type 0} (xs ys : List X) (i : ℕ) (y : X) → slice_get ys i ≡ Some y → (j : ℕ) × (slice_get (xs ++ ys) j ≡ Some y)
behind_front [] ys i y at = (i, at)
behind_front (x ∷ xs) ys i y at = let later = behind_front xs ys i y at in (suc later.0, later.1)

in_front : {X : Type 0} (xs ys : List X) (i : ℕ) (x : X) → slice_get xs i ≡ Some x → slice_get (xs ++ ys) i ≡ Some x
in_front [] ys i x at = absurd (cc at)
in_front (y ∷ xs) ys zero x at = at
in_front (y ∷ xs) ys (suc i) x at = in_front xs ys i x at

-- A declared component of an access type has a number among those that are.
pub numbered_access : (ps : List PartForm) (i : ℕ) (p : PartForm) → slice_get ps i ≡ Some p → is_owning_part p.kind ≡ true
    → (j : ℕ) × (slice_get (access_numbers ps) j ≡ Some p.first)
numbered_access [] i p at owns = absurd (cc at)
numbered_access (q ∷ ps) zero p at owns =
    let one : q ≡ p = cc at in
    subst (λ (r : PartForm). (j : ℕ) × (slice_get (access_numbers (q ∷ ps)) j ≡ Some r.first)) one
    let here = by q.kind (subst (λ (r : PartForm). is_owning_part r.kind ≡ true) (sym one) owns) in
    (0, in_front (number_within q.first q.kind) (access_numbers ps) 0 q.first here)
  where
    by : (kind : PartKind) → is_owning_part kind ≡ true → slice_get (number_within q.first kind) 0 ≡ Some q.first
    by (part.Elementary (component.Integer initial)) owns = absurd (cc owns)
    by (part.Elementary (component.Boolean initial)) owns = absurd (cc owns)
    by (part.Elementary (component.Access access)) owns = refl
    by (part.Record t) owns = absurd (cc owns)
    by part.Parent owns = absurd (cc owns)
numbered_access (q ∷ ps) (suc i) p at owns =
    let later = numbered_access ps i p at owns in
    behind_front (number_within q.first q.kind) (access_numbers ps) later.0 p.first later.1

-- A kind that is of an access type is that of a component that owns.
pub kind_owns : (kind : ComponentKind) (access : TypeNo) → held_kind kind ≡ variable.Access access → is_owning kind ≡ true
kind_owns (component.Integer initial) access is = absurd (cc is)
kind_owns (component.Boolean initial) access is = absurd (cc is)
kind_owns (component.Access own) access is = refl

among_owns : (components : List ComponentKind) (c : ℕ) (access : TypeNo) → component_kind (slice_get components c) ≡ Some (variable.Access access)
    → list_any is_owning components ≡ true
among_owns [] c access is = absurd (cc is)
among_owns (k ∷ ks) zero access is =
    let kind : held_kind k ≡ variable.Access access = cc is in
    rw (kind_owns k access kind) refl
among_owns (k ∷ ks) (suc c) access is = go (is_owning k) (among_owns ks c access is)
  where
    go : (b : Bool) → list_any is_owning ks ≡ true → (b || list_any is_owning ks) ≡ true
    go true later = refl
    go false later = later

pub record_owns : (o : Option (List ComponentKind)) (c : ℕ) (access : TypeNo) → kind_among o c ≡ Some (variable.Access access) → owns_among o ≡ true
record_owns None c access is = absurd (cc is)
record_owns (Some components) c access is = among_owns components c access is

-- What is held there is held somewhere, below how many there are.
kind_there : (components : List ComponentKind) (c : ℕ) → c < length components → (kind : VariableKind) × (component_kind (slice_get components c) ≡ Some kind)
kind_there [] c below = absurd (omega (arith, below))
kind_there (k ∷ ks) zero below = (held_kind k, refl)
kind_there (k ∷ ks) (suc c) below = kind_there ks c (omega (arith, below))

pub kind_below : (components : List ComponentKind) (c : ℕ) (kind : VariableKind) → component_kind (slice_get components c) ≡ Some kind → c < length components
kind_below [] c kind is = absurd (cc is)
kind_below (k ∷ ks) zero kind is = omega arith
kind_below (k ∷ ks) (suc c) kind is = let later = kind_below ks c kind is in omega (arith, later)

among_there : (o : Option (List ComponentKind)) (c : ℕ) → c < count_found o → (kind : VariableKind) × (kind_among o c ≡ Some kind)
among_there None c below = absurd (omega (arith, below))
among_there (Some components) c below = kind_there components c below

-- A component of a declared component is what it is in the record.
pub kind_within : (components : List ComponentKind) (within : Option (List ComponentKind)) (first e : ℕ) (kind : VariableKind)
    → has_record_at (Some components) first within ≡ true
    → e < count_found within → component_kind (slice_get components (first + e)) ≡ Some kind → kind_among within e ≡ Some kind
kind_within components within first e kind lies below is =
    let there = among_there within e below in
    let known : component_kind (slice_get components (first + e)) ≡ Some there.0 = inside_kind (Some components) within first e there.0 lies there.1 in
    there.1 ∙ sym known ∙ is

-- The components of a record begin with themselves.
pub begins_self : (components : List ComponentKind) → begins_with components components ≡ true
begins_self [] = refl
begins_self (k ∷ ks) = rw (alike k, begins_self ks) refl
  where
    alike : (kind : ComponentKind) → is_alike kind kind ≡ true
    alike (component.Integer initial) = refl
    alike (component.Boolean initial) = refl
    alike (component.Access access) = eq_self access.0

-- Where components stand in a row, each is one of a declared component, which is not the parent part.
pub record StandsIn (types : List TypeForm) (ps : List PartForm) (c : ℕ) : Type 0 where
  pub number : ℕ
  pub p : PartForm
  pub e : ℕ
  pub at : slice_get ps number ≡ Some p
  pub behind : c ≡ p.first + e
  pub within : e < size_of_part types p.kind

stands_later : (types : List TypeForm) (q : PartForm) (ps : List PartForm) (c : ℕ) → StandsIn types ps c → StandsIn types (q ∷ ps) c
stands_later types q ps c s = record { number = suc s.number; p = s.p; e = s.e; at = s.at; behind = s.behind; within = s.within }

stands_here :
    (types : List TypeForm) (from : ℕ) (q : PartForm) (ps : List PartForm) (count c : ℕ) → stand_in_a_row types from (q ∷ ps) count ≡ true → from ≤ c
    → (stand_in_a_row types (from + size_of_part types q.kind) ps count ≡ true → from + size_of_part types q.kind ≤ c → StandsIn types ps c)
    → StandsIn types (q ∷ ps) c
stands_here types from q ps count c row least more = by q.kind refl
  where
    both : ((is_parent q.kind || (q.first == from)) ≡ true) × (stand_in_a_row types (from + size_of_part types q.kind) ps count ≡ true)
    both = and_parts (is_parent q.kind || (q.first == from)) (stand_in_a_row types (from + size_of_part types q.kind) ps count) row

    here : q.first ≡ from → c < from + size_of_part types q.kind → StandsIn types (q ∷ ps) c
    here first less = record { number = 0; p = q; e = c - from; at = refl; behind = omega (arith, first, least); within = omega (arith, less, least) }

    by_order : q.first ≡ from → StandsIn types (q ∷ ps) c
    by_order first =
        elim (cases_lt c (from + size_of_part types q.kind)) [ inl less ↦ here first less | inr past ↦ stands_later types q ps c (more both.1 past) ]

    by : (kind : PartKind) → q.kind ≡ kind → StandsIn types (q ∷ ps) c
    by part.Parent is =
        let none : size_of_part types q.kind ≡ 0 = ap (size_of_part types) is in
        stands_later types q ps c (more both.1 (omega (arith, none, least)))
    by (part.Elementary kind) is = by_order (eqb-true q.first from (or_true (is_parent q.kind) (q.first == from) both.0 (ap is_parent is)))
    by (part.Record t) is = by_order (eqb-true q.first from (or_true (is_parent q.kind) (q.first == from) both.0 (ap is_parent is)))

pub stands_in : (types : List TypeForm) (from : ℕ) (ps : List PartForm) (count c : ℕ) → stand_in_a_row types from ps count ≡ true → from ≤ c
    → c < count → StandsIn types ps c
stands_in types from [] count c row least below = let same = eqb-true from count row in absurd (omega (arith, same, least, below))
stands_in types from (q ∷ ps) count c row least below =
    stands_here types from q ps count c row least (λ rest past. stands_in types (from + size_of_part types q.kind) ps count c rest past below)
