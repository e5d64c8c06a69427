-- The access types whose collections are not open, where those of all access types are needed: a master lacks these (7.6, 7.6.1).

use Rattle.std.proofs.Common.{◌≡◌, ℕ, zero, suc, ◌+◌, ◌≤◌, ◌<◌, ◌==◌, ◌&&◌, not, Bool, true, false, List, [], ◌∷◌, ◌++◌, Option, Some, None, arith, refl, ap, ◌∙◌, subst}
use Rattle.std.proofs.lemmas.Bool.{eqb-true, eq-eqb}
use Rattle.std.specs.Prelude.{is_some}
use Rattle.std.specs.List.{slice_get, list_all}
use Rattle.ada_program.specs.declared.program.ComponentKind.{ComponentKind}
use Rattle.ada_program.specs.declared.program.ComponentKind.TheVariants as component
use Rattle.ada_program.specs.Nested.{is_one_of, kind_is_open, are_open}
use Rattle.ada_program.specs.ProgramForm.{TypeForm, record_of, access_to, object_of, ProgramForm}
use Rattle.ada_program.specs.WellFormed.{IsWellFormed, designated_in, is_access, kind_fits, type_fits, parent_first, says_parts, is_numbered_alone, named_in, components_in, components_reached, reached_components}
use Rattle.ada_scopes.proofs.Counts.{and_left, and_right, one, times, times_append, times_of, times_none, of_times, Within}
use Rattle.ada_scopes.proofs.Control.{NeedsOpen, Lacks, HasMain}

-- Which collections operations need: those of the main procedure, or those of all access types.
abbrev pub needed : List TypeForm → (main : Option (List ℕ)) → ℕ → Bool
needed types None = is_access types
needed types (Some main) = is_one_of main

-- Where those of all access types are open, so are those in which what the components of objects name lies.
abbrev pub KindsOpen : List TypeForm → Type 0
KindsOpen types = (there : List ℕ) → ((t : ℕ) → is_access types t ≡ true → is_one_of there t ≡ true) → (t : ℕ) → are_open there (reached_components types t) ≡ true

-- So it is in a well-formed program.
type_there : (types ts : List TypeForm) (i : ℕ) (t : TypeForm) → list_all (type_fits types) ts ≡ true → slice_get ts i ≡ Some t → type_fits types t ≡ true
type_there types [] i t fit is = absurd (cc is)
type_there types (u ∷ ts) zero t fit is = let same : u ≡ t = cc is in subst (λ (v : TypeForm). type_fits types v ≡ true) same (and_left (type_fits types u) (list_all (type_fits types) ts) fit)
type_there types (u ∷ ts) (suc i) t fit is = type_there types ts i t (and_right (type_fits types u) (list_all (type_fits types) ts) fit) is

module _ (types : List TypeForm) (fit : list_all (type_fits types) types ≡ true) (there : List ℕ) (all : (t : ℕ) → is_access types t ≡ true → is_one_of there t ≡ true) where
  kind_open : (kind : ComponentKind) → kind_fits types kind ≡ true → kind_is_open there kind ≡ true
  kind_open (component.Integer initial) fits = refl
  kind_open (component.Boolean initial) fits = refl
  kind_open (component.Access access) fits = all access.0 fits

  both : (a b : Bool) → a ≡ true → b ≡ true → (a && b) ≡ true
  both true b h g = g
  both false b h g = h

  kinds_of : (kinds : List ComponentKind) → list_all (kind_fits types) kinds ≡ true → list_all (kind_is_open there) kinds ≡ true
  kinds_of [] fits = refl
  kinds_of (kind ∷ kinds) fits =
      both (kind_is_open there kind) (list_all (kind_is_open there) kinds) (kind_open kind (and_left (kind_fits types kind) (list_all (kind_fits types) kinds) fits))
      (kinds_of kinds (and_right (kind_fits types kind) (list_all (kind_fits types) kinds) fits))

  type_open : (found : Option TypeForm) → ((t : TypeForm) → found ≡ Some t → type_fits types t ≡ true) → are_open there (components_in found) ≡ true
  type_open None fits = refl
  type_open (Some (record_of name parts components finalization)) fits =
      let kinds = list_all (kind_fits types) components in
      let first = kinds && parent_first parts in
      let says = first && says_parts types finalization parts in
      let four = and_left says (is_numbered_alone types finalization) (fits (record_of name parts components finalization) refl) in
      kinds_of components (and_left kinds (parent_first parts) (and_left first (says_parts types finalization parts) four))
  type_open (Some (access_to name designated pool)) fits = refl
  type_open (Some (object_of record_type)) fits = refl

  reached_open : (t : Option ℕ) → are_open there (components_reached types t) ≡ true
  reached_open None = refl
  reached_open (Some t) = type_open (slice_get types t) (λ u is. type_there types types t u fit is)

pub kinds_open : (p : ProgramForm) → IsWellFormed p → KindsOpen p.types
kinds_open p well there all t = reached_open p.types well.types_fit there all (named_in (slice_get p.types t))

-- The access types, from this number on, whose collections are not open.
with_one : Bool → ℕ → List ℕ → List ℕ
with_one true n us = n ∷ us
with_one false n us = us

abbrev is_lacked : Option TypeForm → (is_open : Bool) → Bool
is_lacked t is_open = is_some (designated_in t) && not is_open

lacked_from : (n : ℕ) → List TypeForm → (there : List ℕ) → List ℕ
lacked_from n [] there = []
lacked_from n (t ∷ ts) there = with_one (is_lacked (Some t) (is_one_of there n)) n (lacked_from (suc n) ts there)

-- Each stands there once.
apart_one : (n m : ℕ) (b : Bool) → (n == m) ≡ b → n < m → one b ≡ 0
apart_one n m true same less = let e = eqb-true n m same in absurd (omega (arith, e, less))
apart_one n m false same less = refl

none_with : (b : Bool) (n m : ℕ) (us : List ℕ) → one (n == m) ≡ 0 → times m (with_one b n us) ≡ times m us
unfolding with_one
none_with true n m us none = omega (arith, none)
none_with false n m us none = refl

none_lower : (n m : ℕ) (ts : List TypeForm) (there : List ℕ) → m < n → times m (lacked_from n ts there) ≡ 0
unfolding lacked_from
none_lower n m [] there less = refl
none_lower n m (t ∷ ts) there less =
    none_with (is_lacked (Some t) (is_one_of there n)) n m (lacked_from (suc n) ts there) (lower (n == m) refl) ∙ none_lower (suc n) m ts there (omega (arith, less))
  where
    lower : (b : Bool) → (n == m) ≡ b → one b ≡ 0
    lower true same = let e = eqb-true n m same in absurd (omega (arith, e, less))
    lower false same = refl

here_with : (b : Bool) (n : ℕ) (us : List ℕ) → times n us ≡ 0 → times n (with_one b n us) ≡ one b
unfolding with_one
here_with true n us none = let self : one (n == n) ≡ 1 = ap one (eq-eqb n n refl) in omega (arith, self, none)
here_with false n us none = none

times_from : (n i m : ℕ) (ts : List TypeForm) (there : List ℕ) → m ≡ n + i → times m (lacked_from n ts there) ≡ one (is_lacked (slice_get ts i) (is_one_of there m))
unfolding lacked_from
times_from n i m [] there is = refl
times_from n zero m (t ∷ ts) there is =
    let same : m ≡ n = omega (arith, is) in
    rw same (here_with (is_lacked (Some t) (is_one_of there n)) n (lacked_from (suc n) ts there) (none_lower (suc n) n ts there (omega arith)))
times_from n (suc i) m (t ∷ ts) there is =
    none_with (is_lacked (Some t) (is_one_of there n)) n m (lacked_from (suc n) ts there) (apart_one n m (n == m) refl (omega (arith, is)))
    ∙ times_from (suc n) i m ts there (omega (arith, is))

-- What the master of an operation lacks, where these are open.
pub lacked : List TypeForm → (main : Option (List ℕ)) → (there : List ℕ) → List ℕ
lacked types None there = lacked_from 0 types there
lacked types (Some main) there = []

pub lacked_here : (types : List TypeForm) (main : Option (List ℕ)) (there : List ℕ) → Lacks main (lacked types main there)
unfolding lacked
lacked_here types None there = tt
lacked_here types (Some main) there = refl

times_lacked : (types : List TypeForm) (there : List ℕ) (t : ℕ) → times t (lacked types None there) ≡ one (is_access types t && not (is_one_of there t))
unfolding lacked
times_lacked types there t = times_from 0 t t types there (omega arith)

-- With these, those are open that operations need,
access_open : (types : List TypeForm) (there : List ℕ) (t : ℕ) → is_access types t ≡ true → is_one_of (lacked types None there ++ there) t ≡ true
access_open types there t is = by (is_one_of there t) refl
  where
    by : (b : Bool) → is_one_of there t ≡ b → is_one_of (lacked types None there ++ there) t ≡ true
    by true opens =
        let some = times_of there t opens in
        let both = times_append t (lacked types None there) there in
        of_times (lacked types None there ++ there) t (omega (arith, some, both))
    by false closed =
        let once : times t (lacked types None there) ≡ one (true && not false) = times_lacked types there t ∙ rw (is, closed) refl in
        let both = times_append t (lacked types None there) there in
        of_times (lacked types None there ++ there) t (omega (arith, once, both))

pub lacked_open : (types : List TypeForm) (main : Option (List ℕ)) (there : List ℕ) → HasMain main there → (t : ℕ) → needed types main t ≡ true → is_one_of (lacked types main there ++ there) t ≡ true
unfolding lacked
lacked_open types None there has t is = access_open types there t is
lacked_open types (Some main) there has t is = of_times there t (has t (times_of main t is))

-- and none twice; all are those of access types, and what their objects need is open.
pub record IsLacked (types : List TypeForm) (there lacks : List ℕ) : Type 0 where
  pub apart : (t : ℕ) → times t there ≤ 1 → times t lacks + times t there ≤ 1
  pub known : (t : ℕ) → 1 ≤ times t lacks → is_access types t ≡ true
  pub needs : NeedsOpen types lacks (lacks ++ there)

some_true : (b c : Bool) → 1 ≤ one (b && c) → b ≡ true
some_true true c le = refl
some_true false c le = absurd (omega (arith, le))

pub lacked_so : (types : List TypeForm) (main : Option (List ℕ)) (there : List ℕ) → KindsOpen types → IsLacked types there (lacked types main there)
unfolding lacked
lacked_so types None there kinds = record {
  apart = λ t once. by t (is_one_of there t) refl once;
  known = λ t le. let is = times_lacked types there t in some_true (is_access types t) (not (is_one_of there t)) (omega (arith, is, le));
  needs = λ t le. kinds (lacked types None there ++ there) (access_open types there) t;
}
  where
    at_most : (b : Bool) → one b ≤ 1
    at_most true = omega arith
    at_most false = omega arith

    none : (b : Bool) → one (b && not true) ≡ 0
    none true = refl
    none false = refl

    by : (t : ℕ) (b : Bool) → is_one_of there t ≡ b → times t there ≤ 1 → times t (lacked_from 0 types there) + times t there ≤ 1
    by t true opens once =
        let is : times t (lacked_from 0 types there) ≡ one (is_access types t && not true) = times_lacked types there t ∙ rw opens refl in
        let nothing = none (is_access types t) in
        omega (arith, is, nothing, once)
    by t false closed once =
        let is : times t (lacked_from 0 types there) ≡ one (is_access types t && not (is_one_of there t)) = times_lacked types there t in
        let most = at_most (is_access types t && not (is_one_of there t)) in
        let empty = times_none there t closed in
        omega (arith, is, most, empty)
lacked_so types (Some main) there kinds = record {
  apart = λ t once. omega (arith, once);
  known = λ t le. absurd (omega (arith, le));
  needs = λ t le. absurd (omega (arith, le));
}

pub within_after : (us vs : List ℕ) → Within vs (us ++ vs)
within_after us vs t le = let both = times_append t us vs in omega (arith, both, le)
