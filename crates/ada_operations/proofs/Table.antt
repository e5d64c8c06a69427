-- The table of places.

use Rattle.std.proofs.Common.{◌≡◌, ℕ, ◌+◌, ◌<◌, Bool, true, false, not, ◌&&◌, ◌==◌, nat_lt, List, [], ◌∷◌, ◌++◌, length, get_or, set, refl, sym, ap, ◌∙◌, subst, inl, inr, arith}
use Rattle.std.specs.Prelude.{if◌then◌else◌, replicate, Option, Some, None, is_some}
use Rattle.std.proofs.lemmas.Bool.{cases_eq, eq-eqb, ne_eqb, lt-ltb, and_from, and_right}
use Rattle.std.proofs.lemmas.List.{get_or-set_same, get_or-set_other, length-set, length-replicate, get_or-replicate}
use Rattle.ada_operations.specs.Created.{place_from, place_in, or_else, place_among, or_alone, place_of}
use Rattle.ada_operations.specs.View.{with_place, with_places, with_part, with_parts, place_at}
use Rattle.ada_operations.specs.declared.places.Place.{Place}

-- One list of parts behind another.
pub parts_append : (xs ys : List (List ℕ)) (table : List (Option Place)) → with_parts (xs ++ ys) table ≡ with_parts ys (with_parts xs table)
parts_append [] ys table = refl
parts_append (us ∷ xs) ys table = parts_append xs ys (with_part us table)

-- Is a place entered?
abbrev enters : (access : ℕ) → List (Option Place) → Bool
enters u table = nat_lt u (length table) && not (is_some (get_or table u None))

abbrev chosen : (access : ℕ) → Place → List (Option Place) → Bool → List (Option Place)
chosen u place table b = if b then set table u (Some place) else table

-- How long the table is.

chosen_length : (u : ℕ) (place : Place) (table : List (Option Place)) (b : Bool) → length (chosen u place table b) ≡ length table
chosen_length u place table true = length-set table u (Some place)
chosen_length u place table false = refl

place_length : (u : ℕ) (place : Place) (table : List (Option Place)) → length (with_place u place table) ≡ length table
place_length u place table = chosen_length u place table (enters u table)

places_length : (part order : ℕ) (us : List ℕ) (table : List (Option Place)) → length (with_places part order us table) ≡ length table
places_length part order [] table = refl
places_length part order (u ∷ us) table =
    let place : Place = record { part = part; order = order } in
    places_length part (order + 1) us (with_place u place table) ∙ place_length u place table

part_length : (us : List ℕ) (table : List (Option Place)) → length (with_part us table) ≡ length table
part_length [] table = refl
part_length (u ∷ us) table = places_length u 0 (u ∷ us) table

pub parts_length : (parts : List (List ℕ)) (table : List (Option Place)) → length (with_parts parts table) ≡ length table
parts_length [] table = refl
parts_length (us ∷ parts) table = parts_length parts (with_part us table) ∙ part_length us table

-- What stands in it.

or_none : (x : Option Place) → or_else x None ≡ x
or_none None = refl
or_none (Some place) = refl

or_assoc : (x y z : Option Place) → or_else (or_else x y) z ≡ or_else x (or_else y z)
or_assoc None y z = refl
or_assoc (Some place) y z = refl

entered : (t : ℕ) (place : Place) (table : List (Option Place)) → t < length table → (x : Option Place) → get_or table t None ≡ x →
    get_or (with_place t place table) t None ≡ or_else x (Some place)
entered t place table lt None is =
    let test : enters t table ≡ true = and_from (nat_lt t (length table)) (not (is_some (get_or table t None))) (lt-ltb t (length table) lt) (ap (λ (o : Option Place). not (is_some o)) is) in
    ap (λ (b : Bool). get_or (chosen t place table b) t None) test ∙ get_or-set_same table t (Some place) None lt
entered t place table lt (Some other) is =
    let test : enters t table ≡ false = and_right (nat_lt t (length table)) (not (is_some (get_or table t None))) (ap (λ (o : Option Place). not (is_some o)) is) in
    ap (λ (b : Bool). get_or (chosen t place table b) t None) test ∙ is

elsewhere : (u t : ℕ) (place : Place) (table : List (Option Place)) → (u ≡ t → ⊥) → (b : Bool) → get_or (chosen u place table b) t None ≡ get_or table t None
elsewhere u t place table apart true = get_or-set_other table u t (Some place) None (λ is. apart (sym is))
elsewhere u t place table apart false = refl

at_place : (u t : ℕ) (place : Place) (table : List (Option Place)) → t < length table →
    get_or (with_place u place table) t None ≡ or_else (get_or table t None) (if u == t then Some place else None)
at_place u t place table lt = elim (cases_eq u t) [
  | inl is ↦
      let one : get_or (with_place u place table) t None ≡ or_else (get_or table t None) (Some place) =
      subst (λ (n : ℕ). get_or (with_place n place table) t None ≡ or_else (get_or table t None) (Some place)) (sym is)
      (entered t place table lt (get_or table t None) refl) in
      one ∙ ap (λ (b : Bool). or_else (get_or table t None) (if b then Some place else None)) (sym (eq-eqb u t is))
  | inr apart ↦
      elsewhere u t place table apart (enters u table)
      ∙ sym (or_none (get_or table t None))
      ∙ ap (λ (b : Bool). or_else (get_or table t None) (if b then Some place else None)) (sym (ne_eqb u t apart))
]

or_if : (b : Bool) (place : Place) (x : Option Place) → or_else (if b then Some place else None) x ≡ (if b then Some place else x)
or_if true place x = refl
or_if false place x = refl

at_places : (part order : ℕ) (us : List ℕ) (table : List (Option Place)) (t : ℕ) → t < length table →
    get_or (with_places part order us table) t None ≡ or_else (get_or table t None) (place_from part order us t)
at_places part order [] table t lt = sym (or_none (get_or table t None))
at_places part order (u ∷ us) table t lt =
    let place : Place = record { part = part; order = order } in
    at_places part (order + 1) us (with_place u place table) t (omega (arith, lt, place_length u place table))
    ∙ ap (λ (x : Option Place). or_else x (place_from part (order + 1) us t)) (at_place u t place table lt)
    ∙ or_assoc (get_or table t None) (if u == t then Some place else None) (place_from part (order + 1) us t)
    ∙ ap (or_else (get_or table t None)) (or_if (u == t) place (place_from part (order + 1) us t))

at_part : (us : List ℕ) (table : List (Option Place)) (t : ℕ) → t < length table → get_or (with_part us table) t None ≡ or_else (get_or table t None) (place_in us t)
at_part [] table t lt = sym (or_none (get_or table t None))
at_part (u ∷ us) table t lt = at_places u 0 (u ∷ us) table t lt

at_parts : (parts : List (List ℕ)) (table : List (Option Place)) (t : ℕ) → t < length table →
    get_or (with_parts parts table) t None ≡ or_else (get_or table t None) (place_among parts t)
at_parts [] table t lt = sym (or_none (get_or table t None))
at_parts (us ∷ parts) table t lt =
    at_parts parts (with_part us table) t (omega (arith, lt, part_length us table))
    ∙ ap (λ (x : Option Place). or_else x (place_among parts t)) (at_part us table t lt)
    ∙ or_assoc (get_or table t None) (place_in us t) (place_among parts t)

-- A table that was empty has the places of the parts.

-- No place.
abbrev none : Option Place
none = None

pub all_placed : (parts : List (List ℕ)) (count : ℕ) (table : List (Option Place)) → table ≡ with_parts parts (replicate count None) → (t : ℕ) → t < count →
    place_at table t ≡ place_of parts t
all_placed parts count table is t lt =
    let within : t < length (replicate count none) = omega (arith, lt, length-replicate count none) in
    ap (λ (xs : List (Option Place)). place_at xs t) is
    ∙ ap (or_alone t) (at_parts parts (replicate count None) t within ∙ ap (λ (x : Option Place). or_else x (place_among parts t)) (get_or-replicate count t none none lt))

pub all_sized : (parts : List (List ℕ)) (count : ℕ) (table : List (Option Place)) → table ≡ with_parts parts (replicate count None) → length table ≡ count
all_sized parts count table is = ap length is ∙ parts_length parts (replicate count None) ∙ length-replicate count none

-- The parts of a program, one list of them behind another.
pub built : (us : List ℕ) (ss hs bs : List (List ℕ)) (t0 t1 t2 t3 t4 : List (Option Place)) → t1 ≡ with_part us t0 → t2 ≡ with_parts ss t1 → t3 ≡ with_parts hs t2 →
    t4 ≡ with_parts bs t3 → t4 ≡ with_parts ((us ∷ (ss ++ hs)) ++ bs) t0
built us ss hs bs t0 t1 t2 t3 t4 one two three four =
    four ∙ ap (with_parts bs) (three ∙ ap (with_parts hs) (two ∙ ap (with_parts ss) one) ∙ sym (parts_append ss hs (with_part us t0)))
    ∙ sym (parts_append (ss ++ hs) bs (with_part us t0))
