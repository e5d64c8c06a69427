-- No two of the components that an Adjust tracks (7.6) are one, where the elementary components of declared components stand one behind another (3.8).

use Rattle.std.proofs.Common.{◌≡◌, ℕ, ◌+◌, ◌≤◌, ◌||◌, Bool, true, false, List, [], ◌∷◌, ◌++◌, length, Option, Some, None, arith, refl, sym, ap, ◌∙◌}
use Rattle.std.specs.Prelude.{◌==◌, if◌then◌else◌}
use Rattle.std.specs.List.{slice_get}
use Rattle.std.proofs.lemmas.Bool.{eqb-true}
use Rattle.ada_program.specs.declared.program.ComponentKind.{ComponentKind}
use Rattle.ada_program.specs.declared.program.ComponentKind.TheVariants as component
use Rattle.ada_program.specs.declared.program.Finalization.{Finalization}
use Rattle.ada_program.specs.declared.program.PartKind.{PartKind}
use Rattle.ada_program.specs.declared.program.PartKind.TheVariants as part
use Rattle.ada_program.specs.ProgramForm.{PartForm, TypeForm, record_of, access_to, object_of, BodyForm}
use Rattle.ada_program.specs.WellFormed.{is_parent, variable_kind}
use Rattle.ada_quiet.specs.InUse.{size_of_part, stand_in_a_row}
use Rattle.ada_flow.specs.Flow.{object_record, adjusts, tracked_of, tracked_by_adjust, tracks_of}
use Rattle.ada_flow.specs.Tracking.{tracks_behind, number_within, access_numbers}
use Rattle.ada_tracked.specs.Seen.{IsNoneOf, AreApart}
use Rattle.ada_tracked.proofs.Lists.{apart_is}
use Rattle.ada_typed.proofs.Operators.{and_left, and_right}

-- None of these numbers is less than this one.
abbrev AreFrom : ℕ → List ℕ → Type 0
AreFrom n [] = Unit {0}
AreFrom n (c ∷ cs) = (n ≤ c) × AreFrom n cs

from_less : (m n : ℕ) (cs : List ℕ) → m ≤ n → AreFrom n cs → AreFrom m cs
from_less m n [] le h = tt
from_less m n (c ∷ cs) le h = let here = h.0 in (omega (arith, le, here), from_less m n cs le h.1)

none_behind : (c n : ℕ) (ds : List ℕ) → c + 1 ≤ n → AreFrom n ds → IsNoneOf c ds
none_behind c n [] le h = tt
none_behind c n (d ∷ ds) le h = let here = h.0 in (apart_is c d (λ e. absurd (omega (arith, e, le, here))), none_behind c n ds le h.1)

-- Components of access types are apart, and none stands before the row.
row_apart : (types : List TypeForm) (from : ℕ) (ps : List PartForm) (count : ℕ) → stand_in_a_row types from ps count ≡ true → AreFrom from (access_numbers ps) × AreApart (access_numbers ps)
row_apart types from [] count row = (tt, tt)
row_apart types from (p ∷ ps) count row = by p.kind refl (row_apart types (from + size_of_part types p.kind) ps count (and_right (is_parent p.kind || (p.first == from)) (stand_in_a_row types (from + size_of_part types p.kind) ps count) row))
  where
    at_first : is_parent p.kind ≡ false → p.first ≡ from
    at_first none =
        eqb-true p.first from
        (ap (λ (b : Bool). b || (p.first == from)) (sym none) ∙ and_left (is_parent p.kind || (p.first == from)) (stand_in_a_row types (from + size_of_part types p.kind) ps count) row)

    less : (size : ℕ) → AreFrom (from + size) (access_numbers ps) → AreFrom from (access_numbers ps)
    less size h = from_less from (from + size) (access_numbers ps) (omega arith) h

    by : (kind : PartKind) → p.kind ≡ kind → AreFrom (from + size_of_part types p.kind) (access_numbers ps) × AreApart (access_numbers ps) → AreFrom from (number_within p.first kind ++ access_numbers ps) × AreApart (number_within p.first kind ++ access_numbers ps)
    by (part.Elementary (component.Integer initial)) is later = (less (size_of_part types p.kind) later.0, later.1)
    by (part.Elementary (component.Boolean initial)) is later = (less (size_of_part types p.kind) later.0, later.1)
    by (part.Elementary (component.Access access)) is later =
        let first : p.first ≡ from = at_first (ap is_parent is) in
        let size : size_of_part types p.kind ≡ 1 = ap (size_of_part types) is in (
          (omega (arith, first), less (size_of_part types p.kind) later.0),
          (none_behind p.first (from + size_of_part types p.kind) (access_numbers ps) (omega (arith, first, size)) later.0, later.1),
        )
    by (part.Record t) is later = (less (size_of_part types p.kind) later.0, later.1)
    by part.Parent is later = (less (size_of_part types p.kind) later.0, later.1)

-- Those that an Adjust tracks are apart, where each record type's do so.
abbrev pub AreInARow : List TypeForm → Type 0
AreInARow types =
    (r : ℕ) (name : List ℕ) (parts : List PartForm) (components : List ComponentKind) (finalization : Option Finalization)
    → slice_get types r ≡ Some (record_of name parts components finalization) → stand_in_a_row types 0 parts (length components) ≡ true

tracked_apart : (types : List TypeForm) → AreInARow types → (procedure r : ℕ) (found : Option TypeForm) → slice_get types r ≡ found → AreApart (tracked_of procedure found)
tracked_apart types rows procedure r None is = tt
tracked_apart types rows procedure r (Some (record_of name parts components finalization)) is = by (adjusts procedure finalization)
  where
    by : (b : Bool) → AreApart (if b then access_numbers parts else [])
    by true = (row_apart types 0 parts (length components) (rows r name parts components finalization is)).1
    by false = tt
tracked_apart types rows procedure r (Some (access_to name designated pool)) is = tt
tracked_apart types rows procedure r (Some (object_of record_type)) is = tt

by_record : (types : List TypeForm) → AreInARow types → (procedure : ℕ) (record_type : Option ℕ) → AreApart (tracked_by_adjust types procedure record_type)
by_record types rows procedure None = tt
by_record types rows procedure (Some r) = tracked_apart types rows procedure r (slice_get types r) refl

behind_apart : (n : ℕ) (cs : List ℕ) → AreApart cs → AreApart (tracks_behind n cs).components
behind_apart n [] apart = tt
behind_apart n (c ∷ cs) apart = apart

pub tracks_apart : (types : List TypeForm) → AreInARow types → (number : ℕ) (b : BodyForm) → AreApart (tracks_of types number b).components
tracks_apart types rows number b =
    behind_apart (length b.variables) (tracked_by_adjust types number (object_record types (variable_kind b.variables 0))) (by_record types rows number (object_record types (variable_kind b.variables 0)))
