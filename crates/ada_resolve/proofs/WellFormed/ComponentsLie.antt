-- The declared components of each type lie where they say among its elementary components (3.8).

use Rattle.std.proofs.Common.{◌≡◌, ◌∙◌, ℕ, Bool, true, List, [], ◌∷◌, ◌++◌, length, refl, ap, suc, arith}
use Rattle.std.specs.Prelude.{Option, Some, None, drop, is_some}
use Rattle.std.specs.List.{list_all, slice_get}
use Rattle.ada_program.specs.declared.program.ComponentKind.{ComponentKind}
use Rattle.ada_program.specs.declared.program.PartKind.{PartKind}
use Rattle.ada_program.specs.declared.program.PartKind.TheVariants as part
use Rattle.ada_program.specs.ProgramForm.{PartForm, TypeForm, record_of, access_to, object_of}
use Rattle.ada_program.specs.WellFormed as fits
use Rattle.ada_resolve.specs.Naming.{AreLaidOut}
use Rattle.ada_resolve.specs.Paths.{elementary_of, elementary_in}
use Rattle.ada_resolve.specs.Records.{kinds_within}
use Rattle.ada_resolve.proofs.WellFormed.Tables.{both_parts}
use Rattle.ada_resolve.proofs.WellFormed.Laid.{RecordHas, IsLaid, AreRecordsLaid, lies}
use Rattle.ada_resolve.proofs.WellFormed.Meanings.{begins_own}

-- all pass a test that each of them passes
all_there : {X : Type 0} (p : X → Bool) (xs : List X) → ((i : ℕ) (x : X) → slice_get xs i ≡ Some x → p x ≡ true) → list_all p xs ≡ true
all_there p [] w = refl
all_there p (x ∷ xs) w = both_parts (p x) (list_all p xs) (w 0 x refl) (all_there p xs (λ i. w (suc i)))

-- what stands behind others
behind_others : (before rest : List ComponentKind) → drop (length before) (before ++ rest) ≡ rest
behind_others [] rest = refl
behind_others (k ∷ before) rest = behind_others before rest

-- the elementary components of a declared component
elementary_known : (found : Option TypeForm) → is_some (fits.components_in found) ≡ true → fits.components_in found ≡ Some (elementary_in found)
elementary_known None e = absurd (cc e)
elementary_known (Some (record_of name ps cs final)) e = refl
elementary_known (Some (access_to name d pool)) e = absurd (cc e)
elementary_known (Some (object_of r)) e = absurd (cc e)

within_known : (types : List TypeForm) (kind : PartKind) → RecordHas (λ t. fits.is_record types t ≡ true) kind → fits.components_within types kind ≡ Some (kinds_within types kind)
unfolding elementary_of
within_known types (part.Elementary kind) there = refl
within_known types (part.Record t) there = elementary_known (slice_get types t.0) there
within_known types part.Parent there = refl

-- a component that is laid out behind others lies where it says
component_lies : (types : List TypeForm) (ps : List PartForm) (cs : List ComponentKind) (i : ℕ) (c : PartForm) → AreLaidOut types 0 ps cs → RecordHas (λ t. fits.is_record types t ≡ true) c.kind → slice_get ps i ≡ Some c → fits.component_lies types cs c ≡ true
component_lies types ps cs i c laid there at =
    let own = lies types 0 ps cs i c laid at in
    let kinds = kinds_within types c.kind in
    let place = own.3 in
    let first : c.first ≡ length own.0 = omega (arith, place) in
    ap (λ o. fits.begins_with_record (drop c.first cs) o) (within_known types c.kind there)
    ∙ ap (λ (n : ℕ). fits.begins_with (drop n cs) kinds) first
    ∙ ap (λ (ks : List ComponentKind). fits.begins_with (drop (length own.0) ks) kinds) own.2
    ∙ ap (λ (ks : List ComponentKind). fits.begins_with ks kinds) (behind_others own.0 (kinds ++ own.1))
    ∙ begins_own kinds own.1

-- so does each component of each type
type_lies : (types : List TypeForm) (x : TypeForm) → IsLaid types x → fits.components_lie types x ≡ true
type_lies types (record_of name ps cs final) laid =
    all_there (fits.component_lies types cs) ps (λ i c at. component_lies types ps cs i c laid.0 (laid.1 i c at) at)
type_lies types (access_to name d pool) laid = refl
type_lies types (object_of r) laid = refl

pub components_lie : (types : List TypeForm) → AreRecordsLaid types → list_all (fits.components_lie types) types ≡ true
components_lie types laid = all_there (fits.components_lie types) types (λ t x is. type_lies types x (laid t x is))
