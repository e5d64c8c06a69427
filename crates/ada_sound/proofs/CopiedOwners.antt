-- Records that are copied with components of access types, which the Adjusts of their controlled parts see to (7.6).

use Rattle.std.proofs.Common.{◌≡◌, ◌≢◌, ◌⊎◌, ℕ, zero, suc, ◌+◌, ◌<◌, ◌≤◌, true, false, List, [], ◌∷◌, length, take, drop, reverse, refl, arith}
use mathlib.Core.List.{reverse_aux}
use Rattle.std.specs.Prelude.{Some, flat_map}
use Rattle.std.specs.List.{Contains, list_any, slice_get, slice_index_or}
use Rattle.ada_parts.specs.declared.tasks.Direction.TheVariants.{PartsFirst}
use Rattle.ada_parts.specs.Law.{Run, parts_left}
use Rattle.ada_parts.specs.Part.{Part}
use Rattle.ada_parts.specs.Shape.{shape_of}
use Rattle.ada_parts.specs.Task.{Task, opened}
use Rattle.ada_program.specs.declared.program.ComponentKind.{ComponentKind}
use Rattle.ada_program.specs.declared.program.ComponentKind.TheVariants as component
use Rattle.ada_program.specs.declared.program.Finalization.{Finalization}
use Rattle.ada_program.specs.declared.program.TypeNo.{TypeNo}
use Rattle.ada_program.specs.ProgramForm.{PartForm, TypeForm, record_of}
use Rattle.ada_program.specs.Walks.{Walks}
use Rattle.ada_quiet.specs.InUse.{count_found}
use Rattle.ada_program.specs.WellFormed.{finalization_of, is_inherited, object_named, parts_named, record_components}
use Rattle.ada_flow.specs.Flow.{is_owning, is_owning_part, leaves_owners}
use Rattle.ada_flow.specs.Tracking.{access_numbers}
use Rattle.ada_meaning.specs.declared.event.Birth.{Birth}
use Rattle.ada_meaning.specs.declared.event.Birth.TheVariants.{Creation, Copy, Adjustment}
use Rattle.ada_meaning.specs.declared.state.Id.{Id}
use Rattle.ada_meaning.specs.declared.state.Value.{Value}
use Rattle.ada_meaning.specs.declared.state.Value.TheVariants.{Names}
use Rattle.ada_meaning.specs.Step.{in_front}
use Rattle.ada_meaning.specs.Named.{Object, object_at}
use Rattle.ada_owners.specs.Keeping.{IsThere}
use Rattle.ada_owners.specs.Places.{is_there}
use Rattle.ada_tracked.specs.Frames.{View, shifted, number_at}
use Rattle.ada_typed.specs.Holding.{PartsLie, WalksTo}
use Rattle.ada_typed.proofs.Parts.{firsts_known, shown_number, shown_numbered, shown_parts, shown_shapes}
use Rattle.ada_sound.proofs.OnlyParts.{IsControlled}

-- What a value names, if it names anything, is there.
abbrev pub NamesThere : List Object → Value → Type 0
NamesThere heap v = (o : Id) → v ≡ Names o → IsThere heap o

-- So it is with each of these.
abbrev pub NameThere : List Object → List Value → Type 0
NameThere heap [] = Unit {0}
NameThere heap (v ∷ vs) = NamesThere heap v × NameThere heap vs

-- What values name that are among others.
pub names_drop : (heap : List Object) (n : ℕ) (vs : List Value) → NameThere heap vs → NameThere heap (drop n vs)
names_drop heap zero vs there = there
names_drop heap (suc n) [] there = tt
names_drop heap (suc n) (v ∷ vs) there = names_drop heap n vs there.1

pub names_take : (heap : List Object) (n : ℕ) (vs : List Value) → NameThere heap vs → NameThere heap (take n vs)
names_take heap zero vs there = tt
names_take heap (suc n) [] there = tt
names_take heap (suc n) (v ∷ vs) there = (there.0, names_take heap n vs there.1)

names_onto : (heap : List Object) (vs us : List Value) → NameThere heap vs → NameThere heap us → NameThere heap (reverse_aux vs us)
names_onto heap [] us first rest = rest
names_onto heap (v ∷ vs) us first rest = names_onto heap vs (v ∷ us) first.1 (first.0, rest)

pub names_reverse : (heap : List Object) (vs : List Value) → NameThere heap vs → NameThere heap (reverse vs)
names_reverse heap vs there = names_onto heap vs [] there tt

names_behind : (heap : List Object) (n : ℕ) (vs us : List Value) → NameThere heap vs → NameThere heap (take n us) → NameThere heap (take (n + length vs) (in_front vs us))
names_behind heap n [] us first rest = let none : n + 0 ≡ n = omega arith in rw none rest
names_behind heap n (v ∷ vs) us first rest =
    let one : n + suc (length vs) ≡ suc n + length vs = omega arith in
    rw one (names_behind heap (suc n) vs (v ∷ us) first.1 (first.0, rest))

-- What is copied onto operands.
pub names_in_front : (heap : List Object) (vs us : List Value) → NameThere heap vs → NameThere heap (take (length vs) (in_front vs us))
names_in_front heap vs us there =
    let one : 0 + length vs ≡ length vs = omega arith in
    rw one at (names_behind heap 0 vs us there tt)

pub names_all : (heap : List Object) (vs : List Value) → ((c : ℕ) (v : Value) → slice_get vs c ≡ Some v → NamesThere heap v) → NameThere heap vs
names_all heap [] each = tt
names_all heap (v ∷ vs) each = (each 0 v refl, names_all heap vs (λ c u at. each (suc c) u at))

pub names_still : (heap after : List Object) (vs : List Value) → ((o : Id) → IsThere heap o → IsThere after o) → NameThere heap vs → NameThere after vs
names_still heap after [] still there = tt
names_still heap after (v ∷ vs) still there = ((λ o is. still o (there.0 o is)), names_still heap after vs still there.1)

-- In objects that are known by one type, two records of this type begin at these components, and they are not one record: the controlled parts of the one are not
-- those of the other (7.6).
pub record LieApart (types : List TypeForm) (record_type first to : ℕ) : Type 0 where
  pub access : ℕ
  pub part : ℕ
  pub other : ℕ
  pub apart : part ≢ other
  pub one_lies : PartsLie types (object_named types (Some access)) (Some record_type) first part
  pub other_lies : PartsLie types (object_named types (Some access)) (Some record_type) to other

-- A record of this type has these values: it lies in an object that is there, from a component on (3.8).
pub record Original (types : List TypeForm) (heap : List Object) (record_type : ℕ) (vs : List Value) : Type 0 where
  pub source : Id
  pub first : ℕ
  pub part : ℕ
  pub object : Object
  pub found : object_at heap source ≡ Some object
  pub there : is_there object.stage ≡ true
  pub lies : PartsLie types (object_named types (Some object.cell.access)) (Some record_type) first part
  pub counted : length vs ≡ count_found (record_components types record_type)
  pub holds : (d : ℕ) (v : Value) → slice_get vs d ≡ Some v → slice_get object.cell.values (first + d) ≡ Some v

-- It is another one than that which begins at this component of an object (5.2).
abbrev pub IsElsewhere : (types : List TypeForm) (heap : List Object) (record_type : ℕ) (vs : List Value) → Original types heap record_type vs → Value → (to : ℕ) → Type 0
IsElsewhere types heap t vs original v to = v ≡ Names original.source → LieApart types t original.first to

-- A component does not lie among so many from one on.
abbrev pub LiesOutside : (to count component : ℕ) → Type 0
LiesOutside to count c = (c < to) ⊎ (to + count ≤ c)

-- A record of this type was copied to an object, from this component on (5.2, 7.6): what these of its components name, those of the original name, another record
-- of the type, which lies in an object that is there. Where that is the same object, the original lies outside of the copy.
pub record CopiedFrom (types : List TypeForm) (heap : List Object) (o : Id) (record_type to : ℕ) (owners : List ℕ) (vs : List Value) : Type 0 where
  pub source : Id
  pub first : ℕ
  pub part : ℕ
  pub object : Object
  pub found : object_at heap source ≡ Some object
  pub there : is_there object.stage ≡ true
  pub lies : PartsLie types (object_named types (Some object.cell.access)) (Some record_type) first part
  pub elsewhere : o ≡ source → LieApart types record_type first to
  pub holds :
      (d : ℕ) (p : Id) → Contains owners (to + d) → d < count_found (record_components types record_type)
      → (o ≡ source → LiesOutside to (count_found (record_components types record_type)) (first + d)) → slice_get vs (to + d) ≡ Some (Names p)
      → slice_get object.cell.values (first + d) ≡ Some (Names p)

-- So it is, or no component is among these.
abbrev pub AreCopied : List TypeForm → List Object → Id → (record_type to : ℕ) → (owners : List ℕ) → List Value → Type 0
AreCopied types heap o t to owners vs = (owners ≡ []) ⊎ CopiedFrom types heap o t to owners vs

-- A copy of a record begins so (7.6): as the initial value of an object that is declared, or as what a record gets that is assigned to.
abbrev pub BeginsCopy : Birth → Type 0
BeginsCopy Creation = ⊥
BeginsCopy Copy = Unit {0}
BeginsCopy (Adjustment number) = Unit {0}

-- The numbers of the components that a record type declares itself and that are of access types.
abbrev pub declared_owners : List TypeForm → (record_type : ℕ) → List ℕ
declared_owners types r = access_numbers (shown_parts (slice_get types r))

-- Those of the record type that has this number among the types with controlled parts.
abbrev pub owners_numbered : List TypeForm → (of : ℕ) → List ℕ
owners_numbered types of = access_numbers (shown_parts (shown_numbered types of))

-- The components that are those of a controlled part of the objects that are known by the type `access`.
abbrev pub part_owners : List TypeForm → (access : ℕ) → Part → List ℕ
part_owners types access part = shifted (slice_index_or (firsts_known types access) part.number 0) (owners_numbered types part.of)

-- Those of all parts that are still to be adjusted (7.6).
abbrev pub owners_left : List TypeForm → (access : ℕ) → List Task → List ℕ
owners_left types access tasks = flat_map (part_owners types access) (parts_left (shown_shapes types) tasks)

-- The object of a name, in which components are hidden.
abbrev pub hiding : List ℕ → Id → View
hiding owners o = record { tracks = record { first = 0; components = owners }; object = o; base = 0 }

-- A component is one of these.
abbrev pub IsHidden : List ℕ → (component : ℕ) → Type 0
IsHidden hidden c = (i : ℕ) × (number_at hidden 0 c ≡ Some i)

-- Each of these components, of which the first has this number, is hidden, if it is of an access type.
abbrev pub Covered : (hidden : List ℕ) → (component : ℕ) → List ComponentKind → Type 0
Covered hidden c [] = Unit {0}
Covered hidden c (kind ∷ kinds) = (is_owning kind ≡ true → IsHidden hidden c) × Covered hidden (c + 1) kinds

-- A record type is controlled itself, under this number, declares components of access types, and overrides Adjust, which sees to them (7.6).
pub record SeesToOwners (types : List TypeForm) (record_type of : ℕ) : Type 0 where
  pub name : List ℕ
  pub parts : List PartForm
  pub components : List ComponentKind
  pub finalization : Finalization
  pub at : slice_get types record_type ≡ Some (record_of name parts components (Some finalization))
  pub numbered : shown_number types (Some record_type) ≡ Some of
  pub controlled : (shape_of (shown_shapes types) of).controlled ≡ true
  pub overridden : is_inherited finalization.operations.adjust ≡ false
  pub declares : list_any (λ c. is_owning_part c.kind) parts ≡ true

-- This component of a record of this type is declared in a controlled record that lies in it, with an access type.
abbrev pub IsDeclaredWithin : List TypeForm → (t component : ℕ) → Type 0
IsDeclaredWithin types t c =
    (r : ℕ) × (first : ℕ) × (part : ℕ) × IsControlled types r × Walks types t first part r × ((e : ℕ) × Contains (declared_owners types r) e × (c ≡ first + e))

-- So are all of its components of access types.
abbrev pub AreDeclaredWithin : List TypeForm → (t : ℕ) → Type 0
AreDeclaredWithin types t =
    (kinds : List ComponentKind) (c : ℕ) (access : TypeNo) → record_components types t ≡ Some kinds → slice_get kinds c ≡ Some (component.Access access)
    → IsDeclaredWithin types t c

-- Where a record of this type is to be adjusted, these are among the owners of the parts that are left, wherever it lies in an object (7.6).
abbrev pub AreCovered : List TypeForm → (t : ℕ) → Type 0
AreCovered types t =
    (access of first part : ℕ) → shown_number types (Some t) ≡ Some of → WalksTo types (object_named types (Some access)) (Some t) first part
    → (kinds : List ComponentKind) → record_components types t ≡ Some kinds
    → Covered (owners_left types access (opened (shown_shapes types) PartsFirst of part)) first kinds

-- Of the components of access types that a record of this type has, each is declared in a controlled record that lies in it, and the Adjust of each such record that
-- declares some sees to these (7.6).
pub record SeesToAll (types : List TypeForm) (t : ℕ) : Type 0 where
  pub sees :
      (r first part : ℕ) (c : IsControlled types r) → Walks types t first part r → list_any (λ d. is_owning_part d.kind) c.parts ≡ true
      → SeesToOwners types r c.finalization.number.0
  pub owned : AreDeclaredWithin types t
  pub counts : (of : ℕ) → shown_number types (Some t) ≡ Some of → 0 < parts_named types (Some t)
  pub covers : AreCovered types t

-- A record that may be copied, and of which a copy leaves no two owners, has such components alone (7.6).
abbrev pub CopiesWell : List TypeForm → Type 0
CopiesWell types = (t : ℕ) → leaves_owners types t ≡ false → ((f : Finalization) → finalization_of types t ≡ Some f → f.limited ≡ false) → SeesToAll types t

-- What is left of the adjustment of a record of this type, which was copied into the objects that are known by the type `access` (7.6): these operations are called
-- still, whatever has been called, and picked.
pub record CopyLeft (types : List TypeForm) (access record_type : ℕ) (tasks : List Task) : Type 0 where
  pub of : ℕ
  pub first : ℕ
  pub part : ℕ
  pub steps : ℕ
  pub calls : List Part
  pub numbered : shown_number types (Some record_type) ≡ Some of
  pub lies : WalksTo types (object_named types (Some access)) (Some record_type) first part
  pub sees : SeesToAll types record_type
  pub run : Run (shown_shapes types) PartsFirst (opened (shown_shapes types) PartsFirst of part) steps calls tasks
