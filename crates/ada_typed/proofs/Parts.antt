-- How many controlled parts the objects have that values name (7.6), by what is shown of the types of a program; and that a treatment stays within them.

use Rattle.std.proofs.Common.{◌≡◌, ℕ, zero, suc, ◌+◌, ◌<◌, ◌≤◌, Bool, true, false, List, [], ◌∷◌, ◌++◌, length, map, Option, Some, None, inl, inr, arith, refl, sym, ap, ◌∙◌, subst}
use Rattle.std.specs.Prelude.{◌||◌, if◌then◌else◌, count_by, find}
use Rattle.std.specs.List.{flat_map, list_all, remove, slice_get, sum_by}
use Rattle.std.proofs.lemmas.Grind.{common_steps}
use Rattle.ada_typed.specs.Holding.{parts_reached}
use Rattle.std.proofs.lemmas.Bool.Decides.{leb_tells}
use Rattle.std.proofs.lemmas.List.Sums.{sum_by-cons}
use Rattle.ada_parts.specs.declared.tasks.Component.{Component}
use Rattle.ada_parts.specs.declared.tasks.Direction.{Direction}
use Rattle.ada_parts.specs.declared.tasks.Direction.TheVariants.{PartsFirst, WholeFirst}
use Rattle.ada_parts.specs.Shape.{Shape, own_parts, parts_of, shape_of, IsTable}
use Rattle.ada_parts.specs.Part.{in_order, components_of}
use Rattle.ada_parts.specs.Task.{Task, performs, treats, treatment_of, operation_of, opened, opened_if, taken}
use Rattle.ada_parts.proofs.Tables.{shape_older, parts_step}
use Rattle.ada_program.specs.declared.program.Finalization.{Finalization}
use Rattle.ada_program.specs.declared.program.Part.{Part}
use Rattle.ada_program.specs.declared.program.PartKind.{PartKind}
use Rattle.ada_program.specs.declared.program.PartKind.TheVariants as part
use Rattle.ada_program.specs.declared.program.TypeDefinition.{TypeDefinition}
use Rattle.ada_program.specs.declared.program.TypeDefinition.TheVariants as definition
use Rattle.ada_program.specs.Controlled.{number_in, number_by, number_of, is_number, type_numbered, parts_by, is_parent, has_parent, if_parts, with_parts, components_with_parts, shape_by, shapes_up_to, has_parts, shapes_of, number_reached, firsts_in, firsts_from, firsts_of_kind, own_first, firsts_by, firsts_up_to, part_firsts}
use Rattle.ada_program.specs.ProgramForm.{PartForm, TypeForm, record_of, access_to, object_of, part_form, type_form}
use Rattle.ada_program.specs.Typed.{designated_of}
use Rattle.ada_program.specs.WellFormed.{finalization_in, finalization_of, has_number, named_in, numbered_types, part_count, parts_named, type_fits}
use Rattle.ada_program.proofs.Shapes.{same_number, same_types, parts_said, parts_for as known_parts}
use Rattle.ada_meaning.specs.Step.{tasks_for, tasks_in, parts_for, parts_held}
use Rattle.ada_typed.proofs.Shown.{same_named}

-- A declared component is a parent part, by what is shown of some.
abbrev pub shows_parent : List PartForm → Bool
shows_parent [] = false
shows_parent (p ∷ ps) = is_parent p.kind || shows_parent ps

-- The number of a record type among those that have controlled parts.
abbrev pub shown_number : List TypeForm → (record_type : Option ℕ) → Option ℕ
shown_number types None = None
shown_number types (Some t) = number_in (finalization_of types t)

-- The type of a declared component, by its number, where it has controlled parts.
abbrev pub shown_with : List TypeForm → (older : List Shape) → PartKind → List ℕ
shown_with types older (part.Elementary kind) = []
shown_with types older (part.Record t) = if_parts older (shown_number types (Some t.0))
shown_with types older part.Parent = []

-- The components that have controlled parts, by their types.
abbrev pub shown_components : List TypeForm → (older : List Shape) → List PartForm → List ℕ
shown_components types older [] = []
shown_components types older (p ∷ ps) = shown_with types older p.kind ++ shown_components types older ps

abbrev pub shape : (controlled : Bool) → (components : List ℕ) → Shape
shape controlled components = record { controlled = controlled; components = components }

-- A record type of these components as finalization sees it.
abbrev pub shown_shape : List TypeForm → (older : List Shape) → List PartForm → Shape
shown_shape types older ps = shape (shows_parent ps) (shown_components types older ps)

-- The components of a record type, as they are declared.
abbrev pub shown_parts : Option TypeForm → List PartForm
shown_parts None = []
shown_parts (Some (record_of name parts components finalization)) = parts
shown_parts (Some (access_to name designated pool)) = []
shown_parts (Some (object_of record_type)) = []

-- The type that has this number among those that have controlled parts.
abbrev pub shown_numbered : List TypeForm → ℕ → Option TypeForm
shown_numbered types n = find (λ u. has_number n (finalization_in (Some u))) types

-- The first of them, the newest first.
abbrev pub shown_up_to : List TypeForm → (count : ℕ) → List Shape
shown_up_to types zero = []
shown_up_to types (suc n) = shown_shape types (shown_up_to types n) (shown_parts (shown_numbered types n)) ∷ shown_up_to types n

-- The types of a program as finalization sees them, by what is shown of them.
abbrev pub shown_shapes : List TypeForm → List Shape
shown_shapes types = shown_up_to types (numbered_types types)

-- Where the controlled parts of a declared component begin, by what is shown of it.
abbrev pub shown_firsts_of : List TypeForm → (older : List (List ℕ)) → (first : ℕ) → PartKind → List ℕ
shown_firsts_of types older first (part.Elementary kind) = []
shown_firsts_of types older first (part.Record t) = firsts_from older first (shown_number types (Some t.0))
shown_firsts_of types older first part.Parent = []

-- Where those of a record type of these components begin.
abbrev pub shown_firsts_by : List TypeForm → (older : List (List ℕ)) → List PartForm → List ℕ
shown_firsts_by types older ps = own_first (shows_parent ps) ++ flat_map (λ p. shown_firsts_of types older p.first p.kind) ps

-- Where those of the first record types begin that have some.
abbrev pub shown_firsts_up_to : List TypeForm → (count : ℕ) → List (List ℕ)
shown_firsts_up_to types zero = []
shown_firsts_up_to types (suc n) = shown_firsts_by types (shown_firsts_up_to types n) (shown_parts (shown_numbered types n)) ∷ shown_firsts_up_to types n

-- Where those of the record type of a number begin, by what is shown of the types.
abbrev pub shown_firsts : List TypeForm → (number : Option ℕ) → List ℕ
shown_firsts types None = []
shown_firsts types (Some n) = firsts_in (shown_firsts_up_to types (numbered_types types)) n

-- Where those of the objects begin that the values of a type name.
abbrev pub firsts_known : List TypeForm → (access : ℕ) → List ℕ
firsts_known types access = shown_firsts types (shown_number types (named_in (slice_get types access)))

-- How many controlled parts the objects have that the values of a type name.
abbrev pub parts_known : List TypeForm → (access : ℕ) → ℕ
parts_known types access = parts_for (shown_shapes types) (shown_number types (named_in (slice_get types access)))

parent_shown : (ps : List Part) → shows_parent (map part_form ps) ≡ has_parent ps
parent_shown [] = refl
parent_shown (p ∷ ps) = ap (λ (b : Bool). is_parent p.kind || b) (parent_shown ps)

with_shown : (types : List TypeDefinition) (older : List Shape) (kind : PartKind) → shown_with (map type_form types) older kind ≡ with_parts types older kind
with_shown types older (part.Elementary kind) = refl
with_shown types older (part.Record t) = ap (if_parts older) (sym (same_number types t.0))
with_shown types older part.Parent = refl

components_shown : (types : List TypeDefinition) (older : List Shape) (ps : List Part) → shown_components (map type_form types) older (map part_form ps) ≡ components_with_parts types older ps
components_shown types older [] = refl
components_shown types older (p ∷ ps) =
    ap (λ (ts : List ℕ). ts ++ shown_components (map type_form types) older (map part_form ps)) (with_shown types older p.kind)
    ∙ ap (λ (ts : List ℕ). with_parts types older p.kind ++ ts) (components_shown types older ps)

shape_shown : (types : List TypeDefinition) (older : List Shape) (ps : List Part) → shown_shape (map type_form types) older (map part_form ps) ≡ shape_by types older ps
shape_shown types older ps =
    ap (λ (b : Bool). shape b (shown_components (map type_form types) older (map part_form ps))) (parent_shown ps)
    ∙ ap (shape (has_parent ps)) (components_shown types older ps)

-- A type has its number where what is shown of it has it.
has_it : (n : ℕ) (finalization : Option Finalization) → has_number n finalization ≡ is_number n (number_in finalization)
has_it n None = refl
has_it n (Some f) = refl

numbered_alike : (n : ℕ) (d : TypeDefinition) → has_number n (finalization_in (Some (type_form d))) ≡ is_number n (number_by (Some d))
numbered_alike n (definition.Record name parts components finalization) = has_it n finalization
numbered_alike n (definition.Access name designated pool) = refl
numbered_alike n (definition.Object record_type) = refl

own_parts_shown : (d : TypeDefinition) → shown_parts (Some (type_form d)) ≡ map part_form (parts_by (Some d))
own_parts_shown (definition.Record name parts components finalization) = refl
own_parts_shown (definition.Access name designated pool) = refl
own_parts_shown (definition.Object record_type) = refl

found_shown : (n : ℕ) (types : List TypeDefinition) → shown_parts (shown_numbered (map type_form types) n) ≡ map part_form (parts_by (type_numbered types n))
found_shown n [] = refl
found_shown n (d ∷ ds) =
    let alike = numbered_alike n d in
    let here = own_parts_shown d in
    let more = found_shown n ds in
    grind (arith, common_steps, alike, here, more)

up_to_shown : (types : List TypeDefinition) (n : ℕ) → shown_up_to (map type_form types) n ≡ shapes_up_to types n
up_to_shown types zero = refl
up_to_shown types (suc n) =
    let forms = map type_form types in
    ap (λ (older : List Shape). shown_shape forms older (shown_parts (shown_numbered forms n)) ∷ older) (up_to_shown types n)
    ∙ ap (λ (ps : List PartForm). shown_shape forms (shapes_up_to types n) ps ∷ shapes_up_to types n) (found_shown n types)
    ∙ ap (λ (s : Shape). s ∷ shapes_up_to types n) (shape_shown types (shapes_up_to types n) (parts_by (type_numbered types n)))

all_shown : (types : List TypeDefinition) → shown_shapes (map type_form types) ≡ shapes_of types
all_shown types = ap (shown_up_to (map type_form types)) (same_types types) ∙ up_to_shown types (count_by has_parts types)

kind_firsts_shown : (types : List TypeDefinition) (older : List (List ℕ)) (first : ℕ) (kind : PartKind) → shown_firsts_of (map type_form types) older first kind ≡ firsts_of_kind types older first kind
kind_firsts_shown types older first (part.Elementary kind) = refl
kind_firsts_shown types older first (part.Record t) = ap (firsts_from older first) (sym (same_number types t.0))
kind_firsts_shown types older first part.Parent = refl

all_firsts_shown : (types : List TypeDefinition) (older : List (List ℕ)) (ps : List Part) → flat_map (λ p. shown_firsts_of (map type_form types) older p.first p.kind) (map part_form ps) ≡ flat_map (λ p. firsts_of_kind types older p.first.0 p.kind) ps
all_firsts_shown types older [] = refl
all_firsts_shown types older (p ∷ ps) =
    ap (λ (cs : List ℕ). cs ++ flat_map (λ q. shown_firsts_of (map type_form types) older q.first q.kind) (map part_form ps)) (kind_firsts_shown types older p.first.0 p.kind)
    ∙ ap (λ (cs : List ℕ). firsts_of_kind types older p.first.0 p.kind ++ cs) (all_firsts_shown types older ps)

firsts_by_shown : (types : List TypeDefinition) (older : List (List ℕ)) (ps : List Part) → shown_firsts_by (map type_form types) older (map part_form ps) ≡ firsts_by types older ps
firsts_by_shown types older ps =
    ap (λ (b : Bool). own_first b ++ flat_map (λ p. shown_firsts_of (map type_form types) older p.first p.kind) (map part_form ps)) (parent_shown ps)
    ∙ ap (λ (cs : List ℕ). own_first (has_parent ps) ++ cs) (all_firsts_shown types older ps)

firsts_up_to_shown : (types : List TypeDefinition) (n : ℕ) → shown_firsts_up_to (map type_form types) n ≡ firsts_up_to types n
firsts_up_to_shown types zero = refl
firsts_up_to_shown types (suc n) =
    let forms = map type_form types in
    ap (λ (older : List (List ℕ)). shown_firsts_by forms older (shown_parts (shown_numbered forms n)) ∷ older) (firsts_up_to_shown types n)
    ∙ ap (λ (ps : List PartForm). shown_firsts_by forms (firsts_up_to types n) ps ∷ firsts_up_to types n) (found_shown n types)
    ∙ ap (λ (cs : List ℕ). cs ∷ firsts_up_to types n) (firsts_by_shown types (firsts_up_to types n) (parts_by (type_numbered types n)))

firsts_shown : (types : List TypeDefinition) (number : Option ℕ) → shown_firsts (map type_form types) number ≡ part_firsts types number
firsts_shown types None = refl
firsts_shown types (Some n) =
    ap (λ (count : ℕ). firsts_in (shown_firsts_up_to (map type_form types) count) n) (same_types types)
    ∙ ap (λ (all : List (List ℕ)). firsts_in all n) (firsts_up_to_shown types (count_by has_parts types))

number_shown : (types : List TypeDefinition) (o : Option ℕ) → shown_number (map type_form types) o ≡ number_of types o
number_shown types None = refl
number_shown types (Some t) = sym (same_number types t)

-- It is the same table, types have the same numbers, and objects have as many parts.
pub shapes_shown : (types : List TypeDefinition) (forms : List TypeForm) → map type_form types ≡ forms → shown_shapes forms ≡ shapes_of types
shapes_shown types forms shown = ap shown_shapes (sym shown) ∙ all_shown types

pub parts_shown : (types : List TypeDefinition) (forms : List TypeForm) (access : ℕ) → map type_form types ≡ forms → parts_known forms access ≡ parts_held types access
parts_shown types forms access shown =
    ap (λ (ts : List TypeForm). parts_known ts access) (sym shown)
    ∙ ap (λ (shapes : List Shape). parts_for shapes (shown_number (map type_form types) (named_in (slice_get (map type_form types) access)))) (all_shown types)
    ∙ ap (λ (o : Option ℕ). parts_for (shapes_of types) (shown_number (map type_form types) o)) (same_named types access)
    ∙ ap (parts_for (shapes_of types)) (number_shown types (designated_of types access))

-- The objects that the values of a type name are of the record type of this number.
pub known_number : (types : List TypeDefinition) (forms : List TypeForm) (access : ℕ) → map type_form types ≡ forms → shown_number forms (named_in (slice_get forms access)) ≡ number_reached types access
known_number types forms access shown =
    ap (λ (ts : List TypeForm). shown_number ts (named_in (slice_get ts access))) (sym shown)
    ∙ ap (shown_number (map type_form types)) (same_named types access) ∙ number_shown types (designated_of types access)

-- The parts of objects begin where their types say.
pub known_firsts : (types : List TypeDefinition) (forms : List TypeForm) (access : ℕ) → map type_form types ≡ forms → firsts_known forms access ≡ part_firsts types (number_reached types access)
known_firsts types forms access shown =
    ap (λ (ts : List TypeForm). firsts_known ts access) (sym shown)
    ∙ ap (λ (o : Option ℕ). shown_firsts (map type_form types) (shown_number (map type_form types) o)) (same_named types access)
    ∙ ap (shown_firsts (map type_form types)) (number_shown types (designated_of types access))
    ∙ firsts_shown types (number_reached types access)

-- Where the types fit, records have as many controlled parts as their types say.
same_parts : (shapes : List Shape) (o : Option ℕ) → known_parts shapes o ≡ parts_for shapes o
same_parts shapes None = refl
same_parts shapes (Some n) = refl

pub record_counted : (types : List TypeDefinition) (forms : List TypeForm) (t : ℕ) → map type_form types ≡ forms → list_all (type_fits forms) forms ≡ true → part_count forms t ≡ parts_for (shapes_of types) (number_of types (Some t))
record_counted types forms t shown fit =
    ap (λ (ts : List TypeForm). part_count ts t) (sym shown)
    ∙ parts_said types t (ap (λ (ts : List TypeForm). list_all (type_fits ts) ts) shown ∙ fit)
    ∙ same_parts (shapes_of types) (number_of types (Some t))

named_counted : (types : List TypeDefinition) (forms : List TypeForm) (o : Option ℕ) → map type_form types ≡ forms → list_all (type_fits forms) forms ≡ true → parts_named forms o ≡ parts_for (shapes_of types) (number_of types o)
named_counted types forms None shown fit = refl
named_counted types forms (Some t) shown fit = record_counted types forms t shown fit

-- So do the objects that the values of a type name.
pub parts_counted : (types : List TypeDefinition) (forms : List TypeForm) (access : ℕ) → map type_form types ≡ forms → list_all (type_fits forms) forms ≡ true → parts_reached forms access ≡ parts_known forms access
parts_counted types forms access shown fit =
    let named_alike : named_in (slice_get forms access) ≡ designated_of types access = ap (λ (ts : List TypeForm). named_in (slice_get ts access)) (sym shown) ∙ same_named types access in
    named_counted types forms (named_in (slice_get forms access)) shown fit
    ∙ ap (λ (o : Option ℕ). parts_for (shapes_of types) (number_of types o)) named_alike
    ∙ sym (parts_shown types forms access shown)

-- The parts of these components are among so many first ones.
abbrev pub AreWithin : List Shape → (count : ℕ) → List Component → Type 0
AreWithin shapes count [] = Unit {0}
AreWithin shapes count (c ∷ cs) = (c.first + parts_of shapes c.of ≤ count) × AreWithin shapes count cs

-- What is left of a treatment speaks of so many first parts, and where components are to be picked there is one.
abbrev pub Within : List Shape → (count : ℕ) → List Task → Type 0
Within shapes count [] = Unit {0}
Within shapes count (treats components ∷ behind) = (0 < length components) × AreWithin shapes count components × Within shapes count behind
Within shapes count (performs of part ∷ behind) = (part < count) × Within shapes count behind

-- One component is.
abbrev IsWithin : List Shape → (count : ℕ) → Option Component → Type 0
IsWithin shapes count None = Unit {0}
IsWithin shapes count (Some c) = c.first + parts_of shapes c.of ≤ count

-- What a record has at least: itself, if it is controlled, and the parts of its components.
shape_unknown : (shapes : List Shape) (t : ℕ) → length shapes ≤ t → shape_of shapes t ≡ shape false []
shape_unknown [] t far = refl
shape_unknown (s ∷ older) t far = shape_older s older t (λ e. omega (arith, e, far)) ∙ shape_unknown older t (omega (arith, far))

abbrev HasAtLeast : List Shape → (of : ℕ) → Shape → Type 0
HasAtLeast shapes t s = own_parts s + sum_by (parts_of shapes) s.components ≤ parts_of shapes t

has_at_least : (shapes : List Shape) (t : ℕ) → IsTable shapes → HasAtLeast shapes t (shape_of shapes t)
has_at_least shapes t table = elim (leb_tells (length shapes) t) [ inl h ↦ unknown h.1 | inr h ↦ known h.1 ]
  where
    unknown : length shapes ≤ t → HasAtLeast shapes t (shape_of shapes t)
    unknown far = subst (HasAtLeast shapes t) (sym (shape_unknown shapes t far)) (omega arith)

    known : t < length shapes → HasAtLeast shapes t (shape_of shapes t)
    known near = let step = parts_step shapes t table near in omega (arith, step)

module _ (shapes : List Shape) (count : ℕ) where
  within_append : (a b : List Task) → Within shapes count a → Within shapes count b → Within shapes count (a ++ b)
  within_append [] b h g = g
  within_append (treats cs ∷ a) b h g = (h.0, h.1, within_append a b h.2 g)
  within_append (performs of part ∷ a) b h g = (h.0, within_append a b h.1 g)

  within_treatment : (cs : List Component) → AreWithin shapes count cs → Within shapes count (treatment_of cs)
  within_treatment [] h = tt
  within_treatment (c ∷ cs) h = (omega arith, h, tt)

  within_call : (called : Bool) (of first : ℕ) → first + (if called then 1 else 0) ≤ count → Within shapes count (if called then performs of first ∷ [] else [])
  within_call true of first h = (omega (arith, h), tt)
  within_call false of first h = tt

  within_order : (ts : List ℕ) (first : ℕ) → first + sum_by (parts_of shapes) ts ≤ count → AreWithin shapes count (in_order (parts_of shapes) ts first)
  within_order [] first h = tt
  within_order (t ∷ ts) first h =
      let sum = sum_by-cons (parts_of shapes) t ts in
      (omega (arith, sum, h), within_order ts (first + parts_of shapes t) (omega (arith, sum, h)))

  within_removed : (cs : List Component) (i : ℕ) → AreWithin shapes count cs → AreWithin shapes count (remove cs i)
  within_removed [] zero h = tt
  within_removed [] (suc i) h = tt
  within_removed (c ∷ cs) zero h = h.1
  within_removed (c ∷ cs) (suc i) h = (h.0, within_removed cs i h.1)

  within_at : (cs : List Component) (i : ℕ) → AreWithin shapes count cs → IsWithin shapes count (slice_get cs i)
  within_at [] i h = tt
  within_at (c ∷ cs) zero h = h.0
  within_at (c ∷ cs) (suc i) h = within_at cs i h.1

module _ (shapes : List Shape) (table : IsTable shapes) (count : ℕ) where
  within_opened : (direction : Direction) (of first : ℕ) → first + parts_of shapes of ≤ count → Within shapes count (opened shapes direction of first)
  within_opened direction of first h =
      let s = shape_of shapes of in
      let least = has_at_least shapes of table in
      let call = within_call shapes count s.controlled of first (omega (arith, h, least)) in
      let components = within_treatment shapes count (components_of shapes of first) (within_order shapes count s.components (first + own_parts s) (omega (arith, h, least))) in
      both direction call components
    where
      both : (direction : Direction) → Within shapes count (operation_of (shape_of shapes of) of first) → Within shapes count (treatment_of (components_of shapes of first)) → Within shapes count (opened shapes direction of first)
      both PartsFirst call components = within_append shapes count (treatment_of (components_of shapes of first)) (operation_of (shape_of shapes of) of first) components call
      both WholeFirst call components = within_append shapes count (operation_of (shape_of shapes of) of first) (treatment_of (components_of shapes of first)) call components

  within_picked : (direction : Direction) (o : Option Component) → IsWithin shapes count o → Within shapes count (opened_if shapes direction o)
  within_picked direction None h = tt
  within_picked direction (Some c) h = within_opened direction c.of c.first h

  -- A component that is picked, and all that is to be done for an object.
  pub within_taken : (direction : Direction) (cs : List Component) (behind : List Task) (i : ℕ) → Within shapes count (treats cs ∷ behind) → Within shapes count (taken shapes direction (treats cs ∷ behind) i)
  within_taken direction cs behind i h =
      within_append shapes count (opened_if shapes direction (slice_get cs i)) (treatment_of (remove cs i) ++ behind)
      (within_picked direction (slice_get cs i) (within_at shapes count cs i h.1))
      (within_append shapes count (treatment_of (remove cs i)) behind (within_treatment shapes count (remove cs i) (within_removed shapes count cs i h.1)) h.2)

  pub within_all : (direction : Direction) (o : Option ℕ) → parts_for shapes o ≤ count → Within shapes count (tasks_for shapes direction o)
  within_all direction None h = tt
  within_all direction (Some t) h = within_opened direction t 0 (omega (arith, h))

  -- All that is to be done for a record that lies in an object.
  pub within_record : (direction : Direction) (o : Option ℕ) (first : ℕ) → first + parts_for shapes o ≤ count → Within shapes count (tasks_in shapes direction o first)
  within_record direction None first h = tt
  within_record direction (Some t) first h = within_opened direction t first h
