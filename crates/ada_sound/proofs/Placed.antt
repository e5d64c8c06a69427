-- Where the controlled records lie whose Adjusts are called (7.6): an object has one at most under each number of a part, and what lies in a record that is to be
-- adjusted is among the parts that are treated.

use Rattle.std.proofs.Common.{◌≡◌, ℕ, zero, suc, ◌+◌, ◌<◌, Bool, true, false, if◌then◌else◌, List, [], ◌∷◌, ◌++◌, length, Option, Some, None, inl, inr, arith, refl, sym, ap, ◌∙◌, subst}
use Rattle.std.specs.List.{Contains, flat_map, list_all, slice_get, slice_index_or}
use Rattle.std.proofs.lemmas.List.Elements.{Contains-append_left, Contains-append_right, Contains-append_cases}
use Rattle.std.proofs.lemmas.List.FromFn.{length-range_with_len, get_or-range_with_len}
use Rattle.ada_parts.specs.declared.tasks.Component.{Component}
use Rattle.ada_parts.specs.Shape.{Shape, IsTable, own_parts, parts_of, shape_of}
use Rattle.ada_parts.specs.Part.{Part, in_order, components_of, own_part, parts_at, numbers}
use Rattle.ada_parts.proofs.Facts.{eq_self}
use Rattle.ada_parts.proofs.Numbers.{numbered}
use Rattle.ada_parts.proofs.Tables.{at_step}
use Rattle.ada_program.specs.declared.program.PartKind.{PartKind}
use Rattle.ada_program.specs.declared.program.PartKind.TheVariants as part
use Rattle.ada_program.specs.declared.program.Program.{Program}
use Rattle.ada_program.specs.declared.program.TypeDefinition.{TypeDefinition}
use Rattle.ada_program.specs.Controlled.{number_in, number_reached, part_firsts, shapes_of}
use Rattle.ada_program.specs.ProgramForm.{PartForm, TypeForm, record_of, access_to, object_of, program_form}
use Rattle.ada_program.specs.Walks.{Walks, ends, into}
use Rattle.ada_program.specs.WellFormed.{IsWellFormed, finalization_in, has_number, is_parent, numbered_types, object_named, part_count, type_fits}
use Rattle.ada_program.proofs.Shapes.{same_number}
use Rattle.ada_meaning.specs.Step.{parts_for}
use Rattle.ada_meaning.proofs.Places.{numbers_are_alone, records_begin_themselves}
use Rattle.ada_flow.specs.Tracking.{access_numbers}
use Rattle.ada_typed.specs.Holding.{WalksTo}
use Rattle.ada_typed.proofs.Inner.{LiesAt, lies_at}
use Rattle.ada_typed.proofs.Lying.{Lies, placed, inner, IsOperable}
use Rattle.ada_typed.proofs.Parts.{firsts_known, known_firsts, record_counted, shapes_shown, shows_parent, shown_number, shown_parts, shown_shapes}
use Rattle.ada_typed.proofs.Walking.{walks_to}
use Rattle.ada_sound.proofs.CopyParts.{shapes_table, tail_in}
use Rattle.ada_sound.proofs.CopiedOwners.{declared_owners, owners_numbered}
use Rattle.ada_sound.proofs.OnlyParts.{IsControlled, in_order as parts_stand, parent_at, controlled_counts, walked_counts}
use Rattle.ada_sound.proofs.OnlyPlaces.{alone_said, behind_parent, controlled_as_shown, found_one, lies_within_object, parents_first, shown_as_controlled, shown_length}

-- What is among one of the lists that are put together is among them all.
pub flat_in : {X Y : Type 0} (f : X → List Y) (xs : List X) (x : X) (y : Y) (k : ℕ) → k < length xs → slice_index_or xs k x ≡ x → Contains (f x) y
    → Contains (flat_map f xs) y
flat_in f [] x y k lt at inside = absurd (omega (arith, lt))
flat_in {X = X} f (z ∷ xs) x y zero lt at inside = Contains-append_left (f z) (flat_map f xs) y (subst (λ (w : X). Contains (f w) y) (sym at) inside)
flat_in f (z ∷ xs) x y (suc k) lt at inside = Contains-append_right (f z) (flat_map f xs) y (flat_in f xs x y k (omega (arith, lt)) at inside)

-- Something is among one of them.
abbrev FromOne : {X Y : Type 0} → (X → List Y) → List X → Y → Type 0
FromOne {X = X} f xs y = (i : ℕ) × (x : X) × (slice_get xs i ≡ Some x) × Contains (f x) y

-- What is among them all is among one of them.
from_one : {X Y : Type 0} (f : X → List Y) (xs : List X) (y : Y) → Contains (flat_map f xs) y → FromOne f xs y
from_one f [] y (k, lt, at) = absurd (omega (arith, lt))
from_one f (x ∷ xs) y has = elim (Contains-append_cases (f x) (flat_map f xs) y has) [
  | inl here ↦ (0, x, refl, here)
  | inr behind ↦ let later = from_one f xs y behind in (suc later.0, later.1, later.2, later.3)
]

-- A number that is among those of parts is that of one.
numbered_part : (ps : List Part) (n k : ℕ) → k < length (numbers ps) → slice_index_or (numbers ps) k n ≡ n → (q : Part) × Contains ps q × (q.number ≡ n)
numbered_part [] n k lt at = absurd (omega (arith, lt))
numbered_part (p ∷ ps) n zero lt at = (p, (0, omega arith, refl), at)
numbered_part (p ∷ ps) n (suc k) lt at =
    let later = numbered_part ps n k (omega (arith, lt)) at in
    (later.0, tail_in p later.0 ps later.1, later.2)

-- Under each number of its parts a record has one.
numbered_there : (shapes : List Shape) (of number k : ℕ) → k < parts_of shapes of → (q : Part) × Contains (parts_at shapes of number) q × (q.number ≡ number + k)
numbered_there shapes of number k below =
    numbered_part (parts_at shapes of number) (number + k) k
    (subst (λ (ns : List ℕ). k < length ns) (sym (numbered shapes of number)) (let long = length-range_with_len number (parts_of shapes of) in omega (arith, long, below)))
    (subst (λ (ns : List ℕ). slice_index_or ns k (number + k) ≡ number + k) (sym (numbered shapes of number))
    (get_or-range_with_len number (parts_of shapes of) k (number + k) below))

-- A component in order is of one of the types.
ordered_type : (count : ℕ → ℕ) (ts : List ℕ) (first i : ℕ) (c : Component) → slice_get (in_order count ts first) i ≡ Some c → Contains ts c.of
ordered_type count [] first i c at = absurd (cc at)
ordered_type count (t ∷ ts) first zero c at = let one : record { of = t; first = first } ≡ c = cc at in (0, omega arith, ap (λ (d : Component). d.of) one)
ordered_type count (t ∷ ts) first (suc i) c at = tail_in t c.of ts (ordered_type count ts (first + count t) i c at)

module _ (types : List TypeForm) (fit : list_all (type_fits types) types ≡ true) where
  -- The components of access types that a controlled record declares are those of the type that has its number.
  pub numbered_as : (u : ℕ) (c : IsControlled types u) → owners_numbered types c.finalization.number.0 ≡ declared_owners types u
  numbered_as u c =
      let form = record_of c.name c.parts c.components (Some c.finalization) in
      let said = alone_said types fit u c.name c.parts c.components c.finalization c.declared in
      let found = found_one (λ v. has_number c.finalization.number.0 (finalization_in (Some v))) types u form said.1 c.declared (eq_self c.finalization.number.0) in
      ap (λ (o : Option TypeForm). access_numbers (shown_parts o)) found ∙ ap (λ (o : Option TypeForm). access_numbers (shown_parts o)) (sym c.declared)

  -- A record type's number is below how many there are.
  number_below : (t of : ℕ) → shown_number types (Some t) ≡ Some of → of < numbered_types types
  number_below t of is = go (slice_get types t) refl is
    where
      go : (o : Option TypeForm) → slice_get types t ≡ o → number_in (finalization_in o) ≡ Some of → of < numbered_types types
      go None at said = absurd (cc said)
      go (Some (record_of name ps components None)) at said = absurd (cc said)
      go (Some (record_of name ps components (Some f))) at said =
          let same : f.number.0 ≡ of = cc said in
          subst (λ (n : ℕ). n < numbered_types types) same (alone_said types fit t name ps components f at).0
      go (Some (access_to name designated pool)) at said = absurd (cc said)
      go (Some (object_of record_type)) at said = absurd (cc said)

  -- So there is a shape of it.
  pub number_known : (t of : ℕ) → shown_number types (Some t) ≡ Some of → of < length (shown_shapes types)
  number_known t of is = let below = number_below t of is in let long = shown_length types (numbered_types types) in omega (arith, below, long)

  -- A controlled record has the first number among its own parts, and no other.
  itself_alone : (u first k w : ℕ) → IsControlled types u → Walks types u first k w → k ≡ 0 → (u ≡ w) × (first ≡ 0)
  itself_alone u _ _ _ c ends none = (refl, refl)
  itself_alone u _ _ w c (into i first k _ m name ps components f p v at there is known walks) none =
      let same : c.parts ≡ ps = ap shown_parts (sym c.declared ∙ at) in
      let own : shows_parent ps ≡ true = subst (λ (qs : List PartForm). shows_parent qs ≡ true) same c.own in
      let first_one = parents_first types fit u name ps components (Some f) at in
      let behind = behind_parent types f.parts ps i p v first_one (parts_stand types fit u name ps components (Some f) at) own there is in
      absurd (omega (arith, behind, none))

  -- Controlled records that lie in one object under one number are one, at one place.
  pub one_at :
      (object : Option ℕ) (r first k u other : ℕ) → IsControlled types r → IsControlled types u → WalksTo types object (Some r) first k
      → WalksTo types object (Some u) other k → (r ≡ u) × (first ≡ other)
  one_at object r first k u other c d walks others =
      let some = controlled_counts types fit r c in
      let w = lies_within_object types fit object first k r other k u d walks others (omega arith) (omega (arith, some)) in
      let number = w.part_so in
      let one = itself_alone r w.before w.number u c w.walk (omega (arith, number)) in
      let place = w.first_so in
      let before = one.1 in
      (one.0, omega (arith, place, before))

module _ (types : List TypeForm) where
  -- A record that lies in objects is controlled itself where it is a part of itself.
  own_operable :
      (access of number : ℕ) (q : Part) (b : Bool) → (shape_of (shown_shapes types) of).controlled ≡ b → Lies types access of number
      → Contains (if b then record { of = of; number = number } ∷ [] else []) q → IsOperable types access q.of q.number
  own_operable access of number q true shown lies (zero, lt, at) = subst (λ (p : Part). IsOperable types access p.of p.number) at (lies, shown)
  own_operable access of number q true shown lies (suc k, lt, at) = absurd (omega (arith, lt))
  own_operable access of number q false shown lies (k, lt, at) = absurd (omega (arith, lt))

  -- Whatever is treated of a record that lies in objects is a controlled record that lies there.
  parts_operable :
      (n access of number : ℕ) (q : Part) → IsTable (shown_shapes types) → of < n → of < length (shown_shapes types) → Lies types access of number
      → Contains (parts_at (shown_shapes types) of number) q → IsOperable types access q.of q.number
  parts_operable zero access of number q table less below lies has = absurd (omega (arith, less))
  parts_operable (suc n) access of number q table less below lies has =
      by (subst (λ (ps : List Part). Contains ps q) (at_step (shown_shapes types) of number table below) has)
      (λ d first q' fewer known further among. parts_operable n access d first q' table fewer known further among)
    where
      by :
          Contains (own_part (shape_of (shown_shapes types) of) of number ++ flat_map (λ c. parts_at (shown_shapes types) c.of c.first) (components_of (shown_shapes types) of number)) q
          → ((d first : ℕ) (q' : Part) → d < n → d < length (shown_shapes types) → Lies types access d first → Contains (parts_at (shown_shapes types) d first) q' → IsOperable types access q'.of q'.number)
          → IsOperable types access q.of q.number
      by has' more = elim (Contains-append_cases (own_part (shape_of (shown_shapes types) of) of number) (flat_map (λ c. parts_at (shown_shapes types) c.of c.first) (components_of (shown_shapes types) of number)) q has') [
        | inl own ↦ own_operable access of number q (shape_of (shown_shapes types) of).controlled refl lies own
        | inr rest ↦
            let one = from_one (λ (c : Component). parts_at (shown_shapes types) c.of c.first) (components_of (shown_shapes types) of number) q rest in
            let type = ordered_type (parts_of (shown_shapes types)) (shape_of (shown_shapes types) of).components (number + own_parts (shape_of (shown_shapes types) of)) one.0 one.1 one.2 in
            let earlier = table.earlier of one.1.of below type in
            more one.1.of one.1.first q (omega (arith, earlier, less)) (omega (arith, earlier, below)) (inner of number one.0 one.1 lies one.2) one.3
      ]

module _ (program : Program) (well : IsWellFormed (program_form program)) where
  abbrev types : List TypeDefinition
  types = program.types.items

  abbrev forms : List TypeForm
  forms = (program_form program).types

  -- A controlled record that lies in objects begins where the part begins that has its number.
  pub first_placed :
      (access u base n : ℕ) → IsControlled forms u → WalksTo forms (object_named forms (Some access)) (Some u) base n
      → slice_get (firsts_known forms access) n ≡ Some base
  first_placed access u base n c walks =
      let object = object_named forms (Some access) in
      let m = c.finalization.number.0 in
      let shown = (shown_as_controlled forms well.types_fit u c).0 in
      let l = lies_at program well access m n (placed u m base n shown walks) in
      let same : l.record_type ≡ u = numbers_are_alone program l.record_type u m well l.numbered (same_number types u ∙ shown) in
      let walk : WalksTo forms object (Some u) l.first n = subst (λ (v : ℕ). WalksTo forms object (Some v) l.first n) same l.walk in
      let place = (one_at forms well.types_fit object u l.first n u base c c walk walks).1 in
      let own = parent_at c.parts c.own in
      let itself = records_begin_themselves program u own.0 c.parts c.finalization own.1 well (c.name, c.components, c.declared) own.2 (parent_so own.1.kind own.3) in
      let out = l.begins 0 0 itself in
      let number : n ≡ n + 0 = omega arith in
      let first : l.first + 0 ≡ base = omega (arith, place) in
      ap (λ (xs : List ℕ). slice_get xs n) (known_firsts types forms access refl)
      ∙ ap (slice_get (part_firsts types (number_reached types access))) number ∙ out ∙ ap (λ (j : ℕ). Some j) first
    where
      parent_so : (kind : PartKind) → is_parent kind ≡ true → kind ≡ part.Parent
      parent_so (part.Elementary kind) is = absurd (cc is)
      parent_so (part.Record v) is = absurd (cc is)
      parent_so part.Parent is = refl

  -- A record has as many parts as its type counts.
  counted_so : (t of : ℕ) → shown_number forms (Some t) ≡ Some of → part_count forms t ≡ parts_of (shown_shapes forms) of
  counted_so t of is =
      record_counted types forms t refl well.types_fit ∙ ap (parts_for (shapes_of types)) (same_number types t ∙ is)
      ∙ ap (λ (shapes : List Shape). parts_of shapes of) (sym (shapes_shown types forms refl))

  -- What is treated of objects under the number of a controlled record that lies there is this record.
  pub type_at :
      (access of number u first : ℕ) (c : IsControlled forms u) → IsOperable forms access of number
      → WalksTo forms (object_named forms (Some access)) (Some u) first number → of ≡ c.finalization.number.0
  type_at access of number u first c operable walks = cc both
    where
      l : LiesAt types access of number
      l = lies_at program well access of number operable.0

      shown : shown_number forms (Some l.record_type) ≡ Some of
      shown = sym (same_number types l.record_type) ∙ l.numbered

      other : IsControlled forms l.record_type
      other = controlled_as_shown forms well.types_fit l.record_type of shown operable.1

      same : l.record_type ≡ u
      same = (one_at forms well.types_fit (object_named forms (Some access)) l.record_type l.first number u first other c l.walk walks).0

      own : shown_number forms (Some l.record_type) ≡ Some c.finalization.number.0
      own = subst (λ (v : ℕ). shown_number forms (Some v) ≡ Some c.finalization.number.0) (sym same) (shown_as_controlled forms well.types_fit u c).0

      both : Some of ≡ Some c.finalization.number.0
      both = sym shown ∙ own

  -- A controlled record that lies in a record, which lies in objects, is among what is treated of that.
  pub part_lies_in :
      (access t of first number d k u : ℕ) (c : IsControlled forms u) → shown_number forms (Some t) ≡ Some of
      → WalksTo forms (object_named forms (Some access)) (Some t) first number → Walks forms t d k u
      → Contains (parts_at (shown_shapes forms) of number) (record { of = c.finalization.number.0; number = number + k })
  part_lies_in access t of first number d k u c is walks inside =
      subst (λ (n : ℕ). Contains (parts_at (shown_shapes forms) of number) (record { of = c.finalization.number.0; number = n })) found.2
      (subst (λ (o : ℕ). Contains (parts_at (shown_shapes forms) of number) (record { of = o; number = found.0.number })) type found.1)
    where
      below : k < parts_of (shown_shapes forms) of
      below =
          let some = controlled_counts forms well.types_fit u c in
          let within = walked_counts forms well.types_fit t d k u inside in
          let count = counted_so t of is in
          omega (arith, some, within, count)

      found : (q : Part) × Contains (parts_at (shown_shapes forms) of number) q × (q.number ≡ number + k)
      found = numbered_there (shown_shapes forms) of number k below

      operable : IsOperable forms access found.0.of found.0.number
      operable =
          parts_operable forms (suc of) access of number found.0 (shapes_table program well) (omega arith) (number_known forms well.types_fit t of is)
          (placed t of first number is walks) found.1

      own : WalksTo forms (object_named forms (Some access)) (Some u) (first + d) found.0.number
      own =
          subst (WalksTo forms (object_named forms (Some access)) (Some u) (first + d)) (sym found.2)
          (walks_to forms (object_named forms (Some access)) (Some t) (Some u) first number d k walks inside)

      type : found.0.of ≡ c.finalization.number.0
      type = type_at access found.0.of found.0.number u (first + d) c operable own
