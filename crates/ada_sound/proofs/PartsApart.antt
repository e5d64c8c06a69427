-- Where the parts of a copied record lie that are called, and those that are left (7.6): what is hidden lies beside the record whose Adjust is called.

use Rattle.std.proofs.Common.{◌≡◌, ◌≢◌, ◌⊎◌, ℕ, zero, suc, ◌+◌, ◌<◌, ◌≤◌, ◌==◌, Bool, true, false, if◌then◌else◌, ◌||◌, List, [], ◌∷◌, ◌++◌, length, Option, Some, None, inl, inr, refl, sym, ap, ◌∙◌, subst, arith}
use Rattle.std.specs.Prelude.{flat_map}
use Rattle.std.specs.List.{All, Contains, list_all, list_any, range_with_len, slice_get, slice_index_or}
use Rattle.std.proofs.lemmas.Bool.{and_parts, cases_lt, eqb-true}
use Rattle.std.proofs.lemmas.Bool.Decides.{eqb_tells}
use Rattle.std.proofs.lemmas.List.Elements.{Contains-append_cases}
use Rattle.std.proofs.lemmas.List.FromFn.{length-range_with_len, get_or-range_with_len}
use Rattle.ada_parts.specs.declared.tasks.Component.{Component}
use Rattle.ada_parts.specs.declared.tasks.Direction.TheVariants.{PartsFirst}
use Rattle.ada_parts.specs.Law.{parts_left}
use Rattle.ada_parts.specs.Part.{Part, LiesIn, components_of, numbers, own_part, parts_at}
use Rattle.ada_parts.specs.Shape.{Shape, own_parts, parts_of, shape_of}
use Rattle.ada_parts.specs.Task.{Task, performs}
use Rattle.ada_parts.proofs.Facts.{all_contained, contained}
use Rattle.ada_parts.proofs.Numbers.{numbered}
use Rattle.ada_parts.proofs.Tables.{at_step, order_types}
use Rattle.ada_program.specs.declared.program.ComponentKind.{ComponentKind}
use Rattle.ada_program.specs.declared.program.ComponentKind.TheVariants as component
use Rattle.ada_program.specs.declared.program.Finalization.{Finalization}
use Rattle.ada_program.specs.declared.program.PartKind.{PartKind}
use Rattle.ada_program.specs.declared.program.PartKind.TheVariants as part
use Rattle.ada_program.specs.declared.program.Program.{Program}
use Rattle.ada_program.specs.declared.program.TypeNo.{TypeNo}
use Rattle.ada_program.specs.declared.program.VariableKind.TheVariants as variable
use Rattle.ada_program.specs.Controlled.{number_in, number_reached, shapes_of}
use Rattle.ada_program.specs.ProgramForm.{PartForm, TypeForm, record_of, program_form}
use Rattle.ada_program.specs.Walks.{Walks, ends, into}
use Rattle.ada_program.specs.WellFormed.{IsWellFormed, component_lies, components_in, components_lie, components_within, finalization_in, has_number, has_record_at, is_parent, kind_among, object_named, part_count, parts_named, reached_components, record_components}
use Rattle.ada_program.proofs.Firsts.{as_many_firsts}
use Rattle.ada_program.proofs.Shapes.{same_number, parts_for as known_parts}
use Rattle.ada_flow.specs.Flow.{is_owning_part}
use Rattle.ada_flow.specs.Tracking.{number_within, access_numbers}
use Rattle.ada_meaning.specs.Step.{parts_for}
use Rattle.ada_finalized.proofs.Counts.{count_has}
use Rattle.ada_finalized.proofs.Treated.{none_in, cons_cases, inside_gone, not_yet}
use Rattle.ada_quiet.specs.InUse.{adjusts_itself, count_found, is_copied_in_order, size_of_part, stand_in_a_row}
use Rattle.ada_tracked.specs.Frames.{shifted}
use Rattle.ada_tracked.proofs.Lists.{read_within}
use Rattle.ada_typed.specs.Holding.{WalksTo, PartsLie}
use Rattle.ada_typed.proofs.Inner.{LiesAt, lies_at, parts_are_records}
use Rattle.ada_typed.proofs.Lying.{IsOperable, Lies, placed, inner}
use Rattle.ada_typed.proofs.Parts.{firsts_known, known_firsts, parts_counted, parts_shown, record_counted, shapes_shown, shown_number, shown_numbered, shown_parts, shown_shapes}
use Rattle.ada_typed.proofs.Records.{inside_kind}
use Rattle.ada_sound.proofs.CopiedOwners.{CopyLeft, SeesToOwners, declared_owners, owners_left, owners_numbered, part_owners}
use Rattle.ada_sound.proofs.CopyParts.{InSome, flat_cases, head_in, tail_in, left_called, shapes_table, treated_left}
use Rattle.ada_sound.proofs.OnlyParts.{IsControlled, controlled_counts, passed_at, walked_counts}
use Rattle.ada_sound.proofs.OnlyPlaces.{alone_said, controlled_as_shown, found_one, lies_within_object}
use Rattle.ada_sound.proofs.OnlyRows.{AreCopiedInOrder, or_true}
use Rattle.ada_sound.proofs.Placed.{number_known}

-- The number of a part is one of theirs.
number_among : (ps : List Part) (p : Part) → Contains ps p → Contains (numbers ps) p.number
number_among [] p has = none_in p has
number_among (q ∷ ps) p has =
    elim (cons_cases q p ps has) [
      | inl e ↦ subst (λ (x : Part). Contains (numbers (q ∷ ps)) x.number) e (head_in q.number (numbers ps))
      | inr more ↦ tail_in q.number p.number (numbers ps) (number_among ps p more)
    ]

-- What is in a range is not before it, and not behind it.
range_bounds : (a n q : ℕ) → Contains (range_with_len a n) q → (a ≤ q) × (q < a + n)
range_bounds a n q (k, lt, is) =
    let long = length-range_with_len a n in
    let value = get_or-range_with_len a n k q (omega (arith, long, lt)) in
    (omega (arith, value, is), omega (arith, value, is, long, lt))

-- A component of a record in an object is one of the object.
pub shifted_cases : (base : ℕ) (cs : List ℕ) (c : ℕ) → Contains (shifted base cs) c → (e : ℕ) × Contains cs e × (c ≡ base + e)
shifted_cases base [] c has = none_in c has
shifted_cases base (d ∷ cs) c has =
    elim (cons_cases (base + d) c (shifted base cs) has) [
      | inl e ↦ (d, head_in d cs, sym e)
      | inr more ↦ let later = shifted_cases base cs c more in (later.0, tail_in d later.0 cs later.1, later.2)
    ]

-- A declared component of an access type, by its number.
pub record OwnerAt (ps : List PartForm) (e : ℕ) : Type 0 where
  pub number : ℕ
  pub p : PartForm
  pub access : TypeNo
  pub at : slice_get ps number ≡ Some p
  pub is : p.kind ≡ part.Elementary (component.Access access)
  pub first : p.first ≡ e

-- What has a number among those of access types is such a component.
owner_at : (ps : List PartForm) (e : ℕ) → Contains (access_numbers ps) e → OwnerAt ps e
owner_at [] e has = none_in e has
owner_at (q ∷ ps) e has =
    elim (Contains-append_cases (number_within q.first q.kind) (access_numbers ps) e has) [
      | inl own ↦ by q.kind refl own
      | inr more ↦
          let later = owner_at ps e more in
          record { number = suc later.number; p = later.p; access = later.access; at = later.at; is = later.is; first = later.first }
    ]
  where
    by : (kind : PartKind) → q.kind ≡ kind → Contains (number_within q.first kind) e → OwnerAt (q ∷ ps) e
    by (part.Elementary (component.Integer initial)) is own = none_in e own
    by (part.Elementary (component.Boolean initial)) is own = none_in e own
    by (part.Elementary (component.Access access)) is own =
        elim (cons_cases q.first e [] own) [
          | inl same ↦ record { number = 0; p = q; access = access; at = refl; is = is; first = same }
          | inr more ↦ none_in e more
        ]
    by (part.Record t) is own = none_in e own
    by part.Parent is own = none_in e own

-- Where some declared components have numbers as those of access types, one is of such a type.
numbers_own : (ps : List PartForm) → access_numbers ps ≢ [] → list_any (λ c. is_owning_part c.kind) ps ≡ true
numbers_own [] some = absurd (some refl)
numbers_own (q ∷ ps) some = by q.kind refl (λ more. numbers_own ps more)
  where
    go : (b : Bool) → list_any (λ c. is_owning_part c.kind) ps ≡ true → (b || list_any (λ c. is_owning_part c.kind) ps) ≡ true
    go true more = refl
    go false more = more

    later :
        number_within q.first q.kind ≡ [] → (access_numbers ps ≢ [] → list_any (λ c. is_owning_part c.kind) ps ≡ true)
        → list_any (λ c. is_owning_part c.kind) (q ∷ ps) ≡ true
    later none again = go (is_owning_part q.kind) (again (λ e. some (ap (λ (xs : List ℕ). xs ++ access_numbers ps) none ∙ e)))

    by :
        (kind : PartKind) → q.kind ≡ kind → (access_numbers ps ≢ [] → list_any (λ c. is_owning_part c.kind) ps ≡ true)
        → list_any (λ c. is_owning_part c.kind) (q ∷ ps) ≡ true
    by (part.Elementary (component.Integer initial)) is again = later (ap (number_within q.first) is) again
    by (part.Elementary (component.Boolean initial)) is again = later (ap (number_within q.first) is) again
    by (part.Elementary (component.Access access)) is again =
        ap (λ (kind : PartKind). is_owning_part kind || list_any (λ c. is_owning_part c.kind) ps) is
    by (part.Record t) is again = later (ap (number_within q.first) is) again
    by part.Parent is again = later (ap (number_within q.first) is) again

-- Components that stand in a row end behind where they begin.
row_up : (types : List TypeForm) (from : ℕ) (ps : List PartForm) (count : ℕ) → stand_in_a_row types from ps count ≡ true → from ≤ count
row_up types from [] count row = let same = eqb-true from count row in omega (arith, same)
row_up types from (q ∷ ps) count row =
    let later = stand_in_a_row types (from + size_of_part types q.kind) ps count in
    let more = row_up types (from + size_of_part types q.kind) ps count (and_parts (is_parent q.kind || (q.first == from)) later row).1 in
    omega (arith, more)

-- Each declared component of them lies behind those before it, and within what is counted.
row_at :
    (types : List TypeForm) (from : ℕ) (ps : List PartForm) (count i : ℕ) (p : PartForm) → stand_in_a_row types from ps count ≡ true → slice_get ps i ≡ Some p
    → is_parent p.kind ≡ false → (from ≤ p.first) × (p.first + size_of_part types p.kind ≤ count)
row_at types from [] count i p row at own = absurd (cc at)
row_at types from (q ∷ ps) count zero p row at own =
    let one : q ≡ p = cc at in
    let both = and_parts (is_parent q.kind || (q.first == from)) (stand_in_a_row types (from + size_of_part types q.kind) ps count) row in
    let none : is_parent q.kind ≡ false = ap (λ (s : PartForm). is_parent s.kind) one ∙ own in
    let here = eqb-true q.first from (or_true (is_parent q.kind) (q.first == from) both.0 none) in
    let more = row_up types (from + size_of_part types q.kind) ps count both.1 in
    subst (λ (s : PartForm). (from ≤ s.first) × (s.first + size_of_part types s.kind ≤ count)) one (omega (arith, here), omega (arith, here, more))
row_at types from (q ∷ ps) count (suc i) p row at own =
    let both = and_parts (is_parent q.kind || (q.first == from)) (stand_in_a_row types (from + size_of_part types q.kind) ps count) row in
    let later = row_at types (from + size_of_part types q.kind) ps count i p both.1 at own in
    let least = later.0 in
    (omega (arith, least), later.1)

-- Declared components that have one elementary component in common are one.
shared_row :
    (types : List TypeForm) (from : ℕ) (ps : List PartForm) (count i j c : ℕ) (p q : PartForm) → stand_in_a_row types from ps count ≡ true
    → slice_get ps i ≡ Some p → slice_get ps j ≡ Some q → is_parent p.kind ≡ false → is_parent q.kind ≡ false
    → p.first ≤ c → c < p.first + size_of_part types p.kind → q.first ≤ c → c < q.first + size_of_part types q.kind → p ≡ q
shared_row types from [] count i j c p q row at there own other low high least most = absurd (cc at)
shared_row types from (r ∷ ps) count zero zero c p q row at there own other low high least most = cc (at, there)
shared_row types from (r ∷ ps) count zero (suc j) c p q row at there own other low high least most =
    let one : r ≡ p = cc at in
    let both = and_parts (is_parent r.kind || (r.first == from)) (stand_in_a_row types (from + size_of_part types r.kind) ps count) row in
    let none : is_parent r.kind ≡ false = ap (λ (s : PartForm). is_parent s.kind) one ∙ own in
    let here = eqb-true r.first from (or_true (is_parent r.kind) (r.first == from) both.0 none) in
    let later = (row_at types (from + size_of_part types r.kind) ps count j q both.1 there other).0 in
    let end : c < r.first + size_of_part types r.kind = subst (λ (s : PartForm). c < s.first + size_of_part types s.kind) (sym one) high in
    absurd (omega (arith, here, later, end, least))
shared_row types from (r ∷ ps) count (suc i) zero c p q row at there own other low high least most =
    let one : r ≡ q = cc there in
    let both = and_parts (is_parent r.kind || (r.first == from)) (stand_in_a_row types (from + size_of_part types r.kind) ps count) row in
    let none : is_parent r.kind ≡ false = ap (λ (s : PartForm). is_parent s.kind) one ∙ other in
    let here = eqb-true r.first from (or_true (is_parent r.kind) (r.first == from) both.0 none) in
    let later = (row_at types (from + size_of_part types r.kind) ps count i p both.1 at own).0 in
    let end : c < r.first + size_of_part types r.kind = subst (λ (s : PartForm). c < s.first + size_of_part types s.kind) (sym one) most in
    absurd (omega (arith, here, later, end, low))
shared_row types from (r ∷ ps) count (suc i) (suc j) c p q row at there own other low high least most =
    shared_row types (from + size_of_part types r.kind) ps count i j c p q
    (and_parts (is_parent r.kind || (r.first == from)) (stand_in_a_row types (from + size_of_part types r.kind) ps count) row).1
    at there own other low high least most

module _ (types : List TypeForm) (rows : AreCopiedInOrder types) where
  -- The components of a record stand in a row.
  row_of :
      (t : ℕ) (name : List ℕ) (ps : List PartForm) (components : List ComponentKind) (o : Option Finalization)
      → slice_get types t ≡ Some (record_of name ps components o) → stand_in_a_row types 0 ps (length components) ≡ true
  row_of t name ps components o at =
      (and_parts (stand_in_a_row types 0 ps (length components)) (adjusts_itself ps o)
      (passed_at (is_copied_in_order types) types t (record_of name ps components o) rows.copied_in_order at)).0

  -- The components of a record that lies in another are among those of the other.
  pub walked_sizes :
      (t first k u : ℕ) → Walks types t first k u → first + count_found (record_components types u) ≤ count_found (record_components types t)
  walked_sizes t _ _ _ ends = omega arith
  walked_sizes t _ _ u (into i first k _ m name ps components f p v at there is known walks) =
      let inside = walked_sizes v.0 first k u walks in
      let row = row_of t name ps components (Some f) at in
      let last = (row_at types 0 ps (length components) i p row there (ap is_parent is)).1 in
      let size : size_of_part types p.kind ≡ count_found (record_components types v.0) = ap (size_of_part types) is in
      let count : count_found (record_components types t) ≡ length components = ap (λ (o : Option TypeForm). count_found (components_in o)) at in
      omega (arith, inside, last, size, count)

  -- A component of an access type that a record declares is one of its components.
  pub owner_below : (w e : ℕ) → IsControlled types w → Contains (declared_owners types w) e → e < count_found (record_components types w)
  owner_below w e own has =
      let found = owner_at own.parts e (subst (λ (o : Option TypeForm). Contains (access_numbers (shown_parts o)) e) own.declared has) in
      let row = row_of w own.name own.parts own.components (Some own.finalization) own.declared in
      let last = (row_at types 0 own.parts (length own.components) found.number found.p row found.at (ap is_parent found.is)).1 in
      let size : size_of_part types found.p.kind ≡ 1 = ap (size_of_part types) found.is in
      let count : count_found (record_components types w) ≡ length own.components = ap (λ (o : Option TypeForm). count_found (components_in o)) own.declared in
      let first = found.first in
      omega (arith, last, size, count, first)

  -- Where the number of a controlled record is none of another's parts, the components of access types that it declares are none of the other's.
  pub owners_apart :
      (a first k u other l w e d : ℕ) → IsControlled types w → Walks types a first k u → Walks types a other l w
      → (l < k) ⊎ (k + part_count types u ≤ l) → Contains (declared_owners types w) e → d < count_found (record_components types u) → first + d ≡ other + e → ⊥
  owners_apart a _ _ _ other l w e d own ends others outside has less same =
      let inside = walked_counts types rows.types_fit a other l w others in
      let some = controlled_counts types rows.types_fit w own in
      elim outside [ inl low ↦ absurd (omega (arith, low)) | inr high ↦ absurd (omega (arith, high, inside, some)) ]
  owners_apart a _ _ u other l w e d own (into i first k _ m name ps components f p v at there is known walks) others outside has less same =
      by other l w own others outside has same
      (λ x y z its more beyond owns alike. owners_apart v.0 first k u x y z e d its walks more beyond owns less alike)
    where
      row : stand_in_a_row types 0 ps (length components) ≡ true
      row = row_of a name ps components (Some f) at

      size : size_of_part types p.kind ≡ count_found (record_components types v.0)
      size = ap (size_of_part types) is

      inside : first + count_found (record_components types u) ≤ count_found (record_components types v.0)
      inside = walked_sizes v.0 first k u walks

      by : (x y z : ℕ) → IsControlled types z → Walks types a x y z → (y < p.part + k) ⊎ (p.part + k + part_count types u ≤ y)
          → Contains (declared_owners types z) e → p.first + first + d ≡ x + e
          → ((x y z : ℕ) → IsControlled types z → Walks types v.0 x y z → (y < k) ⊎ (k + part_count types u ≤ y) → Contains (declared_owners types z) e
          → first + d ≡ x + e → ⊥)
          → ⊥
      by _ _ z its ends beyond owns alike more =
          let found = owner_at ps e (subst (λ (o : Option TypeForm). Contains (access_numbers (shown_parts o)) e) at owns) in
          let one_wide : size_of_part types found.p.kind ≡ 1 = ap (size_of_part types) found.is in
          let begins = found.first in
          let one = shared_row types 0 ps (length components) i found.number (p.first + first + d) p found.p row there found.at
          (ap is_parent is) (ap is_parent found.is) (omega arith) (omega (arith, less, size, inside)) (omega (arith, alike, begins))
          (omega (arith, alike, begins, one_wide)) in
          let kinds : part.Record v ≡ part.Elementary (component.Access found.access) = sym is ∙ ap (λ (s : PartForm). s.kind) one ∙ found.is in
          absurd (cc kinds)
      by _ _ z its (into j x y _ n name_two qs components_two g q b at_two there_two is_two known_two further) beyond owns alike more =
          let same_parts : ps ≡ qs = ap shown_parts (sym at ∙ at_two) in
          let below = owner_below z e its owns in
          let inside_two = walked_sizes b.0 x y z further in
          let size_two : size_of_part types q.kind ≡ count_found (record_components types b.0) = ap (size_of_part types) is_two in
          let one = shared_row types 0 ps (length components) i j (p.first + first + d) p q row there
          (ap (λ (rs : List PartForm). slice_get rs j) same_parts ∙ there_two) (ap is_parent is) (ap is_parent is_two) (omega arith)
          (omega (arith, less, size, inside)) (omega (arith, alike)) (omega (arith, alike, below, inside_two, size_two)) in
          let kinds : part.Record b ≡ part.Record v = sym is_two ∙ ap (λ (s : PartForm). s.kind) (sym one) ∙ is in
          let type : b ≡ v = cc kinds in
          let before : p.first ≡ q.first = ap (λ (s : PartForm). s.first) one in
          let number : p.part ≡ q.part = ap (λ (s : PartForm). s.part) one in
          more x y z its (subst (λ (t : TypeNo). Walks types t.0 x y z) type further)
          (elim beyond [ inl low ↦ inl (omega (arith, number, low)) | inr high ↦ inr (omega (arith, number, high)) ])
          owns (omega (arith, before, alike))

  -- The same of records that lie in an object.
  pub owners_apart_object :
      (object : Option ℕ) (first k u other l w e d : ℕ) → IsControlled types w → WalksTo types object (Some u) first k
      → WalksTo types object (Some w) other l → (l < k) ⊎ (k + part_count types u ≤ l) → Contains (declared_owners types w) e
      → d < count_found (record_components types u) → first + d ≡ other + e → ⊥
  owners_apart_object None first k u other l w e d own walks others outside has less same = absurd walks
  owners_apart_object (Some a) first k u other l w e d own walks others outside has less same =
      owners_apart a first k u other l w e d own walks others outside has less same

-- A declared component of an access type holds access values.
kind_at :
    (types : List TypeForm) (components : List ComponentKind) (p : PartForm) (e : ℕ) (access : TypeNo) → component_lies types components p ≡ true
    → p.kind ≡ part.Elementary (component.Access access) → p.first ≡ e → kind_among (Some components) e ≡ Some (variable.Access access)
kind_at types components p e access lies is first =
    let one : has_record_at (Some components) p.first (Some (component.Access access ∷ [])) ≡ true =
    ap (λ (k : PartKind). has_record_at (Some components) p.first (components_within types k)) (sym is) ∙ lies in
    let sum : e ≡ p.first + 0 = omega (arith, first) in
    ap (kind_among (Some components)) sum ∙ inside_kind (Some components) (Some (component.Access access ∷ [])) p.first 0 (variable.Access access) one refl

-- So does each component of an access type that a controlled record declares.
pub owner_kind :
    (types : List TypeForm) → list_all (components_lie types) types ≡ true → (w e : ℕ) → IsControlled types w → Contains (declared_owners types w) e
    → (a : TypeNo) × (kind_among (record_components types w) e ≡ Some (variable.Access a))
owner_kind types lie w e own has = go (owner_at own.parts e (subst (λ (o : Option TypeForm). Contains (access_numbers (shown_parts o)) e) own.declared has))
  where
    all : list_all (component_lies types own.components) own.parts ≡ true
    all = passed_at (components_lie types) types w (record_of own.name own.parts own.components (Some own.finalization)) lie own.declared

    go : OwnerAt own.parts e → (a : TypeNo) × (kind_among (record_components types w) e ≡ Some (variable.Access a))
    go found =
        let one = passed_at (component_lies types own.components) own.parts found.number found.p all found.at in (
          found.access,
          ap (λ (o : Option TypeForm). kind_among (components_in o) e) own.declared
              ∙ kind_at types own.components found.p e found.access one found.is found.first,
        )

-- A controlled part of an object is a record that lies in it, from this component on; its components of access types are those of its type.
pub record PartPlaced (types : List TypeForm) (access of part : ℕ) : Type 0 where
  pub record_type : ℕ
  pub base : ℕ
  pub controlled : IsControlled types record_type
  pub numbered : shown_number types (Some record_type) ≡ Some of
  pub walk : WalksTo types (object_named types (Some access)) (Some record_type) base part
  pub starts : slice_get (firsts_known types access) part ≡ Some base
  pub lies : has_record_at (reached_components types access) base (record_components types record_type) ≡ true
  pub owners : part_owners types access (record { of = of; number = part }) ≡ shifted base (declared_owners types record_type)

-- It lies in a record that lies there, behind so many components and controlled parts.
pub record PartWithin (types : List TypeForm) (access r first part of number : ℕ) : Type 0 where
  pub placed : PartPlaced types access of number
  pub before : ℕ
  pub count : ℕ
  pub walks : Walks types r before count placed.record_type
  pub first_so : placed.base ≡ first + before
  pub part_so : number ≡ part + count

-- The record itself is a part of it, if it is controlled.
own_alone : (s : Shape) (n first : ℕ) (p : Part) → Contains (own_part s n first) p → (record { of = n; number = first } ≡ p) × (s.controlled ≡ true)
own_alone s n first p has = go s.controlled refl has
  where
    go : (b : Bool) → s.controlled ≡ b → Contains (if b then record { of = n; number = first } ∷ [] else []) p
        → (record { of = n; number = first } ≡ p) × (s.controlled ≡ true)
    go true is has = elim (cons_cases (record { of = n; number = first }) p [] has) [ inl e ↦ (e, is) | inr more ↦ none_in p more ]
    go false is has = none_in p has

-- The controlled parts of a shape are counted alike.
same_parts : (shapes : List Shape) (o : Option ℕ) → known_parts shapes o ≡ parts_for shapes o
same_parts shapes None = refl
same_parts shapes (Some n) = refl

module _ (program : Program) (well : IsWellFormed (program_form program)) where
  -- The types of the program.
  abbrev types : List TypeForm
  types = (program_form program).types

  -- Its types as finalization sees them.
  abbrev shapes : List Shape
  shapes = shown_shapes (program_form program).types

  -- A record has as many controlled parts as its shape says.
  pub parts_alike : (t n : ℕ) → shown_number types (Some t) ≡ Some n → part_count types t ≡ parts_of shapes n
  parts_alike t n is =
      let items = program.types.items in
      record_counted items types t refl well.types_fit ∙ ap (parts_for (shapes_of items)) (same_number items t ∙ is)
      ∙ ap (λ (all : List Shape). parts_of all n) (sym (shapes_shown items types refl))

  -- The type of a number is the one that has it.
  pub type_numbered : (u m : ℕ) → IsControlled types u → shown_number types (Some u) ≡ Some m → shown_numbered types m ≡ slice_get types u
  type_numbered u m c is =
      let own : Some c.finalization.number.0 ≡ Some m = ap (λ (o : Option TypeForm). number_in (finalization_in o)) (sym c.declared) ∙ is in
      let number : c.finalization.number.0 ≡ m = cc own in
      let said = alone_said types well.types_fit u c.name c.parts c.components c.finalization c.declared in
      let found = found_one (λ t. has_number c.finalization.number.0 (finalization_in (Some t))) types u
      (record_of c.name c.parts c.components (Some c.finalization)) said.1 c.declared (same c.finalization.number.0) in
      ap (λ (n : ℕ). shown_numbered types n) (sym number) ∙ found ∙ sym c.declared
    where
      same : (n : ℕ) → (n == n) ≡ true
      same n = elim (eqb_tells n n) [ inl h ↦ h.0 | inr h ↦ absurd (h.1 refl) ]

  -- The parts of a record that lies in an object are records that lie in it.
  lies_with :
      (access fuel n first : ℕ) → n < fuel → n < length shapes → Lies types access n first → (p : Part) → Contains (parts_at shapes n first) p
      → IsOperable types access p.of p.number
  lies_with access zero n first less known lies p has = absurd (omega (arith, less))
  lies_with access (suc fuel) n first less known lies p has =
      elim (Contains-append_cases (own_part (shape_of shapes n) n first) (flat_map (λ (c : Component). parts_at shapes c.of c.first) (components_of shapes n first)) p step) [
        | inl own ↦
            let alone = own_alone (shape_of shapes n) n first p own in
            subst (λ (q : Part). IsOperable types access q.of q.number) alone.0 (lies, alone.1)
        | inr within ↦
            let c = flat_cases (λ (c : Component). parts_at shapes c.of c.first) (components_of shapes n first) p within in
            let below = contained (λ (d : Component). d.of < n) (components_of shapes n first) c.one all c.is_in in
            let index = c.is_in.0 in
            let at : slice_get (components_of shapes n first) index ≡ Some c.one =
            read_within (components_of shapes n first) index c.one c.is_in.1 ∙ ap (λ (d : Component). Some d) c.is_in.2 in
            lies_with access fuel c.one.of c.one.first (omega (arith, less, below)) (omega (arith, known, below))
            (inner n first index c.one lies at) p c.has
      ]
    where
      step : Contains (own_part (shape_of shapes n) n first ++ flat_map (λ (c : Component). parts_at shapes c.of c.first) (components_of shapes n first)) p
      step = subst (λ (ps : List Part). Contains ps p) (at_step shapes n first (shapes_table program well) known) has

      earlier : All (λ t. t < n) (shape_of shapes n).components
      earlier = all_contained (λ t. t < n) (shape_of shapes n).components (λ t is_in. (shapes_table program well).earlier n t known is_in)

      all : All (λ (d : Component). d.of < n) (components_of shapes n first)
      all =
          order_types (λ (d : Component). d.of < n) (parts_of shapes) (shape_of shapes n).components (first + own_parts (shape_of shapes n))
          (λ k d lt q. earlier k d lt)

  -- An object has as many controlled parts as are known to begin somewhere in it.
  firsts_counted : (access : ℕ) → parts_named types (object_named types (Some access)) ≡ length (firsts_known types access)
  firsts_counted access =
      let items = program.types.items in
      parts_counted items types access refl well.types_fit ∙ parts_shown items types access refl
      ∙ sym (same_parts (shapes_of items) (number_reached items access)) ∙ sym (as_many_firsts items (number_reached items access))
      ∙ ap length (sym (known_firsts items types access refl))

  -- The number of a controlled record that lies in an object is one of them.
  part_within : (object : Option ℕ) (u base part : ℕ) → IsControlled types u → WalksTo types object (Some u) base part → part < parts_named types object
  part_within None u base part c walk = absurd walk
  part_within (Some a) u base part c walk =
      let some = controlled_counts types well.types_fit u c in
      let inside = walked_counts types well.types_fit a base part u walk in
      omega (arith, some, inside)

  -- A record whose operations can be called is placed, as it is found.
  lies_placed :
      (access of part : ℕ) → IsOperable types access of part → (l : LiesAt program.types.items access of part) → PartPlaced types access of part
  lies_placed access of part operable l = record {
    record_type = l.record_type;
    base = base;
    controlled = c;
    numbered = is;
    walk = there.1.1 (controlled_counts types well.types_fit l.record_type c);
    starts = at;
    lies = there.0;
    owners = ap (λ (o : Option TypeForm). shifted base (access_numbers (shown_parts o))) (type_numbered l.record_type of c is);
  }
    where
      base : ℕ
      base = slice_index_or (firsts_known types access) part 0

      is : shown_number types (Some l.record_type) ≡ Some of
      is = sym (same_number program.types.items l.record_type) ∙ l.numbered

      c : IsControlled types l.record_type
      c = controlled_as_shown types well.types_fit l.record_type of is operable.1

      at : slice_get (firsts_known types access) part ≡ Some base
      at =
          let count = firsts_counted access in
          let within = part_within (object_named types (Some access)) l.record_type l.first part c l.walk in
          read_within (firsts_known types access) part 0 (omega (arith, count, within))

      there :
          (has_record_at (reached_components types access) base (record_components types l.record_type) ≡ true)
          × PartsLie types (object_named types (Some access)) (Some l.record_type) base part
      there = parts_are_records program well access of part base l.record_type operable at is

  -- So each record whose operations can be called is placed.
  pub operable_placed : (access of part : ℕ) → IsOperable types access of part → PartPlaced types access of part
  operable_placed access of part operable = lies_placed access of part operable (lies_at program well access of part operable.0)

  -- What is left of the adjustment of a copy are parts of it.
  left_part :
      (access r : ℕ) (tasks : List Task) (l : CopyLeft types access r tasks) (p : Part) → Contains (parts_left shapes tasks) p
      → Contains (parts_at shapes l.of l.part) p
  left_part access r tasks l p has = (treated_left program well access r tasks l).1.left_of p has

  -- They are placed in the object.
  pub left_placed :
      (access r : ℕ) (tasks : List Task) → CopyLeft types access r tasks → (p : Part) → Contains (parts_left shapes tasks) p → PartPlaced types access p.of p.number
  left_placed access r tasks l p has =
      operable_placed access p.of p.number
      (lies_with access (suc l.of) l.of l.part (omega arith) (number_known types well.types_fit r l.of l.numbered) (placed r l.of l.first l.part l.numbered l.lies) p
      (left_part access r tasks l p has))

  -- Their numbers are those of parts of the copy.
  pub bounds_left :
      (access r : ℕ) (tasks : List Task) (l : CopyLeft types access r tasks) (p : Part) → Contains (parts_left shapes tasks) p
      → (l.part ≤ p.number) × (p.number < l.part + part_count types r)
  bounds_left access r tasks l p has =
      let all = left_part access r tasks l p has in
      let among = subst (λ (ns : List ℕ). Contains ns p.number) (numbered shapes l.of l.part) (number_among (parts_at shapes l.of l.part) p all) in
      let bounds = range_bounds l.part (parts_of shapes l.of) p.number among in
      let count = parts_alike r l.of l.numbered in
      let high = bounds.1 in
      (bounds.0, omega (arith, high, count))

  -- They are records that lie in the copy.
  pub left_within :
      (access r : ℕ) (tasks : List Task) (l : CopyLeft types access r tasks) (p : Part) → Contains (parts_left shapes tasks) p
      → PartWithin types access r l.first l.part p.of p.number
  left_within access r tasks l p has = go (left_placed access r tasks l p has) (bounds_left access r tasks l p has)
    where
      go : PartPlaced types access p.of p.number → (l.part ≤ p.number) × (p.number < l.part + part_count types r)
          → PartWithin types access r l.first l.part p.of p.number
      go there bounds =
          let within = lies_within_object types well.types_fit (object_named types (Some access)) l.first l.part r there.base p.number there.record_type
          there.controlled l.lies there.walk bounds.0 bounds.1 in
          record {
            placed = there;
            before = within.before;
            count = within.number;
            walks = within.walk;
            first_so = within.first_so;
            part_so = within.part_so;
          }

  -- What is called lies in the record that was copied.
  pub called_there :
      (access r of part : ℕ) (tasks : List Task) (l : CopyLeft types access r (performs of part ∷ tasks)) → PartWithin types access r l.first l.part of part
  called_there access r of part tasks l =
      let p : Part = record { of = of; number = part } in
      left_within access r (performs of part ∷ tasks) l p (head_in p (parts_left shapes tasks))

  -- If a part that is left declares components of access types, its Adjust sees to them.
  sees_within :
      (access r of part : ℕ) (tasks : List Task) (l : CopyLeft types access r tasks) → PartWithin types access r l.first l.part of part
      → owners_numbered types of ≢ [] → (u : ℕ) × SeesToOwners types u of
  sees_within access r of part tasks l within some = go within
    where
      number : (u : ℕ) (c : IsControlled types u) → shown_number types (Some u) ≡ Some of → c.finalization.number.0 ≡ of
      number u c is =
          let own : Some c.finalization.number.0 ≡ Some of = ap (λ (o : Option TypeForm). number_in (finalization_in o)) (sym c.declared) ∙ is in
          cc own

      owns : (u : ℕ) (c : IsControlled types u) → shown_number types (Some u) ≡ Some of → list_any (λ d. is_owning_part d.kind) c.parts ≡ true
      owns u c is =
          numbers_own c.parts (λ none. some (ap (λ (o : Option TypeForm). access_numbers (shown_parts o)) (type_numbered u of c is ∙ c.declared) ∙ none))

      go : PartWithin types access r l.first l.part of part → (u : ℕ) × SeesToOwners types u of
      go w =
          let u = w.placed.record_type in
          let c = w.placed.controlled in
          (u, subst (SeesToOwners types u) (number u c w.placed.numbered) (l.sees.sees u w.before w.count c w.walks (owns u c w.placed.numbered)))

  pub left_sees :
      (access r : ℕ) (tasks : List Task) → CopyLeft types access r tasks → (p : Part) → Contains (parts_left shapes tasks) p → owners_numbered types p.of ≢ []
      → (u : ℕ) × SeesToOwners types u p.of
  left_sees access r tasks l p has some = sees_within access r p.of p.number tasks l (left_within access r tasks l p has) some

  -- So it is with what is called.
  pub called_sees :
      (access r of part : ℕ) (tasks : List Task) → CopyLeft types access r (performs of part ∷ tasks) → owners_numbered types of ≢ []
      → (u : ℕ) × SeesToOwners types u of
  called_sees access r of part tasks l some = sees_within access r of part (performs of part ∷ tasks) l (called_there access r of part tasks l) some

  -- What is called is not left.
  pub not_left :
      (access r of part : ℕ) (tasks : List Task) → CopyLeft types access r (performs of part ∷ tasks) → (q : Part) → Contains (parts_left shapes tasks) q
      → q.number ≢ part
  not_left access r of part tasks l q has same =
      let t = treated_left program well access r (performs of part ∷ tasks) l in
      let none = (not_yet shapes PartsFirst (parts_at shapes l.of l.part) t.0 (record { of = of; number = part }) tasks t.1).2 in
      let among = number_among (parts_left shapes tasks) q has in
      let some = count_has part (parts_left shapes tasks) (subst (λ (n : ℕ). Contains (numbers (parts_left shapes tasks)) n) same among) in
      omega (arith, none, some)

  -- Neither is what lies in it.
  pub inside_not_left :
      (access r of part : ℕ) (tasks : List Task) → CopyLeft types access r (performs of part ∷ tasks) → (q : Part) → Contains (parts_left shapes tasks) q
      → part < q.number → q.number < part + parts_of shapes of → ⊥
  inside_not_left access r of part tasks l q has behind within =
      let t = treated_left program well access r (performs of part ∷ tasks) l in
      let inside : LiesIn shapes q.number (record { of = of; number = part }) = record { behind = behind; within = within } in
      let none = inside_gone shapes (parts_at shapes l.of l.part) t.0 of part tasks t.1 q.number inside in
      let some = count_has q.number (parts_left shapes tasks) (number_among (parts_left shapes tasks) q has) in
      omega (arith, none, some)

  -- A component is hidden that a part declares which is left.
  pub record HiddenOf (access : ℕ) (parts : List Part) (c : ℕ) : Type 0 where
    pub part : Part
    pub left : Contains parts part
    pub placed : PartPlaced types access part.of part.number
    pub declared : ℕ
    pub owned : Contains (declared_owners types placed.record_type) declared
    pub is : c ≡ placed.base + declared

  -- Each component that is hidden is one of such a part.
  pub hidden_of :
      (access r : ℕ) (tasks : List Task) → CopyLeft types access r tasks → (c : ℕ) → Contains (owners_left types access tasks) c
      → HiddenOf access (parts_left shapes tasks) c
  hidden_of access r tasks l c has = go (flat_cases (part_owners types access) (parts_left shapes tasks) c has)
    where
      by : (p : Part) → Contains (parts_left shapes tasks) p → Contains (part_owners types access p) c → PartPlaced types access p.of p.number
          → HiddenOf access (parts_left shapes tasks) c
      by p is_in own there =
          let shift = shifted_cases there.base (declared_owners types there.record_type) c (subst (λ (cs : List ℕ). Contains cs c) there.owners own) in
          record { part = p; left = is_in; placed = there; declared = shift.0; owned = shift.1; is = shift.2 }

      go : InSome (part_owners types access) (parts_left shapes tasks) c → HiddenOf access (parts_left shapes tasks) c
      go some = by some.one some.is_in some.has (left_placed access r tasks l some.one some.is_in)

  -- It is one of the object, of an access type.
  pub left_of_access :
      (access r : ℕ) (tasks : List Task) → CopyLeft types access r tasks → (c : ℕ) → Contains (owners_left types access tasks) c
      → (a : TypeNo) × (kind_among (reached_components types access) c ≡ Some (variable.Access a))
  left_of_access access r tasks l c has = go (hidden_of access r tasks l c has)
    where
      by : (base e w : ℕ) → has_record_at (reached_components types access) base (record_components types w) ≡ true → c ≡ base + e
          → (a : TypeNo) × (kind_among (record_components types w) e ≡ Some (variable.Access a))
          → (a : TypeNo) × (kind_among (reached_components types access) c ≡ Some (variable.Access a))
      by base e w lies is (a, kind) = (
        a,
        ap (kind_among (reached_components types access)) is
            ∙ inside_kind (reached_components types access) (record_components types w) base e (variable.Access a) lies kind,
      )

      go : HiddenOf access (parts_left shapes tasks) c → (a : TypeNo) × (kind_among (reached_components types access) c ≡ Some (variable.Access a))
      go h =
          by h.placed.base h.declared h.placed.record_type h.placed.lies h.is
          (owner_kind types well.components_lie h.placed.record_type h.declared h.placed.controlled h.owned)

  -- No component that is left to be adjusted lies in the record whose Adjust is called.
  pub beside :
      AreCopiedInOrder types → (access r of part : ℕ) (tasks : List Task) → CopyLeft types access r (performs of part ∷ tasks)
      → (u base : ℕ) → shown_number types (Some u) ≡ Some of → WalksTo types (object_named types (Some access)) (Some u) base part
      → (d : ℕ) → d < count_found (record_components types u) → Contains (owners_left types access tasks) (base + d) → ⊥
  beside rows access r of part tasks l u base is walk d less has =
      go (hidden_of access r tasks (left_called types access r (performs of part ∷ tasks) l of part refl) (base + d) has)
    where
      outside : (q : Part) → Contains (parts_left shapes tasks) q → (q.number < part) ⊎ (part + part_count types u ≤ q.number)
      outside q is_in =
          let count = parts_alike u of is in
          let apart = not_left access r of part tasks l q is_in in
          let inside = inside_not_left access r of part tasks l q is_in in
          elim (cases_lt q.number part) [
            | inl low ↦ inl low
            | inr past ↦
                elim (cases_lt q.number (part + part_count types u)) [
                  | inl within ↦ absurd (inside (omega (arith, past, apart)) (omega (arith, within, count)))
                  | inr high ↦ inr high
                ]
          ]

      go : HiddenOf access (parts_left shapes tasks) (base + d) → ⊥
      go h =
          owners_apart_object types rows (object_named types (Some access)) base part u h.placed.base h.part.number h.placed.record_type h.declared d
          h.placed.controlled walk h.placed.walk (outside h.part h.left) h.owned less h.is
