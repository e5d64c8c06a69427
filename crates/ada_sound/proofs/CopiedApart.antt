-- Where a record is copied from another one of its object (5.2, 7.6), the two lie apart.

use Rattle.std.proofs.Common.{◌≡◌, ℕ, ◌+◌, ◌-◌, ◌<◌, ◌≤◌, List, refl, subst, ◌⊎◌, inl, inr, arith}
use Rattle.std.specs.Prelude.{Option, Some}
use Rattle.std.specs.List.{Contains}
use Rattle.std.proofs.lemmas.Bool.{cases_lt}
use Rattle.ada_parts.specs.Law.{parts_left}
use Rattle.ada_parts.specs.Task.{Task}
use Rattle.ada_program.specs.declared.program.Program.{Program}
use Rattle.ada_program.specs.ProgramForm.{TypeForm, program_form}
use Rattle.ada_program.specs.Walks.{Walks}
use Rattle.ada_program.specs.WellFormed.{IsWellFormed, object_named, part_count, parts_named, record_components}
use Rattle.ada_quiet.specs.InUse.{count_found}
use Rattle.ada_typed.specs.Holding.{WalksTo}
use Rattle.ada_typed.proofs.Parts.{shown_shapes}
use Rattle.ada_typed.proofs.Walking.{walks_to}
use Rattle.ada_sound.proofs.CopiedOwners.{CopyLeft, LieApart, LiesOutside, declared_owners, owners_left, part_owners}
use Rattle.ada_sound.proofs.CopyParts.{flat_cases}
use Rattle.ada_sound.proofs.OnlyParts.{IsControlled, controlled_counts, walked_counts}
use Rattle.ada_sound.proofs.OnlyPlaces.{two_walks_object}
use Rattle.ada_sound.proofs.OnlyRows.{AreCopiedInOrder}
use Rattle.ada_sound.proofs.PartsApart.{left_within, shifted_cases, owner_below, owners_apart_object, walked_sizes}

-- A component of a record of this type, by its number, is declared in a controlled record that lies in it, with an access type.
pub record IsOwnerOf (types : List TypeForm) (r d : ℕ) : Type 0 where
  pub owner : ℕ
  pub before : ℕ
  pub count : ℕ
  pub declared : ℕ
  pub controlled : IsControlled types owner
  pub walks : Walks types r before count owner
  pub owned : Contains (declared_owners types owner) declared
  pub is : d ≡ before + declared

module _ (program : Program) (well : IsWellFormed (program_form program)) (rows : AreCopiedInOrder (program_form program).types) where
  abbrev types : List TypeForm
  types = (program_form program).types

  -- So is each that is left to be adjusted, by its number in the copy.
  pub left_is_owner :
      (access r : ℕ) (tasks : List Task) (l : CopyLeft types access r tasks) (c : ℕ) → Contains (owners_left types access tasks) c
      → (d : ℕ) × (c ≡ l.first + d) × IsOwnerOf types r d
  left_is_owner access r tasks l c has =
      let some = flat_cases (part_owners types access) (parts_left (shown_shapes types) tasks) c has in
      let within = left_within program well access r tasks l some.one some.is_in in
      let shift = shifted_cases within.placed.base (declared_owners types within.placed.record_type) c
      (subst (λ (cs : List ℕ). Contains cs c) within.placed.owners some.has) in
      let first = within.first_so in
      let is = shift.2 in (
        within.before + shift.0,
        omega (arith, first, is),
        record {
          owner = within.placed.record_type;
          before = within.before;
          count = within.count;
          declared = shift.0;
          controlled = within.placed.controlled;
          walks = within.walks;
          owned = shift.1;
          is = refl;
        },
      )

  -- Its number is one of the record's.
  pub owner_less : (r d : ℕ) → IsOwnerOf types r d → d < count_found (record_components types r)
  owner_less r d o =
      let inside = walked_sizes types rows r o.before o.count o.owner o.walks in
      let below = owner_below types rows o.owner o.declared o.controlled o.owned in
      let is = o.is in
      omega (arith, inside, below, is)

  -- Where the other record begins, the component of that which has the same number lies outside of the copy.
  pub original_outside :
      (r first to d : ℕ) → 0 < parts_named types (Some r) → LieApart types r first to → IsOwnerOf types r d
      → LiesOutside to (count_found (record_components types r)) (first + d)
  original_outside r first to d some lie o = by (cases_lt (first + d) to) (cases_lt (first + d) (to + count_found (record_components types r)))
    where
      object : Option ℕ
      object = object_named types (Some lie.access)

      one : WalksTo types object (Some r) first lie.part
      one = lie.one_lies.1 some

      other : WalksTo types object (Some r) to lie.other
      other = lie.other_lies.1 some

      number : lie.part + o.count + part_count types o.owner ≤ lie.part + part_count types r
      number = let inside = walked_counts types well.types_fit r o.before o.count o.owner o.walks in omega (arith, inside)

      least : 0 < part_count types o.owner
      least = controlled_counts types well.types_fit o.owner o.controlled

      beyond : (lie.part + o.count < lie.other) ⊎ (lie.other + part_count types r ≤ lie.part + o.count)
      beyond = elim (two_walks_object types well.types_fit object first lie.part r to lie.other one other) [
        | inl same ↦ absurd (lie.apart same)
        | inr apart ↦ elim apart [ inl before ↦ inl (omega (arith, before, number, least)) | inr behind ↦ inr (omega (arith, behind)) ]
      ]

      none : (d' : ℕ) → d' < count_found (record_components types r) → to + d' ≡ first + d → ⊥
      none d' less same =
          let is = o.is in
          owners_apart_object types rows object to lie.other r (first + o.before) (lie.part + o.count) o.owner o.declared d' o.controlled other
          (walks_to types object (Some r) (Some o.owner) first lie.part o.before o.count one o.walks) beyond o.owned less (omega (arith, same, is))

      by : ((first + d) < to) ⊎ (to ≤ (first + d)) → ((first + d) < (to + count_found (record_components types r))) ⊎ ((to + count_found (record_components types r)) ≤ (first + d))
          → LiesOutside to (count_found (record_components types r)) (first + d)
      by (inl before) high = inl before
      by (inr low) (inr behind) = inr behind
      by (inr low) (inl high) = absurd (none ((first + d) - to) (omega (arith, low, high)) (omega (arith, low)))
