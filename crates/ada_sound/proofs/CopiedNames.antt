-- What the components of a copy name that are put aside is there (7.6): those of the original name it, which are not.

use Rattle.std.proofs.Common.{◌≡◌, ◌≢◌, ℕ, ◌+◌, ◌<◌, false, List, refl, sym, ap, subst, ◌∙◌, ◌⊎◌, inl, inr, arith}
use Rattle.std.specs.Prelude.{Some}
use Rattle.std.specs.List.{Contains, slice_get, slice_index_or}
use Rattle.ada_parts.specs.Task.{Task}
use Rattle.ada_program.specs.declared.program.Program.{Program}
use Rattle.ada_program.specs.ProgramForm.{TypeForm, program_form}
use Rattle.ada_program.specs.WellFormed.{IsWellFormed, record_components}
use Rattle.ada_quiet.specs.InUse.{count_found}
use Rattle.ada_meaning.specs.declared.state.Id.{Id}
use Rattle.ada_meaning.specs.declared.state.Value.TheVariants.{Null, Names}
use Rattle.ada_meaning.specs.Named.{Object, object_at}
use Rattle.ada_owners.specs.Keeping.{IsThere}
use Rattle.ada_owners.specs.Places.{is_there}
use Rattle.ada_owners.proofs.Kernel.{same_id}
use Rattle.ada_tracked.specs.Frames.{blank_object, blanked, shifted, values_at}
use Rattle.ada_sound.proofs.Adjusting.{is_one_of}
use Rattle.ada_sound.proofs.AdjustingEnds.{ComponentsAreThere}
use Rattle.ada_sound.proofs.AdjustingEnters.{not_one}
use Rattle.ada_sound.proofs.Blanked.{unblanked}
use Rattle.ada_sound.proofs.CopiedApart.{IsOwnerOf, left_is_owner, original_outside, owner_less}
use Rattle.ada_sound.proofs.CopiedOwners.{AreCopied, CopiedFrom, CopyLeft, LiesOutside, NameThere, NamesThere, hiding, owners_left}
use Rattle.ada_sound.proofs.CopyParts.{names_each}
use Rattle.ada_sound.proofs.Leavings.{get_named}
use Rattle.ada_sound.proofs.OnlyRows.{AreCopiedInOrder}
use Rattle.ada_sound.proofs.PutAside.{aside_here, aside_other, other_stays}

some_same : {x y : Object} → Some x ≡ Some y → x ≡ y
some_same e = cc e

module _
    (program : Program) (well : IsWellFormed (program_form program)) (rows : AreCopiedInOrder (program_form program).types) (access r : ℕ) (tasks : List Task)
    (l : CopyLeft (program_form program).types access r tasks) where
  abbrev types : List TypeForm
  types = (program_form program).types

  abbrev owners : List ℕ
  owners = owners_left types access tasks

  abbrev width : ℕ
  width = count_found (record_components types r)

  -- The original lies outside of the copy, in the same object.
  pub lies_outside :
      (heap : List Object) (o : Id) (x : Object) (copied : CopiedFrom types heap o r l.first owners x.cell.values) (d : ℕ) → Contains owners (l.first + d)
      → o ≡ copied.source → LiesOutside l.first width (copied.first + d)
  lies_outside heap o x copied d has same =
      let own = left_is_owner program well rows access r tasks l (l.first + d) has in
      let is = own.1 in
      let number : own.0 ≡ d = omega (arith, is) in
      original_outside program well rows r copied.first l.first d (l.sees.counts l.of l.numbered) (copied.elsewhere same)
      (subst (λ (n : ℕ). IsOwnerOf types r n) number own.2)

  -- A component that is put aside is one of the copy.
  pub is_less : (d : ℕ) → Contains owners (l.first + d) → d < width
  is_less d has =
      let own = left_is_owner program well rows access r tasks l (l.first + d) has in
      let less = owner_less program well rows r own.0 own.2 in
      let is = own.1 in
      omega (arith, less, is)

  -- So none of the original is put aside.
  not_aside : (first d : ℕ) → LiesOutside l.first width (first + d) → is_one_of owners (first + d) ≡ false
  not_aside first d outside = not_one owners (first + d) (λ has. by outside has)
    where
      by : LiesOutside l.first width (first + d) → Contains owners (first + d) → ⊥
      by apart has =
          let own = left_is_owner program well rows access r tasks l (first + d) has in
          let less = owner_less program well rows r own.0 own.2 in
          let is = own.1 in
          elim apart [ inl before ↦ absurd (omega (arith, before, is)) | inr behind ↦ absurd (omega (arith, behind, is, less)) ]

  pub names_by :
      (heap : List Object) (o : Id) (x : Object) → object_at heap o ≡ Some x → AreCopied types heap o r l.first owners x.cell.values
      → ComponentsAreThere (blanked (hiding owners o) heap) → NameThere heap (values_at owners x.cell.values)
  names_by heap o x found (inl none) are = subst (λ (cs : List ℕ). NameThere heap (values_at cs x.cell.values)) (sym none) tt
  names_by heap o x found (inr copied) are = names_each heap owners x.cell.values each
    where
      aside : List Object
      aside = blanked (hiding owners o) heap

      back : (p : Id) → IsThere (blanked (hiding owners o) heap) p → IsThere heap p
      back p there =
          let y = unblanked (hiding owners o) heap p there.0 there.1 in
          (y.object, y.found, ap is_there y.alike.stage ∙ there.2)

      there_by : (d : ℕ) (p : Id) → (o ≡ copied.source → LiesOutside l.first width (copied.first + d))
          → slice_get copied.object.cell.values (copied.first + d) ≡ Some (Names p) → (copied.source ≡ o) ⊎ (copied.source ≢ o)
          → IsThere (blanked (hiding owners o) heap) p
      there_by d p outside holds (inr ne) =
          are copied.source copied.object
          (aside_other owners o heap copied.source.0 (λ same. ne (ap (λ (n : ℕ). record { 0 = n }) same)) ∙ copied.found) copied.there
          (copied.first + d) (Names p) holds p refl
      there_by d p outside holds (inl same) =
          let one : copied.object ≡ x = some_same (sym copied.found ∙ ap (object_at heap) same ∙ found) in
          are o (blank_object (shifted 0 owners) x) (aside_here owners o heap x found) (ap (λ (y : Object). is_there y.stage) (sym one) ∙ copied.there)
          (copied.first + d) (Names p)
          (other_stays owners (copied.first + d) x.cell.values (not_aside copied.first d (outside (sym same)))
          ∙ (ap (λ (y : Object). slice_get y.cell.values (copied.first + d)) (sym one) ∙ holds)) p refl

      each : (c : ℕ) → Contains owners c → NamesThere heap (slice_index_or x.cell.values c Null)
      each c has p is =
          let own = left_is_owner program well rows access r tasks l c has in
          let here : Contains owners (l.first + own.0) = subst (λ (n : ℕ). Contains owners n) own.1 has in
          let at : slice_get x.cell.values (l.first + own.0) ≡ Some (Names p) = ap (λ (n : ℕ). slice_get x.cell.values n) (sym own.1) ∙ get_named x.cell.values c p is in
          let outside = lies_outside heap o x copied own.0 here in
          back p (there_by own.0 p outside (copied.holds own.0 p here (is_less own.0 here) outside at) (same_id copied.source o))
