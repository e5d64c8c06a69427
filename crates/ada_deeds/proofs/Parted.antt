-- An operation of the controlled parts of a record does something only where the objects of its type have such parts (7.6).

use Rattle.std.proofs.Common.{◌≡◌, ℕ, ◌+◌, ◌<◌, ◌≤◌, Bool, true, ◌&&◌, ◌==◌, List, [], ◌∷◌, refl, sym, ap, ◌∙◌, inl, inr, arith}
use Rattle.std.proofs.lemmas.Bool.{or_cases, eqb-true, ltb-true}
use Rattle.std.specs.List.{list_all, slice_get}
use Rattle.std.specs.Prelude.{Option, Some, None, is_some, nat_lt}
use Rattle.ada_deeds.specs.Does.{operations_do, Does}
use Rattle.ada_deeds.specs.Forms.{part_does, components_do}
use Rattle.ada_deeds.specs.Laws.{IsClosed}
use Rattle.ada_deeds.specs.declared.deed.Callee.{Callee}
use Rattle.ada_deeds.specs.declared.deed.Callee.TheVariants as callee
use Rattle.ada_deeds.specs.declared.deed.Deed.{Deed}
use Rattle.ada_deeds.specs.declared.deed.Operation.{Operation}
use Rattle.ada_deeds.proofs.More.{least}
use Rattle.ada_deeds.proofs.Naming.{left_holds, right_holds, all_at}
use Rattle.ada_program.specs.declared.program.ComponentKind.{ComponentKind}
use Rattle.ada_program.specs.declared.program.Finalization.{Finalization}
use Rattle.ada_program.specs.declared.program.PartKind.{PartKind}
use Rattle.ada_program.specs.declared.program.PartKind.TheVariants as part
use Rattle.ada_program.specs.ProgramForm.{PartForm, TypeForm, record_of, access_to, object_of, ProgramForm}
use Rattle.ada_program.specs.WellFormed.{finalization_in, finalization_of, count_said, parts_within, kind_fits, parent_first, parts_in_order, is_of_earlier, says_parts, is_numbered_alone, type_fits}

-- The callees that may do something: procedures, and the operations of types whose objects have controlled parts.
abbrev is_parted : List TypeForm → Callee → Bool
is_parted types (callee.Procedure procedure) = true
is_parted types (callee.Parts operation t) = is_some (finalization_of types t.0)

in_order_upwards : (types : List TypeForm) (count from : ℕ) (ps : List PartForm) → parts_in_order types count from ps ≡ true → from ≤ count
in_order_upwards types count from [] is = let same = eqb-true from count is in omega (arith, same)
in_order_upwards types count from (q ∷ ps) is =
    let behind = parts_in_order types count (from + parts_within types q.kind) ps in
    let more = in_order_upwards types count (from + parts_within types q.kind) ps (right_holds (q.part == from) behind is) in
    omega (arith, more)

module _ (types : List TypeForm) (types_fit : list_all (type_fits types) types ≡ true) where
  -- What the type of a record says of its parts.
  says : (t : TypeForm) → type_fits types t ≡ true → (name : List ℕ) (ps : List PartForm) (components : List ComponentKind) (f : Option Finalization) →
      t ≡ record_of name ps components f → says_parts types f ps ≡ true
  says t fits name ps components f is =
      let kinds = list_all (kind_fits types) components in
      let first = parent_first ps in
      let said = says_parts types f ps in
      right_holds (kinds && first) said (left_holds (kinds && first && said) (is_numbered_alone types f) (ap (type_fits types) (sym is) ∙ fits))

  -- A type whose objects have controlled parts counts some.
  pub counts_in : (u : ℕ) (o : Option TypeForm) → slice_get types u ≡ o → is_some (finalization_in o) ≡ true → 0 < count_said (finalization_in o)
  counts_in u None at is = absurd (cc is)
  counts_in u (Some (record_of name ps components None)) at is = absurd (cc is)
  counts_in u (Some (record_of name ps components (Some f))) at is =
      let form = record_of name ps components (Some f) in
      let said = says form (all_at (type_fits types) types u form types_fit at) name ps components (Some f) refl in
      let some = nat_lt 0 f.parts in
      let ordered = parts_in_order types f.parts 0 ps in
      ltb-true 0 f.parts (left_holds some ordered (left_holds (some && ordered) (list_all (λ p. is_of_earlier types f.number.0 p.kind) ps) said))
  counts_in u (Some (access_to name designated pool)) at is = absurd (cc is)
  counts_in u (Some (object_of record_type)) at is = absurd (cc is)

  part_counts : (kind : PartKind) (operation : Operation) → part_does (is_parted types) operation kind ≡ true → 0 < parts_within types kind
  part_counts (part.Elementary kind) operation is = absurd (cc is)
  part_counts (part.Record u) operation is = counts_in u.0 (slice_get types u.0) refl is
  part_counts part.Parent operation is = absurd (cc is)

  -- So none of the components has, where the record has none.
  no_component : (operation : Operation) (ps : List PartForm) → parts_in_order types 0 0 ps ≡ true → components_do (is_parted types) operation ps ≡ true → ⊥
  no_component operation [] ordered h = absurd (cc h)
  no_component operation (q ∷ ps) ordered h =
      let behind = parts_in_order types 0 (0 + parts_within types q.kind) ps in
      let rest = right_holds (q.part == 0) behind ordered in
      let within = in_order_upwards types 0 (0 + parts_within types q.kind) ps rest in
      let none : 0 + parts_within types q.kind ≡ 0 = omega (arith, within) in
      elim (or_cases (part_does (is_parted types) operation q.kind) (components_do (is_parted types) operation ps) h) [
        | inl here ↦ let some = part_counts q.kind operation here in absurd (omega (arith, some, within))
        | inr later ↦ no_component operation ps (ap (λ (n : ℕ). parts_in_order types 0 n ps) (sym none) ∙ rest) later
      ]

  operations_parted : (u : ℕ) (o : Option TypeForm) (operation : Operation) → slice_get types u ≡ o → operations_do (is_parted types) operation o ≡ true →
      is_some (finalization_in o) ≡ true
  operations_parted u None operation at h = absurd (cc h)
  operations_parted u (Some (record_of name ps components None)) operation at h =
      let form = record_of name ps components None in
      let said = says form (all_at (type_fits types) types u form types_fit at) name ps components None refl in
      absurd (no_component operation ps said h)
  operations_parted u (Some (record_of name ps components (Some f))) operation at h = refl
  operations_parted u (Some (access_to name designated pool)) operation at h = absurd (cc h)
  operations_parted u (Some (object_of record_type)) operation at h = absurd (cc h)

parted_closed : (p : ProgramForm) → list_all (type_fits p.types) p.types ≡ true → (d : Deed) → IsClosed p d (is_parted p.types)
parted_closed p types_fit d (callee.Procedure procedure) h = refl
parted_closed p types_fit d (callee.Parts operation t) h = operations_parted p.types types_fit t.0 (slice_get p.types t.0) operation refl h

-- So an operation does nothing for objects without such parts.
pub does_parted : (p : ProgramForm) → list_all (type_fits p.types) p.types ≡ true → (d : Deed) (operation : Operation) (r : ℕ) → Does p d (callee.Parts operation (record { 0 = r })) →
    is_some (finalization_of p.types r) ≡ true
does_parted p types_fit d operation r h = least p d (is_parted p.types) (parted_closed p types_fit d) (callee.Parts operation (record { 0 = r })) h
