-- Where Adjusts see to what a record owns, wherever the record lies in an object (7.6): until they are called, what it owns is hidden.

use Rattle.std.proofs.Common.{◌≡◌, ℕ, zero, suc, ◌+◌, ◌<◌, ◌==◌, Bool, true, false, ◌||◌, List, [], ◌∷◌, length, take, Some, refl, sym, ap, ◌∙◌, subst, arith}
use Rattle.std.specs.List.{Contains, list_any, slice_get, slice_index_or}
use Rattle.std.proofs.lemmas.Bool.{and_parts}
use Rattle.std.proofs.lemmas.List.Sorted.{Contains-permutation}
use Rattle.std.proofs.lemmas.Option.{get_or_from_slice_get}
use Rattle.ada_parts.specs.declared.tasks.Direction.TheVariants.{PartsFirst}
use Rattle.ada_parts.specs.Law.{parts_left}
use Rattle.ada_parts.specs.Part.{Part, parts_at}
use Rattle.ada_parts.specs.Shape.{Shape}
use Rattle.ada_parts.specs.Task.{opened}
use Rattle.ada_parts.proofs.Runs.{left_opened}
use Rattle.ada_program.specs.declared.program.ComponentKind.{ComponentKind}
use Rattle.ada_program.specs.declared.program.ComponentKind.TheVariants as component
use Rattle.ada_program.specs.declared.program.Program.{Program}
use Rattle.ada_program.specs.declared.program.TypeNo.{TypeNo}
use Rattle.ada_program.specs.ProgramForm.{TypeForm, program_form}
use Rattle.ada_program.specs.Walks.{Walks}
use Rattle.ada_program.specs.WellFormed.{IsWellFormed, is_alike, begins_with, object_named}
use Rattle.ada_flow.specs.Flow.{is_owning}
use Rattle.ada_tracked.specs.Frames.{shifted, number_at}
use Rattle.ada_tracked.proofs.Lists.{is_apart}
use Rattle.ada_typed.specs.Holding.{WalksTo}
use Rattle.ada_typed.proofs.Parts.{firsts_known, shown_number, shown_shapes}
use Rattle.ada_typed.proofs.Walking.{walks_to}
use Rattle.ada_sound.proofs.CopiedOwners.{IsHidden, Covered, IsDeclaredWithin, AreDeclaredWithin, AreCovered, declared_owners, owners_numbered, part_owners, owners_left}
use Rattle.ada_sound.proofs.OnlyParts.{IsControlled}
use Rattle.ada_sound.proofs.CopyParts.{shapes_table, tail_in}
use Rattle.ada_sound.proofs.Placed.{flat_in, first_placed, number_known, numbered_as, part_lies_in}

-- What is among some components has a number there.
found_in : (ns : List ℕ) (c n k : ℕ) → k < length ns → slice_index_or ns k c ≡ c → (i : ℕ) × (number_at ns n c ≡ Some i)
found_in [] c n k lt at = absurd (omega (arith, lt))
found_in (m ∷ ns) c n k lt at = by (λ j lt' at'. found_in ns c (n + 1) j lt' at') (c == m) refl k lt at
  where
    by : ((j : ℕ) → j < length ns → slice_index_or ns j c ≡ c → (i : ℕ) × (number_at ns (n + 1) c ≡ Some i)) → (here : Bool) → (c == m) ≡ here
        → (k : ℕ) → k < length (m ∷ ns) → slice_index_or (m ∷ ns) k c ≡ c → (i : ℕ) × (number_at (m ∷ ns) n c ≡ Some i)
    by more true same k' lt' at' = (n, rw same refl)
    by more false apart zero lt' at' = absurd (is_apart c m apart (sym at'))
    by more false apart (suc k') lt' at' = let there = more k' (omega (arith, lt')) at' in (there.0, rw apart (there.1))

-- So it is hidden.
pub hidden_in : (hidden : List ℕ) (c : ℕ) → Contains hidden c → IsHidden hidden c
hidden_in hidden c (k, lt, at) = found_in hidden c 0 k lt at

-- A component among some is one of those that they are where a record begins later.
pub shifted_in : (base : ℕ) (ns : List ℕ) (e k : ℕ) → k < length ns → slice_index_or ns k e ≡ e → Contains (shifted base ns) (base + e)
shifted_in base [] e k lt at = absurd (omega (arith, lt))
shifted_in base (m ∷ ns) e zero lt at = (0, omega arith, ap (λ (n : ℕ). base + n) at)
shifted_in base (m ∷ ns) e (suc k) lt at = tail_in (base + m) (base + e) (shifted base ns) (shifted_in base ns e k (omega (arith, lt)) at)

-- Components of which each that is of an access type is hidden.
pub covered_by :
    (hidden : List ℕ) (c : ℕ) (kinds : List ComponentKind)
    → ((i : ℕ) (access : TypeNo) → slice_get kinds i ≡ Some (component.Access access) → IsHidden hidden (c + i)) → Covered hidden c kinds
covered_by hidden c [] owned = tt
covered_by hidden c (kind ∷ kinds) owned = (
  first kind (λ access is. owned 0 access is),
  covered_by hidden (c + 1) kinds (λ i access at. (let next : c + 1 + i ≡ c + suc i = omega arith in rw next (owned (suc i) access at))),
)
  where
    first : (k : ComponentKind) → ((access : TypeNo) → Some k ≡ Some (component.Access access) → IsHidden hidden (c + 0)) → is_owning k ≡ true → IsHidden hidden c
    first (component.Integer i) owned' owns = absurd (cc owns)
    first (component.Boolean i) owned' owns = absurd (cc owns)
    first (component.Access access) owned' owns = let none : c + 0 ≡ c = omega arith in rw none at (owned' access refl)

-- Components of which none is of an access type are covered, whatever is hidden.
pub covered_plain : (hidden : List ℕ) (c : ℕ) (kinds : List ComponentKind) → list_any is_owning kinds ≡ false → Covered hidden c kinds
covered_plain hidden c [] plain = tt
covered_plain hidden c (kind ∷ kinds) plain = by (is_owning kind) refl plain (λ later. covered_plain hidden (c + 1) kinds later)
  where
    by : (b : Bool) → is_owning kind ≡ b → (b || list_any is_owning kinds) ≡ false → (list_any is_owning kinds ≡ false → Covered hidden (c + 1) kinds)
        → (is_owning kind ≡ true → IsHidden hidden c) × Covered hidden (c + 1) kinds
    by true is owns more = absurd (cc owns)
    by false is none more = ((λ owns. absurd (cc (is, owns))), more none)

-- Components that are alike are both of access types, or neither.
pub alike_owns : (c kind : ComponentKind) → is_alike c kind ≡ true → is_owning c ≡ is_owning kind
alike_owns (component.Integer i) (component.Integer j) e = refl
alike_owns (component.Boolean i) (component.Boolean j) e = refl
alike_owns (component.Access t) (component.Access u) e = refl
alike_owns (component.Integer i) (component.Boolean j) e = absurd (cc e)
alike_owns (component.Integer i) (component.Access u) e = absurd (cc e)
alike_owns (component.Boolean i) (component.Integer j) e = absurd (cc e)
alike_owns (component.Boolean i) (component.Access u) e = absurd (cc e)
alike_owns (component.Access t) (component.Integer j) e = absurd (cc e)
alike_owns (component.Access t) (component.Boolean j) e = absurd (cc e)

-- Where the components of a record are covered, those of an object are with which they are alike.
pub covered_from :
    (hidden : List ℕ) (first : ℕ) (components kinds : List ComponentKind) → begins_with components kinds ≡ true → Covered hidden first kinds
    → Covered hidden first (take (length kinds) components)
covered_from hidden first components [] begins covers = tt
covered_from hidden first [] (kind ∷ kinds) begins covers = absurd (cc begins)
covered_from hidden first (c ∷ components) (kind ∷ kinds) begins covers =
    let b = and_parts (is_alike c kind) (begins_with components kinds) begins in
    ((λ owns. covers.0 (sym (alike_owns c kind b.0) ∙ owns)), covered_from hidden (first + 1) components kinds b.1 covers.1)

module _ (program : Program) (well : IsWellFormed (program_form program)) where
  abbrev types : List TypeForm
  types = (program_form program).types

  abbrev shapes : List Shape
  shapes = shown_shapes types

  -- A component that a controlled record declares, which lies in a record, is among those of the parts that are left where that is to be adjusted.
  declared_left :
      (access t of first number r d k e : ℕ) (c : IsControlled types r) → shown_number types (Some t) ≡ Some of
      → WalksTo types (object_named types (Some access)) (Some t) first number → Walks types t d k r → Contains (declared_owners types r) e
      → Contains (owners_left types access (opened shapes PartsFirst of number)) (first + d + e)
  declared_left access t of first number r d k e c is walks inside (i, lt, at) =
      let m = c.finalization.number.0 in
      let q : Part = record { of = m; number = number + k } in
      let tasks = opened shapes PartsFirst of number in
      let firsts = firsts_known types access in
      let below = number_known types well.types_fit t of is in
      let left =
      Contains-permutation (parts_at shapes of number) (parts_left shapes tasks) q (left_opened shapes PartsFirst of number (shapes_table program well) below)
      (part_lies_in program well access t of first number d k r c is walks inside) in
      let there = walks_to types (object_named types (Some access)) (Some t) (Some r) first number d k walks inside in
      let begins = first_placed program well access r (first + d) (number + k) c there in
      let index : slice_index_or firsts (number + k) 0 ≡ first + d = get_or_from_slice_get firsts (number + k) (first + d) 0 begins in
      let owners : part_owners types access q ≡ shifted (first + d) (declared_owners types r) =
      ap (λ (base : ℕ). shifted base (owners_numbered types m)) index ∙ ap (shifted (first + d)) (numbered_as types well.types_fit r c) in
      let among : Contains (part_owners types access q) (first + d + e) =
      subst (λ (ns : List ℕ). Contains ns (first + d + e)) (sym owners) (shifted_in (first + d) (declared_owners types r) e i lt at) in
      flat_in (part_owners types access) (parts_left shapes tasks) q (first + d + e) left.0 left.1 left.2 among

  -- So what a record owns is covered that is declared so, wherever it lies in objects, where it is to be adjusted.
  pub covered_there : (t : ℕ) → AreDeclaredWithin types t → AreCovered types t
  covered_there t owned access of first number is walks kinds are =
      covered_by (owners_left types access (opened shapes PartsFirst of number)) first kinds (λ x u at. by x (owned kinds x u are at))
    where
      by : (x : ℕ) → IsDeclaredWithin types t x → IsHidden (owners_left types access (opened shapes PartsFirst of number)) (first + x)
      by x (r, d, k, c, inside, own) =
          let place : first + d + own.0 ≡ first + x = (let behind = own.2 in omega (arith, behind)) in
          hidden_in (owners_left types access (opened shapes PartsFirst of number)) (first + x)
          (subst (Contains (owners_left types access (opened shapes PartsFirst of number))) place
          (declared_left access t of first number r d k own.0 c is walks inside own.1))
