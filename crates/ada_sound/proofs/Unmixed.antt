-- No record has a part whose Adjust tracks beside a part whose Adjust touches storage otherwise (7.6): where one of these is called for a copy, no component of the
-- copy is of an access type that is to be adjusted.

use Rattle.std.proofs.Common.{◌≡◌, ◌⊎◌, ℕ, Bool, true, false, not, ◌||◌, List, [], ◌∷◌, inl, inr, refl, sym, ap, ◌∙◌}
use Rattle.std.specs.Prelude.{Option, Some, None, flat_map}
use Rattle.std.specs.List.{Contains, list_all, slice_get}
use Rattle.std.proofs.lemmas.Bool.{or_cases}
use Rattle.ada_meaning.proofs.Places.{numbers_are_alone, types_have_their_operations}
use Rattle.ada_parts.specs.Law.{parts_left}
use Rattle.ada_parts.specs.Part as parts
use Rattle.ada_parts.specs.Task.{Task, performs}
use Rattle.ada_program.specs.Controlled.{number_in, number_of, operations_of, procedure_number}
use Rattle.ada_program.specs.declared.program.Finalization.{Finalization}
use Rattle.ada_program.specs.declared.program.Operations.{Operations}
use Rattle.ada_program.specs.declared.program.Program.{Program}
use Rattle.ada_program.specs.ProgramForm.{BodyForm, ProgramForm, TypeForm, record_of, program_form}
use Rattle.ada_program.specs.WellFormed.{IsWellFormed, finalization_in, finalization_of, is_inherited}
use Rattle.ada_program.proofs.Shapes.{same_number}
use Rattle.ada_flow.specs.Tracking.{access_numbers}
use Rattle.ada_quiet.specs.Apart.{leaves_access}
use Rattle.ada_quiet.specs.Calm.{is_known_calm}
use Rattle.ada_quiet.specs.InUse.{tracks_beside_none, tracks_nothing}
use Rattle.ada_quiet.specs.Laws.{IsToldWithin}
use Rattle.ada_quiet.specs.Mixed.{is_unmixed, tracked_or_quiet_types, tracks_or_is_quiet, untracked_types}
use Rattle.ada_quiet.specs.Quiet.{has_access, is_quiet_body, is_quiet_operation}
use Rattle.ada_quiet.proofs.CalmTypes.{calm_is_told_within}
use Rattle.ada_typed.proofs.Parts.{shown_parts, shown_number, shown_shapes}
use Rattle.ada_sound.proofs.CalmObjects.{quiet_there}
use Rattle.ada_sound.proofs.CopiedOwners.{CopyLeft, SeesToOwners, owners_left, owners_numbered, part_owners}
use Rattle.ada_sound.proofs.CopyParts.{head_in, left_called, tail_in}
use Rattle.ada_sound.proofs.CopySteps.{some_numbers}
use Rattle.ada_sound.proofs.OnlyParts.{IsControlled, passed_at}
use Rattle.ada_sound.proofs.OnlyPlaces.{controlled_as_shown}
use Rattle.ada_sound.proofs.PartsApart.{PartWithin, called_there, left_sees, left_within, type_numbered}
use Rattle.ada_sound.proofs.Trackers.{owns_access}

-- What each of some things has none of, all of them have none of.
none_of_each : {A B : Type 0} (f : A → List B) (xs : List A) → ((x : A) → Contains xs x → f x ≡ []) → flat_map f xs ≡ []
none_of_each f [] none = refl
none_of_each f (x ∷ xs) none = rw (none x (head_in x xs), none_of_each f xs (λ y has. none y (tail_in x y xs has))) refl

module _ (program : Program) (well : IsWellFormed (program_form program)) where
  abbrev p : ProgramForm
  p = program_form program

  -- What a type's own operations are asked: that no Adjust tracks, and that it tracks or is quiet.
  abbrev leaves : TypeForm → Bool
  leaves t = leaves_access t (finalization_in (Some t))

  abbrev is_steady : TypeForm → Bool
  is_steady t = tracks_or_is_quiet p t (finalization_in (Some t))

  -- No Adjust of a record tracks, nor of what lies in it.
  abbrev pub TracksNowhere : (r : ℕ) → Type 0
  TracksNowhere r = IsToldWithin leaves p.types r

  -- So it is with each record, where none of the program does.
  pub nothing_nowhere : tracks_nothing p ≡ true → (r : ℕ) → TracksNowhere r
  nothing_nowhere nothing r u first part form walks at = passed_at leaves p.types u form nothing at

  -- The Adjust of such a type sees to no component.
  sees_leaving : (u of : ℕ) (s : SeesToOwners p.types u of) → leaves (record_of s.name s.parts s.components (Some s.finalization)) ≡ true → ⊥
  sees_leaving u of s left = by (has_access form) refl
    where
      form : Option TypeForm
      form = Some (record_of s.name s.parts s.components (Some s.finalization))

      owns : has_access form ≡ true
      owns = sym (owns_access s.parts) ∙ s.declares

      here : (not (has_access form) || is_inherited s.finalization.operations.adjust) ≡ true
      here = left

      by : (b : Bool) → has_access form ≡ b → ⊥
      by false none = cc (none, owns)
      by true is = let one = s.overridden in let both = rw (is, one) at here in cc both

  -- So no part that is left of a copy declares a component of an access type,
  sees_none :
      (access r : ℕ) (tasks : List Task) → CopyLeft p.types access r tasks → TracksNowhere r → (q : parts.Part)
      → Contains (parts_left (shown_shapes p.types) tasks) q → (u : ℕ) → SeesToOwners p.types u q.of → ⊥
  sees_none access r tasks left told q has u s = go (left_within program well access r tasks left q has)
    where
      go : PartWithin p.types access r left.first left.part q.of q.number → ⊥
      go w =
          let c = controlled_as_shown p.types well.types_fit u q.of s.numbered s.controlled in
          let same : slice_get p.types w.placed.record_type ≡ slice_get p.types u =
          sym (type_numbered program well w.placed.record_type q.of w.placed.controlled w.placed.numbered) ∙ type_numbered program well u q.of c s.numbered in
          sees_leaving u q.of s
          (told w.placed.record_type w.before w.count (record_of s.name s.parts s.components (Some s.finalization)) w.walks (same ∙ s.at))

  pub left_owns_none :
      (access r : ℕ) (tasks : List Task) → CopyLeft p.types access r tasks → TracksNowhere r → (q : parts.Part)
      → Contains (parts_left (shown_shapes p.types) tasks) q → owners_numbered p.types q.of ≡ []
  left_owns_none access r tasks left told q has = by (owners_numbered p.types q.of) refl
    where
      by : (owners : List ℕ) → owners_numbered p.types q.of ≡ owners → owners_numbered p.types q.of ≡ []
      by [] none = none
      by (c ∷ cs) some =
          let sees = left_sees program well access r tasks left q has (λ none. cc (none, some)) in
          absurd (sees_none access r tasks left told q has sees.0 sees.1)

  -- and no component is to be adjusted.
  part_owns_none :
      (access r : ℕ) (tasks : List Task) → CopyLeft p.types access r tasks → TracksNowhere r → (q : parts.Part)
      → Contains (parts_left (shown_shapes p.types) tasks) q → part_owners p.types access q ≡ []
  part_owns_none access r tasks left told q has = let none = left_owns_none access r tasks left told q has in rw none refl

  pub owned_none : (access r : ℕ) (tasks : List Task) → CopyLeft p.types access r tasks → TracksNowhere r → owners_left p.types access tasks ≡ []
  owned_none access r tasks left told =
      none_of_each (part_owners p.types access) (parts_left (shown_shapes p.types) tasks) (part_owns_none access r tasks left told)

  -- The Adjust of a part is called, whose type declares no such component, and is not quiet.
  module _
      (access r of part : ℕ) (tasks : List Task) (left : CopyLeft p.types access r (performs of part ∷ tasks)) (owns : owners_numbered p.types of ≡ [])
      (number : ℕ) (b : BodyForm) (there : slice_get p.bodies number ≡ Some b)
      (called : procedure_number (operations_of program.types.items of).adjust ≡ Some number) (loud : is_quiet_body p.types b ≡ false)
    where
      -- The operations of a type are those of its number.
      its_adjust : (u : ℕ) (c : IsControlled p.types u) → shown_number p.types (Some u) ≡ Some of → procedure_number c.finalization.operations.adjust ≡ Some number
      its_adjust u c numbered =
          let f = c.finalization in
          let found : finalization_of p.types u ≡ Some f = ap finalization_in c.declared in
          let known : number_of program.types.items (Some u) ≡ Some f.number.0 = same_number program.types.items u ∙ ap number_in found in
          let said : Some of ≡ Some f.number.0 = sym numbered ∙ ap number_in found in
          let same : of ≡ f.number.0 = cc said in
          let own = types_have_their_operations program u c.parts f (c.name, c.components, c.declared) (λ v is. numbers_are_alone program v u f.number.0 well is known) in
          sym (ap (λ (operations : Operations). procedure_number operations.adjust) (ap (operations_of program.types.items) same ∙ own)) ∙ called

      -- So it neither tracks nor is quiet.
      not_steady : (u : ℕ) (c : IsControlled p.types u) → shown_number p.types (Some u) ≡ Some of → is_steady (record_of c.name c.parts c.components (Some c.finalization)) ≡ true → ⊥
      not_steady u c numbered steady =
          elim (or_cases (has_access (Some (record_of c.name c.parts c.components (Some c.finalization)))) (is_quiet_operation p c.finalization.operations.adjust) steady) [
            | inl access ↦
                some_numbers c.parts (owns_access c.parts ∙ access)
                (sym (ap (λ (o : Option TypeForm). access_numbers (shown_parts o)) (type_numbered program well u of c numbered ∙ c.declared)) ∙ owns)
            | inr quiet ↦
                let is = quiet_there p c.finalization.operations.adjust number b quiet (its_adjust u c numbered) there in
                cc (is, loud)
          ]

      mixed : IsToldWithin is_steady p.types r → ⊥
      mixed told = go (called_there program well access r of part tasks left)
        where
          go : PartWithin p.types access r left.first left.part of part → ⊥
          go w =
              let c = w.placed.controlled in
              not_steady w.placed.record_type c w.placed.numbered
              (told w.placed.record_type w.before w.count (record_of c.name c.parts c.components (Some c.finalization)) w.walks c.declared)

      -- So none of the record tracks.
      tracks_nowhere : tracks_beside_none p ≡ true → TracksNowhere r
      tracks_nowhere beside = by (or_cases (tracks_nothing p) (list_all unmixed p.types) beside)
        where
          unmixed : TypeForm → Bool
          unmixed t = is_unmixed (untracked_types p.types) (tracked_or_quiet_types p) (finalization_in (Some t))

          told : (f : Finalization) → finalization_of p.types r ≡ Some f → is_unmixed (untracked_types p.types) (tracked_or_quiet_types p) (Some f) ≡ true → TracksNowhere r
          told f found is =
              elim (or_cases (is_known_calm (untracked_types p.types) (Some f)) (is_known_calm (tracked_or_quiet_types p) (Some f)) is) [
                | inl none ↦ (calm_is_told_within p leaves well r f found).0 none
                | inr steady ↦ absurd (mixed ((calm_is_told_within p is_steady well r f found).0 steady))
              ]

          found_in : (o : Option TypeForm) → slice_get p.types r ≡ o → (f : Option Finalization) → finalization_in o ≡ f → list_all unmixed p.types ≡ true → TracksNowhere r
          found_in o at None none all =
              let numbered = left.numbered in
              let no : shown_number p.types (Some r) ≡ None = ap number_in (ap finalization_in at ∙ none) in
              absurd (cc (numbered, no))
          found_in None at (Some f) some all = absurd (cc some)
          found_in (Some t) at (Some f) some all =
              told f (ap finalization_in at ∙ some)
              (ap (is_unmixed (untracked_types p.types) (tracked_or_quiet_types p)) (sym some) ∙ passed_at unmixed p.types r t all at)

          by : (tracks_nothing p ≡ true) ⊎ (list_all unmixed p.types ≡ true) → TracksNowhere r
          by (inl nothing) = nothing_nowhere nothing r
          by (inr all) = found_in (slice_get p.types r) refl (finalization_in (slice_get p.types r)) refl all

      -- Behind it, no component is to be adjusted.
      pub behind_none : tracks_beside_none p ≡ true → owners_left p.types access tasks ≡ []
      behind_none beside =
          owned_none access r tasks (left_called p.types access r (performs of part ∷ tasks) left of part refl) (tracks_nowhere beside)
