-- Allocators without items (4.8): their objects hold at first what each component holds where no value is given, as if that were its item.

use Rattle.ada_parts.specs.declared.tasks.Direction.{Direction}
use Rattle.std.proofs.lemmas.Bool.{eqb-true}
use Rattle.std.proofs.Common.{◌≡◌, ℕ, Bool, true, false, ◌&&◌, ◌==◌, List, [], ◌∷◌, map, refl, ap, sym, ◌∙◌}
use Rattle.std.specs.Prelude.{Option, Some, None, is_some}
use Rattle.std.specs.List.{slice_get}
use Rattle.ada_program.specs.declared.program.ComponentKind.{ComponentKind}
use Rattle.ada_program.specs.declared.program.ComponentKind.TheVariants as component
use Rattle.ada_program.specs.declared.program.VariableKind.{VariableKind}
use Rattle.ada_program.specs.declared.program.VariableKind.TheVariants as variable
use Rattle.ada_program.specs.Form.{PathForm, allocates_default}
use Rattle.ada_text.specs.declared.spot.Spot.{Spot}
use Rattle.std.specs.Option.{option_map}
use Rattle.std.proofs.lemmas.Option.{slice_get-map}
use Rattle.ada_program.specs.declared.program.TypeDefinition.{TypeDefinition}
use Rattle.ada_program.specs.declared.program.TypeDefinition.TheVariants as definition
use Rattle.ada_program.specs.ProgramForm.{TypeForm, type_form, VariableForm}
use Rattle.ada_program.specs.Typed.{components_by, components_of, reached_of}
use Rattle.ada_program.specs.WellFormed.{object_named, finalization_of, access_of, components_in, record_components, reached_components, items_fit, kind_takes}
use Rattle.ada_effects.specs.Effects.{items_raise}
use Rattle.ada_flow.specs.Flow.{Holds, moved_by_items, uses_in}
use Rattle.ada_flow.specs.Tracking.{no_tracks}
use Rattle.ada_meaning.specs.declared.state.Value.{Value}
use Rattle.ada_meaning.specs.Step.{record_tasks, initial_value, in_front}
use Rattle.ada_meaning.specs.Named.{Object, named}
use Rattle.ada_typed.proofs.Shown.{same_components}
use Rattle.ada_sound.proofs.Invariant.{Known, Control, Rooms, ItemsKeep, OwnNothing, FilledBy, Filling}
use Rattle.ada_sound.proofs.Copied.{default_item, fill_one}
use Rattle.ada_program.specs.Controlled.{number_of, number_reached, shapes_of}
use Rattle.ada_typed.proofs.Parts.{shown_number, shown_shapes}
use Rattle.ada_sound.proofs.InsideRecords.{TasksInside}

-- Such items are those of an object.
pub defaults_fit : (types : List TypeForm) (variables : List VariableForm) (kinds : List ComponentKind) → items_fit types variables kinds (map default_item kinds) ≡ true
defaults_fit types variables [] = refl
defaults_fit types variables (component.Integer initial ∷ kinds) = defaults_fit types variables kinds
defaults_fit types variables (component.Boolean initial ∷ kinds) = defaults_fit types variables kinds
defaults_fit types variables (component.Access access ∷ kinds) = defaults_fit types variables kinds

-- They raise nothing, move nothing and use no path.
pub defaults_raise : (kinds : List ComponentKind) → items_raise (map default_item kinds) ≡ false
defaults_raise [] = refl
defaults_raise (component.Integer initial ∷ kinds) = defaults_raise kinds
defaults_raise (component.Boolean initial ∷ kinds) = defaults_raise kinds
defaults_raise (component.Access access ∷ kinds) = defaults_raise kinds

pub defaults_move : (kinds : List ComponentKind) → moved_by_items no_tracks (map default_item kinds) ≡ []
defaults_move [] = refl
defaults_move (component.Integer initial ∷ kinds) = defaults_move kinds
defaults_move (component.Boolean initial ∷ kinds) = defaults_move kinds
defaults_move (component.Access access ∷ kinds) = defaults_move kinds

pub defaults_keep : (types : List TypeForm) (spot : Spot) (target : Option PathForm) (holds : Holds) (earlier : List PathForm) (kinds : List ComponentKind) → ItemsKeep types spot target holds earlier (map default_item kinds)
unfolding uses_in
defaults_keep types spot target holds earlier [] = tt
defaults_keep types spot target holds earlier (component.Integer initial ∷ kinds) = (refl, defaults_keep types spot target holds earlier kinds)
defaults_keep types spot target holds earlier (component.Boolean initial ∷ kinds) = (refl, defaults_keep types spot target holds earlier kinds)
defaults_keep types spot target holds earlier (component.Access access ∷ kinds) = (refl, defaults_keep types spot target holds earlier kinds)

-- None of them is a record.
pub defaults_bare : (types : List TypeForm) (kinds : List ComponentKind) → OwnNothing types (map default_item kinds)
defaults_bare types [] = tt
defaults_bare types (component.Integer initial ∷ kinds) = (tt, defaults_bare types kinds)
defaults_bare types (component.Boolean initial ∷ kinds) = (tt, defaults_bare types kinds)
defaults_bare types (component.Access access ∷ kinds) = (tt, defaults_bare types kinds)

module _ (known : Known) (heap : List Object) (places : List Value) (access count : ℕ) (k : Control) (rooms : Rooms) (holds : Holds) where
  -- The value that is kept for a component is that of its item.
  default_filled : (kind : ComponentKind) → FilledBy heap places (default_item kind) (initial_value named kind)
  default_filled (component.Integer initial) = tt
  default_filled (component.Boolean initial) = tt
  default_filled (component.Access access) = refl

  -- Once all are kept, the object may come to be.
  pub fill_defaults : (kinds : List ComponentKind) (operands : List Value) → Filling known heap places access count (map default_item kinds) k operands rooms holds → Filling known heap places access count [] k (in_front (map (initial_value named) kinds) operands) rooms holds
  fill_defaults [] operands f = f
  fill_defaults (kind ∷ kinds) operands f =
      fill_defaults kinds (initial_value named kind ∷ operands)
      (fill_one known heap places access count (default_item kind) (map default_item kinds) k operands (initial_value named kind) rooms holds (default_filled kind) f)

-- An allocator without items goes where its access type is, and the components of its objects are known.
pub record DefaultFor (types : List TypeForm) (kind : VariableKind) (access : ℕ) : Type 0 where
  pub goes : access_of (Some kind) ≡ Some access
  pub components : List ComponentKind
  pub reached : reached_components types access ≡ Some components

both : (a b : Bool) → (a && b) ≡ true → (a ≡ true) × (b ≡ true)
both true b e = (refl, e)
both false b e = absurd (cc e)

there : (found : Option (List ComponentKind)) → is_some found ≡ true → (components : List ComponentKind) × (found ≡ Some components)
there None e = absurd (cc e)
there (Some components) e = (components, refl)

pub default_for : (types : List TypeForm) (variables : List VariableForm) (kind : VariableKind) (access : ℕ) → kind_takes types variables kind (allocates_default access) ≡ true → DefaultFor types kind access
default_for types variables variable.Integer access takes = absurd (cc takes)
default_for types variables variable.Boolean access takes = absurd (cc takes)
default_for types variables (variable.Record t) access takes = absurd (cc takes)
default_for types variables (variable.Access t) access takes =
    let h = both (access == t.0) (is_some (reached_components types t.0)) takes in
    let same : access ≡ t.0 = eqb-true access t.0 h.0 in
    let f = there (reached_components types t.0) h.1 in
    record { goes = ap Some (sym same); components = f.0; reached = ap (λ u. reached_components types u) same ∙ f.1 }

-- The types that a run has lead to the components that flow speaks of; nothing is done for a record without controlled parts, and for one with some what is
-- done speaks of records that lie in it (7.6). They have the same numbers, and the same shapes.
abbrev pub Reaches : Known → List TypeDefinition → Type 0
Reaches known types =
    ((access : ℕ) → reached_of types access ≡ reached_components known.program.types access)
    × ((t : ℕ) → components_of types t ≡ record_components known.program.types t)
    × ((t : ℕ) → finalization_of known.program.types t ≡ None → (direction : Direction) (first : ℕ) → record_tasks types t direction first ≡ [])
    × ((t : ℕ) (direction : Direction) (first : ℕ) → TasksInside known.program.types t (record_tasks types t direction first))
    × ((t : ℕ) → number_of types (Some t) ≡ shown_number known.program.types (Some t))
    × ((t : ℕ) → number_reached types t ≡ shown_number known.program.types (object_named known.program.types (Some t)))
    × (shown_shapes known.program.types ≡ shapes_of types)

components_shown : (o : Option TypeDefinition) → components_in (option_map type_form o) ≡ components_by o
components_shown None = refl
components_shown (Some (definition.Record name parts components finalization)) = refl
components_shown (Some (definition.Access name designated pool)) = refl
components_shown (Some (definition.Object record_type)) = refl

record_same : (types : List TypeDefinition) (t : ℕ) → record_components (map type_form types) t ≡ components_of types t
record_same types t = ap components_in (slice_get-map type_form types t) ∙ components_shown (slice_get types t)

pub reached_same : (types : List TypeDefinition) → ((access : ℕ) → reached_of types access ≡ reached_components (map type_form types) access) × ((t : ℕ) → components_of types t ≡ record_components (map type_form types) t)
reached_same types = ((λ access. sym (same_components types access)), (λ t. sym (record_same types t)))
