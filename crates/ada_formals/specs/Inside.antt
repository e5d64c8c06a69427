-- What a record that is given lies in (6.2, 6.4.1), where its path begins with a formal parameter that is a record and follows no access value, in every run
-- of a well-formed program.

use Rattle.std.specs.Prelude.{◌≡◌, ℕ, ◌+◌, ◌<◌, ◌≤◌, ℤ, List, [], ◌∷◌, Option, Some}
use Rattle.std.specs.List.{slice_get}
use Rattle.ada_program.specs.declared.program.Program.{Program}
use Rattle.ada_program.specs.declared.program.TypeNo.{TypeNo}
use Rattle.ada_program.specs.declared.program.VariableKind.TheVariants as variable
use Rattle.ada_program.specs.Form.{RecordPathForm}
use Rattle.ada_program.specs.ProgramForm.{TypeForm, program_form}
use Rattle.ada_program.specs.WellFormed.{IsWellFormed, record_components, components_reached, width_in, part_count, parts_named, object_named, variable_kind}
use Rattle.ada_meaning.specs.declared.state.Id.{Id}
use Rattle.ada_meaning.specs.declared.state.Mode.TheVariants.{Running}
use Rattle.ada_meaning.specs.declared.state.Place.{Place}
use Rattle.ada_meaning.specs.declared.state.Value.{Value}
use Rattle.ada_meaning.specs.declared.state.Value.TheVariants.{Part}
use Rattle.ada_meaning.specs.Frame.{Frame}
use Rattle.ada_meaning.specs.Frame as frame
use Rattle.ada_meaning.specs.Step.{places, operands}
use Rattle.ada_meaning.specs.Named.{State}
use Rattle.ada_meaning.specs.Run.{Event, settled, Step, Run, first_state}
use Rattle.ada_typed.specs.Holding.{WalksTo, seen_now}

-- At the second of two places in one object lies a record of this type, inside of the record at the first place, which may be of another type, or it is that
-- one: so many elementary components and controlled parts of that record lie before it, and its own are among that record's (3.8, 7.6). Where it has
-- controlled parts, it is found by walking into declared components.
pub record LiesInside (types : List TypeForm) (whole : Option ℕ) (base : Place) (record_type : ℕ) (place : Place) : Type 0 where
  pub first : ℕ
  pub part : ℕ
  pub component_at : place.component ≡ base.component + first
  pub part_at : place.part ≡ base.part + part
  pub components :
      0 < width_in (record_components types record_type)
      → first + width_in (record_components types record_type) ≤ width_in (components_reached types whole)
  pub parts : 0 < part_count types record_type → part + part_count types record_type ≤ parts_named types whole
  pub walk : 0 < part_count types record_type → WalksTo types whole (Some record_type) first part

-- In a state of a run, the record is to be found to which a path leads, for a formal parameter (6.2) or an assignment (5.2, 7.6). The path follows no access
-- value, and begins with a variable that refers to a record in an object: then that is a record variable, and what is found in two steps is in the same
-- object, inside of that record.
abbrev pub ReferencesLieInside : Type 0
ReferencesLieInside =
    (program : Program) → IsWellFormed (program_form program) → (input : List ℤ) (events : List Event) (s : State)
    → Run program (first_state program input) events s → (q : RecordPathForm) (outer : List (Frame Value)) (o : Id) (base : Place)
    → s.mode ≡ Running → s.control ≡ frame.Refers q ∷ outer → q.object.selectors ≡ [] → slice_get (places s) q.object.root ≡ Some (Part o base)
    → (mid after : State) (one two : Event) → Step program s settled one mid → Step program mid settled two after
    → (object : TypeNo) × (place : Place) × (variable_kind (seen_now (program_form program) s).variables q.object.root ≡ Some (variable.Record object))
    × (after.control ≡ outer) × (operands after ≡ Part o place ∷ operands s)
    × LiesInside (program_form program).types (object_named (program_form program).types (Some object.0)) base q.record_type place
