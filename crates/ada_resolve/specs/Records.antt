-- Record types: what is wrong with a declaration, and what is known after it.

use Rattle.std.specs.Prelude.{ℕ, ◌+◌, ◌==◌, Bool, false, ◌||◌, nat_lt, if◌then◌else◌, List, [], ◌∷◌, ◌++◌, length, Option, Some, None, bytes_eq, ℤ, pos}
use Rattle.ada_text.specs.declared.spot.Spot.{Spot}
use Rattle.ada_tree.specs.Names.{Ident}
use Rattle.ada_tree.specs.Records.{StaticTree, plain, minus, named as static_name, ComponentTree, RecordTree, null_record, null_components, components}
use Rattle.ada_program.specs.Controlled.{no_operations}
use Rattle.ada_program.specs.ProgramForm.{PartForm, TypeForm, record_of}
use Rattle.ada_program.specs.declared.program.ComponentKind.{ComponentKind}
use Rattle.ada_program.specs.declared.program.ComponentKind.TheVariants as kind
use Rattle.ada_program.specs.declared.program.Finalization.{Finalization}
use Rattle.ada_program.specs.declared.program.PartKind.{PartKind}
use Rattle.ada_program.specs.declared.program.TypeNo.{TypeNo}
use Rattle.ada_program.specs.declared.program.PartKind.TheVariants as part
use Rattle.ada_program.specs.WellFormed.{parts_within}
use Rattle.ada_resolve.specs.declared.fault.NameRule.TheVariants.{DeclaredTwice, WrongType, NotInProfile, NoInitialValue, Limit}
use Rattle.ada_resolve.specs.declared.scope.Entity.{Entity}
use Rattle.ada_resolve.specs.declared.scope.Entity.TheVariants as entity
use Rattle.ada_resolve.specs.Controlled.{limited_within}
use Rattle.ada_resolve.specs.Known.{Known, declared, visible, missing, name_remark, new_name_remark, type_begins}
use Rattle.ada_resolve.specs.Library.{is_taken, is_primitive}
use Rattle.ada_resolve.specs.Paths.{elementary_of}
use Rattle.ada_resolve.specs.Remark.{Remark, fine, wrong, node, ◌also◌, wrong_if}
use Rattle.ada_resolve.specs.Statics.{static_remark, static_truth, static_truth_remark, static_value}
use Rattle.ada_resolve.specs.Types.{completed_type, new_unless, number_of, with_definition}

-- An Integer component has an initial value, a static Integer (3.8; the profile wants one).
abbrev pub integer_remark : Known → Ident → Option StaticTree → Remark
integer_remark known name (Some value) = static_remark known value
integer_remark known name None = wrong name.spot NoInitialValue

-- A Boolean component has one too.
abbrev pub boolean_remark : Known → Ident → Option StaticTree → Remark
boolean_remark known name (Some value) = static_truth_remark known value
boolean_remark known name None = wrong name.spot NoInitialValue

-- What is wrong with the initial value of an Integer component.
abbrev pub first_integer_remark : Known → ComponentTree → Remark
first_integer_remark known c = integer_remark known c.name c.initial

-- What is wrong with the initial value of a Boolean component.
abbrev pub first_truth_remark : Known → ComponentTree → Remark
first_truth_remark known c = boolean_remark known c.name c.initial

-- What an Integer component holds at first.
abbrev pub initial_value : Known → Option StaticTree → ℤ
initial_value known (Some value) = static_value known value
initial_value known None = pos 0

-- What a Boolean component holds at first.
abbrev pub initial_truth : Known → Option StaticTree → Bool
initial_truth known (Some value) = static_truth known value
initial_truth known None = false

-- An access component has no initial value, and neither has a record: neither a number nor a name is of its type.
abbrev pub no_value_remark : Known → Option StaticTree → Remark
no_value_remark known (Some (plain spot n)) = wrong spot WrongType
no_value_remark known (Some (minus spot n)) = wrong spot WrongType
no_value_remark known (Some (static_name value)) = name_remark known value also wrong value.spot WrongType
no_value_remark known None = fine

-- A component is an Integer, a Boolean, of an access type, or a record of a type that is complete (3.8).
abbrev pub kind_wanted : Option Entity → Known → ComponentTree → Remark
kind_wanted (Some entity.Integer) known c = first_integer_remark known c
kind_wanted (Some (entity.Access t)) known c = no_value_remark known c.initial
kind_wanted (Some entity.Boolean) known c = first_truth_remark known c
kind_wanted (Some (entity.Record t size)) known c = no_value_remark known c.initial
kind_wanted (Some other) known c = wrong c.type_name.spot WrongType
kind_wanted None known c = missing None c.type_name

-- What a component is (3.8); an Integer where something is wrong.
abbrev pub kind_in : Option Entity → Known → Option StaticTree → PartKind
kind_in (Some (entity.Access t)) known initial = part.Elementary (kind.Access t)
kind_in (Some (entity.Record t size)) known initial = part.Record t
kind_in (Some entity.Integer) known initial = part.Elementary (kind.Integer (initial_value known initial))
kind_in (Some entity.Boolean) known initial = part.Elementary (kind.Boolean (initial_truth known initial))
kind_in (Some other) known initial = part.Elementary (kind.Integer (pos 0))
kind_in None known initial = part.Elementary (kind.Integer (pos 0))

-- How many components one is, with those at any depth of a record.
abbrev pub size_in : Option Entity → ℕ
size_in (Some (entity.Record t size)) = size + 1
size_in (Some other) = 1
size_in None = 1

-- What is wrong with what a component is.
abbrev pub kind_remark : Known → ComponentTree → Remark
kind_remark known c = kind_wanted (visible known c.type_name.text) known c

-- What a component is, by its declaration.
abbrev pub kind_of_component : Known → ComponentTree → PartKind
kind_of_component known c = kind_in (visible known c.type_name.text) known c.initial

-- How many components it is, by its declaration.
abbrev pub size_of_component : Known → ComponentTree → ℕ
size_of_component known c = size_in (visible known c.type_name.text)

-- The elementary components of a component (3.8): itself, or those of its record type. The parent part of a controlled type has none (7.6).
abbrev pub kinds_within : List TypeForm → PartKind → List ComponentKind
kinds_within types (part.Elementary kind) = kind ∷ []
kinds_within types (part.Record t) = elementary_of types t.0
kinds_within types part.Parent = []

-- What a record type is made of: its components as they are declared, its elementary components at any depth, each in order, how many
-- components it has at any depth, how many controlled parts, the parent part among them (7.6), and whether one of these is limited (7.5).
pub record Composition : Type 0 where
  pub parts : List PartForm
  pub kinds : List ComponentKind
  pub size : ℕ
  pub controlled : ℕ
  pub limited : Bool

-- What a record type is made of before its first component.
abbrev pub no_components : Composition
no_components = record { parts = []; kinds = []; size = 0; controlled = 0; limited = false }

-- Whether one of the components has the name.
abbrev pub is_component : List ℕ → List PartForm → Bool
is_component text [] = false
is_component text (c ∷ cs) = bytes_eq text c.name || is_component text cs

-- The most components of a record, at any depth.
abbrev pub most_components : ℕ
most_components = 4096

-- What is wrong with a component. The test says whether one before it has its name, and the size is that of the record type with it. Its name is
-- predefined, that of one before it (8.3) or that of a primitive; there are too many components; or what it is is wrong.
unfoldable pub component_remark : Known → Bool → (size : ℕ) → ComponentTree → Remark
component_remark known is_named size c =
    node c.name.spot also
    wrong_if (is_taken c.name.text) c.name.spot DeclaredTwice also
    wrong_if is_named c.name.spot DeclaredTwice also
    wrong_if (is_primitive c.name.text) c.name.spot NotInProfile also
    wrong_if (nat_lt most_components size) c.name.spot Limit also
    kind_remark known c

-- The component, which lies behind as many elementary components and behind as many controlled parts.
unfoldable pub component_meant : Known → (before parts : ℕ) → ComponentTree → PartForm
component_meant known before parts c = record { name = c.name.text; kind = kind_of_component known c; first = before; part = parts }

-- What a record type is made of with one more component, whose declared component joins those before it so.
abbrev pub composed_by : (PartForm → List PartForm → List PartForm) → Known → Composition → ComponentTree → Composition
composed_by join known before c = record {
  parts = join (component_meant known (length before.kinds) before.controlled c) before.parts;
  kinds = before.kinds ++ kinds_within known.types (kind_of_component known c);
  size = before.size + size_of_component known c;
  controlled = before.controlled + parts_within known.types (kind_of_component known c);
  limited = before.limited || limited_within known.types (kind_of_component known c);
}

-- A declared component stands behind the others.
abbrev pub put_last : PartForm → List PartForm → List PartForm
put_last c cs = cs ++ c ∷ []

-- What a record type is made of with one more component.
abbrev pub composed_with : Known → Composition → ComponentTree → Composition
composed_with known before c = composed_by put_last known before c

-- What a record type is made of with more components.
abbrev pub composed : Known → Composition → List ComponentTree → Composition
composed known before [] = before
composed known before (c ∷ cs) = composed known (composed_with known before c) cs

-- What a record type of these components is made of.
abbrev pub composition_of : Known → List ComponentTree → Composition
composition_of known cs = composed known no_components cs

-- What is wrong with a component behind others.
abbrev pub further_component_remark : Known → Composition → ComponentTree → Remark
further_component_remark known before c =
    component_remark known (is_component c.name.text before.parts) (before.size + size_of_component known c) c

-- What is wrong with components behind others.
abbrev pub components_remark : Known → Composition → List ComponentTree → Remark
components_remark known before [] = fine
components_remark known before (c ∷ cs) =
    further_component_remark known before c also
    components_remark known (composed_with known before c) cs

-- What is wrong with all components of a record type.
abbrev pub all_components_remark : Known → List ComponentTree → Remark
all_components_remark known cs = components_remark known no_components cs

-- The components that a record type is written with (3.8).
abbrev pub components_written : RecordTree → List ComponentTree
components_written null_record = []
components_written null_components = []
components_written (components first rest) = first ∷ rest

-- `type T is record .. end record;` (3.8): its name is new or completes an incomplete type, and each component is as it should be.
abbrev pub record_type_remark : Known → Spot → Ident → RecordTree → Remark
record_type_remark known spot name definition =
    type_begins known spot also
    new_unless (completed_type known name) (new_name_remark known name spot) also
    all_components_remark known (components_written definition)

-- How the objects of a record type that is made of this are finalized (7.6), where as many types with controlled parts are complete before it: where it
-- has some too, that is its number. It overrides no operation.
abbrev pub finalization_made : (number : ℕ) → Composition → Option Finalization
finalization_made number made =
    if made.controlled == 0 then None else Some (record { number = record { 0 = number }; parts = made.controlled; limited = made.limited; operations = no_operations })

-- How many record types with controlled parts are complete once this one is.
abbrev pub counted : Option Finalization → ℕ → ℕ
counted None before = before
counted (Some finalization) before = before + 1

-- What is known once one more record type is complete.
abbrev pub with_counted : Option Finalization → Known → Known
with_counted finalization known = record known { controlled = counted finalization known.controlled }

-- The record type that is made of this, whose objects are finalized so.
abbrev pub record_with : Option Finalization → Ident → Composition → TypeForm
record_with finalization name made = record_of name.text made.parts made.kinds finalization

-- The same, where as many types with controlled parts are complete before it.
abbrev pub record_made : (number : ℕ) → Ident → Composition → TypeForm
record_made number name made = record_with (finalization_made number made) name made

-- What is known once a record type that is made of this is declared: a new one, or the one that it completes. It is counted where it has controlled
-- parts.
abbrev pub with_record_defined : Option TypeNo → Known → Ident → Composition → Known
with_record_defined completes known name made =
    declared
    (with_counted (finalization_made known.controlled made) (with_definition completes (record_made known.controlled name made) known))
    name.text (entity.Record (number_of completes known.types) made.size)

-- What is known once a record type of a name that is made of this is declared.
abbrev pub with_record : Known → Ident → Composition → Known
with_record known name made = with_record_defined (completed_type known name) known name made

-- After it the record type is known.
abbrev pub record_type_known : Known → Ident → RecordTree → Known
record_type_known known name definition = with_record known name (composition_of known (components_written definition))
