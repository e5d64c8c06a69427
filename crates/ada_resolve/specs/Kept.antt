-- Types as the code keeps them while names are looked up: the components of a record type are found by their names.

use Rattle.std.specs.Prelude.{ℕ, ◌+◌, Bool, ◌||◌, if◌then◌else◌, List, [], ◌∷◌, ◌++◌, length, map, Option, Some, None, bytes_eq}
use denote.Ref.{Bor}
use Rattle.ada_tree.specs.Records.{ComponentTree}
use Rattle.ada_program.specs.declared.program.ComponentKind.{ComponentKind}
use Rattle.ada_program.specs.declared.program.PartKind.{PartKind}
use Rattle.ada_program.specs.ProgramForm.{PartForm, TypeForm, record_of, access_to, object_of, pool_number}
use Rattle.ada_resolve.specs.declared.components.Components.{Components}
use Rattle.ada_resolve.specs.declared.components.KnownComponent.{KnownComponent}
use Rattle.ada_resolve.specs.declared.components.KnownType.{KnownType}
use Rattle.ada_resolve.specs.declared.components.KnownType.TheVariants as known_type
use Rattle.ada_resolve.specs.Known.{Known}
use Rattle.ada_resolve.specs.Records.{Composition, composed_by}

-- A component by its name.
abbrev pub entry_form : Bor (List ℕ) × KnownComponent → PartForm
entry_form e = record { name = e.0.now; kind = e.1.kind; first = e.1.first; part = e.1.part }

-- What a component is, as the code keeps it.
abbrev pub kind_of_known : KnownComponent → PartKind
kind_of_known c = c.kind

-- The components of a record type as they are declared, in order.
unfoldable pub forms_of : Components → List PartForm
forms_of cs = map entry_form cs.entries.entries

-- What a record type is made of.
unfoldable pub composition_in : Components → Composition
composition_in cs = record { parts = forms_of cs; kinds = cs.kinds.items; size = cs.size; controlled = cs.controlled; limited = cs.limited }

-- A type.
abbrev pub known_type_form : KnownType → TypeForm
known_type_form (known_type.Record name components finalization) = record_of name.now (forms_of components) components.kinds.items finalization
known_type_form (known_type.Access name designated pool) = access_to name.now designated.0 (pool_number pool)
known_type_form (known_type.Object record_type) = object_of record_type.0

-- Declared components with one more: last, or, where its name is there already, in place of that one, under whose name the code keeps one.
abbrev pub with_component : PartForm → List PartForm → List PartForm
with_component c [] = c ∷ []
with_component c (d ∷ ds) = if bytes_eq c.name d.name then record { name = d.name; kind = c.kind; first = c.first; part = c.part } ∷ ds else d ∷ with_component c ds

-- What the code keeps once a component is declared, with which there are as many at any depth.
abbrev pub with_declared : List ℕ → PartKind → (size : ℕ) → Composition → Composition
with_declared name kind size before = record {
  parts = with_component (record { name = name; kind = kind; first = length before.kinds; part = before.controlled }) before.parts;
  kinds = before.kinds;
  size = size;
  controlled = before.controlled;
  limited = before.limited;
}

-- What the code keeps once these are elementary components too.
abbrev pub with_kinds : List ComponentKind → Composition → Composition
with_kinds kinds before = record before { kinds = before.kinds ++ kinds }

-- What the code keeps once there are as many more controlled parts, one of which is limited or none.
abbrev pub with_controlled : (count : ℕ) → (limited : Bool) → Composition → Composition
with_controlled count limited before = record before { controlled = before.controlled + count; limited = before.limited || limited }

-- What the code keeps of a record type with one more component.
unfoldable pub kept_with : Known → Composition → ComponentTree → Composition
kept_with known before c = composed_by with_component known before c

-- What the code keeps of a record type with more components, one by one.
abbrev pub kept_from : Known → Composition → List ComponentTree → Composition
kept_from known before [] = before
kept_from known before (c ∷ cs) = kept_from known (kept_with known before c) cs

-- The declared components where a type may be known.
abbrev pub forms_in : Option Components → List PartForm
forms_in (Some components) = forms_of components
forms_in None = []

-- The elementary components where a type may be known.
abbrev pub kinds_in : Option Components → List ComponentKind
kinds_in (Some components) = components.kinds.items
kinds_in None = []
