-- Record types and the values that are known before the run, and how they are written.

use Rattle.std.specs.Prelude.{ℕ, true, false, List, [], ◌∷◌, ◌++◌, map, Option, Some, None}
use Rattle.std.specs.List.{flat_map}
use Rattle.ada_text.specs.declared.spot.Spot.{Spot}
use Rattle.ada_text.specs.declared.word.Word.TheVariants.{End, Null, Record}
use Rattle.ada_text.specs.declared.delimiter.Delimiter.TheVariants.{Assign, Colon, Minus, Semicolon}
use Rattle.ada_text.specs.Token.{number, reserved, delimiter}
use Rattle.ada_tree.specs.declared.records.RecordDefinition.{RecordDefinition}
use Rattle.ada_tree.specs.declared.records.RecordDefinition.TheVariants.{NullRecord, NullComponents, Components}
use Rattle.ada_tree.specs.declared.records.ComponentDefinition.{ComponentDefinition}
use Rattle.ada_tree.specs.declared.records.StaticValue.{StaticValue}
use Rattle.ada_tree.specs.declared.records.StaticValue.TheVariants as value
use Rattle.ada_tree.specs.Piece.{Piece, anywhere, placed}
use Rattle.ada_tree.specs.Names.{Ident, ident_pieces, ident_of}

-- A value that is known before the run (4.9).
pub data StaticTree : Type 0 where
  plain : Spot → ℕ → StaticTree
  minus : Spot → ℕ → StaticTree
  named : Ident → StaticTree

-- A component of a record type (3.8).
pub record ComponentTree : Type 0 where
  pub name : Ident
  pub type_name : Ident
  pub initial : Option StaticTree

-- What a record type is made of (3.8).
pub data RecordTree : Type 0 where
  null_record : RecordTree
  null_components : RecordTree
  components : ComponentTree → List ComponentTree → RecordTree

-- How each is written.

-- `1`, `-1` or a name
abbrev pub static_pieces : StaticTree → List Piece
static_pieces (plain spot n) = placed (number n) spot ∷ []
static_pieces (minus spot n) = placed (delimiter Minus) spot ∷ anywhere (number n) ∷ []
static_pieces (named i) = ident_pieces i

-- `:= 1`, or nothing
abbrev pub initial_static_pieces : Option StaticTree → List Piece
initial_static_pieces None = []
initial_static_pieces (Some value) = anywhere (delimiter Assign) ∷ static_pieces value

-- `C : T := 0;`
abbrev pub component_pieces : ComponentTree → List Piece
component_pieces c =
    ident_pieces c.name ++ anywhere (delimiter Colon) ∷ ident_pieces c.type_name ++ initial_static_pieces c.initial ++
    anywhere (delimiter Semicolon) ∷ []

-- `null record`, `record null; end record` or `record .. end record`
abbrev pub record_pieces : RecordTree → List Piece
record_pieces null_record = anywhere (reserved Null) ∷ anywhere (reserved Record) ∷ []
record_pieces null_components =
    anywhere (reserved Record) ∷ anywhere (reserved Null) ∷ anywhere (delimiter Semicolon) ∷ anywhere (reserved End) ∷
    anywhere (reserved Record) ∷ []
record_pieces (components first rest) =
    anywhere (reserved Record) ∷ component_pieces first ++ flat_map component_pieces rest ++ anywhere (reserved End) ∷
    anywhere (reserved Record) ∷ []

-- The trees that the code keeps, as plain data.

-- A static value as plain data.
abbrev pub static_of : StaticValue → StaticTree
static_of (value.Number spot true n) = minus spot n
static_of (value.Number spot false n) = plain spot n
static_of (value.Named i) = named (ident_of i)

-- A static value as plain data, if there is one.
abbrev pub initial_static_of : Option StaticValue → Option StaticTree
initial_static_of None = None
initial_static_of (Some v) = Some (static_of v)

-- A component as plain data.
abbrev pub component_of : ComponentDefinition → ComponentTree
component_of c = record { name = ident_of c.name; type_name = ident_of c.type_name; initial = initial_static_of c.initial }

-- The definition of a record type as plain data.
abbrev pub record_of : RecordDefinition → RecordTree
record_of NullRecord = null_record
record_of NullComponents = null_components
record_of (Components first rest) = components (component_of first) (map component_of rest.items)
