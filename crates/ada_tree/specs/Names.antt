-- Identifiers, names and paths, and how they are written.

use Rattle.std.specs.Prelude.{ℕ, Bool, true, false, List, [], ◌∷◌, ◌++◌, map, Option, Some, None}
use Rattle.std.specs.List.{flat_map}
use Rattle.ada_text.specs.declared.spot.Spot.{Spot}
use Rattle.ada_text.specs.declared.word.Word.TheVariants.{All}
use Rattle.ada_text.specs.declared.delimiter.Delimiter.TheVariants.{Dot}
use Rattle.ada_text.specs.Token.{identifier, reserved, delimiter}
use Rattle.ada_tree.specs.declared.names.Identifier.{Identifier}
use Rattle.ada_tree.specs.declared.names.Name.{Name}
use Rattle.ada_tree.specs.declared.names.Path.{Path}
use Rattle.ada_tree.specs.declared.names.Selector.{Selector}
use Rattle.ada_tree.specs.declared.names.Selector.TheVariants as selector
use Rattle.ada_tree.specs.Piece.{Piece, anywhere, placed}

-- An identifier in upper case, and its spot (2.3).
pub record Ident : Type 0 where
  pub text : List ℕ
  pub spot : Spot

-- A name: identifiers with dots between them, one or more (4.1).
pub record NameTree : Type 0 where
  pub first : Ident
  pub rest : List Ident

-- What stands behind a dot in a path: a component, or `all` (4.1, 4.1.3).
pub data SelectorTree : Type 0 where
  component : Ident → SelectorTree
  dereference : Spot → SelectorTree

-- A path: an identifier, and what is selected behind it (4.1).
pub record PathTree : Type 0 where
  pub root : Ident
  pub selectors : List SelectorTree

-- Whether a path is a name: no `all` is in it.
abbrev pub is_name : List SelectorTree → Bool
is_name [] = true
is_name (component i ∷ selectors) = is_name selectors
is_name (dereference spot ∷ selectors) = false

-- An identifier, at its spot.
abbrev pub ident_pieces : Ident → List Piece
ident_pieces i = placed (identifier i.text) i.spot ∷ []

-- `.B`
abbrev pub part_pieces : Ident → List Piece
part_pieces i = anywhere (delimiter Dot) ∷ ident_pieces i

-- `A.B.C`
abbrev pub name_pieces : NameTree → List Piece
name_pieces n = ident_pieces n.first ++ flat_map part_pieces n.rest

-- `.B` or `.all`
abbrev pub selector_pieces : SelectorTree → List Piece
selector_pieces (component i) = anywhere (delimiter Dot) ∷ ident_pieces i
selector_pieces (dereference spot) = anywhere (delimiter Dot) ∷ placed (reserved All) spot ∷ []

-- `A.B.all.C`
abbrev pub path_pieces : PathTree → List Piece
path_pieces p = ident_pieces p.root ++ flat_map selector_pieces p.selectors

-- The trees that the code keeps, as plain data.

-- An identifier as plain data.
abbrev pub ident_of : Identifier → Ident
ident_of i = record { text = i.text.now; spot = i.spot }

-- An identifier as plain data, if there is one.
abbrev pub optional_ident_of : Option Identifier → Option Ident
optional_ident_of None = None
optional_ident_of (Some i) = Some (ident_of i)

-- A name as plain data.
abbrev pub name_of : Name → NameTree
name_of n = record { first = ident_of n.first; rest = map ident_of n.rest.items }

-- What stands behind a dot, as plain data.
abbrev pub selector_of : Selector → SelectorTree
selector_of (selector.Component i) = component (ident_of i)
selector_of (selector.All spot) = dereference spot

-- A path as plain data.
abbrev pub path_of : Path → PathTree
path_of p = record { root = ident_of p.root; selectors = map selector_of p.selectors.items }
