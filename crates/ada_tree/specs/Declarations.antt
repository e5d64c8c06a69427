-- The parts of declarations in which none nests, and how they are written.

use Rattle.std.specs.Prelude.{ℕ, ◌-◌, List, [], ◌∷◌, ◌++◌, map, Option, Some, None}
use Rattle.std.specs.List.{flat_map}
use Rattle.ada_text.specs.declared.spot.Spot.{Spot}
use Rattle.ada_text.specs.declared.word.Word.{Word}
use Rattle.ada_text.specs.declared.word.Word.TheVariants as word
use Rattle.ada_text.specs.declared.delimiter.Delimiter.TheVariants.{Arrow, Bar, Colon, Comma, LeftParenthesis, RightParenthesis, Semicolon}
use Rattle.ada_text.specs.Token.{number, reserved, delimiter}
use Rattle.ada_tree.specs.declared.declarations.Size.{Size}
use Rattle.ada_tree.specs.declared.declarations.Size.TheVariants as size
use Rattle.ada_tree.specs.declared.declarations.Aspect.{Aspect}
use Rattle.ada_tree.specs.declared.declarations.Formal.{Formal}
use Rattle.ada_tree.specs.declared.declarations.ProcedureHead.{ProcedureHead}
use Rattle.ada_tree.specs.declared.statements.Choice.{Choice}
use Rattle.ada_tree.specs.declared.statements.Choice.TheVariants as choice
use Rattle.ada_tree.specs.declared.unit.Clause.{Clause}
use Rattle.ada_tree.specs.Piece.{Piece, anywhere, placed, never, opening, opening_at}
use Rattle.ada_tree.specs.Names.{Ident, NameTree, ident_pieces, name_pieces, ident_of, name_of}

-- A number of storage elements, or the name of what is given in its place (13.3, 13.11).
pub data SizeTree : Type 0 where
  number_size : Spot → ℕ → SizeTree
  named_size : Ident → SizeTree

-- An aspect: `with`, its name and its value (13.1.1).
pub record AspectTree : Type 0 where
  pub spot : Spot
  pub name : Ident
  pub value : Ident

-- A formal of a procedure; where `in` and `out` stand, if they are written (6.1).
pub record FormalTree : Type 0 where
  pub name : Ident
  pub input : Option Spot
  pub output : Option Spot
  pub type_name : Ident

-- What stands before the `;` or the `is` of a procedure (6.1, 8.3.1).
pub record HeadTree : Type 0 where
  pub overriding : Option Spot
  pub spot : Spot
  pub name : Ident
  pub formals : List FormalTree

-- A choice of a handler: an exception, or `others` (11.2).
pub data ChoiceTree : Type 0 where
  named_choice : NameTree → ChoiceTree
  others_choice : Spot → ChoiceTree

-- A `with` clause: one name or more (10.1.2).
pub record ClauseTree : Type 0 where
  pub first : NameTree
  pub rest : List NameTree

-- How each is written; `room` levels of nesting may be open inside.

-- `64` or a name
abbrev pub size_pieces : SizeTree → List Piece
size_pieces (number_size spot n) = placed (number n) spot ∷ []
size_pieces (named_size i) = ident_pieces i

-- `Pool_Size =>`, or nothing
abbrev pub size_label_pieces : Option Ident → List Piece
size_label_pieces None = []
size_label_pieces (Some i) = ident_pieces i ++ anywhere (delimiter Arrow) ∷ []

-- `(Pool_Size => 64)`
abbrev pub constraint_pieces : ℕ → Option Ident → SizeTree → List Piece
constraint_pieces room label size =
    opening room (delimiter LeftParenthesis) ∷ size_label_pieces label ++ size_pieces size ++
    anywhere (delimiter RightParenthesis) ∷ []

-- `with Storage_Pool => P`, or nothing
abbrev pub aspect_pieces : Option AspectTree → List Piece
aspect_pieces None = []
aspect_pieces (Some a) =
    placed (reserved word.With) a.spot ∷ ident_pieces a.name ++ anywhere (delimiter Arrow) ∷ ident_pieces a.value

-- a word where it is written
abbrev pub optional_word_pieces : Word → Option Spot → List Piece
optional_word_pieces w None = []
optional_word_pieces w (Some spot) = placed (reserved w) spot ∷ []

-- `X : in out T`
abbrev pub formal_pieces : FormalTree → List Piece
formal_pieces f =
    ident_pieces f.name ++ anywhere (delimiter Colon) ∷ optional_word_pieces word.«In» f.input ++
    optional_word_pieces word.Out f.output ++ ident_pieces f.type_name

-- `; X : T`
abbrev pub next_formal_pieces : FormalTree → List Piece
next_formal_pieces f = anywhere (delimiter Semicolon) ∷ formal_pieces f

-- `(X : T; Y : in out T)`, or nothing
abbrev pub formals_pieces : ℕ → List FormalTree → List Piece
formals_pieces room [] = []
formals_pieces room (f ∷ fs) =
    opening room (delimiter LeftParenthesis) ∷ formal_pieces f ++ flat_map next_formal_pieces fs ++
    anywhere (delimiter RightParenthesis) ∷ []

-- `overriding procedure P (X : T)` before a `;`
abbrev pub specification_pieces : ℕ → HeadTree → List Piece
specification_pieces room h =
    optional_word_pieces word.Overriding h.overriding ++ placed (reserved word.Procedure) h.spot ∷ ident_pieces h.name ++
    formals_pieces room h.formals

-- `overriding procedure`, the first of which opens a level
abbrev pub body_start_pieces : ℕ → Option Spot → Spot → List Piece
body_start_pieces room None spot = opening_at room (reserved word.Procedure) spot ∷ []
body_start_pieces room (Some first) spot = opening_at room (reserved word.Overriding) first ∷ placed (reserved word.Procedure) spot ∷ []

-- `overriding procedure P (X : T)` before an `is`
abbrev pub body_head_pieces : ℕ → HeadTree → List Piece
body_head_pieces room h =
    body_start_pieces room h.overriding h.spot ++ ident_pieces h.name ++ formals_pieces (room - 1) h.formals

-- `A.B` or `others`
abbrev pub choice_pieces : ChoiceTree → List Piece
choice_pieces (named_choice n) = name_pieces n
choice_pieces (others_choice spot) = placed (reserved word.Others) spot ∷ []

-- `| A.B`
abbrev pub next_choice_pieces : ChoiceTree → List Piece
next_choice_pieces c = anywhere (delimiter Bar) ∷ choice_pieces c

-- `A.B | others`: one or more
abbrev pub choices_pieces : List ChoiceTree → List Piece
choices_pieces [] = never ∷ []
choices_pieces (c ∷ cs) = choice_pieces c ++ flat_map next_choice_pieces cs

-- `, A.B`
abbrev pub next_name_pieces : NameTree → List Piece
next_name_pieces n = anywhere (delimiter Comma) ∷ name_pieces n

-- `with A.B, C;`
abbrev pub clause_pieces : ClauseTree → List Piece
clause_pieces c =
    anywhere (reserved word.With) ∷ name_pieces c.first ++ flat_map next_name_pieces c.rest ++ anywhere (delimiter Semicolon) ∷ []

-- the name after `end`, or nothing
abbrev pub end_name_pieces : Option Ident → List Piece
end_name_pieces None = []
end_name_pieces (Some i) = ident_pieces i

-- The trees that the code keeps, as plain data.

-- A size as plain data.
abbrev pub size_of : Size → SizeTree
size_of (size.Number spot n) = number_size spot n
size_of (size.Named i) = named_size (ident_of i)

-- An aspect as plain data.
abbrev pub aspect_of : Aspect → AspectTree
aspect_of a = record { spot = a.spot; name = ident_of a.name; value = ident_of a.value }

-- An aspect as plain data, if there is one.
abbrev pub optional_aspect_of : Option Aspect → Option AspectTree
optional_aspect_of None = None
optional_aspect_of (Some a) = Some (aspect_of a)

-- A formal as plain data.
abbrev pub formal_of : Formal → FormalTree
formal_of f = record { name = ident_of f.name; input = f.input; output = f.output; type_name = ident_of f.type_name }

-- The head of a procedure as plain data.
abbrev pub head_of : ProcedureHead → HeadTree
head_of h = record { overriding = h.overriding; spot = h.spot; name = ident_of h.name; formals = map formal_of h.formals.items }

-- A choice as plain data.
abbrev pub choice_of : Choice → ChoiceTree
choice_of (choice.Named n) = named_choice (name_of n)
choice_of (choice.Others spot) = others_choice spot

-- A `with` clause as plain data.
abbrev pub clause_of : Clause → ClauseTree
clause_of c = record { first = name_of c.first; rest = map name_of c.rest.items }
