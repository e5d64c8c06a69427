-- Declarations and statements, and how they are written.

use Rattle.std.specs.Prelude.{ℕ, ◌-◌, Bool, true, false, List, [], ◌∷◌, ◌++◌, Option, Some, None}
use Rattle.std.specs.List.{flat_map}
use Rattle.ada_text.specs.declared.spot.Spot.{Spot}
use Rattle.ada_text.specs.declared.word.Word.TheVariants as word
use Rattle.ada_text.specs.declared.delimiter.Delimiter.TheVariants.{Arrow, Assign, Colon, Comma, DoubleDot, LeftParenthesis, RightParenthesis, Semicolon, Tick}
use Rattle.ada_text.specs.Token.{reserved, delimiter, Lexeme}
use Rattle.ada_tree.specs.Piece.{Piece, anywhere, placed, never, opening, opening_at, guarded, Written}
use Rattle.ada_tree.specs.Names.{Ident, NameTree, PathTree, ident_pieces, name_pieces, path_pieces}
use Rattle.ada_tree.specs.Expressions.{ExpressionTree, RightTree, ArgumentTree, expression_pieces, right_pieces, initial_pieces, argument_pieces}
use Rattle.ada_tree.specs.Records.{StaticTree, RecordTree, static_pieces, record_pieces}
use Rattle.ada_tree.specs.Declarations.{SizeTree, AspectTree, HeadTree, ChoiceTree, ClauseTree, size_pieces, constraint_pieces, aspect_pieces, specification_pieces, body_head_pieces, choices_pieces, clause_pieces, end_name_pieces}

-- How often a loop runs (5.5).
pub data SchemeTree : Type 0 where
  endless : SchemeTree
  while_scheme : ExpressionTree → SchemeTree
  for_scheme : Ident → ExpressionTree → ExpressionTree → SchemeTree

mutual
  -- A declaration (3.1).
  pub data DeclarationTree : Type 0 where
    exception_declaration : Ident → DeclarationTree
    constant_declaration : Ident → StaticTree → DeclarationTree
    pool_declaration : Ident → NameTree → Option Ident → SizeTree → DeclarationTree
    object_declaration : Ident → NameTree → Option RightTree → DeclarationTree
    borrower_declaration : Ident → Ident → Option RightTree → DeclarationTree
    incomplete_type : Spot → Ident → DeclarationTree
    access_type : Spot → Ident → Ident → Option AspectTree → DeclarationTree
    record_type : Spot → Ident → RecordTree → DeclarationTree
    derived_type : Spot → Ident → NameTree → RecordTree → DeclarationTree
    attribute_clause : Spot → Ident → Ident → SizeTree → DeclarationTree
    specification : HeadTree → DeclarationTree
    body_declaration : HeadTree → DeclarationsTree → SequenceTree → Option Ident → DeclarationTree
    instance : Spot → Ident → NameTree → Ident → Ident → DeclarationTree

  -- Declarations, one after the other (3.11).
  pub data DeclarationsTree : Type 0 where
    no_declarations : DeclarationsTree
    a_declaration : DeclarationTree → DeclarationsTree → DeclarationsTree

  -- A statement (5.1).
  pub data StatementTree : Type 0 where
    null_statement : Spot → StatementTree
    assignment : PathTree → RightTree → StatementTree
    call : PathTree → List ArgumentTree → StatementTree
    if_statement : Spot → BranchesTree → StatementsTree → Spot → StatementTree
    loop_statement : Spot → SchemeTree → StatementsTree → Spot → StatementTree
    exit_statement : Spot → Option ExpressionTree → StatementTree
    return_statement : Spot → StatementTree
    raise_statement : Spot → NameTree → StatementTree
    block : SequenceTree → StatementTree
    declare_block : Spot → DeclarationsTree → SequenceTree → StatementTree

  -- Statements, one after the other (5.1).
  pub data StatementsTree : Type 0 where
    no_statements : StatementsTree
    a_statement : StatementTree → StatementsTree → StatementsTree

  -- The conditions of an `if`, each with its statements (5.3).
  pub data BranchesTree : Type 0 where
    no_branches : BranchesTree
    a_branch : ExpressionTree → StatementsTree → BranchesTree → BranchesTree

  -- The handlers behind `exception` (11.2).
  pub data HandlersTree : Type 0 where
    no_handlers : HandlersTree
    a_handler : Spot → List ChoiceTree → StatementsTree → HandlersTree → HandlersTree

  -- `begin`, statements, handlers and `end` (11.2).
  pub data SequenceTree : Type 0 where
    a_sequence : Spot → StatementsTree → HandlersTree → Spot → SequenceTree

-- A condition of an `if` and its statements (5.3).
pub record BranchTree : Type 0 where
  pub condition : ExpressionTree
  pub statements : StatementsTree

-- A handler: where `when` stands, its choices and its statements (11.2).
pub record HandlerTree : Type 0 where
  pub spot : Spot
  pub choices : List ChoiceTree
  pub statements : StatementsTree

-- A compilation unit (10.1.1).
pub record UnitTree : Type 0 where
  pub clauses : List ClauseTree
  pub spot : Spot
  pub name : Ident
  pub declarations : DeclarationsTree
  pub body : SequenceTree
  pub end_name : Option Ident

-- Lists of them, as trees of their own.

-- Declarations, as a tree of their own.
abbrev pub declarations_from : List DeclarationTree → DeclarationsTree
declarations_from [] = no_declarations
declarations_from (d ∷ ds) = a_declaration d (declarations_from ds)

-- Statements, as a tree of their own.
abbrev pub statements_from : List StatementTree → StatementsTree
statements_from [] = no_statements
statements_from (s ∷ ss) = a_statement s (statements_from ss)

-- Conditions and their statements, as a tree of their own.
abbrev pub branches_from : List BranchTree → BranchesTree
branches_from [] = no_branches
branches_from (b ∷ bs) = a_branch b.condition b.statements (branches_from bs)

-- Handlers, as a tree of their own.
abbrev pub handlers_from : List HandlerTree → HandlersTree
handlers_from [] = no_handlers
handlers_from (h ∷ hs) = a_handler h.spot h.choices h.statements (handlers_from hs)

-- Whether there is a statement.
abbrev pub has_statements : StatementsTree → Bool
has_statements no_statements = false
has_statements (a_statement s ss) = true

-- Where the `begin` stands.
abbrev pub begin_of : SequenceTree → Spot
begin_of (a_sequence start _ _ _) = start

-- How each is written; `room` levels of nesting may be open inside.

-- `, X`
abbrev pub next_argument_pieces : ℕ → ArgumentTree → List Piece
next_argument_pieces room a = anywhere (delimiter Comma) ∷ argument_pieces room a

-- `(X, Y)`, or nothing
abbrev pub arguments_pieces : ℕ → List ArgumentTree → List Piece
arguments_pieces room [] = []
arguments_pieces room (a ∷ rest) =
    opening room (delimiter LeftParenthesis) ∷ argument_pieces (room - 1) a ++
    flat_map (next_argument_pieces (room - 1)) rest ++ anywhere (delimiter RightParenthesis) ∷ []

-- `when X`, or nothing
abbrev pub when_pieces : ℕ → Option ExpressionTree → List Piece
when_pieces room None = []
when_pieces room (Some e) = anywhere (reserved word.When) ∷ expression_pieces room e

-- `loop`, `while X loop` or `for I in X .. Y loop`
abbrev pub scheme_pieces : ℕ → Spot → SchemeTree → List Piece
scheme_pieces room spot endless = opening_at room (reserved word.Loop) spot ∷ []
scheme_pieces room spot (while_scheme e) =
    opening_at room (reserved word.While) spot ∷ expression_pieces (room - 1) e ++ anywhere (reserved word.Loop) ∷ []
scheme_pieces room spot (for_scheme i first last) =
    opening_at room (reserved word.For) spot ∷ ident_pieces i ++ anywhere (reserved word.«In») ∷ expression_pieces (room - 1) first ++
    anywhere (delimiter DoubleDot) ∷ expression_pieces (room - 1) last ++ anywhere (reserved word.Loop) ∷ []

-- what stands behind `else`, with the word, or nothing
abbrev pub otherwise_pieces : StatementsTree → List Piece → List Piece
otherwise_pieces no_statements pieces = []
otherwise_pieces (a_statement s ss) pieces = anywhere (reserved word.Else) ∷ pieces

-- the handlers, with the word `exception`, or nothing
abbrev pub exception_pieces : HandlersTree → List Piece → List Piece
exception_pieces no_handlers pieces = []
exception_pieces (a_handler _ _ _ _) pieces = anywhere (reserved word.Exception) ∷ pieces

-- behind the name of an object, up to its end
abbrev pub ending_pieces : List Piece
ending_pieces = anywhere (delimiter Semicolon) ∷ []

abbrev mutual
  -- A declaration, by cases on what it declares.
  pub declaration_pieces : ℕ → DeclarationTree → List Piece
  declaration_pieces room (exception_declaration name) =
      ident_pieces name ++ anywhere (delimiter Colon) ∷ anywhere (reserved word.Exception) ∷ ending_pieces
  declaration_pieces room (constant_declaration name value) =
      ident_pieces name ++ anywhere (delimiter Colon) ∷ anywhere (reserved word.Constant) ∷ anywhere (delimiter Assign) ∷
      static_pieces value ++ ending_pieces
  declaration_pieces room (pool_declaration name type_name label size) =
      ident_pieces name ++ anywhere (delimiter Colon) ∷ name_pieces type_name ++ constraint_pieces room label size ++ ending_pieces
  declaration_pieces room (object_declaration name type_name initial) =
      ident_pieces name ++ anywhere (delimiter Colon) ∷ name_pieces type_name ++ initial_pieces room initial ++ ending_pieces
  declaration_pieces room (borrower_declaration name designated initial) =
      ident_pieces name ++ anywhere (delimiter Colon) ∷ anywhere (reserved word.Access) ∷ ident_pieces designated ++
      initial_pieces room initial ++ ending_pieces
  declaration_pieces room (incomplete_type spot name) = placed (reserved word.«Type») spot ∷ ident_pieces name ++ ending_pieces
  declaration_pieces room (access_type spot name designated aspect) =
      placed (reserved word.«Type») spot ∷ ident_pieces name ++ anywhere (reserved word.Is) ∷ anywhere (reserved word.Access) ∷
      ident_pieces designated ++ aspect_pieces aspect ++ ending_pieces
  declaration_pieces room (record_type spot name definition) =
      placed (reserved word.«Type») spot ∷ ident_pieces name ++ anywhere (reserved word.Is) ∷ record_pieces definition ++
      ending_pieces
  declaration_pieces room (derived_type spot name parent definition) =
      placed (reserved word.«Type») spot ∷ ident_pieces name ++ anywhere (reserved word.Is) ∷ anywhere (reserved word.New) ∷
      name_pieces parent ++ anywhere (reserved word.With) ∷ record_pieces definition ++ ending_pieces
  declaration_pieces room (attribute_clause spot name attribute value) =
      placed (reserved word.For) spot ∷ ident_pieces name ++ anywhere (delimiter Tick) ∷ ident_pieces attribute ++
      anywhere (reserved word.Use) ∷ size_pieces value ++ ending_pieces
  declaration_pieces room (specification head) = specification_pieces room head ++ ending_pieces
  declaration_pieces room (body_declaration head declarations body end_name) =
      body_head_pieces room head ++ anywhere (reserved word.Is) ∷ declarations_pieces (room - 1) declarations ++
      placed (reserved word.Begin) (begin_of body) ∷ sequence_pieces (room - 1) body ++ end_name_pieces end_name ++ ending_pieces
  declaration_pieces room (instance spot name generic designated access) =
      placed (reserved word.Procedure) spot ∷ ident_pieces name ++ anywhere (reserved word.Is) ∷ anywhere (reserved word.New) ∷
      name_pieces generic ++ opening room (delimiter LeftParenthesis) ∷ ident_pieces designated ++ anywhere (delimiter Comma) ∷
      ident_pieces access ++ anywhere (delimiter RightParenthesis) ∷ ending_pieces

  -- Declarations, one after the other.
  pub declarations_pieces : ℕ → DeclarationsTree → List Piece
  declarations_pieces room no_declarations = []
  declarations_pieces room (a_declaration d ds) = declaration_pieces room d ++ declarations_pieces room ds

  -- A statement, by cases on what it does.
  pub statement_pieces : ℕ → StatementTree → List Piece
  statement_pieces room (null_statement spot) = placed (reserved word.Null) spot ∷ ending_pieces
  statement_pieces room (assignment target value) =
      path_pieces target ++ anywhere (delimiter Assign) ∷ right_pieces room value ++ ending_pieces
  statement_pieces room (call procedure arguments) = path_pieces procedure ++ arguments_pieces room arguments ++ ending_pieces
  statement_pieces room (if_statement spot branches otherwise last) =
      opening_at room (reserved word.If) spot ∷ branches_pieces (room - 1) branches ++
      otherwise_pieces otherwise (statements_pieces (room - 1) otherwise) ++
      placed (reserved word.End) last ∷ anywhere (reserved word.If) ∷ ending_pieces
  statement_pieces room (loop_statement spot scheme statements last) =
      scheme_pieces room spot scheme ++ guarded (has_statements statements) (statements_pieces (room - 1) statements) ++
      placed (reserved word.End) last ∷ anywhere (reserved word.Loop) ∷ ending_pieces
  statement_pieces room (exit_statement spot condition) =
      placed (reserved word.Exit) spot ∷ when_pieces room condition ++ ending_pieces
  statement_pieces room (return_statement spot) = placed (reserved word.Return) spot ∷ ending_pieces
  statement_pieces room (raise_statement spot name) = placed (reserved word.Raise) spot ∷ name_pieces name ++ ending_pieces
  statement_pieces room (block body) =
      opening_at room (reserved word.Begin) (begin_of body) ∷ sequence_pieces (room - 1) body ++ ending_pieces
  statement_pieces room (declare_block spot declarations body) =
      opening_at room (reserved word.Declare) spot ∷ declarations_pieces (room - 1) declarations ++
      placed (reserved word.Begin) (begin_of body) ∷ sequence_pieces (room - 1) body ++ ending_pieces

  -- Statements, one after the other.
  pub statements_pieces : ℕ → StatementsTree → List Piece
  statements_pieces room no_statements = []
  statements_pieces room (a_statement s ss) = statement_pieces room s ++ statements_pieces room ss

  -- `X then ..`, and as many `elsif X then ..` as there are
  pub branches_pieces : ℕ → BranchesTree → List Piece
  branches_pieces room no_branches = never ∷ []
  branches_pieces room (a_branch condition statements rest) =
      expression_pieces room condition ++ anywhere (reserved word.Then) ∷
      guarded (has_statements statements) (statements_pieces room statements) ++ more_branches_pieces room rest

  -- As many `elsif X then ..` as there are.
  pub more_branches_pieces : ℕ → BranchesTree → List Piece
  more_branches_pieces room no_branches = []
  more_branches_pieces room (a_branch condition statements rest) =
      anywhere (reserved word.Elsif) ∷ expression_pieces room condition ++ anywhere (reserved word.Then) ∷
      guarded (has_statements statements) (statements_pieces room statements) ++ more_branches_pieces room rest

  -- `when A | B => ..`, as many as there are
  pub handlers_pieces : ℕ → HandlersTree → List Piece
  handlers_pieces room no_handlers = []
  handlers_pieces room (a_handler spot choices statements rest) =
      placed (reserved word.When) spot ∷ choices_pieces choices ++ anywhere (delimiter Arrow) ∷
      guarded (has_statements statements) (statements_pieces room statements) ++ handlers_pieces room rest

  -- what stands behind `begin`, up to `end`
  pub sequence_pieces : ℕ → SequenceTree → List Piece
  sequence_pieces room (a_sequence start statements handlers last) =
      guarded (has_statements statements) (statements_pieces room statements) ++
      exception_pieces handlers (handlers_pieces room handlers) ++ placed (reserved word.End) last ∷ []

-- `with .. procedure P is .. begin .. end P;`
abbrev pub unit_pieces : ℕ → UnitTree → List Piece
unit_pieces room u =
    flat_map clause_pieces u.clauses ++ placed (reserved word.Procedure) u.spot ∷ ident_pieces u.name ++
    anywhere (reserved word.Is) ∷ declarations_pieces room u.declarations ++ placed (reserved word.Begin) (begin_of u.body) ∷
    sequence_pieces room u.body ++ end_name_pieces u.end_name ++ ending_pieces

-- How many levels of nesting there may be.
abbrev pub deepest : ℕ
deepest = 64

-- The tokens, all of them, are how the tree is written.
abbrev pub IsTextOf : List Lexeme → UnitTree → Type 0
IsTextOf tokens u = Written (unit_pieces deepest u) tokens []
