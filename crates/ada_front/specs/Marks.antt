-- What stands in the text of a unit, in its order: the places that divide it, and between them its simple declarations and statements.

use Rattle.std.specs.Prelude.{◌≡◌, Bool, false, if◌then◌else◌, List, [], ◌∷◌, ◌++◌}
use Rattle.ada_text.specs.declared.spot.Spot.{Spot}
use Rattle.ada_tree.specs.Names.{Ident}
use Rattle.ada_tree.specs.Records.{null_record}
use Rattle.ada_tree.specs.Statements.{DeclarationTree, incomplete_type, record_type, specification, body_declaration, DeclarationsTree, no_declarations, a_declaration, StatementTree, if_statement, loop_statement, block, declare_block, StatementsTree, no_statements, a_statement, BranchesTree, no_branches, a_branch, HandlersTree, no_handlers, a_handler, SequenceTree, a_sequence, begin_of, has_statements, UnitTree}
use Rattle.ada_front.specs.Front.{has_begun, has_branches, stands_before, statements_start}
use Rattle.ada_front.specs.Spots.{declaration_start, expression_start, statement_start}

-- A place where something begins, a type of a name that is incomplete or has no components, another simple declaration, or a simple statement:
-- one without statements in it.
pub data Mark : Type 0 where
  a_place : Spot → Mark
  declares_type : Spot → Ident → Mark
  declares : DeclarationTree → Mark
  does : StatementTree → Mark

-- Where one begins.
abbrev pub mark_spot : Mark → Spot
mark_spot (a_place spot) = spot
mark_spot (declares_type spot name) = spot
mark_spot (declares d) = declaration_start d
mark_spot (does s) = statement_start s

abbrev mutual
  -- Of a declaration. The specification of an operation is a place alone: it is left out where its body is not left.
  pub declaration_marks : DeclarationTree → List Mark
  declaration_marks (incomplete_type spot name) = declares_type spot name ∷ []
  declaration_marks (record_type spot name null_record) = declares_type spot name ∷ []
  declaration_marks (specification head) = a_place (declaration_start (specification head)) ∷ []
  declaration_marks (body_declaration head ds body end_name) =
      a_place (declaration_start (body_declaration head ds body end_name)) ∷
      declarations_marks ds ++ a_place (begin_of body) ∷ sequence_marks body
  declaration_marks other = declares other ∷ []

  -- Of declarations.
  pub declarations_marks : DeclarationsTree → List Mark
  declarations_marks no_declarations = []
  declarations_marks (a_declaration d ds) = declaration_marks d ++ declarations_marks ds

  -- Of a statement: of an `if`, which has a branch, its branches, where its `else` or its `end` begins, and the statements behind `else`.
  pub statement_marks : StatementTree → List Mark
  statement_marks (if_statement spot bs others last) =
      a_place spot ∷
      (if has_branches bs then branches_marks bs ++ a_place (statements_start others last) ∷ statements_marks others else [])
  statement_marks (loop_statement spot scheme ss last) = a_place spot ∷ statements_marks ss
  statement_marks (block body) = a_place (begin_of body) ∷ sequence_marks body
  statement_marks (declare_block spot ds body) =
      a_place spot ∷ declarations_marks ds ++ a_place (begin_of body) ∷ sequence_marks body
  statement_marks other = does other ∷ []

  -- Of statements.
  pub statements_marks : StatementsTree → List Mark
  statements_marks no_statements = []
  statements_marks (a_statement s ss) = statement_marks s ++ statements_marks ss

  -- Of branches: each condition, and its statements.
  pub branches_marks : BranchesTree → List Mark
  branches_marks no_branches = []
  branches_marks (a_branch condition ss bs) =
      a_place (expression_start condition) ∷ statements_marks ss ++ branches_marks bs

  -- Of handlers: each `when`, and its statements.
  pub handlers_marks : HandlersTree → List Mark
  handlers_marks no_handlers = []
  handlers_marks (a_handler spot choices ss hs) = a_place spot ∷ statements_marks ss ++ handlers_marks hs

  -- Of a sequence, which has a statement: its statements, its handlers, and its `end`.
  pub sequence_marks : SequenceTree → List Mark
  sequence_marks (a_sequence start ss hs last) =
      if has_statements ss then statements_marks ss ++ (handlers_marks hs ++ a_place last ∷ []) else []

-- Of a unit.
abbrev pub unit_marks : UnitTree → List Mark
unit_marks tree = declarations_marks tree.declarations ++ a_place (begin_of tree.body) ∷ sequence_marks tree.body

-- The simple declarations and statements among these.
abbrev pub simple : List Mark → List Mark
simple [] = []
simple (a_place spot ∷ ms) = simple ms
simple (declares_type spot name ∷ ms) = declares_type spot name ∷ simple ms
simple (declares d ∷ ms) = declares d ∷ simple ms
simple (does s ∷ ms) = does s ∷ simple ms

-- The first one of these has begun by the fault.
abbrev pub marks_begun : (fault : Spot) → List Mark → Bool
marks_begun fault [] = false
marks_begun fault (m ∷ ms) = has_begun fault (mark_spot m)

-- Those that are over by the fault: behind each another one has begun.
abbrev pub over_by : (fault : Spot) → List Mark → List Mark
over_by fault [] = []
over_by fault (m ∷ ms) = if marks_begun fault ms then m ∷ over_by fault ms else []

-- The first one of these does not stand before this one.
abbrev pub IsFirst : Mark → List Mark → Type 0
IsFirst m [] = Unit {0}
IsFirst m (n ∷ ms) = stands_before (mark_spot n) (mark_spot m) ≡ false

-- None of these stands before the one in front of it: they are in the order of a text.
abbrev pub InOrder : List Mark → Type 0
InOrder [] = Unit {0}
InOrder (m ∷ ms) = IsFirst m ms × InOrder ms
