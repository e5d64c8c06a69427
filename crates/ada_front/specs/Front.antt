-- The front of a tree before a fault of its names: what stands before that in the text, cut so that it has a meaning of its own.

use Rattle.std.specs.Prelude.{ℕ, ◌==◌, Bool, true, false, ◌&&◌, ◌||◌, not, nat_lt, if◌then◌else◌, List, [], ◌∷◌, None, bytes_eq}
use Rattle.ada_text.specs.declared.spot.Spot.{Spot}
use Rattle.ada_tree.specs.Names.{Ident}
use Rattle.ada_tree.specs.Declarations.{FormalTree, HeadTree, ChoiceTree}
use Rattle.ada_tree.specs.Expressions.{ExpressionTree}
use Rattle.ada_tree.specs.Records.{null_record}
use Rattle.ada_tree.specs.Statements.{SchemeTree, DeclarationTree, incomplete_type, access_type, record_type, derived_type, specification, body_declaration, DeclarationsTree, no_declarations, a_declaration, StatementTree, if_statement, loop_statement, block, declare_block, StatementsTree, no_statements, a_statement, BranchesTree, no_branches, a_branch, HandlersTree, no_handlers, a_handler, SequenceTree, a_sequence, begin_of, has_statements, UnitTree}
use Rattle.ada_front.specs.Spots.{declaration_start, expression_start, statement_start}

-- A place stands before another one in the text: by line, then by column.
abbrev pub stands_before : Spot → Spot → Bool
stands_before a b = nat_lt a.line b.line || ((a.line == b.line) && nat_lt a.column b.column)

-- What begins here has begun by the fault.
abbrev pub has_begun : (fault : Spot) → Spot → Bool
has_begun fault spot = not (stands_before fault spot)

-- Has the first one of these begun?

-- Of declarations.
abbrev pub declarations_begun : (fault : Spot) → DeclarationsTree → Bool
declarations_begun fault no_declarations = false
declarations_begun fault (a_declaration d ds) = has_begun fault (declaration_start d)

-- Of statements.
abbrev pub statements_begun : (fault : Spot) → StatementsTree → Bool
statements_begun fault no_statements = false
statements_begun fault (a_statement s ss) = has_begun fault (statement_start s)

-- Of branches: one begins with its condition.
abbrev pub branches_begun : (fault : Spot) → BranchesTree → Bool
branches_begun fault no_branches = false
branches_begun fault (a_branch condition ss bs) = has_begun fault (expression_start condition)

-- Of handlers: one begins with its `when`.
abbrev pub handlers_begun : (fault : Spot) → HandlersTree → Bool
handlers_begun fault no_handlers = false
handlers_begun fault (a_handler spot choices ss hs) = has_begun fault spot

-- Where statements begin; where there are none, what stands behind them.
abbrev pub statements_start : StatementsTree → (behind : Spot) → Spot
statements_start no_statements behind = behind
statements_start (a_statement s ss) behind = statement_start s

-- Where handlers begin; where there are none, what stands behind them.
abbrev pub handlers_start : HandlersTree → (behind : Spot) → Spot
handlers_start no_handlers behind = behind
handlers_start (a_handler spot choices ss hs) behind = spot

-- What is left of one that the fault lies in: it stays where something stays in it, and else nothing does.

-- Whether there is a declaration, a branch, a statement of a sequence.
abbrev pub has_declarations : DeclarationsTree → Bool
has_declarations no_declarations = false
has_declarations (a_declaration d ds) = true

-- Whether there is a branch.
abbrev pub has_branches : BranchesTree → Bool
has_branches no_branches = false
has_branches (a_branch condition ss bs) = true

-- The statements of a sequence, without its handlers.
abbrev pub statements_in : SequenceTree → StatementsTree
statements_in (a_sequence start ss hs last) = ss

-- A declaration that stays, or none.
abbrev pub left_declaration : Bool → DeclarationTree → DeclarationsTree
left_declaration true d = a_declaration d no_declarations
left_declaration false d = no_declarations

-- A statement that stays, or none.
abbrev pub left_statement : Bool → StatementTree → StatementsTree
left_statement true s = a_statement s no_statements
left_statement false s = no_statements

-- A branch with these statements, where there are any.
abbrev pub left_branch : ExpressionTree → StatementsTree → BranchesTree
left_branch condition no_statements = no_branches
left_branch condition (a_statement s ss) = a_branch condition (a_statement s ss) no_branches

-- A handler with these statements, where there are any.
abbrev pub left_handler : Spot → List ChoiceTree → StatementsTree → HandlersTree
left_handler spot choices no_statements = no_handlers
left_handler spot choices (a_statement s ss) = a_handler spot choices (a_statement s ss) no_handlers

-- An `if` with these branches, where there are any.
abbrev pub left_if : Spot → BranchesTree → StatementsTree → Spot → StatementsTree
left_if spot bs others last = left_statement (has_branches bs) (if_statement spot bs others last)

-- A loop with these statements, where there are any.
abbrev pub left_loop : Spot → SchemeTree → StatementsTree → Spot → StatementsTree
left_loop spot scheme ss last = left_statement (has_statements ss) (loop_statement spot scheme ss last)

-- A block with these statements, where there are any.
abbrev pub left_block : SequenceTree → StatementsTree
left_block body = left_statement (has_statements (statements_in body)) (block body)

-- A block with these declarations and statements, where there are any.
abbrev pub left_declare_block : Spot → DeclarationsTree → SequenceTree → StatementsTree
left_declare_block spot ds body =
    left_statement (has_declarations ds || has_statements (statements_in body)) (declare_block spot ds body)

-- A body with these declarations and statements, where there are any; the name behind its end is of no account.
abbrev pub left_body : HeadTree → DeclarationsTree → SequenceTree → DeclarationsTree
left_body head ds body =
    left_declaration (has_declarations ds || has_statements (statements_in body)) (body_declaration head ds body None)

-- What a part in which the fault lies would lack at its `begin` is taken out of it: that calls nothing.

-- The name of the type of a procedure's first formal parameter, if it has one.
abbrev pub operand_name : List FormalTree → List ℕ
operand_name [] = []
operand_name (f ∷ fs) = f.type_name.text

-- A body is that of an operation with this head: of the same name, for a type of the same name (6.3).
abbrev pub is_body_of : HeadTree → DeclarationTree → Bool
is_body_of head (body_declaration other ds body end_name) =
    bytes_eq other.name.text head.name.text && bytes_eq (operand_name other.formals) (operand_name head.formals)
is_body_of head other = false

-- An operation has its body among these.
abbrev pub has_body : HeadTree → DeclarationsTree → Bool
has_body head no_declarations = false
has_body head (a_declaration d ds) = is_body_of head d || has_body head ds

-- A declaration completes the incomplete type of this name (3.10.1).
abbrev pub completes : Ident → DeclarationTree → Bool
completes name (access_type spot other designated aspect) = bytes_eq other.text name.text
completes name (record_type spot other definition) = bytes_eq other.text name.text
completes name (derived_type spot other parent definition) = bytes_eq other.text name.text
completes name other = false

-- An incomplete type is completed among these.
abbrev pub is_completed : Ident → DeclarationsTree → Bool
is_completed name no_declarations = false
is_completed name (a_declaration d ds) = completes name d || is_completed name ds

-- A declaration before those that are left behind it in its part: an operation that has no body there goes, and an incomplete type that is not
-- completed there has no components.
abbrev pub settled : DeclarationTree → DeclarationsTree → DeclarationsTree
settled (specification head) ds = if has_body head ds then a_declaration (specification head) ds else ds
settled (incomplete_type spot name) ds =
    a_declaration (if is_completed name ds then incomplete_type spot name else record_type spot name null_record) ds
settled other ds = a_declaration other ds

-- The declarations of a part that lacks nothing.
abbrev pub settled_all : DeclarationsTree → DeclarationsTree
settled_all no_declarations = no_declarations
settled_all (a_declaration d ds) = settled d (settled_all ds)

-- The declarations of a part whose `begin` stands here, given those before the fault: all of them where the `begin` stands before the fault; else these,
-- or, at the `begin`, all, so that the part lacks nothing.
abbrev pub part_left : (fault start : Spot) → (all before : DeclarationsTree) → DeclarationsTree
part_left fault start all before =
    if stands_before start fault then all else settled_all (if stands_before fault start then before else all)

unfoldable mutual
  -- The declarations before the fault: each one behind which another one has begun, and what is left of the last one that has begun.
  pub declarations_before : (fault : Spot) → DeclarationsTree → DeclarationsTree
  declarations_before fault no_declarations = no_declarations
  declarations_before fault (a_declaration d ds) =
      if stands_before fault (declaration_start d) then no_declarations
      else if declarations_begun fault ds then a_declaration d (declarations_before fault ds)
      else declaration_before fault d

  -- What is left of a declaration that the fault lies in: a body may be.
  pub declaration_before : (fault : Spot) → DeclarationTree → DeclarationsTree
  declaration_before fault (body_declaration head ds body end_name) =
      left_body head
      (part_left fault (begin_of body) ds (declarations_before fault ds))
      (sequence_before fault body)
  declaration_before fault other = no_declarations

  -- The statements before the fault: each one behind which another one has begun, and what is left of the last one that has begun.
  pub statements_before : (fault : Spot) → StatementsTree → StatementsTree
  statements_before fault no_statements = no_statements
  statements_before fault (a_statement s ss) =
      if stands_before fault (statement_start s) then no_statements
      else if statements_begun fault ss then a_statement s (statements_before fault ss)
      else statement_before fault s

  -- What is left of a statement that the fault lies in: one with others in it may be.
  pub statement_before : (fault : Spot) → StatementTree → StatementsTree
  statement_before fault (if_statement spot bs others last) =
      left_if spot (if stands_before fault (statements_start others last) then branches_before fault bs else bs)
      (statements_before fault others) last
  statement_before fault (loop_statement spot scheme ss last) = left_loop spot scheme (statements_before fault ss) last
  statement_before fault (block body) = left_block (sequence_before fault body)
  statement_before fault (declare_block spot ds body) =
      left_declare_block spot
      (part_left fault (begin_of body) ds (declarations_before fault ds))
      (sequence_before fault body)
  statement_before fault other = no_statements

  -- The branches before the fault: each one behind which another one has begun, and of the last one that has begun the statements before it.
  pub branches_before : (fault : Spot) → BranchesTree → BranchesTree
  branches_before fault no_branches = no_branches
  branches_before fault (a_branch condition ss bs) =
      if stands_before fault (expression_start condition) then no_branches
      else if branches_begun fault bs then a_branch condition ss (branches_before fault bs)
      else left_branch condition (statements_before fault ss)

  -- The handlers before the fault: each one behind which another one has begun, and of the last one that has begun the statements before it.
  pub handlers_before : (fault : Spot) → HandlersTree → HandlersTree
  handlers_before fault no_handlers = no_handlers
  handlers_before fault (a_handler spot choices ss hs) =
      if stands_before fault spot then no_handlers
      else if handlers_begun fault hs then a_handler spot choices ss (handlers_before fault hs)
      else left_handler spot choices (statements_before fault ss)

  -- A sequence before the fault: its statements are over where a handler or its `end` has begun, and its handlers where its `end` has.
  pub sequence_before : (fault : Spot) → SequenceTree → SequenceTree
  sequence_before fault (a_sequence start ss hs last) =
      a_sequence start (if stands_before fault (handlers_start hs last) then statements_before fault ss else ss)
      (if stands_before fault last then handlers_before fault hs else hs) last

-- The declarations of a part whose `begin` stands here, before the fault.
abbrev pub part_before : (fault start : Spot) → DeclarationsTree → DeclarationsTree
part_before fault start ds = part_left fault start ds (declarations_before fault ds)

-- The front of a unit before a fault: its clauses and its head, and what stands before the fault of its declarations and its statements.
abbrev pub front_of : (fault : Spot) → UnitTree → UnitTree
front_of fault tree = record tree {
  declarations = part_before fault (begin_of tree.body) tree.declarations;
  body = sequence_before fault tree.body;
  end_name = None;
}
