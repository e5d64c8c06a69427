-- The declarations, statements and units that the code keeps, as plain data.

use Rattle.std.specs.Prelude.{◌≡◌, List, Option, Some, None, map, refl}
use Rattle.std.proofs.Common.{ap, sym, ◌∙◌}
use Rattle.std.specs.Global.{Vec}
use Rattle.ada_text.specs.declared.spot.Spot.{Spot}
use Rattle.ada_tree.specs.declared.names.Identifier.{Identifier}
use Rattle.ada_tree.specs.declared.names.Name.{Name}
use Rattle.ada_tree.specs.declared.names.Path.{Path}
use Rattle.ada_tree.specs.declared.expressions.Expression.{Expression}
use Rattle.ada_tree.specs.declared.expressions.Right.{Right}
use Rattle.ada_tree.specs.declared.expressions.Argument.{Argument}
use Rattle.ada_tree.specs.declared.records.RecordDefinition.{RecordDefinition}
use Rattle.ada_tree.specs.declared.records.StaticValue.{StaticValue}
use Rattle.ada_tree.specs.declared.declarations.Aspect.{Aspect}
use Rattle.ada_tree.specs.declared.declarations.ProcedureHead.{ProcedureHead}
use Rattle.ada_tree.specs.declared.declarations.Size.{Size}
use Rattle.ada_tree.specs.declared.declarations.Declaration as declaration
use Rattle.ada_tree.specs.declared.declarations.Declaration.{Declaration, Row_of-Declaration, end_of-Declaration, more_of-Declaration, items-the_row-Declaration, items_hidden-the_row-Declaration-0}
use Rattle.ada_tree.specs.declared.declarations.Declaration.TheBlock.{shown-the_row-Statement-1, hidden-the_row-Declaration-0, hidden-the_row-Statement-1, hidden-the_row-Branch-2, hidden-the_row-Handler-3}
use Rattle.ada_tree.specs.declared.statements.Statement as statement
use Rattle.ada_tree.specs.declared.statements.Statement.{Statement, Row_of-Statement, end_of-Statement, more_of-Statement, items-the_row-Statement, items_hidden-the_row-Statement-1, items_shown-the_row-Statement-1, Row_of-Branch, end_of-Branch, more_of-Branch, items-the_row-Branch, items_hidden-the_row-Branch-2}
use Rattle.ada_tree.specs.declared.statements.Branch.{Branch}
use Rattle.ada_tree.specs.declared.statements.Handler.{Handler}
use Rattle.ada_tree.specs.declared.statements.Sequence.{Sequence, Sequence', roll-Sequence, Row_of-Handler, end_of-Handler, more_of-Handler, items-the_row-Handler, items_hidden-the_row-Handler-3}
use Rattle.ada_tree.specs.declared.statements.Scheme.{Scheme}
use Rattle.ada_tree.specs.declared.statements.Scheme.TheVariants as scheme
use Rattle.ada_tree.specs.declared.unit.Unit.{Unit as UnitOf}
use Rattle.ada_tree.specs.Names.{ident_of, optional_ident_of, name_of, path_of}
use Rattle.ada_tree.specs.Expressions.{ExpressionTree}
use Rattle.ada_tree.specs.ExpressionView.{expression_of, right_of, optional_right_of, argument_of}
use Rattle.ada_tree.specs.Records.{static_of, record_of}
use Rattle.ada_tree.specs.Declarations.{size_of, optional_aspect_of, head_of, choice_of, clause_of}
use Rattle.ada_tree.specs.Statements.{SchemeTree, endless, while_scheme, for_scheme, DeclarationTree, exception_declaration, constant_declaration, pool_declaration, object_declaration, borrower_declaration, incomplete_type, access_type, record_type, derived_type, attribute_clause, specification, body_declaration, instance, DeclarationsTree, no_declarations, a_declaration, StatementTree, null_statement, assignment, call, if_statement, loop_statement, exit_statement, return_statement, raise_statement, block, declare_block, StatementsTree, no_statements, a_statement, BranchesTree, no_branches, a_branch, HandlersTree, no_handlers, a_handler, SequenceTree, a_sequence, BranchTree, HandlerTree, UnitTree, declarations_from, statements_from, branches_from, handlers_from}

-- A condition, or none.
abbrev pub condition_of : Option Expression → Option ExpressionTree
condition_of None = None
condition_of (Some e) = Some (expression_of e)

-- How often a loop runs.
abbrev pub scheme_of : Scheme → SchemeTree
scheme_of scheme.Endless = endless
scheme_of (scheme.While e) = while_scheme (expression_of e)
scheme_of (scheme.For name first last) = for_scheme (ident_of name) (expression_of first) (expression_of last)

unfoldable mutual
  -- A declaration.
  pub declaration_of : Declaration → DeclarationTree
  declaration_of (declaration.Exception name) = exception_declaration (ident_of name)
  declaration_of (declaration.Constant name value) = constant_declaration (ident_of name) (static_of value)
  declaration_of (declaration.Pool name type_name label size) =
      pool_declaration (ident_of name) (name_of type_name) (optional_ident_of label) (size_of size)
  declaration_of (declaration.Object name type_name initial) =
      object_declaration (ident_of name) (name_of type_name) (optional_right_of initial)
  declaration_of (declaration.Borrower name designated initial) =
      borrower_declaration (ident_of name) (ident_of designated) (optional_right_of initial)
  declaration_of (declaration.IncompleteType spot name) = incomplete_type spot (ident_of name)
  declaration_of (declaration.AccessType spot name designated aspect) =
      access_type spot (ident_of name) (ident_of designated) (optional_aspect_of aspect)
  declaration_of (declaration.RecordType spot name definition) = record_type spot (ident_of name) (record_of definition)
  declaration_of (declaration.DerivedType spot name parent definition) =
      derived_type spot (ident_of name) (name_of parent) (record_of definition)
  declaration_of (declaration.Clause spot name attribute value) =
      attribute_clause spot (ident_of name) (ident_of attribute) (size_of value)
  declaration_of (declaration.Specification head) = specification (head_of head)
  declaration_of (declaration.Body' head shape declarations body end_name) =
      body_declaration (head_of head) (declarations_row declarations) (sequence_of body) (optional_ident_of end_name)
  declaration_of (declaration.Instance spot name generic designated access) =
      instance spot (ident_of name) (name_of generic) (ident_of designated) (ident_of access)

  -- The declarations inside another.
  pub declarations_row : {m : _} → Row_of-Declaration m → DeclarationsTree
  declarations_row end_of-Declaration = no_declarations
  declarations_row (more_of-Declaration d rest) = a_declaration (declaration_of d) (declarations_row rest)

  -- A statement.
  pub statement_of : Statement → StatementTree
  statement_of (statement.Null spot) = null_statement spot
  statement_of (statement.Assignment target value) = assignment (path_of target) (right_of value)
  statement_of (statement.Call procedure arguments) = call (path_of procedure) (map argument_of arguments.items)
  statement_of (statement.If' spot shape branches others otherwise last) =
      if_statement spot (branches_row branches) (statements_row otherwise) last
  statement_of (statement.Loop' spot scheme shape statements last) =
      loop_statement spot (scheme_of scheme) (statements_row statements) last
  statement_of (statement.Exit spot condition) = exit_statement spot (condition_of condition)
  statement_of (statement.Return spot) = return_statement spot
  statement_of (statement.Raise spot name) = raise_statement spot (name_of name)
  statement_of (statement.Block body) = block (sequence_of body)
  statement_of (statement.DeclareBlock' spot shape declarations body) =
      declare_block spot (declarations_row declarations) (sequence_of body)

  -- The statements inside another.
  pub statements_row : {m : _} → Row_of-Statement m → StatementsTree
  statements_row end_of-Statement = no_statements
  statements_row (more_of-Statement s rest) = a_statement (statement_of s) (statements_row rest)

  -- The conditions of an `if`.
  pub branches_row : {m : _} → Row_of-Branch m → BranchesTree
  branches_row end_of-Branch = no_branches
  branches_row (more_of-Branch condition shape statements rest) =
      a_branch (expression_of condition) (statements_row statements) (branches_row rest)

  -- A sequence of statements with its handlers.
  pub sequence_of : Sequence → SequenceTree
  sequence_of (Sequence' start shape statements others handlers last) =
      a_sequence start (statements_row statements) (handlers_row handlers) last

  -- The handlers of a sequence.
  pub handlers_row : {m : _} → Row_of-Handler m → HandlersTree
  handlers_row end_of-Handler = no_handlers
  handlers_row (more_of-Handler spot choices shape statements rest) =
      a_handler spot (map choice_of choices.items) (statements_row statements) (handlers_row rest)

-- A list of declarations.
abbrev pub declarations_of : List Declaration → DeclarationsTree
declarations_of ds = declarations_from (map declaration_of ds)

-- A list of statements.
abbrev pub statements_of : List Statement → StatementsTree
statements_of ss = statements_from (map statement_of ss)

-- A condition and its statements.
abbrev pub branch_of : Branch → BranchTree
branch_of b = record { condition = expression_of b.condition; statements = statements_of b.statements.items }

-- A handler.
abbrev pub handler_of : Handler → HandlerTree
handler_of h = record { spot = h.spot; choices = map choice_of h.choices.items; statements = statements_of h.statements.items }

-- A unit.
abbrev pub unit_of : UnitOf → UnitTree
unit_of u = record {
  clauses = map clause_of u.clauses.items;
  spot = u.spot;
  name = ident_of u.name;
  declarations = declarations_of u.declarations.items;
  body = sequence_of u.body;
  end_name = optional_ident_of u.end_name;
}

-- Each declaration by how it is made.

pub exception_view : (name : Identifier) → declaration_of (declaration.Exception name) ≡ exception_declaration (ident_of name)
unfolding declaration_of
exception_view name = refl

pub constant_view : (name : Identifier) (value : StaticValue) → declaration_of (declaration.Constant name value) ≡ constant_declaration (ident_of name) (static_of value)
unfolding declaration_of
constant_view name value = refl

pub pool_view : (name : Identifier) (type_name : Name) (label : Option Identifier) (size : Size) → declaration_of (declaration.Pool name type_name label size) ≡ pool_declaration (ident_of name) (name_of type_name) (optional_ident_of label) (size_of size)
unfolding declaration_of
pool_view name type_name label size = refl

pub object_view : (name : Identifier) (type_name : Name) (initial : Option Right) → declaration_of (declaration.Object name type_name initial) ≡ object_declaration (ident_of name) (name_of type_name) (optional_right_of initial)
unfolding declaration_of
object_view name type_name initial = refl

pub borrower_view : (name designated : Identifier) (initial : Option Right) → declaration_of (declaration.Borrower name designated initial) ≡ borrower_declaration (ident_of name) (ident_of designated) (optional_right_of initial)
unfolding declaration_of
borrower_view name designated initial = refl

pub incomplete_view : (spot : Spot) (name : Identifier) → declaration_of (declaration.IncompleteType spot name) ≡ incomplete_type spot (ident_of name)
unfolding declaration_of
incomplete_view spot name = refl

pub access_view : (spot : Spot) (name designated : Identifier) (aspect : Option Aspect) → declaration_of (declaration.AccessType spot name designated aspect) ≡ access_type spot (ident_of name) (ident_of designated) (optional_aspect_of aspect)
unfolding declaration_of
access_view spot name designated aspect = refl

pub record_view : (spot : Spot) (name : Identifier) (definition : RecordDefinition) → declaration_of (declaration.RecordType spot name definition) ≡ record_type spot (ident_of name) (record_of definition)
unfolding declaration_of
record_view spot name definition = refl

pub derived_view : (spot : Spot) (name : Identifier) (parent : Name) (definition : RecordDefinition) → declaration_of (declaration.DerivedType spot name parent definition) ≡ derived_type spot (ident_of name) (name_of parent) (record_of definition)
unfolding declaration_of
derived_view spot name parent definition = refl

pub attribute_clause_view : (spot : Spot) (name attribute : Identifier) (value : Size) → declaration_of (declaration.Clause spot name attribute value) ≡ attribute_clause spot (ident_of name) (ident_of attribute) (size_of value)
unfolding declaration_of
attribute_clause_view spot name attribute value = refl

pub specification_view : (head : ProcedureHead) → declaration_of (declaration.Specification head) ≡ specification (head_of head)
unfolding declaration_of
specification_view head = refl

pub instance_view : (spot : Spot) (name : Identifier) (generic : Name) (designated access : Identifier) → declaration_of (declaration.Instance spot name generic designated access) ≡ instance spot (ident_of name) (name_of generic) (ident_of designated) (ident_of access)
unfolding declaration_of
instance_view spot name generic designated access = refl

-- Each statement by how it is made.

pub null_view : (spot : Spot) → statement_of (statement.Null spot) ≡ null_statement spot
unfolding statement_of
null_view spot = refl

pub assignment_view : (target : Path) (value : Right) → statement_of (statement.Assignment target value) ≡ assignment (path_of target) (right_of value)
unfolding statement_of
assignment_view target value = refl

pub call_view : (procedure : Path) (arguments : Vec Argument) → statement_of (statement.Call procedure arguments) ≡ call (path_of procedure) (map argument_of arguments.items)
unfolding statement_of
call_view procedure arguments = refl

pub exit_view : (spot : Spot) (condition : Option Expression) → statement_of (statement.Exit spot condition) ≡ exit_statement spot (condition_of condition)
unfolding statement_of
exit_view spot condition = refl

pub return_view : (spot : Spot) → statement_of (statement.Return spot) ≡ return_statement spot
unfolding statement_of
return_view spot = refl

pub raise_view : (spot : Spot) (name : Name) → statement_of (statement.Raise spot name) ≡ raise_statement spot (name_of name)
unfolding statement_of
raise_view spot name = refl

pub block_view : (body : Sequence) → statement_of (statement.Block body) ≡ block (sequence_of body)
unfolding statement_of
block_view body = refl

-- The rows of which trees are made are the views of the lists that the code keeps.

declarations_in_row : {m : _} (row : Row_of-Declaration m) → declarations_row row ≡ declarations_of (items-the_row-Declaration m row)
unfolding declarations_row
declarations_in_row end_of-Declaration = refl
declarations_in_row (more_of-Declaration d rest) = ap (a_declaration (declaration_of d)) (declarations_in_row rest)

statements_in_row : {m : _} (row : Row_of-Statement m) → statements_row row ≡ statements_of (items-the_row-Statement m row)
unfolding statements_row
statements_in_row end_of-Statement = refl
statements_in_row (more_of-Statement s rest) = ap (a_statement (statement_of s)) (statements_in_row rest)

statements_shown : (shape : _) (row : _) → statements_row row ≡ statements_of (shown-the_row-Statement-1 shape row).items
statements_shown shape row = statements_in_row row ∙ ap statements_of (sym (items_shown-the_row-Statement-1 shape row))

branches_in_row : {m : _} (row : Row_of-Branch m) → branches_row row ≡ branches_from (map branch_of (items-the_row-Branch m row))
unfolding branches_row
branches_in_row end_of-Branch = refl
branches_in_row (more_of-Branch condition shape statements rest) =
    ap (λ ss. a_branch (expression_of condition) ss (branches_row rest)) (statements_shown shape statements) ∙
    ap (a_branch (expression_of condition) (statements_of (shown-the_row-Statement-1 shape statements).items)) (branches_in_row rest)

handlers_in_row : {m : _} (row : Row_of-Handler m) → handlers_row row ≡ handlers_from (map handler_of (items-the_row-Handler m row))
unfolding handlers_row
handlers_in_row end_of-Handler = refl
handlers_in_row (more_of-Handler spot choices shape statements rest) =
    ap (λ ss. a_handler spot (map choice_of choices.items) ss (handlers_row rest)) (statements_shown shape statements) ∙
    ap (a_handler spot (map choice_of choices.items) (statements_of (shown-the_row-Statement-1 shape statements).items)) (handlers_in_row rest)

declarations_hidden : (ds : Vec Declaration) → declarations_row (hidden-the_row-Declaration-0 ds) ≡ declarations_of ds.items
declarations_hidden ds = declarations_in_row (hidden-the_row-Declaration-0 ds) ∙ ap declarations_of (items_hidden-the_row-Declaration-0 ds)

statements_hidden : (ss : Vec Statement) → statements_row (hidden-the_row-Statement-1 ss) ≡ statements_of ss.items
statements_hidden ss = statements_in_row (hidden-the_row-Statement-1 ss) ∙ ap statements_of (items_hidden-the_row-Statement-1 ss)

branches_hidden : (bs : Vec Branch) → branches_row (hidden-the_row-Branch-2 bs) ≡ branches_from (map branch_of bs.items)
branches_hidden bs =
    branches_in_row (hidden-the_row-Branch-2 bs) ∙ ap (λ xs. branches_from (map branch_of xs)) (items_hidden-the_row-Branch-2 bs)

handlers_hidden : (hs : Vec Handler) → handlers_row (hidden-the_row-Handler-3 hs) ≡ handlers_from (map handler_of hs.items)
handlers_hidden hs =
    handlers_in_row (hidden-the_row-Handler-3 hs) ∙ ap (λ xs. handlers_from (map handler_of xs)) (items_hidden-the_row-Handler-3 hs)

-- The declarations and statements in which others nest, by how they are made.

pub body_view : (head : ProcedureHead) (declarations : Vec Declaration) (body : Sequence) (end_name : Option Identifier) → declaration_of (declaration.Body head declarations body end_name) ≡ body_declaration (head_of head) (declarations_of declarations.items) (sequence_of body) (optional_ident_of end_name)
unfolding declaration_of
body_view head declarations body end_name =
    ap (λ ds. body_declaration (head_of head) ds (sequence_of body) (optional_ident_of end_name)) (declarations_hidden declarations)

pub declare_block_view : (spot : Spot) (declarations : Vec Declaration) (body : Sequence) → statement_of (statement.DeclareBlock spot declarations body) ≡ declare_block spot (declarations_of declarations.items) (sequence_of body)
unfolding statement_of
declare_block_view spot declarations body = ap (λ ds. declare_block spot ds (sequence_of body)) (declarations_hidden declarations)

pub loop_view : (spot : Spot) (scheme : Scheme) (statements : Vec Statement) (last : Spot) → statement_of (statement.Loop spot scheme statements last) ≡ loop_statement spot (scheme_of scheme) (statements_of statements.items) last
unfolding statement_of
loop_view spot scheme statements last = ap (λ ss. loop_statement spot (scheme_of scheme) ss last) (statements_hidden statements)

pub if_view : (spot : Spot) (branches : Vec Branch) (otherwise : Vec Statement) (last : Spot) → statement_of (statement.If spot branches otherwise last) ≡ if_statement spot (branches_from (map branch_of branches.items)) (statements_of otherwise.items) last
unfolding statement_of
if_view spot branches otherwise last =
    ap (λ bs. if_statement spot bs (statements_row (hidden-the_row-Statement-1 otherwise)) last) (branches_hidden branches) ∙
    ap (λ ss. if_statement spot (branches_from (map branch_of branches.items)) ss last) (statements_hidden otherwise)

pub sequence_view : (start : Spot) (statements : Vec Statement) (handlers : Vec Handler) (last : Spot) → sequence_of (roll-Sequence (record { begin = start; statements = statements; handlers = handlers; «end» = last })) ≡ a_sequence start (statements_of statements.items) (handlers_from (map handler_of handlers.items)) last
unfolding sequence_of roll-Sequence denote.Hole.Carrier.roll
sequence_view start statements handlers last =
    ap (λ ss. a_sequence start ss (handlers_row (hidden-the_row-Handler-3 handlers)) last) (statements_hidden statements) ∙
    ap (λ hs. a_sequence start (statements_of statements.items) hs last) (handlers_hidden handlers)

-- The views of declarations and statements, step by step.
pub ruleset statement_rules = (exception_view, constant_view, pool_view, object_view, borrower_view, incomplete_view, access_view, record_view, derived_view, attribute_clause_view, specification_view, instance_view, null_view, assignment_view, call_view, exit_view, return_view, raise_view, block_view, body_view, declare_block_view, loop_view, if_view, sequence_view)
