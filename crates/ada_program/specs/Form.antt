-- Statements, declarations and expressions as plain data: what they do, whatever the program keeps them in.

use Rattle.std.specs.Prelude.{◌≡◌, ℕ, ℤ, Bool, List, [], ◌∷◌, map, Option, Some, None, refl}
use Rattle.std.proofs.Common.{ap, sym, ◌∙◌}
use Rattle.std.specs.Global.{Box, Vec}
use Rattle.ada_text.specs.declared.spot.Spot.{Spot}
use Rattle.ada_values.specs.declared.operator.UnaryOperator.{UnaryOperator}
use Rattle.ada_values.specs.declared.operator.BinaryOperator.{BinaryOperator}
use Rattle.ada_program.specs.declared.program.Actual.{Actual}
use Rattle.ada_program.specs.declared.program.Actual.TheVariants as actual
use Rattle.ada_program.specs.declared.program.Declaration.{Declaration}
use Rattle.ada_program.specs.declared.program.Declaration.TheVariants.{Pool, Collection, Variable, Record}
use Rattle.ada_program.specs.declared.program.Expression.{Expression, Integer, Boolean, Path as Reads, NullTest, Unary, Chain, Unary', Chain', Row_of-Link, end_of-Link, more_of-Link, items-the_row-Link, items_hidden-the_row-Link-0}
use Rattle.ada_program.specs.declared.program.Expression.TheBlock.{hidden-the_row-Link-0}
use Rattle.ada_program.specs.declared.program.Item.{Item}
use Rattle.ada_program.specs.declared.program.Item.TheVariants as item
use Rattle.ada_program.specs.declared.program.Program.{Program}
use Rattle.ada_program.specs.declared.program.Right.{Right}
use Rattle.ada_program.specs.declared.program.Right.TheVariants as right
use Rattle.ada_program.specs.declared.program.Stmt as stmt
use Rattle.ada_program.specs.declared.program.Stmt.{Stmt, Row_of-Stmt, end_of-Stmt, more_of-Stmt, items-the_row-Stmt, items_hidden-the_row-Stmt-0, items_shown-the_row-Stmt-0, Row_of-Branch, end_of-Branch, more_of-Branch, items-the_row-Branch, items_hidden-the_row-Branch-1, Row_of-Handler, end_of-Handler, more_of-Handler, items-the_row-Handler, items_hidden-the_row-Handler-2}
use Rattle.ada_program.specs.declared.program.Stmt.TheBlock.{shown-the_row-Stmt-0, hidden-the_row-Stmt-0, hidden-the_row-Branch-1, hidden-the_row-Handler-2}
use Rattle.ada_program.specs.declared.program.Branch.{Branch}
use Rattle.ada_program.specs.declared.program.Choice.{Choice}
use Rattle.ada_program.specs.declared.program.Exception.{Exception}
use Rattle.ada_program.specs.declared.program.Handler.{Handler}
use Rattle.ada_program.specs.declared.program.ComponentNo.{ComponentNo}
use Rattle.ada_program.specs.declared.program.TypeNo.{TypeNo}
use Rattle.ada_program.specs.declared.program.VariableNo.{VariableNo}
use Rattle.ada_program.specs.declared.program.TextNo.{TextNo}
use Rattle.ada_program.specs.declared.program.Link.{Link}
use Rattle.ada_program.specs.declared.program.Path.{Path}
use Rattle.ada_program.specs.declared.program.ProcedureNo.{ProcedureNo}
use Rattle.ada_program.specs.declared.program.RecordPath.{RecordPath}

-- A path (4.1): the variable that it begins with, whether that is a record object, the components named behind it, each of the object that the
-- value before it gives access to, and where the path stands. The first component of a record object is its own: nothing is followed to it.
pub record PathForm : Type 0 where
  pub root : ℕ
  pub of_record : Bool
  pub selectors : List ℕ
  pub spot : Spot

-- A path to a record (4.1): the path to the object in which it lies, a record object or an access value, the numbers of its first elementary
-- component and of its first controlled part there, and its type.
pub record RecordPathForm : Type 0 where
  pub object : PathForm
  pub first : ℕ
  pub part : ℕ
  pub record_type : ℕ

mutual
  -- An expression (4.4): an Integer, a Boolean, the value that a path names, whether an access value is null, or is not (4.5.2), an operator
  -- before its operand, or operators of one level with their operands, which are applied from left to right (4.5).
  pub data ExpressionForm : Type 0 where
    integer : ℤ → ExpressionForm
    boolean : Bool → ExpressionForm
    reads : PathForm → ExpressionForm
    is_null : (equal : Bool) → PathForm → ExpressionForm
    applied_to : UnaryOperator → ExpressionForm → ExpressionForm
    chained : ExpressionForm → LinksForm → ExpressionForm

  -- Operators of one level, each with its right operand.
  pub data LinksForm : Type 0 where
    no_more_links : LinksForm
    a_link : BinaryOperator → ExpressionForm → LinksForm → LinksForm

-- An item of an aggregate (4.3.1): null, the access value that a path names, an expression, or a record, which is copied.
pub data ItemForm : Type 0 where
  null_item : ItemForm
  item_of_path : PathForm → ItemForm
  item_of_value : ExpressionForm → ItemForm
  item_of_record : RecordPathForm → ItemForm

-- An actual parameter (6.4.1). For a formal one of mode `in`: the value of an expression, which is an Integer or a Boolean, null, the access value
-- that a path names, or a record. For one of mode `in out`: the path to a variable, an Integer or Boolean one, or one of an access type, the path to a
-- component, or a record. A record is passed by reference (6.2).
pub data ActualForm : Type 0 where
  in_value : ExpressionForm → ActualForm
  in_null : ActualForm
  in_access : PathForm → ActualForm
  in_record : RecordPathForm → ActualForm
  in_out_path : PathForm → ActualForm
  in_out_access : PathForm → ActualForm
  in_out_component : PathForm → ActualForm
  in_out_record : RecordPathForm → ActualForm

-- What is assigned (5.2): null, the access value that a path names, a new object of an access type (4.8) with items for its components, or with
-- what they hold at first (3.3.1), or an expression.
pub data RightForm : Type 0 where
  nothing : RightForm
  value_of : PathForm → RightForm
  allocates : (access : ℕ) → List ItemForm → RightForm
  allocates_default : (access : ℕ) → RightForm
  computes : ExpressionForm → RightForm

-- A declaration (3.11): its elaboration creates a pool (13.11), the collection of an access type (7.6.1), a variable with its initial value, or a record
-- object with the items of its initial value; where there are none, its components hold what their declarations say (3.3.1).
pub data DeclarationForm : Type 0 where
  creates_pool : (pool : ℕ) → DeclarationForm
  collects : (access : ℕ) → DeclarationForm
  declares : (variable : ℕ) → RightForm → DeclarationForm
  declares_record : (variable object_type : ℕ) → (initial : Option (List ItemForm)) → DeclarationForm

mutual
  -- A statement (5.1): what it assigns to what, or to which record (5.2), what it frees by the instance for which access type (13.11.2), to what
  -- the next number of the input goes, which value or which text it writes (A.10.7), among which statements it chooses (5.3), which it repeats,
  -- while a condition is true, for each value of a parameter, or for ever (5.5), the exit from the innermost loop, perhaps on a condition (5.7),
  -- which procedure it calls, with which actual parameters (6.4), the return from the body (6.5), the exception that it raises (11.3), or a block: a master of its own (5.6).
  pub data StmtForm : Type 0 where
    skips : StmtForm
    assigns : (target : PathForm) → RightForm → StmtForm
    assigns_record : (target : RecordPathForm) → List ItemForm → StmtForm
    frees : (access : ℕ) → (path : PathForm) → StmtForm
    gets : (target : PathForm) → StmtForm
    writes : ExpressionForm → StmtForm
    writes_text : (text : ℕ) → StmtForm
    chooses : BranchesForm → StmtForm
    repeats : (condition : Option ExpressionForm) → StmtsForm → (end_spot : Spot) → StmtForm
    counts : (parameter : ℕ) → (low high : ExpressionForm) → StmtsForm → (end_spot : Spot) → StmtForm
    exits : (condition : Option ExpressionForm) → Spot → StmtForm
    calls : (procedure : ℕ) → (actuals : List ActualForm) → StmtForm
    returns : Spot → StmtForm
    raises : Exception → StmtForm
    encloses : List DeclarationForm → StmtsForm → HandlersForm → StmtForm

  -- Statements, in order.
  pub data StmtsForm : Type 0 where
    no_stmts : StmtsForm
    a_stmt : StmtForm → StmtsForm → StmtsForm

  -- Branches of an `if` (5.3), and what is done where no condition is true.
  pub data BranchesForm : Type 0 where
    otherwise : StmtsForm → BranchesForm
    a_branch : ExpressionForm → StmtsForm → BranchesForm → BranchesForm

  -- Handlers, in order (11.2): which exceptions each takes, and what it does then.
  pub data HandlersForm : Type 0 where
    no_handlers : HandlersForm
    a_handler : List Choice → StmtsForm → HandlersForm → HandlersForm

-- A path as plain data.
abbrev pub component_number : ComponentNo → ℕ
component_number c = c.0

-- A path: the number of its variable, those of the components, and where it stands.
abbrev pub path_form : Path → PathForm
path_form p = record { root = p.root.0; of_record = p.of_record; selectors = map component_number p.selectors.items; spot = p.spot }

-- A path to a record as plain data.
abbrev pub record_path_form : RecordPath → RecordPathForm
record_path_form p = record { object = path_form p.object; first = p.first.0; part = p.part.0; record_type = p.record.0 }

unfoldable mutual
  -- An expression.
  pub expression_form : Expression → ExpressionForm
  expression_form (Integer value) = integer value
  expression_form (Boolean value) = boolean value
  expression_form (Reads path) = reads (path_form path)
  expression_form (NullTest path equal) = is_null equal (path_form path)
  expression_form (Unary' operator p operand) = applied_to operator (expression_form operand)
  expression_form (Chain' p first shape links) = chained (expression_form first) (links_row links)

  -- The links of a chain, as it keeps them.
  pub links_row : {m : _} → Row_of-Link m → LinksForm
  links_row end_of-Link = no_more_links
  links_row (more_of-Link operator operand rest) = a_link operator (expression_form operand) (links_row rest)

-- A list of links.
abbrev pub links_form : List Link → LinksForm
links_form [] = no_more_links
links_form (link ∷ links) = a_link link.operator (expression_form link.operand) (links_form links)

-- An actual parameter.
abbrev pub actual_form : Actual → ActualForm
actual_form (actual.In e) = in_value (expression_form e)
actual_form actual.InNull = in_null
actual_form (actual.InAccess path) = in_access (path_form path)
actual_form (actual.InRecord path) = in_record (record_path_form path)
actual_form (actual.InOut path) = in_out_path (path_form path)
actual_form (actual.InOutAccess path) = in_out_access (path_form path)
actual_form (actual.InOutComponent path) = in_out_component (path_form path)
actual_form (actual.InOutRecord path) = in_out_record (record_path_form path)

-- An item.
abbrev pub item_form : Item → ItemForm
item_form item.Null = null_item
item_form (item.Path path) = item_of_path (path_form path)
item_form (item.Value e) = item_of_value (expression_form e)
item_form (item.Record path) = item_of_record (record_path_form path)

-- What a right side assigns.
abbrev pub right_form : Right → RightForm
right_form right.Null = nothing
right_form (right.Path path) = value_of (path_form path)
right_form (right.Allocator access items) = allocates access.0 (map item_form items.items)
right_form (right.Default access) = allocates_default access.0
right_form (right.Value e) = computes (expression_form e)

-- What is assigned where no initial value is written: null (3.10).
abbrev pub initial_form : Option Right → RightForm
initial_form None = nothing
initial_form (Some value) = right_form value

-- The items of an initial value, where there is one.
abbrev pub initial_items : Option (Vec Item) → Option (List ItemForm)
initial_items None = None
initial_items (Some items) = Some (map item_form items.items)

-- What a declaration creates.
abbrev pub declaration_form : Declaration → DeclarationForm
declaration_form (Pool pool) = creates_pool pool.0
declaration_form (Collection access) = collects access.0
declaration_form (Variable variable initial) = declares variable.0 (initial_form initial)
declaration_form (Record variable object initial) = declares_record variable.0 object.0 (initial_items initial)

-- The condition of a loop or of an exit, where there is one.
abbrev pub condition_form : Option Expression → Option ExpressionForm
condition_form None = None
condition_form (Some e) = Some (expression_form e)

unfoldable mutual
  -- What a statement does.
  pub stmt_form : Stmt → StmtForm
  stmt_form stmt.Null = skips
  stmt_form (stmt.Assign target value) = assigns (path_form target) (right_form value)
  stmt_form (stmt.AssignRecord target items) = assigns_record (record_path_form target) (map item_form items.items)
  stmt_form (stmt.Free access path) = frees access.0 (path_form path)
  stmt_form (stmt.Get target) = gets (path_form target)
  stmt_form (stmt.PutImage e) = writes (expression_form e)
  stmt_form (stmt.PutText text) = writes_text text.0
  stmt_form (stmt.If' shape branches size others) = chooses (branches_row branches (stmts_row others))
  stmt_form (stmt.Loop' condition shape statements end_spot) = repeats (condition_form condition) (stmts_row statements) end_spot
  stmt_form (stmt.For' parameter low high shape statements end_spot) =
      counts parameter.0 (expression_form low) (expression_form high) (stmts_row statements) end_spot
  stmt_form (stmt.Exit condition spot) = exits (condition_form condition) spot
  stmt_form (stmt.Call procedure actuals) = calls procedure.0 (map actual_form actuals.items)
  stmt_form (stmt.Return spot) = returns spot
  stmt_form (stmt.Raise e) = raises e
  stmt_form (stmt.Block' declarations shape statements size handlers) =
      encloses (map declaration_form declarations.items) (stmts_row statements) (handlers_row handlers)

  -- The statements inside another, as it keeps them.
  pub stmts_row : {m : _} → Row_of-Stmt m → StmtsForm
  stmts_row end_of-Stmt = no_stmts
  stmts_row (more_of-Stmt s rest) = a_stmt (stmt_form s) (stmts_row rest)

  -- The branches of an `if`, as it keeps them.
  pub branches_row : {m : _} → Row_of-Branch m → StmtsForm → BranchesForm
  branches_row end_of-Branch others = otherwise others
  branches_row (more_of-Branch condition shape statements rest) others =
      a_branch (expression_form condition) (stmts_row statements) (branches_row rest others)

  -- Handlers, as a block keeps them.
  pub handlers_row : {m : _} → Row_of-Handler m → HandlersForm
  handlers_row end_of-Handler = no_handlers
  handlers_row (more_of-Handler choices shape statements rest) = a_handler choices.items (stmts_row statements) (handlers_row rest)

-- A list of statements.
abbrev pub stmts_form : List Stmt → StmtsForm
stmts_form [] = no_stmts
stmts_form (s ∷ ss) = a_stmt (stmt_form s) (stmts_form ss)

-- Branches, and what is done where no condition is true.
abbrev pub branches_form : List Branch → StmtsForm → BranchesForm
branches_form [] others = otherwise others
branches_form (b ∷ bs) others = a_branch (expression_form b.condition) (stmts_form b.statements.items) (branches_form bs others)

-- A list of handlers.
abbrev pub handlers_form : List Handler → HandlersForm
handlers_form [] = no_handlers
handlers_form (h ∷ hs) = a_handler h.choices.items (stmts_form h.statements.items) (handlers_form hs)

-- What the program declares, what it does then, and how it handles exceptions.
abbrev pub declaration_forms : Program → List DeclarationForm
declaration_forms program = map declaration_form program.declarations.items

-- What the statements of a program do.
abbrev pub stmt_forms : Program → StmtsForm
stmt_forms program = stmts_form program.statements.items

-- How a program handles exceptions.
abbrev pub handler_forms : Program → HandlersForm
handler_forms program = handlers_form program.handlers.items

-- Each expression by how it is made.

pub integer_form : (value : ℤ) → expression_form (Integer value) ≡ integer value
unfolding expression_form
integer_form value = refl

pub boolean_form : (value : Bool) → expression_form (Boolean value) ≡ boolean value
unfolding expression_form
boolean_form value = refl

pub reads_form : (path : Path) → expression_form (Reads path) ≡ reads (path_form path)
unfolding expression_form
reads_form path = refl

pub is_null_form : (path : Path) (equal : Bool) → expression_form (NullTest path equal) ≡ is_null equal (path_form path)
unfolding expression_form
is_null_form path equal = refl

pub applied_to_form : (operator : UnaryOperator) (operand : Box Expression) → expression_form (Unary operator operand) ≡ applied_to operator (expression_form operand.value)
unfolding expression_form
applied_to_form operator operand = refl

links_in_row : {m : _} (row : Row_of-Link m) → links_row row ≡ links_form (items-the_row-Link m row)
unfolding links_row
links_in_row end_of-Link = refl
links_in_row (more_of-Link operator operand rest) = ap (a_link operator (expression_form operand)) (links_in_row rest)

pub chained_form : (first : Box Expression) (links : Vec Link) → expression_form (Chain first links) ≡ chained (expression_form first.value) (links_form links.items)
unfolding expression_form
chained_form first links = ap (chained (expression_form first.value)) (links_in_row (hidden-the_row-Link-0 links) ∙ ap links_form (items_hidden-the_row-Link-0 links))

-- The view of an expression, step by step.
pub ruleset expression_rules = (integer_form, boolean_form, reads_form, is_null_form, applied_to_form, chained_form)

-- Each statement by how it is made.

pub skips_form : stmt_form stmt.Null ≡ skips
unfolding stmt_form
skips_form = refl

pub assigns_form : (target : Path) (value : Right) → stmt_form (stmt.Assign target value) ≡ assigns (path_form target) (right_form value)
unfolding stmt_form
assigns_form target value = refl

pub assigns_record_form : (target : RecordPath) (items : Vec Item) → stmt_form (stmt.AssignRecord target items) ≡ assigns_record (record_path_form target) (map item_form items.items)
unfolding stmt_form
assigns_record_form target items = refl

pub frees_form : (access : TypeNo) (path : Path) → stmt_form (stmt.Free access path) ≡ frees access.0 (path_form path)
unfolding stmt_form
frees_form access path = refl

pub gets_form : (target : Path) → stmt_form (stmt.Get target) ≡ gets (path_form target)
unfolding stmt_form
gets_form target = refl

pub writes_form : (e : Expression) → stmt_form (stmt.PutImage e) ≡ writes (expression_form e)
unfolding stmt_form
writes_form e = refl

pub writes_text_form : (text : TextNo) → stmt_form (stmt.PutText text) ≡ writes_text text.0
unfolding stmt_form
writes_text_form text = refl

pub exits_form : (condition : Option Expression) (spot : Spot) → stmt_form (stmt.Exit condition spot) ≡ exits (condition_form condition) spot
unfolding stmt_form
exits_form condition spot = refl

pub calls_form : (procedure : ProcedureNo) (actuals : Vec Actual) → stmt_form (stmt.Call procedure actuals) ≡ calls procedure.0 (map actual_form actuals.items)
unfolding stmt_form
calls_form procedure actuals = refl

pub returns_form : (spot : Spot) → stmt_form (stmt.Return spot) ≡ returns spot
unfolding stmt_form
returns_form spot = refl

pub raises_form : (e : Exception) → stmt_form (stmt.Raise e) ≡ raises e
unfolding stmt_form
raises_form e = refl

-- The rows of which statements are made are the views of the lists that the code keeps.

stmts_in_row : {m : _} (row : Row_of-Stmt m) → stmts_row row ≡ stmts_form (items-the_row-Stmt m row)
unfolding stmts_row
stmts_in_row end_of-Stmt = refl
stmts_in_row (more_of-Stmt s rest) = ap (a_stmt (stmt_form s)) (stmts_in_row rest)

stmts_shown : (shape : _) (row : _) → stmts_row row ≡ stmts_form (shown-the_row-Stmt-0 shape row).items
stmts_shown shape row = stmts_in_row row ∙ ap stmts_form (sym (items_shown-the_row-Stmt-0 shape row))

branches_in_row : {m : _} (row : Row_of-Branch m) (others : StmtsForm) → branches_row row others ≡ branches_form (items-the_row-Branch m row) others
unfolding branches_row
branches_in_row end_of-Branch others = refl
branches_in_row (more_of-Branch condition shape statements rest) others =
    ap (λ ss. a_branch (expression_form condition) ss (branches_row rest others)) (stmts_shown shape statements) ∙
    ap (a_branch (expression_form condition) (stmts_form (shown-the_row-Stmt-0 shape statements).items)) (branches_in_row rest others)

handlers_in_row : {m : _} (row : Row_of-Handler m) → handlers_row row ≡ handlers_form (items-the_row-Handler m row)
unfolding handlers_row
handlers_in_row end_of-Handler = refl
handlers_in_row (more_of-Handler choices shape statements rest) =
    ap (λ ss. a_handler choices.items ss (handlers_row rest)) (stmts_shown shape statements) ∙
    ap (a_handler choices.items (stmts_form (shown-the_row-Stmt-0 shape statements).items)) (handlers_in_row rest)

stmts_hidden : (ss : Vec Stmt) → stmts_row (hidden-the_row-Stmt-0 ss) ≡ stmts_form ss.items
stmts_hidden ss = stmts_in_row (hidden-the_row-Stmt-0 ss) ∙ ap stmts_form (items_hidden-the_row-Stmt-0 ss)

branches_hidden : (bs : Vec Branch) (others : StmtsForm) → branches_row (hidden-the_row-Branch-1 bs) others ≡ branches_form bs.items others
branches_hidden bs others =
    branches_in_row (hidden-the_row-Branch-1 bs) others ∙ ap (λ xs. branches_form xs others) (items_hidden-the_row-Branch-1 bs)

handlers_hidden : (hs : Vec Handler) → handlers_row (hidden-the_row-Handler-2 hs) ≡ handlers_form hs.items
handlers_hidden hs = handlers_in_row (hidden-the_row-Handler-2 hs) ∙ ap handlers_form (items_hidden-the_row-Handler-2 hs)

-- The statements in which others nest, by how they are made.

pub chooses_form : (branches : Vec Branch) (others : Vec Stmt) → stmt_form (stmt.If branches others) ≡ chooses (branches_form branches.items (stmts_form others.items))
unfolding stmt_form
chooses_form branches others =
    ap chooses (branches_hidden branches (stmts_row (hidden-the_row-Stmt-0 others)) ∙ ap (branches_form branches.items) (stmts_hidden others))

pub repeats_form : (condition : Option Expression) (statements : Vec Stmt) (end_spot : Spot) → stmt_form (stmt.Loop condition statements end_spot) ≡ repeats (condition_form condition) (stmts_form statements.items) end_spot
unfolding stmt_form
repeats_form condition statements end_spot = ap (λ ss. repeats (condition_form condition) ss end_spot) (stmts_hidden statements)

pub counts_form : (parameter : VariableNo) (low high : Expression) (statements : Vec Stmt) (end_spot : Spot) → stmt_form (stmt.For parameter low high statements end_spot) ≡ counts parameter.0 (expression_form low) (expression_form high) (stmts_form statements.items) end_spot
unfolding stmt_form
counts_form parameter low high statements end_spot =
    ap (λ ss. counts parameter.0 (expression_form low) (expression_form high) ss end_spot) (stmts_hidden statements)

pub encloses_form : (declarations : Vec Declaration) (statements : Vec Stmt) (handlers : Vec Handler) → stmt_form (stmt.Block declarations statements handlers) ≡ encloses (map declaration_form declarations.items) (stmts_form statements.items) (handlers_form handlers.items)
unfolding stmt_form
encloses_form declarations statements handlers =
    ap (λ ss. encloses (map declaration_form declarations.items) ss (handlers_row (hidden-the_row-Handler-2 handlers))) (stmts_hidden statements) ∙
    ap (encloses (map declaration_form declarations.items) (stmts_form statements.items)) (handlers_hidden handlers)

-- The view of a statement, step by step.
pub ruleset statement_rules = (skips_form, assigns_form, assigns_record_form, frees_form, gets_form, writes_form, writes_text_form, chooses_form, repeats_form, counts_form, exits_form, calls_form, returns_form, raises_form, encloses_form)
