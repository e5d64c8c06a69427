-- A program read back: what its tree says at each place, name by name. A name in the tree and what the program has there have to agree, where
-- an inner declaration hides the outer ones (8.3).

use Rattle.std.specs.Prelude.{◌≡◌, ◌⊎◌, ℕ, ◌+◌, ◌<◌, ◌≤◌, Bool, true, false, ◌==◌, ◌&&◌, if◌then◌else◌, not, nat_le, nat_lt, List, [], ◌∷◌, ◌++◌, map, length, Option, Some, None, slice_get, codes, ℤ}
use Rattle.ada_text.specs.declared.spot.Spot.{Spot}
use Rattle.ada_values.specs.declared.operator.BinaryOperator.{BinaryOperator}
use Rattle.ada_values.specs.declared.operator.BinaryOperator.TheVariants as binary
use Rattle.ada_tree.specs.Names.{Ident, NameTree, SelectorTree, component, dereference, PathTree}
use Rattle.ada_tree.specs.Expressions.{ExpressionTree, number_expression, null_expression, path_expression, aggregate_expression, enclosed_expression, unary_expression, binary_expression, ItemsTree, no_more_items, an_item, RightTree, expression_right, allocator_right, creation_right, ArgumentTree, expression_argument, text_argument, attribute_argument}
use Rattle.ada_tree.specs.Declarations.{ChoiceTree, named_choice, others_choice, FormalTree, HeadTree}
use Rattle.ada_tree.specs.Statements.{DeclarationTree, exception_declaration, constant_declaration, pool_declaration, attribute_clause, object_declaration, borrower_declaration, incomplete_type, access_type, record_type, derived_type, specification, body_declaration, instance, DeclarationsTree, no_declarations, a_declaration, SchemeTree, endless, while_scheme, for_scheme, StatementTree, null_statement, assignment, call, if_statement, loop_statement, exit_statement, return_statement, raise_statement, block, declare_block, StatementsTree, no_statements, a_statement, BranchesTree, no_branches, a_branch, HandlersTree, no_handlers, a_handler, SequenceTree, a_sequence, UnitTree}
use Rattle.ada_program.specs.declared.program.FormalMode.{FormalMode}
use Rattle.ada_program.specs.declared.program.FormalMode.TheVariants.{In, InOut}
use Rattle.ada_program.specs.declared.program.Choice.{Choice}
use Rattle.ada_program.specs.declared.program.Choice.TheVariants as choice
use Rattle.ada_program.specs.declared.program.ComponentKind.{ComponentKind}
use Rattle.ada_program.specs.declared.program.Finalization.{Finalization}
use Rattle.ada_program.specs.declared.program.PartKind.{PartKind}
use Rattle.ada_program.specs.declared.program.PartKind.TheVariants as part
use Rattle.ada_program.specs.declared.program.ProcedureNo.{ProcedureNo}
use Rattle.ada_program.specs.declared.program.TypeNo.{TypeNo}
use Rattle.ada_program.specs.declared.program.VariableKind.{VariableKind}
use Rattle.ada_program.specs.declared.program.VariableKind.TheVariants as variable
use Rattle.ada_program.specs.Form.{ActualForm, in_value, in_null, in_access, in_record, in_out_path, in_out_access, in_out_component, in_out_record, DeclarationForm, creates_pool, collects, declares, declares_record, PathForm, RecordPathForm, ExpressionForm, integer, boolean, reads, is_null, applied_to, ItemForm, null_item, item_of_path, item_of_value, item_of_record, RightForm, nothing, value_of, allocates, allocates_default, computes, StmtForm, skips, assigns, assigns_record, frees, gets, writes, writes_text, chooses, repeats, counts, exits, calls, returns, raises, encloses, StmtsForm, no_stmts, a_stmt, BranchesForm, otherwise, HandlersForm}
use Rattle.ada_program.specs.Form as form
use Rattle.ada_program.specs.ProgramForm.{PartForm, TypeForm, record_of, object_of, BodyForm, ProgramForm}
use Rattle.ada_program.specs.WellFormed as fits
use Rattle.ada_resolve.specs.Library.{library_name}
use Rattle.ada_resolve.specs.declared.library.LibraryName.TheVariants.{PutLine, Get}
use Rattle.ada_resolve.specs.declared.primitives.Operation.{Operation}
use Rattle.ada_resolve.specs.declared.primitives.Operation.TheVariants.{Initialize, Adjust, Finalize}
use Rattle.ada_resolve.specs.Derived.{is_limited_parent}
use Rattle.ada_resolve.specs.Primitives.{overrider}
use Rattle.ada_resolve.specs.Naming.{Context, Place, Specification, Overriding, Binding, Meaning, an_incomplete_type, a_type, a_number, an_exception, a_pool, an_instance, a_variable, a_parameter, a_procedure, a_procedure_around, an_outer_object, meaning_among, is_one_of, IsPredefined, IsExceptionNamed, IsNumberNamed, IsRecordNamed, IsVariableNamed, IsObjectNamed, IsAccessNamed, IsBound, IsFullRecordNamed, IsFullTypeNamed, IsStaticRead, IsTypeRead, IsPoolRead, IsClauseRead, IsInstanceRead, IsInstanceNamed, IsProcedureNamed, IsKindNamed, truth_name}
use Rattle.ada_resolve.specs.Clauses.{pool_of}
use Rattle.ada_resolve.specs.Known.{parts_of}
use Rattle.ada_resolve.specs.Operators.{joined}
use Rattle.ada_resolve.specs.Paths.{follows_to, follows_value}
use Rattle.ada_resolve.specs.Records.{counted}
use Rattle.ada_resolve.specs.Spots.{end_of, head_spot}
use Rattle.ada_resolve.specs.Statics.{at_most_greatest, integer_of}

-- The type of the objects behind a value (3.10): none, if it is no access value.
abbrev pub type_behind : List TypeForm → Option VariableKind → Option ℕ
type_behind types None = None
type_behind types (Some (variable.Access access)) = fits.designated_type types access.0
type_behind types (Some other) = None

-- Where selectors have led (4.1): to a value, or to an object of a record type, whose first elementary component and first controlled part have these
-- numbers in the object that the last access value gives access to, or in the record object with which the path begins.
pub data Way : Type 0 where
  at_value : Option VariableKind → Way
  at_object : (t first part : ℕ) → Way

-- A component of a record type has the name, is of this kind, and begins behind as many elementary components and behind as many controlled parts
-- (4.1.3).
abbrev pub IsComponentNamed : Context → ℕ → List ℕ → PartKind → (first part : ℕ) → Type 0
IsComponentNamed p t text kind first from =
    (name : List ℕ) × (parts : List PartForm) × (components : List ComponentKind) × (finalization : Option Finalization) × (c : ℕ) ×
    (slice_get p.types t ≡ Some (record_of name parts components finalization)) ×
    (slice_get parts c ≡ Some (record { name = text; kind = kind; first = first; part = from }))

-- Selectors lead on by the elementary components of these numbers (4.1), to a value or to an object: `all`, which is written or not, leads to the
-- object that an access value gives access to; a name leads from an object to its component of that name.
pub data AreSelectorsRead (p : Context) : Way → List SelectorTree → List ℕ → (end : Way) → Type 0 where
  at_end : {way : Way} → AreSelectorsRead p way [] [] way
  by_all :
      {kind : Option VariableKind} {t : ℕ} {spot : Spot} {selectors : List SelectorTree} {cs : List ℕ} {end : Way} →
      type_behind p.types kind ≡ Some t → AreSelectorsRead p (at_object t 0 0) selectors cs end →
      AreSelectorsRead p (at_value kind) (dereference spot ∷ selectors) cs end
  by_value :
      {kind : Option VariableKind} {t : ℕ} {i : Ident} {selectors : List SelectorTree} {cs : List ℕ} {end : Way} →
      type_behind p.types kind ≡ Some t → AreSelectorsRead p (at_object t 0 0) (component i ∷ selectors) cs end →
      AreSelectorsRead p (at_value kind) (component i ∷ selectors) cs end
  to_value :
      {t before parts first from : ℕ} {kind : ComponentKind} {i : Ident} {selectors : List SelectorTree} {cs : List ℕ} {end : Way} →
      IsComponentNamed p t i.text (part.Elementary kind) first from → AreSelectorsRead p (at_value (Some (fits.held_kind kind))) selectors cs end →
      AreSelectorsRead p (at_object t before parts) (component i ∷ selectors) ((before + first) ∷ cs) end
  to_record :
      {t before parts first from : ℕ} {inner : TypeNo} {i : Ident} {selectors : List SelectorTree} {cs : List ℕ} {end : Way} →
      IsComponentNamed p t i.text (part.Record inner) first from →
      AreSelectorsRead p (at_object inner.0 (before + first) (parts + from)) selectors cs end →
      AreSelectorsRead p (at_object t before parts) (component i ∷ selectors) cs end

-- Where a path begins (4.1), before its first selector: in a record object, if its variable is one, else at the value of its variable. The path
-- says which.
abbrev pub IsBegun : List TypeForm → Option VariableKind → (of_record : Bool) → Way → Type 0
IsBegun types (Some (variable.Record object)) of_record way =
    (of_record ≡ true) × (t : ℕ) × (slice_get types object.0 ≡ Some (object_of t)) × (way ≡ at_object t 0 0)
IsBegun types kind of_record way = (of_record ≡ false) × (way ≡ at_value kind)

-- A path that leads somewhere (4.1): its object has the name that is written, so have its components, and it stands where its first name does.
pub record IsWayRead (p : Context) (tree : PathTree) (path : PathForm) (end : Way) : Type 0 where
  pub root : IsObjectNamed p tree.root.text path.root
  pub way : Way
  pub begins : IsBegun p.types (fits.variable_kind p.variables path.root) path.of_record way
  pub selectors : AreSelectorsRead p way tree.selectors path.selectors end
  pub spot : path.spot ≡ tree.root.spot

-- A path to a value (4.1).
pub record IsPathRead (p : Context) (tree : PathTree) (path : PathForm) : Type 0 where
  pub kind : Option VariableKind
  pub leads : IsWayRead p tree path (at_value kind)

-- A path to a record (4.1): it leads to such a record, in the object to which its own path leads.
abbrev pub IsRecordPathRead : Context → PathTree → RecordPathForm → Type 0
IsRecordPathRead p tree path = IsWayRead p tree path.object (at_object path.record_type path.first path.part)

-- A path begins at a constant, and follows an access value on its way (3.10, 4.1).
abbrev pub FollowsConstant : Context → PathTree → (root : ℕ) → (follows : Bool) → Type 0
FollowsConstant p tree x follows = IsBound p tree.root.text (a_parameter x) × (follows ≡ true)

-- What a path names may change: it begins at a variable, or it follows an access value from a constant, which keeps its own value and, where it is a
-- record, its components at any depth (3.3, 3.10).
abbrev pub MayChange : Context → PathTree → (root : ℕ) → (follows : Bool) → Type 0
MayChange p tree x follows = IsVariableNamed p tree.root.text x ⊎ FollowsConstant p tree x follows

-- In the body of an operation that keeps its operand, a path is not the name of the operand alone, which is the first variable; something may be selected
-- from it (7.6).
abbrev pub SparesOperand : Context → PathTree → Type 0
SparesOperand p tree = p.place.keeps_operand ≡ true → tree.selectors ≡ [] → IsVariableNamed p tree.root.text 0 → ⊥

-- A record that is assigned, or given for a formal parameter of mode `in out`: it may change (5.2, 6.4.1), and is no operand as a whole that is kept.
abbrev pub IsRecordTargetRead : Context → PathTree → RecordPathForm → Type 0
IsRecordTargetRead p tree path =
    IsRecordPathRead p tree path × MayChange p tree path.object.root (follows_to path.object.of_record path.object.selectors) × SparesOperand p tree

-- A path whose object is assigned, read from the input, freed, or given for a formal parameter of mode `in out`: it may change (5.2, 6.4.1).
abbrev pub IsTargetRead : Context → PathTree → PathForm → Type 0
IsTargetRead p tree path = IsPathRead p tree path × MayChange p tree path.root (follows_value path.of_record path.selectors)

-- A variable that is given for a formal parameter of mode `in out`, by its name (6.4.1).
abbrev pub IsVariableRead : Context → PathTree → PathForm → Type 0
IsVariableRead p tree path = (tree.selectors ≡ []) × IsPathRead p tree path × IsVariableNamed p tree.root.text path.root

-- A component that is given for one (6.4.1): something is selected, and it may change.
abbrev pub IsComponentRead : Context → PathTree → PathForm → Type 0
IsComponentRead p tree path = (tree.selectors ≡ [] → ⊥) × IsTargetRead p tree path

-- A path where a value is wanted (4.1): a variable, a loop parameter or a component is read; a lone name may also be that of a number
-- declaration, whose value it has (3.3.2), or True or False (3.5.3).
pub data IsValueRead (p : Context) (tree : PathTree) : ExpressionForm → Type 0 where
  read_path : {path : PathForm} → IsPathRead p tree path → IsValueRead p tree (reads path)
  read_number : {n : ℤ} → tree.selectors ≡ [] → IsNumberNamed p tree.root.text n → IsValueRead p tree (integer n)
  read_truth : {b : Bool} → tree.selectors ≡ [] → tree.root.text ≡ truth_name b → IsValueRead p tree (boolean b)

-- `null`, perhaps in parentheses (4.4).
abbrev pub IsNull : ExpressionTree → Type 0
IsNull (null_expression spot) = Unit {0}
IsNull (enclosed_expression spot inner) = IsNull inner
IsNull other = ⊥

-- An access value that a path names, perhaps in parentheses (4.1).
abbrev pub IsMoveRead : Context → ExpressionTree → PathForm → Type 0
IsMoveRead p (path_expression tree) path = IsPathRead p tree path
IsMoveRead p (enclosed_expression spot inner) path = IsMoveRead p inner path
IsMoveRead p other path = ⊥

-- Whether an equality asks if its operands are equal, or if they are not (4.5.2).
abbrev pub AsksEqual : BinaryOperator → Bool → Type 0
AsksEqual binary.Equal equal = equal ≡ true
AsksEqual binary.NotEqual equal = equal ≡ false
AsksEqual other equal = ⊥

-- A comparison of the access value of a path with null, which stands on its right or on its left (4.5.2).
pub data IsNullTest (p : Context) (operator : BinaryOperator) (left right : ExpressionTree) : ExpressionForm → Type 0 where
  null_on_right :
      {equal : Bool} {path : PathForm} →
      AsksEqual operator equal → IsMoveRead p left path → IsNull right → IsNullTest p operator left right (is_null equal path)
  null_on_left :
      {equal : Bool} {path : PathForm} →
      AsksEqual operator equal → IsNull left → IsMoveRead p right path → IsNullTest p operator left right (is_null equal path)

-- An expression (4.4): each literal, name and operator where it is written; parentheses are gone. An operator stands between two operands that
-- are read, or compares an access value with null.
abbrev pub IsExpressionRead : Context → ExpressionTree → ExpressionForm → Type 0
IsExpressionRead p (number_expression spot n) form = form ≡ integer (integer_of false (at_most_greatest n))
IsExpressionRead p (null_expression spot) form = ⊥
IsExpressionRead p (path_expression path) form = IsValueRead p path form
IsExpressionRead p (aggregate_expression type_name items) form = ⊥
IsExpressionRead p (enclosed_expression spot inner) form = IsExpressionRead p inner form
IsExpressionRead p (unary_expression operator spot operand) form =
    (inner : ExpressionForm) × (form ≡ applied_to operator inner) × IsExpressionRead p operand inner
IsExpressionRead p (binary_expression operator left right) form =
    ((a : ExpressionForm) × (b : ExpressionForm) × (form ≡ joined a operator b) × IsExpressionRead p left a × IsExpressionRead p right b) ⊎
    IsNullTest p operator left right form

-- A record that a path names, perhaps in parentheses (4.1).
abbrev pub IsCopyRead : Context → ExpressionTree → RecordPathForm → Type 0
IsCopyRead p (path_expression tree) path = IsRecordPathRead p tree path
IsCopyRead p (enclosed_expression spot inner) path = IsCopyRead p inner path
IsCopyRead p other path = ⊥

-- What an item gives an elementary component (4.3.1): null, the access value that a path names, or another value.
abbrev pub IsItemRead : Context → ExpressionTree → ItemForm → Type 0
IsItemRead p e null_item = IsNull e
IsItemRead p e (item_of_path path) = IsMoveRead p e path
IsItemRead p e (item_of_value form) = IsExpressionRead p e form
IsItemRead p e (item_of_record path) = ⊥

-- An aggregate, perhaps in parentheses (4.7): the name of its type, and its items.
abbrev pub IsAggregate : ExpressionTree → Ident → ItemsTree → Type 0
IsAggregate (aggregate_expression type_name items) name written = (type_name ≡ name) × (items ≡ written)
IsAggregate (enclosed_expression spot inner) name written = IsAggregate inner name written
IsAggregate other name written = ⊥

-- Among items of which the first stands at a place, one is for the component of a number and a name (4.3.1): it has that name before `=>`, or
-- it has none and stands at that number.
pub data IsItemFor : ItemsTree → ℕ → ℕ → List ℕ → ExpressionTree → Type 0 where
  at_place : {e : ExpressionTree} {rest : ItemsTree} {at : ℕ} {name : List ℕ} → IsItemFor (an_item None e rest) at at name e
  by_name : {label : Ident} {e : ExpressionTree} {rest : ItemsTree} {at c : ℕ} → IsItemFor (an_item (Some label) e rest) at c label.text e
  further : {label : Option Ident} {e f : ExpressionTree} {rest : ItemsTree} {at c : ℕ} {name : List ℕ} → IsItemFor rest (at + 1) c name f → IsItemFor (an_item label e rest) at c name f

-- How many items are written.
abbrev pub how_many : ItemsTree → ℕ
how_many no_more_items = 0
how_many (an_item label e rest) = how_many rest + 1

mutual
  -- What is written for a component gives it these items (4.3.1): an elementary component has one; a record is copied, or is an aggregate of its own
  -- type, whose items stand in its place.
  pub data IsGiven (p : Context) : PartKind → ExpressionTree → List ItemForm → Type 0 where
    to_elementary : {kind : ComponentKind} {e : ExpressionTree} {form : ItemForm} → IsItemRead p e form → IsGiven p (part.Elementary kind) e (form ∷ [])
    by_copy :
        {t : TypeNo} {e : ExpressionTree} {path : RecordPathForm} → path.record_type ≡ t.0 → IsCopyRead p e path →
        IsGiven p (part.Record t) e (item_of_record path ∷ [])
    by_aggregate :
        {t : TypeNo} {e : ExpressionTree} {forms : List ItemForm} →
        (type_name : Ident) (items : ItemsTree) (parts : List PartForm) (components : List ComponentKind) (finalization : Option Finalization) →
        IsAggregate e type_name items → IsFullTypeNamed p type_name.text t.0 →
        slice_get p.types t.0 ≡ Some (record_of type_name.text parts components finalization) →
        how_many items ≡ length parts → AreGiven p items 0 parts forms → IsGiven p (part.Record t) e forms

  -- Each of these components, the first of which has this number, is given what is written for it among the items, in their order (4.3.1).
  pub data AreGiven (p : Context) : ItemsTree → ℕ → List PartForm → List ItemForm → Type 0 where
    none_given : {items : ItemsTree} {c : ℕ} → AreGiven p items c [] []
    one_given :
        {items : ItemsTree} {c : ℕ} {d : PartForm} {parts : List PartForm} (e : ExpressionTree) (forms more : List ItemForm) →
        IsItemFor items 0 c d.name e → IsGiven p d.kind e forms → AreGiven p items (c + 1) parts more →
        AreGiven p items c (d ∷ parts) (forms ++ more)

-- Each component of a new object has one item, which is what is written for it, and no item is left out (4.3.1).
abbrev pub AreItemsRead : Context → List PartForm → ItemsTree → List ItemForm → Type 0
AreItemsRead p parts items forms = (how_many items ≡ length parts) × AreGiven p items 0 parts forms

-- A new object (4.8) is of the record type that the name stands for there, which the access type designates, and holds its items.
pub record IsAllocationRead (p : Context) (type_name : Ident) (items : ItemsTree) (access : ℕ) (forms : List ItemForm) : Type 0 where
  pub t : ℕ
  pub parts : List PartForm
  pub components : List ComponentKind
  pub finalization : Option Finalization
  pub designates : fits.designated_type p.types access ≡ Some t
  pub bound : IsFullTypeNamed p type_name.text t
  pub named : slice_get p.types t ≡ Some (record_of type_name.text parts components finalization)
  pub filled : AreItemsRead p parts items forms

-- A new object without items (4.8) is of the record type that the name stands for there, which the access type designates.
abbrev pub IsDefaultRead : Context → Ident → (access : ℕ) → Type 0
IsDefaultRead p type_name access = (t : ℕ) × (fits.designated_type p.types access ≡ Some t) × IsFullRecordNamed p type_name.text t

-- What is assigned (5.2); no allocator has a handle yet (13.11.4).
abbrev pub IsRightRead : Context → RightTree → RightForm → Type 0
IsRightRead p (expression_right e) nothing = IsNull e
IsRightRead p (expression_right e) (value_of path) = IsMoveRead p e path
IsRightRead p (expression_right e) (computes form) = IsExpressionRead p e form
IsRightRead p (expression_right e) (allocates access forms) = ⊥
IsRightRead p (expression_right e) (allocates_default access) = ⊥
IsRightRead p (allocator_right spot None type_name no_more_items) (allocates_default access) = IsDefaultRead p type_name access
IsRightRead p (allocator_right spot None type_name (an_item label e rest)) (allocates access forms) =
    IsAllocationRead p type_name (an_item label e rest) access forms
IsRightRead p (allocator_right spot handle type_name items) other = ⊥
IsRightRead p (creation_right function argument) form = ⊥

-- What is assigned to a record of a type (5.2): a record of that type, which is copied, or an aggregate of it.
abbrev pub IsWholeRead : Context → RightTree → (record_type : ℕ) → List ItemForm → Type 0
IsWholeRead p (expression_right e) t forms = IsGiven p (part.Record (record { 0 = t })) e forms
IsWholeRead p (allocator_right spot handle type_name items) t forms = ⊥
IsWholeRead p (creation_right function argument) t forms = ⊥

-- The path is one of Put_Line (A.10.7).
abbrev pub IsPutLine : PathTree → Type 0
IsPutLine procedure = library_name procedure.root.text (parts_of procedure.selectors) ≡ PutLine

-- The path is one of Get, the procedure of Run_Input.
abbrev pub IsGet : PathTree → Type 0
IsGet procedure = library_name procedure.root.text (parts_of procedure.selectors) ≡ Get

-- The attribute is Integer'Image (3.5).
abbrev pub IsImage : Ident → Ident → Type 0
IsImage prefix attribute = (prefix.text ≡ codes "INTEGER") × (attribute.text ≡ codes "IMAGE")

-- The actual parameters of a procedure, one for one (6.4.1): each is an expression, null, an access value that a path names, a record to which one leads,
-- or, for a formal parameter of mode `in out`, a variable, a component or a record.
abbrev pub AreActualsRead : Context → List ArgumentTree → List ActualForm → Type 0
AreActualsRead p [] [] = Unit {0}
AreActualsRead p (expression_argument e ∷ arguments) (in_value form ∷ forms) = IsExpressionRead p e form × AreActualsRead p arguments forms
AreActualsRead p (expression_argument e ∷ arguments) (in_null ∷ forms) = IsNull e × AreActualsRead p arguments forms
AreActualsRead p (expression_argument e ∷ arguments) (in_access path ∷ forms) = IsMoveRead p e path × AreActualsRead p arguments forms
AreActualsRead p (expression_argument (path_expression tree) ∷ arguments) (in_out_path path ∷ forms) =
    IsVariableRead p tree path × AreActualsRead p arguments forms
AreActualsRead p (expression_argument (path_expression tree) ∷ arguments) (in_out_access path ∷ forms) =
    IsVariableRead p tree path × AreActualsRead p arguments forms
AreActualsRead p (expression_argument (path_expression tree) ∷ arguments) (in_record path ∷ forms) =
    IsRecordPathRead p tree path × AreActualsRead p arguments forms
AreActualsRead p (expression_argument (path_expression tree) ∷ arguments) (in_out_component path ∷ forms) =
    IsComponentRead p tree path × AreActualsRead p arguments forms
AreActualsRead p (expression_argument (path_expression tree) ∷ arguments) (in_out_record path ∷ forms) =
    IsRecordTargetRead p tree path × AreActualsRead p arguments forms
AreActualsRead p arguments forms = ⊥

-- A call (6.4) of an instance frees what its one actual names, by the access type that the instance is for (13.11.2); a call of Get reads a
-- number of the input to what its one actual names; a call of Put_Line writes its one actual, a value or a text (A.10.7); any other is a call of
-- the procedure of the name, with what is written for its formal parameters. A text that is written is the next of the program's texts.
abbrev pub IsCallRead : Context → PathTree → List ArgumentTree → StmtForm → Type 0
IsCallRead p procedure (expression_argument (path_expression tree) ∷ []) (frees access path) =
    (procedure.selectors ≡ []) × IsInstanceNamed p procedure.root.text access × IsTargetRead p tree path
IsCallRead p procedure (expression_argument (path_expression tree) ∷ []) (gets path) = IsGet procedure × IsTargetRead p tree path
IsCallRead p procedure (attribute_argument prefix attribute value ∷ []) (writes form) =
    IsPutLine procedure × IsImage prefix attribute × IsExpressionRead p value form
IsCallRead p procedure (text_argument spot text ∷ []) (writes_text n) =
    IsPutLine procedure × (n ≡ p.place.texts) × (slice_get p.texts n ≡ Some text)
IsCallRead p procedure arguments (calls n actuals) =
    (procedure.selectors ≡ []) × IsProcedureNamed p procedure.root.text n × AreActualsRead p arguments actuals
IsCallRead p procedure arguments other = ⊥

-- The condition behind `when`, or none where none is written (5.7).
abbrev pub IsConditionRead : Context → Option ExpressionTree → Option ExpressionForm → Type 0
IsConditionRead p None None = Unit {0}
IsConditionRead p (Some e) (Some form) = IsExpressionRead p e form
IsConditionRead p written condition = ⊥

-- How often a loop runs (5.5): for ever, or while the condition is true.
abbrev pub IsSchemeRead : Context → SchemeTree → Option ExpressionForm → Type 0
IsSchemeRead p endless None = Unit {0}
IsSchemeRead p (while_scheme e) (Some form) = IsExpressionRead p e form
IsSchemeRead p scheme condition = ⊥

-- A choice of a handler (11.2): the exception of its name, or all of them.
abbrev pub IsChoiceRead : Context → ChoiceTree → Choice → Type 0
IsChoiceRead p (named_choice name) (choice.Exception e) = IsExceptionNamed p name e
IsChoiceRead p (named_choice name) choice.Others = ⊥
IsChoiceRead p (others_choice spot) (choice.Exception e) = ⊥
IsChoiceRead p (others_choice spot) choice.Others = Unit {0}

-- Choices, one for one.
abbrev pub AreChoicesRead : Context → List ChoiceTree → List Choice → Type 0
AreChoicesRead p [] [] = Unit {0}
AreChoicesRead p [] (c ∷ cs) = ⊥
AreChoicesRead p (written ∷ rest) [] = ⊥
AreChoicesRead p (written ∷ rest) (c ∷ cs) = IsChoiceRead p written c × AreChoicesRead p rest cs

-- The tables of a program, read from another place.
abbrev pub read_at : Place → Context → Context
read_at place p = record p { place = place }

-- Where an inner declarative part begins (8.1): it has bound and specified nothing yet.
abbrev pub inside : Place → Place
inside place = record place { here = []; outer = place.here ++ place.outer; first_type = place.types; specified = [] }

-- The place behind an inner part, whose end this is: what it has bound is hidden again, and its types, variables and exceptions keep their
-- numbers (8.2).
abbrev pub behind : Place → (end : Place) → Place
behind place end = record end {
  here = place.here;
  outer = place.outer;
  first_type = place.first_type;
  specified = place.specified;
  keeps_operand = place.keeps_operand;
}

-- A name that may be declared at a place: the innermost part has not declared it yet (8.3), and it is not predefined (A.1).
abbrev pub IsNew : Place → Ident → Type 0
IsNew place name = (meaning_among name.text place.here ≡ None) × (IsPredefined name.text → ⊥)

-- The place once the name is bound to this too.
abbrev pub with_binding : Ident → Meaning → Place → Place
with_binding name meaning place = record place { here = record { text = name.text; meaning = meaning } ∷ place.here }

-- The place once the next type has the name, and is to be completed.
abbrev pub with_incomplete_type : Ident → Place → Place
with_incomplete_type name place = record (with_binding name (an_incomplete_type place.types) place) { types = place.types + 1 }

-- The place once the next type has the name.
abbrev pub with_new_type : Ident → Place → Place
with_new_type name place = record (with_binding name (a_type place.types) place) { types = place.types + 1 }

-- The place once the next exception has the name.
abbrev pub with_new_exception : Ident → Place → Place
with_new_exception name place = record (with_binding name (an_exception place.exceptions) place) { exceptions = place.exceptions + 1 }

-- The place once the next pool has the name.
abbrev pub with_new_pool : Ident → Place → Place
with_new_pool name place = record (with_binding name (a_pool place.pools) place) { pools = place.pools + 1 }

-- The place once a clause or an aspect has named the pool of the type of a number.
abbrev pub with_placed : ℕ → Place → Place
with_placed t place = record place { placed = t ∷ place.placed }

-- The place once the type of a number is declared, which is derived from Limited_Controlled, or is not.
abbrev pub with_limited_if : Bool → ℕ → Place → Place
with_limited_if true t place = record place { limited = t ∷ place.limited }
with_limited_if false t place = place

-- The place once the type of a number is declared, perhaps with an aspect, or with a parent that makes it limited (7.5).
abbrev pub with_aspect : DeclarationTree → ℕ → Place → Place
with_aspect (access_type spot name designated (Some aspect)) t place = with_placed t place
with_aspect (derived_type spot name parent definition) t place = with_limited_if (is_limited_parent (Some (library_name parent.first.text parent.rest))) t place
with_aspect d t place = place

-- The place once one more type is complete, which is counted where it is a record type with controlled parts (7.6).
abbrev pub with_complete : Option Finalization → Place → Place
with_complete finalization place = record place { controlled = counted finalization place.controlled }

-- The place once the next variable has the name.
abbrev pub with_new_variable : Ident → Place → Place
with_new_variable name place = record (with_binding name (a_variable place.variables) place) { variables = place.variables + 1 }

-- The place once the next variable is the constant of the name: a loop parameter or a formal parameter of mode `in` (5.5, 6.2).
abbrev pub with_new_constant : Ident → Place → Place
with_new_constant name place = record (with_binding name (a_parameter place.variables) place) { variables = place.variables + 1 }

-- The place once the next variable is a record object of the name, and the next type is what it is known by.
abbrev pub with_new_record : Ident → Place → Place
with_new_record name place = record (with_new_variable name place) { types = place.types + 1 }

-- The initial value of a variable (3.3.1): what is written; an access value is null where nothing is (3.10).
abbrev pub IsInitialRead : Context → VariableKind → Option RightTree → RightForm → Type 0
IsInitialRead p kind (Some right) form = IsRightRead p right form
IsInitialRead p (variable.Access t) None nothing = Unit {0}
IsInitialRead p kind None form = ⊥

-- A variable of a number, by its declaration (3.3.1): its name, its type, and its initial value.
pub record IsObjectRead (p : Context) (name : Ident) (type_name : NameTree) (initial : Option RightTree) (x : ℕ) (form : RightForm) : Type 0 where
  pub kind : VariableKind
  pub there : slice_get p.variables x ≡ Some (record { name = name.text; spot = name.spot; kind = kind; borrows = false })
  pub kind_named : IsKindNamed p type_name kind
  pub starts : IsInitialRead p kind initial form

-- The items of a record object's initial value (3.3.1): what is written, or none where nothing is.
abbrev pub AreInitialItems : Context → Option RightTree → (record_type : ℕ) → Option (List ItemForm) → Type 0
AreInitialItems p (Some right) t (Some forms) = IsWholeRead p right t forms
AreInitialItems p None t None = Unit {0}
AreInitialItems p initial t items = ⊥

-- A record object of a number, by its declaration (3.3.1): its name, its initial value, and the type by which it is known, whose record type has
-- the name that is written and is complete there.
pub record IsRecordObjectRead (p : Context) (name : Ident) (type_name : NameTree) (initial : Option RightTree) (x object_type : ℕ) (items : Option (List ItemForm)) : Type 0 where
  pub there :
      slice_get p.variables x ≡
      Some (record { name = name.text; spot = name.spot; kind = variable.Record (record { 0 = object_type }); borrows = false })
  pub t : ℕ
  pub known_by : slice_get p.types object_type ≡ Some (object_of t)
  pub alone : type_name.rest ≡ []
  pub record_named : IsFullRecordNamed p type_name.first.text t
  pub starts : AreInitialItems p initial t items

-- A borrower of a number, by its declaration (3.10): its name, the path that is written as its initial value, and its type, which is that of the
-- path and designates the record type of the other name.
pub record IsBorrowerRead (p : Context) (name designated : Ident) (initial : Option RightTree) (x : ℕ) (form : RightForm) : Type 0 where
  pub access : TypeNo
  pub t : ℕ
  pub tree : PathTree
  pub path : PathForm
  pub there : slice_get p.variables x ≡ Some (record { name = name.text; spot = name.spot; kind = variable.Access access; borrows = true })
  pub written : initial ≡ Some (expression_right (path_expression tree))
  pub starts : form ≡ value_of path
  pub lent : IsPathRead p tree path
  pub typed : fits.path_access p.types p.variables path ≡ Some access.0
  pub designates : fits.designated_type p.types access.0 ≡ Some t
  pub record_named : IsRecordNamed p designated.text t

-- Objects and borrowers, one for one (3.11), up to the end of a part: each is the next variable, of a new name, and nothing else follows. A record
-- object is known by the next type, which so is that of no other object and of no declared type.
abbrev pub AreObjectsRead : Context → DeclarationsTree → List DeclarationForm → (end : Place) → Type 0
AreObjectsRead p no_declarations [] end = end ≡ p.place
AreObjectsRead p (a_declaration (object_declaration name type_name initial) ds) (declares x form ∷ forms) end =
    (x ≡ p.place.variables) × IsNew p.place name × IsObjectRead p name type_name initial x form ×
    AreObjectsRead (read_at (with_new_variable name p.place) p) ds forms end
AreObjectsRead p (a_declaration (object_declaration name type_name initial) ds) (declares_record x t items ∷ forms) end =
    (x ≡ p.place.variables) × (t ≡ p.place.types) × IsNew p.place name × IsRecordObjectRead p name type_name initial x t items ×
    AreObjectsRead (read_at (with_new_record name p.place) p) ds forms end
AreObjectsRead p (a_declaration (borrower_declaration name designated initial) ds) (declares x form ∷ forms) end =
    (x ≡ p.place.variables) × IsNew p.place name × IsBorrowerRead p name designated initial x form ×
    AreObjectsRead (read_at (with_new_variable name p.place) p) ds forms end
AreObjectsRead p ds forms end = ⊥

-- Each number is less than the next.
abbrev pub Rise : List ℕ → Type 0
Rise [] = Unit {0}
Rise (t ∷ []) = Unit {0}
Rise (t ∷ (u ∷ us)) = (t < u) × Rise (u ∷ us)

-- A number is that of an access type of the innermost part.
abbrev pub is_own_access : Context → ℕ → Bool
is_own_access p t = nat_le p.place.first_type t && nat_lt t p.place.types && fits.is_access p.types t

-- The access types of the part that are not among these, in the order of their declarations.
pub record AreOthers (p : Context) (these others : List ℕ) : Type 0 where
  pub each : (t : ℕ) → is_one_of t others ≡ (is_own_access p t && not (is_one_of t these))
  pub in_order : Rise others

-- No name of the part is still bound to a type that is to be completed (3.10.1).
abbrev pub AreCompleted : Place → Type 0
AreCompleted place = (text : List ℕ) (t : ℕ) → meaning_among text place.here ≡ Some (an_incomplete_type t) → ⊥

-- The name of the type that a full type declaration declares (3.2.1).
abbrev pub declared_type : DeclarationTree → Option Ident
declared_type (access_type spot name designated aspect) = Some name
declared_type (record_type spot name definition) = Some name
declared_type (derived_type spot name parent definition) = Some name
declared_type other = None

-- A full type declaration of a name (3.2.1), and the place behind it: in the part of an incomplete type it completes that, which alone has a name
-- that the part has declared already (8.3); any other declares the next type.
pub data IsTypeDeclared (p : Context) (d : DeclarationTree) (name : Ident) : (next : Place) → Type 0 where
  by_completion :
      {t : ℕ} → meaning_among name.text p.place.here ≡ Some (an_incomplete_type t) → IsTypeRead p d t →
      IsTypeDeclared p d name (with_binding name (a_type t) (with_complete (fits.finalization_of p.types t) (with_aspect d t p.place)))
  by_new_type :
      IsNew p.place name → IsTypeRead p d p.place.types →
      IsTypeDeclared p d name (with_new_type name (with_complete (fits.finalization_of p.types p.place.types) (with_aspect d p.place.types p.place)))

-- A statement with no others in it (5.1): among others, an exit (5.7) and a return (6.5), each where it stands, and one that raises the
-- exception of its name (11.3).
abbrev pub IsSimpleRead : Context → StatementTree → StmtForm → Type 0
IsSimpleRead p (null_statement spot) skips = Unit {0}
IsSimpleRead p (assignment target value) (assigns path right) = IsTargetRead p target path × IsRightRead p value right
IsSimpleRead p (assignment target value) (assigns_record path forms) =
    IsRecordTargetRead p target path × IsWholeRead p value path.record_type forms
IsSimpleRead p (call procedure arguments) form = IsCallRead p procedure arguments form
IsSimpleRead p (exit_statement spot written) (exits condition at) = IsConditionRead p written condition × (at ≡ spot)
IsSimpleRead p (return_statement spot) (returns at) = at ≡ spot
IsSimpleRead p (raise_statement spot name) (raises e) = IsExceptionNamed p name e
IsSimpleRead p statement form = ⊥

-- The place behind a statement with no others in it, which may write one more text.
abbrev pub behind_simple : StmtForm → Place → Place
behind_simple (writes_text n) place = record place { texts = place.texts + 1 }
behind_simple other place = place

-- A loop parameter, which is declared in a part of its own, is the next variable, an Integer of the name; its bounds are what is written (5.5).
abbrev pub IsRangeRead : Context → Ident → (low high : ExpressionTree) → (x : ℕ) → (from to : ExpressionForm) → Type 0
IsRangeRead p name low high x from to =
    (x ≡ p.place.variables) × IsNew (inside p.place) name ×
    (slice_get p.variables x ≡ Some (record { name = name.text; spot = name.spot; kind = variable.Integer; borrows = false })) ×
    IsExpressionRead p low from × IsExpressionRead p high to

-- Where the type of a formal parameter is named, behind others (6.1): these hide what is bound around the body, where the procedure's own name is not
-- bound yet (8.2).
abbrev pub in_profile : (around formals : Place) → Place
in_profile around formals = record (inside around) { here = formals.here }

-- What a formal parameter holds has the name that is written (6.1): Integer, Boolean, an access type, or a record type that is complete there. A record
-- is known by the type of this number, which so is that of no other object and of no declared type.
abbrev pub IsFormalNamed : Context → (own : ℕ) → List ℕ → VariableKind → Type 0
IsFormalNamed p own text variable.Integer = text ≡ codes "INTEGER"
IsFormalNamed p own text variable.Boolean = text ≡ codes "BOOLEAN"
IsFormalNamed p own text (variable.Access t) = IsAccessNamed p text t.0
IsFormalNamed p own text (variable.Record object) =
    (object.0 ≡ own) × (t : ℕ) × (slice_get p.types own ≡ Some (object_of t)) × IsFullRecordNamed p text t

-- The mode that is written (6.1): `in out`, or `in`, perhaps without the word.
abbrev pub IsModeRead : FormalTree → FormalMode → Type 0
IsModeRead f In = f.output ≡ None
IsModeRead f InOut = (input : Spot) × (output : Spot) × (f.input ≡ Some input) × (f.output ≡ Some output)

-- A formal parameter of a mode is declared: one of mode `in` is a constant (6.2).
abbrev pub with_named_formal : FormalMode → Ident → Place → Place
with_named_formal In name place = with_new_constant name place
with_named_formal InOut name place = with_new_variable name place

-- Behind a formal parameter that is a record the types of the part begin behind the one that it is known by.
abbrev pub with_own_type : VariableKind → Place → Place
with_own_type (variable.Record object) place = record place { first_type = place.types + 1; types = place.types + 1 }
with_own_type other place = place

-- The place once there is a formal parameter of a mode, which holds this.
abbrev pub with_new_formal : FormalMode → VariableKind → Ident → Place → Place
with_new_formal mode kind name place = with_named_formal mode name (with_own_type kind place)

-- Formal parameters of a body at a place, up to the last (6.1): each is the next variable, of a new name, and has the mode and the type that are
-- written.
abbrev pub AreFormalsRead : Context → (around : Place) → List FormalTree → List FormalMode → (end : Place) → Type 0
AreFormalsRead p around [] [] end = end ≡ p.place
AreFormalsRead p around [] (mode ∷ modes) end = ⊥
AreFormalsRead p around (f ∷ fs) [] end = ⊥
AreFormalsRead p around (f ∷ fs) (mode ∷ modes) end =
    (kind : VariableKind) × IsNew p.place f.name × IsModeRead f mode ×
    IsFormalNamed (read_at (in_profile around p.place) p) p.place.types f.type_name.text kind ×
    (slice_get p.variables p.place.variables ≡ Some (record { name = f.name.text; spot = f.name.spot; kind = kind; borrows = false })) ×
    AreFormalsRead (read_at (with_new_formal mode kind f.name p.place) p) around fs modes end

-- What a name means in the body of a procedure, which means this around it: objects of the bodies around are out of reach there (the profile's).
abbrev pub from_body : Meaning → Meaning
from_body (a_variable x) = an_outer_object
from_body (a_parameter x) = an_outer_object
from_body other = other

-- A binding as it is seen from the body of a procedure.
abbrev pub bound_outside : Binding → Binding
bound_outside b = record { text = b.text; meaning = from_body b.meaning }

-- What the body of a procedure of this name sees around it (6.3, 8.3): its own name too, but that of an operation is visible nowhere (the profile's).
abbrev pub names_around : (overrides : Option (Operation × ℕ)) → Ident → Place → List Binding
names_around None name place = record { text = name.text; meaning = a_procedure_around } ∷ place.here ++ place.outer
names_around (Some which) name place = place.here ++ place.outer

-- Whether a body keeps its operand (7.6): it overrides an operation of a type that is derived from Controlled, which is none of the limited ones.
abbrev pub keeps_own : (overrides : Option (Operation × ℕ)) → (limited : List ℕ) → Bool
keeps_own None limited = false
keeps_own (Some which) limited = not (is_one_of which.1 limited)

-- Where the body of a procedure of this name begins (6.3): it is a part of its own, which has bound and specified nothing yet, and has variables of its
-- own.
abbrev pub body_place : (overrides : Option (Operation × ℕ)) → Ident → Place → Place
body_place overrides name place = record place {
  here = [];
  outer = map bound_outside (names_around overrides name place);
  first_type = place.types;
  variables = 0;
  specified = [];
  keeps_operand = keeps_own overrides place.limited;
}

-- What the part has bound behind the body of the procedure of a number: the name stands for it, but that of an operation for nothing.
abbrev pub names_behind : (overrides : Option (Operation × ℕ)) → Ident → (procedure : ℕ) → List Binding → List Binding
names_behind None name n here = record { text = name.text; meaning = a_procedure n } ∷ here
names_behind (Some which) name n here = here

-- The operations whose bodies have ended behind the body of the procedure of a number, which overrides this one (7.6).
abbrev pub overridden_behind : (overrides : Option (Operation × ℕ)) → (procedure : ℕ) → List Overriding → List Overriding
overridden_behind None n overridden = overridden
overridden_behind (Some which) n overridden = record { operation = which.0; record_type = which.1; procedure = record { 0 = n } } ∷ overridden

-- The place behind a body of this name, whose end this is: the name is that of the next procedure, and the body around is at work again.
abbrev pub behind_body : (overrides : Option (Operation × ℕ)) → Ident → Place → (end : Place) → Place
behind_body overrides name place end = record end {
  here = names_behind overrides name end.bodies place.here;
  outer = place.outer;
  first_type = place.first_type;
  bodies = end.bodies + 1;
  variables = place.variables;
  specified = place.specified;
  overridden = overridden_behind overrides end.bodies end.overridden;
  keeps_operand = place.keeps_operand;
}

-- The tables of a program, read where the body of a procedure of this name begins.
abbrev pub in_body : (overrides : Option (Operation × ℕ)) → Ident → BodyForm → Context → Context
in_body overrides name b p = record p { place = body_place overrides name p.place; variables = b.variables }

-- The name after the `end` of a body is that of its procedure, where one is written (6.3).
abbrev pub IsEndName : List ℕ → Option Ident → Type 0
IsEndName text None = Unit {0}
IsEndName text (Some name) = name.text ≡ text

-- How the operations of controlled types are called (7.6).
abbrev pub operation_name : Operation → List ℕ
operation_name Initialize = codes "INITIALIZE"
operation_name Adjust = codes "ADJUST"
operation_name Finalize = codes "FINALIZE"

-- A controlled type has the operation (7.6): one that is derived from Limited_Controlled has no Adjust.
abbrev pub HasOperation : (limited : Bool) → Operation → Type 0
HasOperation true Adjust = ⊥
HasOperation limited operation = Unit {0}

-- A name is that of the controlled type of a number (7.6): it is complete there, and its components begin with a parent part.
abbrev pub IsControlledNamed : Context → List ℕ → ℕ → Type 0
IsControlledNamed p text t =
    IsFullTypeNamed p text t × (first : PartForm) × (parts : List PartForm) × (components : List ComponentKind) × (finalization : Option Finalization) ×
    (slice_get p.types t ≡ Some (record_of text (first ∷ parts) components finalization)) × (first.kind ≡ part.Parent)

-- A procedure is this operation of the type of a number (7.6): its name is that of the operation, and it has one formal parameter, which is of mode
-- `in out`, has this name, and is of that type. The type is a controlled one of the innermost part, and has the operation.
pub record IsOperationRead (p : Context) (head : HeadTree) (operation : Operation) (t : ℕ) (formal : List ℕ) : Type 0 where
  pub named : head.name.text ≡ operation_name operation
  pub f : FormalTree
  pub alone : head.formals ≡ f ∷ []
  pub formal_named : f.name.text ≡ formal
  pub mode : IsModeRead f InOut
  pub type_named : IsControlledNamed p f.type_name.text t
  pub own : p.place.first_type ≤ t
  pub has : HasOperation (is_one_of t p.place.limited) operation

-- Whether two operations are of one name.
abbrev pub is_named_alike : Operation → Operation → Bool
is_named_alike Initialize Initialize = true
is_named_alike Adjust Adjust = true
is_named_alike Finalize Finalize = true
is_named_alike one other = false

-- Whether this operation of the type of a number is that one.
abbrev pub is_this_operation : Operation → Operation → (t u : ℕ) → Bool
is_this_operation one other t u = is_named_alike one other && t == u

-- The formal parameter's name in the specification of an operation of a type among these, where it has one.
abbrev pub formal_among : Operation → ℕ → List Specification → Option (List ℕ)
formal_among operation t [] = None
formal_among operation t (s ∷ ss) = if is_this_operation operation s.operation t s.record_type then Some s.formal else formal_among operation t ss

-- The procedure that overrides an operation of a type among these, where one does.
abbrev pub procedure_among : Operation → ℕ → List Overriding → Option ProcedureNo
procedure_among operation t [] = None
procedure_among operation t (o ∷ os) = if is_this_operation operation o.operation t o.record_type then Some o.procedure else procedure_among operation t os

-- The place once the operation of the type of a number is specified (6.1).
abbrev pub with_specified : Operation → ℕ → List ℕ → Place → Place
with_specified operation t formal place =
    record place { specified = record { operation = operation; record_type = t; formal = formal } ∷ place.specified }

-- Each operation that the part specifies has its body there (3.11.1).
abbrev pub HaveBodies : Place → Type 0
HaveBodies place =
    (operation : Operation) (t : ℕ) (formal : List ℕ) → formal_among operation t place.specified ≡ Some formal →
    procedure_among operation t place.overridden ≡ None → ⊥

-- What is written before the body of an operation of a type (6.3, 7.6): the part has specified it, with this formal parameter, and no body overrides it
-- before.
abbrev pub IsOperationBody : Context → HeadTree → Operation → ℕ → Type 0
IsOperationBody p head operation t =
    (formal : List ℕ) × IsOperationRead p head operation t formal × (formal_among operation t p.place.specified ≡ Some formal) ×
    (procedure_among operation t p.place.overridden ≡ None)

-- What is written before a body (6.1, 6.3): its name is that of an operation, which it overrides (7.6), or it is no such name, is new in the part, and
-- overrides nothing.
abbrev pub IsHeadRead : Context → HeadTree → (overrides : Option (Operation × ℕ)) → Type 0
IsHeadRead p head None =
    IsNew p.place head.name × (head.overriding ≡ None) × ((operation : Operation) → head.name.text ≡ operation_name operation → ⊥)
IsHeadRead p head (Some which) = IsOperationBody p head which.0 which.1

-- The bodies of a program and what the text up to a place tells of one (6.3): it is the next one that ends, has as many formal parameters and
-- variables, begins where its first token stands, and ends where its last `end` does.
abbrev pub IsNextBody : Context → BodyForm → HeadTree → SequenceTree → (formals end : Place) → Type 0
IsNextBody p b head body formals end =
    (slice_get p.bodies end.bodies ≡ Some b) × (length b.formals ≡ formals.variables) × (length b.variables ≡ end.variables) ×
    (b.start_spot ≡ head_spot head) × (b.end_spot ≡ end_of body)

-- Where the types of a part end, all are completed, and the first of these declarations, up to the rest, create the collections of the access types
-- that have none yet (7.6.1). Where they have ended before, nothing is created.
abbrev pub DoTypesEnd : Context → (made : Option (List ℕ)) → (forms rest : List DeclarationForm) → Type 0
DoTypesEnd p (Some made) forms rest = (others : List ℕ) × (forms ≡ map collects others ++ rest) × AreCompleted p.place × AreOthers p made others
DoTypesEnd p None forms rest = forms ≡ rest

-- How statements behind branches are read.
abbrev pub ReadOthers : Type 1
ReadOthers = Context → StmtsForm → (end : Place) → Type 0

abbrev mutual
  -- The rest of a declarative part, up to its end (3.11): among its types, where the collections of these access types are created before (7.6.1), or
  -- behind them. Each name is new in the part, and is bound behind its declaration. An incomplete type is the next type, which a full type
  -- declaration of the part completes. An instance creates the collection of its access type. The types end at the first body, at the first object
  -- or where the part ends. A specification is that of an operation (7.6). Each body has a part, statements and handlers of its own. Behind the
  -- bodies each operation that is specified has one. A pool is created where it is declared. A type, a number, an exception, a clause, a specification or a
  -- body creates nothing.
  pub IsPartRead : Context → (made : Option (List ℕ)) → DeclarationsTree → List DeclarationForm → (end : Place) → Type 0
  IsPartRead p (Some made) (a_declaration (incomplete_type spot name) ds) forms end =
      IsNew p.place name × IsPartRead (read_at (with_incomplete_type name p.place) p) (Some made) ds forms end
  IsPartRead p (Some made) (a_declaration (access_type spot name designated aspect) ds) forms end =
      (next : Place) × IsTypeDeclared p (access_type spot name designated aspect) name next × IsPartRead (read_at next p) (Some made) ds forms end
  IsPartRead p (Some made) (a_declaration (record_type spot name definition) ds) forms end =
      (next : Place) × IsTypeDeclared p (record_type spot name definition) name next × IsPartRead (read_at next p) (Some made) ds forms end
  IsPartRead p (Some made) (a_declaration (derived_type spot name parent definition) ds) forms end =
      (next : Place) × IsTypeDeclared p (derived_type spot name parent definition) name next × IsPartRead (read_at next p) (Some made) ds forms end
  IsPartRead p (Some made) (a_declaration (constant_declaration name value) ds) forms end =
      (n : ℤ) × IsNew p.place name × IsStaticRead p value n × IsPartRead (read_at (with_binding name (a_number n) p.place) p) (Some made) ds forms end
  IsPartRead p (Some made) (a_declaration (exception_declaration name) ds) forms end =
      IsNew p.place name × (slice_get p.exceptions p.place.exceptions ≡ Some name.text) ×
      IsPartRead (read_at (with_new_exception name p.place) p) (Some made) ds forms end
  IsPartRead p (Some made) (a_declaration (pool_declaration name type_name label size) ds) forms end =
      (rest : List DeclarationForm) × (forms ≡ creates_pool p.place.pools ∷ rest) × IsNew p.place name × IsPoolRead p name type_name label size ×
      IsPartRead (read_at (with_new_pool name p.place) p) (Some made) ds rest end
  IsPartRead p (Some made) (a_declaration (attribute_clause spot name attribute value) ds) forms end =
      (t : ℕ) × IsClauseRead p name attribute value t × IsPartRead (read_at (with_placed t p.place) p) (Some made) ds forms end
  IsPartRead p (Some made) (a_declaration (instance spot name generic object access) ds) forms end =
      (t : ℕ) × (rest : List DeclarationForm) × (forms ≡ collects t ∷ rest) × IsNew p.place name × IsInstanceRead p generic object access t ×
      IsPartRead (read_at (with_binding name (an_instance t) p.place) p) (Some (t ∷ made)) ds rest end
  IsPartRead p (Some made) (a_declaration (specification head) ds) forms end =
      (operation : Operation) × (t : ℕ) × (formal : List ℕ) × IsOperationRead p head operation t formal ×
      (formal_among operation t p.place.specified ≡ None) × IsPartRead (read_at (with_specified operation t formal p.place) p) (Some made) ds forms end
  IsPartRead p made (a_declaration (body_declaration head inner body end_name) ds) forms end =
      (b : BodyForm) × (rest : List DeclarationForm) × (overrides : Option (Operation × ℕ)) × (formals declared done : Place) ×
      DoTypesEnd p made forms rest × IsHeadRead p head overrides ×
      AreFormalsRead (in_body overrides head.name b p) p.place head.formals b.formals formals ×
      IsPartRead (read_at formals (in_body overrides head.name b p)) (Some []) inner b.declarations declared ×
      IsSequenceRead (read_at declared (in_body overrides head.name b p)) body b.statements b.handlers done ×
      IsNextBody p b head body formals done × IsEndName head.name.text end_name ×
      IsPartRead (read_at (behind_body overrides head.name p.place done) p) None ds rest end
  IsPartRead p made ds forms end =
      (rest : List DeclarationForm) × DoTypesEnd p made forms rest × HaveBodies p.place × AreObjectsRead p ds rest end

  -- The statements and the handlers of a part (11.2), and the place behind them.
  pub IsSequenceRead : Context → SequenceTree → StmtsForm → HandlersForm → (end : Place) → Type 0
  IsSequenceRead p (a_sequence start ss hs last) forms handled end =
      (done : Place) × AreStatementsRead p ss forms done × AreHandlersRead (read_at done p) hs handled end

  -- A statement, and the place behind it (5.1): among others, one that chooses among branches (5.3), one that repeats statements up to where
  -- its end stands, for ever, while a condition is true, or for each value of a parameter (5.5), and a block (5.6).
  pub IsStatementRead : Context → StatementTree → StmtForm → (end : Place) → Type 0
  IsStatementRead p (if_statement spot branches others last) (chooses forms) end =
      AreBranchesRead p branches (λ q these place. AreStatementsRead q others these place) forms end
  IsStatementRead p (loop_statement spot (for_scheme name low high) ss last) (counts x from to forms end_spot) end =
      IsRangeRead p name low high x from to × (end_spot ≡ last) ×
      (done : Place) × AreStatementsRead (read_at (with_new_constant name (inside p.place)) p) ss forms done × (end ≡ behind p.place done)
  IsStatementRead p (loop_statement spot scheme ss last) (repeats condition forms end_spot) end =
      IsSchemeRead p scheme condition × (end_spot ≡ last) × AreStatementsRead p ss forms end
  IsStatementRead p (block body) (encloses elaborated forms handled) end =
      (done : Place) × (elaborated ≡ []) × IsSequenceRead (read_at (inside p.place) p) body forms handled done × (end ≡ behind p.place done)
  IsStatementRead p (declare_block spot ds body) (encloses elaborated forms handled) end =
      (declared done : Place) × IsPartRead (read_at (inside p.place) p) (Some []) ds elaborated declared ×
      IsSequenceRead (read_at declared p) body forms handled done × (end ≡ behind p.place done)
  IsStatementRead p statement form end = IsSimpleRead p statement form × (end ≡ behind_simple form p.place)

  -- Statements, one for one (5.1).
  pub AreStatementsRead : Context → StatementsTree → StmtsForm → (end : Place) → Type 0
  AreStatementsRead p no_statements no_stmts end = end ≡ p.place
  AreStatementsRead p no_statements (a_stmt form forms) end = ⊥
  AreStatementsRead p (a_statement s ss) no_stmts end = ⊥
  AreStatementsRead p (a_statement s ss) (a_stmt form forms) end =
      (next : Place) × IsStatementRead p s form next × AreStatementsRead (read_at next p) ss forms end

  -- Branches, one for one, each with its condition and its statements, and behind them what stands behind `else` (5.3).
  pub AreBranchesRead : Context → BranchesTree → ReadOthers → BranchesForm → (end : Place) → Type 0
  AreBranchesRead p no_branches others (otherwise forms) end = others p forms end
  AreBranchesRead p no_branches others (form.a_branch condition forms more) end = ⊥
  AreBranchesRead p (a_branch e ss bs) others (otherwise forms) end = ⊥
  AreBranchesRead p (a_branch e ss bs) others (form.a_branch condition forms more) end =
      IsExpressionRead p e condition × (next : Place) × AreStatementsRead p ss forms next × AreBranchesRead (read_at next p) bs others more end

  -- Handlers, one for one, each with its choices and its statements (11.2).
  pub AreHandlersRead : Context → HandlersTree → HandlersForm → (end : Place) → Type 0
  AreHandlersRead p no_handlers form.no_handlers end = end ≡ p.place
  AreHandlersRead p no_handlers (form.a_handler cs forms more) end = ⊥
  AreHandlersRead p (a_handler spot choices ss hs) form.no_handlers end = ⊥
  AreHandlersRead p (a_handler spot choices ss hs) (form.a_handler cs forms more) end =
      AreChoicesRead p choices cs × (next : Place) × AreStatementsRead p ss forms next × AreHandlersRead (read_at next p) hs more end

-- The place before the first declaration of a tree.
abbrev pub first_place : Place
first_place = record {
  here = [];
  outer = [];
  first_type = 0;
  types = 0;
  pools = 0;
  bodies = 0;
  variables = 0;
  exceptions = 0;
  texts = 0;
  placed = [];
  controlled = 0;
  limited = [];
  specified = [];
  overridden = [];
  keeps_operand = false;
}

-- A tree is read from there, by the tables of a program.
abbrev pub first_context : ProgramForm → Context
first_context program = record {
  place = first_place;
  types = program.types;
  pools = program.pools;
  bodies = program.bodies;
  variables = program.variables;
  texts = program.texts;
  exceptions = program.exceptions;
}

-- The program has as many types, pools, procedures, variables of the main one and exceptions as the text up to the place declares, and as many texts as
-- it writes, and no more.
pub record AreCounted (program : ProgramForm) (end : Place) : Type 0 where
  pub types : length program.types ≡ end.types
  pub pools : length program.pools ≡ end.pools
  pub bodies : length program.bodies ≡ end.bodies
  pub variables : length program.variables ≡ end.variables
  pub exceptions : length program.exceptions ≡ end.exceptions
  pub texts : length program.texts ≡ end.texts

-- The objects of an access type are in a pool that the program declares only where the text up to the place names that pool, by an aspect or by a clause;
-- those of all others are in the standard pool (13.11).
abbrev pub ArePlaced : ProgramForm → (end : Place) → Type 0
ArePlaced program end = (t n : ℕ) → pool_of program.types t ≡ Some n → is_one_of t end.placed ≡ true

-- Of each type the program says what overrides its operations, and that is what the text up to the place says (7.6): the procedure of the body that overrides
-- this operation of this type, and nothing where no body does.
abbrev pub AreOverridden : ProgramForm → (end : Place) → Type 0
AreOverridden program end =
    (operation : Operation) (t : ℕ) → overrider operation program.types t ≡ procedure_among operation t end.overridden

-- Each declaration and each statement of the program is what the tree says there: nothing is left out, put in or filled up in silence, and each
-- name, literal, operator and text is the one that is written. Types, pools, exceptions and the texts of Put_Line are numbered in the order of the text,
-- procedures in the order in which their bodies end, and the variables of each body in the order of the text; each has a number of its own. A name
-- stands for what its innermost declaration declares; a part declares a name once (8.3), no declaration has a predefined one (A.1), a body uses no
-- object of the bodies around, and nothing is written to a loop parameter or a formal parameter of mode `in`, nor to its components at any depth that
-- are reached without following an access value (5.5, 6.2). A body of the name of an operation overrides that very operation of the controlled type that
-- is named for its formal parameter, and nothing else overrides anything; where that type is derived from Controlled, the body assigns to the formal
-- parameter as a whole nowhere, and gives it for no formal parameter of mode `in out` (7.6).
pub record IsReadAs (tree : UnitTree) (program : ProgramForm) : Type 0 where
  pub own_name : IsNew first_place tree.name
  pub end_name : IsEndName tree.name.text tree.end_name
  pub declared : Place
  pub end : Place
  pub elaborated : IsPartRead (first_context program) (Some []) tree.declarations program.declarations declared
  pub body : IsSequenceRead (read_at declared (first_context program)) tree.body program.statements program.handlers end
  pub counted : AreCounted program end
  pub placed : ArePlaced program end
  pub overridden : AreOverridden program end
