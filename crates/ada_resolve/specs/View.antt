-- What the values of the resolver stand for, and how its answers are tied to the definition.

use Rattle.std.specs.Prelude.{◌≡◌, ℕ, List, [], ◌∷◌, map, reverse, Option, Some, None, option_map, Result, Ok, Err}
use Rattle.ada_tree.specs.Statements.{UnitTree}
use Rattle.ada_program.specs.Form.{PathForm, RightForm, StmtForm, StmtsForm, ItemForm, LinksForm, a_link, no_more_links, path_form, record_path_form, expression_form, right_form, item_form, stmt_form, stmts_form, branches_form, condition_form, BranchesForm, ExpressionForm, declaration_form, HandlersForm, handlers_form}
use Rattle.ada_program.specs.ProgramForm.{TypeForm, VariableForm, body_form, pool_form, variable_form}
use Rattle.ada_program.specs.declared.program.Item.{Item}
use Rattle.ada_program.specs.declared.program.Link.{Link}
use Rattle.ada_program.specs.declared.program.Path.{Path}
use Rattle.ada_program.specs.declared.program.Right.{Right}
use Rattle.ada_program.specs.declared.program.Branch.{Branch}
use Rattle.ada_program.specs.declared.program.Choice.{Choice}
use Rattle.ada_program.specs.declared.program.Handler.{Handler}
use Rattle.ada_program.specs.declared.program.Stmt.{Stmt}
use Rattle.ada_program.specs.declared.program.TypeNo.{TypeNo}
use Rattle.ada_program.specs.declared.program.Variable.{Variable}
use Rattle.ada_text.specs.declared.spot.Spot.{Spot}
use Rattle.ada_resolve.specs.declared.fault.NameFault.{NameFault}
use Rattle.ada_resolve.specs.declared.fault.NameFault.TheVariants.{Broken, NoMemory}
use Rattle.ada_resolve.specs.declared.fault.NameRule.{NameRule}
use Rattle.ada_resolve.specs.declared.resolver.Resolver.{Resolver}
use Rattle.ada_resolve.specs.declared.scope.Entity.{Entity}
use Rattle.ada_resolve.specs.declared.components.KnownType.{KnownType}
use Rattle.ada_resolve.specs.declared.meant.Meant.{Meant as MeantOf}
use Rattle.ada_resolve.specs.declared.meant.Meant.TheVariants as meant
use Rattle.ada_resolve.specs.declared.meant.Comparable.{Comparable as ComparableOf}
use Rattle.ada_resolve.specs.declared.meant.Comparable.TheVariants as comparable
use Rattle.ada_resolve.specs.Operators.{Comparable, any_value, an_integer, a_boolean, an_access, the_null, a_record}
use Rattle.ada_resolve.specs.declared.assignments.Target.{Target as TargetOf}
use Rattle.ada_resolve.specs.declared.assignments.Target.TheVariants as target
use Rattle.ada_resolve.specs.declared.rights.Assigned.{Assigned as AssignedOf}
use Rattle.ada_resolve.specs.declared.rights.Assigned.TheVariants as assigned
use Rattle.ada_resolve.specs.Assignments.{Target, value_target, record_target}
use Rattle.ada_resolve.specs.Rights.{Assigned, a_value, a_whole}
use Rattle.ada_resolve.specs.declared.formals.Formals.{Formals as FormalsOf}
use Rattle.ada_resolve.specs.declared.items.Filling.{Filling as FillingOf}
use Rattle.ada_resolve.specs.declared.part.Part.{Part as PartOf}
use Rattle.ada_resolve.specs.declared.primitives.Specifications.{Specifications as SpecificationsOf}
use Rattle.ada_resolve.specs.declared.procedures.Sequence.{Sequence}
use Rattle.ada_resolve.specs.Kept.{known_type_form}
use Rattle.ada_resolve.specs.Known.{Known, Named, Part, Specifications, Specified}
use Rattle.ada_resolve.specs.Items.{Filling}
use Rattle.ada_resolve.specs.Procedures.{Formals}
use Rattle.ada_resolve.specs.declared.library.Withs.{Withs}
use Rattle.std.specs.Global.{Vec}
use Rattle.std.specs.String.{string_bytes}
use denote.Ref.{Bor}
use Rattle.ada_resolve.specs.Paths.{Meant, access_value, aggregate_value, boolean_value, integer_value, lent_value, null_value, record_value, unknown}
use Rattle.ada_resolve.specs.Resolution.{At, IsFirstNameFault, LoopHead, on_condition, over_range, Others, SequenceForm, Told, broken, gives, made_into}
use Rattle.ada_resolve.specs.declared.loops.Head.{Head}
use Rattle.ada_resolve.specs.declared.loops.Head.TheVariants as head

-- An entry of the names.
abbrev pub named_of : Bor (List ℕ) × Entity → Named
named_of entry = record { text = entry.0.now; entity = entry.1 }

-- What names stand for, as the code keeps it.
abbrev pub names_in : List (Bor (List ℕ) × Entity) → List Named
names_in entries = map named_of entries

-- The type that a formal parameter is known by, where it is a record.
abbrev pub own_types : Option KnownType → List TypeForm
own_types (Some own) = known_type_form own ∷ []
own_types None = []

-- The formal parameters of a procedure, as far as they are looked at.
abbrev pub formals_in : FormalsOf → Formals
formals_in f = record {
  names = names_in f.names.entries;
  variables = map variable_form f.variables.items;
  modes = f.modes.items;
  types = map known_type_form f.types.items;
}

-- The variables of the body around, where there is one.
abbrev pub optional_variables : Option (Vec Variable) → Option (List VariableForm)
optional_variables (Some variables) = Some (map variable_form variables.items)
optional_variables None = None

-- A text, where there is one.
abbrev pub text_of : Option (Bor (List ℕ)) → Option (List ℕ)
text_of None = None
text_of (Some text) = Some text.now

-- A specification, as the code keeps it: by the type.
abbrev pub specified_of : ℕ × Bor (List ℕ) → Specified
specified_of entry = record { record_type = entry.0; formal = entry.1.now }

-- The specifications of operations in a part, as the code keeps them.
unfoldable pub specifications_in : SpecificationsOf → Specifications
specifications_in s = record {
  initializes = map specified_of s.initializes.entries;
  adjusts = map specified_of s.adjusts.entries;
  finalizes = map specified_of s.finalizes.entries;
  count = s.count;
  awaited = s.awaited;
}

-- A declarative part, as the code keeps it.
unfoldable pub part_of : PartOf → Part
part_of p = record {
  names = map named_of p.names.entries;
  specified = specifications_in p.specified;
  first_type = p.first_type;
  first_variable = p.first_variable;
  first_body = p.first_body;
  elaborated = map declaration_form p.declarations.items;
  modes = p.modes.items;
  around = optional_variables p.around;
  keeps_operand = p.keeps_operand;
}

-- What a resolution in progress knows: the code keeps the outer parts with the innermost last.
unfoldable pub known_of : Resolver → Known
known_of r = record {
  withs = r.withs;
  procedure = r.procedure.now;
  here = part_of r.here;
  outer = reverse (map part_of r.outer.items);
  types = map known_type_form r.types.items;
  pools = map pool_form r.pools.items;
  bodies = map body_form r.procedures.items;
  variables = map variable_form r.variables.items;
  exceptions = map string_bytes r.exceptions.items;
  texts = map string_bytes r.texts.items;
  frozen = r.frozen.keys;
  controlled = r.controlled;
  limited = r.limited.keys;
}

-- The items of a record.
abbrev pub items_in : Vec Item → List ItemForm
items_in items = map item_form items.items

-- What an expression means, as the code keeps it.
abbrev pub meant_of : MeantOf → Meant
meant_of meant.Unknown = unknown
meant_of meant.Null = null_value
meant_of (meant.Access path access) = access_value (path_form path) access
meant_of (meant.Integer e) = integer_value (expression_form e)
meant_of (meant.Boolean e) = boolean_value (expression_form e)
meant_of (meant.Record path) = record_value (record_path_form path)
meant_of (meant.Aggregate t items) = aggregate_value t (items_in items)
meant_of (meant.Lent t) = lent_value t

-- What can be compared, as the code tells it.
abbrev pub comparable_of : ComparableOf → Comparable
comparable_of comparable.AnyValue = any_value
comparable_of comparable.Integer = an_integer
comparable_of comparable.Boolean = a_boolean
comparable_of comparable.Access = an_access
comparable_of comparable.Null = the_null
comparable_of comparable.Record = a_record

-- The items of a component, or of a record object's initial value, where there are any.
abbrev pub optional_items : Option (Vec Item) → Option (List ItemForm)
optional_items (Some items) = Some (items_in items)
optional_items None = None

-- What is known before an item, as the code keeps it.
abbrev pub filling_in : FillingOf → Filling
filling_in f = record { count = f.count; slots = map optional_items f.slots.items; whole = f.whole }

-- The value of a right side, where that is known.
abbrev pub right_in : Option Right → Option RightForm
right_in (Some value) = Some (right_form value)
right_in None = None

-- What is assigned, where that is known.
abbrev pub assigned_in : Option AssignedOf → Option Assigned
assigned_in (Some (assigned.Value value)) = Some (a_value (right_form value))
assigned_in (Some (assigned.Record items)) = Some (a_whole (items_in items))
assigned_in None = None

-- What is assigned to, where that is known.
abbrev pub target_in : Option TargetOf → Option Target
target_in (Some (target.Value path kind)) = Some (value_target (path_form path) kind)
target_in (Some (target.Record path)) = Some (record_target (record_path_form path))
target_in None = None

-- What a borrower borrows at first, where that is known.
abbrev pub lender_of : Option (Path × TypeNo) → Option (PathForm × TypeNo)
lender_of (Some lender) = Some (path_form lender.0, lender.1)
lender_of None = None

-- What a statement does, where that is known.
abbrev pub stmt_in : Option Stmt → Option StmtForm
stmt_in (Some statement) = Some (stmt_form statement)
stmt_in None = None

-- The links of a chain of one operator.
abbrev pub single_link : Link → LinksForm
single_link link = a_link link.operator (expression_form link.operand) no_more_links

-- The number of a type, where there is one.
abbrev pub optional_number : Option TypeNo → Option ℕ
optional_number t = option_map (λ (n : TypeNo). n.0) t

-- The answered fault is the one that is noted first.
abbrev pub Blames : NameFault → Option (Spot × NameRule) → Type 0
Blames (Broken spot rule) fault = fault ≡ Some (spot, rule)
Blames NoMemory fault = ⊥

-- The call fails exactly where a fault is noted, and with that fault.
abbrev pub Settles : {X : Type 0} → Result X NameFault → Option (Spot × NameRule) → Type 0
Settles (Ok x) fault = fault ≡ None
Settles (Err e) fault = Blames e fault

-- An answered fault is the outcome. Where memory ran out, nothing is said of the outcome.
abbrev pub Refuses : {X : Type 0} → NameFault → Told X → Type 0
Refuses (Broken spot rule) told = told ≡ broken spot rule
Refuses NoMemory told = Unit {0}

-- The call succeeds exactly where the outcome is a value, and then this is the value; out of memory aside.
abbrev pub Tells : {X Y : Type 0} → Result X NameFault → Y → Told Y → Type 0
Tells (Ok x) y told = told ≡ gives y
Tells (Err e) y told = Refuses e told

-- The answer, its value seen through a view, is exactly the outcome, out of memory aside.
abbrev pub Answers : {X Y : Type 0} → Result X NameFault → (X → Y) → Told Y → Type 0
Answers (Ok x) view told = told ≡ gives (view x)
Answers (Err e) view told = Refuses e told

-- The answer and what is so after the call are exactly the outcome, out of memory aside.
abbrev pub AnswersWith : {X Y S : Type 0} → Result X NameFault → (X → Y) → S → Told (Y × S) → Type 0
AnswersWith (Ok x) view after told = told ≡ gives (view x, after)
AnswersWith (Err e) view after told = Refuses e told

-- What the statements of a part do, and what handles their exceptions.
abbrev pub sequence_in : Sequence → SequenceForm
sequence_in body = (stmts_form body.statements.items, handlers_form body.handlers.items)

-- What the statements do.
abbrev pub statements_in : Vec Stmt → StmtsForm
statements_in statements = stmts_form statements.items

-- A branch.
abbrev pub branch_form : Branch → ExpressionForm × StmtsForm
branch_form b = (expression_form b.condition, stmts_form b.statements.items)

-- The head of a loop, as the code keeps it.
abbrev pub head_in : Head → LoopHead
head_in (head.Condition condition) = on_condition (condition_form condition)
head_in (head.Range parameter first last) = over_range parameter.0 (expression_form first) (expression_form last)

-- What the handlers do.
abbrev pub handlers_in : Vec Handler → HandlersForm
handlers_in handlers = handlers_form handlers.items

-- The choices of a handler, and a handler with its statements.
abbrev pub choices_in : Vec Choice → List Choice
choices_in choices = choices.items

-- A handler, as the program keeps it: its choices and its statements.
abbrev pub handler_form : Handler → List Choice × StmtsForm
handler_form h = (h.choices.items, stmts_form h.statements.items)

-- The branches of an `if` are answered: whatever comes of the other statements behind them, they come first.
abbrev pub AnswersBranches : Result (Vec Branch) NameFault → At → (Others → Told (BranchesForm × At)) → Type 0
AnswersBranches (Ok made) at told = (others : Others) → told others ≡ made_into (branches_form made.items) (others at)
AnswersBranches (Err e) at told = (others : Others) → Refuses e (told others)

-- A value as it is.
abbrev pub itself : {X : Type 0} → X → X
itself x = x

-- The value of a part that only has to be without a fault.
abbrev pub done : Unit {0}
done = tt {0}

-- The library units as they are: no view is needed.
abbrev pub same_units : Withs → Withs
same_units withs = withs

-- An answered fault is the first of the tree.
abbrev pub Faults : NameFault → UnitTree → Type 0
Faults (Broken spot rule) tree = IsFirstNameFault tree spot rule
Faults NoMemory tree = Unit {0}
