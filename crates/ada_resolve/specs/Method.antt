-- What the methods of the resolver promise, in a word each: what they answer, what is noted, and what is known after them.

use Rattle.std.specs.Prelude.{◌≡◌, ◌++◌, ◌∷◌, ℕ, Bool, List, [], length, map, Option, Some, Result, IfOk, OnOk}
use Rattle.std.specs.Global.{Vec}
use denote.MutBor.{MutBor}
use denote.Ref.{Bor}
use denote.Triple.Both.{Both}
use Rattle.ada_text.specs.declared.spot.Spot.{Spot}
use Rattle.ada_tree.specs.Declarations.{formal_of, optional_aspect_of, size_of}
use Rattle.ada_tree.specs.ExpressionView.{argument_of, expression_of, optional_right_of}
use Rattle.ada_tree.specs.Expressions.{ExpressionTree}
use Rattle.ada_tree.specs.Names.{Ident, ident_of, name_of, optional_ident_of}
use Rattle.ada_tree.specs.Records.{component_of, record_of, static_of}
use Rattle.ada_tree.specs.Statements.{DeclarationTree, access_type, attribute_clause, borrower_declaration, constant_declaration, derived_type, instance, object_declaration, pool_declaration, record_type, HandlersTree, branches_from, handlers_from}
use Rattle.ada_tree.specs.StatementView.{branch_of, handler_of, unit_of}
use Rattle.ada_tree.specs.declared.declarations.Aspect.{Aspect}
use Rattle.ada_tree.specs.declared.declarations.Formal.{Formal}
use Rattle.ada_tree.specs.declared.declarations.Size.{Size}
use Rattle.ada_tree.specs.declared.expressions.Argument.{Argument}
use Rattle.ada_tree.specs.declared.expressions.Item.{Item as WrittenItem}
use Rattle.ada_tree.specs.declared.expressions.Right.{Right}
use Rattle.ada_tree.specs.declared.names.Identifier.{Identifier}
use Rattle.ada_tree.specs.declared.names.Name.{Name}
use Rattle.ada_tree.specs.declared.names.Path.{Path}
use Rattle.ada_tree.specs.declared.records.ComponentDefinition.{ComponentDefinition}
use Rattle.ada_tree.specs.declared.records.RecordDefinition.{RecordDefinition}
use Rattle.ada_tree.specs.declared.records.StaticValue.{StaticValue}
use Rattle.ada_tree.specs.declared.statements.Branch.{Branch}
use Rattle.ada_tree.specs.declared.statements.Handler.{Handler}
use Rattle.ada_tree.specs.declared.unit.Unit.{Unit as UnitOf}
use Rattle.ada_program.specs.Form.{BranchesForm, DeclarationForm, component_number, creates_pool, declaration_form, declares, declares_record}
use Rattle.ada_program.specs.Kept.{variables_in}
use Rattle.ada_program.specs.ProgramForm.{PoolForm, ProgramForm, VariableForm}
use Rattle.ada_program.specs.declared.program.FormalMode.{FormalMode}
use Rattle.ada_program.specs.declared.program.Branch.{Branch as BranchOf}
use Rattle.ada_program.specs.declared.program.ComponentKind.{ComponentKind}
use Rattle.ada_program.specs.declared.program.ComponentNo.{ComponentNo}
use Rattle.ada_program.specs.declared.program.Declaration.{Declaration}
use Rattle.ada_program.specs.declared.program.Item.{Item}
use Rattle.ada_program.specs.declared.program.Right.{Right as RightOf}
use Rattle.ada_program.specs.declared.program.ProcedureNo.{ProcedureNo}
use Rattle.ada_program.specs.declared.program.TypeNo.{TypeNo}
use Rattle.ada_program.specs.declared.program.Variable.{Variable}
use Rattle.ada_program.specs.declared.program.VariableKind.{VariableKind}
use Rattle.ada_program.specs.declared.program.VariableNo.{VariableNo}
use Rattle.ada_resolve.specs.declared.components.Components.{Components}
use Rattle.ada_resolve.specs.declared.components.KnownComponent.{KnownComponent}
use Rattle.ada_resolve.specs.declared.components.KnownType.{KnownType}
use Rattle.ada_resolve.specs.declared.fault.NameFault.{NameFault}
use Rattle.ada_resolve.specs.declared.formals.Formals.{Formals as FormalsOf}
use Rattle.ada_resolve.specs.declared.instances.Instance.{Instance}
use Rattle.ada_resolve.specs.declared.items.Filling.{Filling as FillingOf}
use Rattle.ada_resolve.specs.declared.meant.Meant.{Meant as MeantOf}
use Rattle.ada_resolve.specs.declared.notes.Notes.{Notes}
use Rattle.ada_resolve.specs.declared.part.Part.{Part as PartOf}
use Rattle.ada_resolve.specs.declared.primitives.Operation.{Operation}
use Rattle.ada_resolve.specs.declared.procedures.Sequence.{Sequence}
use Rattle.ada_resolve.specs.declared.resolver.Resolver.{Resolver}
use Rattle.ada_resolve.specs.declared.scope.Entity.{Entity}
use Rattle.ada_resolve.specs.Arguments.{argument_remark, arguments_remark, image_remark, none_wanted}
use Rattle.ada_resolve.specs.Derived.{with_limited}
use Rattle.ada_resolve.specs.Expressions.{expression_meant, item_remark}
use Rattle.ada_resolve.specs.Items.{Filling, after_item, filled_components, first_filling, for_remark}
use Rattle.ada_resolve.specs.Kept.{composition_in, kept_with, known_type_form}
use Rattle.ada_resolve.specs.Known.{Known, Named, Part, Specifications, entered, new_name_remark, no_specifications, visible, with_elaborated}
use Rattle.ada_resolve.specs.Objects.{initial_source, record_created, variable_created}
use Rattle.ada_resolve.specs.Pools.{with_pool}
use Rattle.ada_resolve.specs.Paths.{Meant, written_wanted}
use Rattle.ada_resolve.specs.Primitives.{answered, overridden_if}
use Rattle.ada_resolve.specs.Records.{Composition, further_component_remark, with_record_defined}
use Rattle.ada_resolve.specs.Remark.{Remark, ◌also◌, noted}
use Rattle.ada_resolve.specs.Procedures.{Formals, body_begun, body_ended, body_of, formal_remark, variables_around, with_formal, with_procedure, without_body}
use Rattle.ada_resolve.specs.Resolution.{At, Others, Told, branches_told, procedure_from, program_of, told_of, with_parameter}
use Rattle.ada_resolve.specs.Types.{completion_remark, new_unless, number_of, with_definition}
use Rattle.ada_resolve.specs.View.{filling_in, formals_in, handlers_in, known_of, meant_of, optional_items, optional_variables, part_of, right_in, statements_in, AnswersBranches, AnswersWith, Tells}

-- The resolver of a method that only looks at a part of the tree.
abbrev pub Seen : Type 0
Seen = Both (Bor Resolver) (Bor Resolver)

-- What the resolver knows then.
abbrev pub known : Seen → Known
known resolver = known_of resolver.entry.now

-- What an identifier stands for in what the resolver knows (8.3).
abbrev pub entity_of : Seen → Identifier → Option Entity
entity_of resolver name = visible (known resolver) name.text.now

-- What is wrong with a path that begins at a constant, is written to, and means this (3.3).
abbrev pub constant_remark : Seen → Path → Meant → Remark
constant_remark resolver path meant = written_wanted (entity_of resolver path.root) meant path.root.spot

-- The value of the answer means this. A call that runs out of memory answers no value.
abbrev pub Finds : {X Y : Type 0} → (X → Y) → Result X NameFault → Y → Type 0
Finds view result meaning = IfOk result (λ x. view x ≡ meaning)

-- The call notes this remark, after what was noted before.
abbrev pub IsNoted : Both (MutBor Notes) (MutBor Notes) → Remark → Type 0
IsNoted notes remark = notes.exit.now ≡ noted remark notes.entry.now

-- A call that answers notes this remark.
abbrev pub Remarks : {X : Type 0} → Result X NameFault → Both (MutBor Notes) (MutBor Notes) → Remark → Type 0
Remarks result notes remark = OnOk result (IsNoted notes remark)

-- The call changes what is known in this way, and in no other.
abbrev pub Changes : Both (MutBor Resolver) (MutBor Resolver) → (Known → Known) → Type 0
Changes resolver change = known_of resolver.exit.now ≡ change (known_of resolver.entry.now)

-- The call declares that the name stands for this in the part, and changes nothing else of it.
abbrev pub Enters : Both (MutBor PartOf) (MutBor PartOf) → List ℕ → Entity → Type 0
Enters part text entity =
    part_of part.exit.now ≡ record (part_of part.entry.now) { names = entered text entity (part_of part.entry.now).names }

-- The call changes what the part specifies in this way, and changes nothing else of it.
abbrev pub Specifies : Both (MutBor PartOf) (MutBor PartOf) → (Specifications → Specifications) → Type 0
Specifies part change =
    part_of part.exit.now ≡ record (part_of part.entry.now) { specified = change (part_of part.entry.now).specified }

-- The call adds these to what the part elaborates, and changes nothing else of it.
abbrev pub Elaborates : Both (MutBor PartOf) (MutBor PartOf) → List DeclarationForm → Type 0
Elaborates part declarations =
    part_of part.exit.now ≡ record (part_of part.entry.now) { elaborated = (part_of part.entry.now).elaborated ++ declarations }

-- The notes of a call.
abbrev pub Noting : Type 0
Noting = Both (MutBor Notes) (MutBor Notes)

-- What a call that changes the resolver knows.
abbrev pub Knowing : Type 0
Knowing = Both (MutBor Resolver) (MutBor Resolver)

-- The call takes this step: from what was known and noted before it to what is known and noted after it, or to the first fault.
abbrev pub Takes : {X : Type 0} → Result X NameFault → Knowing → Noting → (At → Told (At)) → Type 0
Takes result resolver notes step =
    Tells result (known_of resolver.exit.now, notes.exit.now) (step (known_of resolver.entry.now, notes.entry.now))

-- The call makes this declaration known and notes its remark, or fails with the first fault.
abbrev pub Declares : {X : Type 0} → Result X NameFault → Knowing → Noting → DeclarationTree → Type 0
Declares result resolver notes declaration = Takes result resolver notes (told_of declaration)

-- The call changes in this way what the code keeps of a record type.
abbrev pub Composes : Both (MutBor Components) (MutBor Components) → (Composition → Composition) → Type 0
Composes components change = composition_in components.exit.now ≡ change (composition_in components.entry.now)

-- The call changes in this way what is known of the items of an aggregate.
abbrev pub Fills : Both (MutBor FillingOf) (MutBor FillingOf) → (Filling → Filling) → Type 0
Fills filling change = filling_in filling.exit.now ≡ change (filling_in filling.entry.now)

-- The call adds the numbers of these components to those that are selected so far.
abbrev pub Selects : Both (MutBor (Vec ComponentNo)) (MutBor (Vec ComponentNo)) → List ℕ → Type 0
Selects components numbers = map component_number components.exit.now.items ≡ map component_number components.entry.now.items ++ numbers

-- Declarations of the tree, of their parts as the code has them.

-- `type A is access T;` (3.10)
abbrev pub access_tree : Spot → Identifier → Identifier → Option Aspect → DeclarationTree
access_tree spot name designated aspect = access_type spot (ident_of name) (ident_of designated) (optional_aspect_of aspect)

-- `type T is record .. end record;` (3.8)
abbrev pub record_tree : Spot → Identifier → RecordDefinition → DeclarationTree
record_tree spot name definition = record_type spot (ident_of name) (record_of definition)

-- `type T is new Ada.Finalization.Controlled with record .. end record;` (3.4, 7.6)
abbrev pub derived_tree : Spot → Identifier → Name → RecordDefinition → DeclarationTree
derived_tree spot name parent definition = derived_type spot (ident_of name) (name_of parent) (record_of definition)

-- `N : constant := 1;` (3.3.2)
abbrev pub constant_tree : Identifier → StaticValue → DeclarationTree
constant_tree name value = constant_declaration (ident_of name) (static_of value)

-- `P : T (Pool_Size => 64);` (13.11)
abbrev pub pool_tree : Identifier → Name → Option Identifier → Size → DeclarationTree
pool_tree name type_name label size = pool_declaration (ident_of name) (name_of type_name) (optional_ident_of label) (size_of size)

-- A pool, by its name and its size.
abbrev pub pool_of : Identifier → (words : ℕ) → PoolForm
pool_of name words = record { name = name.text.now; words = words }

-- What is known once there is one more pool, which the innermost part creates.
abbrev pub with_created_pool : Identifier → (words : ℕ) → Known → Known
with_created_pool name words known = with_elaborated (creates_pool (length known.pools) ∷ []) (with_pool (pool_of name words) known)

-- `for A'Storage_Pool use P;` (13.11)
abbrev pub clause_tree : Spot → Identifier → Identifier → Size → DeclarationTree
clause_tree spot name attribute value = attribute_clause spot (ident_of name) (ident_of attribute) (size_of value)

-- `X : T := ..;` (3.3.1)
abbrev pub object_tree : Identifier → Name → Option Right → DeclarationTree
object_tree name type_name initial = object_declaration (ident_of name) (name_of type_name) (optional_right_of initial)

-- `B : access T := P;` (3.10)
abbrev pub borrower_tree : Identifier → Identifier → Option Right → DeclarationTree
borrower_tree name designated initial = borrower_declaration (ident_of name) (ident_of designated) (optional_right_of initial)

-- An instance (12.3).
abbrev pub instance_tree : Instance → DeclarationTree
instance_tree written =
    instance written.spot (ident_of written.name) (name_of written.generic.now) (ident_of written.object) (ident_of written.access)

-- Each element of a vector, seen through a view.
abbrev pub each : {X Y : Type 0} → (X → Y) → Vec X → List Y
each view v = map view v.items

-- The elements of a vector of elementary components.
abbrev pub kinds_listed : Vec ComponentKind → List ComponentKind
kinds_listed kinds = kinds.items

-- The name before `=>` in an item, where one is written (4.3.1).
abbrev pub label_of : WrittenItem → Option Ident
label_of item = optional_ident_of item.label

-- The value of an item.
abbrev pub written_value : WrittenItem → ExpressionTree
written_value item = expression_of item.value

-- What is known before the first item, for a record type where that is known.
abbrev pub empty_filling : Seen → Option TypeNo → Filling
empty_filling seen found = first_filling (filled_components (known seen) found)

-- What is wrong with an item as it is written.
abbrev pub written_item_remark : Seen → Option TypeNo → Bool → Both (MutBor FillingOf) (MutBor FillingOf) → WrittenItem → Remark
written_item_remark seen found is_named filling item =
    item_remark (known seen) (filled_components (known seen) found) is_named (filling_in filling.entry.now) (label_of item) (written_value item)

-- What is known after it.
abbrev pub item_filling : Seen → Option TypeNo → Bool → WrittenItem → Filling → Filling
item_filling seen found is_named item filling =
    after_item (filled_components (known seen) found) is_named filling (label_of item) (expression_meant (known seen) (written_value item))

-- What is wrong with an item for this component, where its value means this.
abbrev pub written_for_remark : List Variable → Option (ℕ × KnownComponent) → FillingOf → WrittenItem → MeantOf → Remark
written_for_remark variables component filling item meant =
    for_remark (variables_in variables) component (filling_in filling) (label_of item) (written_value item) (meant_of meant)

-- What is wrong with one more component of a record type.
abbrev pub next_component_remark : Seen → Both (MutBor Components) (MutBor Components) → ComponentDefinition → Remark
next_component_remark seen components c = further_component_remark (known seen) (composition_in components.entry.now) (component_of c)

-- What the code keeps of a record type with one more component.
abbrev pub with_kept : Seen → ComponentDefinition → Composition → Composition
with_kept seen c before = kept_with (known seen) before (component_of c)

-- What is wrong with arguments, in order.
abbrev pub remark_of_arguments : Seen → List Argument → Remark
remark_of_arguments seen arguments = arguments_remark (known seen) (map argument_of arguments)

-- What is wrong with arguments that are too many.
abbrev pub too_many_remark : Seen → List Argument → Remark
too_many_remark seen arguments = none_wanted (map argument_of arguments) also arguments_remark (known seen) (map argument_of arguments)

-- What is wrong with one argument.
abbrev pub remark_of_argument : Seen → Argument → Remark
remark_of_argument seen argument = argument_remark (known seen) (argument_of argument)

-- What is wrong with an attribute, by its prefix and its name.
abbrev pub attribute_remark : Seen → Identifier → Identifier → Remark
attribute_remark seen prefix attribute = image_remark (known seen) (ident_of prefix) (ident_of attribute)

-- What is wrong with an access type that completes an incomplete type.
abbrev pub completing_remark : Seen → Option TypeNo → Identifier → Identifier → Remark
completing_remark seen completes name designated = completion_remark completes (known seen) (ident_of name) (ident_of designated)

-- What is wrong with the name of a type that may complete an incomplete one.
abbrev pub type_name_remark : Seen → Option TypeNo → Identifier → Spot → Remark
type_name_remark seen completes name spot = new_unless completes (new_name_remark (known seen) (ident_of name) spot)

-- What is known once a type is defined: a new one, or the one that it completes.
abbrev pub with_type : Option TypeNo → KnownType → Known → Known
with_type completes definition = with_definition completes (known_type_form definition)

-- What is known once a record type of these components, as the code keeps it, is declared: a new one, or the one that it completes.
abbrev pub with_composed : Option TypeNo → Identifier → Components → Known → Known
with_composed completes name components known =
    with_record_defined completes known (ident_of name) (composition_in components)

-- What is known once such a type is declared that is derived from Limited_Controlled, or from Controlled.
abbrev pub with_derived : (limited : Bool) → Option TypeNo → Identifier → Components → Known → Known
with_derived limited completes name components known =
    with_limited limited (number_of completes known.types) (with_composed completes name components known)

-- What is known once an object or a borrower is declared (3.3.1): it is named, is a variable, and is created with its initial value.
abbrev pub with_object : Identifier → (borrows : Bool) → VariableKind → Option RightOf → Known → Known
with_object name borrows kind value known = variable_created known (ident_of name) borrows kind (initial_source (right_in value))

-- What is known once a record object of a type is declared (3.3.1): it is named, is a variable, and is created, perhaps with these items.
abbrev pub with_record_of : Identifier → TypeNo → Option (Vec Item) → Known → Known
with_record_of name t initial known = record_created known (ident_of name) t (optional_items initial)

-- A variable of this name.
abbrev pub new_variable : Identifier → (borrows : Bool) → VariableKind → VariableForm
new_variable name borrows kind = record { name = name.text.now; spot = name.spot; kind = kind; borrows = borrows }

-- What is known once a variable is created with its initial value.
abbrev pub with_created : VariableNo → Option RightOf → Known → Known
with_created variable value = with_elaborated (declares variable.0 (initial_source (right_in value)) ∷ [])

-- What is known once a record object is created, which is known by this type, perhaps with these items.
abbrev pub with_object_created : VariableNo → TypeNo → Option (Vec Item) → Known → Known
with_object_created variable object initial = with_elaborated (declares_record variable.0 object.0 (optional_items initial) ∷ [])

-- What is known once these declarations are elaborated too.
abbrev pub with_declarations : Vec Declaration → Known → Known
with_declarations declarations = with_elaborated (map declaration_form declarations.items)

-- The call does what comes of a part of a tree, seen through a view: from what was known and noted before it to what is known and noted after
-- it, or to the first fault; out of memory aside.
abbrev pub Does : {X Y : Type 0} → Result X NameFault → (X → Y) → Knowing → Noting → (At → Told (Y × At)) → Type 0
Does result view resolver notes step =
    AnswersWith result view (known_of resolver.exit.now, notes.exit.now) (step (known_of resolver.entry.now, notes.entry.now))

-- The call does the branches of an `if`, whatever comes of the statements behind them.
abbrev pub DoesBranches : Result (Vec BranchOf) NameFault → Knowing → Noting → (Others → At → Told (BranchesForm × At)) → Type 0
DoesBranches result resolver notes step =
    AnswersBranches result (known_of resolver.exit.now, notes.exit.now)
    (λ others. step others (known_of resolver.entry.now, notes.entry.now))

-- What comes of the branches of a tree, where this comes of the statements behind them.
abbrev pub branches_come : (inside_loop : Bool) → List Branch → Others → At → Told (BranchesForm × At)
branches_come inside_loop branches others at = branches_told inside_loop (branches_from (map branch_of branches)) others at

-- The handlers of a tree.
abbrev pub handlers_of : List Handler → HandlersTree
handlers_of handlers = handlers_from (map handler_of handlers)

-- What is known once the parameter of a loop is declared (5.5).
abbrev pub with_own_parameter : Identifier → Known → Known
with_own_parameter name = with_parameter (ident_of name)

-- The outcome of the procedure of a tree, from what the resolver knows before its first declaration.
abbrev pub procedure_outcome : Resolver → UnitOf → Told ProgramForm
procedure_outcome resolver unit = procedure_from (unit_of unit) (known_of resolver)

-- The program of what the resolver knows, and of the statements and their handlers.
abbrev pub program_in : Resolver → Sequence → ProgramForm
program_in resolver body = program_of (known_of resolver) (statements_in body.statements) (handlers_in body.handlers)

-- The part of a procedure's body, with these names, behind so many types, formal parameters of these modes and bodies; the variables of the body around
-- are these. The body keeps its operand or does not.
abbrev pub part_of_body : List Named → (types formals bodies : ℕ) → List FormalMode → List VariableForm → (keeps_operand : Bool) → Part
part_of_body names types formals bodies modes around keeps_operand = record {
  names = names;
  specified = no_specifications;
  first_type = types;
  first_variable = formals;
  first_body = bodies;
  elaborated = [];
  modes = modes;
  around = Some around;
  keeps_operand = keeps_operand;
}

-- The call changes in this way the formal parameters that are looked at.
abbrev pub Declaring : Both (MutBor FormalsOf) (MutBor FormalsOf) → (Formals → Formals) → Type 0
Declaring formals change = formals_in formals.exit.now ≡ change (formals_in formals.entry.now)

-- What is wrong with a formal behind others.
abbrev pub next_formal_remark : Seen → Both (MutBor FormalsOf) (MutBor FormalsOf) → Formal → Remark
next_formal_remark seen before formal = formal_remark (known seen) (formals_in before.entry.now) (formal_of formal)

-- The formals with one more.
abbrev pub with_next_formal : Seen → Formal → Formals → Formals
with_next_formal seen formal = with_formal (known seen) (formal_of formal)

-- What is known where the body of a procedure of this name begins, with these formals.
abbrev pub begun_with : Identifier → FormalsOf → Known → Known
begun_with name formals = body_begun (ident_of name) (formals_in formals)

-- What is known once the body around is at work again, whose variables these are.
abbrev pub at_work_again : Option (Vec Variable) → Known → Known
at_work_again around known = record known { variables = variables_around (optional_variables around) }

-- What is known once a body has ended, whose statements and handlers these are, and whose first token and last `end` stand here.
abbrev pub without_body_of : Sequence → (start last : Spot) → Known → Known
without_body_of body start last known =
    with_procedure (body_of known (statements_in body.statements) (handlers_in body.handlers) start last) (without_body known)

-- What is known behind the body of a procedure of this name, whose statements and handlers these are, and whose first token and last `end` stand here.
abbrev pub ended_with : Identifier → Sequence → (start last : Spot) → Known → Known
ended_with name body start last = body_ended (ident_of name) (statements_in body.statements) (handlers_in body.handlers) start last

-- What is known once the body of an operation has ended that the part specifies.
abbrev pub with_answered : Operation → Known → Known
with_answered operation known = record known { here = record known.here { specified = answered (Some operation) known.here.specified } }

-- What is known once a procedure overrides an operation of a type, where that is known.
abbrev pub with_overridden : Operation → ProcedureNo → Option ℕ → Known → Known
with_overridden operation procedure t known = record known { types = overridden_if (Some operation) procedure t known.types }
