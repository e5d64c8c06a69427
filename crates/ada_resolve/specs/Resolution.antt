-- The program of a tree, or its first fault.

use Rattle.std.specs.Prelude.{◌≡◌, ℕ, ◌==◌, Bool, true, false, ◌||◌, not, if◌then◌else◌, List, [], ◌∷◌, length, map, Option, Some, None, bytes_eq}
use Rattle.ada_text.specs.declared.spot.Spot.{Spot}
use Rattle.ada_tree.specs.Expressions.{ExpressionTree}
use Rattle.ada_tree.specs.Names.{Ident, NameTree}
use Rattle.ada_tree.specs.Declarations.{ChoiceTree, ClauseTree, HeadTree}
use Rattle.ada_tree.specs.Statements.{DeclarationTree, exception_declaration, constant_declaration, incomplete_type, access_type, record_type, derived_type, attribute_clause, pool_declaration, specification, instance, object_declaration, borrower_declaration, body_declaration, DeclarationsTree, no_declarations, a_declaration, SchemeTree, endless, while_scheme, for_scheme, StatementTree, if_statement, loop_statement, block, declare_block, StatementsTree, no_statements, a_statement, BranchesTree, no_branches, a_branch, BranchTree, HandlersTree, no_handlers, a_handler, HandlerTree, SequenceTree, a_sequence, begin_of, UnitTree}
use Rattle.ada_program.specs.Form.{ExpressionForm, StmtForm, chooses, counts, encloses, repeats, StmtsForm, no_stmts, a_stmt, BranchesForm, otherwise, HandlersForm}
use Rattle.ada_program.specs.Form as form
use Rattle.ada_program.specs.declared.program.Choice.{Choice}
use Rattle.ada_program.specs.ProgramForm.{ProgramForm, nowhere}
use Rattle.ada_program.specs.declared.program.VariableKind.TheVariants as variable
use Rattle.ada_resolve.specs.declared.fault.NameRule.{NameRule}
use Rattle.ada_resolve.specs.declared.fault.NameRule.TheVariants.{UnknownName, DeclaredTwice, NotInProfile, BodyMissing}
use Rattle.ada_resolve.specs.declared.library.LibraryName.{LibraryName}
use Rattle.ada_resolve.specs.declared.library.LibraryName.TheVariants.{TextIo, UncheckedDeallocation, Finalization, Pools, RunInput}
use Rattle.ada_resolve.specs.declared.library.Withs.{Withs}
use Rattle.ada_resolve.specs.declared.notes.Notes.{Notes}
use Rattle.ada_resolve.specs.declared.scope.Entity.{Entity}
use Rattle.ada_resolve.specs.declared.scope.Entity.TheVariants as entity
use Rattle.ada_resolve.specs.Known.{Known, Named, declared, part_from, with_part, without_part, next_variable}
use Rattle.ada_resolve.specs.Library.{is_taken, is_primitive, library_name}
use Rattle.ada_resolve.specs.Remark.{Remark, fine, wrong, node, ◌also◌, wrong_if, noted}
use Rattle.ada_resolve.specs.Spots.{declaration_spot, end_of, head_spot}
use Rattle.ada_resolve.specs.Borrowers.{borrower_known, borrower_remark}
use Rattle.ada_resolve.specs.Clauses.{clause_known, clause_remark}
use Rattle.ada_resolve.specs.Derived.{derived_type_known, derived_type_remark}
use Rattle.ada_resolve.specs.Exceptions.{choices_meant, choices_remark, exception_known, exception_remark}
use Rattle.ada_resolve.specs.Instances.{instance_known, instance_remark}
use Rattle.ada_resolve.specs.Objects.{after_types, object_known, object_remark, with_variable}
use Rattle.ada_resolve.specs.Pools.{pool_known, pool_remark}
use Rattle.ada_resolve.specs.Procedures.{behind_head, body_ended, body_head_remark}
use Rattle.ada_resolve.specs.Records.{record_type_known, record_type_remark}
use Rattle.ada_resolve.specs.Specifications.{specification_known, specification_remark}
use Rattle.ada_resolve.specs.Statements.{bound_meant, bound_remark, condition_meant, condition_remark, simple_texts, statement_meant, statement_remark, with_texts}
use Rattle.ada_resolve.specs.Statics.{constant_known, constant_remark}
use Rattle.ada_resolve.specs.Types.{access_known, access_remark, incomplete_known, incomplete_remark}

-- The outcome of a tree or of a part of it: the first rule that is broken, and where, or a value.
pub data Told (X : Type 0) : Type 0 where
  broken : Spot → NameRule → Told X
  gives : X → Told X

-- One part and then the next: the first fault is the outcome.
abbrev pub and_then : {X Y : Type 0} → Told X → (X → Told Y) → Told Y
and_then (broken spot rule) more = broken spot rule
and_then (gives x) more = more x

-- The value and the notes, unless a fault is noted.
abbrev pub unless_wrong : {X : Type 0} → Notes → Option (Spot × NameRule) → X → Told (X × Notes)
unless_wrong notes (Some fault) x = broken fault.0 fault.1
unless_wrong notes None x = gives (x, notes)

-- The outcome of a part that has noted all its faults: the first of them, or the value.
abbrev pub settled : {X : Type 0} → Notes → X → Told (X × Notes)
settled notes x = unless_wrong notes notes.fault x

-- What is known and what is noted at a place.
abbrev pub At : Type 0
At = Known × Notes

-- The library units of the with clauses (10.1.2): each is one that is in use, else it is not in the profile.
abbrev pub with_unit : LibraryName → Spot → Withs → Told Withs
with_unit TextIo spot withs = gives (record withs { text_io = true })
with_unit UncheckedDeallocation spot withs = gives (record withs { deallocation = true })
with_unit Finalization spot withs = gives (record withs { finalization = true })
with_unit Pools spot withs = gives (record withs { pools = true })
with_unit RunInput spot withs = gives (record withs { run_input = true })
with_unit other spot withs = broken spot NotInProfile

-- No library unit is named yet.
abbrev pub no_units : Withs
no_units = record { text_io = false; deallocation = false; finalization = false; pools = false; run_input = false }

-- The library units with that of one more name.
abbrev pub unit_told : NameTree → Withs → Told Withs
unit_told name = with_unit (library_name name.first.text name.rest) name.first.spot

-- The library units of these names, with those so far.
abbrev pub units_of : List NameTree → Withs → Told Withs
units_of [] withs = gives withs
units_of (name ∷ names) withs = and_then (unit_told name withs) (units_of names)

-- The library units of a clause, with those so far: its names in order.
abbrev pub clause_told : ClauseTree → Withs → Told Withs
clause_told clause = units_of (clause.first ∷ clause.rest)

-- The library units of all clauses, in order, with those so far.
abbrev pub clauses_told : List ClauseTree → Withs → Told Withs
clauses_told [] withs = gives withs
clauses_told (clause ∷ clauses) withs = and_then (clause_told clause withs) (clauses_told clauses)

-- What is wrong with a name that no other one of its part can be, in a construct that begins at the spot: it is neither predefined nor that of
-- a primitive of controlled types.
abbrev pub alone_remark : Ident → Spot → Remark
alone_remark name spot = wrong_if (is_taken name.text) name.spot DeclaredTwice also wrong_if (is_primitive name.text) spot NotInProfile

-- What is known before the first declaration.
abbrev pub known_first : Withs → List ℕ → Known
known_first withs procedure = record {
  withs = withs;
  procedure = procedure;
  here = part_from false 0 0 0;
  outer = [];
  types = [];
  pools = [];
  bodies = [];
  variables = [];
  exceptions = [];
  texts = [];
  frozen = [];
  controlled = 0;
  limited = [];
}

-- Nothing is noted yet.
abbrev pub no_notes : Notes
no_notes = record { fault = None; nodes = 0 }

-- What is known where a declaration is looked at: the types end before an object or a borrower (3.11, the profile's order).
abbrev pub known_at : Known → DeclarationTree → Known
known_at known (object_declaration name type_name initial) = after_types known
known_at known (borrower_declaration name designated initial) = after_types known
known_at known other = known

-- What is wrong with a declaration whose kind is not in the profile yet.
abbrev pub unused_remark : DeclarationTree → Remark
unused_remark declaration = wrong (declaration_spot declaration) NotInProfile

-- What is wrong with a declaration: those of other kinds are not in the profile yet.
abbrev pub declaration_remark : Known → DeclarationTree → Remark
declaration_remark known (incomplete_type spot name) = incomplete_remark known spot name
declaration_remark known (access_type spot name designated aspect) = access_remark known spot name designated aspect
declaration_remark known (record_type spot name definition) = record_type_remark known spot name definition
declaration_remark known (derived_type spot name parent definition) = derived_type_remark known spot name parent definition
declaration_remark known (instance spot name generic designated access) = instance_remark known spot name generic designated access
declaration_remark known (exception_declaration name) = exception_remark known name
declaration_remark known (constant_declaration name value) = constant_remark known name value
declaration_remark known (pool_declaration name type_name label size) = pool_remark known name type_name label size
declaration_remark known (attribute_clause spot name attribute value) = clause_remark known spot name attribute value
declaration_remark known (object_declaration name type_name initial) = object_remark known name type_name initial
declaration_remark known (borrower_declaration name designated initial) = borrower_remark known name designated initial
declaration_remark known (specification head) = specification_remark known head
declaration_remark known other = unused_remark other

-- What is known after it.
abbrev pub declaration_known : Known → DeclarationTree → Known
declaration_known known (incomplete_type spot name) = incomplete_known known name
declaration_known known (access_type spot name designated aspect) = access_known known name designated aspect
declaration_known known (record_type spot name definition) = record_type_known known name definition
declaration_known known (derived_type spot name parent definition) = derived_type_known known name parent definition
declaration_known known (instance spot name generic designated access) = instance_known known name designated access
declaration_known known (exception_declaration name) = exception_known known name
declaration_known known (constant_declaration name value) = constant_known known name value
declaration_known known (pool_declaration name type_name label size) = pool_known known name size
declaration_known known (attribute_clause spot name attribute value) = clause_known known name value
declaration_known known (object_declaration name type_name initial) = object_known known name type_name initial
declaration_known known (borrower_declaration name designated initial) = borrower_known known name initial
declaration_known known (specification head) = specification_known known head
declaration_known known other = known

-- A declaration where it stands: the first of the rules that it breaks, or what is known after it.
abbrev pub told_of : DeclarationTree → At → Told At
told_of declaration at = settled (noted (declaration_remark at.0 declaration) at.1) (declaration_known at.0 declaration)

-- What a declaration with no others in it gives, behind those before it: the types end before an object.
abbrev pub single_told : DeclarationTree → At → Told At
single_told declaration at = told_of declaration (known_at at.0 declaration, at.1)

-- What the head of a procedure's body gives (6.1, 6.3): the first of the rules that it breaks, or what is known where the body begins.
abbrev pub head_told_of : HeadTree → At → Told At
head_told_of head at = settled (noted (body_head_remark at.0 head) at.1) (behind_head at.0 head)

-- The types end before a body.
abbrev pub body_head_told : HeadTree → At → Told At
body_head_told head at = head_told_of head (after_types at.0, at.1)

-- Whether one of these is an incomplete type.
abbrev pub is_incomplete : Entity → Bool
is_incomplete (entity.Incomplete t) = true
is_incomplete other = false

-- Whether an incomplete type is among these.
abbrev pub some_incomplete : List Entity → Bool
some_incomplete [] = false
some_incomplete (e ∷ es) = is_incomplete e || some_incomplete es

-- What a name stands for.
abbrev pub entity_in : Named → Entity
entity_in n = n.entity

-- At `begin` no type of the part is incomplete (3.10.1), and each operation that it specifies has its body (3.11.1).
abbrev pub begin_remark : Known → Spot → Remark
begin_remark known spot =
    wrong_if (some_incomplete (map entity_in known.here.names)) spot BodyMissing also
    wrong_if (not (known.here.specified.awaited == 0)) spot BodyMissing

-- The outcome of `begin`: what is wanted there is missing, or what is known once the types end.
abbrev pub at_begin : Spot → At → Told At
at_begin spot at = settled (noted (begin_remark at.0 spot) at.1) (after_types at.0)

-- What comes of a part, made into something else.
abbrev pub made_into : {X Y S : Type 0} → (X → Y) → Told (X × S) → Told (Y × S)
made_into make (broken spot rule) = broken spot rule
made_into make (gives done) = gives (make done.0, done.1)

-- What comes of a part behind which this is known.
abbrev pub knowing : {X : Type 0} → Known → Told (X × Notes) → Told (X × At)
knowing known (broken spot rule) = broken spot rule
knowing known (gives done) = gives (done.0, (known, done.1))

-- A node of the source, behind which this is known.
abbrev pub node_told : Spot → Known → Notes → Told At
node_told spot known notes = settled (noted (node spot) notes) known

-- What comes of a condition: the first of the rules that it breaks, or what it means.
abbrev pub condition_told : ExpressionTree → At → Told (ExpressionForm × At)
condition_told e at = knowing at.0 (settled (noted (condition_remark at.0 e) at.1) (condition_meant at.0 e))

-- The head of a loop (5.5): a condition, where there is one; or the parameter's number and the bounds of its range.
pub data LoopHead : Type 0 where
  on_condition : (condition : Option ExpressionForm) → LoopHead
  over_range : (parameter : ℕ) → (low high : ExpressionForm) → LoopHead

-- What is wrong with a parameter and the bounds of its range, in a loop that begins at the spot (5.5): it has no predefined name, and they are
-- Integers, in which the parameter isn't visible yet.
abbrev pub range_remark : Known → Spot → Ident → ExpressionTree → ExpressionTree → Remark
range_remark known spot name low high =
    node spot also alone_remark name name.spot also bound_remark known low also bound_remark known high

-- What is known where the statements of such a loop begin: the parameter, an Integer, is declared in a part of its own (5.5, 8.1).
abbrev pub with_parameter : Ident → Known → Known
with_parameter name known =
    declared (with_variable (record { name = name.text; spot = name.spot; kind = variable.Integer; borrows = false }) (with_part known)) name.text
    (entity.Parameter (next_variable known) variable.Integer)

-- What comes of the head of a loop, which begins at the spot: the rules that it breaks are told with those noted before.
abbrev pub head_told : Spot → SchemeTree → At → Told (LoopHead × At)
head_told spot endless at = knowing at.0 (settled (noted (node spot) at.1) (on_condition None))
head_told spot (while_scheme e) at =
    knowing at.0 (settled (noted (node spot also condition_remark at.0 e) at.1) (on_condition (Some (condition_meant at.0 e))))
head_told spot (for_scheme name low high) at =
    knowing (with_parameter name at.0)
    (settled (noted (range_remark at.0 spot name low high) at.1)
    (over_range (length at.0.variables) (bound_meant at.0 low) (bound_meant at.0 high)))

-- The loop of a head and of statements, whose `end` stands at the spot.
abbrev pub loop_of : LoopHead → StmtsForm → Spot → StmtForm
loop_of (on_condition condition) forms last = repeats condition forms last
loop_of (over_range x low high) forms last = counts x low high forms last

-- What is known behind the loop: the part of a parameter ends.
abbrev pub behind_loop : LoopHead → Known → Known
behind_loop (on_condition condition) known = known
behind_loop (over_range x low high) known = without_part known

-- A loop ends behind its statements.
abbrev pub ended_loop : LoopHead → Spot → Told (StmtsForm × At) → Told (StmtForm × At)
ended_loop head last (broken spot rule) = broken spot rule
ended_loop head last (gives done) = gives (loop_of head done.0 last, (behind_loop head done.1.0, done.1.1))

-- What the statements of a part do, and what handles their exceptions (11.2).
abbrev pub SequenceForm : Type 0
SequenceForm = StmtsForm × HandlersForm

-- A block whose part is the innermost one (5.6): it elaborates what the part does.
abbrev pub block_of : Known → SequenceForm → StmtForm
block_of known body = encloses known.here.elaborated body.0 body.1

-- A block ends behind its handlers: its part ends.
abbrev pub ended_block : Told (SequenceForm × At) → Told (StmtForm × At)
ended_block (broken spot rule) = broken spot rule
ended_block (gives done) = gives (block_of done.1.0 done.0, (without_part done.1.0, done.1.1))

-- The name after `end` is the procedure's own, where one is written (6.3).
abbrev pub same_name : {X : Type 0} → List ℕ → Option Ident → X → Told X
same_name procedure (Some name) x = if bytes_eq name.text procedure then gives x else broken name.spot UnknownName
same_name procedure None x = gives x

-- The body of a procedure, whose head this is, ends behind its handlers (6.3), where its last `end` stands: the part ends, and the procedure may be called.
abbrev pub ended_body : HeadTree → (last : Spot) → Option Ident → Told (SequenceForm × At) → Told At
ended_body head last end_name (broken spot rule) = broken spot rule
ended_body head last end_name (gives done) =
    same_name head.name.text end_name (body_ended head.name done.0.0 done.0.1 (head_spot head) last done.1.0, done.1.1)

-- What is wrong with the statements of a loop or of a handler, which begins at the spot: there is one (5.1).
abbrev pub body_remark : Spot → StatementsTree → Remark
body_remark spot no_statements = wrong spot NotInProfile
body_remark spot (a_statement s ss) = fine

-- What comes of a statement with no others in it: a text that it writes is known behind it.
abbrev pub simple_told : (inside_loop : Bool) → StatementTree → At → Told (StmtForm × At)
simple_told inside_loop statement at =
    knowing (with_texts (simple_texts statement) at.0)
    (settled (noted (statement_remark at.0 inside_loop statement) at.1) (statement_meant at.0 statement))

-- What comes of the head of a handler (11.2), whose `when` stands at the spot: a node of the source, with a statement behind it; its choices
-- are what they stand for.
abbrev pub choices_told : Spot → List ChoiceTree → StatementsTree → At → Told (List Choice × At)
choices_told spot choices statements at =
    knowing at.0
    (settled (noted (body_remark spot statements also node spot also choices_remark at.0 choices) at.1) (choices_meant at.0 choices))

-- What comes of the statements behind branches.
abbrev pub Others : Type 0
Others = At → Told (StmtsForm × At)

abbrev mutual
  -- What a declaration gives, behind those before it: that of a body looks at all that is in it (6.3).
  pub declaration_told : DeclarationTree → At → Told At
  declaration_told (body_declaration head declarations body end_name) at =
      and_then (body_head_told head at)
      (λ inner. and_then (declarations_told declarations inner)
      (λ behind. ended_body head (end_of body) end_name (sequence_told false body behind)))
  declaration_told declaration at = single_told declaration at

  -- The declarations, in order (3.11).
  pub declarations_told : DeclarationsTree → At → Told At
  declarations_told no_declarations at = gives at
  declarations_told (a_declaration declaration declarations) at =
      and_then (declaration_told declaration at) (λ behind. declarations_told declarations behind)

  -- What comes of a statement, in a loop or not: the first of the rules that it breaks, or what it does, and what is known behind it.
  pub statement_told : (inside_loop : Bool) → StatementTree → At → Told (StmtForm × At)
  statement_told inside_loop (if_statement spot branches others last) at =
      and_then (node_told spot at.0 at.1)
      (λ begun. made_into chooses (branches_told inside_loop branches (λ behind. statements_told inside_loop others behind) begun))
  statement_told inside_loop (loop_statement spot scheme statements last) at =
      and_then (head_told spot scheme (at.0, noted (body_remark spot statements) at.1))
      (λ begun. ended_loop begun.0 last (statements_told true statements begun.1))
  statement_told inside_loop (block body) at =
      and_then (node_told (begin_of body) (with_part at.0) at.1) (λ inner. ended_block (sequence_told inside_loop body inner))
  statement_told inside_loop (declare_block spot declarations body) at =
      and_then (node_told spot (with_part at.0) at.1)
      (λ inner. and_then (declarations_told declarations inner) (λ behind. ended_block (sequence_told inside_loop body behind)))
  statement_told inside_loop simple at = simple_told inside_loop simple at

  -- The rest of a part whose declarations are known: no type is incomplete at its `begin`; its statements, and their handlers.
  pub sequence_told : (inside_loop : Bool) → SequenceTree → At → Told (SequenceForm × At)
  sequence_told inside_loop (a_sequence start statements handlers last) at =
      and_then (at_begin start at)
      (λ ready. and_then (statements_told inside_loop statements ready)
      (λ done. made_into (λ handled. (done.0, handled)) (handlers_told inside_loop handlers done.1)))

  -- The statements, in order (5.1).
  pub statements_told : (inside_loop : Bool) → StatementsTree → At → Told (StmtsForm × At)
  statements_told inside_loop no_statements at = gives (no_stmts, at)
  statements_told inside_loop (a_statement statement statements) at =
      and_then (statement_told inside_loop statement at)
      (λ done. made_into (a_stmt done.0) (statements_told inside_loop statements done.1))

  -- The branches of an `if`, in order (5.3): each condition before its statements.
  pub branches_told : (inside_loop : Bool) → BranchesTree → Others → At → Told (BranchesForm × At)
  branches_told inside_loop no_branches others at = made_into otherwise (others at)
  branches_told inside_loop (a_branch e statements branches) others at =
      and_then (condition_told e at)
      (λ begun. and_then (statements_told inside_loop statements begun.1)
      (λ done. made_into (form.a_branch begun.0 done.0) (branches_told inside_loop branches others done.1)))

  -- The handlers, in order (11.2): the choices of each before its statements.
  pub handlers_told : (inside_loop : Bool) → HandlersTree → At → Told (HandlersForm × At)
  handlers_told inside_loop no_handlers at = gives (form.no_handlers, at)
  handlers_told inside_loop (a_handler spot choices statements rest) at =
      and_then (choices_told spot choices statements at)
      (λ begun. and_then (statements_told inside_loop statements begun.1)
      (λ done. made_into (form.a_handler begun.0 done.0) (handlers_told inside_loop rest done.1)))

-- One branch: its condition, then its statements.
abbrev pub branch_told : (inside_loop : Bool) → BranchTree → At → Told ((ExpressionForm × StmtsForm) × At)
branch_told inside_loop branch at =
    and_then (condition_told branch.condition at)
    (λ begun. made_into (λ forms. (begun.0, forms)) (statements_told inside_loop branch.statements begun.1))

-- One handler: its choices, then its statements.
abbrev pub handler_told : (inside_loop : Bool) → HandlerTree → At → Told ((List Choice × StmtsForm) × At)
handler_told inside_loop handler at =
    and_then (choices_told handler.spot handler.choices handler.statements at)
    (λ begun. made_into (λ forms. (begun.0, forms)) (statements_told inside_loop handler.statements begun.1))

-- The program of what is known, of what the statements do, and of what handles their exceptions.
abbrev pub program_of : Known → StmtsForm → HandlersForm → ProgramForm
program_of known forms handled = record {
  types = known.types;
  pools = known.pools;
  bodies = known.bodies;
  formals = [];
  variables = known.variables;
  texts = known.texts;
  exceptions = known.exceptions;
  declarations = known.here.elaborated;
  statements = forms;
  handlers = handled;
  start_spot = nowhere;
  end_spot = nowhere;
}

-- The end of a tree whose statements and handlers are known: its name.
abbrev pub end_told : UnitTree → SequenceForm × At → Told ProgramForm
end_told tree done = same_name tree.name.text tree.end_name (program_of done.1.0 done.0.0 done.0.1)

-- The statements of a tree whose declarations are looked at, and what follows.
abbrev pub statements_part : UnitTree → At → Told ProgramForm
statements_part tree at = and_then (sequence_told false tree.body at) (end_told tree)

-- The declarations of a tree, and what follows.
abbrev pub part_told : UnitTree → At → Told ProgramForm
part_told tree at = and_then (declarations_told tree.declarations at) (statements_part tree)

-- The procedure of a tree, where this is known before its first declaration: its name, and what follows.
abbrev pub procedure_from : UnitTree → Known → Told ProgramForm
procedure_from tree known = and_then (settled (noted (alone_remark tree.name tree.spot) no_notes) known) (part_told tree)

-- The procedure of a tree, with the library units of its clauses.
abbrev pub procedure_told : UnitTree → Withs → Told ProgramForm
procedure_told tree withs = procedure_from tree (known_first withs tree.name.text)

-- The program of a tree, or its first fault: the with clauses, the procedure's name, its declarations and its statements in order, its end.
abbrev pub resolution : UnitTree → Told ProgramForm
resolution tree = and_then (clauses_told tree.clauses no_units) (procedure_told tree)

-- The tree means the program.
abbrev pub Resolves : UnitTree → ProgramForm → Type 0
Resolves tree program = resolution tree ≡ gives program

-- The first fault of the tree's names is this rule at this spot.
abbrev pub IsFirstNameFault : UnitTree → Spot → NameRule → Type 0
IsFirstNameFault tree spot rule = resolution tree ≡ broken spot rule
