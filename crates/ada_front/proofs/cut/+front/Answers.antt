use Rattle.ada_front.proofs.Cutting.{branches_cut, declarations_cut, handlers_cut, last_cut, none_cut, statements_cut}
use Rattle.ada_front.proofs.Parts.{block_cut, body_cut, declare_block_cut, if_cut, loop_cut, other_declaration, other_statement, sequence_cut}
use Rattle.ada_tree.specs.declared.statements.Sequence.{out-Sequence}
use Rattle.ada_tree.specs.StatementView.{sequence_view}
use Rattle.ada_tree.specs.ExpressionView.{expression_of}
use Rattle.ada_tree.specs.Declarations.{choice_of}
use Rattle.std.proofs.Common.{map, ap, ◌∙◌}
use Rattle.ada_front.specs.Front.{left_branch, left_handler}
use Rattle.ada_front.proofs.cut.+front.Goals as goal

pub cut_declarations-returns-in-Some : goal.cut_declarations-returns-in-Some
cut_declarations-returns-in-Some t c =
    last_cut (declarations_cut c.args.fault) c.args.declarations.now.items c.deref.result.now c.truncate.new.self.items c.pop.new.self.items
    c.put_back.new.list.items c.declaration_left.result c.in-Some.last c.begun_declarations.result c.deref.ensures.value c.begun_declarations.ensures
    c.truncate.ensures.items c.in-Some.ensures.items c.put_back.ensures c.declaration_left.ensures

pub cut_declarations-returns-in_default : goal.cut_declarations-returns-in_default
cut_declarations-returns-in_default t c =
    none_cut (declarations_cut c.args.fault) c.args.declarations.now.items c.deref.result.now c.truncate.new.self.items c.pop.new.self.items
    c.begun_declarations.result _ _ c.deref.ensures.value c.begun_declarations.ensures c.truncate.ensures.items c.truncate.new.self.ok.0
    c.in_default.ensures.cases.0 c.pop.new.self.ok.0 c.in_default.ensures.cases.1

pub cut_statements-returns-in-Some : goal.cut_statements-returns-in-Some
cut_statements-returns-in-Some t c =
    last_cut (statements_cut c.args.fault) c.args.statements.now.items c.deref.result.now c.truncate.new.self.items c.pop.new.self.items
    c.put_back.new.list.items c.statement_left.result c.in-Some.last c.begun_statements.result c.deref.ensures.value c.begun_statements.ensures
    c.truncate.ensures.items c.in-Some.ensures.items c.put_back.ensures c.statement_left.ensures

pub cut_statements-returns-in_default : goal.cut_statements-returns-in_default
cut_statements-returns-in_default t c =
    none_cut (statements_cut c.args.fault) c.args.statements.now.items c.deref.result.now c.truncate.new.self.items c.pop.new.self.items
    c.begun_statements.result _ _ c.deref.ensures.value c.begun_statements.ensures c.truncate.ensures.items c.truncate.new.self.ok.0
    c.in_default.ensures.cases.0 c.pop.new.self.ok.0 c.in_default.ensures.cases.1

pub declaration_left-returns-in_default : goal.declaration_left-returns-in_default
declaration_left-returns-in_default t c = other_declaration c.args.fault c.args.declaration c.in_default.not-Body

pub declaration_left-returns-in-Body : goal.declaration_left-returns-in-Body
declaration_left-returns-in-Body t c =
    body_cut c.args.fault c.args.declaration c.in-Body.head c.in-Body.declarations c.in-Body.body c.in-Body.end_name _ _ _ c.in-Body.is c.cut_part.ensures
    c.sequence_left.ensures c.body_left.ensures

pub statement_left-returns-in-If : goal.statement_left-returns-in-If
statement_left-returns-in-If t c =
    if_cut c.args.fault c.args.statement c.in-If.spot c.in-If.branches c.in-If.otherwise c.in-If.«end» c.deref.result.now c.statements_start.result _ _ _
    c.in-If.is c.deref.ensures.value c.statements_start.ensures c.cut_branches_before.ensures c.cut_statements.ensures c.if_left.ensures

pub statement_left-returns-in-Loop : goal.statement_left-returns-in-Loop
statement_left-returns-in-Loop t c =
    loop_cut c.args.fault c.args.statement c.in-Loop.spot c.in-Loop.scheme c.in-Loop.statements c.in-Loop.«end» _ _ c.in-Loop.is c.cut_statements-in-Loop.ensures
    c.loop_left.ensures

pub statement_left-returns-in-Block : goal.statement_left-returns-in-Block
statement_left-returns-in-Block t c =
    block_cut c.args.fault c.args.statement c.in-Block.body _ _ c.in-Block.is c.sequence_left.ensures c.block_left.ensures

pub statement_left-returns-in-DeclareBlock : goal.statement_left-returns-in-DeclareBlock
statement_left-returns-in-DeclareBlock t c =
    declare_block_cut c.args.fault c.args.statement c.in-DeclareBlock.spot c.in-DeclareBlock.declarations c.in-DeclareBlock.body _ _ _ c.in-DeclareBlock.is
    c.cut_part.ensures c.sequence_left-in-DeclareBlock.ensures c.declare_block_left.ensures

pub statement_left-returns-in_default : goal.statement_left-returns-in_default
statement_left-returns-in_default t c =
    other_statement c.args.fault c.args.statement c.in_default.not-If c.in_default.not-Loop c.in_default.not-Block c.in_default.not-DeclareBlock

pub cut_branches-returns-in-Some : goal.cut_branches-returns-in-Some
cut_branches-returns-in-Some t c =
    last_cut (branches_cut c.args.fault) c.args.branches.now.items c.deref.result.now c.truncate.new.self.items c.pop.new.self.items
    c.put_back.new.list.items c.branch_left.result c.in-Some.field-0 c.begun_branches.result c.deref.ensures.value c.begun_branches.ensures
    c.truncate.ensures.items c.in-Some.ensures.items c.put_back.ensures
    (c.branch_left.ensures ∙ ap (left_branch (expression_of c.in-Some.field-0.condition)) c.cut_statements.ensures)

pub cut_branches-returns-in_default : goal.cut_branches-returns-in_default
cut_branches-returns-in_default t c =
    none_cut (branches_cut c.args.fault) c.args.branches.now.items c.deref.result.now c.truncate.new.self.items c.pop.new.self.items
    c.begun_branches.result _ _ c.deref.ensures.value c.begun_branches.ensures c.truncate.ensures.items c.truncate.new.self.ok.0
    c.in_default.ensures.cases.0 c.pop.new.self.ok.0 c.in_default.ensures.cases.1

pub cut_handlers-returns-in-Some : goal.cut_handlers-returns-in-Some
cut_handlers-returns-in-Some t c =
    last_cut (handlers_cut c.args.fault) c.args.handlers.now.items c.deref.result.now c.truncate.new.self.items c.pop.new.self.items
    c.put_back.new.list.items c.handler_left.result c.in-Some.field-0 c.begun_handlers.result c.deref.ensures.value c.begun_handlers.ensures
    c.truncate.ensures.items c.in-Some.ensures.items c.put_back.ensures
    (c.handler_left.ensures ∙ ap (left_handler c.in-Some.field-0.spot (map choice_of c.in-Some.field-0.choices.items)) c.cut_statements.ensures)

pub cut_handlers-returns-in_default : goal.cut_handlers-returns-in_default
cut_handlers-returns-in_default t c =
    none_cut (handlers_cut c.args.fault) c.args.handlers.now.items c.deref.result.now c.truncate.new.self.items c.pop.new.self.items
    c.begun_handlers.result _ _ c.deref.ensures.value c.begun_handlers.ensures c.truncate.ensures.items c.truncate.new.self.ok.0
    c.in_default.ensures.cases.0 c.pop.new.self.ok.0 c.in_default.ensures.cases.1

pub sequence_left-returns : goal.sequence_left-returns
sequence_left-returns t c =
    sequence_view (out-Sequence c.args.body).begin c.cut_statements_before.new.statements c.cut_handlers_before.new.handlers (out-Sequence c.args.body).«end» ∙
    sequence_cut c.args.fault c.args.body c.deref.result.now c.handlers_start.result _ _ c.deref.ensures.value c.handlers_start.ensures
    c.cut_statements_before.ensures c.cut_handlers_before.ensures
