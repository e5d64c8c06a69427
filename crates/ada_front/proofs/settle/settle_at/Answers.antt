use Rattle.std.proofs.Common.{◌+◌, ◌-◌, length, take, drop, arith, sym, ap, ◌∙◌}
use Rattle.ada_tree.specs.Statements.{DeclarationTree, a_declaration}
use Rattle.ada_tree.specs.StatementView.{declarations_of, record_view}
use Rattle.ada_tree.specs.declared.declarations.Declaration as declaration
use Rattle.ada_tree.specs.declared.records.RecordDefinition.TheVariants.{NullRecord}
use Rattle.ada_front.proofs.Settling.{placed_none, placed_other, placed_same}
use Rattle.ada_front.proofs.settle.settle_at.Goals as goal

pub returns-in-Nothing-clause-settled : goal.returns-in-Nothing-clause-settled
returns-in-Nothing-clause-settled c =
    placed_same c.args.declarations.now.items c.deref.result.now c.args.at c.index.result.now (omega (arith, c.requires, c.args.declarations.now.ok.0)) c.index.ensures c.deref.ensures.value c.in-Nothing.ensures

pub returns-in-Body-clause-settled : goal.returns-in-Body-clause-settled
returns-in-Body-clause-settled c =
    placed_none c.args.declarations.now.items c.deref.result.now c.remove.new.self.items c.args.at c.index.result.now (omega (arith, c.requires, c.args.declarations.now.ok.0)) c.index.ensures
    c.deref.ensures.value c.remove.ensures.by_index.2 c.in-Body.ensures

pub returns-in-Completion-clause-settled : goal.returns-in-Completion-clause-settled
returns-in-Completion-clause-settled c =
    placed_other c.args.declarations.now.items c.deref.result.now c.args.at c.index.result.now
    (declaration.RecordType c.in-Completion.spot c.in-Completion.name NullRecord) (omega (arith, c.requires, c.args.declarations.now.ok.0)) c.index.ensures c.deref.ensures.value
    (c.in-Completion.ensures ∙
    ap (λ (d : DeclarationTree). a_declaration d (declarations_of (take (length c.deref.result.now - (c.args.at + 1)) (drop (c.args.at + 1) c.deref.result.now))))
    (sym (record_view c.in-Completion.spot c.in-Completion.name NullRecord)))
