use Rattle.ada_tree.specs.StatementView.{sequence_view}
use Rattle.ada_phrases.proofs.Built.{built_sequence}
use Rattle.ada_phrases.proofs.nested.sequence.Goals as goal

pub returns : goal.returns
returns c =
    built_sequence _ c.boxed.result _ c.boxed.ensures
    (sequence_view c.args.begin c.args.statements c.args.handlers c.args.«end»)
