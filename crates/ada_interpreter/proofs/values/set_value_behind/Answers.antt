-- What stands behind some is as far behind them in the whole.
use Rattle.std.proofs.lemmas.List.{drop-set-add}
use Rattle.ada_interpreter.proofs.values.set_value_behind.Goals as goal

pub returns-then-i-saturating_sub-clause-behind : goal.returns-then-i-saturating_sub-clause-behind
returns-then-i-saturating_sub-clause-behind c = drop-set-add c.args.first c.args.values.now c.args.i c.args.value
