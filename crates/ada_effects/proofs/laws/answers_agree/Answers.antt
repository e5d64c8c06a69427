use Rattle.ada_effects.proofs.Programs as programs
use Rattle.ada_effects.proofs.laws.answers_agree.Goals as goal

pub returns : goal.returns
returns c = programs.stmts_agree
