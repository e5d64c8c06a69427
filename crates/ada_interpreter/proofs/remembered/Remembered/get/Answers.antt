-- What is kept is found; else it is past, or there is none.
use Rattle.std.proofs.Common.{inl, arith}
use Rattle.ada_interpreter.proofs.RememberedLemmas.{found_at_name, none_beyond}
use Rattle.ada_interpreter.proofs.remembered.Remembered.get.Goals as goal

pub returns-then-o-self : goal.returns-then-o-self
returns-then-o-self c = found_at_name c.args.self.now.kept c.args.self.now.created c.args.o c.get.result (omega arith) c.get.ensures.value

pub returns-else-o-self : goal.returns-else-o-self
returns-else-o-self c = inl (none_beyond c.args.self.now.kept c.args.self.now.created c.args.o (omega arith))
