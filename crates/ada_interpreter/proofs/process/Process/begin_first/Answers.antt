use Rattle.std.proofs.Common.{ap, arith}
use Rattle.ada_interpreter.specs.Process.{state_of}
use Rattle.ada_interpreter.proofs.AtOnceLemmas.{first_begun}
use Rattle.ada_interpreter.proofs.process.Process.begin_first.Goals as goal

pub returns-then-branch : goal.returns-then-branch
returns-then-branch c program runs =
    let on = rw c.if-branch.true at (c.in_ok-execute_next-in-Some.ensures program runs) in
    (omega (arith, c.requires.some), first_begun program (state_of c.args.self.now) (state_of c.execute_next.new.self) c.args.statements.now c.in-Some.first.now c.in-Some.rest.now c.args.limit runs c.requires.top c.in-Some.ensures.cases.0 on c.requires.some)

pub returns-else-branch : goal.returns-else-branch
returns-else-branch c program runs = ap state_of (rw c.if-branch.false at (c.in_ok-execute_next-in-Some.ensures program runs))
