use Rattle.ada_serve.proofs.command_line.add_sizes.Goals as goal

pub returns-in_err-size : goal.returns-in_err-size
returns-in_err-size c = c.loop-word.invariant
