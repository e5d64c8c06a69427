-- The sizes so far are those of pools.
use Rattle.std.specs.List.{All}
use Rattle.ada_serve.specs.Settings.{HasSize}
use Rattle.ada_serve.proofs.command_line.add_sizes.Given as goal

abbrev pub invariant-loop-word : goal.invariant-loop-word
invariant-loop-word l = All HasSize l.sizes.items
