use Rattle.std.proofs.Common.{◌≡◌, ◌+◌, drop}
use Rattle.ada_text.specs.Number.{number_len}
use Rattle.ada_text.proofs.number.number_len.Given as goal

abbrev pub invariant-loop-i : goal.invariant-loop-i
invariant-loop-i l = l.i + number_len (drop l.i l.text) ≡ number_len l.text
