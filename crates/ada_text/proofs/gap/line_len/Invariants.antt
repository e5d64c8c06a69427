use Rattle.std.proofs.Common.{◌≡◌, ◌+◌, drop}
use Rattle.std.specs.List.{prefix_len}
use Rattle.ada_text.specs.Bytes.{stays_on_line}
use Rattle.ada_text.proofs.gap.line_len.Given as goal

abbrev pub invariant-loop-i : goal.invariant-loop-i
invariant-loop-i l = l.i + prefix_len stays_on_line (drop l.i l.text) ≡ prefix_len stays_on_line l.text
