use Rattle.std.proofs.Common.{◌≡◌, ◌-◌, ◌≤◌, length, drop, string_bytes}
use Rattle.ada_text.specs.Literal.{literal}
use Rattle.ada_text.proofs.LiteralLemmas.{with_front}
use Rattle.ada_text.proofs.literal.string_behind.Given as goal

abbrev pub invariant-loop-at : goal.invariant-loop-at
invariant-loop-at l = record {
  so_far : with_front (string_bytes l.said) l.at (literal (drop l.at l.text)) ≡ literal l.text;
  within : l.at ≤ length l.text;
}

abbrev pub decreases-loop-at : goal.decreases-loop-at
decreases-loop-at l = length l.text - l.at
