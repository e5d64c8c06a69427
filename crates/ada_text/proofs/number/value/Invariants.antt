use Rattle.std.proofs.Common.{◌≡◌, ◌≤◌, drop}
use Rattle.ada_text.specs.declared.limits.TheConstants.{GREATEST_NUMBER}
use Rattle.ada_text.specs.Number.{value}
use Rattle.ada_text.proofs.NumberLemmas.{worth}
use Rattle.ada_text.proofs.number.value.Given as goal

abbrev pub invariant-loop-byte : goal.invariant-loop-byte
invariant-loop-byte l = record {
  so_far : worth l.value (drop l.byte-index l.digits) ≡ value l.digits;
  in_range : l.value ≤ GREATEST_NUMBER;
}
