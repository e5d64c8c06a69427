use Rattle.std.proofs.Common.{◌≡◌, ◌≤◌, drop}
use Rattle.std.specs.Str.{all_ascii_digits}
use Rattle.ada_input.specs.Input.{value}
use Rattle.ada_input.proofs.NumberLemmas.{worth}
use Rattle.ada_input.proofs.number.magnitude.Given as goal

abbrev pub invariant-loop-digit : goal.invariant-loop-digit
invariant-loop-digit l = record {
  so_far : worth l.value (drop l.digit-index l.digits) ≡ value l.digits;
  in_range : l.value ≤ l.greatest;
  digits : all_ascii_digits (drop l.digit-index l.digits) ≡ all_ascii_digits l.digits;
}
