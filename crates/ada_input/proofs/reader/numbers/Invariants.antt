use Rattle.std.proofs.Common.{◌≡◌, ◌≤◌, ◌+◌, ◌-◌, length, drop}
use Rattle.ada_input.specs.Input.{words_from, numbers_of, input_of}
use Rattle.ada_input.proofs.WordLemmas.{onto}
use Rattle.ada_input.proofs.reader.numbers.Given as goal

-- the numbers found so far, and those of the words from here on, are the input's
abbrev pub invariant-loop-at : goal.invariant-loop-at
invariant-loop-at l = record {
  joins : onto l.found.items (numbers_of (words_from (l.at + 1) (drop l.at l.bytes))) ≡ input_of l.bytes;
  within : l.at ≤ length l.bytes;
}

abbrev pub decreases-loop-at : goal.decreases-loop-at
decreases-loop-at l = length l.bytes - l.at
