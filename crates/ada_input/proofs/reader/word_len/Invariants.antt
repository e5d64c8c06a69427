use Rattle.std.proofs.Common.{◌≡◌, ℕ, ◌<◌, get_or, false}
use Rattle.ada_input.specs.Input.{is_separator}
use Rattle.ada_input.proofs.reader.word_len.Given as goal

abbrev pub invariant-loop-i : goal.invariant-loop-i
invariant-loop-i l = (k : ℕ) → k < l.i → is_separator (get_or l.bytes k 0) ≡ false
