use Rattle.std.proofs.Common.{◌≡◌, length, map, drop, bytes_eq}
use Rattle.std.specs.Char.{to_ascii_uppercase}
use Rattle.ada_text.proofs.reserved.is_spelled.Given as goal

abbrev pub invariant-loop-i : goal.invariant-loop-i
invariant-loop-i l = record {
  rest : bytes_eq (map to_ascii_uppercase (drop l.i l.text)) (drop l.i l.letters) ≡ bytes_eq (map to_ascii_uppercase l.text) l.letters;
  same_length : length l.text ≡ length l.letters;
}
