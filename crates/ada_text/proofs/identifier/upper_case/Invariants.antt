use Rattle.std.proofs.Common.{◌≡◌, map, take, string_bytes}
use Rattle.std.specs.Char.{to_ascii_uppercase}
use Rattle.ada_text.proofs.identifier.upper_case.Given as goal

abbrev pub invariant-loop-byte : goal.invariant-loop-byte
invariant-loop-byte l = string_bytes l.letters ≡ map to_ascii_uppercase (take l.byte-index l.word)
