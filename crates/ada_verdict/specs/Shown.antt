-- A refusal as it is lent, seen as what it tells.

use Rattle.std.specs.Prelude.{Option}
use Rattle.std.specs.Option.{option_map}
use Rattle.ada_verdict.specs.declared.refusal.Refusal.{Refusal as Lent}
use Rattle.ada_verdict.specs.Refusal.{Told}

-- The place and the text of a refusal.
abbrev pub shown : Lent → Told
shown refusal = record { line = refusal.spot.line; column = refusal.spot.column; name = refusal.name.now }

-- What is shown of a refusal, where there is one.
abbrev pub shown_if : Option Lent → Option Told
shown_if refusal = option_map shown refusal
