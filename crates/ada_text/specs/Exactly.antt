-- "Exactly, out of memory aside": how the contracts of the checker tie what a call answers to its definition.

use Rattle.std.specs.Prelude.{◌≡◌, Option, Some, None, Result, Ok, Err, IfSome}

-- What a call answers is what its definition gives: the value, or the fault; where memory ran out (no fault of the source), nothing is said.
abbrev pub Exactly : {X Y E F : Type 0} → (X → Y) → (E → Option F) → Result X E → Result Y F → Type 0
Exactly value fault (Ok x) outcome = outcome ≡ Ok (value x)
Exactly value fault (Err e) outcome = IfSome (fault e) (λ f. outcome ≡ Err f)
