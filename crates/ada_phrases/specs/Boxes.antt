-- Trees on the heap.

use Rattle.std.specs.Prelude.{◌≡◌, Option, Some, None, Result, Ok, Err, IfErr}
use Rattle.std.specs.Global.{Box}
use Rattle.ada_reader.specs.declared.reader.Stop.{Stop}
use Rattle.ada_reader.specs.declared.reader.Stop.TheVariants.{NoMemory}

-- The box holds the value, or memory ran out.
abbrev pub Boxes : {X : Type 0} → X → Result (Box X) Stop → Type 0
Boxes value (Ok b) = b.value ≡ value
Boxes value (Err stop) = stop ≡ NoMemory

-- Nothing but memory stops it.
abbrev pub IsMemory : {X : Type 0} → Result X Stop → Type 0
IsMemory result = IfErr result (λ stop. stop ≡ NoMemory)

-- What a box holds, if there is one.
abbrev pub contents : {X : Type 0} → Option (Box X) → Option X
contents None = None
contents (Some b) = Some b.value
