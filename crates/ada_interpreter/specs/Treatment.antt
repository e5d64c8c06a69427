-- Controlled parts and their treatments, as the code keeps them.

use Rattle.std.specs.Prelude.{List, map, reverse}
use Rattle.ada_parts.specs.Part.{Part}
use Rattle.ada_meaning.specs.Heap.{PartState}
use Rattle.ada_meaning.specs.Frame.{Treatment, begins, ends}
use Rattle.ada_interpreter.specs.declared.treatment.PartState.{PartState as HeldPart}
use Rattle.ada_interpreter.specs.declared.treatment.Done.{Done}
use Rattle.ada_interpreter.specs.declared.treatment.Treated.{Treated}
use Rattle.ada_interpreter.specs.declared.treatment.Treatment.{Treatment as HeldTreatment}
use Rattle.ada_interpreter.specs.declared.treatment.Treatment.TheVariants as held

-- A controlled part.
abbrev pub part_form : HeldPart → PartState
part_form part = record { alive = part.alive; turn = part.turn; number = part.number; first = part.first }

-- A part that has come to have its value.
abbrev pub done_part : Done → Part
done_part done = record { of = done.of; number = done.part }

-- Such parts, newest first.
abbrev pub done_parts : List Done → List Part
done_parts done = reverse (map done_part done)

-- What is done to the parts of an object, of which these have come to have their values.
abbrev pub treatment_form : HeldTreatment → (done : List Part) → Treatment
treatment_form (held.Begins by) done = begins by done
treatment_form (held.Ends cause) done = ends cause

-- That of a treatment that goes on.
abbrev pub treated_form : Treated → Treatment
treated_form treated = treatment_form treated.treatment (done_parts treated.done.items)
