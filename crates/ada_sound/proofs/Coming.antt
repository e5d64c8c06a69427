-- What holds of each state that may come next holds where only members that are there are picked.

use Rattle.ada_meaning.specs.Step.{halts, moves, tells, asks, picks}
use Rattle.ada_meaning.specs.Named.{State, Next}
use Rattle.ada_typed.proofs.Kept.{Each}
use Rattle.ada_idle.proofs.Coming.{AllNext}

-- So it holds of each where only members that are there are picked.
pub each_next : (P : State → Type 0) (coming : Next) → AllNext P coming → Each P coming
each_next P (halts halt) all = tt
each_next P (moves e s) all = all
each_next P (tells request e s) all = all
each_next P (asks request answers) all = all
each_next P (picks n taking) all = λ i lt. all i
