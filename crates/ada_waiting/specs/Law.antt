-- The law: what waits does not matter to a step of what runs, and stays as it is.

use Rattle.std.specs.Prelude.{List}
use Rattle.ada_program.specs.declared.program.TypeDefinition.{TypeDefinition}
use Rattle.ada_program.specs.ProgramForm.{BodyForm}
use Rattle.ada_meaning.specs.declared.state.Value.{Value}
use Rattle.ada_meaning.specs.Named.{State, next}
use Rattle.ada_waiting.specs.Before.{Waiting, before, NextBefore, RunsItself}

-- A step of a state before something that waits is that of the state alone, and leaves what waits as it is.
abbrev pub WhatWaitsStays : Type 0
WhatWaitsStays =
    (types : List TypeDefinition) (bodies : List BodyForm) (w : Waiting Value) (s : State) → RunsItself s.control s.activations
    → NextBefore w (next types bodies s) (next types bodies (before w s))
