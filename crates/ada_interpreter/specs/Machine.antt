-- The machine: a run in progress with who answers what it leaves open.

use Rattle.std.specs.Prelude.{◌≡◌, ◌⊎◌, ℕ, Bool, Option}
use Rattle.ada_program.specs.declared.program.Program.{Program}
use Rattle.ada_program.specs.ProgramForm.{body_forms}
use Rattle.ada_meaning.specs.declared.request.Request.{Request}
use Rattle.ada_meaning.specs.declared.event.Event.{Event as Shown}
use Rattle.ada_meaning.specs.declared.event.Halt.{Halt}
use Rattle.ada_meaning.specs.declared.event.Halt.TheVariants.{Memory}
use Rattle.ada_interpreter.specs.declared.machine.Machine.{Machine}
use Rattle.ada_meaning.specs.Event.{event_of, request_of}
use Rattle.ada_meaning.specs.Step.{halts, moves, tells, asks, picks}
use Rattle.ada_meaning.specs.Named.{State, Next, next}
use Rattle.ada_meaning.specs.Run.{Event, Choice, settled, grants, takes, Leads, Halts as HaltsIn}
use Rattle.ada_interpreter.specs.declared.turn.Turn.{Turn}
use Rattle.ada_interpreter.specs.declared.turn.Turn.TheVariants.{Halts}
use Rattle.ada_interpreter.specs.Process.{state_of}

-- The state that a machine stands for, its program, who answers, and how the run has ended.
abbrev pub state_in : {C : Type 0} → Machine C → State
state_in m = state_of m.process

-- The program that a machine runs.
abbrev pub program_of : {C : Type 0} → Machine C → Program
program_of m = m.loaded.program.now

-- Who answers what the run leaves open.
abbrev pub choices_of : {C : Type 0} → Machine C → C
choices_of m = m.choices

-- How the run of a machine has ended, if it has.
abbrev pub halt_of : {C : Type 0} → Machine C → Option Halt
halt_of m = m.halted

-- Which answers to a request, and which choices of a member, may come from who answers, and leave it so.
abbrev pub MayGrant : Type 0 → Type 1
MayGrant C = C → Request → Bool → C → Type 0

-- What a pick may answer: the choices before it, how many there are to pick from, the answer, and the choices after it.
abbrev pub MayPick : Type 0 → Type 1
MayPick C = C → ℕ → ℕ → C → Type 0

-- Who answers is asked or told what the step asks or tells, once, and nothing else, and the choice is what was answered.
abbrev pub Answers : {C : Type 0} → MayGrant C → MayPick C → Next → C → Choice → C → Type 0
Answers may_grant may_pick (halts halt) before choice after = ⊥
Answers may_grant may_pick (moves e s) before choice after = after ≡ before
Answers may_grant may_pick (tells request e s) before choice after = (told : Request) × (yes : Bool) × (request_of told ≡ request) × may_grant before told yes after
Answers may_grant may_pick (asks request answered) before settled after = ⊥
Answers may_grant may_pick (asks request answered) before (grants granted) after = (asked : Request) × (request_of asked ≡ request) × may_grant before asked granted after
Answers may_grant may_pick (asks request answered) before (takes i) after = ⊥
Answers may_grant may_pick (picks n taken) before settled after = ⊥
Answers may_grant may_pick (picks n taken) before (grants granted) after = ⊥
Answers may_grant may_pick (picks n taken) before (takes i) after = may_pick before n i after

-- From what comes next, an answer leads to an event and a state.
pub record Makes {C : Type 0} (may_grant : MayGrant C) (may_pick : MayPick C) (coming : Next) (choices_before : C) (event : Event) (after : State) (choices_after : C) : Type 0 where
  pub choice : Choice
  pub answers : Answers may_grant may_pick coming choices_before choice choices_after
  pub leads : Leads coming choice event after

-- What comes next is settled: as who answers has answered, it leads to the event and to the machine's state.
abbrev pub Settles : {C : Type 0} → MayGrant C → MayPick C → Next → Machine C → Shown → Machine C → Type 0
Settles may_grant may_pick coming before event after =
    Makes may_grant may_pick coming (choices_of before) (event_of event) (state_in after) (choices_of after)

-- A step of a machine: one step of the definition, as who answers has answered.
abbrev pub MakesStep : {C : Type 0} → MayGrant C → MayPick C → Machine C → Shown → Machine C → Type 0
MakesStep may_grant may_pick before event after =
    Settles may_grant may_pick (next (program_of before).types.items (body_forms (program_of before)) (state_in before)) before event after

-- The end of a machine's run: where the definition has no step, and then state and choices are as they were; or where memory was refused.
abbrev pub EndsRun : {C : Type 0} → Machine C → Halt → Machine C → Type 0
EndsRun before halt after =
    (halt ≡ Memory) ⊎ (HaltsIn (program_of before) (state_in before) halt × (state_in after ≡ state_in before) × (choices_of after ≡ choices_of before))

-- The end of a turn: it is a halt, and state and choices are as they were; or memory was refused.
abbrev pub EndsTurn : {C : Type 0} → Turn → Machine C → Halt → Machine C → Type 0
EndsTurn turn before halt after =
    (halt ≡ Memory) ⊎ ((turn ≡ Halts halt) × (state_in after ≡ state_in before) × (choices_of after ≡ choices_of before))
