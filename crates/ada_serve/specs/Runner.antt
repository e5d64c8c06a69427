-- The runner's run: storage is granted where its pool has room, unless it is the one request that is refused; of the members of a collection the
-- newest is taken first; and so many statements may begin.

use Rattle.std.specs.Prelude.{◌≡◌, ℕ, ℤ, ◌≤◌, Bool, true, List, [], ◌++◌, flat_map, Option, Some, None, Result, Ok, Err}
use Rattle.std.specs.Io.KnownBytes.{Appends}
use Rattle.ada_program.specs.ProgramForm.{body_forms}
use Rattle.ada_program.specs.declared.program.Program.{Program}
use Rattle.ada_meaning.specs.declared.event.Halt.{Halt}
use Rattle.ada_meaning.specs.declared.event.Halt.TheVariants.{Finished, Unhandled, Escaped, Erroneous, Stuck, Memory}
use Rattle.ada_meaning.specs.Event.{Born, Finalized, Back, Followed, Left, Line, Quiet}
use Rattle.ada_meaning.specs.State.{begins}
use Rattle.ada_meaning.specs.Step.{halts, moves, tells, asks, picks}
use Rattle.ada_meaning.specs.Named.{Next, State, next}
use Rattle.ada_meaning.specs.Run.{Choice, grants, takes, Event, Step, first_state, Halts}
use Rattle.ada_meaning.specs.Chosen.{ChosenRun}
use Rattle.ada_untouched.specs.Past.{StatesButForPast}
use Rattle.ada_interpreter.specs.declared.machine.Machine.{Machine}
use Rattle.ada_interpreter.specs.Machine.{choices_of, state_in}
use Rattle.ada_pools.specs.declared.choices.PoolChoices.{PoolChoices}
use Rattle.ada_pools.specs.Runner.{Runner, answer_to, first_runner}
use Rattle.ada_pools.specs.Sizes.{sizes_of}
use Rattle.ada_pools.specs.View.{runner_of}
use Rattle.ada_serve.specs.declared.serve.ServeFault.{ServeFault}
use Rattle.ada_serve.specs.declared.serve.Status.{Status}
use Rattle.ada_serve.specs.declared.serve.Status.TheVariants as status
use Rattle.ada_serve.specs.declared.settings.Options.{Options}
use Rattle.ada_serve.specs.Texts.{texts_of, exceptions_of, line_text, traced, born_text, finalized_text, back_text, unhandled_text, finished_text, stopped_text, erroneous_text}
use Rattle.ada_serve.specs.Written.{AppendsFront}

-- What the runner's answers depend on before a run of a program, by what is asked for.
abbrev pub runner_before : Program → Options → Runner
runner_before program options = first_runner options.standard options.refuse (sizes_of program options.sizes.items)

-- What the runner answers, and what the next answers depend on.
abbrev pub RunnerAnswers : Runner → Next → Choice → Runner → Type 0
RunnerAnswers runner (halts halt) choice after = after ≡ runner
RunnerAnswers runner (moves e s) choice after = after ≡ runner
RunnerAnswers runner (tells request e s) choice after = after ≡ (answer_to request runner).1
RunnerAnswers runner (asks request answered) choice after = (choice ≡ grants (answer_to request runner).0) × (after ≡ (answer_to request runner).1)
RunnerAnswers runner (picks n taken) choice after = (choice ≡ takes 0) × (after ≡ runner)

-- Steps one after another, each as the runner answers, with how many statements have begun, and their events.
abbrev pub RunnerRun : Program → (start : Runner) → State → (statements : ℕ) → List Event → Runner → State → Type 0
RunnerRun program start first statements events runner last = ChosenRun RunnerAnswers program start first statements events runner last

-- What an event of a program writes: a line of output (A.10.7), or, where a trace is asked for, a line that tells that a controlled value has come to
-- exist (7.6), that its Finalize begins (7.6.1), or that the storage of an object goes back to its pool (13.11.2). A declared object is from no pool.
abbrev pub event_text : Program → (trace : Bool) → Event → List ℕ
event_text program trace (Born object part turn type number by) = traced trace (born_text program type number)
event_text program trace (Finalized object part turn type number cause) = traced trace (finalized_text program type number)
event_text program trace (Back object access number (Some pool) subpool cause) = traced trace (back_text program access number)
event_text program trace (Back object access number None subpool cause) = []
event_text program trace (Followed object) = []
event_text program trace (Left master) = []
event_text program trace (Line line) = line_text (texts_of program) line
event_text program trace Quiet = []

-- What the events of a run of a program write, where a trace is asked for or not.
abbrev pub lines_of : Program → (trace : Bool) → List Event → List ℕ
lines_of program trace events = flat_map (event_text program trace) events

-- The last line of a run that comes to its end, and its status. No run of an accepted program comes to an erroneous action, gets stuck, or has an exception
-- leave an Adjust or a Finalize.
abbrev pub end_text : (exceptions : List (List ℕ)) → Halt → List ℕ
end_text exceptions Finished = finished_text
end_text exceptions (Unhandled e) = unhandled_text exceptions e
end_text exceptions (Escaped e) = erroneous_text
end_text exceptions (Erroneous why) = erroneous_text
end_text exceptions Stuck = erroneous_text
end_text exceptions Memory = []

-- The status of a run that has halted.
abbrev pub status_of : Halt → Status
status_of Finished = status.Finished
status_of (Unhandled e) = status.Unhandled
status_of (Escaped e) = status.Erroneous
status_of (Erroneous why) = status.Erroneous
status_of Stuck = status.Erroneous
status_of Memory = status.Erroneous

-- Some steps of the runner's run, in which so many statements began, and what they write to a writer.
pub record HasWritten (program : Program) (trace : Bool) (start : Runner) (first : State) (statements : ℕ) (runner : Runner) (last : State) (old new : Option (List ℕ)) : Type 0 where
  pub events : List Event
  pub run : RunnerRun program start first statements events runner last
  pub lines : Appends old new (lines_of program trace events)

-- One step of the runner's run, and its line.
pub record StepsOn (program : Program) (trace : Bool) (runner after : Runner) (s last : State) (old new : Option (List ℕ)) : Type 0 where
  pub choice : Choice
  pub event : Event
  pub runners : RunnerAnswers runner (next program.types.items (body_forms program) s) choice after
  pub step : Step program s choice event last
  pub line : Appends old new (event_text program trace event)

-- The end of the runner's run, with its line and its status.
pub record EndsIn (program : Program) (s : State) (old new : Option (List ℕ)) (ending : Status) : Type 0 where
  pub halt : Halt
  pub halts : Halts program s halt
  pub line : Appends old new (end_text (exceptions_of program) halt)
  pub ends : ending ≡ status_of halt

-- The line of a step, or that of the end, was written in part; or memory ran out before it.
pub data BreaksOff (program : Program) (trace : Bool) (runner : Runner) (s : State) (old new : Option (List ℕ)) : Type 0 where
  before_it : AppendsFront old new [] → BreaksOff program trace runner s old new
  in_line : (choice : Choice) (event : Event) (after : Runner) (last : State)
      → RunnerAnswers runner (next program.types.items (body_forms program) s) choice after → Step program s choice event last
      → AppendsFront old new (event_text program trace event) → BreaksOff program trace runner s old new
  in_end : (halt : Halt) → Halts program s halt → AppendsFront old new (end_text (exceptions_of program) halt) → BreaksOff program trace runner s old new

-- One step, or the end, where that is the status; or a fault in its line.
abbrev pub TakesTurn : Program → (trace : Bool) → (runner after : Runner) → State → State → Option (List ℕ) → Option (List ℕ) → Result (Option Status) ServeFault → Type 0
TakesTurn program trace runner after s last old new (Ok None) = StepsOn program trace runner after s last old new
TakesTurn program trace runner after s last old new (Ok (Some ending)) = EndsIn program s old new ending
TakesTurn program trace runner after s last old new (Err fault) = BreaksOff program trace runner s old new

-- What a machine does in a turn, and what its turn writes: it may have forgotten behind its step what lies in an object that is past.
pub record TurnsOn (program : Program) (trace : Bool) (before after : Machine PoolChoices) (old new : Option (List ℕ)) (result : Result (Option Status) ServeFault) : Type 0 where
  pub reached : State
  pub turn : TakesTurn program trace (runner_of (choices_of before)) (runner_of (choices_of after)) (state_in before) reached old new result
  pub forgets : StatesButForPast reached (state_in after)

-- The runner's run of a program, traced or not, on these numbers, which its input gives; it may begin so many statements, and the runner begins so:
-- its lines and how it ends are the text. It comes to its end; or it has begun that many statements, and would begin another.
pub data HasRun (program : Program) (trace : Bool) (numbers : List ℤ) (limit : ℕ) (start : Runner) (text : List ℕ) (ending : Status) : Type 0 where
  ended : (statements : ℕ) (events : List Event) (runner : Runner) (last : State) (halt : Halt) → statements ≤ limit
      → RunnerRun program start (first_state program numbers) statements events runner last → Halts program last halt
      → text ≡ lines_of program trace events ++ end_text (exceptions_of program) halt → ending ≡ status_of halt
      → HasRun program trace numbers limit start text ending
  stopped : (events : List Event) (runner : Runner) (last : State)
      → RunnerRun program start (first_state program numbers) limit events runner last → begins last ≡ true
      → text ≡ lines_of program trace events ++ stopped_text limit → ending ≡ status.Stopped
      → HasRun program trace numbers limit start text ending
