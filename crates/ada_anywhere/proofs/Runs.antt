-- Each state of a run keeps that, where the program is well formed, its collections nest, and its operations nest anywhere.

use Rattle.std.proofs.Common.{ℤ, List, ◌∷◌, None}
use Rattle.ada_program.specs.declared.program.Program.{Program}
use Rattle.ada_program.specs.ProgramForm.{TypeForm, ProgramForm, program_form}
use Rattle.ada_program.specs.WellFormed.{IsWellFormed}
use Rattle.ada_program.specs.Nested.{Callees, callees_of, CollectionsNest}
use Rattle.ada_meaning.specs.Step.{halts, moves, tells, asks, picks}
use Rattle.ada_meaning.specs.Named.{State, Next, next}
use Rattle.ada_meaning.specs.Run.{Event, Choice, settled, grants, takes, Leads, Step, Run, here, there, first_state}
use Rattle.ada_scopes.specs.Scopes.{OperationsNestAnywhere}
use Rattle.ada_scopes.proofs.Operations.{operations_here, anywhere_nests}
use Rattle.ada_scopes.proofs.Treatments.{TreatsFirst}
use Rattle.ada_scopes.proofs.Runs.{calls_in, Scoped, first_nested, step_nested}
use Rattle.ada_anywhere.specs.Anywhere.{OperationsCollectNothing}
use Rattle.ada_anywhere.proofs.Control.{Here, none_since}
use Rattle.ada_anywhere.proofs.Evaluations.{Good}
use Rattle.ada_anywhere.proofs.Steps.{next_good}

-- What is left to do in front of an operation nests wherever that is called, in a state of a run of this program.
abbrev pub HereIn : ProgramForm → State → Type 0
HereIn p s = Here p.types (callees_of p) s

-- No operation waits in the first state.
pub first_here : (program : Program) (input : List ℤ) → HereIn (program_form program) (first_state program input)
first_here program input = (λ is. absurd (cc is), tt)

led : (types : List TypeForm) (callees : Callees) (coming : Next) (choice : Choice) (e : Event) (after : State) → Good types callees coming → Leads coming choice e after → Here types callees after
led types callees (halts halt) choice e after g l = absurd l
led types callees (moves shown s) settled e after g l = rw (l.1) g
led types callees (tells request shown s) settled e after g l = rw (l.1) g
led types callees (asks request answers) (grants granted) e after g l = rw (l.1) (g granted)
led types callees (picks n taking) (takes i) e after g l = rw (l.2) (g i)
led types callees (moves shown s) (grants granted) e after g l = absurd l
led types callees (moves shown s) (takes i) e after g l = absurd l
led types callees (tells request shown s) (grants granted) e after g l = absurd l
led types callees (tells request shown s) (takes i) e after g l = absurd l
led types callees (asks request answers) settled e after g l = absurd l
led types callees (asks request answers) (takes i) e after g l = absurd l
led types callees (picks n taking) settled e after g l = absurd l
led types callees (picks n taking) (grants granted) e after g l = absurd l

-- A step keeps that, if operations nest anywhere where a treatment is what is done next.
pub step_here : (program : Program) (s after : State) (choice : Choice) (e : Event) → (TreatsFirst s.control → OperationsNestAnywhere (program_form program)) → Scoped (program_form program) s → HereIn (program_form program) s → Step program s choice e after → HereIn (program_form program) after
step_here program s after choice e operations scoped h step =
    let p = program_form program in
    let types = program.types.items in
    led p.types (callees_of p) (next types p.bodies s) choice e after
    (next_good p.types (callees_of p) p.bodies scoped.bodies types None (calls_in p) s
    (λ first of. operations_here (callees_of p) types of (operations first)) scoped.nested h) step

run_here : (program : Program) (s last : State) (events : List Event) → OperationsNestAnywhere (program_form program) → Scoped (program_form program) s → HereIn (program_form program) s → Run program s events last → HereIn (program_form program) last
run_here program s last events operations scoped h here = h
run_here program s last (e ∷ events) operations scoped h (there choice mid step rest) =
    run_here program mid last events operations (step_nested program s mid choice e (λ first. anywhere_nests (program_form program) operations) scoped step)
    (step_here program s mid choice e (λ first. operations) scoped h step) rest

pub state_here : (program : Program) → IsWellFormed (program_form program) → CollectionsNest (program_form program) → OperationsNestAnywhere (program_form program) → (input : List ℤ) (events : List Event) (last : State) → Run program (first_state program input) events last → HereIn (program_form program) last
state_here program well nest operations input events last run =
    run_here program (first_state program input) last events operations (first_nested program well nest input) (first_here program input) run

-- So the masters that were entered since the outermost operation was called own no collection.
pub collect_nothing : OperationsCollectNothing
collect_nothing program well nest operations input events last run =
    let p = program_form program in
    none_since p.types (callees_of p) last.control last.masters (state_here program well nest operations input events last run)
