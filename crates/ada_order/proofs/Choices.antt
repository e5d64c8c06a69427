-- Runs by their choices: what comes of them is computed.

use Rattle.std.proofs.Common.{◌≡◌, ℕ, Bool, true, false, List, [], ◌∷◌, refl}
use Rattle.std.specs.Prelude.{Option, Some, None, nat_lt}
use Rattle.std.proofs.lemmas.Bool.{ltb-true}
use Rattle.ada_program.specs.declared.program.Program.{Program}
use Rattle.ada_program.specs.declared.program.TypeDefinition.{TypeDefinition}
use Rattle.ada_program.specs.Form.{StmtsForm, declaration_forms, stmt_forms, handler_forms}
use Rattle.ada_program.specs.ProgramForm.{BodyForm, body_forms}
use Rattle.ada_meaning.specs.Frame as frame
use Rattle.ada_meaning.specs.Event.{Quiet}
use Rattle.ada_meaning.specs.Step.{halts, moves, tells, asks, picks}
use Rattle.ada_meaning.specs.Named.{State, Next, next}
use Rattle.ada_meaning.specs.Run.{Event, Choice, settled, grants, takes, Leads, Step, Run, here, there, first_state}
use Rattle.ada_order.specs.Example.{InSomeRun}

-- Events, and the state that they lead to.
abbrev pub Came : Type 0
Came = Option (List Event × State)

-- What comes after a step.
abbrev pub told : Event → Came → Came
told e None = None
told e (Some (events, last)) = Some (e ∷ events, last)

abbrev pub only_if : Bool → Came → Came
only_if true came = came
only_if false came = None

-- A step by a choice, and more.
abbrev pub step_by : Next → Choice → (State → Came) → Came
step_by (moves e s) settled more = told e (more s)
step_by (tells request e s) settled more = told e (more s)
step_by (asks request answered) (grants granted) more = told Quiet (more (answered granted))
step_by (picks n taken) (takes i) more = only_if (nat_lt i n) (told Quiet (more (taken i)))
step_by n choice more = None

abbrev pub came_by : List TypeDefinition → List BodyForm → State → List Choice → Came
came_by types bodies s [] = Some ([], s)
came_by types bodies s (c ∷ cs) = step_by (next types bodies s) c (λ after. came_by types bodies after cs)

-- Where choices lead, there is a run.
LeadsTo : Program → State → Came → Type 0
LeadsTo program s None = Unit {0}
LeadsTo program s (Some (events, last)) = Run program s events last

told_goes : (program : Program) (s after : State) (choice : Choice) (e : Event) (came : Came) → Leads (next program.types.items (body_forms program) s) choice e after → LeadsTo program after came → LeadsTo program s (told e came)
unfolding LeadsTo
told_goes program s after choice e None leads g = tt
told_goes program s after choice e (Some (events, last)) leads g = there choice after leads g

taken_goes : (program : Program) (s : State) (n i : ℕ) (taken : ℕ → State) (came : Came) (b : Bool) → nat_lt i n ≡ b → next program.types.items (body_forms program) s ≡ picks n taken → LeadsTo program (taken i) came → LeadsTo program s (only_if b (told Quiet came))
unfolding LeadsTo
taken_goes program s n i taken came true less is g = told_goes program s (taken i) (takes i) Quiet came (rw is (ltb-true i n less, refl, refl)) g
taken_goes program s n i taken came false less is g = tt

step_goes : (program : Program) (s : State) (n : Next) (choice : Choice) (more : State → Came) → next program.types.items (body_forms program) s ≡ n → ((after : State) → LeadsTo program after (more after)) → LeadsTo program s (step_by n choice more)
unfolding LeadsTo
step_goes program s (moves e after) settled more is g = told_goes program s after settled e (more after) (rw is (refl, refl)) (g after)
step_goes program s (tells request e after) settled more is g = told_goes program s after settled e (more after) (rw is (refl, refl)) (g after)
step_goes program s (asks request answered) (grants granted) more is g = told_goes program s (answered granted) (grants granted) Quiet (more (answered granted)) (rw is (refl, refl)) (g (answered granted))
step_goes program s (picks n taken) (takes i) more is g = taken_goes program s n i taken (more (taken i)) (nat_lt i n) refl is (g (taken i))
step_goes program s n choice more is g = tt

came_goes : (program : Program) (s : State) (cs : List Choice) → LeadsTo program s (came_by program.types.items (body_forms program) s cs)
unfolding LeadsTo
came_goes program s [] = here
came_goes program s (c ∷ cs) = step_goes program s (next program.types.items (body_forms program) s) c (λ after. came_by program.types.items (body_forms program) after cs) refl (λ after. came_goes program after cs)

-- What came of choices, if each was one that the step left open.
abbrev pub has_come : Came → Bool
has_come None = false
has_come (Some came) = true

abbrev pub events_of : Came → List Event
events_of None = []
events_of (Some (events, last)) = events

abbrev pub last_of : State → Came → State
last_of s None = s
last_of s (Some (events, last)) = last

goes_there : (program : Program) (s : State) (came : Came) → has_come came ≡ true → LeadsTo program s came → Run program s (events_of came) (last_of s came)
unfolding LeadsTo
goes_there program s None is g = absurd (cc is)
goes_there program s (Some (events, last)) is g = g

-- The first state of a program that does these statements, without input; and what comes of choices from there, where it has these bodies.
abbrev pub first_with : Program → StmtsForm → State
first_with program fs = record (first_state program []) { control = frame.Elaborates (declaration_forms program) fs (handler_forms program) ∷ [] }

abbrev pub came : Program → List BodyForm → StmtsForm → List Choice → Came
came program bodies fs cs = came_by program.types.items bodies (first_with program fs) cs

abbrev pub last : Program → List BodyForm → StmtsForm → List Choice → State
last program bodies fs cs = last_of (first_with program fs) (came program bodies fs cs)

-- A run by these choices.
pub run_by : (program : Program) (bodies : List BodyForm) (fs : StmtsForm) → body_forms program ≡ bodies → stmt_forms program ≡ fs → (cs : List Choice) (P : List Event → State → Type 0) → has_come (came program bodies fs cs) ≡ true → P (events_of (came program bodies fs cs)) (last program bodies fs cs) → InSomeRun program P
run_by program bodies fs are is cs P comes p =
    let first = first_with program fs in
    let goes : LeadsTo program first (came program bodies fs cs) = rw are at (came_goes program first cs) in
    ([], events_of (came program bodies fs cs), last program bodies fs cs, rw is (goes_there program first (came program bodies fs cs) comes goes), p)

-- What a step shows that leaves nothing open; and there is such a step.
abbrev pub shown_by : Next → Option Event
shown_by (halts halt) = None
shown_by (moves e s) = Some e
shown_by (tells request e s) = Some e
shown_by (asks request answered) = None
shown_by (picks n taken) = None

shown_goes : (coming : Next) (e : Event) → shown_by coming ≡ Some e → (after : State) × Leads coming settled e after
shown_goes (halts halt) e is = absurd (cc is)
shown_goes (moves d s) e is = (s, (cc is, refl))
shown_goes (tells request d s) e is = (s, (cc is, refl))
shown_goes (asks request answered) e is = absurd (cc is)
shown_goes (picks n taken) e is = absurd (cc is)

pub step_goes_on : (program : Program) (bodies : List BodyForm) → body_forms program ≡ bodies → (s : State) (e : Event) → shown_by (next program.types.items bodies s) ≡ Some e → (after : State) × Step program s settled e after
step_goes_on program bodies are s e is = shown_goes (next program.types.items (body_forms program) s) e (rw are is)
