-- A body that has been called follows a component beside a hidden one; another one reads a hidden one, and one writes one.

use Rattle.std.proofs.Common.{◌≡◌, ℕ, true, false, List, [], ◌∷◌, Option, Some, None, refl, ap, ◌∙◌}
use Rattle.std.specs.List.{slice_get}
use Rattle.ada_program.specs.Form.{value_of, no_stmts}
use Rattle.ada_program.specs.ProgramForm.{nowhere}
use Rattle.ada_meaning.specs.declared.state.Id.{Id}
use Rattle.ada_meaning.specs.declared.state.Mode.TheVariants.{Running}
use Rattle.ada_meaning.specs.declared.state.Stage.TheVariants.{Existing}
use Rattle.ada_meaning.specs.declared.state.Value.{Value}
use Rattle.ada_meaning.specs.declared.state.Value.TheVariants.{Null, Names}
use Rattle.ada_meaning.specs.Frame.{Frame}
use Rattle.ada_meaning.specs.Frame as frame
use Rattle.ada_meaning.specs.Records.{component_in}
use Rattle.ada_meaning.specs.State.{Activation, collection}
use Rattle.ada_meaning.specs.Step.{asks, moves, computed, newest}
use Rattle.ada_meaning.specs.Named.{Object, State, Next, named, object_at, next}
use Rattle.ada_tracked.specs.Frames.{View}
use Rattle.ada_waiting.specs.Before.{Waiting}
use Rattle.ada_hidden.specs.Example.{FollowsBeside, PremisesAreMet, StepsDiffer, ReadsHidden, WritesHidden, CreatesHidden, PremisesAreNeeded}

abbrev holder : Id
holder = record { 0 = 0 }

abbrev other : Id
other = record { 0 = 1 }

-- An object with these components.
abbrev an_object : List Value → Object
an_object vs = record {
  cell = record { access = 0; number = 1; home = record { item = 0; pool = Some 0; subpool = None }; values = vs; parts = [] };
  stage = Existing;
  listed = false;
  out = true;
}

-- Both components of the first object name the second one, and the second component is hidden.
abbrev objects : List Object
objects = an_object (Names other ∷ Names other ∷ []) ∷ an_object (Names holder ∷ []) ∷ []

abbrev view : View
view = record { tracks = record { first = 0; components = 1 ∷ [] }; object = holder; base = 0 }

abbrev body : (operands : List Value) → List (Frame Value) → State
body vs control = record {
  activations = record { procedure = None; places = Names holder ∷ Null ∷ []; operands = vs } ∷ [];
  masters = [];
  control = control;
  mode = Running;
  input = [];
  next = 0;
  allocated = 2;
  born = 0;
  heap = objects;
}

-- What waits: a body with these variables.
abbrev waiting : List Value → Waiting Value
waiting vs = record { control = frame.Does no_stmts ∷ []; activations = record { procedure = None; places = vs; operands = [] } ∷ [] }

-- A path from the first variable is followed next.
abbrev reading : (selectors : List ℕ) → State
reading selectors = body [] (frame.Evaluates (value_of (record { root = 0; of_record = false; selectors = selectors; spot = nowhere })) ∷ frame.Stores 1 ∷ [])

-- The first component is followed, and then that of the object that it names.
abbrev before_it : State
before_it = reading (0 ∷ 0 ∷ [])

abbrev behind_it : State
behind_it = computed (Names other) (record before_it { control = frame.Follows (0 ∷ []) ∷ frame.Stores 1 ∷ [] })

-- The first variable of the body that waits.
abbrev first_place : List (Activation Value) → Option Value
first_place [] = None
first_place (a ∷ suspended) = slice_get a.places 0

follows_beside : FollowsBeside [] [] view (waiting []) (waiting (Null ∷ [])) before_it behind_it
unfolding next
follows_beside = record {
  runs = record { runs = tt; there = (an_object (Names other ∷ Names other ∷ []), refl); untouched = (refl, refl); unwritten = tt };
  hides = (1, other, refl, refl);
  differs = λ e. let clash : None ≡ Some Null = ap (λ (w : Waiting Value). first_place w.activations) e in absurd (cc clash);
  follows = refl;
  follows_too = refl;
  finds = (other, refl);
  hides_still = (1, other, refl, refl);
}

pub premises_are_met : PremisesAreMet
premises_are_met = ([], [], view, waiting [], waiting (Null ∷ []), before_it, behind_it, follows_beside)

-- The newest operand behind a step.
abbrev found : Next → Value
found (moves e s) = newest named s
found n = Null

-- The second component of the first object behind a step.
abbrev held : Next → Option Value
held (moves e s) = component_in (object_at s.heap holder) 1
held n = None

finds_other : StepsDiffer [] [] view (waiting []) (reading (1 ∷ []))
unfolding next
finds_other same = let clash : Null ≡ Names other = ap found same.1 in absurd (cc clash)

reads_hidden : ReadsHidden [] [] view (waiting []) (reading (1 ∷ []))
reads_hidden = record { runs = tt; there = (an_object (Names other ∷ Names other ∷ []), refl); unwritten = tt; differ = finds_other }

-- The newest operand goes to the hidden component.
abbrev writing : State
writing = body (Names holder ∷ []) (frame.StoresIn (Names holder) 1 ∷ [])

stays_there : StepsDiffer [] [] view (waiting []) writing
unfolding next
stays_there same = let clash : Some (Names holder) ≡ Some Null = ap held same.1 in absurd (cc clash)

writes_hidden : WritesHidden [] [] view (waiting []) writing
writes_hidden = record { runs = tt; there = (an_object (Names other ∷ Names other ∷ []), refl); untouched = refl; differ = stays_there }

-- A third object is created, whose component is the newest operand, and hidden.
abbrev third : View
third = record { tracks = record { first = 0; components = 0 ∷ [] }; object = record { 0 = 2 }; base = 0 }

abbrev creating : State
creating = record (body (Names holder ∷ []) (frame.Creates 0 1 ∷ [])) {
  masters = record { number = 1; items = record { number = 1; owned = collection 0 (Some 0) } ∷ [] } ∷ [];
}

-- What that component holds, in a state, and behind a step if the request is granted.
abbrev component_held : State → Option Value
component_held s = component_in (object_at s.heap (record { 0 = 2 })) 0

abbrev granted_held : Next → Option Value
granted_held (asks request answers) = component_held (answers true)
granted_held n = None

holds_name : StepsDiffer [] [] third (waiting []) creating
unfolding next
holds_name same =
    let clash : Some (Names holder) ≡ Some Null = ap granted_held same.3 ∙ ap component_held (same.4 true).hidden_in_front in absurd (cc clash)

creates_hidden : CreatesHidden [] [] third (waiting []) creating
creates_hidden = record { runs = tt; untouched = tt; unwritten = tt; differ = holds_name }

pub premises_are_needed : PremisesAreNeeded
premises_are_needed = (
  ([], [], view, waiting [], reading (1 ∷ []), reads_hidden),
  ([], [], view, waiting [], writing, writes_hidden),
  ([], [], third, waiting [], creating, creates_hidden),
)
