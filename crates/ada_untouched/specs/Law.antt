-- The laws: what a step does not touch does not matter to it, nor does what lies in an object that is past; and what it does not write stays.

use Rattle.std.specs.Prelude.{◌≡◌, ℕ, Bool, true, List, Some}
use Rattle.std.specs.List.{slice_get}
use Rattle.ada_program.specs.declared.program.TypeDefinition.{TypeDefinition}
use Rattle.ada_program.specs.declared.program.Program.{Program}
use Rattle.ada_program.specs.ProgramForm.{BodyForm}
use Rattle.ada_meaning.specs.declared.state.Id.{Id}
use Rattle.ada_meaning.specs.Named.{Object, State, object_at, next}
use Rattle.ada_meaning.specs.Pace.{full_weight}
use Rattle.ada_meaning.specs.Records.{component_in}
use Rattle.ada_meaning.specs.Run.{Event, Choice, Leads}
use Rattle.ada_untouched.specs.Alike.{StatesAlike, NextAlike, NextBy}
use Rattle.ada_untouched.specs.Past.{HeapsButForPast, StatesButForPast, forgetting}
use Rattle.ada_untouched.specs.Untouched.{Untouched}
use Rattle.ada_untouched.specs.Unwritten.{Unwritten}

-- States that are alike do alike next, where the step looks at nothing in which they may differ; and its event spares the ghosts.
abbrev pub UntouchedPartsDoNotMatter : Type 0
UntouchedPartsDoNotMatter =
    (types : List TypeDefinition) (bodies : List BodyForm) (hidden : Id → (component : ℕ) → Bool) (ghosts : Id → Bool) (s t : State)
    → Untouched types hidden ghosts s → StatesAlike hidden ghosts s t → NextAlike hidden ghosts (next types bodies s) (next types bodies t)

-- Each hidden component of an object holds behind the step what it held before it, where the step writes none of them.
abbrev pub HiddenPartsStay : Type 0
HiddenPartsStay =
    (types : List TypeDefinition) (bodies : List BodyForm) (hidden : Id → (component : ℕ) → Bool) (s after : State) (choice : Choice) (e : Event)
    → Leads (next types bodies s) choice e after → Unwritten hidden s → (o : Id) (x : Object) → object_at s.heap o ≡ Some x → (c : ℕ)
    → hidden o c ≡ true → component_in (object_at after.heap o) c ≡ slice_get x.cell.values c

-- States that are the same but for what lies in past objects do the same next, whatever is answered, and the states behind that are so again. No premise is
-- needed: a step that looks for a past object finds it gone in both.
abbrev pub PastObjectsDoNotMatter : Type 0
PastObjectsDoNotMatter =
    (types : List TypeDefinition) (bodies : List BodyForm) (s t : State)
    → StatesButForPast s t → NextBy HeapsButForPast (λ event. Unit {0}) (next types bodies s) (next types bodies t)

-- They weigh the same: as many steps at most may follow before a statement begins.
abbrev pub PastObjectsWeighNothing : Type 0
PastObjectsWeighNothing = (program : Program) (s t : State) → StatesButForPast s t → full_weight program t ≡ full_weight program s

-- What is forgotten is past: a state is the same but for past objects once one is forgotten, and one more of them may be forgotten at any time.
abbrev pub ForgettingChangesPastAlone : Type 0
ForgettingChangesPastAlone = (o : Id) (s t : State) → StatesButForPast s t → StatesButForPast s (forgetting o t)
