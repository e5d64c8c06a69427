-- States that are alike but for what lies in objects that are past: these are gone, and their storage is back.

use Rattle.std.specs.Prelude.{◌≡◌, ◌⊎◌, Bool, true, false, not, ◌&&◌, if◌then◌else◌, List, [], length, Option, Some, None}
use Rattle.ada_meaning.specs.declared.state.Id.{Id}
use Rattle.ada_meaning.specs.declared.state.Stage.{Stage}
use Rattle.ada_meaning.specs.declared.state.Stage.TheVariants.{Building, Existing, Gone}
use Rattle.ada_meaning.specs.Named.{Object, State, object_at, changed}
use Rattle.ada_untouched.specs.Alike.{StatesBy}

-- Is it over with an object?
abbrev pub is_gone : Stage → Bool
is_gone Building = false
is_gone Existing = false
is_gone Gone = true

-- An object is past: it has ceased to exist, is in no collection, and its words are back (13.11.2).
abbrev pub is_past : Object → Bool
is_past object = is_gone object.stage && (not object.listed && not object.out)

-- So is the object of a name, if there is one.
abbrev pub is_past_at : Option Object → Bool
is_past_at None = false
is_past_at (Some object) = is_past object

-- The same object in two places, or none in both, or past ones in both.
abbrev pub SameOrPast : (here there : Option Object) → Type 0
SameOrPast here there = (there ≡ here) ⊎ ((is_past_at here ≡ true) × (is_past_at there ≡ true))

-- As many objects, and under each name the same one or past ones.
pub record HeapsButForPast (h k : List Object) : Type 0 where
  pub count : length h ≡ length k
  pub objects : (o : Id) → SameOrPast (object_at h o) (object_at k o)

-- States that are the same but for what lies in past objects.
abbrev pub StatesButForPast : (s t : State) → Type 0
StatesButForPast s t = StatesBy HeapsButForPast s t

-- A past object of which nothing is remembered but that it is past.
abbrev pub nothing_left : Object
nothing_left = record {
  cell = record { access = 0; number = 0; home = record { item = 0; pool = None; subpool = None }; values = []; parts = [] };
  stage = Gone;
  listed = false;
  out = false;
}

-- Nothing else is remembered of an object, if it is past.
abbrev pub forgotten : Object → Object
forgotten object = if is_past object then nothing_left else object

-- The state once the object of a name is forgotten, if it is past.
abbrev pub forgetting : Id → State → State
forgetting o s = record s { heap = changed forgotten (object_at s.heap o) s.heap o }
