-- The premises are met.

use Rattle.std.specs.Prelude.{◌≡◌, ℕ, ◌<◌, true, List, [], ◌∷◌, Some}
use Rattle.std.specs.List.{slice_get}
use Rattle.ada_program.specs.declared.program.TypeDefinition.{TypeDefinition}
use Rattle.ada_program.specs.ProgramForm.{BodyForm}
use Rattle.ada_program.specs.Typed.{width_of}
use Rattle.ada_meaning.specs.declared.state.Id.{Id}
use Rattle.ada_meaning.specs.declared.state.Value.{Value}
use Rattle.ada_meaning.specs.declared.state.Value.TheVariants.{Null, Names}
use Rattle.ada_meaning.specs.Event.{Followed, Quiet}
use Rattle.ada_meaning.specs.Frame.{Frame}
use Rattle.ada_meaning.specs.Frame as frame
use Rattle.ada_meaning.specs.Step.{moves, places, newest}
use Rattle.ada_meaning.specs.Named.{State, named, next, object_at}
use Rattle.ada_meaning.specs.Records.{component_in}
use Rattle.ada_tracked.specs.Frames.{View, tracked_values}
use Rattle.ada_tracked.specs.Seen.{Seen, IsWatched}
use Rattle.ada_tracked.specs.Looking.{LooksElsewhere}
use Rattle.ada_tracked.specs.Copying.{CopiesNone, is_tracked_at}
use Rattle.ada_tracked.specs.Law.{NextIsSimple}

-- What the law takes of a state and of the one that stands for it.
pub record IsMet (types : List TypeDefinition) (bodies : List BodyForm) (w : View) (s t : State) : Type 0 where
  pub seen : Seen types bodies w s t
  pub watched : IsWatched w (places s) s.heap
  pub elsewhere : LooksElsewhere w s
  pub copies : CopiesNone types w.object (is_tracked_at w) s
  pub simple : NextIsSimple w s.control s.masters

-- A body reads from a tracked component, while a variable and a component of another object name the object that is watched: the real run follows that, and the
-- other one reads the variable, which holds the name of another object; behind the step the premises are met again.
pub record ReadsTracked (types : List TypeDefinition) (bodies : List BodyForm) (w : View) (s t after stands : State) : Type 0 where
  pub before : IsMet types bodies w s t
  pub behind : IsMet types bodies w after stands
  pub holds : (v : Value) × (tracked_values w s.heap ≡ v ∷ []) × (v ≡ Null → ⊥)
  pub variable_names_it : (x : ℕ) × (slice_get (places s) x ≡ Some (Names w.object))
  pub component_names_it : (o : Id) × (c : ℕ) × (component_in (object_at s.heap o) c ≡ Some (Names w.object))
  pub follows : next types bodies s ≡ moves (Followed (Names w.object)) after
  pub reads : next types bodies t ≡ moves Quiet stands

-- A body assigns to a tracked component: the real run finds the object alone, and then follows it as the other one begins to assign to the variable.
pub record AssignsTracked (types : List TypeDefinition) (bodies : List BodyForm) (w : View) (s t between after stands : State) : Type 0 where
  pub before : IsMet types bodies w s t
  pub on_the_way : IsMet types bodies w between t
  pub behind : IsMet types bodies w after stands
  pub finds : next types bodies s ≡ moves Quiet between
  pub follows : next types bodies between ≡ moves (Followed (Names w.object)) after
  pub begins : next types bodies t ≡ moves Quiet stands

-- A body copies a record out of the object itself, in which a component that is tracked names another object: both runs follow the object.
pub record CopiesUntracked (types : List TypeDefinition) (bodies : List BodyForm) (w : View) (s t after stands : State) : Type 0 where
  pub before : IsMet types bodies w s t
  pub behind : IsMet types bodies w after stands
  pub copied : (first : ℕ) × (record_type : ℕ) × (k : List (Frame Value)) × (s.control ≡ frame.Copies first record_type ∷ k) × (0 < width_of types record_type)
  pub itself : newest named s ≡ Names w.object
  pub tracked : (c : ℕ) × (o : Id) × (is_tracked_at w c ≡ true) × (component_in (object_at s.heap w.object) c ≡ Some (Names o))
  pub follows : next types bodies s ≡ moves (Followed (Names w.object)) after
  pub follows_too : next types bodies t ≡ moves (Followed (Names w.object)) stands

-- A body stores a record in the object itself, in which a component that is tracked names another object: both runs follow the object, and another component
-- gets a value.
pub record StoresBeside (types : List TypeDefinition) (bodies : List BodyForm) (w : View) (s t after stands : State) : Type 0 where
  pub before : IsMet types bodies w s t
  pub behind : IsMet types bodies w after stands
  pub stored : (first : ℕ) × (count : ℕ) × (k : List (Frame Value)) × (s.control ≡ frame.StoresRecord (Names w.object) first count ∷ k) × (0 < count)
  pub tracked : (c : ℕ) × (o : Id) × (is_tracked_at w c ≡ true) × (component_in (object_at s.heap w.object) c ≡ Some (Names o))
  pub changes : (c : ℕ) × (component_in (object_at s.heap w.object) c ≡ component_in (object_at after.heap w.object) c → ⊥)
  pub follows : next types bodies s ≡ moves (Followed (Names w.object)) after
  pub follows_too : next types bodies t ≡ moves (Followed (Names w.object)) stands

-- So it is somewhere.
abbrev pub PremisesAreMet : Type 0
PremisesAreMet =
    ((types : List TypeDefinition) × (bodies : List BodyForm) × (w : View) × (s : State) × (t : State) × (after : State) × (stands : State)
    × ReadsTracked types bodies w s t after stands)
    × ((types : List TypeDefinition) × (bodies : List BodyForm) × (w : View) × (s : State) × (t : State) × (between : State) × (after : State) × (stands : State)
    × AssignsTracked types bodies w s t between after stands)
    × ((types : List TypeDefinition) × (bodies : List BodyForm) × (w : View) × (s : State) × (t : State) × (after : State) × (stands : State)
    × CopiesUntracked types bodies w s t after stands)
    × ((types : List TypeDefinition) × (bodies : List BodyForm) × (w : View) × (s : State) × (t : State) × (after : State) × (stands : State)
    × StoresBeside types bodies w s t after stands)
