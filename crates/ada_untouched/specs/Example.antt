-- The premises of each law are met, and they are needed.

use Rattle.std.specs.Prelude.{◌≡◌, ◌≢◌, ℕ, ◌+◌, ◌<◌, Bool, true, false, List, [], ◌∷◌, Some}
use Rattle.ada_program.specs.declared.program.TypeDefinition.{TypeDefinition}
use Rattle.ada_program.specs.ProgramForm.{BodyForm}
use Rattle.ada_program.specs.Typed.{width_of}
use Rattle.ada_meaning.specs.declared.event.Halt.TheVariants.{Erroneous}
use Rattle.ada_meaning.specs.declared.event.Why.TheVariants.{FollowsGone}
use Rattle.ada_meaning.specs.declared.state.Id.{Id}
use Rattle.ada_meaning.specs.declared.state.Mode.TheVariants.{Running}
use Rattle.ada_meaning.specs.declared.state.Stage.TheVariants.{Gone}
use Rattle.ada_meaning.specs.declared.state.Value.{Value}
use Rattle.ada_meaning.specs.declared.state.Value.TheVariants.{Names}
use Rattle.ada_meaning.specs.Event.{Followed, Quiet}
use Rattle.ada_meaning.specs.Frame as frame
use Rattle.ada_meaning.specs.Step.{halts, moves, newest}
use Rattle.ada_meaning.specs.Named.{Object, State, named, object_at, look, next}
use Rattle.ada_meaning.specs.Records.{component_in}
use Rattle.ada_meaning.specs.Run.{Event}
use Rattle.ada_untouched.specs.Alike.{StatesAlike, NextBy, NextAlike}
use Rattle.ada_untouched.specs.Past.{HeapsButForPast, StatesButForPast}
use Rattle.ada_untouched.specs.Untouched.{Untouched}
use Rattle.ada_untouched.specs.Unwritten.{Unwritten}

-- A component of an object is hidden, and holds something else in the other state.
pub record DifferHidden (hidden : Id → (component : ℕ) → Bool) (s t : State) (o : Id) (component : ℕ) : Type 0 where
  pub is_hidden : hidden o component ≡ true
  pub differs : component_in (object_at s.heap o) component ≡ component_in (object_at t.heap o) component → ⊥

-- An object is a ghost, and is looked for in vain in one of the states.
pub record DifferInGhost (ghosts : Id → Bool) (s t : State) (o : Id) : Type 0 where
  pub is_ghost : ghosts o ≡ true
  pub differs : look s.heap (Names o) ≡ look t.heap (Names o) → ⊥

-- A step follows a component of an object, beside a hidden one of the same object that names a ghost in the one state and nothing in the other: both states
-- take it, and find the name of an object.
pub record FollowsBeside (types : List TypeDefinition) (bodies : List BodyForm) (hidden : Id → (component : ℕ) → Bool) (ghosts : Id → Bool) (s t after behind : State) : Type 0 where
  pub untouched : Untouched types hidden ghosts s
  pub alike : StatesAlike hidden ghosts s t
  pub followed : Id
  pub beside : (component : ℕ) × DifferHidden hidden s t followed component
  pub ghost : (o : Id) × DifferInGhost ghosts s t o
  pub follows : next types bodies s ≡ moves (Followed (Names followed)) after
  pub follows_too : next types bodies t ≡ moves (Followed (Names followed)) behind
  pub finds : (o : Id) × (newest named after ≡ Names o)
  pub goes_on : Untouched types hidden ghosts after

-- So it is somewhere.
abbrev pub PremisesAreMet : Type 0
PremisesAreMet =
    (types : List TypeDefinition) × (bodies : List BodyForm) × (hidden : (Id → (component : ℕ) → Bool)) × (ghosts : (Id → Bool)) × (s : State) × (t : State)
    × (after : State) × (behind : State) × FollowsBeside types bodies hidden ghosts s t after behind

-- States that are alike but for ghosts, of which one goes on and the other ends: the step follows a ghost.
pub record LooksAtGhost (types : List TypeDefinition) (bodies : List BodyForm) (ghosts : Id → Bool) (s t : State) : Type 0 where
  pub alike : StatesAlike (λ o component. false) ghosts s t
  pub goes_on : (o : Id) × (after : State) × (next types bodies s ≡ moves (Followed (Names o)) after)
  pub ends : next types bodies t ≡ halts (Erroneous FollowsGone)

-- States that are alike but for hidden components, both of which go on, to states that are not alike: the step reads a hidden component.
pub record LooksAtHidden (types : List TypeDefinition) (bodies : List BodyForm) (hidden : Id → (component : ℕ) → Bool) (s t : State) : Type 0 where
  pub alike : StatesAlike hidden (λ o. false) s t
  pub goes_apart : NextAlike hidden (λ o. false) (next types bodies s) (next types bodies t) → ⊥

-- Each of them is somewhere.
abbrev pub PremiseIsNeeded : Type 0
PremiseIsNeeded =
    ((types : List TypeDefinition) × (bodies : List BodyForm) × (ghosts : (Id → Bool)) × (s : State) × (t : State) × LooksAtGhost types bodies ghosts s t)
    × ((types : List TypeDefinition) × (bodies : List BodyForm) × (hidden : (Id → (component : ℕ) → Bool)) × (s : State) × (t : State)
    × LooksAtHidden types bodies hidden s t)

-- A step behind which a component of an object holds something else.
pub record Writes (types : List TypeDefinition) (bodies : List BodyForm) (s : State) (o : Id) (component : ℕ) : Type 0 where
  pub goes_on : (e : Event) × (after : State) × (next types bodies s ≡ moves e after)
  pub before : (v : Value) × (component_in (object_at s.heap o) component ≡ Some v)
  pub behind : (v : Value) × (component_in (object_at (goes_on.1).heap o) component ≡ Some v)
  pub differs : before.0 ≡ behind.0 → ⊥

-- It is none of the hidden ones, and the object has one of these.
pub record WritesShown (types : List TypeDefinition) (bodies : List BodyForm) (hidden : Id → (component : ℕ) → Bool) (s : State) (o : Id) (component : ℕ) : Type 0 where
  pub unwritten : Unwritten hidden s
  pub is_shown : hidden o component ≡ false
  pub beside : (c : ℕ) × (v : Value) × (hidden o c ≡ true) × (component_in (object_at s.heap o) c ≡ Some v)
  pub writes : Writes types bodies s o component

-- It is a hidden one.
pub record WritesHidden (types : List TypeDefinition) (bodies : List BodyForm) (hidden : Id → (component : ℕ) → Bool) (s : State) (o : Id) (component : ℕ) : Type 0 where
  pub is_hidden : hidden o component ≡ true
  pub writes : Writes types bodies s o component

-- Each of them is somewhere.
abbrev pub WritesBeside : Type 0
WritesBeside =
    ((types : List TypeDefinition) × (bodies : List BodyForm) × (hidden : (Id → (component : ℕ) → Bool)) × (s : State) × (o : Id) × (component : ℕ)
    × WritesShown types bodies hidden s o component)
    × ((types : List TypeDefinition) × (bodies : List BodyForm) × (hidden : (Id → (component : ℕ) → Bool)) × (s : State) × (o : Id) × (component : ℕ)
    × WritesHidden types bodies hidden s o component)

-- A record is copied over another one as a whole (4.3.1, 5.2), in three steps: its components are read, no item is left, and they are stored.
pub record CopiesRecord (types : List TypeDefinition) (bodies : List BodyForm) (source target : Id) (first to record_type : ℕ) (before after : State) : Type 0 where
  pub runs : before.mode ≡ Running
  pub copies :
      before.control ≡ frame.Copies first record_type ∷ frame.Fills [] ∷ frame.StoresRecord (Names target) to (width_of types record_type) ∷ []
  pub operand : newest named before ≡ Names source
  pub read : State
  pub ready : State
  pub reads : next types bodies before ≡ moves (Followed (Names source)) read
  pub evaluates : next types bodies read ≡ moves Quiet ready
  pub stores : next types bodies ready ≡ moves (Followed (Names target)) after

-- The next step looks at no hidden component and at no ghost, and writes no hidden component.
abbrev pub GoesBeside : List TypeDefinition → (hidden : Id → (component : ℕ) → Bool) → (ghosts : Id → Bool) → State → Type 0
GoesBeside types hidden ghosts s = Untouched types hidden ghosts s × Unwritten hidden s

-- A component of an object holds in a state what it held before, and there is that component.
abbrev pub Stays : (before after : State) → (o : Id) → (component : ℕ) → Type 0
Stays before after o component =
    (v : Value) × (component_in (object_at before.heap o) component ≡ Some v) × (component_in (object_at after.heap o) component ≡ Some v)

-- A component of an object holds something else in a state than before, and there is that component.
abbrev pub Changes : (before after : State) → (o : Id) → (component : ℕ) → Type 0
Changes before after o component =
    (v : Value) × (u : Value) × (component_in (object_at before.heap o) component ≡ Some v) × (component_in (object_at after.heap o) component ≡ Some u)
    × (v ≢ u)

-- Two states differ in a hidden component of an object, and in a ghost. Both copy a record over one that lies in this object beside the hidden component, out of
-- an object in which they differ so, too. No step looks at a hidden component or at the ghost, or writes a hidden component: it stays in each state, while a
-- component of the record changes, and behind each step the states are alike again.
pub record CopiesBeside (types : List TypeDefinition) (bodies : List BodyForm) (hidden : Id → (component : ℕ) → Bool) (ghosts : Id → Bool) (s t after behind : State) : Type 0 where
  pub source : Id
  pub target : Id
  pub first : ℕ
  pub to : ℕ
  pub record_type : ℕ
  pub copies : CopiesRecord types bodies source target first to record_type s after
  pub copies_too : CopiesRecord types bodies source target first to record_type t behind
  pub beside : GoesBeside types hidden ghosts s × GoesBeside types hidden ghosts copies.read × GoesBeside types hidden ghosts copies.ready
  pub ghost : (o : Id) × DifferInGhost ghosts s t o × DifferInGhost ghosts after behind o
  pub source_differs : (component : ℕ) × DifferHidden hidden s t source component
  pub stays : (component : ℕ) × DifferHidden hidden s t target component × Stays s after target component × Stays t behind target component
  pub changes : (i : ℕ) × (i < width_of types record_type) × Changes s after target (to + i) × Changes t behind target (to + i)
  pub alike : StatesAlike hidden ghosts s t
  pub alike_once_read : StatesAlike hidden ghosts copies.read copies_too.read
  pub alike_once_ready : StatesAlike hidden ghosts copies.ready copies_too.ready
  pub alike_behind : StatesAlike hidden ghosts after behind

-- So it is somewhere.
abbrev pub RecordsAreCopiedBeside : Type 0
RecordsAreCopiedBeside =
    (types : List TypeDefinition) × (bodies : List BodyForm) × (hidden : (Id → (component : ℕ) → Bool)) × (ghosts : (Id → Bool)) × (s : State) × (t : State)
    × (after : State) × (behind : State) × CopiesBeside types bodies hidden ghosts s t after behind

-- Two states are the same but for what lies in past objects, and a component of one of these holds something else in the other state.
pub record DifferInPast (s t : State) (o : Id) (component : ℕ) : Type 0 where
  pub alike : StatesButForPast s t
  pub differs : component_in (object_at s.heap o) component ≡ component_in (object_at t.heap o) component → ⊥

-- Both follow a path to the past object: they take one step, and behind it differ so again; the next one finds the object gone in both.
pub record FollowsPast (types : List TypeDefinition) (bodies : List BodyForm) (o : Id) (component : ℕ) (s t after behind : State) : Type 0 where
  pub differ : DifferInPast s t o component
  pub followed : Id
  pub follows : next types bodies s ≡ moves (Followed (Names followed)) after
  pub follows_too : next types bodies t ≡ moves (Followed (Names followed)) behind
  pub finds : newest named after ≡ Names o
  pub differ_behind : DifferInPast after behind o component
  pub ends : next types bodies after ≡ halts (Erroneous FollowsGone)
  pub ends_too : next types bodies behind ≡ halts (Erroneous FollowsGone)

-- Two states are the same but for what lies in one object, which is gone in both and in no collection, but has its words out. They do not do the same next:
-- what is told of the object as its words go back is not the same.
pub record GivesBackDiffering (types : List TypeDefinition) (bodies : List BodyForm) (s t : State) (o : Id) (x y : Object) : Type 0 where
  pub rest : t ≡ record s { heap = t.heap }
  pub others : (p : Id) → p.0 ≢ o.0 → object_at t.heap p ≡ object_at s.heap p
  pub found : object_at s.heap o ≡ Some x
  pub found_too : object_at t.heap o ≡ Some y
  pub same_life : y ≡ record x { cell = y.cell }
  pub gone : (x.stage ≡ Gone) × (x.listed ≡ false)
  pub out : x.out ≡ true
  pub goes_apart : NextBy HeapsButForPast (λ event. Unit {0}) (next types bodies s) (next types bodies t) → ⊥

-- Each of them is somewhere.
abbrev pub PastObjectsDiffer : Type 0
PastObjectsDiffer =
    ((types : List TypeDefinition) × (bodies : List BodyForm) × (o : Id) × (component : ℕ) × (s : State) × (t : State) × (after : State) × (behind : State)
    × FollowsPast types bodies o component s t after behind)
    × ((types : List TypeDefinition) × (bodies : List BodyForm) × (s : State) × (t : State) × (o : Id) × (x : Object) × (y : Object)
    × GivesBackDiffering types bodies s t o x y)
