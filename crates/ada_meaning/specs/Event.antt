-- What a step shows and tells, over whatever its values are: names, and later words.

use Rattle.std.specs.Prelude.{ℕ, Option}
use Rattle.ada_meaning.specs.declared.state.Value.{Value}
use Rattle.ada_meaning.specs.declared.state.Value.TheVariants.{Names}
use Rattle.ada_meaning.specs.declared.event.Birth.{Birth}
use Rattle.ada_meaning.specs.declared.event.Cause.{Cause}
use Rattle.ada_meaning.specs.declared.event.Event.{Event as Shown}
use Rattle.ada_meaning.specs.declared.event.Event.TheVariants as shown
use Rattle.ada_meaning.specs.declared.event.Line.{Line as LineOf}
use Rattle.ada_meaning.specs.declared.request.Request.{Request as Asked}
use Rattle.ada_meaning.specs.declared.request.Request.TheVariants as asked

-- An event. An object is shown by a value that names it; a controlled value by its object, its part, and how often the part had a value before, with its
-- type, by its number among the record types that have controlled parts.
pub data Event (V : Type 0) : Type 0 where
  Born : (object : V) → (part turn type number : ℕ) → Birth → Event V
  Finalized : (object : V) → (part turn type number : ℕ) → Cause → Event V
  Back : (object : V) → (access number : ℕ) → (pool subpool : Option ℕ) → Cause → Event V
  Followed : (object : V) → Event V
  Left : (master : ℕ) → Event V
  Line : LineOf → Event V
  Quiet : Event V

-- What is asked of the pools, or told to them.
pub data Request (V : Type 0) : Type 0 where
  Allocate : (pool owner words : ℕ) → (object : V) → Request V
  Open : (pool owner : ℕ) → Request V
  GiveBack : (object : V) → Request V
  Close : (pool owner : ℕ) → Request V
  New : (pool declaration : ℕ) → Request V
  Gone : (pool : ℕ) → Request V

-- The event that the machine shows, over names.
abbrev pub event_of : Shown → Event Value
event_of (shown.Born v type number by) = Born (Names v.object) v.part v.turn type.0 number by
event_of (shown.Finalized v type number cause) = Finalized (Names v.object) v.part v.turn type.0 number cause
event_of (shown.Back o access number pool subpool cause) = Back (Names o) access.0 number pool subpool cause
event_of (shown.Followed o) = Followed (Names o)
event_of (shown.Left master) = Left master
event_of (shown.Line line) = Line line
event_of shown.Quiet = Quiet

-- The request that the machine makes, over names.
abbrev pub request_of : Asked → Request Value
request_of (asked.Allocate pool owner words object) = Allocate pool owner words (Names object)
request_of (asked.Open pool owner) = Open pool owner
request_of (asked.Back o) = GiveBack (Names o)
request_of (asked.Close pool owner) = Close pool owner
request_of (asked.New pool declaration) = New pool declaration.0
request_of (asked.Gone pool) = Gone pool
