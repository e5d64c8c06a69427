-- What is left to do nests inside of each other: frames that no jump and no treatment stops at do not count.

use Rattle.std.proofs.Common.{◌≡◌, List, [], ◌∷◌, sym, subst, arith}
use Rattle.ada_parts.specs.Shape.{Shape}
use Rattle.ada_parts.specs.Part.{Part}
use Rattle.ada_parts.specs.Task.{Task}
use Rattle.ada_meaning.specs.declared.event.Birth.{Birth}
use Rattle.ada_meaning.specs.declared.event.Cause.{Cause}
use Rattle.ada_meaning.specs.declared.state.Value.{Value}
use Rattle.ada_meaning.specs.Frame.{Frame, Treatment, begins, ends}
use Rattle.ada_meaning.specs.Frame as frame
use Rattle.ada_meaning.specs.Step.{treating}
use Rattle.ada_finalized.specs.Law.{NothingBegins, NoOperationRunsOn, TreatsInside}
use Rattle.ada_finalized.proofs.Doings.{Calm, rest}
use Rattle.ada_finalized.proofs.Inside.{none_inside}
use Rattle.ada_finalized.proofs.Stacks.{Control}
use Rattle.ada_inside.specs.Law.{BegunInside, NestInside}

module _ (shapes : List Shape) where
  -- What is behind a frame nests, too.
  pub nests_behind : (f : Frame Value) (k : Control) → NestInside shapes (f ∷ k) → NestInside shapes k
  nests_behind (frame.Treats v (begins by done) tasks) k h = h.1
  nests_behind (frame.Treats v (ends cause) tasks) k h = h.1
  nests_behind (frame.Awaits v by done of part tasks) k h = h.1
  nests_behind f k h = h

  pub nests_rest : (k : Control) → NestInside shapes k → NestInside shapes (rest k)
  nests_rest [] h = h
  nests_rest (frame.Treats v (begins by done) tasks ∷ k) h = h
  nests_rest (frame.Treats v (ends cause) tasks ∷ k) h = h
  nests_rest (frame.Awaits v by done of part tasks ∷ k) h = h
  nests_rest (frame.Confines ∷ k) h = h
  nests_rest (frame.Assigns t ∷ k) h = h
  nests_rest (frame.Ends v ∷ k) h = h
  nests_rest (frame.GivesBack v cause pool ∷ k) h = h
  nests_rest (frame.Returns actuals references ∷ k) h = h
  nests_rest (f ∷ k) h = nests_rest k h

  nests_from : (k : Control) → NestInside shapes (rest k) → NestInside shapes k
  nests_from [] h = h
  nests_from (frame.Treats v (begins by done) tasks ∷ k) h = h
  nests_from (frame.Treats v (ends cause) tasks ∷ k) h = h
  nests_from (frame.Awaits v by done of part tasks ∷ k) h = h
  nests_from (frame.Confines ∷ k) h = h
  nests_from (frame.Assigns t ∷ k) h = h
  nests_from (frame.Ends v ∷ k) h = h
  nests_from (frame.GivesBack v cause pool ∷ k) h = h
  nests_from (frame.Returns actuals references ∷ k) h = h
  nests_from (f ∷ k) h = nests_from k h

  pub nests_alike : (j k : Control) → rest j ≡ rest k → NestInside shapes k → NestInside shapes j
  nests_alike j k same h = nests_from j (subst (NestInside shapes) (sym same) (nests_rest k h))

  -- A treatment comes first, if something is left of it.
  pub begins_nest :
      (v : Value) (by : Birth) (done : List Part) (tasks : List Task) (k : Control) → TreatsInside shapes v tasks k → BegunInside shapes v done k → NestInside shapes k
      → NestInside shapes (treating v (begins by done) tasks k)
  begins_nest v by done [] k inside begun h = h
  begins_nest v by done (task ∷ tasks) k inside begun h = ((inside, begun), h)

  pub ends_nest : (v : Value) (cause : Cause) (tasks : List Task) (k : Control) → TreatsInside shapes v tasks k → NestInside shapes k → NestInside shapes (treating v (ends cause) tasks k)
  ends_nest v cause [] k inside h = h
  ends_nest v cause (task ∷ tasks) k inside h = (inside, h)

  -- Nothing has begun.
  pub none_begun : (v : Value) (k : Control) → BegunInside shapes v [] k
  none_begun v k n (i, lt, is) = absurd (omega (arith, lt))

  -- All is inside where no operation of the object runs.
  pub all_inside : (v : Value) (tasks : List Task) (k : Control) → NoOperationRunsOn v k → TreatsInside shapes v tasks k
  all_inside v tasks k none n has = none_inside shapes v n k none

-- No operation of an object runs behind a frame.
pub alone_behind : (v : Value) (f : Frame Value) (k : Control) → NoOperationRunsOn v (f ∷ k) → NoOperationRunsOn v k
alone_behind v (frame.Awaits w by done of part tasks) k none = none.1
alone_behind v frame.Confines k none = none.1
alone_behind v f k none = none

pub alone_rest : (v : Value) (k : Control) → NoOperationRunsOn v k → NoOperationRunsOn v (rest k)
alone_rest v [] none = none
alone_rest v (frame.Treats w treatment tasks ∷ k) none = none
alone_rest v (frame.Awaits w by done of part tasks ∷ k) none = none
alone_rest v (frame.Confines ∷ k) none = none
alone_rest v (frame.Assigns t ∷ k) none = none
alone_rest v (frame.Ends w ∷ k) none = none
alone_rest v (frame.GivesBack w cause pool ∷ k) none = none
alone_rest v (frame.Returns actuals references ∷ k) none = none
alone_rest v (f ∷ k) none = alone_rest v k none

alone_from : (v : Value) (k : Control) → NoOperationRunsOn v (rest k) → NoOperationRunsOn v k
alone_from v [] none = none
alone_from v (frame.Treats w treatment tasks ∷ k) none = none
alone_from v (frame.Awaits w by done of part tasks ∷ k) none = none
alone_from v (frame.Confines ∷ k) none = none
alone_from v (frame.Assigns t ∷ k) none = none
alone_from v (frame.Ends w ∷ k) none = none
alone_from v (frame.GivesBack w cause pool ∷ k) none = none
alone_from v (frame.Returns actuals references ∷ k) none = none
alone_from v (f ∷ k) none = alone_from v k none

pub alone_alike : (v : Value) (j k : Control) → rest j ≡ rest k → NoOperationRunsOn v k → NoOperationRunsOn v j
alone_alike v j k same none = alone_from v j (subst (NoOperationRunsOn v) (sym same) (alone_rest v k none))

-- Nothing initializes or adjusts an object behind a frame.
pub nothing_front : (v : Value) (f : Frame Value) (k : Control) → Calm f → NothingBegins v k → NothingBegins v (f ∷ k)
nothing_front v (frame.Treats w treatment tasks) k c none = absurd c
nothing_front v (frame.Awaits w by done of part tasks) k c none = absurd c
nothing_front v f k c none = none

nothing_rest : (v : Value) (k : Control) → NothingBegins v k → NothingBegins v (rest k)
nothing_rest v [] none = none
nothing_rest v (frame.Treats w (begins by done) tasks ∷ k) none = none
nothing_rest v (frame.Treats w (ends cause) tasks ∷ k) none = none
nothing_rest v (frame.Awaits w by done of part tasks ∷ k) none = none
nothing_rest v (frame.Confines ∷ k) none = none
nothing_rest v (frame.Assigns t ∷ k) none = none
nothing_rest v (frame.Ends w ∷ k) none = none
nothing_rest v (frame.GivesBack w cause pool ∷ k) none = none
nothing_rest v (frame.Returns actuals references ∷ k) none = none
nothing_rest v (f ∷ k) none = nothing_rest v k none

nothing_from : (v : Value) (k : Control) → NothingBegins v (rest k) → NothingBegins v k
nothing_from v [] none = none
nothing_from v (frame.Treats w (begins by done) tasks ∷ k) none = none
nothing_from v (frame.Treats w (ends cause) tasks ∷ k) none = none
nothing_from v (frame.Awaits w by done of part tasks ∷ k) none = none
nothing_from v (frame.Confines ∷ k) none = none
nothing_from v (frame.Assigns t ∷ k) none = none
nothing_from v (frame.Ends w ∷ k) none = none
nothing_from v (frame.GivesBack w cause pool ∷ k) none = none
nothing_from v (frame.Returns actuals references ∷ k) none = none
nothing_from v (f ∷ k) none = nothing_from v k none

pub nothing_alike : (v : Value) (j k : Control) → rest j ≡ rest k → NothingBegins v k → NothingBegins v j
nothing_alike v j k same none = nothing_from v j (subst (NothingBegins v) (sym same) (nothing_rest v k none))
