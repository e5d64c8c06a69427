-- Whole runs: what each state keeps, and what an event of a leaving leaves behind.

use Rattle.std.proofs.Common.{◌≡◌, ◌≢◌, ℕ, ℤ, ◌+◌, ◌<◌, List, [], ◌∷◌, refl, ◌⊎◌, inl, inr, arith}
use Rattle.std.specs.Prelude.{Option, Some, None, IfSome}
use Rattle.std.specs.List.{All, AllPairs}
use Rattle.std.proofs.lemmas.List.Elements.{All-nil, All-cons}
use Rattle.std.proofs.lemmas.List.Kept.{AllPairs-cons}
use Rattle.ada_program.specs.declared.program.Program.{Program}
use Rattle.ada_program.specs.declared.program.TypeDefinition.{TypeDefinition}
use Rattle.ada_program.specs.ProgramForm.{body_forms}
use Rattle.ada_meaning.specs.declared.state.Value.{Value}
use Rattle.ada_meaning.specs.Event.{Born, Finalized, Back, Followed, Left, Line, Quiet, Request}
use Rattle.ada_meaning.specs.Step.{halts, moves, tells, asks, picks}
use Rattle.ada_meaning.specs.State.{Master, height}
use Rattle.ada_meaning.specs.Named.{State, Next, next}
use Rattle.ada_meaning.specs.Run.{Event, Choice, Step, Run, here, there, first_state}
use Rattle.ada_meaning.specs.Law.{AtItem, leaving_of, master_in, left_by, Between, Differ, NeverRises, InReverseOrder, items_of, Falls, MastersFall, IsInnermost, LeavesInnermost, OwnTwoPools, IsDeclaredPool}
use Rattle.ada_order.specs.Masters.{IsBelow, left_of, LeftTwoMasters, GoesBeforeLeft, HaveTheirPools, TakeTheirPools, pools_there, TellsPools}
use Rattle.ada_order.proofs.Numbers.{Counted, Entered, NotEntered, Newest, is_innermost, counted_owning, counted_shorter, newest_counted, entered_owning, entered_shorter, entered_above, not_owning, not_shorter, not_innermost, not_above, counted_fall, entered_below, entered_fall}
use Rattle.ada_order.proofs.Pools.{PoolsFit, fit_owning, fit_shorter, all_differ, all_declared, Tells, none_told, tells_owning, tells_shorter}
use Rattle.ada_order.proofs.Controls.{Stands, plainly, IsLatest, stands_latest, Does, Work, WorkOn, stays, numbers, owns, enters, Leave, LeaveOn, waits, shortens, gives, operates, left, Deed, DeedOn, works, leaves, tells_none}
use Rattle.ada_order.proofs.Leavings.{step_deed, step_deed_on, next_deed_on}

-- What each state of a run keeps.
pub record Kept (types : List TypeDefinition) (s : State) : Type 0 where
  pub stands : Stands None s
  pub counted : Counted (items_of s.masters)
  pub entered : Entered s.next s.masters
  pub pools : PoolsFit types (items_of s.masters)

pub kept_first : (program : Program) (input : List ℤ) → Kept program.types.items (first_state program input)
kept_first program input = record { stands = plainly (tt, tt); counted = tt; entered = (omega arith, tt); pools = (tt, tt, tt) }

work_keeps : {types : List TypeDefinition} {told : Option (Request Value)} (s : State) (e : Event) (after : State) → Kept types s → Work types s.masters s.next told e after → Kept types after
work_keeps s e after k (stays none is p ms n) = record { stands = p; counted = rw ms k.counted; entered = rw (ms, n) k.entered; pools = rw ms k.pools }
work_keeps s e after k (numbers none is p ms n) = record { stands = p; counted = rw ms k.counted; entered = rw (ms, n) (entered_above s.next (s.next + 1) s.masters (omega arith) k.entered); pools = rw ms k.pools }
work_keeps {types} s e after k (owns what due begun is p ms n) =
    record { stands = p; counted = rw ms (counted_owning what s.masters k.counted); entered = rw (ms, n) (entered_owning s.next _ s.masters k.entered); pools = rw ms (fit_owning types (height s.masters) what s.masters due k.pools) }
work_keeps s e after k (enters none is p ms n) = record { stands = p; counted = rw ms k.counted; entered = rw (ms, n) (omega arith, k.entered); pools = rw ms k.pools }

leave_keeps : {types : List TypeDefinition} {told : Option (Request Value)} (s : State) (e : Event) (after : State) → Kept types s → Leave s.masters s.next told e after → Kept types after
leave_keeps s e after k (waits none is p ms n) = record { stands = p; counted = rw ms k.counted; entered = rw (ms, n) k.entered; pools = rw ms k.pools }
leave_keeps {types} s e after k (shortens gone is p ms n) = record { stands = p; counted = rw ms (counted_shorter s.masters k.counted); entered = rw (ms, n) (entered_shorter s.next s.masters k.entered); pools = rw ms (fit_shorter types s.masters k.pools) }
leave_keeps s e after k (gives m i none at_item is newest seen p ms n) = record { stands = p; counted = rw ms k.counted; entered = rw (ms, n) k.entered; pools = rw ms k.pools }
leave_keeps s e after k (operates m i none at_item is newest seen p ms n) = record { stands = p; counted = rw ms k.counted; entered = rw (ms, n) (omega arith, k.entered); pools = rw ms k.pools }
leave_keeps {types} s e after k (left m rest none is was p ms n) =
    let fit : PoolsFit types (items_of (record { number = m; items = [] } ∷ rest)) = rw was at k.pools in
    let c : Counted (items_of (record { number = m; items = [] } ∷ rest)) = rw was at k.counted in
    let below : Entered s.next (record { number = m; items = [] } ∷ rest) = rw was at k.entered in
    let lt = below.0 in
    record { stands = p; counted = rw ms c; entered = rw (ms, n) (entered_above m s.next rest (omega (arith, lt)) below.1); pools = rw ms fit }

deed_keeps : {types : List TypeDefinition} {told : Option (Request Value)} (s : State) (e : Event) (after : State) → Kept types s → Deed types s told e after → Kept types after
deed_keeps s e after k (works w) = work_keeps s e after k w
deed_keeps s e after k (leaves l) = leave_keeps s e after k l

step_does : (program : Program) (s : State) (choice : Choice) (e : Event) (after : State) → Kept program.types.items s → Step program s choice e after → (told : Option (Request Value)) × Deed program.types.items s told e after
step_does program s choice e after k step = step_deed program s choice e after k.stands step

pub step_keeps : (program : Program) (s : State) (choice : Choice) (e : Event) (after : State) → Kept program.types.items s → Step program s choice e after → Kept program.types.items after
step_keeps program s choice e after k step = deed_keeps s e after k (step_does program s choice e after k step).1

pub run_keeps : {program : Program} {s last : State} {events : List Event} → Run program s events last → Kept program.types.items s → Kept program.types.items last
run_keeps here k = k
run_keeps {program} {s = s} (there {event = e} choice mid step run) k = run_keeps run (step_keeps program s choice e mid k step)

-- The innermost master is left.
work_innermost : {types : List TypeDefinition} {told : Option (Request Value)} (ms : List Master) (n : ℕ) (e : Event) (after : State) → Work types ms n told e after → left_by e ≡ None
work_innermost ms n e after (stays none is p same next) = is
work_innermost ms n e after (numbers none is p same next) = is
work_innermost ms n e after (owns what due begun is p same next) = is
work_innermost ms n e after (enters none is p same next) = is

leave_innermost : {told : Option (Request Value)} (ms : List Master) (n : ℕ) (e : Event) (after : State) → Leave ms n told e after → LeavesInnermost e ms
leave_innermost ms n e after (waits none is p same next) = rw is tt
leave_innermost ms n e after (shortens gone is p same next) = rw is tt
leave_innermost ms n e after (gives m i none at_item is newest seen p same next) = rw is (is_innermost m i ms newest)
leave_innermost ms n e after (operates m i none at_item is newest seen p same next) = rw is (is_innermost m i ms newest)
leave_innermost ms n e after (left m rest none is was p same next) = rw (is, was) refl

deed_innermost : {types : List TypeDefinition} {told : Option (Request Value)} (s : State) (e : Event) (after : State) → Deed types s told e after → LeavesInnermost e s.masters
deed_innermost s e after (works w) = rw (work_innermost s.masters s.next e after w) tt
deed_innermost s e after (leaves l) = leave_innermost s.masters s.next e after l

-- A master has been left: its number was used, and it is not entered.
abbrev IsOver : ℕ → State → Type 0
IsOver m s = (m < s.next) × NotEntered m s.masters

work_over : {types : List TypeDefinition} {told : Option (Request Value)} (s : State) (e : Event) (after : State) (m : ℕ) → Work types s.masters s.next told e after → IsOver m s → IsOver m after
work_over s e after m (stays none is p ms n) o = (rw n o.0, rw ms o.1)
work_over s e after m (numbers none is p ms n) o = let lt = o.0 in (rw n (omega (arith, lt)), rw ms o.1)
work_over s e after m (owns what due begun is p ms n) o = (rw n o.0, rw ms (not_owning m _ s.masters o.1))
work_over s e after m (enters none is p ms n) o = let lt = o.0 in (rw n (omega (arith, lt)), rw ms ((λ same. omega (arith, lt, same)), o.1))

leave_over : {told : Option (Request Value)} (s : State) (e : Event) (after : State) (m : ℕ) → Leave s.masters s.next told e after → IsOver m s → IsOver m after
leave_over s e after m (waits none is p ms n) o = (rw n o.0, rw ms o.1)
leave_over s e after m (shortens gone is p ms n) o = (rw n o.0, rw ms (not_shorter m s.masters o.1))
leave_over s e after m (gives x i none at_item is newest seen p ms n) o = (rw n o.0, rw ms o.1)
leave_over s e after m (operates x i none at_item is newest seen p ms n) o = let lt = o.0 in (rw n (omega (arith, lt)), rw ms ((λ same. omega (arith, lt, same)), o.1))
leave_over s e after m (left x rest none is was p ms n) o = let away : NotEntered m (record { number = x; items = [] } ∷ rest) = rw was at o.1 in (rw n o.0, rw ms away.1)

deed_over : {types : List TypeDefinition} {told : Option (Request Value)} (s : State) (e : Event) (after : State) (m : ℕ) → Deed types s told e after → IsOver m s → IsOver m after
deed_over s e after m (works w) o = work_over s e after m w o
deed_over s e after m (leaves l) o = leave_over s e after m l o

-- A master that has just been left is over.
left_is_over : {types : List TypeDefinition} (s : State) (after : State) (m : ℕ) (rest : List Master) → Kept types s → s.masters ≡ record { number = m; items = [] } ∷ rest → after.masters ≡ rest → after.next ≡ s.next → IsOver m after
left_is_over s after m rest k was ms n =
    let below : Entered s.next (record { number = m; items = [] } ∷ rest) = rw was at k.entered in
    (rw n below.0, rw ms (not_above m rest below.1))

-- What an event of a leaving leaves behind: the master is over; or it is still being left, and no item of it is later than that of the event.
abbrev Past : Option AtItem → State → Type 0
Past None s = Unit {0}
Past (Some a) s = IsOver a.master s ⊎ Stands (Some a) s

leave_past :
    {types : List TypeDefinition} {told : Option (Request Value)} (s : State) (e : Event) (after : State) (a : AtItem) → Kept types s
    → LeaveOn (Some a) s.masters s.next told e after → Past (Some a) after
leave_past s e after a k (waits none is p ms n) = inr p
leave_past s e after a k (shortens gone is p ms n) = inr p
leave_past s e after a k (gives m i none at_item is newest seen p ms n) = inr p
leave_past s e after a k (operates m i none at_item is newest seen p ms n) = inr p
leave_past s e after a k (left m rest none is was (inl same) ms n) = inl (rw (← same) (left_is_over s after m rest k was ms n))
leave_past s e after a k (left m rest none is was (inr p) ms n) = inr p

work_past :
    {types : List TypeDefinition} {told : Option (Request Value)} (s : State) (e : Event) (after : State) (a : AtItem)
    → WorkOn (Some a) types s.masters s.next told e after → Past (Some a) after
work_past s e after a (stays none is p ms n) = inr p
work_past s e after a (numbers none is p ms n) = inr p
work_past s e after a (owns what due begun is p ms n) = inr p
work_past s e after a (enters none is p ms n) = inr p

deed_past :
    {types : List TypeDefinition} {told : Option (Request Value)} (s : State) (e : Event) (after : State) (a : AtItem) → Kept types s
    → DeedOn (Some a) types s told e after → Past (Some a) after
deed_past s e after a k (works w) = work_past s e after a w
deed_past s e after a k (leaves l) = leave_past s e after a k l

step_past :
    (program : Program) (s : State) (choice : Choice) (e : Event) (after : State) (a : Option AtItem) → Kept program.types.items s
    → Step program s choice e after → Past a s → Past a after
step_past program s choice e after None k step past = tt
step_past program s choice e after (Some a) k step (inl o) = inl (deed_over s e after a.master (step_does program s choice e after k step).1 o)
step_past program s choice e after (Some a) k step (inr stands) = deed_past s e after a k (step_deed_on (Some a) program s choice e after stands step).1

-- It is so directly after the event.
newest_is_latest : (m i : ℕ) (ms : List Master) → Newest m i ms → Counted (items_of ms) → IsLatest (record { master = m; item = i }) ms
newest_is_latest m i ms newest c = let counted = newest_counted m i ms newest c in (is_innermost m i ms newest, omega (arith, counted))

deed_born : {types : List TypeDefinition} {told : Option (Request Value)} (s : State) (e : Event) (after : State) → Kept types s → Deed types s told e after → Past (leaving_of e) after
deed_born s e after k (works w) = rw (tells_none e (work_innermost s.masters s.next e after w)) tt
deed_born {told = told} s e after k (leaves l) = go l
  where
    go : Leave s.masters s.next told e after → Past (leaving_of e) after
    go (waits none is p ms n) = rw (tells_none e is) tt
    go (shortens gone is p ms n) = rw (tells_none e is) tt
    go (gives m i none at_item is newest seen p ms n) = rw at_item (inr (seen (newest_is_latest m i s.masters newest k.counted)))
    go (operates m i none at_item is newest seen p ms n) = rw at_item (inr (seen (newest_is_latest m i s.masters newest k.counted)))
    go (left m rest none is was p ms n) = rw is tt

-- What goes at a leaving later goes no later item.
none_between : {X Y : Type 0} (R : X → Y → Type 0) (a : Option X) → Between R a None
none_between R None = tt
none_between R (Some x) = tt

no_rise : {types : List TypeDefinition} (s : State) (a : AtItem) (m i : ℕ) → Kept types s → Newest m i s.masters → Past (Some a) s → NeverRises a (record { master = m; item = i })
no_rise s a m i k newest (inl o) = λ same. absurd (not_innermost a.master m s.masters o.1 (is_innermost m i s.masters newest) same)
no_rise s a m i k newest (inr stands) = λ same.
    let counted = newest_counted m i s.masters newest k.counted in
    let le = stands_latest a s.next s stands k.entered (rw same (is_innermost m i s.masters newest)) in
    omega (arith, counted, le)

no_rises : {types : List TypeDefinition} (s : State) (a : Option AtItem) (m i : ℕ) → Kept types s → Newest m i s.masters → Past a s → Between NeverRises a (Some (record { master = m; item = i }))
no_rises s None m i k newest past = tt
no_rises s (Some a) m i k newest past = no_rise s a m i k newest past

deed_falls : {types : List TypeDefinition} {told : Option (Request Value)} (s : State) (e : Event) (after : State) (a : Option AtItem) → Kept types s → Deed types s told e after → Past a s → Between NeverRises a (leaving_of e)
deed_falls s e after a k (works w) past = rw (tells_none e (work_innermost s.masters s.next e after w)) (none_between NeverRises a)
deed_falls {told = told} s e after a k (leaves l) past = go l
  where
    go : Leave s.masters s.next told e after → Between NeverRises a (leaving_of e)
    go (waits none is p ms n) = rw (tells_none e is) (none_between NeverRises a)
    go (shortens gone is p ms n) = rw (tells_none e is) (none_between NeverRises a)
    go (gives m i none at_item is newest seen p ms n) = rw at_item (no_rises s a m i k newest past)
    go (operates m i none at_item is newest seen p ms n) = rw at_item (no_rises s a m i k newest past)
    go (left m rest none is was p ms n) = rw is (none_between NeverRises a)

-- What a master that has been left leaves behind.
abbrev Ended : Option ℕ → State → Type 0
Ended None s = Unit {0}
Ended (Some m) s = IsOver m s

ended_kept : {types : List TypeDefinition} {told : Option (Request Value)} (s : State) (e : Event) (after : State) (m : Option ℕ) → Deed types s told e after → Ended m s → Ended m after
ended_kept s e after None d over = tt
ended_kept s e after (Some m) d over = deed_over s e after m d over

-- Only an event that says so tells that a master has been left.
none_left : (e : Event) → left_by e ≡ None → left_of e ≡ None
none_left (Born v part turn type number by) is = refl
none_left (Finalized v part turn type number cause) is = refl
none_left (Back v access number pool subpool cause) is = refl
none_left (Followed v) is = refl
none_left (Left master) is = is
none_left (Line line) is = refl
none_left Quiet is = refl

leaving_is_not_left : (e : Event) (a : AtItem) → leaving_of e ≡ Some a → left_of e ≡ None
leaving_is_not_left (Born v part turn type number by) a is = refl
leaving_is_not_left (Finalized v part turn type number cause) a is = refl
leaving_is_not_left (Back v access number pool subpool cause) a is = refl
leaving_is_not_left (Followed v) a is = refl
leaving_is_not_left (Left master) a is = absurd (cc is)
leaving_is_not_left (Line line) a is = refl
leaving_is_not_left Quiet a is = refl

ended_born : {types : List TypeDefinition} {told : Option (Request Value)} (s : State) (e : Event) (after : State) → Kept types s → Deed types s told e after → Ended (left_of e) after
ended_born s e after k (works w) = rw (none_left e (work_innermost s.masters s.next e after w)) tt
ended_born {told = told} s e after k (leaves l) = go l
  where
    go : Leave s.masters s.next told e after → Ended (left_of e) after
    go (waits none is p ms n) = rw (none_left e is) tt
    go (shortens gone is p ms n) = rw (none_left e is) tt
    go (gives m i none at_item is newest seen p ms n) = rw (leaving_is_not_left e _ at_item) tt
    go (operates m i none at_item is newest seen p ms n) = rw (leaving_is_not_left e _ at_item) tt
    go (left m rest none is was p ms n) = rw is (left_is_over s after m rest k was ms n)

-- What is being left is another master.
ended_differs : (s : State) (m : Option ℕ) (n : Option ℕ) → Ended m s → IfSome n (λ x. IsInnermost x s.masters) → Differ m n
ended_differs s None n over is = tt
ended_differs s (Some m) None over is = tt
ended_differs s (Some m) (Some n) over is = not_innermost m n s.masters over.1 is

deed_differs : {types : List TypeDefinition} {told : Option (Request Value)} (s : State) (e : Event) (after : State) (m : Option ℕ) → Deed types s told e after → Ended m s → Differ m (left_by e)
deed_differs s e after m d over = ended_differs s m (left_by e) over (deed_innermost s e after d)

-- An event tells of a master that has been left, or at whose leaving something goes.
left_differs : (m : Option ℕ) (e : Event) → Differ m (left_by e) → Differ m (left_of e) × Differ m (master_in (leaving_of e))
left_differs m (Born v part turn type number by) d = (none_between _ m, d)
left_differs m (Finalized v part turn type number cause) d = (none_between _ m, d)
left_differs m (Back v access number pool subpool cause) d = (none_between _ m, d)
left_differs m (Followed v) d = (d, d)
left_differs m (Left master) d = (d, none_between _ m)
left_differs m (Line line) d = (d, d)
left_differs m Quiet d = (d, d)

-- Laws of two events: what the first leaves behind lasts, and the second keeps to it.
module _ {program : Program} (R : Event → Event → Type 0) (P : Event → State → Type 0)
    (born : (s : State) (choice : Choice) (e : Event) (after : State) → Kept program.types.items s → Step program s choice e after → P e after)
    (lasts :
    (d : Event) (s : State) (choice : Choice) (e : Event) (after : State) → Kept program.types.items s → Step program s choice e after → P d s
    → R d e × P d after)
  where
    all_after : {s last : State} {events : List Event} (d : Event) → Run program s events last → Kept program.types.items s → P d s → All (R d) events
    all_after d here k h = All-nil (R d)
    all_after {s = s} d (there {event = e} {events = es} choice mid step run) k h =
        let g = lasts d s choice e mid k step h in
        All-cons (R d) e es g.0 (all_after d run (step_keeps program s choice e mid k step) g.1)

    all_pairs : {s last : State} {events : List Event} → Run program s events last → Kept program.types.items s → AllPairs R events
    all_pairs here k = λ i j d lt short. absurd (omega (arith, short))
    all_pairs {s = s} (there {event = e} {events = es} choice mid step run) k =
        let kept = step_keeps program s choice e mid k step in
        AllPairs-cons R e es (all_after e run kept (born s choice e mid k step)) (all_pairs run kept)

-- At the leaving of a master, what was created later goes earlier.
pub in_reverse : (program : Program) (input : List ℤ) (events : List Event) (last : State) → Run program (first_state program input) events last → AllPairs InReverseOrder events
in_reverse program input events last run =
    all_pairs InReverseOrder (λ e s. Past (leaving_of e) s) (λ s choice e after k step. deed_born s e after k (step_does program s choice e after k step).1)
    (λ d s choice e after k step past.
    (deed_falls s e after (leaving_of d) k (step_does program s choice e after k step).1 past, step_past program s choice e after (leaving_of d) k step past))
    run (kept_first program input)

-- Only the innermost master is being left.
pub inner_first : (program : Program) (input : List ℤ) (events : List Event) (before after : State) (choice : Choice) (event : Event) → Run program (first_state program input) events before → Step program before choice event after → LeavesInnermost event before.masters
inner_first program input events before after choice event run step =
    deed_innermost before event after (step_does program before choice event after (run_keeps run (kept_first program input)) step).1

-- Numbers fall along items and masters, and the next number is above them.
pub items_fall : (program : Program) (input : List ℤ) (events : List Event) (last : State) → Run program (first_state program input) events last → AllPairs Falls (items_of last.masters)
items_fall program input events last run = counted_fall (items_of last.masters) (run_keeps run (kept_first program input)).counted

pub masters_fall : (program : Program) (input : List ℤ) (events : List Event) (last : State) → Run program (first_state program input) events last → AllPairs MastersFall last.masters
masters_fall program input events last run = entered_fall last.next last.masters (run_keeps run (kept_first program input)).entered

pub below_next : (program : Program) (input : List ℤ) (events : List Event) (last : State) → Run program (first_state program input) events last → All (IsBelow last.next) last.masters
below_next program input events last run = entered_below last.next last.masters (run_keeps run (kept_first program input)).entered

-- A master that has been left stays so, and what is left later is another one.
step_ends : (program : Program) (s : State) (choice : Choice) (e : Event) (after : State) → Kept program.types.items s → Step program s choice e after → Ended (left_of e) after
step_ends program s choice e after k step = ended_born s e after k (step_does program s choice e after k step).1

step_ended :
    (program : Program) (s : State) (choice : Choice) (e : Event) (after : State) (m : Option ℕ) → Kept program.types.items s → Step program s choice e after
    → Ended m s → Differ m (left_of e) × Differ m (master_in (leaving_of e)) × Ended m after
step_ended program s choice e after m k step over =
    let deed = (step_does program s choice e after k step).1 in
    let differ = left_differs m e (deed_differs s e after m deed over) in
    (differ.0, differ.1, ended_kept s e after m deed over)

-- A master is left once, and nothing goes at its leaving after.
pub left_once : (program : Program) (input : List ℤ) (events : List Event) (last : State) → Run program (first_state program input) events last → AllPairs LeftTwoMasters events
left_once program input events last run =
    all_pairs LeftTwoMasters (λ e s. Ended (left_of e) s) (step_ends program)
    (λ d s choice e after k step over. let ends = step_ended program s choice e after (left_of d) k step over in (ends.0, ends.2))
    run (kept_first program input)

pub nothing_after_left : (program : Program) (input : List ℤ) (events : List Event) (last : State) → Run program (first_state program input) events last → AllPairs GoesBeforeLeft events
nothing_after_left program input events last run =
    all_pairs GoesBeforeLeft (λ e s. Ended (left_of e) s) (step_ends program)
    (λ d s choice e after k step over. let ends = step_ended program s choice e after (left_of d) k step over in (ends.1, ends.2))
    run (kept_first program input)

-- Each open collection has its pool, and pools differ.
pub pools_last : (program : Program) (input : List ℤ) (events : List Event) (last : State) → Run program (first_state program input) events last → HaveTheirPools program.types.items (items_of last.masters)
pools_last program input events last run = (run_keeps run (kept_first program input)).pools.0

pub pools_are_taken : (program : Program) (input : List ℤ) (events : List Event) (last : State) → Run program (first_state program input) events last → TakeTheirPools program.types.items (items_of last.masters)
pools_are_taken program input events last run = (run_keeps run (kept_first program input)).pools.1

pub pools_differ : (program : Program) (input : List ℤ) (events : List Event) (last : State) → Run program (first_state program input) events last → AllPairs OwnTwoPools (items_of last.masters) × All IsDeclaredPool (items_of last.masters)
pools_differ program input events last run =
    let numbered = (run_keeps run (kept_first program input)).pools.2 in
    (all_differ (items_of last.masters) numbered, all_declared (items_of last.masters) numbered)

-- What is told of pools is so.
work_tells :
    (types : List TypeDefinition) (s : State) (told : Option (Request Value)) (e : Event) (after : State) → s.masters ≢ []
    → Work types s.masters s.next told e after → Tells (pools_there s) told (pools_there after)
work_tells types s told e after some (stays none is p ms n) = rw ms (none_told told _ _ none refl)
work_tells types s told e after some (numbers none is p ms n) = rw ms (none_told told _ _ none refl)
work_tells types s told e after some (owns what due begun is p ms n) = rw ms (tells_owning types (height s.masters) what s.masters told some due begun)
work_tells types s told e after some (enters none is p ms n) = rw ms (none_told told _ _ none refl)

leave_tells : (s : State) (told : Option (Request Value)) (e : Event) (after : State) → Leave s.masters s.next told e after → Tells (pools_there s) told (pools_there after)
leave_tells s told e after (waits none is p ms n) = rw ms (none_told told _ _ none refl)
leave_tells s told e after (shortens gone is p ms n) = rw ms (tells_shorter s.masters told gone)
leave_tells s told e after (gives m i none at_item is newest seen p ms n) = rw ms (none_told told _ _ none refl)
leave_tells s told e after (operates m i none at_item is newest seen p ms n) = rw ms (none_told told _ _ none refl)
leave_tells s told e after (left m rest none is was p ms n) = rw (ms, was) (none_told told _ _ none refl)

deed_tells :
    (types : List TypeDefinition) (s : State) (told : Option (Request Value)) (e : Event) (after : State) → s.masters ≢ []
    → Deed types s told e after → Tells (pools_there s) told (pools_there after)
deed_tells types s told e after some (works w) = work_tells types s told e after some w
deed_tells types s told e after some (leaves l) = leave_tells s told e after l

coming_tells : (types : List TypeDefinition) (s : State) (coming : Next) → s.masters ≢ [] → Does (Deed types s) coming → TellsPools (pools_there s) coming
coming_tells types s (halts halt) some d = tt
coming_tells types s (moves e after) some d = deed_tells types s None e after some d
coming_tells types s (tells request e after) some d = deed_tells types s (Some request) e after some d
coming_tells types s (asks request answered) some d = λ granted. deed_tells types s None Quiet (answered granted) some (d granted)
coming_tells types s (picks n taken) some d = λ i. deed_tells types s None Quiet (taken i) some (d i)

pub pools_are_told : (program : Program) (input : List ℤ) (events : List Event) (last : State) → Run program (first_state program input) events last → last.masters ≢ [] → TellsPools (pools_there last) (next program.types.items (body_forms program) last)
pools_are_told program input events last run some =
    coming_tells program.types.items last (next program.types.items (body_forms program) last) some
    (next_deed_on None program.types.items (body_forms program) last (run_keeps run (kept_first program input)).stands)
