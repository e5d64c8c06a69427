-- Each step at the leaving of a master, and so each step.

use Rattle.std.proofs.Common.{◌≡◌, ℕ, Bool, true, false, ◌==◌, if◌then◌else◌, List, [], ◌∷◌, Option, Some, None, refl, inr, subst}
use Rattle.ada_program.specs.declared.program.Program.{Program}
use Rattle.ada_program.specs.declared.program.TypeDefinition.{TypeDefinition}
use Rattle.std.specs.List.{slice_get, slice_index_or}
use Rattle.ada_program.specs.Controlled.{shapes_of, operations_of, procedure_number}
use Rattle.ada_program.specs.ProgramForm.{BodyForm, body_forms}
use Rattle.ada_parts.specs.declared.tasks.Direction.TheVariants.{WholeFirst}
use Rattle.ada_parts.specs.declared.tasks.Next.{Next as Follows}
use Rattle.ada_parts.specs.declared.tasks.Next.TheVariants.{Done, Pick, Perform}
use Rattle.ada_parts.specs.Task.{Task, performed, next as task_next}
use Rattle.ada_meaning.specs.declared.state.Value.{Value}
use Rattle.ada_meaning.specs.declared.state.Value.TheVariants.{Null}
use Rattle.ada_meaning.specs.declared.state.Mode.{Mode}
use Rattle.ada_meaning.specs.declared.state.Mode.TheVariants.{Running, Raising, Exiting, Returning}
use Rattle.ada_meaning.specs.declared.event.Cause.TheVariants.{Leaving}
use Rattle.ada_meaning.specs.declared.event.Halt.TheVariants.{Erroneous, Stuck}
use Rattle.ada_meaning.specs.declared.event.Why.TheVariants.{GivesElsewhere, FinalizesTwice}
use Rattle.ada_meaning.specs.Event.{Finalized, Quiet, Request}
use Rattle.ada_meaning.specs.Frame.{ends, Leaves, Treats, Confines, Ends, GivesBack}
use Rattle.ada_meaning.specs.Heap.{PartState, Cell, Found, on_null, on_gone, on_other, finds}
use Rattle.ada_meaning.specs.State.{Owned, declared, collection, record_object, storage_pool, Item, Master}
use Rattle.ada_meaning.specs.Step.{older, picked_task, all_tasks, treating, treated_on, operation_next, part_reference, ended_next, finalized_next, performed_next, treats_next, taken_out, picks, halts, end_next, same_pool, told_back, given_back, back_next, members_next, item_leave_next, master_leave_next, leave_next, running_next, jump_next, mode_next}
use Rattle.ada_meaning.specs.Named.{finalize, Object, State, Next, look, lent, members, named, next}
use Rattle.ada_meaning.specs.Run.{Event, Choice, Step}
use Rattle.ada_meaning.specs.Law.{AtItem, leaving_of, left_by}
use Rattle.ada_order.proofs.Numbers.{Newest}
use Rattle.ada_order.proofs.Pools.{IsGone}
use Rattle.ada_order.proofs.Controls.{Control, LeavesOne, Plain, Going, Stands, plainly, leaving, treating_goes, leaves_shorter, left_remains, going_seen, WorkOn, LeaveOn, waits, shortens, gives, operates, left, DeedOn, Deed, works, leaves, Does, does_map, led}
use Rattle.ada_order.proofs.Works.{IsJump, frame_works, jump_works}

-- A running state with this left to do.
abbrev running : Control → State → State
running k s = record s { control = k; mode = Running }

module _ (seen : Option AtItem) where
  -- A step at the leaving of a master.
  abbrev LeavesBy : State → Next → Type 0
  LeavesBy s coming = Does (LeaveOn seen s.masters s.next) coming

  -- The leaving of a master.
  module _ (types : List TypeDefinition) (mode : Mode) (k : Control) (s : State) (m : ℕ) (ms : List Master) where
    -- the state with these items of the master left
    left_with : List Item → Control → State
    left_with items control = record s { masters = record { number = m; items = items } ∷ ms; control = control; mode = Running }

    -- what is left behind the leaving
    abbrev Behind : List Item → Type 0
    Behind items = LeavesOne seen (record { number = m; items = items } ∷ ms) (Plain seen k ms)

    taken_leaves :
        (item : Item) (items : List Item) (pool : Option ℕ) (v : Value) (found : Found (Cell Value)) → Behind (item ∷ items)
        → LeaveOn seen (record { number = m; items = item ∷ items } ∷ ms) s.next None Quiet
        (taken_out named types (Leaving m item.number) pool v found (left_with (item ∷ items) (Leaves mode ∷ k)))
    unfolding left_with
    taken_leaves item items pool v on_null b = waits tt refl (leaving refl (tt, ((refl, refl), b))) refl refl
    taken_leaves item items pool v on_gone b = waits tt refl (leaving refl (tt, ((refl, refl), b))) refl refl
    taken_leaves item items pool v on_other b = waits tt refl (leaving refl (tt, ((refl, refl), b))) refl refl
    taken_leaves item items pool v (finds cell) b =
        let goes = treating_goes seen v m item.number (all_tasks types cell.access WholeFirst) _ (record { number = m; items = item ∷ items } ∷ ms) (refl, refl) (tt, ((refl, refl), b)) in
        waits tt refl (leaving refl goes) refl refl

    members_leave :
        (item : Item) (items : List Item) (pool : Option ℕ) (vs : List Value) → IsGone item.owned None → Behind (item ∷ items)
        → LeavesBy (left_with (item ∷ items) k) (members_next named types (Leaving m item.number) pool vs (left_with (item ∷ items) (Leaves mode ∷ k)))
    unfolding left_with
    members_leave item items pool [] gone b = shortens gone refl (leaving refl (leaves_shorter seen m item items ms _ b)) refl refl
    members_leave item items pool (v ∷ vs) gone b =
        λ i. taken_leaves item items pool (slice_index_or (v ∷ vs) i Null) (look s.heap (slice_index_or (v ∷ vs) i Null)) b

    item_leaves :
        (item : Item) (items : List Item) (what : Owned) → item.owned ≡ what → Behind (item ∷ items)
        → LeavesBy (left_with (item ∷ items) k) (item_leave_next named types m item what (left_with (item ∷ items) (Leaves mode ∷ k)))
    unfolding left_with
    item_leaves item items (declared x) is b = shortens (rw is tt) refl (leaving refl (leaves_shorter seen m item items ms _ b)) refl refl
    item_leaves item items (collection access pool) is b = members_leave item items pool (members s.heap item.number) (rw is tt) b
    item_leaves item items (record_object t) is b = members_leave item items None (members s.heap item.number) (rw is tt) b
    item_leaves item items (storage_pool declaration number) is b =
        shortens (rw is refl) refl (leaving refl (leaves_shorter seen m item items ms _ b)) refl refl

    master_leaves : (items : List Item) → Behind items → LeavesBy (left_with items k) (master_leave_next named types mode m items (left_with items k))
    unfolding left_with
    master_leaves [] b = left m ms tt refl refl (left_remains seen m [] ms _ b) refl refl
    master_leaves (item ∷ items) b = item_leaves item items item.owned refl b

  leave_leaves :
      (types : List TypeDefinition) (mode : Mode) (k : Control) (ms : List Master) (s : State) → LeavesOne seen ms (Plain seen k (older ms))
      → LeavesBy (record s { masters = ms }) (leave_next named types mode ms (running k (record s { masters = ms })))
  unfolding left_with
  leave_leaves types mode k [] s b = tt
  leave_leaves types mode k (m ∷ ms) s b = master_leaves types mode k s m.number ms m.items b

  -- An object of the newest item ends, and its words go back.
  end_leaves :
      (v : Value) (found : Found (Cell Value)) (k : Control) (s : State) → Going seen k s.masters → LeavesBy s (end_next named v found (running k s))
  end_leaves v on_null k s g = tt
  end_leaves v on_gone k s g = tt
  end_leaves v on_other k s g = tt
  end_leaves v (finds cell) k s g = waits tt refl (leaving refl g) refl refl

  module _ (v : Value) (m i : ℕ) (k : Control) (s : State) (newest : Newest m i s.masters) (g : Going seen k s.masters) where
    told_leaves :
        (own : Option ℕ) (e : Event) (h : List Object) → leaving_of e ≡ Some (record { master = m; item = i }) → left_by e ≡ Some m
        → LeavesBy s (told_back named own v e (running k (record s { heap = h })))
    told_leaves None e h at_item tells =
        gives m i tt at_item tells newest (λ latest. leaving refl (going_seen seen _ k s.masters latest g)) (leaving refl g) refl refl
    told_leaves (Some own) e h at_item tells =
        gives m i tt at_item tells newest (λ latest. leaving refl (going_seen seen _ k s.masters latest g)) (leaving refl g) refl refl

    given_leaves : (fits : Bool) (cell : Cell Value) → LeavesBy s (if fits then given_back named v (Leaving m i) cell (running k s) else halts (Erroneous GivesElsewhere))
    given_leaves true cell = told_leaves cell.home.pool _ _ refl refl
    given_leaves false cell = tt

    back_leaves : (pool : Option ℕ) (found : Found (Cell Value)) → LeavesBy s (back_next named v (Leaving m i) pool found (running k s))
    back_leaves pool on_null = tt
    back_leaves pool on_gone = tt
    back_leaves pool on_other = tt
    back_leaves pool (finds cell) = given_leaves (same_pool pool cell.home.pool) cell

    -- A part of an object of the newest item is finalized before: where its type overrides Finalize, by a body.
    operation_leaves :
        (procedure : ℕ) (b : Option BodyForm) (reference : Value) (rest : List Task) (e : Event) (h : List Object)
        → leaving_of e ≡ Some (record { master = m; item = i }) → left_by e ≡ Some m
        → LeavesBy s (operation_next named procedure b reference (Confines ∷ treating v (ends (Leaving m i)) rest k) e (running k (record s { heap = h })))
    operation_leaves procedure None reference rest e h at_item tells = tt
    operation_leaves procedure (Some b) reference rest e h at_item tells =
        let goes = treating_goes seen v m i rest k s.masters newest g in
        operates m i tt at_item tells newest (λ latest. plainly (tt, (tt, (tt, inr (going_seen seen _ _ s.masters latest goes)))))
        (plainly (tt, (tt, (tt, inr goes)))) refl refl

    ended_leaves :
        (bodies : List BodyForm) (part : ℕ) (state : PartState) (rest : List Task) (operation : Option ℕ) (e : Event) (h : List Object)
        → leaving_of e ≡ Some (record { master = m; item = i }) → left_by e ≡ Some m
        → LeavesBy s (ended_next named bodies v part state (treating v (ends (Leaving m i)) rest k) operation e (running k (record s { heap = h })))
    ended_leaves bodies part state rest None e h at_item tells =
        let goes = treating_goes seen v m i rest k s.masters newest g in
        gives m i tt at_item tells newest (λ latest. leaving refl (going_seen seen _ _ s.masters latest goes)) (leaving refl goes) refl refl
    ended_leaves bodies part state rest (Some procedure) e h at_item tells =
        operation_leaves procedure (slice_get bodies procedure) (part_reference named v part state) rest e h at_item tells

    finalized_leaves :
        (bodies : List BodyForm) (of part : ℕ) (rest : List Task) (operation : Option ℕ) (state : Option PartState)
        → LeavesBy s (finalized_next named bodies v (Leaving m i) of part rest operation state (running k s))
    finalized_leaves bodies of part rest operation None = tt
    finalized_leaves bodies of part rest operation (Some state) = by_life state.alive
      where
        behind : Control
        behind = treating v (ends (Leaving m i)) rest k

        event : Event
        event = Finalized v part state.turn of state.number (Leaving m i)

        by_life :
            (alive : Bool)
            → LeavesBy s
            (if alive then ended_next named bodies v part state behind operation event (running k (record s { heap = finalize s.heap v part }))
            else halts (Erroneous FinalizesTwice))
        by_life true = ended_leaves bodies part state rest operation event (finalize s.heap v part) refl refl
        by_life false = tt

    performed_leaves :
        (types : List TypeDefinition) (bodies : List BodyForm) (of part : ℕ) (rest : List Task) (found : Found (Cell Value))
        → LeavesBy s (performed_next named types bodies v (ends (Leaving m i)) of part rest found (running k s))
    performed_leaves types bodies of part rest on_null = tt
    performed_leaves types bodies of part rest on_gone = tt
    performed_leaves types bodies of part rest on_other = tt
    performed_leaves types bodies of part rest (finds cell) =
        finalized_leaves bodies of part rest (procedure_number (operations_of types of).finalize) (slice_get cell.parts part)

    picked_leaves :
        (none : Bool) (count : ℕ) (rest : ℕ → List Task)
        → LeavesBy s (if none then halts Stuck else picks count (λ j. treated_on named v (ends (Leaving m i)) (rest j) (running k s)))
    picked_leaves true count rest = tt
    picked_leaves false count rest = λ j. waits tt refl (leaving refl (treating_goes seen v m i (rest j) k s.masters newest g)) refl refl

    treats_leave :
        (types : List TypeDefinition) (bodies : List BodyForm) (tasks : List Task) (follows : Follows)
        → LeavesBy s (treats_next named types bodies v (ends (Leaving m i)) tasks follows (running k s))
    treats_leave types bodies tasks Done = waits tt refl (leaving refl g) refl refl
    treats_leave types bodies tasks (Pick count) = picked_leaves (count == 0) count (λ j. picked_task (shapes_of types) WholeFirst tasks j)
    treats_leave types bodies tasks (Perform of part) = performed_leaves types bodies of part (performed tasks) (look s.heap v)

  -- Each frame at which a master is being left.
  going_leaves :
      (types : List TypeDefinition) (bodies : List BodyForm) (k : Control) (s : State) → Going seen k s.masters
      → LeavesBy s (running_next named types bodies k (running k s))
  going_leaves types bodies [] s g = absurd g
  going_leaves types bodies (Leaves mode ∷ k) s g = leave_leaves types mode k s.masters s g
  going_leaves types bodies (GivesBack v (Leaving m i) pool ∷ k) s g = back_leaves v m i k s g.0 g.1 pool (lent s.heap v)
  going_leaves types bodies (Treats v (ends (Leaving m i)) tasks ∷ k) s g = treats_leave v m i k s g.0 g.1 types bodies tasks (task_next tasks)
  going_leaves types bodies (Ends v ∷ k) s g = end_leaves v (look s.heap v) k s g.1
  going_leaves types bodies (f ∷ k) s g = absurd g

  -- Either kind of step, from a state that is known.
  abbrev pub DoesDeed : List TypeDefinition → State → Next → Type 0
  DoesDeed types s coming = Does (DeedOn seen types s) coming

  leaving_deed : (types : List TypeDefinition) (s : State) (coming : Next) → LeavesBy s coming → DoesDeed types s coming
  leaving_deed types s coming d = does_map (LeaveOn seen s.masters s.next) (DeedOn seen types s) (λ told e after l. leaves l) coming d

  working_deed : (types : List TypeDefinition) (s : State) (coming : Next) → Does (WorkOn seen types s.masters s.next) coming → DoesDeed types s coming
  working_deed types s coming d = does_map (WorkOn seen types s.masters s.next) (DeedOn seen types s) (λ told e after w. works w) coming d

  running_deed :
      (types : List TypeDefinition) (bodies : List BodyForm) (k : Control) (s : State) → Plain seen k s.masters
      → DoesDeed types (running k s) (running_next named types bodies k (running k s))
  running_deed types bodies [] s p = tt
  running_deed types bodies (f ∷ k) s p = working_deed types (running (f ∷ k) s) _ (frame_works seen types bodies f (running k s) refl p)

  jump_deed :
      (types : List TypeDefinition) (mode : Mode) (k : Control) (s : State) → IsJump mode → Stands seen (record s { control = k; mode = mode })
      → DoesDeed types (record s { control = k; mode = mode }) (jump_next named mode k (record s { control = k; mode = mode }))
  jump_deed types mode k s jump (plainly p) =
      working_deed types (record s { control = k; mode = mode }) _ (jump_works seen types mode k (record s { control = k; mode = mode }) jump p)
  jump_deed types mode k s jump (leaving runs g) = absurd (subst IsJump runs jump)

  mode_deed :
      (types : List TypeDefinition) (bodies : List BodyForm) (mode : Mode) (k : Control) (s : State) → Stands seen (record s { control = k; mode = mode })
      → DoesDeed types (record s { control = k; mode = mode }) (mode_next named types bodies mode (record s { control = k; mode = mode }))
  mode_deed types bodies Running k s (plainly p) = running_deed types bodies k s p
  mode_deed types bodies Running k s (leaving runs g) = leaving_deed types (running k s) _ (going_leaves types bodies k s g)
  mode_deed types bodies (Raising x) k s stands = jump_deed types (Raising x) k s tt stands
  mode_deed types bodies Exiting k s stands = jump_deed types Exiting k s tt stands
  mode_deed types bodies Returning k s stands = jump_deed types Returning k s tt stands

  pub next_deed_on : (types : List TypeDefinition) (bodies : List BodyForm) (s : State) → Stands seen s → DoesDeed types s (next types bodies s)
  unfolding next
  next_deed_on types bodies s stands = mode_deed types bodies s.mode s.control s stands

  -- What each step does.
  pub step_deed_on :
      (program : Program) (s : State) (choice : Choice) (e : Event) (after : State) → Stands seen s → Step program s choice e after
      → (told : Option (Request Value)) × DeedOn seen program.types.items s told e after
  step_deed_on program s choice e after stands step =
      led (DeedOn seen program.types.items s) (next program.types.items (body_forms program) s) choice e after
      (next_deed_on program.types.items (body_forms program) s stands) step

-- The same, where nothing was seen before.
pub step_deed :
    (program : Program) (s : State) (choice : Choice) (e : Event) (after : State) → Stands None s → Step program s choice e after
    → (told : Option (Request Value)) × Deed program.types.items s told e after
step_deed = step_deed_on None
