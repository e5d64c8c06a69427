-- When the controlled parts of an object are treated, computed.

use Rattle.std.proofs.Common.{◌≡◌, ℕ, ◌<◌, Bool, true, false, ◌==◌, if◌then◌else◌, List, [], ◌∷◌, ◌++◌, length, Option, Some, None, refl, sym, ap, ◌∙◌, subst}
use Rattle.std.specs.List.{slice_get}
use Rattle.std.proofs.lemmas.Option.{get_or_from_slice_get, slice_get-map}
use Rattle.std.specs.Option.{option_map}
use Rattle.ada_program.specs.declared.program.TypeDefinition.{TypeDefinition}
use Rattle.ada_program.specs.Controlled.{shapes_of}
use Rattle.ada_program.specs.Form.{StmtsForm, HandlersForm, DeclarationForm, declares_record}
use Rattle.ada_program.specs.ProgramForm.{BodyForm, body_forms}
use Rattle.ada_program.specs.Typed.{reached_of, words_of}
use Rattle.ada_parts.specs.declared.tasks.Direction.TheVariants.{PartsFirst, WholeFirst}
use Rattle.ada_parts.specs.declared.tasks.Next.TheVariants.{Pick}
use Rattle.ada_parts.specs.Task.{Task, next as task_next}
use Rattle.ada_meaning.specs.declared.event.Birth.{Birth}
use Rattle.ada_meaning.specs.declared.event.Birth.TheVariants.{Creation, Copy}
use Rattle.ada_meaning.specs.declared.event.Cause.{Cause}
use Rattle.ada_meaning.specs.declared.event.Cause.TheVariants.{Leaving}
use Rattle.ada_meaning.specs.declared.event.Halt.TheVariants.{Stuck}
use Rattle.ada_meaning.specs.declared.state.Id.{Id}
use Rattle.ada_meaning.specs.declared.state.Mode.{Mode}
use Rattle.ada_meaning.specs.declared.state.Mode.TheVariants.{Running}
use Rattle.ada_meaning.specs.declared.state.Value.{Value}
use Rattle.ada_meaning.specs.declared.state.Value.TheVariants.{Null, Names}
use Rattle.ada_meaning.specs.Event.{Quiet}
use Rattle.ada_meaning.specs.Frame.{Treatment, Frame, begins, ends}
use Rattle.ada_meaning.specs.Frame as frame
use Rattle.ada_meaning.specs.Heap.{Cell, Found}
use Rattle.ada_meaning.specs.State.{Owned, declared, collection, record_object, storage_pool, type_housed, pool_housed, Item, Master, Destination, height, home_of}
use Rattle.ada_meaning.specs.Step.{halts, moves, picks, at, all_tasks, direction_of, picked_task, treating, treated_on, new_cell, granted, new_next, initial_values, newest_ones, without_newest, record_cell, made, taken_out, taken, members_next, item_leave_next}
use Rattle.ada_meaning.specs.Named.{Object, State, Next, named, next, new_object, object_at, look, members, members_of, on_object, parted}
use Rattle.ada_meaning.specs.Run.{Choice, Event, settled, grants, takes, Leads}
use Rattle.ada_meaning.specs.Operations.{OneChanges, Exists}
use Rattle.ada_meaning.specs.Treated.{Creates, by_allocator, by_declaration, by_copy, BeginsObject, ObjectsBegin, ComponentsArePicked, MembersAreFinalized, TreatmentsComeFirst}
use Rattle.ada_meaning.proofs.Operations.{look_exists, changes_alone}

module _ (types : List TypeDefinition) (bodies : List BodyForm) (access : ℕ) (s : State) (runs : s.mode ≡ Running) where
  -- What each creation makes of the state.
  granted_begins :
      (count words : ℕ) (home : Destination) (outer : List (Frame Value))
      → BeginsObject types access Creation outer s (granted named types access count words home (at outer s))
  granted_begins count words home outer = record {
    object = new_object (new_cell named types access count home (at outer s));
    heap = refl;
    type = refl;
    stage = refl;
    listed = refl;
    out = refl;
    parts = refl;
    control = refl;
    mode = runs;
  }

  made_begins :
      (by : Birth) (x : ℕ) (values : List Value) (behind : List (Frame Value)) (t : State) → t.heap ≡ s.heap → t.mode ≡ s.mode → t.control ≡ behind
      → BeginsObject types access by behind s (made named types x access by values t)
  made_begins by x values behind t same_heap same_mode same_control = record {
    object = new_object (record_cell named types access (height t.masters) values);
    heap = ap (λ (xs : List Object). xs ++ new_object (record_cell named types access (height t.masters) values) ∷ []) same_heap;
    type = refl;
    stage = refl;
    listed = refl;
    out = refl;
    parts = refl;
    control =
        ap (λ (xs : List Object). treating (Names (record { 0 = length xs })) (begins by []) (all_tasks types access PartsFirst) t.control) same_heap
        ∙ ap (λ (k : List (Frame Value)). treating (Names (record { 0 = length s.heap })) (begins by []) (all_tasks types access PartsFirst) k) same_control;
    mode = same_mode ∙ runs;
  }

  allocator_step :
      (count : ℕ) (outer : List (Frame Value)) → s.control ≡ frame.Creates access count ∷ outer
      → next types bodies s ≡ new_next named types access count (words_of types access) (home_of access s.masters) (at outer s)
  unfolding next
  allocator_step count outer is = rw (runs, is) refl

  declaration_step :
      (x : ℕ) (ds : List DeclarationForm) (fs : StmtsForm) (hs : HandlersForm) (outer : List (Frame Value))
      → s.control ≡ frame.Elaborates (declares_record x access None ∷ ds) fs hs ∷ outer
      → next types bodies s
      ≡ moves Quiet (made named types x access Creation (initial_values named (reached_of types access)) (at (frame.Elaborates ds fs hs ∷ outer) s))
  unfolding next
  declaration_step x ds fs hs outer is = rw (runs, is) refl

  copy_step :
      (x : ℕ) (outer : List (Frame Value)) → s.control ≡ frame.DeclaresRecord x access ∷ outer
      → next types bodies s
      ≡ moves Quiet (made named types x access Copy (newest_ones named (words_of types access) (at outer s)) (without_newest named (words_of types access) (at outer s)))
  unfolding next
  copy_step x outer is = rw (runs, is) refl

  -- Whatever comes so is an object that begins.
  abbrev Begins : Birth → List (Frame Value) → Event → State → Type 0
  Begins by left event after = (event ≡ Quiet) × BeginsObject types access by left s after

  moved_begins :
      (by : Birth) (left : List (Frame Value)) (known : State) (event : Event) (after : State) → BeginsObject types access by left s known
      → next types bodies s ≡ moves Quiet known → Leads (next types bodies s) settled event after → Begins by left event after
  moved_begins by left known event after does is leads =
      let so = subst (λ (coming : Next). Leads coming settled event after) is leads in
      (so.0, subst (BeginsObject types access by left s) (sym so.1) does)

  new_begins :
      (count : ℕ) (outer : List (Frame Value)) (home : Option Destination) (event : Event) (after : State)
      → Leads (new_next named types access count (words_of types access) home (at outer s)) (grants true) event after → Begins Creation outer event after
  new_begins count outer None event after leads = absurd leads
  new_begins count outer (Some home) event after leads =
      (leads.0, subst (BeginsObject types access Creation outer s) (sym leads.1) (granted_begins count (words_of types access) home outer))

  begins_so :
      {by : Birth} {control : List (Frame Value)} {choice : Choice} {left : List (Frame Value)} (event : Event) (after : State)
      → Creates access by control choice left → s.control ≡ control → Leads (next types bodies s) choice event after → Begins by left event after
  begins_so event after (by_allocator {count} {outer}) is leads =
      new_begins count outer (home_of access s.masters) event after
      (subst (λ (coming : Next). Leads coming (grants true) event after) (allocator_step count outer is) leads)
  begins_so event after (by_declaration {x} {ds} {fs} {hs} {outer}) is leads =
      let ready : State = at (frame.Elaborates ds fs hs ∷ outer) s in
      let values = initial_values named (reached_of types access) in
      moved_begins Creation (frame.Elaborates ds fs hs ∷ outer) (made named types x access Creation values ready) event after
      (made_begins Creation x values (frame.Elaborates ds fs hs ∷ outer) ready refl refl refl) (declaration_step x ds fs hs outer is) leads
  begins_so event after (by_copy {x} {outer}) is leads =
      let ready : State = without_newest named (words_of types access) (at outer s) in
      let values = newest_ones named (words_of types access) (at outer s) in
      moved_begins Copy outer (made named types x access Copy values ready) event after
      (made_begins Copy x values outer ready refl refl refl) (copy_step x outer is) leads

pub objects_begin : ObjectsBegin
objects_begin program access by choice left before after event runs creates step =
    begins_so program.types.items (body_forms program) access before runs event after creates refl step

-- A component is picked.
picks_step :
    (types : List TypeDefinition) (bodies : List BodyForm) (v : Value) (treatment : Treatment) (tasks : List Task) (count : ℕ) (outer : List (Frame Value))
    (s : State) → s.mode ≡ Running → s.control ≡ frame.Treats v treatment tasks ∷ outer → task_next tasks ≡ Pick count
    → next types bodies s
    ≡ (if count == 0
    then halts Stuck
    else picks count (λ i. treated_on named v treatment (picked_task (shapes_of types) (direction_of treatment) tasks i) (at outer s)))
unfolding next
picks_step types bodies v treatment tasks count outer s runs is comes = rw (runs, is, comes) refl

pub components_are_picked : ComponentsArePicked
components_are_picked program v treatment tasks count i outer before after event runs is comes step =
    go (count == 0)
    (subst (λ (coming : Next). Leads coming (takes i) event after)
    (picks_step program.types.items (body_forms program) v treatment tasks count outer before runs is comes) step)
  where
    taking : ℕ → State
    taking j = record before {
      control = treating v treatment (picked_task (shapes_of program.types.items) (direction_of treatment) tasks j) outer;
    }

    go : (none : Bool) → Leads (if none then halts Stuck else picks count taking) (takes i) event after → (i < count) × (event ≡ Quiet) × (after ≡ taking i)
    go true leads = absurd leads
    go false leads = leads

-- A member is taken.
module _ (types : List TypeDefinition) (s : State) (i : ℕ) (o : Id) (object : Object) (event : Event) (after : State)
    (there : object_at s.heap o ≡ Some object) (exists : Exists object) where
  abbrev ended : Cause → Option ℕ → State
  ended cause pool = record s {
    heap = on_object parted s.heap (Names o);
    control = treating (Names o) (ends cause) (all_tasks types object.cell.access WholeFirst) (frame.Ends (Names o) ∷ frame.GivesBack (Names o) cause pool ∷ s.control);
  }

  taken_so : (cause : Cause) (pool : Option ℕ) (vs : List Value) → slice_get vs i ≡ Some (Names o) → taken named types cause pool vs s i ≡ ended cause pool
  taken_so cause pool vs at_i =
      ap (λ (v : Value). taken_out named types cause pool v (look s.heap v) s) (get_or_from_slice_get vs i (Names o) Null at_i)
      ∙ ap (λ (found : Found (Cell Value)). taken_out named types cause pool (Names o) found s) (look_exists s.heap o object there exists)

  members_so :
      (cause : Cause) (pool : Option ℕ) (vs : List Value) → slice_get vs i ≡ Some (Names o)
      → Leads (members_next named types cause pool vs s) (takes i) event after → (event ≡ Quiet) × (after ≡ ended cause pool)
  members_so cause pool [] at_i leads = absurd (cc)
  members_so cause pool (v ∷ vs) at_i leads = (leads.1, leads.2 ∙ taken_so cause pool (v ∷ vs) at_i)

  named_so : (item : ℕ) → slice_get (members_of s.heap item) i ≡ Some o → slice_get (members s.heap item) i ≡ Some (Names o)
  named_so item at_i = slice_get-map Names (members_of s.heap item) i ∙ ap (option_map Names) at_i

  item_so :
      (m : ℕ) (item : Item) (owned : Owned) (access : ℕ) → type_housed owned ≡ Some access → slice_get (members_of s.heap item.number) i ≡ Some o
      → Leads (item_leave_next named types m item owned s) (takes i) event after
      → (event ≡ Quiet) × (after ≡ ended (Leaving m item.number) (pool_housed owned))
  item_so m item (declared x) access housed at_i leads = absurd leads
  item_so m item (collection t pool) access housed at_i leads =
      members_so (Leaving m item.number) pool (members s.heap item.number) (named_so item.number at_i) leads
  item_so m item (record_object t) access housed at_i leads =
      members_so (Leaving m item.number) None (members s.heap item.number) (named_so item.number at_i) leads
  item_so m item (storage_pool declaration number) access housed at_i leads = absurd leads

leaves_step :
    (types : List TypeDefinition) (bodies : List BodyForm) (mode : Mode) (m : ℕ) (item : Item) (items : List Item) (ms : List Master)
    (outer : List (Frame Value)) (s : State) → s.mode ≡ Running → s.control ≡ frame.Leaves mode ∷ outer
    → s.masters ≡ record { number = m; items = item ∷ items } ∷ ms
    → next types bodies s ≡ item_leave_next named types m item item.owned (at (frame.Leaves mode ∷ outer) s)
unfolding next
leaves_step types bodies mode m item items ms outer s runs is first = rw (runs, is, first) refl

pub members_are_finalized : MembersAreFinalized
members_are_finalized program mode m item items ms access i o object outer before after event runs is first housed at_i there exists step =
    let types = program.types.items in
    let ready : State = at (frame.Leaves mode ∷ outer) before in
    let so = item_so types ready i o object event after there exists m item item.owned access housed at_i
    (subst (λ (coming : Next). Leads coming (takes i) event after) (leaves_step types (body_forms program) mode m item items ms outer before runs is first) step) in
    let heap_so : on_object parted before.heap (Names o) ≡ after.heap = sym (ap (λ (t : State). t.heap) so.1) in (
      so.0,
      subst (λ (xs : List Object). OneChanges before.heap xs o (record object { listed = false })) heap_so (changes_alone parted before.heap o object there),
      so.1
          ∙ ap (λ (xs : List Object). record before {
            heap = xs;
            control = treating (Names o) (ends (Leaving m item.number)) (all_tasks types object.cell.access WholeFirst)
                (frame.Ends (Names o) ∷ frame.GivesBack (Names o) (Leaving m item.number) (pool_housed item.owned) ∷ frame.Leaves mode ∷ outer);
          }) heap_so,
    )

pub treatments_come_first : TreatmentsComeFirst
treatments_come_first v treatment task tasks behind = (refl, refl)
