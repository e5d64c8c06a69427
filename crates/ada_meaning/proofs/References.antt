-- Records and components that are given by reference, what a formal parameter shares with its record, and what is stored in a component.

use Rattle.std.proofs.Common.{◌≡◌, ◌≢◌, ◌⊎◌, inl, inr, ℕ, zero, suc, ◌+◌, List, [], ◌∷◌, Option, Some, None, refl, sym, ap, ◌∙◌, subst, false}
use Rattle.std.specs.List.{slice_get, slice_set, slice_index_or}
use Rattle.std.proofs.lemmas.Option.{get_or_from_slice_get}
use Rattle.ada_program.specs.declared.program.TypeDefinition.{TypeDefinition}
use Rattle.ada_program.specs.Form.{PathForm, RecordPathForm, reads, ItemForm, item_of_record, assigns, assigns_record, frees, gets, RightForm, StmtsForm, a_stmt}
use Rattle.ada_program.specs.ProgramForm.{BodyForm, body_forms}
use Rattle.ada_program.specs.Typed.{width_of}
use Rattle.ada_meaning.specs.declared.state.Id.{Id}
use Rattle.ada_meaning.specs.declared.state.Place.{Place}
use Rattle.ada_meaning.specs.declared.state.Mode.TheVariants.{Running}
use Rattle.ada_meaning.specs.declared.state.Stage.{Stage}
use Rattle.ada_meaning.specs.declared.state.Stage.TheVariants.{Building, Existing, Gone}
use Rattle.ada_meaning.specs.declared.state.Value.{Value}
use Rattle.ada_meaning.specs.declared.state.Value.TheVariants.{Null, Names, Part}
use Rattle.ada_meaning.specs.Event.{Quiet}
use Rattle.ada_meaning.specs.Frame.{Frame}
use Rattle.ada_meaning.specs.Frame as frame
use Rattle.ada_meaning.specs.State.{Activation}
use Rattle.ada_meaning.specs.Heap.{Cell, Found, on_gone, finds}
use Rattle.ada_meaning.specs.Step.{moves, at, computed, record_in, component_next, follow_next, path_next, selected, referred_next, refers_next, opened_next, opens_next, stored_next, store_next, has_parts, place_in}
use Rattle.ada_meaning.specs.Named.{Object, State, Next, named, next, whole, inside, look, seen, existing, object_at, changed, filled, store}
use Rattle.ada_meaning.specs.Run.{Event, settled, Leads}
use Rattle.ada_meaning.specs.Records.{component_in, component_at}
use Rattle.ada_meaning.specs.References.{RecordsAreReferredTo, ComponentsAreOpened, ParametersShareRecords, PathsGoOnThere, ComponentsAreFoundThere, RecordsBeginThere, StoresAreKept}
use Rattle.ada_meaning.proofs.Records.{get_set, get_other, within}

-- A step that fails where an object is gone finds the object.
module _ (goes : Found (Cell Value) → Next) (event : Event) (after : State) (fails : Leads (goes on_gone) settled event after → ⊥) where
  stage_leads :
      (object : Object) (stage : Stage) → Leads (goes (existing object stage)) settled event after
      → Leads (goes (finds object.cell)) settled event after
  stage_leads object Building leads = leads
  stage_leads object Existing leads = leads
  stage_leads object Gone leads = absurd (fails leads)

  found_leads :
      (at_o : Option Object) → Leads (goes (seen at_o)) settled event after
      → (object : Object) × (at_o ≡ Some object) × Leads (goes (finds object.cell)) settled event after
  found_leads None leads = absurd (fails leads)
  found_leads (Some object) leads = (object, refl, stage_leads object object.stage leads)

-- What each step makes of the object that it has found.
module _ (o : Id) (s after : State) (event : Event) where
  referred_leads :
      (place : Place) (found : Option (List Value)) → Leads (referred_next named (Names o) place found s) settled event after
      → after ≡ computed (Part o place) s
  referred_leads place None leads = absurd leads
  referred_leads place (Some vs) leads = leads.1

  opened_leads :
      (c : ℕ) (found : Option Value) → Leads (opened_next named (Names o) c found s) settled event after
      → (v : Value) × (found ≡ Some v) × (after ≡ computed v (computed (Part o (record { component = c; part = 0 })) s))
  opened_leads c None leads = absurd leads
  opened_leads c (Some v) leads = (v, refl, leads.1)

  read_leads :
      (found : Option Value) → Leads (component_next named (Names o) [] found s) settled event after
      → (v : Value) × (found ≡ Some v) × (after ≡ computed v s)
  read_leads None leads = absurd leads
  read_leads (Some v) leads = (v, refl, leads.1)

  followed_leads :
      (d : ℕ) (cs : List ℕ) (found : Option Value) → Leads (component_next named (Names o) (d ∷ cs) found s) settled event after
      → (v : Value) × (found ≡ Some v) × (after ≡ at (frame.Follows (d ∷ cs) ∷ s.control) (computed v s))
  followed_leads d cs None leads = absurd leads
  followed_leads d cs (Some v) leads = (v, refl, leads.1)

  stored_leads :
      (c : ℕ) (v : Value) (found : Option Value) → Leads (stored_next named (Names o) c v found s) settled event after
      → (held : Value) × (found ≡ Some held) × (after ≡ record s { heap = store s.heap (Names o) c v })
  stored_leads c v None leads = absurd leads
  stored_leads c v (Some held) leads = (held, refl, leads.1)

module _ (types : List TypeDefinition) (bodies : List BodyForm) (outer : List (Frame Value)) (procedure : Option ℕ) (places pending : List Value)
    (suspended : List (Activation Value)) where
  -- The activations, where these are the operands of the running one.
  abbrev holding : List Value → List (Activation Value)
  holding vs = record { procedure = procedure; places = places; operands = vs } ∷ suspended

  -- The state once the frame and its operand are taken off.
  abbrev ready : State → State
  ready s = record s { control = outer; activations = holding pending }

  refer_step :
      (place : Place) (t : ℕ) (o : Id) (s : State) → s.mode ≡ Running → s.control ≡ frame.RefersIn place t ∷ outer → s.activations ≡ holding (Names o ∷ pending)
      → next types bodies s ≡ refers_next named (Names o) place (width_of types t) (look s.heap (Names o)) (ready s)
  unfolding next
  refer_step place t o s runs is active = rw (runs, is, active) refl

  open_step :
      (c : ℕ) (o : Id) (s : State) → s.mode ≡ Running → s.control ≡ frame.OpensIn c ∷ outer → s.activations ≡ holding (Names o ∷ pending)
      → next types bodies s ≡ opens_next named (Names o) c (look s.heap (Names o)) (ready s)
  unfolding next
  open_step c o s runs is active = rw (runs, is, active) refl

  store_step :
      (c : ℕ) (o : Id) (v : Value) (s : State) → s.mode ≡ Running → s.control ≡ frame.StoresIn (Names o) c ∷ outer → s.activations ≡ holding (v ∷ pending)
      → next types bodies s ≡ store_next named (Names o) c v (look s.heap (Names o)) (ready s)
  unfolding next
  store_step c o v s runs is active = rw (runs, is, active) refl

  -- A path of one component, behind a variable that refers to a record.
  module _ (path : PathForm) (c : ℕ) (base : Place) (o : Id) (s : State) (one : path.selectors ≡ c ∷ [])
      (refers : slice_index_or places path.root Null ≡ Part o base) where
    -- It is read in what the variable stands for.
    abbrev reading_of : Value → Next
    reading_of v = path_next named (selected named v (c ∷ [])) (whole v) (ready s)

    held_step :
        s.mode ≡ Running → s.control ≡ frame.Computes (reads path) ∷ outer → s.activations ≡ holding pending
        → next types bodies s ≡ reading_of (slice_index_or places path.root Null)
    unfolding next
    held_step runs is active = rw (runs, is, active, one) refl

    read_step :
        s.mode ≡ Running → s.control ≡ frame.Computes (reads path) ∷ outer → s.activations ≡ holding pending
        → next types bodies s ≡ follow_next named (Names o) (base.component + c) [] (look s.heap (Names o)) (ready s)
    read_step runs is active = held_step runs is active ∙ ap reading_of refers

    -- And an assignment goes there.
    abbrev targeting : RightForm → StmtsForm → Value → State
    targeting right later v = record s {
      control = frame.Targets (inside v c) right ∷ frame.Does later ∷ outer;
      activations = holding (whole v ∷ pending);
    }

    target_step :
        (right : RightForm) (later : StmtsForm) → s.mode ≡ Running → s.control ≡ frame.Does (a_stmt (assigns path right) later) ∷ outer
        → s.activations ≡ holding pending → next types bodies s ≡ moves Quiet (targeting right later (slice_index_or places path.root Null))
    unfolding next
    target_step right later runs is active = rw (runs, is, active, one) refl

    assign_step :
        (right : RightForm) (later : StmtsForm) → s.mode ≡ Running → s.control ≡ frame.Does (a_stmt (assigns path right) later) ∷ outer
        → s.activations ≡ holding pending → next types bodies s ≡ moves Quiet (targeting right later (Part o base))
    assign_step right later runs is active = target_step right later runs is active ∙ ap (λ (v : Value). moves Quiet (targeting right later v)) refers

    -- So a component is found that is given, freed or read from the input.
    abbrev found_at : (ℕ → Frame Value) → List (Frame Value) → Value → State
    found_at frame_of k v = record s { control = frame_of (inside v c) ∷ k; activations = holding (whole v ∷ pending) }

    held_open :
        s.mode ≡ Running → s.control ≡ frame.Opens path ∷ outer → s.activations ≡ holding pending
        → next types bodies s ≡ moves Quiet (found_at frame.OpensIn outer (slice_index_or places path.root Null))
    unfolding next
    held_open runs is active = rw (runs, is, active, one) refl

    held_free :
        (access : ℕ) (later : StmtsForm) → s.mode ≡ Running → s.control ≡ frame.Does (a_stmt (frees access path) later) ∷ outer
        → s.activations ≡ holding pending → next types bodies s ≡ moves Quiet (found_at
        (λ last. frame.FreesIn access last) (frame.Does later ∷ outer) (slice_index_or places path.root Null))
    unfolding next
    held_free access later runs is active = rw (runs, is, active, one) refl

    held_get :
        (later : StmtsForm) → s.mode ≡ Running → s.control ≡ frame.Does (a_stmt (gets path) later) ∷ outer → s.activations ≡ holding pending
        → next types bodies s ≡ moves Quiet (found_at frame.Receives (frame.Does later ∷ outer) (slice_index_or places path.root Null))
    unfolding next
    held_get later runs is active = rw (runs, is, active, one) refl

    found_there :
        (frame_of : ℕ → Frame Value) (k : List (Frame Value)) → next types bodies s ≡ moves Quiet (found_at frame_of k (slice_index_or places path.root Null))
        → next types bodies s ≡ moves Quiet (found_at frame_of k (Part o base))
    found_there frame_of k is = is ∙ ap (λ (v : Value). moves Quiet (found_at frame_of k v)) refers

  -- A path that is longer is followed from there, as it is written.
  module _ (path : PathForm) (c d : ℕ) (base : Place) (cs : List ℕ) (o : Id) (s : State) (long : path.selectors ≡ c ∷ d ∷ cs)
      (refers : slice_index_or places path.root Null ≡ Part o base) where
    abbrev following_of : Value → Next
    following_of v = path_next named (selected named v (c ∷ d ∷ cs)) (whole v) (ready s)

    held_follow :
        s.mode ≡ Running → s.control ≡ frame.Computes (reads path) ∷ outer → s.activations ≡ holding pending
        → next types bodies s ≡ following_of (slice_index_or places path.root Null)
    unfolding next
    held_follow runs is active = rw (runs, is, active, long) refl

    follow_step :
        s.mode ≡ Running → s.control ≡ frame.Computes (reads path) ∷ outer → s.activations ≡ holding pending
        → next types bodies s ≡ follow_next named (Names o) (base.component + c) (d ∷ cs) (look s.heap (Names o)) (ready s)
    follow_step runs is active = held_follow runs is active ∙ ap following_of refers

  -- The variable alone stands for the record that it refers to.
  module _ (p : RecordPathForm) (base : Place) (o : Id) (s : State) (alone : p.object.selectors ≡ [])
      (refers : slice_index_or places p.object.root Null ≡ Part o base) where
    -- Its object is found, and then comes a frame for where the record begins there.
    abbrev beginning_at : (Place → Frame Value) → List (Frame Value) → Value → State
    beginning_at frame_of k v = record s { control = frame_of (place_in named v [] p) ∷ k; activations = holding (whole v ∷ pending) }

    held_refer :
        s.mode ≡ Running → s.control ≡ frame.Refers p ∷ outer → s.activations ≡ holding pending → next types bodies s ≡ moves Quiet (beginning_at
        (λ place. frame.RefersIn place p.record_type) outer (slice_index_or places p.object.root Null))
    unfolding next
    held_refer runs is active = rw (runs, is, active, alone) refl

    held_copy :
        (items : List ItemForm) → s.mode ≡ Running → s.control ≡ frame.Fills (item_of_record p ∷ items) ∷ outer → s.activations ≡ holding pending
        → next types bodies s ≡ moves Quiet (beginning_at
        (λ place. frame.Copies place.component p.record_type) (frame.Fills items ∷ outer) (slice_index_or places p.object.root Null))
    unfolding next
    held_copy items runs is active = rw (runs, is, active, alone) refl

    held_target :
        (items : List ItemForm) (later : StmtsForm) → has_parts types p.record_type ≡ false → s.mode ≡ Running → s.control ≡ frame.Does (a_stmt (assigns_record p items) later) ∷ outer
        → s.activations ≡ holding pending → next types bodies s ≡ moves Quiet (beginning_at
        (λ place. frame.TargetsRecord place.component p.record_type items) (frame.Does later ∷ outer) (slice_index_or places p.object.root Null))
    unfolding next
    held_target items later plain runs is active = rw (runs, is, active, plain, alone) refl

    begins_there :
        (frame_of : Place → Frame Value) (k : List (Frame Value)) → next types bodies s ≡ moves Quiet (beginning_at frame_of k
        (slice_index_or places p.object.root Null))
        → next types bodies s ≡ moves Quiet (beginning_at frame_of k (Part o base))
    begins_there frame_of k is = is ∙ ap (λ (v : Value). moves Quiet (beginning_at frame_of k v)) refers

-- What a step leads to, once it is known.
pub leads_by : (coming known : Next) (event : Event) (after : State) → coming ≡ known → Leads coming settled event after → Leads known settled event after
leads_by coming known event after is leads = subst (λ (n : Next). Leads n settled event after) is leads

pub records_are_referred_to : RecordsAreReferredTo
records_are_referred_to program place t o outer before after procedure places pending suspended event runs is active step =
    let types = program.types.items in
    let bodies = body_forms program in
    let s = ready types bodies outer procedure places pending suspended before in
    let goes : Found (Cell Value) → Next = λ found. refers_next named (Names o) place (width_of types t) found s in
    let leads = leads_by (next types bodies before) (goes (look before.heap (Names o))) event after
    (refer_step types bodies outer procedure places pending suspended place t o before runs is active) step in
    let found = found_leads goes event after (λ never. never) (object_at before.heap o) leads in
    referred_leads o s after event place (record_in found.0.cell.values place.component (width_of types t)) found.2

pub components_are_opened : ComponentsAreOpened
components_are_opened program c o outer before after procedure places pending suspended event runs is active step =
    let types = program.types.items in
    let bodies = body_forms program in
    let s = ready types bodies outer procedure places pending suspended before in
    let goes : Found (Cell Value) → Next = λ found. opens_next named (Names o) c found s in
    let leads = leads_by (next types bodies before) (goes (look before.heap (Names o))) event after
    (open_step types bodies outer procedure places pending suspended c o before runs is active) step in
    let found = found_leads goes event after (λ never. never) (object_at before.heap o) leads in
    let opened = opened_leads o s after event c (slice_get found.0.cell.values c) found.2 in
    (opened.0, ap (λ (at_o : Option Object). component_in at_o c) found.1 ∙ opened.1, opened.2)

pub parameters_share_records : ParametersShareRecords
parameters_share_records program path c base o outer before after procedure places pending suspended event runs one active holds step =
    let types = program.types.items in
    let bodies = body_forms program in
    let s = ready types bodies outer procedure places pending suspended before in
    let refers : slice_index_or places path.root Null ≡ Part o base = get_or_from_slice_get places path.root (Part o base) Null holds in (
      λ is.
          let goes : Found (Cell Value) → Next = λ found. follow_next named (Names o) (base.component + c) [] found s in
          let leads = leads_by (next types bodies before) (goes (look before.heap (Names o))) event after
          (read_step types bodies outer procedure places pending suspended path c base o before one refers runs is active) step in
          let found = found_leads goes event after (λ never. never) (object_at before.heap o) leads in
          let read = read_leads o s after event (slice_get found.0.cell.values (base.component + c)) found.2 in
          (read.0, ap (λ (at_o : Option Object). component_in at_o (base.component + c)) found.1 ∙ read.1, read.2),
      λ later right is.
          let known = targeting types bodies outer procedure places pending suspended path c base o before one refers right later (Part o base) in
          (leads_by (next types bodies before) (moves Quiet known) event after
          (assign_step types bodies outer procedure places pending suspended path c base o before one refers right later runs is active) step).1,
    )

pub components_are_found_there : ComponentsAreFoundThere
components_are_found_there program path c base o outer before after procedure places pending suspended event runs one active holds step =
    let types = program.types.items in
    let bodies = body_forms program in
    let refers : slice_index_or places path.root Null ≡ Part o base = get_or_from_slice_get places path.root (Part o base) Null holds in
    let there : (ℕ → Frame Value) → List (Frame Value) → State =
    λ frame_of k. found_at types bodies outer procedure places pending suspended path c base o before one refers frame_of k (Part o base) in (
      λ is.
          (leads_by (next types bodies before) (moves Quiet (there frame.OpensIn outer)) event after
          (found_there types bodies outer procedure places pending suspended path c base o before one refers frame.OpensIn outer
          (held_open types bodies outer procedure places pending suspended path c base o before one refers runs is active)) step).1,
      λ access later is.
          let frame_of : ℕ → Frame Value = λ last. frame.FreesIn access last in
          (leads_by (next types bodies before) (moves Quiet (there frame_of (frame.Does later ∷ outer))) event after
          (found_there types bodies outer procedure places pending suspended path c base o before one refers frame_of (frame.Does later ∷ outer)
          (held_free types bodies outer procedure places pending suspended path c base o before one refers access later runs is active)) step).1,
      λ later is.
          (leads_by (next types bodies before) (moves Quiet (there frame.Receives (frame.Does later ∷ outer))) event after
          (found_there types bodies outer procedure places pending suspended path c base o before one refers frame.Receives (frame.Does later ∷ outer)
          (held_get types bodies outer procedure places pending suspended path c base o before one refers later runs is active)) step).1,
    )

pub paths_go_on_there : PathsGoOnThere
paths_go_on_there program path c d base cs o outer before after procedure places pending suspended event runs long active holds is step =
    let types = program.types.items in
    let bodies = body_forms program in
    let s = ready types bodies outer procedure places pending suspended before in
    let refers : slice_index_or places path.root Null ≡ Part o base = get_or_from_slice_get places path.root (Part o base) Null holds in
    let goes : Found (Cell Value) → Next = λ found. follow_next named (Names o) (base.component + c) (d ∷ cs) found s in
    let leads = leads_by (next types bodies before) (goes (look before.heap (Names o))) event after
    (follow_step types bodies outer procedure places pending suspended path c d base cs o before long refers runs is active) step in
    let found = found_leads goes event after (λ never. never) (object_at before.heap o) leads in
    let read = followed_leads o s after event d cs (slice_get found.0.cell.values (base.component + c)) found.2 in
    (read.0, ap (λ (at_o : Option Object). component_in at_o (base.component + c)) found.1 ∙ read.1, read.2)

pub records_begin_there : RecordsBeginThere
records_begin_there program p base o outer before after procedure places pending suspended event runs alone active holds step =
    let types = program.types.items in
    let bodies = body_forms program in
    let refers : slice_index_or places p.object.root Null ≡ Part o base = get_or_from_slice_get places p.object.root (Part o base) Null holds in
    let there : (Place → Frame Value) → List (Frame Value) → State =
    λ frame_of k. beginning_at types bodies outer procedure places pending suspended p base o before alone refers frame_of k (Part o base) in (
      λ is.
          let frame_of : Place → Frame Value = λ place. frame.RefersIn place p.record_type in
          (leads_by (next types bodies before) (moves Quiet (there frame_of outer)) event after
          (begins_there types bodies outer procedure places pending suspended p base o before alone refers frame_of outer
          (held_refer types bodies outer procedure places pending suspended p base o before alone refers runs is active)) step).1,
      λ items is.
          let frame_of : Place → Frame Value = λ place. frame.Copies place.component p.record_type in
          (leads_by (next types bodies before) (moves Quiet (there frame_of (frame.Fills items ∷ outer))) event after
          (begins_there types bodies outer procedure places pending suspended p base o before alone refers frame_of (frame.Fills items ∷ outer)
          (held_copy types bodies outer procedure places pending suspended p base o before alone refers items runs is active)) step).1,
      λ items later plain is.
          let frame_of : Place → Frame Value = λ place. frame.TargetsRecord place.component p.record_type items in
          (leads_by (next types bodies before) (moves Quiet (there frame_of (frame.Does later ∷ outer))) event after
          (begins_there types bodies outer procedure places pending suspended p base o before alone refers frame_of (frame.Does later ∷ outer)
          (held_target types bodies outer procedure places pending suspended p base o before alone refers items later plain runs is active)) step).1,
    )

-- An object that changes in one component changes in no other, and no other object does.
others_kept :
    (xs : List Object) (i j d : ℕ) (x y : Object) → slice_get xs i ≡ Some x → (j ≢ i) ⊎ (slice_get y.cell.values d ≡ slice_get x.cell.values d)
    → component_in (slice_get (slice_set xs i y) j) d ≡ component_in (slice_get xs j) d
others_kept [] i j d x y is kept = refl
others_kept (z ∷ xs) zero zero d x y is (inl apart) = absurd (apart refl)
others_kept (z ∷ xs) zero zero d x y is (inr same) = same ∙ ap (λ (at_o : Option Object). component_in at_o d) (sym is)
others_kept (z ∷ xs) zero (suc j) d x y is kept = refl
others_kept (z ∷ xs) (suc i) zero d x y is kept = refl
others_kept (z ∷ xs) (suc i) (suc j) d x y is (inl apart) = others_kept xs i j d x y is (inl (λ same. apart (ap suc same)))
others_kept (z ∷ xs) (suc i) (suc j) d x y is (inr same) = others_kept xs i j d x y is (inr same)

module _ (heap : List Object) (o : Id) (c : ℕ) (v held : Value) (object : Object) (is : object_at heap o ≡ Some object)
    (holds : slice_get object.cell.values c ≡ Some held) where
  -- The object once it holds the value.
  abbrev holder : Object
  holder = filled c v object

  stored_so : store heap (Names o) c v ≡ slice_set heap o.0 holder
  stored_so = ap (λ (at_o : Option Object). changed (filled c v) at_o heap o) is

  stored_there : component_at (slice_set heap o.0 holder) o c ≡ Some v
  stored_there =
      ap (λ (at_o : Option Object). component_in at_o c) (get_set heap o.0 holder (within heap o.0 object is))
      ∙ get_set object.cell.values c v (within object.cell.values c held holds)

  apart_or_kept : (p : Id) (d : ℕ) → (p ≢ o) ⊎ (d ≢ c) → (p.0 ≢ o.0) ⊎ (slice_get holder.cell.values d ≡ slice_get object.cell.values d)
  apart_or_kept p d (inl apart) = inl (λ same. apart (ap (λ (n : ℕ). record { 0 = n }) same))
  apart_or_kept p d (inr apart) = inr (get_other object.cell.values c d v apart)

  stored_alone : (p : Id) (d : ℕ) → (p ≢ o) ⊎ (d ≢ c) → component_at (slice_set heap o.0 holder) p d ≡ component_at heap p d
  stored_alone p d apart = others_kept heap o.0 p.0 d object holder is (apart_or_kept p d apart)

pub stores_are_kept : StoresAreKept
stores_are_kept program c o v outer before after procedure places pending suspended event runs is active step =
    let types = program.types.items in
    let bodies = body_forms program in
    let s = ready types bodies outer procedure places pending suspended before in
    let goes : Found (Cell Value) → Next = λ found. store_next named (Names o) c v found s in
    let leads = leads_by (next types bodies before) (goes (look before.heap (Names o))) event after
    (store_step types bodies outer procedure places pending suspended c o v before runs is active) step in
    let found = found_leads goes event after (λ never. never) (object_at before.heap o) leads in
    let stored = stored_leads o s after event c v (slice_get found.0.cell.values c) found.2 in
    let heap : after.heap ≡ store before.heap (Names o) c v = ap (λ (t : State). t.heap) stored.2 in
    let so = heap ∙ stored_so before.heap o c v stored.0 found.0 found.1 stored.1 in
    let there : component_at after.heap o c ≡ Some v =
    ap (λ (h : List Object). component_at h o c) so ∙ stored_there before.heap o c v stored.0 found.0 found.1 stored.1 in
    let alone : (p : Id) (d : ℕ) → (p ≢ o) ⊎ (d ≢ c) → component_at after.heap p d ≡ component_at before.heap p d =
    λ p d apart. ap (λ (h : List Object). component_at h p d) so ∙ stored_alone before.heap o c v stored.0 found.0 found.1 stored.1 p d apart in
    (there, alone, stored.2 ∙ ap (λ (h : List Object). record s { heap = h }) (sym heap))
