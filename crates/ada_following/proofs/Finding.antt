-- The two records of an assignment are found, one after the other.

use Rattle.std.proofs.Common.{◌≡◌, ℕ, Bool, true, false, List, [], ◌∷◌, Option, Some, None, refl, sym, ap, ◌∙◌, subst}
use Rattle.std.specs.List.{slice_get}
use Rattle.ada_program.specs.declared.program.Exception.TheVariants.{ConstraintError}
use Rattle.ada_program.specs.declared.program.TypeDefinition.{TypeDefinition}
use Rattle.ada_program.specs.Form.{RecordPathForm}
use Rattle.ada_program.specs.ProgramForm.{BodyForm}
use Rattle.ada_program.specs.Typed.{width_of}
use Rattle.ada_meaning.specs.declared.state.Mode.TheVariants.{Running, Raising}
use Rattle.ada_meaning.specs.declared.state.Place.{Place}
use Rattle.ada_meaning.specs.declared.state.Value.{Value}
use Rattle.ada_meaning.specs.Event.{Followed, Quiet}
use Rattle.ada_meaning.specs.Frame.{Frame}
use Rattle.ada_meaning.specs.Frame as frame
use Rattle.ada_meaning.specs.Heap.{Cell, Found, on_null, on_gone, on_other, finds}
use Rattle.ada_meaning.specs.State.{Activation, Master}
use Rattle.ada_meaning.specs.Step.{at, operands, operands_of, with_operands, older, popped, newest, held, place_in, selected, reading, component_next, follow_next, path_next, computed, referred_next, refers_next, record_in, frame_next}
use Rattle.ada_meaning.specs.Named.{State, named, whole, look, refer}
use Rattle.ada_meaning.specs.Run.{Event}
use Rattle.ada_storage.specs.State as storage
use Rattle.ada_following.specs.Reading.{event_seen, is_out}
use Rattle.ada_following.proofs.Heaps.{Heap}
use Rattle.ada_following.proofs.Frames.{Control, static, listing, Reads}
use Rattle.ada_following.proofs.Stands.{IsLive, Kept, KeptBehind, still_found, Path, at_path, on_path, off_path, Passed, passed, passes_path, passes_record, passes_assignment, finding, records_found, passing}
use Rattle.ada_following.proofs.Heads.{looked, looked_out}
use Rattle.ada_following.proofs.Coding.{reads_callers, read_follows}
use Rattle.ada_following.proofs.Treated.{AllFollow, with_all}
use Rattle.ada_following.proofs.Assignments.{older_operands}
use Rattle.ada_following.proofs.Follows.{Facts, Follows}

-- Operands where one is added, or taken away.
kept_pushed : (h : Heap) (has : Bool) (v : Value) (acts : List (Activation Value)) → Kept h has (operands_of acts) → KeptBehind h has (operands_of (with_operands (v ∷ operands_of acts) acts))
kept_pushed h has v [] kept = tt
kept_pushed h has v (a ∷ acts) kept = kept

none_kept : (h : Heap) (has : Bool) → Kept h has []
none_kept h true = tt
none_kept h false = tt

kept_older : (h : Heap) (has : Bool) (vs : List Value) → KeptBehind h has vs → Kept h has (older vs)
kept_older h has [] kept = none_kept h has
kept_older h has (v ∷ vs) kept = kept

kept_popped : (h : Heap) (has : Bool) (acts : List (Activation Value)) → KeptBehind h has (operands_of acts) → Kept h has (operands_of (with_operands (older (operands_of acts)) acts))
kept_popped h has [] kept = none_kept h has
kept_popped h has (a ∷ acts) kept = kept_older h has a.operands kept

-- What refers to a record is kept.
live_pushed : (h : Heap) (v : Value) (acts : List (Activation Value)) → IsLive h v → Kept h true (operands_of (with_operands (v ∷ operands_of acts) acts))
live_pushed h v [] live = tt
live_pushed h v (a ∷ acts) live = live

rest_passed : (has : Bool) (source : RecordPathForm) (t : ℕ) (k : Control) → Passed k (still_found has source t k)
rest_passed false source t k = passes_path source (passes_assignment t passed)
rest_passed true source t k = passes_assignment t passed

-- A record is found, in this state of storage.
module _
    (types : List TypeDefinition) (bodies : List BodyForm) (x : State) (s : storage.State) (h : Heap) (ms : List Master) (has : Bool) (source : RecordPathForm) (t : ℕ) (k : Control)
    (M : storage.Master) (c : storage.Control) (reads : Reads types (static h) false (listing h) s.alive (older x.activations) k ms (storage.acts M c))
    (is : s.control ≡ storage.acts M c) (f : Facts types h ms x.next s)
  where
    -- what comes once it is found
    abbrev rest : Control
    rest = still_found has source t k

    -- a state of the program, but for what its running body holds, and for its input
    record Stays (y : State) : Type 0 where
      masters : y.masters ≡ ms
      next : y.next ≡ x.next
      heap : y.heap ≡ h
      callers : older y.activations ≡ older x.activations

    path_goes : {l : Control} (e : Event) (y : State) → event_seen e ≡ storage.quiet → Path (operands y) h has rest l → Stays y → y.mode ≡ Running → y.control ≡ l → Follows types s e y
    path_goes {l} e y quiet path stays mode control =
        read_follows types s e y quiet h ms x.next M c is f Running storage.running l (finding has source t path (reads_callers stays.callers reads)) stays.masters stays.next stays.heap mode control

    passes : {l : Control} (y : State) → Passed k l → Stays y → y.mode ≡ Raising ConstraintError → y.control ≡ l → Follows types s Quiet y
    passes {l} y over stays mode control =
        read_follows types s Quiet y refl h ms x.next M c is f (Raising ConstraintError) storage.raising l (passing ConstraintError over (reads_callers stays.callers reads)) stays.masters stays.next stays.heap mode control

    -- the same once something is computed, or what was computed is taken away
    with_stays : (vs : List Value) (y : State) → Stays y → older (with_operands vs y.activations) ≡ older x.activations
    with_stays vs y stays = older_operands vs y.activations ∙ stays.callers

    -- The path goes on behind a selector.
    module _ (place : Place) (u : ℕ) where
      reading_goes : (cs : List ℕ) (v w : Value) (y : State) → y.control ≡ frame.RefersIn place u ∷ rest → Kept h has (operands y) → Stays y → y.mode ≡ Running → Follows types s (Followed w) (reading named cs v y)
      reading_goes [] v w y control kept stays mode =
          path_goes (Followed w) (computed v y) refl (off_path place u (kept_pushed h has v y.activations kept)) (record { masters = stays.masters; next = stays.next; heap = stays.heap; callers = with_stays _ y stays }) mode control
      reading_goes (c ∷ cs) v w y control kept stays mode =
          path_goes (Followed w) (reading named (c ∷ cs) v y) refl (on_path (c ∷ cs) place u (kept_pushed h has v y.activations kept)) (record { masters = stays.masters; next = stays.next; heap = stays.heap; callers = with_stays _ y stays }) mode
          (ap (λ (l : Control). frame.Follows (c ∷ cs) ∷ l) control)

      component_goes : (cs : List ℕ) (o : Value) (found : Option Value) (y : State) → y.control ≡ frame.RefersIn place u ∷ rest → Kept h has (operands y) → Stays y → y.mode ≡ Running → AllFollow types s (component_next named o cs found y)
      component_goes cs o None y control kept stays mode = λ e. e
      component_goes cs o (Some v) y control kept stays mode = reading_goes cs v o y control kept stays mode

      follow_goes : (c : ℕ) (cs : List ℕ) (v : Value) (found : Found (Cell Value)) (y : State) → y.control ≡ frame.RefersIn place u ∷ rest → Kept h has (operands y) → Stays y → y.mode ≡ Running → AllFollow types s (follow_next named v c cs found y)
      follow_goes c cs v on_null y control kept stays mode = passes _ (passes_record place u (rest_passed has source t k)) (record { masters = stays.masters; next = stays.next; heap = stays.heap; callers = with_stays [] y stays }) refl control
      follow_goes c cs v on_gone y control kept stays mode = λ e. e
      follow_goes c cs v on_other y control kept stays mode = λ e. e
      follow_goes c cs v (finds cell) y control kept stays mode = component_goes cs v (slice_get cell.values c) y control kept stays mode

      path_step : (cs : List ℕ) (v : Value) (y : State) → y.control ≡ frame.RefersIn place u ∷ rest → Kept h has (operands y) → Stays y → y.mode ≡ Running → AllFollow types s (path_next named cs v y)
      path_step [] v y control kept stays mode =
          path_goes Quiet (computed v y) refl (off_path place u (kept_pushed h has v y.activations kept)) (record { masters = stays.masters; next = stays.next; heap = stays.heap; callers = with_stays _ y stays }) mode control
      path_step (c ∷ cs) v y control kept stays mode = follow_goes c cs v (look y.heap v) y control kept stays mode

    -- The record is found.
    is_found :
        (b : Bool) (e : Event) (w : Value) (y : State) → event_seen e ≡ storage.quiet → has ≡ b → IsLive h w → Kept h b (operands y) → Stays y → y.mode ≡ Running → y.control ≡ still_found b source t k
        → Follows types s e (computed w y)
    is_found false e w y quiet is_has live kept stays mode control =
        read_follows types s e (computed w y) quiet h ms x.next M c is f Running storage.running (frame.Refers source ∷ frame.Assigns t ∷ k)
        (finding true source t (at_path source (live_pushed h w y.activations live)) (reads_callers (with_stays _ y stays) reads)) stays.masters stays.next stays.heap mode control
    is_found true e w y quiet is_has live kept stays mode control =
        read_follows types s e (computed w y) quiet h ms x.next M c is f Running storage.running (frame.Assigns t ∷ k)
        (records_found t (kept_pushed h true w y.activations kept) (reads_callers (with_stays _ y stays) reads)) stays.masters stays.next stays.heap mode control

    refer_live : (v : Value) (place : Place) (cell : Cell Value) → look h v ≡ finds cell → IsLive h (refer v place)
    refer_live v place cell at_v =
        let l = looked h v cell at_v in
        subst (λ (w : Value). IsLive h (refer w place)) (sym l.names) (ap is_out l.there ∙ looked_out h v cell l f.sound.fine)

    referred_goes : (v : Value) (place : Place) (cell : Cell Value) (found : Option (List Value)) (y : State) → look h v ≡ finds cell → y.control ≡ rest → Kept h has (operands y) → Stays y → y.mode ≡ Running → AllFollow types s (referred_next named v place found y)
    referred_goes v place cell None y at_v control kept stays mode = λ e. e
    referred_goes v place cell (Some vs) y at_v control kept stays mode = is_found has (Followed v) (refer v place) y refl refl (refer_live v place cell at_v) kept stays mode control

    refers_goes : (v : Value) (place : Place) (count : ℕ) (found : Found (Cell Value)) (y : State) → look h v ≡ found → y.control ≡ rest → Kept h has (operands y) → Stays y → y.mode ≡ Running → AllFollow types s (refers_next named v place count found y)
    refers_goes v place count on_null y at_v control kept stays mode = passes _ (rest_passed has source t k) (record { masters = stays.masters; next = stays.next; heap = stays.heap; callers = with_stays [] y stays }) refl control
    refers_goes v place count on_gone y at_v control kept stays mode = λ e. e
    refers_goes v place count on_other y at_v control kept stays mode = λ e. e
    refers_goes v place count (finds cell) y at_v control kept stays mode = referred_goes v place cell (record_in cell.values place.component count) y at_v control kept stays mode

    -- Each step of that.
    abbrev behind : Control → State
    behind l = with_all x h ms Running l

    pub finding_follows : (g : Frame Value) (l : Control) → Path (operands x) h has rest (g ∷ l) → AllFollow types s (frame_next named types bodies g (behind l))
    finding_follows _ _ (at_path p kept) =
        let y = behind rest in
        let place = place_in named (held named y p.object.root) p.object.selectors p in
        path_step place p.record_type (selected named (held named y p.object.root) p.object.selectors) (whole (held named y p.object.root)) (at (frame.RefersIn place p.record_type ∷ rest) y)
        refl kept (record { masters = refl; next = refl; heap = refl; callers = refl }) refl
    finding_follows _ _ (on_path cs place u kept) =
        let y = behind (frame.RefersIn place u ∷ rest) in
        path_step place u cs (newest named y) (popped y) refl (kept_popped h has x.activations kept) (record { masters = refl; next = refl; heap = refl; callers = older_operands _ x.activations }) refl
    finding_follows _ _ (off_path place u kept) =
        let y = behind rest in
        refers_goes (newest named y) place (width_of types u) (look h (newest named y)) (popped y) refl refl (kept_popped h has x.activations kept) (record { masters = refl; next = refl; heap = refl; callers = older_operands _ x.activations }) refl
