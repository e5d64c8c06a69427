-- What paths name, and where the object is found in which the last component of a path lies.

use Rattle.std.proofs.Common.{◌≡◌, ℕ, zero, suc, ◌+◌, ◌<◌, Bool, true, false, List, [], ◌∷◌, length, Some, None, refl, sym, ap, ◌∙◌, subst, arith}
use Rattle.std.specs.List.{slice_index_or}
use Rattle.ada_program.specs.declared.program.TypeDefinition.{TypeDefinition}
use Rattle.ada_program.specs.Form.{PathForm, RecordPathForm, ItemForm, item_of_record, StmtsForm, a_stmt}
use Rattle.ada_program.specs.ProgramForm.{BodyForm}
use Rattle.ada_meaning.specs.declared.state.Id.{Id}
use Rattle.ada_meaning.specs.declared.state.Place.{Place}
use Rattle.ada_meaning.specs.declared.state.Value.{Value}
use Rattle.ada_meaning.specs.declared.state.Value.TheVariants.{Null, Names, Part}
use Rattle.ada_meaning.specs.Event.{Quiet}
use Rattle.ada_meaning.specs.Frame.{Frame}
use Rattle.ada_meaning.specs.Frame as frame
use Rattle.ada_meaning.specs.State.{Activation}
use Rattle.ada_meaning.specs.Step.{at, computed, held, path_next, selected, named_next, place_in, item_next, record_assign_next, before_last, last_of, assign_next, gets_next, frees_next}
use Rattle.ada_meaning.specs.Named.{Object, State, Next, named, whole, inside, next}
use Rattle.ada_flow.specs.Tracking.{seen}
use Rattle.ada_tracked.specs.Forms.{seen_record, seen_items, seen_right, seen_stmts}
use Rattle.ada_tracked.specs.Frames.{View, number_of, seen_control, tracked_values, standing}
use Rattle.ada_tracked.specs.Simple.{PathIsSimple}
use Rattle.ada_tracked.specs.Seen.{awaits_holder, refers, seen_state, Waiting, assigning, getting, freeing, waiting_frame, waiting_statement, elsewhere, behind, IsWatched}
use Rattle.ada_tracked.specs.Looking.{StartsElsewhere, HoldsElsewhere, LeadsElsewhere, HolderIsElsewhere}
use Rattle.ada_tracked.specs.Law.{same, quiet, both, alone, Shown}
use Rattle.ada_tracked.proofs.Lists.{read_front}
use Rattle.ada_tracked.proofs.Paths.{Begins, apart, itself, untracked, tracked, begins, within, formal}
use Rattle.ada_tracked.proofs.Found.{running, whole_self, inside_self, selected_self, named_by, holder_by, Stays, path_shown, untracked_path, value_at, value_plain, value_held, tracked_path}

-- What waits, as it is judged.
abbrev pub seen_waiting : View → Waiting → Waiting
seen_waiting w (assigning right) = assigning (seen_right w.tracks right)
seen_waiting w getting = getting
seen_waiting w (freeing access) = freeing access

-- The statement at a path begins.
abbrev pub start_next : List TypeDefinition → Waiting → List ℕ → ℕ → State → Next
start_next types (assigning right) cs x s = assign_next named cs x right s
start_next types getting cs x s = gets_next named cs x s.input s
start_next types (freeing access) cs x s = frees_next named types cs access x s

pub start_holder : (types : List TypeDefinition) (waiting : Waiting) (c : ℕ) (cs : List ℕ) (x : ℕ) (s : State) → start_next types waiting (c ∷ cs) x s ≡ holder_by c cs (held named s x) (waiting_frame waiting) s
start_holder types (assigning right) c cs x s = refl
start_holder types getting c cs x s = refl
start_holder types (freeing access) c cs x s = refl

waiting_control : (w : View) (waiting : Waiting) (c : ℕ) (k : List (Frame Value)) → seen_control w (waiting_frame waiting c ∷ k) ≡ waiting_frame (seen_waiting w waiting) c ∷ seen_control w k
waiting_control w (assigning right) c k = refl
waiting_control w getting c k = refl
waiting_control w (freeing access) c k = refl

-- The component with which a record begins in its object.
abbrev component_in : RecordPathForm → State → ℕ
component_in q s = (place_in named (held named s q.object.root) q.object.selectors q).component

-- It is the one that the way to it says, where that does not begin with a reference.
first_there : (v : Value) (cs : List ℕ) (q : RecordPathForm) → refers v ≡ false → (place_in named v cs q).component ≡ q.first
first_there v [] q plain = inside_self v q.first plain
first_there v (c ∷ cs) q plain = refl

-- Where nothing waits for an object, what a component holds may be any one.
holds_any : (o : Id) (h : List Object) (v : Value) (c : ℕ) (cs : List ℕ) → HoldsElsewhere o h false v c cs
holds_any o h v c [] = λ cell u found is. tt
holds_any o h v c (d ∷ cs) = tt

holds_calmly : (o : Id) (h : List Object) (k : List (Frame Value)) (v : Value) (c : ℕ) (cs : List ℕ) → awaits_holder k ≡ false → HoldsElsewhere o h (awaits_holder k) v c cs
holds_calmly o h k v c cs calm = subst (λ (awaits : Bool). HoldsElsewhere o h awaits v c cs) (sym calm) (holds_any o h v c cs)

-- So it is of a path from another variable, which follows another object.
starts_leads : (o : Id) (h : List Object) (x : ℕ) (cs : List ℕ) (v : Value) → (0 < x) → StartsElsewhere o x cs v → LeadsElsewhere o h false (selected named v cs) (whole v)
starts_leads o h x [] v lt starts = tt
starts_leads o h zero (c ∷ cs) v lt starts = absurd (omega (arith, lt))
starts_leads o h (suc x) (c ∷ cs) v lt starts = (starts, holds_any o h (whole v) (inside v c) cs)

-- What waits for the object of a component does so.
waits : (waiting : Waiting) (c : ℕ) (k : List (Frame Value)) → awaits_holder (waiting_frame waiting c ∷ k) ≡ true
waits (assigning right) c k = refl
waits getting c k = refl
waits (freeing access) c k = refl

holds_waiting : (o : Id) (h : List Object) (waiting : Waiting) (c : ℕ) (k : List (Frame Value)) (v : Value) (b : ℕ) (cs : List ℕ) → HoldsElsewhere o h true v b cs → HoldsElsewhere o h (awaits_holder (waiting_frame waiting c ∷ k)) v b cs
holds_waiting o h waiting c k v b cs holds = subst (λ (awaits : Bool). HoldsElsewhere o h awaits v b cs) (sym (waits waiting c k)) holds

-- Behind a component of the object itself, if more selectors follow, the last one is that of another object.
abbrev pub BehindElsewhere : (o : Id) → List Object → (component : ℕ) → (selectors : List ℕ) → Type 0
BehindElsewhere o h b [] = Unit {0}
BehindElsewhere o h b (d ∷ ds) = HoldsElsewhere o h true (Names o) b (before_last d ds)

-- So it is where a path begins with the formal parameter.
pub behind_formal : (o : Id) (h : List Object) (base c : ℕ) (cs : List ℕ) (v : Value) (place : Place) → v ≡ Part o place → place.component ≡ base → HolderIsElsewhere o h 0 (c ∷ cs) v → BehindElsewhere o h (base + c) cs
behind_formal o h base c [] v place is at_base holder = tt
behind_formal o h base c (d ∷ ds) v place is at_base holder =
    subst (λ (b : ℕ). HoldsElsewhere o h true (Names o) (b + c) (before_last d ds)) at_base
    (subst (λ (u : Value). HoldsElsewhere o h true (whole u) (inside u c) (before_last d ds)) is holder)

module _ (types : List TypeDefinition) (bodies : List BodyForm) (w : View) where
  -- A path from another variable.
  pub named_other : (t : State) (path : PathForm) (a : Activation Value) (rest : List (Activation Value)) (s : State) → path.root < w.tracks.first → (0 < path.root) → IsWatched w a.places s.heap → StartsElsewhere w.object path.root path.selectors (slice_index_or a.places path.root Null) → awaits_holder s.control ≡ false → Shown types bodies w t (named_next named path.selectors path.root (running a rest s)) (named_next named path.selectors path.root (seen_state w (running a rest s)))
  named_other t path a rest s inside lt p starts calm =
      let v = slice_index_or a.places path.root Null in
      let in_places : path.root < length a.places = subst (λ (n : ℕ). path.root < n) (sym p.count) inside in
      subst (λ (u : Value). Shown types bodies w t (named_by path.selectors v (running a rest s)) (named_by path.selectors u (seen_state w (running a rest s))))
      (sym (read_front a.places (tracked_values w s.heap) path.root Null in_places))
      (path_shown types bodies w t (selected named v path.selectors) (whole v) a rest s p
      (subst (λ (awaits : Bool). LeadsElsewhere w.object s.heap awaits (selected named v path.selectors) (whole v)) (sym calm)
      (starts_leads w.object s.heap path.root path.selectors v lt starts)))

  -- The formal parameter itself, where nothing waits for its object.
  named_alone : (t : State) (a : Activation Value) (rest : List (Activation Value)) (s : State) → (0 < w.tracks.first) → IsWatched w a.places s.heap → awaits_holder s.control ≡ false → Shown types bodies w t (named_next named [] 0 (running a rest s)) (named_next named [] 0 (seen_state w (running a rest s)))
  named_alone t a rest s lt p calm =
      let v = slice_index_or a.places 0 Null in
      let in_places : 0 < length a.places = subst (λ (n : ℕ). 0 < n) (sym p.count) lt in
      subst (λ (u : Value). Shown types bodies w t (named_by [] v (running a rest s)) (named_by [] u (seen_state w (running a rest s))))
      (sym (read_front a.places (tracked_values w s.heap) 0 Null in_places))
      (path_shown types bodies w t [] (whole v) a rest s p (subst (λ (awaits : Bool). LeadsElsewhere w.object s.heap awaits [] (whole v)) (sym calm) tt))

  -- One from the formal parameter, to a component that is not tracked.
  named_formal : (t : State) (c : ℕ) (cs : List ℕ) (a : Activation Value) (rest : List (Activation Value)) (s : State) → (0 < w.tracks.first) → number_of w (w.base + c) ≡ None → IsWatched w a.places s.heap → awaits_holder s.control ≡ false → Shown types bodies w t (named_next named (c ∷ cs) 0 (running a rest s)) (named_next named (c ∷ cs) 0 (seen_state w (running a rest s)))
  named_formal t c cs a rest s lt none p calm =
      let f = formal w a.places p.formal in
      let in_places : 0 < length a.places = subst (λ (n : ℕ). 0 < n) (sym p.count) lt in
      subst (λ (u : Value). Shown types bodies w t (named_by (c ∷ cs) (slice_index_or a.places 0 Null) (running a rest s)) (named_by (c ∷ cs) u (seen_state w (running a rest s))))
      (sym (read_front a.places (tracked_values w s.heap) 0 Null in_places))
      (subst (λ (u : Value). Shown types bodies w t (named_by (c ∷ cs) u (running a rest s)) (named_by (c ∷ cs) u (seen_state w (running a rest s))))
      (sym f.1.0)
      (subst (λ (b : ℕ). Shown types bodies w t (path_next named ((b + c) ∷ cs) (Names w.object) (running a rest s)) (path_next named ((b + c) ∷ cs) (Names w.object) (seen_state w (running a rest s))))
      (sym f.1.1)
      (untracked_path types bodies w t (w.base + c) cs a rest s p none (holds_calmly w.object s.heap s.control (Names w.object) (w.base + c) cs calm))))

  -- One to a tracked component.
  named_tracked : (t : State) (c : ℕ) (cs : List ℕ) (x : ℕ) (a : Activation Value) (rest : List (Activation Value)) (s : State) → number_of w (w.base + c) ≡ Some x → IsWatched w a.places s.heap → awaits_holder s.control ≡ false → Stays types bodies w (running a rest s) t (named_next named cs x (seen_state w (running a rest s))) → Shown types bodies w t (named_next named (c ∷ cs) 0 (running a rest s)) (named_next named cs x (seen_state w (running a rest s)))
  named_tracked t c cs x a rest s is p calm stays =
      let f = formal w a.places p.formal in
      let u = value_at types bodies w s.heap a.places p (w.base + c) in
      let plain = value_plain types bodies w s.heap a.places p (w.base + c) x is in
      let goes : named_next named cs x (seen_state w (running a rest s)) ≡ path_next named cs u (seen_state w (running a rest s)) =
      ap (λ (v : Value). named_by cs v (seen_state w (running a rest s))) (value_held types bodies w s.heap a.places p (w.base + c) x is)
      ∙ ap (λ (ds : List ℕ). path_next named ds (whole u) (seen_state w (running a rest s))) (selected_self u cs plain)
      ∙ ap (λ (v : Value). path_next named cs v (seen_state w (running a rest s))) (whole_self u plain) in
      subst (λ (n : Next). Shown types bodies w t (named_next named (c ∷ cs) 0 (running a rest s)) n) (sym goes)
      (subst (λ (v : Value). Shown types bodies w t (named_by (c ∷ cs) v (running a rest s)) (path_next named cs u (seen_state w (running a rest s))))
      (sym f.1.0)
      (subst (λ (b : ℕ). Shown types bodies w t (path_next named ((b + c) ∷ cs) (Names w.object) (running a rest s)) (path_next named cs u (seen_state w (running a rest s))))
      (sym f.1.1)
      (tracked_path types bodies w t (w.base + c) x cs a rest s p is (holds_calmly w.object s.heap s.control (Names w.object) (w.base + c) cs calm) (stays.0, stays.1, stays.2, stays.3 ∙ goes))))

  -- What a path names, however it begins.
  by_begins : (t : State) (path : PathForm) (a : Activation Value) (rest : List (Activation Value)) (s : State) → path.root < w.tracks.first → IsWatched w a.places s.heap → StartsElsewhere w.object path.root path.selectors (slice_index_or a.places path.root Null) → awaits_holder s.control ≡ false → Stays types bodies w (running a rest s) t (named_next named (seen w.tracks path).selectors (seen w.tracks path).root (seen_state w (running a rest s))) → Begins w path → Shown types bodies w t (named_next named path.selectors path.root (running a rest s)) (named_next named (seen w.tracks path).selectors (seen w.tracks path).root (seen_state w (running a rest s)))
  by_begins t path a rest s inside p starts calm stays (apart lt kept) =
      subst (λ (q : PathForm). Shown types bodies w t (named_next named path.selectors path.root (running a rest s)) (named_next named q.selectors q.root (seen_state w (running a rest s))))
      (sym kept) (named_other t path a rest s inside lt p starts calm)
  by_begins t path a rest s inside p starts calm stays (itself root is kept) =
      let lt : 0 < w.tracks.first = subst (λ (x : ℕ). x < w.tracks.first) root inside in
      subst (λ (q : PathForm). Shown types bodies w t (named_next named path.selectors path.root (running a rest s)) (named_next named q.selectors q.root (seen_state w (running a rest s))))
      (sym kept)
      (subst (λ (ds : List ℕ). Shown types bodies w t (named_next named ds path.root (running a rest s)) (named_next named ds path.root (seen_state w (running a rest s))))
      (sym is)
      (subst (λ (x : ℕ). Shown types bodies w t (named_next named [] x (running a rest s)) (named_next named [] x (seen_state w (running a rest s))))
      (sym root) (named_alone t a rest s lt p calm)))
  by_begins t path a rest s inside p starts calm stays (untracked c cs root is none kept) =
      let lt : 0 < w.tracks.first = subst (λ (x : ℕ). x < w.tracks.first) root inside in
      subst (λ (q : PathForm). Shown types bodies w t (named_next named path.selectors path.root (running a rest s)) (named_next named q.selectors q.root (seen_state w (running a rest s))))
      (sym kept)
      (subst (λ (ds : List ℕ). Shown types bodies w t (named_next named ds path.root (running a rest s)) (named_next named ds path.root (seen_state w (running a rest s))))
      (sym is)
      (subst (λ (x : ℕ). Shown types bodies w t (named_next named (c ∷ cs) x (running a rest s)) (named_next named (c ∷ cs) x (seen_state w (running a rest s))))
      (sym root) (named_formal t c cs a rest s lt none p calm)))
  by_begins t path a rest s inside p starts calm stays (tracked c cs x root is number moved) =
      let goes : named_next named (seen w.tracks path).selectors (seen w.tracks path).root (seen_state w (running a rest s)) ≡ named_next named cs x (seen_state w (running a rest s)) =
      ap (λ (q : PathForm). named_next named q.selectors q.root (seen_state w (running a rest s))) moved in
      subst (λ (n : Next). Shown types bodies w t (named_next named path.selectors path.root (running a rest s)) n) (sym goes)
      (subst (λ (ds : List ℕ). Shown types bodies w t (named_next named ds path.root (running a rest s)) (named_next named cs x (seen_state w (running a rest s))))
      (sym is)
      (subst (λ (y : ℕ). Shown types bodies w t (named_next named (c ∷ cs) y (running a rest s)) (named_next named cs x (seen_state w (running a rest s))))
      (sym root) (named_tracked t c cs x a rest s number p calm (stays.0, stays.1, stays.2, stays.3 ∙ goes))))

  -- So it is where a path may be the formal parameter itself,
  named_within : (t : State) (path : PathForm) (a : Activation Value) (rest : List (Activation Value)) (s : State) → path.root < w.tracks.first → IsWatched w a.places s.heap → StartsElsewhere w.object path.root path.selectors (slice_index_or a.places path.root Null) → awaits_holder s.control ≡ false → Stays types bodies w (running a rest s) t (named_next named (seen w.tracks path).selectors (seen w.tracks path).root (seen_state w (running a rest s))) → Shown types bodies w t (named_next named path.selectors path.root (running a rest s)) (named_next named (seen w.tracks path).selectors (seen w.tracks path).root (seen_state w (running a rest s)))
  named_within t path a rest s inside p starts calm stays = by_begins t path a rest s inside p starts calm stays (begins w path)

  -- and where it may not.
  pub named_shown : (t : State) (path : PathForm) (a : Activation Value) (rest : List (Activation Value)) (s : State) → PathIsSimple w.tracks.first path → IsWatched w a.places s.heap → StartsElsewhere w.object path.root path.selectors (slice_index_or a.places path.root Null) → awaits_holder s.control ≡ false → Stays types bodies w (running a rest s) t (named_next named (seen w.tracks path).selectors (seen w.tracks path).root (seen_state w (running a rest s))) → Shown types bodies w t (named_next named path.selectors path.root (running a rest s)) (named_next named (seen w.tracks path).selectors (seen w.tracks path).root (seen_state w (running a rest s)))
  named_shown t path a rest s simple p starts calm stays = named_within t path a rest s (within w.tracks.first path.root path.selectors simple) p starts calm stays

  -- A record that is copied begins with the same component of its object, where the way to it is judged as it is,
  place_kept : (q : RecordPathForm) (a : Activation Value) (rest : List (Activation Value)) (s : State) → q.object.root < w.tracks.first → IsWatched w a.places s.heap → seen w.tracks q.object ≡ q.object → component_in (seen_record w.tracks q) (seen_state w (running a rest s)) ≡ component_in q (running a rest s)
  place_kept q a rest s inside p kept =
      let z = seen_state w (running a rest s) in
      let in_places : q.object.root < length a.places = subst (λ (n : ℕ). q.object.root < n) (sym p.count) inside in
      ap (λ (path : PathForm). component_in (record q { object = path }) z) kept
      ∙ ap (λ (v : Value). (place_in named v q.object.selectors q).component) (read_front a.places (tracked_values w s.heap) q.object.root Null in_places)

  -- and however it is judged.
  place_by : (q : RecordPathForm) (a : Activation Value) (rest : List (Activation Value)) (s : State) → q.object.root < w.tracks.first → IsWatched w a.places s.heap → Begins w q.object → component_in (seen_record w.tracks q) (seen_state w (running a rest s)) ≡ component_in q (running a rest s)
  place_by q a rest s inside p (apart positive kept) = place_kept q a rest s inside p kept
  place_by q a rest s inside p (itself root is kept) = place_kept q a rest s inside p kept
  place_by q a rest s inside p (untracked c cs root is none kept) =
      let z = seen_state w (running a rest s) in
      ap (λ (path : PathForm). component_in (record q { object = path }) z) kept
      ∙ ap (λ (ds : List ℕ). (place_in named (held named z q.object.root) ds q).component) is
      ∙ sym (ap (λ (ds : List ℕ). (place_in named (held named (running a rest s) q.object.root) ds q).component) is)
  place_by q a rest s inside p (tracked c cs x root is number moved) =
      let z = seen_state w (running a rest s) in
      let u = value_at types bodies w s.heap a.places p (w.base + c) in
      let r = record q { object = record { root = x; of_record = false; selectors = cs; spot = q.object.spot } } in
      ap (λ (path : PathForm). component_in (record q { object = path }) z) moved
      ∙ ap (λ (v : Value). (place_in named v cs r).component) (value_held types bodies w s.heap a.places p (w.base + c) x number)
      ∙ first_there u cs r (value_plain types bodies w s.heap a.places p (w.base + c) x number)
      ∙ sym (ap (λ (ds : List ℕ). (place_in named (held named (running a rest s) q.object.root) ds q).component) is)

  -- The object in which a record that is copied lies.
  pub record_shown : (t : State) (q : RecordPathForm) (a : Activation Value) (rest : List (Activation Value)) (s : State) → q.object.root < w.tracks.first → IsWatched w a.places s.heap → StartsElsewhere w.object q.object.root q.object.selectors (slice_index_or a.places q.object.root Null) → Stays types bodies w (running a rest s) t (item_next named (item_of_record (seen_record w.tracks q)) (seen_state w (running a rest s))) → Shown types bodies w t (item_next named (item_of_record q) (running a rest s)) (item_next named (item_of_record (seen_record w.tracks q)) (seen_state w (running a rest s)))
  record_shown t q a rest s inside p starts stays =
      let z = seen_state w (running a rest s) in
      let path = seen w.tracks q.object in
      let k = frame.Copies (component_in q (running a rest s)) q.record_type ∷ s.control in
      let goes : item_next named (item_of_record (seen_record w.tracks q)) z ≡ named_next named path.selectors path.root (at (seen_control w k) z) =
      ap (λ (c : ℕ). named_next named path.selectors path.root (at (frame.Copies c q.record_type ∷ seen_control w s.control) z))
      (place_by q a rest s inside p (begins w q.object)) in
      subst (λ (n : Next). Shown types bodies w t (item_next named (item_of_record q) (running a rest s)) n) (sym goes)
      (named_within t q.object a rest (at k s) inside p starts refl (stays.0, stays.1, stays.2, stays.3 ∙ goes))

  -- So it is with one that is assigned to.
  pub assigned_shown : (t : State) (q : RecordPathForm) (items : List ItemForm) (a : Activation Value) (rest : List (Activation Value)) (s : State) → q.object.root < w.tracks.first → IsWatched w a.places s.heap → StartsElsewhere w.object q.object.root q.object.selectors (slice_index_or a.places q.object.root Null) → Stays types bodies w (running a rest s) t (record_assign_next named false (seen_record w.tracks q) (seen_items w.tracks items) (seen_state w (running a rest s))) → Shown types bodies w t (record_assign_next named false q items (running a rest s)) (record_assign_next named false (seen_record w.tracks q) (seen_items w.tracks items) (seen_state w (running a rest s)))
  assigned_shown t q items a rest s inside p starts stays =
      let z = seen_state w (running a rest s) in
      let path = seen w.tracks q.object in
      let k = frame.TargetsRecord (component_in q (running a rest s)) q.record_type items ∷ s.control in
      let goes : record_assign_next named false (seen_record w.tracks q) (seen_items w.tracks items) z ≡ named_next named path.selectors path.root (at (seen_control w k) z) =
      ap (λ (c : ℕ). named_next named path.selectors path.root (at (frame.TargetsRecord c q.record_type (seen_items w.tracks items) ∷ seen_control w s.control) z))
      (place_by q a rest s inside p (begins w q.object)) in
      subst (λ (n : Next). Shown types bodies w t (record_assign_next named false q items (running a rest s)) n) (sym goes)
      (named_within t q.object a rest (at k s) inside p starts refl (stays.0, stays.1, stays.2, stays.3 ∙ goes))

  -- The object in which the last component of a path lies, where that begins with what another variable holds.
  pub holder_other : (t : State) (waiting : Waiting) (c : ℕ) (cs : List ℕ) (v : Value) (a : Activation Value) (rest : List (Activation Value)) (s : State) → LeadsElsewhere w.object s.heap true (before_last (inside v c) cs) (whole v) → IsWatched w a.places s.heap → Shown types bodies w t (holder_by c cs v (waiting_frame waiting) (running a rest s)) (holder_by c cs v (waiting_frame (seen_waiting w waiting)) (seen_state w (running a rest s)))
  holder_other t waiting c cs v a rest s leads p =
      let n = last_of (inside v c) cs in
      subst (λ (k : List (Frame Value)). Shown types bodies w t (holder_by c cs v (waiting_frame waiting) (running a rest s)) (path_next named (before_last (inside v c) cs) (whole v) (at k (seen_state w (running a rest s)))))
      (waiting_control w waiting n s.control)
      (path_shown types bodies w t (before_last (inside v c) cs) (whole v) a rest (at (waiting_frame waiting n ∷ s.control) s) p
      (subst (λ (awaits : Bool). LeadsElsewhere w.object s.heap awaits (before_last (inside v c) cs) (whole v)) (sym (waits waiting n s.control)) leads))

  -- In the object itself, at a component that is not tracked, or behind one.
  pub holder_formal : (t : State) (waiting : Waiting) (b : ℕ) (cs : List ℕ) (a : Activation Value) (rest : List (Activation Value)) (s : State) → number_of w b ≡ None → IsWatched w a.places s.heap → BehindElsewhere w.object s.heap b cs → Shown types bodies w t (path_next named (before_last b cs) (Names w.object) (at (waiting_frame waiting (last_of b cs) ∷ s.control) (running a rest s))) (path_next named (before_last b cs) (Names w.object) (at (waiting_frame (seen_waiting w waiting) (last_of b cs) ∷ seen_control w s.control) (seen_state w (running a rest s))))
  holder_formal t waiting b [] a rest s none p behind_is =
      both Quiet (computed (Names w.object) (at (waiting_frame (seen_waiting w waiting) b ∷ seen_control w s.control) (seen_state w (running a rest s)))) refl (same refl)
      (elsewhere waiting b s.control a.operands refl refl refl none
      (ap (λ (k : List (Frame Value)). computed (Names w.object) (at k (seen_state w (running a rest s)))) (sym (waiting_control w waiting b s.control))))
  holder_formal t waiting b (d ∷ ds) a rest s none p behind_is =
      subst (λ (k : List (Frame Value)). Shown types bodies w t (path_next named (b ∷ before_last d ds) (Names w.object) (at (waiting_frame waiting (last_of d ds) ∷ s.control) (running a rest s))) (path_next named (b ∷ before_last d ds) (Names w.object) (at k (seen_state w (running a rest s)))))
      (waiting_control w waiting (last_of d ds) s.control)
      (untracked_path types bodies w t b (before_last d ds) a rest (at (waiting_frame waiting (last_of d ds) ∷ s.control) s) p none
      (holds_waiting w.object s.heap waiting (last_of d ds) s.control (Names w.object) b (before_last d ds) behind_is))

  -- Behind a tracked one, or at it.
  pub holder_tracked : (t : State) (waiting : Waiting) (b : ℕ) (cs : List ℕ) (x : ℕ) (path : PathForm) (fs : StmtsForm) (k : List (Frame Value)) (a : Activation Value) (rest : List (Activation Value)) (s : State) → s.control ≡ frame.Does fs ∷ k → seen w.tracks path ≡ record { root = x; of_record = false; selectors = cs; spot = path.spot } → number_of w b ≡ Some x → IsWatched w a.places s.heap → BehindElsewhere w.object s.heap b cs → t ≡ standing w (running a rest s) (frame.Does (a_stmt (waiting_statement w.tracks waiting (seen w.tracks path)) (seen_stmts w.tracks fs)) ∷ seen_control w k) a.operands → next types bodies t ≡ start_next types (seen_waiting w waiting) cs x (seen_state w (running a rest s)) → Shown types bodies w t (path_next named (before_last b cs) (Names w.object) (at (waiting_frame waiting (last_of b cs) ∷ s.control) (running a rest s))) (start_next types (seen_waiting w waiting) cs x (seen_state w (running a rest s)))
  holder_tracked t waiting b [] x path fs k a rest s does moved is p behind_is stands goes_on =
      alone (quiet refl)
      (behind waiting b x path.spot fs k a.operands refl (ap (λ (l : List (Frame Value)). waiting_frame waiting b ∷ l) does) refl is
      (stands ∙ ap (λ (q : PathForm). standing w (running a rest s) (frame.Does (a_stmt (waiting_statement w.tracks waiting q) (seen_stmts w.tracks fs)) ∷ seen_control w k) a.operands) moved))
  holder_tracked t waiting b (d ∷ ds) x path fs k a rest s does moved is p behind_is stands goes_on =
      let u = value_at types bodies w s.heap a.places p b in
      let plain = value_plain types bodies w s.heap a.places p b x is in
      let f = waiting_frame (seen_waiting w waiting) in
      let z = seen_state w (running a rest s) in
      let goes : start_next types (seen_waiting w waiting) (d ∷ ds) x z ≡ path_next named (before_last d ds) u (at (seen_control w (waiting_frame waiting (last_of d ds) ∷ s.control)) z) =
      start_holder types (seen_waiting w waiting) d ds x z
      ∙ ap (λ (v : Value). holder_by d ds v f z) (value_held types bodies w s.heap a.places p b x is)
      ∙ ap (λ (v : Value). path_next named (before_last (inside u d) ds) v (at (f (last_of (inside u d) ds) ∷ seen_control w s.control) z)) (whole_self u plain)
      ∙ ap (λ (n : ℕ). path_next named (before_last n ds) u (at (f (last_of n ds) ∷ seen_control w s.control) z)) (inside_self u d plain)
      ∙ ap (λ (l : List (Frame Value)). path_next named (before_last d ds) u (at l z)) (sym (waiting_control w waiting (last_of d ds) s.control)) in
      subst (λ (n : Next). Shown types bodies w t (path_next named (b ∷ before_last d ds) (Names w.object) (at (waiting_frame waiting (last_of d ds) ∷ s.control) (running a rest s))) n) (sym goes)
      (tracked_path types bodies w t b x (before_last d ds) a rest (at (waiting_frame waiting (last_of d ds) ∷ s.control) s) p is (holds_waiting w.object s.heap waiting (last_of d ds) s.control (Names w.object) b (before_last d ds) behind_is)
      (frame.Does (a_stmt (waiting_statement w.tracks waiting (seen w.tracks path)) (seen_stmts w.tracks fs)) ∷ seen_control w k, a.operands, stands, goes_on ∙ goes))
