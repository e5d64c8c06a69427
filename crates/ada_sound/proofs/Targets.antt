-- Components that are assigned to: their objects are found, and a value goes into them.

use Rattle.std.proofs.Common.{◌≡◌, Bool, true, false, ◌||◌, ℕ, List, [], ◌∷◌, ◌++◌, refl, sym, ap, ◌∙◌, inl, inr, ◌≢◌, ◌⊎◌}
use Rattle.std.specs.Prelude.{ℤ, Option, Some, None}
use Rattle.std.specs.List.{slice_get}
use Rattle.ada_program.specs.declared.program.TypeDefinition.{TypeDefinition}
use Rattle.ada_program.specs.declared.program.Exception.TheVariants.{ConstraintError, EndError}
use Rattle.ada_program.specs.declared.program.VariableKind.TheVariants as variable
use Rattle.ada_program.specs.Form.{PathForm, RightForm, nothing, value_of, allocates, allocates_default, computes, StmtsForm, a_stmt, assigns}
use Rattle.ada_program.specs.ProgramForm.{TypeForm, VariableForm, BodyForm}
use Rattle.ada_program.specs.Handling.{is_same}
use Rattle.ada_effects.specs.Effects.{effects_of, path_raises, right_raises, right_starts, stmt_raises}
use Rattle.ada_flow.specs.Flow.{Holds, reads_it, gives_component, gives_seen, uses_in_target, uses_in_right, evaluation_raises, ends_with, without_values, moved_by_right}
use Rattle.ada_flow.specs.Tracking.{no_tracks}
use Rattle.ada_meaning.specs.declared.state.Id.{Id}
use Rattle.ada_meaning.specs.declared.state.Value.{Value}
use Rattle.ada_meaning.specs.declared.state.Value.TheVariants.{Null, Names, Scalar, Part}
use Rattle.ada_meaning.specs.declared.state.Mode.TheVariants.{Running, Raising}
use Rattle.ada_meaning.specs.Event.{Followed}
use Rattle.ada_meaning.specs.Frame.{Does, Evaluates, Targets, StoresIn, Receives}
use Rattle.ada_meaning.specs.Heap.{finds}
use Rattle.ada_meaning.specs.State.{Activation, Master}
use Rattle.ada_meaning.specs.Step.{jumping, before_last, last_of, path_next, target_next, stored_next, store_next, received_next, receive_next, assign_next, stmts_next, selected}
use Rattle.ada_meaning.specs.Named.{Object, State, object_at, filled, store, look, named, inside}
use Rattle.ada_owners.specs.Places.{is_there}
use Rattle.ada_owners.specs.Keeping.{IsThere}
use Rattle.ada_owners.specs.Walks.{walk}
use Rattle.ada_owners.proofs.Changes.{store_is}
use Rattle.ada_typed.specs.Holding.{cells_of}
use Rattle.ada_typed.proofs.Values.{OperandKind, of_kind, AreComputed}
use Rattle.ada_typed.proofs.Control as typed
use Rattle.ada_sound.proofs.Fits.{MayFollow, is_object, component_access, place_at, store_blank}
use Rattle.ada_sound.proofs.Stored.{Stored, stored_filled}
use Rattle.ada_sound.proofs.Alters.{alters_set}
use Rattle.ada_sound.proofs.Begins.{root_follows}
use Rattle.ada_sound.proofs.Invariant.{outers, behind_right, begun, along, Known, Control, Rooms, ReadyIn, Goes, Raised, RunsOn, RunsAfter, RaisesAfter, NoneBroken, MayRaise, RaisesAt, Pairs, IsOne, component_among, Doing, LeadsTo, FillsIn, StaysFound, Receiving, Working, Half, HalfBy, Resumes, Clearing, EvaluatesTo, TargetsTo, StoringIn, StoresOn, Accepts, IsFollowed, Stepped, Fine, front, final, ways}
use Rattle.ada_sound.proofs.Objects.{set_here, set_other}
use Rattle.ada_sound.proofs.Values.{same_or_not}
use Rattle.ada_sound.proofs.Ready.{stores_ready, running, at_work, at_less, stays, runs_ready, resumes_ready, goes_ready, jumps_less}
use Rattle.ada_sound.proofs.Followings.{first_kept, kept_apart}
use Rattle.ada_sound.proofs.Raising.{or_left}
use Rattle.ada_sound.proofs.Roots.{object_there, front_raises}
use Rattle.ada_sound.proofs.Outcomes.{behind_good, raised_before, using_goes, ends_goes}
use Rattle.ada_sound.proofs.Nestings.{starts}
use Rattle.ada_sound.proofs.Back.{stored_before}
use Rattle.ada_sound.proofs.Assigned.{kind_names, kind_blank, selected_of}
use Rattle.ada_sound.proofs.Walks.{finds_fine, half_fine}

-- An object that is there is followed.
pub followed : {heap : List Object} (o : Id) → IsThere heap o → IsFollowed (Names o) heap
followed o (object, found, there) = record { id = o; object = object; is = refl; found = found; there = there }

-- A component gets what names nothing.
blank_works : {known : Known} {heap : List Object} {places : List Value} {ms : List Master} {more : Rooms → Holds → Type 0} (o : Id) (object : Object) (c : ℕ) (v : Value) → object_at heap o ≡ Some object → ((p : Id) → v ≡ Names p → ⊥) → Working known heap places ms more → Working known (store heap (Names o) c v) places ms more
blank_works {heap = heap} o object c v found none w = record {
  rooms = w.rooms;
  holds = w.holds;
  stored = rw (store_is heap o object found c v) (stored_filled o object c v found w.stored);
  roomed = w.roomed;
  fit = store_blank o object c v found none w.fit;
  rest = w.rest;
}

-- What flow says of a component that is a target: its path uses nothing that is lost, variables that are moved are lost where it comes to its end, and
-- it may raise an exception.
target_goes : (types : List TypeForm) (cleared : Bool) (path : PathForm) (right : RightForm) (holds : Holds) (more raised : Holds → Type 0) → Goes (gives_component types no_tracks cleared path right holds) more raised → (NoneBroken holds (uses_in_target path)) × more (without_values (moved_by_right no_tracks false right) holds) × (path_raises path ≡ true → raised holds)
target_goes types cleared path right holds more raised g =
    let after = without_values (moved_by_right no_tracks false right) holds in
    let may = path_raises path || evaluation_raises right in
    let uses = uses_in_right types path.spot false cleared (Some path) right in
    let u = using_goes (uses_in_target path ++ uses) holds (ends_with may holds after) more raised g in
    let n = ends_goes may holds after more raised u.1 in
    ((kept_apart holds (uses_in_target path) uses u.0).0, n.0, (λ raises. n.1 (or_left (path_raises path) (evaluation_raises right) raises)))

-- Null leaves all that is known as it is.
cleared_goes : (types : List TypeForm) (variables : List VariableForm) (cs : List ℕ) (d : ℕ) (ds : List ℕ) (path : PathForm) (holds : Holds) (more raised : Holds → Type 0) → cs ≡ d ∷ ds → Goes (gives_seen types variables no_tracks false false cs path nothing holds) more raised → more holds
cleared_goes types variables [] d ds path holds more raised is g = absurd (cc is)
cleared_goes types variables (c ∷ cs) d ds path holds more raised is g = (target_goes types false path nothing holds more raised g).1

module _ (known : Known) (a : Activation Value) (rest : List (Activation Value)) (s : State) where
  -- The path of a target may be followed.
  target_follows : {more : Rooms → Holds → Type 0} (c : ℕ) (cs : List ℕ) (target : PathForm) → target.selectors ≡ c ∷ cs → (w : Working known s.heap a.places s.masters more) → NoneBroken w.holds (uses_in_target target) → MayFollow s.heap (begun a.places target)
  target_follows c cs target is w kept = root_follows target.root target.spot (rw is at (first_kept w.holds (reads_it target) [] kept).0) w.fit

  -- Where its path may raise Constraint_Error.
  target_raises : {more : Rooms → Holds → Type 0} (c : ℕ) (cs : List ℕ) (target : PathForm) (k : Control) → target.selectors ≡ c ∷ cs → (target.of_record ≡ true → is_object known.program.variables target.root ≡ true) → (w : Working known s.heap a.places s.masters more) → NoneBroken w.holds (uses_in_target target) → MayRaise known (path_raises target) ConstraintError k w.rooms w.holds → RaisesAt known (begun a.places target) (before_last (inside (place_at a.places target.root) c) cs) k w.rooms w.holds
  target_raises c cs target k is whole w kept may =
      front_raises known (begun a.places target) k w.rooms w.holds target.of_record c (inside (place_at a.places target.root) c) cs
      (λ object. object_there target.root target.spot (rw is at (first_kept w.holds (reads_it target) [] kept).0) (whole object) w.fit) (rw is at may)

  -- An assignment to a component begins: its object is found first.
  pub component_begins : (cleared : Bool) (c : ℕ) (cs : List ℕ) (target : PathForm) (right : RightForm) (fs : StmtsForm) (k : Control) → target.selectors ≡ c ∷ cs → (target.of_record ≡ true → is_object known.program.variables target.root ≡ true) → StaysFound known right target → Working known s.heap a.places s.masters (λ rooms holds. Goes (gives_component known.program.types no_tracks cleared target right holds) (RunsAfter known right (Does fs ∷ k) rooms) (RaisesAfter known right k rooms (component_among known (path_raises target) right)) × Pairs cleared right (λ taken. IsOne taken.selectors) (Does fs ∷ k)) → Fine known s.heap s.masters (path_next named (before_last (inside (place_at a.places target.root) c) cs) (begun a.places target) (running (Targets (last_of (inside (place_at a.places target.root) c) cs) right ∷ Does fs ∷ k) a rest s))
  component_begins cleared c cs target right fs k is whole stays_found w =
      let among = component_among known (path_raises target) right in
      let g = target_goes known.program.types cleared target right w.holds (RunsAfter known right (Does fs ∷ k) w.rooms) (RaisesAfter known right k w.rooms among) w.rest.0 in
      finds_fine known a rest s a.operands (Targets (last_of (inside (place_at a.places target.root) c) cs) right ∷ Does fs ∷ k) (before_last (inside (place_at a.places target.root) c) cs) (begun a.places target)
      (at_work w (
        target_raises c cs target (Does fs ∷ k) is whole w g.0 (λ may. raised_before among (ways known k w.rooms) w.holds (behind_right known right w.holds) (behind_good known right w.holds) (g.2 may) ConstraintError (or_left (path_raises target || right_raises (is_same ConstraintError) right) (right_starts known.implicit (is_same ConstraintError) right) (or_left (path_raises target) (right_raises (is_same ConstraintError) right) may))),
        (target, cleared, w.rest.0, w.rest.1, (ap (λ (ds : List ℕ). walk s.heap (begun a.places target) (front (selected named (place_at a.places target.root) ds))) is, ap (λ (ds : List ℕ). final (selected named (place_at a.places target.root) ds)) is), stays_found),
      )) (target_follows c cs target is w g.0)

  -- So does a read into a component.
  pub get_begins : (c : ℕ) (cs : List ℕ) (target : PathForm) (fs : StmtsForm) (k : Control) → target.selectors ≡ c ∷ cs → (target.of_record ≡ true → is_object known.program.variables target.root ≡ true) → Working known s.heap a.places s.masters (λ rooms holds. NoneBroken holds (uses_in_target target) × MayRaise known (path_raises target) ConstraintError (Does fs ∷ k) rooms holds × MayRaise known true EndError (Does fs ∷ k) rooms holds × RunsOn known (Does fs ∷ k) rooms holds) → Fine known s.heap s.masters (path_next named (before_last (inside (place_at a.places target.root) c) cs) (begun a.places target) (running (Receives (last_of (inside (place_at a.places target.root) c) cs) ∷ Does fs ∷ k) a rest s))
  get_begins c cs target fs k is whole w =
      finds_fine known a rest s a.operands (Receives (last_of (inside (place_at a.places target.root) c) cs) ∷ Does fs ∷ k) (before_last (inside (place_at a.places target.root) c) cs) (begun a.places target)
      (at_work w (target_raises c cs target (Does fs ∷ k) is whole w w.rest.0 w.rest.1, w.rest.2, w.rest.3)) (target_follows c cs target is w w.rest.0)

  -- Behind the second half of a take pair come the other statements.
  cleared_runs : (o : Id) (c d : ℕ) (ds : List ℕ) (path : PathForm) (later : StmtsForm) (k : Control) → path.selectors ≡ d ∷ ds → Working known (store s.heap (Names o) c Null) a.places s.masters (RunsOn known (Does (a_stmt (assigns path nothing) later) ∷ k)) → Working known (store s.heap (Names o) c Null) a.places s.masters (RunsOn known (Does later ∷ k))
  cleared_runs o c d ds path later k is w =
      let runs = ways known k w.rooms in
      let first = starts known (assigns path nothing) later k runs w.holds w.rest in
      at_work w (cleared_goes known.program.types known.program.variables path.selectors d ds path w.holds (Doing known later k runs) (Raised (λ e. stmt_raises (effects_of known.implicit known.program) (is_same e) (assigns path nothing)) runs) is first.1)

  -- Its object is found first, which is known to be there.
  pair_ends : (path : PathForm) (cs : List ℕ) (later : StmtsForm) (k : Control) (o : Id) (c : ℕ) → path.selectors ≡ cs → final (along a.places path) ≡ Some c → walk s.heap (begun a.places path) (front (along a.places path)) ≡ finds (Names o) → IsThere s.heap o → Working known (store s.heap (Names o) c Null) a.places s.masters (RunsOn known (Does (a_stmt (assigns path nothing) later) ∷ k)) → Fine known s.heap s.masters (assign_next named cs path.root nothing (running (Does later ∷ k) a rest s))
  pair_ends path [] later k o c is last found there w = absurd (cc (rw is at last))
  pair_ends path (d ∷ ds) later k o c is last found there w =
      let same : last_of (inside (place_at a.places path.root) d) ds ≡ c = cc (rw is at last) in
      let walks : walk s.heap (begun a.places path) (before_last (inside (place_at a.places path.root) d) ds) ≡ finds (Names o) = rw is at found in
      half_fine known a rest s a.operands (Targets (last_of (inside (place_at a.places path.root) d) ds) nothing ∷ Does later ∷ k) (before_last (inside (place_at a.places path.root) d) ds) (begun a.places path)
      (refl, o, walks, rw same (there, cleared_runs o c d ds path later k is w))

  -- The second half of a take pair begins.
  pub half_begins : (types : List TypeDefinition) (bodies : List BodyForm) (fs : StmtsForm) (k : Control) → Half known fs k s.heap a.places s.masters → Fine known s.heap s.masters (stmts_next named types bodies fs (running k a rest s))
  half_begins types bodies fs k h = rw h.is (pair_ends h.path h.path.selectors h.later k h.o h.c refl h.last h.found h.there (rw h.is at h.works))

module _ (known : Known) (k : Control) (a : Activation Value) (rest : List (Activation Value)) (s : State) where
  -- What goes into the component of the object that was found is evaluated next: null counts as stored already.
  evaluates : (right : RightForm) (o : Id) (object : Object) (c : ℕ) → object_at s.heap o ≡ Some object → is_there object.stage ≡ true → Working known s.heap a.places s.masters (λ rooms holds. FillsIn known right (LeadsTo s.heap a.places (Names o) [] c) rooms holds k) → EvaluatesTo known right (StoresIn (Names o) c ∷ k) s.heap a.places s.masters
  evaluates nothing o object c found listed w =
      let g = target_goes known.program.types w.rest.1 w.rest.0 nothing w.holds (RunsOn known k w.rooms) (Raised (component_among known (path_raises w.rest.0) nothing) (ways known k w.rooms)) w.rest.2 in
      ((object, found, listed), blank_works {more = RunsOn known k} o object c Null found (λ p e. cc e) (at_work w g.1))
  evaluates (value_of path) o object c found listed w = at_work w ((object, found, listed), w.rest)
  evaluates (allocates access items) o object c found listed w = at_work w ((object, found, listed), w.rest)
  evaluates (allocates_default access) o object c found listed w = at_work w ((object, found, listed), w.rest)
  evaluates (computes e) o object c found listed w = at_work w ((object, found, listed), w.rest)

  -- The object that was found is there.
  found_fine : {under : List Id} (o : Id) (there : IsThere s.heap o) (c : ℕ) (right : RightForm) (below : List Value) → Stored under s.heap s.masters → EvaluatesTo known right (StoresIn (Names o) c ∷ k) s.heap a.places s.masters → Fine known s.heap s.masters (target_next named (Names o) c right (look s.heap (Names o)) (running k (record a { operands = below }) rest s))
  found_fine o (object, found, listed) c right below stored r =
      rw (found, (stored.sane o object found).there_exists listed)
      (stays known (Followed (Names o)) (running (Evaluates right ∷ StoresIn (Names o) c ∷ k) (record a { operands = below }) rest s) (tt, inl r) (followed o (object, found, listed)))

  -- The object is there, or null raises Constraint_Error.
  pub target_fine : (v : Value) (below : List Value) (c : ℕ) (right : RightForm) (kinds : List OperandKind) → typed.Fits known.program (cells_of s.heap) kinds (Targets c right ∷ k) → AreComputed known.program.types (cells_of s.heap) kinds (v ∷ below) → TargetsTo known v c right k s.heap a.places s.masters → Fine known s.heap s.masters (target_next named v c right (look s.heap v) (running k (record a { operands = below }) rest s))
  target_fine Null below c right kinds fits computed (inl w) = jumps_less known k (record a { operands = below }) rest s (Raising ConstraintError) (at_work w (w.rest.1 refl))
  target_fine (Names o) below c right kinds fits computed (inl w) =
      let there : IsThere s.heap o = w.rest.0 in
      found_fine o there c right below w.stored (evaluates right o there.0 c there.1 there.2 (at_work w w.rest.2))
  target_fine (Scalar n) below c right kinds fits computed (inl w) = tt
  target_fine (Part object_id base) below c right kinds fits computed (inl w) = tt
  target_fine Null below c right kinds fits computed (inr h) = absurd h.1
  target_fine (Names o) below c right kinds fits computed (inr h) =
      rw (h.0) (found_fine o h.1.0 c nothing below (stored_before s.heap s.masters (Names o) c Null h.1.1.stored) h.1)
  target_fine (Scalar n) below c right kinds fits computed (inr h) = absurd h.1
  target_fine (Part object_id base) below c right kinds fits computed (inr h) = absurd h.1

  -- A value is stored in an object that is there, if it has such a component.
  put_fine : (input : List ℤ) (o : Id) (object : Object) (c : ℕ) (v : Value) (below : List Value) → object_at s.heap o ≡ Some object → is_there object.stage ≡ true → ReadyIn known Running k (store s.heap (Names o) c v) a.places below s.masters → Stepped known s.heap (Followed (Names o)) (record (running k (record a { operands = below }) rest s) { heap = store s.heap (Names o) c v; input = input })
  put_fine input o object c v below found listed r = record {
    ready = (tt, r);
    alters = rw (store_is s.heap o object found c v) (alters_set s.heap (Followed (Names o)) o object (filled c v object) found (refl, refl, refl) (λ h. h) (λ h. inl h));
    says = followed o (object, found, listed);
  }

  stored_fine : (o : Id) (object : Object) (c : ℕ) (v : Value) (below : List Value) (t : Option Value) → object_at s.heap o ≡ Some object → is_there object.stage ≡ true → ReadyIn known Running k (store s.heap (Names o) c v) a.places below s.masters → Fine known s.heap s.masters (stored_next named (Names o) c v t (running k (record a { operands = below }) rest s))
  stored_fine o object c v below None found listed r = tt
  stored_fine o object c v below (Some before) found listed r = put_fine s.input o object c v below found listed r

  pub filled_fine : {under : List Id} (o : Id) (there : IsThere s.heap o) (c : ℕ) (v : Value) (below : List Value) → Stored under s.heap s.masters → ReadyIn known Running k (store s.heap (Names o) c v) a.places below s.masters → Fine known s.heap s.masters (store_next named (Names o) c v (look s.heap (Names o)) (running k (record a { operands = below }) rest s))
  filled_fine o (object, found, listed) c v below stored r =
      let looks : look s.heap (Names o) ≡ finds object.cell = rw (found, (stored.sane o object found).there_exists listed) refl in
      rw looks (stored_fine o object c v below (slice_get object.cell.values c) found listed r)

  -- Objects are stored before a value comes, on which a take pair may rely.
  half_stored : (heap : List Object) (k : Control) → HalfBy known k heap a.places s.masters → Stored (outers known).under heap s.masters
  half_stored heap [] h = absurd h
  half_stored heap (Does fs ∷ k) h = stored_before heap s.masters (Names h.o) h.c Null h.works.stored
  half_stored heap (f ∷ k) h = absurd h

  resumed_stored : (heap : List Object) → Resumes known heap a.places s.masters k → Stored (outers known).under heap s.masters
  resumed_stored heap (inl w) = w.stored
  resumed_stored heap (inr h) = half_stored heap k h

  -- Where a component holds no access values, what comes names nothing.
  stored_blank : (o : Id) (object : Object) (c : ℕ) (v : Value) (below : List Value) (kinds : List OperandKind) → object_at s.heap o ≡ Some object → component_access known.program.types object c ≡ None → typed.Fits known.program (cells_of s.heap) kinds (StoresIn (Names o) c ∷ k) → AreComputed known.program.types (cells_of s.heap) kinds (v ∷ below) → (p : Id) → v ≡ Names p → ⊥
  stored_blank o object c v below kinds found none (ks, access, kind, is, name, designates, selected, later) computed =
      let newest : AreComputed known.program.types (cells_of s.heap) (of_kind kind ∷ ks) (v ∷ below) = rw is at computed in
      let here = kind_names known.program.types s.heap (variable.Access access) o object designates found in
      let same = selected_of known.program.types (Some (variable.Access access)) object c kind here selected in
      kind_blank known.program.types (cells_of s.heap) kind v (sym same ∙ none) newest.0

  -- The components that get something next are there still.
  accepts_later : (q : Value) (d : ℕ) (access : Option ℕ) (o : Id) (object : Object) (c : ℕ) (v : Value) → object_at s.heap o ≡ Some object → Accepts known s.heap q d access → Accepts known (store s.heap (Names o) c v) q d access
  accepts_later Null d access o object c v found h = h
  accepts_later (Scalar n) d access o object c v found h = h
  accepts_later (Part object_id base) d access o object c v found h = h
  accepts_later (Names q) d access o object c v found (other, at, listed, is) = go (same_or_not q.0 o.0)
    where
      go : (q.0 ≡ o.0) ⊎ (q.0 ≢ o.0) → Accepts known (store s.heap (Names o) c v) (Names q) d access
      go (inl same) =
          let here : q ≡ o = ap (λ n. record { 0 = n }) same in
          let there : object_at s.heap o ≡ Some other = rw here at at in
          let one : other ≡ object = cc (there, found) in
          rw found (filled c v object, rw here (set_here s.heap o.0 object (filled c v object) found), rw (← one) listed, rw (← one) is)
      go (inr ne) = rw found (other, rw (set_other s.heap o.0 q.0 (filled c v object) ne) at, listed, is)

  stores_later : (k' : Control) (o : Id) (object : Object) (c : ℕ) (v : Value) → object_at s.heap o ≡ Some object → (rooms : Rooms) (holds : Holds) → StoresOn known s.heap k' rooms holds → StoresOn known (store s.heap (Names o) c v) k' rooms holds
  stores_later [] o object c v found rooms holds h = h
  stores_later (StoresIn q d ∷ k') o object c v found rooms holds h = (accepts_later q d None o object c v found h.0, stores_later k' o object c v found rooms holds h.1)
  stores_later (f ∷ k') o object c v found rooms holds h = h

  -- A value goes into a component.
  pub store_fine : (o v : Value) (below : List Value) (c : ℕ) (kinds : List OperandKind) → typed.Fits known.program (cells_of s.heap) kinds (StoresIn o c ∷ k) → AreComputed known.program.types (cells_of s.heap) kinds (v ∷ below) → StoringIn known o c v k s.heap a.places s.masters → Fine known s.heap s.masters (store_next named o c v (look s.heap o) (running k (record a { operands = below }) rest s))
  store_fine Null v below c kinds fits computed (inl t) = absurd t.0
  store_fine (Names o) v below c kinds fits computed (inl t) = filled_fine o t.0 c v below (stored_before s.heap s.masters (Names o) c v (resumed_stored (store s.heap (Names o) c v) t.1)) (resumes_ready known k (store s.heap (Names o) c v) a.places below s.masters t.1)
  store_fine (Scalar n) v below c kinds fits computed (inl t) = absurd t.0
  store_fine (Part object_id base) v below c kinds fits computed (inl t) = absurd t.0
  store_fine Null v below c kinds fits computed (inr w) = absurd w.rest.0
  store_fine (Names o) v below c kinds fits computed (inr w) =
      let r = w.rest.0 in
      filled_fine o (r.0, r.1, r.2) c v below w.stored (stores_ready known k (store s.heap (Names o) c v) a.places below s.masters (let after = blank_works {more = StoresOn known s.heap k} o r.0 c v r.1 (stored_blank o r.0 c v below kinds r.1 r.3 fits computed) (at_work w w.rest.1) in
      at_work after (stores_later k o r.0 c v r.1 after.rooms after.holds after.rest)))
  store_fine (Scalar n) v below c kinds fits computed (inr w) = absurd w.rest.0
  store_fine (Part object_id base) v below c kinds fits computed (inr w) = absurd w.rest.0

  -- A component becomes null, which counts as stored already.
  pub clear_fine : (o : Value) (c : ℕ) → Clearing known o c k s.heap a.places s.masters → Fine known s.heap s.masters (store_next named o c Null (look s.heap o) (running k a rest s))
  clear_fine Null c h = absurd h
  clear_fine (Names o) c h = filled_fine o h.0 c Null a.operands (stored_before s.heap s.masters (Names o) c Null h.1.stored) (runs_ready known k (store s.heap (Names o) c Null) a.places a.operands s.masters h.1)
  clear_fine (Scalar n) c h = absurd h
  clear_fine (Part object_id base) c h = absurd h

  -- So does a number of the input, if there is one.
  received_fine : (o : Id) (object : Object) (c : ℕ) (below : List Value) (input : List ℤ) (t : Option Value) → object_at s.heap o ≡ Some object → is_there object.stage ≡ true → Working known s.heap a.places s.masters (Receiving known s.heap (Names o) k) → Fine known s.heap s.masters (received_next named (Names o) c input t (running k (record a { operands = below }) rest s))
  received_fine o object c below input None found listed w = tt
  received_fine o object c below [] (Some before) found listed w =
      stays known (Followed (Names o)) (jumping (Raising EndError) (running k (record a { operands = below }) rest s))
      (tt, goes_ready known (Raising EndError) k s.heap a.places [] s.masters (at_less w (w.rest.2 refl))) (followed o (object, found, listed))
  received_fine o object c below (i ∷ is) (Some before) found listed w =
      put_fine is o object c (named.integer i) below found listed
      (runs_ready known k (store s.heap (Names o) c (named.integer i)) a.places below s.masters (blank_works {more = RunsOn known k} o object c (named.integer i) found (λ p e. cc e) (at_work w w.rest.3)))

  pub receive_fine : (v : Value) (below : List Value) (c : ℕ) → Working known s.heap a.places s.masters (Receiving known s.heap v k) → Fine known s.heap s.masters (receive_next named v c (look s.heap v) (running k (record a { operands = below }) rest s))
  receive_fine Null below c w = jumps_less known k (record a { operands = below }) rest s (Raising ConstraintError) (at_work w (w.rest.1 refl))
  receive_fine (Names o) below c w =
      let r = w.rest.0 in
      rw (r.1, (w.stored.sane o r.0 r.1).there_exists r.2) (received_fine o r.0 c below s.input (slice_get r.0.cell.values c) r.1 r.2 w)
  receive_fine (Scalar n) below c w = tt
  receive_fine (Part object_id base) below c w = tt
