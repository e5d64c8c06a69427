-- Declarations and statements begin.

use Rattle.std.proofs.Common.{subst, ◌≡◌, ◌≢◌, ℕ, ◌+◌, Bool, true, false, ◌&&◌, ◌||◌, not, List, [], ◌∷◌, refl, sym, ap, ◌∙◌, inl, inr}
use Rattle.std.specs.Prelude.{ℤ, pos, ◌+ℤ◌, int_le, ◌==◌, if◌then◌else◌, Option, Some, None, is_some}
use Rattle.std.specs.List.{slice_set, list_all}
use Rattle.std.proofs.lemmas.Bool.{eq-eqb, and_parts}
use Rattle.ada_program.specs.declared.program.TypeDefinition.{TypeDefinition}
use Rattle.ada_program.specs.WellFormed.{callable_in, is_this, access_of, selectors_kind, variable_kind, path_kind, path_access, object_named, is_record_path, record_fits, right_fits, lends_to, names_borrower, is_freed_by, is_record_object}
use Rattle.ada_program.specs.declared.program.Exception.{Exception}
use Rattle.ada_program.specs.declared.program.Exception.TheVariants.{ConstraintError, EndError}
use Rattle.ada_program.specs.declared.program.VariableKind.{VariableKind}
use Rattle.ada_program.specs.Form.{PathForm, ExpressionForm, RightForm, nothing, value_of, allocates, allocates_default, computes, StmtForm, skips, assigns, assigns_record, frees, gets, writes, writes_text, chooses, repeats, counts, exits, calls, returns, raises, encloses, StmtsForm, no_stmts, a_stmt, BranchesForm, otherwise, a_branch, HandlersForm, DeclarationForm, creates_pool, collects, declares, declares_record}
use Rattle.ada_program.specs.Handling.{is_same}
use Rattle.ada_program.specs.Freed.{statement_frees_own, statements_free_own}
use Rattle.ada_program.specs.Typed.{pool_named}
use Rattle.ada_program.specs.ProgramForm.{BodyForm}
use Rattle.ada_effects.specs.Effects.{effects_of, stmt_raises, expression_raises, path_raises, condition_raises, right_raises, right_starts, right_frees, ending_frees}
use Rattle.ada_flow.specs.Flow.{Holds, Outcome, hold_at, loses, finalizes, released, without_freed, uses_in_target, uses_in_start, initializes, ends_with, bounds_flow, gives, gives_seen, gets_path, frees_seen, leaves_path, clears, begins_pair, exit_of, declared_at, collected, gone_with, computed, component_passes, passes_it, waits_for}
use Rattle.ada_flow.specs.Tracking.{no_tracks}
use Rattle.ada_meaning.specs.declared.state.Value.{Value}
use Rattle.ada_meaning.specs.declared.state.Mode.TheVariants.{Raising, Exiting, Returning}
use Rattle.ada_meaning.specs.Frame.{Elaborates, Does, Decides, Repeats, Turns, Ranges, Counts, Exits, Handles, Closes, Evaluates, Computes, Stores, Declares, Writes}
use Rattle.ada_meaning.specs.Event.{Line, Quiet}
use Rattle.ada_meaning.specs.State.{collection, storage_pool, Activation, Master, pools_in, pool_for}
use Rattle.ada_meaning.specs.Step.{moves, owning, assign_next, frees_next, gets_next, branches_next, decided_next, turn_next, repeats_next, turned_next, count_turn_next, counts_next, ranges_next, exit_next, exited_next, has_parts, record_assign_next, stmt_next, stmts_next, declaration_next, declarations_next}
use Rattle.ada_meaning.specs.Named.{Object, State, named}
use Rattle.ada_sound.proofs.Stored.{stored_owning, stored_entered}
use Rattle.ada_typed.specs.Holding.{cells_of}
use Rattle.ada_typed.proofs.OfKinds.{record_initial_is_of_kind, initial_is_of_kind, statement_is_of_kind, statements_are_of_kind}
use Rattle.ada_typed.proofs.Values.{AreHeld}
use Rattle.ada_sound.proofs.Fits.{is_object, weaker_fit, put_lost}
use Rattle.ada_sound.proofs.Orderings.{good_losing, without_freed_good}
use Rattle.ada_sound.proofs.LeftFinalized.{freed_none}
use Rattle.ada_sound.proofs.Assigned.{this_is, freed_at}
use Rattle.ada_sound.proofs.Homes.{HaveHomes}
use Rattle.ada_sound.proofs.Standing.{FreesAmong}
use Rattle.ada_sound.proofs.Roots.{root_object, value_root, right_leads, integer_leads}
use Rattle.ada_sound.proofs.Copied.{record_there}
use Rattle.ada_sound.proofs.Records.{has_place, record_fine}
use Rattle.ada_sound.proofs.Wholes.{record_begins}
use Rattle.ada_sound.proofs.RecordAssignments.{copy_begins}
use Rattle.ada_sound.proofs.Invariant.{AreRecords, outers, Spares, owed_by, Known, Where, below, Control, Rooms, Roomed, Goes, To, Raised, Doing, Choosing, TurnsTo, condition_among, assignment_among, component_among, Counting, Elaborating, Handled, Outside, RunsOn, RunsAfter, RaisesAfter, behind_right, Deciding, TurningOn, ExitingTo, Computing, IsOne, NoneBroken, Pairs, StaysFound, Takes, Working, Resumes, EvaluatesTo, Fine, ways}
use Rattle.ada_sound.proofs.Ready.{running, at_work, with_less, at_less, stays, lost_stored, ready_on, runs_on, jumps, jumps_less}
use Rattle.ada_sound.proofs.Nestings.{Starting, starts, others_do, branch_does, chooses_from, repeats_from, turn_runs, counts_from, count_runs, exit_parts, encloses_from}
use Rattle.ada_sound.proofs.Outcomes.{Down, return_goes, goes_map, to_before, raised_before, raised_less, then_goes, using_goes, computed_goes, initializes_after, loses_goes, before_lost}
use Rattle.ada_sound.proofs.Raising.{or_left, or_right, same_here}
use Rattle.ada_sound.proofs.Leavings.{all_among}
use Rattle.ada_sound.proofs.Targets.{component_begins, get_begins, half_begins}
use Rattle.ada_sound.proofs.Followings.{first_kept}
use Rattle.ada_sound.proofs.Frees.{FreesTo, free_fine}
use Rattle.ada_sound.proofs.Handings.{passed_safe}
use Rattle.ada_sound.proofs.Releases.{free_begins}
use Rattle.ada_sound.proofs.CallStatements.{MayCall, call_begins}
use Rattle.ada_sound.proofs.CopiedOwners.{CopiesWell}
use Rattle.ada_sound.proofs.Defaults.{Reaches}
use Rattle.ada_program.specs.Controlled.{number_of}
use Rattle.ada_typed.proofs.Parts.{shown_number}

-- Which exceptions a Free may raise, and which Get may.
abbrev free_among : PathForm → Exception → Bool
free_among path e = is_same e ConstraintError && path_raises path

abbrev get_among : PathForm → Exception → Bool
get_among target e = is_same e EndError || (is_same e ConstraintError && path_raises target)

-- What is raised where a variable gets a value is among what is raised where a target does.
component_more : (a b c : Bool) → (b || c) ≡ true → ((a || b) || c) ≡ true
component_more true b c is = refl
component_more false b c is = is

-- The target of the first half of a take pair leaves the path alone that is moved.
another : (a b : ℕ) → not (a == b) ≡ true → a ≢ b
another a b other same = absurd (cc (rw (eq-eqb a b same) at other))

pairs_by : (b c : Bool) (path : PathForm) (leaves : PathForm → Type 0) (fs : StmtsForm) (k : Control) → (b ≡ true → leaves path) → c ≡ clears path fs → Pairs (b && c) (value_of path) leaves (Does fs ∷ k)
pairs_by false c path leaves fs k l e = tt
pairs_by true false path leaves fs k l e = tt
pairs_by true true path leaves fs k l e = (l refl, sym e)

leaves_variable : (target : PathForm) (path : PathForm) → target.selectors ≡ [] → leaves_path target.selectors path.selectors (not (target.root == path.root)) ≡ true → target.root ≢ path.root
leaves_variable target path is leaves = another target.root path.root (rw is at leaves)

leaves_one : (c : ℕ) (cs ds : List ℕ) (other : Bool) → leaves_path (c ∷ cs) ds other ≡ true → IsOne ds
leaves_one c cs [] other e = absurd (cc e)
leaves_one c cs (d ∷ []) other e = tt
leaves_one c cs (d ∷ f ∷ ds) other e = absurd (cc e)

pairs_variable : (target : PathForm) (right : RightForm) (fs : StmtsForm) (k : Control) → target.selectors ≡ [] → Pairs (begins_pair (assigns target right) fs) right (λ path. target.root ≢ path.root) (Does fs ∷ k)
pairs_variable target nothing fs k is = tt
pairs_variable target (value_of path) fs k is =
    pairs_by (leaves_path target.selectors path.selectors (not (target.root == path.root))) (clears path fs) path (λ p. target.root ≢ p.root) fs k (leaves_variable target path is) refl
pairs_variable target (allocates access items) fs k is = tt
pairs_variable target (allocates_default access) fs k is = tt
pairs_variable target (computes e) fs k is = tt

pairs_component : (c : ℕ) (cs : List ℕ) (target : PathForm) (right : RightForm) (fs : StmtsForm) (k : Control) → target.selectors ≡ c ∷ cs → Pairs (begins_pair (assigns target right) fs) right (λ taken. IsOne taken.selectors) (Does fs ∷ k)
pairs_component c cs target nothing fs k is = tt
pairs_component c cs target (value_of path) fs k is =
    pairs_by (leaves_path target.selectors path.selectors (not (target.root == path.root))) (clears path fs) path (λ p. IsOne p.selectors) fs k
    (λ e. leaves_one c cs path.selectors (not (target.root == path.root)) (rw is at e)) refl
pairs_component c cs target (allocates access items) fs k is = tt
pairs_component c cs target (allocates_default access) fs k is = tt
pairs_component c cs target (computes e) fs k is = tt

-- Flow sees to it that a component that gets a new object is found still, once that is initialized.
abbrev pub StaysFoundAt : Known → (cs : List ℕ) → RightForm → PathForm → Type 0
StaysFoundAt known [] right target = Unit {0}
StaysFoundAt known (c ∷ cs) right target = StaysFound known right target

stays_found : (known : Known) (holds : Holds) (cs : List ℕ) (target : PathForm) (right : RightForm) (to : VariableKind) → target.selectors ≡ cs
    → path_kind known.program.types known.program.variables target ≡ Some to → NoneBroken holds (uses_in_start known.program.types known.program.variables no_tracks known.implicit target right)
    → StaysFoundAt known cs right target
stays_found known holds [] target right to is leads kept = tt
stays_found known holds (c ∷ cs) target nothing to is leads kept = tt
stays_found known holds (c ∷ cs) target (value_of path) to is leads kept = tt
stays_found known holds (c ∷ cs) target (allocates access items) to is leads kept = tt
stays_found known holds (c ∷ cs) target (allocates_default access) to is leads kept =
    let may = known.implicit.start_frees access in
    let unsafe = component_passes known.program.types known.program.variables may target in
    let used : NoneBroken holds (waits_for known.program.types known.program.variables may target.selectors target) = kept in
    let first = subst (λ (ds : List ℕ). NoneBroken holds (waits_for known.program.types known.program.variables may ds target)) is used in
    ((passed_safe unsafe (hold_at holds target.root) target.spot (first_kept holds (passes_it unsafe target) [] first).0).0, to, leads)
stays_found known holds (c ∷ cs) target (computes e) to is leads kept = tt

-- Is a call next (6.4)?
abbrev pub is_call : StmtForm → Bool
is_call (calls procedure actuals) = true
is_call f = false

abbrev pub begins_call : StmtsForm → Bool
begins_call no_stmts = false
begins_call (a_stmt f fs) = is_call f

module _ (known : Known) where
  roomed_collects : (item access : ℕ) (pool : Option ℕ) (ds : List DeclarationForm) (fs : StmtsForm) (hs : HandlersForm) (k : Control) (holds : Holds) (ms : List Master) (rooms : Rooms) → Roomed (below known) ms rooms → RunsOn known (Elaborates (collects access ∷ ds) fs hs ∷ k) rooms holds → Roomed (below known) (owning (record { number = item; owned = collection access pool }) ms) rooms
  roomed_collects item access pool ds fs hs k holds ms [] r e = absurd e
  roomed_collects item access pool ds fs hs k holds [] (gone ∷ rooms) r e = absurd r
  roomed_collects item access pool ds fs hs k holds (m ∷ ms) (gone ∷ rooms) r e = ((e.0.0, r.0), r.1)

  roomed_pool : (item p number : ℕ) (ds : List DeclarationForm) (fs : StmtsForm) (hs : HandlersForm) (k : Control) (holds : Holds) (ms : List Master) (rooms : Rooms) → Roomed (below known) ms rooms → RunsOn known (Elaborates (creates_pool p ∷ ds) fs hs ∷ k) rooms holds → Roomed (below known) (owning (record { number = item; owned = storage_pool p number }) ms) rooms
  roomed_pool item p number ds fs hs k holds ms [] r e = absurd e
  roomed_pool item p number ds fs hs k holds [] (gone ∷ rooms) r e = absurd r
  roomed_pool item p number ds fs hs k holds (m ∷ ms) (gone ∷ rooms) r e = ((tt, r.0), r.1)

  -- What declarations go on with.
  collects_more : (access : ℕ) (ds : List DeclarationForm) (fs : StmtsForm) (hs : HandlersForm) (k : Control) (holds : Holds) (rooms : Rooms) → RunsOn known (Elaborates (collects access ∷ ds) fs hs ∷ k) rooms holds → RunsOn known (Elaborates ds fs hs ∷ k) rooms holds
  collects_more access ds fs hs k holds [] e = absurd e
  collects_more access ds fs hs k holds (gone ∷ rooms) e = (e.0.1, e.1.0.0)

  pools_more : (p : ℕ) (ds : List DeclarationForm) (fs : StmtsForm) (hs : HandlersForm) (k : Control) (holds : Holds) (rooms : Rooms) → RunsOn known (Elaborates (creates_pool p ∷ ds) fs hs ∷ k) rooms holds → RunsOn known (Elaborates ds fs hs ∷ k) rooms holds
  pools_more p ds fs hs k holds [] e = absurd e
  pools_more p ds fs hs k holds (gone ∷ rooms) e = (e.0, e.1.0.0)

  declares_more : (heap : List Object) (places : List Value) (x : ℕ) (right : RightForm) (ds : List DeclarationForm) (fs : StmtsForm) (hs : HandlersForm) (k : Control) (holds : Holds) (rooms : Rooms) → RunsOn known (Elaborates (declares x right ∷ ds) fs hs ∷ k) rooms holds → Takes known heap places right (Declares x ∷ Elaborates ds fs hs ∷ k) rooms holds
  declares_more heap places x right ds fs hs k holds [] e = absurd e
  declares_more heap places x right ds fs hs k holds (gone ∷ rooms) e =
      let o = Outside known gone (ways known k rooms) in
      let flow = gives known.program.types known.program.variables no_tracks (declared_at known.program.variables x) false x right holds in
      let among = assignment_among known right in
      let spares = e.1.1 in (
        tt,
        false,
        (
          declared_at known.program.variables x,
          initializes_after known right flow (Elaborates ds fs hs ∷ k) (gone ∷ rooms) among (λ access is. subst (λ (r : RightForm). Spares known (λ t. right_frees known.implicit t r)) is spares)
              (goes_map (initializes known.program.variables known.implicit right flow) (Elaborating known ds (Doing known fs (Handles hs ∷ Closes ∷ k) (Handled known hs (Closes ∷ k) o)) o)
              (Raised among o) (RunsOn known (Elaborates ds fs hs ∷ k) (gone ∷ rooms)) (Raised among o) (λ h g. (e.0, g)) (λ h r. r) e.1.0),
        ),
        tt,
      )

  begins_more : (fs : StmtsForm) (hs : HandlersForm) (k : Control) (holds : Holds) (rooms : Rooms) → RunsOn known (Elaborates [] fs hs ∷ k) rooms holds → RunsOn known (Does fs ∷ Handles hs ∷ Closes ∷ k) rooms holds
  begins_more fs hs k holds [] e = absurd e
  begins_more fs hs k holds (gone ∷ rooms) e = e.1

  module _ (a : Activation Value) (rest : List (Activation Value)) (s : State) where
    -- Something is evaluated for a variable.
    stores_ready : (right : RightForm) (x : ℕ) (k : Control) → Working known s.heap a.places s.masters (Takes known s.heap a.places right (Stores x ∷ k)) → EvaluatesTo known right (Stores x ∷ k) s.heap a.places s.masters
    stores_ready nothing x k w = w
    stores_ready (value_of path) x k w = w
    stores_ready (allocates access items) x k w = w
    stores_ready (allocates_default access) x k w = w
    stores_ready (computes e) x k w = w

    declares_ready : (right : RightForm) (x : ℕ) (k : Control) → Working known s.heap a.places s.masters (Takes known s.heap a.places right (Declares x ∷ k)) → EvaluatesTo known right (Declares x ∷ k) s.heap a.places s.masters
    declares_ready nothing x k w = w
    declares_ready (value_of path) x k w = w
    declares_ready (allocates access items) x k w = w
    declares_ready (allocates_default access) x k w = w
    declares_ready (computes e) x k w = w

    -- Declarations.
    module _ (copies : CopiesWell known.program.types) (fs : StmtsForm) (hs : HandlersForm) (k : Control) where
      declaration_fine : (types : List TypeDefinition) (d : DeclarationForm) (ds : List DeclarationForm) → AreHeld known.program.types (cells_of s.heap) known.program.variables a.places → initial_is_of_kind known.program.types known.program.variables d ≡ true → Working known s.heap a.places s.masters (RunsOn known (Elaborates (d ∷ ds) fs hs ∷ k)) → Fine known s.heap s.masters (declaration_next named types d (running (Elaborates ds fs hs ∷ k) a rest s))
      declaration_fine types (creates_pool p) ds held fits w =
          stays known Quiet _ (
            tt,
            record {
              rooms = w.rooms;
              holds = w.holds;
              stored = stored_owning (storage_pool p (pools_in s.masters + 1)) w.stored;
              roomed = roomed_pool _ p (pools_in s.masters + 1) ds fs hs k w.holds s.masters w.rooms w.roomed w.rest;
              fit = w.fit;
              rest = pools_more p ds fs hs k w.holds w.rooms w.rest;
            },
          ) tt
      declaration_fine types (collects access) ds held fits w =
          stays known Quiet _ (
            tt,
            record {
              rooms = w.rooms;
              holds = w.holds;
              stored = stored_owning (collection access (pool_for (pool_named types access) s.masters)) w.stored;
              roomed = roomed_collects _ access (pool_for (pool_named types access) s.masters) ds fs hs k w.holds s.masters w.rooms w.roomed w.rest;
              fit = w.fit;
              rest = collects_more access ds fs hs k w.holds w.rooms w.rest;
            },
          ) tt
      declaration_fine types (declares_record x t initial) ds held fits w =
          let both = and_parts (is_record_object t (variable_kind known.program.variables x)) (record_initial_is_of_kind known.program.types known.program.variables (object_named known.program.types (Some t)) initial) fits in
          let is = both.0 in
          let place = has_place known.program.types (cells_of s.heap) known.program.variables a.places x t held is in
          record_fine known a rest s types x t ds fs hs k copies initial both.1 place.0 place.1 is w
      declaration_fine types (declares x right) ds held fits w =
          ready_on known (Evaluates right ∷ Declares x ∷ Elaborates ds fs hs ∷ k) a rest s a.operands
          (inl (declares_ready right x (Elaborates ds fs hs ∷ k) (at_work w (declares_more s.heap a.places x right ds fs hs k w.holds w.rooms w.rest))))

      pub declarations_fine : (types : List TypeDefinition) (ds : List DeclarationForm) → AreHeld known.program.types (cells_of s.heap) known.program.variables a.places → list_all (initial_is_of_kind known.program.types known.program.variables) ds ≡ true → Working known s.heap a.places s.masters (RunsOn known (Elaborates ds fs hs ∷ k)) → Fine known s.heap s.masters (declarations_next named types ds fs hs (running k a rest s))
      declarations_fine types [] held fits w = runs_on known (Does fs ∷ Handles hs ∷ Closes ∷ k) a rest s (at_work w (begins_more fs hs k w.holds w.rooms w.rest)) Quiet tt
      declarations_fine types (d ∷ ds) held fits w = declaration_fine types d ds held (and_parts _ _ fits).0 w

    -- Paths that are targets, or are freed.
    assign_fine : (cs : List ℕ) (target : PathForm) (right : RightForm) (fs : StmtsForm) (k : Control) → target.selectors ≡ cs → (target.of_record ≡ true → is_object known.program.variables target.root ≡ true) → StaysFoundAt known cs right target → Working known s.heap a.places s.masters (λ rooms holds. Goes (gives_seen known.program.types known.program.variables no_tracks false (begins_pair (assigns target right) fs) cs target right holds) (RunsAfter known right (Does fs ∷ k) rooms) (RaisesAfter known right k rooms (component_among known (path_raises target) right))) → Fine known s.heap s.masters (assign_next named cs target.root right (running (Does fs ∷ k) a rest s))
    assign_fine [] target right fs k is whole stays_found w =
        let out = ways known k w.rooms in
        let cleared = begins_pair (assigns target right) fs in
        let among = component_among known (path_raises target) right in
        ready_on known (Evaluates right ∷ Stores target.root ∷ Does fs ∷ k) a rest s a.operands
        (inl (stores_ready right target.root (Does fs ∷ k) (at_work w (
          cleared,
          (
            target.spot,
            goes_map (gives known.program.types known.program.variables no_tracks target.spot cleared target.root right w.holds) (RunsAfter known right (Does fs ∷ k) w.rooms) (RaisesAfter known right k w.rooms among) (RunsAfter known right (Does fs ∷ k) w.rooms) (RaisesAfter known right k w.rooms (assignment_among known right))
                (λ h m. m) (λ h r. raised_less among (assignment_among known right) out (λ e may. component_more (is_same e ConstraintError && path_raises target) (right_raises (is_same e) right) (right_starts known.implicit (is_same e) right) may) (behind_right known right h) r) w.rest,
          ),
          pairs_variable target right fs k is,
        ))))
    assign_fine (c ∷ cs) target right fs k is whole stays_found w =
        let cleared = begins_pair (assigns target right) fs in
        component_begins known a rest s cleared c cs target right fs k is whole stays_found (at_work w (w.rest, pairs_component c cs target right fs k is))

    -- What flow says of a Free, in the midst of which operations may free objects: no alias of these is left behind it (7.6.1).
    frees_goes : (access : Option ℕ) (t : ℕ) (o : Outcome) (k : Control) (rooms : Rooms) (raised : Holds → Type 0) → access ≡ Some t → Spares known (known.implicit.end_frees t) → Down raised → Goes (finalizes known.program.variables known.implicit access o) (RunsOn known k rooms) raised → Goes o (To (FreesTo known t k rooms)) raised
    frees_goes access t o k rooms raised is spares downs g =
        let may = known.implicit.end_frees t in
        let variables = known.program.variables in
        let lost : Goes (loses variables may o) (RunsOn known k rooms) raised = rw is at g in
        goes_map o (λ h. RunsOn known k rooms (without_freed variables may h)) (λ h. raised (without_freed variables may h)) (To (FreesTo known t k rooms)) raised
        (λ h m. (without_freed variables may h, without_freed_good variables may h, (m, (spares, freed_none variables may h))))
        (before_lost variables may raised downs)
        (loses_goes variables may o (RunsOn known k rooms) raised lost)

    frees_fine : (may : ℕ → Bool) (defined : List TypeDefinition) (cs : List ℕ) (access : ℕ) (path : PathForm) (fs : StmtsForm) (k : Control) → HaveHomes may known.program.types (outers known) s.heap s.masters → may access ≡ true → is_freed_by known.program.types access (path_access known.program.types known.program.variables path) ≡ true → is_this access (path_access known.program.types known.program.variables path) ≡ true → Spares known (λ t. is_this t (path_access known.program.types known.program.variables path)) → path.selectors ≡ cs → AreHeld known.program.types (cells_of s.heap) known.program.variables a.places → AreRecords known → Working known s.heap a.places s.masters (λ rooms holds. Goes (frees_seen known.program.types known.program.variables no_tracks false known.implicit cs path holds) (To (FreesTo known access (Does fs ∷ k) rooms)) (Raised (free_among path) (ways known k rooms))) → Fine known s.heap s.masters (frees_next named defined cs access path.root (running (Does fs ∷ k) a rest s))
    frees_fine may defined [] access path fs k homes freely freed by_own spares is held objects w =
        let own = freed_at known.program.types known.program.variables access path freed in
        let at : path_access known.program.types known.program.variables path ≡ Some access = this_is access (path_access known.program.types known.program.variables path) by_own in
        let one : own.0 ≡ access = let other = own.1 in cc (at, other) in
        free_fine known a rest s defined access path.root (value_root known.program.types known.program.variables path own.0 is own.1) path.spot fs k (λ rooms. Raised (free_among path) (ways known k rooms)) may homes freely own.0 one (sym (ap (λ (cs : List ℕ). access_of (selectors_kind known.program.types (variable_kind known.program.variables path.root) cs)) is) ∙ own.2) own.3 (spares own.0 (ap (is_this own.0) own.1 ∙ eq-eqb own.0 own.0 refl)) (at_work w (subst (λ (t : ℕ). Goes (released known.program.variables path.root path.spot w.holds (hold_at w.holds path.root)) (To (FreesTo known t (Does fs ∷ k) w.rooms)) (Raised (free_among path) (ways known k w.rooms))) (sym one) w.rest))
    frees_fine may defined (c ∷ cs) access path fs k homes freely freed by_own spares is held objects w =
        free_begins known a rest s c cs access path fs k (free_among path) (λ may. may) freed by_own spares is held objects w

    gets_fine : (cs : List ℕ) (target : PathForm) (input : List ℤ) (fs : StmtsForm) (k : Control) → target.selectors ≡ cs → (target.of_record ≡ true → is_object known.program.variables target.root ≡ true) → Working known s.heap a.places s.masters (λ rooms holds. Goes (gets_path no_tracks cs target holds) (RunsOn known (Does fs ∷ k) rooms) (Raised (get_among target) (ways known k rooms))) → Fine known s.heap s.masters (gets_next named cs target.root input (running (Does fs ∷ k) a rest s))
    gets_fine (c ∷ cs) target input fs k is whole w =
        let u = using_goes (uses_in_target target) w.holds (ends_with true w.holds w.holds) (RunsOn known (Does fs ∷ k) w.rooms) (Raised (get_among target) (ways known k w.rooms)) w.rest in
        get_begins known a rest s c cs target fs k is whole (at_work w (u.0, (λ may. u.1.1 ConstraintError may), (λ may. u.1.1 EndError refl), u.1.0))
    gets_fine [] target [] fs k is whole w = jumps_less known (Does fs ∷ k) a rest s (Raising EndError) (at_work w (w.rest.1 EndError refl))
    gets_fine [] target (i ∷ others) fs k is whole w =
        let v = named.integer i in
        runs_on known (Does fs ∷ k) (record a { places = slice_set a.places target.root v }) rest (record s { input = others })
        (lost_stored known target.root (Does fs ∷ k) v s.heap a.places s.masters (at_work w w.rest.0)) Quiet tt

    -- Branches begin.
    branches_fine : (branches : BranchesForm) (k : Control) → Working known s.heap a.places s.masters (λ rooms holds. Choosing known branches k (ways known k rooms) holds) → Fine known s.heap s.masters (branches_next named branches (running k a rest s))
    branches_fine (otherwise fs) k w = runs_on known (Does fs ∷ k) a rest s (at_work w (others_do known fs k (ways known k w.rooms) w.holds w.rest)) Quiet tt
    branches_fine (a_branch e fs branches) k w =
        let h = branch_does known e fs branches k (ways known k w.rooms) w.holds w.rest in
        ready_on known (Computes e ∷ Decides fs branches ∷ k) a rest s a.operands (at_work w (h.0, h.1, (h.2, h.3)))

    -- A loop comes to its next turn.
    turn_fine : (condition : Option ExpressionForm) (body : StmtsForm) (k : Control) → Working known s.heap a.places s.masters (RunsOn known (Does body ∷ Repeats condition body ∷ k)) → Fine known s.heap s.masters (turn_next named condition body (running k a rest s))
    turn_fine condition no_stmts k w = tt
    turn_fine condition (a_stmt f fs) k w = runs_on known (Does (a_stmt f fs) ∷ Repeats condition (a_stmt f fs) ∷ k) a rest s w Quiet tt

    pub repeats_fine : (condition : Option ExpressionForm) (body : StmtsForm) (k : Control) → Working known s.heap a.places s.masters (RunsOn known (Repeats condition body ∷ k)) → Fine known s.heap s.masters (repeats_next named condition body (running k a rest s))
    repeats_fine None body k w =
        let r = w.rest in
        turn_fine None body k (with_less w r.0 r.1 (turn_runs known None body k (ways known k w.rooms) w.holds r r.2.1.0))
    repeats_fine (Some e) body k w =
        let r = w.rest in
        let out = ways known k w.rooms in
        let h = computed_goes e r.0 (TurnsTo known body (Repeats (Some e) body ∷ k) out r.2.0 r.0) (Raised (condition_among (Some e)) out) r.2.1 in
        ready_on known (Computes e ∷ Turns e body ∷ k) a rest s a.operands (with_less w r.0 r.1 (h.0, (λ may. h.2 may ConstraintError may), (turn_runs known (Some e) body k out w.holds r h.1, r.3 refl)))

    -- A `for` loop comes to its next turn.
    count_turn_fine : (x : ℕ) (next last : ℤ) (body : StmtsForm) (k : Control) → Working known s.heap a.places s.masters (λ rooms holds. Counting known x body k (ways known k rooms) holds) → Fine known s.heap s.masters (count_turn_next named x next last body (running k a rest s))
    count_turn_fine x next last no_stmts k w = tt
    count_turn_fine x next last (a_stmt f fs) k w =
        let v = named.integer next in
        let c = w.rest in
        runs_on known (Does (a_stmt f fs) ∷ Counts x (next +ℤ pos 1) last (a_stmt f fs) ∷ k) (record a { places = slice_set a.places x v }) rest s
        (record {
          rooms = w.rooms;
          holds = c.0;
          stored = w.stored;
          roomed = w.roomed;
          fit = weaker_fit c.0 (good_losing x w.holds c.0 c.2 c.1) (put_lost x v w.fit);
          rest = count_runs known x (next +ℤ pos 1) last (a_stmt f fs) k (ways known k w.rooms) w.holds c;
        }) Quiet tt

    pub counts_fine : (x : ℕ) (next last : ℤ) (body : StmtsForm) (k : Control) → Working known s.heap a.places s.masters (λ rooms holds. Counting known x body k (ways known k rooms) holds) → Fine known s.heap s.masters (counts_next named x next last body (running k a rest s))
    counts_fine x next last body k w = go (int_le next last)
      where
        go : (b : Bool) → Fine known s.heap s.masters (if b then count_turn_next named x next last body (running k a rest s) else moves Quiet (running k a rest s))
        go true = count_turn_fine x next last body k w
        go false = let c = w.rest in runs_on known k a rest s (at_less w (to_before (ways known k w.rooms).normal w.holds c.0 c.1 c.4)) Quiet tt

    pub ranges_fine : (x : ℕ) (body : StmtsForm) (low high : Option ℤ) (k : Control) → Working known s.heap a.places s.masters (λ rooms holds. Counting known x body k (ways known k rooms) holds) → Fine known s.heap s.masters (ranges_next named x body low high (running k a rest s))
    ranges_fine x body None high k w = tt
    ranges_fine x body (Some low) None k w = tt
    ranges_fine x body (Some low) (Some high) k w = counts_fine x low high body k w

    -- A condition is there: branches, a loop, an exit.
    pub decided_fine : (fs : StmtsForm) (branches : BranchesForm) (r : Option Bool) (k : Control) → Working known s.heap a.places s.masters (Deciding known fs branches k) → Fine known s.heap s.masters (decided_next named fs branches r (running k a rest s))
    decided_fine fs branches None k w = tt
    decided_fine fs branches (Some true) k w = runs_on known (Does fs ∷ k) a rest s (at_work w w.rest.0) Quiet tt
    decided_fine fs branches (Some false) k w = branches_fine branches k (at_work w w.rest.1)

    pub turned_fine : (e : ExpressionForm) (body : StmtsForm) (r : Option Bool) (k : Control) → Working known s.heap a.places s.masters (TurningOn known e body k) → Fine known s.heap s.masters (turned_next named e body r (running k a rest s))
    turned_fine e body None k w = tt
    turned_fine e body (Some true) k w = turn_fine (Some e) body k (at_work w w.rest.0)
    turned_fine e body (Some false) k w = runs_on known k a rest s (at_less w w.rest.1) Quiet tt

    pub exited_fine : (r : Option Bool) (k : Control) → Working known s.heap a.places s.masters (ExitingTo known k) → Fine known s.heap s.masters (exited_next named r (running k a rest s))
    exited_fine None k w = tt
    exited_fine (Some true) k w = jumps known k a rest s Exiting (at_work w w.rest.1)
    exited_fine (Some false) k w = runs_on known k a rest s (at_work w w.rest.0) Quiet tt

    exit_fine : (condition : Option ExpressionForm) (k : Control) → Working known s.heap a.places s.masters (λ rooms holds. Goes (exit_of no_tracks condition holds) (RunsOn known k rooms) (Raised (λ e. is_same e ConstraintError && condition_raises condition) (ways known k rooms)) × (ways known k rooms).exited holds) → Fine known s.heap s.masters (exit_next named condition (running k a rest s))
    exit_fine None k w = jumps known k a rest s Exiting (at_work w w.rest.1)
    exit_fine (Some e) k w =
        let g = computed_goes e w.holds (RunsOn known k w.rooms) (Raised (λ x. is_same x ConstraintError && condition_raises (Some e)) (ways known k w.rooms)) w.rest.0 in
        ready_on known (Computes e ∷ Exits ∷ k) a rest s a.operands (at_work w (g.0, (λ may. g.2 may ConstraintError may), (g.1, w.rest.1)))

    -- The bounds of a `for` loop are computed first.
    bounds_fine : (x : ℕ) (low high : ExpressionForm) (body fs : StmtsForm) (k : Control) (rooms : Rooms) (holds : Holds) → Goes (bounds_flow no_tracks low high holds) (λ h. Counting known x body (Does fs ∷ k) (ways known (Does fs ∷ k) rooms) h) (Raised (λ e. is_same e ConstraintError && (expression_raises low || expression_raises high)) (ways known k rooms)) → Computing known s.heap a.places a.operands low (Computes high ∷ Ranges x body ∷ Does fs ∷ k) rooms holds
    bounds_fine x low high body fs k rooms holds g =
        let among : Exception → Bool = λ e. is_same e ConstraintError && (expression_raises low || expression_raises high) in
        let w = ways known k rooms in
        let more : Holds → Type 0 = λ h. Counting known x body (Does fs ∷ k) (ways known (Does fs ∷ k) rooms) h in
        let first = computed_goes low holds (λ h. Goes (computed no_tracks high h) more (Raised among w)) (Raised among w) (then_goes (computed no_tracks low holds) (computed no_tracks high) more (Raised among w) (raised_before among w) g) in
        let second = computed_goes high holds more (Raised among w) first.1 in
        (first.0, (λ may. first.2 may ConstraintError (or_left (expression_raises low) (expression_raises high) may)), (second.0, (λ may. second.2 may ConstraintError (or_right (expression_raises low) (expression_raises high) may)), (λ v. second.1)))

    -- Statements.
    stmt_fine : (may : ℕ → Bool) (defined : List TypeDefinition) → Reaches known defined → (bodies : List BodyForm) → CopiesWell known.program.types → (inside : Bool) (here : Where) (f : StmtForm) → (is_call f ≡ true → MayCall known bodies) → (fs : StmtsForm) (k : Control) → AreHeld known.program.types (cells_of s.heap) known.program.variables a.places → AreRecords known → HaveHomes may known.program.types (outers known) s.heap s.masters → FreesAmong may (Does (a_stmt f fs) ∷ k) → statement_is_of_kind known.program.types known.program.variables known.program.texts known.program.exceptions (callable_in known.program) inside f ≡ true → statement_frees_own known.program.types known.program.variables f ≡ true → Working known s.heap a.places s.masters (λ rooms holds. Starting known here f fs k (ways known k rooms) holds) → Fine known s.heap s.masters (stmt_next named defined bodies f (running (Does fs ∷ k) a rest s))
    stmt_fine may defined reaches bodies copies inside here skips calling fs k held objects homes freely fits own w = runs_on known (Does fs ∷ k) a rest s (at_work w w.rest.1.0) Quiet tt
    stmt_fine may defined reaches bodies copies inside here (assigns target right) calling fs k held objects homes freely fits own w =
        let types = known.program.types in
        let variables = known.program.variables in
        let leads = right_leads types variables (path_kind types variables target) right (and_parts (right_fits types variables (path_kind types variables target) right) (lends_to variables (names_borrower variables target) right) fits).0 in
        let out = ways known k w.rooms in
        let among : Exception → Bool = λ e. stmt_raises (effects_of known.implicit known.program) (is_same e) (assigns target right) in
        let flow = gives_seen types variables no_tracks false (begins_pair (assigns target right) fs) target.selectors target right w.holds in
        let used = using_goes (uses_in_start types variables no_tracks known.implicit target right) w.holds (initializes variables known.implicit right flow) (RunsOn known (Does fs ∷ k) w.rooms) (Raised among out) w.rest.1 in
        let spares = w.rest.4 in
        let goes_on = initializes_after known right flow (Does fs ∷ k) w.rooms among (λ access is. subst (λ (r : RightForm). Spares known (λ t. right_frees known.implicit t r)) is spares) used.1 in
        assign_fine target.selectors target right fs k refl (root_object types variables target leads.0 leads.1)
        (stays_found known w.holds target.selectors target right leads.0 refl leads.1 used.0)
        (at_work w goes_on)
    stmt_fine may defined reaches bodies copies inside here (assigns_record target items) calling fs k held objects homes freely fits own w =
        assigned_fine (has_parts defined target.record_type) refl
      where
        two : (is_record_path known.program.types known.program.variables target ≡ true) × (record_fits known.program.types known.program.variables target.record_type items ≡ true)
        two = and_parts (is_record_path known.program.types known.program.variables target) (record_fits known.program.types known.program.variables target.record_type items) fits

        bare : (found : Option ℕ) → number_of defined (Some target.record_type) ≡ found → is_some found ≡ false → shown_number known.program.types (Some target.record_type) ≡ None
        bare None is none = sym (reaches.4 target.record_type) ∙ is
        bare (Some n) is none = absurd (cc none)

        parted : (found : Option ℕ) → number_of defined (Some target.record_type) ≡ found → is_some found ≡ true → (of : ℕ) × (shown_number known.program.types (Some target.record_type) ≡ Some of)
        parted None is some = absurd (cc some)
        parted (Some n) is some = (n, sym (reaches.4 target.record_type) ∙ is)

        assigned_fine : (parts : Bool) → has_parts defined target.record_type ≡ parts → Fine known s.heap s.masters (record_assign_next named parts target items (running (Does fs ∷ k) a rest s))
        assigned_fine true has =
            let some = parted (number_of defined (Some target.record_type)) refl has in
            copy_begins known a rest s copies target items fs k some.0 some.1 w.rest.4 two.0 two.1 (at_work w w.rest.1)
        assigned_fine false has = record_begins known a rest s copies target items fs k (bare (number_of defined (Some target.record_type)) refl has) (record_there known.program.types known.program.variables target two.0) (at_work w w.rest.1)
    stmt_fine may defined reaches bodies copies inside here (frees access path) calling fs k held objects homes freely fits own w =
        let types = known.program.types in
        let variables = known.program.variables in
        let freed = path_access types variables path in
        let out = ways known k w.rooms in
        let at : freed ≡ Some access = this_is access freed own in
        let ending : Spares known (known.implicit.end_frees access) = λ t i. w.rest.4 t (or_right (is_this t freed) (ending_frees known.implicit t freed) (rw at i)) in
        let goes_on = frees_goes freed access (frees_seen types variables no_tracks false known.implicit path.selectors path w.holds) (Does fs ∷ k) w.rooms (Raised (free_among path) out) at ending (raised_before (free_among path) out) w.rest.1 in
        frees_fine may defined path.selectors access path fs k homes freely (and_parts _ _ fits).0 own (λ t i. w.rest.4 t (or_left (is_this t freed) (ending_frees known.implicit t freed) i)) refl held objects (at_work w goes_on)
    stmt_fine may defined reaches bodies copies inside here (gets target) calling fs k held objects homes freely fits own w = (
        let types = known.program.types in
        let variables = known.program.variables in
        let leads = integer_leads (path_kind types variables target) fits in
        gets_fine target.selectors target s.input fs k refl (root_object types variables target leads.0 leads.1) (at_work w w.rest.1)
        )
    stmt_fine may defined reaches bodies copies inside here (writes e) calling fs k held objects homes freely fits own w =
        let h = computed_goes e w.holds (RunsOn known (Does fs ∷ k) w.rooms) (Raised (λ x. is_same x ConstraintError && expression_raises e) (ways known k w.rooms)) w.rest.1 in
        ready_on known (Computes e ∷ Writes ∷ Does fs ∷ k) a rest s a.operands (at_work w (h.0, (λ may. h.2 may ConstraintError may), h.1))
    stmt_fine may defined reaches bodies copies inside here (writes_text text) calling fs k held objects homes freely fits own w = runs_on known (Does fs ∷ k) a rest s (at_work w w.rest.1.0) (Line _) tt
    stmt_fine may defined reaches bodies copies inside here (chooses branches) calling fs k held objects homes freely fits own w = branches_fine branches (Does fs ∷ k) (at_work w (chooses_from known here branches fs k (ways known k w.rooms) w.holds w.rest))
    stmt_fine may defined reaches bodies copies inside here (repeats condition body end_spot) calling fs k held objects homes freely fits own w =
        runs_on known (Repeats condition body ∷ Does fs ∷ k) a rest s (at_work w (repeats_from known here condition body end_spot fs k (ways known k w.rooms) w.holds w.rest)) Quiet tt
    stmt_fine may defined reaches bodies copies inside here (counts x low high body end_spot) calling fs k held objects homes freely fits own w =
        ready_on known (Computes low ∷ Computes high ∷ Ranges x body ∷ Does fs ∷ k) a rest s a.operands
        (at_work w (bounds_fine x low high body fs k w.rooms w.holds (counts_from known here x low high body end_spot fs k (ways known k w.rooms) w.holds w.rest)))
    stmt_fine may defined reaches bodies copies inside here (exits condition spot) calling fs k held objects homes freely fits own w =
        exit_fine condition (Does fs ∷ k) (at_work w (exit_parts known here.start here.inside condition spot w.holds (RunsOn known (Does fs ∷ k) w.rooms) (Raised (λ e. is_same e ConstraintError && condition_raises condition) (ways known k w.rooms)) (ways known k w.rooms).exited w.rest.1 (w.rest.2 refl)))
    stmt_fine may defined reaches bodies copies inside here (calls procedure actuals) calling fs k held objects homes freely fits own w = call_begins known bodies (calling refl) here procedure actuals fs k a rest s fits w
    stmt_fine may defined reaches bodies copies inside here (returns spot) calling fs k held objects homes freely fits own w = jumps known (Does fs ∷ k) a rest s Returning (at_work w (w.rest.3 w.holds (return_goes known.program.variables (owed_by known) here.within spot w.holds (Doing known fs k (ways known k w.rooms)) (Raised (λ e. stmt_raises (effects_of known.implicit known.program) (is_same e) (returns spot)) (ways known k w.rooms)) w.rest.1)))
    stmt_fine may defined reaches bodies copies inside here (raises e) calling fs k held objects homes freely fits own w = jumps_less known (Does fs ∷ k) a rest s (Raising e) (at_work w (w.rest.1.1 e (same_here e)))
    stmt_fine may defined reaches bodies copies inside here (encloses ds body hs) calling fs k held objects homes freely fits own w =
        stays known Quiet _ (
          tt,
          record {
            rooms = gone_with ds ∷ w.rooms;
            holds = w.holds;
            stored = stored_entered s.next w.stored;
            roomed = (tt, w.roomed);
            fit = w.fit;
            rest = (all_among (collected ds), encloses_from known here ds body hs fs k (ways known k w.rooms) w.holds w.rest);
          },
        ) tt

    pub stmts_fine : (may : ℕ → Bool) (defined : List TypeDefinition) → Reaches known defined → (bodies : List BodyForm) → CopiesWell known.program.types → (inside : Bool) (fs : StmtsForm) → (begins_call fs ≡ true → MayCall known bodies) → (k : Control) → AreHeld known.program.types (cells_of s.heap) known.program.variables a.places → AreRecords known → HaveHomes may known.program.types (outers known) s.heap s.masters → FreesAmong may (Does fs ∷ k) → statements_are_of_kind known.program.types known.program.variables known.program.texts known.program.exceptions (callable_in known.program) inside fs ≡ true → statements_free_own known.program.types known.program.variables fs ≡ true → Resumes known s.heap a.places s.masters (Does fs ∷ k) → Fine known s.heap s.masters (stmts_next named defined bodies fs (running k a rest s))
    stmts_fine may defined reaches bodies copies inside fs calling k held objects homes freely fits own (inr h) = half_begins known a rest s defined bodies fs k h
    stmts_fine may defined reaches bodies copies inside no_stmts calling k held objects homes freely fits own (inl w) = runs_on known k a rest s (at_less w w.rest.2.0) Quiet tt
    stmts_fine may defined reaches bodies copies inside (a_stmt f fs) calling k held objects homes freely fits own (inl w) = stmt_fine may defined reaches bodies copies inside w.rest.0 f calling fs k held objects homes freely (and_parts _ _ fits).0 (and_parts _ _ own).0 (at_work w (starts known f fs k (ways known k w.rooms) w.holds w.rest))
