-- A call begins (6.4): its actual parameters are evaluated, and then the body begins.

use Rattle.std.proofs.Common.{◌≡◌, ℕ, zero, suc, Bool, true, false, ◌||◌, ◌&&◌, List, [], ◌∷◌, ◌++◌, map, reverse, refl}
use mathlib.Core.List.{reverse_aux}
use Rattle.std.specs.Prelude.{Some, None, if◌then◌else◌}
use Rattle.std.specs.List.{slice_get}
use Rattle.ada_program.specs.declared.program.Exception.{Exception}
use Rattle.ada_program.specs.declared.program.Exception.TheVariants.{ConstraintError}
use Rattle.ada_program.specs.Form.{PathForm, ActualForm, in_value, in_null, in_access, in_record, in_out_path, in_out_access, in_out_component, in_out_record, reads, calls, StmtsForm, a_stmt}
use Rattle.ada_program.specs.Handling.{is_same}
use Rattle.ada_program.specs.ProgramForm.{TypeForm, VariableForm, BodyForm}
use Rattle.ada_program.specs.WellFormed.{callable_in, profile_of, suits_profile, path_access}
use Rattle.ada_effects.specs.Effects.{effects_of, call_raises, actual_raises, actuals_raise, stmt_raises, call_frees}
use Rattle.ada_flow.specs.declared.rule.Hold.{Hold}
use Rattle.ada_flow.specs.declared.rule.Hold.TheVariants as hold
use Rattle.ada_text.specs.declared.spot.Spot.{Spot}
use Rattle.ada_flow.specs.Flow.{Holds, hold_at, variable_access, lost_by, reads_it, lends_it, hands_it, gives_again, compares_it, uses_in, is_given, is_begun_with, uses_in_actual, uses_in_actuals, ends_with, handed_back, left_unkept, passes_it, opens_it, names_value, record_passes, component_passes, opened_by_call}
use Rattle.ada_meaning.specs.declared.state.Value.{Value}
use Rattle.ada_meaning.specs.Frame.{Does, Calls}
use Rattle.ada_meaning.specs.State.{Activation}
use Rattle.ada_meaning.specs.Step.{computing, call_next}
use Rattle.ada_meaning.specs.Named.{Object, State, named}
use Rattle.ada_sound.specs.Agreement as comes
use Rattle.ada_sound.proofs.Orderings.{as_good_then, called_good}
use Rattle.ada_sound.proofs.Outcomes.{using_goes, ends_goes, to_before}
use Rattle.ada_sound.proofs.Followings.{first_kept, kept_apart}
use Rattle.ada_sound.proofs.Handings.{lent_kept, handed_kept, unkept_less, passed_safe, taken_never}
use Rattle.ada_sound.proofs.GivenBack.{given_lost}
use Rattle.ada_sound.proofs.Raising.{or_left, or_right, program_asks, call_more}
use Rattle.ada_sound.proofs.Invariant.{Known, Where, Control, Rooms, NoneBroken, ArePassed, PassesTo, GetLost, CallsOn, effect_in, kept_in, left_in, Doing, Raised, To, Working, Fine, ways, AreRecords}
use Rattle.ada_sound.proofs.Ready.{running, at_work, ready_on, passes_ready}
use Rattle.ada_sound.proofs.Nestings.{Starting}

-- The bodies that a running body may call are among those of the program, under the same numbers.
abbrev pub AreAmong : (callable bodies : List BodyForm) → Type 0
AreAmong callable bodies = (q : ℕ) (b : BodyForm) → slice_get callable q ≡ Some b → slice_get bodies q ≡ Some b

-- What a body relies on that calls one of these: they are those of the program, record objects are of no access types, and wherever flow comes to in it,
-- it calls Integers and Booleans lost.
pub record MayCall (known : Known) (bodies : List BodyForm) : Type 0 where
  pub among : AreAmong known.program.bodies bodies
  pub lost : (place : Control) (at : Holds) → known.At place at → (x : ℕ) → variable_access known.program.variables x ≡ None → hold_at at x ≡ hold.Lost
  pub records : AreRecords known

-- There is a procedure that is called, and the actual parameters suit it.
pub procedure_found : (types : List TypeForm) (variables : List VariableForm) (bs : List BodyForm) (number : ℕ) (actuals : List ActualForm) → suits_profile types variables (slice_get (map profile_of bs) number) actuals ≡ true → (b : BodyForm) × (slice_get bs number ≡ Some b) × (suits_profile types variables (Some (profile_of b)) actuals ≡ true)
procedure_found types variables [] number actuals suits = absurd (cc suits)
procedure_found types variables (b ∷ bs) zero actuals suits = (b, refl, suits)
procedure_found types variables (b ∷ bs) (suc number) actuals suits = procedure_found types variables bs number actuals suits

-- Where an actual parameter breaks no rule, the evaluation of its value breaks none.
given_kept : (types : List TypeForm) (variables : List VariableForm) (may : ℕ → Bool) (holds : Holds) (earlier : List ActualForm) (path : PathForm) → NoneBroken holds (uses_in_actual types variables may earlier (in_out_path path)) → NoneBroken holds (uses_in (reads path))
unfolding uses_in
given_kept types variables may holds earlier path kept = go (is_begun_with earlier path.root) kept
  where
    go : (again : Bool) → NoneBroken holds ((if again then gives_again path else reads_it path) ∷ []) → NoneBroken holds (uses_in (reads path))
    go true kept = absurd (cc kept)
    go false kept = kept

-- What is opened is not lost.
opened_kept : (owning unsafe : Bool) (h : Hold) (spot : Spot) → opened_by_call owning unsafe h spot ≡ None → lost_by h spot ≡ None
opened_kept true unsafe h spot e = absurd (taken_never h spot e)
opened_kept false unsafe h spot e = (passed_safe unsafe h spot e).1

compared : (holds : Holds) (path : PathForm) → lost_by (hold_at holds path.root) path.spot ≡ None → NoneBroken holds (compares_it path ∷ [])
compared holds path kept = rw kept refl

module _ (known : Known) (procedure : ℕ) (b : BodyForm) (actuals : List ActualForm) (k : Control) (rooms : Rooms) (holds : Holds) where
  -- Of which access types the call may free objects.
  abbrev frees : ℕ → Bool
  frees = call_frees (effect_in known procedure)

  -- What a call is followed by is known to handle what its actual parameters raise.
  still_raised : (todo : List ActualForm) (less : Holds) → (ways known k rooms).raised ConstraintError less → (ways known (computing named todo (Calls procedure b actuals ∷ k)) rooms).raised ConstraintError less
  still_raised [] less r = r
  still_raised (in_value e ∷ rest) less r = still_raised rest less r
  still_raised (in_null ∷ rest) less r = still_raised rest less r
  still_raised (in_access path ∷ rest) less r = still_raised rest less r
  still_raised (in_record p ∷ rest) less r = still_raised rest less r
  still_raised (in_out_component path ∷ rest) less r = still_raised rest less r
  still_raised (in_out_record p ∷ rest) less r = still_raised rest less r
  still_raised (in_out_path path ∷ rest) less r = still_raised rest less r
  still_raised (in_out_access path ∷ rest) less r = still_raised rest less r

  raised_before_call : (todo : List ActualForm) → To ((ways known k rooms).raised ConstraintError) holds → To ((ways known (computing named todo (Calls procedure b actuals ∷ k)) rooms).raised ConstraintError) holds
  raised_before_call todo t = (t.0, t.1, still_raised todo t.0 t.2)

  module _ (heap : List Object) (places : List Value) (on : CallsOn known procedure b actuals k rooms holds) where
    -- Actual parameters are evaluated one after another, and then comes the call.
    passes_actuals : (earlier todo done : List ActualForm) (operands : List Value) → reverse_aux todo done ≡ reverse actuals → ArePassed heap places done operands → NoneBroken holds (uses_in_actuals known.program.types known.program.variables frees earlier todo) → (actuals_raise todo ≡ true → To ((ways known k rooms).raised ConstraintError) holds) → PassesTo known heap places operands (computing named todo (Calls procedure b actuals ∷ k)) rooms holds
    passes_actuals earlier [] done operands all passed kept raises = (on, rw all at passed)
    passes_actuals earlier (in_value e ∷ rest) done operands all passed kept raises =
        let two = kept_apart holds (uses_in_actual known.program.types known.program.variables frees earlier (in_value e)) (uses_in_actuals known.program.types known.program.variables frees (earlier ++ in_value e ∷ []) rest) kept in (
          two.0,
          (λ may. raised_before_call rest (raises (or_left (actual_raises (in_value e)) (actuals_raise rest) may))),
          (λ v. passes_actuals (earlier ++ in_value e ∷ []) rest (in_value e ∷ done) (v ∷ operands) all (tt, passed) two.1 (λ may. raises (or_right (actual_raises (in_value e)) (actuals_raise rest) may))),
        )
    passes_actuals earlier (in_null ∷ rest) done operands all passed kept raises =
        (tt, (λ v is. passes_actuals (earlier ++ in_null ∷ []) rest (in_null ∷ done) (v ∷ operands) all (is, passed) kept raises))
    passes_actuals earlier (in_access path ∷ rest) done operands all passed kept raises =
        let two = kept_apart holds (uses_in_actual known.program.types known.program.variables frees earlier (in_access path)) (uses_in_actuals known.program.types known.program.variables frees (earlier ++ in_access path ∷ []) rest) kept in
        let used = (first_kept holds (lends_it (is_given earlier path.root) path) [] two.0).0 in (
          (
            compared holds path (lent_kept (is_given earlier path.root) (hold_at holds path.root) path.spot used),
            (λ may. raised_before_call rest (raises (or_left (actual_raises (in_access path)) (actuals_raise rest) may))),
          ),
          (λ v is. passes_actuals (earlier ++ in_access path ∷ []) rest (in_access path ∷ done) (v ∷ operands) all (is, passed) two.1 (λ may. raises (or_right (actual_raises (in_access path)) (actuals_raise rest) may))),
        )
    passes_actuals earlier (in_out_path path ∷ rest) done operands all passed kept raises =
        let two = kept_apart holds (uses_in_actual known.program.types known.program.variables frees earlier (in_out_path path)) (uses_in_actuals known.program.types known.program.variables frees (earlier ++ in_out_path path ∷ []) rest) kept in (
          given_kept known.program.types known.program.variables frees holds earlier path two.0,
          (λ may. raised_before_call rest (raises (or_left (actual_raises (in_out_path path)) (actuals_raise rest) may))),
          (λ v. passes_actuals (earlier ++ in_out_path path ∷ []) rest (in_out_path path ∷ done) (v ∷ operands) all (tt, passed) two.1 (λ may. raises (or_right (actual_raises (in_out_path path)) (actuals_raise rest) may))),
        )
    passes_actuals earlier (in_out_access path ∷ rest) done operands all passed kept raises =
        let two = kept_apart holds (uses_in_actual known.program.types known.program.variables frees earlier (in_out_access path)) (uses_in_actuals known.program.types known.program.variables frees (earlier ++ in_out_access path ∷ []) rest) kept in
        let used = (first_kept holds (hands_it (is_begun_with earlier path.root) path) [] two.0).0 in (
          (
            compared holds path (handed_kept (is_begun_with earlier path.root) (hold_at holds path.root) path.spot used),
            (λ may. raised_before_call rest (raises (or_left (actual_raises (in_out_access path)) (actuals_raise rest) may))),
          ),
          (λ v is. passes_actuals (earlier ++ in_out_access path ∷ []) rest (in_out_access path ∷ done) (v ∷ operands) all (is, passed) two.1 (λ may. raises (or_right (actual_raises (in_out_access path)) (actuals_raise rest) may))),
        )
    passes_actuals earlier (in_record p ∷ rest) done operands all passed kept raises =
        let two = kept_apart holds (uses_in_actual known.program.types known.program.variables frees earlier (in_record p)) (uses_in_actuals known.program.types known.program.variables frees (earlier ++ in_record p ∷ []) rest) kept in
        let unsafe = is_given earlier p.object.root || record_passes known.program.types known.program.variables frees p in
        let used = (first_kept holds (passes_it unsafe p.object) [] two.0).0 in (
          (passed_safe unsafe (hold_at holds p.object.root) p.object.spot used).1,
          (λ may. raised_before_call rest (raises (or_left (actual_raises (in_record p)) (actuals_raise rest) may))),
          (λ v is. passes_actuals (earlier ++ in_record p ∷ []) rest (in_record p ∷ done) (v ∷ operands) all (is, passed) two.1 (λ may. raises (or_right (actual_raises (in_record p)) (actuals_raise rest) may))),
        )
    passes_actuals earlier (in_out_record p ∷ rest) done operands all passed kept raises =
        let two = kept_apart holds (uses_in_actual known.program.types known.program.variables frees earlier (in_out_record p)) (uses_in_actuals known.program.types known.program.variables frees (earlier ++ in_out_record p ∷ []) rest) kept in
        let unsafe = is_begun_with earlier p.object.root || record_passes known.program.types known.program.variables frees p in
        let used = (first_kept holds (passes_it unsafe p.object) [] two.0).0 in (
          (passed_safe unsafe (hold_at holds p.object.root) p.object.spot used).1,
          (λ may. raised_before_call rest (raises (or_left (actual_raises (in_out_record p)) (actuals_raise rest) may))),
          (λ v is. passes_actuals (earlier ++ in_out_record p ∷ []) rest (in_out_record p ∷ done) (v ∷ operands) all (is, passed) two.1 (λ may. raises (or_right (actual_raises (in_out_record p)) (actuals_raise rest) may))),
        )
    passes_actuals earlier (in_out_component path ∷ rest) done operands all passed kept raises =
        let two = kept_apart holds (uses_in_actual known.program.types known.program.variables frees earlier (in_out_component path)) (uses_in_actuals known.program.types known.program.variables frees (earlier ++ in_out_component path ∷ []) rest) kept in
        let owning = names_value (path_access known.program.types known.program.variables path) in
        let unsafe = is_begun_with earlier path.root || component_passes known.program.types known.program.variables frees path in
        let used = (first_kept holds (opens_it owning unsafe path) [] two.0).0 in (
          opened_kept owning unsafe (hold_at holds path.root) path.spot used,
          (λ may. raised_before_call rest (raises (or_left (actual_raises (in_out_component path)) (actuals_raise rest) may))),
          (λ v r is. passes_actuals (earlier ++ in_out_component path ∷ []) rest (in_out_component path ∷ done) (v ∷ r ∷ operands) all (is, passed) two.1 (λ may. raises (or_right (actual_raises (in_out_component path)) (actuals_raise rest) may))),
        )

module _ (known : Known) (procedure : ℕ) (actuals : List ActualForm) (fs : StmtsForm) (k : Control) (rooms : Rooms) (holds : Holds) where
  -- What is known of a call before its actual parameters are evaluated.
  calls_from : (here : Where) (b : BodyForm) → slice_get known.program.bodies procedure ≡ Some b → suits_profile known.program.types known.program.variables (Some (profile_of b)) actuals ≡ true → GetLost actuals holds → AreRecords known → Starting known here (calls procedure actuals) fs k (ways known k rooms) holds → (actuals_raise actuals ≡ true → To ((ways known (Does fs ∷ k) rooms).raised ConstraintError) holds) × CallsOn known procedure b actuals (Does fs ∷ k) rooms holds
  calls_from here b there suits lost records (from, g, out, returns', spares) =
      let effect = effect_in known procedure in
      let left = left_in known procedure holds in
      let failed = left_unkept (kept_in known procedure) actuals left in
      let may = actuals_raise actuals || call_raises effect (λ e. true) in
      let among : Exception → Bool = λ e. stmt_raises (effects_of known.implicit known.program) (is_same e) (calls procedure actuals) in
      let out' = ways known k rooms in
      let u = using_goes (uses_in_actuals known.program.types known.program.variables (call_frees effect) [] actuals) holds (ends_with may failed (handed_back actuals left)) (Doing known fs k out') (Raised among out') g in
      let n = ends_goes may failed (handed_back actuals left) (Doing known fs k out') (Raised among out') u.1 in
      let less = as_good_then holds left failed (called_good known.program.variables effect holds) (unkept_less (kept_in known procedure) actuals left) in (
        (λ some. to_before (out'.raised ConstraintError) holds failed less
            (n.1 (or_left (actuals_raise actuals) (call_raises effect (λ e. true)) some) ConstraintError
            (or_left (actuals_raise actuals) (call_raises effect (is_same ConstraintError)) some))),
        (
          there,
          n.0,
          (λ e raises. n.1
              (or_right (actuals_raise actuals) (call_raises effect (λ x. true)) (call_more (effects_of known.implicit known.program).calls (program_asks known.implicit known.program) procedure (is_same e) (λ x. true) (λ x is. refl) raises)) e
              (or_right (is_same e ConstraintError && actuals_raise actuals) (call_raises effect (is_same e)) raises)),
          spares,
          lost,
          suits,
          u.0,
          records,
        ),
      )

-- A call begins: its procedure is one that the running body may call.
pub call_begins : (known : Known) (bodies : List BodyForm) → MayCall known bodies → (here : Where) (procedure : ℕ) (actuals : List ActualForm) (fs : StmtsForm) (k : Control) (a : Activation Value) (rest : List (Activation Value)) (s : State) → suits_profile known.program.types known.program.variables (slice_get (callable_in known.program) procedure) actuals ≡ true → Working known s.heap a.places s.masters (λ rooms holds. Starting known here (calls procedure actuals) fs k (ways known k rooms) holds) → Fine known s.heap s.masters (call_next named procedure actuals (slice_get bodies procedure) (running (Does fs ∷ k) a rest s))
call_begins known bodies may here procedure actuals fs k a rest s suits w =
    let found = procedure_found known.program.types known.program.variables known.program.bodies procedure actuals suits in
    let nothing_known : (x : ℕ) → variable_access known.program.variables x ≡ None → hold_at w.holds x ≡ hold.Lost =
    may.lost (Does (a_stmt (calls procedure actuals) fs) ∷ k) w.holds (w.rest.0 [] (Does (a_stmt (calls procedure actuals) fs) ∷ k) w.holds comes.here) in
    let lost = given_lost known.program.types known.program.variables w.holds nothing_known (slice_get (callable_in known.program) procedure) actuals suits in
    let begins = calls_from known procedure actuals fs k w.rooms w.holds here found.0 found.1 found.2 lost may.records w.rest in
    let first = computing named actuals (Calls procedure found.0 actuals ∷ Does fs ∷ k) in
    rw (may.among procedure found.0 found.1) (ready_on known first a rest s a.operands (passes_ready known first s.heap a.places a.operands s.masters
    (at_work w (passes_actuals known procedure found.0 actuals (Does fs ∷ k) w.rooms w.holds s.heap a.places begins.1 [] actuals [] a.operands refl tt begins.1.6 begins.0))))
