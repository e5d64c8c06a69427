-- The body of an Adjust runs that tracks components (7.6): what the state that stands for the real one has of it; and as long as the end of the body is not
-- next, no body begins or ends in a step of either.

use Rattle.std.proofs.Common.{◌≡◌, ℕ, Bool, true, false, List, [], ◌∷◌, length, refl, sym, ap, ◌∙◌, subst, inl, inr, arith}
use Rattle.std.specs.Prelude.{Option, Some, None, ◌||◌}
use Rattle.ada_program.specs.declared.program.Exception.{Exception}
use Rattle.ada_program.specs.declared.program.TypeDefinition.{TypeDefinition}
use Rattle.ada_program.specs.Form.{calls, a_stmt, declares_record}
use Rattle.ada_program.specs.ProgramForm.{BodyForm, TypeForm}
use Rattle.ada_parts.specs.Task.{Task}
use Rattle.ada_meaning.specs.declared.state.Mode.{Mode}
use Rattle.ada_meaning.specs.declared.state.Mode.TheVariants.{Running, Raising, Exiting, Returning}
use Rattle.ada_meaning.specs.declared.state.Value.{Value}
use Rattle.ada_meaning.specs.Frame as frame
use Rattle.ada_meaning.specs.Frame.{Frame, Calls, Does, Elaborates, Follows, Leaves, Returns, is_master, is_return, landing}
use Rattle.ada_meaning.specs.State.{Activation, Master}
use Rattle.ada_meaning.specs.Step.{halts, moves, tells, asks, picks, older, procedure_of, pass_next, with_operands, with_places}
use Rattle.ada_meaning.specs.Named.{State, Next, named, next}
use Rattle.ada_finalized.specs.Law.{NothingBegins}
use Rattle.ada_tracked.specs.Frames.{View, blanked, number_in, seen_control, standing, standing_activations, stored_as, cleared_as, tracked_values}
use Rattle.ada_tracked.specs.Law.{InnermostHousesNone, NextIsSimple}
use Rattle.ada_tracked.specs.Seen.{Seen, Waiting, assigning, getting, freeing, behind as delayed, elsewhere, following, plainly, waiting_frame, seen_state}
use Rattle.ada_tracked.specs.Simple.{FrameIsSimple}
use Rattle.ada_tracked.specs.Staying.{BodyIsSimple, IsWithinBody, StaysSimple, at_once, behind_treatment}
use Rattle.ada_typed.proofs.Kept.{behind_call, crosses as crosses_by, Behind, Each, is_treatment, Keeps}
use Rattle.ada_typed.proofs.KeptSteps.{pass_keeps, step_keeps}
use Rattle.ada_sound.proofs.Allowance.{Allowance, simple_allowance}
use Rattle.ada_sound.proofs.FrugalControl.{Frugal, FrugalBegins, FrugalLeads, FrugalLeaves, is_return_first}
use Rattle.ada_sound.proofs.FrugalSteps.{is_call_first, treats_none}
use Rattle.ada_sound.proofs.Invariant.{Control}
use Rattle.ada_sound.proofs.Steps as inside

-- Does a call begin next, or does a record come to be as a whole?
abbrev pub calls_or_copies : Control → Bool
calls_or_copies (Does (a_stmt (calls procedure actuals) fs) ∷ k) = true
calls_or_copies (Elaborates (declares_record x t initial ∷ ds) fs hs ∷ k) = true
calls_or_copies k = false

-- Not in a frugal body, where no procedure is called frugal.
leads_on : (types : List TypeForm) (behind : Control) (among : List Value) (k : Control) (ms : List Master) → FrugalLeads (simple_allowance types) behind among k ms → calls_or_copies k ≡ false
leads_on types behind among (Does (a_stmt (calls procedure actuals) fs) ∷ k) ms q = absurd (cc (q.0))
leads_on types behind among (Elaborates (declares_record x t initial ∷ ds) fs hs ∷ k) [] q = absurd q
leads_on types behind among (Elaborates (declares_record x t None ∷ ds) fs hs ∷ k) (m ∷ ms) q = let declares = q.0.1.0 in absurd (cc declares)
leads_on types behind among (Elaborates (declares_record x t (Some items) ∷ ds) fs hs ∷ k) (m ∷ ms) q = let declares = q.0.1.0 in absurd (cc declares)
leads_on types behind among k ms q = refl

leaves_on : (types : List TypeForm) (behind : Control) (among : List Value) (k : Control) (ms : List Master) → FrugalLeaves (simple_allowance types) behind among k ms → calls_or_copies k ≡ false
leaves_on types behind among (Does (a_stmt (calls procedure actuals) fs) ∷ k) ms q = absurd q
leaves_on types behind among (Elaborates (declares_record x t initial ∷ ds) fs hs ∷ k) ms q = absurd q
leaves_on types behind among k ms q = refl

-- Nor is it where a new object begins first.
begins_on : (types : List TypeForm) (behind : Control) (among : List Value) (k : Control) (ms : List Master) → FrugalBegins (simple_allowance types) behind among k ms → calls_or_copies k ≡ false
begins_on types behind among [] ms q = refl
begins_on types behind among (frame.Treats v (frame.begins by done) tasks ∷ k) ms q = refl
begins_on types behind among (frame.Treats v (frame.ends cause) tasks ∷ k) ms q = refl
begins_on types behind among (frame.Awaits v by done of part tasks ∷ k) ms q = refl
begins_on types behind among (frame.Copies first t ∷ k) ms q = refl
begins_on types behind among (frame.StoresRecord v first count ∷ k) ms q = refl
begins_on types behind among (frame.Confines ∷ k) ms q = refl
begins_on types behind among (f ∷ k) ms q = absurd q

pub frugal_alone : (types : List TypeForm) (behind : Control) (among : List Value) (mode : Mode) (k : Control) (ms : List Master) → Frugal (simple_allowance types) behind among mode k ms → calls_or_copies k ≡ false
frugal_alone types behind among mode k ms (inl q) = leads_on types behind among k ms q
frugal_alone types behind among mode k ms (inr (inl q)) = leaves_on types behind among k ms q.1
frugal_alone types behind among mode k ms (inr (inr q)) = begins_on types behind among k ms q.1

-- A state with these parts.
abbrev with_parts : Mode → Control → State → State
with_parts mode k s = record s { mode = mode; control = k }

-- From one state to the other the same body runs, and what waits for it stays as it is; and behind it the same is left to do.
pub record SameRun (s after : State) : Type 0 where
  pub procedure : procedure_of after.activations ≡ procedure_of s.activations
  pub suspended : older after.activations ≡ older s.activations
  pub behind : behind_call after.control ≡ behind_call s.control

runs_by : (s mid after : State) → mid.activations ≡ s.activations → behind_call mid.control ≡ behind_call s.control → Keeps mid after → SameRun s after
runs_by s mid after same control keeps = record {
  procedure = keeps.procedure ∙ ap procedure_of same;
  suspended = keeps.suspended ∙ ap older same;
  behind = keeps.behind ∙ control;
}

each_by : (s mid : State) (n : Next) → mid.activations ≡ s.activations → behind_call mid.control ≡ behind_call s.control → Each (Keeps mid) n → Each (SameRun s) n
each_by s mid (halts halt) same control keeps = tt
each_by s mid (moves e after) same control keeps = runs_by s mid after same control keeps
each_by s mid (tells request e after) same control keeps = runs_by s mid after same control keeps
each_by s mid (asks request answered) same control keeps = λ granted. runs_by s mid (answered granted) same control (keeps granted)
each_by s mid (picks n taken) same control keeps = λ i lt. runs_by s mid (taken i) same control (keeps i lt)

-- What is left behind a call is so behind a frame of its body.
behind_frame : (f : Frame Value) (k : Control) → is_return f ≡ false → behind_call k ≡ behind_call (f ∷ k)
behind_frame f k inner = rw inner refl

-- Two tests that fail.
neither : (a b : Bool) → (a || b) ≡ false → (a ≡ false) × (b ≡ false)
neither true b e = absurd (cc e)
neither false true e = absurd (cc e)
neither false false e = (refl, refl)

module _ (types : List TypeDefinition) (bodies : List BodyForm) where
  running_on : (f : Frame Value) (k : Control) (s : State) → (crosses_by f || is_treatment f) ≡ false → Each (SameRun (with_parts Running (f ∷ k) s)) (next types bodies (with_parts Running (f ∷ k) s))
  unfolding next
  running_on (Returns actuals references) k s none = absurd (cc none)
  running_on f k s none =
      let both = neither (crosses_by f) (is_treatment f) none in
      each_by (with_parts Running (f ∷ k) s) (with_parts Running k s) (next types bodies (with_parts Running (f ∷ k) s)) refl (behind_frame f k refl)
      (step_keeps types bodies f (with_parts Running k s) (λ treats. absurd (cc (both.1, treats))) both.0)

  passing_on : (mode : Mode) (f : Frame Value) (k : Control) (s : State) (n : Next) → is_return f ≡ false → n ≡ pass_next named (is_master f) (landing mode f) mode (with_parts mode k s) → Each (SameRun (with_parts mode (f ∷ k) s)) n
  passing_on mode f k s n inner is =
      each_by (with_parts mode (f ∷ k) s) (with_parts mode k s) n refl (behind_frame f k inner)
      (subst (Each (Keeps (with_parts mode k s))) (sym is) (pass_keeps (is_master f) (landing mode f) mode (with_parts mode k s)))

  raising_on : (e : Exception) (f : Frame Value) (k : Control) (s : State) → is_return f ≡ false → Each (SameRun (with_parts (Raising e) (f ∷ k) s)) (next types bodies (with_parts (Raising e) (f ∷ k) s))
  unfolding next
  raising_on e (Returns actuals references) k s inner = absurd (cc inner)
  raising_on e f k s inner = passing_on (Raising e) f k s _ refl refl

  exiting_on : (f : Frame Value) (k : Control) (s : State) → is_return f ≡ false → Each (SameRun (with_parts Exiting (f ∷ k) s)) (next types bodies (with_parts Exiting (f ∷ k) s))
  unfolding next
  exiting_on (Returns actuals references) k s inner = absurd (cc inner)
  exiting_on f k s inner = passing_on Exiting f k s _ refl refl

  returning_on : (f : Frame Value) (k : Control) (s : State) → is_return f ≡ false → Each (SameRun (with_parts Returning (f ∷ k) s)) (next types bodies (with_parts Returning (f ∷ k) s))
  unfolding next
  returning_on (Returns actuals references) k s inner = absurd (cc inner)
  returning_on f k s inner = passing_on Returning f k s _ refl refl

  by_mode : (mode : Mode) (k : Control) (s : State) → inside.crosses mode k ≡ false → Each (SameRun (with_parts mode k s)) (next types bodies (with_parts mode k s))
  unfolding next
  by_mode Running [] s none = tt
  by_mode Running (f ∷ k) s none = running_on f k s none
  by_mode (Raising e) [] s none = tt
  by_mode (Raising e) (f ∷ k) s none = raising_on e f k s none
  by_mode Exiting [] s none = tt
  by_mode Exiting (f ∷ k) s none = exiting_on f k s none
  by_mode Returning [] s none = tt
  by_mode Returning (f ∷ k) s none = returning_on f k s none

  -- Where no body begins and none ends, the same one runs on.
  pub each_runs_on : (s : State) → inside.crosses s.mode s.control ≡ false → Each (SameRun s) (next types bodies s)
  each_runs_on s none = by_mode s.mode s.control s none

  -- A list is not longer than itself.
  no_longer : {X : Type 0} (x : X) (xs : List X) → xs ≡ x ∷ xs → ⊥
  no_longer x xs e = let same = ap length e in omega (arith, same)

  calls_longer : (vs : List Value) (all : List (Activation Value)) → (older all ≡ [] → ⊥) → with_operands vs all ≡ older all → ⊥
  calls_longer vs [] some e = some refl
  calls_longer vs (a ∷ rest) some e = no_longer (record a { operands = vs }) rest (sym e)

  ends_shorter : (rest : List (Activation Value)) → (rest ≡ [] → ⊥) → older rest ≡ rest → ⊥
  ends_shorter [] some e = some refl
  ends_shorter (b ∷ rest) some e = no_longer b rest e

  older_twice : (us vs : List Value) (all : List (Activation Value)) → older (with_operands us (with_places vs all)) ≡ older all
  older_twice us vs [] = refl
  older_twice us vs (a ∷ rest) = refl

  -- In a step in which the same body runs on, none begins and none ends.
  runs_first : (k : Control) (s now : State) → older now.activations ≡ older s.activations → Each (SameRun now) (next types bodies (with_parts Running k s)) → (older s.activations ≡ [] → ⊥) → (is_return_first k ≡ false) × (is_call_first k ≡ false)
  unfolding next
  runs_first [] s now same runs some = (refl, refl)
  runs_first (Calls procedure b actuals ∷ k) s now same runs some = absurd (calls_longer [] s.activations some (runs.suspended ∙ same))
  runs_first (Returns actuals references ∷ k) s now same runs some =
      absurd (ends_shorter (older s.activations) some (sym (older_twice _ _ (older s.activations)) ∙ (runs.suspended ∙ same)))
  runs_first (f ∷ k) s now same runs some = (refl, refl)

-- The state that stands for the real one has its heap, with components that hold null; its masters, its mode, and what waits for the running body.
pub record StandsFor (w : View) (s t : State) : Type 0 where
  pub heap : t.heap ≡ blanked w s.heap
  pub masters : t.masters ≡ s.masters
  pub mode : t.mode ≡ s.mode
  pub procedure : procedure_of t.activations ≡ procedure_of s.activations
  pub suspended : older t.activations ≡ older s.activations

standing_procedure : (more vs : List Value) (all : List (Activation Value)) → procedure_of (standing_activations more vs all) ≡ procedure_of all
standing_procedure more vs [] = refl
standing_procedure more vs (a ∷ rest) = refl

standing_older : (more vs : List Value) (all : List (Activation Value)) → older (standing_activations more vs all) ≡ older all
standing_older more vs [] = refl
standing_older more vs (a ∷ rest) = refl

stands_by : (w : View) (s t : State) (l : Control) (vs : List Value) → t ≡ standing w s l vs → StandsFor w s t
stands_by w s t l vs is = rw is (record {
  heap = refl;
  masters = refl;
  mode = refl;
  procedure = standing_procedure (tracked_values w s.heap) vs s.activations;
  suspended = standing_older (tracked_values w s.heap) vs s.activations;
})

pub stands_for : (types : List TypeDefinition) (bodies : List BodyForm) (w : View) (s t : State) → Seen types bodies w s t → StandsFor w s t
stands_for types bodies w s t (plainly others is) = stands_by w s t _ _ is
stands_for types bodies w s t (following c cs k running_is control_is l vs is goes_on) = stands_by w s t l vs is
stands_for types bodies w s t (elsewhere waiting c k vs running_is control_is operands_are none is) = stands_by w s t _ _ is
stands_for types bodies w s t (delayed waiting c x spot fs k vs running_is control_is operands_are is stood) = stands_by w s t _ _ stood

-- What is left to do behind a call.
abbrev left_of : Option Behind → Control
left_of None = []
left_of (Some b) = b.left

-- Simple bodies.
module _ (first : ℕ) where
  -- Something is left before the body ends.
  pub within : (k : Control) → BodyIsSimple first k → is_return_first k ≡ false → IsWithinBody first k
  within [] simple inner = tt
  within (f ∷ k) simple inner = rw inner at simple

  simple_frame : (f : Frame Value) → FrameIsSimple first f → (crosses_by f || is_treatment f) ≡ false
  simple_frame (Calls procedure b actuals) simple = absurd simple
  simple_frame (Returns actuals references) simple = absurd simple
  simple_frame (frame.Treats v treatment tasks) simple = absurd simple
  simple_frame f simple = refl

  -- No body begins next, and none ends.
  pub simple_crosses : (mode : Mode) (k : Control) → BodyIsSimple first k → is_return_first k ≡ false → inside.crosses mode k ≡ false
  simple_crosses mode [] simple inner = refl
  simple_crosses Running (f ∷ k) simple inner = simple_frame f (within (f ∷ k) simple inner).0
  simple_crosses (Raising e) (f ∷ k) simple inner = inner
  simple_crosses Exiting (f ∷ k) simple inner = inner
  simple_crosses Returning (f ∷ k) simple inner = inner

  -- What is left to do begins no other object than what is behind the body does.
  pub simple_begins : (v : Value) (k left : Control) → BodyIsSimple first k → behind_call k ≡ Some (record { actuals = []; references = []; left = left }) → NothingBegins v left → NothingBegins v k
  simple_begins v [] left simple ends none = absurd (cc ends)
  simple_begins v (Returns actuals references ∷ k) left simple ends none = let same : k ≡ left = ap left_of ends in rw same none
  simple_begins v (frame.Treats u treatment tasks ∷ k) left simple ends none = absurd simple.0
  simple_begins v (frame.Awaits u by done of part tasks ∷ k) left simple ends none = absurd simple.0
  simple_begins v (f ∷ k) left simple ends none = simple_begins v k left simple.1 ends none

-- The law of what stands for the state speaks of the next frame, where the innermost master is the home of no objects.
pub next_simple : (w : View) (k : Control) (ms : List Master) → BodyIsSimple w.tracks.first k → is_return_first k ≡ false → ((mode : Mode) (j : Control) → k ≡ Leaves mode ∷ j → InnermostHousesNone ms) → NextIsSimple w k ms
next_simple w [] ms simple inner low = tt
next_simple w (Returns actuals references ∷ k) ms simple inner low = absurd (cc inner)
next_simple w (Leaves mode ∷ k) ms simple inner low = (tt, low mode k refl)
next_simple w (f ∷ k) ms simple inner low = (simple.0, tt)

module _ (types : List TypeDefinition) (bodies : List BodyForm) (w : View) where
  -- What is next in the state that stands for the real one is no call and no end of one, either.
  plain_first : (k : Control) → BodyIsSimple w.tracks.first k → is_return_first k ≡ false → (is_return_first (seen_control w k) ≡ false) × (is_call_first (seen_control w k) ≡ false)
  plain_first [] simple inner = (refl, refl)
  plain_first (Calls procedure b actuals ∷ k) simple inner = absurd simple.0
  plain_first (Returns actuals references ∷ k) simple inner = absurd (cc inner)
  plain_first (frame.StoresIn o c ∷ k) simple inner = by (number_in w o c)
    where
      by : (x : Option ℕ) → (is_return_first (stored_as x o c ∷ seen_control w k) ≡ false) × (is_call_first (stored_as x o c ∷ seen_control w k) ≡ false)
      by None = (refl, refl)
      by (Some x) = (refl, refl)
  plain_first (frame.ClearsIn o c ∷ k) simple inner = by (number_in w o c)
    where
      by : (x : Option ℕ) → (is_return_first (cleared_as x o c ∷ seen_control w k) ≡ false) × (is_call_first (cleared_as x o c ∷ seen_control w k) ≡ false)
      by None = (refl, refl)
      by (Some x) = (refl, refl)
  plain_first (f ∷ k) simple inner = (refl, refl)

  abbrev IsWithin : Control → Type 0
  IsWithin k = (is_return_first k ≡ false) × (is_call_first k ≡ false)

  -- The real state has found a value, and the other one is to take that step, too.
  follows_on : (c : ℕ) (cs : List ℕ) (k l : Control) (m : Mode) (control : Control) (s u : State) → m ≡ Running → control ≡ Follows (c ∷ cs) ∷ k → older u.activations ≡ older s.activations → (older s.activations ≡ [] → ⊥)
      → next types bodies (with_parts m l u) ≡ next types bodies (seen_state w (with_parts m control s)) → IsWithin l
  follows_on c cs k l m control s u runs is same some goes_on =
      let now = with_parts Running (Follows (c ∷ cs) ∷ k) s in
      let there : next types bodies (with_parts Running l u) ≡ next types bodies (seen_state w now) = rw (runs, is) at goes_on in
      let each : Each (SameRun (seen_state w now)) (next types bodies (seen_state w now)) = each_runs_on types bodies (seen_state w now) refl in
      let all : Each (SameRun (seen_state w now)) (next types bodies (with_parts Running l u)) = subst (Each (SameRun (seen_state w now))) (sym there) each in
      runs_first types bodies l u (seen_state w now) (standing_older (tracked_values w s.heap) _ s.activations ∙ sym same) all (λ none. some (sym same ∙ none))

  pub seen_within : (s t : State) → Seen types bodies w s t → BodyIsSimple w.tracks.first s.control → is_return_first s.control ≡ false → (older s.activations ≡ [] → ⊥) → IsWithin t.control
  seen_within s t (plainly others is) simple inner some = rw is (plain_first s.control simple inner)
  seen_within s t (following c cs k running_is control_is l vs is goes_on) simple inner some =
      subst (λ (u : State). IsWithin u.control) (sym is)
      (follows_on c cs k l s.mode s.control s (standing w s l vs) running_is control_is (standing_older (tracked_values w s.heap) vs s.activations) some
      (subst (λ (u : State). next types bodies u ≡ next types bodies (seen_state w s)) is goes_on))
  seen_within s t (elsewhere waiting c k vs running_is control_is operands_are none is) simple inner some = rw is (plain_first s.control simple inner)
  seen_within s t (delayed waiting c x spot fs k vs running_is control_is operands_are is stood) simple inner some = rw stood (refl, refl)

  -- Where a treatment is next in the real state, it is so in the other one.
  no_treatment : (waiting : Waiting) (c : ℕ) (k l : Control) (v : Value) (treatment : frame.Treatment) (tasks : List Task) → waiting_frame waiting c ∷ k ≡ frame.Treats v treatment tasks ∷ l → ⊥
  no_treatment (assigning right) c k l v treatment tasks e = absurd (cc e)
  no_treatment getting c k l v treatment tasks e = absurd (cc e)
  no_treatment (freeing access) c k l v treatment tasks e = absurd (cc e)

  -- So none is, where the other one is frugal, frees no objects with controlled parts, and declares no record objects.
  treated_not : (frugal : Allowance) → frugal.treats_parts ≡ false → frugal.objects ≡ false → (back : Control) (among : List Value) (s t : State) (ms : List Master) (v : Value) (treatment : frame.Treatment) (tasks : List Task) (k : Control) → Seen types bodies w s t → Frugal frugal back among t.mode t.control ms → s.control ≡ frame.Treats v treatment tasks ∷ k → ⊥
  treated_not frugal none_parts none_objects back among s t ms v treatment tasks k (plainly others is) frugally e =
      let control : t.control ≡ frame.Treats v treatment tasks ∷ seen_control w k = rw (is, e) refl in
      treats_none frugal none_parts none_objects back among t.mode t.control ms frugally v treatment tasks (seen_control w k) control
  treated_not frugal none_parts none_objects back among s t ms v treatment tasks k (following c cs j running_is control_is l vs is goes_on) frugally e = absurd (cc (control_is, e))
  treated_not frugal none_parts none_objects back among s t ms v treatment tasks k (elsewhere waiting c j vs running_is control_is operands_are none is) frugally e =
      no_treatment waiting c j k v treatment tasks (sym control_is ∙ e)
  treated_not frugal none_parts none_objects back among s t ms v treatment tasks k (delayed waiting c x spot fs j vs running_is control_is operands_are is stood) frugally e =
      no_treatment waiting c (Does fs ∷ j) k v treatment tasks (sym control_is ∙ e)

  -- So what is left to do stays simple.
  pub simple_still : (frugal : Allowance) → frugal.treats_parts ≡ false → frugal.objects ≡ false → (back : Control) (among : List Value) (s t : State) (ms : List Master) → Seen types bodies w s t → Frugal frugal back among t.mode t.control ms → StaysSimple w.tracks.first s.control → BodyIsSimple w.tracks.first s.control
  simple_still frugal none_parts none_objects back among s t ms seen frugally (at_once simple) = simple
  simple_still frugal none_parts none_objects back among s t ms seen frugally (behind_treatment v treatment tasks k is simple) = absurd (treated_not frugal none_parts none_objects back among s t ms v treatment tasks k seen frugally is)

  -- Where the real state leaves a master, the other one does.
  no_leaving : (waiting : Waiting) (c : ℕ) (k l : Control) (mode : Mode) → waiting_frame waiting c ∷ k ≡ Leaves mode ∷ l → ⊥
  no_leaving (assigning right) c k l mode e = absurd (cc e)
  no_leaving getting c k l mode e = absurd (cc e)
  no_leaving (freeing access) c k l mode e = absurd (cc e)

  pub seen_leaves : (s t : State) (mode : Mode) (k : Control) → Seen types bodies w s t → s.control ≡ Leaves mode ∷ k → (j : Control) × (t.control ≡ Leaves mode ∷ j)
  seen_leaves s t mode k (plainly others is) e = (seen_control w k, rw (is, e) refl)
  seen_leaves s t mode k (following c cs j running_is control_is l vs is goes_on) e = absurd (cc (control_is, e))
  seen_leaves s t mode k (elsewhere waiting c j vs running_is control_is operands_are none is) e = absurd (no_leaving waiting c j k mode (sym control_is ∙ e))
  seen_leaves s t mode k (delayed waiting c x spot fs j vs running_is control_is operands_are is stood) e = absurd (no_leaving waiting c (Does fs ∷ j) k mode (sym control_is ∙ e))
