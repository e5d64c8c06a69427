-- Variables and components get values, and objects are freed.

use Rattle.std.proofs.Common.{◌≡◌, ◌⊎◌, ℕ, ◌<◌, false, List, [], ◌∷◌, ◌++◌, length, Option, Some, None, refl, sym, ap, ◌∙◌, inl, inr, subst}
use Rattle.std.specs.List.{slice_get, slice_set}
use Rattle.ada_program.specs.declared.program.TypeDefinition.{TypeDefinition}
use Rattle.ada_program.specs.declared.program.Exception.TheVariants.{ConstraintError}
use Rattle.ada_program.specs.Form.{RightForm}
use Rattle.ada_program.specs.ProgramForm.{BodyForm}
use Rattle.ada_meaning.specs.declared.state.Value.{Value}
use Rattle.ada_meaning.specs.declared.state.Value.TheVariants.{Null, Names}
use Rattle.ada_meaning.specs.Event.{Event, Followed, Quiet}
use Rattle.ada_meaning.specs.Frame.{ends, Frame}
use Rattle.ada_meaning.specs.Frame as frame
use Rattle.ada_meaning.specs.State.{Activation}
use Rattle.ada_meaning.specs.Heap.{Cell, Found, on_null, on_gone, on_other, finds}
use Rattle.ada_meaning.specs.Step.{moves, at, raised, put, operands, target_next, stored_next, store_next, assign_next}
use Rattle.ada_meaning.specs.Named.{Object, State, Next, named, look, store, filled}
use Rattle.ada_tracked.specs.Forms.{seen_right}
use Rattle.ada_tracked.specs.Frames.{View, watched, number_of, number_in, stored_as, seen_control, blanked, tracked_values}
use Rattle.ada_tracked.specs.Seen.{IsOther, awaits_holder, seen_state, plainly, IsWatched}
use Rattle.ada_tracked.specs.Law.{Matches, same, followed, both, Shown}
use Rattle.ada_tracked.proofs.Lists.{set_front, read_within, tracked_below, untracked_read, clear}
use Rattle.ada_tracked.proofs.Heaps.{names, other_names, which, none_in, number_there, look_apart, look_there, look_blanked, on_apart, values_apart, store_untracked, values_untracked, store_tracked, values_tracked}
use Rattle.ada_tracked.proofs.Found.{running, plain}
use Rattle.ada_tracked.proofs.Evaluations.{same_made}

module _ (types : List TypeDefinition) (bodies : List BodyForm) (w : View) where
  -- Both take a step: a state is reached that is the one that stands, and in which nothing waits for an object.
  pub steps : (t : State) (e f : Event Value) (after stands : State) → Matches w e f → awaits_holder after.control ≡ false → stands ≡ seen_state w after → Shown types bodies w t (moves e after) (moves f stands)
  steps t e f after stands matches calm is = both f stands refl matches (plainly (clear w.object after.mode after.control (operands after) calm) is)

  -- A variable gets a value.
  pub put_seen : (x : ℕ) (v : Value) (a : Activation Value) (rest : List (Activation Value)) (s : State) → (x < length a.places) → put x v (seen_state w (running a rest s)) ≡ seen_state w (put x v (running a rest s))
  put_seen x v a rest s lt =
      same_made a rest (running a rest s) (slice_set (a.places ++ tracked_values w s.heap) x v) (slice_set a.places x v ++ tracked_values w s.heap)
      a.operands a.operands (blanked w s.heap) (blanked w s.heap) (seen_control w s.control) (seen_control w s.control)
      (set_front a.places (tracked_values w s.heap) x v lt) refl refl refl

  pub inside_places : (x : ℕ) (places : List Value) (h : List Object) → IsWatched w places h → x < w.tracks.first → x < length places
  inside_places x places h p lt = subst (λ (n : ℕ). x < n) (sym p.count) lt

  -- A component of another object does, or one that is not tracked.
  pub stored_apart : (v : Value) (c : ℕ) (u : Value) (a : Activation Value) (rest : List (Activation Value)) (s : State) → IsWatched w a.places s.heap → names w.object v ≡ false → record (seen_state w (running a rest s)) { heap = store (blanked w s.heap) v c u } ≡ seen_state w (record (running a rest s) { heap = store s.heap v c u })
  stored_apart v c u a rest s p ne =
      same_made a rest (running a rest s) (a.places ++ tracked_values w s.heap) (a.places ++ tracked_values w (store s.heap v c u))
      a.operands a.operands (store (blanked w s.heap) v c u) (blanked w (store s.heap v c u)) (seen_control w s.control) (seen_control w s.control)
      (ap (λ (vs : List Value). a.places ++ vs) (sym (values_apart w s.heap p.object p.at_object (filled c u) v ne))) refl
      (on_apart w s.heap p.object p.at_object (filled c u) v ne) refl

  pub stored_untracked : (c : ℕ) (u : Value) (a : Activation Value) (rest : List (Activation Value)) (s : State) → IsWatched w a.places s.heap → number_of w c ≡ None → record (seen_state w (running a rest s)) { heap = store (blanked w s.heap) (Names w.object) c u } ≡ seen_state w (record (running a rest s) { heap = store s.heap (Names w.object) c u })
  stored_untracked c u a rest s p none =
      same_made a rest (running a rest s) (a.places ++ tracked_values w s.heap) (a.places ++ tracked_values w (store s.heap (Names w.object) c u))
      a.operands a.operands (store (blanked w s.heap) (Names w.object) c u) (blanked w (store s.heap (Names w.object) c u)) (seen_control w s.control) (seen_control w s.control)
      (ap (λ (vs : List Value). a.places ++ vs) (sym (values_untracked w s.heap p.object p.at_object c u none))) refl
      (store_untracked w s.heap p.object p.at_object c u none) refl

  -- A tracked one does: the variable that stands for it gets the value.
  pub stored_tracked : (c x : ℕ) (u : Value) (a : Activation Value) (rest : List (Activation Value)) (s : State) → IsWatched w a.places s.heap → number_of w c ≡ Some x → put x u (seen_state w (running a rest s)) ≡ seen_state w (record (running a rest s) { heap = store s.heap (Names w.object) c u })
  stored_tracked c x u a rest s p is =
      same_made a rest (running a rest s) (slice_set (a.places ++ tracked_values w s.heap) x u) (a.places ++ tracked_values w (store s.heap (Names w.object) c u))
      a.operands a.operands (blanked w s.heap) (blanked w (store s.heap (Names w.object) c u)) (seen_control w s.control) (seen_control w s.control)
      (values_tracked w s.heap p.object p.at_object c x u a.places p.count p.apart p.below is) refl
      (sym (store_tracked w s.heap p.object p.at_object c x u is)) refl

  -- What a step does that stores in a component, or in the variable that stands for it.
  abbrev pub seen_store : Option ℕ → (o : Value) → (c : ℕ) → Value → State → Next
  seen_store None o c u s = store_next named o c u (look s.heap o) s
  seen_store (Some x) o c u s = moves Quiet (put x u s)

  stored_shown : (t : State) (v : Value) (c : ℕ) (u : Value) (found : Option Value) (a : Activation Value) (rest : List (Activation Value)) (s : State) → awaits_holder s.control ≡ false → record (seen_state w (running a rest s)) { heap = store (blanked w s.heap) v c u } ≡ seen_state w (record (running a rest s) { heap = store s.heap v c u }) → Shown types bodies w t (stored_next named v c u found (running a rest s)) (stored_next named v c u found (seen_state w (running a rest s)))
  stored_shown t v c u None a rest s calm is = refl
  stored_shown t v c u (Some before) a rest s calm is =
      steps t (Followed v) (Followed v) (record (running a rest s) { heap = store s.heap v c u }) (record (seen_state w (running a rest s)) { heap = store (blanked w s.heap) v c u }) (same refl) calm is

  store_shown : (t : State) (v : Value) (c : ℕ) (u : Value) (found : Found (Cell Value)) (a : Activation Value) (rest : List (Activation Value)) (s : State) → awaits_holder s.control ≡ false → record (seen_state w (running a rest s)) { heap = store (blanked w s.heap) v c u } ≡ seen_state w (record (running a rest s) { heap = store s.heap v c u }) → Shown types bodies w t (store_next named v c u found (running a rest s)) (store_next named v c u found (seen_state w (running a rest s)))
  store_shown t v c u on_null a rest s calm is = refl
  store_shown t v c u on_gone a rest s calm is = refl
  store_shown t v c u on_other a rest s calm is = refl
  store_shown t v c u (finds cell) a rest s calm is = stored_shown t v c u (slice_get cell.values c) a rest s calm is

  store_there : (t : State) (c : ℕ) (u : Value) (number : Option ℕ) (a : Activation Value) (rest : List (Activation Value)) (s : State) → IsWatched w a.places s.heap → awaits_holder s.control ≡ false → number_of w c ≡ number → Shown types bodies w t (store_next named (Names w.object) c u (look s.heap (Names w.object)) (running a rest s)) (seen_store number (Names w.object) c u (seen_state w (running a rest s)))
  store_there t c u None a rest s p calm is =
      subst (λ (found : Found (Cell Value)). Shown types bodies w t (store_next named (Names w.object) c u found (running a rest s)) (store_next named (Names w.object) c u (look (blanked w s.heap) (Names w.object)) (seen_state w (running a rest s))))
      (sym (look_there w s.heap p.object p.at_object p.existing))
      (subst (λ (found : Found (Cell Value)). Shown types bodies w t (stored_next named (Names w.object) c u (slice_get p.object.cell.values c) (running a rest s)) (store_next named (Names w.object) c u found (seen_state w (running a rest s))))
      (sym (look_blanked w s.heap p.object p.at_object p.existing))
      (subst (λ (found : Option Value). Shown types bodies w t (stored_next named (Names w.object) c u (slice_get p.object.cell.values c) (running a rest s)) (stored_next named (Names w.object) c u found (seen_state w (running a rest s))))
      (sym (untracked_read (watched w) w.tracks.first c p.object.cell.values is))
      (stored_shown t (Names w.object) c u (slice_get p.object.cell.values c) a rest s calm (stored_untracked c u a rest s p is))))
  store_there t c u (Some x) a rest s p calm is =
      let lt : c < length p.object.cell.values = tracked_below (watched w) w.tracks.first c x (length p.object.cell.values) is p.below in
      subst (λ (found : Found (Cell Value)). Shown types bodies w t (store_next named (Names w.object) c u found (running a rest s)) (moves Quiet (put x u (seen_state w (running a rest s)))))
      (sym (look_there w s.heap p.object p.at_object p.existing))
      (subst (λ (found : Option Value). Shown types bodies w t (stored_next named (Names w.object) c u found (running a rest s)) (moves Quiet (put x u (seen_state w (running a rest s)))))
      (sym (read_within p.object.cell.values c Null lt))
      (steps t (Followed (Names w.object)) Quiet (record (running a rest s) { heap = store s.heap (Names w.object) c u }) (put x u (seen_state w (running a rest s))) (followed refl refl) calm (stored_tracked c x u a rest s p is)))

  store_by : (t : State) (v : Value) (c : ℕ) (u : Value) (a : Activation Value) (rest : List (Activation Value)) (s : State) → IsWatched w a.places s.heap → awaits_holder s.control ≡ false → (names w.object v ≡ false) ⊎ (v ≡ Names w.object) → Shown types bodies w t (store_next named v c u (look s.heap v) (running a rest s)) (seen_store (number_in w v c) v c u (seen_state w (running a rest s)))
  store_by t v c u a rest s p calm (inl ne) =
      subst (λ (number : Option ℕ). Shown types bodies w t (store_next named v c u (look s.heap v) (running a rest s)) (seen_store number v c u (seen_state w (running a rest s))))
      (sym (none_in w v c ne))
      (subst (λ (found : Found (Cell Value)). Shown types bodies w t (store_next named v c u (look s.heap v) (running a rest s)) (store_next named v c u found (seen_state w (running a rest s))))
      (sym (look_apart w s.heap p.object p.at_object v ne))
      (store_shown t v c u (look s.heap v) a rest s calm (stored_apart v c u a rest s p ne)))
  store_by t v c u a rest s p calm (inr is) =
      subst (λ (o : Value). Shown types bodies w t (store_next named o c u (look s.heap o) (running a rest s)) (seen_store (number_in w o c) o c u (seen_state w (running a rest s))))
      (sym is)
      (store_there t c u (number_in w (Names w.object) c) a rest s p calm (sym (number_there w c)))

  pub store_in_shown : (t : State) (v : Value) (c : ℕ) (u : Value) (a : Activation Value) (rest : List (Activation Value)) (s : State) → IsWatched w a.places s.heap → awaits_holder s.control ≡ false → Shown types bodies w t (store_next named v c u (look s.heap v) (running a rest s)) (seen_store (number_in w v c) v c u (seen_state w (running a rest s)))
  store_in_shown t v c u a rest s p calm = store_by t v c u a rest s p calm (which w.object v)

  -- The target of an assignment.
  target_found : (t : State) (v : Value) (c : ℕ) (right : RightForm) (a : Activation Value) (rest : List (Activation Value)) (s : State) → number_in w v c ≡ None → Shown types bodies w t (moves (Followed v) (at (frame.Evaluates right ∷ frame.StoresIn v c ∷ s.control) (running a rest s))) (moves (Followed v) (at (frame.Evaluates (seen_right w.tracks right) ∷ frame.StoresIn v c ∷ seen_control w s.control) (seen_state w (running a rest s))))
  target_found t v c right a rest s none =
      steps t (Followed v) (Followed v) (at (frame.Evaluates right ∷ frame.StoresIn v c ∷ s.control) (running a rest s))
      (at (frame.Evaluates (seen_right w.tracks right) ∷ frame.StoresIn v c ∷ seen_control w s.control) (seen_state w (running a rest s))) (same refl) refl
      (ap (λ (f : Frame Value). at (frame.Evaluates (seen_right w.tracks right) ∷ f ∷ seen_control w s.control) (seen_state w (running a rest s)))
      (ap (λ (number : Option ℕ). stored_as number v c) (sym none)) ∙ stored_front v c right a rest s (number_in w v c) refl)
    where
      stored_front : (v : Value) (c : ℕ) (right : RightForm) (a : Activation Value) (rest : List (Activation Value)) (s : State) (number : Option ℕ) → number_in w v c ≡ number → at (frame.Evaluates (seen_right w.tracks right) ∷ stored_as (number_in w v c) v c ∷ seen_control w s.control) (seen_state w (running a rest s)) ≡ seen_state w (at (frame.Evaluates right ∷ frame.StoresIn v c ∷ s.control) (running a rest s))
      stored_front v c right a rest s number is = refl

  target_by : (t : State) (v : Value) (c : ℕ) (right : RightForm) (found : Found (Cell Value)) (a : Activation Value) (rest : List (Activation Value)) (s : State) → number_in w v c ≡ None → Shown types bodies w t (target_next named v c right found (running a rest s)) (target_next named v c (seen_right w.tracks right) found (seen_state w (running a rest s)))
  target_by t v c right on_null a rest s none = plain types bodies w t Quiet (raised ConstraintError (running a rest s)) tt
  target_by t v c right on_gone a rest s none = refl
  target_by t v c right on_other a rest s none = refl
  target_by t v c right (finds cell) a rest s none = target_found t v c right a rest s none

  pub target_shown : (t : State) (v : Value) (c : ℕ) (right : RightForm) (a : Activation Value) (rest : List (Activation Value)) (s : State) → IsOther w.object v → IsWatched w a.places s.heap → Shown types bodies w t (target_next named v c right (look s.heap v) (running a rest s)) (target_next named v c (seen_right w.tracks right) (look (blanked w s.heap) v) (seen_state w (running a rest s)))
  target_shown t v c right a rest s other p =
      subst (λ (found : Found (Cell Value)). Shown types bodies w t (target_next named v c right (look s.heap v) (running a rest s)) (target_next named v c (seen_right w.tracks right) found (seen_state w (running a rest s))))
      (sym (look_apart w s.heap p.object p.at_object v (other_names w.object v other)))
      (target_by t v c right (look s.heap v) a rest s (none_in w v c (other_names w.object v other)))

  pub target_elsewhere : (t : State) (c : ℕ) (right : RightForm) (a : Activation Value) (rest : List (Activation Value)) (s : State) → number_of w c ≡ None → IsWatched w a.places s.heap → Shown types bodies w t (target_next named (Names w.object) c right (look s.heap (Names w.object)) (running a rest s)) (target_next named (Names w.object) c (seen_right w.tracks right) (look (blanked w s.heap) (Names w.object)) (seen_state w (running a rest s)))
  target_elsewhere t c right a rest s none p =
      subst (λ (found : Found (Cell Value)). Shown types bodies w t (target_next named (Names w.object) c right found (running a rest s)) (target_next named (Names w.object) c (seen_right w.tracks right) (look (blanked w s.heap) (Names w.object)) (seen_state w (running a rest s))))
      (sym (look_there w s.heap p.object p.at_object p.existing))
      (subst (λ (found : Found (Cell Value)). Shown types bodies w t (target_next named (Names w.object) c right (finds p.object.cell) (running a rest s)) (target_next named (Names w.object) c (seen_right w.tracks right) found (seen_state w (running a rest s))))
      (sym (look_blanked w s.heap p.object p.at_object p.existing))
      (target_found t (Names w.object) c right a rest s (number_there w c ∙ none)))

  -- A tracked one is evaluated for, where the variable that stands for it is assigned to.
  pub target_behind : (t : State) (c x : ℕ) (right : RightForm) (a : Activation Value) (rest : List (Activation Value)) (s : State) → number_of w c ≡ Some x → IsWatched w a.places s.heap → Shown types bodies w t (target_next named (Names w.object) c right (look s.heap (Names w.object)) (running a rest s)) (assign_next named [] x (seen_right w.tracks right) (seen_state w (running a rest s)))
  target_behind t c x right a rest s is p =
      subst (λ (found : Found (Cell Value)). Shown types bodies w t (target_next named (Names w.object) c right found (running a rest s)) (assign_next named [] x (seen_right w.tracks right) (seen_state w (running a rest s))))
      (sym (look_there w s.heap p.object p.at_object p.existing))
      (steps t (Followed (Names w.object)) Quiet (at (frame.Evaluates right ∷ frame.StoresIn (Names w.object) c ∷ s.control) (running a rest s))
      (at (frame.Evaluates (seen_right w.tracks right) ∷ frame.Stores x ∷ seen_control w s.control) (seen_state w (running a rest s))) (followed refl refl) refl
      (subst (λ (number : Option ℕ). at (frame.Evaluates (seen_right w.tracks right) ∷ stored_as number (Names w.object) c ∷ seen_control w s.control) (seen_state w (running a rest s)) ≡ seen_state w (at (frame.Evaluates right ∷ frame.StoresIn (Names w.object) c ∷ s.control) (running a rest s)))
      (number_there w c ∙ is) (stored_seen (Names w.object) c right a rest s)))
    where
      stored_seen : (v : Value) (c : ℕ) (right : RightForm) (a : Activation Value) (rest : List (Activation Value)) (s : State) → at (frame.Evaluates (seen_right w.tracks right) ∷ stored_as (number_in w v c) v c ∷ seen_control w s.control) (seen_state w (running a rest s)) ≡ seen_state w (at (frame.Evaluates right ∷ frame.StoresIn v c ∷ s.control) (running a rest s))
      stored_seen v c right a rest s = refl
