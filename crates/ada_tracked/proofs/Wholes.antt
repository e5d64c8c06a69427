-- Records are assigned as wholes: another one is found than the object that is watched, or no component that is stored is tracked.

use Rattle.std.proofs.Common.{◌≡◌, ℕ, ◌+◌, ◌<◌, ◌≤◌, Bool, false, true, List, [], ◌∷◌, ◌++◌, length, take, drop, Option, Some, None, refl, sym, ap, ◌∙◌, inl, inr, subst, arith}
use Rattle.std.specs.Prelude.{reverse}
use Rattle.std.proofs.lemmas.List.{length-take, length-reverse}
use Rattle.ada_program.specs.declared.program.TypeDefinition.{TypeDefinition}
use Rattle.ada_program.specs.declared.program.Exception.TheVariants.{ConstraintError}
use Rattle.ada_program.specs.Form.{ItemForm}
use Rattle.ada_program.specs.ProgramForm.{BodyForm}
use Rattle.ada_meaning.specs.declared.state.Id.{Id}
use Rattle.ada_meaning.specs.declared.state.Mode.{Mode}
use Rattle.ada_meaning.specs.declared.state.Mode.TheVariants.{Running, Raising, Exiting, Returning}
use Rattle.ada_meaning.specs.declared.state.Value.{Value}
use Rattle.ada_meaning.specs.declared.state.Value.TheVariants.{Names}
use Rattle.ada_meaning.specs.Event.{Followed, Quiet}
use Rattle.ada_meaning.specs.Frame.{Frame}
use Rattle.ada_meaning.specs.Frame as frame
use Rattle.ada_meaning.specs.State.{Activation}
use Rattle.ada_meaning.specs.Heap.{Cell, Found, on_null, on_gone, on_other, finds}
use Rattle.ada_meaning.specs.Step.{at, raised, record_in, stored_from, record_stored_next, record_target_next, store_record_next}
use Rattle.ada_meaning.specs.Named.{State, named, look}
use Rattle.ada_meaning.proofs.Records.{record_same}
use Rattle.ada_tracked.specs.Copying.{AreNoneOf, FirstAssignsBare, AssignsBare, FirstCopiesNone, CopiesNone, is_tracked_at}
use Rattle.ada_tracked.specs.Forms.{seen_items}
use Rattle.ada_tracked.specs.Frames.{View, watched, number_of, blank_values, seen_control, blanked, tracked_values}
use Rattle.ada_tracked.specs.Law.{same, Shown}
use Rattle.ada_tracked.specs.Seen.{leads_to, awaits_holder, seen_state, IsWatched}
use Rattle.ada_tracked.proofs.Evaluations.{same_made}
use Rattle.ada_tracked.proofs.Found.{running, plain, idly, no_number}
use Rattle.ada_tracked.proofs.Heaps.{names, which, none_in, number_there, look_apart, look_there, look_blanked, StoresUntracked, record_stored}
use Rattle.ada_tracked.proofs.Lists.{same_number, untracked_read}
use Rattle.ada_tracked.proofs.Storing.{steps}

-- A step that copies and stores none of some components assigns no record with controlled parts.
first_bare :
    (types : List TypeDefinition) (o : Id) (these : ℕ → Bool) (s : State) (m : Mode) (k : List (Frame Value)) → FirstCopiesNone types o these s m k
    → FirstAssignsBare types m k
first_bare types o these s Running [] copies = tt
first_bare types o these s Running (frame.Does fs ∷ k) copies = copies
first_bare types o these s Running (f ∷ k) copies = tt
first_bare types o these s (Raising e) k copies = tt
first_bare types o these s Exiting k copies = tt
first_bare types o these s Returning k copies = tt

pub assigns_bare : (types : List TypeDefinition) (o : Id) (these : ℕ → Bool) (s : State) → CopiesNone types o these s → AssignsBare types s
assigns_bare types o these s copies = first_bare types o these s s.mode s.control copies

-- What is stored in another object is in no tracked component,
stored_elsewhere : (w : View) (v : Value) (c : ℕ) (us : List Value) → names w.object v ≡ false → StoresUntracked w v c us
stored_elsewhere w v c [] other = tt
stored_elsewhere w v c (u ∷ us) other = (none_in w v c other, stored_elsewhere w v (c + 1) us other)

-- nor is what is stored in components that are not.
stored_beside :
    (w : View) (c : ℕ) (us : List Value) → ((i : ℕ) → i < length us → is_tracked_at w (c + i) ≡ false) → StoresUntracked w (Names w.object) c us
stored_beside w c [] none = tt
stored_beside w c (u ∷ us) none =
    let first : c + 0 ≡ c = omega (arith) in (
      number_there w c ∙ no_number (number_of w c) (sym (ap (is_tracked_at w) first) ∙ none 0 (omega (arith))),
      stored_beside w (c + 1) us (λ i lt.
          let next : c + (i + 1) ≡ c + 1 + i = omega (arith) in
          sym (ap (is_tracked_at w) next) ∙ none (i + 1) (omega (arith, lt))),
    )

-- As many values as were asked for are stored, or fewer.
no_more : (count : ℕ) (vs : List Value) → length (reverse (take count vs)) ≤ count
no_more count vs = omega (arith, length-reverse (take count vs), length-take count vs)

module _ (types : List TypeDefinition) (bodies : List BodyForm) (w : View) where
  -- The target of an assignment.
  target_by : (t : State) (v : Value) (c count : ℕ) (items : List ItemForm) (found : Found (Cell Value)) (a : Activation Value) (rest : List (Activation Value)) (s : State) → Shown types bodies w t (record_target_next named v c count items found (running a rest s)) (record_target_next named v c count (seen_items w.tracks items) found (seen_state w (running a rest s)))
  target_by t v c count items on_null a rest s = plain types bodies w t Quiet (raised ConstraintError (running a rest s)) tt
  target_by t v c count items on_gone a rest s = refl
  target_by t v c count items on_other a rest s = refl
  target_by t v c count items (finds cell) a rest s =
      idly types bodies w t (Followed v) (at (frame.Fills items ∷ frame.StoresRecord v c count ∷ s.control) (running a rest s)) refl

  pub record_target_shown : (t : State) (v : Value) (c count : ℕ) (items : List ItemForm) (a : Activation Value) (rest : List (Activation Value)) (s : State) → IsWatched w a.places s.heap → Shown types bodies w t (record_target_next named v c count items (look s.heap v) (running a rest s)) (record_target_next named v c count (seen_items w.tracks items) (look (blanked w s.heap) v) (seen_state w (running a rest s)))
  record_target_shown t v c count items a rest s p = elim (which w.object v) [
    | inl other ↦ subst (λ (found : Found (Cell Value)). Shown types bodies w t (record_target_next named v c count items (look s.heap v) (running a rest s)) (record_target_next named v c count (seen_items w.tracks items) found (seen_state w (running a rest s))))
        (sym (look_apart w s.heap p.object p.at_object v other)) (target_by t v c count items (look s.heap v) a rest s)
    | inr itself ↦ subst (λ (u : Value). Shown types bodies w t (record_target_next named u c count items (look s.heap u) (running a rest s)) (record_target_next named u c count (seen_items w.tracks items) (look (blanked w s.heap) u) (seen_state w (running a rest s))))
        (sym itself)
        (subst (λ (found : Found (Cell Value)). Shown types bodies w t (record_target_next named (Names w.object) c count items found (running a rest s)) (record_target_next named (Names w.object) c count (seen_items w.tracks items) (look (blanked w s.heap) (Names w.object)) (seen_state w (running a rest s))))
        (sym (look_there w s.heap p.object p.at_object p.existing))
        (subst (λ (found : Found (Cell Value)). Shown types bodies w t (record_target_next named (Names w.object) c count items (finds p.object.cell) (running a rest s)) (record_target_next named (Names w.object) c count (seen_items w.tracks items) found (seen_state w (running a rest s))))
        (sym (look_blanked w s.heap p.object p.at_object p.existing))
        (target_by t (Names w.object) c count items (finds p.object.cell) a rest s)))
  ]

  -- Its components get their values.
  stored_by : (t : State) (v : Value) (c : ℕ) (us : List Value) (found : Option (List Value)) (a : Activation Value) (rest : List (Activation Value)) (s : State) → IsWatched w a.places s.heap → awaits_holder s.control ≡ false → StoresUntracked w v c us → Shown types bodies w t (record_stored_next named v c us found (running a rest s)) (record_stored_next named v c us found (seen_state w (running a rest s)))
  stored_by t v c us None a rest s p calm untracked = refl
  stored_by t v c us (Some before) a rest s p calm untracked =
      let both = record_stored w s.heap p.object p.at_object v c us untracked in
      steps types bodies w t (Followed v) (Followed v) (record (running a rest s) { heap = stored_from named s.heap v c us })
      (record (seen_state w (running a rest s)) { heap = stored_from named (blanked w s.heap) v c us }) (same refl) calm
      (same_made a rest (running a rest s) (a.places ++ tracked_values w s.heap) (a.places ++ tracked_values w (stored_from named s.heap v c us))
      a.operands a.operands (stored_from named (blanked w s.heap) v c us) (blanked w (stored_from named s.heap v c us)) (seen_control w s.control) (seen_control w s.control)
      (ap (λ (vs : List Value). a.places ++ vs) (sym both.1)) refl both.0 refl)

  -- The state in which the operands that are stored are gone.
  abbrev without : (count : ℕ) → Activation Value → Activation Value
  without count a = record a { operands = drop count a.operands }

  abbrev few : (count : ℕ) → Activation Value → List Value
  few count a = reverse (take count a.operands)

  found_by : (t : State) (v : Value) (c count : ℕ) (found : Found (Cell Value)) (a : Activation Value) (rest : List (Activation Value)) (s : State) → IsWatched w a.places s.heap → awaits_holder s.control ≡ false → StoresUntracked w v c (few count a) → Shown types bodies w t (store_record_next named v c count found (running a rest s)) (store_record_next named v c count found (seen_state w (running a rest s)))
  found_by t v c count on_null a rest s p calm untracked = refl
  found_by t v c count on_gone a rest s p calm untracked = refl
  found_by t v c count on_other a rest s p calm untracked = refl
  found_by t v c count (finds cell) a rest s p calm untracked =
      stored_by t v c (few count a) (record_in cell.values c count) (without count a) rest s p calm untracked

  -- In the object itself no component that is stored is tracked.
  store_itself : (t : State) (c count : ℕ) (a : Activation Value) (rest : List (Activation Value)) (s : State) → AreNoneOf (is_tracked_at w) c count → IsWatched w a.places s.heap → awaits_holder s.control ≡ false → Shown types bodies w t (store_record_next named (Names w.object) c count (look s.heap (Names w.object)) (running a rest s)) (store_record_next named (Names w.object) c count (look (blanked w s.heap) (Names w.object)) (seen_state w (running a rest s)))
  store_itself t c count a rest s none p calm =
      let vs = p.object.cell.values in
      let us = few count a in
      let one = running (without count a) rest s in
      let same_values : record_in (blank_values (watched w) vs) c count ≡ record_in vs c count =
      record_same (blank_values (watched w) vs) vs c count (λ i lt. untracked_read (watched w) w.tracks.first (c + i) vs (no_number (number_of w (c + i)) (none i lt))) in
      subst (λ (found : Found (Cell Value)). Shown types bodies w t (store_record_next named (Names w.object) c count found (running a rest s)) (store_record_next named (Names w.object) c count (look (blanked w s.heap) (Names w.object)) (seen_state w (running a rest s))))
      (sym (look_there w s.heap p.object p.at_object p.existing))
      (subst (λ (found : Found (Cell Value)). Shown types bodies w t (record_stored_next named (Names w.object) c us (record_in vs c count) one) (store_record_next named (Names w.object) c count found (seen_state w (running a rest s))))
      (sym (look_blanked w s.heap p.object p.at_object p.existing))
      (subst (λ (found : Option (List Value)). Shown types bodies w t (record_stored_next named (Names w.object) c us (record_in vs c count) one) (record_stored_next named (Names w.object) c us found (seen_state w one)))
      (sym same_values)
      (stored_by t (Names w.object) c us (record_in vs c count) (without count a) rest s p calm
      (stored_beside w c us (λ i lt. none i (omega (arith, lt, no_more count a.operands)))))))

  pub store_record_shown : (t : State) (v : Value) (c count : ℕ) (a : Activation Value) (rest : List (Activation Value)) (s : State) → (leads_to w.object v ≡ true → AreNoneOf (is_tracked_at w) c count) → IsWatched w a.places s.heap → awaits_holder s.control ≡ false → Shown types bodies w t (store_record_next named v c count (look s.heap v) (running a rest s)) (store_record_next named v c count (look (blanked w s.heap) v) (seen_state w (running a rest s)))
  store_record_shown t v c count a rest s none p calm = elim (which w.object v) [
    | inl other ↦ subst (λ (found : Found (Cell Value)). Shown types bodies w t (store_record_next named v c count (look s.heap v) (running a rest s)) (store_record_next named v c count found (seen_state w (running a rest s))))
        (sym (look_apart w s.heap p.object p.at_object v other))
        (found_by t v c count (look s.heap v) a rest s p calm (stored_elsewhere w v c (few count a) other))
    | inr itself ↦ subst (λ (u : Value). Shown types bodies w t (store_record_next named u c count (look s.heap u) (running a rest s)) (store_record_next named u c count (look (blanked w s.heap) u) (seen_state w (running a rest s))))
        (sym itself) (store_itself t c count a rest s (none (ap (leads_to w.object) itself ∙ same_number w.object.0)) p calm)
  ]
