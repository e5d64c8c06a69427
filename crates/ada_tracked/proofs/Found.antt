-- Where a path leads: the object to which it goes, and what lies there.

use Rattle.std.proofs.Common.{◌≡◌, ℕ, ◌+◌, ◌<◌, Bool, true, false, List, [], ◌∷◌, ◌++◌, length, Option, Some, None, refl, sym, ap, ◌∙◌, inl, inr, subst}
use Rattle.std.specs.Prelude.{is_some}
use Rattle.std.specs.List.{slice_get, slice_index_or}
use Rattle.ada_program.specs.declared.program.TypeDefinition.{TypeDefinition}
use Rattle.ada_program.specs.declared.program.Exception.TheVariants.{ConstraintError}
use Rattle.ada_program.specs.ProgramForm.{BodyForm}
use Rattle.ada_meaning.specs.declared.state.Id.{Id}
use Rattle.ada_meaning.specs.declared.state.Mode.TheVariants.{Running}
use Rattle.ada_meaning.specs.declared.state.Value.{Value}
use Rattle.ada_meaning.specs.declared.state.Value.TheVariants.{Null, Names, Scalar, Part}
use Rattle.ada_meaning.specs.Event.{Event, Followed, Quiet}
use Rattle.ada_meaning.specs.Frame.{Frame}
use Rattle.ada_meaning.specs.State.{Activation}
use Rattle.ada_meaning.specs.Heap.{Cell, Found, on_null, on_gone, on_other, finds}
use Rattle.ada_meaning.specs.Step.{moves, at, raised, computed, set_operands, in_front, record_in, operands, reading, component_next, follow_next, path_next, selected, before_last, last_of, copied_next, copies_next}
use Rattle.ada_meaning.specs.Named.{Object, State, Next, named, look, whole, inside, next}
use Rattle.ada_meaning.proofs.Records.{record_same}
use Rattle.ada_tracked.specs.Frames.{View, watched, number_of, blank_values, blanked, tracked_values, standing}
use Rattle.ada_tracked.specs.Seen.{leads_to, awaits_holder, HoldersAreOther, refers, AreNoReferences, seen_state, plainly, following, IsWatched}
use Rattle.ada_tracked.specs.Looking.{LandsElsewhere, HoldsElsewhere, LeadsElsewhere}
use Rattle.ada_tracked.specs.Copying.{AreNoneOf, is_tracked_at}
use Rattle.ada_tracked.specs.Law.{Matches, same, followed, IsSilent, Goes, both, alone, Shown}
use Rattle.ada_tracked.specs.Law as law
use Rattle.ada_tracked.proofs.Lists.{same_number, clear, landed, untracked_read, tracked_below, tracked_read, tracked_no_reference, read_within}
use Rattle.ada_tracked.proofs.Heaps.{names, other_names, which, values_there, look_apart, look_there, look_blanked}

-- A state in which a body runs.
abbrev pub running : Activation Value → List (Activation Value) → State → State
running a rest s = record s { activations = a ∷ rest; mode = Running }

-- What a component holds is found for what waits behind it, if no more selectors follow.
abbrev EndsElsewhere : (o : Id) → (awaits : Bool) → (selectors : List ℕ) → Value → Type 0
EndsElsewhere o awaits [] v = LandsElsewhere o awaits v
EndsElsewhere o awaits (c ∷ cs) v = Unit {0}

-- So it is of what lies in the object that a value names.
holds_ends : (o : Id) (h : List Object) (awaits : Bool) (v : Value) (c : ℕ) (cs : List ℕ) → HoldsElsewhere o h awaits v c cs → (cell : Cell Value) (u : Value) → look h v ≡ finds cell → slice_get cell.values c ≡ Some u → EndsElsewhere o awaits cs u
holds_ends o h awaits v c [] holds cell u found is = holds cell u found is
holds_ends o h awaits v c (d ∷ cs) holds cell u found is = tt

pub whole_self : (v : Value) → refers v ≡ false → whole v ≡ v
whole_self Null e = refl
whole_self (Names o) e = refl
whole_self (Scalar v) e = refl
whole_self (Part o place) e = absurd (cc)

pub inside_self : (v : Value) (c : ℕ) → refers v ≡ false → inside v c ≡ c
inside_self Null c e = refl
inside_self (Names o) c e = refl
inside_self (Scalar v) c e = refl
inside_self (Part o place) c e = absurd (cc)

pub selected_self : (v : Value) (cs : List ℕ) → refers v ≡ false → selected named v cs ≡ cs
selected_self v [] e = refl
selected_self v (c ∷ cs) e = ap (λ (d : ℕ). d ∷ cs) (inside_self v c e)

-- A component that is not tracked has no number.
pub no_number : (found : Option ℕ) → is_some found ≡ false → found ≡ None
no_number None e = refl
no_number (Some x) e = absurd (cc)

-- What a path names, by what its variable holds.
abbrev pub named_by : List ℕ → Value → State → Next
named_by cs v s = path_next named (selected named v cs) (whole v) s

-- The object in which the last component of a path lies, by what its variable holds.
abbrev pub holder_by : (c : ℕ) → List ℕ → Value → (ℕ → Frame Value) → State → Next
holder_by c cs v frame_of s =
    path_next named (before_last (inside v c) cs) (whole v) (at (frame_of (last_of (inside v c) cs) ∷ s.control) s)

module _ (types : List TypeDefinition) (bodies : List BodyForm) (w : View) where
  -- A state that stands for another one, but for what is left to do and the operands, and does this next.
  abbrev pub Stays : (s t : State) → Next → Type 0
  Stays s t n = (k : List (Frame Value)) × (vs : List Value) × (t ≡ standing w s k vs) × (next types bodies t ≡ n)

  -- Both take a step with the same event.
  pub plain : (t : State) (e : Event Value) (after : State) → HoldersAreOther w.object after.mode after.control (operands after) → Shown types bodies w t (moves e after) (moves e (seen_state w after))
  plain t e after others = both e (seen_state w after) refl (same refl) (plainly others refl)

  -- They do, and nothing waits for an object after it.
  pub idly : (t : State) (e : Event Value) (after : State) → awaits_holder after.control ≡ false → Shown types bodies w t (moves e after) (moves e (seen_state w after))
  idly t e after calm = plain t e after (clear w.object after.mode after.control (operands after) calm)

  -- An object is looked for: another one than this, where something waits for it.
  reading_shown : (t : State) (e : Event Value) (cs : List ℕ) (u : Value) (a : Activation Value) (rest : List (Activation Value)) (s : State) → EndsElsewhere w.object (awaits_holder s.control) cs u → Shown types bodies w t (moves e (reading named cs u (running a rest s))) (moves e (reading named cs u (seen_state w (running a rest s))))
  reading_shown t e [] u a rest s ends = plain t e (computed u (running a rest s)) (landed w.object s.control u a.operands ends)
  reading_shown t e (c ∷ cs) u a rest s ends = plain t e (reading named (c ∷ cs) u (running a rest s)) tt

  component_shown : (t : State) (v : Value) (cs : List ℕ) (found : Option Value) (a : Activation Value) (rest : List (Activation Value)) (s : State) → ((u : Value) → found ≡ Some u → EndsElsewhere w.object (awaits_holder s.control) cs u) → Shown types bodies w t (component_next named v cs found (running a rest s)) (component_next named v cs found (seen_state w (running a rest s)))
  component_shown t v cs None a rest s ends = refl
  component_shown t v cs (Some u) a rest s ends = reading_shown t (Followed v) cs u a rest s (ends u refl)

  follow_shown : (t : State) (v : Value) (c : ℕ) (cs : List ℕ) (found : Found (Cell Value)) (a : Activation Value) (rest : List (Activation Value)) (s : State) → ((cell : Cell Value) (u : Value) → found ≡ finds cell → slice_get cell.values c ≡ Some u → EndsElsewhere w.object (awaits_holder s.control) cs u) → Shown types bodies w t (follow_next named v c cs found (running a rest s)) (follow_next named v c cs found (seen_state w (running a rest s)))
  follow_shown t v c cs on_null a rest s ends = plain t Quiet (raised ConstraintError (running a rest s)) tt
  follow_shown t v c cs on_gone a rest s ends = refl
  follow_shown t v c cs on_other a rest s ends = refl
  follow_shown t v c cs (finds cell) a rest s ends = component_shown t v cs (slice_get cell.values c) a rest s (λ u. ends cell u refl)

  pub path_shown : (t : State) (cs : List ℕ) (v : Value) (a : Activation Value) (rest : List (Activation Value)) (s : State) → IsWatched w a.places s.heap → LeadsElsewhere w.object s.heap (awaits_holder s.control) cs v → Shown types bodies w t (path_next named cs v (running a rest s)) (path_next named cs v (seen_state w (running a rest s)))
  path_shown t [] v a rest s p leads = plain t Quiet (computed v (running a rest s)) (landed w.object s.control v a.operands leads)
  path_shown t (c ∷ cs) v a rest s p leads =
      subst (λ (found : Found (Cell Value)). Shown types bodies w t (follow_next named v c cs (look s.heap v) (running a rest s)) (follow_next named v c cs found (seen_state w (running a rest s))))
      (sym (look_apart w s.heap p.object p.at_object v (other_names w.object v leads.0)))
      (follow_shown t v c cs (look s.heap v) a rest s (holds_ends w.object s.heap (awaits_holder s.control) v c cs leads.1))

  -- A record is copied.
  copied_shown : (t : State) (v : Value) (found : Option (List Value)) (a : Activation Value) (rest : List (Activation Value)) (s : State) → awaits_holder s.control ≡ false → Shown types bodies w t (copied_next named v found (running a rest s)) (copied_next named v found (seen_state w (running a rest s)))
  copied_shown t v None a rest s calm = refl
  copied_shown t v (Some vs) a rest s calm = idly t (Followed v) (set_operands (in_front vs a.operands) (running a rest s)) calm

  copies_found : (t : State) (v : Value) (c count : ℕ) (found : Found (Cell Value)) (a : Activation Value) (rest : List (Activation Value)) (s : State) → awaits_holder s.control ≡ false → Shown types bodies w t (copies_next named v c count found (running a rest s)) (copies_next named v c count found (seen_state w (running a rest s)))
  copies_found t v c count on_null a rest s calm = plain t Quiet (raised ConstraintError (running a rest s)) tt
  copies_found t v c count on_gone a rest s calm = refl
  copies_found t v c count on_other a rest s calm = refl
  copies_found t v c count (finds cell) a rest s calm = copied_shown t v (record_in cell.values c count) a rest s calm

  -- From another object than this one,
  copies_other : (t : State) (v : Value) (c count : ℕ) (a : Activation Value) (rest : List (Activation Value)) (s : State) → names w.object v ≡ false → IsWatched w a.places s.heap → awaits_holder s.control ≡ false → Shown types bodies w t (copies_next named v c count (look s.heap v) (running a rest s)) (copies_next named v c count (look (blanked w s.heap) v) (seen_state w (running a rest s)))
  copies_other t v c count a rest s other p calm =
      subst (λ (found : Found (Cell Value)). Shown types bodies w t (copies_next named v c count (look s.heap v) (running a rest s)) (copies_next named v c count found (seen_state w (running a rest s))))
      (sym (look_apart w s.heap p.object p.at_object v other))
      (copies_found t v c count (look s.heap v) a rest s calm)

  -- or from this one, if no component that is copied is tracked.
  copies_itself : (t : State) (c count : ℕ) (a : Activation Value) (rest : List (Activation Value)) (s : State) → AreNoneOf (is_tracked_at w) c count → IsWatched w a.places s.heap → awaits_holder s.control ≡ false → Shown types bodies w t (copies_next named (Names w.object) c count (look s.heap (Names w.object)) (running a rest s)) (copies_next named (Names w.object) c count (look (blanked w s.heap) (Names w.object)) (seen_state w (running a rest s)))
  copies_itself t c count a rest s none p calm =
      let vs = p.object.cell.values in
      let same : record_in (blank_values (watched w) vs) c count ≡ record_in vs c count =
      record_same (blank_values (watched w) vs) vs c count (λ i lt. untracked_read (watched w) w.tracks.first (c + i) vs (no_number (number_of w (c + i)) (none i lt))) in
      subst (λ (found : Found (Cell Value)). Shown types bodies w t (copies_next named (Names w.object) c count found (running a rest s)) (copies_next named (Names w.object) c count (look (blanked w s.heap) (Names w.object)) (seen_state w (running a rest s))))
      (sym (look_there w s.heap p.object p.at_object p.existing))
      (subst (λ (found : Found (Cell Value)). Shown types bodies w t (copied_next named (Names w.object) (record_in vs c count) (running a rest s)) (copies_next named (Names w.object) c count found (seen_state w (running a rest s))))
      (sym (look_blanked w s.heap p.object p.at_object p.existing))
      (subst (λ (found : Option (List Value)). Shown types bodies w t (copied_next named (Names w.object) (record_in vs c count) (running a rest s)) (copied_next named (Names w.object) found (seen_state w (running a rest s))))
      (sym same)
      (copied_shown t (Names w.object) (record_in vs c count) a rest s calm)))

  pub copies_shown : (t : State) (v : Value) (c count : ℕ) (a : Activation Value) (rest : List (Activation Value)) (s : State) → (leads_to w.object v ≡ true → AreNoneOf (is_tracked_at w) c count) → IsWatched w a.places s.heap → awaits_holder s.control ≡ false → Shown types bodies w t (copies_next named v c count (look s.heap v) (running a rest s)) (copies_next named v c count (look (blanked w s.heap) v) (seen_state w (running a rest s)))
  copies_shown t v c count a rest s none p calm = elim (which w.object v) [
    | inl other ↦ copies_other t v c count a rest s other p calm
    | inr itself ↦ subst (λ (u : Value). Shown types bodies w t (copies_next named u c count (look s.heap u) (running a rest s)) (copies_next named u c count (look (blanked w s.heap) u) (seen_state w (running a rest s))))
        (sym itself) (copies_itself t c count a rest s (none (ap (leads_to w.object) itself ∙ same_number w.object.0)) p calm)
  ]

  -- The object itself, from a component that is not tracked.
  pub untracked_path : (t : State) (b : ℕ) (cs : List ℕ) (a : Activation Value) (rest : List (Activation Value)) (s : State) → IsWatched w a.places s.heap → number_of w b ≡ None → HoldsElsewhere w.object s.heap (awaits_holder s.control) (Names w.object) b cs → Shown types bodies w t (path_next named (b ∷ cs) (Names w.object) (running a rest s)) (path_next named (b ∷ cs) (Names w.object) (seen_state w (running a rest s)))
  untracked_path t b cs a rest s p none holds =
      subst (λ (found : Found (Cell Value)). Shown types bodies w t (follow_next named (Names w.object) b cs found (running a rest s)) (follow_next named (Names w.object) b cs (look (blanked w s.heap) (Names w.object)) (seen_state w (running a rest s))))
      (sym (look_there w s.heap p.object p.at_object p.existing))
      (subst (λ (found : Found (Cell Value)). Shown types bodies w t (component_next named (Names w.object) cs (slice_get p.object.cell.values b) (running a rest s)) (follow_next named (Names w.object) b cs found (seen_state w (running a rest s))))
      (sym (look_blanked w s.heap p.object p.at_object p.existing))
      (subst (λ (found : Option Value). Shown types bodies w t (component_next named (Names w.object) cs (slice_get p.object.cell.values b) (running a rest s)) (component_next named (Names w.object) cs found (seen_state w (running a rest s))))
      (sym (untracked_read (watched w) w.tracks.first b p.object.cell.values none))
      (component_shown t (Names w.object) cs (slice_get p.object.cell.values b) a rest s
      (λ u. holds_ends w.object s.heap (awaits_holder s.control) (Names w.object) b cs holds p.object.cell u (look_there w s.heap p.object p.at_object p.existing)))))

  -- What a component of the object holds.
  abbrev pub value_at : (h : List Object) (places : List Value) → IsWatched w places h → ℕ → Value
  value_at h places p b = slice_index_or p.object.cell.values b Null

  pub value_plain : (h : List Object) (places : List Value) (p : IsWatched w places h) (b i : ℕ) → number_of w b ≡ Some i → refers (value_at h places p b) ≡ false
  value_plain h places p b i is =
      tracked_no_reference (watched w) w.tracks.first b i p.object.cell.values is
      (subst (λ (vs : List Value). AreNoReferences vs) (values_there w h p.object p.at_object) p.no_references)

  pub value_held : (h : List Object) (places : List Value) (p : IsWatched w places h) (b i : ℕ) → number_of w b ≡ Some i → slice_index_or (places ++ tracked_values w h) i Null ≡ value_at h places p b
  value_held h places p b i is =
      ap (λ (vs : List Value). slice_index_or (places ++ vs) i Null) (values_there w h p.object p.at_object)
      ∙ tracked_read (watched w) w.tracks.first b i places p.object.cell.values p.count is

  -- A tracked component is read.
  tracked_reading : (t : State) (cs : List ℕ) (u : Value) (a : Activation Value) (rest : List (Activation Value)) (s : State) → EndsElsewhere w.object (awaits_holder s.control) cs u → Stays (running a rest s) t (path_next named cs u (seen_state w (running a rest s))) → Shown types bodies w t (moves (Followed (Names w.object)) (reading named cs u (running a rest s))) (path_next named cs u (seen_state w (running a rest s)))
  unfolding next
  tracked_reading t [] u a rest s ends stays =
      both Quiet (computed u (seen_state w (running a rest s))) refl (followed refl refl) (plainly (landed w.object s.control u a.operands ends) refl)
  tracked_reading t (c ∷ cs) u a rest s ends stays =
      alone (law.followed refl) (following c cs s.control refl refl stays.0 stays.1 stays.2 stays.3)

  pub tracked_path : (t : State) (b i : ℕ) (cs : List ℕ) (a : Activation Value) (rest : List (Activation Value)) (s : State) (p : IsWatched w a.places s.heap) → number_of w b ≡ Some i → HoldsElsewhere w.object s.heap (awaits_holder s.control) (Names w.object) b cs → Stays (running a rest s) t (path_next named cs (value_at s.heap a.places p b) (seen_state w (running a rest s))) → Shown types bodies w t (path_next named (b ∷ cs) (Names w.object) (running a rest s)) (path_next named cs (value_at s.heap a.places p b) (seen_state w (running a rest s)))
  tracked_path t b i cs a rest s p is holds stays =
      let u = value_at s.heap a.places p b in
      let lt : b < length p.object.cell.values = tracked_below (watched w) w.tracks.first b i (length p.object.cell.values) is p.below in
      let there = look_there w s.heap p.object p.at_object p.existing in
      let read : slice_get p.object.cell.values b ≡ Some u = read_within p.object.cell.values b Null lt in
      subst (λ (found : Found (Cell Value)). Shown types bodies w t (follow_next named (Names w.object) b cs found (running a rest s)) (path_next named cs u (seen_state w (running a rest s))))
      (sym there)
      (subst (λ (found : Option Value). Shown types bodies w t (component_next named (Names w.object) cs found (running a rest s)) (path_next named cs u (seen_state w (running a rest s))))
      (sym read)
      (tracked_reading t cs u a rest s (holds_ends w.object s.heap (awaits_holder s.control) (Names w.object) b cs holds p.object.cell u there read) stays))
