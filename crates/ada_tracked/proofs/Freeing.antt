-- The input is read, objects are freed and go, and masters are left.

use Rattle.std.proofs.Common.{◌≡◌, ◌⊎◌, ℕ, ◌+◌, ◌<◌, Bool, true, false, List, [], ◌∷◌, ◌++◌, length, Option, Some, None, refl, sym, ap, ◌∙◌, inl, inr, subst}
use Rattle.std.specs.Prelude.{ℤ, if◌then◌else◌}
use Rattle.std.specs.List.{slice_get, slice_index_or}
use Rattle.ada_program.specs.declared.program.TypeDefinition.{TypeDefinition}
use Rattle.ada_program.specs.declared.program.Exception.TheVariants.{ConstraintError, EndError}
use Rattle.ada_program.specs.ProgramForm.{BodyForm}
use Rattle.ada_parts.specs.declared.tasks.Direction.TheVariants.{WholeFirst}
use Rattle.ada_meaning.specs.declared.event.Cause.{Cause}
use Rattle.ada_meaning.specs.declared.event.Cause.TheVariants.{Freeing}
use Rattle.ada_meaning.specs.declared.event.Halt.TheVariants.{Erroneous}
use Rattle.ada_meaning.specs.declared.event.Why.TheVariants.{GivesElsewhere}
use Rattle.ada_meaning.specs.declared.state.Mode.{Mode}
use Rattle.ada_meaning.specs.declared.state.Mode.TheVariants.{Running}
use Rattle.ada_meaning.specs.declared.state.Value.{Value}
use Rattle.ada_meaning.specs.declared.state.Value.TheVariants.{Null, Names}
use Rattle.ada_meaning.specs.Event.{Event, Back, Followed, Quiet, Left}
use Rattle.ada_meaning.specs.Frame.{ends, Frame}
use Rattle.ada_meaning.specs.Frame as frame
use Rattle.ada_meaning.specs.State.{Activation, Item, Master, Owned, declared, collection, record_object, storage_pool, type_housed, home_of, pool_freed_to}
use Rattle.ada_meaning.specs.Heap.{Cell, Found, on_null, on_gone, on_other, finds}
use Rattle.ada_meaning.specs.Step.{halts, moves, all_tasks, treating, same_pool, at, raised, put, operands, older, shorter, freeing, freeing_next, free_next, end_next, told_back, given_back, back_next, freed_next, free_component_next, free_in_next, gets_next, received_next, receive_next, frees_next, item_leave_next, master_leave_next, leave_next}
use Rattle.ada_meaning.specs.Named.{Object, State, named, look, lent, lent_by, standing as listed_at, store, on_object, parted, finished, returned, an_integer}
use Rattle.ada_tracked.specs.Frames.{View, watched, number_of, number_in, cleared_as, seen_control, blank_object, blanked, values_at, tracked_values}
use Rattle.ada_tracked.specs.Simple.{IsVariable}
use Rattle.ada_tracked.specs.Seen.{IsOther, awaits_holder, seen_state, Seen, plainly, IsWatched, Waiting, assigning, getting}
use Rattle.ada_tracked.specs.Seen as seen_specs
use Rattle.ada_tracked.specs.Looking.{HolderIsElsewhere, FreedIsElsewhere}
use Rattle.ada_tracked.specs.Law.{InnermostHousesNone, NewestHousesNone, Matches, same, followed, Shown}
use Rattle.ada_tracked.proofs.Lists.{read_front, read_within, tracked_below, untracked_read, clear}
use Rattle.ada_tracked.proofs.Heaps.{names, other_names, which, none_in, number_there, look_apart, lent_apart, standing_apart, look_there, look_blanked, on_apart, values_apart, on_there, values_on_there, blanked_here}
use Rattle.ada_tracked.proofs.Found.{running, idly, value_at, value_held}
use Rattle.ada_tracked.proofs.Evaluations.{same_made, treating_seen, treating_calm}
use Rattle.ada_tracked.proofs.Named.{seen_waiting, start_next}
use Rattle.ada_tracked.proofs.Storing.{steps, put_seen, inside_places, stored_apart, stored_untracked, stored_tracked}

-- What a statement at a path looks at as it begins.
abbrev pub StartsAt : View → List Object → Waiting → (root : ℕ) → (selectors : List ℕ) → (root_holds : Value) → Type 0
StartsAt w h (assigning right) x cs v = HolderIsElsewhere w.object h x cs v
StartsAt w h getting x cs v = HolderIsElsewhere w.object h x cs v
StartsAt w h (seen_specs.freeing access) x cs v = FreedIsElsewhere w.object h x cs v

-- A component of an object that a value names holds another object.
abbrev pub NamesElsewhere : View → List Object → Value → (component : ℕ) → Type 0
NamesElsewhere w h v c = (cell : Cell Value) (u : Value) → look h v ≡ finds cell → slice_get cell.values c ≡ Some u → IsOther w.object u

module _ (types : List TypeDefinition) (bodies : List BodyForm) (w : View) where
  -- The next number of the input goes to a component.
  received_shown : (t : State) (v : Value) (c : ℕ) (input : List ℤ) (found : Option Value) (a : Activation Value) (rest : List (Activation Value)) (s : State) → awaits_holder s.control ≡ false → ((u : Value) (z : State) → z.heap ≡ s.heap → record (seen_state w (running a rest z)) { heap = store (blanked w z.heap) v c u } ≡ seen_state w (record (running a rest z) { heap = store z.heap v c u })) → Shown types bodies w t (received_next named v c input found (running a rest s)) (received_next named v c input found (seen_state w (running a rest s)))
  received_shown t v c input None a rest s calm stored = refl
  received_shown t v c [] (Some before) a rest s calm stored = idly types bodies w t (Followed v) (raised EndError (running a rest s)) calm
  received_shown t v c (i ∷ is) (Some before) a rest s calm stored =
      let z = record s { input = is } in
      steps types bodies w t (Followed v) (Followed v) (record (running a rest z) { heap = store s.heap v c (an_integer i) })
      (record (seen_state w (running a rest z)) { heap = store (blanked w s.heap) v c (an_integer i) }) (same refl) calm (stored (an_integer i) z refl)

  receive_by : (t : State) (v : Value) (c : ℕ) (found : Found (Cell Value)) (a : Activation Value) (rest : List (Activation Value)) (s : State) → awaits_holder s.control ≡ false → ((u : Value) (z : State) → z.heap ≡ s.heap → record (seen_state w (running a rest z)) { heap = store (blanked w z.heap) v c u } ≡ seen_state w (record (running a rest z) { heap = store z.heap v c u })) → Shown types bodies w t (receive_next named v c found (running a rest s)) (receive_next named v c found (seen_state w (running a rest s)))
  receive_by t v c on_null a rest s calm stored = idly types bodies w t Quiet (raised ConstraintError (running a rest s)) calm
  receive_by t v c on_gone a rest s calm stored = refl
  receive_by t v c on_other a rest s calm stored = refl
  receive_by t v c (finds cell) a rest s calm stored = received_shown t v c s.input (slice_get cell.values c) a rest s calm stored

  pub receive_shown : (t : State) (v : Value) (c : ℕ) (a : Activation Value) (rest : List (Activation Value)) (s : State) → IsOther w.object v → IsWatched w a.places s.heap → awaits_holder s.control ≡ false → Shown types bodies w t (receive_next named v c (look s.heap v) (running a rest s)) (receive_next named v c (look (blanked w s.heap) v) (seen_state w (running a rest s)))
  receive_shown t v c a rest s other p calm =
      let ne = other_names w.object v other in
      subst (λ (found : Found (Cell Value)). Shown types bodies w t (receive_next named v c (look s.heap v) (running a rest s)) (receive_next named v c found (seen_state w (running a rest s))))
      (sym (look_apart w s.heap p.object p.at_object v ne))
      (receive_by t v c (look s.heap v) a rest s calm
      (λ u z is. stored_apart types bodies w v c u a rest z (subst (IsWatched w a.places) (sym is) p) ne))

  pub receive_elsewhere : (t : State) (c : ℕ) (a : Activation Value) (rest : List (Activation Value)) (s : State) → number_of w c ≡ None → IsWatched w a.places s.heap → awaits_holder s.control ≡ false → Shown types bodies w t (receive_next named (Names w.object) c (look s.heap (Names w.object)) (running a rest s)) (receive_next named (Names w.object) c (look (blanked w s.heap) (Names w.object)) (seen_state w (running a rest s)))
  receive_elsewhere t c a rest s none p calm =
      subst (λ (found : Found (Cell Value)). Shown types bodies w t (receive_next named (Names w.object) c found (running a rest s)) (receive_next named (Names w.object) c (look (blanked w s.heap) (Names w.object)) (seen_state w (running a rest s))))
      (sym (look_there w s.heap p.object p.at_object p.existing))
      (subst (λ (found : Found (Cell Value)). Shown types bodies w t (received_next named (Names w.object) c s.input (slice_get p.object.cell.values c) (running a rest s)) (receive_next named (Names w.object) c found (seen_state w (running a rest s))))
      (sym (look_blanked w s.heap p.object p.at_object p.existing))
      (subst (λ (found : Option Value). Shown types bodies w t (received_next named (Names w.object) c s.input (slice_get p.object.cell.values c) (running a rest s)) (received_next named (Names w.object) c s.input found (seen_state w (running a rest s))))
      (sym (untracked_read (watched w) w.tracks.first c p.object.cell.values none))
      (received_shown t (Names w.object) c s.input (slice_get p.object.cell.values c) a rest s calm
      (λ u z is. stored_untracked types bodies w c u a rest z (subst (IsWatched w a.places) (sym is) p) none))))

  received_behind : (t : State) (c x : ℕ) (input : List ℤ) (before : Value) (a : Activation Value) (rest : List (Activation Value)) (s : State) → number_of w c ≡ Some x → IsWatched w a.places s.heap → awaits_holder s.control ≡ false → Shown types bodies w t (received_next named (Names w.object) c input (Some before) (running a rest s)) (gets_next named [] x input (seen_state w (running a rest s)))
  received_behind t c x [] before a rest s is p calm =
      steps types bodies w t (Followed (Names w.object)) Quiet (raised EndError (running a rest s)) (raised EndError (seen_state w (running a rest s))) (followed refl refl) calm refl
  received_behind t c x (i ∷ more) before a rest s is p calm =
      let z = record s { input = more } in
      steps types bodies w t (Followed (Names w.object)) Quiet (record (running a rest z) { heap = store s.heap (Names w.object) c (an_integer i) })
      (put x (an_integer i) (seen_state w (running a rest z))) (followed refl refl) calm (stored_tracked types bodies w c x (an_integer i) a rest z p is)

  pub receive_behind : (t : State) (c x : ℕ) (a : Activation Value) (rest : List (Activation Value)) (s : State) → number_of w c ≡ Some x → IsWatched w a.places s.heap → awaits_holder s.control ≡ false → Shown types bodies w t (receive_next named (Names w.object) c (look s.heap (Names w.object)) (running a rest s)) (gets_next named [] x s.input (seen_state w (running a rest s)))
  receive_behind t c x a rest s is p calm =
      let lt : c < length p.object.cell.values = tracked_below (watched w) w.tracks.first c x (length p.object.cell.values) is p.below in
      subst (λ (found : Found (Cell Value)). Shown types bodies w t (receive_next named (Names w.object) c found (running a rest s)) (gets_next named [] x s.input (seen_state w (running a rest s))))
      (sym (look_there w s.heap p.object p.at_object p.existing))
      (subst (λ (found : Option Value). Shown types bodies w t (received_next named (Names w.object) c s.input found (running a rest s)) (gets_next named [] x s.input (seen_state w (running a rest s))))
      (sym (read_within p.object.cell.values c Null lt))
      (received_behind t c x s.input (slice_index_or p.object.cell.values c Null) a rest s is p calm))

  -- A Free begins.
  freed_seen : (access : ℕ) (v : Value) (cell : Cell Value) (f g : Frame Value) (a : Activation Value) (rest : List (Activation Value)) (s : State) → IsOther w.object v → IsWatched w a.places s.heap → seen_control w (f ∷ s.control) ≡ g ∷ seen_control w s.control → freeing named types access v cell g (seen_state w (running a rest s)) ≡ seen_state w (freeing named types access v cell f (running a rest s))
  freed_seen access v cell f g a rest s other p clears =
      let ne = other_names w.object v other in
      let z = record (running a rest s) { next = s.next + 1 } in
      let tasks = all_tasks types cell.access WholeFirst in
      let back = frame.GivesBack v (Freeing s.next) (Some (pool_freed_to (home_of access s.masters))) in
      same_made a rest z (a.places ++ tracked_values w s.heap) (a.places ++ tracked_values w (named.part s.heap v)) a.operands a.operands
      (named.part (blanked w s.heap) v) (blanked w (named.part s.heap v))
      (treating v (ends (Freeing s.next)) tasks (frame.Ends v ∷ back ∷ g ∷ seen_control w s.control))
      (seen_control w (treating v (ends (Freeing s.next)) tasks (frame.Ends v ∷ back ∷ f ∷ s.control)))
      (ap (λ (vs : List Value). a.places ++ vs) (sym (values_apart w s.heap p.object p.at_object parted v ne))) refl
      (on_apart w s.heap p.object p.at_object parted v ne)
      (ap (λ (k : List (Frame Value)). treating v (ends (Freeing s.next)) tasks (frame.Ends v ∷ back ∷ k)) (sym clears)
      ∙ sym (treating_seen w v (ends (Freeing s.next)) tasks (frame.Ends v ∷ back ∷ f ∷ s.control)))

  freeing_by : (t : State) (own : Bool) (access : ℕ) (v : Value) (cell : Cell Value) (f g : Frame Value) (e d : Event Value) (a : Activation Value) (rest : List (Activation Value)) (s : State) → Matches w e d → IsOther w.object v → IsWatched w a.places s.heap → seen_control w (f ∷ s.control) ≡ g ∷ seen_control w s.control → Shown types bodies w t (if own then moves e (freeing named types access v cell f (running a rest s)) else halts (Erroneous GivesElsewhere)) (if own then moves d (freeing named types access v cell g (seen_state w (running a rest s))) else halts (Erroneous GivesElsewhere))
  freeing_by t true access v cell f g e d a rest s matches other p clears =
      let tasks = all_tasks types cell.access WholeFirst in
      let back = frame.GivesBack v (Freeing s.next) (Some (pool_freed_to (home_of access s.masters))) in
      steps types bodies w t e d (freeing named types access v cell f (running a rest s)) (freeing named types access v cell g (seen_state w (running a rest s))) matches
      (treating_calm v (ends (Freeing s.next)) tasks (frame.Ends v ∷ back ∷ f ∷ s.control) refl)
      (freed_seen access v cell f g a rest s other p clears)
  freeing_by t false access v cell f g e d a rest s matches other p clears = refl

  freeing_shown : (t : State) (access : ℕ) (v : Value) (cell : Cell Value) (f g : Frame Value) (e d : Event Value) (a : Activation Value) (rest : List (Activation Value)) (s : State) → Matches w e d → IsOther w.object v → IsWatched w a.places s.heap → seen_control w (f ∷ s.control) ≡ g ∷ seen_control w s.control → Shown types bodies w t (freeing_next named types access v cell f e (running a rest s)) (freeing_next named types access v cell g d (seen_state w (running a rest s)))
  freeing_shown t access v cell f g e d a rest s matches other p clears =
      freeing_by t (same_pool (Some (pool_freed_to (home_of access s.masters))) cell.home.pool) access v cell f g e d a rest s matches other p clears

  -- One of what a variable names.
  free_by : (t : State) (access x : ℕ) (v : Value) (found : Found (Cell Value)) (a : Activation Value) (rest : List (Activation Value)) (s : State) → IsOther w.object v → IsWatched w a.places s.heap → awaits_holder s.control ≡ false → Shown types bodies w t (free_next named types access x v found (running a rest s)) (free_next named types access x v found (seen_state w (running a rest s)))
  free_by t access x v on_null a rest s other p calm = idly types bodies w t Quiet (running a rest s) calm
  free_by t access x v on_gone a rest s other p calm = refl
  free_by t access x v on_other a rest s other p calm = refl
  free_by t access x v (finds cell) a rest s other p calm =
      freeing_shown t access v cell (frame.Clears x) (frame.Clears x) Quiet Quiet a rest s (same refl) other p refl

  free_shown : (t : State) (access x : ℕ) (a : Activation Value) (rest : List (Activation Value)) (s : State) → IsVariable w.tracks.first x → IsOther w.object (slice_index_or a.places x Null) → IsWatched w a.places s.heap → awaits_holder s.control ≡ false → Shown types bodies w t (frees_next named types [] access x (running a rest s)) (frees_next named types [] access x (seen_state w (running a rest s)))
  free_shown t access x a rest s simple other p calm =
      let v = slice_index_or a.places x Null in
      subst (λ (u : Value). Shown types bodies w t (free_next named types access x v (listed_at s.heap v) (running a rest s)) (free_next named types access x u (listed_at (blanked w s.heap) u) (seen_state w (running a rest s))))
      (sym (read_front a.places (tracked_values w s.heap) x Null (inside_places types bodies w x a.places s.heap p simple.1)))
      (subst (λ (found : Found (Cell Value)). Shown types bodies w t (free_next named types access x v (listed_at s.heap v) (running a rest s)) (free_next named types access x v found (seen_state w (running a rest s))))
      (sym (standing_apart w s.heap p.object p.at_object v (other_names w.object v other)))
      (free_by t access x v (listed_at s.heap v) a rest s other p calm))

  -- One of what a component names.
  freed_by : (t : State) (access : ℕ) (o : Value) (c : ℕ) (v : Value) (found : Found (Cell Value)) (a : Activation Value) (rest : List (Activation Value)) (s : State) → IsOther w.object v → number_in w o c ≡ None → IsWatched w a.places s.heap → awaits_holder s.control ≡ false → Shown types bodies w t (freed_next named types access o c v found (running a rest s)) (freed_next named types access o c v found (seen_state w (running a rest s)))
  freed_by t access o c v on_null a rest s other none p calm = idly types bodies w t (Followed o) (running a rest s) calm
  freed_by t access o c v on_gone a rest s other none p calm = refl
  freed_by t access o c v on_other a rest s other none p calm = refl
  freed_by t access o c v (finds cell) a rest s other none p calm =
      freeing_shown t access v cell (frame.ClearsIn o c) (frame.ClearsIn o c) (Followed o) (Followed o) a rest s (same refl) other p
      (cleared o c s.control (number_in w o c) refl ∙ ap (λ (number : Option ℕ). cleared_as number o c ∷ seen_control w s.control) none)
    where
      cleared : (o : Value) (c : ℕ) (k : List (Frame Value)) (number : Option ℕ) → number_in w o c ≡ number → seen_control w (frame.ClearsIn o c ∷ k) ≡ cleared_as (number_in w o c) o c ∷ seen_control w k
      cleared o c k number is = refl

  component_freed : (t : State) (access : ℕ) (o : Value) (c : ℕ) (found : Option Value) (a : Activation Value) (rest : List (Activation Value)) (s : State) → ((u : Value) → found ≡ Some u → IsOther w.object u) → number_in w o c ≡ None → IsWatched w a.places s.heap → awaits_holder s.control ≡ false → Shown types bodies w t (free_component_next named types access o c found (running a rest s)) (free_component_next named types access o c found (seen_state w (running a rest s)))
  component_freed t access o c None a rest s other none p calm = refl
  component_freed t access o c (Some v) a rest s other none p calm =
      subst (λ (found : Found (Cell Value)). Shown types bodies w t (freed_next named types access o c v (listed_at s.heap v) (running a rest s)) (freed_next named types access o c v found (seen_state w (running a rest s))))
      (sym (standing_apart w s.heap p.object p.at_object v (other_names w.object v (other v refl))))
      (freed_by t access o c v (listed_at s.heap v) a rest s (other v refl) none p calm)

  free_in_by : (t : State) (access : ℕ) (o : Value) (c : ℕ) (found : Found (Cell Value)) (a : Activation Value) (rest : List (Activation Value)) (s : State) → ((cell : Cell Value) (u : Value) → found ≡ finds cell → slice_get cell.values c ≡ Some u → IsOther w.object u) → number_in w o c ≡ None → IsWatched w a.places s.heap → awaits_holder s.control ≡ false → Shown types bodies w t (free_in_next named types access o c found (running a rest s)) (free_in_next named types access o c found (seen_state w (running a rest s)))
  free_in_by t access o c on_null a rest s each none p calm = idly types bodies w t Quiet (raised ConstraintError (running a rest s)) calm
  free_in_by t access o c on_gone a rest s each none p calm = refl
  free_in_by t access o c on_other a rest s each none p calm = refl
  free_in_by t access o c (finds cell) a rest s each none p calm =
      component_freed t access o c (slice_get cell.values c) a rest s (λ u. each cell u refl) none p calm

  pub free_in_shown : (t : State) (access : ℕ) (v : Value) (c : ℕ) (a : Activation Value) (rest : List (Activation Value)) (s : State) → IsOther w.object v → NamesElsewhere w s.heap v c → IsWatched w a.places s.heap → awaits_holder s.control ≡ false → Shown types bodies w t (free_in_next named types access v c (look s.heap v) (running a rest s)) (free_in_next named types access v c (look (blanked w s.heap) v) (seen_state w (running a rest s)))
  free_in_shown t access v c a rest s other names_other p calm =
      let ne = other_names w.object v other in
      subst (λ (found : Found (Cell Value)). Shown types bodies w t (free_in_next named types access v c (look s.heap v) (running a rest s)) (free_in_next named types access v c found (seen_state w (running a rest s))))
      (sym (look_apart w s.heap p.object p.at_object v ne))
      (free_in_by t access v c (look s.heap v) a rest s names_other (none_in w v c ne) p calm)

  pub free_elsewhere : (t : State) (access c : ℕ) (a : Activation Value) (rest : List (Activation Value)) (s : State) → number_of w c ≡ None → NamesElsewhere w s.heap (Names w.object) c → IsWatched w a.places s.heap → awaits_holder s.control ≡ false → Shown types bodies w t (free_in_next named types access (Names w.object) c (look s.heap (Names w.object)) (running a rest s)) (free_in_next named types access (Names w.object) c (look (blanked w s.heap) (Names w.object)) (seen_state w (running a rest s)))
  free_elsewhere t access c a rest s none names_other p calm =
      subst (λ (found : Found (Cell Value)). Shown types bodies w t (free_in_next named types access (Names w.object) c found (running a rest s)) (free_in_next named types access (Names w.object) c (look (blanked w s.heap) (Names w.object)) (seen_state w (running a rest s))))
      (sym (look_there w s.heap p.object p.at_object p.existing))
      (subst (λ (found : Found (Cell Value)). Shown types bodies w t (free_component_next named types access (Names w.object) c (slice_get p.object.cell.values c) (running a rest s)) (free_in_next named types access (Names w.object) c found (seen_state w (running a rest s))))
      (sym (look_blanked w s.heap p.object p.at_object p.existing))
      (subst (λ (found : Option Value). Shown types bodies w t (free_component_next named types access (Names w.object) c (slice_get p.object.cell.values c) (running a rest s)) (free_component_next named types access (Names w.object) c found (seen_state w (running a rest s))))
      (sym (untracked_read (watched w) w.tracks.first c p.object.cell.values none))
      (component_freed t access (Names w.object) c (slice_get p.object.cell.values c) a rest s
      (λ u. names_other p.object.cell u (look_there w s.heap p.object p.at_object p.existing)) (number_there w c ∙ none) p calm)))

  -- One of what a tracked component names: the variable that stands for it is freed.
  freed_behind : (t : State) (access c x : ℕ) (v : Value) (found : Found (Cell Value)) (a : Activation Value) (rest : List (Activation Value)) (s : State) → number_of w c ≡ Some x → IsOther w.object v → IsWatched w a.places s.heap → awaits_holder s.control ≡ false → Shown types bodies w t (freed_next named types access (Names w.object) c v found (running a rest s)) (free_next named types access x v found (seen_state w (running a rest s)))
  freed_behind t access c x v on_null a rest s is other p calm =
      steps types bodies w t (Followed (Names w.object)) Quiet (running a rest s) (seen_state w (running a rest s)) (followed refl refl) calm refl
  freed_behind t access c x v on_gone a rest s is other p calm = refl
  freed_behind t access c x v on_other a rest s is other p calm = refl
  freed_behind t access c x v (finds cell) a rest s is other p calm =
      freeing_shown t access v cell (frame.ClearsIn (Names w.object) c) (frame.Clears x) (Followed (Names w.object)) Quiet a rest s (followed refl refl) other p
      (cleared (Names w.object) c s.control ∙ ap (λ (number : Option ℕ). cleared_as number (Names w.object) c ∷ seen_control w s.control) (number_there w c ∙ is))
    where
      cleared : (o : Value) (c : ℕ) (k : List (Frame Value)) → seen_control w (frame.ClearsIn o c ∷ k) ≡ cleared_as (number_in w o c) o c ∷ seen_control w k
      cleared o c k = refl

  pub free_behind : (t : State) (access c x : ℕ) (a : Activation Value) (rest : List (Activation Value)) (s : State) → number_of w c ≡ Some x → NamesElsewhere w s.heap (Names w.object) c → IsWatched w a.places s.heap → awaits_holder s.control ≡ false → Shown types bodies w t (free_in_next named types access (Names w.object) c (look s.heap (Names w.object)) (running a rest s)) (frees_next named types [] access x (seen_state w (running a rest s)))
  free_behind t access c x a rest s is names_other p calm =
      let v = value_at types bodies w s.heap a.places p c in
      let lt : c < length p.object.cell.values = tracked_below (watched w) w.tracks.first c x (length p.object.cell.values) is p.below in
      let other = names_other p.object.cell v (look_there w s.heap p.object p.at_object p.existing) (read_within p.object.cell.values c Null lt) in
      subst (λ (found : Found (Cell Value)). Shown types bodies w t (free_in_next named types access (Names w.object) c found (running a rest s)) (frees_next named types [] access x (seen_state w (running a rest s))))
      (sym (look_there w s.heap p.object p.at_object p.existing))
      (subst (λ (found : Option Value). Shown types bodies w t (free_component_next named types access (Names w.object) c found (running a rest s)) (frees_next named types [] access x (seen_state w (running a rest s))))
      (sym (read_within p.object.cell.values c Null lt))
      (subst (λ (u : Value). Shown types bodies w t (freed_next named types access (Names w.object) c v (listed_at s.heap v) (running a rest s)) (free_next named types access x u (listed_at (blanked w s.heap) u) (seen_state w (running a rest s))))
      (sym (value_held types bodies w s.heap a.places p c x is))
      (subst (λ (found : Found (Cell Value)). Shown types bodies w t (freed_next named types access (Names w.object) c v (listed_at s.heap v) (running a rest s)) (free_next named types access x v found (seen_state w (running a rest s))))
      (sym (standing_apart w s.heap p.object p.at_object v (other_names w.object v other)))
      (freed_behind t access c x v (listed_at s.heap v) a rest s is other p calm))))

  -- A statement at a variable.
  gets_shown : (t : State) (x : ℕ) (input : List ℤ) (a : Activation Value) (rest : List (Activation Value)) (s : State) → IsVariable w.tracks.first x → IsWatched w a.places s.heap → awaits_holder s.control ≡ false → Shown types bodies w t (gets_next named [] x input (running a rest s)) (gets_next named [] x input (seen_state w (running a rest s)))
  gets_shown t x [] a rest s simple p calm = idly types bodies w t Quiet (raised EndError (running a rest s)) calm
  gets_shown t x (i ∷ is) a rest s simple p calm =
      let z = record s { input = is } in
      steps types bodies w t Quiet Quiet (put x (an_integer i) (running a rest z)) (put x (an_integer i) (seen_state w (running a rest z))) (same refl) calm
      (put_seen types bodies w x (an_integer i) a rest z (inside_places types bodies w x a.places s.heap p simple.1))

  pub variable_shown : (t : State) (waiting : Waiting) (x : ℕ) (a : Activation Value) (rest : List (Activation Value)) (s : State) → IsVariable w.tracks.first x → StartsAt w s.heap waiting x [] (slice_index_or a.places x Null) → IsWatched w a.places s.heap → awaits_holder s.control ≡ false → Shown types bodies w t (start_next types waiting [] x (running a rest s)) (start_next types (seen_waiting w waiting) [] x (seen_state w (running a rest s)))
  variable_shown t (assigning right) x a rest s simple looks p calm =
      idly types bodies w t Quiet (at (frame.Evaluates right ∷ frame.Stores x ∷ s.control) (running a rest s)) refl
  variable_shown t getting x a rest s simple looks p calm = gets_shown t x s.input a rest s simple p calm
  variable_shown t (seen_specs.freeing access) x a rest s simple looks p calm = free_shown t access x a rest s simple looks p calm

  -- An object goes.
  changed_apart : (change : Object → Object) (v : Value) (a : Activation Value) (rest : List (Activation Value)) (s : State) → IsWatched w a.places s.heap → names w.object v ≡ false → record (seen_state w (running a rest s)) { heap = on_object change (blanked w s.heap) v } ≡ seen_state w (record (running a rest s) { heap = on_object change s.heap v })
  changed_apart change v a rest s p ne =
      same_made a rest (running a rest s) (a.places ++ tracked_values w s.heap) (a.places ++ tracked_values w (on_object change s.heap v))
      a.operands a.operands (on_object change (blanked w s.heap) v) (blanked w (on_object change s.heap v)) (seen_control w s.control) (seen_control w s.control)
      (ap (λ (vs : List Value). a.places ++ vs) (sym (values_apart w s.heap p.object p.at_object change v ne))) refl
      (on_apart w s.heap p.object p.at_object change v ne) refl

  changed_there : (change : Object → Object) (a : Activation Value) (rest : List (Activation Value)) (s : State) (p : IsWatched w a.places s.heap) → change (blank_object (watched w) p.object) ≡ blank_object (watched w) (change p.object) → (change p.object).cell.values ≡ p.object.cell.values → record (seen_state w (running a rest s)) { heap = on_object change (blanked w s.heap) (Names w.object) } ≡ seen_state w (record (running a rest s) { heap = on_object change s.heap (Names w.object) })
  changed_there change a rest s p e values =
      same_made a rest (running a rest s) (a.places ++ tracked_values w s.heap) (a.places ++ tracked_values w (on_object change s.heap (Names w.object)))
      a.operands a.operands (on_object change (blanked w s.heap) (Names w.object)) (blanked w (on_object change s.heap (Names w.object))) (seen_control w s.control) (seen_control w s.control)
      (ap (λ (vs : List Value). a.places ++ vs) (sym (values_on_there w s.heap p.object p.at_object change (ap (values_at (watched w)) values)))) refl
      (on_there w s.heap p.object p.at_object change e) refl

  end_found : (t : State) (v : Value) (found : Found (Cell Value)) (a : Activation Value) (rest : List (Activation Value)) (s : State) → awaits_holder s.control ≡ false → record (seen_state w (running a rest s)) { heap = on_object finished (blanked w s.heap) v } ≡ seen_state w (record (running a rest s) { heap = on_object finished s.heap v }) → Shown types bodies w t (end_next named v found (running a rest s)) (end_next named v found (seen_state w (running a rest s)))
  end_found t v on_null a rest s calm is = refl
  end_found t v on_gone a rest s calm is = refl
  end_found t v on_other a rest s calm is = refl
  end_found t v (finds cell) a rest s calm is =
      steps types bodies w t Quiet Quiet (record (running a rest s) { heap = on_object finished s.heap v }) (record (seen_state w (running a rest s)) { heap = on_object finished (blanked w s.heap) v }) (same refl) calm is

  end_by : (t : State) (v : Value) (a : Activation Value) (rest : List (Activation Value)) (s : State) → IsWatched w a.places s.heap → awaits_holder s.control ≡ false → (names w.object v ≡ false) ⊎ (v ≡ Names w.object) → Shown types bodies w t (end_next named v (look s.heap v) (running a rest s)) (end_next named v (look (blanked w s.heap) v) (seen_state w (running a rest s)))
  end_by t v a rest s p calm (inl ne) =
      subst (λ (found : Found (Cell Value)). Shown types bodies w t (end_next named v (look s.heap v) (running a rest s)) (end_next named v found (seen_state w (running a rest s))))
      (sym (look_apart w s.heap p.object p.at_object v ne)) (end_found t v (look s.heap v) a rest s calm (changed_apart finished v a rest s p ne))
  end_by t v a rest s p calm (inr is) =
      subst (λ (o : Value). Shown types bodies w t (end_next named o (look s.heap o) (running a rest s)) (end_next named o (look (blanked w s.heap) o) (seen_state w (running a rest s))))
      (sym is)
      (subst (λ (found : Found (Cell Value)). Shown types bodies w t (end_next named (Names w.object) found (running a rest s)) (end_next named (Names w.object) (look (blanked w s.heap) (Names w.object)) (seen_state w (running a rest s))))
      (sym (look_there w s.heap p.object p.at_object p.existing))
      (subst (λ (found : Found (Cell Value)). Shown types bodies w t (end_next named (Names w.object) (finds p.object.cell) (running a rest s)) (end_next named (Names w.object) found (seen_state w (running a rest s))))
      (sym (look_blanked w s.heap p.object p.at_object p.existing))
      (steps types bodies w t Quiet Quiet (record (running a rest s) { heap = on_object finished s.heap (Names w.object) }) (record (seen_state w (running a rest s)) { heap = on_object finished (blanked w s.heap) (Names w.object) }) (same refl) calm
      (changed_there finished a rest s p refl refl))))

  pub end_shown : (t : State) (v : Value) (a : Activation Value) (rest : List (Activation Value)) (s : State) → IsWatched w a.places s.heap → awaits_holder s.control ≡ false → Shown types bodies w t (end_next named v (look s.heap v) (running a rest s)) (end_next named v (look (blanked w s.heap) v) (seen_state w (running a rest s)))
  end_shown t v a rest s p calm = end_by t v a rest s p calm (which w.object v)

  -- Its words go back.
  told_shown : (t : State) (pool : Option ℕ) (v : Value) (e : Event Value) (after stands : State) → awaits_holder after.control ≡ false → stands ≡ seen_state w after → Shown types bodies w t (told_back named pool v e after) (told_back named pool v e stands)
  told_shown t None v e after stands calm is = steps types bodies w t e e after stands (same refl) calm is
  told_shown t (Some pool) v e after stands calm is = (stands, refl, plainly (clear w.object after.mode after.control (operands after) calm) is)

  given_shown : (t : State) (own : Bool) (v : Value) (cause : Cause) (cell : Cell Value) (a : Activation Value) (rest : List (Activation Value)) (s : State) → awaits_holder s.control ≡ false → record (seen_state w (running a rest s)) { heap = on_object returned (blanked w s.heap) v } ≡ seen_state w (record (running a rest s) { heap = on_object returned s.heap v }) → Shown types bodies w t (if own then given_back named v cause cell (running a rest s) else halts (Erroneous GivesElsewhere)) (if own then given_back named v cause cell (seen_state w (running a rest s)) else halts (Erroneous GivesElsewhere))
  given_shown t true v cause cell a rest s calm is =
      told_shown t cell.home.pool v (Back v cell.access cell.number cell.home.pool cell.home.subpool cause) (record (running a rest s) { heap = on_object returned s.heap v })
      (record (seen_state w (running a rest s)) { heap = on_object returned (blanked w s.heap) v }) calm is
  given_shown t false v cause cell a rest s calm is = refl

  back_found : (t : State) (v : Value) (cause : Cause) (pool : Option ℕ) (found : Found (Cell Value)) (a : Activation Value) (rest : List (Activation Value)) (s : State) → awaits_holder s.control ≡ false → record (seen_state w (running a rest s)) { heap = on_object returned (blanked w s.heap) v } ≡ seen_state w (record (running a rest s) { heap = on_object returned s.heap v }) → Shown types bodies w t (back_next named v cause pool found (running a rest s)) (back_next named v cause pool found (seen_state w (running a rest s)))
  back_found t v cause pool on_null a rest s calm is = refl
  back_found t v cause pool on_gone a rest s calm is = refl
  back_found t v cause pool on_other a rest s calm is = refl
  back_found t v cause pool (finds cell) a rest s calm is = given_shown t (same_pool pool cell.home.pool) v cause cell a rest s calm is

  back_out : (t : State) (out : Bool) (cause : Cause) (pool : Option ℕ) (a : Activation Value) (rest : List (Activation Value)) (s : State) (p : IsWatched w a.places s.heap) → awaits_holder s.control ≡ false → Shown types bodies w t (back_next named (Names w.object) cause pool (if out then finds p.object.cell else on_gone) (running a rest s)) (back_next named (Names w.object) cause pool (if out then finds (blank_object (watched w) p.object).cell else on_gone) (seen_state w (running a rest s)))
  back_out t true cause pool a rest s p calm =
      given_shown t (same_pool pool p.object.cell.home.pool) (Names w.object) cause p.object.cell a rest s calm (changed_there returned a rest s p refl refl)
  back_out t false cause pool a rest s p calm = refl

  back_by : (t : State) (v : Value) (cause : Cause) (pool : Option ℕ) (a : Activation Value) (rest : List (Activation Value)) (s : State) → IsWatched w a.places s.heap → awaits_holder s.control ≡ false → (names w.object v ≡ false) ⊎ (v ≡ Names w.object) → Shown types bodies w t (back_next named v cause pool (lent s.heap v) (running a rest s)) (back_next named v cause pool (lent (blanked w s.heap) v) (seen_state w (running a rest s)))
  back_by t v cause pool a rest s p calm (inl ne) =
      subst (λ (found : Found (Cell Value)). Shown types bodies w t (back_next named v cause pool (lent s.heap v) (running a rest s)) (back_next named v cause pool found (seen_state w (running a rest s))))
      (sym (lent_apart w s.heap p.object p.at_object v ne)) (back_found t v cause pool (lent s.heap v) a rest s calm (changed_apart returned v a rest s p ne))
  back_by t v cause pool a rest s p calm (inr is) =
      subst (λ (o : Value). Shown types bodies w t (back_next named o cause pool (lent s.heap o) (running a rest s)) (back_next named o cause pool (lent (blanked w s.heap) o) (seen_state w (running a rest s))))
      (sym is)
      (subst (λ (found : Option Object). Shown types bodies w t (back_next named (Names w.object) cause pool (lent_by found) (running a rest s)) (back_next named (Names w.object) cause pool (lent (blanked w s.heap) (Names w.object)) (seen_state w (running a rest s))))
      (sym p.at_object)
      (subst (λ (found : Option Object). Shown types bodies w t (back_next named (Names w.object) cause pool (lent_by (Some p.object)) (running a rest s)) (back_next named (Names w.object) cause pool (lent_by found) (seen_state w (running a rest s))))
      (sym (blanked_here w s.heap p.object p.at_object))
      (back_out t p.object.out cause pool a rest s p calm)))

  pub back_shown : (t : State) (v : Value) (cause : Cause) (pool : Option ℕ) (a : Activation Value) (rest : List (Activation Value)) (s : State) → IsWatched w a.places s.heap → awaits_holder s.control ≡ false → Shown types bodies w t (back_next named v cause pool (lent s.heap v) (running a rest s)) (back_next named v cause pool (lent (blanked w s.heap) v) (seen_state w (running a rest s)))
  back_shown t v cause pool a rest s p calm = back_by t v cause pool a rest s p calm (which w.object v)

  -- A master is left.
  item_shown : (t : State) (m : ℕ) (item : Item) (owned : Owned) (a : Activation Value) (rest : List (Activation Value)) (s : State) → type_housed owned ≡ None → awaits_holder s.control ≡ false → Shown types bodies w t (item_leave_next named types m item owned (running a rest s)) (item_leave_next named types m item owned (seen_state w (running a rest s)))
  item_shown t m item (declared x) a rest s none calm = idly types bodies w t Quiet (record (running a rest s) { masters = shorter s.masters }) calm
  item_shown t m item (collection access pool) a rest s none calm = absurd (cc)
  item_shown t m item (record_object object_type) a rest s none calm = absurd (cc)
  item_shown t m item (storage_pool declaration number) a rest s none calm =
      (seen_state w (record (running a rest s) { masters = shorter s.masters }), refl, plainly (clear w.object Running s.control a.operands calm) refl)

  master_shown : (t : State) (mode : Mode) (m : ℕ) (items : List Item) (a : Activation Value) (rest : List (Activation Value)) (s : State) → NewestHousesNone items → awaits_holder s.control ≡ false → Shown types bodies w t (master_leave_next named types mode m items (running a rest s)) (master_leave_next named types mode m items (seen_state w (running a rest s)))
  master_shown t mode m [] a rest s none calm = idly types bodies w t (Left m) (record (running a rest s) { masters = older s.masters; mode = mode }) calm
  master_shown t mode m (item ∷ items) a rest s none calm = item_shown t m item item.owned a rest (at (frame.Leaves mode ∷ s.control) s) none refl

  pub leave_shown : (t : State) (mode : Mode) (masters : List Master) (a : Activation Value) (rest : List (Activation Value)) (s : State) → InnermostHousesNone masters → awaits_holder s.control ≡ false → Shown types bodies w t (leave_next named types mode masters (running a rest s)) (leave_next named types mode masters (seen_state w (running a rest s)))
  leave_shown t mode [] a rest s none calm = refl
  leave_shown t mode (m ∷ ms) a rest s none calm = master_shown t mode m.number m.items a rest s none calm
