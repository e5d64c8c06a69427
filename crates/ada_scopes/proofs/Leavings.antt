-- The innermost master is being left: what nests behind it does so once it has been left.

use Rattle.std.proofs.Common.{◌≡◌, ℕ, Bool, true, false, if◌then◌else◌, List, [], ◌∷◌, Option, Some, None, refl, sym, ◌∙◌, subst, inl, inr}
use Rattle.std.specs.List.{slice_index_or}
use Rattle.ada_program.specs.declared.program.TypeDefinition.{TypeDefinition}
use Rattle.ada_parts.specs.declared.tasks.Direction.TheVariants.{WholeFirst}
use Rattle.ada_parts.specs.Task.{next as task_next}
use Rattle.ada_program.specs.ProgramForm.{TypeForm, BodyForm}
use Rattle.ada_program.specs.Nested.{Callees}
use Rattle.ada_meaning.specs.declared.state.Value.{Value}
use Rattle.ada_meaning.specs.declared.state.Value.TheVariants.{Null}
use Rattle.ada_meaning.specs.declared.state.Mode.{Mode}
use Rattle.ada_meaning.specs.declared.state.Mode.TheVariants.{Running}
use Rattle.ada_meaning.specs.declared.event.Cause.{Cause}
use Rattle.ada_meaning.specs.declared.event.Cause.TheVariants.{Leaving}
use Rattle.ada_meaning.specs.declared.event.Halt.TheVariants.{Erroneous}
use Rattle.ada_meaning.specs.declared.event.Why.TheVariants.{GivesElsewhere}
use Rattle.ada_meaning.specs.Event.{Back}
use Rattle.ada_meaning.specs.Frame.{Frame}
use Rattle.ada_meaning.specs.Frame as frame
use Rattle.ada_meaning.specs.State.{Owned, declared, collection, record_object, storage_pool, Item, Master}
use Rattle.ada_meaning.specs.Heap.{Cell, Found, on_null, on_gone, on_other, finds}
use Rattle.ada_meaning.specs.Step.{halts, all_tasks, taken_out, at, older, shorter, end_next, same_pool, told_back, given_back, back_next, members_next, item_leave_next, master_leave_next, leave_next, running_next}
use Rattle.ada_meaning.specs.Named.{State, named, look, lent, parted, finished, returned, on_object, members}
use Rattle.ada_meaning.specs.Run.{Event}
use Rattle.ada_scopes.proofs.Counts.{Scopes, scopes, all_of, older_shorter, scopes_older}
use Rattle.ada_scopes.proofs.Homes.{IsEmpty}
use Rattle.ada_scopes.proofs.Texts.{BodiesNest}
use Rattle.ada_scopes.proofs.Control.{NestsOutside, Goes, Whole, Nested, standing, parting, resting, whole_shorter, whole_left, goes_treating}
use Rattle.ada_scopes.proofs.Treatments.{OperationsHere, TreatsFirst, treating_good}
use Rattle.ada_scopes.proofs.Evaluations.{Good, Parts, keeps_parted, keeps_finished, keeps_returned, whole_on}

module _ (types : List TypeForm) (callees : Callees) (main : Option (List ℕ)) (calling : Bool) (ss : Scopes) where
  -- The innermost master is being left: its items go, newest first, the objects of a collection before it.
  shorter_good : (mode : Mode) (m : ℕ) (item : Item) (items : List Item) (ms : List Master) (s : State) → s.masters ≡ record { number = m; items = item ∷ items } ∷ ms → IsEmpty s.heap item item.owned → Whole types ss s.masters s.heap → s.mode ≡ Running → NestsOutside types callees main calling (all_of ss) (older ss) (older (scopes s.masters)) s.control → Nested types callees main calling (record (at (frame.Leaves mode ∷ s.control) s) { masters = shorter s.masters })
  shorter_good mode m item items ms s is empty p runs n =
      parting ss (subst (λ (xs : List Master). Whole types ss (shorter xs) s.heap) (sym is) (whole_shorter types ss m item items ms s.heap empty (subst (λ (xs : List Master). Whole types ss xs s.heap) is p))) runs
      (rw (older_shorter s.masters) n)

  -- The object that is taken is treated before it ends, if it is there.
  taken_good : (definitions : List TypeDefinition) (mode : Mode) (cause : Cause) (pool : Option ℕ) (v : Value) (found : Found (Cell Value)) (s : State) → Whole types ss s.masters s.heap → s.mode ≡ Running → NestsOutside types callees main calling (all_of ss) (older ss) (older (scopes s.masters)) s.control → Nested types callees main calling (taken_out named definitions cause pool v found (at (frame.Leaves mode ∷ s.control) s))
  taken_good definitions mode cause pool v on_null s p runs n = parting ss (whole_on types callees main calling ss parted v s keeps_parted p) runs n
  taken_good definitions mode cause pool v on_gone s p runs n = parting ss (whole_on types callees main calling ss parted v s keeps_parted p) runs n
  taken_good definitions mode cause pool v on_other s p runs n = parting ss (whole_on types callees main calling ss parted v s keeps_parted p) runs n
  taken_good definitions mode cause pool v (finds cell) s p runs n =
      parting ss (whole_on types callees main calling ss parted v s keeps_parted p) runs
      (goes_treating types callees main calling ss (scopes s.masters) v cause (all_tasks definitions cell.access WholeFirst)
      (frame.Ends v ∷ frame.GivesBack v cause pool ∷ frame.Leaves mode ∷ s.control) n)

  members_good : (definitions : List TypeDefinition) (mode : Mode) (m : ℕ) (pool : Option ℕ) (item : Item) (items : List Item) (ms : List Master) (vs : List Value) (s : State) → (members s.heap item.number ≡ [] → IsEmpty s.heap item item.owned) → members s.heap item.number ≡ vs → s.masters ≡ record { number = m; items = item ∷ items } ∷ ms → Whole types ss s.masters s.heap → s.mode ≡ Running → NestsOutside types callees main calling (all_of ss) (older ss) (older (scopes s.masters)) s.control → Good types callees main calling (members_next named definitions (Leaving m item.number) pool vs (at (frame.Leaves mode ∷ s.control) s))
  members_good definitions mode m pool item items ms [] s own none is p runs n = shorter_good mode m item items ms s is (own none) p runs n
  members_good definitions mode m pool item items ms (v ∷ vs) s own some is p runs n =
      λ i lt.
      let one = slice_index_or (v ∷ vs) i Null in
      taken_good definitions mode (Leaving m item.number) pool one (look s.heap one) s p runs n

  item_leave_good : (definitions : List TypeDefinition) (mode : Mode) (m : ℕ) (item : Item) (items : List Item) (ms : List Master) (owned : Owned) (s : State) → item.owned ≡ owned → s.masters ≡ record { number = m; items = item ∷ items } ∷ ms → Whole types ss s.masters s.heap → s.mode ≡ Running → NestsOutside types callees main calling (all_of ss) (older ss) (older (scopes s.masters)) s.control → Good types callees main calling (item_leave_next named definitions m item owned (at (frame.Leaves mode ∷ s.control) s))
  item_leave_good definitions mode m item items ms (declared x) s own is p runs n =
      shorter_good mode m item items ms s is (subst (λ (o : Owned). IsEmpty s.heap item o) (sym own) tt) p runs n
  item_leave_good definitions mode m item items ms (storage_pool declaration number) s own is p runs n =
      shorter_good mode m item items ms s is (subst (λ (o : Owned). IsEmpty s.heap item o) (sym own) tt) p runs n
  item_leave_good definitions mode m item items ms (collection access pool) s own is p runs n =
      members_good definitions mode m pool item items ms (members s.heap item.number) s (λ none. subst (λ (o : Owned). IsEmpty s.heap item o) (sym own) none) refl is p runs n
  item_leave_good definitions mode m item items ms (record_object t) s own is p runs n =
      members_good definitions mode m None item items ms (members s.heap item.number) s (λ none. subst (λ (o : Owned). IsEmpty s.heap item o) (sym own) none) refl is p runs n

  -- The innermost master has been left: what is behind it nests, or nothing is.
  left_good : (mode : Mode) (s : State) → Whole types (older ss) (older s.masters) s.heap → NestsOutside types callees main calling (all_of ss) (older ss) (older (scopes s.masters)) s.control → Nested types callees main calling (record s { masters = older s.masters; mode = mode })
  left_good mode s p (inl none) = resting (older ss) p (scopes_older s.masters ∙ none.1) none.0
  left_good mode s p (inr n) = standing (older ss) p (rw (scopes_older s.masters) n)

  master_leave_good : (definitions : List TypeDefinition) (mode : Mode) (m : ℕ) (items : List Item) (ms : List Master) (s : State) → s.masters ≡ record { number = m; items = items } ∷ ms → Whole types ss s.masters s.heap → s.mode ≡ Running → NestsOutside types callees main calling (all_of ss) (older ss) (older (scopes s.masters)) s.control → Good types callees main calling (master_leave_next named definitions mode m items s)
  master_leave_good definitions mode m [] ms s is p runs n =
      left_good mode s
      (subst (λ (xs : List Master). Whole types (older ss) (older xs) s.heap) (sym is)
      (whole_left types ss m ms s.heap (subst (λ (xs : List Master). Whole types ss xs s.heap) is p))) n
  master_leave_good definitions mode m (item ∷ items) ms s is p runs n = item_leave_good definitions mode m item items ms item.owned s refl is p runs n

  leave_good : (definitions : List TypeDefinition) (mode : Mode) (ms : List Master) (s : State) → s.masters ≡ ms → Whole types ss s.masters s.heap → s.mode ≡ Running → NestsOutside types callees main calling (all_of ss) (older ss) (older (scopes s.masters)) s.control → Good types callees main calling (leave_next named definitions mode ms s)
  leave_good definitions mode [] s is p runs n = tt
  leave_good definitions mode (m ∷ ms) s is p runs n = master_leave_good definitions mode m.number m.items ms s is p runs n

  -- An object that has been taken ends, and its words go back.
  ending_good : (v : Value) (found : Found (Cell Value)) (s : State) → Parts types callees main calling ss s → Good types callees main calling (end_next named v found s)
  ending_good v on_null s h = tt
  ending_good v on_gone s h = tt
  ending_good v on_other s h = tt
  ending_good v (finds cell) s h = parting ss (whole_on types callees main calling ss finished v s keeps_finished h.0) h.1 h.2

  telling_good : (pool : Option ℕ) (v : Value) (event : Event) (s : State) → Parts types callees main calling ss s → Good types callees main calling (told_back named pool v event (record s { heap = on_object returned s.heap v }))
  telling_good None v event s h = parting ss (whole_on types callees main calling ss returned v s keeps_returned h.0) h.1 h.2
  telling_good (Some pool) v event s h = parting ss (whole_on types callees main calling ss returned v s keeps_returned h.0) h.1 h.2

  giving_good : (fits : Bool) (v : Value) (cause : Cause) (cell : Cell Value) (s : State) → Parts types callees main calling ss s → Good types callees main calling (if fits then given_back named v cause cell s else halts (Erroneous GivesElsewhere))
  giving_good true v cause cell s h = telling_good cell.home.pool v (Back v cell.access cell.number cell.home.pool cell.home.subpool cause) s h
  giving_good false v cause cell s h = tt

  backing_good : (v : Value) (cause : Cause) (pool : Option ℕ) (found : Found (Cell Value)) (s : State) → Parts types callees main calling ss s → Good types callees main calling (back_next named v cause pool found s)
  backing_good v cause pool on_null s h = tt
  backing_good v cause pool on_gone s h = tt
  backing_good v cause pool on_other s h = tt
  backing_good v cause pool (finds cell) s h = giving_good (same_pool pool cell.home.pool) v cause cell s h

  pub parts_good : (bodies : List BodyForm) → BodiesNest types callees bodies → (definitions : List TypeDefinition) (k : List (Frame Value)) → (TreatsFirst k → OperationsHere types callees main calling (all_of ss) definitions) → (s : State) → s.mode ≡ Running → Whole types ss s.masters s.heap → Goes types callees main calling ss (scopes s.masters) k → Good types callees main calling (running_next named definitions bodies k s)
  parts_good bodies nesting definitions [] operations s runs p goes = absurd goes
  parts_good bodies nesting definitions (frame.Leaves mode ∷ k) operations s runs p goes = leave_good definitions mode s.masters (at k s) refl p runs goes
  parts_good bodies nesting definitions (frame.Treats v (frame.begins by done) tasks ∷ k) operations s runs p goes = absurd goes
  parts_good bodies nesting definitions (frame.Treats v (frame.ends cause) tasks ∷ k) operations s runs p goes =
      treating_good types callees main calling ss bodies nesting definitions (operations tt) v cause tasks (task_next tasks) (at k s) (p, runs, goes)
  parts_good bodies nesting definitions (frame.Ends v ∷ k) operations s runs p goes = ending_good v (look s.heap v) (at k s) (p, runs, goes)
  parts_good bodies nesting definitions (frame.GivesBack v cause pool ∷ k) operations s runs p goes = backing_good v cause pool (lent s.heap v) (at k s) (p, runs, goes)
  parts_good bodies nesting definitions (f ∷ k) operations s runs p goes = absurd goes
