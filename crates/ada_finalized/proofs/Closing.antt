-- Steps behind a treatment: an object ceases to exist, its words go back, a record is copied to it; the body of an operation has ended, or a jump comes out
-- of it.

use Rattle.std.proofs.Common.{◌≡◌, ℕ, Bool, true, false, if◌then◌else◌, List, [], ◌∷◌, Option, Some, None, refl, sym, ap, ◌∙◌, subst, arith}
use Rattle.std.specs.List.{slice_get}
use Rattle.ada_program.specs.declared.program.Exception.{Exception}
use Rattle.ada_program.specs.declared.program.TypeDefinition.{TypeDefinition}
use Rattle.ada_program.specs.Controlled.{shapes_of}
use Rattle.ada_program.specs.ProgramForm.{BodyForm}
use Rattle.ada_program.specs.Typed.{width_of}
use Rattle.ada_parts.specs.Part.{Part}
use Rattle.ada_parts.specs.Task.{Task, performs}
use Rattle.ada_meaning.specs.declared.state.Id.{Id}
use Rattle.ada_meaning.specs.declared.state.Value.{Value}
use Rattle.ada_meaning.specs.declared.state.Value.TheVariants.{Names}
use Rattle.ada_meaning.specs.declared.state.Stage.{Stage}
use Rattle.ada_meaning.specs.declared.state.Stage.TheVariants.{Building, Existing, Gone}
use Rattle.ada_meaning.specs.declared.state.Mode.{Mode}
use Rattle.ada_meaning.specs.declared.state.Mode.TheVariants.{Running, Raising, Exiting, Returning}
use Rattle.ada_meaning.specs.declared.event.Birth.{Birth}
use Rattle.ada_meaning.specs.declared.event.Birth.TheVariants.{Creation, Copy, Adjustment}
use Rattle.ada_meaning.specs.declared.event.Cause.{Cause}
use Rattle.ada_meaning.specs.declared.event.Cause.TheVariants.{Assigning, Undoing}
use Rattle.ada_meaning.specs.declared.event.Halt.TheVariants.{Erroneous}
use Rattle.ada_meaning.specs.declared.event.Why.TheVariants.{GivesElsewhere}
use Rattle.ada_meaning.specs.Event.{Back, Followed, Quiet}
use Rattle.ada_meaning.specs.Frame.{Frame, begins, ends}
use Rattle.ada_meaning.specs.Frame as frame
use Rattle.ada_meaning.specs.Heap.{Cell, Found, on_null, on_gone, on_other, finds}
use Rattle.ada_meaning.specs.Step.{halts, at, older, operands, with_operands, popped, newest, newest_ones, without_newest, record_in, treating, copied_next, copies_next, record_stored_next, store_record_next, end_next, back_next, given_back, told_back, same_pool, undo_next, broken_next, frame_next, running_next, jump_next}
use Rattle.ada_meaning.specs.Named.{Object, State, named, look, lent, existing, seen, lent_by, on_object, returned}
use Rattle.ada_meaning.specs.Run.{Event}
use Rattle.ada_meaning.specs.Finalization.{assigned_by}
use Rattle.ada_finalized.proofs.Treated.{undoing, undoing_cleared}
use Rattle.ada_finalized.proofs.Ranks.{stored_bare}
use Rattle.ada_finalized.proofs.Doings.{name, Ending, doings, fewer_treating, alike}
use Rattle.ada_finalized.proofs.Stacks.{Control, code, guard, finalization, Stack, calm, awaits, confines, to_end, to_copy, storing_then, ending_then, stack_acts, older_operands, covered, others}
use Rattle.ada_finalized.proofs.Invariant.{Inv, runs, ending, storing}
use Rattle.ada_finalized.proofs.Going.{kept_goes, begins_stand, looked}
use Rattle.ada_finalized.proofs.Begun.{begins_of}
use Rattle.ada_finalized.proofs.Passing.{finished_goes, returned_goes, undone_goes}
use Rattle.ada_finalized.proofs.Coding.{Leads}
use Rattle.ada_finalized.proofs.Operating.{awaited_leads, clearing_leads}

module _ (types : List TypeDefinition) (bodies : List BodyForm) (past : List Event) (s : State) (running : s.mode ≡ Running) (inv : Inv types past s.heap s.next (doings s.control)) where
  -- An object ceases to exist.
  pub finish_leads :
      (o : ℕ) (cause : Cause) (pool : Option ℕ) (k : Control) → s.control ≡ ending_then o cause pool k → assigned_by (Some cause) ≡ None
      → Stack types s.heap code s.activations k → (found : Found (Cell Value)) → look s.heap (name o) ≡ found
      → Leads types past s (end_next named (name o) found (at (frame.GivesBack (name o) cause pool ∷ k) s))
  finish_leads o cause pool k is own h on_null found = tt
  finish_leads o cause pool k is own h on_gone found = tt
  finish_leads o cause pool k is own h on_other found = tt
  finish_leads o cause pool k is own h (finds cell) found =
      let t = looked types s.heap inv.sane o cell found in
      finished_goes types past s _ o t.object cause pool k own t.at_place t.stage (ap doings is) (covered types s.heap code s.activations k h)
      (others types s.heap code s.activations k h o (λ is_kind. absurd (cc is_kind))) inv refl running refl h

  -- Its words go back.
  module _ (o : ℕ) (x : Object) (cause : Cause) (pool : Option ℕ) (k : Control) (is : s.control ≡ frame.GivesBack (name o) cause pool ∷ k) (own : assigned_by (Some cause) ≡ None) (h : Stack types s.heap code s.activations k) (at_o : slice_get s.heap o ≡ Some x) (gone : x.stage ≡ Gone) where
    told_leads :
        (told to subpool : Option ℕ) (access number : ℕ)
        → Leads types past s (told_back named told (name o) (Back (name o) access number to subpool cause) (record (at k s) { heap = on_object returned s.heap (name o) }))
    told_leads None to subpool access number =
        returned_goes types past s _ o x access number to subpool cause own at_o gone inv refl (sym (ap doings is)) (runs h)
    told_leads (Some pool') to subpool access number =
        returned_goes types past s _ o x access number to subpool cause own at_o gone inv refl (sym (ap doings is)) (runs h)

    given_leads : (fits : Bool) → Leads types past s (if fits then given_back named (name o) cause x.cell (at k s) else halts (Erroneous GivesElsewhere))
    given_leads true = told_leads x.cell.home.pool x.cell.home.pool x.cell.home.subpool x.cell.access x.cell.number
    given_leads false = tt

    lent_leads : (out : Bool) → Leads types past s (back_next named (name o) cause pool (if out then finds x.cell else on_gone) (at k s))
    lent_leads true = given_leads (same_pool pool x.cell.home.pool)
    lent_leads false = tt

    pub back_leads : Leads types past s (back_next named (name o) cause pool (lent s.heap (name o)) (at k s))
    back_leads =
        subst (λ (found : Found (Cell Value)). Leads types past s (back_next named (name o) cause pool found (at k s))) (sym (ap lent_by at_o)) (lent_leads x.out)

  -- A record is copied to it.
  module _ (o n to width : ℕ) (tasks : List Task) (k : Control) (h : Stack types s.heap code s.activations k) where
    abbrev behind : Control
    behind = storing_then o n to width tasks k

    module _ (from t : ℕ) (is : s.control ≡ frame.Copies from t ∷ behind) where
      copied_leads : (v : Value) (found : Option (List Value)) → Leads types past s (copied_next named v found (popped (at behind s)))
      copied_leads v None = tt
      copied_leads v (Some vs) =
          kept_goes types past s (Followed v) _ inv tt refl (sym (ap doings is))
          (storing o n to width tasks k running refl (stack_acts types s.heap s.activations _ k (sym (older_operands _ (with_operands (older (operands s)) s.activations) ∙ older_operands (older (operands s)) s.activations)) h))

      by_stage : (v : Value) (width' : ℕ) (z : Object) (stage : Stage) → Leads types past s (copies_next named v from width' (existing z stage) (popped (at behind s)))
      by_stage v width' z Building = copied_leads v (record_in z.cell.values from width')
      by_stage v width' z Existing = copied_leads v (record_in z.cell.values from width')
      by_stage v width' z Gone = tt

      by_found : (v : Value) (width' : ℕ) (found : Option Object) → Leads types past s (copies_next named v from width' (seen found) (popped (at behind s)))
      by_found v width' None = tt
      by_found v width' (Some z) = by_stage v width' z z.stage

      pub copying_leads : (source : Id) → newest named s ≡ Names source → Leads types past s (frame_next named types bodies (frame.Copies from t) (at behind s))
      copying_leads source operand =
          subst (λ (v : Value). Leads types past s (copies_next named v from (width_of types t) (look s.heap v) (popped (at behind s)))) (sym operand)
          (by_found (Names source) (width_of types t) (slice_get s.heap source.0))

    module _ (is : s.control ≡ behind) where
      abbrev adjusting : Control
      adjusting = treating (name o) (begins (Adjustment n) []) tasks k

      record_stored_leads : (before : Option (List Value)) (vs : List Value) → Leads types past s (record_stored_next named (name o) to vs before (without_newest named width (at adjusting s)))
      record_stored_leads None vs = tt
      record_stored_leads (Some found) vs =
          kept_goes types past s (Followed (name o)) _ inv tt (stored_bare s.heap (name o) to vs) (sym (ap doings is))
          (begins_stand types s.heap _ o (Adjustment n) [] tasks k running refl (stack_acts types s.heap s.activations _ k (sym (older_operands _ s.activations)) h))

      by_cell : (found : Found (Cell Value)) → Leads types past s (store_record_next named (name o) to width found (at adjusting s))
      by_cell on_null = tt
      by_cell on_gone = tt
      by_cell on_other = tt
      by_cell (finds cell) = record_stored_leads (record_in cell.values to width) (newest_ones named width (at adjusting s))

      pub storing_leads : Leads types past s (frame_next named types bodies (frame.StoresRecord (name o) to width) (at adjusting s))
      storing_leads = by_cell (look s.heap (name o))

  -- What is left of a finalization, and what it was begun for.
  pub ending_leads :
      (f : Frame Value) (j : Control) → s.control ≡ f ∷ j → Stack types s.heap finalization s.activations (f ∷ j) → Leads types past s (frame_next named types bodies f (at j s))
  ending_leads f j first (to_end o cause pool [] k is own once h) =
      let e : f ∷ j ≡ ending_then o cause pool k = is in
      subst (λ (c : Control). Leads types past s (running_next named types bodies c s)) (sym e)
      (finish_leads o cause pool k (first ∙ e) own h (look s.heap (name o)) refl)
  ending_leads f j first (to_end o cause pool (task ∷ tasks) k is own once h) =
      let b = ending_then o cause pool k in
      subst (λ (c : Control). Leads types past s (running_next named types bodies c s)) (sym is)
      (clearing_leads types bodies past s o cause b running inv refl task tasks (first ∙ is)
      (λ left less. to_end o cause pool left k refl own (λ n. let a = less n in let c = once n in omega (arith, a, c)) h))
  ending_leads f j first (to_copy o n from t to width source [] later k is less once operand h) =
      let e : f ∷ j ≡ frame.Copies from t ∷ storing_then o n to width later k = is in
      subst (λ (c : Control). Leads types past s (running_next named types bodies c s)) (sym e)
      (copying_leads o n to width later k h from t (first ∙ e) source operand)
  ending_leads f j first (to_copy o n from t to width source (task ∷ tasks) later k is less once operand h) =
      let b = frame.Copies from t ∷ storing_then o n to width later k in
      subst (λ (c : Control). Leads types past s (running_next named types bodies c s)) (sym is)
      (clearing_leads types bodies past s o (Assigning n) b running inv refl task tasks (first ∙ is)
      (λ left fewer. to_copy o n from t to width source left later k refl (λ m. let a = fewer m in let c = less m in omega (arith, a, c)) once operand h))

-- The body of an operation has ended, or a jump comes out of it.
module _ (types : List TypeDefinition) (past : List Event) (s : State) (inv : Inv types past s.heap s.next (doings s.control)) where
  undo_leads :
      (e : Exception) (o of n : ℕ) (done : List Part) (tasks : List Task) (k : Control) → s.control ≡ frame.Awaits (name o) Creation done of n tasks ∷ k
      → Stack types s.heap code s.activations k → (found : Found (Cell Value)) → look s.heap (name o) ≡ found → Leads types past s (undo_next named e (name o) done found (at k s))
  undo_leads e o of n done tasks k is h on_null found = tt
  undo_leads e o of n done tasks k is h on_gone found = tt
  undo_leads e o of n done tasks k is h on_other found = tt
  undo_leads e o of n done tasks k is h (finds cell) found =
      let shapes = shapes_of types in
      let t = looked types s.heap inv.sane o cell found in
      let inv_before = subst (Inv types past s.heap s.next) (ap doings is) inv in
      let b = begins_of types past s.heap s.next o Creation done (performs of n ∷ tasks) inv_before.fine.0 in
      let clearing = undoing_cleared shapes b.all done (performs of n ∷ tasks) b.treated b.undoes in
      let behind = frame.Resumes (Raising e) ∷ k in
      undone_goes types past s _ o t.object done (performs of n ∷ tasks) (doings k) t.at_place t.stage (ap doings is) inv refl refl
      (fewer_treating (name o) (ends (Undoing s.next)) (undoing done) (Ending (name o) ∷ doings k) (ending_then o (Undoing s.next) cell.home.pool behind) alike)
      (ending refl (to_end o (Undoing s.next) cell.home.pool (undoing done) behind refl refl clearing.once
      (calm (frame.Resumes (Raising e)) k tt (stack_acts types s.heap s.activations _ k (sym (older_operands [] s.activations)) h))))

  broken_leads :
      (e : Exception) (o of n : ℕ) (by : Birth) (done : List Part) (tasks : List Task) (k : Control) → s.control ≡ frame.Awaits (name o) by done of n tasks ∷ k
      → Stack types s.heap code s.activations k → Leads types past s (broken_next named e (name o) by done (at k s))
  broken_leads e o of n Creation done tasks k is h = undo_leads e o of n done tasks k is h (look s.heap (name o)) refl
  broken_leads e o of n Copy done tasks k is h = tt
  broken_leads e o of n (Adjustment number) done tasks k is h = tt

  jump_awaits :
      (mode : Mode) (o of n : ℕ) (by : Birth) (done : List Part) (tasks : List Task) (k : Control) → s.control ≡ frame.Awaits (name o) by done of n tasks ∷ k
      → Stack types s.heap code s.activations k → (mode ≡ Running → ⊥) → Leads types past s (jump_next named mode (frame.Awaits (name o) by done of n tasks ∷ k) s)
  jump_awaits Running o of n by done tasks k is h jumps = absurd (jumps refl)
  jump_awaits (Raising e) o of n by done tasks k is h jumps = broken_leads e o of n by done tasks k is h
  jump_awaits Exiting o of n by done tasks k is h jumps = tt
  jump_awaits Returning o of n by done tasks k is h jumps = tt

  jump_confines : (mode : Mode) (k : Control) → (mode ≡ Running → ⊥) → Leads types past s (jump_next named mode (frame.Confines ∷ k) s)
  jump_confines Running k jumps = absurd (jumps refl)
  jump_confines (Raising e) k jumps = tt
  jump_confines Exiting k jumps = tt
  jump_confines Returning k jumps = tt

  -- What an operation is called for names its object.
  named_awaits : (v : Value) (by : Birth) (done : List Part) (of n : ℕ) (tasks : List Task) (k : Control) → s.control ≡ frame.Awaits v by done of n tasks ∷ k → (o : ℕ) × (v ≡ name o)
  named_awaits v by done of n tasks k is =
      let f = (subst (Inv types past s.heap s.next) (ap doings is) inv).fine.0 in (f.0, f.1.0)

  pub guard_jumps : (mode : Mode) (f : Frame Value) (k : Control) → s.control ≡ f ∷ k → Stack types s.heap guard s.activations (f ∷ k) → (mode ≡ Running → ⊥) → Leads types past s (jump_next named mode (f ∷ k) s)
  guard_jumps mode _ _ is (awaits v by done of n tasks k some p h) jumps =
      let o = named_awaits v by done of n tasks k is in
      let e = ap (λ (u : Value). frame.Awaits u by done of n tasks ∷ k) o.1 in
      subst (λ (c : Control). Leads types past s (jump_next named mode c s)) (sym e) (jump_awaits mode o.0 of n by done tasks k (is ∙ e) h jumps)
  guard_jumps mode _ _ is (confines k some p h) jumps = jump_confines mode k jumps

  pub guard_leads : (bodies : List BodyForm) (f : Frame Value) (k : Control) → s.mode ≡ Running → s.control ≡ f ∷ k → Stack types s.heap guard s.activations (f ∷ k) → Leads types past s (frame_next named types bodies f (at k s))
  guard_leads bodies _ _ running is (awaits v by done of n tasks k some p h) =
      let o = named_awaits v by done of n tasks k is in
      let e = ap (λ (u : Value). frame.Awaits u by done of n tasks ∷ k) o.1 in
      subst (λ (c : Control). Leads types past s (running_next named types bodies c s)) (sym e)
      (awaited_leads types bodies past s o.0 of n by done tasks k running (ap doings (is ∙ e)) h inv (look s.heap (name o.0)) refl)
  guard_leads bodies _ _ running is (confines k some p h) = kept_goes types past s Quiet _ inv tt refl (sym (ap doings is)) (ending running h)
