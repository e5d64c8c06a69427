-- What a body assigns that shuns some access types, and what it reads to (5.2).

use Rattle.std.proofs.Common.{◌≡◌, ℕ, Bool, true, false, ℤ, List, [], ◌∷◌, drop, Option, Some, None, refl, ◌⊎◌, inl, inr}
use Rattle.std.specs.List.{list_all, slice_get}
use Rattle.std.proofs.lemmas.Bool.{and_parts}
use Rattle.ada_program.specs.declared.program.Exception.TheVariants.{ConstraintError, EndError}
use Rattle.ada_program.specs.declared.program.VariableKind.{VariableKind}
use Rattle.ada_program.specs.Form.{RecordPathForm, ItemForm, item_of_record, RightForm}
use Rattle.ada_program.specs.WellFormed.{variable_kind}
use Rattle.ada_meaning.specs.declared.state.Mode.TheVariants.{Raising}
use Rattle.ada_meaning.specs.declared.state.Value.{Value}
use Rattle.ada_meaning.specs.Event.{Quiet}
use Rattle.ada_meaning.specs.Frame as frame
use Rattle.ada_meaning.specs.Heap.{Cell, Found, on_null, on_gone, on_other, finds}
use Rattle.ada_meaning.specs.Step.{moves, at, operands, newest_ones, without_newest, record_in, assign_next, target_next, stored_next, store_next, copy_next, record_assign_next, record_target_next, stored_from, record_stored_next, store_record_next, gets_next, received_next, receive_next, put}
use Rattle.ada_meaning.specs.Named.{State, named, look, filled, store, an_integer}
use Rattle.ada_untouched.specs.Untouched.{IsInSight}
use Rattle.ada_reaching.specs.Reaching.{IsElsewhere}
use Rattle.ada_reaching.specs.Forms.{may_follow, may_replace, record_path_shuns, selectors_shun, item_shuns, right_shuns}
use Rattle.ada_reaching.proofs.Elsewhere.{elsewhere_drop}
use Rattle.ada_reaching.proofs.Going.{World, variables_in, Goes, ValueSeeks, operands_run, changed_run, stored_run, stays, jumps, put_runs}
use Rattle.ada_reaching.proofs.Paths.{Sound, in_sight, holder_goes, record_goes}
use Rattle.ada_reaching.proofs.Selections.{IsRooted}

module _ (w : World) where
  -- The bodies go on once a variable has a value.
  pub put_goes : (x : ℕ) (v : Value) (s : State) → IsElsewhere w.ghosts w.unnamed v → Goes w s (moves Quiet (put x v s))
  put_goes x v s other r h anew = stays w (put x v s) (put_runs w x v s other r) h anew

  -- The bodies go on as an assignment begins.
  pub assign_goes :
      (cs : List ℕ) (x : ℕ) (to : VariableKind) (right : RightForm) (s : State) → Sound w s → IsRooted w.p.types (variables_in w) x cs to
      → selectors_shun w.p.types w.shuns (variable_kind (variables_in w) x) cs ≡ true → right_shuns w.p.types w.shuns w.apart (variables_in w) right ≡ true
      → Goes w s (assign_next named cs x right s)
  assign_goes [] x to right s sound root shun one r h anew =
      stays w (at (frame.Evaluates right ∷ frame.Stores x ∷ s.control) s) r (one, refl, (tt, anew, h)) refl
  assign_goes (c ∷ cs) x to right s sound root shun one r h anew =
      holder_goes w c cs x to (λ last. frame.Targets last right) s sound root shun r (λ n. (one, anew, h)) (λ n. refl)
      (λ may u n is_may is. is_may)

  -- So it does, by what is found of the object.
  target_found :
      (v : Value) (c : ℕ) (right : RightForm) (found : Found (Cell Value)) (s : State) → look s.heap v ≡ found
      → ValueSeeks w s.heap v (frame.Targets c right ∷ s.control) → right_shuns w.p.types w.shuns w.apart (variables_in w) right ≡ true
      → Goes w s (target_next named v c right found s)
  target_found v c right on_null s is seeks one r h anew = jumps w (Raising ConstraintError) s r h anew
  target_found v c right on_gone s is seeks one r h anew = tt
  target_found v c right on_other s is seeks one r h anew = tt
  target_found v c right (finds cell) s is seeks one r h anew =
      stays w (at (frame.Evaluates right ∷ frame.StoresIn v c ∷ s.control) s) r
      (one, refl, (in_sight w s.heap r.same v seeks, anew, h)) refl

  -- The bodies go on as the target of an assignment is looked for.
  pub target_goes :
      (v : Value) (c : ℕ) (right : RightForm) (s : State) → ValueSeeks w s.heap v (frame.Targets c right ∷ s.control)
      → right_shuns w.p.types w.shuns w.apart (variables_in w) right ≡ true → Goes w s (target_next named v c right (look s.heap v) s)
  target_goes v c right s seeks one r h anew = target_found v c right (look s.heap v) s refl seeks one r h anew

  -- The bodies go on as a component gets a value, if there is that component.
  stored_goes :
      (o : Value) (c : ℕ) (v : Value) (found : Option Value) (s : State) → IsInSight w.ghosts o → Goes w s (stored_next named o c v found s)
  stored_goes o c v None s sight r h anew = tt
  stored_goes o c v (Some before) s sight r h anew =
      stays w (record s { heap = store s.heap o c v }) (changed_run w (filled c v) o s.activations s.masters s.heap sight r) h anew

  -- The bodies go on as a component gets a value of an object that has been looked for.
  pub store_goes :
      (o : Value) (c : ℕ) (v : Value) (found : Found (Cell Value)) (s : State) → IsInSight w.ghosts o → Goes w s (store_next named o c v found s)
  store_goes o c v on_null s sight r h anew = tt
  store_goes o c v on_gone s sight r h anew = tt
  store_goes o c v on_other s sight r h anew = tt
  store_goes o c v (finds cell) s sight r h anew = stored_goes o c v (slice_get cell.values c) s sight r h anew

  -- The bodies go on as a record is assigned to another one that has controlled parts, and may be assigned to so (7.6).
  copied_goes :
      (target : RecordPathForm) (items : List ItemForm) (s : State) → record_path_shuns w.p.types w.shuns w.apart (variables_in w) target ≡ true
      → list_all (item_shuns w.p.types w.shuns w.apart (variables_in w)) items ≡ true → may_replace w.apart target.record_type ≡ true
      → Goes w s (copy_next named target items s)
  copied_goes target (item_of_record source ∷ []) s leads all may r h anew =
      let one = and_parts (record_path_shuns w.p.types w.shuns w.apart (variables_in w) source) true all in
      stays w (at (frame.Refers target ∷ frame.Refers source ∷ frame.Assigns target.record_type ∷ s.control) s) r
      (leads, refl, (one.0, refl, (may, anew, h))) refl
  copied_goes target items s leads all may r h anew = tt

  -- The bodies go on as an assignment to a record begins that has no controlled parts, or may be assigned to though it has some.
  pub record_assign_goes :
      (parts : Bool) (target : RecordPathForm) (to : VariableKind) (items : List ItemForm) (s : State)
      → (parts ≡ false) ⊎ (may_replace w.apart target.record_type ≡ true) → Sound w s
      → record_path_shuns w.p.types w.shuns w.apart (variables_in w) target ≡ true
      → IsRooted w.p.types (variables_in w) target.object.root target.object.selectors to
      → selectors_shun w.p.types w.shuns (variable_kind (variables_in w) target.object.root) target.object.selectors ≡ true
      → may_follow w.shuns (Some to) ≡ true → list_all (item_shuns w.p.types w.shuns w.apart (variables_in w)) items ≡ true
      → Goes w s (record_assign_next named parts target items s)
  record_assign_goes true target to items s (inl bare) sound leads root shun may all r h anew = absurd (cc)
  record_assign_goes true target to items s (inr assigned) sound leads root shun may all r h anew = copied_goes target items s leads all assigned r h anew
  record_assign_goes false target to items s either sound leads root shun may all r h anew =
      record_goes w target to (λ place. frame.TargetsRecord place.component target.record_type items) s sound root shun may r
      (λ place. (all, anew, h)) (λ place. refl) (λ may_seek u place is_may. is_may)

  -- The bodies go on as the object is looked for in which the target lies.
  pub record_target_goes :
      (o : Value) (first count : ℕ) (items : List ItemForm) (found : Found (Cell Value)) (s : State) → IsInSight w.ghosts o
      → list_all (item_shuns w.p.types w.shuns w.apart (variables_in w)) items ≡ true → Goes w s (record_target_next named o first count items found s)
  record_target_goes o first count items on_null s sight all r h anew = jumps w (Raising ConstraintError) s r h anew
  record_target_goes o first count items on_gone s sight all r h anew = tt
  record_target_goes o first count items on_other s sight all r h anew = tt
  record_target_goes o first count items (finds cell) s sight all r h anew =
      stays w (at (frame.Fills items ∷ frame.StoresRecord o first count ∷ s.control) s) r (all, refl, (sight, anew, h)) refl

  -- The bodies go on as the components of a record get these values, if there is that record.
  record_stored_goes :
      (o : Value) (first : ℕ) (vs : List Value) (found : Option (List Value)) (s : State) → IsInSight w.ghosts o
      → Goes w s (record_stored_next named o first vs found s)
  record_stored_goes o first vs None s sight r h anew = tt
  record_stored_goes o first vs (Some before) s sight r h anew =
      stays w (record s { heap = stored_from named s.heap o first vs }) (stored_run w vs o first s.activations s.masters s.heap sight r) h anew

  -- The bodies go on as they get the values that were computed for them.
  pub store_record_goes :
      (o : Value) (first count : ℕ) (found : Found (Cell Value)) (s : State) → IsInSight w.ghosts o → Goes w s (store_record_next named o first count found s)
  store_record_goes o first count on_null s sight r h anew = tt
  store_record_goes o first count on_gone s sight r h anew = tt
  store_record_goes o first count on_other s sight r h anew = tt
  store_record_goes o first count (finds cell) s sight r h anew =
      record_stored_goes o first (newest_ones named count s) (record_in cell.values first count) (without_newest named count s) sight
      (operands_run w (drop count (operands s)) s.activations s.masters s.heap (elsewhere_drop w.ghosts w.unnamed count (operands s) r.operands) r) h anew

  -- The bodies go on as a Get begins.
  pub gets_goes :
      (cs : List ℕ) (x : ℕ) (to : VariableKind) (input : List ℤ) (s : State) → Sound w s → IsRooted w.p.types (variables_in w) x cs to
      → selectors_shun w.p.types w.shuns (variable_kind (variables_in w) x) cs ≡ true → Goes w s (gets_next named cs x input s)
  gets_goes (c ∷ cs) x to input s sound root shun r h anew =
      holder_goes w c cs x to (λ last. frame.Receives last) s sound root shun r (λ n. (tt, anew, h)) (λ n. refl)
      (λ may u n is_may is. is_may)
  gets_goes [] x to [] s sound root shun r h anew = jumps w (Raising EndError) s r h anew
  gets_goes [] x to (i ∷ is) s sound root shun r h anew = put_goes x (an_integer i) (record s { input = is }) tt r h anew

  -- The bodies go on as a component gets the next number of the input, if there is that component.
  received_goes :
      (o : Value) (c : ℕ) (input : List ℤ) (found : Option Value) (s : State) → IsInSight w.ghosts o → Goes w s (received_next named o c input found s)
  received_goes o c input None s sight r h anew = tt
  received_goes o c [] (Some before) s sight r h anew = jumps w (Raising EndError) s r h anew
  received_goes o c (i ∷ is) (Some before) s sight r h anew =
      stays w (record s { heap = store s.heap o c (an_integer i); input = is })
      (changed_run w (filled c (an_integer i)) o s.activations s.masters s.heap sight r) h anew

  -- The bodies go on as a component gets the next number of the input.
  pub receive_goes : (o : Value) (c : ℕ) (found : Found (Cell Value)) (s : State) → IsInSight w.ghosts o → Goes w s (receive_next named o c found s)
  receive_goes o c on_null s sight r h anew = jumps w (Raising ConstraintError) s r h anew
  receive_goes o c on_gone s sight r h anew = tt
  receive_goes o c on_other s sight r h anew = tt
  receive_goes o c (finds cell) s sight r h anew = received_goes o c s.input (slice_get cell.values c) s sight r h anew
