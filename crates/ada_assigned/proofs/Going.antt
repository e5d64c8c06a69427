-- Each step from a state of which the invariant holds: the records of an assignment are found, and the target lies inside of the formal parameter, or in an object
-- that the body declares (5.2, 6.2, 7.6, 3.3.1).

use Rattle.std.proofs.Common.{◌≡◌, ℕ, zero, suc, ◌+◌, ◌<◌, Bool, true, false, ◌&&◌, ◌||◌, List, [], ◌∷◌, Option, Some, refl, sym, ap, ◌∙◌, subst, arith, ◌⊎◌, inl, inr}
use Rattle.std.specs.List.{slice_get, slice_index_or, Contains}
use Rattle.std.proofs.lemmas.Bool.{and_parts}
use Rattle.ada_program.specs.declared.program.Exception.{Exception}
use Rattle.ada_program.specs.declared.program.TypeDefinition.{TypeDefinition}
use Rattle.ada_program.specs.Controlled.{operations_of, procedure_number, shapes_of}
use Rattle.ada_program.specs.Form.{RecordPathForm, ItemForm, null_item, item_of_path, item_of_value, item_of_record, StmtForm, assigns_record, StmtsForm, no_stmts, a_stmt}
use Rattle.ada_program.specs.ProgramForm.{BodyForm}
use Rattle.ada_program.specs.Typed.{width_of}
use Rattle.ada_parts.specs.declared.tasks.Direction.TheVariants.{PartsFirst}
use Rattle.ada_meaning.specs.declared.event.Birth.{Birth}
use Rattle.ada_parts.specs.Part.{Part, numbers, LiesIn}
use Rattle.ada_parts.specs.Task.{Task}
use Rattle.ada_parts.specs.Law.{parts_left}
use Rattle.ada_meaning.specs.declared.state.Id.{Id}
use Rattle.ada_meaning.specs.declared.state.Mode.{Mode}
use Rattle.ada_meaning.specs.declared.state.Mode.TheVariants.{Running, Raising, Exiting, Returning}
use Rattle.ada_meaning.specs.declared.state.Place.{Place}
use Rattle.ada_meaning.specs.declared.state.Value.{Value}
use Rattle.ada_meaning.specs.declared.state.Value.TheVariants.{Null, Names, Scalar, Part as Inside}
use Rattle.ada_meaning.specs.Frame.{Frame}
use Rattle.ada_meaning.specs.Frame as frame
use Rattle.ada_meaning.specs.State.{Activation}
use Rattle.ada_meaning.specs.Step.{halts, moves, tells, asks, picks, has_parts, record_tasks, first_or, operands, places_of, procedure_of, at, popped, newest, held, selected, place_in, copy_next, record_assign_next, stmts_next, running_next, jump_next, mode_next}
use Rattle.ada_meaning.specs.Named.{Object, State, Next, next, named, look, refer, whole, same}
use Rattle.ada_formals.specs.Formals.{RefersToOperated, OperationsRefer}
use Rattle.ada_formals.proofs.Standing.{ends_operation}
use Rattle.ada_declared.specs.Declared.{StandsApart, formals_given}
use Rattle.ada_typed.proofs.Kept.{Each}
use Rattle.ada_assigned.proofs.Keeping.{Told, InCalled, whenever, runs_operation, IsAtHand, IsBeside, IsInner, IsWithin, EndsInside, DeclaresBeside, StmtsAssign, behind_body, given_behind, Assignable, LiesInOperated, Keeps, AllKeep, OperationsAssign}
use Rattle.ada_assigned.proofs.Steps.{first_assigns_parts, stmts_keep, running_keeps, jump_keeps}
use Rattle.ada_assigned.proofs.Seeking.{Operated, Reaches, to_target, to_source, Sought, target_next, source_next, follows, reaches, both_known, Passes, by_assigns, by_refers, by_reference, Stands, keeps, seeks, fails, AllStand, Leads, operands_popped, path_stands, refers_stands, assigned_stands}
use Rattle.ada_assigned.proofs.Lying.{record_within}

-- What follows holds, too.
each_follows : (P Q : State → Type 0) → ((s : State) → P s → Q s) → (n : Next) → Each P n → Each Q n
each_follows P Q follows_it (halts halt) all = tt
each_follows P Q follows_it (moves e s) all = follows_it s all
each_follows P Q follows_it (tells request e s) all = follows_it s all
each_follows P Q follows_it (asks request answers) all = λ granted. follows_it (answers granted) (all granted)
each_follows P Q follows_it (picks n taking) all = λ i below. follows_it (taking i) (all i below)

-- What the first variable holds.
first_held : (places : List Value) (v : Value) → slice_get places 0 ≡ Some v → slice_index_or places 0 Null ≡ v
first_held [] v is = absurd (cc)
first_held (w ∷ places) v is = cc

-- What the running body's operation is called for, where these activations are there.
operated_here : (types : List TypeDefinition) (heap : List Object) (k : List (Frame Value)) (acts : List (Activation Value)) → OperationsRefer types heap k acts
    → RefersToOperated types heap (behind_body k) (procedure_of acts) (places_of acts)
operated_here types heap [] acts h = tt
operated_here types heap (frame.Returns actuals references ∷ k) acts h = h.0
operated_here types heap (f ∷ k) acts h = operated_here types heap k acts h

module _ (types : List TypeDefinition) (told : Told) where
  -- Where no operation waits, and none runs behind that, any reference will do.
  any_operated : (j : List (Frame Value)) (t : ℕ) → ends_operation j ≡ false → (told.watched && runs_operation j) ≡ false
      → ((w : Value) (left : List Task) → LiesInOperated types j w left) → (v : Value) → Operated types told j t v
  any_operated j t none still any Null = tt
  any_operated j t none still any (Names o) = tt
  any_operated j t none still any (Scalar v) = tt
  any_operated j t none still any (Inside o place) =
      (inl (any (Names o) (record_tasks types t PartsFirst place.part)), (λ ends. absurd (cc (none, ends)), λ call runs. absurd (cc (still, runs))))

  module _ (p : RecordPathForm) (parts : has_parts types p.record_type ≡ true) where
    -- The target is found in what a variable holds; or behind access values, where any reference will do.
    abbrev TargetFits : List (Frame Value) → (selectors : List ℕ) → Value → Type 0
    TargetFits j [] v = Operated types told j p.record_type (refer (whole v) (place_in named v [] p))
    TargetFits j (c ∷ cs) v = (w : Value) → Operated types told j p.record_type w

    any_fits : (j : List (Frame Value)) → ends_operation j ≡ false → (told.watched && runs_operation j) ≡ false
        → ((w : Value) (left : List Task) → LiesInOperated types j w left) → (cs : List ℕ) (v : Value) → TargetFits j cs v
    any_fits j none still any [] v = any_operated j p.record_type none still any (refer (whole v) (place_in named v [] p))
    any_fits j none still any (c ∷ cs) v = any_operated j p.record_type none still any

    -- In the formal parameter.
    inner_lies : (of part : ℕ) → 0 < p.part → IsWithin types of p → (n : ℕ)
        → Contains (numbers (parts_left (shapes_of types) (record_tasks types p.record_type PartsFirst (part + p.part)))) n
        → LiesIn (shapes_of types) n (record { of = of; number = part })
    inner_lies of part some inside n has =
        let within = record_within types p.record_type (part + p.part) n has in
        let from = within.0 in
        let to = within.1 in
        let fits = inside (omega (arith, from, to)) in
        record { behind = omega (arith, from, some); within = omega (arith, to, fits) }

    -- In an object of which no operation is awaited.
    beside_fits : (j : List (Frame Value)) (place : Place) (v : Value) → StandsApart v j → Operated types told j p.record_type (refer (whole v) place)
    beside_fits j place Null none = tt
    beside_fits j place (Names o) none = (inr none, (λ ends others. none, λ call runs. none))
    beside_fits j place (Scalar held_value) none = tt
    beside_fits j place (Inside o base) none = (inr none, (λ ends others. none, λ call runs. none))

    held_apart : (j : List (Frame Value)) (places : List Value) (x : ℕ) → ((v : Value) → slice_get places x ≡ Some v → StandsApart v j) → StandsApart (slice_index_or places x Null) j
    held_apart j [] x none = tt
    held_apart j (v ∷ places) zero none = none v refl
    held_apart j (v ∷ places) (suc x) none = held_apart j places x none

    module _ (heap : List Object) (procedure : Option ℕ) (places : List Value) where
      -- Where the body begins a part, or ends one, by where the target lies.
      begins_fits :
          (v : Value) (by : Birth) (done : List Part) (of part : ℕ) (tasks : List Task) (j : List (Frame Value)) → ((told.within p.record_type ≡ true) × IsInner types of p) ⊎ IsBeside 1 p
          → RefersToOperated types heap (frame.Awaits v by done of part tasks ∷ j) procedure places
          → (IsBeside 1 p → (u : Value) → slice_get places p.object.root ≡ Some u → StandsApart u (frame.Awaits v by done of part tasks ∷ j)) → (cs : List ℕ)
          → p.object.selectors ≡ cs → TargetFits (frame.Awaits v by done of part tasks ∷ j) cs (slice_index_or places p.object.root Null)
      begins_fits v by done of part tasks j (inl (may, inner)) refers apart [] is =
          let held_first = ap (λ (x : ℕ). slice_index_or places x Null) inner.in_formal ∙ first_held places (Inside refers.1.0 (record { component = refers.1.1; part = part })) refers.1.3 in
          subst (TargetFits (frame.Awaits v by done of part tasks ∷ j) []) (sym held_first)
          (inl (refers.1.2, inner_lies of part inner.behind inner.within), (λ waits none. absurd (cc (may, none)), λ call. absurd (cc call)))
      begins_fits v by done of part tasks j (inr other) refers apart [] is =
          beside_fits (frame.Awaits v by done of part tasks ∷ j) (place_in named (slice_index_or places p.object.root Null) [] p) (slice_index_or places p.object.root Null)
          (held_apart (frame.Awaits v by done of part tasks ∷ j) places p.object.root (apart other))
      begins_fits v by done of part tasks j (inl (may, inner)) refers apart (c ∷ cs) is = let none = sym inner.at_hand ∙ is in absurd (cc none)
      begins_fits v by done of part tasks j (inr other) refers apart (c ∷ cs) is = let none = sym other.at_hand ∙ is in absurd (cc none)

      ends_fits :
          (j : List (Frame Value)) → ((told.within p.record_type ≡ true) × IsAtHand p) ⊎ IsBeside 1 p → RefersToOperated types heap (frame.Confines ∷ j) procedure places
          → ((o : Id) (base : Place) (of : ℕ) → IsAtHand p → slice_get places 0 ≡ Some (Inside o base)
          → procedure_number (operations_of types of).finalize ≡ procedure → IsWithin types of p)
          → (IsBeside 1 p → (u : Value) → slice_get places p.object.root ≡ Some u → StandsApart u (frame.Confines ∷ j)) → (cs : List ℕ) → p.object.selectors ≡ cs
          → TargetFits (frame.Confines ∷ j) cs (slice_index_or places p.object.root Null)
      ends_fits j (inl (may, hand)) refers ends apart [] is =
          let of = refers.0 in
          let part = refers.1 in
          let formal = refers.3 in
          let base : Place = record { component = formal.1; part = part } in
          let held_first = ap (λ (x : ℕ). slice_index_or places x Null) hand.in_formal ∙ first_held places (Inside formal.0 base) formal.3 in
          let inside = ends formal.0 base of hand formal.3 refers.2 in
          subst (TargetFits (frame.Confines ∷ j) []) (sym held_first)
          (inl (formal.2, λ n has. refers.4 n (inner_lies of part hand.behind inside n has)), (λ waits none. absurd (cc (may, none)), λ call. absurd (cc call)))
      ends_fits j (inr other) refers ends apart [] is =
          beside_fits (frame.Confines ∷ j) (place_in named (slice_index_or places p.object.root Null) [] p) (slice_index_or places p.object.root Null)
          (held_apart (frame.Confines ∷ j) places p.object.root (apart other))
      ends_fits j (inl (may, hand)) refers ends apart (c ∷ cs) is = let none = sym hand.at_hand ∙ is in absurd (cc none)
      ends_fits j (inr other) refers ends apart (c ∷ cs) is = let none = sym other.at_hand ∙ is in absurd (cc none)

      -- The body is one that is called.
      called_fits :
          (given : ℕ) (j : List (Frame Value)) (known : Bool) → (told.watched && runs_operation j) ≡ known → ends_operation j ≡ false → ((w : Value) (left : List Task) → LiesInOperated types j w left)
          → (whenever known (InCalled types told given)).assigned p → ((u : Value) → runs_operation j ≡ true → IsBeside given p → slice_get places p.object.root ≡ Some u → StandsApart u j)
          → (cs : List ℕ) → p.object.selectors ≡ cs → TargetFits j cs (slice_index_or places p.object.root Null)
      called_fits given j false still none any own apart cs is = any_fits j none still any cs (slice_index_or places p.object.root Null)
      called_fits given j true runs none any own apart [] is =
          beside_fits j (place_in named (slice_index_or places p.object.root Null) [] p) (slice_index_or places p.object.root Null)
          (held_apart j places p.object.root (λ u. apart u (and_parts told.watched (runs_operation j) runs).1 (own parts)))
      called_fits given j true runs none any own apart (c ∷ cs) is = let none_selected = sym (own parts).at_hand ∙ is in absurd (cc none_selected)

      target_fits :
          (given : ℕ) (j : List (Frame Value)) → (Assignable types told given j).assigned p → RefersToOperated types heap j procedure places
          → ((o : Id) (base : Place) (of : ℕ) → ends_operation j ≡ true → IsAtHand p → slice_get places 0 ≡ Some (Inside o base)
          → procedure_number (operations_of types of).finalize ≡ procedure → IsWithin types of p)
          → ((u : Value) → (ends_operation j || runs_operation j) ≡ true → IsBeside (formals_given given j) p → slice_get places p.object.root ≡ Some u → StandsApart u j)
          → (cs : List ℕ) → p.object.selectors ≡ cs → TargetFits j cs (slice_index_or places p.object.root Null)
      target_fits given [] own refers ends apart cs is =
          called_fits given [] (told.watched && false) refl refl (λ w left. tt) own (λ u runs. absurd (cc runs)) cs is
      target_fits given (frame.Awaits v by done of part tasks ∷ j) own refers ends apart cs is =
          begins_fits v by done of part tasks j (own parts) refers (λ other u held_there. apart u refl other held_there) cs is
      target_fits given (frame.Confines ∷ j) own refers ends apart cs is =
          ends_fits j (own parts) refers (λ o base of hand. ends o base of refl hand) (λ other u held_there. apart u refl other held_there) cs is
      target_fits given (f ∷ j) own refers ends apart cs is =
          called_fits given (f ∷ j) (told.watched && runs_operation (f ∷ j)) refl refl (λ w left. tt) own (λ u runs. apart u runs) cs is

    target_leads :
        (q : RecordPathForm) (fs : StmtsForm) (k : List (Frame Value)) (pending : List Value) → Keeps types told (frame.Does fs ∷ k) → (cs : List ℕ) (v : Value)
        → TargetFits (behind_body k) cs v
        → Leads types told (selected named v cs) (whole v) pending (place_in named v cs p) (frame.Refers q ∷ frame.Assigns p.record_type ∷ frame.Does fs ∷ k)
    target_leads q fs k pending h [] v fits = to_target q p.record_type fs k fits h
    target_leads q fs k pending h (c ∷ cs) v fits =
        λ w. to_target q p.record_type fs k (fits (refer w (place_in named v (c ∷ cs) p))) h

  -- The source may lie anywhere.
  source_leads :
      (t : ℕ) (fs : StmtsForm) (k : List (Frame Value)) (pending : List Value) (place : Place) → Operated types told (behind_body k) t (first_or Null pending)
      → Keeps types told (frame.Does fs ∷ k) → (cs : List ℕ) (v : Value) → Leads types told cs v pending place (frame.Assigns t ∷ frame.Does fs ∷ k)
  source_leads t fs k pending place own h [] v = to_source t fs k own h
  source_leads t fs k pending place own h (c ∷ cs) v = λ w. to_source t fs k own h

  -- A statement begins to find them.
  copy_stands :
      (target : RecordPathForm) (items : List ItemForm) (fs : StmtsForm) (k : List (Frame Value)) (s : State) → s.mode ≡ Running
      → has_parts types target.record_type ≡ true → (Assignable types told (given_behind k) (behind_body k)).assigned target → Keeps types told (frame.Does fs ∷ k)
      → AllStand types told (copy_next named target items (at (frame.Does fs ∷ k) s))
  copy_stands target [] fs k s on parts own h = tt
  copy_stands target (null_item ∷ items) fs k s on parts own h = tt
  copy_stands target (item_of_path path ∷ items) fs k s on parts own h = tt
  copy_stands target (item_of_value e ∷ items) fs k s on parts own h = tt
  copy_stands target (item_of_record source ∷ []) fs k s on parts own h = seeks on (target_next target source fs k parts own h)
  copy_stands target (item_of_record source ∷ i ∷ items) fs k s on parts own h = tt

module _ (types : List TypeDefinition) (told : Told) (bodies : List BodyForm) (operations : OperationsAssign types told bodies) where
  all_stand : (n : Next) → AllKeep types told n → AllStand types told n
  all_stand n all = each_follows (λ (s : State). Keeps types told s.control) (Stands types told) (λ s h. keeps h) n all

  -- Statements, by whether the first assigns to a record with controlled parts.
  parts_stand :
      (parts : Bool) (target : RecordPathForm) (items : List ItemForm) (fs : StmtsForm) (k : List (Frame Value)) (s : State) → s.mode ≡ Running
      → has_parts types target.record_type ≡ parts → StmtsAssign (Assignable types told (given_behind k) (behind_body k)) (a_stmt (assigns_record target items) fs) → Keeps types told k
      → AllStand types told (stmts_next named types bodies (a_stmt (assigns_record target items) fs) (at k s))
  parts_stand false target items fs k s on is own h =
      all_stand (stmts_next named types bodies (a_stmt (assigns_record target items) fs) (at k s))
      (stmts_keep types told bodies operations (a_stmt (assigns_record target items) fs) (at k s) is own h)
  parts_stand true target items fs k s on is own h =
      subst (λ (parts : Bool). AllStand types told (record_assign_next named parts target items (at (frame.Does fs ∷ k) s))) (sym is)
      (copy_stands types told target items fs k s on is own.0 (own.1, h))

  plain_stand :
      (f : StmtForm) (fs : StmtsForm) (k : List (Frame Value)) (s : State) → first_assigns_parts types (a_stmt f fs) ≡ false
      → StmtsAssign (Assignable types told (given_behind k) (behind_body k)) (a_stmt f fs) → Keeps types told k → AllStand types told (stmts_next named types bodies (a_stmt f fs) (at k s))
  plain_stand f fs k s none own h =
      all_stand (stmts_next named types bodies (a_stmt f fs) (at k s)) (stmts_keep types told bodies operations (a_stmt f fs) (at k s) none own h)

  stmts_stand : (fs : StmtsForm) (k : List (Frame Value)) (s : State) → s.mode ≡ Running → StmtsAssign (Assignable types told (given_behind k) (behind_body k)) fs → Keeps types told k
      → AllStand types told (stmts_next named types bodies fs (at k s))
  stmts_stand no_stmts k s on own h = keeps h
  stmts_stand (a_stmt (assigns_record target items) fs) k s on own h = parts_stand (has_parts types target.record_type) target items fs k s on refl own h
  stmts_stand (a_stmt f fs) k s on own h = plain_stand f fs k s refl own h

  running_stands : (k : List (Frame Value)) (s : State) → s.mode ≡ Running → Keeps types told k → AllStand types told (running_next named types bodies k s)
  running_stands [] s on h = tt
  running_stands (frame.Does fs ∷ k) s on h = stmts_stand fs k s on h.0 h.1
  running_stands (f ∷ k) s on h = all_stand (running_next named types bodies (f ∷ k) s) (running_keeps types told bodies operations (f ∷ k) s refl h)

  -- Records are found.
  seeking_stands :
      (k : List (Frame Value)) (s : State) → s.mode ≡ Running → OperationsRefer types s.heap k s.activations → EndsInside types k s.activations
      → DeclaresBeside types k s.activations → Sought types told (operands s) k → AllStand types told (running_next named types bodies k s)
  seeking_stands _ s on refers ends apart (target_next p q fs k parts own h) =
      let v = held named s p.object.root in
      let cs = p.object.selectors in
      path_stands types told (place_in named v cs p) p.record_type (frame.Refers q ∷ frame.Assigns p.record_type ∷ frame.Does fs ∷ k) (selected named v cs) (whole v) s on
      (target_leads types told p parts q fs k (operands s) h cs v
      (target_fits types told p parts s.heap (procedure_of s.activations) (places_of s.activations) (given_behind k) (behind_body k) own (operated_here types s.heap k s.activations refers)
      (λ o base of. ends p (frame.Refers q ∷ frame.Assigns p.record_type ∷ frame.Does fs ∷ k) o base of refl)
      (λ u. apart p (frame.Refers q ∷ frame.Assigns p.record_type ∷ frame.Does fs ∷ k) u refl) cs refl))
  seeking_stands _ s on refers ends apart (source_next q t fs k own h) =
      let v = held named s q.object.root in
      let cs = q.object.selectors in
      path_stands types told (place_in named v cs q) q.record_type (frame.Assigns t ∷ frame.Does fs ∷ k) (selected named v cs) (whole v) s on
      (source_leads types told t fs k (operands s) (place_in named v cs q) own h (selected named v cs) (whole v))
  seeking_stands _ s on refers ends apart (follows cs place u behind h) =
      path_stands types told place u behind cs (newest named s) (popped s) on
      (any_leads cs (λ w. subst (λ (ops : List Value). Reaches types told w ops place behind) (sym (operands_popped s)) (h w)))
    where
      any_leads : (cs : List ℕ) → ((w : Value) → Reaches types told w (operands (popped s)) place behind) → Leads types told cs (newest named s) (operands (popped s)) place behind
      any_leads [] any = any (newest named s)
      any_leads (c ∷ cs) any = any
  seeking_stands _ s on refers ends apart (reaches place u behind h) =
      refers_stands types told (newest named s) place (width_of types u) (look s.heap (newest named s)) behind (popped s) on
      (subst (λ (ops : List Value). Reaches types told (newest named s) ops place behind) (sym (operands_popped s)) h)
  seeking_stands _ s on refers ends apart (both_known t fs k own h) =
      let target = newest named (popped s) in
      let source = newest named s in
      assigned_stands types told t fs k target source (same target source) (popped (popped s)) refl
      (subst (λ (ops : List Value). Operated types told (behind_body k) t (first_or Null ops)) (sym (operands_popped s)) own) h

  -- An exception comes out of that.
  failing_stands : (e : Exception) (k : List (Frame Value)) (s : State) → s.mode ≡ Raising e → Passes types told k → AllStand types told (jump_next named (Raising e) k s)
  failing_stands e _ s raising (by_assigns t k h) = keeps h
  failing_stands e _ s raising (by_refers p k h) = fails e raising h
  failing_stands e _ s raising (by_reference place u k h) = fails e raising h

  -- Whatever comes next.
  kept_stands : (m : Mode) (s : State) → s.mode ≡ m → Keeps types told s.control → AllStand types told (mode_next named types bodies m s)
  kept_stands Running s is h = running_stands s.control s is h
  kept_stands (Raising e) s is h = all_stand (jump_next named (Raising e) s.control s) (jump_keeps types told bodies operations (Raising e) s.control s h)
  kept_stands Exiting s is h = all_stand (jump_next named Exiting s.control s) (jump_keeps types told bodies operations Exiting s.control s h)
  kept_stands Returning s is h = all_stand (jump_next named Returning s.control s) (jump_keeps types told bodies operations Returning s.control s h)

  pub next_stands :
      (s : State) → OperationsRefer types s.heap s.control s.activations → (s.mode ≡ Running → EndsInside types s.control s.activations)
      → (s.mode ≡ Running → DeclaresBeside types s.control s.activations) → Stands types told s
      → AllStand types told (next types bodies s)
  unfolding next
  next_stands s refers ends apart (keeps h) = kept_stands s.mode s refl h
  next_stands s refers ends apart (seeks on h) =
      subst (λ (m : Mode). AllStand types told (mode_next named types bodies m s)) (sym on) (seeking_stands s.control s on refers (ends on) (apart on) h)
  next_stands s refers ends apart (fails e raising h) =
      subst (λ (m : Mode). AllStand types told (mode_next named types bodies m s)) (sym raising) (failing_stands e s.control s raising h)
