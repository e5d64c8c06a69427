-- Calls in bodies that shun some access types (6.4): their actual parameters, and how they begin and end.

use Rattle.std.proofs.Common.{◌≡◌, ℕ, Bool, true, ◌++◌, List, [], ◌∷◌, Option, Some, None, refl, sym, ap, subst, take, inl, ◌⊎◌, inr, ◌∙◌}
use Rattle.std.specs.List.{list_all, slice_get}
use Rattle.std.proofs.lemmas.Bool.{and_parts}
use Rattle.ada_program.specs.declared.program.Exception.TheVariants.{ConstraintError}
use Rattle.ada_program.specs.declared.program.TypeDefinition.{TypeDefinition}
use Rattle.ada_program.specs.declared.program.VariableKind.{VariableKind}
use Rattle.ada_program.specs.Form.{ActualForm, in_value, in_null, in_access, in_record, in_out_path, in_out_access, in_out_component, in_out_record}
use Rattle.ada_program.specs.ProgramForm.{BodyForm}
use Rattle.ada_program.specs.WellFormed.{variable_kind}
use Rattle.ada_meaning.specs.declared.state.Id.{Id}
use Rattle.ada_meaning.specs.declared.state.Mode.{Mode}
use Rattle.ada_meaning.specs.declared.state.Mode.TheVariants.{Raising}
use Rattle.ada_meaning.specs.declared.state.Place.{Place}
use Rattle.ada_meaning.specs.declared.state.Value.{Value}
use Rattle.ada_meaning.specs.declared.state.Value.TheVariants.{Null, Names, Scalar, Part}
use Rattle.ada_meaning.specs.Frame.{Frame, evaluating}
use Rattle.ada_meaning.specs.Frame as frame
use Rattle.ada_meaning.specs.Heap.{Cell, Found, on_null, on_gone, on_other, finds}
use Rattle.ada_meaning.specs.State.{Activation}
use Rattle.ada_meaning.specs.Step.{procedure_of, places_of, operands_of, with_operands, with_places, operands, places, older, computed, at, newest_ones, operand_count, given_values, references_in, begun, referred_next, refers_next, open_next, opened_next, opens_next, storing, stored_back, copied_back, returned, computing, call_next}
use Rattle.ada_meaning.specs.Named.{Object, State, named, object_at, look, refer, whole}
use Rattle.ada_untouched.specs.Untouched.{IsInSight}
use Rattle.ada_reaching.specs.Forms.{selectors_shun, actual_shuns, body_shuns}
use Rattle.ada_reaching.specs.Reaching.{IsElsewhere, AreElsewhere, LeftShuns, IsInner, begins_anew, WaitsToCopy, is_leaving}
use Rattle.ada_reaching.specs.Law.{AreApart}
use Rattle.ada_reaching.proofs.Begins.{beginning_goes}
use Rattle.ada_reaching.proofs.Elsewhere.{elsewhere_append, elsewhere_reverse, elsewhere_take, given_values_elsewhere, references_elsewhere, stored_elsewhere, copied_elsewhere}
use Rattle.ada_reaching.proofs.Going.{World, variables_in, IsRun, Runs, Left, On, Goes, operands_run, places_run, stays, gives, jumps, reaches, seen_seeks, any_mode, OperandsSeek, may_jump}
use Rattle.ada_reaching.proofs.Paths.{found_there, component_elsewhere, Sound, Fine, holder_goes}
use Rattle.ada_reaching.proofs.Selections.{IsRooted, held_in}

-- These values refer to components (6.4.1).
abbrev pub IsPart : Value → Type 0
IsPart Null = ⊥
IsPart (Names o) = ⊥
IsPart (Scalar v) = ⊥
IsPart (Part o place) = Unit {0}

-- So does each of these.
abbrev pub AreParts : List Value → Type 0
AreParts [] = Unit {0}
AreParts (r ∷ rs) = IsPart r × AreParts rs

-- What refers to a component leads to no ghost, where it refers elsewhere.
pub referred_sight : (ghosts unnamed : Id → Bool) (r : Value) → IsPart r → IsElsewhere ghosts unnamed r → IsInSight ghosts (whole r)
referred_sight ghosts unnamed Null part other = absurd part
referred_sight ghosts unnamed (Names o) part other = absurd part
referred_sight ghosts unnamed (Scalar v) part other = absurd part
referred_sight ghosts unnamed (Part o place) part other = other

-- So it is with what refers to a place in the object that a value names.
refer_elsewhere :
    (ghosts unnamed : Id → Bool) (v : Value) (place : Place) → IsInSight ghosts v → IsElsewhere ghosts unnamed v → IsElsewhere ghosts unnamed (refer v place)
refer_elsewhere ghosts unnamed Null place sight other = tt
refer_elsewhere ghosts unnamed (Names o) place sight other = sight
refer_elsewhere ghosts unnamed (Scalar v) place sight other = tt
refer_elsewhere ghosts unnamed (Part o base) place sight other = other

module _ (w : World) where
  -- What is left to do behind actual parameters that are evaluated.
  abbrev Front : List (Frame Value) → Type 0
  Front k = Left w k × (begins_anew k ≡ true)

  -- An actual parameter is evaluated in front of what shuns the types (6.4.1).
  evaluating_left :
      (a : ActualForm) (k : List (Frame Value)) → actual_shuns w.p.types w.shuns w.apart (variables_in w) a ≡ true → Front k → Front (evaluating a ∷ k)
  evaluating_left (in_value e) k shun h = ((shun, h.1, h.0), refl)
  evaluating_left in_null k shun h = ((refl, h.1, h.0), refl)
  evaluating_left (in_access path) k shun h = ((shun, h.1, h.0), refl)
  evaluating_left (in_record q) k shun h = ((shun, h.1, h.0), refl)
  evaluating_left (in_out_path path) k shun h = ((shun, h.1, h.0), refl)
  evaluating_left (in_out_access path) k shun h = ((shun, h.1, h.0), refl)
  evaluating_left (in_out_component path) k shun h = ((shun, h.1, h.0), refl)
  evaluating_left (in_out_record q) k shun h = ((shun, h.1, h.0), refl)

  -- So are all of them.
  computing_left :
      (actuals : List ActualForm) (k : List (Frame Value)) → list_all (actual_shuns w.p.types w.shuns w.apart (variables_in w)) actuals ≡ true → Front k
      → Front (computing named actuals k)
  computing_left [] k shun h = h
  computing_left (a ∷ rest) k shun h =
      let two =
      and_parts (actual_shuns w.p.types w.shuns w.apart (variables_in w) a) (list_all (actual_shuns w.p.types w.shuns w.apart (variables_in w)) rest) shun in
      evaluating_left a (computing named rest k) two.0 (computing_left rest k two.1 h)

  -- The bodies go on as a call comes.
  pub call_goes :
      (tds : List TypeDefinition) → AreApart w.p tds w.shuns w.apart → (procedure : ℕ) (actuals : List ActualForm) (found : Option BodyForm) (s : State)
      → slice_get w.p.bodies procedure ≡ found → list_all (actual_shuns w.p.types w.shuns w.apart (variables_in w)) actuals ≡ true
      → w.apart.calls procedure ≡ true
      → Goes w s (call_next named procedure actuals found s)
  call_goes tds are_apart procedure actuals None s is shun apart r h anew = tt
  call_goes tds are_apart procedure actuals (Some b) s is shun apart r h anew =
      let k = frame.Calls procedure b actuals ∷ s.control in
      let front = computing_left actuals k shun (((is, are_apart.bodies procedure b apart is), anew, h), refl) in
      stays w (at (computing named actuals k) s) r front.0 front.1

  -- The bodies go on as a record is referred to.
  referred_goes :
      (v : Value) (place : Place) (found : Option (List Value)) (s : State) → IsInSight w.ghosts v → IsElsewhere w.ghosts w.unnamed v
      → Goes w s (referred_next named v place found s)
  referred_goes v place None s sight other r h anew = tt
  referred_goes v place (Some vs) s sight other r h anew = gives w (refer v place) s (refer_elsewhere w.ghosts w.unnamed v place sight other) r h anew

  -- So they do, by what is found of its object.
  pub refers_goes :
      (v : Value) (place : Place) (count : ℕ) (found : Found (Cell Value)) (s : State) → IsInSight w.ghosts v → IsElsewhere w.ghosts w.unnamed v
      → Goes w s (refers_next named v place count found s)
  refers_goes v place count on_null s sight other r h anew = jumps w (Raising ConstraintError) s r h anew
  refers_goes v place count on_gone s sight other r h anew = tt
  refers_goes v place count on_other s sight other r h anew = tt
  refers_goes v place count (finds cell) s sight other r h anew = referred_goes v place _ s sight other r h anew

  -- The bodies go on as the object is looked for in which a component lies that is given.
  pub open_goes :
      (cs : List ℕ) (x : ℕ) (to : VariableKind) (s : State) → Sound w s → IsRooted w.p.types (variables_in w) x cs to
      → selectors_shun w.p.types w.shuns (variable_kind (variables_in w) x) cs ≡ true → Goes w s (open_next named cs x s)
  open_goes [] x to s sound root shun r h anew = tt
  open_goes (c ∷ cs) x to s sound root shun r h anew =
      holder_goes w c cs x to (λ last. frame.OpensIn last) s sound root shun r (λ n. (tt, anew, h)) (λ n. refl) (λ may u n is_may is. is_may)

  -- The bodies go on as a component is given.
  opened_goes :
      (v : Value) (c : ℕ) (o : Id) (x : Object) (found : Option Value) (s : State) → Fine w s → object_at s.heap o ≡ Some x → slice_get x.cell.values c ≡ found
      → IsInSight w.ghosts v → IsElsewhere w.ghosts w.unnamed v → Goes w s (opened_next named v c found s)
  opened_goes v c o x None s fine there is sight other r h anew = tt
  opened_goes v c o x (Some u) s fine there is sight other r h anew =
      let own = held_in w.p.types s.heap fine o x c u there is in
      let reference = refer v (record { component = c; part = 0 }) in
      let referring = operands_run w (reference ∷ operands s) s.activations s.masters s.heap
      (refer_elsewhere w.ghosts w.unnamed v (record { component = c; part = 0 }) sight other, r.operands) r in
      gives w u (computed reference s) (component_elsewhere w s.heap r.same own.0 u (own.3 w.types_fit) own.2) referring h anew

  -- So they do, by what is found of its object.
  opens_found :
      (v : Value) (c : ℕ) (found : Found (Cell Value)) (s : State) → Fine w s → look s.heap v ≡ found → IsInSight w.ghosts v → IsElsewhere w.ghosts w.unnamed v
      → Goes w s (opens_next named v c found s)
  opens_found v c on_null s fine is sight other r h anew = jumps w (Raising ConstraintError) s r h anew
  opens_found v c on_gone s fine is sight other r h anew = tt
  opens_found v c on_other s fine is sight other r h anew = tt
  opens_found v c (finds cell) s fine is sight other r h anew =
      let f = found_there s.heap v cell is in
      opened_goes v c f.name f.object (slice_get cell.values c) s fine f.there (ap (λ (own : Cell Value). slice_get own.values c) f.own) sight other r h anew

  -- So they do as the object is looked for.
  pub opens_goes :
      (v : Value) (c : ℕ) (s : State) → Fine w s → IsInSight w.ghosts v → IsElsewhere w.ghosts w.unnamed v → Goes w s (opens_next named v c (look s.heap v) s)
  opens_goes v c s fine sight other r h anew = opens_found v c (look s.heap v) s fine refl sight other r h anew

  -- The bodies go on as the body of a procedure begins (6.4).
  pub begun_goes :
      (procedure : ℕ) (b : BodyForm) (actuals : List ActualForm) (s : State) → slice_get w.p.bodies procedure ≡ Some b
      → body_shuns w.p.types w.shuns w.apart b ≡ true → Runs w s → Left w s.control → begins_anew s.control ≡ true
      → On w (begun named procedure b actuals (newest_ones named (operand_count actuals) s) s)
  begun_goes procedure b actuals s is shun r h anew =
      let vs = newest_ones named (operand_count actuals) s in
      let given : AreElsewhere w.ghosts w.unnamed vs =
      elsewhere_reverse w.ghosts w.unnamed (take (operand_count actuals) (operands s))
      (elsewhere_take w.ghosts w.unnamed (operand_count actuals) (operands s) r.operands) in
      beginning_goes w procedure b (given_values actuals vs) actuals (references_in actuals vs) s.control (with_operands [] s.activations) s is shun
      (given_values_elsewhere w.ghosts w.unnamed actuals vs given) (references_elsewhere w.ghosts w.unnamed actuals vs given)
      (operands_run w [] s.activations s.masters s.heap tt r) h (inl anew)

module _ (w : World) where
  -- What goes back to components is stored there next, in front of what shuns the types.
  storing_left : (rs : List Value) (k : List (Frame Value)) → AreParts rs → AreElsewhere w.ghosts w.unnamed rs → Left w k × (begins_anew k ≡ true)
      → Left w (storing named rs k) × (begins_anew (storing named rs k) ≡ true)
  storing_left [] k parts others h = h
  storing_left (r ∷ rs) k parts others h =
      let more = storing_left rs k parts.1 others.1 h in
      ((referred_sight w.ghosts w.unnamed r parts.0 others.0, more.1, more.0), refl)

module _ (w : World) where
  -- The bodies go on as that of a call has ended (6.4.1, 6.5): the caller's.
  module _ (s : State) (f : Frame Value) (r : Runs w s) (inner : IsInner w.ghosts w.unnamed f s.control w.suspended
      (LeftShuns w.p w.shuns w.apart w.ghosts w.unnamed w.behind w.lower (procedure_of w.suspended) s.control w.upper (older w.suspended))) where
    -- The caller runs.
    abbrev pub caller : World
    caller = record w { procedure = procedure_of w.suspended; suspended = older w.suspended }

    -- So it is with its activation and those that wait for it.
    pub resumed_run : IsRun caller (older s.activations) s.masters s.heap
    resumed_run = subst (λ (acts : List (Activation Value)). IsRun caller acts s.masters s.heap) (sym r.waits)
        (record { runs = refl; waits = refl; owns = r.owns; places = inner.places; operands = inner.operands; same = r.same })

    -- It goes on behind a Finalize, in front of the copy of a record, which looks at no ghost.
    copies_on : WaitsToCopy w.ghosts f s.control w.suspended → (m : Mode) → On w (record s { activations = older s.activations; mode = m })
    copies_on waits m =
        let after = record s { activations = older s.activations; mode = m } in
        reaches caller after resumed_run inner.others (may_jump m s.control (ap is_leaving waits.is))
        (subst (λ (k : List (Frame Value)). OperandsSeek caller s.heap m k (operands_of (older s.activations))) (sym waits.is)
        (subst (λ (acts : List (Activation Value)). OperandsSeek caller s.heap m (frame.Confines ∷ waits.rest) (operands_of acts)) (sym r.waits)
        (any_mode caller s.heap m (frame.Confines ∷ waits.rest) (operands_of w.suspended)
        (seen_seeks caller s.heap (frame.Confines ∷ waits.rest) (operands_of w.suspended) waits.sees (λ may u is_may copies. is_may)))))

    -- It goes on without anything given back.
    pub left_goes : (m : Mode) → On w (record s { activations = older s.activations; mode = m })
    left_goes m = by inner.anew
      where
        by : (begins_anew s.control ≡ true) ⊎ WaitsToCopy w.ghosts f s.control w.suspended → On w (record s { activations = older s.activations; mode = m })
        by (inl anew) = stays caller (record s { activations = older s.activations; mode = m }) resumed_run inner.others anew
        by (inr waits) = copies_on waits m

    -- It gets back what it is to get.
    given_goes : (m : Mode) (actuals : List ActualForm) (references : List Value) → AreParts references → AreElsewhere w.ghosts w.unnamed references
        → begins_anew s.control ≡ true → On w (record (returned named actuals references s) { mode = m })
    given_goes m actuals references parts others anew =
        let copied = copied_back actuals (places s) (places_of (older s.activations)) in
        let stored = stored_back actuals (places s) ++ operands_of (older s.activations) in
        let placed : IsRun caller (with_places copied (older s.activations)) s.masters s.heap =
        places_run caller copied (older s.activations) s.masters s.heap
        (copied_elsewhere w.ghosts w.unnamed actuals (places s) (places_of (older s.activations)) r.places resumed_run.places) resumed_run in
        let front = storing_left caller references s.control parts others (inner.others, anew) in
        stays caller (record (returned named actuals references s) { mode = m })
        (operands_run caller _ (with_places copied (older s.activations)) s.masters s.heap
        (elsewhere_append w.ghosts w.unnamed (stored_back actuals (places s)) _
        (stored_elsewhere w.ghosts w.unnamed actuals (places s) r.places) resumed_run.operands) placed) front.0 front.1

    pub returned_goes : (m : Mode) (actuals : List ActualForm) (references : List Value) → f ≡ frame.Returns actuals references → AreParts references
        → AreElsewhere w.ghosts w.unnamed references → On w (record (returned named actuals references s) { mode = m })
    returned_goes m actuals references is parts others = by inner.anew
      where
        -- Where it is an operation that ends, nothing is given back.
        back_none : (actuals' : List ActualForm) (references' : List Value) → actuals' ≡ [] → references' ≡ []
            → On w (record s { activations = older s.activations; mode = m }) → On w (record (returned named actuals' references' s) { mode = m })
        back_none actuals' references' none nothing on = rw (none, nothing) (by_acts (older s.activations) on)
          where
            by_acts : (acts : List (Activation Value)) → On w (record s { activations = acts; mode = m })
                → On w (record s { activations = with_operands (operands_of acts) (with_places (places_of acts) acts); mode = m })
            by_acts [] on' = on'
            by_acts (a ∷ acts) on' = on'

        by : (begins_anew s.control ≡ true) ⊎ WaitsToCopy w.ghosts f s.control w.suspended → On w (record (returned named actuals references s) { mode = m })
        by (inl anew) = given_goes m actuals references parts others anew
        by (inr waits) =
            let same : frame.Returns actuals references ≡ frame.Returns [] [] = sym is ∙ waits.ends_operation in
            back_none actuals references (cc same) (cc same) (copies_on waits m)
