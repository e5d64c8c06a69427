-- Calls, returns and jumps out of bodies (6.4, 6.5, 11.4), and calls of operations of controlled types (7.6): so each step of a typed state leads to one that
-- is typed, or ends the run in a way that the language knows.

use Rattle.ada_typed.specs.Holding.{Cells, HasKind, PartsLie, cells_of, seen_now}
use Rattle.std.proofs.Common.{◌≡◌, ℕ, ◌<◌, ◌≤◌, ◌==◌, if◌then◌else◌, Bool, true, false, List, [], ◌∷◌, length, map, take, reverse, Option, Some, None, arith, refl, sym, ap, ◌∙◌, subst}
use Rattle.std.specs.List.{list_all, slice_get}
use Rattle.std.specs.Option.{option_map}
use Rattle.std.proofs.lemmas.Option.{slice_get-map}
use Rattle.ada_parts.specs.Part.{Part as PartOf}
use Rattle.ada_parts.specs.Task.{Task, performs, treats, next as task_next}
use Rattle.ada_program.specs.declared.program.Exception.{Exception}
use Rattle.ada_program.specs.declared.program.TypeDefinition.{TypeDefinition}
use Rattle.ada_program.specs.declared.program.VariableKind.{VariableKind}
use Rattle.ada_program.specs.declared.program.VariableKind.TheVariants as variable
use Rattle.ada_program.specs.Controlled.{operations_of, procedure_number}
use Rattle.ada_program.specs.Form.{ActualForm}
use Rattle.ada_program.specs.ProgramForm.{TypeForm, record_of, access_to, object_of, VariableForm, BodyForm, ProgramForm, type_form, seen_by, seen_in}
use Rattle.ada_program.specs.WellFormed.{IsWellFormed, overrides_none, actuals_fit, formal_kinds, object_in, named_in, components_reached, object_named, reached_components, has_record_at}
use Rattle.ada_meaning.specs.declared.event.Birth.{Birth}
use Rattle.ada_meaning.specs.declared.event.Birth.TheVariants.{Creation, Copy, Adjustment}
use Rattle.ada_meaning.specs.declared.event.Cause.{Cause}
use Rattle.ada_meaning.specs.declared.event.Halt.{Halt}
use Rattle.ada_meaning.specs.declared.event.Halt.TheVariants.{Finished, Unhandled, Escaped, Erroneous, Stuck, Memory}
use Rattle.ada_meaning.specs.declared.event.Why.TheVariants.{FinalizesTwice}
use Rattle.ada_meaning.specs.declared.state.Id.{Id}
use Rattle.ada_meaning.specs.declared.state.Stage.{Stage}
use Rattle.ada_meaning.specs.declared.state.Stage.TheVariants.{Building, Existing, Gone}
use Rattle.ada_meaning.specs.declared.state.Value.{Value}
use Rattle.ada_meaning.specs.declared.state.Value.TheVariants.{Null, Names, Scalar, Part}
use Rattle.ada_meaning.specs.declared.state.Mode.{Mode}
use Rattle.ada_meaning.specs.declared.state.Mode.TheVariants.{Running, Raising, Exiting, Returning}
use Rattle.ada_meaning.specs.Event.{Finalized, Quiet}
use Rattle.ada_meaning.specs.Frame.{Frame, Treatment, is_master, is_return, breaks_off, landing}
use Rattle.ada_meaning.specs.Frame as frame
use Rattle.ada_meaning.specs.Heap.{PartState, Cell, finds}
use Rattle.ada_meaning.specs.State.{Activation}
use Rattle.ada_meaning.specs.Step.{procedure_of, halts, moves, tells, asks, picks, at, older, in_front, operand_count, given_values, references_in, storing, stored_back, newest_ones, returned, left_by, unwound, begun, given_places, beginning, treating, operating, operation_next, end_of, part_reference, born_next, begun_next, awaited_next, ended_next, finalized_next, performed_next, treats_next, undo_next, broken_next, frame_next, pass_next, running_next, jump_next, mode_next}
use Rattle.ada_meaning.specs.Named.{Object, State, Next, named, next, look, seen, existing, on_object, treated, finalized_part}
use Rattle.ada_typed.proofs.Parts.{firsts_known}
use Rattle.ada_typed.proofs.Lying.{IsOperable, PartsAreRecords}
use Rattle.ada_typed.proofs.Values.{OperandKind, of_kind, HasParts, AreFilled, AreHeld, AreComputed, IsActive, kind_later, parts_at}
use Rattle.ada_typed.proofs.Control.{AtReturn, kinds_at, kinds_in, operand_kinds, stored_kinds, AreReferences, actuals_at, references_at, IsTreated, AtOperation, awaiting, confined, Suspended, WaitsBy, for_call, for_operation, WaitsFirst, Waiting, Fits, depth, depth_behind, Ready, Jumps, Goes, Typed, TypedIn, running, on_jump, operated, out_of_operation, catches}
use Rattle.ada_typed.proofs.Later.{waiting_later}
use Rattle.ada_typed.proofs.Treating.{treating_fits, treating_deep}
use Rattle.ada_typed.proofs.Evaluations.{EndsInside, ComesTo, Fine, cell_at, own_access, ready_at}
use Rattle.ada_typed.proofs.Bodies.{SeenFits, tables_in, initials_begin, statements_begin, handlers_begin, seen_fits, sees, types_seen, seen_as}
use Rattle.ada_typed.proofs.Actuals.{AreGiven, AreFirst, given, held_given, formals_held, GiveBack, gives_back, held_back, stored_held, computed_before, depth_storing, storing_fits}
use Rattle.ada_typed.proofs.Overriding.{is_plain, nothing_overridden, begins_alone, ends_alone}
use Rattle.ada_typed.proofs.Overridings.{OperationFor, beginning_for, ending_for}
use Rattle.ada_typed.proofs.Treatments.{changed_at, part_there, part_within, born_fine, awaited_fine, finalized_fine, undo_fine, picks_fine}
use Rattle.ada_typed.proofs.Kept.{Behind, behind_call, behind_treating, Keeps, Each, still}
use Rattle.ada_typed.proofs.KeptTreatments.{begun_keeps, awaited_keeps, finalized_keeps, picked_keeps}
use Rattle.ada_typed.proofs.KeptSteps.{step_keeps, pass_keeps}
use Rattle.ada_typed.proofs.Steps.{frame_fine}
use Rattle.ada_typed.proofs.Jumps.{passing_fine, ends_fine}

-- What waits for the end of this body is said of what is left to do behind it, whatever is left of the body.
abbrev WaitsAt : ProgramForm → Cells → (callee : Option ℕ) → Option Behind → List (Activation Value) → Type 0
WaitsAt p cells callee None suspended = (suspended ≡ [])
WaitsAt p cells callee (Some behind) suspended =
    WaitsFirst p cells callee behind.actuals behind.references behind.left suspended (Waiting p cells (procedure_of suspended) behind.left (older suspended))

module _ (p : ProgramForm) (cells : Cells) (callee : Option ℕ) where
  -- What waits where a call ends with these actual parameters.
  abbrev WaitsHere : List ActualForm → (references : List Value) → List (Frame Value) → List (Activation Value) → Type 0
  WaitsHere actuals references k suspended = WaitsFirst p cells callee actuals references k suspended (Waiting p cells (procedure_of suspended) k (older suspended))

  to_behind : (return : Bool) (actuals : List ActualForm) (references : List Value) (k : List (Frame Value)) (suspended : List (Activation Value)) → (Waiting p cells callee k suspended → WaitsAt p cells callee (behind_call k) suspended) → AtReturn return (WaitsHere actuals references k suspended) (Waiting p cells callee k suspended) → WaitsAt p cells callee (if return then Some (record { actuals = actuals; references = references; left = k }) else behind_call k) suspended
  to_behind true actuals references k suspended later h = h
  to_behind false actuals references k suspended later h = later h

  from_behind : (return : Bool) (actuals : List ActualForm) (references : List Value) (k : List (Frame Value)) (suspended : List (Activation Value)) → (WaitsAt p cells callee (behind_call k) suspended → Waiting p cells callee k suspended) → WaitsAt p cells callee (if return then Some (record { actuals = actuals; references = references; left = k }) else behind_call k) suspended → AtReturn return (WaitsHere actuals references k suspended) (Waiting p cells callee k suspended)
  from_behind true actuals references k suspended later h = h
  from_behind false actuals references k suspended later h = later h

  waits_at : (k : List (Frame Value)) (suspended : List (Activation Value)) → Waiting p cells callee k suspended → WaitsAt p cells callee (behind_call k) suspended
  waits_at [] suspended h = h
  waits_at (f ∷ k) suspended h = to_behind (is_return f) (actuals_at f) (references_at f) k suspended (waits_at k suspended) h

  at_waits : (k : List (Frame Value)) (suspended : List (Activation Value)) → WaitsAt p cells callee (behind_call k) suspended → Waiting p cells callee k suspended
  at_waits [] suspended h = h
  at_waits (f ∷ k) suspended h = from_behind (is_return f) (actuals_at f) (references_at f) k suspended (at_waits k suspended) h

  -- The same is behind the body that runs: the same waits.
  pub waiting_behind : (k l : List (Frame Value)) (suspended : List (Activation Value)) → behind_call l ≡ behind_call k → Waiting p cells callee k suspended → Waiting p cells callee l suspended
  waiting_behind k l suspended same h = at_waits l suspended (subst (λ (o : Option Behind). WaitsAt p cells callee o suspended) (sym same) (waits_at k suspended h))

-- How a run of a well-formed program ends: an exception leaves an Adjust or a Finalize only where a type overrides one (7.6.1).
abbrev pub Ends : ProgramForm → Halt → Type 0
Ends p Finished = Unit {0}
Ends p (Unhandled e) = Unit {0}
Ends p (Escaped e) = (overrides_none p ≡ true → ⊥)
Ends p (Erroneous why) = Unit {0}
Ends p Stuck = ⊥
Ends p Memory = ⊥

pub ends_inside : (p : ProgramForm) (halt : Halt) → EndsInside halt → Ends p halt
ends_inside p Finished h = tt
ends_inside p (Unhandled e) h = tt
ends_inside p (Escaped e) h = absurd h
ends_inside p (Erroneous why) h = tt
ends_inside p Stuck h = h
ends_inside p Memory h = h

-- A step inside the running body.
module _ (p : ProgramForm) where
  -- What holds of the activations that wait, while a body runs.
  abbrev Waits : State → Type 0
  Waits s = Waiting p (cells_of s.heap) (procedure_of s.activations) s.control (older s.activations)

  kept_typed : (s after : State) → Keeps s after → Waits s → TypedIn (seen_now p s) after → Typed p after
  kept_typed s after keeps waiting typed = record {
    inside = subst (λ (procedure : Option ℕ). TypedIn (seen_in procedure p) after) (sym keeps.procedure) typed;
    waiting = subst (λ (callee : Option ℕ). Waiting p (cells_of after.heap) callee after.control (older after.activations)) (sym keeps.procedure)
        (subst (λ (suspended : List (Activation Value)). Waiting p (cells_of after.heap) (procedure_of s.activations) after.control suspended) (sym keeps.suspended)
        (waiting_behind p (cells_of after.heap) (procedure_of s.activations) s.control after.control (older s.activations) keeps.behind
        (waiting_later p (cells_of s.heap) (cells_of after.heap) keeps.stay (procedure_of s.activations) s.control (older s.activations) waiting)));
  }

  inside_comes : (s : State) (n : Next) → Waits s → Fine (seen_now p s) n → Each (Keeps s) n → ComesTo (Ends p) (Typed p) n
  inside_comes s (halts halt) waiting fine keeps = ends_inside p halt fine
  inside_comes s (moves e after) waiting fine keeps = kept_typed s after keeps waiting fine
  inside_comes s (tells request e after) waiting fine keeps = kept_typed s after keeps waiting fine
  inside_comes s (asks request answers) waiting fine keeps = λ granted. kept_typed s (answers granted) (keeps granted) waiting (fine granted)
  inside_comes s (picks n taking) waiting fine keeps = λ i lt. kept_typed s (taking i) (keeps i lt) waiting (fine i lt)

  -- What waits behind a frame that ends no call.
  waits_further : (f : Frame Value) (k : List (Frame Value)) (cells : Cells) (callee : Option ℕ) (suspended : List (Activation Value)) → is_return f ≡ false → Waiting p cells callee (f ∷ k) suspended → Waiting p cells callee k suspended
  waits_further f k cells callee suspended none waiting =
      waiting_behind p cells callee (f ∷ k) k suspended
      (sym (ap (λ (return : Bool). if return then Some (record { actuals = actuals_at f; references = references_at f; left = k }) else behind_call k) none)) waiting

-- Each body sees the same types.
pub same_filled : (p : ProgramForm) (procedure : Option ℕ) (cells : Cells) → AreFilled (seen_in procedure p).types cells cells → AreFilled p.types cells cells
same_filled p procedure cells filled = subst (λ (types : List TypeForm). AreFilled types cells cells) (types_seen p procedure) filled

pub filled_seen : (p : ProgramForm) (procedure : Option ℕ) (cells : Cells) → AreFilled p.types cells cells → AreFilled (seen_in procedure p).types cells cells
filled_seen p procedure cells filled = subst (λ (types : List TypeForm). AreFilled types cells cells) (sym (types_seen p procedure)) filled

-- What the variables of a body hold is of their kinds, as any body sees the types.
held_seen : (p : ProgramForm) (one other : Option ℕ) (cells : Cells) (variables : List VariableForm) (vs : List Value) → AreHeld (seen_in one p).types cells variables vs → AreHeld (seen_in other p).types cells variables vs
held_seen p one other cells variables vs h = subst (λ (types : List TypeForm). AreHeld types cells variables vs) (types_seen p one ∙ sym (types_seen p other)) h

-- What the formal parameters of a body hold is of their kinds, as its caller sees the types.
formals_first : (p : ProgramForm) (cells : Cells) (a c : Activation Value) → AreHeld (seen_in a.procedure p).types cells (seen_in a.procedure p).variables a.places → AreFirst (seen_in c.procedure p).types cells (kinds_in p a.procedure) a.places
formals_first p cells a c held =
    formals_held p (seen_in c.procedure p).types cells a.procedure a.places (held_seen p a.procedure c.procedure cells (seen_in a.procedure p).variables a.places held)

-- What is stored next leaves what is behind the running body.
behind_storing : (rs : List Value) (k : List (Frame Value)) → behind_call (storing named rs k) ≡ behind_call k
behind_storing [] k = refl
behind_storing (r ∷ rs) k = behind_storing rs k

-- What comes back to the caller that waits first.
comes_back : (p : ProgramForm) (cells : Cells) (a c : Activation Value) (actuals : List ActualForm) (references : List Value) (k : List (Frame Value)) → AreHeld (seen_in a.procedure p).types cells (seen_in a.procedure p).variables a.places → Suspended (seen_in c.procedure p) cells (kinds_in p a.procedure) actuals references k c → GiveBack (seen_in c.procedure p).types cells (seen_in c.procedure p).variables actuals a.places
comes_back p cells a c actuals references k held waits =
    let own = seen_in c.procedure p in
    gives_back own.types cells own.variables (kinds_in p a.procedure) actuals a.places waits.suits (formals_first p cells a c held)

-- A formal parameter of an operation stands for the record that is a part of an object (7.6).
names_it : (o : Option TypeForm) (t : ℕ) → object_in o ≡ Some t → named_in o ≡ Some t
names_it None t is = absurd (cc)
names_it (Some (record_of name parts components finalization)) t is = absurd (cc)
names_it (Some (access_to name designated pool)) t is = absurd (cc)
names_it (Some (object_of record_type)) t is = is

pub part_kind : (p : ProgramForm) → PartsAreRecords p.types → (cells : Cells) (o : Id) (cell : Cell Value) (access of part procedure : ℕ) (q : PartState) (operation : OperationFor p of procedure) → slice_get cells o.0 ≡ Some cell → cell.access ≡ access → HasParts p.types cell → slice_get cell.parts part ≡ Some q → IsOperable p.types access of part → HasKind p.types cells (variable.Record operation.object) (Part o (record { component = q.first; part = part }))
part_kind p placed cells o cell access of part procedure q operation there own parts at operable =
    let types = p.types in
    let named = names_it (slice_get types operation.object.0) operation.record_type operation.known_by in
    let begins : slice_get (firsts_known types cell.access) part ≡ Some q.first =
    ap (λ (cs : List ℕ). slice_get cs part) (sym parts.1) ∙ slice_get-map (λ (r : PartState). r.first) cell.parts part ∙ ap (option_map (λ (r : PartState). r.first)) at in
    let lies = placed cell.access of part q.first operation.record_type (subst (λ (t : ℕ). IsOperable types t of part) (sym own) operable) begins operation.numbered in (
      cell,
      there,
      ap (λ (n : Option ℕ). has_record_at (reached_components types cell.access) q.first (components_reached types n)) named ∙ lies.0,
      subst (λ (n : Option ℕ). PartsLie types (object_named types (Some cell.access)) n q.first part) (sym named) lies.1,
    )

module _ (p : ProgramForm) (well : IsWellFormed p) (placed : PartsAreRecords p.types) where
  -- Some type overrides an operation, as any body sees the types.
  some_seen : (procedure : Option ℕ) → (overrides_none p ≡ true → ⊥) → overrides_none (seen_in procedure p) ≡ true → ⊥
  some_seen procedure some plain = some (ap (list_all is_plain) (sym (types_seen p procedure)) ∙ plain)

  seen_some : (procedure : Option ℕ) → (overrides_none (seen_in procedure p) ≡ true → ⊥) → overrides_none p ≡ true → ⊥
  seen_some procedure some plain = some (ap (list_all is_plain) (types_seen p procedure) ∙ plain)

  -- The body of an operation begins (7.6): what the running body has computed waits.
  operating_typed : (number : ℕ) (b : BodyForm) (kind : VariableKind) (reference : Value) (behind : List (Frame Value)) (acts : List (Activation Value)) (s : State) (kinds : List OperandKind) → slice_get p.bodies number ≡ Some b → formal_kinds b ≡ kind ∷ [] → HasKind p.types (cells_of s.heap) kind reference → AreFilled p.types (cells_of s.heap) (cells_of s.heap) → IsActive (seen_in (procedure_of acts) p).types (cells_of s.heap) (seen_in (procedure_of acts) p).variables kinds acts → s.mode ≡ Running → depth behind ≤ length s.masters → AtOperation (seen_in (procedure_of acts) p) (cells_of s.heap) kinds behind → Waiting p (cells_of s.heap) (procedure_of acts) behind (older acts) → Typed p (operating named number b reference behind (record s { activations = acts }))
  operating_typed number b kind reference behind [] s kinds there formals has filled active runs deep awaits waiting = absurd active
  operating_typed number b kind reference behind (a ∷ suspended) s kinds there formals has filled active runs deep awaits waiting =
      let cells = cells_of s.heap in
      let same : seen_in (Some number) p ≡ seen_by number b p = seen_as p number b there in
      let body : SeenFits (seen_by number b p) = subst SeenFits same (seen_fits p well (Some number)) in
      let values : AreGiven p.types cells (formal_kinds b) (reference ∷ []) = subst (λ (ks : List VariableKind). AreGiven p.types cells ks (reference ∷ [])) (sym formals) (has, tt) in
      let held : AreHeld p.types cells b.variables (given_places named (reference ∷ []) b.variables) = held_given p.types cells b.variables (length b.formals) (reference ∷ []) values in
      let after = operating named number b reference behind (record s { activations = a ∷ suspended }) in
      let inside : TypedIn (seen_by number b p) after =
      running [] (record { filled = filled; active = (held, tt); runs = runs; deep = omega (arith, deep) })
      (refl, false, initials_begin (seen_by number b p) body, (statements_begin (seen_by number b p) body, λ whole. whole.0), (handlers_begin (seen_by number b p) body, λ whole. whole.1), tt, refl) in
      record {
        inside = subst (λ (own : ProgramForm). TypedIn own after) (sym same) inside;
        waiting = (for_operation (record { no_actuals = refl; no_references = refl; kinds = kinds; held = active.0; computed = active.1; awaits = awaits }), waiting);
      }

  module _ (types : List TypeDefinition) (shown : map type_form types ≡ p.types) where
    -- Where an operation is called, some type overrides one.
    begins_some : (by : Birth) (of procedure : ℕ) → beginning by (operations_of types of) ≡ Some procedure → overrides_none p ≡ true → ⊥
    begins_some by of procedure is plain =
        let never : Some procedure ≡ None = sym is ∙ begins_alone types (nothing_overridden types p.types shown plain) by of in
        absurd (cc)

    ends_some : (of procedure : ℕ) → procedure_number (operations_of types of).finalize ≡ Some procedure → overrides_none p ≡ true → ⊥
    ends_some of procedure is plain =
        let never : Some procedure ≡ None = sym is ∙ ends_alone types (nothing_overridden types p.types shown plain) of in
        absurd (cc)

    module _ (o : Id) (of part : ℕ) (tasks : List Task) (object : Object) (s : State) (kinds : List OperandKind) (there : slice_get s.heap o.0 ≡ Some object) (within : part < length object.cell.parts) (ready : Ready (seen_now p s) kinds s) (fits : Fits (seen_now p s) (cells_of s.heap) kinds s.control) (waiting : Waits p s) where
      abbrev own_now : ProgramForm
      own_now = seen_now p s

      abbrev same_types : own_now.types ≡ p.types
      same_types = types_seen p (procedure_of s.activations)

      -- What refers to the part is of the kind of the formal parameter.
      reference_has : (treatment : Treatment) (procedure : ℕ) (q : PartState) (operation : OperationFor p of procedure) → IsTreated own_now.types (cells_of s.heap) (Names o) treatment (performs of part ∷ tasks) → slice_get object.cell.parts part ≡ Some q → HasKind p.types (cells_of s.heap) (variable.Record operation.object) (part_reference named (Names o) part q)
      reference_has treatment procedure q operation treated at =
          let cells = cells_of s.heap in
          let own = own_access s.heap o treated.0 object treated.1 there in
          let cell_there = cell_at s.heap o.0 object there in
          let parts = parts_at p.types cells cells o.0 object.cell (same_filled p (procedure_of s.activations) cells ready.filled) cell_there in
          let operable = subst (λ (forms : List TypeForm). IsOperable forms treated.0 of part) same_types treated.2.1.0 in
          part_kind p placed cells o object.cell treated.0 of part procedure q operation cell_there own parts at operable

      -- The operation that begins a part is called.
      begun_comes : (by : Birth) (done : List PartOf) (operation : Option ℕ) → beginning by (operations_of types of) ≡ operation → IsTreated own_now.types (cells_of s.heap) (Names o) (frame.begins by done) (performs of part ∷ tasks) → ComesTo (Ends p) (Typed p) (begun_next named p.bodies (Names o) by done of part tasks operation (slice_get object.cell.parts part) s)
      begun_comes by done None is treated =
          let found = part_there object.cell.parts part within in
          inside_comes p s (begun_next named p.bodies (Names o) by done of part tasks None (slice_get object.cell.parts part) s) waiting
          (subst (λ (q : Option PartState). Fine own_now (begun_next named p.bodies (Names o) by done of part tasks None q s)) (sym found.1)
          (subst (λ (q : Option PartState). Fine own_now (born_next named (Names o) by done of part tasks q s)) found.1
          (born_fine own_now o by done of part tasks object s kinds there within ready treated fits)))
          (begun_keeps p.bodies (Names o) by done of part tasks None (slice_get object.cell.parts part) s refl)
      begun_comes by done (Some procedure) is treated =
          let found = part_there object.cell.parts part within in
          let operation = beginning_for p types shown well.operations_fit by of procedure is in
          let reference = part_reference named (Names o) part found.0 in
          let behind = frame.Awaits (Names o) by done of part tasks ∷ s.control in
          let some = some_seen (procedure_of s.activations) (begins_some by of procedure is) in
          subst (λ (q : Option PartState). ComesTo (Ends p) (Typed p) (begun_next named p.bodies (Names o) by done of part tasks (Some procedure) q s)) (sym found.1)
          (subst (λ (b : Option BodyForm). ComesTo (Ends p) (Typed p) (operation_next named procedure b reference behind Quiet s)) (sym operation.there)
          (operating_typed procedure operation.body (variable.Record operation.object) reference behind s.activations s kinds operation.there operation.formals
          (reference_has (frame.begins by done) procedure found.0 operation treated found.1)
          (same_filled p (procedure_of s.activations) (cells_of s.heap) ready.filled) ready.active ready.runs ready.deep (awaiting some treated fits) waiting))

      -- Finalize of a part is called.
      ended_comes : (alive : Bool) (cause : Cause) (procedure : ℕ) (q : PartState) → procedure_number (operations_of types of).finalize ≡ Some procedure → slice_get object.cell.parts part ≡ Some q → IsTreated own_now.types (cells_of s.heap) (Names o) (frame.ends cause) (performs of part ∷ tasks) → ComesTo (Ends p) (Typed p) (if alive then ended_next named p.bodies (Names o) part q (treating (Names o) (frame.ends cause) tasks s.control) (Some procedure) (Finalized (Names o) part q.turn of q.number cause) (record s { heap = on_object (treated finalized_part part) s.heap (Names o) }) else halts (Erroneous FinalizesTwice))
      ended_comes true cause procedure q is at treated_so =
          let operation = ending_for p types shown well.operations_fit of procedure is in
          let reference = part_reference named (Names o) part q in
          let heap = on_object (treated finalized_part part) s.heap (Names o) in
          let after = changed_at own_now finalized_part (λ r. refl) part o object s kinds there ready fits in
          let left = treating (Names o) (frame.ends cause) tasks s.control in
          let behind = frame.Confines ∷ left in
          let some = some_seen (procedure_of s.activations) (ends_some of procedure is) in
          let as_deep = treating_deep (Names o) (frame.ends cause) tasks s.control in
          let has = kind_later p.types (cells_of s.heap) (cells_of heap) after.stay (variable.Record operation.object) reference (reference_has (frame.ends cause) procedure q operation treated_so at) in
          let kept = waiting_behind p (cells_of heap) (procedure_of s.activations) s.control behind (older s.activations) (behind_treating (Names o) (frame.ends cause) tasks s.control)
          (waiting_later p (cells_of s.heap) (cells_of heap) after.stay (procedure_of s.activations) s.control (older s.activations) waiting) in
          let awaits = confined some (treating_fits own_now (cells_of heap) kinds (Names o) (frame.ends cause) tasks s.control (treated_so.0, after.stay treated_so.0 o treated_so.1, (treated_so.2.0.1, treated_so.2.1.1), (tt, tt)) after.fits) in
          subst (λ (b : Option BodyForm). ComesTo (Ends p) (Typed p) (operation_next named procedure b reference behind (Finalized (Names o) part q.turn of q.number cause) (record s { heap = heap }))) (sym operation.there)
          (operating_typed procedure operation.body (variable.Record operation.object) reference behind s.activations (record s { heap = heap }) kinds operation.there operation.formals has
          (same_filled p (procedure_of s.activations) (cells_of heap) after.filled) after.active ready.runs (omega (arith, ready.deep, as_deep)) awaits kept)
      ended_comes false cause procedure q is at treated_so = tt

      finalized_comes : (cause : Cause) (operation : Option ℕ) → procedure_number (operations_of types of).finalize ≡ operation → IsTreated own_now.types (cells_of s.heap) (Names o) (frame.ends cause) (performs of part ∷ tasks) → ComesTo (Ends p) (Typed p) (finalized_next named p.bodies (Names o) cause of part tasks operation (slice_get object.cell.parts part) s)
      finalized_comes cause None is treated_so =
          inside_comes p s (finalized_next named p.bodies (Names o) cause of part tasks None (slice_get object.cell.parts part) s) waiting
          (finalized_fine own_now p.bodies o cause of part tasks object s kinds there within ready treated_so fits)
          (finalized_keeps p.bodies (Names o) cause of part tasks None (slice_get object.cell.parts part) s refl)
      finalized_comes cause (Some procedure) is treated_so =
          let found = part_there object.cell.parts part within in
          subst (λ (q : Option PartState). ComesTo (Ends p) (Typed p) (finalized_next named p.bodies (Names o) cause of part tasks (Some procedure) q s)) (sym found.1)
          (ended_comes found.0.alive cause procedure found.0 is found.1 treated_so)

      performed_found : (treatment : Treatment) → IsTreated own_now.types (cells_of s.heap) (Names o) treatment (performs of part ∷ tasks) → ComesTo (Ends p) (Typed p) (performed_next named types p.bodies (Names o) treatment of part tasks (finds object.cell) s)
      performed_found (frame.begins by done) treated_so = begun_comes by done (beginning by (operations_of types of)) refl treated_so
      performed_found (frame.ends cause) treated_so = finalized_comes cause (procedure_number (operations_of types of).finalize) refl treated_so

    module _ (o : Id) (of part : ℕ) (tasks : List Task) (s : State) (kinds : List OperandKind) (ready : Ready (seen_now p s) kinds s) (fits : Fits (seen_now p s) (cells_of s.heap) kinds s.control) (waiting : Waits p s) where
      performed_stage : (stage : Stage) (object : Object) (treatment : Treatment) → slice_get s.heap o.0 ≡ Some object → part < length object.cell.parts → IsTreated (seen_now p s).types (cells_of s.heap) (Names o) treatment (performs of part ∷ tasks) → ComesTo (Ends p) (Typed p) (performed_next named types p.bodies (Names o) treatment of part tasks (existing object stage) s)
      performed_stage Gone object (frame.begins by done) there within treated_so = tt
      performed_stage Gone object (frame.ends cause) there within treated_so = tt
      performed_stage Building object treatment there within treated_so = performed_found o of part tasks object s kinds there within ready fits waiting treatment treated_so
      performed_stage Existing object treatment there within treated_so = performed_found o of part tasks object s kinds there within ready fits waiting treatment treated_so

      performed_seen : (at_o : Option Object) (treatment : Treatment) → slice_get s.heap o.0 ≡ at_o → IsTreated (seen_now p s).types (cells_of s.heap) (Names o) treatment (performs of part ∷ tasks) → ComesTo (Ends p) (Typed p) (performed_next named types p.bodies (Names o) treatment of part tasks (seen at_o) s)
      performed_seen None (frame.begins by done) there treated_so = tt
      performed_seen None (frame.ends cause) there treated_so = tt
      performed_seen (Some object) treatment there treated_so =
          performed_stage object.stage object treatment there (part_within (seen_now p s) o treatment part tasks of s kinds ready treated_so object there) treated_so

    -- The next step of a treatment.
    treats_comes : (v : Value) (treatment : Treatment) (tasks : List Task) (s : State) (kinds : List OperandKind) → Ready (seen_now p s) kinds s → IsTreated (seen_now p s).types (cells_of s.heap) v treatment tasks → Fits (seen_now p s) (cells_of s.heap) kinds s.control → Waits p s → ComesTo (Ends p) (Typed p) (treats_next named types p.bodies v treatment tasks (task_next tasks) s)
    treats_comes Null treatment tasks s kinds ready is fits waiting = absurd is
    treats_comes (Names o) treatment [] s kinds ready is fits waiting = inside_comes p s (moves Quiet s) waiting (running kinds ready fits) (still refl refl refl)
    treats_comes (Names o) treatment (performs of part ∷ behind) s kinds ready is fits waiting = performed_seen o of part behind s kinds ready fits waiting (slice_get s.heap o.0) treatment refl is
    treats_comes (Names o) treatment (treats cs ∷ behind) s kinds ready is fits waiting =
        inside_comes p s (treats_next named types p.bodies (Names o) treatment (treats cs ∷ behind) (task_next (treats cs ∷ behind)) s) waiting
        (picks_fine (seen_now p s) types (shown ∙ sym (types_seen p (procedure_of s.activations))) o treatment cs behind p.bodies s kinds ready is fits)
        (picked_keeps types (length cs == 0) (Names o) treatment (treats cs ∷ behind) (length cs) s)
    treats_comes (Scalar v) treatment tasks s kinds ready is fits waiting = absurd is
    treats_comes (Part o place) treatment tasks s kinds ready is fits waiting = absurd is

    -- The body of an operation has ended.
    operated_comes : (kinds : List OperandKind) (k : List (Frame Value)) (s : State) → AtOperation (seen_now p s) (cells_of s.heap) kinds k → s.control ≡ k → Ready (seen_now p s) kinds s → Waiting p (cells_of s.heap) (procedure_of s.activations) k (older s.activations) → ComesTo (Ends p) (Typed p) (running_next named types p.bodies k s)
    operated_comes kinds _ s (awaiting {v} {by} {done} {of} {part} {tasks} {k} some treated_so fits) is ready waiting =
        let same = ap depth is in
        inside_comes p (at k s) (awaited_next named v by done of part tasks (look s.heap v) (at k s)) waiting
        (awaited_fine (seen_now p s) v by done of part tasks (at k s) kinds (ready_at (seen_now p s) kinds s k ready (omega (arith, ready.deep, same))) treated_so fits)
        (awaited_keeps v by done of part tasks (look s.heap v) (at k s))
    operated_comes kinds _ s (confined {k} some fits) is ready waiting =
        let same = ap depth is in
        inside_comes p (at k s) (moves Quiet (at k s)) waiting (running kinds (ready_at (seen_now p s) kinds s k ready (omega (arith, ready.deep, same))) fits) (still refl refl refl)

    -- An exception comes out of it.
    broken_comes : (e : Exception) (v : Value) (by : Birth) (done : List PartOf) (of part : ℕ) (tasks : List Task) (s : State) (kinds : List OperandKind) → (overrides_none (seen_now p s) ≡ true → ⊥) → IsTreated (seen_now p s).types (cells_of s.heap) v (frame.begins by done) (performs of part ∷ tasks) → Fits (seen_now p s) (cells_of s.heap) kinds s.control → Jumps (seen_now p s) (Raising e) s → Waits p s → ComesTo (Ends p) (Typed p) (broken_next named e v by done s)
    broken_comes e v Creation done of part tasks s kinds some treated_so fits jumps waiting =
        inside_comes p s (undo_next named e v done (look s.heap v) s) waiting
        (undo_fine (seen_now p s) e v done of part tasks s kinds jumps treated_so fits) (pass_keeps false (breaks_off v Creation done) (Raising e) s)
    broken_comes e v Copy done of part tasks s kinds some treated_so fits jumps waiting = seen_some (procedure_of s.activations) some
    broken_comes e v (Adjustment number) done of part tasks s kinds some treated_so fits jumps waiting = seen_some (procedure_of s.activations) some

    thrown_comes : (e : Exception) (kinds : List OperandKind) (k : List (Frame Value)) (s : State) → AtOperation (seen_now p s) (cells_of s.heap) kinds k → s.control ≡ k → Jumps (seen_now p s) (Raising e) s → Waiting p (cells_of s.heap) (procedure_of s.activations) k (older s.activations) → ComesTo (Ends p) (Typed p) (jump_next named (Raising e) k s)
    thrown_comes e kinds _ s (awaiting {v} {by} {done} {of} {part} {tasks} {k} some treated_so fits) is jumps waiting =
        let same = ap depth is in
        broken_comes e v by done of part tasks (at k s) kinds some treated_so fits (record { filled = jumps.filled; active = jumps.active; jumps = jumps.jumps; deep = omega (arith, jumps.deep, same) }) waiting
    thrown_comes e kinds _ s (confined {k} some fits) is jumps waiting = seen_some (procedure_of s.activations) some

  -- A call begins (6.4): the caller waits, and the places of the body hold values of their kinds.
  begun_typed : (number : ℕ) (b : BodyForm) (actuals : List ActualForm) (acts : List (Activation Value)) (s : State) (kinds : List OperandKind) → Ready (seen_in (procedure_of acts) p) kinds (record s { activations = acts }) → Fits (seen_in (procedure_of acts) p) (cells_of s.heap) kinds (frame.Calls number b actuals ∷ s.control) → Waiting p (cells_of s.heap) (procedure_of acts) s.control (older acts) → Typed p (begun named number b actuals (newest_ones named (operand_count actuals) (record s { activations = acts })) (record s { activations = acts }))
  begun_typed number b actuals [] s kinds ready fits waiting = absurd ready.active
  begun_typed number b actuals (a ∷ suspended) s kinds ready fits waiting =
      let cells = cells_of s.heap in
      let called : slice_get p.bodies number ≡ Some b = sees p a.procedure number b fits.0 in
      let same : seen_in (Some number) p ≡ seen_by number b p = seen_as p number b called in
      let body : SeenFits (seen_by number b p) = subst SeenFits same (seen_fits p well (Some number)) in
      let own = seen_in a.procedure p in
      let computed : AreComputed own.types cells (in_front (operand_kinds (formal_kinds b) actuals) []) a.operands = subst (λ (ks : List OperandKind). AreComputed own.types cells ks a.operands) fits.1 ready.active.1 in
      let operands = reverse (take (operand_count actuals) a.operands) in
      let both = given own.types cells own.variables (formal_kinds b) actuals a.operands fits.2 computed in
      let values : AreGiven p.types cells (formal_kinds b) (given_values actuals operands) = subst (λ (types : List TypeForm). AreGiven types cells (formal_kinds b) (given_values actuals operands)) (types_seen p a.procedure) both.0 in
      let held : AreHeld p.types cells b.variables (given_places named (given_values actuals operands) b.variables) = held_given p.types cells b.variables (length b.formals) (given_values actuals operands) values in
      let suits = subst (λ (found : Option BodyForm). actuals_fit own.types own.variables (kinds_at found) actuals ≡ true) (sym called) fits.2 in
      let referred = subst (λ (found : Option BodyForm). AreReferences own.types cells (stored_kinds (kinds_at found) actuals) (references_in actuals operands)) (sym called) both.1 in
      let after = begun named number b actuals operands (record s { activations = a ∷ suspended }) in
      let inside : TypedIn (seen_by number b p) after =
      running [] (record { filled = same_filled p a.procedure cells ready.filled; active = (held, tt); runs = ready.runs; deep = omega (arith, ready.deep) })
      (refl, false, initials_begin (seen_by number b p) body, (statements_begin (seen_by number b p) body, λ whole. whole.0), (handlers_begin (seen_by number b p) body, λ whole. whole.1), tt, refl) in
      record {
        inside = subst (λ (own : ProgramForm). TypedIn own after) (sym same) inside;
        waiting = (for_call (record { no_operands = refl; held = ready.active.0; suits = suits; referred = referred; fits = fits.3 }), waiting);
      }

  -- What waits for the end of a call behind which this is left, where these are the activations.
  abbrev WaitFor : List ActualForm → (references : List Value) → List (Activation Value) → State → Type 0
  WaitFor actuals references acts s = WaitsHere p (cells_of s.heap) (procedure_of acts) actuals references s.control (older acts)

  -- A call ends normally (6.4.1, 6.5): its caller gets back what it is to get, and goes on.
  returned_to : (actuals : List ActualForm) (references : List Value) (a c : Activation Value) (suspended : List (Activation Value)) (kinds : List OperandKind) (s : State) → AreFilled p.types (cells_of s.heap) (cells_of s.heap) → IsActive (seen_in a.procedure p).types (cells_of s.heap) (seen_in a.procedure p).variables kinds (a ∷ c ∷ suspended) → s.mode ≡ Running → depth s.control ≤ length s.masters → WaitsBy (seen_in c.procedure p) (cells_of s.heap) (kinds_in p a.procedure) actuals references s.control c → Waiting p (cells_of s.heap) c.procedure s.control suspended → Typed p (returned named actuals references (record s { activations = a ∷ c ∷ suspended }))
  returned_to actuals references a c suspended kinds s filled active runs deep (for_call waits) others =
      let cells = cells_of s.heap in
      let own = seen_in c.procedure p in
      let stored = stored_kinds (kinds_in p a.procedure) actuals in
      let back = comes_back p cells a c actuals references s.control active.0 waits in
      let held = held_back own.types cells own.variables actuals a.places c.places back waits.held in
      let given_back = stored_held own.types cells (kinds_in p a.procedure) actuals a.places (formals_first p cells a c active.0) in
      let computed = computed_before own.types cells (map of_kind stored) (stored_back actuals a.places) c.operands given_back in
      record {
        inside =
            running (map of_kind stored) (record { filled = filled_seen p c.procedure cells filled; active = (held, computed); runs = runs; deep = omega (arith, deep, depth_storing references s.control) })
            (storing_fits own cells stored references s.control waits.referred waits.fits);
        waiting = waiting_behind p cells c.procedure s.control (storing named references s.control) suspended (behind_storing references s.control) others;
      }
  returned_to actuals references a c suspended kinds s filled active runs deep (for_operation waits) others =
      let now = record s { activations = a ∷ c ∷ suspended } in
      subst (λ (given : List ActualForm). Typed p (returned named given references now)) (sym waits.no_actuals)
      (subst (λ (rs : List Value). Typed p (returned named [] rs now)) (sym waits.no_references)
      (record {
        inside = operated waits.kinds (record { filled = filled_seen p c.procedure (cells_of s.heap) filled; active = (waits.held, waits.computed); runs = runs; deep = deep }) waits.awaits;
        waiting = others;
      }))

  returned_runs : (actuals : List ActualForm) (references : List Value) (acts : List (Activation Value)) (kinds : List OperandKind) (s : State) → AreFilled p.types (cells_of s.heap) (cells_of s.heap) → IsActive (seen_in (procedure_of acts) p).types (cells_of s.heap) (seen_in (procedure_of acts) p).variables kinds acts → s.mode ≡ Running → depth s.control ≤ length s.masters → WaitFor actuals references acts s → Typed p (returned named actuals references (record s { activations = acts }))
  returned_runs actuals references [] kinds s filled active runs deep waiting = absurd waiting
  returned_runs actuals references (a ∷ []) kinds s filled active runs deep waiting = absurd waiting
  returned_runs actuals references (a ∷ c ∷ suspended) kinds s filled active runs deep waiting =
      returned_to actuals references a c suspended kinds s filled active runs deep waiting.0 waiting.1

  -- An exception passes the end of a call (11.4): it goes on in the caller, or comes out of an operation.
  raised_in : (e : Exception) (actuals : List ActualForm) (references : List Value) (kinds : List VariableKind) (c : Activation Value) (suspended : List (Activation Value)) (s : State) → AreFilled p.types (cells_of s.heap) (cells_of s.heap) → s.mode ≡ Raising e → depth s.control ≤ length s.masters → WaitsBy (seen_in c.procedure p) (cells_of s.heap) kinds actuals references s.control c → TypedIn (seen_in c.procedure p) (record s { activations = c ∷ suspended })
  raised_in e actuals references kinds c suspended s filled jumps deep (for_call waits) =
      on_jump (Raising e) (record { filled = filled_seen p c.procedure (cells_of s.heap) filled; active = (waits.held, tt); jumps = jumps; deep = deep })
      (catches (seen_in c.procedure p) (cells_of s.heap) s.control [] waits.fits)
  raised_in e actuals references kinds c suspended s filled jumps deep (for_operation waits) =
      out_of_operation e waits.kinds (record { filled = filled_seen p c.procedure (cells_of s.heap) filled; active = (waits.held, tt); jumps = jumps; deep = deep }) waits.awaits

  resumed_jumps : (actuals : List ActualForm) (references : List Value) (e : Exception) (acts : List (Activation Value)) (s : State) → AreFilled p.types (cells_of s.heap) (cells_of s.heap) → s.mode ≡ Raising e → depth s.control ≤ length s.masters → WaitFor actuals references acts s → Typed p (record s { activations = older acts })
  resumed_jumps actuals references e [] s filled jumps deep waiting = absurd waiting
  resumed_jumps actuals references e (a ∷ []) s filled jumps deep waiting = absurd waiting
  resumed_jumps actuals references e (a ∷ c ∷ suspended) s filled jumps deep waiting = record {
    inside = raised_in e actuals references (kinds_in p a.procedure) c suspended s filled jumps deep waiting.0;
    waiting = waiting.1;
  }

  -- Each frame that is taken off.
  frame_comes : (types : List TypeDefinition) → map type_form types ≡ p.types → (f : Frame Value) (s : State) (kinds : List OperandKind) → Ready (seen_now p s) kinds s → depth (f ∷ s.control) ≤ length s.masters → Fits (seen_now p s) (cells_of s.heap) kinds (f ∷ s.control) → Waiting p (cells_of s.heap) (procedure_of s.activations) (f ∷ s.control) (older s.activations) → ComesTo (Ends p) (Typed p) (frame_next named types p.bodies f s)
  frame_comes types shown (frame.Calls number b actuals) s kinds ready deep fits waiting = begun_typed number b actuals s.activations s kinds ready fits waiting
  frame_comes types shown (frame.Returns actuals references) s kinds ready deep fits waiting =
      returned_runs actuals references s.activations kinds s (same_filled p (procedure_of s.activations) (cells_of s.heap) ready.filled) ready.active ready.runs deep waiting
  frame_comes types shown (frame.Treats v treatment tasks) s kinds ready deep fits waiting = treats_comes types shown v treatment tasks s kinds ready fits.0 fits.1 waiting
  frame_comes types shown f s kinds ready deep fits waiting =
      let own = procedure_of s.activations in
      inside_comes p s (frame_next named types p.bodies f s) waiting
      (frame_fine (seen_now p s) (tables_in (seen_now p s) (seen_fits p well own)) p.bodies (sees p own) types (shown ∙ sym (types_seen p own)) f refl refl s kinds ready deep fits)
      (step_keeps types p.bodies f s (λ treats. absurd (cc)) refl)

  running_comes : (types : List TypeDefinition) → map type_form types ≡ p.types → (k : List (Frame Value)) (s : State) (kinds : List OperandKind) → s.control ≡ k → Ready (seen_now p s) kinds s → Fits (seen_now p s) (cells_of s.heap) kinds k → Waiting p (cells_of s.heap) (procedure_of s.activations) k (older s.activations) → ComesTo (Ends p) (Typed p) (running_next named types p.bodies k s)
  running_comes types shown [] s kinds is ready fits waiting = tt
  running_comes types shown (f ∷ k) s kinds is ready fits waiting =
      let same : depth s.control ≡ depth (f ∷ k) = ap depth is in
      frame_comes types shown f (at k s) kinds (ready_at (seen_now p s) kinds s k ready (omega (arith, ready.deep, same, depth_behind f k))) (omega (arith, ready.deep, same)) fits waiting

  -- A jump comes to the end of a call: an exit never does (5.7).
  return_comes : (mode : Mode) (actuals : List ActualForm) (references : List Value) (s : State) → Goes (seen_now p s) (cells_of s.heap) mode (frame.Returns actuals references ∷ s.control) → Jumps (seen_now p s) mode s → WaitFor actuals references s.activations s → ComesTo (Ends p) (Typed p) (pass_next named false (landing {V = Value} mode (frame.Returns actuals references)) mode (left_by named mode actuals references s))
  return_comes Running actuals references s goes jumps waiting = absurd goes
  return_comes (Raising e) actuals references s goes jumps waiting =
      let filled = same_filled p (procedure_of s.activations) (cells_of s.heap) jumps.filled in
      resumed_jumps actuals references e s.activations s filled jumps.jumps jumps.deep waiting
  return_comes Exiting actuals references s goes jumps waiting = absurd goes.0
  return_comes Returning actuals references s goes jumps waiting =
      returned_runs actuals references s.activations [] (record s { mode = Running }) (same_filled p (procedure_of s.activations) (cells_of s.heap) jumps.filled) jumps.active refl jumps.deep waiting

  passing_comes : (mode : Mode) (f : Frame Value) (s : State) → Goes (seen_now p s) (cells_of s.heap) mode (f ∷ s.control) → Jumps (seen_now p s) mode s → depth (f ∷ s.control) ≤ length s.masters → Waiting p (cells_of s.heap) (procedure_of s.activations) (f ∷ s.control) (older s.activations) → ComesTo (Ends p) (Typed p) (pass_next named (is_master f) (landing mode f) mode (unwound named mode f s))
  passing_comes mode (frame.Returns actuals references) s goes jumps deep waiting = return_comes mode actuals references s goes jumps waiting
  passing_comes mode f s goes jumps deep waiting =
      let own = procedure_of s.activations in
      inside_comes p s (pass_next named (is_master f) (landing mode f) mode s) waiting
      (passing_fine (seen_now p s) mode f s refl goes jumps deep) (pass_keeps (is_master f) (landing mode f) mode s)

  jump_comes : (mode : Mode) (k : List (Frame Value)) (s : State) → s.control ≡ k → Goes (seen_now p s) (cells_of s.heap) mode k → Jumps (seen_now p s) mode s → Waiting p (cells_of s.heap) (procedure_of s.activations) k (older s.activations) → ComesTo (Ends p) (Typed p) (jump_next named mode k s)
  jump_comes mode [] s is goes jumps waiting = ends_inside p (end_of mode) (ends_fine (seen_now p s) (cells_of s.heap) mode goes)
  jump_comes mode (f ∷ k) s is goes jumps waiting =
      let same : depth s.control ≡ depth (f ∷ k) = ap depth is in
      passing_comes mode f (at k s) goes (record { filled = jumps.filled; active = jumps.active; jumps = jumps.jumps; deep = omega (arith, jumps.deep, same, depth_behind f k) }) (omega (arith, jumps.deep, same)) waiting

  -- What comes next in a mode.
  mode_comes : (types : List TypeDefinition) (mode : Mode) (s : State) → Goes (seen_now p s) (cells_of s.heap) mode s.control → Jumps (seen_now p s) mode s → Waiting p (cells_of s.heap) (procedure_of s.activations) s.control (older s.activations) → ComesTo (Ends p) (Typed p) (mode_next named types p.bodies mode s)
  mode_comes types Running s goes jumps waiting = absurd goes
  mode_comes types (Raising e) s goes jumps waiting = jump_comes (Raising e) s.control s refl goes jumps waiting
  mode_comes types Exiting s goes jumps waiting = jump_comes Exiting s.control s refl goes jumps waiting
  mode_comes types Returning s goes jumps waiting = jump_comes Returning s.control s refl goes jumps waiting

  inside_next : (types : List TypeDefinition) → map type_form types ≡ p.types → (s : State) → TypedIn (seen_now p s) s → Waiting p (cells_of s.heap) (procedure_of s.activations) s.control (older s.activations) → ComesTo (Ends p) (Typed p) (next types p.bodies s)
  unfolding next
  inside_next types shown s (running kinds ready fits) waiting =
      subst (λ (mode : Mode). ComesTo (Ends p) (Typed p) (mode_next named types p.bodies mode s)) (sym ready.runs) (running_comes types shown s.control s kinds refl ready fits waiting)
  inside_next types shown s (on_jump mode jumps goes) waiting =
      subst (λ (now : Mode). ComesTo (Ends p) (Typed p) (mode_next named types p.bodies now s)) (sym jumps.jumps) (mode_comes types mode s goes jumps waiting)
  inside_next types shown s (operated kinds ready ended) waiting =
      subst (λ (mode : Mode). ComesTo (Ends p) (Typed p) (mode_next named types p.bodies mode s)) (sym ready.runs) (operated_comes types shown kinds s.control s ended refl ready waiting)
  inside_next types shown s (out_of_operation e kinds jumps ended) waiting =
      subst (λ (now : Mode). ComesTo (Ends p) (Typed p) (mode_next named types p.bodies now s)) (sym jumps.jumps) (thrown_comes types shown e kinds s.control s ended refl jumps waiting)

  -- A typed state's next step is fine.
  pub next_fine : (types : List TypeDefinition) → map type_form types ≡ p.types → (s : State) → Typed p s → ComesTo (Ends p) (Typed p) (next types p.bodies s)
  next_fine types shown s typed = inside_next types shown s typed.inside typed.waiting

-- The running body's variables hold values of their kinds, whether or not a jump is on its way.
active_in : (own : ProgramForm) (s : State) → TypedIn own s → (kinds : List OperandKind) × IsActive own.types (cells_of s.heap) own.variables kinds s.activations
active_in own s (running kinds ready fits) = (kinds, ready.active)
active_in own s (on_jump mode jumps goes) = ([], jumps.active)
active_in own s (operated kinds ready ended) = (kinds, ready.active)
active_in own s (out_of_operation e kinds jumps ended) = ([], jumps.active)

-- What is given back where an activation waits for one of both.
given_by : (p : ProgramForm) (cells : Cells) (a c : Activation Value) (actuals : List ActualForm) (references : List Value) (k : List (Frame Value)) → AreHeld (seen_in a.procedure p).types cells (seen_in a.procedure p).variables a.places → WaitsBy (seen_in c.procedure p) cells (kinds_in p a.procedure) actuals references k c → GiveBack (seen_in c.procedure p).types cells (seen_in c.procedure p).variables actuals a.places
given_by p cells a c actuals references k held (for_call waits) = comes_back p cells a c actuals references k held waits
given_by p cells a c actuals references k held (for_operation waits) =
    subst (λ (given : List ActualForm). GiveBack (seen_in c.procedure p).types cells (seen_in c.procedure p).variables given a.places) (sym waits.no_actuals) tt

none_stored : (kinds : List VariableKind) → stored_kinds kinds [] ≡ []
none_stored [] = refl
none_stored (kind ∷ kinds) = refl

referred_by : (own : ProgramForm) (cells : Cells) (kinds : List VariableKind) (actuals : List ActualForm) (references : List Value) (k : List (Frame Value)) (c : Activation Value) → WaitsBy own cells kinds actuals references k c → AreReferences own.types cells (stored_kinds kinds actuals) references
referred_by own cells kinds actuals references k c (for_call waits) = waits.referred
referred_by own cells kinds actuals references k c (for_operation waits) =
    subst (λ (given : List ActualForm). AreReferences own.types cells (stored_kinds kinds given) references) (sym waits.no_actuals)
    (subst (λ (rs : List Value). AreReferences own.types cells (stored_kinds kinds []) rs) (sym waits.no_references)
    (subst (λ (ks : List VariableKind). AreReferences own.types cells ks []) (sym (none_stored kinds)) tt))

-- Wherever a call ends next, its caller waits for it.
caller_waits : (p : ProgramForm) (s : State) (actuals : List ActualForm) (references : List Value) (outer : List (Frame Value)) (a c : Activation Value) (suspended : List (Activation Value)) → Typed p s → s.control ≡ frame.Returns actuals references ∷ outer → s.activations ≡ a ∷ c ∷ suspended → WaitsHere p (cells_of s.heap) a.procedure actuals references outer (c ∷ suspended)
caller_waits p s actuals references outer a c suspended typed at_return are =
    let cells = cells_of s.heap in
    let behind : Waiting p cells (procedure_of s.activations) (frame.Returns actuals references ∷ outer) (older s.activations) =
    subst (λ (k : List (Frame Value)). Waiting p cells (procedure_of s.activations) k (older s.activations)) at_return typed.waiting in
    subst (λ (acts : List (Activation Value)). Waiting p cells (procedure_of acts) (frame.Returns actuals references ∷ outer) (older acts)) are behind

-- Each value that it is to get back is a scalar or an access value, and the variable that gets it is of its type.
pub typed_comes_back : (p : ProgramForm) (s : State) (actuals : List ActualForm) (references : List Value) (outer : List (Frame Value)) (a c : Activation Value) (suspended : List (Activation Value)) → Typed p s → s.control ≡ frame.Returns actuals references ∷ outer → s.activations ≡ a ∷ c ∷ suspended → GiveBack (seen_in c.procedure p).types (cells_of s.heap) (seen_in c.procedure p).variables actuals a.places
typed_comes_back p s actuals references outer a c suspended typed at_return are =
    let cells = cells_of s.heap in
    let active = active_in (seen_now p s) s typed.inside in
    let runs : IsActive (seen_in a.procedure p).types cells (seen_in a.procedure p).variables active.0 (a ∷ c ∷ suspended) =
    subst (λ (acts : List (Activation Value)). IsActive (seen_in (procedure_of acts) p).types cells (seen_in (procedure_of acts) p).variables active.0 acts) are active.1 in
    let waits = caller_waits p s actuals references outer a c suspended typed at_return are in
    given_by p cells a c actuals references outer runs.0 waits.0

-- Each component that is to get something back is there, and is of the kind of the formal parameter that gives it.
pub typed_referred : (p : ProgramForm) (s : State) (actuals : List ActualForm) (references : List Value) (outer : List (Frame Value)) (a c : Activation Value) (suspended : List (Activation Value)) → Typed p s → s.control ≡ frame.Returns actuals references ∷ outer → s.activations ≡ a ∷ c ∷ suspended → AreReferences (seen_in c.procedure p).types (cells_of s.heap) (stored_kinds (kinds_in p a.procedure) actuals) references
typed_referred p s actuals references outer a c suspended typed at_return are =
    let waits = caller_waits p s actuals references outer a c suspended typed at_return are in
    referred_by (seen_in c.procedure p) (cells_of s.heap) (kinds_in p a.procedure) actuals references outer c waits.0
