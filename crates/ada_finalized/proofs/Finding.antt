-- Steps while the target and the source of an assignment are found, and the one at which they are known.

use Rattle.std.proofs.Common.{◌≡◌, ℕ, ◌==◌, ◌&&◌, Bool, true, false, List, [], ◌∷◌, map, Option, Some, None, refl, sym, ap, ◌∙◌, subst, arith}
use Rattle.std.specs.List.{slice_get}
use Rattle.ada_program.specs.declared.program.Exception.{Exception}
use Rattle.ada_program.specs.declared.program.Exception.TheVariants.{ConstraintError}
use Rattle.ada_program.specs.declared.program.TypeDefinition.{TypeDefinition}
use Rattle.ada_program.specs.Controlled.{shapes_of}
use Rattle.ada_program.specs.ProgramForm.{BodyForm}
use Rattle.ada_program.specs.Typed.{width_of}
use Rattle.ada_parts.specs.declared.tasks.Direction.TheVariants.{PartsFirst, WholeFirst}
use Rattle.ada_meaning.specs.declared.state.Id.{Id}
use Rattle.ada_meaning.specs.declared.state.Place.{Place}
use Rattle.ada_meaning.specs.declared.state.Value.{Value}
use Rattle.ada_meaning.specs.declared.state.Value.TheVariants.{Null, Names, Scalar, Part as Inside}
use Rattle.ada_meaning.specs.declared.state.Mode.TheVariants.{Running, Raising}
use Rattle.ada_meaning.specs.declared.event.Birth.TheVariants.{Adjustment}
use Rattle.ada_meaning.specs.declared.event.Cause.TheVariants.{Assigning}
use Rattle.ada_meaning.specs.Event.{Followed, Quiet}
use Rattle.ada_meaning.specs.Frame.{Frame, begins, ends}
use Rattle.ada_meaning.specs.Frame as frame
use Rattle.ada_meaning.specs.State.{Activation}
use Rattle.ada_meaning.specs.Heap.{Cell, Found, on_null, on_gone, on_other, finds}
use Rattle.ada_meaning.specs.Step.{at, held, operands_of, operands, computed, popped, newest, first_or, older, reading, component_next, follow_next, path_next, selected, place_in, record_in, referred_next, refers_next, assigning, assigns_next, record_tasks, frame_next, jump_next}
use Rattle.ada_meaning.specs.Named.{State, Next, named, look, refer, same, whole}
use Rattle.ada_meaning.specs.Run.{Event}
use Rattle.ada_meaning.proofs.Activations.{shape}
use Rattle.ada_meaning.proofs.Kept.{frame_keeps}
use Rattle.ada_finalized.proofs.Treated.{record_first}
use Rattle.ada_finalized.proofs.Ranks.{Heap, bare}
use Rattle.ada_finalized.proofs.Doings.{name, Doing, Treating, doings, rest, same_doings, Fewer, fewer_treating, alike}
use Rattle.ada_finalized.proofs.Stacks.{Acts, Control, code, Stack, to_copy, storing_then, stack_acts}
use Rattle.ada_finalized.proofs.Leading.{Leading, leading_map, leading_both}
use Rattle.ada_finalized.proofs.Made.{Mild}
use Rattle.ada_finalized.proofs.Invariant.{Exists, Inv, Referred, Then, source_next, assigns_next as assigned_next, Finding, seeks, follows, reaches, assigns, Passing, passes_assigns, passes_refers, passes_in, AssignsThen, runs, finding, passing, ending, GoesOn}
use Rattle.ada_finalized.proofs.Going.{kept_goes, looked}
use Rattle.ada_finalized.proofs.Created.{assigning_goes}
use Rattle.ada_finalized.proofs.Coding.{Leads, same_older, keeps_leads}

-- Operands that come and go.
older_computed : (v : Value) (s : State) → older (operands (computed v s)) ≡ operands s
older_computed v s = go s.activations
  where
    go : (acts : List (Activation Value)) → older (operands (computed v (record s { activations = acts }))) ≡ operands (record s { activations = acts })
    go [] = refl
    go (a ∷ suspended) = refl

operands_popped : (s : State) → operands (popped s) ≡ older (operands s)
operands_popped s = go s.activations
  where
    go : (acts : List (Activation Value)) → operands (popped (record s { activations = acts })) ≡ older (operands (record s { activations = acts }))
    go [] = refl
    go (a ∷ suspended) = refl

first_computed : (xs : Heap) (v : Value) (s : State) → Referred xs v → Referred xs (first_or Null (operands (computed v s)))
first_computed xs v s h = go s.activations
  where
    go : (acts : List (Activation Value)) → Referred xs (first_or Null (operands (computed v (record s { activations = acts }))))
    go [] = tt
    go (a ∷ suspended) = h

-- What refers to a record exists, since the record has been looked for.
referred : (xs : Heap) (v : Value) (place : Place) (cell : Cell Value) → look xs v ≡ finds cell → Referred xs (refer v place)
referred xs Null place cell found = tt
referred xs (Names o) place cell found = (cell, found)
referred xs (Scalar v) place cell found = tt
referred xs (Inside o base) place cell found = absurd (cc found)

-- A reference is there: what is behind it comes next.
then_reached : (xs : Heap) (pending after : List Value) (k : Control) → older after ≡ pending → Referred xs (first_or Null after) → Then xs pending k → Finding xs after k
then_reached xs pending after _ left h (source_next source t k) = seeks source (frame.Assigns t ∷ k) (assigned_next t k h)
then_reached xs pending after _ left h (assigned_next t k target) =
    assigns t k (subst (λ (ops : List Value). Referred xs (first_or Null ops)) (sym left) target)

-- An exception passes it.
then_passes : (xs : Heap) (pending : List Value) (k : Control) → Then xs pending k → Passing k
then_passes xs pending _ (source_next source t k) = passes_refers source (frame.Assigns t ∷ k) (passes_assigns t k)
then_passes xs pending _ (assigned_next t k target) = passes_assigns t k

-- A record is still to be found, or an exception is raised.
data Seeks (s : State) (e : Event) (u : State) : Type 0 where
  goes : Mild e → u.mode ≡ Running → u.heap ≡ s.heap → Finding s.heap (operands u) u.control → rest u.control ≡ rest s.control → Seeks s e u
  raises : (x : Exception) → Mild e → u.mode ≡ Raising x → u.heap ≡ s.heap → Passing u.control → rest u.control ≡ rest s.control → Seeks s e u

module _ (s : State) where
  -- The path to it.
  module _ (place : Place) (t : ℕ) (behind : Control) (left : rest behind ≡ rest s.control) where
    abbrev to_reach : Control
    to_reach = frame.RefersIn place t ∷ behind

    reached : (e : Event) (v : Value) (u : State) → Mild e → u.mode ≡ Running → u.heap ≡ s.heap → Then s.heap (operands u) behind → Seeks s e (at to_reach (computed v u))
    reached e v u mild on heap h =
        goes mild on heap (reaches place t behind (subst (λ (ops : List Value). Then s.heap ops behind) (sym (older_computed v u)) h)) left

    reading_seeks : (e : Event) (cs : List ℕ) (v : Value) (u : State) → Mild e → u.mode ≡ Running → u.heap ≡ s.heap → Then s.heap (operands u) behind → Seeks s e (reading named cs v (at to_reach u))
    reading_seeks e [] v u mild on heap h = reached e v u mild on heap h
    reading_seeks e (c ∷ cs) v u mild on heap h =
        goes mild on heap (follows (c ∷ cs) place t behind (subst (λ (ops : List Value). Then s.heap ops behind) (sym (older_computed v u)) h)) left

    component_seeks :
        (v : Value) (cs : List ℕ) (found : Option Value) (u : State) → u.mode ≡ Running → u.heap ≡ s.heap → Then s.heap (operands u) behind
        → Leading (Seeks s) (component_next named v cs found (at to_reach u))
    component_seeks v cs None u on heap h = tt
    component_seeks v cs (Some w) u on heap h = reading_seeks (Followed v) cs w u tt on heap h

    follow_seeks :
        (v : Value) (c : ℕ) (cs : List ℕ) (found : Found (Cell Value)) (u : State) → u.mode ≡ Running → u.heap ≡ s.heap → Then s.heap (operands u) behind
        → Leading (Seeks s) (follow_next named v c cs found (at to_reach u))
    follow_seeks v c cs on_null u on heap h = raises ConstraintError tt refl heap (passes_in place t behind (then_passes s.heap (operands u) behind h)) left
    follow_seeks v c cs on_gone u on heap h = tt
    follow_seeks v c cs on_other u on heap h = tt
    follow_seeks v c cs (finds cell) u on heap h = component_seeks v cs (slice_get cell.values c) u on heap h

    path_seeks : (cs : List ℕ) (v : Value) (u : State) → u.mode ≡ Running → u.heap ≡ s.heap → Then s.heap (operands u) behind → Leading (Seeks s) (path_next named cs v (at to_reach u))
    path_seeks [] v u on heap h = reached Quiet v u tt on heap h
    path_seeks (c ∷ cs) v u on heap h = follow_seeks v c cs (look u.heap v) u on heap h

  -- The record itself.
  module _ (behind : Control) (left : rest behind ≡ rest s.control) where
    referred_seeks :
        (v : Value) (place : Place) (found : Option (List Value)) (u : State) → u.mode ≡ Running → u.heap ≡ s.heap → Referred s.heap (refer v place)
        → Then s.heap (operands u) behind → Leading (Seeks s) (referred_next named v place found (at behind u))
    referred_seeks v place None u on heap r h = tt
    referred_seeks v place (Some vs) u on heap r h =
        goes tt on heap
        (then_reached s.heap (operands u) (operands (computed (refer v place) u)) behind (older_computed (refer v place) u)
        (first_computed s.heap (refer v place) u r) h) left

    refers_seeks :
        (v : Value) (place : Place) (width : ℕ) (found : Found (Cell Value)) (u : State) → look s.heap v ≡ found → u.mode ≡ Running → u.heap ≡ s.heap
        → Then s.heap (operands u) behind → Leading (Seeks s) (refers_next named v place width found (at behind u))
    refers_seeks v place width on_null u is on heap h = raises ConstraintError tt refl heap (then_passes s.heap (operands u) behind h) left
    refers_seeks v place width on_gone u is on heap h = tt
    refers_seeks v place width on_other u is on heap h = tt
    refers_seeks v place width (finds cell) u is on heap h =
        referred_seeks v place (record_in cell.values place.component width) u on heap (referred s.heap v place cell is) h

-- Code is behind that, whatever the operands are.
assigns_acts : (types : List TypeDefinition) (xs : Heap) (acts bs : Acts) (k : Control) → older acts ≡ older bs → AssignsThen types xs acts k → AssignsThen types xs bs k
assigns_acts types xs acts bs [] old h = absurd h
assigns_acts types xs acts bs (frame.Assigns t ∷ k) old h = stack_acts types xs acts bs k old h
assigns_acts types xs acts bs (f ∷ k) old h = absurd h

module _ (types : List TypeDefinition) (past : List Event) (s : State) (inv : Inv types past s.heap s.next (doings s.control)) where
  module _ (h : AssignsThen types s.heap s.activations (rest s.control)) where
    seeks_goes : (e : Event) (u : State) → Seeks s e u → shape u.activations ≡ shape s.activations → GoesOn types past s e u
    seeks_goes e u (goes mild runs_on heap f left) old =
        kept_goes types past s e u inv mild (ap (map bare) heap) (same_doings u.control s.control left)
        (finding runs_on (subst (λ (xs : Heap). Finding xs (operands u) u.control) (sym heap) f)
        (subst (AssignsThen types s.heap u.activations) (sym left) (assigns_acts types s.heap s.activations u.activations (rest s.control) (same_older s.activations u.activations old) h)))
    seeks_goes e u (raises x mild raising heap p left) old =
        kept_goes types past s e u inv mild (ap (map bare) heap) (same_doings u.control s.control left)
        (passing x raising p (subst (AssignsThen types s.heap u.activations) (sym left) (assigns_acts types s.heap s.activations u.activations (rest s.control) (same_older s.activations u.activations old) h)))

    seeks_lead : (n : Next) → Leading (Seeks s) n → Leading (λ e u. shape u.activations ≡ shape s.activations) n → Leads types past s n
    seeks_lead n a b =
        leading_map (λ e u. Seeks s e u × (shape u.activations ≡ shape s.activations)) (GoesOn types past s) n (λ e u m. seeks_goes e u m.0 m.1)
        (leading_both (Seeks s) (λ e u. shape u.activations ≡ shape s.activations) n a b)

  -- Both are known.
  module _ (running : s.mode ≡ Running) (t : ℕ) (k : Control) (is : s.control ≡ frame.Assigns t ∷ k) (h : Stack types s.heap code s.activations k) (pending : List Value) (a : Activation Value) (suspended : List (Activation Value)) (acts : s.activations ≡ a ∷ suspended) where
    -- The state with the rest of the operands.
    abbrev known : State
    known = record s { control = k; activations = record a { operands = pending } ∷ suspended }

    stack_then : (vs : List Value) → Stack types s.heap code (record a { operands = vs } ∷ suspended) k
    stack_then vs = stack_acts types s.heap s.activations (record a { operands = vs } ∷ suspended) k (ap older acts) h

    -- They are one record.
    onto_itself : GoesOn types past s Quiet known
    onto_itself = kept_goes types past s Quiet known inv tt refl (sym (ap doings is)) (runs (stack_then pending))

    target_exists : (o : Id) (cell : Cell Value) → look s.heap (Names o) ≡ finds cell → Exists s.heap (name o.0)
    target_exists o cell found = let z = looked types s.heap inv.sane o.0 cell found in (o.0, (refl, (z.object, (z.at_place, z.stage))))

    other_goes :
        (o source : Id) (place other : Place) (cell : Cell Value) → look s.heap (Names o) ≡ finds cell
        → GoesOn types past s Quiet (assigning named types t (Inside o place) (Inside source other) known)
    other_goes o source place other cell found =
        let shapes = shapes_of types in
        let n = s.next in
        let cleared = record_tasks types t WholeFirst place.part in
        let copied = record_tasks types t PartsFirst place.part in
        let x = record_first types WholeFirst t place.part in
        let y = record_first types PartsFirst t place.part in
        let width = width_of types t in
        assigning_goes types past s (assigning named types t (Inside o place) (Inside source other) known) o.0 t place.part inv (target_exists o cell found) refl refl
        (fewer_treating (name o.0) (ends (Assigning n)) cleared (Treating (name o.0) (begins (Adjustment n) []) copied ∷ doings s.control)
        (frame.Copies other.component t ∷ storing_then o.0 n place.component width copied k)
        (fewer_treating (name o.0) (begins (Adjustment n) []) copied (doings s.control) k (subst (λ (ds : List Doing). Fewer ds (doings k)) (sym (ap doings is)) alike)))
        (ending running (to_copy o.0 n other.component t place.component width source cleared copied k refl
        (λ m. let b = x.each m in let c = y.each m in omega (arith, b, c)) (λ m. let c = y.each m in let d = y.once m in omega (arith, c, d)) refl (stack_then (Names source ∷ pending))))

    by_same :
        (is_same : Bool) (o source : Id) (place other : Place) (cell : Cell Value) → look s.heap (Names o) ≡ finds cell
        → Leads types past s (assigns_next named types t (Inside o place) (Inside source other) (Some is_same) known)
    by_same true o source place other cell found = onto_itself
    by_same false o source place other cell found = other_goes o source place other cell found

    both_known : (target source : Value) → Referred s.heap target → Leads types past s (assigns_next named types t target source (same target source) known)
    both_known Null source r = tt
    both_known (Names o) source r = tt
    both_known (Scalar v) source r = tt
    both_known (Inside o place) Null r = tt
    both_known (Inside o place) (Names p) r = tt
    both_known (Inside o place) (Scalar v) r = tt
    both_known (Inside o place) (Inside p other) (cell, found) = by_same ((o.0 == p.0) && (place.part == other.part)) o p place other cell found

  assigns_lead :
      (running : s.mode ≡ Running) (bodies : List BodyForm) (t : ℕ) (k : Control) → s.control ≡ frame.Assigns t ∷ k → Stack types s.heap code s.activations k
      → (acts : List (Activation Value)) → s.activations ≡ acts → Referred s.heap (first_or Null (older (operands_of acts)))
      → Leads types past s (frame_next named types bodies (frame.Assigns t) (at k (record s { activations = acts })))
  assigns_lead running bodies t k is h [] same_acts r = tt
  assigns_lead running bodies t k is h (a ∷ suspended) same_acts r =
      both_known running t k is h (older (older a.operands)) a suspended same_acts (first_or Null (older a.operands)) (first_or Null a.operands) r

  pub finding_leads :
      (bodies : List BodyForm) (f : Frame Value) (k : Control) → s.mode ≡ Running → s.control ≡ f ∷ k → Finding s.heap (operands s) (f ∷ k)
      → AssignsThen types s.heap s.activations (rest (f ∷ k)) → Leads types past s (frame_next named types bodies f (at k s))
  finding_leads bodies _ _ running is (seeks p behind h) after =
      let v = held named s p.object.root in
      seeks_lead (subst (λ (c : Control). AssignsThen types s.heap s.activations (rest c)) (sym is) after) (frame_next named types bodies (frame.Refers p) (at behind s))
      (path_seeks s (place_in named v p.object.selectors p) p.record_type behind (sym (ap rest is)) (selected named v p.object.selectors) (whole v) s running refl h)
      (keeps_leads (shape s.activations) (frame_next named types bodies (frame.Refers p) (at behind s)) (frame_keeps types bodies (frame.Refers p) (at behind s) tt refl refl))
  finding_leads bodies _ _ running is (follows cs place t behind h) after =
      let j = frame.RefersIn place t ∷ behind in
      seeks_lead (subst (λ (c : Control). AssignsThen types s.heap s.activations (rest c)) (sym is) after) (frame_next named types bodies (frame.Follows cs) (at j s))
      (path_seeks s place t behind (sym (ap rest is)) cs (newest named s) (popped s) running refl (subst (λ (ops : List Value). Then s.heap ops behind) (sym (operands_popped s)) h))
      (keeps_leads (shape s.activations) (frame_next named types bodies (frame.Follows cs) (at j s)) (frame_keeps types bodies (frame.Follows cs) (at j s) tt refl refl))
  finding_leads bodies _ _ running is (reaches place t behind h) after =
      seeks_lead (subst (λ (c : Control). AssignsThen types s.heap s.activations (rest c)) (sym is) after) (frame_next named types bodies (frame.RefersIn place t) (at behind s))
      (refers_seeks s behind (sym (ap rest is)) (newest named s) place (width_of types t) (look s.heap (newest named s)) (popped s) refl running refl
      (subst (λ (ops : List Value). Then s.heap ops behind) (sym (operands_popped s)) h))
      (keeps_leads (shape s.activations) (frame_next named types bodies (frame.RefersIn place t) (at behind s)) (frame_keeps types bodies (frame.RefersIn place t) (at behind s) tt refl refl))
  finding_leads bodies _ _ running is (assigns t k r) after = assigns_lead running bodies t k is after s.activations refl r

  -- An exception passes on.
  passes_on : (x : Exception) (f : Frame Value) (k : Control) → s.mode ≡ Raising x → s.control ≡ f ∷ k → rest (f ∷ k) ≡ rest k → Passing k → AssignsThen types s.heap s.activations (rest (f ∷ k)) → GoesOn types past s Quiet (at k s)
  passes_on x f k raising is left p after =
      kept_goes types past s Quiet (at k s) inv tt refl (same_doings k (f ∷ k) (sym left) ∙ sym (ap doings is))
      (passing x raising p (subst (AssignsThen types s.heap s.activations) left after))

  pub passing_leads : (x : Exception) (k : Control) → s.mode ≡ Raising x → s.control ≡ k → Passing k → AssignsThen types s.heap s.activations (rest k) → Leads types past s (jump_next named (Raising x) k s)
  passing_leads x _ raising is (passes_assigns t k) after = kept_goes types past s Quiet (at k s) inv tt refl (sym (ap doings is)) (runs after)
  passing_leads x _ raising is (passes_refers p k h) after = passes_on x (frame.Refers p) k raising is refl h after
  passing_leads x _ raising is (passes_in place t k h) after = passes_on x (frame.RefersIn place t) k raising is refl h after
