-- While the records of an assignment are found, its target lies in the part that the operation is called for, if an operation waits for the running body, or in an
-- object of which none does; and what is left to do behind the assignment assigns so.

use Rattle.std.proofs.Common.{◌≡◌, ℕ, Bool, true, false, List, [], ◌∷◌, Option, Some, None, refl, sym, subst}
use Rattle.std.specs.List.{slice_get}
use Rattle.ada_program.specs.declared.program.Exception.{Exception}
use Rattle.ada_program.specs.declared.program.Exception.TheVariants.{ConstraintError}
use Rattle.ada_program.specs.declared.program.TypeDefinition.{TypeDefinition}
use Rattle.ada_program.specs.Form.{RecordPathForm, StmtsForm}
use Rattle.ada_program.specs.Typed.{width_of}
use Rattle.ada_parts.specs.declared.tasks.Direction.TheVariants.{PartsFirst, WholeFirst}
use Rattle.ada_meaning.specs.declared.event.Birth.TheVariants.{Adjustment}
use Rattle.ada_meaning.specs.declared.event.Cause.TheVariants.{Assigning}
use Rattle.ada_meaning.specs.declared.state.Mode.TheVariants.{Running, Raising}
use Rattle.ada_meaning.specs.declared.state.Place.{Place}
use Rattle.ada_meaning.specs.declared.state.Value.{Value}
use Rattle.ada_meaning.specs.declared.state.Value.TheVariants.{Null, Names, Scalar, Part as Inside}
use Rattle.ada_meaning.specs.Frame.{Frame}
use Rattle.ada_meaning.specs.Frame as frame
use Rattle.ada_meaning.specs.Heap.{Cell, Found, on_null, on_gone, on_other, finds}
use Rattle.ada_meaning.specs.State.{Activation}
use Rattle.ada_meaning.specs.Step.{has_parts, record_tasks, first_or, older, operands, at, computed, popped, reading, component_next, follow_next, path_next, record_in, referred_next, refers_next, assigns_next}
use Rattle.ada_meaning.specs.Named.{State, Next, named, look, refer, same}
use Rattle.ada_typed.proofs.Kept.{Each}
use Rattle.ada_assigned.proofs.Keeping.{Told, behind_body, given_behind, ApartBeside, Assignable, LiesSafely, Keeps}
use Rattle.ada_assigned.proofs.Evaluations.{treating_keeps}

-- Operands that come and go.
older_computed : (v : Value) (s : State) → older (operands (computed v s)) ≡ operands s
older_computed v s = go s.activations
  where
    go : (acts : List (Activation Value)) → older (operands (computed v (record s { activations = acts }))) ≡ operands (record s { activations = acts })
    go [] = refl
    go (a ∷ suspended) = refl

pub operands_popped : (s : State) → operands (popped s) ≡ older (operands s)
operands_popped s = go s.activations
  where
    go : (acts : List (Activation Value)) → operands (popped (record s { activations = acts })) ≡ older (operands (record s { activations = acts }))
    go [] = refl
    go (a ∷ suspended) = refl

-- The newest one is what was computed, if a body runs.
first_computed : (P : Value → Type 0) (v : Value) (s : State) → P Null → P v → P (first_or Null (operands (computed v s)))
first_computed P v s none h = go s.activations
  where
    go : (acts : List (Activation Value)) → P (first_or Null (operands (computed v (record s { activations = acts }))))
    go [] = none
    go (a ∷ suspended) = h

module _ (types : List TypeDefinition) (told : Told) where
  -- A reference to a record of this type lies in the part that is operated on, or in another object: all that is to be adjusted there does. It lies in another
  -- one, if records of the type are assigned to inside of no formal parameter.
  abbrev pub Operated : (behind : List (Frame Value)) → (t : ℕ) → Value → Type 0
  Operated k t Null = Unit {0}
  Operated k t (Names o) = Unit {0}
  Operated k t (Scalar v) = Unit {0}
  Operated k t (Inside o place) = LiesSafely types k (Names o) (record_tasks types t PartsFirst place.part) × ApartBeside told k t (Names o)

  -- What is left to do behind the frame that takes a value to a reference: the target is found so, or it was.
  pub data Reaches (v : Value) (pending : List Value) (place : Place) : List (Frame Value) → Type 0 where
    to_target : (q : RecordPathForm) (t : ℕ) (fs : StmtsForm) (k : List (Frame Value)) → Operated (behind_body k) t (refer v place) → Keeps types told (frame.Does fs ∷ k)
        → Reaches v pending place (frame.Refers q ∷ frame.Assigns t ∷ frame.Does fs ∷ k)
    to_source : (t : ℕ) (fs : StmtsForm) (k : List (Frame Value)) → Operated (behind_body k) t (first_or Null pending) → Keeps types told (frame.Does fs ∷ k)
        → Reaches v pending place (frame.Assigns t ∷ frame.Does fs ∷ k)

  -- With these operands.
  pub data Sought (pending : List Value) : List (Frame Value) → Type 0 where
    target_next :
        (p q : RecordPathForm) (fs : StmtsForm) (k : List (Frame Value)) → has_parts types p.record_type ≡ true → (Assignable types told (given_behind k) (behind_body k)).assigned p
        → Keeps types told (frame.Does fs ∷ k) → Sought pending (frame.Refers p ∷ frame.Refers q ∷ frame.Assigns p.record_type ∷ frame.Does fs ∷ k)
    source_next : (q : RecordPathForm) (t : ℕ) (fs : StmtsForm) (k : List (Frame Value)) → Operated (behind_body k) t (first_or Null pending) → Keeps types told (frame.Does fs ∷ k)
        → Sought pending (frame.Refers q ∷ frame.Assigns t ∷ frame.Does fs ∷ k)
    follows : (cs : List ℕ) (place : Place) (u : ℕ) (behind : List (Frame Value)) → ((v : Value) → Reaches v (older pending) place behind)
        → Sought pending (frame.Follows cs ∷ frame.RefersIn place u ∷ behind)
    reaches : (place : Place) (u : ℕ) (behind : List (Frame Value)) → Reaches (first_or Null pending) (older pending) place behind
        → Sought pending (frame.RefersIn place u ∷ behind)
    both_known : (t : ℕ) (fs : StmtsForm) (k : List (Frame Value)) → Operated (behind_body k) t (first_or Null (older pending)) → Keeps types told (frame.Does fs ∷ k)
        → Sought pending (frame.Assigns t ∷ frame.Does fs ∷ k)

  -- An exception passes what is left of that.
  pub data Passes : List (Frame Value) → Type 0 where
    by_assigns : (t : ℕ) (k : List (Frame Value)) → Keeps types told k → Passes (frame.Assigns t ∷ k)
    by_refers : (p : RecordPathForm) (k : List (Frame Value)) → Passes k → Passes (frame.Refers p ∷ k)
    by_reference : (place : Place) (u : ℕ) (k : List (Frame Value)) → Passes k → Passes (frame.RefersIn place u ∷ k)

  -- A state: no assignment has begun to find its records, or one does, or an exception comes out of that.
  pub data Stands (s : State) : Type 0 where
    keeps : Keeps types told s.control → Stands s
    seeks : s.mode ≡ Running → Sought (operands s) s.control → Stands s
    fails : (e : Exception) → s.mode ≡ Raising e → Passes s.control → Stands s

  -- So it is whatever comes next.
  abbrev pub AllStand : Next → Type 0
  AllStand = Each Stands

  reaches_passes : (v : Value) (pending : List Value) (place : Place) (k : List (Frame Value)) → Reaches v pending place k → Passes k
  reaches_passes v pending place _ (to_target q t fs k own h) = by_refers q (frame.Assigns t ∷ frame.Does fs ∷ k) (by_assigns t (frame.Does fs ∷ k) h)
  reaches_passes v pending place _ (to_source t fs k own h) = by_assigns t (frame.Does fs ∷ k) h

  -- A path leads there, from this value on: where it follows one, it may lead anywhere.
  abbrev pub Leads : (cs : List ℕ) → Value → (pending : List Value) → Place → List (Frame Value) → Type 0
  Leads [] v pending place behind = Reaches v pending place behind
  Leads (c ∷ cs) v pending place behind = (w : Value) → Reaches w pending place behind

  -- No operand more leads as well.
  null_reaches : (v : Value) (pending : List Value) (place : Place) (behind : List (Frame Value)) → Reaches v pending place behind → Reaches Null pending place behind
  null_reaches v pending place _ (to_target q t fs k own h) = to_target q t fs k tt h
  null_reaches v pending place _ (to_source t fs k own h) = to_source t fs k own h

  module _ (place : Place) (u : ℕ) (behind : List (Frame Value)) where
    reached : (v : Value) (s : State) → s.mode ≡ Running → Reaches v (operands s) place behind → Stands (at (frame.RefersIn place u ∷ behind) (computed v s))
    reached v s on h =
        seeks on (reaches place u behind
        (first_computed (λ (w : Value). Reaches w (older (operands (computed v s))) place behind) v s
        (subst (λ (ops : List Value). Reaches Null ops place behind) (sym (older_computed v s)) (null_reaches v (operands s) place behind h))
        (subst (λ (ops : List Value). Reaches v ops place behind) (sym (older_computed v s)) h)))

    reading_stands : (cs : List ℕ) (v : Value) (s : State) → s.mode ≡ Running → ((w : Value) → Reaches w (operands s) place behind)
        → Stands (reading named cs v (at (frame.RefersIn place u ∷ behind) s))
    reading_stands [] v s on h = reached v s on (h v)
    reading_stands (c ∷ cs) v s on h =
        seeks on (follows (c ∷ cs) place u behind
        (λ w. subst (λ (ops : List Value). Reaches w ops place behind) (sym (older_computed v s)) (h w)))

    component_stands : (v : Value) (cs : List ℕ) (found : Option Value) (s : State) → s.mode ≡ Running → ((w : Value) → Reaches w (operands s) place behind)
        → AllStand (component_next named v cs found (at (frame.RefersIn place u ∷ behind) s))
    component_stands v cs None s on h = tt
    component_stands v cs (Some w) s on h = reading_stands cs w s on h

    follow_stands : (v : Value) (c : ℕ) (cs : List ℕ) (found : Found (Cell Value)) (s : State) → s.mode ≡ Running → ((w : Value) → Reaches w (operands s) place behind)
        → AllStand (follow_next named v c cs found (at (frame.RefersIn place u ∷ behind) s))
    follow_stands v c cs on_null s on h =
        fails ConstraintError refl (by_reference place u behind (reaches_passes Null (operands s) place behind (h Null)))
    follow_stands v c cs on_gone s on h = tt
    follow_stands v c cs on_other s on h = tt
    follow_stands v c cs (finds cell) s on h = component_stands v cs (slice_get cell.values c) s on h

    pub path_stands : (cs : List ℕ) (v : Value) (s : State) → s.mode ≡ Running → Leads cs v (operands s) place behind
        → AllStand (path_next named cs v (at (frame.RefersIn place u ∷ behind) s))
    path_stands [] v s on h = reached v s on h
    path_stands (c ∷ cs) v s on h = follow_stands v c cs (look s.heap v) s on h

  -- What refers to a record is known.
  referred_then : (v : Value) (place : Place) (behind : List (Frame Value)) (s : State) → s.mode ≡ Running → Reaches v (operands s) place behind
      → Stands (at behind (computed (refer v place) s))
  referred_then v place _ s on (to_target q t fs k own h) =
      seeks on (source_next q t fs k (first_computed (Operated (behind_body k) t) (refer v place) s tt own) h)
  referred_then v place _ s on (to_source t fs k own h) =
      seeks on (both_known t fs k (subst (λ (ops : List Value). Operated (behind_body k) t (first_or Null ops)) (sym (older_computed (refer v place) s)) own) h)

  referred_stands : (v : Value) (place : Place) (found : Option (List Value)) (behind : List (Frame Value)) (s : State) → s.mode ≡ Running
      → Reaches v (operands s) place behind → AllStand (referred_next named v place found (at behind s))
  referred_stands v place None behind s on h = tt
  referred_stands v place (Some vs) behind s on h = referred_then v place behind s on h

  pub refers_stands : (v : Value) (place : Place) (width : ℕ) (found : Found (Cell Value)) (behind : List (Frame Value)) (s : State) → s.mode ≡ Running
      → Reaches v (operands s) place behind → AllStand (refers_next named v place width found (at behind s))
  refers_stands v place width on_null behind s on h = fails ConstraintError refl (reaches_passes v (operands s) place behind h)
  refers_stands v place width on_gone behind s on h = tt
  refers_stands v place width on_other behind s on h = tt
  refers_stands v place width (finds cell) behind s on h = referred_stands v place (record_in cell.values place.component width) behind s on h

  -- Both records are known.
  pub assigned_stands : (t : ℕ) (fs : StmtsForm) (k : List (Frame Value)) (target source : Value) (alike : Option Bool) (s : State) → same target source ≡ alike
      → Operated (behind_body k) t target → Keeps types told (frame.Does fs ∷ k) → AllStand (assigns_next named types t target source alike (at (frame.Does fs ∷ k) s))
  assigned_stands t fs k target source None s is own h = tt
  assigned_stands t fs k target source (Some true) s is own h = keeps h
  assigned_stands t fs k Null source (Some false) s is own h = absurd (cc)
  assigned_stands t fs k (Names o) source (Some false) s is own h = absurd (cc)
  assigned_stands t fs k (Scalar v) source (Some false) s is own h = absurd (cc)
  assigned_stands t fs k (Inside o place) source (Some false) s is own h =
      let v = Names o in
      let left = record_tasks types t PartsFirst place.part in
      keeps (treating_keeps types told v (frame.ends (Assigning s.next)) (record_tasks types t WholeFirst place.part) _ (
        (v, s.next, place.component, width_of types t, left, fs, k, refl, own.0),
        (tt, treating_keeps types told v (frame.begins (Adjustment s.next) []) left (frame.Does fs ∷ k) h),
      ))
