-- The body of an operation takes a step (7.6): it reads and writes Integers and Booleans alone, and what it raises its handlers take, or
-- comes out of it.

use Rattle.std.proofs.Common.{◌≡◌, ℕ, zero, suc, ◌+◌, Bool, true, List, [], ◌∷◌, ◌++◌, refl, ◌⊎◌, inl}
use Rattle.std.specs.Prelude.{Option, Some, None, Result, Ok, Err, ◌&&◌}
use Rattle.std.specs.List.{slice_get, slice_set}
use Rattle.ada_values.specs.declared.fault.OperatorFault.{OperatorFault}
use Rattle.ada_values.specs.declared.fault.OperatorFault.TheVariants.{Overflow, DivisionByZero, WrongType}
use Rattle.ada_program.specs.declared.program.TypeDefinition.{TypeDefinition}
use Rattle.ada_program.specs.declared.program.VariableKind.{VariableKind}
use Rattle.ada_program.specs.declared.program.VariableKind.TheVariants as variable
use Rattle.ada_program.specs.declared.program.Exception.TheVariants.{ConstraintError}
use Rattle.ada_program.specs.Form.{ExpressionForm, integer, boolean, reads, is_null, applied_to, chained}
use Rattle.ada_program.specs.ProgramForm.{BodyForm}
use Rattle.ada_program.specs.WellFormed.{reached_components, kind_among, variable_kind, selectors_kind, selected_kind}
use Rattle.ada_effects.specs.Effects.{unary_raises, expression_raises, links_raise}
use Rattle.ada_meaning.specs.declared.event.Halt.TheVariants.{Stuck}
use Rattle.ada_meaning.specs.declared.state.Value.{Value}
use Rattle.ada_meaning.specs.declared.state.Value.TheVariants.{Null, Names, Scalar, Part}
use Rattle.ada_meaning.specs.declared.state.Mode.{Mode}
use Rattle.ada_meaning.specs.declared.state.Mode.TheVariants.{Running}
use Rattle.ada_meaning.specs.Event.{Born, Finalized, Back, Followed, Left, Line, Quiet}
use Rattle.ada_meaning.specs.Frame.{Computes, Continues, AppliesAlone}
use Rattle.ada_meaning.specs.Heap.{finds}
use Rattle.ada_meaning.specs.State.{Activation, Master}
use Rattle.ada_meaning.specs.Step.{halts, moves, tells, asks, picks, raised, component_next, path_next, named_next, expression_next, outcome_next}
use Rattle.ada_meaning.specs.Named.{Object, State, Next, named, object_at, filled, look, whole}
use Rattle.ada_meaning.specs.Run.{Event}
use Rattle.ada_quiet.specs.Quiet.{is_near, holds_elementary, is_quiet_expression, are_quiet_links}
use Rattle.ada_sound.proofs.Fits.{place_at}
use Rattle.ada_sound.proofs.Invariant.{Control}
use Rattle.ada_sound.proofs.Raising.{RaisesOnly, or_left, or_right}
use Rattle.ada_sound.proofs.OperationStarts.{apart, found_by}
use Rattle.ada_sound.proofs.Operating.{Sight, IsScalar, AreScalars, StaysIn, Contains, Holds, Quietly, Comes, Body}

module _ (sight : Sight) (procedure : ℕ) (rest : List (Activation Value)) (lower : List Master) (behind : Control) where
  abbrev pub acting : (places operands : List Value) → Activation Value
  acting places operands = record { procedure = Some procedure; places = places; operands = operands }

  -- The object stays, or one of its components, which holds one, gets an Integer or a Boolean.
  abbrev pub Wrote : (before after : List Object) → Type 0
  Wrote before after =
      (after ≡ before)
      ⊎ ((x : Object) × (c : ℕ) × (v : Value) × (object_at before sight.object ≡ Some x)
      × (IsScalar v × ((u : Value) → slice_get x.cell.values c ≡ Some u → IsScalar u)) × (after ≡ slice_set before (sight.object).0 (filled c v x)))

  -- Nothing goes back, begins or ends.
  abbrev pub IsMild : Event → Type 0
  IsMild (Born object part turn type number by) = ⊥
  IsMild (Finalized object part turn type number cause) = ⊥
  IsMild (Back object access number pool subpool cause) = ⊥
  IsMild (Followed v) = v ≡ Names sight.object
  IsMild (Left master) = Unit {0}
  IsMild (Line line) = Unit {0}
  IsMild Quiet = Unit {0}

  -- The body runs still.
  pub record After (before : List Object) (e : Event) (after : State) : Type 0 where
    pub places : List Value
    pub operands : List Value
    pub upper : List Master
    pub active : after.activations ≡ acting places operands ∷ rest
    pub masters : after.masters ≡ upper ++ lower
    pub body : Body sight behind upper after.heap places operands after.mode after.control
    pub wrote : Wrote before after.heap
    pub mild : IsMild e

  -- So it does whatever comes next, if the run does not end in a way that no well-formed program comes to.
  abbrev pub GoesOnIn : List Object → Next → Type 0
  GoesOnIn before (halts halt) = halt ≡ Stuck
  GoesOnIn before (moves e after) = After before e after
  GoesOnIn before (tells request e after) = ⊥
  GoesOnIn before (asks request answered) = ⊥
  GoesOnIn before (picks n taken) = ⊥

  -- An Integer or a Boolean is there.
  pub scalar_by : (kind : Option VariableKind) (v : Value) → holds_elementary kind ≡ true → Holds sight kind v → IsScalar v
  scalar_by None v e h = absurd (cc e)
  scalar_by (Some variable.Integer) v e h = h
  scalar_by (Some variable.Boolean) v e h = h
  scalar_by (Some (variable.Access access)) v e h = absurd (cc e)
  scalar_by (Some (variable.Record t)) v e h = absurd (cc e)

  whole_scalar : (v : Value) → IsScalar v → IsScalar (whole v)
  whole_scalar Null h = h
  whole_scalar (Names o) h = h
  whole_scalar (Scalar n) h = h
  whole_scalar (Part o place) h = h

  module _ (tds : List TypeDefinition) (bodies : List BodyForm) (s : State) (ms : List Master) (places operands : List Value) (k : Control) (mode : Mode) (whole_control : Control) (waiting : List Value) (body : Body sight behind ms s.heap places waiting mode whole_control) (q : Quietly sight behind ms k) where
    -- The state in which a frame has been taken off.
    abbrev pub now : List Value → State
    now vs = record s { mode = Running; control = k; activations = acting places vs ∷ rest; masters = ms ++ lower }

    -- It runs on, with nothing written.
    pub on : (e : Event) (after : State) (vs : List Value) → IsMild e → after.activations ≡ acting places vs ∷ rest → after.masters ≡ ms ++ lower → after.heap ≡ s.heap → Comes sight behind ms after.mode after.control vs → After s.heap e after
    on e after vs mild active masters heap comes = record {
      places = places;
      operands = vs;
      upper = ms;
      active = active;
      masters = masters;
      body = rw heap (record {
        x = body.x;
        found = body.found;
        live = body.live;
        of_access = body.of_access;
        scalars = body.scalars;
        holds = body.holds;
        own = body.own;
        comes = comes;
      });
      wrote = inl heap;
      mild = mild;
    }

    -- This comes next.
    pub on_to : (e : Event) (after : State) (vs : List Value) (j : Control) → IsMild e → after.activations ≡ acting places vs ∷ rest → after.masters ≡ ms ++ lower → after.heap ≡ s.heap → after.mode ≡ Running → after.control ≡ j → AreScalars vs → Quietly sight behind ms j → After s.heap e after
    on_to e after vs j mild active masters heap runs is all quietly = on e after vs mild active masters heap (rw (runs, is) (inl (all, tt, quietly)))

    -- A value is there.
    pub computes_on : (e : Event) (v : Value) (vs : List Value) → IsMild e → IsScalar v → AreScalars vs → After s.heap e (record (now (v ∷ vs)) { mode = Running })
    computes_on e v vs mild is all = on e (now (v ∷ vs)) (v ∷ vs) mild refl refl refl (inl ((is, all), tt, q))

    -- Constraint_Error is raised, and taken.
    pub raises_on : (vs : List Value) → StaysIn sight ConstraintError k → After s.heap Quiet (raised ConstraintError (now vs))
    raises_on vs stays = on Quiet (raised ConstraintError (now vs)) [] tt refl refl refl (inl (tt, stays, q))

    -- The object is found.
    looks : look s.heap (Names sight.object) ≡ finds body.x.cell
    looks = rw (body.found) (found_by body.x body.x.stage body.live)

    -- A component of the record is read.
    component_on : (vs : List Value) → AreScalars vs → (kind : Option VariableKind) (v : Value) (c : ℕ) → holds_elementary (selected_kind sight.program.types kind c) ≡ true → Holds sight kind v → GoesOnIn s.heap (path_next named (named.inside v c ∷ []) (whole v) (now vs))
    component_on vs all None v c e h = absurd (cc e)
    component_on vs all (Some variable.Integer) v c e h = absurd (cc e)
    component_on vs all (Some variable.Boolean) v c e h = absurd (cc e)
    component_on vs all (Some (variable.Access access)) v c e h = absurd h
    component_on vs all (Some (variable.Record t)) v c e (place, is, within) = rw (is, looks) (by (slice_get body.x.cell.values (place.component + c)) refl)
      where
        kinds : (found : Option VariableKind) → selected_kind sight.program.types (Some (variable.Record t)) c ≡ found → holds_elementary found ≡ true → holds_elementary (kind_among (reached_components sight.program.types sight.access) (place.component + c)) ≡ true
        kinds None is' e' = absurd (cc e')
        kinds (Some kind) is' e' = rw (within c kind is') e'

        by : (found : Option Value) → slice_get body.x.cell.values (place.component + c) ≡ found → GoesOnIn s.heap (component_next named (Names sight.object) [] found (now vs))
        by None at = refl
        by (Some w) at =
            computes_on (Followed (Names sight.object)) w vs refl
            (body.scalars (place.component + c) w (kinds (selected_kind sight.program.types (Some (variable.Record t)) c) refl e) at) all

    -- A path is read.
    reads_on : (vs : List Value) → AreScalars vs → (root : ℕ) (selectors : List ℕ) → (is_near root selectors && holds_elementary (selectors_kind sight.program.types (variable_kind sight.program.variables root) selectors)) ≡ true → GoesOnIn s.heap (named_next named selectors root (now vs))
    reads_on vs all root [] e =
        computes_on Quiet (whole (place_at places root)) vs tt
        (whole_scalar (place_at places root) (scalar_by (variable_kind sight.program.variables root) (place_at places root) e (body.holds root))) all
    reads_on vs all zero (c ∷ []) e = component_on vs all (variable_kind sight.program.variables zero) (place_at places zero) c e (body.holds zero)
    reads_on vs all zero (c ∷ d ∷ cs) e = absurd (cc e)
    reads_on vs all (suc x) (c ∷ cs) e = absurd (cc e)

    -- An expression is evaluated next.
    pub expression_on : (vs : List Value) → AreScalars vs → (e : ExpressionForm) → is_quiet_expression sight.program.types sight.program.variables e ≡ true → Contains sight (expression_raises e) k → GoesOnIn s.heap (expression_next named e (now vs))
    expression_on vs all (integer i) quiet stays = computes_on Quiet (named.integer i) vs tt tt all
    expression_on vs all (boolean b) quiet stays = computes_on Quiet (named.boolean b) vs tt tt all
    expression_on vs all (reads path) quiet stays = reads_on vs all path.root path.selectors quiet
    expression_on vs all (is_null equal path) quiet stays = absurd (cc quiet)
    expression_on vs all (applied_to operator e) quiet stays =
        on_to Quiet _ vs (Computes e ∷ AppliesAlone operator ∷ k) tt refl refl refl refl refl all
        ((quiet, λ may. stays (or_right (unary_raises operator) (expression_raises e) may)), ((λ may. stays (or_left (unary_raises operator) (expression_raises e) may)), q))
    expression_on vs all (chained e links) quiet stays =
        let both = apart (is_quiet_expression sight.program.types sight.program.variables e) (are_quiet_links sight.program.types sight.program.variables links) quiet in
        on_to Quiet _ vs (Computes e ∷ Continues links ∷ k) tt refl refl refl refl refl all
        ((both.0, λ may. stays (or_left (expression_raises e) (links_raise links) may)), ((both.1, λ may. stays (or_right (expression_raises e) (links_raise links) may)), q))

    -- An operator gives a value, or raises Constraint_Error.
    pub outcome_on : (vs : List Value) → AreScalars vs → (may : Bool) → Contains sight may k → (r : Result Value OperatorFault) → ((v : Value) → r ≡ Ok v → IsScalar v) → RaisesOnly may r → GoesOnIn s.heap (outcome_next named r (now vs))
    outcome_on vs all may stays (Ok v) is only = computes_on Quiet v vs tt (is v refl) all
    outcome_on vs all may stays (Err Overflow) is only = raises_on vs (stays only)
    outcome_on vs all may stays (Err DivisionByZero) is only = raises_on vs (stays only)
    outcome_on vs all may stays (Err WrongType) is only = refl
