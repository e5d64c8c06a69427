-- Expressions, and values behind paths that are read.

use Rattle.std.proofs.Common.{◌≡◌, ℕ, Bool, true, false, ◌||◌, List, [], ◌∷◌, refl, inl, inr}
use Rattle.std.specs.Prelude.{if◌then◌else◌, is_some, Option, Some, None, Result, Ok, Err}
use Rattle.std.specs.List.{slice_get}
use Rattle.ada_text.specs.declared.spot.Spot.{Spot}
use Rattle.ada_values.specs.declared.operator.BinaryOperator.{BinaryOperator}
use Rattle.ada_values.specs.declared.fault.OperatorFault.{OperatorFault}
use Rattle.ada_values.specs.declared.fault.OperatorFault.TheVariants.{Overflow, DivisionByZero, WrongType}
use Rattle.ada_program.specs.declared.program.Exception.TheVariants.{ConstraintError}
use Rattle.ada_program.specs.declared.program.ScalarType.{ScalarType}
use Rattle.ada_program.specs.declared.program.ScalarType.TheVariants as scalar_type
use Rattle.ada_program.specs.declared.program.VariableKind.{VariableKind}
use Rattle.ada_program.specs.WellFormed.{path_kind, scalar_of, value_access, type_of}
use Rattle.ada_program.specs.Form.{PathForm, ExpressionForm, integer, boolean, reads, is_null, applied_to, chained, LinksForm, no_more_links, a_link}
use Rattle.ada_effects.specs.Effects.{expression_raises, links_raise, path_raises, follows_value, unary_raises, binary_raises}
use Rattle.ada_flow.specs.declared.rule.Hold.{Hold}
use Rattle.ada_flow.specs.Flow.{Holds, hold_at, lost_by, lost_behind, reads_it, compares_it, uses_in, uses_in_links}
use Rattle.ada_meaning.specs.declared.state.Id.{Id}
use Rattle.ada_meaning.specs.declared.state.Value.{Value}
use Rattle.ada_meaning.specs.declared.state.Value.TheVariants.{Null, Names, Scalar, Part}
use Rattle.ada_meaning.specs.declared.state.Mode.TheVariants.{Raising}
use Rattle.ada_meaning.specs.Frame.{Computes, Follows, TestsNull, Continues, Applies, AppliesAlone}
use Rattle.ada_meaning.specs.Event.{Followed, Quiet}
use Rattle.ada_meaning.specs.State.{Activation}
use Rattle.ada_meaning.specs.Step.{moves, raised, reading, component_next, follow_next, path_next, expression_next, null_test_next, is_decided, link_next, links_next, outcome_next, selected}
use Rattle.ada_meaning.specs.Named.{Object, State, object_at, look, named}
use Rattle.ada_owners.specs.Places.{is_there}
use Rattle.ada_sound.proofs.Fits.{MayFollow, place_at, component_follows}
use Rattle.ada_sound.proofs.Roots.{root_object, object_there, raises_null, rest_raises}
use Rattle.ada_sound.proofs.Begins.{root_follows}
use Rattle.ada_sound.proofs.Invariant.{begun, along, Known, Control, Rooms, To, MayRaise, RaisesAt, Awaits, Computing, Working, Stepped, Fine, ways}
use Rattle.ada_sound.proofs.Ready.{running, at_work, awaits_ready, stays, goes_on, ready_on, jumps_less}
use Rattle.ada_sound.proofs.Followings.{first_kept, kept_apart}
use Rattle.ada_sound.proofs.Raising.{or_left, or_right, RaisesOnly}

module _ (known : Known) (k : Control) (a : Activation Value) (rest : List (Activation Value)) (s : State) (below : List Value) where
  module _ (w : Working known s.heap a.places s.masters (Awaits known s.heap a.places below k)) where
    -- An exception is raised.
    fails : To ((ways known k w.rooms).raised ConstraintError) w.holds → Stepped known s.heap Quiet (raised ConstraintError (running k (record a { operands = below }) rest s))
    fails raise = jumps_less known k (record a { operands = below }) rest s (Raising ConstraintError) (at_work w raise)

    -- What is read is there, or is followed on.
    read_fine : (u : Value) (o : Id) (object : Object) (cs : List ℕ) (v : Value) → object_at s.heap o ≡ Some object → is_there object.stage ≡ true → MayFollow s.heap v → RaisesAt known u cs k w.rooms w.holds → Fine known s.heap s.masters (moves (Followed (Names o)) (reading named cs v (running k (record a { operands = below }) rest s)))
    read_fine u o object [] v found listed follows raise =
        stays known (Followed (Names o)) (running k (record a { operands = v ∷ below }) rest s)
        (tt, awaits_ready known k s.heap a.places v below s.masters w)
        (record { id = o; object = object; is = refl; found = found; there = listed })
    read_fine u o object (c ∷ cs) v found listed follows raise =
        stays known (Followed (Names o)) (running (Follows (c ∷ cs) ∷ k) (record a { operands = v ∷ below }) rest s)
        (tt, inl (at_work w (follows, inr ((λ may. raise), inl w.rest))))
        (record { id = o; object = object; is = refl; found = found; there = listed })

    -- A component of an object that is there is read.
    component_fine : (u : Value) (o : Id) (object : Object) (c : ℕ) (cs : List ℕ) (v : Option Value) → slice_get object.cell.values c ≡ v → object_at s.heap o ≡ Some object → is_there object.stage ≡ true → RaisesAt known u cs k w.rooms w.holds → Fine known s.heap s.masters (component_next named (Names o) cs v (running k (record a { operands = below }) rest s))
    component_fine u o object c cs None at found listed raise = tt
    component_fine u o object c cs (Some v) at found listed raise = read_fine u o object cs v found listed (component_follows o object c v refl found listed at w.fit) raise

    -- A value is followed by one selector.
    follow_fine : (c : ℕ) (cs : List ℕ) (v : Value) → MayFollow s.heap v → RaisesAt known v cs k w.rooms w.holds → Fine known s.heap s.masters (follow_next named v c cs (look s.heap v) (running k (record a { operands = below }) rest s))
    follow_fine c cs Null follows raise = fails (raises_null known Null k w.rooms w.holds cs raise refl)
    follow_fine c cs (Names o) follows raise =
        rw (follows.1, (w.stored.sane o follows.0 follows.1).there_exists follows.2)
        (component_fine (Names o) o follows.0 c cs (slice_get follows.0.cell.values c) refl follows.1 follows.2 raise)
    follow_fine c cs (Scalar n) follows raise = tt
    follow_fine c cs (Part object_id base) follows raise = tt

  -- A value may be followed by selectors, where there are some, and Constraint_Error may be raised where it is.
  abbrev pub MayRead : (v : Value) → List ℕ → Rooms → Holds → Type 0
  MayRead v [] rooms holds = Unit {0}
  MayRead v (c ∷ cs) rooms holds = MayFollow s.heap v × RaisesAt known v cs k rooms holds

  -- A value is read behind selectors, one after another.
  pub reads_fine : (cs : List ℕ) (v : Value) → (w : Working known s.heap a.places s.masters (Awaits known s.heap a.places below k)) → MayRead v cs w.rooms w.holds → Fine known s.heap s.masters (path_next named cs v (running k (record a { operands = below }) rest s))
  reads_fine [] v w may = goes_on known k a rest s v below w
  reads_fine (c ∷ cs) v w may = follow_fine w c cs v may.0 may.1

  module _ (w : Working known s.heap a.places s.masters (Awaits known s.heap a.places below k)) where
    -- What comes of an operator.
    pub outcome_fine : (may : Bool) (r : Result Value OperatorFault) → RaisesOnly may r → MayRaise known may ConstraintError k w.rooms w.holds → Fine known s.heap s.masters (outcome_next named r (running k (record a { operands = below }) rest s))
    outcome_fine may (Ok v) only raise = goes_on known k a rest s v below w
    outcome_fine may (Err Overflow) only raise = fails w (raise only)
    outcome_fine may (Err DivisionByZero) only raise = fails w (raise only)
    outcome_fine may (Err WrongType) only raise = tt

    -- Whether an access value is null.
    pub null_test_fine : (equal : Bool) (r : Option Bool) → Fine known s.heap s.masters (null_test_next named equal r (running k (record a { operands = below }) rest s))
    null_test_fine equal None = tt
    null_test_fine true (Some null) = goes_on known k a rest s _ below w
    null_test_fine false (Some null) = goes_on known k a rest s _ below w

-- What either of two parts may raise, both may.
raise_left : (known : Known) (a b : Bool) (k : Control) (rooms : Rooms) (holds : Holds) → MayRaise known (a || b) ConstraintError k rooms holds → MayRaise known a ConstraintError k rooms holds
raise_left known a b k rooms holds raise e = raise (or_left a b e)

raise_right : (known : Known) (a b : Bool) (k : Control) (rooms : Rooms) (holds : Holds) → MayRaise known (a || b) ConstraintError k rooms holds → MayRaise known b ConstraintError k rooms holds
raise_right known a b k rooms holds raise e = raise (or_right a b e)

-- What is compared is followed no further than what is read.
up_to : (cs : List ℕ) (h : Hold) (spot : Spot) → lost_by h spot ≡ None → lost_behind cs h spot ≡ None
up_to [] h spot e = refl
up_to (c ∷ cs) h spot e = e

-- What an expression reads leads somewhere.
read_there : (found : Option VariableKind) (t : ScalarType) → scalar_of found ≡ Some t → (to : VariableKind) × (found ≡ Some to)
read_there None t is = absurd (cc is)
read_there (Some to) t is = (to, refl)

tested_there : (found : Option VariableKind) (t : ScalarType) → (if is_some (value_access found) then Some scalar_type.Boolean else None) ≡ Some t → (to : VariableKind) × (found ≡ Some to)
tested_there None t is = absurd (cc is)
tested_there (Some to) t is = (to, refl)

-- A variable's value, or what is behind it, is read.
path_fine : (known : Known) (k : Control) (a : Activation Value) (rest : List (Activation Value)) (s : State) (path : PathForm) (w : Working known s.heap a.places s.masters (Awaits known s.heap a.places a.operands k)) → (to : VariableKind) × (path_kind known.program.types known.program.variables path ≡ Some to) → lost_behind path.selectors (hold_at w.holds path.root) path.spot ≡ None → MayRaise known (path_raises path) ConstraintError k w.rooms w.holds → Fine known s.heap s.masters (path_next named (along a.places path) (begun a.places path) (running k a rest s))
path_fine known k a rest s path w leads kept raise = reads_fine known k a rest s a.operands (along a.places path) (begun a.places path) w (may path.selectors kept raise)
  where
    may : (cs : List ℕ) → lost_behind cs (hold_at w.holds path.root) path.spot ≡ None → MayRaise known (follows_value path.of_record cs) ConstraintError k w.rooms w.holds → MayRead known k a rest s a.operands (begun a.places path) (selected named (place_at a.places path.root) cs) w.rooms w.holds
    may [] e raises = tt
    may (c ∷ cs) e raises = (
      root_follows path.root path.spot e w.fit,
      rest_raises known (begun a.places path) k w.rooms w.holds path.of_record c cs
          (λ whole. object_there path.root path.spot e (root_object known.program.types known.program.variables path leads.0 leads.1 whole) w.fit) raises,
    )

module _ (known : Known) (k : Control) (a : Activation Value) (rest : List (Activation Value)) (s : State) where
  -- The next step of an expression.
  pub expression_fine : (e : ExpressionForm) (t : ScalarType) → type_of known.program.types known.program.variables e ≡ Some t → Working known s.heap a.places s.masters (Computing known s.heap a.places a.operands e k) → Fine known s.heap s.masters (expression_next named e (running k a rest s))
  unfolding uses_in
  expression_fine (integer i) t of w = goes_on known k a rest s _ a.operands (at_work w w.rest.2)
  expression_fine (boolean b) t of w = goes_on known k a rest s _ a.operands (at_work w w.rest.2)
  expression_fine (reads path) t of w =
      path_fine known k a rest s path (at_work w w.rest.2) (read_there (path_kind known.program.types known.program.variables path) t of) (first_kept w.holds (reads_it path) [] w.rest.0).0 w.rest.1
  expression_fine (is_null equal path) t of w =
      let kept = up_to path.selectors (hold_at w.holds path.root) path.spot (first_kept w.holds (compares_it path) [] w.rest.0).0 in
      path_fine known (TestsNull equal ∷ k) a rest s path (at_work w w.rest.2) (tested_there (path_kind known.program.types known.program.variables path) t of) kept w.rest.1
  expression_fine (applied_to operator e) t of w =
      ready_on known (Computes e ∷ AppliesAlone operator ∷ k) a rest s a.operands (at_work w (w.rest.0, raise_right known (unary_raises operator) (expression_raises e) k w.rooms w.holds w.rest.1, (raise_left known (unary_raises operator) (expression_raises e) k w.rooms w.holds w.rest.1, w.rest.2)))
  expression_fine (chained e links) t of w =
      let h = kept_apart w.holds (uses_in e) (uses_in_links links) w.rest.0 in
      ready_on known (Computes e ∷ Continues links ∷ k) a rest s a.operands (at_work w (h.0, raise_left known (expression_raises e) (links_raise links) k w.rooms w.holds w.rest.1, (h.1, raise_right known (expression_raises e) (links_raise links) k w.rooms w.holds w.rest.1, w.rest.2)))

  module _ (v : Value) (below : List Value) where
    -- The next operator of a chain.
    decided_fine : (decided : Bool) (operator : BinaryOperator) (e : ExpressionForm) (links : LinksForm) → Working known s.heap a.places s.masters (Computing known s.heap a.places (v ∷ below) e (Applies operator ∷ Continues links ∷ k)) → Fine known s.heap s.masters (link_next named decided operator e links (running k (record a { operands = v ∷ below }) rest s))
    decided_fine true operator e links w = ready_on known (Continues links ∷ k) a rest s (v ∷ below) (at_work w w.rest.2.1)
    decided_fine false operator e links w = ready_on known (Computes e ∷ Applies operator ∷ Continues links ∷ k) a rest s (v ∷ below) w

    pub links_fine : (links : LinksForm) → Working known s.heap a.places s.masters (Awaits known s.heap a.places below (Continues links ∷ k)) → Fine known s.heap s.masters (links_next named links (running k (record a { operands = v ∷ below }) rest s))
    unfolding uses_in_links
    links_fine no_more_links w = goes_on known k a rest s v below (at_work w w.rest.2)
    links_fine (a_link operator e links) w =
        let h = kept_apart w.holds (uses_in e) (uses_in_links links) w.rest.0 in
        let first = raise_left known (binary_raises operator || expression_raises e) (links_raise links) k w.rooms w.holds w.rest.1 in
        decided_fine (is_decided named operator (named.reads_boolean v)) operator e links
        (at_work w (h.0, raise_right known (binary_raises operator) (expression_raises e) k w.rooms w.holds first, (raise_left known (binary_raises operator) (expression_raises e) k w.rooms w.holds first, (h.1, raise_right known (binary_raises operator || expression_raises e) (links_raise links) k w.rooms w.holds w.rest.1, w.rest.2))))
