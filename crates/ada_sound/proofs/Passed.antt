-- An actual parameter of an access type is evaluated (6.4.1): what its path leads to is found.

use Rattle.std.proofs.lemmas.Bool.{and_parts}
use Rattle.std.proofs.Common.{◌≡◌, ℕ, true, List, [], ◌∷◌, refl}
use Rattle.std.specs.Prelude.{Option, Some, None}
use Rattle.ada_program.specs.declared.program.TypeDefinition.{TypeDefinition}
use Rattle.ada_program.specs.declared.program.VariableKind.{VariableKind}
use Rattle.ada_program.specs.declared.program.Exception.TheVariants.{ConstraintError}
use Rattle.ada_program.specs.Form.{PathForm, RecordPathForm, RightForm, nothing, value_of, allocates, allocates_default, computes}
use Rattle.ada_program.specs.WellFormed.{kind_takes, access_of, path_kind, object_components, has_record_at, record_components, is_record_path}
use Rattle.ada_program.specs.declared.program.ComponentKind.{ComponentKind}
use Rattle.ada_program.specs.ProgramForm.{TypeForm}
use Rattle.ada_effects.specs.Effects.{follows_value}
use Rattle.ada_flow.specs.Flow.{Holds, hold_at, lost_by, compares_it}
use Rattle.ada_meaning.specs.declared.state.Place.{Place}
use Rattle.ada_meaning.specs.declared.state.Value.{Value}
use Rattle.ada_meaning.specs.declared.state.Value.TheVariants.{Null, Part, Names, Scalar}
use Rattle.ada_meaning.specs.Frame.{Evaluates, Refers, RefersIn, Opens, OpensIn}
use Rattle.ada_meaning.specs.declared.state.Id.{Id}
use Rattle.ada_meaning.specs.declared.state.Mode.TheVariants.{Raising}
use Rattle.ada_meaning.specs.Event.{Followed}
use Rattle.ada_meaning.specs.Heap.{finds}
use Rattle.std.specs.List.{slice_get}
use Rattle.ada_owners.specs.Keeping.{IsThere}
use Rattle.ada_sound.proofs.Targets.{followed}
use Rattle.ada_meaning.specs.State.{Activation}
use Rattle.ada_meaning.specs.Step.{before_last, last_of, selected, place_in, right_next, record_holder_next, open_next, record_in, referred_next, refers_next, opened_next, opens_next}
use Rattle.ada_meaning.specs.Named.{State, named, inside, look}
use Rattle.ada_sound.proofs.Fits.{place_at, MayFollow}
use Rattle.ada_sound.proofs.Begins.{root_follows}
use Rattle.ada_sound.proofs.Roots.{root_object, takes_object, object_there, raises_all, rest_raises, front_raises, record_raises, selected_raises}
use Rattle.ada_sound.proofs.Followings.{first_kept}
use Rattle.ada_sound.proofs.Walks.{RaisesBehind, passed_fine, finds_fine}
use Rattle.ada_sound.proofs.Ready.{running, at_work, ready_on, passes_ready, stays, jumps_less}
use Rattle.ada_sound.proofs.Invariant.{begun, along, Known, Control, Rooms, MayRaise, PassesTo, Working, Fine, FindsFor}

-- A path to a record leads somewhere.
record_leads : (types : List TypeForm) (found : Option VariableKind) (first : ℕ) (kinds : Option (List ComponentKind)) → has_record_at (object_components types (access_of found)) first kinds ≡ true → (to : VariableKind) × (found ≡ Some to)
record_leads types None first kinds has = absurd (cc has)
record_leads types (Some to) first kinds has = (to, refl)

-- Where a value is followed at all, Constraint_Error may be raised.
pub raises_behind : (known : Known) (v : Value) (k : Control) (rooms : Rooms) (holds : Holds) (cs : List ℕ) → MayRaise known true ConstraintError k rooms holds → RaisesBehind known v cs k rooms holds
raises_behind known v k rooms holds [] raise = tt
raises_behind known v k rooms holds (c ∷ cs) raise = raises_all known v k rooms holds cs (raise refl)

module _ (known : Known) (k : Control) (a : Activation Value) (rest : List (Activation Value)) (s : State) (types : List TypeDefinition) (kind : VariableKind) where
  -- The next step of an access value that is passed.
  pub passes_fine : (right : RightForm) → kind_takes known.program.types known.program.variables kind right ≡ true → Working known s.heap a.places s.masters (PassesTo known s.heap a.places a.operands (Evaluates right ∷ k)) → Fine known s.heap s.masters (right_next named types right (running k a rest s))
  passes_fine nothing takes w = ready_on known k a rest s (Null ∷ a.operands) (passes_ready known k s.heap a.places (Null ∷ a.operands) s.masters (at_work w (w.rest.1 Null refl)))
  passes_fine (value_of path) takes w =
      passed_fine known a rest s a.operands k (along a.places path) (begun a.places path) (at_work w w.rest.1) (root_follows path.root path.spot kept w.fit) (may path.selectors w.rest.0.1)
    where
      kept : lost_by (hold_at w.holds path.root) path.spot ≡ None
      kept = (first_kept w.holds (compares_it path) [] w.rest.0.0).0

      may : (cs : List ℕ) → MayRaise known (follows_value path.of_record cs) ConstraintError k w.rooms w.holds → RaisesBehind known (begun a.places path) (selected named (place_at a.places path.root) cs) k w.rooms w.holds
      may [] raises = tt
      may (c ∷ cs) raises =
          rest_raises known (begun a.places path) k w.rooms w.holds path.of_record c cs
          (λ whole. object_there path.root path.spot kept (takes_object known.program.types known.program.variables kind path takes whole) w.fit) raises
  passes_fine (allocates access items) takes w = absurd (w.rest.0)
  passes_fine (allocates_default access) takes w = absurd (w.rest.0)
  passes_fine (computes e) takes w = absurd (w.rest.0)

module _ (known : Known) (k : Control) (a : Activation Value) (rest : List (Activation Value)) (s : State) where
  -- The next step of a record that is passed: its object is found first.
  pub refers_fine : (p : RecordPathForm) → is_record_path known.program.types known.program.variables p ≡ true → Working known s.heap a.places s.masters (PassesTo known s.heap a.places a.operands (Refers p ∷ k)) → Fine known s.heap s.masters (record_holder_next named p (λ place. RefersIn place p.record_type) (running k a rest s))
  refers_fine p lies w =
      let path = p.object in
      let place = place_in named (place_at a.places path.root) path.selectors p in
      let leads = record_leads known.program.types (path_kind known.program.types known.program.variables path) p.first (record_components known.program.types p.record_type) (and_parts (has_record_at (object_components known.program.types (access_of (path_kind known.program.types known.program.variables path))) p.first (record_components known.program.types p.record_type)) _ lies).0 in
      finds_fine known a rest s a.operands (RefersIn place p.record_type ∷ k) (along a.places path) (begun a.places path)
      (at_work w (
        selected_raises known (place_at a.places path.root) (begun a.places path) path.selectors k w.rooms w.holds
            (record_raises known (begun a.places path) k w.rooms w.holds path.of_record path.selectors
            (λ whole. object_there path.root path.spot w.rest.0 (root_object known.program.types known.program.variables path leads.0 leads.1 whole) w.fit) w.rest.1),
        (λ o found. w.rest.2 (Part o place) (o, refl, found)),
      )) (root_follows path.root path.spot w.rest.0 w.fit)

  -- That of a component that is given: so is its object.
  opens_by : (path : PathForm) (cs : List ℕ) → path.selectors ≡ cs → (to : VariableKind) → path_kind known.program.types known.program.variables path ≡ Some to → Working known s.heap a.places s.masters (PassesTo known s.heap a.places a.operands (Opens path ∷ k)) → Fine known s.heap s.masters (open_next named cs path.root (running k a rest s))
  opens_by path [] is to leads w = tt
  opens_by path (c ∷ cs) is to leads w =
      let v = place_at a.places path.root in
      finds_fine known a rest s a.operands (OpensIn (last_of (inside v c) cs) ∷ k) (before_last (inside v c) cs) (begun a.places path)
      (at_work w (
        front_raises known (begun a.places path) k w.rooms w.holds path.of_record c (inside v c) cs
            (λ whole. object_there path.root path.spot w.rest.0 (root_object known.program.types known.program.variables path to leads whole) w.fit) (rw is at w.rest.1),
        (λ o u found. w.rest.2 u (Part o (record { component = last_of (inside v c) cs; part = 0 })) (o, last_of (inside v c) cs, refl, rw is found, rw is refl)),
      )) (root_follows path.root path.spot w.rest.0 w.fit)

  pub opens_fine : (path : PathForm) (to : VariableKind) → path_kind known.program.types known.program.variables path ≡ Some to → Working known s.heap a.places s.masters (PassesTo known s.heap a.places a.operands (Opens path ∷ k)) → Fine known s.heap s.masters (open_next named path.selectors path.root (running k a rest s))
  opens_fine path to leads w = opens_by path path.selectors refl to leads w

  -- The object is found, and what refers to the record in it is there; null in its place raises Constraint_Error.
  referred_on : (o : Id) (there : IsThere s.heap o) (place : Place) (below : List Value) (found : Option (List Value)) → Working known s.heap a.places s.masters (PassesTo known s.heap a.places (Part o place ∷ below) k) → Fine known s.heap s.masters (referred_next named (Names o) place found (running k (record a { operands = below }) rest s))
  referred_on o there place below None w = tt
  referred_on o there place below (Some vs) w =
      stays known (Followed (Names o)) (running k (record a { operands = Part o place ∷ below }) rest s)
      (tt, passes_ready known k s.heap a.places (Part o place ∷ below) s.masters w) (followed o there)

  pub referred_fine : (place : Place) (t count : ℕ) (v : Value) (below : List Value) → Working known s.heap a.places s.masters (λ rooms holds. MayFollow s.heap v × FindsFor known s.heap a.places v below [] (RefersIn place t ∷ k) rooms holds) → Fine known s.heap s.masters (refers_next named v place count (look s.heap v) (running k (record a { operands = below }) rest s))
  referred_fine place t count Null below w = jumps_less known k (record a { operands = below }) rest s (Raising ConstraintError) (at_work w (w.rest.1.0 refl))
  referred_fine place t count (Names o) below w =
      let there : IsThere s.heap o = w.rest.0 in
      let looks : look s.heap (Names o) ≡ finds there.0.cell = rw (there.1, (w.stored.sane o there.0 there.1).there_exists there.2) refl in
      rw looks (referred_on o there place below (record_in there.0.cell.values place.component count) (at_work w (w.rest.1.1 o refl)))
  referred_fine place t count (Scalar n) below w = tt
  referred_fine place t count (Part object_id base) below w = tt

  -- So is the component in it, and what refers to that.
  opened_on : (o : Id) (there : IsThere s.heap o) (c : ℕ) (below : List Value) (found : Option Value) → ((v : Value) → Working known s.heap a.places s.masters (PassesTo known s.heap a.places (v ∷ Part o (record { component = c; part = 0 }) ∷ below) k)) → Fine known s.heap s.masters (opened_next named (Names o) c found (running k (record a { operands = below }) rest s))
  opened_on o there c below None w = tt
  opened_on o there c below (Some v) w =
      stays known (Followed (Names o)) (running k (record a { operands = v ∷ Part o (record { component = c; part = 0 }) ∷ below }) rest s)
      (tt, passes_ready known k s.heap a.places (v ∷ Part o (record { component = c; part = 0 }) ∷ below) s.masters (w v)) (followed o there)

  pub opened_fine : (c : ℕ) (v : Value) (below : List Value) → Working known s.heap a.places s.masters (λ rooms holds. MayFollow s.heap v × FindsFor known s.heap a.places v below [] (OpensIn c ∷ k) rooms holds) → Fine known s.heap s.masters (opens_next named v c (look s.heap v) (running k (record a { operands = below }) rest s))
  opened_fine c Null below w = jumps_less known k (record a { operands = below }) rest s (Raising ConstraintError) (at_work w (w.rest.1.0 refl))
  opened_fine c (Names o) below w =
      let there : IsThere s.heap o = w.rest.0 in
      let looks : look s.heap (Names o) ≡ finds there.0.cell = rw (there.1, (w.stored.sane o there.0 there.1).there_exists there.2) refl in
      rw looks (opened_on o there c below (slice_get there.0.cell.values c) (λ v. at_work w (w.rest.1.1 o v refl)))
  opened_fine c (Scalar n) below w = tt
  opened_fine c (Part object_id base) below w = tt
