-- What a call passes by reference (6.2, 6.4.1): the objects to which that leads, and that they are there as long as the body runs.

use Rattle.std.proofs.Common.{◌≡◌, ◌≢◌, ℕ, zero, suc, ◌+◌, Bool, true, false, ◌||◌, not, List, [], ◌∷◌, ◌++◌, length, map, take, reverse, refl, ap, ◌∙◌, ◌⊎◌, inl, inr, arith}
use Rattle.std.specs.Prelude.{Option, Some, None}
use mathlib.Core.List.{reverse_aux}
use Rattle.std.proofs.lemmas.List.{reverse-reverse}
use Rattle.std.specs.List.{slice_get}
use Rattle.std.proofs.lemmas.Bool.{and_parts}
use Rattle.ada_text.specs.declared.spot.Spot.{Spot}
use Rattle.ada_program.specs.declared.program.FormalMode.{FormalMode}
use Rattle.ada_program.specs.declared.program.ScalarType.{ScalarType}
use Rattle.ada_program.specs.declared.program.ScalarType.TheVariants as scalar_type
use Rattle.ada_program.specs.declared.program.TypeNo.{TypeNo}
use Rattle.ada_program.specs.declared.program.VariableKind.{VariableKind}
use Rattle.ada_program.specs.declared.program.VariableKind.TheVariants as kinds
use Rattle.ada_program.specs.Form.{PathForm, RecordPathForm, ActualForm, in_value, in_null, in_access, in_record, in_out_path, in_out_access, in_out_component, in_out_record}
use Rattle.ada_program.specs.ProgramForm.{TypeForm, VariableForm}
use Rattle.ada_program.specs.WellFormed.{is_access, is_this, access_of, scalar_of, is_type, object_in, kind_held, variable_kind, value_access, path_kind, path_access, selected_kind, selectors_kind, names_borrower, names_access, stands_alone, is_record_path, actual_fits, actuals_fit, mode_of, same_mode, modes_fit}
use Rattle.ada_flow.specs.declared.rule.Hold.{Hold}
use Rattle.ada_flow.specs.declared.rule.Hold.TheVariants as hold
use Rattle.ada_flow.specs.Flow.{Holds, hold_at, lost_by, is_freed, names_value, component_passes, record_passes, is_given, is_begun_with, opens_it, passes_it, opened_by_call, uses_in_actual, uses_in_actuals, first_holds}
use Rattle.ada_meaning.specs.declared.state.Id.{Id}
use Rattle.ada_meaning.specs.declared.state.Place.{Place}
use Rattle.ada_meaning.specs.declared.state.Value.{Value}
use Rattle.ada_meaning.specs.declared.state.Value.TheVariants.{Null, Names, Scalar, Part}
use Rattle.ada_meaning.specs.Step.{operand_count, given_values, references_in}
use Rattle.ada_meaning.specs.Named.{Object}
use Rattle.ada_owners.specs.Places.{access_at}
use Rattle.ada_sound.proofs.Fits.{Outsiders, Reference, IsOwnedOutside, IsReferred, referred_first, referred_behind, referred_either, Fit, none_spared, place_at, names_object, is_object}
use Rattle.ada_sound.proofs.Begins.{Opened, IsSpared, component_opened, record_referred, from_root}
use Rattle.ada_sound.proofs.Followings as followings
use Rattle.ada_sound.proofs.Followings.{kept_apart}
use Rattle.ada_sound.proofs.Handings.{AreGiven, passed_safe, taken_never, or_false, this_is, no_formal}
use Rattle.ada_sound.proofs.Invariant.{NoneBroken, ReferredBy, OpenedBy, PassedBy, ArePassed, AreOpened}
use Rattle.ada_sound.proofs.Roots.{selected_no_object}

module _ (heap : List Object) (places : List Value) where
  -- What has been computed for actual parameters, in order: what refers to a component comes before its value.
  abbrev AreComputed : List ActualForm → List Value → Type 0
  AreComputed [] vs = Unit {0}
  AreComputed (in_out_component path ∷ rest) [] = ⊥
  AreComputed (in_out_component path ∷ rest) (r ∷ []) = ⊥
  AreComputed (in_out_component path ∷ rest) (r ∷ v ∷ vs) = OpenedBy heap places path r × AreComputed rest vs
  AreComputed (a ∷ rest) [] = ⊥
  AreComputed (a ∷ rest) (v ∷ vs) = PassedBy heap places a v × AreComputed rest vs

  -- These refer to the components that are given, in order.
  abbrev pub ReferTo : List ActualForm → (references : List Value) → Type 0
  ReferTo [] [] = Unit {0}
  ReferTo [] (r ∷ rs) = ⊥
  ReferTo (in_value e ∷ rest) rs = ReferTo rest rs
  ReferTo (in_null ∷ rest) rs = ReferTo rest rs
  ReferTo (in_access path ∷ rest) rs = ReferTo rest rs
  ReferTo (in_record p ∷ rest) rs = ReferTo rest rs
  ReferTo (in_out_path path ∷ rest) rs = ReferTo rest rs
  ReferTo (in_out_access path ∷ rest) rs = ReferTo rest rs
  ReferTo (in_out_component path ∷ rest) [] = ⊥
  ReferTo (in_out_component path ∷ rest) (r ∷ rs) = OpenedBy heap places path r × ReferTo rest rs
  ReferTo (in_out_record p ∷ rest) rs = ReferTo rest rs

  -- So they are among the newest operands, turned round.
  one_more : (n : ℕ) → 1 + n ≡ suc n
  one_more n = omega arith

  two_more : (n : ℕ) → 2 + n ≡ suc (suc n)
  two_more n = omega arith

  in_order : (done todo : List ActualForm) (operands later : List Value) → ArePassed heap places done operands → AreComputed todo later → AreComputed (reverse_aux done todo) (reverse_aux (take (operand_count done) operands) later)
  in_order [] todo operands later passed behind = behind
  in_order (in_value e ∷ done) todo [] later passed behind = absurd passed
  in_order (in_value e ∷ done) todo (v ∷ vs) later passed behind = rw (one_more (operand_count done)) (in_order done (in_value e ∷ todo) vs (v ∷ later) passed.1 (passed.0, behind))
  in_order (in_null ∷ done) todo [] later passed behind = absurd passed
  in_order (in_null ∷ done) todo (v ∷ vs) later passed behind = rw (one_more (operand_count done)) (in_order done (in_null ∷ todo) vs (v ∷ later) passed.1 (passed.0, behind))
  in_order (in_access path ∷ done) todo [] later passed behind = absurd passed
  in_order (in_access path ∷ done) todo (v ∷ vs) later passed behind = rw (one_more (operand_count done)) (in_order done (in_access path ∷ todo) vs (v ∷ later) passed.1 (passed.0, behind))
  in_order (in_record p ∷ done) todo [] later passed behind = absurd passed
  in_order (in_record p ∷ done) todo (v ∷ vs) later passed behind = rw (one_more (operand_count done)) (in_order done (in_record p ∷ todo) vs (v ∷ later) passed.1 (passed.0, behind))
  in_order (in_out_path path ∷ done) todo [] later passed behind = absurd passed
  in_order (in_out_path path ∷ done) todo (v ∷ vs) later passed behind = rw (one_more (operand_count done)) (in_order done (in_out_path path ∷ todo) vs (v ∷ later) passed.1 (passed.0, behind))
  in_order (in_out_access path ∷ done) todo [] later passed behind = absurd passed
  in_order (in_out_access path ∷ done) todo (v ∷ vs) later passed behind = rw (one_more (operand_count done)) (in_order done (in_out_access path ∷ todo) vs (v ∷ later) passed.1 (passed.0, behind))
  in_order (in_out_component path ∷ done) todo [] later passed behind = absurd passed
  in_order (in_out_component path ∷ done) todo (v ∷ []) later passed behind = absurd passed
  in_order (in_out_component path ∷ done) todo (v ∷ r ∷ vs) later passed behind = rw (two_more (operand_count done)) (in_order done (in_out_component path ∷ todo) vs (r ∷ v ∷ later) passed.1 (passed.0, behind))
  in_order (in_out_record p ∷ done) todo [] later passed behind = absurd passed
  in_order (in_out_record p ∷ done) todo (v ∷ vs) later passed behind = rw (one_more (operand_count done)) (in_order done (in_out_record p ∷ todo) vs (v ∷ later) passed.1 (passed.0, behind))

  -- Which of them are the values of formal parameters, and which refer to components.
  values_given : (actuals : List ActualForm) (vs : List Value) → AreComputed actuals vs → AreGiven heap places actuals (given_values actuals vs)
  values_given [] vs c = tt
  values_given (in_value e ∷ rest) [] c = absurd c
  values_given (in_value e ∷ rest) (v ∷ vs) c = (c.0, values_given rest vs c.1)
  values_given (in_null ∷ rest) [] c = absurd c
  values_given (in_null ∷ rest) (v ∷ vs) c = (c.0, values_given rest vs c.1)
  values_given (in_access path ∷ rest) [] c = absurd c
  values_given (in_access path ∷ rest) (v ∷ vs) c = (c.0, values_given rest vs c.1)
  values_given (in_record p ∷ rest) [] c = absurd c
  values_given (in_record p ∷ rest) (v ∷ vs) c = (c.0, values_given rest vs c.1)
  values_given (in_out_path path ∷ rest) [] c = absurd c
  values_given (in_out_path path ∷ rest) (v ∷ vs) c = (c.0, values_given rest vs c.1)
  values_given (in_out_access path ∷ rest) [] c = absurd c
  values_given (in_out_access path ∷ rest) (v ∷ vs) c = (c.0, values_given rest vs c.1)
  values_given (in_out_component path ∷ rest) [] c = absurd c
  values_given (in_out_component path ∷ rest) (r ∷ []) c = absurd c
  values_given (in_out_component path ∷ rest) (r ∷ v ∷ vs) c = (tt, values_given rest vs c.1)
  values_given (in_out_record p ∷ rest) [] c = absurd c
  values_given (in_out_record p ∷ rest) (v ∷ vs) c = (c.0, values_given rest vs c.1)

  references_given : (actuals : List ActualForm) (vs : List Value) → AreComputed actuals vs → ReferTo actuals (references_in actuals vs)
  references_given [] vs c = tt
  references_given (in_value e ∷ rest) [] c = absurd c
  references_given (in_value e ∷ rest) (v ∷ vs) c = references_given rest vs c.1
  references_given (in_null ∷ rest) [] c = absurd c
  references_given (in_null ∷ rest) (v ∷ vs) c = references_given rest vs c.1
  references_given (in_access path ∷ rest) [] c = absurd c
  references_given (in_access path ∷ rest) (v ∷ vs) c = references_given rest vs c.1
  references_given (in_record p ∷ rest) [] c = absurd c
  references_given (in_record p ∷ rest) (v ∷ vs) c = references_given rest vs c.1
  references_given (in_out_path path ∷ rest) [] c = absurd c
  references_given (in_out_path path ∷ rest) (v ∷ vs) c = references_given rest vs c.1
  references_given (in_out_access path ∷ rest) [] c = absurd c
  references_given (in_out_access path ∷ rest) (v ∷ vs) c = references_given rest vs c.1
  references_given (in_out_component path ∷ rest) [] c = absurd c
  references_given (in_out_component path ∷ rest) (r ∷ []) c = absurd c
  references_given (in_out_component path ∷ rest) (r ∷ v ∷ vs) c = (c.0, references_given rest vs c.1)
  references_given (in_out_record p ∷ rest) [] c = absurd c
  references_given (in_out_record p ∷ rest) (v ∷ vs) c = references_given rest vs c.1

-- There are as many operands, in whatever order the actual parameters are.
counted_one : (a : ActualForm) (rest : List ActualForm) → operand_count (a ∷ rest) ≡ operand_count (a ∷ []) + operand_count rest
counted_one (in_value e) rest = omega arith
counted_one in_null rest = omega arith
counted_one (in_access path) rest = omega arith
counted_one (in_record p) rest = omega arith
counted_one (in_out_path path) rest = omega arith
counted_one (in_out_access path) rest = omega arith
counted_one (in_out_component path) rest = omega arith
counted_one (in_out_record p) rest = omega arith

counted_onto : (done todo : List ActualForm) → operand_count (reverse_aux done todo) ≡ operand_count done + operand_count todo
counted_onto [] todo = omega arith
counted_onto (a ∷ done) todo =
    let onto = counted_onto done (a ∷ todo) in
    let one = counted_one a todo in
    let other = counted_one a done in
    omega (arith, onto, one, other)

counted_back : (actuals : List ActualForm) → operand_count (reverse actuals) ≡ operand_count actuals
counted_back actuals = let onto = counted_onto actuals [] in omega (arith, onto)

module _ (heap : List Object) (places : List Value) (actuals : List ActualForm) (operands : List Value) (passed : ArePassed heap places (reverse actuals) operands) where
  all_computed : AreComputed heap places actuals (reverse (take (operand_count actuals) operands))
  all_computed =
      let turned = in_order heap places (reverse actuals) [] operands [] passed tt in
      rw (reverse-reverse actuals, counted_back actuals) at turned

  pub passed_in_order : AreGiven heap places actuals (given_values actuals (reverse (take (operand_count actuals) operands)))
  passed_in_order = values_given heap places actuals (reverse (take (operand_count actuals) operands)) all_computed

  pub referred_in_order : ReferTo heap places actuals (references_in actuals (reverse (take (operand_count actuals) operands)))
  referred_in_order = references_given heap places actuals (reverse (take (operand_count actuals) operands)) all_computed

-- The objects to which values refer, that are there.
abbrev referred_at : Id → Option ℕ → List Reference
referred_at o None = []
referred_at o (Some t) = record { object = o; access = t } ∷ []

abbrev referred_of : List Object → Value → List Reference
referred_of heap Null = []
referred_of heap (Names o) = []
referred_of heap (Scalar v) = []
referred_of heap (Part o first) = referred_at o (access_at heap o)

-- Those of records that are passed, and those of components that get something back.
abbrev pub referred_by : List Object → List ActualForm → (values : List Value) → List Reference
referred_by heap [] vs = []
referred_by heap (a ∷ rest) [] = []
referred_by heap (in_value e ∷ rest) (v ∷ vs) = referred_by heap rest vs
referred_by heap (in_null ∷ rest) (v ∷ vs) = referred_by heap rest vs
referred_by heap (in_access path ∷ rest) (v ∷ vs) = referred_by heap rest vs
referred_by heap (in_record p ∷ rest) (v ∷ vs) = referred_of heap v ++ referred_by heap rest vs
referred_by heap (in_out_path path ∷ rest) (v ∷ vs) = referred_by heap rest vs
referred_by heap (in_out_access path ∷ rest) (v ∷ vs) = referred_by heap rest vs
referred_by heap (in_out_component path ∷ rest) (v ∷ vs) = referred_by heap rest vs
referred_by heap (in_out_record p ∷ rest) (v ∷ vs) = referred_of heap v ++ referred_by heap rest vs

abbrev pub referred_from : List Object → (references : List Value) → List Reference
referred_from heap [] = []
referred_from heap (r ∷ rs) = referred_of heap r ++ referred_from heap rs

-- They are there.
at_there : (heap : List Object) (p : Id) (found : Option ℕ) (o : Id) (t : ℕ) → access_at heap p ≡ found → IsReferred (referred_at p found) o t → access_at heap o ≡ Some t
at_there heap p None o t at is = absurd is
at_there heap p (Some u) o t at (inl (same, one)) = rw (← same, at, one) refl
at_there heap p (Some u) o t at (inr is) = absurd is

of_there : (heap : List Object) (v : Value) (o : Id) (t : ℕ) → IsReferred (referred_of heap v) o t → access_at heap o ≡ Some t
of_there heap Null o t is = absurd is
of_there heap (Names p) o t is = absurd is
of_there heap (Scalar v) o t is = absurd is
of_there heap (Part p first) o t is = at_there heap p (access_at heap p) o t refl is

either_there : (heap : List Object) (v : Value) (rs : List Reference) (o : Id) (t : ℕ) → (IsReferred rs o t → access_at heap o ≡ Some t) → IsReferred (referred_of heap v ++ rs) o t → access_at heap o ≡ Some t
either_there heap v rs o t later is = elim (referred_either (referred_of heap v) rs o t is) [ inl here ↦ of_there heap v o t here | inr there ↦ later there ]

pub by_there : (heap : List Object) (actuals : List ActualForm) (vs : List Value) (o : Id) (t : ℕ) → IsReferred (referred_by heap actuals vs) o t → access_at heap o ≡ Some t
by_there heap [] vs o t is = absurd is
by_there heap (a ∷ rest) [] o t is = absurd is
by_there heap (in_value e ∷ rest) (v ∷ vs) o t is = by_there heap rest vs o t is
by_there heap (in_null ∷ rest) (v ∷ vs) o t is = by_there heap rest vs o t is
by_there heap (in_access path ∷ rest) (v ∷ vs) o t is = by_there heap rest vs o t is
by_there heap (in_record p ∷ rest) (v ∷ vs) o t is = either_there heap v (referred_by heap rest vs) o t (by_there heap rest vs o t) is
by_there heap (in_out_path path ∷ rest) (v ∷ vs) o t is = by_there heap rest vs o t is
by_there heap (in_out_access path ∷ rest) (v ∷ vs) o t is = by_there heap rest vs o t is
by_there heap (in_out_component path ∷ rest) (v ∷ vs) o t is = by_there heap rest vs o t is
by_there heap (in_out_record p ∷ rest) (v ∷ vs) o t is = either_there heap v (referred_by heap rest vs) o t (by_there heap rest vs o t) is

pub from_there : (heap : List Object) (rs : List Value) (o : Id) (t : ℕ) → IsReferred (referred_from heap rs) o t → access_at heap o ≡ Some t
from_there heap [] o t is = absurd is
from_there heap (r ∷ rs) o t is = either_there heap r (referred_from heap rs) o t (from_there heap rs o t) is

-- What refers to an object that is there is among them.
of_here : (heap : List Object) (v : Value) (o : Id) (place : Place) (t : ℕ) → v ≡ Part o place → access_at heap o ≡ Some t → IsReferred (referred_of heap v) o t
of_here heap v o place t is at = rw (is, at) (inl (refl, refl))

-- A scalar has no access type.
scalar_leads : (t : ScalarType) (found : Option VariableKind) → is_type t (scalar_of found) ≡ true → (to : VariableKind) × (found ≡ Some to) × (access_of (Some to) ≡ None)
scalar_leads t None e = absurd (none_fits t e)
  where
    none_fits : (t : ScalarType) → is_type t None ≡ true → ⊥
    none_fits t e = cc e
scalar_leads t (Some kinds.Integer) e = (kinds.Integer, refl, refl)
scalar_leads t (Some kinds.Boolean) e = (kinds.Boolean, refl, refl)
scalar_leads t (Some (kinds.Access access)) e = absurd (cc e)
scalar_leads t (Some (kinds.Record object)) e = absurd (cc e)

-- What is selected is no record object.
selectors_no_object : (types : List TypeForm) (from : Option VariableKind) (c : ℕ) (cs : List ℕ) (to : VariableKind) → selectors_kind types from (c ∷ cs) ≡ Some to → names_object (Some to) ≡ false
selectors_no_object types from c [] to is = selected_no_object types from c to is
selectors_no_object types from c (d ∷ cs) to is = selectors_no_object types (selected_kind types from c) d cs to is

true_name : (found : Option ℕ) (t : ℕ) → found ≡ Some t → names_value found ≡ true
true_name found t e = rw e refl

module _ (types : List TypeForm) (own : List VariableForm) (may : ℕ → Bool) {outer : Outsiders} (heap : List Object) (places : List Value) (holds : Holds) (f : Fit types own outer none_spared heap places holds) where
  -- A component that is given holds an Integer or a Boolean, and is passed safely.
  pub record GivenScalar (path : PathForm) : Type 0 where
    pub to : VariableKind
    pub leads : path_kind types own path ≡ Some to
    pub scalar : access_of (Some to) ≡ None
    pub kept : lost_by (hold_at holds path.root) path.spot ≡ None
    pub safe : component_passes types own may path ≡ false

  opened_safe : (owning unsafe : Bool) (h : Hold) (spot : Spot) → opened_by_call owning unsafe h spot ≡ None → (unsafe ≡ false) × (lost_by h spot ≡ None)
  opened_safe true unsafe h spot e = absurd (taken_never h spot e)
  opened_safe false unsafe h spot e = passed_safe unsafe h spot e

  given_safe : (path : PathForm) (earlier : List ActualForm) → NoneBroken holds (uses_in_actual types own may earlier (in_out_component path)) → (lost_by (hold_at holds path.root) path.spot ≡ None) × (component_passes types own may path ≡ false)
  given_safe path earlier kept =
      let unsafe = is_begun_with earlier path.root || component_passes types own may path in
      let owning = names_value (path_access types own path) in
      let used = (followings.first_kept holds (opens_it owning unsafe path) [] kept).0 in
      let safe = opened_safe owning unsafe (hold_at holds path.root) path.spot used in
      (safe.1, or_false (is_begun_with earlier path.root) (component_passes types own may path) safe.0)

  given_scalar : (kind : VariableKind) (path : PathForm) (earlier : List ActualForm) → actual_fits types own kind (in_out_component path) ≡ true → NoneBroken holds (uses_in_actual types own may earlier (in_out_component path)) → GivenScalar path
  given_scalar kinds.Integer path earlier suits kept =
      let two = and_parts (is_type scalar_type.Integer (scalar_of (path_kind types own path))) (not (stands_alone path.selectors)) suits in
      let h = scalar_leads scalar_type.Integer (path_kind types own path) two.0 in
      let safe = given_safe path earlier kept in
      record { to = h.0; leads = h.1; scalar = h.2; kept = safe.0; safe = safe.1 }
  given_scalar kinds.Boolean path earlier suits kept =
      let two = and_parts (is_type scalar_type.Boolean (scalar_of (path_kind types own path))) (not (stands_alone path.selectors)) suits in
      let h = scalar_leads scalar_type.Boolean (path_kind types own path) two.0 in
      let safe = given_safe path earlier kept in
      record { to = h.0; leads = h.1; scalar = h.2; kept = safe.0; safe = safe.1 }
  given_scalar (kinds.Access access) path earlier suits kept =
      let two = and_parts (names_access types own access.0 path) (not (stands_alone path.selectors)) suits in
      let one = and_parts (is_this access.0 (path_access types own path)) (not (names_borrower own path)) two.0 in
      let is = this_is access.0 (path_access types own path) one.0 in
      let unsafe = is_begun_with earlier path.root || component_passes types own may path in
      let used = (followings.first_kept holds (opens_it (names_value (path_access types own path)) unsafe path) [] kept).0 in
      absurd (taken_never (hold_at holds path.root) path.spot (rw (true_name (path_access types own path) access.0 is) at used))
  given_scalar (kinds.Record object) path earlier suits kept = absurd (cc suits)

  -- What refers to the component that is given.
  abbrev OpensIt : PathForm → Value → VariableKind → Type 0
  OpensIt path r to = Opened types own outer.referenced heap path to r

  opens_it_by : (path : PathForm) (r : Value) (s : GivenScalar path) → OpenedBy heap places path r → OpensIt path r s.to
  opens_it_by path r s by = component_opened f path s.to r s.leads s.kept by

  -- So all that refers to components leads to Integers and Booleans in objects that are there.
  more_opened : (rs ss : List Reference) (references : List Value) → ((o : Id) (t : ℕ) → IsReferred rs o t → IsReferred ss o t) → AreOpened types rs references → AreOpened types ss references
  more_opened rs ss [] more opened = tt
  more_opened rs ss (r ∷ rest) more ((o, place, t, is, refers, none), later) = ((o, place, t, is, more o t refers, none), more_opened rs ss rest more later)

  opened_all : (ks : List VariableKind) (actuals : List ActualForm) (references : List Value) (earlier : List ActualForm) → actuals_fit types own ks actuals ≡ true → ReferTo heap places actuals references → NoneBroken holds (uses_in_actuals types own may earlier actuals) → AreOpened types (referred_from heap references) references
  opened_all ks [] [] earlier suits refer kept = tt
  opened_all ks [] (r ∷ rs) earlier suits refer kept = absurd refer
  opened_all [] (a ∷ rest) rs earlier suits refer kept = absurd (cc suits)
  opened_all (k ∷ ks) (in_value e ∷ rest) rs earlier suits refer kept = opened_all ks rest rs (earlier ++ in_value e ∷ []) (and_parts _ _ suits).1 refer (kept_apart holds (uses_in_actual types own may earlier (in_value e)) (uses_in_actuals types own may (earlier ++ in_value e ∷ []) rest) kept).1
  opened_all (k ∷ ks) (in_null ∷ rest) rs earlier suits refer kept = opened_all ks rest rs (earlier ++ in_null ∷ []) (and_parts _ _ suits).1 refer (kept_apart holds (uses_in_actual types own may earlier in_null) (uses_in_actuals types own may (earlier ++ in_null ∷ []) rest) kept).1
  opened_all (k ∷ ks) (in_access path ∷ rest) rs earlier suits refer kept = opened_all ks rest rs (earlier ++ in_access path ∷ []) (and_parts _ _ suits).1 refer (kept_apart holds (uses_in_actual types own may earlier (in_access path)) (uses_in_actuals types own may (earlier ++ in_access path ∷ []) rest) kept).1
  opened_all (k ∷ ks) (in_record p ∷ rest) rs earlier suits refer kept = opened_all ks rest rs (earlier ++ in_record p ∷ []) (and_parts _ _ suits).1 refer (kept_apart holds (uses_in_actual types own may earlier (in_record p)) (uses_in_actuals types own may (earlier ++ in_record p ∷ []) rest) kept).1
  opened_all (k ∷ ks) (in_out_path path ∷ rest) rs earlier suits refer kept = opened_all ks rest rs (earlier ++ in_out_path path ∷ []) (and_parts _ _ suits).1 refer (kept_apart holds (uses_in_actual types own may earlier (in_out_path path)) (uses_in_actuals types own may (earlier ++ in_out_path path ∷ []) rest) kept).1
  opened_all (k ∷ ks) (in_out_access path ∷ rest) rs earlier suits refer kept = opened_all ks rest rs (earlier ++ in_out_access path ∷ []) (and_parts _ _ suits).1 refer (kept_apart holds (uses_in_actual types own may earlier (in_out_access path)) (uses_in_actuals types own may (earlier ++ in_out_access path ∷ []) rest) kept).1
  opened_all (k ∷ ks) (in_out_record p ∷ rest) rs earlier suits refer kept = opened_all ks rest rs (earlier ++ in_out_record p ∷ []) (and_parts _ _ suits).1 refer (kept_apart holds (uses_in_actual types own may earlier (in_out_record p)) (uses_in_actuals types own may (earlier ++ in_out_record p ∷ []) rest) kept).1
  opened_all (k ∷ ks) (in_out_component path ∷ rest) [] earlier suits refer kept = absurd refer
  opened_all (k ∷ ks) (in_out_component path ∷ rest) (r ∷ rs) earlier suits refer kept =
      let two = kept_apart holds (uses_in_actual types own may earlier (in_out_component path)) (uses_in_actuals types own may (earlier ++ in_out_component path ∷ []) rest) kept in
      let both = and_parts (actual_fits types own k (in_out_component path)) (actuals_fit types own ks rest) suits in
      let s = given_scalar k path earlier both.0 two.0 in
      let h = opens_it_by path r s refer.0 in
      let later = opened_all ks rest rs (earlier ++ in_out_component path ∷ []) both.1 refer.1 two.1 in (
        (h.o, record { component = h.c; part = 0 }, h.t, h.is, referred_first (referred_of heap r) (referred_from heap rs) h.o h.t (of_here heap r h.o (record { component = h.c; part = 0 }) h.t h.is h.there), ap access_of h.kind ∙ s.scalar),
        more_opened (referred_from heap rs) (referred_of heap r ++ referred_from heap rs) rs (λ o t is. referred_behind (referred_of heap r) (referred_from heap rs) o t is) later,
      )

  -- All of it that is of an access type of which the call may free objects is owned outside.
  module _ (records : (x : ℕ) (t : TypeNo) → variable_kind own x ≡ Some (kinds.Record t) → is_access types t.0 ≡ false) (t : ℕ) (frees : may t ≡ true) (of_access : is_access types t ≡ true) (spares : (o : Id) → IsReferred outer.referenced o t → IsOwnedOutside outer o) where
    part_same : (v : Value) (p o : Id) (place : Place) (u : ℕ) → v ≡ Part p place → access_at heap p ≡ Some u → IsReferred (referred_of heap v) o t → (p ≡ o) × (u ≡ t)
    part_same v p o place u is at refers = go (rw (is, at) at refers)
      where
        go : IsReferred (record { object = p; access = u } ∷ []) o t → (p ≡ o) × (u ≡ t)
        go (inl same) = same
        go (inr none) = absurd none

    opened_spared : (path : PathForm) (r : Value) (o : Id) → GivenScalar path → OpenedBy heap places path r → IsReferred (referred_of heap r) o t → IsOwnedOutside outer o
    opened_spared path r o s by refers =
        let h = opens_it_by path r s by in
        let same = part_same r h.o o (record { component = h.c; part = 0 }) h.t h.is h.there refers in
        go h.o h.t h.spared same
      where
        go : (p : Id) (u : ℕ) → IsSpared (λ may'. component_passes types own may' path ≡ false) outer.referenced p u → (p ≡ o) × (u ≡ t) → IsOwnedOutside outer o
        go p u (inl static) same = let never = static may s.safe in let one = same.1 in absurd (cc (rw one at never, frees))
        go p u (inr known) same = spares o (rw (same.0, same.1) at known)

    kind_spared : (path : PathForm) (found : Option VariableKind) → path_kind types own path ≡ found → access_of found ≡ Some t → (component_passes types own may path || is_freed may (path_access types own path)) ≡ false → ⊥
    kind_spared path None leads at safe = cc at
    kind_spared path (Some kinds.Integer) leads at safe = cc at
    kind_spared path (Some kinds.Boolean) leads at safe = cc at
    kind_spared path (Some (kinds.Access access)) leads at safe =
        let one : access.0 ≡ t = cc at in
        let named : path_access types own path ≡ Some t = ap value_access leads ∙ at in
        let never = or_false (component_passes types own may path) (is_freed may (path_access types own path)) safe in
        cc (rw named at never, frees)
    kind_spared path (Some (kinds.Record object)) leads at safe = go path.selectors (from_root types path.of_record (variable_kind own path.root) path.selectors (kinds.Record object) leads)
      where
        go : (cs : List ℕ) → selectors_kind types (variable_kind own path.root) cs ≡ Some (kinds.Record object) → ⊥
        go [] is =
            let none = records path.root object is in
            let one : object.0 ≡ t = cc at in
            let of : is_access types object.0 ≡ true = rw one of_access in
            cc (none, of)
        go (c ∷ cs) is = let none = selectors_no_object types (variable_kind own path.root) c cs (kinds.Record object) is in cc none

    record_spared : (p : RecordPathForm) (v : Value) (o : Id) → is_record_path types own p ≡ true → ReferredBy heap places p v → lost_by (hold_at holds p.object.root) p.object.spot ≡ None → record_passes types own may p ≡ false → IsReferred (referred_of heap v) o t → IsOwnedOutside outer o
    record_spared p v o lies by kept safe refers =
        let h = record_referred f p v lies kept by in
        let same = part_same v h.o o h.place h.t h.is h.there refers in
        go h.o h.t h.spared same
      where
        go : (q : Id) (u : ℕ) → (access_of (path_kind types own p.object) ≡ Some u) ⊎ IsReferred outer.referenced q u → (q ≡ o) × (u ≡ t) → IsOwnedOutside outer o
        go q u (inl at) same = absurd (kind_spared p.object (path_kind types own p.object) refl (rw same.1 at at) safe)
        go q u (inr known) same = spares o (rw (same.0, same.1) at known)

    either_spared : (v : Value) (rs : List Reference) (o : Id) → (IsReferred (referred_of heap v) o t → IsOwnedOutside outer o) → (IsReferred rs o t → IsOwnedOutside outer o) → IsReferred (referred_of heap v ++ rs) o t → IsOwnedOutside outer o
    either_spared v rs o here later is = elim (referred_either (referred_of heap v) rs o t is) [ inl e ↦ here e | inr e ↦ later e ]

    fits_record : (kind : VariableKind) (p : RecordPathForm) → actual_fits types own kind (in_record p) ≡ true → is_record_path types own p ≡ true
    fits_record kinds.Integer p suits = absurd (cc suits)
    fits_record kinds.Boolean p suits = absurd (cc suits)
    fits_record (kinds.Access access) p suits = absurd (cc suits)
    fits_record (kinds.Record object) p suits = (and_parts (is_record_path types own p) (is_this p.record_type (object_in (slice_get types object.0))) suits).0

    fits_out_record : (kind : VariableKind) (p : RecordPathForm) → actual_fits types own kind (in_out_record p) ≡ true → is_record_path types own p ≡ true
    fits_out_record kinds.Integer p suits = absurd (cc suits)
    fits_out_record kinds.Boolean p suits = absurd (cc suits)
    fits_out_record (kinds.Access access) p suits = absurd (cc suits)
    fits_out_record (kinds.Record object) p suits = (and_parts (is_record_path types own p) (is_this p.record_type (object_in (slice_get types object.0))) suits).0

    record_safe : (again : Bool) (p : RecordPathForm) → NoneBroken holds (passes_it (again || record_passes types own may p) p.object ∷ []) → (lost_by (hold_at holds p.object.root) p.object.spot ≡ None) × (record_passes types own may p ≡ false)
    record_safe again p kept =
        let used = (followings.first_kept holds (passes_it (again || record_passes types own may p) p.object) [] kept).0 in
        let safe = passed_safe (again || record_passes types own may p) (hold_at holds p.object.root) p.object.spot used in
        (safe.1, or_false again (record_passes types own may p) safe.0)

    values_spared : (ks : List VariableKind) (actuals : List ActualForm) (vs : List Value) (earlier : List ActualForm) → actuals_fit types own ks actuals ≡ true → AreGiven heap places actuals vs → NoneBroken holds (uses_in_actuals types own may earlier actuals) → (o : Id) → IsReferred (referred_by heap actuals vs) o t → IsOwnedOutside outer o
    values_spared ks [] vs earlier suits given kept o is = absurd is
    values_spared [] (a ∷ rest) vs earlier suits given kept o is = absurd (cc suits)
    values_spared (k ∷ ks) (a ∷ rest) [] earlier suits given kept o is = absurd is
    values_spared (k ∷ ks) (in_value e ∷ rest) (v ∷ vs) earlier suits given kept o is = values_spared ks rest vs (earlier ++ in_value e ∷ []) (and_parts (actual_fits types own k (in_value e)) (actuals_fit types own ks rest) suits).1 given.1 (kept_apart holds (uses_in_actual types own may earlier (in_value e)) (uses_in_actuals types own may (earlier ++ in_value e ∷ []) rest) kept).1 o is
    values_spared (k ∷ ks) (in_null ∷ rest) (v ∷ vs) earlier suits given kept o is = values_spared ks rest vs (earlier ++ in_null ∷ []) (and_parts (actual_fits types own k (in_null)) (actuals_fit types own ks rest) suits).1 given.1 (kept_apart holds (uses_in_actual types own may earlier (in_null)) (uses_in_actuals types own may (earlier ++ in_null ∷ []) rest) kept).1 o is
    values_spared (k ∷ ks) (in_access path ∷ rest) (v ∷ vs) earlier suits given kept o is = values_spared ks rest vs (earlier ++ in_access path ∷ []) (and_parts (actual_fits types own k (in_access path)) (actuals_fit types own ks rest) suits).1 given.1 (kept_apart holds (uses_in_actual types own may earlier (in_access path)) (uses_in_actuals types own may (earlier ++ in_access path ∷ []) rest) kept).1 o is
    values_spared (k ∷ ks) (in_out_path path ∷ rest) (v ∷ vs) earlier suits given kept o is = values_spared ks rest vs (earlier ++ in_out_path path ∷ []) (and_parts (actual_fits types own k (in_out_path path)) (actuals_fit types own ks rest) suits).1 given.1 (kept_apart holds (uses_in_actual types own may earlier (in_out_path path)) (uses_in_actuals types own may (earlier ++ in_out_path path ∷ []) rest) kept).1 o is
    values_spared (k ∷ ks) (in_out_access path ∷ rest) (v ∷ vs) earlier suits given kept o is = values_spared ks rest vs (earlier ++ in_out_access path ∷ []) (and_parts (actual_fits types own k (in_out_access path)) (actuals_fit types own ks rest) suits).1 given.1 (kept_apart holds (uses_in_actual types own may earlier (in_out_access path)) (uses_in_actuals types own may (earlier ++ in_out_access path ∷ []) rest) kept).1 o is
    values_spared (k ∷ ks) (in_out_component path ∷ rest) (v ∷ vs) earlier suits given kept o is = values_spared ks rest vs (earlier ++ in_out_component path ∷ []) (and_parts (actual_fits types own k (in_out_component path)) (actuals_fit types own ks rest) suits).1 given.1 (kept_apart holds (uses_in_actual types own may earlier (in_out_component path)) (uses_in_actuals types own may (earlier ++ in_out_component path ∷ []) rest) kept).1 o is
    values_spared (k ∷ ks) (in_record p ∷ rest) (v ∷ vs) earlier suits given kept o is =
        let both = and_parts (actual_fits types own k (in_record p)) (actuals_fit types own ks rest) suits in
        let two = kept_apart holds (uses_in_actual types own may earlier (in_record p)) (uses_in_actuals types own may (earlier ++ in_record p ∷ []) rest) kept in
        let safe = record_safe (is_given earlier p.object.root) p two.0 in
        either_spared v (referred_by heap rest vs) o (record_spared p v o (fits_record k p both.0) given.0 safe.0 safe.1) (values_spared ks rest vs (earlier ++ in_record p ∷ []) both.1 given.1 two.1 o) is
    values_spared (k ∷ ks) (in_out_record p ∷ rest) (v ∷ vs) earlier suits given kept o is =
        let both = and_parts (actual_fits types own k (in_out_record p)) (actuals_fit types own ks rest) suits in
        let two = kept_apart holds (uses_in_actual types own may earlier (in_out_record p)) (uses_in_actuals types own may (earlier ++ in_out_record p ∷ []) rest) kept in
        let safe = record_safe (is_begun_with earlier p.object.root) p two.0 in
        either_spared v (referred_by heap rest vs) o (record_spared p v o (fits_out_record k p both.0) given.0 safe.0 safe.1) (values_spared ks rest vs (earlier ++ in_out_record p ∷ []) both.1 given.1 two.1 o) is

    references_spared : (ks : List VariableKind) (actuals : List ActualForm) (rs : List Value) (earlier : List ActualForm) → actuals_fit types own ks actuals ≡ true → ReferTo heap places actuals rs → NoneBroken holds (uses_in_actuals types own may earlier actuals) → (o : Id) → IsReferred (referred_from heap rs) o t → IsOwnedOutside outer o
    references_spared ks [] [] earlier suits refer kept o is = absurd is
    references_spared ks [] (r ∷ rs) earlier suits refer kept o is = absurd refer
    references_spared [] (a ∷ rest) rs earlier suits refer kept o is = absurd (cc suits)
    references_spared (k ∷ ks) (in_value e ∷ rest) rs earlier suits refer kept o is = references_spared ks rest rs (earlier ++ in_value e ∷ []) (and_parts (actual_fits types own k (in_value e)) (actuals_fit types own ks rest) suits).1 refer (kept_apart holds (uses_in_actual types own may earlier (in_value e)) (uses_in_actuals types own may (earlier ++ in_value e ∷ []) rest) kept).1 o is
    references_spared (k ∷ ks) (in_null ∷ rest) rs earlier suits refer kept o is = references_spared ks rest rs (earlier ++ in_null ∷ []) (and_parts (actual_fits types own k (in_null)) (actuals_fit types own ks rest) suits).1 refer (kept_apart holds (uses_in_actual types own may earlier (in_null)) (uses_in_actuals types own may (earlier ++ in_null ∷ []) rest) kept).1 o is
    references_spared (k ∷ ks) (in_access path ∷ rest) rs earlier suits refer kept o is = references_spared ks rest rs (earlier ++ in_access path ∷ []) (and_parts (actual_fits types own k (in_access path)) (actuals_fit types own ks rest) suits).1 refer (kept_apart holds (uses_in_actual types own may earlier (in_access path)) (uses_in_actuals types own may (earlier ++ in_access path ∷ []) rest) kept).1 o is
    references_spared (k ∷ ks) (in_out_path path ∷ rest) rs earlier suits refer kept o is = references_spared ks rest rs (earlier ++ in_out_path path ∷ []) (and_parts (actual_fits types own k (in_out_path path)) (actuals_fit types own ks rest) suits).1 refer (kept_apart holds (uses_in_actual types own may earlier (in_out_path path)) (uses_in_actuals types own may (earlier ++ in_out_path path ∷ []) rest) kept).1 o is
    references_spared (k ∷ ks) (in_out_access path ∷ rest) rs earlier suits refer kept o is = references_spared ks rest rs (earlier ++ in_out_access path ∷ []) (and_parts (actual_fits types own k (in_out_access path)) (actuals_fit types own ks rest) suits).1 refer (kept_apart holds (uses_in_actual types own may earlier (in_out_access path)) (uses_in_actuals types own may (earlier ++ in_out_access path ∷ []) rest) kept).1 o is
    references_spared (k ∷ ks) (in_record p ∷ rest) rs earlier suits refer kept o is = references_spared ks rest rs (earlier ++ in_record p ∷ []) (and_parts (actual_fits types own k (in_record p)) (actuals_fit types own ks rest) suits).1 refer (kept_apart holds (uses_in_actual types own may earlier (in_record p)) (uses_in_actuals types own may (earlier ++ in_record p ∷ []) rest) kept).1 o is
    references_spared (k ∷ ks) (in_out_record p ∷ rest) rs earlier suits refer kept o is = references_spared ks rest rs (earlier ++ in_out_record p ∷ []) (and_parts (actual_fits types own k (in_out_record p)) (actuals_fit types own ks rest) suits).1 refer (kept_apart holds (uses_in_actual types own may earlier (in_out_record p)) (uses_in_actuals types own may (earlier ++ in_out_record p ∷ []) rest) kept).1 o is
    references_spared (k ∷ ks) (in_out_component path ∷ rest) [] earlier suits refer kept o is = absurd refer
    references_spared (k ∷ ks) (in_out_component path ∷ rest) (r ∷ rs) earlier suits refer kept o is =
        let both = and_parts (actual_fits types own k (in_out_component path)) (actuals_fit types own ks rest) suits in
        let two = kept_apart holds (uses_in_actual types own may earlier (in_out_component path)) (uses_in_actuals types own may (earlier ++ in_out_component path ∷ []) rest) kept in
        either_spared r (referred_from heap rs) o (opened_spared path r o (given_scalar k path earlier both.0 two.0) refer.0) (references_spared ks rest rs (earlier ++ in_out_component path ∷ []) both.1 refer.1 two.1 o) is

    -- So is all that the call passes.
    pub all_spared : (ks : List VariableKind) (actuals : List ActualForm) (vs rs : List Value) → actuals_fit types own ks actuals ≡ true → AreGiven heap places actuals vs → ReferTo heap places actuals rs → NoneBroken holds (uses_in_actuals types own may [] actuals) → (o : Id) → IsReferred (referred_by heap actuals vs ++ referred_from heap rs) o t → IsOwnedOutside outer o
    all_spared ks actuals vs rs suits given refer kept o is =
        elim (referred_either (referred_by heap actuals vs) (referred_from heap rs) o t is) [ inl e ↦ values_spared ks actuals vs [] suits given kept o e | inr e ↦ references_spared ks actuals rs [] suits refer kept o e ]

  -- All that refers to components leads to Integers and Booleans in objects that are there.
  pub all_opened : (ks : List VariableKind) (actuals : List ActualForm) (vs rs : List Value) → actuals_fit types own ks actuals ≡ true → ReferTo heap places actuals rs → NoneBroken holds (uses_in_actuals types own may [] actuals) → AreOpened types (referred_by heap actuals vs ++ referred_from heap rs) rs
  all_opened ks actuals vs rs suits refer kept =
      more_opened (referred_from heap rs) (referred_by heap actuals vs ++ referred_from heap rs) rs (λ o t is. referred_behind (referred_by heap actuals vs) (referred_from heap rs) o t is)
      (opened_all ks actuals rs [] suits refer kept)

-- What a record parameter refers to is among what the call passes.
module _ (types : List TypeForm) (own : List VariableForm) (heap : List Object) (places more : List Value) where
  later_referred : (a : ActualForm) (rest : List ActualForm) (v : Value) (vs : List Value) (o : Id) (t : ℕ) → IsReferred (referred_by heap rest vs) o t → IsReferred (referred_by heap (a ∷ rest) (v ∷ vs)) o t
  later_referred (in_value e) rest v vs o t is = is
  later_referred in_null rest v vs o t is = is
  later_referred (in_access path) rest v vs o t is = is
  later_referred (in_out_path path) rest v vs o t is = is
  later_referred (in_out_access path) rest v vs o t is = is
  later_referred (in_out_component path) rest v vs o t is = is
  later_referred (in_record p) rest v vs o t is = referred_behind (referred_of heap v) (referred_by heap rest vs) o t is
  later_referred (in_out_record p) rest v vs o t is = referred_behind (referred_of heap v) (referred_by heap rest vs) o t is

  here_referred : (kind : VariableKind) (a : ActualForm) (rest : List ActualForm) (v : Value) (vs : List Value) (o : Id) (place : Place) (t : ℕ) → actual_fits types own kind a ≡ true → names_object (Some kind) ≡ true → v ≡ Part o place → access_at heap o ≡ Some t → IsReferred (referred_by heap (a ∷ rest) (v ∷ vs)) o t
  here_referred kinds.Integer a rest v vs o place t suits is at there = absurd (cc is)
  here_referred kinds.Boolean a rest v vs o place t suits is at there = absurd (cc is)
  here_referred (kinds.Access access) a rest v vs o place t suits is at there = absurd (cc is)
  here_referred (kinds.Record object) (in_record p) rest v vs o place t suits is at there = referred_first (referred_of heap v) (referred_by heap rest vs) o t (of_here heap v o place t at there)
  here_referred (kinds.Record object) (in_out_record p) rest v vs o place t suits is at there = referred_first (referred_of heap v) (referred_by heap rest vs) o t (of_here heap v o place t at there)
  here_referred (kinds.Record object) a rest v vs o place t suits is at there = absurd (cc suits)

  pub formal_referred : (ms : List FormalMode) (vs : List VariableForm) (actuals : List ActualForm) (values : List Value) → actuals_fit types own (map kind_held (take (length ms) vs)) actuals ≡ true → modes_fit ms actuals ≡ true → AreGiven heap places actuals values → (i : ℕ) → is_object vs i ≡ true → hold_at (first_holds ms vs) i ≢ hold.Lost → (o : Id) (place : Place) (t : ℕ) → place_at (values ++ more) i ≡ Part o place → access_at heap o ≡ Some t → IsReferred (referred_by heap actuals values) o t
  formal_referred [] vs actuals values suits modes given i object ne o place t at there = absurd (ne (no_formal vs i))
  formal_referred (m ∷ ms) vs [] values suits modes given i object ne o place t at there = absurd (cc modes)
  formal_referred (m ∷ ms) [] (a ∷ rest) values suits modes given i object ne o place t at there = absurd (cc suits)
  formal_referred (m ∷ ms) (v ∷ vs) (a ∷ rest) [] suits modes given i object ne o place t at there = absurd given
  formal_referred (m ∷ ms) (v ∷ vs) (a ∷ rest) (u ∷ us) suits modes given zero object ne o place t at there =
      here_referred v.kind a rest u us o place t (and_parts (actual_fits types own v.kind a) (actuals_fit types own (map kind_held (take (length ms) vs)) rest) suits).0 object at there
  formal_referred (m ∷ ms) (v ∷ vs) (a ∷ rest) (u ∷ us) suits modes given (suc i) object ne o place t at there =
      later_referred a rest u us o t (formal_referred ms vs rest us (and_parts (actual_fits types own v.kind a) (actuals_fit types own (map kind_held (take (length ms) vs)) rest) suits).1 (and_parts (same_mode m (mode_of a)) (modes_fit ms rest) modes).1 given.1 i object ne o place t at there)
