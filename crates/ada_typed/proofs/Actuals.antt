-- Actual parameters (6.4.1): their values have the kinds of the profile, and so the places of a body that begins hold values of their kinds.

use Rattle.ada_typed.specs.Holding.{Cells, HasKind}
use Rattle.std.proofs.Common.{◌≡◌, ◌⊎◌, inl, inr, ℕ, zero, suc, Bool, true, false, not, List, [], ◌∷◌, ◌++◌, length, map, take, drop, reverse, Option, Some, None, arith, refl, sym, ap, ◌∙◌, subst}
use Rattle.std.proofs.lemmas.List.{reverse-append}
use Rattle.std.specs.List.{slice_get, slice_set}
use Rattle.ada_values.specs.declared.value.Value.{Value as ScalarValue}
use Rattle.ada_program.specs.declared.program.ScalarType.{ScalarType}
use Rattle.ada_program.specs.declared.program.ScalarType.TheVariants.{Integer, Boolean}
use Rattle.ada_program.specs.declared.program.TypeNo.{TypeNo}
use Rattle.ada_program.specs.declared.program.VariableKind.{VariableKind}
use Rattle.ada_program.specs.declared.program.VariableKind.TheVariants as variable
use Rattle.ada_program.specs.Form.{ActualForm, in_value, in_null, in_access, in_record, in_out_path, in_out_access, in_out_component, in_out_record, reads}
use Rattle.ada_program.specs.ProgramForm.{TypeForm, VariableForm, BodyForm, ProgramForm, seen_at, seen_in}
use Rattle.ada_program.specs.WellFormed.{variable_kind, scalar_of, value_access, path_kind, path_access, is_record_path, object_in, is_this, root_kind, selectors_kind, type_of, has_type, names_borrower, names_access, stands_alone, is_scalar_given, is_access_given, is_record_given, actual_fits, actuals_fit, modes_fit, suits_profile, kind_held, formal_kinds, profile_of}
use Rattle.ada_meaning.specs.declared.state.Value.{Value}
use Rattle.ada_meaning.specs.declared.state.Value.TheVariants.{Null, Names, Scalar, Part}
use Rattle.ada_meaning.specs.Frame.{Frame, evaluating}
use Rattle.ada_meaning.specs.Frame as frame
use Rattle.ada_meaning.specs.Step.{in_front, computing, operand_count, one_given, value_given, none_referred, one_referred, given_values, references_in, storing, stored_back, given_places, copied_back}
use Rattle.ada_meaning.specs.Named.{named, whole, base}
use Rattle.ada_meaning.specs.Calls.{variable_given, IsGiven}
use Rattle.ada_typed.proofs.Values.{OperandKind, of_kind, refers_to, RefersTo, IsOperand, AreHeld, AreComputed, kind_of, root_same, held_set, held_blank}
use Rattle.ada_typed.proofs.Operators.{and_left, and_right, typed}
use Rattle.ada_typed.proofs.Control.{kinds_given, operand_kinds, kinds_stored, stored_kinds, AreReferences, Fits, depth, next_taken, kinds_at, kinds_in}
use Rattle.ada_typed.proofs.Evaluations.{scalar_kind, access_kind}

-- There is a procedure that is called, and the actual parameters suit it.
pub profile_found : (types : List TypeForm) (variables : List VariableForm) (bs : List BodyForm) (number : ℕ) (actuals : List ActualForm) → suits_profile types variables (slice_get (map profile_of bs) number) actuals ≡ true → (b : BodyForm) × (slice_get bs number ≡ Some b) × (actuals_fit types variables (formal_kinds b) actuals ≡ true)
profile_found types variables [] number actuals h = absurd (cc)
profile_found types variables (b ∷ bs) zero actuals h = (b, refl, and_left (actuals_fit types variables (formal_kinds b) actuals) (modes_fit b.formals actuals) h)
profile_found types variables (b ∷ bs) (suc number) actuals h = profile_found types variables bs number actuals h

pub as_many : (types : List TypeForm) (variables : List VariableForm) (kinds : List VariableKind) (actuals : List ActualForm) → actuals_fit types variables kinds actuals ≡ true → length actuals ≡ length kinds
as_many types variables [] [] h = refl
as_many types variables [] (a ∷ rest) h = absurd (cc)
as_many types variables (kind ∷ kinds) [] h = absurd (cc)
as_many types variables (kind ∷ kinds) (a ∷ rest) h =
    ap suc (as_many types variables kinds rest (and_right (actual_fits types variables kind a) (actuals_fit types variables kinds rest) h))

-- They are evaluated one after another (6.4.1).
pub depth_computing : (actuals : List ActualForm) (k : List (Frame Value)) → depth (computing named actuals k) ≡ depth k
depth_computing [] k = refl
depth_computing (in_value e ∷ rest) k = depth_computing rest k
depth_computing (in_null ∷ rest) k = depth_computing rest k
depth_computing (in_access path ∷ rest) k = depth_computing rest k
depth_computing (in_record q ∷ rest) k = depth_computing rest k
depth_computing (in_out_path path ∷ rest) k = depth_computing rest k
depth_computing (in_out_access path ∷ rest) k = depth_computing rest k
depth_computing (in_out_component path ∷ rest) k = depth_computing rest k
depth_computing (in_out_record q ∷ rest) k = depth_computing rest k

-- Not to hold is to be false.
is_false : (b : Bool) → not b ≡ true → b ≡ false
is_false true h = absurd (cc)
is_false false h = refl

-- Each leaves a value of the kind that its formal one has; a component leaves what refers to it besides.
scalar_given_fits : (p : ProgramForm) (cells : Cells) (t : ScalarType) (ks : List OperandKind) (a : ActualForm) (k : List (Frame Value)) → is_scalar_given p.types p.variables t a ≡ true → Fits p cells (in_front (kinds_given (kind_of t) a []) ks) k → Fits p cells ks (evaluating a ∷ k)
scalar_given_fits p cells t ks (in_value e) k h fits = (t, typed t (type_of p.types p.variables e) h, fits)
scalar_given_fits p cells t ks in_null k h fits = absurd (cc)
scalar_given_fits p cells t ks (in_access path) k h fits = absurd (cc)
scalar_given_fits p cells t ks (in_record q) k h fits = absurd (cc)
scalar_given_fits p cells t ks (in_out_path path) k h fits =
    let type = has_type p.types p.variables t (reads path) in
    (t, typed t (type_of p.types p.variables (reads path)) (and_left type (stands_alone path.selectors) h), fits)
scalar_given_fits p cells t ks (in_out_access path) k h fits = absurd (cc)
scalar_given_fits p cells t ks (in_out_component path) k h fits =
    let type = has_type p.types p.variables t (reads path) in
    let own = typed t (type_of p.types p.variables (reads path)) (and_left type (not (stands_alone path.selectors)) h) in
    (kind_of t, scalar_kind (path_kind p.types p.variables path) t own, is_false (stands_alone path.selectors) (and_right type (not (stands_alone path.selectors)) h), fits)
scalar_given_fits p cells t ks (in_out_record q) k h fits = absurd (cc)

access_given_fits : (p : ProgramForm) (cells : Cells) (access : TypeNo) (ks : List OperandKind) (a : ActualForm) (k : List (Frame Value)) → is_access_given p.types p.variables access.0 a ≡ true → Fits p cells (in_front (kinds_given (variable.Access access) a []) ks) k → Fits p cells ks (evaluating a ∷ k)
access_given_fits p cells access ks (in_value e) k h fits = absurd (cc)
access_given_fits p cells access ks in_null k h fits = (variable.Access access, refl, fits)
access_given_fits p cells access ks (in_access path) k h fits =
    let own = is_this access.0 (path_access p.types p.variables path) in
    (variable.Access access, and_left own (not (names_borrower p.variables path)) h, fits)
access_given_fits p cells access ks (in_record q) k h fits = absurd (cc)
access_given_fits p cells access ks (in_out_path path) k h fits = absurd (cc)
access_given_fits p cells access ks (in_out_access path) k h fits =
    let own = is_this access.0 (path_access p.types p.variables path) in
    let called = names_access p.types p.variables access.0 path in
    (variable.Access access, and_left own (not (names_borrower p.variables path)) (and_left called (stands_alone path.selectors) h), fits)
access_given_fits p cells access ks (in_out_component path) k h fits =
    let own = is_this access.0 (path_access p.types p.variables path) in
    let called = names_access p.types p.variables access.0 path in
    let this = and_left own (not (names_borrower p.variables path)) (and_left called (not (stands_alone path.selectors)) h) in
    (variable.Access access, access_kind (path_kind p.types p.variables path) access this, is_false (stands_alone path.selectors) (and_right called (not (stands_alone path.selectors)) h), fits)
access_given_fits p cells access ks (in_out_record q) k h fits = absurd (cc)

record_given_fits : (p : ProgramForm) (cells : Cells) (object : TypeNo) (ks : List OperandKind) (a : ActualForm) (k : List (Frame Value)) → is_record_given p.types p.variables object.0 a ≡ true → Fits p cells (in_front (kinds_given (variable.Record object) a []) ks) k → Fits p cells ks (evaluating a ∷ k)
record_given_fits p cells object ks (in_value e) k h fits = absurd (cc)
record_given_fits p cells object ks in_null k h fits = absurd (cc)
record_given_fits p cells object ks (in_access path) k h fits = absurd (cc)
record_given_fits p cells object ks (in_record q) k h fits =
    let leads = is_record_path p.types p.variables q in
    let this = is_this q.record_type (object_in (slice_get p.types object.0)) in
    (of_kind (variable.Record object), and_left leads this h, and_right leads this h, fits)
record_given_fits p cells object ks (in_out_path path) k h fits = absurd (cc)
record_given_fits p cells object ks (in_out_access path) k h fits = absurd (cc)
record_given_fits p cells object ks (in_out_component path) k h fits = absurd (cc)
record_given_fits p cells object ks (in_out_record q) k h fits =
    let leads = is_record_path p.types p.variables q in
    let this = is_this q.record_type (object_in (slice_get p.types object.0)) in
    (of_kind (variable.Record object), and_left leads this h, and_right leads this h, fits)

evaluating_fits : (p : ProgramForm) (cells : Cells) (kind : VariableKind) (ks : List OperandKind) (a : ActualForm) (k : List (Frame Value)) → actual_fits p.types p.variables kind a ≡ true → Fits p cells (in_front (kinds_given kind a []) ks) k → Fits p cells ks (evaluating a ∷ k)
evaluating_fits p cells variable.Integer ks a k h fits = scalar_given_fits p cells Integer ks a k h fits
evaluating_fits p cells variable.Boolean ks a k h fits = scalar_given_fits p cells Boolean ks a k h fits
evaluating_fits p cells (variable.Access access) ks a k h fits = access_given_fits p cells access ks a k h fits
evaluating_fits p cells (variable.Record object) ks a k h fits = record_given_fits p cells object ks a k h fits

given_front : (kind : VariableKind) (a : ActualForm) (others ks : List OperandKind) → in_front (kinds_given kind a others) ks ≡ in_front others (in_front (kinds_given kind a []) ks)
given_front kind (in_value e) others ks = refl
given_front kind in_null others ks = refl
given_front kind (in_access path) others ks = refl
given_front kind (in_record q) others ks = refl
given_front kind (in_out_path path) others ks = refl
given_front kind (in_out_access path) others ks = refl
given_front kind (in_out_component path) others ks = refl
given_front kind (in_out_record q) others ks = refl

pub computing_fits : (p : ProgramForm) (cells : Cells) (kinds : List VariableKind) (ks : List OperandKind) (actuals : List ActualForm) (k : List (Frame Value)) → actuals_fit p.types p.variables kinds actuals ≡ true → Fits p cells (in_front (operand_kinds kinds actuals) ks) k → Fits p cells ks (computing named actuals k)
computing_fits p cells [] ks [] k h fits = fits
computing_fits p cells [] ks (a ∷ rest) k h fits = absurd (cc)
computing_fits p cells (kind ∷ kinds) ks [] k h fits = absurd (cc)
computing_fits p cells (kind ∷ kinds) ks (a ∷ rest) k h fits =
    let own = actual_fits p.types p.variables kind a in
    let others = actuals_fit p.types p.variables kinds rest in
    let later = in_front (kinds_given kind a []) ks in
    evaluating_fits p cells kind ks a (computing named rest k) (and_left own others h)
    (computing_fits p cells kinds later rest k (and_right own others h)
    (subst (λ (qs : List OperandKind). Fits p cells qs k) (given_front kind a (operand_kinds kinds rest) ks) fits))

-- Values have these kinds, one for each, in order.
abbrev pub AreGiven : List TypeForm → Cells → List VariableKind → List Value → Type 0
AreGiven types cells [] [] = Unit {0}
AreGiven types cells [] (v ∷ vs) = ⊥
AreGiven types cells (kind ∷ kinds) [] = ⊥
AreGiven types cells (kind ∷ kinds) (v ∷ vs) = HasKind types cells kind v × AreGiven types cells kinds vs

-- The first of some values have these kinds, in order.
abbrev pub AreFirst : List TypeForm → Cells → List VariableKind → List Value → Type 0
AreFirst types cells [] vs = Unit {0}
AreFirst types cells (kind ∷ kinds) [] = ⊥
AreFirst types cells (kind ∷ kinds) (v ∷ vs) = HasKind types cells kind v × AreFirst types cells kinds vs

-- Operands have these kinds, one for each, in the order in which they were computed.
abbrev AreOperands : List TypeForm → Cells → List OperandKind → List Value → Type 0
AreOperands types cells [] [] = Unit {0}
AreOperands types cells [] (v ∷ vs) = ⊥
AreOperands types cells (kind ∷ kinds) [] = ⊥
AreOperands types cells (kind ∷ kinds) (v ∷ vs) = IsOperand types cells kind v × AreOperands types cells kinds vs

-- Of the operands that have been computed, the newest are those of the actual parameters, in reverse.
split_next : (types : List TypeForm) (cells : Cells) (kind : OperandKind) (kinds ks : List OperandKind) (m : ℕ) (ops tail : List Value) → drop m ops ≡ tail → AreOperands types cells kinds (reverse (take m ops)) → AreComputed types cells (kind ∷ ks) tail → AreOperands types cells (kind ∷ kinds) (reverse (take (suc m) ops)) × AreComputed types cells ks (drop (suc m) ops)
split_next types cells kind kinds ks m ops [] is h g = absurd g
split_next types cells kind kinds ks m ops (v ∷ rest) is h g =
    let next = next_taken m ops v rest is in
    let turned : reverse (take (suc m) ops) ≡ v ∷ reverse (take m ops) = ap reverse next.0 ∙ reverse-append (take m ops) (v ∷ []) in
    (subst (λ (vs : List Value). AreOperands types cells (kind ∷ kinds) vs) (sym turned) (g.0, h), subst (λ (vs : List Value). AreComputed types cells ks vs) (sym next.1) g.1)

operands_split : (types : List TypeForm) (cells : Cells) (kinds ks : List OperandKind) (ops : List Value) → AreComputed types cells (in_front kinds ks) ops → AreOperands types cells kinds (reverse (take (length kinds) ops)) × AreComputed types cells ks (drop (length kinds) ops)
operands_split types cells [] ks ops h = (tt, h)
operands_split types cells (kind ∷ kinds) ks ops h =
    let below = operands_split types cells kinds (kind ∷ ks) ops h in
    split_next types cells kind kinds ks (length kinds) ops (drop (length kinds) ops) refl below.0 below.1

-- There are as many operands as the actual parameters want.
one_more : (a : ActualForm) (kind : VariableKind) (others : List OperandKind) (rest : List ActualForm) → length others ≡ operand_count rest → length (kinds_given kind a others) ≡ operand_count (a ∷ rest)
one_more (in_value e) kind others rest h = omega (arith, h)
one_more in_null kind others rest h = omega (arith, h)
one_more (in_access path) kind others rest h = omega (arith, h)
one_more (in_record q) kind others rest h = omega (arith, h)
one_more (in_out_path path) kind others rest h = omega (arith, h)
one_more (in_out_access path) kind others rest h = omega (arith, h)
one_more (in_out_component path) kind others rest h = omega (arith, h)
one_more (in_out_record q) kind others rest h = omega (arith, h)

pub operands_counted : (types : List TypeForm) (variables : List VariableForm) (kinds : List VariableKind) (actuals : List ActualForm) → actuals_fit types variables kinds actuals ≡ true → length (operand_kinds kinds actuals) ≡ operand_count actuals
operands_counted types variables [] [] h = refl
operands_counted types variables [] (a ∷ rest) h = absurd (cc)
operands_counted types variables (kind ∷ kinds) [] h = absurd (cc)
operands_counted types variables (kind ∷ kinds) (a ∷ rest) h =
    one_more a kind (operand_kinds kinds rest) rest (operands_counted types variables kinds rest (and_right (actual_fits types variables kind a) (actuals_fit types variables kinds rest) h))

-- Of those operands the values have the kinds of the formal parameters, and the others refer to components of the kinds of those that give something back.
abbrev pub AreBoth : List TypeForm → Cells → (kinds stored : List VariableKind) → (values references : List Value) → Type 0
AreBoth types cells kinds stored values references = AreGiven types cells kinds values × AreReferences types cells stored references

module _ (types : List TypeForm) (cells : Cells) where
  -- One operand, or two, in front of others of which that is known.
  one_of : (kind : VariableKind) (kinds stored : List VariableKind) (more : List OperandKind) (values references : List Value → List Value) (vs : List Value) → ((us : List Value) → AreOperands types cells more us → AreBoth types cells kinds stored (values us) (references us)) → AreOperands types cells (of_kind kind ∷ more) vs → AreBoth types cells (kind ∷ kinds) stored (one_given values vs) (none_referred references vs)
  one_of kind kinds stored more values references [] later h = absurd h
  one_of kind kinds stored more values references (v ∷ vs) later h = let others = later vs h.1 in ((h.0, others.0), others.1)

  two_of : (kind : VariableKind) (kinds stored : List VariableKind) (more : List OperandKind) (values references : List Value → List Value) (vs : List Value) → ((us : List Value) → AreOperands types cells more us → AreBoth types cells kinds stored (values us) (references us)) → AreOperands types cells (refers_to kind ∷ of_kind kind ∷ more) vs → AreBoth types cells (kind ∷ kinds) (kind ∷ stored) (value_given values vs) (one_referred references vs)
  two_of kind kinds stored more values references [] later h = absurd h
  two_of kind kinds stored more values references (r ∷ []) later h = absurd h.1
  two_of kind kinds stored more values references (r ∷ v ∷ vs) later h = let others = later vs h.1.1 in ((h.1.0, others.0), (h.0, others.1))

  both_held : (variables : List VariableForm) (kinds : List VariableKind) (actuals : List ActualForm) (vs : List Value) → actuals_fit types variables kinds actuals ≡ true → AreOperands types cells (operand_kinds kinds actuals) vs → AreBoth types cells kinds (stored_kinds kinds actuals) (given_values actuals vs) (references_in actuals vs)
  both_held variables [] [] [] fit h = (tt, tt)
  both_held variables [] [] (v ∷ vs) fit h = absurd h
  both_held variables [] (a ∷ rest) vs fit h = absurd (cc)
  both_held variables (kind ∷ kinds) [] vs fit h = absurd (cc)
  both_held variables (kind ∷ kinds) (in_value e ∷ rest) vs fit h =
      one_of kind kinds (stored_kinds kinds rest) (operand_kinds kinds rest) (given_values rest) (references_in rest) vs
      (λ us. both_held variables kinds rest us (and_right (actual_fits types variables kind (in_value e)) (actuals_fit types variables kinds rest) fit)) h
  both_held variables (kind ∷ kinds) (in_null ∷ rest) vs fit h =
      one_of kind kinds (stored_kinds kinds rest) (operand_kinds kinds rest) (given_values rest) (references_in rest) vs
      (λ us. both_held variables kinds rest us (and_right (actual_fits types variables kind in_null) (actuals_fit types variables kinds rest) fit)) h
  both_held variables (kind ∷ kinds) (in_access path ∷ rest) vs fit h =
      one_of kind kinds (stored_kinds kinds rest) (operand_kinds kinds rest) (given_values rest) (references_in rest) vs
      (λ us. both_held variables kinds rest us (and_right (actual_fits types variables kind (in_access path)) (actuals_fit types variables kinds rest) fit)) h
  both_held variables (kind ∷ kinds) (in_record q ∷ rest) vs fit h =
      one_of kind kinds (stored_kinds kinds rest) (operand_kinds kinds rest) (given_values rest) (references_in rest) vs
      (λ us. both_held variables kinds rest us (and_right (actual_fits types variables kind (in_record q)) (actuals_fit types variables kinds rest) fit)) h
  both_held variables (kind ∷ kinds) (in_out_path path ∷ rest) vs fit h =
      one_of kind kinds (stored_kinds kinds rest) (operand_kinds kinds rest) (given_values rest) (references_in rest) vs
      (λ us. both_held variables kinds rest us (and_right (actual_fits types variables kind (in_out_path path)) (actuals_fit types variables kinds rest) fit)) h
  both_held variables (kind ∷ kinds) (in_out_access path ∷ rest) vs fit h =
      one_of kind kinds (stored_kinds kinds rest) (operand_kinds kinds rest) (given_values rest) (references_in rest) vs
      (λ us. both_held variables kinds rest us (and_right (actual_fits types variables kind (in_out_access path)) (actuals_fit types variables kinds rest) fit)) h
  both_held variables (kind ∷ kinds) (in_out_component path ∷ rest) vs fit h =
      two_of kind kinds (stored_kinds kinds rest) (operand_kinds kinds rest) (given_values rest) (references_in rest) vs
      (λ us. both_held variables kinds rest us (and_right (actual_fits types variables kind (in_out_component path)) (actuals_fit types variables kinds rest) fit)) h
  both_held variables (kind ∷ kinds) (in_out_record q ∷ rest) vs fit h =
      one_of kind kinds (stored_kinds kinds rest) (operand_kinds kinds rest) (given_values rest) (references_in rest) vs
      (λ us. both_held variables kinds rest us (and_right (actual_fits types variables kind (in_out_record q)) (actuals_fit types variables kinds rest) fit)) h

-- So the formal parameters get values of their kinds, and what refers to components is kept.
pub given : (types : List TypeForm) (cells : Cells) (variables : List VariableForm) (kinds : List VariableKind) (actuals : List ActualForm) (ops : List Value) → actuals_fit types variables kinds actuals ≡ true → AreComputed types cells (in_front (operand_kinds kinds actuals) []) ops → AreBoth types cells kinds (stored_kinds kinds actuals) (given_values actuals (reverse (take (operand_count actuals) ops))) (references_in actuals (reverse (take (operand_count actuals) ops)))
given types cells variables kinds actuals ops fit h =
    let own = (operands_split types cells (operand_kinds kinds actuals) [] ops h).0 in
    both_held types cells variables kinds actuals (reverse (take (operand_count actuals) ops)) fit
    (subst (λ (m : ℕ). AreOperands types cells (operand_kinds kinds actuals) (reverse (take m ops))) (operands_counted types variables kinds actuals fit) own)

-- What goes back to components is of their kinds.
front_of : (types : List TypeForm) (cells : Cells) (kind : VariableKind) (a : ActualForm) (kinds : List VariableKind) (rest : List ActualForm) (v : Value) (vs : List Value) → HasKind types cells kind v → AreComputed types cells (map of_kind kinds) (stored_back rest vs) → AreComputed types cells (map of_kind (kinds_stored kind a kinds)) (stored_back (a ∷ rest) (v ∷ vs))
front_of types cells kind (in_value e) kinds rest v vs has h = h
front_of types cells kind in_null kinds rest v vs has h = h
front_of types cells kind (in_access path) kinds rest v vs has h = h
front_of types cells kind (in_record q) kinds rest v vs has h = h
front_of types cells kind (in_out_path path) kinds rest v vs has h = h
front_of types cells kind (in_out_access path) kinds rest v vs has h = h
front_of types cells kind (in_out_component path) kinds rest v vs has h = (has, h)
front_of types cells kind (in_out_record q) kinds rest v vs has h = h

pub stored_held : (types : List TypeForm) (cells : Cells) (kinds : List VariableKind) (actuals : List ActualForm) (vs : List Value) → AreFirst types cells kinds vs → AreComputed types cells (map of_kind (stored_kinds kinds actuals)) (stored_back actuals vs)
stored_held types cells [] actuals vs h = tt
stored_held types cells (kind ∷ kinds) [] vs h = tt
stored_held types cells (kind ∷ kinds) (a ∷ rest) [] h = absurd h
stored_held types cells (kind ∷ kinds) (a ∷ rest) (v ∷ vs) h =
    front_of types cells kind a (stored_kinds kinds rest) rest v vs h.0 (stored_held types cells kinds rest vs h.1)

-- Older operands don't count.
pub computed_before : (types : List TypeForm) (cells : Cells) (kinds : List OperandKind) (vs olds : List Value) → AreComputed types cells kinds vs → AreComputed types cells kinds (vs ++ olds)
computed_before types cells [] vs olds h = tt
computed_before types cells (kind ∷ kinds) [] olds h = absurd h
computed_before types cells (kind ∷ kinds) (v ∷ vs) olds h = (h.0, computed_before types cells kinds vs olds h.1)

-- They are stored next.
pub depth_storing : (rs : List Value) (k : List (Frame Value)) → depth (storing named rs k) ≡ depth k
depth_storing [] k = refl
depth_storing (r ∷ rs) k = depth_storing rs k

store_fits : (p : ProgramForm) (cells : Cells) (kind : VariableKind) (ks : List OperandKind) (r : Value) (k : List (Frame Value)) → RefersTo p.types cells kind r → Fits p cells ks k → Fits p cells (of_kind kind ∷ ks) (frame.StoresIn (whole r) (base r) ∷ k)
store_fits p cells kind ks Null k h fits = absurd h
store_fits p cells kind ks (Names o) k h fits = absurd h
store_fits p cells kind ks (Scalar v) k h fits = absurd h
store_fits p cells kind ks (Part o place) k h fits = (ks, record { 0 = h.0.access }, kind, refl, tt, (h.0, h.1, refl), h.2, fits)

pub storing_fits : (p : ProgramForm) (cells : Cells) (kinds : List VariableKind) (rs : List Value) (k : List (Frame Value)) → AreReferences p.types cells kinds rs → Fits p cells [] k → Fits p cells (map of_kind kinds) (storing named rs k)
storing_fits p cells [] [] k h fits = fits
storing_fits p cells [] (r ∷ rs) k h fits = absurd h
storing_fits p cells (kind ∷ kinds) [] k h fits = absurd h
storing_fits p cells (kind ∷ kinds) (r ∷ rs) k h fits =
    store_fits p cells kind (map of_kind kinds) r (storing named rs k) h.0 (storing_fits p cells kinds rs k h.1 fits)

-- The formal parameters hold them, and each other variable of the body what lies in it before it is declared.
pub held_given : (types : List TypeForm) (cells : Cells) (xs : List VariableForm) (n : ℕ) (vs : List Value) → AreGiven types cells (map kind_held (take n xs)) vs → AreHeld types cells xs (given_places named vs xs)
held_given types cells [] n vs h = tt
held_given types cells (x ∷ xs) zero [] h = held_blank types cells (x ∷ xs)
held_given types cells (x ∷ xs) zero (v ∷ vs) h = absurd h
held_given types cells (x ∷ xs) (suc n) [] h = absurd h
held_given types cells (x ∷ xs) (suc n) (v ∷ vs) h = (h.0, held_given types cells xs n vs h.1)

-- The first variables of the body of a procedure are its formal parameters (6.2).
first_held : (types : List TypeForm) (cells : Cells) (n : ℕ) (xs : List VariableForm) (vs : List Value) → AreHeld types cells xs vs → AreFirst types cells (map kind_held (take n xs)) vs
first_held types cells zero xs vs h = tt
first_held types cells (suc n) [] vs h = tt
first_held types cells (suc n) (x ∷ xs) [] h = h
first_held types cells (suc n) (x ∷ xs) (v ∷ vs) h = (h.0, first_held types cells n xs vs h.1)

found_held : (p : ProgramForm) (types : List TypeForm) (cells : Cells) (number : ℕ) (found : Option BodyForm) (vs : List Value) → AreHeld types cells (seen_at number found p).variables vs → AreFirst types cells (kinds_at found) vs
found_held p types cells number None vs h = tt
found_held p types cells number (Some b) vs h = first_held types cells (length b.formals) b.variables vs h

pub formals_held : (p : ProgramForm) (types : List TypeForm) (cells : Cells) (procedure : Option ℕ) (vs : List Value) → AreHeld types cells (seen_in procedure p).variables vs → AreFirst types cells (kinds_in p procedure) vs
formals_held p types cells None vs h = tt
formals_held p types cells (Some number) vs h = found_held p types cells number (slice_get p.bodies number) vs h

-- What an actual parameter gives back (6.4.1): the variable that is given for a formal one of mode `in out` is an Integer or a Boolean, or of an access
-- type, and the formal parameter holds a value of that kind.
abbrev pub GivesOne : List TypeForm → Cells → List VariableForm → ActualForm → (formal : Value) → Type 0
GivesOne types cells variables (in_value e) v = Unit {0}
GivesOne types cells variables in_null v = Unit {0}
GivesOne types cells variables (in_access path) v = Unit {0}
GivesOne types cells variables (in_record q) v = Unit {0}
GivesOne types cells variables (in_out_component path) v = Unit {0}
GivesOne types cells variables (in_out_record q) v = Unit {0}
GivesOne types cells variables (in_out_path path) v = (t : ScalarType) × (variable_kind variables path.root ≡ Some (kind_of t)) × HasKind types cells (kind_of t) v
GivesOne types cells variables (in_out_access path) v =
    (access : TypeNo) × (variable_kind variables path.root ≡ Some (variable.Access access)) × HasKind types cells (variable.Access access) v

-- So it is of each, once a call ends normally.
abbrev pub GiveBack : List TypeForm → Cells → List VariableForm → List ActualForm → (formals : List Value) → Type 0
GiveBack types cells variables [] vs = Unit {0}
GiveBack types cells variables (a ∷ rest) [] = ⊥
GiveBack types cells variables (a ∷ rest) (v ∷ vs) = GivesOne types cells variables a v × GiveBack types cells variables rest vs

-- A path to a variable is of the variable's type.
variable_of_type : (types : List TypeForm) (of_record : Bool) (root : Option VariableKind) (cs : List ℕ) (t : ScalarType) → scalar_of (selectors_kind types (root_kind of_record root) cs) ≡ Some t → stands_alone cs ≡ true → root ≡ Some (kind_of t)
variable_of_type types of_record root [] t is alone = root_same of_record root (kind_of t) (scalar_kind (root_kind of_record root) t is)
variable_of_type types of_record root (c ∷ cs) t is alone = absurd (cc)

variable_of_access : (types : List TypeForm) (of_record : Bool) (root : Option VariableKind) (cs : List ℕ) (access : TypeNo) → is_this access.0 (value_access (selectors_kind types (root_kind of_record root) cs)) ≡ true → stands_alone cs ≡ true → root ≡ Some (variable.Access access)
variable_of_access types of_record root [] access is alone = root_same of_record root (variable.Access access) (access_kind (root_kind of_record root) access is)
variable_of_access types of_record root (c ∷ cs) access is alone = absurd (cc)

-- A variable that is given for a formal parameter of mode `in out` is of the kind of that one (6.4.1).
scalar_given_kind : (types : List TypeForm) (variables : List VariableForm) (t : ScalarType) (a : ActualForm) (x : ℕ) → is_scalar_given types variables t a ≡ true → variable_given a ≡ Some x → variable_kind variables x ≡ Some (kind_of t)
scalar_given_kind types variables t (in_value e) x h is = absurd (cc)
scalar_given_kind types variables t in_null x h is = absurd (cc)
scalar_given_kind types variables t (in_access path) x h is = absurd (cc)
scalar_given_kind types variables t (in_record q) x h is = absurd (cc)
scalar_given_kind types variables t (in_out_component path) x h is = absurd (cc)
scalar_given_kind types variables t (in_out_record q) x h is = absurd (cc)
scalar_given_kind types variables t (in_out_path path) x h is =
    let type = has_type types variables t (reads path) in
    let alone = stands_alone path.selectors in
    let own = typed t (type_of types variables (reads path)) (and_left type alone h) in
    let same : path.root ≡ x = cc in
    subst (λ (y : ℕ). variable_kind variables y ≡ Some (kind_of t)) same
    (variable_of_type types path.of_record (variable_kind variables path.root) path.selectors t own (and_right type alone h))
scalar_given_kind types variables t (in_out_access path) x h is = absurd (cc)

access_given_kind : (types : List TypeForm) (variables : List VariableForm) (access : TypeNo) (a : ActualForm) (x : ℕ) → is_access_given types variables access.0 a ≡ true → variable_given a ≡ Some x → variable_kind variables x ≡ Some (variable.Access access)
access_given_kind types variables access (in_value e) x h is = absurd (cc)
access_given_kind types variables access in_null x h is = absurd (cc)
access_given_kind types variables access (in_access path) x h is = absurd (cc)
access_given_kind types variables access (in_record q) x h is = absurd (cc)
access_given_kind types variables access (in_out_component path) x h is = absurd (cc)
access_given_kind types variables access (in_out_record q) x h is = absurd (cc)
access_given_kind types variables access (in_out_path path) x h is = absurd (cc)
access_given_kind types variables access (in_out_access path) x h is =
    let called = names_access types variables access.0 path in
    let alone = stands_alone path.selectors in
    let own = and_left (is_this access.0 (path_access types variables path)) (not (names_borrower variables path)) (and_left called alone h) in
    let same : path.root ≡ x = cc in
    subst (λ (y : ℕ). variable_kind variables y ≡ Some (variable.Access access)) same
    (variable_of_access types path.of_record (variable_kind variables path.root) path.selectors access own (and_right called alone h))

record_given_kind : (types : List TypeForm) (variables : List VariableForm) (object : TypeNo) (a : ActualForm) (x : ℕ) → is_record_given types variables object.0 a ≡ true → variable_given a ≡ Some x → variable_kind variables x ≡ Some (variable.Record object)
record_given_kind types variables object (in_value e) x h is = absurd (cc)
record_given_kind types variables object in_null x h is = absurd (cc)
record_given_kind types variables object (in_access path) x h is = absurd (cc)
record_given_kind types variables object (in_record q) x h is = absurd (cc)
record_given_kind types variables object (in_out_path path) x h is = absurd (cc)
record_given_kind types variables object (in_out_access path) x h is = absurd (cc)
record_given_kind types variables object (in_out_component path) x h is = absurd (cc)
record_given_kind types variables object (in_out_record q) x h is = absurd (cc)

pub given_kind : (types : List TypeForm) (variables : List VariableForm) (kind : VariableKind) (a : ActualForm) (x : ℕ) → actual_fits types variables kind a ≡ true → variable_given a ≡ Some x → variable_kind variables x ≡ Some kind
given_kind types variables variable.Integer a x h is = scalar_given_kind types variables Integer a x h is
given_kind types variables variable.Boolean a x h is = scalar_given_kind types variables Boolean a x h is
given_kind types variables (variable.Access access) a x h is = access_given_kind types variables access a x h is
given_kind types variables (variable.Record object) a x h is = record_given_kind types variables object a x h is

-- What its formal parameter holds is of that kind, too.
scalar_gives : (types : List TypeForm) (cells : Cells) (variables : List VariableForm) (t : ScalarType) (a : ActualForm) (v : Value) → is_scalar_given types variables t a ≡ true → HasKind types cells (kind_of t) v → GivesOne types cells variables a v
scalar_gives types cells variables t (in_value e) v h has = tt
scalar_gives types cells variables t in_null v h has = tt
scalar_gives types cells variables t (in_access path) v h has = tt
scalar_gives types cells variables t (in_record q) v h has = absurd (cc)
scalar_gives types cells variables t (in_out_component path) v h has = tt
scalar_gives types cells variables t (in_out_record q) v h has = absurd (cc)
scalar_gives types cells variables t (in_out_path path) v h has = (t, scalar_given_kind types variables t (in_out_path path) path.root h refl, has)
scalar_gives types cells variables t (in_out_access path) v h has = absurd (cc)

access_gives : (types : List TypeForm) (cells : Cells) (variables : List VariableForm) (access : TypeNo) (a : ActualForm) (v : Value) → is_access_given types variables access.0 a ≡ true → HasKind types cells (variable.Access access) v → GivesOne types cells variables a v
access_gives types cells variables access (in_value e) v h has = tt
access_gives types cells variables access in_null v h has = tt
access_gives types cells variables access (in_access path) v h has = tt
access_gives types cells variables access (in_record q) v h has = absurd (cc)
access_gives types cells variables access (in_out_component path) v h has = tt
access_gives types cells variables access (in_out_record q) v h has = absurd (cc)
access_gives types cells variables access (in_out_path path) v h has = absurd (cc)
access_gives types cells variables access (in_out_access path) v h has = (access, access_given_kind types variables access (in_out_access path) path.root h refl, has)

record_gives : (types : List TypeForm) (cells : Cells) (variables : List VariableForm) (object : TypeNo) (a : ActualForm) (v : Value) → is_record_given types variables object.0 a ≡ true → GivesOne types cells variables a v
record_gives types cells variables object (in_value e) v h = absurd (cc)
record_gives types cells variables object in_null v h = absurd (cc)
record_gives types cells variables object (in_access path) v h = absurd (cc)
record_gives types cells variables object (in_record q) v h = tt
record_gives types cells variables object (in_out_path path) v h = absurd (cc)
record_gives types cells variables object (in_out_access path) v h = absurd (cc)
record_gives types cells variables object (in_out_component path) v h = absurd (cc)
record_gives types cells variables object (in_out_record q) v h = tt

gives_one : (types : List TypeForm) (cells : Cells) (variables : List VariableForm) (kind : VariableKind) (a : ActualForm) (v : Value) → actual_fits types variables kind a ≡ true → HasKind types cells kind v → GivesOne types cells variables a v
gives_one types cells variables variable.Integer a v h has = scalar_gives types cells variables Integer a v h has
gives_one types cells variables variable.Boolean a v h has = scalar_gives types cells variables Boolean a v h has
gives_one types cells variables (variable.Access access) a v h has = access_gives types cells variables access a v h has
gives_one types cells variables (variable.Record object) a v h has = record_gives types cells variables object a v h

pub gives_back : (types : List TypeForm) (cells : Cells) (variables : List VariableForm) (kinds : List VariableKind) (actuals : List ActualForm) (vs : List Value) → actuals_fit types variables kinds actuals ≡ true → AreFirst types cells kinds vs → GiveBack types cells variables actuals vs
gives_back types cells variables [] [] vs fit h = tt
gives_back types cells variables [] (a ∷ rest) vs fit h = absurd (cc)
gives_back types cells variables (kind ∷ kinds) [] vs fit h = tt
gives_back types cells variables (kind ∷ kinds) (a ∷ rest) [] fit h = absurd h
gives_back types cells variables (kind ∷ kinds) (a ∷ rest) (v ∷ vs) fit h =
    let own = actual_fits types variables kind a in
    let others = actuals_fit types variables kinds rest in
    (gives_one types cells variables kind a v (and_left own others fit) h.0, gives_back types cells variables kinds rest vs (and_right own others fit) h.1)

-- So each variable of the caller still holds a value of its kind.
pub held_back : (types : List TypeForm) (cells : Cells) (variables : List VariableForm) (actuals : List ActualForm) (vs places : List Value) → GiveBack types cells variables actuals vs → AreHeld types cells variables places → AreHeld types cells variables (copied_back actuals vs places)
held_back types cells variables [] vs places back h = h
held_back types cells variables (a ∷ rest) [] places back h = absurd back
held_back types cells variables (in_value e ∷ rest) (v ∷ vs) places back h = held_back types cells variables rest vs places back.1 h
held_back types cells variables (in_null ∷ rest) (v ∷ vs) places back h = held_back types cells variables rest vs places back.1 h
held_back types cells variables (in_access path ∷ rest) (v ∷ vs) places back h = held_back types cells variables rest vs places back.1 h
held_back types cells variables (in_record q ∷ rest) (v ∷ vs) places back h = held_back types cells variables rest vs places back.1 h
held_back types cells variables (in_out_component path ∷ rest) (v ∷ vs) places back h = held_back types cells variables rest vs places back.1 h
held_back types cells variables (in_out_record q ∷ rest) (v ∷ vs) places back h = held_back types cells variables rest vs places back.1 h
held_back types cells variables (in_out_path path ∷ rest) (v ∷ vs) places back h =
    held_back types cells variables rest vs (slice_set places path.root v) back.1 (held_set types cells variables places path.root (kind_of back.0.0) v h back.0.1 back.0.2)
held_back types cells variables (in_out_access path ∷ rest) (v ∷ vs) places back h =
    held_back types cells variables rest vs (slice_set places path.root v) back.1 (held_set types cells variables places path.root (variable.Access back.0.0) v h back.0.1 back.0.2)

-- A value of a scalar type is a scalar.
pub is_scalar : (types : List TypeForm) (cells : Cells) (t : ScalarType) (v : Value) → HasKind types cells (kind_of t) v → (held : ScalarValue) × (v ≡ Scalar held)
is_scalar types cells Integer Null h = absurd h
is_scalar types cells Integer (Names o) h = absurd h
is_scalar types cells Integer (Scalar held) h = (held, refl)
is_scalar types cells Integer (Part o place) h = absurd h
is_scalar types cells Boolean Null h = absurd h
is_scalar types cells Boolean (Names o) h = absurd h
is_scalar types cells Boolean (Scalar held) h = (held, refl)
is_scalar types cells Boolean (Part o place) h = absurd h

-- What one formal parameter gives back, by its place.
pub given_back_at : (types : List TypeForm) (cells : Cells) (variables : List VariableForm) (front behind : List ActualForm) (a : ActualForm) (vs : List Value) (v : Value) → GiveBack types cells variables (front ++ a ∷ behind) vs → slice_get vs (length front) ≡ Some v → GivesOne types cells variables a v
given_back_at types cells variables [] behind a [] v back is = absurd back
given_back_at types cells variables [] behind a (u ∷ vs) v back is =
    let one : u ≡ v = cc in subst (λ (w : Value). GivesOne types cells variables a w) one back.0
given_back_at types cells variables (b ∷ front) behind a [] v back is = absurd back
given_back_at types cells variables (b ∷ front) behind a (u ∷ vs) v back is = given_back_at types cells variables front behind a vs v back.1 is

-- Each variable that is given for a formal parameter of mode `in out` is of a scalar type, or of an access type.
abbrev pub IsGivable : List VariableForm → ℕ → Type 0
IsGivable variables x =
    ((t : ScalarType) × (variable_kind variables x ≡ Some (kind_of t))) ⊎ ((access : TypeNo) × (variable_kind variables x ≡ Some (variable.Access access)))

one_of_type : (types : List TypeForm) (cells : Cells) (variables : List VariableForm) (a : ActualForm) (v : Value) (x : ℕ) → GivesOne types cells variables a v → variable_given a ≡ Some x → IsGivable variables x
one_of_type types cells variables (in_value e) v x back is = absurd (cc)
one_of_type types cells variables in_null v x back is = absurd (cc)
one_of_type types cells variables (in_access path) v x back is = absurd (cc)
one_of_type types cells variables (in_record q) v x back is = absurd (cc)
one_of_type types cells variables (in_out_component path) v x back is = absurd (cc)
one_of_type types cells variables (in_out_record q) v x back is = absurd (cc)
one_of_type types cells variables (in_out_path path) v x back is =
    let same : path.root ≡ x = cc in
    inl (back.0, subst (λ (y : ℕ). variable_kind variables y ≡ Some (kind_of back.0)) same back.1)
one_of_type types cells variables (in_out_access path) v x back is =
    let same : path.root ≡ x = cc in
    inr (back.0, subst (λ (y : ℕ). variable_kind variables y ≡ Some (variable.Access back.0)) same back.1)

pub given_of_type : (types : List TypeForm) (cells : Cells) (variables : List VariableForm) (actuals : List ActualForm) (vs : List Value) (x : ℕ) → GiveBack types cells variables actuals vs → IsGiven x actuals → IsGivable variables x
given_of_type types cells variables [] vs x back given = absurd given
given_of_type types cells variables (a ∷ rest) [] x back given = absurd back
given_of_type types cells variables (a ∷ rest) (v ∷ vs) x back (inl same) = one_of_type types cells variables a v x back.0 same
given_of_type types cells variables (a ∷ rest) (v ∷ vs) x back (inr later) = given_of_type types cells variables rest vs x back.1 later
