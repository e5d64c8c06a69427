-- A procedure that may be called has a profile, and actual parameters with which nothing is wrong suit it.

use Rattle.std.proofs.Common.{◌≡◌, ℕ, ◌<◌, ◌≤◌, Bool, true, false, List, [], ◌∷◌, length, refl, sym, ap, subst, zero, suc, cond, arith, ◌==◌, eq-eqb}
use Rattle.std.specs.Prelude.{◌&&◌, Option, Some, None, map, take, bytes_eq, codes, not}
use Rattle.std.specs.List.{slice_get}
use Rattle.std.proofs.lemmas.Bool.{eqb-true}
use Rattle.ada_text.specs.declared.spot.Spot.{Spot}
use Rattle.ada_tree.specs.Expressions.{ArgumentTree, expression_argument, path_expression}
use Rattle.ada_program.specs.declared.program.Exception.TheVariants.{ConstraintError, ProgramError, StorageError}
use Rattle.ada_program.specs.declared.program.FormalMode.{FormalMode}
use Rattle.ada_program.specs.declared.program.FormalMode.TheVariants.{In, InOut}
use Rattle.ada_program.specs.declared.program.ProcedureNo.{ProcedureNo}
use Rattle.ada_program.specs.declared.program.ScalarType.{ScalarType}
use Rattle.ada_program.specs.declared.program.ScalarType.TheVariants.{Integer, Boolean}
use Rattle.ada_program.specs.declared.program.TypeNo.{TypeNo}
use Rattle.ada_program.specs.declared.program.VariableKind.{VariableKind}
use Rattle.ada_program.specs.declared.program.VariableKind.TheVariants as variable
use Rattle.ada_program.specs.Form.{PathForm, ActualForm, in_out_path, in_out_access, in_out_component, reads}
use Rattle.ada_program.specs.ProgramForm.{TypeForm, record_of, access_to, object_of, VariableForm, BodyForm}
use Rattle.ada_program.specs.WellFormed as fits
use Rattle.ada_resolve.specs.declared.fault.NameRule.TheVariants.{WrongType}
use Rattle.ada_resolve.specs.declared.library.Withs.{Withs}
use Rattle.ada_resolve.specs.declared.scope.Entity.{Entity}
use Rattle.ada_resolve.specs.declared.scope.Entity.TheVariants as entity
use Rattle.ada_resolve.specs.Actuals.{kind_wanted, reference_wanted, variable_or_component, variable_wanted, given_remark, given_variable, given_value, given_meant, first_mode, other_modes, given_all_remark, given_all, profile_in, profile, procedure_call_remark}
use Rattle.ada_resolve.specs.Expressions.{expression_meant, expression_remark}
use Rattle.ada_resolve.specs.Known.{Known, Part, named, from_part, named_in, inner_first, outermost, unit_named, visible, parts}
use Rattle.ada_resolve.specs.Library.{predefined}
use Rattle.ada_resolve.specs.Operators.{access_wanted, owner_wanted}
use Rattle.ada_resolve.specs.Paths.{Meant, unknown, null_value, access_value, lent_value, integer_value, boolean_value, record_value, path_meant, record_known_by, record_of_object}
use Rattle.ada_resolve.specs.Spots.{expression_spot}
use Rattle.ada_resolve.proofs.Standing.Order.{IsCalled, PartsCalled, AllSized}
use Rattle.ada_resolve.proofs.WellFormed.Items.{expression_fits}
use Rattle.ada_resolve.proofs.WellFormed.Meanings.{MeantFits, path_fits}
use Rattle.ada_resolve.proofs.WellFormed.Names.{PartsFit, first_of_two, within_of, unit_only}
pub use Rattle.ada_resolve.proofs.WellFormed.Operations.{callables, callables_in}
use Rattle.ada_resolve.proofs.WellFormed.Remarks.{Quiet, quiet_if, quiet_unless}
use Rattle.ada_resolve.proofs.WellFormed.Tables.{both_parts}
use Rattle.ada_resolve.proofs.WellFormed.Typing.{is_of_type}

-- the profile of a procedure whose body has ended
profile_known : (bs : List BodyForm) (i : ℕ) → i < length bs → slice_get (callables bs) i ≡ Some (profile_in (slice_get bs i))
profile_known [] i less = absurd (omega (arith, less))
profile_known (b ∷ bs) zero less = refl
profile_known (b ∷ bs) (suc i) less = profile_known bs i (omega (arith, less))

-- what is predefined is no procedure that may be called
standard_called : (n m : ℕ) (x : Entity) (a b c d f g h : Bool) → cond a (Some entity.Integer) (cond b (Some entity.Boolean) (cond c (Some (entity.Truth true)) (cond d (Some (entity.Truth false)) (cond f (Some (entity.Exception ConstraintError)) (cond g (Some (entity.Exception ProgramError)) (cond h (Some (entity.Exception StorageError)) None)))))) ≡ Some x → IsCalled n m x
standard_called n m x true b c d f g h e = let is : entity.Integer ≡ x = cc e in rw (sym is) tt
standard_called n m x false true c d f g h e = let is : entity.Boolean ≡ x = cc e in rw (sym is) tt
standard_called n m x false false true d f g h e = let is : entity.Truth true ≡ x = cc e in rw (sym is) tt
standard_called n m x false false false true f g h e = let is : entity.Truth false ≡ x = cc e in rw (sym is) tt
standard_called n m x false false false false true g h e = let is : entity.Exception ConstraintError ≡ x = cc e in rw (sym is) tt
standard_called n m x false false false false false true h e = let is : entity.Exception ProgramError ≡ x = cc e in rw (sym is) tt
standard_called n m x false false false false false false true e = let is : entity.Exception StorageError ≡ x = cc e in rw (sym is) tt
standard_called n m x false false false false false false false e = absurd (cc e)

predefined_called : (n m : ℕ) (text : List ℕ) (x : Entity) → predefined text ≡ Some x → IsCalled n m x
unfolding predefined
predefined_called n m text x e =
    standard_called n m x (bytes_eq text (codes "INTEGER")) (bytes_eq text (codes "BOOLEAN")) (bytes_eq text (codes "TRUE")) (bytes_eq text (codes "FALSE"))
    (bytes_eq text (codes "CONSTRAINT_ERROR")) (bytes_eq text (codes "PROGRAM_ERROR")) (bytes_eq text (codes "STORAGE_ERROR")) e

inner_called : (n m : ℕ) (withs : Withs) (text : List ℕ) (x : Entity) (own : Option Entity) (b : Bool) → ((y : Entity) → own ≡ Some y → IsCalled n m y) → inner_first own b (outermost withs text) ≡ Some x → IsCalled n m x
inner_called n m withs text x (Some y) b w e = let is : y ≡ x = cc e in rw (sym is) (w y refl)
inner_called n m withs text x None true w e = let is : entity.Procedure ≡ x = cc e in rw (sym is) tt
inner_called n m withs text x None false w e =
    first_of_two (IsCalled n m) (predefined text) (unit_named withs text) x (predefined_called n m text) (λ y. unit_only (IsCalled n m) withs text y tt) e

parts_called : (n m : ℕ) (ps : List Part) → PartsCalled n m ps → (text : List ℕ) (x : Entity) → named_in text ps ≡ Some x → IsCalled n m x
parts_called n m [] w text x e = absurd (cc e)
parts_called n m (p ∷ ps) w text x e =
    first_of_two (IsCalled n m) (named text p.names) (from_part p.around (named_in text ps)) x (w.0 text)
    (λ y is. within_of (IsCalled n m) p.around (named_in text ps) y (λ kind r. tt) (parts_called n m ps w.1 text) is) e

-- what is visible, where it may be called, has a body that has ended, and a pool is there
pub visible_called : (k : Known) → PartsCalled (length k.bodies) (length k.pools) (parts k) → (text : List ℕ) (x : Entity) → visible k text ≡ Some x → IsCalled (length k.bodies) (length k.pools) x
unfolding visible
visible_called k w text x e =
    inner_called (length k.bodies) (length k.pools) k.withs text x (named_in text (parts k)) (bytes_eq text k.procedure) (parts_called (length k.bodies) (length k.pools) (parts k) w text) e

same_number : (t u : ℕ) → (t == u) ≡ true → (u == t) ≡ true
same_number t u e = eq-eqb u t (sym (eqb-true t u e))

-- an access value that a path names is of the formal parameter's type, and no borrower
access_named : (types : List TypeForm) (variables : List VariableForm) (t u : TypeNo) (path : PathForm) (spot : Spot) → MeantFits types variables (access_value path u) → Quiet (access_wanted t (access_value path u) spot) → Quiet (owner_wanted variables (access_value path u) spot) → fits.names_access types variables t.0 path ≡ true
access_named types variables t u path spot f typed owned =
    both_parts (fits.is_this t.0 (fits.path_access types variables path)) (not (fits.names_borrower variables path))
    (rw f (same_number t.0 u.0 (quiet_unless (t.0 == u.0) spot WrongType typed)))
    (ap (λ (b : Bool). not b) (quiet_if (fits.names_borrower variables path) spot WrongType owned))

-- a variable or a component of a type, which is given for a formal parameter
abbrev GivenSo : (ActualForm → Bool) → ActualForm → Type 0
GivenSo suits a = (suits a ≡ true) × (fits.mode_of a ≡ InOut)

scalar_given : (types : List TypeForm) (variables : List VariableForm) (t : ScalarType) (path : PathForm) → fits.has_type types variables t (reads path) ≡ true → GivenSo (fits.is_scalar_given types variables t) (variable_or_component (in_out_path path) (in_out_component path) path.selectors)
scalar_given types variables t path typed = by_selectors path.selectors refl
  where
    by_selectors : (cs : List ℕ) → path.selectors ≡ cs → GivenSo (fits.is_scalar_given types variables t) (variable_or_component (in_out_path path) (in_out_component path) cs)
    by_selectors [] is = (both_parts (fits.has_type types variables t (reads path)) (fits.stands_alone path.selectors) typed (rw is refl), refl)
    by_selectors (c ∷ cs) is = (both_parts (fits.has_type types variables t (reads path)) (not (fits.stands_alone path.selectors)) typed (rw is refl), refl)

access_given : (types : List TypeForm) (variables : List VariableForm) (access : ℕ) (path : PathForm) → fits.names_access types variables access path ≡ true → GivenSo (fits.is_access_given types variables access) (variable_or_component (in_out_access path) (in_out_component path) path.selectors)
access_given types variables access path typed = by_selectors path.selectors refl
  where
    by_selectors : (cs : List ℕ) → path.selectors ≡ cs → GivenSo (fits.is_access_given types variables access) (variable_or_component (in_out_access path) (in_out_component path) cs)
    by_selectors [] is = (both_parts (fits.names_access types variables access path) (fits.stands_alone path.selectors) typed (rw is refl), refl)
    by_selectors (c ∷ cs) is = (both_parts (fits.names_access types variables access path) (not (fits.stands_alone path.selectors)) typed (rw is refl), refl)

-- a record is of the type of the formal parameter
abbrev IsReferred : List TypeForm → List VariableForm → Option ℕ → Meant → Type 0
IsReferred types variables o (record_value path) = (fits.is_record_path types variables path && fits.is_this path.record_type o) ≡ true
IsReferred types variables o m = ⊥

referred : (types : List TypeForm) (variables : List VariableForm) (o : Option ℕ) (m : Meant) (spot : Spot) → MeantFits types variables m → Quiet (reference_wanted o m spot) → IsReferred types variables o m
referred types variables None m spot f q = absurd q
referred types variables (Some t) (record_value path) spot f q =
    both_parts (fits.is_record_path types variables path) (t == path.record_type) f (quiet_unless (t == path.record_type) spot WrongType q)
referred types variables (Some t) unknown spot f q = absurd f
referred types variables (Some t) m spot f q = absurd q

object_known : (types : List TypeForm) (object : ℕ) → record_of_object types object ≡ fits.object_in (slice_get types object)
unfolding record_of_object
object_known types object = by_form (slice_get types object)
  where
    by_form : (o : Option TypeForm) → record_known_by o ≡ fits.object_in o
    by_form None = refl
    by_form (Some (record_of name ps cs final)) = refl
    by_form (Some (access_to name d pool)) = refl
    by_form (Some (object_of r)) = refl

record_referred : (types : List TypeForm) (variables : List VariableForm) (object : TypeNo) (m : Meant) (spot : Spot) → MeantFits types variables m → Quiet (reference_wanted (record_of_object types object.0) m spot) → IsReferred types variables (fits.object_in (slice_get types object.0)) m
record_referred types variables object m spot f q =
    subst (λ (o : Option ℕ). IsReferred types variables o m) (object_known types object.0) (referred types variables (record_of_object types object.0) m spot f q)

variable_fits : (types : List TypeForm) (variables : List VariableForm) (kind : VariableKind) (m : Meant) (spot : Spot) → MeantFits types variables m → Quiet (variable_wanted types variables kind m spot) → GivenSo (fits.actual_fits types variables kind) (given_variable m)
variable_fits types variables kind unknown spot f q = absurd f
variable_fits types variables variable.Integer (integer_value (reads path)) spot f q = scalar_given types variables Integer path (is_of_type Integer (fits.type_of types variables (reads path)) f)
variable_fits types variables variable.Boolean (boolean_value (reads path)) spot f q = scalar_given types variables Boolean path (is_of_type Boolean (fits.type_of types variables (reads path)) f)
variable_fits types variables (variable.Access t) (access_value path u) spot f q = access_given types variables t.0 path (access_named types variables t u path spot f q.0 q.1)
variable_fits types variables (variable.Record t) (record_value path) spot f q = (record_referred types variables t (record_value path) spot f q, refl)
variable_fits types variables kind m spot f q = absurd q

value_fits : (types : List TypeForm) (variables : List VariableForm) (kind : VariableKind) (m : Meant) (spot : Spot) → MeantFits types variables m → Quiet (kind_wanted types variables kind m spot) → (fits.actual_fits types variables kind (given_value m) ≡ true) × (fits.mode_of (given_value m) ≡ In)
value_fits types variables kind unknown spot f q = absurd f
value_fits types variables kind (lent_value t) spot f q = absurd f
value_fits types variables variable.Integer (integer_value e) spot f q = (is_of_type Integer (fits.type_of types variables e) f, refl)
value_fits types variables variable.Integer m spot f q = absurd q
value_fits types variables variable.Boolean (boolean_value e) spot f q = (is_of_type Boolean (fits.type_of types variables e) f, refl)
value_fits types variables variable.Boolean m spot f q = absurd q
value_fits types variables (variable.Access t) null_value spot f q = (refl, refl)
value_fits types variables (variable.Access t) (access_value path u) spot f q = (access_named types variables t u path spot f q.0 q.1, refl)
value_fits types variables (variable.Access t) m spot f q = absurd q.0
value_fits types variables (variable.Record t) (record_value path) spot f q = (record_referred types variables t (record_value path) spot f q, refl)
value_fits types variables (variable.Record t) m spot f q = absurd (record_referred types variables t m spot f q)

-- what is given suits the formal parameter, and is passed in its mode
given_fits : (k : Known) (mode : FormalMode) (kind : VariableKind) (argument : ArgumentTree) → PartsFit k.types k.variables (parts k) → Quiet (given_remark k mode kind argument) → (fits.actual_fits k.types k.variables kind (given_meant k mode argument) ≡ true) × (fits.mode_of (given_meant k mode argument) ≡ mode)
unfolding expression_remark
given_fits k In kind (expression_argument e) w q =
    value_fits k.types k.variables kind (expression_meant k e) (expression_spot e) (expression_fits k e w q.0) q.1.0
given_fits k InOut kind (expression_argument (path_expression path)) w q =
    variable_fits k.types k.variables kind (path_meant k path) path.root.spot (path_fits k path w q.0.1) q.1.0
given_fits k mode kind other w q = absurd q.0

same_modes : (m n : FormalMode) → n ≡ m → fits.same_mode m n ≡ true
same_modes In In e = refl
same_modes InOut InOut e = refl
same_modes In InOut e = absurd (cc e)
same_modes InOut In e = absurd (cc e)

all_given : (k : Known) (called : Spot) (kinds : List VariableKind) (modes : List FormalMode) (arguments : List ArgumentTree) → PartsFit k.types k.variables (parts k) → Quiet (given_all_remark k called kinds modes arguments) → fits.actuals_fit k.types k.variables kinds (given_all k kinds modes arguments) ≡ true
all_given k called [] modes arguments w q = refl
all_given k called (kind ∷ kinds) modes [] w q = absurd q
all_given k called (kind ∷ kinds) modes (argument ∷ more) w q =
    both_parts (fits.actual_fits k.types k.variables kind (given_meant k (first_mode modes) argument)) (fits.actuals_fit k.types k.variables kinds (given_all k kinds (other_modes modes) more))
    (given_fits k (first_mode modes) kind argument w q.0).0 (all_given k called kinds (other_modes modes) more w q.1)

-- in the modes of the formal parameters, where there is one for each
all_passed : (k : Known) (called : Spot) (kinds : List VariableKind) (modes : List FormalMode) (arguments : List ArgumentTree) → length modes ≡ length kinds → PartsFit k.types k.variables (parts k) → Quiet (given_all_remark k called kinds modes arguments) → fits.modes_fit modes (given_all k kinds modes arguments) ≡ true
all_passed k called [] [] arguments same w q = refl
all_passed k called [] (mode ∷ modes) arguments same w q = let no : ⊥ = omega (arith, same) in absurd no
all_passed k called (kind ∷ kinds) [] arguments same w q = let no : ⊥ = omega (arith, same) in absurd no
all_passed k called (kind ∷ kinds) (mode ∷ modes) [] same w q = absurd q
all_passed k called (kind ∷ kinds) (mode ∷ modes) (argument ∷ more) same w q =
    both_parts (fits.same_mode mode (fits.mode_of (given_meant k mode argument))) (fits.modes_fit modes (given_all k kinds modes more))
    (same_modes mode (fits.mode_of (given_meant k mode argument)) (given_fits k mode kind argument w q.0).1)
    (all_passed k called kinds modes more (omega (arith, same)) w q.1)

-- a profile has a mode for each formal parameter
kinds_sized : (n : ℕ) (vs : List VariableForm) → n ≤ length vs → n ≡ length (map fits.kind_held (take n vs))
kinds_sized zero vs less = refl
kinds_sized (suc n) [] less = let no : ⊥ = omega (arith, less) in absurd no
kinds_sized (suc n) (v ∷ vs) less = let rest = kinds_sized n vs (omega (arith, less)) in omega (arith, rest)

profile_sized : (bs : List BodyForm) (i : ℕ) → AllSized bs → length (profile_in (slice_get bs i)).modes ≡ length (profile_in (slice_get bs i)).kinds
profile_sized [] i w = refl
profile_sized (b ∷ bs) zero w = kinds_sized (length b.formals) b.variables w.0
profile_sized (b ∷ bs) (suc i) w = profile_sized bs i w.1

-- a call suits the profile
pub call_suits : (k : Known) (p : ProcedureNo) (called : Spot) (arguments : List ArgumentTree) → PartsFit k.types k.variables (parts k) → AllSized k.bodies → p.0 < length k.bodies → Quiet (procedure_call_remark k p called arguments) → fits.suits_profile k.types k.variables (slice_get (callables k.bodies) p.0) (given_all k (profile k p).kinds (profile k p).modes arguments) ≡ true
unfolding profile
call_suits k p called arguments w sized there q =
    let found = profile_in (slice_get k.bodies p.0) in
    rw (profile_known k.bodies p.0 there)
    (both_parts (fits.actuals_fit k.types k.variables found.kinds (given_all k found.kinds found.modes arguments)) (fits.modes_fit found.modes (given_all k found.kinds found.modes arguments))
    (all_given k called found.kinds found.modes arguments w q)
    (all_passed k called found.kinds found.modes arguments (profile_sized k.bodies p.0 sized) w q))
