-- The heads of bodies: the name is new, or that of an operation, which is one of the type for which its formal stands.

use Rattle.std.proofs.Common.{◌≡◌, ◌∙◌, ℕ, ◌+◌, false, List, [], ◌∷◌, ◌++◌, length, refl, sym, ap, subst, arith}
use Rattle.std.specs.Prelude.{Option, Some, None, is_some}
use Rattle.std.specs.List.{slice_get}
use Rattle.ada_tree.specs.Declarations.{FormalTree, HeadTree}
use Rattle.ada_program.specs.declared.program.FormalMode.{FormalMode}
use Rattle.ada_program.specs.declared.program.FormalMode.TheVariants.{InOut}
use Rattle.ada_program.specs.declared.program.ProcedureNo.{ProcedureNo}
use Rattle.ada_program.specs.declared.program.TypeNo.{TypeNo}
use Rattle.ada_program.specs.declared.program.VariableKind.TheVariants as variable
use Rattle.ada_program.specs.ProgramForm.{TypeForm, object_of, VariableForm}
use Rattle.ada_program.specs.WellFormed as fits
use Rattle.ada_resolve.specs.declared.fault.NameRule.TheVariants.{DeclaredTwice}
use Rattle.ada_resolve.specs.declared.primitives.Operation.{Operation}
use Rattle.ada_resolve.specs.declared.scope.Entity.{Entity}
use Rattle.ada_resolve.specs.declared.scope.Entity.TheVariants as entity
use Rattle.ada_resolve.specs.Known.{Known, new_name_remark, visible}
use Rattle.ada_resolve.specs.Primitives.{formal_specified, operand_held, operation_named, overrider, sole_changed, specified_for}
use Rattle.ada_resolve.specs.Procedures.{behind_head, body_head_remark, formal_kind, head_name_remark, head_operand, known_by, no_formals, operand_wanted, specified_wanted, with_formal, with_formals}
use Rattle.ada_resolve.specs.Spots.{head_spot}
use Rattle.ada_resolve.proofs.Operating.{head_modes, operand_is}
use Rattle.ada_resolve.proofs.Standing.Kept.{new_slot}
use Rattle.ada_resolve.proofs.Standing.Procedures.{IsNewBody, IsOpen, operand_at}
use Rattle.ada_resolve.proofs.WellFormed.Forms.{AreIn, forms, get_form, object_there}
use Rattle.ada_resolve.proofs.WellFormed.Remarks.{Quiet, quiet_if}
use Rattle.ada_resolve.proofs.WellFormed.Tables.{get_last}

-- its name is new, unless it is that of an operation
named_new : (k : Known) (head : HeadTree) (o : Option Operation) (t : Option ℕ) → Quiet (head_name_remark o t k head) → o ≡ None → Quiet (new_name_remark k head.name (head_spot head))
named_new k head None t q is = q
named_new k head (Some o) t q is = absurd (cc is)

pub head_new : (k : Known) (head : HeadTree) → Quiet (body_head_remark k head) → operation_named head.name.text ≡ None → Quiet (new_name_remark k head.name (head_spot head))
unfolding body_head_remark
head_new k head q = named_new k head (operation_named head.name.text) (head_operand (operation_named head.name.text) k head) q.1.1.1.1

pub head_is_new : (k : Known) (head : HeadTree) → Quiet (body_head_remark k head) → IsNewBody k head
head_is_new k head q none = new_slot k head.name (head_spot head) (head_new k head q none)

-- an operation is for a type that has it and inherits it so far
wanted_opens : (k : Known) (head : HeadTree) (o : Operation) (found : Option ℕ) → Quiet (operand_wanted found k o head) → (t : ℕ) × (found ≡ Some t) × (overrider o k.types t ≡ None)
wanted_opens k head o None q = absurd q
wanted_opens k head o (Some t) q = (t, refl, by_formal (formal_specified t (specified_for o k.here.specified)) q)
  where
    none_is : (p : Option ProcedureNo) → is_some p ≡ false → p ≡ None
    none_is None e = refl
    none_is (Some p) e = absurd (cc e)

    by_formal : (formal : Option (List ℕ)) → Quiet (specified_wanted formal k o t head) → overrider o k.types t ≡ None
    by_formal None q = absurd q
    by_formal (Some formal) q = none_is (overrider o k.types t) (quiet_if (is_some (overrider o k.types t)) head.name.spot DeclaredTwice q.0)

named_opens : (k : Known) (head : HeadTree) (o : Operation) (own : Option Operation) (found : Option ℕ) → Quiet (head_name_remark own found k head) → own ≡ Some o → (t : ℕ) × (found ≡ Some t) × (overrider o k.types t ≡ None)
named_opens k head o None found q is = absurd (cc is)
named_opens k head o (Some a) found q is = let same : a ≡ o = cc is in wanted_opens k head o found (subst (λ (c : Operation). Quiet (operand_wanted found k c head)) same q)

pub head_opens : (k : Known) (head : HeadTree) (o : Operation) → Quiet (body_head_remark k head) → operation_named head.name.text ≡ Some o → (t : ℕ) × (head_operand (Some o) k head ≡ Some t) × (overrider o k.types t ≡ None)
unfolding body_head_remark
head_opens k head o q is =
    let opens = named_opens k head o (operation_named head.name.text) (head_operand (operation_named head.name.text) k head) q.1.1.1.1 is in
    (opens.0, ap (λ (a : Option Operation). head_operand a k head) (sym is) ∙ opens.1, opens.2)

-- the variable and the type of the one formal of an operation
first_variable : (k : Known) (f : FormalTree) (number : TypeNo) (size : ℕ) → visible k f.type_name.text ≡ Some (entity.Record number size) → slice_get (with_formal k f no_formals).variables 0 ≡ Some (record { name = f.name.text; spot = f.name.spot; kind = variable.Record (known_by k no_formals); borrows = false })
unfolding with_formal
first_variable k f number size found =
    ap (λ (o : Option Entity). Some (record { name = f.name.text; spot = f.name.spot; kind = formal_kind (known_by k no_formals) o; borrows = false })) found

own_type : (k : Known) (head : HeadTree) (t : ℕ) → (with_formals k head.formals no_formals).types ≡ object_of t ∷ [] → slice_get (behind_head k head).types (length k.types) ≡ Some (object_of t)
unfolding behind_head
own_type k head t is = ap (λ (ts : List TypeForm). slice_get (k.types ++ ts) (length k.types)) is ∙ get_last k.types (object_of t)

own_modes : (k : Known) (head : HeadTree) → (behind_head k head).here.modes ≡ (with_formals k head.formals no_formals).modes
unfolding behind_head
own_modes k head = refl

own_variables : (k : Known) (head : HeadTree) → (behind_head k head).variables ≡ (with_formals k head.formals no_formals).variables
unfolding behind_head
own_variables k head = refl

sole_first : (modes : List FormalMode) (vs : List VariableForm) (v : VariableForm) → modes ≡ InOut ∷ [] → slice_get vs 0 ≡ Some v → sole_changed modes vs ≡ Some v.kind
sole_first modes [] v is there = absurd (cc there)
sole_first modes (w ∷ vs) v is there =
    let same : w ≡ v = cc there in ap (λ (ms : List FormalMode). sole_changed ms (w ∷ vs)) is ∙ ap (λ (u : VariableForm). Some u.kind) same

-- an operation that ends is one of the type for which its formal stands
pub operand_ends : (k : Known) (head : HeadTree) (o : Operation) (t : ℕ) (inner z : Known) → inner ≡ behind_head k head → z.here.modes ≡ inner.here.modes → AreIn (forms inner.types) (forms z.types) → AreIn inner.variables z.variables → head_operand (Some o) k head ≡ Some t → operand_at z ≡ Some t
operand_ends k head o t inner z is modes types variables has =
    let sole = head_modes k o head t has in
    let own = operand_is k o head t has in
    let v : VariableForm = record { name = own.f.name.text; spot = own.f.name.spot; kind = variable.Record (known_by k no_formals); borrows = false } in
    let first : slice_get inner.variables 0 ≡ Some v =
    ap (λ (m : Known). slice_get m.variables 0) is ∙ (ap (λ (vs : List VariableForm). slice_get vs 0) (own_variables k head) ∙
    (ap (λ (fs : List FormalTree). slice_get (with_formals k fs no_formals).variables 0) own.alone ∙ first_variable k own.f own.number own.size own.found)) in
    let all_modes : z.here.modes ≡ InOut ∷ [] = modes ∙ (ap (λ (m : Known). m.here.modes) is ∙ (own_modes k head ∙ sole.0)) in
    let form : slice_get inner.types (length k.types) ≡ Some (object_of t) = ap (λ (m : Known). slice_get m.types (length k.types)) is ∙ own_type k head t sole.1 in
    let later = object_there z.types (length k.types) t (types (length k.types) (object_of t) (get_form inner.types (length k.types) (object_of t) form)) in
    let at : length k.types + 0 ≡ length k.types = omega arith in
    ap (λ kind. operand_held z.types kind) (sole_first z.here.modes z.variables v all_modes (variables 0 v first)) ∙
    (ap (λ (n : ℕ). fits.object_in (slice_get z.types n)) at ∙ ap (λ found. fits.object_in found) later)

-- it inherits its operation so far
open_by : (k : Known) (head : HeadTree) (z : Known) (own : Option Operation) → Quiet (body_head_remark k head) → operation_named head.name.text ≡ own → ((o : Operation) (t : ℕ) → operation_named head.name.text ≡ Some o → head_operand (Some o) k head ≡ Some t → operand_at z ≡ Some t) → IsOpen k own (operand_at z)
open_by k head z None q is ends = tt
open_by k head z (Some o) q is ends =
    let opens = head_opens k head o q is in
    subst (λ (found : Option ℕ). IsOpen k (Some o) found) (sym (ends o opens.0 is opens.1)) ((operand_is k o head opens.0 opens.1).own, opens.2)

pub is_open : (k : Known) (head : HeadTree) (z : Known) → Quiet (body_head_remark k head) → ((o : Operation) (t : ℕ) → operation_named head.name.text ≡ Some o → head_operand (Some o) k head ≡ Some t → operand_at z ≡ Some t) → IsOpen k (operation_named head.name.text) (operand_at z)
is_open k head z q ends = open_by k head z (operation_named head.name.text) q refl ends
