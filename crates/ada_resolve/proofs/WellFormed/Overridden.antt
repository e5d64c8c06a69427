-- The body of an operation sets what overrides it in its type, and leaves all else of the types as it was (7.6).

use Rattle.std.proofs.Common.{◌≡◌, ◌∙◌, ℕ, Bool, true, false, List, [], ◌∷◌, length, refl, sym, ap, subst, eqb, eqb-true, eq-eqb}
use Rattle.std.specs.Prelude.{◌&&◌, Option, Some, None, take, map}
use Rattle.std.specs.List.{list_all, slice_get, slice_set}
use Rattle.ada_program.specs.declared.program.Finalization.{Finalization}
use Rattle.ada_program.specs.declared.program.FormalMode.{FormalMode}
use Rattle.ada_program.specs.declared.program.FormalMode.TheVariants.{In, InOut}
use Rattle.ada_program.specs.declared.program.ProcedureNo.{ProcedureNo}
use Rattle.ada_program.specs.declared.program.VariableKind.{VariableKind}
use Rattle.ada_program.specs.declared.program.VariableKind.TheVariants as variable
use Rattle.ada_program.specs.Controlled.{operations_in}
use Rattle.ada_program.specs.declared.program.Operations.{Operations}
use Rattle.ada_program.specs.ProgramForm.{TypeForm, record_of, access_to, object_of, VariableForm}
use Rattle.ada_program.specs.WellFormed as fits
use Rattle.ada_program.specs.WellFormed.{Profile}
use Rattle.ada_resolve.specs.declared.primitives.Operation.{Operation}
use Rattle.ada_resolve.specs.declared.primitives.Operation.TheVariants.{Initialize, Adjust, Finalize}
use Rattle.ada_resolve.specs.Clauses.{pool_by, pool_of}
use Rattle.ada_resolve.specs.Paths.{name_of_type}
use Rattle.ada_resolve.specs.Primitives.{chosen, finalized_by, operand_by, operand_of, overridden, overridden_by, overridden_if, overrider, type_overridden, with_chosen}
use Rattle.ada_resolve.proofs.WellFormed.Forms.{AreIn, bare, forms, forms_set, object_stays}
use Rattle.ada_resolve.proofs.WellFormed.Operations.{HaveOperations, has_stays, right_stays}
use Rattle.ada_resolve.proofs.WellFormed.Placed.{grown}
use Rattle.ada_resolve.proofs.WellFormed.Tables.{all_get, all_set, both_parts, first_part, get_other, get_set, second_part}

-- what looks at no operation of a type that is set
pub looked_set : {X : Type 0} (look : Option TypeForm → X) (types : List TypeForm) (u : ℕ) (x y : TypeForm) → slice_get types u ≡ Some x → look (Some y) ≡ look (Some x) → (t : ℕ) → look (slice_get (slice_set types u y) t) ≡ look (slice_get types t)
looked_set look types u x y is same t = by_number (eqb u t) refl
  where
    by_number : (b : Bool) → eqb u t ≡ b → look (slice_get (slice_set types u y) t) ≡ look (slice_get types t)
    by_number true on =
        let at : u ≡ t = eqb-true u t on in
        let there : slice_get types t ≡ Some x = subst (λ (v : ℕ). slice_get types v ≡ Some x) at is in
        let now : slice_get (slice_set types u y) t ≡ Some y = subst (λ (v : ℕ). slice_get (slice_set types u y) v ≡ Some y) at (get_set types u x y is) in
        ap look now ∙ (same ∙ ap look (sym there))
    by_number false off = ap look (get_other types u t y (λ at. apart (eq-eqb u t at)))
      where
        apart : eqb u t ≡ true → ⊥
        apart on = cc (on, off)

-- a type, once one of its operations is overridden
module _ (o : Operation) (p : ProcedureNo) where
  bare_overridden : (x : TypeForm) → bare (type_overridden o p x) ≡ bare x
  bare_overridden (record_of name ps cs None) = refl
  bare_overridden (record_of name ps cs (Some f)) = refl
  bare_overridden (access_to name d pool) = refl
  bare_overridden (object_of r) = refl

  final_overridden : (x : TypeForm) → fits.finalization_in (Some (type_overridden o p x)) ≡ finalized_by o p (fits.finalization_in (Some x))
  final_overridden (record_of name ps cs final) = refl
  final_overridden (access_to name d pool) = refl
  final_overridden (object_of r) = refl

  pool_same : (x : TypeForm) → pool_by (Some (type_overridden o p x)) ≡ pool_by (Some x)
  pool_same (record_of name ps cs final) = refl
  pool_same (access_to name d pool) = refl
  pool_same (object_of r) = refl

  name_same : (x : TypeForm) → name_of_type (Some (type_overridden o p x)) ≡ name_of_type (Some x)
  name_same (record_of name ps cs final) = refl
  name_same (access_to name d pool) = refl
  name_same (object_of r) = refl

  housed_same : (n : ℕ) (x : TypeForm) → fits.has_known_pool n (type_overridden o p x) ≡ fits.has_known_pool n x
  housed_same n (record_of name ps cs final) = refl
  housed_same n (access_to name d pool) = refl
  housed_same n (object_of r) = refl

  -- the types, once an operation of one of them is overridden
  pub overridden_forms : (types : List TypeForm) (t : ℕ) → forms (overridden o p types t) ≡ forms types
  unfolding overridden
  overridden_forms types t = by_form (slice_get types t) refl
    where
      by_form : (found : Option TypeForm) → slice_get types t ≡ found → forms (overridden_by found o p types t) ≡ forms types
      by_form None is = refl
      by_form (Some x) is = forms_set types t x (type_overridden o p x) is (bare_overridden x)

  pub overridden_pool : (types : List TypeForm) (t access : ℕ) → pool_of (overridden o p types t) access ≡ pool_of types access
  unfolding overridden pool_of
  overridden_pool types t access = by_form (slice_get types t) refl
    where
      by_form : (found : Option TypeForm) → slice_get types t ≡ found → pool_by (slice_get (overridden_by found o p types t) access) ≡ pool_by (slice_get types access)
      by_form None is = refl
      by_form (Some x) is = looked_set (λ f. pool_by f) types t x (type_overridden o p x) is (pool_same x) access

  pub overridden_housed : (n : ℕ) (types : List TypeForm) (t : ℕ) → list_all (fits.has_known_pool n) types ≡ true → list_all (fits.has_known_pool n) (overridden o p types t) ≡ true
  unfolding overridden
  overridden_housed n types t all = by_form (slice_get types t) refl
    where
      by_form : (found : Option TypeForm) → slice_get types t ≡ found → list_all (fits.has_known_pool n) (overridden_by found o p types t) ≡ true
      by_form None is = all
      by_form (Some x) is = all_set (fits.has_known_pool n) types t (type_overridden o p x) all (housed_same n x ∙ all_get (fits.has_known_pool n) types t x all is)

  -- a type has the operations that it says, with one more
  has_one : (types more : List TypeForm) (callable : List Profile) (t : ℕ) (final : Option Finalization) → AreIn (forms types) (forms more) → fits.is_operation types t (slice_get callable p.0) ≡ true → fits.has_operations types callable t final ≡ true → fits.has_operations more callable t (finalized_by o p final) ≡ true
  has_one types more callable t None g own e = refl
  has_one types more callable t (Some f) g own e = by_operation o
    where
      was : fits.has_operations more callable t (Some f) ≡ true
      was = has_stays types more callable callable (object_stays types more g) (λ i x is. is) t (Some f) e

      now : fits.overrides_rightly more callable t (Some p) ≡ true
      now = right_stays types more callable callable (object_stays types more g) (λ i x is. is) t (Some p) own

      a : Bool
      a = fits.overrides_rightly more callable t f.operations.initialize

      b : Bool
      b = fits.overrides_rightly more callable t f.operations.adjust

      c : Bool
      c = fits.overrides_rightly more callable t f.operations.finalize

      n : Bool
      n = fits.overrides_rightly more callable t (Some p)

      front : (a && b) ≡ true
      front = first_part (a && b) c was

      by_operation : (operation : Operation) → fits.has_operations more callable t (finalized_by operation p (Some f)) ≡ true
      by_operation Initialize = both_parts (n && b) c (both_parts n b now (second_part a b front)) (second_part (a && b) c was)
      by_operation Adjust = both_parts (a && n) c (both_parts a n (first_part a b front) now) (second_part (a && b) c was)
      by_operation Finalize = both_parts (a && b) n front now

  pub overridden_operations : (types : List TypeForm) (t : ℕ) (callable : List Profile) → fits.is_operation types t (slice_get callable p.0) ≡ true → HaveOperations types callable → HaveOperations (overridden o p types t) callable
  unfolding overridden
  overridden_operations types t callable own all = by_form (slice_get types t) refl (overridden_forms types t)
    where
      by_form : (found : Option TypeForm) → slice_get types t ≡ found → forms (overridden_by found o p types t) ≡ forms types → HaveOperations (overridden_by found o p types t) callable
      by_form None is same = all
      by_form (Some x) is same = λ u. by_number u (eqb t u) refl
        where
          more : List TypeForm
          more = slice_set types t (type_overridden o p x)

          g : AreIn (forms types) (forms more)
          g = grown types more same

          by_number : (u : ℕ) (b : Bool) → eqb t u ≡ b → fits.has_operations more callable u (fits.finalization_of more u) ≡ true
          by_number u true on =
              let at : t ≡ u = eqb-true t u on in
              let final : fits.finalization_of more t ≡ finalized_by o p (fits.finalization_of types t) =
              ap (λ f. fits.finalization_in f) (get_set types t x (type_overridden o p x) is) ∙ (final_overridden x ∙ ap (λ f. finalized_by o p (fits.finalization_in f)) (sym is)) in
              subst (λ (v : ℕ). fits.has_operations more callable v (fits.finalization_of more v) ≡ true) at
              (subst (λ f. fits.has_operations more callable t f ≡ true) (sym final) (has_one types more callable t (fits.finalization_of types t) g own (all t)))
          by_number u false off =
              let same_final : fits.finalization_of more u ≡ fits.finalization_of types u = ap (λ f. fits.finalization_in f) (get_other types t u (type_overridden o p x) (λ at. apart (eq-eqb t u at))) in
              subst (λ f. fits.has_operations more callable u f ≡ true) (sym same_final)
              (has_stays types more callable callable (object_stays types more g) (λ i y there. there) u (fits.finalization_of types u) (all u))
            where
              apart : eqb t u ≡ true → ⊥
              apart on = cc (on, off)

-- other operations are overridden as before
chosen_other : (a o : Operation) (p : ProcedureNo) (os : Operations) → (a ≡ o → ⊥) → chosen a (with_chosen o p os) ≡ chosen a os
chosen_other Initialize Initialize p os ne = absurd (ne refl)
chosen_other Initialize Adjust p os ne = refl
chosen_other Initialize Finalize p os ne = refl
chosen_other Adjust Initialize p os ne = refl
chosen_other Adjust Adjust p os ne = absurd (ne refl)
chosen_other Adjust Finalize p os ne = refl
chosen_other Finalize Initialize p os ne = refl
chosen_other Finalize Adjust p os ne = refl
chosen_other Finalize Finalize p os ne = absurd (ne refl)

final_other : (a o : Operation) (p : ProcedureNo) (final : Option Finalization) → (a ≡ o → ⊥) → chosen a (operations_in (finalized_by o p final)) ≡ chosen a (operations_in final)
final_other a o p None ne = refl
final_other a o p (Some f) ne = chosen_other a o p f.operations ne

pub overridden_other : (o : Operation) (p : ProcedureNo) (types : List TypeForm) (t : ℕ) (a : Operation) (u : ℕ) → (a ≡ o → u ≡ t → ⊥) → overrider a (overridden o p types t) u ≡ overrider a types u
unfolding overrider overridden
overridden_other o p types t a u ne = by_form (slice_get types t) refl
  where
    look : Option TypeForm → Option ProcedureNo
    look f = chosen a (operations_in (fits.finalization_in f))

    by_form : (found : Option TypeForm) → slice_get types t ≡ found → look (slice_get (overridden_by found o p types t) u) ≡ look (slice_get types u)
    by_form None is = refl
    by_form (Some x) is = by_number (eqb t u) refl
      where
        by_number : (b : Bool) → eqb t u ≡ b → look (slice_get (slice_set types t (type_overridden o p x)) u) ≡ look (slice_get types u)
        by_number true on =
            let at : t ≡ u = eqb-true t u on in
            looked_set look types t x (type_overridden o p x) is
            (ap (λ f. chosen a (operations_in f)) (final_overridden o p x) ∙ final_other a o p (fits.finalization_in (Some x)) (λ same. ne same (sym at))) u
        by_number false off = ap look (get_other types t u (type_overridden o p x) (λ at. apart (eq-eqb t u at)))
          where
            apart : eqb t u ≡ true → ⊥
            apart on = cc (on, off)

-- so it is where a body ends, which may be that of an operation
pub if_forms : (o : Option Operation) (p : ProcedureNo) (t : Option ℕ) (types : List TypeForm) → forms (overridden_if o p t types) ≡ forms types
if_forms (Some o) p (Some t) types = overridden_forms o p types t
if_forms (Some o) p None types = refl
if_forms None p t types = refl

pub if_pool : (o : Option Operation) (p : ProcedureNo) (t : Option ℕ) (types : List TypeForm) (access : ℕ) → pool_of (overridden_if o p t types) access ≡ pool_of types access
if_pool (Some o) p (Some t) types access = overridden_pool o p types t access
if_pool (Some o) p None types access = refl
if_pool None p t types access = refl

pub if_housed : (n : ℕ) (o : Option Operation) (p : ProcedureNo) (t : Option ℕ) (types : List TypeForm) → list_all (fits.has_known_pool n) types ≡ true → list_all (fits.has_known_pool n) (overridden_if o p t types) ≡ true
if_housed n (Some o) p (Some t) types all = overridden_housed o p n types t all
if_housed n (Some o) p None types all = all
if_housed n None p t types all = all

pub if_operations : (o : Option Operation) (p : ProcedureNo) (found : Option ℕ) (types : List TypeForm) (callable : List Profile) → ((t : ℕ) → found ≡ Some t → fits.is_operation types t (slice_get callable p.0) ≡ true) → HaveOperations types callable → HaveOperations (overridden_if o p found types) callable
if_operations (Some o) p (Some t) types callable own all = overridden_operations o p types t callable (own t refl) all
if_operations (Some o) p None types callable own all = all
if_operations None p found types callable own all = all

-- a body is an operation of the type of its one formal parameter, of mode `in out`
held_stands : (types : List TypeForm) (t : ℕ) (kind : VariableKind) → operand_by types kind ≡ Some t → fits.stands_for types t kind ≡ true
held_stands types t variable.Integer e = absurd (cc e)
held_stands types t variable.Boolean e = absurd (cc e)
held_stands types t (variable.Access access) e = absurd (cc e)
held_stands types t (variable.Record own) e = ap (λ o. fits.is_this t o) e ∙ eq-eqb t t refl

take_none : (vs : List VariableForm) → take 0 vs ≡ []
take_none [] = refl
take_none (v ∷ vs) = refl

pub operand_operates : (types : List TypeForm) (modes : List FormalMode) (vs : List VariableForm) (t : ℕ) → operand_of types modes vs ≡ Some t → fits.operates_on types t (map fits.kind_held (take (length modes) vs)) modes ≡ true
operand_operates types (InOut ∷ []) (v ∷ vs) t e =
    ap (λ (ws : List VariableForm). fits.operates_on types t (v.kind ∷ map fits.kind_held ws) (InOut ∷ [])) (take_none vs) ∙ held_stands types t v.kind e
operand_operates types (InOut ∷ []) [] t e = absurd (cc e)
operand_operates types [] vs t e = absurd (cc e)
operand_operates types (In ∷ modes) vs t e = absurd (cc e)
operand_operates types (InOut ∷ (mode ∷ modes)) vs t e = absurd (cc e)
