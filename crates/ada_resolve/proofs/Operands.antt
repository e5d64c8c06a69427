-- Operations of controlled types are read as they are written: the heads of their specifications and of their bodies.

use Rattle.std.proofs.Common.{◌≡◌, ◌∙◌, ℕ, ◌<◌, ◌≤◌, Bool, true, false, cond, List, [], ◌∷◌, length, refl, sym, ap, subst}
use Rattle.std.specs.Prelude.{Option, Some, None, is_some, bytes_eq}
use Rattle.std.specs.List.{slice_get}
use Rattle.ada_tree.specs.Declarations.{FormalTree, HeadTree}
use Rattle.ada_program.specs.declared.program.ComponentKind.{ComponentKind}
use Rattle.ada_program.specs.declared.program.Finalization.{Finalization as Finalized}
use Rattle.ada_program.specs.declared.program.PartKind.{PartKind}
use Rattle.ada_program.specs.declared.program.PartKind.TheVariants as part
use Rattle.ada_program.specs.declared.program.TypeNo.{TypeNo}
use Rattle.ada_program.specs.ProgramForm.{PartForm, TypeForm, record_of}
use Rattle.ada_resolve.specs.declared.primitives.Operation.{Operation}
use Rattle.ada_resolve.specs.declared.primitives.Operation.TheVariants.{Initialize, Adjust, Finalize}
use Rattle.ada_resolve.specs.declared.fault.NameRule.TheVariants.{DeclaredTwice, WrongType}
use Rattle.ada_resolve.specs.declared.scope.Entity.TheVariants as entity
use Rattle.ada_resolve.specs.Instances.{is_among}
use Rattle.ada_resolve.specs.Known.{Known, parts, type_begins, visible}
use Rattle.ada_resolve.specs.Primitives.{begins_with_parent, exists_for, formal_name, formal_specified, is_controlled_type, is_parent_part, operation_named, overrider, specified_for}
use Rattle.ada_resolve.specs.Procedures.{head_operand, operand_wanted, specified_wanted}
use Rattle.ada_resolve.specs.Specifications.{operand_remark, operation_known, specification_known, specification_remark, specified_if, specified_remark, with_specification}
use Rattle.ada_resolve.specs.Spots.{head_spot}
use Rattle.ada_resolve.specs.Naming.{Context, Place, IsBound, a_type}
use Rattle.ada_resolve.specs.Reading.{with_specified, HasOperation, IsOperationBody, IsOperationRead, is_this_operation}
use Rattle.ada_resolve.proofs.WellFormed.Names.{PartsFit, text_same, visible_fits}
use Rattle.ada_resolve.proofs.WellFormed.Remarks.{Quiet, quiet_if, quiet_unless}
use Rattle.ada_resolve.proofs.WellFormed.Tables.{get_within}
use Rattle.ada_resolve.proofs.Agreeing.{Agrees, visible_read}
use Rattle.ada_resolve.proofs.Operating.{named_so, operand_is, specified_now}

-- a controlled type begins with a parent part
begins_so : (ps : List PartForm) → begins_with_parent ps ≡ true → (c : PartForm) × (rest : List PartForm) × (ps ≡ c ∷ rest) × (c.kind ≡ part.Parent)
begins_so [] e = absurd (cc e)
begins_so (c ∷ rest) e = (c, rest, refl, by_kind c.kind e)
  where
    by_kind : (k : PartKind) → is_parent_part k ≡ true → k ≡ part.Parent
    by_kind part.Parent e = refl
    by_kind (part.Record t) e = absurd (cc e)
    by_kind (part.Elementary kind) e = absurd (cc e)

-- which types have the operation
has_so : (o : Operation) (b : Bool) → exists_for o b ≡ true → HasOperation b o
has_so Adjust true e = absurd (cc e)
has_so Adjust false e = tt
has_so Initialize b e = by_limited b
  where
    by_limited : (b : Bool) → HasOperation b Initialize
    by_limited true = tt
    by_limited false = tt
has_so Finalize b e = by_limited b
  where
    by_limited : (b : Bool) → HasOperation b Finalize
    by_limited true = tt
    by_limited false = tt

-- a record type that a name stands for is there in the program
abbrev pub RecordsStay : Known → Context → Type 0
RecordsStay k p =
    (text : List ℕ) (t : TypeNo) (size : ℕ) → visible k text ≡ Some (entity.Record t size) → (ps : List PartForm) (cs : List ComponentKind) (final : Option Finalized) →
    slice_get k.types t.0 ≡ Some (record_of text ps cs final) → (z : Option Finalized) × (slice_get p.types t.0 ≡ Some (record_of text ps cs z))

-- its type is there
pub operand_below : (k : Known) (o : Operation) (head : HeadTree) (t : ℕ) → head_operand (Some o) k head ≡ Some t → t < length k.types
operand_below k o head t found = by_form (slice_get k.types t) refl (operand_is k o head t found).controlled
  where
    by_form : (x : Option TypeForm) → slice_get k.types t ≡ x → is_controlled_type x ≡ true → t < length k.types
    by_form None is e = absurd (cc e)
    by_form (Some x) is e = get_within k.types t x is

-- an operation of a type
pub operation_read : (k : Known) (p : Context) (o : Operation) (head : HeadTree) (t : ℕ) → PartsFit k.types k.variables (parts k) → Agrees k p.place → RecordsStay k p → operation_named head.name.text ≡ Some o → head_operand (Some o) k head ≡ Some t → IsOperationRead p head o t (formal_name head.formals)
operation_read k p o head t fits w stays name_is found =
    let r = operand_is k o head t found in
    let text = r.f.type_name.text in
    let own = visible_fits k fits text (entity.Record r.number r.size) r.found in
    let controlled : begins_with_parent own.0 ≡ true = sym (ap (λ (x : Option TypeForm). is_controlled_type x) (subst (λ (n : ℕ). slice_get k.types n ≡ Some (record_of text own.0 own.1 own.2)) r.is_t own.3)) ∙ r.controlled in
    let first = begins_so own.0 controlled in
    let last = stays text r.number r.size r.found own.0 own.1 own.2 own.3 in
    let there : slice_get p.types t ≡ Some (record_of text (first.0 ∷ first.1) own.1 last.0) =
    subst (λ (ps : List PartForm). slice_get p.types t ≡ Some (record_of text ps own.1 last.0)) first.2 (subst (λ (n : ℕ). slice_get p.types n ≡ Some (record_of text own.0 own.1 last.0)) r.is_t last.1) in
    let bound : IsBound p text (a_type t) = subst (λ (n : ℕ). IsBound p text (a_type n)) r.is_t (visible_read k p w text (entity.Record r.number r.size) r.found) in
    record {
      named = named_so head.name.text o name_is;
      f = r.f;
      alone = r.alone;
      formal_named = sym (ap (λ (fs : List FormalTree). formal_name fs) r.alone);
      mode = (r.input, r.output, r.has_input, r.has_output);
      type_named = (bound, first.0, first.1, own.1, last.0, there, first.3);
      own = subst (λ (n : ℕ). n ≤ t) (sym w.first_type) r.own;
      has = subst (λ (b : Bool). HasOperation b o) (sym (w.limited t)) (has_so o (is_among t k.limited) r.exists);
    }

-- a specification begins as a type does
pub specification_begins : (k : Known) (head : HeadTree) → Quiet (specification_remark k head) → Quiet (type_begins k (head_spot head))
specification_begins k head q = by_name (operation_named head.name.text) q
  where
    by_name : (o : Option Operation) → Quiet (specified_remark o k head) → Quiet (type_begins k (head_spot head))
    by_name (Some o) q = q.0
    by_name None q = absurd q

-- what a specification leaves
pub record SpecificationDone (k m : Known) (head : HeadTree) : Type 0 where
  pub operation : Operation
  pub t : ℕ
  pub named : operation_named head.name.text ≡ Some operation
  pub operand : head_operand (Some operation) k head ≡ Some t
  pub new : formal_specified t (specified_for operation k.here.specified) ≡ None
  pub is : m ≡ with_specification operation t (formal_name head.formals) k

no_formal : (o : Option (List ℕ)) → is_some o ≡ false → o ≡ None
no_formal None e = refl
no_formal (Some text) e = absurd (cc e)

pub specification_done : (k m : Known) (head : HeadTree) → Quiet (specification_remark k head) → m ≡ specification_known k head → SpecificationDone k m head
specification_done k m head q is = by_name (operation_named head.name.text) refl q is
  where
    by_operand : (o : Operation) → operation_named head.name.text ≡ Some o → (found : Option ℕ) → head_operand (Some o) k head ≡ found → Quiet (operand_remark found k o head) → m ≡ specified_if o found (formal_name head.formals) k → SpecificationDone k m head
    by_operand o named_is None found q is = absurd q
    by_operand o named_is (Some t) found q is =
        let formal = formal_specified t (specified_for o k.here.specified) in
        record { operation = o; t = t; named = named_is; operand = found; new = no_formal formal (quiet_if (is_some formal) head.name.spot DeclaredTwice q.0); is = is }

    by_name : (o : Option Operation) → operation_named head.name.text ≡ o → Quiet (specified_remark o k head) → m ≡ operation_known o k head → SpecificationDone k m head
    by_name None named_is q is = absurd q
    by_name (Some o) named_is q is = by_operand o named_is (head_operand (Some o) k head) refl q.1.1 is

-- it is known that it is specified
pub specified_agrees : (k : Known) (place : Place) (o : Operation) (t : ℕ) (formal : List ℕ) → Agrees k place → Agrees (with_specification o t formal k) (with_specified o t formal place)
specified_agrees k place o t formal w = record {
  here = w.here;
  outer = w.outer;
  first_type = w.first_type;
  types = w.types;
  pools = w.pools;
  placed = w.placed;
  bodies = w.bodies;
  variables = w.variables;
  exceptions = w.exceptions;
  texts = w.texts;
  controlled = w.controlled;
  limited = w.limited;
  specified = λ a u. ap (λ (f : Option (List ℕ)). cond (is_this_operation a o u t) (Some formal) f) (w.specified a u) ∙ sym (specified_now o t formal k.here.specified a u);
  overridden = w.overridden;
  kept = w.kept;
}

-- the body of an operation
not_overridden : {X : Type 0} (o : Option X) → is_some o ≡ false → o ≡ None
not_overridden None e = refl
not_overridden (Some x) e = absurd (cc e)

pub operation_body : (k : Known) (p : Context) (o : Operation) (head : HeadTree) (t : ℕ) → PartsFit k.types k.variables (parts k) → Agrees k p.place → RecordsStay k p → operation_named head.name.text ≡ Some o → head_operand (Some o) k head ≡ Some t → Quiet (operand_wanted (Some t) k o head) → IsOperationBody p head o t
operation_body k p o head t fits w stays name_is found q = by_formal (formal_specified t (specified_for o k.here.specified)) refl q
  where
    by_formal : (formal : Option (List ℕ)) → formal_specified t (specified_for o k.here.specified) ≡ formal → Quiet (specified_wanted formal k o t head) → IsOperationBody p head o t
    by_formal None is q = absurd q
    by_formal (Some formal) is q =
        let same : formal_name head.formals ≡ formal = text_same (formal_name head.formals) formal (quiet_unless (bytes_eq (formal_name head.formals) formal) head.name.spot WrongType q.1) in
        let none : overrider o k.types t ≡ None = not_overridden (overrider o k.types t) (quiet_if (is_some (overrider o k.types t)) head.name.spot DeclaredTwice q.0) in (
          formal,
          subst (λ (text : List ℕ). IsOperationRead p head o t text) same (operation_read k p o head t fits w stays name_is found),
          w.specified o t ∙ is,
          sym (w.overridden o t) ∙ none,
        )
