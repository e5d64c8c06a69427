-- What declarations and bodies leave of what is elaborated, of the bodies that have ended, and of the access types.

use Rattle.std.proofs.Common.{◌≡◌, ◌∙◌, ℕ, Bool, true, false, cond, List, [], ◌∷◌, ◌++◌, ◌+◌, ◌≤◌, length, drop, refl, sym, ap, arith, eqb, eq-eqb}
use Rattle.std.specs.Prelude.{Option, Some, None, nat_le}
use Rattle.std.proofs.lemmas.Bool.{leb-false}
use Rattle.ada_tree.specs.Declarations.{HeadTree}
use Rattle.ada_tree.specs.Names.{Ident}
use Rattle.ada_tree.specs.Statements.{DeclarationTree, exception_declaration, constant_declaration, pool_declaration, attribute_clause, incomplete_type, access_type, record_type, derived_type, specification, instance, object_declaration, borrower_declaration}
use Rattle.ada_program.specs.declared.program.PoolNo.{PoolNo}
use Rattle.ada_program.specs.declared.program.TypeNo.{TypeNo}
use Rattle.ada_program.specs.declared.program.VariableKind.{VariableKind}
use Rattle.ada_program.specs.Form.{PathForm, RightForm}
use Rattle.ada_program.specs.ProgramForm.{TypeForm, BodyForm}
use Rattle.ada_program.specs.WellFormed.{created_in}
use Rattle.ada_resolve.specs.declared.primitives.Operation.{Operation}
use Rattle.ada_resolve.specs.declared.scope.Entity.{Entity}
use Rattle.ada_resolve.specs.declared.scope.Entity.TheVariants as entity
use Rattle.ada_resolve.specs.Borrowers.{lender_found, borrower_created, borrower_known}
use Rattle.ada_resolve.specs.Clauses.{placed_if, clause_pool}
use Rattle.ada_resolve.specs.Instances.{access_type_in, freed_found, instance_of}
use Rattle.ada_resolve.specs.Known.{Known, next_procedure, types_go_on, visible}
use Rattle.ada_resolve.specs.Objects.{object_type_found, held_of, kind_of, initial_found, initial_value_in, ends_types, after_types, object_created, created_of, object_known}
use Rattle.ada_resolve.specs.Pools.{aspect_found}
use Rattle.ada_resolve.specs.Primitives.{formal_name, operation_named, overridden_if}
use Rattle.ada_resolve.specs.Procedures.{no_formals, with_formals, behind_head, head_operand}
use Rattle.ada_resolve.specs.Specifications.{operation_known, specified_if}
use Rattle.ada_resolve.specs.Resolution.{known_at, declaration_remark, declaration_known}
use Rattle.ada_resolve.specs.Rights.{Assigned}
use Rattle.ada_resolve.specs.Types.{record_found, access_defined, completed_type}
use Rattle.ada_resolve.proofs.Standing.{Sound, declaration_keeps, around_body, closed_body, operand_at}
use Rattle.ada_resolve.proofs.Standing as standing
use Rattle.ada_resolve.proofs.WellFormed.Counts.{count}
use Rattle.ada_resolve.proofs.WellFormed.Created.{accesses, accesses_alike, accesses_before, collected, bodies_collect, collect_more, created_more, drop_more, makes_later}
use Rattle.ada_resolve.proofs.WellFormed.Elaborated.{Late, InOrder, early, ended_here}
use Rattle.ada_resolve.proofs.WellFormed.Lasting.{Follows, ended_on}
use Rattle.ada_resolve.proofs.WellFormed.Forms.{AreIn, forms}
use Rattle.ada_resolve.proofs.WellFormed.Growing.{collections_stay, initials_stay}
use Rattle.ada_resolve.proofs.WellFormed.Overridden.{if_forms}
use Rattle.ada_resolve.proofs.WellFormed.Placed.{grown}
use Rattle.ada_resolve.proofs.WellFormed.Remarks.{Quiet}
use Rattle.ada_resolve.proofs.WellFormed.Tables.{both_parts}

-- what is elaborated where a body begins
pub body_early : (k : Known) (head : HeadTree) → InOrder (behind_head k head)
unfolding behind_head
body_early k head =
    let n = length (with_formals k head.formals no_formals).variables in
    early (record { collections_fit = refl; only_collections = refl; at_most_one = λ a. omega arith; own = λ a less. refl; pools = refl })
    (both_parts (eqb n n) (eqb (length k.bodies) (length k.bodies)) (eq-eqb n n refl) (eq-eqb (length k.bodies) (length k.bodies) refl))

-- behind a body
pub body_late : (k z : Known) (head : HeadTree) (b : BodyForm) → Sound k → Late k → AreIn (forms k.types) (forms z.types) → AreIn k.bodies z.bodies → length k.pools ≤ length z.pools → ((a : ℕ) → accesses k.types a + collected a (created_in b) + bodies_collect z.bodies a ≡ accesses z.types a + bodies_collect k.bodies a) → Late (closed_body (around_body k head) z head.name.text b)
body_late k z head b s w grows bodies pools creates = record {
  collections_first = w.collections_first;
  collections_fit = collections_stay k.types more k.variables k.variables more_in (λ i x is. is) k.here.elaborated w.collections_fit;
  initials_fit = initials_stay k.types more k.variables k.variables more_in (λ i x is. is) (standing.sound_laid k s) k.here.elaborated w.initials_fit;
  one_each = λ a.
      let n = k.here.first_body in
      let before = w.one_each a in
      let made : accesses k.types a + collected a (created_in b) + bodies_collect z.bodies a ≡ accesses more a + bodies_collect k.bodies a =
      creates a ∙ ap (λ (m : ℕ). m + bodies_collect k.bodies a) (sym (accesses_alike z.types more same a)) in
      let later = collect_more k.bodies z.bodies n bodies s.bounds.first_body a in
      let within : n ≤ length z.bodies = let at = s.bounds.first_body in let longer = standing.longer k.bodies z.bodies bodies in omega (arith, at, longer) in
      let behind : bodies_collect (drop n (z.bodies ++ b ∷ [])) a ≡ bodies_collect (drop n z.bodies) a + collected a (created_in b) =
      ap (λ bs. bodies_collect bs a) (drop_more z.bodies n b within) ∙ created_more a (drop n z.bodies) b in
      by_place a (nat_le k.here.first_type a) refl before made later behind;
  in_order = w.in_order;
  pools = makes_later (length k.pools) (length z.pools) pools k.here.elaborated w.pools;
}
  where
    more : List TypeForm
    more = overridden_if (operation_named head.name.text) (next_procedure z) (operand_at z) z.types

    same : forms more ≡ forms z.types
    same = if_forms (operation_named head.name.text) (next_procedure z) (operand_at z) z.types

    more_in : AreIn (forms k.types) (forms more)
    more_in t form is = grown z.types more same t form (grows t form is)

    by_place : (a : ℕ) (c : Bool) → nat_le k.here.first_type a ≡ c → count a k.here.elaborated + ended_here k a ≡ cond c (accesses k.types a) 0 → accesses k.types a + collected a (created_in b) + bodies_collect z.bodies a ≡ accesses more a + bodies_collect k.bodies a → bodies_collect z.bodies a + ended_here k a ≡ bodies_collect k.bodies a + bodies_collect (drop k.here.first_body z.bodies) a → bodies_collect (drop k.here.first_body (z.bodies ++ b ∷ [])) a ≡ bodies_collect (drop k.here.first_body z.bodies) a + collected a (created_in b) → count a k.here.elaborated + bodies_collect (drop k.here.first_body (z.bodies ++ b ∷ [])) a ≡ cond c (accesses more a) 0
    by_place a true at before made later behind = omega (arith, before, made, later, behind)
    by_place a false at before made later behind =
        let alike : accesses more a ≡ accesses k.types a =
        accesses_before k.types more more_in a (let less = leb-false k.here.first_type a at in let first = s.bounds.first in omega (arith, less, first)) in
        omega (arith, before, made, later, behind, alike)

-- no body of the part ends, and no text is written
pub record Alike (k m : Known) : Type 0 where
  pub bodies : m.bodies ≡ k.bodies
  pub texts : m.texts ≡ k.texts

access_alike : (k : Known) (name : Ident) (c o : Option TypeNo) (pool : Option PoolNo) → Alike k (access_defined k name c o pool)
access_alike k name c None pool = record { bodies = refl; texts = refl }
access_alike k name c (Some d) pool = record { bodies = refl; texts = refl }

instance_alike : (k : Known) (name : Ident) (o : Option TypeNo) → Alike k (instance_of k name o)
instance_alike k name None = record { bodies = refl; texts = refl }
instance_alike k name (Some t) = record { bodies = refl; texts = refl }

clause_alike : (k : Known) (access : Option TypeNo) (pool : Option PoolNo) → Alike k (placed_if access pool k)
clause_alike k (Some access) (Some pool) = record { bodies = refl; texts = refl }
clause_alike k (Some access) None = record { bodies = refl; texts = refl }
clause_alike k None pool = record { bodies = refl; texts = refl }

created_alike : (k : Known) (name : Ident) (kind : Option VariableKind) (value : Option RightForm) → Alike k (object_created k name kind value)
created_alike k name None value = record { bodies = refl; texts = refl }
created_alike k name (Some kind) value = record { bodies = refl; texts = refl }

object_alike : (k : Known) (name : Ident) (o : Option Entity) (value : Option Assigned) → Alike k (created_of k name o value)
object_alike k name None value = record { bodies = refl; texts = refl }
object_alike k name (Some (entity.Record t size)) value = record { bodies = refl; texts = refl }
object_alike k name (Some e) value = created_alike k name (kind_of (Some e)) (initial_value_in value)

borrower_alike : (k : Known) (name : Ident) (o : Option (PathForm × TypeNo)) → Alike k (borrower_created k name o)
borrower_alike k name None = record { bodies = refl; texts = refl }
borrower_alike k name (Some lender) = record { bodies = refl; texts = refl }

alike_on : (k m z : Known) → Alike k m → Alike m z → Alike k z
alike_on k m z f g = record { bodies = g.bodies ∙ f.bodies; texts = g.texts ∙ f.texts }

ends_alike : (b : Bool) (k : Known) → Alike k (ends_types b k)
ends_alike true k = record { bodies = refl; texts = refl }
ends_alike false k = record { bodies = refl; texts = refl }

pub after_alike : (k : Known) → Alike k (after_types k)
unfolding after_types
after_alike k = ends_alike (types_go_on k) k

specified_alike : (k : Known) (o : Operation) (t : Option ℕ) (formal : List ℕ) → Alike k (specified_if o t formal k)
specified_alike k o (Some t) formal = record { bodies = refl; texts = refl }
specified_alike k o None formal = record { bodies = refl; texts = refl }

operation_alike : (k : Known) (o : Option Operation) (head : HeadTree) → Alike k (operation_known o k head)
operation_alike k (Some o) head = specified_alike k o (head_operand (Some o) k head) (formal_name head.formals)
operation_alike k None head = record { bodies = refl; texts = refl }

pub declaration_alike : (k : Known) (d : DeclarationTree) → Quiet (declaration_remark (known_at k d) d) → Alike k (declaration_known (known_at k d) d)
declaration_alike k (incomplete_type spot name) q = record { bodies = refl; texts = refl }
declaration_alike k (access_type spot name designated aspect) q = access_alike k name (completed_type k name) (record_found k designated) (aspect_found k aspect)
declaration_alike k (record_type spot name definition) q = record { bodies = refl; texts = refl }
declaration_alike k (derived_type spot name parent definition) q = record { bodies = refl; texts = refl }
declaration_alike k (instance spot name generic object access) q = instance_alike k name (freed_found k access (record_found k object))
declaration_alike k (constant_declaration name value) q = record { bodies = refl; texts = refl }
declaration_alike k (exception_declaration name) q = record { bodies = refl; texts = refl }
declaration_alike k (pool_declaration name type_name label size) q = record { bodies = refl; texts = refl }
declaration_alike k (attribute_clause spot name attribute value) q = clause_alike k (access_type_in (visible k name.text)) (clause_pool k value)
declaration_alike k (object_declaration name type_name initial) q =
    let m = after_types k in
    alike_on k m (object_known m name type_name initial) (after_alike k)
    (object_alike m name (object_type_found m type_name) (initial_found m (held_of (object_type_found m type_name)) initial))
declaration_alike k (borrower_declaration name designated initial) q =
    let m = after_types k in
    alike_on k m (borrower_known m name initial) (after_alike k) (borrower_alike m name (lender_found m initial))
declaration_alike k (specification head) q = operation_alike k (operation_named head.name.text) head
declaration_alike k d q = absurd q

-- so what is behind it follows
alike_follows : (k m : Known) → standing.Keeps k m → Alike k m → Follows k m
alike_follows k m w f = record {
  ended = ended_on k m f.bodies (standing.longer k.texts m.texts w.texts) (standing.longer k.exceptions m.exceptions w.exceptions) w.more (standing.longer k.pools m.pools w.pools) w.types;
}

pub after_follows : (k : Known) → Follows k (after_types k)
after_follows k = alike_follows k (after_types k) (standing.ended_keeps k) (after_alike k)

pub declaration_follows : (k : Known) (d : DeclarationTree) → Sound k → Quiet (declaration_remark (known_at k d) d) → Follows k (declaration_known (known_at k d) d)
declaration_follows k d s q = alike_follows k (declaration_known (known_at k d) d) (declaration_keeps k d s q) (declaration_alike k d q)
