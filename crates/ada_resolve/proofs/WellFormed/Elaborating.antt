-- Each declaration leaves what its part elaborates in order.

use Rattle.std.proofs.Common.{◌≡◌, ◌∙◌, ℕ, ◌≤◌, Bool, true, false, List, [], ◌∷◌, ◌++◌, length, length-append, refl, arith, eqb}
use Rattle.std.specs.Prelude.{Option, Some, None, nat_lt, is_some}
use Rattle.std.specs.List.{slice_get}
use Rattle.std.proofs.lemmas.Bool.{ltb-false, lt-ltb, ne_eqb}
use Rattle.ada_text.specs.declared.spot.Spot.{Spot}
use Rattle.ada_tree.specs.Declarations.{HeadTree, SizeTree}
use Rattle.ada_tree.specs.Names.{Ident, NameTree}
use Rattle.ada_tree.specs.Statements.{DeclarationTree, exception_declaration, constant_declaration, pool_declaration, attribute_clause, incomplete_type, access_type, record_type, derived_type, specification, instance, object_declaration, borrower_declaration}
use Rattle.ada_program.specs.declared.program.PoolNo.{PoolNo}
use Rattle.ada_program.specs.declared.program.TypeNo.{TypeNo}
use Rattle.ada_program.specs.Form.{DeclarationForm, creates_pool, collects, declares, declares_record}
use Rattle.ada_program.specs.ProgramForm.{PoolForm, TypeForm, record_of, access_to, object_of}
use Rattle.ada_program.specs.WellFormed as fits
use Rattle.ada_resolve.specs.declared.fault.NameRule.TheVariants.{Layout}
use Rattle.ada_resolve.specs.declared.primitives.Operation.{Operation}
use Rattle.ada_resolve.specs.declared.scope.Entity.{Entity}
use Rattle.ada_resolve.specs.declared.scope.Entity.TheVariants as entity
use Rattle.ada_resolve.specs.Clauses.{placed, placed_if, clause_pool}
use Rattle.ada_resolve.specs.Known.{Known, Specifications, declared, types_go_on, visible}
use Rattle.ada_resolve.specs.Instances.{access_type_in, access_if, access_in, designates_if_known, freed_found, is_collected, one_instance, own_type, instance_remark, instance_of, instance_known}
use Rattle.ada_resolve.specs.Objects.{after_types}
use Rattle.ada_resolve.specs.Pools.{aspect_found, size_value, pool_known}
use Rattle.ada_resolve.specs.Resolution.{known_at, declaration_remark, declaration_known}
use Rattle.ada_resolve.specs.Derived.{derived_type_known, limited_parent, with_parent}
use Rattle.ada_resolve.specs.Primitives.{formal_name, operation_named, specified_more}
use Rattle.ada_resolve.specs.Procedures.{head_operand}
use Rattle.ada_resolve.specs.Records.{components_written, composed, record_type_known, with_record}
use Rattle.ada_resolve.specs.Specifications.{operation_known, specified_if}
use Rattle.ada_resolve.specs.Types.{record_found, access_defined, completed_type}
use Rattle.ada_resolve.proofs.Standing.{Sound, ended_sound, declaration_keeps}
use Rattle.ada_resolve.proofs.Standing as standing
use Rattle.ada_resolve.proofs.WellFormed.Created.{makes_known, makes_later}
use Rattle.ada_resolve.proofs.WellFormed.Forms.{get_form, access_there}
use Rattle.ada_resolve.proofs.WellFormed.Placed.{grown, placed_forms}
use Rattle.ada_resolve.proofs.WellFormed.Remarks.{Quiet, quiet_if}
use Rattle.ada_resolve.proofs.WellFormed.Tables.{KeepsAccesses, all_more, all_weaker, both_parts, types_keep}
use Rattle.ada_resolve.proofs.WellFormed.Types.{IsAccessIn, found_access, one_of_those}
use Rattle.ada_resolve.proofs.WellFormed.Counts.{count_more, one_more}
use Rattle.ada_resolve.proofs.WellFormed.Elaborated.{is_first, Early, InOrder, early, late, early_of, none_yet_of, after_late, after_order}
use Rattle.ada_resolve.proofs.WellFormed.Objects.{object_order, borrower_order}

-- each access type stays one
accesses_kept : (k m : Known) → standing.Keeps k m → KeepsAccesses k.types m.types
accesses_kept k m w t e = found (slice_get k.types t) refl e
  where
    found : (o : Option TypeForm) → slice_get k.types t ≡ o → is_some (fits.designated_in o) ≡ true → fits.is_access m.types t ≡ true
    found None is e = absurd (cc e)
    found (Some (record_of name ps cs final)) is e = absurd (cc e)
    found (Some (access_to name d pool)) is e =
        let there = access_there m.types t name d (w.accesses t name d (get_form k.types t (access_to name d pool) is)) in rw there.1 refl
    found (Some (object_of r)) is e = absurd (cc e)

collection_kept : (types more : List TypeForm) → KeepsAccesses types more → (e : DeclarationForm) → fits.collection_fits types e ≡ true → fits.collection_fits more e ≡ true
collection_kept types more w (creates_pool p) e = refl
collection_kept types more w (collects t) e = w t e
collection_kept types more w (declares x source) e = refl
collection_kept types more w (declares_record x object initial) e = refl

-- more types, and one more name
early_types : (k : Known) (more : List TypeForm) (n : ℕ) (text : List ℕ) (e : Entity) → Early k → KeepsAccesses k.types more → Early (declared (record k { types = more; controlled = n }) text e)
early_types k more n text e w g = record {
  collections_fit = all_weaker (fits.collection_fits k.types) (fits.collection_fits more) (collection_kept k.types more g) k.here.elaborated w.collections_fit;
  only_collections = w.only_collections;
  at_most_one = w.at_most_one;
  own = w.own;
  pools = w.pools;
}

-- which types are limited alone changes
early_limited : (limited : List ℕ) (k : Known) → Early k → Early (record k { limited = limited })
early_limited limited k w = record { collections_fit = w.collections_fit; only_collections = w.only_collections; at_most_one = w.at_most_one; own = w.own; pools = w.pools }

-- the specifications of the part alone change
order_specified : (specified : Specifications) (k : Known) → InOrder k → InOrder (record k { here = record k.here { specified = specified } })
order_specified specified k (early w go) = early (record { collections_fit = w.collections_fit; only_collections = w.only_collections; at_most_one = w.at_most_one; own = w.own; pools = w.pools }) go
order_specified specified k (late w off) =
    late (record { collections_first = w.collections_first; collections_fit = w.collections_fit; initials_fit = w.initials_fit; one_each = w.one_each; in_order = w.in_order; pools = w.pools }) off

specified_order : (k : Known) (o : Operation) (t : Option ℕ) (formal : List ℕ) → InOrder k → InOrder (specified_if o t formal k)
specified_order k o (Some t) formal w = order_specified (specified_more o t formal k.here.specified) k w
specified_order k o None formal w = w

operation_order : (k : Known) (o : Option Operation) (head : HeadTree) → InOrder k → InOrder (operation_known o k head)
operation_order k (Some o) head w = specified_order k o (head_operand (Some o) k head) (formal_name head.formals) w
operation_order k None head w = w

-- `type A is access T;`
access_order : (k : Known) (name : Ident) (c o : Option TypeNo) (pool : Option PoolNo) → Early k → types_go_on k ≡ true → KeepsAccesses k.types (access_defined k name c o pool).types → InOrder (access_defined k name c o pool)
access_order k name c None pool w none g = early w none
access_order k name c (Some d) pool w none g = early (early_types k _ k.controlled name.text _ w g) none

-- an instance frees objects of an access type of its part
own_of_those : (types : List TypeForm) (o : Option Entity) (r : Option TypeNo) (first : ℕ) (spot : Spot) → Quiet (own_type (access_type_in o) first spot) → Quiet (own_type (access_in o types r) first spot)
own_of_those types None r first spot q = tt
own_of_those types (Some (entity.Access t)) r first spot q = by_test (designates_if_known types t.0 r) q
  where
    by_test : (b : Bool) → Quiet (own_type (Some t) first spot) → Quiet (own_type (access_if b t) first spot)
    by_test true q = q
    by_test false q = tt
own_of_those types (Some e) r first spot q = tt

-- `procedure Free is new Ada.Unchecked_Deallocation (T, A);`
instance_at : (k : Known) (spot : Spot) (name : Ident) (o : Option TypeNo) → Early k → types_go_on k ≡ true → IsAccessIn k.types o → Quiet (one_instance o k.here.elaborated spot) → Quiet (own_type o k.here.first_type spot) → InOrder (instance_of k name o)
instance_at k spot name None w none f q r = early w none
instance_at k spot name (Some t) w none f q r =
    let es = k.here.elaborated in
    let first : k.here.first_type ≤ t.0 = ltb-false t.0 k.here.first_type (quiet_if (nat_lt t.0 k.here.first_type) spot Layout r) in
    early (record {
      collections_fit = all_more (fits.collection_fits k.types) es (collects t.0 ∷ []) w.collections_fit (both_parts (fits.is_access k.types t.0) true f refl);
      only_collections = all_more is_first es (collects t.0 ∷ []) w.only_collections refl;
      at_most_one = λ a. one_more a t.0 es (w.at_most_one a) (quiet_if (is_collected t.0 es) spot Layout q);
      own = λ a less.
          let other : eqb t.0 a ≡ false = ne_eqb t.0 a (omega arith) in
          count_more a es (collects t.0 ∷ []) ∙ (rw (w.own a less, other) (omega arith));
      pools = all_more (makes_known (length k.pools)) es (collects t.0 ∷ []) w.pools refl;
    }) none

instance_order : (k : Known) (spot : Spot) (name : Ident) (generic : NameTree) (object access : Ident) → Sound k → InOrder k → Quiet (instance_remark k spot name generic object access) → InOrder (instance_known k name object access)
unfolding freed_found
instance_order k spot name generic object access s o q =
    instance_at k spot name (freed_found k access (record_found k object)) (early_of k spot o q.0) (none_yet_of k spot q.0)
    (found_access k access (record_found k object) s.names)
    (one_of_those k.types (visible k access.text) (record_found k object) k.here.elaborated spot q.1.1.1.1.1.1.0)
    (own_of_those k.types (visible k access.text) (record_found k object) k.here.first_type spot q.1.1.1.1.1.1.1)

-- `P : Profile_Pools.First_Fit_Pool (64);`
pool_order : (k : Known) (name : Ident) (size : SizeTree) → Early k → types_go_on k ≡ true → InOrder (pool_known k name size)
pool_order k name size w none =
    let es = k.here.elaborated in
    let d : DeclarationForm = creates_pool (length k.pools) in
    let p : PoolForm = record { name = name.text; words = size_value k size } in
    let one = length-append k.pools (p ∷ []) in
    let n = length (k.pools ++ p ∷ []) in
    early (record {
      collections_fit = all_more (fits.collection_fits k.types) es (d ∷ []) w.collections_fit refl;
      only_collections = all_more is_first es (d ∷ []) w.only_collections refl;
      at_most_one = λ a. let most = w.at_most_one a in let all = count_more a es (d ∷ []) in omega (arith, most, all);
      own = λ a less. let own = w.own a less in let all = count_more a es (d ∷ []) in omega (arith, own, all);
      pools = all_more (makes_known n) es (d ∷ []) (makes_later (length k.pools) n (omega (arith, one)) es w.pools)
          (both_parts (makes_known n d) true (lt-ltb (length k.pools) n (omega (arith, one))) refl);
    }) none

-- `for A'Storage_Pool use P;`
clause_order : (k : Known) (access : Option TypeNo) (pool : Option PoolNo) → Early k → types_go_on k ≡ true → InOrder (placed_if access pool k)
clause_order k (Some access) (Some pool) w none =
    let more = placed pool.0 k.types access.0 in
    let g = grown k.types more (placed_forms pool.0 k.types access.0) in
    early (record {
      collections_fit = all_weaker (fits.collection_fits k.types) (fits.collection_fits more) (collection_kept k.types more (types_keep k.types more g).0) k.here.elaborated w.collections_fit;
      only_collections = w.only_collections;
      at_most_one = w.at_most_one;
      own = w.own;
      pools = w.pools;
    }) none
clause_order k (Some access) None w none = early w none
clause_order k None pool w none = early w none

-- a declaration
pub declaration_order : (k : Known) (d : DeclarationTree) → Sound k → InOrder k → Quiet (declaration_remark (known_at k d) d) → InOrder (declaration_known (known_at k d) d)
declaration_order k (incomplete_type spot name) s o q =
    early (early_types k _ k.controlled name.text _ (early_of k spot o q.0) (accesses_kept k _ (declaration_keeps k (incomplete_type spot name) s q)))
    (none_yet_of k spot q.0)
declaration_order k (access_type spot name designated aspect) s o q =
    access_order k name (completed_type k name) (record_found k designated) (aspect_found k aspect) (early_of k spot o q.0) (none_yet_of k spot q.0)
    (accesses_kept k _ (declaration_keeps k (access_type spot name designated aspect) s q))
declaration_order k (record_type spot name definition) s o q =
    early (early_types k _ (record_type_known k name definition).controlled name.text _ (early_of k spot o q.0) (accesses_kept k _ (declaration_keeps k (record_type spot name definition) s q)))
    (none_yet_of k spot q.0)
declaration_order k (derived_type spot name parent definition) s o q =
    early (early_limited (derived_type_known k name parent definition).limited (with_record k name (composed k (with_parent (limited_parent k parent)) (components_written definition)))
    (early_types k _ (derived_type_known k name parent definition).controlled name.text _ (early_of k spot o q.0) (accesses_kept k _ (declaration_keeps k (derived_type spot name parent definition) s q))))
    (none_yet_of k spot q.0)
declaration_order k (instance spot name generic object_name access) s o q = instance_order k spot name generic object_name access s o q
declaration_order k (constant_declaration name value) s o q =
    early (early_types k k.types k.controlled name.text _ (early_of k name.spot o q.0) (λ t e. e)) (none_yet_of k name.spot q.0)
declaration_order k (exception_declaration name) s o q =
    let w = early_of k name.spot o q.0 in
    early (record { collections_fit = w.collections_fit; only_collections = w.only_collections; at_most_one = w.at_most_one; own = w.own; pools = w.pools })
    (none_yet_of k name.spot q.0)
declaration_order k (pool_declaration name type_name label size) s o q = pool_order k name size (early_of k name.spot o q.0) (none_yet_of k name.spot q.0)
declaration_order k (attribute_clause spot name attribute value) s o q =
    clause_order k (access_type_in (visible k name.text)) (clause_pool k value) (early_of k spot o q.0) (none_yet_of k spot q.0)
declaration_order k (object_declaration name type_name initial) s o q =
    let ended = ended_sound k s in
    object_order (after_types k) name type_name initial ended.names ended.bounds.first_variable (after_order k o) (after_late k o) q
declaration_order k (borrower_declaration name designated initial) s o q =
    let ended = ended_sound k s in
    borrower_order (after_types k) name designated initial ended.names ended.bounds.first_variable (after_late k o) q
declaration_order k (specification head) s o q = operation_order k (operation_named head.name.text) head o
declaration_order k d s o q = absurd q
