-- A declaration leaves what is known in order, and what stays.

use Rattle.std.proofs.Common.{◌≡◌, ℕ, ◌≤◌, Bool, true, false, cond, List, [], ◌∷◌, ◌++◌, length, length-append, refl, sym, ◌∙◌, subst, arith}
use Rattle.std.specs.Prelude.{◌||◌, not, nat_lt, Option, Some, None, is_some}
use Rattle.std.specs.List.{list_all}
use Rattle.ada_text.specs.declared.spot.Spot.{Spot}
use Rattle.ada_program.specs.declared.program.Exception.TheVariants as exception
use Rattle.ada_program.specs.declared.program.PoolNo.{PoolNo}
use Rattle.ada_program.specs.declared.program.TypeNo.{TypeNo}
use Rattle.ada_program.specs.declared.program.VariableKind.{VariableKind}
use Rattle.ada_program.specs.declared.program.VariableKind.TheVariants as variable
use Rattle.ada_program.specs.Form.{DeclarationForm, ItemForm, creates_pool, collects, declares, declares_record, RightForm, value_of}
use Rattle.ada_program.specs.ProgramForm.{TypeForm, record_of, access_to, object_of, PoolForm, pool_number, VariableForm}
use Rattle.ada_program.specs.WellFormed as fits
use Rattle.ada_tree.specs.Declarations.{AspectTree, HeadTree, SizeTree}
use Rattle.ada_tree.specs.Expressions.{RightTree}
use Rattle.ada_tree.specs.Names.{Ident, NameTree}
use Rattle.ada_tree.specs.Records.{RecordTree}
use Rattle.ada_tree.specs.Statements.{DeclarationTree, exception_declaration, constant_declaration, pool_declaration, attribute_clause, incomplete_type, access_type, record_type, derived_type, specification, instance, object_declaration, borrower_declaration}
use Rattle.ada_resolve.specs.declared.primitives.Operation.{Operation}
use Rattle.ada_resolve.specs.declared.scope.Entity.{Entity}
use Rattle.ada_resolve.specs.declared.scope.Entity.TheVariants as entity
use Rattle.ada_resolve.specs.Borrowers.{borrower_remark, borrower_known}
use Rattle.ada_resolve.specs.Exceptions.{next_exception, with_exception, exception_known}
use Rattle.ada_resolve.specs.Clauses.{placed, pool_of, no_pool_yet, with_placed, placed_if, clause_pool, clause_known, clause_remark, storage_remark}
use Rattle.ada_resolve.specs.Instances.{access_type_in, freed_found, instance_of, with_frozen}
use Rattle.ada_resolve.specs.Known.{Known, Part, Specifications, parts, no_variable_yet, no_body_yet, types_go_on, type_begins, next_variable, visible, with_elaborated}
use Rattle.ada_resolve.specs.Pools.{aspect_found, is_storage_pool, size_value, next_pool, with_pool, pool_known}
use Rattle.ada_resolve.specs.Remark.{wrong}
use Rattle.ada_resolve.specs.Rights.{Assigned}
use Rattle.ada_resolve.specs.Objects.{object_type_found, held_of, kind_of, initial_items_in, initial_value_in, initial_found, initial_source, missing_collections, ends_types, after_types, with_variable, variable_created, object_created, next_record, with_record_object, record_created, created_of, object_known}
use Rattle.ada_resolve.specs.Derived.{derived_type_known, derived_type_remark, limited_parent, limited_with, with_parent}
use Rattle.ada_resolve.specs.Primitives.{formal_name, operation_named, specified_more}
use Rattle.ada_resolve.specs.Procedures.{head_operand}
use Rattle.ada_resolve.specs.Specifications.{operation_known, specified_if}
use Rattle.ada_resolve.specs.Records.{Composition, composed, composition_of, components_written, counted, finalization_made, record_made, record_type_known, record_type_remark, with_record}
use Rattle.ada_resolve.specs.Resolution.{known_at, declaration_remark, declaration_known}
use Rattle.ada_resolve.specs.Statics.{static_value}
use Rattle.ada_resolve.specs.Types.{completed_type, record_found, number_of, incomplete_known, incomplete_remark, access_remark, access_defined, access_known, with_definition}
use Rattle.ada_resolve.proofs.WellFormed.Borrowers.{lent_of, lent_kind, borrower_is}
use Rattle.ada_resolve.proofs.WellFormed.Exceptions.{raised_outer}
use Rattle.ada_resolve.proofs.WellFormed.Names.{EntityFits, variables_behind, PartsFit, laid_in}
use Rattle.ada_resolve.proofs.Operating.{overrider_more}
use Rattle.ada_resolve.proofs.WellFormed.Forms.{forms}
use Rattle.ada_resolve.proofs.WellFormed.Numbered.{made_inherits, numbered_same}
use Rattle.ada_resolve.proofs.WellFormed.Operations.{HaveOperations, callables}
use Rattle.ada_resolve.proofs.WellFormed.Placed.{grown, placed_forms, placed_housed, placed_fit, placed_operations, placed_unused, parts_placed}
use Rattle.ada_resolve.proofs.WellFormed.Remarks.{Quiet, quiet_if, quiet_unless}
use Rattle.ada_resolve.specs.declared.fault.NameRule.TheVariants.{Layout, NotInProfile}
use Rattle.ada_resolve.proofs.WellFormed.Tables.{all_more, all_weaker, both_parts, second_part, get_more, get_last, types_keep, variable_kept}
use Rattle.ada_resolve.proofs.WellFormed.Types.{IsAccessIn, found_access, IsKindIn, found_type, record_visible, full_visible}
use Rattle.ada_resolve.proofs.Standing.Housed.{called_later, housed_later, clause_pool_known}
use Rattle.ada_resolve.proofs.Standing.Order.{Sound, IsSettled, Keeps, keeps_same, keeps_on, longer_types, visible_settled}
use Rattle.ada_resolve.proofs.Standing.Types.{name_sound, incomplete_sound, record_sound, derived_sound, access_sound, object_type_sound, one_longer}
use Rattle.ada_resolve.proofs.Standing.Kept.{IsSlot, new_slot, slot_of, keeps_new, keeps_name, keeps_defined, keeps_elaborated, keeps_object_type, keeps_variable, keeps_exception, keeps_pool, keeps_frozen, keeps_limited, keeps_placed, keeps_specified}

-- only what is elaborated changes
pub elaborated_sound : (es : List DeclarationForm) (k : Known) → Sound k → Sound (with_elaborated es k)
elaborated_sound es k w = record {
  types_fit = w.types_fit;
  operations = w.operations;
  variables_fit = w.variables_fit;
  names = w.names;
  exceptions = w.exceptions;
  called = w.called;
  housed = w.housed;
  controlled = w.controlled;
  sized = w.sized;
  bounds = record { first = w.bounds.first; first_variable = w.bounds.first_variable; modes = w.bounds.modes; first_body = w.bounds.first_body; open_own = w.bounds.open_own; open_unused = w.bounds.open_unused; outer_before = w.bounds.outer_before };
}

-- one more variable
entity_stays : (types : List TypeForm) (variables : List VariableForm) (v : VariableForm) (text : List ℕ) (e : Entity) → EntityFits types variables text e → EntityFits types (variables ++ v ∷ []) text e
entity_stays types variables v text (entity.Variable x kind) f = ((f.0.0, f.0.1, get_more variables v x.0 _ f.0.2), f.1)
entity_stays types variables v text (entity.Parameter x kind) f = ((f.0.0, get_more variables v x.0 _ f.0.1), f.1)
entity_stays types variables v text e f = f

parts_stay : (types : List TypeForm) (variables : List VariableForm) (v : VariableForm) (ps : List Part) → PartsFit types variables ps → PartsFit types (variables ++ v ∷ []) ps
parts_stay types variables v [] f = f
parts_stay types variables v (p ∷ ps) f = (λ t x is. entity_stays types variables v t x (f.0 t x is), behind_stay p.around (parts_stay types variables v ps) f.1)
  where
    behind_stay : (around : Option (List VariableForm)) → (PartsFit types variables ps → PartsFit types (variables ++ v ∷ []) ps) → PartsFit types (variables_behind around variables) ps → PartsFit types (variables_behind around (variables ++ v ∷ [])) ps
    behind_stay None on f = on f
    behind_stay (Some others) on f = f

longer_by : (variables : List VariableForm) (v : VariableForm) → length variables ≤ length (variables ++ v ∷ [])
longer_by [] v = omega arith
longer_by (x ∷ variables) v = let h = longer_by variables v in omega arith

pub variable_sound : (v : VariableForm) (k : Known) → Sound k → fits.variable_fits k.types v ≡ true → Sound (with_variable v k)
variable_sound v k w fit = record {
  types_fit = w.types_fit;
  operations = w.operations;
  variables_fit = all_more (fits.variable_fits k.types) k.variables (v ∷ []) w.variables_fit (both_parts (fits.variable_fits k.types v) true fit refl);
  names = parts_stay k.types k.variables v (parts k) w.names;
  exceptions = w.exceptions;
  called = w.called;
  housed = w.housed;
  controlled = w.controlled;
  sized = w.sized;
  bounds = record {
    first = w.bounds.first;
    first_variable = let a = w.bounds.first_variable in let b = longer_by k.variables v in omega arith;
    modes = w.bounds.modes;
    first_body = w.bounds.first_body;
    open_own = w.bounds.open_own;
    open_unused = w.bounds.open_unused;
    outer_before = w.bounds.outer_before;
  };
}

-- one more exception
raised_sound : (name : List ℕ) (k : Known) → Sound k → Sound (with_exception name k)
raised_sound name k w = record {
  types_fit = w.types_fit;
  operations = w.operations;
  variables_fit = w.variables_fit;
  names = w.names;
  exceptions = raised_outer k.exceptions name (parts k) w.exceptions;
  called = w.called;
  housed = w.housed;
  controlled = w.controlled;
  sized = w.sized;
  bounds = record { first = w.bounds.first; first_variable = w.bounds.first_variable; modes = w.bounds.modes; first_body = w.bounds.first_body; open_own = w.bounds.open_own; open_unused = w.bounds.open_unused; outer_before = w.bounds.outer_before };
}

-- one more pool
with_pool_sound : (p : PoolForm) (k : Known) → Sound k → Sound (with_pool p k)
with_pool_sound p k w =
    let one = length-append k.pools (p ∷ []) in
    record {
      types_fit = w.types_fit;
      operations = w.operations;
      variables_fit = w.variables_fit;
      names = w.names;
      exceptions = w.exceptions;
      called = called_later (length k.bodies) (length k.pools) (length k.bodies) (length (k.pools ++ p ∷ [])) (omega arith) (omega (arith, one)) (parts k) w.called;
      housed = housed_later (length k.pools) (length (k.pools ++ p ∷ [])) (omega (arith, one)) k.types w.housed;
      controlled = w.controlled;
      sized = w.sized;
      bounds = record { first = w.bounds.first; first_variable = w.bounds.first_variable; modes = w.bounds.modes; first_body = w.bounds.first_body; open_own = w.bounds.open_own; open_unused = w.bounds.open_unused; outer_before = w.bounds.outer_before };
    }

-- access types are frozen
frozen_sound : (access : ℕ) (k : Known) → Sound k → Sound (with_frozen access k)
frozen_sound access k w = record {
  types_fit = w.types_fit;
  operations = w.operations;
  variables_fit = w.variables_fit;
  names = w.names;
  exceptions = w.exceptions;
  called = w.called;
  housed = w.housed;
  controlled = w.controlled;
  sized = w.sized;
  bounds = record { first = w.bounds.first; first_variable = w.bounds.first_variable; modes = w.bounds.modes; first_body = w.bounds.first_body; open_own = w.bounds.open_own; open_unused = w.bounds.open_unused; outer_before = w.bounds.outer_before };
}

-- the specifications of the part alone change
pub specified_sound : (specified : Specifications) (k : Known) → Sound k → Sound (record k { here = record k.here { specified = specified } })
specified_sound specified k w = record {
  types_fit = w.types_fit;
  operations = w.operations;
  variables_fit = w.variables_fit;
  names = w.names;
  exceptions = w.exceptions;
  called = w.called;
  housed = w.housed;
  controlled = w.controlled;
  sized = w.sized;
  bounds = record { first = w.bounds.first; first_variable = w.bounds.first_variable; modes = w.bounds.modes; first_body = w.bounds.first_body; open_own = w.bounds.open_own; open_unused = w.bounds.open_unused; outer_before = w.bounds.outer_before };
}

if_specified_sound : (k : Known) (o : Operation) (t : Option ℕ) (formal : List ℕ) → Sound k → Sound (specified_if o t formal k)
if_specified_sound k o (Some t) formal w = specified_sound (specified_more o t formal k.here.specified) k w
if_specified_sound k o None formal w = w

operation_sound : (k : Known) (o : Option Operation) (head : HeadTree) → Sound k → Sound (operation_known o k head)
operation_sound k (Some o) head w = if_specified_sound k o (head_operand (Some o) k head) (formal_name head.formals) w
operation_sound k None head w = w

-- which types are limited alone changes
limited_sound : (limited : List ℕ) (k : Known) → Sound k → Sound (record k { limited = limited })
limited_sound limited k w = record {
  types_fit = w.types_fit;
  operations = w.operations;
  variables_fit = w.variables_fit;
  names = w.names;
  exceptions = w.exceptions;
  called = w.called;
  housed = w.housed;
  controlled = w.controlled;
  sized = w.sized;
  bounds = record { first = w.bounds.first; first_variable = w.bounds.first_variable; modes = w.bounds.modes; first_body = w.bounds.first_body; open_own = w.bounds.open_own; open_unused = w.bounds.open_unused; outer_before = w.bounds.outer_before };
}

-- types become the same but for their pools and operations
pub retyped_sound : (more : List TypeForm) (k : Known) → forms more ≡ forms k.types → list_all (fits.has_known_pool (length k.pools)) more ≡ true → HaveOperations more (callables k.bodies) → Sound k → Sound (record k { types = more })
retyped_sound more k same housed operations w =
    let g = grown k.types more same in
    record {
      types_fit = placed_fit k.types more same (laid_in k.types k.variables (parts k) w.names) w.types_fit;
      operations = operations;
      variables_fit = all_weaker (fits.variable_fits k.types) (fits.variable_fits more) (variable_kept k.types more (types_keep k.types more g)) k.variables w.variables_fit;
      names = parts_placed k.types more same k.variables (parts k) w.names;
      exceptions = w.exceptions;
      called = w.called;
      housed = housed;
      controlled = w.controlled ∙ sym (numbered_same k.types more same);
      sized = w.sized;
      bounds = record {
        first = let a = w.bounds.first in let b = longer_types k.types more g in omega (arith, a, b);
        first_variable = w.bounds.first_variable;
        modes = w.bounds.modes;
        first_body = w.bounds.first_body;
        open_own = w.bounds.open_own;
        open_unused = λ none text t is. placed_unused k.types more same t.0 (w.bounds.open_unused none text t is);
        outer_before = w.bounds.outer_before;
      };
    }

-- an access type is on a pool
placed_sound : (access : TypeNo) (pool : PoolNo) (k : Known) → nat_lt pool.0 (length k.pools) ≡ true → Sound k → Sound (with_placed access pool k)
placed_sound access pool k there w =
    retyped_sound (placed pool.0 k.types access.0) k (placed_forms pool.0 k.types access.0) (placed_housed (length k.pools) pool.0 k.types access.0 there w.housed)
    (placed_operations pool.0 k.types access.0 (callables k.bodies) w.operations) w

-- no type follows a body
pub none_ended : (k : Known) (spot : Spot) → Quiet (type_begins k spot) → no_body_yet k ≡ true
none_ended k spot q = second_part (no_variable_yet k) (no_body_yet k) (quiet_unless (types_go_on k) spot Layout q.1)

-- `type T;`
incomplete_keeps : (k : Known) (spot : Spot) (name : Ident) → Quiet (incomplete_remark k spot name) → Keeps k (incomplete_known k name)
incomplete_keeps k spot name q =
    keeps_new k name.text (entity.Incomplete (record { 0 = length k.types })) (k.types ++ record_of name.text [] [] None ∷ []) k.controlled (new_slot k name spot q.1)
    (λ t form is. get_more k.types (record_of name.text [] [] None) t form is) (one_longer k.types (record_of name.text [] [] None)) (omega arith)
    (overrider_more k.types (record_of name.text [] [] None) refl)

-- `type A is access T;`
access_keeps_at : (k : Known) (name : Ident) (o : Option TypeNo) (pool : Option PoolNo) → no_body_yet k ≡ true → Sound k → IsSlot k name.text (completed_type k name) → Keeps k (access_defined k name (completed_type k name) o pool)
access_keeps_at k name None pool none w slot = keeps_same k
access_keeps_at k name (Some d) pool none w slot = keeps_defined k name.text (entity.Access (number_of (completed_type k name) k.types)) (completed_type k name) (access_to name.text d.0 (pool_number pool)) k.controlled none w slot refl refl tt

access_keeps : (k : Known) (spot : Spot) (name designated : Ident) (aspect : Option AspectTree) → Sound k → Quiet (access_remark k spot name designated aspect) → Keeps k (access_known k name designated aspect)
access_keeps k spot name designated aspect w q = access_keeps_at k name (record_found k designated) (aspect_found k aspect) (none_ended k spot q.0) w (slot_of k name spot q.1.1.0)

-- a record type that is made of this
pub record_made_keeps : (k : Known) (name : Ident) (made : Composition) → no_body_yet k ≡ true → Sound k → IsSlot k name.text (completed_type k name) → Keeps k (with_record k name made)
record_made_keeps k name made none w slot =
    keeps_defined k name.text (entity.Record (number_of (completed_type k name) k.types) made.size) (completed_type k name)
    (record_made k.controlled name made) (counted (finalization_made k.controlled made) k.controlled) none w slot refl (made_inherits k.controlled made) tt

-- `type T is record .. end record;`
record_keeps : (k : Known) (spot : Spot) (name : Ident) (definition : RecordTree) → Sound k → Quiet (record_type_remark k spot name definition) → Keeps k (record_type_known k name definition)
record_keeps k spot name definition w q =
    record_made_keeps k name (composition_of k (components_written definition)) (none_ended k spot q.0) w (slot_of k name spot q.1.0)

-- `type T is new Ada.Finalization.Controlled with record .. end record;`
derived_keeps : (k : Known) (spot : Spot) (name : Ident) (parent : NameTree) (definition : RecordTree) → Sound k → Quiet (derived_type_remark k spot name parent definition) → Keeps k (derived_type_known k name parent definition)
derived_keeps k spot name parent definition w q =
    let m = with_record k name (composed k (with_parent (limited_parent k parent)) (components_written definition)) in
    keeps_on k m (derived_type_known k name parent definition)
    (record_made_keeps k name (composed k (with_parent (limited_parent k parent)) (components_written definition)) (none_ended k spot q.0) w (slot_of k name spot q.1.0))
    (keeps_limited (limited_with (limited_parent k parent) (number_of (completed_type k name) k.types) m.limited) m)

-- `procedure Finalize (X : in out T);`
specified_keeps : (k : Known) (o : Operation) (t : Option ℕ) (formal : List ℕ) → Keeps k (specified_if o t formal k)
specified_keeps k o (Some t) formal = keeps_specified (specified_more o t formal k.here.specified) k
specified_keeps k o None formal = keeps_same k

operation_keeps : (k : Known) (o : Option Operation) (head : HeadTree) → Keeps k (operation_known o k head)
operation_keeps k (Some o) head = specified_keeps k o (head_operand (Some o) k head) (formal_name head.formals)
operation_keeps k None head = keeps_same k

-- `procedure Free is new Ada.Unchecked_Deallocation (T, A);`
instance_sound_at : (k : Known) (name : Ident) (o : Option TypeNo) → Sound k → IsAccessIn k.types o → Sound (instance_of k name o)
instance_sound_at k name None w f = w
instance_sound_at k name (Some t) w f =
    let m = with_elaborated (collects t.0 ∷ []) k in
    name_sound (with_frozen t.0 m) name.text (entity.Instance t) (frozen_sound t.0 m (elaborated_sound (collects t.0 ∷ []) k w)) f tt tt tt (λ none. tt)

instance_keeps_at : (k : Known) (name : Ident) (o : Option TypeNo) → IsSlot k name.text None → Keeps k (instance_of k name o)
instance_keeps_at k name None slot = keeps_same k
instance_keeps_at k name (Some t) slot =
    let m = with_elaborated (collects t.0 ∷ []) k in
    let f = with_frozen t.0 m in
    keeps_on k m (instance_of k name (Some t)) (keeps_elaborated (collects t.0 ∷ []) k)
    (keeps_on m f (instance_of k name (Some t)) (keeps_frozen t.0 m) (keeps_name f name.text (entity.Instance t) slot tt))

-- `E : exception;`
exception_sound : (k : Known) (name : Ident) → Sound k → Sound (exception_known k name)
exception_sound k name w =
    name_sound (with_exception name.text k) name.text (entity.Exception (exception.Declared (next_exception k))) (raised_sound name.text k w) tt (get_last k.exceptions name.text) tt tt (λ none. tt)

exception_keeps : (k : Known) (name : Ident) → IsSlot k name.text None → Keeps k (exception_known k name)
exception_keeps k name slot =
    let m = with_exception name.text k in
    keeps_on k m (exception_known k name) (keeps_exception name.text k) (keeps_name m name.text (entity.Exception (exception.Declared (next_exception k))) slot tt)

-- `P : Profile_Pools.First_Fit_Pool (64);`
pool_sound : (k : Known) (name : Ident) (size : SizeTree) → Sound k → Sound (pool_known k name size)
pool_sound k name size w =
    let p : PoolForm = record { name = name.text; words = size_value k size } in
    let es : List DeclarationForm = creates_pool (length k.pools) ∷ [] in
    let m = with_pool p k in
    let one = length-append k.pools (p ∷ []) in
    name_sound (with_elaborated es m) name.text (entity.Pool (next_pool k)) (elaborated_sound es m (with_pool_sound p k w)) tt tt (omega (arith, one)) tt (λ none. tt)

pool_keeps : (k : Known) (name : Ident) (size : SizeTree) → IsSlot k name.text None → Keeps k (pool_known k name size)
pool_keeps k name size slot =
    let p : PoolForm = record { name = name.text; words = size_value k size } in
    let es : List DeclarationForm = creates_pool (length k.pools) ∷ [] in
    let m = with_pool p k in
    let n = with_elaborated es m in
    keeps_on k n (pool_known k name size) (keeps_on k m n (keeps_pool p k) (keeps_elaborated es m)) (keeps_name n name.text (entity.Pool (next_pool k)) slot tt)

-- `for A'Storage_Pool use P;`
pub no_pool : (o : Option ℕ) → is_some o ≡ false → o ≡ None
no_pool None e = refl
no_pool (Some n) e = absurd (cc e)

-- a clause with which nothing is wrong is one of Storage_Pool
pub storage_quiet : (k : Known) (spot : Spot) (name attribute : Ident) (value : SizeTree) → Quiet (clause_remark k spot name attribute value) → (is_storage_pool attribute ≡ true) × Quiet (storage_remark k spot name value)
storage_quiet k spot name attribute value q = by_attribute (is_storage_pool attribute) refl q.1.1
  where
    by_attribute : (b : Bool) → is_storage_pool attribute ≡ b → Quiet (cond b (storage_remark k spot name value) (wrong name.spot NotInProfile)) → (is_storage_pool attribute ≡ true) × Quiet (storage_remark k spot name value)
    by_attribute true is q = (is, q)
    by_attribute false is q = absurd q

clause_sound_at : (k : Known) (access : Option TypeNo) (pool : Option PoolNo) → fits.is_known_pool (length k.pools) (pool_number pool) ≡ true → Sound k → Sound (placed_if access pool k)
clause_sound_at k (Some access) (Some pool) there w = placed_sound access pool k there w
clause_sound_at k (Some access) None there w = w
clause_sound_at k None pool there w = w

clause_sound : (k : Known) (name : Ident) (value : SizeTree) → Sound k → Sound (clause_known k name value)
clause_sound k name value w = clause_sound_at k (access_type_in (visible k name.text)) (clause_pool k value) (clause_pool_known k value w) w

clause_keeps_at : (k : Known) (spot : Spot) (access : Option TypeNo) (pool : Option PoolNo) → Quiet (no_pool_yet access k.types spot) → Keeps k (placed_if access pool k)
clause_keeps_at k spot (Some access) (Some pool) q = keeps_placed access pool k (no_pool (pool_of k.types access.0) (quiet_if (is_some (pool_of k.types access.0)) spot Layout q))
clause_keeps_at k spot (Some access) None q = keeps_same k
clause_keeps_at k spot None pool q = keeps_same k

clause_keeps : (k : Known) (spot : Spot) (name attribute : Ident) (value : SizeTree) → Quiet (clause_remark k spot name attribute value) → Keeps k (clause_known k name value)
clause_keeps k spot name attribute value q =
    let stored = storage_quiet k spot name attribute value q in
    clause_keeps_at k spot (access_type_in (visible k name.text)) (clause_pool k value) stored.1.1.0.1.0

-- a variable that is declared: what borrows holds access values
made_sound : (k : Known) (name : Ident) (borrows : Bool) (kind : VariableKind) (value : RightForm) → Sound k → fits.variable_kind_fits k.types kind ≡ true → (not borrows || fits.is_access_kind kind) ≡ true → Sound (variable_created k name borrows kind value)
made_sound k name borrows kind value w f g =
    let v : VariableForm = record { name = name.text; spot = name.spot; kind = kind; borrows = borrows } in
    let es : List DeclarationForm = declares (length k.variables) value ∷ [] in
    let m = with_elaborated es (with_variable v k) in
    let fit = both_parts (fits.variable_kind_fits k.types kind) (not borrows || fits.is_access_kind kind) f g in
    name_sound m name.text (entity.Variable (next_variable k) kind) (elaborated_sound es (with_variable v k) (variable_sound v k w fit))
    ((name.spot, borrows, get_last k.variables v), f) tt tt tt (λ none. tt)

made_keeps : (k : Known) (name : Ident) (borrows : Bool) (kind : VariableKind) (value : RightForm) → IsSlot k name.text None → Keeps k (variable_created k name borrows kind value)
made_keeps k name borrows kind value slot =
    let v : VariableForm = record { name = name.text; spot = name.spot; kind = kind; borrows = borrows } in
    let es : List DeclarationForm = declares (length k.variables) value ∷ [] in
    let m = with_elaborated es (with_variable v k) in
    keeps_on k m (variable_created k name borrows kind value)
    (keeps_on k (with_variable v k) m (keeps_variable v k) (keeps_elaborated es (with_variable v k)))
    (keeps_name m name.text (entity.Variable (next_variable k) kind) slot tt)

-- `X : T := ..;`
created_sound : (k : Known) (name : Ident) (kind : Option VariableKind) (value : Option RightForm) → Sound k → IsKindIn k.types kind → Sound (object_created k name kind value)
created_sound k name None value w f = w
created_sound k name (Some kind) value w f = made_sound k name false kind (initial_source value) w f refl

created_keeps : (k : Known) (name : Ident) (kind : Option VariableKind) (value : Option RightForm) → IsSlot k name.text None → Keeps k (object_created k name kind value)
created_keeps k name None value slot = keeps_same k
created_keeps k name (Some kind) value slot = made_keeps k name false kind (initial_source value) slot

-- `R : T;`, where T is a record type that is complete
record_object_sound : (k : Known) (name : Ident) (t : TypeNo) (initial : Option (List ItemForm)) → Sound k → fits.is_record k.types t.0 ≡ true → IsSettled k t.0 → Sound (record_created k name t initial)
record_object_sound k name t initial w is settled =
    let d = with_definition None (object_of t.0) k in
    let v : VariableForm = record { name = name.text; spot = name.spot; kind = next_record k; borrows = false } in
    let es : List DeclarationForm = declares_record (length k.variables) (length k.types) initial ∷ [] in
    let known : fits.variable_kind_fits d.types (next_record k) ≡ true = rw (get_last k.types (object_of t.0)) refl in
    let fit = both_parts (fits.variable_kind_fits d.types (next_record k)) true known refl in
    name_sound (with_record_object k name t initial) name.text (entity.Variable (next_variable k) (next_record k))
    (elaborated_sound es (with_variable v d) (variable_sound v d (object_type_sound k t.0 w is settled) fit))
    ((name.spot, false, get_last k.variables v), known) tt tt tt (λ none. tt)

record_object_keeps : (k : Known) (name : Ident) (t : TypeNo) (initial : Option (List ItemForm)) → IsSlot k name.text None → Keeps k (record_created k name t initial)
record_object_keeps k name t initial slot =
    let d = with_definition None (object_of t.0) k in
    let v : VariableForm = record { name = name.text; spot = name.spot; kind = next_record k; borrows = false } in
    let es : List DeclarationForm = declares_record (length k.variables) (length k.types) initial ∷ [] in
    let m = with_record_object k name t initial in
    keeps_on k m (record_created k name t initial)
    (keeps_on k (with_variable v d) m (keeps_on k d (with_variable v d) (keeps_object_type t.0 k) (keeps_variable v d)) (keeps_elaborated es (with_variable v d)))
    (keeps_name m name.text (entity.Variable (next_variable k) (next_record k)) slot tt)

-- an object of whichever type
object_sound : (k : Known) (name : Ident) (o : Option Entity) (value : Option Assigned) → Sound k → IsKindIn k.types (kind_of o) → ((t : TypeNo) (size : ℕ) → o ≡ Some (entity.Record t size) → (fits.is_record k.types t.0 ≡ true) × IsSettled k t.0) → Sound (created_of k name o value)
object_sound k name None value w f full = w
object_sound k name (Some (entity.Record t size)) value w f full = let r = full t size refl in record_object_sound k name t (initial_items_in value) w r.0 r.1
object_sound k name (Some e) value w f full = created_sound k name (kind_of (Some e)) (initial_value_in value) w f

object_keeps : (k : Known) (name : Ident) (o : Option Entity) (value : Option Assigned) → IsSlot k name.text None → Keeps k (created_of k name o value)
object_keeps k name None value slot = keeps_same k
object_keeps k name (Some (entity.Record t size)) value slot = record_object_keeps k name t (initial_items_in value) slot
object_keeps k name (Some e) value slot = created_keeps k name (kind_of (Some e)) (initial_value_in value) slot

-- `B : access T := P;`
borrower_sound : (k : Known) (name designated : Ident) (initial : Option RightTree) → Sound k → Quiet (borrower_remark k name designated initial) → Sound (borrower_known k name initial)
borrower_sound k name designated initial w q =
    let r = lent_of k name designated initial w.names q in
    subst Sound (sym (borrower_is k name designated initial r))
    (made_sound k name true (variable.Access r.access) (value_of r.path) w (lent_kind k designated initial r) refl)

borrower_keeps : (k : Known) (name designated : Ident) (initial : Option RightTree) → Sound k → Quiet (borrower_remark k name designated initial) → Keeps k (borrower_known k name initial)
borrower_keeps k name designated initial w q =
    let r = lent_of k name designated initial w.names q in
    subst (λ (m : Known). Keeps k m) (sym (borrower_is k name designated initial r))
    (made_keeps k name true (variable.Access r.access) (value_of r.path) (new_slot k name name.spot q.1.0))

-- where the types end, only what is elaborated changes
ends_sound : (b : Bool) (k : Known) → Sound k → Sound (ends_types b k)
ends_sound true k w = elaborated_sound (missing_collections k) k w
ends_sound false k w = w

pub ended_sound : (k : Known) → Sound k → Sound (after_types k)
unfolding after_types
ended_sound k w = ends_sound (types_go_on k) k w

ends_keeps : (b : Bool) (k : Known) → Keeps k (ends_types b k)
ends_keeps true k = keeps_elaborated (missing_collections k) k
ends_keeps false k = keeps_same k

pub ended_keeps : (k : Known) → Keeps k (after_types k)
unfolding after_types
ended_keeps k = ends_keeps (types_go_on k) k

-- a declaration
pub declaration_sound : (k : Known) (d : DeclarationTree) → Sound k → Quiet (declaration_remark (known_at k d) d) → Sound (declaration_known (known_at k d) d)
declaration_sound k (incomplete_type spot name) w q = incomplete_sound k name w
declaration_sound k (access_type spot name designated aspect) w q = access_sound k name designated aspect (none_ended k spot q.0) w q.1.0
declaration_sound k (record_type spot name definition) w q = record_sound k name definition (none_ended k spot q.0) w
declaration_sound k (derived_type spot name parent definition) w q =
    let m = with_record k name (composed k (with_parent (limited_parent k parent)) (components_written definition)) in
    limited_sound (limited_with (limited_parent k parent) (number_of (completed_type k name) k.types) m.limited) m (derived_sound k name parent definition (none_ended k spot q.0) w)
declaration_sound k (instance spot name generic object access) w q = instance_sound_at k name (freed_found k access (record_found k object)) w (found_access k access (record_found k object) w.names)
declaration_sound k (constant_declaration name value) w q = name_sound k name.text (entity.Number (static_value k value)) w tt tt tt tt (λ none. tt)
declaration_sound k (exception_declaration name) w q = exception_sound k name w
declaration_sound k (pool_declaration name type_name label size) w q = pool_sound k name size w
declaration_sound k (attribute_clause spot name attribute value) w q = clause_sound k name value w
declaration_sound k (object_declaration name type_name initial) w q =
    let m = after_types k in
    let s : Sound m = ended_sound k w in
    object_sound m name (object_type_found m type_name) (initial_found m (held_of (object_type_found m type_name)) initial) s (found_type m type_name s.names)
    (λ t size is.
    let there = full_visible m type_name t size is in
    (record_visible m s.names type_name.first.text t size there, visible_settled m type_name.first.text t size s there))
declaration_sound k (borrower_declaration name designated initial) w q = borrower_sound (after_types k) name designated initial (ended_sound k w) q
declaration_sound k (specification head) w q = operation_sound k (operation_named head.name.text) head w
declaration_sound k d w q = absurd q

pub declaration_keeps : (k : Known) (d : DeclarationTree) → Sound k → Quiet (declaration_remark (known_at k d) d) → Keeps k (declaration_known (known_at k d) d)
declaration_keeps k (incomplete_type spot name) w q = incomplete_keeps k spot name q
declaration_keeps k (access_type spot name designated aspect) w q = access_keeps k spot name designated aspect w q
declaration_keeps k (record_type spot name definition) w q = record_keeps k spot name definition w q
declaration_keeps k (derived_type spot name parent definition) w q = derived_keeps k spot name parent definition w q
declaration_keeps k (instance spot name generic object access) w q = instance_keeps_at k name (freed_found k access (record_found k object)) (new_slot k name spot q.1.0)
declaration_keeps k (constant_declaration name value) w q = keeps_name k name.text (entity.Number (static_value k value)) (new_slot k name name.spot q.1.0) tt
declaration_keeps k (exception_declaration name) w q = exception_keeps k name (new_slot k name name.spot q.1)
declaration_keeps k (pool_declaration name type_name label size) w q = pool_keeps k name size (new_slot k name name.spot q.1.0)
declaration_keeps k (attribute_clause spot name attribute value) w q = clause_keeps k spot name attribute value q
declaration_keeps k (object_declaration name type_name initial) w q =
    let m = after_types k in
    keeps_on k m (object_known m name type_name initial) (ended_keeps k)
    (object_keeps m name (object_type_found m type_name) (initial_found m (held_of (object_type_found m type_name)) initial) (new_slot m name name.spot q.1.0))
declaration_keeps k (borrower_declaration name designated initial) w q =
    let m = after_types k in
    keeps_on k m (borrower_known m name initial) (ended_keeps k) (borrower_keeps m name designated initial (ended_sound k w) q)
declaration_keeps k (specification head) w q = operation_keeps k (operation_named head.name.text) head
declaration_keeps k d w q = absurd q
