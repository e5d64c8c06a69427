-- A path with which nothing is wrong means a value, and that has its type.

use Rattle.std.proofs.Common.{◌≡◌, ◌∙◌, ℕ, ◌+◌, ◌≤◌, Bool, true, false, ◌&&◌, ◌||◌, List, [], ◌∷◌, ◌++◌, length, drop, refl, sym, ap, cond, eqb, eq-eqb}
use Rattle.std.specs.Prelude.{Option, Some, None, is_some, not, nat_lt}
use Rattle.std.specs.List.{list_all, slice_get}
use Rattle.std.proofs.Math.Seq.{drop-append_seam}
use Rattle.std.proofs.lemmas.Bool.{le-ltb}
use Rattle.ada_text.specs.declared.spot.Spot.{Spot}
use Rattle.ada_values.specs.declared.operator.UnaryOperator.{UnaryOperator}
use Rattle.ada_values.specs.declared.operator.UnaryOperator.TheVariants as unary
use Rattle.ada_values.specs.declared.operator.BinaryOperator.{BinaryOperator}
use Rattle.ada_tree.specs.Names.{Ident, SelectorTree, PathTree, is_name}
use Rattle.ada_program.specs.declared.program.VariableKind.{VariableKind}
use Rattle.ada_program.specs.declared.program.VariableKind.TheVariants as variable
use Rattle.ada_program.specs.declared.program.VariableNo.{VariableNo}
use Rattle.ada_program.specs.declared.program.ScalarType.TheVariants.{Integer, Boolean}
use Rattle.ada_program.specs.Form.{PathForm}
use Rattle.ada_program.specs.declared.program.ComponentKind.{ComponentKind}
use Rattle.ada_program.specs.declared.program.ComponentKind.TheVariants as kind
use Rattle.ada_program.specs.ProgramForm.{TypeForm, record_of, access_to, object_of, VariableForm}
use Rattle.ada_program.specs.WellFormed as fits
use Rattle.ada_program.proofs.Deep.{is_part, record_there}
use Rattle.ada_resolve.specs.declared.fault.NameRule.{NameRule}
use Rattle.ada_resolve.specs.declared.fault.NameRule.TheVariants.{UnknownName, NotInProfile}
use Rattle.ada_resolve.specs.declared.library.LibraryName.{LibraryName}
use Rattle.ada_resolve.specs.declared.library.LibraryName.TheVariants.{TextIo, PutLine, UncheckedDeallocation, Finalization, Controlled, LimitedControlled, Pools, FirstFitPool, OfPools, RunInput, Get, EndError, OtherUnit, Unknown}
use Rattle.ada_resolve.specs.declared.library.Withs.{Withs}
use Rattle.ada_resolve.specs.declared.scope.Entity.{Entity}
use Rattle.ada_resolve.specs.declared.scope.Entity.TheVariants as entity
use Rattle.ada_resolve.specs.declared.selectors.Reached.{Reached}
use Rattle.ada_resolve.specs.declared.selectors.Reached.TheVariants as reached
use Rattle.ada_resolve.specs.Known.{Known, visible, is_with, if_with, library_wrong, library_remark, library_found, library_path_remark, library_path_found, parts_of, parts}
use Rattle.ada_resolve.specs.Library.{is_library_root, library_name}
use Rattle.ada_resolve.specs.Paths.{Meant, unknown, null_value, access_value, integer_value, boolean_value, record_value, aggregate_value, lent_value, elementary_of, elementary_in, is_record_kind, selected_path, selectors_reached, variable_reached, components_selected, reached_meant, variable_meant, entity_meant, path_meant, record_type_wanted, variable_path_remark, value_wanted, library_is_no_value, path_remark}
use Rattle.ada_resolve.specs.Operators.{Signature, arithmetic, ordering, equality, logical, signature_of, integer_in, boolean_in, equality_meant, binary_by, unary_meant, integer_wanted, boolean_wanted, equal_wanted, operands_by, operand_remark}
use Rattle.ada_resolve.specs.Remark.{wrong, wrong_if, ◌also◌}
use Rattle.ada_resolve.proofs.WellFormed.Remarks.{Quiet}
use Rattle.ada_resolve.proofs.WellFormed.Names.{EntityFits, TypesFit, PartsFit, visible_fits, kind_there, types_in}
use Rattle.ada_resolve.proofs.WellFormed.Selected.{IsReached, IsWalked, IsWithin, named_record, whole_is, selectors_are}
use Rattle.ada_resolve.proofs.WellFormed.Numbered.{positive}
use Rattle.ada_resolve.proofs.WellFormed.Tables.{both_parts}
use Rattle.ada_resolve.proofs.WellFormed.Walked.{walk_found, number_within}
use Rattle.ada_resolve.proofs.WellFormed.Typing.{typed_by, joined_type}

-- what is meant is known, and has its type
abbrev pub MeantFits : List TypeForm → List VariableForm → Meant → Type 0
MeantFits types variables unknown = ⊥
MeantFits types variables (lent_value t) = ⊥
MeantFits types variables null_value = Unit {0}
MeantFits types variables (access_value path t) = fits.path_kind types variables path ≡ Some (variable.Access t)
MeantFits types variables (integer_value e) = fits.type_of types variables e ≡ Some Integer
MeantFits types variables (boolean_value e) = fits.type_of types variables e ≡ Some Boolean
MeantFits types variables (record_value path) = fits.is_record_path types variables path ≡ true
MeantFits types variables (aggregate_value t items) =
    (fits.is_record types t.0 ≡ true) × (fits.items_fit types variables (elementary_of types t.0) items ≡ true) × (list_all (fits.item_owns variables) items ≡ true) ×
    (fits.finalization_of types t.0 ≡ None)

-- the elementary components of a record type
pub components_there : (types : List TypeForm) (t : ℕ) → fits.is_record types t ≡ true → fits.record_components types t ≡ Some (elementary_of types t)
unfolding elementary_of
components_there types t e = by_form (slice_get types t) e
  where
    by_form : (o : Option TypeForm) → is_some (fits.components_in o) ≡ true → fits.components_in o ≡ Some (elementary_in o)
    by_form None e = absurd (cc e)
    by_form (Some (record_of name ps cs final)) e = refl
    by_form (Some (access_to name d pool)) e = absurd (cc e)
    by_form (Some (object_of r)) e = absurd (cc e)

-- components begin with themselves
alike_own : (k : ComponentKind) → fits.is_alike k k ≡ true
alike_own (kind.Integer initial) = refl
alike_own (kind.Boolean initial) = refl
alike_own (kind.Access t) = eq-eqb t.0 t.0 refl

pub begins_own : (ks behind : List ComponentKind) → fits.begins_with (ks ++ behind) ks ≡ true
begins_own [] behind = refl
begins_own (k ∷ ks) behind = both_parts (fits.is_alike k k) (fits.begins_with (ks ++ behind) ks) (alike_own k) (begins_own ks behind)

-- controlled parts that lie within those of an object
parts_from : (count from within : ℕ) → from + count ≤ within → fits.has_parts_from count from within ≡ true
parts_from count from within le = either (eqb count 0) (nat_lt within (from + count)) (le-ltb within (from + count) le)
  where
    either : (b c : Bool) → c ≡ false → (b || not c) ≡ true
    either true c is = refl
    either false c is = ap (λ (x : Bool). not x) is

-- it is found there, where it has any
walk_there : (types : List TypeForm) (of : Option VariableKind) (t first from : ℕ) → TypesFit types → IsWalked types of t first from → (eqb (fits.part_count types t) 0 || fits.is_found types (length types) t (fits.place_from (fits.object_named types (fits.access_of of)) first from)) ≡ true
walk_there types of t first from all w = by_count (eqb (fits.part_count types t) 0) refl
  where
    by_count : (b : Bool) → eqb (fits.part_count types t) 0 ≡ b → (b || fits.is_found types (length types) t (fits.place_from (fits.object_named types (fits.access_of of)) first from)) ≡ true
    by_count true none = refl
    by_count false off =
        let some = positive (fits.part_count types t) off in
        ap (λ (o : Option ℕ). fits.is_found types (length types) t (fits.place_from o first from)) w.1 ∙
        walk_found types all.1 (length types) w.0 first from t (w.3 some) some (number_within types all.1 w.0)

-- and its type is that of a part
part_there : (types : List TypeForm) (of : Option VariableKind) (t first from : ℕ) → fits.is_record types t ≡ true → IsWalked types of t first from → fits.is_part_of types t (fits.object_named types (fits.access_of of)) ≡ true
part_there types of t first from r w = ap (λ (o : Option ℕ). fits.is_part_of types t o) w.1 ∙ is_part types t w.0 (record_there types t r) w.2

-- a record within an object
within_fits : (types : List TypeForm) (of : Option VariableKind) (t first from : ℕ) → TypesFit types → IsWithin types of (elementary_of types t) first from (fits.part_count types t) → fits.is_record types t ≡ true → IsWalked types of t first from → (fits.has_record_at (fits.object_components types (fits.access_of of)) first (fits.record_components types t) && fits.has_parts_at types t (fits.object_named types (fits.access_of of)) first from) ≡ true
within_fits types of t first from all w r walked =
    let whole = components_there types w.1 (named_record types w.0 w.1 all w.5) in
    let own = components_there types t r in
    let ks = elementary_of types t in
    let rest : drop first (elementary_of types w.1) ≡ ks ++ w.3 = ap (λ cs. drop first cs) w.6 ∙ (ap (λ n. drop n (w.2 ++ (ks ++ w.3))) (sym w.7) ∙ drop-append_seam w.2 (ks ++ w.3)) in
    let among : fits.has_parts_from (fits.part_count types t) from (fits.parts_named types (fits.object_named types (fits.access_of of))) ≡ true =
    rw w.4 (rw w.5 (parts_from (fits.part_count types t) from (fits.part_count types w.1) w.8)) in
    let counts = fits.has_parts_from (fits.part_count types t) from (fits.parts_named types (fits.object_named types (fits.access_of of))) in
    let found = eqb (fits.part_count types t) 0 || fits.is_found types (length types) t (fits.place_from (fits.object_named types (fits.access_of of)) first from) in
    both_parts (fits.has_record_at (fits.object_components types (fits.access_of of)) first (fits.record_components types t)) (fits.has_parts_at types t (fits.object_named types (fits.access_of of)) first from)
    (rw w.4 (rw w.5 (rw whole (rw own (rw rest (begins_own ks w.3))))))
    (both_parts (counts && found) (fits.is_part_of types t (fits.object_named types (fits.access_of of)))
    (both_parts counts found among (walk_there types of t first from all walked)) (part_there types of t first from r walked))

-- what is reached means what it holds
reached_fits : (types : List TypeForm) (variables : List VariableForm) (path : PathForm) (spot : Spot) (at : Reached) → TypesFit types → IsReached types (fits.path_kind types variables path) at → Quiet (record_type_wanted at spot) → MeantFits types variables (reached_meant path at)
reached_fits types variables path spot (reached.Value variable.Integer) all is q = rw is refl
reached_fits types variables path spot (reached.Value variable.Boolean) all is q = rw is refl
reached_fits types variables path spot (reached.Value (variable.Access t)) all is q = is
reached_fits types variables path spot (reached.Value (variable.Record object)) all is q = absurd q
reached_fits types variables path spot (reached.Object t first from) all is q = within_fits types (fits.path_kind types variables path) t.0 first from all is.0 is.1 is.2
reached_fits types variables path spot reached.Nothing all is q = absurd is

-- the root of a path is what its variable holds, or the record object that the variable is
own_root : (of : VariableKind) → fits.root_kind (is_record_kind of) (Some of) ≡ Some of
own_root variable.Integer = refl
own_root variable.Boolean = refl
own_root (variable.Access t) = refl
own_root (variable.Record object) = refl

begins : (k : Known) (of : VariableKind) (root : Option VariableKind) → TypesFit k.types → root ≡ Some of → IsReached k.types root (variable_reached k of)
begins k variable.Integer root all is = is
begins k variable.Boolean root all is = is
begins k (variable.Access t) root all is = is
begins k (variable.Record object) root all is = whole_is k k.types root object all (λ t form e. e) is

-- a variable, with what is selected from it
variable_fits : (k : Known) (x : VariableNo) (spot : Spot) (of : VariableKind) (selectors : List SelectorTree) → TypesFit k.types → fits.variable_kind k.variables x.0 ≡ Some of → Quiet (variable_path_remark k spot of selectors) → MeantFits k.types k.variables (variable_meant k x spot of selectors)
variable_fits k x spot of selectors laid h q =
    let at = variable_reached k of in
    let root = fits.root_kind (is_record_kind of) (fits.variable_kind k.variables x.0) in
    reached_fits k.types k.variables (selected_path x (is_record_kind of) spot (components_selected k at selectors)) spot (selectors_reached k at selectors) laid
    (selectors_are k k.types root spot at selectors laid (λ t form e. e) (begins k of root laid (ap (λ (o : Option VariableKind). fits.root_kind (is_record_kind of) o) h ∙ own_root of)) q.0) q.1

-- what a name stands for
entity_one : (k : Known) (text : List ℕ) (e : Entity) (name : Ident) (selectors : List SelectorTree) → TypesFit k.types → EntityFits k.types k.variables text e → Quiet (value_wanted k (Some e) name selectors) → MeantFits k.types k.variables (entity_meant k (Some e) name.spot selectors)
entity_one k text (entity.Variable x of) name selectors laid f q = variable_fits k x name.spot of selectors laid (kind_there k.variables x.0 text of f.0) q
entity_one k text (entity.Parameter x of) name selectors laid f q =
    variable_fits k x name.spot of selectors laid (kind_there k.variables x.0 text of (f.0.0, false, f.0.1)) q
entity_one k text (entity.Outer of role) name selectors laid f q = absurd q.0
entity_one k text (entity.Number n) name [] laid f q = refl
entity_one k text (entity.Number n) name (s ∷ ss) laid f q = absurd q
entity_one k text (entity.Truth b) name [] laid f q = refl
entity_one k text (entity.Truth b) name (s ∷ ss) laid f q = absurd q
entity_one k text e name selectors laid f q = absurd q

entity_fits : (k : Known) (text : List ℕ) (o : Option Entity) (name : Ident) (selectors : List SelectorTree) → TypesFit k.types → ((e : Entity) → o ≡ Some e → EntityFits k.types k.variables text e) → Quiet (value_wanted k o name selectors) → MeantFits k.types k.variables (entity_meant k o name.spot selectors)
entity_fits k text None name selectors laid v q = absurd q
entity_fits k text (Some e) name selectors laid v q = entity_one k text e name selectors laid (v e refl) q

-- a name of the library is no value
no_library_value : (b : Bool) (n : LibraryName) (spot : Spot) (rule : NameRule) → Quiet (wrong_if (not b) spot rule) → Quiet (library_is_no_value (if_with b n) spot) → ⊥
no_library_value true n spot rule p q = q
no_library_value false n spot rule p q = p

no_library_name : (withs : Withs) (n : LibraryName) (spot : Spot) → Quiet (library_wrong withs n spot) → Quiet (library_is_no_value (if_with (is_with withs n) n) spot) → ⊥
no_library_name withs TextIo spot p q = no_library_value withs.text_io TextIo spot UnknownName p q
no_library_name withs PutLine spot p q = no_library_value withs.text_io PutLine spot UnknownName p q
no_library_name withs UncheckedDeallocation spot p q = no_library_value withs.deallocation UncheckedDeallocation spot UnknownName p q
no_library_name withs Finalization spot p q = no_library_value withs.finalization Finalization spot UnknownName p q
no_library_name withs Controlled spot p q = no_library_value withs.finalization Controlled spot UnknownName p q
no_library_name withs LimitedControlled spot p q = no_library_value withs.finalization LimitedControlled spot UnknownName p q
no_library_name withs Pools spot p q = no_library_value withs.pools Pools spot UnknownName p q
no_library_name withs FirstFitPool spot p q = no_library_value withs.pools FirstFitPool spot UnknownName p q
no_library_name withs OfPools spot p q = p
no_library_name withs RunInput spot p q = no_library_value withs.run_input RunInput spot UnknownName p q
no_library_name withs Get spot p q = no_library_value withs.run_input Get spot UnknownName p q
no_library_name withs EndError spot p q = no_library_value withs.run_input EndError spot UnknownName p q
no_library_name withs OtherUnit spot p q = p
no_library_name withs Unknown spot p q = p

no_library_path : (k : Known) (path : PathTree) (b : Bool) → Quiet (cond b (library_remark k path.root (parts_of path.selectors)) (wrong path.root.spot NotInProfile)) → Quiet (library_is_no_value (cond b (library_found k path.root (parts_of path.selectors)) None) path.root.spot) → ⊥
no_library_path k path true p q = no_library_name k.withs (library_name path.root.text (parts_of path.selectors)) path.root.spot p q
no_library_path k path false p q = p

-- a path
pub path_fits : (k : Known) (path : PathTree) → PartsFit k.types k.variables (parts k) → Quiet (path_remark k path) → MeantFits k.types k.variables (path_meant k path)
unfolding path_remark path_meant
path_fits k path w q = path_by (is_library_root path.root.text) q
  where
    path_by : (b : Bool) → Quiet (cond b (library_path_remark k path also library_is_no_value (library_path_found k path) path.root.spot) (value_wanted k (visible k path.root.text) path.root path.selectors)) → MeantFits k.types k.variables (cond b unknown (entity_meant k (visible k path.root.text) path.root.spot path.selectors))
    path_by true q = absurd (no_library_path k path (is_name path.selectors) q.0 q.1)
    path_by false q = entity_fits k path.root.text (visible k path.root.text) path.root path.selectors (types_in k.types k.variables (parts k) w) (visible_fits k w path.root.text) q

-- what is wanted is there
pub integer_is : (types : List TypeForm) (variables : List VariableForm) (m : Meant) (spot : Spot) → MeantFits types variables m → Quiet (integer_wanted m spot) → fits.type_of types variables (integer_in m) ≡ Some Integer
integer_is types variables (integer_value e) spot f q = f
integer_is types variables unknown spot f q = absurd f
integer_is types variables m spot f q = absurd q

pub boolean_is : (types : List TypeForm) (variables : List VariableForm) (m : Meant) (spot : Spot) → MeantFits types variables m → Quiet (boolean_wanted m spot) → fits.type_of types variables (boolean_in m) ≡ Some Boolean
boolean_is types variables (boolean_value e) spot f q = f
boolean_is types variables unknown spot f q = absurd f
boolean_is types variables m spot f q = absurd q

-- operands of an equality
equality_fits : (types : List TypeForm) (variables : List VariableForm) (o : BinaryOperator) (left right : Meant) (at to : Spot) → signature_of o ≡ equality → MeantFits types variables left → MeantFits types variables right → Quiet (equal_wanted left at right to) → MeantFits types variables (equality_meant o left right)
equality_fits types variables o (integer_value e) (integer_value f) at to is l r q = joined_type types variables e o f ∙ (typed_by o _ _ ∙ rw (is, l, r) refl)
equality_fits types variables o (boolean_value e) (boolean_value f) at to is l r q = joined_type types variables e o f ∙ (typed_by o _ _ ∙ rw (is, l, r) refl)
equality_fits types variables o (access_value path t) null_value at to is l r q = rw l refl
equality_fits types variables o null_value (access_value path t) at to is l r q = rw r refl
equality_fits types variables o unknown right at to is l r q = absurd l
equality_fits types variables o (lent_value t) right at to is l r q = absurd l
equality_fits types variables o left (lent_value t) at to is l r q = absurd r
equality_fits types variables o left unknown at to is l r q = absurd r
equality_fits types variables o left right at to is l r q = absurd q

-- an operator with its operands
pub unary_fits : (types : List TypeForm) (variables : List VariableForm) (o : UnaryOperator) (m : Meant) (spot : Spot) → MeantFits types variables m → Quiet (operand_remark o m spot) → MeantFits types variables (unary_meant o m)
unary_fits types variables unary.Plus m spot f q = rw (integer_is types variables m spot f q) refl
unary_fits types variables unary.Minus m spot f q = rw (integer_is types variables m spot f q) refl
unary_fits types variables unary.Not m spot f q = rw (boolean_is types variables m spot f q) refl

pub binary_fits : (types : List TypeForm) (variables : List VariableForm) (o : BinaryOperator) (s : Signature) (left right : Meant) (at to : Spot) → signature_of o ≡ s → MeantFits types variables left → MeantFits types variables right → Quiet (operands_by s left at right to) → MeantFits types variables (binary_by s o left right)
binary_fits types variables o arithmetic left right at to is l r q =
    joined_type types variables (integer_in left) o (integer_in right) ∙ (typed_by o _ _ ∙ (rw (is, integer_is types variables left at l q.0, integer_is types variables right to r q.1) refl))
binary_fits types variables o ordering left right at to is l r q =
    joined_type types variables (integer_in left) o (integer_in right) ∙ (typed_by o _ _ ∙ (rw (is, integer_is types variables left at l q.0, integer_is types variables right to r q.1) refl))
binary_fits types variables o equality left right at to is l r q = equality_fits types variables o left right at to is l r q
binary_fits types variables o logical left right at to is l r q =
    joined_type types variables (boolean_in left) o (boolean_in right) ∙ (typed_by o _ _ ∙ (rw (is, boolean_is types variables left at l q.0, boolean_is types variables right to r q.1) refl))
