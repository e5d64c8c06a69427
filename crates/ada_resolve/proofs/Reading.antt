-- What expressions, calls and other statements with no others in them mean is what they say at their place.

use Rattle.std.proofs.Common.{◌≡◌, ◌∙◌, inl, inr, ℕ, ◌+◌, Bool, true, false, cond, List, [], ◌∷◌, ◌++◌, length, refl, sym, ap, subst, zero, suc, arith, eqb, eqb-true, eq-eqb}
use Rattle.std.specs.Prelude.{codes, Option, Some, None, bytes_eq, is_some, not}
use Rattle.std.specs.List.{slice_get, slice_set, list_all}
use Rattle.std.proofs.Math.ListN.{replicate}
use Rattle.std.proofs.lemmas.Bool.{ne_eqb}
use Rattle.ada_text.specs.declared.spot.Spot.{Spot}
use Rattle.ada_values.specs.declared.operator.UnaryOperator.{UnaryOperator}
use Rattle.ada_values.specs.declared.operator.UnaryOperator.TheVariants as unary
use Rattle.ada_values.specs.declared.operator.BinaryOperator.{BinaryOperator}
use Rattle.ada_values.specs.declared.operator.BinaryOperator.TheVariants as binary
use Rattle.ada_tree.specs.Names.{Ident, NameTree, SelectorTree, component, dereference, PathTree, is_name}
use Rattle.ada_tree.specs.Declarations.{ChoiceTree, named_choice, others_choice}
use Rattle.ada_tree.specs.Expressions.{ArgumentTree, expression_argument, text_argument, attribute_argument, RightTree, expression_right, allocator_right, creation_right, ItemsTree, no_more_items, an_item, ExpressionTree, number_expression, null_expression, path_expression, aggregate_expression, enclosed_expression, unary_expression, binary_expression}
use Rattle.ada_tree.specs.Statements.{StatementTree, null_statement, assignment, call, exit_statement, return_statement, raise_statement}
use Rattle.ada_program.specs.declared.program.ComponentKind.{ComponentKind}
use Rattle.ada_program.specs.declared.program.ComponentKind.TheVariants as kind
use Rattle.ada_program.specs.declared.program.Finalization.{Finalization as Finalized}
use Rattle.ada_program.specs.declared.program.PartKind.{PartKind}
use Rattle.ada_program.specs.declared.program.PartKind.TheVariants as part
use Rattle.ada_program.specs.declared.program.Exception.{Exception}
use Rattle.ada_program.specs.declared.program.Exception.TheVariants as exception
use Rattle.ada_program.specs.declared.program.FormalMode.{FormalMode}
use Rattle.ada_program.specs.declared.program.FormalMode.TheVariants.{In, InOut}
use Rattle.ada_program.specs.declared.program.VariableKind.{VariableKind}
use Rattle.ada_program.specs.declared.program.VariableKind.TheVariants as variable
use Rattle.ada_program.specs.declared.program.VariableNo.{VariableNo}
use Rattle.ada_program.specs.declared.program.TypeNo.{TypeNo}
use Rattle.ada_program.specs.Form.{ActualForm, in_record, in_out_path, in_out_access, in_out_component, PathForm, RecordPathForm, reads, ItemForm, RightForm, allocates, StmtForm, calls}
use Rattle.ada_program.specs.ProgramForm.{PartForm, TypeForm, VariableForm, record_of, access_to, object_of}
use Rattle.ada_program.specs.WellFormed as fits
use Rattle.ada_resolve.specs.declared.components.KnownComponent.{KnownComponent}
use Rattle.ada_resolve.specs.declared.rights.Held.{Held}
use Rattle.ada_resolve.specs.declared.rights.Held.TheVariants as held
use Rattle.ada_resolve.specs.declared.scope.Entity.{Entity}
use Rattle.ada_resolve.specs.declared.scope.Entity.TheVariants as entity
use Rattle.ada_resolve.specs.declared.selectors.Reached.{Reached}
use Rattle.ada_resolve.specs.declared.selectors.Reached.TheVariants as reached
use Rattle.ada_resolve.specs.declared.fault.NameRule.{NameRule}
use Rattle.ada_resolve.specs.declared.fault.NameRule.TheVariants.{UnknownName, WrongType, NotInProfile}
use Rattle.ada_resolve.specs.Known.{Known, parts, visible, is_empty, is_with, if_with, parts_of, library_wrong, library_remark, library_found, library_path_remark, library_path_found}
use Rattle.ada_resolve.specs.Library.{is_library_root, library_name}
use Rattle.ada_resolve.specs.Paths.{constant_wanted, is_first_variable, is_kept_operand, written_remark, follows_to, follows_value, record_of_object, written_wanted, component_at, component_in, component_named, component_wanted, component_within_remark, complete_behind, held_by, known_component, number_by, Meant, unknown, lent_value, null_value, access_value, integer_value, boolean_value, record_value, aggregate_value, selected_path, components_of, record_known_by, record_of_object, whole_object, designated_of, is_incomplete_type, held_in, object_in, selectors_reached, number_in, components_selected, reached_meant, variable_meant, entity_meant, path_meant, selectors_remark, record_type_wanted, variable_path_remark, value_wanted, path_remark}
use Rattle.ada_resolve.specs.Operators.{record_value_wanted, Signature, arithmetic, ordering, equality, logical, signature_of, integer_in, boolean_in, asks_equal, equality_meant, binary_by, unary_meant, integer_wanted, boolean_wanted, equal_wanted, operands_by, operand_remark}
use Rattle.ada_resolve.specs.Expressions.{after_items, all_items_remark, expression_meant, expression_remark, filling_of, items_remark}
use Rattle.ada_resolve.specs.declared.library.LibraryName.{LibraryName}
use Rattle.ada_resolve.specs.declared.library.LibraryName.TheVariants.{TextIo, PutLine, UncheckedDeallocation, Finalization, Controlled, LimitedControlled, Pools, FirstFitPool, OfPools, RunInput, Get, EndError, OtherUnit, Unknown}
use Rattle.ada_resolve.specs.declared.library.Withs.{Withs}
use Rattle.ada_resolve.specs.Calls.{freed_wanted, got_wanted, actual_wanted, actual_remark, freeing, getting, taking, actual_found, taker_remark, taker_found, library_call_remark, library_call_found, own_call_remark, own_call_found, call_remark, call_found}
use Rattle.ada_resolve.specs.declared.calls.Callee.{Callee}
use Rattle.ada_resolve.specs.declared.calls.Callee.TheVariants as callee
use Rattle.ada_resolve.specs.Exceptions.{exception_of_library, end_error_wanted, exception_in, exception_wanted, exception_name_remark, exception_found, raising, choice_remark, exception_or_others, choice_meant, choices_remark, choices_meant}
use Rattle.ada_resolve.specs.Lines.{line_remark, line_found, put_line_remark, put_line_found}
use Rattle.ada_resolve.specs.Arguments.{image_wanted, image_remark, image_value_remark}
use Rattle.ada_resolve.specs.Naming.{Context, IsFullTypeNamed, IsExceptionNamed, IsInstanceNamed, IsProcedureNamed, IsObjectNamed, IsVariableNamed}
use Rattle.ada_resolve.specs.Reading.{IsPutLine, IsGet, AreActualsRead, IsExpressionRead, IsCallRead, IsImage, type_behind, Way, at_value, at_object, IsBegun, IsWayRead, IsRecordTargetRead, SparesOperand, IsCopyRead, IsAggregate, how_many, IsGiven, to_elementary, by_copy, by_aggregate, AreGiven, none_given, one_given, IsWholeRead, IsComponentNamed, AreSelectorsRead, at_end, by_all, by_value, to_value, to_record, IsPathRead, IsTargetRead, IsVariableRead, IsComponentRead, MayChange, IsValueRead, read_path, read_number, read_truth, AsksEqual, null_on_right, null_on_left, IsNull, IsMoveRead, IsConditionRead, IsItemFor, at_place, by_name, further, AreItemsRead, IsAllocationRead, IsRightRead, IsSimpleRead, IsChoiceRead, AreChoicesRead}
use Rattle.ada_resolve.specs.Allocators.{allocated_wanted, allocated_remark, aggregate_remark, allocation, aggregate_found, default_allocation, default_found, allocator_remark, allocator_found}
use Rattle.ada_resolve.specs.Rights.{Assigned, a_value, a_whole, assigned_wanted, assigned, new_assigned, right_remark, right_found}
use Rattle.ada_resolve.specs.Assignments.{Target, value_target, record_target, target_meant, target_found, target_wanted, target_remark, held_by_target, target_borrows, assignment_remark, assignment_of, assignment_found}
use Rattle.ada_resolve.specs.Statements.{condition_remark, condition_meant, optional_condition_remark, optional_condition_meant, statement_remark, statement_found, statement_meant, form_or_null, text_in, simple_texts, bound_remark, bound_meant}
use Rattle.ada_resolve.specs.Types.{complete_found, complete_in, complete_remark, complete_type_wanted, designates}
use Rattle.ada_resolve.specs.Remark.{Remark, wrong, ◌also◌, wrong_if}
use Rattle.ada_resolve.specs.Spots.{expression_spot}
use Rattle.ada_resolve.specs.Actuals.{first_mode, given_all, given_all_remark, given_meant, given_remark, given_variable, given_value, kind_wanted, other_modes, path_wanted, profile, reference_wanted, variable_or_component, variable_wanted}
use Rattle.ada_resolve.specs.Items.{Filling, component_for, item_meant, fits_remark, for_remark, is_alike, filled_for, filled_components, after_item, aggregate_meant, component_item_remark, first_filling, flattened, names_component, count_remark}
use Rattle.ada_resolve.proofs.Agreeing.{Ahead, EntityRead, Readable, visible_read, parameter_visible, variable_visible}
use Rattle.ada_resolve.proofs.WellFormed.Remarks.{Quiet, quiet_unless, quiet_if}
use Rattle.ada_resolve.proofs.WellFormed.Values.{access_designates}
use Rattle.ada_resolve.proofs.WellFormed.Names.{EntityFits, IsVariableIn, PartsFit, visible_fits, kind_there, text_same}
use Rattle.ada_resolve.proofs.WellFormed.Meanings.{MeantFits, path_fits}
use Rattle.ada_resolve.proofs.WellFormed.Selected.{IsNamedOf, IsSelectable, is_selectable, name_at, has_record, designated_same}
use Rattle.ada_resolve.proofs.WellFormed.Forms.{object_stays, record_stays}
use Rattle.ada_resolve.proofs.WellFormed.Growing.{designated_stays}
use Rattle.ada_resolve.proofs.WellFormed.Tables.{get_other}
use Rattle.ada_resolve.proofs.WellFormed.Items.{components_are, expression_fits, items_there}
use Rattle.ada_resolve.proofs.ItemCounts.{items_all}

-- something is meant
abbrev IsMeant : Meant → Type 0
IsMeant unknown = ⊥
IsMeant (lent_value t) = ⊥
IsMeant m = Unit {0}

meant_is : (types : List TypeForm) (variables : List VariableForm) (m : Meant) → MeantFits types variables m → IsMeant m
meant_is types variables unknown f = f
meant_is types variables (lent_value t) f = f
meant_is types variables null_value f = tt
meant_is types variables (access_value path t) f = tt
meant_is types variables (integer_value e) f = tt
meant_is types variables (boolean_value e) f = tt
meant_is types variables (record_value path) f = tt
meant_is types variables (aggregate_value t items) f = tt

expression_known : (k : Known) (e : ExpressionTree) → PartsFit k.types k.variables (parts k) → Quiet (expression_remark k e) → IsMeant (expression_meant k e)
expression_known k e w q = meant_is k.types k.variables (expression_meant k e) (expression_fits k e w q)

path_known : (k : Known) (tree : PathTree) → PartsFit k.types k.variables (parts k) → Quiet (path_remark k tree) → IsMeant (path_meant k tree)
path_known k tree w q = meant_is k.types k.variables (path_meant k tree) (path_fits k tree w q)

-- an aggregate means its items, in the order of the components
pub record AggregateRead (p : Context) (e : ExpressionTree) (t : ℕ) (forms : List ItemForm) : Type 0 where
  pub type_name : Ident
  pub items : ItemsTree
  pub parts : List PartForm
  pub components : List ComponentKind
  pub finalization : Option Finalized
  pub written : IsAggregate e type_name items
  pub bound : IsFullTypeNamed p type_name.text t
  pub there : slice_get p.types t ≡ Some (record_of type_name.text parts components finalization)
  pub count : how_many items ≡ length parts
  pub given : AreGiven p items 0 parts forms

-- what an expression means is what it says
abbrev pub MeantRead : Context → ExpressionTree → Meant → Type 0
MeantRead p e unknown = Unit {0}
MeantRead p e (lent_value t) = Unit {0}
MeantRead p e null_value = IsNull e
MeantRead p e (access_value path t) = IsMoveRead p e path
MeantRead p e (integer_value form) = IsExpressionRead p e form
MeantRead p e (boolean_value form) = IsExpressionRead p e form
MeantRead p e (record_value path) = IsCopyRead p e path
MeantRead p e (aggregate_value t forms) = AggregateRead p e t.0 forms

-- a component that is found by a name is one of these, by its place, and has the name
abbrev the_part : List ℕ → KnownComponent → PartForm
the_part text found = record { name = text; kind = found.kind; first = found.first; part = found.part }

abbrev IsFound : (at : ℕ) → List ℕ → List PartForm → ℕ × KnownComponent → Type 0
IsFound at text cs found = (j : ℕ) × (found.0 ≡ at + j) × (slice_get cs j ≡ Some (the_part text found.1))

same_part : (text : List ℕ) (c : PartForm) (known : KnownComponent) → known_component c ≡ known → c.name ≡ text → Some c ≡ Some (the_part text known)
same_part text c known is named_so =
    subst (λ (k : KnownComponent). Some c ≡ Some (the_part text k)) is
    (subst (λ (name : List ℕ). Some c ≡ Some (the_part name (known_component c))) named_so refl)

component_found : (at : ℕ) (text : List ℕ) (cs : List PartForm) (found : ℕ × KnownComponent) → component_named at text cs ≡ Some found → IsFound at text cs found
component_found at text cs found e =
    let there = subst (λ (o : Option (ℕ × KnownComponent)). IsNamedOf text cs at o) e (name_at at text cs) in
    (there.0, there.2, there.3 ∙ same_part text there.1 found.1 there.4 there.5)

-- the component that is found has the name, and a name can select it
abbrev IsNamed : Context → ℕ → List ℕ → Option (ℕ × KnownComponent) → Type 0
IsNamed p t text None = ⊥
IsNamed p t text (Some found) = IsComponentNamed p t text found.1.kind found.1.first found.1.part × IsSelectable found.1.kind

within_read : (k : Known) (p : Context) (spot : Spot) (t : ℕ) (c : Ident) → Ahead k p → Quiet (component_within_remark k spot (Some t) c) → IsNamed p t c.text (component_in k (Some t) c)
within_read k p spot t c w q = complete_or (is_incomplete_type k t) q
  where
    found_or : (o : Option (ℕ × KnownComponent)) → component_named 0 c.text (components_of k.types t) ≡ o → Quiet (component_wanted o c) → IsNamed p t c.text o
    found_or None is q = absurd q
    found_or (Some found) is q =
        let at = component_found 0 c.text (components_of k.types t) found is in
        let there = has_record k.types t at.0 (the_part c.text found.1) at.2 in
        let last = record_stays k.types p.types w.types t there.0 there.1 there.2 there.3 there.4 in
        ((there.0, there.1, there.2, last.0, at.0, last.1, there.5), is_selectable found.1.kind c q)

    complete_or : (b : Bool) → Quiet (cond b (wrong spot WrongType) (component_wanted (component_named 0 c.text (components_of k.types t)) c)) → IsNamed p t c.text (cond b None (component_named 0 c.text (components_of k.types t)))
    complete_or true q = absurd q
    complete_or false q = found_or (component_named 0 c.text (components_of k.types t)) refl q

-- where what is reached stands
abbrev way_of : Reached → Way
way_of reached.Nothing = at_value None
way_of (reached.Value kind) = at_value (Some kind)
way_of (reached.Object t first from) = at_object t.0 first from

-- what stands behind what is reached
abbrev AreReadBehind : Context → Reached → List SelectorTree → List ℕ → Way → Type 0
AreReadBehind p reached.Nothing ss cs end = ⊥
AreReadBehind p (reached.Value kind) ss cs end = AreSelectorsRead p (at_value (Some kind)) ss cs end
AreReadBehind p (reached.Object t first from) ss cs end = AreSelectorsRead p (at_object t.0 first from) ss cs end

-- something is reached
abbrev IsThere : Reached → Type 0
IsThere reached.Nothing = ⊥
IsThere (reached.Value kind) = Unit {0}
IsThere (reached.Object t first from) = Unit {0}

held_there : (p : Context) (t before parts : ℕ) (text : List ℕ) (o : Option (ℕ × KnownComponent)) → IsNamed p t text o → IsThere (held_in before parts o)
held_there p t before parts text None h = absurd h
held_there p t before parts text (Some found) h = by_kind found.1.kind h.1
  where
    by_kind : (kind : PartKind) → IsSelectable kind → IsThere (held_by kind (before + found.1.first) (parts + found.1.part))
    by_kind (part.Elementary kind) s = tt
    by_kind (part.Record inner) s = tt
    by_kind part.Parent s = absurd s

-- a component of an object, and what is selected from it
held_read : (p : Context) (t before parts : ℕ) (c : Ident) (ss : List SelectorTree) (cs : List ℕ) (end : Way) (o : Option (ℕ × KnownComponent)) → IsNamed p t c.text o → AreReadBehind p (held_in before parts o) ss cs end → AreSelectorsRead p (at_object t before parts) (component c ∷ ss) (number_in before o ++ cs) end
held_read p t before parts c ss cs end None h r = absurd h
held_read p t before parts c ss cs end (Some found) h r = by_kind found.1.kind h.0 r
  where
    by_kind : (kind : PartKind) → IsComponentNamed p t c.text kind found.1.first found.1.part → AreReadBehind p (held_by kind (before + found.1.first) (parts + found.1.part)) ss cs end → AreSelectorsRead p (at_object t before parts) (component c ∷ ss) (number_by kind (before + found.1.first) ++ cs) end
    by_kind (part.Elementary kind) h r = to_value h r
    by_kind (part.Record inner) h r = to_record h r
    by_kind part.Parent h r = absurd r

-- the type that an access type designates
pub type_designated : (k : Known) (p : Context) (t d : ℕ) → Ahead k p → fits.designated_type k.types t ≡ Some d → fits.designated_type p.types t ≡ Some d
type_designated k p t d w e = designated_stays k.types p.types k.variables k.variables w.types (λ i x is. is) t d e

value_designates : (k : Known) (p : Context) (t : TypeNo) (d : ℕ) → Ahead k p → designated_of k.types t.0 ≡ Some d → type_behind p.types (Some (variable.Access t)) ≡ Some d
value_designates k p t d w e = type_designated k p t.0 d w (sym (designated_same k.types t.0) ∙ e)

-- a component behind an access value, and what is selected from it
behind_read : (k : Known) (p : Context) (spot : Spot) (t : TypeNo) (o : Option ℕ) (c : Ident) (ss : List SelectorTree) (cs : List ℕ) (end : Way) → Ahead k p → designated_of k.types t.0 ≡ o → Quiet (component_within_remark k spot o c) → (IsThere (held_in 0 0 (component_in k o c)) → AreReadBehind p (held_in 0 0 (component_in k o c)) ss cs end) → AreSelectorsRead p (at_value (Some (variable.Access t))) (component c ∷ ss) (number_in 0 (component_in k o c) ++ cs) end
behind_read k p spot t None c ss cs end w is q rest = absurd q
behind_read k p spot t (Some d) c ss cs end w is q rest =
    let o = component_in k (Some d) c in
    let named_so = within_read k p spot d c w q in
    by_value (value_designates k p t d w is) (held_read p d 0 0 c ss cs end o named_so (rest (held_there p d 0 0 c.text o named_so)))

-- `all`, and what is selected behind it
all_read : (k : Known) (p : Context) (spot all : Spot) (t : TypeNo) (o : Option ℕ) (ss : List SelectorTree) (cs : List ℕ) (end : Way) → Ahead k p → designated_of k.types t.0 ≡ o → Quiet (complete_behind k spot o) → (IsThere (object_in k o) → AreReadBehind p (object_in k o) ss cs end) → AreSelectorsRead p (at_value (Some (variable.Access t))) (dereference all ∷ ss) cs end
all_read k p spot all t None ss cs end w is q rest = absurd q
all_read k p spot all t (Some d) ss cs end w is q rest = complete_or (is_incomplete_type k d) q rest
  where
    complete_or : (b : Bool) → Quiet (wrong_if b spot WrongType) → (IsThere (cond b reached.Nothing (reached.Object (record { 0 = d }) 0 0)) → AreReadBehind p (cond b reached.Nothing (reached.Object (record { 0 = d }) 0 0)) ss cs end) → AreSelectorsRead p (at_value (Some (variable.Access t))) (dereference all ∷ ss) cs end
    complete_or true q rest = absurd q
    complete_or false q rest = by_all (value_designates k p t d w is) (rest tt)

-- selectors, one behind the other
selectors_read : (k : Known) (p : Context) (spot : Spot) (at : Reached) (ss : List SelectorTree) → Ahead k p → Quiet (selectors_remark k spot at ss) → IsThere at → AreReadBehind p at ss (components_selected k at ss) (way_of (selectors_reached k at ss))
selectors_read k p spot reached.Nothing ss w q there = absurd there
selectors_read k p spot (reached.Value kind) [] w q there = at_end
selectors_read k p spot (reached.Object t first from) [] w q there = at_end
selectors_read k p spot (reached.Value (variable.Access t)) (component c ∷ ss) w q there =
    let next = held_in 0 0 (component_in k (designated_of k.types t.0) c) in
    behind_read k p spot t (designated_of k.types t.0) c ss (components_selected k next ss) (way_of (selectors_reached k next ss)) w refl q.0 (λ on. selectors_read k p spot next ss w q.1 on)
selectors_read k p spot (reached.Object t first from) (component c ∷ ss) w q there =
    let o = component_in k (Some t.0) c in
    let named_so = within_read k p spot t.0 c w q.0 in
    held_read p t.0 first from c ss (components_selected k (held_in first from o) ss) (way_of (selectors_reached k (held_in first from o) ss)) o named_so
    (selectors_read k p spot (held_in first from o) ss w q.1 (held_there p t.0 first from c.text o named_so))
selectors_read k p spot (reached.Value (variable.Access t)) (dereference all ∷ ss) w q there =
    let next = object_in k (designated_of k.types t.0) in
    all_read k p spot all t (designated_of k.types t.0) ss (components_selected k next ss) (way_of (selectors_reached k next ss)) w refl q.0 (λ on. selectors_read k p spot next ss w q.1 on)
selectors_read k p spot at (component c ∷ ss) w q there = absurd q.0
selectors_read k p spot at (dereference all ∷ ss) w q there = absurd q.0

-- what a variable that is no record object holds
abbrev HoldsValue : VariableKind → Type 0
HoldsValue (variable.Record object) = ⊥
HoldsValue of = Unit {0}

-- a path of it begins at its value
value_begun : (types : List TypeForm) (of : VariableKind) → HoldsValue of → IsBegun types (Some of) false (at_value (Some of))
value_begun types variable.Integer h = (refl, refl)
value_begun types variable.Boolean h = (refl, refl)
value_begun types (variable.Access t) h = (refl, refl)
value_begun types (variable.Record object) h = absurd h

-- what a path that is read means, by what it reaches
meant_whole : (p : Context) (tree : PathTree) (path : PathForm) (at : Reached) → IsWayRead p tree path (way_of at) → MeantRead p (path_expression tree) (reached_meant path at)
meant_whole p tree path (reached.Value variable.Integer) whole = read_path (record { kind = Some variable.Integer; leads = whole })
meant_whole p tree path (reached.Value variable.Boolean) whole = read_path (record { kind = Some variable.Boolean; leads = whole })
meant_whole p tree path (reached.Value (variable.Access t)) whole = record { kind = Some (variable.Access t); leads = whole }
meant_whole p tree path (reached.Value (variable.Record object)) whole = tt
meant_whole p tree path (reached.Object t first from) whole = whole
meant_whole p tree path reached.Nothing whole = tt

-- a variable that holds a value, and what is selected behind that
value_path_read : (k : Known) (p : Context) (x : VariableNo) (name : Ident) (of : VariableKind) (ss : List SelectorTree) → HoldsValue of → Ahead k p → IsObjectNamed p name.text x.0 → fits.variable_kind p.variables x.0 ≡ Some of → Quiet (selectors_remark k name.spot (reached.Value of) ss) → IsWayRead p (record { root = name; selectors = ss }) (selected_path x false name.spot (components_selected k (reached.Value of) ss)) (way_of (selectors_reached k (reached.Value of) ss))
value_path_read k p x name of ss h w b v q = record {
  root = b;
  way = at_value (Some of);
  begins = subst (λ (o : Option VariableKind). IsBegun p.types o false (at_value (Some of))) (sym v) (value_begun p.types of h);
  selectors = selectors_read k p name.spot (reached.Value of) ss w q tt;
  spot = refl;
}

-- a record object or a component of it, and what is selected behind it
object_path_read : (k : Known) (p : Context) (x : VariableNo) (name : Ident) (object : TypeNo) (t : ℕ) (ss : List SelectorTree) → Ahead k p → IsObjectNamed p name.text x.0 → fits.variable_kind p.variables x.0 ≡ Some (variable.Record object) → slice_get k.types object.0 ≡ Some (object_of t) → Quiet (selectors_remark k name.spot (reached.Object (record { 0 = t }) 0 0) ss) → IsWayRead p (record { root = name; selectors = ss }) (selected_path x true name.spot (components_selected k (reached.Object (record { 0 = t }) 0 0) ss)) (way_of (selectors_reached k (reached.Object (record { 0 = t }) 0 0) ss))
object_path_read k p x name object t ss w b v is q = record {
  root = b;
  way = at_object t 0 0;
  begins = subst (λ (o : Option VariableKind). IsBegun p.types o true (at_object t 0 0)) (sym v) (refl, t, object_stays k.types p.types w.types object.0 t is, refl);
  selectors = selectors_read k p name.spot (reached.Object (record { 0 = t }) 0 0) ss w q tt;
  spot = refl;
}

-- nothing is selected from what is neither an object nor an access value
unknown_read : (k : Known) (p : Context) (name : Ident) (path : PathForm) (object : TypeNo) (ss : List SelectorTree) → Quiet (selectors_remark k name.spot (reached.Value (variable.Record object)) ss) → MeantRead p (path_expression (record { root = name; selectors = ss })) (reached_meant path (selectors_reached k (reached.Value (variable.Record object)) ss))
unknown_read k p name path object [] q = tt
unknown_read k p name path object (component c ∷ ss) q = absurd q.0
unknown_read k p name path object (dereference all ∷ ss) q = absurd q.0

record_place_read : (k : Known) (p : Context) (x : VariableNo) (name : Ident) (object : TypeNo) (ss : List SelectorTree) → Ahead k p → IsObjectNamed p name.text x.0 → fits.variable_kind p.variables x.0 ≡ Some (variable.Record object) → Quiet (variable_path_remark k name.spot (variable.Record object) ss) → MeantRead p (path_expression (record { root = name; selectors = ss })) (variable_meant k x name.spot (variable.Record object) ss)
unfolding record_of_object
record_place_read k p x name object ss w b v q = by_form (slice_get k.types object.0) refl q
  where
    tree : PathTree
    tree = record { root = name; selectors = ss }

    by_form : (o : Option TypeForm) → slice_get k.types object.0 ≡ o → Quiet (selectors_remark k name.spot (whole_object (record_known_by o) (variable.Record object)) ss also record_type_wanted (selectors_reached k (whole_object (record_known_by o) (variable.Record object)) ss) name.spot) → MeantRead p (path_expression tree) (reached_meant (selected_path x true name.spot (components_selected k (whole_object (record_known_by o) (variable.Record object)) ss)) (selectors_reached k (whole_object (record_known_by o) (variable.Record object)) ss))
    by_form (Some (object_of t)) is q =
        let at = reached.Object (record { 0 = t }) 0 0 in
        meant_whole p tree (selected_path x true name.spot (components_selected k at ss)) (selectors_reached k at ss) (object_path_read k p x name object t ss w b v is q.0)
    by_form (Some (record_of n ps cs final)) is q = unknown_read k p name (selected_path x true name.spot (components_selected k (reached.Value (variable.Record object)) ss)) object ss q.0
    by_form (Some (access_to n d pool)) is q = unknown_read k p name (selected_path x true name.spot (components_selected k (reached.Value (variable.Record object)) ss)) object ss q.0
    by_form None is q = unknown_read k p name (selected_path x true name.spot (components_selected k (reached.Value (variable.Record object)) ss)) object ss q.0

place_read : (k : Known) (p : Context) (x : VariableNo) (name : Ident) (of : VariableKind) (ss : List SelectorTree) → Ahead k p → IsObjectNamed p name.text x.0 → fits.variable_kind p.variables x.0 ≡ Some of → Quiet (variable_path_remark k name.spot of ss) → MeantRead p (path_expression (record { root = name; selectors = ss })) (variable_meant k x name.spot of ss)
place_read k p x name variable.Integer ss w b v q =
    meant_whole p (record { root = name; selectors = ss }) (selected_path x false name.spot (components_selected k (reached.Value variable.Integer) ss))
    (selectors_reached k (reached.Value variable.Integer) ss) (value_path_read k p x name variable.Integer ss tt w b v q.0)
place_read k p x name variable.Boolean ss w b v q =
    meant_whole p (record { root = name; selectors = ss }) (selected_path x false name.spot (components_selected k (reached.Value variable.Boolean) ss))
    (selectors_reached k (reached.Value variable.Boolean) ss) (value_path_read k p x name variable.Boolean ss tt w b v q.0)
place_read k p x name (variable.Access t) ss w b v q =
    meant_whole p (record { root = name; selectors = ss }) (selected_path x false name.spot (components_selected k (reached.Value (variable.Access t)) ss))
    (selectors_reached k (reached.Value (variable.Access t)) ss) (value_path_read k p x name (variable.Access t) ss tt w b v q.0)
place_read k p x name (variable.Record object) ss w b v q = record_place_read k p x name object ss w b v q

-- what a variable is known to hold
declared_kind : (k : Known) (p : Context) (x : VariableNo) (text : List ℕ) (of : VariableKind) → Ahead k p → IsVariableIn k.variables text of x.0 → fits.variable_kind p.variables x.0 ≡ Some of
declared_kind k p x text of w f = kind_there p.variables x.0 text of (f.0, f.1, w.variables x.0 (record { name = text; spot = f.0; kind = of; borrows = f.1 }) f.2)

-- what a name stands for
entity_read : (k : Known) (p : Context) (e : Entity) (name : Ident) (ss : List SelectorTree) → Ahead k p → EntityFits k.types k.variables name.text e → EntityRead p name.text e → Quiet (value_wanted k (Some e) name ss) → MeantRead p (path_expression (record { root = name; selectors = ss })) (entity_meant k (Some e) name.spot ss)
entity_read k p (entity.Variable x of) name ss w f t q =
    place_read k p x name of ss w (inl t) (declared_kind k p x name.text of w f.0) q
entity_read k p (entity.Parameter x of) name ss w f t q =
    place_read k p x name of ss w (inr t) (kind_there p.variables x.0 name.text of (f.0.0, false, w.variables x.0 (record { name = name.text; spot = f.0.0; kind = of; borrows = false }) f.0.1)) q
entity_read k p (entity.Outer of role) name ss w f t q = absurd q.0
entity_read k p (entity.Number n) name [] w f t q = read_number refl t
entity_read k p (entity.Number n) name (s ∷ ss) w f t q = tt
entity_read k p (entity.Truth b) name [] w f t q = read_truth refl t
entity_read k p (entity.Truth b) name (s ∷ ss) w f t q = tt
entity_read k p e name ss w f t q = tt

named_read : (k : Known) (p : Context) (o : Option Entity) (name : Ident) (ss : List SelectorTree) → Ahead k p → ((e : Entity) → o ≡ Some e → EntityFits k.types k.variables name.text e) → ((e : Entity) → o ≡ Some e → EntityRead p name.text e) → Quiet (value_wanted k o name ss) → MeantRead p (path_expression (record { root = name; selectors = ss })) (entity_meant k o name.spot ss)
named_read k p None name ss w v t q = tt
named_read k p (Some e) name ss w v t q = entity_read k p e name ss w (v e refl) (t e refl) q

pub path_read : (k : Known) (p : Context) (tree : PathTree) → Readable k p → Quiet (path_remark k tree) → MeantRead p (path_expression tree) (path_meant k tree)
unfolding path_meant path_remark
path_read k p tree w q = by_root (is_library_root tree.root.text) _ q
  where
    by_root : (b : Bool) (other : Remark) → Quiet (cond b other (value_wanted k (visible k tree.root.text) tree.root tree.selectors)) → MeantRead p (path_expression tree) (cond b unknown (entity_meant k (visible k tree.root.text) tree.root.spot tree.selectors))
    by_root true other q = tt
    by_root false other q = named_read k p (visible k tree.root.text) tree.root tree.selectors w.ahead (visible_fits k w.fits tree.root.text) (visible_read k p w.agrees tree.root.text) q

-- what is wanted is read
integer_read : (p : Context) (e : ExpressionTree) (m : Meant) (spot : Spot) → IsMeant m → MeantRead p e m → Quiet (integer_wanted m spot) → IsExpressionRead p e (integer_in m)
integer_read p e (integer_value form) spot f r q = r
integer_read p e unknown spot f r q = absurd f
integer_read p e (lent_value u) spot f r q = absurd f
integer_read p e m spot f r q = absurd q

boolean_read : (p : Context) (e : ExpressionTree) (m : Meant) (spot : Spot) → IsMeant m → MeantRead p e m → Quiet (boolean_wanted m spot) → IsExpressionRead p e (boolean_in m)
boolean_read p e (boolean_value form) spot f r q = r
boolean_read p e unknown spot f r q = absurd f
boolean_read p e (lent_value u) spot f r q = absurd f
boolean_read p e m spot f r q = absurd q

asks_read : (o : BinaryOperator) → signature_of o ≡ equality → AsksEqual o (asks_equal o)
asks_read binary.Equal is = refl
asks_read binary.NotEqual is = refl
asks_read o is = absurd (cc is)

equality_read : (p : Context) (o : BinaryOperator) (e d : ExpressionTree) (left right : Meant) (at to : Spot) → signature_of o ≡ equality → IsMeant left → IsMeant right → MeantRead p e left → MeantRead p d right → Quiet (equal_wanted left at right to) → MeantRead p (binary_expression o e d) (equality_meant o left right)
equality_read p o e d (integer_value a) (integer_value b) at to is f g r s q = inl (a, b, refl, r, s)
equality_read p o e d (boolean_value a) (boolean_value b) at to is f g r s q = inl (a, b, refl, r, s)
equality_read p o e d (access_value path t) null_value at to is f g r s q = inr (null_on_right (asks_read o is) r s)
equality_read p o e d null_value (access_value path t) at to is f g r s q = inr (null_on_left (asks_read o is) r s)
equality_read p o e d unknown right at to is f g r s q = absurd f
equality_read p o e d (lent_value u) right at to is f g r s q = absurd f
equality_read p o e d left unknown at to is f g r s q = absurd g
equality_read p o e d left (lent_value u) at to is f g r s q = absurd g
equality_read p o e d left right at to is f g r s q = absurd q

-- an operator with its operands
unary_read : (p : Context) (o : UnaryOperator) (at : Spot) (e : ExpressionTree) (m : Meant) (spot : Spot) → IsMeant m → MeantRead p e m → Quiet (operand_remark o m spot) → MeantRead p (unary_expression o at e) (unary_meant o m)
unary_read p unary.Plus at e m spot f r q = (integer_in m, refl, integer_read p e m spot f r q)
unary_read p unary.Minus at e m spot f r q = (integer_in m, refl, integer_read p e m spot f r q)
unary_read p unary.Not at e m spot f r q = (boolean_in m, refl, boolean_read p e m spot f r q)

binary_read : (p : Context) (o : BinaryOperator) (s : Signature) (e d : ExpressionTree) (left right : Meant) (at to : Spot) → signature_of o ≡ s → IsMeant left → IsMeant right → MeantRead p e left → MeantRead p d right → Quiet (operands_by s left at right to) → MeantRead p (binary_expression o e d) (binary_by s o left right)
binary_read p o arithmetic e d left right at to is f g r s q = inl (integer_in left, integer_in right, refl, integer_read p e left at f r q.0, integer_read p d right to g s q.1)
binary_read p o ordering e d left right at to is f g r s q = inl (integer_in left, integer_in right, refl, integer_read p e left at f r q.0, integer_read p d right to g s q.1)
binary_read p o equality e d left right at to is f g r s q = equality_read p o e d left right at to is f g r s q
binary_read p o logical e d left right at to is f g r s q = inl (boolean_in left, boolean_in right, refl, boolean_read p e left at f r q.0, boolean_read p d right to g s q.1)

-- parentheses change nothing
enclosed_read : (p : Context) (spot : Spot) (e : ExpressionTree) (m : Meant) → MeantRead p e m → MeantRead p (enclosed_expression spot e) m
enclosed_read p spot e unknown r = tt
enclosed_read p spot e (lent_value u) r = tt
enclosed_read p spot e null_value r = r
enclosed_read p spot e (access_value path t) r = r
enclosed_read p spot e (integer_value form) r = r
enclosed_read p spot e (boolean_value form) r = r
enclosed_read p spot e (record_value path) r = r
enclosed_read p spot e (aggregate_value t forms) r =
    record { type_name = r.type_name; items = r.items; parts = r.parts; components = r.components; finalization = r.finalization; written = r.written; bound = r.bound; there = r.there; count = r.count; given = r.given }

-- what a value gives a component

record_given : (p : Context) (e : ExpressionTree) (t : TypeNo) (m : Meant) (spot : Spot) → IsMeant m → MeantRead p e m → Quiet (record_value_wanted t m spot) → IsGiven p (part.Record t) e (item_meant m)
record_given p e t (record_value path) spot f r q = by_copy (sym (eqb-true t.0 path.record_type (quiet_unless (eqb t.0 path.record_type) spot WrongType q))) r
record_given p e t (aggregate_value found forms) spot f r q =
    let same : t.0 ≡ found.0 = eqb-true t.0 found.0 (quiet_unless (eqb t.0 found.0) spot WrongType q) in
    by_aggregate r.type_name r.items r.parts r.components r.finalization r.written
    (subst (λ (u : ℕ). IsFullTypeNamed p r.type_name.text u) (sym same) r.bound)
    (subst (λ (u : ℕ). slice_get p.types u ≡ Some (record_of r.type_name.text r.parts r.components r.finalization)) (sym same) r.there) r.count r.given
record_given p e t unknown spot f r q = absurd f
record_given p e t (lent_value u) spot f r q = absurd f
record_given p e t m spot f r q = absurd q

item_read : (p : Context) (variables : List VariableForm) (e : ExpressionTree) (k : PartKind) (m : Meant) (spot : Spot) → IsMeant m → MeantRead p e m → Quiet (fits_remark variables k m spot) → IsGiven p k e (item_meant m)
item_read p variables e (part.Record t) m spot f r q = record_given p e t m spot f r q
item_read p variables e part.Parent m spot f r q = absurd q
item_read p variables e (part.Elementary k) (integer_value form) spot f r q = to_elementary r
item_read p variables e (part.Elementary k) (boolean_value form) spot f r q = to_elementary r
item_read p variables e (part.Elementary k) (access_value path t) spot f r q = to_elementary r
item_read p variables e (part.Elementary k) null_value spot f r q = to_elementary r
item_read p variables e (part.Elementary k) unknown spot f r q = absurd f
item_read p variables e (part.Elementary k) (lent_value u) spot f r q = absurd f
item_read p variables e (part.Elementary (kind.Access t)) m spot f r q = absurd q.0
item_read p variables e (part.Elementary k) m spot f r q = absurd q

-- the component that an item is for
component_there : (items : ItemsTree) (label : Option Ident) (e : ExpressionTree) (rest : ItemsTree) (cs : List PartForm) (at : ℕ) (found : ℕ × KnownComponent) → component_for cs label at ≡ Some found → (d : PartForm) × (slice_get cs found.0 ≡ Some d) × IsItemFor (an_item label e rest) at found.0 d.name e × (d.kind ≡ found.1.kind)
component_there items (Some label) e rest cs at found is =
    let there = component_found 0 label.text cs found is in
    let place : found.0 ≡ there.0 = there.1 ∙ omega arith in
    let d = the_part label.text found.1 in
    let here : IsItemFor (an_item (Some label) e rest) at found.0 label.text e = by_name in
    (d, subst (λ (n : ℕ). slice_get cs n ≡ Some d) (sym place) there.2, here, refl)
component_there items None e rest cs at found is = at_number (slice_get cs at) refl is
  where
    at_number : (o : Option PartForm) → slice_get cs at ≡ o → component_at at o ≡ Some found → (d : PartForm) × (slice_get cs found.0 ≡ Some d) × IsItemFor (an_item None e rest) at found.0 d.name e × (d.kind ≡ found.1.kind)
    at_number None there is = absurd (cc is)
    at_number (Some d) there is =
        let same : (at, known_component d) ≡ found = cc is in
        let place : at ≡ found.0 = ap (λ (f : ℕ × KnownComponent). f.0) same in
        let here : IsItemFor (an_item None e rest) at at d.name e = at_place in
        (d, rw (sym place) there, subst (λ (n : ℕ). IsItemFor (an_item None e rest) at n d.name e) place here, ap (λ (f : ℕ × KnownComponent). f.1.kind) same)

-- items are what is written for their component
abbrev IsFilled : Context → List PartForm → ItemsTree → ℕ → List ItemForm → Type 0
IsFilled p cs items c forms =
    (d : PartForm) × (e : ExpressionTree) × (slice_get cs c ≡ Some d) × IsItemFor items 0 c d.name e × IsGiven p d.kind e forms

-- so are all items so far
abbrev SlotsRead : Context → List PartForm → ItemsTree → List (Option (List ItemForm)) → Type 0
SlotsRead p cs items slots = (c : ℕ) (form : List ItemForm) → slice_get slots c ≡ Some (Some form) → IsFilled p cs items c form

-- these items end those
abbrev Ends : ItemsTree → ItemsTree → ℕ → Type 0
Ends items rest at = (c : ℕ) (name : List ℕ) (e : ExpressionTree) → IsItemFor rest at c name e → IsItemFor items 0 c name e

none_read : (p : Context) (cs : List PartForm) (items : ItemsTree) (n : ℕ) → SlotsRead p cs items (replicate n None)
none_read p cs items n c form e = absurd (no_item n c e)
  where
    no_item : (n c : ℕ) → slice_get (replicate n None) c ≡ Some (Some form) → ⊥
    no_item zero c e = cc e
    no_item (suc n) zero e = cc e
    no_item (suc n) (suc c) e = no_item n c e

one_read : (p : Context) (cs : List PartForm) (items : ItemsTree) (slots : List (Option (List ItemForm))) (n : ℕ) (form : List ItemForm) → SlotsRead p cs items slots → IsFilled p cs items n form → SlotsRead p cs items (slice_set slots n (Some form))
one_read p cs items slots n form old own c other is = by_number (eqb n c) refl
  where
    off_on : (b : Bool) → b ≡ false → b ≡ true → ⊥
    off_on b e f = cc (e, f)

    set_there : (slots : List (Option (List ItemForm))) (n : ℕ) → slice_get (slice_set slots n (Some form)) n ≡ Some (Some other) → form ≡ other
    set_there [] n e = absurd (cc e)
    set_there (s ∷ slots) zero e = cc e
    set_there (s ∷ slots) (suc n) e = set_there slots n e

    by_number : (b : Bool) → eqb n c ≡ b → IsFilled p cs items c other
    by_number true same =
        let place : n ≡ c = eqb-true n c same in
        let form_is : form ≡ other = set_there slots n (subst (λ (m : ℕ). slice_get (slice_set slots n (Some form)) m ≡ Some (Some other)) (sym place) is) in
        subst (λ (f : List ItemForm). IsFilled p cs items c f) form_is (subst (λ (m : ℕ). IsFilled p cs items m form) place own)
    by_number false apart = old c other (sym (get_other slots n c (Some form) (λ place. off_on (eqb n c) apart (eq-eqb n c place))) ∙ is)

filled_read : (p : Context) (variables : List VariableForm) (cs : List PartForm) (items : ItemsTree) (label : Option Ident) (e : ExpressionTree) (rest : ItemsTree) (m : Meant) (filling : Filling) (alike : Bool) (o : Option (ℕ × KnownComponent)) → component_for cs label filling.count ≡ o → Ends items (an_item label e rest) filling.count → SlotsRead p cs items filling.slots → IsMeant m → MeantRead p e m → Quiet (for_remark variables o filling label e m) → SlotsRead p cs items (filled_for o filling alike (item_meant m)).slots × ((filled_for o filling alike (item_meant m)).count ≡ filling.count + 1)
filled_read p variables cs items label e rest m filling alike None is ends old f r q = (old, refl)
filled_read p variables cs items label e rest m filling alike (Some found) is ends old f r q =
    let there = component_there items label e rest cs filling.count found is in
    let given : IsGiven p there.0.kind e (item_meant m) = subst (λ (k : PartKind). IsGiven p k e (item_meant m)) (sym there.3) (item_read p variables e found.1.kind m (expression_spot e) f r q.1) in
    let own : IsFilled p cs items found.0 (item_meant m) = (there.0, e, there.1, ends found.0 there.0.name e there.2, given) in
    (one_read p cs items filling.slots found.0 (item_meant m) old own, refl)

-- where the record type is known
abbrev ReadFor : Context → Option (List PartForm) → ItemsTree → List (Option (List ItemForm)) → Type 0
ReadFor p None items slots = Unit {0}
ReadFor p (Some cs) items slots = SlotsRead p cs items slots

first_read : (p : Context) (o : Option (List PartForm)) (items : ItemsTree) → ReadFor p o items (first_filling o).slots
first_read p None items = tt
first_read p (Some cs) items = none_read p cs items (length cs)

next_read : (p : Context) (variables : List VariableForm) (o : Option (List PartForm)) (is_named : Bool) (items : ItemsTree) (filling : Filling) (label : Option Ident) (e : ExpressionTree) (rest : ItemsTree) (m : Meant) → Ends items (an_item label e rest) filling.count → ReadFor p o items filling.slots → IsMeant m → MeantRead p e m → Quiet (component_item_remark variables o filling label e m) → ReadFor p o items (after_item o is_named filling label m).slots × ((after_item o is_named filling label m).count ≡ filling.count + 1)
unfolding after_item
next_read p variables None is_named items filling label e rest m ends old f r q = (tt, refl)
next_read p variables (Some cs) is_named items filling label e rest m ends old f r q =
    filled_read p variables cs items label e rest m filling (is_alike is_named label) (component_for cs label filling.count) refl ends old f r q

-- where each component has its items, they are those that are written
given_from : (p : Context) (items : ItemsTree) (c : ℕ) (cs : List PartForm) (slots : List (Option (List ItemForm))) → list_all is_some slots ≡ true → length slots ≡ length cs → ((j : ℕ) (forms : List ItemForm) → slice_get slots j ≡ Some (Some forms) → (d : PartForm) × (e : ExpressionTree) × (slice_get cs j ≡ Some d) × IsItemFor items 0 (c + j) d.name e × IsGiven p d.kind e forms) → AreGiven p items c cs (flattened slots)
given_from p items c [] [] all long w = none_given
given_from p items c [] (s ∷ slots) all long w = let no : ⊥ = omega (arith, long) in absurd no
given_from p items c (d ∷ cs) [] all long w = let no : ⊥ = omega (arith, long) in absurd no
given_from p items c (d ∷ cs) (None ∷ slots) all long w = absurd (cc all)
given_from p items c (d ∷ cs) (Some forms ∷ slots) all long w =
    let own = w 0 forms refl in
    let found : (slice_get (d ∷ cs) 0 ≡ Some own.0) = own.2 in
    let same : own.0 ≡ d = cc found in
    let place : c + 0 ≡ c = omega arith in
    let named_so : IsItemFor items 0 c d.name own.1 = subst (λ (x : PartForm). IsItemFor items 0 c x.name own.1) same (subst (λ (n : ℕ). IsItemFor items 0 n own.0.name own.1) place own.3) in
    one_given own.1 forms (flattened slots) named_so (subst (λ (x : PartForm). IsGiven p x.kind own.1 forms) same own.4)
    (given_from p items (c + 1) cs slots all (omega (arith, long))
    (λ j more is. let r = w (suc j) more is in let next : c + suc j ≡ (c + 1) + j = omega arith in (r.0, r.1, r.2, subst (λ (n : ℕ). IsItemFor items 0 n r.0.name r.1) next r.3, r.4)))

whole_read : (p : Context) (cs : List PartForm) (items : ItemsTree) (slots : List (Option (List ItemForm))) → list_all is_some slots ≡ true → length slots ≡ length cs → SlotsRead p cs items slots → AreGiven p items 0 cs (flattened slots)
whole_read p cs items slots all long old =
    given_from p items 0 cs slots all long
    (λ j forms is. let r = old j forms is in let place : j ≡ 0 + j = omega arith in (r.0, r.1, r.2, subst (λ (n : ℕ). IsItemFor items 0 n r.0.name r.1) place r.3, r.4))

-- an aggregate
aggregate_one : (k : Known) (p : Context) (name : Ident) (items : ItemsTree) (spot : Spot) (o : Option Entity) → Readable k p → ((e : Entity) → o ≡ Some e → EntityFits k.types k.variables name.text e) → ((e : Entity) → o ≡ Some e → EntityRead p name.text e) → Quiet (complete_type_wanted o name) → Quiet (items_remark k (filled_components k (complete_in o)) (names_component items) (first_filling (filled_components k (complete_in o))) items) → Quiet (count_remark (names_component items) (after_items k (filled_components k (complete_in o)) (names_component items) (first_filling (filled_components k (complete_in o))) items) spot) → ReadFor p (filled_components k (complete_in o)) items (after_items k (filled_components k (complete_in o)) (names_component items) (first_filling (filled_components k (complete_in o))) items).slots → MeantRead p (aggregate_expression name items) (aggregate_meant (complete_in o) (after_items k (filled_components k (complete_in o)) (names_component items) (first_filling (filled_components k (complete_in o))) items))
aggregate_one k p name items spot (Some (entity.Record t size)) w v b q i c r =
    let f = v (entity.Record t size) refl in
    let cs = components_of k.types t.0 in
    let after = after_items k (Some cs) (names_component items) (first_filling (Some cs)) items in
    let all = items_there k cs (names_component items) (first_filling (Some cs)) items spot w.fits refl i c in
    let count = items_all k cs items i all in
    let whole : cs ≡ f.0 = components_are k.types t.0 name.text f.0 f.1 f.2 f.3 in
    let last = record_stays k.types p.types w.ahead.types t.0 name.text f.0 f.1 f.2 f.3 in
    record {
      type_name = name;
      items = items;
      parts = f.0;
      components = f.1;
      finalization = last.0;
      written = (refl, refl);
      bound = b (entity.Record t size) refl;
      there = last.1;
      count = count.0 ∙ ap (λ (ps : List PartForm). length ps) whole;
      given = subst (λ (ps : List PartForm). AreGiven p items 0 ps (flattened after.slots)) whole (whole_read p cs items after.slots all count.1 r);
    }
aggregate_one k p name items spot (Some e) w v b q i c r = absurd q
aggregate_one k p name items spot None w v b q i c r = absurd q

-- an expression, and the items of an aggregate
mutual
  unfolding expression_meant expression_remark complete_found complete_remark

  expression_read : (k : Known) (p : Context) (e : ExpressionTree) → Readable k p → Quiet (expression_remark k e) → MeantRead p e (expression_meant k e)
  expression_read k p (number_expression spot n) w q = refl
  expression_read k p (null_expression spot) w q = tt
  expression_read k p (path_expression tree) w q = path_read k p tree w q.1
  expression_read k p (aggregate_expression type_name items) w q =
      let components = filled_components k (complete_in (visible k type_name.text)) in
      aggregate_one k p type_name items type_name.spot (visible k type_name.text) w (visible_fits k w.fits type_name.text) (visible_read k p w.agrees type_name.text)
      q.1.0 q.1.1.1.0 q.1.1.1.1
      (items_read k p components (names_component items) items (first_filling components) items w (λ n name e h. h) (first_read p components items) q.1.1.1.0)
  expression_read k p (enclosed_expression spot inner) w q = enclosed_read p spot inner (expression_meant k inner) (expression_read k p inner w q)
  expression_read k p (unary_expression o spot operand) w q =
      unary_read p o spot operand (expression_meant k operand) (expression_spot operand) (expression_known k operand w.fits q.1.0) (expression_read k p operand w q.1.0) q.1.1
  expression_read k p (binary_expression o left right) w q =
      binary_read p o (signature_of o) left right (expression_meant k left) (expression_meant k right) (expression_spot left) (expression_spot right) refl
      (expression_known k left w.fits q.1.0) (expression_known k right w.fits q.1.1.0) (expression_read k p left w q.1.0) (expression_read k p right w q.1.1.0) q.1.1.1

  items_read : (k : Known) (p : Context) (o : Option (List PartForm)) (is_named : Bool) (items : ItemsTree) (filling : Filling) (rest : ItemsTree) → Readable k p → Ends items rest filling.count → ReadFor p o items filling.slots → Quiet (items_remark k o is_named filling rest) → ReadFor p o items (after_items k o is_named filling rest).slots
  items_read k p o is_named items filling no_more_items w ends old q = old
  items_read k p o is_named items filling (an_item label e rest) w ends old q =
      let next = after_item o is_named filling label (expression_meant k e) in
      let done = next_read p k.variables o is_named items filling label e rest (expression_meant k e) ends old
      (expression_known k e w.fits q.0.1.0) (expression_read k p e w q.0.1.0) q.0.1.1 in
      items_read k p o is_named items next rest w (λ c name f h. ends c name f (further (subst (λ (n : ℕ). IsItemFor rest n c name f) done.1 h))) done.0 q.1

aggregate_items_read : (k : Known) (p : Context) (cs : List PartForm) (items : ItemsTree) (spot : Spot) → Readable k p → Quiet (all_items_remark k (Some cs) items spot) → AreItemsRead p cs items (flattened (filling_of k (Some cs) items).slots)
unfolding filling_of all_items_remark
aggregate_items_read k p cs items spot w q =
    let all = items_there k cs (names_component items) (first_filling (Some cs)) items spot w.fits refl q.0 q.1 in
    let count = items_all k cs items q.0 all in (
      count.0,
      whole_read p cs items (after_items k (Some cs) (names_component items) (first_filling (Some cs)) items).slots all count.1
          (items_read k p (Some cs) (names_component items) items (first_filling (Some cs)) items w (λ n name e h. h) (none_read p cs items (length cs)) q.0),
    )

-- what is assigned to what holds this, or to a record
abbrev pub FoundRight : Context → Held → RightTree → Option Assigned → Type 0
FoundRight p (held.Record t) right (Some (a_whole forms)) = IsWholeRead p right t.0 forms
FoundRight p held.Integer right (Some (a_value form)) = IsRightRead p right form
FoundRight p held.Boolean right (Some (a_value form)) = IsRightRead p right form
FoundRight p (held.Access t) right (Some (a_value form)) = IsRightRead p right form
FoundRight p kind right o = ⊥

assigned_whole : (p : Context) (e : ExpressionTree) (t : TypeNo) (m : Meant) (spot : Spot) → IsMeant m → MeantRead p e m → Quiet (record_value_wanted t m spot) → FoundRight p (held.Record t) (expression_right e) (assigned m)
assigned_whole p e t (record_value path) spot f r q = record_given p e (record { 0 = t.0 }) (record_value path) spot f r q
assigned_whole p e t (aggregate_value found forms) spot f r q = record_given p e (record { 0 = t.0 }) (aggregate_value found forms) spot f r q
assigned_whole p e t unknown spot f r q = absurd f
assigned_whole p e t (lent_value u) spot f r q = absurd f
assigned_whole p e t m spot f r q = absurd q

assigned_read : (p : Context) (types : List TypeForm) (e : ExpressionTree) (of : Held) (m : Meant) (spot : Spot) → IsMeant m → MeantRead p e m → Quiet (assigned_wanted types (Some of) m spot) → FoundRight p of (expression_right e) (assigned m)
assigned_read p types e held.Integer (integer_value form) spot f r q = r
assigned_read p types e held.Boolean (boolean_value form) spot f r q = r
assigned_read p types e (held.Access access) null_value spot f r q = r
assigned_read p types e (held.Access access) (access_value path t) spot f r q = r
assigned_read p types e (held.Record t) m spot f r q = assigned_whole p e t m spot f r q.0
assigned_read p types e of unknown spot f r q = absurd f
assigned_read p types e of (lent_value u) spot f r q = absurd f
assigned_read p types e of m spot f r q = absurd q

-- an allocator with items
abbrev FoundAllocation : Context → Ident → ItemsTree → Option RightForm → Type 0
FoundAllocation p name items (Some (allocates access forms)) = IsAllocationRead p name items access forms
FoundAllocation p name items other = ⊥

-- a new object
abbrev FoundNew : Context → RightTree → Option RightForm → Type 0
FoundNew p right None = ⊥
FoundNew p right (Some form) = IsRightRead p right form

allocation_one : (k : Known) (p : Context) (e : Entity) (access : TypeNo) (spot end_spot : Spot) (name : Ident) (items : ItemsTree) → Readable k p → EntityFits k.types k.variables name.text e → EntityRead p name.text e → Quiet (allocated_wanted (Some e) k.types (Some access) spot name) → Quiet (all_items_remark k (filled_components k (complete_in (Some e))) items end_spot) → FoundAllocation p name items (allocation k (Some access) (complete_in (Some e)) items)
allocation_one k p (entity.Record t size) access spot end_spot name items w f r q i = record {
  t = t.0;
  parts = f.0;
  components = f.1;
  finalization = (record_stays k.types p.types w.ahead.types t.0 name.text f.0 f.1 f.2 f.3).0;
  designates = type_designated k p access.0 t.0 w.ahead (access_designates k.types access.0 t.0 (quiet_unless (designates k.types access.0 t.0) spot WrongType q));
  bound = r;
  named = (record_stays k.types p.types w.ahead.types t.0 name.text f.0 f.1 f.2 f.3).1;
  filled = subst (λ (cs : List PartForm). AreItemsRead p cs items (flattened (filling_of k (Some (components_of k.types t.0)) items).slots))
      (components_are k.types t.0 name.text f.0 f.1 f.2 f.3) (aggregate_items_read k p (components_of k.types t.0) items end_spot w i);
}
allocation_one k p e access spot end_spot name items w f r q i = absurd q

allocation_named : (k : Known) (p : Context) (o : Option Entity) (access : TypeNo) (spot end_spot : Spot) (name : Ident) (items : ItemsTree) → Readable k p → ((e : Entity) → o ≡ Some e → EntityFits k.types k.variables name.text e) → ((e : Entity) → o ≡ Some e → EntityRead p name.text e) → Quiet (allocated_wanted o k.types (Some access) spot name) → Quiet (all_items_remark k (filled_components k (complete_in o)) items end_spot) → FoundAllocation p name items (allocation k (Some access) (complete_in o) items)
allocation_named k p (Some e) access spot end_spot name items w v r q i = allocation_one k p e access spot end_spot name items w (v e refl) (r e refl) q i
allocation_named k p None access spot end_spot name items w v r q i = absurd q

aggregate_read : (k : Known) (p : Context) (access : TypeNo) (at : Spot) (name : Ident) (items : ItemsTree) → Readable k p → Quiet (aggregate_remark k (Some access) at name items) → FoundAllocation p name items (aggregate_found k (Some access) name items)
unfolding aggregate_remark aggregate_found allocated_remark complete_found
aggregate_read k p access at name items w q =
    allocation_named k p (visible k name.text) access at name.spot name items w (visible_fits k w.fits name.text) (visible_read k p w.agrees name.text) q.0 q.1.1

allocation_right : (p : Context) (at : Spot) (name : Ident) (label : Option Ident) (e : ExpressionTree) (rest : ItemsTree) (o : Option RightForm) → FoundAllocation p name (an_item label e rest) o → FoundNew p (allocator_right at None name (an_item label e rest)) o
allocation_right p at name label e rest (Some (allocates access forms)) r = r
allocation_right p at name label e rest other r = absurd r

-- an allocator without items
default_one : (k : Known) (p : Context) (e : Entity) (access : TypeNo) (at spot : Spot) (name : Ident) → Readable k p → EntityFits k.types k.variables name.text e → EntityRead p name.text e → Quiet (allocated_wanted (Some e) k.types (Some access) spot name) → FoundNew p (allocator_right at None name no_more_items) (default_allocation (Some access) (complete_in (Some e)))
default_one k p (entity.Record t size) access at spot name w f r q = (
  t.0,
  type_designated k p access.0 t.0 w.ahead (access_designates k.types access.0 t.0 (quiet_unless (designates k.types access.0 t.0) spot WrongType q)),
  (let last = record_stays k.types p.types w.ahead.types t.0 name.text f.0 f.1 f.2 f.3 in (r, f.0, f.1, last.0, last.1)),
)
default_one k p e access at spot name w f r q = absurd q

default_named : (k : Known) (p : Context) (o : Option Entity) (access : TypeNo) (at spot : Spot) (name : Ident) → Readable k p → ((e : Entity) → o ≡ Some e → EntityFits k.types k.variables name.text e) → ((e : Entity) → o ≡ Some e → EntityRead p name.text e) → Quiet (allocated_wanted o k.types (Some access) spot name) → FoundNew p (allocator_right at None name no_more_items) (default_allocation (Some access) (complete_in o))
default_named k p (Some e) access at spot name w v r q = default_one k p e access at spot name w (v e refl) (r e refl) q
default_named k p None access at spot name w v r q = absurd q

default_read : (k : Known) (p : Context) (access : TypeNo) (at : Spot) (name : Ident) → Readable k p → Quiet (allocated_remark k (Some access) at name) → FoundNew p (allocator_right at None name no_more_items) (default_found k (Some access) name)
unfolding default_found allocated_remark complete_found
default_read k p access at name w q =
    default_named k p (visible k name.text) access at at name w (visible_fits k w.fits name.text) (visible_read k p w.agrees name.text) q

allocator_read : (k : Known) (p : Context) (access : TypeNo) (at : Spot) (handle : Option Ident) (name : Ident) (items : ItemsTree) → Readable k p → Quiet (allocator_remark k (Some access) at handle name items) → FoundNew p (allocator_right at handle name items) (allocator_found k (Some access) handle name items)
unfolding allocator_remark allocator_found
allocator_read k p access at (Some handle) name items w q = absurd q
allocator_read k p access at None name no_more_items w q = default_read k p access at name w q
allocator_read k p access at None name (an_item label e rest) w q =
    allocation_right p at name label e rest (aggregate_found k (Some access) name (an_item label e rest)) (aggregate_read k p access at name (an_item label e rest) w q)

new_read : (p : Context) (access : TypeNo) (right : RightTree) (o : Option RightForm) → FoundNew p right o → FoundRight p (held.Access access) right (new_assigned o)
new_read p access right None f = f
new_read p access right (Some form) f = f

pub right_read : (k : Known) (p : Context) (of : Held) (borrows : Bool) (right : RightTree) → Readable k p → Quiet (right_remark k (Some of) borrows right) → FoundRight p of right (right_found k (Some of) right)
right_read k p of borrows (expression_right e) w q =
    assigned_read p k.types e of (expression_meant k e) (expression_spot e) (expression_known k e w.fits q.0) (expression_read k p e w q.0) q.1.0
right_read k p (held.Access access) borrows (allocator_right at handle name items) w q =
    new_read p access (allocator_right at handle name items) (allocator_found k (Some access) handle name items) (allocator_read k p access at handle name items w q.1.1)
right_read k p held.Integer borrows (allocator_right at handle name items) w q = absurd q.0
right_read k p held.Boolean borrows (allocator_right at handle name items) w q = absurd q.0
right_read k p (held.Record t) borrows (allocator_right at handle name items) w q = absurd q.0
right_read k p of borrows (creation_right function argument) w q = absurd q

-- a statement
abbrev FoundStatement : Context → StatementTree → Option StmtForm → Type 0
FoundStatement p s None = ⊥
FoundStatement p s (Some form) = IsSimpleRead p s form

path_of_value : (p : Context) (tree : PathTree) (path : PathForm) → IsValueRead p tree (reads path) → IsPathRead p tree path
path_of_value p tree path (read_path r) = r

-- what is meant by the path of something that is written may change
abbrev MayWrite : Context → PathTree → Meant → Type 0
MayWrite p tree (integer_value (reads path)) = MayChange p tree path.root (follows_value path.of_record path.selectors)
MayWrite p tree (boolean_value (reads path)) = MayChange p tree path.root (follows_value path.of_record path.selectors)
MayWrite p tree (access_value path t) = MayChange p tree path.root (follows_value path.of_record path.selectors)
MayWrite p tree (record_value path) = MayChange p tree path.object.root (follows_to path.object.of_record path.object.selectors) × SparesOperand p tree
MayWrite p tree m = Unit {0}

may_change : (k : Known) (p : Context) (tree : PathTree) (m : Meant) (x : ℕ) (follows : Bool) → Readable k p → Quiet (written_wanted (visible k tree.root.text) m tree.root.spot) → (Quiet (constant_wanted m tree.root.spot) → follows ≡ true) → IsObjectNamed p tree.root.text x → MayChange p tree x follows
may_change k p tree m x follows w q on (inl b) = inl b
may_change k p tree m x follows w q on (inr b) =
    let n = parameter_visible k p w.agrees tree.root.text x b in
    inr (b, on (subst (λ (o : Option Entity). Quiet (written_wanted o m tree.root.spot)) n.2 q))

value_written : (k : Known) (p : Context) (tree : PathTree) (m : Meant) (path : PathForm) → Readable k p → Quiet (written_wanted (visible k tree.root.text) m tree.root.spot) → (Quiet (constant_wanted m tree.root.spot) → Quiet (wrong_if (not (follows_value path.of_record path.selectors)) tree.root.spot WrongType)) → IsPathRead p tree path → MayChange p tree path.root (follows_value path.of_record path.selectors)
value_written k p tree m path w q on r =
    may_change k p tree m path.root (follows_value path.of_record path.selectors) w q
    (λ c. quiet_unless (follows_value path.of_record path.selectors) tree.root.spot WrongType (on c)) r.leads.root

-- an operand that is kept is not written as a whole
operand_spared : (k : Known) (p : Context) (tree : PathTree) → Readable k p → Quiet (wrong_if (is_kept_operand k tree) tree.root.spot NotInProfile) → SparesOperand p tree
operand_spared k p tree w q keeps alone is =
    let n = variable_visible k p w.agrees tree.root.text 0 is in
    let first : is_first_variable (visible k tree.root.text) ≡ true = ap (λ (o : Option Entity). is_first_variable o) n.2 ∙ ap (λ (x : ℕ). eqb x 0) n.3 in
    let kept : k.here.keeps_operand ≡ true = sym w.agrees.kept ∙ keeps in
    let empty : is_empty tree.selectors ≡ true = ap (λ (ss : List SelectorTree). is_empty ss) alone in
    let on : is_kept_operand k tree ≡ true = cc (kept, empty, first) in
    cc (on, quiet_if (is_kept_operand k tree) tree.root.spot NotInProfile q)

written_read : (k : Known) (p : Context) (tree : PathTree) (m : Meant) → Readable k p → Quiet (written_remark k tree m) → MeantRead p (path_expression tree) m → MayWrite p tree m
written_read k p tree (integer_value (reads path)) w q r = value_written k p tree (integer_value (reads path)) path w q.0 (λ c. c) (path_of_value p tree path r)
written_read k p tree (boolean_value (reads path)) w q r = value_written k p tree (boolean_value (reads path)) path w q.0 (λ c. c) (path_of_value p tree path r)
written_read k p tree (access_value path t) w q r = value_written k p tree (access_value path t) path w q.0 (λ c. c) r
written_read k p tree (record_value path) w q r =
    let follows = follows_to path.object.of_record path.object.selectors in
    (may_change k p tree (record_value path) path.object.root follows w q.0 (λ c. quiet_unless follows tree.root.spot WrongType c) r.root, operand_spared k p tree w q.1)
written_read k p tree m w q r = tt

-- a path to a value that selects no component is a name
object_selects : (p : Context) (t before parts : ℕ) (ss : List SelectorTree) (cs : List ℕ) (kind : Option VariableKind) → AreSelectorsRead p (at_object t before parts) ss cs (at_value kind) → cs ≡ [] → ⊥
object_selects p t before parts ss cs kind (to_value named_so more) e = cc e
object_selects p t before parts (component i ∷ ss) cs kind (to_record {first} {from} {inner} named_so more) e = object_selects p inner.0 (before + first) (parts + from) ss cs kind more e

value_alone : (p : Context) (of : Option VariableKind) (ss : List SelectorTree) (cs : List ℕ) (kind : Option VariableKind) → AreSelectorsRead p (at_value of) ss cs (at_value kind) → cs ≡ [] → ss ≡ []
value_alone p of ss cs kind at_end e = refl
value_alone p of (dereference spot ∷ ss) cs kind (by_all {t} behind_so more) e = absurd (object_selects p t 0 0 ss cs kind more e)
value_alone p of (component i ∷ ss) cs kind (by_value {t} behind_so more) e = absurd (object_selects p t 0 0 (component i ∷ ss) cs kind more e)

way_alone : (p : Context) (way : Way) (ss : List SelectorTree) (cs : List ℕ) (kind : Option VariableKind) → AreSelectorsRead p way ss cs (at_value kind) → cs ≡ [] → ss ≡ []
way_alone p (at_value of) ss cs kind r e = value_alone p of ss cs kind r e
way_alone p (at_object t before parts) ss cs kind r e = absurd (object_selects p t before parts ss cs kind r e)

-- a variable that is given alone
variable_alone : (p : Context) (tree : PathTree) (path : PathForm) → path.selectors ≡ [] → IsTargetRead p tree path → IsVariableRead p tree path
variable_alone p tree path alone r =
    (way_alone p r.0.leads.way tree.selectors path.selectors r.0.kind r.0.leads.selectors alone, r.0, by_change r.1)
  where
    by_change : MayChange p tree path.root (follows_value path.of_record path.selectors) → IsVariableNamed p tree.root.text path.root
    by_change (inl b) = b
    by_change (inr f) = absurd (cc (sym (ap (λ (cs : List ℕ). follows_value path.of_record cs) alone) ∙ f.1))

-- where nothing is selected, no component is
selects_none : (p : Context) (way end : Way) (ss : List SelectorTree) (cs : List ℕ) → AreSelectorsRead p way ss cs end → ss ≡ [] → cs ≡ []
selects_none p way end ss cs at_end none = refl
selects_none p way end ss cs (by_all is rest) none = absurd (cc none)
selects_none p way end ss cs (by_value is rest) none = absurd (cc none)
selects_none p way end ss cs (to_value is rest) none = absurd (cc none)
selects_none p way end ss cs (to_record is rest) none = absurd (cc none)

component_within : (p : Context) (tree : PathTree) (path : PathForm) (c : ℕ) (cs : List ℕ) → path.selectors ≡ c ∷ cs → IsTargetRead p tree path → IsComponentRead p tree path
component_within p tree path c cs within r = (λ none. absurd (cc (selects_none p r.0.leads.way (at_value r.0.kind) tree.selectors path.selectors r.0.leads.selectors none, within)), r)

-- what is assigned to
abbrev FoundTarget : Context → PathTree → Option Target → Type 0
FoundTarget p target None = ⊥
FoundTarget p target (Some (value_target path (held.Record t))) = ⊥
FoundTarget p target (Some (value_target path kind)) = IsTargetRead p target path
FoundTarget p target (Some (record_target path)) = IsRecordTargetRead p target path

target_meant_read : (p : Context) (tree : PathTree) (m : Meant) (spot : Spot) → MayWrite p tree m → IsMeant m → MeantRead p (path_expression tree) m → Quiet (target_wanted m spot) → FoundTarget p tree (target_meant m)
target_meant_read p tree (integer_value (reads path)) spot v f r q = (path_of_value p tree path r, v)
target_meant_read p tree (boolean_value (reads path)) spot v f r q = (path_of_value p tree path r, v)
target_meant_read p tree (access_value path t) spot v f r q = (r, v)
target_meant_read p tree (record_value path) spot v f r q = (r, v.0, v.1)
target_meant_read p tree unknown spot v f r q = absurd f
target_meant_read p tree (lent_value u) spot v f r q = absurd f
target_meant_read p tree m spot v f r q = absurd q

found_target_read : (k : Known) (p : Context) (tree : PathTree) → Readable k p → Quiet (target_remark k tree) → FoundTarget p tree (target_found k tree)
unfolding target_remark target_found
found_target_read k p tree w q =
    let m = path_meant k tree in
    let r = path_read k p tree w q.0 in
    target_meant_read p tree m tree.root.spot (written_read k p tree m w q.1.0 r) (path_known k tree w.fits q.0) r q.1.1

-- `X := ..;`
value_read : (p : Context) (target : PathTree) (right : RightTree) (path : PathForm) (kind : Held) (o : Option Assigned) → FoundTarget p target (Some (value_target path kind)) → FoundRight p kind right o → FoundStatement p (assignment target right) (assignment_of (Some (value_target path kind)) o)
value_read p target right path (held.Record u) o t f = absurd t
value_read p target right path held.Integer (Some (a_value form)) t f = (t, f)
value_read p target right path held.Boolean (Some (a_value form)) t f = (t, f)
value_read p target right path (held.Access u) (Some (a_value form)) t f = (t, f)
value_read p target right path held.Integer (Some (a_whole forms)) t f = absurd f
value_read p target right path held.Boolean (Some (a_whole forms)) t f = absurd f
value_read p target right path (held.Access u) (Some (a_whole forms)) t f = absurd f
value_read p target right path held.Integer None t f = absurd f
value_read p target right path held.Boolean None t f = absurd f
value_read p target right path (held.Access u) None t f = absurd f

-- `R := ..;`
record_whole_read : (p : Context) (target : PathTree) (right : RightTree) (path : RecordPathForm) (o : Option Assigned) → IsRecordTargetRead p target path → FoundRight p (held.Record (record { 0 = path.record_type })) right o → FoundStatement p (assignment target right) (assignment_of (Some (record_target path)) o)
record_whole_read p target right path (Some (a_whole forms)) t f = (t, f)
record_whole_read p target right path (Some (a_value form)) t f = absurd f
record_whole_read p target right path None t f = absurd f

assigned_there : (k : Known) (p : Context) (target : PathTree) (right : RightTree) (o : Option Target) → Readable k p → FoundTarget p target o → Quiet (right_remark k (held_by_target o) (target_borrows k.variables o) right) → FoundStatement p (assignment target right) (assignment_of o (right_found k (held_by_target o) right))
assigned_there k p target right None w t q = absurd t
assigned_there k p target right (Some (value_target path kind)) w t q =
    value_read p target right path kind (right_found k (Some kind) right) t (right_read k p kind (fits.names_borrower k.variables path) right w q)
assigned_there k p target right (Some (record_target path)) w t q =
    let kind = held.Record (record { 0 = path.record_type }) in
    record_whole_read p target right path (right_found k (Some kind) right) t (right_read k p kind false right w q)

assignment_read : (k : Known) (p : Context) (target : PathTree) (right : RightTree) → Readable k p → Quiet (assignment_remark k target right) → FoundStatement p (assignment target right) (assignment_found k target right)
unfolding assignment_remark assignment_found
assignment_read k p target right w q =
    assigned_there k p target right (target_found k target) w (found_target_read k p target w q.1.0) q.1.1

-- `Free (X);`
freed_read : (p : Context) (variables : List VariableForm) (procedure tree : PathTree) (access : TypeNo) (m : Meant) (spot : Spot) → procedure.selectors ≡ [] → IsInstanceNamed p procedure.root.text access.0 → IsMeant m → MeantRead p (path_expression tree) m → MayWrite p tree m → Quiet (freed_wanted variables access m spot) → FoundStatement p (call procedure (expression_argument (path_expression tree) ∷ [])) (freeing access m)
freed_read p variables procedure tree access (access_value path t) spot alone called f r target q = (alone, called, (r, target))
freed_read p variables procedure tree access unknown spot alone called f r target q = absurd f
freed_read p variables procedure tree access (lent_value u) spot alone called f r target q = absurd f
freed_read p variables procedure tree access m spot alone called f r target q = absurd q

-- `Run_Input.Get (X);`
got_read : (p : Context) (procedure tree : PathTree) (m : Meant) (spot : Spot) → IsGet procedure → IsMeant m → MeantRead p (path_expression tree) m → MayWrite p tree m → Quiet (got_wanted m spot) → FoundStatement p (call procedure (expression_argument (path_expression tree) ∷ [])) (getting m)
got_read p procedure tree (integer_value (reads path)) spot is f r target q = (is, (path_of_value p tree path r, target))
got_read p procedure tree unknown spot is f r target q = absurd f
got_read p procedure tree (lent_value u) spot is f r target q = absurd f
got_read p procedure tree m spot is f r target q = absurd q

-- a procedure that takes a variable is the one that is called
abbrev IsTaker : Context → PathTree → Callee → Type 0
IsTaker p procedure (callee.Free access) = (procedure.selectors ≡ []) × IsInstanceNamed p procedure.root.text access.0
IsTaker p procedure callee.Get = IsGet procedure

taken_read : (p : Context) (variables : List VariableForm) (procedure tree : PathTree) (taker : Callee) (m : Meant) (spot : Spot) → IsTaker p procedure taker → IsMeant m → MeantRead p (path_expression tree) m → MayWrite p tree m → Quiet (actual_wanted variables taker m spot) → FoundStatement p (call procedure (expression_argument (path_expression tree) ∷ [])) (taking taker m)
taken_read p variables procedure tree (callee.Free access) m spot is f r target q = freed_read p variables procedure tree access m spot is.0 is.1 f r target q
taken_read p variables procedure tree callee.Get m spot is f r target q = got_read p procedure tree m spot is f r target q

actual_read : (k : Known) (p : Context) (procedure : PathTree) (taker : Callee) (argument : ArgumentTree) → IsTaker p procedure taker → Readable k p → Quiet (actual_remark k taker argument) → FoundStatement p (call procedure (argument ∷ [])) (actual_found k taker argument)
unfolding expression_remark
actual_read k p procedure taker (expression_argument (path_expression tree)) is w q =
    let m = path_meant k tree in
    let r = path_read k p tree w q.0.1 in
    taken_read p k.variables procedure tree taker m tree.root.spot is (path_known k tree w.fits q.0.1) r (written_read k p tree m w q.1.0 r) q.1.1
actual_read k p procedure taker argument is w q = absurd q.0

taker_read : (k : Known) (p : Context) (procedure : PathTree) (taker : Callee) (called : Spot) (arguments : List ArgumentTree) → IsTaker p procedure taker → Readable k p → Quiet (taker_remark k taker called arguments) → FoundStatement p (call procedure arguments) (taker_found k taker arguments)
unfolding taker_remark taker_found
taker_read k p procedure taker called [] is w q = absurd q
taker_read k p procedure taker called (argument ∷ []) is w q = actual_read k p procedure taker argument is w q.0
taker_read k p procedure taker called (argument ∷ (other ∷ more)) is w q = absurd q.1.0

-- the one text of a statement, if it has one, is the next
abbrev pub IsNextText : Context → ℕ → List (List ℕ) → Type 0
IsNextText p n texts = (text : List ℕ) → texts ≡ text ∷ [] → (n ≡ p.place.texts) × (slice_get p.texts n ≡ Some text)

-- `Ada.Text_IO.Put_Line (..);`
image_named : (k : Known) (p : Context) (prefix attribute : Ident) (o : Option Entity) → ((e : Entity) → o ≡ Some e → EntityRead p prefix.text e) → Quiet (image_wanted o attribute.text prefix.spot) → IsImage prefix attribute
image_named k p prefix attribute (Some entity.Integer) t q = (t entity.Integer refl, text_same attribute.text (codes "IMAGE") (quiet_unless (bytes_eq attribute.text (codes "IMAGE")) prefix.spot NotInProfile q))
image_named k p prefix attribute (Some e) t q = absurd q
image_named k p prefix attribute None t q = absurd q

image_read : (k : Known) (p : Context) (prefix attribute : Ident) → Readable k p → Quiet (image_remark k prefix attribute) → IsImage prefix attribute
unfolding image_remark
image_read k p prefix attribute w q = image_named k p prefix attribute (visible k prefix.text) (visible_read k p w.agrees prefix.text) q.1

line_read : (k : Known) (p : Context) (n : ℕ) (procedure : PathTree) (argument : ArgumentTree) → Readable k p → IsPutLine procedure → IsNextText p n (text_in (argument ∷ [])) → Quiet (line_remark k argument) → FoundStatement p (call procedure (argument ∷ [])) (line_found k n argument)
unfolding image_value_remark
line_read k p n procedure (expression_argument e) w is here q = absurd q.0
line_read k p n procedure (text_argument spot text) w is here q = let next = here text refl in (is, next.0, next.1)
line_read k p n procedure (attribute_argument prefix attribute value) w is here q =
    (is, image_read k p prefix attribute w q.0, integer_read p value (expression_meant k value) (expression_spot value) (expression_known k value w.fits q.1.0) (expression_read k p value w q.1.0) q.1.1)

put_line_read : (k : Known) (p : Context) (n : ℕ) (procedure : PathTree) (called : Spot) (arguments : List ArgumentTree) → Readable k p → IsPutLine procedure → IsNextText p n (text_in arguments) → Quiet (put_line_remark k called arguments) → FoundStatement p (call procedure arguments) (put_line_found k n arguments)
unfolding put_line_remark put_line_found
put_line_read k p n procedure called [] w is here q = absurd q
put_line_read k p n procedure called (argument ∷ []) w is here q = line_read k p n procedure argument w is here q.0
put_line_read k p n procedure called (argument ∷ (other ∷ more)) w is here q = absurd q.1.0

-- a name of the library with which nothing is wrong is found
with_is : (a b : Bool) (n m : LibraryName) → cond a (if_with b n) None ≡ Some m → n ≡ m
with_is true true n m e = cc e
with_is true false n m e = absurd (cc e)
with_is false b n m e = absurd (cc e)

no_with : (b : Bool) (n : LibraryName) (spot : Spot) (rule : NameRule) → Quiet (wrong_if (not b) spot rule) → if_with b n ≡ None → ⊥
no_with true n spot rule q e = cc e
no_with false n spot rule q e = q

pub no_name : (withs : Withs) (n : LibraryName) (spot : Spot) → Quiet (library_wrong withs n spot) → if_with (is_with withs n) n ≡ None → ⊥
no_name withs TextIo spot q e = no_with withs.text_io TextIo spot UnknownName q e
no_name withs PutLine spot q e = no_with withs.text_io PutLine spot UnknownName q e
no_name withs UncheckedDeallocation spot q e = no_with withs.deallocation UncheckedDeallocation spot UnknownName q e
no_name withs Finalization spot q e = no_with withs.finalization Finalization spot UnknownName q e
no_name withs Controlled spot q e = no_with withs.finalization Controlled spot UnknownName q e
no_name withs LimitedControlled spot q e = no_with withs.finalization LimitedControlled spot UnknownName q e
no_name withs Pools spot q e = no_with withs.pools Pools spot UnknownName q e
no_name withs FirstFitPool spot q e = no_with withs.pools FirstFitPool spot UnknownName q e
no_name withs OfPools spot q e = q
no_name withs RunInput spot q e = no_with withs.run_input RunInput spot UnknownName q e
no_name withs Get spot q e = no_with withs.run_input Get spot UnknownName q e
no_name withs EndError spot q e = no_with withs.run_input EndError spot UnknownName q e
no_name withs OtherUnit spot q e = q
no_name withs Unknown spot q e = q

no_path : (k : Known) (procedure : PathTree) (b : Bool) → Quiet (cond b (library_remark k procedure.root (parts_of procedure.selectors)) (wrong procedure.root.spot NotInProfile)) → cond b (library_found k procedure.root (parts_of procedure.selectors)) None ≡ None → ⊥
no_path k procedure true q e = no_name k.withs (library_name procedure.root.text (parts_of procedure.selectors)) procedure.root.spot q e
no_path k procedure false q e = q

library_read : (k : Known) (p : Context) (n : ℕ) (procedure : PathTree) (arguments : List ArgumentTree) (o : Option LibraryName) → library_path_found k procedure ≡ o → Readable k p → IsNextText p n (text_in arguments) → Quiet (library_path_remark k procedure) → Quiet (library_call_remark o k procedure.root.spot arguments) → FoundStatement p (call procedure arguments) (library_call_found o k n arguments)
library_read k p n procedure arguments None is w here q r = absurd (no_path k procedure (is_name procedure.selectors) q is)
library_read k p n procedure arguments (Some PutLine) is w here q r =
    put_line_read k p n procedure procedure.root.spot arguments w
    (with_is (is_name procedure.selectors) (is_with k.withs (library_name procedure.root.text (parts_of procedure.selectors))) (library_name procedure.root.text (parts_of procedure.selectors)) PutLine is) here r
library_read k p n procedure arguments (Some Get) is w here q r =
    taker_read k p procedure callee.Get procedure.root.spot arguments
    (with_is (is_name procedure.selectors) (is_with k.withs (library_name procedure.root.text (parts_of procedure.selectors))) (library_name procedure.root.text (parts_of procedure.selectors)) Get is) w r
library_read k p n procedure arguments (Some other) is w here q r = absurd r

-- a record is named by a path
path_given : (p : Context) (e : ExpressionTree) (object : TypeNo) (path : RecordPathForm) (more : List ArgumentTree) (forms : List ActualForm) → Quiet (path_wanted (variable.Record object) e) → IsCopyRead p e path → AreActualsRead p more forms → AreActualsRead p (expression_argument e ∷ more) (in_record path ∷ forms)
path_given p (path_expression tree) object path more forms q r rest = (r, rest)
path_given p e object path more forms q r rest = absurd q

-- a record is wanted of the type of a formal parameter
abbrev IsRecordMeant : Meant → Type 0
IsRecordMeant (record_value path) = Unit {0}
IsRecordMeant m = ⊥

record_meant : (o : Option ℕ) (m : Meant) (spot : Spot) → IsMeant m → Quiet (reference_wanted o m spot) → IsRecordMeant m
record_meant None m spot f q = absurd q
record_meant (Some t) (record_value path) spot f q = tt
record_meant (Some t) unknown spot f q = absurd f
record_meant (Some t) m spot f q = absurd q

-- `P (..);`, where P is a procedure
value_given : (p : Context) (types : List TypeForm) (variables : List VariableForm) (e : ExpressionTree) (kind : VariableKind) (m : Meant) (spot : Spot) (more : List ArgumentTree) (forms : List ActualForm) → IsMeant m → MeantRead p e m → Quiet (kind_wanted types variables kind m spot) → Quiet (path_wanted kind e) → AreActualsRead p more forms → AreActualsRead p (expression_argument e ∷ more) (given_value m ∷ forms)
value_given p types variables e kind unknown spot more forms f r q n rest = absurd f
value_given p types variables e kind (lent_value t) spot more forms f r q n rest = absurd f
value_given p types variables e variable.Integer (integer_value form) spot more forms f r q n rest = (r, rest)
value_given p types variables e variable.Integer m spot more forms f r q n rest = absurd q
value_given p types variables e variable.Boolean (boolean_value form) spot more forms f r q n rest = (r, rest)
value_given p types variables e variable.Boolean m spot more forms f r q n rest = absurd q
value_given p types variables e (variable.Access t) null_value spot more forms f r q n rest = (r, rest)
value_given p types variables e (variable.Access t) (access_value path u) spot more forms f r q n rest = (r, rest)
value_given p types variables e (variable.Access t) m spot more forms f r q n rest = absurd q.0
value_given p types variables e (variable.Record t) (record_value path) spot more forms f r q n rest = path_given p e t path more forms n r rest
value_given p types variables e (variable.Record t) m spot more forms f r q n rest = absurd (record_meant (record_of_object types t.0) m spot f q)

-- a variable or a component, before other actual parameters that are read
scalar_placed : (p : Context) (tree : PathTree) (path : PathForm) (more : List ArgumentTree) (forms : List ActualForm) → IsTargetRead p tree path → AreActualsRead p more forms → AreActualsRead p (expression_argument (path_expression tree) ∷ more) (variable_or_component (in_out_path path) (in_out_component path) path.selectors ∷ forms)
scalar_placed p tree path more forms r rest = by_selectors path.selectors refl
  where
    by_selectors : (cs : List ℕ) → path.selectors ≡ cs → AreActualsRead p (expression_argument (path_expression tree) ∷ more) (variable_or_component (in_out_path path) (in_out_component path) cs ∷ forms)
    by_selectors [] alone = (variable_alone p tree path alone r, rest)
    by_selectors (c ∷ cs) within = (component_within p tree path c cs within r, rest)

access_placed : (p : Context) (tree : PathTree) (path : PathForm) (more : List ArgumentTree) (forms : List ActualForm) → IsTargetRead p tree path → AreActualsRead p more forms → AreActualsRead p (expression_argument (path_expression tree) ∷ more) (variable_or_component (in_out_access path) (in_out_component path) path.selectors ∷ forms)
access_placed p tree path more forms r rest = by_selectors path.selectors refl
  where
    by_selectors : (cs : List ℕ) → path.selectors ≡ cs → AreActualsRead p (expression_argument (path_expression tree) ∷ more) (variable_or_component (in_out_access path) (in_out_component path) cs ∷ forms)
    by_selectors [] alone = (variable_alone p tree path alone r, rest)
    by_selectors (c ∷ cs) within = (component_within p tree path c cs within r, rest)

-- an actual parameter, before others that are read
variable_given : (p : Context) (types : List TypeForm) (variables : List VariableForm) (tree : PathTree) (kind : VariableKind) (m : Meant) (spot : Spot) (more : List ArgumentTree) (forms : List ActualForm) → IsMeant m → MeantRead p (path_expression tree) m → MayWrite p tree m → Quiet (variable_wanted types variables kind m spot) → AreActualsRead p more forms → AreActualsRead p (expression_argument (path_expression tree) ∷ more) (given_variable m ∷ forms)
variable_given p types variables tree kind unknown spot more forms f r v q rest = absurd f
variable_given p types variables tree variable.Integer (integer_value (reads path)) spot more forms f r v q rest = scalar_placed p tree path more forms (path_of_value p tree path r, v) rest
variable_given p types variables tree variable.Boolean (boolean_value (reads path)) spot more forms f r v q rest = scalar_placed p tree path more forms (path_of_value p tree path r, v) rest
variable_given p types variables tree (variable.Access t) (access_value path u) spot more forms f r v q rest = access_placed p tree path more forms (r, v) rest
variable_given p types variables tree (variable.Record t) (record_value path) spot more forms f r v q rest = ((r, v.0, v.1), rest)
variable_given p types variables tree kind m spot more forms f r v q rest = absurd q

actual_given : (k : Known) (p : Context) (mode : FormalMode) (kind : VariableKind) (argument : ArgumentTree) (more : List ArgumentTree) (forms : List ActualForm) → Readable k p → Quiet (given_remark k mode kind argument) → AreActualsRead p more forms → AreActualsRead p (argument ∷ more) (given_meant k mode argument ∷ forms)
unfolding expression_remark
actual_given k p In kind (expression_argument e) more forms w q rest =
    value_given p k.types k.variables e kind (expression_meant k e) (expression_spot e) more forms (expression_known k e w.fits q.0) (expression_read k p e w q.0) q.1.0 q.1.1 rest
actual_given k p InOut kind (expression_argument (path_expression tree)) more forms w q rest =
    let m = path_meant k tree in
    let r = path_read k p tree w q.0.1 in
    variable_given p k.types k.variables tree kind m tree.root.spot more forms (path_known k tree w.fits q.0.1) r (written_read k p tree m w q.1.1 r) q.1.0 rest
actual_given k p mode kind argument more forms w q rest = absurd q.0

actuals_read : (k : Known) (p : Context) (called : Spot) (kinds : List VariableKind) (modes : List FormalMode) (arguments : List ArgumentTree) → Readable k p → Quiet (given_all_remark k called kinds modes arguments) → AreActualsRead p arguments (given_all k kinds modes arguments)
actuals_read k p called [] modes [] w q = tt
actuals_read k p called [] modes (argument ∷ more) w q = absurd q.0
actuals_read k p called (kind ∷ kinds) modes [] w q = absurd q
actuals_read k p called (kind ∷ kinds) modes (argument ∷ more) w q =
    actual_given k p (first_mode modes) kind argument more (given_all k kinds (other_modes modes) more) w q.0 (actuals_read k p called kinds (other_modes modes) more w q.1)

called_so : (p : Context) (procedure : PathTree) (arguments : List ArgumentTree) (n : ℕ) (actuals : List ActualForm) → procedure.selectors ≡ [] → IsProcedureNamed p procedure.root.text n → AreActualsRead p arguments actuals → IsCallRead p procedure arguments (calls n actuals)
called_so p procedure [] n actuals alone named_so given = (alone, named_so, given)
called_so p procedure (expression_argument (path_expression tree) ∷ []) n actuals alone named_so given = (alone, named_so, given)
called_so p procedure (text_argument spot text ∷ []) n actuals alone named_so given = (alone, named_so, given)
called_so p procedure (attribute_argument prefix attribute value ∷ []) n actuals alone named_so given = (alone, named_so, given)
called_so p procedure (expression_argument e ∷ []) n actuals alone named_so given = (alone, named_so, given)
called_so p procedure (expression_argument (path_expression tree) ∷ (other ∷ more)) n actuals alone named_so given = (alone, named_so, given)
called_so p procedure (text_argument spot text ∷ (other ∷ more)) n actuals alone named_so given = (alone, named_so, given)
called_so p procedure (attribute_argument prefix attribute value ∷ (other ∷ more)) n actuals alone named_so given = (alone, named_so, given)
called_so p procedure (expression_argument e ∷ (other ∷ more)) n actuals alone named_so given = (alone, named_so, given)

-- `P (..);`
own_read : (k : Known) (p : Context) (procedure : PathTree) (arguments : List ArgumentTree) (o : Option Entity) (alone : Bool) → ((e : Entity) → o ≡ Some e → EntityRead p procedure.root.text e) → (alone ≡ true → procedure.selectors ≡ []) → Readable k p → Quiet (own_call_remark o alone k procedure.root arguments) → FoundStatement p (call procedure arguments) (own_call_found o alone k arguments)
own_read k p procedure arguments None alone t s w q = absurd q
own_read k p procedure arguments (Some (entity.Instance access)) true t s w q =
    taker_read k p procedure (callee.Free access) procedure.root.spot arguments (s refl, t (entity.Instance access) refl) w q
own_read k p procedure arguments (Some (entity.Instance access)) false t s w q = absurd q
own_read k p procedure arguments (Some (entity.Callable n)) true t s w q =
    called_so p procedure arguments n.0 (given_all k (profile k n).kinds (profile k n).modes arguments) (s refl) (t (entity.Callable n) refl)
    (actuals_read k p procedure.root.spot (profile k n).kinds (profile k n).modes arguments w q)
own_read k p procedure arguments (Some (entity.Callable n)) false t s w q = absurd q
own_read k p procedure arguments (Some entity.Procedure) true t s w q = absurd q
own_read k p procedure arguments (Some entity.Procedure) false t s w q = absurd q
own_read k p procedure arguments (Some e) alone t s w q = absurd q

pub empty_is : {X : Type 0} (xs : List X) → is_empty xs ≡ true → xs ≡ []
empty_is [] e = refl
empty_is (x ∷ xs) e = let off : eqb (length (x ∷ xs)) 0 ≡ false = ne_eqb (length (x ∷ xs)) 0 (omega arith) in absurd (cc (off, e))

call_read : (k : Known) (p : Context) (n : ℕ) (procedure : PathTree) (arguments : List ArgumentTree) → Readable k p → IsNextText p n (text_in arguments) → Quiet (call_remark k procedure arguments) → FoundStatement p (call procedure arguments) (call_found k n procedure arguments)
call_read k p n procedure arguments w here q = by_root (is_library_root procedure.root.text) q.1
  where
    by_root : (b : Bool) → Quiet (cond b (library_path_remark k procedure also library_call_remark (library_path_found k procedure) k procedure.root.spot arguments) (own_call_remark (visible k procedure.root.text) (is_empty procedure.selectors) k procedure.root arguments)) → FoundStatement p (call procedure arguments) (cond b (library_call_found (library_path_found k procedure) k n arguments) (own_call_found (visible k procedure.root.text) (is_empty procedure.selectors) k arguments))
    by_root true q = library_read k p n procedure arguments (library_path_found k procedure) refl w here q.0 q.1
    by_root false q = own_read k p procedure arguments (visible k procedure.root.text) (is_empty procedure.selectors) (visible_read k p w.agrees procedure.root.text) (empty_is procedure.selectors) w q

-- a condition
pub condition_read : (k : Known) (p : Context) (e : ExpressionTree) → Readable k p → Quiet (condition_remark k e) → IsExpressionRead p e (condition_meant k e)
condition_read k p e w q =
    boolean_read p e (expression_meant k e) (expression_spot e) (expression_known k e w.fits q.0) (expression_read k p e w q.0) q.1

optional_read : (k : Known) (p : Context) (o : Option ExpressionTree) → Readable k p → Quiet (optional_condition_remark k o) → IsConditionRead p o (optional_condition_meant k o)
optional_read k p None w q = tt
optional_read k p (Some e) w q = condition_read k p e w q

-- an exception by its name
abbrev FoundException : Context → NameTree → Option Exception → Type 0
FoundException p name None = ⊥
FoundException p name (Some e) = IsExceptionNamed p name e

end_error_read : (p : Context) (withs : Withs) (name : NameTree) (n : LibraryName) (o : Option LibraryName) → library_name name.first.text name.rest ≡ n → if_with (is_with withs n) n ≡ o → Quiet (library_wrong withs n name.first.spot) → Quiet (end_error_wanted o name.first.spot) → FoundException p name (exception_of_library o)
end_error_read p withs name n None is found q r = absurd (no_name withs n name.first.spot q found)
end_error_read p withs name n (Some EndError) is found q r = is ∙ with_is true (is_with withs n) n EndError found
end_error_read p withs name n (Some other) is found q r = absurd r

exception_named : (p : Context) (name : NameTree) (e : Exception) → name.rest ≡ [] → EntityRead p name.first.text (entity.Exception e) → IsExceptionNamed p name e
exception_named p name exception.ConstraintError alone f = (alone, f)
exception_named p name exception.ProgramError alone f = (alone, f)
exception_named p name exception.StorageError alone f = (alone, f)
exception_named p name exception.EndError alone f = absurd f
exception_named p name (exception.Declared n) alone f = (alone, f)

exception_one : (p : Context) (name : NameTree) (e : Entity) (alone : Bool) → (alone ≡ true → name.rest ≡ []) → EntityRead p name.first.text e → Quiet (exception_wanted (Some e) alone name.first) → FoundException p name (exception_in (Some e) alone)
exception_one p name (entity.Exception e) true s f q = exception_named p name e (s refl) f
exception_one p name (entity.Exception e) false s f q = absurd q
exception_one p name e alone s f q = absurd q

exception_at : (p : Context) (name : NameTree) (o : Option Entity) (alone : Bool) → (alone ≡ true → name.rest ≡ []) → ((e : Entity) → o ≡ Some e → EntityRead p name.first.text e) → Quiet (exception_wanted o alone name.first) → FoundException p name (exception_in o alone)
exception_at p name (Some e) alone s f q = exception_one p name e alone s (f e refl) q
exception_at p name None alone s f q = absurd q

exception_read : (k : Known) (p : Context) (name : NameTree) → Readable k p → Quiet (exception_name_remark k name) → FoundException p name (exception_found k name)
unfolding exception_name_remark exception_found
exception_read k p name w q = by_root (is_library_root name.first.text) q
  where
    by_root : (b : Bool) → Quiet (cond b (library_remark k name.first name.rest also end_error_wanted (library_found k name.first name.rest) name.first.spot) (exception_wanted (visible k name.first.text) (is_empty name.rest) name.first)) → FoundException p name (cond b (exception_of_library (library_found k name.first name.rest)) (exception_in (visible k name.first.text) (is_empty name.rest)))
    by_root true q = end_error_read p k.withs name (library_name name.first.text name.rest) (library_found k name.first name.rest) refl refl q.0 q.1
    by_root false q = exception_at p name (visible k name.first.text) (is_empty name.rest) (empty_is name.rest) (visible_read k p w.agrees name.first.text) q

-- `raise E;`
raised_read : (p : Context) (spot : Spot) (name : NameTree) (o : Option Exception) → FoundException p name o → FoundStatement p (raise_statement spot name) (raising o)
raised_read p spot name None f = absurd f
raised_read p spot name (Some e) f = f

-- the choices of a handler
choice_named : (p : Context) (name : NameTree) (o : Option Exception) → FoundException p name o → IsChoiceRead p (named_choice name) (exception_or_others o)
choice_named p name None f = absurd f
choice_named p name (Some e) f = f

choice_read : (k : Known) (p : Context) (c : ChoiceTree) → Readable k p → Quiet (choice_remark k c) → IsChoiceRead p c (choice_meant k c)
choice_read k p (named_choice name) w q = choice_named p name (exception_found k name) (exception_read k p name w q)
choice_read k p (others_choice spot) w q = tt

pub choices_read : (k : Known) (p : Context) (cs : List ChoiceTree) → Readable k p → Quiet (choices_remark k cs) → AreChoicesRead p cs (choices_meant k cs)
choices_read k p [] w q = tt
choices_read k p (c ∷ cs) w q = (choice_read k p c w q.0, choices_read k p cs w q.1)

-- a bound of a range
pub bound_read : (k : Known) (p : Context) (e : ExpressionTree) → Readable k p → Quiet (bound_remark k e) → IsExpressionRead p e (bound_meant k e)
bound_read k p e w q =
    integer_read p e (expression_meant k e) (expression_spot e) (expression_known k e w.fits q.0) (expression_read k p e w q.0) q.1

-- where nothing is wrong with a statement, something is found, and it is what the tree says
statement_read : (k : Known) (p : Context) (inside : Bool) (s : StatementTree) → Readable k p → IsNextText p (length k.texts) (simple_texts s) → Quiet (statement_remark k inside s) → FoundStatement p s (statement_found k s)
statement_read k p inside (null_statement spot) w here q = tt
statement_read k p inside (assignment target right) w here q = assignment_read k p target right w q
statement_read k p inside (call procedure arguments) w here q = call_read k p (length k.texts) procedure arguments w here q
statement_read k p inside (exit_statement spot condition) w here q = (optional_read k p condition w q.1.1, refl)
statement_read k p inside (return_statement spot) w here q = refl
statement_read k p inside (raise_statement spot name) w here q = raised_read p spot name (exception_found k name) (exception_read k p name w q.1)
statement_read k p inside s w here q = absurd q

meant_read : (p : Context) (s : StatementTree) (o : Option StmtForm) → FoundStatement p s o → IsSimpleRead p s (form_or_null o)
meant_read p s None f = absurd f
meant_read p s (Some form) f = f

-- a statement with no others in it
pub simple_read : (k : Known) (p : Context) (inside : Bool) (s : StatementTree) → Readable k p → IsNextText p (length k.texts) (simple_texts s) → Quiet (statement_remark k inside s) → IsSimpleRead p s (statement_meant k s)
simple_read k p inside s w here q = meant_read p s (statement_found k s) (statement_read k p inside s w here q)
