-- How typed states change, and that what is evaluated has the type that is waited for.

use Rattle.ada_typed.specs.Holding.{Cells, Designates, HasKind, HaveKinds, IsPooled, PartsLie, cells_of}
use Rattle.std.proofs.Common.{◌≡◌, ℕ, zero, suc, ◌<◌, ◌≤◌, ◌==◌, ◌&&◌, if◌then◌else◌, Bool, true, false, List, [], ◌∷◌, ◌++◌, length, map, take, drop, reverse, Option, Some, None, Result, Ok, Err, arith, refl, sym, ap, ◌∙◌, subst}
use Rattle.std.specs.Prelude.{is_some}
use Rattle.std.proofs.lemmas.Bool.{eqb-true}
use Rattle.std.specs.List.{slice_get, slice_set}
use Rattle.ada_program.specs.declared.program.ComponentKind.{ComponentKind}
use Rattle.ada_program.specs.declared.program.ComponentKind.TheVariants as component
use Rattle.ada_program.specs.declared.program.ScalarType.{ScalarType}
use Rattle.ada_program.specs.declared.program.ScalarType.TheVariants.{Integer, Boolean}
use Rattle.ada_program.specs.declared.program.TypeDefinition.{TypeDefinition}
use Rattle.ada_program.specs.declared.program.TypeNo.{TypeNo}
use Rattle.ada_program.specs.declared.program.VariableKind.{VariableKind}
use Rattle.ada_program.specs.declared.program.VariableKind.TheVariants as variable
use Rattle.ada_program.specs.Form.{RecordPathForm, ExpressionForm, integer, boolean, reads, is_null, applied_to, chained, LinksForm, no_more_links, a_link, ItemForm, null_item, item_of_path, item_of_value, item_of_record, RightForm, nothing, value_of, allocates, allocates_default, computes}
use Rattle.ada_program.specs.ProgramForm.{TypeForm, VariableForm, ProgramForm, type_form}
use Rattle.ada_program.specs.Typed.{reached_of, count_of, words_of, width_of}
use Rattle.ada_program.specs.WellFormed.{is_access, reached_components, record_components, held_kind, component_kind, kind_among, kind_behind, access_of, has_record_at, has_parts_at, parts_named, object_named, object_components, selected_kind, selectors_kind, variable_kind, root_kind, path_kind, value_access, scalar_of, is_this, type_of, chain_type, unary_type, binary_type, begins_with, begins_with_record, is_record_path, component_item_fits, first_fits, item_fits, item_width, width_in, items_fit, is_filled, kind_takes}
use Rattle.ada_values.specs.declared.value.Value.TheVariants as scalar
use Rattle.ada_values.specs.declared.operator.BinaryOperator.{BinaryOperator}
use Rattle.ada_values.specs.declared.fault.OperatorFault.{OperatorFault}
use Rattle.ada_values.specs.declared.fault.OperatorFault.TheVariants.{Overflow, DivisionByZero, WrongType}
use Rattle.ada_meaning.specs.declared.state.Id.{Id}
use Rattle.ada_meaning.specs.declared.state.Place.{Place}
use Rattle.ada_meaning.specs.declared.state.Value.{Value}
use Rattle.ada_meaning.specs.declared.state.Value.TheVariants.{Null, Names, Scalar, Part}
use Rattle.ada_meaning.specs.declared.state.Stage.{Stage}
use Rattle.ada_meaning.specs.declared.state.Stage.TheVariants.{Building, Existing, Gone}
use Rattle.ada_meaning.specs.declared.state.Mode.{Mode}
use Rattle.ada_meaning.specs.declared.state.Mode.TheVariants.{Raising}
use Rattle.ada_program.specs.declared.program.Exception.{Exception}
use Rattle.ada_program.specs.declared.program.Exception.TheVariants.{ConstraintError, StorageError}
use Rattle.ada_parts.specs.declared.tasks.Direction.TheVariants.{PartsFirst}
use Rattle.ada_parts.specs.Task.{Task}
use Rattle.ada_meaning.specs.declared.event.Birth.{Birth}
use Rattle.ada_meaning.specs.declared.event.Halt.{Halt}
use Rattle.ada_meaning.specs.declared.event.Halt.TheVariants.{Finished, Unhandled, Escaped, Erroneous, Stuck, Memory}
use Rattle.ada_meaning.specs.declared.event.Birth.TheVariants.{Creation}
use Rattle.ada_meaning.specs.Frame.{Frame, Treatment, is_master}
use Rattle.ada_meaning.specs.Frame as frame
use Rattle.ada_meaning.specs.State.{Activation, Owned, record_object, Item, Master, Destination, height}
use Rattle.ada_meaning.specs.Heap.{Cell}
use Rattle.ada_meaning.specs.Step.{halts, moves, tells, asks, picks, at, owning, owned, all_tasks, treating, treated_on, shorter, computed, popped, jumping, raised, put, held, newest, operands, operands_of, with_operands, reading, component_next, follow_next, path_next, selected, named_next, holder_next, record_holder_next, place_in, before_last, last_of, expression_next, null_test_next, is_decided, link_next, links_next, outcome_next, item_next, items_next, answered, new_next, new_cell, initial_value, initial_values, initialized, right_next, record_cell, made}
use Rattle.ada_meaning.specs.Named.{Object, State, Next, named, look, seen, existing, changed, on_object, new_object, reads_boolean, reads_null, whole, inside}
use Rattle.ada_typed.proofs.Treating.{new_held, all_within, treating_fits, treating_deep}
use Rattle.ada_typed.proofs.Values.{OperandKind, of_kind, refers_to, RefersTo, IsOperand, is_record_kind, HasParts, AreFilled, IsActive, kind_of, root_same, filled_new, active_later, designated_more, newest_name, active_held, active_set, active_push, active_pop, active_newest, active_cleared, component_held, filled_at}
use Rattle.ada_typed.proofs.Records.{onto_record, active_front, record_there, Begins, begins, stands_itself}
use Rattle.ada_typed.proofs.Walking.{parts_lie_at}
use Rattle.ada_typed.proofs.Shown.{same_record, same_components}
use Rattle.ada_typed.proofs.Later.{fits_later}
use Rattle.ada_typed.proofs.Operators.{and_left, and_right, typed, unary_operand, binary_operand, chain_left, decided_same, GivesKind}
use Rattle.ada_typed.proofs.Control.{onto, Fits, depth, Ready, Jumps, TypedIn, running, on_jump, catches, split}

-- A run ends in a way that the language knows, and no exception leaves an Adjust or a Finalize.
abbrev pub EndsInside : Halt → Type 0
EndsInside Finished = Unit {0}
EndsInside (Unhandled e) = Unit {0}
EndsInside (Escaped e) = ⊥
EndsInside (Erroneous why) = Unit {0}
EndsInside Stuck = ⊥
EndsInside Memory = ⊥

-- What comes next is as this says, whatever is answered, or the run ends as that says.
abbrev pub ComesTo : (Halt → Type 0) → (State → Type 0) → Next → Type 0
ComesTo Ends After (halts halt) = Ends halt
ComesTo Ends After (moves e s) = After s
ComesTo Ends After (tells request e s) = After s
ComesTo Ends After (asks request answers) = (granted : Bool) → After (answers granted)
ComesTo Ends After (picks n taking) = (i : ℕ) → i < n → After (taking i)

-- The same, where no exception leaves an Adjust or a Finalize.
abbrev pub Comes : (State → Type 0) → Next → Type 0
Comes = ComesTo EndsInside

-- The running body is typed then.
abbrev pub Fine : ProgramForm → Next → Type 0
Fine own = Comes (TypedIn own)

-- Objects keep what lies in them.
cells_set : (xs : List Object) (i : ℕ) (x y : Object) → slice_get xs i ≡ Some x → y.cell ≡ x.cell → cells_of (slice_set xs i y) ≡ cells_of xs
cells_set [] i x y is same = refl
cells_set (z ∷ xs) zero x y is same = let alike : y.cell ≡ z.cell = cc in ap (λ (c : Cell Value). c ∷ cells_of xs) alike
cells_set (z ∷ xs) (suc i) x y is same = ap (λ (cs : Cells). z.cell ∷ cs) (cells_set xs i x y is same)

cells_changed : (change : Object → Object) (at_o : Option Object) (xs : List Object) (o : Id) → ((x : Object) → (change x).cell ≡ x.cell) → slice_get xs o.0 ≡ at_o → cells_of (changed change at_o xs o) ≡ cells_of xs
cells_changed change None xs o keeps is = refl
cells_changed change (Some x) xs o keeps is = cells_set xs o.0 x (change x) is (keeps x)

pub cells_on : (change : Object → Object) (xs : List Object) (v : Value) → ((x : Object) → (change x).cell ≡ x.cell) → cells_of (on_object change xs v) ≡ cells_of xs
cells_on change xs Null keeps = refl
cells_on change xs (Names o) keeps = cells_changed change (slice_get xs o.0) xs o keeps refl
cells_on change xs (Scalar v) keeps = refl
cells_on change xs (Part o place) keeps = refl

pub cells_more : (xs : List Object) (x : Object) → cells_of (xs ++ x ∷ []) ≡ cells_of xs ++ x.cell ∷ []
cells_more [] x = refl
cells_more (y ∷ xs) x = ap (λ (cs : Cells). y.cell ∷ cs) (cells_more xs x)

pub cell_at : (xs : List Object) (i : ℕ) (x : Object) → slice_get xs i ≡ Some x → slice_get (cells_of xs) i ≡ Some x.cell
cell_at [] i x is = absurd (cc)
cell_at (y ∷ xs) zero x is = cc
cell_at (y ∷ xs) (suc i) x is = cell_at xs i x is

length_cells : (xs : List Object) → length (cells_of xs) ≡ length xs
length_cells [] = refl
length_cells (x ∷ xs) = ap suc (length_cells xs)

-- Masters.
length_owning : (item : Item) (ms : List Master) → length (owning item ms) ≡ length ms
length_owning item [] = refl
length_owning item (m ∷ ms) = refl

pub length_shorter : (ms : List Master) → length (shorter ms) ≡ length ms
length_shorter [] = refl
length_shorter (m ∷ ms) = refl

-- Nothing is behind nothing.
selectors_none : (types : List TypeForm) (cs : List ℕ) → selectors_kind types None cs ≡ None
selectors_none types [] = refl
selectors_none types (c ∷ cs) = selectors_none types cs

-- The object of a name is of its access type.
pub own_access : (xs : List Object) (o : Id) (access : ℕ) (object : Object) → Designates (cells_of xs) access o → slice_get xs o.0 ≡ Some object → object.cell.access ≡ access
own_access xs o access object has is =
    let twice : Some has.0 ≡ Some object.cell = sym has.1 ∙ cell_at xs o.0 object is in
    let one : has.0 ≡ object.cell = cc in
    ap (λ (x : Cell Value). x.access) (sym one) ∙ has.2

-- What components hold at first has their kinds.
initial_kind : (types : List TypeForm) (cells : Cells) (kind : ComponentKind) → HasKind types cells (held_kind kind) (initial_value named kind)
initial_kind types cells (component.Integer initial) = tt
initial_kind types cells (component.Boolean initial) = tt
initial_kind types cells (component.Access access) = tt

have_initials : (types : List TypeForm) (cells : Cells) (cs : List ComponentKind) → HaveKinds types cells cs (map (initial_value named) cs)
have_initials types cells [] = tt
have_initials types cells (c ∷ cs) = (initial_kind types cells c, have_initials types cells cs)

pub initials_have : (types : List TypeForm) (cells : Cells) (o : Option (List ComponentKind)) (cs : List ComponentKind) → o ≡ Some cs → HaveKinds types cells cs (initial_values named o)
initials_have types cells o cs is = subst (λ (found : Option (List ComponentKind)). HaveKinds types cells cs (initial_values named found)) (sym is) (have_initials types cells cs)

-- The components that the types of a program have are those that are shown of them.
pub reached_shown : {shown : List TypeForm} (types : List TypeDefinition) (t : ℕ) (cs : List ComponentKind) → map type_form types ≡ shown → reached_components shown t ≡ Some cs → reached_of types t ≡ Some cs
reached_shown types t cs same reached = sym (same_components types t) ∙ ap (λ (ts : List TypeForm). reached_components ts t) same ∙ reached

-- So an object of a type takes as many words as it has components, and a record type has as many.
pub words_shown : {shown : List TypeForm} (types : List TypeDefinition) (t : ℕ) (cs : List ComponentKind) → map type_form types ≡ shown → reached_components shown t ≡ Some cs → words_of types t ≡ length cs
words_shown types t cs same reached = ap count_of (reached_shown types t cs same reached)

pub width_shown : {shown : List TypeForm} (types : List TypeDefinition) (t : ℕ) (rs : List ComponentKind) → map type_form types ≡ shown → record_components shown t ≡ Some rs → width_of types t ≡ length rs
width_shown types t rs same recorded =
    ap count_of (sym (same_record types t) ∙ ap (λ (ts : List TypeForm). record_components ts t) same ∙ recorded)

-- There is something.
pub there_is : {X : Type 0} (o : Option X) → is_some o ≡ true → (x : X) × (o ≡ Some x)
there_is None h = absurd (cc)
there_is (Some x) h = (x, refl)

-- Where a path leads somewhere, something is held where it begins.
mid_kind : (types : List TypeForm) (o : Option VariableKind) (cs : List ℕ) (to : VariableKind) → selectors_kind types o cs ≡ Some to → (mid : VariableKind) × (o ≡ Some mid)
mid_kind types None cs to leads = let never : None ≡ Some to = sym (selectors_none types cs) ∙ leads in absurd (cc)
mid_kind types (Some mid) cs to leads = (mid, refl)

-- Before the last component of a path something is held.
split_kind : (types : List TypeForm) (from : Option VariableKind) (c : ℕ) (cs : List ℕ) (to : VariableKind) → selectors_kind types from (c ∷ cs) ≡ Some to → (mid : VariableKind) × (selectors_kind types from (before_last c cs) ≡ Some mid) × (selected_kind types (Some mid) (last_of c cs) ≡ Some to)
split_kind types None c [] to h = absurd (cc)
split_kind types (Some kind) c [] to h = (kind, refl, h)
split_kind types from c (d ∷ cs) to h = split_kind types (selected_kind types from c) d cs to h

-- No component is a record.
plain_component : (o : Option ComponentKind) (kind : VariableKind) → component_kind o ≡ Some kind → is_record_kind kind ≡ false
plain_component None kind is = absurd (cc)
plain_component (Some (component.Integer initial)) kind is = let same : variable.Integer ≡ kind = cc in ap is_record_kind (sym same)
plain_component (Some (component.Boolean initial)) kind is = let same : variable.Boolean ≡ kind = cc in ap is_record_kind (sym same)
plain_component (Some (component.Access access)) kind is = let same : variable.Access access ≡ kind = cc in ap is_record_kind (sym same)

plain_among : (o : Option (List ComponentKind)) (c : ℕ) (kind : VariableKind) → kind_among o c ≡ Some kind → is_record_kind kind ≡ false
plain_among None c kind is = absurd (cc)
plain_among (Some components) c kind is = plain_component (slice_get components c) kind is

plain_behind : (types : List TypeForm) (o : Option ℕ) (c : ℕ) (kind : VariableKind) → kind_behind types o c ≡ Some kind → is_record_kind kind ≡ false
plain_behind types None c kind is = absurd (cc)
plain_behind types (Some access) c kind is = plain_among (reached_components types access) c kind is

-- So what is selected behind what is no record is none.
pub plain_path : (types : List TypeForm) (from : VariableKind) (cs : List ℕ) (to : VariableKind) → is_record_kind from ≡ false → selectors_kind types (Some from) cs ≡ Some to → is_record_kind to ≡ false
plain_path types from [] to plain is = let same : from ≡ to = cc in ap is_record_kind (sym same) ∙ plain
plain_path types from (c ∷ cs) to plain is =
    let mid = mid_kind types (selected_kind types (Some from) c) cs to is in
    plain_path types mid.0 cs to (plain_behind types (access_of (Some from)) c mid.0 mid.1) (ap (λ (kind : Option VariableKind). selectors_kind types kind cs) (sym mid.1) ∙ is)

access_selected : (types : List TypeForm) (kind : VariableKind) (c : ℕ) (to : VariableKind) → is_record_kind kind ≡ false → selected_kind types (Some kind) c ≡ Some to → (access : TypeNo) × (kind ≡ variable.Access access)
access_selected types variable.Integer c to plain is = absurd (cc)
access_selected types variable.Boolean c to plain is = absurd (cc)
access_selected types (variable.Access access) c to plain is = (access, refl)
access_selected types (variable.Record object) c to plain is = absurd (cc)

record_access : (types : List TypeForm) (kind : VariableKind) (first : ℕ) (rs : Option (List ComponentKind)) → is_record_kind kind ≡ false → has_record_at (object_components types (access_of (Some kind))) first rs ≡ true → (access : TypeNo) × (kind ≡ variable.Access access) × (has_record_at (reached_components types access.0) first rs ≡ true)
record_access types variable.Integer first rs plain is = absurd (cc)
record_access types variable.Boolean first rs plain is = absurd (cc)
record_access types (variable.Access access) first rs plain is = (access, refl, is)
record_access types (variable.Record object) first rs plain is = absurd (cc)

-- The path of a record leads somewhere.
record_leads : (types : List TypeForm) (kind : Option VariableKind) (first : ℕ) (rs : Option (List ComponentKind)) → has_record_at (object_components types (access_of kind)) first rs ≡ true → (to : VariableKind) × (kind ≡ Some to) × (has_record_at (object_components types (access_of (Some to))) first rs ≡ true)
record_leads types None first rs is = absurd (cc)
record_leads types (Some to) first rs is = (to, refl, is)

-- What is held where a value of a scalar type or of an access type is wanted.
pub scalar_kind : (kind : Option VariableKind) (t : ScalarType) → scalar_of kind ≡ Some t → kind ≡ Some (kind_of t)
scalar_kind None t is = absurd (cc)
scalar_kind (Some variable.Integer) t is = let one : Integer ≡ t = cc in ap (λ (q : ScalarType). Some (kind_of q)) one
scalar_kind (Some variable.Boolean) t is = let one : Boolean ≡ t = cc in ap (λ (q : ScalarType). Some (kind_of q)) one
scalar_kind (Some (variable.Access access)) t is = absurd (cc)
scalar_kind (Some (variable.Record object)) t is = absurd (cc)

pub access_kind : (kind : Option VariableKind) (access : TypeNo) → is_this access.0 (value_access kind) ≡ true → kind ≡ Some (variable.Access access)
access_kind None access is = absurd (cc)
access_kind (Some variable.Integer) access is = absurd (cc)
access_kind (Some variable.Boolean) access is = absurd (cc)
access_kind (Some (variable.Access other)) access is = ap (λ (i : ℕ). Some (variable.Access (record { 0 = i }))) (eqb-true other.0 access.0 is)
access_kind (Some (variable.Record object)) access is = absurd (cc)

plain_scalar : (t : ScalarType) → is_record_kind (kind_of t) ≡ false
plain_scalar Integer = refl
plain_scalar Boolean = refl

module _ (p : ProgramForm) where
  -- How states change.
  pub ready_kinds : (ks ls : List OperandKind) (s : State) → ks ≡ ls → Ready p ks s → Ready p ls s
  ready_kinds ks ls s same ready = subst (λ (xs : List OperandKind). Ready p xs s) same ready

  pub ready_at : (kinds : List OperandKind) (s : State) (k : List (Frame Value)) → Ready p kinds s → depth k ≤ length s.masters → Ready p kinds (at k s)
  ready_at kinds s k ready deep = record { filled = ready.filled; active = ready.active; runs = ready.runs; deep = deep }

  pub ready_push : (kinds : List OperandKind) (s : State) (kind : VariableKind) (v : Value) → Ready p kinds s → HasKind p.types (cells_of s.heap) kind v → Ready p (of_kind kind ∷ kinds) (computed v s)
  ready_push kinds s kind v ready has = record {
    filled = ready.filled;
    active = active_push p.types (cells_of s.heap) p.variables kinds s.activations (of_kind kind) v ready.active has;
    runs = ready.runs;
    deep = ready.deep;
  }

  pub ready_refer : (kinds : List OperandKind) (s : State) (kind : VariableKind) (v : Value) → Ready p kinds s → RefersTo p.types (cells_of s.heap) kind v → Ready p (refers_to kind ∷ kinds) (computed v s)
  ready_refer kinds s kind v ready has = record {
    filled = ready.filled;
    active = active_push p.types (cells_of s.heap) p.variables kinds s.activations (refers_to kind) v ready.active has;
    runs = ready.runs;
    deep = ready.deep;
  }

  pub ready_operand : (kinds : List OperandKind) (s : State) (kind : OperandKind) (v : Value) → Ready p kinds s → IsOperand p.types (cells_of s.heap) kind v → Ready p (kind ∷ kinds) (computed v s)
  ready_operand kinds s kind v ready is = record {
    filled = ready.filled;
    active = active_push p.types (cells_of s.heap) p.variables kinds s.activations kind v ready.active is;
    runs = ready.runs;
    deep = ready.deep;
  }

  pub ready_older : (kind : OperandKind) (kinds : List OperandKind) (s : State) → Ready p (kind ∷ kinds) s → Ready p kinds (popped s)
  ready_older kind kinds s ready = record {
    filled = ready.filled;
    active = active_pop p.types (cells_of s.heap) p.variables kind kinds s.activations ready.active;
    runs = ready.runs;
    deep = ready.deep;
  }

  pub newest_operand : (kind : OperandKind) (kinds : List OperandKind) (s : State) → Ready p (kind ∷ kinds) s → IsOperand p.types (cells_of s.heap) kind (newest named s)
  newest_operand kind kinds s ready = active_newest p.types (cells_of s.heap) p.variables kind kinds s.activations ready.active

  pub ready_pop : (kind : VariableKind) (kinds : List OperandKind) (s : State) → Ready p (of_kind kind ∷ kinds) s → Ready p kinds (popped s)
  ready_pop kind kinds s ready = record {
    filled = ready.filled;
    active = active_pop p.types (cells_of s.heap) p.variables (of_kind kind) kinds s.activations ready.active;
    runs = ready.runs;
    deep = ready.deep;
  }

  pub newest_of : (kind : VariableKind) (kinds : List OperandKind) (s : State) → Ready p (of_kind kind ∷ kinds) s → HasKind p.types (cells_of s.heap) kind (newest named s)
  newest_of kind kinds s ready = active_newest p.types (cells_of s.heap) p.variables (of_kind kind) kinds s.activations ready.active

  pub held_of : (kinds : List OperandKind) (s : State) (x : ℕ) (kind : VariableKind) → Ready p kinds s → variable_kind p.variables x ≡ Some kind → HasKind p.types (cells_of s.heap) kind (held named s x)
  held_of kinds s x kind ready is = active_held p.types (cells_of s.heap) p.variables kinds s.activations x kind ready.active is

  pub put_in : (kinds : List OperandKind) (s : State) (x : ℕ) (kind : VariableKind) (v : Value) → Ready p kinds s → variable_kind p.variables x ≡ Some kind → HasKind p.types (cells_of s.heap) kind v → Ready p kinds (put x v s)
  put_in kinds s x kind v ready is has = record {
    filled = ready.filled;
    active = active_set p.types (cells_of s.heap) p.variables kinds s.activations x kind v ready.active is has;
    runs = ready.runs;
    deep = ready.deep;
  }

  pub ready_owning : (kinds : List OperandKind) (s : State) (what : Owned) → Ready p kinds s → Ready p kinds (owned what s)
  ready_owning kinds s what ready = record {
    filled = ready.filled;
    active = ready.active;
    runs = ready.runs;
    deep = omega (arith, ready.deep, length_owning (record { number = height s.masters; owned = what }) s.masters);
  }

  -- The heap changes, and what lies in objects does not.
  pub ready_heap : (kinds : List OperandKind) (s : State) (heap : List Object) → cells_of heap ≡ cells_of s.heap → Ready p kinds s → Ready p kinds (record s { heap = heap })
  ready_heap kinds s heap same ready = record {
    filled = subst (λ (cs : Cells). AreFilled p.types cs cs) (sym same) ready.filled;
    active = subst (λ (cs : Cells). IsActive p.types cs p.variables kinds s.activations) (sym same) ready.active;
    runs = ready.runs;
    deep = ready.deep;
  }

  pub fits_heap : (kinds : List OperandKind) (s : State) (k : List (Frame Value)) (heap : List Object) → cells_of heap ≡ cells_of s.heap → Fits p (cells_of s.heap) kinds k → Fits p (cells_of heap) kinds k
  fits_heap kinds s k heap same fits = subst (λ (cs : Cells). Fits p cs kinds k) (sym same) fits

  -- One object more, in which values lie that its type says; it is named by the next number.
  ready_more : (kinds : List OperandKind) (s : State) (cell : Cell Value) (cs : List ComponentKind) → Ready p kinds s → reached_components p.types cell.access ≡ Some cs → HaveKinds p.types (cells_of s.heap) cs cell.values → IsPooled p.types cell → HasParts p.types cell → Ready p kinds (record s { heap = s.heap ++ new_object cell ∷ [] })
  ready_more kinds s cell cs ready reached have pooled parts =
      let cells = cells_of s.heap in
      let same : cells_of (s.heap ++ new_object cell ∷ []) ≡ cells ++ cell ∷ [] = cells_more s.heap (new_object cell) in
      record {
        filled = subst (λ (xs : Cells). AreFilled p.types xs xs) (sym same) (filled_new p.types cells cell cs ready.filled reached have pooled parts);
        active = subst (λ (xs : Cells). IsActive p.types xs p.variables kinds s.activations) (sym same) (active_later p.types cells (cells ++ cell ∷ []) (designated_more cells cell) p.variables kinds s.activations ready.active);
        runs = ready.runs;
        deep = ready.deep;
      }

  pub fits_more : (kinds : List OperandKind) (k : List (Frame Value)) (xs : List Object) (cell : Cell Value) → Fits p (cells_of xs) kinds k → Fits p (cells_of (xs ++ new_object cell ∷ [])) kinds k
  fits_more kinds k xs cell fits =
      subst (λ (cells : Cells). Fits p cells kinds k) (sym (cells_more xs (new_object cell)))
      (fits_later p (cells_of xs) (cells_of xs ++ cell ∷ []) (designated_more (cells_of xs) cell) k kinds fits)

  pub named_newest : (xs : List Object) (cell : Cell Value) → slice_get (cells_of (xs ++ new_object cell ∷ [])) (length xs) ≡ Some cell
  named_newest xs cell =
      ap (λ (cells : Cells). slice_get cells (length xs)) (cells_more xs (new_object cell)) ∙ ap (slice_get (cells_of xs ++ cell ∷ [])) (sym (length_cells xs)) ∙
      newest_name (cells_of xs) cell

  -- An object is treated first.
  pub ready_treated : (kinds : List OperandKind) (s : State) (v : Value) (treatment : Treatment) (tasks : List Task) → Ready p kinds s → Ready p kinds (treated_on named v treatment tasks s)
  ready_treated kinds s v treatment tasks ready =
      let same = treating_deep v treatment tasks s.control in
      ready_at kinds s (treating v treatment tasks s.control) ready (omega (arith, ready.deep, same))

  -- A record object is declared (3.3.1): its components hold these values, and its variable holds its name.
  pub ready_made : (types : List TypeDefinition) → map type_form types ≡ p.types → (x t : ℕ) (by : Birth) (object : TypeNo) (cs : List ComponentKind) (values : List Value) (kinds : List OperandKind) (s : State) → HaveKinds p.types (cells_of s.heap) cs values → Ready p kinds s → variable_kind p.variables x ≡ Some (variable.Record object) → t ≡ object.0 → reached_components p.types t ≡ Some cs → is_access p.types t ≡ false → Ready p kinds (made named types x t by values s)
  ready_made types shown x t by object cs values kinds s have ready is own reached never =
      let cell = record_cell named types t (height s.masters) values in
      let more = ready_more kinds s cell cs ready reached have (λ access. absurd (cc)) (new_held types p.types t shown) in
      let holding = record s { heap = s.heap ++ new_object cell ∷ [] } in
      let name = Names (record { 0 = length s.heap }) in
      ready_treated kinds (owned (record_object t) (put x name holding)) name (frame.begins by []) (all_tasks types t PartsFirst)
      (ready_owning kinds (put x name holding) (record_object t) (put_in kinds holding x (variable.Record object) name more is (cell, named_newest s.heap cell, own)))

  -- A jump begins: operands are dropped.
  pub jumped : (kinds : List OperandKind) (mode : Mode) (s : State) → Ready p kinds s → Jumps p mode (jumping mode s)
  jumped kinds mode s ready = record {
    filled = ready.filled;
    active = active_cleared p.types (cells_of s.heap) p.variables kinds s.activations ready.active;
    jumps = refl;
    deep = ready.deep;
  }

  pub raises : (kinds ks : List OperandKind) (e : Exception) (s : State) → Ready p kinds s → Fits p (cells_of s.heap) ks s.control → TypedIn p (raised e s)
  raises kinds ks e s ready fits = on_jump (Raising e) (jumped kinds (Raising e) s ready) (catches p (cells_of s.heap) s.control ks fits)

  -- Paths.
  reading_fine : (cs : List ℕ) (v : Value) (kind to : VariableKind) (s : State) (kinds : List OperandKind) → Ready p kinds s → HasKind p.types (cells_of s.heap) kind v → is_record_kind kind ≡ false → selectors_kind p.types (Some kind) cs ≡ Some to → Fits p (cells_of s.heap) (of_kind to ∷ kinds) s.control → TypedIn p (reading named cs v s)
  reading_fine [] v kind to s kinds ready has plain is fits =
      let same : to ≡ kind = cc in
      running (of_kind kind ∷ kinds) (ready_push kinds s kind v ready has) (subst (λ (q : VariableKind). Fits p (cells_of s.heap) (of_kind q ∷ kinds) s.control) same fits)
  reading_fine (c ∷ cs) v kind to s kinds ready has plain is fits =
      running (of_kind kind ∷ kinds) (ready_at (of_kind kind ∷ kinds) (computed v s) (frame.Follows (c ∷ cs) ∷ s.control) (ready_push kinds s kind v ready has) ready.deep) (kinds, kind, to, refl, is, plain, fits)

  value_fine : (o : Value) (cs : List ℕ) (c : ℕ) (components : List ComponentKind) (values : List Value) (kind : Option VariableKind) (to : VariableKind) (s : State) (kinds : List OperandKind) → Ready p kinds s → HaveKinds p.types (cells_of s.heap) components values → component_kind (slice_get components c) ≡ kind → selectors_kind p.types kind cs ≡ Some to → Fits p (cells_of s.heap) (of_kind to ∷ kinds) s.control → Fine p (component_next named o cs (slice_get values c) s)
  value_fine o cs c components values None to s kinds ready have is leads fits = let never : None ≡ Some to = sym (selectors_none p.types cs) ∙ leads in absurd (cc)
  value_fine o cs c components values (Some kind) to s kinds ready have is leads fits =
      let u = component_held p.types (cells_of s.heap) components values c kind have is in
      subst (λ (f : Option Value). Fine p (component_next named o cs f s)) (sym u.1) (reading_fine cs u.0 kind to s kinds ready u.2 (plain_component (slice_get components c) kind is) leads fits)

  found_fine : (o : Id) (c : ℕ) (cs : List ℕ) (access : TypeNo) (to : VariableKind) (object : Object) (s : State) (kinds : List OperandKind) → Ready p kinds s → Designates (cells_of s.heap) access.0 o → slice_get s.heap o.0 ≡ Some object → selectors_kind p.types (selected_kind p.types (Some (variable.Access access)) c) cs ≡ Some to → Fits p (cells_of s.heap) (of_kind to ∷ kinds) s.control → Fine p (component_next named (Names o) cs (slice_get object.cell.values c) s)
  found_fine o c cs access to object s kinds ready has is leads fits =
      let there : slice_get (cells_of s.heap) o.0 ≡ Some object.cell = cell_at s.heap o.0 object is in
      let own : object.cell.access ≡ access.0 = own_access s.heap o access.0 object has is in
      let filled = filled_at p.types (cells_of s.heap) (cells_of s.heap) o.0 object.cell ready.filled there in
      let reached : reached_components p.types access.0 ≡ Some filled.0 = ap (reached_components p.types) (sym own) ∙ filled.1 in
      let behind : selectors_kind p.types (component_kind (slice_get filled.0 c)) cs ≡ Some to = sym (ap (λ (found : Option (List ComponentKind)). selectors_kind p.types (kind_among found c) cs) reached) ∙ leads in
      value_fine (Names o) cs c filled.0 object.cell.values (component_kind (slice_get filled.0 c)) to s kinds ready filled.2 refl behind fits

  stage_fine : (stage : Stage) (o : Id) (c : ℕ) (cs : List ℕ) (access : TypeNo) (to : VariableKind) (object : Object) (s : State) (kinds : List OperandKind) → Ready p kinds s → Designates (cells_of s.heap) access.0 o → slice_get s.heap o.0 ≡ Some object → selectors_kind p.types (selected_kind p.types (Some (variable.Access access)) c) cs ≡ Some to → Fits p (cells_of s.heap) (of_kind to ∷ kinds) s.control → Fine p (follow_next named (Names o) c cs (existing object stage) s)
  stage_fine Gone o c cs access to object s kinds ready has is leads fits = tt
  stage_fine Building o c cs access to object s kinds ready has is leads fits = found_fine o c cs access to object s kinds ready has is leads fits
  stage_fine Existing o c cs access to object s kinds ready has is leads fits = found_fine o c cs access to object s kinds ready has is leads fits

  seen_fine : (at_o : Option Object) (o : Id) (c : ℕ) (cs : List ℕ) (access : TypeNo) (to : VariableKind) (s : State) (kinds : List OperandKind) → Ready p kinds s → Designates (cells_of s.heap) access.0 o → slice_get s.heap o.0 ≡ at_o → selectors_kind p.types (selected_kind p.types (Some (variable.Access access)) c) cs ≡ Some to → Fits p (cells_of s.heap) (of_kind to ∷ kinds) s.control → Fine p (follow_next named (Names o) c cs (seen at_o) s)
  seen_fine None o c cs access to s kinds ready has is leads fits = tt
  seen_fine (Some object) o c cs access to s kinds ready has is leads fits = stage_fine object.stage o c cs access to object s kinds ready has is leads fits

  access_fine : (v : Value) (c : ℕ) (cs : List ℕ) (access : TypeNo) (to : VariableKind) (s : State) (kinds : List OperandKind) → Ready p kinds s → HasKind p.types (cells_of s.heap) (variable.Access access) v → selectors_kind p.types (selected_kind p.types (Some (variable.Access access)) c) cs ≡ Some to → Fits p (cells_of s.heap) (of_kind to ∷ kinds) s.control → Fine p (follow_next named v c cs (look s.heap v) s)
  access_fine Null c cs access to s kinds ready has leads fits = raises kinds (of_kind to ∷ kinds) ConstraintError s ready fits
  access_fine (Names o) c cs access to s kinds ready has leads fits = seen_fine (slice_get s.heap o.0) o c cs access to s kinds ready has refl leads fits
  access_fine (Scalar v) c cs access to s kinds ready has leads fits = absurd has
  access_fine (Part o place) c cs access to s kinds ready has leads fits = absurd has

  follow_fine : (from : VariableKind) (v : Value) (c : ℕ) (cs : List ℕ) (to : VariableKind) (s : State) (kinds : List OperandKind) → Ready p kinds s → HasKind p.types (cells_of s.heap) from v → is_record_kind from ≡ false → selectors_kind p.types (selected_kind p.types (Some from) c) cs ≡ Some to → Fits p (cells_of s.heap) (of_kind to ∷ kinds) s.control → Fine p (follow_next named v c cs (look s.heap v) s)
  follow_fine variable.Integer v c cs to s kinds ready has plain leads fits = let never : None ≡ Some to = sym (selectors_none p.types cs) ∙ leads in absurd (cc)
  follow_fine variable.Boolean v c cs to s kinds ready has plain leads fits = let never : None ≡ Some to = sym (selectors_none p.types cs) ∙ leads in absurd (cc)
  follow_fine (variable.Access access) v c cs to s kinds ready has plain leads fits = access_fine v c cs access to s kinds ready has leads fits
  follow_fine (variable.Record object) v c cs to s kinds ready has plain leads fits = absurd (cc)

  pub path_fine : (cs : List ℕ) (v : Value) (from to : VariableKind) (s : State) (kinds : List OperandKind) → Ready p kinds s → HasKind p.types (cells_of s.heap) from v → is_record_kind from ≡ false → selectors_kind p.types (Some from) cs ≡ Some to → Fits p (cells_of s.heap) (of_kind to ∷ kinds) s.control → Fine p (path_next named cs v s)
  path_fine [] v from to s kinds ready has plain leads fits = reading_fine [] v from to s kinds ready has plain leads fits
  path_fine (c ∷ cs) v from to s kinds ready has plain leads fits = follow_fine from v c cs to s kinds ready has plain leads fits

  -- What is followed from where a path begins, and behind what is selected there.
  begun_selects : (from to : VariableKind) (v : Value) (cells : Cells) (c : ℕ) (cs : List ℕ) (b : Begins p.types cells from v) → selectors_kind p.types (Some from) (c ∷ cs) ≡ Some to → selectors_kind p.types (Some b.root) (inside v c ∷ cs) ≡ Some to
  begun_selects from to v cells c cs b is =
      let mid = mid_kind p.types (selected_kind p.types (Some from) c) cs to is in
      ap (λ (kind : Option VariableKind). selectors_kind p.types kind cs) (b.selects c mid.0 mid.1) ∙
      sym (ap (λ (kind : Option VariableKind). selectors_kind p.types kind cs) mid.1) ∙ is

  from_fine : (cs : List ℕ) (v : Value) (from to : VariableKind) (s : State) (kinds : List OperandKind) → Ready p kinds s → HasKind p.types (cells_of s.heap) from v → is_record_kind to ≡ false → selectors_kind p.types (Some from) cs ≡ Some to → Fits p (cells_of s.heap) (of_kind to ∷ kinds) s.control → Fine p (path_next named (selected named v cs) (whole v) s)
  from_fine [] v from to s kinds ready has plain leads fits =
      let same : from ≡ to = cc in
      let own : HasKind p.types (cells_of s.heap) to v = subst (λ (kind : VariableKind). HasKind p.types (cells_of s.heap) kind v) same has in
      subst (λ (u : Value). Fine p (path_next named [] u s)) (sym (stands_itself p.types (cells_of s.heap) to v plain own)) (path_fine [] v to to s kinds ready own plain refl fits)
  from_fine (c ∷ cs) v from to s kinds ready has plain leads fits =
      let b = begins p.types (cells_of s.heap) from v has in
      path_fine (inside v c ∷ cs) (whole v) b.root to s kinds ready b.has b.plain (begun_selects from to v (cells_of s.heap) c cs b leads) fits

  -- There is a variable where a path begins that leads somewhere, and it holds a value of its kind.
  root_held : (of_record : Bool) (cs : List ℕ) (x : ℕ) (to : VariableKind) (s : State) (kinds : List OperandKind) → Ready p kinds s → selectors_kind p.types (root_kind of_record (variable_kind p.variables x)) cs ≡ Some to → (from : VariableKind) × HasKind p.types (cells_of s.heap) from (held named s x) × (selectors_kind p.types (Some from) cs ≡ Some to)
  root_held of_record cs x to s kinds ready leads =
      let mid = mid_kind p.types (root_kind of_record (variable_kind p.variables x)) cs to leads in
      (mid.0, held_of kinds s x mid.0 ready (root_same of_record (variable_kind p.variables x) mid.0 mid.1), ap (λ (kind : Option VariableKind). selectors_kind p.types kind cs) (sym mid.1) ∙ leads)

  -- The value that a path names, where it is no record.
  pub root_fine : (of_record : Bool) (cs : List ℕ) (x : ℕ) (to : VariableKind) (s : State) (kinds : List OperandKind) → Ready p kinds s → is_record_kind to ≡ false → selectors_kind p.types (root_kind of_record (variable_kind p.variables x)) cs ≡ Some to → Fits p (cells_of s.heap) (of_kind to ∷ kinds) s.control → Fine p (named_next named cs x s)
  root_fine of_record cs x to s kinds ready plain leads fits =
      let own = root_held of_record cs x to s kinds ready leads in
      from_fine cs (held named s x) own.0 to s kinds ready own.1 plain own.2 fits

  -- The object in which the last component of a path lies, from a value that is no record.
  last_fine : (c : ℕ) (cs : List ℕ) (v : Value) (from to : VariableKind) (frame_of : ℕ → Frame Value) (s : State) (kinds : List OperandKind) → Ready p kinds s → HasKind p.types (cells_of s.heap) from v → is_record_kind from ≡ false → selectors_kind p.types (Some from) (c ∷ cs) ≡ Some to → ((last : ℕ) → depth (frame_of last ∷ s.control) ≤ length s.masters) → ((access : TypeNo) (last : ℕ) → selected_kind p.types (Some (variable.Access access)) last ≡ Some to → Fits p (cells_of s.heap) (of_kind (variable.Access access) ∷ kinds) (frame_of last ∷ s.control)) → Fine p (path_next named (before_last c cs) v (at (frame_of (last_of c cs) ∷ s.control) s))
  last_fine c cs v from to frame_of s kinds ready has plain leads deep fits =
      let parts = split_kind p.types (Some from) c cs to leads in
      let access = access_selected p.types parts.0 (last_of c cs) to (plain_path p.types from (before_last c cs) parts.0 plain parts.1) parts.2 in
      let before : selectors_kind p.types (Some from) (before_last c cs) ≡ Some (variable.Access access.0) = parts.1 ∙ ap Some access.1 in
      let behind : selected_kind p.types (Some (variable.Access access.0)) (last_of c cs) ≡ Some to = subst (λ (kind : VariableKind). selected_kind p.types (Some kind) (last_of c cs) ≡ Some to) access.1 parts.2 in
      path_fine (before_last c cs) v from (variable.Access access.0) (at (frame_of (last_of c cs) ∷ s.control) s) kinds (ready_at kinds s (frame_of (last_of c cs) ∷ s.control) ready (deep (last_of c cs))) has plain before
      (fits access.0 (last_of c cs) behind)

  held_fine : (c : ℕ) (cs : List ℕ) (v : Value) (from to : VariableKind) (frame_of : ℕ → Frame Value) (s : State) (kinds : List OperandKind) → Ready p kinds s → HasKind p.types (cells_of s.heap) from v → selectors_kind p.types (Some from) (c ∷ cs) ≡ Some to → ((last : ℕ) → depth (frame_of last ∷ s.control) ≤ length s.masters) → ((access : TypeNo) (last : ℕ) → selected_kind p.types (Some (variable.Access access)) last ≡ Some to → Fits p (cells_of s.heap) (of_kind (variable.Access access) ∷ kinds) (frame_of last ∷ s.control)) → Fine p (path_next named (before_last (inside v c) cs) (whole v) (at (frame_of (last_of (inside v c) cs) ∷ s.control) s))
  held_fine c cs v from to frame_of s kinds ready has leads deep fits =
      let b = begins p.types (cells_of s.heap) from v has in
      last_fine (inside v c) cs (whole v) b.root to frame_of s kinds ready b.has b.plain (begun_selects from to v (cells_of s.heap) c cs b leads) deep fits

  -- So it is found where a path begins with a variable.
  pub holder_fine : (of_record : Bool) (c : ℕ) (cs : List ℕ) (x : ℕ) (to : VariableKind) (frame_of : ℕ → Frame Value) (s : State) (kinds : List OperandKind) → Ready p kinds s → selectors_kind p.types (root_kind of_record (variable_kind p.variables x)) (c ∷ cs) ≡ Some to → ((last : ℕ) → depth (frame_of last ∷ s.control) ≤ length s.masters) → ((access : TypeNo) (last : ℕ) → selected_kind p.types (Some (variable.Access access)) last ≡ Some to → Fits p (cells_of s.heap) (of_kind (variable.Access access) ∷ kinds) (frame_of last ∷ s.control)) → Fine p (holder_next named c cs x frame_of s)
  holder_fine of_record c cs x to frame_of s kinds ready leads deep fits =
      let own = root_held of_record (c ∷ cs) x to s kinds ready leads in
      held_fine c cs (held named s x) own.0 to frame_of s kinds ready own.1 own.2 deep fits

  -- The object in which a record lies to which a path leads.
  abbrev FitsRecord : (rs : Option (List ComponentKind)) (t : ℕ) (frame_of : Place → Frame Value) (s : State) (kinds : List OperandKind) → Type 0
  FitsRecord rs t frame_of s kinds =
      (access : TypeNo) (place : Place) → has_record_at (reached_components p.types access.0) place.component rs ≡ true → PartsLie p.types (object_named p.types (Some access.0)) (Some t) place.component place.part
      → Fits p (cells_of s.heap) (of_kind (variable.Access access) ∷ kinds) (frame_of place ∷ s.control)

  -- The controlled parts of a record lie in the object that a value of a kind names.
  abbrev LieBehind : (kind : Option VariableKind) → (t first part : ℕ) → Type 0
  LieBehind kind t first part = PartsLie p.types (object_named p.types (access_of kind)) (Some t) first part

  record_from : (cs : List ℕ) (q : RecordPathForm) (v : Value) (from to : VariableKind) (rs : Option (List ComponentKind)) (t : ℕ) (frame_of : Place → Frame Value) (s : State) (kinds : List OperandKind) → Ready p kinds s → HasKind p.types (cells_of s.heap) from v → selectors_kind p.types (Some from) cs ≡ Some to → has_record_at (object_components p.types (access_of (Some to))) q.first rs ≡ true → LieBehind (Some to) t q.first q.part → ((place : Place) → depth (frame_of place ∷ s.control) ≤ length s.masters) → FitsRecord rs t frame_of s kinds → Fine p (path_next named (selected named v cs) (whole v) (at (frame_of (place_in named v cs q) ∷ s.control) s))
  record_from [] q v from to rs t frame_of s kinds ready has leads lies parts deep fits =
      let b = begins p.types (cells_of s.heap) from v has in
      let same : to ≡ from = cc in
      let there =
      b.records q.first q.part (Some t) rs (subst (λ (kind : VariableKind). has_record_at (object_components p.types (access_of (Some kind))) q.first rs ≡ true) same lies)
      (subst (λ (kind : VariableKind). LieBehind (Some kind) t q.first q.part) same parts) in
      let place = place_in named v [] q in
      let behind = frame_of place ∷ s.control in
      path_fine [] (whole v) b.root (variable.Access there.0) (at behind s) kinds (ready_at kinds s behind ready (deep place)) b.has b.plain (ap Some there.1) (fits there.0 place there.2 there.3)
  record_from (c ∷ cs) q v from to rs t frame_of s kinds ready has leads lies parts deep fits =
      let b = begins p.types (cells_of s.heap) from v has in
      let place = place_in named v (c ∷ cs) q in
      let behind = frame_of place ∷ s.control in
      let own = begun_selects from to v (cells_of s.heap) c cs b leads in
      let there = record_access p.types to q.first rs (plain_path p.types b.root (inside v c ∷ cs) to b.plain own) lies in
      let own_parts = subst (λ (kind : VariableKind). LieBehind (Some kind) t q.first q.part) there.1 parts in
      path_fine (inside v c ∷ cs) (whole v) b.root (variable.Access there.0) (at behind s) kinds (ready_at kinds s behind ready (deep place)) b.has b.plain (own ∙ ap Some there.1) (fits there.0 place there.2 own_parts)

  -- The record is of the type of the path.
  pub record_holder_fine : (q : RecordPathForm) (frame_of : Place → Frame Value) (s : State) (kinds : List OperandKind) → Ready p kinds s → is_record_path p.types p.variables q ≡ true → ((place : Place) → depth (frame_of place ∷ s.control) ≤ length s.masters) → ((access : TypeNo) (place : Place) (rs : List ComponentKind) → record_components p.types q.record_type ≡ Some rs → has_record_at (reached_components p.types access.0) place.component (Some rs) ≡ true → PartsLie p.types (object_named p.types (Some access.0)) (Some q.record_type) place.component place.part → Fits p (cells_of s.heap) (of_kind (variable.Access access) ∷ kinds) (frame_of place ∷ s.control)) → Fine p (record_holder_next named q frame_of s)
  record_holder_fine q frame_of s kinds ready is deep fits =
      let reached = path_kind p.types p.variables q.object in
      let rs = record_components p.types q.record_type in
      let components = has_record_at (object_components p.types (access_of reached)) q.first rs in
      let counted = has_parts_at p.types q.record_type (object_named p.types (access_of reached)) q.first q.part in
      let leads = record_leads p.types reached q.first rs (and_left components counted is) in
      let parts : LieBehind (Some leads.0) q.record_type q.first q.part =
      subst (λ (kind : Option VariableKind). LieBehind kind q.record_type q.first q.part) leads.1
      (parts_lie_at p.types q.record_type (object_named p.types (access_of reached)) q.first q.part (and_right components counted is)) in
      let own = root_held q.object.of_record q.object.selectors q.object.root leads.0 s kinds ready leads.1 in
      record_from q.object.selectors q (held named s q.object.root) own.0 leads.0 rs q.record_type frame_of s kinds ready own.1 own.2 leads.2 parts deep
      (λ access place lies within. let there = record_there (reached_components p.types access.0) rs place.component lies in fits access place there.0 there.1 there.2 within)

  -- Expressions.
  -- What is compared with null is an access value.
  tested_access : (kind : Option VariableKind) (t : ScalarType) → (if is_some (value_access kind) then Some Boolean else None) ≡ Some t → (access : TypeNo) × (kind ≡ Some (variable.Access access)) × (Boolean ≡ t)
  tested_access None t h = absurd (cc)
  tested_access (Some variable.Integer) t h = absurd (cc)
  tested_access (Some variable.Boolean) t h = absurd (cc)
  tested_access (Some (variable.Access access)) t h = (access, refl, cc)
  tested_access (Some (variable.Record object)) t h = absurd (cc)

  pub null_test_fine : (equal : Bool) (access : TypeNo) (v : Value) (s : State) (kinds : List OperandKind) (cells : Cells) → HasKind p.types cells (variable.Access access) v → Ready p kinds s → Fits p (cells_of s.heap) (of_kind variable.Boolean ∷ kinds) s.control → Fine p (null_test_next named equal (reads_null v) s)
  null_test_fine true access Null s kinds cells has ready fits = running (of_kind variable.Boolean ∷ kinds) (ready_push kinds s variable.Boolean (Scalar (scalar.Boolean true)) ready tt) fits
  null_test_fine false access Null s kinds cells has ready fits = running (of_kind variable.Boolean ∷ kinds) (ready_push kinds s variable.Boolean (Scalar (scalar.Boolean false)) ready tt) fits
  null_test_fine true access (Names o) s kinds cells has ready fits = running (of_kind variable.Boolean ∷ kinds) (ready_push kinds s variable.Boolean (Scalar (scalar.Boolean false)) ready tt) fits
  null_test_fine false access (Names o) s kinds cells has ready fits = running (of_kind variable.Boolean ∷ kinds) (ready_push kinds s variable.Boolean (Scalar (scalar.Boolean true)) ready tt) fits
  null_test_fine equal access (Scalar v) s kinds cells has ready fits = absurd has
  null_test_fine equal access (Part o place) s kinds cells has ready fits = absurd has

  pub expression_fine : (e : ExpressionForm) (t : ScalarType) (s : State) (kinds : List OperandKind) → Ready p kinds s → type_of p.types p.variables e ≡ Some t → Fits p (cells_of s.heap) (of_kind (kind_of t) ∷ kinds) s.control → Fine p (expression_next named e s)
  expression_fine (integer i) Integer s kinds ready is fits = running (of_kind variable.Integer ∷ kinds) (ready_push kinds s variable.Integer (Scalar (scalar.Integer i)) ready tt) fits
  expression_fine (integer i) Boolean s kinds ready is fits = absurd (cc)
  expression_fine (boolean b) Boolean s kinds ready is fits = running (of_kind variable.Boolean ∷ kinds) (ready_push kinds s variable.Boolean (Scalar (scalar.Boolean b)) ready tt) fits
  expression_fine (boolean b) Integer s kinds ready is fits = absurd (cc)
  expression_fine (reads path) t s kinds ready is fits =
      root_fine path.of_record path.selectors path.root (kind_of t) s kinds ready (plain_scalar t)
      (scalar_kind (path_kind p.types p.variables path) t is) fits
  expression_fine (is_null equal path) t s kinds ready is fits =
      let tested = tested_access (path_kind p.types p.variables path) t is in
      root_fine path.of_record path.selectors path.root (variable.Access tested.0) (at (frame.TestsNull equal ∷ s.control) s) kinds
      (ready_at kinds s (frame.TestsNull equal ∷ s.control) ready ready.deep) refl tested.1
      (kinds, tested.0, refl, subst (λ (q : ScalarType). Fits p (cells_of s.heap) (of_kind (kind_of q) ∷ kinds) s.control) (sym tested.2) fits)
  expression_fine (applied_to operator e) t s kinds ready is fits =
      let operand = unary_operand operator (type_of p.types p.variables e) t is in
      let gives : unary_type operator (Some operand.0) ≡ Some t = ap (unary_type operator) (sym operand.1) ∙ is in
      running kinds (ready_at kinds s (frame.Computes e ∷ frame.AppliesAlone operator ∷ s.control) ready ready.deep) (operand.0, operand.1, (kinds, operand.0, t, refl, gives, fits))
  expression_fine (chained e links) t s kinds ready is fits =
      let left = chain_left p.types p.variables (type_of p.types p.variables e) links t is in
      let chain : chain_type p.types p.variables (Some left.0) links ≡ Some t = ap (λ (o : Option ScalarType). chain_type p.types p.variables o links) (sym left.1) ∙ is in
      running kinds (ready_at kinds s (frame.Computes e ∷ frame.Continues links ∷ s.control) ready ready.deep) (left.0, left.1, (kinds, left.0, t, refl, chain, fits))

  link_fine : (decided : Bool) (truth : Option Bool) (operator : BinaryOperator) (e : ExpressionForm) (links : LinksForm) (l r m t : ScalarType) (s : State) (ks : List OperandKind) → is_decided named operator truth ≡ decided → Ready p (of_kind (kind_of l) ∷ ks) s → type_of p.types p.variables e ≡ Some r → binary_type operator (Some l) (Some r) ≡ Some m → chain_type p.types p.variables (Some m) links ≡ Some t → Fits p (cells_of s.heap) (of_kind (kind_of t) ∷ ks) s.control → Fine p (link_next named decided operator e links s)
  link_fine true truth operator e links l r m t s ks decides ready right gives chain fits =
      let same : l ≡ m = decided_same operator truth l r m decides gives in
      running (of_kind (kind_of l) ∷ ks) (ready_at (of_kind (kind_of l) ∷ ks) s (frame.Continues links ∷ s.control) ready ready.deep)
      (ks, l, t, refl, ap (λ (x : ScalarType). chain_type p.types p.variables (Some x) links) same ∙ chain, fits)
  link_fine false truth operator e links l r m t s ks decides ready right gives chain fits =
      running (of_kind (kind_of l) ∷ ks) (ready_at (of_kind (kind_of l) ∷ ks) s (frame.Computes e ∷ frame.Applies operator ∷ frame.Continues links ∷ s.control) ready ready.deep)
      (r, right, (ks, l, r, m, refl, gives, (ks, m, t, refl, chain, fits)))

  pub links_fine : (links : LinksForm) (l t : ScalarType) (s : State) (ks : List OperandKind) → Ready p (of_kind (kind_of l) ∷ ks) s → chain_type p.types p.variables (Some l) links ≡ Some t → Fits p (cells_of s.heap) (of_kind (kind_of t) ∷ ks) s.control → Fine p (links_next named links s)
  links_fine no_more_links l t s ks ready chain fits =
      let same : t ≡ l = cc in
      running (of_kind (kind_of l) ∷ ks) ready (subst (λ (x : ScalarType). Fits p (cells_of s.heap) (of_kind (kind_of x) ∷ ks) s.control) same fits)
  links_fine (a_link operator e links) l t s ks ready chain fits =
      let given = chain_left p.types p.variables (binary_type operator (Some l) (type_of p.types p.variables e)) links t chain in
      let right = binary_operand operator l (type_of p.types p.variables e) given.0 given.1 in
      let gives : binary_type operator (Some l) (Some right.0) ≡ Some given.0 = ap (binary_type operator (Some l)) (sym right.1) ∙ given.1 in
      let later : chain_type p.types p.variables (Some given.0) links ≡ Some t = ap (λ (o : Option ScalarType). chain_type p.types p.variables o links) (sym given.1) ∙ chain in
      link_fine (is_decided named operator (reads_boolean (newest named s))) (reads_boolean (newest named s)) operator e links l right.0 given.0 t s ks refl ready right.1 gives later fits

  pub outcome_fine : (outcome : Result Value OperatorFault) (t : ScalarType) (s : State) (ks : List OperandKind) → Ready p ks s → GivesKind p.types (cells_of s.heap) t outcome → Fits p (cells_of s.heap) (of_kind (kind_of t) ∷ ks) s.control → Fine p (outcome_next named outcome s)
  outcome_fine (Ok v) t s ks ready gives fits = running (of_kind (kind_of t) ∷ ks) (ready_push ks s (kind_of t) v ready gives) fits
  outcome_fine (Err Overflow) t s ks ready gives fits = raises ks (of_kind (kind_of t) ∷ ks) ConstraintError s ready fits
  outcome_fine (Err DivisionByZero) t s ks ready gives fits = raises ks (of_kind (kind_of t) ∷ ks) ConstraintError s ready fits
  outcome_fine (Err WrongType) t s ks ready gives fits = absurd gives

  -- Allocators.
  component_fine : (kind : ComponentKind) (item : ItemForm) (s : State) (kinds : List OperandKind) → Ready p kinds s → component_item_fits p.types p.variables kind item ≡ true → Fits p (cells_of s.heap) (of_kind (held_kind kind) ∷ kinds) s.control → Fine p (item_next named item s)
  component_fine (component.Integer initial) null_item s kinds ready is fits = absurd (cc)
  component_fine (component.Integer initial) (item_of_path path) s kinds ready is fits = absurd (cc)
  component_fine (component.Integer initial) (item_of_value e) s kinds ready is fits =
      running kinds (ready_at kinds s (frame.Computes e ∷ s.control) ready ready.deep) (Integer, typed Integer (type_of p.types p.variables e) is, fits)
  component_fine (component.Integer initial) (item_of_record q) s kinds ready is fits = absurd (cc)
  component_fine (component.Boolean initial) null_item s kinds ready is fits = absurd (cc)
  component_fine (component.Boolean initial) (item_of_path path) s kinds ready is fits = absurd (cc)
  component_fine (component.Boolean initial) (item_of_value e) s kinds ready is fits =
      running kinds (ready_at kinds s (frame.Computes e ∷ s.control) ready ready.deep) (Boolean, typed Boolean (type_of p.types p.variables e) is, fits)
  component_fine (component.Boolean initial) (item_of_record q) s kinds ready is fits = absurd (cc)
  component_fine (component.Access access) null_item s kinds ready is fits = running (of_kind (variable.Access access) ∷ kinds) (ready_push kinds s (variable.Access access) Null ready tt) fits
  component_fine (component.Access access) (item_of_path path) s kinds ready is fits =
      root_fine path.of_record path.selectors path.root (variable.Access access) s kinds ready refl
      (access_kind (path_kind p.types p.variables path) access is) fits
  component_fine (component.Access access) (item_of_value e) s kinds ready is fits = absurd (cc)
  component_fine (component.Access access) (item_of_record q) s kinds ready is fits = absurd (cc)

  -- An item for one component, with others behind it.
  first_fine : (item : ItemForm) (items : List ItemForm) (cs : List ComponentKind) (s : State) (kinds : List OperandKind) → Ready p kinds s → first_fits p.types p.variables cs item ≡ true → items_fit p.types p.variables (drop 1 cs) items ≡ true → Fits p (cells_of s.heap) (onto cs kinds) s.control → Fine p (item_next named item (at (frame.Fills items ∷ s.control) s))
  first_fine item items [] s kinds ready is later fits = absurd (cc)
  first_fine item items (c ∷ cs) s kinds ready is later fits =
      component_fine c item (at (frame.Fills items ∷ s.control) s) kinds (ready_at kinds s (frame.Fills items ∷ s.control) ready ready.deep) is (cs, later, fits)

  -- A record is copied: its components are the first that are left.
  begun : (o : Option (List ComponentKind)) (rs cs : List ComponentKind) → o ≡ Some rs → begins_with_record cs o ≡ true → begins_with cs rs ≡ true
  begun o rs cs same is = ap (begins_with_record cs) (sym same) ∙ is

  copy_fine : (q : RecordPathForm) (items : List ItemForm) (cs : List ComponentKind) (s : State) (kinds : List OperandKind) → Ready p kinds s → is_record_path p.types p.variables q ≡ true → begins_with_record cs (record_components p.types q.record_type) ≡ true → items_fit p.types p.variables (drop (width_in (record_components p.types q.record_type)) cs) items ≡ true → Fits p (cells_of s.heap) (onto cs kinds) s.control → Fine p (item_next named (item_of_record q) (at (frame.Fills items ∷ s.control) s))
  copy_fine q items cs s kinds ready is begins later fits =
      record_holder_fine q (λ place. frame.Copies place.component q.record_type) (at (frame.Fills items ∷ s.control) s) kinds (ready_at kinds s (frame.Fills items ∷ s.control) ready ready.deep) is (λ place. ready.deep)
      (λ access place rs recorded lies parts.
      let left : items_fit p.types p.variables (drop (length rs) cs) items ≡ true = ap (λ (o : Option (List ComponentKind)). items_fit p.types p.variables (drop (width_in o) cs) items) (sym recorded) ∙ later in
      let same : onto (drop (length rs) cs) (onto rs kinds) ≡ onto cs kinds = onto_record cs rs kinds (begun (record_components p.types q.record_type) rs cs recorded begins) in
      (kinds, access, rs, refl, recorded, lies, (place.part, parts), (drop (length rs) cs, left, subst (λ (ks : List OperandKind). Fits p (cells_of s.heap) ks s.control) (sym same) fits)))

  item_fine : (item : ItemForm) (items : List ItemForm) (cs : List ComponentKind) (s : State) (kinds : List OperandKind) → Ready p kinds s → item_fits p.types p.variables cs item ≡ true → items_fit p.types p.variables (drop (item_width p.types item) cs) items ≡ true → Fits p (cells_of s.heap) (onto cs kinds) s.control → Fine p (item_next named item (at (frame.Fills items ∷ s.control) s))
  item_fine null_item items cs s kinds ready is later fits = first_fine null_item items cs s kinds ready is later fits
  item_fine (item_of_path path) items cs s kinds ready is later fits = first_fine (item_of_path path) items cs s kinds ready is later fits
  item_fine (item_of_value e) items cs s kinds ready is later fits = first_fine (item_of_value e) items cs s kinds ready is later fits
  item_fine (item_of_record q) items cs s kinds ready is later fits =
      let leads = is_record_path p.types p.variables q in
      let begins = begins_with_record cs (record_components p.types q.record_type) in
      copy_fine q items cs s kinds ready (and_left leads begins is) (and_right leads begins is) later fits

  pub items_fine : (items : List ItemForm) (cs : List ComponentKind) (s : State) (kinds : List OperandKind) → Ready p kinds s → items_fit p.types p.variables cs items ≡ true → Fits p (cells_of s.heap) (onto cs kinds) s.control → Fine p (items_next named items s)
  items_fine [] [] s kinds ready is fits = running kinds ready fits
  items_fine [] (c ∷ cs) s kinds ready is fits = absurd (cc)
  items_fine (i ∷ items) cs s kinds ready is fits =
      let own = item_fits p.types p.variables cs i in
      let others = items_fit p.types p.variables (drop (item_width p.types i) cs) items in
      item_fine i items cs s kinds ready (and_left own others is) (and_right own others is) fits

  -- Operands for components: their values, and the operands without them.
  pub active_without : (cells : Cells) (cs : List ComponentKind) (ks : List OperandKind) (acts : List (Activation Value)) → IsActive p.types cells p.variables (onto cs ks) acts → IsActive p.types cells p.variables ks (with_operands (drop (length cs) (operands_of acts)) acts)
  active_without cells cs ks [] active = active
  active_without cells cs ks (a ∷ suspended) active = (active.0, (split p.types cells cs ks a.operands active.1).1)

  pub active_values : (cells : Cells) (cs : List ComponentKind) (ks : List OperandKind) (acts : List (Activation Value)) → IsActive p.types cells p.variables (onto cs ks) acts → HaveKinds p.types cells cs (reverse (take (length cs) (operands_of acts)))
  active_values cells cs ks [] active = absurd active
  active_values cells cs ks (a ∷ suspended) active = (split p.types cells cs ks a.operands active.1).0

  active_new : (cells : Cells) (cell : Cell Value) (cs : List ComponentKind) (ks : List OperandKind) (access : TypeNo) (acts : List (Activation Value)) (o : ℕ) → cell.access ≡ access.0 → o ≡ length cells → IsActive p.types cells p.variables (onto cs ks) acts → IsActive p.types (cells ++ cell ∷ []) p.variables (of_kind (variable.Access access) ∷ ks) (with_operands (Names (record { 0 = o }) ∷ drop (length cs) (operands_of acts)) acts)
  active_new cells cell cs ks access [] o own is active = active
  active_new cells cell cs ks access (a ∷ suspended) o own is active =
      let more : IsActive p.types (cells ++ cell ∷ []) p.variables ks (record a { operands = drop (length cs) a.operands } ∷ suspended) = active_later p.types cells (cells ++ cell ∷ []) (designated_more cells cell) p.variables ks (record a { operands = drop (length cs) a.operands } ∷ suspended) (active.0, (split p.types cells cs ks a.operands active.1).1) in
      (more.0, ((cell, ap (slice_get (cells ++ cell ∷ [])) is ∙ newest_name cells cell, own), more.1))

  answered_fine : (types : List TypeDefinition) → map type_form types ≡ p.types → (access words : ℕ) (home : Destination) (s : State) (ks : List OperandKind) (cs : List ComponentKind) → Ready p (onto cs ks) s → reached_components p.types access ≡ Some cs → Fits p (cells_of s.heap) (of_kind (variable.Access (record { 0 = access })) ∷ ks) s.control → (granted : Bool) → TypedIn p (answered named types access (length cs) words home s granted)
  answered_fine types shown access words home s ks cs ready reached fits true =
      let cell = new_cell named types access (length cs) home s in
      let name = Names (record { 0 = length s.heap }) in
      let tasks = all_tasks types access PartsFirst in
      let same : cells_of (s.heap ++ new_object cell ∷ []) ≡ cells_of s.heap ++ cell ∷ [] = cells_more s.heap (new_object cell) in
      let as_deep = treating_deep name (frame.begins Creation []) tasks s.control in
      running (of_kind (variable.Access (record { 0 = access })) ∷ ks) (record {
        filled = subst (λ (xs : Cells). AreFilled p.types xs xs) (sym same) (filled_new p.types (cells_of s.heap) cell cs ready.filled reached (active_values (cells_of s.heap) cs ks s.activations ready.active) (λ is. (home.pool, refl)) (new_held types p.types access shown));
        active = subst (λ (xs : Cells). IsActive p.types xs p.variables (of_kind (variable.Access (record { 0 = access })) ∷ ks) (with_operands (Names (record { 0 = length s.heap }) ∷ drop (length cs) (operands s)) s.activations)) (sym same)
            (active_new (cells_of s.heap) cell cs ks (record { 0 = access }) s.activations (length s.heap) refl (sym (length_cells s.heap)) ready.active);
        runs = ready.runs;
        deep = omega (arith, ready.deep, as_deep);
      }) (treating_fits p (cells_of (s.heap ++ new_object cell ∷ [])) (of_kind (variable.Access (record { 0 = access })) ∷ ks) name (frame.begins Creation []) tasks s.control
      (access, (cell, named_newest s.heap cell, refl), all_within types p.types access PartsFirst shown, (tt, tt))
      (fits_more (of_kind (variable.Access (record { 0 = access })) ∷ ks) s.control s.heap cell fits))
  answered_fine types shown access words home s ks cs ready reached fits false = raises (onto cs ks) (of_kind (variable.Access (record { 0 = access })) ∷ ks) StorageError s ready fits

  pub new_fine : (types : List TypeDefinition) → map type_form types ≡ p.types → (home : Option Destination) (access words : ℕ) (s : State) (ks : List OperandKind) (cs : List ComponentKind) → Ready p (onto cs ks) s → reached_components p.types access ≡ Some cs → Fits p (cells_of s.heap) (of_kind (variable.Access (record { 0 = access })) ∷ ks) s.control → Fine p (new_next named types access (length cs) words home s)
  new_fine types shown None access words s ks cs ready reached fits = raises (onto cs ks) (of_kind (variable.Access (record { 0 = access })) ∷ ks) StorageError s ready fits
  new_fine types shown (Some home) access words s ks cs ready reached fits = answered_fine types shown access words home s ks cs ready reached fits

  -- What is assigned.
  pub filled_items : (o : Option (List ComponentKind)) (vs : List VariableForm) (items : List ItemForm) → is_filled p.types vs o items ≡ true → (cs : List ComponentKind) × (o ≡ Some cs) × (items_fit p.types vs cs items ≡ true)
  filled_items None vs items h = absurd (cc)
  filled_items (Some cs) vs items h = (cs, refl, h)

  ready_initialized : (types : List TypeDefinition) (access : ℕ) (cs : List ComponentKind) (kinds : List OperandKind) (s : State) → reached_of types access ≡ Some cs → Ready p kinds s → Ready p (onto cs kinds) (initialized named types access s)
  ready_initialized types access cs kinds s found ready = record {
    filled = ready.filled;
    active = active_front p.types (cells_of s.heap) p.variables cs kinds (initial_values named (reached_of types access)) s.activations (initials_have p.types (cells_of s.heap) (reached_of types access) cs found) ready.active;
    runs = ready.runs;
    deep = ready.deep;
  }

  pub right_fine : (types : List TypeDefinition) → map type_form types ≡ p.types → (right : RightForm) (kind : VariableKind) (s : State) (kinds : List OperandKind) → Ready p kinds s → kind_takes p.types p.variables kind right ≡ true → Fits p (cells_of s.heap) (of_kind kind ∷ kinds) s.control → Fine p (right_next named types right s)
  right_fine types shown nothing variable.Integer s kinds ready is fits = absurd (cc)
  right_fine types shown (value_of path) variable.Integer s kinds ready is fits = absurd (cc)
  right_fine types shown (allocates access items) variable.Integer s kinds ready is fits = absurd (cc)
  right_fine types shown (allocates_default access) variable.Integer s kinds ready is fits = absurd (cc)
  right_fine types shown (computes e) variable.Integer s kinds ready is fits =
      running kinds (ready_at kinds s (frame.Computes e ∷ s.control) ready ready.deep) (Integer, typed Integer (type_of p.types p.variables e) is, fits)
  right_fine types shown nothing variable.Boolean s kinds ready is fits = absurd (cc)
  right_fine types shown (value_of path) variable.Boolean s kinds ready is fits = absurd (cc)
  right_fine types shown (allocates access items) variable.Boolean s kinds ready is fits = absurd (cc)
  right_fine types shown (allocates_default access) variable.Boolean s kinds ready is fits = absurd (cc)
  right_fine types shown (computes e) variable.Boolean s kinds ready is fits =
      running kinds (ready_at kinds s (frame.Computes e ∷ s.control) ready ready.deep) (Boolean, typed Boolean (type_of p.types p.variables e) is, fits)
  right_fine types shown nothing (variable.Access access) s kinds ready is fits = running (of_kind (variable.Access access) ∷ kinds) (ready_push kinds s (variable.Access access) Null ready tt) fits
  right_fine types shown (value_of path) (variable.Access access) s kinds ready is fits =
      root_fine path.of_record path.selectors path.root (variable.Access access) s kinds ready refl
      (access_kind (path_kind p.types p.variables path) access is) fits
  right_fine types shown (allocates t items) (variable.Access access) s kinds ready is fits =
      let own = is_filled p.types p.variables (reached_components p.types access.0) items in
      let former = and_left ((t == access.0) && own) (parts_named p.types (object_named p.types (Some access.0)) == 0) is in
      let same : t ≡ access.0 = eqb-true t access.0 (and_left (t == access.0) own former) in
      let filled = filled_items (reached_components p.types access.0) p.variables items (and_right (t == access.0) own former) in
      let reached : reached_components p.types t ≡ Some filled.0 = ap (reached_components p.types) same ∙ filled.1 in
      running kinds (ready_at kinds s (frame.Fills items ∷ frame.Creates t (words_of types t) ∷ s.control) ready ready.deep)
      (filled.0, filled.2, (kinds, filled.0, refl, reached, words_shown types t filled.0 shown reached, subst (λ (i : ℕ). Fits p (cells_of s.heap) (of_kind (variable.Access (record { 0 = i })) ∷ kinds) s.control) (sym same) fits))
  right_fine types shown (allocates_default t) (variable.Access access) s kinds ready is fits =
      let same : t ≡ access.0 = eqb-true t access.0 (and_left (t == access.0) (is_some (reached_components p.types access.0)) is) in
      let components = there_is (reached_components p.types access.0) (and_right (t == access.0) (is_some (reached_components p.types access.0)) is) in
      let reached : reached_components p.types t ≡ Some components.0 = ap (reached_components p.types) same ∙ components.1 in
      let found : reached_of types t ≡ Some components.0 = reached_shown types t components.0 shown reached in
      running (onto components.0 kinds)
      (ready_at (onto components.0 kinds) (initialized named types t s) (frame.Creates t (words_of types t) ∷ s.control) (ready_initialized types t components.0 kinds s found ready) ready.deep)
      (kinds, components.0, refl, reached, ap count_of found, subst (λ (i : ℕ). Fits p (cells_of s.heap) (of_kind (variable.Access (record { 0 = i })) ∷ kinds) s.control) (sym same) fits)
  right_fine types shown (computes e) (variable.Access access) s kinds ready is fits = absurd (cc)
  right_fine types shown right (variable.Record object) s kinds ready is fits = absurd (cc)
