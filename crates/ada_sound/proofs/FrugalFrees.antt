-- What a frugal body allocates has no controlled parts (4.8, 7.6), as the access types say that it names, or none of its operations runs behind that; nor has a
-- record that it assigns some (5.2): its assignments treat nothing. What it frees has none, either, or no operation of that object runs (7.6.1, 13.11.2).

use Rattle.ada_meaning.specs.declared.state.Place.{Place}
use Rattle.std.proofs.Common.{◌≡◌, ℕ, zero, suc, Bool, true, false, ◌&&◌, if◌then◌else◌, List, [], ◌∷◌, refl, sym, ap, ◌∙◌, subst, ◌⊎◌, inl, inr}
use Rattle.std.specs.Prelude.{Option, Some, None, is_some, not, ◌||◌}
use Rattle.std.specs.List.{list_all, slice_get}
use Rattle.ada_program.specs.declared.program.ComponentKind.{ComponentKind}
use Rattle.ada_program.specs.declared.program.ComponentKind.TheVariants as component
use Rattle.ada_program.specs.declared.program.Finalization.{Finalization}
use Rattle.ada_program.specs.declared.program.Program.{Program}
use Rattle.ada_program.specs.declared.program.TypeDefinition.{TypeDefinition}
use Rattle.ada_program.specs.declared.program.TypeNo.{TypeNo}
use Rattle.ada_program.specs.declared.program.VariableKind.{VariableKind}
use Rattle.ada_program.specs.declared.program.VariableKind.TheVariants as variable
use Rattle.ada_program.proofs.Shapes.{same_number}
use Rattle.ada_program.specs.Controlled.{number_in, number_reached, shapes_of}
use Rattle.ada_program.specs.Form.{PathForm, StmtForm, frees, a_stmt}
use Rattle.ada_program.specs.ProgramForm.{TypeForm, record_of, access_to, object_of, ProgramForm, program_form}
use Rattle.ada_program.specs.WellFormed.{is_access, is_this, finalization_of, kind_among, kind_fits, reached_components, components_in, components_reached, named_in, object_named, type_fits, access_of, path_access, variable_kind, selected_kind, selectors_kind}
use Rattle.ada_program.specs.Freed.{statement_frees_own, statements_free_own}
use Rattle.ada_quiet.specs.Bare.{has_bare_objects, is_bare_access}
use Rattle.ada_quiet.specs.Idle.{has_parts as record_has_parts, holds_parts}
use Rattle.ada_finalized.specs.Law.{NamesExisting, NoOperationRunsOn}
use Rattle.ada_parts.specs.declared.tasks.Direction.{Direction}
use Rattle.ada_parts.specs.declared.tasks.Direction.TheVariants.{WholeFirst, PartsFirst}
use Rattle.ada_meaning.specs.declared.state.Id.{Id}
use Rattle.ada_meaning.specs.declared.state.Stage.{Stage}
use Rattle.ada_meaning.specs.declared.state.Stage.TheVariants.{Building, Existing, Gone}
use Rattle.ada_meaning.specs.declared.state.Mode.{Mode}
use Rattle.ada_meaning.specs.declared.state.Mode.TheVariants.{Running}
use Rattle.ada_meaning.specs.declared.state.Value.{Value}
use Rattle.ada_meaning.specs.declared.state.Value.TheVariants.{Null, Names, Scalar, Part}
use Rattle.ada_meaning.specs.Frame.{Frame, Does, FreesIn, Leaves, Assigns}
use Rattle.ada_meaning.specs.Heap.{Cell, Found, on_null, on_gone, on_other, finds}
use Rattle.ada_meaning.specs.State.{Activation, Master}
use Rattle.ada_meaning.specs.Step.{has_parts, all_tasks, tasks_for, first_or, places_of, operands_of, places, operands, older}
use Rattle.ada_meaning.specs.Named.{Object, State, object_at, look, seen, existing, all_alive, standing, standing_by}
use Rattle.ada_typed.specs.Holding.{Cells, Designates, IsAccess, HasKind, cells_of}
use Rattle.ada_typed.proofs.Control as typed
use Rattle.ada_typed.proofs.Control.{OwnBody}
use Rattle.ada_typed.proofs.Evaluations.{cell_at}
use Rattle.ada_typed.proofs.Parts.{known_number, shown_number}
use Rattle.ada_typed.proofs.Runs.{typed_holds}
use Rattle.ada_typed.proofs.Targets.{component_there}
use Rattle.ada_typed.proofs.Values as typing
use Rattle.ada_typed.proofs.Values.{OperandKind, of_kind, AreComputed}
use Rattle.ada_scopes.specs.Scopes.{is_innermost}
use Rattle.ada_sound.proofs.Allowance.{Allowance, may_create, may_treat, are_thrifty, is_inert}
use Rattle.ada_sound.proofs.Assigned.{access_from, this_is}
use Rattle.ada_sound.proofs.Calm.{ends_operation, operation_ends_there}
use Rattle.ada_sound.proofs.Fits.{place_at}
use Rattle.ada_sound.proofs.FreedInside.{IsFreedNext}
use Rattle.ada_sound.proofs.FrugalControl.{Frugal, FrugalLeads, own_in, assigned_parts}
use Rattle.ada_sound.proofs.Invariant.{Control}
use Rattle.ada_sound.proofs.OperationStarts.{apart}
use Rattle.ada_sound.proofs.Standing.{FreesAmong}
use Rattle.ada_owners.proofs.Objects.{next_id, at_past}

-- There is nothing to do for an object without controlled parts, neither to initialize nor to finalize it, whether an access type designates it or it is known
-- by a type of its own.
abbrev pub ObjectIsBare : List TypeForm → List TypeDefinition → Type 0
ObjectIsBare types tds = (t : ℕ) (direction : Direction) → not (holds_parts types t) ≡ true → all_tasks tds t direction ≡ []

none_numbered : (o : Option Finalization) → not (is_some o) ≡ true → number_in o ≡ None
none_numbered None none = refl
none_numbered (Some f) none = absurd (cc none)

-- A record of a type without controlled parts has none to finalize or to adjust, where it is assigned (5.2, 7.6).
abbrev pub RecordIsBare : List TypeForm → List TypeDefinition → Type 0
RecordIsBare types tds = (t : ℕ) → not (is_some (finalization_of types t)) ≡ true → has_parts tds t ≡ false

-- So it is in every program.
pub records_bare_by : (program : Program) → RecordIsBare (program_form program).types program.types.items
records_bare_by program t is = ap is_some (same_number program.types.items t ∙ none_numbered (finalization_of (program_form program).types t) is)

-- Such a record type has no number among those that have controlled parts, if it is one.
bare_number : (types : List TypeForm) (record_type : Option ℕ) → not (record_has_parts types record_type) ≡ true → shown_number types record_type ≡ None
bare_number types None is = refl
bare_number types (Some r) is = none_numbered (finalization_of types r) is

-- So it is in every program.
pub bare_by : (program : Program) → ObjectIsBare (program_form program).types program.types.items
bare_by program t direction is =
    let tds = program.types.items in
    let types = (program_form program).types in
    let number : number_reached tds t ≡ None = sym (known_number tds types t refl) ∙ bare_number types (object_named types (Some t)) is in
    ap (tasks_for (shapes_of tds) direction) number

-- An object that an access value designates has none, if these have none.
pub bare_holds : (types : List TypeForm) (access : ℕ) → has_bare_objects types access ≡ true → not (holds_parts types access) ≡ true
bare_holds types access is = by (slice_get types access) is
  where
    by : (found : Option TypeForm) → is_bare_access types found ≡ true → not (record_has_parts types (named_in found)) ≡ true
    by None is' = refl
    by (Some (record_of name parts components finalization)) is' = refl
    by (Some (access_to name designated pool)) is' = is'
    by (Some (object_of record_type)) is' = absurd (cc is')

-- What a component of an access type names is of an access type, where types fit.
kind_there : (types : List TypeForm) (components : List ComponentKind) (c own : ℕ) → list_all (kind_fits types) components ≡ true → access_of (kind_among (Some components) c) ≡ Some own → is_access types own ≡ true
kind_there types [] c own fit is = absurd (cc is)
kind_there types (component.Integer initial ∷ ks) zero own fit is = absurd (cc is)
kind_there types (component.Boolean initial ∷ ks) zero own fit is = absurd (cc is)
kind_there types (component.Access access ∷ ks) zero own fit is = let same : access.0 ≡ own = cc is in rw (← same) (apart _ _ fit).0
kind_there types (k ∷ ks) (suc c) own fit is = kind_there types ks c own (apart _ _ fit).1 is

type_there : (types ts : List TypeForm) (t : ℕ) (u : TypeForm) → list_all (type_fits types) ts ≡ true → slice_get ts t ≡ Some u → type_fits types u ≡ true
type_there types [] t u fit is = absurd (cc is)
type_there types (v ∷ ts) zero u fit is = let same : v ≡ u = cc is in rw (← same) (apart _ _ fit).0
type_there types (v ∷ ts) (suc t) u fit is = type_there types ts t u (apart _ _ fit).1 is

module _ (types : List TypeForm) (fit : list_all (type_fits types) types ≡ true) where
  components_fit : (u : Option TypeForm) (t c own : ℕ) → slice_get types t ≡ u → access_of (kind_among (components_in u) c) ≡ Some own → is_access types own ≡ true
  components_fit None t c own at is = absurd (cc is)
  components_fit (Some (record_of name parts components finalization)) t c own at is =
      let three = apart _ _ (type_there types types t (record_of name parts components finalization) fit at) in
      let two = apart _ _ three.0 in
      kind_there types components c own (apart _ _ two.0).0 is
  components_fit (Some (access_to name designated pool)) t c own at is = absurd (cc is)
  components_fit (Some (object_of record_type)) t c own at is = absurd (cc is)

  reached_fit : (named : Option ℕ) (c own : ℕ) → access_of (kind_among (components_reached types named) c) ≡ Some own → is_access types own ≡ true
  reached_fit None c own is = absurd (cc is)
  reached_fit (Some t) c own is = components_fit (slice_get types t) t c own refl is

  pub accepted_access : (holder c own : ℕ) → access_of (kind_among (reached_components types holder) c) ≡ Some own → is_access types own ≡ true
  accepted_access holder c own is = reached_fit (named_in (slice_get types holder)) c own is

  pub component_access : (holder : ℕ) (c : ℕ) (own : TypeNo) → kind_among (reached_components types holder) c ≡ Some (variable.Access own) → is_access types own.0 ≡ true
  component_access holder c own is = accepted_access holder c own.0 (ap access_of is)

-- An object that is found where one is freed is of the access type for which the instance is.
abbrev pub IsOf : (access : ℕ) → Found (Cell Value) → Type 0
IsOf access on_null = Unit {0}
IsOf access on_gone = Unit {0}
IsOf access on_other = Unit {0}
IsOf access (finds cell) = (cell.access ≡ access)

-- So is the one that a statement frees that a variable names.
abbrev pub StmtFreesOwn : StmtForm → List Object → (places : List Value) → Type 0
StmtFreesOwn (frees access path) heap places = path.selectors ≡ [] → IsOf access (standing heap (place_at places path.root))
StmtFreesOwn f heap places = Unit {0}

-- And the one that a frame frees that a component names.
abbrev pub FrameFreesOwn : Frame Value → List Object → (places operands : List Value) → Type 0
FrameFreesOwn (Does (a_stmt f fs)) heap places operands = StmtFreesOwn f heap places
FrameFreesOwn (FreesIn access c) heap places operands =
    (cell : Cell Value) (w : Value) → look heap (first_or Null operands) ≡ finds cell → slice_get cell.values c ≡ Some w → IsOf access (standing heap w)
FrameFreesOwn f heap places operands = Unit {0}

-- And the one that the first frame frees.
abbrev pub NextFreesOwn : Control → List Object → (places operands : List Value) → Type 0
NextFreesOwn [] heap places operands = Unit {0}
NextFreesOwn (f ∷ k) heap places operands = FrameFreesOwn f heap places operands

-- Typing says so, where each Free is by the instance for the access type of what it frees.
module _ (p : ProgramForm) (whole : OwnBody p) where
  object_of_access : (heap : List Object) (t : ℕ) (o : Id) (found : Option Object) → object_at heap o ≡ found → Designates (cells_of heap) t o → IsOf t (standing_by found)
  object_of_access heap t o None at named = tt
  object_of_access heap t o (Some x) at named = by (x.listed && all_alive x.cell.parts)
    where
      some_same : {c d : Cell Value} → Some c ≡ Some d → c ≡ d
      some_same e = cc e

      of : x.cell.access ≡ t
      of = let one : named.0 ≡ x.cell = some_same (sym named.1 ∙ cell_at heap o.0 x at) in rw (← one) named.2

      by : (stands : Bool) → IsOf t (if stands then finds x.cell else on_gone)
      by true = of
      by false = tt

  value_of_access : (heap : List Object) (t : ℕ) (v : Value) → IsAccess (cells_of heap) t v → IsOf t (standing heap v)
  value_of_access heap t Null has = tt
  value_of_access heap t (Names o) has = object_of_access heap t o (object_at heap o) refl has
  value_of_access heap t (Scalar n) has = tt
  value_of_access heap t (Part o place) has = tt

  -- What a variable holds.
  kind_of_access : (heap : List Object) (t : ℕ) (kind : VariableKind) (v : Value) → access_of (Some kind) ≡ Some t → HasKind p.types (cells_of heap) kind v → IsOf t (standing heap v)
  kind_of_access heap t variable.Integer v of has = absurd (cc of)
  kind_of_access heap t variable.Boolean v of has = absurd (cc of)
  kind_of_access heap t (variable.Access access) v of has = let one : access.0 ≡ t = cc of in value_of_access heap t v (rw one at has)
  kind_of_access heap t (variable.Record object) Null of has = tt
  kind_of_access heap t (variable.Record object) (Names o) of has = let one : object.0 ≡ t = cc of in value_of_access heap t (Names o) (rw one at has)
  kind_of_access heap t (variable.Record object) (Scalar n) of has = tt
  kind_of_access heap t (variable.Record object) (Part o place) of has = tt

  variable_of_access : (s : State) (t x : ℕ) (kind : Option VariableKind) → typed.TypedIn p s → variable_kind p.variables x ≡ kind → access_of kind ≡ Some t → IsOf t (standing s.heap (place_at (places_of s.activations) x))
  variable_of_access s t x None typing' at of = absurd (cc of)
  variable_of_access s t x (Some kind) typing' at of = kind_of_access s.heap t kind (place_at (places_of s.activations) x) of (typed_holds p s x kind typing' at).1

  stands_so : (kind : Option VariableKind) (cs : List ℕ) (t : ℕ) → cs ≡ [] → access_of (selectors_kind p.types kind cs) ≡ Some t → access_of kind ≡ Some t
  stands_so kind [] t alone of = of
  stands_so kind (c ∷ cs) t alone of = absurd (cc alone)

  path_own : (s : State) (access : ℕ) (path : PathForm) → typed.TypedIn p s → is_this access (path_access p.types p.variables path) ≡ true → path.selectors ≡ [] → IsOf access (standing s.heap (place_at (places_of s.activations) path.root))
  path_own s access path typing' own alone =
      let of = access_from p.types p.variables path access (this_is access (path_access p.types p.variables path) own) in
      variable_of_access s access path.root (variable_kind p.variables path.root) typing' refl (stands_so (variable_kind p.variables path.root) path.selectors access alone of)

  stmt_own : (s : State) (f : StmtForm) → typed.TypedIn p s → statement_frees_own p.types p.variables f ≡ true → StmtFreesOwn f s.heap (places_of s.activations)
  stmt_own s (frees access path) typing' own = path_own s access path typing' own
  stmt_own s f typing' own = tt

  -- What is freed of a component.
  same_there : {v w : Value} → Some v ≡ Some w → v ≡ w
  same_there e = cc e

  same_cell : {c d : Cell Value} → finds c ≡ finds d → c ≡ d
  same_cell e = cc e

  held_own : (s : State) (kinds : List OperandKind) (holder own : TypeNo) (o : Id) (x : Object) (c : ℕ) (w : Value) → typed.Ready p kinds s → object_at s.heap o ≡ Some x → Designates (cells_of s.heap) holder.0 o → selected_kind p.types (Some (variable.Access holder)) c ≡ Some (variable.Access own) → slice_get x.cell.values c ≡ Some w → IsOf own.0 (standing s.heap w)
  held_own s kinds holder own o x c w ready at has leads there =
      let held = component_there p o holder c (variable.Access own) x s kinds ready has at leads in
      let same : held.0 ≡ w = same_there (sym held.1 ∙ there) in
      value_of_access s.heap own.0 w (rw same at held.2)

  component_own : (s : State) (kinds : List OperandKind) (holder own : TypeNo) (v : Value) (c : ℕ) (cell : Cell Value) (w : Value) → typed.Ready p kinds s → HasKind p.types (cells_of s.heap) (variable.Access holder) v → selected_kind p.types (Some (variable.Access holder)) c ≡ Some (variable.Access own) → look s.heap v ≡ finds cell → slice_get cell.values c ≡ Some w → IsOf own.0 (standing s.heap w)
  component_own s kinds holder own Null c cell w ready has leads found there = absurd (cc found)
  component_own s kinds holder own (Scalar n) c cell w ready has leads found there = absurd (cc found)
  component_own s kinds holder own (Part o place) c cell w ready has leads found there = absurd (cc found)
  component_own s kinds holder own (Names o) c cell w ready has leads found there = by (object_at s.heap o) refl found
    where
      stays : (x : Object) (stage : Stage) → existing x stage ≡ finds cell → x.cell ≡ cell
      stays x Building found' = same_cell found'
      stays x Existing found' = same_cell found'
      stays x Gone found' = absurd (cc found')

      by : (x : Option Object) → object_at s.heap o ≡ x → seen x ≡ finds cell → IsOf own.0 (standing s.heap w)
      by None at found' = absurd (cc found')
      by (Some x) at found' =
          let same = stays x x.stage found' in
          held_own s kinds holder own o x c w ready at has leads (rw same there)

  operand_own : (s : State) (kinds ks : List OperandKind) (holder own : TypeNo) (operands : List Value) (c : ℕ) (cell : Cell Value) (w : Value) → typed.Ready p kinds s → AreComputed p.types (cells_of s.heap) kinds operands → kinds ≡ of_kind (variable.Access holder) ∷ ks → selected_kind p.types (Some (variable.Access holder)) c ≡ Some (variable.Access own) → look s.heap (first_or Null operands) ≡ finds cell → slice_get cell.values c ≡ Some w → IsOf own.0 (standing s.heap w)
  operand_own s kinds ks holder own [] c cell w ready computed same leads found there = absurd (cc found)
  operand_own s kinds ks holder own (v ∷ vs) c cell w ready computed same leads found there =
      let all : AreComputed p.types (cells_of s.heap) (of_kind (variable.Access holder) ∷ ks) (v ∷ vs) = rw same at computed in
      component_own s kinds holder own v c cell w ready all.0 leads found there

  active_computed : (cells : Cells) (kinds : List OperandKind) (all : List (Activation Value)) → typing.IsActive p.types cells p.variables kinds all → AreComputed p.types cells kinds (operands_of all)
  active_computed cells kinds [] active = absurd active
  active_computed cells kinds (a ∷ rest) active = active.1

  frame_own : (s : State) (f : Frame Value) (k : Control) (kinds : List OperandKind) → typed.TypedIn p s → typed.Ready p kinds s → typed.Fits p (cells_of s.heap) kinds (f ∷ k) → FrameFreesOwn f s.heap (places_of s.activations) (operands_of s.activations)
  frame_own s (Does (a_stmt f fs)) k kinds typing' ready fitting =
      stmt_own s f typing' (apart (statement_frees_own p.types p.variables f) (statements_free_own p.types p.variables fs) (fitting.2.1 whole)).0
  frame_own s (FreesIn access c) k kinds typing' ready (ks, holder, own, same, leads, by_own, more) =
      λ cell w found there.
      subst (λ (t : ℕ). IsOf t (standing s.heap w)) (by_own whole)
      (operand_own s kinds ks holder own (operands_of s.activations) c cell w ready (active_computed (cells_of s.heap) kinds s.activations ready.active) same leads found there)
  frame_own s f k kinds typing' ready fitting = tt

  by_control : (s : State) (k : Control) (kinds : List OperandKind) → typed.TypedIn p s → typed.Ready p kinds s → typed.Fits p (cells_of s.heap) kinds k → NextFreesOwn k s.heap (places_of s.activations) (operands_of s.activations)
  by_control s [] kinds typing' ready fitting = tt
  by_control s (f ∷ k) kinds typing' ready fitting = frame_own s f k kinds typing' ready fitting

  -- Where the operation of a controlled type has ended, nothing is freed next.
  operated_own : (heap : List Object) (values results : List Value) (k : Control) → ends_operation k ≡ true → NextFreesOwn k heap values results
  operated_own heap values results [] ended = tt
  operated_own heap values results (Does fs ∷ k) ended = absurd (cc ended)
  operated_own heap values results (FreesIn access c ∷ k) ended = absurd (cc ended)
  operated_own heap values results (f ∷ k) ended = tt

  -- What the next step frees is of the access type for which the instance is.
  pub next_own : (s : State) → typed.TypedIn p s → s.mode ≡ Running → NextFreesOwn s.control s.heap (places_of s.activations) (operands_of s.activations)
  next_own s (typed.running kinds ready fitting) runs = by_control s s.control kinds (typed.running kinds ready fitting) ready fitting
  next_own s (typed.operated kinds ready ended) runs =
      operated_own s.heap (places_of s.activations) (operands_of s.activations) s.control (operation_ends_there p (cells_of s.heap) kinds s.control ended)
  next_own s (typed.out_of_operation e kinds jumps ended) runs =
      operated_own s.heap (places_of s.activations) (operands_of s.activations) s.control (operation_ends_there p (cells_of s.heap) kinds s.control ended)
  next_own s (typed.on_jump mode jumps goes) runs =
      let same : mode ≡ Running = sym jumps.jumps ∙ runs in
      let nowhere : typed.Goes p (cells_of s.heap) Running s.control = rw same at goes in
      absurd nowhere

-- None of these objects that is of one of these access types, and in its collection, has an operation that runs behind this (7.6.1).
abbrev pub ListedAlone : (may : ℕ → Bool) → (Id → Type 0) → List Object → Control → Type 0
ListedAlone may Freed heap k =
    (o : Id) (x : Object) → Freed o → object_at heap o ≡ Some x → x.listed ≡ true → may x.cell.access ≡ true → NoOperationRunsOn (Names o) k

-- Where the innermost master is left next, no operation of an object in it runs behind this (7.6.1).
abbrev pub LeftAlone : List Object → List Master → Control → Type 0
LeftAlone heap ms [] = Unit {0}
LeftAlone heap ms (Leaves left ∷ k) =
    (o : Id) (x : Object) → object_at heap o ≡ Some x → x.listed ≡ true → is_innermost ms x.cell.home.item ≡ true → NoOperationRunsOn (Names o) k
LeftAlone heap ms (f ∷ k) = Unit {0}

-- None runs of an object that does not exist (7.6).
abbrev pub Unborn : List Object → Control → Type 0
Unborn heap k = (o : Id) → (NamesExisting heap (Names o) → ⊥) → NoOperationRunsOn (Names o) k

-- What a component names that is freed next does so in an object that is found.
component_next :
    (heap : List Object) (v : Value) (c : ℕ) (cell : Cell Value) (w : Value) (o : Id) → look heap v ≡ finds cell → slice_get cell.values c ≡ Some w → w ≡ Names o
    → (p : Id) × (holder : Object) × (v ≡ Names p) × (object_at heap p ≡ Some holder) × (slice_get holder.cell.values c ≡ Some (Names o))
component_next heap Null c cell w o found there names = absurd (cc found)
component_next heap (Scalar n) c cell w o found there names = absurd (cc found)
component_next heap (Part p place) c cell w o found there names = absurd (cc found)
component_next heap (Names p) c cell w o found there names = by (object_at heap p) refl found
  where
    cell_is : (x : Object) (stage : Stage) → existing x stage ≡ finds cell → x.cell ≡ cell
    cell_is x Building found' = cc found'
    cell_is x Existing found' = cc found'
    cell_is x Gone found' = absurd (cc found')

    by : (x : Option Object) → object_at heap p ≡ x → seen x ≡ finds cell
        → (q : Id) × (holder : Object) × (Names p ≡ Names q) × (object_at heap q ≡ Some holder) × (slice_get holder.cell.values c ≡ Some (Names o))
    by None at found' = absurd (cc found')
    by (Some x) at found' =
        let same = cell_is x x.stage found' in
        (p, x, refl, at, rw same (there ∙ ap Some names))

module _ (frugal : Allowance) (tds : List TypeDefinition) where
  -- What is found of an object may be freed: nothing is to be done for it, or bodies may free what has controlled parts, and none of its operations runs behind
  -- this.
  abbrev pub IsFreely : Control → Value → Found (Cell Value) → Type 0
  IsFreely k v on_null = Unit {0}
  IsFreely k v on_gone = Unit {0}
  IsFreely k v on_other = Unit {0}
  IsFreely k v (finds cell) = (all_tasks tds cell.access WholeFirst ≡ []) ⊎ ((frugal.treats_parts ≡ true) × NoOperationRunsOn v k)

  -- So it is of the object that a statement frees that a variable names.
  abbrev pub StmtIsFreely : StmtForm → Control → List Object → (places : List Value) → Type 0
  StmtIsFreely (frees access path) k heap places = path.selectors ≡ [] → IsFreely k (place_at places path.root) (standing heap (place_at places path.root))
  StmtIsFreely f k heap places = Unit {0}

  -- Where a body assigns to a record, none runs of the object in which that lies (5.2), unless it is the body of an operation itself, and none is called for the
  -- record.
  abbrev pub IsBeside : (record_type : ℕ) → Control → (operands : List Value) → Type 0
  IsBeside t k operands =
      (own_in k ≡ true → is_inert frugal t ≡ false) → (o : Id) (place : Place) → first_or Null (older operands) ≡ Part o place → NoOperationRunsOn (Names o) k

  abbrev pub AssignsBeside : Control → (operands : List Value) → Type 0
  AssignsBeside (Assigns t ∷ k) operands = IsBeside t k operands
  AssignsBeside k operands = Unit {0}

  -- And of the one that a frame frees that a component names.
  abbrev pub FrameIsFreely : Frame Value → Control → List Object → (places operands : List Value) → Type 0
  FrameIsFreely (Does (a_stmt f fs)) k heap places operands = StmtIsFreely f (Does fs ∷ k) heap places
  FrameIsFreely (FreesIn access c) k heap places operands =
      (cell : Cell Value) (w : Value) → look heap (first_or Null operands) ≡ finds cell → slice_get cell.values c ≡ Some w → IsFreely k w (standing heap w)
  FrameIsFreely (Assigns t) k heap places operands = IsBeside t k operands
  FrameIsFreely f k heap places operands = Unit {0}

  -- And of the first frame.
  abbrev pub NextIsFreely : Control → List Object → (places operands : List Value) → Type 0
  NextIsFreely [] heap places operands = Unit {0}
  NextIsFreely (f ∷ k) heap places operands = FrameIsFreely f k heap places operands

  module _ (bare : ObjectIsBare frugal.types tds) (may : ℕ → Bool) (Freed : Id → Type 0) (heap : List Object) (k : Control) (alone : frugal.treats_parts ≡ true → ListedAlone may Freed heap k) where
    bare_freely : (v : Value) (access : ℕ) (found : Found (Cell Value)) → has_bare_objects frugal.types access ≡ true → IsOf access found → IsFreely k v found
    bare_freely v access on_null has of = tt
    bare_freely v access on_gone has of = tt
    bare_freely v access on_other has of = tt
    bare_freely v access (finds cell) has of = inl (bare cell.access WholeFirst (bare_holds frugal.types cell.access (rw of has)))

    alone_freely : (v : Value) (access : ℕ) → ((o : Id) → v ≡ Names o → Freed o) → frugal.treats_parts ≡ true → may access ≡ true → IsOf access (standing heap v)
        → IsFreely k v (standing heap v)
    alone_freely Null access next treats_parts freed of = tt
    alone_freely (Scalar n) access next treats_parts freed of = tt
    alone_freely (Part o place) access next treats_parts freed of = tt
    alone_freely (Names o) access next treats_parts freed of = by (object_at heap o) refl of
      where
        stands : (x : Object) → object_at heap o ≡ Some x → (listed alive : Bool) → x.listed ≡ listed → IsOf access (if listed && alive then finds x.cell else on_gone) → IsFreely k (Names o) (if listed && alive then finds x.cell else on_gone)
        stands x at true true is of' = inr (treats_parts, alone treats_parts o x (next o refl) at is (rw of' freed))
        stands x at true false is of' = tt
        stands x at false alive is of' = tt

        by : (x : Option Object) → object_at heap o ≡ x → IsOf access (standing_by x) → IsFreely k (Names o) (standing_by x)
        by None at of' = tt
        by (Some x) at of' = stands x at x.listed (all_alive x.cell.parts) refl of'

    is_freely : (v : Value) (access : ℕ) → ((o : Id) → v ≡ Names o → Freed o) → may_treat frugal access ≡ true → may access ≡ true → IsOf access (standing heap v)
        → IsFreely k v (standing heap v)
    is_freely v access next may_so freed of = by frugal.treats_parts refl may_so
      where
        by : (treats_parts : Bool) → frugal.treats_parts ≡ treats_parts → (treats_parts || has_bare_objects frugal.types access) ≡ true → IsFreely k v (standing heap v)
        by true is either = alone_freely v access next is freed of
        by false is has = bare_freely v access (standing heap v) has of

  -- What is freed next in a frugal body may be so, where it is among these access types.
  pub next_freely :
      ObjectIsBare frugal.types tds → (may : ℕ → Bool) (behind : Control) (among : List Value) (heap : List Object) (values results : List Value) (k : Control) (ms : List Master)
      → (frugal.treats_parts ≡ true → ListedAlone may (IsFreedNext heap values results k) heap k) → (frugal.treats_parts ≡ true → AssignsBeside k results)
      → FrugalLeads frugal behind among k ms → FreesAmong may k → NextFreesOwn k heap values results → NextIsFreely k heap values results
  next_freely bare may behind among heap values results [] ms alone beside q freely own = tt
  next_freely bare may behind among heap values results (Does (a_stmt (frees access path) fs) ∷ k) ms alone beside q freely own =
      λ stands. is_freely bare may (IsFreedNext heap values results (Does (a_stmt (frees access path) fs) ∷ k)) heap (Does fs ∷ k) alone (place_at values path.root) access
      (λ o names. (stands, names)) (apart (may_treat frugal access) (are_thrifty frugal fs) q.0).0 freely (own stands)
  next_freely bare may behind among heap values results (FreesIn access c ∷ k) ms alone beside q freely own =
      λ cell w found there.
      is_freely bare may (IsFreedNext heap values results (FreesIn access c ∷ k)) heap k alone w access
      (λ o names. component_next heap (first_or Null results) c cell w o found there names) q.0 freely (own cell w found there)
  next_freely bare may behind among heap values results (Assigns t ∷ k) ms alone beside q freely own = beside (assigned_parts frugal t q.0).0
  next_freely bare may behind among heap values results (f ∷ k) ms alone beside q freely own = tt

-- Where bodies treat no objects with controlled parts, what is freed next has none.
pub frees_bare : (frugal : Allowance) → frugal.treats_parts ≡ false → (behind : Control) (among : List Value) (mode : Mode) (k : Control) (ms : List Master)
    → Frugal frugal behind among mode k ms → FreesAmong (has_bare_objects frugal.types) k
frees_bare frugal none behind among mode [] ms q = tt
frees_bare frugal none behind among mode (Does (a_stmt (frees access path) fs) ∷ k) ms (inl q) =
    let may = (apart (may_treat frugal access) (are_thrifty frugal fs) q.0).0 in rw none at may
frees_bare frugal none behind among mode (Does (a_stmt (frees access path) fs) ∷ k) ms (inr (inl leaving)) = absurd leaving.1
frees_bare frugal none behind among mode (Does (a_stmt (frees access path) fs) ∷ k) ms (inr (inr beginning)) = absurd beginning.1
frees_bare frugal none behind among mode (FreesIn access c ∷ k) ms (inl q) = let may = q.0 in rw none at may
frees_bare frugal none behind among mode (FreesIn access c ∷ k) ms (inr (inl leaving)) = absurd leaving.1
frees_bare frugal none behind among mode (FreesIn access c ∷ k) ms (inr (inr beginning)) = absurd beginning.1
frees_bare frugal none behind among mode (f ∷ k) ms q = tt

-- For a new object there is nothing to do; or bodies may create those with controlled parts, and none of its operations runs behind this, as none of an object
-- that is still to be created does.
abbrev pub IsNewly : Allowance → List TypeDefinition → (access : ℕ) → List Object → Control → Type 0
IsNewly frugal tds access heap k =
    (all_tasks tds access PartsFirst ≡ [])
    ⊎ ((frugal.objects ≡ true) × NoOperationRunsOn (Names (next_id heap)) k)

-- An object that has not been created does not exist.
pub past_unborn : (heap : List Object) → NamesExisting heap (Names (next_id heap)) → ⊥
past_unborn heap (o, is, x, found, stage) =
    let same : o ≡ next_id heap = cc is in
    let none = at_past heap in
    cc (same, found, none)

-- What such a body allocates is so.
pub is_newly :
    (frugal : Allowance) (tds : List TypeDefinition) → ObjectIsBare frugal.types tds → (access : ℕ) (heap : List Object) (k : Control) → (frugal.objects ≡ true → Unborn heap k)
    → may_create frugal access ≡ true → IsNewly frugal tds access heap k
is_newly frugal tds bare access heap k unborn may = by frugal.objects refl may
  where
    by : (objects : Bool) → frugal.objects ≡ objects → (objects || has_bare_objects frugal.types access) ≡ true → IsNewly frugal tds access heap k
    by true is either = inr (is, unborn is (next_id heap) (past_unborn heap))
    by false is has = inl (bare access PartsFirst (bare_holds frugal.types access has))
