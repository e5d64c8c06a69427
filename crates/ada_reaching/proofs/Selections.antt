-- What selectors lead to, and what objects hold: facts of kinds.

use Rattle.std.proofs.Common.{◌≡◌, ℕ, zero, suc, Bool, true, false, ◌&&◌, List, [], ◌∷◌, map, Option, Some, None, refl, sym, ap, ◌∙◌, subst}
use Rattle.std.specs.Prelude.{is_some, not}
use Rattle.std.specs.List.{list_all, slice_get}
use Rattle.ada_program.specs.declared.program.ComponentKind.{ComponentKind}
use Rattle.ada_program.specs.declared.program.ComponentKind.TheVariants as component
use Rattle.ada_program.specs.declared.program.Finalization.{Finalization}
use Rattle.ada_program.specs.declared.program.TypeDefinition.{TypeDefinition}
use Rattle.ada_program.specs.declared.program.VariableKind.{VariableKind}
use Rattle.ada_program.specs.declared.program.VariableKind.TheVariants as variable
use Rattle.ada_program.proofs.Shapes.{same_number}
use Rattle.ada_program.specs.Controlled.{number_in, number_of, number_reached, shapes_of}
use Rattle.ada_program.specs.Form.{PathForm}
use Rattle.ada_program.specs.ProgramForm.{TypeForm, record_of, access_to, object_of, VariableForm, type_form}
use Rattle.ada_program.specs.WellFormed.{value_access, access_of, component_kind, held_kind, kind_among, reached_components, selected_kind, selectors_kind, root_kind, path_kind, variable_kind, finalization_of, named_in, object_named, components_in, components_reached, kind_fits, parent_first, says_parts, is_numbered_alone, type_fits}
use Rattle.ada_parts.specs.declared.tasks.Direction.{Direction}
use Rattle.ada_parts.specs.Shape.{Shape}
use Rattle.ada_meaning.specs.declared.event.Cause.TheVariants.{Assigning}
use Rattle.ada_meaning.specs.declared.state.Id.{Id}
use Rattle.ada_meaning.specs.declared.state.Value.{Value}
use Rattle.ada_meaning.specs.declared.state.Value.TheVariants.{Names}
use Rattle.ada_meaning.specs.Frame.{Frame, ends}
use Rattle.ada_meaning.specs.Frame as frame
use Rattle.ada_meaning.specs.Step.{has_parts, all_tasks, record_tasks, tasks_for, tasks_in, before_last, last_of}
use Rattle.ada_meaning.specs.Named.{Object, object_at}
use Rattle.ada_quiet.specs.Bare.{has_bare_objects, is_bare_access}
use Rattle.ada_quiet.specs.Idle.{has_parts as record_has_parts, holds_parts}
use Rattle.ada_deeds.proofs.Naming.{all_at}
use Rattle.ada_typed.specs.Holding.{Cells, HasKind, HaveKinds, cells_of}
use Rattle.ada_typed.proofs.Evaluations.{cell_at, own_access}
use Rattle.ada_typed.proofs.OfKinds.{and_both}
use Rattle.ada_typed.proofs.Operators.{and_left, and_right}
use Rattle.ada_typed.proofs.Parts.{known_number, shown_number}
use Rattle.ada_typed.proofs.Values.{AreFilled, filled_at, root_same}
use Rattle.ada_reaching.specs.Apart.{Apart}
use Rattle.ada_reaching.specs.Reaching.{Seeks}
use Rattle.ada_reaching.specs.Forms.{may_follow, selectors_shun}

-- A path leads on from a kind of its variable.
pub record IsRooted (types : List TypeForm) (variables : List VariableForm) (x : ℕ) (cs : List ℕ) (to : VariableKind) : Type 0 where
  pub from : VariableKind
  pub held : variable_kind variables x ≡ Some from
  pub leads : selectors_kind types (Some from) cs ≡ Some to

-- What the components of a record type hold is of types of the program (3.8).
components_fit :
    (types : List TypeForm) (o : Option TypeForm) (kinds : List ComponentKind) → ((form : TypeForm) → o ≡ Some form → type_fits types form ≡ true)
    → components_in o ≡ Some kinds → list_all (kind_fits types) kinds ≡ true
components_fit types None kinds fit is = absurd (cc)
components_fit types (Some (record_of name parts components finalization)) kinds fit is =
    let same : components ≡ kinds = cc in
    let own = list_all (kind_fits types) components in
    let first = parent_first parts in
    let says = says_parts types finalization parts in
    subst (λ (ks : List ComponentKind). list_all (kind_fits types) ks ≡ true) same
    (and_left own first (and_left (own && first) says
    (and_left (own && first && says) (is_numbered_alone types finalization) (fit (record_of name parts components finalization) refl))))
components_fit types (Some (access_to name designated pool)) kinds fit is = absurd (cc)
components_fit types (Some (object_of record_type)) kinds fit is = absurd (cc)

-- So it is with those of objects.
pub reached_fit :
    (types : List TypeForm) (o : Option ℕ) (kinds : List ComponentKind) → list_all (type_fits types) types ≡ true
    → components_reached types o ≡ Some kinds → list_all (kind_fits types) kinds ≡ true
reached_fit types None kinds fit is = absurd (cc)
reached_fit types (Some t) kinds fit is =
    components_fit types (slice_get types t) kinds (λ form at. all_at (type_fits types) types t form fit at) is

-- Behind nothing selectors lead nowhere.
selectors_nowhere : (types : List TypeForm) (cs : List ℕ) → selectors_kind types None cs ≡ None
selectors_nowhere types [] = refl
selectors_nowhere types (c ∷ cs) = selectors_nowhere types cs

-- Where selectors lead somewhere, something is held where they begin.
pub begun_somewhere :
    (types : List TypeForm) (o : Option VariableKind) (cs : List ℕ) (to : VariableKind) → selectors_kind types o cs ≡ Some to
    → (from : VariableKind) × (o ≡ Some from)
begun_somewhere types None cs to leads = let never : None ≡ Some to = sym (selectors_nowhere types cs) ∙ leads in absurd (cc)
begun_somewhere types (Some from) cs to leads = (from, refl)

-- A path begins with a variable of a kind, if it leads somewhere.
pub rooted :
    (types : List TypeForm) (variables : List VariableForm) (path : PathForm) (to : VariableKind) → path_kind types variables path ≡ Some to
    → IsRooted types variables path.root path.selectors to
rooted types variables path to leads =
    let begun = begun_somewhere types (root_kind path.of_record (variable_kind variables path.root)) path.selectors to leads in
    record {
      from = begun.0;
      held = root_same path.of_record (variable_kind variables path.root) begun.0 begun.1;
      leads = ap (λ (kind : Option VariableKind). selectors_kind types kind path.selectors) (sym begun.1) ∙ leads;
    }

module _ (types : List TypeForm) (shuns : ℕ → Bool) where
  -- Where selectors follow nothing that is shunned, the first one does not.
  pub shun_first : (kind : Option VariableKind) (c : ℕ) (cs : List ℕ) → selectors_shun types shuns kind (c ∷ cs) ≡ true → may_follow shuns kind ≡ true
  shun_first kind c cs h = and_left (may_follow shuns kind) (selectors_shun types shuns (selected_kind types kind c) cs) h

  -- Those behind it do not.
  pub shun_behind :
      (kind : Option VariableKind) (c : ℕ) (cs : List ℕ) → selectors_shun types shuns kind (c ∷ cs) ≡ true
      → selectors_shun types shuns (selected_kind types kind c) cs ≡ true
  shun_behind kind c cs h = and_right (may_follow shuns kind) (selectors_shun types shuns (selected_kind types kind c) cs) h

  -- Those before the last one do not.
  pub shun_before :
      (kind : Option VariableKind) (c : ℕ) (cs : List ℕ) → selectors_shun types shuns kind (c ∷ cs) ≡ true
      → selectors_shun types shuns kind (before_last c cs) ≡ true
  shun_before kind c [] h = refl
  shun_before kind c (d ∷ cs) h =
      and_both (may_follow shuns kind) (selectors_shun types shuns (selected_kind types kind c) (before_last d cs)) (shun_first kind c (d ∷ cs) h)
      (shun_before (selected_kind types kind c) d cs (shun_behind kind c (d ∷ cs) h))

  -- The last one follows what those before it lead to.
  pub shun_holder :
      (kind : Option VariableKind) (c : ℕ) (cs : List ℕ) → selectors_shun types shuns kind (c ∷ cs) ≡ true
      → may_follow shuns (selectors_kind types kind (before_last c cs)) ≡ true
  shun_holder kind c [] h = shun_first kind c [] h
  shun_holder kind c (d ∷ cs) h = shun_holder (selected_kind types kind c) d cs (shun_behind kind c (d ∷ cs) h)

  -- Selectors lead to what the last of them selects behind the others.
  pub last_kind :
      (kind : Option VariableKind) (c : ℕ) (cs : List ℕ)
      → selected_kind types (selectors_kind types kind (before_last c cs)) (last_of c cs) ≡ selectors_kind types kind (c ∷ cs)
  last_kind kind c [] = refl
  last_kind kind c (d ∷ cs) = last_kind (selected_kind types kind c) d cs

  module _ (apart : Apart) where
    -- From what is held selectors follow nothing that is shunned, and neither does what is sought behind them.
    abbrev pub LeadsShunning : Option VariableKind → (selectors : List ℕ) → List (Frame Value) → Type 0
    LeadsShunning kind cs k =
        (selectors_shun types shuns kind cs ≡ true)
        × ((u : ℕ) → value_access (selectors_kind types kind cs) ≡ Some u → Seeks types shuns apart (not (shuns u)) u k)

    -- What may be sought of an object that may not always be followed may be sought of one that may.
    pub seeks_weaker :
        (may more : Bool) (access : ℕ) (k : List (Frame Value)) → (may ≡ true → more ≡ true) → Seeks types shuns apart may access k
        → Seeks types shuns apart more access k
    seeks_weaker may more access [] weaker h = tt
    seeks_weaker may more access (frame.Follows [] ∷ k) weaker h = seeks_weaker may more access k weaker h
    seeks_weaker may more access (frame.Follows (c ∷ cs) ∷ k) weaker h = (weaker h.0, h.1, h.2)
    seeks_weaker may more access (frame.RefersIn place t ∷ k) weaker h = weaker h
    seeks_weaker may more access (frame.OpensIn c ∷ k) weaker h = weaker h
    seeks_weaker may more access (frame.Targets c right ∷ k) weaker h = weaker h
    seeks_weaker may more access (frame.TargetsRecord c t items ∷ k) weaker h = weaker h
    seeks_weaker may more access (frame.Copies c t ∷ k) weaker h = weaker h
    seeks_weaker may more access (frame.Receives c ∷ k) weaker h = weaker h
    seeks_weaker may more access (frame.FreesIn t c ∷ k) weaker h = (weaker h.0, h.1, h.2)
    seeks_weaker may more access (frame.Treats v (ends (Assigning number)) tasks ∷ k) weaker h = weaker h
    seeks_weaker may more access (frame.Confines ∷ k) weaker h = λ copies. weaker (h copies)
    seeks_weaker may more access (f ∷ k) weaker h = tt

-- An access value that may be followed is of a type that is not shunned.
pub followed : (shuns : ℕ → Bool) (kind : Option VariableKind) (u : ℕ) → value_access kind ≡ Some u → may_follow shuns kind ≡ true → not (shuns u) ≡ true
followed shuns None u is may = absurd (cc)
followed shuns (Some variable.Integer) u is may = absurd (cc)
followed shuns (Some variable.Boolean) u is may = absurd (cc)
followed shuns (Some (variable.Access access)) u is may = let same : access.0 ≡ u = cc in rw (← same) may
followed shuns (Some (variable.Record object)) u is may = absurd (cc)

-- What access values name is of their type.
pub valued : (kind : Option VariableKind) (u : ℕ) → value_access kind ≡ Some u → access_of kind ≡ Some u
valued None u is = absurd (cc)
valued (Some variable.Integer) u is = absurd (cc)
valued (Some variable.Boolean) u is = absurd (cc)
valued (Some (variable.Access access)) u is = is
valued (Some (variable.Record object)) u is = absurd (cc)

-- What a component holds is of its kind.
component_of :
    (types : List TypeForm) (cells : Cells) (cs : List ComponentKind) (vs : List Value) (c : ℕ) (v : Value) → HaveKinds types cells cs vs
    → slice_get vs c ≡ Some v → (kind : ComponentKind) × (slice_get cs c ≡ Some kind) × HasKind types cells (held_kind kind) v
component_of types cells [] [] c v h at = absurd (cc)
component_of types cells [] (u ∷ vs) c v h at = absurd h
component_of types cells (k ∷ cs) [] c v h at = absurd h
component_of types cells (k ∷ cs) (u ∷ vs) zero v h at = let same : u ≡ v = cc in (k, refl, rw (← same) h.0)
component_of types cells (k ∷ cs) (u ∷ vs) (suc c) v h at = component_of types cells cs vs c v h.1 at

module _ (types : List TypeForm) (heap : List Object) (filled : AreFilled types (cells_of heap) (cells_of heap)) where
  -- What a component of an object holds is of its kind, and that is of a type of the program.
  pub held_in :
      (o : Id) (x : Object) (c : ℕ) (v : Value) → object_at heap o ≡ Some x → slice_get x.cell.values c ≡ Some v
      → (kind : ComponentKind) × (kind_among (reached_components types x.cell.access) c ≡ Some (held_kind kind))
      × HasKind types (cells_of heap) (held_kind kind) v × (list_all (type_fits types) types ≡ true → kind_fits types kind ≡ true)
  held_in o x c v at there =
      let own = filled_at types (cells_of heap) (cells_of heap) o.0 x.cell filled (cell_at heap o.0 x at) in
      let f = component_of types (cells_of heap) own.0 x.cell.values c v own.2 there in (
        f.0,
        ap (λ (found : Option (List ComponentKind)). kind_among found c) own.1 ∙ ap component_kind f.1,
        f.2,
        λ fit. all_at (kind_fits types) own.0 c f.0 (reached_fit types (named_in (slice_get types x.cell.access)) own.0 fit own.1) f.1,
      )

  -- Where a component names an object, it is of the access type of that.
  pub named_kind :
      (kind : ComponentKind) (o : Id) (x : Object) → HasKind types (cells_of heap) (held_kind kind) (Names o) → object_at heap o ≡ Some x
      → held_kind kind ≡ variable.Access (record { 0 = x.cell.access })
  named_kind (component.Integer initial) o x has at = absurd has
  named_kind (component.Boolean initial) o x has at = absurd has
  named_kind (component.Access access) o x has at = ap (λ (i : ℕ). variable.Access (record { 0 = i })) (sym (own_access heap o access.0 x has at))

  -- What names an object is of its access type.
  pub named_access :
      (kind : VariableKind) (o : Id) (x : Object) → HasKind types (cells_of heap) kind (Names o) → object_at heap o ≡ Some x
      → access_of (Some kind) ≡ Some x.cell.access
  named_access variable.Integer o x has at = absurd has
  named_access variable.Boolean o x has at = absurd has
  named_access (variable.Access access) o x has at = ap Some (sym (own_access heap o access.0 x has at))
  named_access (variable.Record object) o x has at = ap Some (sym (own_access heap o object.0 x has at))

-- A record type has no number among those that have controlled parts, where it has no Finalize.
none_numbered : (o : Option Finalization) → not (is_some o) ≡ true → number_in o ≡ None
none_numbered None none = refl
none_numbered (Some f) none = absurd (cc)

-- What such a type designates has no number among the record types that have controlled parts.
bare_number : (types : List TypeForm) (found : Option TypeForm) → is_bare_access types found ≡ true → shown_number types (named_in found) ≡ None
bare_number types None is = absurd (cc)
bare_number types (Some (record_of name parts components finalization)) is = absurd (cc)
bare_number types (Some (access_to name designated pool)) is = none_numbered (finalization_of types designated) is
bare_number types (Some (object_of record_type)) is = absurd (cc)

-- Nothing is to be done for an object without controlled parts, neither to initialize nor to finalize it.
pub bare_tasks :
    (tds : List TypeDefinition) (types : List TypeForm) (access : ℕ) (direction : Direction) → map type_form tds ≡ types → has_bare_objects types access ≡ true
    → all_tasks tds access direction ≡ []
bare_tasks tds types access direction shown is =
    let number : number_reached tds access ≡ None = sym (known_number tds types access shown) ∙ bare_number types (slice_get types access) is in
    ap (tasks_for (shapes_of tds) direction) number

-- Nor has a record type without controlled parts a number among those, if it is one.
none_shown : (types : List TypeForm) (record_type : Option ℕ) → not (record_has_parts types record_type) ≡ true → shown_number types record_type ≡ None
none_shown types None none = refl
none_shown types (Some r) none = none_numbered (finalization_of types r) none

-- So nothing is to be done for an object of which that is known (3.3.1).
pub bare_object :
    (tds : List TypeDefinition) (types : List TypeForm) (t : ℕ) (direction : Direction) → map type_form tds ≡ types → not (holds_parts types t) ≡ true
    → all_tasks tds t direction ≡ []
bare_object tds types t direction shown is =
    let number : number_reached tds t ≡ None = sym (known_number tds types t shown) ∙ none_shown types (object_named types (Some t)) is in
    ap (tasks_for (shapes_of tds) direction) number

-- What is to be done for an object is that for its record (3.3.1).
same_tasks : (shapes : List Shape) (direction : Direction) (n : Option ℕ) → tasks_for shapes direction n ≡ tasks_in shapes direction n 0
same_tasks shapes direction None = refl
same_tasks shapes direction (Some n) = refl

pub object_tasks :
    (tds : List TypeDefinition) (types : List TypeForm) (t r : ℕ) (direction : Direction) → map type_form tds ≡ types → object_named types (Some t) ≡ Some r
    → all_tasks tds t direction ≡ record_tasks tds r direction 0
object_tasks tds types t r direction shown named =
    let number : number_reached tds t ≡ number_of tds (Some r) =
    sym (known_number tds types t shown) ∙ ap (shown_number types) named ∙ sym (same_number tds r ∙ ap (λ (ts : List TypeForm). number_in (finalization_of ts r)) shown) in
    ap (tasks_for (shapes_of tds) direction) number ∙ same_tasks (shapes_of tds) direction (number_of tds (Some r))

-- A record has no controlled parts whose type has none.
pub bare_record :
    (tds : List TypeDefinition) (types : List TypeForm) (t : ℕ) → map type_form tds ≡ types → not (is_some (finalization_of types t)) ≡ true
    → has_parts tds t ≡ false
bare_record tds types t shown is =
    ap is_some (same_number tds t ∙ ap (λ (ts : List TypeForm). number_in (finalization_of ts t)) shown ∙ none_numbered (finalization_of types t) is)
