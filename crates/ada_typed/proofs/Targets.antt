-- What is assigned to a component, or taken for it from the input, is of its kind.

use Rattle.ada_typed.specs.Holding.{Cells, Designates, IsAccess, HasKind, cells_of}
use Rattle.std.proofs.Common.{◌≡◌, ℕ, ℤ, true, List, [], ◌∷◌, Option, Some, None, refl, sym, ap, ◌∙◌, subst}
use Rattle.std.proofs.lemmas.List.{map-set}
use Rattle.std.specs.List.{slice_get, slice_set}
use Rattle.ada_program.specs.declared.program.ComponentKind.{ComponentKind}
use Rattle.ada_program.specs.declared.program.Exception.TheVariants.{ConstraintError, EndError}
use Rattle.ada_program.specs.declared.program.TypeNo.{TypeNo}
use Rattle.ada_program.specs.declared.program.VariableKind.{VariableKind}
use Rattle.ada_program.specs.declared.program.VariableKind.TheVariants as variable
use Rattle.ada_program.specs.Form.{RightForm}
use Rattle.ada_program.specs.ProgramForm.{ProgramForm}
use Rattle.ada_program.specs.WellFormed.{reached_components, component_kind, kind_among, selected_kind, kind_takes}
use Rattle.ada_meaning.specs.declared.state.Id.{Id}
use Rattle.ada_meaning.specs.declared.state.Value.{Value}
use Rattle.ada_meaning.specs.declared.state.Value.TheVariants.{Null, Names, Scalar, Part}
use Rattle.ada_meaning.specs.declared.state.Stage.{Stage}
use Rattle.ada_meaning.specs.declared.state.Stage.TheVariants.{Building, Existing, Gone}
use Rattle.ada_meaning.specs.Frame.{Frame}
use Rattle.ada_meaning.specs.Frame as frame
use Rattle.ada_meaning.specs.Heap.{Cell}
use Rattle.ada_meaning.specs.Step.{computed, opened_next, opens_next, target_next, stored_next, store_next, received_next, receive_next}
use Rattle.ada_meaning.specs.Named.{Object, State, named, look, seen, existing, changed, filled, store, an_integer}
use Rattle.ada_typed.proofs.Values.{OperandKind, of_kind, refers_to, AreFilled, IsActive, StayDesignated, kinds_later, filled_later, active_later, designated_set, filled_set, kinds_set, component_held, filled_at, parts_at}
use Rattle.ada_typed.proofs.Later.{fits_later}
use Rattle.ada_typed.proofs.Control.{IsName, Fits, Ready, running}
use Rattle.ada_typed.proofs.Evaluations.{Fine, cell_at, own_access, ready_at, ready_push, ready_refer, raises}

-- The cell of an object whose component has another value.
abbrev filled_cell : ℕ → Value → Cell Value → Cell Value
filled_cell c v cell = record cell { values = slice_set cell.values c v }

module _ (p : ProgramForm) where
  -- The object is there whose component is assigned to.
  target_stage : (stage : Stage) (o : Id) (access : TypeNo) (c : ℕ) (right : RightForm) (kind : VariableKind) (object : Object) (s : State) (kinds : List OperandKind) → Ready p kinds s → Designates (cells_of s.heap) access.0 o → selected_kind p.types (Some (variable.Access access)) c ≡ Some kind → kind_takes p.types p.variables kind right ≡ true → Fits p (cells_of s.heap) kinds s.control → Fine p (target_next named (Names o) c right (existing object stage) s)
  target_stage Gone o access c right kind object s kinds ready has leads takes fits = tt
  target_stage Building o access c right kind object s kinds ready has leads takes fits =
      running kinds (ready_at p kinds s (frame.Evaluates right ∷ frame.StoresIn (Names o) c ∷ s.control) ready ready.deep) (kind, takes, (kinds, access, kind, refl, tt, has, leads, fits))
  target_stage Existing o access c right kind object s kinds ready has leads takes fits =
      running kinds (ready_at p kinds s (frame.Evaluates right ∷ frame.StoresIn (Names o) c ∷ s.control) ready ready.deep) (kind, takes, (kinds, access, kind, refl, tt, has, leads, fits))

  target_seen : (at_o : Option Object) (o : Id) (access : TypeNo) (c : ℕ) (right : RightForm) (kind : VariableKind) (s : State) (kinds : List OperandKind) → Ready p kinds s → Designates (cells_of s.heap) access.0 o → selected_kind p.types (Some (variable.Access access)) c ≡ Some kind → kind_takes p.types p.variables kind right ≡ true → Fits p (cells_of s.heap) kinds s.control → Fine p (target_next named (Names o) c right (seen at_o) s)
  target_seen None o access c right kind s kinds ready has leads takes fits = tt
  target_seen (Some object) o access c right kind s kinds ready has leads takes fits = target_stage object.stage o access c right kind object s kinds ready has leads takes fits

  pub target_fine : (v : Value) (access : TypeNo) (c : ℕ) (right : RightForm) (kind : VariableKind) (s : State) (kinds : List OperandKind) → Ready p kinds s → HasKind p.types (cells_of s.heap) (variable.Access access) v → selected_kind p.types (Some (variable.Access access)) c ≡ Some kind → kind_takes p.types p.variables kind right ≡ true → Fits p (cells_of s.heap) kinds s.control → Fine p (target_next named v c right (look s.heap v) s)
  target_fine Null access c right kind s kinds ready has leads takes fits = raises p kinds kinds ConstraintError s ready fits
  target_fine (Names o) access c right kind s kinds ready has leads takes fits = target_seen (slice_get s.heap o.0) o access c right kind s kinds ready has leads takes fits
  target_fine (Scalar v) access c right kind s kinds ready has leads takes fits = absurd has
  target_fine (Part o place) access c right kind s kinds ready has leads takes fits = absurd has

  -- A component gets a value of its kind: then each object has what its type says, what is left to do fits, and names are of the types that they were.
  pub record Stored (kinds : List OperandKind) (s : State) (heap : List Object) : Type 0 where
    pub filled : AreFilled p.types (cells_of heap) (cells_of heap)
    pub active : IsActive p.types (cells_of heap) p.variables kinds s.activations
    pub fits : Fits p (cells_of heap) kinds s.control
    pub stay : StayDesignated (cells_of s.heap) (cells_of heap)

  stored_at : (o : Id) (access : TypeNo) (c : ℕ) (v : Value) (kind : VariableKind) (object : Object) (s : State) (kinds : List OperandKind) (heap : List Object) → Ready p kinds s → Designates (cells_of s.heap) access.0 o → slice_get s.heap o.0 ≡ Some object → selected_kind p.types (Some (variable.Access access)) c ≡ Some kind → HasKind p.types (cells_of s.heap) kind v → Fits p (cells_of s.heap) kinds s.control → cells_of heap ≡ slice_set (cells_of s.heap) o.0 (filled_cell c v object.cell) → Stored kinds s heap
  stored_at o access c v kind object s kinds heap ready has is leads fitting fits are =
      let cells = cells_of s.heap in
      let cell = filled_cell c v object.cell in
      let after = slice_set cells o.0 cell in
      let there : slice_get cells o.0 ≡ Some object.cell = cell_at s.heap o.0 object is in
      let stay : StayDesignated cells after = designated_set cells o.0 object.cell cell there refl in
      let own = filled_at p.types cells cells o.0 object.cell ready.filled there in
      let reached : reached_components p.types access.0 ≡ Some own.0 = ap (reached_components p.types) (sym (own_access s.heap o access.0 object has is)) ∙ own.1 in
      let here : component_kind (slice_get own.0 c) ≡ Some kind = sym (ap (λ (found : Option (List ComponentKind)). kind_among found c) reached) ∙ leads in
      let values = kinds_later p.types cells after stay own.0 cell.values (kinds_set p.types cells own.0 object.cell.values c kind v own.2 here fitting) in
      record {
        filled = subst (λ (cs : Cells). AreFilled p.types cs cs) (sym are) (filled_set p.types after cells o.0 cell (filled_later p.types cells after stay cells ready.filled) (own.0, own.1, values, own.3) (parts_at p.types cells cells o.0 object.cell ready.filled there));
        active = subst (λ (cs : Cells). IsActive p.types cs p.variables kinds s.activations) (sym are) (active_later p.types cells after stay p.variables kinds s.activations ready.active);
        fits = subst (λ (cs : Cells). Fits p cs kinds s.control) (sym are) (fits_later p cells after stay s.control kinds fits);
        stay = subst (λ (cs : Cells). StayDesignated cells cs) (sym are) stay;
      }

  pub stored : (o : Id) (access : TypeNo) (c : ℕ) (v : Value) (kind : VariableKind) (object : Object) (s : State) (kinds : List OperandKind) → Ready p kinds s → Designates (cells_of s.heap) access.0 o → slice_get s.heap o.0 ≡ Some object → selected_kind p.types (Some (variable.Access access)) c ≡ Some kind → HasKind p.types (cells_of s.heap) kind v → Fits p (cells_of s.heap) kinds s.control → Stored kinds s (store s.heap (Names o) c v)
  stored o access c v kind object s kinds ready has is leads fitting fits =
      let found : store s.heap (Names o) c v ≡ slice_set s.heap o.0 (filled c v object) = ap (λ (at_o : Option Object). changed (filled c v) at_o s.heap o) is in
      stored_at o access c v kind object s kinds (store s.heap (Names o) c v) ready has is leads fitting fits
      (ap cells_of found ∙ map-set (λ (x : Object). x.cell) s.heap o.0 (filled c v object))

  -- The component is there, and what it holds is of its kind.
  pub component_there : (o : Id) (access : TypeNo) (c : ℕ) (kind : VariableKind) (object : Object) (s : State) (kinds : List OperandKind) → Ready p kinds s → Designates (cells_of s.heap) access.0 o → slice_get s.heap o.0 ≡ Some object → selected_kind p.types (Some (variable.Access access)) c ≡ Some kind → (v : Value) × (slice_get object.cell.values c ≡ Some v) × HasKind p.types (cells_of s.heap) kind v
  component_there o access c kind object s kinds ready has is leads =
      let cells = cells_of s.heap in
      let own = filled_at p.types cells cells o.0 object.cell ready.filled (cell_at s.heap o.0 object is) in
      let reached : reached_components p.types access.0 ≡ Some own.0 = ap (reached_components p.types) (sym (own_access s.heap o access.0 object has is)) ∙ own.1 in
      let here : component_kind (slice_get own.0 c) ≡ Some kind = sym (ap (λ (found : Option (List ComponentKind)). kind_among found c) reached) ∙ leads in
      component_held p.types cells own.0 object.cell.values c kind own.2 here

  stored_fine : (o : Id) (access : TypeNo) (c : ℕ) (v : Value) (kind : VariableKind) (object : Object) (s : State) (kinds : List OperandKind) → Ready p kinds s → Designates (cells_of s.heap) access.0 o → slice_get s.heap o.0 ≡ Some object → selected_kind p.types (Some (variable.Access access)) c ≡ Some kind → HasKind p.types (cells_of s.heap) kind v → Fits p (cells_of s.heap) kinds s.control → Fine p (stored_next named (Names o) c v (slice_get object.cell.values c) s)
  stored_fine o access c v kind object s kinds ready has is leads fitting fits =
      let before = component_there o access c kind object s kinds ready has is leads in
      let after = stored o access c v kind object s kinds ready has is leads fitting fits in
      subst (λ (found : Option Value). Fine p (stored_next named (Names o) c v found s)) (sym before.1)
      (running kinds (record { filled = after.filled; active = after.active; runs = ready.runs; deep = ready.deep }) after.fits)

  store_stage : (stage : Stage) (o : Id) (access : TypeNo) (c : ℕ) (v : Value) (kind : VariableKind) (object : Object) (s : State) (kinds : List OperandKind) → Ready p kinds s → Designates (cells_of s.heap) access.0 o → slice_get s.heap o.0 ≡ Some object → selected_kind p.types (Some (variable.Access access)) c ≡ Some kind → HasKind p.types (cells_of s.heap) kind v → Fits p (cells_of s.heap) kinds s.control → Fine p (store_next named (Names o) c v (existing object stage) s)
  store_stage Gone o access c v kind object s kinds ready has is leads fitting fits = tt
  store_stage Building o access c v kind object s kinds ready has is leads fitting fits = stored_fine o access c v kind object s kinds ready has is leads fitting fits
  store_stage Existing o access c v kind object s kinds ready has is leads fitting fits = stored_fine o access c v kind object s kinds ready has is leads fitting fits

  store_seen : (at_o : Option Object) (o : Id) (access : TypeNo) (c : ℕ) (v : Value) (kind : VariableKind) (s : State) (kinds : List OperandKind) → Ready p kinds s → Designates (cells_of s.heap) access.0 o → slice_get s.heap o.0 ≡ at_o → selected_kind p.types (Some (variable.Access access)) c ≡ Some kind → HasKind p.types (cells_of s.heap) kind v → Fits p (cells_of s.heap) kinds s.control → Fine p (store_next named (Names o) c v (seen at_o) s)
  store_seen None o access c v kind s kinds ready has is leads fitting fits = tt
  store_seen (Some object) o access c v kind s kinds ready has is leads fitting fits = store_stage object.stage o access c v kind object s kinds ready has is leads fitting fits

  pub store_fine : (u : Value) (access : TypeNo) (c : ℕ) (v : Value) (kind : VariableKind) (s : State) (kinds : List OperandKind) → IsName u → Ready p kinds s → IsAccess (cells_of s.heap) access.0 u → selected_kind p.types (Some (variable.Access access)) c ≡ Some kind → HasKind p.types (cells_of s.heap) kind v → Fits p (cells_of s.heap) kinds s.control → Fine p (store_next named u c v (look s.heap u) s)
  store_fine Null access c v kind s kinds name ready has leads fitting fits = absurd name
  store_fine (Names o) access c v kind s kinds name ready has leads fitting fits = store_seen (slice_get s.heap o.0) o access c v kind s kinds ready has refl leads fitting fits
  store_fine (Scalar w) access c v kind s kinds name ready has leads fitting fits = absurd name
  store_fine (Part o place) access c v kind s kinds name ready has leads fitting fits = absurd name

  -- A component takes the next number of the input.
  taken_fine : (input : List ℤ) (before : Value) (o : Id) (access : TypeNo) (c : ℕ) (object : Object) (s : State) (kinds : List OperandKind) → Ready p kinds s → Designates (cells_of s.heap) access.0 o → slice_get s.heap o.0 ≡ Some object → selected_kind p.types (Some (variable.Access access)) c ≡ Some variable.Integer → Fits p (cells_of s.heap) kinds s.control → Fine p (received_next named (Names o) c input (Some before) s)
  taken_fine [] before o access c object s kinds ready has is leads fits = raises p kinds kinds EndError s ready fits
  taken_fine (i ∷ input) before o access c object s kinds ready has is leads fits =
      let after = stored o access c (an_integer i) variable.Integer object s kinds ready has is leads tt fits in
      running kinds (record { filled = after.filled; active = after.active; runs = ready.runs; deep = ready.deep }) after.fits

  received_fine : (o : Id) (access : TypeNo) (c : ℕ) (object : Object) (s : State) (kinds : List OperandKind) → Ready p kinds s → Designates (cells_of s.heap) access.0 o → slice_get s.heap o.0 ≡ Some object → selected_kind p.types (Some (variable.Access access)) c ≡ Some variable.Integer → Fits p (cells_of s.heap) kinds s.control → Fine p (received_next named (Names o) c s.input (slice_get object.cell.values c) s)
  received_fine o access c object s kinds ready has is leads fits =
      let before = component_there o access c variable.Integer object s kinds ready has is leads in
      subst (λ (found : Option Value). Fine p (received_next named (Names o) c s.input found s)) (sym before.1) (taken_fine s.input before.0 o access c object s kinds ready has is leads fits)

  receive_stage : (stage : Stage) (o : Id) (access : TypeNo) (c : ℕ) (object : Object) (s : State) (kinds : List OperandKind) → Ready p kinds s → Designates (cells_of s.heap) access.0 o → slice_get s.heap o.0 ≡ Some object → selected_kind p.types (Some (variable.Access access)) c ≡ Some variable.Integer → Fits p (cells_of s.heap) kinds s.control → Fine p (receive_next named (Names o) c (existing object stage) s)
  receive_stage Gone o access c object s kinds ready has is leads fits = tt
  receive_stage Building o access c object s kinds ready has is leads fits = received_fine o access c object s kinds ready has is leads fits
  receive_stage Existing o access c object s kinds ready has is leads fits = received_fine o access c object s kinds ready has is leads fits

  receive_seen : (at_o : Option Object) (o : Id) (access : TypeNo) (c : ℕ) (s : State) (kinds : List OperandKind) → Ready p kinds s → Designates (cells_of s.heap) access.0 o → slice_get s.heap o.0 ≡ at_o → selected_kind p.types (Some (variable.Access access)) c ≡ Some variable.Integer → Fits p (cells_of s.heap) kinds s.control → Fine p (receive_next named (Names o) c (seen at_o) s)
  receive_seen None o access c s kinds ready has is leads fits = tt
  receive_seen (Some object) o access c s kinds ready has is leads fits = receive_stage object.stage o access c object s kinds ready has is leads fits

  pub receive_fine : (v : Value) (access : TypeNo) (c : ℕ) (s : State) (kinds : List OperandKind) → Ready p kinds s → HasKind p.types (cells_of s.heap) (variable.Access access) v → selected_kind p.types (Some (variable.Access access)) c ≡ Some variable.Integer → Fits p (cells_of s.heap) kinds s.control → Fine p (receive_next named v c (look s.heap v) s)
  receive_fine Null access c s kinds ready has leads fits = raises p kinds kinds ConstraintError s ready fits
  receive_fine (Names o) access c s kinds ready has leads fits = receive_seen (slice_get s.heap o.0) o access c s kinds ready has refl leads fits
  receive_fine (Scalar v) access c s kinds ready has leads fits = absurd has
  receive_fine (Part o place) access c s kinds ready has leads fits = absurd has

  -- A component is opened that is given: what refers to it and its value become operands.
  opened_fine : (o : Id) (access : TypeNo) (c : ℕ) (kind : VariableKind) (object : Object) (s : State) (kinds : List OperandKind) → Ready p kinds s → Designates (cells_of s.heap) access.0 o → slice_get s.heap o.0 ≡ Some object → selected_kind p.types (Some (variable.Access access)) c ≡ Some kind → Fits p (cells_of s.heap) (of_kind kind ∷ refers_to kind ∷ kinds) s.control → Fine p (opened_next named (Names o) c (slice_get object.cell.values c) s)
  opened_fine o access c kind object s kinds ready has is leads fits =
      let there = component_there o access c kind object s kinds ready has is leads in
      let referred = Part o (record { component = c; part = 0 }) in
      let referring = ready_refer p kinds s kind referred ready (has.0, has.1, ap (λ (a : ℕ). kind_among (reached_components p.types a) c) has.2 ∙ leads) in
      subst (λ (found : Option Value). Fine p (opened_next named (Names o) c found s)) (sym there.1)
      (running (of_kind kind ∷ refers_to kind ∷ kinds) (ready_push p (refers_to kind ∷ kinds) (computed referred s) kind there.0 referring there.2) fits)

  opens_stage : (stage : Stage) (o : Id) (access : TypeNo) (c : ℕ) (kind : VariableKind) (object : Object) (s : State) (kinds : List OperandKind) → Ready p kinds s → Designates (cells_of s.heap) access.0 o → slice_get s.heap o.0 ≡ Some object → selected_kind p.types (Some (variable.Access access)) c ≡ Some kind → Fits p (cells_of s.heap) (of_kind kind ∷ refers_to kind ∷ kinds) s.control → Fine p (opens_next named (Names o) c (existing object stage) s)
  opens_stage Gone o access c kind object s kinds ready has is leads fits = tt
  opens_stage Building o access c kind object s kinds ready has is leads fits = opened_fine o access c kind object s kinds ready has is leads fits
  opens_stage Existing o access c kind object s kinds ready has is leads fits = opened_fine o access c kind object s kinds ready has is leads fits

  opens_seen : (at_o : Option Object) (o : Id) (access : TypeNo) (c : ℕ) (kind : VariableKind) (s : State) (kinds : List OperandKind) → Ready p kinds s → Designates (cells_of s.heap) access.0 o → slice_get s.heap o.0 ≡ at_o → selected_kind p.types (Some (variable.Access access)) c ≡ Some kind → Fits p (cells_of s.heap) (of_kind kind ∷ refers_to kind ∷ kinds) s.control → Fine p (opens_next named (Names o) c (seen at_o) s)
  opens_seen None o access c kind s kinds ready has is leads fits = tt
  opens_seen (Some object) o access c kind s kinds ready has is leads fits = opens_stage object.stage o access c kind object s kinds ready has is leads fits

  pub opens_fine : (v : Value) (access : TypeNo) (c : ℕ) (kind : VariableKind) (s : State) (kinds : List OperandKind) → Ready p kinds s → HasKind p.types (cells_of s.heap) (variable.Access access) v → selected_kind p.types (Some (variable.Access access)) c ≡ Some kind → Fits p (cells_of s.heap) (of_kind kind ∷ refers_to kind ∷ kinds) s.control → Fine p (opens_next named v c (look s.heap v) s)
  opens_fine Null access c kind s kinds ready has leads fits = raises p kinds (of_kind kind ∷ refers_to kind ∷ kinds) ConstraintError s ready fits
  opens_fine (Names o) access c kind s kinds ready has leads fits = opens_seen (slice_get s.heap o.0) o access c kind s kinds ready has refl leads fits
  opens_fine (Scalar held) access c kind s kinds ready has leads fits = absurd has
  opens_fine (Part o place) access c kind s kinds ready has leads fits = absurd has
