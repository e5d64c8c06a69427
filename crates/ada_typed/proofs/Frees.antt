-- What is freed, be it a variable's or a component's, is an access value, and what held it is to become null (13.11.2).

use Rattle.ada_typed.specs.Holding.{Designates, HasKind, cells_of}
use Rattle.std.proofs.Common.{◌≡◌, ℕ, ◌≤◌, ◌&&◌, if◌then◌else◌, Bool, true, false, List, ◌∷◌, length, map, arith, Option, Some, None, refl, sym, subst}
use Rattle.std.specs.List.{slice_get}
use Rattle.ada_program.specs.declared.program.Exception.TheVariants.{ConstraintError}
use Rattle.ada_program.specs.declared.program.TypeNo.{TypeNo}
use Rattle.ada_program.specs.declared.program.VariableKind.TheVariants as variable
use Rattle.ada_parts.specs.declared.tasks.Direction.TheVariants.{WholeFirst}
use Rattle.ada_program.specs.declared.program.TypeDefinition.{TypeDefinition}
use Rattle.ada_program.specs.ProgramForm.{ProgramForm, type_form}
use Rattle.ada_program.specs.WellFormed.{variable_kind, selected_kind}
use Rattle.ada_meaning.specs.declared.state.Id.{Id}
use Rattle.ada_meaning.specs.declared.state.Value.{Value}
use Rattle.ada_meaning.specs.declared.state.Value.TheVariants.{Null, Names, Scalar, Part}
use Rattle.ada_meaning.specs.declared.state.Stage.{Stage}
use Rattle.ada_meaning.specs.declared.state.Stage.TheVariants.{Building, Existing, Gone}
use Rattle.ada_meaning.specs.declared.event.Halt.TheVariants.{Erroneous}
use Rattle.ada_meaning.specs.declared.event.Why.TheVariants.{GivesElsewhere}
use Rattle.ada_meaning.specs.Event.{Event, Followed, Quiet}
use Rattle.ada_meaning.specs.Heap.{on_gone, finds}
use Rattle.ada_meaning.specs.Frame.{Frame}
use Rattle.ada_meaning.specs.Frame as frame
use Rattle.ada_meaning.specs.declared.event.Cause.TheVariants.{Freeing}
use Rattle.ada_meaning.specs.State.{home_of, pool_freed_to}
use Rattle.ada_meaning.specs.Step.{same_pool, all_tasks, treating, halts, moves, freeing, freeing_next, free_next, freed_next, free_component_next, free_in_next}
use Rattle.ada_meaning.specs.Named.{Object, State, named, look, seen, existing, all_alive, standing_by, standing, on_object, parted}
use Rattle.ada_typed.proofs.Treating.{all_within, treating_fits, treating_deep}
use Rattle.ada_typed.proofs.Values.{OperandKind}
use Rattle.ada_typed.proofs.Targets.{component_there}
use Rattle.ada_typed.proofs.Control.{Fits, depth, Ready, TypedIn, running}
use Rattle.ada_typed.proofs.Evaluations.{Fine, cell_at, cells_on, ready_heap, fits_heap, raises}

module _ (p : ProgramForm) (types : List TypeDefinition) (shown : map type_form types ≡ p.types) where
  -- A Free begins: its end clears what held the name.
  freeing_fine : (o : Id) (access : ℕ) (object : Object) (clears : Frame Value) (s : State) (kinds : List OperandKind) → slice_get s.heap o.0 ≡ Some object → Ready p kinds s → depth (clears ∷ s.control) ≤ length s.masters → Fits p (cells_of s.heap) kinds (clears ∷ s.control) → TypedIn p (freeing named types access (Names o) object.cell clears s)
  freeing_fine o access object clears s kinds there ready deep fits =
      let heap = on_object parted s.heap (Names o) in
      let same : cells_of heap ≡ cells_of s.heap = cells_on parted s.heap (Names o) (λ y. refl) in
      let other = ready_heap p kinds s heap same ready in
      let own = object.cell.access in
      let tasks = all_tasks types own WholeFirst in
      let back = frame.GivesBack (Names o) (Freeing s.next) (Some (pool_freed_to (home_of access s.masters))) in
      let left = frame.Ends (Names o) ∷ back ∷ clears ∷ s.control in
      let as_deep = treating_deep (Names o) (frame.ends (Freeing s.next)) tasks left in
      running kinds (record { filled = other.filled; active = other.active; runs = other.runs; deep = omega (arith, deep, as_deep) })
      (fits_heap p kinds s (treating (Names o) (frame.ends (Freeing s.next)) tasks left) heap same
      (treating_fits p (cells_of s.heap) kinds (Names o) (frame.ends (Freeing s.next)) tasks left
      (own, (object.cell, cell_at s.heap o.0 object there, refl), all_within types p.types own WholeFirst shown, (tt, tt)) (tt, (tt, fits))))

  -- It is erroneous where the object is of another pool.
  freeing_next_fine : (o : Id) (access : ℕ) (object : Object) (clears : Frame Value) (event : Event Value) (s : State) (kinds : List OperandKind) → slice_get s.heap o.0 ≡ Some object → Ready p kinds s → depth (clears ∷ s.control) ≤ length s.masters → Fits p (cells_of s.heap) kinds (clears ∷ s.control) → Fine p (freeing_next named types access (Names o) object.cell clears event s)
  freeing_next_fine o access object clears event s kinds there ready deep fits = by_pool (same_pool (Some (pool_freed_to (home_of access s.masters))) object.cell.home.pool)
    where
      by_pool : (own : Bool) → Fine p (if own then moves event (freeing named types access (Names o) object.cell clears s) else halts (Erroneous GivesElsewhere))
      by_pool true = freeing_fine o access object clears s kinds there ready deep fits
      by_pool false = tt

  -- Free (X).
  free_found : (stands : Bool) (access x : ℕ) (o : Id) (type : TypeNo) (object : Object) (s : State) (kinds : List OperandKind) → slice_get s.heap o.0 ≡ Some object → Ready p kinds s → variable_kind p.variables x ≡ Some (variable.Access type) → Fits p (cells_of s.heap) kinds s.control → Fine p (free_next named types access x (Names o) (if stands then finds object.cell else on_gone) s)
  free_found false access x o type object s kinds there ready is fits = tt
  free_found true access x o type object s kinds there ready is fits = freeing_next_fine o access object (frame.Clears x) Quiet s kinds there ready ready.deep (type, is, fits)

  free_seen : (at_o : Option Object) (access x : ℕ) (o : Id) (type : TypeNo) (s : State) (kinds : List OperandKind) → slice_get s.heap o.0 ≡ at_o → Ready p kinds s → variable_kind p.variables x ≡ Some (variable.Access type) → Fits p (cells_of s.heap) kinds s.control → Fine p (free_next named types access x (Names o) (standing_by at_o) s)
  free_seen None access x o type s kinds there ready is fits = tt
  free_seen (Some object) access x o type s kinds there ready is fits = free_found (object.listed && all_alive object.cell.parts) access x o type object s kinds there ready is fits

  pub free_fine : (v : Value) (access x : ℕ) (type : TypeNo) (s : State) (kinds : List OperandKind) → Ready p kinds s → HasKind p.types (cells_of s.heap) (variable.Access type) v → variable_kind p.variables x ≡ Some (variable.Access type) → Fits p (cells_of s.heap) kinds s.control → Fine p (free_next named types access x v (standing s.heap v) s)
  free_fine Null access x type s kinds ready has is fits = running kinds ready fits
  free_fine (Names o) access x type s kinds ready has is fits = free_seen (slice_get s.heap o.0) access x o type s kinds refl ready is fits
  free_fine (Scalar v) access x type s kinds ready has is fits = absurd has
  free_fine (Part o place) access x type s kinds ready has is fits = absurd has

  -- Free (P.C): what the component of an object holds is freed, and the component is to become null.
  freed_found : (stands : Bool) (o q : Id) (access : ℕ) (holder own : TypeNo) (c : ℕ) (object : Object) (s : State) (kinds : List OperandKind) → slice_get s.heap q.0 ≡ Some object → Ready p kinds s → Designates (cells_of s.heap) holder.0 o → selected_kind p.types (Some (variable.Access holder)) c ≡ Some (variable.Access own) → Fits p (cells_of s.heap) kinds s.control → Fine p (freed_next named types access (Names o) c (Names q) (if stands then finds object.cell else on_gone) s)
  freed_found false o q access holder own c object s kinds there ready has leads fits = tt
  freed_found true o q access holder own c object s kinds there ready has leads fits =
      freeing_next_fine q access object (frame.ClearsIn (Names o) c) (Followed (Names o)) s kinds there ready ready.deep (holder, own, tt, has, leads, fits)

  freed_seen : (at_q : Option Object) (o q : Id) (access : ℕ) (holder own : TypeNo) (c : ℕ) (s : State) (kinds : List OperandKind) → slice_get s.heap q.0 ≡ at_q → Ready p kinds s → Designates (cells_of s.heap) holder.0 o → selected_kind p.types (Some (variable.Access holder)) c ≡ Some (variable.Access own) → Fits p (cells_of s.heap) kinds s.control → Fine p (freed_next named types access (Names o) c (Names q) (standing_by at_q) s)
  freed_seen None o q access holder own c s kinds there ready has leads fits = tt
  freed_seen (Some object) o q access holder own c s kinds there ready has leads fits = freed_found (object.listed && all_alive object.cell.parts) o q access holder own c object s kinds there ready has leads fits

  freed_fine : (v : Value) (o : Id) (access : ℕ) (holder own : TypeNo) (c : ℕ) (s : State) (kinds : List OperandKind) → Ready p kinds s → Designates (cells_of s.heap) holder.0 o → selected_kind p.types (Some (variable.Access holder)) c ≡ Some (variable.Access own) → HasKind p.types (cells_of s.heap) (variable.Access own) v → Fits p (cells_of s.heap) kinds s.control → Fine p (freed_next named types access (Names o) c v (standing s.heap v) s)
  freed_fine Null o access holder own c s kinds ready has leads holds fits = running kinds ready fits
  freed_fine (Names q) o access holder own c s kinds ready has leads holds fits = freed_seen (slice_get s.heap q.0) o q access holder own c s kinds refl ready has leads fits
  freed_fine (Scalar v) o access holder own c s kinds ready has leads holds fits = absurd holds
  freed_fine (Part q place) o access holder own c s kinds ready has leads holds fits = absurd holds

  free_component_fine : (o : Id) (access : ℕ) (holder own : TypeNo) (c : ℕ) (object : Object) (s : State) (kinds : List OperandKind) → Ready p kinds s → Designates (cells_of s.heap) holder.0 o → slice_get s.heap o.0 ≡ Some object → selected_kind p.types (Some (variable.Access holder)) c ≡ Some (variable.Access own) → Fits p (cells_of s.heap) kinds s.control → Fine p (free_component_next named types access (Names o) c (slice_get object.cell.values c) s)
  free_component_fine o access holder own c object s kinds ready has is leads fits =
      let held = component_there p o holder c (variable.Access own) object s kinds ready has is leads in
      subst (λ (found : Option Value). Fine p (free_component_next named types access (Names o) c found s)) (sym held.1) (freed_fine held.0 o access holder own c s kinds ready has leads held.2 fits)

  free_in_stage : (stage : Stage) (o : Id) (access : ℕ) (holder own : TypeNo) (c : ℕ) (object : Object) (s : State) (kinds : List OperandKind) → Ready p kinds s → Designates (cells_of s.heap) holder.0 o → slice_get s.heap o.0 ≡ Some object → selected_kind p.types (Some (variable.Access holder)) c ≡ Some (variable.Access own) → Fits p (cells_of s.heap) kinds s.control → Fine p (free_in_next named types access (Names o) c (existing object stage) s)
  free_in_stage Gone o access holder own c object s kinds ready has is leads fits = tt
  free_in_stage Building o access holder own c object s kinds ready has is leads fits = free_component_fine o access holder own c object s kinds ready has is leads fits
  free_in_stage Existing o access holder own c object s kinds ready has is leads fits = free_component_fine o access holder own c object s kinds ready has is leads fits

  free_in_seen : (at_o : Option Object) (o : Id) (access : ℕ) (holder own : TypeNo) (c : ℕ) (s : State) (kinds : List OperandKind) → Ready p kinds s → Designates (cells_of s.heap) holder.0 o → slice_get s.heap o.0 ≡ at_o → selected_kind p.types (Some (variable.Access holder)) c ≡ Some (variable.Access own) → Fits p (cells_of s.heap) kinds s.control → Fine p (free_in_next named types access (Names o) c (seen at_o) s)
  free_in_seen None o access holder own c s kinds ready has is leads fits = tt
  free_in_seen (Some object) o access holder own c s kinds ready has is leads fits = free_in_stage object.stage o access holder own c object s kinds ready has is leads fits

  pub free_in_fine : (u : Value) (access : ℕ) (holder own : TypeNo) (c : ℕ) (s : State) (kinds : List OperandKind) → Ready p kinds s → HasKind p.types (cells_of s.heap) (variable.Access holder) u → selected_kind p.types (Some (variable.Access holder)) c ≡ Some (variable.Access own) → Fits p (cells_of s.heap) kinds s.control → Fine p (free_in_next named types access u c (look s.heap u) s)
  free_in_fine Null access holder own c s kinds ready has leads fits = raises p kinds kinds ConstraintError s ready fits
  free_in_fine (Names o) access holder own c s kinds ready has leads fits = free_in_seen (slice_get s.heap o.0) o access holder own c s kinds ready has refl leads fits
  free_in_fine (Scalar v) access holder own c s kinds ready has leads fits = absurd has
  free_in_fine (Part o place) access holder own c s kinds ready has leads fits = absurd has
