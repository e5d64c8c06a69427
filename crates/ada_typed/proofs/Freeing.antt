-- What is freed is of the access type that the instance is for, where the running body frees by the instances for what it frees (13.11.2).

use Rattle.ada_typed.specs.Freeing.{AboutToFree, ObjectsAreFreedByTheirTypes}
use Rattle.ada_typed.specs.Holding.{Cells, Designates, HasKind, cells_of, seen_now}
use Rattle.std.proofs.Common.{◌≡◌, ℕ, Bool, true, false, List, [], ◌∷◌, Option, Some, None, refl, sym, ap, ◌∙◌, subst, inl, inr}
use Rattle.std.specs.List.{slice_get}
use Rattle.ada_program.specs.declared.program.TypeNo.{TypeNo}
use Rattle.ada_program.specs.declared.program.VariableKind.{VariableKind}
use Rattle.ada_program.specs.declared.program.VariableKind.TheVariants as variable
use Rattle.ada_program.specs.Form.{PathForm, frees, StmtsForm, a_stmt}
use Rattle.ada_program.specs.Freed.{statement_frees_own, statements_free_own}
use Rattle.ada_program.specs.ProgramForm.{ProgramForm, program_form}
use Rattle.ada_program.specs.WellFormed.{is_this, value_access, root_kind, selectors_kind, variable_kind}
use Rattle.ada_meaning.specs.declared.state.Id.{Id}
use Rattle.ada_meaning.specs.declared.state.Value.{Value}
use Rattle.ada_meaning.specs.declared.state.Value.TheVariants.{Names}
use Rattle.ada_meaning.specs.declared.state.Mode.{Mode}
use Rattle.ada_meaning.specs.declared.state.Mode.TheVariants.{Running, Raising}
use Rattle.ada_meaning.specs.Frame.{Frame}
use Rattle.ada_meaning.specs.Frame as frame
use Rattle.ada_meaning.specs.Named.{Object, State, named, object_at}
use Rattle.ada_meaning.specs.Step.{procedure_of, held, newest}
use Rattle.std.proofs.lemmas.Bool.{eqb-true}
use Rattle.ada_typed.proofs.Values.{OperandKind, of_kind, root_same}
use Rattle.ada_typed.proofs.Operators.{and_left}
use Rattle.ada_typed.proofs.Control.{OwnBody, is_operation, Fits, Ready, AtOperation, awaiting, confined, TypedIn, running, on_jump, operated, out_of_operation, Goes}
use Rattle.ada_typed.proofs.Evaluations.{own_access, ready_kinds, held_of, newest_of}
use Rattle.ada_typed.proofs.Targets.{component_there}
use Rattle.ada_typed.proofs.Bodies.{own_bodies}
use Rattle.ada_typed.proofs.Runs.{last_typed}

-- What an instance for what it frees is for.
freed_by : (o : Option VariableKind) (access : ℕ) → is_this access (value_access o) ≡ true → (own : TypeNo) × (o ≡ Some (variable.Access own)) × (own.0 ≡ access)
freed_by None access is = absurd (cc)
freed_by (Some variable.Integer) access is = absurd (cc)
freed_by (Some variable.Boolean) access is = absurd (cc)
freed_by (Some (variable.Access own)) access is = (own, refl, eqb-true own.0 access is)
freed_by (Some (variable.Record object)) access is = absurd (cc)

module _ (p : ProgramForm) (whole : OwnBody p) (s : State) (kinds : List OperandKind) (ready : Ready p kinds s) (access : ℕ) (o : Id) (object : Object) (found : object_at s.heap o ≡ Some object) where
  -- What a variable names.
  named_own : (of_record : Bool) (x : ℕ) → is_this access (value_access (root_kind of_record (variable_kind p.variables x))) ≡ true → held named s x ≡ Names o → object.cell.access ≡ access
  named_own of_record x is holds =
      let own = freed_by (root_kind of_record (variable_kind p.variables x)) access is in
      let there : variable_kind p.variables x ≡ Some (variable.Access own.0) = root_same of_record (variable_kind p.variables x) (variable.Access own.0) own.1 in
      let has : Designates (cells_of s.heap) own.0.0 o = subst (λ (v : Value). HasKind p.types (cells_of s.heap) (variable.Access own.0) v) holds (held_of p kinds s x (variable.Access own.0) ready there) in
      own_access s.heap o own.0.0 object has found ∙ own.2

  pub freed_variable : (path : PathForm) (fs : StmtsForm) (k : List (Frame Value)) → Fits p (cells_of s.heap) kinds (frame.Does (a_stmt (frees access path) fs) ∷ k) → path.selectors ≡ [] → held named s path.root ≡ Names o → object.cell.access ≡ access
  freed_variable path fs k fits alone holds =
      let frees_own = and_left (statement_frees_own p.types p.variables (frees access path)) (statements_free_own p.types p.variables fs) (fits.2.1 whole) in
      named_own path.of_record path.root
      (subst (λ (cs : List ℕ). is_this access (value_access (selectors_kind p.types (root_kind path.of_record (variable_kind p.variables path.root)) cs)) ≡ true) alone frees_own) holds

  -- What a component of the object names that was found.
  pub freed_component : (c : ℕ) (k : List (Frame Value)) (at_o : Id) (holder : Object) → Fits p (cells_of s.heap) kinds (frame.FreesIn access c ∷ k) → newest named s ≡ Names at_o → object_at s.heap at_o ≡ Some holder → slice_get holder.cell.values c ≡ Some (Names o) → object.cell.access ≡ access
  freed_component c k at_o holder fits names there holds =
      let taken = ready_kinds p kinds (of_kind (variable.Access fits.1) ∷ fits.0) s fits.3 ready in
      let has : Designates (cells_of s.heap) fits.1.0 at_o = subst (λ (v : Value). HasKind p.types (cells_of s.heap) (variable.Access fits.1) v) names (newest_of p (variable.Access fits.1) fits.0 s taken) in
      let held = component_there p at_o fits.1 c (variable.Access fits.2) holder s kinds ready has there fits.4 in
      let twice : Some held.0 ≡ Some (Names o) = sym held.1 ∙ holds in
      let one : held.0 ≡ Names o = cc in
      let own : Designates (cells_of s.heap) fits.2.0 o = subst (λ (v : Value). HasKind p.types (cells_of s.heap) (variable.Access fits.2) v) one held.2 in
      own_access s.heap o fits.2.0 object own found ∙ fits.5 whole

-- So it is wherever the running body is about to free an object.
fitting_freed : (p : ProgramForm) → OwnBody p → (s : State) (kinds : List OperandKind) (access : ℕ) (o : Id) (object : Object) → Ready p kinds s → Fits p (cells_of s.heap) kinds s.control → AboutToFree s access o → object_at s.heap o ≡ Some object → object.cell.access ≡ access
fitting_freed p whole s kinds access o object ready fits (inl f) found =
    freed_variable p whole s kinds ready access o object found f.path f.fs f.k (subst (λ (k : List (Frame Value)). Fits p (cells_of s.heap) kinds k) f.begins fits) f.alone f.names
fitting_freed p whole s kinds access o object ready fits (inr f) found =
    freed_component p whole s kinds ready access o object found f.c f.k f.found f.holder (subst (λ (k : List (Frame Value)). Fits p (cells_of s.heap) kinds k) f.begins fits) f.finds f.holds f.names

frees_running : (s : State) (access : ℕ) (o : Id) → AboutToFree s access o → s.mode ≡ Running
frees_running s access o (inl f) = f.runs
frees_running s access o (inr f) = f.runs

-- No call of an operation ends where a Free comes, or another step of a treatment.
abbrev pub starts : List (Frame Value) → Bool
starts [] = false
starts (f ∷ k) = is_operation f

pub starts_so : (p : ProgramForm) (cells : Cells) (kinds : List OperandKind) (k : List (Frame Value)) → AtOperation p cells kinds k → starts k ≡ true
starts_so p cells kinds _ (awaiting some treated fits) = refl
starts_so p cells kinds _ (confined some fits) = refl

frees_no_operation : (p : ProgramForm) (s : State) (kinds : List OperandKind) (access : ℕ) (o : Id) → AtOperation p (cells_of s.heap) kinds s.control → AboutToFree s access o → ⊥
frees_no_operation p s kinds access o ended (inl f) =
    let ends : starts s.control ≡ true = starts_so p (cells_of s.heap) kinds s.control ended in
    let begins : starts s.control ≡ false = ap starts f.begins in
    absurd (cc)
frees_no_operation p s kinds access o ended (inr f) =
    let ends : starts s.control ≡ true = starts_so p (cells_of s.heap) kinds s.control ended in
    let begins : starts s.control ≡ false = ap starts f.begins in
    absurd (cc)

pub typed_freed : (p : ProgramForm) → OwnBody p → (s : State) (access : ℕ) (o : Id) (object : Object) → TypedIn p s → AboutToFree s access o → object_at s.heap o ≡ Some object → object.cell.access ≡ access
typed_freed p whole s access o object (running kinds ready fits) freeing found = fitting_freed p whole s kinds access o object ready fits freeing found
typed_freed p whole s access o object (on_jump mode jumps goes) freeing found =
    let never : Goes p (cells_of s.heap) Running s.control = subst (λ (now : Mode). Goes p (cells_of s.heap) now s.control) (sym jumps.jumps ∙ frees_running s access o freeing) goes in
    absurd never
typed_freed p whole s access o object (operated kinds ready ended) freeing found = absurd (frees_no_operation p s kinds access o ended freeing)
typed_freed p whole s access o object (out_of_operation e kinds jumps ended) freeing found =
    let never : Raising e ≡ Running = sym jumps.jumps ∙ frees_running s access o freeing in
    absurd (cc)

pub objects_are_freed_by_their_types : ObjectsAreFreedByTheirTypes
objects_are_freed_by_their_types program well own input events last access o object run freeing found =
    let p = program_form program in
    typed_freed (seen_now p last) (own_bodies p own (procedure_of last.activations)) last access o object (last_typed program well input events last run).inside freeing found
