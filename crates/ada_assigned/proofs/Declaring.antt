-- Where the body of an operation, or one that is called, assigns to a record in another variable than its formal parameters, no operation is awaited of the object in
-- which that lies (3.3.1, 5.2, 7.6): the body declares it.

use Rattle.std.proofs.Common.{◌≡◌, ℕ, ℤ, Bool, true, false, ◌||◌, List, [], ◌∷◌, Option, Some, None, refl, sym, ap, ◌∙◌, subst}
use Rattle.ada_program.specs.declared.program.ComponentKind.{ComponentKind}
use Rattle.ada_program.specs.declared.program.Program.{Program}
use Rattle.ada_program.specs.declared.program.TypeNo.{TypeNo}
use Rattle.ada_program.specs.declared.program.VariableKind.{VariableKind}
use Rattle.ada_program.specs.declared.program.VariableKind.TheVariants as variable
use Rattle.ada_program.specs.Form.{RecordPathForm}
use Rattle.ada_program.specs.ProgramForm.{TypeForm, BodyForm, ProgramForm, program_form, body_forms, seen_in}
use Rattle.ada_program.specs.WellFormed.{IsWellFormed, record_components, object_named, object_components, variable_kind, access_of, root_kind, selectors_kind, path_kind, has_record_at, has_parts_at, is_record_path}
use Rattle.ada_meaning.specs.declared.state.Mode.{Mode}
use Rattle.ada_meaning.specs.declared.state.Mode.TheVariants.{Running, Raising}
use Rattle.ada_meaning.specs.declared.state.Value.{Value}
use Rattle.ada_meaning.specs.Frame.{Frame}
use Rattle.ada_meaning.specs.Frame as frame
use Rattle.ada_meaning.specs.State.{Activation}
use Rattle.ada_meaning.specs.Step.{places_of, procedure_of}
use Rattle.ada_meaning.specs.Named.{State}
use Rattle.ada_meaning.specs.Run.{Event, Run, first_state}
use Rattle.ada_typed.specs.Holding.{cells_of, seen_now}
use Rattle.ada_typed.proofs.Bodies.{seen_as}
use Rattle.ada_typed.proofs.Control.{Fits, Goes, TypedIn, running, on_jump, operated, out_of_operation}
use Rattle.ada_typed.proofs.Freeing.{starts, starts_so}
use Rattle.ada_typed.proofs.Operators.{and_left}
use Rattle.ada_formals.proofs.Standing.{ends_operation}
use Rattle.ada_formals.proofs.Runs.{last_keeps}
use Rattle.ada_declared.specs.Declared.{HasBody, IsRecordOf, IsRecordVariable, DeclaresApart, OperationsDeclare, formals_given}
use Rattle.ada_declared.proofs.Runs.{declared_objects_stand_apart}
use Rattle.ada_assigned.proofs.Keeping.{behind_body, given_behind, runs_operation, IsBeside, DeclaresBeside}

-- What the running body's records stand apart from, where these activations are there, and an operation runs.
declared_here : (bodies : List BodyForm) (k : List (Frame Value)) (acts : List (Activation Value)) → OperationsDeclare bodies k acts
    → (ends_operation (behind_body k) || runs_operation (behind_body k)) ≡ true
    → DeclaresApart bodies (formals_given (given_behind k) (behind_body k)) (procedure_of acts) (places_of acts) (behind_body k)
declared_here bodies [] acts h runs = absurd (cc runs)
declared_here bodies (frame.Returns actuals references ∷ k) acts h runs = h.0
declared_here bodies (f ∷ k) acts h runs = declared_here bodies k acts h runs

-- What a path of a record begins with, if it says so, is a record variable.
record_root :
    (types : List TypeForm) (kind : Option VariableKind) (first : ℕ) (ks : Option (List ComponentKind))
    → has_record_at (object_components types (access_of (root_kind true kind))) first ks ≡ true → (object : TypeNo) × (kind ≡ Some (variable.Record object))
record_root types None first ks leads = absurd (cc leads)
record_root types (Some variable.Integer) first ks leads = absurd (cc leads)
record_root types (Some variable.Boolean) first ks leads = absurd (cc leads)
record_root types (Some (variable.Access access)) first ks leads = absurd (cc leads)
record_root types (Some (variable.Record object)) first ks leads = (object, refl)

module _ (own : ProgramForm) (s : State) (q : RecordPathForm) (k : List (Frame Value)) (runs : s.mode ≡ Running) (is : s.control ≡ frame.Refers q ∷ k) where
  -- What is to be found next fits.
  path_fits : TypedIn own s → is_record_path own.types own.variables q ≡ true
  path_fits (running kinds ready fits) =
      let refers = subst (λ (control : List (Frame Value)). Fits own (cells_of s.heap) kinds control) is fits in
      refers.1
  path_fits (on_jump mode jumps goes) =
      let never : Goes own (cells_of s.heap) Running s.control = subst (λ (now : Mode). Goes own (cells_of s.heap) now s.control) (sym jumps.jumps ∙ runs) goes in
      absurd never
  path_fits (operated kinds ready ended) =
      let ends : starts s.control ≡ true = starts_so own (cells_of s.heap) kinds s.control ended in
      let begins : starts s.control ≡ false = ap starts is in
      absurd (cc (ends, begins))
  path_fits (out_of_operation e kinds jumps ended) =
      let never : Raising e ≡ Running = sym jumps.jumps ∙ runs in
      absurd (cc never)

  root_is : (formals : ℕ) → IsBeside formals q → TypedIn own s → (object : TypeNo) × (variable_kind own.variables q.object.root ≡ Some (variable.Record object))
  root_is formals other typed =
      let leads_to = access_of (path_kind own.types own.variables q.object) in
      let kind = variable_kind own.variables q.object.root in
      let ks = record_components own.types q.record_type in
      let lies = has_record_at (object_components own.types leads_to) q.first ks in
      let counted = has_parts_at own.types q.record_type (object_named own.types leads_to) q.first q.part in
      let begins : leads_to ≡ access_of (root_kind true kind) =
      ap (λ (cs : List ℕ). access_of (selectors_kind own.types (root_kind q.object.of_record kind) cs)) other.at_hand
      ∙ ap (λ (b : Bool). access_of (root_kind b kind)) other.of_record in
      record_root own.types kind q.first ks
      (subst (λ (t : Option ℕ). has_record_at (object_components own.types t) q.first ks ≡ true) begins (and_left lies counted (path_fits typed)))

module _ (program : Program) (well : IsWellFormed (program_form program)) where
  abbrev p : ProgramForm
  p = program_form program

  -- So it is one of its body.
  variable_of : (procedure : Option ℕ) (x : ℕ) → HasBody (body_forms program) procedure
      → (object : TypeNo) × (variable_kind (seen_in procedure p).variables x ≡ Some (variable.Record object)) → IsRecordVariable (body_forms program) procedure x
  variable_of None x has held = absurd has
  variable_of (Some procedure) x (b, at) held =
      let seen = ap (λ (own : ProgramForm). variable_kind own.variables x) (seen_as p procedure b at) in
      subst (λ (o : Option BodyForm). IsRecordOf o x) (sym at) (held.0, sym seen ∙ held.1)

  pub declares_beside : (input : List ℤ) (events : List Event) (s : State) → Run program (first_state program input) events s → s.mode ≡ Running
      → DeclaresBeside program.types.items s.control s.activations
  declares_beside input events s run on target outer v is runs other holds =
      let keeps = last_keeps program well input events s run in
      let bodies = body_forms program in
      let acts = s.activations in
      let there = declared_here bodies (frame.Refers target ∷ outer) acts
      (subst (λ (k : List (Frame Value)). OperationsDeclare bodies k acts) is (declared_objects_stand_apart program well input events s run)) runs in
      there.1 target.object.root v other.beside
      (variable_of (procedure_of acts) target.object.root there.0
      (root_is (seen_now p s) s target outer on is (formals_given (given_behind outer) (behind_body outer)) other keeps.typed.inside)) holds
