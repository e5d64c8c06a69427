-- A program that calls a procedure, which returns from a block, and runs of it.

use Rattle.std.proofs.Common.{◌≡◌, true, false, List, [], ◌∷◌, ◌++◌, map, refl, arith}
use Rattle.std.specs.Prelude.{None, Some, pos}
use Rattle.std.specs.List.{filter}
use Rattle.ada_program.specs.declared.program.Actual.TheVariants as actual
use Rattle.ada_program.specs.declared.program.FormalMode.TheVariants as mode
use Rattle.ada_program.specs.declared.program.Expression.{Integer, Path as Reads}
use Rattle.ada_program.specs.declared.program.Right.TheVariants as right
use Rattle.ada_program.specs.declared.program.Stmt.{Stmt}
use Rattle.ada_program.specs.declared.program.Stmt as stmt
use Rattle.ada_program.specs.declared.program.ComponentKind.TheVariants as component
use Rattle.ada_program.specs.declared.program.TypeDefinition.{TypeDefinition}
use Rattle.ada_program.specs.declared.program.TypeDefinition.TheVariants as definition
use Rattle.ada_program.specs.declared.program.Declaration.{Declaration}
use Rattle.ada_program.specs.declared.program.Declaration.TheVariants as declaration
use Rattle.ada_program.specs.declared.program.Variable.{Variable}
use Rattle.ada_program.specs.declared.program.VariableKind.TheVariants as variable
use Rattle.ada_program.specs.declared.program.Procedure.{Procedure}
use Rattle.ada_program.specs.declared.program.Program.{Program}
use Rattle.ada_program.specs.Form.{stmt_form, expression_form, stmt_forms, statement_rules, expression_rules}
use Rattle.ada_program.specs.ProgramForm.{body_forms}
use Rattle.ada_meaning.specs.declared.event.Halt.TheVariants.{Finished}
use Rattle.ada_meaning.specs.Event.{Left}
use Rattle.ada_meaning.specs.Named.{State, next}
use Rattle.ada_meaning.specs.Run.{Event, Choice, settled, grants, takes, Step, Halts}
use Rattle.ada_order.specs.Example.{InSomeRun, InSomeStep, is_seen, number_of, returning_body, calling_stmts, calling_events}
use Rattle.ada_order.proofs.Choices.{last, run_by, step_goes_on}
use Rattle.ada_order.proofs.Example.{steps, vec, no_name, spot, value, access_type, of_type, path, makes}

-- type Cell is record Value : Integer; end record; type A is access Cell;
abbrev types : List TypeDefinition
types = definition.Record no_name (vec value (omega arith)) (vec (component.Integer (pos 0) ∷ []) (omega arith)) None ∷ access_type ∷ []

-- N : Integer; Z : Integer;
abbrev of_integer : Variable
of_integer = record { name = no_name; spot = spot; kind = variable.Integer; borrows = false }

-- declare Z : Integer := N; begin Put_Line (Integer'Image (Z)); return; end;
abbrev block : Stmt
block =
    stmt.Block
    (vec (declaration.Variable (record { 0 = 1 }) (Some (right.Value (Reads (path 0)))) ∷ []) (omega arith))
    (vec (stmt.PutImage (Reads (path 1)) ∷ stmt.Return spot ∷ []) (omega arith)) (vec [] (omega arith))

abbrev procedure : Procedure
procedure = record {
  formals = vec (mode.In ∷ []) (omega arith);
  variables = vec (of_integer ∷ of_integer ∷ []) (omega arith);
  declarations = vec [] (omega arith);
  statements = vec (block ∷ stmt.PutImage (Integer (pos 9)) ∷ []) (omega arith);
  handlers = vec [] (omega arith);
  start = spot;
  end = spot;
}

-- declare X : A; begin X := new Cell'(7); P (3); Put_Line (Integer'Image (0)); end;
abbrev declared : List Declaration
declared = declaration.Collection (record { 0 = 1 }) ∷ declaration.Variable (record { 0 = 0 }) None ∷ []

abbrev caller : Stmt
caller =
    stmt.Block (vec declared (omega arith))
    (vec (makes 0 1 ∷ stmt.Call (record { 0 = 0 }) (vec (actual.In (Integer (pos 3)) ∷ []) (omega arith)) ∷ stmt.PutImage (Integer (pos 0)) ∷ []) (omega arith))
    (vec [] (omega arith))

abbrev pub program : Program
program = record {
  types = vec types (omega arith);
  pools = vec [] (omega arith);
  procedures = vec (procedure ∷ []) (omega arith);
  variables = vec (of_type 1 ∷ []) (omega arith);
  texts = vec [] (omega arith);
  exceptions = vec [] (omega arith);
  declarations = vec [] (omega arith);
  statements = vec (caller ∷ []) (omega arith);
  handlers = vec [] (omega arith);
}

pub form : stmt_forms program ≡ calling_stmts
form = simp (statement_rules, expression_rules)

pub bodies : body_forms program ≡ returning_body ∷ []
bodies = simp (statement_rules, expression_rules)

-- Up to the leaving of the procedure's body: the object is granted, and the block in the procedure has been left.
abbrev to_body : List Choice
to_body = steps 12 ++ grants true ∷ steps 23

pub finishes : InSomeRun program (λ events last. Halts program last Finished × (filter is_seen events ≡ calling_events))
unfolding next expression_form stmt_form
finishes =
    run_by program (returning_body ∷ []) calling_stmts bodies form (to_body ++ steps 9 ++ takes 0 ∷ steps 8)
    (λ events last. Halts program last Finished × (filter is_seen events ≡ calling_events)) refl (refl, refl)

-- The next step leaves the body.
abbrev LeavesBody : State → Event → Type 0
LeavesBody before event = (event ≡ Left 2) × (map number_of before.masters ≡ 2 ∷ 1 ∷ 0 ∷ [])

pub leaves_body : InSomeStep program LeavesBody
unfolding next expression_form stmt_form
leaves_body =
    run_by program (returning_body ∷ []) calling_stmts bodies form to_body
    (λ events before. (choice : Choice) × (event : Event) × (after : State) × Step program before choice event after × LeavesBody before event) refl
    (let step = step_goes_on program (returning_body ∷ []) bodies (last program (returning_body ∷ []) calling_stmts to_body) (Left 2) refl in
    (settled, Left 2, step.0, step.1, (refl, refl)))
