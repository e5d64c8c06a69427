-- A program in which an Adjust follows a value of the access type of the object that is adjusted, which names that object. With a run of it.

use Rattle.std.proofs.Common.{◌≡◌, true, List, [], ◌∷◌, ◌++◌, refl, arith}
use Rattle.std.specs.Prelude.{None}
use Rattle.ada_program.specs.declared.program.Choice.TheVariants as choice
use Rattle.ada_program.specs.declared.program.Declaration.TheVariants as declaration
use Rattle.ada_program.specs.declared.program.Expression.{Path as Reads}
use Rattle.ada_program.specs.declared.program.Item.TheVariants as item
use Rattle.ada_program.specs.declared.program.PartKind.TheVariants as part
use Rattle.ada_program.specs.declared.program.Path.{Path}
use Rattle.ada_program.specs.declared.program.Program.{Program}
use Rattle.ada_program.specs.declared.program.Right.TheVariants as right
use Rattle.ada_program.specs.declared.program.Stmt.{Stmt}
use Rattle.ada_program.specs.declared.program.Stmt as stmt
use Rattle.ada_program.specs.declared.program.TypeDefinition.{TypeDefinition}
use Rattle.ada_program.specs.declared.program.TypeDefinition.TheVariants as definition
use Rattle.ada_program.specs.Controlled.{operations_of}
use Rattle.ada_program.specs.Form.{stmt_forms, no_handlers, statement_rules, expression_rules}
use Rattle.ada_program.specs.ProgramForm.{body_forms}
use Rattle.ada_flow.specs.Flow.{uses_in}
use Rattle.ada_meaning.specs.declared.event.Halt.TheVariants.{Erroneous}
use Rattle.ada_meaning.specs.declared.event.Why.TheVariants.{FollowsGone}
use Rattle.ada_meaning.specs.Named.{next}
use Rattle.ada_meaning.specs.Run.{grants}
use Rattle.ada_sound.specs.Always.{FollowsAdjusted, HaltsAfter}
use Rattle.ada_sound.specs.CrossingExample.{crossing_operations, crossing_adjust, crossing_stmts, crossing_events}
use Rattle.ada_sound.proofs.Choices.{follows_adjusted_in, halts_after_in}
use Rattle.ada_sound.proofs.Example.{steps, vec, no_name, link}
use Rattle.ada_sound.proofs.ExampleOwners.{access_to, an_integer, an_access, path, whole, part as component}
use Rattle.ada_sound.proofs.ExampleRecords.{of_object, record_at}
use Rattle.ada_sound.proofs.ExampleOperations.{of_kind, controlled_type, operation}

-- Node; Link; what the formal parameter is known by; Cell; and Item.
abbrev crossing_types : List TypeDefinition
crossing_types =
    controlled_type (of_kind part.Parent 0 0 ∷ of_kind (part.Elementary (an_access 4)) 0 1 ∷ of_kind (part.Elementary (an_access 1)) 1 1 ∷ []) (omega arith)
    (an_access 4 ∷ an_access 1 ∷ []) (omega arith) crossing_operations
    ∷ access_to 0
    ∷ definition.Object (record { 0 = 0 })
    ∷ definition.Record no_name (vec (of_kind (part.Elementary an_integer) 0 0 ∷ []) (omega arith)) (vec (an_integer ∷ []) (omega arith)) None
    ∷ access_to 3
    ∷ []

-- N.Back.Held
abbrev held_behind : Path
held_behind = record (path 0 (record { 0 = 1 } ∷ record { 0 = 0 } ∷ []) (omega arith)) { of_record = true }

-- N.Held := null; N.Back := null;
abbrev clears : List Stmt
clears = stmt.Assign (of_object 0 0) right.Null ∷ stmt.Assign (of_object 0 1) right.Null ∷ []

-- Q := new Node; Q.Held := new Cell; Q.Back := new Node; Q.Back.all := Q.all; Put_Line (Integer'Image (Q.Held.N)); where Adjust does this:
-- Free (N.Back.Held); N.Held := null; N.Back := null; exception when others => N.Held := null; N.Back := null;
abbrev pub crossing : Program
crossing = record {
  types = vec crossing_types (omega arith);
  pools = vec [] (omega arith);
  procedures = vec
      (operation 2 (stmt.Free (record { 0 = 4 }) held_behind ∷ clears) (omega arith)
      (record { choices = vec (choice.Others ∷ []) (omega arith); statements = vec clears (omega arith) } ∷ []) (omega arith) ∷ []) (omega arith);
  variables = vec (link ∷ []) (omega arith);
  texts = vec [] (omega arith);
  exceptions = vec [] (omega arith);
  declarations = vec
      (declaration.Collection (record { 0 = 4 }) ∷ declaration.Collection (record { 0 = 1 }) ∷ declaration.Variable (record { 0 = 0 }) None ∷ []) (omega arith);
  statements = vec
      (stmt.Assign (whole 0) (right.Default (record { 0 = 1 })) ∷ stmt.Assign (component 0 0) (right.Default (record { 0 = 4 }))
      ∷ stmt.Assign (component 0 1) (right.Default (record { 0 = 1 }))
      ∷ stmt.AssignRecord (record_at (component 0 1)) (vec (item.Record (record_at (whole 0)) ∷ []) (omega arith))
      ∷ stmt.PutImage (Reads (path 0 (record { 0 = 0 } ∷ record { 0 = 0 } ∷ []) (omega arith))) ∷ []) (omega arith);
  handlers = vec [] (omega arith);
}

pub crossing_overrides : operations_of crossing.types.items 0 ≡ crossing_operations
crossing_overrides = refl

pub crossing_bodies : body_forms crossing ≡ crossing_adjust ∷ []
crossing_bodies = simp statement_rules

pub crossing_form : stmt_forms crossing ≡ crossing_stmts
crossing_form = simp (statement_rules, expression_rules)

-- Its Adjust follows values of Link, by which a node is known that is adjusted.
pub crossing_follows : FollowsAdjusted crossing
unfolding uses_in
crossing_follows =
    follows_adjusted_in crossing (crossing_adjust ∷ []) crossing_stmts no_handlers crossing_bodies crossing_form refl 1 (record { 0 = 0 }) refl refl _ _
    refl refl refl refl refl refl refl

-- All three objects are granted.
pub crosses : HaltsAfter crossing_events (Erroneous FollowsGone) crossing
unfolding next
crosses =
    halts_after_in crossing (crossing_adjust ∷ []) crossing_stmts no_handlers crossing_bodies crossing_form refl []
    (steps 8 ++ grants true ∷ steps 5 ++ grants true ∷ steps 4 ++ grants true ∷ steps 34) crossing_events (Erroneous FollowsGone) refl refl refl
