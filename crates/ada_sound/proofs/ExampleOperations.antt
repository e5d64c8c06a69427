-- Programs whose types override operations: in one they are quiet, and it meets the premises of the laws; in the others a Finalize is not, or lets an
-- exception out, or would, as an Adjust would, but is never called. With runs of them.

use Rattle.std.proofs.Common.{◌≡◌, ◌≤◌, ℕ, true, false, List, [], ◌∷◌, ◌++◌, length, refl, arith}
use Rattle.std.specs.Prelude.{Some, None, pos}
use Rattle.ada_deeds.specs.declared.deed.Callee.TheVariants as callee
use Rattle.ada_deeds.specs.declared.deed.Deed.TheVariants.{Raises}
use Rattle.ada_deeds.specs.declared.deed.Operation.TheVariants.{Adjust, Finalize}
use Rattle.ada_values.specs.declared.operator.BinaryOperator.TheVariants as binary
use Rattle.ada_values.specs.Outcome.{outcome_of}
use Rattle.ada_program.specs.declared.program.Choice.{Choice as HandlerChoice}
use Rattle.ada_program.specs.declared.program.Choice.TheVariants as choice
use Rattle.ada_program.specs.declared.program.Exception.TheVariants.{ConstraintError}
use Rattle.ada_program.specs.declared.program.FormalMode.TheVariants.{InOut}
use Rattle.ada_program.specs.declared.program.Expression.{Integer, Path as Reads, NullTest}
use Rattle.ada_program.specs.declared.program.Item.TheVariants as item
use Rattle.ada_program.specs.declared.program.Right.TheVariants as right
use Rattle.ada_program.specs.declared.program.ComponentKind.{ComponentKind}
use Rattle.ada_program.specs.declared.program.Operations.{Operations}
use Rattle.ada_program.specs.declared.program.Part.{Part}
use Rattle.ada_program.specs.declared.program.PartKind.{PartKind}
use Rattle.ada_program.specs.declared.program.PartKind.TheVariants as part
use Rattle.ada_program.specs.declared.program.Path.{Path}
use Rattle.ada_program.specs.declared.program.Declaration.{Declaration}
use Rattle.ada_program.specs.declared.program.Declaration.TheVariants as declaration
use Rattle.ada_program.specs.declared.program.Handler.{Handler}
use Rattle.ada_program.specs.declared.program.Procedure.{Procedure}
use Rattle.ada_program.specs.declared.program.Stmt.{Stmt}
use Rattle.ada_program.specs.declared.program.Stmt as stmt
use Rattle.ada_program.specs.declared.program.TypeDefinition.{TypeDefinition}
use Rattle.ada_program.specs.declared.program.TypeDefinition.TheVariants as definition
use Rattle.ada_program.specs.declared.program.Program.{Program}
use Rattle.ada_program.specs.declared.program.VariableKind.TheVariants as variable
use Rattle.ada_program.specs.Controlled.{operations_of}
use Rattle.ada_program.specs.Form.{declaration_forms, stmt_forms, handler_forms, no_handlers, statement_rules, expression_rules}
use Rattle.ada_program.specs.ProgramForm.{body_forms}
use Rattle.ada_flow.specs.Flow.{uses_in}
use Rattle.ada_meaning.specs.declared.event.Halt.TheVariants.{Finished, Escaped, Erroneous}
use Rattle.ada_meaning.specs.declared.event.Why.TheVariants.{FollowsGone, FinalizesTwice}
use Rattle.ada_meaning.specs.Named.{next}
use Rattle.ada_meaning.specs.Run.{Choice, grants, takes}
use Rattle.ada_sound.specs.Always.{IsChecked, FinishesAfter, NotInUse, LetsSomeOut, UsesNewer, UsesOwn, HaltsAfter}
use Rattle.ada_sound.specs.OperationExamples.{count_operations, count_bodies, operating_declarations, operating_stmts, operating_handlers, operating_events, node_operations, two_nodes, freeing_finalize, freed_events, following_finalize, node_and_cell, following_events, escaping_operations, escaping_finalize, escaping_declarations, escaping_stmts, escaping_events, renewing_finalize, renewing_events, WouldRaise, unfinalized_events, unadjusted_operations, escaping_adjust, unadjusted_events}
use Rattle.ada_sound.proofs.Choices.{accepted_in, does_in, not_in_use_in, lets_some_in, uses_newer_in, uses_own_in, halts_after_in}
use Rattle.ada_sound.proofs.Example.{steps, vec, no_name, spot, link, with_number}
use Rattle.ada_sound.proofs.ExampleOwners.{record_of, access_to, an_integer, an_access, path, whole, part as component}
use Rattle.ada_sound.proofs.ExampleRecords.{object, of_object, record_at, of_object_type}

-- A component of a controlled type, the parent part among them.
abbrev pub of_kind : PartKind → (first number : ℕ) → Part
of_kind kind first number = record { name = no_name; kind = kind; first = record { 0 = first }; part = record { 0 = number } }

-- A controlled type without controlled components, which overrides these operations.
abbrev pub controlled_type : (parts : List Part) → length parts ≤ 8 → (components : List ComponentKind) → length components ≤ 8 → Operations → TypeDefinition
controlled_type parts few components le operations =
    definition.Record no_name (vec parts few) (vec components le)
    (Some (record { number = record { 0 = 0 }; parts = 1; limited = false; operations = operations }))

-- An operation, whose formal parameter is known by the type of this number.
abbrev pub operation : (formal : ℕ) → (statements : List Stmt) → length statements ≤ 8 → (handlers : List Handler) → length handlers ≤ 8 → Procedure
operation formal statements le handlers few = record {
  formals = vec (InOut ∷ []) (omega arith);
  variables = vec (of_object_type formal ∷ []) (omega arith);
  declarations = vec [] (omega arith);
  statements = vec statements le;
  handlers = vec handlers few;
  start = spot;
  end = spot;
}

-- type Count is new Controlled with record N : Integer; end record; type Link is access Count; and what X, Y and the formal parameters are known by.
abbrev count_types : List TypeDefinition
count_types =
    controlled_type (of_kind part.Parent 0 0 ∷ of_kind (part.Elementary an_integer) 0 1 ∷ []) (omega arith) (an_integer ∷ []) (omega arith) count_operations
    ∷ access_to 0
    ∷ definition.Object (record { 0 = 0 })
    ∷ definition.Object (record { 0 = 0 })
    ∷ definition.Object (record { 0 = 0 })
    ∷ definition.Object (record { 0 = 0 })
    ∷ definition.Object (record { 0 = 0 })
    ∷ []

-- C.N
abbrev count : Path
count = of_object 0 0

-- when .. => ..;
abbrev pub handles : HandlerChoice → Stmt → Handler
handles c s = record { choices = vec (c ∷ []) (omega arith); statements = vec (s ∷ []) (omega arith) }

-- C.N := 1; Put_Line (".."); and C.N := C.N + 1; exception when others => null; and Put_Line (Integer'Image (C.N));
abbrev count_procedures : List Procedure
count_procedures =
    operation 4 (stmt.Assign count (right.Value (Integer (pos 1))) ∷ stmt.PutText (record { 0 = 0 }) ∷ []) (omega arith) [] (omega arith)
    ∷ operation 5 (stmt.Assign count (right.Value (with_number binary.Add 1 (Reads count))) ∷ []) (omega arith)
    (handles choice.Others stmt.Null ∷ []) (omega arith)
    ∷ operation 6 (stmt.PutImage (Reads count) ∷ []) (omega arith) [] (omega arith)
    ∷ []

-- declare Y : Count := X; begin X := Y; raise Constraint_Error; end;
abbrev count_block : Stmt
count_block =
    stmt.Block
    (vec (declaration.Record (record { 0 = 2 }) (record { 0 = 3 }) (Some (vec (item.Record (record_at (object 0)) ∷ []) (omega arith))) ∷ []) (omega arith))
    (vec
    (stmt.AssignRecord (record_at (object 0)) (vec (item.Record (record_at (object 2)) ∷ []) (omega arith)) ∷ stmt.Raise ConstraintError ∷ []) (omega arith))
    (vec [] (omega arith))

-- X : Count; P : Link;
abbrev count_declarations : List Declaration
count_declarations =
    declaration.Collection (record { 0 = 1 })
    ∷ declaration.Record (record { 0 = 0 }) (record { 0 = 2 }) None
    ∷ declaration.Variable (record { 0 = 1 }) None
    ∷ []

-- P := new Count; declare .. end; exception when Constraint_Error => Free (P);
abbrev pub operating : Program
operating = record {
  types = vec count_types (omega arith);
  pools = vec [] (omega arith);
  procedures = vec count_procedures (omega arith);
  variables = vec (of_object_type 2 ∷ link ∷ of_object_type 3 ∷ []) (omega arith);
  texts = vec (no_name ∷ []) (omega arith);
  exceptions = vec [] (omega arith);
  declarations = vec count_declarations (omega arith);
  statements = vec (stmt.Assign (whole 1) (right.Default (record { 0 = 1 })) ∷ count_block ∷ []) (omega arith);
  handlers = vec (handles (choice.Exception ConstraintError) (stmt.Free (record { 0 = 1 }) (whole 1)) ∷ []) (omega arith);
}

pub operating_operations : operations_of operating.types.items 0 ≡ count_operations
operating_operations = refl

pub operating_bodies : body_forms operating ≡ count_bodies
operating_bodies = simp (statement_rules, expression_rules)

pub operating_declares : declaration_forms operating ≡ operating_declarations
operating_declares = refl

pub operating_form : stmt_forms operating ≡ operating_stmts
operating_form = simp statement_rules

pub operating_handles : handler_forms operating ≡ operating_handlers
operating_handles = simp statement_rules

pub operating_accepted : IsChecked operating
unfolding uses_in
operating_accepted =
    accepted_in operating count_bodies operating_stmts operating_handlers operating_bodies operating_form operating_handles _ _ refl refl refl

-- The new object is granted; Y is picked at the leaving of the block, and X at that of the main procedure.
abbrev operating_choices : List Choice
operating_choices = steps 22 ++ grants true ∷ steps 81 ++ takes 0 ∷ steps 35 ++ takes 0 ∷ steps 16

pub operates : FinishesAfter operating_events operating
unfolding next outcome_of
operates =
    halts_after_in operating count_bodies operating_stmts operating_handlers operating_bodies operating_form operating_handles [] operating_choices
    operating_events Finished refl refl refl

-- type Node is new Controlled with record Value : Integer; Next : Link; end record; type Link is access Node; and what the formal parameter is known by.
abbrev pub node_types : List TypeDefinition
node_types =
    controlled_type (of_kind part.Parent 0 0 ∷ of_kind (part.Elementary an_integer) 0 1 ∷ of_kind (part.Elementary (an_access 1)) 1 1 ∷ []) (omega arith)
    (an_integer ∷ an_access 1 ∷ []) (omega arith) node_operations
    ∷ access_to 0
    ∷ definition.Object (record { 0 = 0 })
    ∷ []

-- Head := new Node; Second := new Node; Head.Next := Second; where this is Finalize
abbrev node_program_with : Procedure → Program
node_program_with finalize = record {
  types = vec node_types (omega arith);
  pools = vec [] (omega arith);
  procedures = vec (finalize ∷ []) (omega arith);
  variables = vec (link ∷ link ∷ []) (omega arith);
  texts = vec [] (omega arith);
  exceptions = vec [] (omega arith);
  declarations = vec
      (declaration.Collection (record { 0 = 1 }) ∷ declaration.Variable (record { 0 = 0 }) None ∷ declaration.Variable (record { 0 = 1 }) None ∷ []) (omega arith);
  statements = vec
      (stmt.Assign (whole 0) (right.Default (record { 0 = 1 })) ∷ stmt.Assign (whole 1) (right.Default (record { 0 = 1 }))
      ∷ stmt.Assign (component 0 1) (right.Path (whole 1)) ∷ []) (omega arith);
  handlers = vec [] (omega arith);
}

-- Both nodes are granted, and the second one is picked first at the leaving; this comes behind its Finalize.
abbrev to_second : List Choice
to_second = steps 10 ++ grants true ∷ steps 4 ++ grants true ∷ steps 11 ++ takes 0 ∷ []

-- X : Link; X := N.Next; N.Next := null; Free (X);
abbrev pub freeing : Program
freeing =
    node_program_with
    (record
    (operation 2
    (stmt.Assign (whole 1) (right.Path (of_object 0 1)) ∷ stmt.Assign (of_object 0 1) right.Null ∷ stmt.Free (record { 0 = 1 }) (whole 1) ∷ [])
    (omega arith) [] (omega arith)) {
      variables = vec (of_object_type 2 ∷ link ∷ []) (omega arith);
      declarations = vec (declaration.Variable (record { 0 = 1 }) None ∷ []) (omega arith);
    })

pub freeing_operations : operations_of freeing.types.items 0 ≡ node_operations
freeing_operations = refl

pub freeing_bodies : body_forms freeing ≡ freeing_finalize ∷ []
freeing_bodies = simp statement_rules

pub freeing_form : stmt_forms freeing ≡ two_nodes
freeing_form = simp statement_rules

pub freeing_uses_own : UsesOwn freeing
unfolding uses_in
freeing_uses_own = uses_own_in freeing (freeing_finalize ∷ []) two_nodes no_handlers freeing_bodies freeing_form refl _ _ refl refl refl refl refl refl

-- Finalize of the first node frees the second one, which is gone.
pub frees_gone : HaltsAfter freed_events (Erroneous FinalizesTwice) freeing
unfolding next
frees_gone =
    halts_after_in freeing (freeing_finalize ∷ []) two_nodes no_handlers freeing_bodies freeing_form refl [] (to_second ++ steps 22 ++ takes 0 ∷ steps 12)
    freed_events (Erroneous FinalizesTwice) refl refl refl

-- N.Next.Value
abbrev value_behind : Path
value_behind = record (path 0 (record { 0 = 1 } ∷ record { 0 = 0 } ∷ []) (omega arith)) { of_record = true }

-- type Node is new Controlled with record Value : Integer; Next : Cell_Link; end record; type Link is access Node; what the formal parameter is known by;
-- type Cell is record Value : Integer; end record; and type Cell_Link is access Cell.
abbrev node_and_cell_types : List TypeDefinition
node_and_cell_types =
    controlled_type (of_kind part.Parent 0 0 ∷ of_kind (part.Elementary an_integer) 0 1 ∷ of_kind (part.Elementary (an_access 4)) 1 1 ∷ []) (omega arith)
    (an_integer ∷ an_access 4 ∷ []) (omega arith) node_operations
    ∷ access_to 0
    ∷ definition.Object (record { 0 = 0 })
    ∷ record_of (an_integer ∷ []) (omega arith)
    ∷ access_to 3
    ∷ []

-- if N.Next /= null then Put_Line (Integer'Image (N.Next.Value)); end if;
abbrev following_statement : Stmt
following_statement =
    stmt.If
    (vec
    (record { condition = NullTest (of_object 0 1) false; statements = vec (stmt.PutImage (Reads value_behind) ∷ []) (omega arith) } ∷ []) (omega arith))
    (vec [] (omega arith))

-- That; exception when others => null;
abbrev following_procedure : Procedure
following_procedure = operation 2 (following_statement ∷ []) (omega arith) (handles choice.Others stmt.Null ∷ []) (omega arith)

-- Head := new Node; Second := new Cell; Head.Next := Second; where Finalize does that
abbrev pub following : Program
following = record (node_program_with following_procedure) {
  types = vec node_and_cell_types (omega arith);
  variables = vec (link ∷ record link { kind = variable.Access (record { 0 = 4 }) } ∷ []) (omega arith);
  declarations = vec
      (declaration.Collection (record { 0 = 1 }) ∷ declaration.Collection (record { 0 = 4 }) ∷ declaration.Variable (record { 0 = 0 }) None
      ∷ declaration.Variable (record { 0 = 1 }) None ∷ []) (omega arith);
  statements = vec
      (stmt.Assign (whole 0) (right.Default (record { 0 = 1 })) ∷ stmt.Assign (whole 1) (right.Default (record { 0 = 4 }))
      ∷ stmt.Assign (component 0 1) (right.Path (whole 1)) ∷ []) (omega arith);
}

pub following_operations : operations_of following.types.items 0 ≡ node_operations
following_operations = refl

pub following_bodies : body_forms following ≡ following_finalize ∷ []
following_bodies = simp (statement_rules, expression_rules)

pub following_form : stmt_forms following ≡ node_and_cell
following_form = simp statement_rules

-- It follows values of the type of the cells, whose collection is newer than that of the nodes.
pub following_uses_newer : UsesNewer following
unfolding uses_in
following_uses_newer =
    uses_newer_in following (following_finalize ∷ []) node_and_cell no_handlers following_bodies following_form refl 1 4 refl refl refl _ _
    refl refl refl refl refl refl refl

-- Both objects are granted. The cell goes with its collection, and then the node is picked: its Finalize follows its component to the cell.
pub follows_gone : HaltsAfter following_events (Erroneous FollowsGone) following
unfolding next
follows_gone =
    halts_after_in following (following_finalize ∷ []) node_and_cell no_handlers following_bodies following_form refl []
    (steps 11 ++ grants true ∷ steps 4 ++ grants true ∷ steps 10 ++ takes 0 ∷ steps 3 ++ takes 0 ∷ steps 8) following_events (Erroneous FollowsGone) refl refl refl

-- type Count is new Controlled with record N : Integer; end record; and what X and the formal parameter are known by.
abbrev escaping_types : Operations → List TypeDefinition
escaping_types operations =
    controlled_type (of_kind part.Parent 0 0 ∷ of_kind (part.Elementary an_integer) 0 1 ∷ []) (omega arith) (an_integer ∷ []) (omega arith) operations
    ∷ definition.Object (record { 0 = 0 })
    ∷ definition.Object (record { 0 = 0 })
    ∷ []

-- X : Count; begin null; where Finalize raises Constraint_Error
abbrev pub escaping : Program
escaping = record {
  types = vec (escaping_types escaping_operations) (omega arith);
  pools = vec [] (omega arith);
  procedures = vec (operation 2 (stmt.Raise ConstraintError ∷ []) (omega arith) [] (omega arith) ∷ []) (omega arith);
  variables = vec (of_object_type 1 ∷ []) (omega arith);
  texts = vec [] (omega arith);
  exceptions = vec [] (omega arith);
  declarations = vec (declaration.Record (record { 0 = 0 }) (record { 0 = 1 }) None ∷ []) (omega arith);
  statements = vec (stmt.Null ∷ []) (omega arith);
  handlers = vec [] (omega arith);
}

pub escaping_overrides : operations_of escaping.types.items 0 ≡ escaping_operations
escaping_overrides = refl

pub escaping_bodies : body_forms escaping ≡ escaping_finalize ∷ []
escaping_bodies = simp statement_rules

pub escaping_declares : declaration_forms escaping ≡ escaping_declarations
escaping_declares = refl

pub escaping_form : stmt_forms escaping ≡ escaping_stmts
escaping_form = simp statement_rules

-- What a Finalize of the first type raises comes out.
pub escaping_lets_some_out : LetsSomeOut escaping
unfolding uses_in
escaping_lets_some_out =
    lets_some_in escaping (escaping_finalize ∷ []) escaping_stmts no_handlers escaping_bodies escaping_form refl ConstraintError (record { 0 = 0 }) _ _
    refl refl refl refl refl refl refl

-- X is picked at the leaving of the main procedure.
pub escapes : HaltsAfter escaping_events (Escaped ConstraintError) escaping
unfolding next
escapes =
    halts_after_in escaping (escaping_finalize ∷ []) escaping_stmts no_handlers escaping_bodies escaping_form refl []
    (steps 7 ++ takes 0 ∷ steps 8) escaping_events (Escaped ConstraintError) refl refl refl

-- D : Count; C := D;
abbrev renewing_procedure : Procedure
renewing_procedure =
    record
    (operation 2 (stmt.AssignRecord (record_at (object 0)) (vec (item.Record (record_at (object 1)) ∷ []) (omega arith)) ∷ []) (omega arith) [] (omega arith)) {
      variables = vec (of_object_type 2 ∷ of_object_type 3 ∷ []) (omega arith);
      declarations = vec (declaration.Record (record { 0 = 1 }) (record { 0 = 3 }) None ∷ []) (omega arith);
    }

-- X : Count; begin null; where Finalize does that
abbrev pub renewing : Program
renewing = record escaping {
  types = vec (escaping_types escaping_operations ++ definition.Object (record { 0 = 0 }) ∷ []) (omega arith);
  procedures = vec (renewing_procedure ∷ []) (omega arith);
}

pub renewing_overrides : operations_of renewing.types.items 0 ≡ escaping_operations
renewing_overrides = refl

pub renewing_bodies : body_forms renewing ≡ renewing_finalize ∷ []
renewing_bodies = simp statement_rules

pub renewing_declares : declaration_forms renewing ≡ escaping_declarations
renewing_declares = refl

pub renewing_form : stmt_forms renewing ≡ escaping_stmts
renewing_form = simp statement_rules

pub renewing_not_in_use : NotInUse renewing
unfolding uses_in
renewing_not_in_use =
    not_in_use_in renewing (renewing_finalize ∷ []) escaping_stmts no_handlers renewing_bodies renewing_form refl _ _ refl refl refl refl refl refl

-- X is picked at the leaving of the main procedure; in its Finalize it is to be finalized once more.
pub renews : HaltsAfter renewing_events (Erroneous FinalizesTwice) renewing
unfolding next
renews =
    halts_after_in renewing (renewing_finalize ∷ []) escaping_stmts no_handlers renewing_bodies renewing_form refl []
    (steps 7 ++ takes 0 ∷ steps 10) renewing_events (Erroneous FinalizesTwice) refl refl refl

-- begin null; where Finalize of Count raises Constraint_Error, and there is no X
abbrev pub unfinalized : Program
unfinalized = record escaping { variables = vec [] (omega arith); declarations = vec [] (omega arith) }

pub unfinalized_overrides : operations_of unfinalized.types.items 0 ≡ escaping_operations
unfinalized_overrides = refl

pub unfinalized_bodies : body_forms unfinalized ≡ escaping_finalize ∷ []
unfinalized_bodies = simp statement_rules

pub unfinalized_declares : declaration_forms unfinalized ≡ []
unfinalized_declares = refl

pub unfinalized_form : stmt_forms unfinalized ≡ escaping_stmts
unfinalized_form = simp statement_rules

pub unfinalized_would_raise : WouldRaise Finalize unfinalized
unfinalized_would_raise =
    does_in unfinalized (escaping_finalize ∷ []) escaping_stmts no_handlers unfinalized_bodies unfinalized_form refl (Raises ConstraintError)
    (callee.Parts Finalize (record { 0 = 0 })) refl

pub unfinalized_accepted : IsChecked unfinalized
unfolding uses_in
unfinalized_accepted =
    accepted_in unfinalized (escaping_finalize ∷ []) escaping_stmts no_handlers unfinalized_bodies unfinalized_form refl _ _ refl refl refl

pub finishes_unfinalized : FinishesAfter unfinalized_events unfinalized
unfolding next
finishes_unfinalized =
    halts_after_in unfinalized (escaping_finalize ∷ []) escaping_stmts no_handlers unfinalized_bodies unfinalized_form refl [] (steps 6) unfinalized_events
    Finished refl refl refl

-- X : Count; begin null; where Adjust of Count raises Constraint_Error
abbrev pub unadjusted : Program
unadjusted = record escaping { types = vec (escaping_types unadjusted_operations) (omega arith) }

pub unadjusted_overrides : operations_of unadjusted.types.items 0 ≡ unadjusted_operations
unadjusted_overrides = refl

pub unadjusted_bodies : body_forms unadjusted ≡ escaping_adjust ∷ []
unadjusted_bodies = simp statement_rules

pub unadjusted_declares : declaration_forms unadjusted ≡ escaping_declarations
unadjusted_declares = refl

pub unadjusted_form : stmt_forms unadjusted ≡ escaping_stmts
unadjusted_form = simp statement_rules

pub unadjusted_would_raise : WouldRaise Adjust unadjusted
unadjusted_would_raise =
    does_in unadjusted (escaping_adjust ∷ []) escaping_stmts no_handlers unadjusted_bodies unadjusted_form refl (Raises ConstraintError)
    (callee.Parts Adjust (record { 0 = 0 })) refl

pub unadjusted_accepted : IsChecked unadjusted
unfolding uses_in
unadjusted_accepted =
    accepted_in unadjusted (escaping_adjust ∷ []) escaping_stmts no_handlers unadjusted_bodies unadjusted_form refl _ _ refl refl refl

-- X is picked at the leaving of the main procedure.
pub finishes_unadjusted : FinishesAfter unadjusted_events unadjusted
unfolding next
finishes_unadjusted =
    halts_after_in unadjusted (escaping_adjust ∷ []) escaping_stmts no_handlers unadjusted_bodies unadjusted_form refl []
    (steps 7 ++ takes 0 ∷ steps 5) unadjusted_events Finished refl refl refl
