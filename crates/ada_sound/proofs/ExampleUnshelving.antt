-- A program that meets the premises of the laws, in which a procedure frees an object whose Finalize frees what it owns, by a component of its formal
-- parameter. With its run.

use Rattle.std.proofs.Common.{◌≡◌, true, List, [], ◌∷◌, ◌++◌, refl, arith}
use Rattle.std.specs.Prelude.{None}
use Rattle.ada_program.specs.declared.program.Actual.TheVariants as actual
use Rattle.ada_program.specs.declared.program.Declaration.{Declaration}
use Rattle.ada_program.specs.declared.program.Declaration.TheVariants as declaration
use Rattle.ada_program.specs.declared.program.Path.{Path}
use Rattle.ada_program.specs.declared.program.Procedure.{Procedure}
use Rattle.ada_program.specs.declared.program.Program.{Program}
use Rattle.ada_program.specs.declared.program.RecordPath.{RecordPath}
use Rattle.ada_program.specs.declared.program.Right.TheVariants as right
use Rattle.ada_program.specs.declared.program.Stmt.{Stmt}
use Rattle.ada_program.specs.declared.program.Stmt as stmt
use Rattle.ada_program.specs.declared.program.TypeDefinition.{TypeDefinition}
use Rattle.ada_program.specs.declared.program.TypeDefinition.TheVariants as definition
use Rattle.ada_program.specs.Controlled.{operations_of}
use Rattle.ada_program.specs.Form.{declaration_forms, stmt_forms, no_handlers, statement_rules}
use Rattle.ada_program.specs.ProgramForm.{body_forms}
use Rattle.ada_flow.specs.Flow.{uses_in}
use Rattle.ada_meaning.specs.declared.event.Halt.TheVariants.{Finished}
use Rattle.ada_meaning.specs.Named.{next}
use Rattle.ada_meaning.specs.Run.{grants, takes}
use Rattle.ada_sound.specs.Always.{IsChecked, FinishesAfter}
use Rattle.ada_sound.specs.OperationExamples.{tidying_operations}
use Rattle.ada_sound.specs.UnshelvingExample.{unshelving_bodies, unshelving_declarations, unshelving_stmts, unshelving_events}
use Rattle.ada_sound.proofs.Choices.{accepted_in, halts_after_in}
use Rattle.ada_sound.proofs.Example.{steps, vec}
use Rattle.ada_sound.proofs.ExampleOwners.{record_of, access_to, an_integer, an_access, path}
use Rattle.ada_sound.proofs.ExampleRecords.{object, of_object, record_at, of_object_type}
use Rattle.ada_sound.proofs.ExampleOperations.{operation}
use Rattle.ada_sound.proofs.ExampleTidying.{holder_type}

-- type Cell is record Value : Integer; end record; type Link is access Cell; Holder; type Chest is access Holder; type Shelf is record Held : Chest;
-- end record; and what the formal parameters and S are known by.
abbrev unshelving_types : List TypeDefinition
unshelving_types =
    record_of (an_integer ∷ []) (omega arith)
    ∷ access_to 0
    ∷ holder_type tidying_operations
    ∷ access_to 2
    ∷ record_of (an_access 3 ∷ []) (omega arith)
    ∷ definition.Object (record { 0 = 2 })
    ∷ definition.Object (record { 0 = 4 })
    ∷ definition.Object (record { 0 = 4 })
    ∷ []

-- Free (H.Head); and Free_Holder (T.Held);
abbrev unshelving_procedures : List Procedure
unshelving_procedures =
    operation 5 (stmt.Free (record { 0 = 1 }) (of_object 0 0) ∷ []) (omega arith) [] (omega arith)
    ∷ operation 6 (stmt.Free (record { 0 = 3 }) (of_object 0 0) ∷ []) (omega arith) [] (omega arith)
    ∷ []

-- The collections of Link and of Chest; S : Shelf;
abbrev unshelving_part : List Declaration
unshelving_part =
    declaration.Collection (record { 0 = 1 })
    ∷ declaration.Collection (record { 0 = 3 })
    ∷ declaration.Record (record { 0 = 0 }) (record { 0 = 7 }) None
    ∷ []

-- The component Head of the holder that S.Held names.
abbrev head_of_shelved : Path
head_of_shelved = record (path 0 (record { 0 = 0 } ∷ record { 0 = 0 } ∷ []) (omega arith)) { of_record = true }

-- The record of type Shelf that S is.
abbrev all_of_s : RecordPath
all_of_s = record (record_at (object 0)) { «record» = record { 0 = 4 } }

-- S.Held := new Holder; S.Held.Head := new Cell; Empty (S);
abbrev unshelving_all : List Stmt
unshelving_all =
    stmt.Assign (of_object 0 0) (right.Default (record { 0 = 3 }))
    ∷ stmt.Assign head_of_shelved (right.Default (record { 0 = 1 }))
    ∷ stmt.Call (record { 0 = 1 }) (vec (actual.InOutRecord all_of_s ∷ []) (omega arith))
    ∷ []

abbrev pub unshelving : Program
unshelving = record {
  types = vec unshelving_types (omega arith);
  pools = vec [] (omega arith);
  procedures = vec unshelving_procedures (omega arith);
  variables = vec (of_object_type 7 ∷ []) (omega arith);
  texts = vec [] (omega arith);
  exceptions = vec [] (omega arith);
  declarations = vec unshelving_part (omega arith);
  statements = vec unshelving_all (omega arith);
  handlers = vec [] (omega arith);
}

pub unshelving_overrides : operations_of unshelving.types.items 0 ≡ tidying_operations
unshelving_overrides = refl

pub unshelving_has : body_forms unshelving ≡ unshelving_bodies
unshelving_has = simp statement_rules

pub unshelving_declares : declaration_forms unshelving ≡ unshelving_declarations
unshelving_declares = refl

pub unshelving_does : stmt_forms unshelving ≡ unshelving_stmts
unshelving_does = simp statement_rules

pub unshelving_accepted : IsChecked unshelving
unfolding uses_in
unshelving_accepted =
    accepted_in unshelving unshelving_bodies unshelving_stmts no_handlers unshelving_has unshelving_does refl _ _ refl refl refl

-- The holder and the cell are granted, and S is picked at the leaving of the main procedure.
pub unshelves : FinishesAfter unshelving_events unshelving
unfolding next
unshelves =
    halts_after_in unshelving unshelving_bodies unshelving_stmts no_handlers unshelving_has unshelving_does refl []
    (steps 7 ++ grants true ∷ steps 5 ++ grants true ∷ steps 32 ++ takes 0 ∷ steps 6) unshelving_events Finished refl refl refl
