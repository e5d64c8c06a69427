-- A program that meets the premises of the laws, in which a list is left whose nodes have a Finalize that frees what they own. With its run.

use Rattle.std.proofs.Common.{◌≡◌, true, List, [], ◌∷◌, ◌++◌, refl, ◌⊎◌, inr, arith}
use Rattle.std.specs.Prelude.{Some}
use Rattle.ada_program.specs.declared.program.Declaration.{Declaration}
use Rattle.ada_program.specs.declared.program.Declaration.TheVariants as declaration
use Rattle.ada_program.specs.declared.program.PartKind.TheVariants as part_kind
use Rattle.ada_program.specs.declared.program.Path.{Path}
use Rattle.ada_program.specs.declared.program.Procedure.{Procedure}
use Rattle.ada_program.specs.declared.program.Program.{Program}
use Rattle.ada_program.specs.declared.program.Right.TheVariants as right
use Rattle.ada_program.specs.declared.program.Stmt.{Stmt}
use Rattle.ada_program.specs.declared.program.Stmt as stmt
use Rattle.ada_program.specs.declared.program.TypeDefinition.{TypeDefinition}
use Rattle.ada_program.specs.declared.program.TypeDefinition.TheVariants as definition
use Rattle.ada_program.specs.Controlled.{operations_of}
use Rattle.ada_program.specs.Form.{declaration_forms, stmt_forms, no_handlers, statement_rules}
use Rattle.ada_program.specs.ProgramForm.{body_forms}
use Rattle.ada_flow.specs.Flow.{uses_in}
use Rattle.ada_meaning.specs.declared.event.Halt.TheVariants.{Finished}
use Rattle.ada_meaning.specs.Named.{State, next}
use Rattle.ada_meaning.specs.Run.{Choice, grants, takes}
use Rattle.ada_meaning.proofs.Beginnings.{statements_begin}
use Rattle.ada_sound.specs.Agreement.{RunsPlainly, RunsTracking}
use Rattle.ada_sound.specs.Always.{IsChecked, FinishesAfter, InSomeRun}
use Rattle.ada_sound.specs.OperationExamples.{tidying_operations}
use Rattle.ada_sound.specs.LeavingExample.{leaving_finalize, leaving_declarations, leaving_stmts, leaving_events, three_stmts, IsSpokenOfElsewhere}
use Rattle.ada_sound.proofs.Choices.{accepted_in, halts_after_in, run_in, last}
use Rattle.ada_sound.proofs.Example.{steps, vec, no_name}
use Rattle.ada_sound.proofs.ExampleOwners.{record_of, access_to, an_integer, an_access, of_access, path, part as component}
use Rattle.ada_sound.proofs.ExampleRecords.{of_object}
use Rattle.ada_sound.proofs.ExampleOperations.{of_kind, operation}
use Rattle.ada_sound.proofs.ExampleInside.{runs_neither, operates_here, names_gone}

-- type Cell is record Value : Integer; end record; type Link is access Cell; type Node is new Limited_Controlled with record Head : Link; Next : Chain; end record;
-- type Chain is access Node; and what the formal parameter is known by.
abbrev leaving_types : List TypeDefinition
leaving_types =
    record_of (an_integer ∷ []) (omega arith)
    ∷ access_to 0
    ∷ definition.Record no_name
    (vec (of_kind part_kind.Parent 0 0 ∷ of_kind (part_kind.Elementary (an_access 1)) 0 1 ∷ of_kind (part_kind.Elementary (an_access 3)) 1 1 ∷ []) (omega arith))
    (vec (an_access 1 ∷ an_access 3 ∷ []) (omega arith))
    (Some (record { number = record { 0 = 0 }; parts = 1; limited = true; operations = tidying_operations }))
    ∷ access_to 2
    ∷ definition.Object (record { 0 = 2 })
    ∷ []

-- Free (H.Head);
abbrev leaving_procedure : Procedure
leaving_procedure = operation 4 (stmt.Free (record { 0 = 1 }) (of_object 0 0) ∷ []) (omega arith) [] (omega arith)

-- The collections of Link and of Chain; C : Chain := new Node;
abbrev leaving_part : List Declaration
leaving_part =
    declaration.Collection (record { 0 = 1 })
    ∷ declaration.Collection (record { 0 = 3 })
    ∷ declaration.Variable (record { 0 = 0 }) (Some (right.Default (record { 0 = 3 })))
    ∷ []

-- The component Head of the node that C.Next names.
abbrev head_of_next : Path
head_of_next = path 0 (record { 0 = 1 } ∷ record { 0 = 0 } ∷ []) (omega arith)

-- C.Next := new Node; C.Next.Head := new Cell;
abbrev leaving_all : List Stmt
leaving_all =
    stmt.Assign (component 0 1) (right.Default (record { 0 = 3 }))
    ∷ stmt.Assign head_of_next (right.Default (record { 0 = 1 }))
    ∷ []

abbrev pub leaving : Program
leaving = record {
  types = vec leaving_types (omega arith);
  pools = vec [] (omega arith);
  procedures = vec (leaving_procedure ∷ []) (omega arith);
  variables = vec (of_access 3 ∷ []) (omega arith);
  texts = vec [] (omega arith);
  exceptions = vec [] (omega arith);
  declarations = vec leaving_part (omega arith);
  statements = vec leaving_all (omega arith);
  handlers = vec [] (omega arith);
}

pub leaving_overrides : operations_of leaving.types.items 0 ≡ tidying_operations
leaving_overrides = refl

pub leaving_has : body_forms leaving ≡ leaving_finalize ∷ []
leaving_has = simp statement_rules

pub leaving_declares : declaration_forms leaving ≡ leaving_declarations
leaving_declares = refl

pub leaving_does : stmt_forms leaving ≡ leaving_stmts
leaving_does = simp statement_rules

pub leaving_accepted : IsChecked leaving
unfolding uses_in
leaving_accepted =
    accepted_in leaving (leaving_finalize ∷ []) leaving_stmts no_handlers leaving_has leaving_does refl _ _ refl refl refl

-- The nodes and the cell are granted, and at the leaving of the main procedure the newest node is taken first.
pub leaves : FinishesAfter leaving_events leaving
unfolding next
leaves =
    halts_after_in leaving (leaving_finalize ∷ []) leaving_stmts no_handlers leaving_has leaving_does refl []
    (steps 4 ++ grants true ∷ steps 6 ++ grants true ∷ steps 5 ++ grants true ∷ steps 5 ++ takes 0 ∷ steps 15 ++ takes 0 ∷ steps 15) leaving_events Finished refl refl refl

-- C.Next.Next
abbrev next_of_next : Path
next_of_next = path 0 (record { 0 = 1 } ∷ record { 0 = 1 } ∷ []) (omega arith)

-- C.Next := new Node; C.Next.Next := new Node; in the place of these statements.
abbrev pub leaving_three : Program
leaving_three = record leaving {
  statements = vec
      (stmt.Assign (component 0 1) (right.Default (record { 0 = 3 })) ∷ stmt.Assign next_of_next (right.Default (record { 0 = 3 })) ∷ []) (omega arith);
}

pub three_overrides : operations_of leaving_three.types.items 0 ≡ tidying_operations
three_overrides = refl

pub three_has : body_forms leaving_three ≡ leaving_finalize ∷ []
three_has = simp statement_rules

pub three_declares : declaration_forms leaving_three ≡ leaving_declarations
three_declares = refl

pub three_does : stmt_forms leaving_three ≡ three_stmts
three_does = simp statement_rules

pub three_accepted : IsChecked leaving_three
unfolding uses_in
three_accepted =
    accepted_in leaving_three (leaving_finalize ∷ []) three_stmts no_handlers three_has three_does refl _ _ refl refl refl

-- The nodes are granted. At the leaving the third one is picked first, and then the first one, whose Finalize begins with its Free.
abbrev to_free : List Choice
to_free =
    steps 4 ++ grants true ∷ steps 6 ++ grants true ∷ steps 5 ++ grants true ∷ steps 6 ++ takes 0 ∷ steps 12 ++ takes 1 ∷ steps 2

abbrev inside : State
inside = last leaving_three [] (leaving_finalize ∷ []) three_stmts no_handlers to_free

neither : RunsPlainly leaving_three inside ⊎ RunsTracking leaving_three inside → ⊥
unfolding next
neither = runs_neither leaving_three inside (leaving_finalize ∷ []) 0 leaving_finalize three_has refl refl refl refl

-- The second node names the third one, which is gone.
pub is_spoken_of : InSomeRun leaving_three (λ events s. IsSpokenOfElsewhere leaving_three s)
unfolding next
is_spoken_of =
    run_in leaving_three (leaving_finalize ∷ []) three_stmts no_handlers three_has three_does refl [] to_free (λ events s. IsSpokenOfElsewhere leaving_three s) refl
    (((statements_begin inside).0 refl, operates_here inside.control refl, inr neither), names_gone leaving_three inside (record { 0 = 1 }) (record { 0 = 2 }) 1 refl refl)
