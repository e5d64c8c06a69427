-- A program in which a Finalize frees what lies in a newer collection, which goes first. With a run of it.

use Rattle.std.proofs.Common.{◌≡◌, true, [], ◌∷◌, ◌++◌, refl, arith}
use Rattle.ada_program.specs.declared.program.Program.{Program}
use Rattle.ada_program.specs.declared.program.Stmt as stmt
use Rattle.ada_program.specs.Controlled.{operations_of}
use Rattle.ada_program.specs.Form.{stmt_forms, no_handlers, statement_rules}
use Rattle.ada_program.specs.ProgramForm.{body_forms}
use Rattle.ada_flow.specs.Flow.{uses_in}
use Rattle.ada_meaning.specs.declared.event.Halt.TheVariants.{Erroneous}
use Rattle.ada_meaning.specs.declared.event.Why.TheVariants.{EndsTwice}
use Rattle.ada_meaning.specs.Named.{next}
use Rattle.ada_meaning.specs.Run.{grants, takes}
use Rattle.ada_sound.specs.Always.{UsesNewer, HaltsAfter}
use Rattle.ada_sound.specs.OperationExamples.{node_operations, node_and_cell, clearing_finalize, clearing_events}
use Rattle.ada_sound.proofs.Choices.{uses_newer_in, halts_after_in}
use Rattle.ada_sound.proofs.Example.{steps, vec}
use Rattle.ada_sound.proofs.ExampleRecords.{of_object}
use Rattle.ada_sound.proofs.ExampleOperations.{operation, following}

-- Head := new Node; Second := new Cell; Head.Next := Second; where Finalize does this: Free (N.Next);
abbrev pub clearing : Program
clearing = record following {
  procedures = vec (operation 2 (stmt.Free (record { 0 = 4 }) (of_object 0 1) ∷ []) (omega arith) [] (omega arith) ∷ []) (omega arith);
}

pub clearing_operations : operations_of clearing.types.items 0 ≡ node_operations
clearing_operations = refl

pub clearing_bodies : body_forms clearing ≡ clearing_finalize ∷ []
clearing_bodies = simp statement_rules

pub clearing_form : stmt_forms clearing ≡ node_and_cell
clearing_form = simp statement_rules

-- It frees objects of the type of the cells, whose collection is newer than that of the nodes.
pub clearing_uses_newer : UsesNewer clearing
unfolding uses_in
clearing_uses_newer =
    uses_newer_in clearing (clearing_finalize ∷ []) node_and_cell no_handlers clearing_bodies clearing_form refl 1 4 refl refl refl _ _
    refl refl refl refl refl refl refl

-- Both objects are granted. The cell goes with its collection, and then the node is picked: its Finalize frees the cell once more.
pub clears : HaltsAfter clearing_events (Erroneous EndsTwice) clearing
unfolding next
clears =
    halts_after_in clearing (clearing_finalize ∷ []) node_and_cell no_handlers clearing_bodies clearing_form refl []
    (steps 11 ++ grants true ∷ steps 4 ++ grants true ∷ steps 10 ++ takes 0 ∷ steps 3 ++ takes 0 ∷ steps 3) clearing_events (Erroneous EndsTwice) refl refl refl
