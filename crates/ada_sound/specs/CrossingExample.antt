-- The operations, the statements and the events of the program by which the laws show that where an object is adjusted, no value of its own access type may be
-- followed (7.6): its Adjust follows a component that names the object itself, and frees there what the copy shares with what was copied.

use Rattle.std.specs.Prelude.{List, [], ◌∷◌, ◌++◌, Some, None}
use Rattle.std.proofs.Math.ListN.{replicate}
use Rattle.ada_program.specs.declared.program.Choice.TheVariants as choice
use Rattle.ada_program.specs.declared.program.Operations.{Operations}
use Rattle.ada_program.specs.Form.{reads, item_of_record, nothing, allocates_default, assigns, assigns_record, frees, writes, StmtsForm, no_stmts, a_stmt, no_handlers, a_handler}
use Rattle.ada_program.specs.ProgramForm.{BodyForm}
use Rattle.ada_meaning.specs.declared.state.Value.{Value}
use Rattle.ada_meaning.specs.declared.state.Value.TheVariants.{Names}
use Rattle.ada_meaning.specs.declared.event.Birth.TheVariants.{Creation, Adjustment}
use Rattle.ada_meaning.specs.declared.event.Cause.TheVariants.{Assigning, Freeing}
use Rattle.ada_meaning.specs.Event.{Born, Finalized, Back, Followed, Left}
use Rattle.ada_meaning.specs.Run.{Event}
use Rattle.ada_sound.specs.Examples.{example_path}
use Rattle.ada_sound.specs.RecordExamples.{object_path, record_behind}
use Rattle.ada_sound.specs.OperationExamples.{operation_body}

-- type Node is new Controlled with record Held : Item; Back : Link; end record; which has number 0; type Link is access Node; which has number 1; type Cell
-- is record N : Integer; end record; which has number 3; and type Item is access Cell; which has number 4, and whose collection is created before that of
-- Link. The formal parameter is known by type 2. Q : Link has number 0 in the main procedure.

-- Node overrides Adjust, by this procedure.
abbrev pub crossing_operations : Operations
crossing_operations = record { initialize = None; adjust = Some (record { 0 = 0 }); finalize = None }

-- N.Held := null; N.Back := null;
abbrev pub crossing_clears : StmtsForm
crossing_clears = a_stmt (assigns (object_path 0 (0 ∷ [])) nothing) (a_stmt (assigns (object_path 0 (1 ∷ [])) nothing) no_stmts)

-- procedure Adjust (N : in out Node) is begin Free (N.Back.Held); N.Held := null; N.Back := null; exception when others => N.Held := null; N.Back := null;
-- end Adjust;
abbrev pub crossing_adjust : BodyForm
crossing_adjust =
    operation_body 2 (a_stmt (frees 4 (object_path 0 (1 ∷ 0 ∷ []))) crossing_clears) (a_handler (choice.Others ∷ []) crossing_clears no_handlers)

-- Q := new Node; Q.Held := new Cell; Q.Back := new Node; Q.Back.all := Q.all; Put_Line (Integer'Image (Q.Held.N));
abbrev pub crossing_stmts : StmtsForm
crossing_stmts =
    a_stmt (assigns (example_path 0 []) (allocates_default 1))
    (a_stmt (assigns (example_path 0 (0 ∷ [])) (allocates_default 4))
    (a_stmt (assigns (example_path 0 (1 ∷ [])) (allocates_default 1))
    (a_stmt (assigns_record (record (record_behind 0) { object = example_path 0 (1 ∷ []) }) (item_of_record (record_behind 0) ∷ []))
    (a_stmt (writes (reads (example_path 0 (0 ∷ 0 ∷ [])))) no_stmts))))

-- The node that Q names.
abbrev pub copied_node : Value
copied_node = Names (record { 0 = 0 })

-- The cell that it holds.
abbrev pub shared_cell : Value
shared_cell = Names (record { 0 = 1 })

-- The node that its Back names, to which it is copied.
abbrev pub crossed_node : Value
crossed_node = Names (record { 0 = 2 })

-- The node has its value, for which nothing is called; it is followed where its Held is found as a target, and where the cell is written there, where its
-- Back is found, and, once the other node has its value, where that is written. The assignment follows it to the other node, finds that and then the record to
-- be copied, and finalizes the value of the other node, for which nothing is called. Then the record is copied out of the first node to the other one: so that
-- one names the cell, and itself. Its Adjust, a master of its own, follows it to what its Back names, which is the node itself, and frees the cell that its
-- Held names there: the words of the cell go back, and Held becomes null. Then Held and Back become null, Adjust is left, and the node has a value again. Where
-- the value of the cell is to be read, the first node is followed to its Held, which names the cell that is gone.
abbrev pub crossing_events : List Event
crossing_events =
    Born copied_node 0 0 0 1 Creation
    ∷ replicate 3 (Followed copied_node)
    ++ Born crossed_node 0 0 0 2 Creation
    ∷ replicate 2 (Followed copied_node)
    ++ Followed crossed_node
    ∷ Followed copied_node
    ∷ Finalized crossed_node 0 0 0 2 (Assigning 1)
    ∷ Followed copied_node
    ∷ replicate 3 (Followed crossed_node)
    ++ Back shared_cell 4 2 (Some 0) None (Freeing 3)
    ∷ replicate 5 (Followed crossed_node)
    ++ Left 2
    ∷ Born crossed_node 0 1 0 3 (Adjustment 1)
    ∷ Followed copied_node
    ∷ []
