-- The operation, the statements and the events of the program by which the laws show that a list is left whose nodes have a Finalize that frees what they own:
-- the component that names the next node dangles then.

use Rattle.std.specs.Prelude.{List, [], ◌∷◌, ◌++◌, Some, None}
use Rattle.std.proofs.Math.ListN.{replicate}
use Rattle.ada_program.specs.declared.program.Program.{Program}
use Rattle.ada_program.specs.Form.{PathForm, allocates_default, DeclarationForm, collects, declares, assigns, frees, StmtsForm, no_stmts, a_stmt, no_handlers}
use Rattle.ada_program.specs.ProgramForm.{BodyForm}
use Rattle.ada_meaning.specs.declared.state.Value.{Value}
use Rattle.ada_meaning.specs.declared.state.Value.TheVariants.{Names}
use Rattle.ada_meaning.specs.declared.event.Birth.TheVariants.{Creation}
use Rattle.ada_meaning.specs.declared.event.Cause.TheVariants.{Leaving, Freeing}
use Rattle.ada_meaning.specs.Event.{Born, Finalized, Back, Followed, Left}
use Rattle.ada_meaning.specs.Named.{State}
use Rattle.ada_meaning.specs.Run.{Event}
use Rattle.ada_sound.specs.Examples.{example_path}
use Rattle.ada_sound.specs.Always.{AgreesThere}
use Rattle.ada_sound.specs.OperationExamples.{operation_body, boxed_head, IsSpokenOfInside}

-- type Cell is record Value : Integer; end record; which has number 0; type Link is access Cell; which has number 1; type Node is new Limited_Controlled
-- with record Head : Link; Next : Chain; end record; which has number 2, and overrides Finalize; type Chain is access Node; which has number 3; and the formal
-- parameter of Finalize is known by type 4. C : Chain has number 0 in the main procedure.

-- procedure Finalize (H : in out Node) is begin Free (H.Head); end Finalize;
abbrev pub leaving_finalize : BodyForm
leaving_finalize = operation_body 4 (a_stmt (frees 1 boxed_head) no_stmts) no_handlers

-- The collections of Link and of Chain; C : Chain := new Node;
abbrev pub leaving_declarations : List DeclarationForm
leaving_declarations = collects 1 ∷ collects 3 ∷ declares 0 (allocates_default 3) ∷ []

-- The component Next of the node that C names.
abbrev pub next_of_first : PathForm
next_of_first = example_path 0 (1 ∷ [])

-- The component Head of the node that this one names.
abbrev pub head_of_next : PathForm
head_of_next = example_path 0 (1 ∷ 0 ∷ [])

-- C.Next := new Node; C.Next.Head := new Cell;
abbrev pub leaving_stmts : StmtsForm
leaving_stmts =
    a_stmt (assigns next_of_first (allocates_default 3))
    (a_stmt (assigns head_of_next (allocates_default 1)) no_stmts)

-- The first node, which C owns.
abbrev pub first_node : Value
first_node = Names (record { 0 = 0 })

-- The next one, which the first one owns.
abbrev pub next_node : Value
next_node = Names (record { 0 = 1 })

-- The cell, which the next one owns.
abbrev pub next_cell : Value
next_cell = Names (record { 0 = 2 })

-- The first node is allocated, and followed where its Next is found as a target; the next one is allocated, and the first one followed where Next is written.
-- Both are followed where Head is found as a target, and the next one where that is written. At the leaving of the main procedure the next node is taken first:
-- its Finalize, a master of its own, follows it to what Head names, the words of that cell go back, the node is followed where Head becomes null, and the body
-- is left; then its words go back. The first node, whose Next names what has gone, is finalized then: its Head is null, so nothing is freed, and its words go
-- back.
abbrev pub leaving_events : List Event
leaving_events =
    Born first_node 0 0 0 1 Creation
    ∷ Followed first_node
    ∷ Born next_node 0 0 0 2 Creation
    ∷ replicate 2 (Followed first_node)
    ++ replicate 2 (Followed next_node)
    ++ Finalized next_node 0 0 0 2 (Leaving 0 1)
    ∷ Followed next_node
    ∷ Back next_cell 1 3 (Some 0) None (Freeing 2)
    ∷ Followed next_node
    ∷ Left 1
    ∷ Back next_node 3 2 (Some 0) None (Leaving 0 1)
    ∷ Finalized first_node 0 0 0 1 (Leaving 0 1)
    ∷ Followed first_node
    ∷ Left 3
    ∷ Back first_node 3 1 (Some 0) None (Leaving 0 1)
    ∷ Left 0
    ∷ []

-- C.Next := new Node; C.Next.Next := new Node;
abbrev pub three_stmts : StmtsForm
three_stmts =
    a_stmt (assigns next_of_first (allocates_default 3))
    (a_stmt (assigns (example_path 0 (1 ∷ 1 ∷ [])) (allocates_default 3)) no_stmts)

-- Of a state where a statement begins in the body of an operation that touches storage, while a node is gone that a component of another one names: flow speaks
-- of it, and is not agreed with there.
abbrev pub IsSpokenOfElsewhere : Program → State → Type 0
IsSpokenOfElsewhere program s = IsSpokenOfInside program s × (AgreesThere program s → ⊥)
