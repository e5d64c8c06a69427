-- The statements and the events of the programs by which the laws show what borrowers may do, and which rules they need.

use Rattle.std.specs.Prelude.{◌≡◌, List, [], ◌∷◌, ◌++◌, None, Some, true, false, pos}
use Rattle.std.proofs.Math.ListN.{replicate}
use Rattle.ada_program.specs.declared.program.Program.{Program}
use Rattle.ada_program.specs.Form.{is_null, nothing, value_of, StmtForm, assigns, frees, writes, repeats, StmtsForm, no_stmts, a_stmt}
use Rattle.ada_program.specs.WellFormed.{is_borrower}
use Rattle.ada_flow.specs.Flow.{variables_of}
use Rattle.ada_meaning.specs.declared.state.Value.TheVariants.{Names}
use Rattle.ada_meaning.specs.declared.event.Cause.TheVariants.{Leaving, Freeing}
use Rattle.ada_meaning.specs.declared.event.Line.TheVariants.{Image}
use Rattle.ada_meaning.specs.Event.{Back, Followed, Left, Line}
use Rattle.ada_meaning.specs.Run.{Event}
use Rattle.ada_sound.specs.Examples.{example_spot, example_path, value_at}
use Rattle.ada_sound.specs.OwnerExamples.{next_at, pushing}

-- The words of examples of borrowers. Link is the access type of number 1, and designates
-- type Node is record Value : Integer; Next : Link; end record; Head, Rest : Link have numbers 0 and 1, and B : access Node has number 2.

-- B is a borrower.
abbrev pub HasBorrower : Program → Type 0
HasBorrower program = is_borrower (variables_of program) 2 ≡ true

-- B := Head;
abbrev pub b_is_head : StmtForm
b_is_head = assigns (example_path 2 []) (value_of (example_path 0 []))

-- Put_Line (Integer'Image (B.Value)); B := B.Next;
abbrev pub walking_body : StmtsForm
walking_body = a_stmt (writes (value_at 2)) (a_stmt (assigns (example_path 2 []) (value_of (next_at 2))) no_stmts)

-- Head := new Node'(1, Head); Head := new Node'(2, Head); B := Head; while B /= null loop .. end loop;
abbrev pub walking_stmts : StmtsForm
walking_stmts = pushing 1 (pushing 2 (a_stmt b_is_head (a_stmt (repeats (Some (is_null false (example_path 2 []))) walking_body example_spot) no_stmts)))

-- Each node is followed twice, and its number is written; both are there until the end, and go with their collection.
abbrev pub walking_events : List Event
walking_events =
    Followed (Names (record { 0 = 1 }))
    ∷ Line (Image (pos 2))
    ∷ Followed (Names (record { 0 = 1 }))
    ∷ Followed (Names (record { 0 = 0 }))
    ∷ Line (Image (pos 1))
    ∷ Followed (Names (record { 0 = 0 }))
    ∷ Back (Names (record { 0 = 1 })) 1 2 (Some 0) None (Leaving 0 0)
    ∷ Back (Names (record { 0 = 0 })) 1 1 (Some 0) None (Leaving 0 0)
    ∷ Left 0
    ∷ []

-- Head := new Node'(1, Head); while B = null loop B := Head; end loop; Put_Line (Integer'Image (B.Value));
abbrev pub lending_stmts : StmtsForm
lending_stmts = pushing 1 (a_stmt (repeats (Some (is_null true (example_path 2 []))) (a_stmt b_is_head no_stmts) example_spot) (a_stmt (writes (value_at 2)) no_stmts))

-- One turn; then B names the node, which goes with its collection.
abbrev pub lending_events : List Event
lending_events =
    Followed (Names (record { 0 = 0 }))
    ∷ Line (Image (pos 1))
    ∷ Back (Names (record { 0 = 0 })) 1 1 (Some 0) None (Leaving 0 0)
    ∷ Left 0
    ∷ []

-- Head := new Node'(1, Head); B := Head; Free (Head); Put_Line (Integer'Image (B.Value));
abbrev pub dangling_stmts : StmtsForm
dangling_stmts = pushing 1 (a_stmt b_is_head (a_stmt (frees 1 (example_path 0 [])) (a_stmt (writes (value_at 2)) no_stmts)))

-- The node is freed by its owner; then the borrower would follow it.
abbrev pub dangling_events : List Event
dangling_events = Back (Names (record { 0 = 0 })) 1 1 (Some 0) None (Freeing 1) ∷ []

-- Head := new Node'(1, Head); Head := new Node'(2, Head); B := Head; Head := Head.Next; Head.Next := null;
-- Rest := B.Next; B.Next := null; Free (Rest); Put_Line (Integer'Image (Head.Value));
abbrev pub overtaking_stmts : StmtsForm
overtaking_stmts =
    pushing 1
    (pushing 2
    (a_stmt b_is_head
    (a_stmt (assigns (example_path 0 []) (value_of (next_at 0)))
    (a_stmt (assigns (next_at 0) nothing)
    (a_stmt (assigns (example_path 1 []) (value_of (next_at 2)))
    (a_stmt (assigns (next_at 2) nothing)
    (a_stmt (frees 1 (example_path 1 []))
    (a_stmt (writes (value_at 0)) no_stmts))))))))

-- Head.Next is set to null in the node that Head names by then, and so the first node's Next is not: by way of B it is taken once more, and freed.
abbrev pub overtaking_events : List Event
overtaking_events =
    Followed (Names (record { 0 = 1 }))
    ∷ replicate 2 (Followed (Names (record { 0 = 0 })))
    ++ replicate 3 (Followed (Names (record { 0 = 1 })))
    ++ Back (Names (record { 0 = 0 })) 1 1 (Some 0) None (Freeing 1)
    ∷ []
