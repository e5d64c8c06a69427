-- The statements and the events of the programs by which the laws show how a component takes part in an allocator that assigns to it, and how one
-- is freed.

use Rattle.std.specs.Prelude.{ℕ, List, [], ◌∷◌, ◌++◌, None, Some, false, pos}
use Rattle.std.proofs.Math.ListN.{replicate}
use Rattle.ada_program.specs.Form.{integer, reads, is_null, nothing, null_item, item_of_path, item_of_value, value_of, allocates, StmtForm, assigns, frees, writes, repeats, StmtsForm, no_stmts, a_stmt}
use Rattle.ada_meaning.specs.declared.state.Value.TheVariants.{Names}
use Rattle.ada_meaning.specs.declared.event.Cause.TheVariants.{Leaving, Freeing}
use Rattle.ada_meaning.specs.declared.event.Line.TheVariants.{Image}
use Rattle.ada_meaning.specs.Event.{Back, Followed, Left, Line}
use Rattle.ada_meaning.specs.Run.{Event}
use Rattle.ada_sound.specs.Examples.{example_spot, example_path, value_at}
use Rattle.ada_sound.specs.OwnerExamples.{next_at, pushing}
use Rattle.ada_sound.specs.BorrowerExamples.{b_is_head, walking_body}

-- The words of examples of borrowers: Head, Rest : Link have numbers 0 and 1, and B : access Node has number 2.

-- Head.Next := new Node'(2, Head.Next); and what is behind it; and the same with 3.
abbrev pub inserting : ℕ → StmtsForm → StmtsForm
inserting n behind = a_stmt (assigns (next_at 0) (allocates 1 (item_of_value (integer (pos n)) ∷ item_of_path (next_at 0) ∷ []))) behind

-- Head := new Node'(1, Head); Head.Next := new Node'(2, Head.Next); Head.Next := new Node'(3, Head.Next);
-- B := Head; while B /= null loop Put_Line (Integer'Image (B.Value)); B := B.Next; end loop;
abbrev pub inserting_stmts : StmtsForm
inserting_stmts =
    pushing 1
    (inserting 2
    (inserting 3
    (a_stmt b_is_head (a_stmt (repeats (Some (is_null false (example_path 2 []))) walking_body example_spot) no_stmts))))

-- The first node is followed where its Next is found as a target, where it is read, and where it is written; and the third node comes before the
-- second one in the list.
abbrev pub inserting_events : List Event
inserting_events =
    replicate 7 (Followed (Names (record { 0 = 0 })))
    ++ Line (Image (pos 1))
    ∷ Followed (Names (record { 0 = 0 }))
    ∷ Followed (Names (record { 0 = 2 }))
    ∷ Line (Image (pos 3))
    ∷ Followed (Names (record { 0 = 2 }))
    ∷ Followed (Names (record { 0 = 1 }))
    ∷ Line (Image (pos 2))
    ∷ Followed (Names (record { 0 = 1 }))
    ∷ Back (Names (record { 0 = 2 })) 1 3 (Some 0) None (Leaving 0 0)
    ∷ Back (Names (record { 0 = 1 })) 1 2 (Some 0) None (Leaving 0 0)
    ∷ Back (Names (record { 0 = 0 })) 1 1 (Some 0) None (Leaving 0 0)
    ∷ Left 0
    ∷ []

-- type Leaf is record Value : Integer; end record; type Leaf_Link is access Leaf; which has number 1;
-- type Node is record Value : Integer; Down : Leaf_Link; end record; type Link is access Node; which has number 3;
-- Item : Leaf_Link and Head : Link have numbers 1 and 0.

-- Free_Leaf (Head.Down);
abbrev pub down_is_freed : StmtForm
down_is_freed = frees 1 (example_path 0 (1 ∷ []))

-- Item := new Leaf'(Value => 7); Head := new Node'(1, Item);
-- Free_Leaf (Head.Down); Free_Leaf (Head.Down); Put_Line (Integer'Image (Head.Value));
abbrev pub freeing_stmts : StmtsForm
freeing_stmts =
    a_stmt (assigns (example_path 1 []) (allocates 1 (item_of_value (integer (pos 7)) ∷ [])))
    (a_stmt (assigns (example_path 0 []) (allocates 3 (item_of_value (integer (pos 1)) ∷ item_of_path (example_path 1 []) ∷ [])))
    (a_stmt down_is_freed
    (a_stmt down_is_freed
    (a_stmt (writes (value_at 0)) no_stmts))))

-- The node is followed where its Down is read, the leaf's words go back, and the node is followed where its Down becomes null. The second Free
-- reads null there, and does no more. The node stays until the end.
abbrev pub freeing_events : List Event
freeing_events =
    Followed (Names (record { 0 = 1 }))
    ∷ Back (Names (record { 0 = 0 })) 1 1 (Some 0) None (Freeing 1)
    ∷ replicate 3 (Followed (Names (record { 0 = 1 })))
    ++ Line (Image (pos 1))
    ∷ Back (Names (record { 0 = 1 })) 3 2 (Some 0) None (Leaving 0 1)
    ∷ Left 0
    ∷ []

-- Head := new Node'(1, null); B := Head; Head.Next := Head; Free (B.Next);
abbrev pub passing_stmts : StmtsForm
passing_stmts =
    a_stmt (assigns (example_path 0 []) (allocates 1 (item_of_value (integer (pos 1)) ∷ null_item ∷ [])))
    (a_stmt b_is_head
    (a_stmt (assigns (next_at 0) (value_of (example_path 0 [])))
    (a_stmt (frees 1 (next_at 2)) no_stmts)))

-- The node owns itself. It is freed by way of its own Next, which is gone with it before it would become null.
abbrev pub passing_events : List Event
passing_events = replicate 3 (Followed (Names (record { 0 = 0 }))) ++ Back (Names (record { 0 = 0 })) 1 1 (Some 0) None (Freeing 1) ∷ []

-- Head, Rest, Last : Link; have numbers 0, 1 and 2.
-- Head := new Node'(1, Head); Head := new Node'(2, Head); Rest := new Node'(3, Head.Next);
-- Last := Rest.Next; Rest.Next := null; Free (Last); Put_Line (Integer'Image (Head.Next.Value));
abbrev pub doubling_stmts : StmtsForm
doubling_stmts =
    pushing 1
    (pushing 2
    (a_stmt (assigns (example_path 1 []) (allocates 1 (item_of_value (integer (pos 3)) ∷ item_of_path (next_at 0) ∷ [])))
    (a_stmt (assigns (example_path 2 []) (value_of (next_at 1)))
    (a_stmt (assigns (next_at 1) nothing)
    (a_stmt (frees 1 (example_path 2 []))
    (a_stmt (writes (reads (example_path 0 (1 ∷ 0 ∷ [])))) no_stmts))))))

-- The first node is named by both other nodes; it is taken out of the third one and freed, and would be followed by way of the second one.
abbrev pub doubling_events : List Event
doubling_events =
    Followed (Names (record { 0 = 1 }))
    ∷ replicate 3 (Followed (Names (record { 0 = 2 })))
    ++ Back (Names (record { 0 = 0 })) 1 1 (Some 0) None (Freeing 1)
    ∷ Followed (Names (record { 0 = 1 }))
    ∷ []
