-- The statements and the events of the programs by which the laws show what is needed where components own.

use Rattle.std.specs.Prelude.{ℕ, List, [], ◌∷◌, ◌++◌, None, Some, true, false, pos}
use Rattle.std.proofs.Math.ListN.{replicate}
use Rattle.ada_program.specs.Form.{PathForm, integer, reads, is_null, nothing, null_item, item_of_path, item_of_value, value_of, allocates, allocates_default, collects, declares, StmtForm, assigns, frees, writes, repeats, encloses, StmtsForm, no_stmts, a_stmt, no_handlers}
use Rattle.ada_meaning.specs.declared.state.Value.TheVariants.{Names}
use Rattle.ada_meaning.specs.declared.event.Cause.TheVariants.{Leaving, Freeing}
use Rattle.ada_meaning.specs.declared.event.Line.TheVariants.{Image}
use Rattle.ada_meaning.specs.Event.{Back, Followed, Left, Line}
use Rattle.ada_meaning.specs.Run.{Event}
use Rattle.ada_sound.specs.Examples.{example_spot, example_path, value_at}

-- The words of examples of components that own. Link is the access type of number 1, and designates
-- type Node is record Value : Integer; Next : Link; end record; Head, Rest : Link have numbers 0 and 1.

-- The component Next of the object of a variable.
abbrev pub next_at : ℕ → PathForm
next_at x = example_path x (1 ∷ [])

-- Rest := Head.Next;
abbrev pub rest_is_next : StmtForm
rest_is_next = assigns (example_path 1 []) (value_of (next_at 0))

-- Head := new Node'(1, Head); and what is behind it; and the same with 2.
abbrev pub pushing : ℕ → StmtsForm → StmtsForm
pushing n behind =
    a_stmt (assigns (example_path 0 []) (allocates 1 (item_of_value (integer (pos n)) ∷ item_of_path (example_path 0 []) ∷ []))) behind

-- Put_Line (Integer'Image (Head.Value)); Rest := Head.Next; Head.Next := null; Free (Head); Head := Rest; Rest := null;
abbrev pub owning_body : StmtsForm
owning_body =
    a_stmt (writes (value_at 0))
    (a_stmt rest_is_next
    (a_stmt (assigns (next_at 0) nothing)
    (a_stmt (frees 1 (example_path 0 []))
    (a_stmt (assigns (example_path 0 []) (value_of (example_path 1 [])))
    (a_stmt (assigns (example_path 1 []) nothing) no_stmts)))))

-- Head := new Node'(1, Head); Head := new Node'(2, Head); while Head /= null loop .. end loop;
abbrev pub owning_stmts : StmtsForm
owning_stmts = pushing 1 (pushing 2 (a_stmt (repeats (Some (is_null false (example_path 0 []))) owning_body example_spot) no_stmts))

-- A list of two nodes is freed node by node: each is followed where its number is written, where its tail is read, and twice where its tail is
-- set to null. Nothing is left to go with the main procedure.
abbrev pub owning_events : List Event
owning_events =
    Followed (Names (record { 0 = 1 }))
    ∷ Line (Image (pos 2))
    ∷ replicate 3 (Followed (Names (record { 0 = 1 })))
    ++ Back (Names (record { 0 = 1 })) 1 2 (Some 0) None (Freeing 1)
    ∷ Followed (Names (record { 0 = 0 }))
    ∷ Line (Image (pos 1))
    ∷ replicate 3 (Followed (Names (record { 0 = 0 })))
    ++ Back (Names (record { 0 = 0 })) 1 1 (Some 0) None (Freeing 2)
    ∷ Left 0
    ∷ []

-- Head := new Node; Head.Next := new Node; Put_Line (Integer'Image (Head.Next.Value)); where the Value of a Node is 5 at first
abbrev pub default_stmts : StmtsForm
default_stmts =
    a_stmt (assigns (example_path 0 []) (allocates_default 1))
    (a_stmt (assigns (next_at 0) (allocates_default 1))
    (a_stmt (writes (reads (example_path 0 (1 ∷ 0 ∷ [])))) no_stmts))

-- The first node is followed where its Next is found as a target, where it is written, and where it is read; the second one where its Value is.
abbrev pub default_events : List Event
default_events =
    replicate 3 (Followed (Names (record { 0 = 0 })))
    ++ Followed (Names (record { 0 = 1 }))
    ∷ Line (Image (pos 5))
    ∷ Back (Names (record { 0 = 1 })) 1 2 (Some 0) None (Leaving 0 0)
    ∷ Back (Names (record { 0 = 0 })) 1 1 (Some 0) None (Leaving 0 0)
    ∷ Left 0
    ∷ []

-- R : Node; X : Link; have numbers 0 and 1. The component Value of R, of number 0, and its component Next, of number 1
abbrev pub record_path : ℕ → PathForm
record_path c = record (example_path 0 (c ∷ [])) { of_record = true }

-- R.Next := new Node; X := R.Next; R.Next := null; Put_Line (Integer'Image (R.Value)); Free (X); where the Value of a Node is 5 at first
abbrev pub record_stmts : StmtsForm
record_stmts =
    a_stmt (assigns (record_path 1) (allocates_default 1))
    (a_stmt (assigns (example_path 1 []) (value_of (record_path 1)))
    (a_stmt (assigns (record_path 1) nothing)
    (a_stmt (writes (reads (record_path 0)))
    (a_stmt (frees 1 (example_path 1 [])) no_stmts))))

-- R's object is the first one, and is followed twice where its Next is a target, once where it is read, and so is its Value. The node is freed; R's
-- object goes with its own item, of number 1, and no pool is told.
abbrev pub record_events : List Event
record_events =
    replicate 6 (Followed (Names (record { 0 = 0 })))
    ++ Line (Image (pos 5))
    ∷ Back (Names (record { 0 = 1 })) 1 1 (Some 0) None (Freeing 1)
    ∷ Back (Names (record { 0 = 0 })) 2 0 None None (Leaving 0 1)
    ∷ Left 0
    ∷ []

-- Head := new Node'(1, Head); Head := new Node'(2, Head); Rest := Head.Next; Free (Rest); Put_Line (Integer'Image (Head.Next.Value));
abbrev pub pairing_stmts : StmtsForm
pairing_stmts =
    pushing 1
    (pushing 2
    (a_stmt rest_is_next
    (a_stmt (frees 1 (example_path 1 []))
    (a_stmt (writes (reads (example_path 0 (1 ∷ 0 ∷ [])))) no_stmts))))

-- The second node is freed; then the first one's Next would be followed, which still names it.
abbrev pub pairing_events : List Event
pairing_events =
    Followed (Names (record { 0 = 1 }))
    ∷ Back (Names (record { 0 = 0 })) 1 1 (Some 0) None (Freeing 1)
    ∷ Followed (Names (record { 0 = 1 }))
    ∷ []

-- type Tree is record Left, Right : Link; end record; X, Y : Link;
-- X := new Tree'(null, null); Y := new Tree'(X, X);
-- X := Y.Left; Y.Left := null; Free (X); X := Y.Right; Y.Right := null; Free (X);
abbrev pub items_stmts : StmtsForm
items_stmts =
    a_stmt (assigns (example_path 0 []) (allocates 1 (null_item ∷ null_item ∷ [])))
    (a_stmt (assigns (example_path 1 []) (allocates 1 (item_of_path (example_path 0 []) ∷ item_of_path (example_path 0 []) ∷ [])))
    (a_stmt (assigns (example_path 0 []) (value_of (example_path 1 (0 ∷ []))))
    (a_stmt (assigns (example_path 1 (0 ∷ [])) nothing)
    (a_stmt (frees 1 (example_path 0 []))
    (a_stmt (assigns (example_path 0 []) (value_of (example_path 1 (1 ∷ []))))
    (a_stmt (assigns (example_path 1 (1 ∷ [])) nothing)
    (a_stmt (frees 1 (example_path 0 [])) no_stmts)))))))

-- Both components of the second object name the first one, which is freed once.
abbrev pub items_events : List Event
items_events =
    replicate 3 (Followed (Names (record { 0 = 1 })))
    ++ Back (Names (record { 0 = 0 })) 1 1 (Some 0) None (Freeing 1)
    ∷ replicate 3 (Followed (Names (record { 0 = 1 })))

-- X : Link is an outer variable, and a block declares the access type Inner, of number 3, of what Node has as its component:
-- type Node is record Cell : Inner; end record; type Link is access Node;
-- declare type Inner is access Cell; Y : Inner; begin Y := new Cell'(Value => 8); X := new Node'(Cell => Y); end;
abbrev pub outlasting_block : StmtForm
outlasting_block =
    encloses (collects 3 ∷ declares 1 nothing ∷ [])
    (a_stmt (assigns (example_path 1 []) (allocates 3 (item_of_value (integer (pos 8)) ∷ [])))
    (a_stmt (assigns (example_path 0 []) (allocates 2 (item_of_path (example_path 1 []) ∷ []))) no_stmts))
    no_handlers

-- The block, and behind it Put_Line (Integer'Image (X.Cell.Value));
abbrev pub outlasting_stmts : StmtsForm
outlasting_stmts = a_stmt outlasting_block (a_stmt (writes (reads (example_path 0 (0 ∷ 0 ∷ [])))) no_stmts)

-- The object of Inner goes with the block's collection, while the node that names it stays.
abbrev pub outlasting_events : List Event
outlasting_events =
    Back (Names (record { 0 = 0 })) 3 1 (Some 0) None (Leaving 1 2)
    ∷ Left 1
    ∷ Followed (Names (record { 0 = 1 }))
    ∷ []
