-- The statements and the events of the programs by which the laws show how records are copied as wholes.

use Rattle.std.specs.Prelude.{ℕ, List, [], ◌∷◌, ◌++◌, None, Some, true, pos}
use Rattle.std.proofs.Math.ListN.{replicate}
use Rattle.ada_program.specs.Form.{PathForm, RecordPathForm, integer, reads, null_item, item_of_value, item_of_record, allocates, DeclarationForm, collects, declares, declares_record, nothing, assigns, assigns_record, frees, writes, StmtsForm, no_stmts, a_stmt}
use Rattle.ada_meaning.specs.declared.state.Value.TheVariants.{Names}
use Rattle.ada_meaning.specs.declared.event.Cause.TheVariants.{Leaving, Freeing}
use Rattle.ada_meaning.specs.declared.event.Line.TheVariants.{Image}
use Rattle.ada_meaning.specs.Event.{Back, Followed, Left, Line}
use Rattle.ada_meaning.specs.Run.{Event}
use Rattle.ada_sound.specs.Examples.{example_path}

-- A record object, and a component of it.
abbrev pub object_path : ℕ → List ℕ → PathForm
object_path x cs = record (example_path x cs) { of_record = true }

-- The record of type 0 that a record object is (4.1).
abbrev pub object_record : ℕ → RecordPathForm
object_record x = record { object = object_path x []; first = 0; part = 0; record_type = 0 }

-- The record of type 0 to which a variable gives access (4.1).
abbrev pub record_behind : ℕ → RecordPathForm
record_behind x = record { object = example_path x []; first = 0; part = 0; record_type = 0 }

-- type Point is record X : Integer := 5; Y : Integer := 6; end record; type Link is access Point; R : Point; S : Point := R; P : Link;
abbrev pub copying_declarations : List DeclarationForm
copying_declarations =
    collects 1 ∷ declares_record 0 2 None ∷ declares_record 1 3 (Some (item_of_record (object_record 0) ∷ [])) ∷ declares 2 nothing ∷ []

-- P := new Point'(R); R := Point'(7, 8); Put_Line (Integer'Image (R.Y)); R := P.all; Put_Line (Integer'Image (R.Y));
abbrev pub copying_stmts : StmtsForm
copying_stmts =
    a_stmt (assigns (example_path 2 []) (allocates 1 (item_of_record (object_record 0) ∷ [])))
    (a_stmt (assigns_record (object_record 0) (item_of_value (integer (pos 7)) ∷ item_of_value (integer (pos 8)) ∷ []))
    (a_stmt (writes (reads (object_path 0 (1 ∷ []))))
    (a_stmt (assigns_record (object_record 0) (item_of_record (record_behind 2) ∷ []))
    (a_stmt (writes (reads (object_path 0 (1 ∷ [])))) no_stmts))))

-- R's object is the first one, S's the second one. R is followed where it is copied into S and into the new object, twice where it is assigned to, and
-- where its Y is read; and so once more, with the object of P between. The objects go with their items, the newest one first.
abbrev pub copying_events : List Event
copying_events =
    replicate 5 (Followed (Names (record { 0 = 0 })))
    ++ Line (Image (pos 8))
    ∷ Followed (Names (record { 0 = 0 }))
    ∷ Followed (Names (record { 0 = 2 }))
    ∷ replicate 2 (Followed (Names (record { 0 = 0 })))
    ++ Line (Image (pos 6))
    ∷ Back (Names (record { 0 = 1 })) 3 0 None None (Leaving 0 2)
    ∷ Back (Names (record { 0 = 0 })) 2 0 None None (Leaving 0 1)
    ∷ Back (Names (record { 0 = 2 })) 1 1 (Some 0) None (Leaving 0 0)
    ∷ Left 0
    ∷ []

-- type Node is record Value : Integer; Next : Link; end record; type Link is access Node; R, S : Node;
-- R.Next := new Node'(1, null); S := R; Free (R.Next); Put_Line (Integer'Image (S.Next.Value));
abbrev pub duplicating_stmts : StmtsForm
duplicating_stmts =
    a_stmt (assigns (object_path 0 (1 ∷ [])) (allocates 1 (item_of_value (integer (pos 1)) ∷ null_item ∷ [])))
    (a_stmt (assigns_record (object_record 1) (item_of_record (object_record 0) ∷ []))
    (a_stmt (frees 1 (object_path 0 (1 ∷ [])))
    (a_stmt (writes (reads (object_path 1 (1 ∷ 0 ∷ [])))) no_stmts)))

-- Both components name the node, which is freed by way of the first one, and would be followed by way of the second one.
abbrev pub duplicating_events : List Event
duplicating_events =
    replicate 2 (Followed (Names (record { 0 = 0 })))
    ++ Followed (Names (record { 0 = 1 }))
    ∷ Followed (Names (record { 0 = 0 }))
    ∷ Followed (Names (record { 0 = 1 }))
    ∷ Followed (Names (record { 0 = 0 }))
    ∷ Back (Names (record { 0 = 2 })) 1 1 (Some 0) None (Freeing 1)
    ∷ Followed (Names (record { 0 = 0 }))
    ∷ Followed (Names (record { 0 = 1 }))
    ∷ []
