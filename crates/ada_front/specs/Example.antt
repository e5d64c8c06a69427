-- A unit with a fault, and its front.

use Rattle.std.specs.Prelude.{◌≡◌, ℕ, [], ◌∷◌, Option, Some, None}
use Rattle.ada_text.specs.declared.spot.Spot.{Spot}
use Rattle.ada_tree.specs.Names.{Ident}
use Rattle.ada_tree.specs.Declarations.{HeadTree}
use Rattle.ada_tree.specs.Statements.{specification, body_declaration, DeclarationsTree, no_declarations, a_declaration, StatementTree, null_statement, call, loop_statement, endless, StatementsTree, no_statements, a_statement, no_handlers, SequenceTree, a_sequence, UnitTree}
use Rattle.ada_front.specs.Front.{front_of}
use Rattle.ada_front.specs.Marks.{does, InOrder, over_by, simple, unit_marks}

-- A place in a line of its own.
abbrev pub at_line : ℕ → Spot
at_line n = record { line = n; column = 1 }

-- A name there: one of these letters.
abbrev pub named : (letter line : ℕ) → Ident
named letter n = record { text = letter ∷ []; spot = at_line n }

-- The head of a procedure without formal parameters.
abbrev pub head_at : (letter line : ℕ) → HeadTree
head_at letter n = record { overriding = None; spot = at_line n; name = named letter n; formals = [] }

-- A call of a procedure.
abbrev pub a_call : (letter line : ℕ) → StatementTree
a_call letter n = call (record { root = named letter n; selectors = [] }) []

-- A call of a procedure, before other statements.
abbrev pub calling : (letter line : ℕ) → StatementsTree → StatementsTree
calling letter n ss = a_statement (a_call letter n) ss

-- Statements between a `begin` and an `end`.
abbrev pub between : (first last : ℕ) → StatementsTree → SequenceTree
between first last ss = a_sequence (at_line first) ss no_handlers (at_line last)

-- The procedure of these declarations and statements.
abbrev pub procedure_with : DeclarationsTree → StatementsTree → UnitTree
procedure_with ds ss = record { clauses = []; spot = at_line 1; name = named 77 1; declarations = ds; body = between 16 18 ss; end_name = None }

-- procedure M is                                  -- line 1
--    procedure A;                                 -- line 2: its body stands behind the fault
--    procedure B is begin null; end B;            -- lines 3 to 5
--    procedure C is
--    begin                                        -- line 7
--       B;
--       loop
--          B;                                     -- line 10
--          X;                                     -- the fault
--          B;
--       end loop;
--    end D;
--    procedure A is begin C; end A;               -- line 15
-- begin
--    A;
-- end M;

-- The body of B.
abbrev pub body_of_b : DeclarationsTree → DeclarationsTree
body_of_b ds =
    a_declaration (body_declaration (head_at 66 3) no_declarations (between 4 5 (a_statement (null_statement (at_line 4)) no_statements)) (Some (named 66 5))) ds

-- The body of C, with what stands in its loop, and with a name behind its `end`.
abbrev pub body_of_c : StatementsTree → Option Ident → DeclarationsTree → DeclarationsTree
body_of_c ss end_name ds =
    a_declaration
    (body_declaration (head_at 67 6) no_declarations
    (between 7 14 (calling 66 8 (a_statement (loop_statement (at_line 9) endless ss (at_line 13)) no_statements))) end_name)
    ds

-- The whole unit.
abbrev pub whole : UnitTree
whole =
    procedure_with
    (a_declaration (specification (head_at 65 2))
    (body_of_b
    (body_of_c (calling 66 10 (calling 88 11 (calling 66 12 no_statements))) (Some (named 68 14))
    (a_declaration (body_declaration (head_at 65 15) no_declarations (between 15 15 (calling 67 15 no_statements)) None) no_declarations))))
    (calling 65 17 no_statements)

-- What stands before the fault: B, and C up to the fault.
abbrev pub left : UnitTree
left = procedure_with (body_of_b (body_of_c (calling 66 10 no_statements) None no_declarations)) no_statements

-- That is the front.
abbrev pub LeavesWhatStandsBefore : Type 0
LeavesWhatStandsBefore = front_of (at_line 11) whole ≡ left

-- The unit is in the order of its text, and what is over by the fault are the statement of B and two calls of C.
abbrev pub IsOverBefore : Type 0
IsOverBefore =
    InOrder (unit_marks whole) ×
    (simple (over_by (at_line 11) (unit_marks whole)) ≡ does (null_statement (at_line 4)) ∷ does (a_call 66 8) ∷ does (a_call 66 10) ∷ [])
