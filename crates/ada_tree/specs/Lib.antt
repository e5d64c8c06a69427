-- The grammar: the trees of a source, and the tokens that they are written with, in the order in which it is read.

-- tokens and the pieces that stand for them
pub mod Piece
-- identifiers, names and paths (2.3, 4.1)
pub mod Names
-- expressions, right sides and arguments (4.4, 4.8, 5.2, 6.4)
pub mod Expressions
-- record types, and values that are known before the run (3.8, 4.9)
pub mod Records
-- sizes, aspects, formals, heads, choices and clauses (6.1, 10.1.2, 11.2, 13.1)
pub mod Declarations
-- declarations, statements, handlers and the unit (3.1, 5.1, 10.1.1, 11.2)
pub mod Statements
-- expressions as the code keeps them
pub mod ExpressionView
-- declarations, statements and units as the code keeps them
pub mod StatementView
