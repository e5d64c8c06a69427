-- The phrases of the grammar, in the order in which they are read.

-- trees on the heap
pub mod Boxes
-- names, expressions, right sides and arguments (4.1, 4.4, 4.8, 6.4)
pub mod Expressions
-- the phrases of an expression
pub mod Phrases
-- record types and static values (3.8, 4.9)
pub mod Records
-- parts of declarations, and declarations without others inside (3.1, 6.1, 10.1.2, 11.2)
pub mod Declarations
-- declarations, statements and handlers (3.1, 5.1, 11.2)
pub mod Statements
-- the parts of statements, as the code builds them
pub mod StatementPhrases
-- what stands inside a level of nesting
pub mod Nesting
-- what the code keeps of the first words of a procedure (6.1)
pub mod StartView
-- what the code holds and reads, a word for each
pub mod Words
-- compilation units (10.1.1)
pub mod Units
