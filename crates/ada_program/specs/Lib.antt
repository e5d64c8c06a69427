-- The definitions that several crates cite, in the order in which they are read.

-- statements and declarations as plain data
pub mod Form
-- which exception a handler takes
pub mod Handling
-- a whole program as plain data
pub mod ProgramForm
-- what the types of a program give
pub mod Typed
-- which types are controlled, and which components have controlled parts (7.6)
pub mod Controlled
-- which records lie in which (3.8)
pub mod Parts
-- what a well-formed program is
pub mod WellFormed
-- how records with controlled parts lie in others (7.6)
pub mod Walks
-- where collections are created
pub mod Nested
-- which access types are freed
pub mod Freed
-- what fits, said of the lists that a program keeps
pub mod Kept
-- what is seen of the creations of a program
pub mod Created
-- the names of exceptions
pub mod Names
