-- What stands for the components of a record parameter that a body tracks.

-- lists of values, and components of them
pub mod Lists
-- heaps in which they hold null
pub mod Heaps
-- which paths begin with one of them
pub mod Paths
-- where paths lead
pub mod Found
-- what paths name
pub mod Named
-- forms are evaluated
pub mod Evaluations
-- variables and components get values, and objects are freed
pub mod Storing
-- records are assigned as wholes
pub mod Wholes
-- the input is read, objects are freed and go, and masters are left
pub mod Freeing
-- statements, loops and declarations
pub mod Statements
-- what a frame does
pub mod Steps
-- a jump passes frames
pub mod Jumps
-- the law
pub mod Law
-- the premises are met
pub mod Example
-- simple bodies stay simple
pub mod Staying
