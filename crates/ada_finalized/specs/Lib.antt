-- The laws of finalization, in the order in which they are read.

-- what is said of every run
pub mod Law
-- runs that meet the premises
pub mod Example
-- operations inside of operations
pub mod Nested
