-- what reaches what
pub mod Reaching
-- what a search has found
pub mod Finding
-- the example
pub mod Example
