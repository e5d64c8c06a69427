-- The proofs of this crate.

-- what is inside, and stays so
pub mod Nesting
-- objects of which no operation runs
pub mod Alone
-- assignments
pub mod Assigned
-- each step
pub mod Steps
-- whole runs
pub mod Runs
-- a program that meets the premises
pub mod Example
-- one that does not
pub mod Needed
