-- The definitions of this crate.

-- which exceptions a form may raise
pub mod Effects
-- sets of exceptions
pub mod Taken
-- what the code finds, and effects as it holds them
pub mod Found
-- laws of the exceptions that statements may raise
pub mod Laws
-- laws of the procedures of a program
pub mod ProgramLaws
