-- The definitions of this crate.

-- what record parameters stand for
pub mod Formals
-- a program that meets the premises
pub mod Example
-- what a record that is given lies in
pub mod Inside
