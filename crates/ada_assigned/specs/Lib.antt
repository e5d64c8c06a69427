-- The definitions of this crate.

-- what operations assign to, and the law
pub mod Law
-- a program that meets its premises
pub mod Example
