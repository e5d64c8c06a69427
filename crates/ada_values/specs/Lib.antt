-- What the operators give.
pub mod Operators
-- What it is to have one result.
pub mod One
-- The outcome itself.
pub mod Outcome
