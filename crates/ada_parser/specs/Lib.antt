-- What the parser answers.

-- the fault of tokens that are no unit
pub mod Faults
-- the first fault of a list of tokens
pub mod FirstFault
-- one tree at most, one first fault at most, and never both
pub mod Laws
