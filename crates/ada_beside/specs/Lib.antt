-- What lies in an object beside the record that is the formal parameter of an operation.

-- of which bodies the law speaks
pub mod Confined
-- the law
pub mod Law
-- a body that meets the premises
pub mod Example
