-- What lies in an object beside the record that is the formal parameter of an operation.

-- what operands lead to
pub mod Operands
-- what a step looks at and writes
pub mod Touched
-- the object of the record stays
pub mod Ceasing
-- a step leaves a body confined
pub mod Staying
-- the law
pub mod Law
-- the premises are met
pub mod Example
