-- Controlled parts, in the order in which they are read.

-- record types as finalization sees them, and how many parts they have
pub mod Shape
-- the parts of an object, by number
pub mod Part
-- what is left of a treatment, and its steps
pub mod Task
-- treatments, and their laws
pub mod Law
-- a table and an object that meet the premises
pub mod Example
-- what the code's values stand for
pub mod View
