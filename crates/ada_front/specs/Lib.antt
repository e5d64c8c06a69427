-- The definitions of this crate, in the order in which they are read.

-- where what may be cut begins
pub mod Spots
-- what stands before a fault
pub mod Front
-- what has begun and what is settled, as the code finds it
pub mod View
-- what stands in a text, in its order
pub mod Marks
-- laws of fronts
pub mod Laws
-- a tree with a fault, and its front
pub mod Example
