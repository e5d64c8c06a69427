-- The definitions of this crate, in the order in which they are read.

-- bodies that lead back to themselves, and the first one
pub mod Circles
-- laws of such bodies
pub mod Laws
-- the graph in which the code seeks them
pub mod Edges
-- four programs whose Finalize creates objects
pub mod Example
