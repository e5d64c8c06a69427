-- The definitions of this crate, in the order in which they are read.

-- graphs, and which nodes are reached
pub mod Graph
-- the laws of reaching
pub mod Law
-- a graph with a cycle, a node that is reached and one that is not
pub mod Example
-- what the code's values stand for
pub mod View
