-- laws of bodies that lead back to themselves
pub mod Leading
-- what the code finds is the first body that leads back to itself
pub mod Asking
-- what the edges of nodes say
pub mod Nodes
-- a procedure leads to another one where the node of that is reached
pub mod Reaching
-- the examples
pub mod Example
