-- The definitions of this crate, in the order in which they are read.

-- the order in which collections are created
pub mod Created
-- what the bodies of operations must not do
pub mod Operations
-- laws of these rules, and of what implicit calls may do
pub mod Laws
-- a Finalize that breaks each rule, and one that breaks none; operations of a part that lies within a part
pub mod Example
-- what the code keeps and answers
pub mod View
