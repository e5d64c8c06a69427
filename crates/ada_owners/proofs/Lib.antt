-- holds, places, and what elementary changes keep
pub mod Kernel
-- objects by name
pub mod Objects
-- each change of a variable and of a component
pub mod Changes
-- several values in hand
pub mod Hands
-- new objects
pub mod Creations
-- objects that end
pub mod Ends
-- what is relied on, as lists
pub mod Reliances
-- calls and returns
pub mod Calls
-- collections that go
pub mod Collections
-- what paths find
pub mod Walks
-- the laws
pub mod Keeping
-- a state that meets the premises, and one that needs them
pub mod Example
