-- places of collections, and faults, in order
pub mod Orders
-- the table of places
pub mod Table
-- what is used too late
pub mod Using
-- the first fault
pub mod Checking
-- what quiet bodies do
pub mod Silence
-- what implicit calls may do
pub mod Parts
-- what they spare
pub mod Spared
-- no exception comes out of an Adjust or a Finalize
pub mod Propagating
-- the laws
pub mod Proved
-- the examples
pub mod Shown
-- the example of a part within a part
pub mod Nested
