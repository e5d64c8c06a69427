-- The definitions of this crate, in the order in which they are read.

-- operations that touch no storage, plain and quiet ones
pub mod Quiet
-- types for whose objects no operation is called that touches storage
pub mod Calm
-- access types whose objects have no controlled parts
pub mod Bare
-- programs that call no operation
pub mod Idle
-- bodies of Initialize and Finalize that touch storage: frugal ones
pub mod Frugal
-- bodies of an Adjust that touch storage: simple ones
pub mod Simple
-- procedures that override an Adjust which tracks stand apart
pub mod Apart
-- record types that have parts whose Adjust tracks beside others whose Adjust touches storage
pub mod Mixed
-- what is in use
pub mod InUse
-- what frugal bodies go by, and marks and numbers of types, as the code holds them
pub mod Known
-- the first one in the text that is not in use
pub mod First
-- laws of what is in use
pub mod Laws
