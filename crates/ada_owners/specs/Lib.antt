-- The laws of owners, in the order in which they are read.

-- where access values lie
pub mod Places
-- what each place is relied on for
pub mod Reliance
-- paths through access values
pub mod Walks
-- what each change keeps
pub mod Keeping
-- a state that meets the premises, and one that needs them
pub mod Example
