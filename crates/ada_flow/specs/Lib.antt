-- The flow of values, in the order in which it is read.

-- whether a variable holds an alias
pub mod Aliases
-- which records lie in which
pub mod Parts
-- which components of its formal parameter a body tracks
pub mod Tracking
-- what a variable may be relied on for, and the rules that follow
pub mod Flow
-- which records finalizations reach
pub mod Reached
-- what is left as operations are called implicitly
pub mod Implicit
-- what flow tells
pub mod Told
