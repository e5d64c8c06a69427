-- what each state of a run keeps
pub mod Invariant
-- tables and counts
pub mod Facts
-- what one step does to values and objects
pub mod Deeds
-- what is under way, as an object leaves its place, and as tables change
pub mod Stack
-- the same as an object joins a collection
pub mod Joining
-- each step that finalizes keeps the invariant
pub mod Keeps
-- and so does each other step
pub mod Steps
-- a leaving passes its items, newest first
pub mod Passing
-- what a cause has left of an object never grows
pub mod Remaining
-- the laws of single values
pub mod Runs
-- what was initialized is what is undone
pub mod History
-- the laws of order
pub mod Orders
-- with an object parts come first
pub mod Births
-- masters, and what is out at the end
pub mod Ends
-- runs by their choices
pub mod Example
-- the laws for each machine that follows storage
pub mod Following
