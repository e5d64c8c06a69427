-- items, masters and their numbers
pub mod Numbers
-- pools and their numbers
pub mod Pools
-- what is left to do while a master is being left
pub mod Controls
-- each step that leaves no master
pub mod Works
-- each step at the leaving of a master
pub mod Leavings
-- each step from any state, and what it asks of the pools and tells them
pub mod Requests
-- whole runs
pub mod Orders
-- runs by their choices
pub mod Choices
-- a program whose blocks nest
pub mod Example
-- a program that calls a procedure, which returns from a block
pub mod Calling
-- a program with two pools
pub mod Pooling
