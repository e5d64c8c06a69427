-- The laws of masters, in the order in which they are read.

-- what holds of masters in every run
pub mod Masters
-- each request is for one object
pub mod Requests
-- a run that meets the premises
pub mod Example
