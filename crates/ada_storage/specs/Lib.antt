-- Storage and finalization, in the order in which they are read.

-- objects, masters, and what is under way
pub mod State
-- steps, by choices
pub mod Step
-- runs and laws
pub mod Law
-- runs that meet the premises
pub mod Example
-- machines that follow storage
pub mod Following
