-- The runs of programs follow storage, in the order in which it is read.

-- controlled parts, and what is left of a treatment
pub mod Forests
-- what states and events are for storage
pub mod Reading
-- runs, and the laws that they take from storage
pub mod Law
-- examples
pub mod Example
