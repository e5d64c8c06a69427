-- what record objects need
pub mod Records
-- what is left to do inside the body of a Finalize
pub mod Control
-- forms that are evaluated
pub mod Evaluations
-- controlled parts that are treated
pub mod Treatments
-- masters that are left
pub mod Leavings
-- each step
pub mod Steps
-- what a state of a run says of its next step
pub mod Ready
-- so it is in whole runs
pub mod Runs
-- what that says of record objects
pub mod Outlived
-- a program with a record object that needs a collection
pub mod Example
