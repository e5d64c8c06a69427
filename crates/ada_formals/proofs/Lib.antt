-- what is left of a treatment
pub mod Ordered
-- what is left to do, and what goes on
pub mod Standing
-- bodies write to no formal parameter that is a record
pub mod Texts
-- forms that are evaluated
pub mod Evaluations
-- objects that are treated, and masters that are left
pub mod Treatments
-- each step
pub mod Steps
-- whole runs
pub mod Runs
-- a program that meets the premises
pub mod Example
-- records that are given lie inside of others
pub mod Inside
-- a program that is not well formed
pub mod LateExample
