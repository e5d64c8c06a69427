-- The proofs of this crate.

-- what is left to do, and what goes on
pub mod Standing
-- bodies write to no variable that is a record
pub mod Texts
-- forms that are evaluated
pub mod Evaluations
-- objects that are treated, and masters that are left
pub mod Treatments
-- each step
pub mod Steps
-- whole runs
pub mod Runs
