-- The proofs of this crate.

-- what is left to do
pub mod Keeping
-- forms that are evaluated
pub mod Evaluations
-- objects that are treated, and masters that are left
pub mod Treatments
-- each step
pub mod Steps
-- records that are found
pub mod Seeking
-- the numbers of the parts of a record
pub mod Lying
-- each step from a state of which the invariant holds
pub mod Going
-- what the text of operations says
pub mod Texts
-- where the body of a Finalize assigns
pub mod Finalizing
-- where an operation assigns to a record object that it declares
pub mod Declaring
-- whole runs
pub mod Runs
-- a program that meets the premises
pub mod Example
-- one whose operation assigns to what it declares
pub mod OwnExample
-- one whose operation calls what does so
pub mod CalledExample
