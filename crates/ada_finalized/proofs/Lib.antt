-- how often a number stands among parts
pub mod Counts
-- how far the values of a part have come
pub mod Ranks
-- what a treatment keeps
pub mod Treated
-- what is being done to objects, by what is left to do
pub mod Doings
-- how what is left to do stands
pub mod Stacks
-- which parts are waited for
pub mod Claims
-- what holds of all that may come next
pub mod Leading
-- what steps of code make of a state
pub mod Made
pub mod Evaluations
pub mod Statements
pub mod Walk
-- what holds of every state of a run
pub mod Invariant
-- steps that keep all values
pub mod Going
-- the value of a part comes to exist
pub mod Begun
-- it is finalized
pub mod Ended
-- what begins to be done to an object
pub mod Created
-- steps that finalize and begin nothing
pub mod Passing
-- steps of code
pub mod Coding
-- steps that treat an object
pub mod Operating
-- steps behind a treatment
pub mod Closing
-- steps while the target and the source of an assignment are found
pub mod Finding
-- each step keeps the invariant
pub mod Steps
-- what events tell
pub mod Told
-- the laws of whole runs
pub mod Runs
-- objects have the values of their parts
pub mod Standing
-- what is inside of the part for which an operation runs has its values
pub mod Inside
pub mod InnerParts
-- what something is done to exists, and no treatment comes to a value that does not
pub mod Twice
-- programs with controlled types
pub mod Example
pub mod OperationExamples
pub mod NestedExample
-- what the laws refuse
pub mod Refused
