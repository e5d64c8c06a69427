-- The laws, in the order in which they are read.

-- bodies that track no components
pub mod Untracked
-- what flow says of a variable, what the variable then holds, and what components hold
pub mod Agreement
-- a state that stands for another one, while a collection is left
pub mod StandsFor
-- what holds in every run
pub mod Always
-- programs that meet the premises, and that need the rules
pub mod Examples
-- the same where components own
pub mod OwnerExamples
-- the same where others borrow
pub mod BorrowerExamples
-- the same where components get new objects, or are freed
pub mod FreeExamples
-- the same where records are copied as wholes
pub mod RecordExamples
-- the same where procedures are called
pub mod CallExamples
-- the same where pools are declared
pub mod PoolExamples
-- the same where operations of controlled types are overridden
pub mod OperationExamples
pub mod ReleasingExample
pub mod UnshelvingExample
pub mod LeavingExample
pub mod NestingExample
pub mod HousingExample
pub mod StockingExample
pub mod TaggingExample
-- one whose Finalize declares such an object
pub mod MeteringExample
-- one whose Adjust follows a value that names the object which is adjusted
pub mod CrossingExample
-- what the rules let through
pub mod Owners
-- what they say of calls
pub mod Callees
-- what they say of operations that are called implicitly
pub mod ImplicitCalls
