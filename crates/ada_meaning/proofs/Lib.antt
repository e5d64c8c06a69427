-- treatments, and tables of types
pub mod Treatments
-- the members of a collection, and what becomes of them
pub mod Members
-- what a jump does to activations where it passes a frame
pub mod Jumps
-- each step makes a state lighter
pub mod Weight
-- what treatments cost, where each call of an operation has its cost
pub mod Costs
-- no step leaves more operations to be called, so each makes another number smaller
pub mod OperationsLeft
pub mod Pace
-- what one step does to the heap
pub mod Deeds
-- objects over any run
pub mod Lives
-- what steps keep of the activations
pub mod Activations
pub mod Kept
-- what a caller gets back where the body of its call ends
pub mod CopiedBack
-- callers stay
pub mod Callers
-- what comes next where a call begins and ends
pub mod Calls
-- what the laws of calls refuse, and what they let pass
pub mod CallsRefused
-- what objects of allocators without items hold when they come to be
pub mod Defaults
-- records that are copied as wholes
pub mod Records
-- what is given by reference, and what is stored in a component
pub mod References
-- assignments of records that have controlled parts
pub mod RecordAssignments
-- the operations of controlled types
pub mod Operations
-- what an exception that leaves one leaves to do, and how objects end
pub mod Undoing
-- which objects are freed
pub mod Freeing
-- when controlled parts are treated
pub mod Treated
-- where controlled parts begin, and whose operations they have
pub mod Places
-- in every run each part begins where it began
pub mod PartsKept
-- a program whose operations are called
pub mod OperationExamples
-- a program whose Initialize calls itself before any statement begins
pub mod Endless
-- where a statement begins
pub mod Beginnings
-- what the law of the innermost master refuses
pub mod Innermost
