-- The meaning of programs, in the order in which it is read.

-- what is left to do
pub mod Frame
-- what a step shows and tells
pub mod Event
-- activations, masters, states
pub mod State
-- what a step asks of values and of the heap
pub mod Heap
-- the small steps (4 to 13)
pub mod Step
-- the heap of names
pub mod Named
-- runs, and the states that they end in
pub mod Run
-- runs in which somebody answers what is open
pub mod Chosen
-- the laws of storage (7.6.1, 13.11.2)
pub mod Law
-- the laws of finalization (7.6, 7.6.1)
pub mod Finalization
-- what a safe program is
pub mod Safe
-- laws of names and objects over any run (4.8, 7.6.1, 13.11.2)
pub mod Life
-- what objects of allocators without items hold when they come to be (4.8)
pub mod Defaults
-- records that are copied as wholes (4.3.1, 5.2)
pub mod Records
-- calls, and what callers hold (6.4, 6.5)
pub mod Calls
-- operations of controlled types, and what an exception that leaves one does (7.6, 7.6.1)
pub mod Operations
-- when controlled parts are treated (7.6, 7.6.1)
pub mod Treated
-- where controlled parts begin, and whose operations they have (7.6)
pub mod Places
-- a run that meets the premises of the laws of operations
pub mod OperationExamples
-- what is passed by reference (6.2, 6.4.1)
pub mod References
-- where a statement begins (5.1)
pub mod Beginning
-- every run ends
pub mod Ending
-- so it does where operations are called, too (7.6)
pub mod Pace
-- what the run's words print
pub mod Text
