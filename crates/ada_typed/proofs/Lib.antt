-- the types of a program and what is shown of them
pub mod Shown
-- controlled parts of objects, and what is left of their treatments
pub mod Parts
-- records with controlled parts that lie in objects
pub mod Lying
-- what a value is of which kind
pub mod Values
-- operators and the types of their operands
pub mod Operators
-- no type overrides an operation
pub mod Overriding
-- what overrides an operation
pub mod Overridings
-- statements whose values are of the kinds that they want
pub mod OfKinds
-- what is left to do fits what is there
pub mod Control
-- walks into declared components
pub mod Walking
-- records that lie in objects
pub mod Records
-- it fits as well once objects have come to be or have changed
pub mod Later
-- objects that are treated before anything else
pub mod Treating
-- records in records
pub mod Inner
-- the program as each of its bodies sees it
pub mod Bodies
-- actual parameters, and the places of a body that begins
pub mod Actuals
-- paths, expressions, allocators and what is assigned
pub mod Evaluations
-- components that are assigned to
pub mod Targets
-- the steps of treatments
pub mod Treatments
-- records that are copied or assigned to as wholes
pub mod Wholes
-- records with controlled parts that are assigned
pub mod Assigning
-- variables and components that are freed
pub mod Frees
-- objects that end, and masters that are left
pub mod Leavings
-- record objects and their types
pub mod Objects
-- what a step keeps around the running body
pub mod Kept
-- steps of treatments keep it
pub mod KeptTreatments
-- it keeps that unless a call begins or ends
pub mod KeptSteps
-- each step inside a body leads from typed states to typed states
pub mod Steps
-- and so does each jump inside a body
pub mod Jumps
-- calls, returns and jumps out of bodies
pub mod Calls
-- so no run is stuck
pub mod Runs
-- and what is freed is freed by the instance for its type
pub mod Freeing
-- what operations are called with
pub mod Operated
-- a program that is well formed, and one that is not
pub mod Example
-- a program that frees an object, by either instance
pub mod ExampleFreeing
-- a program that names a record by the component of one and the part of another
pub mod ExampleMixed
-- a program whose type overrides an operation
pub mod ExampleOperations
-- a program that assigns records with controlled parts
pub mod ExampleParts
