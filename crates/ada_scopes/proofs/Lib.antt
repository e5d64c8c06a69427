-- how often an access type stands in a list
pub mod Counts
-- what nests in the text of a program
pub mod Texts
-- what procedures create nests where they are called
pub mod Bodies
-- the objects of a master lie above its collections
pub mod Layers
-- what is left to do nests in the masters that are entered
pub mod Control
-- objects and their homes
pub mod Homes
-- what is not open where an operation is called
pub mod Lacked
-- what comes next while forms are evaluated nests
pub mod Evaluations
-- controlled parts are treated
pub mod Treatments
-- the operations of types nest
pub mod Operations
-- so it does while a master is being left
pub mod Leavings
-- each step leads from nested states to nested states
pub mod Steps
-- so does each run
pub mod Runs
-- what that says of objects and their components
pub mod Components
-- a program whose collections nest, and one whose collections do not
pub mod Example
-- two whose main part creates an object before a pool or a collection
pub mod LateExample
-- one with an operation, which is called
pub mod OperationExample
-- one whose operation nests only where the collections of the main procedure are open
pub mod OpenExample
-- one whose operation does not nest
pub mod RecursionExample
-- and one whose operation creates an object too far out
pub mod ShortExample
