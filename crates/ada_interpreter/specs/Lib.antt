-- The machine that runs programs over names, in the order in which it is read.

-- controlled parts and their treatments
pub mod Treatment
-- objects by name, and the members of each collection
pub mod Objects
-- activations, with their places behind one another
pub mod Activations
-- masters, and their items on one stack
pub mod Masters
-- the record types that have controlled parts, in a table by their numbers
pub mod Loaded
-- the state of a run in progress, and what a turn of it does
pub mod Process
-- values that expressions have at once
pub mod AtOnce
-- the common steps of a run in progress
pub mod CommonSteps
-- the machine: steps, with who answers what they leave open
pub mod Machine
-- choices that follow a list of answers
pub mod Listed
