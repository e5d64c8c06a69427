-- numbers and lists
pub mod Facts
-- tables of types
pub mod Tables
-- what the code holds
pub mod Held
-- a component is taken away
pub mod Away
-- the numbers of parts
pub mod Numbers
-- what each run keeps
pub mod Runs
-- runs end
pub mod Ends
-- the order of the calls
pub mod Orders
-- a component is treated whole
pub mod Whole
-- the reverse order
pub mod Reverse
-- the example
pub mod Example
