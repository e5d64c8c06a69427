-- what a reader gives in several calls
pub mod Reading
-- calls one after another, and what is written piece by piece
pub mod Writing
-- a turn where past objects are other ones
pub mod Past
-- the runner's run, step by step
pub mod Steps
-- the number that a word gives
pub mod Numbers
-- from what is kept of an input to its numbers
pub mod Inputs
-- from the parts of an answer to the answer
pub mod Answering
