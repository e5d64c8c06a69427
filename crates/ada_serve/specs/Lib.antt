-- The answer to a source, in reading order.

-- what the program is asked to do
pub mod Settings
-- the lines of an answer
pub mod Texts
-- what a writer holds after a text was written, or after a failure
pub mod Written
-- calls of a reader or of a writer, one after another, and how they end
pub mod Calls
-- the runner's run, and its text
pub mod Runner
-- the answer to a source
pub mod Answer
-- what a call of serve writes, and what becomes of its readers
pub mod Served
-- the exit statuses of the program
pub mod Exits
