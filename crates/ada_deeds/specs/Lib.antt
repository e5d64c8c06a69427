-- The definitions of this crate, in the order in which they are read.

-- of which access types the evaluation of a form follows values
pub mod Follows
-- what forms do, where this is known of what they call
pub mod Forms
-- what does a deed
pub mod Does
-- what calls itself
pub mod Rounds
-- where a deed begins
pub mod Begins
-- what does one within so many calls of calls
pub mod Within
-- what implicit calls may do
pub mod Implicit
-- aggregates that give no record controlled parts which its type has not
pub mod Aggregates
-- laws of what does a deed
pub mod Laws
-- what procedures do and effects know, by examples
pub mod KnownExamples
-- two procedures that call one another, and a third one
pub mod Example
-- what the values of the code stand for
pub mod View
-- the graph of calls
pub mod Graph
-- what the code keeps of the deeds of a program
pub mod Rows
-- the table of what implicit calls may do
pub mod Table
