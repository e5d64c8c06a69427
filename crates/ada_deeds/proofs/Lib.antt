-- where more is known, more is done
pub mod More
-- what is found of deeds that are no exceptions
pub mod Seeking
-- the nodes of callees
pub mod Numbering
-- edges that are added
pub mod Edges
-- the graph of calls, node by node, and what is reached in it
pub mod Calling
-- what calls itself is reached from what calls it
pub mod Circles
-- nothing does a deed that no body does itself
pub mod Begun
-- the marks of all deeds of a program
pub mod Exact
-- a set that grows round by round
-- what is known within so many calls of calls
pub mod Within
-- the table of what implicit calls may do
pub mod Table
-- the example
pub mod Example
-- which types allocators and declarations name
pub mod Naming
-- what effects say of an exception is done
pub mod Raised
-- what comes out of the initialization of an object
pub mod Starting
-- operations of objects with controlled parts
pub mod Parted
-- what effects say of Frees is done
pub mod Freed
-- what is known of the calls of procedures is done
pub mod Known
-- what is known of each procedure is told by its body
pub mod Told
-- what comes out of a form is known
pub mod RaisesKnown
-- what a form frees is known
pub mod FreesKnown
-- what comes out of no Adjust and no Finalize
pub mod Kept
-- what procedures do is known of their calls
pub mod Conversely
-- the examples of what procedures do and effects know
pub mod KnownExamples
