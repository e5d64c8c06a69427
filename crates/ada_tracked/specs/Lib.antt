-- What stands for the components of a record parameter that a body tracks.

-- the forms of a body as they are judged
pub mod Forms
-- what is left to do, and the heap, as they are judged
pub mod Frames
-- of which bodies the law speaks
pub mod Simple
-- which state stands for which
pub mod Seen
-- what the next step looks at
pub mod Looking
-- what it copies of the object
pub mod Copying
-- the law
pub mod Law
-- a body that meets the premises
pub mod Example
-- what is left to do stays of such forms
pub mod Staying
