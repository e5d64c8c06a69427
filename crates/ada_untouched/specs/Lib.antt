-- What a step does not touch does not matter to it, and what it does not write stays.

-- states that are alike but for some components and some objects; events that spare these objects
pub mod Alike
-- states that are alike but for what lies in objects that are past
pub mod Past
-- what a step looks at
pub mod Untouched
-- what a step writes
pub mod Unwritten
-- the laws
pub mod Law
-- states that meet the premises, and some that do not
pub mod Example
