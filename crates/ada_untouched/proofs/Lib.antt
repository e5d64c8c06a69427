-- What a step does not touch does not matter to it, and what it does not write stays.

-- heaps that are alike, and what is found there
pub mod Heaps
-- what the law needs of a relation on heaps
pub mod Relation
-- what forms do
pub mod Forms
-- what is done as an object is treated
pub mod Treats
-- statements, declarations, allocators and frees; what a frame does
pub mod Frames
-- a jump passes frames; the law
pub mod Law
-- heaps that are the same but for past objects; the laws of these
pub mod Past
-- hidden components stay, whatever becomes of the objects
pub mod Kept
-- they stay where forms do something
pub mod KeptByForms
-- where statements, declarations, allocators, frees and treatments do; where a frame does
pub mod KeptByFrames
-- where a jump passes frames; the law
pub mod KeptByLaw
-- the premises are met, and are needed
pub mod Example
