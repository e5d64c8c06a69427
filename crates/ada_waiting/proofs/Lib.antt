-- What waits behind the end of a call neither matters to a step nor changes.

-- what forms do before something that waits
pub mod Forms
-- what is done as an object is treated
pub mod Treats
-- statements, declarations, allocators and frees; what a frame does
pub mod Frames
-- a jump passes frames; the law
pub mod Law
-- the premise is met, and needed
pub mod Example
