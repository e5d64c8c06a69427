-- Programs that call no operation of a controlled type.

-- what holds of each state that may come next
pub mod Coming
-- what makes nothing with controlled parts does so part by part
pub mod MakesNone
-- what is left to do treats nothing, and no object has controlled parts
pub mod Idle
-- heaps whose objects have no controlled parts
pub mod Heaps
-- paths, expressions, values, allocators and Free keep that
pub mod Forms
-- each step keeps that
pub mod Steps
-- each state of a run is so
pub mod Runs
-- programs that meet the premises, and some that do not
pub mod Example
-- what holds of each frame of what is left to do, and where it holds on
pub mod Frames
-- it does behind paths, expressions, values, allocators and Free
pub mod FrameForms
-- treatments keep it, and so does leaving a master
pub mod FrameTreatments
-- each step keeps it
pub mod FrameSteps
-- nothing that is left to do copies a record with controlled parts
pub mod Unadjusted
-- each step keeps that
pub mod UnadjustedSteps
-- each state of a run is so
pub mod UnadjustedRuns
