-- What holds of the masters that are entered while an operation of a controlled type runs.

-- the masters that were entered since the outermost such operation was called
pub mod Anywhere
-- a program that meets the premises
pub mod Example
