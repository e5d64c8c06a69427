-- Operations inside of each other.

-- the laws
pub mod Law
-- a program that meets the premises
pub mod Example
