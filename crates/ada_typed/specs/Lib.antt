-- What types promise about runs.

-- which value is held where
pub mod Holding
-- what is freed, and by which instance
pub mod Freeing
-- no action of a well-formed program is without a meaning
pub mod Stuck
