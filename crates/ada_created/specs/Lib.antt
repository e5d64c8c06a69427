-- The order in which collections are created.

-- the laws
pub mod Law
-- a run that meets their premises
pub mod Example
