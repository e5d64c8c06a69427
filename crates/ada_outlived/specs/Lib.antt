-- What record objects need lasts as long as they do.

-- the law
pub mod Outlived
-- a run that meets its premises
pub mod Example
