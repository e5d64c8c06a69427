-- What holds of objects and collections where collections nest.

-- one collection for each type, and which masters last as long as an object
pub mod Scopes
-- a program that meets the premises, and one that shows that they are needed
pub mod Example
