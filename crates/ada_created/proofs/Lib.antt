-- what is left to do, and the parts that masters have begun
pub mod Control
-- forms that are evaluated
pub mod Evaluations
-- controlled parts that are treated, and masters that are left
pub mod Treatments
-- each step
pub mod Steps
-- so it is in whole runs
pub mod Runs
-- where collections are created
pub mod Places
-- the text creates each collection once
pub mod Texts
-- what that says of collections and of what operations use
pub mod Created
-- a program whose operations use an older collection
pub mod Example
