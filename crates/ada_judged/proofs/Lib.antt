-- Bodies as they are judged.

-- which paths begin with a tracked component
pub mod ObeyingPaths
-- what expressions use
pub mod ObeyingExpressions
-- what is made of two outcomes
pub mod ObeyingOutcomes
-- what is moved
pub mod ObeyingMoves
-- what stands where paths lead
pub mod ObeyingKinds
-- assignments, Get and Free
pub mod ObeyingAssignments
-- take pairs, exits and exceptions
pub mod ObeyingForms
-- what loops start with
pub mod ObeyingLoops
-- records that are assigned as wholes
pub mod ObeyingRecords
-- statements and declarations
pub mod ObeyingStatements
-- that variables stand for tracked components where a body is judged
pub mod ObeyingJudged
-- the law that flow lets them through, and its example
pub mod Obeying
-- variables and paths
pub mod FittingPaths
-- expressions, items, what is assigned, and declarations
pub mod FittingForms
-- statements, branches and handlers
pub mod FittingStatements
-- paths from the formal parameter begin with a record object
pub mod FittingRecords
-- variables and whole bodies
pub mod FittingBodies
-- the premises are met
pub mod FittingExample
