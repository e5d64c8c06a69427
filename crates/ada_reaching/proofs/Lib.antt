-- Bodies that shun some access types.

-- what selectors lead to, and what objects hold
pub mod Selections
-- values that refer to no ghost
pub mod Elsewhere
-- how states change
pub mod Going
-- masters of the bodies' own
pub mod Masters
-- the members of collections
pub mod Members
-- paths
pub mod Paths
-- paths that lead somewhere
pub mod Rooted
-- where bodies begin
pub mod Begins
-- initializations and finalizations
pub mod Treats
-- forms
pub mod Forms
-- frees
pub mod Frees
-- assignments, and what is read
pub mod Assigns
-- calls
pub mod Calls
-- statements
pub mod Statements
-- frames
pub mod Frames
-- jumps, and each step
pub mod Jumps
-- what a step looks at
pub mod Touched
-- the law
pub mod Law
-- what is left behind an operation
pub mod Behind
-- the law by what procedures do
pub mod Deeds
-- what the examples share
pub mod ExampleParts
-- the premise is met, and needed
pub mod Example
-- it is met where a record is copied
pub mod ExampleCopies
-- it is met where a freed object is finalized
pub mod ExampleFinalizes
-- where one that is allocated is initialized
pub mod ExampleInitializes
-- where one that is declared is finalized
pub mod ExampleDeclares
-- and where one is declared as a copy
pub mod ExampleDeclaresCopy
-- for records of inert types nothing is called
pub mod Inert
