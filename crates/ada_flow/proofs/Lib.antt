-- the leftmost of the rules that paths break
pub mod Leftmost
-- items that move variables
pub mod Moved
-- ways that join
pub mod Joined
-- what is noted of where exceptions are raised
pub mod Noted
-- the access types of variables, and blocks that are left
pub mod Behind
-- whether a variable may hold an alias
pub mod Aliased
-- what is left behind a Free
pub mod Freed
-- actual parameters, one behind the other
pub mod Actuals
-- formal parameters where a body begins and ends
pub mod Formals
-- what is lost where objects may be gone
pub mod Unaliased
-- what is known behind a call
pub mod Called
-- what is lost as operations are called
pub mod Initialized
-- the first fault of bodies
pub mod FirstFaults
-- which records lie in which
pub mod Parts
-- tracked components, one behind the other
pub mod Tracked
