-- A body that has been called, while components of an object are hidden.

-- a state with hidden components, and what comes next in front of what waits
pub mod Hidden
-- the law
pub mod Law
-- the premises are met, and needed
pub mod Example
