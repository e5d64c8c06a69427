-- What waits behind the end of a call neither matters to a step nor changes.

-- a state before something that waits, and what comes next there
pub mod Before
-- the law
pub mod Law
-- the premise is met, and needed
pub mod Example
