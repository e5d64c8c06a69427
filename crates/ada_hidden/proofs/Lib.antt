-- A body that has been called, while components of an object are hidden.

-- heaps in which they hold null
pub mod Blanked
-- the law
pub mod Law
-- the premises are met, and needed
pub mod Example
