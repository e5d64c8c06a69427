-- The runner's choices, in reading order.

-- entries by number
pub mod Entries
-- the sizes that a run is given for declared pools
pub mod Sizes
-- what the runner answers
pub mod Runner
-- the pools that exist, as they are held
pub mod Held
-- what is held, seen as the runner's state
pub mod View
