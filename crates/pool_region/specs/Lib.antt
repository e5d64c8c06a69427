-- places of a block, and when they hold values
pub mod Places
-- who owns and who lends them
pub mod Ownership
-- what they end as, once a `&mut` into them has ended
pub mod Lends
-- the words of a region
pub mod Region
