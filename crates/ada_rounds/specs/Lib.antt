-- The definitions of this crate, in the order in which they are read.

-- the first body that may not call itself and does
pub mod FirstRound
-- laws of such bodies
pub mod Laws
-- three programs whose operations call themselves
pub mod Example
