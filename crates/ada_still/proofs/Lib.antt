-- While a still body runs nothing is treated.

-- what holds of each state that may come next
pub mod Coming
-- what is left to do sits in still bodies, or behind them
pub mod Sits
-- paths, expressions, values, allocators and Free, and the leaving of a master
pub mod Forms
-- objects are treated behind still bodies
pub mod Treats
-- each step
pub mod Steps
-- the law
pub mod Law
-- procedures that are found still in order
pub mod Order
-- what nests where none of these types is open
pub mod Without
-- so it is of all that is left to do
pub mod Rebased
-- operations nest beside the others
pub mod Beside
-- what nests where none of some access types is open, by the text
pub mod Turns
-- operations nest by their text
pub mod Room
-- the laws by the text of a program
pub mod Text
-- the premise is met, and needed
pub mod Example
