-- What the checker answers, in the order in which it is read.

-- what is printed of a fault
pub mod Refusal
-- a refusal as it is lent
pub mod Shown
-- the program of a source, and its first fault
pub mod First
