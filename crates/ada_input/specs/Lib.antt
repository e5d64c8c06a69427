-- The words of an input, and the numbers that they are.
pub mod Input
-- Inputs that are made from numbers and separators.
pub mod Written
-- Where words stand.
pub mod Place
