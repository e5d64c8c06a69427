-- Quotients, remainders and moduli.
pub mod Division
-- An operator has one outcome.
pub mod Outcomes
-- The outcome as a function is the outcome.
pub mod Results
