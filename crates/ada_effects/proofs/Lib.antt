-- when two exceptions are one
pub mod Sameness
-- sets of exceptions
pub mod Sets
-- what is found, step by step
pub mod Collected
-- effects that answer for each exception
pub mod Calls
-- how what statements raise depends on the exceptions that are asked for
pub mod Raising
-- the procedures of a program, and the laws
pub mod Programs
