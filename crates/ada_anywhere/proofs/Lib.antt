-- what is left to do in front of an operation nests wherever that is called
pub mod Control
-- what comes next while forms are evaluated nests so
pub mod Evaluations
-- controlled parts are treated, and masters are left
pub mod Treatments
-- each step keeps that
pub mod Steps
-- so does each run
pub mod Runs
-- a program that meets the premises
pub mod Example
