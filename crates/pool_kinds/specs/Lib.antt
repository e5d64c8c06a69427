-- what the kinds make of requests and of their owners
pub mod Kinds
-- what a pool with subpools, and one with marks, are seen as
pub mod Marked
