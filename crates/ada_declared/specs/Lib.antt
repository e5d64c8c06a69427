-- The definitions of this crate.

-- what the record objects of operations stand apart from
pub mod Declared
