-- The definitions of this crate.

-- where declarations settle
pub mod Laws
