-- one program or one first fault
pub mod Firsts
-- what is told before a fault of the names
pub mod Before
-- what ends and adjustments spare
pub mod Spares
