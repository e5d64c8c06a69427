-- Blocks that are held.
pub mod Holding
