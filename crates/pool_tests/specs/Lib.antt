-- blocks that are held
pub mod Held
