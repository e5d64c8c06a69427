-- the tiling of a pool, and what the calls make of it
pub mod Tiling
-- what the calls leave as it was
pub mod Kept
-- how the words of a pool spell its tiling
pub mod Headers
-- a tiling and the words below it
pub mod Tiled
-- blocks in a pile, as mark and release has them
pub mod Piled
