-- what the code finds is the first body that may not call itself and does
pub mod Asking
-- laws of such bodies
pub mod Chains
-- the examples
pub mod Example
