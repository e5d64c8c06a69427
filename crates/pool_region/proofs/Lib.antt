pub mod Memory
pub mod Sharing
pub mod Words
