-- lemmas of this crate
pub mod Deep
pub mod Firsts
pub mod Growing
mod InOrder
pub mod Overridden
mod Profiles
pub mod Shapes
mod Viewed
pub mod Walks
