pub mod NumberLemmas
pub mod WordLemmas
pub mod WrittenLemmas
pub mod PlaceLemmas
