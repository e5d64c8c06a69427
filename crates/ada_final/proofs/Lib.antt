-- Lists of items, from the oldest and from the newest.
pub mod ItemLemmas
-- The numbers that wait for a list.
pub mod UnusedLemmas
pub mod Following
