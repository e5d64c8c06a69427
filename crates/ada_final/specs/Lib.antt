-- Items, and lists of them.
pub mod Item
-- One number's place.
pub mod Slot
-- The lists, by number.
pub mod Lists
-- The numbers that wait for a list.
pub mod Unused
-- Lists that blocks of a pool hold by their links.
pub mod Linked
