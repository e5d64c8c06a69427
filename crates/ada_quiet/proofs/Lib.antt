-- the first of some things in an order
pub mod Firsts
-- the first place of a body that is not in use
pub mod Unused
-- operations that are quiet are in use
pub mod InUse
-- plain bodies are frugal
pub mod QuietFrugal
-- quiet bodies are simple
pub mod QuietSimple
-- procedures that are frugal have frugal bodies
pub mod FrugalAt
-- record types with controlled parts, by their numbers, and tables of what is known of them
pub mod NumberedTypes
-- which types are calm, by what lies in their objects
pub mod CalmTypes
