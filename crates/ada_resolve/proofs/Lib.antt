pub mod Names
-- specifications of operations, as the code keeps them
pub mod Specified
-- the profiles of procedures, and bodies that end
pub mod Profiles
-- declarations with no others in them
pub mod Single
pub mod Views
pub mod Told
pub mod Handled
pub mod ComponentLists
pub mod Collections
pub mod Chains
pub mod ItemLists
pub mod First
pub mod Actuals
pub mod WellFormed
-- parts that begin and end
pub mod Parts
-- what stands as more is declared and done
pub mod Standing
-- collections along nested parts
pub mod Nesting
-- what is known at a place, and what the place has bound
mod Agreeing
-- as many items as components
mod ItemCounts
-- operations of controlled types, and how they are written
mod Operating
mod Operands
mod Bodied
mod Reading
mod Keeping
mod Written
-- borrowers, as they are written
mod Lent
mod Others
mod Elaborated
-- the heads of bodies, as they are written
mod Heads
pub mod Whole
