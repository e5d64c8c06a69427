-- Bodies that follow and free no value of some access types.

-- what they may call, free and allocate
pub mod Apart
-- their forms
pub mod Forms
-- such bodies run
pub mod Reaching
-- the law
pub mod Law
-- the law by what procedures do
pub mod Deeds
-- the premise is met, and needed
pub mod Example
