-- Collections of access types that bodies declare in which nothing is treated.

-- still bodies
pub mod Still
-- the laws
pub mod Law
-- operations that declare access types of their own nest beside the others
pub mod Beside
-- whether they do so, by the text of a program
pub mod Text
-- the premise is met, and needed
pub mod Example
