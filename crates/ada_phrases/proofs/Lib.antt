-- phrases one after the other, as a loop reads them
pub mod Loop
-- what stands inside a level of nesting
pub mod Inside
pub mod Nesting
-- chains of operators, as the code keeps them
pub mod Links
-- trees that are built of their parts
pub mod Built
