-- where chains of operators begin
pub mod Chains
-- sequences
pub mod Views
-- parts that are settled from the last declaration on
pub mod Settling
-- what is left of a construct
pub mod Stays
-- lists that are cut
pub mod Cutting
-- constructs that are cut
pub mod Parts
-- where nothing is cut
pub mod Whole
-- lists of marks
pub mod Marks
-- what is over stays
pub mod Kept
-- marks stand at the tokens of a text
pub mod Texts
-- in its order
pub mod InText
