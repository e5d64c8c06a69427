-- which tokens a reading depends on
pub mod Local
-- what is read is written so, and where reading stops some tree goes on from there
pub mod Sound
pub mod Shallow
pub mod Ranks
pub mod ExpressionPhrases
pub mod RightPhrases
pub mod Lists
pub mod RecordPhrases
pub mod Follows
pub mod DeclarationPhrases
pub mod StatementPhrases
pub mod ProcedurePhrases
pub mod UnitPhrases
-- what is written so is read so, or sinks where it is nested too deep
pub mod Complete
pub mod ExpressionTexts
pub mod ItemTexts
pub mod RightTexts
pub mod ExpressionLooks
pub mod RecordTexts
pub mod DeclarationTexts
pub mod StatementTexts
pub mod ProcedureTexts
pub mod UnitTexts
-- one tree at most, one first fault at most, and what a fault says
pub mod Located
pub mod Reading
pub mod Depth
pub mod OneFault
pub mod Exact
pub mod Whole
