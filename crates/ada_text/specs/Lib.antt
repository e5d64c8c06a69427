-- "exactly, out of memory aside", for the whole checker
pub mod Exactly
-- the classes of bytes
pub mod Bytes
-- places, lines and columns
pub mod Place
-- what stands between tokens
pub mod Gap
-- the reserved words
pub mod Word
-- the reserved words by their first letter
pub mod Reserved
-- the delimiters
pub mod Delimiter
-- what tokens are
pub mod Token
-- the form of identifiers
pub mod Identifier
-- decimal literals
pub mod Number
-- string literals
pub mod Literal
-- what a text begins with
pub mod Element
-- what a reader of one token answers
pub mod Refusal
-- the tokens of a source, or its first fault
pub mod Reading
-- how tokens lie in a source
pub mod Layout
-- writing the tokens of a source again
pub mod Writing
-- the forms of tokens
pub mod Form
