-- Phrases of one token, and how phrases are made of others.

-- readers of tokens
pub mod Step
-- operators (4.5)
pub mod Operators
