-- Programs that call no operation of a controlled type.

-- the laws
pub mod Law
-- programs that meet the premises, and some that do not
pub mod Example
