-- costs that agree on the parts of records agree on what declarations create
pub mod Costs
-- declarations settle where no body leads back to itself
pub mod Settling
