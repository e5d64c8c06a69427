-- Bodies as they are judged.

-- flow lets a body through as the one with variables
pub mod Obeying
-- they fit, as they are judged
pub mod Fitting
