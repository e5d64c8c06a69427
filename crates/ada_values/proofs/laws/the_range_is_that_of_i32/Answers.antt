-- The bounds are the same.
use Rattle.ada_values.proofs.Division.{fits_in_range, in_range_fits}
use Rattle.ada_values.proofs.laws.the_range_is_that_of_i32.Goals as goal

pub returns : goal.returns
returns c = λ z. (in_range_fits z, fits_in_range z)
