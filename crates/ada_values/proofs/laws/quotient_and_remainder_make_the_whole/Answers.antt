-- Two splits with one sign are the same one.
use Rattle.ada_values.proofs.Division.{whole_of}
use Rattle.ada_values.proofs.laws.quotient_and_remainder_make_the_whole.Goals as goal

pub returns : goal.returns
returns c = whole_of
