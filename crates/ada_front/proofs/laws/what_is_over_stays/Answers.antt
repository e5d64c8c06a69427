use Rattle.ada_front.proofs.Kept.{keeps_what_is_over, over_before}
use Rattle.ada_front.proofs.laws.what_is_over_stays.Goals as goal

pub returns : goal.returns
returns c = record { law = keeps_what_is_over; example = over_before }
