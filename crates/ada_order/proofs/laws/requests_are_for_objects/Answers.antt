-- By what each step asks of the pools, and tells them.
use Rattle.ada_order.proofs.Requests as requests
use Rattle.ada_order.proofs.laws.requests_are_for_objects.Goals as goal

pub returns : goal.returns
returns c = requests.requests_are_for_objects
