-- What a part declares names its own types and those of the parts around it, from declaration to declaration and from statement to statement.
use Rattle.ada_resolve.proofs.Nesting as nesting
use Rattle.ada_resolve.proofs.laws.collections_nest.Goals as goal

pub returns : goal.returns
returns c = nesting.collections_nest
