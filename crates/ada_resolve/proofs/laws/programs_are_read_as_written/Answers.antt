-- The declarations and the statements of the program that a tree means are those of the tree.
use Rattle.ada_resolve.proofs.Whole as reading
use Rattle.ada_resolve.proofs.laws.programs_are_read_as_written.Goals as goal

pub returns : goal.returns
returns c tree program e = reading.read_as tree program e
