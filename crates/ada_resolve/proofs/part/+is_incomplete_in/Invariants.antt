use Rattle.std.proofs.Common.{length}
use Rattle.ada_resolve.proofs.part.+is_incomplete_in.Given as goal

-- each call looks at one part
abbrev pub decreases-is_incomplete_in : goal.decreases-is_incomplete_in
decreases-is_incomplete_in l = length l.parts.now
