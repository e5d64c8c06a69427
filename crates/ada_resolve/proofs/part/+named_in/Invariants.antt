use Rattle.std.proofs.Common.{length}
use Rattle.ada_resolve.proofs.part.+named_in.Given as goal

-- each call looks at one part
abbrev pub decreases-named_in : goal.decreases-named_in
decreases-named_in l = length l.parts.now
