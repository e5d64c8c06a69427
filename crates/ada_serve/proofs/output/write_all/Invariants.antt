use Rattle.std.proofs.Common.{◌≡◌, ◌++◌, ℕ, List, length}
use Rattle.std.specs.Io.KnownBytes.{Appends}
use Rattle.ada_serve.specs.Calls.{Works}
use Rattle.ada_serve.proofs.output.write_all.Given as goal

-- a front of the text is written, by calls that each took something, and the rest is left
abbrev pub invariant-loop-rest : goal.invariant-loop-rest
invariant-loop-rest g l = record {
  front : (done : List ℕ) × (l.bytes ≡ done ++ l.rest) × Appends (g.W.ByteWriter.contents l.fn.out) (g.W.ByteWriter.contents l.out) done;
  calls : Works g.W.ByteWriter.writes l.fn.out l.out;
}

abbrev pub decreases-loop-rest : goal.decreases-loop-rest
decreases-loop-rest g l = length l.rest
