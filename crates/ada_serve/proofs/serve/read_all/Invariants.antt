use Rattle.std.proofs.Common.{◌≡◌, ℕ, List, take}
use Rattle.std.specs.Io.KnownBytes.{Consumes}
use Rattle.ada_serve.specs.declared.serve.TheConstants.{MOST_KEPT}
use Rattle.ada_serve.specs.Calls.{InCalls}
use Rattle.ada_serve.proofs.serve.read_all.Given as goal

-- so far each call gave some bytes, and of all that it gave there is kept what there is room for
abbrev pub invariant-loop-call : goal.invariant-loop-call
invariant-loop-call g l =
    (bytes : List ℕ) × InCalls g.R.ByteReader.reads l.fn.reader l._call bytes l.reader
    × Consumes (g.R.ByteReader.remaining l.fn.reader) (g.R.ByteReader.remaining l.reader) bytes
    × (l.kept.items ≡ take MOST_KEPT bytes)
