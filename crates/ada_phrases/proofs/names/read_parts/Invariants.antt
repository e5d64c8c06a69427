use Rattle.std.proofs.Common.{◌≤◌, length, map}
use Rattle.ada_text.specs.Token.{delimiter, lexemes_of}
use Rattle.ada_text.specs.declared.delimiter.Delimiter.TheVariants.{Dot}
use Rattle.ada_tree.specs.Names.{ident_of}
use Rattle.ada_reader.specs.Step.{at, all_of}
use Rattle.ada_phrases.specs.Expressions.{part_at}
use Rattle.ada_phrases.proofs.Loop.{Going}
use Rattle.ada_phrases.proofs.names.read_parts.Given as goal

abbrev pub invariant-loop-reader : goal.invariant-loop-reader
invariant-loop-reader l = record {
  shorter : length l.reader.tokens.now ≤ length l.fn.reader.tokens.now;
  read : Going (at (delimiter Dot)) part_at (map ident_of l.found.items) l.reader.tokens.now (all_of (at (delimiter Dot)) part_at (lexemes_of l.fn.reader.tokens.now));
}

abbrev pub decreases-loop-reader : goal.decreases-loop-reader
decreases-loop-reader l = length l.reader.tokens.now
