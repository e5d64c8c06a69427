use Rattle.std.proofs.Common.{◌≤◌, length, map}
use Rattle.ada_text.specs.Token.{delimiter, lexemes_of}
use Rattle.ada_text.specs.declared.delimiter.Delimiter.TheVariants.{Comma}
use Rattle.ada_tree.specs.Names.{name_of}
use Rattle.ada_reader.specs.Step.{at, all_of}
use Rattle.ada_phrases.specs.Declarations.{next_name_at}
use Rattle.ada_phrases.proofs.Loop.{Going}
use Rattle.ada_phrases.proofs.parts.next_names.Given as goal

abbrev pub invariant-names : goal.invariant-names
invariant-names l = record {
  shorter : length l.reader.tokens.now ≤ length l.fn.reader.tokens.now;
  read : Going (at (delimiter Comma)) next_name_at (map name_of l.found.items) l.reader.tokens.now (all_of (at (delimiter Comma)) next_name_at (lexemes_of l.fn.reader.tokens.now));
}

abbrev pub decreases-names : goal.decreases-names
decreases-names l = length l.reader.tokens.now
