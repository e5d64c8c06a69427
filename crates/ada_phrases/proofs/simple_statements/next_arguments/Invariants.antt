use Rattle.std.proofs.Common.{◌≤◌, length, map}
use Rattle.ada_text.specs.Token.{delimiter, lexemes_of}
use Rattle.ada_text.specs.declared.delimiter.Delimiter.TheVariants.{Comma}
use Rattle.ada_tree.specs.ExpressionView.{argument_of}
use Rattle.ada_reader.specs.Step.{at, all_of}
use Rattle.ada_phrases.specs.Statements.{next_argument_at}
use Rattle.ada_phrases.proofs.Loop.{Going}
use Rattle.ada_phrases.proofs.simple_statements.next_arguments.Given as goal

abbrev pub invariant-arguments : goal.invariant-arguments
invariant-arguments l = record {
  shorter : length l.reader.tokens.now ≤ length l.fn.reader.tokens.now;
  read : Going (at (delimiter Comma)) (next_argument_at l.fn.room) (map argument_of l.found.items) l.reader.tokens.now (all_of (at (delimiter Comma)) (next_argument_at l.fn.room) (lexemes_of l.fn.reader.tokens.now));
}

abbrev pub decreases-arguments : goal.decreases-arguments
decreases-arguments l = length l.reader.tokens.now
