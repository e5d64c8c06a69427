use Rattle.std.proofs.Common.{◌≤◌, length, map}
use Rattle.ada_text.specs.Token.{reserved, lexemes_of}
use Rattle.ada_text.specs.declared.word.Word.TheVariants.{With}
use Rattle.ada_tree.specs.Declarations.{clause_of}
use Rattle.ada_reader.specs.Step.{at, all_of}
use Rattle.ada_phrases.specs.Declarations.{clause_at}
use Rattle.ada_phrases.proofs.Loop.{Going}
use Rattle.ada_phrases.proofs.parts.read_clauses.Given as goal

abbrev pub invariant-clauses : goal.invariant-clauses
invariant-clauses l = record {
  shorter : length l.reader.tokens.now ≤ length l.fn.reader.tokens.now;
  read : Going (at (reserved With)) clause_at (map clause_of l.found.items) l.reader.tokens.now (all_of (at (reserved With)) clause_at (lexemes_of l.fn.reader.tokens.now));
}

abbrev pub decreases-clauses : goal.decreases-clauses
decreases-clauses l = length l.reader.tokens.now
