use Rattle.std.proofs.Common.{◌≤◌, length, map}
use Rattle.ada_text.specs.Token.{delimiter, lexemes_of}
use Rattle.ada_text.specs.declared.delimiter.Delimiter.TheVariants.{Semicolon}
use Rattle.ada_tree.specs.Declarations.{formal_of}
use Rattle.ada_reader.specs.Step.{at, all_of}
use Rattle.ada_phrases.specs.Declarations.{next_formal_at}
use Rattle.ada_phrases.proofs.Loop.{Going}
use Rattle.ada_phrases.proofs.parts.next_formals.Given as goal

abbrev pub invariant-formals : goal.invariant-formals
invariant-formals l = record {
  shorter : length l.reader.tokens.now ≤ length l.fn.reader.tokens.now;
  read : Going (at (delimiter Semicolon)) next_formal_at (map formal_of l.found.items) l.reader.tokens.now (all_of (at (delimiter Semicolon)) next_formal_at (lexemes_of l.fn.reader.tokens.now));
}

abbrev pub decreases-formals : goal.decreases-formals
decreases-formals l = length l.reader.tokens.now
