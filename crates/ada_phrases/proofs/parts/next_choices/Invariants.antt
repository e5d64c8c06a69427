use Rattle.std.proofs.Common.{◌≤◌, length, map}
use Rattle.ada_text.specs.Token.{delimiter, lexemes_of}
use Rattle.ada_text.specs.declared.delimiter.Delimiter.TheVariants.{Bar}
use Rattle.ada_tree.specs.Declarations.{choice_of}
use Rattle.ada_reader.specs.Step.{at, all_of}
use Rattle.ada_phrases.specs.Declarations.{next_choice_at}
use Rattle.ada_phrases.proofs.Loop.{Going}
use Rattle.ada_phrases.proofs.parts.next_choices.Given as goal

abbrev pub invariant-choices : goal.invariant-choices
invariant-choices l = record {
  shorter : length l.reader.tokens.now ≤ length l.fn.reader.tokens.now;
  read : Going (at (delimiter Bar)) next_choice_at (map choice_of l.found.items) l.reader.tokens.now (all_of (at (delimiter Bar)) next_choice_at (lexemes_of l.fn.reader.tokens.now));
}

abbrev pub decreases-choices : goal.decreases-choices
decreases-choices l = length l.reader.tokens.now
