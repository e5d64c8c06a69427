use Rattle.std.proofs.Common.{◌≤◌, length, map}
use Rattle.ada_text.specs.Token.{reserved, lexemes_of}
use Rattle.ada_text.specs.declared.word.Word.TheVariants.{End}
use Rattle.ada_tree.specs.Records.{component_of}
use Rattle.ada_reader.specs.Step.{not_at, all_of}
use Rattle.ada_phrases.specs.Records.{component_at}
use Rattle.ada_phrases.proofs.Loop.{Going}
use Rattle.ada_phrases.proofs.records.more_components.Given as goal

abbrev pub invariant-components : goal.invariant-components
invariant-components l = record {
  shorter : length l.reader.tokens.now ≤ length l.fn.reader.tokens.now;
  read : Going (not_at (reserved End)) component_at (map component_of l.found.items) l.reader.tokens.now (all_of (not_at (reserved End)) component_at (lexemes_of l.fn.reader.tokens.now));
}

abbrev pub decreases-components : goal.decreases-components
decreases-components l = length l.reader.tokens.now
