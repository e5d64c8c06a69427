use Rattle.std.proofs.Common.{◌-◌, ◌≤◌, ◌++◌, List, length}
use Rattle.ada_text.specs.declared.limits.TheConstants.{LONGEST_SOURCE}
use Rattle.ada_text.specs.Place.{StandsIn}
use Rattle.ada_text.specs.Gap.{next_start}
use Rattle.ada_text.specs.Token.{Lexeme, lexemes_of}
use Rattle.ada_text.specs.Reading.{Reads, Ending}
use Rattle.ada_text.proofs.scanner.tokens.Given as goal

-- whatever is read from here on is read behind the tokens found so far
abbrev pub invariant-loop-place : goal.invariant-loop-place
invariant-loop-place l = record {
  joins : (ts : List Lexeme) (end : Ending) → Reads l.source l.place.at ts end → Reads l.source (next_start l.source 0) (lexemes_of l.found.items ++ ts) end;
  stands : StandsIn l.source l.place;
  limit : length l.source ≤ LONGEST_SOURCE;
}

abbrev pub decreases-loop-place : goal.decreases-loop-place
decreases-loop-place l = length l.source - l.place.at
