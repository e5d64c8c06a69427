use Rattle.ada_text.specs.Token.{lexemes_of}
use Rattle.ada_parser.proofs.Whole.{is_found, is_refused}
use Rattle.ada_parser.proofs.parser.parse.Goals as goal

-- src/parser.rt:23:1
pub returns-clause-found : goal.returns-clause-found
returns-clause-found c = is_found (lexemes_of c.args.tokens.now) c.read_tokens.result c.read_tokens.ensures.found

-- src/parser.rt:23:1
pub returns-clause-refused : goal.returns-clause-refused
returns-clause-refused c = is_refused (lexemes_of c.args.tokens.now) c.read_tokens.result c.read_tokens.ensures.refused
