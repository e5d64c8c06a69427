use Rattle.std.proofs.Common.{◌≤◌, ◌+◌, ◌-◌, ◌*◌, length, map}
use Rattle.ada_text.specs.Token.{lexemes_of, reserved}
use Rattle.ada_text.specs.declared.word.Word.TheVariants.{Begin, Elsif, When}
use Rattle.ada_tree.specs.StatementView.{branch_of, declaration_of, handler_of, statement_of}
use Rattle.ada_reader.specs.Step.{all_of, at, not_at}
use Rattle.ada_phrases.specs.Statements.{declaration_at, declarations_at, goes_on, handler_in, next_branch_in, statement_at, statements_at}
use Rattle.ada_phrases.proofs.Loop.{Going}
use Rattle.ada_phrases.proofs.+nesting.Given as goal

abbrev pub decreases-statements::read_branch : goal.decreases-statements::read_branch
decreases-statements::read_branch l = 32 * l.room + 0

abbrev pub decreases-statements::read_next_branch : goal.decreases-statements::read_next_branch
decreases-statements::read_next_branch l = 32 * l.room + 1

abbrev pub decreases-statements::read_more_branches : goal.decreases-statements::read_more_branches
decreases-statements::read_more_branches l = 32 * l.room + 2

abbrev pub decreases-statements::read_branches : goal.decreases-statements::read_branches
decreases-statements::read_branches l = 32 * l.room + 3

abbrev pub decreases-statements::read_if : goal.decreases-statements::read_if
decreases-statements::read_if l = 32 * l.room + 4

abbrev pub decreases-statements::read_loop : goal.decreases-statements::read_loop
decreases-statements::read_loop l = 32 * l.room + 4

abbrev pub decreases-statements::read_block : goal.decreases-statements::read_block
decreases-statements::read_block l = 32 * l.room + 4

abbrev pub decreases-statements::read_declare_block : goal.decreases-statements::read_declare_block
decreases-statements::read_declare_block l = 32 * l.room + 4

abbrev pub decreases-statements::read_statement : goal.decreases-statements::read_statement
decreases-statements::read_statement l = 32 * l.room + 5

abbrev pub decreases-statements::read_more_statements : goal.decreases-statements::read_more_statements
decreases-statements::read_more_statements l = 32 * l.room + 6

abbrev pub decreases-statements::read_statements : goal.decreases-statements::read_statements
decreases-statements::read_statements l = 32 * l.room + 7

abbrev pub decreases-statements::read_otherwise : goal.decreases-statements::read_otherwise
decreases-statements::read_otherwise l = 32 * l.room + 8

abbrev pub decreases-handlers::read_handler : goal.decreases-handlers::read_handler
decreases-handlers::read_handler l = 32 * l.room + 8

abbrev pub decreases-handlers::read_more_handlers : goal.decreases-handlers::read_more_handlers
decreases-handlers::read_more_handlers l = 32 * l.room + 9

abbrev pub decreases-handlers::read_handlers : goal.decreases-handlers::read_handlers
decreases-handlers::read_handlers l = 32 * l.room + 10

abbrev pub decreases-handlers::read_sequence : goal.decreases-handlers::read_sequence
decreases-handlers::read_sequence l = 32 * l.room + 11

abbrev pub decreases-handlers::read_begin : goal.decreases-handlers::read_begin
decreases-handlers::read_begin l = 32 * l.room + 12

abbrev pub decreases-procedures::read_with_formals : goal.decreases-procedures::read_with_formals
decreases-procedures::read_with_formals l = 32 * l.room + 0

abbrev pub decreases-procedures::read_behind_is : goal.decreases-procedures::read_behind_is
decreases-procedures::read_behind_is l = 32 * l.room + 0

abbrev pub decreases-procedures::read_behind_name : goal.decreases-procedures::read_behind_name
decreases-procedures::read_behind_name l = 32 * l.room + 1

abbrev pub decreases-procedures::read_procedure : goal.decreases-procedures::read_procedure
decreases-procedures::read_procedure l = 32 * l.room + 2

abbrev pub decreases-procedures::read_declaration : goal.decreases-procedures::read_declaration
decreases-procedures::read_declaration l = 32 * l.room + 3

abbrev pub decreases-procedures::read_declarations : goal.decreases-procedures::read_declarations
decreases-procedures::read_declarations l = 32 * l.room + 4

abbrev pub decreases-procedures::read_body : goal.decreases-procedures::read_body
decreases-procedures::read_body l = 32 * l.room + 13

abbrev pub decreases-procedures::read_behind_formals : goal.decreases-procedures::read_behind_formals
decreases-procedures::read_behind_formals l = 32 * l.room + 14

abbrev pub invariant-handlers::read_more_handlers-handlers : goal.invariant-handlers::read_more_handlers-handlers
invariant-handlers::read_more_handlers-handlers l = record {
  shorter : length l.reader.tokens.now ≤ length l.fn.reader.tokens.now;
  read : Going (at (reserved When)) (handler_in (statements_at l.fn.room)) (map handler_of l.found.items) l.reader.tokens.now (all_of (at (reserved When)) (handler_in (statements_at l.fn.room)) (lexemes_of l.fn.reader.tokens.now));
}

abbrev pub decreases-handlers::read_more_handlers-handlers : goal.decreases-handlers::read_more_handlers-handlers
decreases-handlers::read_more_handlers-handlers l = length l.reader.tokens.now

abbrev pub invariant-procedures::read_declarations-declarations : goal.invariant-procedures::read_declarations-declarations
invariant-procedures::read_declarations-declarations l = record {
  shorter : length l.reader.tokens.now ≤ length l.fn.reader.tokens.now;
  read : Going (not_at (reserved Begin)) (declaration_at l.fn.room) (map declaration_of l.found.items) l.reader.tokens.now (declarations_at l.fn.room (lexemes_of l.fn.reader.tokens.now));
}

abbrev pub decreases-procedures::read_declarations-declarations : goal.decreases-procedures::read_declarations-declarations
decreases-procedures::read_declarations-declarations l = length l.reader.tokens.now

abbrev pub invariant-statements::read_more_branches-branches : goal.invariant-statements::read_more_branches-branches
invariant-statements::read_more_branches-branches l = record {
  shorter : length l.reader.tokens.now ≤ length l.fn.reader.tokens.now;
  read : Going (at (reserved Elsif)) (next_branch_in l.fn.room (statements_at (l.fn.room - 1))) (map branch_of l.found.items) l.reader.tokens.now (all_of (at (reserved Elsif)) (next_branch_in l.fn.room (statements_at (l.fn.room - 1))) (lexemes_of l.fn.reader.tokens.now));
}

abbrev pub decreases-statements::read_more_branches-branches : goal.decreases-statements::read_more_branches-branches
decreases-statements::read_more_branches-branches l = length l.reader.tokens.now

abbrev pub invariant-statements::read_more_statements-statements : goal.invariant-statements::read_more_statements-statements
invariant-statements::read_more_statements-statements l = record {
  shorter : length l.reader.tokens.now ≤ length l.fn.reader.tokens.now;
  read : Going goes_on (statement_at l.fn.room) (map statement_of l.found.items) l.reader.tokens.now (all_of goes_on (statement_at l.fn.room) (lexemes_of l.fn.reader.tokens.now));
}

abbrev pub decreases-statements::read_more_statements-statements : goal.decreases-statements::read_more_statements-statements
decreases-statements::read_more_statements-statements l = length l.reader.tokens.now
