use Rattle.std.proofs.Common.{◌≤◌, ◌+◌, ◌*◌, length, map}
use Rattle.ada_text.specs.Token.{delimiter, lexemes_of}
use Rattle.ada_text.specs.declared.delimiter.Delimiter.TheVariants.{Comma}
use Rattle.ada_tree.specs.ExpressionView.{expression_of, item_of}
use Rattle.ada_reader.specs.Step.{all_of, at, chain}
use Rattle.ada_reader.specs.Operators.{adding_at, at_adding, at_multiplying, multiplying_at}
use Rattle.ada_phrases.specs.Expressions.{beside}
use Rattle.ada_reader.specs.Operators.{again_at, first_word}
use Rattle.ada_phrases.specs.Phrases.{factor_at, next_item_at, relation_at, term_at}
use Rattle.ada_phrases.proofs.Loop.{Going, Joining, with_front}
use Rattle.ada_phrases.proofs.+expression.Given as goal

abbrev pub decreases-primaries::read_enclosed : goal.decreases-primaries::read_enclosed
decreases-primaries::read_enclosed l = 32 * l.room + 0

abbrev pub decreases-items::read_enclosed_items : goal.decreases-items::read_enclosed_items
decreases-items::read_enclosed_items l = 32 * l.room + 1

abbrev pub decreases-primaries::read_primary_led : goal.decreases-primaries::read_primary_led
decreases-primaries::read_primary_led l = 32 * l.room + 2

abbrev pub decreases-primaries::read_primary : goal.decreases-primaries::read_primary
decreases-primaries::read_primary l = 32 * l.room + 3

abbrev pub decreases-primaries::read_factor : goal.decreases-primaries::read_factor
decreases-primaries::read_factor l = 32 * l.room + 4

abbrev pub decreases-expressions::read_term_behind : goal.decreases-expressions::read_term_behind
decreases-expressions::read_term_behind l = 32 * l.room + 5

abbrev pub decreases-expressions::read_term : goal.decreases-expressions::read_term
decreases-expressions::read_term l = 32 * l.room + 6

abbrev pub decreases-expressions::read_first_term : goal.decreases-expressions::read_first_term
decreases-expressions::read_first_term l = 32 * l.room + 7

abbrev pub decreases-expressions::read_sum_behind : goal.decreases-expressions::read_sum_behind
decreases-expressions::read_sum_behind l = 32 * l.room + 8

abbrev pub decreases-expressions::read_sum : goal.decreases-expressions::read_sum
decreases-expressions::read_sum l = 32 * l.room + 9

abbrev pub decreases-expressions::read_relation_behind : goal.decreases-expressions::read_relation_behind
decreases-expressions::read_relation_behind l = 32 * l.room + 10

abbrev pub decreases-expressions::read_relation : goal.decreases-expressions::read_relation
decreases-expressions::read_relation l = 32 * l.room + 11

abbrev pub decreases-expressions::read_more_repeated : goal.decreases-expressions::read_more_repeated
decreases-expressions::read_more_repeated l = 32 * l.room + 12

abbrev pub decreases-expressions::read_repeated : goal.decreases-expressions::read_repeated
decreases-expressions::read_repeated l = 32 * l.room + 13

abbrev pub decreases-expressions::read_logical : goal.decreases-expressions::read_logical
decreases-expressions::read_logical l = 32 * l.room + 14

abbrev pub decreases-expressions::read_expression : goal.decreases-expressions::read_expression
decreases-expressions::read_expression l = 32 * l.room + 15

abbrev pub decreases-expressions::read_behind_primary : goal.decreases-expressions::read_behind_primary
decreases-expressions::read_behind_primary l = 32 * l.room + 16

abbrev pub decreases-expressions::read_expression_led : goal.decreases-expressions::read_expression_led
decreases-expressions::read_expression_led l = 32 * l.room + 17

abbrev pub decreases-items::read_item : goal.decreases-items::read_item
decreases-items::read_item l = 32 * l.room + 18

abbrev pub decreases-items::read_next_item : goal.decreases-items::read_next_item
decreases-items::read_next_item l = 32 * l.room + 19

abbrev pub decreases-items::read_more_items : goal.decreases-items::read_more_items
decreases-items::read_more_items l = 32 * l.room + 20

abbrev pub decreases-items::read_items : goal.decreases-items::read_items
decreases-items::read_items l = 32 * l.room + 21

abbrev pub invariant-items::read_more_items-items : goal.invariant-items::read_more_items-items
invariant-items::read_more_items-items l = record {
  shorter : length l.reader.tokens.now ≤ length l.fn.reader.tokens.now;
  read : Going (at (delimiter Comma)) (next_item_at l.fn.room) (map item_of l.items.items) l.reader.tokens.now (with_front (map item_of l.fn.items.items) (all_of (at (delimiter Comma)) (next_item_at l.fn.room) (lexemes_of l.fn.reader.tokens.now)));
}

abbrev pub decreases-items::read_more_items-items : goal.decreases-items::read_more_items-items
decreases-items::read_more_items-items l = length l.reader.tokens.now

abbrev pub invariant-expressions::read_more_repeated-relations : goal.invariant-expressions::read_more_repeated-relations
invariant-expressions::read_more_repeated-relations l = record {
  shorter : length l.reader.tokens.now ≤ length l.fn.reader.tokens.now;
  read : Joining (at (first_word l.fn.operator)) (again_at l.fn.operator) (relation_at l.fn.room) beside (expression_of l.left.value) l.reader.tokens.now (chain (at (first_word l.fn.operator)) (again_at l.fn.operator) (relation_at l.fn.room) beside (expression_of l.fn.first.value) (lexemes_of l.fn.reader.tokens.now));
}

abbrev pub decreases-expressions::read_more_repeated-relations : goal.decreases-expressions::read_more_repeated-relations
decreases-expressions::read_more_repeated-relations l = length l.reader.tokens.now

abbrev pub invariant-expressions::read_sum_behind-terms : goal.invariant-expressions::read_sum_behind-terms
invariant-expressions::read_sum_behind-terms l = record {
  shorter : length l.reader.tokens.now ≤ length l.fn.reader.tokens.now;
  read : Joining (at_adding) (adding_at) (term_at l.fn.room) beside (expression_of l.left.value) l.reader.tokens.now (chain at_adding adding_at (term_at l.fn.room) beside (expression_of l.fn.first.value) (lexemes_of l.fn.reader.tokens.now));
}

abbrev pub decreases-expressions::read_sum_behind-terms : goal.decreases-expressions::read_sum_behind-terms
decreases-expressions::read_sum_behind-terms l = length l.reader.tokens.now

abbrev pub invariant-expressions::read_term_behind-factors : goal.invariant-expressions::read_term_behind-factors
invariant-expressions::read_term_behind-factors l = record {
  shorter : length l.reader.tokens.now ≤ length l.fn.reader.tokens.now;
  read : Joining (at_multiplying) (multiplying_at) (factor_at l.fn.room) beside (expression_of l.left.value) l.reader.tokens.now (chain at_multiplying multiplying_at (factor_at l.fn.room) beside (expression_of l.fn.first.value) (lexemes_of l.fn.reader.tokens.now));
}

abbrev pub decreases-expressions::read_term_behind-factors : goal.decreases-expressions::read_term_behind-factors
decreases-expressions::read_term_behind-factors l = length l.reader.tokens.now
