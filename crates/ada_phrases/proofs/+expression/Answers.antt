use Rattle.std.proofs.Common.{◌≡◌, [], ◌∷◌, ◌++◌, map, Ok, sym, ap, ◌∙◌, arith}
use Rattle.std.proofs.lemmas.Result.{err_from_is_err_and}
use Rattle.ada_text.specs.Token.{lexemes_of}
use Rattle.ada_tree.specs.Expressions.{ItemsTree}
use Rattle.ada_tree.specs.ExpressionView.{item_of}
use Rattle.ada_phrases.proofs.Inside.{items_behind, items_viewed}
use Rattle.ada_phrases.proofs.Loop.{begins_chain, joins_on, lacks_operator, lacks_item, is_joined, resumes, goes_on_push, ends, is_done, stops_mapped}
use Rattle.ada_phrases.specs.Expressions.{items_from, sum_from, term_from}
use Rattle.ada_phrases.specs.Phrases.{more_items_at}
use Rattle.ada_phrases.proofs.+expression.Goals as goal

pub expressions::read_sum_behind-terms-init : goal.expressions::read_sum_behind-terms-init
expressions::read_sum_behind-terms-init t c = record { shorter = omega arith; read = begins_chain _ _ _ _ _ _ }

pub expressions::read_sum_behind-returns-in_err-operator-clause-read :
    goal.expressions::read_sum_behind-returns-in_err-operator-clause-read
unfolding sum_from
expressions::read_sum_behind-returns-in_err-operator-clause-read t c =
    let p = err_from_is_err_and c.from_residual.result c.from_residual.ensures.1 in
    rw (p.1, p.2) (lacks_operator c.in_err-operator.field-0.0 c.read_adding.new.reader.tokens.now c.terms.invariant.read (sym c.is_at_adding.ensures ∙ c.terms-test.true) c.in_err-operator.ensures.read)

pub expressions::read_sum_behind-returns-in_err-right-clause-read :
    goal.expressions::read_sum_behind-returns-in_err-right-clause-read
unfolding sum_from
expressions::read_sum_behind-returns-in_err-right-clause-read t c =
    let p = err_from_is_err_and c.from_residual-in_err-right.result c.from_residual-in_err-right.ensures.1 in
    rw (p.1, p.2) (lacks_item c.in_err-right.field-0.0 c.read_adding.new.reader.tokens.now c.read_term.new.reader.tokens.now c.in_ok-operator.operator c.terms.invariant.read (sym c.is_at_adding.ensures ∙ c.terms-test.true) c.in_ok-operator.ensures.read c.in_err-right.ensures.read)

pub expressions::read_sum_behind-terms-preserved : goal.expressions::read_sum_behind-terms-preserved
expressions::read_sum_behind-terms-preserved t c = record {
  shorter = omega (arith, c.in_ok-operator.ensures.shorter, c.in_ok-right.ensures.shorter);
  read = rw c.in_ok-left.ensures (joins_on c.read_adding.new.reader.tokens.now c.terms.invariant.read (sym c.is_at_adding.ensures ∙ c.terms-test.true) c.in_ok-operator.ensures.read c.in_ok-right.ensures.read (omega (arith, c.in_ok-operator.ensures.shorter, c.in_ok-right.ensures.shorter)));
}

pub expressions::read_sum_behind-returns-clause-read : goal.expressions::read_sum_behind-returns-clause-read
unfolding sum_from
expressions::read_sum_behind-returns-clause-read t c = is_joined c.terms.invariant.read (sym c.is_at_adding.ensures ∙ c.terms-test.false)

pub expressions::read_term_behind-factors-init : goal.expressions::read_term_behind-factors-init
expressions::read_term_behind-factors-init t c = record { shorter = omega arith; read = begins_chain _ _ _ _ _ _ }

pub expressions::read_term_behind-returns-in_err-operator-clause-read :
    goal.expressions::read_term_behind-returns-in_err-operator-clause-read
unfolding term_from
expressions::read_term_behind-returns-in_err-operator-clause-read t c =
    let p = err_from_is_err_and c.from_residual.result c.from_residual.ensures.1 in
    rw (p.1, p.2) (lacks_operator c.in_err-operator.field-0.0 c.read_multiplying.new.reader.tokens.now c.factors.invariant.read (sym c.is_at_multiplying.ensures ∙ c.factors-test.true) c.in_err-operator.ensures.read)

pub expressions::read_term_behind-returns-in_err-right-clause-read :
    goal.expressions::read_term_behind-returns-in_err-right-clause-read
unfolding term_from
expressions::read_term_behind-returns-in_err-right-clause-read t c =
    let p = err_from_is_err_and c.from_residual-in_err-right.result c.from_residual-in_err-right.ensures.1 in
    rw (p.1, p.2) (lacks_item c.in_err-right.field-0.0 c.read_multiplying.new.reader.tokens.now c.read_factor.new.reader.tokens.now c.in_ok-operator.operator c.factors.invariant.read (sym c.is_at_multiplying.ensures ∙ c.factors-test.true) c.in_ok-operator.ensures.read c.in_err-right.ensures.read)

pub expressions::read_term_behind-factors-preserved : goal.expressions::read_term_behind-factors-preserved
expressions::read_term_behind-factors-preserved t c = record {
  shorter = omega (arith, c.in_ok-operator.ensures.shorter, c.in_ok-right.ensures.shorter);
  read = rw c.in_ok-left.ensures (joins_on c.read_multiplying.new.reader.tokens.now c.factors.invariant.read (sym c.is_at_multiplying.ensures ∙ c.factors-test.true) c.in_ok-operator.ensures.read c.in_ok-right.ensures.read (omega (arith, c.in_ok-operator.ensures.shorter, c.in_ok-right.ensures.shorter)));
}

pub expressions::read_term_behind-returns-clause-read : goal.expressions::read_term_behind-returns-clause-read
unfolding term_from
expressions::read_term_behind-returns-clause-read t c = is_joined c.factors.invariant.read (sym c.is_at_multiplying.ensures ∙ c.factors-test.false)

pub expressions::read_more_repeated-relations-init : goal.expressions::read_more_repeated-relations-init
expressions::read_more_repeated-relations-init t c = record { shorter = omega arith; read = begins_chain _ _ _ _ _ _ }

pub expressions::read_more_repeated-returns-in_err-operator-clause-read :
    goal.expressions::read_more_repeated-returns-in_err-operator-clause-read
expressions::read_more_repeated-returns-in_err-operator-clause-read t c =
    let p = err_from_is_err_and c.from_residual.result c.from_residual.ensures.1 in
    rw (p.1, p.2) (lacks_operator c.in_err-operator.field-0.0 c.read_again.new.reader.tokens.now c.relations.invariant.read (sym c.is_at_logical.ensures ∙ c.relations-test.true) c.in_err-operator.ensures.read)

pub expressions::read_more_repeated-returns-in_err-right-clause-read :
    goal.expressions::read_more_repeated-returns-in_err-right-clause-read
expressions::read_more_repeated-returns-in_err-right-clause-read t c =
    let p = err_from_is_err_and c.from_residual-in_err-right.result c.from_residual-in_err-right.ensures.1 in
    rw (p.1, p.2) (lacks_item c.in_err-right.field-0.0 c.read_again.new.reader.tokens.now c.read_relation.new.reader.tokens.now c.in_ok-operator.operator c.relations.invariant.read (sym c.is_at_logical.ensures ∙ c.relations-test.true) c.in_ok-operator.ensures.read c.in_err-right.ensures.read)

pub expressions::read_more_repeated-relations-preserved : goal.expressions::read_more_repeated-relations-preserved
expressions::read_more_repeated-relations-preserved t c = record {
  shorter = omega (arith, c.in_ok-operator.ensures.shorter, c.in_ok-right.ensures.shorter);
  read = rw c.in_ok-left.ensures (joins_on c.read_again.new.reader.tokens.now c.relations.invariant.read (sym c.is_at_logical.ensures ∙ c.relations-test.true) c.in_ok-operator.ensures.read c.in_ok-right.ensures.read (omega (arith, c.in_ok-operator.ensures.shorter, c.in_ok-right.ensures.shorter)));
}

pub expressions::read_more_repeated-returns-clause-read : goal.expressions::read_more_repeated-returns-clause-read
expressions::read_more_repeated-returns-clause-read t c = is_joined c.relations.invariant.read (sym c.is_at_logical.ensures ∙ c.relations-test.false)

pub items::read_more_items-items-init : goal.items::read_more_items-items-init
items::read_more_items-items-init t c = record { shorter = omega arith; read = resumes _ _ _ _ }

pub items::read_more_items-returns-in_err-next-clause-read :
    goal.items::read_more_items-returns-in_err-next-clause-read
unfolding more_items_at
items::read_more_items-returns-in_err-next-clause-read t c =
    let p = err_from_is_err_and c.from_residual.result c.from_residual.ensures.1 in
    rw (p.1, p.2) (stops_mapped c.in_err-next.field-0.0 items_from c.read_next_item.new.reader.tokens.now _ (ends c.in_err-next.field-0.0 c.read_next_item.new.reader.tokens.now c.items.invariant.read (sym c.is_at.ensures ∙ c.items-test.true) c.in_err-next.ensures.read))

pub items::read_more_items-items-preserved : goal.items::read_more_items-items-preserved
items::read_more_items-items-preserved t c = record {
  shorter = omega (arith, c.in_ok-next.ensures.shorter);
  read = goes_on_push item_of c.items.items.items c.in_ok-next.next.value c.in_ok-add.ensures.items c.items.invariant.read (sym c.is_at.ensures ∙ c.items-test.true) c.in_ok-next.ensures.read c.in_ok-next.ensures.shorter;
}

pub items::read_more_items-returns-clause-read : goal.items::read_more_items-returns-clause-read
unfolding more_items_at
items::read_more_items-returns-clause-read t c =
    let e = is_done c.items.invariant.read (sym c.is_at.ensures ∙ c.items-test.false) in
    rw e (ap (λ (xs : ItemsTree). Ok (xs, lexemes_of c.items.reader.tokens.now)) (items_viewed c.items.items.items))

pub items::read_items-returns-clause-read : goal.items::read_items-returns-clause-read
items::read_items-returns-clause-read t c =
    let m : map item_of c.add.new.items.items ≡ item_of c.in_ok-first.first.value ∷ [] = ap (map item_of) (c.in_ok-add.ensures.items ∙ ap (λ xs. xs ++ c.in_ok-first.first.value ∷ []) c.new-items.ensures.items) in
    let e = items_behind c.args.room (lexemes_of c.args.reader.now.tokens.now) (lexemes_of c.read_item.new.reader.tokens.now) (item_of c.in_ok-first.first.value) c.in_ok-first.ensures.read in
    rw (e, ← m) c.read_more_items.ensures.read
