use Rattle.std.proofs.Common.{rules, ◌≡◌, [], not, sym, ap, ◌∙◌, arith}
use Rattle.std.proofs.lemmas.Result.{err_from_is_err_and}
use Rattle.ada_tree.specs.StatementView.{branch_of, declaration_of, handler_of, statement_of}
use Rattle.ada_phrases.specs.Statements.{declaration_at, declarations_at, declarations_in}
use Rattle.ada_phrases.proofs.Loop.{begins_list, goes_on_push, ends, is_done}
use Rattle.ada_phrases.proofs.+nesting.Goals as goal

pub handlers::read_more_handlers-handlers-init : goal.handlers::read_more_handlers-handlers-init
handlers::read_more_handlers-handlers-init t c =
    let e : c.new-found.result.items ≡ [] = search rules in
    record { shorter = omega arith; read = begins_list handler_of e }

pub handlers::read_more_handlers-returns-in_err-next-clause-read : goal.handlers::read_more_handlers-returns-in_err-next-clause-read
handlers::read_more_handlers-returns-in_err-next-clause-read t c =
    let p = err_from_is_err_and c.from_residual.result c.from_residual.ensures.1 in
    rw (p.1, p.2) (ends c.in_err-next.field-0.0 c.read_handler.new.reader.tokens.now c.handlers.invariant.read (sym c.is_at_word.ensures ∙ c.handlers-test.true) c.in_err-next.ensures.read)

pub handlers::read_more_handlers-handlers-preserved : goal.handlers::read_more_handlers-handlers-preserved
handlers::read_more_handlers-handlers-preserved t c = record {
  shorter = omega (arith, c.in_ok-next.ensures.shorter);
  read = goes_on_push handler_of c.handlers.found.items c.in_ok-next.next.value c.in_ok-add.ensures.items c.handlers.invariant.read (sym c.is_at_word.ensures ∙ c.handlers-test.true) c.in_ok-next.ensures.read c.in_ok-next.ensures.shorter;
}

pub handlers::read_more_handlers-returns-clause-read : goal.handlers::read_more_handlers-returns-clause-read
handlers::read_more_handlers-returns-clause-read t c = is_done c.handlers.invariant.read (sym c.is_at_word.ensures ∙ c.handlers-test.false)

pub procedures::read_declarations-declarations-init : goal.procedures::read_declarations-declarations-init
unfolding declarations_at declarations_in declaration_at
procedures::read_declarations-declarations-init t c =
    let e : c.new-found.result.items ≡ [] = search rules in
    record { shorter = omega arith; read = begins_list declaration_of e }

pub procedures::read_declarations-returns-in_err-next-clause-read : goal.procedures::read_declarations-returns-in_err-next-clause-read
procedures::read_declarations-returns-in_err-next-clause-read t c =
    let p = err_from_is_err_and c.from_residual.result c.from_residual.ensures.1 in
    rw (p.1, p.2) (ends c.in_err-next.field-0.0 c.read_declaration.new.reader.tokens.now c.declarations.invariant.read (ap not (sym c.is_at_word.ensures ∙ c.declarations-test.true)) c.in_err-next.ensures.read)

pub procedures::read_declarations-declarations-preserved : goal.procedures::read_declarations-declarations-preserved
procedures::read_declarations-declarations-preserved t c = record {
  shorter = omega (arith, c.in_ok-next.ensures.shorter);
  read = goes_on_push declaration_of c.declarations.found.items c.in_ok-next.next.value c.in_ok-add.ensures.items c.declarations.invariant.read (ap not (sym c.is_at_word.ensures ∙ c.declarations-test.true)) c.in_ok-next.ensures.read c.in_ok-next.ensures.shorter;
}

pub procedures::read_declarations-returns-clause-read : goal.procedures::read_declarations-returns-clause-read
procedures::read_declarations-returns-clause-read t c = is_done c.declarations.invariant.read (ap not (sym c.is_at_word.ensures ∙ c.declarations-test.false))

pub statements::read_more_branches-branches-init : goal.statements::read_more_branches-branches-init
statements::read_more_branches-branches-init t c =
    let e : c.new-found.result.items ≡ [] = search rules in
    record { shorter = omega arith; read = begins_list branch_of e }

pub statements::read_more_branches-returns-in_err-next-clause-read : goal.statements::read_more_branches-returns-in_err-next-clause-read
statements::read_more_branches-returns-in_err-next-clause-read t c =
    let p = err_from_is_err_and c.from_residual.result c.from_residual.ensures.1 in
    rw (p.1, p.2) (ends c.in_err-next.field-0.0 c.read_next_branch.new.reader.tokens.now c.branches.invariant.read (sym c.is_at_word.ensures ∙ c.branches-test.true) c.in_err-next.ensures.read)

pub statements::read_more_branches-branches-preserved : goal.statements::read_more_branches-branches-preserved
statements::read_more_branches-branches-preserved t c = record {
  shorter = omega (arith, c.in_ok-next.ensures.shorter);
  read = goes_on_push branch_of c.branches.found.items c.in_ok-next.next.value c.in_ok-add.ensures.items c.branches.invariant.read (sym c.is_at_word.ensures ∙ c.branches-test.true) c.in_ok-next.ensures.read c.in_ok-next.ensures.shorter;
}

pub statements::read_more_branches-returns-clause-read : goal.statements::read_more_branches-returns-clause-read
statements::read_more_branches-returns-clause-read t c = is_done c.branches.invariant.read (sym c.is_at_word.ensures ∙ c.branches-test.false)

pub statements::read_more_statements-statements-init : goal.statements::read_more_statements-statements-init
statements::read_more_statements-statements-init t c =
    let e : c.new-found.result.items ≡ [] = search rules in
    record { shorter = omega arith; read = begins_list statement_of e }

pub statements::read_more_statements-returns-in_err-next-clause-read : goal.statements::read_more_statements-returns-in_err-next-clause-read
statements::read_more_statements-returns-in_err-next-clause-read t c =
    let p = err_from_is_err_and c.from_residual.result c.from_residual.ensures.1 in
    rw (p.1, p.2) (ends c.in_err-next.field-0.0 c.read_statement.new.reader.tokens.now c.statements.invariant.read (ap not (sym c.is_at_end.ensures ∙ c.statements-test.true)) c.in_err-next.ensures.read)

pub statements::read_more_statements-statements-preserved : goal.statements::read_more_statements-statements-preserved
statements::read_more_statements-statements-preserved t c = record {
  shorter = omega (arith, c.in_ok-next.ensures.shorter);
  read = goes_on_push statement_of c.statements.found.items c.in_ok-next.next.value c.in_ok-add.ensures.items c.statements.invariant.read (ap not (sym c.is_at_end.ensures ∙ c.statements-test.true)) c.in_ok-next.ensures.read c.in_ok-next.ensures.shorter;
}

pub statements::read_more_statements-returns-clause-read : goal.statements::read_more_statements-returns-clause-read
statements::read_more_statements-returns-clause-read t c = is_done c.statements.invariant.read (ap not (sym c.is_at_end.ensures ∙ c.statements-test.false))
