use Rattle.std.proofs.Common.{rules, ◌≡◌, [], sym, ◌∙◌, arith}
use Rattle.std.proofs.lemmas.Result.{err_from_is_err_and}
use Rattle.ada_tree.specs.ExpressionView.{argument_of}
use Rattle.ada_phrases.proofs.Loop.{begins_list, goes_on_push, ends, is_done}
use Rattle.ada_phrases.proofs.simple_statements.next_arguments.Goals as goal

pub arguments-init : goal.arguments-init
arguments-init c =
    let e : c.new-found.result.items ≡ [] = search rules in
    record { shorter = omega arith; read = begins_list argument_of e }

pub returns-in_err-next-clause-read : goal.returns-in_err-next-clause-read
returns-in_err-next-clause-read c =
    let p = err_from_is_err_and c.from_residual.result c.from_residual.ensures.1 in
    rw (p.1, p.2) (ends c.in_err-next.field-0.0 c.next_argument.new.reader.tokens.now c.arguments.invariant.read (sym c.is_at.ensures ∙ c.arguments-test.true) c.in_err-next.ensures.read)

pub arguments-preserved : goal.arguments-preserved
arguments-preserved c = record {
  shorter = omega (arith, c.in_ok-next.ensures.shorter);
  read = goes_on_push argument_of c.arguments.found.items c.in_ok-next.next.value c.in_ok-add.ensures.items c.arguments.invariant.read (sym c.is_at.ensures ∙ c.arguments-test.true) c.in_ok-next.ensures.read c.in_ok-next.ensures.shorter;
}

pub returns-clause-read : goal.returns-clause-read
returns-clause-read c = is_done c.arguments.invariant.read (sym c.is_at.ensures ∙ c.arguments-test.false)
