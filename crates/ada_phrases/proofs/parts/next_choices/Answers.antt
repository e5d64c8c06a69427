use Rattle.std.proofs.Common.{rules, ◌≡◌, [], sym, ◌∙◌, arith}
use Rattle.std.proofs.lemmas.Result.{err_from_is_err_and}
use Rattle.ada_tree.specs.Declarations.{choice_of}
use Rattle.ada_phrases.proofs.Loop.{begins_list, goes_on_push, ends, is_done}
use Rattle.ada_phrases.proofs.parts.next_choices.Goals as goal

pub choices-init : goal.choices-init
choices-init c =
    let e : c.new-found.result.items ≡ [] = search rules in
    record { shorter = omega arith; read = begins_list choice_of e }

pub returns-in_err-next-clause-read : goal.returns-in_err-next-clause-read
returns-in_err-next-clause-read c =
    let p = err_from_is_err_and c.from_residual.result c.from_residual.ensures.1 in
    rw (p.1, p.2) (ends c.in_err-next.field-0.0 c.next_choice.new.reader.tokens.now c.choices.invariant.read (sym c.is_at.ensures ∙ c.choices-test.true) c.in_err-next.ensures.read)

pub choices-preserved : goal.choices-preserved
choices-preserved c = record {
  shorter = omega (arith, c.in_ok-next.ensures.shorter);
  read = goes_on_push choice_of c.choices.found.items c.in_ok-next.next c.in_ok-push.ensures.items c.choices.invariant.read (sym c.is_at.ensures ∙ c.choices-test.true) c.in_ok-next.ensures.read c.in_ok-next.ensures.shorter;
}

pub returns-clause-read : goal.returns-clause-read
returns-clause-read c = is_done c.choices.invariant.read (sym c.is_at.ensures ∙ c.choices-test.false)
