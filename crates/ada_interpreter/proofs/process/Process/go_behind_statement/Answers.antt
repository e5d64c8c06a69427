use Rattle.std.proofs.Common.{◌≡◌, ap, sym, ◌∙◌}
use Rattle.std.proofs.lemmas.Result.{on_ok_weaker}
use Rattle.ada_program.specs.Form.{stmts_form}
use Rattle.ada_meaning.specs.Frame as frame
use Rattle.ada_meaning.specs.Step as step
use Rattle.ada_interpreter.specs.Process.{state_of, replaced}
use Rattle.ada_interpreter.proofs.AtOnceLemmas.{some_left}
use Rattle.ada_interpreter.proofs.process.Process.go_behind_statement.Goals as goal

pub returns-else-is_empty : goal.returns-else-is_empty
returns-else-is_empty c =
    let old = state_of c.args.self.now in
    let some = sym c.is_empty.ensures ∙ c.if-is_empty.false in
    on_ok_weaker c.replace.result
    (λ (new : state_of c.replace.new.self ≡ replaced (frame.Does (stmts_form c.args.rest.now)) old). new ∙ ap (λ k. step.at k old) (some_left c.args.rest.now (step.older old.control) some))
    c.replace.ensures
