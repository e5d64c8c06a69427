use Rattle.std.proofs.Common.{◌≡◌, ◌==◌, ◌∷◌, true, false, length, refl, sym, ap, ◌∙◌, arith}
use Rattle.std.proofs.lemmas.Grind.{common_steps}
use Rattle.std.specs.Prelude.{pos, ◌+ℤ◌, int_le}
use Rattle.ada_program.specs.Form.{stmts_form}
use Rattle.ada_meaning.specs.Frame as frame
use Rattle.ada_meaning.specs.Step as step
use Rattle.ada_interpreter.specs.Process.{state_of, passed, pushed}
use Rattle.ada_interpreter.proofs.AtOnceLemmas.{counts_turn, counts_done, comes_to, same_control, older_control}
use Rattle.ada_interpreter.proofs.CommonStepLemmas.{goes_once}
use Rattle.ada_interpreter.proofs.process.Process.count_at_once.Goals as goal

pub returns-then-value-last-clause-steps : goal.returns-then-value-last-clause-steps
returns-then-value-last-clause-steps c program runs =
    let w = c.args in
    let s = state_of c.args.self.now in
    let k = step.older s.control in
    let fs = stmts_form w.statements.now in
    let value = w.value +ℤ pos 1 in
    let first : s.control ≡ frame.Counts w.parameter.0 value w.last fs ∷ k = same_control c.requires ∙ ap (λ ks. frame.Counts w.parameter.0 value w.last fs ∷ ks) (older_control c.args.self.now.frames) in
    let past : int_le value w.last ≡ false = grind (arith, common_steps, c.if-value-last.true) in
    rw (c.shorten.ensures, older_control c.args.self.now.frames)
    (comes_to program s (frame.Counts w.parameter.0 value w.last fs) k runs first refl refl (passed s)
    (goes_once (sym (counts_done w.parameter.0 value w.last fs (passed s) past))))

pub returns-clause-steps : goal.returns-clause-steps
returns-clause-steps c program runs =
    let w = c.args in
    let s = state_of c.args.self.now in
    let k = step.older s.control in
    let fs = stmts_form w.statements.now in
    let value = w.value +ℤ pos 1 in
    let first : s.control ≡ frame.Counts w.parameter.0 value w.last fs ∷ k = same_control c.requires ∙ ap (λ ks. frame.Counts w.parameter.0 value w.last fs ∷ ks) (older_control c.args.self.now.frames) in
    let up : int_le value w.last ≡ true = grind (arith, common_steps, c.if-value-last.false) in
    let some : (length w.statements.now == 0) ≡ false = sym c.is_empty.ensures ∙ c.if-is_empty.false in (
      grind (arith, common_steps, some),
      comes_to program s (frame.Counts w.parameter.0 value w.last fs) k runs first refl refl (pushed (frame.Does fs) (state_of c.put.new.self))
          (goes_once (grind (arith, common_steps, c.put.ensures.state, c.set_count.ensures, c.requires, older_control c.args.self.now.frames, counts_turn w.parameter.0 value w.last w.statements.now (passed s) up some))),
    )
