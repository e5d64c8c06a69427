use Rattle.std.proofs.Common.{◌≡◌, [], ◌∷◌, refl, ap, sym, subst, arith}
use Rattle.std.proofs.lemmas.Grind.{common_steps}
use Rattle.ada_program.specs.Form.{path_form, right_form, skips_form, assigns_form, exits_form}
use Rattle.ada_meaning.specs.declared.state.Value.TheVariants.{Scalar}
use Rattle.ada_meaning.specs.Frame as frame
use Rattle.ada_meaning.specs.Step as step
use Rattle.ada_meaning.specs.Named.{named}
use Rattle.ada_interpreter.specs.CommonSteps.{GoesOn}
use Rattle.ada_interpreter.specs.Process.{state_of}
use Rattle.ada_interpreter.proofs.AtOnceLemmas.{assigned_right}
use Rattle.ada_interpreter.proofs.CommonStepLemmas.{goes_once}
use Rattle.ada_interpreter.proofs.process.Process.do_at_once.Goals as goal

pub returns-in-Null-clause-done : goal.returns-in-Null-clause-done
returns-in-Null-clause-done c program fs k runs = rw (c.in-Null.is, skips_form) (goes_once refl)

pub returns-in-Some-clause-done : goal.returns-in-Some-clause-done
returns-in-Some-clause-done c program fs k runs =
    let known = rw c.in-Some.is at c.right_at_once.ensures in
    let s = step.at (frame.Does fs ∷ k) (state_of c.args.self.now) in
    let x = c.in-Assign.target.root.0 in
    let right = right_form c.in-Assign.value in
    let v = Scalar c.in-Some.value in
    let last : step.at (frame.Does fs ∷ k) (state_of c.put.new.self) ≡ step.put x v s = ap (step.at (frame.Does fs ∷ k)) c.put.ensures.state in
    let none : (path_form c.in-Assign.target).selectors ≡ [] = grind (arith, common_steps, c.is_empty.ensures, c.if-is_empty.true) in
    rw (c.in-Assign.is, assigns_form c.in-Assign.target c.in-Assign.value)
    (subst (GoesOn program (step.assign_next named (path_form c.in-Assign.target).selectors x right s)) (sym last)
    (subst (λ cs. GoesOn program (step.assign_next named cs x right s) (step.put x v s)) (sym none)
    (assigned_right program s right c.in-Some.value runs known.0 known.1 x)))

pub returns-in-Exit-clause-done : goal.returns-in-Exit-clause-done
returns-in-Exit-clause-done c program fs k runs =
    let on = rw c.as_ref.ensures.value at (c.stays_at_once.ensures program (frame.Does fs ∷ k) c.if-stays_at_once.true runs) in
    rw (c.in-Exit.is, exits_form c.in-Exit.condition c.in-Exit.spot) on
