use Rattle.std.proofs.Common.{◌≡◌, List, ◌∷◌, map, sym, subst, arith}
use Rattle.std.proofs.lemmas.Grind.{common_steps}
use Rattle.ada_program.specs.Form.{stmts_form, branches_form}
use Rattle.ada_program.specs.ProgramForm.{body_forms}
use Rattle.ada_meaning.specs.declared.state.Value.{Value}
use Rattle.ada_meaning.specs.Frame.{Frame}
use Rattle.ada_meaning.specs.Frame as frame
use Rattle.ada_meaning.specs.Step as step
use Rattle.ada_meaning.specs.Named.{named}
use Rattle.ada_interpreter.specs.CommonSteps.{MayGoOn}
use Rattle.ada_interpreter.specs.Process.{frame_of, state_of}
use Rattle.ada_interpreter.proofs.CommonStepLemmas.{may_once}
use Rattle.ada_interpreter.proofs.process.Process.decide_or_go_on.Goals as goal

pub returns-in-Some-Decides-clause-steps : goal.returns-in-Some-Decides-clause-steps
returns-in-Some-Decides-clause-steps c program runs =
    let w = c.in-Some-Decides in
    let k = map frame_of c.args.self.now.frames in
    let first : k ≡ frame.Decides (stmts_form w.statements.now) (branches_form w.branches.now (stmts_form w.otherwise.now)) ∷ step.older k = grind (arith, common_steps, c.top.ensures, w.is, w.field-0-is, w.ensures) in
    subst (λ (k' : List (Frame Value)). MayGoOn program (step.running_next named program.types.items (body_forms program) k' (state_of c.args.self.now)) c.args.self.now c.decide_next.result c.decide_next.new.self) (sym first)
    (c.decide_next.ensures program runs)

pub returns-in_default-clause-steps : goal.returns-in_default-clause-steps
returns-in_default-clause-steps c program runs =
    may_once program (step.running_next named program.types.items (body_forms program) (map frame_of c.args.self.now.frames) (state_of c.args.self.now)) c.args.self.now c.go_on_by_one.result c.go_on_by_one.new.self
    (c.go_on_by_one.ensures.steps program.types.items (body_forms program))
