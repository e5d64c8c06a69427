use Rattle.std.proofs.Common.{◌≡◌, map, ◌∙◌, subst}
use Rattle.ada_program.specs.ProgramForm.{body_forms}
use Rattle.ada_meaning.specs.Step as step
use Rattle.ada_meaning.specs.Named.{named}
use Rattle.ada_interpreter.specs.declared.process.Process.{Process}
use Rattle.ada_interpreter.specs.CommonSteps.{MayGoOn, CallsNone}
use Rattle.ada_interpreter.specs.Process.{frame_of, state_of}
use Rattle.ada_interpreter.proofs.process.Process.go_on_commonly.Goals as goal

pub returns-in-Unknown-clause-steps : goal.returns-in-Unknown-clause-steps
returns-in-Unknown-clause-steps c program runs =
    let same : c.turn_at_once.new.self ≡ c.args.self.now = rw c.in-Unknown.is at (c.turn_at_once.ensures.steps program runs) in
    subst (λ (p : Process). MayGoOn program (step.running_next named program.types.items (body_forms program) (map frame_of p.frames) (state_of p)) p c.decide_or_go_on.result c.decide_or_go_on.new.self) same
    (c.decide_or_go_on.ensures.steps program (c.turn_at_once.ensures.mode ∙ runs))

pub returns-in-Unknown-clause-calls : goal.returns-in-Unknown-clause-calls
returns-in-Unknown-clause-calls c program runs =
    let same : c.turn_at_once.new.self ≡ c.args.self.now = rw c.in-Unknown.is at (c.turn_at_once.ensures.steps program runs) in
    subst (λ (p : Process). CallsNone program p c.decide_or_go_on.result) same (c.decide_or_go_on.ensures.calls program)
