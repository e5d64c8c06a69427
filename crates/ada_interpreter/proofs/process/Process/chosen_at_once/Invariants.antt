use Rattle.std.proofs.Common.{◌≡◌, length, List}
use Rattle.ada_program.specs.declared.program.Program.{Program}
use Rattle.ada_program.specs.Form.{stmts_form, branches_form}
use Rattle.ada_meaning.specs.declared.state.Value.{Value}
use Rattle.ada_meaning.specs.declared.state.Mode.TheVariants.{Running}
use Rattle.ada_meaning.specs.Frame.{Frame}
use Rattle.ada_meaning.specs.Step as step
use Rattle.ada_meaning.specs.Named.{State, named}
use Rattle.ada_interpreter.specs.CommonSteps.{GoesOn}
use Rattle.ada_interpreter.specs.Process.{state_of}
use Rattle.ada_interpreter.proofs.process.Process.chosen_at_once.Given as goal

-- where the branches that are left lead, all of them do
abbrev pub invariant-branches : goal.invariant-branches
invariant-branches l =
    (program : Program) (k : List (Frame Value)) (last : State) → l.self.mode ≡ Running →
    GoesOn program (step.branches_next named (branches_form l.left (stmts_form l.otherwise)) (step.at k (state_of l.self))) last →
    GoesOn program (step.branches_next named (branches_form l.branches (stmts_form l.otherwise)) (step.at k (state_of l.self))) last

abbrev pub decreases-branches : goal.decreases-branches
decreases-branches l = length l.left
