use Rattle.ada_program.specs.ProgramForm.{program_form}
use Rattle.ada_quiet.specs.First.{IsFirst}
use Rattle.ada_circles.proofs.Asking.{Below}
use Rattle.ada_circles.proofs.first.first_circle.Given as goal

-- the first one of the procedures so far
abbrev pub invariant-procedures : goal.invariant-procedures
invariant-procedures l = IsFirst (Below (program_form l.program) l.number) l.first
