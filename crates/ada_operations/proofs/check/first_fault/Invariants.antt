use Rattle.ada_operations.specs.View.{IsFirst, found_form}
use Rattle.ada_operations.proofs.Checking.{Below}
use Rattle.ada_program.specs.ProgramForm.{program_form}
use Rattle.ada_operations.proofs.check.first_fault.Given as goal

-- the first one of the types so far
abbrev pub invariant-types : goal.invariant-types
invariant-types l = IsFirst (Below (program_form l.program) l.number) (found_form l.first)
