use Rattle.ada_program.specs.ProgramForm.{program_form}
use Rattle.ada_quiet.specs.First.{IsFirst}
use Rattle.ada_quiet.proofs.Unused.{Below}
use Rattle.ada_quiet.proofs.first.first_uncallable.Given as goal

-- the first one of the types so far
abbrev pub invariant-types : goal.invariant-types
invariant-types l = IsFirst (Below (program_form l.program) l.number) l.first
