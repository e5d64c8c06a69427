use Rattle.ada_program.specs.ProgramForm.{program_form}
use Rattle.ada_quiet.specs.First.{IsFirst}
use Rattle.ada_rounds.proofs.Asking.{Below}
use Rattle.ada_rounds.proofs.first.first_among.Given as goal

-- the first one of the types so far
abbrev pub invariant-types : goal.invariant-types
invariant-types l = IsFirst (Below (program_form l.program) l.number) l.first
