use Rattle.std.proofs.Common.{◌≡◌, drop}
use Rattle.ada_program.specs.Kept.{profiles_in, types_in}
use Rattle.ada_program.specs.WellFormed.{have_operations}
use Rattle.ada_program.proofs.operations.have_operations.Given as goal

-- what is left tells of all
abbrev pub invariant-loop-number : goal.invariant-loop-number
invariant-loop-number l =
    have_operations (types_in l.types) (profiles_in l.procedures) l.number (types_in (drop l.number l.types))
    ≡ have_operations (types_in l.types) (profiles_in l.procedures) 0 (types_in l.types)
