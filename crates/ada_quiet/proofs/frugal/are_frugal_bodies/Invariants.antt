use Rattle.std.proofs.Common.{◌≡◌, ◌++◌, map, drop}
use Rattle.ada_program.specs.ProgramForm.{body_form}
use Rattle.ada_quiet.specs.Frugal.{is_frugal_body}
use Rattle.ada_quiet.specs.Known.{thrift_in}
use Rattle.ada_quiet.proofs.frugal.are_frugal_bodies.Given as goal

-- what is told so far, and what is left, are told of all
abbrev pub invariant-procedures : goal.invariant-procedures
invariant-procedures l =
    l.frugal.items ++ map (is_frugal_body (thrift_in l.thrift)) (map body_form (drop l.procedure-index l.program.procedures.items))
    ≡ map (is_frugal_body (thrift_in l.thrift)) (map body_form l.program.procedures.items)
