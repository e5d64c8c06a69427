use Rattle.ada_program.proofs.Profiles.{profile_at}
use Rattle.ada_program.proofs.operations.overrides_rightly.Goals as goal

-- the formal parameters tell the profile
pub returns-in-Some-get : goal.returns-in-Some-get
returns-in-Some-get c =
    let f = c.in-Some-get.ensures.lookup in
    rw (c.in-Some.is, profile_at c.args.procedures.now c.in-Some.procedure.0 c.in-Some-get.procedure.now f.3.0 (f.3.1 _)) c.is_operation.ensures
