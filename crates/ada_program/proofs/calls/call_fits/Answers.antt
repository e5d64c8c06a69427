use Rattle.ada_program.proofs.Profiles.{profile_at}
use Rattle.ada_program.proofs.calls.call_fits.Goals as goal

-- the formal parameters tell the profile
pub returns-in-Some : goal.returns-in-Some
returns-in-Some c =
    let f = c.in-Some.ensures.lookup in
    rw (profile_at c.args.callable.now c.args.number c.in-Some.procedure.now f.3.0 (f.3.1 _)) c.suits.ensures
