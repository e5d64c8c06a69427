use Rattle.ada_deeds.proofs.Seeking.{finds_freed}
use Rattle.ada_deeds.proofs.found.Found.free.Goals as goal

-- the access type is listed
pub returns-in_ok-push-in-Others-Some : goal.returns-in_ok-push-in-Others-Some
returns-in_ok-push-in-Others-Some c =
    finds_freed c.args.search c.args.access c.args.self.now c.push.new.self c.in-Others-Some.number c.in-Others-Some.is-0 c.in-Others-Some.is-1 c.in_ok-push-in-Others-Some.ensures.items
