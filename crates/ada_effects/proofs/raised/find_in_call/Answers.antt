use Rattle.ada_effects.proofs.Collected.{known_calls}
use Rattle.ada_effects.proofs.raised.find_in_call.Goals as goal

-- what is known of the calls of the procedure stands at its number
pub returns-in-Some : goal.returns-in-Some
returns-in-Some c =
    rw (known_calls c.args.effects.calls.now c.args.procedure.0 c.in-Some.effect.now c.in-Some.ensures.lookup.3.0 c.in-Some.ensures.lookup.1)
    (rw c.deref.ensures.value at c.add_all.ensures)
