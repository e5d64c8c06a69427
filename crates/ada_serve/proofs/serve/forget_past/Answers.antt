use Rattle.std.proofs.Common.{sym, subst}
use Rattle.ada_meaning.specs.Named.{State}
use Rattle.ada_untouched.specs.Past.{StatesButForPast}
use Rattle.ada_interpreter.specs.Machine.{state_in}
use Rattle.ada_serve.proofs.Past.{same_state}
use Rattle.ada_serve.proofs.serve.forget_past.Goals as goal

pub returns-in-Back-clause-forgets : goal.returns-in-Back-clause-forgets
returns-in-Back-clause-forgets c =
    let before : State = state_in c.args.machine.now in
    subst (λ (after : State). StatesButForPast before after) (sym c.forget.ensures.state) (c.forgetting_changes_past_objects_alone.ensures c.in-Back.object before before (same_state before))
