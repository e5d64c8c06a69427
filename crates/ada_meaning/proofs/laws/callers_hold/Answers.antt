-- By what each step makes of the activations.
use Rattle.ada_meaning.proofs.Callers as callers
use Rattle.ada_meaning.proofs.laws.callers_hold.Goals as goal

pub returns : goal.returns
returns c = callers.callers_hold
