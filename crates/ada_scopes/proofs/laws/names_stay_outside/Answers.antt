-- What a component names lies in the one collection of its type.
use Rattle.ada_scopes.proofs.Components.{outside, innermost_unnamed}
use Rattle.ada_scopes.proofs.laws.names_stay_outside.Goals as goal

pub returns-clause-home : goal.returns-clause-home
returns-clause-home c = outside

pub returns-clause-innermost : goal.returns-clause-innermost
returns-clause-innermost c = innermost_unnamed
