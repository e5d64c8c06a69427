-- By what the rules ask of the paths.
use Rattle.std.proofs.Common.{refl}
use Rattle.ada_sound.proofs.ImplicitCalls as calls
use Rattle.ada_sound.proofs.laws.implicit_calls_spare_what_waits.Goals as goal

pub returns-clause-new_object : goal.returns-clause-new_object
returns-clause-new_object c = calls.starts_spare_the_target

pub returns-clause-assigned : goal.returns-clause-assigned
returns-clause-assigned c = calls.assignments_spare_the_target

pub returns-clause-copied : goal.returns-clause-copied
returns-clause-copied c = calls.assignments_spare_the_source

pub returns-clause-freed : goal.returns-clause-freed
returns-clause-freed c = calls.frees_spare_the_way

pub returns-clause-let_through : goal.returns-clause-let_through
returns-clause-let_through c = refl

pub returns-clause-refused : goal.returns-clause-refused
returns-clause-refused c = refl
