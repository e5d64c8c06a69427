-- By what the rules ask of the paths, and by what is known of records.
use Rattle.std.proofs.Common.{refl}
use Rattle.ada_flow.proofs.Parts.{depths_are_enough}
use Rattle.ada_sound.proofs.ImplicitCalls as calls
use Rattle.ada_sound.proofs.laws.frees_spare_record_parameters.Goals as goal

pub returns-clause-freed : goal.returns-clause-freed
returns-clause-freed c = calls.frees_spare_the_formal

pub returns-clause-no_more : goal.returns-clause-no_more
returns-clause-no_more c = calls.safe_frees_are_let_through

pub returns-clause-depths : goal.returns-clause-depths
returns-clause-depths c = depths_are_enough

pub returns-clause-formals : goal.returns-clause-formals
returns-clause-formals c = calls.formals_are_anothers

pub returns-clause-declared : goal.returns-clause-declared
returns-clause-declared c = calls.declared_records_are_their_own

pub returns-clause-refused : goal.returns-clause-refused
returns-clause-refused c = refl

pub returns-clause-refused_around : goal.returns-clause-refused_around
returns-clause-refused_around c = refl

pub returns-clause-let_through : goal.returns-clause-let_through
returns-clause-let_through c = refl

pub returns-clause-object : goal.returns-clause-object
returns-clause-object c = refl

pub returns-clause-followed : goal.returns-clause-followed
returns-clause-followed c = refl
