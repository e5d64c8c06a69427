-- By what is left where objects of some access types may be gone.
use Rattle.std.proofs.Common.{refl}
use Rattle.ada_sound.proofs.ImplicitCalls as calls
use Rattle.ada_sound.proofs.laws.implicit_calls_leave_no_alias.Goals as goal

pub returns-clause-freed : goal.returns-clause-freed
returns-clause-freed c = calls.finalized_free_leaves_no_alias

pub returns-clause-block : goal.returns-clause-block
returns-clause-block c = calls.ended_block_leaves_no_alias

pub returns-clause-declared_record : goal.returns-clause-declared_record
returns-clause-declared_record c = calls.declared_record_leaves_no_alias

pub returns-clause-declared_object : goal.returns-clause-declared_object
returns-clause-declared_object c = calls.declared_object_leaves_no_alias

pub returns-clause-freed_example : goal.returns-clause-freed_example
returns-clause-freed_example c = refl

pub returns-clause-block_example : goal.returns-clause-block_example
returns-clause-block_example c = refl

pub returns-clause-exit : goal.returns-clause-exit
returns-clause-exit c = calls.exits_leave_no_alias
