-- By the rule that a record breaks that is copied.
use Rattle.ada_sound.proofs.Plain as plain
use Rattle.ada_sound.proofs.laws.records_are_copied_plain.Goals as goal

pub returns-clause-assigned : goal.returns-clause-assigned
returns-clause-assigned c = plain.assigned_records_are_plain

pub returns-clause-assigned_items : goal.returns-clause-assigned_items
returns-clause-assigned_items c = plain.assigned_items_are_plain

pub returns-clause-allocated : goal.returns-clause-allocated
returns-clause-allocated c = plain.copied_items_are_plain

pub returns-clause-declared : goal.returns-clause-declared
returns-clause-declared c = plain.declared_records_are_plain

pub returns-clause-moves_nothing : goal.returns-clause-moves_nothing
returns-clause-moves_nothing c = plain.copies_move_nothing

pub returns-clause-unchanged_where_raised : goal.returns-clause-unchanged_where_raised
returns-clause-unchanged_where_raised c = plain.copies_stay_where_raised
