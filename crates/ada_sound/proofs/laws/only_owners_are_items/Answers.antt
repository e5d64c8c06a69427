-- By what each item moves, behind the items before it.
use Rattle.ada_sound.proofs.ItemMoves as moves
use Rattle.ada_sound.proofs.laws.only_owners_are_items.Goals as goal

pub returns-clause-owner : goal.returns-clause-owner
returns-clause-owner c = moves.only_owners_are_items

pub returns-clause-once : goal.returns-clause-once
returns-clause-once c = moves.items_move_apart

pub returns-clause-nothing_after : goal.returns-clause-nothing_after
returns-clause-nothing_after c = moves.items_own_nothing

pub returns-clause-unchanged_where_raised : goal.returns-clause-unchanged_where_raised
returns-clause-unchanged_where_raised c = moves.items_stay_where_raised

pub returns-clause-nothing_by_default : goal.returns-clause-nothing_by_default
returns-clause-nothing_by_default c = moves.defaults_move_nothing

pub returns-clause-default_unchanged_where_raised : goal.returns-clause-default_unchanged_where_raised
returns-clause-default_unchanged_where_raised c = moves.defaults_stay_where_raised
