-- By what is left behind a call, and what comes back.
use Rattle.ada_sound.proofs.Callees as callees
use Rattle.ada_sound.proofs.laws.calls_forget_aliases.Goals as goal

pub returns-clause-no_alias : goal.returns-clause-no_alias
returns-clause-no_alias c = callees.call_leaves_no_alias

pub returns-clause-no_alias_where_raised : goal.returns-clause-no_alias_where_raised
returns-clause-no_alias_where_raised c = callees.raised_call_leaves_no_alias

pub returns-clause-owners_stay : goal.returns-clause-owners_stay
returns-clause-owners_stay c = callees.call_moves_nothing

pub returns-clause-owners_stay_where_raised : goal.returns-clause-owners_stay_where_raised
returns-clause-owners_stay_where_raised c = callees.raised_call_moves_nothing

pub returns-clause-only_owners : goal.returns-clause-only_owners
returns-clause-only_owners c = callees.only_owners_are_handed_over

pub returns-clause-handed_back : goal.returns-clause-handed_back
returns-clause-handed_back c = callees.call_hands_back

pub returns-clause-unkept : goal.returns-clause-unkept
returns-clause-unkept c = callees.unkept_own_nothing

pub returns-clause-others_stay : goal.returns-clause-others_stay
returns-clause-others_stay c = callees.call_keeps_others

pub returns-clause-others_stay_where_raised : goal.returns-clause-others_stay_where_raised
returns-clause-others_stay_where_raised c = callees.raised_call_keeps_others
