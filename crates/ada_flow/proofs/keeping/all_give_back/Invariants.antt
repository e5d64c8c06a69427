use Rattle.std.proofs.Common.{◌≡◌, drop, map}
use Rattle.ada_flow.specs.Flow.{all_give_back}
use Rattle.ada_flow.specs.Told.{variable_number}
use Rattle.ada_flow.proofs.keeping.all_give_back.Given as goal

-- what is left tells of all
abbrev pub invariant-owed : goal.invariant-owed
invariant-owed l = all_give_back (map variable_number (drop l.formal-index l.owed)) l.holds ≡ all_give_back (map variable_number l.owed) l.holds
