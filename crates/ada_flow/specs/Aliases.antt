-- Whether a variable holds an alias.

use Rattle.std.specs.Prelude.{Bool, true, false, ◌||◌, not, List}
use Rattle.std.specs.List.{list_any}
use Rattle.ada_flow.specs.declared.rule.Hold.{Hold}
use Rattle.ada_flow.specs.declared.rule.Hold.TheVariants.{Null, Kept, Own, Alias, Lost}

-- A hold is an alias: its object may have an owner besides (3.10).
abbrev pub is_alias : Hold → Bool
is_alias Null = false
is_alias (Kept r) = false
is_alias (Own r) = false
is_alias (Alias r) = true
is_alias Lost = false

-- Where it is said that no variable holds an alias (3.10), none does.
abbrev pub tells_aliases : (aliased : Bool) → List Hold → Bool
tells_aliases aliased holds = aliased || not (list_any is_alias holds)
