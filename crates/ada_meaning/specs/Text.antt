-- What the run's words print.

use Rattle.std.specs.Prelude.{ℕ, List, codes}
use Rattle.ada_meaning.specs.declared.event.Why.{Why}
use Rattle.ada_meaning.specs.declared.event.Why.TheVariants.{FollowsGone, EndsTwice, GivesElsewhere, FinalizesTwice}

-- The number of what would be erroneous.
abbrev pub why_text : Why → List ℕ
why_text FollowsGone = codes "E1"
why_text EndsTwice = codes "E2"
why_text GivesElsewhere = codes "E3"
why_text FinalizesTwice = codes "E4"
