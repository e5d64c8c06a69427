use Rattle.ada_text.proofs.PlaceLemmas.{StandsIn_run}
use Rattle.ada_text.proofs.place.Place.past.Goals as goal

pub returns-clause-stands : goal.returns-clause-stands
returns-clause-stands c = StandsIn_run _ c.args.self _ c.requires.here c.requires.more c.requires.on_line
