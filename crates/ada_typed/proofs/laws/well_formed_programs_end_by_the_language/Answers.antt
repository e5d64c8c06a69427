-- Each state of a run is typed.
use Rattle.ada_typed.proofs.Runs.{ends_by_the_language}
use Rattle.ada_typed.proofs.laws.well_formed_programs_end_by_the_language.Goals as goal

pub returns : goal.returns
returns c = ends_by_the_language
