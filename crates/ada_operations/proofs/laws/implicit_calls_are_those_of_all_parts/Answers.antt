use Rattle.ada_operations.proofs.Parts.{starts_raise, starts_free, adjusts_free, ends_free, ends_reach}
use Rattle.ada_operations.proofs.laws.implicit_calls_are_those_of_all_parts.Goals as goal

pub returns-clause-start_raises : goal.returns-clause-start_raises
returns-clause-start_raises c = starts_raise

pub returns-clause-start_frees : goal.returns-clause-start_frees
returns-clause-start_frees c = starts_free

pub returns-clause-adjust_frees : goal.returns-clause-adjust_frees
returns-clause-adjust_frees c = adjusts_free

pub returns-clause-end_frees : goal.returns-clause-end_frees
returns-clause-end_frees c = ends_free

pub returns-clause-end_reaches : goal.returns-clause-end_reaches
returns-clause-end_reaches c = ends_reach
