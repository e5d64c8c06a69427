-- What is left of what variables hold as operations of controlled types are called (7.6), where the code loses aliases.

use Rattle.std.specs.Prelude.{ℕ, Bool, ◌||◌, List, Option, Some, None}
use Rattle.ada_effects.specs.Effects.{Implicit}
use Rattle.ada_effects.specs.Found.{has_number}
use Rattle.ada_flow.specs.Flow.{Holds, without_freed}
use Rattle.ada_program.specs.declared.program.TypeNo.{TypeNo}
use Rattle.ada_program.specs.Form.{RightForm, nothing, value_of, allocates, allocates_default, computes}
use Rattle.ada_program.specs.ProgramForm.{VariableForm}

-- Where a new object without items is initialized (4.8).
abbrev pub left_by_start : List VariableForm → Implicit → RightForm → Holds → Holds
left_by_start variables implicit nothing holds = holds
left_by_start variables implicit (value_of path) holds = holds
left_by_start variables implicit (allocates access items) holds = holds
left_by_start variables implicit (allocates_default access) holds = without_freed variables (implicit.start_frees access) holds
left_by_start variables implicit (computes e) holds = holds

-- Where an object of an access type is finalized, if there is such a type (7.6.1, 13.11.2).
abbrev pub left_by_ending : List VariableForm → Implicit → Option ℕ → Holds → Holds
left_by_ending variables implicit None holds = holds
left_by_ending variables implicit (Some t) holds = without_freed variables (implicit.end_frees t) holds

-- May objects of an access type be freed that is among these, or among others?
abbrev pub frees_either : (types others : List TypeNo) → (access : ℕ) → Bool
frees_either types others t = has_number types t || has_number others t
