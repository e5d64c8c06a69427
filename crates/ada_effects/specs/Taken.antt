-- Sets of exceptions, and how the handlers of a block are added to one, and taken out again.

use Rattle.std.specs.Prelude.{Bool, true, false, ◌||◌, ◌&&◌, not, List, [], ◌∷◌, slice_index_or}
use Rattle.ada_effects.specs.declared.taken.Taken.{Taken}
use Rattle.ada_program.specs.declared.program.Choice.{Choice}
use Rattle.ada_program.specs.declared.program.Choice.TheVariants as choice
use Rattle.ada_program.specs.declared.program.Exception.{Exception}
use Rattle.ada_program.specs.declared.program.Exception.TheVariants.{ConstraintError, ProgramError, StorageError, EndError, Declared}
use Rattle.ada_program.specs.Form.{HandlersForm, no_handlers, a_handler}
use Rattle.ada_program.specs.Handling.{is_same}

-- The set that the code keeps; a declared exception behind the last number is not in it.
unfoldable pub set_of : Taken → Exception → Bool
set_of t ConstraintError = t.constraint_error
set_of t ProgramError = t.program_error
set_of t StorageError = t.storage_error
set_of t EndError = t.end_error
set_of t (Declared e) = slice_index_or t.declared.items e.0 false

-- A set with one more exception.
unfoldable pub with_one : Exception → (Exception → Bool) → Exception → Bool
with_one f set e = set e || is_same e f

-- A set with the exceptions that choices name; `others` names none.
abbrev pub with_choice : Choice → (Exception → Bool) → Exception → Bool
with_choice (choice.Exception f) set = with_one f set
with_choice choice.Others set = set

-- The exceptions of a set, and those that choices name.
abbrev pub with_choices : List Choice → (Exception → Bool) → Exception → Bool
with_choices [] set = set
with_choices (c ∷ cs) set = with_choices cs (with_choice c set)

-- A set with the exceptions that the choices of handlers name.
abbrev pub with_handlers : HandlersForm → (Exception → Bool) → Exception → Bool
with_handlers no_handlers set = set
with_handlers (a_handler cs fs hs) set = with_handlers hs (with_choices cs set)

-- Whether an exception stands in a list.
abbrev pub is_among : Exception → List Exception → Bool
is_among e [] = false
is_among e (f ∷ fs) = is_same e f || is_among e fs

-- A set without the exceptions of a list.
unfoldable pub without : List Exception → (Exception → Bool) → Exception → Bool
without fs set e = set e && not (is_among e fs)

-- Whether a choice is `others`.
abbrev pub is_others : Choice → Bool
is_others (choice.Exception f) = false
is_others choice.Others = true

-- Whether `others` is among choices.
abbrev pub has_others : List Choice → Bool
has_others [] = false
has_others (c ∷ cs) = is_others c || has_others cs

-- Whether a handler has it.
abbrev pub have_others : HandlersForm → Bool
have_others no_handlers = false
have_others (a_handler cs fs hs) = has_others cs || have_others hs
