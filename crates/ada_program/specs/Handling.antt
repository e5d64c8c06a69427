-- Which exception a handler takes (11.2, 11.4).

use Rattle.std.specs.Prelude.{Bool, true, false, ◌==◌, ◌||◌, if◌then◌else◌, List, [], ◌∷◌, Option, Some, None, is_some}
use Rattle.ada_program.specs.declared.program.Choice.{Choice}
use Rattle.ada_program.specs.declared.program.Choice.TheVariants as choice
use Rattle.ada_program.specs.declared.program.Exception.{Exception}
use Rattle.ada_program.specs.declared.program.Exception.TheVariants.{ConstraintError, ProgramError, StorageError, EndError, Declared}
use Rattle.ada_program.specs.Form.{StmtsForm, HandlersForm, no_handlers, a_handler}

-- Two exceptions are one.
abbrev pub is_same : Exception → Exception → Bool
is_same ConstraintError ConstraintError = true
is_same ProgramError ProgramError = true
is_same StorageError StorageError = true
is_same EndError EndError = true
is_same (Declared e) (Declared f) = e.0 == f.0
is_same e f = false

-- A choice names the exception, or all of them.
abbrev pub takes : Exception → Choice → Bool
takes e (choice.Exception f) = is_same e f
takes e choice.Others = true

-- One of these choices does.
abbrev pub some_takes : Exception → List Choice → Bool
some_takes e [] = false
some_takes e (c ∷ cs) = takes e c || some_takes e cs

-- What the first handler that takes the exception does, if there is one.
abbrev pub handler_of : Exception → HandlersForm → Option StmtsForm
handler_of e no_handlers = None
handler_of e (a_handler choices fs hs) = if some_takes e choices then Some fs else handler_of e hs

-- Whether there is one.
abbrev pub is_taken : HandlersForm → Exception → Bool
is_taken hs e = is_some (handler_of e hs)
