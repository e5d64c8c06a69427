-- The names of exceptions.

use Rattle.std.specs.Prelude.{ℕ, List, [], Option, Some, None, codes}
use Rattle.std.specs.List.{slice_get}
use Rattle.ada_program.specs.declared.program.Exception.{Exception}
use Rattle.ada_program.specs.declared.program.Exception.TheVariants.{ConstraintError, ProgramError, StorageError, EndError, Declared}

-- A name, where there is one, and else the empty text.
abbrev pub name_in : Option (List ℕ) → List ℕ
name_in None = []
name_in (Some name) = name

-- The name of an exception, in upper case (11.4.1).
abbrev pub exception_name : (exceptions : List (List ℕ)) → Exception → List ℕ
exception_name exceptions ConstraintError = codes "CONSTRAINT_ERROR"
exception_name exceptions ProgramError = codes "PROGRAM_ERROR"
exception_name exceptions StorageError = codes "STORAGE_ERROR"
exception_name exceptions EndError = codes "END_ERROR"
exception_name exceptions (Declared e) = name_in (slice_get exceptions e.0)
