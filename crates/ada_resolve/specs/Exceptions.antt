-- Exceptions: their declarations, their names, what is raised, and the choices of handlers.

use Rattle.std.specs.Prelude.{ℕ, Bool, true, false, if◌then◌else◌, List, [], ◌∷◌, ◌++◌, length, map, Option, Some, None}
use Rattle.ada_text.specs.declared.spot.Spot.{Spot}
use Rattle.ada_tree.specs.Declarations.{ChoiceTree, named_choice, others_choice}
use Rattle.ada_tree.specs.Names.{Ident, NameTree}
use Rattle.ada_program.specs.Form.{StmtForm, raises}
use Rattle.ada_program.specs.declared.program.Choice.{Choice}
use Rattle.ada_program.specs.declared.program.Choice.TheVariants as choice
use Rattle.ada_program.specs.declared.program.Exception.{Exception}
use Rattle.ada_program.specs.declared.program.Exception.TheVariants as exception
use Rattle.ada_program.specs.declared.program.ExceptionNo.{ExceptionNo}
use Rattle.ada_resolve.specs.declared.fault.NameRule.TheVariants.{WrongType}
use Rattle.ada_resolve.specs.declared.library.LibraryName.{LibraryName}
use Rattle.ada_resolve.specs.declared.library.LibraryName.TheVariants.{EndError}
use Rattle.ada_resolve.specs.declared.scope.Entity.{Entity}
use Rattle.ada_resolve.specs.declared.scope.Entity.TheVariants as entity
use Rattle.ada_resolve.specs.Known.{Known, declared, visible, missing, new_name_remark, library_remark, library_found, type_begins, is_empty}
use Rattle.ada_resolve.specs.Library.{is_library_root}
use Rattle.ada_resolve.specs.Remark.{Remark, fine, wrong, node, ◌also◌}

-- The number of the next exception.
abbrev pub next_exception : Known → ExceptionNo
next_exception known = record { 0 = length known.exceptions }

-- What is known once there is one more exception of this name (11.1).
abbrev pub with_exception : List ℕ → Known → Known
with_exception name known = record known { exceptions = known.exceptions ++ name ∷ [] }

-- `E : exception;` (11.1): a node of the source before the objects, and a new name.
abbrev pub exception_remark : Known → Ident → Remark
exception_remark known name = type_begins known name.spot also new_name_remark known name name.spot

-- After it the name stands for the exception of the next number.
abbrev pub exception_known : Known → Ident → Known
exception_known known name =
    declared (with_exception name.text known) name.text (entity.Exception (exception.Declared (next_exception known)))

-- The exception that a name of the library stands for: End_Error alone is one.
abbrev pub exception_of_library : Option LibraryName → Option Exception
exception_of_library (Some EndError) = Some exception.EndError
exception_of_library (Some other) = None
exception_of_library None = None

-- Any other name of the library is of the wrong kind (8.6).
abbrev pub end_error_wanted : Option LibraryName → Spot → Remark
end_error_wanted (Some EndError) spot = fine
end_error_wanted (Some other) spot = wrong spot WrongType
end_error_wanted None spot = fine

-- The exception that a name stands for, which stands alone or has others behind it.
abbrev pub exception_in : Option Entity → Bool → Option Exception
exception_in (Some (entity.Exception e)) true = Some e
exception_in (Some (entity.Exception e)) false = None
exception_in (Some other) alone = None
exception_in None alone = None

-- An exception is wanted: another thing of that name is of the wrong kind (8.6), and so is what is named in an exception.
abbrev pub exception_wanted : Option Entity → Bool → Ident → Remark
exception_wanted (Some (entity.Exception e)) true name = fine
exception_wanted (Some (entity.Exception e)) false name = wrong name.spot WrongType
exception_wanted (Some other) alone name = wrong name.spot WrongType
exception_wanted None alone name = missing None name

-- What is wrong with a name where an exception is wanted (11.2, 11.3).
unfoldable pub exception_name_remark : Known → NameTree → Remark
exception_name_remark known name =
    if is_library_root name.first.text
    then library_remark known name.first name.rest also end_error_wanted (library_found known name.first name.rest) name.first.spot
    else exception_wanted (visible known name.first.text) (is_empty name.rest) name.first

-- The exception of a name, or `None` where something is wrong.
unfoldable pub exception_found : Known → NameTree → Option Exception
exception_found known name =
    if is_library_root name.first.text
    then exception_of_library (library_found known name.first name.rest)
    else exception_in (visible known name.first.text) (is_empty name.rest)

-- `raise E;` (11.3): a node of the source, and an exception.
abbrev pub raise_remark : Known → Spot → NameTree → Remark
raise_remark known spot name = node spot also exception_name_remark known name

-- An exception is raised, where it is known.
abbrev pub raising : Option Exception → Option StmtForm
raising (Some e) = Some (raises e)
raising None = None

-- What `raise` does, or `None` where something is wrong.
abbrev pub raise_found : Known → NameTree → Option StmtForm
raise_found known name = raising (exception_found known name)

-- What is wrong with a choice of a handler (11.2): it names an exception, or is `others`.
abbrev pub choice_remark : Known → ChoiceTree → Remark
choice_remark known (named_choice name) = exception_name_remark known name
choice_remark known (others_choice spot) = fine

-- The choice of an exception; all of them, where it is not known.
abbrev pub exception_or_others : Option Exception → Choice
exception_or_others (Some e) = choice.Exception e
exception_or_others None = choice.Others

-- What a choice stands for.
abbrev pub choice_meant : Known → ChoiceTree → Choice
choice_meant known (named_choice name) = exception_or_others (exception_found known name)
choice_meant known (others_choice spot) = choice.Others

-- What is wrong with the choices of a handler, in order.
abbrev pub choices_remark : Known → List ChoiceTree → Remark
choices_remark known [] = fine
choices_remark known (c ∷ cs) = choice_remark known c also choices_remark known cs

-- What they stand for.
abbrev pub choices_meant : Known → List ChoiceTree → List Choice
choices_meant known cs = map (choice_meant known) cs
