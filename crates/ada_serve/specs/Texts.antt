-- The lines of an answer.

use Rattle.std.specs.Prelude.{ℕ, ℤ, Bool, true, false, List, [], ◌∷◌, ◌++◌, Option, Some, None, map, codes, decimal}
use Rattle.std.specs.List.{slice_get, slice_index_or}
use Rattle.std.specs.String.{string_bytes}
use Rattle.std.specs.Fmt.{signed_decimal}
use Rattle.std.specs.Prelude.{pos, negsuc}
use Rattle.ada_program.specs.declared.program.Exception.{Exception}
use Rattle.ada_program.specs.declared.program.Program.{Program}
use Rattle.ada_program.specs.declared.program.TypeDefinition.{TypeDefinition}
use Rattle.ada_program.specs.declared.program.TypeDefinition.TheVariants.{Record, Access, Object}
use Rattle.ada_program.specs.Names.{exception_name}
use Rattle.ada_program.specs.Controlled.{type_numbered}
use Rattle.ada_meaning.specs.declared.event.Line.{Line}
use Rattle.ada_meaning.specs.declared.event.Line.TheVariants.{Image, Literal}
use Rattle.ada_verdict.specs.Refusal.{Told}

-- The line feed that ends each line.
abbrev pub line_feed : List ℕ
line_feed = 10 ∷ []

-- `Integer'Image` (3.5): digits behind a minus sign, or behind a blank where the number is not negative.
abbrev pub image : ℤ → List ℕ
image (pos n) = 32 ∷ decimal n
image (negsuc n) = signed_decimal (negsuc n)

-- The string literals of a program (2.6), in the order of their numbers.
abbrev pub texts_of : Program → List (List ℕ)
texts_of program = map string_bytes program.texts.items

-- The names of the exceptions that a program declares (11.1), in the order of their numbers.
abbrev pub exceptions_of : Program → List (List ℕ)
exceptions_of program = map string_bytes program.exceptions.items

-- The string literal of this number, or the empty one if there is none.
abbrev pub text_at : List (List ℕ) → ℕ → List ℕ
text_at texts number = slice_index_or texts number []

-- A line that a program with these string literals writes (A.10.7).
abbrev pub line_text : List (List ℕ) → Line → List ℕ
line_text texts (Image value) = image value ++ line_feed
line_text texts (Literal text) = text_at texts text.0 ++ line_feed

-- The name of a type (3.2.1), in upper case: what only one record object is known by has none, nor has a type that is not there.
abbrev pub name_of : Option TypeDefinition → List ℕ
name_of None = []
name_of (Some (Record name parts components finalization)) = string_bytes name
name_of (Some (Access name designated pool)) = string_bytes name
name_of (Some (Object record_type)) = []

-- The name of the type of this number in a program.
abbrev pub name_of_type : Program → (type : ℕ) → List ℕ
name_of_type program type = name_of (slice_get program.types.items type)

-- The name of the record type of this number among those that have controlled parts (7.6).
abbrev pub name_of_controlled : Program → (record_type : ℕ) → List ℕ
name_of_controlled program record_type = name_of (type_numbered program.types.items record_type)

-- A line of a trace: what happens, the name of a type, and the trace number of a value or an object of it.
abbrev pub trace_text : (moment name : List ℕ) → (number : ℕ) → List ℕ
trace_text moment name number = moment ++ name ++ codes " " ++ decimal number ++ line_feed

-- A controlled value of a type has come to exist (7.6).
abbrev pub born_text : Program → (record_type number : ℕ) → List ℕ
born_text program record_type number = trace_text (codes "# born ") (name_of_controlled program record_type) number

-- Finalize of a controlled value of a type begins (7.6.1).
abbrev pub finalized_text : Program → (record_type number : ℕ) → List ℕ
finalized_text program record_type number = trace_text (codes "# finalized ") (name_of_controlled program record_type) number

-- The storage of an object of an access type goes back (13.11.2).
abbrev pub back_text : Program → (access number : ℕ) → List ℕ
back_text program access number = trace_text (codes "# back ") (name_of_type program access) number

-- What is written of a line of a trace: the line, where a trace is asked for.
abbrev pub traced : (trace : Bool) → List ℕ → List ℕ
traced false text = []
traced true text = text

-- The line of a source that is refused: the place, the number and the name of the rule.
abbrev pub refusal_text : Told → List ℕ
refusal_text told =
    codes "refused " ++ decimal told.line ++ codes ":" ++ decimal told.column ++ codes " " ++ told.name ++ line_feed

-- The last line of a run that an exception ended (11.4): the exception's name, in a program that declares exceptions of these names.
abbrev pub unhandled_text : (exceptions : List (List ℕ)) → Exception → List ℕ
unhandled_text exceptions e = codes "unhandled " ++ exception_name exceptions e ++ line_feed

-- The last line of a run that finishes.
abbrev pub finished_text : List ℕ
finished_text = codes "finished" ++ line_feed

-- The last line of a run that the limit of statements stopped: that limit.
abbrev pub stopped_text : (limit : ℕ) → List ℕ
stopped_text limit = codes "stopped after " ++ decimal limit ++ line_feed

-- The last line of a run that comes to an erroneous action; no accepted program's does (13.11.2).
abbrev pub erroneous_text : List ℕ
erroneous_text = codes "erroneous" ++ line_feed

-- The answer to an accepted source that is only checked.
abbrev pub accepted_text : List ℕ
accepted_text = codes "accepted" ++ line_feed
