-- The first words of a procedure and the actuals of an instance, as the code keeps them, as plain data.

use Rattle.ada_tree.specs.declared.names.Identifier.{Identifier}
use Rattle.ada_tree.specs.Names.{Ident, ident_of}
use Rattle.ada_phrases.specs.declared.heads.Start.{Start as StartOf}
use Rattle.ada_phrases.specs.Declarations.{Start}

-- The first words of a procedure.
abbrev pub start_of : StartOf → Start
start_of s = record { overriding = s.overriding; spot = s.spot; name = ident_of s.name }

-- The actuals of an instance.
abbrev pub actuals_of : Identifier × Identifier → Ident × (Ident × Unit {0})
actuals_of x = (ident_of x.0, (ident_of x.1, tt))
