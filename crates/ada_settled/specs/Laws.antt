-- Where no body leads back to itself by what its own declarations create, declarations settle: statements keep beginning (7.6, 3.3.1).

use Rattle.std.specs.Prelude.{None}
use Rattle.ada_program.specs.declared.program.Program.{Program}
use Rattle.ada_program.specs.ProgramForm.{body_forms, program_form}
use Rattle.ada_program.specs.WellFormed.{IsWellFormed}
use Rattle.ada_circles.specs.Circles.{IsFirstCircle}
use Rattle.ada_meaning.specs.Pace.{DeclarationsSettle}

-- In a well-formed program in which no body does, what the declarations of bodies create leads through no more calls of operations than there are bodies.
abbrev pub NoCircleSettles : Type 0
NoCircleSettles = (program : Program) → IsWellFormed (program_form program) → IsFirstCircle (program_form program) None
    → DeclarationsSettle program.types.items (body_forms program)
