-- Laws of bodies that lead back to themselves.

use Rattle.std.specs.Prelude.{◌≡◌, Option}
use Rattle.ada_text.specs.declared.spot.Spot.{Spot}
use Rattle.ada_program.specs.declared.program.ProcedureNo.{ProcedureNo}
use Rattle.ada_program.specs.ProgramForm.{ProgramForm}
use Rattle.ada_circles.specs.Circles.{LeadsTo, IsFirstCircle}

-- A program has a first body that leads back to itself, or none: not two of these.
abbrev pub OneIsFirst : Type 0
OneIsFirst = (p : ProgramForm) (a b : Option Spot) → IsFirstCircle p a → IsFirstCircle p b → a ≡ b

-- What leads to something leads to what that leads to.
abbrev pub LeadingGoesOn : Type 0
LeadingGoesOn = (p : ProgramForm) (a b c : ProcedureNo) → LeadsTo p a b → LeadsTo p b c → LeadsTo p a c
