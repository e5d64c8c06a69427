-- Where a deed begins: nothing does one that no body does itself.

use Rattle.std.specs.Prelude.{Bool, false, List}
use Rattle.std.specs.List.{list_any}
use Rattle.ada_deeds.specs.Forms.{body_does}
use Rattle.ada_deeds.specs.declared.deed.Callee.{Callee}
use Rattle.ada_deeds.specs.declared.deed.Deed.{Deed}
use Rattle.ada_program.specs.ProgramForm.{TypeForm, BodyForm, ProgramForm}

-- Nothing that is called does it.
abbrev pub nothing_does : Callee → Bool
nothing_does c = false

-- Does a body do a deed itself, whatever it calls?
abbrev pub begins_in : List TypeForm → Deed → BodyForm → Bool
begins_in types d b = body_does types nothing_does d b

-- Does one of the bodies of a program?
abbrev pub begins : ProgramForm → Deed → Bool
begins p d = list_any (begins_in p.types d) p.bodies
