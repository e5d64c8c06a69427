-- What does a deed within so many calls of calls: by this the set of callees that do it is found, since there are only so many of them.

use Rattle.std.specs.Prelude.{◌≡◌, ◌↔◌, ℕ, zero, suc, ◌+◌, Bool, true, false, ◌&&◌, length}
use Rattle.ada_deeds.specs.Does.{callee_does, is_deed_of, Does}
use Rattle.ada_deeds.specs.declared.deed.Callee.{Callee}
use Rattle.ada_deeds.specs.declared.deed.Deed.{Deed}
use Rattle.ada_program.specs.ProgramForm.{ProgramForm}

-- Does a callee do a deed by itself, or by calls of which each does it within one call of calls less?
abbrev pub does_within : ProgramForm → Deed → (calls : ℕ) → Callee → Bool
does_within p d zero c = false
does_within p d (suc n) c = callee_does p (does_within p d n) d c

-- How many callees a program has: its procedures, and three operations of the parts of each type.
abbrev pub callee_count : ProgramForm → ℕ
callee_count p = length p.bodies + (length p.types + (length p.types + length p.types))

-- Does a callee do a deed of the program?
abbrev pub does_by : ProgramForm → Deed → Callee → Bool
does_by p d c = is_deed_of p d && does_within p d (callee_count p) c

-- So many calls of calls are enough.
abbrev pub CountsAreEnough : Type 0
CountsAreEnough = (p : ProgramForm) (d : Deed) (c : Callee) → (does_by p d c ≡ true) ↔ Does p d c
