-- What does a deed: the least set of callees for which it holds that what calls one of them does it, too.

use Rattle.std.specs.Prelude.{◌≡◌, Bool, true, false, nat_lt, List, length, Option, Some, None}
use Rattle.std.specs.List.{slice_get}
use Rattle.ada_deeds.specs.Forms.{body_does, type_does}
use Rattle.ada_deeds.specs.declared.deed.Callee.{Callee}
use Rattle.ada_deeds.specs.declared.deed.Callee.TheVariants as callee
use Rattle.ada_deeds.specs.declared.deed.Deed.{Deed}
use Rattle.ada_deeds.specs.declared.deed.Deed.TheVariants as deed
use Rattle.ada_deeds.specs.declared.deed.Operation.{Operation}
use Rattle.ada_program.specs.declared.program.Exception.{Exception}
use Rattle.ada_program.specs.declared.program.Exception.TheVariants.{ConstraintError, ProgramError, StorageError, EndError, Declared}
use Rattle.ada_program.specs.ProgramForm.{TypeForm, BodyForm, ProgramForm}

-- Is an exception a predefined one, or one that a program declares (11.1)?
abbrev pub is_exception_of : ProgramForm → Exception → Bool
is_exception_of p ConstraintError = true
is_exception_of p ProgramError = true
is_exception_of p StorageError = true
is_exception_of p EndError = true
is_exception_of p (Declared e) = nat_lt e.0 (length p.exceptions)

-- Does the body of a procedure, where there is one (6.4)?
abbrev pub called_does : List TypeForm → (known : Callee → Bool) → Deed → Option BodyForm → Bool
called_does types known d None = false
called_does types known d (Some b) = body_does types known d b

-- Do the operations of the controlled parts of an object, where there is such a type (7.6)?
abbrev pub operations_do : (known : Callee → Bool) → Operation → Option TypeForm → Bool
operations_do known operation None = false
operations_do known operation (Some t) = type_does known operation t

-- Does a callee, where this is known of what it calls?
abbrev pub callee_does : ProgramForm → (known : Callee → Bool) → Deed → Callee → Bool
callee_does p known d (callee.Procedure procedure) = called_does p.types known d (slice_get p.bodies procedure.0)
callee_does p known d (callee.Parts operation t) = operations_do known operation (slice_get p.types t.0)

-- Is the deed one of a program: is its exception a predefined or a declared one (11.1), or its access type one of the types?
abbrev pub is_deed_of : ProgramForm → Deed → Bool
is_deed_of p (deed.Raises e) = is_exception_of p e
is_deed_of p (deed.Frees t) = nat_lt t.0 (length p.types)
is_deed_of p (deed.Follows t) = nat_lt t.0 (length p.types)
is_deed_of p deed.Allocates = true
is_deed_of p deed.Calls = true

-- A callee does a deed of a program, if it does where this is known of some callees, each of which does it.
pub data Does (p : ProgramForm) (d : Deed) : (c : Callee) → Type 0 where
  does : {c : Callee} → is_deed_of p d ≡ true → (known : Callee → Bool) → ((other : Callee) → known other ≡ true → Does p d other) → callee_does p known d c ≡ true → Does p d c
