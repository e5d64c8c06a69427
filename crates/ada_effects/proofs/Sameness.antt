-- When two exceptions are one.

use Rattle.std.proofs.Common.{◌≡◌, ℕ, true, refl, ap, subst}
use Rattle.std.proofs.lemmas.Bool.{eqb-true, eq-eqb}
use Rattle.ada_program.specs.declared.program.Exception.{Exception}
use Rattle.ada_program.specs.declared.program.Exception.TheVariants.{ConstraintError, ProgramError, StorageError, EndError, Declared}
use Rattle.ada_program.specs.declared.program.ExceptionNo.{ExceptionNo}
use Rattle.ada_program.specs.Handling.{is_same}

numbered : (n m : ExceptionNo) → n.0 ≡ m.0 → Declared n ≡ Declared m
numbered n m h = ap (λ (k : ℕ). Declared (record { 0 = k })) h

-- An exception is itself.
pub is_itself : (e : Exception) → is_same e e ≡ true
is_itself ConstraintError = refl
is_itself ProgramError = refl
is_itself StorageError = refl
is_itself EndError = refl
is_itself (Declared n) = eq-eqb n.0 n.0 refl

-- Two exceptions of which the test says so are equal.
pub are_equal : (e f : Exception) → is_same e f ≡ true → e ≡ f
are_equal ConstraintError ConstraintError h = refl
are_equal ProgramError ProgramError h = refl
are_equal StorageError StorageError h = refl
are_equal EndError EndError h = refl
are_equal (Declared n) (Declared m) h = numbered n m (eqb-true n.0 m.0 h)
are_equal ConstraintError ProgramError h = cc
are_equal ConstraintError StorageError h = cc
are_equal ConstraintError EndError h = cc
are_equal ConstraintError (Declared m) h = cc
are_equal ProgramError ConstraintError h = cc
are_equal ProgramError StorageError h = cc
are_equal ProgramError EndError h = cc
are_equal ProgramError (Declared m) h = cc
are_equal StorageError ConstraintError h = cc
are_equal StorageError ProgramError h = cc
are_equal StorageError EndError h = cc
are_equal StorageError (Declared m) h = cc
are_equal EndError ConstraintError h = cc
are_equal EndError ProgramError h = cc
are_equal EndError StorageError h = cc
are_equal EndError (Declared m) h = cc
are_equal (Declared n) ConstraintError h = cc
are_equal (Declared n) ProgramError h = cc
are_equal (Declared n) StorageError h = cc
are_equal (Declared n) EndError h = cc

pub same_if_equal : (e f : Exception) → e ≡ f → is_same e f ≡ true
same_if_equal e f h = let P : Exception → Type 0 = λ x. is_same e x ≡ true in subst P h (is_itself e)
