-- What the operations of controlled types may do that are called implicitly (7.6), for all controlled parts of an object.

use Rattle.std.specs.Prelude.{ℕ, zero, suc, ◌||◌, List, [], ◌∷◌, ◌++◌, length, Option, Some, None}
use Rattle.std.specs.List.{filter, slice_get}
use Rattle.ada_deeds.specs.Forms.{parts_do, creation_does}
use Rattle.ada_deeds.specs.Within.{does_by}
use Rattle.ada_deeds.specs.declared.deed.Deed.TheVariants.{Raises, Frees, Follows}
use Rattle.ada_deeds.specs.declared.deed.Operation.TheVariants.{Adjust, Finalize}
use Rattle.ada_effects.specs.Effects.{Implicit}
use Rattle.ada_program.specs.declared.program.Exception.{Exception}
use Rattle.ada_program.specs.declared.program.Exception.TheVariants.{ConstraintError, ProgramError, StorageError, EndError, Declared}
use Rattle.ada_program.specs.ProgramForm.{TypeForm, record_of, access_to, object_of, ProgramForm}

-- So many declared exceptions (11.1), by their numbers.
abbrev pub declared_up_to : ℕ → List Exception
declared_up_to zero = []
declared_up_to (suc n) = declared_up_to n ++ Declared (record { 0 = n }) ∷ []

-- The predefined exceptions, and those that a program declares (11.1).
abbrev pub exceptions_of : ProgramForm → List Exception
exceptions_of p = ConstraintError ∷ ProgramError ∷ StorageError ∷ EndError ∷ declared_up_to (length p.exceptions)

-- The record type of the objects of a type of this number: that type itself, the one that an access type designates, or that of a record object.
abbrev pub record_in : ℕ → Option TypeForm → Option ℕ
record_in u None = None
record_in u (Some (record_of name parts components finalization)) = Some u
record_in u (Some (access_to name designated pool)) = Some designated
record_in u (Some (object_of record_type)) = Some record_type

abbrev pub record_at : List TypeForm → ℕ → Option ℕ
record_at types u = record_in u (slice_get types u)

-- What is known of implicit calls in a program: what does a deed may do it.
abbrev pub implicit_of : ProgramForm → Implicit
implicit_of p = record {
  start_raises = λ u. filter (λ e. creation_does (does_by p (Raises e)) (record_at p.types u)) (exceptions_of p);
  start_frees = λ u t. creation_does (does_by p (Frees (record { 0 = t }))) (record_at p.types u);
  adjust_frees = λ u t. parts_do (does_by p (Frees (record { 0 = t }))) Adjust (record_at p.types u);
  end_frees = λ u t. parts_do (does_by p (Frees (record { 0 = t }))) Finalize (record_at p.types u);
  end_reaches = λ u t. parts_do (does_by p (Frees (record { 0 = t }))) Finalize (record_at p.types u)
      || parts_do (does_by p (Follows (record { 0 = t }))) Finalize (record_at p.types u);
}
