-- The table of what implicit calls may do (7.6), row by row, where it is known which callees do which deeds.

use Rattle.std.specs.Prelude.{◌≡◌, ℕ, Bool, ◌&&◌, ◌||◌, nat_lt, List, ◌∷◌, Option}
use Rattle.std.specs.List.{filter}
use Rattle.ada_deeds.specs.Forms.{parts_do, creation_does}
use Rattle.ada_deeds.specs.Implicit.{declared_up_to}
use Rattle.ada_deeds.specs.Rows.{is_raised, is_freed, is_used}
use Rattle.ada_deeds.specs.declared.deed.Callee.{Callee}
use Rattle.ada_deeds.specs.declared.deed.Deed.{Deed}
use Rattle.ada_deeds.specs.declared.deed.Deed.TheVariants.{Raises, Frees, Follows}
use Rattle.ada_deeds.specs.declared.deed.Operation.TheVariants.{Adjust, Finalize}
use Rattle.ada_deeds.specs.declared.deeds.Deeds.{Deeds}
use Rattle.ada_deeds.specs.declared.implicit.Column.{Column}
use Rattle.ada_deeds.specs.declared.implicit.Column.TheVariants as column
use Rattle.ada_effects.specs.declared.effect.Effect.{Effect}
use Rattle.ada_effects.specs.declared.implicit.AccessTypes.{AccessTypes}
use Rattle.ada_effects.specs.Found.{raised_by, freed_by, is_listed}
use Rattle.ada_program.specs.declared.program.Exception.{Exception}
use Rattle.ada_program.specs.declared.program.Exception.TheVariants.{ConstraintError, ProgramError, StorageError, EndError}

-- Does one of these exceptions come out where an object is created without an initial value?
abbrev pub comes_out : (does : Deed → Callee → Bool) → (record_type : Option ℕ) → Exception → Bool
comes_out does r e = creation_does (does (Raises e)) r

-- Those of these exceptions that do.
abbrev pub coming_out : (does : Deed → Callee → Bool) → (record_type : Option ℕ) → List Exception → List Exception
coming_out does r es = filter (comes_out does r) es

-- Is an access type in a column of the table?
abbrev pub is_in : (does : Deed → Callee → Bool) → (record_type : Option ℕ) → Column → (access : ℕ) → Bool
is_in does r column.Starts t = creation_does (does (Frees (record { 0 = t }))) r
is_in does r column.Adjusts t = parts_do (does (Frees (record { 0 = t }))) Adjust r
is_in does r column.Ends t = parts_do (does (Frees (record { 0 = t }))) Finalize r
is_in does r column.Reached t = parts_do (does (Frees (record { 0 = t }))) Finalize r || parts_do (does (Follows (record { 0 = t }))) Finalize r

-- Is it, among these access types?
abbrev pub is_in_among : (among : ℕ → Bool) → (does : Deed → Callee → Bool) → (record_type : Option ℕ) → Column → (access : ℕ) → Bool
is_in_among among does r c t = among t && is_in does r c t

-- What stands in the first column for a type, of these exceptions and access types: past the end of the table nothing.
pub record IsStart (exceptions : List Exception) (among : ℕ → Bool) (does : Deed → Callee → Bool) (record_type : Option ℕ) (row : Option Effect) : Type 0 where
  pub raises : raised_by row ≡ coming_out does record_type exceptions
  pub frees : (t : ℕ) → freed_by row t ≡ is_in_among among does record_type column.Starts t

-- What stands in another one.
abbrev pub IsListed : (among : ℕ → Bool) → (does : Deed → Callee → Bool) → (record_type : Option ℕ) → Column → Option AccessTypes → Type 0
IsListed among does r c row = (t : ℕ) → is_listed row t ≡ is_in_among among does r c t

-- The exceptions that may come out of something, of the predefined ones and so many declared ones.
abbrev pub raised_among : ℕ → Deeds → List Exception
raised_among n deeds = filter (is_raised deeds) (ConstraintError ∷ ProgramError ∷ StorageError ∷ EndError ∷ declared_up_to n)

-- Is an access type one of so many types, objects of which something may free?
abbrev pub is_freed_among : ℕ → Deeds → (access : ℕ) → Bool
is_freed_among n deeds t = nat_lt t n && is_freed deeds t

-- Is it one of so many, objects of which something may free, or whose values it may follow?
abbrev pub is_used_among : ℕ → Deeds → (access : ℕ) → Bool
is_used_among n deeds t = nat_lt t n && is_used deeds t
