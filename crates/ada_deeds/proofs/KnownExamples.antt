-- The examples of what procedures do and effects know.

use Rattle.std.proofs.Common.{◌≡◌, ℕ, zero, suc, true, false, refl, ap}
use Rattle.std.specs.Prelude.{is_some}
use Rattle.ada_deeds.specs.Does.{Does}
use Rattle.ada_deeds.specs.KnownExamples.{passing, PassingFits, PassesAll, copying, CopyingFits, FinalizeIsUnknown, AdjustIsUnknown}
use Rattle.ada_deeds.specs.Laws.{KeepsIn}
use Rattle.ada_deeds.specs.Within.{does_by}
use Rattle.ada_deeds.specs.declared.deed.Callee.TheVariants as callee
use Rattle.ada_deeds.specs.declared.deed.Deed.{Deed}
use Rattle.ada_deeds.specs.declared.deed.Deed.TheVariants.{Raises, Frees}
use Rattle.ada_deeds.proofs.Within.{counts_are_enough}
use Rattle.ada_program.specs.declared.program.Exception.{Exception}
use Rattle.ada_program.specs.declared.program.Exception.TheVariants.{ConstraintError, ProgramError}
use Rattle.ada_program.specs.ProgramForm.{ProgramForm}
use Rattle.ada_program.specs.WellFormed.{IsWellFormed, finalization_of}

-- What is found to do a deed does it, and what is found not to does not.
found : (p : ProgramForm) (d : Deed) (procedure : ℕ) → does_by p d (callee.Procedure (record { 0 = procedure })) ≡ true → Does p d (callee.Procedure (record { 0 = procedure }))
found p d procedure h = (counts_are_enough p d (callee.Procedure (record { 0 = procedure }))).0 h

found_not : (p : ProgramForm) (d : Deed) (procedure : ℕ) → does_by p d (callee.Procedure (record { 0 = procedure })) ≡ false → ¬ Does p d (callee.Procedure (record { 0 = procedure }))
found_not p d procedure h = λ out. let is = (counts_are_enough p d (callee.Procedure (record { 0 = procedure }))).1 out in cc

passing_fits : IsWellFormed passing
passing_fits = record {
  types_fit = refl;
  components_lie = refl;
  operations_fit = refl;
  pools_fit = refl;
  variables_fit = refl;
  creates_in_order = refl;
  collections_first = refl;
  collections_fit = refl;
  has_one_each = refl;
  initials_fit = refl;
  statements_fit = refl;
  handlers_fit = refl;
  bodies_fit = refl;
}

-- No type of the first program has controlled parts.
no_parts : (t : ℕ) → is_some (finalization_of passing.types t) ≡ true → ⊥
no_parts zero h = cc h
no_parts (suc zero) h = cc h
no_parts (suc (suc t)) h = cc h

keeps_in : (e : Exception) → KeepsIn passing e
keeps_in e t f procedure at is = λ out. no_parts t (ap is_some at)

pub fits : PassingFits
fits = (passing_fits, refl, keeps_in)

pub passes_all : PassesAll
passes_all = (
  (found passing (Raises ProgramError) 1 refl, refl),
  (found passing (Frees (record { 0 = 1 })) 1 refl, refl),
  (found_not passing (Raises ConstraintError) 1 refl, refl),
)

pub copying_fits : CopyingFits
copying_fits = record {
  types_fit = refl;
  components_lie = refl;
  operations_fit = refl;
  pools_fit = refl;
  variables_fit = refl;
  creates_in_order = refl;
  collections_first = refl;
  collections_fit = refl;
  has_one_each = refl;
  initials_fit = refl;
  statements_fit = refl;
  handlers_fit = refl;
  bodies_fit = refl;
}

pub finalize_unknown : FinalizeIsUnknown
finalize_unknown = ((found copying (Frees (record { 0 = 2 })) 2 refl, refl), (found copying (Raises ProgramError) 2 refl, refl))

pub adjust_unknown : AdjustIsUnknown
adjust_unknown = (found copying (Frees (record { 0 = 2 })) 3 refl, refl)
