-- Where operations may touch storage, what those free that free no object with controlled parts has none; and what they are called for has some, or is a
-- declared object (7.6, 3.10).

use Rattle.std.proofs.Common.{◌≡◌, ℕ, true, false, List, refl, ap}
use Rattle.std.specs.Prelude.{Option, Some, None, is_some}
use Rattle.std.specs.List.{slice_get}
use Rattle.ada_deeds.specs.Implicit.{implicit_of}
use Rattle.ada_meaning.proofs.Places.{is_declared}
use Rattle.ada_program.specs.declared.program.Finalization.{Finalization}
use Rattle.ada_program.specs.declared.program.Program.{Program}
use Rattle.ada_program.specs.ProgramForm.{TypeForm, record_of, access_to, object_of, BodyForm, ProgramForm, program_form, seen_in}
use Rattle.ada_program.specs.WellFormed.{IsWellFormed, finalization_in, finalization_of, named_in, object_named}
use Rattle.ada_quiet.specs.Bare.{has_bare_objects, is_bare_access}
use Rattle.ada_sound.proofs.FrugalUseFrees.{covered_bare}
use Rattle.ada_sound.proofs.FrugalUseParts.{some_parts, walked_parts}
use Rattle.ada_sound.proofs.Invariant.{CoveredIn}
use Rattle.ada_sound.proofs.Allowance.{is_thrifty_body, simple_allowance}
use Rattle.ada_typed.specs.Holding.{PartsLie, WalksTo}
use Rattle.ada_typed.proofs.Inner.{lies_at}
use Rattle.ada_typed.proofs.Lying.{IsOperable}

module _ (types : List TypeForm) where
  -- An object in which a record with controlled parts lies has some, too.
  walked_bare : (t first part : ℕ) (o : Option TypeForm) → WalksTo types (named_in o) (Some t) first part → is_some (finalization_of types t) ≡ true → is_bare_access types o ≡ false
  walked_bare t first part None walks has = refl
  walked_bare t first part (Some (record_of name parts components finalization)) walks has = refl
  walked_bare t first part (Some (access_to name designated pool)) walks has = rw (walked_parts types designated first part t walks has) refl
  walked_bare t first part (Some (object_of record_type)) walks has = refl

module _ (program : Program) (well : IsWellFormed (program_form program)) where
  abbrev p : ProgramForm
  p = program_form program

  -- An object is that of a variable or a component, or it has controlled parts, where an operation is called for one of these.
  pub operable_is_not_bare : (access of part : ℕ) → IsOperable p.types access of part → has_bare_objects p.types access ≡ false
  operable_is_not_bare access of part operable =
      let l = lies_at program well access of part operable.0 in
      let d = is_declared program l.record_type of l.numbered in
      walked_bare p.types l.record_type l.first part (slice_get p.types access) l.walk (ap (λ (o : Option TypeForm). is_some (finalization_in o)) d.declares.2)

  -- So it is where a record with controlled parts lies in it.
  pub holder_is_not_bare : (t : ℕ) (f : Finalization) → finalization_of p.types t ≡ Some f → (access first part : ℕ) → PartsLie p.types (object_named p.types (Some access)) (Some t) first part → has_bare_objects p.types access ≡ false
  holder_is_not_bare t f is access first part lie =
      walked_bare p.types t first part (slice_get p.types access) (lie.1 (some_parts p.types well.types_fit t (slice_get p.types t) f refl is)) (ap (λ (o : Option Finalization). is_some o) is)

  -- What a body may free that calls nothing, and frees and allocates no object with controlled parts, has none.
  pub frugal_frees_bare : (number : ℕ) (b : BodyForm) → slice_get p.bodies number ≡ Some b → is_thrifty_body (simple_allowance p.types) b ≡ true → (t : ℕ)
      → CoveredIn (implicit_of p) (seen_in (Some number) p) t → has_bare_objects p.types t ≡ true
  frugal_frees_bare number b there simple t covered = covered_bare p well number b there simple t covered
