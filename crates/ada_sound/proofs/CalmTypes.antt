-- The own operations are so of what lies in calm objects (7.6), whatever is asked about them.

use Rattle.std.proofs.Common.{◌≡◌, ℕ, Bool, true, false, not, List, refl}
use Rattle.std.specs.Prelude.{Option, Some, None, is_some}
use Rattle.std.specs.List.{slice_get}
use Rattle.ada_program.specs.declared.program.Finalization.{Finalization}
use Rattle.ada_program.specs.ProgramForm.{TypeForm, record_of, access_to, object_of, ProgramForm}
use Rattle.ada_program.specs.WellFormed.{IsWellFormed, finalization_of, named_in}
use Rattle.ada_quiet.specs.Bare.{is_bare_access}
use Rattle.ada_quiet.specs.Calm.{is_known_calm, calm_by, is_calm_access}
use Rattle.ada_quiet.proofs.CalmTypes.{calm_is_told_within}
use Rattle.ada_typed.specs.Holding.{WalksTo}

module _ (p : ProgramForm) (own : TypeForm → Bool) (well : IsWellFormed p) where
  -- What is known of all types.
  abbrev all : List Bool
  all = calm_by own p.types

  -- The own operations are so of a record that lies in calm objects which are not bare.
  pub lying_own :
      (t first part : ℕ) (o : Option TypeForm) (form : TypeForm) → is_calm_access p.types all o ≡ true → is_bare_access p.types o ≡ false → WalksTo p.types (named_in o) (Some t) first part
      → slice_get p.types t ≡ Some form → own form ≡ true
  lying_own t first part None form calm some walks at = absurd (cc calm)
  lying_own t first part (Some (record_of name parts components finalization)) form calm some walks at = absurd (cc calm)
  lying_own t first part (Some (access_to name designated pool)) form calm some walks at = by (finalization_of p.types designated) refl calm some
    where
      by : (f : Option Finalization) → finalization_of p.types designated ≡ f → is_known_calm all f ≡ true → not (is_some f) ≡ false → own form ≡ true
      by None is told parted = absurd (cc parted)
      by (Some f) is told parted = (calm_is_told_within p own well designated f is).0 told t first part form walks at
  lying_own t first part (Some (object_of record_type)) form calm some walks at = absurd (cc calm)

-- Objects are calm where they are bare.
pub bare_calm : (types : List TypeForm) (calm : List Bool) (o : Option TypeForm) → is_bare_access types o ≡ true → is_calm_access types calm o ≡ true
bare_calm types calm None bare = absurd (cc bare)
bare_calm types calm (Some (record_of name parts components finalization)) bare = absurd (cc bare)
bare_calm types calm (Some (access_to name designated pool)) bare = by (finalization_of types designated) bare
  where
    by : (f : Option Finalization) → not (is_some f) ≡ true → is_known_calm calm f ≡ true
    by None none = refl
    by (Some f) none = absurd (cc none)
bare_calm types calm (Some (object_of record_type)) bare = absurd (cc bare)
