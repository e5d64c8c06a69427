-- The premises are met.

use Rattle.std.specs.Prelude.{◌≡◌, ℕ, Bool, true, List, Some}
use Rattle.ada_program.specs.declared.program.TypeDefinition.{TypeDefinition}
use Rattle.ada_program.specs.ProgramForm.{BodyForm}
use Rattle.ada_meaning.specs.Step.{moves, places}
use Rattle.ada_meaning.specs.Named.{State, object_at, next}
use Rattle.ada_meaning.specs.Records.{component_in}
use Rattle.ada_meaning.specs.Run.{Event}
use Rattle.ada_tracked.specs.Frames.{View}
use Rattle.ada_tracked.specs.Looking.{LooksElsewhere}
use Rattle.ada_tracked.specs.Copying.{CopiesNone}
use Rattle.ada_tracked.specs.Seen.{IsWatched}
use Rattle.ada_beside.specs.Confined.{IsConfined}
use Rattle.ada_beside.specs.Law.{LieBeside, IsWithin}

-- A component of the object holds something, or something else behind a step.
abbrev pub HoldsElse : (before after : State) → View → (component : ℕ) → Type 0
HoldsElse before after w c = component_in (object_at before.heap w.object) c ≡ component_in (object_at after.heap w.object) c → ⊥

-- A body writes a component of its formal parameter, in an object with a component that lies beside that.
pub record WritesItsRecord (types : List TypeDefinition) (bodies : List BodyForm) (w : View) (reaches beside : ℕ → Bool) (s after : State) : Type 0 where
  pub apart : LieBeside w reaches beside
  pub watched : IsWatched w (places s) s.heap
  pub elsewhere : LooksElsewhere w s
  pub copies : CopiesNone types w.object beside s
  pub within : IsWithin s.control s.masters
  pub confined : IsConfined w reaches s
  pub steps : (e : Event) × (next types bodies s ≡ moves e after)
  pub writes : (component : ℕ) × HoldsElse s after w component
  pub lies_beside : (component : ℕ) × (beside component ≡ true) × ((v : _) × (component_in (object_at s.heap w.object) component ≡ Some v))

-- So it is somewhere.
abbrev pub PremisesAreMet : Type 0
PremisesAreMet =
    (types : List TypeDefinition) × (bodies : List BodyForm) × (w : View) × (reaches : (ℕ → Bool)) × (beside : (ℕ → Bool)) × (s : State) × (after : State)
    × WritesItsRecord types bodies w reaches beside s after
