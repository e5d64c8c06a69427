-- What a step makes of a state that takes no frame of a treatment or of an ending, and none of a call.

use Rattle.std.proofs.Common.{◌≡◌, ℕ, ◌+◌, List, [], ◌∷◌, ◌++◌, length, map, Option, None}
use Rattle.ada_parts.specs.declared.tasks.Direction.TheVariants.{PartsFirst}
use Rattle.ada_program.specs.declared.program.TypeDefinition.{TypeDefinition}
use Rattle.ada_program.specs.Form.{RecordPathForm}
use Rattle.ada_meaning.specs.declared.state.Value.{Value}
use Rattle.ada_meaning.specs.declared.state.Value.TheVariants.{Names}
use Rattle.ada_meaning.specs.declared.state.Mode.{Mode}
use Rattle.ada_meaning.specs.declared.event.Birth.{Birth}
use Rattle.ada_meaning.specs.declared.event.Cause.{Cause}
use Rattle.ada_meaning.specs.declared.event.Cause.TheVariants.{Freeing}
use Rattle.ada_meaning.specs.Event.{Born, Finalized, Back}
use Rattle.ada_meaning.specs.Frame.{Frame, evaluating, begins, is_master, Landing, passes_on, goes_behind, goes_in, landing}
use Rattle.ada_meaning.specs.Frame as frame
use Rattle.ada_meaning.specs.Heap.{Cell, finds}
use Rattle.ada_meaning.specs.Step.{all_tasks, new_parts, treating, finalizing, taken_out}
use Rattle.ada_meaning.specs.Named.{State, Next, named, look, standing, on_object, new_object, parted}
use Rattle.ada_meaning.specs.Run.{Event}
use Rattle.ada_meaning.specs.Finalization.{adjusted_by}
use Rattle.ada_meaning.proofs.Members.{IsListed}
use Rattle.ada_finalized.proofs.Ranks.{Heap, bare}
use Rattle.ada_finalized.proofs.Doings.{number_of, rest}
use Rattle.ada_finalized.proofs.Stacks.{Control}
use Rattle.ada_finalized.proofs.Leading.{Leading}

-- An event that tells of no value of a part, and gives nothing back.
abbrev pub Mild : Event → Type 0
Mild (Born object part turn type number by) = ⊥
Mild (Finalized object part turn type number cause) = ⊥
Mild (Back object access number pool subpool cause) = ⊥
Mild e = Unit {0}

-- What becomes of a state with these objects, in this mode: all objects keep what counts here; one more is there, and is initialized or adjusted next; one
-- leaves its collection, and is finalized and ended next, by a Free or by the leaving of a master; or two records are found next, one to be copied to the
-- other.
pub data Made (types : List TypeDefinition) (xs : Heap) (mode : Mode) (next : ℕ) (left : Control) (after : State) : Type 0 where
  keeps : map bare after.heap ≡ map bare xs → rest after.control ≡ left → Made types xs mode next left after
  adds :
      (cell : Cell Value) (by : Birth) (k : Control) → cell.parts ≡ new_parts types cell.access → adjusted_by by ≡ None → rest k ≡ left
      → after.mode ≡ mode → after.heap ≡ xs ++ new_object cell ∷ []
      → after.control ≡ treating (Names (record { 0 = length xs })) (begins by []) (all_tasks types cell.access PartsFirst) k → Made types xs mode next left after
  frees :
      (v : Value) (cell : Cell Value) (pool : Option ℕ) (k : Control) → standing xs v ≡ finds cell → rest k ≡ left → after.mode ≡ mode → after.next ≡ next + 1
      → after.heap ≡ on_object parted xs v
      → after.control ≡ finalizing types v cell (Freeing next) (frame.Ends v ∷ frame.GivesBack v (Freeing next) pool ∷ k) → Made types xs mode next left after
  takes :
      (v : Value) (cause : Cause) (pool : Option ℕ) (s : State) → number_of cause ≡ None → IsListed 0 xs v → rest s.control ≡ left → s.mode ≡ mode → s.heap ≡ xs
      → after ≡ taken_out named types cause pool v (look xs v) s → Made types xs mode next left after
  copies :
      (target source : RecordPathForm) (t : ℕ) (k : Control) → map bare after.heap ≡ map bare xs → rest k ≡ left → after.mode ≡ mode
      → after.control ≡ frame.Refers target ∷ frame.Refers source ∷ frame.Assigns t ∷ k → Made types xs mode next left after

module _ (types : List TypeDefinition) where
  -- What comes next does so, whatever is answered.
  abbrev pub Makes : Heap → Mode → (next : ℕ) → (left : Control) → Next → Type 0
  Makes xs mode next left n = Leading (λ e s. Mild e × Made types xs mode next left s) n

  -- The same from a state.
  abbrev pub Does : State → Next → Type 0
  Does s n = Makes s.heap s.mode s.next (rest s.control) n

  -- A jump passes a frame, or lands: it keeps what counts here of all objects.
  abbrev pub Passes : State → Next → Type 0
  Passes s n =
      Leading (λ e u. Mild e × (u.heap ≡ s.heap) × (rest u.control ≡ rest s.control) × (u.activations ≡ s.activations)) n
