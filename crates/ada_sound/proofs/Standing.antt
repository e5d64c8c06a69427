-- What the laws of finalization leave of a step: where an object is freed, those of the access types that may be freed then, which are in their collections and not
-- owned outside, have the values of all their parts; and no treatment finalizes a value that does not exist.

use Rattle.std.proofs.Common.{◌≡◌, ℕ, Bool, true, List, [], ◌∷◌, Some, refl}
use Rattle.ada_program.specs.declared.program.TypeDefinition.{TypeDefinition}
use Rattle.ada_program.specs.Form.{a_stmt, frees}
use Rattle.ada_program.specs.ProgramForm.{TypeForm, BodyForm}
use Rattle.ada_program.specs.WellFormed.{is_access}
use Rattle.ada_parts.specs.Task.{next as task_next}
use Rattle.ada_meaning.specs.declared.event.Halt.TheVariants.{Erroneous}
use Rattle.ada_meaning.specs.declared.event.Why.TheVariants.{FinalizesTwice}
use Rattle.ada_meaning.specs.declared.state.Id.{Id}
use Rattle.ada_meaning.specs.declared.state.Mode.{Mode}
use Rattle.ada_meaning.specs.declared.state.Mode.TheVariants.{Running, Raising, Exiting, Returning}
use Rattle.ada_meaning.specs.declared.state.Value.{Value}
use Rattle.ada_meaning.specs.Frame.{Frame}
use Rattle.ada_meaning.specs.Frame as frame
use Rattle.ada_meaning.specs.Step.{halts, treats_next}
use Rattle.ada_meaning.specs.Named.{Object, State, named, object_at, all_alive}
use Rattle.ada_sound.proofs.Fits.{Outsiders, IsOwnedOutside}

-- Each object of an access type, of which objects may be freed, that is in its collection has the values of all its parts (7.6), unless a suspended activation owns it.
abbrev pub AllStand : (may : ℕ → Bool) → List TypeForm → Outsiders → List Object → Type 0
AllStand may forms outer heap =
    (o : Id) (x : Object) → object_at heap o ≡ Some x → x.listed ≡ true → is_access forms x.cell.access ≡ true → may x.cell.access ≡ true
    → (IsOwnedOutside outer o → ⊥) → all_alive x.cell.parts ≡ true

-- So it is where statements begin, and where a component is freed; and a treatment goes on well (7.6.1).
abbrev pub FinalizesBy : (may : ℕ → Bool) → List TypeForm → Outsiders → List TypeDefinition → List BodyForm → Frame Value → State → Type 0
FinalizesBy may forms outer types bodies (frame.Does fs) s = AllStand may forms outer s.heap
FinalizesBy may forms outer types bodies (frame.FreesIn access c) s = AllStand may forms outer s.heap
FinalizesBy may forms outer types bodies (frame.Treats v treatment tasks) s =
    treats_next named types bodies v treatment tasks (task_next tasks) s ≡ halts (Erroneous FinalizesTwice) → ⊥
FinalizesBy may forms outer types bodies f s = Unit {0}

-- The same of what is left to do.
abbrev pub FinalizesIn : (may : ℕ → Bool) → List TypeForm → Outsiders → List TypeDefinition → List BodyForm → Mode → List (Frame Value) → State → Type 0
FinalizesIn may forms outer types bodies Running [] s = Unit {0}
FinalizesIn may forms outer types bodies Running (f ∷ k) s = FinalizesBy may forms outer types bodies f (record s { mode = Running; control = k })
FinalizesIn may forms outer types bodies (Raising e) k s = Unit {0}
FinalizesIn may forms outer types bodies Exiting k s = Unit {0}
FinalizesIn may forms outer types bodies Returning k s = Unit {0}

-- Where something is freed next, it is of one of these access types (13.11.2).
abbrev pub FreesAmong : (may : ℕ → Bool) → List (Frame Value) → Type 0
FreesAmong may [] = Unit {0}
FreesAmong may (frame.Does (a_stmt (frees access path) fs) ∷ k) = may access ≡ true
FreesAmong may (frame.FreesIn access c ∷ k) = may access ≡ true
FreesAmong may (f ∷ k) = Unit {0}

-- Objects of each access type may be freed.
abbrev pub any_type : ℕ → Bool
any_type t = true

-- So it is, where each may be freed.
pub any_freed : (k : List (Frame Value)) → FreesAmong any_type k
any_freed [] = tt
any_freed (frame.Does (a_stmt (frees access path) fs) ∷ k) = refl
any_freed (frame.FreesIn access c ∷ k) = refl
any_freed (f ∷ k) = tt
