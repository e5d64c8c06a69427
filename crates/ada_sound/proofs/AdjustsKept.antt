-- The parts of an object are adjusted that a record was copied to (7.6), and the object changes, or what comes next is chosen: what is left of that goes on.

use Rattle.std.proofs.Common.{◌≡◌, ℕ, List, [], ◌∷◌, refl, sym, ap, subst, ◌∙◌}
use Rattle.std.specs.Prelude.{Option, Some}
use Rattle.std.specs.List.{slice_set}
use Rattle.ada_parts.specs.declared.tasks.Direction.TheVariants.{PartsFirst}
use Rattle.ada_parts.specs.Task.{Task, performs, taken, IsOpen}
use Rattle.ada_program.specs.declared.program.Program.{Program}
use Rattle.ada_program.specs.ProgramForm.{TypeForm, program_form}
use Rattle.ada_program.specs.WellFormed.{IsWellFormed}
use Rattle.ada_flow.specs.Flow.{Holds}
use Rattle.ada_meaning.specs.declared.state.Id.{Id}
use Rattle.ada_meaning.specs.declared.state.Value.{Value}
use Rattle.ada_meaning.specs.declared.state.Value.TheVariants.{Names}
use Rattle.ada_meaning.specs.Named.{Object, object_at, changed}
use Rattle.ada_meaning.specs.State.{Master}
use Rattle.ada_tracked.specs.Frames.{View, watched, blank_object, blanked, values_at}
use Rattle.ada_tracked.proofs.Heaps.{blanked_here, on_there}
use Rattle.ada_sound.proofs.Objects.{set_here}
use Rattle.ada_typed.proofs.Parts.{shown_shapes}
use Rattle.ada_sound.proofs.CopiedOwners.{AreCopied, CopyLeft, NameThere, hiding, owners_left, owners_numbered}
use Rattle.ada_sound.proofs.CopyParts.{called_first, left_called, left_picked, owners_skipped, picked_first, same_copied, same_hidden, same_named}
use Rattle.ada_sound.proofs.Invariant.{AdjustsAside, AdjustsTo, Control, Known, Rooms, RunsOn, Working}

-- An object changes in what is not hidden of it: so it does where components are.
pub set_blanked :
    (w : View) (heap : List Object) (x : Object) (found : object_at heap w.object ≡ Some x) (change : Object → Object)
    → change (blank_object (watched w) x) ≡ blank_object (watched w) (change x)
    → slice_set (blanked w heap) w.object.0 (change (blank_object (watched w) x)) ≡ blanked w (slice_set heap w.object.0 (change x))
set_blanked w heap x found change apart =
    sym (ap (λ (one : Option Object). changed change one (blanked w heap) w.object) (blanked_here w heap x found))
    ∙ (on_there w heap x found change apart ∙ ap (λ (objects : List Object). blanked w objects) (ap (λ (one : Option Object). changed change one heap w.object) found))

-- The object changes, and stays of its type and in its stage; what its components name that count as null is there still, and so much is known behind them.
pub adjusts_set :
    (known : Known) (heap : List Object) (places : List Value) (ms : List Master) (o : Id) (x y : Object) → object_at heap o ≡ Some x
    → y.cell.access ≡ x.cell.access → y.stage ≡ x.stage
    → ((owners : List ℕ) → NameThere heap (values_at owners x.cell.values) → NameThere (slice_set heap o.0 y) (values_at owners y.cell.values))
    → ((r to : ℕ) (owners : List ℕ) → AreCopied known.program.types heap o r to owners x.cell.values
    → AreCopied known.program.types (slice_set heap o.0 y) o r to owners y.cell.values)
    → ((owners : List ℕ) (more : Rooms → Holds → Type 0)
    → Working known (blanked (hiding owners o) heap) places ms more → Working known (blanked (hiding owners o) (slice_set heap o.0 y)) places ms more)
    → (v : Value) (tasks : List Task) (k : Control) → v ≡ Names o → AdjustsTo known v tasks k heap places ms → AdjustsTo known v tasks k (slice_set heap o.0 y) places ms
adjusts_set known heap places ms o x y found same stage names copied works v tasks k is to =
    let this : to.o ≡ o = let own = to.is in cc (own, is) in
    let one : to.x ≡ x = let at_o = to.found in cc (rw this at at_o, found) in
    let owners = owners_left known.program.types x.cell.access tasks in
    let more : Rooms → Holds → Type 0 = λ rooms holds. RunsOn known k rooms holds × AdjustsAside known x.cell.access to.record_type holds in
    let before : Working known (blanked (hiding owners o) heap) places ms more = rw (this, one) at to.works in
    let there = rw one at to.named in
    let both_so : (left : CopyLeft known.program.types to.x.cell.access to.record_type tasks)
    × AreCopied known.program.types heap to.o to.record_type left.first (owners_left known.program.types to.x.cell.access tasks) to.x.cell.values =
    (to.left, to.copied) in
    let left_so : (left : CopyLeft known.program.types x.cell.access to.record_type tasks)
    × AreCopied known.program.types heap to.o to.record_type left.first (owners_left known.program.types x.cell.access tasks) x.cell.values =
    rw one at both_so in
    let copied_so = copied to.record_type left_so.0.first owners (rw this at left_so.1) in
    let left_now : (left : CopyLeft known.program.types y.cell.access to.record_type tasks)
    × AreCopied known.program.types (slice_set heap o.0 y) o to.record_type left.first (owners_left known.program.types y.cell.access tasks) y.cell.values =
    subst (λ (access : ℕ). (left : CopyLeft known.program.types access to.record_type tasks)
    × AreCopied known.program.types (slice_set heap o.0 y) o to.record_type left.first (owners_left known.program.types access tasks) y.cell.values) (sym same)
    (left_so.0, copied_so) in
    record {
      o = o;
      is = is;
      x = y;
      found = set_here heap o.0 x y found;
      there = rw (stage, ← one) to.there;
      record_type = to.record_type;
      left = left_now.0;
      copied = left_now.1;
      named = subst (λ (access : ℕ). NameThere (slice_set heap o.0 y) (values_at (owners_left known.program.types access tasks) y.cell.values)) (sym same) (names owners there);
      works =
          subst (λ (access : ℕ).
          Working known (blanked (hiding (owners_left known.program.types access tasks) o) (slice_set heap o.0 y)) places ms (λ rooms holds.
          RunsOn known k rooms holds × AdjustsAside known access to.record_type holds)) (sym same) (works owners more before);
    }

-- A part is adjusted that declares no component of an access type: as much is hidden behind that.
pub adjusts_skipped :
    (known : Known) (v : Value) (of part : ℕ) (tasks : List Task) (k : Control) (heap : List Object) (places : List Value) (ms : List Master)
    → owners_numbered known.program.types of ≡ [] → AdjustsTo known v (performs of part ∷ tasks) k heap places ms → AdjustsTo known v tasks k heap places ms
adjusts_skipped known v of part tasks k heap places ms none to =
    let access = to.x.cell.access in
    let same = owners_skipped known.program.types access of part tasks none in
    record {
      o = to.o;
      is = to.is;
      x = to.x;
      found = to.found;
      there = to.there;
      record_type = to.record_type;
      left = left_called known.program.types access to.record_type (performs of part ∷ tasks) to.left of part refl;
      copied =
          subst (λ (first : ℕ). AreCopied known.program.types heap to.o to.record_type first (owners_left known.program.types access tasks) to.x.cell.values)
          (sym (called_first known.program.types access to.record_type (performs of part ∷ tasks) to.left of part refl))
          (subst (λ (owners : List ℕ). AreCopied known.program.types heap to.o to.record_type to.left.first owners to.x.cell.values) same to.copied);
      named = subst (λ (owners : List ℕ). NameThere heap (values_at owners to.x.cell.values)) same to.named;
      works =
          subst (λ (owners : List ℕ).
          Working known (blanked (hiding owners to.o) heap) places ms (λ rooms holds. RunsOn known k rooms holds × AdjustsAside known access to.record_type holds)) same to.works;
    }

-- One of the components that are open is picked: the same is hidden behind that.
module _ (program : Program) (well : IsWellFormed (program_form program)) where
  picked_hidden :
      (types : List TypeForm) → types ≡ (program_form program).types → (access r : ℕ) (tasks : List Task) → CopyLeft types access r tasks → (i : ℕ) → IsOpen tasks i
      → (o : Id) (heap : List Object)
      → blanked (hiding (owners_left types access (taken (shown_shapes types) PartsFirst tasks i)) o) heap ≡ blanked (hiding (owners_left types access tasks) o) heap
  picked_hidden types same access r tasks left i ready o heap = rw same (same_hidden program well access r tasks (rw same at left) i ready o heap)

  picked_named :
      (types : List TypeForm) → types ≡ (program_form program).types → (access r : ℕ) (tasks : List Task) → CopyLeft types access r tasks → (i : ℕ) → IsOpen tasks i
      → (heap : List Object) (vs : List Value) → NameThere heap (values_at (owners_left types access tasks) vs)
      → NameThere heap (values_at (owners_left types access (taken (shown_shapes types) PartsFirst tasks i)) vs)
  picked_named types same access r tasks left i ready heap vs there = rw same (same_named program well access r tasks (rw same at left) i ready heap vs (rw same at there))

  picked_copied :
      (types : List TypeForm) → types ≡ (program_form program).types → (access r : ℕ) (tasks : List Task) → CopyLeft types access r tasks → (i : ℕ) → IsOpen tasks i
      → (heap : List Object) (o : Id) (to : ℕ) (vs : List Value) → AreCopied types heap o r to (owners_left types access tasks) vs
      → AreCopied types heap o r to (owners_left types access (taken (shown_shapes types) PartsFirst tasks i)) vs
  picked_copied types same access r tasks left i ready heap o to vs copied =
      rw same (same_copied program well access r tasks (rw same at left) i ready heap o to vs (rw same at copied))

  pub adjusts_picked :
      (known : Known) → known.program.types ≡ (program_form program).types → (v : Value) (tasks : List Task) (i : ℕ) (k : Control) (heap : List Object)
      (places : List Value) (ms : List Master) → IsOpen tasks i → AdjustsTo known v tasks k heap places ms
      → AdjustsTo known v (taken (shown_shapes known.program.types) PartsFirst tasks i) k heap places ms
  adjusts_picked known same v tasks i k heap places ms ready to =
      let types = known.program.types in
      let access = to.x.cell.access in
      record {
        o = to.o;
        is = to.is;
        x = to.x;
        found = to.found;
        there = to.there;
        record_type = to.record_type;
        left = left_picked types access to.record_type tasks to.left i ready;
        copied =
            subst (λ (first : ℕ). AreCopied types heap to.o to.record_type first (owners_left types access (taken (shown_shapes types) PartsFirst tasks i)) to.x.cell.values)
            (sym (picked_first types access to.record_type tasks to.left i ready))
            (picked_copied types same access to.record_type tasks to.left i ready heap to.o to.left.first to.x.cell.values to.copied);
        named = picked_named types same access to.record_type tasks to.left i ready heap to.x.cell.values to.named;
        works =
            subst (λ (objects : List Object). Working known objects places ms (λ rooms holds. RunsOn known k rooms holds × AdjustsAside known access to.record_type holds))
            (sym (picked_hidden types same access to.record_type tasks to.left i ready to.o heap)) to.works;
      }
