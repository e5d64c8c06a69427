-- No object of a heap has controlled parts (7.6): changes to objects keep that, and so does a new one without such parts. What is found has none then, and nothing is
-- to be done for it.

use Rattle.std.proofs.Common.{◌≡◌, ℕ, zero, suc, ◌+◌, Bool, true, false, ◌&&◌, if◌then◌else◌, List, [], ◌∷◌, ◌++◌, map, Option, Some, None, refl, sym, ap, ◌∙◌}
use Rattle.std.specs.Prelude.{is_some}
use Rattle.std.specs.List.{slice_get, slice_set}
use Rattle.ada_program.specs.declared.program.Finalization.{Finalization}
use Rattle.ada_program.specs.declared.program.TypeDefinition.{TypeDefinition}
use Rattle.ada_program.specs.Controlled.{number_in, number_of, number_reached, shapes_of}
use Rattle.ada_program.specs.ProgramForm.{TypeForm, type_form}
use Rattle.ada_program.specs.WellFormed.{finalization_of, object_named}
use Rattle.ada_program.proofs.Shapes.{same_number}
use Rattle.ada_quiet.specs.Idle.{has_parts, holds_parts}
use Rattle.ada_parts.specs.declared.tasks.Direction.{Direction}
use Rattle.ada_meaning.specs.declared.state.Id.{Id}
use Rattle.ada_meaning.specs.declared.state.Stage.{Stage}
use Rattle.ada_meaning.specs.declared.state.Stage.TheVariants.{Building, Existing, Gone}
use Rattle.ada_meaning.specs.declared.state.Value.{Value}
use Rattle.ada_meaning.specs.declared.state.Value.TheVariants.{Null, Names, Scalar, Part}
use Rattle.ada_meaning.specs.Heap.{Cell, Found, on_null, on_gone, on_other, finds}
use Rattle.ada_meaning.specs.Step.{all_tasks, tasks_for, stored_from, has_parts as step_has_parts}
use Rattle.ada_meaning.specs.Named.{Object, named, object_at, changed, existing, seen, look, all_alive, standing_by, standing, new_object, filled, on_object, store}
use Rattle.ada_typed.proofs.Parts.{shown_number, known_number}
use Rattle.ada_idle.proofs.Idle.{HeapIsIdle}

-- A record type without controlled parts has no number among those that have some (7.6).
none_numbered : (finalization : Option Finalization) → is_some finalization ≡ false → number_in finalization ≡ None
none_numbered None none = refl
none_numbered (Some f) none = absurd (cc none)

-- Nor has one by what is shown of the types.
none_shown : (forms : List TypeForm) (record_type : Option ℕ) → has_parts forms record_type ≡ false → shown_number forms record_type ≡ None
none_shown forms None none = refl
none_shown forms (Some r) none = none_numbered (finalization_of forms r) none

module _ (forms : List TypeForm) (types : List TypeDefinition) (shown : map type_form types ≡ forms) where
  -- For an object of a type without controlled parts there is nothing to do (7.6, 7.6.1).
  pub no_tasks : (access : ℕ) (direction : Direction) → holds_parts forms access ≡ false → all_tasks types access direction ≡ []
  no_tasks access direction none =
      let number : number_reached types access ≡ None = sym (known_number types forms access shown) ∙ none_shown forms (object_named forms (Some access)) none in
      ap (tasks_for (shapes_of types) direction) number

  -- A step says of a record type what the text says: it has no controlled parts.
  pub no_parts : (t : ℕ) → has_parts forms (Some t) ≡ false → step_has_parts types t ≡ false
  no_parts t none =
      let number : number_of types (Some t) ≡ None =
      same_number types t ∙ ap (λ (fs : List TypeForm). number_in (finalization_of fs t)) shown ∙ none_shown forms (Some t) none in
      ap (λ (o : Option ℕ). is_some o) number

module _ (forms : List TypeForm) where
  -- What is found has no controlled parts.
  abbrev pub FoundIsIdle : Found (Cell Value) → Type 0
  FoundIsIdle on_null = Unit {0}
  FoundIsIdle on_gone = Unit {0}
  FoundIsIdle on_other = Unit {0}
  FoundIsIdle (finds cell) = holds_parts forms cell.access ≡ false

  -- So it is with what values lead to.
  seen_idle : (heap : List Object) (o : Id) (found : Option Object) → object_at heap o ≡ found → HeapIsIdle forms heap → FoundIsIdle (seen found)
  seen_idle heap o None at idle = tt
  seen_idle heap o (Some x) at idle = by x.stage
    where
      by : (stage : Stage) → FoundIsIdle (existing x stage)
      by Building = idle o x at
      by Existing = idle o x at
      by Gone = tt

  pub look_idle : (heap : List Object) (v : Value) → HeapIsIdle forms heap → FoundIsIdle (look heap v)
  look_idle heap Null idle = tt
  look_idle heap (Names o) idle = seen_idle heap o (object_at heap o) refl idle
  look_idle heap (Scalar v) idle = tt
  look_idle heap (Part o place) idle = tt

  -- The same of an object that is in its collection.
  stands_idle : (heap : List Object) (o : Id) (found : Option Object) → object_at heap o ≡ found → HeapIsIdle forms heap → FoundIsIdle (standing_by found)
  stands_idle heap o None at idle = tt
  stands_idle heap o (Some x) at idle = by (x.listed && all_alive x.cell.parts)
    where
      by : (stands : Bool) → FoundIsIdle (if stands then finds x.cell else on_gone)
      by true = idle o x at
      by false = tt

  pub standing_idle : (heap : List Object) (v : Value) → HeapIsIdle forms heap → FoundIsIdle (standing heap v)
  standing_idle heap Null idle = tt
  standing_idle heap (Names o) idle = stands_idle heap o (object_at heap o) refl idle
  standing_idle heap (Scalar v) idle = tt
  standing_idle heap (Part o place) idle = tt

  -- An object has no parts once it has changed, where it is of its type still.
  set_idle : (xs : List Object) (i : ℕ) (y : Object) → holds_parts forms y.cell.access ≡ false → HeapIsIdle forms xs → HeapIsIdle forms (slice_set xs i y)
  set_idle xs i y none idle = λ o x at. by xs i o.0 (λ (j : ℕ) z there. idle (record { 0 = j }) z there) x at
    where
      by : (zs : List Object) (k j : ℕ) → ((l : ℕ) (z : Object) → slice_get zs l ≡ Some z → holds_parts forms z.cell.access ≡ false)
          → (x : Object) → slice_get (slice_set zs k y) j ≡ Some x → holds_parts forms x.cell.access ≡ false
      by [] k j each x at = absurd (cc at)
      by (z ∷ zs) zero zero each x at = let one : y ≡ x = cc at in rw (← one) none
      by (z ∷ zs) zero (suc j) each x at = each (suc j) x at
      by (z ∷ zs) (suc k) zero each x at = each zero x at
      by (z ∷ zs) (suc k) (suc j) each x at = by zs k j (λ l w there. each (suc l) w there) x at

  changed_idle : (change : Object → Object) → ((x : Object) → (change x).cell.access ≡ x.cell.access) → (xs : List Object) (o : Id) (found : Option Object)
      → object_at xs o ≡ found → HeapIsIdle forms xs → HeapIsIdle forms (changed change found xs o)
  changed_idle change keeps xs o None at idle = idle
  changed_idle change keeps xs o (Some x) at idle =
      set_idle xs o.0 (change x) (ap (holds_parts forms) (keeps x) ∙ idle o x at) idle

  pub on_idle : (change : Object → Object) → ((x : Object) → (change x).cell.access ≡ x.cell.access) → (xs : List Object) (v : Value)
      → HeapIsIdle forms xs → HeapIsIdle forms (on_object change xs v)
  on_idle change keeps xs Null idle = idle
  on_idle change keeps xs (Names o) idle = changed_idle change keeps xs o (object_at xs o) refl idle
  on_idle change keeps xs (Scalar v) idle = idle
  on_idle change keeps xs (Part o place) idle = idle

  -- A component gets a value, or some do (5.2).
  pub filled_idle : (xs : List Object) (o : Value) (c : ℕ) (v : Value) → HeapIsIdle forms xs → HeapIsIdle forms (store xs o c v)
  filled_idle xs o c v idle = on_idle (filled c v) (λ x. refl) xs o idle

  pub stored_from_idle : (xs : List Object) (o : Value) (c : ℕ) (vs : List Value) → HeapIsIdle forms xs → HeapIsIdle forms (stored_from named xs o c vs)
  stored_from_idle xs o c [] idle = idle
  stored_from_idle xs o c (v ∷ vs) idle = stored_from_idle (store xs o c v) o (c + 1) vs (filled_idle xs o c v idle)

  -- A new object has none.
  pub created_idle : (xs : List Object) (cell : Cell Value) → holds_parts forms cell.access ≡ false → HeapIsIdle forms xs
      → HeapIsIdle forms (xs ++ new_object cell ∷ [])
  created_idle xs cell none idle = λ o x at. by xs o.0 (λ (j : ℕ) z there. idle (record { 0 = j }) z there) x at
    where
      by : (zs : List Object) (j : ℕ) → ((l : ℕ) (z : Object) → slice_get zs l ≡ Some z → holds_parts forms z.cell.access ≡ false)
          → (x : Object) → slice_get (zs ++ new_object cell ∷ []) j ≡ Some x → holds_parts forms x.cell.access ≡ false
      by [] zero each x at = let one : new_object cell ≡ x = cc at in rw (← one) none
      by [] (suc j) each x at = absurd (cc at)
      by (z ∷ zs) zero each x at = each zero x at
      by (z ∷ zs) (suc j) each x at = by zs j (λ l w there. each (suc l) w there) x at
