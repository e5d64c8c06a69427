-- Where nothing tracks components (7.6), no record with owners is copied; and where the components of each record stand in order, an Adjust sees to those of each
-- copy, and nothing but the treatment of an object calls that. Where an operation may touch storage, no allocator with items makes an object for which one is called
-- (4.8).

use Rattle.std.proofs.Common.{◌≡◌, ℕ, Bool, true, false, ◌&&◌, not, List, ◌∷◌, refl, sym, ap, subst, inl, inr}
use Rattle.std.specs.Prelude.{Option}
use Rattle.std.specs.List.{list_all}
use Rattle.ada_program.specs.declared.program.Program.{Program}
use Rattle.ada_program.specs.Form.{ActualForm, ItemForm, allocates}
use Rattle.ada_program.specs.ProgramForm.{TypeForm, BodyForm, ProgramForm, program_form, seen_in}
use Rattle.ada_program.specs.WellFormed.{IsWellFormed}
use Rattle.std.proofs.lemmas.Bool.{and_parts, and_right}
use Rattle.ada_meaning.specs.Frame.{Calls, Evaluates}
use Rattle.ada_meaning.specs.Named.{State}
use Rattle.ada_quiet.specs.Apart.{is_bare_item, is_tracker, operations_stand_apart}
use Rattle.ada_quiet.specs.Bare.{has_bare_objects}
use Rattle.ada_quiet.specs.Idle.{makes_parts}
use Rattle.ada_quiet.specs.InUse.{may_be_frugal, is_copied_in_order}
use Rattle.ada_quiet.specs.Calm.{are_calm_in}
use Rattle.ada_sound.proofs.CalmObjects.{calm_if_bare}
use Rattle.ada_sound.proofs.Callers.{Suspension, known_in}
use Rattle.ada_sound.proofs.CallsApart.{CallApart}
use Rattle.ada_sound.proofs.CallsApartRuns.{no_record_allocated, no_tracker_called}
use Rattle.ada_sound.proofs.CopiedOwners.{CopiesWell}
use Rattle.ada_sound.proofs.Gathered.{AllocatesApart, AllocatesBare, allocates_bare}
use Rattle.ada_sound.proofs.Invariant.{AreObjects, Control}
use Rattle.ada_sound.proofs.OnlyRows.{AreCopiedInOrder}
use Rattle.ada_sound.proofs.CoveredOwners.{covered_there}
use Rattle.ada_sound.proofs.SeenOwners.{copies_well}
use Rattle.ada_sound.proofs.Returns.{same_types}
use Rattle.ada_sound.proofs.Sees.{copies_in, objects_in, allocates_in}
use Rattle.ada_sound.proofs.Touched.{touches_in}
use Rattle.ada_sound.proofs.Trackers.{TracksApart, TracksSafely, nothing_adjusts}

-- Where the components of each record stand in order, types are as a copy needs them.
pub copied_in_order : (p : ProgramForm) → IsWellFormed p → list_all (is_copied_in_order p.types) p.types ≡ true → AreCopiedInOrder p.types
copied_in_order p well order = record {
  types_fit = well.types_fit;
  components_lie = well.components_lie;
  copied_in_order = order;
}

-- So copies that leave no two owners are seen to.
pub tracked_well :
    (program : Program) → IsWellFormed (program_form program) → list_all (is_copied_in_order (program_form program).types) (program_form program).types ≡ true
    → CopiesWell (program_form program).types
tracked_well program well order =
    let p = program_form program in
    copies_well p.types (copied_in_order p well order) (covered_there program well)

-- What a body copies leaves no two owners.
pub copies_at : (program : Program) (procedure : Option ℕ) (gs : List Suspension) → IsWellFormed (program_form program) → TracksSafely (program_form program) → CopiesWell (known_in program procedure gs).program.types
copies_at program procedure gs well (inl none) = copies_in program procedure gs well (nothing_adjusts (program_form program) none)
copies_at program procedure gs well (inr stand) = subst CopiesWell (sym (same_types procedure (program_form program))) (tracked_well program well stand.1)

-- Where operations stand apart, what is left to do calls nothing that tracks, and no allocator in it makes an object with controlled parts from items, or copies a
-- record with some.
abbrev pub StaysApart : ProgramForm → Control → Type 0
StaysApart p k = operations_stand_apart p ≡ true → CallApart p.types (is_tracker p) k

-- No record with controlled parts is among the items of an allocator that is evaluated next, and its object has none.
bare_next : (p : ProgramForm) (s : State) → operations_stand_apart p ≡ true → StaysApart p s.control → (access : ℕ) (items : List ItemForm) (behind : Control)
    → s.control ≡ Evaluates (allocates access items) ∷ behind → (has_bare_objects p.types access ≡ true) × (list_all (is_bare_item p.types) items ≡ true)
bare_next p s stand apart' access items behind is =
    and_parts (has_bare_objects p.types access) (list_all (is_bare_item p.types) items)
    (no_record_allocated p.types (is_tracker p) s (allocates access items) behind is (apart' stand))

-- So no operation is called for that object that touches storage.
pub makes_apart : (p : ProgramForm) (s : State) → StaysApart p s.control → AllocatesApart (touches_in p) s.control
makes_apart p s apart' access items behind is = by (may_be_frugal p) refl
  where
    by : (may : Bool) → may_be_frugal p ≡ may → ((may && makes_parts p) && not (are_calm_in p access)) ≡ false
    by false never = refl
    by true may =
        and_right (makes_parts p) (not (are_calm_in p access))
        (ap not (calm_if_bare p access (bare_next p s may apart' access items behind is).0))

-- And the records among those items own nothing.
pub tracked_bare :
    (program : Program) → IsWellFormed (program_form program) → TracksApart (program_form program) → (own : ProgramForm) → own.types ≡ (program_form program).types
    → (s : State) → AreObjects own.types own.variables → StaysApart (program_form program) s.control
    → AllocatesBare own (touches_in (program_form program)) s.control
tracked_bare program well stand own same s objects apart' =
    let p = program_form program in
    allocates_bare own (subst CopiesWell (sym same) (tracked_well program well stand.1)) s.control
    (λ access items behind is. subst (λ (types : List TypeForm). list_all (is_bare_item types) items ≡ true) (sym same) (bare_next p s stand.0 apart' access items behind is).1)
    objects (makes_apart p s apart')

-- So it is with an allocator that a body of the program evaluates next.
pub allocates_at : (program : Program) (procedure : Option ℕ) (gs : List Suspension) (s : State) → IsWellFormed (program_form program) → TracksSafely (program_form program) → StaysApart (program_form program) s.control
    → AllocatesBare (known_in program procedure gs).program (known_in program procedure gs).touches s.control
allocates_at program procedure gs s well (inl none) apart' =
    let p = program_form program in
    allocates_in program procedure gs s.control well (nothing_adjusts p none) (makes_apart p s apart')
allocates_at program procedure gs s well (inr stand) apart' =
    let p = program_form program in
    tracked_bare program well stand (seen_in procedure p) (same_types procedure p) s (objects_in program procedure well) apart'

-- What is called next tracks nothing.
pub called_apart : (program : Program) (s : State) (number : ℕ) (b : BodyForm) (actuals : List ActualForm) (k : Control) → s.control ≡ Calls number b actuals ∷ k → TracksSafely (program_form program)
    → StaysApart (program_form program) s.control → is_tracker (program_form program) number ≡ false
called_apart program s number b actuals k is (inl none) apart' = none number
called_apart program s number b actuals k is (inr stand) apart' =
    let p = program_form program in
    no_tracker_called p.types (is_tracker p) s number b actuals k is (apart' stand.0)
