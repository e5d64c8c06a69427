-- Laws of finalization, of any run of any program, as they are used here.

use Rattle.std.proofs.Common.{◌≡◌, ℕ, zero, suc, ◌<◌, true, false, List, [], ◌∷◌, length, Some, refl, sym, ◌∙◌, subst, arith}
use Rattle.std.specs.Prelude.{ℤ, AllPairs}
use Rattle.std.specs.List.{slice_get}
use Rattle.ada_program.specs.declared.program.Program.{Program}
use Rattle.ada_program.specs.declared.program.TypeDefinition.{TypeDefinition}
use Rattle.ada_program.specs.Controlled.{shapes_of}
use Rattle.ada_program.specs.ProgramForm.{TypeForm, BodyForm, program_form, body_forms}
use Rattle.ada_program.specs.WellFormed.{IsWellFormed}
use Rattle.ada_meaning.specs.declared.event.Halt.TheVariants.{Erroneous}
use Rattle.ada_meaning.specs.declared.event.Why.TheVariants.{FinalizesTwice}
use Rattle.ada_meaning.specs.declared.state.Id.{Id}
use Rattle.ada_meaning.specs.declared.state.Mode.{Mode}
use Rattle.ada_meaning.specs.declared.state.Mode.TheVariants.{Running, Raising, Exiting, Returning}
use Rattle.ada_meaning.specs.declared.state.Value.{Value}
use Rattle.ada_meaning.specs.Frame.{Frame}
use Rattle.ada_meaning.specs.Frame as frame
use Rattle.ada_meaning.specs.Heap.{PartState}
use Rattle.ada_meaning.specs.Step.{parts_held}
use Rattle.ada_meaning.specs.Named.{Object, State, object_at, all_alive, next}
use Rattle.ada_meaning.specs.Run.{Event, Run, Halts, first_state}
use Rattle.ada_meaning.specs.Law.{FinalizedTwoValues}
use Rattle.ada_meaning.specs.Finalization.{FinalizationLaw, HasParts, PartsStand}
use Rattle.ada_typed.specs.Holding.{seen_now}
use Rattle.ada_typed.proofs.Control as typed
use Rattle.ada_typed.proofs.Kept.{behind_call}
use Rattle.ada_typed.proofs.Parts.{parts_counted, parts_shown}
use Rattle.ada_typed.proofs.Runs.{objects_have_their_parts}
use Rattle.ada_finalized.proofs.Runs as runs
use Rattle.ada_finalized.proofs.Standing as standing
use Rattle.ada_finalized.proofs.Standing.{TreatsNothing, nothing_treated_at}
use Rattle.ada_finalized.proofs.Twice.{never_twice}
use Rattle.ada_finalized.specs.Law.{NoOperationRuns}
use Rattle.ada_sound.proofs.Calm.{ends_operation, typed_calm}
use Rattle.ada_sound.proofs.Fits.{Outsiders}
use Rattle.ada_sound.proofs.Operating.{IsCalm}
use Rattle.ada_sound.proofs.Standing.{AllStand, any_type, FinalizesBy, FinalizesIn}
use Rattle.ada_sound.proofs.Starts.{IsReached}

-- A controlled value is finalized at most once (7.6.1).
pub finalized_once : (program : Program) (input : List ℤ) (events : List Event) (last : State) → Run program (first_state program input) events last → AllPairs FinalizedTwoValues events
finalized_once program input events last run = runs.finalized_once program input events last run

-- All laws of finalization are kept (7.6, 7.6.1).
pub finalizes : (program : Program) (input : List ℤ) (events : List Event) (last : State) → Run program (first_state program input) events last → FinalizationLaw (shapes_of program.types.items) events
finalizes program input events last run = runs.finalizations program input events last run

-- While nothing is treated, each object that is in its collection has the values of all its controlled parts.
pub stands : (program : Program) (input : List ℤ) (events : List Event) (last : State) → Run program (first_state program input) events last → PartsStand program.types.items last
stands program input events last run = standing.all_stand program input events last run

-- Parts have values where each of their numbers has one.
all_have : (parts : List PartState) → ((n : ℕ) → n < length parts → (p : PartState) × (slice_get parts n ≡ Some p) × (p.alive ≡ true)) → all_alive parts ≡ true
all_have [] each = refl
all_have (p ∷ parts) each =
    let first = each zero (omega arith) in
    let one : p ≡ first.0 = let is = first.1 in cc is in
    let later = all_have parts (λ n lt. each (suc n) (omega (arith, lt))) in
    rw (one, first.2) later

-- What a run of a well-formed program comes to.
module _ (program : Program) (well : IsWellFormed (program_form program)) (s : State) (reached : IsReached program s) where
  -- An object has as many parts as its type says.
  parts_counted_so : (o : Id) (x : Object) → object_at s.heap o ≡ Some x → length x.cell.parts ≡ parts_held program.types.items x.cell.access
  parts_counted_so o x found =
      let types = program.types.items in
      let forms = (program_form program).types in
      objects_have_their_parts program well reached.0 reached.1 s o x reached.2 found
      ∙ (parts_counted types forms x.cell.access refl well.types_fit ∙ parts_shown types forms x.cell.access refl)

  -- So where each number of a part has a value, all its parts have one.
  pub parts_alive : (o : Id) (x : Object) → object_at s.heap o ≡ Some x → HasParts program.types.items x → all_alive x.cell.parts ≡ true
  parts_alive o x found has =
      let counted = parts_counted_so o x found in
      all_have x.cell.parts (λ n lt. has n (omega (arith, lt, counted)))

-- What it comes to, where no operation runs behind the call of the running body.
module _ (program : Program) (well : IsWellFormed (program_form program)) (s : State) (reached : IsReached program s) (typing : typed.Typed (program_form program) s) (calm : IsCalm (behind_call s.control)) where
  abbrev types : List TypeDefinition
  types = program.types.items

  abbrev bodies : List BodyForm
  bodies = body_forms program

  -- No operation runs, if none ends next.
  none_runs : ends_operation s.control ≡ false → NoOperationRuns s.control
  none_runs none = typed_calm (seen_now (program_form program) s) s typing.inside none calm

  -- So each has a value, at a frame with which no treatment begins.
  stand_before : (f : Frame Value) (k : List (Frame Value)) → s.control ≡ f ∷ k → TreatsNothing f → typed.is_operation f ≡ false → (forms : List TypeForm) (outer : Outsiders) → AllStand any_type forms outer s.heap
  stand_before f k is plain none forms outer o x found listed of freely inside =
      let untreated = nothing_treated_at program reached.0 reached.1 s (none_runs (rw is none)) reached.2 f k is plain in
      parts_alive program well s reached o x found (stands program reached.0 reached.1 s reached.2 untreated o x found listed)

  -- A state with these parts.
  state_is : (mode : Mode) (k : List (Frame Value)) → s.mode ≡ mode → s.control ≡ k → s ≡ record s { mode = mode; control = k }
  state_is mode k running is =
      subst (λ (m : Mode). s ≡ record s { mode = m; control = k }) running
      (subst (λ (j : List (Frame Value)). s ≡ record s { control = j }) is refl)

  -- What finalization leaves of a step, by the frame that is next.
  by_frame : (f : Frame Value) (k : List (Frame Value)) → s.mode ≡ Running → s.control ≡ f ∷ k → (forms : List TypeForm) (outer : Outsiders) → FinalizesBy any_type forms outer types bodies f (record s { mode = Running; control = k })
  unfolding next
  by_frame (frame.Does fs) k running is forms outer = stand_before (frame.Does fs) k is tt refl forms outer
  by_frame (frame.FreesIn access c) k running is forms outer = stand_before (frame.FreesIn access c) k is tt refl forms outer
  by_frame (frame.Treats v treatment tasks) k running is forms outer = λ twice.
      never_twice program reached.0 reached.1 s (none_runs (rw is refl)) reached.2 v treatment tasks k is
      (subst (λ (t : State). Halts program t (Erroneous FinalizesTwice)) (sym (state_is Running (frame.Treats v treatment tasks ∷ k) running is)) twice)
  by_frame f k running is forms outer = tt

  by_mode : (mode : Mode) (k : List (Frame Value)) → s.mode ≡ mode → s.control ≡ k → (forms : List TypeForm) (outer : Outsiders) → FinalizesIn any_type forms outer types bodies mode k s
  by_mode Running [] running is forms outer = tt
  by_mode Running (f ∷ k) running is forms outer = by_frame f k running is forms outer
  by_mode (Raising e) k running is forms outer = tt
  by_mode Exiting k running is forms outer = tt
  by_mode Returning k running is forms outer = tt

  -- Each object that may be freed stands, and no treatment finalizes a value that does not exist.
  pub finalizes_in : (forms : List TypeForm) (outer : Outsiders) → FinalizesIn any_type forms outer types bodies s.mode s.control s
  finalizes_in forms outer = by_mode s.mode s.control refl refl forms outer
