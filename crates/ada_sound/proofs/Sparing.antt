-- The body of an Adjust that tracks components looks at the object that is adjusted by its formal parameter alone (7.6): it follows no value of the object's
-- own access type, and frees none (7.6.1). So it is in each state of such a body, though variables and components may name the object.

use Rattle.std.proofs.Common.{◌≡◌, ℕ, Bool, true, false, List, [], ◌∷◌, Some, drop, refl, sym, ap, ◌∙◌}
use Rattle.std.specs.List.{list_all, slice_get}
use Rattle.std.proofs.lemmas.Bool.{true≢false}
use Rattle.ada_parts.specs.declared.tasks.Direction.TheVariants.{WholeFirst}
use Rattle.ada_parts.specs.Task.{Task, performed}
use Rattle.ada_program.specs.Controlled.{shapes_of}
use Rattle.ada_program.specs.declared.program.Program.{Program}
use Rattle.ada_program.specs.declared.program.TypeDefinition.{TypeDefinition}
use Rattle.ada_program.specs.ProgramForm.{BodyForm, ProgramForm, program_form, body_forms, seen_in}
use Rattle.ada_program.specs.WellFormed.{IsWellFormed}
use Rattle.ada_quiet.specs.Bare.{has_bare_objects}
use Rattle.ada_quiet.specs.Simple.{holds_one_value}
use Rattle.ada_meaning.specs.declared.state.Id.{Id}
use Rattle.ada_meaning.specs.declared.state.Mode.{Mode}
use Rattle.ada_meaning.specs.declared.state.Place.{Place}
use Rattle.ada_meaning.specs.declared.state.Value.TheVariants.{Part}
use Rattle.ada_meaning.specs.Frame.{Frame, is_return}
use Rattle.ada_meaning.specs.Frame as frame
use Rattle.ada_meaning.specs.State.{Master}
use Rattle.ada_meaning.specs.Step.{halts, moves, tells, asks, picks, all_tasks, operands, operating, picked_task, older, places, procedure_of}
use Rattle.ada_meaning.specs.Named.{Object, State, Next, named, object_at, next}
use Rattle.ada_tracked.specs.Frames.{View}
use Rattle.ada_tracked.specs.Looking.{LooksElsewhere, FirstLooksElsewhere}
use Rattle.ada_tracked.specs.Staying.{BodyIsSimple, UnlessItEnds}
use Rattle.ada_typed.proofs.Control as typed
use Rattle.ada_reaching.specs.Apart.{Apart, IsLeftOf, whole, picked, called}
use Rattle.ada_reaching.specs.Forms.{body_shuns}
use Rattle.ada_reaching.specs.Law.{AllGoOn, AreApart, FirstHousesIts, GoesOn}
use Rattle.ada_reaching.specs.Reaching.{AtEnd, IsReaching, LeftShuns, OperandSeeks, none_unnamed}
use Rattle.ada_reaching.proofs.Jumps.{FirstIsRooted}
use Rattle.ada_reaching.proofs.Law.{operation_reaches, rooted_now, sound_now, stays_reaching}
use Rattle.ada_reaching.proofs.Paths.{IsSound}
use Rattle.ada_reaching.proofs.Selections.{bare_tasks}
use Rattle.ada_sound.proofs.FrugalControl.{is_return_first}
use Rattle.ada_sound.proofs.Invariant.{Control}
use Rattle.ada_sound.proofs.SparingLooks.{SoughtIsOther, NextIsBare, first_elsewhere}
use Rattle.ada_sound.proofs.SparingSteps.{Sought, calm_sought, step_sought}
use Rattle.ada_sound.specs.Agreement.{running_procedure}
pub use Rattle.ada_sound.proofs.SparingLooks.{no_ghosts}
pub use Rattle.ada_sound.proofs.SparingPaths.{is_around}

-- Such a body calls nothing, and frees objects without controlled parts alone.
abbrev pub bare_apart : Program → Apart
bare_apart program = record {
  calls = λ procedure. false;
  ends = has_bare_objects (program_form program).types;
  starts = λ access. false;
  assigns = λ record_type. false;
  copies = λ record_type. false;
  definitions = program.types.items;
}

-- What is known of a state of such a body, where the object is of this access type.
pub record Sparing (program : Program) (o : Id) (around : ℕ) (behind : Control) (lower : List Master) (s : State) : Type 0 where
  pub reaching : IsReaching (program_form program) (is_around around) (bare_apart program) no_ghosts none_unnamed behind lower s
  pub sought : SoughtIsOther (program_form program).types o s.mode s.control (operands s)

-- It holds where the body begins.
pub begins_sparing :
    (program : Program) (number : ℕ) (b : BodyForm) → slice_get (program_form program).bodies number ≡ Some b → (around : ℕ)
    → body_shuns (program_form program).types (is_around around) (bare_apart program) b ≡ true → (o : Id) (place : Place) (behind : Control) (s : State)
    → Sparing program o around behind s.masters (operating named number b (Part o place) behind s)
begins_sparing program number b there around shuns o place behind s = record {
  reaching =
      operation_reaches (program_form program) (is_around around) (bare_apart program) no_ghosts none_unnamed number b (Part o place) behind s there shuns
      (λ q is. absurd (cc)) (λ q is. absurd (cc)) (λ q y is at listed. absurd (cc)) refl;
  sought = calm_sought (program_form program).types o s.mode (frame.Elaborates b.declarations b.statements b.handlers ∷ frame.Returns [] [] ∷ behind) [] refl;
}

-- Nothing is left of the finalization of an object without controlled parts.
bare_left :
    (tds : List TypeDefinition) (access : ℕ) {tasks : List Task} → all_tasks tds access WholeFirst ≡ [] → IsLeftOf tds WholeFirst access tasks → tasks ≡ []
bare_left tds access none whole = none
bare_left tds access none (picked i left) =
    ap (λ (tasks : List Task). picked_task (shapes_of tds) WholeFirst tasks i) (bare_left tds access none left)
bare_left tds access none (called left) = ap performed (bare_left tds access none left)

-- So the finalization of what such a body frees calls nothing.
pub are_bare : (program : Program) (shuns : ℕ → Bool) → AreApart (program_form program) program.types.items shuns (bare_apart program)
are_bare program shuns = record {
  own = refl;
  bodies = λ number b among there. absurd (cc);
  operations = record {
    finalizes = λ access of part number tasks may left overrides.
        let types = (program_form program).types in
        let none = bare_left program.types.items access (bare_tasks program.types.items types access WholeFirst refl may) left in
        absurd (cc (none));
    initializes = λ access of part number may begun overrides. absurd (cc);
    undoes = λ access of part number may begun overrides. absurd (cc);
    overwrites = λ record_type of part number tasks may left overrides. absurd (cc);
    adjusts = λ record_type of part number tasks may left overrides. absurd (cc);
  };
}

-- What holds where a body does not end.
further : (end on : Type 0) (ends : Bool) → ends ≡ false → AtEnd ends end on → on
further end on true isnt h = absurd (cc)
further end on false isnt h = h

-- Something holds where it does not.
unless : (on : Type 0) (ends : Bool) → ends ≡ false → UnlessItEnds ends on → on
unless on true isnt h = absurd (cc)
unless on false isnt h = h

-- What the first of what is left to do looks at, and what comes next of it.
module _ (program : Program) (s : State) (o : Id) (x : Object) (found : object_at s.heap o ≡ Some x)
    (sound : IsSound (program_form program).types (seen_in (procedure_of s.activations) (program_form program)).variables s.heap (places s))
    (plain : list_all (λ y. holds_one_value y.kind) (drop 1 (seen_in (procedure_of s.activations) (program_form program)).variables) ≡ true)
    (first : ℕ) (behind : Control) (lower upper : List Master) where
  -- The program.
  abbrev p : ProgramForm
  p = program_form program

  -- Both are so.
  both_spare :
      (m : Mode) (k : Control) → BodyIsSimple first k → is_return_first k ≡ false
      → LeftShuns p (is_around x.cell.access) (bare_apart program) no_ghosts none_unnamed behind lower (procedure_of s.activations) k upper
      (older s.activations)
      → FirstIsRooted p.types (seen_in (procedure_of s.activations) p).variables m k
      → OperandSeeks p.types (is_around x.cell.access) (bare_apart program) no_ghosts s.heap m k (operands s) → SoughtIsOther p.types o m k (operands s)
      → NextIsBare p.types m k
      → FirstLooksElsewhere o s m k × AllGoOn (Sought p.types o) (next program.types.items (body_forms program) (record s { mode = m; control = k }))
  both_spare m [] simple inner left root seeks sought bare = absurd left
  both_spare m (f ∷ k) simple inner left root seeks sought bare =
      let variables = (seen_in (procedure_of s.activations) p).variables in
      let own = unless _ (is_return f) inner simple in
      let h = further _ _ (is_return f) inner left in (
        first_elsewhere p.types variables s sound plain o x found (bare_apart program) p.bodies first m f k own.0 h.0 h.1 root seeks sought,
        step_sought p.types variables s sound plain o x found (bare_apart program) program.types.items (body_forms program) first m f k own.0 h.0 h.1 root seeks
            sought bare,
      )

-- It goes on so, whatever comes next.
goes_sparing :
    (program : Program) (o : Id) (around : ℕ) (behind : Control) (lower : List Master) (before : List Object) (n : Next)
    → AllGoOn (GoesOn (program_form program) (is_around around) (bare_apart program) no_ghosts none_unnamed behind lower before) n
    → AllGoOn (Sought (program_form program).types o) n
    → AllGoOn (Sparing program o around behind lower) n
goes_sparing program o around behind lower before (halts h) on sought = tt
goes_sparing program o around behind lower before (moves e s) on sought = record { reaching = on.reaching; sought = sought }
goes_sparing program o around behind lower before (tells request e s) on sought = record { reaching = on.reaching; sought = sought }
goes_sparing program o around behind lower before (asks request answers) on sought = λ granted.
    record { reaching = (on granted).reaching; sought = sought granted }
goes_sparing program o around behind lower before (picks count taking) on sought = λ i below.
    record { reaching = (on i below).reaching; sought = sought i below }

-- And behind each step, which looks at the object by the formal parameter alone.
pub stays_sparing :
    (program : Program) → IsWellFormed (program_form program) → (s : State) → typed.Typed (program_form program) s
    → list_all (λ y. holds_one_value y.kind) (drop 1 (seen_in (running_procedure s) (program_form program)).variables) ≡ true
    → (w : View) (x : Object) → object_at s.heap w.object ≡ Some x → BodyIsSimple w.tracks.first s.control → is_return_first s.control ≡ false
    → FirstHousesIts s.control s.heap s.masters → NextIsBare (program_form program).types s.mode s.control → (behind : Control) (lower : List Master)
    → Sparing program w.object x.cell.access behind lower s
    → LooksElsewhere w s × AllGoOn (Sparing program w.object x.cell.access behind lower) (next program.types.items (body_forms program) s)
stays_sparing program well s typing plain w x found simple inner houses bare behind lower sparing =
    let around = x.cell.access in
    let reaching = sparing.reaching in
    let both =
    both_spare program s w.object x found (sound_now program well s typing) plain w.tracks.first behind lower reaching.upper s.mode s.control simple inner
    reaching.control (rooted_now program s typing) reaching.seeks sparing.sought bare in
    let on = stays_reaching program well (is_around around) (bare_apart program) (are_bare program (is_around around)) no_ghosts none_unnamed behind lower s
    typing reaching (record { on = λ ends. true≢false (sym (ap is_return_first ends) ∙ inner); houses = houses }) in
    (both.0, goes_sparing program w.object around behind lower s.heap (next program.types.items (body_forms program) s) on.1 both.1)
