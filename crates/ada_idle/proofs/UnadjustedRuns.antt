-- Nothing is adjusted in a run of a program that copies no record with controlled parts.

use Rattle.std.proofs.Common.{◌≡◌, ℤ, true, false, List, [], ◌∷◌, refl}
use Rattle.std.specs.List.{list_any}
use Rattle.std.proofs.lemmas.Bool.{or_parts}
use Rattle.ada_program.specs.declared.program.Program.{Program}
use Rattle.ada_program.specs.Form.{declaration_forms, stmt_forms, handler_forms}
use Rattle.ada_program.specs.ProgramForm.{body_forms, main_body, program_form}
use Rattle.ada_quiet.specs.Idle.{body_makes_parts, copies_parts}
use Rattle.ada_meaning.specs.declared.state.Value.{Value}
use Rattle.ada_meaning.specs.Frame.{Frame}
use Rattle.ada_meaning.specs.Frame as frame
use Rattle.ada_meaning.specs.Named.{State, next}
use Rattle.ada_meaning.specs.Run.{Event, Choice, Step, Run, here, there, first_state}
use Rattle.ada_idle.specs.Law.{NothingAdjusted, ProgramsThatCopyNothingAdjustNothing}
use Rattle.ada_idle.proofs.Coming.{led_next}
use Rattle.ada_idle.proofs.Unadjusted.{AdjustsNone}
use Rattle.ada_idle.proofs.MakesNone.{make_none}
use Rattle.ada_idle.proofs.UnadjustedSteps.{next_unadjusted}

-- A step keeps that.
pub step_adjusts_none : (program : Program) → copies_parts (program_form program) ≡ false → (s after : State) (choice : Choice) (e : Event)
    → AdjustsNone (program_form program).types s.control → Step program s choice e after → AdjustsNone (program_form program).types after.control
step_adjusts_none program none s after choice e adjusts step =
    let types = (program_form program).types in
    let bodies = body_forms program in
    let each = (or_parts (body_makes_parts types true (main_body (program_form program))) (list_any (body_makes_parts types true) bodies) none).1 in
    led_next (λ (coming : State). AdjustsNone types coming.control) (next program.types.items bodies s) choice e after
    (next_unadjusted types program.types.items refl bodies each s adjusts) step

-- So it is in the first state.
pub first_adjusts_none : (program : Program) → copies_parts (program_form program) ≡ false → (input : List ℤ)
    → AdjustsNone (program_form program).types (first_state program input).control
first_adjusts_none program none input =
    let types = (program_form program).types in
    let main = (or_parts (body_makes_parts types true (main_body (program_form program))) (list_any (body_makes_parts types true) (body_forms program)) none).0 in
    (make_none types true (declaration_forms program) (stmt_forms program) (handler_forms program) main, tt)

-- So it is behind some steps.
run_adjusts_none : (program : Program) → copies_parts (program_form program) ≡ false → (s last : State) (events : List Event)
    → AdjustsNone (program_form program).types s.control → Run program s events last → AdjustsNone (program_form program).types last.control
run_adjusts_none program none s last events adjusts here = adjusts
run_adjusts_none program none s last (e ∷ events) adjusts (there choice mid step rest) =
    run_adjusts_none program none mid last events (step_adjusts_none program none s mid choice e adjusts step) rest

-- Nothing is left of an adjustment then.
nothing_adjusted : (program : Program) (k : List (Frame Value)) → AdjustsNone (program_form program).types k → NothingAdjusted k
nothing_adjusted program [] adjusts = tt
nothing_adjusted program (frame.Treats v treatment tasks ∷ k) adjusts = (adjusts.0, nothing_adjusted program k adjusts.1)
nothing_adjusted program (frame.Awaits v by done of part tasks ∷ k) adjusts = (adjusts.0, nothing_adjusted program k adjusts.1)
nothing_adjusted program (f ∷ k) adjusts = nothing_adjusted program k adjusts.1

-- The law.
pub copying_nothing_adjusts_nothing : ProgramsThatCopyNothingAdjustNothing
copying_nothing_adjusts_nothing program none input events last run =
    nothing_adjusted program last.control
    (run_adjusts_none program none (first_state program input) last events (first_adjusts_none program none input) run)
