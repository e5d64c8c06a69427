-- Each state of a run of a program that makes nothing with controlled parts is idle.

use Rattle.std.proofs.Common.{◌≡◌, ℤ, false, List, [], ◌∷◌, refl}
use Rattle.std.specs.List.{list_any}
use Rattle.std.proofs.lemmas.Bool.{or_parts}
use Rattle.ada_program.specs.declared.program.Program.{Program}
use Rattle.ada_program.specs.Form.{declaration_forms, stmt_forms, handler_forms}
use Rattle.ada_program.specs.ProgramForm.{body_forms, main_body, program_form}
use Rattle.ada_quiet.specs.Idle.{body_makes_parts, makes_parts}
use Rattle.ada_meaning.specs.declared.state.Value.{Value}
use Rattle.ada_meaning.specs.Finalization.{NothingTreated}
use Rattle.ada_meaning.specs.Frame.{Frame}
use Rattle.ada_meaning.specs.Frame as frame
use Rattle.ada_meaning.specs.Named.{State, next}
use Rattle.ada_meaning.specs.Run.{Event, Choice, Step, Run, here, there, first_state}
use Rattle.ada_idle.specs.Law.{IdleProgramsTreatNothing}
use Rattle.ada_idle.proofs.Coming.{led_next}
use Rattle.ada_idle.proofs.MakesNone.{make_none}
use Rattle.ada_idle.proofs.Forms.{Rests}
use Rattle.ada_idle.proofs.Idle.{ControlIsIdle, IsIdle}
use Rattle.ada_idle.proofs.Steps.{next_idle}

-- A step keeps that.
pub step_idle : (program : Program) → makes_parts (program_form program) ≡ false → (s after : State) (choice : Choice) (e : Event)
    → IsIdle (program_form program).types s → Step program s choice e after → IsIdle (program_form program).types after
step_idle program none s after choice e idle step =
    let types = (program_form program).types in
    let bodies = body_forms program in
    let each = (or_parts (body_makes_parts types false (main_body (program_form program))) (list_any (body_makes_parts types false) bodies) none).1 in
    let coming = next_idle types program.types.items refl bodies each s (idle.control, idle.heap) in
    let rests = led_next (Rests types) (next program.types.items bodies s) choice e after coming step in
    record { control = rests.0; heap = rests.1 }

-- So it is in the first state.
pub first_idle : (program : Program) → makes_parts (program_form program) ≡ false → (input : List ℤ)
    → IsIdle (program_form program).types (first_state program input)
first_idle program none input =
    let types = (program_form program).types in
    let main = (or_parts (body_makes_parts types false (main_body (program_form program))) (list_any (body_makes_parts types false) (body_forms program)) none).0 in
    record {
      control = (make_none types false (declaration_forms program) (stmt_forms program) (handler_forms program) main, tt);
      heap = λ o x there. absurd (cc there);
    }

-- So it is behind some steps.
run_idle : (program : Program) → makes_parts (program_form program) ≡ false → (s last : State) (events : List Event)
    → IsIdle (program_form program).types s → Run program s events last → IsIdle (program_form program).types last
run_idle program none s last events idle here = idle
run_idle program none s last (e ∷ events) idle (there choice mid step rest) =
    run_idle program none mid last events (step_idle program none s mid choice e idle step) rest

-- Nothing is treated then.
none_treated : (program : Program) (k : List (Frame Value)) → ControlIsIdle (program_form program).types k → NothingTreated k
none_treated program [] idle = tt
none_treated program (frame.Treats v treatment tasks ∷ k) idle = idle.0
none_treated program (frame.Awaits v by done of part tasks ∷ k) idle = idle.0
none_treated program (f ∷ k) idle = none_treated program k idle.1

-- The law.
pub idle_treats_nothing : IdleProgramsTreatNothing
idle_treats_nothing program none input events last run =
    let idle = run_idle program none (first_state program input) last events (first_idle program none input) run in
    none_treated program last.control idle.control
