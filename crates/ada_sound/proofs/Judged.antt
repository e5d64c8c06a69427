-- A body that tracks components of its formal parameter (7.6), as it is judged: it has a variable for each of them, behind its own.

use Rattle.std.proofs.Common.{ℕ, List}
use Rattle.std.specs.Prelude.{Some}
use Rattle.ada_program.specs.declared.program.Program.{Program}
use Rattle.ada_program.specs.ProgramForm.{ProgramForm, program_form, seen_in}
use Rattle.ada_deeds.specs.Implicit.{implicit_of}
use Rattle.ada_flow.specs.Tracking.{Tracks, tracked_numbers}
use Rattle.ada_sound.proofs.Ahead.{ahead_in}
use Rattle.ada_sound.proofs.Touched.{touches_in}
use Rattle.ada_sound.proofs.Callers.{Suspension, callers_of, judged_form}
use Rattle.ada_sound.proofs.Invariant.{Known}

-- The program as the body sees it, where it is judged.
abbrev pub judged_in : Tracks → ProgramForm → ProgramForm
judged_in tracks p = judged_form tracks p

-- What is known of the body of a procedure at work, as it is judged, that these have called. Nothing is said of the places to which flow comes in it.
abbrev pub known_judged : Program → (number : ℕ) → Tracks → List Suspension → Known
known_judged program number tracks gs = record {
  implicit = implicit_of (program_form program);
  program = judged_in tracks (seen_in (Some number) (program_form program));
  ahead = ahead_in (program_form program);
  touches = touches_in (program_form program);
  At = λ place holds. Unit {0};
  callers = callers_of program gs;
  tracked = tracked_numbers tracks;
}
