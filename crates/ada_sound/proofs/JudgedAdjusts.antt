-- What comes out of the body of an Adjust that is called for a part of a copy (7.6, 7.6.1), as the body is judged: nothing.

use Rattle.std.proofs.Common.{◌≡◌, ℕ, true, [], sym, ◌∙◌}
use Rattle.std.specs.List.{slice_get}
use Rattle.std.specs.Prelude.{Some}
use Rattle.ada_deeds.specs.Implicit.{implicit_of}
use Rattle.ada_flow.specs.Tracking.{Tracks}
use Rattle.ada_judged.specs.Fitting.{TracksComponents}
use Rattle.ada_judged.specs.Obeying.{BodyIsOrderly}
use Rattle.ada_program.specs.Controlled.{operations_of, procedure_number}
use Rattle.ada_program.specs.declared.program.Exception.{Exception}
use Rattle.ada_program.specs.declared.program.Program.{Program}
use Rattle.ada_program.specs.ProgramForm.{BodyForm, body_forms, program_form, seen_in}
use Rattle.ada_program.specs.WellFormed.{IsWellFormed}
use Rattle.ada_quiet.specs.Idle.{copies_parts}
use Rattle.ada_sound.specs.Always.{LetsNothingOut}
use Rattle.ada_sound.proofs.Invariant.{body_among}
use Rattle.ada_sound.proofs.Judged.{known_judged}
use Rattle.ada_sound.proofs.JudgedForms.{judged_among, orderly_seen, tracks_seen}
use Rattle.ada_sound.proofs.OperationsLet.{adjusts_let}
use Rattle.ada_typed.proofs.Lying.{IsOperable}

-- Where no exception comes out of an Adjust, none comes out of its body as it is judged.
pub judged_lets_none :
    (program : Program) → IsWellFormed (program_form program) → LetsNothingOut (program_form program) → copies_parts (program_form program) ≡ true
    → (access of part number : ℕ) (b : BodyForm) → IsOperable (program_form program).types access of part → slice_get (body_forms program) number ≡ Some b
    → procedure_number (operations_of program.types.items of).adjust ≡ Some number
    → (tracks : Tracks) → TracksComponents (program_form program).types tracks b.variables → BodyIsOrderly tracks b
    → (e : Exception) → body_among (implicit_of (program_form program)) (known_judged program number tracks []).program e ≡ true → ⊥
judged_lets_none program well none_out copies access of part number b operable there overrides tracks components orderly e among =
    let p = program_form program in
    let seen = seen_in (Some number) p in
    let same = judged_among seen tracks (tracks_seen p number b tracks there components) (orderly_seen p number b tracks there orderly) (implicit_of p) e in
    adjusts_let program well access of part number b operable there e (sym same ∙ among) none_out copies overrides
