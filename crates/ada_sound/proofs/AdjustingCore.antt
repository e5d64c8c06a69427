-- The steps of a body that tracks components (7.6), as it is judged, keep the invariant: it calls nothing.

use Rattle.std.proofs.Common.{◌≡◌, ℕ, true, false, List, [], ◌∷◌}
use Rattle.ada_flow.specs.Tracking.{Tracks}
use Rattle.ada_meaning.specs.Frame.{Does}
use Rattle.ada_program.specs.declared.program.Program.{Program}
use Rattle.ada_program.specs.Form.{calls, a_stmt, no_stmts}
use Rattle.ada_program.specs.ProgramForm.{body_forms}
use Rattle.ada_typed.proofs.Control.{OwnBody}
use Rattle.ada_sound.proofs.AdjustingKept.{StepsKeep, reaches_judged}
use Rattle.ada_sound.proofs.AdjustingSeen.{calls_or_copies}
use Rattle.ada_sound.proofs.Callers.{Suspension}
use Rattle.ada_sound.proofs.CopiedOwners.{CopiesWell}
use Rattle.ada_sound.proofs.Invariant.{Control}
use Rattle.ada_sound.proofs.Judged.{known_judged}
use Rattle.ada_sound.proofs.Steps.{calls_next, fine_unless_called}

-- The steps of a body that is judged keep the invariant.
pub judged_keeps : (program : Program) (number : ℕ) (tracks : Tracks) (gs : List Suspension) → CopiesWell (known_judged program number tracks gs).program.types
    → OwnBody (known_judged program number tracks gs).program → StepsKeep (known_judged program number tracks gs) program.types.items (body_forms program)
judged_keeps program number tracks gs copies own t alone none typing bare lone may finalizes aside freely low stays ready =
    fine_unless_called (known_judged program number tracks gs) copies may program.types.items (reaches_judged program number tracks gs) (body_forms program) t (λ next. absurd (not_next t.control alone next)) bare none typing own lone finalizes aside freely low stays ready
  where
    not_next : (k : Control) → calls_or_copies k ≡ false → calls_next k ≡ true → ⊥
    not_next [] alone next = cc next
    not_next (Does (a_stmt (calls procedure actuals) fs) ∷ k) alone next = cc alone
    not_next (Does no_stmts ∷ k) alone next = cc next
    not_next (Does (a_stmt f fs) ∷ k) alone next = cc next
    not_next (f ∷ k) alone next = cc next
