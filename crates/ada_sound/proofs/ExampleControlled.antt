-- The program with controlled record types of the laws of finalization meets the premises of the laws, too, with a run of it.

use Rattle.std.proofs.Common.{List, [], ◌∷◌, ◌++◌, refl, true}
use Rattle.ada_program.specs.Form.{expression_form, stmt_form, no_handlers}
use Rattle.ada_flow.specs.Flow.{uses_in}
use Rattle.ada_meaning.specs.declared.event.Halt.TheVariants.{Finished}
use Rattle.ada_meaning.specs.Named.{next}
use Rattle.ada_meaning.specs.Run.{Choice, grants, takes}
use Rattle.ada_finalized.specs.Example.{controlled_stmts, controlled_events}
use Rattle.ada_finalized.proofs.Example as controlled
use Rattle.ada_sound.specs.Always.{IsChecked, FinishesAfter}
use Rattle.ada_sound.proofs.Choices.{halts_after, accepted_by}
use Rattle.ada_sound.proofs.Example.{steps}

pub accepted : IsChecked controlled.program
unfolding expression_form stmt_form uses_in
accepted = accepted_by controlled.program controlled_stmts no_handlers controlled.form refl _ _ refl refl refl

-- The component of each object is picked where it is initialized, adjusted and finalized; the record objects are picked at the leaving.
abbrev choices : List Choice
choices =
    steps 4 ++ takes 0 ∷ steps 7 ++ takes 0 ∷ steps 8 ++ grants true ∷ takes 0 ∷ steps 10 ++ takes 0 ∷ steps 3 ++ takes 0 ∷ steps 4 ++ takes 0 ∷ steps 8
    ++ takes 0 ∷ steps 1 ++ takes 0 ∷ steps 4 ++ takes 0 ∷ steps 1 ++ takes 0 ∷ steps 10

pub finalizes : FinishesAfter controlled_events controlled.program
unfolding next expression_form stmt_form
finalizes = halts_after controlled.program controlled_stmts no_handlers controlled.form refl [] choices controlled_events Finished refl refl refl
