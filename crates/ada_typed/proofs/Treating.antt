-- Objects whose controlled parts are treated before what comes behind (7.6, 7.6.1).

use Rattle.ada_typed.specs.Holding.{Cells}
use Rattle.std.proofs.Common.{◌≡◌, ℕ, List, [], ◌∷◌, length, map, arith, refl, sym, ap, ◌∙◌, subst}
use Rattle.std.proofs.lemmas.List.{length-map}
use Rattle.ada_parts.specs.declared.tasks.Direction.{Direction}
use Rattle.ada_parts.specs.Shape.{Shape}
use Rattle.ada_parts.specs.Task.{Task}
use Rattle.ada_program.specs.declared.program.TypeDefinition.{TypeDefinition}
use Rattle.ada_program.specs.Controlled.{number_reached, shapes_of, part_firsts}
use Rattle.ada_program.specs.ProgramForm.{TypeForm, ProgramForm, type_form}
use Rattle.ada_meaning.specs.declared.state.Value.{Value}
use Rattle.ada_meaning.specs.Frame.{Frame, Treatment}
use Rattle.ada_program.specs.WellFormed.{named_in}
use Rattle.std.specs.List.{slice_get}
use Rattle.ada_meaning.specs.Step.{tasks_for, all_tasks, new_part, new_parts, treating}
use Rattle.ada_program.proofs.Firsts.{as_many_firsts}
use Rattle.ada_meaning.proofs.Treatments.{are_table}
use Rattle.ada_typed.proofs.Lying.{Lying, lying_all}
use Rattle.ada_typed.proofs.Parts.{shown_number, shown_shapes, parts_known, firsts_known, shapes_shown, parts_shown, known_number, known_firsts, Within, within_all}
use Rattle.ada_typed.proofs.Values.{OperandKind}
use Rattle.ada_typed.proofs.Control.{TasksFit, IsTreated, Fits, depth}

-- A new object has as many controlled parts as its type says, where that says.
new_firsts : (cs : List ℕ) → map (λ q. q.first) (map new_part cs) ≡ cs
new_firsts [] = refl
new_firsts (c ∷ cs) = ap (λ (ds : List ℕ). c ∷ ds) (new_firsts cs)

pub new_held : (types : List TypeDefinition) (forms : List TypeForm) (access : ℕ) → map type_form types ≡ forms → (length (new_parts types access) ≡ parts_known forms access) × (map (λ q. q.first) (new_parts types access) ≡ firsts_known forms access)
new_held types forms access shown =
    let number = number_reached types access in (
      length-map (part_firsts types number) new_part ∙ as_many_firsts types number ∙ sym (parts_shown types forms access shown),
      new_firsts (part_firsts types number) ∙ sym (known_firsts types forms access shown),
    )

-- All that is to be done for an object speaks of its parts.
all_counted : (types : List TypeDefinition) (forms : List TypeForm) (access : ℕ) (direction : Direction) → map type_form types ≡ forms → Within (shown_shapes forms) (parts_known forms access) (all_tasks types access direction)
all_counted types forms access direction shown =
    let same = parts_shown types forms access shown in
    subst (λ (shapes : List Shape). Within shapes (parts_known forms access) (all_tasks types access direction)) (sym (shapes_shown types forms shown))
    (within_all (shapes_of types) (are_table types) (parts_known forms access) direction (number_reached types access) (omega (arith, same)))

pub all_within : (types : List TypeDefinition) (forms : List TypeForm) (access : ℕ) (direction : Direction) → map type_form types ≡ forms → TasksFit forms access (all_tasks types access direction)
all_within types forms access direction shown =
    let number = number_reached types access in
    let known : shown_number forms (named_in (slice_get forms access)) ≡ number = known_number types forms access shown in
    let lie = lying_all forms access direction number known in
    let lying = subst (λ (shapes : List Shape). Lying forms access (tasks_for shapes direction number)) (shapes_shown types forms shown) lie in
    (all_counted types forms access direction shown, lying)

-- It is done before what is left.
pub treating_fits : (p : ProgramForm) (cells : Cells) (kinds : List OperandKind) (v : Value) (treatment : Treatment) (tasks : List Task) (k : List (Frame Value)) → IsTreated p.types cells v treatment tasks → Fits p cells kinds k → Fits p cells kinds (treating v treatment tasks k)
treating_fits p cells kinds v treatment [] k treated fits = fits
treating_fits p cells kinds v treatment (task ∷ tasks) k treated fits = (treated, fits)

pub treating_deep : (v : Value) (treatment : Treatment) (tasks : List Task) (k : List (Frame Value)) → depth (treating v treatment tasks k) ≡ depth k
treating_deep v treatment [] k = refl
treating_deep v treatment (task ∷ tasks) k = refl
