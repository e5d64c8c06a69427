-- What is left of a treatment (7.6, 7.6.1): a finalization comes to the parts that lie in a part behind that part, and so does what undoes an initialization;
-- and an initialization or an adjustment comes to them before.

use Rattle.std.proofs.Common.{◌≡◌, ℕ, ◌-◌, ◌+◌, ◌<◌, ◌≤◌, List, [], ◌∷◌, length, map, Option, Some, None, arith, refl, sym, ap, inl, inr, subst}
use Rattle.std.proofs.lemmas.Bool.{cases_lt}
use Rattle.std.proofs.lemmas.List.{append-nil}
use Rattle.ada_parts.specs.declared.tasks.Component.{Component}
use Rattle.ada_parts.specs.declared.tasks.Direction.TheVariants.{PartsFirst, WholeFirst}
use Rattle.ada_parts.specs.declared.tasks.Next.TheVariants.{Pick}
use Rattle.ada_parts.specs.Shape.{Shape, IsTable}
use Rattle.ada_parts.specs.Part.{Part}
use Rattle.ada_parts.specs.Task.{Task, performs, treats, opened, next, OfComponents}
use Rattle.ada_parts.specs.Law.{parts_left, Among}
use Rattle.ada_parts.proofs.Tables.{shape_unknown}
use Rattle.ada_parts.proofs.Runs.{Known, known_closed, known_opened, kept_picked}
use Rattle.ada_parts.proofs.Orders.{Inner, inner_opened, inner_taken, Outer, outer_opened, outer_taken}
use Rattle.ada_program.specs.declared.program.TypeDefinition.{TypeDefinition}
use Rattle.ada_program.specs.Controlled.{shapes_of, number_of, number_reached}
use Rattle.ada_meaning.specs.Frame.{Treatment, begins, ends}
use Rattle.ada_meaning.specs.Step.{direction_of, picked_task, tasks_for, tasks_in, all_tasks, record_tasks}
use Rattle.ada_meaning.proofs.Treatments.{are_table}

-- What has begun, as the operations that would undo it.
abbrev pub as_tasks : List Part → List Task
as_tasks done = map (λ p. performs p.of p.number) done

-- What is left of a finalization comes to each part before those that lie in it.
abbrev pub EndingFits : List Shape → List Task → Type 0
EndingFits shapes tasks = OfComponents (Known shapes) tasks × Outer shapes tasks

-- What is left of an initialization or an adjustment comes to each part behind those that lie in it, where these parts have begun; and so they have begun.
abbrev pub BeginningFits : List Shape → (done : List Part) → List Task → Type 0
BeginningFits shapes done tasks = OfComponents (Known shapes) tasks × Inner shapes done tasks × Outer shapes (as_tasks done)

abbrev pub TreatmentFits : List Shape → Treatment → List Task → Type 0
TreatmentFits shapes (begins by done) tasks = BeginningFits shapes done tasks
TreatmentFits shapes (ends cause) tasks = EndingFits shapes tasks

module _ (shapes : List Shape) where
  left_done : (done : List Part) → parts_left shapes (as_tasks done) ≡ done
  left_done [] = refl
  left_done (p ∷ done) = ap (λ (ps : List Part). p ∷ ps) (left_done done)

  of_done : (P : Component → Type 0) (done : List Part) → OfComponents P (as_tasks done)
  of_done P [] = tt
  of_done P (p ∷ done) = of_done P done

  pub undone_fits : (done : List Part) → Outer shapes (as_tasks done) → EndingFits shapes (as_tasks done)
  undone_fits done outer = (of_done (Known shapes) done, outer)

  -- The next part has begun.
  pub born_fits : (done : List Part) (of part : ℕ) (tasks : List Task) → BeginningFits shapes done (performs of part ∷ tasks)
      → BeginningFits shapes (record { of = of; number = part } ∷ done) tasks
  born_fits done of part tasks fits =
      (fits.0, fits.1.1, (subst (λ (ps : List Part). Among shapes ps (record { of = of; number = part })) (sym (left_done done)) fits.1.0, fits.2))

  module _ (table : IsTable shapes) where
    -- A record of any type.
    opened_ending : (n first : ℕ) → EndingFits shapes (opened shapes WholeFirst n first)
    opened_ending n first = elim (cases_lt n (length shapes)) [ inl below ↦ known below | inr above ↦ unknown above ]
      where
        known : n < length shapes → EndingFits shapes (opened shapes WholeFirst n first)
        known below = (
          known_opened shapes WholeFirst n first table below,
          subst (Outer shapes) (append-nil (opened shapes WholeFirst n first)) (outer_opened shapes n first [] table below tt),
        )

        unknown : length shapes ≤ n → EndingFits shapes (opened shapes WholeFirst n first)
        unknown above = rw (shape_unknown shapes n above) (tt, tt)

    opened_beginning : (n first : ℕ) → BeginningFits shapes [] (opened shapes PartsFirst n first)
    opened_beginning n first = elim (cases_lt n (length shapes)) [ inl below ↦ known below | inr above ↦ unknown above ]
      where
        known : n < length shapes → BeginningFits shapes [] (opened shapes PartsFirst n first)
        known below = (known_opened shapes PartsFirst n first table below, inner_opened shapes [] n first table below, tt)

        unknown : length shapes ≤ n → BeginningFits shapes [] (opened shapes PartsFirst n first)
        unknown above = rw (shape_unknown shapes n above) (tt, tt, tt)

    for_ending : (n : Option ℕ) → EndingFits shapes (tasks_for shapes WholeFirst n)
    for_ending None = (tt, tt)
    for_ending (Some n) = opened_ending n 0

    for_beginning : (n : Option ℕ) → BeginningFits shapes [] (tasks_for shapes PartsFirst n)
    for_beginning None = (tt, tt, tt)
    for_beginning (Some n) = opened_beginning n 0

    in_ending : (n : Option ℕ) (first : ℕ) → EndingFits shapes (tasks_in shapes WholeFirst n first)
    in_ending None first = (tt, tt)
    in_ending (Some n) first = opened_ending n first

    in_beginning : (n : Option ℕ) (first : ℕ) → BeginningFits shapes [] (tasks_in shapes PartsFirst n first)
    in_beginning None first = (tt, tt, tt)
    in_beginning (Some n) first = opened_beginning n first

    -- A component is picked.
    pub picked_fits :
        (treatment : Treatment) (tasks : List Task) (count i : ℕ) → next tasks ≡ Pick count → i < count → TreatmentFits shapes treatment tasks
        → TreatmentFits shapes treatment (picked_task shapes (direction_of treatment) tasks i)
    picked_fits treatment [] count i is below fits = absurd (cc is)
    picked_fits treatment (performs of part ∷ tasks) count i is below fits = absurd (cc is)
    picked_fits (begins by done) (treats cs ∷ tasks) count i is below fits =
        let many : length cs ≡ count = cc is in
        let may : i < length cs = omega (arith, many, below) in (
          kept_picked shapes PartsFirst (Known shapes) (known_closed shapes table) (treats cs ∷ tasks) i may fits.0,
          inner_taken shapes done (treats cs ∷ tasks) i table may fits.0 fits.1,
          fits.2,
        )
    picked_fits (ends cause) (treats cs ∷ tasks) count i is below fits =
        let many : length cs ≡ count = cc is in
        let may : length cs - (i + 1) < length cs = omega (arith, many, below) in (
          kept_picked shapes WholeFirst (Known shapes) (known_closed shapes table) (treats cs ∷ tasks) (length cs - (i + 1)) may fits.0,
          outer_taken shapes (treats cs ∷ tasks) (length cs - (i + 1)) table may fits.0 fits.1,
        )

-- So it is where a treatment begins.
module _ (types : List TypeDefinition) where
  pub all_ending : (access : ℕ) → EndingFits (shapes_of types) (all_tasks types access WholeFirst)
  all_ending access = for_ending (shapes_of types) (are_table types) (number_reached types access)

  pub all_beginning : (access : ℕ) → BeginningFits (shapes_of types) [] (all_tasks types access PartsFirst)
  all_beginning access = for_beginning (shapes_of types) (are_table types) (number_reached types access)

  pub record_ending : (t first : ℕ) → EndingFits (shapes_of types) (record_tasks types t WholeFirst first)
  record_ending t first = in_ending (shapes_of types) (are_table types) (number_of types (Some t)) first

  pub record_beginning : (t first : ℕ) → BeginningFits (shapes_of types) [] (record_tasks types t PartsFirst first)
  record_beginning t first = in_beginning (shapes_of types) (are_table types) (number_of types (Some t)) first
