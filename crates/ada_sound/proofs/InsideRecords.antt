-- Which records a treatment speaks of (7.6): one of a record type, and those that lie in it.

use Rattle.std.proofs.Common.{◌≡◌, ℕ, zero, suc, Bool, true, false, if◌then◌else◌, List, [], ◌∷◌, ◌++◌, Option, Some, None, refl, sym, ap, ◌∙◌, subst}
use Rattle.std.specs.List.{remove, slice_get}
use Rattle.ada_meaning.specs.Step.{all_tasks, member_at, open_count, picked_task, record_tasks, tasks_in}
use Rattle.ada_parts.specs.declared.tasks.Component.{Component}
use Rattle.ada_parts.specs.declared.tasks.Direction.{Direction}
use Rattle.ada_parts.specs.declared.tasks.Direction.TheVariants.{PartsFirst, WholeFirst}
use Rattle.ada_parts.specs.declared.tasks.Next.TheVariants.{Perform}
use Rattle.ada_parts.specs.Part.{components_of}
use Rattle.ada_parts.specs.Shape.{Shape, shape_of}
use Rattle.ada_parts.specs.Task.{Task, performs, treats, treatment_of, operation_of, opened, opened_if, performed, taken, next as task_next}
use Rattle.ada_program.specs.declared.program.Program.{Program}
use Rattle.ada_program.specs.Controlled.{number_of, shapes_of, number_in}
use Rattle.ada_program.specs.ProgramForm.{TypeForm, program_form}
use Rattle.ada_program.specs.WellFormed.{finalization_of, object_named}
use Rattle.ada_program.proofs.Shapes.{same_number}
use Rattle.ada_reaching.proofs.Selections.{object_tasks}
use Rattle.ada_typed.proofs.Parts.{shown_number, shown_shapes, shapes_shown}

-- A record of the type that has a number among those with controlled parts is of this record type, or lies in one (7.6).
pub data Inside (types : List TypeForm) (t : ℕ) : (of : ℕ) → Type 0 where
  itself : (n : ℕ) → shown_number types (Some t) ≡ Some n → Inside types t n
  within : (of part i : ℕ) (c : Component) → Inside types t of → slice_get (components_of (shown_shapes types) of part) i ≡ Some c → Inside types t c.of

-- Each of these components does.
abbrev pub AllInside : List TypeForm → (record_type : ℕ) → List Component → Type 0
AllInside types t [] = Unit {0}
AllInside types t (c ∷ cs) = Inside types t c.of × AllInside types t cs

-- What is left of a treatment speaks of such records.
abbrev pub TasksInside : List TypeForm → (record_type : ℕ) → List Task → Type 0
TasksInside types t [] = Unit {0}
TasksInside types t (treats cs ∷ behind) = AllInside types t cs × TasksInside types t behind
TasksInside types t (performs of part ∷ behind) = Inside types t of × TasksInside types t behind

module _ (types : List TypeForm) (t : ℕ) where
  -- One component does, if there is one.
  abbrev InsideIf : Option Component → Type 0
  InsideIf None = Unit {0}
  InsideIf (Some c) = Inside types t c.of

  inside_append : (a b : List Task) → TasksInside types t a → TasksInside types t b → TasksInside types t (a ++ b)
  inside_append [] b h g = g
  inside_append (treats cs ∷ a) b h g = (h.0, inside_append a b h.1 g)
  inside_append (performs of part ∷ a) b h g = (h.0, inside_append a b h.1 g)

  inside_treatment : (cs : List Component) → AllInside types t cs → TasksInside types t (treatment_of cs)
  inside_treatment [] h = tt
  inside_treatment (c ∷ cs) h = (h, tt)

  inside_removed : (cs : List Component) (i : ℕ) → AllInside types t cs → AllInside types t (remove cs i)
  inside_removed [] zero h = tt
  inside_removed [] (suc i) h = tt
  inside_removed (c ∷ cs) zero h = h.1
  inside_removed (c ∷ cs) (suc i) h = (h.0, inside_removed cs i h.1)

  inside_at : (cs : List Component) (i : ℕ) → AllInside types t cs → InsideIf (slice_get cs i)
  inside_at [] i h = tt
  inside_at (c ∷ cs) zero h = h.0
  inside_at (c ∷ cs) (suc i) h = inside_at cs i h.1

  all_inside : (cs : List Component) → ((i : ℕ) (c : Component) → slice_get cs i ≡ Some c → Inside types t c.of) → AllInside types t cs
  all_inside [] f = tt
  all_inside (c ∷ cs) f = (f 0 c refl, all_inside cs (λ i d there. f (suc i) d there))

  -- The components of such a record are such records.
  inside_opened : (direction : Direction) (of part : ℕ) → Inside types t of → TasksInside types t (opened (shown_shapes types) direction of part)
  inside_opened direction of part h =
      let shapes = shown_shapes types in
      let components = inside_treatment (components_of shapes of part) (all_inside (components_of shapes of part) (λ i c there. within of part i c h there)) in
      both direction (by_own (shape_of shapes of).controlled) components
    where
      by_own : (own : Bool) → TasksInside types t (if own then performs of part ∷ [] else [])
      by_own true = (h, tt)
      by_own false = tt

      both :
          (direction : Direction) → TasksInside types t (operation_of (shape_of (shown_shapes types) of) of part)
          → TasksInside types t (treatment_of (components_of (shown_shapes types) of part)) → TasksInside types t (opened (shown_shapes types) direction of part)
      both PartsFirst call components =
          inside_append (treatment_of (components_of (shown_shapes types) of part)) (operation_of (shape_of (shown_shapes types) of) of part) components call
      both WholeFirst call components =
          inside_append (operation_of (shape_of (shown_shapes types) of) of part) (treatment_of (components_of (shown_shapes types) of part)) call components

  inside_picked : (direction : Direction) (o : Option Component) → InsideIf o → TasksInside types t (opened_if (shown_shapes types) direction o)
  inside_picked direction None h = tt
  inside_picked direction (Some c) h = inside_opened direction c.of c.first h

  inside_taken : (direction : Direction) (tasks : List Task) (i : ℕ) → TasksInside types t tasks → TasksInside types t (taken (shown_shapes types) direction tasks i)
  inside_taken direction [] i h = tt
  inside_taken direction (treats cs ∷ behind) i h =
      inside_append (opened_if (shown_shapes types) direction (slice_get cs i)) (treatment_of (remove cs i) ++ behind)
      (inside_picked direction (slice_get cs i) (inside_at cs i h.0))
      (inside_append (treatment_of (remove cs i)) behind (inside_treatment (remove cs i) (inside_removed cs i h.0)) h.1)
  inside_taken direction (performs of part ∷ behind) i h = h

  inside_record : (direction : Direction) (first : ℕ) (o : Option ℕ) → shown_number types (Some t) ≡ o → TasksInside types t (tasks_in (shown_shapes types) direction o first)
  inside_record direction first None is = tt
  inside_record direction first (Some n) is = inside_opened direction n first (itself n is)

-- All that is to be done for a record of the type speaks of such records.
pub record_inside : (program : Program) (t : ℕ) (direction : Direction) (first : ℕ) → TasksInside (program_form program).types t (record_tasks program.types.items t direction first)
record_inside program t direction first =
    let types = program.types.items in
    let forms = (program_form program).types in
    subst (λ (shapes : List Shape). TasksInside forms t (tasks_in shapes direction (number_of types (Some t)) first)) (shapes_shown types forms refl)
    (inside_record forms t direction first (number_of types (Some t)) (sym (same_number types t)))

-- So does all that is to be done for an object that is known by it (3.3.1).
pub object_inside : (program : Program) (t r : ℕ) (direction : Direction) → object_named (program_form program).types (Some t) ≡ Some r
    → TasksInside (program_form program).types r (all_tasks program.types.items t direction)
object_inside program t r direction named =
    let forms = (program_form program).types in
    subst (λ (tasks : List Task). TasksInside forms r tasks) (sym (object_tasks program.types.items forms t r direction refl named)) (record_inside program r direction 0)

-- So it is once a component is picked.
pub picked_inside : (program : Program) (t : ℕ) (direction : Direction) (tasks : List Task) (i : ℕ) → TasksInside (program_form program).types t tasks → TasksInside (program_form program).types t (picked_task (shapes_of program.types.items) direction tasks i)
picked_inside program t direction tasks i inside =
    let types = program.types.items in
    let forms = (program_form program).types in
    subst (λ (shapes : List Shape). TasksInside forms t (picked_task shapes direction tasks i)) (shapes_shown types forms refl)
    (inside_taken forms t direction tasks (member_at direction (open_count tasks) i) inside)

-- So it is once the operation that is due has been called.
pub performed_inside : (types : List TypeForm) (t : ℕ) (tasks : List Task) → TasksInside types t tasks → TasksInside types t (performed tasks)
performed_inside types t [] inside = tt
performed_inside types t (treats cs ∷ behind) inside = inside
performed_inside types t (performs of part ∷ behind) inside = inside.1

-- The operation that is due is that of such a record.
pub next_inside : (types : List TypeForm) (t of part : ℕ) (tasks : List Task) → TasksInside types t tasks → task_next tasks ≡ Perform of part → Inside types t of
next_inside types t of part [] inside is = absurd (cc is)
next_inside types t of part (treats cs ∷ behind) inside is = absurd (cc is)
next_inside types t of part (performs other number ∷ behind) inside is = let same : other ≡ of = cc is in subst (Inside types t) same inside.0

-- Nothing is done for a record without controlled parts.
pub no_tasks : (program : Program) (t : ℕ) → finalization_of (program_form program).types t ≡ None → (direction : Direction) (first : ℕ) → record_tasks program.types.items t direction first ≡ []
no_tasks program t none direction first =
    let number : number_of program.types.items (Some t) ≡ None = same_number program.types.items t ∙ ap number_in none in
    ap (λ (o : Option ℕ). tasks_in (shapes_of program.types.items) direction o first) number
