-- Which records with controlled parts lie in the objects of a type (7.6): whatever is treated of an object is one of them.

use Rattle.ada_typed.specs.Holding.{WalksTo, PartsLie}
use Rattle.std.proofs.Common.{◌≡◌, ℕ, zero, suc, Bool, true, false, List, [], ◌∷◌, ◌++◌, map, Option, Some, None, refl}
use Rattle.std.specs.Prelude.{if◌then◌else◌}
use Rattle.std.specs.List.{remove, slice_get}
use Rattle.ada_parts.specs.declared.tasks.Component.{Component}
use Rattle.ada_parts.specs.declared.tasks.Direction.{Direction}
use Rattle.ada_parts.specs.declared.tasks.Direction.TheVariants.{PartsFirst, WholeFirst}
use Rattle.ada_parts.specs.Part.{Part, components_of}
use Rattle.ada_parts.specs.Shape.{shape_of}
use Rattle.ada_parts.specs.Task.{Task, performs, treats, treatment_of, operation_of, opened, opened_if, taken}
use Rattle.ada_program.specs.ProgramForm.{TypeForm}
use Rattle.ada_program.specs.WellFormed.{named_in, object_named, reached_components, record_components, has_record_at}
use Rattle.ada_meaning.specs.Step.{tasks_for, tasks_in}
use Rattle.ada_typed.proofs.Parts.{shown_number, shown_shapes, firsts_known}

-- A record of the type that has a number among those with controlled parts lies in the objects that the values of a type name, and its first controlled part
-- has a number there: the object itself, a record that lies in it where a place says, or a component of another such record.
pub data Lies (types : List TypeForm) (access : ℕ) : (of part : ℕ) → Type 0 where
  whole : (n : ℕ) → shown_number types (named_in (slice_get types access)) ≡ Some n → Lies types access n 0
  placed :
      (t n first part : ℕ) → shown_number types (Some t) ≡ Some n → WalksTo types (named_in (slice_get types access)) (Some t) first part → Lies types access n part
  inner :
      (of part i : ℕ) (c : Component) → Lies types access of part → slice_get (components_of (shown_shapes types) of part) i ≡ Some c
      → Lies types access c.of c.first

-- A record that is controlled itself does, so its operations can be called.
abbrev pub IsOperable : List TypeForm → (access of part : ℕ) → Type 0
IsOperable types access of part = Lies types access of part × ((shape_of (shown_shapes types) of).controlled ≡ true)

-- Each of these components lies there.
abbrev pub AllLie : List TypeForm → (access : ℕ) → List Component → Type 0
AllLie types access [] = Unit {0}
AllLie types access (c ∷ cs) = Lies types access c.of c.first × AllLie types access cs

-- What is left of a treatment speaks of such records.
abbrev pub Lying : List TypeForm → (access : ℕ) → List Task → Type 0
Lying types access [] = Unit {0}
Lying types access (treats cs ∷ behind) = AllLie types access cs × Lying types access behind
Lying types access (performs of part ∷ behind) = IsOperable types access of part × Lying types access behind

module _ (types : List TypeForm) (access : ℕ) where
  -- One component does, if there is one.
  abbrev LiesIf : Option Component → Type 0
  LiesIf None = Unit {0}
  LiesIf (Some c) = Lies types access c.of c.first

  lying_append : (a b : List Task) → Lying types access a → Lying types access b → Lying types access (a ++ b)
  lying_append [] b h g = g
  lying_append (treats cs ∷ a) b h g = (h.0, lying_append a b h.1 g)
  lying_append (performs of part ∷ a) b h g = (h.0, lying_append a b h.1 g)

  lying_treatment : (cs : List Component) → AllLie types access cs → Lying types access (treatment_of cs)
  lying_treatment [] h = tt
  lying_treatment (c ∷ cs) h = (h, tt)

  lying_removed : (cs : List Component) (i : ℕ) → AllLie types access cs → AllLie types access (remove cs i)
  lying_removed [] zero h = tt
  lying_removed [] (suc i) h = tt
  lying_removed (c ∷ cs) zero h = h.1
  lying_removed (c ∷ cs) (suc i) h = (h.0, lying_removed cs i h.1)

  lying_at : (cs : List Component) (i : ℕ) → AllLie types access cs → LiesIf (slice_get cs i)
  lying_at [] i h = tt
  lying_at (c ∷ cs) zero h = h.0
  lying_at (c ∷ cs) (suc i) h = lying_at cs i h.1

  all_lie : (cs : List Component) → ((i : ℕ) (c : Component) → slice_get cs i ≡ Some c → Lies types access c.of c.first) → AllLie types access cs
  all_lie [] f = tt
  all_lie (c ∷ cs) f = (f 0 c refl, all_lie cs (λ i d there. f (suc i) d there))

  -- The components of such a record are such records.
  lying_opened : (direction : Direction) (of part : ℕ) → Lies types access of part → Lying types access (opened (shown_shapes types) direction of part)
  lying_opened direction of part h =
      let shapes = shown_shapes types in
      let components = lying_treatment (components_of shapes of part) (all_lie (components_of shapes of part) (λ i c there. inner of part i c h there)) in
      both direction (by_own (shape_of shapes of).controlled refl) components
    where
      by_own : (own : Bool) → (shape_of (shown_shapes types) of).controlled ≡ own → Lying types access (if own then performs of part ∷ [] else [])
      by_own true is = ((h, is), tt)
      by_own false is = tt

      both :
          (direction : Direction) → Lying types access (operation_of (shape_of (shown_shapes types) of) of part)
          → Lying types access (treatment_of (components_of (shown_shapes types) of part)) → Lying types access (opened (shown_shapes types) direction of part)
      both PartsFirst call components =
          lying_append (treatment_of (components_of (shown_shapes types) of part)) (operation_of (shape_of (shown_shapes types) of) of part) components call
      both WholeFirst call components =
          lying_append (operation_of (shape_of (shown_shapes types) of) of part) (treatment_of (components_of (shown_shapes types) of part)) call components

  lying_picked : (direction : Direction) (o : Option Component) → LiesIf o → Lying types access (opened_if (shown_shapes types) direction o)
  lying_picked direction None h = tt
  lying_picked direction (Some c) h = lying_opened direction c.of c.first h

  -- So it is once a component is picked.
  pub lying_taken :
      (direction : Direction) (cs : List Component) (behind : List Task) (i : ℕ) → Lying types access (treats cs ∷ behind)
      → Lying types access (taken (shown_shapes types) direction (treats cs ∷ behind) i)
  lying_taken direction cs behind i h =
      lying_append (opened_if (shown_shapes types) direction (slice_get cs i)) (treatment_of (remove cs i) ++ behind)
      (lying_picked direction (slice_get cs i) (lying_at cs i h.0))
      (lying_append (treatment_of (remove cs i)) behind (lying_treatment (remove cs i) (lying_removed cs i h.0)) h.1)

  -- All that is to be done for an object speaks of such records.
  pub lying_all :
      (direction : Direction) (o : Option ℕ) → shown_number types (named_in (slice_get types access)) ≡ o
      → Lying types access (tasks_for (shown_shapes types) direction o)
  lying_all direction None is = tt
  lying_all direction (Some n) is = lying_opened direction n 0 (whole n is)

  -- So does all that is to be done for a record that lies where a place says.
  pub lying_record :
      (direction : Direction) (t first part : ℕ) (o : Option ℕ) → shown_number types (Some t) ≡ o
      → ((n : ℕ) → o ≡ Some n → WalksTo types (named_in (slice_get types access)) (Some t) first part)
      → Lying types access (tasks_in (shown_shapes types) direction o part)
  lying_record direction t first part None is walks = tt
  lying_record direction t first part (Some n) is walks = lying_opened direction n part (placed t n first part is (walks n refl))

-- Where such a record has operations of its own, its components lie where it begins, and its controlled parts from its number on.
abbrev pub PartsAreRecords : List TypeForm → Type 0
PartsAreRecords types =
    (access of part first t : ℕ) → IsOperable types access of part → slice_get (firsts_known types access) part ≡ Some first
    → shown_number types (Some t) ≡ Some of
    → (has_record_at (reached_components types access) first (record_components types t) ≡ true)
    × PartsLie types (object_named types (Some access)) (Some t) first part

-- What has begun of an object, as the operations that would undo it.
abbrev pub undoing : List Part → List Task
undoing done = map (λ p. performs p.of p.number) done
