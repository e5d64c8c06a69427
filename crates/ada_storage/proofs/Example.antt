-- Runs by their choices.

use Rattle.std.proofs.Common.{◌≡◌, ℕ, ◌≤◌, List, [], ◌∷◌, refl, sym, inl, inr, subst, arith}
use Rattle.std.specs.Prelude.{Option, Some, None}
use Rattle.std.proofs.lemmas.Bool.Decides.{eqb_tells}
use Rattle.ada_storage.specs.State.{Event, State, in_forest}
use Rattle.ada_storage.specs.Step.{Simple, Choice, goes_on, takes, joins_as, enters, finishes, raises, catches, declares, collects, allocates, deallocates, copies, Outcome, stuck, erroneous, goes, step}
use Rattle.ada_storage.specs.Law.{Run, here, there, first_state}
use Rattle.ada_storage.specs.Example.{nested, alone, AnInitializeRaises, MastersNest, FreeWaitsForAssignments}
use Rattle.ada_storage.proofs.Facts.{same_le, same_other}

pub nested_simple : Simple nested
nested_simple q = elim (eqb_tells q 1) [ inl h ↦ subst (λ (z : ℕ). in_forest z nested ≤ 1) (sym h.1) (omega arith) | inr h ↦ (let a = same_other q 1 h.1 in let b = same_le q 0 in omega (arith, a, b)) ]

pub alone_simple : Simple alone
alone_simple q = let b = same_le q 0 in omega (arith, b)

-- Where some choices lead, with their events.
record Played : Type 0 where
  pub events : List Event
  pub last : State

abbrev with_event : Event → Option Played → Option Played
with_event e None = None
with_event e (Some p) = Some (record { events = e ∷ p.events; last = p.last })

abbrev after_step : (State → Option Played) → Outcome → Option Played
after_step more stuck = None
after_step more erroneous = None
after_step more (goes e s) = with_event e (more s)

abbrev played : List Choice → State → Option Played
played [] s = Some (record { events = []; last = s })
played (c ∷ cs) s = after_step (played cs) (step c s)

abbrev RunsTo : State → Option Played → Type 0
RunsTo s None = Unit {0}
RunsTo s (Some p) = Run s p.events p.last

first_step : (c : Choice) (s : State) (o : Outcome) (more : State → Option Played) → step c s ≡ o → ((t : State) → RunsTo t (more t)) → RunsTo s (after_step more o)
first_step c s stuck more is runs = tt
first_step c s erroneous more is runs = tt
first_step c s (goes e t) more is runs = go (more t) (runs t)
  where
    go : (rest : Option Played) → RunsTo t rest → RunsTo s (with_event e rest)
    go None r = tt
    go (Some p) r = there c t is r

-- These are runs.
run_of : (cs : List Choice) (s : State) → RunsTo s (played cs s)
run_of [] s = here
run_of (c ∷ cs) s = first_step c s (step c s) (played cs) refl (run_of cs)

-- An object with such parts is initialized, by operations that do nothing.
abbrev undone_choices : List Choice
undone_choices =
    collects 2 ∷ allocates 1 2 nested nested_simple
    ∷ takes 1 ∷ takes 0 ∷ goes_on ∷ enters ∷ finishes ∷ goes_on ∷ goes_on ∷ goes_on
    ∷ enters ∷ raises ∷ goes_on ∷ goes_on ∷ goes_on
    ∷ enters ∷ finishes ∷ goes_on ∷ goes_on
    ∷ catches ∷ finishes ∷ goes_on ∷ goes_on
    ∷ []

pub an_initialize_raises : AnInitializeRaises
unfolding step
an_initialize_raises = (_, _, run_of undone_choices first_state, (refl, refl))

abbrev nested_choices : List Choice
nested_choices =
    collects 2
    ∷ declares nested nested_simple ∷ takes 1 ∷ takes 0 ∷ goes_on ∷ goes_on ∷ goes_on ∷ goes_on ∷ goes_on ∷ joins_as 3
    ∷ allocates 1 2 nested nested_simple ∷ takes 1 ∷ takes 0 ∷ goes_on ∷ goes_on ∷ goes_on ∷ goes_on ∷ goes_on ∷ goes_on
    ∷ enters ∷ declares alone alone_simple ∷ takes 0 ∷ goes_on ∷ goes_on ∷ goes_on ∷ joins_as 4
    ∷ copies 0 nested nested_simple ∷ takes 1 ∷ goes_on ∷ goes_on ∷ goes_on ∷ goes_on ∷ goes_on
    ∷ takes 1 ∷ takes 0 ∷ goes_on ∷ goes_on ∷ goes_on ∷ goes_on ∷ goes_on ∷ goes_on
    ∷ deallocates 1 ∷ goes_on ∷ goes_on ∷ goes_on ∷ goes_on
    ∷ raises ∷ goes_on ∷ goes_on ∷ goes_on ∷ goes_on ∷ goes_on ∷ goes_on
    ∷ catches ∷ finishes ∷ goes_on ∷ goes_on ∷ goes_on ∷ goes_on ∷ goes_on ∷ goes_on ∷ goes_on
    ∷ []

pub masters_nest : MastersNest
unfolding step
masters_nest = (_, _, run_of nested_choices first_state, (refl, refl))

abbrev assigning_choices : List Choice
assigning_choices =
    collects 2
    ∷ allocates 1 2 nested nested_simple ∷ takes 1 ∷ takes 0 ∷ goes_on ∷ goes_on ∷ goes_on ∷ goes_on ∷ goes_on ∷ goes_on
    ∷ copies 0 nested nested_simple ∷ takes 1 ∷ enters
    ∷ []

pub free_waits : FreeWaitsForAssignments
unfolding step
free_waits = (_, _, run_of assigning_choices first_state, (refl, (goes_on, refl)))
