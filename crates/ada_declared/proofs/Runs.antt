-- So it is in each state of a run of a well-formed program.

use Rattle.std.proofs.Common.{◌≡◌, ℤ, List, [], ◌∷◌, length, None, refl, subst}
use Rattle.std.specs.List.{slice_get}
use Rattle.ada_program.specs.declared.program.Program.{Program}
use Rattle.ada_program.specs.declared.program.TypeDefinition.{TypeDefinition}
use Rattle.ada_program.specs.ProgramForm.{BodyForm, program_form, body_forms}
use Rattle.ada_program.specs.WellFormed.{IsWellFormed}
use Rattle.ada_meaning.specs.declared.state.Id.{Id}
use Rattle.ada_meaning.specs.declared.state.Value.{Value}
use Rattle.ada_meaning.specs.declared.state.Value.TheVariants.{Names}
use Rattle.ada_meaning.specs.Frame.{Frame}
use Rattle.ada_meaning.specs.Frame as frame
use Rattle.ada_meaning.specs.State.{Activation}
use Rattle.ada_meaning.specs.Step.{older, halts, moves, tells, asks, picks}
use Rattle.ada_meaning.specs.Named.{Object, State, Next, next, object_at}
use Rattle.ada_meaning.specs.Run.{Event, Choice, settled, grants, takes, Leads, Step, Run, here, there, first_state}
use Rattle.ada_finalized.specs.Law.{NamesExisting}
use Rattle.ada_finalized.proofs.Twice.{operated_exist}
use Rattle.ada_typed.proofs.Kept.{Each}
use Rattle.ada_declared.specs.Declared.{OperationsDeclare, DeclaredObjectsStandApart}
use Rattle.ada_declared.proofs.Standing.{StandsBy, StandsIn}
use Rattle.ada_declared.proofs.Texts.{bodies_spare, main_spares}
use Rattle.ada_declared.proofs.Steps.{next_comes}

-- It is so where a choice leads.
led : (P : State → Type 0) (coming : Next) (choice : Choice) (e : Event) (after : State) → Each P coming → Leads coming choice e after → P after
led P (halts halt) choice e after all leads = absurd leads
led P (moves shown s) settled e after all leads = rw (leads.1) all
led P (tells request shown s) settled e after all leads = rw (leads.1) all
led P (asks request answers) (grants granted) e after all leads = rw (leads.1) (all granted)
led P (picks n taking) (takes i) e after all leads = rw (leads.2) (all i leads.0)
led P (moves shown s) (grants granted) e after all leads = absurd leads
led P (moves shown s) (takes i) e after all leads = absurd leads
led P (tells request shown s) (grants granted) e after all leads = absurd leads
led P (tells request shown s) (takes i) e after all leads = absurd leads
led P (asks request answers) settled e after all leads = absurd leads
led P (asks request answers) (takes i) e after all leads = absurd leads
led P (picks n taking) settled e after all leads = absurd leads
led P (picks n taking) (grants granted) e after all leads = absurd leads

-- A run goes on by one step more.
and_then : (program : Program) (s mid after : State) (events : List Event) (choice : Choice) (e : Event) → Run program s events mid → Step program mid choice e after
    → (later : List Event) × Run program s later after
and_then program s mid after _ choice e here step = (e ∷ [], there choice after step here)
and_then program s mid after (d ∷ events) choice e (there other next_one first rest) step =
    let more = and_then program next_one mid after events choice e rest step in
    (d ∷ more.0, there other next_one first more.1)

-- No object has the next name.
none_last : (xs : List Object) → slice_get xs (length xs) ≡ None
none_last [] = refl
none_last (x ∷ xs) = none_last xs

none_there : (xs : List Object) → NamesExisting xs (Names (record { 0 = length xs })) → ⊥
none_there xs (o, same, object, found, stage) =
    let one : record { 0 = length xs } ≡ o = cc in
    let missing = subst (λ (i : Id). object_at xs i ≡ None) one (none_last xs) in
    absurd (cc (missing, found))

module _ (program : Program) (well : IsWellFormed (program_form program)) (input : List ℤ) where
  step_stands :
      (events : List Event) (s after : State) (choice : Choice) (e : Event) → Run program (first_state program input) events s
      → StandsIn program.types.items (body_forms program) s → Step program s choice e after → StandsIn program.types.items (body_forms program) after
  step_stands events s after choice e run h step =
      led (StandsIn program.types.items (body_forms program)) (next program.types.items (body_forms program) s) choice e after
      (next_comes program.types.items (body_forms program) (bodies_spare program well) s
      (operated_exist program input events s run (record { 0 = length s.heap }) (none_there s.heap)) h) step

  run_stands :
      (past events : List Event) (s last : State) → Run program (first_state program input) past s → StandsIn program.types.items (body_forms program) s → Run program s events last
      → StandsIn program.types.items (body_forms program) last
  run_stands past _ s last run h here = h
  run_stands past (e ∷ events) s last run h (there choice mid step rest) =
      let more = and_then program (first_state program input) s mid past choice e run step in
      run_stands more.0 events mid last more.1 (step_stands past s mid choice e run h step) rest

  last_stands : (events : List Event) (last : State) → Run program (first_state program input) events last → StandsIn program.types.items (body_forms program) last
  last_stands events last run = run_stands [] events (first_state program input) last here (main_spares program well, tt) run

-- What that says of operations.
operations_declare : (types : List TypeDefinition) (bodies : List BodyForm) (k : List (Frame Value)) (activations : List (Activation Value))
    → StandsBy types bodies k activations → OperationsDeclare bodies k activations
operations_declare types bodies [] activations h = tt
operations_declare types bodies (frame.Returns actuals references ∷ k) activations h = (h.0, operations_declare types bodies k (older activations) h.2)
operations_declare types bodies (f ∷ k) activations h = operations_declare types bodies k activations h.1

pub declared_objects_stand_apart : DeclaredObjectsStandApart
declared_objects_stand_apart program well input events last run =
    operations_declare program.types.items (body_forms program) last.control last.activations (last_stands program well input events last run)
