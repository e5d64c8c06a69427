-- So it is in each state of a run of a well-formed program, and formal parameters that are records stand for the same records as long as their bodies run.

use Rattle.ada_formals.specs.Formals.{IsRecordOf, IsRecordFormal, StandsForTheSame, FormalsStay, BeginsWith, RefersToOperated, OperationsRefer, OperationsReferToTheirParts}
use Rattle.ada_formals.proofs.Standing.{ParameterFits, StandsBy, StandsIn, GoesOn, Goes, goes_on, goes_in, goes_out, Outcome, stands_later}
use Rattle.ada_formals.proofs.Texts.{bodies_spare, main_spares}
use Rattle.ada_formals.proofs.Treatments.{OperationsTakeRecords, AllComes}
use Rattle.ada_formals.proofs.Steps.{next_comes}
use Rattle.std.proofs.Common.{◌≡◌, ℕ, zero, suc, ◌<◌, ℤ, List, [], ◌∷◌, ◌++◌, length, map, Option, Some, arith, refl, sym, ap, ◌∙◌, subst}
use Rattle.std.specs.List.{slice_get}
use Rattle.ada_program.specs.declared.program.Program.{Program}
use Rattle.ada_program.specs.declared.program.TypeDefinition.{TypeDefinition}
use Rattle.ada_program.specs.declared.program.VariableKind.{VariableKind}
use Rattle.ada_program.specs.ProgramForm.{BodyForm, program_form, body_forms}
use Rattle.ada_program.specs.WellFormed.{IsWellFormed}
use Rattle.ada_meaning.specs.declared.state.Id.{Id}
use Rattle.ada_meaning.specs.declared.state.Value.{Value}
use Rattle.ada_meaning.specs.Frame.{Frame}
use Rattle.ada_meaning.specs.Frame as frame
use Rattle.ada_meaning.specs.State.{Activation}
use Rattle.ada_meaning.specs.Step.{first_or, older, places_of, procedure_of, halts, moves, tells, asks, picks}
use Rattle.ada_meaning.specs.Heap.{PartState}
use Rattle.ada_meaning.specs.Named.{Object, State, Next, next}
use Rattle.ada_meaning.specs.Life.{Remains, KeepsObjects}
use Rattle.ada_meaning.proofs.Lives.{names_are_used_once}
use Rattle.ada_meaning.specs.Run.{Event, Choice, settled, grants, takes, Leads, Step, Run, here, there, first_state}
use Rattle.ada_meaning.specs.Calls.{WithinCall, here as within, there as further}
use Rattle.ada_typed.specs.Holding.{cells_of}
use Rattle.ada_typed.proofs.Parts.{firsts_known}
use Rattle.ada_typed.proofs.Values.{parts_at}
use Rattle.ada_typed.proofs.Control.{Typed}
use Rattle.ada_typed.proofs.Evaluations.{cell_at}
use Rattle.ada_typed.proofs.Runs.{first_typed, step_typed, typed_filled}
use Rattle.ada_typed.proofs.Overridings.{OperationFor, beginning_for, ending_for}

-- It is so where a choice leads.
led : (types : List TypeDefinition) (bodies : List BodyForm) (heap : List Object) (w : List (Activation Value)) (coming : Next) (choice : Choice) (e : Event) (after : State) → AllComes types bodies heap w coming
    → Leads coming choice e after → Outcome types bodies heap w after
led types bodies heap w (halts halt) choice e after all leads = absurd leads
led types bodies heap w (moves shown s) settled e after all leads = rw (leads.1) all
led types bodies heap w (tells request shown s) settled e after all leads = rw (leads.1) all
led types bodies heap w (asks request answers) (grants granted) e after all leads = rw (leads.1) (all granted)
led types bodies heap w (picks n taking) (takes i) e after all leads = rw (leads.2) (all i leads.0)
led types bodies heap w (moves shown s) (grants granted) e after all leads = absurd leads
led types bodies heap w (moves shown s) (takes i) e after all leads = absurd leads
led types bodies heap w (tells request shown s) (grants granted) e after all leads = absurd leads
led types bodies heap w (tells request shown s) (takes i) e after all leads = absurd leads
led types bodies heap w (asks request answers) settled e after all leads = absurd leads
led types bodies heap w (asks request answers) (takes i) e after all leads = absurd leads
led types bodies heap w (picks n taking) settled e after all leads = absurd leads
led types bodies heap w (picks n taking) (grants granted) e after all leads = absurd leads

module _ (types : List TypeDefinition) (bodies : List BodyForm) (heap : List Object) where
  -- What that says of operations.
  parameter_refers : (procedure : Option ℕ) (places : List Value) (k : List (Frame Value)) → ParameterFits types bodies heap procedure places k
      → RefersToOperated types heap k procedure places
  parameter_refers procedure places [] h = tt
  parameter_refers procedure places (frame.Awaits v by done of part tasks ∷ k) h = h.0
  parameter_refers procedure places (frame.Confines ∷ k) h = h.0
  parameter_refers procedure places (f ∷ k) h = tt

  pub operations_refer : (k : List (Frame Value)) (activations : List (Activation Value)) → StandsBy types bodies heap k activations → OperationsRefer types heap k activations
  operations_refer [] activations h = tt
  operations_refer (frame.Returns actuals references ∷ k) activations h =
      (parameter_refers (procedure_of activations) (places_of activations) k h.0, operations_refer k (older activations) h.2)
  operations_refer (f ∷ k) activations h = operations_refer k activations h.1

module _ (bodies : List BodyForm) where
  -- And of an activation that is there still, behind others, in front of its callers.
  abbrev IsThere : (running : Activation Value) (callers now : List (Activation Value)) → Type 0
  IsThere running callers now =
      (inner : List (Activation Value)) × (later : Activation Value) × (now ≡ inner ++ later ∷ callers) × StandsForTheSame bodies running later

  same_again : (a b c : Activation Value) → StandsForTheSame bodies a b → StandsForTheSame bodies b c → StandsForTheSame bodies a c
  same_again a b c first then = record {
    procedure = then.procedure ∙ first.procedure;
    held = λ x formal. then.held x (subst (λ (procedure : Option ℕ). IsRecordFormal bodies procedure x) (sym first.procedure) formal) ∙ first.held x formal;
  }

  there_on :
      (running : Activation Value) (callers inner : List (Activation Value)) (later : Activation Value) (after : List (Activation Value))
      → StandsForTheSame bodies running later → GoesOn bodies (inner ++ later ∷ callers) after → IsThere running callers after
  there_on running callers [] later [] same on = absurd on
  there_on running callers [] later (b ∷ behind) same on = ([], b, ap (λ (xs : List (Activation Value)). b ∷ xs) on.1, same_again running later b same on.0)
  there_on running callers (i ∷ inner) later [] same on = absurd on
  there_on running callers (i ∷ inner) later (b ∷ behind) same on =
      (b ∷ inner, later, ap (λ (xs : List (Activation Value)). b ∷ xs) on.1, same)

  more_than : (callers after : List (Activation Value)) → GoesOn bodies callers after → length callers < length after → ⊥
  more_than [] [] on more = absurd (omega (arith, more))
  more_than [] (b ∷ behind) on more = absurd (cc)
  more_than (a ∷ callers) [] on more = absurd on
  more_than (a ∷ callers) (b ∷ behind) on more =
      let same : length behind ≡ length callers = ap length on.1 in
      absurd (omega (arith, more, same))

  there_out :
      (running : Activation Value) (callers inner : List (Activation Value)) (later : Activation Value) (after : List (Activation Value))
      → StandsForTheSame bodies running later → GoesOn bodies (older (inner ++ later ∷ callers)) after → length callers < length after
      → IsThere running callers after
  there_out running callers [] later after same on more = absurd (more_than callers after on more)
  there_out running callers (i ∷ inner) later after same on more = there_on running callers inner later after same on

  there_next :
      (running : Activation Value) (callers before after : List (Activation Value)) → IsThere running callers before → Goes bodies before after
      → length callers < length after → IsThere running callers after
  there_next running callers before after (inner, later, is, same) (goes_on on) more =
      there_on running callers inner later after same (subst (λ (xs : List (Activation Value)). GoesOn bodies xs after) is on)
  there_next running callers before after (inner, later, is, same) (goes_in callee behind now on) more =
      let before_it = there_on running callers inner later behind same (subst (λ (xs : List (Activation Value)). GoesOn bodies xs behind) is on) in
      (callee ∷ before_it.0, before_it.1, now ∙ ap (λ (xs : List (Activation Value)). callee ∷ xs) before_it.2, before_it.3)
  there_next running callers before after (inner, later, is, same) (goes_out on) more =
      there_out running callers inner later after same (subst (λ (xs : List (Activation Value)). GoesOn bodies (older xs) after) is on) more

-- The object of a name later.
later_object : (xs ys : List Object) (i : ℕ) (x : Object) → KeepsObjects xs ys → slice_get xs i ≡ Some x → (y : Object) × (slice_get ys i ≡ Some y) × Remains x y
later_object [] ys i x keeps is = absurd (cc)
later_object (z ∷ xs) [] i x keeps is = absurd keeps
later_object (z ∷ xs) (y ∷ ys) zero x keeps is = let one : z ≡ x = cc in (y, refl, subst (λ (o : Object). Remains o y) one keeps.0)
later_object (z ∷ xs) (y ∷ ys) (suc i) x keeps is = later_object xs ys i x keeps.1 is

-- Where a part begins.
abbrev first_of : PartState → ℕ
first_of p = p.first

-- What overrides an operation of a controlled type takes a record.
takes_record : (program : Program) (of procedure : ℕ) → OperationFor (program_form program) of procedure → IsRecordFormal (body_forms program) (Some procedure) 0
takes_record program of procedure operation =
    subst (λ (o : Option BodyForm). IsRecordOf o 0) (sym operation.there)
    (operation.object, ap (λ (kinds : List VariableKind). slice_get kinds 0) operation.formals)

-- Where each part begins with the same component in two lists of them, a part of the one is there in the other.
with_first :
    (xs ys : List PartState) (i : ℕ) (y : PartState) → map first_of xs ≡ map first_of ys → slice_get ys i ≡ Some y
    → (x : PartState) × (slice_get xs i ≡ Some x) × (x.first ≡ y.first)
with_first [] [] i y same is = absurd (cc)
with_first [] (z ∷ ys) i y same is = absurd (cc)
with_first (x ∷ xs) [] i y same is = absurd (cc)
with_first (x ∷ xs) (z ∷ ys) zero y same is =
    let one : z ≡ y = cc in
    (x, refl, ap (first_or 0) same ∙ ap first_of one)
with_first (x ∷ xs) (z ∷ ys) (suc i) y same is = with_first xs ys i y (ap older same) is

module _ (program : Program) (well : IsWellFormed (program_form program)) where
  take_records : OperationsTakeRecords program.types.items (body_forms program)
  take_records = record {
    beginning = λ by of procedure is.
        takes_record program of procedure (beginning_for (program_form program) program.types.items refl well.operations_fit by of procedure is);
    ending = λ of procedure is. takes_record program of procedure (ending_for (program_form program) program.types.items refl well.operations_fit of procedure is);
  }

  -- A part of an object begins where the type of the object says, in each state of a run (7.6).
  begins_on :
      (s after : State) → Typed (program_form program) s → Typed (program_form program) after → KeepsObjects s.heap after.heap → (o : Id) (part c : ℕ)
      → BeginsWith s.heap o part c → BeginsWith after.heap o part c
  begins_on s after before_typed typed keeps o part c (object, state, at_o, at_part, first) =
      let p = program_form program in
      let later = later_object s.heap after.heap o.0 object keeps at_o in
      let known = parts_at p.types (cells_of s.heap) (cells_of s.heap) o.0 object.cell (typed_filled p s before_typed) (cell_at s.heap o.0 object at_o) in
      let now = parts_at p.types (cells_of after.heap) (cells_of after.heap) o.0 later.0.cell (typed_filled p after typed) (cell_at after.heap o.0 later.0 later.1) in
      let same : map first_of later.0.cell.parts ≡ map first_of object.cell.parts = now.1 ∙ ap (firsts_known p.types) later.2.access ∙ sym known.1 in
      let found = with_first later.0.cell.parts object.cell.parts part state same at_part in
      (later.0, found.0, later.1, found.1, found.2 ∙ first)

  -- What holds of each state.
  pub record Keeps (s : State) : Type 0 where
    pub typed : Typed (program_form program) s
    pub stands : StandsIn program.types.items (body_forms program) s.heap s

  -- The main part is left to do in the first state (10.2).
  pub first_keeps : (input : List ℤ) → Keeps (first_state program input)
  first_keeps input = record { typed = first_typed program input well; stands = (main_spares program well, tt) }

  -- What a step makes of that.
  pub step_comes : (s after : State) (choice : Choice) (e : Event) → StandsIn program.types.items (body_forms program) s.heap s → Step program s choice e after
      → Outcome program.types.items (body_forms program) s.heap s.activations after
  step_comes s after choice e h step =
      led program.types.items (body_forms program) s.heap s.activations (next program.types.items (body_forms program) s) choice e after
      (next_comes program.types.items (body_forms program) s.heap (bodies_spare program well) take_records s refl h) step

  pub step_keeps : (s after : State) (choice : Choice) (e : Event) → Keeps s → Step program s choice e after → Keeps after
  step_keeps s after choice e h step =
      let typed = step_typed program well s after choice e h.typed step in
      let keeps = names_are_used_once program s after (e ∷ []) (there choice after step here) in
      record {
        typed = typed;
        stands =
            stands_later program.types.items (body_forms program) s.heap after.heap (begins_on s after h.typed typed keeps) after.control (procedure_of after.activations)
            (places_of after.activations) (older after.activations) (step_comes s after choice e h.stands step).0;
      }

  run_keeps : (s last : State) (events : List Event) → Keeps s → Run program s events last → Keeps last
  run_keeps s last events h here = h
  run_keeps s last (e ∷ events) h (there choice mid step rest) = run_keeps mid last events (step_keeps s mid choice e h step) rest

  pub last_keeps : (input : List ℤ) (events : List Event) (last : State) → Run program (first_state program input) events last → Keeps last
  last_keeps input events last run = run_keeps (first_state program input) last events (first_keeps input) run

  within_there :
      (running : Activation Value) (callers : List (Activation Value)) (s last : State) (events : List Event) → Keeps s
      → IsThere (body_forms program) running callers s.activations → WithinCall program (length callers) s events last
      → IsThere (body_forms program) running callers last.activations
  within_there running callers s last events h is within = is
  within_there running callers s last (e ∷ events) h is (further choice mid step more rest) =
      within_there running callers mid last events (step_keeps s mid choice e h step)
      (there_next (body_forms program) running callers s.activations mid.activations is (step_comes s mid choice e h.stands step).1 more) rest

pub formals_stay : FormalsStay
formals_stay program well input events first run running callers is later_events last during =
    within_there program well running callers first last later_events (last_keeps program well input events first run)
    ([], running, is, record { procedure = refl; held = λ x formal. refl }) during

pub operations_refer_to_their_parts : OperationsReferToTheirParts
operations_refer_to_their_parts program well input events last run =
    operations_refer program.types.items (body_forms program) last.heap last.control last.activations (last_keeps program well input events last run).stands
