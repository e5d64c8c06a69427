-- A step of the treatment of an object keeps masters (7.6, 7.6.1). Where it calls an operation, the body of that nests whatever is open around.

use Rattle.std.proofs.Common.{◌≡◌, ℕ, ◌==◌, Bool, true, false, if◌then◌else◌, List, ◌∷◌, Option, Some, None, refl}
use Rattle.std.specs.List.{slice_get}
use Rattle.ada_parts.specs.declared.tasks.Next.{Next as Follows}
use Rattle.ada_parts.specs.declared.tasks.Next.TheVariants.{Done, Pick, Perform}
use Rattle.ada_parts.specs.Part.{Part}
use Rattle.ada_parts.specs.Task.{Task, performed}
use Rattle.ada_program.specs.declared.program.Operations.{Operations}
use Rattle.ada_program.specs.declared.program.ProcedureNo.{ProcedureNo}
use Rattle.ada_program.specs.declared.program.TypeDefinition.{TypeDefinition}
use Rattle.ada_program.specs.Controlled.{operations_of, procedure_number, shapes_of}
use Rattle.ada_program.specs.ProgramForm.{TypeForm, BodyForm}
use Rattle.ada_program.specs.Nested.{Callees, call_nests}
use Rattle.ada_meaning.specs.declared.event.Birth.{Birth}
use Rattle.ada_meaning.specs.declared.event.Birth.TheVariants.{Creation, Copy, Adjustment}
use Rattle.ada_meaning.specs.declared.event.Cause.{Cause}
use Rattle.ada_meaning.specs.declared.event.Halt.TheVariants.{Erroneous, Stuck}
use Rattle.ada_meaning.specs.declared.event.Why.TheVariants.{FinalizesTwice}
use Rattle.ada_meaning.specs.declared.state.Value.{Value}
use Rattle.ada_meaning.specs.Event.{Finalized}
use Rattle.ada_meaning.specs.Frame.{Frame, Treatment}
use Rattle.ada_meaning.specs.Frame as frame
use Rattle.ada_meaning.specs.Heap.{PartState, Cell, Found, on_null, on_gone, on_other, finds}
use Rattle.ada_meaning.specs.Named.{State, named, look, on_object, finalized_part, treated}
use Rattle.ada_meaning.specs.Run.{Event}
use Rattle.ada_meaning.specs.Step.{picked_task, halts, picks, direction_of, beginning as begun_by, treating, treated_on, operation_next, part_reference, born_next, begun_next, awaited_next, ended_next, finalized_next, performed_next, treats_next}
use Rattle.ada_scopes.specs.Scopes.{NestsAnywhere, AllNestAnywhere}
use Rattle.ada_scopes.proofs.Texts.{RecordsNest, StatementsNest, HandlersNest, BodyNests, BodiesNest}
use Rattle.ada_outlived.proofs.Records.{NeedNow}
use Rattle.ada_outlived.proofs.Control.{Free, Keeps, Good, free_treating, part_free}

-- What a body does that nests anywhere nests anywhere.
pub body_free :
    (types : List TypeForm) (callees : Callees) (b : BodyForm) → ((around : List ℕ) → BodyNests types callees around b) → (around : List ℕ)
    → StatementsNest types callees around b.statements × HandlersNest types callees around b.handlers × RecordsNest types around b.declarations
body_free types callees b nests around =
    let free = part_free types b.declarations (λ us. StatementsNest types callees us b.statements × HandlersNest types callees us b.handlers)
    (λ us. (nests us).part) (λ us. ((nests us).statements, (nests us).handlers)) around in
    (free.0.0, free.0.1, free.1)

-- What is called, if anything is, nests anywhere.
abbrev Operates : Callees → Option ℕ → Type 0
Operates callees None = Unit {0}
Operates callees (Some procedure) = (around : List ℕ) → call_nests (slice_get callees procedure) around ≡ true

operates : (callees : Callees) (o : Option ProcedureNo) → NestsAnywhere callees o → Operates callees (procedure_number o)
operates callees None anywhere = tt
operates callees (Some procedure) anywhere = anywhere

begins_so : (callees : Callees) (by : Birth) (o : Operations) → AllNestAnywhere callees o → Operates callees (begun_by by o)
begins_so callees Creation o all = operates callees o.initialize all.0
begins_so callees Copy o all = operates callees o.adjust all.1
begins_so callees (Adjustment number) o all = operates callees o.adjust all.1

module _ (types : List TypeForm) (callees : Callees) (bodies : List BodyForm) (nesting : BodiesNest types callees bodies) where
  -- The body of an operation begins.
  operation_good : (procedure : ℕ) (body : Option BodyForm) (reference : Value) (behind : List (Frame Value)) (event : Event) (s : State) → slice_get bodies procedure ≡ body → Operates callees (Some procedure) → NeedNow types s.masters → Free types callees behind → Good types callees (operation_next named procedure body reference behind event s)
  operation_good procedure None reference behind event s at_body called w n = tt
  operation_good procedure (Some b) reference behind event s at_body called w n =
      ((tt, w), ((λ within. body_free types callees b (λ around. nesting procedure b around at_body (called around))), (tt, n)))

  -- A part begins.
  born_good : (v : Value) (by : Birth) (done : List Part) (of part : ℕ) (tasks : List Task) (o : Option PartState) (s : State) → Keeps types callees s → Good types callees (born_next named v by done of part tasks o s)
  born_good v by done of part tasks None s h = tt
  born_good v by done of part tasks (Some p) s h =
      (h.0, free_treating types callees v (frame.begins by (record { of = of; number = part } ∷ done)) tasks s.control h.1)

  begun_good : (v : Value) (by : Birth) (done : List Part) (of part : ℕ) (tasks : List Task) (operation : Option ℕ) (o : Option PartState) (s : State) → Operates callees operation → Keeps types callees s → Good types callees (begun_next named bodies v by done of part tasks operation o s)
  begun_good v by done of part tasks operation None s called h = tt
  begun_good v by done of part tasks None (Some p) s called h = born_good v by done of part tasks (Some p) s h
  begun_good v by done of part tasks (Some procedure) (Some p) s called h =
      operation_good procedure (slice_get bodies procedure) (part_reference named v part p) (frame.Awaits v by done of part tasks ∷ s.control) _ s refl called h.0 (tt, h.1)

  pub awaited_good : (v : Value) (by : Birth) (done : List Part) (of part : ℕ) (tasks : List Task) (found : Found (Cell Value)) (s : State) → Keeps types callees s → Good types callees (awaited_next named v by done of part tasks found s)
  awaited_good v by done of part tasks on_null s h = tt
  awaited_good v by done of part tasks on_gone s h = tt
  awaited_good v by done of part tasks on_other s h = tt
  awaited_good v by done of part tasks (finds cell) s h = born_good v by done of part tasks (slice_get cell.parts part) s h

  -- The value of a part is finalized.
  ended_good : (v : Value) (part : ℕ) (p : PartState) (behind : List (Frame Value)) (operation : Option ℕ) (event : Event) (s : State) → Operates callees operation → NeedNow types s.masters → Free types callees behind → Good types callees (ended_next named bodies v part p behind operation event s)
  ended_good v part p behind None event s called w n = (w, n)
  ended_good v part p behind (Some procedure) event s called w n =
      operation_good procedure (slice_get bodies procedure) (part_reference named v part p) (frame.Confines ∷ behind) event s refl called w (tt, n)

  alive_good : (alive : Bool) (v : Value) (cause : Cause) (part : ℕ) (behind : List (Frame Value)) (operation : Option ℕ) (event : Event) (p : PartState) (s : State) → Operates callees operation → NeedNow types s.masters → Free types callees behind → Good types callees (if alive then ended_next named bodies v part p behind operation event (record s { heap = on_object (treated finalized_part part) s.heap v }) else halts (Erroneous FinalizesTwice))
  alive_good false v cause part behind operation event p s called w n = tt
  alive_good true v cause part behind operation event p s called w n =
      ended_good v part p behind operation event (record s { heap = on_object (treated finalized_part part) s.heap v }) called w n

  finalized_good : (v : Value) (cause : Cause) (of part : ℕ) (tasks : List Task) (operation : Option ℕ) (o : Option PartState) (s : State) → Operates callees operation → Keeps types callees s → Good types callees (finalized_next named bodies v cause of part tasks operation o s)
  finalized_good v cause of part tasks operation None s called h = tt
  finalized_good v cause of part tasks operation (Some p) s called h =
      alive_good p.alive v cause part (treating v (frame.ends cause) tasks s.control) operation (Finalized v part p.turn of p.number cause) p s called h.0
      (free_treating types callees v (frame.ends cause) tasks s.control h.1)

  module _ (definitions : List TypeDefinition) (operations : (of : ℕ) → AllNestAnywhere callees (operations_of definitions of)) where
    performed_good : (v : Value) (treatment : Treatment) (of part : ℕ) (tasks : List Task) (found : Found (Cell Value)) (s : State) → Keeps types callees s → Good types callees (performed_next named definitions bodies v treatment of part tasks found s)
    performed_good v treatment of part tasks on_null s h = tt
    performed_good v treatment of part tasks on_gone s h = tt
    performed_good v treatment of part tasks on_other s h = tt
    performed_good v (frame.begins by done) of part tasks (finds cell) s h =
        begun_good v by done of part tasks (begun_by by (operations_of definitions of)) (slice_get cell.parts part) s
        (begins_so callees by (operations_of definitions of) (operations of)) h
    performed_good v (frame.ends cause) of part tasks (finds cell) s h =
        finalized_good v cause of part tasks (procedure_number (operations_of definitions of).finalize) (slice_get cell.parts part) s
        (operates callees (operations_of definitions of).finalize (operations of).2) h

    picked_good : (none : Bool) (v : Value) (treatment : Treatment) (tasks : List Task) (count : ℕ) (s : State) → Keeps types callees s → Good types callees (if none then halts Stuck else picks count (λ i. treated_on named v treatment (picked_task (shapes_of definitions) (direction_of treatment) tasks i) s))
    picked_good true v treatment tasks count s h = tt
    picked_good false v treatment tasks count s h =
        λ i. (h.0, free_treating types callees v treatment (picked_task (shapes_of definitions) (direction_of treatment) tasks i) s.control h.1)

    -- A step of a treatment.
    pub treats_good : (v : Value) (treatment : Treatment) (tasks : List Task) (next : Follows) (s : State) → Keeps types callees s → Good types callees (treats_next named definitions bodies v treatment tasks next s)
    treats_good v treatment tasks Done s h = h
    treats_good v treatment tasks (Pick count) s h = picked_good (count == 0) v treatment tasks count s h
    treats_good v treatment tasks (Perform of part) s h = performed_good v treatment of part (performed tasks) (look s.heap v) s h
