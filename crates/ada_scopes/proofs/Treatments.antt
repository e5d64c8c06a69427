-- A step of the treatment of an object changes neither masters nor the homes of objects (7.6, 7.6.1), and what is behind it nests as before. Where it calls
-- an operation, the body of that nests as if it stood there: the collections of the main procedure are open, or its master lacks those that are not.

use Rattle.std.proofs.Common.{◌≡◌, ℕ, ◌==◌, Bool, true, false, if◌then◌else◌, List, [], ◌∷◌, ◌++◌, Option, Some, None, refl, ap, ◌⊎◌, inl, inr}
use Rattle.std.specs.List.{slice_get}
use Rattle.ada_parts.specs.declared.tasks.Next.{Next as Follows}
use Rattle.ada_parts.specs.declared.tasks.Next.TheVariants.{Done, Pick, Perform}
use Rattle.ada_parts.specs.Part.{Part}
use Rattle.ada_parts.specs.Task.{Task, performed}
use Rattle.ada_program.specs.declared.program.Operations.{Operations}
use Rattle.ada_program.specs.declared.program.ProcedureNo.{ProcedureNo}
use Rattle.ada_program.specs.declared.program.TypeDefinition.{TypeDefinition}
use Rattle.ada_program.specs.Controlled.{no_operations, operations_of, procedure_number, shapes_of}
use Rattle.ada_program.specs.ProgramForm.{TypeForm, BodyForm}
use Rattle.ada_program.specs.Nested.{Callees, call_nests, collected}
use Rattle.ada_program.specs.WellFormed.{reached_components}
use Rattle.ada_meaning.specs.declared.event.Birth.{Birth}
use Rattle.ada_meaning.specs.declared.event.Birth.TheVariants.{Creation, Copy, Adjustment}
use Rattle.ada_meaning.specs.declared.event.Cause.{Cause}
use Rattle.ada_meaning.specs.declared.event.Halt.TheVariants.{Erroneous, Stuck}
use Rattle.ada_meaning.specs.declared.event.Why.TheVariants.{FinalizesTwice}
use Rattle.ada_meaning.specs.declared.state.Mode.TheVariants.{Running}
use Rattle.ada_meaning.specs.declared.state.Value.{Value}
use Rattle.ada_meaning.specs.Event.{Finalized}
use Rattle.ada_meaning.specs.Frame.{Frame, Treatment}
use Rattle.ada_meaning.specs.Frame as frame
use Rattle.ada_meaning.specs.Heap.{PartState, Cell, Found, on_null, on_gone, on_other, finds}
use Rattle.ada_meaning.specs.Named.{Object, State, named, look, on_object, born_part, finalized_part, treated}
use Rattle.ada_meaning.specs.Run.{Event}
use Rattle.ada_meaning.specs.State.{counted}
use Rattle.ada_meaning.specs.Step.{picked_task, halts, picks, direction_of, beginning as begun_by, at, treating, treated_on, operating, operation_next, part_reference, born_next, begun_next, awaited_next, ended_next, finalized_next, performed_next, treats_next}
use Rattle.ada_scopes.proofs.Counts.{open_within, Scopes, scopes, all_of}
use Rattle.ada_scopes.proofs.Homes.{KeepsHome}
use Rattle.ada_scopes.proofs.Texts.{BodyNests, BodiesNest}
use Rattle.ada_scopes.proofs.Control.{Nests, Goes, Whole, Nested, standing, beginning, parting, Lacks, nests_treating, goes_treating, grows_lacking}
use Rattle.ada_scopes.proofs.Lacked.{IsLacked, within_after}
use Rattle.ada_scopes.proofs.Evaluations.{Good, Stands, Parts, whole_on}

keeps_treated : (change : PartState → PartState) (part : ℕ) (x : Object) → KeepsHome x (treated change part x)
keeps_treated change part x = record { home = refl; access = refl; listed = λ e. e }

-- A procedure may be called as operations are, where these collections are open: its master lacks some that are not, and with those it nests.
pub record CallsHere (types : List TypeForm) (callees : Callees) (main : Option (List ℕ)) (there : List ℕ) (procedure : ℕ) : Type 0 where
  pub lacks : List ℕ
  pub lacking : Lacks main lacks
  pub here : IsLacked types there lacks
  pub nests : call_nests (slice_get callees procedure) (lacks ++ there) ≡ true

-- So may one that overrides an operation, if one does.
abbrev pub CallsIfAny : List TypeForm → Callees → (main : Option (List ℕ)) → (there : List ℕ) → Option ProcedureNo → Type 0
CallsIfAny types callees main there None = Unit {0}
CallsIfAny types callees main there (Some procedure) = CallsHere types callees main there procedure.0

-- Each operation that a type overrides may be called where these are open; none is overridden, where none is called.
abbrev pub OperationsHere : List TypeForm → Callees → (main : Option (List ℕ)) → (calling : Bool) → (there : List ℕ) → List TypeDefinition → Type 0
OperationsHere types callees main calling there definitions =
    (of : ℕ) → CallsIfAny types callees main there (operations_of definitions of).initialize × CallsIfAny types callees main there (operations_of definitions of).adjust
    × CallsIfAny types callees main there (operations_of definitions of).finalize × (calling ≡ false → operations_of definitions of ≡ no_operations)

-- A frame of this kind treats an object: no other frame calls an operation.
abbrev pub IsTreatment : Frame Value → Type 0
IsTreatment (frame.Treats v treatment tasks) = Unit {0}
IsTreatment f = ⊥

-- What is left to do begins with a treatment.
abbrev pub TreatsFirst : List (Frame Value) → Type 0
TreatsFirst [] = ⊥
TreatsFirst (f ∷ k) = IsTreatment f

-- So it is of what is called, if anything is.
abbrev Operates : List TypeForm → Callees → (main : Option (List ℕ)) → (calling : Bool) → (there : List ℕ) → Option ℕ → Type 0
Operates types callees main calling there None = Unit {0}
Operates types callees main calling there (Some procedure) = CallsHere types callees main there procedure × (calling ≡ true)

module _ (types : List TypeForm) (callees : Callees) (main : Option (List ℕ)) (calling : Bool) (there : List ℕ) where
  operates : (o : Option ProcedureNo) → CallsIfAny types callees main there o → (calling ≡ false → o ≡ None) → Operates types callees main calling there (procedure_number o)
  operates None calls alone = tt
  operates (Some procedure) calls alone = (calls, by calling refl)
    where
      by : (b : Bool) → calling ≡ b → b ≡ true
      by true is = refl
      by false is = absurd (cc (alone is))

  begins_so : (by : Birth) (definitions : List TypeDefinition) (of : ℕ) → OperationsHere types callees main calling there definitions
      → Operates types callees main calling there (begun_by by (operations_of definitions of))
  begins_so Creation definitions of all = operates (operations_of definitions of).initialize (all of).0 (λ none. ap (λ (x : Operations). x.initialize) ((all of).3 none))
  begins_so Copy definitions of all = operates (operations_of definitions of).adjust (all of).1 (λ none. ap (λ (x : Operations). x.adjust) ((all of).3 none))
  begins_so (Adjustment number) definitions of all = operates (operations_of definitions of).adjust (all of).1 (λ none. ap (λ (x : Operations). x.adjust) ((all of).3 none))

  ends_so : (definitions : List TypeDefinition) (of : ℕ) → OperationsHere types callees main calling there definitions
      → Operates types callees main calling there (procedure_number (operations_of definitions of).finalize)
  ends_so definitions of all = operates (operations_of definitions of).finalize (all of).2 (λ none. ap (λ (x : Operations). x.finalize) ((all of).3 none))

module _ (types : List TypeForm) (callees : Callees) (main : Option (List ℕ)) (calling : Bool) (ss : Scopes) (bodies : List BodyForm) (nesting : BodiesNest types callees bodies) where
  -- The body of an operation begins, whose master lacks these.
  operating_good : (procedure : ℕ) (b : BodyForm) (reference : Value) (behind : List (Frame Value)) (s : State) (lacks : List ℕ) → Lacks main lacks → IsLacked types (all_of ss) lacks → s.mode ≡ Running → BodyNests types callees (lacks ++ all_of ss) b → Whole types ss s.masters s.heap → Nests types callees main calling ss (scopes s.masters) behind → Nested types callees main calling (operating named procedure b reference behind s)
  operating_good procedure b reference behind s lacks lacking here runs nest w n = beginning (record {
    ss = ss;
    m = record { number = s.next; items = [] };
    rest = s.masters;
    ds = b.declarations;
    fs = b.statements;
    hs = b.handlers;
    k = frame.Returns [] [] ∷ behind;
    there = collected b.declarations ++ (lacks ++ all_of ss);
    masters = refl;
    control = refl;
    runs = runs;
    growing = grows_lacking types main ss s.next s.masters s.heap b.declarations (lacks ++ all_of ss) lacks lacking
        (record { known = here.known; needs = λ t le. open_within (lacks ++ all_of ss) (collected b.declarations ++ (lacks ++ all_of ss)) (reached_components types t) (within_after (collected b.declarations) (lacks ++ all_of ss)) (here.needs t le) })
        (λ t. here.apart t (w.lone t)) nest.part (λ t. refl) w;
    statements = nest.statements;
    handlers = nest.handlers;
    nests = inr (tt, n);
  })

  operation_good : (procedure : ℕ) (body : Option BodyForm) (reference : Value) (behind : List (Frame Value)) (event : Event) (s : State) → slice_get bodies procedure ≡ body → Operates types callees main calling (all_of ss) (Some procedure) → s.mode ≡ Running → Whole types ss s.masters s.heap → Nests types callees main calling ss (scopes s.masters) behind → Good types callees main calling (operation_next named procedure body reference behind event s)
  operation_good procedure None reference behind event s at_body called runs w n = tt
  operation_good procedure (Some b) reference behind event s at_body called runs w n =
      operating_good procedure b reference behind s called.0.lacks called.0.lacking called.0.here runs
      (nesting procedure b (called.0.lacks ++ all_of ss) at_body called.0.nests) w n

  -- A part begins.
  born_good : (v : Value) (by : Birth) (done : List Part) (of part : ℕ) (tasks : List Task) (o : Option PartState) (s : State) → Stands types callees main calling ss s → Good types callees main calling (born_next named v by done of part tasks o s)
  born_good v by done of part tasks None s h = tt
  born_good v by done of part tasks (Some p) s h =
      let change = born_part (counted s.born) in
      standing ss (whole_on types callees main calling ss (treated change part) v s (keeps_treated change part) h.0)
      (nests_treating types callees main calling ss (scopes s.masters) v (frame.begins by (record { of = of; number = part } ∷ done)) tasks s.control h.1)

  begun_good : (v : Value) (by : Birth) (done : List Part) (of part : ℕ) (tasks : List Task) (operation : Option ℕ) (o : Option PartState) (s : State) → Operates types callees main calling (all_of ss) operation → s.mode ≡ Running → Stands types callees main calling ss s → Good types callees main calling (begun_next named bodies v by done of part tasks operation o s)
  begun_good v by done of part tasks operation None s called runs h = tt
  begun_good v by done of part tasks None (Some p) s called runs h = born_good v by done of part tasks (Some p) s h
  begun_good v by done of part tasks (Some procedure) (Some p) s called runs h =
      operation_good procedure (slice_get bodies procedure) (part_reference named v part p) (frame.Awaits v by done of part tasks ∷ s.control) _ s refl called runs h.0 (tt, h.1)

  pub awaited_good : (v : Value) (by : Birth) (done : List Part) (of part : ℕ) (tasks : List Task) (found : Found (Cell Value)) (s : State) → Stands types callees main calling ss s → Good types callees main calling (awaited_next named v by done of part tasks found s)
  awaited_good v by done of part tasks on_null s h = tt
  awaited_good v by done of part tasks on_gone s h = tt
  awaited_good v by done of part tasks on_other s h = tt
  awaited_good v by done of part tasks (finds cell) s h = born_good v by done of part tasks (slice_get cell.parts part) s h

  -- The value of a part is finalized, whether or not the innermost master is being left.
  pub either_good : (s : State) → Whole types ss s.masters s.heap → s.mode ≡ Running → Nests types callees main calling ss (scopes s.masters) s.control ⊎ Goes types callees main calling ss (scopes s.masters) s.control → Nested types callees main calling s
  either_good s w runs (inl n) = standing ss w n
  either_good s w runs (inr goes) = parting ss w runs goes

  ended_good : (v : Value) (part : ℕ) (p : PartState) (behind : List (Frame Value)) (operation : Option ℕ) (event : Event) (s : State) → Operates types callees main calling (all_of ss) operation → s.mode ≡ Running → Whole types ss s.masters s.heap → Nests types callees main calling ss (scopes s.masters) behind ⊎ Goes types callees main calling ss (scopes s.masters) behind → Good types callees main calling (ended_next named bodies v part p behind operation event s)
  ended_good v part p behind None event s called runs w n = either_good (at behind s) w runs n
  ended_good v part p behind (Some procedure) event s called runs w n =
      operation_good procedure (slice_get bodies procedure) (part_reference named v part p) (frame.Confines ∷ behind) event s refl called runs w (called.1, n)

  alive_good : (alive : Bool) (v : Value) (cause : Cause) (part : ℕ) (behind : List (Frame Value)) (operation : Option ℕ) (event : Event) (p : PartState) (s : State) → Operates types callees main calling (all_of ss) operation → s.mode ≡ Running → Whole types ss s.masters s.heap → Nests types callees main calling ss (scopes s.masters) behind ⊎ Goes types callees main calling ss (scopes s.masters) behind → Good types callees main calling (if alive then ended_next named bodies v part p behind operation event (record s { heap = on_object (treated finalized_part part) s.heap v }) else halts (Erroneous FinalizesTwice))
  alive_good false v cause part behind operation event p s called runs w n = tt
  alive_good true v cause part behind operation event p s called runs w n =
      ended_good v part p behind operation event (record s { heap = on_object (treated finalized_part part) s.heap v }) called runs
      (whole_on types callees main calling ss (treated finalized_part part) v s (keeps_treated finalized_part part) w) n

  finalized_good : (v : Value) (cause : Cause) (of part : ℕ) (tasks : List Task) (operation : Option ℕ) (o : Option PartState) (s : State) → Operates types callees main calling (all_of ss) operation → s.mode ≡ Running → Whole types ss s.masters s.heap → Nests types callees main calling ss (scopes s.masters) (treating v (frame.ends cause) tasks s.control) ⊎ Goes types callees main calling ss (scopes s.masters) (treating v (frame.ends cause) tasks s.control) → Good types callees main calling (finalized_next named bodies v cause of part tasks operation o s)
  finalized_good v cause of part tasks operation None s called runs w n = tt
  finalized_good v cause of part tasks operation (Some p) s called runs w n =
      alive_good p.alive v cause part (treating v (frame.ends cause) tasks s.control) operation (Finalized v part p.turn of p.number cause) p s called runs w n

  module _ (definitions : List TypeDefinition) (operations : OperationsHere types callees main calling (all_of ss) definitions) where
    performed_good : (v : Value) (treatment : Treatment) (of part : ℕ) (tasks : List Task) (found : Found (Cell Value)) (s : State) → s.mode ≡ Running → Stands types callees main calling ss s → Good types callees main calling (performed_next named definitions bodies v treatment of part tasks found s)
    performed_good v treatment of part tasks on_null s runs h = tt
    performed_good v treatment of part tasks on_gone s runs h = tt
    performed_good v treatment of part tasks on_other s runs h = tt
    performed_good v (frame.begins by done) of part tasks (finds cell) s runs h =
        begun_good v by done of part tasks (begun_by by (operations_of definitions of)) (slice_get cell.parts part) s (begins_so types callees main calling (all_of ss) by definitions of operations) runs h
    performed_good v (frame.ends cause) of part tasks (finds cell) s runs h =
        finalized_good v cause of part tasks (procedure_number (operations_of definitions of).finalize) (slice_get cell.parts part) s
        (ends_so types callees main calling (all_of ss) definitions of operations) runs h.0
        (inl (nests_treating types callees main calling ss (scopes s.masters) v (frame.ends cause) tasks s.control h.1))

    picked_good : (none : Bool) (v : Value) (treatment : Treatment) (tasks : List Task) (count : ℕ) (s : State) → Stands types callees main calling ss s → Good types callees main calling (if none then halts Stuck else picks count (λ i. treated_on named v treatment (picked_task (shapes_of definitions) (direction_of treatment) tasks i) s))
    picked_good true v treatment tasks count s h = tt
    picked_good false v treatment tasks count s h =
        λ i lt. standing ss h.0 (nests_treating types callees main calling ss (scopes s.masters) v treatment (picked_task (shapes_of definitions) (direction_of treatment) tasks i) s.control h.1)

    -- A step of a treatment.
    pub treats_good : (v : Value) (treatment : Treatment) (tasks : List Task) (next : Follows) (s : State) → s.mode ≡ Running → Stands types callees main calling ss s → Good types callees main calling (treats_next named definitions bodies v treatment tasks next s)
    treats_good v treatment tasks Done s runs h = standing ss h.0 h.1
    treats_good v treatment tasks (Pick count) s runs h = picked_good (count == 0) v treatment tasks count s h
    treats_good v treatment tasks (Perform of part) s runs h = performed_good v treatment of part (performed tasks) (look s.heap v) s runs h

    -- One while the innermost master is being left.
    performing_good : (v : Value) (cause : Cause) (of part : ℕ) (tasks : List Task) (found : Found (Cell Value)) (s : State) → Parts types callees main calling ss s → Good types callees main calling (performed_next named definitions bodies v (frame.ends cause) of part tasks found s)
    performing_good v cause of part tasks on_null s h = tt
    performing_good v cause of part tasks on_gone s h = tt
    performing_good v cause of part tasks on_other s h = tt
    performing_good v cause of part tasks (finds cell) s h =
        finalized_good v cause of part tasks (procedure_number (operations_of definitions of).finalize) (slice_get cell.parts part) s
        (ends_so types callees main calling (all_of ss) definitions of operations) h.1 h.0
        (inr (goes_treating types callees main calling ss (scopes s.masters) v cause tasks s.control h.2))

    picking_good : (none : Bool) (v : Value) (cause : Cause) (tasks : List Task) (count : ℕ) (s : State) → Parts types callees main calling ss s → Good types callees main calling (if none then halts Stuck else picks count (λ i. treated_on named v (frame.ends cause) (picked_task (shapes_of definitions) (direction_of (frame.ends cause)) tasks i) s))
    picking_good true v cause tasks count s h = tt
    picking_good false v cause tasks count s h =
        λ i lt. parting ss h.0 h.1 (goes_treating types callees main calling ss (scopes s.masters) v cause (picked_task (shapes_of definitions) (direction_of (frame.ends cause)) tasks i) s.control h.2)

    pub treating_good : (v : Value) (cause : Cause) (tasks : List Task) (next : Follows) (s : State) → Parts types callees main calling ss s → Good types callees main calling (treats_next named definitions bodies v (frame.ends cause) tasks next s)
    treating_good v cause tasks Done s h = parting ss h.0 h.1 h.2
    treating_good v cause tasks (Pick count) s h = picking_good (count == 0) v cause tasks count s h
    treating_good v cause tasks (Perform of part) s h = performing_good v cause of part (performed tasks) (look s.heap v) s h
