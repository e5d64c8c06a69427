-- Each step while an operation that touches storage is under way: of its body, or of one that it has called, or of the operation of an object that one of these
-- frees or allocates, or that is undone; their ends included (7.6, 7.6.1, 13.11.2, 4.8).

use Rattle.ada_sound.proofs.FrugalFrees.{AssignsBeside}
use Rattle.std.proofs.Common.{◌≡◌, ℕ, true, false, List, [], ◌∷◌, ◌++◌, refl, sym, ap, subst, ◌∙◌, inl, inr, suc}
use Rattle.std.specs.Prelude.{Some}
use Rattle.ada_program.specs.declared.program.Exception.{Exception}
use Rattle.ada_program.specs.declared.program.Program.{Program}
use Rattle.ada_program.specs.declared.program.TypeDefinition.{TypeDefinition}
use Rattle.ada_program.specs.Form.{ActualForm}
use Rattle.ada_program.specs.ProgramForm.{ProgramForm, BodyForm, program_form, body_forms, seen_in}
use Rattle.ada_meaning.specs.declared.state.Id.{Id}
use Rattle.ada_meaning.specs.declared.state.Mode.{Mode}
use Rattle.ada_meaning.specs.declared.state.Mode.TheVariants.{Running, Raising, Exiting, Returning}
use Rattle.ada_meaning.specs.declared.state.Value.{Value}
use Rattle.ada_meaning.specs.Event.{Quiet}
use Rattle.ada_meaning.specs.Frame as frame
use Rattle.ada_meaning.specs.Frame.{Frame, Calls, Returns, Treats, is_return, is_master, landing, Assigns}
use Rattle.ada_meaning.specs.State.{Activation, Master}
use Rattle.ada_meaning.specs.Step.{halts, moves, tells, asks, picks, older, operands, places, procedure_of, frame_next, pass_next, jump_next, mode_next, operands_of}
use Rattle.ada_meaning.specs.Named.{State, Next, named, next}
use Rattle.ada_scopes.proofs.Components.{collect_two}
use Rattle.ada_typed.proofs.Bodies.{own_bodies}
use Rattle.ada_typed.proofs.Kept.{crosses, is_treatment, Each, Keeps}
use Rattle.ada_typed.proofs.KeptSteps.{step_keeps, pass_keeps}
use Rattle.ada_sound.specs.Agreement.{running_procedure}
use Rattle.ada_sound.proofs.CallBegins.{runs_called}
use Rattle.ada_sound.proofs.Callers.{Suspension, known_in, Stands}
use Rattle.ada_sound.proofs.Calls.{calls_to, waiting}
use Rattle.ada_sound.proofs.Allowance.{Allowance}
use Rattle.ada_sound.proofs.Fits.{IsOwnedOutside}
use Rattle.ada_sound.proofs.FreedInside.{IsFreedNext, freed_inside}
use Rattle.ada_sound.proofs.FrugalControl.{Frugal, Frugally, GoesFrugally, is_return_first, none_operated, operated_in}
use Rattle.ada_sound.proofs.FrugalSteps.{TreatsNothing, frugal_goes}
use Rattle.ada_sound.proofs.Invariant.{CallsOn, Control, IsAwaited, Known, ReadyIn, Rooms, RunsOn, Working, outers}
use Rattle.ada_sound.proofs.Pauses.{inner_on, touching_awaits}
use Rattle.ada_sound.proofs.Ready.{at_work}
use Rattle.ada_sound.proofs.Returns.{CrossesTo}
use Rattle.ada_sound.proofs.Sees.{reaches_in, may_call}
use Rattle.ada_sound.proofs.Grounds.{Grounds, may_free}
use Rattle.ada_sound.proofs.Steps as inside
use Rattle.ada_sound.proofs.Touching.{Touching, operated_among}
use Rattle.ada_sound.proofs.TouchingGoes.{GoesTouching, behind_it, operands_deeper, stays_next, still_on, thrifty, touching_on, with_parts}
pub use Rattle.ada_sound.proofs.TouchingGoes.{InTouching, Went, GoesTouching}
use Rattle.ada_sound.proofs.TouchingLeaves.{leaves_well, touching_leaves, touching_stays}
use Rattle.ada_sound.proofs.TouchingReturns.{body_ends}
use Rattle.ada_sound.proofs.TouchingStands.{left_alone, listed_alone, none_is_under, touching_frees, touching_stands}
use Rattle.ada_sound.proofs.TouchingTreats.{treats_step}
use Rattle.ada_sound.proofs.TracksWell.{copies_at, allocates_at, called_apart}
use Rattle.ada_sound.proofs.Waiting.{SameBody}

-- Behind a call no operation waits.
runs_unawaited : (known : Known) (k : Control) (rooms : Rooms) (holds : _) → RunsOn known k rooms holds → IsAwaited k → ⊥
runs_unawaited known [] rooms holds runs awaited = awaited
runs_unawaited known (frame.Awaits v by done of part tasks ∷ k) rooms holds runs awaited = runs
runs_unawaited known (frame.Confines ∷ k) rooms holds runs awaited = runs
runs_unawaited known (f ∷ k) rooms holds runs awaited = awaited

module _ (program : Program) (s : State) (f : Touching program s) (grounds : Grounds program s) (not_end : is_return_first s.control ≡ false) where
  abbrev p : ProgramForm
  p = program_form program

  abbrev coming : Next
  coming = next program.types.items (body_forms program) s

  -- What is freed next is not owned outside.
  next_inside : s.mode ≡ Running → (o : Id) → IsFreedNext s.heap (places s) (operands s) s.control o → IsOwnedOutside (outers (known_in program (running_procedure s) f.suspensions)) o → ⊥
  next_inside runs o freed outside =
      let known = known_in program (running_procedure s) f.suspensions in
      freed_inside known s.heap (places s) (operands s) s.masters o s.control
      (subst (λ (mode : Mode). ReadyIn known mode s.control s.heap (places s) (operands s) s.masters) runs f.ready.1) freed outside

  -- Where a body assigns next to a record, none of its object runs, unless the body is that of an operation itself, and none is called for the record.
  beside_next : s.mode ≡ Running → AssignsBeside (thrifty program s f) program.types.items s.control (operands_of s.activations)
  beside_next runs = by s.control refl
    where
      by : (k : Control) → s.control ≡ k → AssignsBeside (thrifty program s f) program.types.items k (operands_of s.activations)
      by [] is = tt
      by (frame.Assigns t ∷ k) is = λ calls o place target. grounds.beside runs t k is calls o place target
      by (g ∷ k) is = tt

  -- What is left to do is so behind each step but the end of a body, and the treatment of an object.
  goes_on : (s.mode ≡ Running → TreatsNothing s.control) → GoesFrugally (thrifty program s f) f.within.outermost.lower f.within.outermost.behind (operated_among f.within.inner) coming
  goes_on plain =
      let w = f.within in
      frugal_goes program grounds.frees_own w.outermost.lower w.outermost.behind (operated_among w.inner) s w.frugal
      (λ actuals references k is. absurd (let end = not_end in cc (rw is at end))) plain grounds.typed.inside
      (may_free program s) (touching_frees program s grounds f.suspensions f.ready)
      (λ runs first o x freed found listed may. listed_alone program s grounds f.suspensions w f.stands first o x found listed may (next_inside runs o freed)) grounds.unborn
      (λ runs. left_alone program s grounds f.suspensions w f.stands f.ready runs (λ left j is. (touching_leaves program s grounds f runs left j is).1))
      beside_next

  -- The end of no body is next.
  no_end : (k : Control) → IsAwaited k → s.control ≡ Returns [] [] ∷ k → ⊥
  no_end k awaited last = let end = not_end in cc (rw last at end)

  -- Where no body begins and none ends.
  inner_step : inside.crosses s.mode s.control ≡ false → (s.mode ≡ Running → TreatsNothing s.control) → Each (SameBody s) coming → GoesTouching program s coming
  inner_step none plain same =
      let procedure = running_procedure s in
      let known = known_in program procedure f.suspensions in
      stays_next program s f coming same
      (inside.fine known (copies_at program procedure f.suspensions grounds.well grounds.obeys.0) (may_free program s) program.types.items (reaches_in program procedure f.suspensions) (body_forms program) (may_call program procedure f.suspensions grounds.well) s
      (allocates_at program procedure f.suspensions s grounds.well grounds.obeys.0 grounds.apart) none grounds.typed.inside (own_bodies p grounds.frees_own procedure) (collect_two p s grounds.nested)
      (touching_stands program s grounds f.suspensions f.within f.stands f.ready known.program.types) (none_is_under program s grounds f.suspensions f.within f.stands)
      (touching_frees program s grounds f.suspensions f.ready)
      (λ left behind runs at. (
      let leaves = touching_leaves program s grounds f runs left behind at in
      (leaves.0, leaves.1, leaves_well program s grounds f left behind at)
      ))
      (touching_stays program s f)
      f.ready)
      (goes_on plain)
      (still_on program s f grounds no_end)

-- Whatever keeps activations keeps what runs and what waits.
same_by : (s mid after : State) → mid.activations ≡ s.activations → Keeps mid after → SameBody s after
same_by s mid after same keeps = record {
  procedure = keeps.procedure ∙ ap procedure_of same;
  suspended = keeps.suspended ∙ ap older same;
}

each_same : (s mid : State) (n : Next) → mid.activations ≡ s.activations → Each (Keeps mid) n → Each (SameBody s) n
each_same s mid (halts halt) same keeps = tt
each_same s mid (moves e after) same keeps = same_by s mid after same keeps
each_same s mid (tells request e after) same keeps = same_by s mid after same keeps
each_same s mid (asks request answered) same keeps = λ granted. same_by s mid (answered granted) same (keeps granted)
each_same s mid (picks n taken) same keeps = λ i lt. same_by s mid (taken i) same (keeps i lt)

-- A frame treats nothing.
treats_none : (g : Frame Value) (k : Control) → is_treatment g ≡ false → TreatsNothing (g ∷ k)
treats_none g k plain w by left j is =
    let same : g ≡ Treats w by left = cc is in
    let never : is_treatment g ≡ true = rw same refl in
    cc (plain, never)

-- An activation that waits for a call waits for the operation of no object.
called_frugally : (frugal : Allowance) (lower : List Master) (behind : Control) (among : List Value) (k : Control) (after : State) → (IsAwaited k → ⊥)
    → Frugally frugal lower behind among after → Frugally frugal lower behind (operated_in k ++ among) after
called_frugally frugal lower behind among k after none goes =
    subst (λ (os : List Value). Frugally frugal lower behind (os ++ among) after) (sym (none_operated k none)) goes

module _ (program : Program) (a : Activation Value) (k : Control) (s : State) (rest : List (Activation Value)) where
  abbrev tds : List TypeDefinition
  tds = program.types.items

  abbrev bodies : List BodyForm
  bodies = body_forms program

  abbrev whole : Mode → Frame Value → State
  whole mode g = with_parts mode (g ∷ k) (a ∷ rest) s

  -- What is known of what waits is so whatever is left to do.
  restand : (mode : Mode) (g : Frame Value) (gs : List Suspension) → Stands program gs (whole mode g) → Stands program gs (record s { activations = a ∷ rest })
  restand mode g gs stands = record {
    body = stands.body;
    behind = stands.behind;
    bodies = stands.bodies;
    standing = record { suspended = stands.standing.suspended; waiting = stands.standing.waiting; low = stands.standing.low };
  }

  -- A call: its body begins.
  call_begins : (number : ℕ) (b : BodyForm) (given : List ActualForm) → Grounds program (whole Running (Calls number b given)) → Touching program (whole Running (Calls number b given)) → GoesTouching program (whole Running (Calls number b given)) (mode_next named tds bodies Running (whole Running (Calls number b given)))
  unfolding next
  call_begins number b given grounds f =
      let before = whole Running (Calls number b given) in
      let w = f.within in
      let ready = f.ready.1 in
      let gs = f.suspensions in
      let caller = known_in program a.procedure gs in
      let works : Working caller s.heap a.places s.masters (CallsOn caller number b given k) = at_work ready ready.rest.0 in
      let stands = restand Running (Calls number b given) gs f.stands in
      let still = still_on program before f grounds (λ j awaited last. cc last) in
      let unawaited : IsAwaited k → ⊥ = runs_unawaited caller k works.rooms _ works.rest.1 in
      let waits = waiting program number b given k a rest gs s works in
      let c = calls_to program number b given k a rest gs s works ready.rest.1 (inside.heap_typed (seen_in a.procedure (program_form program)) before grounds.typed.inside).1 stands (λ o x gone. touching_awaits program gs before w)
      (runs_called program number b given k a gs s grounds.well grounds.obeys (called_apart program before number b given k refl grounds.obeys.0 grounds.apart) works stands.body ready.rest.1 rest stands) in
      inl (touching_on program before f (waits ∷ w.inner) Quiet _ (inl (
        (unawaited, refl, refl),
        inner_on program before (thrifty program before f) w.outermost.behind w.outermost.lower _ Quiet a.procedure 0 (suc 0) (Some w.outermost.number)
            (behind_it program before f) w.inner w.within c.stepped.alters (λ n. sym (operands_deeper n rest a _)) still.1,
      ))
      refl
      (called_frugally (thrifty program before f) w.outermost.lower w.outermost.behind (operated_among w.inner) k _ unawaited
      (goes_on program before f grounds refl (λ runs v treatment tasks j is. cc is)))
      still.0
      (subst (λ (all : List Suspension). CrossesTo program (waits ∷ all) s.heap Quiet _) w.are c))

  -- A frame at which no body begins and none ends.
  frame_on : (g : Frame Value) → crosses g ≡ false → is_treatment g ≡ false → is_return g ≡ false → (grounds : Grounds program (whole Running g)) (f : Touching program (whole Running g)) → GoesTouching program (whole Running g) (frame_next named tds bodies g (with_parts Running k (a ∷ rest) s))
  unfolding next
  frame_on g none plain not_end grounds f =
      inner_step program (whole Running g) f grounds not_end (rw (none, plain) refl) (λ runs. treats_none g k plain)
      (each_same (whole Running g) (with_parts Running k (a ∷ rest) s) _ refl (step_keeps tds bodies g (with_parts Running k (a ∷ rest) s) (λ treats. absurd (cc (plain, treats))) none))

  -- So is one that a jump passes.
  passed_on : (mode : Mode) → (mode ≡ Running → ⊥) → (g : Frame Value) → inside.crosses mode (g ∷ k) ≡ false → is_return g ≡ false → (n : Next) → mode_next named tds bodies mode (whole mode g) ≡ n → n ≡ pass_next named (is_master g) (landing mode g) mode (with_parts mode k (a ∷ rest) s) → (grounds : Grounds program (whole mode g)) (f : Touching program (whole mode g)) → GoesTouching program (whole mode g) n
  unfolding next
  passed_on mode jumps g none not_end n is passes grounds f =
      subst (GoesTouching program (whole mode g)) is
      (inner_step program (whole mode g) f grounds not_end none (λ runs. absurd (jumps runs))
      (subst (Each (SameBody (whole mode g))) (sym is) (each_same (whole mode g) (with_parts mode k (a ∷ rest) s) n refl (subst (λ (coming : Next). Each (Keeps (with_parts mode k (a ∷ rest) s)) coming) (sym passes) (pass_keeps (is_master g) (landing mode g) mode (with_parts mode k (a ∷ rest) s))))))

  running_step : (g : Frame Value) → (grounds : Grounds program (whole Running g)) (f : Touching program (whole Running g)) → GoesTouching program (whole Running g) (mode_next named tds bodies Running (whole Running g))
  unfolding next
  running_step (Calls number b given) grounds f = call_begins number b given grounds f
  running_step (Returns actuals references) grounds f = body_ends program a k s Running actuals references rest grounds f f.ready.1 refl
  running_step (Treats v treatment tasks) grounds f = treats_step program a rest k s v treatment tasks grounds f
  running_step g grounds f = frame_on g refl refl refl grounds f

  raising_step : (e : Exception) (g : Frame Value) → (grounds : Grounds program (whole (Raising e) g)) (f : Touching program (whole (Raising e) g)) → GoesTouching program (whole (Raising e) g) (jump_next named (Raising e) (g ∷ k) (whole (Raising e) g))
  unfolding next
  raising_step e (Returns actuals references) grounds f = body_ends program a k s (Raising e) actuals references rest grounds f f.ready.1 refl
  raising_step e g grounds f = passed_on (Raising e) (λ runs. cc runs) g refl refl _ refl refl grounds f

  exiting_step : (g : Frame Value) → (grounds : Grounds program (whole Exiting g)) (f : Touching program (whole Exiting g)) → GoesTouching program (whole Exiting g) (jump_next named Exiting (g ∷ k) (whole Exiting g))
  unfolding next
  exiting_step (Returns actuals references) grounds f = body_ends program a k s Exiting actuals references rest grounds f f.ready.1 refl
  exiting_step g grounds f = passed_on Exiting (λ runs. cc runs) g refl refl _ refl refl grounds f

  returning_step : (g : Frame Value) → (grounds : Grounds program (whole Returning g)) (f : Touching program (whole Returning g)) → GoesTouching program (whole Returning g) (jump_next named Returning (g ∷ k) (whole Returning g))
  unfolding next
  returning_step (Returns actuals references) grounds f = body_ends program a k s Returning actuals references rest grounds f f.ready.1 refl
  returning_step g grounds f = passed_on Returning (λ runs. cc runs) g refl refl _ refl refl grounds f

-- Nothing is left to do of no body.
nothing_left : (frugal : Allowance) (behind : Control) (among : List Value) (mode : Mode) (ms : List Master) → Frugal frugal behind among mode [] ms → ⊥
nothing_left frugal behind among mode ms (inl q) = q
nothing_left frugal behind among mode ms (inr (inl leaving)) = leaving.1
nothing_left frugal behind among mode ms (inr (inr beginning)) = beginning.1

-- Any step while such an operation is under way.
step_by : (program : Program) (mode : Mode) (k : Control) (all : List (Activation Value)) (s : State) → (grounds : Grounds program (with_parts mode k all s)) (f : Touching program (with_parts mode k all s)) → GoesTouching program (with_parts mode k all s) (mode_next named program.types.items (body_forms program) mode (with_parts mode k all s))
step_by program mode k [] s grounds f = absurd f.ready.0
step_by program mode [] (a ∷ rest) s grounds f = absurd (nothing_left (thrifty program (with_parts mode [] (a ∷ rest) s) f) f.within.outermost.behind (operated_among f.within.inner) mode f.within.frugal.upper f.within.frugal.frugally)
step_by program Running (g ∷ k) (a ∷ rest) s grounds f = running_step program a k s rest g grounds f
step_by program (Raising e) (g ∷ k) (a ∷ rest) s grounds f = raising_step program a k s rest e g grounds f
step_by program Exiting (g ∷ k) (a ∷ rest) s grounds f = exiting_step program a k s rest g grounds f
step_by program Returning (g ∷ k) (a ∷ rest) s grounds f = returning_step program a k s rest g grounds f

pub touching_step : (program : Program) (s : State) → Grounds program s → Touching program s → GoesTouching program s (next program.types.items (body_forms program) s)
unfolding next
touching_step program s grounds f = step_by program s.mode s.control s.activations s grounds f
