-- Effects cover what calls do: each activation that waits may free what the running one may.

use Rattle.std.proofs.Common.{◌≡◌, ℕ, zero, suc, true, List, [], ◌∷◌, refl, ap, subst, ◌∙◌, ◌⊎◌, inl, inr}
use Rattle.std.specs.Prelude.{ℤ, Option, Some}
use Rattle.std.specs.List.{slice_get}
use Rattle.ada_program.specs.declared.program.Program.{Program}
use Rattle.ada_program.specs.declared.program.Exception.{Exception}
use Rattle.ada_program.specs.Handling.{is_same}
use Rattle.ada_program.specs.Form.{ActualForm}
use Rattle.ada_program.specs.ProgramForm.{main_body, program_form, seen_in}
use Rattle.ada_deeds.specs.Implicit.{implicit_of}
use Rattle.ada_effects.specs.Effects.{no_calls, body_raises, call_frees, call_raises, effects_of}
use Rattle.ada_flow.specs.Flow.{Holds}
use Rattle.ada_meaning.specs.declared.event.Cause.TheVariants.{Leaving, Freeing, Assigning, Undoing}
use Rattle.ada_meaning.specs.declared.state.Mode.{Mode}
use Rattle.ada_meaning.specs.declared.state.Mode.TheVariants.{Raising}
use Rattle.ada_meaning.specs.declared.state.Value.{Value}
use Rattle.ada_meaning.specs.Event.{Born, Finalized, Back, Followed, Left, Line, Quiet}
use Rattle.ada_meaning.specs.Frame.{Returns}
use Rattle.ada_meaning.specs.State.{Activation, Master}
use Rattle.ada_meaning.specs.Step.{procedure_of}
use Rattle.ada_meaning.specs.Named.{Object, State}
use Rattle.ada_meaning.specs.Run.{Event, first_state}
use Rattle.ada_meaning.specs.Calls.{EndsBody}
use Rattle.ada_sound.specs.Agreement.{running_procedure}
use Rattle.ada_sound.specs.Always.{IsChecked}
use Rattle.ada_sound.specs.Callees as callees
use Rattle.ada_sound.specs.Callees.{IsCovered, FreesAreCovered, RaisesAreCovered}
use Rattle.ada_sound.proofs.Bodies.{IsBody, seen_is, effect_at}
use Rattle.ada_sound.proofs.Invariant.{Control, Rooms, Working, GoesOn, ReadyIn, CoveredIn, body_among}
use Rattle.ada_sound.proofs.Callers.{Suspension, known_in}
use Rattle.ada_sound.proofs.Starts.{Ordinary, Sound, sound_first}
use Rattle.ada_sound.proofs.Touching.{Touching}
use Rattle.ada_sound.proofs.Operating.{Sight, Comes, Body}
use Rattle.ada_sound.proofs.Operates.{Operates}
use Rattle.ada_sound.proofs.Uncalled.{body_called}
use Rattle.ada_sound.proofs.Judged.{judged_in}
use Rattle.ada_sound.proofs.Adjusting.{AdjustingCopy, put_aside, waiting}
use Rattle.ada_sound.proofs.JudgedForms.{covers_judged, orderly_seen, tracks_seen}
use Rattle.ada_sound.proofs.AdjustingCopies.{InCopy, none_leaves}
use Rattle.ada_sound.proofs.CoveredBy.{called_frees, waiting_frees, covered_by}
use Rattle.ada_sound.proofs.Departing.{Departing}
use Rattle.ada_sound.proofs.Runs.{LedOn}
use Rattle.ada_sound.proofs.SeenStates.{seen_activations, seen_control, seen_mode}
use Rattle.ada_sound.proofs.Runs as runs

module _ (program : Program) where
  -- What a body may raise, calls of its procedure may.
  called_raises : (number : ℕ) (e : Exception) → IsBody (program_form program) (Some number) → body_among (implicit_of (program_form program)) (seen_in (Some number) (program_form program)) e ≡ true → call_raises (callees.effect_at program number) (is_same e) ≡ true
  called_raises number e is may =
      let p = program_form program in
      let effect = effect_at p.types (implicit_of p) p.bodies number is.0 is.1 in
      rw effect (rw (seen_is p number is.0 is.1) at may)

  -- So it is while an Adjust runs that tracks components, as it is judged.
  judged_free : (all : List (Activation Value)) (s : State) (d : AdjustingCopy program s) (t : ℕ) → s.activations ≡ all → CoveredIn (implicit_of (program_form program)) (seen_in (running_procedure s) (program_form program)) t
      → (depth : ℕ) (a : Activation Value) (number : ℕ) → slice_get all depth ≡ Some a → a.procedure ≡ Some number → call_frees (callees.effect_at program number) t ≡ true
  judged_free [] s d t here may depth a number at is = absurd (cc at)
  judged_free (b ∷ rest) s d t here may zero a number at is =
      let f = d.adjusting in
      let own : running_procedure s ≡ Some number = rw here (let e : b ≡ a = cc at in rw e is) in
      let same : f.number ≡ number = let runs = f.runs in cc (runs, own) in
      called_frees program number t (f.b, rw (← same) (f.there)) (rw own at may)
  judged_free (b ∷ rest) s d t here may (suc depth) a number at is =
      let f = d.adjusting in
      let p = program_form program in
      let own = seen_in (Some f.number) p in
      let runs : CoveredIn (implicit_of p) own t = subst (λ (procedure : Option ℕ). CoveredIn (implicit_of p) (seen_in procedure p) t) f.runs may in
      let judged =
      covers_judged own f.w.tracks (tracks_seen p f.number f.b f.w.tracks f.there f.components) (orderly_seen p f.number f.b f.w.tracks f.there f.orderly) (implicit_of p) t runs in
      waiting_frees program (implicit_of p) (judged_in f.w.tracks own) rest (waiting program (put_aside d.owners d.object s) f ∷ f.suspensions) t (rw here at (f.bodies)) f.standing.waiting judged depth a number at is

  adjusting_covered : (e : Event) (before : List Object) (after : State) → InCopy program before e after → (depth : ℕ) (a : Activation Value) (number : ℕ) → slice_get after.activations depth ≡ Some a → a.procedure ≡ Some number → IsCovered program number e
  adjusting_covered (Born object part turn type number' by) before after c depth a number at is = tt
  adjusting_covered (Finalized object part turn type number' cause) before after c depth a number at is = tt
  adjusting_covered (Back object access number' pool subpool (Leaving m item)) before after c depth a number at is = tt
  adjusting_covered (Back object access number' pool subpool (Freeing f)) before after c depth a number at is =
      judged_free after.activations after c.body access refl c.says.covered.0 depth a number at is
  adjusting_covered (Back object access number' pool subpool (Assigning b)) before after c depth a number at is = tt
  adjusting_covered (Back object access number' pool subpool (Undoing b)) before after c depth a number at is = tt
  adjusting_covered (Followed object) before after c depth a number at is = tt
  adjusting_covered (Left master) before after c depth a number at is = tt
  adjusting_covered (Line line) before after c depth a number at is = tt
  adjusting_covered Quiet before after c depth a number at is = tt

  -- What leaves a body is among what it may raise.
  raised_by : (procedure : Option ℕ) (gs : List Suspension) (e : Exception) (actuals : List ActualForm) (references : List Value) (k : Control) (rooms : Rooms) (holds : Holds) → GoesOn (known_in program procedure gs) (Raising e) (Returns actuals references ∷ k) rooms holds → body_among (implicit_of (program_form program)) (seen_in procedure (program_form program)) e ≡ true
  raised_by procedure [] e actuals references k [] holds g = absurd g
  raised_by procedure [] e actuals references k (gone ∷ rooms) holds g = absurd g
  raised_by procedure (g ∷ gs) e actuals references k [] holds goes = goes.0
  raised_by procedure (g ∷ gs) e actuals references k (gone ∷ rooms) holds goes = absurd goes

  leaves_by : (procedure : Option ℕ) (gs : List Suspension) (e : Exception) (actuals : List ActualForm) (references : List Value) (outer k : Control) (mode : Mode) (heap : List Object) (held operands : List Value) (masters : List Master) → ReadyIn (known_in program procedure gs) mode k heap held operands masters → mode ≡ Raising e → k ≡ Returns actuals references ∷ outer → body_among (implicit_of (program_form program)) (seen_in procedure (program_form program)) e ≡ true
  leaves_by procedure gs e actuals references outer k mode heap held operands masters ready raising ends =
      let w : Working (known_in program procedure gs) heap held masters (GoesOn (known_in program procedure gs) (Raising e) (Returns actuals references ∷ outer)) = rw (raising, ends) at ready in
      raised_by procedure gs e actuals references outer w.rooms w.holds w.rest

module _ (program : Program) (accepted : IsChecked program) where
  first : (input : List ℤ) → Sound program (first_state program input)
  first input = sound_first program input accepted.well_formed accepted.in_use accepted.nests accepted.frees_own accepted.spares_own accepted.spares_newer accepted.spares_adjusted accepted.lets_nothing_out accepted.obeys

  pub frees : FreesAreCovered program
  frees input events before after choice e run step depth a number at is =
      by (runs.led program before choice e after (runs.sound_run run (first input)) step)
    where
      by : LedOn program before.heap e after → IsCovered program number e
      by (inl (inl (c, calm, settled))) = covered_by program e before.heap after c.suspensions c.stands c.stepped.says depth a number at is
      by (inl (inr (inl c))) = c.covered number
      by (inl (inr (inr (inl c)))) = covered_by program e before.heap after c.body.suspensions c.body.stands c.says depth a number at is
      by (inl (inr (inr (inr c)))) = adjusting_covered program e before.heap after c depth a number at is
      by (inr c) = c.covers depth a number at is

  -- An exception that leaves the body of a procedure is one that calls of it may raise: so it is while an operation runs that touches no storage, ...
  operating_raises : (s : State) → Operates program s → (procedure : Option ℕ) (number : ℕ) (e : Exception) → running_procedure s ≡ procedure → procedure ≡ Some number → EndsBody s → s.mode ≡ Raising e → call_raises (callees.effect_at program number) (is_same e) ≡ true
  operating_raises s o procedure number e runs is ends mode =
      let body : Body (record { program = seen_in (Some o.procedure) (program_form program); object = o.object; access = o.access }) o.behind o.upper s.heap o.places o.operands (Raising e) (Returns ends.actuals ends.references ∷ ends.outer) = rw (mode, ends.first) at o.body in
      let here : Some o.procedure ≡ Some number = (rw o.active at runs) ∙ is in
      let same : o.procedure ≡ number = cc here in
      let own = seen_in (Some o.procedure) (program_form program) in
      let may = comes_out (record { program = own; object = o.object; access = o.access }) o.behind o.upper o.operands body.comes in
      subst (λ (called : ℕ). call_raises (callees.effect_at program called) (is_same e) ≡ true) same
      (called_raises program o.procedure e o.is_body (body_called (effects_of (implicit_of (program_form program)) own) (main_body own) (is_same e) may))
    where
      comes_out : (sight : Sight) (behind : Control) (ms : List Master) (operands : List Value) → Comes sight behind ms (Raising e) (Returns ends.actuals ends.references ∷ ends.outer) operands → body_raises no_calls (main_body sight.program) (is_same e) ≡ true
      comes_out sight behind ms operands (inl (all, stays, leads)) = stays
      comes_out sight behind ms operands (inr (running, finds)) = absurd (cc running)

  -- ... one that does, ...
  touching_raises : (s : State) → Touching program s → (procedure : Option ℕ) (number : ℕ) (e : Exception) → running_procedure s ≡ procedure → procedure ≡ Some number → EndsBody s → s.mode ≡ Raising e → call_raises (callees.effect_at program number) (is_same e) ≡ true
  touching_raises s f procedure number e runs is ends mode =
      let may = leaves_by program (running_procedure s) f.suspensions e ends.actuals ends.references ends.outer s.control s.mode s.heap _ _ s.masters (f.ready.1) mode ends.first in
      called_raises program number e (rw (runs ∙ is) at (f.stands.body)) (rw (runs ∙ is) at may)

  -- ... and while collections go, where one of them runs.
  departing_raises : (s : State) → Departing program s → (procedure : Option ℕ) (number : ℕ) (e : Exception) → running_procedure s ≡ procedure → procedure ≡ Some number → EndsBody s → s.mode ≡ Raising e → call_raises (callees.effect_at program number) (is_same e) ≡ true
  departing_raises s (inl d) procedure number e runs is ends mode = absurd (let now = d.runs in cc (now, mode))
  departing_raises s (inr (inl d)) procedure number e runs is ends mode = absurd (let now = d.runs in cc (now, mode))
  departing_raises s (inr (inr d)) procedure number e runs is ends mode =
      elim d.goes [
        | inl o ↦ operating_raises d.v o procedure number e seen_runs is seen_end seen_raises
        | inr f ↦ touching_raises d.v f procedure number e seen_runs is seen_end seen_raises
      ]
    where
      seen_runs : running_procedure d.v ≡ procedure
      seen_runs = ap procedure_of (seen_activations d.seen) ∙ runs

      seen_raises : d.v.mode ≡ Raising e
      seen_raises = seen_mode d.seen ∙ mode

      seen_end : EndsBody d.v
      seen_end = record { actuals = ends.actuals; references = ends.references; outer = ends.outer; first = seen_control d.seen ∙ ends.first }

  raises_in : (s : State) → Ordinary program s ⊎ (Operates program s ⊎ (Touching program s ⊎ (AdjustingCopy program s ⊎ Departing program s))) → (procedure : Option ℕ) (number : ℕ) (e : Exception) → running_procedure s ≡ procedure → procedure ≡ Some number → EndsBody s → s.mode ≡ Raising e → call_raises (callees.effect_at program number) (is_same e) ≡ true
  raises_in s (inl o) procedure number e runs is ends mode =
      let may = leaves_by program (running_procedure s) o.suspensions e ends.actuals ends.references ends.outer s.control s.mode s.heap _ _ s.masters (o.ready.1) mode ends.first in
      called_raises program number e (rw (runs ∙ is) at (o.stands.body)) (rw (runs ∙ is) at may)
  raises_in s (inr (inl o)) procedure number e runs is ends mode = operating_raises s o procedure number e runs is ends mode
  raises_in s (inr (inr (inl f))) procedure number e runs is ends mode = touching_raises s f procedure number e runs is ends mode
  raises_in s (inr (inr (inr (inl d)))) procedure number e runs is ends mode = absurd (none_leaves program s d e mode (rw ends.first refl))
  raises_in s (inr (inr (inr (inr d)))) procedure number e runs is ends mode = departing_raises s d procedure number e runs is ends mode

  pub raises : RaisesAreCovered program
  raises input events last run number e is ends mode =
      raises_in last (runs.sound_run run (first input)).goes (running_procedure last) number e refl is ends mode
