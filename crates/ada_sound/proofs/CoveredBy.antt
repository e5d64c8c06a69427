-- Each activation that waits may free what the running one may: so what an event tells is covered in each.

use Rattle.std.proofs.Common.{◌≡◌, ℕ, zero, suc, true, List, [], ◌∷◌, refl}
use Rattle.std.specs.Prelude.{Some}
use Rattle.std.specs.List.{slice_get}
use Rattle.ada_program.specs.declared.program.Program.{Program}
use Rattle.ada_program.specs.ProgramForm.{ProgramForm, program_form, seen_in}
use Rattle.ada_deeds.specs.Implicit.{implicit_of}
use Rattle.ada_effects.specs.Effects.{Implicit, call_frees}
use Rattle.ada_meaning.specs.declared.event.Cause.TheVariants.{Leaving, Freeing, Assigning, Undoing}
use Rattle.ada_meaning.specs.declared.state.Value.{Value}
use Rattle.ada_meaning.specs.Event.{Born, Finalized, Back, Followed, Left, Line, Quiet}
use Rattle.ada_meaning.specs.State.{Activation}
use Rattle.ada_meaning.specs.Named.{Object, State}
use Rattle.ada_meaning.specs.Run.{Event}
use Rattle.ada_sound.specs.Agreement.{running_procedure}
use Rattle.ada_sound.specs.Callees as callees
use Rattle.ada_sound.specs.Callees.{IsCovered}
use Rattle.ada_sound.proofs.Bodies.{IsBody, seen_is, effect_at}
use Rattle.ada_sound.proofs.Invariant.{Says, CoveredIn, AllWait, waits_covers}
use Rattle.ada_sound.proofs.Callers.{Suspension, callers_of, covers_plainly, known_in, waits_plainly, AreOf, Stands}

module _ (program : Program) where
  -- What a body may free, calls of its procedure may.
  pub called_frees : (number t : ℕ) → IsBody (program_form program) (Some number) → CoveredIn (implicit_of (program_form program)) (seen_in (Some number) (program_form program)) t → call_frees (callees.effect_at program number) t ≡ true
  called_frees number t is may =
      let p = program_form program in
      let effect = effect_at p.types (implicit_of p) p.bodies number is.0 is.1 in
      rw effect (rw (seen_is p number is.0 is.1) at may)

  -- So it is of the procedures whose bodies wait, by the numbers of their activations.
  pub waiting_frees : (implicit : Implicit) (body : ProgramForm) (rest : List (Activation Value)) (gs : List Suspension) (t : ℕ) → AreOf program rest gs → AllWait implicit body (callers_of program gs) → CoveredIn implicit body t → (depth : ℕ) (a : Activation Value) (number : ℕ) → slice_get rest depth ≡ Some a → a.procedure ≡ Some number → call_frees (callees.effect_at program number) t ≡ true
  waiting_frees implicit body [] gs t of waits may depth a number at is = absurd (cc at)
  waiting_frees implicit body (b ∷ rest) [] t of waits may depth a number at is = absurd of
  waiting_frees implicit body (b ∷ rest) (g ∷ gs) t of waits may zero a number at is =
      let own : g.procedure ≡ Some number = cc (at, is, of.0) in
      called_frees number t (rw own at (of.1)) (rw own at (covers_plainly program g gs of.4 t (waits_covers waits.0 t may)))
  waiting_frees implicit body (b ∷ rest) (g ∷ gs) t of waits may (suc depth) a number at is =
      waiting_frees (implicit_of (program_form program)) (seen_in g.procedure (program_form program)) rest gs t of.3
      (waits_plainly program g gs of.4 (callers_of program gs) waits.1) (covers_plainly program g gs of.4 t (waits_covers waits.0 t may)) depth a number at is

  -- What goes back by a Free is covered in each activation.
  pub all_free : (all : List (Activation Value)) (s : State) (gs : List Suspension) (t : ℕ) → s.activations ≡ all → Stands program gs s → CoveredIn (implicit_of (program_form program)) (seen_in (running_procedure s) (program_form program)) t → (depth : ℕ) (a : Activation Value) (number : ℕ) → slice_get all depth ≡ Some a → a.procedure ≡ Some number → call_frees (callees.effect_at program number) t ≡ true
  all_free [] s gs t here stands may depth a number at is = absurd (cc at)
  all_free (b ∷ rest) s gs t here stands may zero a number at is =
      let own : running_procedure s ≡ Some number = rw here (let e : b ≡ a = cc at in rw e is) in
      called_frees number t (rw own at (stands.body)) (rw own at may)
  all_free (b ∷ rest) s gs t here stands may (suc depth) a number at is =
      waiting_frees (implicit_of (program_form program)) (seen_in (running_procedure s) (program_form program)) rest gs t (rw here at (stands.bodies)) stands.standing.waiting may depth a number at is

  -- What an event tells is covered in each activation.
  pub covered_by : (e : Event) (before : List Object) (s : State) (gs : List Suspension) → Stands program gs s → Says (implicit_of (program_form program)) (known_in program (running_procedure s) gs).program e before s → (depth : ℕ) (a : Activation Value) (number : ℕ) → slice_get s.activations depth ≡ Some a → a.procedure ≡ Some number → IsCovered program number e
  covered_by (Born object part turn type number by) before s gs stands says depth a n at is = tt
  covered_by (Finalized object part turn type number cause) before s gs stands says depth a n at is = tt
  covered_by (Back object access number pool subpool (Leaving m item)) before s gs stands says depth a n at is = tt
  covered_by (Back object access number pool subpool (Freeing f)) before s gs stands says depth a n at is =
      all_free s.activations s gs access refl stands says.covered.0 depth a n at is
  covered_by (Back object access number pool subpool (Assigning b)) before s gs stands says depth a n at is = tt
  covered_by (Back object access number pool subpool (Undoing b)) before s gs stands says depth a n at is = tt
  covered_by (Followed object) before s gs stands says depth a n at is = tt
  covered_by (Left master) before s gs stands says depth a n at is = tt
  covered_by (Line line) before s gs stands says depth a n at is = tt
  covered_by Quiet before s gs stands says depth a n at is = tt
