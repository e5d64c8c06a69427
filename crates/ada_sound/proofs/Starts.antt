-- The first state of a program that is well formed, whose collections nest, that frees by the instances for what it frees, and none of an object's own type, or of
-- one whose collection is newer, where the object ends, and that obeys the rules keeps the invariant.

use Rattle.std.proofs.Common.{◌≡◌, ℕ, zero, suc, true, false, List, [], ◌∷◌, refl, sym, subst, ◌⊎◌, inl}
use Rattle.std.specs.Prelude.{ℤ, Option, Some, None}
use Rattle.std.specs.List.{slice_get}
use Rattle.ada_deeds.specs.Implicit.{implicit_of}
use Rattle.ada_program.specs.declared.program.Program.{Program}
use Rattle.ada_program.specs.ProgramForm.{TypeForm, VariableForm, BodyForm, program_form, main_body, seen_in}
use Rattle.ada_program.specs.WellFormed.{IsWellFormed}
use Rattle.ada_program.specs.Nested.{CollectionsNest}
use Rattle.ada_program.specs.Freed.{FreesItsOwn}
use Rattle.ada_effects.specs.Effects.{effects_of}
use Rattle.ada_flow.specs.declared.rule.Hold.TheVariants as hold
use Rattle.ada_flow.specs.Flow.{hold_at, keeping_of, body_flow, tracks_of, first_holds, gone_with, have_exit, handlers_have_exit, ObeysRules}
use Rattle.ada_flow.specs.Tracking.{Tracks, no_tracks}
use Rattle.ada_meaning.specs.Step.{blanks}
use Rattle.ada_meaning.specs.Named.{State, named}
use Rattle.ada_meaning.specs.Run.{here, first_state}
use Rattle.ada_sound.specs.Always.{LetsNothingOut, SparesAdjusted, SparesNewer, SparesOwn}
use Rattle.ada_idle.proofs.Idle.{IsIdle}
use Rattle.ada_idle.proofs.Runs.{first_idle}
use Rattle.ada_idle.proofs.Unadjusted.{AdjustsNone}
use Rattle.ada_idle.proofs.UnadjustedRuns.{first_adjusts_none}
use Rattle.ada_quiet.specs.Idle.{copies_parts, makes_parts}
use Rattle.ada_quiet.specs.InUse.{operations_are_in_use}
use Rattle.ada_typed.proofs.Bodies.{seen_fits}
use Rattle.ada_typed.proofs.Control as typed
use Rattle.ada_typed.proofs.Runs.{first_typed}
use Rattle.ada_scopes.proofs.Runs.{Scoped, first_nested}
use Rattle.ada_sound.proofs.Fits.{first_fit}
use Rattle.ada_quiet.specs.Apart.{is_tracker, operations_stand_apart}
use Rattle.ada_sound.proofs.CallsApart.{CallApart}
use Rattle.ada_sound.proofs.CallsApartRuns.{first_apart}
use Rattle.ada_sound.proofs.Trackers.{tracks_safely, calls_stand_apart}
use Rattle.ada_sound.proofs.Bodies.{IsBody, IsFine, seen_is, tracks_in, obeys_in}
use Rattle.ada_sound.proofs.BodyRuns.{body_runs, none_suspended}
use Rattle.ada_sound.proofs.Exits.{no_exits, no_exit_handlers}
use Rattle.ada_sound.proofs.Invariant.{Ready}
use Rattle.ada_sound.proofs.Callers.{known_in}
use Rattle.ada_sound.proofs.Touching.{Touching}
use Rattle.ada_sound.proofs.Departing.{Departing}
use Rattle.ada_sound.proofs.Grounds.{IsReached, Obeys, Ordinary}
pub use Rattle.ada_sound.proofs.Grounds.{IsReached, Obeys, Ordinary}
use Rattle.ada_sound.proofs.Adjusting.{AdjustingCopy}
use Rattle.ada_sound.proofs.Operates.{Operates}
use Rattle.ada_sound.proofs.Returns.{same_types}

-- What every state of a run keeps: the invariant, where no operation runs, or the body of one runs that touches no storage, an Initialize or a Finalize that does, or
-- an Adjust that tracks components; or collections go, up to one for whose objects operations may be called that touch storage. Values are of their kinds, and collections nest. Where the text makes no object with controlled parts, none is treated, and
-- where it copies no record with some, nothing is adjusted.
pub record Sound (program : Program) (s : State) : Type 0 where
  pub reached : IsReached program s
  pub well : IsWellFormed (program_form program)
  pub in_use : operations_are_in_use (program_form program) ≡ true
  pub frees_own : FreesItsOwn (program_form program)
  pub spares_own : SparesOwn program
  pub spares_newer : SparesNewer program
  pub spares_adjusted : SparesAdjusted (program_form program)
  pub lets_nothing_out : LetsNothingOut (program_form program)
  pub obeys : Obeys program
  pub goes : Ordinary program s ⊎ (Operates program s ⊎ (Touching program s ⊎ (AdjustingCopy program s ⊎ Departing program s)))
  pub idle : makes_parts (program_form program) ≡ false → IsIdle (program_form program).types s
  pub copies : copies_parts (program_form program) ≡ false → AdjustsNone (program_form program).types s.control
  pub apart : operations_stand_apart (program_form program) ≡ true → CallApart (program_form program).types (is_tracker (program_form program)) s.control
  pub typed : typed.Typed (program_form program) s
  pub nested : Scoped (program_form program) s

-- Each body of a program that tracks nothing breaks no rule.
pub untracked_obeys : (program : Program) (procedure : Option ℕ) → IsBody (program_form program) procedure → tracks_in procedure (program_form program) ≡ no_tracks → ObeysRules program
    → IsFine (body_flow (seen_in procedure (program_form program)).types (effects_of (implicit_of (program_form program)) (seen_in procedure (program_form program))) (keeping_of (implicit_of (program_form program)) (seen_in procedure (program_form program))) no_tracks (main_body (seen_in procedure (program_form program))))
untracked_obeys program procedure is nothing obeys =
    let own = seen_in procedure (program_form program) in
    let implicit = implicit_of (program_form program) in
    subst (λ (types : List TypeForm). IsFine (body_flow types (effects_of implicit own) (keeping_of implicit own) no_tracks (main_body own))) (sym (same_types procedure (program_form program)))
    (subst (λ (tracks : Tracks). IsFine (body_flow (program_form program).types (effects_of implicit own) (keeping_of implicit own) tracks (main_body own))) nothing
    (obeys_in implicit (program_form program) procedure is obeys))

-- So does that of a procedure at its number.
pub untracked_body_obeys : (program : Program) (number : ℕ) (b : BodyForm) → slice_get (program_form program).bodies number ≡ Some b → tracks_of (program_form program).types number b ≡ no_tracks → ObeysRules program
    → IsFine (body_flow (seen_in (Some number) (program_form program)).types (effects_of (implicit_of (program_form program)) (seen_in (Some number) (program_form program))) (keeping_of (implicit_of (program_form program)) (seen_in (Some number) (program_form program))) no_tracks (main_body (seen_in (Some number) (program_form program))))
untracked_body_obeys program number b there nothing obeys =
    untracked_obeys program (Some number) (b, there) (rw (seen_is (program_form program) number b there) nothing) obeys

pub none_out : (program : Program) (procedure : Option ℕ) → IsWellFormed (program_form program) → have_exit (seen_in procedure (program_form program)).statements ≡ false
none_out program procedure well =
    let p = seen_in procedure (program_form program) in
    no_exits p.types p.variables p.texts p.exceptions _ p.statements (seen_fits (program_form program) well procedure).statements_fit

pub none_on : (program : Program) (procedure : Option ℕ) → IsWellFormed (program_form program) → handlers_have_exit (seen_in procedure (program_form program)).handlers ≡ false
none_on program procedure well =
    let p = seen_in procedure (program_form program) in
    no_exit_handlers p.types p.variables p.texts p.exceptions _ p.handlers (seen_fits (program_form program) well procedure).handlers_fit

-- No variable of the main body is declared yet.
pub lost_first : (variables : List VariableForm) (x : ℕ) → hold_at (first_holds [] variables) x ≡ hold.Lost
lost_first [] x = refl
lost_first (v ∷ vs) zero = refl
lost_first (v ∷ vs) (suc x) = lost_first vs x

-- The first state.
ready_first : (program : Program) (input : List ℤ) → IsWellFormed (program_form program) → Obeys program → Ready (known_in program None []) (first_state program input)
ready_first program input well obeys =
    let p = program_form program in (
      tt,
      record {
        rooms = gone_with p.declarations ∷ [];
        holds = first_holds [] p.variables;
        stored = record { counted = tt; sane = λ o x e. absurd (cc e) };
        roomed = (tt, refl);
        fit = first_fit p.types p.variables (blanks named p.variables) (first_holds [] p.variables) (lost_first p.variables);
        rest = body_runs program None [] (untracked_obeys program None tt refl obeys.1) (none_out program None well) (none_on program None well) (none_suspended program None) tt;
      },
    )

pub sound_first : (program : Program) (input : List ℤ) → IsWellFormed (program_form program) → operations_are_in_use (program_form program) ≡ true → CollectionsNest (program_form program) → FreesItsOwn (program_form program) → SparesOwn program → SparesNewer program → SparesAdjusted (program_form program) → LetsNothingOut (program_form program) → ObeysRules program → Sound program (first_state program input)
sound_first program input well uses nest own spares newer adjusted lets_none obeys = let obeys_so : Obeys program = (tracks_safely (program_form program) well uses, obeys) in record {
  reached = (input, [], here);
  well = well;
  in_use = uses;
  frees_own = own;
  spares_own = spares;
  spares_newer = newer;
  spares_adjusted = adjusted;
  lets_nothing_out = lets_none;
  obeys = obeys_so;
  goes = inl (record {
    suspensions = [];
    ready = ready_first program input well obeys_so;
    stands = record { body = tt; behind = refl; bodies = tt; standing = record { suspended = tt; waiting = tt; low = tt } };
    calm = tt;
    settled = tt;
  });
  idle = λ none. first_idle program none input;
  copies = λ none. first_adjusts_none program none input;
  apart = λ stand. (
      let bodies = calls_stand_apart (program_form program) stand in
      first_apart (program_form program).types (is_tracker (program_form program)) program bodies.1 bodies.0 input
      );
  typed = first_typed program input well;
  nested = first_nested program well nest input;
}
