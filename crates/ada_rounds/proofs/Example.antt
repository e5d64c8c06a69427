-- The examples.

use Rattle.std.proofs.Common.{◌≡◌, ℕ, zero, suc, false, List, [], ◌∷◌, refl, sym, ap, ◌∙◌, subst, inl, inr}
use Rattle.std.specs.List.{slice_get}
use Rattle.std.specs.Prelude.{Some, None}
use Rattle.ada_text.specs.declared.spot.Spot.{Spot}
use Rattle.ada_deeds.specs.Rounds.{calls, goes_on, CallsItself}
use Rattle.ada_deeds.specs.declared.deed.Callee.{Callee}
use Rattle.ada_deeds.specs.declared.deed.Callee.TheVariants as callee
use Rattle.ada_deeds.specs.declared.deed.Operation.TheVariants.{Initialize, Adjust, Finalize}
use Rattle.ada_program.specs.declared.program.Finalization.{Finalization}
use Rattle.ada_program.specs.declared.program.Operations.{Operations}
use Rattle.ada_program.specs.declared.program.ProcedureNo.{ProcedureNo}
use Rattle.ada_program.specs.ProgramForm.{BodyForm}
use Rattle.ada_program.specs.WellFormed.{IsWellFormed}
use Rattle.ada_quiet.specs.First.{stands_before}
use Rattle.ada_quiet.proofs.Unused.{some_same}
use Rattle.ada_rounds.specs.Example.{boxing, here, procedure, make_body, initialize_body, initializing, adjust_body, adjusting, finalizing, ExamplesFit, AnInitializeMayNot, AnAdjustMayNot, AFinalizeMay}
use Rattle.ada_rounds.specs.FirstRound.{HasRound, InitializesOrAdjusts}

initializing_fits : IsWellFormed initializing
initializing_fits = record {
  types_fit = refl;
  components_lie = refl;
  operations_fit = refl;
  pools_fit = refl;
  variables_fit = refl;
  creates_in_order = refl;
  collections_first = refl;
  collections_fit = refl;
  has_one_each = refl;
  initials_fit = refl;
  statements_fit = refl;
  handlers_fit = refl;
  bodies_fit = refl;
}

adjusting_fits : IsWellFormed adjusting
adjusting_fits = record {
  types_fit = refl;
  components_lie = refl;
  operations_fit = refl;
  pools_fit = refl;
  variables_fit = refl;
  creates_in_order = refl;
  collections_first = refl;
  collections_fit = refl;
  has_one_each = refl;
  initials_fit = refl;
  statements_fit = refl;
  handlers_fit = refl;
  bodies_fit = refl;
}

finalizing_fits : IsWellFormed finalizing
finalizing_fits = record {
  types_fit = refl;
  components_lie = refl;
  operations_fit = refl;
  pools_fit = refl;
  variables_fit = refl;
  creates_in_order = refl;
  collections_first = refl;
  collections_fit = refl;
  has_one_each = refl;
  initials_fit = refl;
  statements_fit = refl;
  handlers_fit = refl;
  bodies_fit = refl;
}

pub fit : ExamplesFit
fit = (initializing_fits, adjusting_fits, finalizing_fits)

-- Whatever these programs have as bodies begins at one place, and that is not before itself.
starts : (operations : Operations) (bodies : List BodyForm) → ((n : ℕ) (b : BodyForm) → slice_get bodies n ≡ Some b → b.start_spot ≡ here) →
    (s : Spot) → HasRound (boxing operations bodies) s → stands_before s here ≡ false
starts operations bodies all s (q, b, at, begins, overrides, circles) =
    subst (λ (x : Spot). stands_before x here ≡ false) (sym (all q.0 b at) ∙ begins) refl

-- Initialize calls Make, which creates a Box, whose initialization calls Initialize.

abbrev parts : Callee
parts = callee.Parts Initialize (record { 0 = 0 })

initialize_circles : CallsItself initializing (procedure 1)
initialize_circles = goes_on {between = parts} (goes_on {between = callee.Procedure (procedure 0)} (calls refl) refl) refl

made : (n : ℕ) (b : BodyForm) → slice_get (make_body ∷ initialize_body ∷ []) n ≡ Some b → b.start_spot ≡ here
made zero b is = sym (ap (λ (x : BodyForm). x.start_spot) (some_same is))
made (suc zero) b is = sym (ap (λ (x : BodyForm). x.start_spot) (some_same is))
made (suc (suc n)) b is = absurd (cc is)

pub initialize_may_not : AnInitializeMayNot
initialize_may_not = (
  initialize_circles,
  (
    (procedure 1, initialize_body, refl, refl, (0, _, refl, inl refl), initialize_circles),
    starts (record { initialize = Some (procedure 1); adjust = None; finalize = None }) (make_body ∷ initialize_body ∷ []) made,
  ),
)

-- Adjust assigns a Box, which adjusts it.

adjust_circles : CallsItself adjusting (procedure 0)
adjust_circles = goes_on {between = callee.Parts Adjust (record { 0 = 0 })} (calls refl) refl

adjusted : (n : ℕ) (b : BodyForm) → slice_get (adjust_body ∷ []) n ≡ Some b → b.start_spot ≡ here
adjusted zero b is = sym (ap (λ (x : BodyForm). x.start_spot) (some_same is))
adjusted (suc n) b is = absurd (cc is)

pub adjust_may_not : AnAdjustMayNot
adjust_may_not = (
  adjust_circles,
  (
    (procedure 0, adjust_body, refl, refl, (0, _, refl, inr refl), adjust_circles),
    starts (record { initialize = None; adjust = Some (procedure 0); finalize = None }) (adjust_body ∷ []) adjusted,
  ),
)

-- Finalize frees a Box, whose end calls Finalize; neither of the other operations is overridden.

finalize_circles : CallsItself finalizing (procedure 0)
finalize_circles = goes_on {between = callee.Parts Finalize (record { 0 = 0 })} (calls refl) refl

overrides_none : (q : ProcedureNo) → ¬ InitializesOrAdjusts finalizing q
overrides_none q (zero, f, at, inl is) = absurd (cc (ap (λ (g : Finalization). g.operations.initialize) (some_same at) ∙ is))
overrides_none q (zero, f, at, inr is) = absurd (cc (ap (λ (g : Finalization). g.operations.adjust) (some_same at) ∙ is))
overrides_none q (suc zero, f, at, is) = absurd (cc at)
overrides_none q (suc (suc zero), f, at, is) = absurd (cc at)
overrides_none q (suc (suc (suc zero)), f, at, is) = absurd (cc at)
overrides_none q (suc (suc (suc (suc t))), f, at, is) = absurd (cc at)

pub finalize_may : AFinalizeMay
finalize_may = (finalize_circles, λ s (q, b, at, begins, overrides, circles). absurd (overrides_none q overrides))
