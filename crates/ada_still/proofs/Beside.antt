-- No access type has two collections at a time, where operations declare types of their own: where an object is treated, none of these is open.

use Rattle.std.proofs.Common.{◌≡◌, ◌⊎◌, inl, inr, ℕ, ℤ, ◌≤◌, Bool, true, false, List, [], ◌∷◌, ◌++◌, Option, Some, None, arith, refl, subst}
use Rattle.ada_program.specs.declared.program.ProcedureNo.{ProcedureNo}
use Rattle.ada_program.specs.declared.program.Program.{Program}
use Rattle.ada_program.specs.Controlled.{operations_of}
use Rattle.ada_program.specs.Freed.{FreesItsOwn}
use Rattle.ada_program.specs.Nested.{Callees, are_open, callees_of, CollectionsNest}
use Rattle.ada_program.specs.ProgramForm.{TypeForm, ProgramForm, body_forms, program_form}
use Rattle.ada_program.specs.WellFormed.{IsWellFormed, reached_components}
use Rattle.ada_meaning.specs.declared.state.Value.{Value}
use Rattle.ada_meaning.specs.Frame.{Frame}
use Rattle.ada_meaning.specs.Frame as frame
use Rattle.ada_meaning.specs.State.{Master}
use Rattle.ada_meaning.specs.Named.{State}
use Rattle.ada_meaning.specs.Run.{Event, Choice, Step, Run, first_state, run_more}
use Rattle.ada_meaning.specs.Run as run
use Rattle.ada_order.proofs.Orders.{Kept, kept_first, step_keeps}
use Rattle.ada_scopes.proofs.Counts.{times, times_append, of_times, times_of, scopes, all_of}
use Rattle.ada_scopes.proofs.Components.{collect_two}
use Rattle.ada_scopes.proofs.Control.{Nested, scopes_in, standing, beginning, parting, resting}
use Rattle.ada_scopes.proofs.Lacked.{KindsOpen, lacked, lacked_open, lacked_so}
use Rattle.ada_scopes.proofs.Operations.{operations_so}
use Rattle.ada_scopes.proofs.Runs.{calls_in, Scoped, scopes_of, CallsAt, first_nested, step_where}
use Rattle.ada_scopes.proofs.Treatments.{TreatsFirst, CallsIfAny}
use Rattle.ada_still.specs.Still.{is_still, CollectWhereStill}
use Rattle.ada_still.specs.Law.{NoneOpen}
use Rattle.ada_still.specs.Beside.{are_other_kinds, NestsBeside, AllNestBeside, NestBeside, OwnTypesHaveOneCollection}
use Rattle.ada_still.proofs.Sits.{Sits, SomeRests}
use Rattle.ada_still.proofs.Law.{step_some, first_some, none_open}
use Rattle.ada_still.proofs.Order.{where_still}
use Rattle.ada_still.proofs.Without.{Others, without, others_without, others_fewer, others_none, open_without}
use Rattle.ada_still.proofs.Rebased.{without_all, all_without, whole_without, nests_without, goes_without}

-- An object is treated next, or not.
treats_now : (k : List (Frame Value)) → TreatsFirst k ⊎ (TreatsFirst k → ⊥)
treats_now [] = inr (λ first. first)
treats_now (frame.Treats v treatment tasks ∷ k) = inl tt
treats_now (f ∷ k) = inr (λ first. first)

-- That is behind still bodies.
treats_outside : (types : List TypeForm) (program : Program) (still own : ℕ → Bool) (b : Bool) (k : List (Frame Value)) (ms : List Master)
    → TreatsFirst k → Sits types (body_forms program) still own b k ms → b ≡ false
treats_outside types program still own b [] ms first h = absurd first
treats_outside types program still own b (frame.Treats v treatment tasks ∷ k) ms first h = h.0
treats_outside types program still own b (f ∷ k) ms first h = absurd first

module _ (types : List TypeForm) (callees : Callees) (own : ℕ → Bool) (other_kinds : (t : ℕ) → own t ≡ false → are_other_kinds own (reached_components types t) ≡ true)
    (there : List ℕ) (kinds : KindsOpen types) (none : (t : ℕ) → own t ≡ true → times t there ≡ 0) where
  -- What an operation's master lacks, without these.
  others_lacked : Others own (lacked types None there ++ there) (without own (lacked types None there) ++ there)
  others_lacked =
      let lacks = lacked types None there in
      let others = others_without own lacks in
      record {
        other = λ t is.
            let same = others.other t is in
            let all = times_append t lacks there in
            let fewer = times_append t (without own lacks) there in
            omega (arith, same, all, fewer);
        mine = λ t is.
            let gone = others.mine t is in
            let away = none t is in
            let fewer = times_append t (without own lacks) there in
            omega (arith, gone, away, fewer);
      }

  -- So an operation that nests beside all others may be called.
  calls_beside : (o : Option ProcedureNo) → NestsBeside own types callees o → CallsIfAny types callees None there o
  calls_beside None nests = tt
  calls_beside (Some procedure) nests =
      let lacks = lacked types None there in
      let full = lacked_so types None there kinds in
      let fewer = others_fewer own lacks (without own lacks) (others_without own lacks) in
      record {
        lacks = without own lacks;
        lacking = tt;
        here = record {
          apart = λ t once. let less = fewer t in let apart = full.apart t once in omega (arith, less, apart);
          known = λ t some. full.known t (let less = fewer t in omega (arith, less, some));
          needs = λ t some. by t (own t) refl some;
        };
        nests = nests (without own lacks ++ there)
            (λ t is other.
            let some = times_of (lacks ++ there) t (lacked_open types None there tt t is) in
            let same = others_lacked.other t other in
            of_times (without own lacks ++ there) t (omega (arith, some, same)))
            (λ t mine. others_none own (without own lacks ++ there) t (others_lacked.mine t mine));
      }
    where
      by : (t : ℕ) (b : Bool) → own t ≡ b → 1 ≤ times t (without own (lacked types None there)) → are_open (without own (lacked types None there) ++ there) (reached_components types t) ≡ true
      by t true is some = let gone = (others_without own (lacked types None there)).mine t is in absurd (omega (arith, gone, some))
      by t false is some =
          let same = (others_without own (lacked types None there)).other t is in
          open_without own (lacked types None there ++ there) (without own (lacked types None there) ++ there) (reached_components types t) others_lacked (other_kinds t is)
          ((lacked_so types None there kinds).needs t (omega (arith, same, some)))

module _ (program : Program) (well : IsWellFormed (program_form program)) (frees_own : FreesItsOwn (program_form program)) (own still : ℕ → Bool)
    (collect : CollectWhereStill own still (program_form program)) (beside : NestBeside own (program_form program)) (input : List ℤ) where
  abbrev p : ProgramForm
  p = program_form program

  abbrev FreeOf : (s : State) → Scoped p s → Type 0
  FreeOf s scoped = (t : ℕ) → own t ≡ true → times t (scopes_of false p s scoped) ≡ 0

  -- Where an object is treated, what is left to do nests where none of these is open.
  pub rebased : (s : State) (scoped : Scoped p s) → TreatsFirst s.control → Sits p.types (body_forms program) still own false s.control s.masters → (again : Scoped p s) × FreeOf s again
  rebased s scoped first h =
      let again = by scoped.nested in
      (record { kinds = scoped.kinds; bodies = scoped.bodies; nested = again.0 }, again.1)
    where
      none : NoneOpen own s.masters
      none = none_open program own still s.control s.masters h

      by : Nested p.types (callees_of p) None (calls_in p) s
          → (again : Nested p.types (callees_of p) None (calls_in p) s) × ((t : ℕ) → own t ≡ true → times t (all_of (scopes_in p.types (callees_of p) None (calls_in p) s again)) ≡ 0)
      by (standing ss w n) = (
        standing (without_all own ss) (whole_without p.types own beside.others ss s.masters s.heap none w)
            (nests_without p.types (callees_of p) (body_forms program) still own (calls_in p) scoped.bodies beside.others beside.calls ss (scopes s.masters) s.control s.masters h n),
        (all_without own ss).mine,
      )
      by (beginning b) = absurd (subst TreatsFirst b.control first)
      by (parting ss w runs goes) = (
        parting (without_all own ss) (whole_without p.types own beside.others ss s.masters s.heap none w) runs
            (goes_without p.types (callees_of p) (body_forms program) still own (calls_in p) scoped.bodies beside.others beside.calls ss (scopes s.masters) s.control s.masters h goes),
        (all_without own ss).mine,
      )
      by (resting ss w empty ends) = absurd (subst TreatsFirst ends first)

  -- So operations may be called there.
  called : (s : State) (scoped : Scoped p s) → FreeOf s scoped → (of : ℕ) → CallsAt false p s scoped (operations_of program.types.items of)
  called s scoped free of =
      let all = operations_so (AllNestBeside own p.types (callees_of p)) program.types.items of beside.operations in
      let o = operations_of program.types.items of in
      let may = calls_beside p.types (callees_of p) own beside.others (scopes_of false p s scoped) scoped.kinds free in
      (may o.initialize all.0, may o.adjust all.1, may o.finalize all.2)

  pub step_beside : (s after : State) (choice : Choice) (e : Event) → SomeRests p.types (body_forms program) still own s → Scoped p s → Step program s choice e after → Scoped p after
  step_beside s after choice e rests scoped step = by (treats_now s.control)
    where
      by : TreatsFirst s.control ⊎ (TreatsFirst s.control → ⊥) → Scoped p after
      by (inl first) =
          let outside = treats_outside p.types program still own rests.0 s.control s.masters first rests.1.0 in
          let again = rebased s scoped first (subst (λ (b : Bool). Sits p.types (body_forms program) still own b s.control s.masters) outside rests.1.0) in
          step_where false program s after choice e again.0 (λ treats. called s again.0 again.1) step
      by (inr other) = step_where false program s after choice e scoped (λ treats. absurd (other treats)) step

  run_beside : (before : List Event) (s last : State) (events : List Event) → Run program (first_state program input) before s → Kept program.types.items s
      → SomeRests p.types (body_forms program) still own s → Scoped p s → Run program s events last → Scoped p last
  run_beside before s last events so_far kept rests scoped run.here = scoped
  run_beside before s last (e ∷ events) so_far kept rests scoped (run.there choice mid step rest) =
      run_beside (before ++ e ∷ []) mid last events (run_more e choice mid so_far step) (step_keeps program s choice e mid kept step)
      (step_some program well frees_own own still collect input before s mid choice e so_far kept rests step) (step_beside s mid choice e rests scoped step) rest

  -- Each state of a run nests.
  pub state_beside : CollectionsNest p → (events : List Event) (last : State) → Run program (first_state program input) events last → Scoped p last
  state_beside nest events last so_run =
      run_beside [] (first_state program input) last events run.here (kept_first program input) (first_some program well frees_own own still collect input)
      (first_nested program well nest input) so_run

-- It does after a step also where this is known of operations only if an object is treated next.
pub step_if_treated : (program : Program) → IsWellFormed (program_form program) → FreesItsOwn (program_form program) → (own still : ℕ → Bool)
    → CollectWhereStill own still (program_form program) → (input : List ℤ) (s after : State) (choice : Choice) (e : Event)
    → (TreatsFirst s.control → NestBeside own (program_form program)) → SomeRests (program_form program).types (body_forms program) still own s
    → Scoped (program_form program) s → Step program s choice e after → Scoped (program_form program) after
step_if_treated program well frees_own own still collect input s after choice e beside rests scoped step = by (treats_now s.control)
  where
    by : TreatsFirst s.control ⊎ (TreatsFirst s.control → ⊥) → Scoped (program_form program) after
    by (inl first) = step_beside program well frees_own own still collect (beside first) input s after choice e rests scoped step
    by (inr other) = step_where false program s after choice e scoped (λ treats. absurd (other treats)) step

pub one_collection : OwnTypesHaveOneCollection
one_collection program well nest frees_own own collect beside input events last so_run =
    collect_two (program_form program) last
    (state_beside program well frees_own own (λ procedure. is_still (program_form program) procedure) (where_still program own collect) beside input nest events last so_run)
