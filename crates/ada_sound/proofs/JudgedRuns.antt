-- The body of an Adjust that tracks components of its formal parameter (7.6) runs, as it is judged, from where it is called.

use Rattle.std.proofs.Common.{◌≡◌, ℕ, zero, suc, ◌+◌, ◌<◌, ◌≤◌, true, false, ◌&&◌, List, [], ◌∷◌, ◌++◌, length, refl, sym, ap, ◌∙◌, subst, arith}
use Rattle.std.specs.Prelude.{Some, None, ◌==◌}
use Rattle.std.specs.List.{slice_get, list_all}
use Rattle.std.proofs.lemmas.Bool.{and_parts}
use Rattle.ada_program.specs.declared.program.FormalMode.{FormalMode}
use Rattle.ada_program.specs.declared.program.Program.{Program}
use Rattle.ada_program.specs.declared.program.VariableKind.TheVariants as variable
use Rattle.ada_program.specs.ProgramForm.{TypeForm, VariableForm, BodyForm, ProgramForm, program_form, main_body, seen_by, seen_in}
use Rattle.ada_program.specs.WellFormed.{Creation, of_pool, of_collection, of_variable, Profile, variable_fits, created_in, creates_from, declarations_fit, stmts_fit, handlers_fit, body_fits, bodies_fit, profile_of, IsWellFormed}
use Rattle.ada_deeds.specs.Implicit.{implicit_of}
use Rattle.ada_effects.specs.Effects.{Effects, passes, body_frees, effects_of}
use Rattle.ada_flow.specs.Flow.{Holds, Outcome, goes, Keeping, keeping_of, body_keeps, kept_by, body_flow, tracks_of, owed_by, owed_from, owed_at_ends, holds_at_first, gone_with, nothing_gone, then_flow, declarations_flow, handled, handlers_flow, stmts_flow, leaves_block, ends_body, have_exit, handlers_have_exit, ObeysRules}
use Rattle.ada_flow.specs.Tracking.{Tracks, no_tracks, with_tracked, judged, tracked_numbers}
use Rattle.ada_meaning.specs.Frame.{Elaborates}
use Rattle.ada_tracked.specs.Forms.{seen_declarations, seen_stmts, seen_handlers}
use Rattle.ada_judged.specs.Fitting.{TracksComponents}
use Rattle.ada_judged.specs.Obeying.{BodyIsOrderly, StandForTracked, GoesAlike, judged_body, untracked_flow}
use Rattle.ada_judged.proofs.Obeying.{obey_as_variables}
use Rattle.ada_judged.proofs.ObeyingForms.{gone_alike}
use Rattle.ada_judged.proofs.FittingBodies.{tracked_fit_as_variables}
use Rattle.ada_sound.proofs.Ahead.{ahead_in}
use Rattle.ada_sound.proofs.Touched.{touches_in}
use Rattle.ada_sound.proofs.Bodies.{IsFine, seen_is, obeys_at}
use Rattle.ada_sound.proofs.BodyRuns.{whole_flow, any_body_runs, fine_keeps}
use Rattle.ada_sound.proofs.Callers.{Suspension, callers_of, rest_of}
use Rattle.ada_sound.proofs.Invariant as invariant
use Rattle.ada_sound.proofs.Invariant.{Known, around_at, Goes, KeepsAll, RunsOn, Spares}
use Rattle.ada_sound.proofs.Judged.{judged_in, known_judged}
use Rattle.ada_sound.proofs.JudgedForms.{judged_exits, judged_handlers_exit}
use Rattle.ada_sound.proofs.Starts.{none_out, none_on}
use Rattle.ada_sound.proofs.WatchedBy.{some_variable}

-- What such a body keeps of its formal parameters, by what it sees.
abbrev pub keeps_tracking : Program → (number : ℕ) → Tracks → Keeping
keeps_tracking program number tracks =
    let own = seen_in (Some number) (program_form program) in
    body_keeps own.types (effects_of (implicit_of (program_form program)) own) (keeping_of (implicit_of (program_form program)) own) tracks (main_body own)

-- The variables of a body as they are judged stand for the components that it tracks.
pub components_stand : (types : List TypeForm) (tracks : Tracks) (variables : List VariableForm) → TracksComponents types tracks variables
    → StandForTracked types (judged types tracks variables) tracks
components_stand types tracks variables h =
    let fit = ((tracked_fit_as_variables types tracks).0 variables h).0 in
    let some : 0 < tracks.first = rw h.behind (some_variable variables (variable.Record h.object) h.formal) in
    record {
      object = h.object;
      formal = (fit.0 0 some).0 ∙ h.formal;
      kinds = λ i c e. let one = fit.1 i c e in one.1 ∙ sym one.2;
      owners = λ i c e. (fit.1 i c e).3;
    }

-- A body has a variable for each formal parameter: each other one is created behind those (3.11).
created_behind : (count k : ℕ) (cs : List Creation) → creates_from count k cs ≡ true → k ≤ count
created_behind count k [] is = let same : k ≡ count = grind (arith, is) in omega (arith, same)
created_behind count k (of_pool pool ∷ cs) is = created_behind count k cs is
created_behind count k (of_collection access ∷ cs) is = created_behind count k cs is
created_behind count k (of_variable x ∷ cs) is =
    let behind = created_behind count (k + 1) cs (and_parts (x == k) (creates_from count (k + 1) cs) is).1 in
    omega (arith, behind)

formals_at : (types : List TypeForm) (texts exceptions : List (List ℕ)) (callable : List Profile) (bs : List BodyForm) (number : ℕ) (b : BodyForm)
    → bodies_fit types texts exceptions callable bs ≡ true → slice_get bs number ≡ Some b → length b.formals ≤ length b.variables
formals_at types texts exceptions callable [] number b fit is = absurd (cc is)
formals_at types texts exceptions callable (c ∷ bs) zero b fit is =
    let same : c ≡ b = cc is in
    let whole = (and_parts (body_fits types texts exceptions callable c) (bodies_fit types texts exceptions (callable ++ profile_of c ∷ []) bs) fit).0 in
    let variables = list_all (variable_fits types) c.variables in
    let creates = creates_from (length c.variables) (length c.formals) (created_in c) in
    let declared = declarations_fit types c.variables c.declarations in
    let statements = stmts_fit types c.variables texts exceptions callable false c.statements in
    let handlers = handlers_fit types c.variables texts exceptions callable false c.handlers in
    let four = (and_parts (variables && creates && declared && statements) handlers whole).0 in
    let three = (and_parts (variables && creates && declared) statements four).0 in
    let two = (and_parts (variables && creates) declared three).0 in
    subst (λ (d : BodyForm). length d.formals ≤ length d.variables) same
    (created_behind (length c.variables) (length c.formals) (created_in c) (and_parts variables creates two).1)
formals_at types texts exceptions callable (c ∷ bs) (suc number) b fit is =
    formals_at types texts exceptions (callable ++ profile_of c ∷ []) bs number b
    (and_parts (body_fits types texts exceptions callable c) (bodies_fit types texts exceptions (callable ++ profile_of c ∷ []) bs) fit).1 is

-- So what stands for tracked components is no formal parameter, and what formal parameters owe stays the same.
owed_front : (n : ℕ) (ms : List FormalMode) (vs ws : List VariableForm) → length ms ≤ length vs → owed_from n ms (vs ++ ws) ≡ owed_from n ms vs
owed_front n [] vs ws le = refl
owed_front n (m ∷ ms) [] ws le = absurd (omega (arith, le))
owed_front n (m ∷ ms) (v ∷ vs) ws le = ap (λ (xs : List ℕ). owed_by m v.kind n ++ xs) (owed_front (n + 1) ms vs ws (omega (arith, le)))

owed_judged : (ms : List FormalMode) (vs ws : List VariableForm) → length ms ≤ length vs → owed_from 0 ms (with_tracked vs ws) ≡ owed_from 0 ms vs
owed_judged ms vs [] le = refl
owed_judged ms vs (w ∷ ws) le = owed_front 0 ms vs (w ∷ ws) le

-- Such a body, as it sees its program.
module _ (program : Program) (own : ProgramForm) (tracks : Tracks) (g : Suspension) (gs : List Suspension) where
  abbrev known : Known
  known = record {
    implicit = implicit_of (program_form program);
    program = judged_in tracks own;
    ahead = ahead_in (program_form program);
    touches = touches_in (program_form program);
    At = λ place holds. Unit {0};
    callers = callers_of program (g ∷ gs);
    tracked = tracked_numbers tracks;
  }

  abbrev effects : Effects
  effects = effects_of known.implicit own

  abbrev first : Holds
  first = holds_at_first tracks own.formals own.variables

  abbrev real : Outcome
  real = body_flow own.types effects (keeping_of known.implicit own) tracks (main_body own)

  -- What flow answers for it as it is judged, where it owes this at its ends.
  abbrev owing : List ℕ → Outcome
  owing owed =
      let all = known.program in
      let around = record (around_at known (record { start = None; inside = nothing_gone; within = gone_with all.declarations })) { owed = owed } in
      ends_body owed all.end_spot
      (leaves_block all.variables (gone_with all.declarations)
      (then_flow (declarations_flow all.types all.variables no_tracks known.implicit all.declarations first)
      (λ at. handled (passes (effects_of known.implicit all) all.statements all.handlers)
      (handlers_flow all.types all.variables around all.handlers)
      (stmts_flow all.types all.variables around all.statements at))))

  -- It breaks no rule as it is judged, and keeps what it keeps.
  judged_goes : TracksComponents own.types tracks own.variables → BodyIsOrderly tracks (main_body own) → length own.formals ≤ length own.variables → IsFine real
      → Goes (whole_flow known (rest_of (g ∷ gs)) first) (λ holds. Unit {0}) (KeepsAll (kept_by real own.formals))
  judged_goes components orderly formals (normal, raising, is) =
      let alike : GoesAlike real (untracked_flow own.types (judged own.types tracks own.variables) effects (keeping_of known.implicit own) tracks (judged_body tracks (main_body own))) =
      (obey_as_variables own.types (judged own.types tracks own.variables) tracks (components_stand own.types tracks own.variables components)).body effects (keeping_of known.implicit own) (main_body own) orderly in
      let there : owing (owed_at_ends tracks own.formals own.variables) ≡ goes normal raising = alike normal raising is in
      let same : owed_at_ends tracks own.formals own.variables ≡ invariant.owed_by known =
      ap (λ (owed : List ℕ). with_tracked owed (tracked_numbers tracks)) (sym (owed_judged own.formals own.variables _ formals)) in
      let keeps : Goes (owing (owed_at_ends tracks own.formals own.variables)) (λ holds. Unit {0}) (KeepsAll (kept_by (owing (owed_at_ends tracks own.formals own.variables)) own.formals)) =
      fine_keeps (owing (owed_at_ends tracks own.formals own.variables)) own.formals (normal, raising, there) in
      subst (λ (owed : List ℕ). Goes (owing owed) (λ holds. Unit {0}) (KeepsAll (kept_by real own.formals))) same
      (subst (λ (o : Outcome). Goes (owing (owed_at_ends tracks own.formals own.variables)) (λ holds. Unit {0}) (KeepsAll (kept_by o own.formals))) (there ∙ sym is) keeps)

  -- It runs, where its caller waits for what it keeps.
  own_runs : TracksComponents own.types tracks own.variables → BodyIsOrderly tracks (main_body own) → length own.formals ≤ length own.variables → IsFine real
      → have_exit own.statements ≡ false → handlers_have_exit own.handlers ≡ false → Spares known (body_frees known.program.types effects (main_body known.program))
      → g.kept ≡ kept_by real own.formals
      → RunsOn known (Elaborates known.program.declarations known.program.statements known.program.handlers ∷ rest_of (g ∷ gs)) (gone_with own.declarations ∷ []) first
  own_runs components orderly formals fine no_exit no_handler spares same =
      subst (λ gone. RunsOn known (Elaborates known.program.declarations known.program.statements known.program.handlers ∷ rest_of (g ∷ gs)) (gone ∷ []) first)
      (gone_alike tracks own.declarations)
      (any_body_runs known (rest_of (g ∷ gs)) first (kept_by real own.formals) (λ way place at comes. tt) (judged_goes components orderly formals fine)
      (judged_exits tracks own.statements ∙ no_exit) (judged_handlers_exit tracks own.handlers ∙ no_handler) spares
      (record {
        ends = λ holds gives. (refl, refl, refl, gives);
        raises = λ e holds may keeps. (may, refl, rw same keeps);
        returns = λ holds gives. (refl, refl, refl, gives);
      }))

-- The body of a procedure runs so, where no suspended activation has an alias of what it may free, and its caller waits for what it keeps.
pub judged_runs : (program : Program) (number : ℕ) (b : BodyForm) (tracks : Tracks) (g : Suspension) (gs : List Suspension)
    → IsWellFormed (program_form program) → ObeysRules program → slice_get (program_form program).bodies number ≡ Some b
    → tracks_of (program_form program).types number b ≡ tracks → TracksComponents (program_form program).types tracks b.variables → BodyIsOrderly tracks b
    → let known = known_judged program number tracks (g ∷ gs) in
    let own = known.program in
    Spares known (body_frees own.types (effects_of known.implicit own) (main_body own)) → g.kept ≡ keeps_tracking program number tracks
    → RunsOn known (Elaborates (seen_declarations tracks b.declarations) (seen_stmts tracks b.statements) (seen_handlers tracks b.handlers) ∷ rest_of (g ∷ gs))
    (gone_with b.declarations ∷ []) (holds_at_first tracks b.formals b.variables)
judged_runs program number b tracks g gs well obeys there tracks_so components orderly spares same =
    let p = program_form program in
    go (seen_in (Some number) p) (seen_is p number b there) (none_out program (Some number) well) (none_on program (Some number) well) spares same
  where
    p : ProgramForm
    p = program_form program

    fine : IsFine (body_flow p.types (effects_of (implicit_of p) (seen_by number b p)) (keeping_of (implicit_of p) (seen_by number b p)) tracks b)
    fine =
        subst (λ (all : Tracks). IsFine (body_flow p.types (effects_of (implicit_of p) (seen_by number b p)) (keeping_of (implicit_of p) (seen_by number b p)) all b))
        tracks_so (obeys_at (implicit_of p) p number b there obeys)

    go : (own : ProgramForm) → own ≡ seen_by number b p → have_exit own.statements ≡ false → handlers_have_exit own.handlers ≡ false
        → Spares (known program own tracks g gs) (body_frees own.types (effects_of (implicit_of p) own) (main_body (judged_in tracks own)))
        → g.kept ≡ body_keeps own.types (effects_of (implicit_of p) own) (keeping_of (implicit_of p) own) tracks (main_body own)
        → RunsOn (known program own tracks g gs)
        (Elaborates (seen_declarations tracks b.declarations) (seen_stmts tracks b.statements) (seen_handlers tracks b.handlers) ∷ rest_of (g ∷ gs))
        (gone_with b.declarations ∷ []) (holds_at_first tracks b.formals b.variables)
    go own is =
        subst (λ (own : ProgramForm). have_exit own.statements ≡ false → handlers_have_exit own.handlers ≡ false
        → Spares (known program own tracks g gs) (body_frees own.types (effects_of (implicit_of p) own) (main_body (judged_in tracks own)))
        → g.kept ≡ body_keeps own.types (effects_of (implicit_of p) own) (keeping_of (implicit_of p) own) tracks (main_body own)
        → RunsOn (known program own tracks g gs)
        (Elaborates (seen_declarations tracks b.declarations) (seen_stmts tracks b.statements) (seen_handlers tracks b.handlers) ∷ rest_of (g ∷ gs))
        (gone_with b.declarations ∷ []) (holds_at_first tracks b.formals b.variables)) (sym is)
        (own_runs program (seen_by number b p) tracks g gs components orderly (formals_at p.types p.texts p.exceptions [] p.bodies number b well.bodies_fit there) fine)
