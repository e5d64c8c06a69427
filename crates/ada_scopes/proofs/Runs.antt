-- Each state of a run nests, where the program is well formed and its collections and operations nest.

use Rattle.std.proofs.Common.{◌≡◌, ℕ, ℤ, not, Bool, true, false, List, [], ◌∷◌, ◌++◌, Option, Some, None, arith, refl, ap, subst, inl}
use Rattle.ada_program.specs.declared.program.Program.{Program}
use Rattle.ada_program.specs.ProgramForm.{TypeForm, ProgramForm, program_form}
use Rattle.ada_program.specs.WellFormed.{IsWellFormed, finalization_of, overrides_none}
use Rattle.ada_program.specs.Controlled.{no_operations, operations_in, operations_of}
use Rattle.ada_program.proofs.Overridden.{nothing_overridden}
use Rattle.ada_program.specs.Nested.{Callees, collected, callees_of, CollectionsNest}
use Rattle.ada_meaning.specs.State.{Master}
use Rattle.ada_meaning.specs.Step.{halts, moves, tells, asks, picks}
use Rattle.ada_meaning.specs.Named.{State, Next, next}
use Rattle.ada_meaning.specs.Run.{Event, Choice, settled, grants, takes, Leads, Step, Run, here, there, first_state}
use Rattle.ada_program.specs.declared.program.Operations.{Operations}
use Rattle.ada_program.specs.declared.program.ProcedureNo.{ProcedureNo}
use Rattle.ada_scopes.specs.Scopes.{NestsWhereOpen, AllNestWhereOpen, OperationsNest}
use Rattle.ada_scopes.proofs.Counts.{times_append, scopes, all_of}
use Rattle.ada_scopes.proofs.Operations.{operations_where_open}
use Rattle.ada_scopes.proofs.Texts.{BodiesNest}
use Rattle.ada_scopes.proofs.Bodies.{ProgramNests, program_nests}
use Rattle.ada_scopes.proofs.Control.{HasMain, nests_within, goes_within, Whole, Growing, Nested, scopes_in, standing, beginning, parting, resting, grows}
use Rattle.ada_scopes.proofs.Lacked.{needed, KindsOpen, kinds_open, lacked, lacked_here, lacked_open, lacked_so}
use Rattle.ada_scopes.proofs.Evaluations.{Good}
use Rattle.ada_scopes.proofs.Treatments.{TreatsFirst, CallsIfAny}
use Rattle.ada_scopes.proofs.Steps.{next_good}

-- Whether operations are called.
abbrev pub calls_in : ProgramForm → Bool
calls_in p = not (overrides_none p)

not_false : (b : Bool) → not b ≡ false → b ≡ true
not_false true is = refl
not_false false is = absurd (cc is)

none_called : (program : Program) (of : ℕ) → calls_in (program_form program) ≡ false → operations_of program.types.items of ≡ no_operations
none_called program of none = nothing_overridden program (not_false (overrides_none (program_form program)) none) of

-- The collections of the main procedure, where operations need these; else they need those of all access types.
abbrev pub main_of : (finding : Bool) → ProgramForm → Option (List ℕ)
main_of true p = Some (collected p.declarations)
main_of false p = None

-- What each state of a run keeps: what its procedures create nests wherever the text calls them, and what is left to do nests.
pub record ScopedSo (finding : Bool) (p : ProgramForm) (s : State) : Type 0 where
  pub kinds : KindsOpen p.types
  pub bodies : BodiesNest p.types (callees_of p) p.bodies
  pub nested : Nested p.types (callees_of p) (main_of finding p) (calls_in p) s

-- The collections that masters have opened in such a state.
abbrev pub scopes_of : (finding : Bool) (p : ProgramForm) (s : State) → ScopedSo finding p s → List ℕ
scopes_of finding p s scoped = all_of (scopes_in p.types (callees_of p) (main_of finding p) (calls_in p) s scoped.nested)

-- What a type overrides may be called there (7.6).
abbrev pub CallsAt : (finding : Bool) (p : ProgramForm) (s : State) → ScopedSo finding p s → Operations → Type 0
CallsAt finding p s scoped o =
    CallsIfAny p.types (callees_of p) (main_of finding p) (scopes_of finding p s scoped) o.initialize
    × CallsIfAny p.types (callees_of p) (main_of finding p) (scopes_of finding p s scoped) o.adjust
    × CallsIfAny p.types (callees_of p) (main_of finding p) (scopes_of finding p s scoped) o.finalize

-- So it is where operations nest wherever the collections of all access types are open.
abbrev pub Scoped : ProgramForm → State → Type 0
Scoped p s = ScopedSo false p s

-- Operations nest where the collections are open that they need.
abbrev pub OperationsNestSo : (finding : Bool) → ProgramForm → Type 0
OperationsNestSo finding p = (t : ℕ) → AllNestWhereOpen (needed p.types (main_of finding p)) (callees_of p) (operations_in (finalization_of p.types t))

append_nil : (us : List ℕ) → us ++ [] ≡ us
append_nil [] = refl
append_nil (u ∷ us) = ap (λ (vs : List ℕ). u ∷ vs) (append_nil us)

nothing_yet : (types : List TypeForm) → Whole types [] [] []
nothing_yet types = record { lone = λ t. omega arith; needs = tt; housed = λ o x at listed. absurd (cc at); fit = tt; records = tt; covers = tt; layered = tt; known = λ t le. absurd (omega (arith, le)) }

-- The first state: the part of the main procedure begins.
main_there : (finding : Bool) (p : ProgramForm) → HasMain (main_of finding p) (collected p.declarations ++ [])
main_there false p = tt
main_there true p = λ t le. let all = times_append t (collected p.declarations) [] in omega (arith, all, le)

main_begins : (finding : Bool) (program : Program) (input : List ℤ) → ProgramNests (program_form program) → Nested (program_form program).types (callees_of (program_form program)) (main_of finding (program_form program)) (calls_in (program_form program)) (first_state program input)
main_begins finding program input nest =
    let p = program_form program in
    let main = main_of finding p in
    let first : Master = record { number = 0; items = [] } in
    beginning (record {
      ss = [];
      m = first;
      rest = [];
      ds = p.declarations;
      fs = p.statements;
      hs = p.handlers;
      k = [];
      there = collected p.declarations;
      masters = refl;
      control = refl;
      runs = refl;
      growing = subst (λ (there : List ℕ). Growing p.types main [] first [] [] p.declarations there) (append_nil (collected p.declarations)) (grows p.types main [] 0 [] [] p.declarations [] nest.part (λ t. refl) (nothing_yet p.types));
      statements = nest.statements;
      handlers = nest.handlers;
      nests = inl (refl, refl, subst (HasMain main) (append_nil (collected p.declarations)) (main_there finding p));
    })

pub first_so : (finding : Bool) (program : Program) → IsWellFormed (program_form program) → CollectionsNest (program_form program) → (input : List ℤ) → ScopedSo finding (program_form program) (first_state program input)
first_so finding program well nest input =
    let text = program_nests (program_form program) well nest in
    record { kinds = kinds_open (program_form program) well; bodies = text.bodies; nested = main_begins finding program input text }

pub first_nested : (program : Program) → IsWellFormed (program_form program) → CollectionsNest (program_form program) → (input : List ℤ) → Scoped (program_form program) (first_state program input)
first_nested = first_so false

led : (types : List TypeForm) (callees : Callees) (main : Option (List ℕ)) (calling : Bool) (coming : Next) (choice : Choice) (e : Event) (after : State) → Good types callees main calling coming → Leads coming choice e after → Nested types callees main calling after
led types callees main calling (halts halt) choice e after g l = absurd l
led types callees main calling (moves shown s) settled e after g l = rw (l.1) g
led types callees main calling (tells request shown s) settled e after g l = rw (l.1) g
led types callees main calling (asks request answers) (grants granted) e after g l = rw (l.1) (g granted)
led types callees main calling (picks n taking) (takes i) e after g l = rw (l.2) (g i l.0)
led types callees main calling (moves shown s) (grants granted) e after g l = absurd l
led types callees main calling (moves shown s) (takes i) e after g l = absurd l
led types callees main calling (tells request shown s) (grants granted) e after g l = absurd l
led types callees main calling (tells request shown s) (takes i) e after g l = absurd l
led types callees main calling (asks request answers) settled e after g l = absurd l
led types callees main calling (asks request answers) (takes i) e after g l = absurd l
led types callees main calling (picks n taking) settled e after g l = absurd l
led types callees main calling (picks n taking) (grants granted) e after g l = absurd l

-- Where an object is treated next, the collections of the main procedure are open that operations need.
treated_within : (types : List TypeForm) (callees : Callees) (main : Option (List ℕ)) (calling : Bool) (s : State) (nested : Nested types callees main calling s) → TreatsFirst s.control
    → HasMain main (all_of (scopes_in types callees main calling s nested))
treated_within types callees main calling s (standing ss w n) first = nests_within types callees main calling ss (scopes s.masters) s.control n
treated_within types callees main calling s (beginning b) first = absurd (subst TreatsFirst b.control first)
treated_within types callees main calling s (parting ss w runs goes) first = goes_within types callees main calling ss (scopes s.masters) s.control goes
treated_within types callees main calling s (resting ss w none ends) first = absurd (subst TreatsFirst ends first)

-- An operation that nests where the collections are open that it needs may be called where these are: its master lacks the others.
calls_where_open : (types : List TypeForm) (callees : Callees) (main : Option (List ℕ)) (opened : List ℕ) → KindsOpen types → HasMain main opened → (o : Option ProcedureNo)
    → NestsWhereOpen (needed types main) callees o → CallsIfAny types callees main opened o
calls_where_open types callees main opened kinds has None nests = tt
calls_where_open types callees main opened kinds has (Some procedure) nests = record {
  lacks = lacked types main opened;
  lacking = lacked_here types main opened;
  here = lacked_so types main opened kinds;
  nests = nests (lacked types main opened ++ opened) (lacked_open types main opened has);
}

-- A step keeps that, if operations may be called where an object is treated next: no other step calls one.
pub step_where : (finding : Bool) (program : Program) (s after : State) (choice : Choice) (e : Event) (scoped : ScopedSo finding (program_form program) s)
    → (TreatsFirst s.control → (of : ℕ) → CallsAt finding (program_form program) s scoped (operations_of program.types.items of)) → Step program s choice e after
    → ScopedSo finding (program_form program) after
step_where finding program s after choice e scoped operations step =
    let p = program_form program in
    let types = program.types.items in
    let main = main_of finding p in
    record {
      kinds = scoped.kinds;
      bodies = scoped.bodies;
      nested = led p.types (callees_of p) main (calls_in p) (next types p.bodies s) choice e after
          (next_good p.types (callees_of p) main (calls_in p) p.bodies scoped.bodies types s scoped.nested
          (λ first of. let calls = operations first of in (calls.0, calls.1, calls.2, none_called program of))) step;
    }

-- So it does, if operations nest where a treatment is what is done next.
pub step_so : (finding : Bool) (program : Program) (s after : State) (choice : Choice) (e : Event) → (TreatsFirst s.control → OperationsNestSo finding (program_form program)) → ScopedSo finding (program_form program) s → Step program s choice e after → ScopedSo finding (program_form program) after
step_so finding program s after choice e operations scoped step =
    let p = program_form program in
    let types = program.types.items in
    let main = main_of finding p in
    step_where finding program s after choice e scoped
    (λ first of.
    let has = treated_within p.types (callees_of p) main (calls_in p) s scoped.nested first in
    let opened = scopes_of finding p s scoped in
    let all = operations_where_open (needed p.types main) (callees_of p) types of (operations first) in
    let o = operations_of types of in (
      calls_where_open p.types (callees_of p) main opened scoped.kinds has o.initialize all.0,
      calls_where_open p.types (callees_of p) main opened scoped.kinds has o.adjust all.1,
      calls_where_open p.types (callees_of p) main opened scoped.kinds has o.finalize all.2,
    )) step

pub step_nested : (program : Program) (s after : State) (choice : Choice) (e : Event) → (TreatsFirst s.control → OperationsNest (program_form program)) → Scoped (program_form program) s → Step program s choice e after → Scoped (program_form program) after
step_nested = step_so false

run_so : (finding : Bool) (program : Program) (s last : State) (events : List Event) → OperationsNestSo finding (program_form program) → ScopedSo finding (program_form program) s → Run program s events last → ScopedSo finding (program_form program) last
run_so finding program s last events operations scoped here = scoped
run_so finding program s last (e ∷ events) operations scoped (there choice mid step rest) =
    run_so finding program mid last events operations (step_so finding program s mid choice e (λ first. operations) scoped step) rest

pub state_so : (finding : Bool) (program : Program) → IsWellFormed (program_form program) → CollectionsNest (program_form program) → OperationsNestSo finding (program_form program) → (input : List ℤ) (events : List Event) (last : State) → Run program (first_state program input) events last → ScopedSo finding (program_form program) last
state_so finding program well nest operations input events last run =
    run_so finding program (first_state program input) last events operations (first_so finding program well nest input) run

pub state_nested : (program : Program) → IsWellFormed (program_form program) → CollectionsNest (program_form program) → OperationsNest (program_form program) → (input : List ℤ) (events : List Event) (last : State) → Run program (first_state program input) events last → Scoped (program_form program) last
state_nested = state_so false
