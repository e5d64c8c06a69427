-- A run by its choices: where they lead is computed.

use Rattle.std.proofs.Common.{◌≡◌, ℕ, ℤ, Bool, true, false, List, [], ◌∷◌, refl, sym, ap, ◌∙◌, subst}
use Rattle.std.specs.Prelude.{not, ◌&&◌, ◌||◌, length, Option, Some, None, nat_lt}
use Rattle.std.specs.List.{list_all, filter}
use Rattle.std.proofs.lemmas.Bool.{and_parts, ltb-true}
use Rattle.ada_deeds.specs.Does.{Does}
use Rattle.ada_deeds.specs.Implicit.{implicit_of}
use Rattle.ada_deeds.specs.Within.{does_by}
use Rattle.ada_deeds.specs.declared.deed.Callee.{Callee}
use Rattle.ada_deeds.specs.declared.deed.Callee.TheVariants as callee
use Rattle.ada_deeds.specs.declared.deed.Deed.{Deed}
use Rattle.ada_deeds.specs.declared.deed.Deed.TheVariants.{Raises, Follows}
use Rattle.ada_deeds.specs.declared.deed.Operation.TheVariants.{Adjust, Finalize}
use Rattle.ada_deeds.proofs.Within.{counts_are_enough}
use Rattle.ada_operations.specs.Created.{collections_of, is_created_before}
use Rattle.ada_operations.proofs.Propagating.{none_comes_out, kept_by}
use Rattle.ada_operations.proofs.Spared.{adjust_aside, aside_by, reach_older, older_by}
use Rattle.ada_program.specs.declared.program.Exception.{Exception}
use Rattle.ada_program.specs.declared.program.TypeNo.{TypeNo}
use Rattle.ada_text.specs.declared.spot.Spot.{Spot}
use Rattle.ada_program.specs.declared.program.Program.{Program}
use Rattle.ada_program.specs.Form.{StmtsForm, HandlersForm, declaration_forms, stmt_forms, handler_forms}
use Rattle.ada_program.specs.ProgramForm.{BodyForm, ProgramForm, main_body, body_forms, program_form}
use Rattle.ada_program.specs.WellFormed.{type_fits, variable_fits, creations, creates_from, collections_first, collection_fits, designated_type, has_collections, is_access, pools_fit, initial_fits, stmts_fit, handlers_fit, bodies_fit, all_creations, callable_in, components_lie, have_operations, IsWellFormed}
use Rattle.ada_program.specs.Nested.{collected, part_nests, statements_nest, handlers_nest, callees_of, CollectionsNest}
use Rattle.ada_program.specs.Freed.{statements_free_own, handlers_free_own, body_frees_own, FreesItsOwn}
use Rattle.ada_effects.specs.Effects.{Implicit, effects_of}
use Rattle.ada_flow.specs.declared.rule.Rule.{Rule}
use Rattle.ada_flow.specs.Flow.{Holds, Outcome, Around, goes, faults, stmts_flow, handlers_flow, declarations_flow, keeping_of, body_around, types_of, variables_of, first_holds, flow_of, program_flow}
use Rattle.ada_flow.specs.Tracking.{no_tracks}
use Rattle.ada_meaning.specs.declared.event.Halt.{Halt}
use Rattle.ada_meaning.specs.Frame as frame
use Rattle.ada_meaning.specs.Event.{Quiet}
use Rattle.ada_meaning.specs.Step.{halts, moves, tells, asks, picks}
use Rattle.ada_meaning.specs.Named.{State, Next, next}
use Rattle.ada_meaning.specs.Run.{Event, Choice, settled, grants, takes, Leads, Run, here, there, Halts, first_state}
use Rattle.ada_quiet.specs.Idle.{makes_parts, copies_parts}
use Rattle.ada_quiet.specs.InUse.{operations_are_in_use}
use Rattle.ada_sound.specs.Always.{IsChecked, LetsNothingOut, spare_own_types, SparesAdjusted, SparesNewer, SparesOwn, Breaks, IsIllFormed, IsIllNested, FreesOthers, NotInUse, UsesNewer, FollowsAdjusted, LetsSomeOut, UsesOwn, InSomeRun, is_seen, IsFineAtEnds, HaltsAfter, HaltsSomewhere}

-- Events, and the state that they lead to.
abbrev pub Came : Type 0
Came = Option (List Event × State)

-- What comes after a step.
abbrev pub told : Event → Came → Came
told e None = None
told e (Some (events, last)) = Some (e ∷ events, last)

abbrev pub only_if : Bool → Came → Came
only_if true came = came
only_if false came = None

-- A step by a choice, and more.
abbrev pub step_by : Next → Choice → (State → Came) → Came
step_by (moves e s) settled more = told e (more s)
step_by (tells request e s) settled more = told e (more s)
step_by (asks request answered) (grants granted) more = told Quiet (more (answered granted))
step_by (picks n taken) (takes i) more = only_if (nat_lt i n) (told Quiet (more (taken i)))
step_by n choice more = None

-- Where choices lead from a state, if each is one that the step leaves open, and these are the bodies of the program's procedures.
abbrev pub came_by : Program → List BodyForm → State → List Choice → Came
came_by program bodies s [] = Some ([], s)
came_by program bodies s (c ∷ cs) = step_by (next program.types.items bodies s) c (λ after. came_by program bodies after cs)

-- Where choices lead, there is a run.
LeadsTo : Program → State → Came → Type 0
LeadsTo program s None = Unit {0}
LeadsTo program s (Some (events, last)) = Run program s events last

told_goes : (program : Program) (s after : State) (choice : Choice) (e : Event) (came : Came)
    → Leads (next program.types.items (body_forms program) s) choice e after → LeadsTo program after came → LeadsTo program s (told e came)
unfolding LeadsTo
told_goes program s after choice e None leads g = tt
told_goes program s after choice e (Some (events, last)) leads g = there choice after leads g

taken_goes : (program : Program) (s : State) (n i : ℕ) (taken : ℕ → State) (came : Came) (b : Bool) → nat_lt i n ≡ b
    → next program.types.items (body_forms program) s ≡ picks n taken → LeadsTo program (taken i) came → LeadsTo program s (only_if b (told Quiet came))
unfolding LeadsTo
taken_goes program s n i taken came true less is g = told_goes program s (taken i) (takes i) Quiet came (rw is (ltb-true i n less, refl, refl)) g
taken_goes program s n i taken came false less is g = tt

step_goes : (program : Program) (s : State) (n : Next) (choice : Choice) (more : State → Came) → next program.types.items (body_forms program) s ≡ n
    → ((after : State) → LeadsTo program after (more after)) → LeadsTo program s (step_by n choice more)
unfolding LeadsTo
step_goes program s (moves e after) settled more is g = told_goes program s after settled e (more after) (rw is (refl, refl)) (g after)
step_goes program s (tells request e after) settled more is g = told_goes program s after settled e (more after) (rw is (refl, refl)) (g after)
step_goes program s (asks request answered) (grants granted) more is g =
    told_goes program s (answered granted) (grants granted) Quiet (more (answered granted)) (rw is (refl, refl)) (g (answered granted))
step_goes program s (picks n taken) (takes i) more is g = taken_goes program s n i taken (more (taken i)) (nat_lt i n) refl is (g (taken i))
step_goes program s n choice more is g = tt

came_goes : (program : Program) (bodies : List BodyForm) → body_forms program ≡ bodies → (s : State) (cs : List Choice)
    → LeadsTo program s (came_by program bodies s cs)
unfolding LeadsTo
came_goes program bodies has s [] = here
came_goes program bodies has s (c ∷ cs) =
    step_goes program s (next program.types.items bodies s) c (λ after. came_by program bodies after cs) (ap (λ bs. next program.types.items bs s) has)
    (λ after. came_goes program bodies has after cs)

-- What came of choices, if each was one that the step left open.
abbrev pub has_come : Came → Bool
has_come None = false
has_come (Some came) = true

abbrev pub events_of : Came → List Event
events_of None = []
events_of (Some (events, last)) = events

abbrev pub last_of : State → Came → State
last_of s None = s
last_of s (Some (events, last)) = last

goes_there : (program : Program) (s : State) (came : Came) → has_come came ≡ true → LeadsTo program s came → Run program s (events_of came) (last_of s came)
unfolding LeadsTo
goes_there program s None is g = absurd (cc is)
goes_there program s (Some (events, last)) is g = g

-- The first state of a program that does these statements with these handlers, with this input; and what comes of choices from there, where these are the
-- bodies of its procedures.
abbrev pub first_with : Program → List ℤ → StmtsForm → HandlersForm → State
first_with program input fs hs = record (first_state program input) { control = frame.Elaborates (declaration_forms program) fs hs ∷ [] }

abbrev pub came : Program → List ℤ → List BodyForm → StmtsForm → HandlersForm → List Choice → Came
came program input bodies fs hs cs = came_by program bodies (first_with program input fs hs) cs

abbrev pub last : Program → List ℤ → List BodyForm → StmtsForm → HandlersForm → List Choice → State
last program input bodies fs hs cs = last_of (first_with program input fs hs) (came program input bodies fs hs cs)

-- The program as plain data, with these bodies, these statements and these handlers.
abbrev pub form_with : Program → List BodyForm → StmtsForm → HandlersForm → ProgramForm
form_with program bodies fs hs = record (program_form program) { bodies = bodies; statements = fs; handlers = hs }

-- What is known of its implicit calls.
abbrev pub implicit_with : Program → List BodyForm → StmtsForm → HandlersForm → Implicit
implicit_with program bodies fs hs = implicit_of (form_with program bodies fs hs)

-- Where its statements stand.
abbrev pub around_in : ProgramForm → Around
around_in p = body_around (effects_of (implicit_of p) p) (keeping_of (implicit_of p) p) no_tracks (main_body p)

abbrev pub around_with : Program → List BodyForm → StmtsForm → HandlersForm → Around
around_with program bodies fs hs = around_in (form_with program bodies fs hs)

-- What flow says of it.
abbrev pub flow_with : Program → List BodyForm → StmtsForm → HandlersForm → Outcome
flow_with program bodies fs hs = flow_of (implicit_with program bodies fs hs) (form_with program bodies fs hs)

-- The parts of a well-formed program but its operations and where its components lie.
abbrev is_formed : ProgramForm → Bool
is_formed p =
    list_all (type_fits p.types) p.types && (pools_fit p && (list_all (variable_fits p.types) p.variables && (creates_from (length p.variables) 0 (creations p) &&
    (collections_first p.declarations && (list_all (collection_fits p.types) p.declarations && (has_collections (all_creations p) 0 p.types &&
    (list_all (initial_fits p.types p.variables) p.declarations && (stmts_fit p.types p.variables p.texts p.exceptions (callable_in p) false p.statements &&
    (handlers_fit p.types p.variables p.texts p.exceptions (callable_in p) false p.handlers && bodies_fit p.types p.texts p.exceptions [] p.bodies)))))))))

-- Whether a program is well formed.
abbrev pub fits : ProgramForm → Bool
fits p = list_all (components_lie p.types) p.types && (have_operations p.types (callable_in p) 0 p.types && is_formed p)

-- What the ends of objects reach is of types whose collections are created before those of their own.
abbrev ReachesOlder : ProgramForm → Type 0
ReachesOlder p = (t u : ℕ) → is_access p.types t ≡ true → (implicit_of p).end_reaches t u ≡ true → is_created_before (collections_of p) u t ≡ true

-- Whether what ends objects spares their own access types; and whether it spares those whose collections are created later, and what adjusts objects follows no
-- values of their own access types.
abbrev pub spares_types : ProgramForm → Bool
spares_types p = spare_own_types (implicit_of p) 0 p.types && (reach_older p && adjust_aside p)

-- Whether no exception comes out where a record is finalized, if a Finalize may be called, nor where one is adjusted, if an Adjust may be.
abbrev pub lets_none_out : ProgramForm → Bool
lets_none_out p = (not (makes_parts p) || none_comes_out p Finalize) && (not (copies_parts p) || none_comes_out p Adjust)

-- Whether what overrides its operations is in use, too, spares these, and lets no exception out there; whether its collections nest; and whether it frees by
-- the instances for what it frees.
abbrev pub is_fine : ProgramForm → Bool
is_fine p = operations_are_in_use p && (spares_types p && (lets_none_out p && fits p))

abbrev pub is_nested : ProgramForm → Bool
is_nested p =
    part_nests p.types [] p.declarations && (statements_nest p.types (callees_of p) (collected p.declarations) p.statements &&
    handlers_nest p.types (callees_of p) (collected p.declarations) p.handlers)

abbrev pub is_own : ProgramForm → Bool
is_own p =
    statements_free_own p.types p.variables p.statements && (handlers_free_own p.types p.variables p.handlers && list_all (body_frees_own p.types) p.bodies)

-- The last two of these.
abbrev pub is_kept : ProgramForm → Bool
is_kept p = is_nested p && is_own p

in_use_is : (p : ProgramForm) → is_fine p ≡ true → operations_are_in_use p ≡ true
in_use_is p e = (and_parts _ _ e).0

fits_is : (p : ProgramForm) → fits p ≡ true → IsWellFormed p
fits_is p e =
    let lie = and_parts _ _ e in
    let operations = and_parts _ _ lie.1 in
    let a = and_parts _ _ operations.1 in
    let z = and_parts _ _ a.1 in
    let b = and_parts _ _ z.1 in
    let c = and_parts _ _ b.1 in
    let d = and_parts _ _ c.1 in
    let f = and_parts _ _ d.1 in
    let g = and_parts _ _ f.1 in
    let h = and_parts _ _ g.1 in
    let i = and_parts _ _ h.1 in
    let j = and_parts _ _ i.1 in
    record {
      types_fit = a.0;
      components_lie = lie.0;
      operations_fit = operations.0;
      pools_fit = z.0;
      variables_fit = b.0;
      creates_in_order = c.0;
      collections_first = d.0;
      collections_fit = f.0;
      has_one_each = g.0;
      initials_fit = h.0;
      statements_fit = i.0;
      handlers_fit = j.0;
      bodies_fit = j.1;
    }

-- The last two of these.
formed_is : (p : ProgramForm) → is_fine p ≡ true → (lets_none_out p && fits p) ≡ true
formed_is p e =
    let used = and_parts (operations_are_in_use p) (spares_types p && (lets_none_out p && fits p)) e in
    (and_parts (spares_types p) (lets_none_out p && fits p) used.1).1

fine_is : (p : ProgramForm) → is_fine p ≡ true → IsWellFormed p
fine_is p e = fits_is p (and_parts (lets_none_out p) (fits p) (formed_is p e)).1

spares_is : (p : ProgramForm) → is_fine p ≡ true → spares_types p ≡ true
spares_is p e = (and_parts _ _ (and_parts _ _ e).1).0

-- The last two parts of what is spared.
later_is : (p : ProgramForm) → spares_types p ≡ true → (reach_older p && adjust_aside p) ≡ true
later_is p e = (and_parts (spare_own_types (implicit_of p) 0 p.types) (reach_older p && adjust_aside p) e).1

older_is : (p : ProgramForm) → spares_types p ≡ true → reach_older p ≡ true
older_is p e = (and_parts (reach_older p) (adjust_aside p) (later_is p e)).0

aside_is : (p : ProgramForm) → spares_types p ≡ true → adjust_aside p ≡ true
aside_is p e = (and_parts (reach_older p) (adjust_aside p) (later_is p e)).1

lets_none_is : (p : ProgramForm) → is_fine p ≡ true → lets_none_out p ≡ true
lets_none_is p e = (and_parts (lets_none_out p) (fits p) (formed_is p e)).0

-- A test that is asked under a condition is passed where that holds.
where_asked : (condition test : Bool) → (not condition || test) ≡ true → condition ≡ true → test ≡ true
where_asked true test e is = e
where_asked false test e is = absurd (cc is)

lets_none_by : (p : ProgramForm) → lets_none_out p ≡ true → LetsNothingOut p
lets_none_by p e =
    let both = and_parts (not (makes_parts p) || none_comes_out p Finalize) (not (copies_parts p) || none_comes_out p Adjust) e in
    record {
      finalizes = λ made. kept_by p Finalize (where_asked (makes_parts p) (none_comes_out p Finalize) both.0 made);
      adjusts = λ copies. kept_by p Adjust (where_asked (copies_parts p) (none_comes_out p Adjust) both.1 copies);
    }

nested_is : (p : ProgramForm) → is_nested p ≡ true → CollectionsNest p
nested_is p e =
    let a = and_parts _ _ e in
    let b = and_parts _ _ a.1 in
    record { declarations = a.0; statements = b.0; handlers = b.1 }

own_is : (p : ProgramForm) → is_own p ≡ true → FreesItsOwn p
own_is p e =
    let a = and_parts _ _ e in
    let b = and_parts _ _ a.1 in
    record { statements = a.0; handlers = b.0; bodies = b.1 }

-- Of programs whose procedures have these bodies, and which do these statements with these handlers.
module _ (program : Program) (bodies : List BodyForm) (fs : StmtsForm) (hs : HandlersForm)
    (same : body_forms program ≡ bodies) (is : stmt_forms program ≡ fs) (has : handler_forms program ≡ hs) where
  -- As plain data it is this.
  form_is : program_form program ≡ form_with program bodies fs hs
  form_is = rw same (rw is (rw has refl))

  -- What flow says of it.
  pub flow_in : (o : Outcome) → flow_with program bodies fs hs ≡ o → program_flow program ≡ o
  flow_in o e = ap (λ p. flow_of (implicit_of p) p) form_is ∙ e

  -- It is well formed, its collections nest, and it frees its own.
  fine_in : is_fine (form_with program bodies fs hs) ≡ true → IsWellFormed (program_form program)
  fine_in e = subst IsWellFormed (sym form_is) (fine_is (form_with program bodies fs hs) e)

  in_use_in : is_fine (form_with program bodies fs hs) ≡ true → operations_are_in_use (program_form program) ≡ true
  in_use_in e = subst (λ (p : ProgramForm). operations_are_in_use p ≡ true) (sym form_is) (in_use_is (form_with program bodies fs hs) e)

  -- Whether the ends of its objects spare their own access types.
  spares_with : (b : Bool) → spare_own_types (implicit_of (form_with program bodies fs hs)) 0 (form_with program bodies fs hs).types ≡ b → spare_own_types (implicit_of (program_form program)) 0 (program_form program).types ≡ b
  spares_with b e = subst (λ (p : ProgramForm). spare_own_types (implicit_of p) 0 p.types ≡ b) (sym form_is) e

  spares_in : spares_types (form_with program bodies fs hs) ≡ true → SparesOwn program
  spares_in e = spares_with true (and_parts _ _ e).0

  -- And whether it spares those whose collections are created later than that of its own.
  newer_in : reach_older (form_with program bodies fs hs) ≡ true → SparesNewer program
  newer_in e = subst ReachesOlder (sym form_is) (older_by (form_with program bodies fs hs) e)

  spares_newer_in : spares_types (form_with program bodies fs hs) ≡ true → SparesNewer program
  spares_newer_in e = newer_in (older_is (form_with program bodies fs hs) e)

  -- And whether what adjusts an object follows no value of its own access type.
  aside_in : adjust_aside (form_with program bodies fs hs) ≡ true → SparesAdjusted (program_form program)
  aside_in e = subst SparesAdjusted (sym form_is) (aside_by (form_with program bodies fs hs) e)

  spares_adjusted_in : spares_types (form_with program bodies fs hs) ≡ true → SparesAdjusted (program_form program)
  spares_adjusted_in e = aside_in (aside_is (form_with program bodies fs hs) e)

  -- It does not spare such a one.
  reaches_newer_in : (t u : ℕ) → is_access (form_with program bodies fs hs).types t ≡ true → (implicit_with program bodies fs hs).end_reaches t u ≡ true
      → is_created_before (collections_of (form_with program bodies fs hs)) u t ≡ false → SparesNewer program → ⊥
  reaches_newer_in t u access reached late spares = cc (late, subst ReachesOlder form_is spares t u access reached)

  -- An object of an access type is adjusted, and a value of that type followed.
  follows_aside_in : (access : ℕ) (whole : TypeNo) → designated_type (form_with program bodies fs hs).types access ≡ Some whole.0
      → does_by (form_with program bodies fs hs) (Follows (record { 0 = access })) (callee.Parts Adjust whole) ≡ true → SparesAdjusted (program_form program) → ⊥
  follows_aside_in access whole designated follows spares =
      let d : Deed = Follows (record { 0 = access }) in
      subst SparesAdjusted form_is spares access whole designated ((counts_are_enough (form_with program bodies fs hs) d (callee.Parts Adjust whole)).0 follows)

  -- And whether no exception comes out of what may be called of its Finalize and Adjust.
  lets_none_in : lets_none_out (form_with program bodies fs hs) ≡ true → LetsNothingOut (program_form program)
  lets_none_in e = subst LetsNothingOut (sym form_is) (lets_none_by (form_with program bodies fs hs) e)

  -- And what its procedures and operations do.
  pub does_in : (d : Deed) (c : Callee) → does_by (form_with program bodies fs hs) d c ≡ true → Does (program_form program) d c
  does_in d c e = subst (λ (p : ProgramForm). Does p d c) (sym form_is) ((counts_are_enough (form_with program bodies fs hs) d c).0 e)

  nested_in : is_nested (form_with program bodies fs hs) ≡ true → CollectionsNest (program_form program)
  nested_in e = subst CollectionsNest (sym form_is) (nested_is (form_with program bodies fs hs) e)

  own_in : is_own (form_with program bodies fs hs) ≡ true → FreesItsOwn (program_form program)
  own_in e = subst FreesItsOwn (sym form_is) (own_is (form_with program bodies fs hs) e)

  -- It is accepted, or refused for one thing alone.
  pub accepted_in : (normal raising : Option Holds) → is_fine (form_with program bodies fs hs) ≡ true → is_kept (form_with program bodies fs hs) ≡ true
      → flow_with program bodies fs hs ≡ goes normal raising → IsChecked program
  accepted_in normal raising fine kept e =
      let both = and_parts _ _ kept in
      record {
        well_formed = fine_in fine;
        in_use = in_use_in fine;
        nests = nested_in both.0;
        frees_own = own_in both.1;
        spares_own = spares_in (spares_is (form_with program bodies fs hs) fine);
        spares_newer = spares_newer_in (spares_is (form_with program bodies fs hs) fine);
        spares_adjusted = spares_adjusted_in (spares_is (form_with program bodies fs hs) fine);
        lets_nothing_out = lets_none_in (lets_none_is (form_with program bodies fs hs) fine);
        obeys = (normal, raising, flow_in (goes normal raising) e);
      }

  pub breaks_in : (rule : Rule) (spot : Spot) → is_fine (form_with program bodies fs hs) ≡ true → is_kept (form_with program bodies fs hs) ≡ true
      → flow_with program bodies fs hs ≡ faults spot rule → Breaks rule program
  breaks_in rule spot fine kept e =
      let both = and_parts _ _ kept in
      record {
        well_formed = fine_in fine;
        in_use = in_use_in fine;
        nests = nested_in both.0;
        frees_own = own_in both.1;
        spares_own = spares_in (spares_is (form_with program bodies fs hs) fine);
        spares_newer = spares_newer_in (spares_is (form_with program bodies fs hs) fine);
        spares_adjusted = spares_adjusted_in (spares_is (form_with program bodies fs hs) fine);
        lets_nothing_out = lets_none_in (lets_none_is (form_with program bodies fs hs) fine);
        spot = spot;
        faults_there = flow_in (faults spot rule) e;
      }

  pub not_in_use_in : (normal raising : Option Holds) → fits (form_with program bodies fs hs) ≡ true
      → operations_are_in_use (form_with program bodies fs hs) ≡ false → spares_types (form_with program bodies fs hs) ≡ true
      → lets_none_out (form_with program bodies fs hs) ≡ true → is_kept (form_with program bodies fs hs) ≡ true
      → flow_with program bodies fs hs ≡ goes normal raising → NotInUse program
  not_in_use_in normal raising formed unused spares none kept e =
      let both = and_parts _ _ kept in
      record {
        well_formed = subst IsWellFormed (sym form_is) (fits_is (form_with program bodies fs hs) formed);
        not_in_use = subst (λ (p : ProgramForm). operations_are_in_use p ≡ false) (sym form_is) unused;
        nests = nested_in both.0;
        frees_own = own_in both.1;
        spares_own = spares_in spares;
        spares_newer = spares_newer_in spares;
        spares_adjusted = spares_adjusted_in spares;
        lets_nothing_out = lets_none_in none;
        obeys = (normal, raising, flow_in (goes normal raising) e);
      }

  pub uses_newer_in : (t u : ℕ) → is_access (form_with program bodies fs hs).types t ≡ true → (implicit_with program bodies fs hs).end_reaches t u ≡ true
      → is_created_before (collections_of (form_with program bodies fs hs)) u t ≡ false
      → (normal raising : Option Holds) → fits (form_with program bodies fs hs) ≡ true → operations_are_in_use (form_with program bodies fs hs) ≡ true
      → spare_own_types (implicit_of (form_with program bodies fs hs)) 0 (form_with program bodies fs hs).types ≡ true
      → adjust_aside (form_with program bodies fs hs) ≡ true
      → lets_none_out (form_with program bodies fs hs) ≡ true → is_kept (form_with program bodies fs hs) ≡ true
      → flow_with program bodies fs hs ≡ goes normal raising → UsesNewer program
  uses_newer_in t u access reached late normal raising formed used spares aside out kept e =
      let both = and_parts _ _ kept in
      record {
        well_formed = subst IsWellFormed (sym form_is) (fits_is (form_with program bodies fs hs) formed);
        in_use = subst (λ (p : ProgramForm). operations_are_in_use p ≡ true) (sym form_is) used;
        nests = nested_in both.0;
        frees_own = own_in both.1;
        spares_own = spares_with true spares;
        uses_newer = reaches_newer_in t u access reached late;
        spares_adjusted = aside_in aside;
        lets_nothing_out = lets_none_in out;
        obeys = (normal, raising, flow_in (goes normal raising) e);
      }

  pub follows_adjusted_in : (access : ℕ) (whole : TypeNo) → designated_type (form_with program bodies fs hs).types access ≡ Some whole.0
      → does_by (form_with program bodies fs hs) (Follows (record { 0 = access })) (callee.Parts Adjust whole) ≡ true
      → (normal raising : Option Holds) → fits (form_with program bodies fs hs) ≡ true → operations_are_in_use (form_with program bodies fs hs) ≡ true
      → spare_own_types (implicit_of (form_with program bodies fs hs)) 0 (form_with program bodies fs hs).types ≡ true
      → reach_older (form_with program bodies fs hs) ≡ true
      → lets_none_out (form_with program bodies fs hs) ≡ true → is_kept (form_with program bodies fs hs) ≡ true
      → flow_with program bodies fs hs ≡ goes normal raising → FollowsAdjusted program
  follows_adjusted_in access whole designated follows normal raising formed used spares older out kept e =
      let both = and_parts _ _ kept in
      record {
        well_formed = subst IsWellFormed (sym form_is) (fits_is (form_with program bodies fs hs) formed);
        in_use = subst (λ (p : ProgramForm). operations_are_in_use p ≡ true) (sym form_is) used;
        nests = nested_in both.0;
        frees_own = own_in both.1;
        spares_own = spares_with true spares;
        spares_newer = newer_in older;
        follows_adjusted = follows_aside_in access whole designated follows;
        lets_nothing_out = lets_none_in out;
        obeys = (normal, raising, flow_in (goes normal raising) e);
      }

  pub lets_some_in : (e : Exception) (record_type : TypeNo) (normal raising : Option Holds) → makes_parts (form_with program bodies fs hs) ≡ true
      → does_by (form_with program bodies fs hs) (Raises e) (callee.Parts Finalize record_type) ≡ true
      → operations_are_in_use (form_with program bodies fs hs) ≡ true → spares_types (form_with program bodies fs hs) ≡ true
      → fits (form_with program bodies fs hs) ≡ true → is_kept (form_with program bodies fs hs) ≡ true
      → flow_with program bodies fs hs ≡ goes normal raising → LetsSomeOut program
  lets_some_in e record_type normal raising made comes used spares formed kept h =
      let both = and_parts _ _ kept in
      let raised = does_in (Raises e) (callee.Parts Finalize record_type) comes in
      record {
        well_formed = subst IsWellFormed (sym form_is) (fits_is (form_with program bodies fs hs) formed);
        in_use = subst (λ (p : ProgramForm). operations_are_in_use p ≡ true) (sym form_is) used;
        nests = nested_in both.0;
        frees_own = own_in both.1;
        spares_own = spares_in spares;
        spares_newer = spares_newer_in spares;
        spares_adjusted = spares_adjusted_in spares;
        lets_some_out = λ (none : LetsNothingOut (program_form program)).
            none.finalizes (subst (λ (p : ProgramForm). makes_parts p ≡ true) (sym form_is) made) e record_type raised;
        obeys = (normal, raising, flow_in (goes normal raising) h);
      }

  pub uses_own_in : (normal raising : Option Holds) → fits (form_with program bodies fs hs) ≡ true → operations_are_in_use (form_with program bodies fs hs) ≡ true
      → spare_own_types (implicit_of (form_with program bodies fs hs)) 0 (form_with program bodies fs hs).types ≡ false
      → lets_none_out (form_with program bodies fs hs) ≡ true → is_kept (form_with program bodies fs hs) ≡ true
      → flow_with program bodies fs hs ≡ goes normal raising → UsesOwn program
  uses_own_in normal raising formed used uses out kept e =
      let both = and_parts _ _ kept in
      let none = spares_with false uses in
      record {
        well_formed = subst IsWellFormed (sym form_is) (fits_is (form_with program bodies fs hs) formed);
        in_use = subst (λ (p : ProgramForm). operations_are_in_use p ≡ true) (sym form_is) used;
        nests = nested_in both.0;
        frees_own = own_in both.1;
        uses_own = λ spares. cc (none, spares);
        lets_nothing_out = lets_none_in out;
        obeys = (normal, raising, flow_in (goes normal raising) e);
      }

  -- Its parts, where its handlers would be fine at the ends of its statements.
  pub fine_at_ends_in : (holds : Holds) (before within normal raising : Option Holds)
      → declarations_flow (types_of program) (variables_of program) no_tracks (implicit_with program bodies fs hs) (declaration_forms program) (first_holds [] (variables_of program)) ≡ goes (Some holds) before
      → stmts_flow (types_of program) (variables_of program) (around_with program bodies fs hs) fs holds ≡ goes (Some holds) within
      → handlers_flow (types_of program) (variables_of program) (around_with program bodies fs hs) hs holds ≡ goes normal raising
      → IsFineAtEnds holds program
  fine_at_ends_in holds before within normal raising d e g = (
    before,
    within,
    normal,
    raising,
    ap (λ p. declarations_flow (types_of program) (variables_of program) no_tracks (implicit_of p) (declaration_forms program) (first_holds [] (variables_of program))) form_is ∙ d,
    ap (λ p. stmts_flow (types_of program) (variables_of program) (around_in p) p.statements holds) form_is ∙ e,
    ap (λ p. handlers_flow (types_of program) (variables_of program) (around_in p) p.handlers holds) form_is ∙ g,
  )

  -- A run by these choices.
  pub run_in : (input : List ℤ) (cs : List Choice) (P : List Event → State → Type 0) → has_come (came program input bodies fs hs cs) ≡ true
      → P (events_of (came program input bodies fs hs cs)) (last program input bodies fs hs cs) → InSomeRun program P
  run_in input cs P comes p = (
    input,
    events_of (came program input bodies fs hs cs),
    last program input bodies fs hs cs,
    rw is (rw has (
        goes_there program (first_with program input fs hs) (came program input bodies fs hs cs) comes
        (came_goes program bodies same (first_with program input fs hs) cs)
        )),
    p,
  )

  -- It halts so.
  pub halts_in : (input : List ℤ) (cs : List Choice) (halt : Halt) → has_come (came program input bodies fs hs cs) ≡ true
      → next program.types.items bodies (last program input bodies fs hs cs) ≡ halts halt → HaltsSomewhere halt program
  halts_in input cs halt comes p = run_in input cs (λ events s. Halts program s halt) comes (rw same p)

  -- It halts so after these events.
  pub halts_after_in : (input : List ℤ) (cs : List Choice) (seen : List Event) (halt : Halt) → has_come (came program input bodies fs hs cs) ≡ true
      → next program.types.items bodies (last program input bodies fs hs cs) ≡ halts halt
      → filter is_seen (events_of (came program input bodies fs hs cs)) ≡ seen → HaltsAfter seen halt program
  halts_after_in input cs seen halt comes p q = run_in input cs (λ events s. Halts program s halt × (filter is_seen events ≡ seen)) comes (rw same p, q)

-- Of programs whose bodies are computed from the program.
module _ (program : Program) (fs : StmtsForm) (hs : HandlersForm) (is : stmt_forms program ≡ fs) (has : handler_forms program ≡ hs) where
  abbrev whole : ProgramForm
  whole = form_with program (body_forms program) fs hs

  -- It is accepted, or refused for one thing alone.
  pub accepted_by : (normal raising : Option Holds) → is_fine whole ≡ true → is_kept whole ≡ true → flow_of (implicit_of whole) whole ≡ goes normal raising → IsChecked program
  accepted_by normal raising fine kept e = accepted_in program (body_forms program) fs hs refl is has normal raising fine kept e

  pub breaks_by : (rule : Rule) (spot : Spot) → is_fine whole ≡ true → is_kept whole ≡ true → flow_of (implicit_of whole) whole ≡ faults spot rule → Breaks rule program
  breaks_by rule spot fine kept e = breaks_in program (body_forms program) fs hs refl is has rule spot fine kept e

  pub ill_formed_by : (normal raising : Option Holds)
      → stmts_fit whole.types whole.variables whole.texts whole.exceptions (callable_in whole) false fs ≡ false → operations_are_in_use whole ≡ true
      → spares_types whole ≡ true → lets_none_out whole ≡ true → is_kept whole ≡ true → flow_of (implicit_of whole) whole ≡ goes normal raising
      → IsIllFormed program
  ill_formed_by normal raising unfit uses spares none kept e = record {
    ill_formed = λ w.
        let fits : stmts_fit whole.types whole.variables whole.texts whole.exceptions (callable_in whole) false fs ≡ true = rw is at (w.statements_fit) in
        cc (unfit, fits);
    in_use = subst (λ (p : ProgramForm). operations_are_in_use p ≡ true) (sym (form_is program (body_forms program) fs hs refl is has)) uses;
    nests = nested_in program (body_forms program) fs hs refl is has (and_parts _ _ kept).0;
    frees_own = own_in program (body_forms program) fs hs refl is has (and_parts _ _ kept).1;
    spares_own = spares_in program (body_forms program) fs hs refl is has spares;
    spares_newer = spares_newer_in program (body_forms program) fs hs refl is has spares;
    spares_adjusted = spares_adjusted_in program (body_forms program) fs hs refl is has spares;
    lets_nothing_out = lets_none_in program (body_forms program) fs hs refl is has none;
    obeys = (normal, raising, flow_in program (body_forms program) fs hs refl is has (goes normal raising) e);
  }

  pub ill_nested_by : (normal raising : Option Holds) → is_fine whole ≡ true → part_nests whole.types [] whole.declarations ≡ false
      → is_own whole ≡ true → flow_of (implicit_of whole) whole ≡ goes normal raising → IsIllNested program
  ill_nested_by normal raising fine unnested own e = record {
    well_formed = fine_in program (body_forms program) fs hs refl is has fine;
    in_use = in_use_in program (body_forms program) fs hs refl is has fine;
    ill_nested = λ w. cc (unnested, w.declarations);
    frees_own = own_in program (body_forms program) fs hs refl is has own;
    spares_own = spares_in program (body_forms program) fs hs refl is has (spares_is whole fine);
    spares_newer = spares_newer_in program (body_forms program) fs hs refl is has (spares_is whole fine);
    spares_adjusted = spares_adjusted_in program (body_forms program) fs hs refl is has (spares_is whole fine);
    lets_nothing_out = lets_none_in program (body_forms program) fs hs refl is has (lets_none_is whole fine);
    obeys = (normal, raising, flow_in program (body_forms program) fs hs refl is has (goes normal raising) e);
  }

  pub frees_others_by : (normal raising : Option Holds) → is_fine whole ≡ true → is_nested whole ≡ true
      → statements_free_own whole.types whole.variables fs ≡ false → flow_of (implicit_of whole) whole ≡ goes normal raising → FreesOthers program
  frees_others_by normal raising fine nested other e = record {
    well_formed = fine_in program (body_forms program) fs hs refl is has fine;
    in_use = in_use_in program (body_forms program) fs hs refl is has fine;
    nests = nested_in program (body_forms program) fs hs refl is has nested;
    frees_others = λ w.
        let own : statements_free_own whole.types whole.variables fs ≡ true = rw is at (w.statements) in
        cc (other, own);
    spares_own = spares_in program (body_forms program) fs hs refl is has (spares_is whole fine);
    spares_newer = spares_newer_in program (body_forms program) fs hs refl is has (spares_is whole fine);
    spares_adjusted = spares_adjusted_in program (body_forms program) fs hs refl is has (spares_is whole fine);
    lets_nothing_out = lets_none_in program (body_forms program) fs hs refl is has (lets_none_is whole fine);
    obeys = (normal, raising, flow_in program (body_forms program) fs hs refl is has (goes normal raising) e);
  }

  -- The same of its parts.
  pub fine_at_ends_by : (holds : Holds) (before within normal raising : Option Holds)
      → declarations_flow (types_of program) (variables_of program) no_tracks (implicit_with program (body_forms program) fs hs) (declaration_forms program) (first_holds [] (variables_of program)) ≡ goes (Some holds) before
      → stmts_flow (types_of program) (variables_of program) (around_with program (body_forms program) fs hs) fs holds ≡ goes (Some holds) within
      → handlers_flow (types_of program) (variables_of program) (around_with program (body_forms program) fs hs) hs holds ≡ goes normal raising → IsFineAtEnds holds program
  fine_at_ends_by holds before within normal raising d e g =
      fine_at_ends_in program (body_forms program) fs hs refl is has holds before within normal raising d e g

  -- A run by these choices.
  pub run_by : (input : List ℤ) (cs : List Choice) (P : List Event → State → Type 0) → has_come (came program input (body_forms program) fs hs cs) ≡ true
      → P (events_of (came program input (body_forms program) fs hs cs)) (last program input (body_forms program) fs hs cs) → InSomeRun program P
  run_by input cs P comes p = run_in program (body_forms program) fs hs refl is has input cs P comes p

  -- It halts so.
  pub halts_by : (input : List ℤ) (cs : List Choice) (halt : Halt) → has_come (came program input (body_forms program) fs hs cs) ≡ true
      → Halts program (last program input (body_forms program) fs hs cs) halt → HaltsSomewhere halt program
  halts_by input cs halt comes p = halts_in program (body_forms program) fs hs refl is has input cs halt comes p

  -- It halts so after these events.
  pub halts_after : (input : List ℤ) (cs : List Choice) (seen : List Event) (halt : Halt) → has_come (came program input (body_forms program) fs hs cs) ≡ true
      → Halts program (last program input (body_forms program) fs hs cs) halt
      → filter is_seen (events_of (came program input (body_forms program) fs hs cs)) ≡ seen → HaltsAfter seen halt program
  halts_after input cs seen halt comes p q = halts_after_in program (body_forms program) fs hs refl is has input cs seen halt comes p q
