-- Each step while the body of an Adjust runs that tracks components of its formal parameter (7.6), its end included, from facts of the program and the state
-- alone.

use Rattle.std.proofs.Common.{◌≡◌, ℕ, Bool, true, false, List, [], ◌∷◌, ◌++◌, refl, sym, ap, ◌∙◌, subst, drop, length}
use Rattle.std.proofs.lemmas.Bool.{and_parts}
use Rattle.std.specs.Prelude.{Option, Some}
use Rattle.std.specs.List.{list_all, slice_get}
use Rattle.ada_deeds.specs.Implicit.{implicit_of}
use Rattle.ada_flow.specs.Tracking.{Tracks}
use Rattle.ada_judged.proofs.FittingBodies.{tracked_fit_as_variables}
use Rattle.ada_judged.specs.Fitting.{TracksComponents}
use Rattle.ada_meaning.specs.declared.state.Stage.TheVariants.{Existing}
use Rattle.ada_meaning.specs.Frame.{Returns}
use Rattle.ada_meaning.specs.Event.{Quiet}
use Rattle.ada_meaning.specs.Named.{Object, State, Next, next, object_at}
use Rattle.ada_meaning.specs.State.{Activation, Master}
use Rattle.ada_meaning.specs.declared.state.Value.{Value}
use Rattle.ada_meaning.specs.Step.{halts, moves, tells, asks, picks, older, operands, places}
use Rattle.ada_program.specs.declared.program.Program.{Program}
use Rattle.ada_program.specs.Freed.{FreesItsOwn}
use Rattle.ada_program.specs.ProgramForm.{TypeForm, BodyForm, ProgramForm, body_forms, main_body, program_form, seen_by, seen_in, record_of}
use Rattle.ada_program.specs.WellFormed.{IsWellFormed}
use Rattle.ada_reaching.specs.Law.{FirstHousesIts}
use Rattle.ada_tracked.proofs.Law.{plainly_at_end}
use Rattle.ada_program.specs.declared.program.Exception.{Exception}
use Rattle.ada_flow.specs.Flow.{Holds}
use Rattle.ada_meaning.specs.declared.state.Mode.TheVariants.{Raising}
use Rattle.ada_tracked.specs.Copying.{CopiesNone, is_tracked_at}
use Rattle.ada_tracked.specs.Frames.{blanked, seen_control}
use Rattle.ada_tracked.specs.Seen.{AreApart, IsWatched, seen_state}
use Rattle.ada_typed.proofs.Bodies.{own_bodies, seen_as, seen_fits, tables_in}
use Rattle.ada_typed.proofs.Control as typed
use Rattle.ada_typed.proofs.Control.{OwnBody}
use Rattle.ada_typed.proofs.Evaluations as evaluated
use Rattle.ada_typed.proofs.Kept.{Behind, Each, behind_call}
use Rattle.ada_judged.specs.Obeying.{BodyIsOrderly}
use Rattle.ada_quiet.specs.Simple.{holds_one_value}
use Rattle.ada_quiet.specs.InUse.{is_copied_in_order, stand_in_a_row, adjusts_itself, may_track}
use Rattle.ada_sound.proofs.Allowance.{simple_allowance}
use Rattle.ada_sound.specs.Agreement.{running_procedure}
use Rattle.ada_sound.proofs.Adjusting.{Adjusting, waiting}
use Rattle.ada_sound.proofs.AdjustingCore.{judged_keeps}
use Rattle.ada_sound.proofs.AdjustingEnds.{EndsCopy, GetBack, adjusting_ends, gets_back, judged_of}
use Rattle.ada_sound.proofs.AdjustingKept.{IsJudged}
use Rattle.ada_sound.proofs.AdjustingSteps.{GoesAdjusting, IsOrderly, SparesOn, adjusting_step}
use Rattle.ada_sound.proofs.Blanked.{stored_unblanked}
use Rattle.ada_sound.proofs.Callers.{AreOf}
use Rattle.ada_sound.proofs.CopiedOwners.{CopiesWell}
use Rattle.ada_sound.proofs.FrugalControl.{Frugal, Frugally, frugal_ends, is_return_first}
use Rattle.ada_sound.proofs.HousesIts.{first_houses_its}
use Rattle.ada_sound.proofs.Invariant.{Control, GoesOn, Ready, ReadyIn, Rooms}
use Rattle.ada_sound.proofs.AdjustingSeen.{stands_for}
use Rattle.ada_sound.proofs.CopiedBare.{EachIsAccess, copies_none, next_bare, tracked_access, StoresBare, next_assigns_bare, next_stored}
use Rattle.ada_sound.proofs.Sparing.{Sparing, stays_sparing}
use Rattle.ada_sound.proofs.SparingLooks.{SoughtIsOther}
use Rattle.ada_sound.proofs.Stored.{Stored}
use Rattle.ada_sound.proofs.StoredStates.{IsStored, ready_stored}
use Rattle.ada_sound.proofs.Judged.{judged_in}
use Rattle.ada_sound.proofs.JudgedForms.{judged_covers, orderly_of_record, orderly_seen, orderly_simple, tracks_seen}
use Rattle.ada_sound.proofs.JudgedTyped.{judged_stays, judged_tables}
use Rattle.ada_sound.proofs.OnlyParts.{passed_at}
use Rattle.ada_sound.proofs.Returns.{CrossesTo, same_types}
use Rattle.ada_sound.proofs.TracksApart.{AreInARow, tracks_apart}
use Rattle.ada_sound.proofs.TracksWell.{copied_in_order, tracked_well}
use Rattle.ada_sound.proofs.Trackers.{calls_stand_apart, order_too, stands_apart}
use Rattle.ada_sound.proofs.WatchedBy.{watched_access, watched_by}

-- What a body frees as it is judged it frees by the instance for that (13.11.2).
pub judged_owns : (p : ProgramForm) → FreesItsOwn p → (number : ℕ) (b : BodyForm) (tracks : Tracks) → slice_get p.bodies number ≡ Some b → TracksComponents p.types tracks b.variables → BodyIsOrderly tracks b
    → OwnBody (judged_in tracks (seen_in (Some number) p))
judged_owns p frees number b tracks there components orderly =
    let own = seen_in (Some number) p in
    let parts = tracks_seen p number b tracks there components in
    let ordered = orderly_seen p number b tracks there orderly in
    let simple = orderly_simple tracks (main_body own) ordered in
    let of_record = orderly_of_record tracks (main_body own) ordered in
    let frees_so = own_bodies p frees (Some number) in
    let fit = ((tracked_fit_as_variables own.types tracks).0 own.variables parts).1 in (
      (fit.6 own.statements simple.1 of_record.1).frees_own ∙ frees_so.0,
      (fit.8 own.handlers simple.2 of_record.2).frees_own ∙ frees_so.1,
    )

-- What comes next is typed, if the run does not end.
each_comes : (q : ProgramForm) (n : Next) → evaluated.Fine q n → Each (typed.TypedIn q) n
each_comes q (halts halt) fine = tt
each_comes q (moves e after) fine = fine
each_comes q (tells request e after) fine = fine
each_comes q (asks request answers) fine = fine
each_comes q (picks n taking) fine = fine

-- What is taken of the body of a procedure that tracks components holds, where the program is well formed and frees by its instances.
pub is_judged :
    (program : Program) → IsWellFormed (program_form program) → may_track (program_form program) ≡ true → FreesItsOwn (program_form program)
    → (number : ℕ) (b : BodyForm) (tracks : Tracks) → slice_get (program_form program).bodies number ≡ Some b → TracksComponents (program_form program).types tracks b.variables → BodyIsOrderly tracks b
    → IsJudged program number tracks
is_judged program well may frees number b tracks there components orderly =
    let p = program_form program in
    let own = seen_in (Some number) p in
    record {
      fits = judged_tables p well number b there tracks components;
      covered = λ t covers. judged_covers own tracks (tracks_seen p number b tracks there components) (orderly_seen p number b tracks there orderly) (implicit_of p) t covers;
      apart = (calls_stand_apart p (stands_apart p may)).1;
      stays = λ t typing alone crossing ending.
          each_comes (judged_in tracks own) (next program.types.items (body_forms program) t)
          (judged_stays p well number b there tracks components program.types.items refl t crossing ending typing);
      owns = judged_owns p frees number b tracks there components orderly;
      keeps = λ gs.
          judged_keeps program number tracks gs (subst CopiesWell (sym (same_types (Some number) p)) (tracked_well program well (order_too p may)))
          (judged_owns p frees number b tracks there components orderly);
    }

-- Where components may be tracked, the elementary components of each record type stand one behind another.
pub in_a_row : (p : ProgramForm) → IsWellFormed p → may_track p ≡ true → AreInARow p.types
in_a_row p well may r name ps components finalization at =
    let ordered = passed_at (is_copied_in_order p.types) p.types r (record_of name ps components finalization) (copied_in_order p well (order_too p may)).copied_in_order at in
    (and_parts (stand_in_a_row p.types 0 ps (length components)) (adjusts_itself ps finalization) ordered).0

-- The object in which the components lie, in a typed heap.
module _
    (program : Program) (well : IsWellFormed (program_form program)) (may : may_track (program_form program) ≡ true) (s : State) (f : Adjusting program s)
    (heap : List Object) (typing : typed.Typed (program_form program) (record s { heap = heap })) (x : Object) (found : object_at heap f.object ≡ Some x)
    (of_access : x.cell.access ≡ f.access) where
  abbrev p : ProgramForm
  p = program_form program

  abbrev own : ProgramForm
  own = seen_in (Some f.number) p

  -- The body runs in a typed state.
  pub inside : typed.TypedIn own (record s { heap = heap })
  inside = subst (λ (procedure : Option ℕ). typed.TypedIn (seen_in procedure p) (record s { heap = heap })) f.runs typing.inside

  -- The object is watched, where it exists.
  pub is_watched : x.stage ≡ Existing → IsWatched f.w (places s) heap
  is_watched exists =
      let here = sym (seen_as p f.number f.b f.there) in
      watched_by own (tables_in own (seen_fits p well (Some f.number))) f.w (tracks_seen p f.number f.b f.w.tracks f.there f.components) (record s { heap = heap }) f.place x inside
      (rw f.object_so f.formal) f.based (subst (λ (q : ProgramForm). length (places s) ≡ length q.variables) here f.count)
      (rw f.object_so found) exists
      (subst (λ (tracks : Tracks). AreApart tracks.components) f.tracks_so (tracks_apart p.types (in_a_row p well may) f.number f.b))

  -- The next step copies none of the components of the object that are of access types, and stores none with a record.
  pub copies_no_access :
      (these : (component : ℕ) → Bool) → EachIsAccess p.types x.cell.access these → Sparing program f.w.object f.access f.behind f.lower (record s { heap = heap })
      → CopiesNone program.types.items f.w.object these (record s { heap = heap })
  copies_no_access these each sparing =
      let same : own.types ≡ p.types = same_types (Some f.number) p in
      copies_none program.types.items own (sym same) (record s { heap = heap }) f.w.object x (rw f.object_so found) these
      (subst (λ (types : List TypeForm). EachIsAccess types x.cell.access these) (sym same) each) inside
      (subst (λ (types : List TypeForm). SoughtIsOther types f.w.object s.mode s.control (operands s)) (sym same) sparing.sought)
      (next_assigns_bare program s f)
      (subst (λ (types : List TypeForm). StoresBare types f.w.object x.cell.access s.mode s.control) (sym same)
      (subst (λ (access : ℕ). StoresBare p.types f.w.object access s.mode s.control) (sym of_access) (next_stored program s f)))

  -- Nor does it copy, or store so, a component that is tracked.
  pub copies_no_tracked :
      Sparing program f.w.object f.access f.behind f.lower (record s { heap = heap })
      → CopiesNone program.types.items f.w.object (is_tracked_at f.w) (record s { heap = heap })
  copies_no_tracked sparing =
      let there =
      watched_access own f.w (tracks_seen p f.number f.b f.w.tracks f.there f.components) (record s { heap = heap }) f.place x inside (rw f.object_so f.formal) f.based
      (rw f.object_so found) in
      copies_no_access (is_tracked_at f.w)
      (subst (λ (types : List TypeForm). EachIsAccess types x.cell.access (is_tracked_at f.w)) (same_types (Some f.number) p)
      (tracked_access own.types f.w x.cell.access there.0 there.1 there.2)) sparing

  -- What the running body sees: it is that of the Adjust.
  runs_here : seen_in (running_procedure s) p ≡ seen_by f.number f.b p
  runs_here = ap (λ (procedure : Option ℕ). seen_in procedure p) f.runs ∙ seen_as p f.number f.b f.there

  -- It looks at the object by its formal parameter alone, and does so behind the next step, unless that ends it.
  pub spares_on :
      is_return_first s.control ≡ false → FirstHousesIts s.control heap s.masters → Sparing program f.w.object f.access f.behind f.lower (record s { heap = heap })
      → SparesOn program f.w f.access f.behind f.lower (record s { heap = heap })
  spares_on inner houses sparing =
      subst (λ (access : ℕ). SparesOn program f.w access f.behind f.lower (record s { heap = heap })) of_access
      (stays_sparing program well (record s { heap = heap }) typing
      (subst (λ (q : ProgramForm). list_all (λ y. holds_one_value y.kind) (drop 1 q.variables) ≡ true) (sym runs_here) f.lone) f.w x (rw f.object_so found) f.simple inner
      houses (next_bare program s f) f.behind f.lower
      (subst (λ (access : ℕ). Sparing program f.w.object access f.behind f.lower (record s { heap = heap })) (sym of_access) sparing))

some_same : {x y : Behind} → Some x ≡ Some y → x ≡ y
some_same e = cc e

-- Where the end of a body is next, it is that of the Adjust.
pub own_end : (behind : Control) (k : Control) → behind_call k ≡ Some (record { actuals = []; references = []; left = behind }) → is_return_first k ≡ true → k ≡ Returns [] [] ∷ behind
own_end behind [] ends first = absurd (cc first)
own_end behind (Returns actuals references ∷ k) ends first = ap (λ (b : Behind). Returns b.actuals b.references ∷ b.left) (some_same ends)
own_end behind (g ∷ k) ends first = absurd (cc first)

-- What waits awaits it, and its masters have been left.
module _ (program : Program) (s : State) (f : Adjusting program s) (ends_now : s.control ≡ Returns [] [] ∷ f.behind) where
  stands_so : f.t ≡ seen_state f.w s
  stands_so = plainly_at_end program.types.items (program_form program).bodies f.w s f.t [] [] f.behind f.seen ends_now

  frugal_now : Frugally (simple_allowance (program_form program).types) f.lower f.behind [] (seen_state f.w s)
  frugal_now = subst (Frugally (simple_allowance (program_form program).types) f.lower f.behind []) stands_so f.frugal

  pub lower_left : s.masters ≡ f.lower
  lower_left =
      let last : Frugal (simple_allowance (program_form program).types) f.behind [] s.mode (Returns [] [] ∷ f.behind) frugal_now.upper = subst (λ (k : Control). Frugal (simple_allowance (program_form program).types) f.behind [] s.mode (seen_control f.w k) frugal_now.upper) ends_now frugal_now.frugally in
      let end = frugal_ends (simple_allowance (program_form program).types) f.behind [] s.mode [] [] f.behind frugal_now.upper refl last in
      frugal_now.masters ∙ ap (λ (upper : List Master). upper ++ f.lower) end.2

-- The activation that waits is the next one.
record TwoActive (acts : List (Activation Value)) : Type 0 where
  a : Activation Value
  b : Activation Value
  rest : List (Activation Value)
  is : acts ≡ a ∷ b ∷ rest

two_active : (program : Program) (s : State) (f : Adjusting program s) (acts : List (Activation Value)) → AreOf program (older acts) (waiting program s f ∷ f.suspensions) → TwoActive acts
two_active program s f [] of = absurd of
two_active program s f (a ∷ []) of = absurd of
two_active program s f (a ∷ b ∷ rest) of = record { a = a; b = b; rest = rest; is = refl }

-- No exception comes out of the body.
pub none_comes_out : (program : Program) (s : State) (f : Adjusting program s) (e : Exception) → s.mode ≡ Raising e → is_return_first s.control ≡ true → ⊥
none_comes_out program s f e raises first =
    let ends_now = own_end f.behind s.control f.ends first in
    let t = seen_state f.w s in
    let there : Ready (judged_of program s f) t = subst (Ready (judged_of program s f)) (stands_so program s f ends_now) f.ready in
    let now : ReadyIn (judged_of program s f) (Raising e) (Returns [] [] ∷ f.behind) t.heap (places t) (operands t) t.masters = rw (raises, ends_now) at there.1 in
    by now.rooms now.holds now.rest
  where
    by : (rooms : Rooms) (holds : Holds) → GoesOn (judged_of program s f) (Raising e) (Returns [] [] ∷ f.behind) rooms holds → ⊥
    by [] holds is = f.silent e is.0
    by (gone ∷ rooms) holds is = is

-- Objects are stored as they are in the state that stands for it.
pub adjusting_stored : (program : Program) (s : State) → Adjusting program s → IsStored s.heap s.masters
adjusting_stored program s f =
    let of_t = stands_for program.types.items (body_forms program) f.w s f.t f.seen in
    let stored = ready_stored (judged_of program s f) f.t f.ready in
    let there : Stored stored.0 (blanked f.w s.heap) s.masters =
    subst (λ (ms : List Master). Stored stored.0 (blanked f.w s.heap) ms) of_t.masters (subst (λ (heap : List Object). Stored stored.0 heap f.t.masters) of_t.heap stored.1) in
    (stored.0, stored_unblanked f.w s.heap there)

-- Each step of the body but its end.
pub adjusting_goes :
    (program : Program) → IsWellFormed (program_form program) → may_track (program_form program) ≡ true → FreesItsOwn (program_form program)
    → (s : State) → IsOrderly program s → typed.Typed (program_form program) s → (f : Adjusting program s) → f.x.stage ≡ Existing → is_return_first s.control ≡ false
    → GoesAdjusting program s f (next program.types.items (body_forms program) s)
adjusting_goes program well may frees s orderly typing f exists inner =
    let stored = adjusting_stored program s f in
    adjusting_step program well s orderly f (is_judged program well may frees f.number f.b f.w.tracks f.there f.components f.orderly)
    (is_watched program well may s f s.heap typing f.x f.found f.of_access exists)
    (spares_on program well may s f s.heap typing f.x f.found f.of_access inner (first_houses_its s.control s.heap s.masters stored.1) f.sparing)
    (copies_no_tracked program well may s f s.heap typing f.x f.found f.of_access f.sparing) inner

-- Its end, where what is called later for the copy sees to components that hold null here.
pub adjusting_returns :
    (program : Program) → IsWellFormed (program_form program) → may_track (program_form program) ≡ true → (s : State) → typed.Typed (program_form program) s
    → (f : Adjusting program s) → f.x.stage ≡ Existing → is_return_first s.control ≡ true → (heap : List Object) → EndsCopy program s f heap
    → (after : State) × (next program.types.items (body_forms program) (record s { heap = heap }) ≡ moves Quiet after) × CrossesTo program f.suspensions heap Quiet after × (after.control ≡ f.behind)
adjusting_returns program well may s typing f exists first heap copied =
    let ends_now = own_end f.behind s.control f.ends first in
    let two = two_active program s f s.activations f.bodies in
    let watched = is_watched program well may s f s.heap typing f.x f.found f.of_access exists in
    let back : GetBack program s f = gets_back program s f watched f.components (inside program well may s f s.heap typing f.x f.found f.of_access) in
    adjusting_ends program s f two.a two.b two.rest two.is ends_now (lower_left program s f ends_now) back heap copied
