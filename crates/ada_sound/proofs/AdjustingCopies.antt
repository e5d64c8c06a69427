-- Each step while the body of an Adjust runs that tracks components of its formal parameter (7.6), where other parts of the copy are adjusted later: the components
-- that these see to are put aside meanwhile. The body touches none of them, so the real state takes the step of the one in which they hold null.

use Rattle.std.proofs.Common.{◌≡◌, ◌≢◌, ◌||◌, ◌==◌, ◌+◌, ℕ, zero, suc, Bool, true, false, List, [], ◌∷◌, Option, Some, refl, sym, ap, ◌∙◌, ◌⊎◌, inl, inr, subst, arith}
use Rattle.std.proofs.lemmas.Bool.{eq-eqb, eqb-true, false_from_ne_true, true≢false}
use Rattle.std.specs.List.{Contains, slice_get}
use Rattle.ada_deeds.specs.Implicit.{implicit_of}
use Rattle.ada_beside.specs.Confined.{IsConfined}
use Rattle.ada_beside.specs.Law.{AllGoOn, GoesOn, IsWithin, LieBeside, hidden_beside, no_ghosts}
use Rattle.ada_beside.proofs.Law.{stays_within}
use Rattle.ada_beside.proofs.Touched.{unwritten}
use Rattle.ada_finalized.proofs.Doings.{Of, doings}
use Rattle.ada_finalized.proofs.Invariant as finalized
use Rattle.ada_finalized.proofs.Runs.{last_holds}
use Rattle.ada_finalized.proofs.Standing.{listed_stand}
use Rattle.ada_finalized.proofs.Treated.{cons_cases, none_in}
use Rattle.ada_finalized.specs.Law.{NothingBegins}
use Rattle.ada_meaning.specs.declared.state.Id.{Id}
use Rattle.ada_meaning.specs.declared.state.Mode.{Mode}
use Rattle.ada_meaning.specs.declared.state.Mode.TheVariants.{Raising}
use Rattle.ada_meaning.specs.declared.state.Stage.TheVariants.{Existing}
use Rattle.ada_meaning.specs.declared.state.Value.{Value}
use Rattle.ada_meaning.specs.declared.state.Value.TheVariants.{Names, Null}
use Rattle.ada_meaning.specs.Event.{Quiet}
use Rattle.ada_meaning.specs.Frame as frame
use Rattle.ada_meaning.specs.Frame.{Leaves, Returns}
use Rattle.ada_meaning.specs.Named.{Object, State, Next, next, object_at}
use Rattle.ada_meaning.specs.Records.{component_in}
use Rattle.ada_meaning.specs.Run.{Choice, Event, Leads, grants, settled}
use Rattle.ada_meaning.specs.State.{Master}
use Rattle.ada_meaning.specs.Step.{halts, moves, tells, asks, picks, places}
use Rattle.ada_owners.specs.Places.{is_there}
use Rattle.ada_parts.proofs.Facts.{eq_self}
use Rattle.ada_program.specs.declared.program.ComponentKind.{ComponentKind}
use Rattle.ada_program.specs.declared.program.ComponentKind.TheVariants as component
use Rattle.ada_program.specs.declared.program.Exception.{Exception}
use Rattle.ada_program.specs.declared.program.Program.{Program}
use Rattle.ada_program.specs.declared.program.TypeDefinition.{TypeDefinition}
use Rattle.ada_program.specs.declared.program.TypeNo.{TypeNo}
use Rattle.ada_program.specs.declared.program.VariableKind.TheVariants as variable
use Rattle.ada_program.specs.Freed.{FreesItsOwn}
use Rattle.ada_program.specs.ProgramForm.{TypeForm, BodyForm, body_forms, program_form, seen_in}
use Rattle.ada_program.specs.WellFormed.{IsWellFormed, kind_among, object_named, reached_components, record_components}
use Rattle.ada_quiet.specs.Bare.{has_bare_objects}
use Rattle.ada_quiet.specs.InUse.{count_found, may_track}
use Rattle.ada_reaching.specs.Law as reaching
use Rattle.ada_scopes.proofs.Components.{collect_two, items_fit}
use Rattle.ada_scopes.proofs.Runs.{Scoped}
use Rattle.ada_sound.specs.Agreement.{running_procedure}
use Rattle.ada_tracked.specs.Copying.{CopiesNone}
use Rattle.ada_tracked.specs.Frames.{View, blank_object, shifted, values_at}
use Rattle.ada_tracked.specs.Law.{InnermostHousesNone}
use Rattle.ada_tracked.specs.Seen.{IsWatched}
use Rattle.ada_tracked.specs.Staying.{BodyIsSimple}
use Rattle.ada_typed.proofs.Control as typed
use Rattle.ada_typed.proofs.Kept.{Behind, behind_call}
use Rattle.ada_untouched.proofs.KeptByLaw.{hidden_stays}
use Rattle.ada_untouched.proofs.Law.{steps_alike}
use Rattle.ada_untouched.specs.Alike.{NextAlike, StatesAlike}
use Rattle.ada_untouched.specs.Untouched.{Untouched}
use Rattle.ada_untouched.specs.Unwritten.{Unwritten}
use Rattle.ada_sound.proofs.Adjusting.{Adjusting, AdjustingCopy, IsAside, LeavesAlone, LeftAlone, Shunned, is_one_of, is_this, put_aside, same_sparing}
use Rattle.ada_sound.proofs.AdjustingEnds.{ComponentsAreThere, EndsCopy}
use Rattle.ada_sound.proofs.AdjustingEnters.{filled_in_program}
use Rattle.ada_sound.proofs.CopiedBare.{EachIsAccess, one_contained}
use Rattle.ada_typed.specs.Holding.{Cells, HaveKinds, IsBoolean, IsInteger, PartsLie, cells_of}
use Rattle.ada_typed.proofs.Evaluations.{cell_at}
use Rattle.ada_typed.proofs.Values.{filled_at}
use Rattle.ada_sound.proofs.AdjustingGoes.{adjusting_goes, adjusting_returns, adjusting_stored, copies_no_access, is_watched, none_comes_out, spares_on}
use Rattle.ada_sound.proofs.AdjustingSeen.{simple_begins}
use Rattle.ada_sound.proofs.AdjustingSteps.{GoesAdjusting, InAdjusting, IsOrderly, SparesOn, houses_none}
use Rattle.ada_sound.proofs.Blanked.{alters_unblanked, blanked_at, ends_unblanked, out_blanked, says_unblanked, stored_unblanked, unblanked}
use Rattle.ada_sound.proofs.CopiedOwners.{AreCopied, CopyLeft, LiesOutside, NameThere, hiding, owners_left}
use Rattle.ada_sound.proofs.CopiedNames.{names_by}
use Rattle.ada_sound.proofs.Alters.{Alters}
use Rattle.ada_sound.proofs.Trackers.{order_too}
use Rattle.ada_sound.proofs.TracksWell.{copied_in_order}
use Rattle.ada_sound.proofs.Finalization.{parts_alive}
use Rattle.ada_sound.proofs.FrugalControl.{is_return_first}
use Rattle.ada_sound.proofs.HousesIts.{first_houses_its}
use Rattle.ada_sound.proofs.WordsOut.{words_out}
use Rattle.ada_sound.proofs.Invariant.{Control, EndsWell}
use Rattle.ada_sound.proofs.NoneHidden.{blanked_none}
use Rattle.ada_sound.proofs.Operating.{InBody, StepsTo}
use Rattle.ada_sound.proofs.PartsApart.{left_of_access}
use Rattle.ada_sound.proofs.PutAside.{aside_here, hides_these, one_is_null, state_aside, state_is_aside, unwritten_aside}
use Rattle.ada_sound.proofs.Returns.{CrossesTo, same_types}
use Rattle.ada_sound.proofs.Sparing.{Sparing, are_bare, bare_apart, is_around}
use Rattle.ada_reaching.proofs.Law.{stays_reaching}
use Rattle.ada_sound.proofs.Starts.{IsReached}
use Rattle.ada_sound.proofs.StoredStates.{IsStored}
use Rattle.ada_sound.proofs.TypedAside.{typed_aside}

some_value : {v w : Value} → Some v ≡ Some w → v ≡ w
some_value e = cc e

-- A component that holds a name is of an access type (3.10).
named_access :
    (types : List TypeForm) (cells : Cells) (ks : List ComponentKind) (vs : List Value) → HaveKinds types cells ks vs → (c : ℕ) (q : Id)
    → slice_get vs c ≡ Some (Names q) → (own : TypeNo) × (kind_among (Some ks) c ≡ Some (variable.Access own))
named_access types cells [] [] have c q is = absurd (cc is)
named_access types cells [] (v ∷ vs) have c q is = absurd have
named_access types cells (k ∷ ks) [] have c q is = absurd have
named_access types cells (component.Integer initial ∷ ks) (v ∷ vs) have zero q is = absurd (subst IsInteger (some_value is) have.0)
named_access types cells (component.Boolean initial ∷ ks) (v ∷ vs) have zero q is = absurd (subst IsBoolean (some_value is) have.0)
named_access types cells (component.Access own ∷ ks) (v ∷ vs) have zero q is = (own, refl)
named_access types cells (k ∷ ks) (v ∷ vs) have (suc c) q is = named_access types cells ks vs have.1 c q is

-- This one alone is.
abbrev is_alone : ℕ → (component : ℕ) → Bool
is_alone m c = m == c

alone_is :
    (types : List TypeForm) (access m : ℕ) → (own : TypeNo) × (kind_among (reached_components types access) m ≡ Some (variable.Access own))
    → EachIsAccess types access (is_alone m)
alone_is types access m of_access c is =
    subst (λ (n : ℕ). (own : TypeNo) × (kind_among (reached_components types access) n ≡ Some (variable.Access own))) (eqb-true m c is) of_access

-- What is treated behind the end of the running body is there.
there_behind : (heap : List Object) (behind k : Control) → behind_call k ≡ Some (record { actuals = []; references = []; left = behind }) → Of (finalized.IsThere heap) (doings k) → Of (finalized.IsThere heap) (doings behind)
there_behind heap behind [] ends there = absurd (cc ends)
there_behind heap behind (frame.Treats v treatment tasks ∷ k) ends there = there_behind heap behind k ends there.1
there_behind heap behind (frame.Awaits v by done of part tasks ∷ k) ends there = there_behind heap behind k ends there.1
there_behind heap behind (frame.Ends v ∷ k) ends there = there_behind heap behind k ends there.1
there_behind heap behind (Returns actuals references ∷ k) ends there = subst (λ (b : Behind). Of (finalized.IsThere heap) (doings b.left)) (some_same ends) there
  where
    some_same : {x y : Behind} → Some x ≡ Some y → x ≡ y
    some_same e = cc e
there_behind heap behind (g ∷ k) ends there = there_behind heap behind k ends there

-- What is known of a state that a run reaches, of the one in which components of an object are put aside.
module _ (program : Program) (well : IsWellFormed (program_form program)) (s : State) (reached : IsReached program s) (owners : List ℕ) (o : Id) (f : Adjusting program (put_aside owners o s)) where
  -- The object exists whose Adjust runs.
  pub adjusted_exists : f.x.stage ≡ Existing
  adjusted_exists =
      let all = (last_holds program reached.0 reached.1 s reached.2).fits.inv.there in
      let behind = there_behind s.heap f.behind s.control f.ends all in
      let now = subst (λ (k : Control). Of (finalized.IsThere s.heap) (doings k)) f.awaited.1 behind in
      let (p, (is, (x, (at, stage)))) = now.0 in
      let one : f.object.0 ≡ p = same_number f.object p is in
      let there : object_at s.heap f.object ≡ Some x = subst (λ (i : ℕ). slice_get s.heap i ≡ Some x) (sym one) at in
      let blank = blanked_at (hiding owners o) s.heap f.object x there in
      let same : blank.object ≡ f.x = same_object (sym blank.found ∙ f.found) in
      subst (λ (y : Object). y.stage ≡ Existing) same (blank.alike.stage ∙ stage)
    where
      same_id : {i j : Id} → Names i ≡ Names j → i ≡ j
      same_id e = cc e

      same_number : (i : Id) (p : ℕ) → Names i ≡ Names (record { 0 = p }) → i.0 ≡ p
      same_number i p e = ap (λ (j : Id). j.0) (same_id e)

      same_object : {x y : Object} → Some x ≡ Some y → x ≡ y
      same_object e = cc e

  -- In the real state, nothing begins of another object.
  begins_nothing : (v : Value) → (v ≢ Names f.object) → NothingBegins v s.control
  begins_nothing v ne =
      let behind : NothingBegins v f.behind = subst (NothingBegins v) (sym f.awaited.1) ((λ same. ne (sym same)), f.untreated v ne) in
      simple_begins f.w.tracks.first v s.control f.behind f.simple f.ends behind

  -- The object that is adjusted has controlled parts.
  other_object : (p : Id) (x : Object) → object_at (put_aside owners o s).heap p ≡ Some x → has_bare_objects (program_form program).types x.cell.access ≡ true → Names p ≡ Names f.object → ⊥
  other_object p x found of same =
      let one : p ≡ f.object = cc same in
      let x_is : x ≡ f.x = let here = f.found in let there = found in cc (one, here, there) in
      let waits = f.waits.parted in
      let parted : has_bare_objects (program_form program).types f.access ≡ false = rw (same_types f.procedure (program_form program)) at waits in
      let bare : has_bare_objects (program_form program).types f.access ≡ true = rw (x_is, f.of_access) at of in
      cc (parted, bare)

  pub orderly_aside : Scoped (program_form program) s → IsOrderly program (put_aside owners o s)
  orderly_aside nested = record {
    stand = λ p y found listed access bare. (
        let x = unblanked (hiding owners o) s.heap p y found in
        rw (sym x.alike.parts)
        (parts_alive program well s reached p x.object x.found
        (listed_stand program reached.0 reached.1 s reached.2 p x.object x.found (x.alike.listed ∙ listed) (begins_nothing (Names p) (other_object p y found bare)))));
    whole = out_blanked (hiding owners o) s.heap (words_out program s reached);
    two = collect_two (program_form program) s nested;
    fit = items_fit (program_form program) s nested;
  }

-- The end of the body is not next, a simple body treats nothing, and a master that is left houses none.
within_now :
    (first : ℕ) (k : Control) (ms : List Master) → is_return_first k ≡ false → BodyIsSimple first k
    → ((left : Mode) (j : Control) → k ≡ Leaves left ∷ j → InnermostHousesNone ms) → IsWithin k ms
within_now first [] ms inner simple houses = tt
within_now first (Returns actuals references ∷ k) ms inner simple houses = absurd (cc inner)
within_now first (frame.Treats v treatment tasks ∷ k) ms inner simple houses = absurd simple.0
within_now first (Leaves left ∷ k) ms inner simple houses = (refl, tt, houses left k refl)
within_now first (f ∷ k) ms inner simple houses = (refl, tt, tt)

-- Objects that are found in one place are one.
some_same : {x y : Object} → Some x ≡ Some y → x ≡ y
some_same e = cc e

-- What holds of each state holds whatever comes next, and what follows from what holds then.
all_on : (P : State → Type 0) → ((t : State) → P t) → (n : Next) → reaching.AllGoOn P n
all_on P each (halts halt) = tt
all_on P each (moves e t) = each t
all_on P each (tells request e t) = each t
all_on P each (asks request answered) = λ granted. each (answered granted)
all_on P each (picks n taken) = λ i less. each (taken i)

all_map : (P Q : State → Type 0) → ((t : State) → P t → Q t) → (n : Next) → reaching.AllGoOn P n → reaching.AllGoOn Q n
all_map P Q follows (halts halt) on = tt
all_map P Q follows (moves e t) on = follows t on
all_map P Q follows (tells request e t) on = follows t on
all_map P Q follows (asks request answered) on = λ granted. follows (answered granted) (on granted)
all_map P Q follows (picks n taken) on = λ i less. follows (taken i) (on i less)

-- A component that a list has is one of it.
one_has : (owners : List ℕ) (c : ℕ) → Contains owners c → is_one_of owners c ≡ true
one_has [] c has = none_in c has
one_has (d ∷ ds) c has = elim (cons_cases d c ds has) [ inl same ↦ first (eq-eqb d c same) | inr more ↦ second (d == c) (one_has ds c more) ]
  where
    first : (d == c) ≡ true → ((d == c) || is_one_of ds c) ≡ true
    first is = rw is refl

    second : (b : Bool) → is_one_of ds c ≡ true → (b || is_one_of ds c) ≡ true
    second true is = refl
    second false is = is

-- So it is whatever comes next where that follows.
steps_so : (P Q : Event → State → Type 0) → ((e : Event) (after : State) → P e after → Q e after) → (s : State) (n : Next) → StepsTo P s n → StepsTo Q s n
steps_so P Q follows s (halts halt) goes = goes
steps_so P Q follows s (moves e after) goes = follows e after goes
steps_so P Q follows s (tells request e after) goes = follows e after goes
steps_so P Q follows s (asks request answered) goes = λ granted. follows Quiet (answered granted) (goes granted)
steps_so P Q follows s (picks n taken) goes = goes

-- The body runs behind a step, for a copy of which other parts are adjusted later; and what that does to objects.
abbrev pub InCopy : Program → List Object → Event → State → Type 0
InCopy program before e after = InBody program (AdjustingCopy program) before e after

module _ (program : Program) (s : State) (d : AdjustingCopy program s) where
  abbrev tds : List TypeDefinition
  tds = program.types.items

  abbrev bodies : List BodyForm
  bodies = body_forms program

  abbrev f : Adjusting program (put_aside d.owners d.object s)
  f = d.adjusting

  abbrev aside : State → State
  aside t = put_aside d.owners d.object t

  -- The object is that in which the components lie that the body tracks.
  view_object : f.w.object ≡ d.object
  view_object = f.object_so ∙ d.same

  -- Objects are stored as they are there.
  pub copy_stored : IsStored s.heap s.masters
  copy_stored = let there = adjusting_stored program (aside s) f in (there.0, stored_unblanked (hiding d.owners d.object) s.heap there.1)

  -- What the body leaves of the components that are put aside; and how it looks at the object.
  abbrev Spares : State → Type 0
  Spares after =
      ((y : Object) → object_at after.heap d.object ≡ Some y
      → LeavesAlone program f.w d.object f.record_type d.left.0.first d.owners y.cell.values f.behind f.lower after)
      × Sparing program f.w.object f.access f.behind f.lower after

  -- The body runs on, in the state where they are put aside and in the real one.
  copied_so : (e : Event) (after : State) → InAdjusting program (aside s) f e (aside after) → Spares after → InCopy program s.heap e after
  copied_so e after run spares =
      let hides = hiding d.owners d.object in
      let g = run.0.body in
      let a = alters_unblanked hides s.heap after.heap e run.0.alters in
      let y = a.kept d.object d.x d.found in
      record {
        body = record {
          object = d.object;
          owners = d.owners;
          adjusting = g;
          same = run.1.object ∙ d.same;
          owned = rw (run.1.access, run.1.tasks) d.owned;
          x = y.0;
          found = y.1;
          left = rw (run.1.access, run.1.record_type, run.1.tasks, run.1.view, run.1.behind, run.1.lower) (left_so y.0 y.1);
          sparing = rw (run.1.view, run.1.access, run.1.behind, run.1.lower) spares.1;
        };
        alters = a;
        says = says_unblanked (implicit_of (program_form program)) (seen_in (running_procedure after) (program_form program)) hides s.heap e (aside after) after refl run.0.says;
      }
    where
      left_so : (y : Object) → object_at after.heap d.object ≡ Some y
          → LeftAlone program f.access f.record_type f.tasks f.w d.object d.owners y.cell.values f.behind f.lower after
      left_so y at = (d.left.0, spares.0 y at)

  -- Where none is put aside, the two states are the same.
  module _ (none : d.owners ≡ []) where
    nothing_aside : (t : State) → aside t ≡ t
    nothing_aside t = rw none (ap (λ (heap : List Object). record t { heap = heap }) (blanked_none d.object t.heap))

    -- So the body looks at the object in the one as in the other.
    none_spares : (e : Event) (after : State) → InAdjusting program (aside s) f e after → Sparing program f.w.object f.access f.behind f.lower after
    none_spares e after run =
        let g = run.0.body in
        same_sparing program g.w.object g.access g.behind g.lower f.w.object f.access f.behind f.lower (sym (ap (λ (w : View). w.object) run.1.view)) (sym run.1.access)
        (sym run.1.behind) (sym run.1.lower) after g.sparing

    none_on : GoesAdjusting program (aside s) f (next tds bodies (aside s)) → StepsTo (InCopy program s.heap) s (next tds bodies s)
    none_on goes =
        steps_so (InAdjusting program (aside s) f) (InCopy program s.heap)
        (λ e after run. copied_so e after (subst (InAdjusting program (aside s) f e) (sym (nothing_aside after)) run) ((λ y at. inl none), none_spares e after run)) s
        (next tds bodies s)
        (subst (λ (t : State). StepsTo (InAdjusting program (aside s) f) t (next tds bodies t)) (nothing_aside s) goes)

  -- The original stays as it is.
  abbrev pub OriginalStays : (w : View) (r to : ℕ) (a : IsAside program w d.object r to d.owners d.x.cell.values f.behind f.lower s) → State → Type 0
  OriginalStays w r to a after =
      (a.copied.source ≡ d.object)
      ⊎ ((a.copied.source ≢ d.object) × (object_at after.heap a.copied.source ≡ object_at s.heap a.copied.source)
      × Shunned program a.copied.source f.behind f.lower after)

  -- Where some are, the body touches none of them.
  module _ (a : IsAside program f.w d.object f.record_type d.left.0.first d.owners d.x.cell.values f.behind f.lower s) (watched : IsWatched f.w (places s) s.heap) (spares : SparesOn program f.w f.access f.behind f.lower s) (copies : CopiesNone tds f.w.object (is_one_of d.owners) s) (bare : (these : (component : ℕ) → Bool) → EachIsAccess (program_form program).types d.x.cell.access these → CopiesNone tds f.w.object these s) (names : (c : ℕ) (q : Id) → slice_get d.x.cell.values c ≡ Some (Names q) → (own : TypeNo) × (kind_among (reached_components (program_form program).types d.x.cell.access) c ≡ Some (variable.Access own))) (original : reaching.AllGoOn (OriginalStays f.w f.record_type d.left.0.first a) (next tds bodies s)) (inner : is_return_first s.control ≡ false) where
    abbrev reaches : ℕ → Bool
    reaches = a.reaches

    abbrev beside : LieBeside f.w reaches (is_one_of d.owners)
    beside = a.beside

    abbrev confined : IsConfined f.w reaches s
    confined = a.confined

    abbrev hidden : Id → (component : ℕ) → Bool
    hidden = hidden_beside f.w (is_one_of d.owners)

    stays : Untouched tds hidden no_ghosts s × Unwritten hidden s × AllGoOn f.w reaches s.heap (next tds bodies s)
    stays =
        stays_within tds bodies f.w reaches (is_one_of d.owners) s beside watched spares.0 copies
        (within_now f.w.tracks.first s.control s.masters inner f.simple (λ left k at. houses_none program (aside s) f left k at)) confined

    alike_next : NextAlike hidden no_ghosts (next tds bodies s) (next tds bodies (aside s))
    alike_next =
        steps_alike tds bodies hidden no_ghosts s (aside s) stays.0
        (subst (λ (o : Id). StatesAlike hidden no_ghosts s (put_aside d.owners o s)) view_object (state_aside f.w d.owners s))

    hides_one : (c : ℕ) → is_one_of d.owners c ≡ true → hidden d.object c ≡ true
    hides_one c is = subst (λ (o : Id). hidden o c ≡ true) view_object (hides_these f.w d.owners c ∙ is)

    -- They hold null behind the step of the other state, and what they held behind that of the real one.
    null_there : (choice : Choice) (e : Event) (t : State) → Leads (next tds bodies (aside s)) choice e t
        → (c : ℕ) (y : Object) (u : Value) → object_at t.heap d.object ≡ Some y → is_one_of d.owners c ≡ true → slice_get y.cell.values c ≡ Some u → u ≡ Null
    null_there choice e t leads c y u at is holds =
        let blank = blank_object (shifted 0 d.owners) d.x in
        let there : object_at (aside s).heap d.object ≡ Some blank = aside_here d.owners d.object s.heap d.x d.found in
        let kept = hidden_stays tds bodies hidden (aside s) t choice e leads (unwritten_aside hidden s (aside s).heap stays.1) d.object blank there c (hides_one c is) in
        let now : slice_get y.cell.values c ≡ slice_get blank.cell.values c = subst (λ (found : Option Object). component_in found c ≡ slice_get blank.cell.values c) at kept in
        one_is_null d.owners c d.x.cell.values u is (sym now ∙ holds)

    held_there : (choice : Choice) (e : Event) (after : State) → Leads (next tds bodies s) choice e after
        → (y : Object) → object_at after.heap d.object ≡ Some y → (c : ℕ) → is_one_of d.owners c ≡ true → slice_get y.cell.values c ≡ slice_get d.x.cell.values c
    held_there choice e after leads y at c is =
        subst (λ (found : Option Object). component_in found c ≡ slice_get d.x.cell.values c) at
        (hidden_stays tds bodies hidden s after choice e leads stays.1 d.object d.x d.found c (hides_one c is))

    -- What lies outside of the copy does not lie in the record of the body.
    abbrev to : ℕ
    to = d.left.0.first

    abbrev width : ℕ
    width = count_found (record_components (program_form program).types f.record_type)

    outside_apart : (m : ℕ) → LiesOutside to width m → LieBeside f.w reaches (is_alone m)
    outside_apart m (inl before) e reached =
        let inside = a.within e reached in
        false_from_ne_true (is_alone m (f.w.base + e)) (λ is. let same = eqb-true m (f.w.base + e) is in omega (arith, same, before, inside.0))
    outside_apart m (inr behind) e reached =
        let inside = a.within e reached in
        false_from_ne_true (is_alone m (f.w.base + e)) (λ is. let same = eqb-true m (f.w.base + e) is in omega (arith, same, behind, inside.1))

    -- So it stays, where it holds a name: it is of an access type then, and no component of such a type is copied, or stored with a record.
    outside_there : (choice : Choice) (e : Event) (after : State) → Leads (next tds bodies s) choice e after
        → (y : Object) → object_at after.heap d.object ≡ Some y → (c : ℕ) → LiesOutside to width c → (q : Id) → slice_get d.x.cell.values c ≡ Some (Names q)
        → slice_get y.cell.values c ≡ slice_get d.x.cell.values c
    outside_there choice e after leads y at c outside q holds =
        let here : hidden_beside f.w (is_alone c) f.w.object c ≡ true = rw (eq_self f.w.object.0) (eq_self c) in
        subst (λ (found : Option Object). component_in found c ≡ slice_get d.x.cell.values c) at
        (hidden_stays tds bodies (hidden_beside f.w (is_alone c)) s after choice e leads
        (unwritten tds f.w reaches (is_alone c) (outside_apart c outside) s watched (bare (is_alone c) (alone_is (program_form program).types d.x.cell.access c (names c q holds)))
        (within_now f.w.tracks.first s.control s.masters inner f.simple (λ left k at. houses_none program (aside s) f left k at)) confined)
        d.object d.x d.found c (subst (λ (o : Id). hidden_beside f.w (is_alone c) o c ≡ true) view_object here))

    -- What is put aside is that of the original, as before.
    aside_on : (choice : Choice) (e : Event) (after : State) → Leads (next tds bodies s) choice e after → GoesOn f.w reaches s.heap after
        → OriginalStays f.w f.record_type to a after → Alters s.heap e after.heap → (y : Object) → object_at after.heap d.object ≡ Some y
        → IsAside program f.w d.object f.record_type to d.owners y.cell.values f.behind f.lower after
    aside_on choice e after leads goes stays alters y at = by stays
      where
        held : (n : ℕ) (p : Id) → Contains d.owners n → slice_get y.cell.values n ≡ Some (Names p) → slice_get d.x.cell.values n ≡ Some (Names p)
        held n p has holds = sym (held_there choice e after leads y at n (one_has d.owners n has)) ∙ holds

        by : OriginalStays f.w f.record_type to a after → IsAside program f.w d.object f.record_type to d.owners y.cell.values f.behind f.lower after
        by (inr (ne, same, shunned)) = record {
          reaches = reaches;
          beside = beside;
          within = a.within;
          confined = goes.confined;
          copied = record {
            source = a.copied.source;
            first = a.copied.first;
            part = a.copied.part;
            object = a.copied.object;
            found = same ∙ a.copied.found;
            there = a.copied.there;
            lies = a.copied.lies;
            elsewhere = a.copied.elsewhere;
            holds = λ n p has less outside holds. a.copied.holds n p has less outside (held (to + n) p has holds);
          };
          original = inr (ne, shunned);
        }
        by (inl itself) =
            let one : a.copied.object ≡ d.x = some_same (sym a.copied.found ∙ ap (object_at s.heap) itself ∙ d.found) in
            let changed = alters.kept d.object d.x d.found in
            let access : y.cell.access ≡ d.x.cell.access = ap (λ (z : Object). z.cell.access) (some_same (sym at ∙ changed.1)) ∙ changed.2.0 in
            let w_found : object_at s.heap f.w.object ≡ Some d.x = subst (λ (o : Id). object_at s.heap o ≡ Some d.x) (sym view_object) d.found in
            let exists : d.x.stage ≡ Existing = ap (λ (z : Object). z.stage) (some_same (sym w_found ∙ watched.at_object)) ∙ watched.existing in
            let remained = goes.remains d.x w_found exists in
            let w_at : object_at after.heap f.w.object ≡ Some y = subst (λ (o : Id). object_at after.heap o ≡ Some y) (sym view_object) at in
            let there : is_there y.stage ≡ true = rw (ap (λ (z : Object). z.stage) (some_same (sym w_at ∙ remained.1)) ∙ remained.2) refl in
            record {
              reaches = reaches;
              beside = beside;
              within = a.within;
              confined = goes.confined;
              copied = record {
                source = d.object;
                first = a.copied.first;
                part = a.copied.part;
                object = y;
                found = at;
                there = there;
                lies =
                    subst (λ (access : ℕ). PartsLie (program_form program).types (object_named (program_form program).types (Some access)) (Some f.record_type) a.copied.first a.copied.part)
                    (ap (λ (z : Object). z.cell.access) one ∙ sym access) a.copied.lies;
                elsewhere = λ same. a.copied.elsewhere (sym itself);
                holds = λ n p has less outside holds.
                    let before : slice_get d.x.cell.values (a.copied.first + n) ≡ Some (Names p) =
                    ap (λ (z : Object). slice_get z.cell.values (a.copied.first + n)) (sym one)
                    ∙ a.copied.holds n p has less (λ same. outside refl) (held (to + n) p has holds) in
                    outside_there choice e after leads y at (a.copied.first + n) (outside refl) p before ∙ before;
              };
              original = inl refl;
            }

    -- So the real state goes on as the other one does.
    both_on : (choice : Choice) (e : Event) (after t : State) → Leads (next tds bodies s) choice e after → Leads (next tds bodies (aside s)) choice e t
        → StatesAlike hidden no_ghosts after t → GoesOn f.w reaches s.heap after → OriginalStays f.w f.record_type to a after
        → Sparing program f.w.object f.access f.behind f.lower after
        → InAdjusting program (aside s) f e t → InCopy program s.heap e after
    both_on choice e after t leads leads_too alike goes stays_so spared run =
        let t_is : t ≡ aside after =
        subst (λ (o : Id). t ≡ put_aside d.owners o after) view_object
        (state_is_aside f.w d.owners after t alike (λ c y u at is holds. null_there choice e t leads_too c y u (subst (λ (o : Id). object_at t.heap o ≡ Some y) view_object at) is holds)) in
        let run_there : InAdjusting program (aside s) f e (aside after) = subst (InAdjusting program (aside s) f e) t_is run in
        copied_so e after run_there (
          (λ y at. inr (aside_on choice e after leads goes stays_so (alters_unblanked (hiding d.owners d.object) s.heap after.heap e run_there.0.alters) y at)),
          spared,
        )

    next_on : (n m : Next) → next tds bodies s ≡ n → next tds bodies (aside s) ≡ m → NextAlike hidden no_ghosts n m → AllGoOn f.w reaches s.heap n
        → reaching.AllGoOn (OriginalStays f.w f.record_type to a) n → reaching.AllGoOn (Sparing program f.w.object f.access f.behind f.lower) n → GoesAdjusting program (aside s) f m → StepsTo (InCopy program s.heap) s n
    next_on (halts halt) m n_is m_is alike on still spared goes =
        let ends : EndsWell halt (aside s).heap s.masters = subst (GoesAdjusting program (aside s) f) alike goes in
        ends_unblanked (hiding d.owners d.object) halt s.heap s.masters ends
    next_on (moves e after) m n_is m_is (t, is, alike, kept) on still spared goes =
        both_on settled e after t (rw n_is (refl, refl)) (rw (m_is, is) (refl, refl)) alike on still spared (subst (GoesAdjusting program (aside s) f) is goes)
    next_on (tells request e after) m n_is m_is (t, is, alike, kept) on still spared goes =
        both_on settled e after t (rw n_is (refl, refl)) (rw (m_is, is) (refl, refl)) alike on still spared (subst (GoesAdjusting program (aside s) f) is goes)
    next_on (asks request answered) m n_is m_is (answers, is, alike) on still spared goes = λ granted.
        (let all : GoesAdjusting program (aside s) f (asks request answers) = subst (GoesAdjusting program (aside s) f) is goes in
        both_on (grants granted) Quiet (answered granted) (answers granted) (rw n_is (refl, refl)) (rw (m_is, is) (refl, refl)) (alike granted) (on granted) (still granted) (spared granted) (all granted))
    next_on (picks n taken) m n_is m_is alike on still spared goes = absurd on

    some_on : GoesAdjusting program (aside s) f (next tds bodies (aside s)) → StepsTo (InCopy program s.heap) s (next tds bodies s)
    some_on goes = next_on (next tds bodies s) (next tds bodies (aside s)) refl refl alike_next stays.2 original spares.1 goes

-- The body runs behind a step, or what waits for it goes on.
abbrev pub WentOn : (program : Program) (s : State) → AdjustingCopy program s → Event → State → Type 0
WentOn program s d e after = InCopy program s.heap e after ⊎ (CrossesTo program d.adjusting.suspensions s.heap e after × (after.control ≡ d.adjusting.behind))

-- So it does whatever comes next, if the run does not end.
abbrev pub GoesOrEnds : (program : Program) (s : State) → AdjustingCopy program s → Next → Type 0
GoesOrEnds program s d n = StepsTo (WentOn program s d) s n

-- Each step of the body, its end included.
module _
    (program : Program) (well : IsWellFormed (program_form program)) (may : may_track (program_form program) ≡ true) (frees : FreesItsOwn (program_form program))
    (s : State) (reached : IsReached program s) (nested : Scoped (program_form program) s) (typing : typed.Typed (program_form program) s) (d : AdjustingCopy program s) where
  abbrev g : Adjusting program (put_aside d.owners d.object s)
  g = d.adjusting

  exists : g.x.stage ≡ Existing
  exists = adjusted_exists program well s reached d.owners d.object g

  -- The object as it is in the real state.
  real_found : object_at s.heap g.object ≡ Some d.x
  real_found = subst (λ (o : Id). object_at s.heap o ≡ Some d.x) (sym d.same) d.found

  real_like : (d.x.cell.access ≡ g.access) × (d.x.stage ≡ Existing)
  real_like =
      let blank = blanked_at (hiding d.owners d.object) s.heap g.object d.x real_found in
      let same : blank.object ≡ g.x = let is = blank.found in let here = g.found in cc (is, here) in
      let access : g.x.cell.access ≡ d.x.cell.access = subst (λ (y : Object). y.cell.access ≡ d.x.cell.access) same blank.alike.access in
      let stage : g.x.stage ≡ d.x.stage = subst (λ (y : Object). y.stage ≡ d.x.stage) same blank.alike.stage in
      (sym access ∙ g.of_access, sym stage ∙ exists)

  -- Each component that is put aside is of an access type.
  of_access : (c : ℕ) → Contains d.owners c → (a : TypeNo) × (kind_among (reached_components (program_form program).types d.x.cell.access) c ≡ Some (variable.Access a))
  of_access c has =
      let types = (program_form program).types in
      let left = subst (λ (access : ℕ). CopyLeft types access g.record_type g.tasks) (sym real_like.0) d.left.0 in
      let same = d.owned ∙ ap (λ (access : ℕ). owners_left types access g.tasks) (sym real_like.0) in
      left_of_access program well d.x.cell.access g.record_type g.tasks left c (subst (λ (owners : List ℕ). Contains owners c) same has)

  typing_aside : typed.Typed (program_form program) (put_aside d.owners d.object s)
  typing_aside =
      typed_aside (program_form program) d.owners d.object s.heap d.x d.found of_access
      (filled_in_program (program_form program) (running_procedure s) s typing.inside) s refl typing

  watched : IsWatched g.w (places s) s.heap
  watched = is_watched program well may (put_aside d.owners d.object s) g s.heap typing d.x real_found real_like.0 real_like.1

  -- The body looks at the object by its formal parameter alone in the real state, too.
  spared : is_return_first s.control ≡ false → SparesOn program g.w g.access g.behind g.lower s
  spared inner =
      let stored = copy_stored program s d in
      spares_on program well may (put_aside d.owners d.object s) g s.heap typing d.x real_found real_like.0 inner
      (first_houses_its s.control s.heap s.masters stored.1) d.sparing

  -- It copies none of the components that are put aside.
  none_copied : CopiesNone program.types.items g.w.object (is_one_of d.owners) s
  none_copied =
      copies_no_access program well may (put_aside d.owners d.object s) g s.heap typing d.x real_found real_like.0 (is_one_of d.owners)
      (λ c is. of_access c (one_contained d.owners c is)) d.sparing

  -- Nor any component of an access type; and each is of such a type that holds a name.
  bare_copied :
      (these : (component : ℕ) → Bool) → EachIsAccess (program_form program).types d.x.cell.access these → CopiesNone program.types.items g.w.object these s
  bare_copied these each =
      copies_no_access program well may (put_aside d.owners d.object s) g s.heap typing d.x real_found real_like.0 these each d.sparing

  names_of_access :
      (c : ℕ) (q : Id) → slice_get d.x.cell.values c ≡ Some (Names q)
      → (own : TypeNo) × (kind_among (reached_components (program_form program).types d.x.cell.access) c ≡ Some (variable.Access own))
  names_of_access c q holds =
      let filled = filled_in_program (program_form program) (running_procedure s) s typing.inside in
      let own = filled_at (program_form program).types (cells_of s.heap) (cells_of s.heap) d.object.0 d.x.cell filled (cell_at s.heap d.object.0 d.x d.found) in
      subst (λ (found : Option (List ComponentKind)). (own : TypeNo) × (kind_among found c ≡ Some (variable.Access own))) (sym own.1)
      (named_access (program_form program).types (cells_of s.heap) own.0 d.x.cell.values own.2 c q holds)

  -- The original of the copy stays: where it lies in another object, the body leaves that as it is.
  original_stays :
      (a : IsAside program g.w d.object g.record_type d.left.0.first d.owners d.x.cell.values g.behind g.lower s) → is_return_first s.control ≡ false
      → reaching.AllGoOn (OriginalStays program s d g.w g.record_type d.left.0.first a) (next program.types.items (body_forms program) s)
  original_stays a inner =
      elim a.original [
        | inl itself ↦ all_on (OriginalStays program s d g.w g.record_type d.left.0.first a) (λ after. inl itself) (next program.types.items (body_forms program) s)
        | inr (ne, shunned) ↦
            (let stored = copy_stored program s d in
            all_map (reaching.GoesOn (program_form program) (is_around shunned.around) (bare_apart program) (is_this a.copied.source) shunned.unnamed g.behind g.lower s.heap)
            (OriginalStays program s d g.w g.record_type d.left.0.first a)
            (λ after on. inr (
              ne,
              on.same a.copied.source (eq_self a.copied.source.0),
              record { around = shunned.around; unnamed = shunned.unnamed; reaching = on.reaching },
            )) (next program.types.items (body_forms program) s)
            (stays_reaching program well (is_around shunned.around) (bare_apart program) (are_bare program (is_around shunned.around)) (is_this a.copied.source)
            shunned.unnamed g.behind g.lower s typing shunned.reaching (record {
              on = λ ends. true≢false (sym (ap is_return_first ends) ∙ inner);
              houses = first_houses_its s.control s.heap s.masters stored.1;
            })).1)
      ]

  inner_on : is_return_first s.control ≡ false → StepsTo (InCopy program s.heap) s (next program.types.items (body_forms program) s)
  inner_on inner =
      let goes = adjusting_goes program well may frees (put_aside d.owners d.object s) (orderly_aside program well s reached d.owners d.object g nested) typing_aside g exists inner in
      elim d.left.1 [
        | inl none ↦ none_on program s d none goes
        | inr a ↦ some_on program s d a watched (spared inner) none_copied bare_copied names_of_access (original_stays a inner) inner goes
      ]

  -- Where the components come from that are put aside.
  come_from :
      AreCopied (program_form program).types s.heap g.object g.record_type d.left.0.first (owners_left (program_form program).types g.access g.tasks) d.x.cell.values
  come_from =
      subst (λ (o : Id). AreCopied (program_form program).types s.heap o g.record_type d.left.0.first (owners_left (program_form program).types g.access g.tasks) d.x.cell.values)
      (sym d.same)
      (subst (λ (cs : List ℕ). AreCopied (program_form program).types s.heap d.object g.record_type d.left.0.first cs d.x.cell.values) d.owned
      (elim d.left.1 [ inl none ↦ inl none | inr a ↦ inr a.copied ]))

  -- So what they name is there.
  names_left :
      ComponentsAreThere (put_aside d.owners d.object s).heap
      → NameThere s.heap (values_at (owners_left (program_form program).types g.access g.tasks) d.x.cell.values)
  names_left are =
      names_by program well (copied_in_order (program_form program) well (order_too (program_form program) may)) g.access g.record_type g.tasks d.left.0 s.heap g.object d.x
      real_found come_from (rw (sym d.owned, d.same) are)

  ends_copy : EndsCopy program (put_aside d.owners d.object s) g s.heap
  ends_copy = record {
    x = d.x;
    found = real_found;
    copied = d.left.0;
    aside = rw (sym d.owned, d.same) refl;
    names = names_left;
    come_from = come_from;
  }

  end_on : is_return_first s.control ≡ true → GoesOrEnds program s d (next program.types.items (body_forms program) s)
  end_on first =
      let (after, is, crosses, behind) = adjusting_returns program well may (put_aside d.owners d.object s) typing_aside g exists first s.heap ends_copy in
      subst (GoesOrEnds program s d) (sym is) (inr (crosses, behind))

  pub copy_goes : GoesOrEnds program s d (next program.types.items (body_forms program) s)
  copy_goes = by (is_return_first s.control) refl
    where
      by : (b : Bool) → is_return_first s.control ≡ b → GoesOrEnds program s d (next program.types.items (body_forms program) s)
      by false inner =
          steps_so (InCopy program s.heap) (WentOn program s d) (λ e after run. inl run) s (next program.types.items (body_forms program) s) (inner_on inner)
      by true first = end_on first

-- No exception comes out of the body.
pub none_leaves : (program : Program) (s : State) (d : AdjustingCopy program s) (e : Exception) → s.mode ≡ Raising e → is_return_first s.control ≡ true → ⊥
none_leaves program s d e raises first = none_comes_out program (put_aside d.owners d.object s) d.adjusting e raises first
