-- The body of an Adjust that tracks components comes to its end (7.6): each of them gets back what its variable holds, and what waits for the body goes on.

use Rattle.std.proofs.Common.{◌≡◌, ℕ, true, List, [], ◌∷◌, ◌++◌, refl, sym, ap, ◌∙◌, subst, inl, inr}
use Rattle.std.specs.Prelude.{Some, None}
use Rattle.std.specs.List.{slice_get}
use Rattle.ada_program.specs.declared.program.Exception.{Exception}
use Rattle.ada_program.specs.declared.program.Program.{Program}
use Rattle.ada_program.specs.ProgramForm.{BodyForm, ProgramForm, TypeForm, VariableForm, program_form, body_forms, seen_by, seen_in}
use Rattle.ada_program.specs.WellFormed.{variable_kind}
use Rattle.ada_flow.specs.Flow.{Holds, all_give_back, gives_back, hold_at}
use Rattle.ada_flow.specs.Tracking.{judged, with_tracked, tracked_numbers}
use Rattle.ada_judged.specs.Fitting.{TracksComponents}
use Rattle.ada_meaning.specs.declared.event.Birth.{Birth}
use Rattle.ada_meaning.specs.declared.state.Id.{Id}
use Rattle.ada_meaning.specs.declared.state.Mode.{Mode}
use Rattle.ada_meaning.specs.declared.state.Mode.TheVariants.{Running, Raising, Exiting, Returning}
use Rattle.ada_meaning.specs.declared.state.Place.{Place}
use Rattle.ada_meaning.specs.declared.state.Stage.TheVariants.{Existing}
use Rattle.ada_meaning.specs.declared.state.Value.{Value}
use Rattle.ada_meaning.specs.declared.state.Value.TheVariants.{Names, Null, Part, Scalar}
use Rattle.ada_meaning.specs.Event.{Quiet}
use Rattle.ada_meaning.specs.Frame.{Returns, begins}
use Rattle.ada_meaning.specs.State.{Activation, Master}
use Rattle.ada_meaning.specs.Step.{moves, places, mode_next, places_of, older}
use Rattle.ada_meaning.specs.Named.{Object, State, named, next, object_at}
use Rattle.ada_owners.specs.Places.{access_at, is_there}
use Rattle.ada_owners.proofs.Objects.{present_at}
use Rattle.ada_tracked.specs.Frames.{View, blanked, tracked_values, values_at}
use Rattle.ada_tracked.specs.Seen.{FormalIsFirst, IsWatched, seen_state}
use Rattle.ada_tracked.proofs.Law.{plainly_at_end}
use Rattle.ada_typed.proofs.Bodies.{seen_as}
use Rattle.ada_typed.proofs.Control as typed
use Rattle.ada_typed.proofs.Operators.{and_right}
use Rattle.ada_sound.proofs.Activations.{returned_fit}
use Rattle.ada_sound.proofs.Adjusting.{Adjusting, IsOfCopy, copied, assigned, waiting}
use Rattle.ada_sound.proofs.Alters.{alters_same}
use Rattle.ada_sound.proofs.Blanked.{blanked_at, stored_unblanked, unblanked}
use Rattle.ada_sound.proofs.BlankedEnds.{all_lost, judged_ends}
use Rattle.ada_sound.proofs.Callers.{AreOf, Stands, Suspension, caller_of, callers_of, known_in}
use Rattle.ada_sound.proofs.CopiedOwners.{AreCopied, CopyLeft, NamesThere, NameThere, hiding, owners_left}
use Rattle.ada_sound.proofs.HiddenOwners.{components_there}
use Rattle.ada_sound.proofs.Fits.{Fit, IsWithin, Outsiders, none_spared}
use Rattle.ada_sound.proofs.Invariant.{AdjustsAside, AdjustsTo, Control, GoesOn, Known, Ready, ReadyIn, Rooms, RunsOn, Standing, TreatsBy, Working, outer_of, outers, owed_in}
use Rattle.ada_sound.proofs.Judged.{known_judged}
use Rattle.ada_sound.proofs.OperationBegins.{formal_holds, formal_within}
use Rattle.ada_sound.proofs.OperationCalls.{is_live}
use Rattle.ada_sound.proofs.Operating.{behind_operation}
use Rattle.ada_sound.proofs.Returns.{CrossesTo, same_types}
use Rattle.ada_sound.proofs.Stored.{Stored}
use Rattle.ada_sound.proofs.Waiting.{KeepsHomes, low_by}

-- What is given back by all is given back by those that stand behind others.
give_behind : (xs ys : List ℕ) (holds : Holds) → all_give_back (xs ++ ys) holds ≡ true → all_give_back ys holds ≡ true
give_behind [] ys holds gave = gave
give_behind (x ∷ xs) ys holds gave = give_behind xs ys holds (and_right (gives_back (hold_at holds x)) (all_give_back (xs ++ ys) holds) gave)

tracked_give : (xs ys : List ℕ) (holds : Holds) → all_give_back (with_tracked xs ys) holds ≡ true → all_give_back ys holds ≡ true
tracked_give xs [] holds gave = refl
tracked_give xs (y ∷ ys) holds gave = give_behind xs (y ∷ ys) holds gave

-- What components hold of an object that is there, if it names anything, names what is there.
abbrev pub ComponentsAreThere : List Object → Type 0
ComponentsAreThere heap =
    (q : Id) (y : Object) → object_at heap q ≡ Some y → is_there y.stage ≡ true → (c : ℕ) (v : Value) → slice_get y.cell.values c ≡ Some v → NamesThere heap v

-- Variables of a body fit on a heap, whichever they are.
pub record FitsOn (types : List TypeForm) (outer : Outsiders) (heap : List Object) : Type 0 where
  pub variables : List VariableForm
  pub places : List Value
  pub holds : Holds
  pub fit : Fit types variables outer none_spared heap places holds

-- What is known of the body of an Adjust, as it is judged.
abbrev pub judged_of : (program : Program) (s : State) → Adjusting program s → Known
judged_of program s f = known_judged program f.number f.w.tracks (waiting program s f ∷ f.suspensions)

-- The tracked components get back what the variables that stand for them hold, where each of these is null or owns it.
abbrev pub GetBack : (program : Program) (s : State) → Adjusting program s → Type 0
GetBack program s f =
    (holds : Holds)
    → Fit (judged_of program s f).program.types (judged_of program s f).program.variables (outers (judged_of program s f)) none_spared (blanked f.w s.heap) (places s ++ tracked_values f.w s.heap) holds
    → all_give_back (tracked_numbers f.w.tracks) holds ≡ true
    → FitsOn (judged_of program s f).program.types (outers (judged_of program s f)) s.heap

-- The formal parameter is the first variable.
formal_first : (w : View) (vs : List Value) → FormalIsFirst w vs → (place : Place) × (more : List Value) × (vs ≡ Part w.object place ∷ more) × (place.component ≡ w.base)
formal_first w [] formal = absurd formal
formal_first w (Null ∷ vs) formal = absurd formal
formal_first w (Names o ∷ vs) formal = absurd formal
formal_first w (Scalar v ∷ vs) formal = absurd formal
formal_first w (Part o place ∷ vs) (same, based) = (place, vs, rw same refl, based)

-- What that refers to, where the real state is typed.
module _ (program : Program) (number : ℕ) (b : BodyForm) (w : View) (s : State) (watches : IsWatched w (places s) s.heap) (components : TracksComponents (program_form program).types w.tracks b.variables) (inside : typed.TypedIn (seen_by number b (program_form program)) s) where
  watched_within : IsWithin (program_form program).types (variable_kind b.variables 0) watches.object.cell.access w.base
  watched_within =
      let (place, more, is, based) = formal_first w (places s) watches.formal in
      let holds = formal_holds program number b w.object place s (more, is) watches.object watches.at_object inside in
      let within : IsWithin (program_form program).types (variable_kind b.variables 0) watches.object.cell.access place.component =
      formal_within (program_form program).types (variable_kind b.variables 0) w.object watches.object.cell.access place components.object components.formal (rw components.formal at holds) in
      subst (λ (first : ℕ). IsWithin (program_form program).types (variable_kind b.variables 0) watches.object.cell.access first) based within

-- So the tracked components get back what they held.
module _ (program : Program) (s : State) (f : Adjusting program s) (watches : IsWatched f.w (places s) s.heap) (components : TracksComponents (program_form program).types f.w.tracks f.b.variables) (inside : typed.TypedIn (seen_in (Some f.number) (program_form program)) s) where
  abbrev p : ProgramForm
  p = program_form program

  abbrev sees : ProgramForm
  sees = seen_in (Some f.number) p

  inside_body : typed.TypedIn (seen_by f.number f.b p) s
  inside_body = rw (seen_as p f.number f.b f.there) at inside

  own_components : TracksComponents sees.types f.w.tracks sees.variables
  own_components = let now : TracksComponents (seen_by f.number f.b p).types f.w.tracks (seen_by f.number f.b p).variables = components in rw (seen_as p f.number f.b f.there) now

  own_within : IsWithin sees.types (variable_kind sees.variables 0) watches.object.cell.access f.w.base
  own_within =
      let now : IsWithin (seen_by f.number f.b p).types (variable_kind (seen_by f.number f.b p).variables 0) watches.object.cell.access f.w.base =
      watched_within program f.number f.b f.w s watches components inside_body in
      rw (seen_as p f.number f.b f.there) now

  pub gets_back : GetBack program s f
  gets_back holds fit gave = record {
    variables = judged sees.types f.w.tracks sees.variables;
    places = places s ++ tracked_values f.w s.heap;
    holds = all_lost (tracked_numbers f.w.tracks) holds;
    fit = judged_ends sees.variables (places s) f.w s.heap watches own_components own_within gave fit;
  }

module _ (program : Program) (s : State) (f : Adjusting program s) (a b : Activation Value) (rest : List (Activation Value)) (acts_so : s.activations ≡ a ∷ b ∷ rest) (ends_now : s.control ≡ Returns [] [] ∷ f.behind) (masters_are : s.masters ≡ f.lower) (get_back : GetBack program s f) where
  abbrev own : Known
  own = known_in program f.procedure f.suspensions

  abbrev waits : Suspension
  waits = waiting program s f

  abbrev running : Known
  running = judged_of program s f

  -- The state, by its parts.
  abbrev parts : State
  parts = record s { control = Returns [] [] ∷ f.behind; activations = a ∷ b ∷ rest; masters = f.lower }

  parts_are : parts ≡ s
  parts_are =
      subst (λ (k : Control). record s { control = k; activations = a ∷ b ∷ rest; masters = f.lower } ≡ s) ends_now
      (subst (λ (all : List (Activation Value)). record s { activations = all; masters = f.lower } ≡ s) acts_so
      (subst (λ (ms : List Master). record s { masters = ms } ≡ s) masters_are refl))

  -- What stands for it.
  stands_so : f.t ≡ seen_state f.w parts
  stands_so = plainly_at_end program.types.items (program_form program).bodies f.w s f.t [] [] f.behind f.seen ends_now ∙ ap (seen_state f.w) (sym parts_are)

  ready_there : Ready running (seen_state f.w parts)
  ready_there = subst (λ (t : State). Ready running t) stands_so f.ready

  standing_there : Standing running (seen_state f.w parts)
  standing_there = subst (λ (t : State). Standing running t) stands_so f.standing

  abbrev held : List Value
  held = a.places ++ tracked_values f.w s.heap

  ready_now : ReadyIn running s.mode (Returns [] [] ∷ f.behind) (blanked f.w s.heap) held a.operands f.lower
  ready_now = ready_there.1

  -- At its end each tracked component is null or owns.
  abbrev AtEnd : Type 0
  AtEnd = Working running (blanked f.w s.heap) held f.lower (λ rooms holds. all_give_back (tracked_numbers f.w.tracks) holds ≡ true)

  given_normal : (rooms : Rooms) (holds : Holds) → GoesOn running Running (Returns [] [] ∷ f.behind) rooms holds → all_give_back (tracked_numbers f.w.tracks) holds ≡ true
  given_normal [] holds is = tracked_give (owed_in running.program) (tracked_numbers f.w.tracks) holds is.3
  given_normal (gone ∷ rooms) holds is = absurd is

  given_returning : (rooms : Rooms) (holds : Holds) → GoesOn running Returning (Returns [] [] ∷ f.behind) rooms holds → all_give_back (tracked_numbers f.w.tracks) holds ≡ true
  given_returning [] holds is = tracked_give (owed_in running.program) (tracked_numbers f.w.tracks) holds is.3
  given_returning (gone ∷ rooms) holds is = absurd is

  -- No exception comes out of the body, and no exit leads out of it.
  none_raised : (e : Exception) (rooms : Rooms) (holds : Holds) → GoesOn running (Raising e) (Returns [] [] ∷ f.behind) rooms holds → ⊥
  none_raised e [] holds is = f.silent e is.0
  none_raised e (gone ∷ rooms) holds is = is

  none_exited : (rooms : Rooms) (holds : Holds) → GoesOn running Exiting (Returns [] [] ∷ f.behind) rooms holds → ⊥
  none_exited [] holds is = is
  none_exited (gone ∷ rooms) holds is = is

  ends_by : (mode : Mode) → ReadyIn running mode (Returns [] [] ∷ f.behind) (blanked f.w s.heap) held a.operands f.lower → AtEnd
  ends_by Running w = record { rooms = w.rooms; holds = w.holds; stored = w.stored; roomed = w.roomed; fit = w.fit; rest = given_normal w.rooms w.holds w.rest }
  ends_by (Raising e) w = absurd (none_raised e w.rooms w.holds w.rest)
  ends_by Exiting w = absurd (none_exited w.rooms w.holds w.rest)
  ends_by Returning w = record { rooms = w.rooms; holds = w.holds; stored = w.stored; roomed = w.roomed; fit = w.fit; rest = given_returning w.rooms w.holds w.rest }

  works : AtEnd
  works = ends_by s.mode ready_now

  -- So what is behind it is next, in this heap and in any other.
  abbrev pub left : List Object → State
  left heap = behind_operation (b ∷ rest) f.behind f.lower (record s { heap = heap })

  goes_by : (heap : List Object) (mode : Mode) → ReadyIn running mode (Returns [] [] ∷ f.behind) (blanked f.w s.heap) held a.operands f.lower
      → mode_next named program.types.items (body_forms program) mode (record parts { mode = mode; heap = heap }) ≡ moves Quiet (left heap)
  goes_by heap Running w = refl
  goes_by heap (Raising e) w = absurd (none_raised e w.rooms w.holds w.rest)
  goes_by heap Exiting w = absurd (none_exited w.rooms w.holds w.rest)
  goes_by heap Returning w = refl

  pub goes_now : (heap : List Object) → next program.types.items (body_forms program) (record s { heap = heap }) ≡ moves Quiet (left heap)
  unfolding next
  goes_now heap =
      subst (λ (t : State). mode_next named program.types.items (body_forms program) s.mode (record t { heap = heap }) ≡ moves Quiet (left heap)) parts_are
      (goes_by heap s.mode ready_now)

  -- The components get back what they held.
  fits_now : FitsOn running.program.types (outers running) s.heap
  fits_now =
      get_back works.holds
      (subst (λ (all : List (Activation Value)). Fit running.program.types running.program.variables (outers running) none_spared (blanked f.w s.heap) (places_of all ++ tracked_values f.w s.heap) works.holds) (sym acts_so) works.fit)
      works.rest

  own_stored : Stored (outers own).under s.heap f.lower
  own_stored = stored_unblanked f.w s.heap works.stored

  -- What the activation that waits relies on.
  same_here : running.program.types ≡ own.program.types
  same_here = same_types (Some f.number) (program_form program) ∙ sym (same_types f.procedure (program_form program))

  own_fit : Fit own.program.types own.program.variables (outers own) none_spared s.heap f.places f.holds
  own_fit =
      returned_fit (outer_of (caller_of program waits f.suspensions)) fits_now.variables fits_now.places fits_now.holds (λ i. None) f.places f.holds own.program.types (outers own) waits.passed waits.referenced waits.under none_spared s.heap
      (λ x. inr (inl (refl, refl))) (subst (λ (types : List TypeForm). Fit types fits_now.variables (outers running) none_spared s.heap fits_now.places fits_now.holds) same_here fits_now.fit)
      f.waits.said f.waits.objects

  -- The object exists still.
  exists_still : f.x.stage ≡ Existing
  exists_still =
      let there : access_at s.heap f.object ≡ Some f.access = fits_now.fit.referred f.object f.access (inl (refl, refl)) in
      let present = present_at s.heap f.object f.access there in
      let same : present.object ≡ f.x = let is = present.found in let found = f.found in cc (is, found) in
      (own_stored.sane f.object f.x f.found).there_exists (rw same at present.there)

  -- So what waits goes on.
  own_works : Working own s.heap f.places f.lower (λ rooms holds. RunsOn own f.after rooms holds × AdjustsAside own f.access f.record_type holds)
  own_works = record { rooms = f.rooms; holds = f.holds; stored = own_stored; roomed = f.waits.roomed; fit = own_fit; rest = (f.rests, f.aside) }

  -- The activations are those of these bodies.
  bodies_there : AreOf program (b ∷ rest) (waits ∷ f.suspensions)
  bodies_there = subst (λ (all : List (Activation Value)). AreOf program (older all) (waits ∷ f.suspensions)) acts_so f.bodies

  -- In the real heap, the components that are adjusted later hold what they hold: they are null here.
  module _
      (heap : List Object) (x : Object) (found : object_at heap f.object ≡ Some x) (remains : CopyLeft (program_form program).types f.access f.record_type f.tasks)
      (aside : s.heap ≡ blanked (hiding (owners_left (program_form program).types f.access f.tasks) f.object) heap)
      (names : ComponentsAreThere s.heap → NameThere heap (values_at (owners_left (program_form program).types f.access f.tasks) x.cell.values))
      (come_from : AreCopied (program_form program).types heap f.object f.record_type remains.first (owners_left (program_form program).types f.access f.tasks) x.cell.values) where
    -- What they name is there: components of the original own it.
    names_there : NameThere heap (values_at (owners_left (program_form program).types f.access f.tasks) x.cell.values)
    names_there = names (λ q y at there c v holds. components_there s.heap q y at own_fit there c v holds)

    abbrev hides : View
    hides = hiding (owners_left (program_form program).types f.access f.tasks) f.object

    -- The object is the same but for what those hold.
    like : (access : x.cell.access ≡ f.access) × (x.stage ≡ Existing)
    like =
        let blank = blanked_at hides heap f.object x found in
        let same : blank.object ≡ f.x = let is : object_at s.heap f.object ≡ Some blank.object = rw aside blank.found in let here = f.found in cc (is, here) in
        let access : f.x.cell.access ≡ x.cell.access = subst (λ (y : Object). y.cell.access ≡ x.cell.access) same blank.alike.access in
        let stage : f.x.stage ≡ x.stage = subst (λ (y : Object). y.stage ≡ x.stage) same blank.alike.stage in
        (sym access ∙ f.of_access, sym stage ∙ exists_still)

    own_types : own.program.types ≡ (program_form program).types
    own_types = same_types f.procedure (program_form program)

    -- What is left of the copy is adjusted next.
    abbrev AdjustsBy : List TypeForm → (access : ℕ) → Type 0
    AdjustsBy types access =
        ((left : CopyLeft types access f.record_type f.tasks) × AreCopied types heap f.object f.record_type left.first (owners_left types access f.tasks) x.cell.values)
        × NameThere heap (values_at (owners_left types access f.tasks) x.cell.values)
        × Working own (blanked (hiding (owners_left types access f.tasks) f.object) heap) f.places f.lower (λ rooms holds. RunsOn own f.after rooms holds × AdjustsAside own access f.record_type holds)

    adjusts_by : AdjustsBy own.program.types x.cell.access
    adjusts_by =
        let works_there =
        subst (λ (objects : List Object). Working own objects f.places f.lower (λ rooms holds. RunsOn own f.after rooms holds × AdjustsAside own f.access f.record_type holds)) aside own_works in
        subst (λ (types : List TypeForm). AdjustsBy types x.cell.access) (sym own_types) (subst (AdjustsBy (program_form program).types) (sym like.0) ((remains, come_from), names_there, works_there))

    adjusts_to : AdjustsTo own (Names f.object) f.tasks f.after heap f.places f.lower
    adjusts_to = record {
      o = f.object;
      is = refl;
      x = x;
      found = found;
      there = rw like.1 refl;
      record_type = f.record_type;
      left = adjusts_by.0.0;
      copied = adjusts_by.0.1;
      named = adjusts_by.1;
      works = adjusts_by.2;
    }

    treats_by : (by : Birth) → IsOfCopy by → TreatsBy own (Names f.object) (begins by f.done) f.tasks f.after heap f.places b.operands f.lower
    treats_by _ copied = adjusts_to
    treats_by _ (assigned number) = adjusts_to

    behind_ready : ReadyIn own Running f.behind heap f.places b.operands f.lower
    behind_ready =
        subst (λ (k : Control). ReadyIn own Running k heap f.places b.operands f.lower) (sym f.awaited.1)
        (is_live heap f.object x found (rw like.1 tt), treats_by f.by f.copies)

    stands_left : Stands program f.suspensions (left heap)
    stands_left = record {
      body = rw bodies_there.0 bodies_there.1;
      behind = rw bodies_there.0 bodies_there.2;
      bodies = bodies_there.3;
      standing = record {
        suspended = standing_there.suspended.1;
        waiting = rw bodies_there.0 standing_there.waiting.1;
        low = low_by (blanked f.w s.heap) heap at_home (callers_of program f.suspensions) standing_there.low.3;
      };
    }
      where
        at_home : KeepsHomes (blanked f.w s.heap) heap
        at_home o y is =
            let first = unblanked f.w s.heap o y is in
            let second = unblanked hides heap o first.object (subst (λ (objects : List Object). object_at objects o ≡ Some first.object) aside first.found) in
            (second.object, second.found, second.alike.home ∙ first.alike.home, λ back. second.alike.out ∙ (first.alike.out ∙ back))

    pub crosses_back : CrossesTo program f.suspensions heap Quiet (left heap)
    crosses_back = record {
      stepped = record {
        ready = (tt, rw (bodies_there.0, standing_there.suspended.0) behind_ready);
        alters = alters_same heap Quiet;
        says = tt;
      };
      stands = stands_left;
    }

-- The body of an Adjust that is called for a copy is at its end, and what is called later for that sees to components that hold null here.
pub record EndsCopy (program : Program) (s : State) (f : Adjusting program s) (heap : List Object) : Type 0 where
  pub x : Object
  pub found : object_at heap f.object ≡ Some x
  pub copied : CopyLeft (program_form program).types f.access f.record_type f.tasks
  pub aside : s.heap ≡ blanked (hiding (owners_left (program_form program).types f.access f.tasks) f.object) heap
  -- where components of each object that is there name what is there, those do that are put aside
  pub names : ComponentsAreThere s.heap → NameThere heap (values_at (owners_left (program_form program).types f.access f.tasks) x.cell.values)
  pub come_from :
      AreCopied (program_form program).types heap f.object f.record_type copied.first (owners_left (program_form program).types f.access f.tasks) x.cell.values

-- When the end of the body is next, what waits for it goes on.
pub adjusting_ends :
    (program : Program) (s : State) (f : Adjusting program s) (a b : Activation Value) (rest : List (Activation Value)) → s.activations ≡ a ∷ b ∷ rest → s.control ≡ Returns [] [] ∷ f.behind → s.masters ≡ f.lower
    → GetBack program s f → (heap : List Object) → EndsCopy program s f heap
    → (after : State) × (next program.types.items (body_forms program) (record s { heap = heap }) ≡ moves Quiet after) × CrossesTo program f.suspensions heap Quiet after × (after.control ≡ f.behind)
adjusting_ends program s f a b rest acts_so ends_now masters_are get_back heap c = (
  left program s f a b rest acts_so ends_now masters_are get_back heap,
  goes_now program s f a b rest acts_so ends_now masters_are get_back heap,
  crosses_back program s f a b rest acts_so ends_now masters_are get_back heap c.x c.found c.copied c.aside c.names c.come_from,
  refl,
)
