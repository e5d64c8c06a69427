-- The laws of storage for each machine that follows it.

use Rattle.std.proofs.Common.{◌≡◌, ℕ, ◌<◌, List, [], ◌∷◌, ◌++◌, refl, sym, ap, ◌∙◌, ◌⊎◌, inl, inr, subst}
use Rattle.ada_storage.specs.State.{Value, Cause, undoing, Birth, creation, Event, born, finalized, back, left, quiet, State, in_list, within}
use Rattle.ada_storage.specs.Step.{Choice, erroneous, goes, step}
use Rattle.ada_storage.specs.Law.{Run, first_state, Each, EachTwo, Happened, Once, AfterBirth, BeforeBack, InReverse, IsBorn, IsFinalized, LaterOf, Births, births, and_then, Behind, whole_under_way}
use Rattle.ada_storage.specs.Law as law
use Rattle.ada_storage.specs.State as state
use Rattle.ada_storage.specs.Example.{seen}
use Rattle.ada_storage.specs.Following.{RunOf, here, there, Shows, Goes, Follows}
use Rattle.ada_storage.proofs.Runs as runs
use Rattle.ada_storage.proofs.Orders as orders
use Rattle.ada_storage.proofs.Births as parts

-- What is said of each event, and of each two, is said of those that are seen, and the other way round, where it is nothing to say of quiet ones.
each_seen : (P : Event → Type 0) (es : List Event) → Each P es → Each P (seen es)
each_seen P [] h = tt
each_seen P (born v by ∷ es) h = (h.0, each_seen P es h.1)
each_seen P (finalized v cause ∷ es) h = (h.0, each_seen P es h.1)
each_seen P (back o cause ∷ es) h = (h.0, each_seen P es h.1)
each_seen P (left m ∷ es) h = (h.0, each_seen P es h.1)
each_seen P (quiet ∷ es) h = each_seen P es h.1

each_of_seen : (P : Event → Type 0) → P quiet → (es : List Event) → Each P (seen es) → Each P es
each_of_seen P q [] h = tt
each_of_seen P q (born v by ∷ es) h = (h.0, each_of_seen P q es h.1)
each_of_seen P q (finalized v cause ∷ es) h = (h.0, each_of_seen P q es h.1)
each_of_seen P q (back o cause ∷ es) h = (h.0, each_of_seen P q es h.1)
each_of_seen P q (left m ∷ es) h = (h.0, each_of_seen P q es h.1)
each_of_seen P q (quiet ∷ es) h = (q, each_of_seen P q es h)

two_seen : (R : Event → Event → Type 0) (es : List Event) → EachTwo R es → EachTwo R (seen es)
two_seen R [] h = tt
two_seen R (born v by ∷ es) h = (each_seen (R (born v by)) es h.0, two_seen R es h.1)
two_seen R (finalized v cause ∷ es) h = (each_seen (R (finalized v cause)) es h.0, two_seen R es h.1)
two_seen R (back o cause ∷ es) h = (each_seen (R (back o cause)) es h.0, two_seen R es h.1)
two_seen R (left m ∷ es) h = (each_seen (R (left m)) es h.0, two_seen R es h.1)
two_seen R (quiet ∷ es) h = two_seen R es h.1

each_any : (P : Event → Type 0) (es : List Event) → ((e : Event) → P e) → Each P es
each_any P [] u = tt
each_any P (e ∷ es) u = (u e, each_any P es u)

two_of_seen :
    (R : Event → Event → Type 0) → ((e : Event) → R e quiet) → ((e : Event) → R quiet e) → (es : List Event) → EachTwo R (seen es) → EachTwo R es
two_of_seen R first second [] h = tt
two_of_seen R first second (born v by ∷ es) h = (each_of_seen (R (born v by)) (first (born v by)) es h.0, two_of_seen R first second es h.1)
two_of_seen R first second (finalized v cause ∷ es) h =
    (each_of_seen (R (finalized v cause)) (first (finalized v cause)) es h.0, two_of_seen R first second es h.1)
two_of_seen R first second (back o cause ∷ es) h = (each_of_seen (R (back o cause)) (first (back o cause)) es h.0, two_of_seen R first second es h.1)
two_of_seen R first second (left m ∷ es) h = (each_of_seen (R (left m)) (first (left m)) es h.0, two_of_seen R first second es h.1)
two_of_seen R first second (quiet ∷ es) h = (each_any (R quiet) es second, two_of_seen R first second es h)

after_seen : (Born : Value → Type 0) (es : List Event) → AfterBirth Born es → AfterBirth Born (seen es)
after_seen Born [] h = tt
after_seen Born (born v by ∷ es) h = after_seen (λ w. Born w ⊎ (w ≡ v)) es h
after_seen Born (finalized v cause ∷ es) h = (h.0, after_seen Born es h.1)
after_seen Born (back o cause ∷ es) h = after_seen Born es h
after_seen Born (left m ∷ es) h = after_seen Born es h
after_seen Born (quiet ∷ es) h = after_seen Born es h

after_of_seen : (Born : Value → Type 0) (es : List Event) → AfterBirth Born (seen es) → AfterBirth Born es
after_of_seen Born [] h = tt
after_of_seen Born (born v by ∷ es) h = after_of_seen (λ w. Born w ⊎ (w ≡ v)) es h
after_of_seen Born (finalized v cause ∷ es) h = (h.0, after_of_seen Born es h.1)
after_of_seen Born (back o cause ∷ es) h = after_of_seen Born es h
after_of_seen Born (left m ∷ es) h = after_of_seen Born es h
after_of_seen Born (quiet ∷ es) h = after_of_seen Born es h

happened_seen : (P : Event → Type 0) → (P quiet → ⊥) → (es : List Event) → Happened P es → Happened P (seen es)
happened_seen P never [] h = absurd h
happened_seen P never (born v by ∷ es) (inl h) = inl h
happened_seen P never (born v by ∷ es) (inr h) = inr (happened_seen P never es h)
happened_seen P never (finalized v cause ∷ es) (inl h) = inl h
happened_seen P never (finalized v cause ∷ es) (inr h) = inr (happened_seen P never es h)
happened_seen P never (back o cause ∷ es) (inl h) = inl h
happened_seen P never (back o cause ∷ es) (inr h) = inr (happened_seen P never es h)
happened_seen P never (left m ∷ es) (inl h) = inl h
happened_seen P never (left m ∷ es) (inr h) = inr (happened_seen P never es h)
happened_seen P never (quiet ∷ es) (inl h) = absurd (never h)
happened_seen P never (quiet ∷ es) (inr h) = happened_seen P never es h

happened_of_seen : (P : Event → Type 0) (es : List Event) → Happened P (seen es) → Happened P es
happened_of_seen P [] h = absurd h
happened_of_seen P (born v by ∷ es) (inl h) = inl h
happened_of_seen P (born v by ∷ es) (inr h) = inr (happened_of_seen P es h)
happened_of_seen P (finalized v cause ∷ es) (inl h) = inl h
happened_of_seen P (finalized v cause ∷ es) (inr h) = inr (happened_of_seen P es h)
happened_of_seen P (back o cause ∷ es) (inl h) = inl h
happened_of_seen P (back o cause ∷ es) (inr h) = inr (happened_of_seen P es h)
happened_of_seen P (left m ∷ es) (inl h) = inl h
happened_of_seen P (left m ∷ es) (inr h) = inr (happened_of_seen P es h)
happened_of_seen P (quiet ∷ es) h = inr (happened_of_seen P es h)

births_seen : (B : Births) (es : List Event) → births B (seen es) ≡ births B es
births_seen B [] = refl
births_seen B (born v by ∷ es) = births_seen (and_then B (born v by)) es
births_seen B (finalized v cause ∷ es) = births_seen (and_then B (finalized v cause)) es
births_seen B (back o cause ∷ es) = births_seen (and_then B (back o cause)) es
births_seen B (left m ∷ es) = births_seen (and_then B (left m)) es
births_seen B (quiet ∷ es) = births_seen B es

-- Events one after another.
seen_both : (es fs : List Event) → seen (es ++ fs) ≡ seen es ++ seen fs
seen_both [] fs = refl
seen_both (born v by ∷ es) fs = ap (λ (gs : List Event). born v by ∷ gs) (seen_both es fs)
seen_both (finalized v cause ∷ es) fs = ap (λ (gs : List Event). finalized v cause ∷ gs) (seen_both es fs)
seen_both (back o cause ∷ es) fs = ap (λ (gs : List Event). back o cause ∷ gs) (seen_both es fs)
seen_both (left m ∷ es) fs = ap (λ (gs : List Event). left m ∷ gs) (seen_both es fs)
seen_both (quiet ∷ es) fs = seen_both es fs

seen_first : (e : Event) (es : List Event) → seen (e ∷ es) ≡ seen (e ∷ []) ++ seen es
seen_first (born v by) es = refl
seen_first (finalized v cause) es = refl
seen_first (back o cause) es = refl
seen_first (left m) es = refl
seen_first quiet es = refl

run_both : {s t u : State} {es fs : List Event} → Run s es t → Run t fs u → Run s (es ++ fs) u
run_both law.here more = more
run_both (law.there choice mid is run) more = law.there choice mid is (run_both run more)

-- A run of storage with the same events, but for quiet ones.
pub record RunAlike (s t : State) (events : List Event) : Type 0 where
  pub shown : List Event
  pub run : Run s shown t
  pub alike : seen shown ≡ seen events

alike_step : (e : Event) (s mid t : State) → Shows e mid t → (unseen : List Event) → Run s unseen mid → seen unseen ≡ [] → RunAlike s t (e ∷ [])
alike_step e s mid t (inl (is, same)) unseen run silent = record {
  shown = unseen;
  run = subst (λ (u : State). Run s unseen u) same run;
  alike = silent ∙ sym (ap (λ (f : Event). seen (f ∷ [])) is);
}
alike_step e s mid t (inr (choice, is)) unseen run silent = record {
  shown = unseen ++ e ∷ [];
  run = run_both run (law.there choice t is law.here);
  alike = seen_both unseen (e ∷ []) ∙ ap (λ (gs : List Event). gs ++ seen (e ∷ [])) silent;
}

alike_both : {s t u : State} (e : Event) (es : List Event) → RunAlike s t (e ∷ []) → RunAlike t u es → RunAlike s u (e ∷ es)
alike_both e es a b = record {
  shown = a.shown ++ b.shown;
  run = run_both a.run b.run;
  alike =
      seen_both a.shown b.shown ∙ ap (λ (gs : List Event). gs ++ seen b.shown) a.alike
      ∙ ap (λ (gs : List Event). seen (e ∷ []) ++ gs) b.alike ∙ sym (seen_first e es);
}

module _ {X : Type 0} (Steps : X → Event → X → Type 0) (storage : X → State) (follows : Follows Steps storage) where
  pub run_alike : {x y : X} {events : List Event} → RunOf Steps x events y → RunAlike (storage x) (storage y) events
  run_alike here = record { shown = []; run = law.here; alike = refl }
  run_alike {x} (there {event = e} {events = es} mid steps run) =
      let f = follows x mid e steps in
      alike_both e es (alike_step e (storage x) f.mid (storage mid) f.shows f.unseen f.run f.silent) (run_alike run)

  module _ (first : X) (begins : storage first ≡ first_state) where
    -- Its runs from a state that means the first one are runs of storage.
    pub from_first : {last : X} {events : List Event} → RunOf Steps first events last → RunAlike first_state (storage last) events
    from_first {last} {events} run = subst (λ (s : State). RunAlike s (storage last) events) begins (run_alike run)

    alike_two :
        (R : Event → Event → Type 0) → ((e : Event) → R e quiet) → ((e : Event) → R quiet e) → {last : X} {events : List Event}
        → ((shown : List Event) → Run first_state shown (storage last) → EachTwo R shown) → RunOf Steps first events last → EachTwo R events
    alike_two R a b {last} {events} holds run =
        let other = from_first run in
        two_of_seen R a b events (subst (λ (es : List Event). EachTwo R es) other.alike (two_seen R other.shown (holds other.shown other.run)))

    -- A value is finalized at most once, and only after it came to exist.
    pub once : (last : X) (events : List Event) → RunOf Steps first events last → EachTwo Once events
    once last events run = alike_two Once first_quiet (λ e. tt) (λ shown other. runs.once other) run
      where
        first_quiet : (e : Event) → Once e quiet
        first_quiet (born v by) = tt
        first_quiet (finalized v cause) = tt
        first_quiet (back o cause) = tt
        first_quiet (left m) = tt
        first_quiet quiet = tt

    pub born_before : (last : X) (events : List Event) → RunOf Steps first events last → AfterBirth (λ v. ⊥) events
    born_before last events run =
        let other = from_first run in
        after_of_seen (λ v. ⊥) events
        (subst (λ (es : List Event). AfterBirth (λ v. ⊥) es) other.alike (after_seen (λ v. ⊥) other.shown (runs.only_after_birth other.run)))

    -- Nothing of an object comes after its words went back.
    pub nothing_after_back : (last : X) (events : List Event) → RunOf Steps first events last → EachTwo BeforeBack events
    nothing_after_back last events run = alike_two BeforeBack first_quiet (λ e. tt) (λ shown other. runs.before_back other runs.first_inv) run
      where
        first_quiet : (e : Event) → BeforeBack e quiet
        first_quiet (born v by) = tt
        first_quiet (finalized v cause) = tt
        first_quiet (back o cause) = tt
        first_quiet (left m) = tt
        first_quiet quiet = tt

    -- At one leaving items go in reverse order of their creation.
    pub in_reverse : (last : X) (events : List Event) → RunOf Steps first events last → EachTwo InReverse events
    in_reverse last events run = alike_two InReverse first_quiet (λ e. tt) (λ shown other. runs.in_reverse other runs.first_inv) run
      where
        falls_quiet : (c : Cause) → InReverse (back 0 c) quiet
        falls_quiet (state.leaving m i) = tt
        falls_quiet (state.freeing n) = tt
        falls_quiet (state.undoing n) = tt
        falls_quiet (state.assigning n) = tt

        first_quiet : (e : Event) → InReverse e quiet
        first_quiet (born v by) = tt
        first_quiet (finalized v cause) = falls_quiet cause
        first_quiet (back o cause) = falls_quiet cause
        first_quiet (left m) = tt
        first_quiet quiet = tt

    -- What the step of an event leads from in storage.
    event_step :
        (e : Event) (mid last : X) → (e ≡ quiet → ⊥) → (g : Goes e (storage mid) (storage last)) → (choice : Choice) × (step choice g.mid ≡ goes e (storage last))
    event_step e mid last loud g = elim g.shows [ inl h ↦ absurd (loud h.0) | inr h ↦ h ]

    up_to :
        {mid : X} {events : List Event} (e : Event) (last : X) → RunOf Steps first events mid → (g : Goes e (storage mid) (storage last))
        → RunAlike first_state g.mid events
    up_to {mid} {events} e last run g =
        let other = from_first run in
        record {
          shown = other.shown ++ g.unseen;
          run = run_both other.run g.run;
          alike = seen_both other.shown g.unseen ∙ ap (λ (gs : List Event). seen other.shown ++ gs) g.silent ∙ nothing_more (seen other.shown) ∙ other.alike;
        }
      where
        nothing_more : (gs : List Event) → gs ++ [] ≡ gs
        nothing_more [] = refl
        nothing_more (f ∷ gs) = ap (λ (hs : List Event). f ∷ hs) (nothing_more gs)

    -- When a master has been left, each value that came to exist in an object of it has been finalized.
    pub by_leaving :
        (mid last : X) (events : List Event) (m : ℕ) (v : Value)
        → RunOf Steps first events mid → Steps mid (left m) last → Happened (IsBorn v) events → ((storage last).objects v.object).home ≡ m
        → Happened (IsFinalized v) events
    by_leaving mid last events m v run steps is_born home =
        let g = follows mid last (left m) steps in
        let s = event_step (left m) mid last (λ e. cc e) g in
        let other = up_to (left m) last run g in
        let was_born =
        happened_of_seen (IsBorn v) other.shown
        (subst (λ (es : List Event). Happened (IsBorn v) es) (sym other.alike) (happened_seen (IsBorn v) (λ h. h) events is_born)) in
        let ended = runs.by_leaving v s.0 m (storage last) other.run s.1 was_born home in
        happened_of_seen (IsFinalized v) events
        (subst (λ (es : List Event). Happened (IsFinalized v) es) other.alike (happened_seen (IsFinalized v) (λ h. h) other.shown ended))

    -- A whole goes before its parts.
    pub wholes_first :
        (before later : List Event) (x mid last : X) (v : Value) (cause : Cause)
        → RunOf Steps first before x → Steps x (finalized v cause) mid → RunOf Steps mid later last
        → Each (LaterOf cause v.object (λ q. within v.part q (whole_under_way (storage mid).objects (storage mid).control) ≡ 0)) later
    wholes_first before later x mid last v cause run steps rest =
        let g = follows x mid (finalized v cause) steps in
        let s = event_step (finalized v cause) x mid (λ e. cc e) g in
        let other = up_to (finalized v cause) mid run g in
        let more = run_alike rest in
        let P = LaterOf cause v.object (λ q. within v.part q (whole_under_way (storage mid).objects (storage mid).control) ≡ 0) in
        let told = orders.whole_first s.0 g.mid (storage mid) (storage last) more.shown v cause (runs.inv_run other.run runs.first_inv) s.1 more.run in
        each_of_seen P tt later (subst (λ (es : List Event). Each P es) more.alike (each_seen P more.shown told))

    -- With an object its parts come to exist before what they lie in.
    pub parts_first :
        (before : List Event) (x mid : X) (v : Value) → RunOf Steps first before x → Steps x (born v creation) mid
        → (p : ℕ) → 0 < within p v.part ((storage mid).objects v.object).shape → 0 < in_list p (births (λ o. []) before v.object)
    parts_first before x mid v run steps p inside =
        let g = follows x mid (born v creation) steps in
        let s = event_step (born v creation) x mid (λ e. cc e) g in
        let other = up_to (born v creation) mid run g in
        let told = parts.parts_first g.mid other.shown other.run (storage mid) s.0 v s.1 p inside in
        let same_births : births (λ o. []) other.shown ≡ births (λ o. []) before =
        sym (births_seen (λ o. []) other.shown) ∙ ap (λ (es : List Event). births (λ o. []) es) other.alike ∙ births_seen (λ o. []) before in
        subst (λ (B : Births). 0 < in_list p (B v.object)) same_births told

    -- Where an Initialize raised an exception, parts go in the reverse order of their initialization.
    pub rollbacks_reverse :
        (before later : List Event) (x mid last : X) (v : Value) (n : ℕ)
        → RunOf Steps first before x → Steps x (finalized v (undoing n)) mid → RunOf Steps mid later last
        → Each (LaterOf (undoing n) v.object (λ q. Behind q v.part (births (λ o. []) before v.object))) later
    rollbacks_reverse before later x mid last v n run steps rest =
        let g = follows x mid (finalized v (undoing n)) steps in
        let s = event_step (finalized v (undoing n)) x mid (λ e. cc e) g in
        let other = up_to (finalized v (undoing n)) mid run g in
        let more = run_alike rest in
        let told = orders.rollback_reverses other.shown g.mid (storage mid) (storage last) more.shown s.0 v n other.run s.1 more.run in
        let same_births : births (λ o. []) other.shown ≡ births (λ o. []) before =
        sym (births_seen (λ o. []) other.shown) ∙ ap (λ (es : List Event). births (λ o. []) es) other.alike ∙ births_seen (λ o. []) before in
        let P = LaterOf (undoing n) v.object (λ q. Behind q v.part (births (λ o. []) before v.object)) in
        let there_too = subst (λ (B : Births). Each (LaterOf (undoing n) v.object (λ q. Behind q v.part (B v.object))) more.shown) same_births told in
        each_of_seen P tt later (subst (λ (es : List Event). Each P es) more.alike (each_seen P more.shown there_too))

    -- Nothing is finalized that does not exist.
    pub never_erroneous : (last : X) (events : List Event) (choice : Choice) → RunOf Steps first events last → step choice (storage last) ≡ erroneous → ⊥
    never_erroneous last events choice run is = runs.never_erroneous choice (from_first run).run runs.first_inv is
