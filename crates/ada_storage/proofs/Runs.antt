-- The laws over runs.

use Rattle.std.proofs.Common.{◌≡◌, ◌≢◌, ℕ, suc, ◌<◌, ◌≤◌, Bool, true, false, cond, List, [], ◌∷◌, refl, sym, ap, ◌∙◌, ◌⊎◌, inl, inr, subst, arith}
use Rattle.std.specs.Prelude.{◌==◌}
use Rattle.std.proofs.lemmas.Bool.Decides.{eqb_tells}
use Rattle.ada_storage.specs.State.{Value, Cause, leaving, freeing, undoing, assigning, Event, born, finalized, back, left, quiet, State, put_part}
use Rattle.ada_storage.specs.Step.{Choice, erroneous, goes, step}
use Rattle.ada_storage.proofs.Invariant.{Inv, Past}
use Rattle.ada_storage.specs.Law.{Run, here, there, first_state, Each, EachTwo, Happened, NotFinalized, Once, AfterBirth, Elsewhere, BeforeBack, IsFinalized, IsBorn, EventNotAbove, CauseFalls, InReverse}
use Rattle.ada_storage.proofs.Facts.{part_here, part_other, part_there}
use Rattle.ada_storage.proofs.Deeds.{Deed, Older, Dies, Begins, step_deed}
use Rattle.ada_storage.proofs.Keeps.{Good, Fine, CauseSays}
use Rattle.ada_storage.proofs.Passing.{step_passes}
use Rattle.ada_storage.proofs.Steps.{step_fine, step_good}

-- The turn of a part never falls.
turn_at : (f : ℕ → ℕ → ℕ) (o p x q v : ℕ) → v ≡ f o p → f x q ≤ put_part f o p (suc v) x q
turn_at f o p x q v e = elim (eqb_tells x o) [ inl h ↦ at_o h.1 | inr h ↦ (let g = part_there f o p (suc v) x q h.1 in omega (arith, g)) ]
  where
    at_o : x ≡ o → f x q ≤ put_part f o p (suc v) x q
    at_o is = elim (eqb_tells q p) [ inl h ↦ subst (λ (y : ℕ). f y q ≤ put_part f o p (suc v) y q) (sym is) (subst (λ (y : ℕ). f o y ≤ put_part f o p (suc v) o y) (sym h.1) (let g = part_here f o p (suc v) in omega (arith, g, e))) | inr h ↦ (let g = part_other f o p (suc v) x q h.1 in omega (arith, g)) ]

turn_grows : (e : Event) (s t : State) (x q : ℕ) → Deed e s t → s.turn x q ≤ t.turn x q
turn_grows (born v by) s t x q d = let e = ap (λ (f : ℕ → ℕ → ℕ). f x q) d.turns in omega (arith, e)
turn_grows (finalized v cause) s t x q d = let e = ap (λ (f : ℕ → ℕ → ℕ). f x q) d.turns in let g = turn_at s.turn v.object v.part x q v.turn d.turn in omega (arith, e, g)
turn_grows (back o cause) s t x q d = let e = ap (λ (f : ℕ → ℕ → ℕ). f x q) d.turn in omega (arith, e)
turn_grows (left m) s t x q d = let e = ap (λ (f : ℕ → ℕ → ℕ). f x q) d.turn in omega (arith, e)
turn_grows quiet s t x q d = let e = ap (λ (f : ℕ → ℕ → ℕ). f x q) d.turn in omega (arith, e)

-- A value that was passed is not finalized.
not_now : (e : Event) (s t : State) (v : Value) → Deed e s t → v.turn < s.turn v.object v.part → NotFinalized v e
not_now (born w by) s t v d lt = tt
not_now (finalized w cause) s t v d lt = λ is. let g = d.turn in let h = ap (λ (x : Value). x.turn) is in let i = ap (λ (x : Value). s.turn x.object x.part) is in omega (arith, lt, g, h, i)
not_now (back o cause) s t v d lt = tt
not_now (left m) s t v d lt = tt
not_now quiet s t v d lt = tt

never_again : {s last : State} {events : List Event} (v : Value) → Run s events last → v.turn < s.turn v.object v.part → Each (NotFinalized v) events
never_again v here lt = tt
never_again {s} v (there {event = e} choice mid is run) lt =
    let d = step_deed choice s e mid is in
    let g = turn_grows e s mid v.object v.part d in
    (not_now e s mid v d lt, never_again v run (omega (arith, lt, g)))

each_unit : (P : Event → Type 0) (es : List Event) → ((e : Event) → P e) → Each P es
each_unit P [] u = tt
each_unit P (e ∷ es) u = (u e, each_unit P es u)

once_first : (e : Event) (s mid : State) {last : State} {events : List Event} → Deed e s mid → Run mid events last → Each (Once e) events
once_first (born v by) s mid {events = es} d run = each_unit (Once (born v by)) es (λ e. tt)
once_first (finalized v cause) s mid d run = never_again v run (let e = ap (λ (f : ℕ → ℕ → ℕ). f v.object v.part) d.turns in let h = part_here s.turn v.object v.part (suc v.turn) in omega (arith, e, h))
once_first (back o cause) s mid {events = es} d run = each_unit (Once (back o cause)) es (λ e. tt)
once_first (left m) s mid {events = es} d run = each_unit (Once (left m)) es (λ e. tt)
once_first quiet s mid {events = es} d run = each_unit (Once quiet) es (λ e. tt)

-- (a) In every run, of any state, a value is finalized at most once.
pub once : {s last : State} {events : List Event} → Run s events last → EachTwo Once events
once here = tt
once {s} (there {event = e} choice mid is run) = (once_first e s mid (step_deed choice s e mid is) run, once run)

-- What is alive has been born.
abbrev Told : (Value → Type 0) → State → Type 0
Told Born s = (o p : ℕ) → s.alive o p ≡ true → Born (record { object = o; part = p; turn = s.turn o p })

told_same : (Born : Value → Type 0) (s t : State) → t.alive ≡ s.alive → t.turn ≡ s.turn → Told Born s → Told Born t
told_same Born s t a u told o p h = subst (λ (f : ℕ → ℕ → ℕ). Born (record { object = o; part = p; turn = f o p })) (sym u) (told o p (ap (λ (f : ℕ → ℕ → Bool). f o p) (sym a) ∙ h))

value_is : (o p n : ℕ) (v : Value) → o ≡ v.object → p ≡ v.part → n ≡ v.turn → record { object = o; part = p; turn = n } ≡ v
value_is o p n v a b c = λ i. record { object = a i; part = b i; turn = c i }

told_born : (Born : Value → Type 0) (s t : State) (v : Value) → Begins v s t → Told Born s → Told (λ w. Born w ⊎ (w ≡ v)) t
told_born Born s t v d told o p h = elim (eqb_tells o v.object) [ inl g ↦ at_o g.1 (eqb_tells p v.part) | inr g ↦ inl (old (part_there s.alive v.object v.part true o p g.1)) ]
  where
    old : put_part s.alive v.object v.part true o p ≡ s.alive o p → Born (record { object = o; part = p; turn = t.turn o p })
    old e = subst (λ (f : ℕ → ℕ → ℕ). Born (record { object = o; part = p; turn = f o p })) (sym d.turns) (told o p (sym e ∙ ap (λ (f : ℕ → ℕ → Bool). f o p) (sym d.alive) ∙ h))

    at_o : o ≡ v.object → ((p == v.part) ≡ true × (p ≡ v.part)) ⊎ ((p == v.part) ≡ false × (p ≢ v.part)) → Born (record { object = o; part = p; turn = t.turn o p }) ⊎ (record { object = o; part = p; turn = t.turn o p } ≡ v)
    at_o is (inl g) = inr (let e = ap (λ (f : ℕ → ℕ → ℕ). f o p) d.turns in let u = d.turn in let w : s.turn o p ≡ s.turn v.object v.part = rw (is, g.1) refl in value_is o p (t.turn o p) v is g.1 (e ∙ w ∙ sym u))
    at_o is (inr g) = inl (old (part_other s.alive v.object v.part true o p g.1))

told_dies : (Born : Value → Type 0) (s t : State) (v : Value) → Dies v s t → Told Born s → Told Born t
told_dies Born s t v d told o p h = elim (eqb_tells o v.object) [ inl g ↦ at_o g.1 (eqb_tells p v.part) | inr g ↦ old (part_there s.alive v.object v.part false o p g.1) (part_there s.turn v.object v.part (suc v.turn) o p g.1) ]
  where
    now : put_part s.alive v.object v.part false o p ≡ true
    now = ap (λ (f : ℕ → ℕ → Bool). f o p) (sym d.alive) ∙ h

    old : put_part s.alive v.object v.part false o p ≡ s.alive o p → put_part s.turn v.object v.part (suc v.turn) o p ≡ s.turn o p → Born (record { object = o; part = p; turn = t.turn o p })
    old e u = subst (λ (n : ℕ). Born (record { object = o; part = p; turn = n })) (sym (ap (λ (f : ℕ → ℕ → ℕ). f o p) d.turns ∙ u)) (told o p (sym e ∙ now))

    at_o : o ≡ v.object → ((p == v.part) ≡ true × (p ≡ v.part)) ⊎ ((p == v.part) ≡ false × (p ≢ v.part)) → Born (record { object = o; part = p; turn = t.turn o p })
    at_o is (inl g) = let dead = part_here s.alive v.object v.part false in let e : put_part s.alive v.object v.part false v.object v.part ≡ true = subst (λ (x : ℕ). put_part s.alive v.object v.part false x v.part ≡ true) is (subst (λ (y : ℕ). put_part s.alive v.object v.part false o y ≡ true) g.1 now) in let never : true ≡ false = sym e ∙ dead in absurd (cc never)
    at_o is (inr g) = old (part_other s.alive v.object v.part false o p g.1) (part_other s.turn v.object v.part (suc v.turn) o p g.1)

after_birth_go : (e : Event) (s mid : State) (events : List Event) (Born : Value → Type 0) → Deed e s mid → Told Born s → ((Born : Value → Type 0) → Told Born mid → AfterBirth Born events) → AfterBirth Born (e ∷ events)
after_birth_go (born v by) s mid events Born d told more = more (λ w. Born w ⊎ (w ≡ v)) (told_born Born s mid v d told)
after_birth_go (finalized v cause) s mid events Born d told more = (subst (λ (n : ℕ). Born (record { object = v.object; part = v.part; turn = n })) (sym d.turn) (told v.object v.part d.was), more Born (told_dies Born s mid v d told))
after_birth_go (back o cause) s mid events Born d told more = more Born (told_same Born s mid d.alive d.turn told)
after_birth_go (left m) s mid events Born d told more = more Born (told_same Born s mid d.alive d.turn told)
after_birth_go quiet s mid events Born d told more = more Born (told_same Born s mid d.alive d.turn told)

pub after_birth : {s last : State} {events : List Event} (Born : Value → Type 0) → Run s events last → Told Born s → AfterBirth Born events
after_birth Born here told = tt
after_birth {s} Born (there {event = e} {events = es} choice mid is run) told = after_birth_go e s mid es Born (step_deed choice s e mid is) told (λ B t. after_birth B run t)

-- (a) and only after it was born.
pub only_after_birth : {last : State} {events : List Event} → Run first_state events last → AfterBirth (λ v. ⊥) events
only_after_birth run = after_birth (λ v. ⊥) run (λ o p h. absurd (cc h))

-- The first state.
pub first_inv : Inv first_state.alive first_state.objects first_state.control first_state.created first_state.next
first_inv = record { fits = (tt, omega arith, tt); places = λ x. refl; dead = λ x d q. refl; fresh = λ x h. refl; tops = omega arith; sorted = (tt, tt) }

pub never_erroneous : {s last : State} {events : List Event} (c : Choice) → Run s events last → Inv s.alive s.objects s.control s.created s.next → step c last ≡ erroneous → ⊥
never_erroneous {s} c here inv is = subst (Fine s.objects) is (step_fine c s inv)
never_erroneous {s} c (there {event = e} choice mid next' run) inv is = never_erroneous c run (step_good choice s e mid inv next').inv is

-- (b) What is gone is never touched again.
older_of : (e : Event) (s t : State) → Deed e s t → Older s.objects s.created t.objects t.created
older_of (born v by) s t d = d.older
older_of (finalized v cause) s t d = d.older
older_of (back o cause) s t d = d.older
older_of (left m) s t d = d.older
older_of quiet s t d = d.older

elsewhere : (o : ℕ) (e : Event) (s t : State) → Inv s.alive s.objects s.control s.created s.next → Deed e s t → Good s.objects e t → (s.objects o).lives ≡ false → (t.objects o).lives ≡ false → Elsewhere o e
elsewhere o (born v by) s t inv d g dead later = λ is.
    let a : t.alive v.object v.part ≡ true = ap (λ (f : ℕ → ℕ → Bool). f v.object v.part) d.alive ∙ part_here s.alive v.object v.part true in
    let b = g.inv.dead v.object (rw is later) v.part in
    let never : true ≡ false = sym a ∙ b in cc never
elsewhere o (finalized v cause) s t inv d g dead later = λ is.
    let b = inv.dead v.object (rw is dead) v.part in
    let never : true ≡ false = sym d.was ∙ b in cc never
elsewhere o (back x cause) s t inv d g dead later = λ is.
    let b : (s.objects x).lives ≡ false = rw is dead in
    let never : true ≡ false = sym g.says.3 ∙ b in cc never
elsewhere o (left m) s t inv d g dead later = tt
elsewhere o quiet s t inv d g dead later = tt

untouched : {s last : State} {events : List Event} (o : ℕ) → Run s events last → Inv s.alive s.objects s.control s.created s.next → (s.objects o).lives ≡ false → o < s.created → Each (Elsewhere o) events
untouched o here inv dead lt = tt
untouched {s} o (there {event = e} choice mid is run) inv dead lt =
    let d = step_deed choice s e mid is in
    let g = step_good choice s e mid inv is in
    let old = older_of e s mid d in
    let later = (old.1 o lt).0 dead in
    (elsewhere o e s mid inv d g dead later, untouched o run g.inv later (let le = old.0 in omega (arith, le, lt)))

back_first : (e : Event) (s mid : State) {last : State} {events : List Event} → Good s.objects e mid → Run mid events last → Each (BeforeBack e) events
back_first (born v by) s mid {events = es} g run = each_unit (BeforeBack (born v by)) es (λ e. tt)
back_first (finalized v cause) s mid {events = es} g run = each_unit (BeforeBack (finalized v cause)) es (λ e. tt)
back_first (back o cause) s mid g run = untouched o run g.inv g.says.1 g.says.2
back_first (left m) s mid {events = es} g run = each_unit (BeforeBack (left m)) es (λ e. tt)
back_first quiet s mid {events = es} g run = each_unit (BeforeBack quiet) es (λ e. tt)

pub before_back : {s last : State} {events : List Event} → Run s events last → Inv s.alive s.objects s.control s.created s.next → EachTwo BeforeBack events
before_back here inv = tt
before_back {s} (there {event = e} choice mid is run) inv =
    let g = step_good choice s e mid inv is in
    (back_first e s mid g run, before_back run g.inv)

-- (d) Of one leaving, items go from the newest to the oldest.
falls_on : {s last : State} {events : List Event} (m i : ℕ) → Run s events last → Past m i s.control → m < s.next → Each (EventNotAbove m i) events
falls_on m i here past lt = tt
falls_on {s} m i (there {event = e} choice mid is run) past lt =
    let p = step_passes m i choice s e mid past lt is in
    (p.below, falls_on m i run p.past p.lt)

cause_first : (cause : Cause) (mid : State) {last : State} {events : List Event} → CauseSays cause mid.control mid.next → Run mid events last → Each (CauseFalls cause) events
cause_first (leaving m i) mid says run = falls_on m i run says.0 says.1
cause_first (freeing x) mid {events = es} says run = each_unit (CauseFalls (freeing x)) es (λ e. tt)
cause_first (undoing x) mid {events = es} says run = each_unit (CauseFalls (undoing x)) es (λ e. tt)
cause_first (assigning x) mid {events = es} says run = each_unit (CauseFalls (assigning x)) es (λ e. tt)

reverse_first : (e : Event) (s mid : State) {last : State} {events : List Event} → Good s.objects e mid → Run mid events last → Each (InReverse e) events
reverse_first (born v by) s mid {events = es} g run = each_unit (InReverse (born v by)) es (λ e. tt)
reverse_first (finalized v cause) s mid g run = cause_first cause mid g.says.0 run
reverse_first (back o cause) s mid g run = cause_first cause mid g.says.0 run
reverse_first (left m) s mid {events = es} g run = each_unit (InReverse (left m)) es (λ e. tt)
reverse_first quiet s mid {events = es} g run = each_unit (InReverse quiet) es (λ e. tt)

pub in_reverse : {s last : State} {events : List Event} → Run s events last → Inv s.alive s.objects s.control s.created s.next → EachTwo InReverse events
in_reverse here inv = tt
in_reverse {s} (there {event = e} choice mid is run) inv =
    let g = step_good choice s e mid inv is in
    (reverse_first e s mid g run, in_reverse run g.inv)

-- (c) A value that is alive stays so, or is finalized.
lasts_on : (e : Event) (s t : State) (v : Value) → Deed e s t → (s.alive v.object v.part ≡ true) × (s.turn v.object v.part ≡ v.turn) → IsFinalized v e ⊎ ((t.alive v.object v.part ≡ true) × (t.turn v.object v.part ≡ v.turn))
lasts_on (born w by) s t v d a = inr (ap (λ (f : ℕ → ℕ → Bool). f v.object v.part) d.alive ∙ still, ap (λ (f : ℕ → ℕ → ℕ). f v.object v.part) d.turns ∙ a.1)
  where
    still : put_part s.alive w.object w.part true v.object v.part ≡ true
    still = go (v.object == w.object) (v.part == w.part)
      where
        go : (b c : Bool) → cond b (cond c true (s.alive v.object v.part)) (s.alive v.object v.part) ≡ true
        go true true = refl
        go true false = a.0
        go false c = a.0
lasts_on (finalized w cause) s t v d a = elim (eqb_tells v.object w.object) [ inl h ↦ elim (eqb_tells v.part w.part) [ inl g ↦ inl (sym (value_is v.object v.part v.turn w h.1 g.1 (let u = d.turn in let x : s.turn v.object v.part ≡ s.turn w.object w.part = (let i = h.1 in let j = g.1 in rw (i, j) refl) in sym a.1 ∙ x ∙ sym u))) | inr g ↦ kept (part_other s.alive w.object w.part false v.object v.part g.1) (part_other s.turn w.object w.part (suc w.turn) v.object v.part g.1) ] | inr h ↦ kept (part_there s.alive w.object w.part false v.object v.part h.1) (part_there s.turn w.object w.part (suc w.turn) v.object v.part h.1) ]
  where
    kept : put_part s.alive w.object w.part false v.object v.part ≡ s.alive v.object v.part → put_part s.turn w.object w.part (suc w.turn) v.object v.part ≡ s.turn v.object v.part → IsFinalized v (finalized w cause) ⊎ ((t.alive v.object v.part ≡ true) × (t.turn v.object v.part ≡ v.turn))
    kept x y = inr (ap (λ (f : ℕ → ℕ → Bool). f v.object v.part) d.alive ∙ x ∙ a.0, ap (λ (f : ℕ → ℕ → ℕ). f v.object v.part) d.turns ∙ y ∙ a.1)
lasts_on (back o cause) s t v d a = inr (ap (λ (f : ℕ → ℕ → Bool). f v.object v.part) d.alive ∙ a.0, ap (λ (f : ℕ → ℕ → ℕ). f v.object v.part) d.turn ∙ a.1)
lasts_on (left m) s t v d a = inr (ap (λ (f : ℕ → ℕ → Bool). f v.object v.part) d.alive ∙ a.0, ap (λ (f : ℕ → ℕ → ℕ). f v.object v.part) d.turn ∙ a.1)
lasts_on quiet s t v d a = inr (ap (λ (f : ℕ → ℕ → Bool). f v.object v.part) d.alive ∙ a.0, ap (λ (f : ℕ → ℕ → ℕ). f v.object v.part) d.turn ∙ a.1)

lasts_run : {s last : State} {events : List Event} (v : Value) → Run s events last → (s.alive v.object v.part ≡ true) × (s.turn v.object v.part ≡ v.turn) → Happened (IsFinalized v) events ⊎ ((last.alive v.object v.part ≡ true) × (last.turn v.object v.part ≡ v.turn))
lasts_run v here a = inr a
lasts_run {s} v (there {event = e} choice mid is run) a = elim (lasts_on e s mid v (step_deed choice s e mid is) a) [ inl f ↦ inl (inl f) | inr b ↦ elim (lasts_run v run b) [ inl f ↦ inl (inr f) | inr c ↦ inr c ] ]

born_lasts : (e : Event) (s t : State) (v : Value) → Deed e s t → IsBorn v e → (t.alive v.object v.part ≡ true) × (t.turn v.object v.part ≡ v.turn)
born_lasts (born w by) s t v d is = subst (λ (x : Value). (t.alive x.object x.part ≡ true) × (t.turn x.object x.part ≡ x.turn)) is (ap (λ (f : ℕ → ℕ → Bool). f w.object w.part) d.alive ∙ part_here s.alive w.object w.part true, ap (λ (f : ℕ → ℕ → ℕ). f w.object w.part) d.turns ∙ sym d.turn)
born_lasts (finalized w cause) s t v d is = absurd is
born_lasts (back o cause) s t v d is = absurd is
born_lasts (left m) s t v d is = absurd is
born_lasts quiet s t v d is = absurd is

-- What was born is alive, or was finalized.
pub born_run : {s last : State} {events : List Event} (v : Value) → Run s events last → Happened (IsBorn v) events → Happened (IsFinalized v) events ⊎ (last.alive v.object v.part ≡ true)
born_run v here b = absurd b
born_run {s} v (there {event = e} choice mid is run) (inl b) = elim (lasts_run v run (born_lasts e s mid v (step_deed choice s e mid is) b)) [ inl f ↦ inl (inr f) | inr a ↦ inr a.0 ]
born_run v (there choice mid is run) (inr b) = elim (born_run v run b) [ inl f ↦ inl (inr f) | inr a ↦ inr a ]

pub inv_run : {s last : State} {events : List Event} → Run s events last → Inv s.alive s.objects s.control s.created s.next → Inv last.alive last.objects last.control last.created last.next
inv_run here inv = inv
inv_run {s} (there {event = e} choice mid is run) inv = inv_run run (step_good choice s e mid inv is).inv

-- (c) When a master is left, each value that was born in an object of it has been finalized.
pub by_leaving : {mid : State} {events : List Event} (v : Value) (c : Choice) (m : ℕ) (t : State) → Run first_state events mid → step c mid ≡ goes (left m) t → Happened (IsBorn v) events → (t.objects v.object).home ≡ m → Happened (IsFinalized v) events
by_leaving {mid} v c m t run is b home = elim (born_run v run b) [ inl f ↦ f | inr a ↦ absurd (still a) ]
  where
    still : mid.alive v.object v.part ≡ true → ⊥
    still a =
        let g = step_good c mid (left m) t (inv_run run first_inv) is in
        let d = step_deed c mid (left m) t is in
        go (t.objects v.object).lives refl g.inv.dead (ap (λ (f : ℕ → ℕ → Bool). f v.object v.part) d.alive ∙ a) g.says.0
      where
        go : (b' : Bool) → (t.objects v.object).lives ≡ b' → ((x : ℕ) → (t.objects x).lives ≡ false → (q : ℕ) → t.alive x q ≡ false) → t.alive v.object v.part ≡ true → ((o : ℕ) → (t.objects o).lives ≡ true → (t.objects o).home ≡ m → ⊥) → ⊥
        go true l dead a' says = says v.object l home
        go false l dead a' says = let n = dead v.object l v.part in let never : true ≡ false = sym a' ∙ n in cc never
