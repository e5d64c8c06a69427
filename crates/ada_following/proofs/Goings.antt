-- Steps of storage that show one event, from a state that is known.

use Rattle.std.proofs.Common.{◌≡◌, ℕ, suc, Bool, true, List, [], ◌∷◌, ◌++◌, refl, ap, ◌∙◌, inl, inr, subst, arith}
use Rattle.ada_storage.specs.State.{leaving, freeing, Event, born, finalized, back, left, quiet, Owned, declared, collection, Item, Master, Mode, running, raising, Control, acts, leaves, finalizes, frees, State, in_list, listed, assigned, parted, parted_master}
use Rattle.ada_storage.specs.Step.{Choice, goes_on, takes, enters, finishes, raises, catches, collects, deallocates, goes, at, calls, gone, is_above, owns_by, member, frees_by, running_step, raising_step, mode_step, step}
use Rattle.ada_storage.specs.Law.{Run, here, there}
use Rattle.ada_storage.specs.Example.{seen}
use Rattle.ada_storage.specs.Following.{Shows, Goes}
use Rattle.ada_storage.proofs.Invariant.{Inv}
use Rattle.ada_storage.proofs.Runs.{inv_run}

-- A step where no exception is on its way, and one where one is.
pub by_running : (s : State) (k : Control) (c : Choice) (e : Event) (t : State) → s.control ≡ k → s.mode ≡ running → running_step c k s ≡ goes e t → step c s ≡ goes e t
unfolding step
by_running s k c e t is r h = ap (λ (m : Mode). mode_step m c s) r ∙ ap (λ (l : Control). running_step c l s) is ∙ h

pub by_raising : (s : State) (k : Control) (c : Choice) (e : Event) (t : State) → s.control ≡ k → s.mode ≡ raising → raising_step c k s ≡ goes e t → step c s ≡ goes e t
unfolding step
by_raising s k c e t is r h = ap (λ (m : Mode). mode_step m c s) r ∙ ap (λ (l : Control). raising_step c l s) is ∙ h

-- Steps that show nothing.
pub record Silent (s t : State) : Type 0 where
  pub unseen : List Event
  pub run : Run s unseen t
  pub silent : seen unseen ≡ []

seen_both : (es fs : List Event) → seen (es ++ fs) ≡ seen es ++ seen fs
seen_both [] fs = refl
seen_both (born v by ∷ es) fs = ap (λ (gs : List Event). born v by ∷ gs) (seen_both es fs)
seen_both (finalized v cause ∷ es) fs = ap (λ (gs : List Event). finalized v cause ∷ gs) (seen_both es fs)
seen_both (back o cause ∷ es) fs = ap (λ (gs : List Event). back o cause ∷ gs) (seen_both es fs)
seen_both (left m ∷ es) fs = ap (λ (gs : List Event). left m ∷ gs) (seen_both es fs)
seen_both (quiet ∷ es) fs = seen_both es fs

pub run_both : {s t u : State} {es fs : List Event} → Run s es t → Run t fs u → Run s (es ++ fs) u
run_both here more = more
run_both (there choice mid is run) more = there choice mid is (run_both run more)

silent_both : (es fs : List Event) → seen es ≡ [] → seen fs ≡ [] → seen (es ++ fs) ≡ []
silent_both es fs a b = seen_both es fs ∙ ap (λ (gs : List Event). gs ++ seen fs) a ∙ b

pub silent_behind : (es fs : List Event) → seen fs ≡ [] → seen (es ++ fs) ≡ seen es
silent_behind es fs b = seen_both es fs ∙ ap (λ (gs : List Event). seen es ++ gs) b ∙ nothing_more (seen es)
  where
    nothing_more : (gs : List Event) → gs ++ [] ≡ gs
    nothing_more [] = refl
    nothing_more (f ∷ gs) = ap (λ (hs : List Event). f ∷ hs) (nothing_more gs)

pub stands_still : (s t : State) → s ≡ t → Silent s t
stands_still s t is = subst (Silent s) is (record { unseen = []; run = here; silent = refl })

pub one_more : (s a t : State) (c : Choice) → step c s ≡ goes quiet a → Silent a t → Silent s t
one_more s a t c is more = record { unseen = quiet ∷ more.unseen; run = there c a is more.run; silent = more.silent }

pub then_silent : (s a t : State) → Silent s a → Silent a t → Silent s t
then_silent s a t m n = record { unseen = m.unseen ++ n.unseen; run = run_both m.run n.run; silent = silent_both m.unseen n.unseen m.silent n.silent }

pub then_goes : (s a t : State) (e : Event) → Silent s a → Goes e a t → Goes e s t
then_goes s a t e m g = record {
  unseen = m.unseen ++ g.unseen;
  mid = g.mid;
  run = run_both m.run g.run;
  silent = silent_both m.unseen g.unseen m.silent g.silent;
  shows = g.shows;
}

pub goes_silent : (s t : State) → Silent s t → Goes quiet s t
goes_silent s t m = record { unseen = m.unseen; mid = t; run = m.run; silent = m.silent; shows = inl (refl, refl) }

pub silent_holds : (s t : State) → Inv s.alive s.objects s.control s.created s.next → Silent s t → Inv t.alive t.objects t.control t.created t.next
silent_holds s t inv m = inv_run m.run inv

-- One step; none; and some that show nothing.
pub by_step : (s : State) (c : Choice) (e : Event) (t : State) → step c s ≡ goes e t → Goes e s t
by_step s c e t is = record { unseen = []; mid = s; run = here; silent = refl; shows = inr (c, is) }

pub by_none : (s t : State) → s ≡ t → Goes quiet s t
by_none s t is = record { unseen = []; mid = s; run = here; silent = refl; shows = inl (refl, is) }

-- An exception is raised where user code runs, and it is handled there.
moded_by : (s : State) (m : Master) (k : Control) (before after : Mode) → s.control ≡ acts m k → s.mode ≡ before → Goes quiet s (record s { control = acts m k; mode = after })
moded_by s m k running running is r = by_none s (record s { control = acts m k; mode = running }) (λ i. record s { control = is i; mode = r i })
moded_by s m k running raising is r = by_step s raises quiet (record s { control = acts m k; mode = raising }) (by_running s (acts m k) raises quiet _ is r refl)
moded_by s m k raising running is r = by_step s catches quiet (record s { control = acts m k; mode = running }) (by_raising s (acts m k) catches quiet _ is r refl)
moded_by s m k raising raising is r = by_none s (record s { control = acts m k; mode = raising }) (λ i. record s { control = is i; mode = r i })

pub moded : (s : State) (m : Master) (k : Control) (after : Mode) → s.control ≡ acts m k → Goes quiet s (record s { control = acts m k; mode = after })
moded s m k after is = moded_by s m k s.mode after is refl

-- What user code does to a state in which it is about to run.
module _ (s : State) (m : Master) (k : Control) (is : s.control ≡ acts m k) (r : s.mode ≡ running) where
  pub entered : Goes quiet s (calls (acts m k) s)
  entered = by_step s enters quiet (calls (acts m k) s) (by_running s (acts m k) enters quiet _ is r refl)

  pub ended : Goes quiet s (at (leaves m running k) s)
  ended = by_step s finishes quiet (at (leaves m running k) s) (by_running s (acts m k) finishes quiet _ is r refl)

  pub collected : (c : ℕ) → is_above c m.items ≡ true → Goes quiet s (at (acts (record m { items = record { number = c; owned = collection [] } ∷ m.items }) k) s)
  collected c above =
      by_step s (collects c) quiet _ (by_running s (acts m k) (collects c) quiet _ is r (ap (λ (b : Bool). owns_by b c (collection []) m k s) above))

  -- An object is freed.
  abbrev pub with_freed : ℕ → State
  with_freed o = record s { control = frees s.next o ((s.objects o).shape ∷ []) (parted o (acts m k)); next = suc s.next }

  pub freed_one : (o n : ℕ) → listed o (acts m k) ≡ suc n → assigned o (acts m k) ≡ 0 → Goes quiet s (with_freed o)
  freed_one o n l a =
      by_step s (deallocates o) quiet (with_freed o)
      (by_running s (acts m k) (deallocates o) quiet (with_freed o) is r
      (ap (λ (i : ℕ). frees_by i (assigned o (acts m k)) o m k s) l ∙ ap (λ (j : ℕ). frees_by (suc n) j o m k s) a))

-- An exception leaves the master.
pub raised_out : (s : State) (m : Master) (k : Control) → s.control ≡ acts m k → s.mode ≡ raising → Goes quiet s (record s { control = leaves m raising k; mode = running })
raised_out s m k is r = by_step s goes_on quiet _ (by_raising s (acts m k) goes_on quiet _ is r refl)

-- A master with its items, and an item.
abbrev pub master : (number : ℕ) → List Item → Master
master n is = record { number = n; items = is }

abbrev pub item : (number : ℕ) → Owned → Item
item n what = record { number = n; owned = what }

-- The leaving of a master.
module _ (s : State) (n : ℕ) (mode : Mode) (k : Control) (r : s.mode ≡ running) where
  pub left_one : s.control ≡ leaves (master n []) mode k → Goes (left n) s (record s { control = k; mode = mode })
  left_one is = by_step s goes_on (left n) _ (by_running s (leaves (master n []) mode k) goes_on (left n) _ is r refl)

  pub closed_one : (c : ℕ) (is : List Item) → s.control ≡ leaves (master n (item c (collection []) ∷ is)) mode k → Goes quiet s (at (leaves (master n is) mode k) s)
  closed_one c is e = by_step s goes_on quiet _ (by_running s (leaves (master n (item c (collection []) ∷ is)) mode k) goes_on quiet _ e r refl)

  pub taken_one :
      (c x i : ℕ) (os : List ℕ) (is : List Item) → in_list x os ≡ suc i
      → s.control ≡ leaves (master n (item c (collection os) ∷ is)) mode k
      → Goes quiet s (at (finalizes (parted_master x (master n (item c (collection os) ∷ is))) c x ((s.objects x).shape ∷ []) mode (parted x k)) s)
  taken_one c x i [] is some e = absurd (omega (arith, some))
  taken_one c x i (o ∷ os) is some e =
      let m = master n (item c (collection (o ∷ os)) ∷ is) in
      let it = item c (collection (o ∷ os)) in
      by_step s (takes x) quiet _ (by_running s (leaves m mode k) (takes x) quiet _ e r (ap (λ (j : ℕ). member j x it is m mode k s) some))

  pub declared_out :
      (c o : ℕ) (is : List Item) → s.control ≡ leaves (master n (item c (declared o) ∷ is)) mode k
      → Goes quiet s (at (finalizes (master n is) c o ((s.objects o).shape ∷ []) mode k) s)
  declared_out c o is e = by_step s goes_on quiet _ (by_running s (leaves (master n (item c (declared o) ∷ is)) mode k) goes_on quiet _ e r refl)

-- Words of an object go back.
pub taken_back : (s : State) (m : Master) (c o : ℕ) (mode : Mode) (k : Control) → s.control ≡ finalizes m c o [] mode k → s.mode ≡ running → Goes (back o (leaving m.number c)) s (at (leaves m mode k) (gone o s))
taken_back s m c o mode k is r = by_step s goes_on _ _ (by_running s (finalizes m c o [] mode k) goes_on _ _ is r refl)

pub freed_back : (s : State) (n o : ℕ) (k : Control) → s.control ≡ frees n o [] k → s.mode ≡ running → Goes (back o (freeing n)) s (at k (gone o s))
freed_back s n o k is r = by_step s goes_on _ _ (by_running s (frees n o [] k) goes_on _ _ is r refl)

-- The invariant of storage is kept.
abbrev pub Holds : State → Type 0
Holds s = Inv s.alive s.objects s.control s.created s.next

pub goes_holds : (s t : State) (e : Event) → Holds s → Goes e s t → Holds t
goes_holds s t e inv g = go g.shows
  where
    mid : Holds g.mid
    mid = inv_run g.run inv

    go : Shows e g.mid t → Holds t
    go (inl h) = subst Holds h.1 mid
    go (inr (c, is)) = inv_run (there c t is here) mid
