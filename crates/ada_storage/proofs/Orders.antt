-- Of one finalization the whole comes before its parts, and what comes later was left.

use Rattle.std.proofs.Common.{◌≡◌, ℕ, zero, suc, ◌+◌, ◌<◌, ◌≤◌, Bool, true, false, List, [], ◌∷◌, refl, sym, ap, ◌∙◌, ◌⊎◌, inl, inr, subst, arith}
use Rattle.ada_storage.specs.State.{Forest, Value, Cause, freeing, undoing, assigning, Event, born, finalized, back, left, quiet, Control, stops, acts, leaves, finalizes, frees, initializes, undoes, assigns, adjusts, State, bit, same, in_list, in_forest, in_forests, in_items, within, withins, placed}
use Rattle.ada_storage.specs.Step.{Choice, goes, step}
use Rattle.ada_storage.proofs.Invariant.{Alive, Objects, ClosedSoFar, Fits, Sorted, Inv}
use Rattle.ada_storage.specs.Law.{Run, here, there, first_state, Each, LaterOf, Births, and_then, Tail, births, Behind, whole_in, whole_under_way}
use Rattle.ada_storage.proofs.Facts.{same_self, bit_le, part_here, withins_none}
use Rattle.ada_storage.proofs.Deeds.{step_deed}
use Rattle.ada_storage.proofs.Keeps.{ShowsFrame, Shows}
use Rattle.ada_storage.proofs.Steps.{step_good}
use Rattle.ada_storage.proofs.Runs.{first_inv, inv_run}
use Rattle.ada_storage.proofs.History.{History, TailFrame, TailTop, step_passes as history_step}
use Rattle.ada_storage.proofs.Remaining.{Keyed, Old, Rest, rest_alone, step_passes}

-- What is left in the frame of a finalization.
abbrev pub StillFrame : Control → ℕ → Type 0
StillFrame stops q = ⊥
StillFrame (acts m k) q = ⊥
StillFrame (leaves m mode k) q = ⊥
StillFrame (finalizes m i o fs mode k) q = 0 < in_forests q fs
StillFrame (frees n o fs k) q = 0 < in_forests q fs
StillFrame (initializes o joins js done k) q = ⊥
StillFrame (undoes n o done k) q = 0 < in_list q done
StillFrame (assigns n o f fs k) q = 0 < in_forests q fs
StillFrame (adjusts o f js done k) q = ⊥

abbrev pub Still : Control → ℕ → Type 0
Still stops q = ⊥
Still (acts m k) q = StillFrame k q
Still (leaves m mode k) q = ⊥
Still (finalizes m i o fs mode k) q = 0 < in_forests q fs
Still (frees n o fs k) q = 0 < in_forests q fs
Still (initializes o joins js done k) q = ⊥
Still (undoes n o done k) q = 0 < in_list q done
Still (assigns n o f fs k) q = 0 < in_forests q fs
Still (adjusts o f js done k) q = ⊥

rest_older : (n o : ℕ) (P : ℕ → Type 0) (b : ℕ) (k : Control) → b ≤ n → Sorted b k → Rest (assigning n) o P k
rest_older n o P b stops le s = tt
rest_older n o P b (acts m k) le s = (λ h. absurd h, rest_older n o P b k le s.1)
rest_older n o P b (leaves m mode k) le s = (λ h. absurd h, rest_older n o P b k le s.1)
rest_older n o P b (finalizes m i x fs mode k) le s = (λ e is q pos. absurd (cc e), λ h. absurd h, rest_older n o P b k le s.1)
rest_older n o P b (frees z x fs k) le s = (λ e is q pos. absurd (cc e), rest_older n o P b k le s.1)
rest_older n o P b (initializes x joins js done k) le s = (λ h. absurd h, rest_older n o P b k le s)
rest_older n o P b (undoes z x done k) le s = (λ e is q pos. absurd (cc e), rest_older n o P b k le s.1)
rest_older n o P b (assigns z x f fs k) le s = (λ e is q pos. absurd (let i : z ≡ n = cc e in let lt = s.0 in omega (arith, i, lt, le)), rest_older n o P z k (let lt = s.0 in omega (arith, lt, le)) s.1)
rest_older n o P b (adjusts x f js done k) le s = rest_older n o P b k le s

alone_zero : (o x n : ℕ) → x ≡ o → same o x + n ≤ 1 → n ≡ 0
alone_zero o x n is le = let one : same o x ≡ 1 = rw is (same_self o) in omega (arith, one, le)

keyed_not : (c : Cause) (d : Cause) → d ≡ c → (Keyed d → ⊥) → Keyed c → ⊥
keyed_not c d e n h = n (subst Keyed (sym e) h)

rest_frame : (A : Alive) (T : Objects) (b : ℕ) (v : Value) (c : Cause) (k : Control) → ShowsFrame v c k → Fits A T k → Sorted b k → placed v.object k ≤ 1 → Rest c v.object (StillFrame k) k
rest_frame A T b v c (finalizes m i x fs mode k) sh f s le =
    let z = alone_zero v.object x (in_items v.object m.items + placed v.object k) sh.0 le in
    (λ e is q pos. pos, λ h. omega (arith, z), rest_alone A T c v.object _ k (omega (arith, z)) f.2.2)
rest_frame A T b v c (frees n x fs k) sh f s le = (λ e is q pos. pos, rest_alone A T c v.object _ k (alone_zero v.object x (placed v.object k) sh.0 le) f.2)
rest_frame A T b v c (undoes n x done k) sh f s le = (λ e is q pos. pos, rest_alone A T c v.object _ k (alone_zero v.object x (placed v.object k) sh.0 le) f.2)
rest_frame A T b v c (assigns n x g fs k) sh f s le = (λ e is q pos. pos, subst (λ (d : Cause). Rest d v.object (λ q. 0 < in_forests q fs) k) sh.1 (rest_older n v.object _ n k (omega arith) s.1))
rest_frame A T b v c stops sh f s le = absurd sh
rest_frame A T b v c (acts m k) sh f s le = absurd sh
rest_frame A T b v c (leaves m mode k) sh f s le = absurd sh
rest_frame A T b v c (initializes x joins js done k) sh f s le = absurd sh
rest_frame A T b v c (adjusts x g js done k) sh f s le = absurd sh

frame_items : (v : Value) (c : Cause) (k : Control) (n b : ℕ) → ShowsFrame v c k → n + placed v.object k ≤ b → b ≤ 1 → Keyed c → n ≡ 0
frame_items v c (finalizes m i x fs mode k) n b sh le l h = let one : same v.object x ≡ 1 = rw sh.0 (same_self v.object) in omega (arith, one, le, l)
frame_items v c (frees z x fs k) n b sh le l h = absurd (keyed_not c (freeing z) sh.1 (λ g. g) h)
frame_items v c (undoes z x done k) n b sh le l h = absurd (keyed_not c (undoing z) sh.1 (λ g. g) h)
frame_items v c (assigns z x g fs k) n b sh le l h = absurd (keyed_not c (assigning z) sh.1 (λ g. g) h)
frame_items v c stops n b sh le l h = absurd sh
frame_items v c (acts m k) n b sh le l h = absurd sh
frame_items v c (leaves m mode k) n b sh le l h = absurd sh
frame_items v c (initializes x joins js done k) n b sh le l h = absurd sh
frame_items v c (adjusts x g js done k) n b sh le l h = absurd sh

rest_bare : (A : Alive) (T : Objects) (k : Control) {b : ℕ} (n : ℕ) (v : Value) (c : Cause) → Inv A T k b n → ShowsFrame v c k → Rest c v.object (StillFrame k) k
rest_bare A T k n v c inv sh =
    let p = inv.places v.object in
    let le = bit_le (T v.object).lives in
    rest_frame A T n v c k sh inv.fits inv.sorted (omega (arith, p, le))

rest_top : (A : Alive) (T : Objects) (k : Control) {b : ℕ} (n : ℕ) (v : Value) (c : Cause) → Inv A T k b n → Shows v c k → Rest c v.object (Still k) k
rest_top A T (acts m k) n v c inv sh =
    let p = inv.places v.object in
    let le = bit_le (T v.object).lives in
    (λ h. frame_items v c k (in_items v.object m.items) (bit (T v.object).lives) sh (omega (arith, p)) le h, rest_frame A T n v c k sh inv.fits.2 inv.sorted.1 (omega (arith, p, le)))
rest_top A T stops n v c inv sh = absurd sh
rest_top A T (leaves m mode k) n v c inv sh = absurd sh
rest_top A T (finalizes m i x fs mode k) n v c inv sh = rest_bare A T (finalizes m i x fs mode k) n v c inv sh
rest_top A T (frees z x fs k) n v c inv sh = rest_bare A T (frees z x fs k) n v c inv sh
rest_top A T (initializes x joins js done k) n v c inv sh = absurd sh
rest_top A T (undoes z x done k) n v c inv sh = rest_bare A T (undoes z x done k) n v c inv sh
rest_top A T (assigns z x g fs k) n v c inv sh = rest_bare A T (assigns z x g fs k) n v c inv sh
rest_top A T (adjusts x g js done k) n v c inv sh = absurd sh

later_run : {s last : State} {events : List Event} (c : Cause) (o : ℕ) (P : ℕ → Type 0) → Run s events last → Rest c o P s.control → Old c s.next → o < s.created → Each (LaterOf c o P) events
later_run c o P here r old lt = tt
later_run {s} c o P (there {event = e} choice mid is run) r old lt =
    let p = step_passes c o P choice s e mid r old lt is in
    (p.below, later_run c o P run p.past p.lt p.le)

old_frame : (b : ℕ) (v : Value) (c : Cause) (k : Control) → ShowsFrame v c k → Sorted b k → Old c b
old_frame b v c (finalizes m i x fs mode k) sh s = subst (λ (d : Cause). Old d b) sh.1 tt
old_frame b v c (frees z x fs k) sh s = subst (λ (d : Cause). Old d b) sh.1 s.0
old_frame b v c (undoes z x done k) sh s = subst (λ (d : Cause). Old d b) sh.1 s.0
old_frame b v c (assigns z x g fs k) sh s = subst (λ (d : Cause). Old d b) sh.1 s.0
old_frame b v c stops sh s = absurd sh
old_frame b v c (acts m k) sh s = absurd sh
old_frame b v c (leaves m mode k) sh s = absurd sh
old_frame b v c (initializes x joins js done k) sh s = absurd sh
old_frame b v c (adjusts x g js done k) sh s = absurd sh

old_top : (b : ℕ) (v : Value) (c : Cause) (k : Control) → Shows v c k → Sorted b k → Old c b
old_top b v c (acts m k) sh s = old_frame b v c k sh s.1
old_top b v c stops sh s = absurd sh
old_top b v c (leaves m mode k) sh s = absurd sh
old_top b v c (finalizes m i x fs mode k) sh s = old_frame b v c (finalizes m i x fs mode k) sh s
old_top b v c (frees z x fs k) sh s = old_frame b v c (frees z x fs k) sh s
old_top b v c (initializes x joins js done k) sh s = absurd sh
old_top b v c (undoes z x done k) sh s = old_frame b v c (undoes z x done k) sh s
old_top b v c (assigns z x g fs k) sh s = old_frame b v c (assigns z x g fs k) sh s
old_top b v c (adjusts x g js done k) sh s = absurd sh

order_of : (a b : ℕ) → (a < b) ⊎ (b ≤ a)
order_of zero zero = inr (omega arith)
order_of zero (suc b) = inl (omega arith)
order_of (suc a) zero = inr (omega arith)
order_of (suc a) (suc b) = elim (order_of a b) [ inl h ↦ inl (omega (arith, h)) | inr h ↦ inr (omega (arith, h)) ]

alive_old : (A : Alive) (T : Objects) (k : Control) (c n o p : ℕ) → Inv A T k c n → A o p ≡ true → o < c
alive_old A T k c n o p inv a = elim (order_of o c) [ inl h ↦ h | inr h ↦ absurd (let d = inv.dead o (inv.fresh o h) p in let never : true ≡ false = sym a ∙ d in cc never) ]

-- Of one finalization of an object, what comes later was left when a part of it went.
pub later_was_left : (c : Choice) (s mid last : State) (events : List Event) (v : Value) (cause : Cause) → Inv s.alive s.objects s.control s.created s.next → step c s ≡ goes (finalized v cause) mid → Run mid events last → Each (LaterOf cause v.object (Still mid.control)) events
later_was_left c s mid last events v cause inv is run =
    let g = step_good c s (finalized v cause) mid inv is in
    let d = step_deed c s (finalized v cause) mid is in
    later_run cause v.object (Still mid.control) run
    (rest_top mid.alive mid.objects mid.control mid.next v cause g.inv g.says.1)
    (old_top mid.next v cause mid.control g.says.1 g.inv.sorted)
    (let lt = alive_old s.alive s.objects s.control s.created s.next v.object v.part inv d.was in let le = d.older.0 in omega (arith, lt, le))

no_owner : (p q : ℕ) (fs : List Forest) (g : Forest) → in_forests p fs ≡ 0 → ((a b : ℕ) → 0 < in_forests b fs → withins a b fs ≡ within a b g) → 0 < in_forests q fs → within p q g ≡ 0
no_owner p q fs g z agrees pos = let a = agrees p q pos in let w = withins_none p q fs z in omega (arith, a, w)

dead_is : (A : Alive) (o x p : ℕ) → x ≡ o → A o p ≡ false → bit (A x p) ≡ 0
dead_is A o x p is d = rw is (ap bit d)

owner_frame : (A : Alive) (T : Objects) (v : Value) (c : Cause) (k : Control) → ShowsFrame v c k → Fits A T k → A v.object v.part ≡ false → (q : ℕ) → StillFrame k q → within v.part q (whole_in T k) ≡ 0
owner_frame A T v c (finalizes m i x fs mode k) sh f d q pos = no_owner v.part q fs _ (sym (f.0.0 v.part) ∙ dead_is A v.object x v.part sh.0 d) f.0.1 pos
owner_frame A T v c (frees n x fs k) sh f d q pos = no_owner v.part q fs _ (sym (f.0.0 v.part) ∙ dead_is A v.object x v.part sh.0 d) f.0.1 pos
owner_frame A T v c (assigns n x g fs k) sh f d q pos = no_owner v.part q fs g (go (in_forest v.part g) refl) f.0.1 pos
  where
    go : (n : ℕ) → in_forest v.part g ≡ n → in_forests v.part fs ≡ 0
    go zero e = let le = f.1 v.part in omega (arith, le, e)
    go (suc n) e = sym (f.0.0 v.part (omega (arith, e))) ∙ dead_is A v.object x v.part sh.0 d
owner_frame A T v c (undoes n x done k) sh f d q pos = go (within v.part q (T x).shape) refl
  where
    closed : (ps : List ℕ) → ClosedSoFar ps (T x).shape → 0 < in_list q ps → 0 < within v.part q (T x).shape → 0 < in_list v.part ps
    closed [] h p w = absurd (omega (arith, p))
    closed (y ∷ ps) h p w = h.0 v.part q p w

    go : (n : ℕ) → within v.part q (T x).shape ≡ n → within v.part q (T x).shape ≡ 0
    go zero e = e
    go (suc n) e = absurd (let b = dead_is A v.object x v.part sh.0 d in let c = f.0.0 v.part in let h = closed done f.0.1 pos (omega (arith, e)) in omega (arith, b, c, h))
owner_frame A T v c stops sh f d q pos = absurd sh
owner_frame A T v c (acts m k) sh f d q pos = absurd sh
owner_frame A T v c (leaves m mode k) sh f d q pos = absurd sh
owner_frame A T v c (initializes x joins js done k) sh f d q pos = absurd sh
owner_frame A T v c (adjusts x g js done k) sh f d q pos = absurd sh

owner_top : (A : Alive) (T : Objects) (v : Value) (c : Cause) (k : Control) → Shows v c k → Fits A T k → A v.object v.part ≡ false → (q : ℕ) → Still k q → within v.part q (whole_under_way T k) ≡ 0
owner_top A T v c (acts m k) sh f d q pos = owner_frame A T v c k sh f.2 d q pos
owner_top A T v c stops sh f d q pos = absurd sh
owner_top A T v c (leaves m mode k) sh f d q pos = absurd sh
owner_top A T v c (finalizes m i x fs mode k) sh f d q pos = owner_frame A T v c (finalizes m i x fs mode k) sh f d q pos
owner_top A T v c (frees z x fs k) sh f d q pos = owner_frame A T v c (frees z x fs k) sh f d q pos
owner_top A T v c (initializes x joins js done k) sh f d q pos = absurd sh
owner_top A T v c (undoes z x done k) sh f d q pos = owner_frame A T v c (undoes z x done k) sh f d q pos
owner_top A T v c (assigns z x g fs k) sh f d q pos = owner_frame A T v c (assigns z x g fs k) sh f d q pos
owner_top A T v c (adjusts x g js done k) sh f d q pos = absurd sh

later_more : (c : Cause) (o : ℕ) (P Q : ℕ → Type 0) (e : Event) → ((q : ℕ) → P q → Q q) → LaterOf c o P e → LaterOf c o Q e
later_more c o P Q (born v by) h l = tt
later_more c o P Q (finalized v cause) h l = λ e is. h v.part (l e is)
later_more c o P Q (back x cause) h l = tt
later_more c o P Q (left m) h l = tt
later_more c o P Q quiet h l = tt

each_more : (P Q : Event → Type 0) (es : List Event) → ((e : Event) → P e → Q e) → Each P es → Each Q es
each_more P Q [] h l = tt
each_more P Q (e ∷ es) h l = (h e l.0, each_more P Q es h l.1)

-- (f) Of one finalization, no later value is of a part that has this one strictly inside.
pub whole_first : (c : Choice) (s mid last : State) (events : List Event) (v : Value) (cause : Cause) → Inv s.alive s.objects s.control s.created s.next → step c s ≡ goes (finalized v cause) mid → Run mid events last → Each (LaterOf cause v.object (λ q. within v.part q (whole_under_way mid.objects mid.control) ≡ 0)) events
whole_first c s mid last events v cause inv is run =
    let g = step_good c s (finalized v cause) mid inv is in
    let d = step_deed c s (finalized v cause) mid is in
    each_more _ _ events (λ e. later_more cause v.object (Still mid.control) _ e (owner_top mid.alive mid.objects v cause mid.control g.says.1 g.inv.fits (ap (λ (f : ℕ → ℕ → Bool). f v.object v.part) d.alive ∙ part_here s.alive v.object v.part false)))
    (later_was_left c s mid last events v cause inv is run)

pub hist_run : {s last : State} {events : List Event} (B : Births) → Run s events last → Inv s.alive s.objects s.control s.created s.next → History B s.control → ((o : ℕ) → s.created ≤ o → B o ≡ []) → History (births B events) last.control × ((o : ℕ) → last.created ≤ o → births B events o ≡ [])
hist_run B here inv h f = (h, f)
hist_run {s} B (there {event = e} choice mid is run) inv h f =
    let p = history_step B choice s e mid inv h f is in
    hist_run (and_then B e) run (step_good choice s e mid inv is).inv p.past p.fresh

behind_frame : (v : Value) (n : ℕ) (B : Births) (k : Control) → ShowsFrame v (undoing n) k → TailFrame v.part B k → (q : ℕ) → StillFrame k q → Behind q v.part (B v.object)
behind_frame v n B (undoes z x done k) sh t q pos = (done, subst (λ (o : ℕ). Tail (v.part ∷ done) (B o)) sh.0 t, pos)
behind_frame v n B (finalizes m i x fs mode k) sh t q pos = absurd (let e = sh.1 in cc e)
behind_frame v n B (frees z x fs k) sh t q pos = absurd (let e = sh.1 in cc e)
behind_frame v n B (assigns z x g fs k) sh t q pos = absurd (let e = sh.1 in cc e)
behind_frame v n B stops sh t q pos = absurd sh
behind_frame v n B (acts m k) sh t q pos = absurd sh
behind_frame v n B (leaves m mode k) sh t q pos = absurd sh
behind_frame v n B (initializes x joins js done k) sh t q pos = absurd sh
behind_frame v n B (adjusts x g js done k) sh t q pos = absurd sh

behind_top : (v : Value) (n : ℕ) (B : Births) (k : Control) → Shows v (undoing n) k → TailTop v.part B k → (q : ℕ) → Still k q → Behind q v.part (B v.object)
behind_top v n B (acts m k) sh t q pos = behind_frame v n B k sh t q pos
behind_top v n B stops sh t q pos = absurd sh
behind_top v n B (leaves m mode k) sh t q pos = absurd sh
behind_top v n B (finalizes m i x fs mode k) sh t q pos = absurd (let e = sh.1 in cc e)
behind_top v n B (frees z x fs k) sh t q pos = absurd (let e = sh.1 in cc e)
behind_top v n B (initializes x joins js done k) sh t q pos = absurd sh
behind_top v n B (undoes z x done k) sh t q pos = behind_frame v n B (undoes z x done k) sh t q pos
behind_top v n B (assigns z x g fs k) sh t q pos = absurd (let e = sh.1 in cc e)
behind_top v n B (adjusts x g js done k) sh t q pos = absurd sh

-- (g) Of one rollback, what comes later was initialized earlier.
pub rollback_reverses : (before : List Event) (s mid last : State) (events : List Event) (c : Choice) (v : Value) (n : ℕ) → Run first_state before s → step c s ≡ goes (finalized v (undoing n)) mid → Run mid events last → Each (LaterOf (undoing n) v.object (λ q. Behind q v.part (births (λ o. []) before v.object))) events
rollback_reverses before s mid last events c v n sofar is run =
    let inv = inv_run sofar first_inv in
    let h = hist_run (λ o. []) sofar first_inv tt (λ o le. refl) in
    let g = step_good c s (finalized v (undoing n)) mid inv is in
    let p = history_step (births (λ o. []) before) c s (finalized v (undoing n)) mid inv h.0 h.1 is in
    each_more _ _ events (λ e. later_more (undoing n) v.object (Still mid.control) _ e (behind_top v n (births (λ o. []) before) mid.control g.says.1 p.tail))
    (later_was_left c s mid last events v (undoing n) inv is run)
