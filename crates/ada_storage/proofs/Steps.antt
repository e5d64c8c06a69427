-- Every step keeps the invariant: initialization, leaving, user code.

use Rattle.std.proofs.Common.{◌≡◌, ◌≢◌, ℕ, zero, suc, ◌+◌, ◌<◌, ◌≤◌, Bool, true, false, cond, List, [], ◌∷◌, refl, sym, ap, ◌∙◌, ◌⊎◌, inl, inr, subst, arith}
use Rattle.std.specs.Prelude.{◌==◌}
use Rattle.std.proofs.lemmas.Bool.Decides.{eqb_tells, leb_tells}
use Rattle.ada_storage.specs.State.{Forest, none, tree, undoing, Event, quiet, Owned, declared, collection, Item, Master, Joins, to_items, to_collection, Job, all_in, call, called, Mode, running, raising, Control, stops, acts, leaves, finalizes, frees, initializes, undoes, assigns, adjusts, Object, State, put, put_part, bit, same, in_list, in_forest, in_jobs, within, in_items, placed, listed, assigned, opens, parted, in_members, joined, is_top, kids_of, others_of}
use Rattle.ada_storage.specs.Step.{birth_of, Simple, Choice, goes_on, takes, joins_as, enters, finishes, raises, catches, declares, collects, allocates, deallocates, copies, goes, at, calls, finalize, at_leaving, at_free, at_assignment, Beginning, at_creation, at_adjustment, frame_of, is_above, owns_by, joins_items, joins_by, begun, begins_part, begins, rolls_back, member, leave_owned, leave, allocates_by, frees_by, all_alive, copies_by, act, running_step, raising_act, raising_step, mode_step, step}
use Rattle.ada_storage.specs.Law.{top}
use Rattle.ada_storage.proofs.Invariant.{Alive, Objects, alive_by, after, HomeFits, Closed, ClosedSoFar, JobsFit, Fits, Falls, Fall, Sorted, Inv}
use Rattle.ada_storage.proofs.Facts.{same_self, same_other, put_here, put_there, part_there, top_counts, bit_le, is_alive, part_dies, born_counts, within_there, kids_inside, kept_inside}
use Rattle.ada_storage.proofs.Stack.{fits_same, items_self, placed_parted, placed_self, top_parted, items_fit_parted, fits_parted, fall_of, falls_more, falls_parted, sorted_more, sorted_parted}
use Rattle.ada_storage.proofs.Joining.{placed_joined, top_joined, fits_joined, sorted_joined, placed_home, items_home, home_le, assigned_placed, items_full, listed_full}
use Rattle.ada_storage.proofs.Keeps.{BirthSays, Fine, Good, lives_of, below_next, moves_on, inv_calls, die_core, other_parts, held, after_part, finalize_fine, gone_core, gone_lives, ends_fine}

-- An assignment whose parts are alive changes nothing for the frames below.
after_full : (A : Alive) (o : ℕ) (f : Forest) → ((q : ℕ) → 0 < in_forest q f → A o q ≡ true) → (y q : ℕ) → after A o f y q ≡ A y q
after_full A o f alive y q = elim (eqb_tells y o) [ inl h ↦ (ap (λ b. cond b (alive_by (in_forest q f) (A y q)) (A y q)) h.0 ∙ at_o (in_forest q f) (λ pos. subst (λ (z : ℕ). A z q ≡ true) (sym h.1) (alive q pos))) | inr h ↦ ap (λ b. cond b (alive_by (in_forest q f) (A y q)) (A y q)) h.0 ]
  where
    at_o : (n : ℕ) → (0 < n → A y q ≡ true) → alive_by n (A y q) ≡ A y q
    at_o zero a = refl
    at_o (suc n) a = sym (a (omega arith))

falls_below : (c : ℕ) (is : List Item) → is_above c is ≡ true → Fall is → Falls c is
falls_below c [] e f = tt
falls_below c (i ∷ is) e f = elim (leb_tells (suc i.number) c) [ inl h ↦ (omega (arith, h.1), f) | inr h ↦ absurd (let never : true ≡ false = sym e ∙ h.0 in cc never) ]

owns_fine : (b : Bool) (c : ℕ) (o : ℕ) (done : List ℕ) (m : Master) (k : Control) (s : State) → is_above c m.items ≡ b → Inv s.alive s.objects (initializes o to_items [] done (acts m k)) s.created s.next → Fine s.objects (owns_by b c (declared o) m k s)
owns_fine false c o done m k s e inv = tt
owns_fine true c o done m k s e inv =
    let w = inv.fits in
    record {
      inv = moves_on s.alive s.objects (initializes o to_items [] done (acts m k)) _ s.next s.next inv (omega arith)
          (((λ q. w.0 q ∙ (let h = w.1 q in omega (arith, h)), w.3), w.4.0), w.4.1, w.4.2)
          (λ x. omega arith) inv.tops (falls_below c m.items e inv.sorted.0, inv.sorted.1);
      says = tt;
    }

joins_items_fine : (c : ℕ) (k : Control) (o : ℕ) (done : List ℕ) (s : State) → Inv s.alive s.objects (initializes o to_items [] done k) s.created s.next → Fine s.objects (joins_items c k o s)
joins_items_fine c (acts m k) o done s inv = owns_fine (is_above c m.items) c o done m k s refl inv
joins_items_fine c k o done s inv = tt

if_bit : (b : Bool) → cond b 1 0 ≡ bit b
if_bit true = refl
if_bit false = refl

joins_by_fine : (n a c o : ℕ) (k : Control) (done : List ℕ) (s : State) → opens a c k ≡ n → Inv s.alive s.objects (initializes o (to_collection a c) [] done k) s.created s.next → Fine s.objects (joins_by n a c o k s)
joins_by_fine (suc zero) a c o k done s is inv =
    let w = inv.fits in
    let one = same_self o in
    let le = bit_le (s.objects o).lives in
    let p = inv.places o in
    record {
      inv = moves_on s.alive s.objects (initializes o (to_collection a c) [] done k) (joined a c o k) s.next s.next inv (omega arith)
          (fits_joined s.alive s.objects a c o k (omega (arith, one, le, p)) (λ q. w.0 q ∙ (let h = w.1 q in omega (arith, h)), w.3.0) w.4)
          (λ x. let h = placed_joined a c o x k in let g = ap (λ n. cond (x == o) n 0) is in let b = if_bit (x == o) in omega (arith, h, g, b))
          (rw (top_joined a c o k) inv.tops) (sorted_joined s.next a c o k inv.sorted);
      says = tt;
    }
joins_by_fine zero a c o k done s is inv = tt
joins_by_fine (suc (suc n)) a c o k done s is inv = tt

begun_fine : (c : Choice) (beginning : Beginning) (o : ℕ) (done : List ℕ) (s : State) → Inv s.alive s.objects (frame_of beginning o [] done) s.created s.next → Fine s.objects (begun c beginning o s)
begun_fine (joins_as c) (at_creation to_items k) o done s inv = joins_items_fine c k o done s inv
begun_fine goes_on (at_creation (to_collection a c) k) o done s inv = joins_by_fine (opens a c k) a c o k done s refl inv
begun_fine goes_on (at_adjustment f k) o done s inv =
    let w = inv.fits in
    record {
      inv = moves_on s.alive s.objects (adjusts o f [] done k) k s.next s.next inv (omega arith)
          (fits_same (after s.alive o f) s.objects s.alive s.objects k (λ y pos. (λ q. sym (after_full s.alive o f (λ p h. let d = w.0 p h in let c = w.1 p in let sm = w.2 p in is_alive (s.alive o p) 0 (omega (arith, d, c, sm, h))) y q), refl)) w.4)
          (λ x. refl) inv.tops inv.sorted;
      says = tt;
    }
begun_fine c beginning o done s inv = tt

taken_jobs : (x : ℕ) (f : Forest) (js : List Job) (done : List ℕ) (g : Forest) → is_top x f ≡ true → Simple g → ((q : ℕ) → in_list q done + in_jobs q (all_in f ∷ js) ≡ in_forest q g) → JobsFit (all_in f ∷ js) g → JobsFit (all_in (kids_of x f) ∷ call x ∷ all_in (others_of x f) ∷ js) g
taken_jobs x f js done g e simple counts jobs = (
  λ p q pos. (let c = top_counts x f q e in (kept_inside x f p q e (le q)).0 pos ∙ jobs.0 p q (omega (arith, c, pos))),
  (
    (λ p pos. (let c = counts p in let sm = simple p in let t = top_counts x f p e in let k = kids_inside x f p e (le x) in let a = jobs.0 p x (there x) in omega (arith, c, sm, t, k, a, pos))),
    (
      (λ p q pos. (let c = top_counts x f q e in (kept_inside x f p q e (le q)).1 pos ∙ jobs.0 p q (omega (arith, c, pos)))),
      jobs.1,
    ),
  ),
)
  where
    le : (q : ℕ) → in_forest q f ≤ 1
    le q = let c = counts q in let sm = simple q in omega (arith, c, sm)

    there : (y : ℕ) → 0 < in_forest x f
    there y = let c = top_counts x f x e in let one = same_self x in omega (arith, c, one)

begins_part_fine : (b : Bool) (x : ℕ) (beginning : Beginning) (o : ℕ) (f : Forest) (js : List Job) (done : List ℕ) (s : State) → is_top x f ≡ b → Inv s.alive s.objects (frame_of beginning o (all_in f ∷ js) done) s.created s.next → Fine s.objects (begins_part b x beginning o f js done s)
begins_part_fine false x beginning o f js done s e inv = tt
begins_part_fine true x (at_creation joins k) o f js done s e inv =
    let w = inv.fits in
    record { inv = moves_on s.alive s.objects (initializes o joins (all_in f ∷ js) done k) _ s.next s.next inv (omega arith) (w.0, λ q. let h = top_counts x f q e in let c = w.1 q in omega (arith, h, c), (w.2.0, taken_jobs x f js done (s.objects o).shape e w.2.0 w.1 w.2.1, w.2.2), w.3, w.4) (λ y. refl) inv.tops inv.sorted; says = tt }
begins_part_fine true x (at_adjustment g k) o f js done s e inv =
    let w = inv.fits in
    record { inv = moves_on s.alive s.objects (adjusts o g (all_in f ∷ js) done k) _ s.next s.next inv (omega arith) (w.0, λ q. let h = top_counts x f q e in let c = w.1 q in omega (arith, h, c), w.2, w.3, w.4) (λ y. refl) inv.tops inv.sorted; says = tt }

none_begins : (beginning : Beginning) (o : ℕ) (js : List Job) (done : List ℕ) (s : State) → Inv s.alive s.objects (frame_of beginning o (all_in none ∷ js) done) s.created s.next → Good s.objects quiet (at (frame_of beginning o js done) s)
none_begins (at_creation joins k) o js done s inv =
    let w = inv.fits in
    record { inv = moves_on s.alive s.objects (initializes o joins (all_in none ∷ js) done k) _ s.next s.next inv (omega arith) (w.0, λ q. let c = w.1 q in omega (arith, c), (w.2.0, w.2.1.1, w.2.2), w.3, w.4) (λ y. refl) inv.tops inv.sorted; says = tt }
none_begins (at_adjustment g k) o js done s inv =
    let w = inv.fits in
    record { inv = moves_on s.alive s.objects (adjusts o g (all_in none ∷ js) done k) _ s.next s.next inv (omega arith) (w.0, λ q. let c = w.1 q in omega (arith, c), w.2, w.3, w.4) (λ y. refl) inv.tops inv.sorted; says = tt }

calls_begins : (beginning : Beginning) (o p : ℕ) (js : List Job) (done : List ℕ) (s : State) → Inv s.alive s.objects (frame_of beginning o (call p ∷ js) done) s.created s.next → Good s.objects quiet (calls (frame_of beginning o (called p ∷ js) done) s)
calls_begins (at_creation joins k) o p js done s inv = record { inv = inv_calls s.alive s.objects (initializes o joins (called p ∷ js) done k) s.next (moves_on s.alive s.objects (initializes o joins (call p ∷ js) done k) _ s.next s.next inv (omega arith) inv.fits (λ y. refl) inv.tops inv.sorted); says = tt }
calls_begins (at_adjustment g k) o p js done s inv = record { inv = inv_calls s.alive s.objects (adjusts o g (called p ∷ js) done k) s.next (moves_on s.alive s.objects (adjusts o g (call p ∷ js) done k) _ s.next s.next inv (omega arith) inv.fits (λ y. refl) inv.tops inv.sorted); says = tt }

-- A part is born.
born_core : (A : Alive) (T : Objects) (k l : Control) (n o x : ℕ) {c : ℕ} → Inv A T k c n → (T o).lives ≡ true → Fits (put_part A o x true) T l → ((y : ℕ) → placed y l ≡ placed y k) → top l ≡ top k → Sorted n l → Inv (put_part A o x true) T l c n
born_core A T k l n o x inv lives fits places tops sorted = record {
  fits = fits;
  places = λ y. places y ∙ inv.places y;
  dead = λ y d q. part_there A o x true y q (λ e. let l = subst (λ (z : ℕ). (T z).lives ≡ true) (sym e) lives in absurd (cc (l, d))) ∙ inv.dead y d q;
  fresh = inv.fresh;
  tops = rw tops inv.tops;
  sorted = sorted;
}

now_closed : (done : List ℕ) (g : Forest) → ClosedSoFar done g → Closed done g
now_closed [] g c = λ p q pos h. absurd (omega (arith, pos))
now_closed (x ∷ done) g c = c.0

born_closed : (x : ℕ) (js : List Job) (done : List ℕ) (g : Forest) → ((q : ℕ) → in_list q done + in_jobs q (called x ∷ js) ≡ in_forest q g) → ((p : ℕ) → 0 < within p x g → in_jobs p js ≡ 0) → Closed done g → Closed (x ∷ done) g
born_closed x js done g counts jobs closed p q pos h = elim (eqb_tells q x) [ inl i ↦ at_x i.1 | inr i ↦ (let z = same_other q x i.1 in let c = closed p q (omega (arith, z, pos)) h in omega (arith, c)) ]
  where
    at_x : q ≡ x → 0 < in_list p (x ∷ done)
    at_x is = let h' = subst (λ (y : ℕ). 0 < within p y g) is h in let j = jobs p h' in let c = counts p in let t = within_there p x (in_forest p g) g refl h' in omega (arith, j, c, t)

born_begins : (beginning : Beginning) (o p : ℕ) (js : List Job) (done : List ℕ) (s : State) → Inv s.alive s.objects (frame_of beginning o (called p ∷ js) done) s.created s.next → Inv (put_part s.alive o p true) s.objects (frame_of beginning o js (p ∷ done)) s.created s.next
born_begins (at_creation joins k) o p js done s inv =
    let w = inv.fits in
    born_core s.alive s.objects (initializes o joins (called p ∷ js) done k) _ s.next o p inv (lives_of o inv (let one = same_self o in omega (arith, one))) (
      λ q. born_counts s.alive o p q (in_list q done) (w.0 q) (let c = w.1 q in let sm = w.2.0 q in omega (arith, c, sm)),
      λ q. let c = w.1 q in omega (arith, c),
      (w.2.0, w.2.1.1, (born_closed p js done (s.objects o).shape w.1 w.2.1.0 (now_closed done (s.objects o).shape w.2.2), w.2.2)),
      w.3,
      fits_same s.alive s.objects (put_part s.alive o p true) s.objects k (λ y pos. other_parts s.alive s.objects o p true y (held s.objects o k (inv.places o) y pos)) w.4,
    )
    (λ y. refl) refl inv.sorted
born_begins (at_adjustment g k) o p js done s inv =
    let w = inv.fits in
    let one = same_self p in
    let cp = w.1 p in
    let in_g : 0 < in_forest p g = omega (arith, one, cp) in
    born_core s.alive s.objects (adjusts o g (called p ∷ js) done k) _ s.next o p inv (lives_of o inv w.3) (
      λ q pos. born_counts s.alive o p q (in_list q done) (w.0 q pos) (let c = w.1 q in let sm = w.2 q in omega (arith, c, sm)),
      λ q. let c = w.1 q in omega (arith, c),
      w.2,
      w.3,
      fits_same (after s.alive o g) s.objects (after (put_part s.alive o p true) o g) s.objects k (λ y pos. (λ q. after_part s.alive o p g true in_g y q, refl)) w.4,
    )
    (λ y. refl) refl inv.sorted

born_at_once : (beginning : Beginning) (o p : ℕ) (js : List Job) (done : List ℕ) (s : State) → Inv s.alive s.objects (frame_of beginning o (call p ∷ js) done) s.created s.next → Inv (put_part s.alive o p true) s.objects (frame_of beginning o js (p ∷ done)) s.created s.next
born_at_once (at_creation joins k) o p js done s inv =
    let w = inv.fits in
    born_core s.alive s.objects (initializes o joins (call p ∷ js) done k) _ s.next o p inv (lives_of o inv (let one = same_self o in omega (arith, one))) (
      λ q. born_counts s.alive o p q (in_list q done) (w.0 q) (let c = w.1 q in let sm = w.2.0 q in omega (arith, c, sm)),
      λ q. let c = w.1 q in omega (arith, c),
      (w.2.0, w.2.1.1, (born_closed p js done (s.objects o).shape w.1 w.2.1.0 (now_closed done (s.objects o).shape w.2.2), w.2.2)),
      w.3,
      fits_same s.alive s.objects (put_part s.alive o p true) s.objects k (λ y pos. other_parts s.alive s.objects o p true y (held s.objects o k (inv.places o) y pos)) w.4,
    )
    (λ y. refl) refl inv.sorted
born_at_once (at_adjustment g k) o p js done s inv =
    let w = inv.fits in
    let one = same_self p in
    let cp = w.1 p in
    let in_g : 0 < in_forest p g = omega (arith, one, cp) in
    born_core s.alive s.objects (adjusts o g (call p ∷ js) done k) _ s.next o p inv (lives_of o inv w.3) (
      λ q pos. born_counts s.alive o p q (in_list q done) (w.0 q pos) (let c = w.1 q in let sm = w.2 q in omega (arith, c, sm)),
      λ q. let c = w.1 q in omega (arith, c),
      w.2,
      w.3,
      fits_same (after s.alive o g) s.objects (after (put_part s.alive o p true) o g) s.objects k (λ y pos. (λ q. after_part s.alive o p g true in_g y q, refl)) w.4,
    )
    (λ y. refl) refl inv.sorted

newest_done : (beginning : Beginning) (o p : ℕ) (js : List Job) (done : List ℕ) (s : State) → BirthSays (record { object = o; part = p; turn = s.turn o p }) (birth_of beginning) (frame_of beginning o js (p ∷ done))
newest_done (at_creation joins k) o p js done s = (refl, done, refl)
newest_done (at_adjustment f k) o p js done s = tt

begins_fine : (js : List Job) (c : Choice) (beginning : Beginning) (o : ℕ) (done : List ℕ) (s : State) → Inv s.alive s.objects (frame_of beginning o js done) s.created s.next → Fine s.objects (begins js c beginning o done s)
begins_fine [] c beginning o done s inv = begun_fine c beginning o done s inv
begins_fine (all_in none ∷ js) goes_on beginning o done s inv = none_begins beginning o js done s inv
begins_fine (all_in none ∷ js) c beginning o done s inv = tt
begins_fine (all_in (tree p kids rest) ∷ js) (takes x) beginning o done s inv = begins_part_fine (is_top x (tree p kids rest)) x beginning o (tree p kids rest) js done s refl inv
begins_fine (all_in (tree p kids rest) ∷ js) c beginning o done s inv = tt
begins_fine (call p ∷ js) goes_on beginning o done s inv = record { inv = born_at_once beginning o p js done s inv; says = newest_done beginning o p js done s }
begins_fine (call p ∷ js) enters beginning o done s inv = calls_begins beginning o p js done s inv
begins_fine (call p ∷ js) c beginning o done s inv = tt
begins_fine (called p ∷ js) goes_on beginning o done s inv = record { inv = born_begins beginning o p js done s inv; says = newest_done beginning o p js done s }
begins_fine (called p ∷ js) c beginning o done s inv = tt

undone_fine : (code : Bool) (p : ℕ) (done : List ℕ) (n o : ℕ) (k : Control) (s : State) → Inv s.alive s.objects (undoes n o (p ∷ done) k) s.created s.next → Fine s.objects (finalize code o p (undoing n) (undoes n o done k) s)
undone_fine code p done n o k s inv =
    let w = inv.fits in
    finalize_fine (s.alive o p) code o p (undoing n) (undoes n o done k) s refl (is_alive (s.alive o p) (in_list p done) (let one = same_self p in let h = w.0.0 p in omega (arith, one, h)))
    (die_core s.alive s.objects (undoes n o (p ∷ done) k) _ s.next o p inv
    ((λ q. part_dies s.alive o p q _ _ (w.0.0 q) refl, w.0.1.1), w.1, fits_same s.alive s.objects (put_part s.alive o p false) s.objects k (λ y pos. other_parts s.alive s.objects o p false y (held s.objects o k (inv.places o) y pos)) w.2)
    (λ y. refl) refl inv.sorted)
    tt (refl, refl)

rolls_back_fine : (done : List ℕ) (c : Choice) (n o : ℕ) (k : Control) (s : State) → Inv s.alive s.objects (undoes n o done k) s.created s.next → Fine s.objects (rolls_back done c n o k s)
rolls_back_fine [] goes_on n o k s inv =
    let w = inv.fits in
    record {
      inv = gone_core s.alive s.objects (undoes n o [] k) k s.next o inv w.0.0 (λ y. refl) w.2 refl inv.sorted.1;
      says = (tt, gone_lives s.objects o, below_next o inv (let one = same_self o in omega (arith, one)), lives_of o inv (let one = same_self o in omega (arith, one)));
    }
rolls_back_fine [] c n o k s inv = tt
rolls_back_fine (p ∷ done) goes_on n o k s inv = undone_fine false p done n o k s inv
rolls_back_fine (p ∷ done) enters n o k s inv = undone_fine true p done n o k s inv
rolls_back_fine (p ∷ done) c n o k s inv = tt

-- An object that is taken out of its collection.
parted_places : (x : ℕ) (k : Control) → placed x k ≤ 1 → 0 < listed x k → (y : ℕ) → same y x + placed y (parted x k) ≡ placed y k
parted_places x k le pos y = elim (eqb_tells y x) [ inl h ↦ here h.1 | inr h ↦ there h.1 ]
  where
    here : y ≡ x → same y x + placed y (parted x k) ≡ placed y k
    here e = rw e (let one = same_self x in let h = placed_self x k in omega (arith, one, h, le, pos))

    there : y ≢ x → same y x + placed y (parted x k) ≡ placed y k
    there ne = let z = same_other y x ne in let h = placed_parted x y k ne in omega (arith, z, h)

not_assigned : (A : Alive) (T : Objects) (x n : ℕ) (k : Control) → assigned x k ≡ n → placed x k ≡ 0 → Fits A T k → assigned x k ≡ 0
not_assigned A T x zero k e z f = e
not_assigned A T x (suc n) k e z f = let h = assigned_placed A T x k (omega (arith, e)) f in absurd (omega (arith, h, z))

members_le : (x : ℕ) (is : List Item) → in_members x is ≤ in_items x is
members_le x is = let h = items_self x is in omega (arith, h)

member_fine : (l x : ℕ) (b : ℕ) (os : List ℕ) (is : List Item) (a : ℕ) (mode : Mode) (k : Control) (s : State) → in_list x os ≡ l → Inv s.alive s.objects (leaves (record { number = a; items = record { number = b; owned = collection os } ∷ is }) mode k) s.created s.next → Fine s.objects (member l x (record { number = b; owned = collection os }) is (record { number = a; items = record { number = b; owned = collection os } ∷ is }) mode k s)
member_fine zero x b os is a mode k s e inv = tt
member_fine (suc n) x b os is a mode k s e inv =
    let m : Master = record { number = a; items = record { number = b; owned = collection os } ∷ is } in
    let w = inv.fits in
    let le = bit_le (s.objects x).lives in
    let p = inv.places x in
    let ml = members_le x is in
    let in_m : 0 < in_members x m.items = omega (arith, e) in
    let z : placed x k ≡ 0 = omega (arith, e, le, p) in
    let free = not_assigned s.alive s.objects x (assigned x k) k refl z w.2 in
    record {
      inv = moves_on s.alive s.objects (leaves m mode k) _ s.next s.next inv (omega arith)
          ((λ q. items_full s.alive s.objects a x m.items in_m w.0 q ∙ omega arith, λ p q pos. omega arith), items_home s.alive s.objects a x m.items (omega (arith, e)) w.0, (items_fit_parted s.alive s.objects a x m.items w.0, rw (top_parted x k) w.1, fits_parted s.alive s.objects x k free w.2))
          (parted_places x (leaves m mode k) (omega (arith, le, p)) (omega (arith, e)))
          inv.tops
          ((omega arith, falls_parted b x is inv.sorted.0), sorted_parted s.next x k inv.sorted.1);
      says = tt;
    }

leave_owned_fine : (owned : Owned) (c : Choice) (b : ℕ) (is : List Item) (a : ℕ) (mode : Mode) (k : Control) (s : State) → Inv s.alive s.objects (leaves (record { number = a; items = record { number = b; owned = owned } ∷ is }) mode k) s.created s.next → Fine s.objects (leave_owned owned c (record { number = b; owned = owned }) is (record { number = a; items = record { number = b; owned = owned } ∷ is }) mode k s)
leave_owned_fine (declared o) goes_on b is a mode k s inv =
    let w = inv.fits in
    record {
      inv = moves_on s.alive s.objects (leaves (record { number = a; items = record { number = b; owned = declared o } ∷ is }) mode k) _ s.next s.next inv (omega arith)
          ((λ q. w.0.0.0 q ∙ omega arith, λ p q pos. omega arith), w.0.0.1, (w.0.1, w.1, w.2)) (λ y. omega arith) inv.tops
          (falls_more b (suc b) is (omega arith) inv.sorted.0, inv.sorted.1);
      says = tt;
    }
leave_owned_fine (declared o) c b is a mode k s inv = tt
leave_owned_fine (collection []) goes_on b is a mode k s inv =
    let w = inv.fits in
    record {
      inv = moves_on s.alive s.objects (leaves (record { number = a; items = record { number = b; owned = collection [] } ∷ is }) mode k) _ s.next s.next inv (omega arith)
          (w.0.1, w.1, w.2) (λ y. omega arith) inv.tops
          (fall_of b is inv.sorted.0, inv.sorted.1);
      says = tt;
    }
leave_owned_fine (collection []) c b is a mode k s inv = tt
leave_owned_fine (collection (o ∷ os)) (takes x) b is a mode k s inv = member_fine (in_list x (o ∷ os)) x b (o ∷ os) is a mode k s refl inv
leave_owned_fine (collection (o ∷ os)) c b is a mode k s inv = tt

leave_fine : (items : List Item) (c : Choice) (a : ℕ) (mode : Mode) (k : Control) (s : State) → Inv s.alive s.objects (leaves (record { number = a; items = items }) mode k) s.created s.next → Fine s.objects (leave items c (record { number = a; items = items }) mode k s)
leave_fine [] goes_on a mode k s inv =
    let w = inv.fits in
    let t = inv.tops in
    record {
      inv = moves_on s.alive s.objects (leaves (record { number = a; items = [] }) mode k) k s.next s.next inv (omega arith) w.2 (λ y. omega arith) (let lt = w.1 in omega (arith, t, lt)) inv.sorted.1;
      says = ((λ o lives home. let p = inv.places o in let b = ap bit lives in let le = placed_home s.alive s.objects o k (omega (arith, p, b)) w.2 in let lt = w.1 in omega (arith, le, lt, home)), t);
    }
leave_fine [] c a mode k s inv = tt
leave_fine (i ∷ is) c a mode k s inv = leave_owned_fine i.owned c i.number is a mode k s inv

-- A new object.
creates_inv : (home : ℕ) (joins : Joins) (f : Forest) (m : Master) (k : Control) (s : State) → Simple f → HomeFits joins home (acts m k) → Inv s.alive s.objects (acts m k) s.created s.next → Inv s.alive (put s.objects s.created (record { home = home; shape = f; lives = true })) (initializes s.created joins (all_in f ∷ []) [] (acts m k)) (suc s.created) s.next
creates_inv home joins f m k s simple fits inv =
    let T : Objects = put s.objects s.created (record { home = home; shape = f; lives = true }) in
    let new : T s.created ≡ record { home = home; shape = f; lives = true } = put_here s.objects s.created (record { home = home; shape = f; lives = true }) in
    let none' = inv.fresh s.created (omega arith) in
    record {
      fits = (
        λ q. ap bit (inv.dead s.created none' q),
        λ q. (let h = ap (λ (t : Object). in_forest q t.shape) new in omega (arith, h)),
        subst (λ (t : Object). Simple t.shape × JobsFit (all_in f ∷ []) t.shape × ClosedSoFar [] t.shape) (sym new) (simple, (λ p q pos. refl, tt), tt),
        subst (λ (t : Object). HomeFits joins t.home (acts m k)) (sym new) fits,
        fits_same s.alive s.objects s.alive T (acts m k) (λ y pos. (λ q. refl, put_there s.objects s.created _ y (λ e. let lt = below_next y inv pos in omega (arith, lt, e)))) inv.fits,
      );
      places = λ y. elim (eqb_tells y s.created) [ inl h ↦ here y h.1 | inr h ↦ there y h.1 ];
      dead = λ y d q. elim (eqb_tells y s.created) [ inl h ↦ (let d' = subst (λ (z : ℕ). (T z).lives ≡ false) h.1 d in let l = ap (λ (t : Object). t.lives) new in let never : true ≡ false = sym l ∙ d' in absurd (cc never)) | inr h ↦ inv.dead y (sym (ap (λ (t : Object). t.lives) (put_there s.objects s.created _ y h.1)) ∙ d) q ];
      fresh = λ y h. ap (λ (t : Object). t.lives) (put_there s.objects s.created _ y (λ e. omega (arith, h, e))) ∙ inv.fresh y (omega (arith, h));
      tops = inv.tops;
      sorted = inv.sorted;
    }
  where
    here : (y : ℕ) → y ≡ s.created → same y s.created + placed y (acts m k) ≡ bit (put s.objects s.created (record { home = home; shape = f; lives = true }) y).lives
    here y e = subst (λ (z : ℕ). same z s.created + placed z (acts m k) ≡ bit (put s.objects s.created (record { home = home; shape = f; lives = true }) z).lives) (sym e) base
      where
        base : same s.created s.created + placed s.created (acts m k) ≡ bit (put s.objects s.created (record { home = home; shape = f; lives = true }) s.created).lives
        base = let one = same_self s.created in let p = inv.places s.created in let d = ap bit (inv.fresh s.created (omega arith)) in let new = ap (λ (t : Object). bit t.lives) (put_here s.objects s.created (record { home = home; shape = f; lives = true })) in omega (arith, one, p, d, new)

    there : (y : ℕ) → y ≢ s.created → same y s.created + placed y (acts m k) ≡ bit (put s.objects s.created (record { home = home; shape = f; lives = true }) y).lives
    there y ne = rw (put_there s.objects s.created (record { home = home; shape = f; lives = true }) y ne) (let z = same_other y s.created ne in let p = inv.places y in omega (arith, z, p))

allocates_fine : (n a c : ℕ) (f : Forest) (m : Master) (k : Control) (s : State) → Simple f → opens a c (acts m k) ≡ n → Inv s.alive s.objects (acts m k) s.created s.next → Fine s.objects (allocates_by n a c f m k s)
allocates_fine (suc zero) a c f m k s simple is inv = record { inv = creates_inv a (to_collection a c) f m k s simple (refl, is) inv; says = tt }
allocates_fine zero a c f m k s simple is inv = tt
allocates_fine (suc (suc n)) a c f m k s simple is inv = tt

frees_fine : (l a o : ℕ) (m : Master) (k : Control) (s : State) → listed o (acts m k) ≡ l → assigned o (acts m k) ≡ a → Inv s.alive s.objects (acts m k) s.created s.next → Fine s.objects (frees_by l a o m k s)
frees_fine (suc n) zero o m k s is no' inv =
    let le = bit_le (s.objects o).lives in
    let p = inv.places o in
    let h = placed_self o (acts m k) in
    record {
      inv = moves_on s.alive s.objects (acts m k) _ s.next (suc s.next) inv (omega arith)
          ((λ q. listed_full s.alive s.objects o (acts m k) (omega (arith, is)) no' inv.fits q ∙ omega arith, λ p q pos. omega arith), placed_home s.alive s.objects o (acts m k) (omega (arith, h, is)) inv.fits, fits_parted s.alive s.objects o (acts m k) no' inv.fits)
          (parted_places o (acts m k) (omega (arith, le, p)) (omega (arith, is)))
          (let t = inv.tops in omega (arith, t))
          (omega arith, sorted_more s.next (suc s.next) (parted o (acts m k)) (omega arith) (sorted_parted s.next o (acts m k) inv.sorted));
      says = tt;
    }
frees_fine zero a o m k s is no' inv = tt
frees_fine (suc n) (suc a) o m k s is no' inv = tt

all_alive_at : (alive : ℕ → Bool) (f : Forest) (q : ℕ) → all_alive alive f ≡ true → 0 < in_forest q f → alive q ≡ true
all_alive_at alive none q e pos = absurd (omega (arith, pos))
all_alive_at alive (tree p kids rest) q e pos = go (alive p) (all_alive alive kids) (all_alive alive rest) refl refl refl e (all_alive_at alive kids q) (all_alive_at alive rest q) (eqb_tells q p)
  where
    split : (n m : ℕ) → 0 < n + m → (0 < n) ⊎ (0 < m)
    split zero m h = inr (omega (arith, h))
    split (suc n) m h = inl (omega arith)

    go : (a b c : Bool) → alive p ≡ a → all_alive alive kids ≡ b → all_alive alive rest ≡ c → cond a (cond b c false) false ≡ true → (all_alive alive kids ≡ true → 0 < in_forest q kids → alive q ≡ true) → (all_alive alive rest ≡ true → 0 < in_forest q rest → alive q ≡ true) → ((q == p) ≡ true × (q ≡ p)) ⊎ ((q == p) ≡ false × (q ≢ p)) → alive q ≡ true
    go true true true x y z e ks rs (inl h) = ap alive h.1 ∙ x
    go true true true x y z e ks rs (inr h) = elim (split (in_forest q kids) (in_forest q rest) (let n = ap bit h.0 in omega (arith, n, pos))) [ inl g ↦ ks y g | inr g ↦ rs z g ]
    go true true false x y z e ks rs t = absurd (cc e)
    go true false c x y z e ks rs t = absurd (cc e)
    go false b c x y z e ks rs t = absurd (cc e)

copies_fine : (l a : Bool) (o : ℕ) (f : Forest) (m : Master) (k : Control) (s : State) → Simple f → (s.objects o).lives ≡ l → all_alive (s.alive o) f ≡ a → Inv s.alive s.objects (acts m k) s.created s.next → Fine s.objects (copies_by l a o f m k s)
copies_fine true true o f m k s simple l a inv =
    let p = inv.places o in
    let b = ap bit l in
    record {
      inv = moves_on s.alive s.objects (acts m k) _ s.next (suc s.next) inv (omega arith) (
        (λ q pos. (let al = ap bit (all_alive_at (s.alive o) f q a pos) in let sm = simple q in omega (arith, al, sm, pos)), λ p q pos. omega arith),
        λ q. omega arith,
        simple,
        omega (arith, p, b),
        fits_same s.alive s.objects (after s.alive o f) s.objects (acts m k) (λ y pos. (λ q. after_full s.alive o f (λ r h. all_alive_at (s.alive o) f r a h) y q, refl)) inv.fits,
      )
          (λ y. refl) (let t = inv.tops in omega (arith, t)) (omega arith, inv.sorted);
      says = tt;
    }
copies_fine true false o f m k s simple l a inv = tt
copies_fine false a o f m k s simple l e inv = tt

collects_fine : (b : Bool) (c : ℕ) (m : Master) (k : Control) (s : State) → is_above c m.items ≡ b → Inv s.alive s.objects (acts m k) s.created s.next → Fine s.objects (owns_by b c (collection []) m k s)
collects_fine false c m k s e inv = tt
collects_fine true c m k s e inv = record { inv = moves_on s.alive s.objects (acts m k) _ s.next s.next inv (omega arith) ((tt, inv.fits.0), inv.fits.1, inv.fits.2) (λ x. omega arith) inv.tops (falls_below c m.items e inv.sorted.0, inv.sorted.1); says = tt }

act_fine : (c : Choice) (m : Master) (k : Control) (s : State) → Inv s.alive s.objects (acts m k) s.created s.next → Fine s.objects (act c m k s)
act_fine goes_on m k s inv = tt
act_fine (takes x) m k s inv = tt
act_fine enters m k s inv = record { inv = inv_calls s.alive s.objects (acts m k) s.next inv; says = tt }
act_fine finishes m k s inv = record { inv = moves_on s.alive s.objects (acts m k) _ s.next s.next inv (omega arith) inv.fits (λ x. refl) inv.tops inv.sorted; says = tt }
act_fine raises m k s inv = record { inv = inv; says = tt }
act_fine catches m k s inv = tt
act_fine (declares f w) m k s inv = record { inv = creates_inv m.number to_items f m k s w refl inv; says = tt }
act_fine (collects c) m k s inv = collects_fine (is_above c m.items) c m k s refl inv
act_fine (joins_as c) m k s inv = tt
act_fine (allocates a c f w) m k s inv = allocates_fine (opens a c (acts m k)) a c f m k s w refl inv
act_fine (deallocates o) m k s inv = frees_fine (listed o (acts m k)) (assigned o (acts m k)) o m k s refl refl inv
act_fine (copies o f w) m k s inv = copies_fine (s.objects o).lives (all_alive (s.alive o) f) o f m k s w refl refl inv

running_fine : (c : Choice) (k : Control) (s : State) → Inv s.alive s.objects k s.created s.next → Fine s.objects (running_step c k s)
running_fine c stops s inv = tt
running_fine c (acts m k) s inv = act_fine c m k s inv
running_fine c (leaves m mode k) s inv = leave_fine m.items c m.number mode k s inv
running_fine c (finalizes m i o fs mode k) s inv = ends_fine fs c (at_leaving m i mode k) o s inv
running_fine c (frees n o fs k) s inv = ends_fine fs c (at_free n k) o s inv
running_fine c (initializes o joins js done k) s inv = begins_fine js c (at_creation joins k) o done s inv
running_fine c (undoes n o done k) s inv = rolls_back_fine done c n o k s inv
running_fine c (assigns n o f fs k) s inv = ends_fine fs c (at_assignment n f k) o s inv
running_fine c (adjusts o f js done k) s inv = begins_fine js c (at_adjustment f k) o done s inv

raising_act_fine : (c : Choice) (m : Master) (k : Control) (s : State) → Inv s.alive s.objects (acts m k) s.created s.next → Fine s.objects (raising_act c m k s)
raising_act_fine catches m k s inv = record { inv = inv; says = tt }
raising_act_fine goes_on m k s inv = record { inv = moves_on s.alive s.objects (acts m k) _ s.next s.next inv (omega arith) inv.fits (λ x. refl) inv.tops inv.sorted; says = tt }
raising_act_fine c m k s inv = tt

raising_fine : (c : Choice) (k : Control) (s : State) → Inv s.alive s.objects k s.created s.next → Fine s.objects (raising_step c k s)
raising_fine c (acts m k) s inv = raising_act_fine c m k s inv
raising_fine c (initializes o joins js done k) s inv =
    let w = inv.fits in
    record { inv = moves_on s.alive s.objects (initializes o joins js done k) _ s.next (suc s.next) inv (omega arith) ((w.0, w.2.2), home_le s.alive s.objects joins (s.objects o).home k w.4 w.3, w.4) (λ x. refl) (let t = inv.tops in omega (arith, t)) (omega arith, sorted_more s.next (suc s.next) k (omega arith) inv.sorted); says = tt }
raising_fine c k s inv = tt

mode_fine : (mode : Mode) (c : Choice) (s : State) → Inv s.alive s.objects s.control s.created s.next → Fine s.objects (mode_step mode c s)
mode_fine running c s inv = running_fine c s.control s inv
mode_fine raising c s inv = raising_fine c s.control s inv

pub step_fine : (c : Choice) (s : State) → Inv s.alive s.objects s.control s.created s.next → Fine s.objects (step c s)
unfolding step
step_fine c s inv = mode_fine s.mode c s inv

pub step_good : (c : Choice) (s : State) (e : Event) (t : State) → Inv s.alive s.objects s.control s.created s.next → step c s ≡ goes e t → Good s.objects e t
step_good c s e t inv is = subst (Fine s.objects) is (step_fine c s inv)

-- An object that is built finds its collection: joining is never stuck.
pub joining_goes : (a c o : ℕ) (k : Control) (done : List ℕ) (s : State) → Inv s.alive s.objects (initializes o (to_collection a c) [] done k) s.created s.next → begun goes_on (at_creation (to_collection a c) k) o s ≡ goes quiet (at (joined a c o k) s)
joining_goes a c o k done s inv = ap (λ n. joins_by n a c o k s) inv.fits.3.1
