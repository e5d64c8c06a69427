-- Every step keeps the invariant, never finalizes what isn't alive, and says at its event what the laws need.

use Rattle.std.proofs.Common.{◌≡◌, ◌≢◌, ℕ, zero, suc, ◌+◌, ◌<◌, ◌≤◌, Bool, true, false, cond, List, [], ◌∷◌, refl, sym, ap, ◌∙◌, ◌⊎◌, inl, inr, subst, arith}
use Rattle.std.specs.Prelude.{◌==◌}
use Rattle.std.proofs.lemmas.Bool.Decides.{eqb_tells}
use Rattle.ada_storage.specs.State.{Forest, none, tree, Value, Cause, leaving, freeing, undoing, assigning, Birth, creation, adjustment, Event, born, finalized, back, left, quiet, Control, stops, acts, leaves, finalizes, frees, initializes, undoes, assigns, adjusts, Object, State, put, put_part, bit, same, in_forest, in_forests, withins, placed, is_top, kids_of, others_of}
use Rattle.ada_storage.specs.Step.{Choice, goes_on, takes, enters, Outcome, stuck, erroneous, goes, at, finalize_by, Ending, at_leaving, at_free, at_assignment, frame, ended, ends_part, ends_whole, ends}
use Rattle.ada_storage.specs.Law.{top}
use Rattle.ada_storage.proofs.Invariant.{Alive, Objects, alive_by, after, Agrees, Fits, Sorted, Inv, Past}
use Rattle.ada_storage.proofs.Facts.{same_self, same_other, eq_not, put_here, put_there, part_here, part_there, top_counts, top_within, bit_le, is_alive, is_dead, part_dies}
use Rattle.ada_storage.proofs.Stack.{Same, fits_same, fall_of, sorted_more}
use Rattle.ada_storage.proofs.Joining.{past_below}

-- What is known after an event of a cause.
abbrev pub CauseSays : Cause → Control → ℕ → Type 0
CauseSays (leaving m i) k n = Past m i k × (m < n)
CauseSays (freeing x) k n = Unit {0}
CauseSays (undoing x) k n = Unit {0}
CauseSays (assigning x) k n = Unit {0}

-- The frame of a finalization stands below the body of the primitive.
abbrev pub ShowsFrame : Value → Cause → Control → Type 0
ShowsFrame v c stops = ⊥
ShowsFrame v c (acts m k) = ⊥
ShowsFrame v c (leaves m mode k) = ⊥
ShowsFrame v c (finalizes m i o fs mode k) = (o ≡ v.object) × (leaving m.number i ≡ c)
ShowsFrame v c (frees n o fs k) = (o ≡ v.object) × (freeing n ≡ c)
ShowsFrame v c (initializes o joins js done k) = ⊥
ShowsFrame v c (undoes n o done k) = (o ≡ v.object) × (undoing n ≡ c)
ShowsFrame v c (assigns n o f fs k) = (o ≡ v.object) × (assigning n ≡ c)
ShowsFrame v c (adjusts o f js done k) = ⊥

abbrev pub Shows : Value → Cause → Control → Type 0
Shows v c stops = ⊥
Shows v c (acts m k) = ShowsFrame v c k
Shows v c (leaves m mode k) = ⊥
Shows v c (finalizes m i o fs mode k) = (o ≡ v.object) × (leaving m.number i ≡ c)
Shows v c (frees n o fs k) = (o ≡ v.object) × (freeing n ≡ c)
Shows v c (initializes o joins js done k) = ⊥
Shows v c (undoes n o done k) = (o ≡ v.object) × (undoing n ≡ c)
Shows v c (assigns n o f fs k) = (o ≡ v.object) × (assigning n ≡ c)
Shows v c (adjusts o f js done k) = ⊥

-- No body may have been entered.
pub shows_bare : (v : Value) (c : Cause) (k : Control) → ShowsFrame v c k → Shows v c k
shows_bare v c stops sh = sh
shows_bare v c (acts m k) sh = absurd sh
shows_bare v c (leaves m mode k) sh = sh
shows_bare v c (finalizes m i o fs mode k) sh = sh
shows_bare v c (frees n o fs k) sh = sh
shows_bare v c (initializes o joins js done k) sh = sh
shows_bare v c (undoes n o done k) sh = sh
shows_bare v c (assigns n o f fs k) sh = sh
shows_bare v c (adjusts o f js done k) sh = sh

-- Where a value comes to exist with its object, its part is the newest that is done.
abbrev pub NewestDone : Value → Control → Type 0
NewestDone v stops = ⊥
NewestDone v (acts m k) = ⊥
NewestDone v (leaves m mode k) = ⊥
NewestDone v (finalizes m i o fs mode k) = ⊥
NewestDone v (frees n o fs k) = ⊥
NewestDone v (initializes o joins js done k) = (o ≡ v.object) × (rest : List ℕ) × (done ≡ v.part ∷ rest)
NewestDone v (undoes n o done k) = ⊥
NewestDone v (assigns n o f fs k) = ⊥
NewestDone v (adjusts o f js done k) = ⊥

abbrev pub BirthSays : Value → Birth → Control → Type 0
BirthSays v creation k = NewestDone v k
BirthSays v adjustment k = Unit {0}

abbrev pub Says : Objects → Event → State → Type 0
Says T (born v by) t = BirthSays v by t.control
Says T (finalized v cause) t = CauseSays cause t.control t.next × Shows v cause t.control
Says T (back o cause) t = CauseSays cause t.control t.next × ((t.objects o).lives ≡ false) × (o < t.created) × ((T o).lives ≡ true)
Says T (left m) t = ((o : ℕ) → (t.objects o).lives ≡ true → (t.objects o).home ≡ m → ⊥) × (m < t.next)
Says T quiet t = Unit {0}

pub record Good (T : Objects) (e : Event) (t : State) : Type 0 where
  pub inv : Inv t.alive t.objects t.control t.created t.next
  pub says : Says T e t

abbrev pub Fine : Objects → Outcome → Type 0
Fine T stuck = Unit {0}
Fine T erroneous = ⊥
Fine T (goes e t) = Good T e t

pub lives_of : {A : Alive} {T : Objects} {k : Control} {c n : ℕ} (o : ℕ) → Inv A T k c n → 0 < placed o k → (T o).lives ≡ true
lives_of {A} {T} {k} {c} {n} o inv pos = go (T o).lives (inv.places o)
  where
    go : (b : Bool) → placed o k ≡ bit b → b ≡ true
    go true e = refl
    go false e = absurd (omega (arith, e, pos))

pub below_next : {A : Alive} {T : Objects} {k : Control} {c n : ℕ} (o : ℕ) → Inv A T k c n → 0 < placed o k → o < c
below_next {A} {T} {k} {c} {n} o inv pos = go (cmp o c)
  where
    cmp : (a b : ℕ) → (a < b) ⊎ (b ≤ a)
    cmp zero zero = inr (omega arith)
    cmp zero (suc b) = inl (omega arith)
    cmp (suc a) zero = inr (omega arith)
    cmp (suc a) (suc b) = elim (cmp a b) [ inl h ↦ inl (omega (arith, h)) | inr h ↦ inr (omega (arith, h)) ]

    go : (o < c) ⊎ (c ≤ o) → o < c
    go (inl h) = h
    go (inr h) = let l = lives_of o inv pos in let d = inv.fresh o h in absurd (cc (l, d))

-- A frame that changes what is left to do alone.
pub moves_on : (A : Alive) (T : Objects) (k l : Control) (n m : ℕ) {c : ℕ} → Inv A T k c n → n ≤ m → Fits A T l → ((x : ℕ) → placed x l ≡ placed x k) → top l < m → Sorted m l → Inv A T l c m
moves_on A T k l n m inv le fits places tops sorted = record {
  fits = fits;
  places = λ x. places x ∙ inv.places x;
  dead = inv.dead;
  fresh = inv.fresh;
  tops = tops;
  sorted = sorted;
}

pub inv_calls : (A : Alive) (T : Objects) (k : Control) (n : ℕ) {c : ℕ} → Inv A T k c n → Inv A T (acts (record { number = n; items = [] }) k) c (suc n)
inv_calls A T k n inv = moves_on A T k (acts (record { number = n; items = [] }) k) n (suc n) inv (omega arith) (tt, inv.tops, inv.fits) (λ x. omega arith) (omega arith) (tt, sorted_more n (suc n) k (omega arith) inv.sorted)

-- A part dies.
dead_part : (A : Alive) (o x y q : ℕ) → A y q ≡ false → put_part A o x false y q ≡ false
dead_part A o x y q e = go (y == o) (q == x)
  where
    go : (b d : Bool) → cond b (cond d false (A y q)) (A y q) ≡ false
    go true true = refl
    go true false = e
    go false d = e

pub die_core : (A : Alive) (T : Objects) (k l : Control) (n o x : ℕ) {c : ℕ} → Inv A T k c n → Fits (put_part A o x false) T l → ((y : ℕ) → placed y l ≡ placed y k) → top l ≡ top k → Sorted n l → Inv (put_part A o x false) T l c n
die_core A T k l n o x inv fits places tops sorted = record {
  fits = fits;
  places = λ y. places y ∙ inv.places y;
  dead = λ y d q. dead_part A o x y q (inv.dead y d q);
  fresh = inv.fresh;
  tops = rw tops inv.tops;
  sorted = sorted;
}

pub other_parts : (A : Alive) (T : Objects) (o x : ℕ) (v : Bool) (y : ℕ) → y ≢ o → Same A T (put_part A o x v) T y
other_parts A T o x v y ne = (λ q. part_there A o x v y q ne, refl)

alone : (y o n : ℕ) (b : Bool) → same o o + n ≡ bit b → 0 < n → ⊥
alone y o n b e pos = let one = same_self o in let le = bit_le b in omega (arith, one, le, e, pos)

-- Only its own frame holds an object that a frame holds.
pub held : (T : Objects) (o : ℕ) (rest : Control) → same o o + placed o rest ≡ bit (T o).lives → (y : ℕ) → 0 < placed y rest → y ≢ o
held T o rest e y pos is = alone y o (placed o rest) (T o).lives e (subst (λ (z : ℕ). 0 < placed z rest) is pos)

pub after_part : (A : Alive) (o x : ℕ) (g : Forest) (v : Bool) → 0 < in_forest x g → (y q : ℕ) → after (put_part A o x v) o g y q ≡ after A o g y q
after_part A o x g v pos y q = elim (eqb_tells q x) [ inl h ↦ at_x (y == o) (in_forest q g) (rw h.1 pos) | inr h ↦ not_x (y == o) h.0 ]
  where
    at_x : (b : Bool) (n : ℕ) → 0 < n → cond b (alive_by n (cond b (cond (q == x) v (A y q)) (A y q))) (cond b (cond (q == x) v (A y q)) (A y q)) ≡ cond b (alive_by n (A y q)) (A y q)
    at_x true zero p = absurd (omega (arith, p))
    at_x true (suc n) p = refl
    at_x false n p = refl

    not_x : (b : Bool) → (q == x) ≡ false → cond b (alive_by (in_forest q g) (cond b (cond (q == x) v (A y q)) (A y q))) (cond b (cond (q == x) v (A y q)) (A y q)) ≡ cond b (alive_by (in_forest q g) (A y q)) (A y q)
    not_x true e = ap (λ d. alive_by (in_forest q g) (cond d v (A y q))) e
    not_x false e = refl

-- What is said of a cause holds in a body that is entered.
says_entered : (c : Cause) (k : Control) (n : ℕ) → CauseSays c k n → CauseSays c (acts (record { number = n; items = [] }) k) (suc n)
says_entered (leaving m i) k n says = ((λ e. (let lt = says.1 in omega (arith, e, lt)), says.0), let lt = says.1 in omega (arith, lt))
says_entered (freeing x) k n says = tt
says_entered (undoing x) k n says = tt
says_entered (assigning x) k n says = tt

-- Finalize of a part begins.
pub finalize_fine : (b code : Bool) (o x : ℕ) (cause : Cause) (k : Control) (s : State) → s.alive o x ≡ b → s.alive o x ≡ true → Inv (put_part s.alive o x false) s.objects k s.created s.next → CauseSays cause k s.next → ShowsFrame (record { object = o; part = x; turn = s.turn o x }) cause k → Fine s.objects (finalize_by b code o x cause k s)
finalize_fine false code o x cause k s e alive inv says shows = let never : true ≡ false = sym alive ∙ e in absurd (cc never)
finalize_fine true true o x cause k s e alive inv says shows = record { inv = inv_calls (put_part s.alive o x false) s.objects k s.next inv; says = (says_entered cause k s.next says, shows) }
finalize_fine true false o x cause k s e alive inv says shows = record { inv = inv; says = (says, shows_bare (record { object = o; part = x; turn = s.turn o x }) cause k shows) }

-- One part is taken: what is left stays the same.
pub split_counts : (x : ℕ) (f : Forest) (fs : List Forest) (q : ℕ) → is_top x f ≡ true → in_forests q (tree x (kids_of x f) none ∷ others_of x f ∷ fs) ≡ in_forests q (f ∷ fs)
split_counts x f fs q e = let h = top_counts x f q e in omega (arith, h)

split_within : (x : ℕ) (f : Forest) (fs : List Forest) (p q : ℕ) → is_top x f ≡ true → withins p q (tree x (kids_of x f) none ∷ others_of x f ∷ fs) ≡ withins p q (f ∷ fs)
split_within x f fs p q e = let h = top_within x f p q e in omega (arith, h)

split_agrees : (x : ℕ) (f : Forest) (fs : List Forest) (g : Forest) → is_top x f ≡ true → Agrees (f ∷ fs) g → Agrees (tree x (kids_of x f) none ∷ others_of x f ∷ fs) g
split_agrees x f fs g e agrees p q pos = split_within x f fs p q e ∙ agrees p q (let h = split_counts x f fs q e in omega (arith, h, pos))

ends_part_fine : (b : Bool) (x : ℕ) (ending : Ending) (o : ℕ) (f : Forest) (fs : List Forest) (s : State) → is_top x f ≡ b → Inv s.alive s.objects (frame ending o (f ∷ fs)) s.created s.next → Fine s.objects (ends_part b x ending o f fs s)
ends_part_fine false x ending o f fs s e inv = tt
ends_part_fine true x (at_leaving m i mode k) o f fs s e inv =
    let w = inv.fits in
    record {
      inv = moves_on s.alive s.objects (finalizes m i o (f ∷ fs) mode k) _ s.next s.next inv (omega arith)
          ((λ q. w.0.0 q ∙ sym (split_counts x f fs q e), split_agrees x f fs (s.objects o).shape e w.0.1), w.1, w.2) (λ y. refl) inv.tops inv.sorted;
      says = tt;
    }
ends_part_fine true x (at_free z k) o f fs s e inv =
    let w = inv.fits in
    record {
      inv = moves_on s.alive s.objects (frees z o (f ∷ fs) k) _ s.next s.next inv (omega arith)
          ((λ q. w.0.0 q ∙ sym (split_counts x f fs q e), split_agrees x f fs (s.objects o).shape e w.0.1), w.1, w.2) (λ y. refl) inv.tops inv.sorted;
      says = tt;
    }
ends_part_fine true x (at_assignment z g k) o f fs s e inv =
    let w = inv.fits in
    record {
      inv = moves_on s.alive s.objects (assigns z o g (f ∷ fs) k) _ s.next s.next inv (omega arith)
          ((λ q pos. w.0.0 q pos ∙ sym (split_counts x f fs q e), split_agrees x f fs g e w.0.1), (λ q. let h = split_counts x f fs q e in let l = w.1 q in omega (arith, h, l)), w.2, w.3, w.4) (λ y. refl) inv.tops inv.sorted;
      says = tt;
    }

-- A part that stands alone is finalized.
pub whole_counts : (p : ℕ) (kids : Forest) (fs : List Forest) (q : ℕ) → in_forests q (tree p kids none ∷ fs) ≡ same q p + in_forests q (kids ∷ fs)
whole_counts p kids fs q = omega arith

whole_alive : (p : ℕ) (kids : Forest) (fs : List Forest) (b : Bool) → bit b ≡ in_forests p (tree p kids none ∷ fs) → b ≡ true
whole_alive p kids fs b is = is_alive b (in_forests p (kids ∷ fs)) (let h = whole_counts p kids fs p in let one = same_self p in omega (arith, h, one, is))

whole_agrees : (x : ℕ) (kids : Forest) (fs : List Forest) (g : Forest) → in_forests x (kids ∷ fs) ≡ 0 → Agrees (tree x kids none ∷ fs) g → Agrees (kids ∷ fs) g
whole_agrees x kids fs g gone agrees p q pos =
    let a = agrees p q (let c = whole_counts x kids fs q in omega (arith, c, pos)) in
    let other : q ≢ x = (λ is. let z = subst (λ (y : ℕ). in_forests y (kids ∷ fs) ≡ 0) (sym is) gone in omega (arith, z, pos)) in
    let d = ap (λ b. cond b (in_forest p kids) 0) (eq_not q x other) in
    omega (arith, a, d)

ends_whole_fine : (rest : Forest) (code : Bool) (x : ℕ) (kids : Forest) (ending : Ending) (o : ℕ) (fs : List Forest) (s : State) → Inv s.alive s.objects (frame ending o (tree x kids rest ∷ fs)) s.created s.next → Fine s.objects (ends_whole rest code x kids ending o fs s)
ends_whole_fine (tree q others rest) code x kids ending o fs s inv = tt
ends_whole_fine none code x kids (at_leaving m i mode k) o fs s inv =
    let w = inv.fits in
    let dying : (q : ℕ) → bit (put_part s.alive o x false o q) ≡ in_forests q (kids ∷ fs) = λ q. part_dies s.alive o x q _ _ (w.0.0 q) (whole_counts x kids fs q) in
    let is_gone : bit (put_part s.alive o x false o x) ≡ in_forests x (kids ∷ fs) → in_forests x (kids ∷ fs) ≡ 0 = λ h. sym h ∙ ap bit (part_here s.alive o x false) in
    finalize_fine (s.alive o x) code o x (leaving m.number i) _ s refl (whole_alive x kids fs (s.alive o x) (w.0.0 x))
    (die_core s.alive s.objects (finalizes m i o (tree x kids none ∷ fs) mode k) _ s.next o x inv
    ((dying, whole_agrees x kids fs (s.objects o).shape (is_gone (dying x)) w.0.1), w.1, fits_same s.alive s.objects (put_part s.alive o x false) s.objects (acts m k) (λ y pos. other_parts s.alive s.objects o x false y (held s.objects o (acts m k) (inv.places o) y pos)) w.2)
    (λ y. refl) refl inv.sorted)
    ((λ e. (omega arith, inv.sorted.0), past_below s.alive s.objects m.number i k w.2.1 w.2.2), inv.tops) (refl, refl)
ends_whole_fine none code x kids (at_free z k) o fs s inv =
    let w = inv.fits in
    let dying : (q : ℕ) → bit (put_part s.alive o x false o q) ≡ in_forests q (kids ∷ fs) = λ q. part_dies s.alive o x q _ _ (w.0.0 q) (whole_counts x kids fs q) in
    let is_gone : bit (put_part s.alive o x false o x) ≡ in_forests x (kids ∷ fs) → in_forests x (kids ∷ fs) ≡ 0 = λ h. sym h ∙ ap bit (part_here s.alive o x false) in
    finalize_fine (s.alive o x) code o x (freeing z) _ s refl (whole_alive x kids fs (s.alive o x) (w.0.0 x))
    (die_core s.alive s.objects (frees z o (tree x kids none ∷ fs) k) _ s.next o x inv
    ((dying, whole_agrees x kids fs (s.objects o).shape (is_gone (dying x)) w.0.1), w.1, fits_same s.alive s.objects (put_part s.alive o x false) s.objects k (λ y pos. other_parts s.alive s.objects o x false y (held s.objects o k (inv.places o) y pos)) w.2)
    (λ y. refl) refl inv.sorted)
    tt (refl, refl)
ends_whole_fine none code x kids (at_assignment z g k) o fs s inv =
    let w = inv.fits in
    let one = same_self x in
    let c = whole_counts x kids fs x in
    let le = w.1 x in
    let in_g : 0 < in_forest x g = omega (arith, one, c, le) in
    finalize_fine (s.alive o x) code o x (assigning z) _ s refl (whole_alive x kids fs (s.alive o x) (w.0.0 x in_g))
    (die_core s.alive s.objects (assigns z o g (tree x kids none ∷ fs) k) _ s.next o x inv
    (((λ q pos. part_dies s.alive o x q _ _ (w.0.0 q pos) (whole_counts x kids fs q)), whole_agrees x kids fs g (sym (part_dies s.alive o x x _ _ (w.0.0 x in_g) c) ∙ ap bit (part_here s.alive o x false)) w.0.1), (λ q. let h = whole_counts x kids fs q in let l = w.1 q in omega (arith, h, l)), w.2, w.3, fits_same (after s.alive o g) s.objects (after (put_part s.alive o x false) o g) s.objects k (λ y pos. (λ q. after_part s.alive o x g false in_g y q, refl)) w.4)
    (λ y. refl) refl inv.sorted)
    tt (refl, refl)

-- An object ceases to exist: no part of it is alive, and only this frame held it.
pub gone_core : (A : Alive) (T : Objects) (k l : Control) (n o : ℕ) {c : ℕ} → Inv A T k c n → ((q : ℕ) → bit (A o q) ≡ 0) → ((y : ℕ) → placed y k ≡ same y o + placed y l) → Fits A T l → top l ≡ top k → Sorted n l → Inv A (put T o (record (T o) { lives = false })) l c n
gone_core A T k l n o inv none' places fits tops sorted = record {
  fits = fits_same A T A (put T o (record (T o) { lives = false })) l (λ y pos. (λ q. refl, put_there T o _ y (held T o l (sym (places o) ∙ inv.places o) y pos))) fits;
  places = λ y. elim (eqb_tells y o) [ inl h ↦ here y h.1 | inr h ↦ there y h.1 ];
  dead = λ y d q. elim (eqb_tells y o) [ inl h ↦ rw h.1 (is_dead (A o q) (none' q)) | inr h ↦ inv.dead y (sym (ap (λ (t : Object). t.lives) (put_there T o _ y h.1)) ∙ d) q ];
  fresh = λ y h. elim (eqb_tells y o) [ inl g ↦ rw (g.1, put_here T o (record (T o) { lives = false })) refl | inr g ↦ ap (λ (t : Object). t.lives) (put_there T o _ y g.1) ∙ inv.fresh y h ];
  tops = rw tops inv.tops;
  sorted = sorted;
}
  where
    here : (y : ℕ) → y ≡ o → placed y l ≡ bit (put T o (record (T o) { lives = false }) y).lives
    here y e = rw e (rw (put_here T o (record (T o) { lives = false })) (let one = same_self o in let le = bit_le (T o).lives in let p = places o in let r = inv.places o in omega (arith, one, le, p, r)))

    there : (y : ℕ) → y ≢ o → placed y l ≡ bit (put T o (record (T o) { lives = false }) y).lives
    there y ne = rw (put_there T o (record (T o) { lives = false }) y ne) (let z = same_other y o ne in let p = places y in let r = inv.places y in omega (arith, z, p, r))

pub gone_lives : (T : Objects) (o : ℕ) → (put T o (record (T o) { lives = false }) o).lives ≡ false
gone_lives T o = ap (λ (t : Object). t.lives) (put_here T o (record (T o) { lives = false }))

ended_fine : (ending : Ending) (o : ℕ) (s : State) → Inv s.alive s.objects (frame ending o []) s.created s.next → Fine s.objects (ended ending o s)
ended_fine (at_leaving m i mode k) o s inv =
    let w = inv.fits in
    let t = inv.tops in
    record {
      inv = gone_core s.alive s.objects (finalizes m i o [] mode k) (leaves m mode k) s.next o inv w.0.0 (λ y. refl) w.2 refl (fall_of (suc i) m.items inv.sorted.0, inv.sorted.1);
      says = (((λ e. inv.sorted.0, past_below s.alive s.objects m.number i k w.2.1 w.2.2), t), gone_lives s.objects o, below_next o inv (let one = same_self o in omega (arith, one)), lives_of o inv (let one = same_self o in omega (arith, one)));
    }
ended_fine (at_free n k) o s inv =
    let w = inv.fits in
    record {
      inv = gone_core s.alive s.objects (frees n o [] k) k s.next o inv w.0.0 (λ y. refl) w.2 refl inv.sorted.1;
      says = (tt, gone_lives s.objects o, below_next o inv (let one = same_self o in omega (arith, one)), lives_of o inv (let one = same_self o in omega (arith, one)));
    }
ended_fine (at_assignment n g k) o s inv =
    let w = inv.fits in
    record {
      inv = moves_on s.alive s.objects (assigns n o g [] k) _ s.next s.next inv (omega arith) (w.0.0, λ q. omega arith, w.2, w.3, w.4) (λ x. refl) inv.tops (sorted_more n s.next k (let lt = inv.sorted.0 in omega (arith, lt)) inv.sorted.1);
      says = tt;
    }

none_ends : (ending : Ending) (o : ℕ) (fs : List Forest) (s : State) → Inv s.alive s.objects (frame ending o (none ∷ fs)) s.created s.next → Good s.objects quiet (at (frame ending o fs) s)
none_ends (at_leaving m i mode k) o fs s inv = let w = inv.fits in record { inv = moves_on s.alive s.objects (finalizes m i o (none ∷ fs) mode k) _ s.next s.next inv (omega arith) ((λ q. let h = w.0.0 q in omega (arith, h), λ p q pos. let h = w.0.1 p q (omega (arith, pos)) in omega (arith, h)), w.1, w.2) (λ x. refl) inv.tops inv.sorted; says = tt }
none_ends (at_free n k) o fs s inv = let w = inv.fits in record { inv = moves_on s.alive s.objects (frees n o (none ∷ fs) k) _ s.next s.next inv (omega arith) ((λ q. let h = w.0.0 q in omega (arith, h), λ p q pos. let h = w.0.1 p q (omega (arith, pos)) in omega (arith, h)), w.1, w.2) (λ x. refl) inv.tops inv.sorted; says = tt }
none_ends (at_assignment n g k) o fs s inv = let w = inv.fits in record { inv = moves_on s.alive s.objects (assigns n o g (none ∷ fs) k) _ s.next s.next inv (omega arith) ((λ q pos. let h = w.0.0 q pos in omega (arith, h), λ p q pos. let h = w.0.1 p q (omega (arith, pos)) in omega (arith, h)), λ q. let h = w.1 q in omega (arith, h), w.2, w.3, w.4) (λ x. refl) inv.tops inv.sorted; says = tt }

pub ends_fine : (fs : List Forest) (c : Choice) (ending : Ending) (o : ℕ) (s : State) → Inv s.alive s.objects (frame ending o fs) s.created s.next → Fine s.objects (ends fs c ending o s)
ends_fine [] goes_on ending o s inv = ended_fine ending o s inv
ends_fine [] c ending o s inv = tt
ends_fine (none ∷ fs) goes_on ending o s inv = none_ends ending o fs s inv
ends_fine (none ∷ fs) c ending o s inv = tt
ends_fine (tree p kids rest ∷ fs) (takes x) ending o s inv = ends_part_fine (is_top x (tree p kids rest)) x ending o (tree p kids rest) fs s refl inv
ends_fine (tree p kids rest ∷ fs) goes_on ending o s inv = ends_whole_fine rest false p kids ending o fs s inv
ends_fine (tree p kids rest ∷ fs) enters ending o s inv = ends_whole_fine rest true p kids ending o fs s inv
ends_fine (tree p kids rest ∷ fs) c ending o s inv = tt
