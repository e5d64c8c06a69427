-- The control stack through each change.

use Rattle.std.proofs.Common.{◌≡◌, ◌≢◌, ℕ, suc, ◌+◌, ◌<◌, ◌≤◌, Bool, true, false, cond, List, [], ◌∷◌, map, refl, sym, ap, ◌∙◌, ◌⊎◌, inl, inr, subst, arith}
use Rattle.std.specs.Prelude.{◌==◌}
use Rattle.std.proofs.lemmas.Bool.Decides.{eqb_tells}
use Rattle.ada_storage.specs.State.{Forest, Owned, declared, collection, Item, Master, Joins, to_items, to_collection, Control, stops, acts, leaves, finalizes, frees, initializes, undoes, assigns, adjusts, Object, bit, same, in_list, in_forest, in_owned, in_items, placed, of_members, in_members, listed, assigned, owned_open, items_open, master_open, opens, without, parted_owned, parted_item, parted_master, parted}
use Rattle.ada_storage.specs.Law.{top}
use Rattle.ada_storage.proofs.Invariant.{Alive, Objects, alive_by, after, Whole, AllWhole, OwnedFits, ItemsFit, HomeFits, Agrees, ClosedSoFar, JobsFit, Fits, Falls, Fall, Sorted, Past}
use Rattle.ada_storage.specs.Step.{Simple}
use Rattle.ada_storage.proofs.Facts.{same_self, same_other}

-- Two tables agree on what is placed.
abbrev pub Same : Alive → Objects → Alive → Objects → ℕ → Type 0
Same A T B U x = ((q : ℕ) → B x q ≡ A x q) × (U x ≡ T x)

whole_same : (A : Alive) (T : Objects) (B : Alive) (U : Objects) (m o : ℕ) → Same A T B U o → Whole A T m o → Whole B U m o
whole_same A T B U m o s w = (λ q. ap bit (s.0 q) ∙ w.0 q ∙ ap (λ (t : Object). in_forest q t.shape) (sym s.1), ap (λ (t : Object). t.home) s.1 ∙ w.1)

all_same : (A : Alive) (T : Objects) (B : Alive) (U : Objects) (m : ℕ) (os : List ℕ) → ((x : ℕ) → 0 < in_list x os → Same A T B U x) → AllWhole A T m os → AllWhole B U m os
all_same A T B U m [] s w = tt
all_same A T B U m (o ∷ os) s w =
    let here = same_self o in
    (whole_same A T B U m o (s o (omega (arith, here))) w.0, all_same A T B U m os (λ x h. s x (omega (arith, h))) w.1)

owned_same : (A : Alive) (T : Objects) (B : Alive) (U : Objects) (m : ℕ) (owned : Owned) → ((x : ℕ) → 0 < in_owned x owned → Same A T B U x) → OwnedFits A T m owned → OwnedFits B U m owned
owned_same A T B U m (declared o) s w = let here = same_self o in whole_same A T B U m o (s o (omega (arith, here))) w
owned_same A T B U m (collection os) s w = all_same A T B U m os s w

pub items_same : (A : Alive) (T : Objects) (B : Alive) (U : Objects) (m : ℕ) (is : List Item) → ((x : ℕ) → 0 < in_items x is → Same A T B U x) → ItemsFit A T m is → ItemsFit B U m is
items_same A T B U m [] s w = tt
items_same A T B U m (i ∷ is) s w = (owned_same A T B U m i.owned (λ x h. s x (omega (arith, h))) w.0, items_same A T B U m is (λ x h. s x (omega (arith, h))) w.1)

pub after_same : (A : Alive) (T : Objects) (B : Alive) (U : Objects) (o : ℕ) (f : Forest) (x : ℕ) → Same A T B U x → Same (after A o f) T (after B o f) U x
after_same A T B U o f x s = (λ q. ap (λ b. cond (x == o) (alive_by (in_forest q f) b) b) (s.0 q), s.1)

home_same : (joins : Joins) (T U : Objects) (o : ℕ) (k : Control) → U o ≡ T o → HomeFits joins (T o).home k → HomeFits joins (U o).home k
home_same to_items T U o k e h = ap (λ (t : Object). t.home) e ∙ h
home_same (to_collection a c) T U o k e h = (ap (λ (t : Object). t.home) e ∙ h.0, h.1)

pub fits_same : (A : Alive) (T : Objects) (B : Alive) (U : Objects) (k : Control) → ((x : ℕ) → 0 < placed x k → Same A T B U x) → Fits A T k → Fits B U k
fits_same A T B U stops s w = tt
fits_same A T B U (acts m k) s w = (items_same A T B U m.number m.items (λ x h. s x (omega (arith, h))) w.0, w.1, fits_same A T B U k (λ x h. s x (omega (arith, h))) w.2)
fits_same A T B U (leaves m mode k) s w = (items_same A T B U m.number m.items (λ x h. s x (omega (arith, h))) w.0, w.1, fits_same A T B U k (λ x h. s x (omega (arith, h))) w.2)
fits_same A T B U (finalizes m i o fs mode k) s w =
    let here = same_self o in
    let at_o = s o (omega (arith, here)) in
    ((λ q. ap bit (at_o.0 q) ∙ w.0.0 q, subst (λ (t : Object). Agrees fs t.shape) (sym at_o.1) w.0.1), ap (λ (t : Object). t.home) at_o.1 ∙ w.1, (items_same A T B U m.number m.items (λ x h. s x (omega (arith, h))) w.2.0, w.2.1, fits_same A T B U k (λ x h. s x (omega (arith, h))) w.2.2))
fits_same A T B U (frees n o fs k) s w =
    let here = same_self o in
    let at_o = s o (omega (arith, here)) in
    ((λ q. ap bit (at_o.0 q) ∙ w.0.0 q, subst (λ (t : Object). Agrees fs t.shape) (sym at_o.1) w.0.1), rw (ap (λ (t : Object). t.home) at_o.1) w.1, fits_same A T B U k (λ x h. s x (omega (arith, h))) w.2)
fits_same A T B U (initializes o joins js done k) s w =
    let here = same_self o in
    let at_o = s o (omega (arith, here)) in
    (λ q. ap bit (at_o.0 q) ∙ w.0 q, λ q. w.1 q ∙ ap (λ (t : Object). in_forest q t.shape) (sym at_o.1), subst (λ (t : Object). Simple t.shape × JobsFit js t.shape × ClosedSoFar done t.shape) (sym at_o.1) w.2, home_same joins T U o k at_o.1 w.3, fits_same A T B U k (λ x h. s x (omega (arith, h))) w.4)
fits_same A T B U (undoes n o done k) s w =
    let here = same_self o in
    let at_o = s o (omega (arith, here)) in
    ((λ q. ap bit (at_o.0 q) ∙ w.0.0 q, subst (λ (t : Object). ClosedSoFar done t.shape) (sym at_o.1) w.0.1), rw (ap (λ (t : Object). t.home) at_o.1) w.1, fits_same A T B U k (λ x h. s x (omega (arith, h))) w.2)
fits_same A T B U (assigns n o f fs k) s w =
    ((λ q h. ap bit ((s o w.3).0 q) ∙ w.0.0 q h, w.0.1), w.1, w.2, w.3, fits_same (after A o f) T (after B o f) U k (λ x h. after_same A T B U o f x (s x h)) w.4)
fits_same A T B U (adjusts o f js done k) s w =
    (λ q h. ap bit ((s o w.3).0 q) ∙ w.0 q h, w.1, w.2, w.3, fits_same (after A o f) T (after B o f) U k (λ x h. after_same A T B U o f x (s x h)) w.4)

-- An object that parts from its collection.
without_self : (o : ℕ) (os : List ℕ) → in_list o (without o os) ≡ 0
without_self o [] = refl
without_self o (x ∷ xs) = go (eqb_tells x o) (without_self o xs)
  where
    go : ((x == o) ≡ true × (x ≡ o)) ⊎ ((x == o) ≡ false × (x ≢ o)) → in_list o (without o xs) ≡ 0 → in_list o (without o (x ∷ xs)) ≡ 0
    go (inl h) e = ap (λ b. in_list o (cond b (without o xs) (x ∷ without o xs))) h.0 ∙ e
    go (inr h) e = ap (λ b. in_list o (cond b (without o xs) (x ∷ without o xs))) h.0 ∙ (let ne = same_other o x (λ e'. h.1 (sym e')) in omega (arith, ne, e))

without_other : (o y : ℕ) (os : List ℕ) → y ≢ o → in_list y (without o os) ≡ in_list y os
without_other o y [] ne = refl
without_other o y (x ∷ xs) ne = go (eqb_tells x o) (without_other o y xs ne)
  where
    go : ((x == o) ≡ true × (x ≡ o)) ⊎ ((x == o) ≡ false × (x ≢ o)) → in_list y (without o xs) ≡ in_list y xs → in_list y (without o (x ∷ xs)) ≡ in_list y (x ∷ xs)
    go (inl h) e = ap (λ b. in_list y (cond b (without o xs) (x ∷ without o xs))) h.0 ∙ (let no = same_other y x (λ e'. ne (e' ∙ h.1)) in omega (arith, no, e))
    go (inr h) e = ap (λ b. in_list y (cond b (without o xs) (x ∷ without o xs))) h.0 ∙ ap (λ n. same y x + n) e

owned_parted : (o y : ℕ) (owned : Owned) → y ≢ o → in_owned y (parted_owned o owned) ≡ in_owned y owned
owned_parted o y (declared x) ne = refl
owned_parted o y (collection os) ne = without_other o y os ne

pub items_parted : (o y : ℕ) (is : List Item) → y ≢ o → in_items y (map (parted_item o) is) ≡ in_items y is
items_parted o y [] ne = refl
items_parted o y (i ∷ is) ne = let a = owned_parted o y i.owned ne in let b = items_parted o y is ne in omega (arith, a, b)

owned_self : (o : ℕ) (owned : Owned) → in_owned o (parted_owned o owned) + of_members o owned ≡ in_owned o owned
owned_self o (declared x) = omega arith
owned_self o (collection os) = let e = without_self o os in omega (arith, e)

pub items_self : (o : ℕ) (is : List Item) → in_items o (map (parted_item o) is) + in_members o is ≡ in_items o is
items_self o [] = refl
items_self o (i ∷ is) = let a = owned_self o i.owned in let b = items_self o is in omega (arith, a, b)

pub placed_parted : (o y : ℕ) (k : Control) → y ≢ o → placed y (parted o k) ≡ placed y k
placed_parted o y stops ne = refl
placed_parted o y (acts m k) ne = let a = items_parted o y m.items ne in let b = placed_parted o y k ne in omega (arith, a, b)
placed_parted o y (leaves m mode k) ne = let a = items_parted o y m.items ne in let b = placed_parted o y k ne in omega (arith, a, b)
placed_parted o y (finalizes m i x fs mode k) ne = let a = items_parted o y m.items ne in let b = placed_parted o y k ne in omega (arith, a, b)
placed_parted o y (frees n x fs k) ne = ap (λ n. same y x + n) (placed_parted o y k ne)
placed_parted o y (initializes x joins js done k) ne = ap (λ n. same y x + n) (placed_parted o y k ne)
placed_parted o y (undoes n x done k) ne = ap (λ n. same y x + n) (placed_parted o y k ne)
placed_parted o y (assigns n x f fs k) ne = placed_parted o y k ne
placed_parted o y (adjusts x f js done k) ne = placed_parted o y k ne

pub placed_self : (o : ℕ) (k : Control) → placed o (parted o k) + listed o k ≡ placed o k
placed_self o stops = refl
placed_self o (acts m k) = let a = items_self o m.items in let b = placed_self o k in omega (arith, a, b)
placed_self o (leaves m mode k) = let a = items_self o m.items in let b = placed_self o k in omega (arith, a, b)
placed_self o (finalizes m i x fs mode k) = let a = items_self o m.items in let b = placed_self o k in omega (arith, a, b)
placed_self o (frees n x fs k) = let b = placed_self o k in omega (arith, b)
placed_self o (initializes x joins js done k) = let b = placed_self o k in omega (arith, b)
placed_self o (undoes n x done k) = let b = placed_self o k in omega (arith, b)
placed_self o (assigns n x f fs k) = placed_self o k
placed_self o (adjusts x f js done k) = placed_self o k

pub top_parted : (o : ℕ) (k : Control) → top (parted o k) ≡ top k
top_parted o stops = refl
top_parted o (acts m k) = refl
top_parted o (leaves m mode k) = refl
top_parted o (finalizes m i x fs mode k) = refl
top_parted o (frees n x fs k) = top_parted o k
top_parted o (initializes x joins js done k) = top_parted o k
top_parted o (undoes n x done k) = top_parted o k
top_parted o (assigns n x f fs k) = top_parted o k
top_parted o (adjusts x f js done k) = top_parted o k

all_without : (A : Alive) (T : Objects) (m o : ℕ) (os : List ℕ) → AllWhole A T m os → AllWhole A T m (without o os)
all_without A T m o [] w = tt
all_without A T m o (x ∷ xs) w = go (x == o) (all_without A T m o xs w.1)
  where
    go : (b : Bool) → AllWhole A T m (without o xs) → AllWhole A T m (cond b (without o xs) (x ∷ without o xs))
    go true r = r
    go false r = (w.0, r)

owned_fits_parted : (A : Alive) (T : Objects) (m o : ℕ) (owned : Owned) → OwnedFits A T m owned → OwnedFits A T m (parted_owned o owned)
owned_fits_parted A T m o (declared x) w = w
owned_fits_parted A T m o (collection os) w = all_without A T m o os w

pub items_fit_parted : (A : Alive) (T : Objects) (m o : ℕ) (is : List Item) → ItemsFit A T m is → ItemsFit A T m (map (parted_item o) is)
items_fit_parted A T m o [] w = tt
items_fit_parted A T m o (i ∷ is) w = (owned_fits_parted A T m o i.owned w.0, items_fit_parted A T m o is w.1)

owned_open_parted : (o : ℕ) (owned : Owned) → owned_open (parted_owned o owned) ≡ owned_open owned
owned_open_parted o (declared x) = refl
owned_open_parted o (collection os) = refl

items_open_parted : (c o : ℕ) (is : List Item) → items_open c (map (parted_item o) is) ≡ items_open c is
items_open_parted c o [] = refl
items_open_parted c o (i ∷ is) = let a = ap (λ n. cond (i.number == c) n 0) (owned_open_parted o i.owned) in let b = items_open_parted c o is in omega (arith, a, b)

master_open_parted : (a c o : ℕ) (m : Master) → master_open a c (parted_master o m) ≡ master_open a c m
master_open_parted a c o m = ap (λ n. cond (m.number == a) n 0) (items_open_parted c o m.items)

pub opens_parted : (a c o : ℕ) (k : Control) → opens a c (parted o k) ≡ opens a c k
opens_parted a c o stops = refl
opens_parted a c o (acts m k) = let x = master_open_parted a c o m in let y = opens_parted a c o k in omega (arith, x, y)
opens_parted a c o (leaves m mode k) = let x = master_open_parted a c o m in let y = opens_parted a c o k in omega (arith, x, y)
opens_parted a c o (finalizes m i z fs mode k) = let x = master_open_parted a c o m in let y = opens_parted a c o k in omega (arith, x, y)
opens_parted a c o (frees n z fs k) = opens_parted a c o k
opens_parted a c o (initializes z joins js done k) = opens_parted a c o k
opens_parted a c o (undoes n z done k) = opens_parted a c o k
opens_parted a c o (assigns n z f fs k) = opens_parted a c o k
opens_parted a c o (adjusts z f js done k) = opens_parted a c o k

home_parted : (joins : Joins) (h o : ℕ) (k : Control) → HomeFits joins h k → HomeFits joins h (parted o k)
home_parted to_items h o k e = e ∙ sym (top_parted o k)
home_parted (to_collection a c) h o k e = (e.0, opens_parted a c o k ∙ e.1)

other_of : (o x n : ℕ) → same o x + n ≡ 0 → x ≢ o
other_of o x n z e = let one : same o x ≡ 1 = rw e (same_self o) in omega (arith, one, z)

pub fits_parted : (A : Alive) (T : Objects) (o : ℕ) (k : Control) → assigned o k ≡ 0 → Fits A T k → Fits A T (parted o k)
fits_parted A T o stops a w = tt
fits_parted A T o (acts m k) a w = (items_fit_parted A T m.number o m.items w.0, rw (top_parted o k) w.1, fits_parted A T o k a w.2)
fits_parted A T o (leaves m mode k) a w = (items_fit_parted A T m.number o m.items w.0, rw (top_parted o k) w.1, fits_parted A T o k a w.2)
fits_parted A T o (finalizes m i x fs mode k) a w = (w.0, w.1, (items_fit_parted A T m.number o m.items w.2.0, rw (top_parted o k) w.2.1, fits_parted A T o k a w.2.2))
fits_parted A T o (frees n x fs k) a w = (w.0, rw (top_parted o k) w.1, fits_parted A T o k a w.2)
fits_parted A T o (initializes x joins js done k) a w = (w.0, w.1, w.2, home_parted joins (T x).home o k w.3, fits_parted A T o k a w.4)
fits_parted A T o (undoes n x done k) a w = (w.0, rw (top_parted o k) w.1, fits_parted A T o k a w.2)
fits_parted A T o (assigns n x f fs k) a w = (w.0, w.1, w.2, rw (placed_parted o x k (other_of o x (assigned o k) a)) w.3, fits_parted (after A x f) T o k (omega (arith, a)) w.4)
fits_parted A T o (adjusts x f js done k) a w = (w.0, w.1, w.2, rw (placed_parted o x k (other_of o x (assigned o k) a)) w.3, fits_parted (after A x f) T o k (omega (arith, a)) w.4)

pub falls_more : (b c : ℕ) (is : List Item) → b ≤ c → Falls b is → Falls c is
falls_more b c [] le f = tt
falls_more b c (i ∷ is) le f = (omega (arith, f.0), f.1)

pub falls_parted : (b o : ℕ) (is : List Item) → Falls b is → Falls b (map (parted_item o) is)
falls_parted b o [] f = tt
falls_parted b o (i ∷ is) f = (f.0, falls_parted i.number o is f.1)

pub fall_of : (b : ℕ) (is : List Item) → Falls b is → Fall is
fall_of b [] f = tt
fall_of b (i ∷ is) f = f.1

pub fall_parted : (o : ℕ) (is : List Item) → Fall is → Fall (map (parted_item o) is)
fall_parted o [] f = tt
fall_parted o (i ∷ is) f = falls_parted i.number o is f

pub sorted_more : (b c : ℕ) (k : Control) → b ≤ c → Sorted b k → Sorted c k
sorted_more b c stops le f = tt
sorted_more b c (acts m k) le f = (f.0, sorted_more b c k le f.1)
sorted_more b c (leaves m mode k) le f = (f.0, sorted_more b c k le f.1)
sorted_more b c (finalizes m i x fs mode k) le f = (f.0, sorted_more b c k le f.1)
sorted_more b c (frees n x fs k) le f = (omega (arith, le, f.0), sorted_more b c k le f.1)
sorted_more b c (initializes x joins js done k) le f = sorted_more b c k le f
sorted_more b c (undoes n x done k) le f = (omega (arith, le, f.0), sorted_more b c k le f.1)
sorted_more b c (assigns n x f' fs k) le f = (omega (arith, le, f.0), f.1)
sorted_more b c (adjusts x f' js done k) le f = sorted_more b c k le f

pub sorted_parted : (b o : ℕ) (k : Control) → Sorted b k → Sorted b (parted o k)
sorted_parted b o stops f = tt
sorted_parted b o (acts m k) f = (fall_parted o m.items f.0, sorted_parted b o k f.1)
sorted_parted b o (leaves m mode k) f = (fall_parted o m.items f.0, sorted_parted b o k f.1)
sorted_parted b o (finalizes m i x fs mode k) f = (falls_parted (suc i) o m.items f.0, sorted_parted b o k f.1)
sorted_parted b o (frees n x fs k) f = (f.0, sorted_parted b o k f.1)
sorted_parted b o (initializes x joins js done k) f = sorted_parted b o k f
sorted_parted b o (undoes n x done k) f = (f.0, sorted_parted b o k f.1)
sorted_parted b o (assigns n x f' fs k) f = (f.0, sorted_parted n o k f.1)
sorted_parted b o (adjusts x f' js done k) f = sorted_parted b o k f

pub past_parted : (a n o : ℕ) (k : Control) → Past a n k → Past a n (parted o k)
past_parted a n o stops f = tt
past_parted a n o (acts m k) f = (f.0, past_parted a n o k f.1)
past_parted a n o (leaves m mode k) f = (λ e. falls_parted (suc n) o m.items (f.0 e), past_parted a n o k f.1)
past_parted a n o (finalizes m i x fs mode k) f = (λ e. ((f.0 e).0, falls_parted (suc n) o m.items (f.0 e).1), past_parted a n o k f.1)
past_parted a n o (frees y x fs k) f = past_parted a n o k f
past_parted a n o (initializes x joins js done k) f = past_parted a n o k f
past_parted a n o (undoes y x done k) f = past_parted a n o k f
past_parted a n o (assigns y x f' fs k) f = past_parted a n o k f
past_parted a n o (adjusts x f' js done k) f = past_parted a n o k f
