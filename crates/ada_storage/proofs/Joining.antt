-- The control stack as an object joins, and what a place says.

use Rattle.std.proofs.Common.{◌≡◌, ◌≢◌, ℕ, zero, suc, ◌+◌, ◌<◌, ◌≤◌, Bool, true, false, cond, List, [], ◌∷◌, map, refl, sym, ap, ◌∙◌, ◌⊎◌, inl, inr, subst, arith}
use Rattle.std.specs.Prelude.{◌==◌}
use Rattle.std.proofs.lemmas.Bool.Decides.{eqb_tells}
use Rattle.ada_storage.specs.State.{Forest, Owned, declared, collection, Item, Master, Joins, to_items, to_collection, Control, stops, acts, leaves, finalizes, frees, initializes, undoes, assigns, adjusts, bit, same, in_list, in_forest, in_owned, in_items, placed, of_members, in_members, listed, assigned, owned_open, items_open, master_open, opens, joined_owned, joined_item, joined_master, joined}
use Rattle.ada_storage.specs.Law.{top}
use Rattle.ada_storage.proofs.Invariant.{Alive, Objects, alive_by, after, Whole, AllWhole, OwnedFits, ItemsFit, HomeFits, Fits, Falls, Fall, Sorted, Past}
use Rattle.ada_storage.proofs.Facts.{same_self, same_other, same_is, eq_not}

abbrev zero_if : Bool → ℕ
zero_if c = cond c 0 0

abbrev if_one : Bool → ℕ
if_one c = cond c 1 0

no_zero : (b : Bool) → zero_if b ≡ 0
no_zero true = refl
no_zero false = refl

-- Objects joined: as many as there are such collections.
owned_joined : (o x : ℕ) (b : Bool) (owned : Owned) → in_owned x (cond b (joined_owned o owned) owned) ≡ in_owned x owned + cond (x == o) (cond b (owned_open owned) 0) 0
owned_joined o x b owned = elim (eqb_tells x o) [ inl h ↦ there b owned h.0 h.1 | inr h ↦ not' b owned h.0 h.1 ]
  where
    there : (b : Bool) (owned : Owned) → (x == o) ≡ true → x ≡ o → in_owned x (cond b (joined_owned o owned) owned) ≡ in_owned x owned + cond (x == o) (cond b (owned_open owned) 0) 0
    there false owned e i = let z = ap (λ (c : Bool). zero_if c) e in omega (arith, z)
    there true (declared y) e i = let z = ap (λ (c : Bool). zero_if c) e in omega (arith, z)
    there true (collection os) e i = let one = ap bit e in let z = ap (λ (c : Bool). if_one c) e in omega (arith, z, one)

    not' : (b : Bool) (owned : Owned) → (x == o) ≡ false → x ≢ o → in_owned x (cond b (joined_owned o owned) owned) ≡ in_owned x owned + cond (x == o) (cond b (owned_open owned) 0) 0
    not' false owned e i = let z = ap (λ (c : Bool). zero_if c) e in omega (arith, z)
    not' true (declared y) e i = let z = ap (λ (c : Bool). zero_if c) e in omega (arith, z)
    not' true (collection os) e i = let one = ap bit e in let z = ap (λ (c : Bool). if_one c) e in omega (arith, z, one)

if_add : (b : Bool) (n m : ℕ) → cond b (n + m) 0 ≡ cond b n 0 + cond b m 0
if_add true n m = refl
if_add false n m = refl

pub items_joined : (c o x : ℕ) (is : List Item) → in_items x (map (joined_item c o) is) ≡ in_items x is + cond (x == o) (items_open c is) 0
items_joined c o x [] = let z = no_zero (x == o) in omega (arith, z)
items_joined c o x (i ∷ is) =
    let a = owned_joined o x (i.number == c) i.owned in
    let b = items_joined c o x is in
    let s = if_add (x == o) (cond (i.number == c) (owned_open i.owned) 0) (items_open c is) in
    omega (arith, a, b, s)

pub master_joined : (a c o x : ℕ) (m : Master) → in_items x (joined_master a c o m).items ≡ in_items x m.items + cond (x == o) (master_open a c m) 0
master_joined a c o x m = go (m.number == a) (x == o) (items_joined c o x m.items)
  where
    go : (b d : Bool) → in_items x (map (joined_item c o) m.items) ≡ in_items x m.items + cond d (items_open c m.items) 0 → in_items x (cond b (map (joined_item c o) m.items) m.items) ≡ in_items x m.items + cond d (cond b (items_open c m.items) 0) 0
    go true d e = e
    go false true e = omega arith
    go false false e = omega arith

frame_joined : (a c o x : ℕ) (m : Master) (n p q : ℕ) → p ≡ n + cond (x == o) q 0 → in_items x (joined_master a c o m).items + p ≡ (in_items x m.items + n) + cond (x == o) (master_open a c m + q) 0
frame_joined a c o x m n p q e =
    let h = master_joined a c o x m in
    let s = if_add (x == o) (master_open a c m) q in
    omega (arith, h, s, e)

pub placed_joined : (a c o x : ℕ) (k : Control) → placed x (joined a c o k) ≡ placed x k + cond (x == o) (opens a c k) 0
placed_joined a c o x stops = let z = no_zero (x == o) in omega (arith, z)
placed_joined a c o x (acts m k) = frame_joined a c o x m (placed x k) _ (opens a c k) (placed_joined a c o x k)
placed_joined a c o x (leaves m mode k) = frame_joined a c o x m (placed x k) _ (opens a c k) (placed_joined a c o x k)
placed_joined a c o x (finalizes m i y fs mode k) = let h = frame_joined a c o x m (placed x k) _ (opens a c k) (placed_joined a c o x k) in omega (arith, h)
placed_joined a c o x (frees n y fs k) = let h = placed_joined a c o x k in omega (arith, h)
placed_joined a c o x (initializes y joins js done k) = let h = placed_joined a c o x k in omega (arith, h)
placed_joined a c o x (undoes n y done k) = let h = placed_joined a c o x k in omega (arith, h)
placed_joined a c o x (assigns n y f fs k) = placed_joined a c o x k
placed_joined a c o x (adjusts y f js done k) = placed_joined a c o x k

pub top_joined : (a c o : ℕ) (k : Control) → top (joined a c o k) ≡ top k
top_joined a c o stops = refl
top_joined a c o (acts m k) = refl
top_joined a c o (leaves m mode k) = refl
top_joined a c o (finalizes m i x fs mode k) = refl
top_joined a c o (frees n x fs k) = top_joined a c o k
top_joined a c o (initializes x joins js done k) = top_joined a c o k
top_joined a c o (undoes n x done k) = top_joined a c o k
top_joined a c o (assigns n x f fs k) = top_joined a c o k
top_joined a c o (adjusts x f js done k) = top_joined a c o k

-- A whole object joins a collection of its home; frames below see it as it is, since nil assignment of it is under way.
owned_fits_joined : (A : Alive) (T : Objects) (m o : ℕ) (b : Bool) (owned : Owned) → Whole A T m o → OwnedFits A T m owned → OwnedFits A T m (cond b (joined_owned o owned) owned)
owned_fits_joined A T m o false owned w f = f
owned_fits_joined A T m o true (declared x) w f = f
owned_fits_joined A T m o true (collection os) w f = (w, f)

items_fit_joined : (A : Alive) (T : Objects) (m c o : ℕ) (is : List Item) → Whole A T m o → ItemsFit A T m is → ItemsFit A T m (map (joined_item c o) is)
items_fit_joined A T m c o [] w f = tt
items_fit_joined A T m c o (i ∷ is) w f = (owned_fits_joined A T m o (i.number == c) i.owned w f.0, items_fit_joined A T m c o is w f.1)

master_fits_joined : (A : Alive) (T : Objects) (a c o : ℕ) (m : Master) → Whole A T a o → ItemsFit A T m.number m.items → ItemsFit A T m.number (joined_master a c o m).items
master_fits_joined A T a c o m w f = elim (eqb_tells m.number a) [ inl h ↦ yes' h.0 h.1 | inr h ↦ not' h.0 ]
  where
    yes' : (m.number == a) ≡ true → m.number ≡ a → ItemsFit A T m.number (joined_master a c o m).items
    yes' e same' = subst (λ (b : Bool). ItemsFit A T m.number (cond b (map (joined_item c o) m.items) m.items)) (sym e) (items_fit_joined A T m.number c o m.items (w.0, w.1 ∙ sym same') f)

    not' : (m.number == a) ≡ false → ItemsFit A T m.number (joined_master a c o m).items
    not' e = subst (λ (b : Bool). ItemsFit A T m.number (cond b (map (joined_item c o) m.items) m.items)) (sym e) f

owned_open_joined : (o : ℕ) (b : Bool) (owned : Owned) → owned_open (cond b (joined_owned o owned) owned) ≡ owned_open owned
owned_open_joined o false owned = refl
owned_open_joined o true (declared x) = refl
owned_open_joined o true (collection os) = refl

items_open_joined : (d c o : ℕ) (is : List Item) → items_open d (map (joined_item c o) is) ≡ items_open d is
items_open_joined d c o [] = refl
items_open_joined d c o (i ∷ is) = let a = ap (λ n. cond (i.number == d) n 0) (owned_open_joined o (i.number == c) i.owned) in let b = items_open_joined d c o is in omega (arith, a, b)

master_open_joined : (b d a c o : ℕ) (m : Master) → master_open b d (joined_master a c o m) ≡ master_open b d m
master_open_joined b d a c o m = ap (λ n. cond (m.number == b) n 0) (go (m.number == a))
  where
    go : (e : Bool) → items_open d (cond e (map (joined_item c o) m.items) m.items) ≡ items_open d m.items
    go true = items_open_joined d c o m.items
    go false = refl

pub opens_joined : (b d a c o : ℕ) (k : Control) → opens b d (joined a c o k) ≡ opens b d k
opens_joined b d a c o stops = refl
opens_joined b d a c o (acts m k) = let x = master_open_joined b d a c o m in let y = opens_joined b d a c o k in omega (arith, x, y)
opens_joined b d a c o (leaves m mode k) = let x = master_open_joined b d a c o m in let y = opens_joined b d a c o k in omega (arith, x, y)
opens_joined b d a c o (finalizes m i z fs mode k) = let x = master_open_joined b d a c o m in let y = opens_joined b d a c o k in omega (arith, x, y)
opens_joined b d a c o (frees n z fs k) = opens_joined b d a c o k
opens_joined b d a c o (initializes z joins js done k) = opens_joined b d a c o k
opens_joined b d a c o (undoes n z done k) = opens_joined b d a c o k
opens_joined b d a c o (assigns n z f fs k) = opens_joined b d a c o k
opens_joined b d a c o (adjusts z f js done k) = opens_joined b d a c o k

home_joined : (joins : Joins) (h a c o : ℕ) (k : Control) → HomeFits joins h k → HomeFits joins h (joined a c o k)
home_joined to_items h a c o k e = e ∙ sym (top_joined a c o k)
home_joined (to_collection b d) h a c o k e = (e.0, opens_joined b d a c o k ∙ e.1)

placed_more : (a c o x : ℕ) (k : Control) → 0 < placed x k → 0 < placed x (joined a c o k)
placed_more a c o x k h = let e = placed_joined a c o x k in omega (arith, e, h)

-- After an assignment of another object.
whole_after : (A : Alive) (T : Objects) (m o y : ℕ) (f : Forest) → o ≢ y → Whole A T m o → Whole (after A y f) T m o
whole_after A T m o y f ne w = (λ q. ap (λ b. bit (cond b (alive_by (in_forest q f) (A o q)) (A o q))) (eq_not o y ne) ∙ w.0 q, w.1)

unplaced : (x o : ℕ) (k : Control) → 0 < placed x k → placed o k ≡ 0 → o ≢ x
unplaced x o k pos nil e = let h : placed x k ≡ 0 = subst (λ (y : ℕ). placed y k ≡ 0) e nil in omega (arith, h, pos)

pub fits_joined : (A : Alive) (T : Objects) (a c o : ℕ) (k : Control) → placed o k ≡ 0 → Whole A T a o → Fits A T k → Fits A T (joined a c o k)
fits_joined A T a c o stops nil w f = tt
fits_joined A T a c o (acts m k) nil w f = (master_fits_joined A T a c o m w f.0, rw (top_joined a c o k) f.1, fits_joined A T a c o k (omega (arith, nil)) w f.2)
fits_joined A T a c o (leaves m mode k) nil w f = (master_fits_joined A T a c o m w f.0, rw (top_joined a c o k) f.1, fits_joined A T a c o k (omega (arith, nil)) w f.2)
fits_joined A T a c o (finalizes m i x fs mode k) nil w f = (f.0, f.1, (master_fits_joined A T a c o m w f.2.0, rw (top_joined a c o k) f.2.1, fits_joined A T a c o k (omega (arith, nil)) w f.2.2))
fits_joined A T a c o (frees n x fs k) nil w f = (f.0, rw (top_joined a c o k) f.1, fits_joined A T a c o k (omega (arith, nil)) w f.2)
fits_joined A T a c o (initializes x joins js done k) nil w f = (f.0, f.1, f.2, home_joined joins (T x).home a c o k f.3, fits_joined A T a c o k (omega (arith, nil)) w f.4)
fits_joined A T a c o (undoes n x done k) nil w f = (f.0, rw (top_joined a c o k) f.1, fits_joined A T a c o k (omega (arith, nil)) w f.2)
fits_joined A T a c o (assigns n x g fs k) nil w f = (f.0, f.1, f.2, placed_more a c o x k f.3, fits_joined (after A x g) T a c o k nil (whole_after A T a o x g (unplaced x o k f.3 nil) w) f.4)
fits_joined A T a c o (adjusts x g js done k) nil w f = (f.0, f.1, f.2, placed_more a c o x k f.3, fits_joined (after A x g) T a c o k nil (whole_after A T a o x g (unplaced x o k f.3 nil) w) f.4)

falls_joined : (b c o : ℕ) (is : List Item) → Falls b is → Falls b (map (joined_item c o) is)
falls_joined b c o [] f = tt
falls_joined b c o (i ∷ is) f = (f.0, falls_joined i.number c o is f.1)

master_falls : (b a c o : ℕ) (m : Master) → Falls b m.items → Falls b (joined_master a c o m).items
master_falls b a c o m f = go (m.number == a)
  where
    go : (d : Bool) → Falls b (cond d (map (joined_item c o) m.items) m.items)
    go true = falls_joined b c o m.items f
    go false = f

fall_joined : (c o : ℕ) (is : List Item) → Fall is → Fall (map (joined_item c o) is)
fall_joined c o [] f = tt
fall_joined c o (i ∷ is) f = falls_joined i.number c o is f

master_fall : (a c o : ℕ) (m : Master) → Fall m.items → Fall (joined_master a c o m).items
master_fall a c o m f = go (m.number == a)
  where
    go : (d : Bool) → Fall (cond d (map (joined_item c o) m.items) m.items)
    go true = fall_joined c o m.items f
    go false = f

pub sorted_joined : (b a c o : ℕ) (k : Control) → Sorted b k → Sorted b (joined a c o k)
sorted_joined b a c o stops f = tt
sorted_joined b a c o (acts m k) f = (master_fall a c o m f.0, sorted_joined b a c o k f.1)
sorted_joined b a c o (leaves m mode k) f = (master_fall a c o m f.0, sorted_joined b a c o k f.1)
sorted_joined b a c o (finalizes m i x fs mode k) f = (master_falls (suc i) a c o m f.0, sorted_joined b a c o k f.1)
sorted_joined b a c o (frees n x fs k) f = (f.0, sorted_joined b a c o k f.1)
sorted_joined b a c o (initializes x joins js done k) f = sorted_joined b a c o k f
sorted_joined b a c o (undoes n x done k) f = (f.0, sorted_joined b a c o k f.1)
sorted_joined b a c o (assigns n x g fs k) f = (f.0, sorted_joined n a c o k f.1)
sorted_joined b a c o (adjusts x g js done k) f = sorted_joined b a c o k f

pub past_joined : (z n a c o : ℕ) (k : Control) → Past z n k → Past z n (joined a c o k)
past_joined z n a c o stops f = tt
past_joined z n a c o (acts m k) f = (f.0, past_joined z n a c o k f.1)
past_joined z n a c o (leaves m mode k) f = (λ e. master_falls (suc n) a c o m (f.0 e), past_joined z n a c o k f.1)
past_joined z n a c o (finalizes m i x fs mode k) f = (λ e. ((f.0 e).0, master_falls (suc n) a c o m (f.0 e).1), past_joined z n a c o k f.1)
past_joined z n a c o (frees y x fs k) f = past_joined z n a c o k f
past_joined z n a c o (initializes x joins js done k) f = past_joined z n a c o k f
past_joined z n a c o (undoes y x done k) f = past_joined z n a c o k f
past_joined z n a c o (assigns y x g fs k) f = past_joined z n a c o k f
past_joined z n a c o (adjusts x g js done k) f = past_joined z n a c o k f

-- An open collection's master is entered.
items_none : (a c : ℕ) (m : Master) → 0 < master_open a c m → m.number ≡ a
items_none a c m pos = elim (eqb_tells m.number a) [ inl h ↦ h.1 | inr h ↦ absurd (let e = ap (λ b. cond b (items_open c m.items) 0) h.0 in omega (arith, e, pos)) ]

frame_open : (a c : ℕ) (m : Master) (n t : ℕ) → 0 < master_open a c m + n → (0 < n → a ≤ t) → t < m.number → a ≤ m.number
frame_open a c m zero t pos more lt = let e = items_none a c m (omega (arith, pos)) in omega (arith, e)
frame_open a c m (suc n) t pos more lt = let le = more (omega arith) in omega (arith, le, lt)

pub opens_le : (A : Alive) (T : Objects) (a c : ℕ) (k : Control) → 0 < opens a c k → Fits A T k → a ≤ top k
opens_le A T a c stops pos f = omega (arith, pos)
opens_le A T a c (acts m k) pos f = frame_open a c m (opens a c k) (top k) pos (λ h. opens_le A T a c k h f.2) f.1
opens_le A T a c (leaves m mode k) pos f = frame_open a c m (opens a c k) (top k) pos (λ h. opens_le A T a c k h f.2) f.1
opens_le A T a c (finalizes m i x fs mode k) pos f = frame_open a c m (opens a c k) (top k) pos (λ h. opens_le A T a c k h f.2.2) f.2.1
opens_le A T a c (frees n x fs k) pos f = opens_le A T a c k pos f.2
opens_le A T a c (initializes x joins js done k) pos f = opens_le A T a c k pos f.4
opens_le A T a c (undoes n x done k) pos f = opens_le A T a c k pos f.2
opens_le A T a c (assigns n x g fs k) pos f = opens_le (after A x g) T a c k pos f.4
opens_le A T a c (adjusts x g js done k) pos f = opens_le (after A x g) T a c k pos f.4

-- The home of what is placed is a master that is entered.
all_home : (A : Alive) (T : Objects) (m x : ℕ) (os : List ℕ) → 0 < in_list x os → AllWhole A T m os → (T x).home ≡ m
all_home A T m x [] pos w = absurd (omega (arith, pos))
all_home A T m x (o ∷ os) pos w = elim (eqb_tells x o) [ inl h ↦ rw h.1 w.0.1 | inr h ↦ all_home A T m x os (let z = same_other x o h.1 in omega (arith, z, pos)) w.1 ]

owned_home : (A : Alive) (T : Objects) (m x : ℕ) (owned : Owned) → 0 < in_owned x owned → OwnedFits A T m owned → (T x).home ≡ m
owned_home A T m x (declared o) pos w = rw (same_is x o pos) w.1
owned_home A T m x (collection os) pos w = all_home A T m x os pos w

pub either : (a b : ℕ) → 0 < a + b → (0 < a) ⊎ (0 < b)
either zero b pos = inr (omega (arith, pos))
either (suc a) b pos = inl (omega arith)

pub items_home : (A : Alive) (T : Objects) (m x : ℕ) (is : List Item) → 0 < in_items x is → ItemsFit A T m is → (T x).home ≡ m
items_home A T m x [] pos w = absurd (omega (arith, pos))
items_home A T m x (i ∷ is) pos w = elim (either (in_owned x i.owned) (in_items x is) pos) [ inl h ↦ owned_home A T m x i.owned h w.0 | inr h ↦ items_home A T m x is h w.1 ]

frame_home : (A : Alive) (T : Objects) (x : ℕ) (m : Master) (n t : ℕ) → 0 < in_items x m.items + n → ItemsFit A T m.number m.items → t < m.number → (0 < n → (T x).home ≤ t) → (T x).home ≤ m.number
frame_home A T x m n t pos w lt more = elim (either (in_items x m.items) n pos) [ inl h ↦ (let e = items_home A T m.number x m.items h w in omega (arith, e)) | inr h ↦ (let le = more h in omega (arith, le, lt)) ]

pub home_le : (A : Alive) (T : Objects) (joins : Joins) (h : ℕ) (k : Control) → Fits A T k → HomeFits joins h k → h ≤ top k
home_le A T to_items h k f e = omega (arith, e)
home_le A T (to_collection a c) h k f e = let le = opens_le A T a c k (omega (arith, e.1)) f in omega (arith, e.0, le)

held_home : (T : Objects) (x o n t : ℕ) → 0 < same x o + n → (T o).home ≤ t → (0 < n → (T x).home ≤ t) → (T x).home ≤ t
held_home T x o n t pos here more = elim (either (same x o) n pos) [ inl h ↦ rw (same_is x o h) here | inr h ↦ more h ]

pub placed_home : (A : Alive) (T : Objects) (x : ℕ) (k : Control) → 0 < placed x k → Fits A T k → (T x).home ≤ top k
placed_home A T x stops pos f = absurd (omega (arith, pos))
placed_home A T x (acts m k) pos f = frame_home A T x m (placed x k) (top k) pos f.0 f.1 (λ h. placed_home A T x k h f.2)
placed_home A T x (leaves m mode k) pos f = frame_home A T x m (placed x k) (top k) pos f.0 f.1 (λ h. placed_home A T x k h f.2)
placed_home A T x (finalizes m i o fs mode k) pos f = held_home T x o (in_items x m.items + placed x k) m.number pos (omega (arith, f.1)) (λ p. frame_home A T x m (placed x k) (top k) p f.2.0 f.2.1 (λ h. placed_home A T x k h f.2.2))
placed_home A T x (frees n o fs k) pos f = held_home T x o (placed x k) (top k) pos f.1 (λ h. placed_home A T x k h f.2)
placed_home A T x (initializes o joins js done k) pos f = held_home T x o (placed x k) (top k) pos (home_le A T joins (T o).home k f.4 f.3) (λ h. placed_home A T x k h f.4)
placed_home A T x (undoes n o done k) pos f = held_home T x o (placed x k) (top k) pos f.1 (λ h. placed_home A T x k h f.2)
placed_home A T x (assigns n o g fs k) pos f = placed_home (after A o g) T x k pos f.4
placed_home A T x (adjusts o g js done k) pos f = placed_home (after A o g) T x k pos f.4

-- What is assigned has its place below.
pub assigned_placed : (A : Alive) (T : Objects) (x : ℕ) (k : Control) → 0 < assigned x k → Fits A T k → 0 < placed x k
assigned_placed A T x stops pos f = absurd (omega (arith, pos))
assigned_placed A T x (acts m k) pos f = let h = assigned_placed A T x k pos f.2 in omega (arith, h)
assigned_placed A T x (leaves m mode k) pos f = let h = assigned_placed A T x k pos f.2 in omega (arith, h)
assigned_placed A T x (finalizes m i o fs mode k) pos f = let h = assigned_placed A T x k pos f.2.2 in omega (arith, h)
assigned_placed A T x (frees n o fs k) pos f = let h = assigned_placed A T x k pos f.2 in omega (arith, h)
assigned_placed A T x (initializes o joins js done k) pos f = let h = assigned_placed A T x k pos f.4 in omega (arith, h)
assigned_placed A T x (undoes n o done k) pos f = let h = assigned_placed A T x k pos f.2 in omega (arith, h)
assigned_placed A T x (assigns n o g fs k) pos f = elim (either (same x o) (assigned x k) pos) [ inl h ↦ subst (λ (y : ℕ). 0 < placed y k) (sym (same_is x o h)) f.3 | inr h ↦ assigned_placed (after A o g) T x k h f.4 ]
assigned_placed A T x (adjusts o g js done k) pos f = elim (either (same x o) (assigned x k) pos) [ inl h ↦ subst (λ (y : ℕ). 0 < placed y k) (sym (same_is x o h)) f.3 | inr h ↦ assigned_placed (after A o g) T x k h f.4 ]

-- A member of a collection that is not assigned to is whole.
before_after : (A : Alive) (T : Objects) (x o : ℕ) (f : Forest) → x ≢ o → ((q : ℕ) → bit (after A o f x q) ≡ in_forest q (T x).shape) → (q : ℕ) → bit (A x q) ≡ in_forest q (T x).shape
before_after A T x o f ne w q = sym (ap (λ b. bit (cond b (alive_by (in_forest q f) (A x q)) (A x q))) (eq_not x o ne)) ∙ w q

abbrev pub Full : Alive → Objects → ℕ → Type 0
Full A T x = (q : ℕ) → bit (A x q) ≡ in_forest q (T x).shape

all_full : (A : Alive) (T : Objects) (m x : ℕ) (os : List ℕ) → 0 < in_list x os → AllWhole A T m os → Full A T x
all_full A T m x [] pos w = absurd (omega (arith, pos))
all_full A T m x (o ∷ os) pos w = elim (eqb_tells x o) [ inl h ↦ rw h.1 w.0.0 | inr h ↦ all_full A T m x os (let z = same_other x o h.1 in omega (arith, z, pos)) w.1 ]

owned_full : (A : Alive) (T : Objects) (m x : ℕ) (owned : Owned) → 0 < of_members x owned → OwnedFits A T m owned → Full A T x
owned_full A T m x (declared o) pos w = absurd (omega (arith, pos))
owned_full A T m x (collection os) pos w = all_full A T m x os pos w

pub items_full : (A : Alive) (T : Objects) (m x : ℕ) (is : List Item) → 0 < in_members x is → ItemsFit A T m is → Full A T x
items_full A T m x [] pos w = absurd (omega (arith, pos))
items_full A T m x (i ∷ is) pos w = elim (either (of_members x i.owned) (in_members x is) pos) [ inl h ↦ owned_full A T m x i.owned h w.0 | inr h ↦ items_full A T m x is h w.1 ]

frame_full : (A : Alive) (T : Objects) (x m n : ℕ) (is : List Item) → 0 < in_members x is + n → ItemsFit A T m is → (0 < n → Full A T x) → Full A T x
frame_full A T x m n is pos w more = elim (either (in_members x is) n pos) [ inl h ↦ items_full A T m x is h w | inr h ↦ more h ]

differs : (x o n : ℕ) → same x o + n ≡ 0 → x ≢ o
differs x o n nil e = let one : same x o ≡ 1 = rw e (same_self o) in omega (arith, one, nil)

pub listed_full : (A : Alive) (T : Objects) (x : ℕ) (k : Control) → 0 < listed x k → assigned x k ≡ 0 → Fits A T k → Full A T x
listed_full A T x stops pos a f = absurd (omega (arith, pos))
listed_full A T x (acts m k) pos a f = frame_full A T x m.number (listed x k) m.items pos f.0 (λ h. listed_full A T x k h a f.2)
listed_full A T x (leaves m mode k) pos a f = frame_full A T x m.number (listed x k) m.items pos f.0 (λ h. listed_full A T x k h a f.2)
listed_full A T x (finalizes m i o fs mode k) pos a f = frame_full A T x m.number (listed x k) m.items pos f.2.0 (λ h. listed_full A T x k h a f.2.2)
listed_full A T x (frees n o fs k) pos a f = listed_full A T x k pos a f.2
listed_full A T x (initializes o joins js done k) pos a f = listed_full A T x k pos a f.4
listed_full A T x (undoes n o done k) pos a f = listed_full A T x k pos a f.2
listed_full A T x (assigns n o g fs k) pos a f = before_after A T x o g (differs x o (assigned x k) a) (listed_full (after A o g) T x k pos (omega (arith, a)) f.4)
listed_full A T x (adjusts o g js done k) pos a f = before_after A T x o g (differs x o (assigned x k) a) (listed_full (after A o g) T x k pos (omega (arith, a)) f.4)

-- Masters that are older than one are not that one.
pub past_below : (A : Alive) (T : Objects) (a n : ℕ) (k : Control) → top k < a → Fits A T k → Past a n k
past_below A T a n stops lt f = tt
past_below A T a n (acts m k) lt f = (λ e. omega (arith, e, lt), past_below A T a n k (omega (arith, lt, f.1)) f.2)
past_below A T a n (leaves m mode k) lt f = (λ e. absurd (omega (arith, e, lt)), past_below A T a n k (omega (arith, lt, f.1)) f.2)
past_below A T a n (finalizes m i o fs mode k) lt f = (λ e. absurd (omega (arith, e, lt)), past_below A T a n k (omega (arith, lt, f.2.1)) f.2.2)
past_below A T a n (frees y o fs k) lt f = past_below A T a n k lt f.2
past_below A T a n (initializes o joins js done k) lt f = past_below A T a n k lt f.4
past_below A T a n (undoes y o done k) lt f = past_below A T a n k lt f.2
past_below A T a n (assigns y o g fs k) lt f = past_below (after A o g) T a n k lt f.4
past_below A T a n (adjusts o g js done k) lt f = past_below (after A o g) T a n k lt f.4
