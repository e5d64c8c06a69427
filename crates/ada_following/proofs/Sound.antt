-- What each state of a run keeps of masters and of the heap.

use Rattle.std.proofs.Common.{◌≡◌, ◌≢◌, ℕ, ◌<◌, ◌≤◌, Bool, true, false, cond, List, [], ◌∷◌, ◌++◌, length, None, refl, sym, ap, ◌∙◌, ◌⊎◌, inl, inr, subst, arith, length-append}
use Rattle.std.specs.Prelude.{◌==◌}
use Rattle.std.specs.List.{slice_get}
use Rattle.std.proofs.lemmas.Bool.Decides.{eqb_tells}
use Rattle.ada_meaning.specs.declared.state.Value.{Value}
use Rattle.ada_meaning.specs.Heap.{Cell}
use Rattle.ada_meaning.specs.State.{Owned, declared, collection, record_object, storage_pool, Item, Master, height}
use Rattle.ada_meaning.specs.Step.{owning}
use Rattle.ada_meaning.specs.Named.{new_object}
use Rattle.ada_storage.specs.State.{without}
use Rattle.ada_storage.proofs.Facts.{eq_self, eq_not}
use Rattle.ada_following.specs.Reading.{listed_in}
use Rattle.ada_following.proofs.Heaps.{Heap, pool_of, AreFine, fine_add, add_here, add_there, Alike, Changes, Unlists, Returns, added_elsewhere, added_there}
use Rattle.ada_following.proofs.Places.{Counted, NotIn, NotInMasters, IsCollection, ItemOnce, MasterOnce, height_not_in}

-- No object comes with such an item.
abbrev pub IsBare : Owned → Type 0
IsBare (declared x) = Unit {0}
IsBare (collection access pool) = Unit {0}
IsBare (record_object t) = ⊥
IsBare (storage_pool declaration number) = Unit {0}

-- What has changed in the collection under the number c: the object o is its newest member.
pub record Joins (c o : ℕ) (g h : Heap) : Type 0 where
  pub there : listed_in h c ≡ o ∷ listed_in g c
  pub elsewhere : (n : ℕ) → n ≢ c → listed_in h n ≡ listed_in g n

-- A record object is the only one whose home its item is, and it is from no pool.
abbrev pub IsSingle : Heap → List ℕ → Type 0
IsSingle h [] = Unit {0}
IsSingle h (o ∷ os) = (pool_of (slice_get h o) ≡ None) × (o < length h) × (os ≡ [])

-- A variable and a pool are no object's home.
abbrev pub Fits : Heap → List ℕ → Owned → Type 0
Fits h os (declared x) = os ≡ []
Fits h os (collection access pool) = Unit {0}
Fits h os (record_object t) = IsSingle h os
Fits h os (storage_pool d p) = os ≡ []

abbrev pub ItemsFit : Heap → List Item → Type 0
ItemsFit h [] = Unit {0}
ItemsFit h (i ∷ is) = Fits h (listed_in h i.number) i.owned × ItemsFit h is

abbrev pub MastersFit : Heap → List Master → Type 0
MastersFit h [] = Unit {0}
MastersFit h (m ∷ ms) = ItemsFit h m.items × MastersFit h ms

pub record Sound (h : Heap) (ms : List Master) : Type 0 where
  pub counted : Counted ms
  pub fit : MastersFit h ms
  -- no object's home is an item that is still to come
  pub beyond : (n : ℕ) → height ms ≤ n → listed_in h n ≡ []
  pub fine : AreFine h

-- Nothing of it changes where pools and members stay, or members leave.
record Keeps (g h : Heap) : Type 0 where
  pool : (o : ℕ) → pool_of (slice_get h o) ≡ pool_of (slice_get g o)
  count : length h ≡ length g
  listed : (n : ℕ) → (listed_in h n ≡ listed_in g n) ⊎ ((o : ℕ) × (listed_in h n ≡ without o (listed_in g n)))

single_without : (g h : Heap) (o x : ℕ) (os : List ℕ) → Keeps g h → IsSingle g (x ∷ os) → IsSingle h (without o (x ∷ os))
single_without g h o x os k s = rw (s.2) (go (x == o))
  where
    go : (b : Bool) → IsSingle h (cond b [] (x ∷ []))
    go true = tt
    go false = let lt = s.1 in let same = k.count in (k.pool x ∙ s.0, omega (arith, lt, same), refl)

single_same : (g h : Heap) (os : List ℕ) → Keeps g h → IsSingle g os → IsSingle h os
single_same g h [] k s = tt
single_same g h (o ∷ os) k s = let lt = s.1 in let same = k.count in (k.pool o ∙ s.0, omega (arith, lt, same), s.2)

single_less : (g h : Heap) (o : ℕ) (os : List ℕ) → Keeps g h → IsSingle g os → IsSingle h (without o os)
single_less g h o [] k s = tt
single_less g h o (x ∷ os) k s = single_without g h o x os k s

fits_same : (g h : Heap) (os : List ℕ) (what : Owned) → Keeps g h → Fits g os what → Fits h os what
fits_same g h os (declared x) k f = f
fits_same g h os (collection access pool) k f = tt
fits_same g h os (record_object t) k f = single_same g h os k f
fits_same g h os (storage_pool d p) k f = f

fits_less : (g h : Heap) (o : ℕ) (os : List ℕ) (what : Owned) → Keeps g h → Fits g os what → Fits h (without o os) what
fits_less g h o os (declared x) k f = ap (without o) f
fits_less g h o os (collection access pool) k f = tt
fits_less g h o os (record_object t) k f = single_less g h o os k f
fits_less g h o os (storage_pool d p) k f = ap (without o) f

fits_kept : (g h : Heap) (n : ℕ) (what : Owned) → Keeps g h → (listed_in h n ≡ listed_in g n) ⊎ ((o : ℕ) × (listed_in h n ≡ without o (listed_in g n))) → Fits g (listed_in g n) what → Fits h (listed_in h n) what
fits_kept g h n what k (inl e) f = subst (λ (os : List ℕ). Fits h os what) (sym e) (fits_same g h (listed_in g n) what k f)
fits_kept g h n what k (inr (o, e)) f = subst (λ (os : List ℕ). Fits h os what) (sym e) (fits_less g h o (listed_in g n) what k f)

items_kept : (g h : Heap) (is : List Item) → Keeps g h → ItemsFit g is → ItemsFit h is
items_kept g h [] k f = tt
items_kept g h (i ∷ is) k f = (fits_kept g h i.number i.owned k (k.listed i.number) f.0, items_kept g h is k f.1)

masters_kept : (g h : Heap) (ms : List Master) → Keeps g h → MastersFit g ms → MastersFit h ms
masters_kept g h [] k f = tt
masters_kept g h (m ∷ ms) k f = (items_kept g h m.items k f.0, masters_kept g h ms k f.1)

none_kept : (g h : Heap) (n : ℕ) → (listed_in h n ≡ listed_in g n) ⊎ ((o : ℕ) × (listed_in h n ≡ without o (listed_in g n))) → listed_in g n ≡ [] → listed_in h n ≡ []
none_kept g h n (inl e) z = e ∙ z
none_kept g h n (inr (o, e)) z = e ∙ ap (without o) z

sound_kept : (g h : Heap) (ms : List Master) → Keeps g h → AreFine h → Sound g ms → Sound h ms
sound_kept g h ms k fine s = record {
  counted = s.counted;
  fit = masters_kept g h ms k s.fit;
  beyond = λ n le. none_kept g h n (k.listed n) (s.beyond n le);
  fine = fine;
}

pub sound_alike : (g h : Heap) (ms : List Master) → Alike g h → Sound g ms → Sound h ms
sound_alike g h ms a s = sound_kept g h ms (record { pool = a.pool; count = a.count; listed = λ n. inl (a.listed n) }) (a.fine s.fine) s

pub sound_unlists : (g h : Heap) (o : ℕ) (ms : List Master) → Unlists o g h → Sound g ms → Sound h ms
sound_unlists g h o ms a s = sound_kept g h ms (record { pool = a.pool; count = a.count; listed = λ n. inr (o, a.listed n) }) (a.fine s.fine) s

pub sound_changes : (g h : Heap) (o : ℕ) (ms : List Master) → Changes o g h → Sound g ms → Sound h ms
sound_changes g h o ms a s = sound_kept g h ms (record { pool = a.pool; count = a.count; listed = λ n. inl (a.listed n) }) (a.fine s.fine) s

pub sound_returns : (g h : Heap) (o : ℕ) (ms : List Master) → Returns o g h → Sound g ms → Sound h ms
sound_returns g h o ms a s = sound_kept g h ms (record { pool = a.pool; count = a.count; listed = λ n. inl (a.listed n) }) a.fine s

-- Masters are entered and left, and items come and go.
pub sound_entered : (h : Heap) (n : ℕ) (ms : List Master) → Sound h ms → Sound h (record { number = n; items = [] } ∷ ms)
sound_entered h n ms s = record { counted = (tt, s.counted); fit = (tt, s.fit); beyond = λ x le. s.beyond x (omega (arith, le)); fine = s.fine }

pub sound_left : (h : Heap) (n : ℕ) (ms : List Master) → Sound h (record { number = n; items = [] } ∷ ms) → Sound h ms
sound_left h n ms s = record { counted = s.counted.1; fit = s.fit.1; beyond = λ x le. s.beyond x (omega (arith, le)); fine = s.fine }

pub sound_shorter : (h : Heap) (n : ℕ) (i : Item) (is : List Item) (ms : List Master) → listed_in h i.number ≡ [] → Sound h (record { number = n; items = i ∷ is } ∷ ms) → Sound h (record { number = n; items = is } ∷ ms)
sound_shorter h n i is ms z s = record { counted = (s.counted.0.1, s.counted.1); fit = (s.fit.0.1, s.fit.1); beyond = beyond; fine = s.fine }
  where
    beyond : (x : ℕ) → height (record { number = n; items = is } ∷ ms) ≤ x → listed_in h x ≡ []
    beyond x le = elim (eqb_tells x i.number) [ inl e ↦ (ap (listed_in h) e.1 ∙ z) | inr e ↦ s.beyond x (let ne = e.1 in let is_number = s.counted.0.0 in omega (arith, le, ne, is_number)) ]

fits_bare : (h : Heap) (os : List ℕ) (what : Owned) → IsBare what → os ≡ [] → Fits h os what
fits_bare h os (declared x) is e = e
fits_bare h os (collection access pool) is e = tt
fits_bare h os (record_object t) is e = absurd is
fits_bare h os (storage_pool d p) is e = e

pub sound_owns : (h : Heap) (what : Owned) (m : Master) (ms : List Master) → IsBare what → Sound h (m ∷ ms) → Sound h (owning (record { number = height (m ∷ ms); owned = what }) (m ∷ ms))
sound_owns h what m ms is s = record {
  counted = ((refl, s.counted.0), s.counted.1);
  fit = ((fits_bare h (listed_in h (height (m ∷ ms))) what is (s.beyond (height (m ∷ ms)) (omega arith)), s.fit.0), s.fit.1);
  beyond = λ x le. s.beyond x (omega (arith, le));
  fine = s.fine;
}

-- An object more is there.
record Adds (c : ℕ) (g h : Heap) : Type 0 where
  elsewhere : (n : ℕ) → n ≢ c → listed_in h n ≡ listed_in g n
  pool : (o : ℕ) → o < length g → pool_of (slice_get h o) ≡ pool_of (slice_get g o)
  count : length g ≤ length h

single_more : (c : ℕ) (g h : Heap) (os : List ℕ) → Adds c g h → IsSingle g os → IsSingle h os
single_more c g h [] a s = tt
single_more c g h (o ∷ os) a s = let lt = s.1 in let le = a.count in (a.pool o s.1 ∙ s.0, omega (arith, lt, le), s.2)

fits_more : (c : ℕ) (g h : Heap) (os : List ℕ) (what : Owned) → Adds c g h → Fits g os what → Fits h os what
fits_more c g h os (declared x) a f = f
fits_more c g h os (collection access pool) a f = tt
fits_more c g h os (record_object t) a f = single_more c g h os a f
fits_more c g h os (storage_pool d p) a f = f

items_more : (c : ℕ) (g h : Heap) (is : List Item) → Adds c g h → NotIn c is → ItemsFit g is → ItemsFit h is
items_more c g h [] a not f = tt
items_more c g h (i ∷ is) a not f =
    (subst (λ (os : List ℕ). Fits h os i.owned) (sym (a.elsewhere i.number not.0)) (fits_more c g h (listed_in g i.number) i.owned a f.0), items_more c g h is a not.1 f.1)

masters_more : (c : ℕ) (g h : Heap) (ms : List Master) → Adds c g h → NotInMasters c ms → MastersFit g ms → MastersFit h ms
masters_more c g h [] a not f = tt
masters_more c g h (m ∷ ms) a not f = (items_more c g h m.items a not.0 f.0, masters_more c g h ms a not.1 f.1)

any_fits : (h : Heap) (os : List ℕ) (what : Owned) → IsCollection what → Fits h os what
any_fits h os (declared x) is = absurd is
any_fits h os (collection access pool) is = tt
any_fits h os (record_object t) is = absurd is
any_fits h os (storage_pool d p) is = absurd is

items_once : (c : ℕ) (g h : Heap) (is : List Item) → Adds c g h → ItemOnce c is → ItemsFit g is → ItemsFit h is
items_once c g h [] a once f = absurd once
items_once c g h (i ∷ is) a (inl once) f = (any_fits h (listed_in h i.number) i.owned once.1, items_more c g h is a once.2 f.1)
items_once c g h (i ∷ is) a (inr once) f =
    (subst (λ (os : List ℕ). Fits h os i.owned) (sym (a.elsewhere i.number once.0)) (fits_more c g h (listed_in g i.number) i.owned a f.0), items_once c g h is a once.1 f.1)

masters_once : (a c : ℕ) (g h : Heap) (ms : List Master) → Adds c g h → MasterOnce a c ms → MastersFit g ms → MastersFit h ms
masters_once a c g h [] adds once f = absurd once
masters_once a c g h (m ∷ ms) adds (inl once) f = (items_once c g h m.items adds once.1 f.0, masters_more c g h ms adds once.2 f.1)
masters_once a c g h (m ∷ ms) adds (inr once) f = (items_more c g h m.items adds once.0 f.0, masters_once a c g h ms adds once.1 f.1)

off : (c n : ℕ) (cell : Cell Value) → cell.home.item ≡ c → n ≢ c → (cell.home.item == n) ≡ false
off c n cell at_c ne = ap (λ (i : ℕ). i == n) at_c ∙ eq_not c n (λ e. ne (sym e))

on : (c : ℕ) (cell : Cell Value) → cell.home.item ≡ c → (cell.home.item == c) ≡ true
on c cell at_c = ap (λ (i : ℕ). i == c) at_c ∙ eq_self c

adds_one : (g : Heap) (c : ℕ) (cell : Cell Value) → cell.home.item ≡ c → Adds c g (g ++ new_object cell ∷ [])
adds_one g c cell at_c = record {
  elsewhere = λ n ne. added_elsewhere g (new_object cell) n (off c n cell at_c ne);
  pool = λ o lt. ap pool_of (add_there g (new_object cell) o (λ e. omega (arith, lt, e)));
  count = let l = length-append g (new_object cell ∷ []) in omega (arith, l);
}

pub joins_one : (g : Heap) (c : ℕ) (cell : Cell Value) → cell.home.item ≡ c → Joins c (length g) g (g ++ new_object cell ∷ [])
joins_one g c cell at_c = record {
  there = added_there g (new_object cell) c (on c cell at_c);
  elsewhere = λ n ne. added_elsewhere g (new_object cell) n (off c n cell at_c ne);
}

pub sound_creates : (g : Heap) (a c : ℕ) (cell : Cell Value) (ms : List Master) → cell.home.item ≡ c → MasterOnce a c ms → c < height ms → Sound g ms → Sound (g ++ new_object cell ∷ []) ms
sound_creates g a c cell ms at_c once lt s = record {
  counted = s.counted;
  fit = masters_once a c g (g ++ new_object cell ∷ []) ms (adds_one g c cell at_c) once s.fit;
  beyond = λ n le. added_elsewhere g (new_object cell) n (off c n cell at_c (λ e. omega (arith, lt, le, e))) ∙ s.beyond n le;
  fine = fine_add g (new_object cell) ((λ b. absurd (cc b)), λ b gone. absurd (cc gone)) s.fine;
}

pub sound_makes :
    (g : Heap) (cell : Cell Value) (t : ℕ) (m : Master) (ms : List Master) → cell.home.item ≡ height (m ∷ ms) → cell.home.pool ≡ None → Sound g (m ∷ ms)
    → Sound (g ++ new_object cell ∷ []) (owning (record { number = height (m ∷ ms); owned = record_object t }) (m ∷ ms))
sound_makes g cell t m ms at_c from_none s =
    let h = g ++ new_object cell ∷ [] in
    let c = height (m ∷ ms) in
    let rest = masters_more c g h (m ∷ ms) (adds_one g c cell at_c) (height_not_in c (m ∷ ms) (omega arith) s.counted) s.fit in
    let there : listed_in h c ≡ length g ∷ [] = (joins_one g c cell at_c).there ∙ ap (λ (os : List ℕ). length g ∷ os) (s.beyond c (omega arith)) in
    let l = length-append g (new_object cell ∷ []) in
    let single : IsSingle h (length g ∷ []) = (ap pool_of (add_here g (new_object cell)) ∙ from_none, omega (arith, l), refl) in
    record {
      counted = ((refl, s.counted.0), s.counted.1);
      fit = ((subst (IsSingle h) (sym there) single, rest.0), rest.1);
      beyond = λ n le. added_elsewhere g (new_object cell) n (off c n cell at_c (λ e. omega (arith, le, e))) ∙ s.beyond n (omega (arith, le));
      fine = fine_add g (new_object cell) ((λ b. absurd (cc b)), λ b gone. absurd (cc gone)) s.fine;
    }
