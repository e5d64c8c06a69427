-- Items and their numbers, and what storage sees of them: also where an object leaves its place, or joins a collection.

use Rattle.std.proofs.Common.{◌≡◌, ◌≢◌, ℕ, suc, ◌+◌, ◌<◌, ◌≤◌, Bool, true, false, cond, List, [], ◌∷◌, length, map, Option, Some, None, refl, sym, ap, ◌∙◌, ◌⊎◌, inl, inr, subst, arith}
use Rattle.std.specs.Prelude.{◌==◌, ◌||◌, if◌then◌else◌}
use Rattle.std.proofs.lemmas.Bool.{lt-ltb}
use Rattle.std.proofs.lemmas.Bool.Decides.{eqb_tells}
use Rattle.ada_meaning.specs.State.{Owned, declared, collection, record_object, storage_pool, Item, Master, Destination, destination, height, collection_in, home_among, home_of}
use Rattle.ada_storage.specs.State.{bit, same, in_list, in_owned, of_members, in_items, in_members, placed, listed, items_open, without, parted_owned, parted_item, parted_master, parted, joined_item}
use Rattle.ada_storage.specs.State as storage
use Rattle.ada_storage.specs.Step.{is_above}
use Rattle.ada_storage.proofs.Facts.{eq_self, eq_not, same_self, same_other}
use Rattle.ada_following.specs.Reading.{has_item, master_with}

-- An item's number says how many are below it.
abbrev pub ItemsCounted : (below : ℕ) → List Item → Type 0
ItemsCounted n [] = Unit {0}
ItemsCounted n (i ∷ is) = (i.number ≡ length is + n) × ItemsCounted n is

abbrev pub Counted : List Master → Type 0
Counted [] = Unit {0}
Counted (m ∷ ms) = ItemsCounted (height ms) m.items × Counted ms

-- Numbers of items.
abbrev pub AllBelow : ℕ → List Item → Type 0
AllBelow c [] = Unit {0}
AllBelow c (i ∷ is) = (i.number < c) × AllBelow c is

abbrev pub NotIn : ℕ → List Item → Type 0
NotIn c [] = Unit {0}
NotIn c (i ∷ is) = (i.number ≢ c) × NotIn c is

abbrev pub NotInMasters : ℕ → List Master → Type 0
NotInMasters c [] = Unit {0}
NotInMasters c (m ∷ ms) = NotIn c m.items × NotInMasters c ms

pub counted_below : (n c : ℕ) (is : List Item) → length is + n ≤ c → ItemsCounted n is → AllBelow c is
counted_below n c [] le k = tt
counted_below n c (i ∷ is) le k = let e = k.0 in (omega (arith, le, e), counted_below n c is (omega (arith, le)) k.1)

pub below_not_in : (c : ℕ) (is : List Item) → AllBelow c is → NotIn c is
below_not_in c [] a = tt
below_not_in c (i ∷ is) a = let lt = a.0 in ((λ e. omega (arith, lt, e)), below_not_in c is a.1)

above_not_in : (n c : ℕ) (is : List Item) → c < n → ItemsCounted n is → NotIn c is
above_not_in n c [] lt k = tt
above_not_in n c (i ∷ is) lt k = let e = k.0 in ((λ same. omega (arith, lt, e, same)), above_not_in n c is lt k.1)

pub height_not_in : (c : ℕ) (ms : List Master) → height ms ≤ c → Counted ms → NotInMasters c ms
height_not_in c [] le k = tt
height_not_in c (m ∷ ms) le k =
    (below_not_in c m.items (counted_below (height ms) c m.items (omega (arith, le)) k.0), height_not_in c ms (omega (arith, le)) k.1)

-- A collection stands once under its number.
abbrev pub IsCollection : Owned → Type 0
IsCollection (declared x) = ⊥
IsCollection (collection access pool) = Unit {0}
IsCollection (record_object t) = ⊥
IsCollection (storage_pool declaration number) = ⊥

abbrev pub ItemOnce : ℕ → List Item → Type 0
ItemOnce c [] = ⊥
ItemOnce c (i ∷ is) = ((i.number ≡ c) × IsCollection i.owned × NotIn c is) ⊎ ((i.number ≢ c) × ItemOnce c is)

abbrev pub MasterOnce : (master item : ℕ) → List Master → Type 0
MasterOnce a c [] = ⊥
MasterOnce a c (m ∷ ms) = ((suc m.number ≡ a) × ItemOnce c m.items × NotInMasters c ms) ⊎ (NotIn c m.items × MasterOnce a c ms)

some_item : (n : ℕ) (pool : Option ℕ) (home : Destination) → destination n pool ≡ Some home → n ≡ home.item
some_item n None home e = absurd (cc)
some_item n (Some p) home e = let one : record { item = n; pool = p } ≡ home = cc in ap (λ (d : Destination). d.item) one

owned_by : (b : Bool) (n : ℕ) (pool : Option ℕ) (outer : Option Destination) (home : Destination) → (if b then destination n pool else outer) ≡ Some home → (n ≡ home.item) ⊎ (outer ≡ Some home)
owned_by true n pool outer home e = inl (some_item n pool home e)
owned_by false n pool outer home e = inr e

owned_found : (access : ℕ) (i : Item) (what : Owned) (outer : Option Destination) (home : Destination) → collection_in access i what outer ≡ Some home → (IsCollection what × (i.number ≡ home.item)) ⊎ (outer ≡ Some home)
owned_found access i (declared x) outer home e = inr e
owned_found access i (record_object t) outer home e = inr e
owned_found access i (storage_pool d p) outer home e = inr e
owned_found access i (collection t pool) outer home e = elim (owned_by (access == t) i.number pool outer home e) [ inl h ↦ inl (tt, h) | inr h ↦ inr h ]

-- Where a collection is found, or that it is none of these items.
pub record FoundAmong (n c : ℕ) (is : List Item) : Type 0 where
  pub once : ItemOnce c is
  pub least : n ≤ c
  pub most : c < length is + n

items_found : (access n : ℕ) (is : List Item) (outer : Option Destination) (home : Destination) → ItemsCounted n is → home_among access is outer ≡ Some home → FoundAmong n home.item is ⊎ (outer ≡ Some home)
items_found access n [] outer home k e = inr e
items_found access n (i ∷ is) outer home k e = go (owned_found access i i.owned (home_among access is outer) home e) (items_found access n is outer home k.1)
  where
    here : IsCollection i.owned × (i.number ≡ home.item) → FoundAmong n home.item (i ∷ is)
    here h =
        let number = k.0 in
        let at_item = h.1 in
        record {
          once = inl (h.1, h.0, below_not_in home.item is (counted_below n home.item is (omega (arith, number, at_item)) k.1));
          least = omega (arith, number, at_item);
          most = omega (arith, number, at_item);
        }

    later : FoundAmong n home.item is → FoundAmong n home.item (i ∷ is)
    later f =
        let number = k.0 in
        let most = f.most in
        record { once = inr ((λ e. omega (arith, number, most, e)), f.once); least = f.least; most = omega (arith, most) }

    deeper : FoundAmong n home.item is ⊎ (outer ≡ Some home) → FoundAmong n home.item (i ∷ is) ⊎ (outer ≡ Some home)
    deeper (inl f) = inl (later f)
    deeper (inr o) = inr o

    go :
        (IsCollection i.owned × (i.number ≡ home.item)) ⊎ (home_among access is outer ≡ Some home)
        → (home_among access is outer ≡ Some home → FoundAmong n home.item is ⊎ (outer ≡ Some home))
        → FoundAmong n home.item (i ∷ is) ⊎ (outer ≡ Some home)
    go (inl h) again = inl (here h)
    go (inr h) again = deeper (again h)

pub record Found (c : ℕ) (ms : List Master) : Type 0 where
  pub master : ℕ
  pub once : MasterOnce master c ms
  pub most : c < height ms

pub home_found : (access : ℕ) (ms : List Master) (home : Destination) → Counted ms → home_of access ms ≡ Some home → Found home.item ms
home_found access [] home k e = absurd (cc)
home_found access (m ∷ ms) home k e = go (items_found access (height ms) m.items (home_of access ms) home k.0 e) (home_found access ms home k.1)
  where
    go : FoundAmong (height ms) home.item m.items ⊎ (home_of access ms ≡ Some home) → (home_of access ms ≡ Some home → Found home.item ms) → Found home.item (m ∷ ms)
    go (inl f) again = let most = f.most in record { master = suc m.number; once = inl (refl, f.once, height_not_in home.item ms f.least k.1); most = omega (arith, most) }
    go (inr o) again =
        let f = again o in
        let most = f.most in
        record { master = f.master; once = inr (above_not_in (height ms) home.item m.items most k.0, f.once); most = omega (arith, most) }

-- How often objects are listed under items.
abbrev pub Listing : Type 0
Listing = ℕ → ℕ → ℕ

-- What is no collection.
abbrev pub IsNoCollection : Owned → Type 0
IsNoCollection (declared x) = Unit {0}
IsNoCollection (collection access pool) = ⊥
IsNoCollection (record_object t) = Unit {0}
IsNoCollection (storage_pool declaration number) = Unit {0}

-- Items of a master as storage sees them: collections and record objects that are there.
pub data Items (L : Listing) : List Item → List storage.Item → Type 0 where
  no_items : Items L [] []
  passed :
      (n : ℕ) (what : Owned) {is : List Item} {js : List storage.Item} → IsNoCollection what → ((o : ℕ) → L n o ≡ 0) → Items L is js
      → Items L (record { number = n; owned = what } ∷ is) js
  collected :
      (n access : ℕ) (pool : Option ℕ) (os : List ℕ) {is : List Item} {js : List storage.Item} → ((o : ℕ) → in_list o os ≡ L n o) → Items L is js
      → Items L (record { number = n; owned = collection access pool } ∷ is) (record { number = n; owned = storage.collection os } ∷ js)
  single :
      (n t o : ℕ) {is : List Item} {js : List storage.Item} → ((x : ℕ) → L n x ≡ same x o) → Items L is js
      → Items L (record { number = n; owned = record_object t } ∷ is) (record { number = n; owned = storage.declared o } ∷ js)

-- What storage sees of items whose numbers are below a new one.
pub above_seen : {L : Listing} {is : List Item} {js : List storage.Item} (c : ℕ) → Items L is js → AllBelow c is → is_above c js ≡ true
above_seen c no_items a = refl
above_seen c (passed n what none zero more) a = above_seen c more a.1
above_seen c (collected n access pool os count more) a = lt-ltb n c a.0
above_seen c (single n t o count more) a = lt-ltb n c a.0

-- Members have places.
owned_le : (o : ℕ) (what : storage.Owned) → of_members o what ≤ in_owned o what
owned_le o (storage.declared x) = omega arith
owned_le o (storage.collection os) = omega arith

pub members_le : (o : ℕ) (is : List storage.Item) → in_members o is ≤ in_items o is
members_le o [] = omega arith
members_le o (i ∷ is) = let a = owned_le o i.owned in let b = members_le o is in omega (arith, a, b)

pub listed_le : (o : ℕ) (k : storage.Control) → listed o k ≤ placed o k
listed_le o storage.stops = omega arith
listed_le o (storage.acts m k) = let a = members_le o m.items in let b = listed_le o k in omega (arith, a, b)
listed_le o (storage.leaves m mode k) = let a = members_le o m.items in let b = listed_le o k in omega (arith, a, b)
listed_le o (storage.finalizes m i x fs mode k) = let a = members_le o m.items in let b = listed_le o k in omega (arith, a, b)
listed_le o (storage.frees n x fs k) = let b = listed_le o k in omega (arith, b)
listed_le o (storage.initializes x joins js done k) = let b = listed_le o k in omega (arith, b)
listed_le o (storage.undoes n x done k) = let b = listed_le o k in omega (arith, b)
listed_le o (storage.assigns n x f fs k) = listed_le o k
listed_le o (storage.adjusts x f js done k) = listed_le o k

-- An object is listed no more.
pub record Drops (o : ℕ) (L K : Listing) : Type 0 where
  pub rest : (i x : ℕ) → x ≢ o → K i x ≡ L i x
  pub none : (i : ℕ) → K i o ≡ 0

-- One is listed once more, under the item of this number.
pub record Gains (o n : ℕ) (L K : Listing) : Type 0 where
  pub rest : (i x : ℕ) → x ≢ o → K i x ≡ L i x
  pub off : (i : ℕ) → i ≢ n → K i o ≡ L i o
  pub on : K n o ≡ suc (L n o)

pub gains_off : (o n : ℕ) (L K : Listing) → Gains o n L K → (i : ℕ) → i ≢ n → (x : ℕ) → K i x ≡ L i x
gains_off o n L K g i ne x = elim (eqb_tells x o) [ inl h ↦ (ap (K i) h.1 ∙ g.off i ne ∙ ap (L i) (sym h.1)) | inr h ↦ g.rest i x h.1 ]

drops_none : (o : ℕ) (L K : Listing) → Drops o L K → (i : ℕ) → ((x : ℕ) → L i x ≡ 0) → (x : ℕ) → K i x ≡ 0
drops_none o L K d i z x = elim (eqb_tells x o) [ inl h ↦ (ap (K i) h.1 ∙ d.none i) | inr h ↦ (d.rest i x h.1 ∙ z x) ]

pub drops_single : (o : ℕ) (L K : Listing) → Drops o L K → (i y : ℕ) → y ≢ o → ((x : ℕ) → L i x ≡ same x y) → (x : ℕ) → K i x ≡ same x y
drops_single o L K d i y ne one x = elim (eqb_tells x o) [
  | inl h ↦ (ap (K i) h.1 ∙ d.none i ∙ sym (same_other o y (λ e. ne (sym e))) ∙ ap (λ (z : ℕ). same z y) (sym h.1))
  | inr h ↦ (d.rest i x h.1 ∙ one x)
]

-- Members without one of them.
pub in_without : (o : ℕ) (os : List ℕ) → in_list o (without o os) ≡ 0
in_without o [] = refl
in_without o (x ∷ os) = elim (eqb_tells x o) [ inl h ↦ here h.0 (in_without o os) | inr h ↦ there' h.0 h.1 (in_without o os) ]
  where
    here : (x == o) ≡ true → in_list o (without o os) ≡ 0 → in_list o (without o (x ∷ os)) ≡ 0
    here b z = ap (λ (c : Bool). in_list o (cond c (without o os) (x ∷ without o os))) b ∙ z

    there' : (x == o) ≡ false → x ≢ o → in_list o (without o os) ≡ 0 → in_list o (without o (x ∷ os)) ≡ 0
    there' b ne z =
        let apart = same_other o x (λ e. ne (sym e)) in
        let e = ap (λ (c : Bool). in_list o (cond c (without o os) (x ∷ without o os))) b in
        omega (arith, apart, z, e)

pub in_others : (o y : ℕ) (os : List ℕ) → y ≢ o → in_list y (without o os) ≡ in_list y os
in_others o y [] ne = refl
in_others o y (x ∷ os) ne = elim (eqb_tells x o) [ inl h ↦ here h.0 h.1 (in_others o y os ne) | inr h ↦ there' h.0 (in_others o y os ne) ]
  where
    here : (x == o) ≡ true → x ≡ o → in_list y (without o os) ≡ in_list y os → in_list y (without o (x ∷ os)) ≡ in_list y (x ∷ os)
    here b e z =
        let apart = same_other y x (λ d. ne (d ∙ e)) in
        let c = ap (λ (c : Bool). in_list y (cond c (without o os) (x ∷ without o os))) b in
        omega (arith, apart, z, c)

    there' : (x == o) ≡ false → in_list y (without o os) ≡ in_list y os → in_list y (without o (x ∷ os)) ≡ in_list y (x ∷ os)
    there' b z =
        let c = ap (λ (c : Bool). in_list y (cond c (without o os) (x ∷ without o os))) b in
        omega (arith, z, c)

-- It leaves its collection, and has no other place.
pub items_drop :
    {L : Listing} {is : List Item} {js : List storage.Item} (o : ℕ) (K : Listing) → Drops o L K → Items L is js → in_items o js ≡ in_members o js
    → Items K is (map (parted_item o) js)
items_drop o K d no_items e = no_items
items_drop {L} o K d (passed n what none zero more) e = passed n what none (drops_none o L K d n zero) (items_drop o K d more e)
items_drop {L} o K d (collected n access pool os count more) e = collected n access pool (without o os) counts (items_drop o K d more (omega (arith, e)))
  where
    counts : (x : ℕ) → in_list x (without o os) ≡ K n x
    counts x = elim (eqb_tells x o) [
      | inl h ↦ (ap (λ (y : ℕ). in_list y (without o os)) h.1 ∙ in_without o os ∙ sym (d.none n) ∙ ap (K n) (sym h.1))
      | inr h ↦ (in_others o x os h.1 ∙ count x ∙ sym (d.rest n x h.1))
    ]
items_drop {L} o K d (single n t y {is} {js} count more) e =
    let le = members_le o js in
    let away : same o y ≡ 0 = omega (arith, le, e) in
    single n t y (drops_single o L K d n y (λ same_one. let self = same_self o in let one = ap (same o) same_one in omega (arith, away, self, one)) count)
    (items_drop o K d more (omega (arith, le, e)))

-- What is not there does not leave.
absent_go : (o x : ℕ) (os : List ℕ) → same o x + in_list o os ≡ 0 → (in_list o os ≡ 0 → without o os ≡ os) → without o (x ∷ os) ≡ x ∷ os
absent_go o x os z again = elim (eqb_tells x o) [ inl h ↦ absurd (here h.1) | inr h ↦ (ap (λ (b : Bool). cond b (without o os) (x ∷ without o os)) h.0 ∙ ap (λ (ys : List ℕ). x ∷ ys) (again (omega (arith, z)))) ]
  where
    here : x ≡ o → ⊥
    here e = let self = same_self o in let one = ap (same o) e in omega (arith, z, one, self)

pub without_absent : (o : ℕ) (os : List ℕ) → in_list o os ≡ 0 → without o os ≡ os
without_absent o [] z = refl
without_absent o (x ∷ os) z = absent_go o x os z (λ e. without_absent o os e)

owned_absent : (o : ℕ) (what : storage.Owned) → of_members o what ≡ 0 → parted_owned o what ≡ what
owned_absent o (storage.declared x) z = refl
owned_absent o (storage.collection os) z = ap storage.collection (without_absent o os z)

pub items_absent : (o : ℕ) (is : List storage.Item) → in_members o is ≡ 0 → map (parted_item o) is ≡ is
items_absent o [] z = refl
items_absent o (i ∷ is) z =
    ap (λ (what : storage.Owned). record i { owned = what } ∷ map (parted_item o) is) (owned_absent o i.owned (omega (arith, z)))
    ∙ ap (λ (js : List storage.Item). i ∷ js) (items_absent o is (omega (arith, z)))

master_absent : (o : ℕ) (m : storage.Master) → in_members o m.items ≡ 0 → parted_master o m ≡ m
master_absent o m z = ap (λ (is : List storage.Item). record m { items = is }) (items_absent o m.items z)

pub absent : (o : ℕ) (k : storage.Control) → listed o k ≡ 0 → parted o k ≡ k
absent o storage.stops z = refl
absent o (storage.acts m k) z =
    ap (λ (n : storage.Master). storage.acts n (parted o k)) (master_absent o m (omega (arith, z))) ∙ ap (λ (l : storage.Control). storage.acts m l) (absent o k (omega (arith, z)))
absent o (storage.leaves m mode k) z =
    ap (λ (n : storage.Master). storage.leaves n mode (parted o k)) (master_absent o m (omega (arith, z)))
    ∙ ap (λ (l : storage.Control). storage.leaves m mode l) (absent o k (omega (arith, z)))
absent o (storage.finalizes m i x fs mode k) z =
    ap (λ (n : storage.Master). storage.finalizes n i x fs mode (parted o k)) (master_absent o m (omega (arith, z)))
    ∙ ap (λ (l : storage.Control). storage.finalizes m i x fs mode l) (absent o k (omega (arith, z)))
absent o (storage.frees n x fs k) z = ap (λ (l : storage.Control). storage.frees n x fs l) (absent o k z)
absent o (storage.initializes x joins js done k) z = ap (λ (l : storage.Control). storage.initializes x joins js done l) (absent o k z)
absent o (storage.undoes n x done k) z = ap (λ (l : storage.Control). storage.undoes n x done l) (absent o k z)
absent o (storage.assigns n x f fs k) z = ap (λ (l : storage.Control). storage.assigns n x f fs l) (absent o k z)
absent o (storage.adjusts x f js done k) z = ap (λ (l : storage.Control). storage.adjusts x f js done l) (absent o k z)

-- An object is listed once more elsewhere.
pub items_off : {L : Listing} {is : List Item} {js : List storage.Item} (o n : ℕ) (K : Listing) → Gains o n L K → NotIn n is → Items L is js → Items K is js
items_off o n K g a no_items = no_items
items_off {L} o n K g a (passed i what none zero more) = passed i what none (λ x. gains_off o n L K g i a.0 x ∙ zero x) (items_off o n K g a.1 more)
items_off {L} o n K g a (collected i access pool os count more) = collected i access pool os (λ x. count x ∙ sym (gains_off o n L K g i a.0 x)) (items_off o n K g a.1 more)
items_off {L} o n K g a (single i t y count more) = single i t y (λ x. gains_off o n L K g i a.0 x ∙ count x) (items_off o n K g a.1 more)

pub items_unjoined : {L : Listing} {is : List Item} {js : List storage.Item} (c o : ℕ) → NotIn c is → Items L is js → map (joined_item c o) js ≡ js
items_unjoined c o a no_items = refl
items_unjoined c o a (passed i what none zero more) = items_unjoined c o a.1 more
items_unjoined c o a (collected n access pool os {is} {js} count more) =
    ap (λ (b : Bool). record { number = n; owned = cond b (storage.collection (o ∷ os)) (storage.collection os) } ∷ map (joined_item c o) js) (eq_not n c a.0)
    ∙ ap (λ (rest : List storage.Item). record { number = n; owned = storage.collection os } ∷ rest) (items_unjoined c o a.1 more)
items_unjoined c o a (single n t y {is} {js} count more) =
    ap (λ (b : Bool). record { number = n; owned = cond b (storage.declared y) (storage.declared y) } ∷ map (joined_item c o) js) (eq_not n c a.0)
    ∙ ap (λ (rest : List storage.Item). record { number = n; owned = storage.declared y } ∷ rest) (items_unjoined c o a.1 more)

-- It joins the collection of that number.
pub items_gain :
    {L : Listing} {is : List Item} {js : List storage.Item} (o n : ℕ) (K : Listing) → Gains o n L K → ItemOnce n is → Items L is js → Items K is (map (joined_item n o) js)
items_gain o n K g once no_items = absurd once
items_gain {L} o n K g (inl once) (passed i what none zero more) = absurd (never what once.1 none)
  where
    never : (what : Owned) → IsCollection what → IsNoCollection what → ⊥
    never (declared x) is not = is
    never (collection access pool) is not = not
    never (record_object t) is not = is
    never (storage_pool d p) is not = is
items_gain {L} o n K g (inr once) (passed i what none zero more) = passed i what none (λ x. gains_off o n L K g i once.0 x ∙ zero x) (items_gain o n K g once.1 more)
items_gain {L} o n K g (inl once) (collected i access pool os {is} {js} count more) =
    let there : (i == n) ≡ true = ap (λ (x : ℕ). i == x) (sym once.0) ∙ eq_self i in
    let first : record { number = i; owned = cond (i == n) (storage.collection (o ∷ os)) (storage.collection os) } ∷ map (joined_item n o) js ≡ record { number = i; owned = storage.collection (o ∷ os) } ∷ js =
    ap (λ (b : Bool). record { number = i; owned = cond b (storage.collection (o ∷ os)) (storage.collection os) } ∷ map (joined_item n o) js) there
    ∙ ap (λ (rest : List storage.Item). record { number = i; owned = storage.collection (o ∷ os) } ∷ rest) (items_unjoined n o once.2 more) in
    subst (λ (ks : List storage.Item). Items K (record { number = i; owned = collection access pool } ∷ is) ks) (sym first)
    (collected i access pool (o ∷ os) counts (items_off o n K g once.2 more))
  where
    counts : (x : ℕ) → in_list x (o ∷ os) ≡ K i x
    counts x = elim (eqb_tells x o) [
      | inl h ↦ here h.1
      | inr h ↦ (let apart = same_other x o h.1 in let c = count x in let e = g.rest i x h.1 in omega (arith, apart, c, e))
    ]
      where
        here : x ≡ o → in_list x (o ∷ os) ≡ K i x
        here e =
            let self = same_self o in
            let one = ap (λ (y : ℕ). same y o) e in
            let c = count x in
            let d = ap (L i) e in
            let f = ap (λ (j : ℕ). L j o) once.0 in
            let on = g.on in
            let at_i = ap (λ (j : ℕ). K j o) once.0 in
            let at_x = ap (K i) e in
            omega (arith, self, one, c, d, f, on, at_i, at_x)
items_gain {L} o n K g (inr once) (collected i access pool os {is} {js} count more) =
    let first : record { number = i; owned = cond (i == n) (storage.collection (o ∷ os)) (storage.collection os) } ∷ map (joined_item n o) js ≡ record { number = i; owned = storage.collection os } ∷ map (joined_item n o) js =
    ap (λ (b : Bool). record { number = i; owned = cond b (storage.collection (o ∷ os)) (storage.collection os) } ∷ map (joined_item n o) js) (eq_not i n once.0) in
    subst (λ (ks : List storage.Item). Items K (record { number = i; owned = collection access pool } ∷ is) ks) (sym first)
    (collected i access pool os (λ x. count x ∙ sym (gains_off o n L K g i once.0 x)) (items_gain o n K g once.1 more))
items_gain {L} o n K g (inl once) (single i t y count more) = absurd once.1
items_gain {L} o n K g (inr once) (single i t y {is} {js} count more) =
    let first : record { number = i; owned = cond (i == n) (storage.declared y) (storage.declared y) } ∷ map (joined_item n o) js ≡ record { number = i; owned = storage.declared y } ∷ map (joined_item n o) js =
    ap (λ (b : Bool). record { number = i; owned = cond b (storage.declared y) (storage.declared y) } ∷ map (joined_item n o) js) (eq_not i n once.0) in
    subst (λ (ks : List storage.Item). Items K (record { number = i; owned = record_object t } ∷ is) ks) (sym first)
    (single i t y (λ x. gains_off o n L K g i once.0 x ∙ count x) (items_gain o n K g once.1 more))

-- How many collections are open under a number.
never_open : (b : Bool) → cond {A = ℕ} b 0 0 ≡ 0
never_open true = refl
never_open false = refl

pub open_not : {L : Listing} {is : List Item} {js : List storage.Item} (c : ℕ) → NotIn c is → Items L is js → items_open c js ≡ 0
open_not c a no_items = refl
open_not c a (passed n what none zero more) = open_not c a.1 more
open_not c a (collected n access pool os count more) =
    let e = ap {B = ℕ} (λ (b : Bool). cond b 1 0) (eq_not n c a.0) in let r = open_not c a.1 more in omega (arith, e, r)
open_not c a (single n t y count more) = let e = never_open (n == c) in let r = open_not c a.1 more in omega (arith, e, r)

pub open_once : {L : Listing} {is : List Item} {js : List storage.Item} (c : ℕ) → ItemOnce c is → Items L is js → items_open c js ≡ 1
open_once c once no_items = absurd once
open_once c (inl once) (passed n what none zero more) = absurd (never what once.1 none)
  where
    never : (what : Owned) → IsCollection what → IsNoCollection what → ⊥
    never (declared x) is not = is
    never (collection access pool) is not = not
    never (record_object t) is not = is
    never (storage_pool d p) is not = is
open_once c (inr once) (passed n what none zero more) = open_once c once.1 more
open_once c (inl once) (collected n access pool os count more) =
    let there : (n == c) ≡ true = ap (λ (x : ℕ). n == x) (sym once.0) ∙ eq_self n in
    let one = ap {B = ℕ} (λ (b : Bool). cond b 1 0) there in
    let rest = open_not c once.2 more in
    omega (arith, one, rest)
open_once c (inr once) (collected n access pool os count more) =
    let e = ap {B = ℕ} (λ (b : Bool). cond b 1 0) (eq_not n c once.0) in let r = open_once c once.1 more in omega (arith, e, r)
open_once c (inl once) (single n t y count more) = absurd once.1
open_once c (inr once) (single n t y count more) = let e = never_open (n == c) in let r = open_once c once.1 more in omega (arith, e, r)

pub cond_none : (b : Bool) (n : ℕ) → n ≡ 0 → cond b n 0 ≡ 0
cond_none true n e = e
cond_none false n e = refl

pub cond_same : (b : Bool) (xs ys : List storage.Item) → xs ≡ ys → cond b xs ys ≡ ys
cond_same true xs ys e = e
cond_same false xs ys e = refl

-- The master of a collection is found by the collection's number.
has_once : (c : ℕ) (is : List Item) → ItemOnce c is → has_item c is ≡ true
has_once c [] a = absurd a
has_once c (i ∷ is) (inl a) = ap (λ (b : Bool). b || has_item c is) (ap (λ (n : ℕ). n == c) a.0 ∙ eq_self c)
has_once c (i ∷ is) (inr a) = ap (λ (b : Bool). b || has_item c is) (eq_not i.number c a.0) ∙ has_once c is a.1

has_not : (c : ℕ) (is : List Item) → NotIn c is → has_item c is ≡ false
has_not c [] a = refl
has_not c (i ∷ is) a = ap (λ (b : Bool). b || has_item c is) (eq_not i.number c a.0) ∙ has_not c is a.1

pub master_once : (a c : ℕ) (ms : List Master) → MasterOnce a c ms → master_with c ms ≡ a
master_once a c [] once = absurd once
master_once a c (m ∷ ms) (inl once) = ap (λ (b : Bool). if b then suc m.number else master_with c ms) (has_once c m.items once.1) ∙ once.0
master_once a c (m ∷ ms) (inr once) = ap (λ (b : Bool). if b then suc m.number else master_with c ms) (has_not c m.items once.0) ∙ master_once a c ms once.1
