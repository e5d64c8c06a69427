-- Masters, as items come and go on their one stack.

use Rattle.std.proofs.Common.{◌≡◌, ℕ, zero, suc, ◌+◌, ◌-◌, ◌<◌, ◌≤◌, Bool, true, false, cond, eqb, List, [], ◌∷◌, length, take, drop, Option, Some, None, refl, ap, sym, ◌∙◌, inl, inr, arith, add-one, sub-one, length-take, length-drop}
use Rattle.std.proofs.Math.ListN.{set}
use Rattle.std.specs.List.{slice_get, slice_index_or}
use Rattle.std.proofs.lemmas.Bool.{eq-eqb, ne_eqb, cases_eq}
use Rattle.std.proofs.lemmas.List.{get_or-set_same, get_or-set_other}
use Rattle.ada_meaning.specs.State.{Owned, declared, collection, record_object, storage_pool, Item, Master, Destination, destination, height, collection_in, home_among, home_of, pool_at, pool_among, pool_of, count_by, count_among, pools_in}
use Rattle.ada_meaning.specs.Step.{older, owning, shorter}
use Rattle.ada_interpreter.specs.declared.masters.Owned.{Owned as HeldOwned}
use Rattle.ada_interpreter.specs.declared.masters.Owned.TheVariants as held
use Rattle.ada_interpreter.specs.declared.newest.Newest.{Newest}
use Rattle.ada_interpreter.specs.declared.masters.Item.{Item as HeldItem}
use Rattle.ada_interpreter.specs.declared.masters.Master.{Master as HeldMaster}
use Rattle.ada_interpreter.specs.declared.masters.Remains.TheVariants as remains
use Rattle.ada_interpreter.specs.Masters.{owned_of, access_key, pool_key, pool_known, known, items_of, masters_of, AreOwned, newest_by, newest_in, IsLinked, AreIndexed, IsIndex, counted_by, uncounted_by, pools_among, AreKept, remains_at, remains_in, remains_of, HasNoItem, previous_of, with_newest, HasRoom, home_by, pool_by}

length-items : (is : List HeldItem) → length (items_of is) ≡ length is
length-items [] = refl
length-items (i ∷ is) = ap suc (length-items is)

-- the height of the masters is that of the stack
pub height_is : (ms : List HeldMaster) (is : List HeldItem) → AreOwned ms is → height (masters_of ms is) ≡ length is
height_is [] is none = rw none refl
height_is (m ∷ ms) is owned =
    let below = height_is ms (drop m.count is) owned.1 in
    omega (arith, below, length-items is, owned.0, length-take m.count (items_of is), length-drop m.count is)

-- the newest collection of a type is the one that it denotes
home_if : (yes : Bool) (number : ℕ) (pool : Option ℕ) (inner : Option Destination) (outer : Option Newest) → inner ≡ home_by outer → cond yes (destination number pool) inner ≡ home_by (cond yes (Some (record { item = number; pool = pool })) outer)
home_if true number pool inner outer same = refl
home_if false number pool inner outer same = same

one_more : (access number : ℕ) (owned : HeldOwned) (inner : Option Destination) (outer : Option Newest) → inner ≡ home_by outer → collection_in access (record { number = number; owned = owned_of owned }) (owned_of owned) inner ≡ home_by (newest_by (access_key owned) access (known owned number) outer)
one_more access number (held.Declared x) inner outer same = same
one_more access number (held.Record t) inner outer same = same
one_more access number (held.Collection t pool) inner outer same = home_if (eqb access t.0) number pool inner outer same
one_more access number (held.Pool declaration n) inner outer same = same

home_among_items : (access : ℕ) (c : ℕ) (is : List HeldItem) → c ≤ length is → home_among access (take c (items_of is)) (home_by (newest_in access_key access (drop c is))) ≡ home_by (newest_in access_key access is)
home_among_items access zero is within = refl
home_among_items access (suc c) [] within = absurd (omega arith)
home_among_items access (suc c) (i ∷ is) within = one_more access (length is) i.owned (home_among access (take c (items_of is)) (home_by (newest_in access_key access (drop c is)))) (newest_in access_key access is) (home_among_items access c is (omega arith))

home_is : (access : ℕ) (ms : List HeldMaster) (is : List HeldItem) → AreOwned ms is → home_of access (masters_of ms is) ≡ home_by (newest_in access_key access is)
home_is access [] is none = rw none refl
home_is access (m ∷ ms) is owned =
    rw (home_is access ms (drop m.count is) owned.1) (home_among_items access m.count is owned.0)

-- the newest pool of a declaration is the one that it denotes
pool_if : (yes : Bool) (item number : ℕ) (inner : Option ℕ) (outer : Option Newest) → inner ≡ pool_by outer → cond yes (Some number) inner ≡ pool_by (cond yes (Some (record { item = item; pool = Some number })) outer)
pool_if true item number inner outer same = refl
pool_if false item number inner outer same = same

pool_more : (p number : ℕ) (owned : HeldOwned) (inner : Option ℕ) (outer : Option Newest) → inner ≡ pool_by outer → pool_at p (owned_of owned) inner ≡ pool_by (newest_by (pool_key owned) p (known owned number) outer)
pool_more p number (held.Declared x) inner outer same = same
pool_more p number (held.Record t) inner outer same = same
pool_more p number (held.Collection t pool) inner outer same = same
pool_more p number (held.Pool declaration n) inner outer same = pool_if (eqb p declaration.0) number n inner outer same

pool_among_items : (p : ℕ) (c : ℕ) (is : List HeldItem) → c ≤ length is → pool_among p (take c (items_of is)) (pool_by (newest_in pool_key p (drop c is))) ≡ pool_by (newest_in pool_key p is)
pool_among_items p zero is within = refl
pool_among_items p (suc c) [] within = absurd (omega arith)
pool_among_items p (suc c) (i ∷ is) within = pool_more p (length is) i.owned (pool_among p (take c (items_of is)) (pool_by (newest_in pool_key p (drop c is)))) (newest_in pool_key p is) (pool_among_items p c is (omega arith))

pool_is : (p : ℕ) (ms : List HeldMaster) (is : List HeldItem) → AreOwned ms is → pool_of p (masters_of ms is) ≡ pool_by (newest_in pool_key p is)
pool_is p [] is none = rw none refl
pool_is p (m ∷ ms) is owned =
    rw (pool_is p ms (drop m.count is) owned.1) (pool_among_items p m.count is owned.0)

-- what is known under a key says it
pub home_at : (collections pools : List (Option Newest)) (n access : ℕ) (ms : List HeldMaster) (is : List HeldItem) (newest : Option Newest) → newest ≡ slice_index_or collections access None → AreKept collections pools n ms is → home_of access (masters_of ms is) ≡ home_by newest
home_at collections pools n access ms is newest known kept = home_is access ms is kept.owned ∙ ap home_by (sym (known ∙ kept.by_type.indexed access))

pub pool_known_at : (collections pools : List (Option Newest)) (n p : ℕ) (ms : List HeldMaster) (is : List HeldItem) (newest : Option Newest) → newest ≡ slice_index_or pools p None → AreKept collections pools n ms is → pool_of p (masters_of ms is) ≡ pool_by newest
pool_known_at collections pools n p ms is newest known kept = pool_is p ms is kept.owned ∙ ap pool_by (sym (known ∙ kept.by_declaration.indexed p))

-- and so many pools exist as are counted
count_more : (owned : HeldOwned) (inner outer : ℕ) → inner ≡ outer → count_by (owned_of owned) inner ≡ counted_by owned outer
count_more (held.Declared x) inner outer same = same
count_more (held.Record t) inner outer same = same
count_more (held.Collection t pool) inner outer same = same
count_more (held.Pool declaration n) inner outer same = rw same refl

count_among_items : (c : ℕ) (is : List HeldItem) → c ≤ length is → count_among (take c (items_of is)) (pools_among (drop c is)) ≡ pools_among is
count_among_items zero is within = refl
count_among_items (suc c) [] within = absurd (omega arith)
count_among_items (suc c) (i ∷ is) within = count_more i.owned (count_among (take c (items_of is)) (pools_among (drop c is))) (pools_among is) (count_among_items c is (omega arith))

pub count_is : (ms : List HeldMaster) (is : List HeldItem) → AreOwned ms is → pools_in (masters_of ms is) ≡ pools_among is
count_is [] is none = rw none refl
count_is (m ∷ ms) is owned =
    rw (count_is ms (drop m.count is) owned.1) (count_among_items m.count is owned.0)

-- an item more of the innermost master
pub owning_view : (ms : List HeldMaster) (is : List HeldItem) (m : HeldMaster) (i : HeldItem) → slice_get ms 0 ≡ Some m → AreOwned ms is → masters_of (set ms 0 (record { number = m.number; count = m.count + 1 })) (i ∷ is) ≡ owning (record { number = height (masters_of ms is); owned = owned_of i.owned }) (masters_of ms is)
owning_view [] is m i top owned = absurd (cc)
owning_view (n ∷ ms) is m i top owned =
    let e : n ≡ m = cc in
    rw (height_is (n ∷ ms) is owned, e, add-one) refl

owning_owned : (ms : List HeldMaster) (is : List HeldItem) (m : HeldMaster) (i : HeldItem) → slice_get ms 0 ≡ Some m → AreOwned ms is → AreOwned (set ms 0 (record { number = m.number; count = m.count + 1 })) (i ∷ is)
owning_owned [] is m i top owned = absurd (cc)
owning_owned (n ∷ ms) is m i top owned =
    let e : n ≡ m = cc in
    rw (← e, add-one) (omega (arith, owned.0), owned.1)

-- an item more is linked to the one before it, of the same access type or of the same declaration
linked_by_type : (collections pools : List (Option Newest)) (is : List HeldItem) (owned : HeldOwned) → AreIndexed access_key collections is → IsLinked access_key (access_key owned) (previous_of collections pools owned) is
linked_by_type collections pools is (held.Declared x) indexed = tt
linked_by_type collections pools is (held.Record t) indexed = tt
linked_by_type collections pools is (held.Collection t pool) indexed = indexed t.0
linked_by_type collections pools is (held.Pool declaration n) indexed = tt

linked_by_declaration : (collections pools : List (Option Newest)) (is : List HeldItem) (owned : HeldOwned) → AreIndexed pool_key pools is → IsLinked pool_key (pool_key owned) (previous_of collections pools owned) is
linked_by_declaration collections pools is (held.Declared x) indexed = tt
linked_by_declaration collections pools is (held.Record t) indexed = tt
linked_by_declaration collections pools is (held.Collection t pool) indexed = tt
linked_by_declaration collections pools is (held.Pool declaration n) indexed = indexed declaration.0

-- and is the newest of its key
set_newest_at : (newest : List (Option Newest)) (older item : Option Newest) (own_key key : ℕ) → own_key < length newest → slice_index_or newest key None ≡ older → slice_index_or (set newest own_key item) key None ≡ cond (eqb key own_key) item older
set_newest_at newest older item own_key key room indexed = elim (cases_eq key own_key) [
  | inl e ↦ rw (eq-eqb key own_key e, e) (get_or-set_same newest own_key item None room)
  | inr apart ↦ rw (ne_eqb key own_key apart) (get_or-set_other newest own_key key item None apart ∙ indexed)
]

more_at : (newest : List (Option Newest)) (older : Option Newest) (item : Newest) (own_key : Option ℕ) (key : ℕ) → HasRoom newest own_key → slice_index_or newest key None ≡ older → slice_index_or (with_newest newest own_key (Some item)) key None ≡ newest_by own_key key item older
more_at newest older item None key room indexed = indexed
more_at newest older item (Some own_key) key room indexed = set_newest_at newest older (Some item) own_key key room indexed

index_more : (key_of : HeldOwned → Option ℕ) (newest : List (Option Newest)) (is : List HeldItem) (owned : HeldOwned) (previous : Option Newest) → HasRoom newest (key_of owned) → IsLinked key_of (key_of owned) previous is → IsIndex key_of newest is → IsIndex key_of (with_newest newest (key_of owned) (Some (known owned (length is)))) (record { owned = owned; previous = previous } ∷ is)
index_more key_of newest is owned previous room linked index = record {
  linked = (linked, index.linked);
  indexed = λ (key : ℕ). more_at newest (newest_in key_of key is) (known owned (length is)) (key_of owned) key room (index.indexed key);
}

pub owning_kept : (collections pools : List (Option Newest)) (n : ℕ) (ms : List HeldMaster) (is : List HeldItem) (m : HeldMaster) (owned : HeldOwned) → slice_get ms 0 ≡ Some m → HasRoom collections (access_key owned) → HasRoom pools (pool_key owned) → AreKept collections pools n ms is → AreKept (with_newest collections (access_key owned) (Some (known owned (length is)))) (with_newest pools (pool_key owned) (Some (known owned (length is)))) (counted_by owned n) (set ms 0 (record { number = m.number; count = m.count + 1 })) (record { owned = owned; previous = previous_of collections pools owned } ∷ is)
owning_kept collections pools n ms is m owned top room place kept = record {
  owned = owning_owned ms is m (record { owned = owned; previous = previous_of collections pools owned }) top kept.owned;
  by_type = index_more access_key collections is owned (previous_of collections pools owned) room (linked_by_type collections pools is owned kept.by_type.indexed) kept.by_type;
  by_declaration = index_more pool_key pools is owned (previous_of collections pools owned) place (linked_by_declaration collections pools is owned kept.by_declaration.indexed) kept.by_declaration;
  counted = ap (counted_by owned) kept.counted;
}

-- an index that says the same of each key
same_index : (key_of : HeldOwned → Option ℕ) (newest others : List (Option Newest)) (is : List HeldItem) → ((key : ℕ) → slice_index_or others key None ≡ slice_index_or newest key None) → IsIndex key_of newest is → IsIndex key_of others is
same_index key_of newest others is same index = record { linked = index.linked; indexed = λ (key : ℕ). same key ∙ index.indexed key }

pub same_kept : (collections pools types declarations : List (Option Newest)) (n : ℕ) (ms : List HeldMaster) (is : List HeldItem) → ((key : ℕ) → slice_index_or types key None ≡ slice_index_or collections key None) → ((key : ℕ) → slice_index_or declarations key None ≡ slice_index_or pools key None) → AreKept collections pools n ms is → AreKept types declarations n ms is
same_kept collections pools types declarations n ms is same alike kept = record {
  owned = kept.owned;
  by_type = same_index access_key collections types is same kept.by_type;
  by_declaration = same_index pool_key pools declarations is alike kept.by_declaration;
  counted = kept.counted;
}

-- an item less of the innermost master
take_more : (c : ℕ) (i : HeldItem) (is : List HeldItem) → 0 < c → older (take c (items_of (i ∷ is))) ≡ take (c - 1) (items_of is)
take_more zero i is some = absurd (omega arith)
take_more (suc c) i is some = rw sub-one refl

drop_more : (c : ℕ) (i : HeldItem) (is : List HeldItem) → 0 < c → drop c (i ∷ is) ≡ drop (c - 1) is
drop_more zero i is some = absurd (omega arith)
drop_more (suc c) i is some = rw sub-one refl

pub shorter_view : (ms : List HeldMaster) (is : List HeldItem) (m : HeldMaster) (i : HeldItem) → slice_get ms 0 ≡ Some m → slice_get is 0 ≡ Some i → 0 < m.count → masters_of (set ms 0 (record { number = m.number; count = m.count - 1 })) (older is) ≡ shorter (masters_of ms is)
shorter_view [] is m i top item some = absurd (cc)
shorter_view (n ∷ ms) [] m i top item some = absurd (cc)
shorter_view (n ∷ ms) (j ∷ is) m i top item some =
    let e : n ≡ m = cc in
    rw (e, take_more m.count j is some, drop_more m.count j is some) refl

within_index : (newest : List (Option Newest)) (key : ℕ) (item : Newest) → slice_index_or newest key None ≡ Some item → key < length newest
within_index [] key item found = absurd (cc)
within_index (x ∷ newest) zero item found = omega arith
within_index (x ∷ newest) (suc key) item found = omega (arith, within_index newest key item found)

less_at : (key_of : HeldOwned → Option ℕ) (newest : List (Option Newest)) (is : List HeldItem) (item : Newest) (previous : Option Newest) (own_key : Option ℕ) → IsLinked key_of own_key previous is → ((key : ℕ) → slice_index_or newest key None ≡ newest_by own_key key item (newest_in key_of key is)) → (key : ℕ) → slice_index_or (with_newest newest own_key previous) key None ≡ newest_in key_of key is
less_at key_of newest is item previous None linked indexed key = indexed key
less_at key_of newest is item previous (Some own_key) linked indexed key =
    let own = rw (eq-eqb own_key own_key refl) at (indexed own_key) in
    let room = within_index newest own_key item own in
    elim (cases_eq key own_key) [
      | inl same ↦ rw same (get_or-set_same newest own_key previous None room ∙ linked)
      | inr apart ↦ get_or-set_other newest own_key key previous None apart ∙ rw (ne_eqb key own_key apart) at (indexed key)
    ]

index_less : (key_of : HeldOwned → Option ℕ) (newest : List (Option Newest)) (is : List HeldItem) (i : HeldItem) → IsIndex key_of newest (i ∷ is) → IsIndex key_of (with_newest newest (key_of i.owned) i.previous) is
index_less key_of newest is i index = record {
  linked = index.linked.1;
  indexed = less_at key_of newest is (known i.owned (length is)) i.previous (key_of i.owned) index.linked.0 index.indexed;
}

count_less : (owned : HeldOwned) (n : ℕ) → uncounted_by owned (counted_by owned n) ≡ n
count_less (held.Declared x) n = refl
count_less (held.Record t) n = refl
count_less (held.Collection t pool) n = refl
count_less (held.Pool declaration number) n = omega arith

shorter_owned : (ms : List HeldMaster) (is : List HeldItem) (m : HeldMaster) (i : HeldItem) → slice_get ms 0 ≡ Some m → 0 < m.count → AreOwned ms (i ∷ is) → AreOwned (set ms 0 (record { number = m.number; count = m.count - 1 })) is
shorter_owned [] is m i top some owned = absurd (cc)
shorter_owned (n ∷ ms) is m i top some owned =
    let e : n ≡ m = cc in
    rw (← e) (omega (arith, owned.0), rw (drop_more n.count i is (rw e some)) at owned.1)

shorter_kept : (collections pools : List (Option Newest)) (n : ℕ) (ms : List HeldMaster) (is : List HeldItem) (m : HeldMaster) (i : HeldItem) → slice_get ms 0 ≡ Some m → slice_get is 0 ≡ Some i → 0 < m.count → AreKept collections pools n ms is → AreKept (with_newest collections (access_key i.owned) i.previous) (with_newest pools (pool_key i.owned) i.previous) (uncounted_by i.owned n) (set ms 0 (record { number = m.number; count = m.count - 1 })) (older is)
shorter_kept collections pools n ms [] m i top item some kept = absurd (cc)
shorter_kept collections pools n ms (j ∷ is) m i top item some kept =
    let e : j ≡ i = cc in
    rw (← e) (record {
      owned = shorter_owned ms is m j top some kept.owned;
      by_type = index_less access_key collections is j kept.by_type;
      by_declaration = index_less pool_key pools is j kept.by_declaration;
      counted = ap (uncounted_by j.owned) kept.counted ∙ count_less j.owned (pools_among is);
    })

-- an item less, made step by step
pub shortened : (collections others pools less_pools : List (Option Newest)) (n counted : ℕ) (ms ns : List HeldMaster) (is js : List HeldItem) (m : HeldMaster) (i : HeldItem) (access declaration : Option ℕ) → slice_get ms 0 ≡ Some m → slice_get is 0 ≡ Some i → 0 < m.count → access ≡ access_key i.owned → declaration ≡ pool_key i.owned → others ≡ with_newest collections access i.previous → less_pools ≡ with_newest pools declaration i.previous → counted ≡ uncounted_by i.owned n → ns ≡ set ms 0 (record { number = m.number; count = m.count - 1 }) → js ≡ older is → AreKept collections pools n ms is → AreKept others less_pools counted ns js
shortened collections others pools less_pools n counted ms ns is js m i access declaration top item some typed_by declared_by by_type by_declaration uncounted entered less kept =
    rw (by_type, by_declaration, uncounted, entered, less, typed_by, declared_by) (shorter_kept collections pools n ms is m i top item some kept)

-- the innermost master has an item wherever it counts one
pub has_item : (ms : List HeldMaster) (is : List HeldItem) (m : HeldMaster) → slice_get ms 0 ≡ Some m → 0 < m.count → slice_get is 0 ≡ None → AreOwned ms is → ⊥
has_item [] is m top some none owned = absurd (cc)
has_item (n ∷ ms) (i ∷ is) m top some none owned = absurd (cc)
has_item (n ∷ ms) [] m top some none owned =
    let e : n ≡ m = cc in
    let count : n.count ≡ m.count = ap (λ (x : HeldMaster). x.count) e in
    absurd (omega (arith, owned.0))

-- a master without an item counts none
counts_none : (c : ℕ) (is : List HeldItem) → c ≤ length is → take c (items_of is) ≡ [] → c ≡ 0
counts_none zero is within none = refl
counts_none (suc c) [] within none = absurd (omega arith)
counts_none (suc c) (i ∷ is) within none = absurd (cc)

pub left_view : (ms : List HeldMaster) (is : List HeldItem) → AreOwned ms is → HasNoItem (masters_of ms is) → masters_of (older ms) is ≡ older (masters_of ms is)
left_view [] is owned none = refl
left_view (m ∷ ms) is owned none = rw (counts_none m.count is owned.0 none) refl

left_owned : (ms : List HeldMaster) (is : List HeldItem) → AreOwned ms is → HasNoItem (masters_of ms is) → AreOwned (older ms) is
left_owned [] is owned none = owned
left_owned (m ∷ ms) is owned none = rw (counts_none m.count is owned.0 none) at owned.1

pub left_kept : (collections pools : List (Option Newest)) (n : ℕ) (ms : List HeldMaster) (is : List HeldItem) → HasNoItem (masters_of ms is) → AreKept collections pools n ms is → AreKept collections pools n (older ms) is
left_kept collections pools n ms is none kept = record { owned = left_owned ms is kept.owned none; by_type = kept.by_type; by_declaration = kept.by_declaration; counted = kept.counted }

no_item : (master : ℕ) (item : Item) (owned : Owned) (items : List Item) (n : ℕ) → remains_at master item owned ≡ remains.NoItem n → item ∷ items ≡ []
no_item master item (declared x) items n is = absurd (cc)
no_item master item (collection t pool) items n is = absurd (cc)
no_item master item (record_object t) items n is = absurd (cc)
no_item master item (storage_pool declaration number) items n is = absurd (cc)

no_items : (master : ℕ) (items : List Item) (n : ℕ) → remains_in master items ≡ remains.NoItem n → items ≡ []
no_items master [] n is = refl
no_items master (item ∷ items) n is = no_item master item item.owned items n is

-- no item is left where the leaving comes upon none
pub none_left : (ms : List Master) (n : ℕ) → remains_of ms ≡ remains.NoItem n → HasNoItem ms
none_left [] n is = absurd (cc)
none_left (m ∷ ms) n is = no_items m.number m.items n is

-- what the leaving comes upon
upon_some : (number c : ℕ) (i : HeldItem) (is : List HeldItem) → 0 < c → remains_in number (take c (items_of (i ∷ is))) ≡ remains_at number (record { number = length (i ∷ is) - 1; owned = owned_of i.owned }) (owned_of i.owned)
upon_some number zero i is some = absurd (omega arith)
upon_some number (suc c) i is some = rw sub-one refl

pub comes_upon : (ms : List HeldMaster) (is : List HeldItem) (m : HeldMaster) (i : HeldItem) → slice_get ms 0 ≡ Some m → slice_get is 0 ≡ Some i → 0 < m.count → remains_of (masters_of ms is) ≡ remains_at m.number (record { number = length is - 1; owned = owned_of i.owned }) (owned_of i.owned)
comes_upon [] is m i top item some = absurd (cc)
comes_upon (n ∷ ms) [] m i top item some = absurd (cc)
comes_upon (n ∷ ms) (j ∷ is) m i top item some =
    let e : n ≡ m = cc in
    let f : j ≡ i = cc in
    rw (e, f) (upon_some m.number m.count i is some)

-- where no master is entered, or the innermost has no item
pub none_entered : (ms : List HeldMaster) (is : List HeldItem) → slice_get ms 0 ≡ None → masters_of ms is ≡ []
none_entered [] is none = refl
none_entered (m ∷ ms) is none = absurd (cc)

pub no_item_left : (ms : List HeldMaster) (is : List HeldItem) (m : HeldMaster) → slice_get ms 0 ≡ Some m → m.count ≡ 0 → remains_of (masters_of ms is) ≡ remains.NoItem m.number
no_item_left [] is m top none = absurd (cc)
no_item_left (n ∷ ms) is m top none =
    let e : n ≡ m = cc in
    rw (e, none) refl

pub none_shorter : (ms : List HeldMaster) (is : List HeldItem) (m : HeldMaster) → slice_get ms 0 ≡ Some m → m.count ≡ 0 → masters_of ms is ≡ shorter (masters_of ms is)
none_shorter [] is m top none = refl
none_shorter (n ∷ ms) is m top none =
    let e : n ≡ m = cc in
    rw (e, none) refl

-- an item more, made step by step
pub owned_again : (collections types others pools declarations more_pools : List (Option Newest)) (n counted : ℕ) (ms ns : List HeldMaster) (is js : List HeldItem) (m : HeldMaster) (owned : HeldOwned) (access declaration pool : Option ℕ) (count item : ℕ) (previous : Option Newest) → slice_get ms 0 ≡ Some m → access ≡ access_key owned → declaration ≡ pool_key owned → pool ≡ pool_known owned → HasRoom types access → HasRoom declarations declaration → ((key : ℕ) → slice_index_or types key None ≡ slice_index_or collections key None) → ((key : ℕ) → slice_index_or declarations key None ≡ slice_index_or pools key None) → count ≡ m.count + 1 → item ≡ length is → counted ≡ counted_by owned n → previous ≡ previous_of types declarations owned → js ≡ record { owned = owned; previous = previous } ∷ is → others ≡ with_newest types access (Some (record { item = item; pool = pool })) → more_pools ≡ with_newest declarations declaration (Some (record { item = item; pool = pool })) → ns ≡ set ms 0 (record { number = m.number; count = count }) → AreKept collections pools n ms is → AreKept others more_pools counted ns js
owned_again collections types others pools declarations more_pools n counted ms ns is js m owned access declaration pool count item previous top typed_by declared_by pooled_by room place same alike one it pooled older more by_type by_declaration entered kept =
    rw (more, by_type, by_declaration, entered, one, it, pooled, older, typed_by, declared_by, pooled_by) (owning_kept types declarations n ms is m owned top (rw typed_by at room) (rw declared_by at place) (same_kept collections pools types declarations n ms is same alike kept))

pub owned_view : (ms ns : List HeldMaster) (is js : List HeldItem) (m : HeldMaster) (owned : HeldOwned) (count : ℕ) (previous : Option Newest) → slice_get ms 0 ≡ Some m → count ≡ m.count + 1 → js ≡ record { owned = owned; previous = previous } ∷ is → ns ≡ set ms 0 (record { number = m.number; count = count }) → AreOwned ms is → masters_of ns js ≡ owning (record { number = height (masters_of ms is); owned = owned_of owned }) (masters_of ms is)
owned_view ms ns is js m owned count previous top one more entered kept =
    rw (more, entered, one) (owning_view ms is m (record { owned = owned; previous = previous }) top kept)
