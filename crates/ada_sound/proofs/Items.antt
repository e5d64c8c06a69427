-- Items and masters: each item's number says how many are below it, over all masters.

use Rattle.std.proofs.Common.{◌≡◌, ℕ, zero, suc, ◌<◌, ◌≤◌, Bool, true, false, List, [], ◌∷◌, ◌++◌, length, refl, sym, ap, ◌⊎◌, inl, inr, arith, length-append}
use Rattle.std.proofs.lemmas.Bool.{eqb-true}
use Rattle.std.specs.Prelude.{Option, Some, None, if◌then◌else◌, ◌==◌}
use Rattle.std.specs.List.{All, AllPairs, Contains}
use Rattle.std.proofs.lemmas.List.Elements.{All-nil, All-cons}
use Rattle.std.proofs.lemmas.List.Kept.{AllPairs-cons}
use Rattle.ada_meaning.specs.State.{Owned, declared, collection, record_object, storage_pool, type_housed, pool_housed, Item, Master, Destination, destination, height, collection_in, home_among, home_of}
use Rattle.ada_meaning.specs.Step.{owning}
use Rattle.ada_meaning.specs.Law.{items_of, Falls}

-- An item's number is that of the items below it.
abbrev pub Counted : List Item → Type 0
Counted [] = Unit {0}
Counted (i ∷ is) = (i.number ≡ length is) × Counted is

abbrev pub NoMaster : List Master → Type 0
NoMaster [] = Unit {0}
NoMaster (m ∷ ms) = ⊥

-- An item that owns this is the home of objects of this type, and they are from this pool: a collection, or a record object.
abbrev pub Houses : Owned → (access : ℕ) → (pool : Option ℕ) → Type 0
Houses (declared x) access pool = ⊥
Houses (collection t own) access pool = (t ≡ access) × (own ≡ pool)
Houses (record_object t) access pool = (t ≡ access) × (None ≡ pool)
Houses (storage_pool declaration number) access pool = ⊥

pub houses_type : (owned : Owned) (access : ℕ) (pool : Option ℕ) → Houses owned access pool → type_housed owned ≡ Some access
houses_type (declared x) access pool h = absurd h
houses_type (collection t own) access pool h = ap Some h.0
houses_type (record_object t) access pool h = ap Some h.0
houses_type (storage_pool declaration number) access pool h = absurd h

pub houses_pool : (owned : Owned) (access : ℕ) (pool : Option ℕ) → Houses owned access pool → pool_housed owned ≡ pool
houses_pool (declared x) access pool h = absurd h
houses_pool (collection t own) access pool h = h.1
houses_pool (record_object t) access pool h = h.1
houses_pool (storage_pool declaration number) access pool h = absurd h

-- The item of this number is among these, and is the home of such objects.
abbrev pub HasItem : (n access : ℕ) (pool : Option ℕ) → List Item → Type 0
HasItem n access pool [] = ⊥
HasItem n access pool (i ∷ is) = ((i.number ≡ n) × Houses i.owned access pool) ⊎ HasItem n access pool is

pub has_after : (n access : ℕ) (pool : Option ℕ) (is js : List Item) → HasItem n access pool js → HasItem n access pool (is ++ js)
has_after n access pool [] js h = h
has_after n access pool (i ∷ is) js h = inr (has_after n access pool is js h)

-- All items are counted.
pub height_is : (ms : List Master) → height ms ≡ length (items_of ms)
height_is [] = refl
height_is (m ∷ ms) = let h = height_is ms in omega (arith, length-append m.items (items_of ms), h)

-- One item more.
pub counted_owning : (owned : Owned) (ms : List Master) → Counted (items_of ms) → Counted (items_of (owning (record { number = height ms; owned = owned }) ms))
counted_owning owned [] c = c
counted_owning owned (m ∷ ms) c = (height_is (m ∷ ms), c)

pub has_owning : (n access : ℕ) (pool : Option ℕ) (item : Item) (ms : List Master) → HasItem n access pool (items_of ms) → HasItem n access pool (items_of (owning item ms))
has_owning n access pool item [] h = h
has_owning n access pool item (m ∷ ms) h = inr h

-- The collection that an access type denotes is an item, is of that type, and has that pool.
HasSome : ℕ → Option Destination → List Item → Type 0
HasSome access None is = Unit {0}
HasSome access (Some home) is = HasItem home.item access (Some home.pool) is

has_one : (access : ℕ) (b : Bool) (n : ℕ) (own : Option ℕ) (is : List Item) (outer : Option Destination) → (b ≡ true → (pool : ℕ) → own ≡ Some pool → HasItem n access (Some pool) is) → HasSome access outer is → HasSome access (if b then destination n own else outer) is
unfolding HasSome
has_one access true n None is outer h o = tt
has_one access true n (Some pool) is outer h o = h refl pool refl
has_one access false n own is outer h o = o

some_more : (access : ℕ) (i : Item) (is : List Item) (outer : Option Destination) → HasSome access outer is → HasSome access outer (i ∷ is)
unfolding HasSome
some_more access i is None h = h
some_more access i is (Some home) h = inr h

collection_has : (access : ℕ) (i : Item) (owned : Owned) → i.owned ≡ owned → (is : List Item) (outer : Option Destination) → HasSome access outer (i ∷ is) → HasSome access (collection_in access i owned outer) (i ∷ is)
collection_has access i (declared x) e is outer o = o
collection_has access i (collection t own) e is outer o = has_one access (access == t) i.number own (i ∷ is) outer (λ same pool at. inl (refl, rw e (sym (eqb-true access t same), at))) o
collection_has access i (record_object t) e is outer o = o
collection_has access i (storage_pool declaration number) e is outer o = o

among_has : (access : ℕ) (is js : List Item) (outer : Option Destination) → HasSome access outer js → HasSome access (home_among access is outer) (is ++ js)
among_has access [] js outer o = o
among_has access (i ∷ is) js outer o = collection_has access i i.owned refl (is ++ js) (home_among access is outer) (some_more access i (is ++ js) (home_among access is outer) (among_has access is js outer o))

of_has : (access : ℕ) (ms : List Master) → HasSome access (home_of access ms) (items_of ms)
unfolding HasSome
of_has access [] = tt
of_has access (m ∷ ms) = among_has access m.items (items_of ms) (home_of access ms) (of_has access ms)

pub home_has : (access : ℕ) (home : Destination) (ms : List Master) → home_of access ms ≡ Some home → HasItem home.item access (Some home.pool) (items_of ms)
unfolding HasSome
home_has access home ms e = rw e at (of_has access ms)

-- Numbers are below the count of items, and fall.
pub item_below : (n access : ℕ) (pool : Option ℕ) (is : List Item) → Counted is → HasItem n access pool is → n < length is
item_below n access pool [] c h = absurd h
item_below n access pool (i ∷ is) c (inl e) = let at = e.0 in let count = c.0 in omega (arith, at, count)
item_below n access pool (i ∷ is) c (inr h) = let less = item_below n access pool is c.1 h in omega (arith, less)

-- The item of a number is the only one.
pub newest_is : (n access : ℕ) (pool : Option ℕ) (i : Item) (is : List Item) → n ≡ i.number → Counted (i ∷ is) → HasItem n access pool (i ∷ is) → Houses i.owned access pool
newest_is n access pool i is same c (inl e) = e.1
newest_is n access pool i is same c (inr h) = let less = item_below n access pool is c.1 h in let count = c.0 in absurd (omega (arith, less, count, same))

all_below : (n : ℕ) (is : List Item) → length is ≤ n → Counted is → All (λ j. j.number < n) is
all_below n [] le c = All-nil (λ j. j.number < n)
all_below n (i ∷ is) le c = All-cons (λ j. j.number < n) i is (omega (arith, c.0)) (all_below n is (omega (arith, le)) c.1)

below_number : (i : Item) (is : List Item) → i.number ≡ length is → Counted is → All (Falls i) is
below_number i is e c = all_below i.number is (omega (arith, e)) c

pub items_fall : (is : List Item) → Counted is → AllPairs Falls is
items_fall [] c = λ i j d lt short. absurd (omega (arith, short))
items_fall (i ∷ is) c = AllPairs-cons Falls i is (below_number i is c.0 c.1) (items_fall is c.1)

pub contains_item : (n access : ℕ) (pool : Option ℕ) (is : List Item) → HasItem n access pool is → (i : Item) × Contains is i × (i.number ≡ n) × (type_housed i.owned ≡ Some access) × (pool_housed i.owned ≡ pool)
contains_item n access pool [] h = absurd h
contains_item n access pool (i ∷ is) (inl e) = (i, (zero, omega arith, refl), e.0, houses_type i.owned access pool e.1, houses_pool i.owned access pool e.1)
contains_item n access pool (i ∷ is) (inr h) =
    let j = contains_item n access pool is h in
    (j.0, (suc j.1.0, omega (arith, j.1.1), j.1.2), j.2, j.3, j.4)
