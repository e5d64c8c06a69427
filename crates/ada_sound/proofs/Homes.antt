-- A Free gives words back home: the collection that an access type denotes is the home of each object of it, since it has no other one.

use Rattle.std.proofs.Common.{◌≡◌, ◌≢◌, ℕ, zero, suc, Bool, true, false, List, [], ◌∷◌, ◌++◌, refl, sym, ap, ◌∙◌, inl, inr, arith, ◌⊎◌}
use Rattle.std.specs.Prelude.{Option, Some, None, ◌==◌, if◌then◌else◌}
use Rattle.std.specs.List.{AllPairs, Contains}
use Rattle.std.proofs.lemmas.Bool.{eqb-true, eq-eqb}
use Rattle.ada_program.specs.ProgramForm.{TypeForm}
use Rattle.ada_program.specs.WellFormed.{is_access}
use Rattle.ada_meaning.specs.declared.state.Id.{Id}
use Rattle.ada_meaning.specs.State.{Owned, declared, collection, record_object, storage_pool, Item, Master, Destination, destination, collection_in, home_among, home_of, pool_freed_to}
use Rattle.ada_meaning.specs.Step.{same_pool}
use Rattle.ada_meaning.specs.Named.{all_alive, Object, object_at}
use Rattle.ada_meaning.specs.Law.{Differ, items_of}
use Rattle.ada_scopes.specs.Scopes.{type_collected, CollectTwoTypes}
use Rattle.ada_sound.proofs.Fits.{Outsiders, IsOwnedOutside}
use Rattle.ada_sound.proofs.Items.{Houses, HasItem}
use Rattle.ada_sound.proofs.Standing.{AllStand}
use Rattle.ada_sound.proofs.Stored.{HasDeparted, IsUnder, Stored}
use Rattle.ada_owners.specs.Places.{is_there}

-- The newest collection of an access type among all items.
home_append : (access : ℕ) (is js : List Item) (outer : Option Destination) → home_among access (is ++ js) outer ≡ home_among access is (home_among access js outer)
home_append access [] js outer = refl
home_append access (i ∷ is) js outer = ap (collection_in access i i.owned) (home_append access is js outer)

home_in : (access : ℕ) (ms : List Master) → home_of access ms ≡ home_among access (items_of ms) None
home_in access [] = refl
home_in access (m ∷ ms) = ap (home_among access m.items) (home_in access ms) ∙ sym (home_append access m.items (items_of ms) None)

-- The home of objects that are from a pool is a collection.
collects_it : (owned : Owned) (access pool : ℕ) → Houses owned access (Some pool) → owned ≡ collection access (Some pool)
collects_it (declared x) access pool h = absurd h
collects_it (collection t own) access pool h = rw (h.0, h.1) refl
collects_it (record_object t) access pool h = let none = h.1 in absurd (cc none)
collects_it (storage_pool declaration number) access pool h = absurd h

collection_there : (n access pool : ℕ) (is : List Item) → HasItem n access (Some pool) is → (j : Item) × Contains is j × (type_collected j.owned ≡ Some access)
collection_there n access pool [] h = absurd h
collection_there n access pool (i ∷ is) (inl e) = (i, (zero, omega arith, refl), ap type_collected (collects_it i.owned access pool e.1))
collection_there n access pool (i ∷ is) (inr h) =
    let j = collection_there n access pool is h in
    (j.0, (suc j.1.0, omega (arith, j.1.1), j.1.2), j.2)

-- So a newer item is none of the type.
apart : (n access pool : ℕ) (i : Item) (is : List Item) → AllPairs CollectTwoTypes (i ∷ is) → HasItem n access (Some pool) is → type_collected i.owned ≢ Some access
apart n access pool i is lone h same =
    let j = collection_there n access pool is h in
    let two : CollectTwoTypes i j.0 = rw j.1.2 at (lone zero (suc j.1.0) j.0 (omega arith) (omega (arith, j.1.1))) in
    let differ : Differ (Some access) (Some access) = rw (same, j.2) at two in
    differ refl

passed : (access : ℕ) (i : Item) (owned : Owned) (outer : Option Destination) → type_collected owned ≢ Some access → collection_in access i owned outer ≡ outer
passed access i (declared x) outer other = refl
passed access i (collection t own) outer other = go (access == t) (λ same. other (ap Some (sym (eqb-true access t same))))
  where
    go : (b : Bool) → (b ≡ true → ⊥) → (if b then destination i.number own else outer) ≡ outer
    go true none = absurd (none refl)
    go false none = refl
passed access i (record_object t) outer other = refl
passed access i (storage_pool declaration number) outer other = refl

newest : (access pool : ℕ) (i : Item) (owned : Owned) (outer : Option Destination) → owned ≡ collection access (Some pool) → pool_freed_to (collection_in access i owned outer) ≡ pool
newest access pool i owned outer is = rw is (rw (eq-eqb access access refl) refl)

among : (n access pool : ℕ) (is : List Item) → AllPairs CollectTwoTypes is → HasItem n access (Some pool) is → pool_freed_to (home_among access is None) ≡ pool
among n access pool [] lone h = absurd h
among n access pool (i ∷ is) lone (inl e) = newest access pool i i.owned (home_among access is None) (collects_it i.owned access pool e.1)
among n access pool (i ∷ is) lone (inr h) =
    ap pool_freed_to (passed access i i.owned (home_among access is None) (apart n access pool i is lone h))
    ∙ among n access pool is (λ j k d lt short. lone (suc j) (suc k) d (omega (arith, lt)) (omega (arith, short))) h

-- One pool is the same one.
pub same_one : (p q : Option ℕ) → p ≡ q → same_pool p q ≡ true
same_one None None e = refl
same_one None (Some m) e = absurd (cc e)
same_one (Some n) None e = absurd (cc e)
same_one (Some n) (Some m) e = eq-eqb n m (cc e)

-- An object of an access type is from some pool.
abbrev pub Pooled : List TypeForm → List Object → Type 0
Pooled types heap = (o : Id) (object : Object) → object_at heap o ≡ Some object → is_access types object.cell.access ≡ true → (pool : ℕ) × (object.cell.home.pool ≡ Some pool)

-- An object that is under way, or has gone with its collection, is of no type of which objects may be freed next.
abbrev pub NoneIsUnder : (may : ℕ → Bool) → (under : List Id) → List Object → Type 0
NoneIsUnder may under heap = (o : Id) (x : Object) → IsUnder under o ⊎ HasDeparted heap o x → object_at heap o ≡ Some x → may x.cell.access ≡ false

-- Objects of access types are from pools, and no access type has two open collections; and those of the types of which objects may be freed next, which are in
-- their collections and not owned outside, have the values of all their parts. None of these types is that of an object under way.
pub record HaveHomes (may : ℕ → Bool) (types : List TypeForm) (outer : Outsiders) (heap : List Object) (masters : List Master) : Type 0 where
  pub pooled : Pooled types heap
  pub lone : AllPairs CollectTwoTypes (items_of masters)
  pub stand : AllStand may types outer heap
  pub aside : NoneIsUnder may outer.under heap

-- So one of these that is there and not owned outside is in its collection, and has the values of all its parts.
pub stands_there : {may : ℕ → Bool} {types : List TypeForm} {outer : Outsiders} {heap : List Object} {masters : List Master} (o : Id) (x : Object) → HaveHomes may types outer heap masters → Stored outer.under heap masters → object_at heap o ≡ Some x → is_there x.stage ≡ true → is_access types x.cell.access ≡ true → may x.cell.access ≡ true → (IsOwnedOutside outer o → ⊥) → (x.listed ≡ true) × (all_alive x.cell.parts ≡ true)
stands_there {outer = outer} o x homes stored found there is freely inside =
    let listed = by ((stored.sane o x found).out_listed (out x.out refl)) in
    (listed, homes.stand o x found listed is freely inside)
  where
    out : (b : Bool) → x.out ≡ b → x.out ≡ true
    out true e = e
    out false e = let other = homes.aside o x (inr (record { found = found; there = there; back = e })) found in absurd (cc (freely, other))

    by : (x.listed ≡ true) ⊎ IsUnder outer.under o → x.listed ≡ true
    by (inl listed) = listed
    by (inr one) = let other = homes.aside o x (inl one) found in absurd (cc (freely, other))

-- What is freed by the instance for its own access type goes back to its own pool.
pub freed_home : {may : ℕ → Bool} {outer : Outsiders} {types : List TypeForm} {heap : List Object} {masters : List Master} (access : ℕ) (o : Id) (x : Object) → HaveHomes may types outer heap masters → Stored outer.under heap masters → object_at heap o ≡ Some x → x.out ≡ true → is_access types x.cell.access ≡ true → x.cell.access ≡ access → Some (pool_freed_to (home_of access masters)) ≡ x.cell.home.pool
freed_home {masters = masters} access o x homes stored found out is own =
    let from = homes.pooled o x found is in
    let housed : HasItem x.cell.home.item access (Some from.0) (items_of masters) = rw (own, from.1) at ((stored.sane o x found).housed out) in
    ap Some (ap pool_freed_to (home_in access masters) ∙ among x.cell.home.item access from.0 (items_of masters) homes.lone housed) ∙ sym from.1
