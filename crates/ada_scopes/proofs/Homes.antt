-- Objects and their homes: whatever is in its collection has that collection among the items of masters.

use Rattle.std.proofs.Common.{◌≡◌, ℕ, zero, suc, ◌+◌, ◌≤◌, ◌==◌, Bool, true, false, if◌then◌else◌, List, [], ◌∷◌, ◌++◌, map, Option, Some, None, arith, refl, sym, ap, ◌∙◌, subst, ◌⊎◌, inl, inr}
use Rattle.std.proofs.lemmas.Bool.{eqb-true, eq-eqb}
use Rattle.std.specs.List.{slice_get, slice_set}
use Rattle.ada_program.specs.ProgramForm.{TypeForm}
use Rattle.ada_program.specs.WellFormed.{is_access}
use Rattle.ada_meaning.specs.declared.state.Id.{Id}
use Rattle.ada_meaning.specs.declared.state.Value.{Value}
use Rattle.ada_meaning.specs.declared.state.Value.TheVariants.{Null, Names, Scalar, Part}
use Rattle.ada_meaning.specs.Heap.{Cell}
use Rattle.ada_meaning.specs.State.{Owned, declared, collection, record_object, storage_pool, type_housed, pool_housed, Item, Master, Destination, destination, collection_in, home_among, home_of}
use Rattle.ada_meaning.specs.Step.{owning, shorter}
use Rattle.ada_meaning.specs.Named.{Object, object_at, new_object, changed, on_object, is_member, members_from, members}
use Rattle.ada_meaning.specs.Law.{items_of}
use Rattle.ada_scopes.proofs.Counts.{one, times, opened_by, opened}

-- The item of this number, which houses objects of this type, is among these items.
abbrev pub HasItem : (n access : ℕ) → List Item → Type 0
HasItem n access [] = ⊥
HasItem n access (i ∷ is) = ((i.number ≡ n) × (type_housed i.owned ≡ Some access)) ⊎ HasItem n access is

pub has_split : (n access : ℕ) (is js : List Item) → HasItem n access (is ++ js) → HasItem n access is ⊎ HasItem n access js
has_split n access [] js h = inr h
has_split n access (i ∷ is) js (inl e) = inl (inl e)
has_split n access (i ∷ is) js (inr h) = elim (has_split n access is js h) [ inl g ↦ inl (inr g) | inr g ↦ inr g ]

-- Such an item is among these, and its objects are from this pool (13.11).
abbrev pub HasHome : (n access : ℕ) → (pool : Option ℕ) → List Item → Type 0
HasHome n access pool [] = ⊥
HasHome n access pool (i ∷ is) = ((i.number ≡ n) × (type_housed i.owned ≡ Some access) × (pool_housed i.owned ≡ pool)) ⊎ HasHome n access pool is

pub home_item : (n access : ℕ) (pool : Option ℕ) (is : List Item) → HasHome n access pool is → HasItem n access is
home_item n access pool [] h = h
home_item n access pool (i ∷ is) (inl e) = inl (e.0, e.1)
home_item n access pool (i ∷ is) (inr h) = inr (home_item n access pool is h)

home_after : (n access : ℕ) (pool : Option ℕ) (is js : List Item) → HasHome n access pool js → HasHome n access pool (is ++ js)
home_after n access pool [] js h = h
home_after n access pool (i ∷ is) js h = inr (home_after n access pool is js h)

home_owning : (n access : ℕ) (pool : Option ℕ) (item : Item) (ms : List Master) → HasHome n access pool (items_of ms) → HasHome n access pool (items_of (owning item ms))
home_owning n access pool item [] h = h
home_owning n access pool item (m ∷ ms) h = inr h

-- Such a collection is opened.
pub opened_here : (owned : Owned) (access : ℕ) (pool : Option ℕ) (us : List ℕ) → owned ≡ collection access pool → 1 ≤ times access (opened_by owned us)
opened_here owned access pool us is =
    let self : (access == access) ≡ true = eq-eqb access access refl in
    let once : one (access == access) ≡ 1 = ap one self in
    let here : 1 ≤ times access (opened_by (collection access pool) us) = omega (arith, once) in
    subst (λ (o : Owned). 1 ≤ times access (opened_by o us)) (sym is) here

pub opened_later : (owned : Owned) (access : ℕ) (us : List ℕ) → 1 ≤ times access us → 1 ≤ times access (opened_by owned us)
opened_later (declared x) access us le = le
opened_later (collection t pool) access us le = omega (arith, le)
opened_later (record_object t) access us le = le
opened_later (storage_pool declaration number) access us le = le

-- Collections are those of access types, and record objects are known by other types.
abbrev pub OwnedFits : List TypeForm → Owned → Type 0
OwnedFits types (declared x) = Unit {0}
OwnedFits types (collection access pool) = is_access types access ≡ true
OwnedFits types (record_object t) = is_access types t ≡ false
OwnedFits types (storage_pool declaration number) = Unit {0}

abbrev pub ItemsFit : List TypeForm → List Item → Type 0
ItemsFit types [] = Unit {0}
ItemsFit types (i ∷ is) = OwnedFits types i.owned × ItemsFit types is

pub fit_before : (types : List TypeForm) (is js : List Item) → ItemsFit types (is ++ js) → ItemsFit types is
fit_before types [] js h = tt
fit_before types (i ∷ is) js h = (h.0, fit_before types is js h.1)

pub fit_after : (types : List TypeForm) (is js : List Item) → ItemsFit types (is ++ js) → ItemsFit types js
fit_after types [] js h = h
fit_after types (i ∷ is) js h = fit_after types is js h.1

pub fit_owning : (types : List TypeForm) (item : Item) (ms : List Master) → OwnedFits types item.owned → ItemsFit types (items_of ms) → ItemsFit types (items_of (owning item ms))
fit_owning types item [] own h = h
fit_owning types item (m ∷ ms) own h = (own, h)

access_opened : (types : List TypeForm) (t u n : ℕ) (b : Bool) → (u == t) ≡ b → is_access types u ≡ true → (1 ≤ n → is_access types t ≡ true) → 1 ≤ one b + n → is_access types t ≡ true
access_opened types t u n true same is later le = subst (λ x. is_access types x ≡ true) (eqb-true u t same) is
access_opened types t u n false same is later le = later (omega (arith, le))

opened_fits_by : (types : List TypeForm) (t : ℕ) (owned : Owned) (us : List ℕ) → OwnedFits types owned → (1 ≤ times t us → is_access types t ≡ true) → 1 ≤ times t (opened_by owned us) → is_access types t ≡ true
opened_fits_by types t (declared x) us fits later le = later le
opened_fits_by types t (collection access pool) us fits later le = access_opened types t access (times t us) (access == t) refl fits later le
opened_fits_by types t (record_object u) us fits later le = later le
opened_fits_by types t (storage_pool declaration number) us fits later le = later le

pub opened_fits : (types : List TypeForm) (t : ℕ) (is : List Item) → ItemsFit types is → 1 ≤ times t (opened is) → is_access types t ≡ true
opened_fits types t [] fits le = absurd (omega (arith, le))
opened_fits types t (i ∷ is) fits le = opened_fits_by types t i.owned (opened is) fits.0 (λ more. opened_fits types t is fits.1 more) le

-- What houses objects of an access type is its collection.
housing_opened : (types : List TypeForm) (owned : Owned) (access : ℕ) (us : List ℕ) → OwnedFits types owned → is_access types access ≡ true → type_housed owned ≡ Some access → 1 ≤ times access (opened_by owned us)
housing_opened types (declared x) access us fits is same = absurd (cc)
housing_opened types (collection t pool) access us fits is same = let one_type : t ≡ access = cc in opened_here (collection t pool) access pool us (ap (λ (u : ℕ). collection u pool) one_type)
housing_opened types (record_object t) access us fits is same =
    let one_type : t ≡ access = cc in
    let never : true ≡ false = sym is ∙ ap (is_access types) (sym one_type) ∙ fits in
    absurd (cc)
housing_opened types (storage_pool declaration number) access us fits is same = absurd (cc)

pub has_opened : (types : List TypeForm) (n access : ℕ) (is : List Item) → ItemsFit types is → is_access types access ≡ true → HasItem n access is → 1 ≤ times access (opened is)
has_opened types n access [] fits known h = absurd h
has_opened types n access (i ∷ is) fits known (inl e) = housing_opened types i.owned access (opened is) fits.0 known e.1
has_opened types n access (i ∷ is) fits known (inr h) = opened_later i.owned access (opened is) (has_opened types n access is fits.1 known h)

-- The collection that an access type denotes is an item, and is of that type.
HasSome : ℕ → Option Destination → List Item → Type 0
HasSome access None is = Unit {0}
HasSome access (Some home) is = HasHome home.item access (Some home.pool) is

has_one : (access : ℕ) (b : Bool) (own : Option Destination) (is : List Item) (outer : Option Destination) → (b ≡ true → HasSome access own is) → HasSome access outer is → HasSome access (if b then own else outer) is
has_one access true own is outer h o = h refl
has_one access false own is outer h o = o

some_more : (access : ℕ) (i : Item) (is : List Item) (outer : Option Destination) → HasSome access outer is → HasSome access outer (i ∷ is)
unfolding HasSome
some_more access i is None h = h
some_more access i is (Some home) h = inr h

newest_has : (access : ℕ) (i : Item) (t : ℕ) (pool : Option ℕ) (is : List Item) → i.owned ≡ collection t pool → t ≡ access → HasSome access (destination i.number pool) (i ∷ is)
unfolding HasSome
newest_has access i t None is e same = tt
newest_has access i t (Some pool) is e same = inl (refl, ap type_housed e ∙ ap Some same, ap pool_housed e)

collection_has : (access : ℕ) (i : Item) (owned : Owned) → i.owned ≡ owned → (is : List Item) (outer : Option Destination) → HasSome access outer (i ∷ is) → HasSome access (collection_in access i owned outer) (i ∷ is)
collection_has access i (declared x) e is outer o = o
collection_has access i (record_object t) e is outer o = o
collection_has access i (storage_pool declaration number) e is outer o = o
collection_has access i (collection t pool) e is outer o =
    has_one access (access == t) (destination i.number pool) (i ∷ is) outer (λ same. newest_has access i t pool is e (sym (eqb-true access t same))) o

among_has : (access : ℕ) (is js : List Item) (outer : Option Destination) → HasSome access outer js → HasSome access (home_among access is outer) (is ++ js)
among_has access [] js outer o = o
among_has access (i ∷ is) js outer o = collection_has access i i.owned refl (is ++ js) (home_among access is outer) (some_more access i (is ++ js) (home_among access is outer) (among_has access is js outer o))

of_has : (access : ℕ) (ms : List Master) → HasSome access (home_of access ms) (items_of ms)
unfolding HasSome
of_has access [] = tt
of_has access (m ∷ ms) = among_has access m.items (items_of ms) (home_of access ms) (of_has access ms)

pub home_has : (access : ℕ) (home : Destination) (ms : List Master) → home_of access ms ≡ Some home → HasHome home.item access (Some home.pool) (items_of ms)
unfolding HasSome
home_has access home ms e = rw e at (of_has access ms)

-- The home of an object is the collection of its access type, or the record object that it is, and it is from the pool of that.
abbrev pub IsAtHome : List Item → Object → Type 0
IsAtHome is x = HasHome x.cell.home.item x.cell.access x.cell.home.pool is

-- So it is of each object that is in its collection.
abbrev pub Housed : List Object → List Item → Type 0
Housed heap is = (o : Id) (x : Object) → object_at heap o ≡ Some x → x.listed ≡ true → IsAtHome is x

pub housed_after : (heap : List Object) (is js : List Item) → Housed heap js → Housed heap (is ++ js)
housed_after heap is js h o x at listed = home_after x.cell.home.item x.cell.access x.cell.home.pool is js (h o x at listed)

pub housed_owning : (heap : List Object) (item : Item) (ms : List Master) → Housed heap (items_of ms) → Housed heap (items_of (owning item ms))
housed_owning heap item ms h o x at listed = home_owning x.cell.home.item x.cell.access x.cell.home.pool item ms (h o x at listed)

-- An object changes: it keeps its access type and its home, and joins no collection.
pub record KeepsHome (before after : Object) : Type 0 where
  pub home : after.cell.home ≡ before.cell.home
  pub access : after.cell.access ≡ before.cell.access
  pub listed : after.listed ≡ true → before.listed ≡ true

kept_home : (is : List Item) (x y : Object) → KeepsHome x y → IsAtHome is x → IsAtHome is y
kept_home is x y keeps h = rw (keeps.home, keeps.access) h

set_get : (xs : List Object) (i j : ℕ) (x y z : Object) → slice_get xs i ≡ Some x → slice_get (slice_set xs i y) j ≡ Some z → (slice_get xs j ≡ Some z) ⊎ ((slice_get xs j ≡ Some x) × (z ≡ y))
set_get [] i j x y z is at = absurd (cc)
set_get (a ∷ xs) zero zero x y z is at = inr (is, cc)
set_get (a ∷ xs) zero (suc j) x y z is at = inl at
set_get (a ∷ xs) (suc i) zero x y z is at = inl at
set_get (a ∷ xs) (suc i) (suc j) x y z is at = set_get xs i j x y z is at

housed_set : (heap : List Object) (is : List Item) (o : Id) (x y : Object) → object_at heap o ≡ Some x → KeepsHome x y → Housed heap is → Housed (slice_set heap o.0 y) is
housed_set heap is o x y at keeps h p z there listed = elim (set_get heap o.0 p.0 x y z at there) [ inl same ↦ h p z same listed | inr new ↦ other new.0 new.1 ]
  where
    other : object_at heap p ≡ Some x → z ≡ y → IsAtHome is z
    other before same =
        let own : y.listed ≡ true = ap (λ (w : Object). w.listed) (sym same) ∙ listed in
        subst (λ (w : Object). IsAtHome is w) (sym same) (kept_home is x y keeps (h p x before (keeps.listed own)))

housed_changed : (change : Object → Object) (at_o : Option Object) (heap : List Object) (o : Id) (is : List Item) → ((x : Object) → KeepsHome x (change x)) → object_at heap o ≡ at_o → Housed heap is → Housed (changed change at_o heap o) is
housed_changed change None heap o is keeps at h = h
housed_changed change (Some x) heap o is keeps at h = housed_set heap is o x (change x) at (keeps x) h

pub housed_on : (change : Object → Object) (heap : List Object) (v : Value) (is : List Item) → ((x : Object) → KeepsHome x (change x)) → Housed heap is → Housed (on_object change heap v) is
housed_on change heap Null is keeps h = h
housed_on change heap (Names o) is keeps h = housed_changed change (slice_get heap o.0) heap o is keeps refl h
housed_on change heap (Scalar v) is keeps h = h
housed_on change heap (Part o first) is keeps h = h

-- A new object.
more_get : (xs : List Object) (j : ℕ) (y z : Object) → slice_get (xs ++ y ∷ []) j ≡ Some z → (slice_get xs j ≡ Some z) ⊎ (z ≡ y)
more_get [] zero y z at = inr (cc)
more_get [] (suc j) y z at = absurd (cc)
more_get (x ∷ xs) zero y z at = inl at
more_get (x ∷ xs) (suc j) y z at = more_get xs j y z at

pub housed_new : (heap : List Object) (cell : Cell Value) (is : List Item) → HasHome cell.home.item cell.access cell.home.pool is → Housed heap is → Housed (heap ++ new_object cell ∷ []) is
housed_new heap cell is home h o x at listed = elim (more_get heap o.0 (new_object cell) x at) [ inl same ↦ h o x same listed | inr new ↦ subst (λ (w : Object). IsAtHome is w) (sym new) home ]

-- Where no member is left, no object is in the collection.
one_left : (item n : ℕ) (x : Object) → is_member item x ≡ true → (b : Bool) → is_member item x ≡ b → (os : List Id) → map Names (os ++ (if b then record { 0 = n } ∷ [] else [])) ≡ [] → ⊥
one_left item n x m true e [] none = cc none
one_left item n x m true e (o ∷ os) none = cc none
one_left item n x m false e os none = cc (m, e)

rest_left : (os ps : List Id) → map Names (os ++ ps) ≡ [] → map Names os ≡ []
rest_left [] ps none = refl
rest_left (o ∷ os) ps none = absurd (cc none)

none_from : (item n : ℕ) (xs : List Object) (k : ℕ) (x : Object) → map Names (members_from item n xs) ≡ [] → slice_get xs k ≡ Some x → is_member item x ≡ true → ⊥
none_from item n [] k x none is m = cc is
none_from item n (y ∷ xs) zero x none is m = let same : y ≡ x = cc is in one_left item n y (rw same m) (is_member item y) refl (members_from item (suc n) xs) none
none_from item n (y ∷ xs) (suc k) x none is m = none_from item (suc n) xs k x (rest_left (members_from item (suc n) xs) _ none) is m

none_is_left : (item : ℕ) (heap : List Object) (o : Id) (x : Object) → members heap item ≡ [] → object_at heap o ≡ Some x → x.listed ≡ true → x.cell.home.item ≡ item → ⊥
none_is_left item heap o x none is listed home = none_from item 0 heap o.0 x none is (rw (listed, home) (eq-eqb item item refl))

-- The newest item goes: it houses no objects, or none is left in it.
abbrev pub IsEmpty : List Object → Item → Owned → Type 0
IsEmpty heap item (declared x) = Unit {0}
IsEmpty heap item (collection access pool) = members heap item.number ≡ []
IsEmpty heap item (record_object t) = members heap item.number ≡ []
IsEmpty heap item (storage_pool declaration number) = Unit {0}

not_there : (heap : List Object) (item : Item) (owned : Owned) (o : Id) (x : Object) → item.owned ≡ owned → IsEmpty heap item owned → object_at heap o ≡ Some x → x.listed ≡ true → item.number ≡ x.cell.home.item → type_housed owned ≡ Some x.cell.access → ⊥
not_there heap item (declared y) o x is empty at listed home own = absurd (cc)
not_there heap item (collection access pool) o x is empty at listed home own = none_is_left item.number heap o x empty at listed (sym home)
not_there heap item (record_object t) o x is empty at listed home own = none_is_left item.number heap o x empty at listed (sym home)
not_there heap item (storage_pool declaration number) o x is empty at listed home own = absurd (cc)

housed_behind : (heap : List Object) (item : Item) (items js : List Item) → IsEmpty heap item item.owned → Housed heap ((item ∷ items) ++ js) → Housed heap (items ++ js)
housed_behind heap item items js empty h o x at listed = elim (h o x at listed) [ inl e ↦ absurd (not_there heap item item.owned o x refl empty at listed e.0 e.1) | inr g ↦ g ]

pub housed_shorter : (heap : List Object) (m : ℕ) (item : Item) (items : List Item) (ms : List Master) → IsEmpty heap item item.owned → Housed heap (items_of (record { number = m; items = item ∷ items } ∷ ms)) → Housed heap (items_of (shorter (record { number = m; items = item ∷ items } ∷ ms)))
housed_shorter heap m item items ms empty h = housed_behind heap item items (items_of ms) empty h
