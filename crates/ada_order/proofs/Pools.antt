-- Pools: a collection has the pool of its access type, which was created before it; and a pool's number says how many exist that are no newer.

use Rattle.std.proofs.Common.{◌≡◌, ◌≢◌, ℕ, zero, get_or, suc, ◌+◌, ◌<◌, Bool, true, false, ◌==◌, if◌then◌else◌, List, [], ◌∷◌, ◌++◌, length, refl, sym, ap, ◌∙◌, arith}
use Rattle.std.specs.Prelude.{Option, Some, None, IfSome, Contains}
use Rattle.std.specs.List.{All, AllPairs}
use Rattle.std.proofs.lemmas.Bool.{eq-eqb}
use Rattle.std.proofs.lemmas.List.Elements.{All-nil, All-cons}
use Rattle.std.proofs.lemmas.List.Kept.{AllPairs-cons}
use Rattle.ada_program.specs.declared.program.TypeDefinition.{TypeDefinition}
use Rattle.ada_program.specs.Typed.{pool_named}
use Rattle.ada_meaning.specs.declared.state.Value.{Value}
use Rattle.ada_meaning.specs.Event.{Request, New, Gone, Allocate, Open, GiveBack, Close}
use Rattle.ada_meaning.specs.State.{Owned, declared, collection, record_object, storage_pool, Item, Master, count_by, count_among, pools_in, pool_at, pool_among, pool_of, pool_for}
use Rattle.ada_meaning.specs.Step.{owning, shorter}
use Rattle.ada_meaning.specs.Law.{Differ, items_of, pool_owned, OwnTwoPools, IsDeclaredPool}
use Rattle.ada_order.specs.Masters.{IsPoolOf, HasItsPool, HaveTheirPools, TakesItsPool, TakeTheirPools, PoolThere, and_pool, pools_among, IsTold}

-- What the innermost of these masters may own next: a collection, with the pool that its access type has here; or a pool, with the next number.
abbrev pub IsDue : List TypeDefinition → List Master → Owned → Type 0
IsDue types ms (declared x) = Unit {0}
IsDue types ms (collection access pool) = pool ≡ pool_for (pool_named types access) ms
IsDue types ms (record_object t) = Unit {0}
IsDue types ms (storage_pool declaration number) = number ≡ pools_in ms + 1

-- A request tells of no pool that begins or is gone.
abbrev pub NoPoolTold : Option (Request Value) → Type 0
NoPoolTold (Some (New number declaration)) = ⊥
NoPoolTold (Some (Gone number)) = ⊥
NoPoolTold told = Unit {0}

-- Where a pool is owned from now on, that is told.
abbrev pub IsBegun : Owned → Option (Request Value) → Type 0
IsBegun (storage_pool declaration number) told = told ≡ Some (New number declaration)
IsBegun what told = NoPoolTold told

-- Where a pool is owned no more, that is told.
abbrev pub IsGone : Owned → Option (Request Value) → Type 0
IsGone (storage_pool declaration number) told = told ≡ Some (Gone number)
IsGone what told = NoPoolTold told

-- So it is of the newest of these items, and of that of the innermost master.
abbrev pub FirstIsGone : List Item → Option (Request Value) → Type 0
FirstIsGone [] told = NoPoolTold told
FirstIsGone (i ∷ is) told = IsGone i.owned told

abbrev pub NewestIsGone : List Master → Option (Request Value) → Type 0
NewestIsGone [] told = NoPoolTold told
NewestIsGone (m ∷ ms) told = FirstIsGone m.items told

-- The number of a pool is one more than how many are older.
abbrev pub IsNumbered : (older : List Item) → Owned → Type 0
IsNumbered older (declared x) = Unit {0}
IsNumbered older (collection access pool) = Unit {0}
IsNumbered older (record_object t) = Unit {0}
IsNumbered older (storage_pool declaration number) = number ≡ count_among older 0 + 1

-- So it is of each pool among these items, newest first.
abbrev pub AreNumbered : List Item → Type 0
AreNumbered [] = Unit {0}
AreNumbered (i ∷ is) = IsNumbered is i.owned × AreNumbered is

-- What each state keeps of pools.
abbrev pub PoolsFit : List TypeDefinition → List Item → Type 0
PoolsFit types is = HaveTheirPools types is × TakeTheirPools types is × AreNumbered is

-- Pools that are counted, and looked for, over all items.
count_append : (is js : List Item) → count_among (is ++ js) 0 ≡ count_among is (count_among js 0)
count_append [] js = refl
count_append (i ∷ is) js = ap (count_by i.owned) (count_append is js)

count_is : (ms : List Master) → pools_in ms ≡ count_among (items_of ms) 0
count_is [] = refl
count_is (m ∷ ms) = ap (count_among m.items) (count_is ms) ∙ sym (count_append m.items (items_of ms))

among_append : (p : ℕ) (is js : List Item) → pool_among p (is ++ js) None ≡ pool_among p is (pool_among p js None)
among_append p [] js = refl
among_append p (i ∷ is) js = ap (pool_at p i.owned) (among_append p is js)

pool_is : (p : ℕ) (ms : List Master) → pool_of p ms ≡ pool_among p (items_of ms) None
pool_is p [] = refl
pool_is p (m ∷ ms) = ap (pool_among p m.items) (pool_is p ms) ∙ sym (among_append p m.items (items_of ms))

-- What is found is a pool of the declaration among the items.
contains_later : (i : Item) (is : List Item) (j : Item) → Contains is j → Contains (i ∷ is) j
contains_later i is j c = let lt = c.1 in (suc c.0, omega (arith, lt), c.2)

later : (p : ℕ) (i : Item) (is : List Item) (pool : Option ℕ) → IfSome pool (IsPoolOf is (Some p)) → IfSome pool (IsPoolOf (i ∷ is) (Some p))
later p i is None f = tt
later p i is (Some pool) f = (f.0, contains_later i is f.0 f.1, f.2)

either :
    (p : ℕ) (i : Item) (is : List Item) (declaration number : ℕ) (own : Bool) (outer : Option ℕ) → i.owned ≡ storage_pool declaration number
    → (p == declaration) ≡ own → IfSome outer (IsPoolOf is (Some p)) → IfSome (if own then Some number else outer) (IsPoolOf (i ∷ is) (Some p))
either p i is declaration number true outer owns same f =
    let one : declaration ≡ p = grind (arith, same) in
    (i, (0, omega arith, refl), owns ∙ ap (λ (d : ℕ). storage_pool d number) one)
either p i is declaration number false outer owns same f = later p i is outer f

newest : (p : ℕ) (i : Item) (is : List Item) (what : Owned) (outer : Option ℕ) → i.owned ≡ what → IfSome outer (IsPoolOf is (Some p)) → IfSome (pool_at p what outer) (IsPoolOf (i ∷ is) (Some p))
newest p i is (declared x) outer owns f = later p i is outer f
newest p i is (collection access pool) outer owns f = later p i is outer f
newest p i is (record_object t) outer owns f = later p i is outer f
newest p i is (storage_pool declaration number) outer owns f = either p i is declaration number (p == declaration) outer owns refl f

found : (p : ℕ) (is : List Item) → IfSome (pool_among p is None) (IsPoolOf is (Some p))
found p [] = tt
found p (i ∷ is) = newest p i is i.owned (pool_among p is None) refl (found p is)

has_pool : (declaration : Option ℕ) (ms : List Master) → IfSome (pool_for declaration ms) (IsPoolOf (items_of ms) declaration)
has_pool None ms = refl
has_pool (Some p) ms = rw (pool_is p ms) (found p (items_of ms))

-- Where there is a pool of the declaration, one is found.
found_behind : (p : ℕ) (what : Owned) (outer : Option ℕ) → outer ≢ None → pool_at p what outer ≢ None
found_behind p (declared x) outer some = some
found_behind p (collection access pool) outer some = some
found_behind p (record_object t) outer some = some
found_behind p (storage_pool declaration number) outer some = either_some (p == declaration)
  where
    either_some : (own : Bool) → (if own then Some number else outer) ≢ None
    either_some true none = cc none
    either_some false none = some none

found_first : (p pool : ℕ) (what : Owned) (outer : Option ℕ) → what ≡ storage_pool p pool → pool_at p what outer ≢ None
found_first p pool what outer owns = rw (owns, eq-eqb p p refl) (λ none. cc none)

found_there : (p pool : ℕ) (is : List Item) (i : Item) (k : ℕ) → k < length is → get_or is k i ≡ i → i.owned ≡ storage_pool p pool → pool_among p is None ≢ None
found_there p pool [] i k lt same owns = absurd (omega (arith, lt))
found_there p pool (j ∷ is) i zero lt same owns = found_first p pool j.owned (pool_among p is None) (ap (λ (x : Item). x.owned) same ∙ owns)
found_there p pool (j ∷ is) i (suc k) lt same owns = found_behind p j.owned (pool_among p is None) (found_there p pool is i k (omega (arith, lt)) same owns)

none_missed : (declaration : Option ℕ) (ms : List Master) → None ≡ pool_for declaration ms → (pool : ℕ) → IsPoolOf (items_of ms) declaration pool → ⊥
none_missed None ms none pool is = cc none
none_missed (Some p) ms none pool is = found_there p pool (items_of ms) is.0 is.1.0 is.1.1 is.1.2 is.2 (sym (none ∙ pool_is p ms))

-- Items that are owned, and items that are gone.
has_its_pool : (types : List TypeDefinition) (what : Owned) (ms : List Master) → IsDue types ms what → HasItsPool types (items_of ms) what
has_its_pool types (declared x) ms due = tt
has_its_pool types (collection access pool) ms due = rw due (has_pool (pool_named types access) ms)
has_its_pool types (record_object t) ms due = tt
has_its_pool types (storage_pool declaration number) ms due = tt

takes_its_pool : (types : List TypeDefinition) (what : Owned) (ms : List Master) → IsDue types ms what → TakesItsPool types (items_of ms) what
takes_its_pool types (declared x) ms due = tt
takes_its_pool types (collection access None) ms due = none_missed (pool_named types access) ms due
takes_its_pool types (collection access (Some pool)) ms due = tt
takes_its_pool types (record_object t) ms due = tt
takes_its_pool types (storage_pool declaration number) ms due = tt

numbered : (types : List TypeDefinition) (what : Owned) (ms : List Master) → IsDue types ms what → IsNumbered (items_of ms) what
numbered types (declared x) ms due = tt
numbered types (collection access pool) ms due = tt
numbered types (record_object t) ms due = tt
numbered types (storage_pool declaration number) ms due = due ∙ ap (λ (n : ℕ). n + 1) (count_is ms)

pub fit_owning :
    (types : List TypeDefinition) (number : ℕ) (what : Owned) (ms : List Master) → IsDue types ms what → PoolsFit types (items_of ms)
    → PoolsFit types (items_of (owning (record { number = number; owned = what }) ms))
fit_owning types number what [] due f = f
fit_owning types number what (m ∷ ms) due f = ((has_its_pool types what (m ∷ ms) due, f.0), (takes_its_pool types what (m ∷ ms) due, f.1), (numbered types what (m ∷ ms) due, f.2))

fit_without : (types : List TypeDefinition) (is : List Item) (n : ℕ) (ms : List Master) → PoolsFit types (items_of (record { number = n; items = is } ∷ ms)) → PoolsFit types (items_of (shorter (record { number = n; items = is } ∷ ms)))
fit_without types [] n ms f = f
fit_without types (i ∷ is) n ms f = (f.0.1, f.1.1, f.2.1)

pub fit_shorter : (types : List TypeDefinition) (ms : List Master) → PoolsFit types (items_of ms) → PoolsFit types (items_of (shorter ms))
fit_shorter types [] f = f
fit_shorter types (m ∷ ms) f = fit_without types m.items m.number ms f

-- What the laws say of numbers: no older pool has a number that is as great.
differs : (n : ℕ) (is : List Item) (what : Owned) → count_by what (count_among is 0) < n → IsNumbered is what → Differ (Some n) (pool_owned what)
differs n is (declared x) lt f = tt
differs n is (collection access pool) lt f = tt
differs n is (record_object t) lt f = tt
differs n is (storage_pool declaration number) lt f = λ same. omega (arith, lt, f, same)

fewer : (n count : ℕ) (what : Owned) → count_by what count < n → count < n
fewer n count (declared x) lt = lt
fewer n count (collection access pool) lt = lt
fewer n count (record_object t) lt = lt
fewer n count (storage_pool declaration number) lt = omega (arith, lt)

differ_from : (n : ℕ) (is : List Item) → count_among is 0 < n → AreNumbered is → All (λ (j : Item). Differ (Some n) (pool_owned j.owned)) is
differ_from n [] lt f = All-nil (λ (j : Item). Differ (Some n) (pool_owned j.owned))
differ_from n (i ∷ is) lt f =
    All-cons (λ (j : Item). Differ (Some n) (pool_owned j.owned)) i is (differs n is i.owned lt f.0)
    (differ_from n is (fewer n (count_among is 0) i.owned lt) f.1)

differ_by : (what : Owned) (is : List Item) → IsNumbered is what → AreNumbered is → All (λ (j : Item). Differ (pool_owned what) (pool_owned j.owned)) is
differ_by (declared x) is own f = λ k d lt. tt
differ_by (collection access pool) is own f = λ k d lt. tt
differ_by (record_object t) is own f = λ k d lt. tt
differ_by (storage_pool declaration number) is own f = differ_from number is (omega (arith, own)) f

pub all_differ : (is : List Item) → AreNumbered is → AllPairs OwnTwoPools is
all_differ [] f = λ i j d lt short. absurd (omega (arith, short))
all_differ (i ∷ is) f = AllPairs-cons OwnTwoPools i is (differ_by i.owned is f.0 f.1) (all_differ is f.1)

is_declared : (what : Owned) (is : List Item) → IsNumbered is what → IfSome (pool_owned what) (λ pool. 0 < pool)
is_declared (declared x) is f = tt
is_declared (collection access pool) is f = tt
is_declared (record_object t) is f = tt
is_declared (storage_pool declaration number) is f = omega (arith, f)

pub all_declared : (is : List Item) → AreNumbered is → All IsDeclaredPool is
all_declared [] f = All-nil IsDeclaredPool
all_declared (i ∷ is) f = All-cons IsDeclaredPool i is (is_declared i.owned is f.0) (all_declared is f.1)

-- What is told of pools.
length_is : (is : List Item) → length (pools_among is) ≡ count_among is 0
length_is [] = refl
length_is (i ∷ is) = length_and i.owned is (length_is is)
  where
    length_and : (what : Owned) (is : List Item) → length (pools_among is) ≡ count_among is 0 → length (and_pool what (pools_among is)) ≡ count_by what (count_among is 0)
    length_and (declared x) is h = h
    length_and (collection access pool) is h = h
    length_and (record_object t) is h = h
    length_and (storage_pool declaration number) is h = omega (arith, h)

-- What one step tells, or none.
abbrev pub Tells : (before : List PoolThere) → Option (Request Value) → (after : List PoolThere) → Type 0
Tells before None after = after ≡ before
Tells before (Some request) after = IsTold before request after

-- Masters whose pools are as before, though another one may be entered.
pub none_told : (told : Option (Request Value)) (before after : List PoolThere) → NoPoolTold told → after ≡ before → Tells before told after
none_told None before after none same = same
none_told (Some (Allocate pool owner words object)) before after none same = same
none_told (Some (Open pool owner)) before after none same = same
none_told (Some (GiveBack object)) before after none same = same
none_told (Some (Close pool owner)) before after none same = same
none_told (Some (New number declaration)) before after none same = absurd none
none_told (Some (Gone number)) before after none same = absurd none

-- A master owns one item more.
tells_begun :
    (types : List TypeDefinition) (what : Owned) (ms : List Master) (told : Option (Request Value)) → IsDue types ms what → IsBegun what told
    → Tells (pools_among (items_of ms)) told (and_pool what (pools_among (items_of ms)))
tells_begun types (declared x) ms told due begun = none_told told _ _ begun refl
tells_begun types (collection access pool) ms told due begun = none_told told _ _ begun refl
tells_begun types (record_object t) ms told due begun = none_told told _ _ begun refl
tells_begun types (storage_pool declaration number) ms told due begun =
    rw begun (due ∙ ap (λ (n : ℕ). n + 1) (count_is ms ∙ sym (length_is (items_of ms))), refl)

pub tells_owning :
    (types : List TypeDefinition) (number : ℕ) (what : Owned) (ms : List Master) (told : Option (Request Value)) → ms ≢ [] → IsDue types ms what
    → IsBegun what told → Tells (pools_among (items_of ms)) told (pools_among (items_of (owning (record { number = number; owned = what }) ms)))
tells_owning types number what [] told some due begun = absurd (some refl)
tells_owning types number what (m ∷ ms) told some due begun = tells_begun types what (m ∷ ms) told due begun

-- The innermost master loses its newest item.
tells_gone : (what : Owned) (is : List Item) (told : Option (Request Value)) → IsGone what told → Tells (and_pool what (pools_among is)) told (pools_among is)
tells_gone (declared x) is told gone = none_told told _ _ gone refl
tells_gone (collection access pool) is told gone = none_told told _ _ gone refl
tells_gone (record_object t) is told gone = none_told told _ _ gone refl
tells_gone (storage_pool declaration number) is told gone = rw gone (declaration, refl)

tells_without :
    (is : List Item) (n : ℕ) (ms : List Master) (told : Option (Request Value)) → FirstIsGone is told
    → Tells (pools_among (items_of (record { number = n; items = is } ∷ ms))) told (pools_among (items_of (shorter (record { number = n; items = is } ∷ ms))))
tells_without [] n ms told gone = none_told told _ _ gone refl
tells_without (i ∷ is) n ms told gone = tells_gone i.owned (is ++ items_of ms) told gone

pub tells_shorter :
    (ms : List Master) (told : Option (Request Value)) → NewestIsGone ms told
    → Tells (pools_among (items_of ms)) told (pools_among (items_of (shorter ms)))
tells_shorter [] told gone = none_told told _ _ gone refl
tells_shorter (m ∷ ms) told gone = tells_without m.items m.number ms told gone
